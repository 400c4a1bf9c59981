-- Lines have one answer, but for faults of the writer and of memory.
use Rattle.std.proofs.Common.{◌≡◌, ◌∙◌, ℕ, List, ◌++◌, true, Option, Some, None, Result, Ok, Err, inl, inr, sym, ap, subst}
use Rattle.std.specs.Prelude.{⊤}
use Rattle.std.proofs.KnownBytes.{Appends-trans}
use Rattle.text_lines.specs.declared.fault.Cause.{Cause}
use Rattle.text_lines.specs.declared.fault.Cause.TheVariants as causes
use Rattle.text_lines.specs.declared.fault.ReadingFault.TheVariants.{Read, LineTooLong, TooManyLines}
use Rattle.text_lines.specs.declared.fault.Stopped.{Stopped}
use Rattle.text_lines.proofs.OneAnswer as sole
use Rattle.tap_choice.specs.declared.met.Met.{Met}
use Rattle.tap_follow.specs.declared.follower.Arrival.{Arrival}
use Rattle.tap_follow.specs.declared.follower.Arrival.TheVariants as arrivals
use Rattle.tap_follow.specs.Course.{Course, arrival_of, begun}
use Rattle.tap_follow.specs.declared.fault.FollowFault.{FollowFault}
use Rattle.tap_follow.specs.declared.fault.FollowFault.TheVariants.{Write, Field, Memory, ThirdTap}
use Rattle.datagram_source.specs.Datagram.{PlaceOf, Line, DatagramOf, IsTapDatagram}
use Rattle.datagram_source.specs.Rules.{nothing_read, line_rules}
use Rattle.datagram_source.proofs.OneCourse.{IsSole, line_course}
use Rattle.tap_follow.specs.Datagram.{IsTapAt, met_in}
use Rattle.tap_follow.specs.Fault.{is_write}
use Rattle.tap_follow.specs.Input.{head_text}
use Rattle.tap_follow.specs.OneAnswer.{IsOfInput, IsSure, LinesHaveOneAnswer}
use Rattle.tap_follow.specs.Rules.{Changes, TakesAt, TakesDatagram, StopsAtDatagram, StopsAtEnd, follow_rules}

-- ---- a datagram of a line does one thing
-- its tap is the one that the line names
tap_named : (number : ℕ) (line : List ℕ) (d : DatagramOf) (tap : List ℕ) (is : IsTapDatagram number line d) → IsTapAt d.place tap
    → tap ≡ is.tap
tap_named number line d tap is at = subst (λ (p : PlaceOf). IsTapAt p tap) is.timed.placed at

one_tap : (number : ℕ) (line : List ℕ) (d : DatagramOf) (tap tap' : List ℕ) → IsTapDatagram number line d → IsTapAt d.place tap
    → IsTapAt d.place tap' → tap' ≡ tap
one_tap number line d tap tap' is at at' = tap_named number line d tap' is at' ∙ sym (tap_named number line d tap is at)

one_change : (m : Option Met) (c one other : Course) (text text' : List ℕ) → Changes m c one text → Changes m c other text'
    → (other ≡ one) × (text' ≡ text)
one_change None c one other text text' h k = (k.0 ∙ sym h.0, k.1 ∙ sym h.1)
one_change (Some m) c one other text text' h k = (k.0 ∙ sym h.0, k.1 ∙ sym h.1)

one_taking : (a : Arrival) (tap : List ℕ) (d : DatagramOf) (c one other : Course) (text text' : List ℕ) → TakesAt a tap d c one text
    → TakesAt a tap d c other text' → (other ≡ one) × (text' ≡ text)
one_taking (arrivals.At side) tap d c one other text text' h k = one_change (met_in side d) _ one other text text' h k
one_taking arrivals.Elsewhere tap d c one other text text' h k = (k.0 ∙ sym h.0, k.1 ∙ sym h.1)
one_taking arrivals.Third tap d c one other text text' h k = absurd h

-- a datagram of a line has a tap
has_tap : (number : ℕ) (line : List ℕ) (d : DatagramOf) → IsTapDatagram number line d → d.place ≡ Line → ⊥
has_tap number line d is none = cc (none, is.timed.placed)

one_taken : (number : ℕ) (line : List ℕ) (d : DatagramOf) (c one other : Course) (text text' : List ℕ) → IsTapDatagram number line d
    → TakesDatagram d c one text → TakesDatagram d c other text' → (other ≡ one) × (text' ≡ text)
one_taken number line d c one other text text' is (inl (tap, at, takes)) (inl (tap', at', takes')) =
    let same = one_tap number line d tap tap' is at at' in
    one_taking (arrival_of c tap) tap d c one other text text' takes
    (subst (λ (t : List ℕ). TakesAt (arrival_of c t) t d c other text') same takes')
one_taken number line d c one other text text' is (inl takes) (inr none) = absurd (has_tap number line d is none.0)
one_taken number line d c one other text text' is (inr none) takes = absurd (has_tap number line d is none.0)

no_third : (number : ℕ) (line : List ℕ) (d : DatagramOf) (c later : Course) (text tap : List ℕ) → IsTapDatagram number line d
    → TakesDatagram d c later text → IsTapAt d.place tap → arrival_of c tap ≡ arrivals.Third → ⊥
no_third number line d c later text tap is (inl (tap', at', takes)) at third =
    let same = one_tap number line d tap tap' is at at' in
    subst (λ (a : Arrival). TakesAt a tap d c later text) third
    (subst (λ (t : List ℕ). TakesAt (arrival_of c t) t d c later text) same takes)
no_third number line d c later text tap is (inr none) at third = absurd (has_tap number line d is none.0)

-- ---- a datagram of a line, and the end, stop at one thing, but for faults of devices and of memory
abbrev IsDevice : FollowFault → Type 0
IsDevice Write = ⊤
IsDevice Field = ⊥
IsDevice Memory = ⊤
IsDevice (ThirdTap name) = ⊥

no_stop : (number : ℕ) (line : List ℕ) (d : DatagramOf) (c later : Course) (text text' : List ℕ) (fault : FollowFault)
    → (IsDevice fault → ⊥) → IsTapDatagram number line d → TakesDatagram d c later text → StopsAtDatagram fault d c text' → ⊥
no_stop number line d c later text text' Write sure is takes stops = sure tt
no_stop number line d c later text text' Memory sure is takes stops = sure tt
no_stop number line d c later text text' Field sure is takes stops = stops
no_stop number line d c later text text' (ThirdTap name) sure is takes (none, at, third) =
    no_third number line d c later text name is takes at third

one_stop : (number : ℕ) (line : List ℕ) (d : DatagramOf) (c : Course) (text text' : List ℕ) (one other : FollowFault) → (IsDevice one → ⊥)
    → (IsDevice other → ⊥) → IsTapDatagram number line d → StopsAtDatagram one d c text → StopsAtDatagram other d c text'
    → (other ≡ one) × (text' ≡ text)
one_stop number line d c text text' Write other sure sure' is h k = absurd (sure tt)
one_stop number line d c text text' Memory other sure sure' is h k = absurd (sure tt)
one_stop number line d c text text' Field other sure sure' is h k = absurd h
one_stop number line d c text text' (ThirdTap name) Write sure sure' is h k = absurd (sure' tt)
one_stop number line d c text text' (ThirdTap name) Memory sure sure' is h k = absurd (sure' tt)
one_stop number line d c text text' (ThirdTap name) Field sure sure' is h k = absurd k
one_stop number line d c text text' (ThirdTap name) (ThirdTap name') sure sure' is (none, at, third) (none', at', third') =
    (ap ThirdTap (one_tap number line d name name' is at at'), none' ∙ sym none)

no_end : (c : Course) (fault : FollowFault) (text : List ℕ) → (IsDevice fault → ⊥) → StopsAtEnd c fault text → ⊥
no_end c Write text sure stops = sure tt
no_end c Memory text sure stops = sure tt
no_end c Field text sure stops = stops
no_end c (ThirdTap name) text sure stops = stops

of_writer : (fault : FollowFault) → is_write fault ≡ true → IsDevice fault
of_writer Write is = tt
of_writer Field is = absurd cc
of_writer Memory is = absurd cc
of_writer (ThirdTap name) is = absurd cc

follow_sole : IsSole follow_rules IsDevice
follow_sole = record {
  one_step = one_taken;
  no_fault = no_stop;
  one_fault = one_stop;
  one_end = λ c one other text text' h k. k.1 ∙ sym h.1;
  no_end = λ c later text text' fault sure ends stops. no_end c fault text' sure stops;
  one_fault_at_end = λ c text text' one other sure sure' h k. absurd (no_end c one text sure h);
  memory = tt;
  writer = of_writer;
}

-- ---- answers
sure_cause : (what : Cause FollowFault) → IsOfInput what → sole.IsOfDevice IsDevice what → ⊥
sure_cause (causes.Reading Read) sure device = sure
sure_cause (causes.Reading LineTooLong) sure device = device
sure_cause (causes.Reading TooManyLines) sure device = device
sure_cause (causes.Task Write) sure device = sure
sure_cause (causes.Task Field) sure device = device
sure_cause (causes.Task Memory) sure device = sure
sure_cause (causes.Task (ThirdTap name)) sure device = device

is_sure : (answer : Result ℕ (Stopped (Cause FollowFault))) → IsSure answer → sole.IsSure IsDevice answer
is_sure (Ok answer) sure = tt
is_sure (Err stop) sure = sure_cause stop.what sure

pub lines_one : LinesHaveOneAnswer
lines_one form w octets left before after left' before' after' answer answer' (headed, head, says) (headed', head', says') sure sure' =
    let course = line_course follow_rules IsDevice follow_sole in
    let same = sole.answers_one (line_rules follow_rules) (nothing_read (begun form w)) IsDevice course octets left headed after left' headed' after'
    answer answer' says says' (is_sure answer sure) (is_sure answer' sure') in
    let (text, out, out') = same.2 in (
      same.0,
      same.1,
      (
        head_text form ++ text,
        Appends-trans before headed after (head_text form) text head out,
        Appends-trans before' headed' after' (head_text form) text head' out',
      ),
    )
