-- Lines have one course where a task does one thing with each datagram, but for faults of devices and of memory.
use Rattle.std.proofs.Common.{◌≡◌, ◌∙◌, ℕ, ◌+◌, List, take, true, None, Ok, Err, inl, inr, sym, ap, subst}
use Rattle.std.specs.Option.{option_map_or}
use Rattle.text_lines.specs.declared.line_fault.LineFault.TheVariants.{Field, Memory}
use Rattle.text_lines.proofs.OneAnswer.{HasOneCourse}
use Rattle.event_codec.specs.Packet.{Contents, Packet}
use Rattle.event_codec.specs.Reading.{Reading, IsReading}
use Rattle.event_codec.specs.Refusal.{decode_refusal, message_length}
use Rattle.event_codec.specs.declared.refusal.DecodeRefusal.{DecodeRefusal}
use Rattle.event_codec.proofs.Same.{contents_same, front_length, decode_refusal-message}
use Rattle.recording_lines.specs.Timed.{LineParts, timed_in}
use Rattle.datagram_source.specs.declared.lines.LineForm.{LineForm}
use Rattle.datagram_source.specs.declared.lines.LineForm.TheVariants.{Timed, AtTaps}
use Rattle.datagram_source.specs.Datagram.{PlaceOf, Line, Tap, DatagramOf, IsTimedDatagram, IsDatagramLine}
use Rattle.datagram_source.specs.Rules.{DatagramRules, LinesRead, TakesLine, IsNotGiven, StopsAtLine, line_rules}

-- ---- octets say one thing
no_refusal : (octets : List ℕ) (m : Contents) (refusal : DecodeRefusal) → IsReading octets (Ok m) → IsReading octets (Err refusal) → ⊥
no_refusal octets m refusal h k =
    let none : decode_refusal octets ≡ None = decode_refusal-message m octets (message_length m) h.0 h.1 in
    absurd (cc (none, k))

pub one_reading : (octets : List ℕ) (one other : Reading) → IsReading octets one → IsReading octets other → other ≡ one
one_reading octets (Ok m) (Ok n) h k =
    let same : message_length n ≡ message_length m =
    sym (front_length n octets (message_length n) k.0 k.1) ∙ front_length m octets (message_length m) h.0 h.1 in
    ap Ok (contents_same n m (take (message_length m) octets) (subst (λ (l : ℕ). Packet n (take l octets)) same k.1) h.1)
one_reading octets (Ok m) (Err refusal) h k = absurd (no_refusal octets m refusal h k)
one_reading octets (Err refusal) (Ok n) h k = absurd (no_refusal octets n refusal k h)
one_reading octets (Err one) (Err other) h k = cc (h, k)

-- ---- a line tells one datagram
one_timed : (number : ℕ) (rest rest' : List ℕ) (place place' : PlaceOf) (one other : DatagramOf) → rest' ≡ rest → place' ≡ place
    → IsTimedDatagram number rest place one → IsTimedDatagram number rest' place' other → other ≡ one
one_timed number rest rest' place place' one other same there h k =
    let parts : k.parts ≡ h.parts = ap (λ o. option_map_or (λ (p : LineParts). p) o k.parts) (sym k.there ∙ ap timed_in same ∙ h.there) in
    let octets : other.octets ≡ one.octets = cc (parts, h.decoded, k.decoded) in
    let placed : other.place ≡ one.place = k.placed ∙ there ∙ sym h.placed in
    let numbered : other.number ≡ one.number = k.numbered ∙ sym h.numbered in
    let moment : other.time ≡ one.time = k.moment_is ∙ ap (λ p. p.time) parts ∙ sym h.moment_is in
    let written : other.written ≡ one.written = k.written ∙ ap (λ p. p.text) parts ∙ sym h.written in
    let said : other.said ≡ one.said =
    one_reading one.octets one.said other.said h.said (subst (λ (o : List ℕ). IsReading o other.said) octets k.said) in
    let own : other.own ≡ one.own = k.captured ∙ sym h.captured in
    λ i. record { place = placed i; number = numbered i; time = moment i; written = written i; octets = octets i; said = said i; own = own i }

pub one_datagram : (form : LineForm) (number : ℕ) (line : List ℕ) (one other : DatagramOf) → IsDatagramLine form number line one
    → IsDatagramLine form number line other → other ≡ one
one_datagram Timed number line one other h k = one_timed number line line Line Line one other (λ i. line) (λ i. Line) h k
one_datagram AtTaps number line one other h k =
    let tap : k.tap ≡ h.tap = ap (λ o. option_map_or (λ p. p.0) o k.tap) (sym k.split ∙ h.split) in
    let rest : k.rest ≡ h.rest = ap (λ o. option_map_or (λ p. p.1) o k.rest) (sym k.split ∙ h.split) in
    one_timed number h.rest k.rest (Tap h.tap) (Tap k.tap) one other rest (ap Tap tap) h.timed k.timed

-- ---- what a task does with a datagram of a line, and at the end, is one thing
pub record IsSole {S F : Type 0} (rules : DatagramRules S F) (Device : F → Type 0) : Type 0 where
  pub one_step : (number : ℕ) (line : List ℕ) (d : DatagramOf) (state one other : S) (text text' : List ℕ)
      → IsDatagramLine rules.line_form number line d → rules.Takes d state one text → rules.Takes d state other text'
      → (other ≡ one) × (text' ≡ text)
  pub no_fault : (number : ℕ) (line : List ℕ) (d : DatagramOf) (state later : S) (text text' : List ℕ) (fault : F) → (Device fault → ⊥)
      → IsDatagramLine rules.line_form number line d → rules.Takes d state later text → rules.Stops d state fault text' → ⊥
  pub one_fault : (number : ℕ) (line : List ℕ) (d : DatagramOf) (state : S) (text text' : List ℕ) (one other : F) → (Device one → ⊥)
      → (Device other → ⊥) → IsDatagramLine rules.line_form number line d → rules.Stops d state one text
      → rules.Stops d state other text' → (other ≡ one) × (text' ≡ text)
  pub one_end : (state one other : S) (text text' : List ℕ) → rules.Ends state one text → rules.Ends state other text' → text' ≡ text
  pub no_end : (state later : S) (text text' : List ℕ) (fault : F) → (Device fault → ⊥) → rules.Ends state later text
      → rules.StopsAtEnd state fault text' → ⊥
  pub one_fault_at_end : (state : S) (text text' : List ℕ) (one other : F) → (Device one → ⊥) → (Device other → ⊥)
      → rules.StopsAtEnd state one text → rules.StopsAtEnd state other text' → (other ≡ one) × (text' ≡ text)
  pub memory : Device (rules.fault_of Memory)
  pub writer : (fault : F) → rules.is_of_writer fault ≡ true → Device fault

-- ---- so lines are
module _ {S F : Type 0} (rules : DatagramRules S F) (Device : F → Type 0) (sole : IsSole rules Device) where
  one_step : (line : List ℕ) (r one other : LinesRead S) (text text' : List ℕ) → TakesLine rules line r one text
      → TakesLine rules line r other text' → (other ≡ one) × (text' ≡ text)
  one_step line r one other text text' (d, is, counted, takes) (d', is', counted', takes') =
      let same = one_datagram rules.line_form (r.count + 1) line d d' is is' in
      let again = subst (λ (it : DatagramOf). rules.Takes it r.state other.state text') same takes' in
      let (state, out) = sole.one_step (r.count + 1) line d r.state one.state other.state text text' is takes again in
      let count : other.count ≡ one.count = counted' ∙ sym counted in
      (λ i. record { count = count i; state = state i }, out)

  -- a line that isn't given, where no memory was refused, tells no datagram
  not_given : (line : List ℕ) (r : LinesRead S) (fault : F) → (Device fault → ⊥) → IsNotGiven rules line r fault
      → ((d : DatagramOf) → IsDatagramLine rules.line_form (r.count + 1) line d → ⊥) × (fault ≡ rules.fault_of Field)
  not_given line r fault sure (inl (none, is)) = (none, is)
  not_given line r fault sure (inr (d, told, many, is)) = absurd (sure (subst Device (sym is) sole.memory))

  no_fault : (line : List ℕ) (r later : LinesRead S) (text text' : List ℕ) (fault : F) → (Device fault → ⊥)
      → TakesLine rules line r later text → StopsAtLine rules line r fault text' → ⊥
  no_fault line r later text text' fault sure (d, is, counted, takes) (inl (unread, out)) = (not_given line r fault sure unread).0 d is
  no_fault line r later text text' fault sure (d, is, counted, takes) (inr (d', is', stops)) =
      let same = one_datagram rules.line_form (r.count + 1) line d d' is is' in
      sole.no_fault (r.count + 1) line d r.state later.state text text' fault sure is takes
      (subst (λ (it : DatagramOf). rules.Stops it r.state fault text') same stops)

  one_fault : (line : List ℕ) (r : LinesRead S) (text text' : List ℕ) (one other : F) → (Device one → ⊥) → (Device other → ⊥)
      → StopsAtLine rules line r one text → StopsAtLine rules line r other text' → (other ≡ one) × (text' ≡ text)
  one_fault line r text text' one other sure sure' (inl (unread, out)) (inl (unread', out')) =
      ((not_given line r other sure' unread').1 ∙ sym (not_given line r one sure unread).1, out' ∙ sym out)
  one_fault line r text text' one other sure sure' (inl (unread, out)) (inr (d, is, stops)) =
      absurd ((not_given line r one sure unread).0 d is)
  one_fault line r text text' one other sure sure' (inr (d, is, stops)) (inl (unread, out)) =
      absurd ((not_given line r other sure' unread).0 d is)
  one_fault line r text text' one other sure sure' (inr (d, is, stops)) (inr (d', is', stops')) =
      let same = one_datagram rules.line_form (r.count + 1) line d d' is is' in
      sole.one_fault (r.count + 1) line d r.state text text' one other sure sure' is stops
      (subst (λ (it : DatagramOf). rules.Stops it r.state other text') same stops')

  one_end : (lines : ℕ) (state : S) (text text' : List ℕ) (one other : ℕ) → (one ≡ lines) × ((later : S) × rules.Ends state later text)
      → (other ≡ lines) × ((later : S) × rules.Ends state later text') → (other ≡ one) × (text' ≡ text)
  one_end lines state text text' one other (counted, (later, ends)) (counted', (later', ends')) =
      (counted' ∙ sym counted, sole.one_end state later later' text text' ends ends')

  pub line_course : HasOneCourse (line_rules rules) Device
  line_course = record {
    one_step = one_step;
    no_fault = no_fault;
    one_fault = one_fault;
    one_end = λ lines r text text' one other h k. one_end lines r.state text text' one other h k;
    no_fault_at_end = λ lines r text text' answer fault sure ends stops. sole.no_end r.state ends.1.0 text text' fault sure ends.1.1 stops;
    one_fault_at_end = λ r text text' one other sure sure' h k. sole.one_fault_at_end r.state text text' one other sure sure' h k;
    writer = sole.writer;
  }
