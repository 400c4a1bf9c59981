-- A datagram is taken as the rules have it, by what came of its message.
use Rattle.std.proofs.Common.{◌≡◌, ◌∙◌, ℕ, Bool, true, false, List, [], ◌++◌, Option, Some, None, Result, Ok, Err, inl, refl, sym, ap, subst}
use Rattle.std.specs.Prelude.{◌≢◌, MatchResult, is_none, if◌then◌else◌}
use Rattle.std.specs.Io.KnownBytes.{Appends}
use Rattle.std.proofs.KnownBytes.{Appends-nil}
use Rattle.std.specs.Result.{result_ok}
use Rattle.text_lines.specs.Task.{WentOut}
use Rattle.event_codec.specs.declared.message.Message.{Message}
use Rattle.event_codec.specs.declared.refusal.DecodeRefusal.{DecodeRefusal}
use Rattle.datagram_source.specs.Said.{reading_of}
use Rattle.datagram_source.specs.Datagram.{DatagramOf}
use Rattle.tap_choice.specs.declared.met.Met.{Met}
use Rattle.tap_choice.specs.declared.met.Side.{Side}
use Rattle.tap_choice.specs.declared.met.Side.TheVariants as taps
use Rattle.tap_choice.specs.declared.sides.Sides.{Sides}
use Rattle.tap_choice.specs.Sides.{is_named, side_of, sides_after, both_named}
use Rattle.tap_follow.specs.declared.follower.Arrival.{Arrival}
use Rattle.tap_follow.specs.declared.follower.Arrival.TheVariants as arrivals
use Rattle.tap_follow.specs.Course.{Course, arrival_as, arrival_of, with_tap, after, new_text}
use Rattle.tap_follow.specs.Held.{Holding, IsFollower}
use Rattle.tap_follow.specs.declared.fault.FollowFault.{FollowFault}
use Rattle.tap_follow.specs.declared.fault.FollowFault.TheVariants.{Write, Field, Memory, ThirdTap}
use Rattle.tap_follow.specs.Datagram.{met_in, IsTapAt}
use Rattle.tap_follow.specs.Fault.{is_write, keeps}
use Rattle.tap_follow.specs.Rules.{Changes, TakesAt, TakesDatagram, StopsAtDatagram}
use Rattle.tap_follow.specs.Inner.Taking.{ChangesAs}

-- ---- a third tap changes none of the two
third_side : (side : Option Side) (both : Bool) → arrival_as side both ≡ arrivals.Third → side ≡ None
third_side (Some side) both is = absurd cc
third_side None both is = refl

stays_by : (a b e g : Bool) (s : Sides) (name : List ℕ)
    → (if a then Some taps.First else if b then Some taps.Second else if e then Some taps.First else if g then Some taps.Second
    else None) ≡ None
    → (if a then record s { is_first_met = true } else if b then record s { is_second_met = true }
    else if e then record s { first = Some name; is_first_met = true }
    else if g then record s { second = Some name; is_second_met = true } else s) ≡ s
stays_by true b e g s name none = absurd cc
stays_by false true e g s name none = absurd cc
stays_by false false true g s name none = absurd cc
stays_by false false false true s name none = absurd cc
stays_by false false false false s name none = refl

pub third_stays : (c : Course) (name : List ℕ) → arrival_of c name ≡ arrivals.Third → with_tap name c ≡ c
third_stays c name is =
    let same : sides_after c.sides name ≡ c.sides =
    stays_by (is_named c.sides.first name) (is_named c.sides.second name) (is_none c.sides.first) (is_none c.sides.second) c.sides name
    (third_side (side_of c.sides name) (both_named c.wanted) is) in
    λ i. record c { sides = same i }

-- a datagram was taken, or stopped the course, and this went out
abbrev pub TakesAs : {T : Type 0} → Result T FollowFault → DatagramOf → Course → (new : Holding)
    → (before after : Option (List ℕ)) → Type 0
TakesAs result d c new before after = MatchResult result
    (λ _. (later : Course) × (out : List ℕ) × IsFollower new later × TakesDatagram d c later out × Appends before after out)
    (λ fault. (out : List ℕ) × StopsAtDatagram fault d c out × WentOut (is_write fault) (Appends before after out))

-- ---- what came of a message
module _ {T : Type 0} (d : DatagramOf) (tap : List ℕ) (c : Course) (new : Holding) (before after : Option (List ℕ)) where
  -- a datagram at one of the two taps
  pub taken_at : (r : Result T FollowFault) (side : Side) → IsTapAt d.place tap → arrival_of c tap ≡ arrivals.At side
      → ChangesAs r (met_in side d) (with_tap tap c) new before after → TakesAs r d c new before after
  taken_at (Ok done) side met is (later, out, at, changes, went) =
      (later, out, at, inl (tap, met, subst (λ (a : Arrival). TakesAt a tap d c later out) (sym is) changes), went)
  taken_at (Err Write) side met is (out, (later, text, some, changes), went) =
      (out, (later, text, some, inl (tap, met, subst (λ (a : Arrival). TakesAt a tap d c later text) (sym is) changes)), went)
  taken_at (Err Memory) side met is (out, (none, m, has), went) = (out, (none, tap, met, side, m, is, has), went)
  taken_at (Err Field) side met is (out, stops, went) = absurd stops
  taken_at (Err (ThirdTap name)) side met is (out, stops, went) = absurd stops

-- ---- a course that is as it was
-- a fault of what is written leaves none so
pub no_output_keeps : {T : Type 0} (r : Result T FollowFault) (m : Option Met) (c : Course) (new : Holding)
    (before after : Option (List ℕ)) (what : FollowFault) → r ≡ Err what → keeps what ≡ true → ChangesAs r m c new before after → ⊥
no_output_keeps r m c new before after Write is kept comes = cc kept
no_output_keeps r m c new before after Memory is kept comes = cc kept
no_output_keeps (Ok done) m c new before after Field is kept comes = cc is
no_output_keeps (Err Write) m c new before after Field is kept comes = cc is
no_output_keeps (Err Memory) m c new before after Field is kept comes = cc is
no_output_keeps (Err Field) m c new before after Field is kept (out, stops, went) = stops
no_output_keeps (Err (ThirdTap name)) m c new before after Field is kept (out, stops, went) = stops
no_output_keeps (Ok done) m c new before after (ThirdTap tap) is kept comes = cc is
no_output_keeps (Err Write) m c new before after (ThirdTap tap) is kept comes = cc is
no_output_keeps (Err Memory) m c new before after (ThirdTap tap) is kept comes = cc is
no_output_keeps (Err Field) m c new before after (ThirdTap tap) is kept (out, stops, went) = stops
no_output_keeps (Err (ThirdTap name)) m c new before after (ThirdTap tap) is kept (out, stops, went) = stops

-- a third tap does
pub third_keeps : (c : Course) (new : Holding) (name : List ℕ) → arrival_of c name ≡ arrivals.Third → IsFollower new (with_tap name c)
    → IsFollower new c
third_keeps c new name is at = subst (IsFollower new) (third_stays c name is) at

-- octets that say no message
pub no_message : (r : Result Message DecodeRefusal) → ((m : Message) → r ≡ Ok m → ⊥) → result_ok (reading_of r) ≡ None
no_message (Ok m) never = absurd (never m refl)
no_message (Err refusal) never = refl

pub no_change : (m : Option Met) (c : Course) → m ≡ None → Changes m c c []
no_change m c none = subst (λ (o : Option Met). Changes o c c []) (sym none) (refl, refl)

-- ---- what was written of a message
module _ {T : Type 0} (c : Course) (new : Holding) (before : Option (List ℕ)) (text : List ℕ) where
  pub wrote : (r : Result T FollowFault) (o : Option Met) (m : Met) (went : Option (List ℕ)) → o ≡ Some m → IsFollower new (after m c)
      → text ≡ new_text m c
      → MatchResult r (λ done. Appends before went text) (λ fault. (fault ≡ Write) × (text ≢ [])) → ChangesAs r o c new before went
  wrote (Ok done) o m went is at same out = (
    after m c,
    new_text m c,
    at,
    subst (λ (x : Option Met). Changes x c (after m c) (new_text m c)) (sym is) (refl, refl),
    subst (Appends before went) same out,
  )
  wrote (Err Write) o m went is at same (failed, some) = (
    [],
    (
      after m c,
      new_text m c,
      λ none. some (same ∙ none),
      subst (λ (x : Option Met). Changes x c (after m c) (new_text m c)) (sym is) (refl, refl),
    ),
    tt,
  )
  wrote (Err Field) o m went is at same (failed, some) = absurd cc
  wrote (Err Memory) o m went is at same (failed, some) = absurd cc
  wrote (Err (ThirdTap name)) o m went is at same (failed, some) = absurd cc

-- memory was refused
pub no_memory : (T : Type 0) (o : Option Met) (m : Met) (c : Course) (new : Holding) (before : Option (List ℕ)) → o ≡ Some m
    → ChangesAs {T = T} (Err Memory) o c new before before
no_memory T o m c new before is = ([], (refl, m, is), Appends-nil before)

-- what is appended to nothing
pub cleared : (before told text : List ℕ) → before ≡ [] → told ≡ before ++ text → told ≡ text
cleared before told text none is = is ∙ ap (λ (t : List ℕ). t ++ text) none
