-- No stay in a clock is left twice: a Leave event is accepted only where an earlier event began its stay, and no event
-- before it has left it.
use Rattle.std.proofs.Common.{◌≡◌, ◌∙◌, ℕ, ◌+◌, ◌≤◌, ◌<◌, Bool, true, false, ◌||◌, [], ◌∷◌, length, cond, IsOk, refl, sym, subst, arith}
use Rattle.std.specs.Prelude.{count_by}
use Rattle.std.specs.List.{list_any}
use Rattle.std.proofs.lemmas.Bool.Decides.{nat_tests}
use Rattle.std.proofs.lemmas.List.Sums.{sum_by-cons}
use Rattle.network_model.specs.declared.event.Event.{Event}
use Rattle.network_model.specs.declared.event.Event.TheVariants.{Leave}
use Rattle.network_model.specs.declared.stepped.Outcome.{Outcome}
use Rattle.network_model.specs.Network.{Network, NodeName}
use Rattle.network_model.specs.Run.{Run}
use Rattle.network_model.specs.Kinds.{is_leave_of}
use Rattle.network_model.specs.Outcome.{outcome_of, IsRun}
use Rattle.network_model.specs.Evidence.{EachStayIsLeftOnce}
use Rattle.network_model.proofs.Options.{ok_value}
use Rattle.network_model.proofs.Places.{place_at-bound}
use Rattle.network_model.proofs.Left.{IsLeft, left_parts}

-- what is known of a Leave event that is accepted
left_of : (network : Network) (earlier : Run) (node : NodeName) (transit at : ℕ)
    → IsOk (outcome_of network earlier (Leave node transit at))
    → (outcome : Outcome) × IsLeft network earlier node transit at outcome
left_of network earlier node transit at accepted =
    let outcome = ok_value (outcome_of network earlier (Leave node transit at)) accepted in
    (outcome.0, left_parts network earlier node transit at outcome.0 outcome.1)

-- a Leave event that is accepted leaves a stay that an earlier event began
pub leave_before : (network : Network) (earlier : Run) (node : NodeName) (transit at : ℕ)
    → IsOk (outcome_of network earlier (Leave node transit at)) → transit < length earlier
leave_before network earlier node transit at accepted =
    let left = left_of network earlier node transit at accepted in
    place_at-bound earlier transit left.1.entered left.1.there

-- no event of a run leaves a stay whose tag the run hasn't reached
pub not_left : (network : Network) (run : Run) (tag : ℕ) → IsRun network run → length run ≤ tag → list_any (is_leave_of tag) run ≡ false
not_left network [] tag accepted ahead = refl
not_left network (Leave node transit at ∷ earlier) tag accepted ahead =
    let before = not_left network earlier tag accepted.1 (omega arith) in
    let there = leave_before network earlier node transit at accepted.0 in
    grind (arith, nat_tests)
not_left network (_ ∷ earlier) tag accepted ahead = not_left network earlier tag accepted.1 (omega arith)

count-next : (transit : ℕ) (event : Event) (earlier : Run)
    → count_by (is_leave_of transit) (event ∷ earlier) ≡ cond (is_leave_of transit event) 1 0 + count_by (is_leave_of transit) earlier
count-next transit event earlier = sum_by-cons (λ e. cond (is_leave_of transit e) 1 0) event earlier

none_left : (transit : ℕ) (run : Run) → list_any (is_leave_of transit) run ≡ false → count_by (is_leave_of transit) run ≡ 0
none_left transit [] none = refl
none_left transit (event ∷ earlier) none = count-next transit event earlier ∙ at (is_leave_of transit event) none (none_left transit earlier)
  where
    at : (left_already : Bool) → (left_already || list_any (is_leave_of transit) earlier) ≡ false
        → (list_any (is_leave_of transit) earlier ≡ false → count_by (is_leave_of transit) earlier ≡ 0)
        → cond left_already 1 0 + count_by (is_leave_of transit) earlier ≡ 0
    at true none before = cc
    at false none before = let rest = before none in omega arith

-- one more event: it doesn't leave the stay, or it is the first to do so
one_more : (left_already : Bool) (before : ℕ) → before ≤ 1 → (left_already ≡ true → before ≡ 0) → cond left_already 1 0 + before ≤ 1
one_more true before few first = let none = first refl in omega arith
one_more false before few first = omega arith

pub each_stay_left_once : EachStayIsLeftOnce
each_stay_left_once network [] transit accepted = omega arith
each_stay_left_once network (event ∷ earlier) transit accepted =
    subst (λ n. n ≤ 1) (sym (count-next transit event earlier))
    (one_more (is_leave_of transit event) (count_by (is_leave_of transit) earlier) (each_stay_left_once network earlier transit accepted.1) (first event accepted.0))
  where
    first : (e : Event) → IsOk (outcome_of network earlier e) → is_leave_of transit e ≡ true → count_by (is_leave_of transit) earlier ≡ 0
    first (Leave node left at) accepted left_already =
        let same : left ≡ transit = grind (arith, nat_tests) in
        none_left transit earlier (subst (λ t. list_any (is_leave_of t) earlier ≡ false) same (left_of network earlier node left at accepted).1.first)
    first _ accepted left_already = cc
