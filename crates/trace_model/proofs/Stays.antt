-- The stays of journeys, by lines: their readings, how long they were together, and that each was left once.
use Rattle.std.proofs.Common.{◌≡◌, ◌∙◌, ℕ, ◌+◌, ◌-◌, ◌≤◌, Bool, true, false, not, List, [], ◌∷◌, length, Option, Some}
use Rattle.std.proofs.Common.{Ok, IsOk, refl, sym, ap, subst, arith, if◌then◌else◌}
use Rattle.std.specs.Prelude.{◌==◌, ◌&&◌, nat_lt, is_some, unwrap_or, count_by, sum_by}
use Rattle.std.specs.List.{list_all}
use Rattle.std.proofs.lemmas.Bool.{and_from, eq-eqb, le-ltb}
use Rattle.std.proofs.lemmas.List.Sums.{sum_by-cons}
use Rattle.network_model.specs.declared.event.Event.{Event}
use Rattle.network_model.specs.declared.event.Event.TheVariants.{Sync, SyncOne, Leave, Request}
use Rattle.network_model.specs.Network.{Network}
use Rattle.network_model.specs.Run.{Run, Place, place, place_at, tag_of, until, IsIn, true_moment}
use Rattle.network_model.specs.Kinds.{is_leave_of}
use Rattle.network_model.specs.Outcome.{outcome_of, IsRun}
use Rattle.network_model.proofs.Options.{ok_value}
use Rattle.network_model.proofs.Places.{tag_of-place_at, accepted-place_at, IsRun-place_at}
use Rattle.network_model.proofs.Sequences.{count-yes, count-more}
use Rattle.network_model.proofs.Journeys.{continued}
use Rattle.network_model.proofs.LeftOnce.{each_stay_left_once}
use Rattle.network_model.proofs.Paths.{IsStay, AreStays, gone_on}
use Rattle.network_model.proofs.Left.{left_made}
use Rattle.trace_model.specs.Line.{Lines, counts}
use Rattle.trace_model.specs.Record.{LinePlace, line_number, events, reading, reads_right}
use Rattle.trace_model.specs.Sound.{stay_reads_right}
use Rattle.trace_model.specs.Told.{TellsRun}
use Rattle.trace_model.specs.Faithful.{took_effect, TellsPlace, TellsStay, TellsStays}
use Rattle.trace_model.proofs.Found.{event_told, same_number, line_counts}
use Rattle.trace_model.proofs.Lines.{events_more}
use Rattle.trace_model.proofs.Recorded.{count_at_most, each_event_is_recorded}
use Rattle.network_model.specs.declared.stepped.Outcome.TheVariants as outcomes
use Rattle.network_model.specs.Clock as clocks
use Rattle.network_model.specs.Journey as made
use Rattle.trace_model.specs.Journey as lined

-- what came before an event of a run, and the event itself, are a run
pub until_accepted : (network : Network) (run : Run) (p : Place) → IsRun network run → IsIn run p
    → IsRun network (until p)
until_accepted network run p accepted there =
    (accepted-place_at network run (tag_of p) p accepted there, IsRun-place_at network run (tag_of p) p accepted there)

-- the reading of a line is the reading in the run
pub reading_told : (network : Network) (run : Run) (p : Place) (e : LinePlace) → IsRun network run → IsIn run p
    → TellsPlace network p e → is_some (true_moment p.event) ≡ true
    → (reading e ≡ clocks.reading p) × (reads_right network e ≡ true)
reading_told network run p e accepted there tells timed =
    let recorded = each_event_is_recorded network p e (until_accepted network run p accepted there) tells timed in
    (ap (λ (r : Option ℕ). unwrap_or r 0) recorded.reading, recorded.right)

-- a stay was left by an event that made a message
pub record WasLeft (network : Network) (stay : made.Stay) : Type 0 where
  pub leaves : is_leave_of (tag_of stay.entered) stay.left.event ≡ true
  pub is_made : outcome_of network stay.left.earlier stay.left.event ≡ Ok outcomes.Made

abbrev pub WereLeft : Network → List made.Stay → Type 0
WereLeft network [] = Unit {0}
WereLeft network (stay ∷ stays) = WasLeft network stay × WereLeft network stays

begun_left : (network : Network) (event : Event) (earlier : Run) (journey : made.Journey)
    → made.begun event earlier ≡ journey → WereLeft network journey.stays
begun_left network event earlier journey same = subst (λ (j : made.Journey). WereLeft network j.stays) same tt

left_by : (network : Network) (event : Event) (earlier : Run) (journey : made.Journey)
    → IsOk (outcome_of network earlier event)
    → made.journey_made event earlier (made.journey_of earlier) ≡ Some journey
    → ((tag : ℕ) (j : made.Journey) → made.journey_of earlier tag ≡ Some j → WereLeft network j.stays)
    → WereLeft network journey.stays
left_by network (Sync node at) earlier journey accepted is before =
    begun_left network (Sync node at) earlier journey cc
left_by network (SyncOne node at) earlier journey accepted is before =
    begun_left network (SyncOne node at) earlier journey cc
left_by network (Request node at) earlier journey accepted is before =
    begun_left network (Request node at) earlier journey cc
left_by network (Leave node transit at) earlier journey accepted is before =
    let from = continued (place (Leave node transit at) earlier) earlier transit journey is in
    let on = gone_on (place (Leave node transit at) earlier) from.0 from.2 journey from.6 in
    let outcome = ok_value (outcome_of network earlier (Leave node transit at)) accepted in
    let is_made = left_made network earlier node transit at outcome.0 journey outcome.1 is in
    let head : WasLeft network (record { entered = from.0; left = place (Leave node transit at) earlier }) =
    record {
      leaves = eq-eqb transit (tag_of from.0) (sym (tag_of-place_at earlier transit from.0 from.3));
      is_made =
          outcome.1 ∙ ap Ok is_made;
    } in
    subst (WereLeft network) (sym on.1) (head, before from.1 from.2 from.5)
left_by network _ earlier journey accepted is before = cc

pub stays_were_left : (network : Network) (run : Run) (tag : ℕ) (journey : made.Journey) → IsRun network run
    → made.journey_of run tag ≡ Some journey → WereLeft network journey.stays
stays_were_left network [] tag journey accepted is = cc
stays_were_left network (event ∷ earlier) tag journey accepted is =
    at (length earlier == tag) is (λ t j known. stays_were_left network earlier t j accepted.1 known)
  where
    at : (same : Bool) → (if same then made.journey_made event earlier (made.journey_of earlier)
        else made.journey_of earlier tag) ≡ Some journey
        → ((t : ℕ) (j : made.Journey) → made.journey_of earlier t ≡ Some j → WereLeft network j.stays)
        → WereLeft network journey.stays
    at true is before = left_by network event earlier journey accepted.0 is before
    at false is before = before tag journey is

-- how long a message was in one clock, and that the readings are right
stay_told : (network : Network) (run : Run) (stay : made.Stay) (lines : lined.LineStay) → IsRun network run
    → IsStay run stay → TellsStay network stay lines
    → (lined.line_stay_length lines ≡ made.stay_length stay) × (stay_reads_right network lines ≡ true)
stay_told network run stay lines accepted is tells =
    let entered = reading_told network run stay.entered lines.entered accepted is.entered_in tells.entered
    is.entered_timed in
    let left = reading_told network run stay.left lines.left accepted is.left_in tells.left is.left_timed in (
      ap (λ (n : ℕ). n - reading lines.entered) left.0 ∙ ap (λ (n : ℕ). clocks.reading stay.left - n) entered.0,
      and_from (reads_right network lines.entered && reads_right network lines.left)
          (not (nat_lt (reading lines.left) (reading lines.entered)))
          (and_from (reads_right network lines.entered) (reads_right network lines.left) entered.1 left.1)
          (ap not (ap (λ (n : ℕ). nat_lt n (reading lines.entered)) left.0
          ∙ ap (nat_lt (clocks.reading stay.left)) entered.0
          ∙ le-ltb (clocks.reading stay.left) (clocks.reading stay.entered) is.order)),
    )

pub stays_told : (network : Network) (run : Run) (stays : List made.Stay) (lines : List lined.LineStay)
    → IsRun network run → AreStays run stays → TellsStays network stays lines
    → (sum_by lined.line_stay_length lines ≡ sum_by made.stay_length stays)
    × (list_all (stay_reads_right network) lines ≡ true)
stays_told network run [] [] accepted are tells = (refl, refl)
stays_told network run [] (l ∷ lines) accepted are tells = absurd tells
stays_told network run (stay ∷ stays) [] accepted are tells = absurd tells
stays_told network run (stay ∷ stays) (l ∷ lines) accepted are tells =
    let first = stay_told network run stay l accepted are.0 tells.0 in
    let others = stays_told network run stays lines accepted are.1 tells.1 in (
      sum_by-cons lined.line_stay_length l lines ∙ ap (λ (n : ℕ). n + sum_by lined.line_stay_length lines) first.0
          ∙ ap (λ (n : ℕ). made.stay_length stay + n) others.0 ∙ sym (sum_by-cons made.stay_length stay stays),
      and_from (stay_reads_right network l) (list_all (stay_reads_right network) lines) first.1 others.1,
    )

-- an event that took effect is one of the events of lines
pub count_present : (network : Network) (kind : Event → Bool) (run : Run) (lines : Lines) (tag : ℕ) (p : Place)
    → TellsRun network run lines → place_at run tag ≡ Some p
    → took_effect (outcome_of network p.earlier p.event) ≡ true → kind p.event ≡ true
    → 1 ≤ count_by kind (events network lines)
count_present network kind [] lines tag p told there took is = cc
count_present network kind (event ∷ earlier) [] tag p told there took is = absurd told
count_present network kind (event ∷ earlier) (line ∷ lines) tag p told there took is =
    at (length earlier == tag) there (λ there. count_present network kind earlier lines tag p told.1 there took is)
  where
    at : (same : Bool) → (if same then Some (place event earlier) else place_at earlier tag) ≡ Some p
        → (place_at earlier tag ≡ Some p → 1 ≤ count_by kind (events network lines))
        → 1 ≤ count_by kind (events network (line ∷ lines))
    at true there before =
        let same : place event earlier ≡ p = cc in
        let took_here : took_effect (outcome_of network earlier event) ≡ true =
        subst (λ (o : Place). took_effect (outcome_of network o.earlier o.event) ≡ true) (sym same) took in
        let kind_here : kind line.event ≡ true =
        ap kind (event_told network event earlier line told.0) ∙ ap (λ (o : Place). kind o.event) same ∙ is in
        let list = ap (count_by kind)
        (events_more network line lines true (line_counts network event earlier line told.0 took_here)) in
        omega (arith, count-yes kind line.event (events network lines) kind_here)
    at false there before = by (counts network line) refl
      where
        by : (counted : Bool) → counts network line ≡ counted → 1 ≤ count_by kind (events network (line ∷ lines))
        by true c =
            let list = ap (count_by kind) (events_more network line lines true c) in
            let some = before there in omega (arith, count-more kind line.event (events network lines))
        by false c = let list = ap (count_by kind) (events_more network line lines false c) in let some =
            before there in omega arith

-- each stay was left once
pub stays_once : (network : Network) (run : Run) (lines : Lines) (small : Run) (stays : List made.Stay)
    (others : List lined.LineStay) → TellsRun network run lines → IsRun network run
    → ((q : Place) → IsIn small q → IsIn run q) → AreStays small stays → WereLeft network stays
    → TellsStays network stays others
    → list_all (λ stay. count_by (is_leave_of (line_number stay.entered)) (events network lines) == 1) others ≡ true
stays_once network run lines small [] [] told accepted within are left tells = refl
stays_once network run lines small [] (l ∷ others) told accepted within are left tells = absurd tells
stays_once network run lines small (stay ∷ stays) [] told accepted within are left tells = absurd tells
stays_once network run lines small (stay ∷ stays) (l ∷ others) told accepted within are left tells =
    let number : line_number l.entered ≡ tag_of stay.entered =
    same_number network stay.entered l.entered tells.0.entered in
    let some = count_present network (is_leave_of (tag_of stay.entered)) run lines (tag_of stay.left) stay.left told
    (within stay.left are.0.left_in)
    (ap took_effect left.0.is_made) left.0.leaves in
    let most = count_at_most network (is_leave_of (tag_of stay.entered)) run lines told in
    let once = each_stay_left_once network run (tag_of stay.entered) accepted in
    let one : count_by (is_leave_of (tag_of stay.entered)) (events network lines) ≡ 1 = omega arith in
    and_from (count_by (is_leave_of (line_number l.entered)) (events network lines) == 1)
    (list_all (λ (stay : lined.LineStay). count_by (is_leave_of (line_number stay.entered)) (events network lines) == 1) others)
    (eq-eqb (count_by (is_leave_of (line_number l.entered)) (events network lines)) 1
    (ap (λ (n : ℕ). count_by (is_leave_of n) (events network lines)) number ∙ one))
    (stays_once network run lines small stays others told accepted within are.1 left.1 tells.1)
