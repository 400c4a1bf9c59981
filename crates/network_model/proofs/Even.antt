-- In a level network the two paths of a report take one time: each crossing of a path is one of the run, a cable
-- takes one time both ways, and the path back has the cables of the path there.
use Rattle.std.proofs.Common.{◌≡◌, ◌∙◌, ℕ, ℤ, ◌+ℤ◌, Bool, true, false, List, [], ◌∷◌, ◌++◌, length, Option, Some, None, Ok, IsOk, refl, sym, ap, subst, arith, reverse, if◌then◌else◌, option_map, option_and_then, inl, inr}
use Rattle.std.specs.Prelude.{◌==◌, ◌⊎◌, IsTrue, ok_or, option_to_list}
use Rattle.std.specs.List.{list_all, AllZip}
use Rattle.std.proofs.lemmas.Bool.{and_parts, and_from, or_cases, or_left, or_right}
use Rattle.std.proofs.lemmas.Grind.{reverse_onto}
use Rattle.std.proofs.lemmas.Bool.Decides.{Decides-int_eq}
use Rattle.std.proofs.lemmas.Int.{ints}
use Rattle.network_model.specs.declared.event.Event.{Event}
use Rattle.network_model.specs.declared.event.Event.TheVariants.{Sync, SyncOne, Enter, Leave, Request}
use Rattle.network_model.specs.declared.stepped.Outcome.TheVariants as outcomes
use Rattle.network_model.specs.declared.refusal.WorldRefusal.TheVariants.{NoCopy}
use Rattle.network_model.specs.Network.{Network, NodeName, is_named}
use Rattle.network_model.specs.Run.{Run, Place, place, place_at, tag_of, IsIn, site_of}
use Rattle.network_model.specs.Kinds.{entered_copy, timed_copy}
use Rattle.network_model.specs.Journey.{Journey, Stay, begun, journey_made, journey_of}
use Rattle.network_model.specs.Truth.{copy_made, copy_of}
use Rattle.network_model.specs.Outcome.{◌>>=◌, node_as, clock_of, reads, outcome_of, IsRun}
use Rattle.network_model.specs.Level.{Crossing, crossing, crossing_to, crossings_in, crossings_of, is_same_direction, is_same_cable, is_even, are_even, time_of, time_on}
use Rattle.slave_port.proofs.Options.{some_step}
use Rattle.network_model.proofs.Options.{ok_value, ok_step, ok_some}
use Rattle.network_model.proofs.Places.{accepted-place_at, place_at-within, IsIn-place_at, IsIn-within}
use Rattle.network_model.proofs.Made.{copy_of-place_at, journey_of-place_at}
use Rattle.network_model.proofs.Sites.{named-same, named-self}
use Rattle.network_model.proofs.Journeys.{same_origin, continued}
use Rattle.network_model.proofs.Paths.{gone_on, time-more}

-- a crossing of a run
pub record IsCrossing (run : Run) (c : Crossing) : Type 0 where
  pub there : IsIn run c.to
  pub is : crossing_to c.to ≡ Some c

abbrev pub AreCrossings : Run → List Crossing → Type 0
AreCrossings run [] = Unit {0}
AreCrossings run (c ∷ path) = IsCrossing run c × AreCrossings run path

-- what all crossings of a run pass, each passes
all_pass : (f : Crossing → Bool) (run : Run) (c : Crossing) → list_all f (crossings_in run) ≡ true → IsCrossing run c → f c ≡ true
all_pass f [] c all is = let there = is.there in cc
all_pass f (event ∷ earlier) c all is = at (crossing_to (place event earlier)) refl all (length earlier == tag_of c.to) is.there
    (λ rest within. all_pass f earlier c rest (record { there = within; is = is.is }))
  where
    at : (last : Option Crossing) → crossing_to (place event earlier) ≡ last → list_all f (option_to_list last ++ crossings_in earlier) ≡ true
        → (same : Bool) → (if same then Some (place event earlier) else place_at earlier (tag_of c.to)) ≡ Some c.to
        → (list_all f (crossings_in earlier) ≡ true → IsIn earlier c.to → f c ≡ true) → f c ≡ true
    at None e all true there rest =
        let same : place event earlier ≡ c.to = cc in
        let none : crossing_to c.to ≡ None = subst (λ (o : Place). crossing_to o ≡ None) same e in
        let some = is.is in cc
    at (Some d) e all true there rest =
        let same : place event earlier ≡ c.to = cc in
        let both : Some d ≡ Some c = sym (subst (λ (o : Place). crossing_to o ≡ Some d) same e) ∙ is.is in
        let one : d ≡ c = cc in
        subst (λ (x : Crossing). f x ≡ true) one (and_parts (f d) (list_all f (crossings_in earlier)) all).0
    at None e all false there rest = rest all there
    at (Some d) e all false there rest = rest (and_parts (f d) (list_all f (crossings_in earlier)) all).1 there

-- a cable takes one time
same_time : (c d : Crossing) → is_even c d ≡ true → is_same_cable c d ≡ true → time_of c ≡ time_of d
same_time c d even same = grind (arith, Decides-int_eq)

-- a cable has no direction
turned : (c d : Crossing) → is_same_cable c d ≡ true → is_same_cable d c ≡ true
turned c d same = by (or_cases (is_same_direction c.from c.to d.from d.to) (is_same_direction c.from c.to d.to d.from) same)
  where
    back : (a b : NodeName) → is_named a b ≡ true → is_named b a ≡ true
    back a b named = subst (λ (n : NodeName). is_named n a ≡ true) (named-same a b named) (named-self a)

    by : ((is_same_direction c.from c.to d.from d.to ≡ true) ⊎ (is_same_direction c.from c.to d.to d.from ≡ true)) → is_same_cable d c ≡ true
    by (inl path) =
        let parts = and_parts (is_named (site_of c.from.event) (site_of d.from.event)) (is_named (site_of c.to.event) (site_of d.to.event)) path in
        or_left (is_same_direction d.from d.to c.from c.to) (is_same_direction d.from d.to c.to c.from)
        (and_from (is_named (site_of d.from.event) (site_of c.from.event)) (is_named (site_of d.to.event) (site_of c.to.event))
        (back (site_of c.from.event) (site_of d.from.event) parts.0) (back (site_of c.to.event) (site_of d.to.event) parts.1))
    by (inr path) =
        let parts = and_parts (is_named (site_of c.from.event) (site_of d.to.event)) (is_named (site_of c.to.event) (site_of d.from.event)) path in
        or_right (is_same_direction d.from d.to c.from c.to) (is_same_direction d.from d.to c.to c.from)
        (and_from (is_named (site_of d.from.event) (site_of c.to.event)) (is_named (site_of d.to.event) (site_of c.from.event))
        (back (site_of c.to.event) (site_of d.from.event) parts.1) (back (site_of c.from.event) (site_of d.to.event) parts.0))

even_times : (run : Run) (c d : Crossing) → are_even (crossings_in run) ≡ true → IsCrossing run c → IsCrossing run d → is_same_cable c d ≡ true → time_of c ≡ time_of d
even_times [] c d even is is_too same = let there = is.there in cc
even_times (event ∷ earlier) c d even is is_too same =
    at (crossing_to (place event earlier)) refl even (length earlier == tag_of c.to) (length earlier == tag_of d.to) is.there is_too.there
    (λ rest within within_too. even_times earlier c d rest (record { there = within; is = is.is }) (record { there = within_too; is = is_too.is }) same)
  where
    last_is : (x y : Crossing) → place event earlier ≡ x.to → crossing_to (place event earlier) ≡ Some y → crossing_to x.to ≡ Some x → y ≡ x
    last_is x y at_x e is = let both : Some y ≡ Some x = sym (subst (λ (o : Place). crossing_to o ≡ Some y) at_x e) ∙ is in cc

    no_last : (x : Crossing) → place event earlier ≡ x.to → crossing_to (place event earlier) ≡ None → crossing_to x.to ≡ Some x → ⊥
    no_last x at_x e is = let none : crossing_to x.to ≡ None = subst (λ (o : Place). crossing_to o ≡ None) at_x e in cc

    at : (last : Option Crossing) → crossing_to (place event earlier) ≡ last → are_even (option_to_list last ++ crossings_in earlier) ≡ true
        → (first second : Bool) → (if first then Some (place event earlier) else place_at earlier (tag_of c.to)) ≡ Some c.to
        → (if second then Some (place event earlier) else place_at earlier (tag_of d.to)) ≡ Some d.to
        → (are_even (crossings_in earlier) ≡ true → IsIn earlier c.to → IsIn earlier d.to → time_of c ≡ time_of d) → time_of c ≡ time_of d
    at None e even true second there there_too rest = let at_c : place event earlier ≡ c.to = cc in absurd (no_last c at_c e is.is)
    at None e even false true there there_too rest = let at_d : place event earlier ≡ d.to = cc in absurd (no_last d at_d e is_too.is)
    at None e even false false there there_too rest = rest even there there_too
    at (Some x) e even true true there there_too rest =
        let at_c : place event earlier ≡ c.to = cc in
        let at_d : place event earlier ≡ d.to = cc in
        ap time_of (sym (last_is c x at_c e is.is) ∙ last_is d x at_d e is_too.is)
    at (Some x) e even true false there there_too rest =
        let at_c : place event earlier ≡ c.to = cc in
        let one : x ≡ c = last_is c x at_c e is.is in
        let parts = and_parts (list_all (is_even x) (crossings_in earlier)) (are_even (crossings_in earlier)) even in
        let pass = all_pass (is_even x) earlier d parts.0 (record { there = there_too; is = is_too.is }) in
        same_time c d (subst (λ (y : Crossing). is_even y d ≡ true) one pass) same
    at (Some x) e even false true there there_too rest =
        let at_d : place event earlier ≡ d.to = cc in
        let one : x ≡ d = last_is d x at_d e is_too.is in
        let parts = and_parts (list_all (is_even x) (crossings_in earlier)) (are_even (crossings_in earlier)) even in
        let pass = all_pass (is_even x) earlier c parts.0 (record { there = there; is = is.is }) in
        sym (same_time d c (subst (λ (y : Crossing). is_even y c ≡ true) one pass) (turned c d same))
    at (Some x) e even false false there there_too rest =
        rest (and_parts (list_all (is_even x) (crossings_in earlier)) (are_even (crossings_in earlier)) even).1 there there_too

-- the times of a path, cable by cable
pub zipped : (run : Run) (back path : List Crossing) → are_even (crossings_in run) ≡ true → AreCrossings run back → AreCrossings run path
    → AllZip (λ c d. IsTrue (is_same_cable c d)) back path → time_on back ≡ time_on path
zipped run [] [] even are are_too zip = refl
zipped run [] (d ∷ path) even are are_too zip = absurd zip
zipped run (c ∷ back) [] even are are_too zip = absurd zip
zipped run (c ∷ back) (d ∷ path) even are are_too zip =
    let one = even_times run c d even are.0 are_too.0 zip.0 in
    let rest = zipped run back path even are.1 are_too.1 zip.1 in
    time-more c back ∙ ap (λ (t : ℤ). t +ℤ time_on back) one ∙ ap (λ (t : ℤ). time_of d +ℤ t) rest ∙ sym (time-more d path)

-- a path and the same path from its end
time-append : (xs ys : List Crossing) → time_on (xs ++ ys) ≡ time_on xs +ℤ time_on ys
time-append [] ys = omega (arith, ints)
time-append (c ∷ xs) ys =
    let rest = time-append xs ys in
    let more = time-more c (xs ++ ys) in
    let other = time-more c xs in
    omega (arith, ints)

pub time-reverse : (path : List Crossing) → time_on (reverse path) ≡ time_on path
time-reverse [] = refl
time-reverse (c ∷ path) =
    let turned : reverse (c ∷ path) ≡ reverse path ++ c ∷ [] = reverse_onto path c [] in
    let rest = time-reverse path in
    let all = time-append (reverse path) (c ∷ []) in
    let one = time-more c [] in
    let more = time-more c path in
    ap time_on turned ∙ omega (arith, ints)

crossings-append : (run : Run) (xs ys : List Crossing) → AreCrossings run xs → AreCrossings run ys → AreCrossings run (xs ++ ys)
crossings-append run [] ys are are_too = are_too
crossings-append run (c ∷ xs) ys are are_too = (are.0, crossings-append run xs ys are.1 are_too)

pub crossings-reverse : (run : Run) (path : List Crossing) → AreCrossings run path → AreCrossings run (reverse path)
crossings-reverse run [] are = tt
crossings-reverse run (c ∷ path) are =
    let turned : reverse (c ∷ path) ≡ reverse path ++ c ∷ [] = reverse_onto path c [] in
    subst (AreCrossings run) (sym turned) (crossings-append run (reverse path) (c ∷ []) (crossings-reverse run path are.1) (are.0, tt))

-- the event that made a copy with a journey: it drew the message, or the copy left a clock at it
data IsMaker (run : Run) (copy : ℕ) (journey : Journey) : Type 0 where
  Begins : (p : Place) → place_at run copy ≡ Some p → journey.stays ≡ [] → journey.origin ≡ p → IsMaker run copy journey
  Leaves : (p entered : Place) (before_copy : ℕ) (before : Journey) → place_at run copy ≡ Some p
      → journey.stays ≡ record { entered = entered; left = p } ∷ before.stays → before.origin ≡ journey.origin
      → IsIn p.earlier entered → entered_copy entered.event ≡ Some before_copy → journey_of p.earlier before_copy ≡ Some before → IsMaker run copy journey

maker_of : (run : Run) (copy : ℕ) (journey : Journey) → journey_of run copy ≡ Some journey → IsMaker run copy journey
maker_of run copy journey made =
    let from = some_step (λ (p : Place). journey_made p.event p.earlier (journey_of p.earlier)) (place_at run copy) (sym (journey_of-place_at run copy) ∙ made) in
    by from.0.event from.0.earlier from.1 from.2
  where
    start : (e : Event) (earlier : Run) → place_at run copy ≡ Some (place e earlier) → begun e earlier ≡ journey → IsMaker run copy journey
    start e earlier there same = Begins (place e earlier) there (sym (ap (λ (j : Journey). j.stays) same)) (sym (ap (λ (j : Journey). j.origin) same))

    by : (e : Event) (earlier : Run) → place_at run copy ≡ Some (place e earlier) → journey_made e earlier (journey_of earlier) ≡ Some journey → IsMaker run copy journey
    by (Sync node at) earlier there is = start (Sync node at) earlier there cc
    by (SyncOne node at) earlier there is = start (SyncOne node at) earlier there cc
    by (Request node at) earlier there is = start (Request node at) earlier there cc
    by (Leave node transit at) earlier there is =
        let left : Place = place (Leave node transit at) earlier in
        let from = continued left earlier transit journey is in
        let on = gone_on left from.0 from.2 journey from.6 in
        Leaves left from.0 from.1 from.2 there on.1 (same_origin left from.0 from.2 journey from.6) (IsIn-place_at earlier transit from.0 from.3) from.4 from.5
    by _ earlier there is = cc

-- a copy that entered was there before
entered_there : (network : Network) (event : Event) (earlier : Run) (copy : ℕ) → IsOk (outcome_of network earlier event) → entered_copy event ≡ Some copy
    → (timed_copy event ≡ Some copy) × ((q : Place) × (place_at earlier copy ≡ Some q))
entered_there network (Enter node c at) earlier copy accepted is =
    let same : c ≡ copy = cc in
    let outcome = ok_value (outcome_of network earlier (Enter node c at)) accepted in
    let clock = ok_step (node_as clock_of network node)
    (λ clock. ok_or (copy_of network earlier c) NoCopy >>= (λ m. reads (Enter node c at) earlier >>= (λ now. Ok outcomes.Entered))) outcome.1 in
    let message = ok_step (ok_or (copy_of network earlier c) NoCopy) (λ m. reads (Enter node c at) earlier >>= (λ now. Ok outcomes.Entered)) clock.2 in
    let made = some_step (λ (p : Place). copy_made network p.event p.earlier (copy_of network p.earlier)) (place_at earlier c)
    (sym (copy_of-place_at network earlier c) ∙ ok_some (copy_of network earlier c) NoCopy {x = message.0} message.1) in
    (is, (made.0, subst (λ (t : ℕ). place_at earlier t ≡ Some made.0) same made.1))
entered_there network _ earlier copy accepted is = cc

-- a copy's journey doesn't change
same_journey : (run : Run) (entered : Place) (copy : ℕ) (q : Place) → IsIn run entered → place_at entered.earlier copy ≡ Some q → journey_of run copy ≡ journey_of entered.earlier copy
same_journey run entered copy q there is =
    journey_of-place_at run copy
    ∙ ap (option_and_then (λ (p : Place). journey_made p.event p.earlier (journey_of p.earlier))) (place_at-within run entered copy q there is ∙ sym is)
    ∙ sym (journey_of-place_at entered.earlier copy)

-- the crossing by which a copy came
crossed : (end from : Place) (copy : ℕ) (journey : Journey) → timed_copy end.event ≡ Some copy → journey_of end.earlier copy ≡ Some journey → place_at end.earlier copy ≡ Some from
    → crossing_to end ≡ Some (crossing from end)
crossed end from copy journey copy_is journey_is there =
    ap (option_and_then (λ (copy : ℕ). option_and_then (λ (journey : Journey). option_map (λ made. crossing made end) (place_at end.earlier copy)) (journey_of end.earlier copy))) copy_is
    ∙ ap (option_and_then (λ (journey : Journey). option_map (λ made. crossing made end) (place_at end.earlier copy))) journey_is
    ∙ ap (option_map (λ made. crossing made end)) there

-- each crossing of the path of a copy is one of the run
pub path_in : (network : Network) (run : Run) → IsRun network run → (origin : Place) (stays : List Stay) (end : Place) (copy : ℕ) → IsIn run end → timed_copy end.event ≡ Some copy
    → journey_of end.earlier copy ≡ Some (record { origin = origin; stays = stays }) → AreCrossings run (crossings_of origin stays end)
path_in network run accepted origin [] end copy there copy_is journey_is = by (maker_of end.earlier copy (record { origin = origin; stays = [] }) journey_is)
  where
    by : IsMaker end.earlier copy (record { origin = origin; stays = [] }) → AreCrossings run (crossing origin end ∷ [])
    by (Begins p at stays is) =
        (record { there = there; is = crossed end origin copy (record { origin = origin; stays = [] }) copy_is journey_is (at ∙ ap (λ (o : Place). Some o) (sym is)) }, tt)
    by (Leaves p entered c before at stays is inside c_is known) = cc
path_in network run accepted origin (stay ∷ stays) end copy there copy_is journey_is =
    by (maker_of end.earlier copy (record { origin = origin; stays = stay ∷ stays }) journey_is)
    (λ end copy there copy_is journey_is. path_in network run accepted origin stays end copy there copy_is journey_is)
  where
    by : IsMaker end.earlier copy (record { origin = origin; stays = stay ∷ stays })
        → ((end : Place) (copy : ℕ) → IsIn run end → timed_copy end.event ≡ Some copy → journey_of end.earlier copy ≡ Some (record { origin = origin; stays = stays })
        → AreCrossings run (crossings_of origin stays end))
        → AreCrossings run (crossing stay.left end ∷ crossings_of origin stays stay.entered)
    by (Begins p at none is) rest = cc
    by (Leaves p entered c before at parts is inside c_is known) rest =
        let stay_is : stay ≡ record { entered = entered; left = p } = cc in
        let stays_are : stays ≡ before.stays = cc in
        let left_is : stay.left ≡ p = ap (λ (s : Stay). s.left) stay_is in
        let entered_is : stay.entered ≡ entered = ap (λ (s : Stay). s.entered) stay_is in
        let p_in : IsIn run p = IsIn-within run end p there (IsIn-place_at end.earlier copy p at) in
        let entered_in : IsIn run entered = IsIn-within run p entered p_in inside in
        let was = entered_there network entered.event entered.earlier c (accepted-place_at network run (tag_of entered) entered accepted entered_in) c_is in
        let whole : before ≡ record { origin = origin; stays = stays } =
        ap (λ (o : Place). record { origin = o; stays = before.stays }) is ∙ ap (λ (ss : List Stay). record { origin = origin; stays = ss }) (sym stays_are) in
        let known_there : journey_of entered.earlier c ≡ Some (record { origin = origin; stays = stays }) =
        sym (same_journey p.earlier entered c was.1.0 inside was.1.1) ∙ known ∙ ap (λ (j : Journey). Some j) whole in (
          record {
            there = there;
            is = crossed end stay.left copy (record { origin = origin; stays = stay ∷ stays }) copy_is journey_is (at ∙ ap (λ (o : Place). Some o) (sym left_is));
          },
          subst (λ (o : Place). AreCrossings run (crossings_of origin stays o)) (sym entered_is) (rest entered c entered_in was.0 known_there),
        )
