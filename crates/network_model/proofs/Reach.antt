-- Numbers that meet lie within one turn of each other, so equal sequenceIds are equal numbers and one event drew both.
-- Both premises give one property, `NumbersMeet`, and all that follows rests on it alone.
use Rattle.std.proofs.Common.{◌≡◌, ◌∙◌, ℕ, ◌+◌, ◌-◌, ◌<◌, ◌≤◌, Bool, true, false, [], ◌∷◌, length, Option, Some, refl, sym, ap, subst, arith, if◌then◌else◌, option_and_then}
use Rattle.std.specs.Prelude.{count_by, ◌&&◌, ◌||◌, IfSome, ◌==◌}
use Rattle.std.specs.Option.{option_map_or}
use Rattle.std.proofs.lemmas.Bool.{false_from_ne_true}
use Rattle.ptp_units.specs.Sequence.{of_count}
use Rattle.slave_port.proofs.Options.{some_step}
use Rattle.network_model.specs.declared.event.Event.{Event}
use Rattle.network_model.specs.declared.event.Event.TheVariants.{Sync, SyncOne, Arrive, Hear, Request, Tick}
use Rattle.network_model.specs.Network.{Network, NodeName, is_named}
use Rattle.network_model.specs.Run.{Run, Place, place, place_at, tag_of, IsIn, site_of, events_after}
use Rattle.network_model.specs.Kinds.{is_at, draws_sync, is_request, is_tick, is_set_master, named_master, heard_copy}
use Rattle.network_model.specs.Numbering.{draws_with, drawn_later}
use Rattle.network_model.specs.Truth.{origin_of, origin_heard}
use Rattle.network_model.specs.Outcome.{outcome_of}
use Rattle.network_model.specs.Present.{last_set_master, present_master}
use Rattle.network_model.specs.Premises.{Limits, is_used, IsFresh, IsFreshAt, IsFreshFor, IsTickedAt, draws_present, syncs_since_tick, IsFreshAndTicked, IsFreshAndTickedFor, IsWithinTurn}
use Rattle.network_model.specs.Order.{IsOneWindow}
use Rattle.network_model.proofs.Places.{place_at-bound}
use Rattle.network_model.proofs.Sequences.{count-yes, count-no, count-place_at, count-within, count-none, same_count}
use Rattle.network_model.proofs.Sites.{at_site, at_kind}
use Rattle.network_model.proofs.Calls.{events_after-later}

-- two numbers of one sequence, less than a turn behind its front, that have one sequenceId
pub one_origin : (kind : Event → Bool) (first : ℕ) (run : Run) (o other : Place) → IsIn run o → IsIn run other → kind o.event ≡ true → kind other.event ≡ true
    → count_by kind run - (count_by kind o.earlier + 1) < 65536 → count_by kind run - (count_by kind other.earlier + 1) < 65536
    → of_count (first + count_by kind o.earlier) ≡ of_count (first + count_by kind other.earlier) → o ≡ other
one_origin kind first run o other here there drawn drawn_too near near_too same =
    same_count kind run o other here there drawn drawn_too
    (omega (arith, count-place_at kind run (tag_of o) o here drawn, count-place_at kind run (tag_of other) other there drawn_too))

-- the sequence of a Sync event, and of a Request event
pub draws_with-sync : (node : NodeName) (event : Event) → is_at draws_sync node event ≡ true → draws_with event ≡ is_at draws_sync node
draws_with-sync node (Sync other at) is = ap (is_at draws_sync) (at_site draws_sync node (Sync other at) is)
draws_with-sync node (SyncOne other at) is = ap (is_at draws_sync) (at_site draws_sync node (SyncOne other at) is)
draws_with-sync node _ is = cc

pub draws_with-request : (node : NodeName) (event : Event) → is_at is_request node event ≡ true → draws_with event ≡ is_at is_request node
draws_with-request node (Request other at) is = ap (is_at is_request) (at_site is_request node (Request other at) is)
draws_with-request node _ is = cc

-- the master that a slave follows at the end of the run, over an event that is no SetMaster of it
pub last_set_master-later : (slave : NodeName) (event : Event) (earlier : Run) → is_at is_set_master slave event ≡ false
    → last_set_master slave (event ∷ earlier) ≡ last_set_master slave earlier
last_set_master-later slave event earlier unset = ap (λ (b : Bool). if b then Some (place event earlier) else last_set_master slave earlier) unset

pub present_master-later : (slave : NodeName) (event : Event) (earlier : Run) → is_at is_set_master slave event ≡ false
    → present_master slave (event ∷ earlier) ≡ present_master slave earlier
present_master-later slave event earlier unset =
    ap (option_and_then (λ (set : Place). named_master set.event)) (last_set_master-later slave event earlier unset)

-- hearing draws no number, and is no tick
heard_draws_none : (event : Event) (copy : ℕ) → heard_copy event ≡ Some copy → draws_sync event ≡ false
heard_draws_none (Arrive other c at) copy is = refl
heard_draws_none (Hear other c) copy is = refl
heard_draws_none _ copy is = cc

tick_draws_none : (event : Event) → is_tick event ≡ true → draws_sync event ≡ false
tick_draws_none (Tick other) is = refl
tick_draws_none _ is = cc

-- How many Syncs a slave's present master drew after the one of a message: of a message that the slave used, and after which
-- it had at most one tick and was told no master, fewer than `reach`.
abbrev pub HeldReach : ℕ → Network → NodeName → Run → Type 0
HeldReach reach network slave run =
    (p : Place) (master : NodeName) (origin : Place) → IsIn run p → site_of p.event ≡ slave
    → is_used (outcome_of network p.earlier p.event) ≡ true → IsOneWindow run slave (tag_of p) → present_master slave run ≡ Some master
    → origin_heard p ≡ Some origin → is_at draws_sync master origin.event ≡ true
    → count_by (is_at draws_sync master) run - (count_by (is_at draws_sync master) origin.earlier + 1) < reach

-- the same of a message of any sequence, when the slave uses it
abbrev pub UsedReach : ℕ → Network → NodeName → Run → Type 0
UsedReach reach network slave run =
    (p : Place) (origin : Place) → IsIn run p → site_of p.event ≡ slave → is_used (outcome_of network p.earlier p.event) ≡ true → origin_heard p ≡ Some origin
    → drawn_later origin p.earlier < reach

-- numbers that meet at a slave in a run, or did in a run that it goes on from, lie within this reach of the front of their sequence
pub record IsWithinReach (reach : ℕ) (network : Network) (slave : NodeName) (run : Run) : Type 0 where
  pub held : HeldReach reach network slave run
  pub used : UsedReach reach network slave run

-- how many Syncs a master drew in a run after one that had so many before it
abbrev behind : NodeName → (before : ℕ) → Run → ℕ
behind master before run = count_by (is_at draws_sync master) run - (before + 1)

-- what was drawn before, since the last tick and before the last tick but one
abbrev Bounds : (slave master : NodeName) (tag before late between : ℕ) → Run → Type 0
Bounds slave master tag before late between run =
    (count_by (is_at is_tick slave) (events_after tag run) ≡ 0 → behind master before run < late + syncs_since_tick slave run)
    × (count_by (is_at is_tick slave) (events_after tag run) ≤ 1 → behind master before run < late + between + syncs_since_tick slave run)

-- one event more
one_more : (slave master : NodeName) (tag before late between : ℕ) (event : Event) (earlier : Run) → tag < length earlier
    → is_at is_set_master slave event ≡ false → present_master slave earlier ≡ Some master → syncs_since_tick slave earlier ≤ between
    → Bounds slave master tag before late between earlier → Bounds slave master tag before late between (event ∷ earlier)
one_more slave master tag before late between event earlier below unset present few bounds =
    by (is_at is_tick slave event) refl (is_at draws_sync master event) refl
  where
    since : Run
    since = events_after tag earlier

    longer : events_after tag (event ∷ earlier) ≡ event ∷ since
    longer = events_after-later event earlier tag below

    drawn : draws_present slave earlier event ≡ is_at draws_sync master event
    drawn = ap (λ (o : Option NodeName). option_map_or (λ m. is_at draws_sync m event) o false) present

    counted : syncs_since_tick slave (event ∷ earlier)
        ≡ (if is_at is_tick slave event || false then 0 else if is_at draws_sync master event then syncs_since_tick slave earlier + 1 else syncs_since_tick slave earlier)
    counted =
        ap {B = ℕ} (λ (b : Bool). if is_at is_tick slave event || b then 0 else if draws_present slave earlier event then syncs_since_tick slave earlier + 1 else syncs_since_tick slave earlier) unset
        ∙ ap {B = ℕ} (λ (b : Bool). if is_at is_tick slave event || false then 0 else if b then syncs_since_tick slave earlier + 1 else syncs_since_tick slave earlier) drawn

    by : (tick : Bool) → is_at is_tick slave event ≡ tick → (draws : Bool) → is_at draws_sync master event ≡ draws → Bounds slave master tag before late between (event ∷ earlier)
    by true t true d = absurd (both (at_kind is_tick slave event t) (at_kind draws_sync master event d))
      where
        both : is_tick event ≡ true → draws_sync event ≡ true → ⊥
        both t d = let none = tick_draws_none event t in cc
    by true t false d =
        let ticked_more : count_by (is_at is_tick slave) (events_after tag (event ∷ earlier)) ≡ count_by (is_at is_tick slave) since + 1 =
        ap (count_by (is_at is_tick slave)) longer ∙ count-yes (is_at is_tick slave) event since t in
        let same : count_by (is_at draws_sync master) (event ∷ earlier) ≡ count_by (is_at draws_sync master) earlier = count-no (is_at draws_sync master) event earlier d in (
          (λ e. absurd (omega arith)),
          (λ e. let none : count_by (is_at is_tick slave) since ≡ 0 = omega arith in
              let low : behind master before earlier < late + syncs_since_tick slave earlier = bounds.0 none in omega arith),
        )
    by false t true d =
        let ticked_more : count_by (is_at is_tick slave) (events_after tag (event ∷ earlier)) ≡ count_by (is_at is_tick slave) since =
        ap (count_by (is_at is_tick slave)) longer ∙ count-no (is_at is_tick slave) event since t in
        let same : count_by (is_at draws_sync master) (event ∷ earlier) ≡ count_by (is_at draws_sync master) earlier + 1 = count-yes (is_at draws_sync master) event earlier d in
        let total : syncs_since_tick slave (event ∷ earlier) ≡ syncs_since_tick slave earlier + 1 =
        counted ∙ ap {B = ℕ} (λ (b : Bool). if b || false then 0 else if is_at draws_sync master event then syncs_since_tick slave earlier + 1 else syncs_since_tick slave earlier) t
        ∙ ap {B = ℕ} (λ (b : Bool). if b then syncs_since_tick slave earlier + 1 else syncs_since_tick slave earlier) d in (
          (λ e. let low : behind master before earlier < late + syncs_since_tick slave earlier = bounds.0 (sym ticked_more ∙ e) in omega arith),
          (λ e. let low : behind master before earlier < late + between + syncs_since_tick slave earlier = bounds.1 (omega arith) in omega arith),
        )
    by false t false d =
        let ticked_more : count_by (is_at is_tick slave) (events_after tag (event ∷ earlier)) ≡ count_by (is_at is_tick slave) since =
        ap (count_by (is_at is_tick slave)) longer ∙ count-no (is_at is_tick slave) event since t in
        let same : count_by (is_at draws_sync master) (event ∷ earlier) ≡ count_by (is_at draws_sync master) earlier = count-no (is_at draws_sync master) event earlier d in
        let total : syncs_since_tick slave (event ∷ earlier) ≡ syncs_since_tick slave earlier =
        counted ∙ ap {B = ℕ} (λ (b : Bool). if b || false then 0 else if is_at draws_sync master event then syncs_since_tick slave earlier + 1 else syncs_since_tick slave earlier) t
        ∙ ap {B = ℕ} (λ (b : Bool). if b then syncs_since_tick slave earlier + 1 else syncs_since_tick slave earlier) d in (
          (λ e. let low : behind master before earlier < late + syncs_since_tick slave earlier = bounds.0 (sym ticked_more ∙ e) in omega arith),
          (λ e. let low : behind master before earlier < late + between + syncs_since_tick slave earlier = bounds.1 (omega arith) in omega arith),
        )

-- what is fresh is so for each slave
IsFresh-for : (late : ℕ) (network : Network) (slave : NodeName) (run : Run) → IsFresh late network run → IsFreshFor late network slave run
IsFresh-for late network slave [] fresh = tt
IsFresh-for late network slave (event ∷ earlier) fresh = ((λ here. fresh.0), IsFresh-for late network slave earlier fresh.1)

-- a premise on all slaves is one on each
pub for_slave : (limits : Limits) (network : Network) (slave : NodeName) (run : Run) → IsFreshAndTicked limits network run → IsFreshAndTickedFor limits network slave run
for_slave limits network slave run premise = record {
  apart = premise.apart;
  accepted = premise.accepted;
  fresh = IsFresh-for limits.late network slave run premise.fresh;
  ticked = premise.ticked slave;
}

-- a message that was fresh when it was used
fresh_then : (late : ℕ) (network : Network) (slave : NodeName) (run : Run) (p origin : Place) → IsFreshFor late network slave run → IsIn run p → site_of p.event ≡ slave
    → is_used (outcome_of network p.earlier p.event) ≡ true → origin_heard p ≡ Some origin → drawn_later origin p.earlier < late
fresh_then late network slave [] p origin fresh there site used heard = cc
fresh_then late network slave (event ∷ earlier) p origin fresh there site used heard =
    at (length earlier == tag_of p) there (λ (within : IsIn earlier p). fresh_then late network slave earlier p origin fresh.1 within site used heard)
  where
    at : (same : Bool) → (if same then Some (place event earlier) else place_at earlier (tag_of p)) ≡ Some p
        → (IsIn earlier p → drawn_later origin p.earlier < late) → drawn_later origin p.earlier < late
    at true there rest =
        let same : place event earlier ≡ p = cc in
        let now : site_of p.event ≡ slave → IsFreshAt late network p.earlier p.event =
        subst (λ (o : Place). site_of o.event ≡ slave → IsFreshAt late network o.earlier o.event) same fresh.0 in
        subst (λ (o : Option Place). IfSome o (λ origin. drawn_later origin p.earlier < late)) heard (now site used)
    at false there rest = rest there

ticked_now : (between : ℕ) (slave : NodeName) (run : Run) → IsTickedAt between slave run → syncs_since_tick slave run ≤ between
ticked_now between slave [] ticked = omega arith
ticked_now between slave (event ∷ earlier) ticked = ticked.0

-- since a message was used
bounds_since : (late between : ℕ) (network : Network) (slave master : NodeName) (p origin : Place) → site_of p.event ≡ slave → is_used (outcome_of network p.earlier p.event) ≡ true
    → origin_heard p ≡ Some origin → is_at draws_sync master origin.event ≡ true
    → (run : Run) → IsIn run p → IsFreshFor late network slave run → IsTickedAt between slave run
    → count_by (is_at is_set_master slave) (events_after (tag_of p) run) ≡ 0 → present_master slave run ≡ Some master
    → Bounds slave master (tag_of p) (count_by (is_at draws_sync master) origin.earlier) late between run
bounds_since late between network slave master p origin site used heard drew [] there fresh ticked unset present = cc
bounds_since late between network slave master p origin site used heard drew (event ∷ earlier) there fresh ticked unset present =
    at (length earlier == tag_of p) there
    (λ within none follows. bounds_since late between network slave master p origin site used heard drew earlier within fresh.1 ticked.1 none follows)
  where
    before : ℕ
    before = count_by (is_at draws_sync master) origin.earlier

    now : drawn_later origin p.earlier ≡ behind master before p.earlier
    now = ap (λ (kind : Event → Bool). count_by kind p.earlier - (count_by kind origin.earlier + 1)) (draws_with-sync master origin.event drew)

    at : (same : Bool) → (if same then Some (place event earlier) else place_at earlier (tag_of p)) ≡ Some p
        → (IsIn earlier p → count_by (is_at is_set_master slave) (events_after (tag_of p) earlier) ≡ 0 → present_master slave earlier ≡ Some master
        → Bounds slave master (tag_of p) before late between earlier)
        → Bounds slave master (tag_of p) before late between (event ∷ earlier)
    at true there_now rest =
        let same : place event earlier ≡ p = cc in
        let copy = some_step (origin_of p.earlier) (heard_copy p.event) heard in
        let none : draws_sync p.event ≡ false = heard_draws_none p.event copy.0 copy.1 in
        let low : behind master before p.earlier < late = subst (λ n. n < late) now (fresh_then late network slave (event ∷ earlier) p origin fresh there site used heard) in
        let still : count_by (is_at draws_sync master) (p.event ∷ p.earlier) ≡ count_by (is_at draws_sync master) p.earlier =
        count-no (is_at draws_sync master) p.event p.earlier (ap (λ (b : Bool). b && is_named (site_of p.event) master) none) in
        subst (λ (o : Place). Bounds slave master (tag_of p) before late between (o.event ∷ o.earlier)) (sym same)
        ((λ e. omega arith), (λ e. omega arith))
    at false there_now rest =
        let below = place_at-bound earlier (tag_of p) p there_now in
        let longer = events_after-later event earlier (tag_of p) below in
        let none : count_by (is_at is_set_master slave) (event ∷ events_after (tag_of p) earlier) ≡ 0 = sym (ap (count_by (is_at is_set_master slave)) longer) ∙ unset in
        let not_set : is_at is_set_master slave event ≡ false = false_from_ne_true (is_at is_set_master slave event)
        (λ set. omega (arith, count-yes (is_at is_set_master slave) event (events_after (tag_of p) earlier) set)) in
        let follows : present_master slave earlier ≡ Some master = sym (present_master-later slave event earlier not_set) ∙ present in
        one_more slave master (tag_of p) before late between event earlier below not_set follows (ticked_now between slave earlier ticked.1)
        (rest there_now (sym (count-no (is_at is_set_master slave) event (events_after (tag_of p) earlier) not_set) ∙ none) follows)

-- runs that are fresh and ticked for a slave
pub reach-fresh_ticked : (limits : Limits) (network : Network) (slave : NodeName) (run : Run) → IsFreshAndTickedFor limits network slave run
    → IsWithinReach (limits.late + limits.between_ticks + limits.between_ticks) network slave run
reach-fresh_ticked limits network slave run premise = record {
  held = λ p master origin there here used window present heard drew.
      let few : syncs_since_tick slave run ≤ limits.between_ticks = ticked_now limits.between_ticks slave run premise.ticked in
      let bounds = bounds_since limits.late limits.between_ticks network slave master p origin here used heard drew run there premise.fresh premise.ticked window.masters present in
      let low : behind master (count_by (is_at draws_sync master) origin.earlier) run < limits.late + limits.between_ticks + syncs_since_tick slave run = bounds.1 window.ticks in
      omega arith;
  used = λ p origin there here used heard.
      let low : drawn_later origin p.earlier < limits.late = fresh_then limits.late network slave run p origin premise.fresh there here used heard in omega arith;
}

-- no sequence has drawn more than one turn
few_drawn : (network : Network) (run : Run) → IsWithinTurn network run → (earlier : Run) (event : Event)
    → ((kind : Event → Bool) → count_by kind earlier ≤ count_by kind run) → count_by (draws_with event) earlier ≤ 65536
few_drawn network run premise earlier (Sync node at) fewer = let few = premise.one_turn.syncs node in omega (arith, fewer (is_at draws_sync node))
few_drawn network run premise earlier (SyncOne node at) fewer = let few = premise.one_turn.syncs node in omega (arith, fewer (is_at draws_sync node))
few_drawn network run premise earlier (Request node at) fewer = let few = premise.one_turn.requests node in omega (arith, fewer (is_at is_request node))
few_drawn network run premise earlier _ fewer = omega (arith, count-none earlier)

-- runs in which no number has come round
pub reach-one_turn : (network : Network) (slave : NodeName) (run : Run) → IsWithinTurn network run → IsWithinReach 65536 network slave run
reach-one_turn network slave run premise = record {
  held = λ p master origin there here used window present heard drew. let few = premise.one_turn.syncs master in omega arith;
  used = λ p origin there here used heard.
      let few : count_by (draws_with origin.event) p.earlier ≤ 65536 = few_drawn network run premise p.earlier origin.event (λ kind. count-within kind run (tag_of p) p there) in
      omega arith;
}
