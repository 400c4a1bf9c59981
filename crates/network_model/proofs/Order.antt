-- Reports don't go back: while the window holds a completion, what completes later isn't behind it, and numbers within half
-- a turn of the front are in the order of their sequenceIds.
use Rattle.std.proofs.Common.{◌≡◌, ◌∙◌, ℕ, ◌+◌, ◌-◌, ◌<◌, ◌≤◌, Bool, true, false, List, [], ◌∷◌, ◌++◌, length, Option, Some, None, IsOk, refl, sym, ap, subst, arith, option_map, option_and_then, if◌then◌else◌}
use Rattle.std.specs.Prelude.{count_by, ◌==◌, ◌&&◌, slice_get, option_to_list}
use Rattle.std.proofs.lemmas.Bool.Decides.{nat_tests}
use Rattle.std.proofs.lemmas.Bool.{and_right, false_from_ne_true}
use Rattle.ptp_units.specs.Sequence.{of_count}
use Rattle.slave_port.specs.declared.heard.Report.{Report}
use Rattle.slave_port.specs.History as calls
use Rattle.slave_port.specs.History.{Call}
use Rattle.slave_port.specs.Window.{Window}
use Rattle.slave_port.specs.Usable.{is_not_newer}
use Rattle.slave_port.specs.Completion.{SyncCompletion}
use Rattle.slave_port.specs.Kept.{kept, sync_completion, last_sync_completion}
use Rattle.slave_port.proofs.Uses.{sync_completion-newer}
use Rattle.network_model.specs.declared.event.Event.{Event}
use Rattle.network_model.specs.Network.{Network, NodeName, PortSetup, is_named}
use Rattle.network_model.specs.Run.{Run, Place, place, place_at, tag_of, IsIn, until, site_of, events_after}
use Rattle.network_model.specs.Kinds.{is_at, draws_sync, is_tick, is_set_master, named_master}
use Rattle.network_model.specs.Numbering.{number_of}
use Rattle.network_model.specs.Truth.{master_at, slave_at, origin_heard}
use Rattle.network_model.specs.SlaveHistory.{slave_setup, call_made, history_of}
use Rattle.network_model.specs.Outcome.{outcome_of, IsRun}
use Rattle.network_model.specs.Present.{present_master}
use Rattle.network_model.specs.Premises.{ordered_limits}
use Rattle.network_model.specs.Order.{sync_number, completed_at, IsOneWindow, ReportsDontGoBack}
use Rattle.network_model.proofs.Places.{IsIn-before, IsIn-within, place_at-later, place_at-bound, IsRun-place_at}
use Rattle.network_model.proofs.Sequences.{count-yes, count-no, count-place_at}
use Rattle.network_model.proofs.Sites.{named-self, named-same, at_site}
use Rattle.network_model.proofs.Journeys.{IsIn-last}
use Rattle.network_model.proofs.Calls.{events_after-later, history-here, history-elsewhere, ticks, sets, call_kind, silent}
use Rattle.network_model.proofs.Windows.{CameFrom}
use Rattle.network_model.proofs.Reach.{draws_with-sync}
use Rattle.network_model.proofs.Pairing.{NumbersMeet, used_near, meet_for, place_at-until, until_each}
use Rattle.network_model.proofs.HeldMessages.{completions_came, same_told}
use Rattle.network_model.proofs.OneSync.{one_sync}
use Rattle.network_model.proofs.Reports.{first_of, IsMadeOf, made_of, report_event}

-- two numbers within half a turn of the front are in order, where the second sequenceId isn't behind the first
in_order : (first a b front : ℕ) → a + 1 ≤ front → b + 1 ≤ front → front - (a + 1) < 32768 → front - (b + 1) < 32768
    → is_not_newer (Some (of_count (first + a))) (of_count (first + b)) ≡ false → a ≤ b
in_order first a b front in_a in_b near near_too newer = grind (arith, nat_tests)

-- a completion is of a Sync event that has at least so many Syncs of its master before it
pub record IsAtLeast (run : Run) (master : NodeName) (least : ℕ) (c : SyncCompletion) : Type 0 where
  pub origin : Place
  pub of_tag : option_and_then origin_heard (place_at run c.sync_tag) ≡ Some origin
  pub drawn : is_at draws_sync master origin.event ≡ true
  pub order : least ≤ count_by (is_at draws_sync master) origin.earlier

-- a number by the count of its sequence
number_by_count : (master : NodeName) (port : PortSetup) (o : Place) → is_at draws_sync master o.event ≡ true → number_of port o ≡ port.first + count_by (is_at draws_sync master) o.earlier
number_by_count master port o drawn = ap (λ (kind : Event → Bool). port.first + count_by kind o.earlier) (draws_with-sync master o.event drawn)

module _ (network : Network) (port : PortSetup) (slave : NodeName) (slave_is : slave_at network slave ≡ Some port) (run : Run) (meet : NumbersMeet 32768 network slave run)
    (master : NodeName) (least : ℕ) where
  -- what completes while a completion is in the window isn't behind it
  follows : (q : Place) (call : Call) (c next : SyncCompletion) → IsIn run q → site_of q.event ≡ slave → call_made network port q.event q.earlier ≡ Some call
      → sync_completion (slave_setup port) (history_of network port slave q.earlier) call ≡ Some next
      → last_sync_completion (slave_setup port) (history_of network port slave q.earlier) ≡ Some c
      → IsAtLeast run master least c → IsAtLeast run master least next
  follows q call c next there site made brought last good =
      let before : IsRun network q.earlier = IsRun-place_at network run (tag_of q) q meet.accepted there in
      let came = first_of (CameFrom network port slave (sync_completion (slave_setup port)) 1 q.earlier)
      ((kept (slave_setup port) (history_of network port slave q.earlier)).completions.since ++ (kept (slave_setup port) (history_of network port slave q.earlier)).completions.before)
      c (completions_came network port slave slave_is q.earlier before) last in
      let now = one_sync 32768 (omega arith) network port slave slave_is run meet q there site call made next brought in
      let old = one_sync 32768 (omega arith) network port slave slave_is run meet came.p (IsIn-within run q came.p there came.there) came.site came.call came.made c came.brought in
      let same = same_told network slave q.earlier came.p now.source old.source came.there old.unset came.no_master now.told old.told in
      let origins : Some old.journey.origin ≡ Some good.origin = sym (ap (option_and_then origin_heard) old.arrives.there ∙ old.heard) ∙ good.of_tag in
      let one : old.journey.origin ≡ good.origin = cc in
      let old_master : old.told.master ≡ master =
      sym (at_site draws_sync old.told.master old.journey.origin.event old.drawn) ∙ ap (λ (o : Place). site_of o.event) one ∙ at_site draws_sync master good.origin.event good.drawn in
      let now_master : now.told.master ≡ master = same.1 ∙ old_master in
      let drawn : is_at draws_sync master now.journey.origin.event ≡ true = subst (λ (n : NodeName). is_at draws_sync n now.journey.origin.event ≡ true) now_master now.drawn in
      let old_drawn : is_at draws_sync master old.journey.origin.event ≡ true = subst (λ (n : NodeName). is_at draws_sync n old.journey.origin.event ≡ true) old_master old.drawn in
      let present : present_master slave q.earlier ≡ Some master =
      ap (option_and_then (λ (set : Place). named_master set.event)) now.told.last ∙ now.told.named ∙ ap (λ (n : NodeName). Some n) now_master in
      let near = meet.held q there came.p master old.journey.origin came.there came.site old.used_now (record { ticks = came.few_ticks; masters = came.no_master }) present old.heard_now old_drawn in
      let near_too = used_near master q.earlier now.journey.origin 32768 drawn (meet.used q now.journey.origin there site now.used_now now.heard_now) in
      let old_in = count-place_at (is_at draws_sync master) q.earlier (tag_of old.journey.origin) old.journey.origin (IsIn-within q.earlier came.p old.journey.origin came.there old.there) old_drawn in
      let now_in = count-place_at (is_at draws_sync master) q.earlier (tag_of now.journey.origin) now.journey.origin now.there drawn in
      let number : next.number ≡ of_count (now.told.port.first + count_by (is_at draws_sync master) now.journey.origin.earlier) =
      now.number_is ∙ ap of_count (number_by_count master now.told.port now.journey.origin drawn) in
      let old_number : c.number ≡ of_count (now.told.port.first + count_by (is_at draws_sync master) old.journey.origin.earlier) =
      old.number_is ∙ ap (λ (o : PortSetup). of_count (number_of o old.journey.origin)) (sym same.2) ∙ ap of_count (number_by_count master now.told.port old.journey.origin old_drawn) in
      let newer : is_not_newer (Some c.number) next.number ≡ false =
      sym (ap (λ (l : Option SyncCompletion). is_not_newer (option_map (λ (c : SyncCompletion). c.number) l) next.number) last)
      ∙ sync_completion-newer (slave_setup port) (history_of network port slave q.earlier) call next brought in
      let newer_numbers : is_not_newer (Some (of_count (now.told.port.first + count_by (is_at draws_sync master) old.journey.origin.earlier)))
      (of_count (now.told.port.first + count_by (is_at draws_sync master) now.journey.origin.earlier)) ≡ false =
      subst (λ (n : ℕ). is_not_newer (Some n) (of_count (now.told.port.first + count_by (is_at draws_sync master) now.journey.origin.earlier)) ≡ false) old_number
      (subst (λ (n : ℕ). is_not_newer (Some c.number) n ≡ false) number newer) in
      let order = in_order now.told.port.first (count_by (is_at draws_sync master) old.journey.origin.earlier) (count_by (is_at draws_sync master) now.journey.origin.earlier)
      (count_by (is_at draws_sync master) q.earlier) old_in now_in near near_too newer_numbers in
      let least_old : least ≤ count_by (is_at draws_sync master) old.journey.origin.earlier =
      subst (λ (o : Place). least ≤ count_by (is_at draws_sync master) o.earlier) (sym one) good.order in
      record {
        origin = now.journey.origin;
        of_tag = ap (option_and_then origin_heard) now.arrives.there ∙ now.heard;
        drawn = drawn;
        order = omega arith;
      }

-- the first of these completions is at least so far on
abbrev FirstIs : Run → NodeName → ℕ → List SyncCompletion → Type 0
FirstIs run master least es = (c : SyncCompletion) × (slice_get es 0 ≡ Some c) × IsAtLeast run master least c

-- after so many ticks a window still has it
abbrev Has : Run → NodeName → ℕ → ℕ → Window SyncCompletion → Type 0
Has run master least count window =
    (count ≡ 0 → FirstIs run master least window.since) × (count ≤ 1 → FirstIs run master least (window.since ++ window.before))

-- a call that brings a completion hears a message
completed_first : (network : Network) (port : PortSetup) (slave : NodeName) (run : Run) (master : NodeName) (least : ℕ) (history : List Call) (call : Call) (c : SyncCompletion) (count : ℕ)
    → sync_completion (slave_setup port) history call ≡ Some c → IsAtLeast run master least c → Has run master least count (kept (slave_setup port) (call ∷ history)).completions
completed_first network port slave run master least history (calls.SetMaster m) c count brought good = cc
completed_first network port slave run master least history calls.Tick c count brought good = cc
completed_first network port slave run master least history (calls.NextRequest tag) c count brought good = cc
completed_first network port slave run master least history (calls.RequestLeft number t3) c count brought good = cc
completed_first network port slave run master least history (calls.Event m t2 tag) c count brought good =
    subst (λ (b : Option SyncCompletion). Has run master least count
    (record { since = option_to_list b ++ (kept (slave_setup port) history).completions.since; before = (kept (slave_setup port) history).completions.before })) (sym brought)
    ((λ e. (c, refl, good)), (λ e. (c, refl, good)))
completed_first network port slave run master least history (calls.General m tag) c count brought good =
    subst (λ (b : Option SyncCompletion). Has run master least count
    (record { since = option_to_list b ++ (kept (slave_setup port) history).completions.since; before = (kept (slave_setup port) history).completions.before })) (sym brought)
    ((λ e. (c, refl, good)), (λ e. (c, refl, good)))

-- one event more
one_event_more : (network : Network) (port : PortSetup) (slave : NodeName) → slave_at network slave ≡ Some port → (run : Run) → NumbersMeet 32768 network slave run
    → (master : NodeName) (least tag : ℕ) (event : Event) (earlier : Run) → IsIn run (place event earlier) → IsOk (outcome_of network earlier event) → tag < length earlier
    → is_at is_set_master slave event ≡ false
    → Has run master least (count_by (is_at is_tick slave) (events_after tag earlier)) (kept (slave_setup port) (history_of network port slave earlier)).completions
    → Has run master least (count_by (is_at is_tick slave) (events_after tag (event ∷ earlier))) (kept (slave_setup port) (history_of network port slave (event ∷ earlier))).completions
one_event_more network port slave slave_is run meet master least tag event earlier there accepted below unset has =
    at (is_named (site_of event) slave) refl (call_made network port event earlier) refl
  where
    before : List Call
    before = history_of network port slave earlier

    longer : events_after tag (event ∷ earlier) ≡ event ∷ events_after tag earlier
    longer = events_after-later event earlier tag below

    window : Window SyncCompletion
    window = (kept (slave_setup port) (history_of network port slave earlier)).completions

    quiet : is_at is_tick slave event ≡ false
        → Has run master least (count_by (is_at is_tick slave) (events_after tag (event ∷ earlier))) (kept (slave_setup port) (history_of network port slave earlier)).completions
    quiet none =
        let same : count_by (is_at is_tick slave) (events_after tag (event ∷ earlier)) ≡ count_by (is_at is_tick slave) (events_after tag earlier) =
        ap (count_by (is_at is_tick slave)) longer ∙ count-no (is_at is_tick slave) event (events_after tag earlier) none in
        subst (λ (n : ℕ). Has run master least n (kept (slave_setup port) (history_of network port slave earlier)).completions) (sym same) has

    ticked : is_at is_tick slave event ≡ true
        → Has run master least (count_by (is_at is_tick slave) (events_after tag (event ∷ earlier)))
        (record { since = []; before = (kept (slave_setup port) (history_of network port slave earlier)).completions.since })
    ticked now =
        let more : count_by (is_at is_tick slave) (events_after tag (event ∷ earlier)) ≡ count_by (is_at is_tick slave) (events_after tag earlier) + 1 =
        ap (count_by (is_at is_tick slave)) longer ∙ count-yes (is_at is_tick slave) event (events_after tag earlier) now in
        ((λ e. absurd (omega arith)), (λ e. has.0 (omega arith)))

    heard : (call : Call) (brought : Option SyncCompletion) → site_of event ≡ slave → call_made network port event earlier ≡ Some call
        → sync_completion (slave_setup port) (history_of network port slave earlier) call ≡ brought → is_at is_tick slave event ≡ false
        → Has run master least (count_by (is_at is_tick slave) (events_after tag (event ∷ earlier)))
        (record {
          since = option_to_list brought ++ (kept (slave_setup port) (history_of network port slave earlier)).completions.since;
          before = (kept (slave_setup port) (history_of network port slave earlier)).completions.before;
        })
    heard call None site made brought none = quiet none
    heard call (Some next) site made brought none =
        let still = quiet none in
        let good : count_by (is_at is_tick slave) (events_after tag (event ∷ earlier)) ≤ 1 → IsAtLeast run master least next =
        λ few. let last = still.1 few in follows network port slave slave_is run meet master least (place event earlier) call last.0 next there site made brought last.1 last.2 in
        ((λ e. (next, refl, good (omega arith))), (λ e. (next, refl, good e)))

    with_site : (b c : Bool) → b ≡ c → is_named (site_of event) slave ≡ true → (b && is_named (site_of event) slave) ≡ c
    with_site true c e here = here ∙ e
    with_site false c e here = e

    called : (call : Call) → site_of event ≡ slave → call_made network port event earlier ≡ Some call → is_at is_tick slave event ≡ ticks call → is_at is_set_master slave event ≡ sets call
        → Has run master least (count_by (is_at is_tick slave) (events_after tag (event ∷ earlier))) (kept (slave_setup port) (call ∷ history_of network port slave earlier)).completions
    called (calls.SetMaster m) site made tick set = cc
    called calls.Tick site made tick set = ticked tick
    called (calls.NextRequest t) site made tick set = quiet tick
    called (calls.RequestLeft number t3) site made tick set = quiet tick
    called (calls.Event m t2 t) site made tick set =
        heard (calls.Event m t2 t) (sync_completion (slave_setup port) (history_of network port slave earlier) (calls.Event m t2 t)) site made refl tick
    called (calls.General m t) site made tick set =
        heard (calls.General m t) (sync_completion (slave_setup port) (history_of network port slave earlier) (calls.General m t)) site made refl tick

    at : (named : Bool) → is_named (site_of event) slave ≡ named → (call : Option Call) → call_made network port event earlier ≡ call
        → Has run master least (count_by (is_at is_tick slave) (events_after tag (event ∷ earlier))) (kept (slave_setup port) (history_of network port slave (event ∷ earlier))).completions
    at false elsewhere call made =
        subst (λ (h : List Call). Has run master least (count_by (is_at is_tick slave) (events_after tag (event ∷ earlier))) (kept (slave_setup port) h).completions)
        (sym (history-elsewhere network port slave event earlier elsewhere)) (quiet (and_right (is_tick event) (is_named (site_of event) slave) elsewhere))
    at true here None made =
        subst (λ (h : List Call). Has run master least (count_by (is_at is_tick slave) (events_after tag (event ∷ earlier))) (kept (slave_setup port) h).completions)
        (sym (history-here network port slave event earlier None here made))
        (quiet (ap (λ (b : Bool). b && is_named (site_of event) slave) (silent network port event earlier accepted made).0))
    at true here (Some call) made =
        let kind = call_kind network port event earlier call made in
        subst (λ (h : List Call). Has run master least (count_by (is_at is_tick slave) (events_after tag (event ∷ earlier))) (kept (slave_setup port) h).completions)
        (sym (history-here network port slave event earlier (Some call) here made))
        (called call (named-same (site_of event) slave here) made (with_site (is_tick event) (ticks call) kind.0 here) (with_site (is_set_master event) (sets call) kind.1 here))

-- from its completion on, the last completion in the window is at least so far on
still_there : (network : Network) (port : PortSetup) (slave : NodeName) → slave_at network slave ≡ Some port → (run : Run) → NumbersMeet 32768 network slave run
    → (master : NodeName) (least : ℕ) (p : Place) (call : Call) (c : SyncCompletion) → call_made network port p.event p.earlier ≡ Some call → is_named (site_of p.event) slave ≡ true
    → sync_completion (slave_setup port) (history_of network port slave p.earlier) call ≡ Some c → IsAtLeast run master least c
    → (part : Run) → ((q : Place) → IsIn part q → IsIn run q) → IsRun network part → IsIn part p
    → count_by (is_at is_set_master slave) (events_after (tag_of p) part) ≡ 0
    → Has run master least (count_by (is_at is_tick slave) (events_after (tag_of p) part)) (kept (slave_setup port) (history_of network port slave part)).completions
still_there network port slave slave_is run meet master least p call c made here brought good [] embed accepted there unset = cc
still_there network port slave slave_is run meet master least p call c made here brought good (event ∷ earlier) embed accepted there unset =
    at (length earlier == tag_of p) there
    (λ within none. still_there network port slave slave_is run meet master least p call c made here brought good earlier
    (λ q inside. embed q (place_at-later event earlier (tag_of q) q inside)) accepted.1 within none)
  where
    setup : Call → List Call → Window SyncCompletion
    setup call history = (kept (slave_setup port) (call ∷ history)).completions

    before : List Call
    before = history_of network port slave earlier

    count : Run → ℕ
    count part = count_by (is_at is_tick slave) (events_after (tag_of p) part)

    at : (same : Bool) → (if same then Some (place event earlier) else place_at earlier (tag_of p)) ≡ Some p
        → (IsIn earlier p → count_by (is_at is_set_master slave) (events_after (tag_of p) earlier) ≡ 0
        → Has run master least (count_by (is_at is_tick slave) (events_after (tag_of p) earlier)) (kept (slave_setup port) (history_of network port slave earlier)).completions)
        → Has run master least (count_by (is_at is_tick slave) (events_after (tag_of p) (event ∷ earlier))) (kept (slave_setup port) (history_of network port slave (event ∷ earlier))).completions
    at true there rest =
        let same : place event earlier ≡ p = cc in
        subst (λ (o : Place). Has run master least (count_by (is_at is_tick slave) (events_after (tag_of p) (o.event ∷ o.earlier))) (kept (slave_setup port) (history_of network port slave (o.event ∷ o.earlier))).completions)
        (sym same)
        (subst (λ (h : List Call). Has run master least (count_by (is_at is_tick slave) (events_after (tag_of p) (p.event ∷ p.earlier))) (kept (slave_setup port) h).completions)
        (sym (history-here network port slave p.event p.earlier (Some call) here made))
        (completed_first network port slave run master least (history_of network port slave p.earlier) call c
        (count_by (is_at is_tick slave) (events_after (tag_of p) (p.event ∷ p.earlier))) brought good))
    at false there rest =
        let below = place_at-bound earlier (tag_of p) p there in
        let longer = events_after-later event earlier (tag_of p) below in
        let none : count_by (is_at is_set_master slave) (event ∷ events_after (tag_of p) earlier) ≡ 0 = sym (ap (count_by (is_at is_set_master slave)) longer) ∙ unset in
        let not_set : is_at is_set_master slave event ≡ false = false_from_ne_true (is_at is_set_master slave event)
        (λ set. omega (arith, count-yes (is_at is_set_master slave) event (events_after (tag_of p) earlier) set)) in
        one_event_more network port slave slave_is run meet master least (tag_of p) event earlier (embed (place event earlier) (IsIn-last event earlier)) accepted.0 below not_set
        (rest there (sym (count-no (is_at is_set_master slave) event (events_after (tag_of p) earlier) not_set) ∙ none))

-- the number of a report's Sync
number_reported : (network : Network) (run : Run) (report : Report) (origin : Place) (master : NodeName) (port : PortSetup)
    → option_and_then origin_heard (place_at run report.sync_tag) ≡ Some origin → is_at draws_sync master origin.event ≡ true → master_at network master ≡ Some port
    → sync_number network run report ≡ Some (number_of port origin)
number_reported network run report origin master port is drawn port_is =
    ap (option_and_then (λ (origin : Place). option_map (λ (port : PortSetup). number_of port origin) (master_at network (site_of origin.event)))) is
    ∙ ap (λ (n : NodeName). option_map (λ (port : PortSetup). number_of port origin) (master_at network n)) (at_site draws_sync master origin.event drawn)
    ∙ ap (option_map (λ (port : PortSetup). number_of port origin)) port_is

-- in runs that are fresh and ticked within half of the limits
pub reports_dont_go_back : ReportsDontGoBack
reports_dont_go_back network run slave first second premise reported reported_later order window =
    let meet = meet_for ordered_limits network slave run premise in
    let early : Place = reported.answered in
    let late : Place = reported_later.answered in
    let early_run = IsRun-until network run early reported.there premise.accepted in
    let late_run = IsRun-until network run late reported_later.there premise.accepted in
    let one : IsMadeOf network (until early) slave first = subst (λ (n : NodeName). IsMadeOf network (until early) n first) reported.site (made_of network early first early_run reported.reports) in
    let two : IsMadeOf network (until late) slave second = subst (λ (n : NodeName). IsMadeOf network (until late) n second) reported_later.site (made_of network late second late_run reported_later.reports) in
    let p_in : IsIn run one.sync_is.p = place_at-until run early (tag_of one.sync_is.p) one.sync_is.p reported.there one.sync_is.there in
    let q_in : IsIn run two.sync_is.p = place_at-until run late (tag_of two.sync_is.p) two.sync_is.p reported_later.there two.sync_is.there in
    let c = one_sync 32768 (omega arith) network one.port slave one.slave_is run meet one.sync_is.p p_in one.sync_is.site one.sync_is.call one.sync_is.made one.sync one.sync_is.brought in
    let least : ℕ = count_by (is_at draws_sync c.told.master) c.journey.origin.earlier in
    let good : IsAtLeast run c.told.master least one.sync = record {
      origin = c.journey.origin;
      of_tag = ap (option_and_then origin_heard) c.arrives.there ∙ c.heard;
      drawn = c.drawn;
      order = omega arith;
    } in
    let p_bound = place_at-bound (until early) (tag_of one.sync_is.p) one.sync_is.p one.sync_is.there in
    let p_before : IsIn late.earlier one.sync_is.p = IsIn-before run late one.sync_is.p reported_later.there p_in (below_next early.event early.earlier (tag_of one.sync_is.p) (tag_of late) p_bound order) in
    let completed : completed_at first ≡ tag_of one.sync_is.p = ap completed_at one.is ∙ c.completed in
    let window_is : IsOneWindow late.earlier slave (tag_of one.sync_is.p) = subst (λ (t : ℕ). IsOneWindow late.earlier slave t) completed window in
    let ports : Some two.port ≡ Some one.port = sym two.slave_is ∙ one.slave_is in
    let port_is : two.port ≡ one.port = cc in
    let before = still_there network one.port slave one.slave_is run meet c.told.master least one.sync_is.p one.sync_is.call one.sync one.sync_is.made
    (subst (λ (n : NodeName). is_named (site_of one.sync_is.p.event) n ≡ true) one.sync_is.site (named-self (site_of one.sync_is.p.event))) one.sync_is.brought good late.earlier (λ q inside. IsIn-within run late q reported_later.there inside) late_run.1 p_before window_is.masters in
    let kinds = report_event network late second reported_later.reports in
    let untick : is_at is_tick slave late.event ≡ false = ap (λ (b : Bool). b && is_named (site_of late.event) slave) kinds.0 in
    let unset : is_at is_set_master slave late.event ≡ false = ap (λ (b : Bool). b && is_named (site_of late.event) slave) kinds.1 in
    let below = place_at-bound late.earlier (tag_of one.sync_is.p) one.sync_is.p p_before in
    let now = one_event_more network one.port slave one.slave_is run meet c.told.master least (tag_of one.sync_is.p) late.event late.earlier reported_later.there late_run.0 below unset before in
    let few : count_by (is_at is_tick slave) (events_after (tag_of one.sync_is.p) (until late)) ≤ 1 =
    subst (λ (n : ℕ). n ≤ 1) (sym (ap (count_by (is_at is_tick slave)) (events_after-later late.event late.earlier (tag_of one.sync_is.p) below)
    ∙ count-no (is_at is_tick slave) late.event (events_after (tag_of one.sync_is.p) late.earlier) untick)) window_is.ticks in
    let last = now.1 few in
    let lasts : Some last.0 ≡ Some two.sync = sym last.1 ∙ subst (λ (o : PortSetup). last_sync_completion (slave_setup o) (history_of network o slave (until late)) ≡ Some two.sync) port_is two.last in
    let good_too : IsAtLeast run c.told.master least two.sync = subst (IsAtLeast run c.told.master least) (let same : last.0 ≡ two.sync = cc in same) last.2 in
    let of_first : option_and_then origin_heard (place_at run first.sync_tag) ≡ Some c.journey.origin =
    ap (λ (r : Report). option_and_then origin_heard (place_at run r.sync_tag)) one.is ∙ good.of_tag in
    let of_second : option_and_then origin_heard (place_at run second.sync_tag) ≡ Some good_too.origin =
    ap (λ (r : Report). option_and_then origin_heard (place_at run r.sync_tag)) two.is ∙ good_too.of_tag in
    record {
      earlier = number_of c.told.port c.journey.origin;
      later = number_of c.told.port good_too.origin;
      of_first = number_reported network run first c.journey.origin c.told.master c.told.port of_first c.drawn c.told.port_is;
      of_second = number_reported network run second good_too.origin c.told.master c.told.port of_second good_too.drawn c.told.port_is;
      order = ordered (number_of c.told.port c.journey.origin) (number_of c.told.port good_too.origin) c.told.port.first least (count_by (is_at draws_sync c.told.master) good_too.origin.earlier)
          (number_by_count c.told.master c.told.port c.journey.origin c.drawn) (number_by_count c.told.master c.told.port good_too.origin good_too.drawn) good_too.order;
    }
  where
    IsRun-until : (network : Network) (run : Run) (p : Place) → IsIn run p → IsRun network run → IsRun network (until p)
    IsRun-until network run p there accepted = until_each (IsRun network) (λ event earlier accepted. accepted.1) run p there accepted

    below_next : (event : Event) (earlier : Run) (t u : ℕ) → t < length (event ∷ earlier) → length earlier < u → t < u
    below_next event earlier t u bound order = omega arith

    ordered : (m n first a b : ℕ) → m ≡ first + a → n ≡ first + b → a ≤ b → m ≤ n
    ordered m n first a b e f order = omega arith
