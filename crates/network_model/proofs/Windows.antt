-- What a window of a slave holds came at events of the run: at each there was a call that brought it, and since then
-- the slave ticked at most once and was told no master. By this each held message and each completion names its event.
use Rattle.std.proofs.Common.{◌≡◌, ◌∙◌, ℕ, ◌+◌, ◌≤◌, Bool, true, false, List, [], ◌∷◌, ◌++◌, Option, Some, None, refl, sym, ap, subst, arith}
use Rattle.std.specs.Prelude.{option_to_list, count_by, ◌&&◌}
use Rattle.std.specs.List.{All}
use Rattle.std.proofs.lemmas.Bool.{and_right}
use Rattle.std.proofs.lemmas.List.Elements.{All-nil, All-cons, All-weaker}
use Rattle.slave_port.specs.History as calls
use Rattle.slave_port.specs.History.{Call}
use Rattle.slave_port.specs.Window.{Window, nothing, after}
use Rattle.network_model.specs.declared.event.Event.{Event}
use Rattle.network_model.specs.Network.{Network, NodeName, PortSetup, is_named}
use Rattle.network_model.specs.Run.{Run, Place, place, tag_of, IsIn, site_of, events_after}
use Rattle.network_model.specs.Kinds.{is_at, is_tick, is_set_master}
use Rattle.network_model.specs.SlaveHistory.{call_made, history_of}
use Rattle.network_model.specs.Outcome.{IsRun}
use Rattle.network_model.proofs.Places.{place_at-later, place_at-bound}
use Rattle.network_model.proofs.Sequences.{count-yes, count-no}
use Rattle.network_model.proofs.Sites.{named-same}
use Rattle.network_model.proofs.Journeys.{IsIn-last}
use Rattle.network_model.proofs.Calls.{events_after-later, events_after-last, history-here, history-elsewhere, ticks, sets, call_kind, silent}

-- an entry came at an event of the slave, after which it had at most so many ticks and was told no master
pub record CameFrom {E : Type 0} (network : Network) (port : PortSetup) (slave : NodeName) (brings : List Call → Call → Option E)
    (most : ℕ) (run : Run) (entry : E) : Type 0 where
  pub p : Place
  pub call : Call
  pub there : IsIn run p
  pub site : site_of p.event ≡ slave
  pub made : call_made network port p.event p.earlier ≡ Some call
  pub brought : brings (history_of network port slave p.earlier) call ≡ Some entry
  pub few_ticks : count_by (is_at is_tick slave) (events_after (tag_of p) run) ≤ most
  pub no_master : count_by (is_at is_set_master slave) (events_after (tag_of p) run) ≡ 0

module _ {E : Type 0} (network : Network) (port : PortSetup) (slave : NodeName) (brings : List Call → Call → Option E) where
  -- an event that is no SetMaster of the slave, and a tick of it only where one more may be
  later : (event : Event) (earlier : Run) (most more : ℕ) → is_at is_set_master slave event ≡ false
      → ((is_at is_tick slave event ≡ false) → most ≤ more) → ((is_at is_tick slave event ≡ true) → most + 1 ≤ more)
      → (entry : E) → CameFrom network port slave brings most earlier entry → CameFrom network port slave brings more (event ∷ earlier) entry
  later event earlier most more unset quiet ticked entry came =
      let below = place_at-bound earlier (tag_of came.p) came.p came.there in
      let longer : events_after (tag_of came.p) (event ∷ earlier) ≡ event ∷ events_after (tag_of came.p) earlier = events_after-later event earlier (tag_of came.p) below in
      let since : Run = events_after (tag_of came.p) earlier in
      record {
        p = came.p;
        call = came.call;
        there = place_at-later event earlier (tag_of came.p) came.p came.there;
        site = came.site;
        made = came.made;
        brought = came.brought;
        few_ticks = subst (λ (es : Run). count_by (is_at is_tick slave) es ≤ more) (sym longer) (counted (is_at is_tick slave event) refl since came.few_ticks);
        no_master = ap (count_by (is_at is_set_master slave)) longer ∙ count-no (is_at is_set_master slave) event since unset ∙ came.no_master;
      }
    where
      counted : (tick : Bool) → is_at is_tick slave event ≡ tick → (since : Run) → count_by (is_at is_tick slave) since ≤ most
          → count_by (is_at is_tick slave) (event ∷ since) ≤ more
      counted true e since few = let room : most + 1 ≤ more = ticked e in omega (arith, count-yes (is_at is_tick slave) event since e)
      counted false e since few = let room : most ≤ more = quiet e in omega (arith, count-no (is_at is_tick slave) event since e)

  module _ (kept : List Call → Window E) (start : kept [] ≡ nothing)
      (step : (call : Call) (earlier : List Call) → kept (call ∷ earlier) ≡ after call (brings earlier call) (kept earlier)) where
    -- each entry of the window
    pub window_came : (run : Run) → IsRun network run
        → All (CameFrom network port slave brings 0 run) (kept (history_of network port slave run)).since
        × All (CameFrom network port slave brings 1 run) (kept (history_of network port slave run)).before
    window_came [] accepted =
        subst (λ (w : Window E). All (CameFrom network port slave brings 0 []) w.since × All (CameFrom network port slave brings 1 []) w.before) (sym start)
        (All-nil (CameFrom network port slave brings 0 []), All-nil (CameFrom network port slave brings 1 []))
    window_came (event ∷ earlier) accepted =
        at (is_named (site_of event) slave) refl (call_made network port event earlier) refl (window_came earlier accepted.1)
      where
        whole : Window E → Type 0
        whole w = All (CameFrom network port slave brings 0 (event ∷ earlier)) w.since × All (CameFrom network port slave brings 1 (event ∷ earlier)) w.before

        before : List Call
        before = history_of network port slave earlier

        -- nothing came and nothing went
        same : is_at is_tick slave event ≡ false → is_at is_set_master slave event ≡ false
            → All (CameFrom network port slave brings 0 earlier) (kept before).since × All (CameFrom network port slave brings 1 earlier) (kept before).before
            → whole (kept before)
        same quiet unset held = (
          All-weaker (CameFrom network port slave brings 0 earlier) (CameFrom network port slave brings 0 (event ∷ earlier))
              (later event earlier 0 0 unset (λ _. omega arith) (λ tick. cc)) (kept before).since held.0,
          All-weaker (CameFrom network port slave brings 1 earlier) (CameFrom network port slave brings 1 (event ∷ earlier))
              (later event earlier 1 1 unset (λ _. omega arith) (λ tick. cc)) (kept before).before held.1,
        )

        -- a message brought this, or nothing
        heard : (call : Call) (brought : Option E) → site_of event ≡ slave → call_made network port event earlier ≡ Some call → brings before call ≡ brought
            → is_at is_tick slave event ≡ false → is_at is_set_master slave event ≡ false
            → All (CameFrom network port slave brings 0 earlier) (kept before).since × All (CameFrom network port slave brings 1 earlier) (kept before).before
            → whole (record { since = option_to_list brought ++ (kept before).since; before = (kept before).before })
        heard call None here made is quiet unset held = same quiet unset held
        heard call (Some entry) here made is quiet unset held =
            let rest = same quiet unset held in (
              All-cons (CameFrom network port slave brings 0 (event ∷ earlier)) entry (kept before).since
                  (record {
                    p = place event earlier;
                    call = call;
                    there = IsIn-last event earlier;
                    site = here;
                    made = made;
                    brought = is;
                    few_ticks = subst (λ (es : Run). count_by (is_at is_tick slave) es ≤ 0) (sym (events_after-last event earlier)) (omega arith);
                    no_master = ap (count_by (is_at is_set_master slave)) (events_after-last event earlier);
                  })
                  rest.0,
              rest.1,
            )

        -- what each kind of call leaves
        called : (call : Call) → site_of event ≡ slave → call_made network port event earlier ≡ Some call
            → is_at is_tick slave event ≡ ticks call → is_at is_set_master slave event ≡ sets call
            → All (CameFrom network port slave brings 0 earlier) (kept before).since × All (CameFrom network port slave brings 1 earlier) (kept before).before
            → whole (after call (brings before call) (kept before))
        called (calls.SetMaster master) here made tick set held = (All-nil (CameFrom network port slave brings 0 (event ∷ earlier)), All-nil (CameFrom network port slave brings 1 (event ∷ earlier)))
        called calls.Tick here made tick set held = (
          All-nil (CameFrom network port slave brings 0 (event ∷ earlier)),
          All-weaker (CameFrom network port slave brings 0 earlier) (CameFrom network port slave brings 1 (event ∷ earlier))
              (later event earlier 0 1 set (λ _. omega arith) (λ _. omega arith)) (kept before).since held.0,
        )
        called (calls.NextRequest tag) here made tick set held = same tick set held
        called (calls.RequestLeft number t3) here made tick set held = same tick set held
        called (calls.Event m t2 tag) here made tick set held =
            heard (calls.Event m t2 tag) (brings before (calls.Event m t2 tag)) here made refl tick set held
        called (calls.General m tag) here made tick set held =
            heard (calls.General m tag) (brings before (calls.General m tag)) here made refl tick set held

        with_site : (b c : Bool) → b ≡ c → is_named (site_of event) slave ≡ true → (b && is_named (site_of event) slave) ≡ c
        with_site true c e here = here ∙ e
        with_site false c e here = e

        at : (named : Bool) → is_named (site_of event) slave ≡ named → (call : Option Call) → call_made network port event earlier ≡ call
            → All (CameFrom network port slave brings 0 earlier) (kept before).since × All (CameFrom network port slave brings 1 earlier) (kept before).before
            → whole (kept (history_of network port slave (event ∷ earlier)))
        at false elsewhere call made held =
            subst (λ (h : List Call). whole (kept h)) (sym (history-elsewhere network port slave event earlier elsewhere))
            (same (and_right (is_tick event) (is_named (site_of event) slave) elsewhere) (and_right (is_set_master event) (is_named (site_of event) slave) elsewhere) held)
        at true here None made held =
            let none = silent network port event earlier accepted.0 made in
            subst (λ (h : List Call). whole (kept h)) (sym (history-here network port slave event earlier None here made))
            (same (ap (λ (b : Bool). b && is_named (site_of event) slave) none.0) (ap (λ (b : Bool). b && is_named (site_of event) slave) none.1) held)
        at true here (Some call) made held =
            let kind = call_kind network port event earlier call made in
            subst (λ (h : List Call). whole (kept h)) (sym (history-here network port slave event earlier (Some call) here made))
            (subst whole (sym (step call before))
            (called call (named-same (site_of event) slave here) made (with_site (is_tick event) (ticks call) kind.0 here) (with_site (is_set_master event) (sets call) kind.1 here) held))
