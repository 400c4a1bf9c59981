-- What a slave answers when it hears a message is the outcome of the event, and a message that completes something is
-- answered so. A report's own event completes one of its halves.
use Rattle.std.proofs.Common.{◌≡◌, ◌∙◌, Bool, true, false, List, ◌∷◌, ◌++◌, length, Option, Some, None, Ok, IsOk, refl, sym, ap, subst, inl, inr, if◌then◌else◌}
use Rattle.std.specs.Prelude.{◌⊎◌, ◌&&◌, is_none, Result, slice_get, option_to_list}
use Rattle.slave_port.specs.declared.heard.Heard.TheVariants as answers
use Rattle.slave_port.specs.declared.heard.Report.{Report}
use Rattle.slave_port.specs.declared.reason.Reason.{Reason}
use Rattle.slave_port.specs.History as calls
use Rattle.slave_port.specs.History.{Call, Setup}
use Rattle.slave_port.specs.Window.{Window, last, after}
use Rattle.slave_port.specs.Completion.{SyncCompletion, DelayCompletion}
use Rattle.slave_port.specs.Kept.{kept, delay_completions, sync_completion, delay_completion, last_sync_completion, last_delay_completion}
use Rattle.slave_port.specs.Answer.{answer, completed, used, ignored, unless_ignored}
use Rattle.network_model.specs.declared.event.Event.{Event}
use Rattle.network_model.specs.declared.event.Event.TheVariants.{Arrive, Hear}
use Rattle.network_model.specs.declared.stepped.Outcome.{Outcome}
use Rattle.network_model.specs.declared.stepped.Outcome.TheVariants as outcomes
use Rattle.network_model.specs.declared.refusal.WorldRefusal.{WorldRefusal}
use Rattle.network_model.specs.Network.{Network, NodeName, PortSetup}
use Rattle.network_model.specs.Run.{Place, place, site_of}
use Rattle.network_model.specs.Clock.{reading}
use Rattle.network_model.specs.Truth.{slave_at}
use Rattle.network_model.specs.SlaveHistory.{slave_setup, call_made, history_of}
use Rattle.network_model.specs.Outcome.{outcome_of}
use Rattle.network_model.specs.Evidence.{is_complete}
use Rattle.network_model.proofs.Calls.{IsCallOf, Arrives, Hears, Requests, Departs, Ticks, Sets, call_of}
use Rattle.network_model.proofs.Hearing.{arrival_heard, hearing_heard}

-- a call by which a message is heard
abbrev pub hears : Call → Bool
hears (calls.SetMaster master) = false
hears calls.Tick = false
hears (calls.NextRequest tag) = false
hears (calls.RequestLeft number t3) = false
hears (calls.Event m t2 tag) = true
hears (calls.General m tag) = true

-- the answer to it is the outcome
pub heard_outcome : (network : Network) (port : PortSetup) (slave : NodeName) (p : Place) (call : Call) → slave_at network slave ≡ Some port → IsOk (outcome_of network p.earlier p.event)
    → site_of p.event ≡ slave → call_made network port p.event p.earlier ≡ Some call → hears call ≡ true
    → outcome_of network p.earlier p.event ≡ Ok (outcomes.Heard (answer (slave_setup port) (history_of network port slave p.earlier) call))
heard_outcome network port slave p call slave_is accepted site made heard = by (call_of network port p.event p.earlier call made)
  where
    answered : Call → Result Outcome WorldRefusal
    answered c = Ok (outcomes.Heard (answer (slave_setup port) (history_of network port slave p.earlier) c))

    by : IsCallOf network port p.event p.earlier call → outcome_of network p.earlier p.event ≡ answered call
    by (Arrives node copy at m event copy_is is) =
        let here : p.event ≡ Arrive slave copy at = event ∙ ap (λ (n : NodeName). Arrive n copy at) (sym (ap site_of event) ∙ site) in
        ap (outcome_of network p.earlier) here
        ∙ arrival_heard network port slave p.earlier m copy at slave_is copy_is (subst (λ (e : Event). IsOk (outcome_of network p.earlier e)) here accepted)
        ∙ ap (λ (e : Event). answered (calls.Event (Ok m) (reading (place e p.earlier)) (length p.earlier))) (sym here)
        ∙ ap answered (sym is)
    by (Hears node copy m event copy_is is) =
        let here : p.event ≡ Hear slave copy = event ∙ ap (λ (n : NodeName). Hear n copy) (sym (ap site_of event) ∙ site) in
        ap (outcome_of network p.earlier) here
        ∙ hearing_heard network port slave p.earlier m copy slave_is copy_is (subst (λ (e : Event). IsOk (outcome_of network p.earlier e)) here accepted)
        ∙ ap answered (sym is)
    by (Requests node at event is) = let other : hears call ≡ false = ap hears is in cc
    by (Departs node request event waits is) = let other : hears call ≡ false = ap hears is in cc
    by (Ticks node event is) = let other : hears call ≡ false = ap hears is in cc
    by (Sets node master other event port_is is) = let none : hears call ≡ false = ap hears is in cc

completed_complete : (sync : Option SyncCompletion) (delay : Option DelayCompletion) → is_complete (completed sync delay) ≡ true
completed_complete None delay = refl
completed_complete (Some sync) None = refl
completed_complete (Some sync) (Some delay) = refl

-- what completes something is answered so
complete_where : (setup : Setup) (earlier : List Call) (call : Call) → (is_none (sync_completion setup earlier call) && is_none (delay_completion setup earlier call)) ≡ false
    → is_complete (used setup earlier call) ≡ true
complete_where setup earlier call some =
    ap (λ (held : Bool). is_complete (if held then answers.Held else completed (last_sync_completion setup (call ∷ earlier)) (last_delay_completion setup (call ∷ earlier)))) some
    ∙ completed_complete (last_sync_completion setup (call ∷ earlier)) (last_delay_completion setup (call ∷ earlier))

pub sync_completes : (setup : Setup) (earlier : List Call) (call : Call) (c : SyncCompletion) → sync_completion setup earlier call ≡ Some c
    → is_complete (used setup earlier call) ≡ true
sync_completes setup earlier call c is =
    complete_where setup earlier call (ap (λ (o : Option SyncCompletion). is_none o && is_none (delay_completion setup earlier call)) is)

pub delay_completes : (setup : Setup) (earlier : List Call) (call : Call) (c : DelayCompletion) → delay_completion setup earlier call ≡ Some c
    → is_complete (used setup earlier call) ≡ true
delay_completes setup earlier call c is =
    complete_where setup earlier call
    (ap (λ (o : Option DelayCompletion). is_none (sync_completion setup earlier call) && is_none o) is ∙ and_no (is_none (sync_completion setup earlier call)))
  where
    and_no : (b : Bool) → (b && false) ≡ false
    and_no true = refl
    and_no false = refl

-- a call that completes something hears a message
pub sync_hears : (setup : Setup) (earlier : List Call) (call : Call) (c : SyncCompletion) → sync_completion setup earlier call ≡ Some c → hears call ≡ true
sync_hears setup earlier (calls.SetMaster master) c is = cc
sync_hears setup earlier calls.Tick c is = cc
sync_hears setup earlier (calls.NextRequest tag) c is = cc
sync_hears setup earlier (calls.RequestLeft number t3) c is = cc
sync_hears setup earlier (calls.Event m t2 tag) c is = refl
sync_hears setup earlier (calls.General m tag) c is = refl

pub delay_hears : (setup : Setup) (earlier : List Call) (call : Call) (c : DelayCompletion) → delay_completion setup earlier call ≡ Some c → hears call ≡ true
delay_hears setup earlier (calls.SetMaster master) c is = cc
delay_hears setup earlier calls.Tick c is = cc
delay_hears setup earlier (calls.NextRequest tag) c is = cc
delay_hears setup earlier (calls.RequestLeft number t3) c is = cc
delay_hears setup earlier (calls.Event m t2 tag) c is = refl
delay_hears setup earlier (calls.General m tag) c is = refl

-- what completes now is the last completion
last_after : {E : Type 0} (call : Call) (brought : Option E) (window : Window E) (c : E) → hears call ≡ true → brought ≡ Some c → last (after call brought window) ≡ Some c
last_after (calls.Event m t2 tag) brought window c heard is = ap (λ (o : Option _). slice_get ((option_to_list o ++ window.since) ++ window.before) 0) is
last_after (calls.General m tag) brought window c heard is = ap (λ (o : Option _). slice_get ((option_to_list o ++ window.since) ++ window.before) 0) is
last_after (calls.SetMaster master) brought window c heard is = cc
last_after calls.Tick brought window c heard is = cc
last_after (calls.NextRequest tag) brought window c heard is = cc
last_after (calls.RequestLeft number t3) brought window c heard is = cc

pub sync_last : (setup : Setup) (earlier : List Call) (call : Call) (c : SyncCompletion) → sync_completion setup earlier call ≡ Some c
    → last_sync_completion setup (call ∷ earlier) ≡ Some c
sync_last setup earlier call c is =
    last_after call (sync_completion setup earlier call) (kept setup earlier).completions c (sync_hears setup earlier call c is) is

pub delay_last : (setup : Setup) (earlier : List Call) (call : Call) (c : DelayCompletion) → delay_completion setup earlier call ≡ Some c
    → last_delay_completion setup (call ∷ earlier) ≡ Some c
delay_last setup earlier call c is =
    last_after call (delay_completion setup earlier call) (delay_completions setup earlier) c (delay_hears setup earlier call c is) is

-- what is answered to complete something does
pub completes_something : (setup : Setup) (earlier : List Call) (call : Call) → is_complete (answer setup earlier call) ≡ true
    → ((c : SyncCompletion) × (sync_completion setup earlier call ≡ Some c)) ⊎ ((c : DelayCompletion) × (delay_completion setup earlier call ≡ Some c))
completes_something setup earlier call is = by (ignored setup earlier call) is
  where
    Completes : Type 0
    Completes = ((c : SyncCompletion) × (sync_completion setup earlier call ≡ Some c)) ⊎ ((c : DelayCompletion) × (delay_completion setup earlier call ≡ Some c))

    of_used : (sync : Option SyncCompletion) (delay : Option DelayCompletion) → sync_completion setup earlier call ≡ sync → delay_completion setup earlier call ≡ delay
        → is_complete (if is_none sync && is_none delay then answers.Held else completed (last_sync_completion setup (call ∷ earlier)) (last_delay_completion setup (call ∷ earlier)))
        ≡ true → Completes
    of_used (Some sync) delay e f is = inl (sync, e)
    of_used None (Some delay) e f is = inr (delay, f)
    of_used None None e f is = cc

    by : (reason : Option Reason) → is_complete (unless_ignored reason (used setup earlier call)) ≡ true → Completes
    by (Some reason) is = cc
    by None is = of_used (sync_completion setup earlier call) (delay_completion setup earlier call) refl refl is

-- a report completes one of its halves
pub report_completes : (setup : Setup) (earlier : List Call) (call : Call) (report : Report) → answer setup earlier call ≡ answers.Report report
    → ((c : SyncCompletion) × (sync_completion setup earlier call ≡ Some c)) ⊎ ((c : DelayCompletion) × (delay_completion setup earlier call ≡ Some c))
report_completes setup earlier call report is = completes_something setup earlier call (ap is_complete is)
