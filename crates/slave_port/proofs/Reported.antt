-- The exchange that a port has is that of the last report.
use Rattle.std.proofs.Common.{◌≡◌, ◌∙◌, refl, sym, ap, List, [], ◌∷◌, ◌++◌, slice_get, ◌&&◌, Bool, true, false, is_none, if◌then◌else◌, Option, Some, None, option_map}
use Rattle.std.specs.Prelude.{is_some, IfSome, IsSome}
use Rattle.slave_port.specs.declared.heard.Heard.TheVariants as answers
use Rattle.slave_port.specs.declared.heard.Report.{Report}
use Rattle.slave_port.specs.declared.reason.Reason.{Reason}
use Rattle.slave_port.specs.History.{Setup, Call, SetMaster, Tick, NextRequest, RequestLeft, Event, General}
use Rattle.slave_port.specs.Window.{last, with_brought}
use Rattle.slave_port.specs.Completion.{SyncCompletion, DelayCompletion}
use Rattle.slave_port.specs.Kept.{kept, sync_completion, delay_completion, delay_completions, last_sync_completion, last_delay_completion}
use Rattle.slave_port.specs.Answer.{report_of, completed, used, ignored, unless_ignored, answer}
use Rattle.slave_port.specs.Exchange.{exchange_of, exchanged, last_exchange, report_or, last_report, IsOfLastReport}
use Rattle.slave_port.specs.StandsFor.{Port, StandsFor}
use Rattle.slave_port.specs.Inner.Changes.{exchange_in}
use Rattle.slave_port.proofs.Completions.{completion-last_of}
use Rattle.slave_port.proofs.Uses.{sync_completion_of, delay_completion_of, report_parts}

-- what came last since a tick came last of all
first-of-all : {E : Type 0} (since before : List E) {e : E} → slice_get since 0 ≡ Some e → slice_get (since ++ before) 0 ≡ Some e
first-of-all [] before is = cc
first-of-all (latest ∷ older) before is = is

module _ (setup : Setup) where
  -- where a completion of each kind is in the window, the last report is of the last ones
  abbrev IsReported : List Call → Type 0
  IsReported history = (sync : SyncCompletion) (delay : DelayCompletion) → last_sync_completion setup history ≡ Some sync
      → last_delay_completion setup history ≡ Some delay → last_report setup history ≡ Some (report_of sync delay)

  -- a call that completes something
  completes : (earlier : List Call) (call : Call) → answer setup earlier call ≡ used setup earlier call
      → (is_none (sync_completion setup earlier call) && is_none (delay_completion setup earlier call)) ≡ false → IsReported (call ∷ earlier)
  completes earlier call is some sync delay sync_is delay_is =
      ap (λ heard. report_or heard (last_report setup earlier))
      (is ∙ (λ i. if some i then answers.Held else completed (sync_is i) (delay_is i)))

  -- a message that completes nothing is no report
  no_report : (earlier : List Call) (call : Call) → sync_completion setup earlier call ≡ None → delay_completion setup earlier call ≡ None
      → last_report setup (call ∷ earlier) ≡ last_report setup earlier
  no_report earlier call no_sync no_delay = by (ignored setup earlier call)
    where
      held : used setup earlier call ≡ answers.Held
      held = λ i. if is_none (no_sync i) && is_none (no_delay i) then answers.Held
          else completed (last_sync_completion setup (call ∷ earlier)) (last_delay_completion setup (call ∷ earlier))

      by : (reason : Option Reason)
          → report_or (unless_ignored reason (used setup earlier call)) (last_report setup earlier) ≡ last_report setup earlier
      by None = ap (λ heard. report_or heard (last_report setup earlier)) held
      by (Some reason) = refl

  and_no : (b : Bool) → (b && false) ≡ false
  and_no true = refl
  and_no false = refl

  -- a call that hears a message: the window has what it completes, and else what it had
  message : (earlier : List Call) (call : Call)
      → last_sync_completion setup (call ∷ earlier) ≡ last (with_brought (sync_completion setup earlier call) (kept setup earlier).completions)
      → last_delay_completion setup (call ∷ earlier) ≡ last (with_brought (delay_completion setup earlier call) (delay_completions setup earlier))
      → IsReported earlier → IsReported (call ∷ earlier)
  message earlier call syncs delays before = by (sync_completion setup earlier call) (delay_completion setup earlier call) refl refl
    where
      by : (sync : Option SyncCompletion) (delay : Option DelayCompletion) → sync_completion setup earlier call ≡ sync
          → delay_completion setup earlier call ≡ delay → IsReported (call ∷ earlier)
      by (Some sync) delay brings other =
          completes earlier call (sync_completion_of setup earlier call sync brings).1
          (ap (λ (o : Option SyncCompletion). is_none o && is_none (delay_completion setup earlier call)) brings)
      by None (Some delay) other brings =
          completes earlier call (delay_completion_of setup earlier call delay brings).used
          (ap (λ (o : Option DelayCompletion). is_none (sync_completion setup earlier call) && is_none o) brings
          ∙ and_no (is_none (sync_completion setup earlier call)))
      by None None no_sync no_delay = λ sync delay sync_is delay_is.
          no_report earlier call no_sync no_delay
          ∙ before sync delay
          (sym (syncs ∙ ap (λ (o : Option SyncCompletion). last (with_brought o (kept setup earlier).completions)) no_sync) ∙ sync_is)
          (sym (delays ∙ ap (λ (o : Option DelayCompletion). last (with_brought o (delay_completions setup earlier))) no_delay) ∙ delay_is)

  reported : (history : List Call) → IsReported history
  reported [] = λ sync delay sync_is delay_is. cc
  reported (SetMaster master ∷ earlier) = λ sync delay sync_is delay_is. cc
  reported (Tick ∷ earlier) = λ sync delay sync_is delay_is.
      reported earlier sync delay
      (first-of-all (kept setup earlier).completions.since (kept setup earlier).completions.before sync_is)
      (first-of-all (delay_completions setup earlier).since (delay_completions setup earlier).before delay_is)
  reported (NextRequest tag ∷ earlier) = reported earlier
  reported (RequestLeft number t3 ∷ earlier) = reported earlier
  reported (Event heard t2 tag ∷ earlier) = message earlier (Event heard t2 tag) refl refl (reported earlier)
  reported (General heard tag ∷ earlier) = message earlier (General heard tag) refl refl (reported earlier)

  -- the exchange that is there is that of the last report
  pub of_last_report : (history : List Call) → IfSome (last_exchange setup history) (IsOfLastReport setup history)
  of_last_report history = by (last_sync_completion setup history) (last_delay_completion setup history) refl refl
    where
      by : (sync : Option SyncCompletion) (delay : Option DelayCompletion) → last_sync_completion setup history ≡ sync
          → last_delay_completion setup history ≡ delay → IfSome (exchanged sync delay) (IsOfLastReport setup history)
      by None delay sync_is delay_is = tt
      by (Some sync) None sync_is delay_is = tt
      by (Some sync) (Some delay) sync_is delay_is =
          (report_of sync delay, (reported history sync delay sync_is delay_is, record { offset2 = refl; path2 = refl }))

  -- one is there after a report
  pub there-at_report : (call : Call) (earlier : List Call) (report : Report) → answer setup earlier call ≡ answers.Report report
      → IsSome (last_exchange setup (call ∷ earlier))
  there-at_report call earlier report is =
      let parts = report_parts setup earlier call report is in
      let both : last_exchange setup (call ∷ earlier) ≡ Some (exchange_of parts.0 parts.1) = λ i. exchanged (parts.2 i) (parts.3 i) in
      ap is_some both

-- the last completions that a port keeps give the exchange that its history says
pub exchange_in-stands : {setup : Setup} {port : Port} {history : List Call} → StandsFor setup port history
    → exchange_in port ≡ last_exchange setup history
exchange_in-stands {setup} {port} {history} stands =
    let sync : option_map (λ l. l.completion) port.last_sync ≡ last_sync_completion setup history =
    ap (option_map (λ l. l.completion)) stands.last_sync ∙ completion-last_of (kept setup history).completions.since (kept setup history).completions.before in
    let delay : option_map (λ l. l.completion) port.last_delay ≡ last_delay_completion setup history =
    ap (option_map (λ l. l.completion)) stands.last_delay ∙ completion-last_of (delay_completions setup history).since (delay_completions setup history).before in
    λ i. exchanged (sync i) (delay i)
