-- What says nothing new to the watched slave: what holds of the listening port goes on holding, and no other Delay_Req
-- is its last.
use Rattle.std.proofs.Common.{◌≡◌, ◌∙◌, ℕ, ◌<◌, ◌≤◌, Bool, true, false, List, ◌∷◌, Option, Some, None, Ok, Err, refl}
use Rattle.std.proofs.Common.{sym, ap, subst, arith, option_map, option_and_then, if◌then◌else◌}
use Rattle.std.specs.Prelude.{◌||◌, ◌==◌, not, nat_lt}
use Rattle.std.specs.Option.{option_map_or, option_or}
use Rattle.std.specs.Result.{result_ok}
use Rattle.std.proofs.lemmas.Bool.{eqb-true}
use Rattle.ptp_units.specs.Sequence.{next, ahead}
use Rattle.event_codec.specs.declared.message.Body.{Body}
use Rattle.event_codec.specs.declared.message.Body.TheVariants as bodies
use Rattle.event_codec.specs.Packet.{Contents}
use Rattle.event_codec.specs.Reading.{Reading}
use Rattle.slave_port.specs.declared.heard.Heard.{Heard}
use Rattle.slave_port.specs.declared.heard.Report.{Report}
use Rattle.slave_port.specs.History as calls
use Rattle.slave_port.specs.History.{Call, Setup, next_number}
use Rattle.slave_port.specs.Answer.{answer, used}
use Rattle.slave_port.proofs.Uses.{two_step_entry, follow_entry, sync_completion_of, delay_completion_of}
use Rattle.network_model.specs.Network.{Network, NodeName}
use Rattle.network_model.specs.Premises.{is_of_use}
use Rattle.network_model.proofs.Hearing.{used_of_use}
use Rattle.recording_model.specs.declared.watched.Watched.{Watched}
use Rattle.recording_model.specs.Recorded.{Recorded}
use Rattle.recording_model.specs.Listening.{Listening, setup_in, is_of, told, hears, hears_ready, hears_request}
use Rattle.recording_model.specs.Listening.{asks, anew, table_capacity, ready_sync, ready_follow_up, ready_response}
use Rattle.recording_model.specs.Listening.{after_all, answered, answer_in, report_in, is_used}
use Rattle.recording_model.specs.Premises.{ticks_in}
use Rattle.recording_model.specs.Agreement.{Moved}
use Rattle.recording_model.specs.Told.{own_request, last_request, is_aside, says_nothing}
use Rattle.recording_model.specs.Exact.{Watches}
use Rattle.recording_model.proofs.Lines.{Lines}
use Rattle.recording_model.proofs.Holding.{Holds, holds-later, holds-event, holds-general}
use Rattle.recording_model.proofs.Standing.{Stands, StandsAfter, IsReady, since_tick, since-low, heard-stands, heard-asked}
use Rattle.recording_model.proofs.Standing.{told-event, told-general, sync-ready, follow_up-ready, response-ready}
use Rattle.recording_model.proofs.Reported.{IsMadeOf, made_of}
use Rattle.recording_model.proofs.Steps.{within, report-in}

-- not true
not_true : (b : Bool) → not b ≡ true → b ≡ false
not_true true is = cc
not_true false is = refl

module _ (network : Network) (slave master : NodeName) (moved : Moved) (w : Watched)
    (watches : Watches network slave master w) (lines : Lines) (syncs known slack : ℕ) (few : slack ≤ 16384)
    (ds : List Recorded)
    (before : Stands network slave master moved w watches within lines syncs known slack (after_all w ds)) where
  abbrev l : Listening
  l = after_all w ds

  -- what holds of the calls of a port that had so many Syncs since its last tick
  abbrev HoldsOf : (since : ℕ) → Setup → List Call → Type 0
  HoldsOf since =
      Holds network slave master moved watches.own watches.other w.master within lines syncs known since

  -- a message that isn't used brings nothing
  event-unused : (since : ℕ) (setup : Setup) (history : List Call) (said : Reading) (t2 tag : ℕ)
      → HoldsOf since setup history
      → (answer setup history (calls.Event said t2 tag) ≡ used setup history (calls.Event said t2 tag) → ⊥)
      → HoldsOf since setup (calls.Event said t2 tag ∷ history)
  event-unused since setup history said t2 tag holds unused =
      let call : Call = calls.Event said t2 tag in
      holds-event network slave master moved watches.own watches.other w.master within lines syncs known since setup
      history holds said t2 tag
      (λ e is. absurd (unused (two_step_entry setup history call e is).used))
      (λ e is. absurd (unused (follow_entry setup history call e is).used))
      (λ c is. absurd (unused (sync_completion_of setup history call c is).1))
      (λ c is. absurd (unused (delay_completion_of setup history call c is).used))

  general-unused : (since : ℕ) (setup : Setup) (history : List Call) (said : Reading) (tag : ℕ)
      → HoldsOf since setup history
      → (answer setup history (calls.General said tag) ≡ used setup history (calls.General said tag) → ⊥)
      → HoldsOf since setup (calls.General said tag ∷ history)
  general-unused since setup history said tag holds unused =
      let call : Call = calls.General said tag in
      holds-general network slave master moved watches.own watches.other w.master within lines syncs known since setup
      history holds said tag
      (λ e is. absurd (unused (two_step_entry setup history call e is).used))
      (λ e is. absurd (unused (follow_entry setup history call e is).used))
      (λ c is. absurd (unused (sync_completion_of setup history call c is).1))
      (λ c is. absurd (unused (delay_completion_of setup history call c is).used))

  -- what is used is of use
  unused : (r : Listening) (call : Call) → is_of_use (answer_in w r call) ≡ false
      → answer (setup_in w r) r.calls call ≡ used (setup_in w r) r.calls call → ⊥
  unused r call none uses =
      let both : false ≡ true =
      sym none ∙ ap is_of_use uses ∙ used_of_use (setup_in w r) r.calls call in
      cc

  -- fewer Syncs since a tick are few, too
  fewer : (since : ℕ) (after : Listening) → since ≤ slack
      → Stands network slave master moved w watches within lines syncs known since after
      → Stands network slave master moved w watches within lines syncs known slack after
  fewer since after less still = record {
    holds = holds-later network slave master moved watches.own watches.other w.master within lines lines syncs syncs
        known known since slack (setup_in w after) after.calls (λ line p is. is) (omega arith) (omega arith)
        still.holds;
    next = still.next;
    none = still.none;
  }

  -- what holds after a datagram that says nothing new, and what a report would be made of
  pub record IsStill (after : Listening) (answer : Option Heard) (own : Option ℕ) : Type 0 where
    pub stands : Stands network slave master moved w watches within lines syncs known slack after
    pub asked : after.asked ≡ l.asked
    pub last : option_or own (last_request w ds) ≡ last_request w ds
    pub made : (report : Report) → option_and_then report_in answer ≡ Some report → IsMadeOf lines slave master report

  -- a port that hears nothing
  unheard : (own : Option ℕ) → option_or own (last_request w ds) ≡ last_request w ds
      → IsStill l None own
  unheard own last = record { stands = before; asked = refl; last = last; made = λ report is. cc }

  -- a port that hears what it doesn't use, where one is ready
  heard : (counts : Bool) (call : Call) (ready : Option Listening)
      → ((r : Listening) → ready ≡ Some r
      → IsReady network slave master moved w watches within lines syncs known slack l r)
      → ((since : ℕ) (r : Listening) → HoldsOf since (setup_in w r) r.calls
      → (answer (setup_in w r) r.calls call ≡ used (setup_in w r) r.calls call → ⊥)
      → HoldsOf since (setup_in w r) (call ∷ r.calls))
      → ((r : Listening)
      → HoldsOf (since_tick (ticks_in l) slack r) (setup_in w r) (call ∷ r.calls)
      → StandsAfter network slave master moved w watches within lines (ticks_in l) syncs known slack r
      → StandsAfter network slave master moved w watches within lines (ticks_in l) syncs known slack (told call r))
      → option_map_or is_of_use (option_map (λ r. answer_in w r call) ready) false ≡ false
      → IsStill (hears_ready counts call ready l) (option_map (λ r. answer_in w r call) ready) None
  heard counts call None is_ready brings tells none = unheard None refl
  heard counts call (Some r) is_ready brings tells none =
      let readied = is_ready r refl in
      let since : ℕ = since_tick (ticks_in l) slack r in
      let holds = brings since r readied.after.stands.holds (unused r call none) in
      let after : Listening = hears_ready counts call (Some r) l in
      record {
        stands = fewer (since_tick (ticks_in l) slack after) after (since-low (ticks_in l) slack after)
            (heard-stands network slave master moved w watches within lines (ticks_in l) syncs known slack few counts
            call r l (tells r holds readied.after)).stands;
        asked = heard-asked network slave master moved w watches within lines counts call r l ∙ readied.asked;
        last = refl;
        made = λ report is.
            made_of network slave master moved watches.own watches.other w.master within lines syncs known since
            (setup_in w r) r.calls call report holds (report-in (answer_in w r call) report is);
      }

  module _ (d : Recorded) (follows : (n : ℕ) → last_request w ds ≡ Some n
      → (l.asked ≡ true) × (n < 65536) × (next_number (setup_in w l) l.calls ≡ next n)) where
    -- the last Delay_Req again: its number is 65,535 ahead of the next
    again : (number : ℕ) → last_request w ds ≡ Some number → hears_request w d.line d.time number l ≡ l
    again number last =
        let last_one = follows number last in
        let low : number < 65536 = last_one.1 in
        let turn : ahead number (next number) ≡ 65535 = omega arith in
        let behind : ahead number (next_number (setup_in w l) l.calls) ≡ 65535 = ap (ahead number) last_one.2 ∙ turn in
        ap (λ (asked : Bool).
        if not asked || nat_lt (ahead number (next_number (setup_in w l) l.calls)) table_capacity
        then asks w d.line d.time number l
        else if ahead number (next_number (setup_in w l) l.calls) == 65535 then l
        else asks w d.line d.time number (anew w d.line number l)) last_one.0
        ∙ ap (λ (n : ℕ). if nat_lt n table_capacity then asks w d.line d.time number l else if n == 65535 then l
        else asks w d.line d.time number (anew w d.line number l)) behind

    last_is : (number : ℕ) (last : Option ℕ) → option_map_or (λ last. last == number) last false ≡ true
        → last ≡ Some number
    last_is number None is = cc
    last_is number (Some last) is = ap (λ (n : ℕ). Some n) (eqb-true last number is)

    request : (number : ℕ) (own : Bool)
        → (if own then option_map_or (λ last. last == number) (last_request w ds) false else true) ≡ true
        → IsStill (if own then hears_request w d.line d.time number l else l) None
        (if own then Some number else None)
    request number false nothing = unheard None refl
    request number true nothing =
        let last = last_is number (last_request w ds) nothing in
        subst (λ (after : Listening). IsStill after None (Some number)) (sym (again number last))
        (unheard (Some number) (sym last))

    -- a message, whatever it is
    still : (m : Contents) (body : Body) → is_aside w ds d m.header body ≡ true
        → is_used w ds d ≡ option_map_or is_of_use (answered w d.line d.time m body l) false
        → IsStill (hears w d.line d.time m body l) (answered w d.line d.time m body l) (own_request w m.header body)
    still m (bodies.Sync origin) nothing used_is =
        heard (is_of w w.master m.header) (calls.Event (Ok m) d.time d.line) (ready_sync w d.line d.time m l)
        (sync-ready network slave master moved w watches within lines syncs known slack l before d.line d.time m)
        (λ since r. event-unused since (setup_in w r) r.calls (Ok m) d.time d.line)
        (λ r. told-event network slave master moved w watches within lines (ticks_in l) syncs known slack r (Ok m)
        d.time d.line)
        (sym used_is ∙ not_true (is_used w ds d) nothing)
    still m (bodies.DelayReq origin) nothing used_is = request m.header.sequence.0 (is_of w w.slave m.header) nothing
    still m (bodies.FollowUp precise) nothing used_is =
        heard false (calls.General (Ok m) d.line) (ready_follow_up w d.time m l)
        (follow_up-ready network slave master moved w watches within lines syncs known slack l before d.time m)
        (λ since r. general-unused since (setup_in w r) r.calls (Ok m) d.line)
        (λ r. told-general network slave master moved w watches within lines (ticks_in l) syncs known slack r (Ok m)
        d.line)
        (sym used_is ∙ not_true (is_used w ds d) nothing)
    still m (bodies.DelayResp receive requesting) nothing used_is =
        heard false (calls.General (Ok m) d.line) (ready_response w d.time m requesting l)
        (response-ready network slave master moved w watches within lines syncs known slack l before d.time m
        requesting)
        (λ since r. general-unused since (setup_in w r) r.calls (Ok m) d.line)
        (λ r. told-general network slave master moved w watches within lines (ticks_in l) syncs known slack r (Ok m)
        d.line)
        (sym used_is ∙ not_true (is_used w ds d) nothing)

    -- what is so where a datagram says this
    abbrev IsStillAt : Reading → Type 0
    IsStillAt r = IsStill (option_map_or (λ m. hears w d.line d.time m m.body l) (result_ok r) l)
        (option_and_then (λ m. answered w d.line d.time m m.body l) (result_ok r))
        (option_and_then (λ m. own_request w m.header m.body) (result_ok r))

    -- any datagram
    pub still_after : says_nothing w ds d ≡ true → IsStillAt d.said
    still_after nothing = by d.said refl
      where
        by : (r : Reading) → d.said ≡ r → IsStillAt d.said
        by (Err refusal) e = subst IsStillAt (sym e) (unheard None refl)
        by (Ok m) e = subst IsStillAt (sym e) (still m m.body
            (sym (ap (λ (r : Reading). option_map_or (λ m. is_aside w ds d m.header m.body) (result_ok r) true) e)
            ∙ nothing)
            (ap (λ (r : Reading). option_map_or is_of_use
            (option_and_then (λ m. answered w d.line d.time m m.body l) (result_ok r)) false) e))
