-- A port that is told what it reads of each message, and nothing else, keeps and answers the same.
use Rattle.std.proofs.Common.{◌≡◌, ◌∙◌, ℕ, ◌+◌, ◌%◌, Bool, true, false, List, [], ◌∷◌, map, take, Option, Some, None, Ok}
use Rattle.std.proofs.Common.{Err, refl, sym, ap}
use Rattle.std.proofs.Common.{option_map, option_and_then, if◌then◌else◌}
use Rattle.std.specs.Prelude.{◌&&◌, is_none}
use Rattle.std.specs.Option.{option_or}
use Rattle.std.specs.Result.{result_ok, result_err}
use Rattle.ptp_units.specs.Moment.{Stamp, stamp}
use Rattle.event_codec.specs.declared.message.Body.{Body}
use Rattle.event_codec.specs.declared.message.Body.TheVariants as bodies
use Rattle.event_codec.specs.declared.message.Header.{Header}
use Rattle.pairing.specs.Marked.{Entry, entry, first_value as newest}
use Rattle.slave_port.specs.declared.heard.Heard.TheVariants as answers
use Rattle.slave_port.specs.History as calls
use Rattle.slave_port.specs.History.{Call, Setup, present_master, requests_drawn}
use Rattle.slave_port.specs.Values.{ResponseValue}
use Rattle.slave_port.specs.Window.{Window, last, after}
use Rattle.slave_port.specs.Requests.{requests, stamped, held_requests}
use Rattle.slave_port.specs.Usable.{Criteria, is_two_step, sync_use, sync_reason, used_unless, judged}
use Rattle.slave_port.specs.Usable.{event_use, general_use, usable_in, unusable_in}
use Rattle.slave_port.specs.Completion.{answered}
use Rattle.slave_port.specs.Used.{part, two_step_sync, follow_up, delay_resp}
use Rattle.slave_port.specs.Kept.{Kept, kept, kept_after, criteria, usable, unusable, completion_in, sync_completion}
use Rattle.slave_port.specs.Kept.{usable_delay_resp, delay_completion, delay_completions}
use Rattle.slave_port.specs.Answer.{request_reason, ignored, completed, used, unless_ignored}
use Rattle.recording_model.specs.WhatIsRead.{sync_header_read, event_read, general_read, call_read}
use Rattle.recording_model.specs.WhatIsRead.{EachAnswerRestsOnWhatIsRead}

-- so a Sync is used as it was
picked : {A : Type 0} (b : Bool) (x y : A) → b ≡ true → x ≡ (if b then x else y)
picked b x y e = sym (ap (λ (c : Bool). if c then x else y) e)

passed : {A : Type 0} (b : Bool) (x y : A) → b ≡ false → y ≡ (if b then x else y)
passed b x y e = sym (ap (λ (c : Bool). if c then x else y) e)

sync_use-read : (header : Header) (origin : Stamp) (t2 tag : ℕ) (two_step : Bool) → is_two_step header ≡ two_step
    → sync_use (sync_header_read two_step header) (if two_step then stamp 0 0 else origin) t2 tag
    ≡ sync_use header origin t2 tag
sync_use-read header origin t2 tag true e = picked (is_two_step header) _ _ e
sync_use-read header origin t2 tag false e = passed (is_two_step header) _ _ e

-- and a message is judged as it was
event-read : (c : Criteria) (header : Header) (body : Body) (t2 tag : ℕ)
    → event_use c (event_read header body).header (event_read header body).body t2 tag ≡ event_use c header body t2 tag
event-read c header (bodies.Sync origin) t2 tag =
    ap (λ u. used_unless (sync_reason c header) (entry header.sequence.0 u))
    (sync_use-read header origin t2 tag (is_two_step header) refl)
event-read c header _ t2 tag = refl

general-read : (c : Criteria) (header : Header) (body : Body) (tag : ℕ)
    → general_use c (general_read header body).header (general_read header body).body tag
    ≡ general_use c header body tag
general-read c header (bodies.Sync origin) tag = refl
general-read c header _ tag = refl

judged-read : (c : Criteria) (call : Call) → judged c (call_read call) ≡ judged c call
judged-read c (calls.SetMaster master) = refl
judged-read c calls.Tick = refl
judged-read c (calls.NextRequest tag) = refl
judged-read c (calls.RequestLeft number t3) = refl
judged-read c (calls.Event (Ok m) t2 tag) = ap (λ u. Some u) (event-read c m.header m.body t2 tag)
judged-read c (calls.Event (Err refusal) t2 tag) = refl
judged-read c (calls.General (Ok m) tag) = ap (λ u. Some u) (general-read c m.header m.body tag)
judged-read c (calls.General (Err refusal) tag) = refl

-- and what it brings comes in the same window
after-read : {E : Type 0} (call : Call) (brings : Option E) (window : Window E)
    → after (call_read call) brings window ≡ after call brings window
after-read (calls.SetMaster master) brings window = refl
after-read calls.Tick brings window = refl
after-read (calls.NextRequest tag) brings window = refl
after-read (calls.RequestLeft number t3) brings window = refl
after-read (calls.Event (Ok m) t2 tag) brings window = refl
after-read (calls.Event (Err refusal) t2 tag) brings window = refl
after-read (calls.General (Ok m) tag) brings window = refl
after-read (calls.General (Err refusal) tag) brings window = refl

master-read : (history : List Call) → present_master (map call_read history) ≡ present_master history
master-read [] = refl
master-read (calls.SetMaster master ∷ earlier) = refl
master-read (calls.Tick ∷ earlier) = master-read earlier
master-read (calls.NextRequest tag ∷ earlier) = master-read earlier
master-read (calls.RequestLeft number t3 ∷ earlier) = master-read earlier
master-read (calls.Event (Ok m) t2 tag ∷ earlier) = master-read earlier
master-read (calls.Event (Err refusal) t2 tag ∷ earlier) = master-read earlier
master-read (calls.General (Ok m) tag ∷ earlier) = master-read earlier
master-read (calls.General (Err refusal) tag ∷ earlier) = master-read earlier

drawn-read : (history : List Call) → requests_drawn (map call_read history) ≡ requests_drawn history
drawn-read [] = refl
drawn-read (calls.SetMaster master ∷ earlier) = drawn-read earlier
drawn-read (calls.Tick ∷ earlier) = drawn-read earlier
drawn-read (calls.NextRequest tag ∷ earlier) = ap (λ (n : ℕ). n + 1) (drawn-read earlier)
drawn-read (calls.RequestLeft number t3 ∷ earlier) = drawn-read earlier
drawn-read (calls.Event (Ok m) t2 tag ∷ earlier) = drawn-read earlier
drawn-read (calls.Event (Err refusal) t2 tag ∷ earlier) = drawn-read earlier
drawn-read (calls.General (Ok m) tag ∷ earlier) = drawn-read earlier
drawn-read (calls.General (Err refusal) tag ∷ earlier) = drawn-read earlier

module _ (setup : Setup) where
  requests-read : (history : List Call) → requests setup (map call_read history) ≡ requests setup history
  requests-read [] = refl
  requests-read (calls.SetMaster master ∷ earlier) = refl
  requests-read (calls.Tick ∷ earlier) = requests-read earlier
  requests-read (calls.NextRequest tag ∷ earlier) = λ i.
      entry ((setup.first + drawn-read earlier i) % 65536) (record { t3 = None; tag = tag }) ∷ requests-read earlier i
  requests-read (calls.RequestLeft number t3 ∷ earlier) = ap (stamped number t3) (requests-read earlier)
  requests-read (calls.Event (Ok m) t2 tag ∷ earlier) = requests-read earlier
  requests-read (calls.Event (Err refusal) t2 tag ∷ earlier) = requests-read earlier
  requests-read (calls.General (Ok m) tag ∷ earlier) = requests-read earlier
  requests-read (calls.General (Err refusal) tag ∷ earlier) = requests-read earlier

  -- what is held
  held-read : (history : List Call) → held_requests setup (map call_read history) ≡ held_requests setup history
  held-read history = ap (take setup.capacities.requests) (requests-read history)

  kept_after-read : (history : List Call) (heard call : Call) (k : Kept)
      → kept_after setup.capacities (call_read call) (usable setup history heard) k
      ≡ kept_after setup.capacities call (usable setup history heard) k
  kept_after-read history heard call k = λ i. record {
    syncs = after-read call (option_and_then (part two_step_sync) (usable setup history heard)) k.syncs i;
    follows = after-read call (option_and_then (part follow_up) (usable setup history heard)) k.follows i;
    completions = after-read call (completion_in setup.capacities k (usable setup history heard)) k.completions i;
  }

  -- by what the next message is judged, where as much is kept
  criteria-kept : (history : List Call) → kept setup (map call_read history) ≡ kept setup history
      → criteria setup (map call_read history) ≡ criteria setup history
  criteria-kept history same = λ i. record {
    config = setup.config;
    master = master-read history i;
    last = option_map (λ completion. completion.number) (last (same i).completions);
  }

  usable-kept : (history : List Call) (call : Call) → kept setup (map call_read history) ≡ kept setup history
      → usable setup (map call_read history) (call_read call) ≡ usable setup history call
  usable-kept history call same =
      ap (option_and_then result_ok) (judged-read (criteria setup (map call_read history)) call)
      ∙ ap (λ (c : Criteria). usable_in c call) (criteria-kept history same)

  kept-read : (history : List Call) → kept setup (map call_read history) ≡ kept setup history
  kept-read [] = refl
  kept-read (call ∷ earlier) =
      let same = kept-read earlier in
      let used = usable-kept earlier call same in
      kept_after-read (map call_read earlier) (call_read call) call (kept setup (map call_read earlier))
      ∙ (λ i. kept_after setup.capacities call (used i) (same i))

  usable-read : (history : List Call) (call : Call)
      → usable setup (map call_read history) (call_read call) ≡ usable setup history call
  usable-read history call = usable-kept history call (kept-read history)

  -- what completes
  completion-read : (history : List Call) (call : Call)
      → sync_completion setup (map call_read history) (call_read call) ≡ sync_completion setup history call
  completion-read history call = λ i. completion_in setup.capacities (kept-read history i) (usable-read history call i)

  response-read : (history : List Call) (call : Call)
      → usable_delay_resp setup (map call_read history) (call_read call) ≡ usable_delay_resp setup history call
  response-read history call = ap (option_and_then (part delay_resp)) (usable-read history call)

  delay-read : (history : List Call) (call : Call)
      → delay_completion setup (map call_read history) (call_read call) ≡ delay_completion setup history call
  delay-read history call = λ i. option_and_then
      (λ (response : Entry ResponseValue). option_and_then (answered response.number response.value)
      (newest response.number (held-read history i)))
      (response-read history call i)

  delays-read : (history : List Call)
      → delay_completions setup (map call_read history) ≡ delay_completions setup history
  delays-read [] = refl
  delays-read (call ∷ earlier) =
      after-read call (delay_completion setup (map call_read earlier) (call_read call))
      (delay_completions setup (map call_read earlier))
      ∙ (λ i. after call (delay-read earlier call i) (delays-read earlier i))

  -- and what is answered
  ignored-read : (history : List Call) (call : Call)
      → ignored setup (map call_read history) (call_read call) ≡ ignored setup history call
  ignored-read history call =
      let unusable_too : unusable setup (map call_read history) (call_read call) ≡ unusable setup history call =
      ap (option_and_then result_err) (judged-read (criteria setup (map call_read history)) call)
      ∙ ap (λ (c : Criteria). unusable_in c call) (criteria-kept history (kept-read history)) in
      λ i. option_or (unusable_too i) (option_and_then
      (λ (response : Entry ResponseValue). request_reason (newest response.number (held-read history i)))
      (response-read history call i))

  used-read : (history : List Call) (call : Call)
      → used setup (map call_read history) (call_read call) ≡ used setup history call
  used-read history call = λ i.
      if is_none (completion-read history call i) && is_none (delay-read history call i) then answers.Held
      else completed (last (kept-read (call ∷ history) i).completions) (last (delays-read (call ∷ history) i))

-- the law
pub each_answer : EachAnswerRestsOnWhatIsRead
each_answer setup history call = λ i.
    unless_ignored (ignored-read setup history call i) (used-read setup history call i)
