-- What a line of a transcript is, or why it is refused, from what is read of its keys.
use Rattle.std.proofs.Common.{◌≡◌, ◌++◌, ℕ, true, false, List, [], ◌∷◌, length, codes, refl, sym, subst, arith, length-append}
use Rattle.std.proofs.Common.{Option, Some, None, is_some, option_map, option_and_then, Result, Ok, Err}
use Rattle.std.specs.Prelude.{MatchOption, MatchResult}
use Rattle.serde_json.specs.Data.{Data}
use Rattle.serde_json.specs.Find.{get, as_str}
use Rattle.line_object.specs.declared.key.Key.{Key}
use Rattle.line_object.specs.declared.key.Key.TheVariants as keys
use Rattle.network_model.specs.Run.{true_moment}
use Rattle.network_model.specs.declared.event.Event.{Event}
use Rattle.trace_model.specs.declared.line.TraceLine.{TraceLine}
use Rattle.trace_model.specs.declared.line.TraceOut.{TraceOut}
use Rattle.schedule_lines.specs.EventKind.{kind_of_event}
use Rattle.schedule_lines.specs.Json.{field, has_keys, whole_in}
use Rattle.schedule_lines.specs.Line.{event_in}
use Rattle.schedule_lines.specs.Needed.{keys_of_event, kind_in, outcome_keys, outcome_keys_in, own_keys, reading_keys, recorded_keys}
use Rattle.schedule_lines.specs.Refusal.{Answers, HasEach, IsRefused, IsSoOf}
use Rattle.schedule_lines.specs.Inner.Asked.{Asks, reading_key}
use Rattle.schedule_lines.specs.TranscriptLine.{line_keys, out_keys, out_of, reading_in, trace_line_in, traced_in}
use Rattle.schedule_lines.specs.declared.reading.transcript.TranscriptLine.{TranscriptLine}
use Rattle.schedule_lines.specs.declared.reading.transcript.TranscriptLine.TheVariants as lines
use Rattle.schedule_lines.specs.declared.refusal.Refusal.{Refusal}
use Rattle.schedule_lines.specs.declared.refusal.Refusal.TheVariants.{TooMuch, Wrong}
use Rattle.schedule_lines.proofs.Asked.{has_append, of_later, of_left, of_right, refused, timed}

at_out : (o : Option Data) (text : List ℕ) (ks : Option (List Key)) → option_and_then as_str o ≡ Some text → outcome_keys text ≡ ks
    → option_map (λ v. is_some (option_and_then outcome_keys (as_str v))) o ≡ Some (is_some ks)
at_out None text ks said tells = absurd (cc)
at_out (Some v) text ks said tells = rw (said, tells) refl

module _ (d : Data) where
  abbrev OutFound : Option TraceOut
  OutFound = option_and_then (λ text. out_of text d) (field as_str (codes "out") d)

  pub out_asked : (text : List ℕ) (ks : Option (List Key)) (result : Result TraceOut Refusal) → field as_str (codes "out") d ≡ Some text → outcome_keys text ≡ ks
      → MatchOption ks ((out_of text d ≡ None) × (result ≡ Err (Wrong keys.Out))) (λ ls. Asks (out_of text d) d ls result)
      → Asks OutFound d (keys.Out ∷ outcome_keys_in d) result
  out_asked text None result said tells h =
      let wrong = at_out (get (codes "out") d) text None said tells in
      rw h.1 (rw said h.0, (refl, wrong))
  out_asked text (Some ls) (Ok out) said tells h =
      let right = at_out (get (codes "out") d) text (Some ls) said tells in
      (rw said h.0, (right, rw (said, tells) h.1))
  out_asked text (Some ls) (Err r) said tells h = (rw said h.0, of_later d r keys.Out (outcome_keys_in d) (rw (said, tells) h.1))

  abbrev needed : List Key
  needed = keys_of_event (kind_in d) ++ recorded_keys (kind_in d) d

  pub no_event : (r : Refusal) → (event_in d ≡ None) × IsSoOf d r (keys_of_event (kind_in d)) → Answers (traced_in d) d needed (Err r)
  no_event r h =
      let none : trace_line_in d ≡ None = rw h.0 refl in
      (rw none refl, refused d r needed (of_left d r (keys_of_event (kind_in d)) (recorded_keys (kind_in d) d) h.1))

  abbrev line_made : Event → Option ℕ → TraceOut → TraceLine
  line_made event reading out = record { event = event; reading = reading; out = out }

  out_none : (o : Option (List ℕ)) (f : TraceOut → TraceLine) → option_and_then (λ text. out_of text d) o ≡ None
      → option_and_then (λ text. option_and_then (λ out. Some (f out)) (out_of text d)) o ≡ None
  out_none None f e = refl
  out_none (Some text) f e = rw e refl

  out_some : (o : Option (List ℕ)) (f : TraceOut → TraceLine) (out : TraceOut) → option_and_then (λ text. out_of text d) o ≡ Some out
      → option_and_then (λ text. option_and_then (λ out. Some (f out)) (out_of text d)) o ≡ Some (f out)
  out_some None f out e = absurd (cc)
  out_some (Some text) f out e = rw e refl

  module _ (event : Event) (reading : Option ℕ) (is : event_in d ≡ Some event) (kind : kind_in d ≡ Some (kind_of_event event))
      (read : reading_in (true_moment event) d ≡ Some reading) where
    abbrev recorded : List Key
    recorded = reading_keys (kind_of_event event) ++ (keys.Out ∷ (outcome_keys_in d ++ (keys.Number ∷ [])))

    of_recorded : (r : Refusal) → IsSoOf d r (keys.Out ∷ (outcome_keys_in d ++ (keys.Number ∷ []))) → IsRefused d needed r
    of_recorded r h =
        refused d r needed (of_right d r (keys_of_event (kind_in d)) (recorded_keys (kind_in d) d)
        (rw kind (of_right d r (reading_keys (kind_of_event event)) (keys.Out ∷ (outcome_keys_in d ++ (keys.Number ∷ []))) h)))

    pub no_out : (r : Refusal) → (OutFound ≡ None) × IsSoOf d r (keys.Out ∷ outcome_keys_in d) → Answers (traced_in d) d needed (Err r)
    no_out r h =
        let none : trace_line_in d ≡ None = rw (is, read) (out_none (field as_str (codes "out") d) (line_made event reading) h.0) in
        (rw none refl, of_recorded r (of_left d r (keys.Out ∷ outcome_keys_in d) (keys.Number ∷ []) h.1))

    module _ (out : TraceOut) (found : OutFound ≡ Some out) where
      line : TraceLine
      line = line_made event reading out

      whole : trace_line_in d ≡ Some (line_made event reading out)
      whole = rw (is, read) (out_some (field as_str (codes "out") d) (line_made event reading) out found)

      pub no_number : (r : Refusal) → (field whole_in (codes "n") d ≡ None) × IsSoOf d r (keys.Number ∷ []) → Answers (traced_in d) d needed (Err r)
      no_number r h = (
        rw (whole, h.0) refl,
        of_recorded r (of_later d r keys.Out (outcome_keys_in d ++ (keys.Number ∷ [])) (of_right d r (outcome_keys_in d) (keys.Number ∷ []) h.1)),
      )

      all_length : out_keys out ≡ length (outcome_keys_in d) → length (keys_of_event (Some (kind_of_event event)) ++ recorded) ≡ line_keys (line_made event reading out)
      all_length many = omega (
        arith,
        many,
        length-append (own_keys (kind_of_event event)) recorded,
        length-append (reading_keys (kind_of_event event)) (keys.Out ∷ (outcome_keys_in d ++ (keys.Number ∷ []))),
        length-append (outcome_keys_in d) (keys.Number ∷ []),
      )

      pub answered : (n : ℕ) (result : Result TranscriptLine Refusal)
          → HasEach d (keys_of_event (kind_in d)) → HasEach d (reading_key (true_moment event)) → HasEach d (keys.Out ∷ outcome_keys_in d)
          → out_keys out ≡ length (outcome_keys_in d) → (field whole_in (codes "n") d ≡ Some n) × HasEach d (keys.Number ∷ [])
          → MatchResult result (λ j. (j ≡ lines.Event n (line_made event reading out)) × (has_keys (line_keys (line_made event reading out)) d ≡ true))
          (λ r. (r ≡ TooMuch) × (has_keys (line_keys (line_made event reading out)) d ≡ false))
          → Answers (traced_in d) d needed result
      answered n result e r o many number h = on result h
        where
          each : HasEach d needed
          each = has_append d (keys_of_event (kind_in d)) (recorded_keys (kind_in d) d) e
              (rw kind (has_append d (reading_keys (kind_of_event event)) (keys.Out ∷ (outcome_keys_in d ++ (keys.Number ∷ [])))
              (subst (HasEach d) (timed event) r) (o.0, has_append d (outcome_keys_in d) (keys.Number ∷ []) o.1 number.1)))

          long : length needed ≡ line_keys (line_made event reading out)
          long = rw kind (all_length many)

          on : (result : Result TranscriptLine Refusal)
              → MatchResult result (λ j. (j ≡ lines.Event n (line_made event reading out)) × (has_keys (line_keys (line_made event reading out)) d ≡ true))
              (λ r. (r ≡ TooMuch) × (has_keys (line_keys (line_made event reading out)) d ≡ false))
              → Answers (traced_in d) d needed result
          on (Ok j) k = (rw (whole, number.0, k.1) (rw k.0 refl), (each, subst (λ m. has_keys m d ≡ true) (sym long) k.1))
          on (Err r) k = rw k.0 (rw (whole, number.0, k.1) refl, (each, subst (λ m. has_keys m d ≡ false) (sym long) k.1))
