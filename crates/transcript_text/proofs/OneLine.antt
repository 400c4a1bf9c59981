-- An event after a run is told by one line.
use Rattle.std.proofs.Common.{◌≡◌, ◌∙◌, ℕ, List, ◌∷◌, length, Option, Some, None, refl, sym, ap, subst}
use Rattle.std.specs.Prelude.{codes, option_map}
use Rattle.serde_json.specs.Data.{Data, string, object, no_members}
use Rattle.event_codec.specs.Packet.{Contents}
use Rattle.event_codec.proofs.Again.{octets_same}
use Rattle.slave_port.specs.declared.heard.Report.{Report}
use Rattle.network_model.specs.declared.event.Event.{Event}
use Rattle.network_model.specs.declared.stepped.Outcome.{Outcome}
use Rattle.network_model.specs.Network.{Network}
use Rattle.network_model.specs.Run.{Run}
use Rattle.network_model.specs.Truth.{copy_of}
use Rattle.trace_model.specs.declared.line.TraceLine.{TraceLine}
use Rattle.trace_model.specs.declared.line.TraceOut.{TraceOut}
use Rattle.trace_model.specs.Told.{TellsEvent, TellsOctets, TellsMade, TellsOutcome}
use Rattle.schedule_lines.specs.Written.{whole, octets_data, moment_data, with_some, with_event, with_report}
use Rattle.schedule_lines.specs.Written.{out_code, made_octets, out_report, out_text, event_data, line_text}
use Rattle.transcript_text.specs.Replay.{IsEventLine}
use Rattle.network_model.specs.declared.stepped.Outcome.TheVariants as outcomes
use Rattle.trace_model.specs.declared.line.TraceOut.TheVariants as outs

one_copy : (copy : Option Contents) (a b : List ℕ) → TellsOctets copy a → TellsOctets copy b → a ≡ b
one_copy (Some m) a b h k = octets_same m a b h k
one_copy None a b h k = h ∙ sym k

-- what is written of what came out
record IsSameOut (a b : TraceOut) : Type 0 where
  code : out_code a ≡ out_code b
  made : made_octets a ≡ made_octets b
  report : out_report a ≡ out_report b
  text : out_text a ≡ out_text b

same_out : (a b : TraceOut) → a ≡ b → IsSameOut a b
same_out a b e = record { code = ap out_code e; made = ap made_octets e; report = ap out_report e; text = ap out_text e }

-- what came out is these octets
record IsMade (copy : Option Contents) (out : TraceOut) : Type 0 where
  octets : List ℕ
  told : TellsOctets copy octets
  code : out_code out ≡ None
  made : made_octets out ≡ Some octets
  report : out_report out ≡ None
  text : out_text out ≡ codes "made"

is_made : (copy : Option Contents) (out : TraceOut) → TellsMade copy out → IsMade copy out
is_made copy (outs.Made octets) told = record { octets = octets.items; told = told; code = refl; made = refl; report = refl; text = refl }
is_made copy outs.Done told = absurd told
is_made copy outs.Entered told = absurd told
is_made copy outs.Held told = absurd told
is_made copy outs.Completed told = absurd told
is_made copy (outs.Report report) told = absurd told
is_made copy (outs.Ignored code) told = absurd told
is_made copy (outs.Refused code) told = absurd told

one_out : (copy : Option Contents) (outcome : Outcome) (a b : TraceOut) → TellsOutcome copy outcome a → TellsOutcome copy outcome b → IsSameOut a b
one_out copy outcomes.Done a b h k = same_out a b (h ∙ sym k)
one_out copy outcomes.Entered a b h k = same_out a b (h ∙ sym k)
one_out copy (outcomes.Heard heard) a b h k = same_out a b (h ∙ sym k)
one_out copy (outcomes.Refused code) a b h k = same_out a b (h ∙ sym k)
one_out copy outcomes.Made a b h k =
    let one = is_made copy a h in
    let other = is_made copy b k in
    record {
      code = one.code ∙ sym other.code;
      made = one.made ∙ ap Some (one_copy copy one.octets other.octets one.told other.told) ∙ sym other.made;
      report = one.report ∙ sym other.report;
      text = one.text ∙ sym other.text;
    }

-- a line's value, by its parts
value_of : ℕ → Event → Option ℕ → Option ℕ → Option (List ℕ) → Option Report → List ℕ → Data
value_of n event reading code made report text = object
    (with_event event
    (with_some (codes "code") (option_map whole code)
    (with_some (codes "hex") (option_map octets_data made)
    (with_some (codes "n") (Some (whole n))
    (with_some (codes "out") (Some (string text))
    (with_some (codes "reading") (option_map moment_data reading)
    (with_report report no_members)))))))

by_parts : (n : ℕ) (line : TraceLine)
    → event_data n line ≡ value_of n line.event line.reading (out_code line.out) (made_octets line.out) (out_report line.out) (out_text line.out)
unfolding value_of
by_parts n line = refl

one_event : (network : Network) (event : Event) (earlier : Run) (a b : TraceLine) → TellsEvent network event earlier a → TellsEvent network event earlier b
    → event_data (length earlier) a ≡ event_data (length earlier) b
one_event network event earlier a b h k =
    let n : ℕ = length earlier in
    let tag : k.stepped.tag ≡ h.stepped.tag = k.answered.tag ∙ sym h.answered.tag in
    let outcome : k.stepped.outcome ≡ h.stepped.outcome = cc (h.answered.outcome, k.answered.outcome) in
    let happened : a.event ≡ b.event = h.told.event ∙ sym k.told.event in
    let reading : a.reading ≡ b.reading = h.told.reading ∙ h.answered.reading ∙ sym k.answered.reading ∙ sym k.told.reading in
    let told = subst (λ (x : ℕ × Outcome). TellsOutcome (copy_of network (event ∷ earlier) x.0) x.1 b.out) (λ i. (tag i, outcome i)) k.told.outcome in
    let out = one_out (copy_of network (event ∷ earlier) h.stepped.tag) h.stepped.outcome a.out b.out h.told.outcome told in
    by_parts n a ∙ (λ i. value_of n (happened i) (reading i) (out.code i) (out.made i) (out.report i) (out.text i)) ∙ sym (by_parts n b)

pub one_line : (network : Network) (earlier : Run) (event : Event) (a b : List ℕ) → IsEventLine network earlier event a → IsEventLine network earlier event b → a ≡ b
one_line network earlier event a b h k =
    h.text ∙ ap line_text (one_event network event earlier h.recorded k.recorded h.told k.told) ∙ sym k.text
