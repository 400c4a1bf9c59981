-- What a flaw says, which is so of the line. Of the octets that it quotes of values, of a key near another, and of why
-- octets are no JSON, nothing is said here.
use Rattle.std.specs.Prelude.{◌≡◌, ◌≢◌, ◌⊎◌, ℕ, List, codes, Option, Some, None, IsSome}
use Rattle.std.specs.Prelude.{[], ◌∷◌, ◌++◌, All}
use Rattle.std.specs.Str.{IsUtf8}
use Rattle.serde_json.specs.Data.{Data}
use Rattle.serde_json.specs.Find.{get, as_object}
use Rattle.network_model.specs.declared.node.NodeSpec.{NodeSpec}
use Rattle.trace_model.specs.declared.line.TraceLine.{TraceLine}
use Rattle.schedule_lines.specs.Line.{line_of}
use Rattle.schedule_lines.specs.TranscriptLine.{transcript_line_of}
use Rattle.schedule_lines.specs.declared.reading.schedule.Line.TheVariants as schedules
use Rattle.schedule_lines.specs.declared.reading.transcript.TranscriptLine.TheVariants as transcripts
use Rattle.explain_flaws.specs.Needed.{needed}
use Rattle.line_object.specs.Key.{key_text}
use Rattle.schedule_lines.specs.Refusal.{IsRefused}
use Rattle.schedule_lines.specs.Wanted.{HasWanted}
use Rattle.schedule_lines.specs.declared.refusal.Refusal.TheVariants as refusals
use Rattle.explain_flaws.specs.declared.flaw.Flaw.{Flaw}
use Rattle.explain_flaws.specs.declared.flaw.FileForm.{FileForm}
use Rattle.explain_flaws.specs.declared.flaw.FileForm.TheVariants.{Schedule, Transcript}
use Rattle.line_object.specs.declared.key.Key.TheVariants as keys
use Rattle.explain_flaws.specs.declared.flaw.Flaw.TheVariants as flaws

-- a flaw of octets that aren't JSON: whether they are UTF-8
abbrev pub IsSoOfOctets : List ℕ → Flaw → Type 0
IsSoOfOctets line (flaws.NoText octet) = ¬ IsUtf8 line
IsSoOfOctets line (flaws.NoJson octet why) = IsUtf8 line
IsSoOfOctets line flaw = ⊥

-- whether a value is a node's, in a schedule or in a transcript
abbrev pub IsNodeLine : Data → Type 0
IsNodeLine d = ((node : NodeSpec) × (line_of d ≡ Some (schedules.Node node)))
    ⊎ ((node : NodeSpec) × (transcript_line_of d ≡ Some (transcripts.Node node)))

-- whether it is that of an event of a transcript that gives this number
abbrev pub IsEventLine : ℕ → Data → Type 0
IsEventLine number d = (line : TraceLine) × (transcript_line_of d ≡ Some (transcripts.Event number line))

-- octets are, in its quotes, a key of the value that the line doesn't need
abbrev pub IsOther : FileForm → Data → List ℕ → Type 0
IsOther form d octets = (name : List ℕ) × (octets ≡ 34 ∷ (name ++ 34 ∷ [])) × IsSome (get name d)
    × All (λ key. key_text key ≢ name) (needed form d)

-- a flaw of the value of a line of a form, after so many events
abbrev pub IsSoOfValue : FileForm → ℕ → Data → Flaw → Type 0
IsSoOfValue form events d (flaws.NoText octet) = ⊥
IsSoOfValue form events d (flaws.NoJson octet why) = ⊥
IsSoOfValue form events d (flaws.NoObject found) = as_object d ≡ None
IsSoOfValue form events d (flaws.NoKind near) = IsSome (as_object d) × IsRefused d (needed form d) refusals.NoKind
IsSoOfValue form events d (flaws.Missing key near) = IsRefused d (needed form d) (refusals.Missing key)
IsSoOfValue form events d (flaws.Wrong key found) = IsRefused d (needed form d) (refusals.Wrong key)
IsSoOfValue form events d (flaws.WrongPart key part found) = IsRefused d (needed form d) (refusals.WrongPart key part)
IsSoOfValue form events d (flaws.TooMuch key kind out) =
    IsRefused d (needed form d) refusals.TooMuch × ((key.now ≡ []) ⊎ IsOther form d key.now)
IsSoOfValue form events d (flaws.HasOutcome) =
    (form ≡ Schedule) × HasWanted d keys.Ev × IsSome (get (codes "n") d) × IsSome (get (codes "out") d)
IsSoOfValue form events d (flaws.NoOutcome) =
    (form ≡ Transcript) × HasWanted d keys.Ev × (get (codes "n") d ≡ None) × (get (codes "out") d ≡ None)
IsSoOfValue form events d (flaws.NodeAfterEvent) = (events ≢ 0) × IsNodeLine d
IsSoOfValue form events d (flaws.OutOfPlace number place) =
    (place ≡ events) × (number ≢ events) × IsEventLine number d

-- a flaw of a line of a form after so many events, by the JSON value that the line is, if it is one
abbrev pub IsSo : FileForm → ℕ → List ℕ → Option Data → Flaw → Type 0
IsSo form events line None flaw = IsSoOfOctets line flaw
IsSo form events line (Some d) flaw = IsSoOfValue form events d flaw
