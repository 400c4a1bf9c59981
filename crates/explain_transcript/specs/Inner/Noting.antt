-- What was noted of the events of an input.
use Rattle.std.specs.Prelude.{[], ◌∷◌, reverse, ⊤}
use Rattle.network_model.specs.Network.{Network}
use Rattle.trace_model.specs.Line.{Lines}
use Rattle.exchange_check.specs.Evidence.{Evidences, unbegun}
use Rattle.exchange_check.specs.Transcript.{Transcript as Fed}
use Rattle.exchange_check.specs.declared.evidence.Evidence.{Evidence}
use Rattle.explain_input.specs.declared.input.Input.{Input}
use Rattle.explain_input.specs.declared.input.Input.TheVariants.{Transcript, Schedule}

-- nodes, and lines on what happened, of which the newest is in front
abbrev pub fed_of : Network → Lines → Fed
fed_of nodes lines = record { network = nodes; lines = reverse lines }

-- it was noted of just these lines; of no line in whatever network
abbrev pub IsNotedOf : Evidence → Network → Lines → Type 0
IsNotedOf evidence nodes [] = (network : Network) → Evidences evidence (unbegun network)
IsNotedOf evidence nodes (line ∷ earlier) = Evidences evidence (fed_of nodes (line ∷ earlier))

-- it was noted of just the events of a transcript
abbrev pub IsNotedIn : Evidence → Input → Type 0
IsNotedIn evidence (Transcript state) = IsNotedOf evidence state.nodes state.lines
IsNotedIn evidence (Schedule state) = ⊤
