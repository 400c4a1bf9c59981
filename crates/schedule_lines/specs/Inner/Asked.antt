-- What the parts of a line answer, each of the keys that it asks for.
use Rattle.std.specs.Prelude.{◌≡◌, ℕ, option_and_then, option_map, List, [], ◌∷◌, Option, Some, None, Result, MatchResult}
use Rattle.serde_json.specs.Data.{Data}
use Rattle.line_object.specs.declared.key.Key.{Key}
use Rattle.line_object.specs.declared.key.Key.TheVariants.{Reading}
use Rattle.event_codec.specs.declared.port.PortConfig.{PortConfig}
use Rattle.ptp_units.specs.declared.sequence.Seq.{Seq}
use Rattle.schedule_lines.specs.Line.{node_in, config_in, first_in}
use Rattle.schedule_lines.specs.Refusal.{HasEach, IsSoOf}
use Rattle.schedule_lines.specs.declared.refusal.Refusal.{Refusal}

-- what is asked of these keys is this, or a refusal is so
abbrev pub Asks : {X : Type 0} → Option X → Data → List Key → Result X Refusal → Type 0
Asks read d keys result = MatchResult result
    (λ x. (read ≡ Some x) × HasEach d keys)
    (λ refusal. (read ≡ None) × IsSoOf d refusal keys)

-- a node's name, what its port is set up with, and the number that it draws first
abbrev pub port_parts : Data → Option (List ℕ × PortConfig × Seq)
port_parts d =
    option_and_then (λ name. option_and_then (λ config. option_map (λ first. (name, config, first)) (first_in d)) (config_in d)) (node_in d)

-- the key of the reading, where there is a true moment
abbrev pub reading_key : Option ℕ → List Key
reading_key None = []
reading_key (Some at) = Reading ∷ []
