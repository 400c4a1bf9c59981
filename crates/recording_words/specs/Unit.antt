-- What lines and packets are called.
use Rattle.std.specs.Prelude.{ℕ, List, codes}
use Rattle.recording_words.specs.declared.unit.InputUnit.{InputUnit}
use Rattle.recording_words.specs.declared.unit.InputUnit.TheVariants.{Line, Packet}

unfoldable pub unit_name : InputUnit → List ℕ
unit_name Line = codes "line"
unit_name Packet = codes "packet"
