-- A transcript: a network, and lines on what happened in it.
use Rattle.std.specs.Prelude.{List}
use Rattle.network_model.specs.Network.{Network}
use Rattle.trace_model.specs.declared.line.TraceLine.{TraceLine}

-- a network and lines, oldest first
pub record Transcript : Type 0 where
  pub network : Network
  pub lines : List TraceLine
