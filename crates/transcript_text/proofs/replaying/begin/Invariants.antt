-- The lines of the nodes so far went out.
use Rattle.std.proofs.Common.{take}
use Rattle.std.specs.Io.KnownBytes.{Appends}
use Rattle.text_lines.specs.Counted.{device_of, HasNotFailed}
use Rattle.transcript_text.specs.Replay.{nodes_text}
use Rattle.transcript_text.proofs.replaying.begin.Given as goal

abbrev pub invariant-loop-node : goal.invariant-loop-node
invariant-loop-node g l = record {
  written : Appends (g.W.Write.contents (device_of l.fn.output)) (g.W.Write.contents (device_of l.output)) (nodes_text (take l.node-index l.nodes));
  writer : HasNotFailed l.fn.output l.output;
}
