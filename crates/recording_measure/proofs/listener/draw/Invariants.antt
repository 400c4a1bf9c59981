use Rattle.std.proofs.Common.{List}
use Rattle.slave_port.specs.History.{Setup, Call}
use Rattle.slave_port.specs.StandsFor.{StandsFor}
use Rattle.recording_model.specs.Listening.{draws}
use Rattle.recording_measure.proofs.listener.draw.Given as goal

abbrev pub invariant-loop : goal.invariant-loop
invariant-loop l =
    (setup : Setup) (history : List Call) → StandsFor setup l.fn.port history
    → StandsFor setup l.port (draws l.counter l.tag history)
