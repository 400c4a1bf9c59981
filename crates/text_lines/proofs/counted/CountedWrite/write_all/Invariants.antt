-- What is gone from `rest` was appended, and no write failed.
use Rattle.std.proofs.Common.{◌≡◌, List, ℕ, ◌++◌, length}
use Rattle.std.specs.Io.KnownBytes.{Appends}
use Rattle.text_lines.specs.Counted.{device_of, failures_of, given_of, is_unread}
use Rattle.text_lines.proofs.counted.CountedWrite.write_all.Given as goal

abbrev pub invariant-loop-rest : goal.invariant-loop-rest
invariant-loop-rest g l =
    (done : List ℕ) × (l.buf ≡ done ++ l.rest)
    × Appends (g.W.Write.contents (device_of l.initial.self)) (g.W.Write.contents (device_of l.self)) done
    × (failures_of l.self ≡ failures_of l.initial.self) × (given_of l.self ≡ given_of l.initial.self)
    × (is_unread l.self ≡ is_unread l.initial.self)

abbrev pub decreases-loop-rest : goal.decreases-loop-rest
decreases-loop-rest g l = length l.rest
