use Rattle.std.proofs.Common.{◌≡◌, length}
use Rattle.pairing.proofs.ring_table.default_slots.Given as goal

abbrev pub invariant-loop : goal.invariant-loop
invariant-loop g l = length l.slots.items ≡ l.counter
