use Rattle.std.proofs.Common.{◌≡◌, ◌++◌, map, take, drop}
use Rattle.result_audit.specs.Auditor.{auditing_of}
use Rattle.result_audit.specs.Held.{learned}
use Rattle.result_audit.proofs.auditor.Auditor.learn.Given as goal

-- so many learned it, and are the last
abbrev pub invariant-loop : goal.invariant-loop
invariant-loop l = record {
  turned : auditing_of l.self ≡ record (auditing_of l.fn.self) {
    held = drop l.counter l.fn.self.held.items ++ map (learned l.half l.gap) (take l.counter l.fn.self.held.items);
  };
}
