use Rattle.capture_file.proofs.Names.{still_named}
use Rattle.capture_file.proofs.section.Section.describe.Goals as goal

pub invariant_of-self : goal.invariant_of-self
invariant_of-self c = record {
  named = still_named c.push_described.result c.args.self.now.interfaces.items _ _ _ _ c.push_described.ensures.interfaces c.push_described.ensures.names c.args.self.now.named;
}
