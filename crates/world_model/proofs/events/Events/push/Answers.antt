use Rattle.world_model.specs.Inner.Kept.{lists}
use Rattle.world_model.proofs.KeptEvents.{entries-push, AllStored-push}
use Rattle.world_model.proofs.events.Events.push.Goals as goal

pub returns-clause-entries : goal.returns-clause-entries
returns-clause-entries c =
    rw c.push_reserved.ensures.items (entries-push (lists c.args.self.now.stores) (lists c.put-slot.new.self) c.put-slot.ensures.others c.args.self.now.kept.items _
    c.args.event.now c.args.left.now c.requires.stored c.of.ensures c.put-slot.ensures.left)

pub returns-clause-stored : goal.returns-clause-stored
returns-clause-stored c =
    rw c.push_reserved.ensures.items (AllStored-push (lists c.args.self.now.stores) (lists c.put-slot.new.self) c.put-slot.ensures.others c.args.self.now.kept.items _
    c.requires.stored (rw c.of.ensures c.put-slot.ensures.stored))
