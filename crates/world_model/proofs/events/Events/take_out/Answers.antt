use Rattle.std.proofs.Common.{◌<◌, length, refl, sym, arith}
use Rattle.world_model.specs.Inner.Kept.{lists, entries_of}
use Rattle.world_model.proofs.Happening.{reads_at}
use Rattle.world_model.proofs.LeftStays.{left_stay-none}
use Rattle.world_model.proofs.KeptEvents.{stay-within, entries-out, AllStored-out}
use Rattle.world_model.proofs.events.Events.take_out.Goals as goal

pub index_mut-requires : goal.index_mut-requires
index_mut-requires c =
    let less : c.args.transit < length c.args.self.now.kept.items =
    stay-within (lists c.args.self.now.stores) c.args.self.now.kept.items c.args.transit _ (sym c.in-Some.ensures) in
    omega (arith, less, c.args.self.now.kept.ok.0)

pub returns-in-Some-clause-stay : goal.returns-in-Some-clause-stay
returns-in-Some-clause-stay c =
    let less : c.args.transit < length c.args.self.now.kept.items =
    stay-within (lists c.args.self.now.stores) c.args.self.now.kept.items c.args.transit _ (sym c.in-Some.ensures) in
    entries-out (lists c.args.self.now.stores) c.args.self.now.kept.items c.args.transit _ c.index_mut.result.now
    (reads_at c.args.self.now.kept.items c.args.transit c.index_mut.result.now less c.index_mut.ensures.value) (sym c.in-Some.ensures)

pub returns-in-Some-clause-stored : goal.returns-in-Some-clause-stored
returns-in-Some-clause-stored c = AllStored-out (lists c.args.self.now.stores) c.args.self.now.kept.items c.args.transit _ refl

pub returns-in-None-clause-stay : goal.returns-in-None-clause-stay
returns-in-None-clause-stay c = sym (left_stay-none (entries_of c.args.self.now) c.args.transit (sym c.in-None.ensures))
