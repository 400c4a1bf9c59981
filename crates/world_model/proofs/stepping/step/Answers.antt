use Rattle.std.proofs.Common.{◌≡◌, ◌∙◌, ◌<◌, List, [], ◌∷◌, ◌++◌, length, slice_set, Ok, Err, sym, ap, subst, arith}
use Rattle.std.proofs.lemmas.Option.{slice_get_within}
use Rattle.network_model.specs.Outcome.{IsStepped}
use Rattle.world_model.specs.Inner.Stands.{Entry, run_of, IsWorld}
use Rattle.world_model.specs.Inner.Acts.{ActsIn, entries_after}
use Rattle.world_model.specs.Inner.Kept.{Lists, lists, entries_in, entries_of, HasRoom}
use Rattle.world_model.proofs.Entries.{run_of-after}
use Rattle.world_model.proofs.Happening.{found, answered, done-world, done-stepped, refused-world}
use Rattle.world_model.proofs.KeptEvents.{entered-some}
use Rattle.world_model.proofs.stepping.step.Goals as goal

pub keep-requires-clause-room : goal.keep-requires-clause-room
keep-requires-clause-room c =
    let old = c.index_mut.result.now in
    let here = found c.args.nodes.now c.site.result.now c.in-Some.index c.in-Some.ensures.node c.in-Some.ensures.found in
    let less : c.in-Some.index < length c.args.stations.now.items = omega (arith, slice_get_within c.args.nodes.now c.in-Some.index here.node here.at, c.requires.world.nodes.count) in
    let roomy : entries_of c.reserve.new.self ≡ entries_of c.args.events.now =
    ap (λ (ls : Lists). entries_in ls c.reserve.new.self.kept.items) c.reserve.ensures.lists ∙ ap (entries_in (lists c.args.events.now.stores)) c.reserve.ensures.kept in
    let acts = subst (λ (es : List Entry). ActsIn c.args.nodes.now c.args.event.now es old c.act.new.self (HasRoom c.reserve.new.self) (Ok c.in-Ok.happened)) roomy c.in-Ok.ensures in
    let ans = answered c.args.nodes.now c.args.event.now c.args.stations.now.items (entries_of c.args.events.now) c.requires.world c.site.result.now c.site.ensures
    c.in-Some.index here less old c.act.new.self c.index_mut.ensures.value (HasRoom c.reserve.new.self) (Ok c.in-Ok.happened) acts in
    ans.0

pub keep-requires-clause-entered : goal.keep-requires-clause-entered
keep-requires-clause-entered c =
    let old = c.index_mut.result.now in
    let here = found c.args.nodes.now c.site.result.now c.in-Some.index c.in-Some.ensures.node c.in-Some.ensures.found in
    let less : c.in-Some.index < length c.args.stations.now.items = omega (arith, slice_get_within c.args.nodes.now c.in-Some.index here.node here.at, c.requires.world.nodes.count) in
    let roomy : entries_of c.reserve.new.self ≡ entries_of c.args.events.now =
    ap (λ (ls : Lists). entries_in ls c.reserve.new.self.kept.items) c.reserve.ensures.lists ∙ ap (entries_in (lists c.args.events.now.stores)) c.reserve.ensures.kept in
    let acts = subst (λ (es : List Entry). ActsIn c.args.nodes.now c.args.event.now es old c.act.new.self (HasRoom c.reserve.new.self) (Ok c.in-Ok.happened)) roomy c.in-Ok.ensures in
    let ans = answered c.args.nodes.now c.args.event.now c.args.stations.now.items (entries_of c.args.events.now) c.requires.world c.site.result.now c.site.ensures
    c.in-Some.index here less old c.act.new.self c.index_mut.ensures.value (HasRoom c.reserve.new.self) (Ok c.in-Ok.happened) acts in
    entered-some c.args.event.now (run_of (entries_of c.args.events.now)) c.in-Ok.happened.left ans.1.stay

pub returns-in-Ok-clause-world : goal.returns-in-Ok-clause-world
returns-in-Ok-clause-world c =
    let old = c.index_mut.result.now in
    let here = found c.args.nodes.now c.site.result.now c.in-Some.index c.in-Some.ensures.node c.in-Some.ensures.found in
    let less : c.in-Some.index < length c.args.stations.now.items = omega (arith, slice_get_within c.args.nodes.now c.in-Some.index here.node here.at, c.requires.world.nodes.count) in
    let roomy : entries_of c.reserve.new.self ≡ entries_of c.args.events.now =
    ap (λ (ls : Lists). entries_in ls c.reserve.new.self.kept.items) c.reserve.ensures.lists ∙ ap (entries_in (lists c.args.events.now.stores)) c.reserve.ensures.kept in
    let acts = subst (λ (es : List Entry). ActsIn c.args.nodes.now c.args.event.now es old c.act.new.self (HasRoom c.reserve.new.self) (Ok c.in-Ok.happened)) roomy c.in-Ok.ensures in
    let ans = answered c.args.nodes.now c.args.event.now c.args.stations.now.items (entries_of c.args.events.now) c.requires.world c.site.result.now c.site.ensures
    c.in-Some.index here less old c.act.new.self c.index_mut.ensures.value (HasRoom c.reserve.new.self) (Ok c.in-Ok.happened) acts in
    let entry : Entry = record { event = c.args.event.now; left = c.in-Ok.happened.left } in
    let put : entries_of c.keep.new.self ≡ entries_after c.args.event.now (entries_of c.args.events.now) ++ entry ∷ [] =
    c.keep.ensures.entries ∙ ap (λ (es : List Entry). entries_after c.args.event.now es ++ entry ∷ []) roomy in
    subst (λ (es : List Entry). IsWorld c.args.nodes.now (slice_set c.args.stations.now.items c.in-Some.index c.act.new.self) es) (sym put)
    (done-world c.args.nodes.now c.args.event.now c.args.stations.now.items (entries_of c.args.events.now) c.requires.world c.site.result.now c.site.ensures
    c.in-Some.index here less old c.act.new.self c.index_mut.ensures.value (HasRoom c.reserve.new.self) c.in-Ok.happened ans.1)

pub returns-in-Ok-clause-steps : goal.returns-in-Ok-clause-steps
returns-in-Ok-clause-steps c =
    let old = c.index_mut.result.now in
    let here = found c.args.nodes.now c.site.result.now c.in-Some.index c.in-Some.ensures.node c.in-Some.ensures.found in
    let less : c.in-Some.index < length c.args.stations.now.items = omega (arith, slice_get_within c.args.nodes.now c.in-Some.index here.node here.at, c.requires.world.nodes.count) in
    let roomy : entries_of c.reserve.new.self ≡ entries_of c.args.events.now =
    ap (λ (ls : Lists). entries_in ls c.reserve.new.self.kept.items) c.reserve.ensures.lists ∙ ap (entries_in (lists c.args.events.now.stores)) c.reserve.ensures.kept in
    let acts = subst (λ (es : List Entry). ActsIn c.args.nodes.now c.args.event.now es old c.act.new.self (HasRoom c.reserve.new.self) (Ok c.in-Ok.happened)) roomy c.in-Ok.ensures in
    let ans = answered c.args.nodes.now c.args.event.now c.args.stations.now.items (entries_of c.args.events.now) c.requires.world c.site.result.now c.site.ensures
    c.in-Some.index here less old c.act.new.self c.index_mut.ensures.value (HasRoom c.reserve.new.self) (Ok c.in-Ok.happened) acts in
    let entry : Entry = record { event = c.args.event.now; left = c.in-Ok.happened.left } in
    let put : entries_of c.keep.new.self ≡ entries_after c.args.event.now (entries_of c.args.events.now) ++ entry ∷ [] =
    c.keep.ensures.entries ∙ ap (λ (es : List Entry). entries_after c.args.event.now es ++ entry ∷ []) roomy in
    let counted : c.len-tag.result ≡ length (entries_of c.args.events.now) = c.len-tag.ensures ∙ ap (length {A = Entry}) roomy in (
      subst (IsStepped c.args.nodes.now (run_of (entries_of c.args.events.now)) c.args.event.now)
          (λ i. record { tag = sym counted i; reading = c.in-Ok.happened.reading; outcome = c.in-Ok.happened.outcome })
          (done-stepped c.args.nodes.now c.args.event.now c.args.stations.now.items (entries_of c.args.events.now) c.requires.world c.site.result.now c.site.ensures
          c.in-Some.index here less old c.act.new.self c.index_mut.ensures.value (HasRoom c.reserve.new.self) c.in-Ok.happened ans.1),
      ap run_of put ∙ run_of-after c.args.event.now (entries_of c.args.events.now) c.in-Ok.happened.left,
    )

pub returns-in-Err-clause-world : goal.returns-in-Err-clause-world
returns-in-Err-clause-world c =
    let old = c.index_mut.result.now in
    let here = found c.args.nodes.now c.site.result.now c.in-Some.index c.in-Some.ensures.node c.in-Some.ensures.found in
    let less : c.in-Some.index < length c.args.stations.now.items = omega (arith, slice_get_within c.args.nodes.now c.in-Some.index here.node here.at, c.requires.world.nodes.count) in
    let roomy : entries_of c.reserve.new.self ≡ entries_of c.args.events.now =
    ap (λ (ls : Lists). entries_in ls c.reserve.new.self.kept.items) c.reserve.ensures.lists ∙ ap (entries_in (lists c.args.events.now.stores)) c.reserve.ensures.kept in
    let acts = subst (λ (es : List Entry). ActsIn c.args.nodes.now c.args.event.now es old c.act.new.self (HasRoom c.reserve.new.self) (Err c.in-Err.why)) roomy c.in-Err.ensures in
    let ans = answered c.args.nodes.now c.args.event.now c.args.stations.now.items (entries_of c.args.events.now) c.requires.world c.site.result.now c.site.ensures
    c.in-Some.index here less old c.act.new.self c.index_mut.ensures.value (HasRoom c.reserve.new.self) (Err c.in-Err.why) acts in
    subst (λ (es : List Entry). IsWorld c.args.nodes.now (slice_set c.args.stations.now.items c.in-Some.index c.act.new.self) es) (sym roomy)
    (refused-world c.args.nodes.now c.args.event.now c.args.stations.now.items (entries_of c.args.events.now) c.requires.world c.site.result.now c.site.ensures
    c.in-Some.index here less old c.act.new.self c.index_mut.ensures.value (HasRoom c.reserve.new.self) ans.0)

pub returns-in-Err-clause-steps : goal.returns-in-Err-clause-steps
returns-in-Err-clause-steps c =
    let old = c.index_mut.result.now in
    let here = found c.args.nodes.now c.site.result.now c.in-Some.index c.in-Some.ensures.node c.in-Some.ensures.found in
    let less : c.in-Some.index < length c.args.stations.now.items = omega (arith, slice_get_within c.args.nodes.now c.in-Some.index here.node here.at, c.requires.world.nodes.count) in
    let roomy : entries_of c.reserve.new.self ≡ entries_of c.args.events.now =
    ap (λ (ls : Lists). entries_in ls c.reserve.new.self.kept.items) c.reserve.ensures.lists ∙ ap (entries_in (lists c.args.events.now.stores)) c.reserve.ensures.kept in
    let acts = subst (λ (es : List Entry). ActsIn c.args.nodes.now c.args.event.now es old c.act.new.self (HasRoom c.reserve.new.self) (Err c.in-Err.why)) roomy c.in-Err.ensures in
    let ans = answered c.args.nodes.now c.args.event.now c.args.stations.now.items (entries_of c.args.events.now) c.requires.world c.site.result.now c.site.ensures
    c.in-Some.index here less old c.act.new.self c.index_mut.ensures.value (HasRoom c.reserve.new.self) (Err c.in-Err.why) acts in
    (ans.1, ap run_of roomy)

pub index_mut-requires : goal.index_mut-requires
index_mut-requires c =
    let here = found c.args.nodes.now c.site.result.now c.in-Some.index c.in-Some.ensures.node c.in-Some.ensures.found in
    omega (arith, slice_get_within c.args.nodes.now c.in-Some.index here.node here.at, c.requires.world.nodes.count, c.args.stations.now.ok.0)
