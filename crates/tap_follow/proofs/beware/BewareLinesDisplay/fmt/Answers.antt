use Rattle.std.proofs.Common.{[], ◌∙◌, sym, ap, take, refl, true, arith}
use Rattle.std.specs.Prelude.{flat_map}
use Rattle.std.proofs.Output.{has_written_append, has_written_of_eq}
use Rattle.std.proofs.lemmas.List.{flat_map_more, take_more}
use Rattle.tap_follow.specs.Words.{beware_line}
use Rattle.tap_follow.proofs.beware.BewareLinesDisplay.fmt.Goals as goal

pub loop-beware-preserved : goal.loop-beware-preserved
loop-beware-preserved g c = λ plain.
    let so_far = c.loop-beware.invariant plain in
    let all = c.args.self.now.bewares in
    let at = c.loop-beware.beware-index in
    has_written_of_eq _ _ _ _ _
    (flat_map_more (beware_line c.args.self.now.unit c.args.self.now.from c.args.self.now.to) [] (take at all) _
    ∙ ap (flat_map (beware_line c.args.self.now.unit c.args.self.now.from c.args.self.now.to))
    (sym (take_more all at _ (omega arith))))
    (has_written_append _ _ _ _ _ _ so_far (c.in_ok-write.ensures.writes so_far.plain (refl {a = true})))
