use Rattle.std.proofs.Common.{[], ◌∙◌, sym, ap, take, refl, true, arith}
use Rattle.std.specs.Prelude.{flat_map}
use Rattle.std.proofs.Output.{has_written_append, has_written_of_eq}
use Rattle.std.proofs.lemmas.List.{flat_map_more, take_more}
use Rattle.capture_extract.specs.Labels.{escape}
use Rattle.capture_extract.proofs.interfaces.EscapedDisplay.fmt.Goals as goal

pub loop-octet-preserved : goal.loop-octet-preserved
loop-octet-preserved g c = λ plain.
    let so_far = c.loop-octet.invariant plain in
    let all = c.args.self.now.0.now in
    let at = c.loop-octet.octet-index in
    has_written_of_eq _ _ _ _ _
    (flat_map_more escape [] (take at all) _ ∙ ap (flat_map escape) (sym (take_more all at _ (omega arith))))
    (has_written_append _ _ _ _ _ _ so_far (c.in_ok-write_escape.ensures so_far.plain (refl {a = true})))
