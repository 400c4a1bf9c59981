use Rattle.std.proofs.Common.{[], ◌∙◌, sym, ap, take, refl, true, arith}
use Rattle.std.specs.Prelude.{flat_map}
use Rattle.std.proofs.Output.{has_written_append, has_written_of_eq}
use Rattle.std.proofs.lemmas.List.{flat_map_more, take_more}
use Rattle.recording_words.specs.Unreported.{kind_lines, told_kinds}
use Rattle.recording_words.proofs.unreported.UnreportedLinesDisplay.fmt.Goals as goal

pub loop-kind-preserved : goal.loop-kind-preserved
loop-kind-preserved g c = λ plain.
    let so_far = c.loop-kind.invariant plain in
    let lines = kind_lines c.args.self.now.0.now in
    let at = c.loop-kind.kind-index in
    has_written_of_eq _ _ _ _ _
    (flat_map_more lines [] (take at told_kinds) _
    ∙ ap (flat_map lines) (sym (take_more told_kinds at _ (omega arith))))
    (has_written_append _ _ _ _ _ _ so_far (c.in_ok-write.ensures.writes so_far.plain (refl {a = true})))
