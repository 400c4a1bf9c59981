use Rattle.std.proofs.Common.{[], ◌∙◌, sym, ap, take, refl, true, arith}
use Rattle.std.specs.Prelude.{flat_map}
use Rattle.std.proofs.Output.{has_written_append, has_written_of_eq}
use Rattle.std.proofs.lemmas.List.{flat_map_more, take_more}
use Rattle.recording_words.specs.Unreported.{line_at, told_reasons}
use Rattle.recording_words.proofs.unreported.KindLinesDisplay.fmt.Goals as goal

pub loop-why-preserved : goal.loop-why-preserved
loop-why-preserved g c = λ plain.
    let so_far = c.loop-why.invariant plain in
    let line = line_at c.args.self.now.counts.now c.args.self.now.kind in
    let at = c.loop-why.why-index in
    has_written_of_eq _ _ _ _ _
    (rw c.at-count.ensures
    (flat_map_more line [] (take at told_reasons) _
    ∙ ap (flat_map line) (sym (take_more told_reasons at _ (omega arith)))))
    (has_written_append _ _ _ _ _ _ so_far (c.in_ok-write.ensures.writes so_far.plain (refl {a = true})))
