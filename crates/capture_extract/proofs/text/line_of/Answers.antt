use Rattle.std.proofs.Common.{◌∙◌, ap, ℕ, refl}
use Rattle.std.specs.Fmt.{decimal}
use Rattle.capture_extract.specs.Labels.{label_text}
use Rattle.capture_extract.specs.Inner.Rows.{label_of}
use Rattle.capture_extract.proofs.Dashes.{dash_by, told, told_cell}
use Rattle.capture_extract.proofs.text.line_of.Goals as goal

pub returns : goal.returns
returns c = record {
  mean = c.mean-mean.result;
  is_mean = c.mean-mean.ensures;
  are =
      told_cell _ _ _ _ (told _ _ _ (dash_by label_text (λ label. label_of label.now) c.args.interface) c.in_ok-cell.ensures)
      (told_cell _ _ _ _ (told _ _ _ c.stream.ensures c.in_ok-cell-2.ensures)
      (told_cell _ _ _ _ (c.in_ok-cell-3.ensures)
      (told_cell _ _ _ _ (c.in_ok-cell-4.ensures)
      (told_cell _ _ _ _ (told _ _ _ c.requesting.ensures c.in_ok-cell-5.ensures)
      (told_cell _ _ _ _ (c.in_ok-cell-6.ensures)
      (told_cell _ _ _ _ (c.in_ok-cell-7.ensures)
      (told_cell _ _ _ _ (c.in_ok-cell-8.ensures ∙ ap (λ (n : ℕ). decimal n) c.missing.ensures)
      (told_cell _ _ _ _ (told _ _ _ c.interval.ensures c.in_ok-cell-9.ensures)
      (told_cell _ _ _ _ (told _ _ _ c.steps.ensures c.in_ok-cell-10.ensures)
      (told_cell _ _ _ _ (told _ _ _ c.steps-2.ensures c.in_ok-cell-11.ensures)
      (told_cell _ _ _ _ (c.in_ok-cell-12.ensures)
      (told_cell _ _ _ _ (c.in_ok-cell-13.ensures)
      (told_cell _ _ _ _ (c.in_ok-cell-14.ensures)
      (told_cell _ _ _ _ (c.in_ok-cell-15.ensures)
      (told_cell _ _ _ _ (c.in_ok-cell-16.ensures) refl)))))))))))))));
}
