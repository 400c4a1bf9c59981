use Rattle.std.proofs.Common.{ap, inl, inr, rules, FitsSigned}
use Rattle.std.specs.Int.{w128}
use Rattle.std.proofs.Output.{has_written_of_eq}
use Rattle.std.proofs.lemmas.Int.{to_z-of_z}
use Rattle.ptp_units.proofs.LongDivision.{shown}
use Rattle.ptp_units.proofs.nanoseconds.NanosecondsDisplay.fmt.Goals.{then-self-lt0, else-self-lt0, then-rest-eq0}
use Rattle.ptp_units.proofs.nanoseconds.NanosecondsDisplay.fmt.Goals.{else-rest-eq0}
use Rattle.ptp_units.proofs.nanoseconds.NanosecondsDisplay.fmt.Goals as goal

pub returns-clause-writes : goal.returns-clause-writes
returns-clause-writes g c = λ plain ok.
    let fits : FitsSigned w128 c.args.self.now.0 = search rules in
    let size = c.unsigned_abs-size.result in
    let is = simp to_z-of_z at c.unsigned_abs-size.ensures.value in
    has_written_of_eq _ _ _ _ _
    (rw (c.from.ensures, c.from-2.ensures)
    (shown c.args.self.now.0 size c.if-self-lt0.sign.now c.if-rest-eq0.point.now is
    (elim c.if-self-lt0.branch [
      | then-self-lt0 w ↦ inl (simp to_z-of_z at w.if-self-lt0.true, ap (λ s. s.now) w.sign-is)
      | else-self-lt0 w ↦ inr (simp to_z-of_z at w.if-self-lt0.false, ap (λ s. s.now) w.sign-is)
    ])
    (elim c.if-rest-eq0.branch [
      | then-rest-eq0 w ↦ inl (rw c.from.ensures at w.if-rest-eq0.true, ap (λ s. s.now) w.point-is)
      | else-rest-eq0 w ↦ inr (rw c.from.ensures at w.if-rest-eq0.false, ap (λ s. s.now) w.point-is)
    ])))
    (c.write.ensures.writes plain ok)
