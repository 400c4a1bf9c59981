use Rattle.std.proofs.Common.{◌+◌, ◌*◌, ◌/◌, [], ◌∷◌, ◌++◌, refl, true, arith}
use Rattle.std.proofs.Output.{has_written_append, has_written_of_eq}
use Rattle.std.proofs.lemmas.Fmt.{decimal_digit}
use Rattle.result_verdict.proofs.Division.{moved, ended, out_of_places}
use Rattle.result_verdict.proofs.difference.DecimalsDisplay.fmt.Goals as goal

pub loop-place-preserved : goal.loop-place-preserved
loop-place-preserved g c =
    let so_far = c.loop-place.invariant in
    let parts = c.loop-place.parts in
    record {
      below = omega arith;
      front = so_far.front ++ (48 + parts * 10 / 100000000000000000) ∷ [];
      decimals = moved so_far.front _ c.loop-place._place parts (omega arith) (omega arith) so_far.decimals;
      written = λ plain.
          let before = so_far.written plain in
          has_written_append _ _ _ _ _ _ before
          (has_written_of_eq _ _ _ _ _ (decimal_digit (parts * 10 / 100000000000000000) (omega arith))
          (c.in_ok-write.ensures.writes before.plain (refl {a = true})));
    }

pub returns-then-parts-eq0-clause-writes : goal.returns-then-parts-eq0-clause-writes
returns-then-parts-eq0-clause-writes g c = λ plain ok.
    let so_far = c.loop-place.invariant in
    has_written_of_eq _ _ _ _ _ (ended so_far.front _ _ _ c.if-parts-eq0.true so_far.decimals) (so_far.written plain)

pub returns-after-loop-place-clause-writes : goal.returns-after-loop-place-clause-writes
returns-after-loop-place-clause-writes g c = λ plain ok.
    let so_far = c.loop-place.invariant in
    has_written_of_eq _ _ _ _ _ (out_of_places so_far.front _ c.loop-place._place _ (omega arith) so_far.decimals)
    (so_far.written plain)
