use Rattle.std.proofs.Common.{List, ℕ, ◌++◌, take, ap, ◌∙◌, arith}
use Rattle.std.proofs.lemmas.Slice.{take-put_mid, drop-put_mid}
use Rattle.signaling_codec.proofs.encoding.put.Goals as goal

pub returns : goal.returns
returns g c = record {
  ends = omega (arith, c.copy_from_slice.ensures.len);
  front = take-put_mid c.args.at _ c.args.buffer.now c.copy_from_slice.new.self _ (omega (arith, c.copy_from_slice.ensures.len)) (omega arith)
      ∙ ap (λ (x : List ℕ). take c.args.at c.args.buffer.now ++ x) c.copy_from_slice.ensures.after;
  behind = drop-put_mid c.args.at _ c.args.buffer.now c.copy_from_slice.new.self _ (omega arith) (omega arith) (omega (arith, c.copy_from_slice.ensures.len));
}
