use Rattle.std.proofs.Common.{[], ◌++◌, refl, true, arith, rules}
use Rattle.std.specs.Fmt.{decimal}
use Rattle.std.proofs.Output.{has_written_append, has_written_of_eq}
use Rattle.explain_transcript.proofs.Codes.{codes_left-all, codes_left-step, codes_left-none}
use Rattle.explain_transcript.proofs.json.CodesDisplay.fmt.Goals as goal

pub loop-why-init : goal.loop-why-init
loop-why-init g c = record {
  text = search rules;
  front = [];
  numbers = codes_left-all c.args.self.now.0.now;
  written = search rules;
}

pub loop-why-preserved : goal.loop-why-preserved
loop-why-preserved g c =
    let so_far = c.loop-why.invariant in
    record {
      text = search rules;
      front = so_far.front ++ (c.loop-why.comma.now ++ decimal c.code.result);
      numbers = rw c.code.ensures
          (codes_left-step so_far.front _ _ c.args.self.now.0.now c.loop-why.why-index _ (omega arith) so_far.numbers);
      written = λ plain.
          let before = so_far.written plain in
          has_written_append _ _ _ _ _ _ before (c.in_ok-write.ensures.writes before.plain (refl {a = true}));
    }

pub returns-clause-writes : goal.returns-clause-writes
returns-clause-writes g c = λ plain ok.
    let so_far = c.loop-why.invariant in
    has_written_of_eq _ _ _ _ _
    (codes_left-none so_far.front _ _ c.args.self.now.0.now c.loop-why.why-index (omega arith) so_far.numbers)
    (so_far.written plain)
