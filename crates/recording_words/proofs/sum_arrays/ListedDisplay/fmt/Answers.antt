use Rattle.std.proofs.Common.{◌∙◌, take, refl, true, arith}
use Rattle.std.specs.Prelude.{option_map}
use Rattle.std.proofs.Output.{has_written_append, has_written_of_eq}
use Rattle.std.proofs.lemmas.List.{take_more}
use Rattle.recording_words.specs.SumArrays.{sender_text}
use Rattle.recording_words.proofs.Parted.{none_yet_step, parted_step, is_some_mapped}
use Rattle.recording_words.proofs.sum_arrays.ListedDisplay.fmt.Goals as goal

pub loop-sender-preserved : goal.loop-sender-preserved
loop-sender-preserved g c =
    let all = c.args.self.now.0.now in
    let at = c.loop-sender.sender-index in
    let more = take_more all at _ (omega arith) in
    record {
      first = none_yet_step (option_map sender_text) (take at all) _ _ _ _ _ more c.loop-sender.invariant.first (c.is_some.ensures ∙ is_some_mapped sender_text _)
          c.is_next_first-is_first.ensures;
      written = λ plain.
          let so_far = c.loop-sender.invariant.written plain in
          has_written_of_eq _ _ _ _ _
          (parted_step (option_map sender_text) (take at all) _ _ _ more c.loop-sender.invariant.first)
          (has_written_append _ _ _ _ _ _ so_far (c.in_ok-write.ensures.writes so_far.plain (refl {a = true})));
    }
