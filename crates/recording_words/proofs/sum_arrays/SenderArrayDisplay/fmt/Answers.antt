use Rattle.std.proofs.Common.{◌++◌, ap}
use Rattle.std.specs.Prelude.{codes}
use Rattle.std.proofs.Output.{has_written_of_eq}
use Rattle.recording_words.specs.SumArrays.{rest_element, sender_text, senders_text}
use Rattle.recording_words.proofs.Parted.{parted_rest}
use Rattle.recording_words.proofs.sum_arrays.SenderArrayDisplay.fmt.Goals as goal

pub returns-clause-writes : goal.returns-clause-writes
unfolding senders_text
returns-clause-writes g c = λ plain ok.
    let senders = c.args.self.now.0 in
    has_written_of_eq _ _ _ _ _
    (ap (λ t. codes "[" ++ t) (parted_rest sender_text senders.listed (rest_element senders.rest) (codes "]") _ c.is_any_listed.ensures))
    (c.write.ensures.writes plain ok)
