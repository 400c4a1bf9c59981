-- A port answers by what it reads of messages.
use Rattle.recording_model.proofs.WhatIsRead.{each_answer}
use Rattle.recording_model.proofs.laws.each_answer_rests_on_what_is_read.Goals as goal

pub returns : goal.returns
returns c = each_answer
