-- What a listener makes of a message, step by step.
use Rattle.std.specs.Prelude.{◌≡◌, ℕ, [], ◌∷◌}
use Rattle.sync_watch.specs.declared.judgement.Judgement.{Judgement}
use Rattle.sync_watch.specs.declared.arrival.Arrival.{Arrival}
use Rattle.sync_watch.specs.Judged.{after_sync, after_follow_up, after_response}
use Rattle.slave_port.specs.History.{Call, SetMaster}
use Rattle.recording_model.specs.declared.watched.Watched.{Watched}
use Rattle.recording_model.specs.Listening.{Listening, table_capacity}
use Rattle.recording_measure.specs.declared.listener.Listener.{Listener}
use Rattle.recording_measure.specs.declared.listener.Reply.{Reply}
use Rattle.recording_measure.specs.Inner.StandsFor.{StandsFor}
use Rattle.recording_measure.specs.Inner.Became.{reply_in}

-- whatever a listener stands for, this is what a number says
abbrev pub Says : (Listening → Judgement) → Listener → Judgement → Type 0
Says judged listener result = (w : Watched) (l : Listening) → StandsFor w listener l → result ≡ judged l

-- whatever a listener stands for, this is what its port replies to a call
abbrev pub Replies : Call → Listener → Reply → Type 0
Replies call listener result = (w : Watched) (l : Listening) → StandsFor w listener l → result ≡ reply_in w l call

-- what was heard, with a Sync or a Follow_Up or a Delay_Resp more, unless it came before
abbrev pub with_sync : Arrival → Listening → Listening
with_sync a l = record l { heard = after_sync a table_capacity l.heard }

abbrev pub with_follow_up : Arrival → Listening → Listening
with_follow_up a l = record l { heard = after_follow_up a table_capacity l.heard }

abbrev pub with_response : (number time : ℕ) → Listening → Listening
with_response number time l = record l { responses = after_response table_capacity number time l.responses }

-- the port is told its master again
abbrev pub told_again : Watched → (line : ℕ) → Listening → Listening
told_again w line l = record l { calls = SetMaster w.master ∷ l.calls; responses = []; begun = line }
