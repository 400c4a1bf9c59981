use Rattle.recording_model.specs.Listening.{table_capacity}
use Rattle.recording_measure.proofs.listener.Listener.judge_response.Goals as goal

pub returns-clause-listens : goal.returns-clause-listens
returns-clause-listens c = λ w l is. record {
  watched = is.watched;
  port = is.port;
  next = is.next;
  asked = is.asked;
  syncs = is.syncs;
  few_syncs = is.few_syncs;
  heard = is.heard;
  responses = c.response.ensures.stands table_capacity l.responses is.responses;
}

pub returns-clause-judgement : goal.returns-clause-judgement
returns-clause-judgement c = λ w l is. c.response.ensures.judgement table_capacity l.responses is.responses
