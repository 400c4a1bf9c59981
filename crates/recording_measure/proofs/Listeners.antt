-- What a listener stands for after its port was told of a message.
use Rattle.std.proofs.Common.{◌≡◌, ◌∙◌, ◌+◌, ◌%◌, ◌∷◌, List, sym, ap}
use Rattle.sync_watch.specs.Told.{Told}
use Rattle.sync_watch.specs.StandsFor.{Watch, StandsFor as StandsForTold}
use Rattle.slave_port.specs.History.{Call, requests_drawn}
use Rattle.slave_port.specs.StandsFor.{Port, StandsFor as StandsForCalls}
use Rattle.recording_model.specs.declared.watched.Watched.{Watched}
use Rattle.recording_model.specs.Listening.{Listening, setup_in, table_capacity, told}
use Rattle.recording_measure.specs.declared.listener.Listener.{Listener}
use Rattle.recording_measure.specs.Inner.StandsFor.{StandsFor}

-- a call that draws no request
pub StandsFor-told : (w : Watched) (listener : Listener) (l : Listening) (call : Call) (port : Port)
    → requests_drawn (call ∷ l.calls) ≡ requests_drawn l.calls → StandsForCalls (setup_in w l) port (call ∷ l.calls)
    → StandsFor w listener l → StandsFor w (record listener { port = port }) (told call l)
StandsFor-told w listener l call port same stood is = record {
  watched = is.watched;
  port = stood;
  next = is.next ∙ ap (λ n. (l.first + n) % 65536) (sym same);
  asked = is.asked;
  syncs = is.syncs;
  few_syncs = is.few_syncs;
  heard = is.heard;
  responses = is.responses;
}

-- what was heard of the master is other
pub StandsFor-heard : (w : Watched) (listener : Listener) (l : Listening) (heard : Watch) (told : List Told)
    → StandsForTold table_capacity heard told → StandsFor w listener l
    → StandsFor w (record listener { heard = heard }) (record l { heard = told })
StandsFor-heard w listener l heard told stood is = record {
  watched = is.watched;
  port = is.port;
  next = is.next;
  asked = is.asked;
  syncs = is.syncs;
  few_syncs = is.few_syncs;
  heard = stood;
  responses = is.responses;
}
