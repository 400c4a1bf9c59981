-- What a decoder answers, answered by a master.
use Rattle.std.proofs.Common.{◌≡◌, ℕ, Ok, Err, ap, sym}
use Rattle.event_codec.specs.declared.message.Message.{Message}
use Rattle.event_codec.specs.declared.port.PortConfig.{PortConfig}
use Rattle.event_codec.specs.Packet.{Contents, contents}
use Rattle.event_codec.specs.Reading.{Reading, Answers}
use Rattle.master_port.specs.Written.{answer}

-- what octets say is answered as the message read from them
pub answer_as_read : (config : PortConfig) (m : Message) (used : ℕ) (said : Reading) (t4 : ℕ) → Answers (Ok (m, used)) said → answer config said t4 ≡ answer config (Ok (contents m)) t4
answer_as_read config m used (Ok read) t4 h = ap (λ (x : Contents). answer config (Ok x) t4) (sym h.0)
answer_as_read config m used (Err refusal) t4 h = absurd h
