use Rattle.std.proofs.Common.{◌≡◌, ◌∙◌, ℕ, zero, suc, ◌+◌, ◌%◌, ◌∷◌, List, refl, ap, subst, arith}
use Rattle.ptp_units.specs.Sequence.{ahead, next}
use Rattle.slave_port.specs.History.{Call, RequestLeft, requests_drawn, next_number}
use Rattle.slave_port.specs.StandsFor.{StandsFor}
use Rattle.recording_model.specs.Listening.{setup_in, draws}
use Rattle.recording_measure.proofs.listener.Listener.ask.Goals as goal

requests_drawn-draws : (count tag : ℕ) (history : List Call)
    → requests_drawn (draws count tag history) ≡ requests_drawn history + count
requests_drawn-draws zero tag history = omega arith
requests_drawn-draws (suc count) tag history = omega (arith, requests_drawn-draws count tag history)

-- after requests up to a number the next one is of the number after it
next-drawn : (number first drawn all : ℕ) → all ≡ drawn + (ahead number ((first + drawn) % 65536) + 1)
    → next number ≡ (first + all) % 65536
next-drawn number first drawn all same = omega (arith, same)

pub returns : goal.returns
returns c = λ w l is.
    let count : c.from-count.result + 1 ≡ ahead c.args.number.0 (next_number (setup_in w l) l.calls) + 1 =
    ap (λ n. n + 1) (c.from-count.ensures ∙ c.ahead.ensures ∙ ap (ahead c.args.number.0) is.next) in
    let stood = c.request_left.ensures.stands (setup_in w l) _ (c.draw.ensures (setup_in w l) l.calls is.port) in
    record {
      watched = is.watched;
      port = subst (λ (n : ℕ). StandsFor (setup_in w l) c.request_left.new.self
          (RequestLeft c.args.number.0 c.args.time ∷ draws n c.args.line l.calls)) count stood;
      next = c.next-self.ensures
          ∙ next-drawn c.args.number.0 l.first (requests_drawn l.calls) _ (requests_drawn-draws _ c.args.line l.calls);
      asked = refl;
      syncs = is.syncs;
      few_syncs = is.few_syncs;
      heard = is.heard;
      responses = is.responses;
    }
