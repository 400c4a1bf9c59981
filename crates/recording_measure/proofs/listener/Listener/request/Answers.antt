use Rattle.std.proofs.Common.{◌≡◌, ◌∙◌, ◌==◌, ◌≤◌, ℕ, true, false, ap, subst, arith, nat_lt}
use Rattle.std.proofs.lemmas.Bool.{le-ltb, ne_eqb}
use Rattle.ptp_units.specs.Sequence.{ahead}
use Rattle.slave_port.specs.History.{next_number}
use Rattle.recording_model.specs.declared.watched.Watched.{Watched}
use Rattle.recording_model.specs.Listening.{Listening, setup_in, asks, anew, hears_request}
use Rattle.recording_measure.specs.declared.listener.Listener.{Listener}
use Rattle.recording_measure.specs.Inner.StandsFor.{StandsFor}
use Rattle.recording_measure.proofs.listener.Listener.request.Goals as goal

-- a request whose number is neither near enough nor the last one's
hears_request-anew : (w : Watched) (line time number : ℕ) (l : Listening) (listener : Listener) → l.asked ≡ true
    → nat_lt (ahead number (next_number (setup_in w l) l.calls)) 256 ≡ false
    → (ahead number (next_number (setup_in w l) l.calls) == 65535) ≡ false
    → StandsFor w listener (asks w line time number (anew w line number l))
    → StandsFor w listener (hears_request w line time number l)
hears_request-anew w line time number l listener asked far other stood = rw (asked, far, other) stood

pub returns-clause-listens : goal.returns-clause-listens
returns-clause-listens c = λ w l is.
    let there : c.ahead-ahead.result ≡ ahead c.args.number.0 (next_number (setup_in w l) l.calls) =
    c.ahead-ahead.ensures ∙ ap (ahead c.args.number.0) is.next in
    let far : 256 ≤ ahead c.args.number.0 (next_number (setup_in w l) l.calls) =
    subst (λ (n : ℕ). 256 ≤ n) (c.from.ensures ∙ there) c.if-from-lt-CAPACITY.false in
    hears_request-anew w c.args.line c.args.time c.args.number.0 l c.ask-2.new.self (search arith)
    (le-ltb _ 256 far)
    (ne_eqb _ 65535 (λ same. c.if-ahead.false (there ∙ same)))
    (c.ask-2.ensures w (anew w c.args.line c.args.number.0 l) (c.begin_anew.ensures c.args.line w l is))
