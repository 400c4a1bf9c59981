use Rattle.std.proofs.Common.{rules, ◌≡◌, ◌∙◌, Ok, length}
use Rattle.std.proofs.lemmas.Result.{err_from_is_err_and}
use Rattle.event_codec.specs.Packet.{contents}
use Rattle.event_codec.specs.Correction.{with_correction}
use Rattle.transparent_clock.specs.Forwarding.{forwarded}
use Rattle.transparent_clock.proofs.Leaving.{forwarded_as_read, left_as_read}
use Rattle.transparent_clock.proofs.transit.Transit.leave.Goals as goal

pub returns-clause-forwarded : goal.returns-clause-forwarded
returns-clause-forwarded c = λ said h.
    let m = c.in-Ok.message in
    let correction = c.in_ok-correction-in-Ok.correction in
    let goes : forwarded (Ok (contents m)) c.args.self c.args.reading ≡ Ok (with_correction (contents m) correction) = search rules in
    let same : length c.patch_correction.new.octets ≡ length c.args.octets.now = search rules in
    left_as_read m _ said correction c.args.self c.args.reading c.args.octets.now _ (c.in-Ok.ensures.reading said h) goes same c.patch_correction.ensures.message h

pub returns-in_err-correction-in-Ok-clause-forwarded : goal.returns-in_err-correction-in-Ok-clause-forwarded
returns-in_err-correction-in-Ok-clause-forwarded c = λ said h.
    let e = err_from_is_err_and c.from_residual.result c.from_residual.ensures.1 in
    rw (e.1, e.2) (forwarded_as_read c.in-Ok.message _ said c.args.self c.args.reading (c.in-Ok.ensures.reading said h) ∙ c.in_err-correction-in-Ok.ensures)
