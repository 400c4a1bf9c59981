use Rattle.std.proofs.Common.{ℕ, ◌∙◌, ◌∷◌, ◌++◌, List, Some, None, refl, sym, ap, subst}
use Rattle.std.specs.Prelude.{OnOk}
use Rattle.std.proofs.KnownBytes.{Appends-nil}
use Rattle.std.proofs.lemmas.Result.{err_from_is_err_and}
use Rattle.std.specs.Io.KnownBytes.{Appends}
use Rattle.text_lines.specs.Counted.{device_of}
use Rattle.recording_measure.specs.Made.{Measured}
use Rattle.recording_model.specs.Recorded.{Recorded}
use Rattle.recording_measure.specs.Row.{Row, row_of, datagrams}
use Rattle.datagram_source.specs.Datagram.{datagram_of}
use Rattle.recording_measure.specs.Measured.{measured_at, texts_as}
use Rattle.recording_measure.specs.Recents.{AreRecents}
use Rattle.recording_model.specs.Listening.{after_all}
use Rattle.recording_measure.specs.Counts.{Fate, fate_in, IsCounts}
use Rattle.recording_measure.proofs.Fates.{one_there, none_there, fate-measured}
use Rattle.recording_measure.specs.Inner.Hearing.{recorded_of, measured_by, Goes}
use Rattle.recording_measure.proofs.Goes.{goes_one, GoesUntil-none}
use Rattle.recording_measure.proofs.Heard.{on_ok, nothing_said, said_at}
use Rattle.recording_measure.proofs.reports.TimedReports.hear.Goals as goal

pub returns-in_default-clause-heard : goal.returns-in_default-clause-heard
returns-in_default-clause-heard g c = λ watched earlier listens.
    let d : Recorded = recorded_of c.args.datagram.now in
    let row : Row = row_of (datagram_of c.args.datagram.now) in
    let heard = c.listen.ensures.heard watched (datagrams earlier) listens in (
      heard.0,
      subst (λ (ms : List Measured). Appends (g.W.Write.contents (device_of c.args.output.now))
          (g.W.Write.contents (device_of c.args.output.now)) (texts_as c.args.self.now.reports.form ms))
          (sym (nothing_said watched earlier row d refl c.listen.result heard.1 c.in_default.is))
          (Appends-nil _),
    )

pub returns-in_err-push-clause-heard : goal.returns-in_err-push-clause-heard
returns-in_err-push-clause-heard g c = λ watched earlier listens.
    let e = err_from_is_err_and c.from_residual.result c.from_residual.ensures.1 in
    rw (e.1, e.2) (tt, GoesUntil-none c.args.self.now.reports.form _ _)

pub returns-clause-heard : goal.returns-clause-heard
returns-clause-heard g c = λ watched earlier listens.
    let d : Recorded = recorded_of c.args.datagram.now in
    let row : Row = row_of (datagram_of c.args.datagram.now) in
    let heard = c.listen.ensures.heard watched (datagrams earlier) listens in (
      on_ok c.write.result heard.0,
      subst (λ (ms : List Measured). Goes c.args.self.now.reports.form c.write.result ms
          (g.W.Write.contents (device_of c.args.output.now)) (g.W.Write.contents (device_of c.write.new.output)))
          (sym (said_at watched earlier row d refl c.listen.result c.in-Some.completed row.time heard.1 c.in-Some.is refl))
          (goes_one c.args.self.now.reports.form c.write.result (measured_by c.in-Some.completed row.own row.time d.line) _ _
          (rw (c.at.ensures, c.listen.ensures.form, c.as_str.ensures.value, c.in_ok-push.ensures ∙ ap (λ (b : List ℕ). b ++ row.time) c.clear.ensures.bytes)
          at c.write.ensures.written)),
    )

pub returns-in_default-clause-counted : goal.returns-in_default-clause-counted
returns-in_default-clause-counted g c = λ watched earlier all listens so.
    let d : Recorded = recorded_of c.args.datagram.now in
    let row : Row = row_of (datagram_of c.args.datagram.now) in
    let heard = c.listen.ensures.heard watched (datagrams earlier) listens in
    let none = none_there (measured_at watched earlier row)
    (nothing_said watched earlier row d refl c.listen.result heard.1 c.in_default.is) in
    subst (λ (f : Fate). IsCounts (f ∷ all) c.listen.new.self.tally.counts)
    (fate-measured watched earlier row d row.octets None refl refl none) (c.listen.ensures.counted watched (datagrams earlier) all listens so)

pub returns-clause-counted : goal.returns-clause-counted
returns-clause-counted g c = λ watched earlier all listens so.
    let d : Recorded = recorded_of c.args.datagram.now in
    let row : Row = row_of (datagram_of c.args.datagram.now) in
    let heard = c.listen.ensures.heard watched (datagrams earlier) listens in
    let m : Measured = measured_by c.in-Some.completed row.own row.time d.line in
    let fate : Fate = fate_in watched d row.octets (after_all watched (datagrams earlier)) in
    let is = one_there (measured_at watched earlier row) m
    (said_at watched earlier row d refl c.listen.result c.in-Some.completed row.time heard.1 c.in-Some.is refl) in
    subst (λ (f : Fate). OnOk c.write.result (IsCounts (f ∷ all) c.write.new.self.tally.counts))
    (fate-measured watched earlier row d row.octets (Some m) refl refl is)
    ((rw (c.at.ensures, c.as_str.ensures.value, c.in_ok-push.ensures ∙ ap (λ (b : List ℕ). b ++ row.time) c.clear.ensures.bytes)
    at c.write.ensures.counted) fate all refl
    (sym (ap (λ (x : Measured). x.line) c.at.ensures)) refl
    (c.listen.ensures.counted watched (datagrams earlier) all listens so))

pub returns-in_default-clause-recents : goal.returns-in_default-clause-recents
returns-in_default-clause-recents g c = λ watched earlier all listens so.
    let d : Recorded = recorded_of c.args.datagram.now in
    let row : Row = row_of (datagram_of c.args.datagram.now) in
    let heard = c.listen.ensures.heard watched (datagrams earlier) listens in
    subst (λ (ms : List Measured). AreRecents (ms ++ all) c.listen.new.self.recents)
    (sym (nothing_said watched earlier row d refl c.listen.result heard.1 c.in_default.is))
    (subst (AreRecents all) (sym c.listen.ensures.recents) so)

pub returns-clause-recents : goal.returns-clause-recents
returns-clause-recents g c = λ watched earlier all listens so.
    let d : Recorded = recorded_of c.args.datagram.now in
    let row : Row = row_of (datagram_of c.args.datagram.now) in
    let heard = c.listen.ensures.heard watched (datagrams earlier) listens in
    subst (λ (ms : List Measured). OnOk c.write.result (AreRecents (ms ++ all) c.write.new.self.recents))
    (sym (said_at watched earlier row d refl c.listen.result c.in-Some.completed row.time heard.1 c.in-Some.is refl))
    ((rw (c.at.ensures, c.as_str.ensures.value, c.in_ok-push.ensures ∙ ap (λ (b : List ℕ). b ++ row.time) c.clear.ensures.bytes)
    at c.write.ensures.recents) all (subst (AreRecents all) (sym c.listen.ensures.recents) so))
