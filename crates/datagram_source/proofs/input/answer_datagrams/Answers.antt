use Rattle.std.proofs.Common.{inr, refl, sym, subst}
use Rattle.capture_file.specs.Beginning.{first_octets}
use Rattle.text_lines.specs.declared.fault.Cause.TheVariants.{Reading, Task}
use Rattle.text_lines.specs.declared.fault.ReadingFault.TheVariants.{Read}
use Rattle.datagram_source.proofs.Inputs.{captured, lined, short, lined_left, captured_left}
use Rattle.datagram_source.proofs.Lefts.{none_left}
use Rattle.datagram_source.proofs.input.answer_datagrams.Goals as goal

pub returns-in_default-read-clause-left : goal.returns-in_default-read-clause-left
returns-in_default-read-clause-left g c = λ start at octets known.
    let stopped = c.stopped-in_default-read in
    none_left g.T.DatagramTask.rules start octets stopped.result.0 (g.T.DatagramTask.is_at stopped.result.1) (Reading Read)
    stopped.ensures.outcome (subst (λ t. g.T.DatagramTask.is_at t start) (sym stopped.ensures.task) at)

pub returns-then-is_capture-clause-answered : goal.returns-then-is_capture-clause-answered
returns-then-is_capture-clause-answered g c = λ start at.
    let (read, first) = c.in-Ok.ensures.read in
    let told = c.capture_outcome.ensures.answered start at in
    inr (captured g.T.DatagramTask.rules start c.args.head.now _ _ _ _ _ _ (first_octets c.in-Ok.beginning) c.capture_outcome.result.0 read first
    (c.if-is_capture.ensures.magic.0 refl) c.in_default.ensures.written (rw c.octets-start.ensures.octets at told))

pub returns-then-is_capture-clause-left : goal.returns-then-is_capture-clause-left
returns-then-is_capture-clause-left g c = λ start at.
    let (read, first) = c.in-Ok.ensures.read in
    let told = c.capture_outcome.ensures.left start at in
    captured_left g.T.DatagramTask.rules start _ _ (first_octets c.in-Ok.beginning) c.capture_outcome.result.0 _
    read first (rw c.octets-start.ensures.octets at told)

pub returns-then-has_lf-clause-answered : goal.returns-then-has_lf-clause-answered
returns-then-has_lf-clause-answered g c = λ start at.
    let (read, first) = c.in-Ok.ensures.read in
    rw (c.stopped-then-has_lf.ensures.outcome, c.fault_of-then-has_lf.ensures.value) (inr (short g.T.DatagramTask.rules start c.args.head.now _ _ _ _
    (first_octets c.in-Ok.beginning) read first (c.if-is_capture.ensures.none.0 refl)
    (rw c.octets-start.ensures.octets at (c.if-has_lf.ensures.some refl)) c.in_default.ensures.written))

pub returns-then-has_lf-clause-left : goal.returns-then-has_lf-clause-left
returns-then-has_lf-clause-left g c = λ start at octets known.
    let stopped = c.stopped-then-has_lf in
    none_left g.T.DatagramTask.rules start octets stopped.result.0 (g.T.DatagramTask.is_at stopped.result.1) (Task _)
    stopped.ensures.outcome (subst (λ t. g.T.DatagramTask.is_at t start) (sym stopped.ensures.task) at)

pub returns-clause-answered : goal.returns-clause-answered
returns-clause-answered g c = λ start at.
    let (read, first) = c.in-Ok.ensures.read in
    let told = c.answer_lines.ensures.answered start at in
    inr (lined g.T.DatagramTask.rules start c.args.head.now _ _ _ _ _ _ (first_octets c.in-Ok.beginning) c.answer_lines.result.0 read first
    (c.if-is_capture.ensures.none.0 refl) c.in_default.ensures.written (rw c.octets-start.ensures.octets at told))

pub returns-clause-left : goal.returns-clause-left
returns-clause-left g c = λ start at.
    let (read, first) = c.in-Ok.ensures.read in
    let told = c.answer_lines.ensures.left start at in
    lined_left g.T.DatagramTask.rules start _ _ (first_octets c.in-Ok.beginning) c.answer_lines.result.0 _
    read first (rw c.octets-start.ensures.octets at told)
