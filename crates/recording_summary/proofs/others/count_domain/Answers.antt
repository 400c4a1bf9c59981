use Rattle.std.proofs.Common.{◌∙◌, sym, arith}
use Rattle.recording_summary.proofs.Meetings.{one_domain}
use Rattle.recording_summary.proofs.others.count_domain.Goals as goal

pub returns-in-Some : goal.returns-in-Some
returns-in-Some c = λ earlier m of so. rw (c.saturating_add.ensures, c.from-place.ensures)
    (one_domain m earlier c.args.domains.now so c.in-Some.domain (omega arith) (sym c.in-Some.is ∙ of))
