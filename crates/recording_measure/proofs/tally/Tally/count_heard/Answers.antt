use Rattle.std.proofs.Common.{◌≡◌, ◌∙◌, Bool, Option, sym, ap, subst}
use Rattle.std.specs.List.{cons_option}
use Rattle.recording_summary.specs.declared.others.Meeting.{Meeting}
use Rattle.recording_summary.specs.declared.no_report.NoReport.{NoReport}
use Rattle.recording_summary.specs.Others.{AreOthers}
use Rattle.recording_summary.specs.declared.counts.Counts.{Counts}
use Rattle.recording_measure.specs.Meetings.{meeting_at}
use Rattle.recording_measure.proofs.Counting.{why_same}
use Rattle.recording_measure.proofs.tally.Tally.count_heard.Goals as goal

pub returns-clause-others : goal.returns-clause-others
returns-clause-others c = λ earlier so.
    let same : c.count_why.new.counts.others ≡ c.args.self.now.counts.others =
    ap (λ (k : Counts). k.others) c.count_why.ensures ∙ why_same c.kind_of.result c.why_by-why.result c.args.self.now.counts in
    let at : Option NoReport → Bool → Option Meeting = meeting_at c.args.line c.args.time c.args.message.now.body c.args.message.now.header in
    let met = c.meeting_at.ensures ∙ (λ i. at (c.why_by-why.ensures i) (c.is_anew.ensures i)) in
    subst (λ (m : Option Meeting). AreOthers (cons_option m earlier) c.take_some.new.others) met
    (c.take_some.ensures earlier (subst (AreOthers earlier) (sym same) so))
