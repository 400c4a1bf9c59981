use Rattle.std.proofs.Common.{◌∙◌, ◌∷◌, ℕ, List, Option, refl, sym, ap, subst}
use Rattle.event_codec.specs.Packet.{Contents, contents}
use Rattle.recording_model.specs.Listening.{Listening, after_all}
use Rattle.recording_model.specs.Recorded.{Recorded}
use Rattle.recording_measure.specs.declared.listener.Became.{Became}
use Rattle.recording_summary.specs.declared.counts.Counts.{Counts}
use Rattle.recording_measure.specs.Counts.{kind_of, fate_in, meeting_of, IsCounts}
use Rattle.recording_measure.specs.Meetings.{meeting_at}
use Rattle.recording_summary.specs.declared.others.Others.{Others}
use Rattle.recording_summary.specs.Others.{AreOthers}
use Rattle.std.specs.Prelude.{filter_map}
use Rattle.std.specs.List.{cons_option}
use Rattle.recording_measure.specs.Inner.Counting.{with_why, why_by, is_anew}
use Rattle.datagram_source.specs.Said.{reading_of}
use Rattle.recording_measure.specs.Inner.Hearing.{recorded_of}
use Rattle.recording_model.specs.declared.watched.Watched.{Watched}
use Rattle.recording_summary.specs.declared.announces.Announcement.{Announcement}
use Rattle.recording_summary.specs.declared.announces.Announces.{Announces}
use Rattle.recording_summary.specs.Announces.{AreAnnounces}
use Rattle.recording_measure.specs.Announced.{announcement_in}
use Rattle.recording_measure.proofs.Counting.{IsNoted, announcements, heard_counts, refused_counts, noted_counts}
use Rattle.recording_measure.proofs.reports.Reports.listen.Goals as goal

pub returns-in-Err-clause-counted : goal.returns-in-Err-clause-counted
returns-in-Err-clause-counted c = λ watched earlier all listens so.
    let d : Recorded = recorded_of c.args.datagram.now in
    let octets : List ℕ = c.args.datagram.now.octets.now in
    let l : Listening = after_all watched earlier in
    let counts : Counts = c.note.new.self.counts in
    let announces : Announces = c.count_announcement.new.self.counts.announces in
    let noted : IsNoted (fate_in watched d octets l) all counts = noted_counts (fate_in watched d octets l) all c.args.self.now.tally.counts counts so
    c.note.ensures.others (c.note.ensures.quality (fate_in watched d octets l) all refl refl so.quality) in
    let announced = c.announcement.ensures ∙ ap (λ (w : Watched). announcement_in w d.line octets) listens.watched in
    let is = c.count_announcement.ensures.others ∙ ap (λ (k : Counts). record k { announces = announces }) c.count_refused.ensures in
    subst (IsCounts (fate_in watched d octets l ∷ all)) (sym is)
    (refused_counts watched d octets c.in-Err.refusal l all counts announces (ap reading_of c.in-Err.is) noted
    (subst (λ (o : Option Announcement). AreAnnounces (cons_option o (announcements all)) announces) announced
    (c.count_announcement.ensures.announced (announcements all)
    (subst (AreAnnounces (announcements all)) (sym (ap (λ (k : Counts). k.announces) c.count_refused.ensures)) noted.announces))))

pub returns-in_err-report_in-clause-counted : goal.returns-in_err-report_in-clause-counted
returns-in_err-report_in-clause-counted c = λ watched earlier all listens so.
    let d : Recorded = recorded_of c.args.datagram.now in
    let octets : List ℕ = c.args.datagram.now.octets.now in
    let m : Contents = contents c.in-Ok.message in
    let l : Listening = after_all watched earlier in
    let domain = c.domain.ensures watched _ (c.hear-became.ensures.listens watched l listens) in
    let became : Became = c.hear-became.result in
    let counts : Counts = c.note.new.self.counts in
    let others : Others = c.count_heard.new.self.counts.others in
    let is = c.count_heard.ensures.counted
    ∙ ap (λ (n : ℕ). record (with_why (kind_of m.body) (why_by n m.header became) counts) { others = others }) domain in
    let noted : IsNoted (fate_in watched d octets l) all counts = noted_counts (fate_in watched d octets l) all c.args.self.now.tally.counts counts so
    c.note.ensures.others (c.note.ensures.quality (fate_in watched d octets l) all refl refl so.quality) in
    subst (IsCounts (fate_in watched d octets l ∷ all)) (sym is)
    (heard_counts watched d octets m l became all counts others (ap reading_of c.in-Ok.is) (c.hear-became.ensures.became watched l listens) noted
    (subst (λ (n : ℕ). AreOthers (cons_option (meeting_at d.line d.time m.body m.header (why_by n m.header became) (is_anew became)) (filter_map meeting_of all))
    others) domain (c.count_heard.ensures.others (filter_map meeting_of all) noted.others)))

pub returns-clause-counted : goal.returns-clause-counted
returns-clause-counted c = λ watched earlier all listens so.
    let d : Recorded = recorded_of c.args.datagram.now in
    let octets : List ℕ = c.args.datagram.now.octets.now in
    let m : Contents = contents c.in-Ok.message in
    let l : Listening = after_all watched earlier in
    let domain = c.domain.ensures watched _ (c.hear-became.ensures.listens watched l listens) in
    let became : Became = c.hear-became.result in
    let counts : Counts = c.note.new.self.counts in
    let others : Others = c.count_heard.new.self.counts.others in
    let is = c.count_heard.ensures.counted
    ∙ ap (λ (n : ℕ). record (with_why (kind_of m.body) (why_by n m.header became) counts) { others = others }) domain in
    let noted : IsNoted (fate_in watched d octets l) all counts = noted_counts (fate_in watched d octets l) all c.args.self.now.tally.counts counts so
    c.note.ensures.others (c.note.ensures.quality (fate_in watched d octets l) all refl refl so.quality) in
    subst (IsCounts (fate_in watched d octets l ∷ all)) (sym is)
    (heard_counts watched d octets m l became all counts others (ap reading_of c.in-Ok.is) (c.hear-became.ensures.became watched l listens) noted
    (subst (λ (n : ℕ). AreOthers (cons_option (meeting_at d.line d.time m.body m.header (why_by n m.header became) (is_anew became)) (filter_map meeting_of all))
    others) domain (c.count_heard.ensures.others (filter_map meeting_of all) noted.others)))
