use Rattle.std.proofs.Common.{◌∙◌, Option, subst}
use Rattle.std.specs.Prelude.{filter_map}
use Rattle.std.specs.List.{cons_option}
use Rattle.std.specs.Option.{option_or}
use Rattle.recording_summary.specs.declared.others.MessageKind.TheVariants.{Sync, FollowUp, DelayReq}
use Rattle.recording_summary.specs.Flows.{sent_of, is_first, is_first_two_step, is_waiting, is_following, is_answer, correction_of, begun_of}
use Rattle.statistics.specs.declared.flow.Sent.{Sent}
use Rattle.statistics.specs.declared.series.Point.{Point}
use Rattle.statistics.specs.Cases.{AreCases}
use Rattle.statistics.specs.Flow.{IsFlow}
use Rattle.statistics.proofs.Counts.{count_more}
use Rattle.recording_summary.proofs.flows.Flows.take.Goals as goal

pub returns : goal.returns
returns c = λ earlier so.
    let m = c.args.meeting.now in
    let s = c.args.self.now in
    record {
      syncs = subst (λ (o : Option Sent). IsFlow (cons_option o (filter_map (sent_of Sync) earlier)) c.take_some.new.self)
          c.sent_of.ensures (c.take_some.ensures (filter_map (sent_of Sync) earlier) so.syncs);
      requests = subst (λ (o : Option Sent). IsFlow (cons_option o (filter_map (sent_of DelayReq) earlier)) c.take_some-2.new.self)
          c.sent_of-2.ensures (c.take_some-2.ensures (filter_map (sent_of DelayReq) earlier) so.requests);
      follow_ups = c.count_if-self.ensures ∙ count_more (is_first FollowUp) m earlier s.follow_ups c.is_first.result c.is_first.ensures so.follow_ups;
      two_step = c.count_if-self-2.ensures ∙ count_more (is_first_two_step) m earlier s.two_step c.is_first_two_step.result c.is_first_two_step.ensures so.two_step;
      waiting = c.count_if-self-3.ensures ∙ count_more (is_waiting) m earlier s.waiting c.is_waiting.result c.is_waiting.ensures so.waiting;
      followed = c.count_if-self-4.ensures ∙ count_more (is_following) m earlier s.followed c.is_following.result c.is_following.ensures so.followed;
      answers = c.count_if-self-5.ensures ∙ count_more (is_answer) m earlier s.answers c.is_answer.result c.is_answer.ensures so.answers;
      corrected = subst (λ (o : Option Point). AreCases (cons_option o (filter_map (correction_of) earlier)) c.take_some-3.new.self)
          c.correction_of.ensures (c.take_some-3.ensures (filter_map (correction_of) earlier) so.corrected);
      master_anew = subst (λ (o : Option Point). AreCases (cons_option o (filter_map (begun_of Sync) earlier)) c.take_some-4.new.self)
          c.begun_of.ensures (c.take_some-4.ensures (filter_map (begun_of Sync) earlier) so.master_anew);
      slave_anew = subst (λ (o : Option Point). AreCases (cons_option o (filter_map (begun_of DelayReq) earlier)) c.take_some-5.new.self)
          c.begun_of-2.ensures (c.take_some-5.ensures (filter_map (begun_of DelayReq) earlier) so.slave_anew);
      sync_log = c.or-self.ensures ∙ (λ i. option_or (c.log_of.ensures i) (so.sync_log i));
      request_log = c.or-self-2.ensures ∙ (λ i. option_or (c.log_of-2.ensures i) (so.request_log i));
    }
