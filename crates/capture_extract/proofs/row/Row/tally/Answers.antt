use Rattle.std.proofs.Common.{◌≡◌, ◌∙◌, ◌<◌, ap, not, arith, subst, length, Bool, Option}
use Rattle.std.specs.Int.{from_bool}
use Rattle.std.specs.List.{cons_option}
use Rattle.statistics.specs.declared.flow.Sent.{Sent}
use Rattle.statistics.specs.Flow.{IsFlow}
use Rattle.capture_extract.specs.Row.{has_minor, is_two_step, sent_by, sents}
use Rattle.capture_extract.proofs.Counts.{met_more, more}
use Rattle.capture_extract.proofs.row.Row.tally.Goals as goal

pub returns-clause-counts : goal.returns-clause-counts
returns-clause-counts c = λ ms h.
    let m = c.args.listed.now in
    let minor_is : c.from-3.result ≡ m.header.minor_version = c.from-3.ensures ∙ c.value.ensures.value in
    let within : m.header.minor_version < length c.args.self.now.versions.met = omega (arith, c.value.ensures) in record {
      count = omega (arith, h.count, c.saturating_add-self.ensures);
      one_step = more (λ n. not (is_two_step n)) m ms c.args.self.now.one_step c.from.result c.saturating_add-self-2.result h.one_step
          (c.from.ensures ∙ ap (λ (b : Bool). from_bool (not b)) c.is_two_step-is_two_step.ensures) c.saturating_add-self-2.ensures;
      two_step = more is_two_step m ms c.args.self.now.two_step c.from-2.result c.saturating_add-self-3.result h.two_step
          (c.from-2.ensures ∙ ap from_bool c.is_two_step-is_two_step.ensures) c.saturating_add-self-3.ensures;
      versions = λ minor below. rw minor_is (met_more c.args.self.now.versions.met m.header.minor_version minor (has_minor minor ms) within (h.versions minor below));
      flow = subst (λ (s : Option Sent). IsFlow (cons_option s (sents ms)) c.take_some.new.self)
          (c.sent_by-sent.ensures ∙ ap (sent_by m) h.flow.newest)
          (c.take_some.ensures (sents ms) h.flow);
    }
