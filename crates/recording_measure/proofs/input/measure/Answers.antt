use Rattle.std.proofs.Common.{ℕ, List, ap, subst}
use Rattle.datagram_source.specs.Input.{AnswersInput}
use Rattle.datagram_source.proofs.LeftAs.{left_as}
use Rattle.recording_measure.specs.Measure.{begun, measure_rules}
use Rattle.recording_measure.specs.declared.input.Summary.{Summary}
use Rattle.recording_measure.specs.Told.{called, IsSummary}
use Rattle.recording_measure.specs.Inner.Task.{IsTask}
use Rattle.recording_measure.proofs.Summaries.{place_chosen}
use Rattle.recording_measure.proofs.input.measure.Goals as goal

pub returns-clause-measured : goal.returns-clause-measured
returns-clause-measured g c =
    let outcome = c.answer_datagrams-outcome in
    subst (λ (head : List ℕ). AnswersInput measure_rules head (begun c.args.form c.args.wanted.now) g.R.Read.remaining g.W.Write.contents
    outcome.result.0 c.args.input.now outcome.new.input c.args.output.now outcome.new.output) c.head.ensures
    (outcome.ensures.answered (begun c.args.form c.args.wanted.now) c.new-task.ensures)

pub returns-clause-summary : goal.returns-clause-summary
returns-clause-summary g c = λ octets known.
    let outcome = c.answer_datagrams-outcome in
    let summary : Summary = record {
      whom = c.whom.result;
      counts = c.counts.result;
      is_own = c.is_own.result;
      aside = c.aside.result;
      task = outcome.result.1;
      packets = outcome.result.2;
    } in
    left_as measure_rules (begun c.args.form c.args.wanted.now) octets (IsTask outcome.result.1) (IsSummary summary)
    (λ r at. record {
      whom = c.whom.ensures r at.measuring;
      interface = ap called
          (place_chosen r.wanted r.rows outcome.result.1.measuring.recordings.recordings.items
          outcome.result.1.measuring.stage at.measuring.stage);
      counts = c.counts.ensures r at.measuring;
      recents = at.measuring.recents;
      own = c.is_own.ensures r at;
      aside = c.aside.ensures r at;
    }) outcome.result.0 (outcome.ensures.left (begun c.args.form c.args.wanted.now) c.new-task.ensures octets known)
