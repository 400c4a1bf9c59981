use Rattle.std.proofs.Common.{ℕ, List, sym, subst}
use Rattle.datagram_source.specs.Input.{AnswersInput}
use Rattle.datagram_source.specs.Left.{LeavesInput}
use Rattle.tap_follow.specs.Course.{begun}
use Rattle.tap_follow.specs.Held.{Holding, IsFollower}
use Rattle.tap_follow.specs.Rules.{follow_rules}
use Rattle.tap_follow.proofs.input.follow.Goals as goal

pub returns-clause-followed : goal.returns-clause-followed
returns-clause-followed g c =
    let outcome = c.answer_datagrams-outcome in
    subst (λ (head : List ℕ). AnswersInput follow_rules head (begun c.args.form c.args.wanted.now) g.R.Read.remaining g.W.Write.contents
    outcome.result.0 c.args.input.now outcome.new.input c.args.output.now outcome.new.output) c.head.ensures
    (outcome.ensures.answered (begun c.args.form c.args.wanted.now) c.new-task.ensures)

pub returns-clause-summary : goal.returns-clause-summary
returns-clause-summary g c = λ octets known.
    let outcome = c.answer_datagrams-outcome in
    subst (λ (kept : Holding). LeavesInput follow_rules (begun c.args.form c.args.wanted.now) octets outcome.result.0 (IsFollower kept))
    (sym c.new.ensures.follower) (outcome.ensures.left (begun c.args.form c.args.wanted.now) c.new-task.ensures octets known)
