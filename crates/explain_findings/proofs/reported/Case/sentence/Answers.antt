use Rattle.std.proofs.Common.{◌∙◌, ◌≡◌, ap, sym}
use Rattle.trace_model.specs.declared.finding.Finding.{Finding}
use Rattle.explain_findings.specs.declared.found.Sentence.{Sentence}
use Rattle.explain_findings.specs.declared.found.Sentence.TheVariants as sentences
use Rattle.explain_findings.specs.declared.misplaced.Misplaced.TheVariants as misplaced
use Rattle.explain_findings.specs.Found.{sentence_at}
use Rattle.explain_findings.specs.Known.{lines_of, silent, named_at}
use Rattle.explain_findings.proofs.reported.Case.sentence.Goals as goal

pub returns-in-OfOtherLine : goal.returns-in-OfOtherLine
returns-in-OfOtherLine c noted =
    (λ i. sentences.Misplaced (misplaced.OtherLine (c.other_line.ensures noted i)))
    ∙ ap (sentence_at (lines_of c.args.self.now.known) c.args.self.now.reported.now c.args.self.now.exchange.now) (sym c.in-OfOtherLine.is)

pub returns-in-WrongTag : goal.returns-in-WrongTag
returns-in-WrongTag c noted =
    (λ i. sentences.Misplaced (misplaced.WrongTag (c.wrong_tag.ensures noted i)))
    ∙ ap (sentence_at (lines_of c.args.self.now.known) c.args.self.now.reported.now c.args.self.now.exchange.now) (sym c.in-WrongTag.is)

pub returns-in-Unstamped : goal.returns-in-Unstamped
returns-in-Unstamped c noted =
    (λ i. sentences.Misplaced (misplaced.Unstamped (c.unstamped.ensures noted i)))
    ∙ ap (sentence_at (lines_of c.args.self.now.known) c.args.self.now.reported.now c.args.self.now.exchange.now) (sym c.in-Unstamped.is)

pub returns-in-Stops : goal.returns-in-Stops
returns-in-Stops c noted =
    (λ i. sentences.Broken (c.stops.ensures noted i))
    ∙ ap (sentence_at (lines_of c.args.self.now.known) c.args.self.now.reported.now c.args.self.now.exchange.now) (sym c.in-Stops.is)

pub returns-in-LeftTwice : goal.returns-in-LeftTwice
returns-in-LeftTwice c noted =
    (λ i. sentences.Broken (c.left_twice.ensures noted i))
    ∙ ap (sentence_at (lines_of c.args.self.now.known) c.args.self.now.reported.now c.args.self.now.exchange.now) (sym c.in-LeftTwice.is)

pub returns-in-OtherSync : goal.returns-in-OtherSync
returns-in-OtherSync c noted =
    (λ i. sentences.Mispaired (c.other_sync.ensures noted i))
    ∙ ap (sentence_at (lines_of c.args.self.now.known) c.args.self.now.reported.now c.args.self.now.exchange.now) (sym c.in-OtherSync.is)

pub returns-in-NoFollowUp : goal.returns-in-NoFollowUp
returns-in-NoFollowUp c noted =
    (λ i. sentences.Mispaired (c.no_follow_up.ensures noted i))
    ∙ ap (sentence_at (lines_of c.args.self.now.known) c.args.self.now.reported.now c.args.self.now.exchange.now) (sym c.in-NoFollowUp.is)

pub returns-in-OtherRequest : goal.returns-in-OtherRequest
returns-in-OtherRequest c noted =
    (λ i. sentences.Mispaired (c.other_request.ensures noted i))
    ∙ ap (sentence_at (lines_of c.args.self.now.known) c.args.self.now.reported.now c.args.self.now.exchange.now) (sym c.in-OtherRequest.is)

pub returns-in-WrongReading : goal.returns-in-WrongReading
returns-in-WrongReading c noted =
    (λ i. sentences.Misread (c.misread.ensures noted i))
    ∙ ap (sentence_at (lines_of c.args.self.now.known) c.args.self.now.reported.now c.args.self.now.exchange.now) (sym c.in-WrongReading.is)

pub returns-in-Falls : goal.returns-in-Falls
returns-in-Falls c noted =
    (λ i. sentences.Fall (c.fall.ensures noted i))
    ∙ ap (sentence_at (lines_of c.args.self.now.known) c.args.self.now.reported.now c.args.self.now.exchange.now) (sym c.in-Falls.is)

pub returns-in-NoMaster : goal.returns-in-NoMaster
returns-in-NoMaster c noted =
    (λ i. sentences.OtherMaster (c.other_master.ensures noted i))
    ∙ ap (sentence_at (lines_of c.args.self.now.known) c.args.self.now.reported.now c.args.self.now.exchange.now) (sym c.in-NoMaster.is)

pub returns-in-ToldOther : goal.returns-in-ToldOther
returns-in-ToldOther c noted =
    (λ i. sentences.OtherMaster (c.other_master-in-ToldOther.ensures noted i))
    ∙ ap (sentence_at (lines_of c.args.self.now.known) c.args.self.now.reported.now c.args.self.now.exchange.now) (sym c.in-ToldOther.is)

pub returns-in-OtherAnswers : goal.returns-in-OtherAnswers
returns-in-OtherAnswers c noted =
    (λ i. sentences.OtherMaster (c.other_master-in-OtherAnswers.ensures noted i))
    ∙ ap (sentence_at (lines_of c.args.self.now.known) c.args.self.now.reported.now c.args.self.now.exchange.now) (sym c.in-OtherAnswers.is)

pub returns-in-OtherDomain : goal.returns-in-OtherDomain
returns-in-OtherDomain c noted =
    (λ i. sentences.OtherMaster (c.other_master-in-OtherDomain.ensures noted i))
    ∙ ap (sentence_at (lines_of c.args.self.now.known) c.args.self.now.reported.now c.args.self.now.exchange.now) (sym c.in-OtherDomain.is)

pub returns-in-Early : goal.returns-in-Early
returns-in-Early c noted =
    (λ i. sentences.OtherMaster (c.other_master-in-Early.ensures noted i))
    ∙ ap (sentence_at (lines_of c.args.self.now.known) c.args.self.now.reported.now c.args.self.now.exchange.now) (sym c.in-Early.is)

pub returns-in-OtherResults : goal.returns-in-OtherResults
returns-in-OtherResults c noted =
    (λ i. sentences.Event (c.named-in-OtherResults.ensures noted i))
    ∙ ap (sentence_at (lines_of c.args.self.now.known) c.args.self.now.reported.now c.args.self.now.exchange.now) (sym c.in-OtherResults.is)

pub returns-in-OtherOctets : goal.returns-in-OtherOctets
returns-in-OtherOctets c noted =
    (λ i. sentences.Event (c.named-in-OtherOctets.ensures noted i))
    ∙ ap (sentence_at (lines_of c.args.self.now.known) c.args.self.now.reported.now c.args.self.now.exchange.now) (sym c.in-OtherOctets.is)

pub returns-in-CantReport : goal.returns-in-CantReport
returns-in-CantReport c noted =
    (λ i. sentences.Misplaced (misplaced.CantReport (c.without_outcome.ensures i)))
    ∙ (λ i. sentences.Misplaced (misplaced.CantReport (silent (c.named.ensures noted i))))
    ∙ ap (sentence_at (lines_of c.args.self.now.known) c.args.self.now.reported.now c.args.self.now.exchange.now) (sym c.in-CantReport.is)
