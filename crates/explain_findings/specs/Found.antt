-- What is found wrong with a report, in a sentence.
use Rattle.std.specs.Prelude.{◌≡◌, ℕ, List, [], ◌++◌, reverse, codes, Option, Some, None, ⊤}
use Rattle.trace_model.specs.declared.finding.Finding.{Finding}
use Rattle.trace_model.specs.declared.finding.Finding.TheVariants as findings
use Rattle.trace_model.specs.declared.verdict.Why.{Why}
use Rattle.exchange_check.specs.declared.exchange.Exchange.{Exchange}
use Rattle.exchange_check.specs.Evidence.{last_finding}
use Rattle.exchange_check.specs.Transcript.{Transcript}
use Rattle.explain_findings.specs.declared.found.Behind.{Behind}
use Rattle.explain_findings.specs.declared.found.Behind.TheVariants as behinds
use Rattle.explain_findings.specs.declared.found.Sentence.{Sentence}
use Rattle.explain_findings.specs.declared.found.Sentence.TheVariants as sentences
use Rattle.explain_findings.specs.declared.misplaced.Misplaced.TheVariants as misplaced
use Rattle.explain_findings.specs.declared.misread.Fall.{Fall}
use Rattle.explain_findings.specs.declared.misread.TooLong.{TooLong}
use Rattle.explain_findings.specs.declared.reported.Reported.{Reported}
use Rattle.explain_findings.specs.Broken.{broken_text, left_twice_at, stops_at}
use Rattle.explain_findings.specs.Known.{named_at, named_text, silent}
use Rattle.explain_findings.specs.Mispaired.{mispaired_text, no_follow_up_at, other_request_at, other_sync_at}
use Rattle.explain_findings.specs.Misplaced.{misplaced_text, other_line_at, tag_at, unstamped_at}
use Rattle.explain_findings.specs.Misread.{fall_at, fall_text, misread_at, misread_text, too_long_at, too_long_text}
use Rattle.explain_findings.specs.OtherMaster.{other_master_at, other_master_text}

-- what is told of a finding against a report of a transcript, whose exchange this is
abbrev pub sentence_at : Transcript → Reported → Option Exchange → Finding → Sentence
sentence_at transcript reported exchange findings.CantReport =
    sentences.Misplaced (misplaced.CantReport (silent (named_at transcript reported.event)))
sentence_at transcript reported exchange findings.OfOtherLine =
    sentences.Misplaced (misplaced.OtherLine (other_line_at transcript reported))
sentence_at transcript reported exchange (findings.WrongTag part lack) =
    sentences.Misplaced (misplaced.WrongTag (tag_at transcript reported part lack))
sentence_at transcript reported exchange (findings.Unstamped first) =
    sentences.Misplaced (misplaced.Unstamped (unstamped_at transcript reported.report first))
sentence_at transcript reported exchange (findings.Stops part by lack) =
    sentences.Broken (stops_at transcript part by lack)
sentence_at transcript reported exchange (findings.LeftTwice part entered first second) =
    sentences.Broken (left_twice_at transcript part entered first second)
sentence_at transcript reported exchange (findings.OtherSync follow_up follows sync) =
    sentences.Mispaired (other_sync_at transcript sync follow_up follows)
sentence_at transcript reported exchange (findings.NoFollowUp sync) =
    sentences.Mispaired (no_follow_up_at transcript sync)
sentence_at transcript reported exchange (findings.OtherRequest request) =
    sentences.Mispaired (other_request_at transcript request reported.report.request_tag)
sentence_at transcript reported exchange findings.NoMaster =
    sentences.OtherMaster (other_master_at transcript reported exchange None)
sentence_at transcript reported exchange (findings.ToldOther set) =
    sentences.OtherMaster (other_master_at transcript reported exchange None)
sentence_at transcript reported exchange (findings.Early part set) =
    sentences.OtherMaster (other_master_at transcript reported exchange (Some (part, set)))
sentence_at transcript reported exchange (findings.OtherAnswers arrival) =
    sentences.OtherMaster (other_master_at transcript reported exchange None)
sentence_at transcript reported exchange findings.OtherDomain =
    sentences.OtherMaster (other_master_at transcript reported exchange None)
sentence_at transcript reported exchange (findings.WrongReading event set) =
    sentences.Misread (misread_at transcript event set)
sentence_at transcript reported exchange (findings.Falls entered left) =
    sentences.Fall (fall_at transcript entered left)
sentence_at transcript reported exchange (findings.TooLong part) = sentences.TooLong (too_long_at exchange part)
sentence_at transcript reported exchange findings.OtherResults =
    sentences.Event (named_at transcript reported.event)
sentence_at transcript reported exchange (findings.OtherOctets event) = sentences.Event (named_at transcript event)

-- its text
abbrev pub some_fall_text : Option Fall → List ℕ
some_fall_text None = []
some_fall_text (Some fall) = fall_text fall

abbrev pub some_too_long_text : Option TooLong → List ℕ
some_too_long_text None = []
some_too_long_text (Some long) = too_long_text long

abbrev pub sentence_text : Sentence → List ℕ
sentence_text (sentences.Misplaced told) = misplaced_text told
sentence_text (sentences.Broken told) = broken_text told
sentence_text (sentences.Mispaired told) = mispaired_text told
sentence_text (sentences.OtherMaster told) = other_master_text told
sentence_text (sentences.Misread told) = misread_text told
sentence_text (sentences.Fall told) = some_fall_text told
sentence_text (sentences.TooLong told) = some_too_long_text told
sentence_text (sentences.Event named) = named_text named

-- the same as a line
abbrev pub line_text : Sentence → List ℕ
line_text sentence = codes "    " ++ (sentence_text sentence ++ codes "\n")

-- what stands behind the sentence of a finding, or in its place
abbrev pub behind_of : Finding → Behind
behind_of (findings.WrongReading event set) = behinds.Readings
behind_of (findings.Falls entered left) = behinds.Readings
behind_of (findings.OtherOctets event) = behinds.Octets
behind_of findings.OtherResults = behinds.NoSentence
behind_of _ = behinds.Nothing

-- what is told of a finding, by its sentence and what stands behind it: of readings what else is wrong in the exchange, where
-- there is one; of octets how messages of the exchange differ; of other results nothing
abbrev pub TellsBehind : Sentence → Behind → List ℕ → Type 0
TellsBehind sentence behinds.NoSentence text = text ≡ []
TellsBehind sentence behinds.Nothing text = text ≡ line_text sentence
TellsBehind sentence behinds.Readings text = (others : List ℕ) × (text ≡ line_text sentence ++ others)
TellsBehind sentence behinds.Octets text = ⊤

abbrev pub TellsFinding : Transcript → Reported → Option Exchange → Finding → List ℕ → Type 0
TellsFinding transcript reported exchange finding text =
    TellsBehind (sentence_at transcript reported exchange finding) (behind_of finding) text

-- the same of what there may be
abbrev pub TellsFound : Transcript → Reported → Option Exchange → Option Finding → List ℕ → Type 0
TellsFound transcript reported exchange None text = text ≡ []
TellsFound transcript reported exchange (Some finding) text = TellsFinding transcript reported exchange finding text

-- what is told of a reason against the report of the last line: the first thing that breaks its condition
abbrev pub TellsMet : Transcript → Reported → Option Exchange → Why → List ℕ → Type 0
TellsMet transcript reported exchange why text =
    TellsFound transcript reported exchange
    (last_finding transcript.network (reverse transcript.lines) reported.report why) text
