-- What is told at the end of an input beside its crossings: between which taps and whose messages were followed, and which of
-- them were lost.
use Rattle.std.specs.Prelude.{ℕ, List, Option}
use Rattle.std.specs.Io.KnownBytes.{Appends}
use Rattle.datagram_source.specs.declared.input.InputOutcome.{InputOutcome}
use Rattle.datagram_source.specs.Left.{LeavesInput}
use Rattle.tap_choice.specs.declared.wanted.WantedTaps.{WantedTaps}
use Rattle.tap_follow.specs.declared.following.Form.{Form}
use Rattle.tap_follow.specs.Course.{Course, begun}
use Rattle.tap_follow.specs.Held.{Holding, IsFollower}
use Rattle.tap_follow.specs.declared.ending.Ending.{Ending}
use Rattle.tap_follow.specs.declared.ending.InputUnit.{InputUnit}
use Rattle.tap_follow.specs.declared.told.Told.{Told}
use Rattle.tap_follow.specs.Ending.{IsEnding}
use Rattle.tap_follow.specs.SoFar.{followed_so_far}
use Rattle.tap_follow.specs.Whom.{end_told}
use Rattle.tap_follow.specs.declared.fault.FollowFault.{FollowFault}
use Rattle.tap_follow.specs.declared.summary.Summary.{Summary}
use Rattle.tap_follow.specs.Rules.{follow_rules}

-- what a summary keeps
abbrev pub kept_in : Summary → Holding
kept_in summary = summary.follower

-- what the input has of which it is
abbrev pub unit_told : Summary → InputUnit
unit_told summary = summary.unit

-- a summary is that of this course
abbrev pub IsSummaryOf : Course → Summary → Type 0
IsSummaryOf c summary = IsFollower (kept_in summary) c

-- what was told before
abbrev pub told_before : Summary → Told
told_before summary = summary.told

-- what is told at the end of a course went out
abbrev pub TellsEnd : Course → Summary → (before after : Option (List ℕ)) → Type 0
TellsEnd c summary before after =
    (ending : Option Ending) × IsEnding c ending
    × Appends before after (end_told (told_before summary) (followed_so_far c) c.sides ending)

-- what is told of an input is of the course that its datagrams take, up to the end or a fault; where a datagram or the end was
-- stopped by the writer or for want of memory, nothing is said
abbrev pub TellsInput : Form → WantedTaps → List ℕ → InputOutcome FollowFault → Summary → Type 0
TellsInput form w octets outcome summary = LeavesInput follow_rules (begun form w) octets outcome (λ c. IsSummaryOf c summary)
