-- How many messages had other fields changed between the taps than their corrections.
use Rattle.std.specs.Prelude.{◌≡◌, List, [], ◌∷◌, count_by}
use Rattle.statistics.specs.Wide.{at_most}
use Rattle.tap_crossing.specs.Changes.{is_any}
use Rattle.tap_crossing.specs.declared.changes.Changes.{Changes}
use Rattle.tap_crossing.specs.declared.crossing.Crossing.{Crossing}
use Rattle.tap_sums.specs.declared.changed.Changed.{Changed}

-- what changed of each message of crossings: the event message, and the Follow_Up or Delay_Resp
abbrev pub changes_in : List Crossing → List Changes
changes_in [] = []
changes_in (x ∷ earlier) = x.other_changes ∷ x.event_changes ∷ changes_in earlier

-- these are the counts of messages of which this changed
pub record AreChanged (all : List Changes) (c : Changed) : Type 0 where
  pub messages : c.messages ≡ at_most (count_by is_any all)
  pub sdo : c.sdo ≡ at_most (count_by (λ x. x.sdo) all)
  pub minor_version : c.minor_version ≡ at_most (count_by (λ x. x.minor_version) all)
  pub flags : c.flags ≡ at_most (count_by (λ x. x.flags) all)
  pub specific : c.specific ≡ at_most (count_by (λ x. x.specific) all)
  pub control : c.control ≡ at_most (count_by (λ x. x.control) all)
  pub log : c.log ≡ at_most (count_by (λ x. x.log) all)
  pub timestamp : c.timestamp ≡ at_most (count_by (λ x. x.timestamp) all)
