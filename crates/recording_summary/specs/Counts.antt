-- Where counts of datagrams that gave no report stand, and what one more makes of them.
use Rattle.std.specs.Prelude.{◌≡◌, ℕ, ◌+◌, ◌-◌, ◌*◌, ◌^◌, min, [], replicate, slice_index, slice_set}
use Rattle.recording_summary.specs.Announces.{AreAnnounces}
use Rattle.recording_summary.specs.Others.{AreOthers}
use Rattle.recording_summary.specs.Quality.{IsQuality}
use Rattle.recording_summary.specs.declared.counts.Counts.{Counts}
use Rattle.recording_summary.specs.declared.kind.Kind.{Kind}
use Rattle.recording_summary.specs.declared.kind.Kind.TheVariants as kinds
use Rattle.recording_summary.specs.declared.no_report.NoReport.{NoReport}
use Rattle.recording_summary.specs.declared.no_report.NoReport.TheVariants as whys

-- the places of kinds and of reasons, in the order in which they are told
abbrev pub kind_number : Kind → ℕ
kind_number kinds.Sync = 0
kind_number kinds.FollowUp = 1
kind_number kinds.DelayReq = 2
kind_number kinds.DelayResp = 3
kind_number kinds.Pdelay = 4
kind_number kinds.Announce = 5
kind_number kinds.Signaling = 6
kind_number kinds.Management = 7
kind_number kinds.Reserved = 8
kind_number kinds.Malformed = 9

abbrev pub why_number : NoReport → ℕ
why_number whys.Held = 0
why_number whys.Alone = 1
why_number whys.OfSlave = 2
why_number whys.Again = 3
why_number whys.Before = 4
why_number whys.OtherDomain = 5
why_number whys.OtherMaster = 6
why_number whys.OtherSlave = 7
why_number whys.TooBig = 8
why_number whys.NotNewer = 9
why_number whys.Unrecorded = 10
why_number whys.PeerDelay = 11
why_number whys.TooEarly = 12
why_number whys.NoPart = 13

-- where the count of a kind and a reason stands: kind by kind, of each those of its fourteen reasons
abbrev pub place_of : Kind → NoReport → ℕ
place_of kind why = kind_number kind * 14 + why_number why

-- the count of a kind and a reason
abbrev pub count_at : Counts → Kind → NoReport → ℕ
count_at counts kind why = slice_index counts.unreported (place_of kind why)

-- no datagram came
pub record AreNone (counts : Counts) : Type 0 where
  pub reports : counts.reports ≡ 0
  pub unreported : counts.unreported ≡ replicate 140 0
  pub quality : IsQuality [] counts.quality
  pub others : AreOthers [] counts.others
  pub announces : AreAnnounces [] counts.announces

-- one more, as far as is counted
abbrev pub with_one : ℕ → ℕ
with_one count = min (count + 1) (2 ^ 64 - 1)

-- one more of a kind that gave no report for a reason
abbrev pub with_unreported : Kind → NoReport → Counts → Counts
with_unreported kind why counts = record counts {
  unreported = slice_set counts.unreported (place_of kind why)
      (with_one (slice_index counts.unreported (place_of kind why)));
}
