-- What programs are told of what speaks against the numbers.
use Rattle.std.specs.Prelude.{ℕ, List, codes}
use Rattle.recording_summary.specs.declared.beware.Beware.{Beware}
use Rattle.recording_summary.specs.declared.beware.Beware.TheVariants.{RequestsAtOnce, SyncsAtOnce, PathsBelow, PathsZero, WholeSeconds}
use Rattle.recording_summary.specs.declared.beware.Beware.TheVariants.{OffsetSteps, OffsetRunsAway, OffsetIsSetBack, PathSteps, SyncsEnd, ReportsEnd}
use Rattle.recording_summary.specs.declared.beware.Beware.TheVariants.{Repeated, OtherMasters, OtherSlaves, OtherDomains, OutOfOrder, OldDelay}
use Rattle.recording_summary.specs.declared.beware.Beware.TheVariants.{MissingSyncs, MissingFollowUps, MissingRequests, MissingResponses}
use Rattle.recording_summary.specs.declared.beware.Beware.TheVariants.{CorrectedRequests, MasterAnew, SlaveAnew, OffsetApart, CutShort, WholeMicroseconds}

-- the name of a beware
unfoldable pub name_text : Beware → List ℕ
name_text (RequestsAtOnce count) = codes "requests_at_once"
name_text (SyncsAtOnce count) = codes "syncs_at_once"
name_text (PathsBelow below of least) = codes "paths_below"
name_text (PathsZero zeros of) = codes "paths_zero"
name_text (WholeSeconds is_negative seconds) = codes "whole_seconds"
name_text (OffsetSteps jump) = codes "offset_steps"
name_text (OffsetRunsAway rate) = codes "offset_runs_away"
name_text (OffsetIsSetBack set_back) = codes "offset_is_set_back"
name_text (PathSteps jump) = codes "path_steps"
name_text (SyncsEnd tenths newcomer) = codes "syncs_end"
name_text (ReportsEnd tenths) = codes "reports_end"
name_text (Repeated count least greatest) = codes "repeated"
name_text OtherMasters = codes "other_masters"
name_text OtherSlaves = codes "other_slaves"
name_text OtherDomains = codes "other_domains"
name_text (OutOfOrder falls) = codes "out_of_order"
name_text (OldDelay offsets oldest) = codes "old_delay"
name_text (MissingSyncs lost) = codes "missing_syncs"
name_text (MissingFollowUps lost) = codes "missing_follow_ups"
name_text (MissingRequests lost) = codes "missing_requests"
name_text (MissingResponses lost) = codes "missing_responses"
name_text (CorrectedRequests cases) = codes "corrected_requests"
name_text (MasterAnew cases) = codes "master_anew"
name_text (SlaveAnew cases) = codes "slave_anew"
name_text (OffsetApart spike) = codes "offset_apart"
name_text (CutShort cut) = codes "cut_short"
name_text WholeMicroseconds = codes "whole_microseconds"
