-- The law: no report joins a Sync of one life of the master and an exchange of another, where their Syncs are told apart.
-- `laws::no_report_joins_two_lives` promises it.
use Rattle.std.specs.Prelude.{◌≡◌, ℕ, ◌≤◌, true, false, ◌||◌, List, ◌∷◌, ◌++◌, Some, Ok}
use Rattle.std.specs.Option.{option_map_or}
use Rattle.std.specs.List.{All}
use Rattle.event_codec.specs.Packet.{Contents}
use Rattle.pairing.specs.Marked.{Entry}
use Rattle.sync_watch.specs.Told.{syncs}
use Rattle.sync_watch.specs.Life.{is_apart, is_ahead, is_far, newest}
use Rattle.slave_port.specs.declared.heard.Report.{Report}
use Rattle.recording_model.specs.declared.watched.Watched.{Watched}
use Rattle.recording_model.specs.Recorded.{Recorded}
use Rattle.recording_model.specs.Listening.{is_unicast, report_at}
use Rattle.recording_model.specs.Told.{AreNumbered}
use Rattle.recording_model.specs.Lives.{lines_of}
use Rattle.recording_model.specs.Begins.{told_of_master, tells_beginning}
use Rattle.recording_model.specs.Finds.{is_master_sync}

-- the Syncs with the flag of this message that these tell of the master since it began
abbrev pub syncs_like : Watched → Contents → List Recorded → List (Entry ℕ)
syncs_like w m ds = syncs (is_unicast m.header) (told_of_master w ds)

-- A Sync of the master is told apart from the life before it: there is a newest Sync with its flag, and its number isn't 1
-- to 256 ahead of that; and each Sync with its flag of that life is a second or more from it, or its number is neither up
-- to 255 behind nor up to 256 ahead of that one's.
pub record IsToldApart (w : Watched) (before : List Recorded) (d : Recorded) (m : Contents) : Type 0 where
  pub said : d.said ≡ Ok m
  pub sync_is : is_master_sync w m ≡ true
  pub not_ahead : option_map_or (λ n. is_ahead m.header.sequence.0 n.number) (newest (syncs_like w m before)) true ≡ false
  pub apart : All (λ e. (is_far m.header.sequence.0 e.number || is_apart d.time e.value) ≡ true) (syncs_like w m before)

-- Whatever is recorded, in lines with growing numbers: a Sync that is told apart tells a beginning; and each line that a
-- report names, at a datagram that tells one and behind it, is that of this datagram or one behind it.
pub record NoReportJoinsTwoLives : Type 0 where
  pub told : (w : Watched) (before : List Recorded) (d : Recorded) (m : Contents) → IsToldApart w before d m
      → tells_beginning w before d ≡ true
  pub at_once : (w : Watched) (before : List Recorded) (d : Recorded) (report : Report) → AreNumbered (d ∷ before)
      → tells_beginning w before d ≡ true → report_at w before d ≡ Some report
      → All (λ line. d.line ≤ line) (lines_of report)
  pub from_then_on : (w : Watched) (later before : List Recorded) (d x : Recorded) (report : Report)
      → AreNumbered (x ∷ (later ++ d ∷ before)) → tells_beginning w before d ≡ true
      → report_at w (later ++ d ∷ before) x ≡ Some report
      → All (λ line. d.line ≤ line) (lines_of report)
