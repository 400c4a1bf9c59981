-- When a Sync tells that the master began anew.
use Rattle.std.specs.Prelude.{ℕ, Bool, ◌&&◌}
use Rattle.event_codec.specs.Packet.{Contents}
use Rattle.sync_watch.specs.Judged.{judged_sync}
use Rattle.recording_model.specs.declared.watched.Watched.{Watched}
use Rattle.recording_model.specs.Listening.{Listening, table_capacity, is_of, arrival_of}
use Rattle.recording_model.specs.Begins.{is_beginning}

-- a Sync tells that the master began anew, by what its number says
abbrev pub sync_begins : Watched → (time : ℕ) → Contents → Listening → Bool
sync_begins w time m l =
    is_of w w.master m.header && is_beginning (judged_sync (arrival_of m.header time) table_capacity l.heard)
