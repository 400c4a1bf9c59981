-- The law: what a listening port doesn't hear brings no report, and it hears no copy. `laws::no_copy_is_reported` promises it.
use Rattle.std.specs.Prelude.{◌≡◌, Bool, true, false, ◌||◌, List, ◌∷◌, ◌++◌, None, Ok}
use Rattle.std.specs.List.{All}
use Rattle.event_codec.specs.Packet.{Contents}
use Rattle.sync_watch.specs.Life.{is_apart}
use Rattle.recording_model.specs.declared.watched.Watched.{Watched}
use Rattle.recording_model.specs.Recorded.{Recorded}
use Rattle.recording_model.specs.Listening.{report_at}
use Rattle.recording_model.specs.Finds.{is_master_sync, is_master_follow_up, is_own_response, is_own_request, says}
use Rattle.recording_model.specs.Pairs.{is_heard}

-- a message by whose number copies are known: a Sync or a Follow_Up of the master, or its Delay_Resp to the slave
abbrev pub is_own_message : Watched → Contents → Bool
is_own_message w m = is_master_sync w m || (is_master_follow_up w m || is_own_response w m)

-- none of these is such a message, or a Delay_Req of the slave
abbrev pub AreOthers : Watched → List Recorded → Type 0
AreOthers w ds = All (λ d. says (λ m. is_own_message w m || is_own_request w m) d ≡ false) ds

-- Whatever is recorded: what isn't heard brings no report. The copy of a message that was heard isn't heard, where it comes
-- less than a second from it and only others come between.
pub record NoCopyIsReported : Type 0 where
  pub unheard : (w : Watched) (earlier : List Recorded) (d : Recorded) → is_heard w earlier d ≡ false
      → report_at w earlier d ≡ None
  pub copies : (w : Watched) (earlier between : List Recorded) (d copy : Recorded) (m : Contents) → d.said ≡ Ok m
      → copy.said ≡ Ok m → is_own_message w m ≡ true → is_heard w earlier d ≡ true → AreOthers w between
      → is_apart copy.time d.time ≡ false → is_heard w (between ++ d ∷ earlier) copy ≡ false
