-- Worked cases: who else is there by a few messages, and what a few Announces tell.
use Rattle.std.proofs.Common.{◌≡◌, ℕ, ◌*◌, pos, true, false, List, [], ◌∷◌, replicate, Some, None, refl}
use Rattle.event_codec.specs.declared.message.Header.{Header}
use Rattle.event_codec.specs.declared.port.PortIdentity.{PortIdentity}
use Rattle.recording_summary.specs.declared.announces.Announced.{Announced}
use Rattle.recording_summary.specs.declared.announces.Announcement.{Announcement}
use Rattle.recording_summary.specs.declared.others.Meeting.{Meeting}
use Rattle.recording_summary.specs.declared.others.MessageKind.TheVariants.{Sync, FollowUp}
use Rattle.recording_summary.specs.declared.others.Met.{Met}
use Rattle.recording_summary.specs.declared.others.Met.TheVariants.{First, Repeat, Master}
use Rattle.recording_summary.specs.Announces.{told_by, changes_in}
use Rattle.recording_summary.specs.Others.{other_master, senders, newcomer, least_lag}

-- another master, of this portNumber
abbrev other : ℕ → PortIdentity
other port = record { clock = 2 ∷ 0 ∷ 0 ∷ 255 ∷ 254 ∷ 17 ∷ 34 ∷ 153 ∷ []; port = port }

-- a header of which nothing is asked here
abbrev any_header : Header
any_header = record {
  major_sdo = 0;
  minor_version = 1;
  domain = 0;
  minor_sdo = 0;
  flags = 0 ∷ 0 ∷ [];
  correction = record { 0 = pos 0 };
  specific = 0 ∷ 0 ∷ 0 ∷ 0 ∷ [];
  source = other 1;
  sequence = record { 0 = 0 };
  control = 0;
  log = pos 0;
}

abbrev at : (line : ℕ) → Met → Meeting
at line met = record { line = line; time = line * 100; met = met; header = any_header; why = None; begins = false }

-- two messages of the first, and one of the second
two_masters : senders other_master (at 3 (Master FollowUp (other 1)) ∷ at 2 (Master Sync (other 2)) ∷ at 1 (Master Sync (other 1)) ∷ [])
    ≡ record {
      listed = Some (record { port = other 1; count = 2 }) ∷ Some (record { port = other 2; count = 1 }) ∷ replicate 6 None;
      rest = 0;
    }
two_masters = refl

-- the second one's Sync came before the master's last
taken_over : newcomer (at 9 (Master Sync (other 1)) ∷ at 8 (First Sync (record { 0 = 5 })) ∷ at 7 (Master Sync (other 2)) ∷ [])
    ≡ Some (record { port = other 1; line = 9; time = 900 })
taken_over = refl

-- a Sync that comes again 200 later, with its Follow_Up between
repeated : least_lag (at 6 (Repeat Sync (record { 0 = 5 })) ∷ at 5 (First FollowUp (record { 0 = 5 })) ∷ at 4 (First Sync (record { 0 = 5 })) ∷ [])
    ≡ Some 200
repeated = refl

-- what is told with this clockClass
abbrev of_class : ℕ → Announced
of_class clock_class = record {
  grandmaster = 0 ∷ 17 ∷ 34 ∷ 255 ∷ 254 ∷ 51 ∷ 68 ∷ 85 ∷ [];
  clock_class = clock_class;
  steps_removed = 0;
  utc_offset = pos 37;
  is_utc_offset_valid = true;
  is_ptp_timescale = true;
}

abbrev announced_at : (line clock_class : ℕ) → Announcement
announced_at line clock_class = record { line = line; announced = of_class clock_class }

-- the second of five tells another clockClass, and so does the fourth
abbrev five : List Announcement
five = announced_at 9 248 ∷ announced_at 7 248 ∷ announced_at 5 7 ∷ announced_at 4 7 ∷ announced_at 2 6 ∷ []

told_since : told_by five ≡ Some (announced_at 7 248)
told_since = refl

two_changes : changes_in five
    ≡ record { line = 7; before = of_class 7; after = of_class 248 } ∷ record { line = 4; before = of_class 6; after = of_class 7 } ∷ []
two_changes = refl
