-- What Announces tell, with one more.
use Rattle.std.proofs.Common.{◌≡◌, ◌∷◌, Bool, true, false, List, Option, Some, None, refl, ap}
use Rattle.std.specs.Prelude.{if◌then◌else◌}
use Rattle.std.specs.List.{cons_option}
use Rattle.recording_summary.specs.declared.announces.Announcement.{Announcement}
use Rattle.recording_summary.specs.declared.announces.Change.{Change}
use Rattle.recording_summary.specs.Announces.{is_same, told_with, told_by, change_by, changes_in}

anew_if : (same : Bool) (b a : Announcement) (change is : Change) → (if same then None else Some change) ≡ Some is
    → (if same then b else a) ≡ a
anew_if true b a change is so = cc
anew_if false b a change is so = refl

-- after a change its Announce is what is told
pub told_anew : (before : Option Announcement) (a : Announcement) (change : Change) → change_by before a ≡ Some change
    → told_with before a ≡ a
told_anew None a change is = refl
told_anew (Some b) a change is = anew_if (is_same b.announced a.announced) b a _ change is

-- it is the newest change
pub changed : (a : Announcement) (all : List Announcement) (change : Change) → change_by (told_by all) a ≡ Some change
    → changes_in (a ∷ all) ≡ change ∷ changes_in all
changed a all change is = ap (λ (o : Option Change). cons_option o (changes_in all)) is
