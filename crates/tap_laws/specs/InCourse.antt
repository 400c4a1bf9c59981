-- What a course of messages knows of its taps is what the messages tell that were met until it was known which are followed.
-- `laws::a_course_follows_from_the_chosen_tap` promises it.
use Rattle.std.specs.Prelude.{◌≡◌, ℕ, List, Some}
use Rattle.tap_choice.specs.declared.met.Met.{Met}
use Rattle.tap_choice.specs.declared.wanted.WantedTaps.{WantedTaps}
use Rattle.tap_follow.specs.declared.followed.Followed.{Followed}
use Rattle.tap_follow.specs.declared.following.Form.{Form}
use Rattle.tap_follow.specs.Course.{Course, begun, with_tap, after, ended, syncs_most}
use Rattle.tap_laws.specs.Choice.{known_after}

-- it does, and those that are followed go from the tap that these tell
pub record IsByChoice (c : Course) : Type 0 where
  pub known : c.known ≡ known_after syncs_most c.wanted c.before
  pub from : (f : Followed) → c.followed ≡ Some f → c.known.from ≡ Some f.from

-- so it begins, and so it stays
pub record EachCourseIsByChoice : Type 0 where
  pub begins : (form : Form) (w : WantedTaps) → IsByChoice (begun form w)
  pub with_tap_too : (name : List ℕ) (c : Course) → IsByChoice c → IsByChoice (with_tap name c)
  pub after_too : (m : Met) (c : Course) → IsByChoice c → IsByChoice (after m c)
  pub ended_too : (c : Course) → IsByChoice c → IsByChoice (ended c)
