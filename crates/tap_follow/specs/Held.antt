-- What is kept of a course, and the course that this stands for.
use Rattle.std.specs.Prelude.{◌≡◌, ℕ, min, List, [], length, reverse, Option, Some, None}
use Rattle.tap_choice.specs.declared.met.Met.{Met}
use Rattle.tap_choice.specs.declared.sides.Sides.{Sides}
use Rattle.tap_choice.specs.declared.wanted.WantedTaps.{WantedTaps}
use Rattle.tap_choice.specs.Known.{Known}
use Rattle.tap_crossing.specs.declared.sighting.Kind.TheVariants as kinds
use Rattle.tap_crossing.specs.StandsFor.{Tables, StandsFor}
use Rattle.tap_follow.specs.declared.followed.Followed.{Followed}
use Rattle.tap_follow.specs.declared.following.Form.{Form}
use Rattle.tap_follow.specs.Course.{Course, kept_most, first_followed}
use Rattle.tap_follow.specs.Followed.{watched_in}
use Rattle.tap_sums.specs.declared.sums.Sums.{Sums}
use Rattle.tap_sums.specs.Held.{AreSums}
use Rattle.tap_sums.specs.declared.figures.Figures.{Figures}
use Rattle.tap_sums.specs.declared.untold.Untold.{Untold}
use Rattle.tap_sums.specs.Figures.{AreFigures}
use Rattle.tap_sums.specs.Untold.{AreUntold}
use Rattle.tap_follow.specs.Written.{records_most, placed_in, outcomes_in, crossings_in}

-- how crossings are written, whose messages are followed, the slave once it is known, the tables of their records, the
-- sums over the crossings, what people are told of these beside, and of how many records nothing is told
pub record Held : Type 0 where
  pub form : Form
  pub followed : Followed
  pub tables : Tables
  pub sums : Sums
  pub figures : Figures
  pub untold_syncs : Untold
  pub untold_requests : Untold

-- what is held is that of these messages
pub record IsFollowing (form : Form) (f : Followed) (met : List Met) (task : Held) : Type 0 where
  pub form_is : task.form ≡ form
  pub watched : task.followed.watched ≡ watched_in f met
  pub from : task.followed.from ≡ f.from
  pub from_name : task.followed.from_name ≡ f.from_name
  pub to_name : task.followed.to_name ≡ f.to_name
  pub stands : StandsFor records_most task.tables (placed_in f met)
  pub sums : AreSums (crossings_in f met) task.sums
  pub figures : AreFigures (crossings_in f met) task.figures
  pub untold_syncs : AreUntold (outcomes_in kinds.Sync f met) task.untold_syncs
  pub untold_requests : AreUntold (outcomes_in kinds.DelayReq f met) task.untold_requests

-- what is asked for, the taps and what is known of whom; the messages that are kept, the oldest in front, and how many
-- there were; what is held of those that are followed, once it is known which
pub record Holding : Type 0 where
  pub form : Form
  pub wanted : WantedTaps
  pub sides : Sides
  pub known : Known
  pub kept : List Met
  pub count : ℕ
  pub following : Option Held

-- these messages are kept: those that would be followed, and how many there were, up to the most
pub record IsKept (before kept : List Met) (count : ℕ) : Type 0 where
  pub kept_are : reverse kept ≡ first_followed before
  pub count_is : count ≡ min (length before) kept_most

-- these messages were followed
abbrev pub KeepsFor : Form → Followed → List Met → Option Held → Type 0
KeepsFor form f met None = ⊥
KeepsFor form f met (Some following) = IsFollowing form f met following

-- what is kept, once it is known which messages are followed, or before
abbrev pub IsStage : Option Followed → Course → Holding → Type 0
IsStage (Some f) c task = KeepsFor c.form f c.met task.following
IsStage None c task =
    (task.following ≡ None) × (task.known ≡ c.known) × IsKept c.before task.kept task.count × (c.met ≡ [])

-- what is kept is that of this course
pub record IsFollower (task : Holding) (c : Course) : Type 0 where
  pub form : task.form ≡ c.form
  pub wanted : task.wanted ≡ c.wanted
  pub sides : task.sides ≡ c.sides
  pub stage : IsStage c.followed c task
