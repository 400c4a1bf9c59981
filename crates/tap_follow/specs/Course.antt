-- The course of what is met at taps: the taps, and the messages, newest first; which are followed, once that is known.
use Rattle.std.specs.Prelude.{ℕ, nat_le, Bool, true, false, ◌||◌, List, [], ◌∷◌, length, Option, Some, None}
use Rattle.std.specs.Prelude.{is_some, option_and_then, if◌then◌else◌}
use Rattle.std.specs.Option.{option_map_or}
use Rattle.event_codec.specs.declared.port.PortIdentity.{PortIdentity}
use Rattle.tap_choice.specs.declared.choice.Pair.{Pair}
use Rattle.tap_choice.specs.declared.met.Met.{Met}
use Rattle.tap_choice.specs.declared.met.Side.{Side}
use Rattle.tap_choice.specs.declared.met.Side.TheVariants as taps
use Rattle.tap_choice.specs.declared.sides.Sides.{Sides}
use Rattle.tap_choice.specs.declared.wanted.WantedTaps.{WantedTaps}
use Rattle.tap_choice.specs.Known.{Known, asked, noticed, pair_of, other_side}
use Rattle.tap_choice.specs.Sides.{side_of, sides_after, sides_wanted, both_named}
use Rattle.tap_follow.specs.declared.followed.Followed.{Followed}
use Rattle.tap_follow.specs.declared.following.Form.{Form}
use Rattle.tap_follow.specs.declared.follower.Arrival.{Arrival}
use Rattle.tap_follow.specs.declared.follower.Arrival.TheVariants as arrivals
use Rattle.tap_follow.specs.Followed.{slave_in}
use Rattle.tap_follow.specs.Written.{text_at, written}

-- what is asked for; the taps; what is known of whom; the messages that were met before it was known which are followed;
-- which these are, once that is known, and those that were followed
pub record Course : Type 0 where
  pub form : Form
  pub wanted : WantedTaps
  pub sides : Sides
  pub known : Known
  pub before : List Met
  pub followed : Option Followed
  pub met : List Met

-- before anything was met
abbrev pub begun : Form → WantedTaps → Course
begun form w = record {
  form = form;
  wanted = w;
  sides = sides_wanted w;
  known = asked w;
  before = [];
  followed = None;
  met = [];
}

-- what a tap is
abbrev pub arrival_as : Option Side → (both : Bool) → Arrival
arrival_as (Some side) both = arrivals.At side
arrival_as None true = arrivals.Elsewhere
arrival_as None false = arrivals.Third

abbrev pub arrival_of : Course → List ℕ → Arrival
arrival_of c name = arrival_as (side_of c.sides name) (both_named c.wanted)

-- once something was met at a tap of this name
abbrev pub with_tap : List ℕ → Course → Course
with_tap name c = record c { sides = sides_after c.sides name }

-- how many Syncs of a tap are looked at, and the most messages that are kept
abbrev pub syncs_most : ℕ
syncs_most = 256

abbrev pub kept_most : ℕ
kept_most = 1024

-- those that are followed if it becomes known by the newest of these which are: all, where they are few enough, or the
-- newest alone
abbrev pub first_followed : List Met → List Met
first_followed [] = []
first_followed (m ∷ earlier) = if nat_le (length (m ∷ earlier)) kept_most then m ∷ earlier else m ∷ []

-- the name of a tap
abbrev pub name_at : Sides → Side → Option (List ℕ)
name_at s taps.First = s.first
name_at s taps.Second = s.second

-- which messages are followed, with this slave, unless that isn't known and has to be
abbrev pub followed_with : (is_enough : Bool) → Option PortIdentity → Pair → (from_name to_name : List ℕ) → Option Followed
followed_with is_enough slave pair from_name to_name =
    if is_some slave || is_enough then Some (record {
      watched = record { domain = pair.domain; master = pair.master; slave = slave };
      from = pair.from;
      from_name = from_name;
      to_name = to_name;
    })
    else None

-- which messages are followed, where domain, master, both taps and their order are known, and the slave too, which those tell
-- that would be followed; unless it is enough to know the others
abbrev pub followed_by : (is_enough : Bool) → WantedTaps → Sides → Known → List Met → Option Followed
followed_by is_enough w s k met =
    option_and_then (λ pair. option_and_then (λ from_name. option_and_then
    (λ to_name. followed_with is_enough (slave_in w.slave pair.domain pair.from met) pair from_name to_name)
    (name_at s (other_side pair.from))) (name_at s pair.from)) (pair_of k)

-- once these messages were met, and it wasn't known before: it is enough behind so many
abbrev pub chosen : WantedTaps → Sides → Known → List Met → Option Followed
chosen w s k before = followed_by (nat_le kept_most (length before)) w s k (first_followed before)

-- where it is known now, these are followed
abbrev pub begins : Option Followed → List Met → List Met
begins None before = []
begins (Some f) before = first_followed before

-- one more message
abbrev pub after_unknown : Met → Course → Course
after_unknown m c = record c {
  known = noticed syncs_most m c.known;
  before = m ∷ c.before;
  followed = chosen c.wanted c.sides (noticed syncs_most m c.known) (m ∷ c.before);
  met = begins (chosen c.wanted c.sides (noticed syncs_most m c.known) (m ∷ c.before)) (m ∷ c.before);
}

abbrev pub after_as : Option Followed → Met → Course → Course
after_as (Some f) m c = record c { met = m ∷ c.met }
after_as None m c = after_unknown m c

-- the course after one more message
abbrev pub after : Met → Course → Course
after m c = after_as c.followed m c

-- what is written so far
abbrev pub text_of : Course → List ℕ
text_of c = option_map_or (λ f. written c.form f c.met) c.followed []

-- what is written once one more message was met: what it completes, or all that the first that are followed do
abbrev pub new_text_as : Option Followed → Met → Course → List ℕ
new_text_as (Some f) m c = text_at c.form f m c.met
new_text_as None m c = text_of (after_unknown m c)

-- what is written once that was met
abbrev pub new_text : Met → Course → List ℕ
new_text m c = new_text_as c.followed m c

-- the end, where it wasn't known which messages are followed: it is enough to know all but the slave
abbrev pub chosen_at_end : Course → Option Followed
chosen_at_end c = followed_by true c.wanted c.sides c.known (first_followed c.before)

abbrev pub ended_as : Option Followed → Course → Course
ended_as (Some f) c = c
ended_as None c = record c { followed = chosen_at_end c; met = begins (chosen_at_end c) c.before }

-- the course after the end
abbrev pub ended : Course → Course
ended c = ended_as c.followed c

-- what is written at the end
abbrev pub end_text_as : Option Followed → Course → List ℕ
end_text_as (Some f) c = []
end_text_as None c = text_of (ended c)

-- what is written at the end
abbrev pub end_text : Course → List ℕ
end_text c = end_text_as c.followed c
