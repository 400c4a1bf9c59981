-- A course follows from the tap that was chosen.
use Rattle.std.proofs.Common.{◌≡◌, ◌∙◌, ℕ, Bool, true, false, List, ◌∷◌, Option, Some, None, refl, ap, if◌then◌else◌}
use Rattle.std.specs.Prelude.{is_some, option_and_then, ◌||◌, nat_le, length}
use Rattle.event_codec.specs.declared.port.PortIdentity.{PortIdentity}
use Rattle.tap_choice.specs.declared.choice.Pair.{Pair}
use Rattle.tap_choice.specs.declared.met.Met.{Met}
use Rattle.tap_choice.specs.declared.met.Side.{Side}
use Rattle.tap_choice.specs.declared.sides.Sides.{Sides}
use Rattle.tap_choice.specs.declared.wanted.WantedTaps.{WantedTaps}
use Rattle.tap_choice.specs.Known.{Known, noticed, pair_of, other_side}
use Rattle.tap_follow.specs.declared.followed.Followed.{Followed}
use Rattle.tap_follow.specs.Followed.{slave_in}
use Rattle.tap_follow.specs.Course.{Course, after_as, ended_as, first_followed, kept_most, followed_by, followed_with, name_at, syncs_most}
use Rattle.tap_laws.specs.InCourse.{IsByChoice, EachCourseIsByChoice}

with_from : (enough : Bool) (slave : Option PortIdentity) (pair : Pair) (from_name to_name : List ℕ) (f : Followed)
    → followed_with enough slave pair from_name to_name ≡ Some f → pair.from ≡ f.from
with_from enough slave pair from_name to_name f is = at (is_some slave || enough) is
  where
    at : (b : Bool) → (if b then Some (record {
      watched = record { domain = pair.domain; master = pair.master; slave = slave };
      from = pair.from;
      from_name = from_name;
      to_name = to_name;
    }) else None) ≡ Some f → pair.from ≡ f.from
    at true is = cc
    at false is = cc

pair_from : (domain : Option ℕ) (master : Option PortIdentity) (from : Option Side) (k : Known) (pair : Pair) → k.domain ≡ domain → k.master ≡ master → k.from ≡ from
    → pair_of k ≡ Some pair → k.from ≡ Some pair.from
pair_from None master from k pair d m f is = cc
pair_from (Some x) None from k pair d m f is = cc
pair_from (Some x) (Some y) None k pair d m f is = cc
pair_from (Some x) (Some y) (Some z) k pair d m f is = cc

by_names : (enough : Bool) (slave : Option PortIdentity) (pair : Pair) (from_name to_name : Option (List ℕ)) (f : Followed)
    → option_and_then (λ from_name. option_and_then (λ to_name. followed_with enough slave pair from_name to_name) to_name) from_name ≡ Some f → pair.from ≡ f.from
by_names enough slave pair None to_name f is = cc
by_names enough slave pair (Some n) None f is = cc
by_names enough slave pair (Some n) (Some o) f is = with_from enough slave pair n o f is

by_pair : (enough : Bool) (w : WantedTaps) (s : Sides) (k : Known) (met : List Met) (f : Followed) (o : Option Pair) → pair_of k ≡ o
    → option_and_then (λ (pair : Pair). option_and_then (λ from_name. option_and_then
    (λ to_name. followed_with enough (slave_in w.slave pair.domain pair.from met) pair from_name to_name)
    (name_at s (other_side pair.from))) (name_at s pair.from)) o ≡ Some f → k.from ≡ Some f.from
by_pair enough w s k met f None pair_is is = cc
by_pair enough w s k met f (Some pair) pair_is is =
    pair_from k.domain k.master k.from k pair refl refl refl pair_is
    ∙ ap Some (by_names enough (slave_in w.slave pair.domain pair.from met) pair (name_at s pair.from) (name_at s (other_side pair.from)) f is)

by_followed : (enough : Bool) (w : WantedTaps) (s : Sides) (k : Known) (met : List Met) (f : Followed) → followed_by enough w s k met ≡ Some f → k.from ≡ Some f.from
by_followed enough w s k met f is = by_pair enough w s k met f (pair_of k) refl is

after_known : (m : Met) (c : Course) (o : Option Followed) → c.followed ≡ o → IsByChoice c → IsByChoice (after_as o m c)
after_known m c (Some f) is by = record { known = by.known; from = by.from }
after_known m c None is by = record {
  known = ap (noticed syncs_most m) by.known;
  from = λ f found.
      by_followed (nat_le kept_most (length (m ∷ c.before))) c.wanted c.sides (noticed syncs_most m c.known) (first_followed (m ∷ c.before)) f found;
}

ended_known : (c : Course) (o : Option Followed) → c.followed ≡ o → IsByChoice c → IsByChoice (ended_as o c)
ended_known c (Some f) is by = by
ended_known c None is by = record {
  known = by.known;
  from = λ f found. by_followed true c.wanted c.sides c.known (first_followed c.before) f found;
}

pub each_course : EachCourseIsByChoice
each_course = record {
  begins = λ form w. record { known = refl; from = λ f is. cc };
  with_tap_too = λ name c by. record { known = by.known; from = by.from };
  after_too = λ m c by. after_known m c c.followed refl by;
  ended_too = λ c by. ended_known c c.followed refl by;
}
