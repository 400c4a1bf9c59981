-- What is told of a course beside its crossings, by what is kept of it.
use Rattle.std.proofs.Common.{◌≡◌, ◌∙◌, ℕ, List, [], Option, Some, None, refl, sym, ap, subst}
use Rattle.std.specs.Option.{option_map_or}
use Rattle.std.specs.Prelude.{◌%◌, ◌^◌}
use Rattle.tap_crossing.specs.declared.places.Filled.{Filled}
use Rattle.tap_crossing.specs.declared.sighting.Kind.{Kind}
use Rattle.tap_crossing.specs.declared.sighting.Kind.TheVariants as kinds
use Rattle.tap_crossing.specs.Open.{number_of, open_count}
use Rattle.tap_crossing.specs.Records.{records}
use Rattle.tap_choice.specs.declared.met.Met.{Met}
use Rattle.tap_follow.specs.declared.following.Form.{Form}
use Rattle.tap_follow.specs.declared.followed.Followed.{Followed}
use Rattle.tap_sums.specs.declared.sums.Sums.{Sums}
use Rattle.tap_sums.specs.Held.{AreSums}
use Rattle.tap_sums.specs.declared.figures.Figures.{Figures}
use Rattle.tap_sums.specs.declared.untold.Untold.{Untold}
use Rattle.tap_sums.specs.Figures.{AreFigures}
use Rattle.tap_sums.specs.Untold.{AreUntold}
use Rattle.tap_follow.specs.Written.{records_most, placed_in, outcomes_in, crossings_in}
use Rattle.tap_follow.specs.Course.{Course}
use Rattle.tap_follow.specs.Held.{Held, Holding, IsFollowing, IsFollower}
use Rattle.tap_follow.specs.Inner.OfKind.{untold_of}
use Rattle.tap_follow.specs.SoFar.{with_slave, followed_so_far, crossings_so_far, open_so_far, outcomes_so_far}
use Rattle.tap_follow.proofs.Courses.{known_of, unknown_of}

pub followed-known : (c : Course) (task : Holding) (held : Held) (result : Followed) → IsFollower task c
    → task.following ≡ Some held → result ≡ held.followed → Some result ≡ followed_so_far c
followed-known c task held result at is told =
    let (f, known, follows) = known_of c task held at is in
    let same : result ≡ with_slave c.met f = told ∙ (λ i. record {
      watched = follows.watched i;
      from = follows.from i;
      from_name = follows.from_name i;
      to_name = follows.to_name i;
    }) in
    rw known (ap Some same)

pub followed-unknown : (c : Course) (task : Holding) → IsFollower task c
    → ((held : Held) → task.following ≡ Some held → ⊥) → None ≡ followed_so_far c
followed-unknown c task at never =
    let (unknown, nothing, known, keeps, empty) = unknown_of c task at never in
    rw unknown refl

pub open-known : (kind : Kind) (filled : Filled) (c : Course) (result : ℕ) (f : Followed) → c.followed ≡ Some f
    → result ≡ open_count (number_of filled) (records records_most kind (placed_in f c.met)) % 2 ^ 64
    → Some result ≡ open_so_far kind filled c
open-known kind filled c result f known counts = rw known (ap Some counts)

pub open-unknown : (kind : Kind) (filled : Filled) (c : Course) (task : Holding) → IsFollower task c
    → ((held : Held) → task.following ≡ Some held → ⊥) → None ≡ open_so_far kind filled c
open-unknown kind filled c task at never =
    let (unknown, nothing, known, keeps, empty) = unknown_of c task at never in
    rw unknown refl

pub sums-known : (c : Course) (task : Holding) (held : Held) (result : Sums) → IsFollower task c
    → task.following ≡ Some held → result ≡ held.sums → AreSums (crossings_so_far c) result
sums-known c task held result at is told =
    let (f, known, follows) = known_of c task held at is in
    subst (λ (k : Option Followed). AreSums (option_map_or (λ g. crossings_in g c.met) k []) result) (sym known)
    (subst (AreSums (crossings_in f c.met)) (sym told) follows.sums)

pub sums-unknown : (c : Course) (task : Holding) (result : Sums) → IsFollower task c
    → ((held : Held) → task.following ≡ Some held → ⊥) → AreSums [] result → AreSums (crossings_so_far c) result
sums-unknown c task result at never none =
    let (unknown, nothing, known, keeps, empty) = unknown_of c task at never in
    subst (λ (k : Option Followed). AreSums (option_map_or (λ g. crossings_in g c.met) k []) result) (sym unknown) none

pub figures-known : (c : Course) (task : Holding) (held : Held) (result : Figures) → IsFollower task c
    → task.following ≡ Some held → result ≡ held.figures → AreFigures (crossings_so_far c) result
figures-known c task held result at is told =
    let (f, known, follows) = known_of c task held at is in
    subst (λ (k : Option Followed). AreFigures (option_map_or (λ g. crossings_in g c.met) k []) result) (sym known)
    (subst (AreFigures (crossings_in f c.met)) (sym told) follows.figures)

pub none-unknown : (c : Course) (task : Holding) → IsFollower task c
    → ((held : Held) → task.following ≡ Some held → ⊥) → c.followed ≡ None
none-unknown c task at never =
    let (unknown, nothing, known, keeps, empty) = unknown_of c task at never in
    unknown

untold-held : (kind : Kind) (form : Form) (f : Followed) (met : List Met) (held : Held) → IsFollowing form f met held
    → AreUntold (outcomes_in kind f met) (untold_of kind held)
untold-held kinds.Sync form f met held follows = follows.untold_syncs
untold-held kinds.DelayReq form f met held follows = follows.untold_requests

pub untold-known : (kind : Kind) (c : Course) (task : Holding) (held : Held) (result : Untold) → IsFollower task c
    → task.following ≡ Some held → result ≡ untold_of kind held → AreUntold (outcomes_so_far kind c) result
untold-known kind c task held result at is told =
    let (f, known, follows) = known_of c task held at is in
    subst (λ (k : Option Followed). AreUntold (option_map_or (λ g. outcomes_in kind g c.met) k []) result) (sym known)
    (subst (AreUntold (outcomes_in kind f c.met)) (sym told) (untold-held kind c.form f c.met held follows))

pub untold-unknown : (kind : Kind) (c : Course) (task : Holding) (result : Untold) → IsFollower task c
    → ((held : Held) → task.following ≡ Some held → ⊥) → AreUntold [] result → AreUntold (outcomes_so_far kind c) result
untold-unknown kind c task result at never none =
    let (unknown, nothing, known, keeps, empty) = unknown_of c task at never in
    subst (λ (k : Option Followed). AreUntold (option_map_or (λ g. outcomes_in kind g c.met) k []) result) (sym unknown) none
