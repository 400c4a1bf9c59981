-- The greatest change from one value to the next. Lists of values have the newest in front.
use Rattle.std.specs.Prelude.{◌≡◌, ℕ, nat_lt, ◌-ℤ◌, unsigned_abs, if◌then◌else◌, ⊤}
use Rattle.std.specs.Prelude.{List, [], ◌∷◌, Option, Some, None}
use Rattle.statistics.specs.declared.series.Point.{Point}
use Rattle.statistics.specs.declared.step.Change.{Change}
use Rattle.statistics.specs.declared.step.Step.{Step}
use Rattle.statistics.specs.Series.{IsSeries}

-- how great the change from one value to another is, without its sign
abbrev pub size : (from to : Point) → ℕ
size from to = unsigned_abs (to.value -ℤ from.value)

-- a change from one value to the next, with all values before it
pub record Leap : Type 0 where
  pub from : Point
  pub to : Point
  pub before : List Point

-- the newest of all
abbrev pub newest : List Point → Option Point
newest [] = None
newest (p ∷ earlier) = Some p

-- the change from the newest of these to one more value
abbrev pub leap_to : Point → List Point → Option Leap
leap_to p [] = None
leap_to p (q ∷ earlier) = Some (record { from = q; to = p; before = q ∷ earlier })

-- the greater of the newest change and the greatest before it, the earlier one where they are equal
abbrev pub greater : Option Leap → Option Leap → Option Leap
greater None greatest = greatest
greater (Some l) None = Some l
greater (Some l) (Some greatest) = Some (if nat_lt (size greatest.from greatest.to) (size l.from l.to) then l else greatest)

-- the greatest of all
abbrev pub greatest : List Point → Option Leap
greatest [] = None
greatest (p ∷ earlier) = greater (leap_to p earlier) (greatest earlier)

-- this is held of a change
pub record IsChange (l : Leap) (c : Change) : Type 0 where
  pub from : c.from ≡ l.from
  pub to : c.to ≡ l.to
  pub before : IsSeries l.before c.before

abbrev pub AreAlike : Option Leap → Option Change → Type 0
AreAlike None None = ⊤
AreAlike None (Some c) = ⊥
AreAlike (Some l) None = ⊥
AreAlike (Some l) (Some c) = IsChange l c

-- this is held of these values
pub record IsStep (points : List Point) (s : Step) : Type 0 where
  pub all : IsSeries points s.all
  pub newest : s.newest ≡ newest points
  pub greatest : AreAlike (greatest points) s.greatest
