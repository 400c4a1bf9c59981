use Rattle.std.proofs.Common.{◌≡◌, ◌<◌, ◌^◌, List, [], ◌∷◌, length, refl, arith}
use Rattle.std.proofs.lemmas.Bool.Decides.{nat_tests}
use Rattle.tap_crossing.specs.declared.crossing.Crossing.{Crossing}
use Rattle.tap_sums.specs.Sums.{counted}
use Rattle.tap_sums.proofs.laws.all_count.Goals as goal

all_counted : (all : List Crossing) → length all < 2 ^ 63 → counted all ≡ all
all_counted [] few = refl
all_counted (x ∷ earlier) few =
    let same = all_counted earlier (omega arith) in
    rw same (grind (arith, nat_tests))

pub returns : goal.returns
returns c = all_counted
