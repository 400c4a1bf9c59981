use Rattle.std.proofs.Common.{◌≡◌, ◌∷◌, ◌-◌, length, take, drop, get_or, arith}
use Rattle.capture_frame.proofs.Families.{little_endian, four}
use Rattle.capture_frame.proofs.Only.{only_same}
use Rattle.capture_frame.proofs.link.in_little_endian.Goals as goal

pub returns-in-0 : goal.returns-in-0
returns-in-0 c =
    let octets = c.args.octets.now in
    let behind = take (length octets - 4) (drop 4 octets) in
    let second : get_or octets 1 0 ≡ 0 = omega arith in
    let third : get_or octets 2 0 ≡ 0 = omega arith in
    let fourth : get_or octets 3 0 ≡ 0 = omega arith in
    let cells = four octets c.in-0.len_at_least in
    let parts : octets ≡ get_or octets 0 0 ∷ 0 ∷ 0 ∷ 0 ∷ behind = cc in
    only_same _ _ _ (little_endian octets behind (get_or octets 0 0) parts) c.in_family.ensures
