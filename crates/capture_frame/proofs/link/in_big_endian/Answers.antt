use Rattle.std.proofs.Common.{◌≡◌, ◌∷◌, ◌-◌, length, take, drop, get_or, arith}
use Rattle.capture_frame.proofs.Families.{big_endian, four}
use Rattle.capture_frame.proofs.Only.{only_same}
use Rattle.capture_frame.proofs.link.in_big_endian.Goals as goal

pub returns-in-0 : goal.returns-in-0
returns-in-0 c =
    let octets = c.args.octets.now in
    let behind = take (length octets - 4) (drop 4 octets) in
    let first : get_or octets 0 0 ≡ 0 = omega arith in
    let second : get_or octets 1 0 ≡ 0 = omega arith in
    let third : get_or octets 2 0 ≡ 0 = omega arith in
    let cells = four octets c.in-0.len_at_least in
    let parts : octets ≡ 0 ∷ 0 ∷ 0 ∷ get_or octets 3 0 ∷ behind = cc in
    only_same _ _ _ (big_endian octets behind (get_or octets 3 0) parts) c.in_family.ensures
