-- What reads do where the octets are known.
use Rattle.std.proofs.Common.{◌≡◌, ℕ, List, ◌++◌, take, Option, Some, None, refl}
use Rattle.std.specs.Io.KnownBytes.{Consumes, Keeps, prepend_known}
use Rattle.std.proofs.KnownBytes.{prepend_known-nil}

pub Consumes-known : (old new : Option (List ℕ)) (bs octets : List ℕ) → Consumes old new bs → old ≡ Some octets
    → (rest : List ℕ) × (new ≡ Some rest) × (octets ≡ bs ++ rest)
Consumes-known None new bs octets h e = absurd cc
Consumes-known (Some xs) None bs octets h e = absurd h
Consumes-known (Some xs) (Some ys) bs octets h e = (ys, refl, cc)

pub Keeps-known : (old new : Option (List ℕ)) (octets : List ℕ) → Keeps old new → old ≡ Some octets → new ≡ Some octets
Keeps-known None new octets h e = absurd cc
Keeps-known (Some xs) None octets h e = absurd h
Keeps-known (Some xs) (Some ys) octets h e = cc

-- none were read before
pub none_begun : (begun : ℕ) (octets : List ℕ) (a : Option (List ℕ)) → begun ≡ 0 → prepend_known (take begun octets) a ≡ a
none_begun begun octets a none = rw none (prepend_known-nil a)
