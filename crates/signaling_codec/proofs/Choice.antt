-- What it says that no refusal applies.
use Rattle.std.proofs.Common.{◌≡◌, Bool, true, false, ◌&&◌, cond, Option, Some, None, refl}
use Rattle.std.specs.Option.{option_or}

pub both : (a b : Bool) → (a && b) ≡ true → (a ≡ true) × (b ≡ true)
both true b e = (refl, e)
both false b e = absurd cc

pub none_if_true : {X : Type 0} (b : Bool) (x : X) → cond b None (Some x) ≡ None → b ≡ true
none_if_true true x e = refl
none_if_true false x e = absurd cc

pub none_if_false : {X : Type 0} (b : Bool) (x : X) (o : Option X) → cond b (Some x) o ≡ None → (b ≡ false) × (o ≡ None)
none_if_false true x o e = absurd cc
none_if_false false x o e = (refl, e)

pub none_then : {X : Type 0} (b : Bool) (x : X) (o : Option X) → cond b o (Some x) ≡ None → (b ≡ true) × (o ≡ None)
none_then true x o e = (refl, e)
none_then false x o e = absurd cc

pub none_of_both : {X : Type 0} (o p : Option X) → option_or o p ≡ None → (o ≡ None) × (p ≡ None)
none_of_both None p e = (refl, e)
none_of_both (Some x) p e = absurd cc
