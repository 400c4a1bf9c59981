-- What an Option that has a value was made of.
use Rattle.std.proofs.Common.{◌≡◌, Option, Some, None, refl, option_map, option_and_then}

pub some_step : {A B : Type 0} (f : A → Option B) (o : Option A) {y : B} → option_and_then f o ≡ Some y → (x : A) × (o ≡ Some x) × (f x ≡ Some y)
some_step f None e = cc
some_step f (Some x) e = (x, refl, e)

pub some_image : {A B : Type 0} (f : A → B) (o : Option A) {y : B} → option_map f o ≡ Some y → (x : A) × (o ≡ Some x) × (f x ≡ y)
some_image f None e = cc
some_image f (Some x) e = (x, refl, cc)
