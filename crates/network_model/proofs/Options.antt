-- What an Option or a Result that has a value was made of.
-- The steps of an outcome, a copy or a journey are taken apart by these.
use Rattle.std.proofs.Common.{◌≡◌, Bool, true, false, Option, Some, None, Ok, Err, IsOk, refl, ap}
use Rattle.std.specs.Prelude.{Result, ok_or, IsSome, IfSome, is_some, option_and_then, option_map, if◌then◌else◌}
use Rattle.network_model.specs.declared.refusal.WorldRefusal.{WorldRefusal}
use Rattle.network_model.specs.Outcome.{◌>>=◌}

-- an Option that is Some has a value
pub some_value : {A : Type 0} (o : Option A) → IsSome o → (x : A) × (o ≡ Some x)
some_value None is = cc
some_value (Some x) is = (x, refl)

pub is_some_of : {A : Type 0} {o : Option A} (x : A) → o ≡ Some x → IsSome o
is_some_of x is = ap is_some is

-- what holds of the value, if there is one
pub if_some : {A : Type 0} (P : A → Type 0) (o : Option A) → ((x : A) → o ≡ Some x → P x) → IfSome o P
if_some P None each = tt
if_some P (Some x) each = each x refl

pub and_then : {A B : Type 0} (P : B → Type 0) (f : A → Option B) (o : Option A) → ((a : A) → IfSome (f a) P) → IfSome (option_and_then f o) P
and_then P f None each = tt
and_then P f (Some a) each = each a

pub each_mapped : {A B : Type 0} (P : B → Type 0) (f : A → B) (o : Option A) → ((a : A) → P (f a)) → IfSome (option_map f o) P
each_mapped P f None each = tt
each_mapped P f (Some a) each = each a

pub mapped : {A B : Type 0} (P : B → Type 0) (f : A → B) (o : Option A) → IfSome o (λ a. P (f a)) → IfSome (option_map f o) P
mapped P f None h = tt
mapped P f (Some a) h = h

pub weaker : {A : Type 0} (P Q : A → Type 0) (o : Option A) → IfSome o P → ((a : A) → P a → Q a) → IfSome o Q
weaker P Q None h more = tt
weaker P Q (Some a) h more = more a h

-- what was read first is in its range when the next is read
pub then_also : {A B : Type 0} (P : A → Type 0) (Q : B → Type 0) (f : A → Option B) (o : Option A) → IfSome o P → ((a : A) → P a → IfSome (f a) Q)
    → IfSome (option_and_then f o) Q
then_also P Q f None h each = tt
then_also P Q f (Some a) h each = each a h

pub either : {A : Type 0} (P : A → Type 0) (b : Bool) (x y : Option A) → (b ≡ true → IfSome x P) → (b ≡ false → IfSome y P) → IfSome (if b then x else y) P
either P true x y h k = h refl
either P false x y h k = k refl

pub ok_step : {A B : Type 0} (o : Result A WorldRefusal) (f : A → Result B WorldRefusal) {y : B} → (o >>= f) ≡ Ok y → (x : A) × (o ≡ Ok x) × (f x ≡ Ok y)
ok_step (Ok x) f e = (x, refl, e)
ok_step (Err refusal) f e = cc

pub ok_some : {A : Type 0} (o : Option A) (refusal : WorldRefusal) {x : A} → ok_or o refusal ≡ Ok x → o ≡ Some x
ok_some None refusal e = cc
ok_some (Some y) refusal e = cc

pub ok_value : {A : Type 0} (o : Result A WorldRefusal) → IsOk o → (x : A) × (o ≡ Ok x)
ok_value (Ok x) accepted = (x, refl)
ok_value (Err refusal) accepted = cc
