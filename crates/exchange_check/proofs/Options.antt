-- The first of several options.
use Rattle.std.proofs.Common.{◌≡◌, ◌&&◌, Option, Some, None, refl}
use Rattle.std.specs.Prelude.{is_none, option_map}
use Rattle.std.specs.Option.{option_or}

pub or_none : {X : Type 0} (o : Option X) → option_or o None ≡ o
or_none None = refl
or_none (Some x) = refl

pub or_twice : {X : Type 0} (a b c : Option X) → option_or (option_or a b) c ≡ option_or a (option_or b c)
or_twice None b c = refl
or_twice (Some x) b c = refl

pub map_or : {X Y : Type 0} (f : X → Y) (a b : Option X)
    → option_map f (option_or a b) ≡ option_or (option_map f a) (option_map f b)
map_or f None b = refl
map_or f (Some x) b = refl

pub map_four : {X Y : Type 0} (f : X → Y) (a b c d : Option X)
    → option_or (option_or (option_or (option_map f a) (option_map f b)) (option_map f c)) (option_map f d)
    ≡ option_map f (option_or (option_or (option_or a b) c) d)
map_four f (Some x) b c d = refl
map_four f None (Some x) c d = refl
map_four f None None (Some x) d = refl
map_four f None None None d = refl

pub none_mapped : {X Y : Type 0} (f : X → Y) (o : Option X) → is_none (option_map f o) ≡ is_none o
none_mapped f None = refl
none_mapped f (Some x) = refl

pub none_of_two : {X : Type 0} (a b : Option X) → is_none (option_or a b) ≡ (is_none a && is_none b)
none_of_two None b = refl
none_of_two (Some x) b = refl

pub none_of_four : {X : Type 0} (a b c d : Option X)
    → is_none (option_or (option_or (option_or a b) c) d) ≡ (is_none a && is_none b && is_none c && is_none d)
none_of_four (Some x) b c d = refl
none_of_four None (Some x) c d = refl
none_of_four None None (Some x) d = refl
none_of_four None None None d = refl
