-- What is written around a text that may not be known.
use Rattle.std.proofs.Common.{ℕ, List, ◌++◌}
use Rattle.std.specs.Prelude.{Option, Some, None, Result, option_map}
use Rattle.std.specs.Fmt.{◌++?◌, DisplaysOnOk}
use Rattle.std.specs.declared.fmt.Error.{Error}
use Rattle.std.specs.declared.fmt.Formatter.{Formatter}

pub displays_between : {W : Type 0} (took : W → List ℕ → W → Type 0) (f : Formatter W) (r : Result (Unit {0}) Error) (g : Formatter W)
    (start front comma behind back close : List ℕ) (o : Option (List ℕ))
    → DisplaysOnOk took f r (Some start ++? (Some front ++? (Some comma ++? (o ++? (Some behind ++? (Some back ++? Some close)))))) g
    → DisplaysOnOk took f r (option_map (λ p. start ++ (front ++ (comma ++ (p ++ (behind ++ (back ++ close)))))) o) g
displays_between took f r g start front comma behind back close None h = h
displays_between took f r g start front comma behind back close (Some p) h = h
