-- What the kind of a writer's error says.
use Rattle.std.specs.Prelude.{Bool, true, false}
use Rattle.std.specs.declared.io.ErrorKind.{ErrorKind}
use Rattle.std.specs.declared.io.ErrorKind.TheVariants.{BrokenPipe}

-- whether it says that nobody reads what is written
abbrev pub is_broken : ErrorKind → Bool
is_broken BrokenPipe = true
is_broken _ = false
