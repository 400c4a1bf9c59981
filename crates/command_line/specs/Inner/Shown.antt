-- What comes of clap's matches, and what is shown of its errors.
use Rattle.std.specs.Prelude.{◌≡◌, ◌≢◌, Option, Some, None}
use Rattle.clap.specs.declared.error.kind.ErrorKind.{ErrorKind}
use Rattle.clap.specs.declared.error.kind.ErrorKind.TheVariants.{DisplayHelp, OutOfMemory}
use Rattle.command_line.specs.declared.arguments.Invocation.{Invocation}
use Rattle.command_line.specs.declared.arguments.Invocation.TheVariants.{Run, Help, Mistake}
use Rattle.command_line.specs.declared.commands.Subcommand.{Subcommand}

-- the text of an error of this kind goes to the stream that it asks for; want of memory has none
abbrev pub ShowsKind : ErrorKind → Invocation → Type 0
ShowsKind kind (Run s) = ⊥
ShowsKind kind (Help text) = kind ≡ DisplayHelp
ShowsKind kind (Mistake text) = (kind ≢ DisplayHelp) × (kind ≢ OutOfMemory)

-- what comes of the subcommand that was chosen, or of none
abbrev pub Chooses : Option Subcommand → Invocation → Type 0
Chooses said (Run s) = said ≡ Some s
Chooses said (Help text) = ⊥
Chooses said (Mistake text) = said ≡ None
