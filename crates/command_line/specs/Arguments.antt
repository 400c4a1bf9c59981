-- What the arguments of `ptpx` ask for, as clap reads them.
use Rattle.std.specs.Prelude.{◌≡◌, List, [], ◌∷◌, Option, Some, ℕ}
use Rattle.clap.specs.Faults.{fault_of}
use Rattle.clap.specs.Kinds.{IsAmong, Kinds}
use Rattle.clap.specs.Simple.{subcommand_of}
use Rattle.clap.specs.declared.error.kind.ErrorKind.TheVariants.{DisplayHelp}
use Rattle.command_line.specs.declared.arguments.Invocation.{Invocation}
use Rattle.command_line.specs.declared.arguments.Invocation.TheVariants.{Run, Help, Mistake}
use Rattle.command_line.specs.declared.commands.Subcommand.{Subcommand}
use Rattle.command_line.specs.Commands.{chosen_of, program}

-- the kinds of error of which clap answers one to these words; none where it takes them
unfoldable pub faults_in : List (List ℕ) → Kinds
faults_in words = fault_of program words

-- the subcommand that clap enters at these words, with the options that its rows say
unfoldable pub named_in : List (List ℕ) → Option Subcommand
named_in words = chosen_of (subcommand_of program words)

-- the arguments name the subcommand: clap takes them, and meets its name with these options
abbrev pub Names : List (List ℕ) → Subcommand → Type 0
Names words s = (faults_in words ≡ []) × (named_in words ≡ Some s)

-- the arguments name no subcommand
abbrev pub NamesNothing : List (List ℕ) → Type 0
NamesNothing words = (s : Subcommand) → Names words s → ⊥

-- help is asked for, and clap answers nothing else
abbrev pub HasHelpFlag : List (List ℕ) → Type 0
HasHelpFlag words = faults_in words ≡ DisplayHelp ∷ []

-- help is what clap may answer, as where it is asked for, or where the arguments begin with `help`
abbrev pub MayAskHelp : List (List ℕ) → Type 0
MayAskHelp words = IsAmong DisplayHelp (faults_in words)

-- the arguments ask for no subcommand and no help
abbrev pub AsksNothing : List (List ℕ) → Type 0
AsksNothing words = NamesNothing words × (MayAskHelp words → ⊥)

-- the invocation is what the arguments ask for; where they begin with `help`, it may be either kind of text
abbrev pub Asks : List (List ℕ) → Invocation → Type 0
Asks words (Run s) = Names words s
Asks words (Help text) = MayAskHelp words
Asks words (Mistake text) = NamesNothing words × (HasHelpFlag words → ⊥)
