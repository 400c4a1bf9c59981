-- How the program ends whose arguments name no subcommand, or for which there is no memory.
use Rattle.std.specs.Prelude.{◌≡◌, ◌≢◌, ◌⊎◌, ℕ, List, Option}
use Rattle.std.specs.Io.KnownBytes.{Appends}
use Rattle.text_lines.specs.declared.counted.Counted.{Counted}
use Rattle.text_lines.specs.Counted.{device_of, HasFailed, HasNotFailed}
use Rattle.command_line.specs.declared.commands.Subcommand.{Subcommand}
use Rattle.command_line.specs.Arguments.{AsksNothing, HasHelpFlag, Names, NamesNothing}

-- Arguments that name no subcommand. Status 0: a text went out whole. Status 2: nothing went out. Status 3: nothing went
-- out, for want of memory, or a write failed.
abbrev pub EndsUnread : {W : Type 0} → (W → Option (List ℕ)) → ℕ → Counted W → Counted W → Type 0
EndsUnread contents status old new =
    ((status ≡ 0) × HasNotFailed old new
    × (text : List ℕ) × Appends (contents (device_of old)) (contents (device_of new)) text)
    ⊎ (((status ≡ 2) × (new ≡ old))
    ⊎ ((status ≡ 3) × ((new ≡ old) ⊎ HasFailed old new)))

-- The program ended before a subcommand: arguments that name one met want of memory; those that name none end as
-- above; a flag for help is no mistake; and arguments that ask for nothing write nothing, and are no command.
pub record EndsUnnamed {W : Type 0} (contents : W → Option (List ℕ)) (words : List (List ℕ)) (status : ℕ) (old new : Counted W) : Type 0 where
  pub named : (s : Subcommand) → Names words s → (status ≡ 3) × (new ≡ old)
  pub unread : NamesNothing words → EndsUnread contents status old new
  pub help : HasHelpFlag words → status ≢ 2
  pub mistake : AsksNothing words → ((status ≡ 2) ⊎ (status ≡ 3)) × (new ≡ old)
