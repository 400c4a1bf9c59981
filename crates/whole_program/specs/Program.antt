-- What the program answers: its exit status, by what the arguments ask for.
use Rattle.std.specs.Prelude.{◌≡◌, ℕ, List, Option, ⊤}
use Rattle.text_lines.specs.declared.counted.Counted.{Counted}
use Rattle.command_line.specs.declared.commands.Subcommand.{Subcommand}
use Rattle.command_line.specs.declared.commands.Subcommand.TheVariants.{Show, Replay, Check, Extract, Measure, Audit, Follow, Explain}
use Rattle.show_command.specs.Run.{RunsShow}
use Rattle.transcript_command.specs.Run.{RunsReplay, RunsCheck}
use Rattle.extract_command.specs.Run.{RunsExtract}
use Rattle.measure_command.specs.Run.{RunsMeasure}
use Rattle.audit_command.specs.Run.{RunsAudit}
use Rattle.follow_command.specs.Run.{RunsFollow}
use Rattle.explain_command.specs.Run.{RunsExplain}

-- the subcommand ran: its answer gave the status, and says what was read and written
abbrev pub Runs : {R W : Type 0} → (R → Option (List ℕ)) → (W → Option (List ℕ)) → Subcommand → ℕ
    → (input input' : Counted R) (output output' : Counted W) → Type 0
Runs remaining contents Show = RunsShow remaining contents
Runs remaining contents Replay = RunsReplay remaining contents
Runs remaining contents Check = RunsCheck remaining contents
Runs remaining contents (Extract options) = RunsExtract remaining contents options
Runs remaining contents (Measure options) = RunsMeasure remaining contents options
Runs remaining contents (Audit options) = RunsAudit remaining contents options
Runs remaining contents (Follow options) = RunsFollow remaining contents options
Runs remaining contents (Explain options) = RunsExplain remaining contents options

-- the input of a subcommand has a limit: those of `extract`, of `measure`, of `audit` and of `follow` have none
abbrev pub IsLimited : Subcommand → Type 0
IsLimited (Extract options) = ⊥
IsLimited (Measure options) = ⊥
IsLimited (Audit options) = ⊥
IsLimited (Follow options) = ⊥
IsLimited s = ⊤

-- memory was refused before a subcommand ran
abbrev pub EndsBefore : {R W : Type 0} → ℕ → (input input' : Counted R) (output output' : Counted W) → Type 0
EndsBefore status input input' output output' = (status ≡ 3) × (input' ≡ input) × (output' ≡ output)
