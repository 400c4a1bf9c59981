-- A program with one subcommand more, and a subcommand with one option more.
use Rattle.std.proofs.Common.{◌≡◌, ◌∙◌, ◌<◌, ◌+◌, ◌++◌, ◌||◌, ℕ, false, List, [], ◌∷◌, ap, ap₂, length, map, take, get_or}
use Rattle.std.proofs.lemmas.List.{map_more}
use Rattle.std.proofs.lemmas.List.Sums.{fold_push}
use Rattle.clap.specs.Built.{AddsArg}
use Rattle.clap.specs.Simple.{App, Shape, shape_of, with_subcommand}
use Rattle.clap.specs.Walk.{Rule, rule_of}
use Rattle.clap.specs.declared.builder.arg.Arg.{Arg}
use Rattle.clap.specs.declared.builder.command.Command.{Command}
use Rattle.clap.specs.declared.builder.command.Command.TheViews.{out-Command as fields_of}
use Rattle.command_line.specs.Program.{Row, bare_program, program_of, row_of, rule_for, shape_for}
use Rattle.command_line.specs.declared.table.OptionRow.{OptionRow}
use Rattle.command_line.specs.declared.table.SubcommandRow.{SubcommandRow}

pub program_more : (rows : List SubcommandRow) (i : ℕ) (d : SubcommandRow) → i < length rows
    → program_of (map row_of (take (i + 1) rows))
    ≡ with_subcommand (program_of (map row_of (take i rows))) (shape_for (row_of (get_or rows i d)))
program_more rows i d within = ap program_of (map_more row_of rows i d within)
    ∙ fold_push (λ (app : App) (r : Row). with_subcommand app (shape_for r)) bare_program
    (map row_of (take i rows)) (row_of (get_or rows i d))

pub rules_more : (options : List OptionRow) (i : ℕ) (d : OptionRow) → i < length options
    → map rule_for (take (i + 1) options) ≡ map rule_for (take i options) ++ rule_for (get_or options i d) ∷ []
rules_more options i d within = map_more rule_for options i d within

-- a shape with one more argument
abbrev and_rule : Shape → Rule → Shape
and_rule s r = record s { rules = s.rules ++ r ∷ [] }

pub added : (old : Command) (a : Arg) (new : Command) (s : Shape) (r : Rule) → AddsArg old a new → a.global ≡ false
    → shape_of old ≡ s → rule_of a ≡ r → shape_of new ≡ and_rule s r
added old a new s r adds local is rule = ap (λ app. app.top) (adds.shape local) ∙ ap₂ and_rule is rule

pub stays_local : (old : Command) (a : Arg) (new : Command) → AddsArg old a new → a.global ≡ false
    → (fields_of old).has_globals ≡ false → (fields_of new).has_globals ≡ false
stays_local old a new adds local before = adds.globals ∙ ap₂ (λ x y. x || y) before local
