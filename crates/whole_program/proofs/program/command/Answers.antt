use Rattle.std.proofs.Common.{map, inl, subst}
use Rattle.std.specs.Prelude.{string_bytes}
use Rattle.text_lines.specs.declared.counted.Counted.{Counted}
use Rattle.command_line.specs.declared.commands.Subcommand.{Subcommand}
use Rattle.command_line.proofs.Invocations.{flag_asks_help, named_asks_no_help, names_one}
use Rattle.whole_program.specs.Program.{Runs}
use Rattle.whole_program.proofs.program.command.Goals as goal

pub returns-in-Ok-clause-runs : goal.returns-in-Ok-clause-runs
returns-in-Ok-clause-runs g c = λ s named.
    let (is, same) = c.in-Ok.ensures.named in
    let one = names_one (map string_bytes c.args.words.now) c.in-Ok.subcommand s is named in
    inl (subst (λ (t : Subcommand). Runs g.R.Read.remaining g.W.Write.contents t c.run.result c.args.input.now c.run.new.input c.args.output.now c.run.new.output) one
    (subst (λ (o : Counted g.row.W.Denot). Runs g.R.Read.remaining g.W.Write.contents c.in-Ok.subcommand c.run.result c.args.input.now c.run.new.input o c.run.new.output) same c.run.ensures.runs))

pub returns-in-Ok-clause-bounded : goal.returns-in-Ok-clause-bounded
returns-in-Ok-clause-bounded g c = λ limited.
    c.run.ensures.bounded (limited c.in-Ok.subcommand c.in-Ok.ensures.named.0)

pub returns-in-Ok-clause-unread : goal.returns-in-Ok-clause-unread
returns-in-Ok-clause-unread g c = λ nothing.
    absurd (nothing c.in-Ok.subcommand c.in-Ok.ensures.named.0)

pub returns-in-Ok-clause-help : goal.returns-in-Ok-clause-help
returns-in-Ok-clause-help g c = λ flag.
    absurd (named_asks_no_help (map string_bytes c.args.words.now) c.in-Ok.subcommand c.in-Ok.ensures.named.0 (flag_asks_help (map string_bytes c.args.words.now) flag))
