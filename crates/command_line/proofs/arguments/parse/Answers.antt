use Rattle.std.proofs.Common.{◌∙◌, ap, map}
use Rattle.std.specs.Prelude.{string_bytes}
use Rattle.command_line.specs.Program.{program_of}
use Rattle.command_line.proofs.Invocations.{asked_from, told_from}
use Rattle.command_line.proofs.arguments.parse.Goals as goal

pub returns-in-Ok : goal.returns-in-Ok
returns-in-Ok c =
    let is = c.in_ok-program.ensures.app ∙ ap program_of c.subcommands.ensures.table in
    record {
      asked = asked_from _ is (map string_bytes c.args.words.now) c.in-Ok.matches
          c.in-Ok.ensures.kinds c.in-Ok.ensures.matches c.read_matches.result c.read_matches.ensures;
    }

pub returns-in-Err : goal.returns-in-Err
returns-in-Err c =
    let is = c.in_ok-program.ensures.app ∙ ap program_of c.subcommands.ensures.table in
    record {
      asked = told_from _ is (map string_bytes c.args.words.now) c.in-Err.error
          c.in-Err.ensures.kinds c.refusal.result c.refusal.ensures.kind;
    }
