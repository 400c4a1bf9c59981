use Rattle.std.proofs.Common.{◌≡◌, Some, None, rules}
use Rattle.exchange_check.specs.Inner.Machine.{facts_of}
use Rattle.exchange_check.proofs.Entries.{on_ok, counted-line, uncounted-line}
use Rattle.exchange_check.proofs.exceptions.Exceptions.note.Goals as goal

pub returns-in-Some : goal.returns-in-Some
returns-in-Some c =
    let found : facts_of c.args.kept.now c.last_number-number.result ≡ Some c.in-Some.fact.now = search rules in
    on_ok c.note_counted.result (λ notes earlier h before.
    counted-line c.args.nodes.now c.args.line.now earlier c.args.kept.now h c.last_number-number.result
    c.last_number-number.ensures c.args.self.now c.note_counted.new.self before c.site_of.result c.in-Some.fact.now found
    c.site_of.ensures notes) c.note_counted.ensures

pub returns-in-None : goal.returns-in-None
returns-in-None c =
    let none : facts_of c.args.kept.now c.last_number-number.result ≡ None = search rules in
    on_ok c.note_uncounted.result (λ notes earlier h before.
    uncounted-line c.args.nodes.now c.args.line.now earlier c.args.kept.now h c.last_number-number.result
    c.last_number-number.ensures c.args.self.now c.note_uncounted.new.self before none notes
    c.note_uncounted.ensures.others) c.note_uncounted.ensures.uncounted
