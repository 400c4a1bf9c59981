use Rattle.std.proofs.Common.{rules, ◌≡◌, ◌∙◌, sym, take}
use Rattle.std.proofs.lemmas.Result.{err_from_is_err_and}
use Rattle.text_lines.proofs.KnownOctets.{none_begun}
use Rattle.text_lines.proofs.lines.Lines.read_next.Goals as goal

pub returns-then-self-clause-next : goal.returns-then-self-clause-next
returns-then-self-clause-next g c = λ octets known.
    let none : c.args.self.now.begun ≡ 0 = search rules in
    let now = sym (none_begun _ c.args.self.now.octets _ none) ∙ known in
    search rules

pub returns-then-self-2-clause-next : goal.returns-then-self-2-clause-next
returns-then-self-2-clause-next g c = λ octets known.
    let none : c.args.self.now.begun ≡ 0 = search rules in
    let next = c.expect_end.ensures.next octets (sym (none_begun _ c.args.self.now.octets _ none) ∙ known) c.args.self.now.limit (take c.args.self.now.size c.args.self.now.octets) in
    search rules

pub returns-in_err-found-clause-next : goal.returns-in_err-found-clause-next
returns-in_err-found-clause-next g c =
    let p = err_from_is_err_and c.from_residual.result c.from_residual.ensures.1 in
    λ octets known.
    let next = c.read_line.ensures.next octets known in
    rw (p.1, p.2) (search rules)

pub returns-then-found-clause-next : goal.returns-then-found-clause-next
returns-then-found-clause-next g c = λ octets known.
    let next = c.read_line.ensures.next octets known in
    search rules

pub returns-else-found-clause-next : goal.returns-else-found-clause-next
returns-else-found-clause-next g c = λ octets known.
    let next = c.read_line.ensures.next octets known in
    search rules
