use Rattle.std.proofs.Common.{rules, ◌≡◌, ◌≢◌, ◌∙◌, ◌++◌, ◌∷◌, [], ℕ, List, length, get_or, append_assoc, ap, sym, subst}
use Rattle.std.specs.Io.KnownBytes.{Consumes, prepend_known}
use Rattle.std.proofs.lemmas.List.Elements.{All-push}
use Rattle.text_lines.specs.Counted.{device_of}
use Rattle.text_lines.specs.Lines.{line_limit}
use Rattle.text_lines.specs.Inner.Reading.{IsUnended}
use Rattle.text_lines.proofs.Reading.{read_one}
use Rattle.audit_command.proofs.front.read_rest.Goals as goal

pub returns-in-Ok-2-clause-read : goal.returns-in-Ok-2-clause-read
returns-in-Ok-2-clause-read g c =
    let o = c.loop-line in
    let full : length o.line.items ≡ line_limit = search rules in (
      o.invariant.begins.0,
      o.invariant.begins.1,
      o.invariant.unended,
      full,
      _,
      c.if-octet-eq10.false,
      read_one _ _ _ o.line.items c.read.new.buf c.in-Ok-2.field-0 o.invariant.read c.in-Ok-2.ensures.bytes.0 (search rules) (search rules) (search rules),
    )

pub loop-line-preserved : goal.loop-line-preserved
loop-line-preserved g c =
    let o = c.loop-line in
    let x = get_or c.read.new.buf 0 0 in
    let items : c.push.new.self.items ≡ o.line.items ++ x ∷ [] = c.push.ensures.items in record {
      read = subst (λ (line : List ℕ). Consumes (prepend_known c.args.line.now.items (g.R.Read.remaining (device_of c.args.input.now)))
          (g.R.Read.remaining (device_of c.read.new.self)) line) (sym items)
          (read_one _ _ _ o.line.items c.read.new.buf c.in-Ok-3.field-0 o.invariant.read c.in-Ok-3.ensures.bytes.0 (search rules) (search rules) (search rules));
      begins = (
        o.invariant.begins.0 ++ x ∷ [],
        items ∙ ap (λ (l : List ℕ). l ++ x ∷ []) o.invariant.begins.1 ∙ append_assoc c.args.line.now.items o.invariant.begins.0 (x ∷ []),
      );
      unended = subst (λ (line : List ℕ). IsUnended line) (sym items) (All-push (λ y. y ≢ 10) o.line.items x o.invariant.unended c.if-octet-eq10.false);
      within = search rules;
      octet = search rules;
      failures = search rules;
    }
