use Rattle.std.proofs.Common.{◌≡◌, ◌∙◌, false, Some, ap, sym}
use Rattle.tap_choice.specs.Sides.{is_named}
use Rattle.tap_choice.specs.TapName.{IsTapName}
use Rattle.command_line.proofs.TapTexts.{no_name, own_name}
use Rattle.command_line.proofs.options.tap_besides.Goals as goal

pub returns-in_err-name : goal.returns-in_err-name
returns-in_err-name c = c.from_residual.ensures ∙ sym (no_name c.args.other c.args.text.now (λ name. cc (c.in_err-name.ensures.some.1 name)))

pub returns-else-is_other : goal.returns-else-is_other
returns-else-is_other c =
    let text = c.args.text.now in
    let named : IsTapName text = c.in_ok-name.ensures.some.0 cc in
    let name_is : c.in_ok-name.name ≡ text = c.in_ok-name.ensures.text in
    let not : is_named c.args.other text ≡ false = ap (is_named c.args.other) (sym name_is) ∙ sym c.is_other.ensures ∙ c.if-is_other.false in
    ap (λ t. Some t) name_is ∙ sym (own_name c.args.other text named not)
