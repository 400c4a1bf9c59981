use Rattle.std.proofs.Common.{◌∙◌, refl, sym, ap, is_some}
use Rattle.pairing.proofs.Pairs.{last_held, last_replaced, none_replaced}
use Rattle.pairing.proofs.list_table.replace_last.Goals as goal

pub returns-in_default-clause-held : goal.returns-in_default-clause-held
returns-in_default-clause-held g c =
    ap is_some (sym c.in_default.is) ∙ last_held c.args.number.0 c.args.pairs.now c.pairs_after.result c.pairs_after.ensures

pub returns-in_default-clause-replaced : goal.returns-in_default-clause-replaced
returns-in_default-clause-replaced g c =
    none_replaced c.args.number.0 c.args.value c.args.pairs.now (sym c.pairs_after.ensures ∙ c.in_default.is)

pub returns-clause-held : goal.returns-clause-held
returns-clause-held g c =
    ap is_some (sym c.in-Some.is) ∙ last_held c.args.number.0 c.args.pairs.now c.pairs_after.result c.pairs_after.ensures

pub returns-clause-replaced : goal.returns-clause-replaced
returns-clause-replaced g c =
    last_replaced c.args.number.0 c.args.value c.args.pairs.now c.in-Some.after _ _ (sym c.pairs_after.ensures ∙ c.in-Some.is) refl
