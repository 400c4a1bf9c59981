use Rattle.std.proofs.Common.{◌≡◌, drop, get_or, true, ◌==◌, Option, ap, ◌∙◌, subst, arith, take_all, length-drop, eq-eqb}
use Rattle.std.specs.Prelude.{IfSome, Some}
use Rattle.fast_float.specs.Text.{scan}
use Rattle.serde_json.specs.Data.{Num, negative}
use Rattle.serde_json.specs.Read.{number_of, number_from}
use Rattle.line_object.proofs.number.negative_in.Goals as goal

pub returns : goal.returns
unfolding number_of
returns c =
    let s = c.as_bytes-octets.result.now in
    let signed : (get_or s 0 0 == 45) ≡ true = eq-eqb (get_or s 0 0) 45 c.if-octets-ne45.false in
    let parts : c.scan.result ≡ scan (drop 1 s) = c.scan.ensures.parts ∙ ap scan (take_all _ (drop 1 s) (omega (arith, length-drop 1 s))) in
    let same : number_from true c.scan.result ≡ number_of s = ap (number_from true) parts ∙ rw signed in
    subst (λ (n : Option Num). IfSome c.negative_from.result (λ z. n ≡ Some (negative z))) (same ∙ ap number_of c.as_bytes-octets.ensures.value) c.negative_from.ensures
