use Rattle.std.proofs.Common.{IfSome, ◌≡◌, Some, sym, subst}
use Rattle.serde_json.specs.Data.{unsigned}
use Rattle.serde_json.specs.Read.{number_of}
use Rattle.line_object.proofs.Numbers.{parsed}
use Rattle.line_object.proofs.number.whole_in.Goals as goal

pub returns : goal.returns
returns c =
    let s = c.as_bytes-octets.result.now in
    subst (λ t. IfSome c.ok.result (λ n. number_of t ≡ Some (unsigned n))) c.as_bytes-octets.ensures.value
    (subst (λ r. IfSome r (λ n. number_of s ≡ Some (unsigned n))) (sym c.ok.ensures.value) (parsed s c.parse_u64.result c.if-octets-eq43.false c.parse_u64.ensures))
