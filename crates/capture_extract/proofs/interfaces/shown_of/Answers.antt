use Rattle.std.proofs.Common.{◌≡◌, ◌∙◌, ℕ, min, length, take, ap, arith}
use Rattle.std.proofs.lemmas.List.{take_min}
use Rattle.capture_extract.specs.Labels.{shown_limit}
use Rattle.capture_extract.proofs.interfaces.shown_of.Goals as goal

pub returns : goal.returns
returns c =
    let name = c.args.name.now in
    let first : c.min.result ≡ min shown_limit (length name) = omega arith in
    ap (λ (n : ℕ). take n name) first ∙ take_min shown_limit name
