use Rattle.std.proofs.Common.{◌≡◌, All, take}
use Rattle.line_object.specs.Key.{key_text}
use Rattle.explain_flaws.proofs.search.is_among.Given as goal

abbrev pub invariant-loop-key : goal.invariant-loop-key
invariant-loop-key l = All (λ key. key_text key ≡ l.name → ⊥) (take l.key-index l.keys)
