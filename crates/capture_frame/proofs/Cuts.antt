-- Octets that are cut in two.
use Rattle.std.proofs.Common.{◌≡◌, ◌∙◌, ℕ, ◌≤◌, List, ◌++◌, length, take, drop, refl, sym, ap, arith, length-append}
use Rattle.std.proofs.lemmas.List.{take_at, drop_at}

-- at one place there is one cut
pub one_cut : (h b h' b' : List ℕ) → h ++ b ≡ h' ++ b' → length h ≡ length h' → (h ≡ h') × (b ≡ b')
one_cut h b h' b' e l = (
  sym (take_at h b (length h) refl) ∙ ap (take (length h)) e ∙ take_at h' b' (length h) (sym l),
  sym (drop_at h b (length h) refl) ∙ ap (drop (length h)) e ∙ drop_at h' b' (length h) (sym l),
)

-- a front is no longer than the whole
pub front_within : (octets h b : List ℕ) → octets ≡ h ++ b → length h ≤ length octets
front_within octets h b e = omega (arith, ap (length {A = ℕ}) e, length-append h b)
