-- Those that are held, one after the other, and those that wait.
use Rattle.std.proofs.Common.{arith, ◌≡◌, ◌∙◌, ◌<◌, ◌+◌, ◌++◌, ℕ, zero, suc, List, [], ◌∷◌, length, map, take, drop, Option, Some, None, refl, ap, append_assoc}
use Rattle.recording_lines.specs.declared.measurement.Half.{Half}
use Rattle.result_audit.specs.declared.course.Gap.{Gap}
use Rattle.result_audit.specs.declared.held.Held.{Held}
use Rattle.result_audit.specs.declared.told.Told.{Told}
use Rattle.result_audit.specs.Held.{learned}
use Rattle.result_audit.specs.Auditor.{Auditing, settled, held_now, settled_from, settled_with, with_judged}
use Rattle.result_audit.specs.Inner.Turning.{turned}

-- so many of them learned, and are the last
abbrev pub turned_by : Half → Gap → ℕ → List Held → List Held
turned_by half gap count held = drop count held ++ map (learned half gap) (take count held)

turn-behind : (half : Half) (gap : Gap) (count : ℕ) (held done : List Held) → count < length held
    → turned half gap (drop count held ++ done) ≡ (drop (suc count) held ++ done) ++ map (learned half gap) (take 1 (drop count held))
turn-behind half gap zero [] done within = absurd (omega arith)
turn-behind half gap (suc count) [] done within = absurd (omega arith)
turn-behind half gap zero (one ∷ others) done within = refl
turn-behind half gap (suc count) (one ∷ others) done within = turn-behind half gap count others done (omega arith)

map-take : (half : Half) (gap : Gap) (count : ℕ) (held : List Held) → count < length held
    → map (learned half gap) (take count held) ++ map (learned half gap) (take 1 (drop count held))
    ≡ map (learned half gap) (take (suc count) held)
map-take half gap zero [] within = absurd (omega arith)
map-take half gap (suc count) [] within = absurd (omega arith)
map-take half gap zero (one ∷ others) within = refl
map-take half gap (suc count) (one ∷ others) within =
    ap (λ (them : List Held). learned half gap one ∷ them) (map-take half gap count others (omega arith))

-- one more of them
pub turned_by-one : (half : Half) (gap : Gap) (count : ℕ) (held : List Held) → count < length held
    → turned half gap (turned_by half gap count held) ≡ turned_by half gap (count + 1) held
turned_by-one half gap count held within =
    let next : suc count ≡ count + 1 = omega arith in
    turn-behind half gap count held (map (learned half gap) (take count held)) within
    ∙ append_assoc (drop (suc count) held) (map (learned half gap) (take count held)) (map (learned half gap) (take 1 (drop count held)))
    ∙ ap (λ (them : List Held). drop (suc count) held ++ them) (map-take half gap count held within)
    ∙ ap (λ (n : ℕ). turned_by half gap n held) next

-- ---- what settling leaves
-- none waits: nothing changes
pub settled-empty : (a : Auditing) → a.awaiting ≡ [] → settled a ≡ a
unfolding settled_from
settled-empty a none = ap (λ (them : List Told). settled_from them a) none

-- the first waits on: nothing changes
pub settled-waits : (a : Auditing) (told : Told) (others : List Told) → a.awaiting ≡ told ∷ others → held_now a told ≡ None → settled a ≡ a
unfolding settled_from
settled-waits a told others are later = ap (λ (them : List Told). settled_from them a) are
    ∙ ap (λ (one : Option Held). settled_with one others (settled_from others) a) later

-- the first is judged: what is left comes to the same
pub settled-judged : (a : Auditing) (told : Told) (others : List Told) (one : Held) → a.awaiting ≡ told ∷ others → held_now a told ≡ Some one
    → settled a ≡ settled (with_judged one (record a { awaiting = others }))
unfolding settled_from
settled-judged a told others one are is = ap (λ (them : List Told). settled_from them a) are
    ∙ ap (λ (it : Option Held). settled_with it others (settled_from others) a) is

-- nothing is left of what loses its first and stays the same
pub nothing_left : {X : Type 0} (xs : List X) → xs ≡ drop 1 xs → xs ≡ []
nothing_left [] same = refl
nothing_left (x ∷ xs) same = let shorter : suc (length xs) ≡ length xs = ap length same in absurd (omega arith)
