use Rattle.std.proofs.Common.{◌≡◌, ◌∙◌, ℕ, ◌+◌, ◌<◌, ◌≤◌, List, [], ◌∷◌, ◌++◌, length, take, drop, set, Option, None, sym, ap, subst, add-one, arith, length-append, length-drop}
use Rattle.std.specs.Prelude.{option_map, option_and_then, nat_le, true, Bool, if◌then◌else◌}
use Rattle.std.proofs.Math.Seq.{take-append_seam, take-suc-set}
use Rattle.std.proofs.lemmas.Bool.Decides.{nat_tests}
use Rattle.recording_lines.specs.Timed.{parts_of, timed_in}
use Rattle.recording_lines.specs.declared.timed.Timed.{Timed}
use Rattle.command_line.specs.Limit.{limit_of, time_alone}
use Rattle.command_line.proofs.limit.limit_in.Goals as goal

abbrev room : List ℕ
room = 0 ∷ 0 ∷ 0 ∷ 0 ∷ 0 ∷ 0 ∷ 0 ∷ 0 ∷ 0 ∷ 0 ∷ 0 ∷ 0 ∷ 0 ∷ 0 ∷ 0 ∷ 0 ∷ 0 ∷ 0 ∷ 0 ∷ 0 ∷ 0 ∷ 0 ∷ 0 ∷ 0 ∷ 0 ∷ 0 ∷ []

-- the line that a text and a blank are
line_is : (text copied : List ℕ) → copied ≡ text → length text ≤ 25
    → take (length text + 1) (set (copied ++ drop (length text) room) (length text) 32) ≡ text ++ 32 ∷ []
line_is text copied same few =
    let whole : length text < length (text ++ drop (length text) room) =
    simp (length-append text (drop (length text) room), length-drop (length text) room) (omega arith) in
    subst (λ (c : List ℕ). take (length text + 1) (set (c ++ drop (length text) room) (length text) 32) ≡ text ++ 32 ∷ []) (sym same)
    (rw add-one (take-suc-set (text ++ drop (length text) room) (length text) 32 whole
    ∙ ap (λ (t : List ℕ). t ++ 32 ∷ []) (take-append_seam text (drop (length text) room))))

fits : (n : ℕ) → n ≤ 25 → nat_le n 25 ≡ true
fits n less = grind (arith, nat_tests)

-- what is read of that line
read : (text line : List ℕ) (r : Option Timed) → length text ≤ 25 → line ≡ text ++ 32 ∷ [] → option_map parts_of r ≡ timed_in line
    → option_and_then time_alone (option_map parts_of r) ≡ limit_of text
read text line r few is told =
    ap (option_and_then time_alone) (told ∙ ap timed_in is)
    ∙ ap (λ (b : Bool). if b then option_and_then time_alone (timed_in (text ++ 32 ∷ [])) else None) (sym (fits (length text) few))

pub returns-in-Some : goal.returns-in-Some
returns-in-Some c =
    let octets = c.as_bytes-octets.result.now in
    let few : length octets ≤ 25 = omega arith in
    c.time_alone.ensures
    ∙ ap (λ (r : Option Timed). option_and_then time_alone (option_map parts_of r)) (sym c.in-Some.is)
    ∙ read octets _ c.read_timed.result few (line_is octets c.copy_from_slice.new.self c.copy_from_slice.ensures.after few)
    c.read_timed.ensures
    ∙ ap limit_of c.as_bytes-octets.ensures.value

pub returns-in-None : goal.returns-in-None
returns-in-None c =
    let octets = c.as_bytes-octets.result.now in
    let few : length octets ≤ 25 = omega arith in
    ap (λ (r : Option Timed). option_and_then time_alone (option_map parts_of r)) (sym c.in-None.is)
    ∙ read octets _ c.read_timed.result few (line_is octets c.copy_from_slice.new.self c.copy_from_slice.ensures.after few)
    c.read_timed.ensures
    ∙ ap limit_of c.as_bytes-octets.ensures.value
