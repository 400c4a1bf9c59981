use Rattle.std.proofs.Common.{◌≡◌, ℕ, ◌-◌, List, ◌++◌, rules, length, take, drop, sym, ap, ◌∙◌, append_assoc, take-append-drop}
use Rattle.std.proofs.lemmas.List.{take_rest}
use Rattle.std.proofs.KnownBytes.{Appends-trans}
use Rattle.text_lines.proofs.counted.CountedWrite.write_all.Goals as goal

-- what was taken from the front of the rest goes to the end of what is done
moves_front : (all done rest : List ℕ) (n : ℕ) → all ≡ done ++ rest → all ≡ (done ++ take n rest) ++ take (length rest - n) (drop n rest)
moves_front all done rest n e =
    e ∙ ap (λ l. done ++ l) (sym (take-append-drop n rest)) ∙ sym (append_assoc done (take n rest) (drop n rest)) ∙ ap (λ l. (done ++ take n rest) ++ l) (sym (take_rest rest n))

pub loop-rest-preserved : goal.loop-rest-preserved
loop-rest-preserved g c =
    let (done, split, appended, count, given, unread) = c.loop-rest.invariant in
    let taken = c.in_ok-taken.taken in (
      done ++ take taken c.loop-rest.rest.now,
      moves_front _ done c.loop-rest.rest.now taken split,
      Appends-trans _ _ _ _ _ appended c.in_ok-taken.ensures.bytes,
      search rules,
      search rules,
      search rules,
    )
