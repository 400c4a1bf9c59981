use Rattle.std.proofs.Common.{◌≡◌, ◌∙◌, ◌++◌, ℕ, List, Option, sym, ap, append_assoc}
use Rattle.std.specs.Option.{option_map_or}
use Rattle.std.specs.String.{string_bytes}
use Rattle.std.proofs.lemmas.Result.{IfOk-equal}
use Rattle.result_audit.specs.declared.answer.Found.{Found}
use Rattle.result_audit.specs.Lines.{json_front, json_middle, json_tags, json_end, json_unfound}
use Rattle.result_audit.proofs.lines.push_json.Goals as goal

-- four texts, one behind the other
four_parts : (text a b c d front middle tags : List ℕ) → front ≡ text ++ a → middle ≡ front ++ b → tags ≡ middle ++ c
    → tags ++ d ≡ text ++ (a ++ (b ++ (c ++ d)))
four_parts text a b c d front middle tags first second third =
    rw (third, second, first) (simp append_assoc)

pub returns-in_ok-push_json_tags-in-Some : goal.returns-in_ok-push_json_tags-in-Some
returns-in_ok-push_json_tags-in-Some c =
    let told = c.args.answer.now.told in
    let found : Found = c.in-Some.found in
    IfOk-equal c.push_json_end.result _ _ _ c.push_json_end.ensures
    (four_parts (string_bytes c.args.text.now) (json_front told found) (json_middle told found) (json_tags found.at.report)
    (json_end c.args.answer.now found) _ _ _ c.in_ok-push_json_front-in-Some.ensures c.in_ok-push_json_middle-in-Some.ensures
    c.in_ok-push_json_tags-in-Some.ensures
    ∙ ap (λ (it : Option Found). string_bytes c.args.text.now
    ++ option_map_or (λ (f : Found). json_front told f ++ (json_middle told f ++ (json_tags f.at.report ++ json_end c.args.answer.now f))) it (json_unfound c.args.answer.now))
    (sym c.in-Some.is))
