-- A text that nests little is read alike by both grammars.
use Rattle.std.proofs.Common.{append-nil, ◌≡◌, ℕ, List, [], Some, option_and_then, sym, ap, ◌∙◌, arith}
use Rattle.json.specs.Json.{Json, value, document, if_last}
use Rattle.json.specs.Tree.{json_tokens}
use Rattle.json.proofs.Printed.Trees.{value-json_tokens}
use Rattle.json.proofs.Unique.Spelling.{tokens-document}
use Rattle.serde_json.specs.Data.{Data}
use Rattle.serde_json.specs.Read.{of_json, read, max_depth}
use Rattle.line_object.specs.Inner.Reads.{Reads}

pub read_alike : (text : List ℕ) (j : Json) (d : Data) → document text ≡ Some j → Reads j d 2 → read text ≡ Some d
read_alike text j d is reads =
    ap (λ ts. option_and_then of_json (option_and_then (λ p. if_last p.0 p.1) (value max_depth ts))) (tokens-document text j is ∙ sym (append-nil (json_tokens j)))
    ∙ ap (λ o. option_and_then of_json (option_and_then (λ p. if_last p.0 p.1) o)) (value-json_tokens j max_depth [] (omega (arith, reads.1)))
    ∙ reads.0
