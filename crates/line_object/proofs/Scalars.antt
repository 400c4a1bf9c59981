-- What scalars of JSON are read as.
use Rattle.std.proofs.Common.{◌≡◌, ℕ, List, true, Some, option_map, option_and_then, refl, sym, ap, ◌∙◌, arith}
use Rattle.json.specs.Json as json
use Rattle.json.specs.Find.{as_str, as_number, is_null}
use Rattle.serde_json.specs.Data.{Data, null, number, string, unsigned}
use Rattle.serde_json.specs.Read.{number_of}
use Rattle.line_object.specs.Inner.Reads.{Reads, IsNumber}

pub text_read : (j : json.Json) (s : List ℕ) → Some s ≡ as_str j → Reads j (string s) 0
text_read json.null s e = absurd (cc)
text_read (json.boolean b) s e = absurd (cc)
text_read (json.number t) s e = absurd (cc)
text_read (json.string t) s e = (sym (ap (option_map string) e), omega arith)
text_read (json.array js) s e = absurd (cc)
text_read (json.object ms) s e = absurd (cc)

pub null_read : (j : json.Json) → true ≡ is_null j → Reads j null 0
null_read json.null e = (refl, omega arith)
null_read (json.boolean b) e = absurd (cc)
null_read (json.number t) e = absurd (cc)
null_read (json.string t) e = absurd (cc)
null_read (json.array js) e = absurd (cc)
null_read (json.object ms) e = absurd (cc)

pub number_read : (j : json.Json) (s : List ℕ) (d : Data) → Some s ≡ as_number j → IsNumber (number_of s) d → Reads j d 0
number_read json.null s d e of = absurd (cc)
number_read (json.boolean b) s d e of = absurd (cc)
number_read (json.number t) s d e of = (sym (ap (λ o. option_map number (option_and_then number_of o)) e) ∙ of, omega arith)
number_read (json.string t) s d e of = absurd (cc)
number_read (json.array js) s d e of = absurd (cc)
number_read (json.object ms) s d e of = absurd (cc)

pub item_read : (j : json.Json) (s : List ℕ) (n : ℕ) → Some s ≡ as_number j → number_of s ≡ Some (unsigned n) → Reads j (number (unsigned n)) 0
item_read j s n e of = number_read j s (number (unsigned n)) e (ap (option_map number) of)

pub deeper : (j : json.Json) (d : Data) → Reads j d 0 → Reads j d 1
deeper j d reads = (reads.0, omega (arith, reads.1))
