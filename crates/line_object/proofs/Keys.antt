-- A key is known by its place, and by its text.
use Rattle.std.proofs.Common.{◌≡◌, ℕ, List, codes, bytes_eq, ◌==◌, true, if◌then◌else◌, Option, Some, None, refl, sym, ap, ◌∙◌}
use Rattle.std.proofs.lemmas.Bool.{eqb-true}
use Rattle.line_object.specs.declared.key.Key.{Key}
use Rattle.line_object.specs.declared.key.Key.TheVariants.{At, Code, CopyTag, Diff, Domain, Ev, First}
use Rattle.line_object.specs.declared.key.Key.TheVariants.{Hex, Id, Kind, Log, Master, Number, Node}
use Rattle.line_object.specs.declared.key.Key.TheVariants.{Offset2, Out, Path2, Port, Reading, Tags, TransitTag}
use Rattle.line_object.specs.Key.{key_text}
use Rattle.line_object.specs.Inner.Apart.{key_place, same_key}

-- the key that a text is
abbrev key_of : List ℕ → Option Key
key_of text =
    if bytes_eq text (codes "at") then Some At
    else if bytes_eq text (codes "code") then Some Code
    else if bytes_eq text (codes "copy") then Some CopyTag
    else if bytes_eq text (codes "diff") then Some Diff
    else if bytes_eq text (codes "domain") then Some Domain
    else if bytes_eq text (codes "ev") then Some Ev
    else if bytes_eq text (codes "first") then Some First
    else if bytes_eq text (codes "hex") then Some Hex
    else if bytes_eq text (codes "id") then Some Id
    else if bytes_eq text (codes "kind") then Some Kind
    else if bytes_eq text (codes "log") then Some Log
    else if bytes_eq text (codes "master") then Some Master
    else if bytes_eq text (codes "n") then Some Number
    else if bytes_eq text (codes "node") then Some Node
    else if bytes_eq text (codes "offset2") then Some Offset2
    else if bytes_eq text (codes "out") then Some Out
    else if bytes_eq text (codes "path2") then Some Path2
    else if bytes_eq text (codes "port") then Some Port
    else if bytes_eq text (codes "reading") then Some Reading
    else if bytes_eq text (codes "tags") then Some Tags
    else if bytes_eq text (codes "transit") then Some TransitTag
    else None

-- the key at a place
abbrev key_at : ℕ → Key
key_at n =
    if n == 0 then At
    else if n == 1 then Code
    else if n == 2 then CopyTag
    else if n == 3 then Diff
    else if n == 4 then Domain
    else if n == 5 then Ev
    else if n == 6 then First
    else if n == 7 then Hex
    else if n == 8 then Id
    else if n == 9 then Kind
    else if n == 10 then Log
    else if n == 11 then Master
    else if n == 12 then Number
    else if n == 13 then Node
    else if n == 14 then Offset2
    else if n == 15 then Out
    else if n == 16 then Path2
    else if n == 17 then Port
    else if n == 18 then Reading
    else if n == 19 then Tags
    else TransitTag

at_place : (k : Key) → key_at (key_place k) ≡ k
at_place At = refl
at_place _ = refl

of_text : (k : Key) → key_of (key_text k) ≡ Some k
of_text At = refl
of_text _ = refl

abbrev pick : Key → Option Key → Key
pick a None = a
pick a (Some b) = b

pub one_key : (a b : Key) → same_key a b ≡ true → a ≡ b
one_key a b e = sym (at_place a) ∙ ap key_at (eqb-true (key_place a) (key_place b) e) ∙ at_place b

pub one_text : (a b : Key) → key_text a ≡ key_text b → a ≡ b
one_text a b e = ap (pick a) (sym (of_text a) ∙ ap key_of e ∙ of_text b)

pub same_itself : (k : Key) → same_key k k ≡ true
same_itself At = refl
same_itself _ = refl
