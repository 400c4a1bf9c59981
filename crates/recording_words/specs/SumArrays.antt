-- Arrays of the sums in JSON: who else is there, and what speaks against the numbers.
use Rattle.std.specs.Prelude.{ℕ, ◌==◌, if◌then◌else◌, List, ◌++◌, codes, Option, Some, None, option_map}
use Rattle.std.specs.List.{enumerate_from, filter_map, join_by}
use Rattle.std.specs.Option.{option_to_list}
use Rattle.std.specs.Fmt.{decimal}
use Rattle.datagram_text.specs.Shown.{identity_text}
use Rattle.recording_summary.specs.declared.beware.Beware.{Beware}
use Rattle.recording_summary.specs.declared.others.Sender.{Sender}
use Rattle.recording_summary.specs.declared.others.Senders.{Senders}
use Rattle.recording_words.specs.BewareNames.{name_text}
use Rattle.recording_words.specs.SumValues.{quoted}

-- elements with commas between them
abbrev pub parted : List (List ℕ) → List ℕ
parted elements = join_by (λ element. element) (codes ",") elements

-- an array of these
abbrev pub array_text : List (List ℕ) → List ℕ
array_text elements = codes "[" ++ (parted elements ++ codes "]")

-- how many messages a port sent
unfoldable pub sender_text : Sender → List ℕ
sender_text s = codes "{\"messages\":" ++ (decimal s.count ++ (codes ",\"port\":\"" ++ (identity_text s.port ++ codes "\"}")))

-- how many messages all other ports sent
unfoldable pub rest_text : (count : ℕ) → List ℕ
rest_text count = codes "{\"messages\":" ++ (decimal count ++ codes ",\"port\":null}")

-- these, if they sent any
abbrev pub rest_element : (count : ℕ) → Option (List ℕ)
rest_element count = if count == 0 then None else Some (rest_text count)

-- the ports that are listed by themselves
abbrev pub listed_elements : List (Option Sender) → List (List ℕ)
listed_elements listed = filter_map (option_map sender_text) listed

-- how many messages other ports sent
unfoldable pub senders_text : Senders → List ℕ
senders_text s = array_text (listed_elements s.listed ++ option_to_list (rest_element s.rest))

-- how many messages are of a domain
unfoldable pub domain_text : (domain count : ℕ) → List ℕ
domain_text domain count = codes "{\"domain\":" ++ (decimal domain ++ (codes ",\"messages\":" ++ (decimal count ++ codes "}")))

-- a domain, if any messages are of it
abbrev pub domain_element : (domain count : ℕ) → Option (List ℕ)
domain_element domain count = if count == 0 then None else Some (domain_text domain count)

-- all domains that messages are of
abbrev pub domain_elements : List (ℕ × ℕ) → List (List ℕ)
domain_elements counted = filter_map (λ x. domain_element x.0 x.1) counted

-- how many messages are of each other domain, of which any are
unfoldable pub domains_text : (counts : List ℕ) → List ℕ
domains_text counts = array_text (domain_elements (enumerate_from 0 counts))

-- the name of what speaks against the numbers
unfoldable pub beware_text : Beware → List ℕ
beware_text beware = quoted (name_text beware)

-- all that do
abbrev pub beware_elements : List (Option Beware) → List (List ℕ)
beware_elements bewares = filter_map (option_map beware_text) bewares

-- all that speaks against the numbers, by its names
unfoldable pub bewares_text : List (Option Beware) → List ℕ
bewares_text bewares = array_text (beware_elements bewares)
