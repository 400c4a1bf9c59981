-- Who else sent messages, in words.
use Rattle.std.specs.Prelude.{ℕ, nat_lt, ◌==◌, if◌then◌else◌, List, [], ◌∷◌, ◌++◌, codes, map, flat_map, filter, take, drop, sum_by}
use Rattle.std.specs.Prelude.{Option, option_map}
use Rattle.std.specs.List.{enumerate_from, filter_map}
use Rattle.std.specs.Fmt.{decimal}
use Rattle.datagram_text.specs.Shown.{identity_text}
use Rattle.statistics.specs.Wide.{at_most}
use Rattle.recording_summary.specs.Bewares.{is_anybody}
use Rattle.recording_summary.specs.declared.others.Sender.{Sender}
use Rattle.recording_summary.specs.declared.others.Senders.{Senders}
use Rattle.recording_words.specs.declared.others.Caller.{Caller}
use Rattle.recording_words.specs.declared.others.Caller.TheVariants.{Master, Slave}

-- ---- lists
-- parts, each but the first behind a comma
abbrev pub parted : List (List ℕ) → List ℕ
parted [] = []
parted (first ∷ further) = first ++ flat_map (λ part. codes ", " ++ part) further

-- so many messages are of further ones, if any are
unfoldable pub further_text : (rest : ℕ) → List ℕ
further_text rest = if rest == 0 then [] else codes ", " ++ (decimal rest ++ codes " of further ones")

-- ---- ports
-- a port, and how many messages it sent
unfoldable pub sender_text : Sender → List ℕ
sender_text s = decimal s.count ++ (codes " of " ++ identity_text s.port)

-- the ports that are listed by themselves
abbrev pub listed_parts : List (Option Sender) → List (List ℕ)
listed_parts listed = filter_map (option_map sender_text) listed

-- these, and how many messages all others sent
unfoldable pub senders_text : Senders → List ℕ
senders_text s = parted (listed_parts s.listed) ++ further_text s.rest

-- ---- domains
-- the domains that messages are of, the lowest first, each with how many
abbrev pub counted : (counts : List ℕ) → List (ℕ × ℕ)
counted counts = filter (λ domain. nat_lt 0 domain.1) (enumerate_from 0 counts)

-- a domain, and how many messages are of it
unfoldable pub domain_text : ℕ × ℕ → List ℕ
domain_text domain = decimal domain.1 ++ (codes " of domain " ++ decimal domain.0)

-- the lowest eight of them
abbrev pub lowest : (counts : List ℕ) → List (ℕ × ℕ)
lowest counts = take 8 (counted counts)

-- these, in words
abbrev pub named_parts : (counts : List ℕ) → List (List ℕ)
named_parts counts = map domain_text (lowest counts)

-- how many messages are of all others together, as far as is counted
abbrev pub unnamed : (counts : List ℕ) → ℕ
unnamed counts = at_most (sum_by (λ domain. domain.1) (drop 8 (counted counts)))

-- those eight, and how many messages are of all others together
unfoldable pub domains_text : (counts : List ℕ) → List ℕ
domains_text counts = parted (named_parts counts) ++ further_text (unnamed counts)

-- ---- who sent messages while it wasn't known whom to watch
-- what these send
unfoldable pub call_name : Caller → List ℕ
call_name Master = codes "Sync"
call_name Slave = codes "Delay_Req"

-- who sent them, or that nobody did
unfoldable pub callers_text : Caller → Senders → List ℕ
callers_text caller s =
    if is_anybody s then codes "ptpx: " ++ (call_name caller ++ (codes "s of others: " ++ (senders_text s ++ codes "\n")))
    else codes "ptpx: nobody sent a " ++ (call_name caller ++ codes "\n")
