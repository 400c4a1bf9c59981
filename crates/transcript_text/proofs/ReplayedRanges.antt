-- All that `replay` reads is within its ranges, so what it writes is accepted.
use Rattle.std.proofs.Common.{◌≡◌, ◌∙◌, ℕ, ◌+◌, ◌≤◌, Bool, true, false, nat_lt, List, [], ◌∷◌, ◌++◌, length, Option}
use Rattle.std.proofs.Common.{Some, None, IfSome, Ok, Err, refl, ap, subst, arith, map, All, length-append}
use Rattle.std.proofs.Common.{if◌then◌else◌}
use Rattle.std.specs.Prelude.{ok_or, reverse}
use Rattle.std.proofs.lemmas.Bool.Decides.{nat_tests}
use Rattle.std.proofs.lemmas.List.{length-map, length-reverse, map-append, reverse-append}
use Rattle.std.proofs.lemmas.List.Elements.{All-nil, All-cons, All-head, All-tail}
use Rattle.serde_json.specs.Data.{Data}
use Rattle.network_model.specs.Network.{Network}
use Rattle.network_model.specs.Run.{Run}
use Rattle.network_model.specs.Premises.{Premise}
use Rattle.trace_model.specs.Complete.{MissesNothing}
use Rattle.schedule_lines.specs.declared.reading.schedule.Line.{Line}
use Rattle.schedule_lines.specs.Line.{line_of}
use Rattle.schedule_lines.specs.Ranges.{IsNode, IsEvent, IsLine}
use Rattle.schedule_lines.proofs.Ranges.{reads_in_range}
use Rattle.schedule_reading.specs.declared.fault.TaskFault.{TaskFault}
use Rattle.schedule_reading.specs.declared.fault.TaskFault.TheVariants.{Field}
use Rattle.schedule_reading.specs.Entry.{read_by}
use Rattle.schedule_lines.specs.Json.{value_in}
use Rattle.transcript_text.proofs.Entries.{AreEntries, schedule_of}
use Rattle.transcript_text.specs.Accepted.{IsInRange, EachReplayIsAccepted}
use Rattle.network_model.proofs.ExactPremises.{IsExact}
use Rattle.transcript_text.proofs.OneTranscript.{accepted_by, checked_by}
use Rattle.text_lines.specs.declared.fault.ReadingFault.TheVariants.{TooManyLines, LineTooLong}
use Rattle.text_lines.specs.Lines.{lines_of, line_limit, without_cr, lines_limit}
use Rattle.transcript_text.specs.CheckText.{ChecksAll, ChecksUntil}
use Rattle.transcript_text.proofs.Replayed.{replayed}
use Rattle.schedule_lines.specs.declared.reading.schedule.Line.TheVariants as entries

-- ---- what was read

line_ranged : (o : Option Line) (entry : Line) → ok_or {E = TaskFault} o Field ≡ Ok entry → IfSome o IsLine → IsLine entry
line_ranged None entry is h = absurd cc
line_ranged (Some line) entry is h = let same : line ≡ entry = cc in subst IsLine same h

value_ranged : (value : Option Data) (entry : Line) → read_by line_of value ≡ Ok entry → IsLine entry
value_ranged None entry is = absurd cc
value_ranged (Some value) entry is = line_ranged (line_of value) entry is (reads_in_range value).0

entries_ranged : (number : ℕ) (lines : List (List ℕ)) (es : List Line) → AreEntries number lines es → All IsLine es
entries_ranged number [] [] h = All-nil IsLine
entries_ranged number [] (e ∷ es) h = absurd h
entries_ranged number (line ∷ lines) [] h = absurd h
entries_ranged number (line ∷ lines) (e ∷ es) h =
    All-cons IsLine e es (value_ranged (value_in (without_cr line)) e h.1) (entries_ranged (number + 1) lines es h.2)

-- ---- how many lines there are

fault_if : (over : Bool) (number : ℕ) (line : List ℕ) → nat_lt lines_limit number ≡ over
    → (if over then Some TooManyLines else if nat_lt line_limit (length line) then Some LineTooLong else None) ≡ None → number ≤ lines_limit
fault_if true number line is none = absurd cc
fault_if false number line is none = grind (arith, nat_tests, is)

few_entries : (number : ℕ) (lines : List (List ℕ)) (es : List Line) → AreEntries number lines es → number ≤ lines_limit + 1 → number + length es ≤ lines_limit + 1
few_entries number [] [] h few = omega (arith, few)
few_entries number [] (e ∷ es) h few = absurd h
few_entries number (line ∷ lines) [] h few = absurd h
few_entries number (line ∷ lines) (e ∷ es) h few =
    let within : number ≤ lines_limit = fault_if (nat_lt lines_limit number) number line refl h.0 in
    omega (arith, few_entries (number + 1) lines es h.2 (omega (arith, within)))

-- ---- the nodes and the events

front : (xs ys : List Line) → All IsLine (xs ++ ys) → All IsLine xs
front [] ys h = All-nil IsLine
front (x ∷ xs) ys h = All-cons IsLine x xs (All-head IsLine x (xs ++ ys) h) (front xs ys (All-tail IsLine x (xs ++ ys) h))

back : (xs ys : List Line) → All IsLine (xs ++ ys) → All IsLine ys
back [] ys h = h
back (x ∷ xs) ys h = back xs ys (All-tail IsLine x (xs ++ ys) h)

each_node : (nodes : Network) → All IsLine (map entries.Node nodes) → All IsNode nodes
each_node [] h = All-nil IsNode
each_node (node ∷ nodes) h =
    All-cons IsNode node nodes (All-head IsLine (entries.Node node) (map entries.Node nodes) h) (each_node nodes (All-tail IsLine (entries.Node node) (map entries.Node nodes) h))

each_event : (run : Run) → All IsLine (map entries.Event (reverse run)) → All IsEvent run
each_event [] h = All-nil IsEvent
each_event (event ∷ earlier) h =
    let turned : map entries.Event (reverse (event ∷ earlier)) ≡ map entries.Event (reverse earlier) ++ entries.Event event ∷ [] =
    ap (map entries.Event) (reverse-append (event ∷ []) earlier) ∙ map-append entries.Event (reverse earlier) (event ∷ []) in
    let parts = subst (λ (es : List Line). All IsLine es) turned h in
    All-cons IsEvent event earlier
    (All-head IsLine (entries.Event event) [] (back (map entries.Event (reverse earlier)) (entries.Event event ∷ []) parts))
    (each_event earlier (front (map entries.Event (reverse earlier)) (entries.Event event ∷ []) parts))

scheduled : (nodes : Network) (run : Run) → length (schedule_of nodes run) ≡ length nodes + length run
scheduled nodes run =
    omega (arith, length-append (map entries.Node nodes) (map entries.Event (reverse run)), length-map nodes entries.Node, length-map (reverse run) entries.Event, length-reverse run)

-- the nodes and the run of a schedule that was read
pub ranged : (octets : List ℕ) (nodes : Network) (run : Run) → AreEntries 1 (lines_of octets) (schedule_of nodes run) → IsInRange nodes run
ranged octets nodes run h =
    let all = entries_ranged 1 (lines_of octets) (schedule_of nodes run) h in
    record {
      each_node = each_node nodes (front (map entries.Node nodes) (map entries.Event (reverse run)) all);
      each_event = each_event run (back (map entries.Node nodes) (map entries.Event (reverse run)) all);
      few = omega (arith, few_entries 1 (lines_of octets) (schedule_of nodes run) h (omega arith), scheduled nodes run);
    }

-- what was replayed is accepted
pub replay_accepted : (premise : Premise) → IsExact premise → MissesNothing premise → EachReplayIsAccepted premise
replay_accepted premise exact misses octets left before after events r holds left' before' after' (Ok answer) checks =
    let is = replayed octets left before after events r in
    accepted_by premise exact misses r.state.network r.state.run is.text left' before' after' answer holds (ranged octets r.state.network r.state.run is.schedule) is.transcript
    (subst (λ (t : List ℕ). ChecksAll t left' before' after' answer) is.whole checks)
replay_accepted premise exact misses octets left before after events r holds left' before' after' (Err stop) checks =
    let is = replayed octets left before after events r in
    checked_by premise exact r.state.network r.state.run is.text left' before' after' stop r.ends.0 holds (ranged octets r.state.network r.state.run is.schedule) is.transcript
    (subst (λ (t : List ℕ). ChecksUntil t left' before' after' stop) is.whole checks)
