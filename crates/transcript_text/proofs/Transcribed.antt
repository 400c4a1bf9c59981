-- What is written of nodes and of a run is a transcript that tells the run.
use Rattle.std.proofs.Common.{◌≡◌, ◌≢◌, ◌∙◌, ℕ, zero, suc, ◌+◌, ◌-◌, ◌^◌, ◌<◌, ◌≤◌, ◌==◌, Bool, true, false, ◌&&◌, nat_lt, List, [], ◌∷◌, ◌++◌, length, slice_index, Option, Some, None, Ok, refl, sym, ap, subst, arith, append_assoc, append-nil, map, All, if◌then◌else◌}
use Rattle.std.specs.Prelude.{ok_or, take}
use Rattle.std.specs.List.{list_all}
use Rattle.std.specs.Str.{IsAscii}
use Rattle.std.specs.Io.BufRead.{ends_with_byte}
use Rattle.std.proofs.lemmas.Bool.{and_parts}
use Rattle.std.proofs.lemmas.Bool.Decides.{nat_tests}
use Rattle.std.proofs.lemmas.List.Elements.{All-nil, All-cons, All-head, All-tail}
use Rattle.std.proofs.lemmas.Str.{IsUtf8-from_ascii}
use Rattle.serde_json.specs.Data.{Data}
use Rattle.serde_json.specs.Read.{read}
use Rattle.serde_json.specs.Written.{compact_text}
use Rattle.network_model.specs.Network.{Network}
use Rattle.network_model.specs.Run.{Run}
use Rattle.network_model.specs.Premises.{Premise}
use Rattle.trace_model.specs.declared.line.TraceLine.{TraceLine}
use Rattle.trace_model.specs.Line.{Lines}
use Rattle.trace_model.specs.Told.{TellsRun}
use Rattle.schedule_lines.specs.declared.reading.transcript.TranscriptLine.{TranscriptLine}
use Rattle.schedule_lines.specs.declared.reading.transcript.TranscriptLine.TheVariants as recorded
use Rattle.schedule_lines.specs.TranscriptLine.{transcript_line_of}
use Rattle.schedule_lines.specs.Written.{node_data, event_data, line_text}
use Rattle.schedule_lines.specs.Ranges.{IsNode, IsEvent, IsRecorded, IsTagged}
use Rattle.schedule_lines.proofs.Nodes.{nodes_back}
use Rattle.schedule_lines.proofs.Printed.{event_texts_back, node_texts_back}
use Rattle.schedule_lines.proofs.ReadBack.{reads_back}
use Rattle.schedule_reading.specs.declared.fault.TaskFault.{TaskFault}
use Rattle.schedule_reading.specs.declared.fault.TaskFault.TheVariants.{Field}
use Rattle.text_lines.specs.Lines.{lines_of, without_cr, line_limit, reading_fault, lines_limit}
use Rattle.schedule_reading.specs.Entry.{read_by}
use Rattle.transcript_text.specs.Replay.{nodes_text, WritesRun}
use Rattle.schedule_reading.specs.Entry.{recorded_in}
use Rattle.transcript_text.specs.CheckText.{AreRecorded, numbered}
use Rattle.transcript_text.specs.Accepted.{EachRunIsTranscribed}
use Rattle.text_lines.specs.Inner.Reading.{IsUnended}
use Rattle.text_lines.proofs.Cutting.{lines_of-ended}
use Rattle.transcript_text.proofs.Entries.{value_read}
use Rattle.schedule_lines.proofs.ShownTexts.{is_shown, Fits}
use Rattle.schedule_lines.proofs.LineTexts.{event_fits, node_fits}
use Rattle.network_model.proofs.ExactPremises.{IsExact}
use Rattle.schedule_lines.proofs.ToldLines.{lines_recorded, lines_tagged}

-- ---- octets that are shown

bounds : (x : ℕ) → is_shown x ≡ true → (31 < x) × (x < 127)
bounds x shown =
    let parts : (nat_lt 31 x ≡ true) × (nat_lt x 127 ≡ true) = and_parts (nat_lt 31 x) (nat_lt x 127) shown in
    let low : 31 < x = grind (arith, nat_tests, parts.0) in
    let high : x < 127 = grind (arith, nat_tests, parts.1) in
    (low, high)

unended : (text : List ℕ) → list_all is_shown text ≡ true → IsUnended text
unended [] h = All-nil (λ y. y ≢ 10)
unended (x ∷ xs) h =
    let parts : (is_shown x ≡ true) × (list_all is_shown xs ≡ true) = and_parts (is_shown x) (list_all is_shown xs) h in
    let low = (bounds x parts.0).0 in
    let other : x ≢ 10 = λ same. omega (arith, same, low) in
    All-cons (λ y. y ≢ 10) x xs other (unended xs parts.1)

ascii : (text : List ℕ) → list_all is_shown text ≡ true → IsAscii text
ascii [] h zero = omega arith
ascii [] h (suc i) = omega arith
ascii (x ∷ xs) h zero =
    let high = (bounds x (and_parts (is_shown x) (list_all is_shown xs) h).0).1 in omega (arith, high)
ascii (x ∷ xs) h (suc i) = ascii xs (and_parts (is_shown x) (list_all is_shown xs) h).1 i

low_at : (text : List ℕ) (k : ℕ) → list_all is_shown text ≡ true → k < length text → 31 < slice_index text k
low_at [] k h within = absurd (omega arith)
low_at (x ∷ xs) zero h within = (bounds x (and_parts (is_shown x) (list_all is_shown xs) h).0).0
low_at (x ∷ xs) (suc k) h within = low_at xs k (and_parts (is_shown x) (list_all is_shown xs) h).1 (omega arith)

ends_otherwise : (text : List ℕ) → list_all is_shown text ≡ true → ends_with_byte 13 text ≡ false
ends_otherwise [] h = refl
ends_otherwise (x ∷ xs) h =
    let low = low_at (x ∷ xs) (length (x ∷ xs) - 1) h (omega arith) in
    let other : (slice_index (x ∷ xs) (length (x ∷ xs) - 1) == 13) ≡ false = grind (arith, nat_tests, low) in
    let some : nat_lt 0 (length (x ∷ xs)) ≡ true = grind (arith, nat_tests) in
    λ i. some i && other i

no_cr : (text : List ℕ) → list_all is_shown text ≡ true → without_cr text ≡ text
no_cr text h = ap (λ (b : Bool). if b then take (length text - 1) text else text) (ends_otherwise text h)

-- ---- a line

no_fault : (number : ℕ) (text : List ℕ) → number ≤ lines_limit → length text ≤ 4096 → reading_fault lines_limit number text ≡ None
no_fault number text few short =
    let a : nat_lt lines_limit number ≡ false = grind (arith, nat_tests, few) in
    let b : nat_lt line_limit (length text) ≡ false = grind (arith, nat_tests, short) in
    rw (a, b)

recorded_line : (d : Data) (entry : TranscriptLine) → list_all is_shown (compact_text d) ≡ true → read (compact_text d) ≡ Some d
    → transcript_line_of d ≡ Some entry → recorded_in (without_cr (compact_text d)) ≡ Ok entry
recorded_line d entry shown is_read is =
    ap recorded_in (no_cr (compact_text d) shown)
    ∙ ap (read_by transcript_line_of) (value_read (compact_text d) d (IsUtf8-from_ascii (compact_text d) (ascii (compact_text d) shown)) is_read)
    ∙ ap (λ (o : Option TranscriptLine). ok_or {E = TaskFault} o Field) is

-- a line more in front
one_line : (number : ℕ) (d : Data) (entry : TranscriptLine) (rest : List ℕ) (entries : List TranscriptLine) → Fits 4096 (compact_text d)
    → read (compact_text d) ≡ Some d → transcript_line_of d ≡ Some entry → number ≤ lines_limit → AreRecorded (number + 1) (lines_of rest) entries
    → AreRecorded number (lines_of (line_text d ++ rest)) (entry ∷ entries)
one_line number d entry rest entries fits is_read is few others =
    let cut : lines_of (line_text d ++ rest) ≡ compact_text d ∷ lines_of rest =
    ap lines_of (append_assoc (compact_text d) (10 ∷ []) rest) ∙ lines_of-ended (compact_text d) rest (unended (compact_text d) fits.shown) in
    subst (λ (lines : List (List ℕ)). AreRecorded number lines (entry ∷ entries)) (sym cut)
    (no_fault number (compact_text d) few fits.short, recorded_line d entry fits.shown is_read is, others)

-- ---- the lines of nodes

node_lines : (number : ℕ) (nodes : Network) (rest : List ℕ) (entries : List TranscriptLine) → All IsNode nodes → number + length nodes ≤ lines_limit + 1
    → AreRecorded (number + length nodes) (lines_of rest) entries → AreRecorded number (lines_of (nodes_text nodes ++ rest)) (map recorded.Node nodes ++ entries)
node_lines number [] rest entries ranges few others = subst (λ (n : ℕ). AreRecorded n (lines_of rest) entries) (omega arith) others
node_lines number (node ∷ nodes) rest entries ranges few others =
    let is : IsNode node = All-head IsNode node nodes ranges in
    let later = node_lines (number + 1) nodes rest entries (All-tail IsNode node nodes ranges) (omega (arith, few))
    (subst (λ (n : ℕ). AreRecorded n (lines_of rest) entries) (omega arith) others) in
    subst (λ (octets : List ℕ). AreRecorded number (lines_of octets) (recorded.Node node ∷ (map recorded.Node nodes ++ entries)))
    (sym (append_assoc (line_text (node_data node)) (nodes_text nodes) rest))
    (one_line number (node_data node) (recorded.Node node) (nodes_text nodes ++ rest) (map recorded.Node nodes ++ entries) (node_fits node is)
    (node_texts_back node is) (nodes_back node is).1 (omega (arith, few)) later)

-- ---- the lines of events

-- what the lines of a run tell
abbrev told_run : (nodes : Network) (run : Run) (text : List ℕ) → WritesRun nodes run text → Lines
told_run nodes [] text h = []
told_run nodes (event ∷ earlier) text h = h.3.recorded ∷ told_run nodes earlier h.0 h.2

told_tells : (nodes : Network) (run : Run) (text : List ℕ) (h : WritesRun nodes run text) → TellsRun nodes run (told_run nodes run text h)
told_tells nodes [] text h = tt
told_tells nodes (event ∷ earlier) text h = (h.3.told, told_tells nodes earlier h.0 h.2)

told_length : (nodes : Network) (run : Run) (text : List ℕ) (h : WritesRun nodes run text) → length (told_run nodes run text h) ≡ length run
told_length nodes [] text h = refl
told_length nodes (event ∷ earlier) text h = ap suc (told_length nodes earlier h.0 h.2)

module _ (premise : Premise) (exact : IsExact premise) where
  event_lines : (number : ℕ) (nodes : Network) (run : Run) (text rest : List ℕ) (entries : List TranscriptLine) → premise nodes run → All IsEvent run
      → (h : WritesRun nodes run text) → number + length run ≤ lines_limit + 1 → AreRecorded (number + length run) (lines_of rest) entries
      → AreRecorded number (lines_of (text ++ rest)) (numbered (told_run nodes run text h) ++ entries)
  event_lines number nodes [] text rest entries holds ranges h few others =
      subst (λ (octets : List ℕ). AreRecorded number (lines_of (octets ++ rest)) entries) (sym h)
      (subst (λ (n : ℕ). AreRecorded n (lines_of rest) entries) (omega arith) others)
  event_lines number nodes (event ∷ earlier) text rest entries holds ranges h few others =
      let before : List ℕ = h.0 in
      let line : TraceLine = h.3.recorded in
      let lines : Lines = told_run nodes earlier before h.2 in
      let small : length earlier < 2 ^ 64 = omega (arith, few) in
      let kept : IsRecorded line = lines_recorded premise exact nodes event earlier line holds (All-head IsEvent event earlier ranges) h.3.told in
      let tagged : IsTagged (length earlier) line = lines_tagged premise exact nodes event earlier line holds small h.3.told in
      let d : Data = event_data (length earlier) line in
      let one = one_line (number + length earlier) d (recorded.Event (length earlier) line) rest entries (event_fits (length earlier) line kept tagged)
      (event_texts_back (length earlier) line kept tagged) (reads_back (length earlier) line kept) (omega (arith, few))
      (subst (λ (n : ℕ). AreRecorded n (lines_of rest) entries) (omega arith) others) in
      let all = event_lines number nodes earlier before (line_text d ++ rest) (recorded.Event (length earlier) line ∷ entries) (exact.shorter nodes event earlier holds)
      (All-tail IsEvent event earlier ranges) h.2 (omega (arith, few)) one in
      let octets : text ++ rest ≡ before ++ (line_text d ++ rest) =
      ap (λ (t : List ℕ). t ++ rest) (h.4 ∙ ap (λ (l : List ℕ). before ++ l) h.3.text) ∙ append_assoc before (line_text d) rest in
      let told : numbered (line ∷ lines) ++ entries ≡ numbered lines ++ (recorded.Event (length earlier) line ∷ entries) =
      append_assoc (numbered lines) (recorded.Event (length lines) line ∷ []) entries
      ∙ ap (λ (n : ℕ). numbered lines ++ (recorded.Event n line ∷ entries)) (told_length nodes earlier before h.2) in
      subst (λ (es : List TranscriptLine). AreRecorded number (lines_of (text ++ rest)) es) (sym told)
      (subst (λ (t : List ℕ). AreRecorded number (lines_of t) (numbered lines ++ (recorded.Event (length earlier) line ∷ entries))) (sym octets) all)

  pub transcribed : EachRunIsTranscribed premise
  transcribed nodes run text holds ranges h =
      let lines : Lines = told_run nodes run text h in
      let events = event_lines (1 + length nodes) nodes run text [] [] holds ranges.each_event h (omega (arith, ranges.few)) tt in
      let plain : AreRecorded (1 + length nodes) (lines_of text) (numbered lines) =
      subst (λ (es : List TranscriptLine). AreRecorded (1 + length nodes) (lines_of text) es) (append-nil (numbered lines))
      (subst (λ (t : List ℕ). AreRecorded (1 + length nodes) (lines_of t) (numbered lines ++ [])) (append-nil text) events) in
      record {
        lines = lines;
        tells = told_tells nodes run text h;
        recorded = node_lines 1 nodes text (numbered lines) ranges.each_node (omega (arith, ranges.few)) plain;
      }
