-- Each datagram is counted once.
use Rattle.std.proofs.Common.{◌≡◌, ◌∙◌, ℕ, zero, suc, ◌+◌, ◌-◌, ◌*◌, ◌/◌, ◌%◌, ◌^◌, ◌<◌, ◌≤◌, Bool, true, false, List, [], ◌∷◌}
use Rattle.std.proofs.Common.{◌++◌, length, drop, Option, Some, None, Ok, Err, refl, sym, ap, arith, is_some, cond}
use Rattle.std.proofs.Common.{option_map, option_and_then, get_or}
use Rattle.std.specs.Prelude.{◌==◌, nat_le, not, sum, count_by, if◌then◌else◌}
use Rattle.std.specs.Option.{option_map_or}
use Rattle.std.specs.Result.{result_ok}
use Rattle.std.specs.List.{All}
use Rattle.std.proofs.lemmas.Bool.{eqb-true, eqb-false}
use Rattle.std.proofs.lemmas.List.Elements.{All-nil, All-cons, All-head, All-tail, All-append}
use Rattle.std.proofs.lemmas.List.Sums.{sum_by-cons, count_by-le-length}
use Rattle.std.proofs.lemmas.List.{length-append, length-drop, length-map}
use Rattle.event_codec.specs.declared.message.Body.{Body}
use Rattle.event_codec.specs.declared.message.Body.TheVariants as bodies
use Rattle.event_codec.specs.Packet.{Contents}
use Rattle.event_codec.specs.Reading.{Reading}
use Rattle.slave_port.specs.declared.heard.Heard.{Heard}
use Rattle.slave_port.specs.declared.heard.Heard.TheVariants as answers
use Rattle.slave_port.specs.declared.heard.Report.{Report}
use Rattle.recording_model.specs.declared.watched.Watched.{Watched}
use Rattle.recording_model.specs.Listening.{Listening, after_all, answered, report_in}
use Rattle.recording_measure.specs.Made.{Measured}
use Rattle.recording_summary.specs.declared.counts.Counts.{Counts}
use Rattle.recording_summary.specs.declared.kind.Kind.{Kind}
use Rattle.recording_summary.specs.declared.kind.Kind.TheVariants as kinds
use Rattle.recording_summary.specs.declared.no_report.NoReport.{NoReport}
use Rattle.recording_summary.specs.declared.no_report.NoReport.TheVariants as whys
use Rattle.recording_summary.specs.Counts.{kind_number, why_number, place_of}
use Rattle.recording_measure.specs.declared.watch.WantedPorts.{WantedPorts}
use Rattle.recording_measure.specs.Watch.{watched_in}
use Rattle.recording_measure.specs.Row.{Row, datagrams, is_known, heard, kept_most}
use Rattle.recording_measure.specs.Counts.{Fate, fate_at, fates, early_fate, early_fates, fates_in, why_heard, why_said, why_answered}
use Rattle.recording_measure.specs.Counts.{at_most, IsCounts}
use Rattle.recording_laws.specs.Once.{EachDatagramIsCountedOnce}
use Rattle.recording_measure.proofs.Counting.{place_few}
use Rattle.recording_measure.proofs.Rows.{heard-unknown}

-- ---- one datagram
by_answer : (f : Report → Measured) (o : Option Heard)
    → is_some (option_map_or why_answered o (Some whys.Before)) ≡ not (is_some (option_map f (option_and_then report_in o)))
by_answer f None = refl
by_answer f (Some (answers.Report report)) = refl
by_answer f (Some answers.Held) = refl
by_answer f (Some answers.Completed) = refl
by_answer f (Some (answers.Ignored reason)) = refl

module _ (w : Watched) (line time : ℕ) (l : Listening) (f : Report → Measured) where
  of_message : (m : Contents) (body : Body)
      → is_some (why_heard w line time m body l)
      ≡ not (is_some (option_map f (option_and_then report_in (answered w line time m body l))))
  of_message m (bodies.Sync origin) = by_answer f (answered w line time m (bodies.Sync origin) l)
  of_message m (bodies.DelayReq origin) = refl
  of_message m (bodies.FollowUp precise) = by_answer f (answered w line time m (bodies.FollowUp precise) l)
  of_message m (bodies.DelayResp receive requesting) = by_answer f (answered w line time m (bodies.DelayResp receive requesting) l)

  of_said : (said : Reading)
      → is_some (why_said w line time said l)
      ≡ not (is_some (option_map f (option_and_then report_in
      (option_and_then (λ m. answered w line time m m.body l) (result_ok said)))))
  of_said (Ok m) = of_message m m.body
  of_said (Err refusal) = refl

abbrev IsOnce : Fate → Type 0
IsOnce fate = is_some fate.why ≡ not (is_some fate.measured)

one_once : (w : Watched) (earlier : List Row) (row : Row) → IsOnce (fate_at w earlier row)
one_once w earlier row =
    of_said w row.datagram.line row.datagram.time (after_all w (datagrams earlier)) _ row.datagram.said

-- ---- all of them
heard_once : (w : Watched) (rows : List Row) → All IsOnce (fates w rows)
heard_once w [] = All-nil IsOnce
heard_once w (row ∷ earlier) = All-cons IsOnce (fate_at w earlier row) (fates w earlier) (one_once w earlier row) (heard_once w earlier)

early_once : (rows : List Row) → All IsOnce (early_fates rows)
early_once [] = All-nil IsOnce
early_once (row ∷ earlier) = All-cons IsOnce (early_fate row.datagram) (early_fates earlier) refl (early_once earlier)

all_heard : (rows : List Row) (known : Option Watched) → All IsOnce (option_map_or (λ w. fates w rows) known [])
all_heard rows None = All-nil IsOnce
all_heard rows (Some w) = heard_once w rows

all_once : (w : WantedPorts) (rows : List Row) → All IsOnce (fates_in w rows)
all_once w rows =
    All-append IsOnce (option_map_or (λ watched. fates watched (heard w rows)) (watched_in w (datagrams rows)) [])
    (early_fates (drop (length (heard w rows)) rows)) (all_heard (heard w rows) (watched_in w (datagrams rows)))
    (early_once (drop (length (heard w rows)) rows))

-- as many as there are lines
fates_length : (w : Watched) (rows : List Row) → length (fates w rows) ≡ length rows
fates_length w [] = refl
fates_length w (row ∷ earlier) = ap suc (fates_length w earlier)

few_heard : (w : WantedPorts) (rows : List Row) → length (heard w rows) ≤ length rows
few_heard w [] = omega arith
few_heard w (row ∷ earlier) =
    by (is_known w earlier) (is_known w (row ∷ earlier)) (nat_le (length (row ∷ earlier)) kept_most) (few_heard w earlier)
  where
    by : (known now few : Bool) → length (heard w earlier) ≤ length earlier
        → length (if known then row ∷ heard w earlier else if not now then [] else if few then row ∷ earlier else row ∷ [])
        ≤ length (row ∷ earlier)
    by true now few fewer = omega (arith, fewer)
    by false false few fewer = omega arith
    by false true true fewer = omega arith
    by false true false fewer = omega arith

as_many : (w : WantedPorts) (rows : List Row) → length (fates_in w rows) ≡ length rows
as_many w rows = by (watched_in w (datagrams rows)) refl
  where
    those : List Row
    those = heard w rows

    early : length (early_fates (drop (length those) rows)) ≡ length rows - length those
    early = length-map (drop (length those) rows) (λ row. early_fate row.datagram) ∙ length-drop (length those) rows

    by : (known : Option Watched) → watched_in w (datagrams rows) ≡ known
        → length (option_map_or (λ watched. fates watched (heard w rows)) known [] ++ early_fates (drop (length those) rows))
        ≡ length rows
    by None unknown =
        let none : length those ≡ 0 = ap length (heard-unknown w rows unknown) in
        omega (arith, early, none)
    by (Some watched) known =
        let joined = length-append (fates watched those) (early_fates (drop (length those) rows)) in
        let same = fates_length watched those in
        let few = few_heard w rows in
        omega (arith, joined, same, early, few)

-- ---- those with a reason, place by place
abbrev one_if : Bool → ℕ
one_if b = cond b 1 0

-- how often a place is among so many from this one on: once, or never
abbrev hits : (from count place : ℕ) → ℕ
hits from zero place = 0
hits from (suc count) place = one_if (place == from) + hits (suc from) count place

hits_none : (from count place : ℕ) → place < from → hits from count place ≡ 0
hits_none from zero place low = refl
hits_none from (suc count) place low =
    let rest = hits_none (suc from) count place (omega (arith, low)) in
    by (place == from) refl rest
  where
    by : (same : Bool) → (place == from) ≡ same → hits (suc from) count place ≡ 0 → one_if same + hits (suc from) count place ≡ 0
    by true same rest = let is = eqb-true place from same in absurd (omega (arith, is, low))
    by false other rest = omega (arith, rest)

hits_once : (from count place : ℕ) → from ≤ place → place < from + count → hits from count place ≡ 1
hits_once from zero place low high = absurd (omega (arith, low, high))
hits_once from (suc count) place low high =
    by (place == from) refl (λ up. hits_once (suc from) count place up (omega (arith, high)))
  where
    above : (p f : ℕ) → f ≤ p → (p ≡ f → ⊥) → suc f ≤ p
    above p f low isnt = omega (arith, low, isnt)

    by : (same : Bool) → (place == from) ≡ same → (suc from ≤ place → hits (suc from) count place ≡ 1)
        → one_if same + hits (suc from) count place ≡ 1
    by true same onward =
        let is = eqb-true place from same in
        let rest = hits_none (suc from) count place (omega (arith, is)) in
        omega (arith, rest)
    by false other onward =
        let rest = onward (above place from low (eqb-false place from other)) in
        omega (arith, rest)

abbrev hits_of : (from count : ℕ) → Fate → ℕ
hits_of from count fate = option_map_or (λ why. hits from count (place_of fate.kind why)) fate.why 0

abbrev all_hits : (from count : ℕ) → List Fate → ℕ
all_hits from count [] = 0
all_hits from count (fate ∷ all) = hits_of from count fate + all_hits from count all

abbrev is_at : (place : ℕ) → Fate → Bool
is_at place fate = option_map_or (λ why. place_of fate.kind why == place) fate.why false

no_place : (from : ℕ) (all : List Fate) → all_hits from 0 all ≡ 0
no_place from [] = refl
no_place from (fate ∷ all) =
    let rest = no_place from all in
    let one : hits_of from 0 fate ≡ 0 = none fate.kind fate.why in
    omega (arith, rest, one)
  where
    none : (kind : Kind) (why : Option NoReport) → option_map_or (λ why. hits from 0 (place_of kind why)) why 0 ≡ 0
    none kind None = refl
    none kind (Some why) = refl

next_place : (from count : ℕ) (all : List Fate)
    → all_hits from (suc count) all ≡ count_by (is_at from) all + all_hits (suc from) count all
next_place from count [] = refl
next_place from count (fate ∷ all) =
    let rest = next_place from count all in
    let more : count_by (is_at from) (fate ∷ all) ≡ cond (is_at from fate) 1 0 + count_by (is_at from) all =
    sum_by-cons (λ f. cond (is_at from f) 1 0) fate all in
    let one : hits_of from (suc count) fate ≡ cond (is_at from fate) 1 0 + hits_of (suc from) count fate =
    split fate.kind fate.why in
    omega (arith, rest, more, one)
  where
    split : (kind : Kind) (why : Option NoReport)
        → option_map_or (λ why. hits from (suc count) (place_of kind why)) why 0
        ≡ cond (option_map_or (λ why. place_of kind why == from) why false) 1 0
        + option_map_or (λ why. hits (suc from) count (place_of kind why)) why 0
    split kind None = refl
    split kind (Some why) = refl

-- the sum of counts that stand at their places
summed : (from : ℕ) (counts : List ℕ) (all : List Fate)
    → ((i : ℕ) → i < length counts → get_or counts i 0 ≡ count_by (is_at (from + i)) all)
    → sum counts ≡ all_hits from (length counts) all
summed from [] all are = sym (no_place from all)
summed from (count ∷ counts) all are =
    let more : sum (count ∷ counts) ≡ count + sum counts = sum_by-cons (λ c. c) count counts in
    let first : count ≡ count_by (is_at from) all =
    are 0 (omega arith) ∙ ap (λ (place : ℕ). count_by (is_at place) all) (plus_zero from) in
    let rest : sum counts ≡ all_hits (suc from) (length counts) all = summed (suc from) counts all (λ i within.
    are (suc i) (omega (arith, within)) ∙ ap (λ (place : ℕ). count_by (is_at place) all) (shift from i)) in
    let all_of : all_hits from (length (count ∷ counts)) all
    ≡ count_by (is_at from) all + all_hits (suc from) (length counts) all = next_place from (length counts) all in
    omega (arith, more, first, rest, all_of)
  where
    shift : (a b : ℕ) → a + suc b ≡ suc a + b
    shift a b = omega arith

    plus_zero : (a : ℕ) → a + 0 ≡ a
    plus_zero a = omega arith

-- every place is that of a kind and a reason
kind_at : (k : ℕ) → k < 10 → (kind : Kind) × (kind_number kind ≡ k)
kind_at zero few = (kinds.Sync, refl)
kind_at (suc zero) few = (kinds.FollowUp, refl)
kind_at (suc (suc zero)) few = (kinds.DelayReq, refl)
kind_at (suc (suc (suc zero))) few = (kinds.DelayResp, refl)
kind_at (suc (suc (suc (suc zero)))) few = (kinds.Pdelay, refl)
kind_at (suc (suc (suc (suc (suc zero))))) few = (kinds.Announce, refl)
kind_at (suc (suc (suc (suc (suc (suc zero)))))) few = (kinds.Signaling, refl)
kind_at (suc (suc (suc (suc (suc (suc (suc zero))))))) few = (kinds.Management, refl)
kind_at (suc (suc (suc (suc (suc (suc (suc (suc zero)))))))) few = (kinds.Reserved, refl)
kind_at (suc (suc (suc (suc (suc (suc (suc (suc (suc zero))))))))) few = (kinds.Malformed, refl)
kind_at (suc (suc (suc (suc (suc (suc (suc (suc (suc (suc k)))))))))) few = absurd (omega (arith, few))

why_at : (y : ℕ) → y < 14 → (why : NoReport) × (why_number why ≡ y)
why_at zero few = (whys.Held, refl)
why_at (suc zero) few = (whys.Alone, refl)
why_at (suc (suc zero)) few = (whys.OfSlave, refl)
why_at (suc (suc (suc zero))) few = (whys.Again, refl)
why_at (suc (suc (suc (suc zero)))) few = (whys.Before, refl)
why_at (suc (suc (suc (suc (suc zero))))) few = (whys.OtherDomain, refl)
why_at (suc (suc (suc (suc (suc (suc zero)))))) few = (whys.OtherMaster, refl)
why_at (suc (suc (suc (suc (suc (suc (suc zero))))))) few = (whys.OtherSlave, refl)
why_at (suc (suc (suc (suc (suc (suc (suc (suc zero)))))))) few = (whys.TooBig, refl)
why_at (suc (suc (suc (suc (suc (suc (suc (suc (suc zero))))))))) few = (whys.NotNewer, refl)
why_at (suc (suc (suc (suc (suc (suc (suc (suc (suc (suc zero)))))))))) few = (whys.Unrecorded, refl)
why_at (suc (suc (suc (suc (suc (suc (suc (suc (suc (suc (suc zero))))))))))) few = (whys.PeerDelay, refl)
why_at (suc (suc (suc (suc (suc (suc (suc (suc (suc (suc (suc (suc zero)))))))))))) few = (whys.TooEarly, refl)
why_at (suc (suc (suc (suc (suc (suc (suc (suc (suc (suc (suc (suc (suc zero))))))))))))) few = (whys.NoPart, refl)
why_at (suc (suc (suc (suc (suc (suc (suc (suc (suc (suc (suc (suc (suc (suc y)))))))))))))) few = absurd (omega (arith, few))

parted : (i : ℕ) → i < 140 → (k : ℕ) × (y : ℕ) × (k < 10) × (y < 14) × (k * 14 + y ≡ i)
parted i few = (i / 14, i % 14, omega (arith, few), omega arith, omega arith)

placed : (i : ℕ) → i < 140 → (kind : Kind) × (why : NoReport) × (place_of kind why ≡ i)
placed i few =
    let (k, y, low, least, is) = parted i few in
    let (kind, same) = kind_at k low in
    let (why, other) = why_at y least in
    (kind, why, omega (arith, same, other, is))

-- ---- together
abbrev has_reason : Fate → Bool
has_reason fate = is_some fate.why

abbrev has_report : Fate → Bool
has_report fate = is_some fate.measured

every_hit : (n : ℕ) → ((kind : Kind) (why : NoReport) → place_of kind why < n) → (all : List Fate)
    → all_hits 0 n all ≡ count_by has_reason all
every_hit n few [] = refl
every_hit n few (fate ∷ all) =
    let rest = every_hit n few all in
    let more : count_by has_reason (fate ∷ all) ≡ cond (has_reason fate) 1 0 + count_by has_reason all =
    sum_by-cons (λ f. cond (has_reason f) 1 0) fate all in
    let one : hits_of 0 n fate ≡ cond (has_reason fate) 1 0 = hit fate.kind fate.why in
    omega (arith, rest, more, one)
  where
    hit : (kind : Kind) (why : Option NoReport)
        → option_map_or (λ why. hits 0 n (place_of kind why)) why 0 ≡ cond (is_some why) 1 0
    hit kind None = refl
    hit kind (Some why) = hits_once 0 n (place_of kind why) (omega arith) (let low = few kind why in omega (arith, low))

either : (all : List Fate) → All IsOnce all → count_by has_report all + count_by has_reason all ≡ length all
either [] are = refl
either (fate ∷ all) are =
    let rest = either all (All-tail IsOnce fate all are) in
    let reports : count_by has_report (fate ∷ all) ≡ cond (has_report fate) 1 0 + count_by has_report all =
    sum_by-cons (λ f. cond (has_report f) 1 0) fate all in
    let reasons : count_by has_reason (fate ∷ all) ≡ cond (has_reason fate) 1 0 + count_by has_reason all =
    sum_by-cons (λ f. cond (has_reason f) 1 0) fate all in
    let one = by (has_report fate) (has_reason fate) (All-head IsOnce fate all are) in
    omega (arith, rest, reports, reasons, one)
  where
    by : (report reason : Bool) → reason ≡ not report → cond report 1 0 + cond reason 1 0 ≡ 1
    by true false is = refl
    by false true is = refl
    by true true is = cc
    by false false is = cc

uncut : (count most : ℕ) → count ≤ most → most < 2 ^ 64 → at_most count ≡ count
uncut count most few low = omega (arith, few, low)

pub each_once : EachDatagramIsCountedOnce
each_once = record {
  one = one_once;
  all = λ w rows counts few so.
      let all : List Fate = fates_in w rows in
      let many : length all ≡ length rows = as_many w rows in
      let shown : counts.reports ≡ count_by has_report all =
      so.reports ∙ uncut (count_by has_report all) (length all) (count_by-le-length has_report all) (omega (arith, many, few)) in
      let reasons : sum counts.unreported ≡ all_hits 0 (length counts.unreported) all =
      summed 0 counts.unreported all (λ i within.
      let (kind, why, is) = placed i (omega (arith, within, so.places)) in
      at_place all counts so (length all) i (count_by-le-length (is_at i) all) (omega (arith, many, few)) kind why is
      ∙ ap (λ (place : ℕ). count_by (is_at place) all) (zero_plus i)) in
      let hit : all_hits 0 (length counts.unreported) all ≡ count_by has_reason all =
      every_hit (length counts.unreported) (λ kind why. let low = place_few kind why in omega (arith, low, so.places)) all in
      let both : count_by has_report all + count_by has_reason all ≡ length all = either all (all_once w rows) in
      omega (arith, many, shown, reasons, hit, both);
}
  where
    zero_plus : (a : ℕ) → a ≡ 0 + a
    zero_plus a = omega arith

    at_place : (all : List Fate) (counts : Counts) → IsCounts all counts → (most : ℕ) (i : ℕ) → count_by (is_at i) all ≤ most
        → most < 2 ^ 64 → (kind : Kind) (why : NoReport) → place_of kind why ≡ i
        → get_or counts.unreported i 0 ≡ count_by (is_at i) all
    at_place all counts so most i few low kind why is =
        ap (λ (place : ℕ). get_or counts.unreported place 0) (sym is) ∙ so.unreported kind why
        ∙ ap (λ (place : ℕ). at_most (count_by (is_at place) all)) is ∙ uncut (count_by (is_at i) all) most few low
