-- What is told of a report, piece by piece.
use Rattle.std.proofs.Common.{◌≡◌, ◌∙◌, ℕ, ◌+◌, ◌<◌, ◌≤◌, ℤ, Bool, true, false, Option, Some, List, [], ◌∷◌, ◌++◌, length, get_or, drop, Result, Ok, Err}
use Rattle.std.proofs.Common.{refl, sym, ap, subst, append_assoc, append-nil}
use Rattle.std.specs.Prelude.{codes, OnOk}
use Rattle.std.specs.Fmt.{signed_decimal}
use Rattle.std.proofs.lemmas.List.{drop_more, drop_all}
use Rattle.ptp_units.specs.Nanoseconds.{nanoseconds_text}
use Rattle.slave_port.specs.declared.heard.Report.{Report}
use Rattle.trace_model.specs.declared.judgement.Results.{Results}
use Rattle.trace_model.specs.declared.verdict.Why.{Why}
use Rattle.explain_findings.specs.declared.reported.Reported.{Reported}
use Rattle.explain_words.specs.Lines.{are_lines}
use Rattle.explain_story.specs.Report.{begin_text, difference_text, is_as_told, raw_text, reason_text, row_text, rows_text}
use Rattle.explain_story.specs.Report.{all_rows_text, are_same, as_reported_text, messages_row_text, tells_otherwise}
use Rattle.explain_story.specs.Report.{TellsJudged, TellsReasons, TellsRefused, TellsReport, TellsWhich}
use Rattle.explain_story.specs.Counts.{is_sound}

-- ---- reasons

-- one reason more was told, with what it met
reason_more : (equal : Bool) (lead told met : List ℕ) (whys : List Why) (i : ℕ) (d : Why) → i < length whys → are_lines (codes "    ") met ≡ true
    → ((behind : List ℕ) → TellsReasons equal lead (drop i whys) behind → TellsReasons equal (codes "refused, ") whys (told ++ behind))
    → (behind : List ℕ) → TellsReasons equal (codes "  and ") (drop (i + 1) whys) behind
    → TellsReasons equal (codes "refused, ") whys ((told ++ (reason_text lead equal (get_or whys i d) ++ met)) ++ behind)
reason_more equal lead told met whys i d more below tells behind others =
    let text : List ℕ = reason_text lead equal (get_or whys i d) ++ (met ++ behind) in
    let one : TellsReasons equal lead (get_or whys i d ∷ drop (i + 1) whys) text = (met, behind, below, others, refl) in
    let here = subst (λ (ws : List Why). TellsReasons equal lead ws text) (sym (drop_more whys i d more)) one in
    let joined : told ++ text ≡ (told ++ (reason_text lead equal (get_or whys i d) ++ met)) ++ behind = simp append_assoc in
    subst (λ (t : List ℕ). TellsReasons equal (codes "refused, ") whys t) joined (tells text here)

-- what is told after one reason more
pub record IsTold (equal : Bool) (whys : List Why) (next : ℕ) (before after : List ℕ) : Type 0 where
  pub told : List ℕ
  pub text : after ≡ before ++ told
  pub tells : (behind : List ℕ) → TellsReasons equal (codes "  and ") (drop next whys) behind → TellsReasons equal (codes "refused, ") whys (told ++ behind)

pub told_more : (equal : Bool) (lead told met before text numbered after : List ℕ) (whys : List Why) (i : ℕ) (d : Why) → i < length whys
    → are_lines (codes "    ") met ≡ true → text ≡ before ++ told → numbered ≡ text ++ reason_text lead equal (get_or whys i d) → after ≡ numbered ++ met
    → ((behind : List ℕ) → TellsReasons equal lead (drop i whys) behind → TellsReasons equal (codes "refused, ") whys (told ++ behind))
    → IsTold equal whys (i + 1) before after
told_more equal lead told met before text numbered after whys i d more below is is_numbered is_after tells = record {
  told = told ++ (reason_text lead equal (get_or whys i d) ++ met);
  text = is_after ∙ ap (λ (t : List ℕ). t ++ met) (is_numbered ∙ ap (λ (t : List ℕ). t ++ reason_text lead equal (get_or whys i d)) is)
      ∙ append_assoc (before ++ told) (reason_text lead equal (get_or whys i d)) met
      ∙ append_assoc before told (reason_text lead equal (get_or whys i d) ++ met);
  tells = reason_more equal lead told met whys i d more below tells;
}

-- all reasons were told
pub reasons_all : (equal : Bool) (lead told : List ℕ) (whys : List Why) (i : ℕ) → length whys ≤ i
    → ((behind : List ℕ) → TellsReasons equal lead (drop i whys) behind → TellsReasons equal (codes "refused, ") whys (told ++ behind))
    → TellsReasons equal (codes "refused, ") whys told
reasons_all equal lead told whys i none tells =
    let here = subst (λ (ws : List Why). TellsReasons equal lead ws []) (sym (drop_all i whys none)) refl in
    subst (λ (t : List ℕ). TellsReasons equal (codes "refused, ") whys t) (append-nil told) (tells [] here)

-- ---- the two results

row_joined : (name one other difference raw old first second : List ℕ)
    → first ≡ old ++ (codes "  " ++ (name ++ (codes "  reported " ++ (one ++ (codes " ns  by the readings " ++ (other ++ codes " ns"))))))
    → second ≡ first ++ difference
    → second ++ raw
    ≡ old ++ (codes "  " ++ name ++ codes "  reported " ++ one ++ codes " ns  by the readings " ++ other ++ codes " ns" ++ difference ++ raw)
row_joined name one other difference raw old first second first_is second_is = rw (second_is, first_is) (simp append_assoc)

pub row_told : {E : Type 0} (r : Result (Unit {0}) E) (name key : List ℕ) (reported by_readings : ℤ) (old first second new : List ℕ)
    → first ≡ old ++ (codes "  " ++ (name ++ (codes "  reported " ++ (nanoseconds_text reported ++ (codes " ns  by the readings "
    ++ (nanoseconds_text by_readings ++ codes " ns"))))))
    → second ≡ first ++ difference_text reported by_readings → OnOk r (new ≡ second ++ raw_text key reported by_readings)
    → OnOk r (new ≡ old ++ row_text name key reported by_readings)
row_told (Ok x) name key reported by_readings old first second new first_is second_is is =
    is
    ∙ row_joined name (nanoseconds_text reported) (nanoseconds_text by_readings) (difference_text reported by_readings)
    (raw_text key reported by_readings) old first second first_is second_is
row_told (Err e) name key reported by_readings old first second new first_is second_is is = tt

pub rows_told : {E : Type 0} (r : Result (Unit {0}) E) (report : Report) (by_readings : Option Results) (results : Results)
    → (old first new : List ℕ) → by_readings ≡ Some results
    → first ≡ old ++ row_text (codes "offset") (codes "offset2") report.offset2 results.offset2
    → OnOk r (new ≡ first ++ row_text (codes "path  ") (codes "path2") report.path2 results.path2)
    → OnOk r (new ≡ old ++ rows_text report by_readings)
rows_told (Ok x) report by_readings results old first new some first_is is =
    let offset : List ℕ = row_text (codes "offset") (codes "offset2") report.offset2 results.offset2 in
    let path : List ℕ = row_text (codes "path  ") (codes "path2") report.path2 results.path2 in
    is ∙ ap (λ (t : List ℕ). t ++ path) first_is ∙ append_assoc old offset path
    ∙ ap (λ (found : Option Results). old ++ rows_text report found) (sym some)
rows_told (Err e) report by_readings results old first new some first_is is = tt

-- ---- a report

-- what is told of a report that is refused, after its beginning, its reasons, its moments and its results
pub case_told : {E : Type 0} (r : Result (Unit {0}) E) (reported : Reported) (by_messages : Option Results)
    → (start begun reasoned placed rowed ended reasons lines : List ℕ)
    → begun ≡ start ++ begin_text reported → reasoned ≡ begun ++ reasons → placed ≡ reasoned ++ lines
    → rowed ≡ placed ++ all_rows_text reported.report reported.judgement.by_readings by_messages
    → TellsReasons (is_as_told reported.report by_messages) (codes "refused, ") reported.judgement.reasons reasons → are_lines (codes "  t") lines ≡ true
    → OnOk r ((which : List ℕ) × (are_lines (codes "    ") which ≡ true)
    × TellsWhich (tells_otherwise reported.judgement.by_readings by_messages) which × (ended ≡ rowed ++ which))
    → OnOk r ((told : List ℕ) × TellsRefused reported by_messages told × (ended ≡ start ++ told))
case_told (Ok x) reported by_messages start begun reasoned placed rowed ended reasons lines a b c d tells below (which, inside, whether, is) =
    let rows : List ℕ = all_rows_text reported.report reported.judgement.by_readings by_messages in (
      begin_text reported ++ (reasons ++ (lines ++ (rows ++ which))),
      (reasons, lines, which, tells, below, inside, whether, refl),
      is ∙ joined (begin_text reported) rows which a b c d,
    )
  where
    joined : (begin rows which : List ℕ) → begun ≡ start ++ begin → reasoned ≡ begun ++ reasons → placed ≡ reasoned ++ lines
        → rowed ≡ placed ++ rows → rowed ++ which ≡ start ++ (begin ++ (reasons ++ (lines ++ (rows ++ which))))
    joined begin rows which a b c d = rw (d, c, b, a) (simp append_assoc)
case_told (Err e) reported by_messages start begun reasoned placed rowed ended reasons lines a b c d tells below which = tt

pub sound_told : (reported : Reported) (by_messages : Option Results) (whys : List Why) (old : List ℕ) → is_sound whys ≡ true
    → (told : List ℕ) × TellsJudged reported by_messages whys told × (old ≡ old ++ told)
sound_told reported by_messages [] old sound = ([], refl, sym (append-nil old))
sound_told reported by_messages (why ∷ others) old sound = absurd cc

pub refused_told : {E : Type 0} (r : Result (Unit {0}) E) (reported : Reported) (by_messages : Option Results) (whys : List Why)
    → (old new : List ℕ) → is_sound whys ≡ false
    → OnOk r ((told : List ℕ) × TellsRefused reported by_messages told × (new ≡ old ++ told))
    → OnOk r ((told : List ℕ) × TellsJudged reported by_messages whys told × (new ≡ old ++ told))
refused_told (Ok x) reported by_messages [] old new refused told = absurd cc
refused_told (Ok x) reported by_messages (why ∷ others) old new refused told = told
refused_told (Err e) reported by_messages whys old new refused told = tt

-- what is told of a report, with these results by the messages
pub told_by : {E : Type 0} (r : Result (Unit {0}) E) (reported : Reported) (by_messages : Option Results) (old new : List ℕ)
    → OnOk r ((told : List ℕ) × TellsJudged reported by_messages reported.judgement.reasons told × (new ≡ old ++ told))
    → OnOk r ((told : List ℕ) × TellsReport reported told × (new ≡ old ++ told))
told_by (Ok x) reported by_messages old new (told, tells, is) = (told, (by_messages, tells), is)
told_by (Err e) reported by_messages old new told = tt

-- the row of the results by the messages
messages_row_joined : (one other same raw_one raw_other old first : List ℕ)
    → first ≡ old ++ (codes "  by the messages  offset " ++ (one ++ (codes " ns  path " ++ (other ++ (codes " ns" ++ same)))))
    → first ++ (codes "  (\"offset2\" " ++ (raw_one ++ (codes ", \"path2\" " ++ (raw_other ++ codes ")\n"))))
    ≡ old ++ (codes "  by the messages  offset " ++ one ++ codes " ns  path " ++ other ++ codes " ns" ++ same
    ++ codes "  (\"offset2\" " ++ raw_one ++ codes ", \"path2\" " ++ raw_other ++ codes ")\n")
messages_row_joined one other same raw_one raw_other old first first_is = rw first_is (simp append_assoc)

pub messages_row_told : {E : Type 0} (r : Result (Unit {0}) E) (report : Report) (told : Results) (same old first new : List ℕ)
    → same ≡ as_reported_text (are_same report.offset2 report.path2 told)
    → first ≡ old ++ (codes "  by the messages  offset " ++ (nanoseconds_text told.offset2 ++ (codes " ns  path "
    ++ (nanoseconds_text told.path2 ++ (codes " ns" ++ same)))))
    → OnOk r (new ≡ first ++ (codes "  (\"offset2\" " ++ (signed_decimal told.offset2 ++ (codes ", \"path2\" "
    ++ (signed_decimal told.path2 ++ codes ")\n")))))
    → OnOk r (new ≡ old ++ messages_row_text report told)
messages_row_told (Ok x) report told same old first new same_is first_is is =
    is
    ∙ messages_row_joined (nanoseconds_text told.offset2) (nanoseconds_text told.path2) same (signed_decimal told.offset2)
    (signed_decimal told.path2) old first first_is
    ∙ ap (λ (t : List ℕ). old ++ (codes "  by the messages  offset " ++ nanoseconds_text told.offset2 ++ codes " ns  path "
    ++ nanoseconds_text told.path2 ++ codes " ns" ++ t ++ codes "  (\"offset2\" " ++ signed_decimal told.offset2
    ++ codes ", \"path2\" " ++ signed_decimal told.path2 ++ codes ")\n")) same_is
messages_row_told (Err e) report told same old first new same_is first_is is = tt
