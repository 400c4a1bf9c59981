-- What goes out, from one to another.
use Rattle.std.proofs.Common.{◌≡◌, ◌∙◌, ◌++◌, inl, inr, ℕ, List, [], ◌∷◌, reverse, Option, Some, None, Result, Ok, Err, MatchResult, append-nil, refl, sym, ap, subst}
use Rattle.std.specs.Prelude.{Bool, true, false}
use Rattle.std.proofs.lemmas.Bool.{true≢false}
use Rattle.datagram_source.specs.Rules.{is_field}
use Rattle.std.proofs.lemmas.List.{reverse-reverse}
use Rattle.std.specs.Io.KnownBytes.{Appends}
use Rattle.std.proofs.KnownBytes.{Appends-nil, Appends-trans}
use Rattle.text_lines.specs.declared.line_fault.LineFault.{LineFault}
use Rattle.text_lines.specs.declared.line_fault.LineFault.TheVariants.{Write, Field, Memory}
use Rattle.datagram_source.specs.declared.lines.LineForm.{LineForm}
use Rattle.datagram_source.specs.Unread.{IsUnread}
use Rattle.datagram_source.specs.Datagram.{DatagramOf}
use Rattle.text_lines.specs.Fault.{is_write}
use Rattle.text_lines.specs.Task.{WentOut}
use Rattle.recording_measure.specs.declared.completion.Completion.{Completion}
use Rattle.recording_measure.specs.Fresh.{AreFresh}
use Rattle.recording_measure.specs.Made.{Measured}
use Rattle.recording_measure.specs.Measure as measure
use Rattle.result_audit.specs.declared.held.Held.{Held}
use Rattle.result_audit.specs.declared.answer.Answer.{Answer}
use Rattle.result_audit.specs.Auditor.{Auditing, HandsOut}
use Rattle.result_audit.specs.declared.totals.Totals.{Totals}
use Rattle.result_audit.specs.Totals.{with_answer}
use Rattle.audit_command.specs.declared.task.AuditTask.{AuditTask}
use Rattle.audit_command.specs.Audit.{Audited, GoesInPart, HandsOn, StopsDatagram, StopsReports, StopsSaying, TakesDatagram, TakesReports, text_of}
use Rattle.audit_command.specs.AuditLines.{IsNoResult}
use Rattle.audit_command.specs.Inner.Task.{IsAt, IsOfOutput, GoesOr, SaidSoFar, SaysInPart}

-- what is said of one is said of the other
pub mapped : {T : Type 0} (result : Result T LineFault) (P Q : Audited → Audited → List ℕ → Type 0) (A B : Audited → LineFault → List ℕ → Type 0)
    (old mid new : AuditTask) (a b : Option (List ℕ))
    → ((s : Audited) → IsAt old s → (s' : Audited) × IsAt mid s' × ((later : Audited) (out : List ℕ) → P s' later out → Q s later out)
    × ((fault : LineFault) (out : List ℕ) → A s' fault out → B s fault out))
    → GoesOr result P A mid new a b → GoesOr result Q B old new a b
mapped (Ok x) P Q A B old mid new a b step goes = λ s at.
    let (there, stands, turn, stop) = step s at in
    let (later, out, kept, by, went) = goes there stands in (later, out, kept, turn later out by, went)
mapped (Err fault) P Q A B old mid new a b step goes = λ s at.
    let (there, stands, turn, stop) = step s at in
    let (out, stops, went) = goes there stands in (out, stop fault out stops, went)

-- for those who ask of one
pub matched : {T : Type 0} (result : Result T LineFault) (P : Audited → Audited → List ℕ → Type 0) (A : Audited → LineFault → List ℕ → Type 0)
    (old new : AuditTask) (a b : Option (List ℕ)) (s : Audited) → IsAt old s → GoesOr result P A old new a b
    → MatchResult result (λ _. (later : Audited) × (out : List ℕ) × IsAt new later × P s later out × Appends a b out)
    (λ what. (out : List ℕ) × A s what out × WentOut (is_write what) (Appends a b out))
matched (Ok x) P A old new a b s at goes = goes s at
matched (Err fault) P A old new a b s at goes = goes s at

-- memory failed before anything went out
pub without_memory : {T : Type 0} (result : Result T LineFault) (fault : LineFault) (P : Audited → Audited → List ℕ → Type 0)
    (A : Audited → LineFault → List ℕ → Type 0) (old new : AuditTask) (a : Option (List ℕ)) → result ≡ Err fault → fault ≡ Memory
    → ((s : Audited) → IsAt old s → A s Memory []) → GoesOr result P A old new a a
without_memory result fault P A old new a stopped memory stops =
    rw (stopped, memory) (λ s at. ([], stops s at, Appends-nil a))

-- nothing of it went out
pub nothing_said : (is_table : Bool) (happened : Auditing) → StopsSaying is_table happened Memory []
nothing_said is_table happened = (happened, record { answers = []; handed = refl; texts = refl })

-- reports that weren't handed on, the newest in front
pub newest_in_front : (all : List Measured) (handed : ℕ) (completions : List Completion) → AreFresh all handed completions
    → AreFresh all handed (reverse (reverse completions))
newest_in_front all handed completions fresh = subst (AreFresh all handed) (sym (reverse-reverse completions)) fresh

-- where nothing is handed out, nothing changes
pub hands_none : (before after : Auditing) (held : List Held) → HandsOut before None after held → after ≡ before
hands_none before after [] out = out.1
hands_none before after (one ∷ others) out = out.1

-- one more was said
pub said_more : (s later : Audited) (out : List ℕ) (answer : Answer) (before after : Auditing) (totals : Totals) → SaidSoFar s later out
    → before ≡ later.audit → HandsOut before (Some answer) after before.held → totals ≡ with_answer answer later.totals
    → SaidSoFar s (record later { audit = after; totals = totals }) (out ++ text_of s.form.is_table answer)
said_more s later out answer before after totals so_far same hands tells = record {
  reading = so_far.reading;
  form = so_far.form;
  answers = answer ∷ so_far.answers;
  handed = (before, subst (λ (audit : Auditing). HandsOn so_far.answers s.audit audit) (sym same) so_far.handed, hands);
  told = so_far.told;
  totals = tells ∙ ap (with_answer answer) so_far.totals;
  texts = ap (λ (text : List ℕ). text ++ text_of s.form.is_table answer) so_far.texts;
}

-- what was said before an answer that didn't go out
in_part : (s later : Audited) (out : List ℕ) (before : Auditing) → SaidSoFar s later out → before ≡ later.audit
    → GoesInPart s.form.is_table s.audit before out
in_part s later out before so_far same = record {
  answers = so_far.answers;
  handed = subst (λ (audit : Auditing). HandsOn so_far.answers s.audit audit) (sym same) so_far.handed;
  texts = so_far.texts;
}

pub stops_behind : (fault : LineFault) (s later : Audited) (out : List ℕ) (answer : Answer) (before after : Auditing) (a b c : Option (List ℕ))
    → SaidSoFar s later out → before ≡ later.audit → HandsOut before (Some answer) after before.held → Appends a b out
    → IsOfOutput fault × WentOut (is_write fault) (Appends b c [])
    → (text : List ℕ) × SaysInPart s fault text × WentOut (is_write fault) (Appends a c text)
stops_behind Write s later out answer before after a b c so_far same hands went failed =
    (out, (before, answer, after, in_part s later out before so_far same, hands), tt)
stops_behind Field s later out answer before after a b c so_far same hands went failed = absurd failed.0
stops_behind Memory s later out answer before after a b c so_far same hands went failed = (
  out,
  (before, in_part s later out before so_far same),
  subst (Appends a c) (append-nil out) (Appends-trans a b c out [] went failed.1),
)

-- a datagram was measured, and then reports are taken
pub behind : {T : Type 0} (result : Result T LineFault) (d : DatagramOf) (s mid : Audited) (old new : AuditTask) (a b c : Option (List ℕ))
    (first : List ℕ) → measure.Takes d s.reading mid.reading first → mid ≡ record s { reading = mid.reading } → Appends a b first → IsAt old mid
    → GoesOr result (TakesReports d.number) (StopsReports d.number) old new b c
    → MatchResult result (λ _. (later : Audited) × (out : List ℕ) × IsAt new later × TakesDatagram d s later out × Appends a c out)
    (λ what. (out : List ℕ) × StopsDatagram d s what out × WentOut (is_write what) (Appends a c out))
behind (Ok x) d s mid old new a b c first measured is went at goes =
    let (later, rest, there, reports, more) = goes mid at in (
      later,
      first ++ rest,
      there,
      record {
        reading = mid.reading;
        first = first;
        measured = measured;
        rest = rest;
        reports = subst (λ (audited : Audited). TakesReports d.number audited later rest) is reports;
        written = refl;
      },
      Appends-trans a b c first rest went more,
    )
behind (Err fault) d s mid old new a b c first measured is went at goes =
    let (rest, stops, more) = goes mid at in (
      first ++ rest,
      inr (mid.reading, first, rest, measured, subst (λ (audited : Audited). StopsReports d.number audited fault rest) is stops, refl),
      went_more (is_write fault) a b c first rest went more,
    )
  where
    went_more : (of_writer : Bool) (a b c : Option (List ℕ)) (first rest : List ℕ) → Appends a b first → WentOut of_writer (Appends b c rest)
        → WentOut of_writer (Appends a c (first ++ rest))
    went_more true a b c first rest went more = tt
    went_more false a b c first rest went more = Appends-trans a b c first rest went more

-- a line that isn't read stops it before anything went out
pub went_unread : (fault : LineFault) (form : LineForm) (number : ℕ) (line : List ℕ) (a : Option (List ℕ)) → IsUnread fault form number line
    → WentOut (is_write fault) (Appends a a [])
went_unread Write form number line a unread = absurd unread
went_unread Field form number line a unread = Appends-nil a
went_unread Memory form number line a unread = Appends-nil a

-- a result that isn't read does, too
pub went_none : (fault : LineFault) (has_path : Bool) (number : ℕ) (line : List ℕ) (a : Option (List ℕ)) → IsNoResult fault has_path number line
    → WentOut (is_write fault) (Appends a a [])
went_none Write has_path number line a none = absurd none
went_none Field has_path number line a none = Appends-nil a
went_none Memory has_path number line a none = Appends-nil a

-- no fault of a line stops what may be said
pub never_field : {T : Type 0} (result : Result T LineFault) (what : LineFault) (P : Audited → Audited → List ℕ → Type 0)
    (A : Audited → LineFault → List ℕ → Type 0) (old new : AuditTask) (a b : Option (List ℕ)) (s : Audited) → IsAt old s
    → ((out : List ℕ) → A s Field out → ⊥) → GoesOr result P A old new a b → result ≡ Err what → is_field what ≡ true → ⊥
never_field (Ok x) what P A old new a b s at never goes is field = cc
never_field (Err Write) what P A old new a b s at never goes is field =
    let same : Write ≡ what = cc in true≢false (sym field ∙ sym (ap is_field same))
never_field (Err Field) what P A old new a b s at never goes is field = let (out, stops, went) = goes s at in never out stops
never_field (Err Memory) what P A old new a b s at never goes is field =
    let same : Memory ≡ what = cc in true≢false (sym field ∙ sym (ap is_field same))

pub no_field_in_reports : (number : ℕ) (s : Audited) (out : List ℕ) → StopsReports number s Field out → ⊥
no_field_in_reports number s out (inl none) = cc
no_field_in_reports number s out (inr (mid, taken, stops)) = stops
