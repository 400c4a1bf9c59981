-- What the first octets behind results tell of all of them.
use Rattle.std.proofs.Common.{◌≡◌, ◌∙◌, ◌⊎◌, inl, inr, ℕ, ◌<◌, List, [], ◌∷◌, ◌++◌, length, take, drop, Option, Some, Result, Ok, Err, refl, sym, ap, subst, arith, append-nil}
use Rattle.std.specs.Prelude.{MatchResult}
use Rattle.std.specs.Option.{ForSome}
use Rattle.std.specs.Io.KnownBytes.{IsAtEnd}
use Rattle.std.proofs.KnownBytes.{Appends-nil}
use Rattle.std.proofs.Math.Seq.{take-append_seam, drop-append_seam}
use Rattle.std.proofs.lemmas.Grind.{common_steps}
use Rattle.text_lines.specs.declared.counted.Counted.{Counted}
use Rattle.text_lines.specs.declared.fault.Cause.{Cause}
use Rattle.text_lines.specs.declared.fault.Cause.TheVariants.{Task}
use Rattle.text_lines.specs.declared.fault.Stopped.{Stopped}
use Rattle.text_lines.specs.declared.line_fault.LineFault.{LineFault}
use Rattle.text_lines.specs.declared.line_fault.LineFault.TheVariants.{Field}
use Rattle.text_lines.specs.Counted.{HasNotFailed, with_more}
use Rattle.text_lines.specs.Lines.{after_lines, lfs_in}
use Rattle.text_lines.specs.Task.{FailedAt}
use Rattle.capture_file.specs.declared.beginning.Beginning.{Beginning}
use Rattle.capture_file.specs.Beginning.{AreEnough, enough, first_octets, start_of}
use Rattle.capture_file.specs.Wrong.{HasMagic, HasNoMagic}
use Rattle.datagram_source.specs.declared.input.InputOutcome.{InputOutcome}
use Rattle.datagram_source.specs.declared.input.InputOutcome.TheVariants.{Lines, Capture}
use Rattle.datagram_source.specs.Input.{OutcomeFailed}
use Rattle.audit_command.specs.declared.lines.Finished.{Finished}
use Rattle.audit_command.specs.declared.task.AuditTask.{AuditTask}
use Rattle.audit_command.specs.Audit.{Audited, audit_rules}
use Rattle.audit_command.specs.AuditLines.{line_rules}
use Rattle.audit_command.specs.declared.ending.Ending.{Ending}
use Rattle.audit_command.specs.Input.{IsBehind, IsOutcome, answer_behind}
use Rattle.audit_command.specs.Inner.Front.{CaptureAnswers, LeavesFront, LinesAnswer, StopsFront}

cut_at : (n : ℕ) (first rest : List ℕ) → (length first ≡ n) ⊎ ((length first < n) × (rest ≡ []))
    → (take n (first ++ rest) ≡ first) × (drop n (first ++ rest) ≡ rest)
cut_at n first rest (inl all) = (
  ap (λ k. take k (first ++ rest)) (sym all) ∙ take-append_seam first rest,
  ap (λ k. drop k (first ++ rest)) (sym all) ∙ drop-append_seam first rest,
)
cut_at n first rest (inr (fewer, none)) = rw (none, append-nil first) (grind (arith, common_steps), grind (arith, common_steps))

ends : (first rest : List ℕ) (left : Option (List ℕ)) → AreEnough first left → left ≡ Some rest
    → (length first ≡ enough first) ⊎ ((length first < enough first) × (rest ≡ []))
ends first rest left (inl all) is = inl all
ends first rest left (inr (fewer, end)) is = inr (fewer, subst IsAtEnd is end)

-- how many are enough, the first tells
enough_front : (first rest : List ℕ) → (length first ≡ enough first) ⊎ ((length first < enough first) × (rest ≡ []))
    → enough (first ++ rest) ≡ enough first
enough_front [] rest (inl all) = absurd (cc all)
enough_front [] rest (inr (fewer, none)) = ap enough none
enough_front (x ∷ xs) rest is = refl

-- these are the first of all that is behind results
is_begun : (behind first rest : List ℕ) (left : Option (List ℕ)) → behind ≡ first ++ rest → AreEnough first left → left ≡ Some rest
    → (start_of behind ≡ first) × (drop (enough behind) behind ≡ rest)
is_begun behind first rest left split are is =
    let end = ends first rest left are is in
    let cut = cut_at (enough first) first rest end in
    let same = ap enough split ∙ enough_front first rest end in (
      ap (λ (n : ℕ). take n behind) same ∙ ap (take (enough first)) split ∙ cut.0,
      ap (λ (n : ℕ). drop n behind) same ∙ ap (drop (enough first)) split ∙ cut.1,
    )

module _ (s : Audited) (octets : List ℕ) (before : Option (List ℕ)) (ending : Ending) where
  -- a result in front stopped it, or the reader failed behind them
  pub stopped_front : (left after : Option (List ℕ)) (stop : Stopped (Cause LineFault)) → StopsFront s octets left before after stop
      → IsOutcome s octets left before after (Lines (Err stop)) ending
  stopped_front left after stop (inl stops) = inl (stop, refl, stops)
  stopped_front left after stop (inr (r, text, told, went, fails)) = inr (record {
    read = r;
    text = text;
    front = told;
    went = after;
    output = went;
    behind = inl (record { stop = stop; stopped = refl; at = fails; output = Appends-nil after });
  })

  module _ (beginning : Beginning) (count : ℕ) (task : AuditTask) (mid went : Option (List ℕ))
      (front : LeavesFront s octets beginning count task mid before went)
    where
      begun : (start_of (after_lines count octets) ≡ first_octets beginning)
          × (drop (enough (after_lines count octets)) (after_lines count octets) ≡ front.rest)
      begun = is_begun (after_lines count octets) (first_octets beginning) front.rest mid front.behind front.enough front.input

      -- this came of what is behind them
      goes_behind : (left after : Option (List ℕ)) (outcome : InputOutcome LineFault)
          → IsBehind (record { count = count; state = front.state }) (after_lines count octets) left went after outcome ending
          → IsOutcome s octets left before after outcome ending
      goes_behind left after outcome behind = inr (record {
        read = record { count = count; state = front.state };
        text = front.text;
        front = front.told;
        went = went;
        output = front.output;
        behind = behind;
      })

      -- a capture
      pub captured : (left after : Option (List ℕ)) (outcome : InputOutcome LineFault) → HasMagic (first_octets beginning)
          → ForSome mid (λ rest. CaptureAnswers front.state (first_octets beginning ++ rest) left went after outcome ending)
          → IsOutcome s octets left before after outcome ending
      captured left after outcome magic answers =
          goes_behind left after outcome (go outcome (subst (λ (o : List ℕ). CaptureAnswers front.state o left went after outcome ending)
          (sym front.behind) (answers front.rest front.input)))
        where
          go : (outcome : InputOutcome LineFault) → CaptureAnswers front.state (after_lines count octets) left went after outcome ending
              → IsBehind (record { count = count; state = front.state }) (after_lines count octets) left went after outcome ending
          go (Lines answer) told = absurd told
          go (Capture answer) told = (subst HasMagic (sym begun.0) magic, told.0, told.1)

      -- lines
      pub lined : (left after : Option (List ℕ)) (outcome : InputOutcome LineFault) → HasNoMagic (first_octets beginning)
          → ForSome mid (λ rest. LinesAnswer (record { count = count; state = front.state }) (first_octets beginning ++ rest) left went after
          outcome ending)
          → IsOutcome s octets left before after outcome ending
      lined left after outcome none answers =
          goes_behind left after outcome (go outcome (subst (λ (o : List ℕ). LinesAnswer (record { count = count; state = front.state }) o left went
          after outcome ending) (sym front.behind) (answers front.rest front.input)))
        where
          go : (outcome : InputOutcome LineFault)
              → LinesAnswer (record { count = count; state = front.state }) (after_lines count octets) left went after outcome ending
              → IsBehind (record { count = count; state = front.state }) (after_lines count octets) left went after outcome ending
          go (Lines answer) told = inr (front.other, subst HasNoMagic (sym begun.0) none, inl told)
          go (Capture answer) told = absurd told

      -- an LF is among the first octets
      pub short : HasNoMagic (first_octets beginning) → 0 < lfs_in (first_octets beginning)
          → IsOutcome s octets mid before went (Lines (Err (record { line = with_more count 1; what = Task Field }))) ending
      short none lf = goes_behind mid went _ (inr (
        front.other,
        subst HasNoMagic (sym begun.0) none,
        inr (record {
          stop = record { line = with_more count 1; what = Task Field };
          stopped = refl;
          at = record {
            stopped = refl;
            lf = subst (λ (o : List ℕ). 0 < lfs_in o) (sym begun.0) lf;
            input = front.input ∙ ap Some (sym begun.1);
          };
          output = Appends-nil went;
        }),
      ))

-- which device failed doesn't depend on how many lines stand in front
pub fails_alike : {R W : Type 0} (count : ℕ) (given : Result Finished (Stopped (Cause LineFault))) (input input' : Counted R) (output output' : Counted W)
    → MatchResult given (λ _. HasNotFailed input input' × HasNotFailed output output')
    (λ stop. FailedAt line_rules stop.what input input' output output')
    → OutcomeFailed audit_rules (Lines (answer_behind count given)) input input' output output'
fails_alike count (Ok finished) input input' output output' failed = failed
fails_alike count (Err stop) input input' output output' failed = go stop.what failed
  where
    go : (what : Cause LineFault) → FailedAt line_rules what input input' output output'
        → OutcomeFailed audit_rules (Lines (Err (record { line = with_more stop.line count; what = what }))) input input' output output'
    go what failed = failed
