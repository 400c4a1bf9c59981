-- Results in front of all else, one after the other.
use Rattle.std.proofs.Common.{◌≡◌, ◌∙◌, inl, inr, ℕ, zero, suc, ◌+◌, ◌-◌, ◌^◌, ◌<◌, ◌≤◌, ◌==◌, Bool, true, false, not, List, [], ◌∷◌, ◌++◌, length, take, drop, Option, Some, Err, Ok, refl, sym, ap, subst, arith, add-one}
use Rattle.std.specs.Prelude.{All, ⊤, if◌then◌else◌}
use Rattle.std.specs.Io.BufRead.{drop_through, ends_with_byte}
use Rattle.std.specs.Io.KnownBytes.{Appends, Consumes, IsAtEnd, prepend_known}
use Rattle.std.proofs.Math.Dec.{eqb-suc-zero}
use Rattle.std.proofs.lemmas.Bool.{eqb-true, true≢false}
use Rattle.std.proofs.lemmas.List.Elements.{All-nil, All-push}
use Rattle.text_lines.specs.declared.fault.Cause.TheVariants.{Reading, Task}
use Rattle.text_lines.specs.declared.fault.ReadingFault.{ReadingFault}
use Rattle.text_lines.specs.declared.fault.ReadingFault.TheVariants.{Read, LineTooLong, TooManyLines}
use Rattle.text_lines.specs.declared.line_fault.LineFault.{LineFault}
use Rattle.text_lines.specs.Fault.{is_write}
use Rattle.text_lines.specs.Lines.{begin_line, lines_of, after_lines, without_cr}
use Rattle.text_lines.specs.Task.{WentOut}
use Rattle.text_lines.specs.Inner.Reading.{ReadsLine, StopsReading}
use Rattle.text_lines.proofs.KnownOctets.{Consumes-known}
use Rattle.text_lines.proofs.Reading.{line_ended, line_last, line_too_long, line_failed, beyond_last}
use Rattle.text_lines.proofs.TakenLines.{HasTaken, begun, taken_more, stopped_reading, stopped_taking}
use Rattle.capture_file.specs.Beginning.{AreEnough}
use Rattle.audit_command.specs.Audit.{Audited}
use Rattle.audit_command.specs.AuditLines.{StopsAs, TakesAs, is_told, line_rules, nothing_read}
use Rattle.audit_command.specs.Input.{HasTold, StopsInFront}
use Rattle.audit_command.specs.Inner.Front.{ReadsRest, StopsFront}

-- so many results in front were taken
pub record FrontSoFar (s : Audited) (octets : List ℕ) (before : Option (List ℕ)) (count : ℕ) (state : Audited) (left now : Option (List ℕ)) : Type 0 where
  pub ended : Bool
  pub at_end : ended ≡ true → after_lines count octets ≡ []
  pub taken : HasTaken line_rules (nothing_read s) octets before count ended (record { count = count; state = state }) left now
  pub told : All (λ line. is_told line ≡ true) (take count (lines_of octets))

pub none_so_far : (s : Audited) (octets : List ℕ) (left now : Option (List ℕ)) → left ≡ Some octets → FrontSoFar s octets now 0 s left now
none_so_far s octets left now known = record {
  ended = false;
  at_end = λ is. absurd (true≢false (sym is));
  taken = begun line_rules (nothing_read s) octets left now known;
  told = All-nil (λ line. is_told line ≡ true);
}

-- ---- a line that tells a result
-- its CR at the end is none of its first octets
fewer : (ys : List ℕ) → suc (suc (length ys)) - 1 ≡ suc (length ys)
fewer ys = omega arith

pub told_stripped : (more : List ℕ) → is_told (without_cr (123 ∷ more)) ≡ true
told_stripped [] = refl
told_stripped (y ∷ ys) =
    elim (ends_with_byte 13 (123 ∷ y ∷ ys)) as (λ b. is_told (if b then take (length (123 ∷ y ∷ ys) - 1) (123 ∷ y ∷ ys) else 123 ∷ y ∷ ys) ≡ true) [
      | true ↦ ap (λ (n : ℕ). is_told (take n (123 ∷ y ∷ ys))) (fewer ys)
      | false ↦ refl
    ]

begins_told : (lines : List (List ℕ)) → (line : List ℕ) × (others : List (List ℕ)) × (begin_line 123 lines ≡ line ∷ others) × (is_told line ≡ true)
begins_told [] = (123 ∷ [], [], refl, refl)
begins_told (line ∷ lines) = (123 ∷ line, lines, refl, refl)

-- octets that begin with it
told_line : (rest : List ℕ) → (line : List ℕ) × (others : List (List ℕ)) × (lines_of (123 ∷ rest) ≡ line ∷ others) × (is_told line ≡ true)
told_line rest = begins_told (lines_of rest)

after_lines-suc : (count : ℕ) (octets : List ℕ) → after_lines (suc count) octets ≡ drop_through 10 (after_lines count octets)
after_lines-suc zero octets = refl
after_lines-suc (suc count) octets = after_lines-suc count (drop_through 10 octets)

after_lines-more : (count : ℕ) (octets : List ℕ) → after_lines (count + 1) octets ≡ after_lines 1 (after_lines count octets)
after_lines-more count octets = rw add-one (after_lines-suc count octets)

-- behind the last line that is allowed
beyond_count : (a b : Option (List ℕ)) (x limit count : ℕ) (octets : List ℕ) → count ≡ limit → Consumes a b (x ∷ []) → a ≡ Some octets
    → StopsReading TooManyLines limit (count + 1) octets b
beyond_count a b x limit count octets last first known =
    subst (λ (n : ℕ). StopsReading TooManyLines limit (n + 1) octets b) (sym last) (beyond_last a b x limit octets first known)

-- one more of a list
upto_more : {A : Type 0} (k : ℕ) (xs : List A) (y : A) (ys : List A) → drop k xs ≡ y ∷ ys
    → (take (k + 1) xs ≡ take k xs ++ y ∷ []) × (k < length xs)
upto_more zero [] y ys e = absurd cc
upto_more zero (x ∷ xs) y ys e = (cc, omega arith)
upto_more (suc k) [] y ys e = absurd cc
upto_more (suc k) (x ∷ xs) y ys e =
    let inner = upto_more k xs y ys e in
    (rw add-one (ap (λ l. x ∷ l) (rw add-one at inner.0)), omega (arith, inner.1))

module _ (s : Audited) (octets : List ℕ) (before : Option (List ℕ)) (count : ℕ) (state : Audited) (left now : Option (List ℕ))
    (so_far : FrontSoFar s octets before count state left now)
  where
    -- what is behind them was read on by this octet
    module _ (mid : Option (List ℕ)) (read : Consumes left mid (123 ∷ [])) where
      behind_them : (rest : List ℕ) × (mid ≡ Some rest) × (after_lines count octets ≡ 123 ∷ rest)
      behind_them = Consumes-known left mid (123 ∷ []) (after_lines count octets) read so_far.taken.input

      unended : so_far.ended ≡ false
      unended = go so_far.ended so_far.at_end
        where
          go : (ended : Bool) → (ended ≡ true → after_lines count octets ≡ []) → ended ≡ false
          go false at_end = refl
          go true at_end = absurd (cc (sym (at_end refl) ∙ behind_them.2))

      not_ended : HasTaken line_rules (nothing_read s) octets before count false (record { count = count; state = state }) left now
      not_ended = subst (λ (e : Bool). HasTaken line_rules (nothing_read s) octets before count e (record { count = count; state = state }) left now)
          unended so_far.taken

      known : prepend_known (123 ∷ []) mid ≡ Some (after_lines count octets)
      known = ap (prepend_known (123 ∷ [])) behind_them.1 ∙ ap Some (sym behind_them.2)

      -- the next line tells one, too
      one_more : All (λ line. is_told line ≡ true) (take (count + 1) (lines_of octets)) × (count + 1 ≤ length (lines_of octets))
      one_more =
          let (line, others, cut, tells) = told_line behind_them.0 in
          let more = upto_more count (lines_of octets) line others (so_far.taken.rest ∙ ap lines_of behind_them.2 ∙ cut) in (
            subst (All (λ line. is_told line ≡ true)) (sym more.0)
                (All-push (λ line. is_told line ≡ true) (take count (lines_of octets)) line so_far.told tells),
            omega (arith, more.1),
          )

      -- ---- a fault in reading
      pub too_many : count ≡ 2 ^ 64 - 2 → StopsInFront s octets mid before now (record { line = count + 1; what = Reading TooManyLines })
      too_many last = record {
        told = one_more.0;
        within = one_more.1;
        stops = stopped_reading line_rules (nothing_read s) octets before count (record { count = count; state = state }) left mid now (count + 1)
            TooManyLines not_ended refl
            (beyond_count left mid 123 (2 ^ 64 - 2) count (after_lines count octets) last read so_far.taken.input);
      }

      module _ (allowed : count < 2 ^ 64 - 2) (line : List ℕ) (after : Option (List ℕ)) where
        pub not_read : (fault : ReadingFault) → ReadsRest {T = ⊤} (Err fault) (123 ∷ []) line mid after
            → StopsInFront s octets after before now (record { line = count + 1; what = Reading fault })
        not_read fault reads = record {
          told = one_more.0;
          within = one_more.1;
          stops = stopped_reading line_rules (nothing_read s) octets before count (record { count = count; state = state }) left after now (count + 1)
              fault not_ended refl (stops fault reads);
        }
          where
            stops : (fault : ReadingFault) → ReadsRest {T = ⊤} (Err fault) (123 ∷ []) line mid after
                → StopsReading fault (2 ^ 64 - 2) (count + 1) (after_lines count octets) after
            stops Read (more, begins, no_lf, fits, reads) =
                line_failed (prepend_known (123 ∷ []) mid) after line (2 ^ 64 - 2) count (after_lines count octets) reads no_lf fits allowed known
            stops LineTooLong (more, begins, no_lf, full, x, other, reads) =
                line_too_long (prepend_known (123 ∷ []) mid) after line x (2 ^ 64 - 2) count (after_lines count octets) reads other no_lf full
                allowed known
            stops TooManyLines reads = absurd reads

        -- ---- a line
        abbrev IsRead : (ended : Bool) → Type 0
        IsRead ended = ReadsLine true (2 ^ 64 - 2) (count + 1) line ended (after_lines count octets) after
            × (ended ≡ true → after_lines (count + 1) octets ≡ []) × (is_told (without_cr line) ≡ true)

        is_read : ReadsRest {T = ⊤} (Ok tt) (123 ∷ []) line mid after → (ended : Bool) × IsRead ended
        is_read (more, begins, no_lf, fits, inl reads) = (
          false,
          (
            line_ended (prepend_known (123 ∷ []) mid) after line (2 ^ 64 - 2) count (after_lines count octets) reads no_lf fits allowed known,
            λ is. absurd (true≢false (sym is)),
            subst (λ (l : List ℕ). is_told (without_cr l) ≡ true) (sym begins) (told_stripped more),
          ),
        )
        is_read (more, begins, no_lf, fits, inr (reads, end)) =
            let some : not (length line == 0) ≡ true = ap (λ (l : List ℕ). not (length l == 0)) begins ∙ ap not (eqb-suc-zero (length more)) in
            let last = subst (λ (b : Bool). ReadsLine b (2 ^ 64 - 2) (count + 1) line true (after_lines count octets) after) some
            (line_last (prepend_known (123 ∷ []) mid) after line (2 ^ 64 - 2) count (after_lines count octets) reads end no_lf fits allowed known) in (
              true,
              (
                last,
                λ is. after_lines-more count octets ∙ subst IsAtEnd last.2 end,
                subst (λ (l : List ℕ). is_told (without_cr l) ≡ true) (sym begins) (told_stripped more),
              ),
            )

        -- it was taken
        pub taken_too : (later : Audited) (went_to : Option (List ℕ)) (out : List ℕ) → ReadsRest {T = ⊤} (Ok tt) (123 ∷ []) line mid after
            → TakesAs true (count + 1) (without_cr line) state later out → Appends now went_to out
            → FrontSoFar s octets before (count + 1) later after went_to
        taken_too later went_to out reads takes went =
            let (ended, (is, end, tells)) = is_read reads in record {
              ended = ended;
              at_end = end;
              taken = taken_more line_rules (nothing_read s) octets before count ended (record { count = count; state = state })
                  (record { count = count + 1; state = later }) left after now went_to line out not_ended is
                  (refl, subst (λ (b : Bool). TakesAs b (count + 1) (without_cr line) state later out) (sym tells) takes) went;
              told = one_more.0;
            }

        -- or it stopped it
        pub not_taken : (fault : LineFault) (went_to : Option (List ℕ)) (out : List ℕ) → ReadsRest {T = ⊤} (Ok tt) (123 ∷ []) line mid after
            → StopsAs true (count + 1) (without_cr line) state fault out → WentOut (is_write fault) (Appends now went_to out)
            → StopsInFront s octets after before went_to (record { line = count + 1; what = Task fault })
        not_taken fault went_to out reads stops went =
            let (ended, (is, end, tells)) = is_read reads in record {
              told = one_more.0;
              within = one_more.1;
              stops = stopped_taking line_rules (nothing_read s) octets before count ended (record { count = count; state = state }) left after now went_to
                  (count + 1) line fault out not_ended refl is
                  (subst (λ (b : Bool). StopsAs b (count + 1) (without_cr line) state fault out) (sym tells) stops) went;
            }

    -- ---- what is behind them
    pub has_told : HasTold s octets (record { count = count; state = state }) so_far.taken.text
    has_told = record { within = so_far.taken.within; told = so_far.told; taken = so_far.taken.taken }

    -- the reader failed there
    pub failed_behind : (mid : Option (List ℕ)) (seen : List ℕ) → Consumes left mid seen → length seen < 4
        → StopsFront s octets mid before now (record { line = count + 1; what = Reading Read })
    failed_behind mid seen read few =
        let (unread, is, split) = Consumes-known left mid seen (after_lines count octets) read so_far.taken.input in
        inr (
          record { count = count; state = state },
          so_far.taken.text,
          has_told,
          so_far.taken.output,
          record { stopped = refl; seen = seen; unread = unread; split = split; few = few; input = is },
        )

    -- what was read of it begins otherwise, and so does it
    pub other_behind : (mid : Option (List ℕ)) (first : List ℕ) → Consumes left mid first → AreEnough first mid → is_told first ≡ false
        → (rest : List ℕ) × (mid ≡ Some rest) × (after_lines count octets ≡ first ++ rest) × (is_told (after_lines count octets) ≡ false)
    other_behind mid first read are other =
        let (rest, is, split) = Consumes-known left mid first (after_lines count octets) read so_far.taken.input in
        (rest, is, split, ap is_told split ∙ go first rest are is other)
      where
        go : (first rest : List ℕ) → AreEnough first mid → mid ≡ Some rest → is_told first ≡ false → is_told (first ++ rest) ≡ false
        go [] rest (inl all) is other = absurd (cc all)
        go [] rest (inr (fewer, end)) is other = ap is_told (subst IsAtEnd is end)
        go (x ∷ xs) rest are is other = other

-- where it begins so, one octet was read of it
alone : (xs : List ℕ) (left : Option (List ℕ)) → AreEnough (123 ∷ xs) left → 123 ∷ xs ≡ 123 ∷ []
alone [] left are = refl
alone (y ∷ ys) left (inl all) = absurd (omega (arith, all))
alone (y ∷ ys) left (inr (fewer, end)) = absurd (omega (arith, fewer))

pub one_octet : (first : List ℕ) (left : Option (List ℕ)) → AreEnough first left → is_told first ≡ true → first ≡ 123 ∷ []
one_octet [] left are is = absurd (true≢false (sym is))
one_octet (x ∷ xs) left are is =
    let same : x ≡ 123 = eqb-true x 123 is in
    ap (λ (y : ℕ). y ∷ xs) same ∙ alone xs left (subst (λ (y : ℕ). AreEnough (y ∷ xs) left) same are)
