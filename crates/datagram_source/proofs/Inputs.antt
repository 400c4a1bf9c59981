-- What the first octets of an input tell of all of them.
use Rattle.std.proofs.Common.{◌≡◌, ◌⊎◌, ℕ, ◌<◌, List, ◌++◌, ◌∷◌, [], length, take, drop, inl, inr, refl, sym, ap, subst, ◌∙◌, arith, append-nil, Option, Some, Err}
use Rattle.std.specs.Option.{ForSome}
use Rattle.std.specs.Io.KnownBytes.{Appends, Consumes, IsAtEnd}
use Rattle.std.proofs.Math.Seq.{take-append_seam, drop-append_seam}
use Rattle.std.proofs.lemmas.Grind.{common_steps}
use Rattle.text_lines.specs.declared.fault.Cause.TheVariants.{Reading, Task}
use Rattle.text_lines.specs.declared.fault.ReadingFault.TheVariants.{Read}
use Rattle.text_lines.specs.Lines.{lfs_in}
use Rattle.text_lines.proofs.KnownOctets.{Consumes-known}
use Rattle.capture_file.specs.Beginning.{AreEnough, enough, start_of}
use Rattle.capture_file.specs.Wrong.{HasMagic, HasNoMagic}
use Rattle.text_lines.specs.declared.line_fault.LineFault.TheVariants.{Field}
use Rattle.datagram_source.specs.declared.input.InputOutcome.{InputOutcome}
use Rattle.datagram_source.specs.declared.input.InputOutcome.TheVariants.{Lines, Capture}
use Rattle.datagram_source.specs.Rules.{DatagramRules}
use Rattle.datagram_source.specs.Input.{IsOutcome}
use Rattle.datagram_source.specs.Left.{LeavesInput}
use Rattle.datagram_source.specs.Inner.Outcomes.{LinesAnswer, PacketsAnswer, LinesLeave, PacketsLeave}

cut_at : (n : ℕ) (first rest : List ℕ) → (length first ≡ n) ⊎ ((length first < n) × (rest ≡ []))
    → (take n (first ++ rest) ≡ first) × (drop n (first ++ rest) ≡ rest)
cut_at n first rest (inl all) = (
  ap (λ k. take k (first ++ rest)) (sym all) ∙ take-append_seam first rest,
  ap (λ k. drop k (first ++ rest)) (sym all) ∙ drop-append_seam first rest,
)
cut_at n first rest (inr (fewer, none)) = rw (none, append-nil first) (grind (arith, common_steps), grind (arith, common_steps))

ends : (first rest : List ℕ) (left : Option (List ℕ)) → AreEnough first left → left ≡ Some rest
    → (length first ≡ enough first) ⊎ ((length first < enough first) × (rest ≡ []))
ends first rest left (inl all) is = inl all
ends first rest left (inr (fewer, end)) is = inr (fewer, subst IsAtEnd is end)

-- how many are enough, the first tells
enough_front : (first rest : List ℕ) → (length first ≡ enough first) ⊎ ((length first < enough first) × (rest ≡ []))
    → enough (first ++ rest) ≡ enough first
enough_front [] rest (inl all) = absurd (cc all)
enough_front [] rest (inr (fewer, none)) = ap enough none
enough_front (x ∷ xs) rest is = refl

-- of an input these octets were the first
record IsBegun (octets first rest : List ℕ) (left : Option (List ℕ)) : Type 0 where
  is_left : left ≡ Some rest
  split : octets ≡ first ++ rest
  front : start_of octets ≡ first
  behind : drop (enough octets) octets ≡ rest

is_begun : (all left : Option (List ℕ)) (first octets : List ℕ) → Consumes all left first → AreEnough first left
    → all ≡ Some octets → (rest : List ℕ) × IsBegun octets first rest left
is_begun all left first octets read are known =
    let (rest, is, split) = Consumes-known all left first octets read known in
    let end = ends first rest left are is in
    let cut = cut_at (enough first) first rest end in
    let same = ap enough split ∙ enough_front first rest end in (
      rest,
      record {
        is_left = is;
        split = split;
        front = ap (λ (n : ℕ). take n octets) same ∙ ap (take (enough first)) split ∙ cut.0;
        behind = ap (λ (n : ℕ). drop n octets) same ∙ ap (drop (enough first)) split ∙ cut.1;
      },
    )

-- ---- outcomes
module _ {S F : Type 0} (rules : DatagramRules S F) (start : S) where
  captured_outcome : (head octets : List ℕ) (left before headed after : Option (List ℕ)) (outcome : InputOutcome F)
      → HasMagic (start_of octets) → Appends before headed head
      → PacketsAnswer rules start octets left headed after outcome → IsOutcome rules head start octets left before after outcome
  captured_outcome head octets left before headed after (Lines answer) magic went told = absurd told
  captured_outcome head octets left before headed after (Capture answer) magic went told = (magic, (headed, went, told))

  lines_outcome : (head octets : List ℕ) (left before headed after : Option (List ℕ)) (outcome : InputOutcome F)
      → HasNoMagic (start_of octets) → Appends before headed head
      → LinesAnswer rules start octets left headed after outcome → IsOutcome rules head start octets left before after outcome
  lines_outcome head octets left before headed after (Lines answer) none went told = inr (none, inl (headed, went, told))
  lines_outcome head octets left before headed after (Capture answer) none went told = absurd told

  -- a capture was answered behind its first octets
  pub captured : (head : List ℕ) (all rest left before headed after : Option (List ℕ)) (first : List ℕ) (outcome : InputOutcome F)
      → Consumes all rest first → AreEnough first rest → HasMagic first → Appends before headed head
      → ForSome rest (λ octets. PacketsAnswer rules start (first ++ octets) left headed after outcome)
      → ForSome all (λ octets. IsOutcome rules head start octets left before after outcome)
  captured head all rest left before headed after first outcome read are magic went told = λ octets known.
      let (behind, is) = is_begun all rest first octets read are known in
      captured_outcome head octets left before headed after outcome (subst HasMagic (sym is.front) magic) went
      (subst (λ (o : List ℕ). PacketsAnswer rules start o left headed after outcome) (sym is.split) (told behind is.is_left))

  -- lines were answered behind their first octets
  pub lined : (head : List ℕ) (all rest left before headed after : Option (List ℕ)) (first : List ℕ) (outcome : InputOutcome F)
      → Consumes all rest first → AreEnough first rest → HasNoMagic first → Appends before headed head
      → ForSome rest (λ octets. LinesAnswer rules start (first ++ octets) left headed after outcome)
      → ForSome all (λ octets. IsOutcome rules head start octets left before after outcome)
  lined head all rest left before headed after first outcome read are none went told = λ octets known.
      let (behind, is) = is_begun all rest first octets read are known in
      lines_outcome head octets left before headed after outcome (subst HasNoMagic (sym is.front) none) went
      (subst (λ (o : List ℕ). LinesAnswer rules start o left headed after outcome) (sym is.split) (told behind is.is_left))

  -- an LF is among the first octets
  pub short : (head : List ℕ) (all rest before after : Option (List ℕ)) (first : List ℕ)
      → Consumes all rest first → AreEnough first rest → HasNoMagic first → 0 < lfs_in first → Appends before after head
      → ForSome all (λ octets. IsOutcome rules head start octets rest before after
      (Lines (Err (record { line = 1; what = Task (rules.fault_of Field) }))))
  short head all rest before after first read are none lf went = λ octets known.
      let (behind, is) = is_begun all rest first octets read are known in
      inr (
        subst HasNoMagic (sym is.front) none,
        inr (
          subst (λ (o : List ℕ). 0 < lfs_in o) (sym is.front) lf,
          record { stopped = refl; went = went; input = is.is_left ∙ ap Some (sym is.behind) },
        ),
      )

  -- the reader failed ahead of the fourth octet
  pub failed_ahead : (head : List ℕ) (all rest before after : Option (List ℕ)) (seen : List ℕ) → Consumes all rest seen
      → length seen < 4 → Appends before after head
      → ForSome all (λ octets. IsOutcome rules head start octets rest before after
      (Lines (Err (record { line = 1; what = Reading Read }))))
  failed_ahead head all rest before after seen read few went = λ octets known.
      let (unread, is, split) = Consumes-known all rest seen octets read known in
      inl (seen, unread, split, few, record { stopped = refl; went = went; input = is })

  -- ---- what is left
  lines_leave : (octets : List ℕ) (outcome : InputOutcome F) (Is : S → Type 0)
      → LinesLeave rules start octets outcome Is → LeavesInput rules start octets outcome Is
  lines_leave octets (Lines answer) Is told = told
  lines_leave octets (Capture answer) Is told = absurd told

  packets_leave : (octets : List ℕ) (outcome : InputOutcome F) (Is : S → Type 0)
      → PacketsLeave rules start octets outcome Is → LeavesInput rules start octets outcome Is
  packets_leave octets (Lines answer) Is told = absurd told
  packets_leave octets (Capture answer) Is told = told

  pub lined_left : (all rest : Option (List ℕ)) (first : List ℕ) (outcome : InputOutcome F) (Is : S → Type 0)
      → Consumes all rest first → AreEnough first rest
      → ForSome rest (λ octets. LinesLeave rules start (first ++ octets) outcome Is)
      → ForSome all (λ octets. LeavesInput rules start octets outcome Is)
  lined_left all rest first outcome Is read are told = λ octets known.
      let (behind, is) = is_begun all rest first octets read are known in
      lines_leave octets outcome Is
      (subst (λ (o : List ℕ). LinesLeave rules start o outcome Is) (sym is.split) (told behind is.is_left))

  pub captured_left : (all rest : Option (List ℕ)) (first : List ℕ) (outcome : InputOutcome F) (Is : S → Type 0)
      → Consumes all rest first → AreEnough first rest
      → ForSome rest (λ octets. PacketsLeave rules start (first ++ octets) outcome Is)
      → ForSome all (λ octets. LeavesInput rules start octets outcome Is)
  captured_left all rest first outcome Is read are told = λ octets known.
      let (behind, is) = is_begun all rest first octets read are known in
      packets_leave octets outcome Is
      (subst (λ (o : List ℕ). PacketsLeave rules start o outcome Is) (sym is.split) (told behind is.is_left))
