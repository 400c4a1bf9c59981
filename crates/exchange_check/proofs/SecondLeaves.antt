-- The second line that leaves a stay, with one more line.
use Rattle.std.proofs.Common.{◌≡◌, ◌∙◌, ℕ, ◌<◌, Bool, true, false, ◌&&◌, cond, eqb, [], ◌∷◌, length, Option, Some}
use Rattle.std.proofs.Common.{None, refl, sym, ap, subst, arith, is_some}
use Rattle.std.specs.Prelude.{not, nat_lt}
use Rattle.std.specs.Option.{option_or, option_map_or}
use Rattle.std.proofs.lemmas.Bool.{eqb-true, eq-eqb, lt-ltb}
use Rattle.std.proofs.lemmas.Bool.Decides.{nat_tests}
use Rattle.std.proofs.lemmas.Option.{none-some, same_Some}
use Rattle.network_model.specs.Network.{Network}
use Rattle.network_model.specs.Kinds.{is_leave_of, named_transit}
use Rattle.trace_model.specs.declared.line.TraceLine.{TraceLine}
use Rattle.trace_model.specs.Line.{Lines, counts}
use Rattle.trace_model.specs.Record.{line_place}
use Rattle.trace_model.specs.Finding.{leave_of}
use Rattle.exchange_check.specs.Evidence.{Table, second_leave_of, second_leaves}
use Rattle.exchange_check.specs.Inner.Noting.{with_entry, is_left_again, seconds_with}
use Rattle.exchange_check.proofs.Noted.{firsts_at}
use Rattle.exchange_check.proofs.Options.{or_none}
use Rattle.exchange_check.proofs.Told.{fact_of}

-- second Leave lines
module _ (network : Network) where
  leave-bound : (transit : ℕ) (lines : Lines) (n : ℕ) → leave_of network transit lines ≡ Some n → n < length lines
  leave-bound transit [] n h = absurd (none-some n h)
  leave-bound transit (line ∷ earlier) n h =
      by (leave_of network transit earlier) refl (counts network line && is_leave_of transit line.event) h
      (leave-bound transit earlier)
    where
      by : (o : Option ℕ) → leave_of network transit earlier ≡ o → (b : Bool)
          → option_or o (cond b (Some (length earlier)) None) ≡ Some n
          → ((m : ℕ) → leave_of network transit earlier ≡ Some m → m < length earlier) → n < length (line ∷ earlier)
      by (Some m) is b e bound =
          let low : m < length earlier = bound m is in
          omega (arith, low, same_Some m n e)
      by None is true e bound = omega (arith, same_Some (length earlier) n e)
      by None is false e bound = absurd (none-some n e)

  -- a line that leaves no stay again
  seconds-same : (line : TraceLine) (earlier : Lines)
      → ((t : ℕ) → (counts network line && is_leave_of t line.event && is_some (leave_of network t earlier)) ≡ false)
      → second_leaves network (line ∷ earlier) ≡ second_leaves network earlier
  seconds-same line earlier none = λ i t.
      (ap (λ (b : Bool). option_or (second_leave_of network t earlier) (cond b (Some (length earlier)) None)) (none t)
      ∙ or_none (second_leave_of network t earlier)) i

  module _ (line : TraceLine) (earlier : Lines) (transit : ℕ) (counted : counts network line ≡ true)
      (named : named_transit line.event ≡ Some transit) where
    abbrev n : ℕ
    n = length earlier

    abbrev sec : Table ℕ
    sec = second_leaves network earlier

    leave_is : (t : ℕ) → (counts network line && is_leave_of t line.event) ≡ eqb transit t
    leave_is t = λ i. counted i && option_map_or (λ x. eqb x t) (named i) false

    self : eqb transit transit ≡ true
    self = eq-eqb transit transit refl

    first_is : leave_of network transit (line ∷ earlier) ≡ option_or (leave_of network transit earlier) (Some n)
    first_is = λ i. option_or (leave_of network transit earlier) (cond ((leave_is transit ∙ self) i) (Some n) None)

    not_below : nat_lt n n ≡ false
    not_below = grind (arith, nat_tests)

    at_itself : (l s : Option ℕ) → leave_of network transit earlier ≡ l
        → option_or s (cond (true && is_some l) (Some n) None)
        ≡ cond (option_map_or (λ first. nat_lt first n) (option_or l (Some n)) false && not (is_some s))
        (option_or (Some n) s) s
    at_itself (Some m) s e =
        let low : m < n = leave-bound transit earlier m e in
        let test : nat_lt m n ≡ true = lt-ltb m n low in
        by s ∙ sym (λ i. cond (test i && not (is_some s)) (option_or (Some n) s) s)
      where
        by : (s : Option ℕ) → option_or s (Some n) ≡ cond (not (is_some s)) (option_or (Some n) s) s
        by None = refl
        by (Some k) = refl
    at_itself None s e = or_none s ∙ sym (λ i. cond (not_below i && not (is_some s)) (option_or (Some n) s) s)

    at_other : (again : Bool) (t : ℕ) → option_or (sec t) None ≡ cond again (option_or None (sec t)) (sec t)
    at_other true t = or_none (sec t)
    at_other false t = or_none (sec t)

    abbrev again : Bool
    again = is_left_again (firsts_at network (line ∷ earlier)) sec n transit

    second_at : (t : ℕ) (here : Bool) → eqb transit t ≡ here
        → second_leave_of network t (line ∷ earlier)
        ≡ cond again (option_or (cond (eqb transit t) (Some n) None) (sec t)) (sec t)
    second_at t false other =
        (λ i. option_or (sec t) (cond ((leave_is t ∙ other) i && is_some (leave_of network t earlier)) (Some n) None))
        ∙ at_other again t
        ∙ sym (λ i. cond again (option_or (cond (other i) (Some n) None) (sec t)) (sec t))
    second_at t true here =
        subst (λ (x : ℕ). second_leave_of network x (line ∷ earlier)
        ≡ cond again (option_or (cond (eqb transit x) (Some n) None) (sec x)) (sec x)) (eqb-true transit t here)
        ((λ i. option_or (sec transit)
        (cond ((leave_is transit ∙ self) i && is_some (leave_of network transit earlier)) (Some n) None))
        ∙ at_itself (leave_of network transit earlier) (sec transit) refl
        ∙ sym (λ i. cond (option_map_or (λ first. nat_lt first n) (first_is i) false && not (is_some (sec transit)))
        (option_or (cond (self i) (Some n) None) (sec transit)) (sec transit)))

    second-left : second_leaves network (line ∷ earlier)
        ≡ cond again (with_entry transit (Some n) sec) sec
    second-left = (λ i t. second_at t (eqb transit t) refl i) ∙ whole again
      where
        each : Bool → Table ℕ
        each b t = cond b (option_or (cond (eqb transit t) (Some n) None) (sec t)) (sec t)

        whole : (b : Bool) → each b ≡ cond b (with_entry transit (Some n) sec) sec
        whole true = refl
        whole false = refl

  module _ (line : TraceLine) (earlier : Lines) (counted : counts network line ≡ true) where
    abbrev firsts_now : ℕ → Option ℕ
    firsts_now = firsts_at network (line ∷ earlier)

    abbrev seconds_before : Table ℕ
    seconds_before = second_leaves network earlier

    seconds_by : (o : Option ℕ) → named_transit line.event ≡ o
        → second_leaves network (line ∷ earlier) ≡ option_map_or
        (λ transit. cond (is_left_again firsts_now seconds_before (length earlier) transit)
        (with_entry transit (Some (length earlier)) seconds_before) seconds_before) o seconds_before
    seconds_by None named = seconds-same line earlier (λ t i.
        counted i && option_map_or (λ x. eqb x t) (named i) false && is_some (leave_of network t earlier))
    seconds_by (Some transit) named = second-left line earlier transit counted named

    pub seconds-more : second_leaves network (line ∷ earlier)
        ≡ seconds_with firsts_now (fact_of network (line_place line earlier)) seconds_before
    seconds-more = seconds_by (named_transit line.event) refl

  pub seconds-unchanged : (line : TraceLine) (earlier : Lines) → counts network line ≡ false
      → second_leaves network (line ∷ earlier) ≡ second_leaves network earlier
  seconds-unchanged line earlier h = seconds-same line earlier
      (λ t i. h i && is_leave_of t line.event && is_some (leave_of network t earlier))
