-- Tables of what lines say, with one more line.
use Rattle.std.proofs.Common.{◌≡◌, ◌∙◌, ℕ, ◌≤◌, Bool, true, false, cond, eqb, [], ◌∷◌, length, Option, Some, None}
use Rattle.std.proofs.Common.{refl, sym, ap, arith}
use Rattle.std.specs.Prelude.{option_map, option_and_then}
use Rattle.std.specs.Option.{option_or}
use Rattle.std.proofs.lemmas.Bool.{eqb-true}
use Rattle.std.proofs.lemmas.Bool.Decides.{nat_tests}
use Rattle.network_model.specs.Network.{Network}
use Rattle.trace_model.specs.declared.line.TraceLine.{TraceLine}
use Rattle.trace_model.specs.Line.{Lines, counts}
use Rattle.trace_model.specs.Record.{LinePlace, line_place, line_at}
use Rattle.trace_model.proofs.Lines.{line_at-bound}
use Rattle.exchange_check.specs.declared.kept_line.Uncounted.{Uncounted}
use Rattle.exchange_check.specs.Evidence.{Table, uncounted_at}
use Rattle.exchange_check.specs.Inner.Noting.{mapped, with_entry, slim}
use Rattle.exchange_check.proofs.Options.{or_none, map_or}

-- there is no line yet of the next number
line_at-next : (network : Network) (lines : Lines) (n : ℕ) → length lines ≡ n → line_at network lines n ≡ None
line_at-next network lines n last = by (line_at network lines n) refl
  where
    by : (o : Option LinePlace) → line_at network lines n ≡ o → o ≡ None
    by None h = refl
    by (Some e) h = absurd (omega (arith, line_at-bound network lines n e h, last))

-- a table of what lines say, with one more line
module _ (network : Network) {X : Type 0} (f : LinePlace → Option X) where
  abbrev pub table : Lines → Table X
  table lines n = option_and_then f (line_at network lines n)

  module _ (e : LinePlace) where
    either : (here counted : Bool) (o : Option LinePlace) → (here ≡ true → o ≡ None)
        → option_and_then f (cond here (cond counted (Some e) None) o)
        ≡ option_or (cond here (cond counted (f e) None) None) (option_and_then f o)
    either false counted o none = refl
    either true true o none =
        sym (ap (λ (x : Option LinePlace). option_or (f e) (option_and_then f x)) (none refl) ∙ or_none (f e))
    either true false o none = sym (ap (λ (x : Option LinePlace). option_and_then f x) (none refl))

  pub table-more : (line : TraceLine) (earlier : Lines) (counted : Bool) → counts network line ≡ counted
      → table (line ∷ earlier)
      ≡ with_entry (length earlier) (cond counted (f (line_place line earlier)) None) (table earlier)
  table-more line earlier counted h = λ i n. (ap (λ (c : Bool). option_and_then f
      (cond (eqb (length earlier) n) (cond c (Some (line_place line earlier)) None) (line_at network earlier n))) h
      ∙ either (line_place line earlier) (eqb (length earlier) n) counted (line_at network earlier n)
      (λ e. line_at-next network earlier n (eqb-true (length earlier) n e))) i

-- a table without a new entry
pub no-entry : {X : Type 0} (n : ℕ) (table : Table X) → with_entry n None table ≡ table
no-entry n table = λ i k. by (eqb n k) (table k) i
  where
    by : {X : Type 0} (here : Bool) (o : Option X) → option_or (cond here None None) o ≡ o
    by true o = refl
    by false o = refl

-- lines that don't count
module _ (network : Network) where
  uncounted-next : (lines : Lines) (n : ℕ) → length lines ≤ n → uncounted_at network lines n ≡ None
  uncounted-next [] n last = refl
  uncounted-next (line ∷ earlier) n last =
      let other : eqb (length earlier) n ≡ false = grind (arith, nat_tests) in
      (λ i. cond (other i) (cond (counts network line) None (Some (slim line))) (uncounted_at network earlier n))
      ∙ uncounted-next earlier n (omega (arith, last))

  either_uncounted : (here counted : Bool) (line : TraceLine) (o : Option Uncounted) → (here ≡ true → o ≡ None)
      → cond here (cond counted None (Some (slim line))) o
      ≡ option_or (cond here (cond counted None (Some (slim line))) None) o
  either_uncounted false counted line o none = refl
  either_uncounted true true line o none = sym (none refl)
  either_uncounted true false line o none = refl

  pub uncounted-more : (line : TraceLine) (earlier : Lines) (counted : Bool) → counts network line ≡ counted
      → uncounted_at network (line ∷ earlier)
      ≡ with_entry (length earlier) (cond counted None (Some (slim line))) (uncounted_at network earlier)
  uncounted-more line earlier counted h = λ i n.
      (ap (λ (c : Bool). cond (eqb (length earlier) n) (cond c None (Some (slim line)))
      (uncounted_at network earlier n)) h
      ∙ either_uncounted (eqb (length earlier) n) counted line (uncounted_at network earlier n)
      (λ e. uncounted-next earlier n (omega (arith, eqb-true (length earlier) n e)))) i

-- a table in other words
pub entry-mapped : {X Y : Type 0} (f : X → Y) (n : ℕ) (entry : Option X) (table : Table X)
    → mapped f (with_entry n entry table) ≡ with_entry n (option_map f entry) (mapped f table)
entry-mapped {X} {Y} f n entry table = λ i k.
    (map_or f (cond (eqb n k) entry None) (table k)
    ∙ ap (λ (o : Option Y). option_or o (option_map f (table k))) (by (eqb n k))) i
  where
    by : (here : Bool) → option_map f (cond here entry None) ≡ cond here (option_map f entry) None
    by true = refl
    by false = refl
