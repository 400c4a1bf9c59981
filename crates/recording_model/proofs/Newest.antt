-- The newest entry of a number, and how many are newer; and what a window holds of it, or has as its last, over ticks and
-- with more entries.
use Rattle.std.proofs.Common.{◌≡◌, ◌∙◌, ℕ, zero, suc, ◌+◌, ◌<◌, ◌≤◌, Bool, true, false, List, [], ◌∷◌, ◌++◌}
use Rattle.std.proofs.Common.{Option, Some, None, refl, sym, ap, arith, take, slice_get, if◌then◌else◌, option_map}
use Rattle.std.specs.Prelude.{◌==◌, nat_eq, find}
use Rattle.std.proofs.lemmas.Bool.{ne_eqb, eq-eqb, eqb-true}
use Rattle.pairing.specs.Marked.{Entry, entry, first_value}
use Rattle.slave_port.specs.Window.{Window, all, last, with_brought}
use Rattle.slave_port.specs.Values.{RequestValue}
use Rattle.slave_port.specs.Requests.{stamped}
use Rattle.slave_port.specs.Kept.{held}

module _ {V : Type 0} where
  -- this is the newest of the number, and at most so many are newer
  abbrev pub IsNewest : (count number : ℕ) → V → List (Entry V) → Type 0
  IsNewest count number value es = (c : ℕ) → count < c → first_value number (take c es) ≡ Some value

  -- one more
  pub first-cons : (c number : ℕ) (e : Entry V) (es : List (Entry V))
      → first_value number (take (suc c) (e ∷ es))
      ≡ (if nat_eq e.number number then Some e.value else first_value number (take c es))
  first-cons c number e es = by (nat_eq e.number number)
    where
      by : (same : Bool)
          → option_map (λ (e : Entry V). e.value)
          (if same then Some e else find (λ (e : Entry V). nat_eq e.number number) (take c es))
          ≡ (if same then Some e.value else first_value number (take c es))
      by true = refl
      by false = refl

  pub newest-now : (number : ℕ) (value : V) (es : List (Entry V)) → IsNewest 0 number value (entry number value ∷ es)
  newest-now number value es zero low = absurd (omega arith)
  newest-now number value es (suc c) low =
      first-cons c number (entry number value) es
      ∙ ap (λ (same : Bool). if same then Some value else first_value number (take c es)) (eq-eqb number number refl)

  pub newest-more : (count number : ℕ) (value : V) (e : Entry V) (es : List (Entry V)) → (e.number ≡ number → ⊥)
      → IsNewest count number value es → IsNewest (count + 1) number value (e ∷ es)
  newest-more count number value e es other is zero low = absurd (omega arith)
  newest-more count number value e es other is (suc c) low =
      first-cons c number e es
      ∙ ap (λ (same : Bool). if same then Some e.value else first_value number (take c es)) (ne_eqb e.number number other)
      ∙ is c (omega arith)

  pub newest-fewer : (count more number : ℕ) (value : V) (es : List (Entry V)) → count ≤ more
      → IsNewest count number value es → IsNewest more number value es
  newest-fewer count more number value es grown is c low = is c (omega arith)

  -- what is behind it doesn't matter
  found-before : (c number : ℕ) (value : V) (es more : List (Entry V)) → first_value number (take c es) ≡ Some value
      → first_value number (take c (es ++ more)) ≡ Some value
  found-before zero number value es more is = cc
  found-before (suc c) number value [] more is = cc
  found-before (suc c) number value (e ∷ es) more is =
      first-cons c number e (es ++ more)
      ∙ by (nat_eq e.number number) (sym (first-cons c number e es) ∙ is) (found-before c number value es more)
    where
      by : (same : Bool) → (if same then Some e.value else first_value number (take c es)) ≡ Some value
          → (first_value number (take c es) ≡ Some value → first_value number (take c (es ++ more)) ≡ Some value)
          → (if same then Some e.value else first_value number (take c (es ++ more))) ≡ Some value
      by true is rest = is
      by false is rest = rest is

  pub newest-before : (count number : ℕ) (value : V) (es more : List (Entry V)) → IsNewest count number value es
      → IsNewest count number value (es ++ more)
  newest-before count number value es more is c low = found-before c number value es more (is c low)

  -- it came since the last tick, or before that, after which no more Syncs came than so many
  pub data IsHeldIn (count number : ℕ) (value : V) (window : Window (Entry V)) (syncs came : ℕ) : Type 0 where
    Since : IsNewest count number value window.since → IsHeldIn count number value window syncs came
    Before : IsNewest count number value (all window) → syncs ≤ came → IsHeldIn count number value window syncs came

  pub held-now : (number : ℕ) (value : V) (window : Window (Entry V)) (syncs came : ℕ)
      → IsHeldIn 0 number value (with_brought (Some (entry number value)) window) syncs came
  held-now number value window syncs came = Since (newest-now number value window.since)

  pub held-later : (count more number : ℕ) (value : V) (window : Window (Entry V)) (syncs came later grown : ℕ)
      → count ≤ more → (syncs ≤ came → later ≤ grown) → IsHeldIn count number value window syncs came
      → IsHeldIn more number value window later grown
  held-later count more number value window syncs came later grown wider few (Since is) =
      Since (newest-fewer count more number value window.since wider is)
  held-later count more number value window syncs came later grown wider few (Before is low) =
      Before (newest-fewer count more number value (all window) wider is) (few low)

  pub held-ticked : (count number : ℕ) (value : V) (window : Window (Entry V)) (syncs came after : ℕ)
      → came < syncs → IsHeldIn count number value window syncs came
      → IsHeldIn count number value (record { since = []; before = window.since }) 0 after
  held-ticked count number value window syncs came after many (Since is) = Before is (omega arith)
  held-ticked count number value window syncs came after many (Before is low) = absurd (omega arith)

  -- with what a message brings, of another number
  pub held-brought : (count more number : ℕ) (value : V) (brings : Option (Entry V)) (window : Window (Entry V))
      (syncs came : ℕ) → count ≤ more
      → ((e : Entry V) → brings ≡ Some e → (e.number ≡ number → ⊥) × (count + 1 ≤ more))
      → IsHeldIn count number value window syncs came → IsHeldIn more number value (with_brought brings window) syncs came
  held-brought count more number value None window syncs came wider each is =
      held-later count more number value window syncs came syncs came wider (λ low. low) is
  held-brought count more number value (Some e) window syncs came wider each (Since is) =
      let one = each e refl in
      let room : count + 1 ≤ more = one.1 in
      Since (newest-fewer (count + 1) more number value (e ∷ window.since) room
      (newest-more count number value e window.since one.0 is))
  held-brought count more number value (Some e) window syncs came wider each (Before is low) =
      let one = each e refl in
      let room : count + 1 ≤ more = one.1 in
      Before (newest-fewer (count + 1) more number value (e ∷ all window) room
      (newest-more count number value e (all window) one.0 is)) low

  -- it is found among those that are held
  pub held-found : (count number : ℕ) (value : V) (window : Window (Entry V)) (syncs came capacity : ℕ)
      → count < capacity → IsHeldIn count number value window syncs came
      → first_value number (held capacity window) ≡ Some value
  held-found count number value window syncs came capacity few (Since is) =
      newest-before count number value window.since window.before is capacity few
  held-found count number value window syncs came capacity few (Before is low) = is capacity few

module _ {C : Type 0} where
  -- the last of a window, which came since the last tick, or before that, after which no more Syncs came than so many
  pub data IsLastIn (c : C) (window : Window C) (syncs came : ℕ) : Type 0 where
    LastSince : slice_get window.since 0 ≡ Some c → IsLastIn c window syncs came
    LastBefore : slice_get (all window) 0 ≡ Some c → syncs ≤ came → IsLastIn c window syncs came

  pub last-now : (c : C) (window : Window C) (syncs came : ℕ) → IsLastIn c (with_brought (Some c) window) syncs came
  last-now c window syncs came = LastSince refl

  pub last-later : (c : C) (window : Window C) (syncs came later grown : ℕ) → (syncs ≤ came → later ≤ grown)
      → IsLastIn c window syncs came → IsLastIn c window later grown
  last-later c window syncs came later grown few (LastSince is) = LastSince is
  last-later c window syncs came later grown few (LastBefore is low) = LastBefore is (few low)

  pub last-ticked : (c : C) (window : Window C) (syncs came after : ℕ) → came < syncs → IsLastIn c window syncs came
      → IsLastIn c (record { since = []; before = window.since }) 0 after
  last-ticked c window syncs came after many (LastSince is) = LastBefore is (omega arith)
  last-ticked c window syncs came after many (LastBefore is low) = absurd (omega arith)

  -- with nothing more
  pub last-brought : (c : C) (brings : Option C) (window : Window C) (syncs came : ℕ) → brings ≡ None
      → IsLastIn c window syncs came → IsLastIn c (with_brought brings window) syncs came
  last-brought c None window syncs came none is = is
  last-brought c (Some other) window syncs came none is = cc

  pub last-found : (c : C) (window : Window C) (syncs came : ℕ) → IsLastIn c window syncs came → last window ≡ Some c
  last-found c window syncs came (LastSince is) = by window.since is
    where
      by : (since : List C) → slice_get since 0 ≡ Some c → slice_get (since ++ window.before) 0 ≡ Some c
      by [] is = cc
      by (first ∷ others) is = is
  last-found c window syncs came (LastBefore is low) = is

-- the newest of a number is as it was where another one departed
module _ (number : ℕ) (value : RequestValue) (other t3 : ℕ) (apart : other ≡ number → ⊥) where
  rest_is : (c : ℕ) (e : Entry RequestValue) (es : List (Entry RequestValue)) → (e.number ≡ number → ⊥)
      → first_value number (take (suc c) (e ∷ es)) ≡ Some value → first_value number (take c es) ≡ Some value
  rest_is c e es unlike is =
      sym (ap (λ (b : Bool). if b then Some e.value else first_value number (take c es))
      (ne_eqb e.number number unlike))
      ∙ sym (first-cons c number e es) ∙ is

  found-stamped : (c : ℕ) (es : List (Entry RequestValue)) → first_value number (take c es) ≡ Some value
      → first_value number (take c (stamped other t3 es)) ≡ Some value
  found-stamped zero es is = cc
  found-stamped (suc c) [] is = cc
  found-stamped (suc c) (e ∷ es) is = by (e.number == other) refl (found-stamped c es)
    where
      past : (b : Bool) → (if b then Some e.value else first_value number (take c es)) ≡ Some value
          → (first_value number (take c es) ≡ Some value
          → first_value number (take c (stamped other t3 es)) ≡ Some value)
          → (if b then Some e.value else first_value number (take c (stamped other t3 es))) ≡ Some value
      past true is rest = is
      past false is rest = rest is

      by : (same : Bool) → (e.number == other) ≡ same
          → (first_value number (take c es) ≡ Some value
          → first_value number (take c (stamped other t3 es)) ≡ Some value)
          → first_value number
          (take (suc c)
          (if same then entry other (record { t3 = Some t3; tag = e.value.tag }) ∷ es else e ∷ stamped other t3 es))
          ≡ Some value
      by true same rest =
          let one : e.number ≡ other = eqb-true e.number other same in
          let left : Entry RequestValue = entry other (record { t3 = Some t3; tag = e.value.tag }) in
          first-cons c number left es
          ∙ ap (λ (b : Bool). if b then Some left.value else first_value number (take c es))
          (ne_eqb other number apart)
          ∙ rest_is c e es (λ (same_number : e.number ≡ number). apart (sym one ∙ same_number)) is
      by false same rest =
          first-cons c number e (stamped other t3 es)
          ∙ past (nat_eq e.number number) (sym (first-cons c number e es) ∙ is) rest

  pub newest-stamped : (count : ℕ) (es : List (Entry RequestValue)) → IsNewest count number value es
      → IsNewest count number value (stamped other t3 es)
  newest-stamped count es is c low = found-stamped c es (is c low)
