-- Windows of which each entry is near: since the last tick within one bound, and before it within a greater one.
use Rattle.std.proofs.Common.{◌≡◌, ℕ, ◌+◌, ◌≤◌, List, [], ◌++◌, Option, Some, None, refl, arith}
use Rattle.std.specs.Prelude.{option_to_list}
use Rattle.std.specs.List.{All}
use Rattle.std.proofs.lemmas.List.Elements.{All-nil, All-cons, All-append, All-weaker}
use Rattle.slave_port.specs.Window.{Window, all, last, with_brought}
use Rattle.network_model.proofs.Reports.{first_of}

-- how far behind what came in a window may be: when it came, and what a tick adds at most
pub record Reach : Type 0 where
  pub late : ℕ
  pub between : ℕ

-- with one more, or none
pub All-brought : {E : Type 0} (P : E → Type 0) (brings : Option E) (es : List E) → ((e : E) → brings ≡ Some e → P e)
    → All P es
    → All P (option_to_list brings ++ es)
All-brought P None es each all_are = all_are
All-brought P (Some e) es each all_are = All-cons P e es (each e refl) all_are

module _ {E : Type 0} (P : (bound : ℕ) → E → Type 0) (reach : Reach) where
  -- each entry is within its bound, with so much added since the last tick
  abbrev pub AreNear : (slack : ℕ) → Window E → Type 0
  AreNear slack window =
      All (P (reach.late + slack)) window.since × All (P (reach.late + reach.between + slack)) window.before

  -- with one entry more, or none
  pub near-brought : (slack : ℕ) (brings : Option E) (window : Window E)
      → ((e : E) → brings ≡ Some e → P (reach.late + slack) e)
      → AreNear slack window → AreNear slack (with_brought brings window)
  near-brought slack brings window each near =
      (All-brought (P (reach.late + slack)) brings window.since each near.0, near.1)

  module _ (wider : (b c : ℕ) (e : E) → b ≤ c → P b e → P c e) where
    -- over a tick
    pub near-ticked : (slack : ℕ) (window : Window E) → slack ≤ reach.between → AreNear slack window
        → AreNear 0 (record { since = []; before = window.since })
    near-ticked slack window few near = (
      All-nil (P (reach.late + 0)),
      All-weaker (P (reach.late + slack)) (P (reach.late + reach.between + 0))
          (λ e. wider (reach.late + slack) (reach.late + reach.between + 0) e (omega arith)) window.since near.0,
    )

    -- all of it is within the greater bound
    pub near-all : (slack : ℕ) (window : Window E) → AreNear slack window
        → All (P (reach.late + reach.between + slack)) (all window)
    near-all slack window near =
        All-append (P (reach.late + reach.between + slack)) window.since window.before
        (All-weaker (P (reach.late + slack)) (P (reach.late + reach.between + slack))
        (λ e. wider (reach.late + slack) (reach.late + reach.between + slack) e (omega arith)) window.since near.0)
        near.1

    -- the last one too
    pub near-last : (slack : ℕ) (window : Window E) (e : E) → AreNear slack window → last window ≡ Some e
        → P (reach.late + reach.between + slack) e
    near-last slack window e near is = first_of (P (reach.late + reach.between + slack)) (all window) e
        (near-all slack window near) is

-- what holds of each entry holds of it later
pub near-later : {E : Type 0} (P Q : (bound : ℕ) → E → Type 0) (reach : Reach) (slack more : ℕ) (window : Window E)
    → ((b : ℕ) (e : E) → P (b + slack) e → Q (b + more) e) → AreNear P reach slack window → AreNear Q reach more window
near-later P Q reach slack more window later near = (
  All-weaker (P (reach.late + slack)) (Q (reach.late + more)) (later reach.late) window.since near.0,
  All-weaker (P (reach.late + reach.between + slack)) (Q (reach.late + reach.between + more))
      (later (reach.late + reach.between)) window.before near.1,
)
