-- What an event leaves at its own node.
use Rattle.std.proofs.Common.{◌≡◌, ◌∙◌, ℕ, ◌+◌, Bool, true, false, List, ◌∷◌, ◌++◌, count_by, if◌then◌else◌, Option, Some, None, Ok, ok_or, unwrap_or, option_and_then, sym, ap, refl, arith}
use Rattle.std.specs.Prelude.{◌&&◌}
use Rattle.std.specs.Option.{option_to_list}
use Rattle.std.proofs.lemmas.List.Sums.{sum_by-cons}
use Rattle.ptp_units.specs.Sequence.{of_count, next}
use Rattle.slave_port.specs.History.{Call}
use Rattle.network_model.specs.declared.event.Event.{Event}
use Rattle.network_model.specs.declared.event.Event.TheVariants.{Sync}
use Rattle.network_model.specs.declared.node.NodeKind.{NodeKind}
use Rattle.network_model.specs.declared.refusal.WorldRefusal.{WorldRefusal}
use Rattle.network_model.specs.declared.refusal.WorldRefusal.TheVariants.{NoNode, WrongKind}
use Rattle.network_model.specs.Network.{Network, NodeName, PortSetup, kind_of, is_named}
use Rattle.network_model.specs.Run.{Run, place, site_of}
use Rattle.network_model.specs.Kinds.{named_difference, draws_sync}
use Rattle.network_model.specs.Clock.{difference, reading, reading_of}
use Rattle.network_model.specs.Numbering.{draws_with}
use Rattle.network_model.specs.SlaveHistory.{call_made, history_of}
use Rattle.network_model.specs.Outcome.{◌>>=◌, node_as, reads}
use Rattle.network_model.proofs.Sites.{named-self}
use Rattle.world_model.specs.Inner.Stands.{next_sync}

pub same_if : {X : Type 0} (b : Bool) (x : X) → (if b then x else x) ≡ x
same_if true x = refl
same_if false x = refl

-- what doesn't step a clock leaves its difference
pub difference-stays : (event : Event) (run : Run) → named_difference event ≡ None → difference (site_of event) (event ∷ run) ≡ difference (site_of event) run
difference-stays event run none =
    ap (λ o. if is_named (site_of event) (site_of event) then unwrap_or o (difference (site_of event) run) else difference (site_of event) run) none
    ∙ same_if (is_named (site_of event) (site_of event)) (difference (site_of event) run)

-- one more that passes, and one more that doesn't
count_by-passed : {X : Type 0} (p : X → Bool) (x : X) (xs : List X) → p x ≡ true → count_by p (x ∷ xs) ≡ count_by p xs + 1
count_by-passed p x xs passes = omega (arith, sum_by-cons (λ y. if p y then 1 else 0) x xs, ap {B = ℕ} (λ b. if b then 1 else 0) passes)

pub count_by-failed : {X : Type 0} (p : X → Bool) (x : X) (xs : List X) → p x ≡ false → count_by p (x ∷ xs) ≡ count_by p xs
count_by-failed p x xs fails = omega (arith, sum_by-cons (λ y. if p y then 1 else 0) x xs, ap {B = ℕ} (λ b. if b then 1 else 0) fails)

next-of_count : (count : ℕ) → next (of_count count) ≡ of_count (count + 1)
next-of_count count = omega arith

-- a master's next number after it drew one
pub next_sync-drawn : (setup : PortSetup) (run : Run) (event : Event) → draws_sync event ≡ true
    → next (next_sync setup (site_of event) run) ≡ next_sync setup (site_of event) (event ∷ run)
next_sync-drawn setup run event draws =
    let p : Event → Bool = draws_with (Sync (site_of event) 0) in
    let more : count_by p (event ∷ run) ≡ count_by p run + 1 = count_by-passed p event run (both (draws_sync event) (is_named (site_of event) (site_of event)) draws (named-self (site_of event))) in
    next-of_count (setup.first + count_by p run) ∙ ap of_count (let sum : (setup.first + count_by p run) + 1 ≡ setup.first + count_by p (event ∷ run) = omega (arith, more) in sum)
  where
    both : (a b : Bool) → a ≡ true → b ≡ true → (a && b) ≡ true
    both a b e f = ap (λ x. x && b) e ∙ f

-- a value that is there isn't refused
Some-ok_or : {X : Type 0} (o : Option X) (why : WorldRefusal) (x : X) → ok_or o why ≡ Ok x → o ≡ Some x
Some-ok_or None why x there = cc
Some-ok_or (Some y) why x there = let same : y ≡ x = cc in ap Some same

pub reading_of-read : (event : Event) (run : Run) (now : ℕ) → Ok now ≡ reads event run → reading_of (place event run) ≡ Some now
reading_of-read event run now shown = Some-ok_or (reading_of (place event run)) _ now (sym shown)

pub reading-read : (event : Event) (run : Run) (now : ℕ) → Ok now ≡ reads event run → reading (place event run) ≡ now
reading-read event run now shown = ap (λ o. unwrap_or o 0) (reading_of-read event run now shown)

-- a node of the wanted kind
pub node_as-at : {X : Type 0} (wanted : NodeKind → Option X) (network : Network) (name : NodeName) (x : X)
    → option_and_then wanted (kind_of network name) ≡ Some x → node_as wanted network name ≡ Ok x
node_as-at {X} wanted network name x there = at (kind_of network name) there
  where
    at : (kind : Option NodeKind) → option_and_then wanted kind ≡ Some x → (ok_or kind NoNode >>= (λ k. ok_or (wanted k) WrongKind)) ≡ Ok x
    at None none = cc
    at (Some kind) is = ap (λ o. ok_or o WrongKind) is

-- the call that an event makes comes in front of its node's history
pub history-made : (network : Network) (setup : PortSetup) (event : Event) (run : Run) (call : Call) → call_made network setup event run ≡ Some call
    → history_of network setup (site_of event) (event ∷ run) ≡ call ∷ history_of network setup (site_of event) run
history-made network setup event run call made =
    ap (λ b. if b then option_to_list (call_made network setup event run) ++ history_of network setup (site_of event) run else history_of network setup (site_of event) run) (named-self (site_of event))
    ∙ ap (λ o. option_to_list o ++ history_of network setup (site_of event) run) made
