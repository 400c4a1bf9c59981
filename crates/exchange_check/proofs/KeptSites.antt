-- What is kept of nodes by their places, and which nodes lines that count are at.
use Rattle.std.proofs.Common.{◌≡◌, ◌∙◌, ℕ, zero, suc, ◌<◌, Bool, true, false, ◌&&◌, ◌||◌, cond, List, [], ◌∷◌, ◌++◌, length}
use Rattle.std.proofs.Common.{Option, Some, None, is_some, slice_get, slice_set, slice_index_or, refl, sym, ap, arith}
use Rattle.std.specs.Prelude.{option_map, option_and_then, IfSome}
use Rattle.std.proofs.lemmas.Slice.Eq.{bytes_eq-Decides}
use Rattle.network_model.specs.declared.event.Event.{Event}
use Rattle.network_model.specs.declared.event.Event.TheVariants.{Sync, SyncOne, Follow, Enter, Leave, Arrive, Hear}
use Rattle.network_model.specs.declared.event.Event.TheVariants.{Request, Stamped, Tick, SetMaster, StepClock}
use Rattle.network_model.specs.declared.node.NodeKind.{NodeKind}
use Rattle.network_model.specs.declared.node.NodeSpec.{NodeSpec}
use Rattle.network_model.specs.Network.{Network, NodeName, AllDiffer, names, node_of, is_named}
use Rattle.network_model.specs.Network.{master_port, slave_port}
use Rattle.network_model.specs.Run.{site_of}
use Rattle.network_model.proofs.Networks.{named_so, names_differ}
use Rattle.exchange_check.specs.declared.facts.Known.{Known}
use Rattle.exchange_check.specs.declared.facts.KeptJourney.{KeptJourney}
use Rattle.exchange_check.specs.declared.facts.Site.{Site}
use Rattle.trace_model.specs.declared.line.TraceLine.{TraceLine}
use Rattle.trace_model.specs.declared.line.TraceOut.{TraceOut}
use Rattle.trace_model.specs.Line.{counts, is_good, is_kind, clock_kind}
use Rattle.exchange_check.specs.Inner.Kept.{Facts, new_site, moved, moved_at, site_in, has_site}
use Rattle.exchange_check.specs.Inner.Kept.{fact_from, fact_known}

-- the first node of a name stands at this place
abbrev IsAt : Network → NodeName → ℕ → Type 0
IsAt [] name place = ⊥
IsAt (node ∷ others) name zero = is_named name node.name ≡ true
IsAt (node ∷ others) name (suc place) = (is_named name node.name ≡ false) × IsAt others name place

named : (a b : NodeName) → a ≡ b → is_named a b ≡ true
named a b same = (bytes_eq-Decides a b).1 same

others_differ : (node : NodeSpec) (others : Network) → AllDiffer (names (node ∷ others)) → AllDiffer (names others)
others_differ node others apart i j d lower within = apart (suc i) (suc j) d (omega arith) (omega arith)

-- of names that differ, the one at a place is the first
IsAt-node : (network : Network) (name : NodeName) (place : ℕ) (node : NodeSpec) → AllDiffer (names network)
    → slice_get network place ≡ Some node → node_of network name ≡ Some node → IsAt network name place
IsAt-node [] name place node apart at found = cc
IsAt-node (first ∷ others) name zero node apart at found =
    let same : first ≡ node = cc in
    named name first.name (sym (ap (λ (n : NodeSpec). n.name) same ∙ named_so (first ∷ others) name node found))
IsAt-node (first ∷ others) name (suc place) node apart at found =
    by (is_named name first.name) refl
    (IsAt-node others name place node (others_differ first others apart) at)
  where
    by : (b : Bool) → is_named name first.name ≡ b
        → (node_of others name ≡ Some node → IsAt others name place) → IsAt (first ∷ others) name (suc place)
    by true e rest = absurd (names_differ (first ∷ others) apart 0 (suc place) first node refl at (omega arith)
        (sym ((bytes_eq-Decides name first.name).0 e) ∙ sym (named_so (first ∷ others) name node found)))
    by false e rest = (e, rest (sym (λ i. cond (e i) (Some first) (node_of others name)) ∙ found))

IsAt-found : (network : Network) (name : NodeName) (place : ℕ) → AllDiffer (names network)
    → slice_get network place ≡ node_of network name → is_some (node_of network name) ≡ true → IsAt network name place
IsAt-found network name place apart at there = by (node_of network name) refl there
  where
    by : (node : Option NodeSpec) → node_of network name ≡ node → is_some node ≡ true → IsAt network name place
    by None is there = absurd (cc)
    by (Some node) is there = IsAt-node network name place node apart (at ∙ is) is

kept_there : (sites : List Site) (network : Network) (name : NodeName) (place : ℕ) → IsAt network name place
    → slice_index_or sites place new_site ≡ site_in sites network name
kept_there [] network name place at = refl
kept_there (site ∷ sites) [] name place at = absurd at
kept_there (site ∷ sites) (node ∷ others) name zero at = λ i. cond (sym at i) site (site_in sites others name)
kept_there (site ∷ sites) (node ∷ others) name (suc place) at =
    kept_there sites others name place at.1 ∙ (λ i. cond (sym at.0 i) site (site_in sites others name))

-- what is kept at a place is what is kept of its node
pub site-found : (sites : List Site) (network : Network) (name : NodeName) (place : ℕ) → AllDiffer (names network)
    → slice_get network place ≡ node_of network name → is_some (node_of network name) ≡ true
    → slice_index_or sites place new_site ≡ site_in sites network name
site-found sites network name place apart at there =
    kept_there sites network name place (IsAt-found network name place apart at there)

within : (network : Network) (place : ℕ) (node : NodeSpec) → slice_get network place ≡ Some node → place < length network
within [] place node at = cc
within (first ∷ others) zero node at = omega arith
within (first ∷ others) (suc place) node at = let rest = within others place node at in omega (arith, rest)

-- the place of a node is one of the network
pub place-within : (network : Network) (name : NodeName) (place : ℕ) → slice_get network place ≡ node_of network name
    → is_some (node_of network name) ≡ true → place < length network
place-within network name place at there = by (node_of network name) at there
  where
    by : (node : Option NodeSpec) → slice_get network place ≡ node → is_some node ≡ true → place < length network
    by None at there = absurd (cc)
    by (Some node) at there = within network place node at

-- what is read at a place is what is kept there
pub kept-read : (sites : List Site) (place : ℕ) (site : Site) → place < length sites → site ≡ slice_index_or sites place site
    → site ≡ slice_index_or sites place new_site
kept-read [] place site within read = absurd (omega arith)
kept-read (first ∷ sites) zero site within read = read
kept-read (first ∷ sites) (suc place) site within read = kept-read sites place site (omega (arith, within)) read

-- of a node that isn't there nothing is kept
pub site-absent : (sites : List Site) (network : Network) (name : NodeName) → is_some (node_of network name) ≡ false
    → new_site ≡ site_in sites network name
site-absent [] network name none = refl
site-absent (site ∷ sites) [] name none = refl
site-absent (site ∷ sites) (node ∷ others) name none =
    by (is_named name node.name) none (site-absent sites others name)
  where
    by : (b : Bool) → is_some (cond b (Some node) (node_of others name)) ≡ false
        → (is_some (node_of others name) ≡ false → new_site ≡ site_in sites others name)
        → new_site ≡ cond b site (site_in sites others name)
    by true none rest = cc
    by false none rest = rest none

-- one more node of which no line told anything
pub site-more : (sites : List Site) (network : Network) → site_in (sites ++ new_site ∷ []) network ≡ site_in sites network
site-more sites network = λ i name. at sites network name i
  where
    at : (sites : List Site) (network : Network) (name : NodeName)
        → site_in (sites ++ new_site ∷ []) network name ≡ site_in sites network name
    at [] [] name = refl
    at [] (node ∷ others) name = same (is_named name node.name)
      where
        same : (b : Bool) → cond b new_site new_site ≡ new_site
        same true = refl
        same false = refl
    at (site ∷ sites) [] name = refl
    at (site ∷ sites) (node ∷ others) name = ap (λ (rest : Site). cond (is_named name node.name) site rest) (at sites others name)

same_first : (other name named : NodeName) → name ≡ named → is_named other named ≡ is_named name other
same_first other name named same = by (is_named other named) (is_named name other) refl refl
  where
    by : (a b : Bool) → is_named other named ≡ a → is_named name other ≡ b → a ≡ b
    by true true e f = refl
    by false false e f = refl
    by true false e f = absurd (let is : is_named name other ≡ true = named-so e in cc)
      where
        named-so : is_named other named ≡ true → is_named name other ≡ true
        named-so e = (bytes_eq-Decides name other).1 (same ∙ sym ((bytes_eq-Decides other named).0 e))
    by false true e f = absurd (let is : is_named other named ≡ true = named-so f in cc)
      where
        named-so : is_named name other ≡ true → is_named other named ≡ true
        named-so f = (bytes_eq-Decides other named).1 (sym ((bytes_eq-Decides name other).0 f) ∙ same)

module _ (site : Site) where
  moved_there : (sites : List Site) (network : Network) (name : NodeName) (place : ℕ) → IsAt network name place
      → place < length sites → (other : NodeName)
      → site_in (slice_set sites place site) network other
      ≡ cond (is_named name other) site (site_in sites network other)
  moved_there [] network name place at within other = absurd (omega arith)
  moved_there (first ∷ sites) [] name place at within other = absurd at
  moved_there (first ∷ sites) (node ∷ others) name zero at within other =
      by (is_named other node.name) (is_named name other)
      (same_first other name node.name ((bytes_eq-Decides name node.name).0 at))
    where
      rest : Site
      rest = site_in sites others other

      by : (a b : Bool) → a ≡ b → cond a site rest ≡ cond b site (cond a first rest)
      by true true same = refl
      by false false same = refl
      by true false same = cc
      by false true same = cc
  moved_there (first ∷ sites) (node ∷ others) name (suc place) at within other =
      ap (λ (rest : Site). cond (is_named other node.name) first rest)
      (moved_there sites others name place at.1 (omega (arith, within)) other)
      ∙ by (is_named other node.name) (is_named name other) refl refl
    where
      rest : Site
      rest = site_in sites others other

      by : (a b : Bool) → is_named other node.name ≡ a → is_named name other ≡ b
          → cond a first (cond b site rest) ≡ cond b site (cond a first rest)
      by true true here named_too =
          let same : is_named name node.name ≡ true = named name node.name
          ((bytes_eq-Decides name other).0 named_too ∙ (bytes_eq-Decides other node.name).0 here) in
          let differ : is_named name node.name ≡ false = at.0 in
          cc
      by true false here named_too = refl
      by false b here named_too = refl

-- what is kept of each node, where one was kept up to the place of an event's node and moved there
pub site-moved : (event : Event) (number : ℕ) (before reached : List Site) (network : Network) (name : NodeName)
    (place : ℕ) (kept : Site) → name ≡ site_of event → AllDiffer (names network)
    → slice_get network place ≡ node_of network name → has_site network event ≡ true → place < length reached
    → kept ≡ slice_index_or reached place new_site → site_in reached network ≡ site_in before network
    → site_in (slice_set reached place (moved event number kept)) network ≡ moved_at event number (site_in before network)
site-moved event number before reached network name place kept is_site apart at there within is_kept same =
    λ i other. each other i
  where
    at_site : slice_get network place ≡ node_of network (site_of event)
    at_site = at ∙ ap (node_of network) is_site

    here : IsAt network (site_of event) place
    here = IsAt-found network (site_of event) place apart at_site there

    kept_is : kept ≡ site_in before network (site_of event)
    kept_is = is_kept ∙ kept_there reached network (site_of event) place here ∙ (λ i. same i (site_of event))

    each : (other : NodeName) → site_in (slice_set reached place (moved event number kept)) network other
        ≡ moved_at event number (site_in before network) other
    each other = moved_there (moved event number kept) reached network (site_of event) place here within other
        ∙ by (is_named (site_of event) other) refl
      where
        by : (b : Bool) → is_named (site_of event) other ≡ b
            → cond b (moved event number kept) (site_in reached network other)
            ≡ cond b (moved event number (site_in before network other)) (site_in before network other)
        by true e = ap (moved event number)
            (kept_is ∙ ap (site_in before network) ((bytes_eq-Decides (site_of event) other).0 e))
        by false e = λ i. same i other

first_of : (a b : Bool) → (a && b) ≡ true → a ≡ true
first_of true b h = refl
first_of false b h = h

there_of_kind : {X : Type 0} (f : NodeKind → Option X) (node : Option NodeSpec)
    → is_some (option_and_then f (option_map (λ n. n.kind) node)) ≡ true → is_some node ≡ true
there_of_kind f None h = h
there_of_kind f (Some node) h = refl

there_of_clock : (node : Option NodeSpec) → is_kind clock_kind (option_map (λ n. n.kind) node) ≡ true
    → is_some node ≡ true
there_of_clock None h = h
there_of_clock (Some node) h = refl

there_at_all : (node : Option NodeSpec) → is_some (option_map (λ n. n.kind) node) ≡ true → is_some node ≡ true
there_at_all None h = h
there_at_all (Some node) h = refl

either_there : (a b c d known : Bool) → (a ≡ true → known ≡ true) → (c ≡ true → known ≡ true)
    → (a && b || c && d) ≡ true → known ≡ true
either_there true b c d known f g h = f refl
either_there false b true d known f g h = g refl
either_there false b false d known f g h = cc

-- the node of a good line is there
good_there : (network : Network) (event : Event) (out : TraceOut) → is_good network event out ≡ true
    → has_site network event ≡ true
good_there network (Sync node at) out h = there_of_kind master_port (node_of network node) (first_of _ _ h)
good_there network (SyncOne node at) out h = there_of_kind master_port (node_of network node) (first_of _ _ h)
good_there network (Follow node) out h = there_of_kind master_port (node_of network node) (first_of _ _ h)
good_there network (Enter node copy at) out h = there_of_clock (node_of network node) (first_of _ _ h)
good_there network (Leave node transit at) out h = there_of_clock (node_of network node) (first_of _ _ h)
good_there network (Arrive node copy at) out h =
    either_there _ _ _ _ (is_some (node_of network node))
    (there_of_kind master_port (node_of network node)) (there_of_kind slave_port (node_of network node)) h
good_there network (Hear node copy) out h = there_of_kind slave_port (node_of network node) (first_of _ _ h)
good_there network (Request node at) out h = there_of_kind slave_port (node_of network node) (first_of _ _ h)
good_there network (Stamped node) out h = there_of_kind slave_port (node_of network node) (first_of _ _ h)
good_there network (Tick node) out h = there_of_kind slave_port (node_of network node) (first_of _ _ h)
good_there network (SetMaster node master) out h =
    there_of_kind slave_port (node_of network node) (first_of _ _ (first_of _ _ h))
good_there network (StepClock node diff) out h = there_at_all (node_of network node) (first_of _ _ h)

-- what is kept of a line that counts is of a node that is there
pub fact-there : (network : Network) (facts : Facts) (line : TraceLine) (known : Known) (journey : Option KeptJourney)
    → IfSome (fact_from network facts line known journey) (λ fact. has_site network fact.event ≡ true)
fact-there network facts line known journey = by (counts network line) refl
  where
    by : (b : Bool) → counts network line ≡ b
        → IfSome (cond b (Some (fact_known network facts line known journey)) None)
        (λ fact. has_site network fact.event ≡ true)
    by true e = good_there network line.event line.out (first_of _ _ e)
    by false e = _
