-- Lines of any origin: the line of a number, the last line of a kind and the events, with one more line.
use Rattle.std.proofs.Common.{◌≡◌, ◌∙◌, ℕ, ◌<◌, Bool, true, false, ◌&&◌, cond, eqb, [], ◌∷◌, length, map}
use Rattle.std.proofs.Common.{Some, None, refl, sym, ap, subst, arith}
use Rattle.std.specs.Prelude.{filter}
use Rattle.std.proofs.lemmas.Bool.{eq-eqb, eqb-true}
use Rattle.std.proofs.lemmas.Bool.Decides.{nat_tests}
use Rattle.std.proofs.lemmas.Option.{same_Some, none-some}
use Rattle.network_model.specs.declared.event.Event.{Event}
use Rattle.network_model.specs.Network.{Network, NodeName}
use Rattle.network_model.specs.Run.{Run}
use Rattle.network_model.specs.Kinds.{is_at}
use Rattle.trace_model.specs.declared.line.TraceLine.{TraceLine}
use Rattle.trace_model.specs.Line.{Lines, counts}
use Rattle.trace_model.specs.Record.{LinePlace, line_place, line_number, event_of, line_at, last_line, events}

-- a line of a number is among the lines
pub line_at-bound : (network : Network) (lines : Lines) (n : ℕ) (e : LinePlace) → line_at network lines n ≡ Some e
    → n < length lines
line_at-bound network [] n e h = grind arith
line_at-bound network (line ∷ earlier) n e h = grind (arith, nat_tests, line_at-bound network earlier n e)

-- what comes later doesn't change the line of a number
pub line_at-later : (network : Network) (line : TraceLine) (earlier : Lines) (n : ℕ) (e : LinePlace)
    → line_at network earlier n ≡ Some e → line_at network (line ∷ earlier) n ≡ Some e
line_at-later network line earlier n e h = grind (arith, nat_tests, line_at-bound network earlier n e)

-- nor is there another one of its number
pub line_at-before : (network : Network) (line : TraceLine) (earlier : Lines) (n : ℕ) → eqb (length earlier) n ≡ false
    → line_at network (line ∷ earlier) n ≡ line_at network earlier n
line_at-before network line earlier n before =
    λ i. cond (before i) (cond (counts network line) (Some (line_place line earlier)) None) (line_at network earlier n)

-- the last line, where it counts
pub line_at-here : (network : Network) (line : TraceLine) (earlier : Lines) → counts network line ≡ true
    → line_at network (line ∷ earlier) (length earlier) ≡ Some (line_place line earlier)
line_at-here network line earlier h =
    λ i. cond (eq-eqb (length earlier) (length earlier) refl i) (cond (h i) (Some (line_place line earlier)) None)
    (line_at network earlier (length earlier))

-- a line has the number by which it is found
either_number : (network : Network) (line : TraceLine) (earlier : Lines) (n : ℕ) (e : LinePlace) (here counted : Bool)
    → eqb (length earlier) n ≡ here → (line_at network earlier n ≡ Some e → line_number e ≡ n)
    → cond here (cond counted (Some (line_place line earlier)) None) (line_at network earlier n) ≡ Some e
    → line_number e ≡ n
either_number network line earlier n e true true p before h =
    ap line_number (sym (same_Some _ _ h)) ∙ eqb-true (length earlier) n p
either_number network line earlier n e true false p before h = absurd (none-some e h)
either_number network line earlier n e false counted p before h = before h

pub line_at-number : (network : Network) (lines : Lines) (n : ℕ) (e : LinePlace) → line_at network lines n ≡ Some e
    → line_number e ≡ n
line_at-number network [] n e h = absurd (none-some e h)
line_at-number network (line ∷ earlier) n e h =
    either_number network line earlier n e (eqb (length earlier) n) (counts network line) refl
    (line_at-number network earlier n e) h

-- the last line of a kind is among the lines, and is of that kind
either_last : (network : Network) (kind : Event → Bool) (name : NodeName) (line : TraceLine) (earlier : Lines)
    (k : LinePlace) (counted here : Bool) → counts network line ≡ counted → is_at kind name line.event ≡ here
    → (last_line network kind name earlier ≡ Some k
    → (line_at network earlier (line_number k) ≡ Some k) × (is_at kind name (event_of k) ≡ true))
    → cond (counted && here) (Some (line_place line earlier)) (last_line network kind name earlier) ≡ Some k
    → (line_at network (line ∷ earlier) (line_number k) ≡ Some k) × (is_at kind name (event_of k) ≡ true)
either_last network kind name line earlier k true true c p before h =
    let P : LinePlace → Type 0 =
    λ x. (line_at network (line ∷ earlier) (line_number x) ≡ Some x) × (is_at kind name (event_of x) ≡ true) in
    subst P (same_Some _ _ h) (line_at-here network line earlier c, p)
either_last network kind name line earlier k true false c p before h =
    let b = before h in (line_at-later network line earlier (line_number k) k b.0, b.1)
either_last network kind name line earlier k false here c p before h =
    let b = before h in (line_at-later network line earlier (line_number k) k b.0, b.1)

pub last_is : (network : Network) (kind : Event → Bool) (name : NodeName) (lines : Lines) (k : LinePlace)
    → last_line network kind name lines ≡ Some k
    → (line_at network lines (line_number k) ≡ Some k) × (is_at kind name (event_of k) ≡ true)
last_is network kind name [] k h = grind arith
last_is network kind name (line ∷ earlier) k h =
    either_last network kind name line earlier k (counts network line) (is_at kind name line.event) refl refl
    (last_is network kind name earlier k) h

pub last_more : (network : Network) (kind : Event → Bool) (name : NodeName) (line : TraceLine) (earlier : Lines)
    (b : Bool) → counts network line ≡ b
    → last_line network kind name (line ∷ earlier)
    ≡ cond (b && is_at kind name line.event) (Some (line_place line earlier)) (last_line network kind name earlier)
last_more network kind name line earlier b h =
    λ i. cond (h i && is_at kind name line.event) (Some (line_place line earlier))
    (last_line network kind name earlier)

-- the events with one more, where it counts
abbrev pub events_if : Bool → Event → Run → Run
events_if b event run = cond b (event ∷ run) run

pub events_more : (network : Network) (line : TraceLine) (earlier : Lines) (b : Bool) → counts network line ≡ b
    → events network (line ∷ earlier) ≡ events_if b line.event (events network earlier)
events_more network line earlier b h = (λ i. listed (h i)) ∙ parts b
  where
    listed : Bool → Run
    listed c = map (λ (l : TraceLine). l.event)
        (cond c (line ∷ filter (counts network) earlier) (filter (counts network) earlier))

    parts : (c : Bool) → listed c ≡ events_if c line.event (events network earlier)
    parts true = refl
    parts false = refl
