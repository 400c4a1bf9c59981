-- What a refusal is so of: one of some keys, and so of more.
use Rattle.std.proofs.Common.{◌≡◌, ◌||◌, ◌++◌, ℕ, Bool, true, false, List, [], ◌∷◌, codes, bytes_eq, refl, Err}
use Rattle.std.proofs.Common.{Option, Some, None, option_map, option_and_then, if◌then◌else◌}
use Rattle.event_codec.specs.declared.port.PortConfig.{PortConfig}
use Rattle.ptp_units.specs.declared.sequence.Seq.{Seq}
use Rattle.network_model.specs.declared.node.NodeKind.{NodeKind}
use Rattle.network_model.specs.declared.node.NodeSpec.{NodeSpec}
use Rattle.schedule_lines.specs.Json.{field, has_keys}
use Rattle.serde_json.specs.Data.{Data}
use Rattle.line_object.specs.Key.{key_text}
use Rattle.line_object.specs.declared.key.Key.{Key}
use Rattle.line_object.specs.declared.key.Key.TheVariants as keys
use Rattle.serde_json.specs.Find.{as_str}
use Rattle.network_model.specs.Run.{true_moment}
use Rattle.network_model.specs.declared.event.Event.{Event}
use Rattle.network_model.specs.declared.event.Event.TheVariants as events
use Rattle.schedule_lines.specs.EventKind.{kind_of_event}
use Rattle.schedule_lines.specs.Line.{node_in, config_in, first_in, node_kind, node_spec_in, port_in}
use Rattle.schedule_lines.specs.Needed.{needed_of_node, node_keys, port_keys, reading_keys}
use Rattle.schedule_lines.specs.Refusal.{Answers, HasEach, IsRefused, IsSoOf, is_one_of}
use Rattle.schedule_lines.specs.Inner.Asked.{port_parts, reading_key}
use Rattle.schedule_lines.specs.declared.refusal.Refusal.{Refusal}
use Rattle.schedule_lines.specs.declared.refusal.Refusal.TheVariants.{NoKind, Missing, Wrong, WrongPart, TooMuch}

behind : (a x : Bool) → x ≡ true → (a || x) ≡ true
behind true x h = refl
behind false x h = h

weaker : (d : Data) (r : Refusal) (ks ls : List Key) → ((key : Key) → is_one_of key ks ≡ true → is_one_of key ls ≡ true) → IsSoOf d r ks → IsSoOf d r ls
weaker d NoKind ks ls f h = h
weaker d (Missing key) ks ls f h = (f key h.0, h.1)
weaker d (Wrong key) ks ls f h = (f key h.0, h.1)
weaker d (WrongPart key part) ks ls f h = (f key h.0, h.1, h.2, h.3)
weaker d TooMuch ks ls f h = h

-- of a later one
pub of_later : (d : Data) (r : Refusal) (k : Key) (ks : List Key) → IsSoOf d r ks → IsSoOf d r (k ∷ ks)
of_later d r k ks = weaker d r ks (k ∷ ks) (λ key. behind (bytes_eq (key_text key) (key_text k)) (is_one_of key ks))

either : (a x y : Bool) → (x ≡ true → y ≡ true) → (a || x) ≡ true → (a || y) ≡ true
either true x y f h = refl
either false x y f h = f h

in_left : (key : Key) (ks ls : List Key) → is_one_of key ks ≡ true → is_one_of key (ks ++ ls) ≡ true
in_left key [] ls h = absurd (cc)
in_left key (k ∷ ks) ls h = either (bytes_eq (key_text key) (key_text k)) (is_one_of key ks) (is_one_of key (ks ++ ls)) (in_left key ks ls) h

pub of_left : (d : Data) (r : Refusal) (ks ls : List Key) → IsSoOf d r ks → IsSoOf d r (ks ++ ls)
of_left d r ks ls = weaker d r ks (ks ++ ls) (λ key. in_left key ks ls)

in_right : (key : Key) (ks ls : List Key) → is_one_of key ls ≡ true → is_one_of key (ks ++ ls) ≡ true
in_right key [] ls h = h
in_right key (k ∷ ks) ls h = behind (bytes_eq (key_text key) (key_text k)) (is_one_of key (ks ++ ls)) (in_right key ks ls h)

pub of_right : (d : Data) (r : Refusal) (ks ls : List Key) → IsSoOf d r ls → IsSoOf d r (ks ++ ls)
of_right d r ks ls = weaker d r ls (ks ++ ls) (λ key. in_right key ks ls)

-- a line is refused where this is so of a key that it needs
pub refused : (d : Data) (r : Refusal) (ks : List Key) → IsSoOf d r ks → IsRefused d ks r
refused d NoKind ks h = absurd h
refused d (Missing key) ks h = h
refused d (Wrong key) ks h = h
refused d (WrongPart key part) ks h = h
refused d TooMuch ks h = absurd h

pub has_append : (d : Data) (ks ls : List Key) → HasEach d ks → HasEach d ls → HasEach d (ks ++ ls)
has_append d [] ls h g = g
has_append d (k ∷ ks) ls h g = (h.0, has_append d ks ls h.1 g)

-- an event has a reading where it has a true moment
pub timed : (event : Event) → reading_key (true_moment event) ≡ reading_keys (kind_of_event event)
timed (events.StepClock node diff) = refl
timed _ = refl

abbrev node_made : List ℕ → NodeKind → NodeSpec
node_made name kind = record { name = name; kind = kind }

abbrev Parts : Type 0
Parts = List ℕ × PortConfig × Seq

parts_none : (f : PortConfig → Seq → NodeKind) (b : Bool) (n : Option (List ℕ)) (c : Option PortConfig) (s : Option Seq)
    → option_and_then {U = Parts} (λ name. option_and_then {U = Parts} (λ config. option_map {U = Parts} (λ first. (name, config, first)) s) c) n ≡ None
    → option_and_then (λ name. option_map (node_made name) (if b then option_and_then (λ config. option_map (f config) s) c else None)) n ≡ None
parts_none f b None c s e = refl
parts_none f false (Some name) c s e = refl
parts_none f true (Some name) None s e = refl
parts_none f true (Some name) (Some config) None e = refl
parts_none f true (Some name) (Some config) (Some first) e = absurd (cc)

-- no node is made where a part of it isn't there
pub no_port : (d : Data) (f : PortConfig → Seq → NodeKind) → port_parts d ≡ None
    → option_and_then (λ name. option_map (node_made name) (port_in f d)) (node_in d) ≡ None
no_port d f e = parts_none f (has_keys 7 d) (node_in d) (config_in d) (first_in d) e

-- nor is one read
pub no_port_node : (d : Data) (text : List ℕ) (r : Refusal) (f : PortConfig → Seq → NodeKind) → field as_str (codes "kind") d ≡ Some text
    → node_kind text d ≡ port_in f d → node_keys text ≡ Some port_keys
    → (port_parts d ≡ None) × IsSoOf d r (keys.Node ∷ keys.Id ∷ keys.Port ∷ keys.Domain ∷ keys.Log ∷ keys.First ∷ [])
    → Answers (node_spec_in d) d (needed_of_node d) (Err r)
no_port_node d text r f said kind needed h = (
  rw (said, kind) (no_port d f h.0),
  rw (said, needed) (refused d r port_keys (of_later d r keys.Kind (keys.Node ∷ keys.Id ∷ keys.Port ∷ keys.Domain ∷ keys.Log ∷ keys.First ∷ []) h.1)),
)
