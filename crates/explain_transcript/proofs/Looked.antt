-- An answer of `explain` over octets, as an answer of the rules by which an input is read: the same, or its first fault.
use Rattle.std.proofs.Common.{◌≡◌, ◌≢◌, ◌∙◌, ◌⊎◌, inl, inr, ℕ, suc, ◌+◌, ◌<◌, Bool, List, [], ◌∷◌, length, take}
use Rattle.std.proofs.Common.{Option, Some, None, Result, Ok, Err, refl, sym, ap, subst, arith, take_all, le_refl}
use Rattle.std.specs.Prelude.{slice_get}
use Rattle.std.proofs.lemmas.List.{length-take}
use Rattle.text_lines.specs.declared.fault.Cause.{Cause}
use Rattle.text_lines.specs.declared.fault.Cause.TheVariants.{Reading, Task}
use Rattle.text_lines.specs.declared.fault.Stopped.{Stopped}
use Rattle.text_lines.specs.Lines.{lines_limit, lines_of, after_lines, without_cr, reading_fault}
use Rattle.text_lines.specs.Task.{TakesLines, StopsBefore, AnswersAll, AnswersUntil, Answers}
use Rattle.text_lines.proofs.Cutting.{lines_within}
use Rattle.text_lines.proofs.OneAnswer.{IsOfDevice, IsSure, is_within, get_taken, take-take-less}
use Rattle.text_lines.proofs.Unwritten.{unknown}
use Rattle.schedule_reading.specs.declared.fault.TaskFault.{TaskFault}
use Rattle.schedule_reading.specs.declared.fault.TaskFault.TheVariants.{Write, Json, Field, World, Memory}
use Rattle.schedule_reading.specs.declared.transcript.Judged.{Judged}
use Rattle.schedule_reading.specs.Fault.{is_write}
use Rattle.schedule_reading.proofs.OneFault.{IsInText}
use Rattle.explain_input.specs.declared.input.FoundInput.{FoundInput}
use Rattle.explain_input.specs.declared.input.Input.{Input}
use Rattle.explain_input.specs.Input.{nothing, lines_in, Takes, Faults}
use Rattle.explain_input.proofs.AsRead.{input_rules}
use Rattle.explain_input.proofs.Numbered.{counted, all_counted}
use Rattle.explain_transcript.specs.declared.explaining.Explained.{Explained}
use Rattle.explain_transcript.specs.declared.explaining.Explained.TheVariants.{Whole, Flawed}
use Rattle.explain_transcript.specs.Explained.{Seen, Sees, SeesFirst, EndsIn, explain_rules, unseen, ExplainsUntil, Explains}

-- ---- the first fault

-- the first fault of lines that are read after others
pub record HasFlaw (number : ℕ) (lines : List (List ℕ)) (input : Input) (line : ℕ) (what : TaskFault) : Type 0 where
  pub place : ℕ
  pub state : Input
  pub taken : TakesLines input_rules number (take place lines) input state []
  pub octets : List ℕ
  pub there : slice_get lines place ≡ Some octets
  pub fine : reading_fault lines_limit (number + place) octets ≡ None
  pub other : what ≢ Memory
  pub faults : Faults what state (without_cr octets)
  pub at : line ≡ lines_in input + place + 1

-- lines without a fault, or their first fault
abbrev pub Looked : ℕ → List (List ℕ) → (seen later : Seen) → Type 0
Looked number lines seen later =
    ((later.fault ≡ None) × TakesLines input_rules number lines seen.input later.input [])
    ⊎ ((line : ℕ) × (what : TaskFault) × (later.fault ≡ Some (line, what)) × HasFlaw number lines seen.input line what)

-- behind the first fault nothing changes
kept : (number : ℕ) (lines : List (List ℕ)) (seen later : Seen) (text : List ℕ) (at : ℕ × TaskFault) → seen.fault ≡ Some at
    → TakesLines explain_rules number lines seen later text → later.fault ≡ Some at
kept number [] seen later text at is (same, silent) = ap (λ (s : Seen). s.fault) same ∙ is
kept number (line ∷ lines) seen later text at is (next, first, others, fine, sees, rest, whole) =
    let same : next ≡ seen = subst (λ (o : Option (ℕ × TaskFault)). Sees (without_cr line) o seen next first) is sees in
    kept (number + 1) lines next later others at (ap (λ (s : Seen). s.fault) same ∙ is) rest

-- one more line stands before
one_before : (number : ℕ) (line : List ℕ) (lines : List (List ℕ)) (input next : Input) (judged : Option Judged) (at : ℕ) (what : TaskFault)
    → reading_fault lines_limit number line ≡ None → Takes (without_cr line) input next judged → HasFlaw (number + 1) lines next at what
    → HasFlaw number (line ∷ lines) input at what
one_before number line lines input next judged at what fine takes flaw = record {
  place = suc flaw.place;
  state = flaw.state;
  taken = (next, [], [], fine, (judged, takes, refl), flaw.taken, refl);
  octets = flaw.octets;
  there = flaw.there;
  fine = subst (λ (n : ℕ). reading_fault lines_limit n flaw.octets ≡ None) (omega arith) flaw.fine;
  other = flaw.other;
  faults = flaw.faults;
  at = let one = counted (without_cr line) input next judged takes in omega (arith, one, flaw.at);
}

looked : (number : ℕ) (lines : List (List ℕ)) (seen later : Seen) (text : List ℕ) → seen.fault ≡ None → TakesLines explain_rules number lines seen later text
    → Looked number lines seen later
looked number [] seen later text none (same, silent) = inl (ap (λ (s : Seen). s.fault) same ∙ none, (ap (λ (s : Seen). s.input) same, refl))
looked number (line ∷ lines) seen later text none (next, first, others, fine, sees, rest, whole) =
    go next.fault refl (λ is. looked (number + 1) lines next later others is rest)
    (subst (λ (o : Option (ℕ × TaskFault)). Sees (without_cr line) o seen next first) none sees).1
  where
    go : (fault : Option (ℕ × TaskFault)) → next.fault ≡ fault → (next.fault ≡ None → Looked (number + 1) lines next later)
        → SeesFirst (without_cr line) seen next fault first → Looked number (line ∷ lines) seen later
    go None is again (judged, takes, reports, tells) =
        further (again is)
      where
        further : Looked (number + 1) lines next later → Looked number (line ∷ lines) seen later
        further (inl (none', taken)) = inl (none', (next.input, [], [], fine, (judged, takes, refl), taken, refl))
        further (inr (at, what, found, flaw)) = inr (at, what, found, one_before number line lines seen.input next.input judged at what fine takes flaw)
    go (Some (at, what)) is again (place, other, faults, input, reports) = inr (
      at,
      what,
      kept (number + 1) lines next later others (at, what) is rest,
      record {
        place = 0;
        state = seen.input;
        taken = (refl, refl);
        octets = line;
        there = refl;
        fine = subst (λ (n : ℕ). reading_fault lines_limit n line ≡ None) (omega arith) fine;
        other = other;
        faults = faults;
        at = omega (arith, place);
      },
    )

-- ---- answers

-- what a fault of a line of the octets is by the rules
flaw_until : (octets : List ℕ) (line : ℕ) (what : TaskFault) (flaw : HasFlaw 1 (lines_of octets) nothing line what)
    → AnswersUntil input_rules nothing octets (Some (after_lines (flaw.place + 1) octets)) None None line (Task what)
flaw_until octets line what flaw = record {
  earlier = flaw.place;
  number = omega (arith, flaw.at);
  state = flaw.state;
  text = [];
  taken = flaw.taken;
  last = [];
  stops = inl (
    flaw.octets,
    (let inside = is_within (lines_of octets) flaw.place flaw.octets flaw.there in omega (arith, lines_within octets, inside)),
    flaw.there,
    subst (λ (n : ℕ). reading_fault lines_limit n flaw.octets ≡ None) (omega arith) flaw.fine,
    (flaw.faults, refl),
    refl,
  );
  output = unknown (is_write what) [];
}

-- a fault of the first lines is one of all
in_front : (lines : List (List ℕ)) (count line : ℕ) (what : TaskFault) → HasFlaw 1 (take count lines) nothing line what
    → HasFlaw 1 lines nothing line what × (line < count + 1)
in_front lines count line what flaw =
    let inside = is_within (take count lines) flaw.place flaw.octets flaw.there in
    let short = length-take count lines in
    let less : flaw.place < count = omega (arith, inside, short) in (
      record {
        place = flaw.place;
        state = flaw.state;
        taken = subst (λ (ls : List (List ℕ)). TakesLines input_rules 1 ls nothing flaw.state []) (take-take-less lines flaw.place count less) flaw.taken;
        octets = flaw.octets;
        there = sym (get_taken lines flaw.place count less) ∙ flaw.there;
        fine = flaw.fine;
        other = flaw.other;
        faults = flaw.faults;
        at = flaw.at;
      },
      omega (arith, less, flaw.at),
    )

-- an answer of `explain`, beside how its input is read: where a line can't be read, that, or the fault of one before it
abbrev pub IsBeside : Result Explained (Stopped (Cause TaskFault)) → Result FoundInput (Stopped (Cause TaskFault)) → Type 0
IsBeside (Ok (Whole found)) there = there ≡ Ok found
IsBeside (Ok (Flawed line what)) there = there ≡ Err (record { line = line; what = Task what })
IsBeside (Err stop) there = (first : Stopped (Cause TaskFault)) × (there ≡ Err first) × ((first ≡ stop) ⊎ (first.line < stop.line))

pub record IsExplained (Device : TaskFault → Type 0) (octets : List ℕ) (answer : Result Explained (Stopped (Cause TaskFault))) : Type 0 where
  pub left : Option (List ℕ)
  pub there : Result FoundInput (Stopped (Cause TaskFault))
  pub says : Answers input_rules nothing octets left None None there
  pub sure : IsSure Device there
  pub beside : IsBeside answer there

flawed : (Device : TaskFault → Type 0) → ((fault : TaskFault) → IsInText fault → Device fault → ⊥) → (what : TaskFault) (input : Input) (line : List ℕ)
    → what ≢ Memory → Faults what input line → Device what → ⊥
flawed Device only Write input line other faults device = faults
flawed Device only Json input line other faults device = only Json tt device
flawed Device only Field input line other faults device = only Field tt device
flawed Device only (World why) input line other faults device = only (World why) tt device
flawed Device only Memory input line other faults device = other refl

explained_whole : (Device : TaskFault → Type 0) (first : Bool) (octets : List ℕ) (left before after : Option (List ℕ)) (found : FoundInput)
    → AnswersAll explain_rules (unseen first) octets left before after (Whole found) → IsExplained Device octets (Ok (Whole found))
explained_whole Device first octets left before after found all =
    go (looked 1 (lines_of octets) (unseen first) all.state all.text refl all.taken)
  where
    go : Looked 1 (lines_of octets) (unseen first) all.state → IsExplained Device octets (Ok (Whole found))
    go (inl (none, taken)) = record {
      left = left;
      there = Ok found;
      says = record {
        state = all.state.input;
        text = [];
        taken = taken;
        last = [];
        ends = (subst (λ (o : Option (ℕ × TaskFault)). EndsIn all.state.input o (Whole found)) none all.ends.0, refl);
        output = tt;
        input = all.input;
      };
      sure = tt;
      beside = refl;
    }
    go (inr (at, what, is, flaw)) =
        let other : Whole found ≡ Flawed at what = subst (λ (o : Option (ℕ × TaskFault)). EndsIn all.state.input o (Whole found)) is all.ends.0 in
        absurd cc

explained_flaw : (Device : TaskFault → Type 0) → ((fault : TaskFault) → IsInText fault → Device fault → ⊥) → (first : Bool) (octets : List ℕ) (left before after : Option (List ℕ))
    (line : ℕ) (what : TaskFault) → AnswersAll explain_rules (unseen first) octets left before after (Flawed line what) → IsExplained Device octets (Ok (Flawed line what))
explained_flaw Device only first octets left before after line what all =
    go (looked 1 (lines_of octets) (unseen first) all.state all.text refl all.taken)
  where
    go : Looked 1 (lines_of octets) (unseen first) all.state → IsExplained Device octets (Ok (Flawed line what))
    go (inl (none, taken)) =
        let (place, why, world, faults) = subst (λ (o : Option (ℕ × TaskFault)). EndsIn all.state.input o (Flawed line what)) none all.ends.0 in
        let lines = all_counted 1 (lines_of octets) nothing all.state.input [] taken in
        record {
          left = left;
          there = Err (record { line = line; what = Task what });
          says = record {
            earlier = length (lines_of octets);
            number = omega (arith, place, lines);
            state = all.state.input;
            text = [];
            taken = subst (λ (ls : List (List ℕ)). TakesLines input_rules 1 ls nothing all.state.input [])
                (sym (take_all (length (lines_of octets)) (lines_of octets) (le_refl _))) taken;
            last = [];
            stops = inr (refl, (faults, refl), all.input);
            output = unknown (is_write what) [];
          };
          sure = subst (λ (fault : TaskFault). Device fault → ⊥) (sym world) (only (World why) tt);
          beside = refl;
        }
    go (inr (at, found, is, flaw)) =
        let same : Flawed line what ≡ Flawed at found = subst (λ (o : Option (ℕ × TaskFault)). EndsIn all.state.input o (Flawed line what)) is all.ends.0 in
        let line_is : at ≡ line = cc same in
        let what_is : found ≡ what = cc same in
        let here = subst (λ (x : ℕ × TaskFault). HasFlaw 1 (lines_of octets) nothing x.0 x.1) (λ i. (line_is i, what_is i)) flaw in
        record {
          left = Some (after_lines (here.place + 1) octets);
          there = Err (record { line = line; what = Task what });
          says = flaw_until octets line what here;
          sure = flawed Device only what here.state (without_cr here.octets) here.other here.faults;
          beside = refl;
        }

explained_until : (Device : TaskFault → Type 0) → Device Write → Device Memory → ((fault : TaskFault) → IsInText fault → Device fault → ⊥)
    → (first : Bool) (octets : List ℕ) (left before after : Option (List ℕ)) (failures failures' line : ℕ) (what : Cause TaskFault)
    → (IsOfDevice Device what → ⊥) → ExplainsUntil first octets left before after failures failures' line what
    → IsExplained Device octets (Err (record { line = line; what = what }))
explained_until Device write memory only first octets left before after failures failures' line (Reading fault) sure (told, until, writes) =
    go (looked 1 (take until.earlier (lines_of octets)) (unseen first) until.state until.text refl until.taken)
  where
    go : Looked 1 (take until.earlier (lines_of octets)) (unseen first) until.state → IsExplained Device octets (Err (record { line = line; what = Reading fault }))
    go (inl (none, taken)) = record {
      left = left;
      there = Err (record { line = line; what = Reading fault });
      says = record {
        earlier = until.earlier;
        number = until.number;
        state = until.state.input;
        text = [];
        taken = taken;
        last = [];
        stops = (until.stops.0, until.stops.1, refl, until.stops.3);
        output = tt;
      };
      sure = sure;
      beside = (record { line = line; what = Reading fault }, refl, inl refl);
    }
    go (inr (at, found, is, flaw)) =
        let (here, less) = in_front (lines_of octets) until.earlier at found flaw in
        record {
          left = Some (after_lines (here.place + 1) octets);
          there = Err (record { line = at; what = Task found });
          says = flaw_until octets at found here;
          sure = flawed Device only found here.state (without_cr here.octets) here.other here.faults;
          beside = (record { line = at; what = Task found }, refl, inr (omega (arith, less, until.number)));
        }
explained_until Device write memory only first octets left before after failures failures' line (Task fault) sure until =
    absurd (device until.stops)
  where
    by_kind : (fault ≡ Write) ⊎ (fault ≡ Memory) → ⊥
    by_kind (inl is) = sure (subst Device (sym is) write)
    by_kind (inr is) = sure (subst Device (sym is) memory)

    device : StopsBefore explain_rules until.earlier until.state octets (Task fault) until.last left → ⊥
    device (inl (octets', whole, there, fine, (stops, none), unread)) = by_kind stops
    device (inr (at_end, (stops, none), read)) = by_kind stops

pub explained : (Device : TaskFault → Type 0) → Device Write → Device Memory → ((fault : TaskFault) → IsInText fault → Device fault → ⊥)
    → (first : Bool) (octets : List ℕ) (left before after : Option (List ℕ)) (failures failures' : ℕ) (answer : Result Explained (Stopped (Cause TaskFault)))
    → IsSure Device answer → Explains first octets left before after failures failures' answer → IsExplained Device octets answer
explained Device write memory only first octets left before after failures failures' (Ok (Whole found)) sure all =
    explained_whole Device first octets left before after found all
explained Device write memory only first octets left before after failures failures' (Ok (Flawed line what)) sure all =
    explained_flaw Device only first octets left before after line what all
explained Device write memory only first octets left before after failures failures' (Err stop) sure until =
    explained_until Device write memory only first octets left before after failures failures' stop.line stop.what sure until
