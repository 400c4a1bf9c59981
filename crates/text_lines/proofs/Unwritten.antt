-- An answer by the rules of a task, as one by rules by which the same is done, and nothing is written.
use Rattle.std.proofs.Common.{◌≡◌, inl, inr, ℕ, ◌+◌, List, [], ◌∷◌, Bool, true, false, Option, None, Result, Ok, Err, refl, ap, subst}
use Rattle.std.specs.Prelude.{slice_get}
use Rattle.std.specs.Io.KnownBytes.{Appends}
use Rattle.text_lines.specs.declared.fault.Cause.{Cause}
use Rattle.text_lines.specs.declared.fault.Cause.TheVariants.{Reading, Task}
use Rattle.text_lines.specs.declared.fault.Stopped.{Stopped}
use Rattle.text_lines.specs.Lines.{lines_of, after_lines, reading_fault, LeavesUnread}
use Rattle.text_lines.specs.Task.{Rules, TakesLines, WentOut, FaultsInReading, StopsBefore, is_of_writer, Answers}
use Rattle.text_lines.proofs.OneAnswer.{IsOfDevice, IsSure}

-- by these rules, of which the states are seen so, each line does what it does by the others, and so does the end, but for
-- faults of a device or of memory
pub record IsReadBy {S T A F : Type 0} (rules : Rules S A F) (reads : Rules T A F) (seen : S → T) (Device : F → Type 0) : Type 0 where
  pub limit : rules.lines_limit ≡ reads.lines_limit
  pub takes : (line : List ℕ) (state later : S) (text : List ℕ) → rules.Takes line state later text → reads.Takes line (seen state) (seen later) []
  pub stops : (line : List ℕ) (state : S) (fault : F) (text : List ℕ) → (Device fault → ⊥) → rules.Stops line state fault text → reads.Stops line (seen state) fault []
  pub ends : (lines : ℕ) (state : S) (answer : A) (text : List ℕ) → rules.Ends lines state answer text → reads.Ends lines (seen state) answer []
  pub stops_at_end : (state : S) (fault : F) (text : List ℕ) → (Device fault → ⊥) → rules.StopsAtEnd state fault text → reads.StopsAtEnd (seen state) fault []

lines_read : {S T A F : Type 0} (rules : Rules S A F) (reads : Rules T A F) (seen : S → T) (Device : F → Type 0) → IsReadBy rules reads seen Device → (number : ℕ) (lines : List (List ℕ)) (state later : S) (text : List ℕ)
    → TakesLines rules number lines state later text → TakesLines reads number lines (seen state) (seen later) []
lines_read rules reads seen Device by number [] state later text (same, none) = (ap seen same, refl)
lines_read rules reads seen Device by number (line ∷ lines) state later text (next, first, others, fine, takes, rest, whole) = (
  seen next,
  [],
  [],
  subst (λ (limit : ℕ). reading_fault limit number line ≡ None) by.limit fine,
  by.takes _ state next first takes,
  lines_read rules reads seen Device by (number + 1) lines next later others rest,
  refl,
)

-- what is written isn't known
pub unknown : (of_writer : Bool) (text : List ℕ) → WentOut of_writer (Appends None None text)
unknown true text = tt
unknown false text = tt

stop_read : {S T A F : Type 0} (rules : Rules S A F) (reads : Rules T A F) (seen : S → T) (Device : F → Type 0) → IsReadBy rules reads seen Device → (octets : List ℕ) (place : ℕ) (state : S) (what : Cause F) (last : List ℕ)
    (left : Option (List ℕ)) → (IsOfDevice Device what → ⊥) → StopsBefore rules place state octets what last left → StopsBefore reads place (seen state) octets what [] left
stop_read rules reads seen Device by octets place state (Reading fault) last left sure (whole, faults, none, unread) = (
  whole,
  subst (λ (limit : ℕ). FaultsInReading fault limit (place + 1) (slice_get (lines_of octets) place)) by.limit faults,
  refl,
  subst (λ (limit : ℕ). LeavesUnread fault limit (place + 1) (after_lines place octets) left) by.limit unread,
)
stop_read rules reads seen Device by octets place state (Task fault) last left sure (inl (line, whole, there, fine, stops, unread)) =
    inl (line, whole, there, subst (λ (limit : ℕ). reading_fault limit (place + 1) line ≡ None) by.limit fine, by.stops _ state fault last sure stops, unread)
stop_read rules reads seen Device by octets place state (Task fault) last left sure (inr (at_end, stops, none)) = inr (at_end, by.stops_at_end state fault last sure stops, none)

pub answers_read : {S T A F : Type 0} (rules : Rules S A F) (reads : Rules T A F) (seen : S → T) (Device : F → Type 0) → IsReadBy rules reads seen Device → (start : S) (octets : List ℕ) (left before after : Option (List ℕ))
    (answer : Result A (Stopped (Cause F))) → IsSure Device answer → Answers rules start octets left before after answer → Answers reads (seen start) octets left None None answer
answers_read rules reads seen Device by start octets left before after (Ok answer) sure all = record {
  state = seen all.state;
  text = [];
  taken = lines_read rules reads seen Device by 1 (lines_of octets) start all.state all.text all.taken;
  last = [];
  ends = by.ends _ all.state answer all.last all.ends;
  output = tt;
  input = all.input;
}
answers_read rules reads seen Device by start octets left before after (Err stop) sure until = record {
  earlier = until.earlier;
  number = until.number;
  state = seen until.state;
  text = [];
  taken = lines_read rules reads seen Device by 1 _ start until.state until.text until.taken;
  last = [];
  stops = stop_read rules reads seen Device by octets until.earlier until.state stop.what until.last left sure until.stops;
  output = unknown (is_of_writer reads stop.what) [];
}
