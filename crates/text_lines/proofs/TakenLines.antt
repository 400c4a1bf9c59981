-- How far the lines of an input were taken.
use Rattle.std.proofs.Common.{◌≡◌, inl, inr, ℕ, zero, suc, ◌+◌, ◌<◌, ◌≤◌, List, [], ◌∷◌, ◌++◌, Bool, true, false, length, take, drop, Option, Some, None, refl, sym, ap, ◌∙◌, arith, append-nil, append_assoc, add-one, add-zero, add_comm, length-drop, length-take-le, take_all, le_refl}
use Rattle.std.specs.Prelude.{slice_get}
use Rattle.std.specs.Io.BufRead.{drop_through}
use Rattle.std.specs.Io.KnownBytes.{Appends}
use Rattle.std.proofs.KnownBytes.{Appends-nil, Appends-trans}
use Rattle.text_lines.specs.declared.fault.Cause.{Cause}
use Rattle.text_lines.specs.declared.fault.Cause.TheVariants.{Reading, Task}
use Rattle.text_lines.specs.declared.fault.ReadingFault.{ReadingFault}
use Rattle.text_lines.specs.declared.fault.ReadingFault.TheVariants.{Read, LineTooLong, TooManyLines}
use Rattle.text_lines.specs.Lines.{lines_of, lfs_in, after_lines, without_cr, reading_fault}
use Rattle.text_lines.specs.Inner.Reading.{StopsReading, ReadsLine}
use Rattle.text_lines.specs.Task.{Rules, TakesLines, WentOut, StopsBefore, is_of_writer, AnswersAll, AnswersUntil}

-- the first lines, which are count, were taken; each has its LF, unless the end was seen
pub record HasTaken {S A F : Type 0} (rules : Rules S A F) (start : S) (octets : List ℕ) (before : Option (List ℕ)) (count : ℕ) (ended : Bool) (state : S) (left now : Option (List ℕ)) : Type 0 where
  pub text : List ℕ
  pub taken : TakesLines rules 1 (take count (lines_of octets)) start state text
  pub output : Appends before now text
  pub input : left ≡ Some (after_lines count octets)
  pub rest : drop count (lines_of octets) ≡ lines_of (after_lines count octets)
  pub within : count ≤ length (lines_of octets)
  pub lfs : ended ≡ false → lfs_in octets ≡ lfs_in (after_lines count octets) + count

-- ---- lists at a place

within_list : {A : Type 0} (k : ℕ) (xs : List A) → drop k xs ≡ [] → k ≤ length xs → k ≡ length xs
within_list k xs e within = let left = ap length e in omega (arith, simp length-drop at left)

record IsAt {A : Type 0} (k : ℕ) (xs : List A) (y : A) (ys : List A) : Type 0 where
  at : slice_get xs k ≡ Some y
  within : k < length xs
  upto : take (k + 1) xs ≡ take k xs ++ y ∷ []
  behind : drop (k + 1) xs ≡ ys

is_at : {A : Type 0} (k : ℕ) (xs : List A) (y : A) (ys : List A) → drop k xs ≡ y ∷ ys → IsAt k xs y ys
is_at zero [] y ys e = absurd cc
is_at zero (x ∷ xs) y ys e = record { at = cc; within = omega arith; upto = cc; behind = cc }
is_at (suc k) [] y ys e = absurd cc
is_at (suc k) (x ∷ xs) y ys e =
    let inner = is_at k xs y ys e in
    record {
      at = inner.at;
      within = omega (arith, inner.within);
      upto = rw add-one (ap (λ l. x ∷ l) (rw add-one at inner.upto));
      behind = rw add-one (rw add-one at inner.behind);
    }

after_lines-suc : (count : ℕ) (octets : List ℕ) → after_lines (suc count) octets ≡ drop_through 10 (after_lines count octets)
after_lines-suc zero octets = refl
after_lines-suc (suc count) octets = after_lines-suc count (drop_through 10 octets)

after_lines-more : (count : ℕ) (octets : List ℕ) → after_lines (count + 1) octets ≡ after_lines 1 (after_lines count octets)
after_lines-more count octets = rw add-one (after_lines-suc count octets)

-- one line more is taken after the others
TakesLines-push : {S A F : Type 0} (rules : Rules S A F) (number : ℕ) (lines : List (List ℕ)) (line : List ℕ) (start state later : S) (text written : List ℕ)
    → TakesLines rules number lines start state text → reading_fault rules.lines_limit (number + length lines) line ≡ None → rules.Takes (without_cr line) state later written
    → TakesLines rules number (lines ++ line ∷ []) start later (text ++ written)
TakesLines-push rules number [] line start state later text written (same, none) fine takes = (
  later,
  written,
  [],
  rw add-zero at fine,
  rw same at takes,
  (refl, refl),
  ap (λ t. t ++ written) none ∙ sym (append-nil written),
)
TakesLines-push rules number (first ∷ lines) line start state later text written (next, one, others, sound, took, rest, whole) fine takes =
    let place : (number + 1) + length lines ≡ number + suc (length lines) = omega arith in (
      next,
      one,
      others ++ written,
      sound,
      took,
      TakesLines-push rules (number + 1) lines line next state later others written rest (rw place fine) takes,
      ap (λ t. t ++ written) whole ∙ append_assoc one others written,
    )

-- ---- the loop

pub begun : {S A F : Type 0} (rules : Rules S A F) (start : S) (octets : List ℕ) (left now : Option (List ℕ)) → left ≡ Some octets
    → HasTaken rules start octets now 0 false start left now
begun rules start octets left now known = record {
  text = [];
  taken = (refl, refl);
  output = Appends-nil now;
  input = known;
  rest = refl;
  within = omega arith;
  lfs = λ unended. omega arith;
}

pub taken_more : {S A F : Type 0} (rules : Rules S A F) (start : S) (octets : List ℕ) (before : Option (List ℕ)) (count : ℕ) (ended : Bool) (state later : S) (left left' now now' : Option (List ℕ)) (line written : List ℕ)
    → HasTaken rules start octets before count false state left now → ReadsLine true rules.lines_limit (count + 1) line ended (after_lines count octets) left'
    → rules.Takes (without_cr line) state later written → Appends now now' written → HasTaken rules start octets before (count + 1) ended later left' now'
taken_more rules start octets before count ended state later left left' now now' line written so_far (cut, fine, behind, lf) takes appended =
    let place = is_at count (lines_of octets) line _ (so_far.rest ∙ cut) in
    let more = after_lines-more count octets in
    record {
      text = so_far.text ++ written;
      taken = rw place.upto (TakesLines-push rules 1 (take count (lines_of octets)) line start state later so_far.text written so_far.taken
          (rw (length-take-le count (lines_of octets) so_far.within, add_comm 1 count) fine) takes);
      output = Appends-trans before now now' so_far.text written so_far.output appended;
      input = behind ∙ ap Some (sym more);
      rest = place.behind ∙ ap lines_of (sym more);
      within = omega (arith, place.within);
      lfs = λ unended. let lfs = so_far.lfs refl in let one = lf unended in rw more (omega (arith, lfs, one));
    }

pub all_taken : {S A F : Type 0} (rules : Rules S A F) (start : S) (octets : List ℕ) (before : Option (List ℕ)) (count : ℕ) (ended : Bool) (state : S) (left now : Option (List ℕ))
    → HasTaken rules start octets before count ended state left now → after_lines count octets ≡ []
    → (text : List ℕ) × TakesLines rules 1 (lines_of octets) start state text
all_taken rules start octets before count ended state left now so_far none =
    let all = within_list count (lines_of octets) (so_far.rest ∙ ap lines_of none) so_far.within in
    (so_far.text, rw (all, take_all (length (lines_of octets)) (lines_of octets) (le_refl _)) at so_far.taken)

pub taken_all : {S A F : Type 0} (rules : Rules S A F) (start : S) (octets : List ℕ) (before : Option (List ℕ)) (count : ℕ) (ended : Bool) (state : S) (left left' now now' : Option (List ℕ)) (answer : A) (last : List ℕ)
    → HasTaken rules start octets before count ended state left now → after_lines count octets ≡ [] → left' ≡ Some []
    → rules.Ends count state answer last → Appends now now' last → AnswersAll rules start octets left' before now' answer
taken_all rules start octets before count ended state left left' now now' answer last so_far none end ends appended =
    let all = within_list count (lines_of octets) (so_far.rest ∙ ap lines_of none) so_far.within in
    record {
      state = state;
      text = so_far.text;
      taken = rw (all, take_all (length (lines_of octets)) (lines_of octets) (le_refl _)) at so_far.taken;
      last = last;
      ends = rw all at ends;
      output = Appends-trans before now now' so_far.text last so_far.output appended;
      input = end;
    }

-- ---- faults

out_after : (of_writer : Bool) (before now now' : Option (List ℕ)) (text last : List ℕ) → Appends before now text → WentOut of_writer (Appends now now' last)
    → WentOut of_writer (Appends before now' (text ++ last))
out_after true before now now' text last known out = tt
out_after false before now now' text last known out = Appends-trans before now now' text last known out

until : {S A F : Type 0} (rules : Rules S A F) (start : S) (octets : List ℕ) (before : Option (List ℕ)) (count : ℕ) (ended : Bool) (state : S) (left left' now now' : Option (List ℕ)) (line : ℕ) (what : Cause F) (last : List ℕ)
    → HasTaken rules start octets before count ended state left now → line ≡ count + 1 → StopsBefore rules count state octets what last left'
    → WentOut (is_of_writer rules what) (Appends now now' last) → AnswersUntil rules start octets left' before now' line what
until rules start octets before count ended state left left' now now' line what last so_far number stops out = record {
  earlier = count;
  number = number;
  state = state;
  text = so_far.text;
  taken = so_far.taken;
  last = last;
  stops = stops;
  output = out_after (is_of_writer rules what) before now now' so_far.text last so_far.output out;
}

pub stopped_reading : {S A F : Type 0} (rules : Rules S A F) (start : S) (octets : List ℕ) (before : Option (List ℕ)) (count : ℕ) (state : S) (left left' now : Option (List ℕ)) (line : ℕ) (fault : ReadingFault)
    → HasTaken rules start octets before count false state left now → line ≡ count + 1 → StopsReading fault rules.lines_limit (count + 1) (after_lines count octets) left'
    → AnswersUntil rules start octets left' before now line (Reading fault)
stopped_reading rules start octets before count state left left' now line fault so_far number stops =
    go fault stops
  where
    go : (fault : ReadingFault) → StopsReading fault rules.lines_limit (count + 1) (after_lines count octets) left' → AnswersUntil rules start octets left' before now line (Reading fault)
    go Read stops =
        until rules start octets before count false state left left' now now line (Reading Read) [] so_far number
        (omega (arith, so_far.lfs refl), tt, refl, stops) (Appends-nil now)
    go LineTooLong (long, others, cut, fault, unread) =
        let place = is_at count (lines_of octets) long others (so_far.rest ∙ cut) in
        until rules start octets before count false state left left' now now line (Reading LineTooLong) [] so_far number
        (omega (arith, so_far.lfs refl), rw place.at fault, refl, unread) (Appends-nil now)
    go TooManyLines (long, others, cut, fault, unread) =
        let place = is_at count (lines_of octets) long others (so_far.rest ∙ cut) in
        until rules start octets before count false state left left' now now line (Reading TooManyLines) [] so_far number
        (omega (arith, so_far.lfs refl), rw place.at fault, refl, unread) (Appends-nil now)

pub stopped_taking : {S A F : Type 0} (rules : Rules S A F) (start : S) (octets : List ℕ) (before : Option (List ℕ)) (count : ℕ) (ended : Bool) (state : S) (left left' now now' : Option (List ℕ)) (number : ℕ) (line : List ℕ) (fault : F) (last : List ℕ)
    → HasTaken rules start octets before count false state left now → number ≡ count + 1 → ReadsLine true rules.lines_limit (count + 1) line ended (after_lines count octets) left'
    → rules.Stops (without_cr line) state fault last → WentOut (rules.is_of_writer fault) (Appends now now' last)
    → AnswersUntil rules start octets left' before now' number (Task fault)
stopped_taking rules start octets before count ended state left left' now now' number line fault last so_far place_is (cut, fine, behind, lf) stops out =
    let place = is_at count (lines_of octets) line _ (so_far.rest ∙ cut) in
    until rules start octets before count false state left left' now now' number (Task fault) last so_far place_is
    (inl (line, omega (arith, so_far.lfs refl), place.at, fine, stops, behind ∙ ap Some (sym (after_lines-more count octets)))) out

pub stopped_at_end : {S A F : Type 0} (rules : Rules S A F) (start : S) (octets : List ℕ) (before : Option (List ℕ)) (count : ℕ) (ended : Bool) (state : S) (left left' now now' : Option (List ℕ)) (number : ℕ) (fault : F) (last : List ℕ)
    → HasTaken rules start octets before count ended state left now → number ≡ count + 1 → after_lines count octets ≡ [] → left' ≡ Some []
    → rules.StopsAtEnd state fault last → WentOut (rules.is_of_writer fault) (Appends now now' last)
    → AnswersUntil rules start octets left' before now' number (Task fault)
stopped_at_end rules start octets before count ended state left left' now now' number fault last so_far place_is none end stops out =
    until rules start octets before count ended state left left' now now' number (Task fault) last so_far place_is
    (inr (within_list count (lines_of octets) (so_far.rest ∙ ap lines_of none) so_far.within, stops, end)) out
