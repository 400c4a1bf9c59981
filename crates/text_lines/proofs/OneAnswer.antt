-- Octets have one answer by the rules of a task, where a line has, and the end.
use Rattle.std.proofs.Common.{◌≡◌, ◌∙◌, inl, inr, ℕ, zero, suc, ◌+◌, ◌<◌, ◌≤◌, List, [], ◌∷◌, ◌++◌, Bool, true, false, length, take, Option, Some, None, Result, Ok, Err, refl, sym, ap, subst, arith, take_all, le_refl}
use Rattle.std.specs.Prelude.{slice_get, MatchResult, ⊤}
use Rattle.std.specs.Io.KnownBytes.{Appends}
use Rattle.text_lines.specs.declared.fault.Cause.{Cause}
use Rattle.text_lines.specs.declared.fault.Cause.TheVariants.{Reading, Task}
use Rattle.text_lines.specs.declared.fault.Stopped.{Stopped}
use Rattle.text_lines.specs.declared.fault.ReadingFault.{ReadingFault}
use Rattle.text_lines.specs.declared.fault.ReadingFault.TheVariants.{Read, LineTooLong, TooManyLines}
use Rattle.text_lines.specs.Lines.{lines_of, after_lines, without_cr, reading_fault, LeavesUnread}
use Rattle.text_lines.specs.Task.{Rules, TakesLines, WentOut, FaultsInReading, StopsBefore, is_of_writer, AnswersAll, AnswersUntil, Answers}

-- a fault of a device or of memory, by which of the task's faults are
abbrev pub IsOfDevice : {F : Type 0} → (F → Type 0) → Cause F → Type 0
IsOfDevice Device (Reading Read) = Unit {0}
IsOfDevice Device (Reading LineTooLong) = ⊥
IsOfDevice Device (Reading TooManyLines) = ⊥
IsOfDevice Device (Task fault) = Device fault

-- A line does one thing to a state, and the end gives one answer, but for faults of a device or of memory.
pub record HasOneCourse {S A F : Type 0} (rules : Rules S A F) (Device : F → Type 0) : Type 0 where
  pub one_step : (line : List ℕ) (state one other : S) (text text' : List ℕ) → rules.Takes line state one text → rules.Takes line state other text'
      → (other ≡ one) × (text' ≡ text)
  pub no_fault : (line : List ℕ) (state later : S) (text text' : List ℕ) (fault : F) → (Device fault → ⊥) → rules.Takes line state later text
      → rules.Stops line state fault text' → ⊥
  pub one_fault : (line : List ℕ) (state : S) (text text' : List ℕ) (one other : F) → (Device one → ⊥) → (Device other → ⊥) → rules.Stops line state one text
      → rules.Stops line state other text' → (other ≡ one) × (text' ≡ text)
  pub one_end : (lines : ℕ) (state : S) (text text' : List ℕ) (one other : A) → rules.Ends lines state one text → rules.Ends lines state other text'
      → (other ≡ one) × (text' ≡ text)
  pub no_fault_at_end : (lines : ℕ) (state : S) (text text' : List ℕ) (answer : A) (fault : F) → (Device fault → ⊥) → rules.Ends lines state answer text
      → rules.StopsAtEnd state fault text' → ⊥
  pub one_fault_at_end : (state : S) (text text' : List ℕ) (one other : F) → (Device one → ⊥) → (Device other → ⊥) → rules.StopsAtEnd state one text
      → rules.StopsAtEnd state other text' → (other ≡ one) × (text' ≡ text)
  pub writer : (fault : F) → rules.is_of_writer fault ≡ true → Device fault

-- ---- lines that were taken

pub one_course : {S A F : Type 0} (rules : Rules S A F) (Device : F → Type 0) → HasOneCourse rules Device → (number : ℕ) (lines : List (List ℕ)) (start state state' : S)
    (text text' : List ℕ) → TakesLines rules number lines start state text → TakesLines rules number lines start state' text' → (state' ≡ state) × (text' ≡ text)
one_course rules Device one number [] start state state' text text' h k = (k.0 ∙ sym h.0, k.1 ∙ sym h.1)
one_course {S} rules Device one number (line ∷ lines) start state state' text text' (next, first, others, fine, takes, rest, whole)
    (next', first', others', fine', takes', rest', whole') =
    let (same, same_text) = one.one_step (without_cr line) start next next' first first' takes takes' in
    let again = subst (λ (s : S). TakesLines rules (number + 1) lines s state' others') same rest' in
    let (last, last_text) = one_course rules Device one (number + 1) lines next state state' others others' rest again in
    (last, whole' ∙ (λ i. same_text i ++ last_text i) ∙ sym whole)

-- the line at a place among lines that were taken
record IsTaken {S A F : Type 0} (rules : Rules S A F) (number : ℕ) (lines : List (List ℕ)) (start : S) (place : ℕ) (line : List ℕ) : Type 0 where
  state : S
  text : List ℕ
  before : TakesLines rules number (take place lines) start state text
  readable : reading_fault rules.lines_limit (number + place) line ≡ None
  later : S
  written : List ℕ
  takes : rules.Takes (without_cr line) state later written

is_taken : {S A F : Type 0} (rules : Rules S A F) (number : ℕ) (lines : List (List ℕ)) (start state : S) (text : List ℕ) (place : ℕ) (line : List ℕ)
    → TakesLines rules number lines start state text → slice_get lines place ≡ Some line → IsTaken rules number lines start place line
is_taken rules number [] start state text place line h e = absurd cc
is_taken rules number (first ∷ lines) start state text zero line (next, one, others, fine, takes, rest, whole) e =
    let same : first ≡ line = cc in record {
      state = start;
      text = [];
      before = (refl, refl);
      readable = subst (λ (x : ℕ × List ℕ). reading_fault rules.lines_limit x.0 x.1 ≡ None) (λ i. (place_is i, same i)) fine;
      later = next;
      written = one;
      takes = subst (λ (l : List ℕ). rules.Takes (without_cr l) start next one) same takes;
    }
  where
    place_is : number ≡ number + 0
    place_is = omega arith
is_taken rules number (first ∷ lines) start state text (suc place) line (next, one, others, fine, takes, rest, whole) e =
    let inner = is_taken rules (number + 1) lines next state others place line rest e in record {
      state = inner.state;
      text = one ++ inner.text;
      before = (next, one, inner.text, fine, takes, inner.before, refl);
      readable = subst (λ (n : ℕ). reading_fault rules.lines_limit n line ≡ None) (omega arith) inner.readable;
      later = inner.later;
      written = inner.written;
      takes = inner.takes;
    }

-- a place that a list has
pub is_within : {A : Type 0} (xs : List A) (k : ℕ) (x : A) → slice_get xs k ≡ Some x → k < length xs
is_within [] k x e = absurd cc
is_within (y ∷ ys) zero x e = omega arith
is_within (y ∷ ys) (suc k) x e = let inner = is_within ys k x e in omega (arith, inner)

-- and its front has, too
pub get_taken : {A : Type 0} (xs : List A) (k n : ℕ) → k < n → slice_get (take n xs) k ≡ slice_get xs k
get_taken [] k zero below = absurd (omega arith)
get_taken [] k (suc n) below = refl
get_taken (x ∷ xs) k zero below = absurd (omega arith)
get_taken (x ∷ xs) zero (suc n) below = refl
get_taken (x ∷ xs) (suc k) (suc n) below = get_taken xs k n (omega arith)

pub take-take-less : {A : Type 0} (xs : List A) (k n : ℕ) → k < n → take k (take n xs) ≡ take k xs
take-take-less [] zero (suc n) below = refl
take-take-less [] (suc k) (suc n) below = refl
take-take-less xs k zero below = absurd (omega arith)
take-take-less (x ∷ xs) zero (suc n) below = refl
take-take-less (x ∷ xs) (suc k) (suc n) below = ap (λ l. x ∷ l) (take-take-less xs k n (omega arith))

-- ---- how it ends

-- how an answer ends after so many lines, of which this is left
abbrev pub EndsAs : {S A F : Type 0} → Rules S A F → (F → Type 0) → List ℕ → ℕ → S → Result A (Cause F) → List ℕ → Option (List ℕ) → Type 0
EndsAs rules Device octets place state (Ok answer) last left =
    (place ≡ length (lines_of octets)) × rules.Ends (length (lines_of octets)) state answer last × (left ≡ Some [])
EndsAs rules Device octets place state (Err what) last left = (IsOfDevice Device what → ⊥) × StopsBefore rules place state octets what last left

-- an answer that isn't a fault of a device or of memory
pub record Course {S A F : Type 0} (rules : Rules S A F) (start : S) (Device : F → Type 0) (octets : List ℕ) (left before after : Option (List ℕ)) (end : Result A (Cause F)) : Type 0 where
  pub place : ℕ
  pub state : S
  pub text : List ℕ
  pub taken : TakesLines rules 1 (take place (lines_of octets)) start state text
  pub last : List ℕ
  pub ends : EndsAs rules Device octets place state end last left
  pub output : Appends before after (text ++ last)

-- a line that ends it isn't among those that were taken
not_before : {S A F : Type 0} (rules : Rules S A F) (start : S) (Device : F → Type 0) → HasOneCourse rules Device → (octets : List ℕ) (end : Result A (Cause F)) (place count : ℕ)
    (state later : S) (text text' last : List ℕ) (left : Option (List ℕ)) → TakesLines rules 1 (take place (lines_of octets)) start state text
    → EndsAs rules Device octets place state end last left → TakesLines rules 1 (take count (lines_of octets)) start later text'
    → count ≤ length (lines_of octets) → place < count → ⊥
not_before rules start Device one octets (Ok answer) place count state later text text' last left taken (at_end, ends, none) others within less = absurd (omega (arith, at_end, within, less))
not_before {S} {A} {F} rules start Device one octets (Err what) place count state later text text' last left taken (sure, stops) others within less =
    go what sure stops
  where
    found : (line : List ℕ) → slice_get (lines_of octets) place ≡ Some line → IsTaken rules 1 (take count (lines_of octets)) start place line
    found line there = is_taken rules 1 (take count (lines_of octets)) start later text' place line others (get_taken (lines_of octets) place count less ∙ there)

    readable : (line : List ℕ) → slice_get (lines_of octets) place ≡ Some line → reading_fault rules.lines_limit (place + 1) line ≡ None
    readable line there = subst (λ (n : ℕ). reading_fault rules.lines_limit n line ≡ None) (omega arith) (found line there).readable

    unreadable : (fault : ReadingFault) (line : Option (List ℕ)) → slice_get (lines_of octets) place ≡ line → (IsOfDevice Device (Reading fault) → ⊥)
        → FaultsInReading fault rules.lines_limit (place + 1) line → ⊥
    unreadable Read line there sure faults = sure tt
    unreadable LineTooLong None there sure faults = faults
    unreadable LineTooLong (Some line) there sure faults = let fine = readable line there in absurd (cc (fine, faults))
    unreadable TooManyLines None there sure faults = faults
    unreadable TooManyLines (Some line) there sure faults = let fine = readable line there in absurd (cc (fine, faults))

    go : (what : Cause F) → (IsOfDevice Device what → ⊥) → StopsBefore rules place state octets what last left → ⊥
    go (Reading fault) sure stops = unreadable fault (slice_get (lines_of octets) place) refl sure stops.1
    go (Task fault) sure (inl (line, whole, there, fine, stops, unread)) =
        let here = found line there in
        let same = one_course rules Device one 1 (take place (lines_of octets)) start state here.state text here.text taken
        (subst (λ (ls : List (List ℕ)). TakesLines rules 1 ls start here.state here.text) (take-take-less (lines_of octets) place count less) here.before) in
        one.no_fault (without_cr line) state here.later here.written last fault sure
        (subst (λ (s : S). rules.Takes (without_cr line) s here.later here.written) same.0 here.takes) stops
    go (Task fault) sure (inr (at_end, stops, none)) = absurd (omega (arith, at_end, within, less))

there_is : (fault : ReadingFault) (limit number : ℕ) (line : Option (List ℕ)) {F : Type 0} (Device : F → Type 0) → (IsOfDevice Device (Reading fault) → ⊥) → FaultsInReading fault limit number line
    → (l : List ℕ) × (line ≡ Some l) × (reading_fault limit number l ≡ Some fault)
there_is Read limit number line Device sure faults = absurd (sure tt)
there_is LineTooLong limit number None Device sure faults = absurd faults
there_is LineTooLong limit number (Some line) Device sure faults = (line, refl, faults)
there_is TooManyLines limit number None Device sure faults = absurd faults
there_is TooManyLines limit number (Some line) Device sure faults = (line, refl, faults)

one_left : (fault : ReadingFault) {F : Type 0} (Device : F → Type 0) → (IsOfDevice Device (Reading fault) → ⊥) → (limit number : ℕ) (octets : List ℕ) (left left' : Option (List ℕ))
    → LeavesUnread fault limit number octets left → LeavesUnread fault limit number octets left' → left' ≡ left
one_left Read Device sure limit number octets left left' h k = absurd (sure tt)
one_left LineTooLong Device sure limit number octets left left' h k = k ∙ sym h
one_left TooManyLines Device sure limit number octets left left' h k = k ∙ sym h

-- a line and the end aren't at one place
not_both : (octets line : List ℕ) (place : ℕ) → slice_get (lines_of octets) place ≡ Some line → place ≡ length (lines_of octets) → ⊥
not_both octets line place there at_end = let inside = is_within (lines_of octets) place line there in absurd (omega (arith, inside, at_end))

one_stop : {S A F : Type 0} (rules : Rules S A F) (Device : F → Type 0) → HasOneCourse rules Device → (octets : List ℕ) (place : ℕ) (state : S) (what what' : Cause F) (last last' : List ℕ)
    (left left' : Option (List ℕ)) → (IsOfDevice Device what → ⊥) → (IsOfDevice Device what' → ⊥) → StopsBefore rules place state octets what last left
    → StopsBefore rules place state octets what' last' left' → (what' ≡ what) × (last' ≡ last) × (left' ≡ left)
one_stop rules Device one octets place state (Reading fault) (Reading fault') last last' left left' sure sure' (whole, faults, none, unread) (whole', faults', none', unread') =
    let (line, there, is) = there_is fault rules.lines_limit (place + 1) (slice_get (lines_of octets) place) Device sure faults in
    let (line', there', is') = there_is fault' rules.lines_limit (place + 1) (slice_get (lines_of octets) place) Device sure' faults' in
    let lines : line' ≡ line = cc (there, there') in
    let again = subst (λ (l : List ℕ). reading_fault rules.lines_limit (place + 1) l ≡ Some fault') lines is' in
    let same : fault' ≡ fault = cc (is, again) in
    let unread_same = subst (λ (f : ReadingFault). LeavesUnread f rules.lines_limit (place + 1) (after_lines place octets) left') same unread' in (
      ap Reading same,
      none' ∙ sym none,
      one_left fault Device sure rules.lines_limit (place + 1) (after_lines place octets) left left' unread unread_same,
    )
one_stop rules Device one octets place state (Reading fault) (Task kind) last last' left left' sure sure' (whole, faults, none, unread) (inl (line', whole', there', fine', stops', unread')) =
    let (line, there, is) = there_is fault rules.lines_limit (place + 1) (slice_get (lines_of octets) place) Device sure faults in
    let lines : line' ≡ line = cc (there, there') in
    let fine = subst (λ (l : List ℕ). reading_fault rules.lines_limit (place + 1) l ≡ None) lines fine' in
    absurd (cc (is, fine))
one_stop rules Device one octets place state (Reading fault) (Task kind) last last' left left' sure sure' (whole, faults, none, unread) (inr (at_end, stops', none')) =
    let (line, there, is) = there_is fault rules.lines_limit (place + 1) (slice_get (lines_of octets) place) Device sure faults in
    absurd (not_both octets line place there at_end)
one_stop rules Device one octets place state (Task kind) (Reading fault) last last' left left' sure sure' (inl (line', whole', there', fine', stops', unread')) (whole, faults, none, unread) =
    let (line, there, is) = there_is fault rules.lines_limit (place + 1) (slice_get (lines_of octets) place) Device sure' faults in
    let lines : line' ≡ line = cc (there, there') in
    let fine = subst (λ (l : List ℕ). reading_fault rules.lines_limit (place + 1) l ≡ None) lines fine' in
    absurd (cc (is, fine))
one_stop rules Device one octets place state (Task kind) (Reading fault) last last' left left' sure sure' (inr (at_end, stops', none')) (whole, faults, none, unread) =
    let (line, there, is) = there_is fault rules.lines_limit (place + 1) (slice_get (lines_of octets) place) Device sure' faults in
    absurd (not_both octets line place there at_end)
one_stop {S} rules Device one octets place state (Task kind) (Task kind') last last' left left' sure sure' (inl (line, whole, there, fine, stops, unread)) (inl (line', whole', there', fine', stops', unread')) =
    let lines : line' ≡ line = cc (there, there') in
    let again = subst (λ (l : List ℕ). rules.Stops (without_cr l) state kind' last') lines stops' in
    let same = one.one_fault (without_cr line) state last last' kind kind' sure sure' stops again in
    (ap Task same.0, same.1, unread' ∙ sym unread)
one_stop rules Device one octets place state (Task kind) (Task kind') last last' left left' sure sure' (inl (line, whole, there, fine, stops, unread)) (inr (at_end, stops', none')) =
    absurd (not_both octets line place there at_end)
one_stop rules Device one octets place state (Task kind) (Task kind') last last' left left' sure sure' (inr (at_end, stops', none')) (inl (line, whole, there, fine, stops, unread)) =
    absurd (not_both octets line place there at_end)
one_stop rules Device one octets place state (Task kind) (Task kind') last last' left left' sure sure' (inr (at_end, stops, none)) (inr (at_end', stops', none')) =
    let same = one.one_fault_at_end state last last' kind kind' sure sure' stops stops' in
    (ap Task same.0, same.1, none' ∙ sym none)

-- an answer isn't a fault
no_stop : {S A F : Type 0} (rules : Rules S A F) (Device : F → Type 0) → HasOneCourse rules Device → (octets : List ℕ) (place : ℕ) (state : S) (answer : A) (what : Cause F) (last last' : List ℕ)
    (left left' : Option (List ℕ)) → EndsAs rules Device octets place state (Ok answer) last left → EndsAs rules Device octets place state (Err what) last' left' → ⊥
no_stop rules Device one octets place state answer (Reading fault) last last' left left' (at_end, ends, none) (sure, (whole, faults, nothing, unread)) =
    let (line, there, is) = there_is fault rules.lines_limit (place + 1) (slice_get (lines_of octets) place) Device sure faults in
    not_both octets line place there at_end
no_stop rules Device one octets place state answer (Task kind) last last' left left' (at_end, ends, none) (sure, inl (line, whole, there, fine, stops, unread)) =
    not_both octets line place there at_end
no_stop rules Device one octets place state answer (Task kind) last last' left left' (at_end, ends, none) (sure, inr (at_end', stops, none')) =
    one.no_fault_at_end (length (lines_of octets)) state last last' answer kind sure ends stops

one_end_at : {S A F : Type 0} (rules : Rules S A F) (Device : F → Type 0) → HasOneCourse rules Device → (octets : List ℕ) (place : ℕ) (state : S) (end end' : Result A (Cause F)) (last last' : List ℕ)
    (left left' : Option (List ℕ)) → EndsAs rules Device octets place state end last left → EndsAs rules Device octets place state end' last' left'
    → (end' ≡ end) × (last' ≡ last) × (left' ≡ left)
one_end_at rules Device one octets place state (Ok answer) (Ok answer') last last' left left' (at_end, ends, none) (at_end', ends', none') =
    let same = one.one_end (length (lines_of octets)) state last last' answer answer' ends ends' in
    (ap Ok same.0, same.1, none' ∙ sym none)
one_end_at rules Device one octets place state (Ok answer) (Err what) last last' left left' h k = absurd (no_stop rules Device one octets place state answer what last last' left left' h k)
one_end_at rules Device one octets place state (Err what) (Ok answer) last last' left left' h k = absurd (no_stop rules Device one octets place state answer what last' last left' left k h)
one_end_at rules Device one octets place state (Err what) (Err what') last last' left left' (sure, stops) (sure', stops') =
    let same = one_stop rules Device one octets place state what what' last last' left left' sure sure' stops stops' in
    (ap Err same.0, same.1, same.2)

place_within : {S A F : Type 0} (rules : Rules S A F) (Device : F → Type 0) (octets : List ℕ) (place : ℕ) (state : S) (end : Result A (Cause F)) (last : List ℕ) (left : Option (List ℕ))
    → EndsAs rules Device octets place state end last left → place ≤ length (lines_of octets)
place_within rules Device octets place state (Ok answer) last left (at_end, ends, none) = omega (arith, at_end)
place_within rules Device octets place state (Err (Reading fault)) last left (sure, (whole, faults, nothing, unread)) =
    let (line, there, is) = there_is fault rules.lines_limit (place + 1) (slice_get (lines_of octets) place) Device sure faults in
    omega (arith, is_within (lines_of octets) place line there)
place_within rules Device octets place state (Err (Task kind)) last left (sure, inl (line, whole, there, fine, stops, unread)) = omega (arith, is_within (lines_of octets) place line there)
place_within rules Device octets place state (Err (Task kind)) last left (sure, inr (at_end, stops, none)) = omega (arith, at_end)

neither_less : (p q : ℕ) → (p < q → ⊥) → (q < p → ⊥) → p ≡ q
neither_less p q a b = omega (arith, a, b)

-- two such answers over the same octets are the same, at the same place, leave the same octets, and wrote one text
pub record AreOneAnswer {A F : Type 0} (end end' : Result A (Cause F)) (place place' : ℕ) (left left' before after before' after' : Option (List ℕ)) : Type 0 where
  pub end_is : end' ≡ end
  pub place_is : place' ≡ place
  pub left_is : left' ≡ left
  pub text : List ℕ
  pub output : Appends before after text
  pub output' : Appends before' after' text

pub one_answer : {S A F : Type 0} (rules : Rules S A F) (start : S) (Device : F → Type 0) → HasOneCourse rules Device → (octets : List ℕ) (left before after left' before' after' : Option (List ℕ))
    (end end' : Result A (Cause F)) (one : Course rules start Device octets left before after end) (other : Course rules start Device octets left' before' after' end')
    → AreOneAnswer end end' one.place other.place left left' before after before' after'
one_answer {S} rules start Device sole octets left before after left' before' after' end end' one other =
    let place : other.place ≡ one.place = neither_less other.place one.place
    (not_before rules start Device sole octets end' other.place one.place other.state one.state other.text one.text other.last left' other.taken other.ends one.taken
    (place_within rules Device octets one.place one.state end one.last left one.ends))
    (not_before rules start Device sole octets end one.place other.place one.state other.state one.text other.text one.last left one.taken one.ends other.taken
    (place_within rules Device octets other.place other.state end' other.last left' other.ends)) in
    let again = subst (λ (n : ℕ). TakesLines rules 1 (take n (lines_of octets)) start other.state other.text) place other.taken in
    let course = one_course rules Device sole 1 (take one.place (lines_of octets)) start one.state other.state one.text other.text one.taken again in
    let ends = subst (λ (x : ℕ × S). EndsAs rules Device octets x.0 x.1 end' other.last left') (λ i. (place i, course.0 i)) other.ends in
    let same = one_end_at rules Device sole octets one.place one.state end end' one.last other.last left left' one.ends ends in
    record {
      end_is = same.0;
      place_is = place;
      left_is = same.2;
      text = one.text ++ one.last;
      output = one.output;
      output' = subst (Appends before' after') (λ i. course.1 i ++ same.1 i) other.output;
    }

-- ---- answers

abbrev pub course_of_all : {S A F : Type 0} (rules : Rules S A F) (start : S) (Device : F → Type 0) (octets : List ℕ) (left before after : Option (List ℕ)) (answer : A)
    → AnswersAll rules start octets left before after answer → Course rules start Device octets left before after (Ok answer)
course_of_all {S} rules start Device octets left before after answer all = record {
  place = length (lines_of octets);
  state = all.state;
  text = all.text;
  taken = subst (λ (ls : List (List ℕ)). TakesLines rules 1 ls start all.state all.text) (sym (take_all (length (lines_of octets)) (lines_of octets) (le_refl _))) all.taken;
  last = all.last;
  ends = (refl, all.ends, all.input);
  output = all.output;
}

pub known_output : {S A F : Type 0} (rules : Rules S A F) (Device : F → Type 0) → HasOneCourse rules Device → (what : Cause F) (known : Type 0) → (IsOfDevice Device what → ⊥)
    → WentOut (is_of_writer rules what) known → known
known_output rules Device one (Reading fault) known sure out = out
known_output rules Device one (Task kind) known sure out =
    by_writer (rules.is_of_writer kind) refl out
  where
    by_writer : (of_writer : Bool) → rules.is_of_writer kind ≡ of_writer → WentOut of_writer known → known
    by_writer true is out = absurd (sure (one.writer kind is))
    by_writer false is out = out

abbrev pub course_until : {S A F : Type 0} (rules : Rules S A F) (start : S) (Device : F → Type 0) → HasOneCourse rules Device → (octets : List ℕ) (left before after : Option (List ℕ)) (line : ℕ) (what : Cause F)
    → (IsOfDevice Device what → ⊥) → (until : AnswersUntil rules start octets left before after line what) → Course rules start Device octets left before after (Err what)
course_until rules start Device one octets left before after line what sure until = record {
  place = until.earlier;
  state = until.state;
  text = until.text;
  taken = until.taken;
  last = until.last;
  ends = (sure, until.stops);
  output = known_output rules Device one what _ sure until.output;
}

-- an answer that isn't a fault of a device or of memory
abbrev pub IsSure : {A F : Type 0} → (F → Type 0) → Result A (Stopped (Cause F)) → Type 0
IsSure Device answer = MatchResult answer (λ _. ⊤) (λ stop. IsOfDevice Device stop.what → ⊥)

pub answers_one : {S A F : Type 0} (rules : Rules S A F) (start : S) (Device : F → Type 0) → HasOneCourse rules Device → (octets : List ℕ) (left before after left' before' after' : Option (List ℕ))
    (answer answer' : Result A (Stopped (Cause F))) → Answers rules start octets left before after answer → Answers rules start octets left' before' after' answer'
    → IsSure Device answer → IsSure Device answer' → (answer' ≡ answer) × (left' ≡ left) × ((text : List ℕ) × Appends before after text × Appends before' after' text)
answers_one rules start Device sole octets left before after left' before' after' (Ok answer) (Ok answer') one other sure sure' =
    let same = one_answer rules start Device sole octets left before after left' before' after' (Ok answer) (Ok answer')
    (course_of_all rules start Device octets left before after answer one) (course_of_all rules start Device octets left' before' after' answer' other) in
    let ends = same.end_is in
    let answers : answer' ≡ answer = cc in
    (ap Ok answers, same.left_is, (same.text, same.output, same.output'))
answers_one rules start Device sole octets left before after left' before' after' (Ok answer) (Err stop) one until sure sure' =
    let same = one_answer rules start Device sole octets left before after left' before' after' (Ok answer) (Err stop.what)
    (course_of_all rules start Device octets left before after answer one) (course_until rules start Device sole octets left' before' after' stop.line stop.what sure' until) in
    let ends = same.end_is in
    absurd cc
answers_one rules start Device sole octets left before after left' before' after' (Err stop) (Ok answer) until other sure sure' =
    let same = one_answer rules start Device sole octets left before after left' before' after' (Err stop.what) (Ok answer)
    (course_until rules start Device sole octets left before after stop.line stop.what sure until) (course_of_all rules start Device octets left' before' after' answer other) in
    let ends = same.end_is in
    absurd cc
answers_one rules start Device sole octets left before after left' before' after' (Err stop) (Err stop') until until' sure sure' =
    let same = one_answer rules start Device sole octets left before after left' before' after' (Err stop.what) (Err stop'.what)
    (course_until rules start Device sole octets left before after stop.line stop.what sure until)
    (course_until rules start Device sole octets left' before' after' stop'.line stop'.what sure' until') in
    let ends = same.end_is in
    let causes : stop'.what ≡ stop.what = cc in
    let lines : stop'.line ≡ stop.line = until'.number ∙ ap (λ (n : ℕ). n + 1) same.place_is ∙ sym until.number in
    (ap Err (λ i. record { line = lines i; what = causes i }), same.left_is, (same.text, same.output, same.output'))
