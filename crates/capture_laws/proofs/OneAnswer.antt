-- Octets have one answer by the rules of a task, where a packet has, and the end.
use Rattle.std.proofs.Common.{◌≡◌, ◌≢◌, ◌⊎◌, ◌∙◌, ℕ, ◌+◌, List, [], ◌∷◌, ◌++◌, Bool, true, false, length, min, Option, Some, Result, Ok, Err, refl, sym, ap, inl, inr, subst, append_assoc}
use Rattle.std.specs.Prelude.{option_to_list}
use Rattle.std.specs.Io.KnownBytes.{Appends}
use Rattle.std.proofs.lemmas.List.{append_cancel_left}
use Rattle.text_lines.specs.Counted.{greatest_count}
use Rattle.text_lines.specs.Task.{WentOut}
use Rattle.capture_file.specs.declared.fault.CaptureCause.{CaptureCause}
use Rattle.capture_file.specs.declared.fault.CaptureCause.TheVariants.{Read, Memory, Capture, Task}
use Rattle.capture_file.specs.declared.fault.CaptureStop.{CaptureStop}
use Rattle.capture_file.specs.Order.{AreOctets}
use Rattle.capture_file.specs.Packet.{PacketOf}
use Rattle.capture_file.specs.Parts.{Start, Part, AreParts, form_behind, octets_of, packets_of}
use Rattle.capture_file.specs.Task.{PacketRules, TakesPackets, HasTaken, StopsAt, is_of_writer, AnswersCapture, AnswersUntil, Answers}
use Rattle.capture_file.specs.Wrong.{IsFault}
use Rattle.capture_laws.specs.OneCourse.{IsOfDevice, HasOneCourse, IsSure}
use Rattle.capture_laws.proofs.OneReading.{one_part, part_or_fault, one_fault, no_part, no_fault_at_end, octets_behind, IsOldest, oldest, meet}
use Rattle.capture_file.proofs.Starts.{behind_start}

-- ---- packets that were taken

one_course : {S A F : Type 0} (rules : PacketRules S A F) (Device : F → Type 0) → HasOneCourse rules Device → (packets : List PacketOf) (start state state' : S)
    (text text' : List ℕ) → TakesPackets rules start packets state text → TakesPackets rules start packets state' text' → (state' ≡ state) × (text' ≡ text)
one_course rules Device one [] start state state' text text' h k = (k.0 ∙ sym h.0, k.1 ∙ sym h.1)
one_course {S} rules Device one (packet ∷ packets) start state state' text text' (last, before, written, rest, takes, whole) (last', before', written', rest', takes', whole') =
    let (same, same_text) = one_course rules Device one packets start last last' before before' rest rest' in
    let again = subst (λ (s : S). rules.Takes (length packets + 1) packet s state' written') same takes' in
    let (next, next_text) = one.one_step (length packets + 1) packet last state state' written written' takes again in
    (next, whole' ∙ (λ i. same_text i ++ next_text i) ∙ sym whole)

-- a packet among those that were taken
record IsTakenBehind {S A F : Type 0} (rules : PacketRules S A F) (start : S) (earlier : List PacketOf) (packet : PacketOf) : Type 0 where
  state : S
  text : List ℕ
  before : TakesPackets rules start earlier state text
  later : S
  written : List ℕ
  takes : rules.Takes (length earlier + 1) packet state later written

taken_behind : {S A F : Type 0} (rules : PacketRules S A F) (start state : S) (text : List ℕ) (newer : List PacketOf) (packet : PacketOf) (earlier : List PacketOf)
    → TakesPackets rules start (newer ++ packet ∷ earlier) state text → IsTakenBehind rules start earlier packet
taken_behind rules start state text [] packet earlier (last, before, written, rest, takes, whole) =
    record { state = last; text = before; before = rest; later = state; written = written; takes = takes }
taken_behind rules start state text (next ∷ newer) packet earlier (last, before, written, rest, takes, whole) =
    taken_behind rules start last before newer packet earlier rest

packets_behind : (newer parts : List Part) → packets_of (newer ++ parts) ≡ packets_of newer ++ packets_of parts
packets_behind [] parts = refl
packets_behind (part ∷ newer) parts =
    ap (λ l. option_to_list part.packet ++ l) (packets_behind newer parts)
    ∙ sym (append_assoc (option_to_list part.packet) (packets_of newer) (packets_of parts))

-- ---- how it ends

-- how an answer ends behind these parts, of which this is left
abbrev pub EndsAs : {S A F : Type 0} → PacketRules S A F → (F → Type 0) → List Part → S → List ℕ → Result A (CaptureCause F) → (place : ℕ) → List ℕ → Type 0
EndsAs rules Device parts state rest (Ok answer) place last =
    (place ≡ 0) × (rest ≡ []) × (parts ≢ []) × rules.Ends (length (packets_of parts)) state answer last
EndsAs rules Device parts state rest (Err what) place last = (IsOfDevice Device what → ⊥) × StopsAt rules parts state rest what place last

-- an answer that isn't a fault of a device or of memory
pub record Course {S A F : Type 0} (rules : PacketRules S A F) (start : S) (Device : F → Type 0) (octets : List ℕ) (before after : Option (List ℕ))
    (end : Result A (CaptureCause F)) : Type 0 where
  pub parts : List Part
  pub rest : List ℕ
  pub state : S
  pub text : List ℕ
  pub taken : HasTaken rules start octets parts rest state text
  pub place : ℕ
  pub last : List ℕ
  pub ends : EndsAs rules Device parts state rest end place last
  pub output : Appends before after (text ++ last)

-- a part of which the packet doesn't go on isn't among those that were taken
not_taken : {S A F : Type 0} (rules : PacketRules S A F) (start : S) (Device : F → Type 0) → HasOneCourse rules Device → (parts newer : List Part) (part : Part) (packet : PacketOf)
    (state later : S) (text text' written : List ℕ) (fault : F) → (Device fault → ⊥) → part.packet ≡ Some packet → TakesPackets rules start (packets_of parts) state text
    → TakesPackets rules start (packets_of (newer ++ part ∷ parts)) later text' → rules.Stops (length (packets_of parts) + 1) packet state fault written → ⊥
not_taken {S} rules start Device one parts newer part packet state later text text' written fault sure is taken others stops =
    let list : packets_of (newer ++ part ∷ parts) ≡ packets_of newer ++ packet ∷ packets_of parts =
    packets_behind newer (part ∷ parts) ∙ ap (λ p. packets_of newer ++ (option_to_list p ++ packets_of parts)) is in
    let t = taken_behind rules start later text' (packets_of newer) packet (packets_of parts) (subst (λ (l : List PacketOf). TakesPackets rules start l later text') list others) in
    let same = one_course rules Device one (packets_of parts) start state t.state text t.text taken t.before in
    one.no_fault (length (packets_of parts) + 1) packet state t.later t.written written fault sure
    (subst (λ (s : S). rules.Takes (length (packets_of parts) + 1) packet s t.later t.written) same.0 t.takes) stops

-- where it ends no part is next that is taken
not_before : {S A F : Type 0} (rules : PacketRules S A F) (start : S) (Device : F → Type 0) → HasOneCourse rules Device → (octets : List ℕ) → AreOctets octets
    → (parts : List Part) (newest : Part) (newer : List Part) (rest rest' : List ℕ) (state later : S) (text text' last : List ℕ) (place : ℕ) (end : Result A (CaptureCause F))
    → HasTaken rules start octets parts rest state text → EndsAs rules Device parts state rest end place last
    → HasTaken rules start octets ((newest ∷ newer) ++ parts) rest' later text' → ⊥
not_before {S} {A} {F} rules start Device one octets are parts newest newer rest rest' state later text text' last place end taken ends others =
    go end ends
  where
    o : IsOldest (newest ∷ newer) parts
    o = oldest newest newer parts others.are

    next : rest ≡ o.part.octets ++ (o.more ++ rest')
    next =
        append_cancel_left (octets_of parts) rest (o.part.octets ++ (o.more ++ rest')) (
        sym taken.split ∙ others.split ∙ ap (λ l. l ++ rest') o.octets
        ∙ append_assoc (octets_of parts) (o.part.octets ++ o.more) rest'
        ∙ ap (λ l. octets_of parts ++ l) (append_assoc o.part.octets o.more rest')
        )

    are_rest : AreOctets rest
    are_rest = octets_behind (octets_of parts) rest (subst AreOctets taken.split are)

    go : (end : Result A (CaptureCause F)) → EndsAs rules Device parts state rest end place last → ⊥
    go (Ok answer) (at, none, some, ends) = no_part (form_behind parts) rest o.part (o.more ++ rest') o.are.1 none next
    go (Err Read) (sure, stops) = sure tt
    go (Err Memory) (sure, stops) = sure tt
    go (Err (Capture fault)) (sure, stops) = part_or_fault (form_behind parts) rest o.part (o.more ++ rest') fault place are_rest next o.are.1 stops.0
    go (Err (Task fault)) (sure, (at, inl (found, packet, behind, unread, split, is, stops))) =
        let same : o.part ≡ record { octets = found; packet = Some packet; later = behind } =
        one_part (form_behind parts) rest (record { octets = found; packet = Some packet; later = behind }) o.part unread (o.more ++ rest') are_rest split next is.1 o.are.1 in
        not_taken rules start Device one parts o.later o.part packet state later text text' last fault sure (ap (λ (p : Part). p.packet) same) taken.taken
        (subst (λ (l : List Part). TakesPackets rules start (packets_of l) later text') o.split others.taken) stops
    go (Err (Task fault)) (sure, (at, inr (none, some, stops))) = no_part (form_behind parts) rest o.part (o.more ++ rest') o.are.1 none next

-- two ends behind the same parts are one
record AreOne {A F : Type 0} (end end' : Result A (CaptureCause F)) (place place' : ℕ) (last last' : List ℕ) : Type 0 where
  end_is : end' ≡ end
  place_is : place' ≡ place
  last_is : last' ≡ last

-- behind parts another form stands than at the start
begun : (parts : List Part) → AreParts parts → parts ≢ [] → form_behind parts ≢ Start
begun [] are some = absurd (some refl)
begun (part ∷ earlier) are some = behind_start (form_behind earlier) part.later part.octets part.packet are.1

no_stop : {S A F : Type 0} (rules : PacketRules S A F) (Device : F → Type 0) → HasOneCourse rules Device → (parts : List Part) → AreParts parts → (state : S) (rest : List ℕ)
    (answer : A) (what : CaptureCause F) (place place' : ℕ) (last last' : List ℕ) → EndsAs rules Device parts state rest (Ok answer) place last
    → EndsAs rules Device parts state rest (Err what) place' last' → ⊥
no_stop rules Device one parts are state rest answer Read place place' last last' h (sure, stops) = sure tt
no_stop rules Device one parts are state rest answer Memory place place' last last' h (sure, stops) = sure tt
no_stop rules Device one parts are state rest answer (Capture fault) place place' last last' (at, none, some, ends) (sure, stops) =
    no_fault_at_end (form_behind parts) fault place' (begun parts are some) (subst (λ (o : List ℕ). IsFault (form_behind parts) o fault place') none stops.0)
no_stop rules Device one parts are state rest answer (Task fault) place place' last last' (at, none, some, ends)
    (sure, (at', inl (found, packet, behind, unread, split, is, stops))) =
    no_part (form_behind parts) rest (record { octets = found; packet = Some packet; later = behind }) unread is.1 none split
no_stop rules Device one parts are state rest answer (Task fault) place place' last last' (at, none, some, ends) (sure, (at', inr (none', some', stops))) =
    one.no_fault_at_end (length (packets_of parts)) state last last' answer fault sure ends stops

one_stop : {S A F : Type 0} (rules : PacketRules S A F) (Device : F → Type 0) → HasOneCourse rules Device → (parts : List Part) → AreParts parts → (state : S) (rest : List ℕ) → AreOctets rest
    → (what what' : CaptureCause F) (place place' : ℕ) (last last' : List ℕ) → (IsOfDevice Device what → ⊥) → (IsOfDevice Device what' → ⊥)
    → StopsAt rules parts state rest what place last → StopsAt rules parts state rest what' place' last' → (what' ≡ what) × (place' ≡ place) × (last' ≡ last)
one_stop rules Device one parts are state rest octets Read what' place place' last last' sure sure' h k = absurd (sure tt)
one_stop rules Device one parts are state rest octets Memory what' place place' last last' sure sure' h k = absurd (sure tt)
one_stop rules Device one parts are state rest octets (Capture fault) Read place place' last last' sure sure' h k = absurd (sure' tt)
one_stop rules Device one parts are state rest octets (Capture fault) Memory place place' last last' sure sure' h k = absurd (sure' tt)
one_stop rules Device one parts are state rest octets (Task fault) Read place place' last last' sure sure' h k = absurd (sure' tt)
one_stop rules Device one parts are state rest octets (Task fault) Memory place place' last last' sure sure' h k = absurd (sure' tt)
one_stop rules Device one parts are state rest octets (Capture fault) (Capture fault') place place' last last' sure sure' (wrong, none) (wrong', none') =
    let (same, at) = one_fault (form_behind parts) rest fault fault' place place' octets wrong wrong' in
    (ap Capture same, at, none' ∙ sym none)
one_stop rules Device one parts are state rest octets (Capture fault) (Task fault') place place' last last' sure sure' (wrong, none)
    (at', inl (found, packet, behind, unread, split, is, stops)) =
    absurd (part_or_fault (form_behind parts) rest (record { octets = found; packet = Some packet; later = behind }) unread fault place octets split is.1 wrong)
one_stop rules Device one parts are state rest octets (Capture fault) (Task fault') place place' last last' sure sure' (wrong, none) (at', inr (none', some, stops)) =
    absurd (no_fault_at_end (form_behind parts) fault place (begun parts are some) (subst (λ (o : List ℕ). IsFault (form_behind parts) o fault place) none' wrong))
one_stop rules Device one parts are state rest octets (Task fault) (Capture fault') place place' last last' sure sure'
    (at, inl (found, packet, behind, unread, split, is, stops)) (wrong, none) =
    absurd (part_or_fault (form_behind parts) rest (record { octets = found; packet = Some packet; later = behind }) unread fault' place' octets split is.1 wrong)
one_stop rules Device one parts are state rest octets (Task fault) (Capture fault') place place' last last' sure sure' (at, inr (none, some, stops)) (wrong, none') =
    absurd (no_fault_at_end (form_behind parts) fault' place' (begun parts are some) (subst (λ (o : List ℕ). IsFault (form_behind parts) o fault' place') none wrong))
one_stop rules Device one parts are state rest octets (Task fault) (Task fault') place place' last last' sure sure'
    (at, inl (found, packet, behind, unread, split, is, stops)) (at', inl (found', packet', behind', unread', split', is', stops')) =
    let same : record { octets = found'; packet = Some packet'; later = behind' } ≡ record { octets = found; packet = Some packet; later = behind } =
    one_part (form_behind parts) rest (record { octets = found; packet = Some packet; later = behind }) (record { octets = found'; packet = Some packet'; later = behind' }) unread unread'
    octets split split' is.1 is'.1 in
    let packets : packet' ≡ packet = cc (ap (λ (p : Part). p.packet) same) in
    let again = subst (λ (p : PacketOf). rules.Stops (length (packets_of parts) + 1) p state fault' last') packets stops' in
    let (faults, texts) = one.one_fault (length (packets_of parts) + 1) packet state last last' fault fault' sure sure' stops again in
    (ap Task faults, at' ∙ sym at, texts)
one_stop rules Device one parts are state rest octets (Task fault) (Task fault') place place' last last' sure sure'
    (at, inl (found, packet, behind, unread, split, is, stops)) (at', inr (none, some, stops')) =
    absurd (no_part (form_behind parts) rest (record { octets = found; packet = Some packet; later = behind }) unread is.1 none split)
one_stop rules Device one parts are state rest octets (Task fault) (Task fault') place place' last last' sure sure' (at, inr (none, some, stops))
    (at', inl (found, packet, behind, unread, split, is, stops')) =
    absurd (no_part (form_behind parts) rest (record { octets = found; packet = Some packet; later = behind }) unread is.1 none split)
one_stop rules Device one parts are state rest octets (Task fault) (Task fault') place place' last last' sure sure' (at, inr (none, some, stops)) (at', inr (none', some', stops')) =
    let (faults, texts) = one.one_fault_at_end state last last' fault fault' sure sure' stops stops' in
    (ap Task faults, at' ∙ sym at, texts)

one_end_at : {S A F : Type 0} (rules : PacketRules S A F) (Device : F → Type 0) → HasOneCourse rules Device → (parts : List Part) → AreParts parts → (state : S) (rest : List ℕ) → AreOctets rest
    → (end end' : Result A (CaptureCause F)) (place place' : ℕ) (last last' : List ℕ) → EndsAs rules Device parts state rest end place last
    → EndsAs rules Device parts state rest end' place' last' → AreOne end end' place place' last last'
one_end_at rules Device one parts are state rest octets (Ok answer) (Ok answer') place place' last last' (at, none, some, ends) (at', none', some', ends') =
    let same = one.one_end (length (packets_of parts)) state last last' answer answer' ends ends' in
    record { end_is = ap Ok same.0; place_is = at' ∙ sym at; last_is = same.1 }
one_end_at rules Device one parts are state rest octets (Ok answer) (Err what) place place' last last' h k =
    absurd (no_stop rules Device one parts are state rest answer what place place' last last' h k)
one_end_at rules Device one parts are state rest octets (Err what) (Ok answer) place place' last last' h k =
    absurd (no_stop rules Device one parts are state rest answer what place' place last' last k h)
one_end_at rules Device one parts are state rest octets (Err what) (Err what') place place' last last' (sure, stops) (sure', stops') =
    let same = one_stop rules Device one parts are state rest octets what what' place place' last last' sure sure' stops stops' in
    record { end_is = ap Err same.0; place_is = same.1; last_is = same.2 }

-- ---- answers

-- two such answers over the same octets are the same, behind the same parts, and wrote one text
pub record AreOneAnswer {A F : Type 0} (end end' : Result A (CaptureCause F)) (parts parts' : List Part) (place place' : ℕ) (before after before' after' : Option (List ℕ)) : Type 0 where
  pub end_is : end' ≡ end
  pub parts_are : parts' ≡ parts
  pub place_is : place' ≡ place
  pub text : List ℕ
  pub output : Appends before after text
  pub output' : Appends before' after' text

same_parts : {S A F : Type 0} (rules : PacketRules S A F) (start : S) (Device : F → Type 0) → HasOneCourse rules Device → (octets : List ℕ) → AreOctets octets
    → (before after before' after' : Option (List ℕ)) (end end' : Result A (CaptureCause F)) (one : Course rules start Device octets before after end)
    (other : Course rules start Device octets before' after' end') → other.parts ≡ one.parts
same_parts rules start Device sole octets are before after before' after' end end' one other =
    go (meet octets one.parts other.parts one.rest other.rest are one.taken.are other.taken.are one.taken.split other.taken.split)
  where
    go : ((newer : List Part) × (other.parts ≡ newer ++ one.parts)) ⊎ ((newer : List Part) × (one.parts ≡ newer ++ other.parts)) → other.parts ≡ one.parts
    go (inl ([], is)) = is
    go (inl (newest ∷ newer, is)) =
        absurd (not_before rules start Device sole octets are one.parts newest newer one.rest other.rest one.state other.state one.text other.text one.last one.place end one.taken one.ends
        (subst (λ (l : List Part). HasTaken rules start octets l other.rest other.state other.text) is other.taken))
    go (inr ([], is)) = sym is
    go (inr (newest ∷ newer, is)) =
        absurd (not_before rules start Device sole octets are other.parts newest newer other.rest one.rest other.state one.state other.text one.text other.last other.place end' other.taken other.ends
        (subst (λ (l : List Part). HasTaken rules start octets l one.rest one.state one.text) is one.taken))

pub one_answer : {S A F : Type 0} (rules : PacketRules S A F) (start : S) (Device : F → Type 0) → HasOneCourse rules Device → (octets : List ℕ) → AreOctets octets
    → (before after before' after' : Option (List ℕ)) (end end' : Result A (CaptureCause F)) (one : Course rules start Device octets before after end)
    (other : Course rules start Device octets before' after' end') → AreOneAnswer end end' one.parts other.parts one.place other.place before after before' after'
one_answer {S} rules start Device sole octets are before after before' after' end end' one other =
    let parts = same_parts rules start Device sole octets are before after before' after' end end' one other in
    let rest : other.rest ≡ one.rest =
    append_cancel_left (octets_of one.parts) other.rest one.rest (ap (λ l. octets_of l ++ other.rest) (sym parts) ∙ sym other.taken.split ∙ one.taken.split) in
    let again = subst (λ (l : List Part). TakesPackets rules start (packets_of l) other.state other.text) parts other.taken.taken in
    let course = one_course rules Device sole (packets_of one.parts) start one.state other.state one.text other.text one.taken.taken again in
    let ends = subst (λ (x : List Part × S × List ℕ). EndsAs rules Device x.0 x.1 x.2 end' other.place other.last) (λ i. (parts i, course.0 i, rest i)) other.ends in
    let same = one_end_at rules Device sole one.parts one.taken.are one.state one.rest (octets_behind (octets_of one.parts) one.rest (subst AreOctets one.taken.split are))
    end end' one.place other.place one.last other.last one.ends ends in
    record {
      end_is = same.end_is;
      parts_are = parts;
      place_is = same.place_is;
      text = one.text ++ one.last;
      output = one.output;
      output' = subst (Appends before' after') (λ i. course.1 i ++ same.last_is i) other.output;
    }

abbrev pub course_of_all : {S A F : Type 0} (rules : PacketRules S A F) (start : S) (Device : F → Type 0) (octets : List ℕ) (left before after : Option (List ℕ)) (answer : A)
    → AnswersCapture rules start octets left before after answer → Course rules start Device octets before after (Ok answer)
course_of_all rules start Device octets left before after answer all = record {
  parts = all.parts;
  rest = [];
  state = all.state;
  text = all.text;
  taken = all.taken;
  place = 0;
  last = all.last;
  ends = (refl, refl, all.some, all.ends);
  output = all.output;
}

pub known_output : {S A F : Type 0} (rules : PacketRules S A F) (Device : F → Type 0) → HasOneCourse rules Device → (what : CaptureCause F) (known : Type 0) → (IsOfDevice Device what → ⊥)
    → WentOut (is_of_writer rules what) known → known
known_output rules Device one Read known sure out = out
known_output rules Device one Memory known sure out = out
known_output rules Device one (Capture fault) known sure out = out
known_output rules Device one (Task fault) known sure out =
    by_writer (rules.is_of_writer fault) refl out
  where
    by_writer : (of_writer : Bool) → rules.is_of_writer fault ≡ of_writer → WentOut of_writer known → known
    by_writer true is out = absurd (sure (one.writer fault is))
    by_writer false is out = out

abbrev pub course_until : {S A F : Type 0} (rules : PacketRules S A F) (start : S) (Device : F → Type 0) → HasOneCourse rules Device → (octets : List ℕ) (left before after : Option (List ℕ))
    (stop : CaptureStop F) → (IsOfDevice Device stop.what → ⊥) → (until : AnswersUntil rules start octets left before after stop)
    → Course rules start Device octets before after (Err stop.what)
course_until rules start Device one octets left before after stop sure until = record {
  parts = until.parts;
  rest = until.rest;
  state = until.state;
  text = until.text;
  taken = until.taken;
  place = until.place;
  last = until.last;
  ends = (sure, until.stops);
  output = known_output rules Device one stop.what _ sure until.output;
}

pub answers_one : {S A F : Type 0} (rules : PacketRules S A F) (start : S) (Device : F → Type 0) → HasOneCourse rules Device → (octets : List ℕ) → AreOctets octets
    → (left before after left' before' after' : Option (List ℕ)) (answer answer' : Result A (CaptureStop F)) → Answers rules start octets left before after answer
    → Answers rules start octets left' before' after' answer' → IsSure Device answer → IsSure Device answer'
    → (answer' ≡ answer) × ((text : List ℕ) × Appends before after text × Appends before' after' text)
answers_one rules start Device sole octets are left before after left' before' after' (Ok answer) (Ok answer') one other sure sure' =
    let same = one_answer rules start Device sole octets are before after before' after' (Ok answer) (Ok answer')
    (course_of_all rules start Device octets left before after answer one) (course_of_all rules start Device octets left' before' after' answer' other) in
    let ends = same.end_is in
    let answers : answer' ≡ answer = cc in
    (ap Ok answers, (same.text, same.output, same.output'))
answers_one rules start Device sole octets are left before after left' before' after' (Ok answer) (Err stop) one until sure sure' =
    let same = one_answer rules start Device sole octets are before after before' after' (Ok answer) (Err stop.what)
    (course_of_all rules start Device octets left before after answer one) (course_until rules start Device sole octets left' before' after' stop sure' until) in
    let ends = same.end_is in
    absurd cc
answers_one rules start Device sole octets are left before after left' before' after' (Err stop) (Ok answer) until other sure sure' =
    let same = one_answer rules start Device sole octets are before after before' after' (Err stop.what) (Ok answer)
    (course_until rules start Device sole octets left before after stop sure until) (course_of_all rules start Device octets left' before' after' answer other) in
    let ends = same.end_is in
    absurd cc
answers_one rules start Device sole octets are left before after left' before' after' (Err stop) (Err stop') until until' sure sure' =
    let same = one_answer rules start Device sole octets are before after before' after' (Err stop.what) (Err stop'.what)
    (course_until rules start Device sole octets left before after stop sure until) (course_until rules start Device sole octets left' before' after' stop' sure' until') in
    let ends = same.end_is in
    let causes : stop'.what ≡ stop.what = cc in
    let packets : stop'.packets ≡ stop.packets = until'.packets ∙ ap (λ (l : List Part). length (packets_of l)) same.parts_are ∙ sym until.packets in
    let octet : stop'.octet ≡ stop.octet = until'.octet ∙ (λ i. min (length (octets_of (same.parts_are i)) + same.place_is i) greatest_count) ∙ sym until.octet in
    (ap Err (λ i. record { packets = packets i; octet = octet i; what = causes i }), (same.text, same.output, same.output'))
