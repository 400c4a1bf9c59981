-- How far a capture was taken: from part to part, and where it stops.
use Rattle.std.proofs.Common.{◌≡◌, ◌≢◌, ℕ, ◌+◌, ◌^◌, ◌<◌, ◌≤◌, min, List, [], ◌∷◌, ◌++◌, length, sym, ap, ◌∙◌, subst, refl, inl, inr, Bool, true, false, arith, Option, Some, None, Result, Ok, Err}
use Rattle.std.proofs.Common.{append-nil, length-append}
use Rattle.std.specs.Prelude.{option_to_list}
use Rattle.std.specs.Io.KnownBytes.{Appends, Consumes, IsAtEnd, prepend_known}
use Rattle.std.proofs.KnownBytes.{Consumes-trans, Appends-trans, prepend_known-nil}
use Rattle.text_lines.specs.Counted.{greatest_count}
use Rattle.text_lines.specs.Task.{WentOut}
use Rattle.text_lines.proofs.KnownOctets.{Consumes-known}
use Rattle.capture_file.specs.declared.fault.CaptureCause.{CaptureCause}
use Rattle.capture_file.specs.declared.fault.CaptureCause.TheVariants as causes
use Rattle.capture_file.specs.declared.fault.CaptureStop.{CaptureStop}
use Rattle.capture_file.specs.declared.part.PartStop.{PartStop}
use Rattle.capture_file.specs.declared.part.PartStop.TheVariants.{Read, Memory, Fault}
use Rattle.capture_file.specs.declared.part.Part as parts
use Rattle.capture_file.specs.declared.progress.Progress.{Progress}
use Rattle.capture_file.specs.Packet.{PacketOf}
use Rattle.capture_file.specs.Parts.{Form, Start, Pcap, Section, IsPart, form_behind, octets_of, packets_of}
use Rattle.capture_file.specs.Wrong.{IsFault}
use Rattle.capture_file.specs.Task.{PacketRules, TakesPackets, HasTaken, AnswersCapture, AnswersUntil, Answers}
use Rattle.capture_file.specs.Inner.Reading.{packet_in, begun_with, IsRead, IsEnd, StopsPart, ReadsPart}
use Rattle.capture_file.proofs.Starts.{behind_start}
use Rattle.capture_file.specs.Inner.Taking.{IsBehind, IsTaken, StopsIn, TakesPart, StopsTaking, StopsTakingFor}

-- ---- from part to part

nothing_read : (a : Option (List ℕ)) → Consumes a a []
nothing_read None = tt
nothing_read (Some xs) = refl

nothing_written : (a : Option (List ℕ)) → Appends a a []
nothing_written None = tt
nothing_written (Some xs) = sym (append-nil xs)

-- before the first part
pub begin : {S A F : Type 0} (rules : PacketRules S A F) (start : S) (progress : Progress) (i b : Option (List ℕ)) → progress.packets ≡ 0 → progress.octets ≡ 0
    → IsTaken rules start Start progress i i b b start
begin rules start progress i b packets octets = record {
  parts = [];
  are = tt;
  form_is = refl;
  read = nothing_read i;
  packets = packets;
  octets = octets;
  text = [];
  taken = (refl, refl);
  wrote = nothing_written b;
}

-- behind a part nothing is there of the next
none_begun : (old new : Form) (octets kept : List ℕ) (packet : Option PacketOf) → IsPart old octets packet new → begun_with new kept ≡ []
none_begun old (Pcap pcap) octets kept packet is = refl
none_begun old (Section section) octets kept packet is = refl
none_begun old Start octets kept packet is = absurd (behind_start old Start octets packet is refl)

pub begun_within : (old new : Form) (part : parts.Part) (l l' : Option (List ℕ)) (kept : List ℕ) → IsRead old new part l l' → length (begun_with new kept) ≤ 4
begun_within old new part l l' kept (octets, read, size, is_part) = rw (none_begun old new octets kept (packet_in part) is_part) (omega arith)

-- so what is left is what the input has
left_is : (l : Option (List ℕ)) (begun : List ℕ) → begun ≡ [] → prepend_known begun l ≡ l
left_is l begun none = ap (λ b. prepend_known b l) none ∙ prepend_known-nil l

-- what the input had and what was read before are known together
pub all_known : (i : Option (List ℕ)) (before octets : List ℕ) → i ≡ Some octets → prepend_known before i ≡ Some (before ++ octets)
all_known i before octets known = ap (prepend_known before) known

-- one more part
taken_more : {S A F : Type 0} (rules : PacketRules S A F) (start state later : S) (packets : List PacketOf) (packet : Option PacketOf) (text written : List ℕ) (number : ℕ)
    → number ≡ length packets + 1 → TakesPackets rules start packets state text → TakesPart rules number packet state later written
    → TakesPackets rules start (option_to_list packet ++ packets) later (text ++ written)
taken_more rules start state later packets None text written number is taken (same, none) =
    rw (same, none) (rw (append-nil text) taken)
taken_more rules start state later packets (Some packet) text written number is taken takes =
    (state, text, written, taken, subst (λ (n : ℕ). rules.Takes n packet state later written) is takes, refl)

pub next : {S A F : Type 0} (rules : PacketRules S A F) (start state later : S) (form form' : Form) (progress behind : Progress) (part : parts.Part) (i l l' b n n' : Option (List ℕ))
    (written kept : List ℕ) → IsTaken rules start form progress i l b n state → IsRead form form' part l l' → IsBehind progress part.size (packet_in part) behind
    → TakesPart rules (progress.packets + 1) (packet_in part) state later written → Appends n n' written
    → IsTaken rules start form' behind i (prepend_known (begun_with form' kept) l') b n' later
next rules start state later form form' progress behind part i l l' b n n' written kept t (octets, read, size, is_part) counted takes wrote = record {
  parts = record { octets = octets; packet = packet_in part; later = form' } ∷ t.parts;
  are = (t.are, subst (λ (f : Form). IsPart f octets (packet_in part) form') t.form_is is_part);
  form_is = refl;
  read = subst (λ (left : Option (List ℕ)). Consumes i left (octets_of t.parts ++ octets)) (sym (left_is l' (begun_with form' kept) (none_begun form form' octets kept (packet_in part) is_part)))
      (Consumes-trans i l l' (octets_of t.parts) octets t.read read);
  packets = counted.packets ∙ (let before = t.packets in let lengths = length-append (option_to_list (packet_in part)) (packets_of t.parts) in omega arith);
  octets = counted.octets ∙ (let before = t.octets in let lengths = length-append (octets_of t.parts) octets in omega (arith, size));
  text = t.text ++ written;
  taken = taken_more rules start state later (packets_of t.parts) (packet_in part) t.text written (progress.packets + 1) (ap (λ k. k + 1) t.packets) t.taken takes;
  wrote = Appends-trans b n n' t.text written t.wrote wrote;
}

pub read_is : (old new : Form) (found : Option parts.Part) (part : parts.Part) (l l' : Option (List ℕ)) → found ≡ Some part → ReadsPart old new (Ok found) l l'
    → IsRead old new part l l'
read_is old new found part l l' is read = subst (λ (f : Option parts.Part). ReadsPart old new (Ok f) l l') is read

pub end_is : (old new : Form) (found : Option parts.Part) (l l' : Option (List ℕ)) → found ≡ None → ReadsPart old new (Ok found) l l' → IsEnd old new l l'
end_is old new found l l' is read = subst (λ (f : Option parts.Part). ReadsPart old new (Ok f) l l') is read

-- ---- where it stops

-- what stands behind the parts so far
behind_parts : {S A F : Type 0} (rules : PacketRules S A F) (start state : S) (form : Form) (progress : Progress) (i l b n : Option (List ℕ)) (octets : List ℕ)
    → (t : IsTaken rules start form progress i l b n state) → i ≡ Some octets → (rest : List ℕ) × (l ≡ Some rest) × (octets ≡ octets_of t.parts ++ rest)
behind_parts rules start state form progress i l b n octets t known = Consumes-known i l (octets_of t.parts) octets t.read known

-- nothing more goes out
no_more : (b n : Option (List ℕ)) (text : List ℕ) → Appends b n text → Appends b n (text ++ [])
no_more b n text wrote = rw (append-nil text) wrote

-- the next part isn't read
pub stops_reading : {S A F : Type 0} (rules : PacketRules S A F) (start state : S) (form : Form) (progress : Progress) (i l l' b n : Option (List ℕ)) (stop : PartStop)
    (answer : CaptureStop F) (octets : List ℕ) → progress.octets < 2 ^ 64 → IsTaken rules start form progress i l b n state → StopsPart form stop l l' → StopsIn progress stop answer → i ≡ Some octets
    → AnswersUntil rules start octets l' b n answer
stops_reading rules start state form progress i l l' b n Read answer octets fits t (seen, read) is known =
    let (rest, left, split) = behind_parts rules start state form progress i l b n octets t known in
    let (unread, left', split') = Consumes-known l l' seen rest read left in
    rw is (record {
      parts = t.parts;
      rest = rest;
      state = state;
      text = t.text;
      taken = record { are = t.are; split = split; taken = t.taken };
      packets = t.packets;
      place = 0;
      octet = (let count = t.octets in omega (arith, fits));
      last = [];
      stops = (refl, refl);
      output = no_more b n t.text t.wrote;
      seen = seen;
      unread = unread;
      read = split';
      input = left';
    })
stops_reading rules start state form progress i l l' b n Memory answer octets fits t (seen, read) is known =
    let (rest, left, split) = behind_parts rules start state form progress i l b n octets t known in
    let (unread, left', split') = Consumes-known l l' seen rest read left in
    rw is (record {
      parts = t.parts;
      rest = rest;
      state = state;
      text = t.text;
      taken = record { are = t.are; split = split; taken = t.taken };
      packets = t.packets;
      place = 0;
      octet = (let count = t.octets in omega (arith, fits));
      last = [];
      stops = (refl, refl);
      output = no_more b n t.text t.wrote;
      seen = seen;
      unread = unread;
      read = split';
      input = left';
    })
stops_reading rules start state form progress i l l' b n (Fault fault place) answer octets fits t ((seen, read), faulty) is known =
    let (rest, left, split) = behind_parts rules start state form progress i l b n octets t known in
    let (unread, left', split') = Consumes-known l l' seen rest read left in
    rw is (record {
      parts = t.parts;
      rest = rest;
      state = state;
      text = t.text;
      taken = record { are = t.are; split = split; taken = t.taken };
      packets = t.packets;
      place = place;
      octet = ap (λ k. min (k + place) greatest_count) t.octets;
      last = [];
      stops = (subst (λ (f : Form). IsFault f rest fault place) t.form_is (faulty rest left), refl);
      output = no_more b n t.text t.wrote;
      seen = seen;
      unread = unread;
      read = split';
      input = left';
    })

-- what went out before a fault
went_out : (failed : Bool) (b n n' : Option (List ℕ)) (text written : List ℕ) → Appends b n text → WentOut failed (Appends n n' written)
    → WentOut failed (Appends b n' (text ++ written))
went_out true b n n' text written wrote went = tt
went_out false b n n' text written wrote went = Appends-trans b n n' text written wrote went

-- the packet of the next part isn't taken, by this cause
stops_by : {S A F : Type 0} (rules : PacketRules S A F) (start state : S) (form form' : Form) (progress : Progress) (i l l' b n n' : Option (List ℕ)) (octets rest found unread : List ℕ)
    (packet : Option PacketOf) (what : CaptureCause F) → progress.octets < 2 ^ 64 → (t : IsTaken rules start form progress i l b n state) → octets ≡ octets_of t.parts ++ rest
    → rest ≡ found ++ unread → l' ≡ Some unread → IsPart form found packet form' → StopsTakingFor rules progress packet state n n' what
    → AnswersUntil rules start octets l' b n' (record { packets = progress.packets; octet = progress.octets; what = what })
stops_by rules start state form form' progress i l l' b n n' octets rest found unread packet causes.Memory fits t split split' left' is_part wrote = record {
  parts = t.parts;
  rest = rest;
  state = state;
  text = t.text;
  taken = record { are = t.are; split = split; taken = t.taken };
  packets = t.packets;
  place = 0;
  octet = (let count = t.octets in omega (arith, fits));
  last = [];
  stops = (refl, refl);
  output = Appends-trans b n n' t.text [] t.wrote wrote;
  seen = found;
  unread = unread;
  read = split';
  input = left';
}
stops_by {S} {A} {F} rules start state form form' progress i l l' b n n' octets rest found unread (Some packet) (causes.Task fault) fits t split split' left' is_part (written, stops, went) = record {
  parts = t.parts;
  rest = rest;
  state = state;
  text = t.text;
  taken = record { are = t.are; split = split; taken = t.taken };
  packets = t.packets;
  place = 0;
  octet = (let count = t.octets in omega (arith, fits));
  last = written;
  stops = (
    refl,
    inl (
      found,
      packet,
      form',
      unread,
      split',
      (t.are, subst (λ (f : Form). IsPart f found (Some packet) form') t.form_is is_part),
      subst (λ (k : ℕ). rules.Stops (k + 1) packet state fault written) t.packets stops,
    ),
  );
  output = went_out (rules.is_of_writer fault) b n n' t.text written t.wrote went;
  seen = found;
  unread = unread;
  read = split';
  input = left';
}
stops_by rules start state form form' progress i l l' b n n' octets rest found unread None (causes.Task fault) fits t split split' left' is_part why = absurd why
stops_by rules start state form form' progress i l l' b n n' octets rest found unread None causes.Read fits t split split' left' is_part why = absurd why
stops_by rules start state form form' progress i l l' b n n' octets rest found unread (Some packet) causes.Read fits t split split' left' is_part why = absurd why
stops_by rules start state form form' progress i l l' b n n' octets rest found unread None (causes.Capture fault) fits t split split' left' is_part why = absurd why
stops_by rules start state form form' progress i l l' b n n' octets rest found unread (Some packet) (causes.Capture fault) fits t split split' left' is_part why = absurd why

pub stops_taking : {S A F : Type 0} (rules : PacketRules S A F) (start state : S) (form form' : Form) (progress : Progress) (part : parts.Part) (i l l' b n n' : Option (List ℕ))
    (answer : CaptureStop F) (octets : List ℕ) → progress.octets < 2 ^ 64 → IsTaken rules start form progress i l b n state → IsRead form form' part l l'
    → StopsTaking rules progress (packet_in part) state n n' answer → i ≡ Some octets → AnswersUntil rules start octets l' b n' answer
stops_taking {S} {A} {F} rules start state form form' progress part i l l' b n n' answer octets fits t (found, read, size, is_part) (packets, octet, why) known =
    let (rest, left, split) = behind_parts rules start state form progress i l b n octets t known in
    let (unread, left', split') = Consumes-known l l' found rest read left in
    let is : answer ≡ record { packets = progress.packets; octet = progress.octets; what = answer.what } = λ i. record { packets = packets i; octet = octet i; what = answer.what } in
    rw is (stops_by rules start state form form' progress i l l' b n n' octets rest found unread (packet_in part) answer.what fits t split split' left' is_part why)

pub answers_stop : {S A F : Type 0} (rules : PacketRules S A F) (start : S) (octets : List ℕ) (l b n : Option (List ℕ)) (r : Result A (CaptureStop F)) (stop : CaptureStop F)
    → r ≡ Err stop → AnswersUntil rules start octets l b n stop → Answers rules start octets l b n r
answers_stop rules start octets l b n (Ok answer) stop is until = absurd cc
answers_stop rules start octets l b n (Err other) stop is until = let same : other ≡ stop = cc in rw same until

-- ---- the end

not_start : {S A F : Type 0} (rules : PacketRules S A F) (start state : S) (form : Form) (progress : Progress) (i l b n : Option (List ℕ))
    → (t : IsTaken rules start form progress i l b n state) → form ≢ Start → t.parts ≢ []
not_start rules start state form progress i l b n t other none = other (t.form_is ∙ ap form_behind none)

-- nothing is behind the parts
nothing_behind : (l l' : Option (List ℕ)) (rest : List ℕ) → Consumes l l' [] → IsAtEnd l' → l ≡ Some rest → (rest ≡ []) × (l' ≡ Some [])
nothing_behind l l' rest read end left =
    let (unread, left', split) = Consumes-known l l' [] rest read left in
    at_end l' unread end left' split
  where
    at_end : (l' : Option (List ℕ)) (unread : List ℕ) → IsAtEnd l' → l' ≡ Some unread → rest ≡ unread → (rest ≡ []) × (l' ≡ Some [])
    at_end None unread end left' split = absurd cc
    at_end (Some xs) unread end left' split = let same : xs ≡ unread = cc in (split ∙ sym same ∙ end, ap Some end)

-- all parts were taken
pub all_taken : {S A F : Type 0} (rules : PacketRules S A F) (start state : S) (form form' : Form) (progress : Progress) (i l l' b n : Option (List ℕ)) (octets : List ℕ)
    → (t : IsTaken rules start form progress i l b n state) → IsEnd form form' l l' → i ≡ Some octets → HasTaken rules start octets t.parts [] state t.text
all_taken rules start state form form' progress i l l' b n octets t (other, same, read, end) known =
    let (rest, left, split) = behind_parts rules start state form progress i l b n octets t known in
    record { are = t.are; split = split ∙ ap (λ r. octets_of t.parts ++ r) (nothing_behind l l' rest read end left).0; taken = t.taken }

-- the end has an answer
pub ends : {S A F : Type 0} (rules : PacketRules S A F) (start state : S) (form form' : Form) (progress : Progress) (i l l' b n n' : Option (List ℕ)) (answer : A) (written octets : List ℕ)
    → IsTaken rules start form progress i l b n state → IsEnd form form' l l' → rules.Ends progress.packets state answer written → Appends n n' written → i ≡ Some octets
    → AnswersCapture rules start octets l' b n' answer
ends rules start state form form' progress i l l' b n n' answer written octets t (other, same, read, end) ended wrote known =
    let (rest, left, split) = behind_parts rules start state form progress i l b n octets t known in
    let (none, left') = nothing_behind l l' rest read end left in record {
      parts = t.parts;
      some = not_start rules start state form progress i l b n t other;
      state = state;
      text = t.text;
      taken = record { are = t.are; split = split ∙ ap (λ r. octets_of t.parts ++ r) none; taken = t.taken };
      last = written;
      ends = subst (λ (k : ℕ). rules.Ends k state answer written) t.packets ended;
      output = Appends-trans b n n' t.text written t.wrote wrote;
      input = left';
    }

-- the end has none
pub stops_at_end : {S A F : Type 0} (rules : PacketRules S A F) (start state : S) (form form' : Form) (progress : Progress) (i l l' b n n' : Option (List ℕ)) (fault : F) (answer : CaptureStop F)
    (written octets : List ℕ) → progress.octets < 2 ^ 64 → IsTaken rules start form progress i l b n state → IsEnd form form' l l' → rules.StopsAtEnd state fault written
    → WentOut (rules.is_of_writer fault) (Appends n n' written) → i ≡ Some octets
    → answer ≡ record { packets = progress.packets; octet = progress.octets; what = causes.Task fault } → AnswersUntil rules start octets l' b n' answer
stops_at_end rules start state form form' progress i l l' b n n' fault answer written octets fits t (other, same, read, end) stops went known is =
    let (rest, left, split) = behind_parts rules start state form progress i l b n octets t known in
    let (none, left') = nothing_behind l l' rest read end left in rw is (record {
      parts = t.parts;
      rest = rest;
      state = state;
      text = t.text;
      taken = record { are = t.are; split = split; taken = t.taken };
      packets = t.packets;
      place = 0;
      octet = (let count = t.octets in omega (arith, fits));
      last = written;
      stops = (refl, inr (none, not_start rules start state form progress i l b n t other, stops));
      output = went_out (rules.is_of_writer fault) b n n' t.text written t.wrote went;
      seen = [];
      unread = [];
      read = none;
      input = left';
    })

-- nothing could be read for want of memory, behind what was read before
pub stops_before : {S A F : Type 0} (rules : PacketRules S A F) (start : S) (i b : Option (List ℕ)) (before octets : List ℕ) (answer : CaptureStop F)
    → answer ≡ record { packets = 0; octet = 0; what = causes.Memory } → i ≡ Some octets → AnswersUntil rules start (before ++ octets) i b b answer
stops_before rules start i b before octets answer is known = rw is (record {
  parts = [];
  rest = before ++ octets;
  state = start;
  text = [];
  taken = record { are = tt; split = refl; taken = (refl, refl) };
  packets = refl;
  place = 0;
  octet = refl;
  last = [];
  stops = (refl, refl);
  output = nothing_written b;
  seen = before;
  unread = octets;
  read = refl;
  input = known;
})
