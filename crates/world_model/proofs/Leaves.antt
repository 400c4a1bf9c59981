-- Messages that leave clocks.
use Rattle.std.proofs.Common.{◌≡◌, ◌∙◌, ℕ, ◌-◌, Bool, true, false, List, ◌∷◌, length, if◌then◌else◌, nat_lt, Option, Some, None, Ok, Err, Result, IsOk, is_some, ok_or, ◌⊎◌, option_map, option_and_then, inl, inr, sym, ap, refl, subst}
use Rattle.std.specs.Prelude.{◌&&◌, not, MatchResult}
use Rattle.std.specs.List.{list_any}
use Rattle.std.specs.Result.{result_ok}
use Rattle.event_codec.specs.Packet.{Contents, Packet}
use Rattle.event_codec.specs.Reading.{IsReading}
use Rattle.event_codec.specs.Refusal.{message_length}
use Rattle.transparent_clock.specs.declared.refusal.ClockRefusal.{ClockRefusal}
use Rattle.transparent_clock.specs.declared.refusal.ClockRefusal.TheVariants.{NegativeResidence, NotEvent}
use Rattle.transparent_clock.specs.Refusal.{code_of as clock_code}
use Rattle.transparent_clock.specs.Forwarding.{forwarded, is_event, resided}
use Rattle.network_model.specs.declared.event.Event.{Event}
use Rattle.network_model.specs.declared.event.Event.TheVariants.{Enter, Leave}
use Rattle.network_model.specs.declared.node.NodeKind.{NodeKind}
use Rattle.network_model.specs.declared.node.NodeKind.TheVariants as kinds
use Rattle.network_model.specs.declared.refusal.WorldRefusal.{WorldRefusal}
use Rattle.network_model.specs.declared.refusal.WorldRefusal.TheVariants.{NoNode, WrongKind, NoCopy, NoTransit, Memory}
use Rattle.network_model.specs.declared.stepped.Outcome.{Outcome}
use Rattle.network_model.specs.declared.stepped.Outcome.TheVariants.{Made, Entered, Refused}
use Rattle.network_model.specs.Network.{Network, NodeName, kind_of, is_named}
use Rattle.network_model.specs.Run.{Run, Place, place_at, site_of}
use Rattle.network_model.specs.Kinds.{entered_copy, is_leave_of}
use Rattle.network_model.specs.Clock.{reading}
use Rattle.network_model.specs.Truth.{TellsTruth, copy_of}
use Rattle.network_model.specs.Outcome.{◌>>=◌, node_as, clock_of, reads, open_transit, copy_in, left_outcome, outcome_of}
use Rattle.network_model.proofs.Places.{accepted-place_at}
use Rattle.network_model.proofs.Leaving.{copy_made-forwarded, copy_of-since}
use Rattle.world_model.specs.Inner.Stands.{Entry}
use Rattle.world_model.specs.declared.entry.Happened.{Happened}
use Rattle.world_model.specs.declared.entry.Octets.{Octets}
use Rattle.world_model.specs.declared.entry.Left.TheVariants.{Copy, Nothing}
use Rattle.world_model.specs.declared.station.Port.TheVariants as ports
use Rattle.world_model.specs.declared.station.Station.{Station}
use Rattle.world_model.specs.Inner.Stands.{listed, octets_in, event_at, octets_at, stay_at, entering, open_stay, Keeps, PortStands, Stands}
use Rattle.world_model.specs.Inner.Acts.{Answers, Refuses, IsSent, Gives, Departs, copy_taken, copy_inside}
use Rattle.event_codec.proofs.Lengths.{length-Packet}
use Rattle.world_model.proofs.Readings.{packet_read}
use Rattle.world_model.proofs.Own.{difference-stays, reading_of-read, reading-read}

-- what a clock makes of a message as what it gives
pub gives_left : (sent : Result Contents ClockRefusal) (m : Contents) (now : ℕ) (octets : Octets) → sent ≡ Ok m → Packet m (listed octets)
    → Gives (Some now) (left_outcome sent) (result_ok sent) (record { reading = Some now; outcome = Made; left = Copy octets })
gives_left sent m now octets is packet = record {
  read = refl;
  answered = sym (ap left_outcome is);
  made = subst (λ (s : Result Contents ClockRefusal). TellsTruth (result_ok s) (Some (listed octets))) (sym is) packet;
  stay = refl;
}

pub gives_no_leave : (sent : Result Contents ClockRefusal) (refusal : ClockRefusal) (now code : ℕ) → sent ≡ Err refusal → code ≡ clock_code refusal
    → Gives (Some now) (left_outcome sent) (result_ok sent) (record { reading = Some now; outcome = Refused code; left = Nothing })
gives_no_leave sent refusal now code is number = record {
  read = refl;
  answered = ap Refused number ∙ sym (ap left_outcome is);
  made = subst (λ (s : Result Contents ClockRefusal). TellsTruth (result_ok s) None) (sym is) tt;
  stay = refl;
}

-- a clock keeps a message's length
forwarded-length : (m x : Contents) (entered now : ℕ) → forwarded (Ok m) entered now ≡ Ok x → message_length x ≡ message_length m
forwarded-length m x entered now sent = by_tests (is_event m.body) (nat_lt now entered) sent
  where
    by_tests : (event fell : Bool) → (if event then (if fell then Err NegativeResidence else Ok (resided m (now - entered))) else Err NotEvent) ≡ Ok x → message_length x ≡ message_length m
    by_tests true true made = absurd (cc)
    by_tests true false made = let same : resided m (now - entered) ≡ x = cc in sym (ap message_length same)
    by_tests false fell made = absurd (cc)

-- octets that say what a clock sent on are its message
pub is_sent : (m : Contents) (entered now : ℕ) (old new : List ℕ) (sent : Result (Unit {0}) ClockRefusal) → Packet m old → length new ≡ length old
    → MatchResult sent (λ ok. (x : Contents) × (forwarded (Ok m) entered now ≡ Ok x) × IsReading new (Ok x)) (λ refusal. forwarded (Ok m) entered now ≡ Err refusal)
    → IsSent (forwarded (Ok m) entered now) new sent
is_sent m entered now old new (Ok ok) packet same said =
    (said.0, said.1, packet_read said.0 new (forwarded-length m said.0 entered now said.1 ∙ sym (length-Packet m old packet) ∙ sym same) said.2)
is_sent m entered now old new (Err refusal) packet same said = said

-- a message that is inside a clock: its Enter event, and the copy that entered
pub record Inside (network : Network) (run : Run) (entries : List Entry) (clock : NodeName) (transit copy : ℕ) : Type 0 where
  pub entered : Place
  pub m : Contents
  pub there : place_at run transit ≡ Some entered
  pub takes : entered_copy entered.event ≡ Some copy
  pub at_clock : is_named (site_of entered.event) clock ≡ true
  pub not_left : list_any (is_leave_of transit) run ≡ false
  pub is : copy_of network run copy ≡ Some m
  pub before : copy_of network entered.earlier copy ≡ Some m
  pub stay : stay_at entries transit ≡ Some (reading entered)

copy_there : (clock : Result (Unit {0}) WorldRefusal) (copy : Option Contents) (rest : Contents → Result Outcome WorldRefusal)
    → IsOk (clock >>= (λ c. ok_or copy NoCopy >>= rest)) → (m : Contents) × (copy ≡ Some m)
copy_there (Err refusal) copy rest accepted = absurd (cc)
copy_there (Ok c) None rest accepted = absurd (cc)
copy_there (Ok c) (Some m) rest accepted = (m, refl)

entered_there : (network : Network) (event : Event) (earlier : Run) (copy : ℕ) → entered_copy event ≡ Some copy → IsOk (outcome_of network earlier event)
    → (m : Contents) × (copy_of network earlier copy ≡ Some m)
entered_there network (Enter node taken at) earlier copy takes accepted =
    let found = copy_there (node_as clock_of network node) (copy_of network earlier taken) (λ m. reads (Enter node taken at) earlier >>= (λ now. Ok Entered)) accepted in
    let same : taken ≡ copy = cc in
    (found.0, sym (ap (copy_of network earlier) same) ∙ found.1)
entered_there network _ earlier copy takes accepted = absurd (cc)

pub inside : (network : Network) (run : Run) (entries : List Entry) (clock : NodeName) (transit copy : ℕ)
    → Keeps network run entries → copy_inside entries clock transit ≡ Some copy → Inside network run entries clock transit copy
inside network run entries clock transit copy keeps found =
    by_cases (list_any (is_leave_of transit) run) (place_at run transit) refl refl
    (sym (ap (λ o. option_and_then (λ (now : ℕ). option_and_then (copy_taken clock) (event_at entries transit)) o) (keeps.stays transit)
    ∙ ap (λ e. option_and_then (λ (now : ℕ). option_and_then (copy_taken clock) e) (option_map reading (open_stay run transit))) (keeps.events transit)) ∙ found)
  where
    by_named : (entered : Place) (here : Bool) → is_named (site_of entered.event) clock ≡ here → (if here then entered_copy entered.event else None) ≡ Some copy
        → (here ≡ true) × (entered_copy entered.event ≡ Some copy)
    by_named entered true named takes = (refl, takes)
    by_named entered false named takes = absurd (cc)

    by_kind : (entered : Place) (enters : Bool) → list_any (is_leave_of transit) run ≡ false → place_at run transit ≡ Some entered → is_some (entered_copy entered.event) ≡ enters
        → option_and_then (λ (now : ℕ). copy_taken clock entered.event) (option_map reading (if enters then Some entered else None)) ≡ Some copy
        → Inside network run entries clock transit copy
    by_kind entered false not_left there kind takes = absurd (cc)
    by_kind entered true not_left there kind takes =
        let named = by_named entered (is_named (site_of entered.event) clock) refl takes in
        let before = entered_there network entered.event entered.earlier copy named.1 (accepted-place_at network run transit entered keeps.accepted there) in
        record {
          entered = entered;
          m = before.0;
          there = there;
          takes = named.1;
          at_clock = named.0;
          not_left = not_left;
          is = copy_of-since network run transit entered copy before.0 there before.1;
          before = before.1;
          stay = keeps.stays transit
              ∙ ap (λ b. option_map reading (if b then None else option_and_then entering (place_at run transit))) not_left
              ∙ ap (λ o. option_map reading (option_and_then entering o)) there
              ∙ ap (λ b. option_map reading (if b then Some entered else None)) kind;
        }

    by_cases : (b : Bool) (p : Option Place) → list_any (is_leave_of transit) run ≡ b → place_at run transit ≡ p
        → option_and_then (λ (now : ℕ). option_and_then (copy_taken clock) (option_map (λ (q : Place). q.event) p)) (option_map reading (if b then None else option_and_then entering p)) ≡ Some copy
        → Inside network run entries clock transit copy
    by_cases true p was_left there takes = absurd (cc)
    by_cases false None was_left there takes = absurd (cc)
    by_cases false (Some entered) was_left there takes = by_kind entered (is_some (entered_copy entered.event)) was_left there refl takes

-- the outcome of a message that leaves where its clock shows this
abbrev leaves : Contents → ℕ → Result ℕ WorldRefusal → Result Outcome WorldRefusal
leaves m entered shown = shown >>= (λ now. Ok (left_outcome (forwarded (Ok m) entered now)))

module _ (network : Network) (run : Run) (entries : List Entry) (clock : NodeName) (transit copy at : ℕ) (in_clock : Inside network run entries clock transit copy)
    (is_kind : kind_of network clock ≡ Some kinds.Clock) where
  is_open : option_and_then (open_transit clock run transit) (place_at run transit) ≡ Some in_clock.entered
  is_open =
      ap (option_and_then (open_transit clock run transit)) in_clock.there
      ∙ ap (λ o. if is_some o && is_named (site_of in_clock.entered.event) clock && not (list_any (is_leave_of transit) run) then Some in_clock.entered else None) in_clock.takes
      ∙ ap (λ b. if true && b && not (list_any (is_leave_of transit) run) then Some in_clock.entered else None) in_clock.at_clock
      ∙ ap (λ b. if true && true && not b then Some in_clock.entered else None) in_clock.not_left

  -- what the outcome of the Leave event rests on
  leave-outcome : outcome_of network run (Leave clock transit at)
      ≡ (reads (Leave clock transit at) run >>= (λ now. Ok (left_outcome (forwarded (Ok in_clock.m) (reading in_clock.entered) now))))
  leave-outcome =
      let last : Place → Contents → Result Outcome WorldRefusal = λ entered m. reads (Leave clock transit at) run >>= (λ now. Ok (left_outcome (forwarded (Ok m) (reading entered) now))) in
      ap (λ k. (ok_or k NoNode >>= (λ kind. ok_or (clock_of kind) WrongKind)) >>= (λ c. ok_or (option_and_then (open_transit clock run transit) (place_at run transit)) NoTransit
      >>= (λ entered. ok_or (copy_in network entered) NoTransit >>= last entered))) is_kind
      ∙ ap (λ o. ok_or o NoTransit >>= (λ entered. ok_or (copy_in network entered) NoTransit >>= last entered)) is_open
      ∙ ap (λ o. ok_or o NoTransit >>= last in_clock.entered) (ap (option_and_then (copy_of network in_clock.entered.earlier)) in_clock.takes ∙ in_clock.before)

  module _ (station : Station) (is_port : station.port ≡ ports.Clock) (stands : Stands network run clock kinds.Clock station) (shown : Result ℕ WorldRefusal)
      (shows : shown ≡ reads (Leave clock transit at) run) (HasRoom : Type 0) where
    stood : Stands network (Leave clock transit at ∷ run) clock kinds.Clock station
    stood = record {
      difference = stands.difference ∙ sym (difference-stays (Leave clock transit at) run refl);
      port = subst (PortStands network (Leave clock transit at ∷ run) clock kinds.Clock) (sym is_port) tt;
    }

    pub leave-answers : (result : Result Happened WorldRefusal) → Departs in_clock.m (reading in_clock.entered) shown HasRoom result
        → Answers network run (Leave clock transit at) HasRoom (Stands network (Leave clock transit at ∷ run) clock kinds.Clock station) (station ≡ station) result
    leave-answers (Ok happened) departs =
        let now : ℕ = departs.1.0 in
        let reads_now : Ok now ≡ reads (Leave clock transit at) run = sym departs.1.1 ∙ shows in
        let gives = departs.1.2 in (
          departs.0,
          record {
            outcome = leave-outcome ∙ sym (ap (λ r. r >>= (λ t. Ok (left_outcome (forwarded (Ok in_clock.m) (reading in_clock.entered) t)))) reads_now) ∙ ap Ok (sym gives.answered);
            read = gives.read ∙ sym (reading_of-read (Leave clock transit at) run now reads_now);
            stands = stood;
            copy = subst (λ (o : Option Contents). TellsTruth o (octets_in happened.left))
                (sym (copy_made-forwarded network run clock copy transit at in_clock.entered in_clock.m in_clock.is in_clock.there in_clock.takes
                ∙ ap (λ t. result_ok (forwarded (Ok in_clock.m) (reading in_clock.entered) t)) (reading-read (Leave clock transit at) run now reads_now))) gives.made;
            stay = gives.stay;
          },
        )
    leave-answers (Err why) departs = (refl, refused departs)
      where
        goes_on : (r : Result ℕ WorldRefusal) → IsOk r → IsOk (leaves in_clock.m (reading in_clock.entered) r)
        goes_on (Ok t) ok = refl
        goes_on (Err other) ok = absurd (cc)

        refused : (shown ≡ Err why) ⊎ ((why ≡ Memory) × (¬ HasRoom) × IsOk shown)
            → Refuses network run (Leave clock transit at) HasRoom why
        refused (inl not_shown) = inl (leave-outcome ∙ ap (leaves in_clock.m (reading in_clock.entered)) (sym shows ∙ not_shown))
        refused (inr no_room) = inr (no_room.0, no_room.1, subst IsOk (sym leave-outcome) (goes_on (reads (Leave clock transit at) run) (subst IsOk shows no_room.2)))

-- a message that leaves this clock
pub leaving : (network : Network) (run : Run) (entries : List Entry) (clock : NodeName) (transit copy at : ℕ) (kind : NodeKind) (station : Station)
    (shown : Result ℕ WorldRefusal) (HasRoom : Type 0) (result : Result Happened WorldRefusal) (octets : List ℕ)
    → Keeps network run entries → copy_inside entries clock transit ≡ Some copy → octets_at entries copy ≡ Some octets
    → kind_of network clock ≡ Some kind → station.port ≡ ports.Clock → Stands network run clock kind station → shown ≡ reads (Leave clock transit at) run
    → ((m : Contents) (entered : ℕ) → Packet m octets → stay_at entries transit ≡ Some entered → Departs m entered shown HasRoom result)
    → Answers network run (Leave clock transit at) HasRoom (Stands network (Leave clock transit at ∷ run) clock kind station) (station ≡ station) result
leaving network run entries clock transit copy at kinds.Clock station shown HasRoom result octets keeps found kept is_kind is_port stands shows departs =
    let in_clock = inside network run entries clock transit copy keeps found in
    let packet : Packet in_clock.m octets = subst (λ (o : Option (List ℕ)). TellsTruth (Some in_clock.m) o) kept (subst (λ (o : Option Contents). TellsTruth o (octets_at entries copy)) in_clock.is (keeps.copies copy)) in
    leave-answers network run entries clock transit copy at in_clock is_kind station is_port stands shown shows HasRoom result
    (departs in_clock.m (reading in_clock.entered) packet in_clock.stay)
leaving network run entries clock transit copy at (kinds.Master config first) station shown HasRoom result octets keeps found kept is_kind is_port stands shows departs =
    absurd (subst (PortStands network run clock (kinds.Master config first)) is_port stands.port)
leaving network run entries clock transit copy at (kinds.Slave config first) station shown HasRoom result octets keeps found kept is_kind is_port stands shows departs =
    absurd (subst (PortStands network run clock (kinds.Slave config first)) is_port stands.port)

-- the copy of a message inside a clock is kept
pub never_lost : (network : Network) (run : Run) (entries : List Entry) (clock : NodeName) (transit copy : ℕ)
    → Keeps network run entries → copy_inside entries clock transit ≡ Some copy → octets_at entries copy ≡ None → ⊥
never_lost network run entries clock transit copy keeps found lost =
    let in_clock = inside network run entries clock transit copy keeps found in
    subst (λ (o : Option (List ℕ)). TellsTruth (Some in_clock.m) o) lost (subst (λ (o : Option Contents). TellsTruth o (octets_at entries copy)) in_clock.is (keeps.copies copy))
