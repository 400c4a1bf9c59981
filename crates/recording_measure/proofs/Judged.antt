-- What a port becomes by a message of its master, by what the message's number says.
use Rattle.std.proofs.Common.{◌≡◌, ◌⊎◌, ℕ, Bool, true, false, ◌∷◌, Some, None, Ok, inl, inr, refl}
use Rattle.std.proofs.Common.{ap, if◌then◌else◌, option_map}
use Rattle.std.specs.Prelude.{◌&&◌, not, is_some}
use Rattle.event_codec.specs.declared.port.PortIdentity.{PortIdentity}
use Rattle.event_codec.specs.Packet.{Contents}
use Rattle.event_codec.specs.Port.{is_same_port}
use Rattle.pairing.specs.Marked.{entry}
use Rattle.sync_watch.specs.declared.judgement.Judgement.{Judgement}
use Rattle.sync_watch.specs.declared.judgement.Judgement.TheVariants.{Newer, Repeated, BeganAnew}
use Rattle.sync_watch.specs.declared.arrival.Arrival.{Arrival}
use Rattle.sync_watch.specs.Told.{Sync, FollowUp, known}
use Rattle.sync_watch.specs.Judged.{judged_sync, judged_follow_up, is_repeated, after}
use Rattle.slave_port.specs.History.{Call, Event}
use Rattle.recording_model.specs.declared.watched.Watched.{Watched}
use Rattle.recording_model.specs.Listening.{Listening, table_capacity, is_of, arrival_of, told}
use Rattle.recording_model.specs.Listening.{with_master_anew, ready_judged, ready_sync}
use Rattle.recording_model.specs.Listening.{ready_followed, ready_follow_up, ready_response, hears_ready}
use Rattle.recording_model.specs.Begins.{is_beginning}
use Rattle.recording_measure.specs.Begins.{sync_begins}
use Rattle.recording_measure.specs.Inner.Became.{reply_in}
use Rattle.recording_measure.specs.Inner.Steps.{with_sync, with_follow_up, with_response, told_again}

-- what a number says that came before, or that didn't
pub says-newer : (again : Bool) (j : Judgement) → j ≡ (if again then Repeated else Newer) → j ≡ Newer → again ≡ false
says-newer true j is newer = cc
says-newer false j is newer = refl

pub says-repeated : (again : Bool) (j : Judgement) → j ≡ (if again then Repeated else Newer)
    → (j ≡ Repeated) ⊎ (j ≡ BeganAnew) → again ≡ true
says-repeated true j is repeated = refl
says-repeated false j is (inl repeated) = cc
says-repeated false j is (inr repeated) = cc

-- what a Sync becomes that isn't the master's
module _ (w : Watched) (line time : ℕ) (m : Contents) (l : Listening) where
  abbrev call_of : Call
  call_of = Event (Ok m) time line

  abbrev a_of : Arrival
  a_of = arrival_of m.header time

  pub sync-other : is_of w w.master m.header ≡ false
      → hears_ready (is_of w w.master m.header) call_of (ready_sync w line time m l) l ≡ told call_of l
  sync-other other = ap (λ (b : Bool). hears_ready b call_of
      (if b then ready_judged (judged_sync a_of table_capacity l.heard) w line a_of l else Some l) l) other

  pub sync-other-reply : is_of w w.master m.header ≡ false
      → option_map (λ l. reply_in w l call_of) (ready_sync w line time m l) ≡ Some (reply_in w l call_of)
  sync-other-reply other = ap (λ (b : Bool). option_map (λ l. reply_in w l call_of)
      (if b then ready_judged (judged_sync a_of table_capacity l.heard) w line a_of l else Some l)) other

  pub sync-judged : (j : Judgement) → is_of w w.master m.header ≡ true → judged_sync a_of table_capacity l.heard ≡ j
      → hears_ready (is_of w w.master m.header) call_of (ready_sync w line time m l) l
      ≡ hears_ready true call_of (ready_judged j w line a_of l) l
  sync-judged j of is =
      λ i. hears_ready (of i) call_of (if of i then ready_judged (is i) w line a_of l else Some l) l

  pub sync-judged-reply : (j : Judgement) → is_of w w.master m.header ≡ true
      → judged_sync a_of table_capacity l.heard ≡ j
      → option_map (λ l. reply_in w l call_of) (ready_sync w line time m l)
      ≡ option_map (λ l. reply_in w l call_of) (ready_judged j w line a_of l)
  sync-judged-reply j of is = λ i. option_map (λ l. reply_in w l call_of)
      (if of i then ready_judged (is i) w line a_of l else Some l)

  pub sync-begins-not : is_of w w.master m.header ≡ false → sync_begins w time m l ≡ false
  sync-begins-not other = ap (λ (b : Bool). b && is_beginning (judged_sync a_of table_capacity l.heard)) other

  pub sync-begins : (j : Judgement) → is_of w w.master m.header ≡ true → judged_sync a_of table_capacity l.heard ≡ j
      → sync_begins w time m l ≡ is_beginning j
  sync-begins j of is = λ i. of i && is_beginning (is i)

  pub with_sync-judged : (j : Judgement) → judged_sync a_of table_capacity l.heard ≡ j
      → with_sync a_of l ≡ record l { heard = after j a_of (Sync a_of) l.heard }
  with_sync-judged j is = ap (λ (j : Judgement). record l { heard = after j a_of (Sync a_of) l.heard }) is

  pub sync-anew : judged_sync a_of table_capacity l.heard ≡ BeganAnew
      → told_again w line (with_sync a_of l) ≡ with_master_anew w line a_of l
  sync-anew is = ap (λ (j : Judgement). told_again w line (record l { heard = after j a_of (Sync a_of) l.heard })) is

-- what a Follow_Up becomes
module _ (w : Watched) (line time : ℕ) (m : Contents) (l : Listening) where
  abbrev follow : Arrival
  follow = arrival_of m.header time

  pub follow_up-other : is_of w w.master m.header ≡ false → ready_follow_up w time m l ≡ Some l
  follow_up-other other = ap (λ (b : Bool).
      if b then ready_followed (judged_follow_up follow table_capacity l.heard) follow l else Some l) other

  -- what is known once its number was judged, and the port that is to hear it
  pub record IsFollowed (again : Bool) : Type 0 where
    pub ready_is : ready_follow_up w time m l ≡ ready_followed (if again then Repeated else Newer) follow l
    pub known_is : with_follow_up follow l ≡ record l { heard = if again then l.heard else FollowUp follow ∷ l.heard }

  pub follow_up-judged : (again : Bool) → is_of w w.master m.header ≡ true
      → is_repeated follow table_capacity l.heard ≡ again → IsFollowed again
  follow_up-judged again of is = record {
    ready_is = λ i. if of i then ready_followed (if is i then Repeated else Newer) follow l else Some l;
    known_is = ap (λ (b : Bool). record l { heard = if b then l.heard else FollowUp follow ∷ l.heard }) is;
  }

  -- a Delay_Resp
  module _ (requesting : PortIdentity) where
    pub response-other : (is_of w w.master m.header && is_same_port requesting w.slave) ≡ false
        → ready_response w time m requesting l ≡ Some l
    response-other other = ap (λ (b : Bool).
        if not b then Some l
        else if is_some (known table_capacity m.header.sequence.0 l.responses) then None
        else Some (record l { responses = entry m.header.sequence.0 time ∷ l.responses })) other

    -- its number came before, or it is known now
    pub response-judged : (again : Bool) → (is_of w w.master m.header && is_same_port requesting w.slave) ≡ true
        → is_some (known table_capacity m.header.sequence.0 l.responses) ≡ again
        → (ready_response w time m requesting l
        ≡ (if again then None else Some (record l { responses = entry m.header.sequence.0 time ∷ l.responses })))
        × (with_response m.header.sequence.0 time l
        ≡ record l { responses = if again then l.responses else entry m.header.sequence.0 time ∷ l.responses })
    response-judged again of is = (
      λ i. if not (of i) then Some l else if is i then None
          else Some (record l { responses = entry m.header.sequence.0 time ∷ l.responses }),
      ap (λ (b : Bool).
          record l { responses = if b then l.responses else entry m.header.sequence.0 time ∷ l.responses }) is,
    )
