-- What a listening port holds is known to it, and what it pairs is less than a second apart: this goes on holding over
-- ticks, requests and messages, and where another line comes.
use Rattle.std.proofs.Common.{◌≡◌, ◌∙◌, ℕ, zero, suc, ◌+◌, ◌<◌, ◌≤◌, Bool, true, false, List, ◌∷◌, Some, None}
use Rattle.std.proofs.Common.{Ok, refl, sym, ap, subst, arith, if◌then◌else◌, option_map}
use Rattle.std.specs.Prelude.{◌==◌, ◌&&◌, ◌-◌, nat_le, nat_lt}
use Rattle.std.specs.Bool.{beq}
use Rattle.std.specs.Result.{result_ok}
use Rattle.std.specs.List.{All}
use Rattle.std.proofs.lemmas.Bool.{and_from, and_left, and_right, or_parts, or_from, eq-eqb}
use Rattle.std.proofs.lemmas.List.Elements.{All-nil, All-take, All-weaker}
use Rattle.event_codec.specs.declared.message.Body.{Body}
use Rattle.event_codec.specs.declared.message.Body.TheVariants as bodies
use Rattle.event_codec.specs.declared.message.Header.{Header}
use Rattle.event_codec.specs.declared.port.PortIdentity.{PortIdentity}
use Rattle.event_codec.specs.Packet.{Contents}
use Rattle.event_codec.specs.Port.{is_same_port}
use Rattle.event_codec.specs.Reading.{Reading}
use Rattle.pairing.specs.Marked.{Entry, entry, first_value}
use Rattle.sync_watch.specs.declared.arrival.Arrival.{Arrival}
use Rattle.sync_watch.specs.Told.{Told, known, of_flag, syncs, follow_ups}
use Rattle.sync_watch.specs.Life.{second, is_apart}
use Rattle.slave_port.specs.History as calls
use Rattle.slave_port.specs.History.{Call, Setup, present_master}
use Rattle.slave_port.specs.Values.{SyncValue, FollowValue}
use Rattle.slave_port.specs.Completion.{SyncCompletion}
use Rattle.slave_port.specs.Kept.{Kept, kept, criteria, held_syncs, held_follows, usable_two_step_sync, usable_follow_up}
use Rattle.slave_port.specs.Kept.{sync_completion}
use Rattle.slave_port.specs.Window.{all}
use Rattle.slave_port.proofs.Uses.{Passes, HeardSync, HeardFollowUp, two_step_entry, follow_entry, sync_completion_of}
use Rattle.slave_port.proofs.Uses.{IsSyncCompletion, BySync, Alone, ByFollowUp}
use Rattle.network_model.proofs.Pairing.{found_in}
use Rattle.recording_model.specs.declared.watched.Watched.{Watched}
use Rattle.recording_model.specs.Recorded.{Recorded}
use Rattle.recording_model.specs.Listening.{setup_with, table_capacity, is_of, is_unicast, draws}
use Rattle.recording_model.specs.Told.{is_sync}
use Rattle.recording_model.specs.Pairs.{at_line, flag_of, is_same_kind, is_like, says_like, is_heard, heard_between}
use Rattle.recording_model.proofs.Near.{All-brought}
use Rattle.recording_model.proofs.Steps.{same_identity}
use Rattle.recording_model.proofs.Tags.{AllIn, all-in}
use Rattle.recording_model.proofs.Known.{IsKnown, known-more, known-fewer, at_line-in, at_line-later, at_line-now}
use Rattle.recording_model.proofs.Known.{count-grows, is_behind, heard_behind, behind-one, behind-between}

-- a Follow_Up
abbrev pub is_follow_up : Body → Bool
is_follow_up (bodies.Sync origin) = false
is_follow_up (bodies.DelayReq origin) = false
is_follow_up (bodies.FollowUp precise) = true
is_follow_up (bodies.DelayResp receive requesting) = false

-- messages of this kind are of the same
abbrev pub IsOneKind : (Body → Bool) → Type 0
IsOneKind kind = (a b : Body) → kind a ≡ true → kind b ≡ true → is_same_kind a b ≡ true

syncs-alike : IsOneKind is_sync
syncs-alike (bodies.Sync origin) (bodies.Sync other) one two = refl
syncs-alike (bodies.Sync origin) (bodies.DelayReq other) one two = cc
syncs-alike (bodies.Sync origin) (bodies.FollowUp other) one two = cc
syncs-alike (bodies.Sync origin) (bodies.DelayResp receive requesting) one two = cc
syncs-alike (bodies.DelayReq origin) b one two = cc
syncs-alike (bodies.FollowUp precise) b one two = cc
syncs-alike (bodies.DelayResp receive requesting) b one two = cc

follow_ups-alike : IsOneKind is_follow_up
follow_ups-alike (bodies.FollowUp precise) (bodies.FollowUp other) one two = refl
follow_ups-alike (bodies.FollowUp precise) (bodies.DelayReq other) one two = cc
follow_ups-alike (bodies.FollowUp precise) (bodies.Sync other) one two = cc
follow_ups-alike (bodies.FollowUp precise) (bodies.DelayResp receive requesting) one two = cc
follow_ups-alike (bodies.DelayReq origin) b one two = cc
follow_ups-alike (bodies.Sync origin) b one two = cc
follow_ups-alike (bodies.DelayResp receive requesting) b one two = cc

-- those of the one kind are not of the other
abbrev pub AreTwoKinds : (kind other : Body → Bool) → Type 0
AreTwoKinds kind other = (a b : Body) → kind a ≡ true → other b ≡ true → is_same_kind a b ≡ false

follow_up-no_sync : AreTwoKinds is_follow_up is_sync
follow_up-no_sync (bodies.FollowUp precise) (bodies.Sync other) one two = refl
follow_up-no_sync (bodies.FollowUp precise) (bodies.DelayReq other) one two = cc
follow_up-no_sync (bodies.FollowUp precise) (bodies.FollowUp other) one two = cc
follow_up-no_sync (bodies.FollowUp precise) (bodies.DelayResp receive requesting) one two = cc
follow_up-no_sync (bodies.DelayReq origin) b one two = cc
follow_up-no_sync (bodies.Sync origin) b one two = cc
follow_up-no_sync (bodies.DelayResp receive requesting) b one two = cc

sync-no_follow_up : AreTwoKinds is_sync is_follow_up
sync-no_follow_up (bodies.Sync origin) (bodies.FollowUp other) one two = refl
sync-no_follow_up (bodies.Sync origin) (bodies.Sync other) one two = cc
sync-no_follow_up (bodies.Sync origin) (bodies.DelayReq other) one two = cc
sync-no_follow_up (bodies.Sync origin) (bodies.DelayResp receive requesting) one two = cc
sync-no_follow_up (bodies.DelayReq origin) b one two = cc
sync-no_follow_up (bodies.FollowUp precise) b one two = cc
sync-no_follow_up (bodies.DelayResp receive requesting) b one two = cc

beq-same : (b : Bool) → beq b b ≡ true
beq-same true = refl
beq-same false = refl

-- two moments are as far apart either way
apart-other : (time other : ℕ) → is_apart time other ≡ false → is_apart other time ≡ false
apart-other time other is =
    let parts = or_parts (nat_le second (time - other)) (nat_le second (other - time)) is in
    or_from (nat_le second (other - time)) (nat_le second (time - other)) parts.1 parts.0

module _ (w : Watched) where
  -- a message of this kind, of a line, is known as the one of its number, by what was heard of its flag
  pub record IsHeld (kind : Body → Bool) (ds : List Recorded) (entries : Bool → List (Entry ℕ)) (number line : ℕ) : Type 0
    where
      pub d : Recorded
      pub m : Contents
      pub there : at_line line ds ≡ Some d
      pub said : d.said ≡ Ok m
      pub kind_is : kind m.body ≡ true
      pub known : IsKnown (heard_behind w d ds) number d.time (entries (is_unicast m.header))

  -- the line says a message of this kind and flag of the master, which is heard, and whose number wasn't known
  pub record IsOneMore (kind : Body → Bool) (ds : List Recorded) (x : Recorded) (flag : Bool)
      (old new : List (Entry ℕ)) : Type 0 where
    pub e : Entry ℕ
    pub is : new ≡ e ∷ old
    pub unknown : known table_capacity e.number old ≡ None
    pub m : Contents
    pub said : x.said ≡ Ok m
    pub kind_is : kind m.body ≡ true
    pub flag_is : is_unicast m.header ≡ flag
    pub of_master : is_of w w.master m.header ≡ true
    pub heard : is_heard w ds x ≡ true

  pub data Grows (kind : Body → Bool) (ds : List Recorded) (x : Recorded) (flag : Bool) (old new : List (Entry ℕ)) : Type 0
    where
      Same : new ≡ old → Grows kind ds x flag old new
      More : IsOneMore kind ds x flag old new → Grows kind ds x flag old new

  -- how what was heard of each flag grows
  abbrev pub AllGrow : (kind : Body → Bool) → List Recorded → Recorded → (old new : Bool → List (Entry ℕ)) → Type 0
  AllGrow kind ds x old new = (flag : Bool) → Grows kind ds x flag (old flag) (new flag)

  -- by one arrival
  pub grows-arrival : (kind : Body → Bool) (ds : List Recorded) (x : Recorded) (m : Contents) (a : Arrival)
      (entries : Bool → List (Entry ℕ)) → x.said ≡ Ok m → kind m.body ≡ true → a.is_unicast ≡ is_unicast m.header
      → is_of w w.master m.header ≡ true → is_heard w ds x ≡ true
      → known table_capacity a.number.0 (entries a.is_unicast) ≡ None
      → AllGrow kind ds x entries (λ (flag : Bool). of_flag flag a (entries flag))
  grows-arrival kind ds x m a entries said kind_is flag_is of_master heard unknown flag = at flag
    where
      one : (flag : Bool) → a.is_unicast ≡ flag
          → IsOneMore kind ds x flag (entries flag) (entry a.number.0 a.time ∷ entries flag)
      one flag is = record {
        e = entry a.number.0 a.time;
        is = refl;
        unknown = subst (λ (b : Bool). known table_capacity a.number.0 (entries b) ≡ None) is unknown;
        m = m;
        said = said;
        kind_is = kind_is;
        flag_is = sym flag_is ∙ is;
        of_master = of_master;
        heard = heard;
      }

      true_of : (b : Bool) → a.is_unicast ≡ b → Grows kind ds x true (entries true)
          (if b then entry a.number.0 a.time ∷ entries true else entries true)
      true_of true is = More (one true is)
      true_of false is = Same refl

      false_of : (b : Bool) → a.is_unicast ≡ b → Grows kind ds x false (entries false)
          (if b then entries false else entry a.number.0 a.time ∷ entries false)
      false_of true is = Same refl
      false_of false is = More (one false is)

      at : (flag : Bool) → Grows kind ds x flag (entries flag) (of_flag flag a (entries flag))
      at true = true_of a.is_unicast refl
      at false = false_of a.is_unicast refl

  module _ (ds : List Recorded) (x : Recorded) (below : All (λ (e : Recorded). e.line < x.line) ds) where
    -- what is held is known where another line comes
    held-later : (kind : Body → Bool) → IsOneKind kind → (old new : Bool → List (Entry ℕ)) → AllGrow kind ds x old new
        → (number line : ℕ) → IsHeld kind ds old number line → IsHeld kind (x ∷ ds) new number line
    held-later kind alike old new grows number line held = record {
      d = held.d;
      m = held.m;
      there = at_line-later line x ds held.d below held.there;
      said = held.said;
      kind_is = held.kind_is;
      known = by (grows flag);
    }
      where
        flag : Bool
        flag = is_unicast held.m.header

        count : ℕ
        count = heard_behind w held.d ds

        lower : held.d.line < x.line
        lower = (at_line-in (λ (e : Recorded). e.line < x.line) line ds held.d below held.there).0

        like : (one : IsOneMore kind ds x flag (old flag) (new flag)) → says_like w held.d.said x.said ≡ true
        like one =
            let said : says_like w held.d.said x.said ≡ is_like w held.m one.m =
            λ i. says_like w (held.said i) (one.said i) in
            said ∙ and_from (is_of w w.master one.m.header)
            (is_same_kind held.m.body one.m.body && beq flag (is_unicast one.m.header)) one.of_master
            (and_from (is_same_kind held.m.body one.m.body) (beq flag (is_unicast one.m.header))
            (alike held.m.body one.m.body held.kind_is one.kind_is)
            (ap (beq flag) one.flag_is ∙ beq-same flag))

        by : Grows kind ds x flag (old flag) (new flag)
            → IsKnown (heard_behind w held.d (x ∷ ds)) number held.d.time (new flag)
        by (Same same) =
            subst (λ (es : List (Entry ℕ)). IsKnown (heard_behind w held.d (x ∷ ds)) number held.d.time es) (sym same)
            (known-fewer count (heard_behind w held.d (x ∷ ds)) number held.d.time (old flag)
            (count-grows w (is_behind w held.d) x ds) held.known)
        by (More one) =
            subst (λ (n : ℕ). IsKnown n number held.d.time (new flag))
            (sym (behind-one w held.d x ds lower (like one) one.heard))
            (subst (λ (es : List (Entry ℕ)). IsKnown (count + 1) number held.d.time es) (sym one.is)
            (known-more count number held.d.time one.e (old flag) one.unknown held.known))

  -- the Sync and the Follow_Up of these lines are near, where both have one flag and few of their like came between
  pub record IsPair (ds : List Recorded) (sync_line follow_line : ℕ) : Type 0 where
    pub sync : Recorded
    pub follow : Recorded
    pub sync_there : at_line sync_line ds ≡ Some sync
    pub follow_there : at_line follow_line ds ≡ Some follow
    pub near : flag_of sync ≡ flag_of follow → heard_between w sync follow ds < table_capacity
        → heard_between w follow sync ds < table_capacity → is_apart sync.time follow.time ≡ false

  -- what completed is of such a pair, where it has a Follow_Up
  abbrev pub IsOfPair : List Recorded → SyncCompletion → Type 0
  IsOfPair ds c = (line : ℕ) → c.follow_tag ≡ Some line → IsPair ds c.sync_tag line

  pair-later : (ds : List Recorded) (x : Recorded) (sync_line follow_line : ℕ)
      → All (λ (e : Recorded). e.line < x.line) ds → IsPair ds sync_line follow_line
      → IsPair (x ∷ ds) sync_line follow_line
  pair-later ds x sync_line follow_line below pair = record {
    sync = pair.sync;
    follow = pair.follow;
    sync_there = at_line-later sync_line x ds pair.sync below pair.sync_there;
    follow_there = at_line-later follow_line x ds pair.follow below pair.follow_there;
    near = λ flags few few_too. pair.near flags
        (omega (arith, between-grows pair.sync pair.follow))
        (omega (arith, between-grows pair.follow pair.sync));
  }
    where
      between-grows : (first later : Recorded) → heard_between w first later ds ≤ heard_between w first later (x ∷ ds)
      between-grows first later = count-grows w
          (λ (d : Recorded). nat_lt first.line d.line
          && (nat_lt d.line later.line && says_like w first.said d.said)) x ds

  -- the port follows the master, what it holds is known by what was heard, and what completed is of near pairs
  abbrev pub IsHeldSync : List Recorded → (heard : List Told) → Entry SyncValue → Type 0
  IsHeldSync ds heard e = IsHeld is_sync ds (λ (flag : Bool). syncs flag heard) e.number e.value.tag

  abbrev pub IsHeldFollow : List Recorded → (heard : List Told) → Entry FollowValue → Type 0
  IsHeldFollow ds heard e = IsHeld is_follow_up ds (λ (flag : Bool). follow_ups flag heard) e.number e.value.tag

  pub record Knows (ds : List Recorded) (heard : List Told) (setup : Setup) (history : List Call) : Type 0 where
    pub follows_master : present_master history ≡ Some w.master
    pub syncs_known : AllIn (IsHeldSync ds heard) (kept setup history).syncs
    pub follows_known : AllIn (IsHeldFollow ds heard) (kept setup history).follows
    pub completed : AllIn (IsOfPair ds) (kept setup history).completions

  -- where another line comes
  pub knows-later : (ds : List Recorded) (x : Recorded) → All (λ (e : Recorded). e.line < x.line) ds
      → (heard more : List Told) (setup : Setup) (history : List Call)
      → AllGrow is_sync ds x (λ (flag : Bool). syncs flag heard) (λ (flag : Bool). syncs flag more)
      → AllGrow is_follow_up ds x (λ (flag : Bool). follow_ups flag heard) (λ (flag : Bool). follow_ups flag more)
      → Knows ds heard setup history → Knows (x ∷ ds) more setup history
  knows-later ds x below heard more setup history syncs_grow follow_ups_grow knows = record {
    follows_master = knows.follows_master;
    syncs_known = (
      All-weaker (IsHeldSync ds heard) (IsHeldSync (x ∷ ds) more) sync (kept setup history).syncs.since
          knows.syncs_known.0,
      All-weaker (IsHeldSync ds heard) (IsHeldSync (x ∷ ds) more) sync (kept setup history).syncs.before
          knows.syncs_known.1,
    );
    follows_known = (
      All-weaker (IsHeldFollow ds heard) (IsHeldFollow (x ∷ ds) more) follow (kept setup history).follows.since
          knows.follows_known.0,
      All-weaker (IsHeldFollow ds heard) (IsHeldFollow (x ∷ ds) more) follow (kept setup history).follows.before
          knows.follows_known.1,
    );
    completed = (
      All-weaker (IsOfPair ds) (IsOfPair (x ∷ ds)) completion (kept setup history).completions.since
          knows.completed.0,
      All-weaker (IsOfPair ds) (IsOfPair (x ∷ ds)) completion (kept setup history).completions.before
          knows.completed.1,
    );
  }
    where
      sync : (e : Entry SyncValue) → IsHeldSync ds heard e → IsHeldSync (x ∷ ds) more e
      sync e held = held-later ds x below is_sync syncs-alike (λ (flag : Bool). syncs flag heard)
          (λ (flag : Bool). syncs flag more) syncs_grow e.number e.value.tag held

      follow : (e : Entry FollowValue) → IsHeldFollow ds heard e → IsHeldFollow (x ∷ ds) more e
      follow e held = held-later ds x below is_follow_up follow_ups-alike (λ (flag : Bool). follow_ups flag heard)
          (λ (flag : Bool). follow_ups flag more) follow_ups_grow e.number e.value.tag held

      completion : (c : SyncCompletion) → IsOfPair ds c → IsOfPair (x ∷ ds) c
      completion c of_pair line is = pair-later ds x c.sync_tag line below (of_pair line is)

  -- a port that was told its master holds nothing
  pub knows-master : (ds : List Recorded) (heard : List Told) (setup : Setup) (history : List Call)
      → Knows ds heard setup (calls.SetMaster w.master ∷ history)
  knows-master ds heard setup history = record {
    follows_master = refl;
    syncs_known = (All-nil (IsHeldSync ds heard), All-nil (IsHeldSync ds heard));
    follows_known = (All-nil (IsHeldFollow ds heard), All-nil (IsHeldFollow ds heard));
    completed = (All-nil (IsOfPair ds), All-nil (IsOfPair ds));
  }

  -- what a call brings is held and known, or is of a near pair
  pub record Brings (ds : List Recorded) (heard : List Told) (setup : Setup) (history : List Call) (call : Call) : Type 0
    where
      pub sync : (e : Entry SyncValue) → usable_two_step_sync setup history call ≡ Some e → IsHeldSync ds heard e
      pub follow : (e : Entry FollowValue) → usable_follow_up setup history call ≡ Some e → IsHeldFollow ds heard e
      pub completion : (c : SyncCompletion) → sync_completion setup history call ≡ Some c → IsOfPair ds c

  module _ (ds : List Recorded) (heard : List Told) (setup : Setup) (history : List Call)
      (knows : Knows ds heard setup history) where
    pub knows-tick : Knows ds heard setup (calls.Tick ∷ history)
    knows-tick = record {
      follows_master = knows.follows_master;
      syncs_known = (All-nil (IsHeldSync ds heard), knows.syncs_known.0);
      follows_known = (All-nil (IsHeldFollow ds heard), knows.follows_known.0);
      completed = (All-nil (IsOfPair ds), knows.completed.0);
    }

    pub knows-event : (said : Reading) (t2 tag : ℕ) → Brings ds heard setup history (calls.Event said t2 tag)
        → Knows ds heard setup (calls.Event said t2 tag ∷ history)
    knows-event said t2 tag brings =
        let call : Call = calls.Event said t2 tag in
        record {
          follows_master = knows.follows_master;
          syncs_known = (
            All-brought (IsHeldSync ds heard) (usable_two_step_sync setup history call)
                (kept setup history).syncs.since brings.sync knows.syncs_known.0,
            knows.syncs_known.1,
          );
          follows_known = (
            All-brought (IsHeldFollow ds heard) (usable_follow_up setup history call)
                (kept setup history).follows.since brings.follow knows.follows_known.0,
            knows.follows_known.1,
          );
          completed = (
            All-brought (IsOfPair ds) (sync_completion setup history call) (kept setup history).completions.since
                brings.completion knows.completed.0,
            knows.completed.1,
          );
        }

    pub knows-general : (said : Reading) (tag : ℕ) → Brings ds heard setup history (calls.General said tag)
        → Knows ds heard setup (calls.General said tag ∷ history)
    knows-general said tag brings =
        let call : Call = calls.General said tag in
        record {
          follows_master = knows.follows_master;
          syncs_known = (
            All-brought (IsHeldSync ds heard) (usable_two_step_sync setup history call)
                (kept setup history).syncs.since brings.sync knows.syncs_known.0,
            knows.syncs_known.1,
          );
          follows_known = (
            All-brought (IsHeldFollow ds heard) (usable_follow_up setup history call)
                (kept setup history).follows.since brings.follow knows.follows_known.0,
            knows.follows_known.1,
          );
          completed = (
            All-brought (IsOfPair ds) (sync_completion setup history call) (kept setup history).completions.since
                brings.completion knows.completed.0,
            knows.completed.1,
          );
        }

    -- requests that are drawn leave all this as it was, and so does one that departed
    drawn-kept : (count tag : ℕ)
        → (present_master (draws count tag history) ≡ present_master history)
        × (kept setup (draws count tag history) ≡ kept setup history)
    drawn-kept zero tag = (refl, refl)
    drawn-kept (suc count) tag = drawn-kept count tag

    pub knows-asked : (count tag number t3 : ℕ)
        → Knows ds heard setup (calls.RequestLeft number t3 ∷ draws count tag history)
    knows-asked count tag number t3 =
        let same = drawn-kept count tag in
        record {
          follows_master = same.0 ∙ knows.follows_master;
          syncs_known = subst (λ (k : Kept). AllIn (IsHeldSync ds heard) k.syncs) (sym same.1) knows.syncs_known;
          follows_known = subst (λ (k : Kept). AllIn (IsHeldFollow ds heard) k.follows) (sym same.1) knows.follows_known;
          completed = subst (λ (k : Kept). AllIn (IsOfPair ds) k.completions) (sym same.1) knows.completed;
        }

    -- what is held under a number
    sync_held : (number : ℕ) (sync : SyncValue) → first_value number (held_syncs setup history) ≡ Some sync
        → IsHeld is_sync ds (λ (flag : Bool). syncs flag heard) number sync.tag
    sync_held number sync found =
        let one = found_in (IsHeldSync ds heard) (held_syncs setup history) number sync
        (All-take (IsHeldSync ds heard) setup.capacities.syncs (all (kept setup history).syncs)
        (all-in (IsHeldSync ds heard) (kept setup history).syncs knows.syncs_known)) found in
        subst (λ (v : SyncValue). IsHeld is_sync ds (λ (flag : Bool). syncs flag heard) number v.tag) one.3
        (subst (λ (n : ℕ). IsHeld is_sync ds (λ (flag : Bool). syncs flag heard) n one.0.value.tag) one.2 one.1)

    follow_held : (number : ℕ) (follow : FollowValue) → first_value number (held_follows setup history) ≡ Some follow
        → IsHeld is_follow_up ds (λ (flag : Bool). follow_ups flag heard) number follow.tag
    follow_held number follow found =
        let one = found_in (IsHeldFollow ds heard) (held_follows setup history) number follow
        (All-take (IsHeldFollow ds heard) setup.capacities.follows (all (kept setup history).follows)
        (all-in (IsHeldFollow ds heard) (kept setup history).follows knows.follows_known)) found in
        subst (λ (v : FollowValue). IsHeld is_follow_up ds (λ (flag : Bool). follow_ups flag heard) number v.tag) one.3
        (subst (λ (n : ℕ). IsHeld is_follow_up ds (λ (flag : Bool). follow_ups flag heard) n one.0.value.tag) one.2
        one.1)

  -- a message that can be used is of the master
  of_master : (first : ℕ) (history : List Call) (header : Header) → present_master history ≡ Some w.master
      → Passes (criteria (setup_with w first) history) header → is_of w w.master header ≡ true
  of_master first history header follows passes =
      let masters : Some passes.master ≡ Some w.master = sym passes.present ∙ follows in
      let one : passes.master ≡ w.master = cc in
      let source : header.source ≡ w.master = passes.source ∙ one in
      and_from (header.domain == w.domain) (is_same_port header.source w.master)
      (eq-eqb header.domain w.domain passes.domain)
      (ap (λ (p : PortIdentity). is_same_port p w.master) source ∙ same_identity w.master)

  -- the last line says a message of a kind, and what is known of its number by the other kind is near
  pub record IsNear (ds : List Recorded) (d : Recorded) (m : Contents) (own others : Bool → List (Entry ℕ)) : Type 0 where
    pub known_now : is_of w w.master m.header ≡ true
        → IsKnown 0 m.header.sequence.0 d.time (own (is_unicast m.header))
    pub near : is_of w w.master m.header ≡ true → (time : ℕ)
        → known table_capacity m.header.sequence.0 (others (is_unicast m.header)) ≡ Some time
        → is_apart d.time time ≡ false

  module _ (ds : List Recorded) (d : Recorded) (below : All (λ (e : Recorded). e.line < d.line) ds) (m : Contents)
      (said : d.said ≡ Ok m) where
    -- it is held itself
    held-now : (kind : Body → Bool) (entries : Bool → List (Entry ℕ)) → kind m.body ≡ true
        → IsKnown 0 m.header.sequence.0 d.time (entries (is_unicast m.header))
        → IsHeld kind (d ∷ ds) entries m.header.sequence.0 d.line
    held-now kind entries kind_is known = record {
      d = d;
      m = m;
      there = at_line-now d ds;
      said = said;
      kind_is = kind_is;
      known = known-fewer 0 (heard_behind w d (d ∷ ds)) m.header.sequence.0 d.time (entries (is_unicast m.header))
          (omega arith) known;
    }

    -- one that is held of the other kind is near to it
    held-near : (kind other : Body → Bool) (entries : Bool → List (Entry ℕ)) (line : ℕ) → AreTwoKinds other kind
        → kind m.body ≡ true
        → ((time : ℕ) → known table_capacity m.header.sequence.0 (entries (is_unicast m.header)) ≡ Some time
        → is_apart d.time time ≡ false)
        → (held : IsHeld other (d ∷ ds) entries m.header.sequence.0 line)
        → flag_of d ≡ flag_of held.d → heard_between w held.d d (d ∷ ds) < table_capacity
        → is_apart d.time held.d.time ≡ false
    held-near kind other entries line apart kind_is near held flags few =
        let both : says_like w held.d.said d.said ≡ is_like w held.m m = λ i. says_like w (held.said i) (said i) in
        let unlike : says_like w held.d.said d.said ≡ false =
        both ∙ and_right (is_of w w.master m.header)
        (is_same_kind held.m.body m.body && beq (is_unicast held.m.header) (is_unicast m.header))
        (and_left (is_same_kind held.m.body m.body) (beq (is_unicast held.m.header) (is_unicast m.header))
        (apart held.m.body m.body held.kind_is kind_is)) in
        let all = behind-between w held.d d ds below unlike in
        let found = held.known table_capacity (omega (arith, all)) (omega arith) in
        let some : Some (is_unicast m.header) ≡ Some (is_unicast held.m.header) =
        sym (flag said) ∙ flags ∙ flag held.said in
        let one : is_unicast held.m.header ≡ is_unicast m.header = cc in
        near held.d.time
        (subst (λ (b : Bool). known table_capacity m.header.sequence.0 (entries b) ≡ Some held.d.time) one found)
      where
        flag : {r : Reading} {c : Contents} → r ≡ Ok c
            → option_map (λ (m : Contents). is_unicast m.header) (result_ok r) ≡ Some (is_unicast c.header)
        flag is = ap (λ (r : Reading). option_map (λ (m : Contents). is_unicast m.header) (result_ok r)) is

    module _ (heard : List Told) (first : ℕ) (history : List Call)
        (knows : Knows (d ∷ ds) heard (setup_with w first) history) where
      -- a Sync
      pub brings-sync : is_sync m.body ≡ true
          → IsNear ds d m (λ (flag : Bool). syncs flag heard) (λ (flag : Bool). follow_ups flag heard)
          → Brings (d ∷ ds) heard (setup_with w first) history (calls.Event (Ok m) d.time d.line)
      brings-sync kind_is near = record { sync = sync; follow = follow; completion = completion }
        where
          setup : Setup
          setup = setup_with w first

          call : Call
          call = calls.Event (Ok m) d.time d.line

          message : (h : HeardSync (criteria setup history) call) → (m ≡ h.m) × (d.line ≡ h.tag)
          message h =
              let same : calls.Event (Ok m) d.time d.line ≡ calls.Event (Ok h.m) h.t2 h.tag = h.call_is in
              (cc, cc)

          from_master : HeardSync (criteria setup history) call → is_of w w.master m.header ≡ true
          from_master h =
              ap (λ (m : Contents). is_of w w.master m.header) (message h).0
              ∙ of_master first history h.m.header knows.follows_master h.passes

          sync : (e : Entry SyncValue) → usable_two_step_sync setup history call ≡ Some e → IsHeldSync (d ∷ ds) heard e
          sync e is =
              let one = two_step_entry setup history call e is in
              let same = message one.h in
              let entries : Bool → List (Entry ℕ) = λ (flag : Bool). syncs flag heard in
              let held = held-now is_sync entries kind_is (near.known_now (from_master one.h)) in
              subst (λ (e : Entry SyncValue). IsHeldSync (d ∷ ds) heard e) (sym one.is)
              (subst (λ (m : Contents). IsHeld is_sync (d ∷ ds) entries m.header.sequence.0 one.h.tag) same.0
              (subst (λ (line : ℕ). IsHeld is_sync (d ∷ ds) entries m.header.sequence.0 line) same.1 held))

          follow : (e : Entry FollowValue) → usable_follow_up setup history call ≡ Some e → IsHeldFollow (d ∷ ds) heard e
          follow e is =
              let one = follow_entry setup history call e is in
              let other : calls.Event (Ok m) d.time d.line ≡ calls.General (Ok one.h.m) one.h.tag = one.h.call_is in
              cc

          completion : (c : SyncCompletion) → sync_completion setup history call ≡ Some c → IsOfPair (d ∷ ds) c
          completion c is line has = by (sync_completion_of setup history call c is).0
            where
              pair_of : (h : HeardSync (criteria setup history) call) (value : FollowValue)
                  → first_value h.m.header.sequence.0 (held_follows setup history) ≡ Some value
                  → IsPair (d ∷ ds) h.tag value.tag
              pair_of h value found =
                  let same = message h in
                  let entries : Bool → List (Entry ℕ) = λ (flag : Bool). follow_ups flag heard in
                  let held = follow_held (d ∷ ds) heard setup history knows m.header.sequence.0 value
                  (ap (λ (m : Contents). first_value m.header.sequence.0 (held_follows setup history)) same.0 ∙ found)
                  in
                  subst (λ (line : ℕ). IsPair (d ∷ ds) line value.tag) same.1 (record {
                    sync = d;
                    follow = held.d;
                    sync_there = at_line-now d ds;
                    follow_there = held.there;
                    near = λ flags few few_too.
                        held-near is_sync is_follow_up entries value.tag follow_up-no_sync kind_is
                        (near.near (from_master h)) held flags few_too;
                  })

              by : IsSyncCompletion setup history call c → IsPair (d ∷ ds) c.sync_tag line
              by (BySync h value flag found same) =
                  let tags : Some value.tag ≡ Some line = sym (ap (λ (c : SyncCompletion). c.follow_tag) same) ∙ has in
                  let tag : value.tag ≡ line = cc in
                  subst (λ (c : SyncCompletion). IsPair (d ∷ ds) c.sync_tag line) (sym same)
                  (subst (λ (line : ℕ). IsPair (d ∷ ds) h.tag line) tag (pair_of h value found))
              by (Alone h flag same) =
                  let none : None ≡ Some line = sym (ap (λ (c : SyncCompletion). c.follow_tag) same) ∙ has in cc
              by (ByFollowUp h value found same) =
                  let other : calls.Event (Ok m) d.time d.line ≡ calls.General (Ok h.m) h.tag = h.call_is in cc

      -- a Follow_Up
      pub brings-follow_up : is_follow_up m.body ≡ true
          → IsNear ds d m (λ (flag : Bool). follow_ups flag heard) (λ (flag : Bool). syncs flag heard)
          → Brings (d ∷ ds) heard (setup_with w first) history (calls.General (Ok m) d.line)
      brings-follow_up kind_is near = record { sync = sync; follow = follow; completion = completion }
        where
          setup : Setup
          setup = setup_with w first

          call : Call
          call = calls.General (Ok m) d.line

          message : (h : HeardFollowUp (criteria setup history) call) → (m ≡ h.m) × (d.line ≡ h.tag)
          message h =
              let same : calls.General (Ok m) d.line ≡ calls.General (Ok h.m) h.tag = h.call_is in
              (cc, cc)

          from_master : HeardFollowUp (criteria setup history) call → is_of w w.master m.header ≡ true
          from_master h =
              ap (λ (m : Contents). is_of w w.master m.header) (message h).0
              ∙ of_master first history h.m.header knows.follows_master h.passes

          sync : (e : Entry SyncValue) → usable_two_step_sync setup history call ≡ Some e → IsHeldSync (d ∷ ds) heard e
          sync e is =
              let one = two_step_entry setup history call e is in
              let other : calls.General (Ok m) d.line ≡ calls.Event (Ok one.h.m) one.h.t2 one.h.tag = one.h.call_is in
              cc

          follow : (e : Entry FollowValue) → usable_follow_up setup history call ≡ Some e → IsHeldFollow (d ∷ ds) heard e
          follow e is =
              let one = follow_entry setup history call e is in
              let same = message one.h in
              let entries : Bool → List (Entry ℕ) = λ (flag : Bool). follow_ups flag heard in
              let held = held-now is_follow_up entries kind_is (near.known_now (from_master one.h)) in
              subst (λ (e : Entry FollowValue). IsHeldFollow (d ∷ ds) heard e) (sym one.is)
              (subst (λ (m : Contents). IsHeld is_follow_up (d ∷ ds) entries m.header.sequence.0 one.h.tag) same.0
              (subst (λ (line : ℕ). IsHeld is_follow_up (d ∷ ds) entries m.header.sequence.0 line) same.1 held))

          completion : (c : SyncCompletion) → sync_completion setup history call ≡ Some c → IsOfPair (d ∷ ds) c
          completion c is line has = by (sync_completion_of setup history call c is).0
            where
              pair_of : (h : HeardFollowUp (criteria setup history) call) (value : SyncValue)
                  → first_value h.m.header.sequence.0 (held_syncs setup history) ≡ Some value
                  → IsPair (d ∷ ds) value.tag h.tag
              pair_of h value found =
                  let same = message h in
                  let entries : Bool → List (Entry ℕ) = λ (flag : Bool). syncs flag heard in
                  let held = sync_held (d ∷ ds) heard setup history knows m.header.sequence.0 value
                  (ap (λ (m : Contents). first_value m.header.sequence.0 (held_syncs setup history)) same.0 ∙ found)
                  in
                  subst (λ (line : ℕ). IsPair (d ∷ ds) value.tag line) same.1 (record {
                    sync = held.d;
                    follow = d;
                    sync_there = held.there;
                    follow_there = at_line-now d ds;
                    near = λ flags few few_too. apart-other d.time held.d.time
                        (held-near is_follow_up is_sync entries value.tag sync-no_follow_up kind_is
                        (near.near (from_master h)) held (sym flags) few);
                  })

              by : IsSyncCompletion setup history call c → IsPair (d ∷ ds) c.sync_tag line
              by (BySync h value flag found same) =
                  let other : calls.General (Ok m) d.line ≡ calls.Event (Ok h.m) h.t2 h.tag = h.call_is in cc
              by (Alone h flag same) =
                  let other : calls.General (Ok m) d.line ≡ calls.Event (Ok h.m) h.t2 h.tag = h.call_is in cc
              by (ByFollowUp h value found same) =
                  let tags : Some h.tag ≡ Some line = sym (ap (λ (c : SyncCompletion). c.follow_tag) same) ∙ has in
                  let tag : h.tag ≡ line = cc in
                  subst (λ (c : SyncCompletion). IsPair (d ∷ ds) c.sync_tag line) (sym same)
                  (subst (λ (line : ℕ). IsPair (d ∷ ds) value.tag line) tag (pair_of h value found))

      -- a Delay_Resp
      pub brings-response : is_follow_up m.body ≡ false
          → Brings (d ∷ ds) heard (setup_with w first) history (calls.General (Ok m) d.line)
      brings-response other_kind = record {
        sync = λ e is. let one = two_step_entry setup history call e is in no_sync one.h;
        follow = λ e is. let one = follow_entry setup history call e is in no_follow_up one.h;
        completion = λ c is line has. by (sync_completion_of setup history call c is).0;
      }
        where
          setup : Setup
          setup = setup_with w first

          call : Call
          call = calls.General (Ok m) d.line

          no_follow_up : {A : Type 0} → HeardFollowUp (criteria setup history) call → A
          no_follow_up h =
              let same : calls.General (Ok m) d.line ≡ calls.General (Ok h.m) h.tag = h.call_is in
              let one : m ≡ h.m = cc in
              let kind : is_follow_up m.body ≡ true = ap (λ (m : Contents). is_follow_up m.body) one
              ∙ ap is_follow_up h.body in
              cc

          no_sync : {A : Type 0} → HeardSync (criteria setup history) call → A
          no_sync h = let other : calls.General (Ok m) d.line ≡ calls.Event (Ok h.m) h.t2 h.tag = h.call_is in cc

          by : {A : Type 0} {c : SyncCompletion} → IsSyncCompletion setup history call c → A
          by (BySync h value flag found same) = no_sync h
          by (Alone h flag same) = no_sync h
          by (ByFollowUp h value found same) = no_follow_up h
