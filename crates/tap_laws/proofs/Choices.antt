-- What the tables of a choice hold, and the first Sync that was met at both taps.
use Rattle.std.proofs.Common.{◌≡◌, ◌∙◌, ◌<◌, ◌+◌, ℕ, zero, suc, refl, sym, ap, subst, arith, Bool, true, false, if◌then◌else◌, ◌&&◌, nat_eq, List, [], ◌∷◌, ◌++◌, take, Option, Some, None, option_map, find as first_passing}
use Rattle.std.specs.Prelude.{nat_lt, ◌==◌, is_some, count_by}
use Rattle.std.specs.Option.{option_or, option_map_or}
use Rattle.std.proofs.lemmas.Bool.{and_parts, false≢true}
use Rattle.std.proofs.lemmas.Bool.Decides.{nat_tests}
use Rattle.std.proofs.lemmas.List.Sums.{sum_by-cons}
use Rattle.event_codec.specs.declared.message.Body.{Body}
use Rattle.event_codec.specs.declared.message.Body.TheVariants as bodies
use Rattle.event_codec.specs.declared.message.Header.{Header}
use Rattle.event_codec.specs.declared.port.PortIdentity.{PortIdentity}
use Rattle.event_codec.specs.Port.{is_same_port}
use Rattle.pairing.specs.Marked.{Entry, Marked, entry, push, newest_first, first_value}
use Rattle.pairing.proofs.Laws.{newest_first-push}
use Rattle.pairing.proofs.Lists.{take-more, take-nil}
use Rattle.tap_choice.specs.declared.met.Met.{Met}
use Rattle.tap_choice.specs.declared.met.Side.{Side}
use Rattle.tap_choice.specs.declared.met.Side.TheVariants as taps
use Rattle.tap_choice.specs.declared.wanted.WantedTaps.{WantedTaps}
use Rattle.tap_choice.specs.Known.{Known, noticed_as, told_by, met_sync, with_sync, by_side, from_by, is_of, earlier_side, other_side, sync_domain, sync_master, syncs_at}
use Rattle.tap_laws.specs.Choice.{known_after, is_sync, is_wanted_domain, is_wanted_master, only_if, first_wanted, domain_told, master_told, TellsWhom, is_from, is_sync_of, is_of_master, is_same_side, is_sync_at, is_named_at, IsNewestAt, IsMetAtBoth, earlier_of, IsFirstOf, ChoosesWhereMetFirst, ChoosesOnceMetAtBoth}

-- what is known once a Sync was met, if it is the master's
abbrev kept_if : (capacity : ℕ) → Bool → Met → Known → Known
kept_if capacity is m k = if is then with_sync capacity m (record k { from = option_or k.from (from_by m k) }) else k

-- a Sync that is taken changes nothing of whom
pub met_keeps : (capacity : ℕ) (m : Met) (k : Known) → ((met_sync capacity m k).domain ≡ k.domain) × ((met_sync capacity m k).master ≡ k.master)
met_keeps capacity m k = at (is_of k m.header)
  where
    by : (side : Side) (k : Known) → ((by_side side capacity m k).domain ≡ k.domain) × ((by_side side capacity m k).master ≡ k.master)
    by taps.First k = (refl, refl)
    by taps.Second k = (refl, refl)

    at : (b : Bool) → ((kept_if capacity b m k).domain ≡ k.domain) × ((kept_if capacity b m k).master ≡ k.master)
    at true = by m.side (record k { from = option_or k.from (from_by m k) })
    at false = (refl, refl)

module _ (capacity : ℕ) (w : WantedTaps) where
  -- whom one more Sync tells: nobody new, where both are told
  domain_stays : (d : Option ℕ) (p : Option PortIdentity) (h : Header) → is_some d ≡ true → sync_domain d p h ≡ d
  domain_stays None p h some = absurd (false≢true some)
  domain_stays (Some d) p h some = refl

  master_stays : (d : Option ℕ) (p : Option PortIdentity) (h : Header) → is_some p ≡ true → sync_master d p h ≡ p
  master_stays d None h some = absurd (false≢true some)
  master_stays d (Some p) h some = refl

  abbrev Told : Option ℕ → Option PortIdentity → Option Met → Type 0
  Told d p first = (d ≡ option_or w.domain (option_map (λ m. m.header.domain) first)) × (p ≡ option_or w.master (option_map (λ m. m.header.source) first))

  told_sync : (m : Met) (d : Option ℕ) (p : Option PortIdentity) (first : Option Met) → Told d p first
      → Told (sync_domain d p m.header) (sync_master (sync_domain d p m.header) p m.header)
      (option_or first (only_if (is_wanted_domain w.domain m.header.domain && is_wanted_master w.master m.header.source) m))
  told_sync m d p (Some f) told =
      rw (told.0, told.1) (by w.domain w.master)
    where
      by : (wd : Option ℕ) (wp : Option PortIdentity)
          → (sync_domain (option_or wd (Some f.header.domain)) (option_or wp (Some f.header.source)) m.header ≡ option_or wd (Some f.header.domain))
          × (sync_master (sync_domain (option_or wd (Some f.header.domain)) (option_or wp (Some f.header.source)) m.header) (option_or wp (Some f.header.source)) m.header
          ≡ option_or wp (Some f.header.source))
      by None None = (refl, refl)
      by None (Some q) = (refl, refl)
      by (Some e) None = (refl, refl)
      by (Some e) (Some q) = (refl, refl)
  told_sync m d p None told = rw (told.0, told.1) (by w.domain w.master)
    where
      one : (q : PortIdentity) (b : Bool)
          → ((if b then Some m.header.domain else None) ≡ option_map (λ m. m.header.domain) (only_if b m)) × (Some q ≡ Some q)
      one q true = (refl, refl)
      one q false = (refl, refl)

      other : (e : ℕ) (b : Bool)
          → (Some e ≡ Some e) × ((if b then Some m.header.source else None) ≡ option_map (λ m. m.header.source) (only_if (b && true) m))
      other e true = (refl, refl)
      other e false = (refl, refl)

      by : (wd : Option ℕ) (wp : Option PortIdentity)
          → (sync_domain (option_or wd None) (option_or wp None) m.header
          ≡ option_or wd (option_map (λ m. m.header.domain) (only_if (is_wanted_domain wd m.header.domain && is_wanted_master wp m.header.source) m)))
          × (sync_master (sync_domain (option_or wd None) (option_or wp None) m.header) (option_or wp None) m.header
          ≡ option_or wp (option_map (λ m. m.header.source) (only_if (is_wanted_domain wd m.header.domain && is_wanted_master wp m.header.source) m)))
      by None None = (refl, grind (arith, nat_tests))
      by None (Some q) = one q (is_same_port m.header.source q)
      by (Some e) None = other e (m.header.domain == e)
      by (Some e) (Some q) = (refl, refl)

  told_as : (m : Met) (body : Body) (k : Known) (first : Option Met) → Told k.domain k.master first
      → Told (noticed_as body capacity m k).domain (noticed_as body capacity m k).master
      (option_or first (only_if (is_sync body && is_wanted_domain w.domain m.header.domain && is_wanted_master w.master m.header.source) m))
  told_as m (bodies.Sync origin) k first told =
      let kept = met_keeps capacity m (told_by m.header k) in
      let is = told_sync m k.domain k.master first told in
      (kept.0 ∙ is.0, kept.1 ∙ is.1)
  told_as m (bodies.DelayReq origin) k None told = told
  told_as m (bodies.DelayReq origin) k (Some f) told = told
  told_as m (bodies.FollowUp precise) k None told = told
  told_as m (bodies.FollowUp precise) k (Some f) told = told
  told_as m (bodies.DelayResp receive requesting) k None told = told
  told_as m (bodies.DelayResp receive requesting) k (Some f) told = told

pub tells_whom : TellsWhom
tells_whom capacity w [] = (sym (or_none w.domain), sym (or_none w.master))
  where
    or_none : {X : Type 0} (o : Option X) → option_or o None ≡ o
    or_none None = refl
    or_none (Some x) = refl
tells_whom capacity w (m ∷ earlier) = told_as capacity w m m.body (known_after capacity w earlier) (first_wanted w earlier) (tells_whom capacity w earlier)

-- what a choice keeps of the Syncs of one master: those of each tap under their numbers, the newest in front, and the first tap
module _ (capacity : ℕ) (of_master : Met → Bool) where
  abbrev entry_of : Met → Entry ℕ
  entry_of m = entry m.header.sequence.0 m.time

  abbrev pub entries_at : Side → List Met → List (Entry ℕ)
  entries_at side [] = []
  entries_at side (m ∷ earlier) = if is_sync_at of_master side m then entry_of m ∷ entries_at side earlier else entries_at side earlier

  -- when a Sync was met at a tap
  abbrev pub time_at : Side → (number : ℕ) → List Met → Option ℕ
  time_at side number met = first_value number (take capacity (entries_at side met))

  -- where one was met at both
  abbrev pub from_of : Met → List Met → Option Side
  from_of m earlier = option_map (earlier_side m.side m.time) (time_at (other_side m.side) m.header.sequence.0 earlier)

  abbrev pub from_in : List Met → Option Side
  from_in [] = None
  from_in (m ∷ earlier) = if of_master m then option_or (from_in earlier) (from_of m earlier) else from_in earlier

-- it is kept
pub record IsKept (capacity : ℕ) (k : Known) (from : Option Side) (firsts seconds : List (Entry ℕ)) : Type 0 where
  pub from_is : k.from ≡ from
  pub firsts_are : newest_first k.first_syncs ≡ take capacity firsts
  pub seconds_are : newest_first k.second_syncs ≡ take capacity seconds

module _ (capacity : ℕ) where
  table_pushed : (e : Entry ℕ) (table : Marked ℕ) (es : List (Entry ℕ)) → newest_first table ≡ take capacity es
      → newest_first (push capacity e table) ≡ take capacity (e ∷ es)
  table_pushed e table es held = newest_first-push capacity e table ∙ ap (λ l. take capacity (e ∷ l)) held ∙ take-more capacity e es

  abbrev with_entry : Bool → Met → List (Entry ℕ) → List (Entry ℕ)
  with_entry is m es = if is then entry m.header.sequence.0 m.time ∷ es else es

  kept_by : (side : Side) (m : Met) (k : Known) (from : Option Side) (firsts seconds : List (Entry ℕ)) → IsKept capacity k from firsts seconds
      → IsKept capacity (by_side side capacity m k) from (with_entry (is_same_side taps.First side) m firsts) (with_entry (is_same_side taps.Second side) m seconds)
  kept_by taps.First m k from firsts seconds kept = record {
    from_is = kept.from_is;
    firsts_are = table_pushed (entry m.header.sequence.0 m.time) k.first_syncs firsts kept.firsts_are;
    seconds_are = kept.seconds_are;
  }
  kept_by taps.Second m k from firsts seconds kept = record {
    from_is = kept.from_is;
    firsts_are = kept.firsts_are;
    seconds_are = table_pushed (entry m.header.sequence.0 m.time) k.second_syncs seconds kept.seconds_are;
  }

  -- the entries of a tap
  abbrev of_side : Side → (firsts seconds : List (Entry ℕ)) → List (Entry ℕ)
  of_side taps.First firsts seconds = firsts
  of_side taps.Second firsts seconds = seconds

  held_at : (side : Side) (k : Known) (from : Option Side) (firsts seconds : List (Entry ℕ)) → IsKept capacity k from firsts seconds
      → newest_first (syncs_at side k) ≡ take capacity (of_side side firsts seconds)
  held_at taps.First k from firsts seconds kept = kept.firsts_are
  held_at taps.Second k from firsts seconds kept = kept.seconds_are

  abbrev from_with : Met → Option Side → (firsts seconds : List (Entry ℕ)) → Option Side
  from_with m from firsts seconds =
      option_or from (option_map (earlier_side m.side m.time) (first_value m.header.sequence.0 (take capacity (of_side (other_side m.side) firsts seconds))))

  kept_with : (is : Bool) (m : Met) (k : Known) (from : Option Side) (firsts seconds : List (Entry ℕ)) → IsKept capacity k from firsts seconds
      → IsKept capacity (kept_if capacity is m k) (if is then from_with m from firsts seconds else from)
      (with_entry (is && is_same_side taps.First m.side) m firsts) (with_entry (is && is_same_side taps.Second m.side) m seconds)
  kept_with false m k from firsts seconds kept = kept
  kept_with true m k from firsts seconds kept =
      kept_by m.side m (record k { from = option_or k.from (from_by m k) }) (from_with m from firsts seconds) firsts seconds (record {
        from_is =
            ap (λ f. option_or f (from_by m k)) kept.from_is
            ∙ ap (λ l. option_or from (option_map (earlier_side m.side m.time) (first_value m.header.sequence.0 l)))
            (held_at (other_side m.side) k from firsts seconds kept);
        firsts_are = kept.firsts_are;
        seconds_are = kept.seconds_are;
      })

-- whom is known doesn't change
module _ (capacity : ℕ) (domain : Option ℕ) (master : Option PortIdentity) where
  abbrev Agrees : Known → Type 0
  Agrees k = (option_or k.domain domain ≡ domain) × (option_or k.master master ≡ master)

  agreed_domain : (d : Option ℕ) (p : Option PortIdentity) (h : Header) → option_or (sync_domain d p h) domain ≡ domain → option_or d domain ≡ domain
  agreed_domain None p h agrees = refl
  agreed_domain (Some d) p h agrees = agrees

  agreed_master : (d : Option ℕ) (p : Option PortIdentity) (h : Header) → option_or (sync_master d p h) master ≡ master → option_or p master ≡ master
  agreed_master d None h agrees = refl
  agreed_master d (Some p) h agrees = agrees

  agreed : (body : Body) (m : Met) (k : Known) → Agrees (noticed_as body capacity m k) → Agrees k
  agreed (bodies.Sync origin) m k agrees =
      let kept = met_keeps capacity m (told_by m.header k) in (
        agreed_domain k.domain k.master m.header (ap (λ d. option_or d domain) (sym kept.0) ∙ agrees.0),
        agreed_master (sync_domain k.domain k.master m.header) k.master m.header (ap (λ p. option_or p master) (sym kept.1) ∙ agrees.1),
      )
  agreed (bodies.DelayReq origin) m k agrees = agrees
  agreed (bodies.FollowUp precise) m k agrees = agrees
  agreed (bodies.DelayResp receive requesting) m k agrees = agrees

  and_false : (b : Bool) → b && false ≡ false
  and_false true = refl
  and_false false = refl

  by_domain : (e : ℕ) (h : Header) → Some e ≡ domain → option_or (if h.domain == e then Some h.source else None) master ≡ master
      → is_from (Some e) (if h.domain == e then Some h.source else None) h ≡ is_from domain master h
  by_domain e h domain_is master_is = at (h.domain == e) refl master_is
    where
      at : (b : Bool) → (h.domain == e) ≡ b → option_or (if b then Some h.source else None) master ≡ master
          → is_from (Some e) (if b then Some h.source else None) h ≡ is_from domain master h
      at true same is = rw (← domain_is, ← is) refl
      at false same is = rw (← domain_is, same) refl

  -- a Sync is the master's as far as is known, just where it is so by all
  is_agreed : (d : Option ℕ) (p : Option PortIdentity) (h : Header) → option_or (sync_domain d p h) domain ≡ domain
      → option_or (sync_master (sync_domain d p h) p h) master ≡ master
      → is_from (sync_domain d p h) (sync_master (sync_domain d p h) p h) h ≡ is_from domain master h
  is_agreed (Some e) (Some q) h domain_is master_is = rw (← domain_is, ← master_is) refl
  is_agreed None (Some q) h domain_is master_is = at (is_same_port h.source q) refl domain_is
    where
      at : (b : Bool) → is_same_port h.source q ≡ b → option_or (if b then Some h.domain else None) domain ≡ domain
          → is_from (if b then Some h.domain else None) (Some q) h ≡ is_from domain master h
      at true e is = rw (← is, ← master_is) refl
      at false e is = rw (← master_is, e) (sym (and_false (option_map_or (λ d. h.domain == d) domain false)))
  is_agreed (Some e) None h domain_is master_is = by_domain e h domain_is master_is
  is_agreed None None h domain_is master_is = by_domain h.domain h domain_is master_is

  -- the same of the entries of a tap
  sides : (f : Side → List (Entry ℕ)) (side : Side) → of_side capacity side (f taps.First) (f taps.Second) ≡ f side
  sides f taps.First = refl
  sides f taps.Second = refl

  kept_as : (body : Body) (m : Met) (k : Known) (from : Option Side) (firsts seconds : List (Entry ℕ)) → Agrees (noticed_as body capacity m k)
      → IsKept capacity k from firsts seconds
      → IsKept capacity (noticed_as body capacity m k)
      (if is_sync body && is_from domain master m.header then from_with capacity m from firsts seconds else from)
      (with_entry capacity ((is_sync body && is_from domain master m.header) && is_same_side taps.First m.side) m firsts)
      (with_entry capacity ((is_sync body && is_from domain master m.header) && is_same_side taps.Second m.side) m seconds)
  kept_as (bodies.Sync origin) m k from firsts seconds agrees kept =
      let same = met_keeps capacity m (told_by m.header k) in
      let is : is_of (told_by m.header k) m.header ≡ is_from domain master m.header =
      is_agreed k.domain k.master m.header (ap (λ d. option_or d domain) (sym same.0) ∙ agrees.0) (ap (λ p. option_or p master) (sym same.1) ∙ agrees.1) in
      subst (λ (b : Bool). IsKept capacity (met_sync capacity m (told_by m.header k)) (if b then from_with capacity m from firsts seconds else from)
      (with_entry capacity (b && is_same_side taps.First m.side) m firsts) (with_entry capacity (b && is_same_side taps.Second m.side) m seconds)) is
      (kept_with capacity (is_of (told_by m.header k) m.header) m (told_by m.header k) from firsts seconds
      (record { from_is = kept.from_is; firsts_are = kept.firsts_are; seconds_are = kept.seconds_are }))
  kept_as (bodies.DelayReq origin) m k from firsts seconds agrees kept = kept
  kept_as (bodies.FollowUp precise) m k from firsts seconds agrees kept = kept
  kept_as (bodies.DelayResp receive requesting) m k from firsts seconds agrees kept = kept

  abbrev of_it : Met → Bool
  of_it m = is_sync_of domain master m

  -- what is kept after messages
  pub kept_after : (w : WantedTaps) (met : List Met) → w.from ≡ None → w.to ≡ None → Agrees (known_after capacity w met)
      → IsKept capacity (known_after capacity w met) (from_in capacity of_it met) (entries_at capacity of_it taps.First met) (entries_at capacity of_it taps.Second met)
  kept_after w [] from_none to_none agrees = record {
    from_is = rw (from_none, to_none) refl;
    firsts_are = sym (take-nil capacity);
    seconds_are = sym (take-nil capacity);
  }
  kept_after w (m ∷ earlier) from_none to_none agrees =
      let before = kept_after w earlier from_none to_none (agreed m.body m (known_after capacity w earlier) agrees) in
      let now = kept_as m.body m (known_after capacity w earlier) (from_in capacity of_it earlier) (entries_at capacity of_it taps.First earlier) (entries_at capacity of_it taps.Second earlier) agrees before in
      record {
        from_is =
            now.from_is
            ∙ ap (λ es. if of_it m then option_or (from_in capacity of_it earlier)
            (option_map (earlier_side m.side m.time) (first_value m.header.sequence.0 (take capacity es))) else from_in capacity of_it earlier)
            (sides (λ side. entries_at capacity of_it side earlier) (other_side m.side));
        firsts_are = now.firsts_are;
        seconds_are = now.seconds_are;
      }

-- one more, if it is such
counted_yes : {X : Type 0} (p : X → Bool) (x : X) (xs : List X) → p x ≡ true → count_by p (x ∷ xs) ≡ 1 + count_by p xs
counted_yes p x xs is = sum_by-cons (λ x. if p x then 1 else 0) x xs ∙ ap (λ b. (if b then 1 else 0) + count_by p xs) is

counted_no : {X : Type 0} (p : X → Bool) (x : X) (xs : List X) → p x ≡ false → count_by p (x ∷ xs) ≡ count_by p xs
counted_no p x xs is = sum_by-cons (λ x. if p x then 1 else 0) x xs ∙ ap (λ b. (if b then 1 else 0) + count_by p xs) is ∙ (let n : 0 + count_by p xs ≡ count_by p xs = omega arith in n)

-- the newest Sync of a number at a tap, by its time
pub record Found (capacity : ℕ) (of_master : Met → Bool) (side : Side) (number : ℕ) (met : List Met) (time : ℕ) : Type 0 where
  pub sync : Met
  pub newest : IsNewestAt capacity of_master side number met sync
  pub time_is : sync.time ≡ time

module _ (of_master : Met → Bool) (side : Side) (number : ℕ) where
  past_it : (capacity time : ℕ) (m : Met) (met : List Met) → is_sync_at of_master side m ≡ true → nat_eq m.header.sequence.0 number ≡ false
      → Found capacity of_master side number met time → Found (suc capacity) of_master side number (m ∷ met) time
  past_it capacity time m met there other found = record {
    sync = found.sync;
    newest = record {
      since = m ∷ found.newest.since;
      before = found.newest.before;
      parts = ap (λ ms. m ∷ ms) found.newest.parts;
      is_named = found.newest.is_named;
      newest = counted_no (is_named_at of_master side number) m found.newest.since (rw (there, other) refl) ∙ found.newest.newest;
      within = rw (counted_yes (is_sync_at of_master side) m found.newest.since there) (let n = found.newest.within in omega (arith, n));
    };
    time_is = found.time_is;
  }

  past_other : (capacity time : ℕ) (m : Met) (met : List Met) → is_sync_at of_master side m ≡ false
      → Found capacity of_master side number met time → Found capacity of_master side number (m ∷ met) time
  past_other capacity time m met there found = record {
    sync = found.sync;
    newest = record {
      since = m ∷ found.newest.since;
      before = found.newest.before;
      parts = ap (λ ms. m ∷ ms) found.newest.parts;
      is_named = found.newest.is_named;
      newest = counted_no (is_named_at of_master side number) m found.newest.since (rw there refl) ∙ found.newest.newest;
      within = rw (counted_no (is_sync_at of_master side) m found.newest.since there) found.newest.within;
    };
    time_is = found.time_is;
  }

  find_in : (capacity time : ℕ) (m : Met) (met : List Met) → time_at (suc capacity) of_master side number (m ∷ met) ≡ Some time
      → (time_at capacity of_master side number met ≡ Some time → Found capacity of_master side number met time)
      → (time_at (suc capacity) of_master side number met ≡ Some time → Found (suc capacity) of_master side number met time)
      → Found (suc capacity) of_master side number (m ∷ met) time
  find_in capacity time m met is at_it at_other = at (is_sync_at of_master side m) refl is
    where
      named : (b : Bool) → is_sync_at of_master side m ≡ true → nat_eq m.header.sequence.0 number ≡ b
          → option_map (λ e. e.value) (if b then Some (entry m.header.sequence.0 m.time) else first_passing (λ e. nat_eq e.number number) (take capacity (entries_at capacity of_master side met))) ≡ Some time
          → Found (suc capacity) of_master side number (m ∷ met) time
      named true there same is = record {
        sync = m;
        newest = record { since = []; before = met; parts = refl; is_named = rw (there, same) refl; newest = refl; within = omega arith };
        time_is = cc;
      }
      named false there other is = past_it capacity time m met there other (at_it is)

      at : (b : Bool) → is_sync_at of_master side m ≡ b
          → first_value number (take (suc capacity) (if b then entry m.header.sequence.0 m.time ∷ entries_at capacity of_master side met else entries_at capacity of_master side met)) ≡ Some time
          → Found (suc capacity) of_master side number (m ∷ met) time
      at true there is = named (nat_eq m.header.sequence.0 number) there refl is
      at false there is = past_other (suc capacity) time m met there (at_other is)

  pub found : (capacity time : ℕ) (met : List Met) → time_at capacity of_master side number met ≡ Some time → Found capacity of_master side number met time
  found zero time [] is = cc
  found (suc capacity) time [] is = cc
  found zero time (m ∷ met) is = cc
  found (suc capacity) time (m ∷ met) is = find_in capacity time m met is (found capacity time met) (found (suc capacity) time met)

  abbrev IsThere : (capacity : ℕ) (since before : List Met) (sync : Met) → Type 0
  IsThere capacity since before sync = time_at capacity of_master side number (since ++ sync ∷ before) ≡ Some sync.time

  abbrev are_named : List Met → ℕ
  are_named since = count_by (is_named_at of_master side number) since

  abbrev are_there : List Met → ℕ
  are_there since = count_by (is_sync_at of_master side) since

  past : (capacity : ℕ) (m : Met) (since before : List Met) (sync : Met) → are_named (m ∷ since) ≡ 0 → are_there (m ∷ since) < suc capacity
      → (are_named since ≡ 0 → are_there since < capacity → IsThere capacity since before sync)
      → (are_named since ≡ 0 → are_there since < suc capacity → IsThere (suc capacity) since before sync)
      → IsThere (suc capacity) (m ∷ since) before sync
  past capacity m since before sync none within at_it at_other = at (is_sync_at of_master side m) refl
    where
      named : (b : Bool) → is_sync_at of_master side m ≡ true → nat_eq m.header.sequence.0 number ≡ b
          → option_map (λ e. e.value) (if b then Some (entry m.header.sequence.0 m.time)
          else first_passing (λ e. nat_eq e.number number) (take capacity (entries_at capacity of_master side (since ++ sync ∷ before)))) ≡ Some sync.time
      named true there same =
          absurd (let n = counted_yes (is_named_at of_master side number) m since (rw (there, same) refl) in omega (arith, n, none))
      named false there other =
          at_it (sym (counted_no (is_named_at of_master side number) m since (rw (there, other) refl)) ∙ none)
          (let n = counted_yes (is_sync_at of_master side) m since there in omega (arith, n, within))

      at : (b : Bool) → is_sync_at of_master side m ≡ b
          → first_value number (take (suc capacity) (if b then entry m.header.sequence.0 m.time ∷ entries_at capacity of_master side (since ++ sync ∷ before)
          else entries_at capacity of_master side (since ++ sync ∷ before))) ≡ Some sync.time
      at true there = named (nat_eq m.header.sequence.0 number) there refl
      at false there =
          at_other (sym (counted_no (is_named_at of_master side number) m since (rw there refl)) ∙ none)
          (let n = counted_no (is_sync_at of_master side) m since there in omega (arith, n, within))

  pub only : (capacity : ℕ) (since before : List Met) (sync : Met) → is_named_at of_master side number sync ≡ true
      → count_by (is_named_at of_master side number) since ≡ 0 → count_by (is_sync_at of_master side) since < capacity
      → time_at capacity of_master side number (since ++ sync ∷ before) ≡ Some sync.time
  only zero since before sync named none within = absurd (omega (arith, within))
  only (suc capacity) [] before sync named none within =
      let both = and_parts (is_sync_at of_master side sync) (nat_eq sync.header.sequence.0 number) named in
      rw both.0 (rw both.1 refl)
  only (suc capacity) (m ∷ since) before sync named none within =
      past capacity m since before sync none within (only capacity since before sync named) (only (suc capacity) since before sync named)

module _ (capacity : ℕ) (of_master : Met → Bool) where
  same_side : (a b : Side) → is_same_side a b ≡ true → b ≡ a
  same_side taps.First taps.First is = refl
  same_side taps.First taps.Second is = absurd (false≢true is)
  same_side taps.Second taps.First is = absurd (false≢true is)
  same_side taps.Second taps.Second is = refl

  -- the other one was met at the other tap
  at_other_side : (side : Side) (number : ℕ) (met : List Met) (other : Met) → IsNewestAt capacity of_master side number met other → other.side ≡ side
  at_other_side side number met other newest =
      let named = and_parts (is_sync_at of_master side other) (nat_eq other.header.sequence.0 number) newest.is_named in
      same_side side other.side (and_parts (of_master other) (is_same_side side other.side) named.0).1

  -- when it was met
  time_there : (side : Side) (number : ℕ) (met : List Met) (other : Met) → IsNewestAt capacity of_master side number met other
      → time_at capacity of_master side number met ≡ Some other.time
  time_there side number met other newest =
      ap (time_at capacity of_master side number) newest.parts
      ∙ only of_master side number capacity newest.since newest.before other newest.is_named newest.newest newest.within

  abbrev from_here : List Met → Option Side
  from_here met = from_in capacity of_master met

  -- once it is known it stays
  stays : (later met : List Met) (from : Side) → from_here met ≡ Some from → from_here (later ++ met) ≡ Some from
  stays [] met from is = is
  stays (m ∷ later) met from is = at (of_master m) (from_here (later ++ met)) (stays later met from is)
    where
      at : (b : Bool) (o : Option Side) → o ≡ Some from → (if b then option_or o (from_of capacity of_master m (later ++ met)) else o) ≡ Some from
      at true o is = rw is refl
      at false o is = is

  -- the Sync that was met at both tells it, where it wasn't known
  told_here : (met : List Met) (sync other : Met) → (both : IsMetAtBoth capacity of_master met sync other)
      → from_here (sync ∷ both.earlier) ≡ option_or (from_here both.earlier) (Some (earlier_side sync.side sync.time other.time))
  told_here met sync other both =
      rw both.of_master_is (ap (λ t. option_or (from_here both.earlier) (option_map (earlier_side sync.side sync.time) t))
      (time_there (other_side sync.side) sync.header.sequence.0 both.earlier other both.before))

  pub some_once : (met : List Met) (sync other : Met) → IsMetAtBoth capacity of_master met sync other → (side : Side) × (from_here met ≡ Some side)
  some_once met sync other both = at (from_here both.earlier) refl
    where
      at : (o : Option Side) → from_here both.earlier ≡ o → (side : Side) × (from_here met ≡ Some side)
      at None is =
          let e = earlier_side sync.side sync.time other.time in
          (e, ap from_here both.parts ∙ stays both.later (sync ∷ both.earlier) e (told_here met sync other both ∙ ap (λ o. option_or o (Some e)) is))
      at (Some f) is = (
        f,
        ap from_here both.parts ∙ stays both.later (sync ∷ both.earlier) f
            (told_here met sync other both ∙ ap (λ o. option_or o (Some (earlier_side sync.side sync.time other.time))) is),
      )

  -- one more message changes nothing of what came before
  later_too : (m : Met) (met : List Met) (from : Side) → IsFirstOf capacity of_master met from → IsFirstOf capacity of_master (m ∷ met) from
  later_too m met from is = record {
    sync = is.sync;
    other = is.other;
    is_first = record {
      at_both = record {
        later = m ∷ is.is_first.at_both.later;
        earlier = is.is_first.at_both.earlier;
        parts = ap (λ ms. m ∷ ms) is.is_first.at_both.parts;
        of_master_is = is.is_first.at_both.of_master_is;
        before = is.is_first.at_both.before;
      };
      first = is.is_first.first;
    };
    from_is = is.from_is;
  }

  earlier_is : (sync other : Met) → other.side ≡ other_side sync.side → earlier_side sync.side sync.time other.time ≡ earlier_of sync other
  earlier_is sync other is = ap (λ o. if nat_lt sync.time other.time then sync.side else o) (sym is)

  -- a message that is the first at both
  first_here : (m : Met) (met : List Met) (from : Side) (time : ℕ) → of_master m ≡ true → from_here met ≡ None
      → Found capacity of_master (other_side m.side) m.header.sequence.0 met time → Some (earlier_side m.side m.time time) ≡ Some from
      → IsFirstOf capacity of_master (m ∷ met) from
  first_here m met from time mine none found is = record {
    sync = m;
    other = found.sync;
    is_first = record {
      at_both = record { later = []; earlier = met; parts = refl; of_master_is = mine; before = found.newest };
      first = λ s o both. let some = some_once met s o both in absurd (let is : None ≡ Some some.0 = sym none ∙ some.1 in cc);
    };
    from_is =
        let same : earlier_side m.side m.time time ≡ from = cc in
        sym same ∙ ap (earlier_side m.side m.time) (sym found.time_is)
        ∙ earlier_is m found.sync (at_other_side (other_side m.side) m.header.sequence.0 met found.sync found.newest);
  }

  pub first_of : (met : List Met) (from : Side) → from_here met ≡ Some from → IsFirstOf capacity of_master met from
  first_of [] from is = absurd (let e : None ≡ Some from = is in cc)
  first_of (m ∷ met) from is = by m met from is (first_of met from)
    where
      at_time : (m : Met) (met : List Met) (from : Side) → of_master m ≡ true → from_here met ≡ None
          → (t : Option ℕ) → time_at capacity of_master (other_side m.side) m.header.sequence.0 met ≡ t
          → option_map (earlier_side m.side m.time) t ≡ Some from → IsFirstOf capacity of_master (m ∷ met) from
      at_time m met from mine none None t_is is = absurd (let e : None ≡ Some from = is in cc)
      at_time m met from mine none (Some t) t_is is =
          first_here m met from t mine none (found of_master (other_side m.side) m.header.sequence.0 capacity t met t_is) is

      at_from : (m : Met) (met : List Met) (from : Side) → of_master m ≡ true → (o : Option Side) → from_here met ≡ o
          → option_or o (from_of capacity of_master m met) ≡ Some from → (from_here met ≡ Some from → IsFirstOf capacity of_master met from)
          → IsFirstOf capacity of_master (m ∷ met) from
      at_from m met from mine None none is before = at_time m met from mine none (time_at capacity of_master (other_side m.side) m.header.sequence.0 met) refl is
      at_from m met from mine (Some f) some is before = later_too m met from (before (some ∙ is))

      by : (m : Met) (met : List Met) (from : Side) → from_here (m ∷ met) ≡ Some from → (from_here met ≡ Some from → IsFirstOf capacity of_master met from)
          → IsFirstOf capacity of_master (m ∷ met) from
      by m met from is before = at (of_master m) refl is
        where
          at : (b : Bool) → of_master m ≡ b → (if b then option_or (from_here met) (from_of capacity of_master m met) else from_here met) ≡ Some from
              → IsFirstOf capacity of_master (m ∷ met) from
          at true mine is = at_from m met from mine (from_here met) refl is before
          at false other is = later_too m met from (before is)

  pub from_first : (met : List Met) (from : Side) → IsFirstOf capacity of_master met from → from_here met ≡ Some from
  from_first met from is = at (from_here is.is_first.at_both.earlier) refl
    where
      at : (o : Option Side) → from_here is.is_first.at_both.earlier ≡ o → from_here met ≡ Some from
      at (Some f) some =
          let before = first_of is.is_first.at_both.earlier f some in
          absurd (is.is_first.first before.sync before.other before.is_first.at_both)
      at None none =
          ap from_here is.is_first.at_both.parts
          ∙ stays is.is_first.at_both.later (is.sync ∷ is.is_first.at_both.earlier) from
          (told_here met is.sync is.other is.is_first.at_both
          ∙ ap (λ o. option_or o (Some (earlier_side is.sync.side is.sync.time is.other.time))) none
          ∙ ap Some (earlier_is is.sync is.other (at_other_side (other_side is.sync.side) is.sync.header.sequence.0 is.is_first.at_both.earlier is.other is.is_first.at_both.before)
          ∙ sym is.from_is))

-- what is known agrees with what was told
agrees_with : (capacity : ℕ) (w : WantedTaps) (met : List Met) → Agrees capacity (domain_told w met) (master_told w met) (known_after capacity w met)
agrees_with capacity w met =
    let told = tells_whom capacity w met in
    (ap (λ d. option_or d (domain_told w met)) told.0 ∙ twice (domain_told w met), ap (λ p. option_or p (master_told w met)) told.1 ∙ twice (master_told w met))
  where
    twice : {X : Type 0} (o : Option X) → option_or o o ≡ o
    twice None = refl
    twice (Some x) = refl

from_known : (capacity : ℕ) (w : WantedTaps) (met : List Met) → w.from ≡ None → w.to ≡ None
    → (known_after capacity w met).from ≡ from_in capacity (is_of_master w met) met
from_known capacity w met from_none to_none =
    (kept_after capacity (domain_told w met) (master_told w met) w met from_none to_none (agrees_with capacity w met)).from_is

pub chooses_first : ChoosesWhereMetFirst
chooses_first capacity w met from from_none to_none =
    let known = from_known capacity w met from_none to_none in
    (λ is. first_of capacity (is_of_master w met) met from (sym known ∙ is), λ is. known ∙ from_first capacity (is_of_master w met) met from is)

pub chooses_once : ChoosesOnceMetAtBoth
chooses_once capacity w met from_none to_none sync other both =
    let some = some_once capacity (is_of_master w met) met sync other both in
    ap is_some (from_known capacity w met from_none to_none ∙ some.1)
