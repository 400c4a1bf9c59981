-- A watch that noticed a datagram knows what that one and those before it tell.
use Rattle.std.proofs.Common.{◌≡◌, ◌∙◌, ℕ, ◌<◌, Bool, List, [], ◌∷◌, length, replicate, slice_get, Option, Some, None}
use Rattle.std.proofs.Common.{option_and_then, refl, sym, ap, arith}
use Rattle.std.specs.Prelude.{IfSome, Ok, Err, false, option_map, if◌then◌else◌}
use Rattle.std.specs.Option.{option_or, option_map_or}
use Rattle.std.proofs.lemmas.List.{length-replicate, get_or-replicate}
use Rattle.std.proofs.lemmas.Option.{slice_get-get_or}
use Rattle.ptp_units.specs.declared.timestamp.Timestamp.{Timestamp}
use Rattle.event_codec.specs.declared.message.Header.{Header}
use Rattle.event_codec.specs.declared.message.Body.{Body}
use Rattle.event_codec.specs.declared.message.Body.TheVariants.{Sync, DelayReq}
use Rattle.event_codec.specs.declared.port.PortIdentity.{PortIdentity}
use Rattle.event_codec.specs.declared.refusal.DecodeRefusal.{DecodeRefusal}
use Rattle.event_codec.specs.Packet.{Contents}
use Rattle.recording_model.specs.declared.watched.Watched.{Watched}
use Rattle.recording_model.specs.Recorded.{Recorded}
use Rattle.recording_model.specs.Told.{is_sync}
use Rattle.recording_summary.specs.declared.whom.Known.{Known}
use Rattle.recording_measure.specs.declared.watch.WantedPorts.{WantedPorts}
use Rattle.recording_measure.specs.declared.watch.Watch.{Watch}
use Rattle.recording_measure.specs.Watch.{is_request, header_in, first_told, source_in, source_told, domain_from}
use Rattle.recording_measure.specs.Watch.{domain_told, domain_in, port_in, watched_by, watched_in}
use Rattle.recording_measure.specs.Summary.{known_at, told_at, asked_for, known_domain, known_port, whom_in}
use Rattle.recording_measure.specs.Inner.Watching.{value_of, request_known, whom_of, KnowsWhom, IsWatch, Notices}
use Rattle.recording_measure.proofs.Bodies.{IsGeneral, is_no_sync, is_no_request}
use Rattle.recording_measure.proofs.Told.{or-none, or-assoc, or-again, neither, header_by, header_said, no_header, no_syncs, domain_with}

-- ---- what is known, without the lines that told it
value_of-or : {T : Type 0} (a b : Option (Known T)) → value_of (option_or a b) ≡ option_or (value_of a) (value_of b)
value_of-or None b = refl
value_of-or (Some known) b = refl

value_at : {T : Type 0} (line : ℕ) (told : Option T) → value_of (known_at line told) ≡ told
value_at line None = refl
value_at line (Some x) = refl

value_asked : {T : Type 0} (asked : Option T) → value_of (asked_for asked) ≡ asked
value_asked None = refl
value_asked (Some x) = refl

value_first : {T : Type 0} (tells : Recorded → Option T) (ds : List Recorded)
    → value_of (first_told (told_at tells) ds) ≡ first_told tells ds
value_first tells [] = refl
value_first tells (d ∷ earlier) =
    value_of-or (first_told (told_at tells) earlier) (told_at tells d)
    ∙ (λ i. option_or (value_first tells earlier i) (value_at d.line (tells d) i))

value_domain : (w : WantedPorts) (ds : List Recorded) → value_of (known_domain w ds) ≡ domain_in w ds
value_domain w ds =
    value_of-or (asked_for w.domain) (first_told (told_at (domain_told w.master)) ds)
    ∙ (λ i. option_or (value_asked w.domain i) (value_first (domain_told w.master) ds i))

value_port : (kind : Body → Bool) (asked : Option PortIdentity) (domain : Option ℕ) (ds : List Recorded)
    → value_of (known_port kind asked domain ds) ≡ port_in kind asked domain ds
value_port kind asked None ds = value_of-or (asked_for asked) None ∙ ap (λ a. option_or a None) (value_asked asked)
value_port kind asked (Some known) ds =
    value_of-or (asked_for asked) (first_told (told_at (source_told kind known)) ds)
    ∙ (λ i. option_or (value_asked asked i) (value_first (source_told kind known) ds i))

value_there : {T : Type 0} (o : Option (Option (Known T)))
    → option_and_then value_of o ≡ value_of (option_and_then (λ known. known) o)
value_there None = refl
value_there (Some known) = refl

no_value : {T : Type 0} (o : Option (Known T)) → value_of o ≡ None → o ≡ None
no_value None none = refl
no_value (Some known) none = absurd cc

-- a watch that knows the lines knows what they told
pub IsWatch-knows : (w : WantedPorts) (ds : List Recorded) (watch : Watch) → KnowsWhom w ds watch → IsWatch w ds watch
IsWatch-knows w ds watch knows = record {
  domain = ap value_of knows.domain ∙ value_domain w ds;
  master = ap value_of knows.master ∙ value_port is_sync w.master (domain_in w ds) ds;
  slave = ap value_of knows.slave ∙ value_port is_request w.slave (domain_in w ds) ds;
  requests = λ domain few. value_there (slice_get watch.requests domain) ∙ ap value_of (knows.requests domain few)
      ∙ value_first (source_told is_request domain) ds;
  whom = knows;
}

pub whom_known : (w : WantedPorts) (ds : List Recorded) (watch : Watch) → IsWatch w ds watch → whom_of watch ≡ whom_in w ds
whom_known w ds watch is =
    λ i. record { domain = is.whom.domain i; master = is.whom.master i; slave = is.whom.slave i }

-- where nothing is told of any domain
pub nothing_in : (domain : ℕ) → domain < 256
    → option_and_then (λ known. known) (slice_get (replicate {A = Option (Known PortIdentity)} 256 None) domain) ≡ None
nothing_in domain few =
    let none : Option (Known PortIdentity) = None in
    let within : domain < length (replicate 256 none) = omega (arith, length-replicate 256 none) in
    ap (option_and_then (λ known. known)) (slice_get-get_or (replicate 256 none) domain none within)
    ∙ get_or-replicate 256 domain none none few

-- functions that agree on a number that is there and below 256
then_same : {T : Type 0} (f g : ℕ → Option T) (o : Option ℕ) → ((n : ℕ) → n < 256 → f n ≡ g n)
    → IfSome o (λ n. n < 256) → option_and_then f o ≡ option_and_then g o
then_same f g None same small = refl
then_same f g (Some n) same small = same n small

-- ---- one more datagram
-- where no Sync told its domain none told its source
no_source : (known : ℕ) (ds : List Recorded) → first_told (domain_told None) ds ≡ None
    → first_told (told_at (source_told is_sync known)) ds ≡ None
no_source known ds none =
    no_value (first_told (told_at (source_told is_sync known)) ds) (value_first (source_told is_sync known) ds ∙ no_syncs known ds none)

first_source : (d : Recorded) (ds : List Recorded) (domain : Option ℕ) → first_told (domain_told None) ds ≡ None
    → option_and_then (λ known. told_at (source_told is_sync known) d) domain
    ≡ option_and_then (λ known. first_told (told_at (source_told is_sync known)) (d ∷ ds)) domain
first_source d ds None none = refl
first_source d ds (Some known) none =
    ap (λ o. option_or o (told_at (source_told is_sync known) d)) (sym (no_source known ds none))

module _ (d : Recorded) (ds : List Recorded) where
  known_domain_with : (w : WantedPorts)
      → known_domain w (d ∷ ds) ≡ option_or (known_domain w ds) (told_at (domain_told w.master) d)
  known_domain_with w =
      sym (or-assoc (asked_for w.domain) (first_told (told_at (domain_told w.master)) ds) (told_at (domain_told w.master) d))

  domain_after : (master : Option PortIdentity) (domain : Option (Known ℕ))
      → option_or domain (told_at (domain_told (port_in is_sync master (value_of domain) ds)) d)
      ≡ option_or domain (told_at (domain_told master) d)
  domain_after master None = ap (λ m. told_at (domain_told m) d) (or-none master)
  domain_after master (Some known) = refl

  master_after : (master : Option PortIdentity) (domain : Option ℕ)
      → (domain ≡ None → first_told (domain_told master) ds ≡ None)
      → let all = option_or domain (domain_told master d) in
      option_or (known_port is_sync master domain ds) (option_and_then (λ known. told_at (source_told is_sync known) d) all)
      ≡ known_port is_sync master all (d ∷ ds)
  master_after master (Some known) none =
      or-assoc (asked_for master) (first_told (told_at (source_told is_sync known)) ds) (told_at (source_told is_sync known) d)
  master_after (Some m) None none = refl
  master_after None None none = first_source d ds (domain_told None d) (none refl)

  slave_after : (slave : Option PortIdentity) (domain told : Option ℕ)
      → let requests : ℕ → Option (Known PortIdentity) = λ known. first_told (told_at (source_told is_request known)) (d ∷ ds) in
      option_or (known_port is_request slave domain ds) (option_and_then requests (option_or domain told))
      ≡ known_port is_request slave (option_or domain told) (d ∷ ds)
  slave_after slave (Some known) told =
      or-again (asked_for slave) (first_told (told_at (source_told is_request known)) ds) (told_at (source_told is_request known) d)
  slave_after slave None told =
      let requests : ℕ → Option (Known PortIdentity) = λ known. first_told (told_at (source_told is_request known)) (d ∷ ds) in
      ap (λ s. option_or s (option_and_then requests told)) (or-none (asked_for slave))

  -- a datagram that is no message of a kind tells no port
  port_untold : (kind : Body → Bool) (asked : Option PortIdentity) (domain : Option ℕ) → header_in kind d ≡ None
      → known_port kind asked domain ds ≡ known_port kind asked domain (d ∷ ds)
  port_untold kind asked None none = refl
  port_untold kind asked (Some known) none =
      let first : Option (Known PortIdentity) = first_told (told_at (source_told kind known)) ds in
      ap (option_or (asked_for asked))
      (sym (or-none first) ∙ ap (λ m. option_or first (known_at d.line (option_and_then (source_in known) m))) (sym none))

  domain_untold : (w : WantedPorts) → header_in is_sync d ≡ None → known_domain w ds ≡ known_domain w (d ∷ ds)
  domain_untold w none =
      let first : Option (Known ℕ) = first_told (told_at (domain_told w.master)) ds in
      ap (option_or (asked_for w.domain))
      (sym (or-none first) ∙ ap (λ m. option_or first (known_at d.line (option_and_then (domain_from w.master) m))) (sym none))

-- what a datagram tells was noticed
pub IsWatch-notices : (w : WantedPorts) (d : Recorded) (ds : List Recorded) (old new : Watch)
    → IfSome (value_of new.domain) (λ domain. domain < 256) → IsWatch w ds old → Notices d old new
    → IsWatch w (d ∷ ds) new
IsWatch-notices w d ds old new small is notices =
    let told : option_or (domain_in w ds) (domain_told w.master d) ≡ domain_in w (d ∷ ds) = sym (domain_with d ds w) in
    let domain : new.domain ≡ known_domain w (d ∷ ds) =
    notices.domain
    ∙ ap (λ m. option_or old.domain (told_at (domain_told m) d)) is.master
    ∙ ap (λ o. option_or old.domain (told_at (domain_told (port_in is_sync w.master o ds)) d)) (sym is.domain)
    ∙ domain_after d ds w.master old.domain
    ∙ ap (λ o. option_or o (told_at (domain_told w.master) d)) is.whom.domain
    ∙ sym (known_domain_with d ds w) in
    let value : value_of new.domain ≡ option_or (domain_in w ds) (domain_told w.master d) =
    ap value_of domain ∙ value_domain w (d ∷ ds) ∙ domain_with d ds w in
    let first : ℕ → Option (Known PortIdentity) = λ known. first_told (told_at (source_told is_request known)) (d ∷ ds) in
    let requests : (known : ℕ) → known < 256 → request_known new known ≡ first known =
    λ known few. notices.requests known few
    ∙ ap (λ o. option_or o (told_at (source_told is_request known) d)) (is.whom.requests known few) in
    IsWatch-knows w (d ∷ ds) new (record {
      domain = domain;
      master = notices.master
          ∙ (λ i. option_or (is.whom.master i) (option_and_then (λ known. told_at (source_told is_sync known) d) (value i)))
          ∙ master_after d ds w.master (domain_in w ds)
          (λ none. (neither w.domain (first_told (domain_told w.master) ds) none).1)
          ∙ ap (λ o. known_port is_sync w.master o (d ∷ ds)) told;
      requests = requests;
      slave = notices.slave
          ∙ ap (option_or old.slave) (then_same (request_known new) first (value_of new.domain) requests small)
          ∙ (λ i. option_or (is.whom.slave i) (option_and_then first (value i)))
          ∙ slave_after d ds w.slave (domain_in w ds) (domain_told w.master d)
          ∙ ap (λ o. known_port is_request w.slave o (d ∷ ds)) told;
    })

-- octets that are no message tell nothing
pub IsWatch-untold : (w : WantedPorts) (d : Recorded) (ds : List Recorded) (watch : Watch) (refusal : DecodeRefusal)
    → d.said ≡ Err refusal → IsWatch w ds watch → IsWatch w (d ∷ ds) watch
IsWatch-untold w d ds watch refusal said is =
    let none : (kind : Body → Bool) → header_in kind d ≡ None = λ kind. no_header kind d refusal said in
    let domain : known_domain w ds ≡ known_domain w (d ∷ ds) = domain_untold d ds w (none is_sync) in
    let same : domain_in w ds ≡ domain_in w (d ∷ ds) =
    sym (value_domain w ds) ∙ ap value_of domain ∙ value_domain w (d ∷ ds) in
    IsWatch-knows w (d ∷ ds) watch (record {
      domain = is.whom.domain ∙ domain;
      master = is.whom.master ∙ port_untold d ds is_sync w.master (domain_in w ds) (none is_sync)
          ∙ ap (λ o. known_port is_sync w.master o (d ∷ ds)) same;
      slave = is.whom.slave ∙ port_untold d ds is_request w.slave (domain_in w ds) (none is_request)
          ∙ ap (λ o. known_port is_request w.slave o (d ∷ ds)) same;
      requests = λ domain few.
          is.whom.requests domain few ∙ port_untold d ds is_request None (Some domain) (none is_request);
    })

-- ---- whom a recording is of is told by the same lines once it is known
still_known : {T : Type 0} (o more : Option (Known T)) (value : T) → value_of o ≡ Some value → option_or o more ≡ o
still_known None more value is = absurd cc
still_known (Some known) more value is = refl

all_known : (domain : Option ℕ) (slave master : Option PortIdentity) (watched : Watched)
    → watched_by domain slave master ≡ Some watched
    → (domain ≡ Some watched.domain) × (slave ≡ Some watched.slave) × (master ≡ Some watched.master)
all_known (Some domain) (Some slave) (Some master) watched known =
    let same = ap (λ o. option_map_or (λ (x : Watched). x) o watched) known in
    (ap (λ (x : Watched). Some x.domain) same, ap (λ (x : Watched). Some x.slave) same, ap (λ (x : Watched). Some x.master) same)
all_known None slave master watched known = absurd cc
all_known (Some domain) None master watched known = absurd cc
all_known (Some domain) (Some slave) None watched known = absurd cc

port_still : (kind : Body → Bool) (asked : Option PortIdentity) (before now : Option ℕ) (domain : ℕ) (port : PortIdentity)
    (d : Recorded) (ds : List Recorded) → before ≡ Some domain → now ≡ Some domain → port_in kind asked before ds ≡ Some port
    → known_port kind asked now (d ∷ ds) ≡ known_port kind asked before ds
port_still kind asked before now domain port d ds was is known =
    ap (λ o. known_port kind asked o (d ∷ ds)) is
    ∙ sym (or-assoc (asked_for asked) (first_told (told_at (source_told kind domain)) ds) (told_at (source_told kind domain) d))
    ∙ still_known (known_port kind asked (Some domain) ds) (told_at (source_told kind domain) d) port
    (value_port kind asked (Some domain) ds ∙ ap (λ o. port_in kind asked o ds) (sym was) ∙ known)
    ∙ ap (λ o. known_port kind asked o ds) (sym was)

pub whom_stays : (w : WantedPorts) (d : Recorded) (ds : List Recorded) (watched : Watched) → watched_in w ds ≡ Some watched
    → whom_in w (d ∷ ds) ≡ whom_in w ds
whom_stays w d ds watched known =
    let (domain, slave, master) = all_known (domain_in w ds) (port_in is_request w.slave (domain_in w ds) ds)
    (port_in is_sync w.master (domain_in w ds) ds) watched known in
    let same : known_domain w (d ∷ ds) ≡ known_domain w ds =
    known_domain_with d ds w
    ∙ still_known (known_domain w ds) (told_at (domain_told w.master) d) watched.domain (value_domain w ds ∙ domain) in
    let now : domain_in w (d ∷ ds) ≡ Some watched.domain =
    sym (value_domain w (d ∷ ds)) ∙ ap value_of same ∙ value_domain w ds ∙ domain in
    let master_same = port_still is_sync w.master (domain_in w ds) (domain_in w (d ∷ ds)) watched.domain watched.master d ds domain now master in
    let slave_same = port_still is_request w.slave (domain_in w ds) (domain_in w (d ∷ ds)) watched.domain watched.slave d ds domain now slave in
    λ i. record { domain = same i; master = master_same i; slave = slave_same i }

-- the header of a message where it is asked for
abbrev header_where : Contents → Bool → Option Header
header_where m asked = option_map (λ m. m.header) (if asked then Some m else None)

-- what a datagram tells is taken, but for the slave
pub record Takes (d : Recorded) (old new : Watch) : Type 0 where
  pub domain : new.domain ≡ option_or old.domain (told_at (domain_told (value_of old.master)) d)
  pub master : new.master
      ≡ option_or old.master (option_and_then (λ domain. told_at (source_told is_sync domain) d) (value_of new.domain))
  pub requests : (domain : ℕ) → domain < 256
      → request_known new domain ≡ option_or (request_known old domain) (told_at (source_told is_request domain) d)
  pub slave : new.slave ≡ old.slave

none_told : (line : ℕ) (o : Option ℕ) → option_and_then (λ k. known_at line (option_and_then (source_in k) None)) o ≡ None
none_told line None = refl
none_told line (Some k) = refl

module _ (d : Recorded) (m : Contents) (old new : Watch) where
  -- what is known by a message is known by the datagram that it is
  domain_by : (said : Option Header) → header_in is_sync d ≡ said
      → new.domain ≡ option_or old.domain (known_at d.line (option_and_then (domain_from (value_of old.master)) said))
      → new.domain ≡ option_or old.domain (told_at (domain_told (value_of old.master)) d)
  domain_by said is domain =
      domain ∙ ap (λ o. option_or old.domain (known_at d.line (option_and_then (domain_from (value_of old.master)) o))) (sym is)

  master_by : (said : Option Header) → header_in is_sync d ≡ said
      → new.master ≡ option_or old.master
      (option_and_then (λ known. known_at d.line (option_and_then (source_in known) said)) (value_of new.domain))
      → new.master ≡ option_or old.master
      (option_and_then (λ known. told_at (source_told is_sync known) d) (value_of new.domain))
  master_by said is master = master
      ∙ ap (λ o. option_or old.master
      (option_and_then (λ known. known_at d.line (option_and_then (source_in known) o)) (value_of new.domain))) (sym is)

  request_by : (said : Option Header) (domain : ℕ) → header_in is_request d ≡ said
      → request_known new domain
      ≡ option_or (request_known old domain) (known_at d.line (option_and_then (source_in domain) said))
      → request_known new domain ≡ option_or (request_known old domain) (told_at (source_told is_request domain) d)
  request_by said domain is request =
      request ∙ ap (λ o. option_or (request_known old domain) (known_at d.line (option_and_then (source_in domain) o))) (sym is)

  -- what is as it was, where there is no message of a kind
  same_domain : new.domain ≡ old.domain → header_in is_sync d ≡ None
      → new.domain ≡ option_or old.domain (told_at (domain_told (value_of old.master)) d)
  same_domain same none = domain_by None none (same ∙ sym (or-none old.domain))

  same_master : new.master ≡ old.master → header_in is_sync d ≡ None
      → new.master ≡ option_or old.master
      (option_and_then (λ known. told_at (source_told is_sync known) d) (value_of new.domain))
  same_master same none = master_by None none
      (same ∙ sym (or-none old.master) ∙ ap (option_or old.master) (sym (none_told d.line (value_of new.domain))))

  same_requests : new.requests ≡ old.requests → header_in is_request d ≡ None → (domain : ℕ) → domain < 256
      → request_known new domain ≡ option_or (request_known old domain) (told_at (source_told is_request domain) d)
  same_requests same none domain few = request_by None domain none
      (ap (λ requests. option_and_then (λ known. known) (slice_get requests domain)) same
      ∙ sym (or-none (request_known old domain)))

  pub Takes-sync : (origin : Timestamp) (line : ℕ) → d.said ≡ Ok m → d.line ≡ line → m.body ≡ Sync origin
      → new.domain ≡ option_or old.domain (known_at line (domain_from (value_of old.master) m.header))
      → new.master
      ≡ option_or old.master (option_and_then (λ known. known_at line (source_in known m.header)) (value_of new.domain))
      → new ≡ record old { domain = new.domain; master = new.master } → Takes d old new
  Takes-sync origin line said numbered is domain master others =
      let kinds : (kind : Body → Bool) → header_in kind d ≡ header_by kind m (Sync origin) =
      λ kind. header_said kind d m (Sync origin) said is in
      record {
        domain = domain_by (Some m.header) (kinds is_sync)
            (domain ∙ ap (λ n. option_or old.domain (known_at n (domain_from (value_of old.master) m.header))) (sym numbered));
        master = master_by (Some m.header) (kinds is_sync) (master
            ∙ ap (λ n. option_or old.master (option_and_then (λ known. known_at n (source_in known m.header)) (value_of new.domain)))
            (sym numbered));
        requests = same_requests (ap (λ watch. watch.requests) others) (kinds is_request);
        slave = ap (λ watch. watch.slave) others;
      }

  pub Takes-request : (origin : Timestamp) (line : ℕ) → d.said ≡ Ok m → d.line ≡ line → m.body ≡ DelayReq origin
      → ((domain : ℕ) → domain < 256
      → request_known new domain ≡ option_or (request_known old domain) (known_at line (source_in domain m.header)))
      → new ≡ record old { requests = new.requests } → Takes d old new
  Takes-request origin line said numbered is requests others =
      let kinds : (kind : Body → Bool) → header_in kind d ≡ header_by kind m (DelayReq origin) =
      λ kind. header_said kind d m (DelayReq origin) said is in
      record {
        domain = same_domain (ap (λ watch. watch.domain) others) (kinds is_sync);
        master = same_master (ap (λ watch. watch.master) others) (kinds is_sync);
        requests = λ domain few. request_by (Some m.header) domain (kinds is_request) (requests domain few
            ∙ ap (λ n. option_or (request_known old domain) (known_at n (source_in domain m.header))) (sym numbered));
        slave = ap (λ watch. watch.slave) others;
      }

  pub Takes-general : d.said ≡ Ok m → IsGeneral m.body → new ≡ old → Takes d old new
  Takes-general said general same =
      let none : (kind : Body → Bool) → kind m.body ≡ false → header_in kind d ≡ None =
      λ kind no. header_said kind d m m.body said refl ∙ ap (header_where m) no in
      record {
        domain = same_domain (ap (λ watch. watch.domain) same) (none is_sync (is_no_sync m.body general));
        master = same_master (ap (λ watch. watch.master) same) (none is_sync (is_no_sync m.body general));
        requests = same_requests (ap (λ watch. watch.requests) same) (none is_request (is_no_request m.body general));
        slave = ap (λ watch. watch.slave) same;
      }

-- where what it tells is taken, and then the slave of its domain, it is noticed
pub Notices-takes : (d : Recorded) (old taken : Watch) (slave : Option (Known PortIdentity)) → Takes d old taken
    → slave ≡ option_and_then (request_known taken) (value_of taken.domain)
    → Notices d old (record taken { slave = option_or taken.slave slave })
Notices-takes d old taken slave takes found = record {
  domain = takes.domain;
  master = takes.master;
  requests = takes.requests;
  slave = λ i. option_or (takes.slave i) (found i);
}
