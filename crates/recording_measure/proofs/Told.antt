-- What datagrams tell of whom a recording is of.
use Rattle.std.proofs.Common.{◌≡◌, ◌∙◌, ℕ, Bool, List, [], ◌∷◌, Option, Some, None, refl, sym, ap}
use Rattle.std.specs.Prelude.{option_map, option_and_then, Ok, Err, if◌then◌else◌}
use Rattle.std.specs.Option.{option_or}
use Rattle.std.specs.Result.{result_ok}
use Rattle.event_codec.specs.declared.message.Header.{Header}
use Rattle.event_codec.specs.declared.message.Body.{Body}
use Rattle.event_codec.specs.declared.port.PortIdentity.{PortIdentity}
use Rattle.event_codec.specs.declared.refusal.DecodeRefusal.{DecodeRefusal}
use Rattle.event_codec.specs.Packet.{Contents}
use Rattle.recording_model.specs.declared.watched.Watched.{Watched}
use Rattle.recording_model.specs.Recorded.{Recorded}
use Rattle.recording_model.specs.Told.{is_sync, where_is}
use Rattle.recording_measure.specs.declared.watch.WantedPorts.{WantedPorts}
use Rattle.recording_measure.specs.Watch.{is_request, header_in, first_told, source_in, source_told, domain_from}
use Rattle.recording_measure.specs.Watch.{domain_told, domain_in, port_in, watched_by, watched_in}

pub or-none : {T : Type 0} (a : Option T) → option_or a None ≡ a
or-none None = refl
or-none (Some x) = refl

pub or-assoc : {T : Type 0} (a b c : Option T) → option_or (option_or a b) c ≡ option_or a (option_or b c)
or-assoc None b c = refl
or-assoc (Some x) b c = refl

pub or-again : {T : Type 0} (a b c : Option T)
    → option_or (option_or a b) (option_or b c) ≡ option_or a (option_or b c)
or-again (Some x) b c = refl
or-again None (Some y) c = refl
or-again None None c = refl

-- nothing is told of any domain
pub or-nothing : {T : Type 0} (a : Option T) (domain : Option ℕ)
    → option_or a (option_and_then (λ known. None) domain) ≡ a
or-nothing a None = or-none a
or-nothing a (Some known) = or-none a

-- neither is there
pub neither : {T : Type 0} (a b : Option T) → option_or a b ≡ None → (a ≡ None) × (b ≡ None)
neither None b none = (refl, none)
neither (Some x) b none = absurd (cc)

-- the header of a message, where its body is of a kind
abbrev pub header_by : (Body → Bool) → Contents → Body → Option Header
header_by kind m body = option_map (λ m. m.header) (if kind body then Some m else None)

pub header_said : (kind : Body → Bool) (d : Recorded) (m : Contents) (body : Body) → d.said ≡ Ok m → m.body ≡ body
    → header_in kind d ≡ header_by kind m body
header_said kind d m body said is =
    ap (λ s. option_map (λ (x : Contents). x.header) (option_and_then (where_is kind) (result_ok s))) said
    ∙ ap (header_by kind m) is

-- octets that are no message
pub no_header : (kind : Body → Bool) (d : Recorded) (refusal : DecodeRefusal) → d.said ≡ Err refusal
    → header_in kind d ≡ None
no_header kind d refusal said =
    ap (λ s. option_map (λ (x : Contents). x.header) (option_and_then (where_is kind) (result_ok s))) said

-- a Sync tells its domain
tells_domain : (known : ℕ) (said : Option Header) → option_and_then (domain_from None) said ≡ None
    → option_and_then (source_in known) said ≡ None
tells_domain known None none = refl
tells_domain known (Some header) none = absurd (cc)

-- where no Sync told its domain there was none
pub no_syncs : (known : ℕ) (ds : List Recorded) → first_told (domain_told None) ds ≡ None
    → first_told (source_told is_sync known) ds ≡ None
no_syncs known [] none = refl
no_syncs known (d ∷ earlier) none =
    let parts = neither (first_told (domain_told None) earlier) (domain_told None d) none in
    ap (λ o. option_or o (source_told is_sync known d)) (no_syncs known earlier parts.0)
    ∙ tells_domain known (header_in is_sync d) parts.1

module _ (d : Recorded) (ds : List Recorded) where
  pub domain_with : (w : WantedPorts) → domain_in w (d ∷ ds) ≡ option_or (domain_in w ds) (domain_told w.master d)
  domain_with w = sym (or-assoc w.domain (first_told (domain_told w.master) ds) (domain_told w.master d))

  -- a port that is known stays so
  port_with : (kind : Body → Bool) (asked : Option PortIdentity) (known : ℕ)
      → port_in kind asked (Some known) (d ∷ ds)
      ≡ option_or (port_in kind asked (Some known) ds) (source_told kind known d)
  port_with kind asked known = sym (or-assoc asked (first_told (source_told kind known) ds) (source_told kind known d))

-- what is known stays known
stays : (domain more : Option ℕ) (slave later master other : Option PortIdentity) (watched : Watched)
    → watched_by domain slave master ≡ Some watched
    → watched_by (option_or domain more) (option_or slave later) (option_or master other) ≡ Some watched
stays (Some domain) more (Some slave) later (Some master) other watched known = known
stays None more slave later master other watched known = absurd (cc)
stays (Some domain) more None later master other watched known = absurd (cc)
stays (Some domain) more (Some slave) later None other watched known = absurd (cc)

watched_after : (w : WantedPorts) (d : Recorded) (ds : List Recorded) (watched : Watched) (domain : Option ℕ)
    → watched_by domain (port_in is_request w.slave domain ds) (port_in is_sync w.master domain ds) ≡ Some watched
    → (more : Option ℕ)
    → watched_by (option_or domain more) (port_in is_request w.slave (option_or domain more) (d ∷ ds))
    (port_in is_sync w.master (option_or domain more) (d ∷ ds)) ≡ Some watched
watched_after w d ds watched None known more = absurd (cc)
watched_after w d ds watched (Some domain) known more =
    (λ i. watched_by (Some domain)
    (port_with d ds is_request w.slave domain i) (port_with d ds is_sync w.master domain i))
    ∙ stays (Some domain) more (port_in is_request w.slave (Some domain) ds) (source_told is_request domain d)
    (port_in is_sync w.master (Some domain) ds) (source_told is_sync domain d) watched known

-- whom a recording is of doesn't change once it is known
pub watched-stays : (w : WantedPorts) (d : Recorded) (ds : List Recorded) (watched : Watched)
    → watched_in w ds ≡ Some watched → watched_in w (d ∷ ds) ≡ Some watched
watched-stays w d ds watched known =
    ap (λ domain. watched_by domain
    (port_in is_request w.slave domain (d ∷ ds)) (port_in is_sync w.master domain (d ∷ ds)))
    (domain_with d ds w)
    ∙ watched_after w d ds watched (domain_in w ds) known (domain_told w.master d)
