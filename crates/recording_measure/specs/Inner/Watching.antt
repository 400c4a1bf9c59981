-- What a watch keeps of the datagrams that it noticed.
use Rattle.std.specs.Prelude.{◌≡◌, ℕ, ◌<◌, List, slice_get, Option, option_map, option_and_then}
use Rattle.std.specs.Option.{option_or}
use Rattle.event_codec.specs.declared.port.PortIdentity.{PortIdentity}
use Rattle.recording_model.specs.Recorded.{Recorded}
use Rattle.recording_model.specs.Told.{is_sync}
use Rattle.recording_summary.specs.declared.whom.Known.{Known}
use Rattle.recording_measure.specs.declared.watch.WantedPorts.{WantedPorts}
use Rattle.recording_measure.specs.declared.watch.Watch.{Watch}
use Rattle.recording_summary.specs.declared.whom.Whom.{Whom}
use Rattle.recording_measure.specs.Watch.{is_request, first_told, source_told, domain_told, domain_in, port_in}
use Rattle.recording_measure.specs.Summary.{told_at, known_domain, known_port}

-- what is known, whichever line told it
abbrev pub value_of : {T : Type 0} → Option (Known T) → Option T
value_of known = option_map (λ k. k.value) known

-- the source of the first Delay_Req of a domain
abbrev pub request_in : Watch → (domain : ℕ) → Option PortIdentity
request_in watch domain = option_and_then value_of (slice_get watch.requests domain)

-- the same, with the line that told it
abbrev pub request_known : Watch → (domain : ℕ) → Option (Known PortIdentity)
request_known watch domain = option_and_then (λ known. known) (slice_get watch.requests domain)

-- what is known of the three
abbrev pub whom_of : Watch → Whom
whom_of watch = record { domain = watch.domain; master = watch.master; slave = watch.slave }

-- the watch knows what these datagrams tell, and by which lines
pub record KnowsWhom (w : WantedPorts) (ds : List Recorded) (watch : Watch) : Type 0 where
  pub domain : watch.domain ≡ known_domain w ds
  pub master : watch.master ≡ known_port is_sync w.master (domain_in w ds) ds
  pub slave : watch.slave ≡ known_port is_request w.slave (domain_in w ds) ds
  pub requests : (domain : ℕ) → domain < 256
      → request_known watch domain ≡ first_told (told_at (source_told is_request domain)) ds

-- The watch knows what these datagrams tell. It keeps no Syncs: while the domain isn't known there was none, or none of
-- the master that is asked for.
pub record IsWatch (w : WantedPorts) (ds : List Recorded) (watch : Watch) : Type 0 where
  pub domain : value_of watch.domain ≡ domain_in w ds
  pub master : value_of watch.master ≡ port_in is_sync w.master (domain_in w ds) ds
  pub slave : value_of watch.slave ≡ port_in is_request w.slave (domain_in w ds) ds
  pub requests : (domain : ℕ) → domain < 256
      → request_in watch domain ≡ first_told (source_told is_request domain) ds
  pub whom : KnowsWhom w ds watch

-- what a datagram tells is known from then on where nothing was
pub record Notices (d : Recorded) (old new : Watch) : Type 0 where
  pub domain : new.domain ≡ option_or old.domain (told_at (domain_told (value_of old.master)) d)
  pub master : new.master
      ≡ option_or old.master (option_and_then (λ domain. told_at (source_told is_sync domain) d) (value_of new.domain))
  pub requests : (domain : ℕ) → domain < 256
      → request_known new domain ≡ option_or (request_known old domain) (told_at (source_told is_request domain) d)
  pub slave : new.slave ≡ option_or old.slave (option_and_then (request_known new) (value_of new.domain))
