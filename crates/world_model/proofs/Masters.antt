-- Events that a master answers.
use Rattle.std.proofs.Common.{◌≡◌, ◌∙◌, ℕ, ◌∷◌, if◌then◌else◌, Some, None, Ok, option_map, sym, ap, refl, subst}
use Rattle.ptp_units.specs.Sequence.{next}
use Rattle.event_codec.specs.declared.port.PortConfig.{PortConfig}
use Rattle.event_codec.specs.Packet.{Packet}
use Rattle.master_port.specs.Written.{sync, one_step_sync}
use Rattle.network_model.specs.declared.event.Event.TheVariants.{Sync, SyncOne}
use Rattle.network_model.specs.declared.stepped.Outcome.TheVariants.{Made}
use Rattle.network_model.specs.Network.{Network, NodeName, PortSetup, master_port}
use Rattle.network_model.specs.Run.{Run, Place, place}
use Rattle.network_model.specs.Numbering.{waiting_sync}
use Rattle.network_model.specs.Truth.{master_at}
use Rattle.network_model.specs.Kinds.{is_at, is_follow}
use Rattle.network_model.specs.Outcome.{◌>>=◌, reads}
use Rattle.network_model.proofs.Sites.{named-self}
use Rattle.world_model.specs.declared.entry.Octets.{Octets}
use Rattle.world_model.specs.declared.entry.Left.TheVariants.{Copy}
use Rattle.world_model.specs.declared.station.Master.{Master}
use Rattle.world_model.specs.Inner.Stands.{listed, departure, sequence_of, MasterStands}
use Rattle.world_model.specs.Inner.Acts.{Brings}
use Rattle.world_model.proofs.Own.{next_sync-drawn, reading_of-read, reading-read, node_as-at}

-- a master that waits for the Follow_Up of the Sync that it drew
abbrev pub with_sync : (now : ℕ) → Master → Master
with_sync now master = record {
  port = record { config = master.port.config; next = next master.port.next; waiting = Some master.port.next };
  waiting = Some (record { number = record { 0 = master.port.next }; at = now });
}

-- a master that drew a one-step Sync
abbrev with_one_step_sync : Master → Master
with_one_step_sync master = record {
  port = record { config = master.port.config; next = next master.port.next; waiting = master.port.waiting };
  waiting = master.waiting;
}

module _ (network : Network) (run : Run) (node : NodeName) (at now : ℕ) (setup : PortSetup) (master : Master) (octets : Octets)
    (is : master_at network node ≡ Some setup) (stands : MasterStands run node setup master) where
  waits : waiting_sync node (Sync node at ∷ run) ≡ Some (place (Sync node at) run)
  waits = ap (λ b. if b then Some (place (Sync node at) run) else (if is_at is_follow node (Sync node at) then None else waiting_sync node run)) (named-self node)

  pub sync-brings : Ok now ≡ reads (Sync node at) run → Packet (sync master.port.config master.port.next) (listed octets)
      → Brings network run (Sync node at) (MasterStands (Sync node at ∷ run) node setup (with_sync now master))
      (record { reading = Some now; outcome = Made; left = Copy octets })
  sync-brings shown packet = record {
    outcome = ap (λ r. r >>= (λ port. reads (Sync node at) run >>= (λ moment. Ok Made))) (node_as-at master_port network node setup is)
        ∙ sym (ap (λ r. r >>= (λ moment. Ok Made)) shown);
    read = sym (reading_of-read (Sync node at) run now shown);
    stands = record {
      config = stands.config;
      next = ap next stands.next ∙ next_sync-drawn setup run (Sync node at) refl;
      number = ap Some stands.next ∙ sym (ap (option_map (sequence_of setup)) waits);
      waiting = (λ i. Some (record { number = record { 0 = stands.next i }; at = sym (reading-read (Sync node at) run now shown) i }))
          ∙ sym (ap (option_map (λ (p : Place). departure (sequence_of setup p) p)) waits);
    };
    copy = rw is (subst (λ (n : ℕ). Packet (sync setup.config n) (listed octets)) stands.next
        (subst (λ (config : PortConfig). Packet (sync config master.port.next) (listed octets)) stands.config packet));
    stay = refl;
  }

  pub one_step_sync-brings : Ok now ≡ reads (SyncOne node at) run → Packet (one_step_sync master.port.config master.port.next now) (listed octets)
      → Brings network run (SyncOne node at) (MasterStands (SyncOne node at ∷ run) node setup (with_one_step_sync master))
      (record { reading = Some now; outcome = Made; left = Copy octets })
  one_step_sync-brings shown packet = record {
    outcome = ap (λ r. r >>= (λ port. reads (SyncOne node at) run >>= (λ moment. Ok Made))) (node_as-at master_port network node setup is)
        ∙ sym (ap (λ r. r >>= (λ moment. Ok Made)) shown);
    read = sym (reading_of-read (SyncOne node at) run now shown);
    stands = record {
      config = stands.config;
      next = ap next stands.next ∙ next_sync-drawn setup run (SyncOne node at) refl;
      number = stands.number;
      waiting = stands.waiting;
    };
    copy = rw is (subst (λ (t1 : ℕ). Packet (one_step_sync setup.config (sequence_of setup (place (SyncOne node at) run)) t1) (listed octets)) (sym (reading-read (SyncOne node at) run now shown))
        (subst (λ (n : ℕ). Packet (one_step_sync setup.config n now) (listed octets)) stands.next
        (subst (λ (config : PortConfig). Packet (one_step_sync config master.port.next now) (listed octets)) stands.config packet)));
    stay = refl;
  }
