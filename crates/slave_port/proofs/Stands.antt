-- A port that stands for a history stands for the longer one after each call that hears no message.
use Rattle.std.proofs.Common.{◌≡◌, ◌∙◌, ℕ, ◌+◌, ◌%◌, refl, sym, ap, arith, List, ◌∷◌, take, option_and_then, Some, None}
use Rattle.ptp_units.specs.Sequence.{next}
use Rattle.pairing.specs.Marked.{Entry, entry, first_value, replace_first, find}
use Rattle.pairing.proofs.Lists.{take-more}
use Rattle.pairing.proofs.Laws.{newest_first-push, newest_first-set, HoldsLatest-tick}
use Rattle.slave_port.specs.History.{Setup, Call, Tick, NextRequest, RequestLeft, requests_drawn, next_number}
use Rattle.slave_port.specs.Values.{RequestValue}
use Rattle.slave_port.specs.Requests.{requests, held_requests}
use Rattle.slave_port.specs.Kept.{kept, delay_completions}
use Rattle.slave_port.specs.StandsFor.{Port, StandsFor}
use Rattle.slave_port.specs.Inner.Changes.{aged, ticked, with_request, left, with_departure}
use Rattle.slave_port.proofs.Completions.{last_of-tick}
use Rattle.slave_port.proofs.Requests.{take-stamped, stamped-none, stamped-some}

next-mod : (next_number first drawn : ℕ) → next_number ≡ (first + drawn) % 65536 → next next_number ≡ (first + (drawn + 1)) % 65536
next-mod next_number first drawn same = omega (arith, same)

module _ {setup : Setup} {history : List Call} {port : Port} where
  pub StandsFor-tick : StandsFor setup port history → StandsFor setup (ticked port) (Tick ∷ history)
  StandsFor-tick stands = record {
    config = stands.config;
    capacities = stands.capacities;
    next = stands.next;
    master = stands.master;
    syncs = HoldsLatest-tick refl stands.syncs;
    follows = HoldsLatest-tick refl stands.follows;
    requests = stands.requests;
    last_sync =
        ap (option_and_then aged) stands.last_sync
        ∙ last_of-tick (kept setup history).completions.since (kept setup history).completions.before;
    last_delay =
        ap (option_and_then aged) stands.last_delay
        ∙ last_of-tick (delay_completions setup history).since (delay_completions setup history).before;
  }

  pub StandsFor-request : (tag : ℕ) → StandsFor setup port history → StandsFor setup (with_request tag port) (NextRequest tag ∷ history)
  StandsFor-request tag stands =
      let request : ℕ → Entry RequestValue = λ number. entry number (record { t3 = None; tag = tag }) in
      record {
        config = stands.config;
        capacities = stands.capacities;
        next = next-mod port.next setup.first (requests_drawn history) stands.next;
        master = stands.master;
        syncs = stands.syncs;
        follows = stands.follows;
        requests =
            newest_first-push port.capacities.requests (request port.next) port.requests
            ∙ (λ i. take (stands.capacities i).requests (request (stands.next i) ∷ stands.requests i))
            ∙ take-more setup.capacities.requests (request (next_number setup history)) (requests setup history);
        last_sync = stands.last_sync;
        last_delay = stands.last_delay;
      }

  -- of a number that isn't held
  pub StandsFor-not_held : (number t3 : ℕ) → find number port.requests ≡ None
      → StandsFor setup port history → StandsFor setup port (RequestLeft number t3 ∷ history)
  StandsFor-not_held number t3 none stands = record {
    config = stands.config;
    capacities = stands.capacities;
    next = stands.next;
    master = stands.master;
    syncs = stands.syncs;
    follows = stands.follows;
    requests =
        stands.requests ∙ sym (stamped-none number t3 (held_requests setup history) (ap (first_value number) (sym stands.requests) ∙ none))
        ∙ sym (take-stamped setup.capacities.requests number t3 (requests setup history));
    last_sync = stands.last_sync;
    last_delay = stands.last_delay;
  }

  pub StandsFor-departure : (number t3 : ℕ) (request : RequestValue) → find number port.requests ≡ Some request
      → StandsFor setup port history → StandsFor setup (with_departure number t3 request port) (RequestLeft number t3 ∷ history)
  StandsFor-departure number t3 request found stands = record {
    config = stands.config;
    capacities = stands.capacities;
    next = stands.next;
    master = stands.master;
    syncs = stands.syncs;
    follows = stands.follows;
    requests =
        newest_first-set number (left t3 request) port.requests
        ∙ ap (replace_first number (left t3 request)) stands.requests
        ∙ sym (stamped-some number t3 (held_requests setup history) request (ap (first_value number) (sym stands.requests) ∙ found))
        ∙ sym (take-stamped setup.capacities.requests number t3 (requests setup history));
    last_sync = stands.last_sync;
    last_delay = stands.last_delay;
  }
