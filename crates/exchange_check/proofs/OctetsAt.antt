-- The octets that a line made, by what is kept and noted of it.
use Rattle.std.proofs.Common.{◌≡◌, ◌∙◌, ℕ, Bool, true, false, List, [], length, Option, Some, None, refl, sym, ap}
use Rattle.std.specs.Prelude.{if◌then◌else◌, option_map, option_and_then}
use Rattle.std.specs.Option.{option_map_or}
use Rattle.event_codec.specs.declared.message.Body.{Body}
use Rattle.event_codec.specs.declared.message.Body.TheVariants as bodies
use Rattle.event_codec.specs.declared.profile.PortMessage.{PortMessage}
use Rattle.event_codec.specs.EncodeRefusal.{encode_refusal}
use Rattle.event_codec.specs.Packet.{Contents}
use Rattle.event_codec.specs.Profile.{contents_of}
use Rattle.network_model.specs.Network.{Network}
use Rattle.trace_model.specs.declared.line.TraceOut.{TraceOut}
use Rattle.trace_model.specs.declared.line.TraceOut.TheVariants as outs
use Rattle.trace_model.specs.Line.{Lines, is_made}
use Rattle.trace_model.specs.Record.{LinePlace, event_of, line_at}
use Rattle.trace_model.specs.Octets.{message_made, is_written, writes_right}
use Rattle.trace_model.proofs.Packets.{is_packet-Decides}
use Rattle.exchange_check.specs.declared.exceptions.Exceptions.{Exceptions}
use Rattle.exchange_check.specs.declared.facts.Fact.{Fact}
use Rattle.exchange_check.specs.declared.kept.Kept.{Kept}
use Rattle.exchange_check.specs.Evidence.{noted, told_by, octets_told, octets_in, octets_at, wrong_octets}
use Rattle.exchange_check.specs.Inner.Machine.{IsKept, machine, facts_of}
use Rattle.exchange_check.specs.Inner.Noting.{IsMadeAt, is_made_at}
use Rattle.exchange_check.specs.Inner.Telling.{message_at_by}
use Rattle.exchange_check.proofs.Inside.{facts-kept}
use Rattle.exchange_check.proofs.Made.{message_at_by-is}
use Rattle.exchange_check.proofs.Told.{fact_of}

-- 54 octets are room for each message
pub room-for : (m : PortMessage) → encode_refusal (contents_of m) 54 ≡ None
room-for m = by m.body
  where
    by : (body : Body) → encode_refusal (record { header = m.header; body = body; suffix = [] }) 54 ≡ None
    by (bodies.Sync origin) = refl
    by (bodies.DelayReq origin) = refl
    by (bodies.FollowUp precise) = refl
    by (bodies.DelayResp receive requesting) = refl

module _ (network : Network) (fed : Lines) (kept : Kept) (h : IsKept network kept (length fed) (machine network fed))
    (exceptions : Exceptions) (evidence : told_by exceptions ≡ noted network fed) (number : ℕ)
    (r : Option (List ℕ)) (is : IsMadeAt network kept exceptions number r) where
  facts_is : facts_of kept number ≡ option_map (fact_of network) (line_at network fed number)
  facts_is = λ i. facts-kept network fed kept h i number

  told_is : octets_told exceptions number ≡ option_and_then (wrong_octets network) (line_at network fed number)
  told_is = λ i. (evidence i).octets number

  message_is : message_at_by network (facts_of kept) number
      ≡ option_and_then (λ (e : LinePlace). message_made network (event_of e) e) (line_at network fed number)
  message_is = (λ i. message_at_by network (facts-kept network fed kept h i) number)
      ∙ message_at_by-is network fed number

  module _ (e : LinePlace) (there : line_at network fed number ≡ Some e) where
    fact_there : facts_of kept number ≡ Some (fact_of network e)
    fact_there = facts_is ∙ ap (option_map (fact_of network)) there

    told_there : octets_told exceptions number ≡ wrong_octets network e
    told_there = told_is ∙ ap (option_and_then (wrong_octets network)) there

    module _ (octets : _) (same : e.line.out ≡ outs.Made octets) where
      made : is_made_at (facts_of kept) number ≡ true
      made = ap (λ (o : Option Fact). option_map_or (λ fact. fact.made) o false) fact_there ∙ ap is_made same

      message_there : (o : Option Contents) → message_made network (event_of e) e ≡ o
          → is_written o (outs.Made octets) ≡ true → writes_right network e ≡ true → r ≡ Some octets.items
      message_there None made_is tells writes = cc
      message_there (Some m) made_is tells writes =
          is.written made
          (told_there ∙ (λ i. if writes i then None else octets_in e.line.out)) m octets.items
          (message_is ∙ ap (option_and_then (λ (x : LinePlace). message_made network (event_of x) x)) there ∙ made_is)
          ((is_packet-Decides m octets.items).0 tells)

      by_writes : (b : Bool) → writes_right network e ≡ b → r ≡ Some octets.items
      by_writes false writes = is.kept_so octets.items made
          (told_there ∙ (λ i. if writes i then None else octets_in (same i)))
      by_writes true writes = message_there (message_made network (event_of e) e) refl
          ((λ i. is_written (message_made network (event_of e) e) (sym same i)) ∙ writes) writes

    of_line : (out : TraceOut) → e.line.out ≡ out → r ≡ octets_in out
    of_line (outs.Made octets) same = by_writes octets same (writes_right network e) refl
    of_line _ same = is.none (ap (λ (o : Option Fact). option_map_or (λ fact. fact.made) o false) fact_there ∙ ap is_made same)

  at_line : (o : Option LinePlace) → line_at network fed number ≡ o
      → r ≡ option_and_then (λ (e : LinePlace). octets_in e.line.out) o
  at_line None there =
      is.none (ap (λ (o : Option Fact). option_map_or (λ fact. fact.made) o false)
      (facts_is ∙ ap (option_map (fact_of network)) there))
  at_line (Some e) there = of_line e there e.line.out refl

  pub octets-at : r ≡ octets_at network fed number
  octets-at = at_line (line_at network fed number) refl
