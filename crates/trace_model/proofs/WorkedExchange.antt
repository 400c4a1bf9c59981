-- One exchange through a clock, as a transcript: the slave's clock leads by 1,000 ns, both cables take 500 ns each
-- way, the Sync is in the clock for 2,000 ns and the Delay_Req for 3,500.25 ns. What the definitions say of it is
-- computed.
use Rattle.std.proofs.Common.{◌≡◌, ℕ, ℤ, pos, refl, List, [], ◌∷◌, reverse, Option, Some, None}
use Rattle.ptp_units.specs.Moment.{stamp, moment}
use Rattle.event_codec.specs.declared.port.PortConfig.{PortConfig}
use Rattle.slave_port.specs.declared.heard.Report.{Report}
use Rattle.network_model.specs.declared.event.Event.{Event}
use Rattle.network_model.specs.declared.event.Event.TheVariants.{Sync, Follow, Enter, Leave, Arrive, Hear}
use Rattle.network_model.specs.declared.event.Event.TheVariants.{Request, Stamped, SetMaster, StepClock}
use Rattle.network_model.specs.declared.node.NodeKind.TheVariants.{Master, Slave, Clock}
use Rattle.network_model.specs.Network.{Network, NodeName}
use Rattle.trace_model.specs.declared.line.TraceLine.{TraceLine}
use Rattle.trace_model.specs.declared.line.TraceOut.{TraceOut}
use Rattle.trace_model.specs.declared.line.TraceOut.TheVariants as outs
use Rattle.trace_model.specs.declared.verdict.Verdict.TheVariants.{Accepted}
use Rattle.trace_model.specs.declared.verdict.Why.TheVariants.{OtherMaster, WrongValue, Bytes}
use Rattle.trace_model.specs.Record.{line_place}
use Rattle.trace_model.specs.Verdict.{verdict, line_judgement}

abbrev pub m : NodeName
m = 77 ∷ []

abbrev pub s : NodeName
s = 83 ∷ []

abbrev pub t : NodeName
t = 84 ∷ []

abbrev pub config : ℕ → List ℕ → PortConfig
config domain clock = record { identity = record { clock = clock; port = 1 }; domain = domain; log = pos 0 }

-- with a slave of this domain
abbrev pub network_with : ℕ → Network
network_with domain =
    record { name = m; kind = Master (config 0 (0 ∷ 17 ∷ 34 ∷ 255 ∷ 254 ∷ 51 ∷ 68 ∷ 85 ∷ [])) (record { 0 = 0 }) }
    ∷ record { name = s; kind = Slave (config domain (0 ∷ 170 ∷ 187 ∷ 255 ∷ 254 ∷ 204 ∷ 221 ∷ 238 ∷ [])) (record { 0 = 0 }) }
    ∷ record { name = t; kind = Clock }
    ∷ []

-- the moment of these seconds, nanoseconds and units of 2^-16 ns
abbrev pub at : ℕ → ℕ → ℕ → ℕ
at seconds nanoseconds fraction = moment (stamp seconds nanoseconds) fraction

abbrev pub line : Event → Option ℕ → TraceOut → TraceLine
line event reading out = record { event = event; reading = reading; out = out }

abbrev pub made : List ℕ → TraceOut
made octets = outs.Made (record { items = octets })

abbrev pub report_with : ℤ → (sync follow request response : ℕ) → Report
report_with offset2 sync follow request response =
    record {
      offset2 = offset2;
      path2 =
          pos 131072000;
      sync_tag = sync;
      follow_tag = Some follow;
      request_tag = request;
      response_tag = response;
    }

-- the octets of the Follow_Up
abbrev pub follow_up_octets : List ℕ
follow_up_octets =
    8 ∷ 18 ∷ 0 ∷ 44 ∷ 0 ∷ 0 ∷ 0 ∷ 0 ∷ 0 ∷ 0 ∷ 0 ∷ 0 ∷ 0 ∷ 0 ∷ 0 ∷ 0 ∷ 0 ∷ 0 ∷ 0 ∷ 0 ∷ 0 ∷ 17 ∷ 34 ∷ 255 ∷ 254 ∷
    51 ∷ 68 ∷ 85 ∷ 0 ∷ 1 ∷ 0 ∷ 0 ∷ 2 ∷ 0 ∷ 0 ∷ 0 ∷ 0 ∷ 0 ∷ 0 ∷ 1 ∷ 0 ∷ 0 ∷ 0 ∷ 0 ∷ []

-- the lines before the last one, with these octets for the Follow_Up
abbrev pub before_with : (follow_up : List ℕ) → List TraceLine
before_with follow_up =
    line (StepClock s (pos 65536000)) None outs.Done
    ∷ line (SetMaster s m) None outs.Done
    ∷ line (Sync m (at 1 0 0)) (Some (at 1 0 0))
    (made (0 ∷ 18 ∷ 0 ∷ 44 ∷ 0 ∷ 0 ∷ 2 ∷ 0 ∷ 0 ∷ 0 ∷ 0 ∷ 0 ∷ 0 ∷ 0 ∷ 0 ∷ 0 ∷ 0 ∷ 0 ∷ 0 ∷ 0 ∷ 0 ∷ 17 ∷ 34 ∷ 255 ∷
    254 ∷ 51 ∷ 68 ∷ 85 ∷ 0 ∷ 1 ∷ 0 ∷ 0 ∷ 0 ∷ 0 ∷ 0 ∷ 0 ∷ 0 ∷ 0 ∷ 0 ∷ 0 ∷ 0 ∷ 0 ∷ 0 ∷ 0 ∷ []))
    ∷ line (Enter t 2 (at 1 500 0)) (Some (at 1 500 0)) outs.Entered
    ∷ line (Leave t 3 (at 1 2500 0)) (Some (at 1 2500 0))
    (made (0 ∷ 18 ∷ 0 ∷ 44 ∷ 0 ∷ 0 ∷ 2 ∷ 0 ∷ 0 ∷ 0 ∷ 0 ∷ 0 ∷ 7 ∷ 208 ∷ 0 ∷ 0 ∷ 0 ∷ 0 ∷ 0 ∷ 0 ∷ 0 ∷ 17 ∷ 34 ∷ 255 ∷
    254 ∷ 51 ∷ 68 ∷ 85 ∷ 0 ∷ 1 ∷ 0 ∷ 0 ∷ 0 ∷ 0 ∷ 0 ∷ 0 ∷ 0 ∷ 0 ∷ 0 ∷ 0 ∷ 0 ∷ 0 ∷ 0 ∷ 0 ∷ []))
    ∷ line (Arrive s 4 (at 1 3000 0)) (Some (at 1 4000 0)) outs.Held
    ∷ line (Follow m) None (made follow_up)
    ∷ line (Hear s 6) None outs.Completed
    ∷ line (Request s (at 2 0 0)) (Some (at 2 1000 0))
    (made (1 ∷ 18 ∷ 0 ∷ 44 ∷ 0 ∷ 0 ∷ 0 ∷ 0 ∷ 0 ∷ 0 ∷ 0 ∷ 0 ∷ 0 ∷ 0 ∷ 0 ∷ 0 ∷ 0 ∷ 0 ∷ 0 ∷ 0 ∷ 0 ∷ 170 ∷ 187 ∷ 255 ∷
    254 ∷ 204 ∷ 221 ∷ 238 ∷ 0 ∷ 1 ∷ 0 ∷ 0 ∷ 1 ∷ 127 ∷ 0 ∷ 0 ∷ 0 ∷ 0 ∷ 0 ∷ 0 ∷ 0 ∷ 0 ∷ 0 ∷ 0 ∷ []))
    ∷ line (Enter t 8 (at 2 500 0)) (Some (at 2 500 0)) outs.Entered
    ∷ line (Leave t 9 (at 2 4000 16384)) (Some (at 2 4000 16384))
    (made (1 ∷ 18 ∷ 0 ∷ 44 ∷ 0 ∷ 0 ∷ 0 ∷ 0 ∷ 0 ∷ 0 ∷ 0 ∷ 0 ∷ 13 ∷ 172 ∷ 64 ∷ 0 ∷ 0 ∷ 0 ∷ 0 ∷ 0 ∷ 0 ∷ 170 ∷ 187 ∷
    255 ∷ 254 ∷ 204 ∷ 221 ∷ 238 ∷ 0 ∷ 1 ∷ 0 ∷ 0 ∷ 1 ∷ 127 ∷ 0 ∷ 0 ∷ 0 ∷ 0 ∷ 0 ∷ 0 ∷ 0 ∷ 0 ∷ 0 ∷ 0 ∷ []))
    ∷ line (Arrive m 10 (at 2 4500 16384)) (Some (at 2 4500 16384))
    (made (9 ∷ 18 ∷ 0 ∷ 54 ∷ 0 ∷ 0 ∷ 0 ∷ 0 ∷ 0 ∷ 0 ∷ 0 ∷ 0 ∷ 13 ∷ 172 ∷ 0 ∷ 0 ∷ 0 ∷ 0 ∷ 0 ∷ 0 ∷ 0 ∷ 17 ∷ 34 ∷
    255 ∷ 254 ∷ 51 ∷ 68 ∷ 85 ∷ 0 ∷ 1 ∷ 0 ∷ 0 ∷ 3 ∷ 0 ∷ 0 ∷ 0 ∷ 0 ∷ 0 ∷ 0 ∷ 2 ∷ 0 ∷ 0 ∷ 17 ∷ 148 ∷ 0 ∷ 170 ∷ 187 ∷
    255 ∷ 254 ∷ 204 ∷ 221 ∷ 238 ∷ 0 ∷ 1 ∷ []))
    ∷ line (Stamped s) None outs.Done ∷ []

abbrev pub before : List TraceLine
before = before_with follow_up_octets

-- the last line, with this first result
abbrev pub reported : ℤ → TraceLine
reported offset2 = line (Hear s 11) None (outs.Report (report_with offset2 5 7 8 13))

accepted : verdict (network_with 0) (reported (pos 131072000) ∷ reverse before) ≡ Accepted 1
accepted = refl

-- a slave of another domain has another master than its own, and should have written this domain into its request;
-- its first result is wrong beside that
judged : line_judgement (network_with 1) (line_place (reported (pos 131072001)) (reverse before)) ≡ Some (record {
  reasons = OtherMaster ∷ WrongValue ∷ Bytes ∷ [];
  by_readings = Some (record { offset2 = pos 131072000; path2 = pos 131072000 });
})
judged = refl
