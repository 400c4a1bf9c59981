use Rattle.std.proofs.Common.{◌≡◌, ◌∙◌, [], true, false, inl, inr, refl, sym, ap}
use Rattle.std.proofs.KnownBytes.{Appends-nil}
use Rattle.capture_file.specs.Name.{is_asked}
use Rattle.capture_file.specs.Packet.{interface_of}
use Rattle.datagram_source.specs.Datagram.{Interface}
use Rattle.datagram_source.specs.Stream.{stream_of}
use Rattle.datagram_source.proofs.PacketTakings.{carries_none, says}
use Rattle.datagram_source.proofs.packets.PacketSource.take_captured.Goals as goal
use Rattle.datagram_source.proofs.packets.PacketSource.take_captured.Goals.{in-Datagram+in_ok-take, in_default}

pub returns-then-not-is_asked-clause-taken : goal.returns-then-not-is_asked-clause-taken
returns-then-not-is_asked-clause-taken g c = λ state at.
    let interface = interface_of c.args.captured.now.interface in
    let passed : is_asked (g.T.DatagramTask.rules.asked state) interface ≡ false =
    sym (says interface _ c.asked-asked.result _ c.is_asked.result c.is_asked.ensures c.as_ref.ensures.value (c.asked-asked.ensures state at))
    ∙ c.if-not-is_asked.true in
    (state, [], at, inr (λ d is. absurd (cc (rw passed at is.1)), refl, refl), Appends-nil _)

pub returns-clause-taken : goal.returns-clause-taken
returns-clause-taken g c = λ state at.
    let interface = interface_of c.args.captured.now.interface in
    let asked : is_asked (g.T.DatagramTask.rules.asked state) interface ≡ true =
    sym (says interface _ c.asked-asked.result _ c.is_asked.result c.is_asked.ensures c.as_ref.ensures.value (c.asked-asked.ensures state at))
    ∙ c.if-not-is_asked.false in
    elim c.match-found.branch [
      | in-Datagram+in_ok-take w ↦
          let (later, out, stands, takes, went) = w.in_ok-take.ensures.taken state at in
          rw (w.self-is, w.output-is) (
            later,
            out,
            stands,
            inl (_, ((w.in-Datagram.ensures.found, ap (Interface interface) (w.new.ensures ∙ ap (λ r. stream_of r w.in-Datagram.octets.now) w.find_route.ensures), refl, w.join.ensures, refl, w.message_in.ensures, refl), asked), takes),
            went,
          )
      | in_default w ↦
          rw (w.self-is, w.output-is) (
            state,
            [],
            at,
            inr (
              λ d is. carries_none c.find_datagram-found.result c.args.captured.now.link c.args.captured.now.octets.now d.octets
                  c.find_datagram-found.ensures.only w.in_default.not-Datagram is.0.0,
              refl,
              refl,
            ),
            Appends-nil _,
          )
    ]
