use Rattle.std.proofs.Common.{◌≡◌, ◌≤◌, ℕ, true, false, rules, Result, Ok, Err, Some, None, refl, ap, arith, ltb}
use Rattle.std.specs.Prelude.{MatchResult}
use Rattle.std.specs.Result.{is_ok}
use Rattle.std.proofs.lemmas.Bool.{le-ltb, lt-ltb}
use Rattle.event_codec.specs.declared.message.Body.{Body}
use Rattle.event_codec.specs.declared.message.Body.TheVariants.{Sync, DelayReq, FollowUp, DelayResp}
use Rattle.event_codec.specs.declared.profile.PortMessage.{PortMessage}
use Rattle.event_codec.specs.declared.refusal.EncodeRefusal.{EncodeRefusal}
use Rattle.event_codec.specs.EncodeRefusal.{encode_refusal}
use Rattle.event_codec.specs.Layout.{type_of, fields_length}
use Rattle.event_codec.specs.Packet.{Contents, contents}
use Rattle.event_codec.specs.Profile.{contents_of}
use Rattle.event_codec.specs.Refusal.{message_length}
use Rattle.recording_measure.proofs.task.octets_of.Goals as goal

few : (body : Body) → fields_length (type_of body) ≤ 54
few (Sync origin) = omega arith
few (DelayReq origin) = omega arith
few (FollowUp precise) = omega arith
few (DelayResp receive requesting) = omega arith

-- a buffer of 54 octets takes a message without suffix
fits : (message : PortMessage) (m : Contents) (room : ℕ) (r : Result ℕ EncodeRefusal) → m ≡ contents_of message → room ≡ 54
    → MatchResult r (λ _. encode_refusal m room ≡ None) (λ e. encode_refusal m room ≡ Some e) → is_ok r ≡ true
fits message m room (Ok n) same all refused = refl
fits message m room (Err e) same all refused =
    let long : message_length m ≤ 54 = omega (arith, ap message_length same, few message.body) in
    let enough : ltb room (message_length m) ≡ false = le-ltb room (message_length m) (omega (arith, long, all)) in
    let short : ltb (message_length m) 65536 ≡ true = lt-ltb (message_length m) 65536 (omega (arith, long)) in
    let none : encode_refusal m room ≡ None = rw (enough, short) refl in
    absurd cc

pub prove-unreachable-requires : goal.prove-unreachable-requires
prove-unreachable-requires c =
    let ok = fits c.args.own.now.message (contents c.message.result) _ c.encode-written.result c.message.ensures (search rules)
    c.encode-written.ensures.refused in
    absurd cc
