use Rattle.std.proofs.Common.{◌≡◌, ℕ, List, take, ap, ◌∙◌, arith, rules}
use Rattle.std.proofs.lemmas.List.{take-take}
use Rattle.event_codec.specs.Layout.{number}
use Rattle.event_codec.proofs.Numbers.{number-to_be_bytes_2}
use Rattle.event_codec.proofs.Agreement.{IsHeader-agrees}
use Rattle.signaling_codec.proofs.Writing.{header_retyped}
use Rattle.signaling_codec.proofs.encoding.header_octets.Goals as goal

pub returns : goal.returns
returns c =
    let sync : List ℕ = c.sync-sync.result in
    let size : number c.to_be_bytes.result 0 2 ≡ c.args.message_length =
    ap (λ (x : List ℕ). number x 0 2) c.to_be_bytes.ensures ∙ number-to_be_bytes_2 c.args.message_length (search rules) in
    let agree = ap (take 34) c.array_at-octets.ensures ∙ take-take 34 34 sync (omega arith) in
    header_retyped c.args.header.now _ c.args.message_length _ _ c.array_at-octets.result (search rules) size
    (IsHeader-agrees c.args.header.now 0 _ c.array_at-octets.result sync agree c.sync-sync.ensures.header)
