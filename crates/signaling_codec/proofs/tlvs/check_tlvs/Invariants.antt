use Rattle.std.proofs.Common.{◌≡◌, length}
use Rattle.signaling_codec.specs.Refusal.{tlvs_refusal}
use Rattle.signaling_codec.proofs.tlvs.check_tlvs.Given as goal

abbrev pub invariant-loop-rest : goal.invariant-loop-rest
invariant-loop-rest l = tlvs_refusal 0 l.rest ≡ tlvs_refusal 0 l.octets

abbrev pub decreases-loop-rest : goal.decreases-loop-rest
decreases-loop-rest l = length l.rest
