-- Syncs, Follow_Ups and Delay_Resps pair with their own.
use Rattle.network_model.proofs.Pairs.{no_pair_is_missed}
use Rattle.network_model.proofs.laws.no_pair_is_missed.Goals as goal

pub returns : goal.returns
returns c = no_pair_is_missed
