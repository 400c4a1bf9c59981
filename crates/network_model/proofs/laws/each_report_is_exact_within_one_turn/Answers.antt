-- The three claims of the headline, within one turn of the numbers.
use Rattle.network_model.proofs.Reports.{each_of_one_sync-one_turn, each_of_one_request-one_turn}
use Rattle.network_model.proofs.Twice.{each_twice}
use Rattle.network_model.proofs.laws.each_report_is_exact_within_one_turn.Goals as goal

pub returns : goal.returns
returns c = record { one_sync = each_of_one_sync-one_turn; one_request = each_of_one_request-one_turn; twice = each_twice }
