-- The three claims of the headline, where runs are fresh and ticked.
use Rattle.network_model.proofs.Reports.{each_of_one_sync-slave, each_of_one_request-slave}
use Rattle.network_model.proofs.Twice.{each_twice}
use Rattle.network_model.proofs.laws.each_report_is_exact.Goals as goal

pub returns : goal.returns
returns c = record { one_sync = each_of_one_sync-slave; one_request = each_of_one_request-slave; twice = each_twice }
