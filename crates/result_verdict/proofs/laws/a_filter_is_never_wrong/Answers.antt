use Rattle.result_verdict.proofs.Filters.{cut_right, cut_path_right, medians_within, means_within}
use Rattle.result_verdict.proofs.laws.a_filter_is_never_wrong.Goals as goal

pub returns-clause-cut : goal.returns-clause-cut
returns-clause-cut c = cut_right

pub returns-clause-cut_by_path : goal.returns-clause-cut_by_path
returns-clause-cut_by_path c = cut_path_right

pub returns-clause-medians : goal.returns-clause-medians
returns-clause-medians c = medians_within

pub returns-clause-means : goal.returns-clause-means
returns-clause-means c = means_within
