use Rattle.capture_extract.proofs.Following.{goes}
use Rattle.capture_extract.proofs.listing.Listing.write_behind.Goals as goal

pub returns-then-not-has_writer_failed-clause-table : goal.returns-then-not-has_writer_failed-clause-table
returns-then-not-has_writer_failed-clause-table g c = λ t h not.
    goes g.W.Write.contents t c.write.result _ _ (c.write.ensures.table t h)
