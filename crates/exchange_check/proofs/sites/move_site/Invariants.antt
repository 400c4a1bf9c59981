use Rattle.std.proofs.Common.{◌≡◌, ◌+◌, length}
use Rattle.exchange_check.specs.Inner.Kept.{site_in}
use Rattle.exchange_check.proofs.sites.move_site.Given as goal

abbrev pub invariant-loop : goal.invariant-loop
invariant-loop l = record {
  same : site_in l.sites.items l.nodes ≡ site_in l.fn.sites.items l.nodes;
  grown : length l.sites.items ≡ length l.fn.sites.items + l.counter;
}
