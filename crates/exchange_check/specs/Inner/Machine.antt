-- What the checker keeps after lines, and its verdict on them. Its own functions cite these; what its callers are
-- told is said by the lines alone.
use Rattle.std.specs.Prelude.{◌≡◌, ℕ, ◌≤◌, [], ◌∷◌, length, ◌==◌, slice_get, if◌then◌else◌}
use Rattle.std.specs.Prelude.{Option, Some, None, option_map}
use Rattle.std.specs.BTreeMap.{get}
use Rattle.std.specs.Ordering.{nat_cmp}
use Rattle.network_model.specs.Network.{Network}
use Rattle.exchange_check.specs.declared.facts.Fact.{Fact}
use Rattle.exchange_check.specs.declared.kept.Kept.{Kept}
use Rattle.trace_model.specs.declared.line.TraceLine.{TraceLine}
use Rattle.trace_model.specs.declared.line.TraceOut.{TraceOut}
use Rattle.trace_model.specs.declared.judgement.Judgement.{Judgement}
use Rattle.trace_model.specs.declared.verdict.Verdict.{Verdict}
use Rattle.trace_model.specs.declared.verdict.Verdict.TheVariants.{Accepted, Refused}
use Rattle.trace_model.specs.Line.{Lines}
use Rattle.trace_model.specs.Verdict.{report_in, one_more}
use Rattle.exchange_check.specs.Inner.Kept.{Facts, Sites, Stamps, new_site, fact_in, site_in}
use Rattle.copy_stays.specs.Leaves.{Leaves, Firsts, Once, once_of}
use Rattle.exchange_check.specs.Inner.Kept.{fact_by, sites_after, leaves_after, firsts_after, stamps_after}
use Rattle.exchange_check.specs.Inner.Stays.{last_stays}
use Rattle.copy_stays.specs.Stays.{AreStays, first_leaves}
use Rattle.exchange_check.specs.Inner.Judged.{judgement_by}

-- what is kept
pub record Machine : Type 0 where
  pub facts : Facts
  pub sites : Sites
  pub leaves : Leaves
  pub firsts : Firsts
  pub stamps : Stamps
  pub verdict : Verdict

-- before the first line
abbrev pub start : Machine
start = record {
  facts = λ n. None;
  sites = λ name. new_site;
  leaves = λ n. None;
  firsts = λ n. None;
  stamps = λ n. None;
  verdict = Accepted 0;
}

-- with the fact of one more line
abbrev pub with_fact : Facts → ℕ → Option Fact → Facts
with_fact facts count fact n = if count == n then fact else facts n

-- what a line with this fact changes for nodes
abbrev pub sites_told : Option Fact → ℕ → Sites → Sites
sites_told None n sites = sites
sites_told (Some fact) n sites = sites_after fact.event n sites

-- what it changes for stays
abbrev pub leaves_told : Option Fact → Leaves → Leaves
leaves_told None leaves = leaves
leaves_told (Some fact) leaves = leaves_after fact.event leaves

-- what it changes for the first Leave lines
abbrev pub firsts_told : Option Fact → ℕ → Firsts → Firsts
firsts_told None n firsts = firsts
firsts_told (Some fact) n firsts = firsts_after fact.event n firsts

-- what it changes for requests
abbrev pub stamps_told : Option Fact → ℕ → Sites → Stamps → Stamps
stamps_told None n sites stamps = stamps
stamps_told (Some fact) n sites stamps = stamps_after fact.event n sites stamps

-- what the report of a line with this fact is judged to be, where the line has one
abbrev pub line_judgement_by : Network → Facts → Once → Stamps → Sites → Option Fact → TraceOut → Option Judgement
line_judgement_by network facts once stamps sites fact out =
    option_map (judgement_by network facts once stamps sites fact) (report_in out)

-- the verdict after the line of this number, whose report is judged to be this
abbrev pub with_judgement : Option Judgement → ℕ → Verdict → Verdict
with_judgement answer n (Accepted count) =
    one_more count n (option_map (λ judgement. slice_get judgement.reasons 0) answer)
with_judgement answer n (Refused line why) = Refused line why

-- what the report of the line of this number is judged to be, where its fact is this
abbrev pub judgement_told : Network → TraceOut → ℕ → Machine → Option Fact → Option Judgement
judgement_told network out n m fact =
    line_judgement_by network (with_fact m.facts n fact) (once_of (last_stays m.facts) m.leaves) m.stamps m.sites fact
    out

-- after a line with this fact
abbrev pub with_line_told : Network → TraceOut → ℕ → Machine → Option Fact → Machine
with_line_told network out n m fact = record {
  facts = with_fact m.facts n fact;
  sites = sites_told fact n m.sites;
  leaves = leaves_told fact m.leaves;
  firsts = firsts_told fact n m.firsts;
  stamps = stamps_told fact n m.sites m.stamps;
  verdict = with_judgement (judgement_told network out n m fact) n m.verdict;
}

-- after one more line, before which there were so many
abbrev pub after_line : Network → TraceLine → ℕ → Machine → Machine
after_line network line n m = with_line_told network line.out n m (fact_by network m.facts m.sites line n)

-- what the report of one more line is judged to be
abbrev pub judgement_after : Network → TraceLine → ℕ → Machine → Option Judgement
judgement_after network line n m = judgement_told network line.out n m (fact_by network m.facts m.sites line n)

-- after these lines
abbrev pub machine : Network → Lines → Machine
machine network [] = start
machine network (line ∷ earlier) = after_line network line (length earlier) (machine network earlier)

-- what is kept of lines
abbrev pub facts_of : Kept → Facts
facts_of kept = fact_in kept.facts.items

-- what is kept of nodes
abbrev pub sites_of : Network → Kept → Sites
sites_of network kept = site_in kept.sites.items network

-- what is kept of requests
abbrev pub stamps_of : Kept → Stamps
stamps_of kept = get nat_cmp kept.stamps

-- what is kept of the first Leave lines
abbrev pub firsts_of : Kept → Firsts
firsts_of kept = first_leaves kept.stays

-- how many report lines are accepted
abbrev pub accepted_count : Verdict → ℕ
accepted_count (Accepted count) = count
accepted_count (Refused number why) = 0

-- what is kept is this, after so many lines
pub record IsKept (network : Network) (kept : Kept) (count : ℕ) (m : Machine) : Type 0 where
  pub count_is : length kept.facts.items ≡ count
  pub facts : facts_of kept ≡ m.facts
  pub sites : sites_of network kept ≡ m.sites
  pub stays : AreStays kept.stays (last_stays m.facts) m.leaves count
  pub firsts : firsts_of kept ≡ m.firsts
  pub stamps : stamps_of kept ≡ m.stamps
  pub verdict : kept.verdict ≡ m.verdict
  pub within : accepted_count m.verdict ≤ count
