-- What is counted with one datagram more.
use Rattle.std.proofs.Common.{◌≡◌, ◌∙◌, ◌⊎◌, inl, inr, ℕ, ◌+◌, ◌*◌, ◌<◌, Bool, true, false, List, [], ◌∷◌, length, get_or}
use Rattle.std.proofs.Common.{Option, Some, None, Ok, Err, refl, sym, ap, subst, arith}
use Rattle.std.specs.Prelude.{cond, ◌==◌, ◌||◌, count_by, is_some, slice_set, map, filter_map, option_map}
use Rattle.std.specs.List.{cons_option}
use Rattle.std.specs.Result.{result_err}
use Rattle.std.proofs.lemmas.Bool.{cases_eq, eq-eqb, ne_eqb}
use Rattle.std.proofs.lemmas.List.{length-set, length-replicate, get_or-replicate, get_or-set_same, get_or-set_other}
use Rattle.std.proofs.lemmas.List.Sums.{sum_by-cons}
use Rattle.event_codec.specs.declared.refusal.DecodeRefusal.{DecodeRefusal}
use Rattle.event_codec.specs.Packet.{Contents}
use Rattle.event_codec.specs.Reading.{Reading}
use Rattle.recording_model.specs.declared.watched.Watched.{Watched}
use Rattle.recording_model.specs.Listening.{Listening}
use Rattle.recording_model.specs.Recorded.{Recorded}
use Rattle.recording_measure.specs.Made.{Measured}
use Rattle.recording_summary.specs.declared.quality.Quality.{Quality}
use Rattle.recording_summary.specs.Noted.{Noted, Reported}
use Rattle.recording_summary.specs.declared.others.Others.{Others}
use Rattle.recording_summary.specs.declared.announces.Announcement.{Announcement}
use Rattle.recording_summary.specs.declared.announces.Announces.{Announces}
use Rattle.recording_summary.specs.Announces.{AreAnnounces}
use Rattle.recording_summary.specs.Others.{AreOthers}
use Rattle.recording_summary.specs.Quality.{IsQuality}
use Rattle.recording_measure.specs.declared.listener.Became.{Became}
use Rattle.recording_summary.specs.declared.counts.Counts.{Counts}
use Rattle.recording_summary.specs.declared.kind.Kind.{Kind}
use Rattle.recording_summary.specs.declared.kind.Kind.TheVariants as kinds
use Rattle.recording_summary.specs.declared.no_report.NoReport.{NoReport}
use Rattle.recording_summary.specs.declared.no_report.NoReport.TheVariants as whys
use Rattle.recording_summary.specs.Counts.{AreNone, kind_number, why_number, place_of, with_one, with_unreported}
use Rattle.recording_measure.specs.Counts.{kind_of, kind_of_refused, why_refused, at_most}
use Rattle.recording_measure.specs.Counts.{Fate, fate_in, early_fate, noted_of, meeting_of, is_so, IsCounts}
use Rattle.recording_measure.specs.Announced.{announcement_said}
use Rattle.recording_measure.specs.Meetings.{meeting_at}
use Rattle.recording_measure.specs.Inner.Counting.{with_why, why_by, is_slave_anew, is_master_anew, is_anew}
use Rattle.recording_measure.specs.Inner.Became.{became_of}
use Rattle.recording_measure.proofs.Became.{why-became, slave-became, master-became}

-- ---- places
kind_few : (kind : Kind) → kind_number kind < 10
kind_few kinds.Sync = omega arith
kind_few _ = omega arith

why_few : (why : NoReport) → why_number why < 14
why_few whys.Held = omega arith
why_few _ = omega arith

place_within : (k y : ℕ) → k < 10 → y < 14 → k * 14 + y < 140
place_within k y few some = omega (arith, few, some)

pub place_few : (kind : Kind) (why : NoReport) → place_of kind why < 140
place_few kind why = place_within (kind_number kind) (why_number why) (kind_few kind) (why_few why)

-- ---- one more, or none
module _ (p : Fate → Bool) (fate : Fate) (all : List Fate) (count : ℕ) where
  count_yes : p fate ≡ true → count ≡ at_most (count_by p all) → with_one count ≡ at_most (count_by p (fate ∷ all))
  count_yes is so =
      let more = sum_by-cons (λ f. cond (p f) 1 0) fate all in
      let one = ap {B = ℕ} (λ (b : Bool). cond b 1 0) is in
      omega (arith, more, one, so)

  count_no : p fate ≡ false → count ≡ at_most (count_by p all) → count ≡ at_most (count_by p (fate ∷ all))
  count_no is so =
      let more = sum_by-cons (λ f. cond (p f) 1 0) fate all in
      let none = ap {B = ℕ} (λ (b : Bool). cond b 1 0) is in
      omega (arith, more, none, so)

pub why_same : (kind : Kind) (why : Option NoReport) (counts : Counts) → (with_why kind why counts).others ≡ counts.others
why_same kind None counts = refl
why_same kind (Some why) counts = refl

announces_same : (kind : Kind) (why : Option NoReport) (counts : Counts) → (with_why kind why counts).announces ≡ counts.announces
announces_same kind None counts = refl
announces_same kind (Some why) counts = refl

-- the counts of those that gave no report
abbrev Table : List Fate → List ℕ → Type 0
Table all there = (kind : Kind) (why : NoReport) → get_or there (place_of kind why) 0 ≡ at_most (count_by (is_so kind why) all)

module _ (fate : Fate) (all : List Fate) (there : List ℕ) (many : length there ≡ 140) (so : Table all there) where
  table_none : fate.why ≡ None → Table (fate ∷ all) there
  table_none none kind why = count_no (is_so kind why) fate all _
      (ap (λ (o : Option NoReport). is_so kind why (record fate { why = o })) none) (so kind why)

  table_more : (own : NoReport) → fate.why ≡ Some own
      → Table (fate ∷ all) (slice_set there (place_of fate.kind own) (with_one (get_or there (place_of fate.kind own) 0)))
  table_more own is kind why = by_place (cases_eq (place_of fate.kind own) (place_of kind why))
    where
      mine : ℕ
      mine = place_of fate.kind own

      within : mine < length there
      within = subst (λ (n : ℕ). mine < n) (sym many) (place_few fate.kind own)

      counted : is_so kind why fate ≡ (mine == place_of kind why)
      counted = ap (λ (o : Option NoReport). is_so kind why (record fate { why = o })) is

      by_place : (mine ≡ place_of kind why) ⊎ (mine ≡ place_of kind why → ⊥)
          → get_or (slice_set there mine (with_one (get_or there mine 0))) (place_of kind why) 0
          ≡ at_most (count_by (is_so kind why) (fate ∷ all))
      by_place (inl same) =
          ap (λ (n : ℕ). get_or (slice_set there mine (with_one (get_or there mine 0))) n 0) (sym same)
          ∙ get_or-set_same there mine (with_one (get_or there mine 0)) 0 within
          ∙ ap (λ (n : ℕ). with_one (get_or there n 0)) same
          ∙ count_yes (is_so kind why) fate all (get_or there (place_of kind why) 0)
          (counted ∙ eq-eqb mine (place_of kind why) same) (so kind why)
      by_place (inr other) =
          get_or-set_other there mine (place_of kind why) (with_one (get_or there mine 0)) 0 (λ same. other (sym same))
          ∙ count_no (is_so kind why) fate all (get_or there (place_of kind why) 0)
          (counted ∙ ne_eqb mine (place_of kind why) other) (so kind why)

-- ---- what is counted of a datagram, but for its report
-- what the master announces by these
abbrev pub announcements : List Fate → List Announcement
announcements all = filter_map (λ fate. fate.announced) all

-- a datagram was noted, and isn't counted yet
pub record IsNoted (fate : Fate) (all : List Fate) (counts : Counts) : Type 0 where
  pub reports : counts.reports ≡ at_most (count_by (λ f. is_some f.measured) all)
  pub unreported : Table all counts.unreported
  pub places : length counts.unreported ≡ 140
  pub quality : IsQuality (map noted_of (fate ∷ all)) counts.quality
  pub others : AreOthers (filter_map meeting_of all) counts.others
  pub announces : AreAnnounces (announcements all) counts.announces

-- what is noted of it
pub unreported_noted : (fate : Fate) → fate.measured ≡ None → (noted_of fate).reported ≡ None
unreported_noted fate unmeasured = λ i. (noted_of (record fate { measured = unmeasured i })).reported

-- it is where nothing else changed
pub noted_counts : (fate : Fate) (all : List Fate) (counts later : Counts) → IsCounts all counts
    → later ≡ record counts { quality = later.quality } → IsQuality (map noted_of (fate ∷ all)) later.quality
    → IsNoted fate all later
noted_counts fate all counts later so others better = record {
  reports = ap (λ (c : Counts). c.reports) others ∙ so.reports;
  unreported = subst (Table all) (sym (ap (λ (c : Counts). c.unreported) others)) so.unreported;
  places = ap (λ (c : Counts). length c.unreported) others ∙ so.places;
  quality = better;
  others = subst (AreOthers (filter_map meeting_of all)) (sym (ap (λ (c : Counts). c.others) others)) so.others;
  announces = subst (AreAnnounces (announcements all)) (sym (ap (λ (c : Counts). c.announces) others)) so.announces;
}

more_by : (why : Option NoReport) (fate : Fate) (all : List Fate) (counts : Counts) (others : Others) (announces : Announces) → fate.why ≡ why
    → fate.measured ≡ None → IsNoted fate all counts
    → AreOthers (filter_map meeting_of (fate ∷ all)) others → AreAnnounces (announcements (fate ∷ all)) announces
    → IsCounts (fate ∷ all) (record (with_why fate.kind why counts) { others = others; announces = announces })
more_by None fate all counts others announces is unmeasured so met told = record {
  reports = count_no (λ f. is_some f.measured) fate all counts.reports (ap is_some unmeasured) so.reports;
  unreported = table_none fate all counts.unreported so.places so.unreported is;
  places = so.places;
  quality = so.quality;
  others = met;
  announces = told;
}
more_by (Some own) fate all counts others announces is unmeasured so met told = record {
  reports = count_no (λ f. is_some f.measured) fate all counts.reports (ap is_some unmeasured) so.reports;
  unreported = table_more fate all counts.unreported so.places so.unreported own is;
  places = length-set counts.unreported (place_of fate.kind own) _ ∙ so.places;
  quality = so.quality;
  others = met;
  announces = told;
}

-- of one that a port hears in this state
pub heard_counts : (w : Watched) (d : Recorded) (octets : List ℕ) (m : Contents) (l : Listening) (b : Became) (all : List Fate) (counts : Counts)
    (others : Others) → d.said ≡ Ok m → b ≡ became_of w d.line d.time m m.body l → IsNoted (fate_in w d octets l) all counts
    → AreOthers (cons_option (meeting_at d.line d.time m.body m.header (why_by w.domain m.header b) (is_anew b)) (filter_map meeting_of all))
    others
    → IsCounts (fate_in w d octets l ∷ all)
    (record (with_why (kind_of m.body) (why_by w.domain m.header b) counts) { others = others })
heard_counts w d octets m l b all counts others said is so met =
    let own : Recorded = record d { said = Ok m } in
    let why = ap (why_by w.domain m.header) is ∙ why-became w d.line d.time m m.body l in
    let slave = ap is_slave_anew is ∙ slave-became w d.line d.time m m.body l in
    let master = ap is_master_anew is ∙ master-became w d.line d.time m m.body l in
    let met_at : Option NoReport → Bool → Bool → Type 0 =
    λ (y : Option NoReport) (s t : Bool). AreOthers (cons_option (meeting_at d.line d.time m.body m.header y (s || t)) (filter_map meeting_of all))
    others in
    let noted : IsNoted (fate_in w own octets l) all counts =
    subst (λ (s : Reading). IsNoted (fate_in w (record d { said = s }) octets l) all counts) said so in
    subst (λ (s : Reading). IsCounts (fate_in w (record d { said = s }) octets l ∷ all)
    (record (with_why (kind_of m.body) (why_by w.domain m.header b) counts) { others = others })) (sym said)
    (subst (λ (a : Announces). IsCounts (fate_in w own octets l ∷ all)
    (record (with_why (kind_of m.body) (why_by w.domain m.header b) counts) { others = others; announces = a }))
    (sym (announces_same (kind_of m.body) (why_by w.domain m.header b) counts))
    (more_by (why_by w.domain m.header b) (fate_in w own octets l) all counts others counts.announces (sym why) refl noted
    (subst (λ (it : Option NoReport × (Bool × Bool)). met_at it.0 it.1.0 it.1.1) (λ i. (why i, (slave i, master i))) met)
    noted.announces))

-- of one that isn't one of the four messages
pub refused_counts : (w : Watched) (d : Recorded) (octets : List ℕ) (refusal : DecodeRefusal) (l : Listening) (all : List Fate) (counts : Counts)
    (announces : Announces) → d.said ≡ Err refusal → IsNoted (fate_in w d octets l) all counts
    → AreAnnounces (cons_option (announcement_said w d.line (Err refusal) octets) (announcements all)) announces
    → IsCounts (fate_in w d octets l ∷ all)
    (record (with_unreported (kind_of_refused refusal) (why_refused (kind_of_refused refusal)) counts) { announces = announces })
refused_counts w d octets refusal l all counts announces said so told =
    let own : Recorded = record d { said = Err refusal } in
    subst (λ (s : Reading). IsCounts (fate_in w (record d { said = s }) octets l ∷ all)
    (record (with_unreported (kind_of_refused refusal) (why_refused (kind_of_refused refusal)) counts) { announces = announces })) (sym said)
    (more_by (Some (why_refused (kind_of_refused refusal))) (fate_in w own octets l) all counts counts.others announces refl refl
    (subst (λ (s : Reading). IsNoted (fate_in w (record d { said = s }) octets l) all counts) said so) so.others told)

-- of one that came too early
pub early_counts : (d : Recorded) (m : Contents) (all : List Fate) (counts : Counts) → d.said ≡ Ok m → IsNoted (early_fate d) all counts
    → IsCounts (early_fate d ∷ all) (with_unreported (kind_of m.body) whys.TooEarly counts)
early_counts d m all counts said so =
    let own : Recorded = record d { said = Ok m } in
    subst (λ (s : Reading). IsCounts (early_fate (record d { said = s }) ∷ all)
    (with_unreported (kind_of m.body) whys.TooEarly counts)) (sym said)
    (more_by (Some whys.TooEarly) (early_fate own) all counts counts.others counts.announces refl refl
    (subst (λ (s : Reading). IsNoted (early_fate (record d { said = s })) all counts) said so) so.others so.announces)

pub early_refused_counts : (d : Recorded) (refusal : DecodeRefusal) (all : List Fate) (counts : Counts) → d.said ≡ Err refusal
    → IsNoted (early_fate d) all counts
    → IsCounts (early_fate d ∷ all) (with_unreported (kind_of_refused refusal) (why_refused (kind_of_refused refusal)) counts)
early_refused_counts d refusal all counts said so =
    let own : Recorded = record d { said = Err refusal } in
    subst (λ (s : Reading). IsCounts (early_fate (record d { said = s }) ∷ all)
    (with_unreported (kind_of_refused refusal) (why_refused (kind_of_refused refusal)) counts)) (sym said)
    (more_by (Some (why_refused (kind_of_refused refusal))) (early_fate own) all counts counts.others counts.announces refl refl
    (subst (λ (s : Reading). IsNoted (early_fate (record d { said = s })) all counts) said so) so.others so.announces)

-- ---- of a report that was written
same_head : (f g : Fate) (all : List Fate) (p : Fate → Bool) → p f ≡ p g → count_by p (f ∷ all) ≡ count_by p (g ∷ all)
same_head f g all p same =
    sum_by-cons (λ x. cond (p x) 1 0) f all ∙ ap (λ (b : Bool). cond b 1 0 + count_by p all) same
    ∙ sym (sum_by-cons (λ x. cond (p x) 1 0) g all)

pub written_counts : (fate : Fate) (all : List Fate) (counts : Counts) (quality : Quality) (m : Measured) → fate.measured ≡ None
    → IsCounts (fate ∷ all) counts → IsQuality (map noted_of (record fate { measured = Some m } ∷ all)) quality
    → IsCounts (record fate { measured = Some m } ∷ all)
    (record counts { reports = with_one counts.reports; quality = quality })
written_counts fate all counts quality m unmeasured so better =
    let now : Fate = record fate { measured = Some m } in record {
      reports =
          let before = sum_by-cons (λ f. cond (is_some f.measured) 1 0) fate all in
          let none = ap {B = ℕ} (λ (o : Option Measured). cond (is_some o) 1 0) unmeasured in
          let more = sum_by-cons (λ f. cond (is_some f.measured) 1 0) now all in
          omega (arith, before, none, more, so.reports);
      unreported = λ kind why. so.unreported kind why ∙ ap at_most (same_head fate now all (is_so kind why) refl);
      places = so.places;
      quality = better;
      others = so.others;
      announces = so.announces;
    }

-- the report of a datagram is noted beside it
pub written_quality : (fate : Fate) (all : List Fate) (line time : ℕ) (m : Measured) (before after : Quality) → fate.measured ≡ None
    → fate.datagram.line ≡ line → fate.datagram.time ≡ time → IsQuality (map noted_of (fate ∷ all)) before
    → ((refusal : Option DecodeRefusal) (earlier : List Noted)
    → IsQuality (record { line = line; time = time; refusal = refusal; reported = None } ∷ earlier) before
    → IsQuality (record { line = line; time = time; refusal = refusal; reported = Some (record { by = m.by; report = m.report; exchange = m.exchange }) }
    ∷ earlier) after)
    → IsQuality (map noted_of (record fate { measured = Some m } ∷ all)) after
written_quality fate all line time m before after unmeasured of_line of_time so notes =
    let refusal : Option DecodeRefusal = result_err fate.datagram.said in
    let of : (l t : ℕ) → Option Reported → Noted =
    λ (l : ℕ) (t : ℕ) (r : Option Reported). record { line = l; time = t; refusal = refusal; reported = r } in
    let reported : Option Measured → Option Reported = λ (o : Option Measured). option_map (λ x. record { by = x.by; report = x.report; exchange = x.exchange }) o in
    let noted : IsQuality (of line time None ∷ map noted_of all) before =
    subst (λ (n : Noted). IsQuality (n ∷ map noted_of all) before)
    (λ i. of (of_line i) (of_time i) (reported (unmeasured i))) so in
    subst (λ (n : Noted). IsQuality (n ∷ map noted_of all) after)
    (λ i. of (sym of_line i) (sym of_time i) (reported (Some m)))
    (notes refusal (map noted_of all) noted)

-- ---- none
pub no_counts : (counts : Counts) → AreNone counts → IsCounts [] counts
no_counts counts none = record {
  reports = none.reports;
  unreported = λ kind why. ap (λ (there : List ℕ). get_or there (place_of kind why) 0) none.unreported
      ∙ get_or-replicate 140 (place_of kind why) 0 0 (place_few kind why);
  places = ap length none.unreported ∙ length-replicate {A = ℕ} 140 0;
  quality = none.quality;
  others = none.others;
  announces = none.announces;
}
