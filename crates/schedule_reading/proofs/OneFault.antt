-- The one fault of a line after nodes and events, by what the line is read as. Left out are the writer's fault and want of
-- memory, of which a line says nothing.
use Rattle.std.proofs.Common.{◌≡◌, ◌≢◌, ◌∙◌, inl, inr, ℕ, ◌==◌, true, if◌then◌else◌, List, [], ◌∷◌, length, Option, Some, None}
use Rattle.std.proofs.Common.{Result, Ok, Err, refl, sym, ap}
use Rattle.std.specs.Prelude.{option_map, IsOk, ⊤}
use Rattle.std.proofs.lemmas.Bool.{ne_eqb, eq-eqb}
use Rattle.network_model.specs.declared.event.Event.{Event}
use Rattle.network_model.specs.declared.refusal.WorldRefusal.{WorldRefusal}
use Rattle.network_model.specs.Network.{Network}
use Rattle.network_model.specs.Run.{Run}
use Rattle.network_model.specs.Clash.{first_clash}
use Rattle.network_model.specs.Outcome.{outcome_of}
use Rattle.network_model.proofs.Options.{ok_value}
use Rattle.trace_model.specs.Line.{Lines}
use Rattle.schedule_lines.specs.declared.reading.schedule.Line.{Line}
use Rattle.schedule_lines.specs.declared.reading.schedule.Line.TheVariants as entries
use Rattle.schedule_lines.specs.declared.reading.transcript.TranscriptLine.{TranscriptLine}
use Rattle.schedule_lines.specs.declared.reading.transcript.TranscriptLine.TheVariants as recorded
use Rattle.schedule_reading.specs.declared.fault.TaskFault.{TaskFault}
use Rattle.schedule_reading.specs.declared.fault.TaskFault.TheVariants.{Write, Json, Field, World, Memory}
use Rattle.schedule_reading.specs.Entry.{entry_in, recorded_in}
use Rattle.schedule_reading.specs.Fault.{is_write}
use Rattle.schedule_reading.specs.Schedule.{refusal_of, FaultsIn, FaultsAtEnd}
use Rattle.schedule_reading.specs.Transcript.{Recorded, Follows, IsOutOfPlace, FaultsInTranscript, HasNoChecker}

-- a fault that is neither the writer's nor want of memory
abbrev pub IsInText : TaskFault → Type 0
IsInText Write = ⊥
IsInText Json = ⊤
IsInText Field = ⊤
IsInText (World why) = ⊤
IsInText Memory = ⊥

pub in_text : (Device : TaskFault → Type 0) → Device Write → Device Memory → (fault : TaskFault) → (Device fault → ⊥) → IsInText fault
in_text Device write memory Write sure = sure write
in_text Device write memory Json sure = tt
in_text Device write memory Field sure = tt
in_text Device write memory (World why) sure = tt
in_text Device write memory Memory sure = sure memory

pub of_writer : (Device : TaskFault → Type 0) → Device Write → (fault : TaskFault) → is_write fault ≡ true → Device fault
of_writer Device write Write is = write
of_writer Device write Json is = absurd cc
of_writer Device write Field is = absurd cc
of_writer Device write (World why) is = absurd cc
of_writer Device write Memory is = absurd cc

pub same_fault : (fault : Option TaskFault) (one other : TaskFault) → fault ≡ Some one → fault ≡ Some other → other ≡ one
same_fault fault one other h k = cc (h, k)

abbrev pub where_begun : {A : Type 0} → List A → Option TaskFault
where_begun [] = None
where_begun (first ∷ others) = Some Field

begun : {A : Type 0} (xs : List A) → xs ≢ [] → where_begun xs ≡ Some Field
begun [] some = absurd (some refl)
begun (x ∷ xs) some = refl

-- ---- schedules

abbrev pub entry_fault : Network → Run → Result Line TaskFault → Option TaskFault
entry_fault nodes run (Err fault) = Some fault
entry_fault nodes run (Ok (entries.Node node)) = where_begun run
entry_fault nodes run (Ok (entries.Event event)) = option_map World (refusal_of nodes run event)

pub the_fault : (nodes : Network) (run : Run) (line : List ℕ) (fault : TaskFault) → IsInText fault → FaultsIn fault nodes run line
    → entry_fault nodes run (entry_in line) ≡ Some fault
the_fault nodes run line Write own is = absurd own
the_fault nodes run line Memory own is = absurd own
the_fault nodes run line Json own is = ap (entry_fault nodes run) is
the_fault nodes run line Field own (inl error) = ap (entry_fault nodes run) error
the_fault nodes run line Field own (inr (node, is, some)) = ap (entry_fault nodes run) is ∙ begun run some
the_fault nodes run line (World why) own (event, is, refused) = ap (entry_fault nodes run) is ∙ ap (option_map World) refused

-- an event that happens has none
pub happens_well : (nodes : Network) (run : Run) (event : Event) → first_clash nodes ≡ None → IsOk (outcome_of nodes run event)
    → entry_fault nodes run (Ok (entries.Event event)) ≡ None
happens_well nodes run event network accepted =
    let (stepped, happened) = ok_value (outcome_of nodes run event) accepted in rw (network, happened) refl

-- nodes that are a network have none at the end
pub clash_at_end : (fault : TaskFault) (nodes : Network) → IsInText fault → FaultsAtEnd fault nodes → option_map World (first_clash nodes) ≡ Some fault
clash_at_end (World why) nodes own clash = ap (option_map World) clash
clash_at_end Write nodes own fault = absurd own
clash_at_end Memory nodes own fault = absurd own
clash_at_end Json nodes own fault = absurd fault
clash_at_end Field nodes own fault = absurd fault

pub no_clash : (fault : TaskFault) (nodes : Network) → option_map World (first_clash nodes) ≡ Some fault → first_clash nodes ≡ None → ⊥
no_clash fault nodes clash none = let fine : option_map World (first_clash nodes) ≡ None = ap (option_map World) none in absurd (cc (clash, fine))

-- ---- transcripts

abbrev pub at_place : Recorded → ℕ → Option TaskFault
at_place s number = if number == length s.lines then option_map World (first_clash s.nodes) else Some Field

abbrev pub record_fault : Recorded → Result TranscriptLine TaskFault → Option TaskFault
record_fault s (Err fault) = Some fault
record_fault s (Ok (recorded.Node node)) = where_begun s.lines
record_fault s (Ok (recorded.Event number line)) = at_place s number

misplaced : (s : Recorded) (number : ℕ) → number ≢ length s.lines → at_place s number ≡ Some Field
misplaced s number out = rw (ne_eqb number (length s.lines) out) refl

clashes : (s : Recorded) (why : WorldRefusal) → s.lines ≡ [] → first_clash s.nodes ≡ Some why → at_place s 0 ≡ Some (World why)
clashes s why none clash =
    ap (λ (lines : Lines). if 0 == length lines then option_map World (first_clash s.nodes) else Some Field) none ∙ ap (option_map World) clash

out_of_place : (s : Recorded) (entry : TranscriptLine) → IsOutOfPlace s.lines entry → record_fault s (Ok entry) ≡ Some Field
out_of_place s (recorded.Node node) out = begun s.lines out
out_of_place s (recorded.Event number line) out = misplaced s number out

pub the_record_fault : (s : Recorded) (line : List ℕ) (fault : TaskFault) → IsInText fault → FaultsInTranscript fault s.nodes s.lines line
    → record_fault s (recorded_in line) ≡ Some fault
the_record_fault s line Write own is = absurd own
the_record_fault s line Memory own is = absurd own
the_record_fault s line Json own is = ap (record_fault s) is
the_record_fault s line Field own (inl error) = ap (record_fault s) error
the_record_fault s line Field own (inr (entry, is, out)) = ap (record_fault s) is ∙ out_of_place s entry out
the_record_fault s line (World why) own (first, is, none, clash) = ap (record_fault s) is ∙ clashes s why none clash

pub no_record_fault : (s later : Recorded) (entry : TranscriptLine) → Follows entry s later → record_fault s (Ok entry) ≡ None
no_record_fault s later (recorded.Node node) (first, is) = ap where_begun first
no_record_fault s later (recorded.Event number line) (place, network, is) =
    ap (at_place s) place ∙ rw (eq-eqb (length s.lines) (length s.lines) refl) (ap (option_map World) network)

pub one_recorded : (s one other : Recorded) (entry : TranscriptLine) → Follows entry s one → Follows entry s other → other ≡ one
one_recorded s one other (recorded.Node node) h k = k.1 ∙ sym h.1
one_recorded s one other (recorded.Event number line) h k = k.2 ∙ sym h.2

-- where there is no checker at the end, the nodes are no network
pub no_checker : (fault : TaskFault) (s : Recorded) → IsInText fault → HasNoChecker fault s → option_map World (first_clash s.nodes) ≡ Some fault
no_checker (World why) s own (none, clash) = ap (option_map World) clash
no_checker Write s own fault = absurd own
no_checker Memory s own fault = absurd own
no_checker Json s own fault = absurd fault
no_checker Field s own fault = absurd fault
