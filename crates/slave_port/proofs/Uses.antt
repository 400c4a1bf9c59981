-- A message that a slave can use: of which kind it is, and what it was tested for. A Sync or a Follow_Up that can be used
-- is used; a Delay_Resp is where it completes a request.
use Rattle.std.proofs.Common.{◌≡◌, ◌∙◌, ℕ, Bool, true, false, List, [], ◌∷◌, ◌++◌, Option, Some, None, Ok, Err, refl, sym, ap, subst, option_map, option_and_then, if◌then◌else◌, arith}
use Rattle.std.specs.Prelude.{◌==◌, ◌&&◌, not, int_lt, is_none, Result}
use Rattle.std.specs.Option.{option_or}
use Rattle.std.specs.Result.{result_ok, result_err}
use Rattle.std.specs.Str.{bytes_eq}
use Rattle.std.proofs.lemmas.Bool.{and_parts, not-false, eqb-true}
use Rattle.std.proofs.lemmas.Slice.Eq.{bytes_eq-Decides}
use Rattle.ptp_units.specs.Interval.{too_big}
use Rattle.ptp_units.specs.Moment.{Stamp}
use Rattle.event_codec.specs.declared.message.Header.{Header}
use Rattle.event_codec.specs.declared.message.Body.{Body}
use Rattle.event_codec.specs.declared.message.Body.TheVariants as bodies
use Rattle.event_codec.specs.declared.port.PortIdentity.{PortIdentity}
use Rattle.event_codec.specs.Packet.{Contents}
use Rattle.pairing.specs.Marked.{Entry, entry, first_value}
use Rattle.slave_port.specs.declared.heard.Heard.TheVariants as answers
use Rattle.event_codec.specs.Port.{is_same_port}
use Rattle.slave_port.specs.declared.heard.Report.{Report}
use Rattle.slave_port.specs.declared.reason.Reason.{Reason}
use Rattle.slave_port.specs.declared.reason.Reason.TheVariants as reasons
use Rattle.slave_port.specs.declared.used.Used.{Used}
use Rattle.slave_port.specs.declared.used.Used.TheVariants as uses
use Rattle.slave_port.specs.History as calls
use Rattle.slave_port.specs.History.{Call, Setup}
use Rattle.slave_port.specs.Values.{SyncValue, OneStepValue, FollowValue, ResponseValue, RequestValue}
use Rattle.slave_port.specs.Used.{part, two_step_sync, follow_up, delay_resp}
use Rattle.slave_port.specs.Usable.{Criteria, Test, first_reason, common_tests, is_other, is_too_big, is_not_newer, is_two_step, sync_reason, response_reason, sync_use, used_unless, event_use, general_use, judged, usable_in, unusable_in}
use Rattle.slave_port.specs.Requests.{held_requests}
use Rattle.slave_port.specs.Completion.{SyncCompletion, DelayCompletion, pair, alone, responded, answered, completed_by}
use Rattle.slave_port.specs.Kept.{criteria, usable, usable_two_step_sync, usable_follow_up, usable_delay_resp, held_syncs, held_follows, sync_completion, delay_completion, last_sync_completion, last_delay_completion}
use Rattle.slave_port.specs.Answer.{request_reason, unanswerable, ignored, report_of, completed, used, unless_ignored, answer}
use Rattle.slave_port.proofs.Options.{some_step, some_image}

same_octets : (a b : List ℕ) → bytes_eq a b ≡ true → a ≡ b
same_octets a b same = grind (arith, bytes_eq-Decides a b)

octets_self : (a : List ℕ) → bytes_eq a a ≡ true
octets_self a = grind (arith, bytes_eq-Decides a a)

-- ports that a slave takes for one are one
pub same_port : (a b : PortIdentity) → is_same_port a b ≡ true → a ≡ b
same_port a b same =
    let parts = and_parts (bytes_eq a.clock b.clock) (a.port == b.port) same in
    let clock : a.clock ≡ b.clock = same_octets a.clock b.clock parts.0 in
    let port : a.port ≡ b.port = eqb-true a.port b.port parts.1 in
    grind arith

-- a message that is of the port's domain and from its present master, with a correction that isn't too big
pub record Passes (judge : Criteria) (header : Header) : Type 0 where
  pub master : PortIdentity
  pub present : judge.master ≡ Some master
  pub source : header.source ≡ master
  pub domain : header.domain ≡ judge.config.domain
  pub small : int_lt header.correction.0 too_big ≡ true

-- a Sync that can be used
pub record HeardSync (judge : Criteria) (call : Call) : Type 0 where
  pub m : Contents
  pub t2 : ℕ
  pub tag : ℕ
  pub origin : Stamp
  pub call_is : call ≡ calls.Event (Ok m) t2 tag
  pub body : m.body ≡ bodies.Sync origin
  pub passes : Passes judge m.header
  pub newer : is_not_newer judge.last m.header.sequence.0 ≡ false

-- a Follow_Up that can be used
pub record HeardFollowUp (judge : Criteria) (call : Call) : Type 0 where
  pub m : Contents
  pub tag : ℕ
  pub precise : Stamp
  pub call_is : call ≡ calls.General (Ok m) tag
  pub body : m.body ≡ bodies.FollowUp precise
  pub passes : Passes judge m.header
  pub newer : is_not_newer judge.last m.header.sequence.0 ≡ false

-- a Delay_Resp that can be used
pub record HeardDelayResp (judge : Criteria) (call : Call) : Type 0 where
  pub m : Contents
  pub tag : ℕ
  pub receive : Stamp
  pub requesting : PortIdentity
  pub call_is : call ≡ calls.General (Ok m) tag
  pub body : m.body ≡ bodies.DelayResp receive requesting
  pub passes : Passes judge m.header
  pub own : requesting ≡ judge.config.identity

-- what is taken from each
abbrev pub two_step_value : {judge : Criteria} {call : Call} → HeardSync judge call → SyncValue
two_step_value h = record { t2 = h.t2; correction = h.m.header.correction.0; tag = h.tag }

abbrev pub one_step_value : {judge : Criteria} {call : Call} → HeardSync judge call → OneStepValue
one_step_value h = record { t2 = h.t2; origin = h.origin; correction = h.m.header.correction.0; tag = h.tag }

abbrev pub follow_value : {judge : Criteria} {call : Call} → HeardFollowUp judge call → FollowValue
follow_value h = record { precise = h.precise; correction = h.m.header.correction.0; tag = h.tag }

abbrev pub response_value : {judge : Criteria} {call : Call} → HeardDelayResp judge call → ResponseValue
response_value h = record { receive = h.receive; correction = h.m.header.correction.0; tag = h.tag }

data IsUse (judge : Criteria) (call : Call) (used : Entry Used) : Type 0 where
  TwoStep : (h : HeardSync judge call) → is_two_step h.m.header ≡ true → used ≡ entry h.m.header.sequence.0 (uses.TwoStepSync (two_step_value h)) → IsUse judge call used
  OneStep : (h : HeardSync judge call) → is_two_step h.m.header ≡ false → used ≡ entry h.m.header.sequence.0 (uses.OneStepSync (one_step_value h)) → IsUse judge call used
  FollowUp : (h : HeardFollowUp judge call) → used ≡ entry h.m.header.sequence.0 (uses.FollowUp (follow_value h)) → IsUse judge call used
  DelayResp : (h : HeardDelayResp judge call) → used ≡ entry h.m.header.sequence.0 (uses.DelayResp (response_value h)) → IsUse judge call used

-- a Sync is used by its twoStepFlag
sync_used : (judge : Criteria) (call : Call) (used : Entry Used) (h : HeardSync judge call) → used ≡ entry h.m.header.sequence.0 (sync_use h.m.header h.origin h.t2 h.tag)
    → IsUse judge call used
sync_used judge call used h is = by (is_two_step h.m.header) refl is
  where
    by : (flag : Bool) → is_two_step h.m.header ≡ flag
        → used ≡ entry h.m.header.sequence.0 (if flag then uses.TwoStepSync (two_step_value h) else uses.OneStepSync (one_step_value h)) → IsUse judge call used
    by true e is = TwoStep h e is
    by false e is = OneStep h e is

-- where no test applies, the first doesn't and none of the others does
passed : (t : Test) (tests : List Test) → first_reason (t ∷ tests) ≡ None → (t.applies ≡ false) × (first_reason tests ≡ None)
passed t tests none = by t.applies refl none
  where
    by : (applies : Bool) → t.applies ≡ applies → (if applies then Some t.reason else first_reason tests) ≡ None
        → (t.applies ≡ false) × (first_reason tests ≡ None)
    by true e none = cc
    by false e none = (e, none)

passes_all : (judge : Criteria) (header : Header) (others : List Test) → first_reason (common_tests judge header ++ others) ≡ None
    → Passes judge header × (first_reason others ≡ None)
passes_all judge header others none =
    let domain = passed (record { applies = not (header.domain == judge.config.domain); reason = reasons.OtherDomain })
    (record { applies = is_none judge.master; reason = reasons.NoMaster }
    ∷ record { applies = is_other judge.master header.source; reason = reasons.OtherMaster }
    ∷ record { applies = is_too_big header; reason = reasons.TooBig } ∷ others) none in
    let known = passed (record { applies = is_none judge.master; reason = reasons.NoMaster })
    (record { applies = is_other judge.master header.source; reason = reasons.OtherMaster }
    ∷ record { applies = is_too_big header; reason = reasons.TooBig } ∷ others) domain.1 in
    let present = passed (record { applies = is_other judge.master header.source; reason = reasons.OtherMaster })
    (record { applies = is_too_big header; reason = reasons.TooBig } ∷ others) known.1 in
    let small = passed (record { applies = is_too_big header; reason = reasons.TooBig }) others present.1 in
    let from = source judge.master present.0 in (
      record {
        master = from.0;
        present = from.1;
        source = same_port header.source from.0 from.2;
        domain = eqb-true header.domain judge.config.domain (not-false (header.domain == judge.config.domain) domain.0);
        small = not-false (int_lt header.correction.0 too_big) small.0;
      },
      small.1,
    )
  where
    source : (master : Option PortIdentity) → is_other master header.source ≡ false
        → (m : PortIdentity) × (master ≡ Some m) × (is_same_port header.source m ≡ true)
    source None other = cc
    source (Some m) other = (m, refl, not-false (is_same_port header.source m) other)

-- it is used as this, where there is no reason against it
unless_reason : (reason : Option Reason) (chosen : Entry Used) (used : Entry Used) → result_ok (used_unless reason chosen) ≡ Some used → (reason ≡ None) × (used ≡ chosen)
unless_reason None chosen used is = (refl, cc)
unless_reason (Some reason) chosen used is = cc

-- what a call that can be used is used as
use_of : (judge : Criteria) (call : Call) (used : Entry Used) → usable_in judge call ≡ Some used → IsUse judge call used
use_of judge (calls.SetMaster master) used is = cc
use_of judge calls.Tick used is = cc
use_of judge (calls.NextRequest tag) used is = cc
use_of judge (calls.RequestLeft number t3) used is = cc
use_of judge (calls.Event (Err refusal) t2 tag) used is = cc
use_of judge (calls.General (Err refusal) tag) used is = cc
use_of judge (calls.Event (Ok m) t2 tag) used is = by m.body refl is
  where
    by : (body : Body) → m.body ≡ body → result_ok (event_use judge m.header body t2 tag) ≡ Some used → IsUse judge (calls.Event (Ok m) t2 tag) used
    by (bodies.Sync origin) body is =
        let unless = unless_reason (sync_reason judge m.header) (entry m.header.sequence.0 (sync_use m.header origin t2 tag)) used is in
        let tests = passes_all judge m.header (record { applies = is_not_newer judge.last m.header.sequence.0; reason = reasons.NotNewer } ∷ []) unless.0 in
        sync_used judge (calls.Event (Ok m) t2 tag) used (record {
          m = m;
          t2 = t2;
          tag = tag;
          origin = origin;
          call_is = refl;
          body = body;
          passes = tests.0;
          newer = (passed (record { applies = is_not_newer judge.last m.header.sequence.0; reason = reasons.NotNewer }) [] tests.1).0;
        }) unless.1
    by (bodies.DelayReq origin) body is = cc
    by (bodies.FollowUp precise) body is = cc
    by (bodies.DelayResp receive requesting) body is = cc
use_of judge (calls.General (Ok m) tag) used is = by m.body refl is
  where
    by : (body : Body) → m.body ≡ body → result_ok (general_use judge m.header body tag) ≡ Some used → IsUse judge (calls.General (Ok m) tag) used
    by (bodies.Sync origin) body is = cc
    by (bodies.DelayReq origin) body is = cc
    by (bodies.FollowUp precise) body is =
        let unless = unless_reason (sync_reason judge m.header)
        (entry m.header.sequence.0 (uses.FollowUp (record { precise = precise; correction = m.header.correction.0; tag = tag }))) used is in
        let tests = passes_all judge m.header (record { applies = is_not_newer judge.last m.header.sequence.0; reason = reasons.NotNewer } ∷ []) unless.0 in
        FollowUp (record {
          m = m;
          tag = tag;
          precise = precise;
          call_is = refl;
          body = body;
          passes = tests.0;
          newer = (passed (record { applies = is_not_newer judge.last m.header.sequence.0; reason = reasons.NotNewer }) [] tests.1).0;
        }) unless.1
    by (bodies.DelayResp receive requesting) body is =
        let unless = unless_reason (response_reason judge m.header requesting)
        (entry m.header.sequence.0 (uses.DelayResp (record { receive = receive; correction = m.header.correction.0; tag = tag }))) used is in
        let tests = passes_all judge m.header (record { applies = not (is_same_port requesting judge.config.identity); reason = reasons.OtherRequester } ∷ []) unless.0 in
        DelayResp (record {
          m = m;
          tag = tag;
          receive = receive;
          requesting = requesting;
          call_is = refl;
          body = body;
          passes = tests.0;
          own = same_port requesting judge.config.identity (not-false (is_same_port requesting judge.config.identity)
              (passed (record { applies = not (is_same_port requesting judge.config.identity); reason = reasons.OtherRequester }) [] tests.1).0);
        }) unless.1

-- a message that can be used meets no reason
usable_no_reason : (judge : Criteria) (call : Call) (chosen : Entry Used) → usable_in judge call ≡ Some chosen → unusable_in judge call ≡ None
usable_no_reason judge call chosen is = by (judged judge call) is
  where
    by : (j : Option (Result (Entry Used) Reason)) → option_and_then result_ok j ≡ Some chosen → option_and_then result_err j ≡ None
    by None is = cc
    by (Some (Ok u)) is = refl
    by (Some (Err reason)) is = cc

-- a call that can be used, and that isn't a Delay_Resp without its request, is used
answer-used : (setup : Setup) (earlier : List Call) (call : Call) (chosen : Entry Used) → usable setup earlier call ≡ Some chosen → unanswerable setup earlier call ≡ None
    → answer setup earlier call ≡ used setup earlier call
answer-used setup earlier call chosen is none =
    let no_reason : ignored setup earlier call ≡ None =
    ap (λ (r : Option Reason). option_or r (unanswerable setup earlier call)) (usable_no_reason (criteria setup earlier) call chosen is) ∙ none in
    ap (λ (r : Option Reason). unless_ignored r (used setup earlier call)) no_reason

-- no Sync and no Follow_Up is a Delay_Resp without its request
answerable : (setup : Setup) (earlier : List Call) (call : Call) (chosen : Entry Used) → usable setup earlier call ≡ Some chosen → delay_resp chosen.value ≡ None
    → unanswerable setup earlier call ≡ None
answerable setup earlier call chosen is other =
    let none : usable_delay_resp setup earlier call ≡ None =
    ap (option_and_then (part delay_resp)) is ∙ ap (option_map (entry chosen.number)) other in
    ap (option_and_then (λ (response : Entry ResponseValue). request_reason (first_value response.number (held_requests setup earlier)))) none

-- a Delay_Resp that completes a request isn't without it
completes_answerable : (setup : Setup) (earlier : List Call) (call : Call) (c : DelayCompletion) → delay_completion setup earlier call ≡ Some c
    → unanswerable setup earlier call ≡ None
completes_answerable setup earlier call c is =
    let response = some_step (λ (response : Entry ResponseValue). option_and_then (answered response.number response.value) (first_value response.number (held_requests setup earlier)))
    (usable_delay_resp setup earlier call) is in
    let request = some_step (answered response.0.number response.0.value) (first_value response.0.number (held_requests setup earlier)) response.2 in
    ap (option_and_then (λ (response : Entry ResponseValue). request_reason (first_value response.number (held_requests setup earlier)))) response.1
    ∙ ap request_reason request.1 ∙ left (responded response.0.number response.0.value request.0) request.0.t3 request.2
  where
    left : (f : ℕ → DelayCompletion) (t3 : Option ℕ) → option_map f t3 ≡ Some c → (if is_none t3 then Some reasons.EgressUnknown else None) ≡ None
    left f None is = cc
    left f (Some t) is = refl

-- the two-step Sync that a call brings
pub record IsTwoStepEntry (setup : Setup) (earlier : List Call) (call : Call) (e : Entry SyncValue) : Type 0 where
  pub h : HeardSync (criteria setup earlier) call
  pub flag : is_two_step h.m.header ≡ true
  pub is : e ≡ entry h.m.header.sequence.0 (two_step_value h)
  pub used : answer setup earlier call ≡ used setup earlier call
  pub completes : sync_completion setup earlier call
      ≡ option_map (pair h.m.header.sequence.0 (two_step_value h)) (first_value h.m.header.sequence.0 (held_follows setup earlier))

pub two_step_entry : (setup : Setup) (earlier : List Call) (call : Call) (e : Entry SyncValue) → usable_two_step_sync setup earlier call ≡ Some e
    → IsTwoStepEntry setup earlier call e
two_step_entry setup earlier call e is =
    let chosen = some_step (part two_step_sync) (usable setup earlier call) is in
    by chosen.0 (use_of (criteria setup earlier) call chosen.0 chosen.1) chosen.1 chosen.2
  where
    by : (chosen : Entry Used) → IsUse (criteria setup earlier) call chosen → usable setup earlier call ≡ Some chosen → part two_step_sync chosen ≡ Some e
        → IsTwoStepEntry setup earlier call e
    by chosen (TwoStep h flag same) usable part_is = record {
      h = h;
      flag = flag;
      is = let kind : part two_step_sync chosen ≡ Some (entry h.m.header.sequence.0 (two_step_value h)) = ap (part two_step_sync) same in cc;
      used = answer-used setup earlier call chosen usable (answerable setup earlier call chosen usable (ap (λ (u : Entry Used). delay_resp u.value) same));
      completes = ap (option_and_then (λ (u : Entry Used). completed_by (held_syncs setup earlier) (held_follows setup earlier) u.number u.value)) usable
          ∙ ap (λ (u : Entry Used). completed_by (held_syncs setup earlier) (held_follows setup earlier) u.number u.value) same;
    }
    by chosen (OneStep h flag same) usable part_is = let kind : part two_step_sync chosen ≡ None = ap (part two_step_sync) same in cc
    by chosen (FollowUp h same) usable part_is = let kind : part two_step_sync chosen ≡ None = ap (part two_step_sync) same in cc
    by chosen (DelayResp h same) usable part_is = let kind : part two_step_sync chosen ≡ None = ap (part two_step_sync) same in cc

-- the Follow_Up that a call brings
pub record IsFollowEntry (setup : Setup) (earlier : List Call) (call : Call) (e : Entry FollowValue) : Type 0 where
  pub h : HeardFollowUp (criteria setup earlier) call
  pub is : e ≡ entry h.m.header.sequence.0 (follow_value h)
  pub used : answer setup earlier call ≡ used setup earlier call
  pub completes : sync_completion setup earlier call
      ≡ option_map (λ sync. pair h.m.header.sequence.0 sync (follow_value h)) (first_value h.m.header.sequence.0 (held_syncs setup earlier))

pub follow_entry : (setup : Setup) (earlier : List Call) (call : Call) (e : Entry FollowValue) → usable_follow_up setup earlier call ≡ Some e
    → IsFollowEntry setup earlier call e
follow_entry setup earlier call e is =
    let chosen = some_step (part follow_up) (usable setup earlier call) is in
    by chosen.0 (use_of (criteria setup earlier) call chosen.0 chosen.1) chosen.1 chosen.2
  where
    by : (chosen : Entry Used) → IsUse (criteria setup earlier) call chosen → usable setup earlier call ≡ Some chosen → part follow_up chosen ≡ Some e
        → IsFollowEntry setup earlier call e
    by chosen (FollowUp h same) usable part_is = record {
      h = h;
      is = let kind : part follow_up chosen ≡ Some (entry h.m.header.sequence.0 (follow_value h)) = ap (part follow_up) same in cc;
      used = answer-used setup earlier call chosen usable (answerable setup earlier call chosen usable (ap (λ (u : Entry Used). delay_resp u.value) same));
      completes = ap (option_and_then (λ (u : Entry Used). completed_by (held_syncs setup earlier) (held_follows setup earlier) u.number u.value)) usable
          ∙ ap (λ (u : Entry Used). completed_by (held_syncs setup earlier) (held_follows setup earlier) u.number u.value) same;
    }
    by chosen (TwoStep h flag same) usable part_is = let kind : part follow_up chosen ≡ None = ap (part follow_up) same in cc
    by chosen (OneStep h flag same) usable part_is = let kind : part follow_up chosen ≡ None = ap (part follow_up) same in cc
    by chosen (DelayResp h same) usable part_is = let kind : part follow_up chosen ≡ None = ap (part follow_up) same in cc

-- the Delay_Resp that a call brings
pub record IsResponseEntry (setup : Setup) (earlier : List Call) (call : Call) (e : Entry ResponseValue) : Type 0 where
  pub h : HeardDelayResp (criteria setup earlier) call
  pub is : e ≡ entry h.m.header.sequence.0 (response_value h)

pub response_entry : (setup : Setup) (earlier : List Call) (call : Call) (e : Entry ResponseValue) → usable_delay_resp setup earlier call ≡ Some e
    → IsResponseEntry setup earlier call e
response_entry setup earlier call e is =
    let chosen = some_step (part delay_resp) (usable setup earlier call) is in
    by chosen.0 (use_of (criteria setup earlier) call chosen.0 chosen.1) chosen.2
  where
    by : (chosen : Entry Used) → IsUse (criteria setup earlier) call chosen → part delay_resp chosen ≡ Some e → IsResponseEntry setup earlier call e
    by chosen (DelayResp h same) part_is = record {
      h = h;
      is = let kind : part delay_resp chosen ≡ Some (entry h.m.header.sequence.0 (response_value h)) = ap (part delay_resp) same in cc;
    }
    by chosen (TwoStep h flag same) part_is = let kind : part delay_resp chosen ≡ None = ap (part delay_resp) same in cc
    by chosen (OneStep h flag same) part_is = let kind : part delay_resp chosen ≡ None = ap (part delay_resp) same in cc
    by chosen (FollowUp h same) part_is = let kind : part delay_resp chosen ≡ None = ap (part delay_resp) same in cc

-- a Sync completes by a Follow_Up that is held, alone, or by a Follow_Up that finds it held
pub data IsSyncCompletion (setup : Setup) (earlier : List Call) (call : Call) (c : SyncCompletion) : Type 0 where
  BySync : (h : HeardSync (criteria setup earlier) call) (follow : FollowValue) → is_two_step h.m.header ≡ true
      → first_value h.m.header.sequence.0 (held_follows setup earlier) ≡ Some follow → c ≡ pair h.m.header.sequence.0 (two_step_value h) follow
      → IsSyncCompletion setup earlier call c
  Alone : (h : HeardSync (criteria setup earlier) call) → is_two_step h.m.header ≡ false → c ≡ alone h.m.header.sequence.0 (one_step_value h)
      → IsSyncCompletion setup earlier call c
  ByFollowUp : (h : HeardFollowUp (criteria setup earlier) call) (sync : SyncValue)
      → first_value h.m.header.sequence.0 (held_syncs setup earlier) ≡ Some sync → c ≡ pair h.m.header.sequence.0 sync (follow_value h)
      → IsSyncCompletion setup earlier call c

-- what completes at a call, and that its message is used
pub sync_completion_of : (setup : Setup) (earlier : List Call) (call : Call) (c : SyncCompletion) → sync_completion setup earlier call ≡ Some c
    → IsSyncCompletion setup earlier call c × (answer setup earlier call ≡ used setup earlier call)
sync_completion_of setup earlier call c is =
    let syncs : List (Entry SyncValue) = held_syncs setup earlier in
    let follows : List (Entry FollowValue) = held_follows setup earlier in
    let chosen = some_step (λ (e : Entry Used). completed_by syncs follows e.number e.value) (usable setup earlier call) is in
    by chosen.0 (use_of (criteria setup earlier) call chosen.0 chosen.1) chosen.1 chosen.2
  where
    by : (chosen : Entry Used) → IsUse (criteria setup earlier) call chosen → usable setup earlier call ≡ Some chosen
        → completed_by (held_syncs setup earlier) (held_follows setup earlier) chosen.number chosen.value ≡ Some c
        → IsSyncCompletion setup earlier call c × (answer setup earlier call ≡ used setup earlier call)
    by chosen (TwoStep h flag same) usable completes =
        let found = some_image (pair h.m.header.sequence.0 (two_step_value h)) (first_value h.m.header.sequence.0 (held_follows setup earlier))
        (sym (ap (λ (u : Entry Used). completed_by (held_syncs setup earlier) (held_follows setup earlier) u.number u.value) same) ∙ completes) in (
          BySync h found.0 flag found.1 (sym found.2),
          answer-used setup earlier call chosen usable (answerable setup earlier call chosen usable (ap (λ (u : Entry Used). delay_resp u.value) same)),
        )
    by chosen (OneStep h flag same) usable completes =
        let completed : Some (alone h.m.header.sequence.0 (one_step_value h)) ≡ Some c =
        sym (ap (λ (u : Entry Used). completed_by (held_syncs setup earlier) (held_follows setup earlier) u.number u.value) same) ∙ completes in (
          Alone h flag cc,
          answer-used setup earlier call chosen usable (answerable setup earlier call chosen usable (ap (λ (u : Entry Used). delay_resp u.value) same)),
        )
    by chosen (FollowUp h same) usable completes =
        let found = some_image (λ (sync : SyncValue). pair h.m.header.sequence.0 sync (follow_value h)) (first_value h.m.header.sequence.0 (held_syncs setup earlier))
        (sym (ap (λ (u : Entry Used). completed_by (held_syncs setup earlier) (held_follows setup earlier) u.number u.value) same) ∙ completes) in (
          ByFollowUp h found.0 found.1 (sym found.2),
          answer-used setup earlier call chosen usable (answerable setup earlier call chosen usable (ap (λ (u : Entry Used). delay_resp u.value) same)),
        )
    by chosen (DelayResp h same) usable completes =
        let none : completed_by (held_syncs setup earlier) (held_follows setup earlier) chosen.number chosen.value ≡ None =
        ap (λ (u : Entry Used). completed_by (held_syncs setup earlier) (held_follows setup earlier) u.number u.value) same in cc

-- a request completes by a Delay_Resp that finds it held, and that knows when it left
pub record IsDelayCompletion (setup : Setup) (earlier : List Call) (call : Call) (c : DelayCompletion) : Type 0 where
  pub h : HeardDelayResp (criteria setup earlier) call
  pub request : RequestValue
  pub t3 : ℕ
  pub found : first_value h.m.header.sequence.0 (held_requests setup earlier) ≡ Some request
  pub left : request.t3 ≡ Some t3
  pub is : c ≡ responded h.m.header.sequence.0 (response_value h) request t3
  pub used : answer setup earlier call ≡ used setup earlier call

pub delay_completion_of : (setup : Setup) (earlier : List Call) (call : Call) (c : DelayCompletion) → delay_completion setup earlier call ≡ Some c
    → IsDelayCompletion setup earlier call c
delay_completion_of setup earlier call c is =
    let response = some_step (λ (response : Entry ResponseValue). option_and_then (answered response.number response.value) (first_value response.number (held_requests setup earlier)))
    (usable_delay_resp setup earlier call) is in
    let chosen = some_step (part delay_resp) (usable setup earlier call) response.1 in
    let use_is = response_entry setup earlier call response.0 response.1 in
    let request = some_step (answered response.0.number response.0.value) (first_value response.0.number (held_requests setup earlier)) response.2 in
    let t3 = some_image (responded response.0.number response.0.value request.0) request.0.t3 request.2 in
    record {
      h = use_is.h;
      request = request.0;
      t3 = t3.0;
      found = subst (λ (e : Entry ResponseValue). first_value e.number (held_requests setup earlier) ≡ Some request.0) use_is.is request.1;
      left = t3.1;
      is = subst (λ (e : Entry ResponseValue). c ≡ responded e.number e.value request.0 t3.0) use_is.is (sym t3.2);
      used = answer-used setup earlier call chosen.0 chosen.1 (completes_answerable setup earlier call c is);
    }

-- a report joins the two completions that the window has
pub report_parts : (setup : Setup) (earlier : List Call) (call : Call) (report : Report) → answer setup earlier call ≡ answers.Report report
    → (sync : SyncCompletion) × (delay : DelayCompletion) × (last_sync_completion setup (call ∷ earlier) ≡ Some sync)
    × (last_delay_completion setup (call ∷ earlier) ≡ Some delay) × (report ≡ report_of sync delay)
report_parts setup earlier call report is = by (ignored setup earlier call) is
  where
    parts : (last : Option SyncCompletion) (last_delay : Option DelayCompletion) → completed last last_delay ≡ answers.Report report
        → (sync : SyncCompletion) × (delay : DelayCompletion) × (last ≡ Some sync) × (last_delay ≡ Some delay) × (report ≡ report_of sync delay)
    parts None last_delay is = cc
    parts (Some sync) None is = cc
    parts (Some sync) (Some delay) is = (sync, delay, refl, refl, cc)

    of_used : (held : Bool)
        → (if held then answers.Held else completed (last_sync_completion setup (call ∷ earlier)) (last_delay_completion setup (call ∷ earlier))) ≡ answers.Report report
        → (sync : SyncCompletion) × (delay : DelayCompletion) × (last_sync_completion setup (call ∷ earlier) ≡ Some sync)
        × (last_delay_completion setup (call ∷ earlier) ≡ Some delay) × (report ≡ report_of sync delay)
    of_used true is = cc
    of_used false is = parts (last_sync_completion setup (call ∷ earlier)) (last_delay_completion setup (call ∷ earlier)) is

    by : (reason : Option Reason) → unless_ignored reason (used setup earlier call) ≡ answers.Report report
        → (sync : SyncCompletion) × (delay : DelayCompletion) × (last_sync_completion setup (call ∷ earlier) ≡ Some sync)
        × (last_delay_completion setup (call ∷ earlier) ≡ Some delay) × (report ≡ report_of sync delay)
    by (Some reason) is = cc
    by None is = of_used (is_none (sync_completion setup earlier call) && is_none (delay_completion setup earlier call)) is

-- what completes isn't older than the last completion
pub sync_completion-newer : (setup : Setup) (earlier : List Call) (call : Call) (c : SyncCompletion) → sync_completion setup earlier call ≡ Some c
    → is_not_newer (criteria setup earlier).last c.number ≡ false
sync_completion-newer setup earlier call c is = by (sync_completion_of setup earlier call c is).0
  where
    by : IsSyncCompletion setup earlier call c → is_not_newer (criteria setup earlier).last c.number ≡ false
    by (BySync h follow flag found same) = ap (λ (c : SyncCompletion). is_not_newer (criteria setup earlier).last c.number) same ∙ h.newer
    by (Alone h flag same) = ap (λ (c : SyncCompletion). is_not_newer (criteria setup earlier).last c.number) same ∙ h.newer
    by (ByFollowUp h sync found same) = ap (λ (c : SyncCompletion). is_not_newer (criteria setup earlier).last c.number) same ∙ h.newer
