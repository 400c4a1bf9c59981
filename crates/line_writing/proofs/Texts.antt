-- The texts of lines, piece by piece.
use Rattle.std.proofs.Common.{◌≡◌, ◌∙◌, ℕ, ℤ, pos, negsuc, List, [], ◌∷◌, ◌++◌, codes, true, false, Option, Some, None}
use Rattle.std.proofs.Common.{option_map, refl, ap, append_assoc, append-nil}
use Rattle.std.specs.Fmt.{decimal, signed_decimal}
use Rattle.hex.specs.Hex.{encode_lower}
use Rattle.json.specs.Print.{escape_byte, escape, quoted}
use Rattle.serde_json.specs.Data.{Data, Members, no_members, member, object, string}
use Rattle.serde_json.specs.Find.{of_integer}
use Rattle.serde_json.specs.Written.{compact_text, members_text, number_text}
use Rattle.event_codec.specs.declared.port.PortConfig.{PortConfig}
use Rattle.ptp_units.specs.declared.sequence.Seq.{Seq}
use Rattle.network_model.specs.Run.{site_of, true_moment}
use Rattle.network_model.specs.Kinds.{named_master, named_difference, named_transit, named_copy}
use Rattle.network_model.specs.declared.event.Event.{Event}
use Rattle.network_model.specs.declared.event.Event.TheVariants.{StepClock}
use Rattle.trace_model.specs.declared.line.TraceLine.{TraceLine}
use Rattle.trace_model.specs.declared.line.TraceOut.{TraceOut}
use Rattle.trace_model.specs.declared.line.TraceOut.TheVariants as outs
use Rattle.schedule_lines.specs.Written.{whole, moment_data, difference_data, octets_data, tags_data}
use Rattle.schedule_lines.specs.Written.{event_text, made_octets, out_text, out_code, out_report}
use Rattle.schedule_lines.specs.Written.{port_data}
use Rattle.schedule_lines.proofs.Keys.{members_of, event_fields, line_fields}
use Rattle.line_writing.specs.Inner.Pieces.{piece, front_text, made_text, answer_text, report_text, end_text}
use Rattle.line_writing.specs.Inner.Pieces.{drawn_text, clock_text}
use Rattle.line_writing.proofs.Listed.{in_front, members_sorted}

-- the text of an integer
pub integer_text : (z : ℤ) → number_text (of_integer z) ≡ signed_decimal z
integer_text (pos n) = refl
integer_text (negsuc n) = refl

port_parts : (domain first id kind log name port : List ℕ)
    → codes "{\"domain\":" ++ (domain ++ (codes ",\"first\":" ++ (first ++ (codes ",\"id\":" ++ ((34 ∷ (id ++ 34 ∷ [])) ++ (codes ",\"kind\":" ++ ((34 ∷ (kind ++ 34 ∷ []))
    ++ (codes ",\"log\":" ++ (log ++ (codes ",\"node\":" ++ ((34 ∷ (name ++ 34 ∷ [])) ++ (codes ",\"port\":" ++ (port ++ codes "}")))))))))))))
    ≡ (codes "{\"domain\":" ++ (domain ++ (codes ",\"first\":" ++ first))) ++ ((codes ",\"id\":" ++ (34 ∷ (id ++ 34 ∷ []))) ++ (codes ",\"kind\":\"" ++ (kind
    ++ (codes "\",\"log\":" ++ (log ++ (codes ",\"node\":" ++ ((34 ∷ (name ++ 34 ∷ [])) ++ (codes ",\"port\":" ++ (port ++ codes "}")))))))))
port_parts domain first id kind log name port = simp append_assoc

-- the text of a node with a port
pub port_is : (name kind : List ℕ) (config : PortConfig) (first : Seq) → escape kind ≡ kind
    → compact_text (port_data name kind config first)
    ≡ drawn_text config.domain first.0 ++ (clock_text config.identity.clock ++ (codes ",\"kind\":\"" ++ (kind ++ (codes "\",\"log\":"
    ++ (signed_decimal config.log ++ (codes ",\"node\":" ++ (compact_text (string name) ++ (codes ",\"port\":" ++ (compact_text (whole config.identity.port) ++ codes "}")))))))))
unfolding escape_byte
port_is name kind config first plain =
    ap (λ (k : List ℕ). codes "{\"domain\":" ++ (decimal config.domain ++ (codes ",\"first\":" ++ (decimal first.0 ++ (codes ",\"id\":"
    ++ ((34 ∷ (escape (encode_lower config.identity.clock) ++ 34 ∷ [])) ++ (codes ",\"kind\":" ++ ((34 ∷ (k ++ 34 ∷ [])) ++ (codes ",\"log\":" ++ (number_text (of_integer config.log)
    ++ (codes ",\"node\":" ++ ((34 ∷ (escape name ++ 34 ∷ [])) ++ (codes ",\"port\":" ++ (decimal config.identity.port ++ codes "}")))))))))))))) plain
    ∙ port_parts (decimal config.domain) (decimal first.0) (escape (encode_lower config.identity.clock)) kind (number_text (of_integer config.log)) (escape name)
    (decimal config.identity.port)
    ∙ ap (λ (log : List ℕ). drawn_text config.domain first.0 ++ (clock_text config.identity.clock ++ (codes ",\"kind\":\"" ++ (kind ++ (codes "\",\"log\":"
    ++ (log ++ (codes ",\"node\":" ++ (compact_text (string name) ++ (codes ",\"port\":" ++ (compact_text (whole config.identity.port) ++ codes "}")))))))))) (integer_text config.log)

-- the words of events need no escape
pub event_quoted : (event : Event) → quoted (event_text event) ≡ 34 ∷ (event_text event ++ 34 ∷ [])
unfolding escape_byte
event_quoted (StepClock node diff) = refl
event_quoted _ = refl

pub out_quoted : (out : TraceOut) → quoted (out_text out) ≡ 34 ∷ (out_text out ++ 34 ∷ [])
unfolding escape_byte
out_quoted (outs.Refused code) = refl
out_quoted _ = refl

-- there is a member
abbrev HasSome : Members → Type 0
HasSome no_members = ⊥
HasSome (member k d ms) = Unit {0}

some_in_front : (k : List ℕ) (o : Option Data) (ms : Members) → HasSome ms → HasSome (in_front k o ms)
some_in_front k None ms some = some
some_in_front k (Some d) ms some = tt

comma : (ms : Members) → HasSome ms → members_text true ms ≡ 44 ∷ members_text false ms
comma no_members some = absurd some
comma (member k d ms) some = refl

-- the first member, where it is there, and a comma, in front of others
leads : (front k : List ℕ) (o : Option Data) (ms : Members) → front ≡ quoted k ++ 58 ∷ [] → HasSome ms
    → members_text false (in_front k o ms) ≡ piece front (codes ",") o ++ members_text false ms
leads front k None ms is some = refl
leads front k (Some d) ms is some =
    ap (λ (t : List ℕ). quoted k ++ 58 ∷ (compact_text d ++ t)) (comma ms some)
    ∙ rw (is) (simp append_assoc)

-- a comma and a member, where it is there, in front of others
trails : (front k : List ℕ) (o : Option Data) (ms : Members) → front ≡ 44 ∷ (quoted k ++ 58 ∷ [])
    → members_text true (in_front k o ms) ≡ piece front [] o ++ members_text true ms
trails front k None ms is = refl
trails front k (Some d) ms is = rw (is) (simp (append_assoc, append-nil))

-- ---- events

ev_piece : (event : Event) (rest : List ℕ) → quoted (codes "ev") ++ 58 ∷ (compact_text (string (event_text event)) ++ rest)
    ≡ (codes "\"ev\":\"" ++ (event_text event ++ codes "\"")) ++ rest
unfolding escape_byte
ev_piece event rest =
    ap (λ (q : List ℕ). quoted (codes "ev") ++ 58 ∷ (q ++ rest)) (event_quoted event)
    ∙ (simp append_assoc)

out_piece : (out : TraceOut) → piece (codes ",\"out\":") [] (Some (string (out_text out))) ≡ codes ",\"out\":\"" ++ (out_text out ++ codes "\"")
out_piece out =
    ap (λ (q : List ℕ). codes ",\"out\":" ++ (q ++ [])) (out_quoted out)
    ∙ (simp append-nil)

-- the members up to `ev`
abbrev front_members : Event → Option ℕ → Members → Members
front_members event code ms =
    in_front (codes "at") (option_map moment_data (true_moment event))
    (in_front (codes "code") (option_map whole code)
    (in_front (codes "copy") (option_map whole (named_copy event))
    (in_front (codes "diff") (option_map difference_data (named_difference event))
    (member (codes "ev") (string (event_text event)) ms))))

front_is : (event : Event) (code : Option ℕ) (ms : Members) → members_text false (front_members event code ms) ≡ front_text event code ++ members_text true ms
unfolding escape_byte
front_is event code ms =
    let ev : Members = member (codes "ev") (string (event_text event)) ms in
    let diff : Members = in_front (codes "diff") (option_map difference_data (named_difference event)) ev in
    let copy : Members = in_front (codes "copy") (option_map whole (named_copy event)) diff in
    let coded : Members = in_front (codes "code") (option_map whole code) copy in
    let some_diff : HasSome diff = some_in_front _ _ ev tt in
    let some_copy : HasSome copy = some_in_front _ _ diff some_diff in
    let some_code : HasSome coded = some_in_front _ _ copy some_copy in
    leads (codes "\"at\":") (codes "at") _ coded refl some_code
    ∙ ap (λ (t : List ℕ). piece (codes "\"at\":") (codes ",") (option_map moment_data (true_moment event)) ++ t)
    (leads (codes "\"code\":") (codes "code") _ copy refl some_copy
    ∙ ap (λ (t : List ℕ). piece (codes "\"code\":") (codes ",") (option_map whole code) ++ t)
    (leads (codes "\"copy\":") (codes "copy") _ diff refl some_diff
    ∙ ap (λ (t : List ℕ). piece (codes "\"copy\":") (codes ",") (option_map whole (named_copy event)) ++ t)
    (leads (codes "\"diff\":") (codes "diff") _ ev refl tt
    ∙ ap (λ (t : List ℕ). piece (codes "\"diff\":") (codes ",") (option_map difference_data (named_difference event)) ++ t)
    (ev_piece event (members_text true ms)))))
    ∙ simp append_assoc

end_is : (event : Event) → members_text true (in_front (codes "transit") (option_map whole (named_transit event)) no_members) ≡ end_text event
unfolding escape_byte
end_is event = trails (codes ",\"transit\":") (codes "transit") _ no_members refl

abbrev name_text : List ℕ → List ℕ
name_text name = piece (codes ",\"node\":") [] (Some (string name))

abbrev master_text : Event → List ℕ
master_text event = piece (codes ",\"master\":") [] (option_map string (named_master event))

-- the text of an event's line in a schedule
pub scheduled_is : (event : Event) → compact_text (object (members_of (event_fields event [])))
    ≡ codes "{" ++ (front_text event None ++ (master_text event ++ (name_text (site_of event) ++ end_text event)))
unfolding escape_byte
scheduled_is event =
    let end : Members = in_front (codes "transit") (option_map whole (named_transit event)) no_members in
    let node : Members = member (codes "node") (string (site_of event)) end in
    let master : Members = in_front (codes "master") (option_map string (named_master event)) node in
    ap (λ (ms : Members). compact_text (object ms)) (members_sorted (event_fields event []) refl)
    ∙ ap (λ (t : List ℕ). 123 ∷ t) (front_is event None master
    ∙ ap (λ (t : List ℕ). front_text event None ++ t) (trails (codes ",\"master\":") (codes "master") _ node refl
    ∙ ap (λ (t : List ℕ). master_text event ++ t) (trails (codes ",\"node\":") (codes "node") (Some (string (site_of event))) end refl
    ∙ ap (λ (t : List ℕ). name_text (site_of event) ++ t) (end_is event))))

abbrev number_piece : ℕ → List ℕ
number_piece n = piece (codes ",\"n\":") [] (Some (whole n))

abbrev reading_text : Option ℕ → List ℕ
reading_text time = piece (codes ",\"reading\":") [] (option_map moment_data time)

answer_is : (out : TraceOut) (ms : Members)
    → members_text true (in_front (codes "offset2") (option_map (λ r. difference_data r.offset2) (out_report out))
    (member (codes "out") (string (out_text out))
    (in_front (codes "path2") (option_map (λ r. difference_data r.path2) (out_report out)) ms)))
    ≡ answer_text out ++ members_text true ms
unfolding escape_byte
answer_is out ms =
    let path : Members = in_front (codes "path2") (option_map (λ r. difference_data r.path2) (out_report out)) ms in
    let told : Members = member (codes "out") (string (out_text out)) path in
    trails (codes ",\"offset2\":") (codes "offset2") _ told refl
    ∙ ap (λ (t : List ℕ). piece (codes ",\"offset2\":") [] (option_map (λ r. difference_data r.offset2) (out_report out)) ++ t)
    (trails (codes ",\"out\":") (codes "out") (Some (string (out_text out))) path refl
    ∙ (λ i. out_piece out i ++ trails (codes ",\"path2\":") (codes "path2") (option_map (λ r. difference_data r.path2) (out_report out)) ms refl i))
    ∙ simp append_assoc

-- the text of an event's line in a transcript
pub event_is : (n : ℕ) (line : TraceLine) → compact_text (object (members_of (line_fields n line)))
    ≡ codes "{" ++ (front_text line.event (out_code line.out) ++ (made_text line.out ++ (master_text line.event ++ (number_piece n
    ++ (name_text (site_of line.event) ++ (answer_text line.out ++ (reading_text line.reading ++ (report_text line.out ++ end_text line.event))))))))
unfolding escape_byte
event_is n line =
    let event = line.event in
    let out = line.out in
    let end : Members = in_front (codes "transit") (option_map whole (named_transit event)) no_members in
    let tags : Members = in_front (codes "tags") (option_map tags_data (out_report out)) end in
    let reading : Members = in_front (codes "reading") (option_map moment_data line.reading) tags in
    let answer : Members = in_front (codes "offset2") (option_map (λ r. difference_data r.offset2) (out_report out))
    (member (codes "out") (string (out_text out)) (in_front (codes "path2") (option_map (λ r. difference_data r.path2) (out_report out)) reading)) in
    let node : Members = member (codes "node") (string (site_of event)) answer in
    let number : Members = member (codes "n") (whole n) node in
    let master : Members = in_front (codes "master") (option_map string (named_master event)) number in
    let made : Members = in_front (codes "hex") (option_map octets_data (made_octets out)) master in
    ap (λ (ms : Members). compact_text (object ms)) (members_sorted (line_fields n line) refl)
    ∙ ap (λ (t : List ℕ). 123 ∷ t) (front_is event (out_code out) made
    ∙ ap (λ (t : List ℕ). front_text event (out_code out) ++ t) (trails (codes ",\"hex\":") (codes "hex") _ master refl
    ∙ ap (λ (t : List ℕ). made_text out ++ t) (trails (codes ",\"master\":") (codes "master") _ number refl
    ∙ ap (λ (t : List ℕ). master_text event ++ t) (trails (codes ",\"n\":") (codes "n") (Some (whole n)) node refl
    ∙ ap (λ (t : List ℕ). number_piece n ++ t) (trails (codes ",\"node\":") (codes "node") (Some (string (site_of event))) answer refl
    ∙ ap (λ (t : List ℕ). name_text (site_of event) ++ t) (answer_is out reading
    ∙ ap (λ (t : List ℕ). answer_text out ++ t) (trails (codes ",\"reading\":") (codes "reading") _ tags refl
    ∙ ap (λ (t : List ℕ). reading_text line.reading ++ t) (trails (codes ",\"tags\":") (codes "tags") _ end refl
    ∙ ap (λ (t : List ℕ). report_text out ++ t) (end_is event)))))))))
