-- What is said of a result, as a line of JSON or as a row of a table.
use Rattle.std.specs.Prelude.{ℕ, ℤ, Bool, true, false, List, [], ◌++◌, codes, Option, Some, None, option_map}
use Rattle.std.specs.Option.{option_map_or}
use Rattle.std.specs.Fmt.{decimal}
use Rattle.ptp_units.specs.Moment.{stamp_of}
use Rattle.datagram_text.specs.Shown.{stamp_text}
use Rattle.slave_port.specs.declared.heard.Report.{Report}
use Rattle.result_verdict.specs.declared.verdict.Verdict.{Verdict}
use Rattle.result_verdict.specs.Exact.{exact_text}
use Rattle.result_verdict.specs.Verdict.{path_text, verdict_text}
use Rattle.result_audit.specs.declared.answer.Answer.{Answer}
use Rattle.result_audit.specs.declared.answer.Found.{Found}
use Rattle.result_audit.specs.declared.told.Told.{Told}

-- a number in quotes, or null; in a table without quotes, or nothing
abbrev pub cell_text : (is_table : Bool) → Option ℤ → List ℕ
cell_text false (Some value) = codes "\"" ++ exact_text value ++ codes "\""
cell_text false None = codes "null"
cell_text true (Some value) = exact_text value
cell_text true None = []

-- a verdict in a word
abbrev pub word_text : Option Verdict → List ℕ
word_text None = codes "unjudged"
word_text (Some verdict) = verdict_text verdict

-- the line or packet of a message, or null
abbrev pub tag_text : Option ℕ → List ℕ
tag_text None = codes "null"
tag_text (Some line) = decimal line

-- a time in seconds with nine decimals
unfoldable pub time_text : ℕ → List ℕ
time_text time = stamp_text (stamp_of time)

-- what is said of a path delay, where one was told
unfoldable pub if_told : Told → ℤ → Option ℤ
if_told told value = option_map (λ path. value) told.path

-- ---- JSON
abbrev pub json_front : Told → Found → List ℕ
json_front told found = codes "{\"beyond\":\"" ++ exact_text found.judged.beyond ++ codes "\",\"line\":" ++ decimal found.at.line
    ++ codes ",\"offset\":\"" ++ exact_text told.offset ++ codes "\",\"offset_error\":\"" ++ exact_text found.judged.offset_error
    ++ codes "\",\"path\":" ++ cell_text false told.path
    ++ codes ",\"path_error\":" ++ cell_text false (if_told told found.judged.path_error)

abbrev pub json_middle : Told → Found → List ℕ
json_middle told found = codes ",\"path_is\":\"" ++ path_text found.judged.path_is
    ++ codes "\",\"sequence\":" ++ decimal found.at.exchange.sync_number.0
    ++ codes ",\"sum_error\":" ++ cell_text false (if_told told found.judged.sum_error)

-- the lines or packets of the four messages
abbrev pub json_tags : Report → List ℕ
json_tags report = codes ",\"tags\":[" ++ decimal report.sync_tag
    ++ codes "," ++ tag_text report.follow_tag
    ++ codes "," ++ decimal report.request_tag
    ++ codes "," ++ decimal report.response_tag
    ++ codes "]"

abbrev pub json_end : Answer → Found → List ℕ
json_end answer found = codes ",\"time\":\"" ++ time_text found.at.exchange.t2
    ++ codes "\",\"verdict\":\"" ++ word_text answer.verdict ++ codes "\"}\n"

-- one of which no Sync is known
abbrev pub json_unfound : Answer → List ℕ
json_unfound answer = codes "{\"beyond\":null,\"line\":null,\"offset\":\"" ++ exact_text answer.told.offset
    ++ codes "\",\"offset_error\":null,\"path\":" ++ cell_text false answer.told.path
    ++ codes ",\"path_error\":null,\"path_is\":null,\"sequence\":null,\"sum_error\":null,\"tags\":null,\"time\":null,\"verdict\":\""
    ++ word_text answer.verdict ++ codes "\"}\n"

-- in one line, with the keys in order
abbrev pub json_text : Answer → List ℕ
json_text answer = option_map_or (λ found. json_front answer.told found ++ (json_middle answer.told found ++ (json_tags found.at.report ++ json_end answer found))) answer.found (json_unfound answer)

-- ---- tables
-- the line above all rows
abbrev pub table_head : List ℕ
table_head = codes "beyond_ns,line,offset_ns,offset_error_ns,path_ns,path_error_ns,path_is,sequence,sum_error_ns,time,verdict\n"

abbrev pub row_front : Told → Found → List ℕ
row_front told found = exact_text found.judged.beyond ++ codes "," ++ decimal found.at.line
    ++ codes "," ++ exact_text told.offset ++ codes "," ++ exact_text found.judged.offset_error
    ++ codes "," ++ cell_text true told.path
    ++ codes "," ++ cell_text true (if_told told found.judged.path_error)

abbrev pub row_rest : Answer → Found → List ℕ
row_rest answer found = codes "," ++ path_text found.judged.path_is
    ++ codes "," ++ decimal found.at.exchange.sync_number.0
    ++ codes "," ++ cell_text true (if_told answer.told found.judged.sum_error)
    ++ codes "," ++ time_text found.at.exchange.t2
    ++ codes "," ++ word_text answer.verdict ++ codes "\n"

-- one of which no Sync is known
abbrev pub row_unfound : Answer → List ℕ
row_unfound answer = codes ",," ++ exact_text answer.told.offset ++ codes ",," ++ cell_text true answer.told.path
    ++ codes ",,,,,," ++ word_text answer.verdict ++ codes "\n"

-- as a row
abbrev pub row_text : Answer → List ℕ
row_text answer = option_map_or (λ found. row_front answer.told found ++ row_rest answer found) answer.found (row_unfound answer)
