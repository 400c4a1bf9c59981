-- What the messages tell that came to a slave, by what is kept and noted.
use Rattle.std.specs.Prelude.{◌≡◌, ℕ, ℤ, ◌==◌, if◌then◌else◌, List, Option, Some, None, option_map, option_and_then}
use Rattle.ptp_units.specs.Exchange.{delay_bracket, offset2, path2}
use Rattle.event_codec.specs.declared.message.Body.{Body}
use Rattle.event_codec.specs.declared.message.Header.{Header}
use Rattle.event_codec.specs.Layout.{number_of, type_of, stamp_in}
use Rattle.slave_port.specs.declared.heard.Report.{Report}
use Rattle.network_model.specs.Network.{Network}
use Rattle.trace_model.specs.declared.judgement.Results.{Results}
use Rattle.trace_model.specs.ByMessages.{Said, sync_type, follow_up_type, delay_resp_type, said_in, sync_told}
use Rattle.exchange_check.specs.declared.by_messages.HeardKind.{HeardKind}
use Rattle.exchange_check.specs.declared.by_messages.HeardKind.TheVariants as kinds
use Rattle.exchange_check.specs.declared.by_messages.Said.{Said as KeptSaid}
use Rattle.exchange_check.specs.declared.exceptions.Exceptions.{Exceptions}
use Rattle.exchange_check.specs.declared.facts.Fact.{Fact}
use Rattle.exchange_check.specs.declared.facts.Found.{Found}
use Rattle.exchange_check.specs.declared.kept.Kept.{Kept}
use Rattle.exchange_check.specs.Evidence.{Table}
use Rattle.exchange_check.specs.Inner.Found.{of_report, of_found}
use Rattle.exchange_check.specs.Inner.Judged.{sender_by}
use Rattle.exchange_check.specs.Inner.Kept.{Facts, Stamps}
use Rattle.exchange_check.specs.Inner.Noting.{IsMadeAt}
use Rattle.copy_stays.specs.Leaves.{Once}

-- the messageType of a kind
abbrev pub heard_type : HeardKind → ℕ
heard_type kinds.Sync = sync_type
heard_type kinds.FollowUp = follow_up_type
heard_type kinds.DelayResp = delay_resp_type

-- what a message says, as it is kept
abbrev pub said_told : KeptSaid → Said
said_told said = record { timestamp = said.timestamp; correction = said.correction }

-- what a message says, where it is of a type
abbrev pub said_by : (kind : ℕ) → Header → Body → Option Said
said_by kind header body =
    if number_of (type_of body) == kind
    then Some (record { timestamp = stamp_in body; correction = header.correction.0 }) else None

-- these octets are those that lines made
abbrev pub AreMade : Network → Kept → Exceptions → Table (List ℕ) → Type 0
AreMade network kept exceptions octets = (n : ℕ) (r : Option (List ℕ)) → IsMadeAt network kept exceptions n r → r ≡ octets n

-- what the message of a line says, where it is of a type
abbrev pub said_of : Table (List ℕ) → (kind number : ℕ) → Option Said
said_of octets kind number = option_and_then (said_in kind) (octets number)

abbrev pub follow_said_by : Table (List ℕ) → Option Fact → Option (Option Said)
follow_said_by octets None = Some None
follow_said_by octets (Some follow) = option_map Some (said_of octets follow_up_type follow.line)

abbrev pub sync_said_by : Facts → Table (List ℕ) → Fact → Option Said
sync_said_by facts octets arrival =
    option_and_then (λ sender. said_of octets sync_type sender.line) (sender_by facts arrival)

abbrev pub sync_bracket_by : Facts → Table (List ℕ) → Found → Option ℤ
sync_bracket_by facts octets found =
    option_and_then (λ sync. option_map (λ follow. sync_told found.sync_arrival.reading follow sync)
    (follow_said_by octets found.follow)) (sync_said_by facts octets found.sync_arrival)

abbrev pub delay_bracket_by : Table (List ℕ) → Found → Option ℤ
delay_bracket_by octets found =
    option_map (λ response. delay_bracket response.timestamp response.correction found.request.reading)
    (said_of octets delay_resp_type found.request_arrival.line)

abbrev pub results_told_by : Facts → Table (List ℕ) → Found → Option Results
results_told_by facts octets found =
    option_and_then (λ a. option_map (λ b. record { offset2 = offset2 a b; path2 = path2 a b }) (delay_bracket_by octets found))
    (sync_bracket_by facts octets found)

abbrev pub by_messages_by : Facts → Once → Stamps → Table (List ℕ) → ℕ → Report → Option Results
by_messages_by facts once stamps octets number report = of_report facts stamps
    (λ fact. of_found facts once (λ told sync request. results_told_by facts octets told)) number report
