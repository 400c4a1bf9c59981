-- Who else is there, by what messages say. Lists have the newest in front.
use Rattle.std.specs.Prelude.{◌≡◌, ℕ, ◌+◌, ◌-◌, ◌<◌, ◌==◌, min, max, Bool, true, false, if◌then◌else◌}
use Rattle.std.specs.Prelude.{List, [], ◌∷◌, length, replicate, get_or, slice_set, count_by}
use Rattle.std.specs.Prelude.{Option, Some, None, option_and_then}
use Rattle.std.specs.Option.{option_map_or, option_or}
use Rattle.std.specs.List.{position}
use Rattle.event_codec.specs.declared.port.PortIdentity.{PortIdentity}
use Rattle.event_codec.specs.Port.{is_same_port}
use Rattle.recording_summary.specs.declared.others.Meeting.{Meeting}
use Rattle.recording_summary.specs.declared.others.MessageKind.{MessageKind}
use Rattle.recording_summary.specs.declared.others.MessageKind.TheVariants.{Sync, FollowUp, DelayReq, DelayResp}
use Rattle.recording_summary.specs.declared.others.Met.{Met}
use Rattle.recording_summary.specs.declared.others.Met.TheVariants.{First, Repeat, Master, Slave, Domain}
use Rattle.recording_summary.specs.declared.others.Newcomer.{Newcomer}
use Rattle.recording_summary.specs.declared.others.Numbered.{Numbered}
use Rattle.recording_summary.specs.declared.others.Others.{Others}
use Rattle.recording_summary.specs.declared.others.Repeats.{Repeats}
use Rattle.recording_summary.specs.declared.others.Sender.{Sender}
use Rattle.recording_summary.specs.declared.others.Senders.{Senders}
use Rattle.recording_summary.specs.declared.others.Turn.{Turn}
use Rattle.recording_summary.specs.Flows.{AreFlows}
use Rattle.recording_summary.specs.Messages.{is_sync, first_by}
use Rattle.statistics.specs.Wide.{at_most}

-- ---- of whom a message is
abbrev pub master_met : Met → Option PortIdentity
master_met (First kind number) = None
master_met (Repeat kind number) = None
master_met (Master kind port) = Some port
master_met (Slave port) = None
master_met (Domain domain) = None

abbrev pub slave_met : Met → Option PortIdentity
slave_met (First kind number) = None
slave_met (Repeat kind number) = None
slave_met (Master kind port) = None
slave_met (Slave port) = Some port
slave_met (Domain domain) = None

abbrev pub domain_met : Met → Option ℕ
domain_met (First kind number) = None
domain_met (Repeat kind number) = None
domain_met (Master kind port) = None
domain_met (Slave port) = None
domain_met (Domain domain) = Some domain

-- another master, another slave, or another domain
abbrev pub other_master : Meeting → Option PortIdentity
other_master m = master_met m.met

abbrev pub other_slave : Meeting → Option PortIdentity
other_slave m = slave_met m.met

abbrev pub other_domain : Meeting → Option ℕ
other_domain m = domain_met m.met

-- ---- how many messages are of whom
-- a place in a list of senders is free, or that of a port
abbrev pub is_for : PortIdentity → Option Sender → Bool
is_for port None = true
is_for port (Some sender) = is_same_port sender.port port

-- a port at such a place, with one message more
abbrev pub with_more : PortIdentity → Option Sender → Sender
with_more port None = record { port = port; count = 1 }
with_more port (Some sender) = record { port = sender.port; count = at_most (sender.count + 1) }

-- one message more of a port that has this place, or none
abbrev pub with_sender_at : Option ℕ → PortIdentity → Senders → Senders
with_sender_at None port senders = record senders { rest = at_most (senders.rest + 1) }
with_sender_at (Some place) port senders =
    record senders { listed = slice_set senders.listed place (Some (with_more port (get_or senders.listed place None))) }

-- one message more of a port: at the first place that is free or its own, or else with those of all others
abbrev pub with_sender : PortIdentity → Senders → Senders
with_sender port senders = with_sender_at (position (is_for port) senders.listed) port senders

-- before the first message
abbrev pub nobody : Senders
nobody = record { listed = replicate 8 None; rest = 0 }

-- the ports of which messages are: the first eight in their order, each with how many, and how many messages of all others
abbrev pub senders : (Meeting → Option PortIdentity) → List Meeting → Senders
senders of [] = nobody
senders of (m ∷ earlier) = option_map_or (λ port. with_sender port (senders of earlier)) (of m) (senders of earlier)

-- a message is of this domain
abbrev pub is_of_domain : (domain : ℕ) → Meeting → Bool
is_of_domain domain m = option_map_or (λ other. other == domain) (other_domain m) false

-- how many messages are of each other domain (IEEE 1588-2019, 7.1)
pub record AreDomains (all : List Meeting) (domains : List ℕ) : Type 0 where
  pub places : length domains ≡ 256
  pub each : (domain : ℕ) → domain < 256 → get_or domains domain 0 ≡ at_most (count_by (is_of_domain domain) all)

-- ---- until when the master sends
-- a Sync of the master that is watched, whether its number came before or not
abbrev pub is_master_sync : Met → Bool
is_master_sync (First kind number) = is_sync kind
is_master_sync (Repeat kind number) = is_sync kind
is_master_sync (Master kind port) = false
is_master_sync (Slave port) = false
is_master_sync (Domain domain) = false

-- who comes by a message: another master, by a Sync
abbrev pub newcomer_by : Met → (line time : ℕ) → Option Newcomer
newcomer_by (First kind number) line time = None
newcomer_by (Repeat kind number) line time = None
newcomer_by (Master kind port) line time =
    if is_sync kind then Some (record { port = port; line = line; time = time }) else None
newcomer_by (Slave port) line time = None
newcomer_by (Domain domain) line time = None

abbrev pub newcomer_of : Meeting → Option Newcomer
newcomer_of m = newcomer_by m.met m.line m.time

-- the time of the master's last Sync
abbrev pub last_sync : List Meeting → Option ℕ
last_sync [] = None
last_sync (m ∷ earlier) = if is_master_sync m.met then Some m.time else last_sync earlier

-- the first Sync of another master since then
abbrev pub newcomer : List Meeting → Option Newcomer
newcomer [] = None
newcomer (m ∷ earlier) = if is_master_sync m.met then None else option_or (newcomer earlier) (newcomer_of m)

-- when the master's last Sync came, and who has sent one since
pub record IsTurn (all : List Meeting) (t : Turn) : Type 0 where
  pub last : t.last ≡ last_sync all
  pub newcomer : t.newcomer ≡ newcomer all

-- ---- what came twice
-- the last message of a kind that is the first of its number
abbrev pub last_first : List Meeting → MessageKind → Option Numbered
last_first [] kind = None
last_first (m ∷ earlier) kind = option_or (first_by m.met kind m.time) (last_first earlier kind)

-- how much later a message with this number came than this one, where that has it, too; 0 where its time is before
abbrev pub lag_from : (number time : ℕ) → Numbered → Option ℕ
lag_from number time first = if first.number.0 == number then Some (time - first.time) else None

-- how much later a repeat came than the first of its number, where that is the last of its kind
abbrev pub lag_by : Met → (time : ℕ) → (MessageKind → Option Numbered) → Option ℕ
lag_by (First kind number) time last = None
lag_by (Repeat kind number) time last = option_and_then (lag_from number.0 time) (last kind)
lag_by (Master kind port) time last = None
lag_by (Slave port) time last = None
lag_by (Domain domain) time last = None

abbrev pub lag_of : Meeting → (MessageKind → Option Numbered) → Option ℕ
lag_of m last = lag_by m.met m.time last

abbrev pub lesser_lag : Option ℕ → Option ℕ → Option ℕ
lesser_lag None least = least
lesser_lag (Some lag) None = Some lag
lesser_lag (Some lag) (Some least) = Some (min lag least)

abbrev pub greater_lag : Option ℕ → Option ℕ → Option ℕ
greater_lag None greatest = greatest
greater_lag (Some lag) None = Some lag
greater_lag (Some lag) (Some greatest) = Some (max lag greatest)

-- the least and the greatest of all
abbrev pub least_lag : List Meeting → Option ℕ
least_lag [] = None
least_lag (m ∷ earlier) = lesser_lag (lag_of m (last_first earlier)) (least_lag earlier)

abbrev pub greatest_lag : List Meeting → Option ℕ
greatest_lag [] = None
greatest_lag (m ∷ earlier) = greater_lag (lag_of m (last_first earlier)) (greatest_lag earlier)

-- what is kept of a kind
abbrev pub kept_of : MessageKind → Repeats → Option Numbered
kept_of Sync r = r.sync
kept_of FollowUp r = r.follow_up
kept_of DelayReq r = r.request
kept_of DelayResp r = r.response

-- the last first message of each kind, and the least and the greatest of how much later repeats came
pub record AreRepeats (all : List Meeting) (r : Repeats) : Type 0 where
  pub firsts : (kind : MessageKind) → kept_of kind r ≡ last_first all kind
  pub least : r.least ≡ least_lag all
  pub greatest : r.greatest ≡ greatest_lag all

-- ---- who else is there by these messages
pub record AreOthers (all : List Meeting) (o : Others) : Type 0 where
  pub masters : o.masters ≡ senders other_master all
  pub slaves : o.slaves ≡ senders other_slave all
  pub domains : AreDomains all o.domains
  pub turn : IsTurn all o.turn
  pub repeats : AreRepeats all o.repeats
  pub flows : AreFlows all o.flows
