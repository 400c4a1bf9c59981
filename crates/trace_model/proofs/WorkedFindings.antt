-- Each finding once: of a short exchange without a clock, whose octets are left out, and of the worked one through a
-- clock, each with one line changed.
use Rattle.std.proofs.Common.{◌≡◌, ℕ, pos, refl, List, [], ◌∷◌, ◌++◌, reverse, Option, Some, None}
use Rattle.std.specs.Prelude.{slice_set}
use Rattle.slave_port.specs.declared.heard.Report.{Report}
use Rattle.network_model.specs.declared.event.Event.TheVariants.{Sync, Follow, Leave, Arrive, Hear, Request, Stamped}
use Rattle.network_model.specs.declared.event.Event.TheVariants.{Tick, SetMaster, StepClock}
use Rattle.network_model.specs.declared.node.NodeKind.TheVariants.{Master}
use Rattle.network_model.specs.Network.{Network, NodeName}
use Rattle.trace_model.specs.declared.finding.Finding.{Finding}
use Rattle.trace_model.specs.declared.finding.Finding.TheVariants as findings
use Rattle.trace_model.specs.declared.finding.Lack.TheVariants.{NotBefore, CameToNothing, OtherEvent, CompletedNothing}
use Rattle.trace_model.specs.declared.finding.Part.TheVariants as parts
use Rattle.trace_model.specs.declared.line.TraceLine.{TraceLine}
use Rattle.trace_model.specs.declared.line.TraceOut.TheVariants as outs
use Rattle.trace_model.specs.declared.verdict.Why.{Why}
use Rattle.trace_model.specs.declared.verdict.Why.TheVariants as whys
use Rattle.trace_model.specs.Record.{line_place}
use Rattle.trace_model.specs.Finding.{finding}
use Rattle.trace_model.proofs.WorkedExchange.{m, s, t, config, network_with, at, line, made, report_with, before}

-- another master
abbrev n : NodeName
n = 78 ∷ []

abbrev network : ℕ → Network
network domain =
    record { name = n; kind = Master (config 0 (0 ∷ 17 ∷ 34 ∷ 255 ∷ 254 ∷ 51 ∷ 68 ∷ 86 ∷ [])) (record { 0 = 0 }) }
    ∷ network_with domain

-- a report of the lines 2, 5, 6 and 9
abbrev short_report : Report
short_report = report_with (pos 0) 2 5 6 9

-- the lines before it, of which line 3 has nothing to do with the exchange
abbrev short : List TraceLine
short =
    line (SetMaster s m) None outs.Done
    ∷ line (Sync m (at 1 0 0)) (Some (at 1 0 0)) (made [])
    ∷ line (Arrive s 1 (at 1 500 0)) (Some (at 1 500 0)) outs.Held
    ∷ line (Tick s) None outs.Done
    ∷ line (Follow m) None (made [])
    ∷ line (Hear s 4) None outs.Completed
    ∷ line (Request s (at 2 0 0)) (Some (at 2 0 0)) (made [])
    ∷ line (Arrive m 6 (at 2 500 0)) (Some (at 2 500 0)) (made [])
    ∷ line (Stamped s) None outs.Done ∷ []

-- what is found of a reason against a report at the line behind these, which is heard at this node
abbrev found_at : NodeName → Network → List TraceLine → Report → Why → Option Finding
found_at node network lines report why =
    finding network (line_place (line (Hear node 7) None (outs.Report report)) (reverse lines)) report why

abbrev found : List TraceLine → Report → Why → Option Finding
found lines report why = found_at s (network 0) lines report why

-- the short exchange with another line at a place
abbrev with_line : ℕ → TraceLine → List TraceLine
with_line number other = slice_set short number other

-- 701

cant_report : found_at t (network 0) short short_report whys.NoSuchLine ≡ Some findings.CantReport
cant_report = refl

of_other_line : found short (report_with (pos 0) 2 5 6 8) whys.NoSuchLine ≡ Some findings.OfOtherLine
of_other_line = refl

other_event : found short (report_with (pos 0) 1 5 6 9) whys.NoSuchLine
    ≡ Some (findings.WrongTag parts.Sync (OtherEvent 1))
other_event = refl

not_before : found short (report_with (pos 0) 2 5 10 9) whys.NoSuchLine
    ≡ Some (findings.WrongTag parts.DelayReq (NotBefore 10))
not_before = refl

came_to_nothing : found (with_line 5 (line (Hear s 4) None (outs.Ignored 508))) short_report whys.NoSuchLine
    ≡ Some (findings.WrongTag parts.FollowUp (CameToNothing 5))
came_to_nothing = refl

completed_nothing : found short (record short_report { follow_tag = None }) whys.NoSuchLine
    ≡ Some (findings.WrongTag parts.Sync (CompletedNothing 2))
completed_nothing = refl

unstamped : found (with_line 8 (line (Tick s) None outs.Done)) short_report whys.NoSuchLine
    ≡ Some (findings.Unstamped None)
unstamped = refl

-- 702

abbrev other_sync_line : TraceLine
other_sync_line = line (Sync m (at 1 600 0)) (Some (at 1 600 0)) (made [])

other_sync : found (with_line 3 other_sync_line) short_report whys.OtherNumber
    ≡ Some (findings.OtherSync 4 (Some 3) 1)
other_sync = refl

no_follow_up : found (with_line 2 (line (Arrive s 1 (at 1 500 0)) (Some (at 1 500 0)) outs.Completed))
    (record short_report { follow_tag = None }) whys.OtherNumber ≡ Some (findings.NoFollowUp 1)
no_follow_up = refl

other_request : found (slice_set (with_line 3 (line (Request s (at 1 600 0)) (Some (at 1 600 0)) (made []))) 7
    (line (Arrive m 3 (at 2 500 0)) (Some (at 2 500 0)) (made []))) short_report whys.OtherNumber
    ≡ Some (findings.OtherRequest 3)
other_request = refl

-- 703

no_master : found (with_line 0 (line (Tick s) None outs.Done)) short_report whys.OtherMaster ≡ Some findings.NoMaster
no_master = refl

told_other : found (with_line 3 (line (SetMaster s n) None outs.Done)) short_report whys.OtherMaster
    ≡ Some (findings.ToldOther 3)
told_other = refl

early : found (with_line 3 (line (SetMaster s m) None outs.Done)) short_report whys.OtherMaster
    ≡ Some (findings.Early parts.Sync 3)
early = refl

other_answers : found (with_line 7 (line (Arrive n 6 (at 2 500 0)) (Some (at 2 500 0)) (made []))) short_report
    whys.OtherMaster ≡ Some (findings.OtherAnswers 7)
other_answers = refl

other_domain : found_at s (network 1) short short_report whys.OtherMaster ≡ Some findings.OtherDomain
other_domain = refl

-- 705

wrong_reading : found (with_line 3 (line (StepClock m (pos 65536)) None outs.Done)) short_report whys.WrongReading
    ≡ Some (findings.WrongReading 7 (Some 3))
wrong_reading = refl

-- 706 and 708

other_results : found short short_report whys.WrongValue ≡ Some findings.OtherResults
other_results = refl

other_octets : found short short_report whys.Bytes ≡ Some (findings.OtherOctets 1)
other_octets = refl

-- and where nothing is wrong, nothing is found

nothing_702 : found short short_report whys.OtherNumber ≡ None
nothing_702 = refl

nothing_703 : found short short_report whys.OtherMaster ≡ None
nothing_703 = refl

-- through a clock, in which the Sync enters at line 3 and leaves at line 4

abbrev long_found : List TraceLine → (response : ℕ) → Why → Option Finding
long_found lines response why = finding (network 0)
    (line_place (line (Hear s 11) None (outs.Report (report_with (pos 0) 5 7 8 response))) (reverse lines))
    (report_with (pos 0) 5 7 8 response) why

abbrev leave : (transit nanoseconds : ℕ) → TraceLine
leave transit nanoseconds = line (Leave t transit (at 1 nanoseconds 0)) (Some (at 1 nanoseconds 0)) (made [])

-- it leaves a stay that isn't one
stops : long_found (slice_set before 4 (leave 0 2500)) 13 whys.BrokenJourney
    ≡ Some (findings.Stops parts.Sync 4 (OtherEvent 0))
stops = refl

left_twice : long_found (before ++ leave 3 2600 ∷ []) 14 whys.BrokenJourney
    ≡ Some (findings.LeftTwice parts.Sync 3 4 13)
left_twice = refl

falls : long_found (slice_set before 4 (leave 3 400)) 13 whys.WrongReading ≡ Some (findings.Falls 3 4)
falls = refl

-- some 200,000 s in the clock
too_long : long_found (slice_set before 4 (leave 3 200000000000000)) 13 whys.TooBig
    ≡ Some (findings.TooLong parts.Sync)
too_long = refl
