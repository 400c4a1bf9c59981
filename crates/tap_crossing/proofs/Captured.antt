-- Crossings of real captures, worked out apart from any definition here: two ports of a clock, of a bridge, and of a master
-- and a slave, by linuxptp with software stamps.
use Rattle.std.proofs.Common.{◌≡◌, pos, negsuc, true, false, [], ◌∷◌, Some, refl}
use Rattle.ptp_units.specs.Moment.{stamp}
use Rattle.tap_crossing.specs.declared.sighting.Kind.TheVariants as kinds
use Rattle.tap_crossing.specs.declared.sighting.Place.TheVariants as places
use Rattle.tap_crossing.specs.declared.crossing.MessageOutcome.TheVariants as outcomes
use Rattle.tap_crossing.specs.Told.{told}
use Rattle.tap_crossing.proofs.Worked.{met_at, crossing_of}

-- a two-step transparent clock: the first Sync, and one in the middle
clock_sync : told 256 (met_at kinds.Sync 0 places.AtTo 7 117679394939045136302080 (pos 5203755008) (stamp 1795645064 377383817) false)
    (met_at kinds.Sync 0 places.Second 6 117679394939041552990208 (pos 0) (stamp 0 0) true
    ∷ met_at kinds.Sync 0 places.AtFrom 4 117679394939038252597248 (pos 0) (stamp 1795645064 377383817) false
    ∷ met_at kinds.Sync 0 places.First 3 117679394939036587458560 (pos 0) (stamp 0 0) true ∷ [])
    ≡ outcomes.Crossed (crossing_of kinds.Sync 0 117679394939036587458560 (pos 4965531648) (pos 5203755008) (negsuc 238223359) 3 6 (Some 4) (Some 7))
clock_sync = refl

clock_sync_later : told 256 (met_at kinds.Sync 31 places.AtTo 313 117679396970768676683776 (pos 4288544768) (stamp 1795645095 379036053) false)
    (met_at kinds.Sync 31 places.Second 312 117679396970764779585536 (pos 0) (stamp 0 0) true
    ∷ met_at kinds.Sync 31 places.AtFrom 310 117679396970761739829248 (pos 0) (stamp 1795645095 379036053) false
    ∷ met_at kinds.Sync 31 places.First 309 117679396970760630239232 (pos 0) (stamp 0 0) true ∷ [])
    ≡ outcomes.Crossed (crossing_of kinds.Sync 31 117679396970760630239232 (pos 4149346304) (pos 4288544768) (negsuc 139198463) 309 312 (Some 310) (Some 313))
clock_sync_later = refl

-- its first Delay_Req, and one in the middle
clock_request : told 256 (met_at kinds.DelayReq 0 places.AtTo 30 117679395183062816653312 (pos 3923705856) (stamp 1795645068 100887611) false)
    (met_at kinds.DelayReq 0 places.First 29 117679395183055810396160 (pos 0) (stamp 0 0) true
    ∷ met_at kinds.DelayReq 0 places.AtFrom 28 117679395183061843312640 (pos 0) (stamp 1795645068 100887611) false
    ∷ met_at kinds.DelayReq 0 places.Second 27 117679395183059605127168 (pos 0) (stamp 0 0) true ∷ [])
    ≡ outcomes.Crossed (crossing_of kinds.DelayReq 0 117679395183055810396160 (pos 3794731008) (pos 3923705856) (negsuc 128974847) 29 27 (Some 28) (Some 30))
clock_request = refl

clock_request_later : told 256 (met_at kinds.DelayReq 40 places.AtTo 406 117679397506020097851392 (pos 5802229760) (stamp 1795645103 546371570) false)
    (met_at kinds.DelayReq 40 places.First 405 117679397506009149603840 (pos 0) (stamp 0 0) true
    ∷ met_at kinds.DelayReq 40 places.AtFrom 404 117679397506018742566912 (pos 0) (stamp 1795645103 546371570) false
    ∷ met_at kinds.DelayReq 40 places.Second 403 117679397506014671208448 (pos 0) (stamp 0 0) true ∷ [])
    ≡ outcomes.Crossed (crossing_of kinds.DelayReq 40 117679397506009149603840 (pos 5521604608) (pos 5802229760) (negsuc 280625151) 405 403 (Some 404) (Some 406))
clock_request_later = refl

-- a bridge, which corrects nothing
bridge_sync : told 256 (met_at kinds.Sync 5 places.AtTo 43 117679395169275794161664 (pos 0) (stamp 1795645067 890527233) false)
    (met_at kinds.Sync 5 places.Second 42 117679395169274428129280 (pos 0) (stamp 0 0) true
    ∷ met_at kinds.Sync 5 places.AtFrom 40 117679395169275755560960 (pos 0) (stamp 1795645067 890527233) false
    ∷ met_at kinds.Sync 5 places.First 39 117679395169273722241024 (pos 0) (stamp 0 0) true ∷ [])
    ≡ outcomes.Crossed (crossing_of kinds.Sync 5 117679395169273722241024 (pos 705888256) (pos 0) (pos 705888256) 39 42 (Some 40) (Some 43))
bridge_sync = refl

bridge_request : told 256 (met_at kinds.DelayReq 5 places.AtTo 88 117679395309006517960704 (pos 0) (stamp 1795645070 22604796) false)
    (met_at kinds.DelayReq 5 places.First 87 117679395309000330969088 (pos 0) (stamp 0 0) true
    ∷ met_at kinds.DelayReq 5 places.AtFrom 82 117679395309006011629568 (pos 0) (stamp 1795645070 22604796) false
    ∷ met_at kinds.DelayReq 5 places.Second 81 117679395309001278029824 (pos 0) (stamp 0 0) true ∷ [])
    ≡ outcomes.Crossed (crossing_of kinds.DelayReq 5 117679395309000330969088 (pos 947060736) (pos 0) (pos 947060736) 87 81 (Some 82) (Some 88))
bridge_request = refl

-- a way that is 400 us longer to the slave than back
longer_way_sync : told 256 (met_at kinds.Sync 10 places.AtTo 122 117679431054967005642752 (pos 4517920768) (stamp 1795645615 461654804) false)
    (met_at kinds.Sync 10 places.AtFrom 120 117679431054935768236032 (pos 0) (stamp 1795645615 461654804) false
    ∷ met_at kinds.Sync 10 places.Second 119 117679431054933825748992 (pos 0) (stamp 0 0) true
    ∷ met_at kinds.Sync 10 places.First 117 117679431054894352367616 (pos 0) (stamp 0 0) true ∷ [])
    ≡ outcomes.Crossed (crossing_of kinds.Sync 10 117679431054894352367616 (pos 39473381376) (pos 4517920768) (pos 34955460608) 117 119 (Some 120) (Some 122))
longer_way_sync = refl

longer_way_request : told 256 (met_at kinds.DelayReq 10 places.AtTo 242 117679431161796282875904 (pos 4097572864) (stamp 1795645617 92305628) false)
    (met_at kinds.DelayReq 10 places.AtFrom 240 117679431161764543660032 (pos 0) (stamp 1795645617 92305628) false
    ∷ met_at kinds.DelayReq 10 places.Second 239 117679431161761341636608 (pos 0) (stamp 0 0) true
    ∷ met_at kinds.DelayReq 10 places.First 237 117679431161746045992960 (pos 0) (stamp 0 0) true ∷ [])
    ≡ outcomes.Crossed (crossing_of kinds.DelayReq 10 117679431161746045992960 (pos 15295643648) (pos 4097572864) (pos 11198070784) 237 239 (Some 240) (Some 242))
longer_way_request = refl

longer_way_sync_later : told 256 (met_at kinds.Sync 100 places.AtTo 1688 117679432538401654177792 (pos 4630315008) (stamp 1795645638 97025012) false)
    (met_at kinds.Sync 100 places.AtFrom 1684 117679432538368070778880 (pos 0) (stamp 1795645638 97025012) false
    ∷ met_at kinds.Sync 100 places.Second 1683 117679432538365169369088 (pos 0) (stamp 0 0) true
    ∷ met_at kinds.Sync 100 places.First 1681 117679432538326012198912 (pos 0) (stamp 0 0) true ∷ [])
    ≡ outcomes.Crossed (crossing_of kinds.Sync 100 117679432538326012198912 (pos 39157170176) (pos 4630315008) (pos 34526855168) 1681 1683 (Some 1684) (Some 1688))
longer_way_sync_later = refl

longer_way_request_later : told 256 (met_at kinds.DelayReq 100 places.AtTo 1746 117679432602792098136064 (pos 5220139008) (stamp 1795645639 80161481) false)
    (met_at kinds.DelayReq 100 places.AtFrom 1744 117679432602761306439680 (pos 0) (stamp 1795645639 80161481) false
    ∷ met_at kinds.DelayReq 100 places.Second 1743 117679432602757462818816 (pos 0) (stamp 0 0) true
    ∷ met_at kinds.DelayReq 100 places.First 1741 117679432602742979559424 (pos 0) (stamp 0 0) true ∷ [])
    ≡ outcomes.Crossed (crossing_of kinds.DelayReq 100 117679432602742979559424 (pos 14483259392) (pos 5220139008) (pos 9263120384) 1741 1743 (Some 1744) (Some 1746))
longer_way_request_later = refl
