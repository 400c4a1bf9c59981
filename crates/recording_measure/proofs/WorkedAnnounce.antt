-- A worked case: an Announce of the master that is watched, octet for octet, and of whom it isn't.
use Rattle.std.proofs.Common.{◌≡◌, ℕ, ◌++◌, pos, true, List, [], ◌∷◌, replicate, Some, None, refl}
use Rattle.recording_model.specs.declared.watched.Watched.{Watched}
use Rattle.recording_measure.specs.Announced.{announcement_in}

-- a master of this portNumber, in domain 0
abbrev watching : (port : ℕ) → Watched
watching port = record {
  slave = record { clock = replicate 8 1; port = 1 };
  master = record { clock = 0 ∷ 17 ∷ 34 ∷ 255 ∷ 254 ∷ 51 ∷ 68 ∷ 85 ∷ []; port = port };
  domain = 0;
}

-- Octet by octet: a message of type 11, version 2.1 and 64 octets, of domain 0, with currentUtcOffsetValid and ptpTimescale; its source,
-- number, control and logMessageInterval; originTimestamp; currentUtcOffset 37; grandmasterPriority1, clockClass 6, accuracy, variance and
-- grandmasterPriority2; grandmasterIdentity, stepsRemoved 1, and timeSource
abbrev octets : List ℕ
octets =
    11 ∷ 18 ∷ 0 ∷ 64 ∷ 0 ∷ 0 ∷ 0 ∷ 12 ∷ replicate 12 0
    ++ 0 ∷ 17 ∷ 34 ∷ 255 ∷ 254 ∷ 51 ∷ 68 ∷ 85 ∷ 0 ∷ 1 ∷ 0 ∷ 9 ∷ 5 ∷ 0 ∷ replicate 10 0
    ++ 0 ∷ 37 ∷ 0 ∷ 128 ∷ 6 ∷ 33 ∷ 78 ∷ 93 ∷ 128 ∷ 0 ∷ 17 ∷ 34 ∷ 255 ∷ 254 ∷ 170 ∷ 187 ∷ 204 ∷ 0 ∷ 1 ∷ 32 ∷ []

told : announcement_in (watching 1) 3 octets ≡ Some (record {
  line = 3;
  announced = record {
    grandmaster = 0 ∷ 17 ∷ 34 ∷ 255 ∷ 254 ∷ 170 ∷ 187 ∷ 204 ∷ [];
    clock_class = 6;
    steps_removed = 1;
    utc_offset = pos 37;
    is_utc_offset_valid = true;
    is_ptp_timescale = true;
  };
})
told = refl

-- it is from port 1
of_another : announcement_in (watching 2) 3 octets ≡ None
of_another = refl
