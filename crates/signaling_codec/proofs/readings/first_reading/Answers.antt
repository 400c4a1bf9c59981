use Rattle.signaling_codec.proofs.Left.{has_first, sync_first, delay_first, fits_front}
use Rattle.signaling_codec.proofs.readings.first_reading.Goals as goal

pub sync_reading-requires-clause-whole : goal.sync_reading-requires-clause-whole
sync_reading-requires-clause-whole c =
    let h = rw c.in-SyncTiming.is at (has_first c.args.kind c.args.records.now c.requires.some c.requires.sound) in
    h.whole

pub sync_reading-requires-clause-origin : goal.sync_reading-requires-clause-origin
sync_reading-requires-clause-origin c =
    let h = rw c.in-SyncTiming.is at (has_first c.args.kind c.args.records.now c.requires.some c.requires.sound) in
    (fits_front 34 c.args.records.now h.fit).0

pub sync_reading-requires-clause-ingress : goal.sync_reading-requires-clause-ingress
sync_reading-requires-clause-ingress c =
    let h = rw c.in-SyncTiming.is at (has_first c.args.kind c.args.records.now c.requires.some c.requires.sound) in
    (fits_front 34 c.args.records.now h.fit).1

pub delay_reading-requires-clause-whole : goal.delay_reading-requires-clause-whole
delay_reading-requires-clause-whole c =
    let h = rw c.in-DelayTiming.is at (has_first c.args.kind c.args.records.now c.requires.some c.requires.sound) in
    h.whole

pub delay_reading-requires-clause-departure : goal.delay_reading-requires-clause-departure
delay_reading-requires-clause-departure c =
    let h = rw c.in-DelayTiming.is at (has_first c.args.kind c.args.records.now c.requires.some c.requires.sound) in
    (fits_front 30 c.args.records.now h.fit).0

pub delay_reading-requires-clause-receipt : goal.delay_reading-requires-clause-receipt
delay_reading-requires-clause-receipt c =
    let h = rw c.in-DelayTiming.is at (has_first c.args.kind c.args.records.now c.requires.some c.requires.sound) in
    (fits_front 30 c.args.records.now h.fit).1

pub returns-in-SyncTiming-clause-whole : goal.returns-in-SyncTiming-clause-whole
returns-in-SyncTiming-clause-whole c = (has_first c.args.kind c.args.records.now c.requires.some c.requires.sound).whole

pub returns-in-SyncTiming-clause-first : goal.returns-in-SyncTiming-clause-first
returns-in-SyncTiming-clause-first c =
    let h = rw c.in-SyncTiming.is at (has_first c.args.kind c.args.records.now c.requires.some c.requires.sound) in
    rw (c.in-SyncTiming.is, c.sync_reading.ensures) (sync_first c.args.master c.args.records.now h.whole)

pub returns-in-SyncTiming-clause-sound : goal.returns-in-SyncTiming-clause-sound
returns-in-SyncTiming-clause-sound c = (has_first c.args.kind c.args.records.now c.requires.some c.requires.sound).rest

pub returns-in-DelayTiming-clause-whole : goal.returns-in-DelayTiming-clause-whole
returns-in-DelayTiming-clause-whole c = (has_first c.args.kind c.args.records.now c.requires.some c.requires.sound).whole

pub returns-in-DelayTiming-clause-first : goal.returns-in-DelayTiming-clause-first
returns-in-DelayTiming-clause-first c =
    let h = rw c.in-DelayTiming.is at (has_first c.args.kind c.args.records.now c.requires.some c.requires.sound) in
    rw (c.in-DelayTiming.is, c.delay_reading.ensures) (delay_first c.args.master c.args.records.now h.whole)

pub returns-in-DelayTiming-clause-sound : goal.returns-in-DelayTiming-clause-sound
returns-in-DelayTiming-clause-sound c = (has_first c.args.kind c.args.records.now c.requires.some c.requires.sound).rest
