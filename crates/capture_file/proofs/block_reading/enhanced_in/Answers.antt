use Rattle.std.proofs.Common.{rules, ◌≡◌, Some}
use Rattle.capture_file.specs.Section.{packet_time}
use Rattle.capture_file.specs.Order.{number32}
use Rattle.capture_file.specs.Packet.{interface_of}
use Rattle.capture_file.specs.Inner.Described.{described_in}
use Rattle.capture_file.proofs.Blocks.{enhanced_is}
use Rattle.capture_file.proofs.block_reading.enhanced_in.Goals as goal

pub returns : goal.returns
returns c =
    let d = described_in c.args.interface.now in
    let order = c.args.order in
    let octets = c.args.octets.now in
    let time : packet_time d order octets ≡ Some c.in-Some.time = search rules in
    let interface : interface_of (record { place = c.u32_at.result; name = c.args.name }) ≡ record { place = number32 order octets 8; name = d.name } = search rules in
    enhanced_is _ c.in-Some.time _ _ c.args.interface.now.link c.args.captured octets time interface c.requires.most
