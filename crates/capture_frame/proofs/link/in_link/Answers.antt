use Rattle.capture_frame.proofs.link.in_link.Goals as goal

pub returns-in-Ethernet : goal.returns-in-Ethernet
returns-in-Ethernet c = rw c.in-Ethernet.is c.in_frame.ensures

pub returns-in-Loop : goal.returns-in-Loop
returns-in-Loop c = rw c.in-Loop.is c.in_big_endian.ensures

pub returns-in-Cooked : goal.returns-in-Cooked
returns-in-Cooked c = rw c.in-Cooked.is c.in_frame-in-Cooked.ensures

pub returns-in-Ipv4 : goal.returns-in-Ipv4
returns-in-Ipv4 c = rw c.in-Ipv4.is c.in_ipv4.ensures

pub returns-in-Ipv6 : goal.returns-in-Ipv6
returns-in-Ipv6 c = rw c.in-Ipv6.is c.in_ipv6.ensures

pub returns-in-Cooked2 : goal.returns-in-Cooked2
returns-in-Cooked2 c = rw c.in-Cooked2.is c.in_frame-in-Cooked2.ensures
