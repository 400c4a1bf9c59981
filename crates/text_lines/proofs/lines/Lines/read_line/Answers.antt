use Rattle.std.proofs.Common.{rules}
use Rattle.text_lines.proofs.Bounds.{gives_line}
use Rattle.text_lines.proofs.Reading.{line_ended, line_last, line_too_long, line_failed}
use Rattle.text_lines.proofs.lines.Lines.read_line.Goals as goal

pub returns-in-LineFeed-clause-next : goal.returns-in-LineFeed-clause-next
returns-in-LineFeed-clause-next g c = λ octets known.
    let read = c.read_octets-size.ensures in
    rw c.requires.before_end (line_ended _ _ _ _ _ octets (rw c.in-LineFeed.is at read.stop) read.unended (search rules) c.requires.within known)

pub returns-in-End-clause-next : goal.returns-in-End-clause-next
returns-in-End-clause-next g c = λ octets known.
    let read = c.read_octets-size.ensures in
    let stop = rw c.in-End.is at read.stop in
    rw read.count at (line_last _ _ _ _ _ octets stop.0 stop.1 read.unended (search rules) c.requires.within known)

pub returns-in-TooLong-clause-next : goal.returns-in-TooLong-clause-next
returns-in-TooLong-clause-next g c = λ octets known.
    let read = c.read_octets-size.ensures in
    let (x, other, full, stop) = rw c.in-TooLong.is at read.stop in
    line_too_long _ _ _ x _ _ octets stop other read.unended full c.requires.within known

pub returns-in-Failed-clause-next : goal.returns-in-Failed-clause-next
returns-in-Failed-clause-next g c = λ octets known.
    let read = c.read_octets-size.ensures in
    line_failed _ _ _ _ _ octets (rw c.in-Failed.is at read.stop) read.unended (search rules) c.requires.within known

pub returns-in-LineFeed-clause-given : goal.returns-in-LineFeed-clause-given
returns-in-LineFeed-clause-given g c =
    let read = c.read_octets-size.ensures in
    gives_line _ _ _ _ _ _ _ read.stop (search rules) (search rules) (search rules) read.given

pub returns-in-TooLong-clause-given : goal.returns-in-TooLong-clause-given
returns-in-TooLong-clause-given g c =
    let read = c.read_octets-size.ensures in
    gives_line _ _ _ _ _ _ _ read.stop (search rules) (search rules) (search rules) read.given

pub returns-in-Failed-clause-given : goal.returns-in-Failed-clause-given
returns-in-Failed-clause-given g c =
    let read = c.read_octets-size.ensures in
    gives_line _ _ _ _ _ _ _ read.stop (search rules) (search rules) (search rules) read.given
