use Rattle.std.proofs.Common.{◌≡◌, ◌∙◌, ◌++◌, List, ℕ, ap, sym, codes}
use Rattle.std.specs.Fmt.{signed_decimal}
use Rattle.serde_json.specs.Data.{string}
use Rattle.serde_json.specs.Written.{compact_text}
use Rattle.schedule_lines.specs.Written.{whole}
use Rattle.line_writing.specs.Inner.Pieces.{drawn_text, clock_text}
use Rattle.line_writing.proofs.Appended.{eleven}
use Rattle.line_writing.proofs.Plain.{escape_plain}
use Rattle.line_writing.proofs.Texts.{port_is}
use Rattle.line_writing.proofs.lines.push_port.Goals as goal

pub returns : goal.returns
returns c =
    let kind = c.args.kind.now in
    let config = c.args.config.now in
    let e1 : c.push_drawn.new.text.items ≡ c.args.text.now.items ++ drawn_text config.domain c.args.first.0 = c.in_ok-push_drawn.ensures in
    let e2 : c.push_clock.new.text.items ≡ c.push_drawn.new.text.items ++ clock_text config.identity.clock = c.in_ok-push_clock.ensures in
    let e3 : c.extend_from_slice.new.self.items ≡ c.push_clock.new.text.items ++ codes ",\"kind\":\"" = c.in_ok-extend_from_slice.ensures.items in
    let e4 : c.extend_from_slice-2.new.self.items ≡ c.extend_from_slice.new.self.items ++ kind = c.in_ok-extend_from_slice-2.ensures.items in
    let e5 : c.extend_from_slice-3.new.self.items ≡ c.extend_from_slice-2.new.self.items ++ codes "\",\"log\":" = c.in_ok-extend_from_slice-3.ensures.items in
    let e6 : c.push_signed.new.text.items ≡ c.extend_from_slice-3.new.self.items ++ signed_decimal config.log = c.in_ok-push_signed.ensures in
    let e7 : c.extend_from_slice-4.new.self.items ≡ c.push_signed.new.text.items ++ codes ",\"node\":" = c.in_ok-extend_from_slice-4.ensures.items in
    let e8 : c.push_name.new.text.items ≡ c.extend_from_slice-4.new.self.items ++ compact_text (string c.args.name.now) = c.in_ok-push_name.ensures in
    let e9 : c.extend_from_slice-5.new.self.items ≡ c.push_name.new.text.items ++ codes ",\"port\":" = c.in_ok-extend_from_slice-5.ensures.items in
    let e10 : c.push_whole.new.text.items ≡ c.extend_from_slice-5.new.self.items ++ compact_text (whole config.identity.port) = rw c.from.ensures at c.in_ok-push_whole.ensures in
    let e11 : c.extend_from_slice-6.new.self.items ≡ c.push_whole.new.text.items ++ codes "}" = c.in_ok-extend_from_slice-6.ensures.items in
    eleven c.args.text.now.items c.push_drawn.new.text.items c.push_clock.new.text.items c.extend_from_slice.new.self.items c.extend_from_slice-2.new.self.items
    c.extend_from_slice-3.new.self.items c.push_signed.new.text.items c.extend_from_slice-4.new.self.items c.push_name.new.text.items
    c.extend_from_slice-5.new.self.items c.push_whole.new.text.items c.extend_from_slice-6.new.self.items
    (drawn_text config.domain c.args.first.0) (clock_text config.identity.clock) (codes ",\"kind\":\"") kind (codes "\",\"log\":") (signed_decimal config.log)
    (codes ",\"node\":") (compact_text (string c.args.name.now)) (codes ",\"port\":") (compact_text (whole config.identity.port)) (codes "}")
    e1 e2 e3 e4 e5 e6 e7 e8 e9 e10 e11
    ∙ ap (λ (t : List ℕ). c.args.text.now.items ++ t) (sym (port_is c.args.name.now kind config c.args.first (escape_plain kind c.requires)))
