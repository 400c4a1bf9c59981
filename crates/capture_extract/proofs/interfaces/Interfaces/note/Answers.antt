use Rattle.std.proofs.Common.{◌∙◌, ℕ, List, length, cond, Option, Some, option_map, sym, ap}
use Rattle.std.specs.Str.{bytes_eq}
use Rattle.capture_extract.specs.Table.{index_of, is_alike_by}
use Rattle.capture_extract.proofs.Names.{named_more}
use Rattle.capture_extract.proofs.interfaces.Interfaces.note.Goals as goal

pub returns-in_ok-insert-in-Some-clause-named : goal.returns-in_ok-insert-in-Some-clause-named
returns-in_ok-insert-in-Some-clause-named c = λ met h is place name.
    let key = c.in_ok-from_slice-in-Some.field-0 in
    let updates = c.in_ok-insert-in-Some.ensures.updates in
    let before : Option ℕ = index_of (record { place = place; name = Some name }) met in
    named_more (λ k. k.items) c.args.self.now.named.entries c.insert.new.self.entries key c.args.index updates.3 updates.1 name
    ∙ ap (λ (o : Option ℕ). cond (bytes_eq name key.items) (Some c.args.index) o) (h place name)
    ∙ ap (λ (n : ℕ). cond (bytes_eq name key.items) (Some n) before) is
    ∙ ap (λ (own : List ℕ). cond (bytes_eq name own) (Some (length met)) before) c.in_ok-from_slice-in-Some.ensures.items
    ∙ ap (λ o. cond (is_alike_by (Some name) (option_map (λ own. own.now) o) place c.args.interface.now.place) (Some (length met)) before)
    (sym c.in-Some.is)
