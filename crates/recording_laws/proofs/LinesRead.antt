-- Lines that were read took a recording on, and are met at no place of a name.
use Rattle.std.proofs.Common.{◌≡◌, ◌∙◌, ◌+◌, ℕ, true, List, [], ◌∷◌, ◌++◌, length, None, refl, sym, ap, subst, arith}
use Rattle.std.specs.Prelude.{⊤}
use Rattle.std.proofs.lemmas.List.{append_assoc, append-nil}
use Rattle.std.proofs.lemmas.List.Elements.{All-nil}
use Rattle.text_lines.specs.Task.{TakesLines}
use Rattle.datagram_source.specs.Rules.{LinesRead, nothing_read, line_rules}
use Rattle.recording_measure.specs.declared.form.Form.{Form}
use Rattle.recording_measure.specs.declared.watch.WantedPorts.{WantedPorts}
use Rattle.recording_measure.specs.Places.{PlacedRow}
use Rattle.recording_measure.specs.Measure.{Recording, begun, is_captured, written_of, measure_rules}
use Rattle.recording_laws.specs.Alone.{AreAt}
use Rattle.recording_measure.proofs.ReadOne.{one_read}

-- rows have the numbers of lines from 1 on
abbrev pub AreCounted : List PlacedRow → Type 0
AreCounted [] = ⊤
AreCounted (r ∷ rows) = (r.row.datagram.line ≡ length rows + 1) × AreCounted rows

-- the rows are those of so many lines
pub record AreOfLines (r : LinesRead Recording) : Type 0 where
  pub count : r.count ≡ length r.state.rows
  pub counted : AreCounted r.state.rows

-- lines that were read took a recording on
pub record IsReadOn (r read : LinesRead Recording) (text : List ℕ) : Type 0 where
  pub form : read.state.form ≡ r.state.form
  pub wanted : read.state.wanted ≡ r.state.wanted
  pub written : written_of read.state ≡ written_of r.state ++ text
  pub before : is_captured read.state.by ≡ true → is_captured r.state.by ≡ true
  pub lines : is_captured read.state.by ≡ true → AreOfLines r → AreOfLines read
  pub nameless : AreAt None r.state.rows → AreAt None read.state.rows

pub read_on : (number : ℕ) (lines : List (List ℕ)) (r read : LinesRead Recording) (text : List ℕ)
    → TakesLines (line_rules measure_rules) number lines r read text → IsReadOn r read text
read_on number [] r read text (same, nothing) = record {
  form = ap (λ (x : LinesRead Recording). x.state.form) same;
  wanted = ap (λ (x : LinesRead Recording). x.state.wanted) same;
  written = ap (λ (x : LinesRead Recording). written_of x.state) same ∙ sym (append-nil (written_of r.state))
      ∙ ap (λ (t : List ℕ). written_of r.state ++ t) (sym nothing);
  before = subst (λ (x : LinesRead Recording). is_captured x.state.by ≡ true → is_captured r.state.by ≡ true) (sym same) (λ is. is);
  lines = λ captured. subst (λ (x : LinesRead Recording). AreOfLines r → AreOfLines x) (sym same) (λ are. are);
  nameless = subst (λ (x : LinesRead Recording). AreAt None r.state.rows → AreAt None x.state.rows) (sym same) (λ at. at);
}
read_on number (line ∷ lines) r read text (next, first, others, whole, (d, is, count, (on, out)), rest, all) =
    let later = read_on (number + 1) lines next read others rest in
    let one = one_read d r.state next.state on in record {
      form = later.form ∙ one.form;
      wanted = later.wanted ∙ one.wanted;
      written = later.written ∙ ap (λ (t : List ℕ). t ++ others) out
          ∙ append_assoc (written_of r.state) first others ∙ ap (λ (t : List ℕ). written_of r.state ++ t) (sym all);
      before = λ captured. one.before (later.before captured);
      lines = λ captured are. later.lines captured (record {
        count = omega (arith, count, are.count, ap (λ (rows : List PlacedRow). length rows) (one.row (later.before captured)));
        counted = subst AreCounted (sym (one.row (later.before captured)))
            (is.numbered ∙ ap (λ (n : ℕ). n + 1) are.count, are.counted);
      });
      nameless = λ at. later.nameless (one.nameless is.placed at);
    }

-- nothing was read
pub begun_of_lines : (form : Form) (wanted : WantedPorts) → AreOfLines (nothing_read (begun form wanted))
begun_of_lines form wanted = record { count = refl; counted = tt }

pub begun_nameless : AreAt None []
begun_nameless = All-nil (λ (r : PlacedRow). r.place ≡ None)
