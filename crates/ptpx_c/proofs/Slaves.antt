-- What a slave port answers, by way of its handle.
use Rattle.std.proofs.Common.{◌≡◌, ℕ, Bool, true, false, List, refl, sym, ap, subst}
use Rattle.std.specs.Prelude.{Option, Some, if◌then◌else◌}
use Rattle.slave_port.specs.declared.exchange.LastExchange.{LastExchange}
use Rattle.slave_port.specs.declared.heard.Heard.{Heard}
use Rattle.slave_port.specs.declared.heard.Heard.TheVariants as answers
use Rattle.slave_port.specs.declared.reason.Reason.{Reason}
use Rattle.slave_port.specs.declared.reason.SlaveRefusal.{SlaveRefusal}
use Rattle.slave_port.specs.declared.reason.SlaveRefusal.TheVariants.{NotHeld}
use Rattle.slave_port.specs.History.{Call, Setup}
use Rattle.slave_port.specs.Refusal.{code_of}
use Rattle.slave_port.specs.Exchange.{last_exchange}
use Rattle.slave_port.specs.StandsFor.{StandsFor, StandsAfter, IsAnswer}
use Rattle.ptpx_c.specs.declared.exchange.RawExchange.{RawExchange}
use Rattle.ptpx_c.specs.declared.handle.RawSlave.{RawSlave}
use Rattle.ptpx_c.specs.declared.heard.RawHeard.{RawHeard}
use Rattle.ptpx_c.specs.declared.ring.RingSlave.{RingSlave}
use Rattle.ptpx_c.specs.declared.ring.WideRingSlave.{WideRingSlave}
use Rattle.ptpx_c.specs.declared.wide_handle.RawWideSlave.{RawWideSlave}
use Rattle.ptpx_c.specs.Answers.{Says}
use Rattle.ptpx_c.specs.Exchanges.{IsPut}
use Rattle.ptpx_c.specs.Slaves.{Kind, with_port, with_wide_port, IsHeard, IsLast}

-- the memory holds one port
pub one_port : {Slave : Type 0} (o : Option Slave) (a b : Slave) → o ≡ Some a → o ≡ Some b → a ≡ b
one_port o a b e f = cc

-- a handle with the port that it has
pub same_handle : (handle : RawSlave) (slave : RingSlave) → handle.port ≡ Some slave → with_port handle slave ≡ handle
same_handle handle slave e = ap (λ (o : Option RingSlave). let h : RawSlave = record handle { port = o } in h) (sym e)

pub same_wide_handle : (handle : RawWideSlave) (slave : WideRingSlave) → handle.port ≡ Some slave → with_wide_port handle slave ≡ handle
same_wide_handle handle slave e = ap (λ (o : Option WideRingSlave). let h : RawWideSlave = record handle { port = o } in h) (sym e)

-- the one refusal's number
pub code_511 : (refusal : SlaveRefusal) → code_of refusal ≡ 511
code_511 NotHeld = refl

-- what is answered where no request is held
pub not_held : (held : Bool) (code : ℕ) → false ≡ held → code ≡ 511 → code ≡ (if held then 0 else 511)
not_held false code h e = e
not_held true code h e = let never : ⊥ = cc in absurd never

-- what a port answers is the answer by way of its handle
pub heard_by_handle : (kind : Kind) (call : Call) (handle : kind.Handle) (ring after : kind.Slave) (said : RawHeard) (answer : Heard)
    → kind.held handle ≡ Some ring → Says said answer → IsAnswer call (kind.kept ring) answer → StandsAfter call (kind.kept ring) (kind.kept after)
    → ((reason : Reason) → answer ≡ answers.Ignored reason → kind.kept after ≡ kind.kept ring)
    → IsHeard kind call handle (kind.with_port handle after) said
heard_by_handle kind call handle ring after said answer lies says is stands ignored = λ before there.
    let P : kind.Slave → Type 0 = λ r. (x : kind.Slave) × (y : Heard) × ((kind.with_port handle after ≡ kind.with_port handle x) × Says said y
    × IsAnswer call (kind.kept r) y × StandsAfter call (kind.kept r) (kind.kept x) × ((reason : Reason) → y ≡ answers.Ignored reason → kind.kept x ≡ kind.kept r)) in
    subst P (one_port (kind.held handle) ring before lies there) (after, answer, (refl, says, is, stands, ignored))

-- the exchange that a port has is the one by way of its handle
pub last_by_handle : (kind : Kind) (handle : kind.Handle) (ring : kind.Slave) (last : Option LastExchange) (code : ℕ) (old new : RawExchange)
    → kind.held handle ≡ Some ring → IsPut last code old new
    → ((setup : Setup) (history : List Call) → StandsFor setup (kind.kept ring) history → last ≡ last_exchange setup history)
    → IsLast kind handle code old new
last_by_handle kind handle ring last code old new lies put is = λ before there setup history stands.
    let Stands : kind.Slave → Type 0 = λ r. StandsFor setup (kind.kept r) history in
    let same = one_port (kind.held handle) before ring there lies in
    subst (λ x. IsPut x code old new) (is setup history (subst Stands same stands)) put
