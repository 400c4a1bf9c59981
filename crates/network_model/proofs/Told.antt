-- The present master in a slave's history is the one that its last SetMaster event named.
-- So what the slave takes from its present master is from that node.
use Rattle.std.proofs.Common.{◌≡◌, ◌∙◌, Bool, true, false, List, [], ◌∷◌, Option, Some, None, refl, sym, ap, if◌then◌else◌}
use Rattle.std.specs.Prelude.{◌&&◌}
use Rattle.std.proofs.lemmas.Bool.{and_right, and_from}
use Rattle.event_codec.specs.declared.port.PortIdentity.{PortIdentity}
use Rattle.slave_port.specs.History as calls
use Rattle.slave_port.specs.History.{Call}
use Rattle.network_model.specs.declared.event.Event.{Event}
use Rattle.network_model.specs.Network.{Network, NodeName, PortSetup, is_named}
use Rattle.network_model.specs.Run.{Run, Place, place, site_of}
use Rattle.network_model.specs.Kinds.{is_at, is_set_master, named_master}
use Rattle.network_model.specs.Truth.{master_at}
use Rattle.network_model.specs.SlaveHistory.{call_made, history_of}
use Rattle.network_model.specs.Outcome.{IsRun}
use Rattle.network_model.specs.Present.{last_set_master}
use Rattle.network_model.proofs.Calls.{history-here, history-elsewhere, sets, call_kind, silent, IsCallOf, Arrives, Hears, Requests, Departs, Ticks, Sets, call_of}
use Rattle.network_model.proofs.Reach.{last_set_master-later}

-- the SetMaster event that named the master of this identity
pub record IsTold (network : Network) (slave : NodeName) (run : Run) (identity : PortIdentity) : Type 0 where
  pub set : Place
  pub master : NodeName
  pub port : PortSetup
  pub last : last_set_master slave run ≡ Some set
  pub named : named_master set.event ≡ Some master
  pub port_is : master_at network master ≡ Some port
  pub is : identity ≡ port.config.identity

-- a call that isn't a set_master keeps the present master
kept_master : (call : Call) (history : List Call) → sets call ≡ false → calls.present_master (call ∷ history) ≡ calls.present_master history
kept_master (calls.SetMaster master) history unset = cc
kept_master calls.Tick history unset = refl
kept_master (calls.NextRequest tag) history unset = refl
kept_master (calls.RequestLeft number t3) history unset = refl
kept_master (calls.Event heard t2 tag) history unset = refl
kept_master (calls.General heard tag) history unset = refl

told-later : (network : Network) (slave : NodeName) (event : Event) (earlier : Run) (identity : PortIdentity) → is_at is_set_master slave event ≡ false
    → IsTold network slave earlier identity → IsTold network slave (event ∷ earlier) identity
told-later network slave event earlier identity unset told = record {
  set = told.set;
  master = told.master;
  port = told.port;
  last = last_set_master-later slave event earlier unset ∙ told.last;
  named = told.named;
  port_is = told.port_is;
  is = told.is;
}

set_now : (network : Network) (port : PortSetup) (slave : NodeName) (event : Event) (earlier : Run) (identity : PortIdentity) (call : Call) → is_named (site_of event) slave ≡ true
    → IsCallOf network port event earlier call → call ≡ calls.SetMaster identity → IsTold network slave (event ∷ earlier) identity
set_now network port slave event earlier identity call here (Arrives node copy at m e c is) same = cc
set_now network port slave event earlier identity call here (Hears node copy m e c is) same = cc
set_now network port slave event earlier identity call here (Requests node at e is) same = cc
set_now network port slave event earlier identity call here (Departs node request e w is) same = cc
set_now network port slave event earlier identity call here (Ticks node e is) same = cc
set_now network port slave event earlier identity call here (Sets node master other e is_port is) same =
    let now : is_at is_set_master slave event ≡ true = and_from (is_set_master event) (is_named (site_of event) slave) (ap is_set_master e) here in
    record {
      set = place event earlier;
      master = master;
      port = other;
      last = ap (λ (b : Bool). if b then Some (place event earlier) else last_set_master slave earlier) now;
      named = ap named_master e;
      port_is = is_port;
      is = let both : calls.SetMaster other.config.identity ≡ calls.SetMaster identity = sym is ∙ same in cc;
    }

pub told_master : (network : Network) (port : PortSetup) (slave : NodeName) (run : Run) (identity : PortIdentity) → IsRun network run
    → calls.present_master (history_of network port slave run) ≡ Some identity → IsTold network slave run identity
told_master network port slave [] identity accepted present = cc
told_master network port slave (event ∷ earlier) identity accepted present =
    at (is_named (site_of event) slave) refl (call_made network port event earlier) refl (told_master network port slave earlier identity accepted.1)
  where
    before : List Call
    before = history_of network port slave earlier

    at : (named : Bool) → is_named (site_of event) slave ≡ named → (call : Option Call) → call_made network port event earlier ≡ call
        → (calls.present_master before ≡ Some identity → IsTold network slave earlier identity) → IsTold network slave (event ∷ earlier) identity
    at false elsewhere call made rest =
        told-later network slave event earlier identity (and_right (is_set_master event) (is_named (site_of event) slave) elsewhere)
        (rest (sym (ap calls.present_master (history-elsewhere network port slave event earlier elsewhere)) ∙ present))
    at true here None made rest =
        let none = silent network port event earlier accepted.0 made in
        told-later network slave event earlier identity (ap (λ (b : Bool). b && is_named (site_of event) slave) none.1)
        (rest (sym (ap calls.present_master (history-here network port slave event earlier None here made)) ∙ present))
    at true here (Some call) made rest = by call (call_of network port event earlier call made) (call_kind network port event earlier call made).1
        (sym (ap calls.present_master (history-here network port slave event earlier (Some call) here made)) ∙ present)
      where
        other : (call : Call) → is_set_master event ≡ sets call → sets call ≡ false → calls.present_master (call ∷ before) ≡ Some identity → IsTold network slave (event ∷ earlier) identity
        other call kind unset now =
            told-later network slave event earlier identity (ap (λ (b : Bool). b && is_named (site_of event) slave) (kind ∙ unset))
            (rest (sym (kept_master call before unset) ∙ now))

        by : (call : Call) → IsCallOf network port event earlier call → is_set_master event ≡ sets call → calls.present_master (call ∷ before) ≡ Some identity
            → IsTold network slave (event ∷ earlier) identity
        by (calls.SetMaster m) of kind now = let same : m ≡ identity = cc in set_now network port slave event earlier identity (calls.SetMaster m) here of (ap calls.SetMaster same)
        by calls.Tick of kind now = other calls.Tick kind refl now
        by (calls.NextRequest tag) of kind now = other (calls.NextRequest tag) kind refl now
        by (calls.RequestLeft number t3) of kind now = other (calls.RequestLeft number t3) kind refl now
        by (calls.Event m t2 tag) of kind now = other (calls.Event m t2 tag) kind refl now
        by (calls.General m tag) of kind now = other (calls.General m tag) kind refl now
