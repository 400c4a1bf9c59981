-- Whether a packet is asked for, and whether it carries a datagram.
use Rattle.std.proofs.Common.{◌≡◌, ◌∙◌, ℕ, Bool, List, Option, Bor, ap, refl, sym}
use Rattle.capture_file.specs.declared.name.InterfaceName.{InterfaceName}
use Rattle.capture_file.specs.Name.{is_asked}
use Rattle.capture_file.specs.Packet.{InterfaceOf}
use Rattle.capture_frame.specs.declared.found.Found.{Found}
use Rattle.capture_frame.specs.declared.found.Found.TheVariants as found
use Rattle.capture_frame.specs.Found.{Answer, Datagram, IsFound, answer_of}

-- what was found is no datagram
other_answer : (what : Found) → ((x : Bor (List ℕ)) → what ≡ found.Datagram x → ⊥) → (d : List ℕ) → answer_of what ≡ Datagram d → ⊥
other_answer (found.Datagram x) other d is = other x refl
other_answer found.Fragment other d is = cc
other_answer found.TooLong other d is = cc
other_answer found.OtherLink other d is = cc
other_answer found.Other other d is = cc

-- a packet of which something else was found carries no datagram
pub carries_none : (what : Found) (link : ℕ) (octets datagram : List ℕ)
    → ((answer : Answer) → IsFound link octets answer → answer ≡ answer_of what)
    → ((x : Bor (List ℕ)) → what ≡ found.Datagram x → ⊥) → IsFound link octets (Datagram datagram) → ⊥
carries_none what link octets datagram only other carries =
    other_answer what other datagram (sym (only (Datagram datagram) carries))

-- whether an interface is asked for, by what the task answered
pub says : (interface : InterfaceOf) (there own asked : Option InterfaceName) (is : Bool) → is ≡ is_asked there interface → there ≡ own
    → own ≡ asked → is ≡ is_asked asked interface
says interface there own asked is told same owns = told ∙ ap (λ (a : Option InterfaceName). is_asked a interface) (same ∙ owns)
