-- How the lines of nodes go out, and what is known where they don't.
use Rattle.std.proofs.Common.{◌≡◌, ◌∙◌, ◌⊎◌, inl, inr, refl, sym, ap, ℕ, zero, suc, ◌+◌, List, [], ◌∷◌, ◌++◌, Option, Some, None, length, take, append_assoc, append-nil, add-one, ◌<◌, get_or, arith}
use Rattle.std.specs.Io.KnownBytes.{Appends}
use Rattle.std.proofs.KnownBytes.{Appends-nil, Appends-kept}
use Rattle.network_model.specs.declared.node.NodeSpec.{NodeSpec}
use Rattle.network_model.specs.declared.refusal.WorldRefusal.{WorldRefusal}
use Rattle.network_model.specs.declared.refusal.WorldRefusal.TheVariants.{SameName, SameIdentity, NoNode, WrongKind, NoCopy, NoTransit, ReadingOutOfRange, NothingWaiting, Memory}
use Rattle.network_model.specs.Network.{Network}
use Rattle.network_model.specs.Clash.{first_clash}
use Rattle.schedule_lines.specs.Written.{node_data, line_text}
use Rattle.schedule_reading.specs.declared.fault.TaskFault.{TaskFault}
use Rattle.schedule_reading.specs.declared.fault.TaskFault.TheVariants as tasks
use Rattle.schedule_reading.specs.Fault.{fault_of}
use Rattle.schedule_reading.specs.Schedule.{FaultsAtEnd}
use Rattle.transcript_text.specs.Replay.{nodes_text, NodesGoOut}
use Rattle.text_lines.specs.Task.{WentOut}
use Rattle.schedule_reading.specs.Fault.{is_write}
use Rattle.transcript_text.specs.Inner.Replaying.{LeavesUnwritten}

-- one node more
pub nodes_text-more : (count : ℕ) (nodes : Network) (node : NodeSpec) → count < length nodes → node ≡ get_or nodes count node
    → nodes_text (take (count + 1) nodes) ≡ nodes_text (take count nodes) ++ line_text (node_data node)
nodes_text-more count [] node within is = absurd (omega arith)
nodes_text-more zero (first ∷ others) node within is =
    append-nil (line_text (node_data first)) ∙ ap (λ (n : NodeSpec). line_text (node_data n)) (sym is)
nodes_text-more (suc count) (first ∷ others) node within is =
    let more = nodes_text-more count others node (omega arith) is in
    rw add-one (ap (λ text. line_text (node_data first) ++ text) (rw add-one at more)
    ∙ sym (append_assoc (line_text (node_data first)) (nodes_text (take count others)) (line_text (node_data node))))

-- what is said of nodes whose lines didn't all go out
abbrev pub Unbegun : TaskFault → Network → Option (List ℕ) → Option (List ℕ) → Type 0
Unbegun fault nodes before after =
    FaultsAtEnd fault nodes × ((written : List ℕ) × NodesGoOut fault nodes written × WentOut (is_write fault) (Appends before after written))

clashes : (why : WorldRefusal) (nodes : Network) (at : Option (List ℕ)) → first_clash nodes ≡ Some why → Unbegun (tasks.World why) nodes at at
clashes why nodes at clash = (clash, ([], rw clash refl, Appends-nil at))

pub no_network : (why : WorldRefusal) (nodes : Network) (at : Option (List ℕ)) → (why ≡ Memory) ⊎ (first_clash nodes ≡ Some why)
    → Unbegun (fault_of why) nodes at at
no_network why nodes at (inl memory) = rw memory (tt, ([], (0, refl), Appends-nil at))
no_network Memory nodes at (inr clash) = (tt, ([], (0, refl), Appends-nil at))
no_network SameName nodes at (inr clash) = clashes SameName nodes at clash
no_network SameIdentity nodes at (inr clash) = clashes SameIdentity nodes at clash
no_network NoNode nodes at (inr clash) = clashes NoNode nodes at clash
no_network WrongKind nodes at (inr clash) = clashes WrongKind nodes at clash
no_network NoCopy nodes at (inr clash) = clashes NoCopy nodes at clash
no_network NoTransit nodes at (inr clash) = clashes NoTransit nodes at clash
no_network ReadingOutOfRange nodes at (inr clash) = clashes ReadingOutOfRange nodes at clash
no_network NothingWaiting nodes at (inr clash) = clashes NothingWaiting nodes at clash

-- memory was refused after the lines of so many nodes
pub no_memory : (count : ℕ) (nodes : Network) (before after : Option (List ℕ)) → Appends before after (nodes_text (take count nodes))
    → Unbegun tasks.Memory nodes before after
no_memory count nodes before after so_far = (tt, (nodes_text (take count nodes), (count, refl), so_far))

-- a line wasn't written after those of so many nodes
pub no_line : (fault : TaskFault) (count : ℕ) (nodes : Network) (before now after : Option (List ℕ))
    → Appends before now (nodes_text (take count nodes)) → first_clash nodes ≡ None → LeavesUnwritten fault now after → Unbegun fault nodes before after
no_line tasks.Memory count nodes before now after so_far network kept = no_memory count nodes before after (Appends-kept before now after _ so_far kept)
no_line tasks.Write count nodes before now after so_far network kept = (network, ([], tt, tt))
no_line tasks.Json count nodes before now after so_far network kept = absurd kept
no_line tasks.Field count nodes before now after so_far network kept = absurd kept
no_line (tasks.World why) count nodes before now after so_far network kept = absurd kept
