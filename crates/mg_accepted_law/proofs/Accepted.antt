-- Accepted files have the roles of their protocols, and keep to the typestates of these.
use Rattle.std.proofs.Common.{ℕ, [], sym, append-nil}
use Rattle.mg_text.specs.Call.{Name}
use Rattle.scr_tree.specs.Tree.{LocalTree}
use Rattle.scr_tree.specs.Meaning.{protocol_of}
use Rattle.scr_tree.specs.Valid.{IsValid}
use Rattle.jv_values.specs.Values.{Inputs, Ended}
use Rattle.jv_meaning.specs.Calls.{Follows}
use Rattle.jv_meaning.specs.Meaning.{mean}
use Rattle.jv_rules.specs.Program.{Program}
use Rattle.use_meant_law.specs.Laws.{KeepsTo}
use Rattle.stm_acts.specs.Played.{HasRole, ActsAreSteps}
use Rattle.stm_acts.specs.Held.{HeldIsHad}
use Rattle.mg_accepted_law.specs.KeptLaws.{AcceptedKeepTypestates}
use Rattle.mg_accepted_law.specs.Laws.{ObjectsPlay, AcceptedObjectsPlay}
use Rattle.mg_accepted_law.proofs.Read.{valid_read}
use Rattle.mg_accepted_law.proofs.Held.{has_role}

-- all events of a run follow the typestates
all_follow : (program : Program) (run : Ended) → KeepsTo program run → Follows program.files program.typestates run.events
all_follow program run keeps = keeps.follows run.events (record { later = []; is = sym (append-nil run.events) })

-- a program that has the role, and a run of it that keeps to the typestates
objects_play : ActsAreSteps → (program : Program) (local : LocalTree) → ∥ IsValid local ∥₁ →
    HasRole program.files program.typestates local.me (protocol_of local) → (class : Name) (inputs : Inputs) (budget : ℕ) →
    KeepsTo program (mean program.files class inputs budget) → ObjectsPlay program local (mean program.files class inputs budget)
objects_play steps program local valid has class inputs budget keeps o made so_far front =
    steps program.files program.typestates local valid has class inputs budget
    (all_follow program (mean program.files class inputs budget) keeps) o made so_far front.later front.is

pub accepted_play : ActsAreSteps → HeldIsHad → AcceptedKeepTypestates → AcceptedObjectsPlay
accepted_play steps had kept files core accepted source local among spells class main inputs budget =
    objects_play steps accepted.have.program local (valid_read source local spells)
    (has_role had files accepted.have.program accepted.have.are source local among spells) class inputs budget
    (kept files core accepted class main inputs budget)
