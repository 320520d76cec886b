-- Roles that begin, one after another.
use Rattle.std.proofs.Common.{◌≡◌, ◌<◌, ◌+◌, take, get_or, ℕ, List, [], ◌∷◌, ◌++◌, length, refl, sym, ap, ◌∙◌, subst}
use Rattle.vm_model.specs.Program.{Program}
use Rattle.vm_model.specs.Machine.{Machine}
use Rattle.vm_model.specs.Start.{IsStart}
use Rattle.vm_step.specs.declared.machine.Machine.{Machine as Running}
use Rattle.vm_world_law.specs.declared.role.RoleMain.{RoleMain}
use Rattle.vm_world_law.specs.World.{Runs, Role, StartAt}
use Rattle.std.proofs.lemmas.List.{take_more, map-append}
use Rattle.vm_world.specs.declared.role.Role.{Role as Kept}
use Rattle.vm_world.specs.declared.role.State.TheVariants as states
use Rattle.vm_world.specs.View.{role_of, roles_of}

-- one role more
pub start_more : (p : Program) (mains : List RoleMain) (roles : List Role) (main : RoleMain) (m : Machine) → StartAt p mains roles →
    IsStart p main.class m →
    StartAt p (mains ++ main ∷ []) (roles ++ record { state = Runs m; count = 0 } ∷ [])
start_more p [] [] main m h start = ((m, start, refl), tt)
start_more p [] (role ∷ roles) main m h start = absurd h
start_more p (x ∷ mains) [] main m h start = absurd h
start_more p (x ∷ mains) (role ∷ roles) main m h start = (h.0, start_more p mains roles main m h.1 start)

-- the next role of the list begins
pub next_begun : (p : Program) (mains : List RoleMain) (roles new : List Kept) (k : ℕ) (main : RoleMain) (m : Running) → k < length mains →
    main ≡ get_or mains k main →
    StartAt p (take k mains) (roles_of roles) → IsStart p main.class m.machine →
    new ≡ roles ++ record { state = states.Runs m; count = 0 } ∷ [] →
    StartAt p (take (k + 1) mains) (roles_of new)
next_begun p mains roles new k main m lt is h start added =
    let taken : take (k + 1) mains ≡ take k mains ++ main ∷ [] =
    take_more mains k main lt ∙ ap (λ (x : RoleMain). take k mains ++ x ∷ []) (sym is) in
    let grown : roles_of new ≡ roles_of roles ++ record { state = Runs m.machine; count = 0 } ∷ [] =
    ap roles_of added ∙ map-append role_of roles (record { state = states.Runs m; count = 0 } ∷ []) in
    subst (λ l. StartAt p l (roles_of new)) (sym taken)
    (subst (λ l. StartAt p (take k mains ++ main ∷ []) l) (sym grown)
    (start_more p (take k mains) (roles_of roles) main m.machine h start))
