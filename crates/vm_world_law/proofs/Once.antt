-- Roles begin in one world, which has counted nothing.
use Rattle.std.proofs.Common.{◌≡◌, ℕ, suc, ◌+◌, List, [], ◌∷◌, length, map, Some, refl, sym, ap, ap₂, ◌∙◌, arith}
use Rattle.mg_text.specs.Call.{Name}
use Rattle.vm_model.specs.Program.{Program, class_at}
use Rattle.vm_model.specs.Machine.{Machine}
use Rattle.vm_model.specs.Start.{IsStart, main_in, started}
use Rattle.vm_world_law.specs.declared.role.RoleMain.{RoleMain}
use Rattle.vm_world_law.specs.World.{Runs, Role, World, StartAt, IsBegun, turn, turns}
use Rattle.vm_world_law.specs.Turns.{all_counts, counted}
use Rattle.vm_world_law.proofs.Lists.{some_is}
use Rattle.vm_world_law.proofs.Stopping.{turn_long}

one_start : (p : Program) (name : Name) (m n : Machine) → IsStart p name m → IsStart p name n → m ≡ n
one_start p name m n a b =
    let class : a.class ≡ b.class = some_is (sym a.main.has_class ∙ b.main.has_class) in
    let method : a.method ≡ b.method = some_is (sym a.main.has_main ∙ ap (λ c. main_in (class_at p c)) class ∙ b.main.has_main) in
    a.machine ∙ ap (λ c. started p c a.method) class ∙ ap (λ k. started p b.class k) method ∙ sym b.machine

pub same_roles : (p : Program) (mains : List RoleMain) (xs ys : List Role) → StartAt p mains xs → StartAt p mains ys → xs ≡ ys
same_roles p [] [] [] h g = refl
same_roles p [] [] (y ∷ ys) h g = absurd g
same_roles p [] (x ∷ xs) ys h g = absurd h
same_roles p (main ∷ mains) [] ys h g = absurd h
same_roles p (main ∷ mains) (x ∷ xs) [] h g = absurd g
same_roles p (main ∷ mains) (x ∷ xs) (y ∷ ys) h g =
    let ((m, start, is), rest) = h in
    let ((n, start', is'), rest') = g in
    let machine : m ≡ n = one_start p main.class m n start start' in
    ap₂ (λ (a : Role) (l : List Role). a ∷ l) (is ∙ ap (λ (k : Machine). record { state = Runs k; count = 0 }) machine ∙ sym is')
    (same_roles p mains xs ys rest rest')

-- the world before the first turn is one
pub begun_once : (p : Program) (mains : List RoleMain) (v w : World) → IsBegun p mains v → IsBegun p mains w → v ≡ w
begun_once p mains v w h g =
    let roles : v.roles ≡ w.roles = same_roles p mains v.roles w.roles h.roles g.roles in
    let messages : v.messages ≡ w.messages = h.messages ∙ sym g.messages in
    let events : v.events ≡ w.events = h.unseen ∙ sym g.unseen in
    λ i. record { roles = roles i; messages = messages i; events = events i }

-- there are as many roles as were named
pub begun_many : (p : Program) (mains : List RoleMain) (roles : List Role) → StartAt p mains roles → length roles ≡ length mains
begun_many p [] [] h = refl
begun_many p [] (role ∷ roles) h = absurd h
begun_many p (main ∷ mains) [] h = absurd h
begun_many p (main ∷ mains) (role ∷ roles) h = ap suc (begun_many p mains roles h.1)

none_counted : (p : Program) (mains : List RoleMain) (roles : List Role) → StartAt p mains roles → all_counts roles ≡ 0
none_counted p [] [] h = refl
none_counted p [] (role ∷ roles) h = absurd h
none_counted p (main ∷ mains) [] h = absurd h
none_counted p (main ∷ mains) (role ∷ roles) h =
    let ((m, start, is), rest) = h in
    let none : role.count ≡ 0 = ap (λ (r : Role). r.count) is in
    let more : all_counts roles ≡ 0 = none_counted p mains roles rest in
    omega (arith, none, more)

pub begun_counted : (p : Program) (mains : List RoleMain) (w : World) → IsBegun p mains w → counted w ≡ 0
begun_counted p mains w h = none_counted p mains w.roles h.roles

pub turns_long : (p : Program) (w : World) (order : List ℕ) → length (turns p w order).roles ≡ length w.roles
turns_long p w [] = refl
turns_long p w (r ∷ more) = turns_long p (turn p w r) more ∙ turn_long p w r
