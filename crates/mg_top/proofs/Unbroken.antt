-- No role of a run of accepted files ends at a null, or because its code is wrong.
use Rattle.std.proofs.Common.{◌≡◌, ◌≢◌, ◌<◌, ℕ, suc, Bool, true, false, List, [], ◌∷◌, length, Option, Some, None, slice_get, refl, sym, ap}
use Rattle.std.proofs.Common.{◌∙◌, subst}
use Rattle.std.specs.Prelude.{◌||◌}
use Rattle.std.specs.List.{list_any}
use Rattle.mg_text.specs.declared.event.Ending.TheVariants as endings
use Rattle.mg_text.specs.declared.event.BadKind.{BadKind}
use Rattle.vm_model.specs.Program.{Program}
use Rattle.vm_world_law.specs.declared.role.RoleMain.{RoleMain}
use Rattle.vm_world_law.specs.World.{State, Runs, Over, Role, World, StartAt, turns, waits_in}
use Rattle.vm_world_law.specs.Turns.{first_turns, waiting_for, stand_of, stands_from, stands_in, is_broken}
use Rattle.vm_world_law.proofs.Lists.{got_within, get_within}
use Rattle.vm_world_law.proofs.Once.{turns_long}
use Rattle.mg_sources.specs.Files.{Source}
use Rattle.mg_runs.specs.Headline.{Course, IsCourse}
use Rattle.mg_runs.specs.Laws.{CoursesAreRuns}

-- a role that goes on, or ended otherwise
pub record IsFine (state : State) : Type 0 where
  pub no_null : state ≢ Over endings.Null
  pub well : (kind : BadKind) → state ≢ Over (endings.Bad kind)

waits_fine : (w : World) (peer : Option ℕ) → is_broken (waiting_for w peer) ≡ false
waits_fine w None = refl
waits_fine w (Some peer) = refl

stand_fine : (p : Program) (w : World) (r : ℕ) (state : State) → IsFine state → is_broken (stand_of p w r state) ≡ false
stand_fine p w r (Runs m) fine = waits_fine w (waits_in p w r (Runs m))
stand_fine p w r (Over endings.Done) fine = refl
stand_fine p w r (Over endings.Zero) fine = refl
stand_fine p w r (Over endings.Null) fine = absurd (fine.no_null refl)
stand_fine p w r (Over (endings.Mismatch peer found)) fine = refl
stand_fine p w r (Over (endings.NoPeer peer)) fine = refl
stand_fine p w r (Over (endings.Bad kind)) fine = absurd (fine.well kind refl)

some_same : {A : Type 0} {x y : A} → ◌≡◌ {A = Option A} (Some x) (Some y) → x ≡ y
some_same e = cc

-- neither the first nor one behind it
neither : (b c : Bool) → b ≡ false → c ≡ false → (b || c) ≡ false
neither false c e h = h
neither true c e h = absurd cc

stands_fine : (p : Program) (w : World) (r : ℕ) (roles : List Role) → ((i : ℕ) (role : Role) → slice_get roles i ≡ Some role →
    IsFine role.state) →
    list_any is_broken (stands_from p w r roles) ≡ false
stands_fine p w r [] fine = refl
stands_fine p w r (role ∷ roles) fine =
    neither (is_broken (stand_of p w r role.state)) (list_any is_broken (stands_from p w (suc r) roles))
    (stand_fine p w r role.state (fine 0 role refl)) (stands_fine p w (suc r) roles (λ i other at. fine (suc i) other at))

started_long : (p : Program) (mains : List RoleMain) (roles : List Role) → StartAt p mains roles → length roles ≡ length mains
started_long p [] [] h = refl
started_long p [] (role ∷ roles) h = absurd h
started_long p (main ∷ mains) [] h = absurd h
started_long p (main ∷ mains) (role ∷ roles) h = ap suc (started_long p mains roles h.1)

pub none_broken : CoursesAreRuns → (files : List Source) (mains : List RoleMain) (order : List ℕ) (limit : ℕ) (r : Course) →
    IsCourse files mains order limit r → list_any is_broken (stands_in r.program r.last) ≡ false
none_broken law files mains order limit r h =
    let run = law files mains order limit r h in
    let taken : List ℕ = first_turns order h.runs.taken in
    let long : length r.last.roles ≡ length mains
    = ap (λ (w : World). length w.roles) h.runs.is ∙ turns_long r.program r.first taken ∙ started_long r.program mains r.first.roles
    h.begins.roles in
    stands_fine r.program r.last 0 r.last.roles (λ i role at.
    let main = get_within mains i (subst (λ (n : ℕ). i < n) long (got_within r.last.roles i role at)) in
    let at_moment : slice_get (turns r.program r.first taken).roles i ≡ Some role
    = subst (λ (w : World). slice_get w.roles i ≡ Some role) h.runs.is at in
    let met = (run.meant taken).each i main.0 main.1 in
    let same : met.0 ≡ role = some_same (sym met.1 ∙ at_moment) in
    record {
      no_null = (run.keep taken i main.0 role main.1 at_moment).no_null;
      well = subst (λ (other : Role). (kind : BadKind) → other.state ≢ Over (endings.Bad kind)) same met.2.well;
    })
