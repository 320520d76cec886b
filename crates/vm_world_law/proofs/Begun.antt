-- Worlds that begin.
use Rattle.std.proofs.Common.{◌≡◌, ℕ, zero, suc, List, [], ◌∷◌, length, map, Some, slice_get, refl, sym, ap, ◌∙◌, subst}
use Rattle.std.specs.List.{IsDistinct}
use Rattle.std.specs.Str.{bytes_eq}
use Rattle.mg_text.specs.Call.{Name}
use Rattle.vm_model.specs.Program.{Program}
use Rattle.vm_model.specs.Messages.{Messages, or_nothing, no_messages}
use Rattle.vm_model.specs.Machine.{Machine}
use Rattle.vm_model.specs.Start.{IsStart}
use Rattle.vm_world_law.specs.declared.role.RoleMain.{RoleMain}
use Rattle.vm_world_law.specs.World.{Runs, Role, StartAt}
use Rattle.vm_world_law.specs.Laws.{BegunIsFresh}
use Rattle.vm_world_law.proofs.Lists.{some_is}

as_many : (p : Program) (mains : List RoleMain) (roles : List Role) → StartAt p mains roles →
    length roles ≡ length (map (λ main. main.role) mains)
as_many p [] [] h = refl
as_many p [] (role ∷ roles) h = absurd h
as_many p (main ∷ mains) [] h = absurd h
as_many p (main ∷ mains) (role ∷ roles) h = ap suc (as_many p mains roles h.1)

-- each role runs, and none of its instructions was counted
runs_there : (p : Program) (mains : List RoleMain) (roles : List Role) (r : ℕ) (role : Role) → StartAt p mains roles →
    slice_get roles r ≡ Some role →
    (m : Machine) × (role ≡ record { state = Runs m; count = 0 })
runs_there p [] [] r role h at = absurd (cc at)
runs_there p [] (x ∷ roles) r role h at = absurd h
runs_there p (main ∷ mains) [] r role h at = absurd h
runs_there p (main ∷ mains) (x ∷ roles) zero role h at = (h.0.0, sym (some_is at) ∙ h.0.2)
runs_there p (main ∷ mains) (x ∷ roles) (suc r) role h at = runs_there p mains roles r role h.1 at

starts_there : (p : Program) (mains : List RoleMain) (roles : List Role) (r : ℕ) (main : RoleMain) → StartAt p mains roles →
    slice_get mains r ≡ Some main →
    (m : Machine) × IsStart p main.class m × (slice_get roles r ≡ Some (record { state = Runs m; count = 0 }))
starts_there p [] [] r main h at = absurd (cc at)
starts_there p [] (x ∷ roles) r main h at = absurd h
starts_there p (y ∷ mains) [] r main h at = absurd h
starts_there p (y ∷ mains) (x ∷ roles) zero main h at =
    (h.0.0, subst (λ (z : RoleMain). IsStart p z.class h.0.0) (some_is at) h.0.1, ap (λ z. Some z) h.0.2)
starts_there p (y ∷ mains) (x ∷ roles) (suc r) main h at = starts_there p mains roles r main h.1 at

name_there : (mains : List RoleMain) (r : ℕ) (main : RoleMain) → slice_get mains r ≡ Some main →
    or_nothing (slice_get (map (λ (x : RoleMain). x.role) mains) r) ≡ main.role
name_there [] r main at = absurd (cc at)
name_there (x ∷ mains) zero main at = ap (λ (z : RoleMain). z.role) (some_is at)
name_there (x ∷ mains) (suc r) main at = name_there mains r main at

pub begun_is_fresh : BegunIsFresh
begun_is_fresh p mains w h =
    let names : w.messages.roles ≡ map (λ main. main.role) mains = ap (λ (q : Messages). q.roles) h.messages in (
      record {
        distinct = subst (IsDistinct bytes_eq) (sym names) h.distinct;
        as_many = as_many p mains w.roles h.roles ∙ ap length (sym names);
        no_message = h.messages ∙ ap (λ (l : List Name). no_messages l) (sym names);
        unseen = h.unseen;
        begins = λ r role at. runs_there p mains w.roles r role h.roles at;
      },
      λ r main at.
          let s = starts_there p mains w.roles r main h.roles at in
          record {
            start = s.0;
            starts = s.1;
            role = s.2;
            name = ap (λ (l : List Name). or_nothing (slice_get l r)) names ∙ name_there mains
                r main at;
          },
    )
