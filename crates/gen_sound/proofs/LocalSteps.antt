-- Instructions that read and set locals.
use Rattle.std.proofs.Common.{◌≡◌, ℕ, ◌+◌, ◌-◌, ◌≤◌, ◌<◌, List, [], ◌∷◌, ◌++◌, length, Option, Some, None, refl, sym, ap, ◌∙◌, subst}
use Rattle.std.proofs.Common.{append-nil, arith}
use Rattle.std.specs.Prelude.{slice_get, slice_set, nat_eq}
use Rattle.std.proofs.lemmas.List.{length-append}
use Rattle.std.proofs.lemmas.Option.{slice_get_within}
use Rattle.jv_values.specs.Values.{Value, Row, Shared, Inputs, find}
use Rattle.jv_values.specs.Doing.{give, found, valuing}
use Rattle.jv_core.specs.declared.program.CoreType.{CoreType}
use Rattle.jv_core.specs.Tree.{Method, Program}
use Rattle.jv_core.specs.Conditions.{IsCore}
use Rattle.vm_model.specs.declared.value.Value.{Value as Held}
use Rattle.vm_model.specs.Program as linked
use Rattle.vm_model.specs.Links.{Outline}
use Rattle.vm_model.specs.Messages.{Messages}
use Rattle.vm_model.specs.Machine.{Machine}
use Rattle.vm_model.specs.Actions.{Load, Store}
use Rattle.vm_model.specs.Tests.{misfit_sort, misfit_local}
use Rattle.vm_model.specs.Step.{step, pushed}
use Rattle.gen_rules.specs.Symbolic.{Instr, load, store}
use Rattle.gen_rules.specs.Spans.{one, by_value}
use Rattle.gen_rules.specs.Frames.{max_stack, depths_by_value}
use Rattle.jv_sound.proofs.Worlds.{World}
use Rattle.gen_sound.specs.Following.{Leads}
use Rattle.gen_sound.specs.Related.{Running, flat, RunsCode}
use Rattle.gen_sound.proofs.Steps.{lead_of}
use Rattle.cls_verify.proofs.Acts.{acts_well}
use Rattle.gen_sound.proofs.Taking.{step_is, most}
use Rattle.gen_sound.proofs.Forms.{Does, does_value, At, goes}
use Rattle.gen_sound.proofs.Leaves.{gives_value}
use Rattle.gen_sound.proofs.Instructions.{sort_of, load_does, store_does}

-- what stays of the room of operands once one is taken
one_less : (whole rest room : ℕ) → whole ≡ rest + 1 → rest ≤ room → whole - 1 + 0 ≤ room
one_less whole rest room a b = omega arith

room_for_one : (whole room : ℕ) → whole + 1 ≤ room → whole - 0 + 1 ≤ room
room_for_one whole room a = omega arith

module _ (p : Program) (ok : IsCore p) (os : List Outline) (program : linked.Program) (inputs : Inputs) (me : ℕ) (r : Running) (m : Method)
    (code : List Instr) (runs : RunsCode p os program me r m code) (n : ℕ) where
  -- a local is read
  pub load_goes : (place : ℕ) (st : List Held) (ls : List (Option Held)) (s : Shared) (q : Messages) (t : CoreType) (k : ℕ) (v : Value) →
      slice_get code place ≡ Some (load t k) → slice_get ls k ≡ Some (Some (flat v)) → misfit_sort (sort_of t) (flat v) ≡ None →
      length st + 1 ≤ max_stack p m →
      Leads (step program me) (At p ok os program inputs me r m code runs n place st ls s q)
      (At p ok os program inputs me r m code runs n (place + 1) (st ++ flat v ∷ []) ls s q)
  load_goes place st ls s q t k v at held fits room =
      let state : Machine = (At p ok os program inputs me r m code runs n place st ls s q).machine in
      let inside : k < length ls = slice_get_within ls k (Some (flat v)) held in
      goes p ok os program inputs me r m code runs n place st ls s q (place + 1) (st ++ flat v ∷ [])
      (step_is p os program me r m code runs place st ls s q (load t k) (Load (sort_of t) k) at (load_does os t k)
      ∙ acts_well program q state me (Load (sort_of t) k) st [] (sym (append-nil st)) tt
      (ap (misfit_local (sort_of t)) held ∙ fits)
      (omega (arith, inside)) refl
      (subst (λ j. length st - 0 + 1 ≤ j) (sym (most p os program me r m code runs place st ls s q))
      (room_for_one (length st) (max_stack p m) room))
      ∙ ap (pushed q state st) held)

  -- a local is set
  pub store_goes : (place : ℕ) (st : List Held) (ls : List (Option Held)) (s : Shared) (q : Messages) (t : CoreType) (k : ℕ) (v : Value) →
      slice_get code place ≡ Some (store t k) → k < length ls → misfit_sort (sort_of t) (flat v) ≡ None →
      length st ≤ max_stack p m →
      Leads (step program me) (At p ok os program inputs me r m code runs n place (st ++ flat v ∷ []) ls s q)
      (At p ok os program inputs me r m code runs n (place + 1) st (slice_set ls k (Some (flat v))) s q)
  store_goes place st ls s q t k v at inside fits room =
      let full : List Held = st ++ flat v ∷ [] in
      let state : Machine = (At p ok os program inputs me r m code runs n place full ls s q).machine in
      lead_of (step program me) (At p ok os program inputs me r m code runs n place full ls s q)
      (At p ok os program inputs me r m code runs n (place + 1) st (slice_set ls k (Some (flat v))) s q) None
      (step_is p os program me r m code runs place full ls s q (store t k) (Store (sort_of t) k) at (store_does os t k)
      ∙ acts_well program q state me (Store (sort_of t) k) st (flat v ∷ []) refl (fits, tt) refl
      (omega (arith, inside)) refl
      (subst (λ j. length full - 1 + 0 ≤ j) (sym (most p os program me r m code runs place full ls s q))
      (one_less (length full) (length st) (max_stack p m) (length-append st (flat v ∷ [])) room)))
      (sym (append-nil s.events))

  -- a variable that stands in a local
  pub local_does : (w : World) (ls : List (Option Held)) (row : Row ℕ) (x : ℕ) (t : CoreType) (k : ℕ) (v : Value) →
      find nat_eq x row ≡ Some v → slice_get ls k ≡ Some (Some (flat v)) → misfit_sort (sort_of t) (flat v) ≡ None →
      Does p ok os program inputs me r m code runs n w ls (by_value code (one code (load t k))) (valuing (found (find nat_eq x row)))
      (depths_by_value 1)
  local_does w ls row x t k v is held fits =
      subst (λ o. Does p ok os program inputs me r m code runs n w ls (by_value code (one code (load t k))) (valuing (found o))
      (depths_by_value 1)) (sym is)
      (does_value p ok os program inputs me r m code runs n w ls (one code (load t k)) (give (Some v)) 1
      (λ from to st x s q h room g heap holds.
      gives_value p ok os program inputs me r m code runs n from to st ls s q v h.1
      (load_goes from st ls s q t k v h.0 held fits room) holds))
