-- What is remembered of the constants of a class stays right.
use Rattle.std.proofs.Common.{◌≡◌, ℕ, Bool, true, false, cond, ◌&&◌, List, Option, Some, None, Result, Ok, Err, IfOk, IfSome, refl, sym, ap}
use Rattle.std.proofs.Common.{◌∙◌, nat_eq, arith}
use Rattle.std.proofs.lemmas.Bool.Decides.{nat_tests}
use Rattle.cls_tree.specs.declared.class.Const.{Const}
use Rattle.vm_model.specs.declared.linked.LinkedArgs.{LinkedArgs}
use Rattle.vm_model.specs.View.{args_of}
use Rattle.vm_model.specs.Links.{Outline, judged_pool}
use Rattle.vm_load.specs.declared.uses.Use.{Use}
use Rattle.vm_load.specs.contracts.uses.UsePartialEq.TheImpl as key
use Rattle.vm_load.specs.Known.{AreRight}

abbrev pub use_eq : Use → Use → Bool
use_eq = (key.ghosts).eq

same_number : (m n : ℕ) → nat_eq m n ≡ true → m ≡ n
same_number m n h = grind (arith, nat_tests)

both : (a b : Bool) → (a && b) ≡ true → (a ≡ true) × (b ≡ true)
both true b h = (refl, h)
both false b h = absurd cc

same_use : (k u : Use) → use_eq k u ≡ true → (k.op ≡ u.op) × (k.number ≡ u.number)
same_use k u h =
    let e = both (nat_eq k.op u.op) (nat_eq k.number u.number) h in
    (same_number k.op u.op e.0, same_number k.number u.number e.1)

some_same : {A : Type 0} (a b : A) → Some a ≡ Some b → a ≡ b
some_same a b h = cc

module _ (os : List Outline) (pool : List Const) (find : Use → Option LinkedArgs) (h : AreRight os pool find) (k : Use) where
  -- one more
  one_right : (a : LinkedArgs) → judged_pool os pool k.op k.number ≡ Ok (args_of a) → (u : Use) (x : LinkedArgs) (b : Bool) → use_eq k u ≡ b
      →
      cond b (Some a) (find u) ≡ Some x → judged_pool os pool u.op u.number ≡ Ok (args_of x)
  one_right a right u x true e at =
      let same = same_use k u e in
      ap (λ op. judged_pool os pool op u.number) (sym same.0) ∙ ap (λ n. judged_pool os pool k.op n) (sym same.1) ∙ right
      ∙ ap (λ args. Ok (args_of args)) (some_same a x at)
  one_right a right u x false e at = h.each u x at

  pub right_on : (a : LinkedArgs) → judged_pool os pool k.op k.number ≡ Ok (args_of a) → (after : Use → Option LinkedArgs) →
      ((q : Use) → after q ≡ cond (use_eq k q) (Some a) (find q)) → AreRight os pool after
  right_on a right after e = record { each = λ u x at. one_right a right u x (use_eq k u) refl (sym (e u) ∙ at) }

  -- what is found is right
  pub found_right : {E : Type 0} (x : LinkedArgs) → find k ≡ Some x → (r : Result (Option LinkedArgs) E) →
      IfOk r (λ o. IfSome o (λ a. args_of a ≡ args_of x)) →
      IfOk r (λ o. IfSome o (λ a. judged_pool os pool k.op k.number ≡ Ok (args_of a)))
  found_right x at (Ok (Some a)) e = h.each k x at ∙ ap Ok (sym e)
  found_right x at (Ok None) e = tt
  found_right x at (Err m) e = tt
