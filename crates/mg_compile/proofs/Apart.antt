-- Files have one list of class files, and files that are refused have none.
use Rattle.std.proofs.Common.{◌≡◌, List, [], ◌∷◌, Option, Some, None, Result, refl, sym, ap₂, ◌∙◌, subst}
use Rattle.std.specs.Prelude.{OnOk}
use Rattle.mg_text.specs.Row.{Row}
use Rattle.cls_tree.specs.Tree as file
use Rattle.jv_core.specs.Tree as Core
use Rattle.jv_core.specs.Tree.{Class, Program}
use Rattle.gen_rules.specs.Limits.{Excess, IsFirstExcess}
use Rattle.gen_rules.proofs.Files.{only_files, only_excess}
use Rattle.mg_sources.specs.Files.{Source}
use Rattle.mg_refusal.specs.Refusals.{Refusal}
use Rattle.mg_refusal.specs.Order.{Answers, AnswersOnly}
use Rattle.mg_refusal.specs.declared.stop.Stop.{Stop}
use Rattle.mg_refusal.proofs.Orders.{then_never, unless_refused, never_ok}
use Rattle.mg_accepted.proofs.OneCore.{one_core}
use Rattle.mg_accepted.proofs.Apart as accepted
use Rattle.mg_compile.specs.declared.files.ClassFile.{ClassFile}
use Rattle.mg_compile.specs.Files.{HoldsClass, HoldClasses, AreClassFiles}
use Rattle.mg_compile.specs.Compiled.{AreCompiled, FirstRefusal}

same_file : (p : Program) (k : Class) (made : file.Class) (a b : ClassFile) → HoldsClass p k made a → HoldsClass p k made b → a ≡ b
same_file p k made a b h g =
    λ i. record { name = (h.named ∙ sym g.named) i; bytes = (h.spelled.layout ∙ sym g.spelled.layout) i }

same_files : (p : Program) (ks : List Class) (classes : List file.Class) (xs ys : List ClassFile) → HoldClasses p ks classes xs →
    HoldClasses p ks classes ys → xs ≡ ys
same_files p [] [] [] [] h g = refl
same_files p [] [] [] (b ∷ ys) h g = absurd g
same_files p [] [] (a ∷ xs) ys h g = absurd h
same_files p [] (c ∷ cs) xs ys h g = absurd h
same_files p (k ∷ ks) [] xs ys h g = absurd h
same_files p (k ∷ ks) (c ∷ cs) [] ys h g = absurd h
same_files p (k ∷ ks) (c ∷ cs) (a ∷ xs) [] h g = absurd g
same_files p (k ∷ ks) (c ∷ cs) (a ∷ xs) (b ∷ ys) h g =
    ap₂ (λ z zs. z ∷ zs) (same_file p k c a b h.0 g.0) (same_files p ks cs xs ys h.1 g.1)

-- a core has one list of class files
pub one_list : (p : Program) (xs ys : List ClassFile) → AreClassFiles p xs → AreClassFiles p ys → xs ≡ ys
one_list p xs ys h g =
    let same : h.classes ≡ g.classes = only_files p h.classes h.are ∙ sym (only_files p g.classes g.are) in
    same_files p p.classes g.classes xs ys (subst (λ (z : List file.Class). HoldClasses p p.classes z xs) same h.hold) g.hold

pub one_compiled : (files : List Source) (xs ys : List ClassFile) → AreCompiled files xs → AreCompiled files ys → xs ≡ ys
one_compiled files xs ys h g =
    let same : h.core ≡ g.core = one_core files h.core g.core h.accepted.have g.accepted.have in
    one_list g.core xs ys (subst (λ (z : Core.Program). AreClassFiles z xs) same h.class_files) g.class_files

none_first : {P : Type 0} {e : Excess} → ◌≡◌ {A = Option Excess} None (Some e) → P
none_first h = absurd cc

-- a core whose sizes are fine has no excess
pub not_exceeded : (core : Core.Program) (e : Excess) → IsFirstExcess core None → IsFirstExcess core (Some e) → ⊥
not_exceeded core e fine first = none_first (only_excess core None fine ∙ sym (only_excess core (Some e) first))

-- files that are refused aren't compiled
pub not_refused : (files : List Source) (written : List ClassFile) (r : Refusal) → AreCompiled files written → FirstRefusal files r → ⊥
not_refused files written r h = then_never (λ r first. accepted.not_refused files h.core r h.accepted first) (λ core a r found.
    let same : core ≡ h.core = one_core files core h.core a.have h.accepted.have in
    not_exceeded h.core found.0 h.class_files.fine (subst (λ (z : Core.Program). IsFirstExcess z (Some found.0)) same found.1)) r

-- ---- there is one answer

module _ (files : List Source) (answer : Result (Row ClassFile) Stop)
    (h : Answers (λ (written : Row ClassFile). AreCompiled files written.items) (FirstRefusal files) answer) where
  pub compiled_answered : (wanted : List ClassFile) → AreCompiled files wanted → AnswersOnly (λ written. written.items ≡ wanted) answer
  compiled_answered wanted k =
      unless_refused (λ written. AreCompiled files written.items) (FirstRefusal files) (λ written. written.items ≡ wanted) answer h
      (λ written is. one_compiled files written.items wanted is k) (λ r first. not_refused files wanted r k first)

  pub refused_no_files : (r : Refusal) → FirstRefusal files r → OnOk answer ⊥
  refused_no_files r first =
      never_ok (λ written. AreCompiled files written.items) (FirstRefusal files) answer h
      (λ written is. not_refused files written.items r is first)
