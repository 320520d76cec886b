-- Writing the class files, one after another.
use Rattle.std.proofs.Common.{◌≡◌, ℕ, ◌+◌, ◌<◌, ◌≤◌, List, [], ◌∷◌, ◌++◌, length, get_or, drop, map, sym, ap, ◌∙◌, subst, append_assoc}
use Rattle.std.proofs.Common.{append-nil, arith}
use Rattle.std.specs.List.{AllByRecursion}
use Rattle.std.proofs.lemmas.List.{at_drop_all}
use Rattle.cls_tree.specs.Tree as file
use Rattle.cls_tree.specs.View.{class_of as file_of}
use Rattle.cls_tree.specs.declared.class.Class.{Class as KeptFile}
use Rattle.cls_layout.proofs.Drops.{map_drop_is}
use Rattle.cls_bytes.proofs.Written.{first_fits, others_fit}
use Rattle.jv_core.specs.Tree.{Class, Program}
use Rattle.jv_core.specs.View.{class_of}
use Rattle.jv_core.specs.declared.program.CoreClass.{CoreClass}
use Rattle.gen_links.specs.Spelled.{IsSpelled}
use Rattle.mg_compile.specs.declared.files.ClassFile.{ClassFile}
use Rattle.mg_compile.specs.Files.{HoldsClass, HoldClasses}

module _ (p : Program) (own : List CoreClass) (classes : List KeptFile) where
  abbrev whole : List ClassFile → Type 0
  whole written = HoldClasses p (map class_of own) (map file_of classes) written

  abbrev rest_from : ℕ → List ClassFile → Type 0
  rest_from n written = HoldClasses p (map class_of (drop n own)) (map file_of (drop n classes)) written

  -- the files so far, and those of the classes that are left, are all
  pub record AreLeft (n : ℕ) (done : List ClassFile) : Type 0 where
    pub fit : AllByRecursion IsSpelled (map file_of (drop n classes))
    pub goes : (rest : List ClassFile) → rest_from n rest → whole (done ++ rest)

  pub left_begin : AllByRecursion IsSpelled (map file_of classes) → AreLeft 0 []
  left_begin fit = record { fit = fit; goes = λ rest h. h }

  module _ (n : ℕ) (class : KeptFile) (within : n < length classes) (is : class ≡ get_or classes n class) where
    cut : map file_of (drop n classes) ≡ file_of class ∷ map file_of (drop (n + 1) classes)
    cut = map_drop_is file_of classes n class within is

    -- the class that is next
    pub next_fits : (done : List ClassFile) → AreLeft n done → IsSpelled (file_of class)
    next_fits done l = first_fits IsSpelled (map file_of (drop n classes)) (map file_of (drop (n + 1) classes)) (file_of class) cut l.fit

    pub left_more : (k : CoreClass) (old new : List ClassFile) (f : ClassFile) → n < length own → k ≡ get_or own n k →
        HoldsClass p (class_of k) (file_of class) f → new ≡ old ++ f ∷ [] → AreLeft n old → AreLeft (n + 1) new
    left_more k old new f own_within own_is holds grown l = record {
      fit = others_fit IsSpelled (map file_of (drop n classes)) (map file_of (drop (n + 1) classes)) (file_of class) cut l.fit;
      goes = λ rest h.
          let both : HoldClasses p (class_of k ∷ map class_of (drop (n + 1) own)) (file_of class ∷ map file_of (drop (n + 1) classes))
          (f ∷ rest)
          = (holds, h) in
          let left : rest_from n (f ∷ rest) =
          subst (λ (z : List Class). HoldClasses p z (map file_of (drop n classes)) (f ∷ rest))
          (sym (map_drop_is class_of own n k own_within own_is))
          (subst (λ (z : List file.Class). HoldClasses p (class_of k ∷ map class_of (drop (n + 1) own)) z (f ∷ rest)) (sym cut) both) in
          subst whole (sym (ap (λ (x : List ClassFile). x ++ rest) grown ∙ append_assoc old (f ∷ []) rest)) (l.goes (f ∷ rest) left);
    }

  pub left_all : (n : ℕ) (done : List ClassFile) → length own ≡ length classes → length classes ≤ n → AreLeft n done → whole done
  left_all n done same past l =
      let none : rest_from n [] =
      subst (λ (z : List Class). HoldClasses p z (map file_of (drop n classes)) [])
      (sym (at_drop_all (map class_of) own n (omega (arith, same, past))))
      (subst (λ (z : List file.Class). HoldClasses p [] z []) (sym (at_drop_all (map file_of) classes n past)) tt) in
      subst whole (append-nil done) (l.goes [] none)
