-- Which names are known: those that are added, those of built-in classes, and so all of a linked program.
use Rattle.std.proofs.Common.{◌≡◌, ℕ, ◌+◌, ◌≤◌, ◌⊎◌, inl, inr, Bool, true, false, ◌||◌, List, [], ◌∷◌, ◌++◌, length, position, Some}
use Rattle.std.proofs.Common.{is_some, refl, sym, ap, subst, ◌∙◌, arith, length-append}
use Rattle.std.specs.Prelude.{if◌then◌else◌, codes}
use Rattle.std.specs.List.{list_any}
use Rattle.std.specs.Str.{bytes_eq}
use Rattle.std.proofs.lemmas.Bool.{or_cases, or_left, or_right}
use Rattle.std.proofs.lemmas.Bool.Decides.{nat_tests}
use Rattle.std.proofs.lemmas.List.{map-append}
use Rattle.std.proofs.lemmas.List.Folds.{position_or_len_push, list_any-append}
use Rattle.std.proofs.lemmas.List.Quantifiers.{position-Some}
use Rattle.std.proofs.lemmas.Slice.Eq.{bytes_eq-Decides}
use Rattle.mg_text.specs.Call.{Name}
use Rattle.mg_text.specs.Interned.{with_text}
use Rattle.vm_model.specs.Program.{Program, ClassOf}
use Rattle.vm_model.specs.Linked.{is_built_in, is_class, class_names}
use Rattle.cls_kinds.specs.Named.{AreNames}
use Rattle.cls_table.specs.Known.{IsKnown, KnowsNames}
use Rattle.cls_table.proofs.Tabled.{with_more}

or-false : (b : Bool) → (b || false) ≡ b
or-false true = refl
or-false false = refl

-- what is found is found where one more name stands behind
position_first : (p : Name → Bool) (xs : List Name) (y : Name) (i : ℕ) → position p xs ≡ Some i → position p (xs ++ y ∷ []) ≡ Some i
position_first p xs y i e =
    let push = position_or_len_push p xs y in
    let len = length-append xs (y ∷ []) in
    grind (arith, nat_tests)

pub known_more : (names : List Name) (name other : Name) → IsKnown names name → IsKnown (with_text names other) name
known_more names name other k = go (is_some (position (bytes_eq other) names))
  where
    go : (b : Bool) → IsKnown (if b then names else names ++ other ∷ []) name
    go true = k
    go false = record { number = k.number; found = position_first (bytes_eq name) names other k.number k.found; few = k.few }

with_long : (names : List Name) (other : Name) → length (with_text names other) ≤ length names + 1
with_long names other = go (is_some (position (bytes_eq other) names))
  where
    go : (b : Bool) → length (if b then names else names ++ other ∷ []) ≤ length names + 1
    go true = omega arith
    go false = let l = length-append names (other ∷ []) in omega (arith, l)

pub known_added : (names : List Name) (name : Name) (n : ℕ) → length names ≤ 4294967280 → position (bytes_eq name) (with_text names name)
    ≡ Some n →
    IsKnown (with_text names name) name
known_added names name n few e = record {
  number = n;
  found = e;
  few = let w = position-Some (bytes_eq name) (with_text names name) n name e in let l = with_long names name in omega (arith, w.0, l, few);
}

known_same : (names : List Name) (x name : Name) → IsKnown names x → bytes_eq name x ≡ true → IsKnown names name
known_same names x name k t = subst (λ n. IsKnown names n) (sym ((bytes_eq-Decides name x).0 t)) k

-- the names of all built-in classes are known
pub built_in_known : (names : List Name) → IsKnown names (codes "java/lang/Object") → IsKnown names (codes "java/lang/String") →
    IsKnown names (codes "java/lang/System") → IsKnown names (codes "java/io/PrintStream") → IsKnown names (codes "mungo/lib/Session") →
    (name : Name) → is_built_in name ≡ true → IsKnown names name
built_in_known names a b c d e name h = of_five (or_cases (((o || t) || y) || r) s h)
  where
    o : Bool
    o = bytes_eq name (codes "java/lang/Object")

    t : Bool
    t = bytes_eq name (codes "java/lang/String")

    y : Bool
    y = bytes_eq name (codes "java/lang/System")

    r : Bool
    r = bytes_eq name (codes "java/io/PrintStream")

    s : Bool
    s = bytes_eq name (codes "mungo/lib/Session")

    of_two : (o ≡ true) ⊎ (t ≡ true) → IsKnown names name
    of_two (inl q) = known_same names (codes "java/lang/Object") name a q
    of_two (inr q) = known_same names (codes "java/lang/String") name b q

    of_three : ((o || t) ≡ true) ⊎ (y ≡ true) → IsKnown names name
    of_three (inl q) = of_two (or_cases o t q)
    of_three (inr q) = known_same names (codes "java/lang/System") name c q

    of_four : (((o || t) || y) ≡ true) ⊎ (r ≡ true) → IsKnown names name
    of_four (inl q) = of_three (or_cases (o || t) y q)
    of_four (inr q) = known_same names (codes "java/io/PrintStream") name d q

    of_five : ((((o || t) || y) || r) ≡ true) ⊎ (s ≡ true) → IsKnown names name
    of_five (inl q) = of_four (or_cases ((o || t) || y) r q)
    of_five (inr q) = known_same names (codes "mungo/lib/Session") name e q

pub no_classes : (names : List Name) → AreNames names → ((name : Name) → is_built_in name ≡ true → IsKnown names name) → KnowsNames names []
no_classes names n h = record { are = n; known = λ name e. h name (sym (or-false (is_built_in name)) ∙ e) }

-- one more class, whose name is added
pub one_class : (names : List Name) (p : Program) (c : ClassOf) → KnowsNames names p → IsKnown (with_text names c.name) c.name →
    KnowsNames (with_text names c.name) (p ++ c ∷ [])
one_class names p c k added = record { are = with_more names c.name k.are; known = known }
  where
    known : (name : Name) → is_class (class_names (p ++ c ∷ [])) name ≡ true → IsKnown (with_text names c.name) name
    known name e = by (or_cases (is_built_in name) (list_any (bytes_eq name) (class_names p ++ c.name ∷ []))
        (sym (ap (λ (ns : List Name). is_built_in name || list_any (bytes_eq name) ns) (map-append (λ (d : ClassOf). d.name) p (c ∷ []))) ∙
        e))
      where
        older : is_class (class_names p) name ≡ true → IsKnown (with_text names c.name) name
        older f = known_more names name c.name (k.known name f)

        in_two : (list_any (bytes_eq name) (class_names p) ≡ true) ⊎ ((bytes_eq name c.name || false) ≡ true) →
            IsKnown (with_text names c.name) name
        in_two (inl f) = older (or_right (is_built_in name) (list_any (bytes_eq name) (class_names p)) f)
        in_two (inr f) = known_same (with_text names c.name) c.name name added (sym (or-false (bytes_eq name c.name)) ∙ f)

        by : (is_built_in name ≡ true) ⊎ (list_any (bytes_eq name) (class_names p ++ c.name ∷ []) ≡ true) →
            IsKnown (with_text names c.name) name
        by (inl f) = older (or_left (is_built_in name) (list_any (bytes_eq name) (class_names p)) f)
        by (inr f) = in_two (or_cases (list_any (bytes_eq name) (class_names p)) (bytes_eq name c.name || false)
            (sym (list_any-append (bytes_eq name) (class_names p) (c.name ∷ [])) ∙ f))
