-- What can't fail holds: names, types and their lists are told apart.
use Rattle.std.proofs.Common.{◌≡◌, Bool, true, false, true≢false, Decides, List, [], ◌∷◌, Contains, refl, sym, ap, ◌∙◌}
use Rattle.std.specs.List.{list_any}
use Rattle.std.specs.Str.{bytes_eq}
use Rattle.std.proofs.lemmas.Slice.Eq.{bytes_eq-Decides}
use Rattle.mg_text.specs.Call.{Name}
use Rattle.ts_tree.specs.declared.parts.TypeName.{TypeName}
use Rattle.ts_tree.specs.declared.parts.TypeName.TheVariants as written
use Rattle.jv_rules.proofs.Tests.{any_decides}
use Rattle.jv_names.proofs.Fields.{same_name}

names_same : {a b : Name} → written.Named a ≡ written.Named b → a ≡ b
names_same e = cc

pub same_type : (a b : TypeName) → ((a ≡ b → ⊥) → ⊥) → a ≡ b
same_type written.Void written.Void n = refl
same_type written.Int written.Int n = refl
same_type written.Boolean written.Boolean n = refl
same_type written.Text written.Text n = refl
same_type (written.Named a) (written.Named b) n = ap written.Named (same_name a b (λ differ. n (λ e. differ (names_same e))))
same_type _ _ n = absurd (n (λ e. let no : ⊥ = cc in no))

head_same : {A : Type 0} {x y : A} {xs ys : List A} → x ∷ xs ≡ y ∷ ys → x ≡ y
head_same e = cc

tail_same : {A : Type 0} {x y : A} {xs ys : List A} → x ∷ xs ≡ y ∷ ys → xs ≡ ys
tail_same e = cc

pub same_types : (xs ys : List TypeName) → ((xs ≡ ys → ⊥) → ⊥) → xs ≡ ys
same_types [] [] n = refl
same_types (x ∷ xs) (y ∷ ys) n =
    ap (λ x. x ∷ xs) (same_type x y (λ differ. n (λ e. differ (head_same e))))
    ∙ ap (λ xs. y ∷ xs) (same_types xs ys (λ differ. n (λ e. differ (tail_same e))))
same_types _ _ n = absurd (n (λ e. let no : ⊥ = cc in no))

pub by_test : {P : Type 0} (b : Bool) → Decides b P → ((P → ⊥) → ⊥) → P
by_test true d n = d.0 refl
by_test false d n = absurd (n (λ p. true≢false (sym (d.1 p))))

pub contained : (xs : List Name) (x : Name) → ((Contains xs x → ⊥) → ⊥) → Contains xs x
contained xs x n = by_test (list_any (λ y. bytes_eq y x) xs) (any_decides (λ y. bytes_eq y x) x (λ y. bytes_eq-Decides y x) xs) n
