-- Refusals by the files in which they are told.
use Rattle.std.proofs.Common.{◌≡◌, ℕ, zero, suc, ◌+◌, ◌<◌, Bool, true, false, cond, List, [], ◌∷◌, ◌++◌, length, map, get_or, set, nat_eq}
use Rattle.std.proofs.Common.{replicate, append-nil, refl, sym, ap, ap₂, ◌∙◌, arith}
use Rattle.std.specs.Prelude.{slice_index_or}
use Rattle.std.proofs.lemmas.Bool.Decides.{nat_tests}
use Rattle.std.proofs.lemmas.List.{map-set}
use Rattle.std.proofs.lemmas.List.Elements.{filter-append}
use Rattle.std.proofs.Math.ListN.{length-map}
use Rattle.mg_refusal.specs.Refusals.{Refusal}
use Rattle.lsp_notes.specs.Homes.{place_in, told_in}
use Rattle.lsp_notes.specs.inner.Groups.{with_refusal, groups_from, groups_of}

-- a group of many
pub group_at_map : {Q : Type 0} (f : Q → List Refusal) (qs : List Q) (i : ℕ) (d : Q) → i < length qs →
    slice_index_or (map f qs) i [] ≡ f (get_or qs i d)
group_at_map f [] i d h = absurd (omega arith)
group_at_map f (x ∷ qs) zero d h = refl
group_at_map f (x ∷ qs) (suc i) d h = group_at_map f qs i d (omega arith)

-- one more is put into a group
pub put_by : {Q : Type 0} (f : Q → List Refusal) (qs : List Q) (i : ℕ) (r : Refusal) (old new : Q) → i < length qs → old ≡ get_or qs i old →
    f new ≡ f old ++ r ∷ [] → map f (set qs i new) ≡ with_refusal i r (map f qs)
put_by f qs i r old new lt at e =
    map-set f qs i new
    ∙ ap (set (map f qs) i) (e ∙ ap (λ (x : List Refusal). x ++ r ∷ []) (ap f at ∙ sym (group_at_map f qs i old lt)))

pub eq_true : (a b : ℕ) → a ≡ b → nat_eq a b ≡ true
eq_true a b e = grind (arith, nat_tests)

pub eq_false : (a b : ℕ) → (a ≡ b → ⊥) → nat_eq a b ≡ false
eq_false a b other = grind (arith, nat_tests)

module _ (count : ℕ) where
  abbrev file_of : Refusal → ℕ
  file_of r = (place_in count r).file

  one_more : (file : ℕ) (rs : List Refusal) (r : Refusal) (b : Bool) → nat_eq (file_of r) file ≡ b →
      told_in count file (rs ++ r ∷ []) ≡ told_in count file rs ++ cond b (r ∷ []) []
  one_more file rs r b e =
      filter-append (λ q. nat_eq (file_of q) file) rs (r ∷ [])
      ∙ ap (λ (t : Bool). told_in count file rs ++ cond t (r ∷ []) []) e

  -- what is told in a file is one of its group
  told_more : (file : ℕ) (rs : List Refusal) (r : Refusal) → file_of r ≡ file → told_in count file (rs ++ r ∷ []) ≡ told_in count file rs ++ r ∷ []
  told_more file rs r e = one_more file rs r true (eq_true (file_of r) file e)

  -- and what is told elsewhere isn't
  told_else : (file : ℕ) (rs : List Refusal) (r : Refusal) → (file_of r ≡ file → ⊥) → told_in count file (rs ++ r ∷ []) ≡ told_in count file rs
  told_else file rs r other = one_more file rs r false (eq_false (file_of r) file other) ∙ append-nil (told_in count file rs)

  groups_past : (file left : ℕ) (rs : List Refusal) (r : Refusal) → file_of r < file →
      groups_from count file left (rs ++ r ∷ []) ≡ groups_from count file left rs
  groups_past file zero rs r h = refl
  groups_past file (suc left) rs r h =
      ap₂ (λ (g : List Refusal) (gs : List (List Refusal)). g ∷ gs) (told_else file rs r (λ e. omega (arith, e, h)))
      (groups_past (suc file) left rs r (omega (arith, h)))

  groups_put : (file left : ℕ) (rs : List Refusal) (r : Refusal) (d : ℕ) → file_of r ≡ file + d →
      groups_from count file left (rs ++ r ∷ []) ≡ with_refusal d r (groups_from count file left rs)
  groups_put file zero rs r zero e = refl
  groups_put file zero rs r (suc d) e = refl
  groups_put file (suc left) rs r zero e =
      ap₂ (λ (g : List Refusal) (gs : List (List Refusal)). g ∷ gs) (told_more file rs r (omega (arith, e)))
      (groups_past (suc file) left rs r (omega (arith, e)))
  groups_put file (suc left) rs r (suc d) e =
      ap₂ (λ (g : List Refusal) (gs : List (List Refusal)). g ∷ gs) (told_else file rs r (λ f. omega (arith, e, f)))
      (groups_put (suc file) left rs r d (omega (arith, e)))

  groups_empty : (file left : ℕ) → groups_from count file left [] ≡ replicate left []
  groups_empty file zero = refl
  groups_empty file (suc left) = ap (λ (gs : List (List Refusal)). [] ∷ gs) (groups_empty (suc file) left)

  -- no refusals
  pub groups_none : (gs : List (List Refusal)) → gs ≡ replicate count [] → gs ≡ groups_of count []
  groups_none gs e = e ∙ sym (groups_empty 0 count)

  -- one more
  pub groups_more : (rs : List Refusal) (r : Refusal) (gs more : List (List Refusal)) (n : ℕ) → n ≡ file_of r → gs ≡ groups_of count rs →
      more ≡ with_refusal n r gs → more ≡ groups_of count (rs ++ r ∷ [])
  groups_more rs r gs more n at e h =
      h ∙ ap (with_refusal n r) e ∙ sym (groups_put 0 count rs r n (omega (arith, at)))

  groups_long : (file left : ℕ) (rs : List Refusal) → length (groups_from count file left rs) ≡ left
  groups_long file zero rs = refl
  groups_long file (suc left) rs = ap suc (groups_long (suc file) left rs)

  -- there are as many groups as files
  pub as_many : {Q : Type 0} (f : Q → List Refusal) (qs : List Q) (rs : List Refusal) → map f qs ≡ groups_of count rs → length qs ≡ count
  as_many f qs rs e = sym (length-map qs f) ∙ ap (λ (gs : List (List Refusal)). length gs) e ∙ groups_long 0 count rs

  group_at : (file left : ℕ) (rs : List Refusal) (i : ℕ) → i < left → slice_index_or (groups_from count file left rs) i [] ≡ told_in count (file + i) rs
  group_at file zero rs i h = absurd (omega arith)
  group_at file (suc left) rs zero h = ap (λ (n : ℕ). told_in count n rs) (let same : file ≡ file + 0 = omega arith in same)
  group_at file (suc left) rs (suc i) h =
      group_at (suc file) left rs i (omega arith)
      ∙ ap (λ (n : ℕ). told_in count n rs) (let same : suc file + i ≡ file + suc i = omega arith in same)

  -- and the group of a file has what is told in it
  pub group_is : {Q : Type 0} (f : Q → List Refusal) (qs : List Q) (rs : List Refusal) (i : ℕ) (q : Q) → i < length qs → q ≡ get_or qs i q →
      map f qs ≡ groups_of count rs → f q ≡ told_in count i rs
  group_is f qs rs i q lt at e =
      ap f at ∙ sym (group_at_map f qs i q lt) ∙ ap (λ (gs : List (List Refusal)). slice_index_or gs i []) e
      ∙ group_at 0 count rs i (let many = as_many f qs rs e in omega (arith, lt, many))
      ∙ ap (λ (n : ℕ). told_in count n rs) (let same : 0 + i ≡ i = omega arith in same)
