-- Judging elements with those before them, part after part, and in other words.
use Rattle.std.proofs.Common.{◌≡◌, ⊎_elim, inl, inr, List, [], ◌∷◌, ◌++◌, map, Option, Some, Contains, refl, sym, ap, subst, ◌∙◌}
use Rattle.std.proofs.Common.{append_assoc}
use Rattle.std.proofs.lemmas.List.{append-nil, map-append}
use Rattle.std.proofs.lemmas.List.Elements.{Contains-append_left, Contains-append_right, Contains-append_cases}
use Rattle.std.specs.Option.{option_or}
use Rattle.mg_read.specs.First.{Judged, behind, with_earlier}
use Rattle.mg_read.specs.Culprit.{Culprit}
use Rattle.mg_read.proofs.Judging.{judged-append, judged-found, judged-map}
use Rattle.scr_tree.specs.declared.written.Declaration.{Declaration}
use Rattle.scr_tree.specs.declared.written.Role.{Role}
use Rattle.scr_tree.specs.Written.{role_name}
use Rattle.scr_tree.specs.Listing.{declares, lists, DuplicateName}
use Rattle.scr_judge.proofs.Members.{Contains-image, Contains-origin}
use Rattle.scr_judge.specs.inner.Listed.{DeclaredTwice, ListedTwice}

module _ {X Y : Type 0} (f : X → Y) (see : List X → List Y) (push : (xs : List X) (x : X) → see (xs ++ x ∷ []) ≡ see xs ++ f x ∷ []) where
  behind-map : (seen xs : List X) → behind (see seen) (map f xs) ≡ map (λ q. (see q.0, f q.1)) (behind seen xs)
  behind-map seen [] = refl
  behind-map seen (x ∷ xs) = ap (λ ys. (see seen, f x) ∷ behind ys (map f xs)) (sym (push seen x)) ∙ ap (λ ys. (see seen, f x) ∷ ys)
      (behind-map (seen ++ x ∷ []) xs)

  -- the same culprits, where what is known of the earlier ones says the same
  pub judged-behind : {C : Type 0} {At : List X × X → C → Type 0} {By : List Y × Y → C → Type 0} →
      ((q : List X × X) (c : C) → At q c → By (see q.0, f q.1) c) →
      ((q : List X × X) (c : C) → By (see q.0, f q.1) c → At q c) → (seen xs : List X) {r : Option C} → Judged At (behind seen xs) r →
      Judged By (behind (see seen) (map f xs)) r
  judged-behind {By = By} to from seen xs {r} j = subst (λ ys. Judged By ys r) (sym (behind-map seen xs))
      (judged-map (λ q. (see q.0, f q.1)) to from j)

pub behind-append : {X : Type 0} (seen xs ys : List X) → behind seen (xs ++ ys) ≡ behind seen xs ++ behind (seen ++ xs) ys
behind-append seen [] ys = ap (λ s. behind s ys) (sym (append-nil seen))
behind-append seen (x ∷ xs) ys =
    ap (λ qs. (seen, x) ∷ qs) (behind-append (seen ++ x ∷ []) xs ys)
    ∙ ap (λ s. (seen, x) ∷ (behind (seen ++ x ∷ []) xs ++ behind s ys)) (append_assoc seen (x ∷ []) xs)

-- a declaration among entries
declared_in : (ds : List Declaration) (rs : List Role) (d : Declaration) → Contains (map declares ds ++ map lists rs) (declares d) →
    Contains ds d
declared_in ds rs d h = ⊎_elim (λ a. first (Contains-origin declares ds (declares d) a))
    (λ b. absurd (second (Contains-origin lists rs (declares d) b))) (Contains-append_cases (map declares ds) (map lists rs) (declares d) h)
  where
    first : (x : Declaration) × Contains ds x × (declares x ≡ declares d) → Contains ds d
    first o = let same : o.0 ≡ d = cc in subst (Contains ds) same o.1

    second : (x : Role) × Contains rs x × (lists x ≡ declares d) → ⊥
    second o = let e : lists o.0 ≡ declares d = o.2 in cc

-- a role among entries
listed_in : (ds : List Declaration) (rs : List Role) (r : Role) → Contains (map declares ds ++ map lists rs) (lists r) → Contains rs r
listed_in ds rs r h = ⊎_elim (λ a. absurd (first (Contains-origin declares ds (lists r) a)))
    (λ b. second (Contains-origin lists rs (lists r) b)) (Contains-append_cases (map declares ds) (map lists rs) (lists r) h)
  where
    first : (x : Declaration) × Contains ds x × (declares x ≡ lists r) → ⊥
    first o = let e : declares o.0 ≡ lists r = o.2 in cc

    second : (x : Role) × Contains rs x × (lists x ≡ lists r) → Contains rs r
    second o = let same : o.0 ≡ r = cc in subst (Contains rs) same o.1

plain : (ds : List Declaration) (d : Declaration) → Contains (map declares ds) (declares d) → Contains ds d
plain ds d h = declared_in ds [] d (Contains-append_left (map declares ds) (map lists []) (declares d) h)

declared_to : (q : List Declaration × Declaration) (c : Culprit) → DeclaredTwice q c → DuplicateName (map declares q.0, declares q.1) c
declared_to q c a = elim a.1 [
  | inl other ↦ (a.0, other.0, inl other.1, other.2)
  | inr other ↦ (a.0, other.0.class, inr (other.0, Contains-image declares q.0 other.0 other.1, other.2, refl), other.3)
]

declared_from : (q : List Declaration × Declaration) (c : Culprit) → DuplicateName (map declares q.0, declares q.1) c → DeclaredTwice q c
declared_from q c a = (
  a.0,
  elim a.2 [
    | inl e ↦ inl (a.1, e, a.3)
    | inr other ↦ inr (other.0, plain q.0 other.0 other.1, other.2, λ same. a.3 (sym other.3 ∙ same))
  ],
)

listed_to : (ds : List Declaration) (q : List Role × Role) (c : Culprit) → ListedTwice q c →
    DuplicateName (map declares ds ++ map lists q.0, lists q.1) c
listed_to ds q c a =
    let o = Contains-origin role_name q.0 q.1.name a.1 in
    (a.0, o.0, Contains-append_right (map declares ds) (map lists q.0) (lists o.0) (Contains-image lists q.0 o.0 o.1), o.2)

listed_from : (ds : List Declaration) (q : List Role × Role) (c : Culprit) → DuplicateName (map declares ds ++ map lists q.0, lists q.1) c →
    ListedTwice q c
listed_from ds q c a = (a.0, subst (Contains (map role_name q.0)) a.3 (Contains-image role_name q.0 a.1 (listed_in ds q.0 a.1 a.2)))

declares_push : (xs : List Declaration) (x : Declaration) → map declares (xs ++ x ∷ []) ≡ map declares xs ++ declares x ∷ []
declares_push xs x = map-append declares xs (x ∷ [])

lists_push : (ds : List Declaration) (xs : List Role) (x : Role) → (map declares ds ++ map lists (xs ++ x ∷ []))
    ≡ (map declares ds ++ map lists xs) ++ lists x ∷ []
lists_push ds xs x = ap (λ ys. map declares ds ++ ys) (map-append lists xs (x ∷ [])) ∙
    sym (append_assoc (map declares ds) (map lists xs) (lists x ∷ []))

-- the roles that another protocol lists
pub listed_alone : (rs : List Role) {r : Option Culprit} → Judged ListedTwice (with_earlier rs) r →
    Judged DuplicateName (with_earlier (map lists rs)) r
listed_alone rs q = judged-behind lists (λ xs. map declares [] ++ map lists xs) (lists_push []) (listed_to []) (listed_from []) [] rs q

-- first the declarations are judged, and then the roles
pub duplicate_name : (ds : List Declaration) (rs : List Role) {r s : Option Culprit} → Judged DeclaredTwice (with_earlier ds) r →
    Judged ListedTwice (with_earlier rs) s →
    Judged DuplicateName (with_earlier (map declares ds ++ map lists rs)) (option_or r s)
duplicate_name ds rs {r} {s} p q =
    subst (λ ys. Judged DuplicateName ys (option_or r s)) (sym (behind-append [] (map declares ds) (map lists rs)))
    (judged-append (judged-behind declares (map declares) declares_push declared_to declared_from [] ds p)
    (subst (λ seen. Judged DuplicateName (behind seen (map lists rs)) s) (append-nil (map declares ds))
    (judged-behind lists (λ xs. map declares ds ++ map lists xs) (lists_push ds) (listed_to ds) (listed_from ds) [] rs q)))

-- a declaration is at fault
pub duplicate_declaration : (ds : List Declaration) (rs : List Role) (c : Culprit) → Judged DeclaredTwice (with_earlier ds) (Some c) →
    Judged DuplicateName (with_earlier (map declares ds ++ map lists rs)) (Some c)
duplicate_declaration ds rs c p =
    subst (λ ys. Judged DuplicateName ys (Some c)) (sym (behind-append [] (map declares ds) (map lists rs)))
    (judged-found (behind ([] ++ map declares ds) (map lists rs))
    (judged-behind declares (map declares) declares_push declared_to declared_from [] ds p))
