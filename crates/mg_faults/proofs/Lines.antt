-- Each line once: what is kept of demands in order is in order, says nothing twice, and says all.
use Rattle.std.proofs.Common.{◌≡◌, ℕ, zero, suc, Bool, true, false, cond, ◌&&◌, ◌||◌, ◌⊎◌, List, [], ◌∷◌, ◌++◌, map, Some, None}
use Rattle.std.proofs.Common.{slice_get, refl, sym, ap, ◌∙◌, subst, ⊎_elim, inl, inr}
use Rattle.std.specs.Prelude.{nat_lt, Contains}
use Rattle.std.specs.List.{list_any}
use Rattle.std.specs.List.Sorted.{IsSortedBy}
use Rattle.std.specs.Str.{bytes_eq}
use Rattle.std.proofs.lemmas.Bool.{false≢true}
use Rattle.std.proofs.lemmas.List.Sorted.{IsPermutation-sym, Contains-permutation}
use Rattle.std.proofs.lemmas.Slice.Eq.{bytes_eq-Decides}
use Rattle.mg_text.specs.Call.{Name}
use Rattle.mg_text.specs.declared.place.Place.{Place}
use Rattle.jv_core.specs.Tree.{Program}
use Rattle.use_rules.specs.declared.demand.Demand.{Demand}
use Rattle.use_rules.specs.inner.Order.{Mem}
use Rattle.use_rules.specs.Tables.{all_failed}
use Rattle.use_rules.proofs.Wholes.{mem_contains}
use Rattle.use_rules.proofs.Leaving.{contains_of}
use Rattle.use_sights.specs.Sights.{same_place}
use Rattle.use_sights.proofs.Telling.{place_is, same_itself}
use Rattle.use_sights.proofs.Lexical.{by_number, lex_self, lex_later, less_self, less_later}
use Rattle.use_sights.proofs.Sorting.{IsRising, rising, steps_of, rising_more, sorted_of, of_appended}
use Rattle.mg_refusal.specs.Refusals.{Refusal, refusal_at, unless_empty, name_or_none}
use Rattle.mg_refusal.specs.declared.refusal.Spot.TheVariants as spots
use Rattle.mg_accepted.specs.Demands.{demand_word, demand_name, demand_refusal}
use Rattle.mg_faults.specs.Demands.{element_number, stands_before, said_of, same_line, with_line, with_lines, once, AreApart}
use Rattle.mg_faults.specs.Demands.{FaultsAreLines}

-- The order.

abbrev by_element : Demand → Demand → Bool
by_element a b = nat_lt (element_number a.element) (element_number b.element)

abbrev by_variable : Demand → Demand → Bool
by_variable = by_number (λ (d : Demand). d.variable) by_element

abbrev by_column : Demand → Demand → Bool
by_column = by_number (λ (d : Demand). d.place.column) by_variable

abbrev by_line : Demand → Demand → Bool
by_line = by_number (λ (d : Demand). d.place.line) by_column

pub not_itself : (d : Demand) → stands_before d d ≡ false
not_itself = lex_self (λ (d : Demand). d.place.file) by_line
    (lex_self (λ (d : Demand). d.place.line) by_column
    (lex_self (λ (d : Demand). d.place.column) by_variable
    (lex_self (λ (d : Demand). d.variable) by_element
    (less_self (λ (d : Demand). element_number d.element)))))

pub no_later : (x y z : Demand) → stands_before y x ≡ false → stands_before z y ≡ false → stands_before z x ≡ false
no_later = lex_later (λ (d : Demand). d.place.file) by_line
    (lex_later (λ (d : Demand). d.place.line) by_column
    (lex_later (λ (d : Demand). d.place.column) by_variable
    (lex_later (λ (d : Demand). d.variable) by_element
    (less_later (λ (d : Demand). element_number d.element)))))

abbrev Rise : List Demand → Type 0
Rise = IsRising stands_before not_itself no_later

-- Lists.

mem_left : {A : Type 0} (xs ys : List A) (x : A) → Mem x xs → Mem x (xs ++ ys)
mem_left [] ys x m = absurd m
mem_left (y ∷ xs) ys x m = ⊎_elim inl (λ r. inr (mem_left xs ys x r)) m

mem_last : {A : Type 0} (xs : List A) (x : A) → Mem x (xs ++ x ∷ [])
mem_last [] x = inl refl
mem_last (y ∷ xs) x = inr (mem_last xs x)

mem_map : {A B : Type 0} (f : A → B) (xs : List A) (x : A) → Mem x xs → Mem (f x) (map f xs)
mem_map f [] x m = absurd m
mem_map f (y ∷ xs) x m = ⊎_elim (λ e. inl (ap f e)) (λ r. inr (mem_map f xs x r)) m

some_same : {A : Type 0} (x y : A) → Some x ≡ Some y → x ≡ y
some_same x y e = cc

none_some : {A : Type 0} (x : A) → None ≡ Some x → ⊥
none_some x e = cc

both : (a b : Bool) → (a && b) ≡ true → (a ≡ true) × (b ≡ true)
both true b h = (refl, h)
both false b h = absurd (false≢true h)

all_true : (a b c : Bool) → a ≡ true → b ≡ true → c ≡ true → (a && (b && c)) ≡ true
all_true true true true e f g = refl
all_true true true false e f g = absurd (false≢true g)
all_true true false c e f g = absurd (false≢true f)
all_true false b c e f g = absurd (false≢true e)

any_mem : (f : Demand → Bool) (xs : List Demand) → list_any f xs ≡ true → (y : Demand) × Mem y xs × (f y ≡ true)
any_mem f [] h = absurd (false≢true h)
any_mem f (x ∷ xs) h = go (f x) refl (any_mem f xs) h
  where
    go : (b : Bool) → f x ≡ b → (list_any f xs ≡ true → (y : Demand) × Mem y xs × (f y ≡ true)) → (b || list_any f xs) ≡ true →
        (y : Demand) × Mem y (x ∷ xs) × (f y ≡ true)
    go true e more k = (x, inl refl, e)
    go false e more k = let r = more k in (r.0, inr r.1, r.2)

first_not : (a b : Bool) → (a || b) ≡ false → a ≡ false
first_not true b h = absurd (false≢true (sym h))
first_not false b h = refl

others_not : (a b : Bool) → (a || b) ≡ false → b ≡ false
others_not true b h = absurd (false≢true (sym h))
others_not false b h = h

none_mem : (f : Demand → Bool) (xs : List Demand) → list_any f xs ≡ false → (y : Demand) → Mem y xs → f y ≡ false
none_mem f [] h y m = absurd m
none_mem f (x ∷ xs) h y m = ⊎_elim (λ e. ap f e ∙ first_not (f x) (list_any f xs) h)
    (λ r. none_mem f xs (others_not (f x) (list_any f xs) h) y r) m

pub unnamed : (n : Name) → name_or_none (unless_empty n) ≡ n
unnamed [] = refl
unnamed (c ∷ cs) = refl

text_place : (q r : Place) → spots.Text q ≡ spots.Text r → q ≡ r
text_place q r e = cc

module _ (p : Program) where
  abbrev said : Demand → Refusal
  said = demand_refusal p

  -- one line, and one refusal
  pub line_said : (d e : Demand) → same_line p d e ≡ true → said d ≡ said e
  line_said d e h =
      let x = both (bytes_eq (demand_word d.kind) (demand_word e.kind))
      (same_place d.place e.place && bytes_eq (demand_name p d) (demand_name p e)) h in
      let y = both (same_place d.place e.place) (bytes_eq (demand_name p d) (demand_name p e)) x.1 in
      ap (λ k. refusal_at k d.place (demand_name p d)) ((bytes_eq-Decides (demand_word d.kind) (demand_word e.kind)).0 x.0)
      ∙ ap (λ (q : Place). refusal_at (demand_word e.kind) q (demand_name p d)) (place_is d.place e.place y.0)
      ∙ ap (λ n. refusal_at (demand_word e.kind) e.place n) ((bytes_eq-Decides (demand_name p d) (demand_name p e)).0 y.1)

  pub said_line : (d e : Demand) → said d ≡ said e → same_line p d e ≡ true
  said_line d e h =
      let w : demand_word d.kind ≡ demand_word e.kind = ap (λ (r : Refusal). r.kind) h in
      let q : d.place ≡ e.place = text_place d.place e.place (ap (λ (r : Refusal). r.spot) h) in
      let n : demand_name p d ≡ demand_name p e =
      sym (unnamed (demand_name p d)) ∙ ap (λ (r : Refusal). name_or_none r.name) h ∙ unnamed (demand_name p e) in
      all_true (bytes_eq (demand_word d.kind) (demand_word e.kind)) (same_place d.place e.place)
      (bytes_eq (demand_name p d) (demand_name p e))
      ((bytes_eq-Decides (demand_word d.kind) (demand_word e.kind)).1 w)
      (ap (same_place d.place) (sym q) ∙ same_itself d.place)
      ((bytes_eq-Decides (demand_name p d) (demand_name p e)).1 n)

  not_turned : (d e : Demand) → same_line p e d ≡ false → same_line p d e ≡ false
  not_turned d e h = go (same_line p d e) refl
    where
      go : (b : Bool) → same_line p d e ≡ b → same_line p d e ≡ false
      go true f = absurd (false≢true (sym h ∙ said_line e d (sym (line_said d e f))))
      go false f = f

  -- What is kept.

  line_from : (b : Bool) (ds : List Demand) (e x : Demand) → Mem x (cond b ds (ds ++ e ∷ [])) → Mem x ds ⊎ (x ≡ e)
  line_from true ds e x m = inl m
  line_from false ds e x m = of_appended ds e x m

  lines_from : (ds es : List Demand) (x : Demand) → Mem x (with_lines p ds es) → Mem x ds ⊎ Mem x es
  lines_from ds [] x m = inl m
  lines_from ds (e ∷ es) x m = ⊎_elim
      (λ k. ⊎_elim inl (λ i. inr (inl i)) (line_from (list_any (same_line p e) ds) ds e x k))
      (λ k. inr (inr k))
      (lines_from (with_line p ds e) es x m)

  line_keeps : (b : Bool) (ds : List Demand) (e x : Demand) → Mem x ds → Mem x (cond b ds (ds ++ e ∷ []))
  line_keeps true ds e x m = m
  line_keeps false ds e x m = mem_left ds (e ∷ []) x m

  lines_keep : (ds es : List Demand) (x : Demand) → Mem x ds → Mem x (with_lines p ds es)
  lines_keep ds [] x m = m
  lines_keep ds (e ∷ es) x m = lines_keep (with_line p ds e) es x (line_keeps (list_any (same_line p e) ds) ds e x m)

  line_told : (ds : List Demand) (e : Demand) → (y : Demand) × Mem y (with_line p ds e) × (same_line p e y ≡ true)
  line_told ds e = go (list_any (same_line p e) ds) refl
    where
      go : (b : Bool) → list_any (same_line p e) ds ≡ b → (y : Demand) × Mem y (cond b ds (ds ++ e ∷ [])) × (same_line p e y ≡ true)
      go true h = any_mem (same_line p e) ds h
      go false h = (e, mem_last ds e, said_line e e refl)

  lines_told : (ds es : List Demand) (x : Demand) → Mem x es → (y : Demand) × Mem y (with_lines p ds es) × (same_line p x y ≡ true)
  lines_told ds [] x m = absurd m
  lines_told ds (e ∷ es) x m = ⊎_elim
      (λ i.
      let t = line_told ds e in
      (t.0, lines_keep (with_line p ds e) es t.0 t.1, ap (λ z. same_line p z t.0) i ∙ t.2))
      (λ r. lines_told (with_line p ds e) es x r) m

  -- It says nothing twice.

  abbrev Apart : List Demand → Type 0
  Apart [] = Unit {0}
  Apart (x ∷ xs) = ((y : Demand) → Mem y xs → same_line p x y ≡ false) × Apart xs

  apart_more : (ds : List Demand) (e : Demand) → Apart ds → ((y : Demand) → Mem y ds → same_line p y e ≡ false) → Apart (ds ++ e ∷ [])
  apart_more [] e a h = ((λ y m. absurd m), tt)
  apart_more (x ∷ xs) e a h = (
    (λ y m. ⊎_elim (a.0 y) (λ i. ap (same_line p x) i ∙ h x (inl refl)) (of_appended xs e y m)),
    apart_more xs e a.1 (λ y m. h y (inr m)),
  )

  line_apart : (ds : List Demand) (e : Demand) → Apart ds → Apart (with_line p ds e)
  line_apart ds e a = go (list_any (same_line p e) ds) refl
    where
      go : (b : Bool) → list_any (same_line p e) ds ≡ b → Apart (cond b ds (ds ++ e ∷ []))
      go true h = a
      go false h = apart_more ds e a (λ y m. not_turned y e (none_mem (same_line p e) ds h y m))

  lines_apart : (ds es : List Demand) → Apart ds → Apart (with_lines p ds es)
  lines_apart ds [] a = a
  lines_apart ds (e ∷ es) a = lines_apart (with_line p ds e) es (line_apart ds e a)

  said_at : (xs : List Demand) (i : ℕ) (r : Refusal) → slice_get (said_of p xs) i ≡ Some r → (y : Demand) × Mem y xs × (said y ≡ r)
  said_at [] i r e = absurd (none_some r e)
  said_at (x ∷ xs) zero r e = (x, inl refl, some_same (said x) r e)
  said_at (x ∷ xs) (suc i) r e = let z = said_at xs i r e in (z.0, inr z.1, z.2)

  not_again : (x : Demand) (xs : List Demand) → ((y : Demand) → Mem y xs → same_line p x y ≡ false) → (j : ℕ) (r : Refusal) → said x ≡ r →
      slice_get (said_of p xs) j ≡ Some r → ⊥
  not_again x xs h j r e f =
      let z = said_at xs j r f in
      false≢true (sym (h z.0 z.1) ∙ said_line x z.0 (e ∙ sym z.2))

  apart_said : (ds : List Demand) → Apart ds → AreApart (said_of p ds)
  apart_said [] a i j r e f = absurd (none_some r e)
  apart_said (x ∷ xs) a zero zero r e f = refl
  apart_said (x ∷ xs) a zero (suc j) r e f = absurd (not_again x xs a.0 j r (some_same (said x) r e) f)
  apart_said (x ∷ xs) a (suc i) zero r e f = absurd (not_again x xs a.0 i r (some_same (said x) r f) e)
  apart_said (x ∷ xs) a (suc i) (suc j) r e f = ap suc (apart_said xs a.1 i j r e f)

  -- It is in order.

  line_rises : (ds : List Demand) (e : Demand) → Rise ds → ((y : Demand) → Mem y ds → stands_before e y ≡ false) → Rise (with_line p ds e)
  line_rises ds e a h = go (list_any (same_line p e) ds)
    where
      go : (b : Bool) → Rise (cond b ds (ds ++ e ∷ []))
      go true = a
      go false = rising_more stands_before not_itself no_later ds e a h

  lines_rise : (ds es : List Demand) → Rise ds → ((y z : Demand) → Mem y ds → Mem z es → stands_before z y ≡ false) → Rise es →
      Rise (with_lines p ds es)
  lines_rise ds [] a h r = a
  lines_rise ds (e ∷ es) a h r =
      lines_rise (with_line p ds e) es (line_rises ds e a (λ y m. h y e m (inl refl)))
      (λ y z m k. ⊎_elim (λ l. h y z l (inr k)) (λ i. subst (λ w. stands_before z w ≡ false) (sym i) (r.0 z k))
      (line_from (list_any (same_line p e) ds) ds e y m))
      r.1

  once_rises : (xs : List Demand) → IsSortedBy stands_before xs → IsSortedBy stands_before (once p xs)
  once_rises xs h = sorted_of stands_before not_itself no_later (once p xs)
      (lines_rise [] xs tt (λ y z m k. absurd m)
      (rising stands_before not_itself no_later xs (steps_of stands_before not_itself no_later xs h)))

  of_none : (x : Demand) (es : List Demand) → Mem x (once p es) → Mem x es
  of_none x es m = ⊎_elim (λ (k : Mem x []). absurd k) (λ k. k) (lines_from [] es x m)

  -- one demand is said at the least, where there is one
  pub first_kept : (x : Demand) (xs : List Demand) → (y : Demand) × Mem y (once p (x ∷ xs))
  first_kept x xs = (x, lines_keep (x ∷ []) xs x (inl refl))

pub faults_are_lines : FaultsAreLines
faults_are_lines p ds f =
    let failed = all_failed p f.reached f.tables in
    record {
      fail = λ d c. Contains-permutation f.listed failed d (IsPermutation-sym failed f.listed f.moves)
          (contains_of f.listed d (of_none p d f.listed (mem_contains (once p f.listed) d (subst (λ xs. Contains xs d) f.is c))));
      sorted = subst (IsSortedBy stands_before) (sym f.is) (once_rises p f.listed f.sorted);
      apart = subst (λ xs. AreApart (said_of p xs)) (sym f.is) (apart_said p (once p f.listed) (lines_apart p [] f.listed tt));
      all = λ d c.
          let t = lines_told p [] f.listed d (mem_contains f.listed d (Contains-permutation failed f.listed d f.moves c)) in
          subst (λ xs. Contains (said_of p xs) (demand_refusal p d)) (sym f.is)
          (contains_of (said_of p (once p f.listed)) (demand_refusal p d)
          (subst (λ r. Mem r (said_of p (once p f.listed))) (sym (line_said p d t.0 t.2))
          (mem_map (demand_refusal p) (once p f.listed) t.0 t.1)));
    }
