-- The methods of a class have the numbers that its entry says.
use Rattle.std.proofs.Common.{◌≡◌, ℕ, zero, suc, ◌+◌, ◌<◌, true, false, List, [], ◌∷◌, ◌++◌, map, length, Some, slice_get, refl, sym, ap}
use Rattle.std.proofs.Common.{◌∙◌, subst, arith}
use Rattle.std.specs.Prelude.{nat_eq, if◌then◌else◌}
use Rattle.std.specs.List.{AllByRecursion}
use Rattle.std.proofs.lemmas.Bool.Decides.{nat_tests}
use Rattle.std.proofs.lemmas.List.{append-nil}
use Rattle.mg_text.specs.Call.{Name}
use Rattle.ts_tree.specs.Typestate.{Typestate}
use Rattle.jv_tree.specs.Source
use Rattle.jv_core.specs.Tree as Core
use Rattle.jv_core.specs.Numbering.{numbers_from}
use Rattle.jv_core.specs.Numbering as core_numbering
use Rattle.jv_names.specs.Resolves.{Aligned, Owned, methods_in, numbered_from}
use Rattle.jv_names.specs.Resolves as is
use Rattle.jv_names.proofs.Tables.{some_is, none_some}
use Rattle.jv_names.proofs.Lookups.{owned_by}
use Rattle.jv_resolve_law.specs.Tables.{Entry, Tables, entries_from}
use Rattle.jv_resolve_law.specs.Members.{Naming, method, methods_of, methods}
use Rattle.jv_resolve_law.proofs.Steps.{bound}
use Rattle.jv_resolve_law.proofs.Tabled.{FirstEntry, first_entry}
use Rattle.jv_resolve_law.proofs.Methods.{ResultIs, result_is}

-- the methods of entries, each with its class
abbrev pub owned_in : List Entry → List Owned
owned_in [] = []
owned_in (e ∷ es) = map (owned_by e.number e.class) e.class.methods ++ owned_in es

pub owned_are : (typestates : List Typestate) (n m : ℕ) (cs : List Source.Class) (es : List Entry) →
    entries_from typestates n m cs ≡ Some es → owned_in es ≡ methods_in (numbered_from n cs)
owned_are typestates n m [] es given = ap owned_in (sym (some_is given))
owned_are typestates n m (c ∷ cs) es given =
    let f = first_entry typestates n m c cs es given in
    ap owned_in (sym f.are) ∙ ap (λ os. map (owned_by n c) c.methods ++ os)
    (owned_are typestates (suc n) (m + length c.methods) cs f.rest f.more)

pub aligned_append : {A B : Type 0} {Is : A → B → Type 0} {xs : List A} {ys : List B} → Aligned Is xs ys → (us : List A) (vs : List B) →
    Aligned Is us vs → Aligned Is (xs ++ us) (ys ++ vs)
aligned_append is.none us vs behind = behind
aligned_append (is.more i rest) us vs behind = is.more i (aligned_append rest us vs behind)

module _ (tables : Tables) where
  block_results : (e : Entry) (ms : List Source.Method) (names : List Name) (r : Naming (List Core.Method)) →
      methods_of tables names e ms ≡ Some r →
      Aligned (ResultIs tables) (map (owned_by e.number e.class) ms) r.it
  block_results e [] names r given = subst (λ (r : Naming (List Core.Method)). Aligned (ResultIs tables) [] r.it) (some_is given) is.none
  block_results e (m ∷ ms) names r given =
      let b = bound (method tables names e m) _ r given in
      let c = bound (methods_of tables b.item.names e ms) _ r b.gives in
      subst (λ (r : Naming (List Core.Method)). Aligned (ResultIs tables) (map (owned_by e.number e.class) (m ∷ ms)) r.it)
      (some_is c.gives)
      (is.more (result_is tables names e m b.item b.is) (block_results e ms b.item.names c.item c.is))

  -- the results of all methods
  pub results : (es : List Entry) (names : List Name) (r : Naming (List Core.Method)) → methods tables names es ≡ Some r →
      Aligned (ResultIs tables) (owned_in es) r.it
  results [] names r given = subst (λ (r : Naming (List Core.Method)). Aligned (ResultIs tables) [] r.it) (some_is given) is.none
  results (e ∷ es) names r given =
      let b = bound (methods_of tables names e e.class.methods) _ r given in
      let c = bound (methods tables b.item.names es) _ r b.gives in
      subst (λ (r : Naming (List Core.Method)). Aligned (ResultIs tables) (owned_in (e ∷ es)) r.it) (some_is c.gives)
      (aligned_append (block_results e e.class.methods names b.item b.is) (owned_in es) c.item.it (results es b.item.names c.item c.is))

  -- methods that are all of the class of an entry
  record Block (e : Entry) (count : ℕ) (ks : List Core.Method) : Type 0 where
    class : AllByRecursion (λ k. k.class ≡ e.number) ks
    length_is : length ks ≡ count

  block_of : (e : Entry) (ms : List Source.Method) (ks : List Core.Method) →
      Aligned (ResultIs tables) (map (owned_by e.number e.class) ms) ks → Block e (length ms) ks
  block_of e [] [] a = record { class = tt; length_is = refl }
  block_of e [] (k ∷ ks) a = elim a [ ]
  block_of e (m ∷ ms) [] a = elim a [ ]
  block_of e (m ∷ ms) (k ∷ ks) (is.more i rest) =
      let w = block_of e ms ks rest in
      record { class = (i.class, w.class); length_is = ap suc w.length_is }

  block : (e : Entry) (names : List Name) (r : Naming (List Core.Method)) → methods_of tables names e e.class.methods ≡ Some r →
      Block e (length e.class.methods) r.it
  block e names r given = block_of e e.class.methods r.it (block_results e e.class.methods names r given)

  same_number : (a n c : ℕ) → a ≡ n → n ≡ c → nat_eq a c ≡ true
  same_number a n c e f = grind (arith, nat_tests, e, f)

  other_number : (a n c : ℕ) → a ≡ n → c < n → nat_eq a c ≡ false
  other_number a n c e f = grind (arith, nat_tests, e, f)

  later_number : (a n c : ℕ) → a ≡ n → n < c → nat_eq a c ≡ false
  later_number a n c e f = grind (arith, nat_tests, e, f)

  next : (m n : ℕ) → suc m + n ≡ m + suc n
  next m n = omega arith

  start : (m : ℕ) → m ≡ m + zero
  start m = omega arith

  own_block : (c m : ℕ) (ks rest : List Core.Method) → AllByRecursion (λ k. nat_eq k.class c ≡ true) ks →
      core_numbering.methods_of c m (ks ++ rest) ≡ numbers_from m (length ks) ++ core_numbering.methods_of c (m + length ks) rest
  own_block c m [] rest h = ap (λ m. core_numbering.methods_of c m rest) (start m)
  own_block c m (k ∷ ks) rest h =
      ap (λ b. if b then m ∷ core_numbering.methods_of c (suc m) (ks ++ rest) else core_numbering.methods_of c (suc m) (ks ++ rest)) h.0
      ∙ ap (λ xs. m ∷ xs) (own_block c (suc m) ks rest h.1 ∙
      ap (λ n. numbers_from (suc m) (length ks) ++ core_numbering.methods_of c n rest) (next m (length ks)))

  other_block : (c m : ℕ) (ks rest : List Core.Method) → AllByRecursion (λ k. nat_eq k.class c ≡ false) ks →
      core_numbering.methods_of c m (ks ++ rest) ≡ core_numbering.methods_of c (m + length ks) rest
  other_block c m [] rest h = ap (λ m. core_numbering.methods_of c m rest) (start m)
  other_block c m (k ∷ ks) rest h =
      ap (λ b. if b then m ∷ core_numbering.methods_of c (suc m) (ks ++ rest) else core_numbering.methods_of c (suc m) (ks ++ rest)) h.0
      ∙ (other_block c (suc m) ks rest h.1 ∙ ap (λ n. core_numbering.methods_of c n rest) (next m (length ks)))

  all_as : {P Q : Core.Method → Type 0} (ks : List Core.Method) → ((k : Core.Method) → P k → Q k) → AllByRecursion P ks →
      AllByRecursion Q ks
  all_as [] f h = tt
  all_as (k ∷ ks) f h = (f k h.0, all_as ks f h.1)

  -- behind a class it has no methods
  none_later : (typestates : List Typestate) (c n m : ℕ) (cs : List Source.Class) (es : List Entry) →
      entries_from typestates n m cs ≡ Some es → c < n →
      (names : List Name) (r : Naming (List Core.Method)) → methods tables names es ≡ Some r → core_numbering.methods_of c m r.it ≡ []
  none_later typestates c n m [] es given low names r made =
      let none : methods tables names [] ≡ Some r = subst (λ es. methods tables names es ≡ Some r) (sym (some_is given)) made in
      ap (λ (r : Naming (List Core.Method)). core_numbering.methods_of c m r.it) (sym (some_is none))
  none_later typestates c n m (k ∷ cs) es given low names r made =
      let f = first_entry typestates n m k cs es given in
      let e : Entry = record { class = k; number = n; first_method = m; typestate = f.typestate } in
      let here : methods tables names (e ∷ f.rest) ≡ Some r = subst (λ es. methods tables names es ≡ Some r) (sym f.are) made in
      let b = bound (methods_of tables names e k.methods) _ r here in
      let d = bound (methods tables b.item.names f.rest) _ r b.gives in
      let w = block e names b.item b.is in
      ap (λ (r : Naming (List Core.Method)). core_numbering.methods_of c m r.it) (sym (some_is d.gives))
      ∙ (other_block c m b.item.it d.item.it (all_as b.item.it (λ k h. other_number k.class n c h low) w.class)
      ∙ (ap (λ l. core_numbering.methods_of c (m + l) d.item.it) w.length_is
      ∙ none_later typestates c (suc n) (m + length k.methods) cs f.rest f.more (above c n low) b.item.names d.item d.is))
    where
      above : (c n : ℕ) → c < n → c < suc n
      above c n h = omega (arith, h)

  -- the methods of a class are those that its entry says
  pub numbers_at : (typestates : List Typestate) (c n m : ℕ) (cs : List Source.Class) (es : List Entry) →
      entries_from typestates n m cs ≡ Some es →
      (names : List Name) (r : Naming (List Core.Method)) → methods tables names es ≡ Some r → (i : ℕ) (e : Entry) →
      slice_get es i ≡ Some e → c ≡ n + i →
      core_numbering.methods_of c m r.it ≡ numbers_from e.first_method (length e.class.methods)
  numbers_at typestates c n m [] es given names r made i e at same =
      absurd (none_some (subst (λ (es : List Entry). slice_get es i ≡ Some e) (sym (some_is given)) at))
  numbers_at typestates c n m (k ∷ cs) es given names r made i e at same =
      let f = first_entry typestates n m k cs es given in
      let first : Entry = record { class = k; number = n; first_method = m; typestate = f.typestate } in
      let here : methods tables names (first ∷ f.rest) ≡ Some r = subst (λ es. methods tables names es ≡ Some r) (sym f.are) made in
      let b = bound (methods_of tables names first k.methods) _ r here in
      let d = bound (methods tables b.item.names f.rest) _ r b.gives in
      let w = block first names b.item b.is in
      ap (λ (r : Naming (List Core.Method)). core_numbering.methods_of c m r.it) (sym (some_is d.gives))
      ∙ go f b.item d.item w d.is i (subst (λ es. slice_get es i ≡ Some e) (sym f.are) at) same
      (λ i at same. numbers_at typestates c (suc n) (m + length k.methods) cs f.rest f.more b.item.names d.item d.is i e at same)
    where
      low : (c n : ℕ) → c ≡ n + zero → c < suc n
      low c n h = omega (arith, h)

      equal : (c n : ℕ) → c ≡ n + zero → n ≡ c
      equal c n h = omega (arith, h)

      high : (c n i : ℕ) → c ≡ n + suc i → n < c
      high c n i h = omega (arith, h)

      moved : (c n i : ℕ) → c ≡ n + suc i → c ≡ suc n + i
      moved c n i h = omega (arith, h)

      go : (f : FirstEntry typestates n m k cs es) (b d : Naming (List Core.Method)) →
          Block (record { class = k; number = n; first_method = m; typestate = f.typestate }) (length k.methods) b.it →
          methods tables b.names f.rest ≡ Some d → (i : ℕ) →
          slice_get (record { class = k; number = n; first_method = m; typestate = f.typestate } ∷ f.rest) i ≡ Some e → c ≡ n + i →
          ((i : ℕ) → slice_get f.rest i ≡ Some e → c ≡ suc n + i →
          core_numbering.methods_of c (m + length k.methods) d.it ≡ numbers_from e.first_method (length e.class.methods)) →
          core_numbering.methods_of c m (b.it ++ d.it) ≡ numbers_from e.first_method (length e.class.methods)
      go f b d w made zero at same later =
          own_block c m b.it d.it (all_as b.it (λ x h. same_number x.class n c h (equal c n same)) w.class)
          ∙ (ap (λ l. numbers_from m l ++ core_numbering.methods_of c (m + l) d.it) w.length_is
          ∙ (ap (λ xs. numbers_from m (length k.methods) ++ xs)
          (none_later typestates c (suc n) (m + length k.methods) cs f.rest f.more (low c n same) b.names d made)
          ∙ (append-nil (numbers_from m (length k.methods)) ∙
          ap (λ (e : Entry). numbers_from e.first_method (length e.class.methods)) (some_is at))))
      go f b d w made (suc i) at same later =
          other_block c m b.it d.it (all_as b.it (λ x h. later_number x.class n c h (high c n i same)) w.class)
          ∙ (ap (λ l. core_numbering.methods_of c (m + l) d.it) w.length_is ∙ later i at (moved c n i same))
