-- The table of a program is that of its trees.
use Rattle.std.proofs.Common.{◌≡◌, ℕ, suc, ◌+◌, List, [], ◌∷◌, map, length, Option, Some, None, refl, sym, ap, ◌∙◌, position}
use Rattle.std.specs.Prelude.{◌≢◌}
use Rattle.std.specs.Str.{bytes_eq}
use Rattle.mg_text.specs.Call.{Name}
use Rattle.ts_tree.specs.Typestate.{Typestate}
use Rattle.jv_tree.specs.Source.{Class, Enum}
use Rattle.jv_tree.specs.View.{class_of}
use Rattle.jv_meaning.specs.Program.{enums_of}
use Rattle.jv_rules.specs.Program.{Program}
use Rattle.jv_types.specs.declared.entry.ClassEntry.{ClassEntry}
use Rattle.jv_types.specs.declared.name_table.Table.{Table}
use Rattle.jv_types.specs.Tables.{program_in, class_entries_of}
use Rattle.jv_types.specs.inner.Numbers.{Numbers, numbers, numbers_in, number_named, numbers_from, classes_seen}
use Rattle.jv_types.proofs.Entries.{all_classes_in, all_enums_in}
use Rattle.jv_resolve_law.specs.Tables.{◌>>=◌, Entry, Tables, followed, entries_from, tables_of}
use Rattle.jv_resolve.specs.inner.Seen.{entry_seen, tables_seen}

same_some : {X : Type 0} (x y : X) → Some x ≡ Some y → x ≡ y
same_some x y e = cc

some_there : {X : Type 0} (x : X) → Some x ≢ None
some_there x e = let no : ⊥ = cc in no

both_same : {X : Type 0} (x y : X) (xs ys : List X) → x ∷ xs ≡ y ∷ ys → (x ≡ y) × (xs ≡ ys)
both_same x y xs ys e = (cc, cc)

-- the typestate that is named and there has its number
number_followed : (typestates : List Typestate) (o : Option Name) (t : Option ℕ) → followed typestates o ≡ Some t →
    number_named (map (λ t. t.name) typestates) o ≡ t
number_followed typestates None t e = same_some None t e
number_followed typestates (Some name) t e = go (position (bytes_eq name) (map (λ t. t.name) typestates)) e
  where
    go : (p : Option ℕ) → (p >>= λ k. Some (Some k)) ≡ Some t → p ≡ t
    go None h = let no : ⊥ = cc in absurd no
    go (Some k) h = same_some (Some k) t h

abbrev entry_of : Class → (number first_method : ℕ) → Option ℕ → Entry
entry_of c n m t = record { class = c; number = n; first_method = m; typestate = t }

-- one entry and its class
module _ (typestates : List Typestate) (n m : ℕ) (x : ClassEntry) where
  abbrev class : Class
  class = class_of x.class.now

  same_entry : numbers_in x ≡ numbers n m (number_named (map (λ t. t.name) typestates) class.typestate) →
      (t : Option ℕ) → followed typestates class.typestate ≡ Some t → entry_of class n m t ≡ entry_seen x
  same_entry is t h =
      ap (λ k. entry_of class k m t) (sym (ap (λ (k : Numbers). k.class) is))
      ∙ ap (λ k. entry_of class x.number k t) (sym (ap (λ (k : Numbers). k.first_method) is))
      ∙ ap (entry_of class x.number x.first_method) (sym (ap (λ (k : Numbers). k.typestate) is ∙
      number_followed typestates class.typestate t h))

  abbrev with_entry : Option (Option ℕ) → Option (List Entry) → Option (List Entry)
  with_entry f r = f >>= λ t. r >>= λ es. Some (entry_of class n m t ∷ es)

  one_more : ((t : Option ℕ) → followed typestates class.typestate ≡ Some t → entry_of class n m t ≡ entry_seen x) →
      (f : Option (Option ℕ)) → followed typestates class.typestate ≡ f → (r : Option (List Entry)) (es : List Entry) →
      (r ≢ None → r ≡ Some es) → with_entry f r ≢ None → with_entry f r ≡ Some (entry_seen x ∷ es)
  one_more same None h r es rest there = absurd (there refl)
  one_more same (Some t) h None es rest there = absurd (there refl)
  one_more same (Some t) h (Some ks) es rest there =
      ap (λ k. Some (k ∷ ks)) (same t h) ∙ ap (λ k. Some (entry_seen x ∷ k)) (same_some ks es (rest (some_there ks)))

-- entries that are numbered from these numbers on are those of their classes, where each typestate that is named is there
entries_made : (typestates : List Typestate) (n m : ℕ) (es : List ClassEntry) →
    map numbers_in es ≡ numbers_from (map (λ t. t.name) typestates) n m (classes_seen es) →
    entries_from typestates n m (classes_seen es) ≢ None → entries_from typestates n m (classes_seen es) ≡ Some (map entry_seen es)
entries_made typestates n m [] e there = refl
entries_made typestates n m (x ∷ xs) e there =
    let c = class_of x.class.now in
    let names = map (λ (t : Typestate). t.name) typestates in
    let h = both_same (numbers_in x) (numbers n m (number_named names c.typestate)) (map numbers_in xs)
    (numbers_from names (suc n) (m + length c.methods) (classes_seen xs)) e in
    one_more typestates n m x (same_entry typestates n m x h.0) (followed typestates c.typestate) refl
    (entries_from typestates (suc n) (m + length c.methods) (classes_seen xs)) (map entry_seen xs)
    (entries_made typestates (suc n) (m + length c.methods) xs h.1) there

module _ (t : Table) where
  abbrev program : Program
  program = program_in t

  abbrev tabled : List Entry → List Enum → Tables
  tabled es enums = record { classes = es; enums = enums; typestates = program.typestates }

  abbrev of_classes : List Class → Option Tables
  of_classes cs = entries_from program.typestates 0 0 cs >>= λ es. Some (tabled es (enums_of program.files))

  same_classes : of_classes (classes_seen (class_entries_of t)) ≡ tables_of program
  same_classes = ap of_classes (all_classes_in t.tabled)

  numbered : map numbers_in (class_entries_of t) ≡ numbers_from (map (λ t. t.name) program.typestates) 0 0
      (classes_seen (class_entries_of t))
  numbered = t.tabled.numbered ∙ ap (λ ns. numbers_from ns 0 0 (classes_seen (class_entries_of t))) t.tabled.typestates_named

  -- the tables of its trees, where there are some
  pub tables_made : tables_of program ≢ None → tables_of program ≡ Some (tables_seen t)
  tables_made there =
      sym same_classes
      ∙ ap (λ o. o >>= λ es. Some (tabled es (enums_of program.files)))
      (entries_made program.typestates 0 0 (class_entries_of t) numbered
      (λ e. there (sym same_classes ∙ ap (λ o. o >>= λ es. Some (tabled es (enums_of program.files))) e)))
      ∙ ap (λ xs. Some (tabled (map entry_seen (class_entries_of t)) xs)) (sym (all_enums_in t.tabled))
