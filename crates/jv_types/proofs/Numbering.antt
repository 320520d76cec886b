-- Entries that are numbered in their order.
use Rattle.std.proofs.Common.{◌≡◌, ℕ, suc, ◌+◌, List, [], ◌∷◌, ◌++◌, map, length, Option, Some, sym, ap, ◌∙◌, arith, position}
use Rattle.std.specs.Option.{option_map}
use Rattle.std.specs.Str.{bytes_eq}
use Rattle.std.proofs.lemmas.List.{map-append}
use Rattle.std.proofs.Math.ListN.{length-map}
use Rattle.mg_text.specs.Call.{Name}
use Rattle.jv_tree.specs.Source.{Class}
use Rattle.jv_tree.specs.View.{class_of, method_of}
use Rattle.jv_types.specs.declared.entry.ClassEntry.{ClassEntry}
use Rattle.jv_types.specs.inner.Numbers.{numbers, numbers_in, number_named, numbers_from, methods_in, classes_seen, AreNumbered}

behind_none : (a : ℕ) → a + 0 ≡ a
behind_none a = omega arith

before_none : (a : ℕ) → a + 0 ≡ 0 + a
before_none a = omega arith

none_before : (a : ℕ) → a ≡ 0 + a
none_before a = omega arith

grouped : (a b c : ℕ) → a + (b + c) ≡ (a + b) + c
grouped a b c = omega arith

behind_next : (a b : ℕ) → suc a + b ≡ a + suc b
behind_next a b = omega arith

same_numbers : (a b c d : ℕ) (t : Option ℕ) → a ≡ b → c ≡ d → numbers a c t ≡ numbers b d t
same_numbers a b c d t e h = ap (λ k. numbers k c t) e ∙ ap (λ k. numbers b k t) h

numbers-append : (names : List Name) (n m : ℕ) (cs : List Class) (c : Class) → numbers_from names n m (cs ++ c ∷ [])
    ≡ numbers_from names n m cs ++ numbers (n + length cs) (m + methods_in cs) (number_named names c.typestate) ∷ []
numbers-append names n m [] c = ap (λ x. x ∷ [])
    (same_numbers n (n + 0) m (m + 0) (number_named names c.typestate) (sym (behind_none n)) (sym (behind_none m)))
numbers-append names n m (k ∷ cs) c =
    ap (λ xs. numbers n m (number_named names k.typestate) ∷ xs) (numbers-append names (suc n) (m + length k.methods) cs c
    ∙ ap (λ x. numbers_from names (suc n) (m + length k.methods) cs ++ x ∷ [])
    (same_numbers (suc n + length cs) (n + suc (length cs)) ((m + length k.methods) + methods_in cs)
    (m + (length k.methods + methods_in cs)) (number_named names c.typestate) (behind_next n (length cs))
    (sym (grouped m (length k.methods) (methods_in cs)))))

methods-append : (cs : List Class) (c : Class) → methods_in (cs ++ c ∷ []) ≡ methods_in cs + length c.methods
methods-append [] c = before_none (length c.methods)
methods-append (k ∷ cs) c = ap (λ x. length k.methods + x) (methods-append cs c) ∙
    grouped (length k.methods) (methods_in cs) (length c.methods)

-- an entry behind those that are numbered
module _ (names : List Name) (m next : ℕ) (es ns : List ClassEntry) (e : ClassEntry) (so_far : AreNumbered names m es)
    (more : ns ≡ es ++ e ∷ []) where
  classes_more : classes_seen ns ≡ classes_seen es ++ class_of e.class.now ∷ []
  classes_more = ap classes_seen more ∙ map-append (λ x. class_of x.class.now) es (e ∷ [])

  module _ (number : e.number ≡ 0 + length es) (first : e.first_method ≡ m)
      (typestate : option_map (λ t. t.number) e.typestate ≡ number_named names e.class.now.typestate)
      (behind : next ≡ m + length e.class.now.methods.items) where
    numbered : numbers_in e ≡ numbers (0 + length (classes_seen es)) (0 + methods_in (classes_seen es))
        (number_named names e.class.now.typestate)
    numbered =
        same_numbers e.number (0 + length (classes_seen es)) e.first_method (0 + methods_in (classes_seen es))
        (option_map (λ t. t.number) e.typestate) (number ∙ ap (λ k. 0 + k) (sym (length-map es (λ x. class_of x.class.now))))
        (first ∙ so_far.all ∙ none_before (methods_in (classes_seen es)))
        ∙ ap (numbers (0 + length (classes_seen es)) (0 + methods_in (classes_seen es))) typestate

    pub numbered_more : AreNumbered names next ns
    numbered_more = record {
      each =
          ap (map numbers_in) more ∙ map-append numbers_in es (e ∷ []) ∙ ap (λ xs. xs ++ numbers_in e ∷ []) so_far.each
          ∙ ap (λ x. numbers_from names 0 0 (classes_seen es) ++ x ∷ []) numbered
          ∙ sym (numbers-append names 0 0 (classes_seen es) (class_of e.class.now))
          ∙ ap (numbers_from names 0 0) (sym classes_more);
      all =
          behind ∙ ap (λ k. k + length e.class.now.methods.items) so_far.all
          ∙ ap (λ k. methods_in (classes_seen es) + k) (sym (length-map e.class.now.methods.items method_of))
          ∙ sym (methods-append (classes_seen es) (class_of e.class.now)) ∙ ap methods_in (sym classes_more);
    }

-- the number of the typestate that is named, by a text that is its name
pub number_found : (names : List Name) (o : Option Name) (n : Name) → o ≡ Some n → (text : Name) → text ≡ n →
    (r : Option ℕ) → r ≡ position (bytes_eq text) names → r ≡ number_named names o
number_found names o n named text same r e = e ∙ ap (λ t. position (bytes_eq t) names) same ∙ ap (number_named names) (sym named)
