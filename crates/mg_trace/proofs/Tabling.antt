-- The tables of results grow as their methods and classes are added.
use Rattle.std.proofs.Common.{◌≡◌, ℕ, Bool, true, false, cond, List, [], ◌∷◌, ◌++◌, String, string_bytes, Option, None, Some, Decides, refl}
use Rattle.std.proofs.Common.{sym, ap, ◌∙◌, subst, append-nil}
use Rattle.std.specs.Prelude.{slice_get}
use Rattle.std.specs.Option.{option_or, is_some}
use Rattle.std.specs.HashMap.{HashMap, get_by_text, UpdatesBy}
use Rattle.std.specs.Str.{bytes_eq}
use Rattle.std.specs.String.{string_eq}
use Rattle.std.proofs.lemmas.List.{flat_map_more}
use Rattle.std.proofs.lemmas.Map.Text.{hash_map_updates_text}
use Rattle.std.proofs.lemmas.Slice.Eq.{bytes_eq-Decides}
use Rattle.mg_text.specs.Call.{Name}
use Rattle.jv_core.specs.declared.program.CoreType.{CoreType}
use Rattle.jv_core.specs.Tree.{Class, Method, Program}
use Rattle.jv_core.specs.Lookup.{text_at}
use Rattle.mg_trace.specs.Trace.{methods_of, result_in, class_in}
use Rattle.mg_trace.specs.inner.Tabled.{AreMethods, IsOwn, AreClasses}

or_none : {X : Type 0} (o : Option X) → o ≡ option_or o None
or_none None = refl
or_none (Some x) = refl

or_some : {X : Type 0} (o d : Option X) → is_some o ≡ true → o ≡ option_or o d
or_some None d h = absurd cc
or_some (Some x) d h = refl

is_none : {X : Type 0} (o : Option X) → is_some o ≡ false → o ≡ None
is_none None h = refl
is_none (Some x) h = absurd cc

module _ (p : Program) where
  -- one method more
  result_more : (ms : List Method) (m : Method) (q : Name) →
      result_in p (ms ++ m ∷ []) q ≡ option_or (result_in p ms q) (result_in p (m ∷ []) q)
  result_more [] m q = refl
  result_more (x ∷ ms) m q = go (bytes_eq (text_at p x.name) q) (result_more ms m q)
    where
      go : (b : Bool) → result_in p (ms ++ m ∷ []) q ≡ option_or (result_in p ms q) (result_in p (m ∷ []) q) →
          cond b (Some x.result) (result_in p (ms ++ m ∷ []) q)
          ≡ option_or (cond b (Some x.result) (result_in p ms q)) (result_in p (m ∷ []) q)
      go true h = refl
      go false h = h

  -- one class more
  class_more : (cs : List Class) (c : Class) (q : Name) → class_in p (cs ++ c ∷ []) q ≡ option_or (class_in p cs q) (class_in p (c ∷ []) q)
  class_more [] c q = refl
  class_more (x ∷ cs) c q = go (bytes_eq (text_at p x.name) q) (class_more cs c q)
    where
      go : (b : Bool) → class_in p (cs ++ c ∷ []) q ≡ option_or (class_in p cs q) (class_in p (c ∷ []) q) →
          cond b (Some x) (class_in p (cs ++ c ∷ []) q) ≡ option_or (cond b (Some x) (class_in p cs q)) (class_in p (c ∷ []) q)
      go true h = refl
      go false h = h

  methods_more : (before : List ℕ) (n : ℕ) (o : Option Method) → slice_get p.methods n ≡ o →
      methods_of p (before ++ n ∷ []) ≡ methods_of p before ++ elim o [ None ↦ [] | Some m ↦ m ∷ [] ]
  methods_more before n o is =
      sym (flat_map_more (λ k. elim (slice_get p.methods k) [ None ↦ [] | Some m ↦ m ∷ [] ]) [] before n)
      ∙ ap (λ (z : Option Method). methods_of p before ++ elim z [ None ↦ [] | Some m ↦ m ∷ [] ]) is

  -- a number of no method adds nothing
  pub no_method : {A S : Type 0} (own : HashMap (String A) CoreType S) (n : ℕ) → slice_get p.methods n ≡ None →
      (before : List ℕ) → AreMethods p before own → AreMethods p (before ++ n ∷ []) own
  no_method own n none before h q =
      h q ∙ ap (λ (ms : List Method). result_in p ms q) (sym (methods_more before n None none ∙ append-nil (methods_of p before)))

  module _ (n : ℕ) (m : Method) (is : slice_get p.methods n ≡ Some m) where
    method_more : (before : List ℕ) (q : Name) →
        result_in p (methods_of p (before ++ n ∷ [])) q
        ≡ option_or (result_in p (methods_of p before) q) (cond (bytes_eq (text_at p m.name) q) (Some m.result) None)
    method_more before q =
        ap (λ (ms : List Method). result_in p ms q) (methods_more before n (Some m) is)
        ∙ result_more (methods_of p before) m q

    -- a method of a name that is there already adds nothing
    pub kept_method : {A S : Type 0} (own : HashMap (String A) CoreType S) → is_some (get_by_text own (text_at p m.name)) ≡ true →
        (before : List ℕ) → AreMethods p before own → AreMethods p (before ++ n ∷ []) own
    kept_method own has before h q =
        go (bytes_eq (text_at p m.name) q) (bytes_eq-Decides (text_at p m.name) q)
        ∙ ap (λ (o : Option CoreType). option_or o (cond (bytes_eq (text_at p m.name) q) (Some m.result) None)) (h q)
        ∙ sym (method_more before q)
      where
        go : (b : Bool) → Decides b (text_at p m.name ≡ q) → get_by_text own q ≡ option_or (get_by_text own q) (cond b (Some m.result) None)
        go true d = or_some (get_by_text own q) (Some m.result) (ap (λ (z : Name). is_some (get_by_text own z)) (sym (d.0 refl)) ∙ has)
        go false d = or_none (get_by_text own q)

    -- a method of a new name is found by it
    pub added_method : {A S : Type 0} (old new : HashMap (String A) CoreType S) (key : String A) → string_bytes key ≡ text_at p m.name →
        is_some (get_by_text old (text_at p m.name)) ≡ false →
        UpdatesBy string_eq (λ k. bytes_eq (string_bytes key) (string_bytes k)) old new (Some m.result) →
        (before : List ℕ) → AreMethods p before old → AreMethods p (before ++ n ∷ []) new
    added_method old new key same has u before h q =
        hash_map_updates_text (string_bytes key) old new (Some m.result) u q
        ∙ ap (λ (z : Name). cond (bytes_eq z q) (Some m.result) (get_by_text old q)) same
        ∙ go (bytes_eq (text_at p m.name) q) (bytes_eq-Decides (text_at p m.name) q)
        ∙ ap (λ (o : Option CoreType). option_or o (cond (bytes_eq (text_at p m.name) q) (Some m.result) None)) (h q)
        ∙ sym (method_more before q)
      where
        go : (b : Bool) → Decides b (text_at p m.name ≡ q) →
            cond b (Some m.result) (get_by_text old q) ≡ option_or (get_by_text old q) (cond b (Some m.result) None)
        go true d = ap (λ (o : Option CoreType). option_or o (Some m.result))
            (sym (ap (λ (z : Name). get_by_text old z) (sym (d.0 refl)) ∙ is_none (get_by_text old (text_at p m.name)) has))
        go false d = or_none (get_by_text old q)

  module _ {A S : Type 0} where
    own_some : (a d : Option Class) (t : Option (HashMap (String A) CoreType S)) → is_some t ≡ true → IsOwn p a t →
        IsOwn p (option_or a d) t
    own_some (Some c) d (Some t) has h = h
    own_some (Some c) d None has h = absurd h
    own_some None d (Some t) has h = absurd h
    own_some None d None has h = absurd cc

    own_none : (a : Option Class) (t : Option (HashMap (String A) CoreType S)) → IsOwn p a t → IsOwn p (option_or a None) t
    own_none (Some c) t h = h
    own_none None t h = h

    own_new : (c : Class) (own : HashMap (String A) CoreType S) → AreMethods p c.methods own →
        (a : Option Class) (t : Option (HashMap (String A) CoreType S)) →
        is_some t ≡ false → IsOwn p a t → IsOwn p (option_or a (Some c)) (Some own)
    own_new c own is (Some x) (Some t) has h = absurd cc
    own_new c own is (Some x) None has h = absurd h
    own_new c own is None (Some t) has h = absurd h
    own_new c own is None None has h = is

  module _ {A S R : Type 0} (c : Class) where
    -- a class of a name that is there already adds nothing
    pub kept_class : (tables : HashMap (String A) (HashMap (String A) CoreType S) R) →
        is_some (get_by_text tables (text_at p c.name)) ≡ true →
        (before : List Class) → AreClasses p before tables → AreClasses p (before ++ c ∷ []) tables
    kept_class tables has before h q =
        subst (λ (o : Option Class). IsOwn p o (get_by_text tables q)) (sym (class_more before c q))
        (go (bytes_eq (text_at p c.name) q) (bytes_eq-Decides (text_at p c.name) q))
      where
        go : (b : Bool) → Decides b (text_at p c.name ≡ q) →
            IsOwn p (option_or (class_in p before q) (cond b (Some c) None)) (get_by_text tables q)
        go true d = own_some (class_in p before q) (Some c) (get_by_text tables q)
            (ap (λ (z : Name). is_some (get_by_text tables z)) (sym (d.0 refl)) ∙ has) (h q)
        go false d = own_none (class_in p before q) (get_by_text tables q) (h q)

    -- a class of a new name is found by it
    pub added_class : (old new : HashMap (String A) (HashMap (String A) CoreType S) R) (key : String A)
        (own : HashMap (String A) CoreType S) → string_bytes key ≡ text_at p c.name →
        is_some (get_by_text old (text_at p c.name)) ≡ false → AreMethods p c.methods own →
        UpdatesBy string_eq (λ k. bytes_eq (string_bytes key) (string_bytes k)) old new (Some own) →
        (before : List Class) → AreClasses p before old → AreClasses p (before ++ c ∷ []) new
    added_class old new key own same has is u before h q =
        subst (λ (t : Option (HashMap (String A) CoreType S)). IsOwn p (class_in p (before ++ c ∷ []) q) t) (sym found)
        (subst (λ (o : Option Class). IsOwn p o (cond (bytes_eq (text_at p c.name) q) (Some own) (get_by_text old q)))
        (sym (class_more before c q))
        (go (bytes_eq (text_at p c.name) q) (bytes_eq-Decides (text_at p c.name) q)))
      where
        found : get_by_text new q ≡ cond (bytes_eq (text_at p c.name) q) (Some own) (get_by_text old q)
        found = hash_map_updates_text (string_bytes key) old new (Some own) u q
            ∙ ap (λ (z : Name). cond (bytes_eq z q) (Some own) (get_by_text old q)) same

        go : (b : Bool) → Decides b (text_at p c.name ≡ q) →
            IsOwn p (option_or (class_in p before q) (cond b (Some c) None)) (cond b (Some own) (get_by_text old q))
        go true d = own_new c own is (class_in p before q) (get_by_text old q)
            (ap (λ (z : Name). is_some (get_by_text old z)) (sym (d.0 refl)) ∙ has) (h q)
        go false d = own_none (class_in p before q) (get_by_text old q) (h q)
