-- Where the `main`s stand that make no object of the class of their role, and for which roles.
use Rattle.std.proofs.Common.{◌≡◌, ◌⊎◌, ℕ, Bool, true, false, cond, List, [], ◌∷◌, ◌++◌, map, Option, Some, None, Contains, Decides, String}
use Rattle.std.proofs.Common.{refl, sym, ap, ◌∙◌, subst, ⊎_elim, true≢false, codes}
use Rattle.std.specs.Prelude.{option_map, option_and_then, find}
use Rattle.std.specs.Option.{is_none}
use Rattle.std.specs.Map.{update}
use Rattle.std.specs.HashMap.{HashMap, get_by_text}
use Rattle.std.specs.Str.{bytes_eq}
use Rattle.std.proofs.lemmas.Option.{none-some, same_Some}
use Rattle.std.proofs.lemmas.Slice.Eq.{bytes_eq-Decides}
use Rattle.std.proofs.lemmas.List.Elements.{Contains-push, Contains-push_cases, Contains-append_left}
use Rattle.mg_text.specs.Call.{Name}
use Rattle.mg_text.specs.declared.place.Place.{Place}
use Rattle.stm_acts.specs.Played.{role_class}
use Rattle.scr_tree.specs.Valid.{AreDistinct}
use Rattle.scr_global_tree.specs.Tree.{GlobalTree}
use Rattle.jv_core.specs.Tree.{Method, Program}
use Rattle.jv_core.specs.Lookup.{class_text, class_numbered, is_main}
use Rattle.vm_world_law.specs.declared.role.RoleMain.{RoleMain}
use Rattle.mg_refusal.specs.Refusals.{Refusal, refusal_at}
use Rattle.mg_sources.specs.Reading.{Part}
use Rattle.fit_uses.specs.Uses.{uses_beside_making}
use Rattle.scr_judge.proofs.Members.{Contains-nil, Contains-cons_cases, Contains-image}
use Rattle.mg_fits.specs.Conditions.{MakesNone}
use Rattle.fit_judge.specs.inner.Making.{made_by}
use Rattle.fit_judge.specs.inner.Used.{makes_none, ArePlaces}

module _ (core : Program) (mains : List RoleMain) where
  -- a method is the `main` of a class of this name, makes none, and stands there
  pub record IsNone (m : Method) (name : Name) (place : Place) : Type 0 where
    pub main : is_main m.kind ≡ true
    pub class : class_text core m.class ≡ Some name
    pub none : makes_none (made_by core mains name) m ≡ true
    pub stands : m.place ≡ place

  -- a table has the places of those among some methods
  pub record Notes (ms : List Method) (has : Name → Option Place) : Type 0 where
    pub right : (name : Name) (place : Place) → has name ≡ Some place → (m : Method) × Contains ms m × IsNone m name place
    pub all : (name : Name) (place : Place) (m : Method) → Contains ms m → IsNone m name place → has name ≡ None → ⊥

  module _ (ms : List Method) (m : Method) (has : Name → Option Place) (h : Notes ms has) where
    -- a method that is none of them changes nothing
    pub notes_same : ((name : Name) (place : Place) → IsNone m name place → ⊥) → Notes (ms ++ m ∷ []) has
    notes_same n = record {
      right = λ name place e. let r = h.right name place e in (r.0, Contains-append_left ms (m ∷ []) r.0 r.1, r.2);
      all = λ name place o c is. ⊎_elim (λ old. h.all name place o old is)
          (λ same. absurd (n name place (subst (λ z. IsNone z name place) (sym same) is))) (Contains-push_cases ms m o c);
    }

    module _ (name : Name) (place : Place) (is : IsNone m name place) where
      right_when : (b : Bool) (q : Name) (p : Place) → Decides b (name ≡ q) → cond b (Some place) (has q) ≡ Some p →
          (o : Method) × Contains (ms ++ m ∷ []) o × IsNone o q p
      right_when true q p d f =
          (m, Contains-push ms m, subst (λ z. IsNone m z p) (d.0 refl) (subst (IsNone m name) (same_Some place p f) is))
      right_when false q p d f = let r = h.right q p f in (r.0, Contains-append_left ms (m ∷ []) r.0 r.1, r.2)

      none_when : (b : Bool) (q : Name) → cond b (Some place) (has q) ≡ None → (has q ≡ None) × (b ≡ false)
      none_when true q f = absurd (none-some place (sym f))
      none_when false q f = (f, refl)

      all_when : (q : Name) (p : Place) (o : Method) → IsNone o q p → has q ≡ None → bytes_eq name q ≡ false →
          Contains ms o ⊎ (m ≡ o) → ⊥
      all_when q p o i n b c =
          ⊎_elim (λ old. h.all q p o old i n)
          (λ same. true≢false (sym ((bytes_eq-Decides name q).1
          (same_Some name q (sym is.class ∙ ap (λ (z : Method). class_text core z.class) same ∙ i.class))) ∙ b)) c

      pub notes_more : (new : Name → Option Place) → ((q : Name) → new q ≡ update bytes_eq has name (Some place) q) →
          Notes (ms ++ m ∷ []) new
      notes_more new e = record {
        right = λ q p f. right_when (bytes_eq name q) q p (bytes_eq-Decides name q) (sym (e q) ∙ f);
        all = λ q p o c i f. let w = none_when (bytes_eq name q) q (sym (e q) ∙ f) in
            all_when q p o i w.0 w.1 (Contains-push_cases ms m o c);
      }

  pub notes_are : {A S : Type 0} (places : HashMap (String A) Place S) → Notes core.methods (get_by_text places) →
      ArePlaces core mains places
  notes_are places h = record {
    right = λ name place e. let r = h.right name place e in record {
      method = r.0;
      there = r.1;
      main = r.2.main;
      class = r.2.class;
      none = r.2.none;
      stands = r.2.stands;
    };
    all = λ name place at. h.all name place at.method at.there
        (record { main = at.main; class = at.class; none = at.none; stands = at.stands });
  }

-- a class is that of one role
false_when : (b : Bool) → (b ≡ true → ⊥) → b ≡ false
false_when true h = absurd (h refl)
false_when false h = refl

abbrev class_of_main : RoleMain → Name
class_of_main m = m.class

found_first : (m main : RoleMain) (rest : Option RoleMain) → m ≡ main → cond (bytes_eq m.class main.class) (Some m) rest ≡ Some main
found_first m main rest same =
    ap (λ b. cond b (Some m) rest) ((bytes_eq-Decides m.class main.class).1 (ap class_of_main same)) ∙ ap Some same

found_later : (ms : List RoleMain) (m main : RoleMain) (rest : Option RoleMain) → (Contains (map class_of_main ms) m.class → ⊥) →
    Contains ms main → rest ≡ Some main → cond (bytes_eq m.class main.class) (Some m) rest ≡ Some main
found_later ms m main rest apart more found =
    ap (λ b. cond b (Some m) rest) (false_when (bytes_eq m.class main.class) (λ e. apart (subst (Contains (map class_of_main ms))
    (sym ((bytes_eq-Decides m.class main.class).0 e)) (Contains-image class_of_main ms main more))))
    ∙ found

found_own : (ms : List RoleMain) → AreDistinct (map class_of_main ms) → (main : RoleMain) → Contains ms main →
    find (λ (o : RoleMain). bytes_eq o.class main.class) ms ≡ Some main
found_own [] d main c = absurd (Contains-nil main c)
found_own (m ∷ ms) d main c =
    ⊎_elim (λ same. found_first m main (find (λ (o : RoleMain). bytes_eq o.class main.class) ms) same)
    (λ more. found_later ms m main (find (λ (o : RoleMain). bytes_eq o.class main.class) ms) d.0 more (found_own ms d.1 main more))
    (Contains-cons_cases ms m main c)

no_making : {X : Type 0} (o : Option X) → is_none o ≡ true → o ≡ None
no_making None e = refl
no_making (Some x) e = absurd (true≢false (sym e))

unmade_to : (o : Option ℕ) (m : Method) → makes_none o m ≡ true → (class : ℕ) → o ≡ Some class → uses_beside_making class m.body ≡ None
unmade_to None m n class e = absurd (none-some class e)
unmade_to (Some k) m n class e =
    no_making (uses_beside_making class m.body) (subst (λ z. is_none (uses_beside_making z m.body) ≡ true) (same_Some k class e) n)

unmade_from : (o : Option ℕ) (m : Method) → ((class : ℕ) → o ≡ Some class → uses_beside_making class m.body ≡ None) → makes_none o m ≡ true
unmade_from None m h = refl
unmade_from (Some k) m h = ap is_none (h k refl)

module _ (core : Program) (mains : List RoleMain) (differ : AreDistinct (map (λ (m : RoleMain). m.class) mains)) (main : RoleMain)
    (there : Contains mains main) where
  made_own : made_by core mains main.class ≡ class_numbered core (role_class main.role)
  made_own =
      ap (λ o. option_and_then (λ (role : Name). class_numbered core (role_class role)) (option_map (λ (m : RoleMain). m.role) o))
      (found_own mains differ main there)

  module _ {A S : Type 0} (places : HashMap (String A) Place S) (are : ArePlaces core mains places) (g : GlobalTree) (ps : List Part) where
    pub makes_none_here : (place : Place) → get_by_text places main.class ≡ Some place → (r : Refusal) →
        r ≡ refusal_at (codes "NotMade") place main.role → MakesNone g ps core mains main r
    makes_none_here place has r said =
        let at = are.right main.class place has in record {
          method = at.method;
          is = record { there = at.there; main = at.main; class = at.class };
          none = λ class e. unmade_to (made_by core mains main.class) at.method at.none class (made_own ∙ e);
          said = said ∙ ap (λ p. refusal_at (codes "NotMade") p main.role) (sym at.stands);
        }

    pub makes_one : get_by_text places main.class ≡ None → (r : Refusal) → MakesNone g ps core mains main r → ⊥
    makes_one has r f = are.all main.class f.method.place (record {
      method = f.method;
      there = f.is.there;
      main = f.is.main;
      class = f.is.class;
      none = unmade_from (made_by core mains main.class) f.method (λ class e. f.none class (sym made_own ∙ e));
      stands = refl;
    }) has
