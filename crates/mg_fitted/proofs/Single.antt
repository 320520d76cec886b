-- Each condition of fitting answers one thing: a role has one protocol among the files, and a class one `main`.
use Rattle.std.proofs.Common.{◌≡◌, ◌⊎◌, inl, inr, ⊎_elim, ℕ, Bool, true, false, true≢false, List, [], ◌∷◌, map, Option, Some, None}
use Rattle.std.proofs.Common.{refl, sym, ap, ◌∙◌, subst, Contains, slice_get, option_map, codes}
use Rattle.std.specs.Prelude.{cond, nat_eq}
use Rattle.std.specs.List.{AllByRecursion, filter}
use Rattle.std.proofs.lemmas.Bool.{eq-eqb}
use Rattle.mg_text.specs.Call.{Name}
use Rattle.mg_text.specs.Places.{start_of}
use Rattle.mg_read.specs.FirstLaws.{IsSingle}
use Rattle.mg_read.proofs.Judging.{one_answer}
use Rattle.scr_tree.specs.Tree.{LocalTree}
use Rattle.scr_tree.specs.Valid as protocols
use Rattle.scr_global_tree.specs.Tree.{GlobalTree}
use Rattle.ts_tree.specs.Proper.{AreDistinct}
use Rattle.jv_rules.proofs.Tests.{nothing_in, in_cases, in_first, in_later}
use Rattle.jv_core.specs.declared.program.MethodKind.{MethodKind}
use Rattle.jv_core.specs.declared.program.MethodKind.TheVariants as kinds
use Rattle.jv_core.specs.Tree.{Class, Method, Program}
use Rattle.jv_core.specs.Lookup.{text_at, class_text, is_main}
use Rattle.jv_core.specs.Conditions.{IsCore, IsMethod, IsOfKind}
use Rattle.jv_names.proofs.Declared.{position_of}
use Rattle.jv_names.proofs.OneNumber.{distinct_left, stands_once}
use Rattle.jv_names.proofs.Tables.{some_is, none_some}
use Rattle.vm_world_law.specs.declared.role.RoleMain.{RoleMain}
use Rattle.mg_refusal.specs.Refusals.{Refusal, refusal_at}
use Rattle.mg_sources.specs.Reading.{Part}
use Rattle.fit_uses.specs.declared.usage.Use.{Use}
use Rattle.fit_uses.specs.declared.usage.Use.TheVariants.{Talks, Makes}
use Rattle.mg_fits.specs.Parts.{protocols_in, roles_in}
use Rattle.mg_fits.specs.Conditions.{Condition, Unplayed, Stranger, SharedMain, NoProtocol, OtherProtocol, OwnSession, MadeElsewhere, NotMade}
use Rattle.mg_fits.specs.Conditions.{Of, HasOther, IsOwnSession, IsMadeElsewhere, elsewhere, IsMainOf, MakesNone}

-- ---- lists

-- of a list whose names are apart, two things of one name are one
one_named : {A : Type 0} (f : A → Name) (xs : List A) (a b : A) → AreDistinct (map f xs) → Contains xs a → Contains xs b → f a ≡ f b →
    a ≡ b
one_named f xs a b h has had same =
    let p = position_of xs a has in
    let q = position_of xs b had in
    some_is (sym p.1 ∙ ap (slice_get xs) (stands_once f xs p.0 q.0 a b h p.1 q.1 same) ∙ q.1)

-- what passes a test is kept by it
kept : {A : Type 0} (test : A → Bool) (xs : List A) (x : A) → test x ≡ true → Contains xs x → Contains (filter test xs) x
kept test [] x t has = absurd (nothing_in x has)
kept {A} test (y ∷ xs) x t has = go (test y) refl (in_cases xs y x has) (kept test xs x t)
  where
    go : (b : Bool) → test y ≡ b → (y ≡ x) ⊎ Contains xs x → (Contains xs x → Contains (filter test xs) x) →
        Contains (cond b (y ∷ filter test xs) (filter test xs)) x
    go true e (inl same) more = subst (Contains (y ∷ filter test xs)) same (in_first (filter test xs) y)
    go true e (inr later) more = in_later (filter test xs) y x (more later)
    go false e (inl same) more = absurd (true≢false (sym t ∙ ap test (sym same) ∙ e))
    go false e (inr later) more = more later

each : {A : Type 0} (P : A → Type 0) (xs : List A) (x : A) → AllByRecursion P xs → Contains xs x → P x
each P [] x all has = absurd (nothing_in x has)
each P (y ∷ xs) x all has = ⊎_elim (λ same. subst P same all.0) (each P xs x all.1) (in_cases xs y x has)

differ_too : (names : List Name) → protocols.AreDistinct names → AreDistinct names
differ_too [] h = tt
differ_too (name ∷ names) h = (h.0, differ_too names h.1)

-- ---- a class has one `main`

module _ (core : Program) (is : IsCore core) where
  -- the class of this number has this name
  record Named (c : ℕ) (name : Name) : Type 0 where
    class : Class
    at : slice_get core.classes c ≡ Some class
    named : text_at core class.name ≡ name

  named_by : (c : ℕ) (name : Name) → class_text core c ≡ Some name → Named c name
  named_by c name e = go (slice_get core.classes c) refl
    where
      go : (o : Option Class) → slice_get core.classes c ≡ o → Named c name
      go None f = absurd (none_some (sym (ap (option_map (λ (k : Class). text_at core k.name)) f) ∙ e))
      go (Some k) f =
          record { class = k; at = f; named = some_is (sym (ap (option_map (λ (k : Class). text_at core k.name)) f) ∙ e) }

  one_class : (c d : ℕ) (name : Name) → Named c name → Named d name → c ≡ d
  one_class c d name h k =
      stands_once (λ (class : Class). text_at core class.name) core.classes c d h.class k.class
      (distinct_left (map (λ (class : Class). text_at core class.name) core.classes) (map (λ e. text_at core e.name) core.enums)
      is.named_apart.types)
      h.at k.at (h.named ∙ sym k.named)

  main_named : (m : Method) (kind : MethodKind) → IsOfKind core m kind → is_main kind ≡ true → text_at core m.name ≡ codes "main"
  main_named m kinds.Main h e = h.name
  main_named m kinds.Static h e = absurd (true≢false (sym e))
  main_named m kinds.Helper h e = absurd (true≢false (sym e))
  main_named m kinds.Protocol h e = absurd (true≢false (sym e))

  named_main : (m : Method) → Contains core.methods m → is_main m.kind ≡ true → text_at core m.name ≡ codes "main"
  named_main m there main = main_named m m.kind (each (IsMethod core) core.methods m is.methods there).kind main

  module _ (g : GlobalTree) (parts : List Part) (mains : List RoleMain) where
    one_main : (name : Name) (m n : Method) → IsMainOf g parts core mains name m → IsMainOf g parts core mains name n → m ≡ n
    one_main name m n h k =
        let its = named_by m.class name h.class in
        let same : n.class ≡ m.class = one_class n.class m.class name (named_by n.class name k.class) its in
        one_named (λ (o : Method). text_at core o.name) (filter (λ (o : Method). nat_eq o.class m.class) core.methods) m n
        (is.classes m.class its.class its.at).methods_apart
        (kept (λ (o : Method). nat_eq o.class m.class) core.methods m (eq-eqb m.class m.class refl) h.there)
        (kept (λ (o : Method). nat_eq o.class m.class) core.methods n (eq-eqb n.class m.class same) k.there)
        (named_main m h.there h.main ∙ sym (named_main n k.there k.main))

-- ---- the conditions

module _ (g : GlobalTree) (parts : List Part) (core : Program) (mains : List RoleMain) where
  one_other : protocols.AreDistinct (roles_in parts) → IsSingle (HasOther g parts core mains)
  one_other differ headed r q a b =
      let same : a.local ≡ b.local
      = one_named (λ (l : LocalTree). l.me) (protocols_in parts) a.local b.local (differ_too (roles_in parts) differ) a.there b.there
      (a.of_role ∙ sym b.of_role) in
      a.said ∙ ap (λ (l : LocalTree). refusal_at (codes "OtherProtocol") (start_of l.file) headed.role) same ∙ sym b.said

  one_session : IsSingle (IsOwnSession g parts core mains)
  one_session (Talks place call) r q h k = h ∙ sym k
  one_session (Makes place class) r q h k = absurd h

  made_so : {u v : Use} {r q : Refusal} → IsMadeElsewhere g parts core mains u r → IsMadeElsewhere g parts core mains v q → u ≡ v → r ≡ q
  made_so (elsewhere {name = n} {class = c} {place = p} is has says) (elsewhere {name = m} {class = d} {place = o} is' has' says') e =
      let one : c ≡ d = cc in
      let at : p ≡ o = cc in
      let same : n ≡ m = some_is (sym is ∙ ap (class_text core) one ∙ is') in
      says ∙ (λ i. refusal_at (codes "MadeElsewhere") (at i) (same i)) ∙ sym says'

  one_making : IsCore core → IsSingle (MakesNone g parts core mains)
  one_making is main r q a b =
      let same : a.method ≡ b.method = one_main core is g parts mains main.class a.method b.method a.is b.is in
      a.said ∙ ap (λ (m : Method). refusal_at (codes "NotMade") m.place main.role) same ∙ sym b.said

  pub single : IsCore core → protocols.AreDistinct (roles_in parts) → (k : Condition) (r s : Option Refusal) → Of g parts core mains k r →
      Of g parts core mains k s → r ≡ s
  single is differ Unplayed r s a b = one_answer (λ x c d h k. h.1 ∙ sym k.1) a b
  single is differ Stranger r s a b = one_answer (λ x c d h k. h.1 ∙ sym k.1) a b
  single is differ SharedMain r s a b = one_answer (λ x c d h k. h.1 ∙ sym k.1) a b
  single is differ NoProtocol r s a b = one_answer (λ x c d h k. h.1 ∙ sym k.1) a b
  single is differ OtherProtocol r s a b = one_answer (one_other differ) a b
  single is differ OwnSession r s a b = one_answer one_session a b
  single is differ MadeElsewhere r s a b = one_answer (λ u c d h k. made_so h k refl) a b
  single is differ NotMade r s a b = one_answer (one_making is) a b
