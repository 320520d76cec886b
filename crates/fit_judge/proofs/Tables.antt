-- Tables of names by which the code of a program is judged.
use Rattle.std.proofs.Common.{◌≡◌, ◌↔◌, ℕ, ◌+◌, ◌<◌, Bool, true, false, cond, List, [], ◌∷◌, ◌++◌, map, length, get_or}
use Rattle.std.proofs.Common.{take, drop, Option, Some, None, IsTrue, Contains, Decides, refl, sym, ap, ◌∙◌, subst, ⊎_elim, true≢false}
use Rattle.std.specs.Prelude.{option_map, option_and_then, unwrap_or, find, flat_map, if◌then◌else◌}
use Rattle.std.specs.Map.{update}
use Rattle.std.specs.Str.{bytes_eq}
use Rattle.std.proofs.lemmas.List.{at_drop_more, take_more, map-append, append-nil}
use Rattle.std.proofs.lemmas.Grind.{flat_map-append}
use Rattle.std.proofs.lemmas.Slice.Eq.{bytes_eq-Decides}
use Rattle.std.proofs.lemmas.Bool.Decides.{same_from_decides, Decides-or}
use Rattle.mg_text.specs.Call.{Name}
use Rattle.stm_acts.specs.Played.{role_class}
use Rattle.jv_core.specs.Tree.{Method, Program}
use Rattle.jv_core.specs.View.{method_of}
use Rattle.jv_core.specs.declared.program.CoreMethod.{CoreMethod}
use Rattle.fit_uses.specs.declared.usage.Use.{Use}
use Rattle.jv_core.specs.Lookup.{class_text, class_numbered, is_main}
use Rattle.vm_world_law.specs.declared.role.RoleMain.{RoleMain}
use Rattle.scr_judge.proofs.Members.{Contains-nil, Contains-cons_cases, Contains-first, Contains-later}
use Rattle.mg_fits.specs.Parts.{is_role_class, has_role_class, class_to_make, uses_of_method}
use Rattle.fit_judge.specs.inner.Making.{made_by}

-- one more `main` in front of others
module _ (core : Program) (main : RoleMain) (rest : List RoleMain) (old : Name → Option ℕ) (w : Option ℕ)
    (h : (q : Name) → old q ≡ made_by core rest q) (number : w ≡ class_numbered core (role_class main.role)) where
  made_when : (b : Bool) (q : Name) → cond b w (old q) ≡
      option_and_then (λ (role : Name). class_numbered core (role_class role))
      (option_map (λ (m : RoleMain). m.role) (cond b (Some main) (find (λ (m : RoleMain). bytes_eq m.class q) rest)))
  made_when true q = number
  made_when false q = h q

  made_front : (q : Name) → update bytes_eq old main.class w q ≡ made_by core (main ∷ rest) q
  made_front q = made_when (bytes_eq main.class q) q

-- a table of the `main`s behind an index, with the one at the index
pub made_more : (core : Program) (mains : List RoleMain) (i j : ℕ) (main : RoleMain) (old new : Name → Option ℕ) (class : Name) (w : Option ℕ) →
    j ≡ i + 1 → i < length mains → main ≡ get_or mains i main → ((q : Name) → old q ≡ made_by core (drop j mains) q) →
    class ≡ main.class → w ≡ class_numbered core (role_class main.role) → ((q : Name) → new q ≡ update bytes_eq old class w q) →
    (q : Name) → new q ≡ made_by core (drop i mains) q
made_more core mains i j main old new class w more within is h same number e q =
    e q ∙ ap (λ (c : Name). update bytes_eq old c w q) same
    ∙ made_front core main (drop j mains) old w h number q
    ∙ sym (at_drop_more (λ (ms : List RoleMain). made_by core ms q) mains i main within
    ∙ ap (λ (y : RoleMain). made_by core (y ∷ drop (i + 1) mains) q) (sym is)
    ∙ ap (λ k. made_by core (main ∷ drop k mains) q) (sym more))

-- the class of whose objects a method may make one
module _ (core : Program) (mains : List RoleMain) where
  abbrev make_of : Bool → Option Name → Option ℕ
  make_of main text =
      if main
      then option_and_then (λ (role : Name). class_numbered core (role_class role))
      (option_and_then (λ (name : Name). option_map (λ (m : RoleMain). m.role) (find (λ (m : RoleMain). bytes_eq m.class name) mains)) text)
      else None

  pub make_named : (m : Method) (name : Name) → is_main m.kind ≡ true → class_text core m.class ≡ Some name →
      class_to_make core mains m ≡ made_by core mains name
  make_named m name e t = ap (λ b. make_of b (class_text core m.class)) e ∙ ap (make_of true) t

  pub make_nothing : (m : Method) → is_main m.kind ≡ false → class_to_make core mains m ≡ None
  make_nothing m e = ap (λ b. make_of b (class_text core m.class)) e

  pub make_unnamed : (m : Method) → class_text core m.class ≡ None → class_to_make core mains m ≡ None
  make_unnamed m t = ap (make_of (is_main m.kind)) t ∙ go (is_main m.kind)
    where
      go : (b : Bool) → make_of b None ≡ None
      go true = refl
      go false = refl

-- the name is that of the class of a role exactly where a list of such names has it
role_class_decides : (roles : List Name) (name : Name) → Decides (is_role_class roles name) (Contains (map role_class roles) name)
role_class_decides [] name = (λ e. absurd (true≢false (sym e)), λ h. absurd (Contains-nil name h))
role_class_decides (r ∷ rs) name =
    let d = Decides-or (bytes_eq (role_class r) name) (is_role_class rs name) (bytes_eq-Decides (role_class r) name)
    (role_class_decides rs name) in (
      λ e. ⊎_elim (λ same. subst (Contains (role_class r ∷ map role_class rs)) same (Contains-first (map role_class rs) (role_class r)))
          (λ more. Contains-later (map role_class rs) (role_class r) name more) (d.0 e),
      λ h. d.1 (Contains-cons_cases (map role_class rs) (role_class r) name h),
    )

pub class_held : (roles : List Name) (name : Name) (b : Bool) → (IsTrue b ↔ Contains (map role_class roles) name) →
    b ≡ is_role_class roles name
class_held roles name b h =
    same_from_decides {P = Contains (map role_class roles) name} b (is_role_class roles name) h (role_class_decides roles name)

module _ (roles : List Name) (core : Program) (class : ℕ) where
  pub generated_named : (name : Name) (b : Bool) → class_text core class ≡ Some name → (IsTrue b ↔ Contains (map role_class roles) name) →
      b ≡ has_role_class roles core class
  generated_named name b t h =
      class_held roles name b h ∙ sym (ap (λ o. unwrap_or (option_map (is_role_class roles) o) false) t)

  pub generated_unnamed : class_text core class ≡ None → false ≡ has_role_class roles core class
  generated_unnamed t = sym (ap (λ o. unwrap_or (option_map (is_role_class roles) o) false) t)

-- the methods up to an index, and the one at it
pub methods_more : (all : List CoreMethod) (i : ℕ) (m : CoreMethod) → i < length all → m ≡ get_or all i m →
    map method_of (take (i + 1) all) ≡ map method_of (take i all) ++ method_of m ∷ []
methods_more all i m within is =
    ap (map method_of) (take_more all i m within ∙ ap (λ (y : CoreMethod). take i all ++ y ∷ []) (sym is))
    ∙ map-append method_of (take i all) (m ∷ [])

-- the uses of some methods but for the makings
module _ (roles : List Name) (core : Program) (mains : List RoleMain) where
  abbrev uses_at : Method → List Use
  uses_at m = if has_role_class roles core m.class then [] else uses_of_method core mains m

  abbrev pub uses_to : List Method → List Use
  uses_to ms = flat_map uses_at ms

  uses_more : (ms : List Method) (m : Method) → uses_to (ms ++ m ∷ []) ≡ uses_to ms ++ uses_at m
  uses_more ms m = flat_map-append uses_at ms (m ∷ []) ∙ ap (λ us. uses_to ms ++ us) (append-nil (uses_at m))

  module _ (all : List CoreMethod) (i : ℕ) (m : CoreMethod) (within : i < length all) (is : m ≡ get_or all i m) where
    pub uses_past : (us : List Use) → us ≡ uses_to (map method_of (take i all)) → true ≡ has_role_class roles core (method_of m).class →
        us ≡ uses_to (map method_of (take (i + 1) all))
    uses_past us h e =
        h ∙ sym (ap uses_to (methods_more all i m within is) ∙ uses_more (map method_of (take i all)) (method_of m)
        ∙ ap (λ b. uses_to (map method_of (take i all)) ++ (if b then [] else uses_of_method core mains (method_of m))) (sym e)
        ∙ append-nil (uses_to (map method_of (take i all))))

    pub uses_with : (us now : List Use) → us ≡ uses_to (map method_of (take i all)) →
        false ≡ has_role_class roles core (method_of m).class → now ≡ us ++ uses_of_method core mains (method_of m) →
        now ≡ uses_to (map method_of (take (i + 1) all))
    uses_with us now h e n =
        n ∙ ap (λ (vs : List Use). vs ++ uses_of_method core mains (method_of m)) h
        ∙ sym (ap uses_to (methods_more all i m within is) ∙ uses_more (map method_of (take i all)) (method_of m)
        ∙ ap (λ b. uses_to (map method_of (take i all)) ++ (if b then [] else uses_of_method core mains (method_of m))) (sym e))
