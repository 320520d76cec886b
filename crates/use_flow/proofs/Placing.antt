-- Where a method leads that is found at its place, or whose contexts say that it isn't offered.
use Rattle.std.proofs.Common.{◌≡◌, ℕ, zero, suc, ◌<◌, ◌≤◌, Bool, true, false, List, [], ◌∷◌, length, get_or, map, position, Option, Some, None}
use Rattle.std.proofs.Common.{slice_get, is_some, option_map, option_and_then, Contains, refl, sym, ap, ◌∙◌, subst, arith, ⊎_elim}
use Rattle.std.specs.Prelude.{if◌then◌else◌, nat_eq, ◌||◌}
use Rattle.std.specs.List.{AllByRecursion, HoldsAt, list_any}
use Rattle.std.proofs.lemmas.Bool.Decides.{nat_tests}
use Rattle.std.proofs.lemmas.Option.{slice_get-map, slice_get_read, slice_get-get_or, slice_get_past}
use Rattle.std.specs.Str.{bytes_eq}
use Rattle.std.proofs.lemmas.Slice.Eq.{bytes_eq-Decides}
use Rattle.mg_text.specs.Call.{Name}
use Rattle.ts_tree.specs.declared.parts.Method.{Method as KeptMethod}
use Rattle.ts_tree.specs.Typestate.{Method, State, Target, Typestate}
use Rattle.ts_tree.specs.Calls.{offered, offered_in}
use Rattle.ts_tree.specs.Proper.{AreDistinct, IsProper, IsState}
use Rattle.ts_tree.specs.View.{method_of, state_of}
use Rattle.ts_tree.specs.declared.parts.State.{State as KeptState}
use Rattle.jv_core.specs.Lookup.{text_at}
use Rattle.use_rules.specs.declared.key.Context.{Context}
use Rattle.use_rules.specs.declared.key.Context.TheVariants as contexts
use Rattle.use_rules.specs.Elements.{target_at}
use Rattle.use_rules.specs.Keys.{same_context, typestate_of, contexts_in}
use Rattle.use_rules.proofs.Keys.{contains_first, contains_later, contains_cases, nothing_in}
use Rattle.use_rules.proofs.Knowing.{protocol_there}
use Rattle.use_flow.specs.declared.targets.MethodKey.{MethodKey}
use Rattle.use_rules.specs.Fits.{reached_set}
use Rattle.mg_sets.specs.Sets.{has}
use Rattle.mg_text.proofs.Numbered.{list_any-from_None}
use Rattle.use_flow.specs.View.{reached_of}
use Rattle.use_flow.specs.inner.Followed.{Followed}
use Rattle.use_flow.specs.inner.Targets.{IsTold}

true_false : true ≡ false → ⊥
true_false h = cc

same_name : (x y : Name) → bytes_eq x y ≡ true → x ≡ y
same_name x y h = (bytes_eq-Decides x y).0 h

name_in : (ms : List Method) (i : ℕ) (m : Method) → slice_get ms i ≡ Some m → Contains (map (λ m. m.name) ms) m.name
name_in [] i m at = let no : ⊥ = cc in absurd no
name_in (x ∷ ms) zero m at = let e : x ≡ m = cc in subst (λ (y : Method). Contains (x.name ∷ map (λ m. m.name) ms) y.name) e
    (contains_first x.name (map (λ m. m.name) ms))
name_in (x ∷ ms) (suc i) m at = contains_later x.name m.name (map (λ m. m.name) ms) (name_in ms i m at)

behind : (x : Method) (ms : List Method) (m : Method) (name : Name) (b : Bool) → bytes_eq x.name name ≡ b → offered_in ms name ≡ Some m →
    (bytes_eq x.name name ≡ true → ⊥) → offered_in (x ∷ ms) name ≡ Some m
behind x ms m name false e r ne = ap (λ b. if b then Some x else offered_in ms name) e ∙ r
behind x ms m name true e r ne = absurd (ne e)

-- where no two methods have one name, the one at a place is found by its name
at_place : (ms : List Method) (i : ℕ) (m : Method) (name : Name) → slice_get ms i ≡ Some m → AreDistinct (map (λ m. m.name) ms) →
    bytes_eq m.name name ≡ true → offered_in ms name ≡ Some m
at_place [] i m name at apart h = let no : ⊥ = cc in absurd no
at_place (x ∷ ms) zero m name at apart h =
    let e : x ≡ m = cc in
    ap (λ b. if b then Some x else offered_in ms name) (ap (λ (y : Method). bytes_eq y.name name) e ∙ h) ∙ ap Some e
at_place (x ∷ ms) (suc i) m name at apart h = behind x ms m name (bytes_eq x.name name) refl
    (at_place ms i m name at apart.1 h)
    (λ e. apart.0 (subst (Contains (map (λ m. m.name) ms)) (same_name m.name name h ∙ sym (same_name x.name name e)) (name_in ms i m at)))

pub near : (ms : List KeptMethod) (i : ℕ) (m : KeptMethod) (name : Name) → i < length ms → m ≡ get_or ms i m →
    AreDistinct (map (λ m. m.name) (map method_of ms)) → bytes_eq m.name name ≡ true → Some (method_of m) ≡ offered_in (map method_of ms) name
near ms i m name lt at apart h = sym (at_place (map method_of ms) i (method_of m) name
    (slice_get-map method_of ms i ∙ ap (option_map method_of) (slice_get_read ms (length ms) i m refl lt at)) apart h)

state_proper : (n : ℕ) (ss : List State) (q : ℕ) (s : State) → AllByRecursion (IsState n) ss → slice_get ss q ≡ Some s → IsState n s
state_proper n [] q s h at = let no : ⊥ = cc in absurd no
state_proper n (x ∷ ss) zero s h at = let e : x ≡ s = cc in subst (IsState n) e h.0
state_proper n (x ∷ ss) (suc q) s h at = state_proper n ss q s h.1 at

item_read : {A : Type 0} (xs : List A) (i : ℕ) (x : A) → (i < length xs) × HoldsAt (λ y. x ≡ y) xs i → slice_get xs i ≡ Some x
item_read xs i x h = slice_get-get_or xs i x h.0 ∙ ap Some (sym (h.1 x))

-- the methods of a state, or none
module _ (ss xs : List KeptState) (q : ℕ) (same : xs ≡ ss) where
  module _ (x : KeptState) (ms : List KeptMethod) (at : (q < length xs) × HoldsAt (λ y. x ≡ y) xs q) (is : ms ≡ x.methods.items) where
    state_there : slice_get (map state_of ss) q ≡ Some (state_of x)
    state_there = slice_get-map state_of ss q ∙ ap (option_map state_of) (ap (λ (ys : List KeptState). slice_get ys q) (sym same) ∙
        item_read xs q x at)

    pub distinct_at : IsProper (map state_of ss) → AreDistinct (map (λ m. m.name) (map method_of ms))
    distinct_at proper = subst (λ (ys : List KeptMethod). AreDistinct (map (λ m. m.name) (map method_of ys))) (sym is)
        (state_proper (length (map state_of ss)) (map state_of ss) q (state_of x) proper.each state_there).methods

    pub offered_at : (t : Typestate) (named : Name) → record { name = named; states = map state_of ss } ≡ t → (name : Name) →
        offered t q name ≡ offered_in (map method_of ms) name
    offered_at t named view name =
        ap (λ (t : Typestate). offered t q name) (sym view)
        ∙ ap (λ o. option_and_then (λ (s : State). offered_in s.methods name) o) state_there
        ∙ ap (λ (ys : List KeptMethod). offered_in (map method_of ys) name) (sym is)

  pub offered_past : (t : Typestate) (named : Name) → record { name = named; states = map state_of ss } ≡ t → length xs ≤ q →
      (name : Name) → offered t q name ≡ None
  offered_past t named view past name =
      ap (λ (t : Typestate). offered t q name) (sym view)
      ∙ ap (λ o. option_and_then (λ (s : State). offered_in s.methods name) o)
      (slice_get-map state_of ss q ∙ ap (option_map state_of) (ap (λ (ys : List KeptState). slice_get ys q) (sym same) ∙
      slice_get_past xs q past))

nat_self : (n : ℕ) → nat_eq n n ≡ true
nat_self n = grind (arith, nat_tests)

same_self : (x : Context) → same_context x x ≡ true
same_self (contexts.Plain m) = nat_self m
same_self (contexts.Protocol c q m) = rw (nat_self c, nat_self q, nat_self m) refl

any_later : (a b : Bool) → b ≡ true → (a || b) ≡ true
any_later true b e = refl
any_later false b e = e

any_there : (x : Context) (cs : List Context) → Contains cs x → list_any (same_context x) cs ≡ true
any_there x [] h = absurd (nothing_in x h)
any_there x (y ∷ cs) h = ⊎_elim
    (λ e. ap (λ b. b || list_any (same_context x) cs) (ap (same_context x) (sym e) ∙ same_self x))
    (λ i. any_later (same_context x y) (list_any (same_context x) cs) (any_there x cs i))
    (contains_cases y x cs h)

there : (x : Context) (cs : List Context) → Contains cs x → is_some (position (same_context x) cs) ≡ false → ⊥
there x cs h absent = go (position (same_context x) cs) refl
  where
    go : (o : Option ℕ) → position (same_context x) cs ≡ o → ⊥
    go (Some i) e = true_false (sym (ap is_some e) ∙ absent)
    go None e = true_false (sym (any_there x cs h) ∙ list_any-from_None (same_context x) cs e)

-- a state that calls lead to has a context for each protocol method that it offers
pub untold : (s : Followed) (key : MethodKey) (q : ℕ) → IsTold s key q → s.contexts ≡ contexts_in s.program (reached_of s.held) →
    is_some (position (same_context (contexts.Protocol key.class q key.number)) s.contexts) ≡ false →
    None ≡ target_at (typestate_of s.program key.class) (text_at s.program key.name.0) q
untold s key q told listed absent = go (offered (typestate_of s.program key.class) q (text_at s.program key.name.0)) refl
  where
    go : (o : Option Method) → offered (typestate_of s.program key.class) q (text_at s.program key.name.0) ≡ o →
        None ≡ target_at (typestate_of s.program key.class) (text_at s.program key.name.0) q
    go None e = sym (ap (λ (o : Option Method). elim o as (λ _. Option Target) [ None ↦ None | Some k ↦ Some k.target ]) e)
    go (Some k) e =
        let has_one : Contains (contexts_in s.program (reached_of s.held)) (contexts.Protocol told.method.class q key.number) =
        protocol_there s.program (reached_of s.held) key.number q told.method told.at told.kind
        (ap (λ c. has (reached_set s.program (reached_of s.held) c) q) told.class ∙ told.reached)
        (ap (λ c. is_some (offered (typestate_of s.program c) q (text_at s.program told.method.name))) told.class
        ∙ ap (λ n. is_some (offered (typestate_of s.program key.class) q (text_at s.program n))) told.name
        ∙ ap is_some e) in
        absurd (there (contexts.Protocol key.class q key.number) s.contexts
        (subst (λ c. Contains s.contexts (contexts.Protocol c q key.number)) told.class
        (subst (λ cs. Contains cs (contexts.Protocol told.method.class q key.number)) (sym listed) has_one)) absent)

pub ruleset placing = (near)
