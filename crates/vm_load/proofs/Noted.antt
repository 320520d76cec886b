-- One more member in the table of the first ones.
use Rattle.std.proofs.Common.{◌≡◌, ℕ, ◌+◌, Bool, true, false, cond, not, ◌&&◌, List, [], ◌∷◌, ◌++◌, length, Option, Some, None, position}
use Rattle.std.proofs.Common.{if◌then◌else◌, option_map, is_some, string_bytes, refl, sym, ap, ◌∙◌, arith, length-append}
use Rattle.std.specs.Bool.{beq}
use Rattle.std.specs.List.{position_or_len}
use Rattle.std.specs.Str.{bytes_eq}
use Rattle.std.proofs.lemmas.Bool.Decides.{nat_tests}
use Rattle.std.proofs.lemmas.List.Folds.{position_or_len_push}
use Rattle.std.proofs.lemmas.Slice.Eq.{bytes_eq-Decides}
use Rattle.mg_text.proofs.Numbered.{position-push}
use Rattle.vm_model.specs.Links.{Declared}
use Rattle.vm_load.specs.declared.numbers.Key.{Key}
use Rattle.vm_load.specs.contracts.numbers.KeyPartialEq.TheImpl as key
use Rattle.vm_load.specs.Firsts.{IsKey, HasFirsts, is_found_by}

abbrev pub key_eq : Key → Key → Bool
key_eq = (key.ghosts).eq

-- what doesn't pass at the end changes nothing, and what was found stays
push_other : {X : Type 0} (p : X → Bool) (xs : List X) (y : X) → p y ≡ false → position p (xs ++ y ∷ []) ≡ position p xs
push_other p xs y h =
    let push = position_or_len_push p xs y in
    let len = length-append xs (y ∷ []) in
    grind (arith, nat_tests)

push_found : {X : Type 0} (p : X → Bool) (xs : List X) (y : X) (n : ℕ) → position p xs ≡ Some n → position p (xs ++ y ∷ []) ≡ Some n
push_found p xs y n h =
    let push = position_or_len_push p xs y in
    let len = length-append xs (y ∷ []) in
    grind (arith, nat_tests)

pass_as_one : {X : Type 0} (p q : X → Bool) → ((x : X) → p x ≡ q x) → (xs : List X) → position_or_len p xs ≡ position_or_len q xs
pass_as_one p q e [] = refl
pass_as_one p q e (x ∷ xs) = ap (λ b. cond (not b) (1 + position_or_len p xs) 0) (e x) ∙ ap (λ n. cond (not (q x)) (1 + n) 0)
    (pass_as_one p q e xs)

-- a key finds what its own member's key is equal to
shape : (a b s t : Bool) → (a && (b && beq s t)) ≡ ((a && b) && (if t then s else not s))
shape true true true true = refl
shape true true true false = refl
shape true true false true = refl
shape true true false false = refl
shape true false s true = refl
shape true false s false = refl
shape false b s t = refl

equal_found : (k q : Key) (d : Declared) → IsKey k d.name d.descriptor d.is_static → key_eq k q ≡ is_found_by q d
equal_found k q d h =
    shape (bytes_eq (string_bytes k.name) (string_bytes q.name)) (bytes_eq (string_bytes k.descriptor) (string_bytes q.descriptor))
    k.is_static q.is_static
    ∙ ap (λ n. (bytes_eq n (string_bytes q.name) && bytes_eq (string_bytes k.descriptor) (string_bytes q.descriptor)) &&
    (if q.is_static then k.is_static else not k.is_static)) h.name_is
    ∙ ap (λ n. (bytes_eq d.name (string_bytes q.name) && bytes_eq n (string_bytes q.descriptor)) &&
    (if q.is_static then k.is_static else not k.is_static)) h.descriptor_is
    ∙ ap (λ s. (bytes_eq d.name (string_bytes q.name) && bytes_eq d.descriptor (string_bytes q.descriptor)) &&
    (if q.is_static then s else not s)) h.kind_is

both : (a b : Bool) → (a && b) ≡ true → (a ≡ true) × (b ≡ true)
both true b h = (refl, h)
both false b h = absurd cc

kind_same : (s t : Bool) → (if t then s else not s) ≡ true → s ≡ t
kind_same true true h = refl
kind_same false true h = absurd cc
kind_same true false h = absurd cc
kind_same false false h = refl

-- keys that find one member find the same
same_found : (k q : Key) (d : Declared) → IsKey k d.name d.descriptor d.is_static → is_found_by q d ≡ true → (x : Declared) →
    is_found_by q x ≡ is_found_by k x
same_found k q d h found x =
    let outer = both (bytes_eq d.name (string_bytes q.name) && bytes_eq d.descriptor (string_bytes q.descriptor))
    (if q.is_static then d.is_static else not d.is_static) found in
    let inner = both (bytes_eq d.name (string_bytes q.name)) (bytes_eq d.descriptor (string_bytes q.descriptor)) outer.0 in
    let name : string_bytes q.name ≡ string_bytes k.name = sym ((bytes_eq-Decides d.name (string_bytes q.name)).0 inner.0) ∙ sym h.name_is
    in
    let descriptor : string_bytes q.descriptor ≡ string_bytes k.descriptor =
    sym ((bytes_eq-Decides d.descriptor (string_bytes q.descriptor)).0 inner.1) ∙ sym h.descriptor_is in
    let kind : q.is_static ≡ k.is_static = sym (kind_same d.is_static q.is_static outer.1) ∙ sym h.kind_is in
    ap (λ n. (bytes_eq x.name n && bytes_eq x.descriptor (string_bytes q.descriptor)) &&
    (if q.is_static then x.is_static else not x.is_static)) name
    ∙ ap (λ n. (bytes_eq x.name (string_bytes k.name) && bytes_eq x.descriptor n) && (if q.is_static then x.is_static else not x.is_static))
    descriptor
    ∙ ap (λ s. (bytes_eq x.name (string_bytes k.name) && bytes_eq x.descriptor (string_bytes k.descriptor)) &&
    (if s then x.is_static else not x.is_static)) kind

position_as_one : {X : Type 0} (p q : X → Bool) → ((x : X) → p x ≡ q x) → (xs : List X) → position p xs ≡ position q xs
position_as_one p q e xs = let same = pass_as_one p q e xs in grind (arith, nat_tests)

module _ (find : Key → Option ℕ) (ds : List Declared) (h : HasFirsts find ds) (k : Key) (d : Declared)
    (own : IsKey k d.name d.descriptor d.is_static) where
  -- the member's key is new
  new_each : find k ≡ None → (q : Key) (b : Bool) → is_found_by q d ≡ b → cond b (Some (length ds)) (find q) ≡ position (is_found_by q)
      (ds ++ d ∷ [])
  new_each none q true e =
      let absent : position (is_found_by q) ds ≡ None =
      position_as_one (is_found_by q) (is_found_by k) (same_found k q d own e) ds ∙ sym (h.each k) ∙ none in
      sym (position-push (is_found_by q) ds d absent e)
  new_each none q false e = h.each q ∙ sym (push_other (is_found_by q) ds d e)

  pub noted_new : find k ≡ None → (after : Key → Option ℕ) → ((q : Key) → after q ≡ cond (key_eq k q) (Some (length ds)) (find q)) →
      HasFirsts after (ds ++ d ∷ [])
  noted_new none after e = record {
    each = λ q. e q ∙ ap (λ b. cond b (Some (length ds)) (find q)) (equal_found k q d own) ∙ new_each none q (is_found_by q d) refl;
  }

  -- a member before has the key
  old_each : (n : ℕ) → find k ≡ Some n → (q : Key) (b : Bool) → is_found_by q d ≡ b → find q ≡ position (is_found_by q) (ds ++ d ∷ [])
  old_each n old q true e =
      let there : position (is_found_by q) ds ≡ Some n =
      position_as_one (is_found_by q) (is_found_by k) (same_found k q d own e) ds ∙ sym (h.each k) ∙ old in
      h.each q ∙ there ∙ sym (push_found (is_found_by q) ds d n there)
  old_each n old q false e = h.each q ∙ sym (push_other (is_found_by q) ds d e)

  pub noted_old : (n : ℕ) → find k ≡ Some n → HasFirsts find (ds ++ d ∷ [])
  noted_old n old = record { each = λ q. old_each n old q (is_found_by q d) refl }

  -- what a look-up says of the key
  pub noted_there : {X : Type 0} (f : X → ℕ) (r : Option X) → option_map f r ≡ find k → is_some r ≡ true → HasFirsts find (ds ++ d ∷ [])
  noted_there f None e there = absurd cc
  noted_there f (Some x) e there = noted_old (f x) (sym e)

  pub noted_absent : {X : Type 0} (f : X → ℕ) (r : Option X) → option_map f r ≡ find k → is_some r ≡ false → (after : Key → Option ℕ) →
      ((q : Key) → after q ≡ cond (key_eq k q) (Some (length ds)) (find q)) → HasFirsts after (ds ++ d ∷ [])
  noted_absent f None e absent after u = noted_new (sym e) after u
  noted_absent f (Some x) e absent after u = absurd cc
