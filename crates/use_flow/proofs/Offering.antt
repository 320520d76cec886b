-- What a table of offers has after one more, and which contexts it lists.
use Rattle.std.proofs.Common.{◌≡◌, ◌≢◌, ℕ, zero, suc, ◌+◌, ◌<◌, ◌≤◌, Bool, true, false, cond, List, [], ◌∷◌, ◌++◌, length, get_or, set, drop}
use Rattle.std.proofs.Common.{map, position, Option, Some, None, slice_get, is_some, refl, sym, ap, ◌∙◌, subst, arith, append_assoc}
use Rattle.std.proofs.Common.{length-append, length-set, inl, inr, ◌⊎◌, ⊎_elim}
use Rattle.std.specs.Prelude.{Contains, if◌then◌else◌, option_and_then}
use Rattle.std.specs.List.{AllByRecursion, position_or_len}
use Rattle.std.specs.Str.{bytes_eq}
use Rattle.std.proofs.lemmas.Option.{slice_get-map, get_or_from_slice_get, slice_get_past}
use Rattle.std.proofs.lemmas.Bool.Decides.{nat_tests}
use Rattle.std.proofs.lemmas.List.{at_drop_more, at_drop_all, get_or-set_other, get_or-set_same, get_or_past, map-set, map-append}
use Rattle.std.proofs.Math.ListN.{length-map}
use Rattle.std.proofs.lemmas.List.Folds.{position_or_len_push}
use Rattle.std.proofs.lemmas.List.Quantifiers.{position-Some}
use Rattle.std.proofs.lemmas.Slice.Eq.{bytes_eq-Decides}
use Rattle.mg_text.specs.Call.{Name}
use Rattle.mg_text.specs.Interned.{with_text}
use Rattle.mg_text.proofs.Numbered.{position-push_text}
use Rattle.mg_sets.specs.Sets.{has, members_from, members}
use Rattle.ts_tree.specs.declared.parts.Method.{Method as KeptMethod}
use Rattle.ts_tree.specs.Typestate.{Method, State, Typestate}
use Rattle.ts_tree.specs.Calls.{offered, offered_in}
use Rattle.ts_tree.specs.Proper.{AreDistinct, IsProper, IsState}
use Rattle.ts_tree.specs.View.{method_of, state_of}
use Rattle.use_rules.specs.declared.key.Context.{Context}
use Rattle.use_rules.specs.declared.key.Context.TheVariants as contexts
use Rattle.use_rules.specs.Keys.{in_states, offering_states, reached_states, typestate_of, at_end}
use Rattle.use_flow.specs.inner.Entering.{members_among, entered_in}
use Rattle.use_flow.specs.inner.Offering.{by_methods, by_states, numbered, states_of, IsOfferedBy, AreOffers, offers_at}
use Rattle.use_flow.specs.declared.offers.Offer.{Offer}
use Rattle.use_flow.specs.declared.offers.Offers.{Offers}
use Rattle.jv_core.specs.Tree.{Class, Program}
use Rattle.use_rules.proofs.Keys.{contains_first, contains_later}
use Rattle.use_elements.proofs.Rests.{append_nil}

some_is : {A : Type 0} (x y : A) → Some x ≡ Some y → x ≡ y
some_is x y h = cc

none_some : {A : Type 0} (x : A) → None ≡ Some x → ⊥
none_some x h = cc

true_false : true ≡ false → ⊥
true_false h = cc

same_name : (x y : Name) → bytes_eq x y ≡ true → x ≡ y
same_name x y h = (bytes_eq-Decides x y).0 h

name_is : (x : Name) → bytes_eq x x ≡ true
name_is x = (bytes_eq-Decides x x).1 refl

from_zero : (k : ℕ) → k ≡ k + 0
from_zero k = omega arith

from_suc : (k j : ℕ) → suc k + j ≡ k + suc j
from_suc k j = omega arith

zero_from : (j : ℕ) → 0 + j ≡ j
zero_from j = omega arith

last_item : (xs : List (List ℕ)) (x : List ℕ) → get_or (xs ++ x ∷ []) (length xs) [] ≡ x
last_item [] x = refl
last_item (y ∷ xs) x = last_item xs x

before_last : (xs : List (List ℕ)) (x : List ℕ) (j : ℕ) → j < length xs → get_or (xs ++ x ∷ []) j [] ≡ get_or xs j []
before_last [] x j lt = absurd (omega (arith, lt))
before_last (y ∷ xs) x zero lt = refl
before_last (y ∷ xs) x (suc j) lt = before_last xs x j (omega (arith, lt))

abbrev no_states : List State
no_states = []

nothing_there : (j : ℕ) → slice_get no_states j ≡ None
nothing_there j = slice_get_past no_states j (omega arith)

no_member : (j : ℕ) → has [] j ≡ false
no_member j = get_or_past [] j false (omega arith)

swapped : (x y : Name) → bytes_eq x y ≡ false → bytes_eq y x ≡ false
swapped x y h = go (bytes_eq y x) refl
  where
    go : (b : Bool) → bytes_eq y x ≡ b → bytes_eq y x ≡ false
    go false e = e
    go true e = absurd (true_false (sym (name_is x) ∙ ap (bytes_eq x) (sym (same_name y x e)) ∙ h))

-- One more state for a name.

module _ (ns ns' : List Name) (ls : List (List ℕ)) (n : Name) (q i : ℕ) (even : length ls ≡ length ns) (texts : ns' ≡ with_text ns n)
    (at : position (bytes_eq n) ns' ≡ Some i) where
  abbrev one : Name → List ℕ
  one m = if bytes_eq n m then q ∷ [] else []

  -- the name had its number, or is the last from now on
  was : (i < length ns) → ns' ≡ ns
  was lt = go (position (bytes_eq n) ns) refl
    where
      go : (o : Option ℕ) → position (bytes_eq n) ns ≡ o → ns' ≡ ns
      go (Some j) e = texts ∙ ap (λ o. if is_some o then ns else ns ++ n ∷ []) e
      go None e =
          let long : ns' ≡ ns ++ n ∷ [] = texts ∙ ap (λ o. if is_some o then ns else ns ++ n ∷ []) e in
          let last : i ≡ length ns = some_is i (length ns) (sym at ∙ ap (position (bytes_eq n)) long ∙ position-push_text ns n e) in
          absurd (omega (arith, lt, last))

  record IsNew : Type 0 where
    pub absent : position (bytes_eq n) ns ≡ None
    pub long : ns' ≡ ns ++ n ∷ []
    pub last : i ≡ length ns

  is-new : length ns ≤ i → IsNew
  is-new le = go (position (bytes_eq n) ns) refl
    where
      go : (o : Option ℕ) → position (bytes_eq n) ns ≡ o → IsNew
      go (Some j) e =
          let same : ns' ≡ ns = texts ∙ ap (λ o. if is_some o then ns else ns ++ n ∷ []) e in
          let found = position-Some (bytes_eq n) ns i n (ap (position (bytes_eq n)) (sym same) ∙ at) in
          let lt : i < length ns = found.0 in
          absurd (omega (arith, lt, le))
      go None e =
          let more : ns' ≡ ns ++ n ∷ [] = texts ∙ ap (λ o. if is_some o then ns else ns ++ n ∷ []) e in
          record { absent = e; long = more; last = some_is i (length ns) (sym at ∙ ap (position (bytes_eq n)) more ∙ position-push_text ns n e) }

  -- a list that there was got longer
  known_other : (m : Name) → bytes_eq n m ≡ false → ns' ≡ ns → (o : Option ℕ) → position (bytes_eq m) ns ≡ o →
      numbered (set ls i (get_or ls i [] ++ q ∷ [])) o ≡ numbered ls o
  known_other m ne same None e = refl
  known_other m ne same (Some j) e = get_or-set_other ls i j (get_or ls i [] ++ q ∷ []) [] (λ h. apart (sym h))
    where
      apart : i ≢ j
      apart h =
          let mine = position-Some (bytes_eq n) ns i n (ap (position (bytes_eq n)) (sym same) ∙ at) in
          let other = position-Some (bytes_eq m) ns j n e in
          let n_is : n ≡ get_or ns i n = same_name n (get_or ns i n) mine.1 in
          let m_is : m ≡ get_or ns j n = same_name m (get_or ns j n) other.1 in
          let equal : n ≡ m = n_is ∙ ap (λ k. get_or ns k n) h ∙ sym m_is in
          true_false (sym (name_is n) ∙ ap (bytes_eq n) equal ∙ ne)

  pub known : i < length ls → (m : Name) → numbered (set ls i (get_or ls i [] ++ q ∷ [])) (position (bytes_eq m) ns')
      ≡ numbered ls (position (bytes_eq m) ns) ++ one m
  known lt m = go (bytes_eq n m) refl
    where
      same : ns' ≡ ns
      same = was (let e : length ls ≡ length ns = even in omega (arith, lt, e))

      go : (b : Bool) → bytes_eq n m ≡ b → numbered (set ls i (get_or ls i [] ++ q ∷ [])) (position (bytes_eq m) ns')
          ≡ numbered ls (position (bytes_eq m) ns) ++ (if bytes_eq n m then q ∷ [] else [])
      go true e =
          let here : position (bytes_eq m) ns' ≡ Some i = ap (λ x. position (bytes_eq x) ns') (sym (same_name n m e)) ∙ at in
          let before : position (bytes_eq m) ns ≡ Some i = ap (position (bytes_eq m)) (sym same) ∙ here in
          ap (numbered (set ls i (get_or ls i [] ++ q ∷ []))) here
          ∙ get_or-set_same ls i (get_or ls i [] ++ q ∷ []) [] lt
          ∙ ap (λ x. x ++ q ∷ []) (ap (numbered ls) (sym before))
          ∙ ap (λ b. numbered ls (position (bytes_eq m) ns) ++ (if b then q ∷ [] else [])) (sym e)
      go false e =
          ap (λ x. numbered (set ls i (get_or ls i [] ++ q ∷ [])) (position (bytes_eq m) x)) same
          ∙ known_other m e same (position (bytes_eq m) ns) refl
          ∙ sym (append_nil (numbered ls (position (bytes_eq m) ns)))
          ∙ ap (λ b. numbered ls (position (bytes_eq m) ns) ++ (if b then q ∷ [] else [])) (sym e)

  -- a list was added
  new_other : (m : Name) → bytes_eq n m ≡ false → (o : Option ℕ) → position (bytes_eq m) ns ≡ o →
      numbered (ls ++ (q ∷ []) ∷ []) o ≡ numbered ls o
  new_other m ne None e = refl
  new_other m ne (Some j) e =
      let found = position-Some (bytes_eq m) ns j n e in
      let lt : j < length ls = (let h : j < length ns = found.0 in let k : length ls ≡ length ns = even in omega (arith, h, k)) in
      before_last ls (q ∷ []) j lt

  pos_other : (m : Name) → bytes_eq n m ≡ false → position (bytes_eq m) (ns ++ n ∷ []) ≡ position (bytes_eq m) ns
  pos_other m ne =
      let push = position_or_len_push (bytes_eq m) ns n in
      let len = length-append ns (n ∷ []) in
      let not_it = swapped n m ne in
      grind (arith, nat_tests)

  pub new : length ls ≤ i → (m : Name) → numbered (ls ++ (q ∷ []) ∷ []) (position (bytes_eq m) ns')
      ≡ numbered ls (position (bytes_eq m) ns) ++ one m
  new le m = go (bytes_eq n m) refl
    where
      fresh : IsNew
      fresh = is-new (let e : length ls ≡ length ns = even in omega (arith, le, e))

      go : (b : Bool) → bytes_eq n m ≡ b → numbered (ls ++ (q ∷ []) ∷ []) (position (bytes_eq m) ns')
          ≡ numbered ls (position (bytes_eq m) ns) ++ (if bytes_eq n m then q ∷ [] else [])
      go true e =
          let here : position (bytes_eq m) ns' ≡ Some i = ap (λ x. position (bytes_eq x) ns') (sym (same_name n m e)) ∙ at in
          let before : position (bytes_eq m) ns ≡ None = ap (λ x. position (bytes_eq x) ns) (sym (same_name n m e)) ∙ fresh.absent in
          let end : i ≡ length ls = fresh.last ∙ sym even in
          ap (numbered (ls ++ (q ∷ []) ∷ [])) (here ∙ ap Some end)
          ∙ last_item ls (q ∷ [])
          ∙ ap (λ o. numbered ls o ++ q ∷ []) (sym before)
          ∙ ap (λ b. numbered ls (position (bytes_eq m) ns) ++ (if b then q ∷ [] else [])) (sym e)
      go false e =
          ap (λ x. numbered (ls ++ (q ∷ []) ∷ []) (position (bytes_eq m) x)) fresh.long
          ∙ ap (numbered (ls ++ (q ∷ []) ∷ [])) (pos_other m e)
          ∙ new_other m e (position (bytes_eq m) ns) refl
          ∙ sym (append_nil (numbered ls (position (bytes_eq m) ns)))
          ∙ ap (λ b. numbered ls (position (bytes_eq m) ns) ++ (if b then q ∷ [] else [])) (sym e)

-- The same of lists of offers.

list_at_map : {Q : Type 0} (f : Q → List ℕ) (qs : List Q) (i : ℕ) (d : Q) → i < length qs → get_or (map f qs) i [] ≡ f (get_or qs i d)
list_at_map f [] i d lt = absurd (omega (arith, lt))
list_at_map f (x ∷ qs) zero d lt = refl
list_at_map f (x ∷ qs) (suc i) d lt = list_at_map f qs i d (omega (arith, lt))

module _ {Q : Type 0} (f : Q → List ℕ) (ns ns' : List Name) (qs : List Q) (n : Name) (q i : ℕ) (even : length qs ≡ length ns)
    (texts : ns' ≡ with_text ns n) (at : position (bytes_eq n) ns' ≡ Some i) (m : Name) where
  long : length (map f qs) ≡ length ns
  long = length-map qs f ∙ even

  pub known_list : (old changed : Q) → i < length qs → old ≡ get_or qs i old → f changed ≡ f old ++ q ∷ [] →
      numbered (map f (set qs i changed)) (position (bytes_eq m) ns')
      ≡ numbered (map f qs) (position (bytes_eq m) ns) ++ (if bytes_eq n m then q ∷ [] else [])
  known_list old changed lt is e =
      ap (λ ls. numbered ls (position (bytes_eq m) ns'))
      (map-set f qs i changed ∙ ap (set (map f qs) i) (e ∙ ap (λ x. x ++ q ∷ []) (ap f is ∙ sym (list_at_map f qs i old lt))))
      ∙ known ns ns' (map f qs) n q i long texts at (let k : length (map f qs) ≡ length qs = length-map qs f in omega (arith, lt, k)) m

  pub new_list : (qs' : List Q) (added : Q) → length qs ≤ i → f added ≡ q ∷ [] → qs' ≡ qs ++ added ∷ [] →
      numbered (map f qs') (position (bytes_eq m) ns')
      ≡ numbered (map f qs) (position (bytes_eq m) ns) ++ (if bytes_eq n m then q ∷ [] else [])
  new_list qs' added le e is =
      ap (λ ls. numbered ls (position (bytes_eq m) ns'))
      (ap (map f) is ∙ map-append f qs (added ∷ []) ∙ ap (λ x. map f qs ++ x ∷ []) e)
      ∙ new ns ns' (map f qs) n q i long texts at (let k : length (map f qs) ≡ length qs = length-map qs f in omega (arith, le, k)) m

-- Which states offer a method.

named_off : (q : ℕ) (m : Method) (rest : List ℕ) (name : Name) (b : Bool) → bytes_eq m.name name ≡ b → rest ≡ [] → (b ≡ true → ⊥) →
    (if bytes_eq m.name name then q ∷ rest else rest) ≡ []
named_off q m rest name false e r ne = ap (λ b. if b then q ∷ rest else rest) e ∙ r
named_off q m rest name true e r ne = absurd (ne refl)

none_named : (q : ℕ) (ms : List Method) (name : Name) → (Contains (map (λ m. m.name) ms) name → ⊥) → by_methods q ms name ≡ []
none_named q [] name without = refl
none_named q (m ∷ ms) name without =
    named_off q m (by_methods q ms name) name (bytes_eq m.name name) refl
    (none_named q ms name (λ c. without (contains_later m.name name (map (λ m. m.name) ms) c)))
    (λ e. without (subst (Contains (m.name ∷ map (λ m. m.name) ms)) (same_name m.name name e)
    (contains_first m.name (map (λ m. m.name) ms))))

once_more : (q : ℕ) (m : Method) (ms : List Method) (name : Name) (b : Bool) → bytes_eq m.name name ≡ b →
    (Contains (map (λ m. m.name) ms) m.name → ⊥) →
    by_methods q ms name ≡ (if is_some (offered_in ms name) then q ∷ [] else []) →
    by_methods q (m ∷ ms) name ≡ (if is_some (offered_in (m ∷ ms) name) then q ∷ [] else [])
once_more q m ms name true e without r =
    ap (λ b. if b then q ∷ by_methods q ms name else by_methods q ms name) e
    ∙ ap (λ x. q ∷ x) (none_named q ms name (λ c. without (subst (Contains (map (λ m. m.name) ms)) (sym (same_name m.name name e)) c)))
    ∙ ap (λ b. if is_some (if b then Some m else offered_in ms name) then q ∷ [] else []) (sym e)
once_more q m ms name false e without r =
    ap (λ b. if b then q ∷ by_methods q ms name else by_methods q ms name) e ∙ r
    ∙ ap (λ b. if is_some (if b then Some m else offered_in ms name) then q ∷ [] else []) (sym e)

-- where no two methods have one name, the state is there once
once : (q : ℕ) (ms : List Method) (name : Name) → AreDistinct (map (λ m. m.name) ms) →
    by_methods q ms name ≡ (if is_some (offered_in ms name) then q ∷ [] else [])
once q [] name apart = refl
once q (m ∷ ms) name apart = once_more q m ms name (bytes_eq m.name name) refl apart.0 (once q ms name apart.1)

append_turn : (v : Bool) (q : ℕ) (a b c : List ℕ) → c ≡ a ++ b → (if v then q ∷ c else c) ≡ (if v then q ∷ a else a) ++ b
append_turn true q a b c e = ap (λ x. q ∷ x) e
append_turn false q a b c e = e

among_append : (s : List Bool) (a b : List ℕ) → members_among s (a ++ b) ≡ members_among s a ++ members_among s b
among_append s [] b = refl
among_append s (q ∷ a) b = append_turn (has s q) q (members_among s a) (members_among s b) (members_among s (a ++ b)) (among_append s a b)

module _ (t : Typestate) (name : Name) where
  abbrev is_offered : ℕ → Bool
  is_offered k = is_some (offered t k name)

  -- the state and those after it
  chosen_state : (k : ℕ) (v b : Bool) (ms : List ℕ) → is_offered k ≡ v →
      offering_states t (if b then k ∷ ms else ms) name
      ≡ (if b then (if v then k ∷ offering_states t ms name else offering_states t ms name) else offering_states t ms name)
  chosen_state k v true ms e = ap (λ w. if w then k ∷ offering_states t ms name else offering_states t ms name) e
  chosen_state k v false ms e = refl

  none_chosen : (b : Bool) (qs : List ℕ) → qs ≡ [] → (k : ℕ) → (if b then (if false then k ∷ qs else qs) else qs) ≡ []
  none_chosen true qs e k = e
  none_chosen false qs e k = e

  -- past the last state nothing is offered
  past_states : (k : ℕ) (s : List Bool) → ((j : ℕ) → slice_get t.states (k + j) ≡ None) → offering_states t (members_from k s) name ≡ []
  past_states k [] gone = refl
  past_states k (b ∷ s) gone =
      let at : slice_get t.states k ≡ None = ap (slice_get t.states) (from_zero k) ∙ gone 0 in
      chosen_state k false b (members_from (suc k) s)
      (ap (λ o. is_some (option_and_then (λ (x : State). offered_in x.methods name) o)) at)
      ∙ none_chosen b (offering_states t (members_from (suc k) s) name)
      (past_states (suc k) s (λ j. ap (slice_get t.states) (from_suc k j) ∙ gone (suc j))) k

  absent_turn : (s : List Bool) (k : ℕ) (v : Bool) (qs : List ℕ) → has s k ≡ false → members_among s qs ≡ [] →
      members_among s (if v then k ∷ qs else qs) ≡ []
  absent_turn s k true qs e r = ap (λ w. if w then k ∷ members_among s qs else members_among s qs) e ∙ r
  absent_turn s k false qs e r = r

  -- numbers past the width are no members
  past_width : (s : List Bool) (k : ℕ) (ms : List Method) → has s k ≡ false → members_among s (by_methods k ms name) ≡ []
  past_width s k [] gone = refl
  past_width s k (m ∷ ms) gone = absent_turn s k (bytes_eq m.name name) (by_methods k ms name) gone (past_width s k ms gone)

  all_past : (s : List Bool) (k : ℕ) (ss : List State) → ((j : ℕ) → has s (k + j) ≡ false) → members_among s (by_states k ss name) ≡ []
  all_past s k [] gone = refl
  all_past s k (x ∷ ss) gone =
      among_append s (by_methods k x.methods name) (by_states (suc k) ss name)
      ∙ ap (λ a. a ++ members_among s (by_states (suc k) ss name)) (past_width s k x.methods (ap (has s) (from_zero k) ∙ gone 0))
      ∙ all_past s (suc k) ss (λ j. ap (has s) (from_suc k j) ∙ gone (suc j))

  member_turn : (s : List Bool) (k : ℕ) (b v : Bool) (qs : List ℕ) → has s k ≡ b →
      members_among s (if v then k ∷ [] else []) ++ qs ≡ (if b then (if v then k ∷ qs else qs) else qs)
  member_turn s k true true qs e = ap (λ w. (if w then k ∷ [] else []) ++ qs) e
  member_turn s k true false qs e = refl
  member_turn s k false true qs e = ap (λ w. (if w then k ∷ [] else []) ++ qs) e
  member_turn s k false false qs e = refl

  -- state by state, the members that offer the method are those of its list that are members
  by_state : (s r : List Bool) (k : ℕ) (ss : List State) → ((j : ℕ) → slice_get t.states (k + j) ≡ slice_get ss j) →
      ((j : ℕ) → has s (k + j) ≡ has r j) → AllByRecursion (λ x. AreDistinct (map (λ m. m.name) x.methods)) ss →
      members_among s (by_states k ss name) ≡ offering_states t (members_from k r) name
  by_state s r k [] at in_set apart = sym (past_states k r (λ j. at j ∙ nothing_there j))
  by_state s [] k (x ∷ ss) at in_set apart = all_past s k (x ∷ ss) (λ j. in_set j ∙ no_member j)
  by_state s (b ∷ r) k (x ∷ ss) at in_set apart =
      let rest : members_among s (by_states (suc k) ss name) ≡ offering_states t (members_from (suc k) r) name =
      by_state s r (suc k) ss (λ j. ap (slice_get t.states) (from_suc k j) ∙ at (suc j)) (λ j. ap (has s) (from_suc k j) ∙ in_set (suc j))
      apart.1 in
      let mine : has s k ≡ b = ap (has s) (from_zero k) ∙ in_set 0 in
      let here : is_offered k ≡ is_some (offered_in x.methods name) =
      (let here_at : slice_get t.states k ≡ Some x = ap (slice_get t.states) (from_zero k) ∙ at 0 in
      ap (λ o. is_some (option_and_then (λ (x : State). offered_in x.methods name) o)) here_at) in
      among_append s (by_methods k x.methods name) (by_states (suc k) ss name)
      ∙ ap (λ a. members_among s a ++ members_among s (by_states (suc k) ss name)) (once k x.methods name apart.0)
      ∙ ap (λ a. members_among s (if is_some (offered_in x.methods name) then k ∷ [] else []) ++ a) rest
      ∙ member_turn s k b (is_some (offered_in x.methods name)) (offering_states t (members_from (suc k) r) name) mine
      ∙ sym (chosen_state k (is_some (offered_in x.methods name)) b (members_from (suc k) r) here)

all_apart : (n : ℕ) (ss : List State) → AllByRecursion (IsState n) ss → AllByRecursion (λ x. AreDistinct (map (λ m. m.name) x.methods)) ss
all_apart n [] h = tt
all_apart n (x ∷ ss) h = (h.0.methods, all_apart n ss h.1)

pub listed : (t : Typestate) (name : Name) (s : List Bool) → IsProper t.states →
    members_among s (by_states 0 t.states name) ≡ offering_states t (members s) name
listed t name s proper = by_state t name s s 0 t.states (λ j. ap (slice_get t.states) (zero_from j)) (λ j. ap (has s) (zero_from j))
    (all_apart (length t.states) t.states proper.each)

-- Loops.

pub methods_end : (q : ℕ) (ms : List KeptMethod) (i : ℕ) (m : Name) (a total : List ℕ) → length ms ≤ i →
    a ++ by_methods q (map method_of (drop i ms)) m ≡ total → a ≡ total
methods_end q ms i m a total le h =
    sym (ap (λ x. a ++ x) (at_drop_all (λ (xs : List KeptMethod). by_methods q (map method_of xs) m) ms i le) ∙ append_nil a) ∙ h

module _ (c n : ℕ) (s : List Bool) where
  one_more : (q : ℕ) (qs : List ℕ) → has s q ≡ true → entered_in c n s (q ∷ qs) ≡ contexts.Protocol c q n ∷ entered_in c n s qs
  one_more q qs h = ap (λ v. in_states c n (if v then q ∷ members_among s qs else members_among s qs)) h

  none_more : (q : ℕ) (qs : List ℕ) → has s q ≡ false → entered_in c n s (q ∷ qs) ≡ entered_in c n s qs
  none_more q qs h = ap (λ v. in_states c n (if v then q ∷ members_among s qs else members_among s qs)) h

  turned : (os : List Offer) (i : ℕ) (o : Offer) → i < length os → o ≡ get_or os i o →
      entered_in c n s (map (λ x. x.state) (drop i os)) ≡ entered_in c n s (o.state ∷ map (λ x. x.state) (drop (i + 1) os))
  turned os i o lt at = at_drop_more (λ (xs : List Offer). entered_in c n s (map (λ x. x.state) xs)) os i o lt
      ∙ ap (λ (x : Offer). entered_in c n s (map (λ x. x.state) (x ∷ drop (i + 1) os))) (sym at)

  pub offer_entered : (os : List Offer) (i : ℕ) (o : Offer) (cs cs' total : List Context) → i < length os → o ≡ get_or os i o →
      has s o.state ≡ true → cs' ≡ cs ++ contexts.Protocol c o.state n ∷ [] →
      cs ++ entered_in c n s (map (λ x. x.state) (drop i os)) ≡ total → cs' ++ entered_in c n s (map (λ x. x.state) (drop (i + 1) os)) ≡ total
  offer_entered os i o cs cs' total lt at h e r =
      ap (λ x. x ++ entered_in c n s (map (λ x. x.state) (drop (i + 1) os))) e
      ∙ append_assoc cs (contexts.Protocol c o.state n ∷ []) (entered_in c n s (map (λ x. x.state) (drop (i + 1) os)))
      ∙ ap (λ x. cs ++ x) (sym (turned os i o lt at ∙ one_more o.state (map (λ x. x.state) (drop (i + 1) os)) h)) ∙ r

  pub offer_absent : (os : List Offer) (i : ℕ) (o : Offer) (cs total : List Context) → i < length os → o ≡ get_or os i o →
      has s o.state ≡ false →
      cs ++ entered_in c n s (map (λ x. x.state) (drop i os)) ≡ total → cs ++ entered_in c n s (map (λ x. x.state) (drop (i + 1) os)) ≡ total
  offer_absent os i o cs total lt at h r =
      ap (λ x. cs ++ x) (sym (turned os i o lt at ∙ none_more o.state (map (λ x. x.state) (drop (i + 1) os)) h)) ∙ r

  pub offers_end : (os : List Offer) (i : ℕ) (cs total : List Context) → length os ≤ i →
      cs ++ entered_in c n s (map (λ x. x.state) (drop i os)) ≡ total → cs ≡ total
  offers_end os i cs total le h =
      sym (ap (λ x. cs ++ x) (at_drop_all (λ (xs : List Offer). entered_in c n s (map (λ x. x.state) xs)) os i le) ∙ append_nil cs) ∙ h

pub ruleset entering = (offer_entered, offer_absent, offers_end, get_or_past)

nothing_at : (q : ℕ) (name : Name) → is_some (offered at_end q name) ≡ false
nothing_at q name = ap (λ o. is_some (option_and_then (λ (x : State). offered_in x.methods name) o)) (nothing_there q)

ended : (qs : List ℕ) (name : Name) → offering_states at_end qs name ≡ []
ended [] name = refl
ended (q ∷ qs) name = ap (λ b. if b then q ∷ offering_states at_end qs name else offering_states at_end qs name) (nothing_at q name)
    ∙ ended qs name

module _ (p : Program) (reached : List (List Bool)) (c n : ℕ) (cs cs' : List Context) (name : Name) where
  pub protocol_entered : (o : Offers) (s : List Bool) (qs : List ℕ) → IsOfferedBy (typestate_of p c) o → members s ≡ reached_states p reached c →
      qs ≡ states_of o name → cs' ≡ cs ++ entered_in c n s qs →
      cs' ≡ cs ++ in_states c n (offering_states (typestate_of p c) (reached_states p reached c) name)
  protocol_entered o s qs by set at e =
      e ∙ ap (λ x. cs ++ entered_in c n s x) (at ∙ by.each name)
      ∙ ap (λ x. cs ++ in_states c n x) (listed (typestate_of p c) name s by.proper
      ∙ ap (λ x. offering_states (typestate_of p c) x name) set)

  pub protocol_none : typestate_of p c ≡ at_end → cs' ≡ cs →
      cs' ≡ cs ++ in_states c n (offering_states (typestate_of p c) (reached_states p reached c) name)
  protocol_none e h = h ∙ sym (append_nil cs)
      ∙ ap (λ x. cs ++ in_states c n x) (sym (ap (λ (t : Typestate). offering_states t (reached_states p reached c) name) e
      ∙ ended (reached_states p reached c) name))

-- The table of a class.
same_end : {A B : Type 0} (xs : List A) (ys : List B) (n : ℕ) (d : B) → length xs ≡ length ys → slice_get xs n ≡ None → get_or ys n d ≡ d
same_end [] [] n d e h = get_or_past [] n d (omega arith)
same_end [] (y ∷ ys) n d e h = absurd (omega (arith, e))
same_end (x ∷ xs) [] n d e h = absurd (omega (arith, e))
same_end (x ∷ xs) (y ∷ ys) zero d e h = let contrary : ⊥ = cc in absurd contrary
same_end (x ∷ xs) (y ∷ ys) (suc n) d e h = same_end xs ys n d (omega (arith, e)) h

same_there : {A B : Type 0} (xs : List A) (ys : List B) (n : ℕ) (x : A) (d : B) → length xs ≡ length ys → slice_get xs n ≡ Some x →
    slice_get ys n ≡ Some (get_or ys n d)
same_there [] ys zero x d e h = let contrary : ⊥ = cc in absurd contrary
same_there [] ys (suc n) x d e h = let contrary : ⊥ = cc in absurd contrary
same_there (z ∷ xs) [] n x d e h = absurd (omega (arith, e))
same_there (z ∷ xs) (y ∷ ys) zero x d e h = refl
same_there (z ∷ xs) (y ∷ ys) (suc n) x d e h = same_there xs ys n x d (omega (arith, e)) h

module _ (p : Program) (os : List Offers) (are : AreOffers p os) where
  abbrev of_number : Option ℕ → Option Offers
  of_number v = elim v as (λ _. Option Offers) [ None ↦ None | Some n ↦ slice_get os n ]

  abbrev state_number : Option ℕ → Typestate
  state_number v = elim v as (λ _. Typestate) [ None ↦ at_end | Some n ↦ get_or p.typestates n at_end ]

  number_none : (v : Option ℕ) → of_number v ≡ None → state_number v ≡ at_end
  number_none None e = refl
  number_none (Some n) e = same_end os p.typestates n at_end are.as_many e

  number_some : (v : Option ℕ) (o : Offers) → of_number v ≡ Some o → IsOfferedBy (state_number v) o
  number_some None o e = let contrary : ⊥ = cc in absurd contrary
  number_some (Some n) o e = are.each n (get_or p.typestates n at_end) o (same_there os p.typestates n o at_end are.as_many e) e

  class_none : (v : Option Class) → elim v as (λ _. Option Offers) [ None ↦ None | Some k ↦ of_number k.typestate ] ≡ None →
      elim v as (λ _. Typestate) [ None ↦ at_end | Some k ↦ state_number k.typestate ] ≡ at_end
  class_none None e = refl
  class_none (Some k) e = number_none k.typestate e

  class_some : (v : Option Class) (o : Offers) → elim v as (λ _. Option Offers) [ None ↦ None | Some k ↦ of_number k.typestate ] ≡ Some o →
      IsOfferedBy (elim v as (λ _. Typestate) [ None ↦ at_end | Some k ↦ state_number k.typestate ]) o
  class_some None o e = let contrary : ⊥ = cc in absurd contrary
  class_some (Some k) o e = number_some k.typestate o e

  pub no_table : (c : ℕ) → offers_at p os c ≡ None → typestate_of p c ≡ at_end
  no_table c e = class_none (slice_get p.classes c) e

  pub a_table : (c : ℕ) (o : Offers) → offers_at p os c ≡ Some o → IsOfferedBy (typestate_of p c) o
  a_table c o e = class_some (slice_get p.classes c) o e

-- Tables for the first typestates.
pub record OfferedSoFar (ts : List Typestate) (os : List Offers) (i : ℕ) : Type 0 where
  pub as_many : length os ≡ i
  pub within : i ≤ length ts
  pub each : (n : ℕ) (t : Typestate) (o : Offers) → slice_get ts n ≡ Some t → slice_get os n ≡ Some o → IsOfferedBy t o

pub offered_none : (ts : List Typestate) → OfferedSoFar ts [] 0
offered_none ts = record { as_many = refl; within = omega arith; each = λ n t o e h. absurd (none n o h) }
  where
    none : (n : ℕ) (o : Offers) → slice_get [] n ≡ Some o → ⊥
    none n o h = cc

pushed : (xs : List Offers) (x : Offers) (n : ℕ) (s : Offers) → slice_get (xs ++ x ∷ []) n ≡ Some s → (slice_get xs n ≡ Some s)
    ⊎ ((n ≡ length xs) × (x ≡ s))
pushed [] x zero s h = inr (refl, (let e : x ≡ s = cc in e))
pushed [] x (suc n) s h = let no : ⊥ = cc in absurd no
pushed (y ∷ xs) x zero s h = inl h
pushed (y ∷ xs) x (suc n) s h = ⊎_elim inl (λ r. inr (ap suc r.0, r.1)) (pushed xs x n s h)

same_item : (ts : List Typestate) (i : ℕ) (t u : Typestate) → t ≡ get_or ts i t → slice_get ts i ≡ Some u → t ≡ u
same_item [] i t u e h = let no : ⊥ = cc in absurd no
same_item (x ∷ ts) zero t u e h = let k : x ≡ u = cc in e ∙ k
same_item (x ∷ ts) (suc i) t u e h = same_item ts i t u e h

pub offered_more : (ts : List Typestate) (os os' : List Offers) (i : ℕ) (t : Typestate) (o : Offers) → OfferedSoFar ts os i → i < length ts →
    t ≡ get_or ts i t → IsOfferedBy t o → os' ≡ os ++ o ∷ [] → OfferedSoFar ts os' (i + 1)
offered_more ts os os' i t o r lt at ok e = record {
  as_many = ap length e ∙ length-append os (o ∷ []) ∙ ap (λ n. n + 1) r.as_many;
  within = omega (arith, lt);
  each = λ n u v h g. ⊎_elim (r.each n u v h) (λ w.
      subst (λ x. IsOfferedBy u x) w.1
      (subst (λ x. IsOfferedBy x o) (same_item ts i t u at (sym (ap (slice_get ts) (w.0 ∙ r.as_many)) ∙ h)) ok))
      (pushed os o n v (sym (ap (λ x. slice_get x n) e) ∙ g));
}

pub offered_all : (p : Program) (ts : List Typestate) (os : List Offers) (i : ℕ) → OfferedSoFar ts os i → length ts ≤ i →
    ts ≡ p.typestates → AreOffers p os
offered_all p ts os i r e h = record {
  as_many = r.as_many ∙ (let k : i ≡ length ts = omega (arith, r.within) in k) ∙ ap length h;
  each = λ n t o g. r.each n t o (ap (λ x. slice_get x n) h ∙ g);
}

pub ruleset tables = (offered_none, offered_more, offered_all)

pub ruleset found = (slice_get-map, get_or_from_slice_get, get_or_past, append_nil)
