-- What a turn of a loop adds to what comes of a list.
use Rattle.std.proofs.Common.{◌≡◌, ℕ, suc, ◌+◌, ◌<◌, ◌≤◌, Bool, true, false, List, [], ◌∷◌, ◌++◌, length, get_or, drop, map, refl, sym, ap}
use Rattle.std.proofs.Common.{subst, ◌∙◌, add-one, append_assoc, take}
use Rattle.std.specs.List.{flat_map}
use Rattle.std.specs.Prelude.{min, if◌then◌else◌, Result, OnOk}
use Rattle.std.specs.Result.{IsErrAnd}
use Rattle.std.proofs.lemmas.Result.{err_from_is_err_and}
use Rattle.std.proofs.lemmas.List.{at_drop_more, at_drop_all, get_or_default, take_min, take-map}
use Rattle.jv_core.specs.declared.program.CoreSlot.{CoreSlot}
use Rattle.jv_core.specs.View.{slot_of}
use Rattle.mg_text.specs.Call.{Name}
use Rattle.mg_sets.specs.Sets.{has, members_from}
use Rattle.use_elements.proofs.Rests.{append_nil}
use Rattle.use_flow.proofs.Turns.{one, last}
use Rattle.use_check.specs.Report.{in_order}

-- By numbers.

module _ {A B : Type 0} (line : ℕ → B → Name) (view : A → B) where
  pub order_next : (xs : List A) (i : ℕ) (x : A) (out out' total : Name) → i < length xs → x ≡ get_or xs i x → out' ≡ out ++ line i (view x)
      →
      out ++ in_order line i (map view (drop i xs)) ≡ total → out' ++ in_order line (i + 1) (map view (drop (i + 1) xs)) ≡ total
  order_next xs i x out out' total lt at e h =
      one (λ (k : ℕ) (s : List A). in_order line k (map view s)) (λ k y. line k (view y)) (λ k y s. refl) (λ k. refl) i x xs out out' total
      lt at e h

  pub order_next_at : (xs : List A) (i : ℕ) (d : A) (out out' total : Name) → i < length xs → out' ≡ out ++ line i (view (get_or xs i d)) →
      out ++ in_order line i (map view (drop i xs)) ≡ total → out' ++ in_order line (i + 1) (map view (drop (i + 1) xs)) ≡ total
  order_next_at xs i d out out' total lt e h = order_next xs i (get_or xs i d) out out' total lt (get_or_default xs i d (get_or xs i d) lt)
      e h

  pub order_end : (xs : List A) (i : ℕ) (out total : Name) → length xs ≤ i → out ++ in_order line i (map view (drop i xs)) ≡ total →
      out ≡ total
  order_end xs i out total le h =
      last (λ (k : ℕ) (s : List A). in_order line k (map view s)) (λ k y. line k (view y)) (λ k y s. refl) (λ k. refl) i xs out total le h

-- behind a text that is known under two names
pub order_next_by : {A B : Type 0} (line : Name → ℕ → B → Name) (view : A → B) (f g : Name) (xs : List A) (i : ℕ) (d : A)
    (out out' total : Name) → f ≡ g → i < length xs →
    out' ≡ out ++ line f i (view (get_or xs i d)) →
    out ++ in_order (line g) i (map view (drop i xs)) ≡ total → out' ++ in_order (line g) (i + 1) (map view (drop (i + 1) xs)) ≡ total
order_next_by line view f g xs i d out out' total same lt e h =
    order_next_at (line g) view xs i d out out' total lt (subst (λ (x : Name). out' ≡ out ++ line x i (view (get_or xs i d))) same e) h

-- Member by member.

module _ (f : ℕ → Name) where
  here : (k : ℕ) (s : List Bool) → k < length s → flat_map f (members_from k (drop k s)) ≡ flat_map f
      (members_from k (has s k ∷ drop (k + 1) s))
  here k s lt = at_drop_more (λ r. flat_map f (members_from k r)) s k false lt

  passed : (b : Bool) (k : ℕ) (s : List Bool) → b ≡ false → flat_map f (members_from k (b ∷ s)) ≡ flat_map f (members_from (suc k) s)
  passed b k s e = rw e refl

  met : (b : Bool) (k : ℕ) (s : List Bool) → b ≡ true → flat_map f (members_from k (b ∷ s)) ≡ f k ++ flat_map f (members_from (suc k) s)
  met b k s e = rw e refl

  pub member_skip : (k : ℕ) (s : List Bool) (out total : Name) → k < length s → has s k ≡ false →
      out ++ flat_map f (members_from k (drop k s)) ≡ total → out ++ flat_map f (members_from (k + 1) (drop (k + 1) s)) ≡ total
  member_skip k s out total lt b h =
      ap (λ n. out ++ flat_map f (members_from n (drop (k + 1) s))) (add-one k)
      ∙ ap (λ r. out ++ r) (sym (here k s lt ∙ passed (has s k) k (drop (k + 1) s) b)) ∙ h

  pub member_take : (k : ℕ) (s : List Bool) (out out' total : Name) → k < length s → has s k ≡ true → out' ≡ out ++ f k →
      out ++ flat_map f (members_from k (drop k s)) ≡ total → out' ++ flat_map f (members_from (k + 1) (drop (k + 1) s)) ≡ total
  member_take k s out out' total lt b e h =
      ap (λ n. out' ++ flat_map f (members_from n (drop (k + 1) s))) (add-one k)
      ∙ ap (λ r. r ++ flat_map f (members_from (suc k) (drop (k + 1) s))) e
      ∙ append_assoc out (f k) (flat_map f (members_from (suc k) (drop (k + 1) s)))
      ∙ ap (λ r. out ++ r) (sym (here k s lt ∙ met (has s k) k (drop (k + 1) s) b)) ∙ h

  pub member_end : (k : ℕ) (s : List Bool) (out total : Name) → length s ≤ k → out ++ flat_map f (members_from k (drop k s)) ≡ total →
      out ≡ total
  member_end k s out total le h =
      sym (ap (λ r. out ++ r) (at_drop_all (λ r. flat_map f (members_from k r)) s k le) ∙ append_nil out) ∙ h

-- The parameters are the first slots.
pub slots_taken : (n : ℕ) (xs ys : List CoreSlot) (k : ℕ) → k ≡ min n (length xs) → ys ≡ take k xs →
    map slot_of ys ≡ take n (map slot_of xs)
slots_taken n xs ys k e h = ap (map slot_of) (h ∙ ap (λ m. take m xs) e ∙ take_min n xs) ∙ sym (take-map slot_of n xs)

pub ruleset taken = (slots_taken)

-- Lines, one behind another.

pub none_put : (b t : Bool) (x out : Name) → b ≡ t → b ≡ false → out ≡ out ++ (if t then x else [])
none_put b t x out e absent = rw (sym e ∙ absent) (sym (append_nil out))

pub some_put : (b t : Bool) (x out out' : Name) → b ≡ t → b ≡ true → out' ≡ out ++ x → out' ≡ out ++ (if t then x else [])
some_put b t x out out' e there h = rw (sym e ∙ there) h

pub two : (out o1 o2 a b : Name) → o1 ≡ out ++ a → o2 ≡ o1 ++ b → o2 ≡ out ++ (a ++ b)
two out o1 o2 a b e f = f ∙ ap (λ x. x ++ b) e ∙ append_assoc out a b

pub four : (out o1 o2 o3 o4 a b c d : Name) → o1 ≡ out ++ a → o2 ≡ o1 ++ b → o3 ≡ o2 ++ c → o4 ≡ o3 ++ d →
    o4 ≡ out ++ (a ++ (b ++ (c ++ d)))
four out o1 o2 o3 o4 a b c d e f g h = two out o1 o4 a (b ++ (c ++ d)) e (two o1 o2 o4 b (c ++ d) f (two o2 o3 o4 c d g h))

-- an exit with an error
pub left_by : {T E : Type 0} (Q : E → Type 0) (P : Type 0) (r : Result T E) → IsErrAnd r Q → OnOk r P
left_by Q P r h = let p = err_from_is_err_and r h in rw p.1 tt
