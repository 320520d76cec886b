-- What expressions without messages are made of is alike to itself, for every relation that goes on through `give`, `>>=`, ends that no
-- message brings about, and the ways to objects and prints.
use Rattle.std.proofs.Common.{◌≡◌, ℕ, Bool, true, false, List, ◌++◌, Option, Some, None, refl}
use Rattle.std.specs.Prelude.{ℤ, pos, ◌+ℤ◌, ◌-ℤ◌, ◌*ℤ◌, neg_ℤ, int_div, int_rem, nat_eq, slice_get, if◌then◌else◌, not}
use Rattle.std.specs.Str.{bytes_eq}
use Rattle.mg_text.specs.Call.{Name}
use Rattle.mg_text.specs.declared.event.Event.TheVariants as seen
use Rattle.jv_values.specs.Values.{Value, Int, Truth, Text, Object, Constant, Instance, Finish, Wrong, Zero}
use Rattle.jv_values.specs.Values.{Shared, find}
use Rattle.jv_values.specs.Values as values
use Rattle.jv_values.specs.Doing.{Run, ◌>>=◌, give, stop, note, objects, found, valued, valuing, number, truth, text, constant}
use Rattle.jv_values.specs.Operators.{Operator, wrap, Or, And, Equal, Unequal, Less, AtMost, Greater, AtLeast, Plus, Minus, Times, Divide}
use Rattle.jv_values.specs.Operators.{Remain, int_same, nonzero, shown, joined, sum, computed, compared, same, unless_decided, both}
use Rattle.jv_values.specs.Operators.{applied, binary, negative, opposite, equal_texts, joined_texts, print}
use Rattle.jv_values.specs.Objects.{object, object_of, read_field, receiver}
use Rattle.jv_values.specs.Alike.{Relation, Closed}
use Rattle.jv_values.proofs.Combine.{bind_same, if_alike}
use Rattle.stm_acts.specs.Ends.{IsBusy}

-- What expressions without messages go through: all but the making of objects, the change of their fields, and calls that are told.
pub record Tells (R : Relation Shared Shared) : Type 1 where
  pub closed : Closed R
  pub stop : {A A' : Type 0} {V : A → A' → Type 0} (f : Finish) → IsBusy f → R A A' V (stop f) (stop f)
  pub objects : R (List Instance) (List Instance) ◌≡◌ objects objects
  pub on_print : (t : List ℕ) → R (Unit {0}) (Unit {0}) ◌≡◌ (note (seen.Print t)) (note (seen.Print t))

module _ (R : Relation Shared Shared) (h : Tells R) where
  -- runs that give the same
  abbrev Equals : {A : Type 0} → Run Shared A → Run Shared A → Type 0
  Equals {A} m n = R A A ◌≡◌ m n

  abbrev Same : {A : Type 0} → Run Shared A → Type 0
  Same m = Equals m m

  pub then_same : {A B : Type 0} {m n : Run Shared A} {f g : A → Run Shared B} → Equals m n → ((a : A) → Equals (f a) (g a)) → Equals
      (m >>= f) (n >>= g)
  then_same e k = bind_same R h.closed e k

  pub give_same : {A : Type 0} (a : A) → Same (give a)
  give_same a = h.closed.give refl

  pub stop_same : {A : Type 0} (f : Finish) → IsBusy f → Same {A = A} (stop f)
  stop_same f other = h.stop f other

  pub found_same : {A : Type 0} (o : Option A) → Same (found o)
  found_same (Some a) = give_same a
  found_same None = stop_same Wrong tt

  pub valued_same : {m n : Run Shared (Option Value)} → Equals m n → Equals (valued m) (valued n)
  valued_same e = then_same e found_same

  pub valuing_same : {m n : Run Shared Value} → Equals m n → Equals (valuing m) (valuing n)
  valuing_same e = then_same e (λ v. give_same (Some v))

  -- Kinds.

  pub number_same : (v : Value) → Same (number v)
  number_same (Int z) = give_same z
  number_same _ = stop_same Wrong tt

  pub truth_same : (v : Value) → Same (truth v)
  truth_same (Truth b) = give_same b
  truth_same _ = stop_same Wrong tt

  pub text_same : (v : Value) → Same (text v)
  text_same (Text t) = give_same t
  text_same _ = stop_same Wrong tt

  pub constant_same : (v : Value) → Same (constant v)
  constant_same (Constant e n) = give_same (e, n)
  constant_same _ = stop_same Wrong tt

  pub receiver_same : (v : Value) → Same (receiver v)
  receiver_same (Object o) = give_same o
  receiver_same values.Null = stop_same values.Null tt
  receiver_same _ = stop_same Wrong tt

  -- Operators.

  nonzero_same : (y : ℤ) → Same (nonzero y)
  nonzero_same y = if_alike R h.closed (int_same y (pos 0)) (stop_same Zero tt) (give_same y)

  joined_same : (s t : Option (List ℕ)) → Same (joined s t)
  joined_same s t = then_same (found_same s) (λ a. then_same (found_same t) (λ b. give_same (Text (a ++ b))))

  sum_same : (v w : Value) → Same (sum v w)
  sum_same (Int x) (Int y) = give_same (Int (wrap (x +ℤ y)))
  sum_same (Text a) w = joined_same (Some a) (shown w)
  sum_same v (Text b) = joined_same (shown v) (Some b)
  sum_same _ _ = stop_same Wrong tt

  computed_same : (f : ℤ → ℤ → Run Shared ℤ) → ((x y : ℤ) → Same (f x y)) → (v w : Value) → Same (computed f v w)
  computed_same f e v w = then_same (number_same v) (λ x. then_same (number_same w) (λ y. then_same (e x y) (λ z. give_same (Int z))))

  compared_same : (f : ℤ → ℤ → Bool) (v w : Value) → Same (compared f v w)
  compared_same f v w = then_same (number_same v) (λ x. then_same (number_same w) (λ y. give_same (Truth (f x y))))

  equality_same : (v w : Value) → Same (same v w)
  equality_same (Int x) (Int y) = give_same (int_same x y)
  equality_same (Truth true) (Truth b) = give_same b
  equality_same (Truth false) (Truth b) = give_same (not b)
  equality_same (Constant e n) (Constant f k) = if_alike R h.closed (bytes_eq e f) (give_same (nat_eq n k)) (stop_same Wrong tt)
  equality_same (Object n) values.Null = give_same false
  equality_same values.Null (Object n) = give_same false
  equality_same values.Null values.Null = give_same true
  equality_same _ _ = stop_same Wrong tt

  pub applied_same : (operator : Operator) (v w : Value) → Same (applied operator v w)
  applied_same Plus v w = sum_same v w
  applied_same Minus v w = computed_same _ (λ x y. give_same (wrap (x -ℤ y))) v w
  applied_same Times v w = computed_same _ (λ x y. give_same (wrap (x *ℤ y))) v w
  applied_same Divide v w = computed_same _ (λ x y. then_same (nonzero_same y) (λ d. give_same (wrap (int_div x d)))) v w
  applied_same Remain v w = computed_same _ (λ x y. then_same (nonzero_same y) (λ d. give_same (int_rem x d))) v w
  applied_same Less v w = compared_same _ v w
  applied_same AtMost v w = compared_same _ v w
  applied_same Greater v w = compared_same _ v w
  applied_same AtLeast v w = compared_same _ v w
  applied_same Equal v w = then_same (equality_same v w) (λ b. give_same (Truth b))
  applied_same Unequal v w = then_same (equality_same v w) (λ b. give_same (Truth (not b)))
  applied_same _ v w = stop_same Wrong tt

  both_same : (f : Value → Value → Run Shared Value) → ((v w : Value) → Same (f v w)) → {a b a' b' : Run Shared Value} → Equals a a' →
      Equals b b' → Equals (both f a b) (both f a' b')
  both_same f e k l = then_same k (λ v. then_same l (λ w. e v w))

  unless_same : (going_on : Bool) {a b a' b' : Run Shared Value} → Equals a a' → Equals b b' → Equals (unless_decided going_on a b)
      (unless_decided going_on a' b')
  unless_same going_on k l = then_same k (λ v. then_same (truth_same v)
      (λ x. if_alike R h.closed (if going_on then x else not x) l (give_same (Truth x))))

  pub binary_same : (operator : Operator) {a b a' b' : Run Shared Value} → Equals a a' → Equals b b' → Equals (binary operator a b)
      (binary operator a' b')
  binary_same And k l = unless_same true k l
  binary_same Or k l = unless_same false k l
  binary_same operator k l = both_same (applied operator) (applied_same operator) k l

  pub negative_same : (v : Value) → Same (negative v)
  negative_same v = then_same (number_same v) (λ x. give_same (Int (wrap (neg_ℤ x))))

  pub opposite_same : (v : Value) → Same (opposite v)
  opposite_same v = then_same (truth_same v) (λ b. give_same (Truth (not b)))

  pub equal_texts_same : (v w : Value) → Same (equal_texts v w)
  equal_texts_same v w = then_same (text_same v) (λ s. then_same (text_same w) (λ t. give_same (Truth (bytes_eq s t))))

  pub joined_texts_same : (v w : Value) → Same (joined_texts v w)
  joined_texts_same v w = then_same (text_same v) (λ s. then_same (text_same w) (λ t. give_same (Text (s ++ t))))

  pub print_same : (v : Value) → Same (print v)
  print_same v = then_same (found_same (shown v)) (λ t. h.on_print t)

  -- Objects.

  pub object_same : (o : ℕ) → Same (object o)
  object_same o = then_same h.objects (λ heap. found_same (slice_get heap o))

  pub object_of_same : (c : Name) (o : ℕ) → Same (object_of c o)
  object_of_same c o = then_same (object_same o) (λ i. if_alike R h.closed (bytes_eq i.class c) (give_same i) (stop_same Wrong tt))

  pub read_field_same : (c : Name) (this : Option ℕ) (x : Name) → Same (read_field c this x)
  read_field_same c this x = then_same (found_same this) (λ o. then_same (object_of_same c o)
      (λ i. found_same (find bytes_eq x i.fields)))
