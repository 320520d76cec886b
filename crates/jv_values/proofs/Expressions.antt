-- What expressions are made of is alike to itself, for every relation that goes on through `give`, `>>=`
-- and the five ways to objects and events.
use Rattle.std.proofs.Common.{◌≡◌, ℕ, Bool, true, false, List, [], ◌∷◌, ◌++◌, length, Option, Some, None, refl}
use Rattle.std.specs.Prelude.{ℤ, pos, ◌+ℤ◌, ◌-ℤ◌, ◌*ℤ◌, neg_ℤ, int_div, int_rem, nat_eq, slice_get, slice_set, if◌then◌else◌, not}
use Rattle.std.specs.Str.{bytes_eq}
use Rattle.mg_text.specs.Call.{Name}
use Rattle.mg_text.specs.declared.event.Event.{Event}
use Rattle.mg_text.specs.declared.event.Event.TheVariants as seen
use Rattle.mg_text.specs.declared.event.Carried.{Carried}
use Rattle.mg_text.specs.declared.event.Carried.TheVariants as carried
use Rattle.jv_values.specs.Values.{Value, Int, Truth, Text, Object, Constant, Instance, Inputs, Finish, Wrong, Zero, Mismatch, NoPeer, Wait}
use Rattle.jv_values.specs.Values.{Shared, find, put}
use Rattle.jv_values.specs.Values as values
use Rattle.jv_values.specs.Doing.{Run, ◌>>=◌, give, stop, note, happened, objects, found, valued, valuing, number, truth, text, constant}
use Rattle.jv_values.specs.Operators.{Operator, wrap, Or, And, Equal, Unequal, Less, AtMost, Greater, AtLeast, Plus, Minus, Times, Divide}
use Rattle.jv_values.specs.Operators.{Remain, int_same, nonzero, shown, joined, sum, computed, compared, same, unless_decided, both}
use Rattle.jv_values.specs.Operators.{applied, binary, negative, opposite, equal_texts, joined_texts, print}
use Rattle.jv_values.specs.Objects.{object, object_of, read_field, write_field, make, receiver, answer_of, telling}
use Rattle.jv_tree.specs.declared.built_in.SessionCall.{SessionCall}
use Rattle.jv_tree.specs.declared.built_in.SessionCall.TheVariants.{Send, SendInt, SendBoolean, SendString, Look, Refuse}
use Rattle.jv_tree.specs.declared.built_in.SessionCall.TheVariants.{Take, TakeInt, TakeBoolean, TakeString}
use Rattle.jv_values.specs.Messages.{messages_of, taken, there_or, peer, next_message, sends, looks, nothing_in, int_in, truth_in, text_in}
use Rattle.jv_values.specs.Messages.{takes, refuses, session}
use Rattle.jv_values.specs.Alike.{Relation, Closed, Shares}
use Rattle.jv_values.proofs.Combine.{bind_same, if_alike}

-- What most of them go through: all but the making of objects, the change of their fields, and calls that are told.
pub record Tells (R : Relation Shared Shared) : Type 1 where
  pub closed : Closed R
  pub stop : {A A' : Type 0} {V : A → A' → Type 0} (f : Finish) → R A A' V (stop f) (stop f)
  pub happened : R (List Event) (List Event) ◌≡◌ happened happened
  pub objects : R (List Instance) (List Instance) ◌≡◌ objects objects
  pub on_print : (t : List ℕ) → R (Unit {0}) (Unit {0}) ◌≡◌ (note (seen.Print t)) (note (seen.Print t))
  pub on_send : (q l : Name) (payload : Carried) → R (Unit {0}) (Unit {0}) ◌≡◌ (note (seen.Send q l payload)) (note (seen.Send q l payload))
  pub on_look : (q l : Name) → R (Unit {0}) (Unit {0}) ◌≡◌ (note (seen.Look q l)) (note (seen.Look q l))
  pub on_take : (q l : Name) (payload : Carried) → R (Unit {0}) (Unit {0}) ◌≡◌ (note (seen.Take q l payload)) (note (seen.Take q l payload))

pub tells : {R : Relation Shared Shared} → Shares R → Tells R
tells h = record {
  closed = h.closed;
  stop = h.stop;
  happened = h.happened;
  objects = h.objects;
  on_print = λ t. h.note (seen.Print t);
  on_send = λ q l payload. h.note (seen.Send q l payload);
  on_look = λ q l. h.note (seen.Look q l);
  on_take = λ q l payload. h.note (seen.Take q l payload);
}

module _ (R : Relation Shared Shared) (h : Tells R) where
  -- runs that give the same
  abbrev Equals : {A : Type 0} → Run Shared A → Run Shared A → Type 0
  Equals {A} m n = R A A ◌≡◌ m n

  abbrev Same : {A : Type 0} → Run Shared A → Type 0
  Same m = Equals m m

  pub then_same : {A B : Type 0} {m n : Run Shared A} {f g : A → Run Shared B} → Equals m n → ((a : A) → Equals (f a) (g a)) → Equals
      (m >>= f) (n >>= g)
  then_same e k = bind_same R h.closed e k

  pub give_same : {A : Type 0} (a : A) → Same (give a)
  give_same a = h.closed.give refl

  pub stop_same : {A : Type 0} (f : Finish) → Same {A = A} (stop f)
  stop_same f = h.stop f

  pub found_same : {A : Type 0} (o : Option A) → Same (found o)
  found_same (Some a) = give_same a
  found_same None = stop_same Wrong

  pub there_or_same : {A : Type 0} (f : Finish) (o : Option A) → Same (there_or f o)
  there_or_same f (Some a) = give_same a
  there_or_same f None = stop_same f

  pub valued_same : {m n : Run Shared (Option Value)} → Equals m n → Equals (valued m) (valued n)
  valued_same e = then_same e found_same

  pub valuing_same : {m n : Run Shared Value} → Equals m n → Equals (valuing m) (valuing n)
  valuing_same e = then_same e (λ v. give_same (Some v))

  -- Kinds.

  pub number_same : (v : Value) → Same (number v)
  number_same (Int z) = give_same z
  number_same _ = stop_same Wrong

  pub truth_same : (v : Value) → Same (truth v)
  truth_same (Truth b) = give_same b
  truth_same _ = stop_same Wrong

  pub text_same : (v : Value) → Same (text v)
  text_same (Text t) = give_same t
  text_same _ = stop_same Wrong

  pub constant_same : (v : Value) → Same (constant v)
  constant_same (Constant e n) = give_same (e, n)
  constant_same _ = stop_same Wrong

  pub receiver_same : (v : Value) → Same (receiver v)
  receiver_same (Object o) = give_same o
  receiver_same values.Null = stop_same values.Null
  receiver_same _ = stop_same Wrong

  -- Operators.

  nonzero_same : (y : ℤ) → Same (nonzero y)
  nonzero_same y = if_alike R h.closed (int_same y (pos 0)) (stop_same Zero) (give_same y)

  joined_same : (s t : Option (List ℕ)) → Same (joined s t)
  joined_same s t = then_same (found_same s) (λ a. then_same (found_same t) (λ b. give_same (Text (a ++ b))))

  sum_same : (v w : Value) → Same (sum v w)
  sum_same (Int x) (Int y) = give_same (Int (wrap (x +ℤ y)))
  sum_same (Text a) w = joined_same (Some a) (shown w)
  sum_same v (Text b) = joined_same (shown v) (Some b)
  sum_same _ _ = stop_same Wrong

  computed_same : (f : ℤ → ℤ → Run Shared ℤ) → ((x y : ℤ) → Same (f x y)) → (v w : Value) → Same (computed f v w)
  computed_same f e v w = then_same (number_same v) (λ x. then_same (number_same w) (λ y. then_same (e x y) (λ z. give_same (Int z))))

  compared_same : (f : ℤ → ℤ → Bool) (v w : Value) → Same (compared f v w)
  compared_same f v w = then_same (number_same v) (λ x. then_same (number_same w) (λ y. give_same (Truth (f x y))))

  equality_same : (v w : Value) → Same (same v w)
  equality_same (Int x) (Int y) = give_same (int_same x y)
  equality_same (Truth true) (Truth b) = give_same b
  equality_same (Truth false) (Truth b) = give_same (not b)
  equality_same (Constant e n) (Constant f k) = if_alike R h.closed (bytes_eq e f) (give_same (nat_eq n k)) (stop_same Wrong)
  equality_same (Object n) values.Null = give_same false
  equality_same values.Null (Object n) = give_same false
  equality_same values.Null values.Null = give_same true
  equality_same _ _ = stop_same Wrong

  pub applied_same : (operator : Operator) (v w : Value) → Same (applied operator v w)
  applied_same Plus v w = sum_same v w
  applied_same Minus v w = computed_same _ (λ x y. give_same (wrap (x -ℤ y))) v w
  applied_same Times v w = computed_same _ (λ x y. give_same (wrap (x *ℤ y))) v w
  applied_same Divide v w = computed_same _ (λ x y. then_same (nonzero_same y) (λ d. give_same (wrap (int_div x d)))) v w
  applied_same Remain v w = computed_same _ (λ x y. then_same (nonzero_same y) (λ d. give_same (int_rem x d))) v w
  applied_same Less v w = compared_same _ v w
  applied_same AtMost v w = compared_same _ v w
  applied_same Greater v w = compared_same _ v w
  applied_same AtLeast v w = compared_same _ v w
  applied_same Equal v w = then_same (equality_same v w) (λ b. give_same (Truth b))
  applied_same Unequal v w = then_same (equality_same v w) (λ b. give_same (Truth (not b)))
  applied_same _ v w = stop_same Wrong

  both_same : (f : Value → Value → Run Shared Value) → ((v w : Value) → Same (f v w)) → {a b a' b' : Run Shared Value} → Equals a a' →
      Equals b b' → Equals (both f a b) (both f a' b')
  both_same f e k l = then_same k (λ v. then_same l (λ w. e v w))

  unless_same : (going_on : Bool) {a b a' b' : Run Shared Value} → Equals a a' → Equals b b' → Equals (unless_decided going_on a b)
      (unless_decided going_on a' b')
  unless_same going_on k l = then_same k (λ v. then_same (truth_same v)
      (λ x. if_alike R h.closed (if going_on then x else not x) l (give_same (Truth x))))

  pub binary_same : (operator : Operator) {a b a' b' : Run Shared Value} → Equals a a' → Equals b b' → Equals (binary operator a b)
      (binary operator a' b')
  binary_same And k l = unless_same true k l
  binary_same Or k l = unless_same false k l
  binary_same operator k l = both_same (applied operator) (applied_same operator) k l

  pub negative_same : (v : Value) → Same (negative v)
  negative_same v = then_same (number_same v) (λ x. give_same (Int (wrap (neg_ℤ x))))

  pub opposite_same : (v : Value) → Same (opposite v)
  opposite_same v = then_same (truth_same v) (λ b. give_same (Truth (not b)))

  pub equal_texts_same : (v w : Value) → Same (equal_texts v w)
  equal_texts_same v w = then_same (text_same v) (λ s. then_same (text_same w) (λ t. give_same (Truth (bytes_eq s t))))

  pub joined_texts_same : (v w : Value) → Same (joined_texts v w)
  joined_texts_same v w = then_same (text_same v) (λ s. then_same (text_same w) (λ t. give_same (Text (s ++ t))))

  pub print_same : (v : Value) → Same (print v)
  print_same v = then_same (found_same (shown v)) (λ t. h.on_print t)

  -- Objects.

  pub object_same : (o : ℕ) → Same (object o)
  object_same o = then_same h.objects (λ heap. found_same (slice_get heap o))

  pub object_of_same : (c : Name) (o : ℕ) → Same (object_of c o)
  object_of_same c o = then_same (object_same o) (λ i. if_alike R h.closed (bytes_eq i.class c) (give_same i) (stop_same Wrong))

  pub read_field_same : (c : Name) (this : Option ℕ) (x : Name) → Same (read_field c this x)
  read_field_same c this x = then_same (found_same this) (λ o. then_same (object_of_same c o)
      (λ i. found_same (find bytes_eq x i.fields)))

  -- Messages.

  peer_same : (inputs : Inputs) (q : Name) → Same (peer inputs q)
  peer_same inputs q = there_or_same (NoPeer q) (messages_of inputs q)

  next_message_same : (inputs : Inputs) (q : Name) → Same (next_message inputs q)
  next_message_same inputs q = then_same (peer_same inputs q)
      (λ ms. then_same h.happened (λ events. there_or_same (Wait q) (slice_get ms (taken q events))))

  sends_same : (inputs : Inputs) (q l : Name) (payload : Carried) → Same (sends inputs q l payload)
  sends_same inputs q l payload = then_same (peer_same inputs q) (λ ms. then_same (h.on_send q l payload) (λ u. give_same None))

  looks_same : (inputs : Inputs) (q : Name) → Same (looks inputs q)
  looks_same inputs q = then_same (next_message_same inputs q)
      (λ m. then_same (h.on_look q m.label) (λ u. give_same (Some (Text m.label))))

  takes_same : (inputs : Inputs) (f : Carried → Option (Option Value)) (q l : Name) → Same (takes inputs f q l)
  takes_same inputs f q l = then_same (next_message_same inputs q) (λ m.
      then_same (there_or_same (Mismatch q m.label) (if bytes_eq m.label l then f m.payload else None))
      (λ r. then_same (h.on_take q m.label m.payload) (λ u. give_same r)))

  refuses_same : (inputs : Inputs) (q f : Name) → Same (refuses inputs q f)
  refuses_same inputs q f = then_same (peer_same inputs q) (λ ms. stop_same (Mismatch q f))

  -- two texts first
  texts_same : (v w : Value) (f : List ℕ → List ℕ → Run Shared (Option Value)) → ((q l : List ℕ) → Same (f q l)) → Same
      (text v >>= λ q. text w >>= λ l. f q l)
  texts_same v w f e = then_same (text_same v) (λ q. then_same (text_same w) (λ l. e q l))

  pub session_same : (inputs : Inputs) (call : SessionCall) (vs : List Value) → Same (session inputs call vs)
  session_same i Send (q ∷ l ∷ []) = texts_same q l _ (λ q l. sends_same i q l carried.Nothing)
  session_same i SendInt (q ∷ l ∷ v ∷ []) = texts_same q l _ (λ q l. then_same (number_same v) (λ z. sends_same i q l (carried.Int z)))
  session_same i SendBoolean (q ∷ l ∷ v ∷ []) = texts_same q l _ (λ q l. then_same (truth_same v) (λ b. sends_same i q l (carried.Truth b)))
  session_same i SendString (q ∷ l ∷ v ∷ []) = texts_same q l _ (λ q l. then_same (text_same v) (λ t. sends_same i q l (carried.Text t)))
  session_same i Look (q ∷ []) = then_same (text_same q) (λ q. looks_same i q)
  session_same i Take (q ∷ l ∷ []) = texts_same q l _ (λ q l. takes_same i nothing_in q l)
  session_same i TakeInt (q ∷ l ∷ []) = texts_same q l _ (λ q l. takes_same i int_in q l)
  session_same i TakeBoolean (q ∷ l ∷ []) = texts_same q l _ (λ q l. takes_same i truth_in q l)
  session_same i TakeString (q ∷ l ∷ []) = texts_same q l _ (λ q l. takes_same i text_in q l)
  session_same i Refuse (q ∷ f ∷ []) = texts_same q f _ (λ q f. refuses_same i q f)
  session_same i _ _ = stop_same Wrong

-- The others.

module _ (R : Relation Shared Shared) (h : Shares R) where
  pub write_field_same : (c : Name) (this : Option ℕ) (x : Name) (v : Value) → Same R (tells h) (write_field c this x v)
  write_field_same c this x v =
      let t : Tells R = tells h in
      then_same R t (found_same R t this) (λ o. then_same R t (object_of_same R t c o) (λ i.
      then_same R t (found_same R t (put bytes_eq x v i.fields)) (λ row. then_same R t h.objects
      (λ heap. h.with_objects (slice_set heap o (record i { fields = row }))))))

  pub make_same : (i : Instance) → Same R (tells h) (make i)
  make_same i =
      let t : Tells R = tells h in
      then_same R t h.objects (λ heap. then_same R t (h.with_objects (heap ++ i ∷ [])) (λ u.
      then_same R t (h.note (seen.Made (length heap) i.class)) (λ u. give_same R t (Object (length heap)))))

  pub telling_same : (o : ℕ) (m : Name) {call call' : Run Shared (Option Value)} → Equals R (tells h) call call' →
      Equals R (tells h) (telling o m call) (telling o m call')
  telling_same o m e =
      let t : Tells R = tells h in
      then_same R t (h.note (seen.Enter o m)) (λ u. then_same R t e
      (λ r. then_same R t (h.note (seen.Leave o (answer_of r))) (λ u. give_same R t r)))
