-- The counter meets the conditions of a core.
use Rattle.std.proofs.Common.{◌≡◌, ◌≢◌, inl, inr, ℕ, zero, suc, ◌<◌, Bool, true, false, ◌&&◌, ◌||◌, not, List, [], ◌∷◌, length, Some, refl}
use Rattle.std.proofs.Common.{sym, ap, ◌∙◌, subst, arith, true≢false}
use Rattle.std.specs.Prelude.{slice_get, slice_index_or, Contains, codes}
use Rattle.std.specs.List.{list_any}
use Rattle.std.specs.Str.{bytes_eq}
use Rattle.std.proofs.lemmas.Slice.Eq.{bytes_eq-Decides}
use Rattle.mg_text.specs.Call.{Name}
use Rattle.ts_tree.specs.Proper.{AreDistinct}
use Rattle.ts_tree.specs.Typestate as protocols
use Rattle.jv_core.specs.declared.tree.Var.TheVariants as vars
use Rattle.jv_core.specs.declared.program.CoreType.TheVariants as types
use Rattle.jv_core.specs.Tree.{Class, Method}
use Rattle.jv_core.specs.Lookup.{text_at, slot_type, slot_text, field_type, IsInstance}
use Rattle.jv_core.specs.Types.{HasTypestate, IsVariable}
use Rattle.jv_core.specs.Types
use Rattle.jv_core.specs.Statements
use Rattle.jv_core.specs.Completes.{Completes}
use Rattle.jv_core.specs.Members.{type_names, built_in_classes, Performs, IsNamedByTypestate, IsProtocolOf}
use Rattle.jv_core.specs.Conditions.{IsClass, IsMethod, IsCore}
use Rattle.jv_sound.specs.Counter.{program, counter, main_class, live, protocol, tick_call, add_call, stop_call, tick, add, stop, step}
use Rattle.jv_sound.specs.Counter.{main}
use Rattle.jv_sound.proofs.Lists.{some_is, in_tail, none_in, is_first, in_more}

first_false : (a b : Bool) → (a || b) ≡ false → a ≡ false
first_false false b e = refl
first_false true b e = absurd (cc)

second_false : (a b : Bool) → (a || b) ≡ false → b ≡ false
second_false false b e = e
second_false true b e = absurd (cc)

-- a name that is none of these
not_in : (xs : List Name) (x : Name) → list_any (bytes_eq x) xs ≡ false → Contains xs x → ⊥
not_in [] x e c = none_in x c
not_in (y ∷ xs) x e c = not_in xs x (second_false (bytes_eq x y) (list_any (bytes_eq x) xs) e)
    (in_tail y x xs c (λ is. true≢false (sym ((bytes_eq-Decides x y).1 (sym is))
    ∙ first_false (bytes_eq x y) (list_any (bytes_eq x) xs) e)))

abbrev apart : List Name → Bool
apart [] = true
apart (x ∷ xs) = not (list_any (bytes_eq x) xs) && apart xs

left_true : (a b : Bool) → (not a && b) ≡ true → a ≡ false
left_true false b e = refl
left_true true b e = absurd (cc)

right_true : (a b : Bool) → (not a && b) ≡ true → b ≡ true
right_true false b e = e
right_true true b e = absurd (cc)

are_apart : (xs : List Name) → apart xs ≡ true → AreDistinct xs
are_apart [] e = tt
are_apart (x ∷ xs) e = (
  not_in xs x (left_true (list_any (bytes_eq x) xs) (apart xs) e),
  are_apart xs
      (right_true (list_any (bytes_eq x) xs) (apart xs) e),
)

by_case : {A : Type 0} (P : A → Type 0) (x : A) (xs : List A) (y : A) → P x → (Contains xs y → P y) → Contains (x ∷ xs) y → P y
by_case P x xs y first rest c = go c.0 c.1 c.2
  where
    go : (k : ℕ) → k < length (x ∷ xs) → slice_index_or (x ∷ xs) k y ≡ y → P y
    go zero lt e = subst P e first
    go (suc k) lt e = rest (k, omega arith, e)

-- no name of some is one of others
strangers : (xs ys : List Name) → list_any (λ x. list_any (bytes_eq x) ys) xs ≡ false → (n : Name) → Contains xs n → Contains ys n → ⊥
strangers [] ys e n c d = none_in n c
strangers (x ∷ xs) ys e n c d = go (strangers xs ys
    (second_false (list_any (bytes_eq x) ys) (list_any (λ x. list_any (bytes_eq x) ys) xs) e) n) (by_case (λ n. Contains ys n → ⊥) x xs n)
  where
    go : (Contains xs n → Contains ys n → ⊥) → ((Contains ys x → ⊥) → (Contains xs n → Contains ys n → ⊥) → Contains (x ∷ xs) n →
        Contains ys n → ⊥) → ⊥
    go ih cases = cases (not_in ys x (first_false (list_any (bytes_eq x) ys) (list_any (λ x. list_any (bytes_eq x) ys) xs) e)) ih c d

counter_has : HasTypestate program 0
counter_has = record { class = counter; at = refl; typestate = 0; is = refl }

tick_performed : Performs program 0 tick_call
tick_performed = record { method = tick; of = (0, refl, refl); instance = tt; name = refl; result = refl; params = tt; answers = tt }

add_performed : Performs program 0 add_call
add_performed = record {
  method = add;
  of = (1, refl, refl);
  instance = tt;
  name = refl;
  result = refl;
  params = (refl, tt);
  answers =
      tt;
}

stop_performed : Performs program 0 stop_call
stop_performed = record { method = stop; of = (2, refl, refl); instance = tt; name = refl; result = refl; params = tt; answers = tt }

performed : (offered : protocols.Method) → Contains live.methods offered → Performs program 0 offered
performed offered = by_case (Performs program 0) tick_call (add_call ∷ stop_call ∷ []) offered tick_performed
    (by_case (Performs program 0) add_call (stop_call ∷ []) offered add_performed
    (by_case (Performs program 0) stop_call [] offered stop_performed (λ c. absurd (none_in offered c))))

keeps_to : IsProtocolOf program 0 0
keeps_to = record {
  typestate = protocol;
  at = refl;
  performs = λ offered is. by_case (λ s. Contains s.methods offered → Performs program 0 offered) live [] is.0 (performed offered)
      (λ c. absurd (none_in is.0 c)) is.1 is.2;
}

counter_ok : IsClass program 0 counter
counter_ok = record {
  name = omega arith;
  methods = refl;
  fields = (record { name = omega arith; type = tt; begins = tt }, tt);
  fields_apart = are_apart (codes "n" ∷ []) refl;
  methods_apart = are_apart (codes "tick" ∷ codes "add" ∷ codes "stop" ∷ []) refl;
  keeps = keeps_to;
}

zero_one : zero ≡ suc zero → ⊥
zero_one e = cc

no_instance : (n : ℕ) (m : Method) → slice_get program.methods n ≡ Some m → m.class ≡ 1 → IsInstance m.kind → ⊥
no_instance zero m e c i = absurd (zero_one (subst (λ m. m.class ≡ 1) (sym (some_is e)) c))
no_instance (suc zero) m e c i = absurd (zero_one (subst (λ m. m.class ≡ 1) (sym (some_is e)) c))
no_instance (suc (suc zero)) m e c i = absurd (zero_one (subst (λ m. m.class ≡ 1) (sym (some_is e)) c))
no_instance (suc (suc (suc zero))) m e c i = subst (λ m. IsInstance m.kind) (sym (some_is e)) i
no_instance (suc (suc (suc (suc zero)))) m e c i = subst (λ m. IsInstance m.kind) (sym (some_is e)) i
no_instance (suc (suc (suc (suc (suc n))))) m e c i = absurd (cc)

main_class_ok : IsClass program 1 main_class
main_class_ok = record {
  name = omega arith;
  methods = refl;
  fields = tt;
  fields_apart = tt;
  methods_apart = are_apart (codes "step" ∷ codes "main" ∷ []) refl;
  keeps = record { fields = refl; methods = λ m of i. no_instance of.0 m of.1 of.2 i };
}

classes_ok : (c : ℕ) (k : Class) → slice_get program.classes c ≡ Some k → IsClass program c k
classes_ok zero k e = subst (IsClass program 0) (some_is e) counter_ok
classes_ok (suc zero) k e = subst (IsClass program 1) (some_is e) main_class_ok
classes_ok (suc (suc c)) k e = absurd (cc)

named : (m : Method) (offered : protocols.Method) → m.class ≡ 0 → Contains live.methods offered →
    offered.name ≡ text_at program m.name → IsNamedByTypestate program m
named m offered c is e = record {
  class = counter;
  at = ap (slice_get program.classes) c;
  number = 0;
  has = refl;
  typestate = protocol;
  typestate_at = refl;
  offered = offered;
  is_offered = (live, is_first live [], is);
  name = e;
}

-- the own field n
field : (m : Method) (scope : List ℕ) → IsInstance m.kind → m.class ≡ 0 → IsVariable program m scope (vars.Field 0) types.Int
field m scope i c = record { visible = i; type = ap (λ c. field_type program c 0) c }

tick_ok : IsMethod program tick
tick_ok = record {
  class = counter;
  class_at = refl;
  name = omega arith;
  kind = named tick tick_call refl (is_first tick_call (add_call ∷ stop_call ∷ [])) refl;
  result = tt;
  slots = tt;
  count = omega arith;
  numbered = record { params = omega arith; slots = refl; loops = refl };
  params_apart = tt;
  body = Statements.then (Statements.assign (field tick [] tt refl) (Types.sum (Types.variable (field tick [] tt refl)) Types.int))
      (Statements.then (Statements.print (Types.variable (field tick [] tt refl)) tt) Statements.no_stmt);
  returns = λ v c. absurd (v refl);
}

add_ok : IsMethod program add
add_ok = record {
  class = counter;
  class_at = refl;
  name = omega arith;
  kind = named add add_call refl (in_more tick_call add_call (add_call ∷ stop_call ∷ []) (is_first add_call (stop_call ∷ []))) refl;
  result = tt;
  slots = (record { name = omega arith; type = tt }, tt);
  count = omega arith;
  numbered = record { params = omega arith; slots = refl; loops = refl };
  params_apart = are_apart (codes "k" ∷ []) refl;
  body = Statements.then (Statements.assign (field add (0 ∷ []) tt refl)
      (Types.sum (Types.variable (field add (0 ∷ []) tt refl))
      (Types.variable (record { visible = is_first 0 []; type = refl })))) Statements.no_stmt;
  returns = λ v c. absurd (v refl);
}

stop_ok : IsMethod program stop
stop_ok = record {
  class = counter;
  class_at = refl;
  name = omega arith;
  kind = named stop stop_call refl (in_more tick_call stop_call (add_call ∷ stop_call ∷ [])
      (in_more add_call stop_call (stop_call ∷ []) (is_first stop_call []))) refl;
  result = tt;
  slots = tt;
  count = omega arith;
  numbered = record { params = omega arith; slots = refl; loops = refl };
  params_apart = tt;
  body = Statements.then (Statements.print (Types.text_and Types.text (Types.variable (field stop [] tt refl)) tt) tt) Statements.no_stmt;
  returns = λ v c. absurd (v refl);
}

-- a slot in scope
slot_0 : (m : Method) (k : ℕ) (scope : List ℕ) (t : _) → Contains scope k → slot_type m k ≡ Some t →
    IsVariable program m scope (vars.Slot k) t
slot_0 m k scope t c e = record { visible = c; type = e }

object_value : types.Object 0 ≢ types.Void
object_value e = cc

step_returns : Completes step.body → ⊥
step_returns (inl no_end) = no_end.0 refl
step_returns (inr (go_on, inl returns)) = returns.1
step_returns (inr (go_on, inr returns)) = returns.0

step_ok : IsMethod program step
step_ok = record {
  class = main_class;
  class_at = refl;
  name = omega arith;
  kind = tt;
  result = counter_has;
  slots = (record { name = omega arith; type = counter_has }, (record { name = omega arith; type = tt }, tt));
  count = omega arith;
  numbered = record { params = omega arith; slots = refl; loops = refl };
  params_apart = are_apart (codes "c" ∷ codes "n" ∷ []) refl;
  body =
      let c = slot_0 step 0 (1 ∷ 0 ∷ []) (types.Object 0) (in_more 1 0 (0 ∷ []) (is_first 0 [])) refl in
      let n = slot_0 step 1 (1 ∷ 0 ∷ []) types.Int (is_first 1 (0 ∷ [])) refl in
      Statements.then (Statements.if_true (Types.ordered tt (Types.variable n) Types.int) (Statements.block
      (Statements.then (Statements.eval (Types.protocol {k = tick} c (record { at = refl; kind_is = refl }) Types.no_args refl
      (λ f. absurd f)))
      (Statements.then (Statements.return (
        object_value,
        Types.static {k = step} (record { at = refl; kind_is = refl })
            (Types.arg (Types.variable c) (Types.arg (Types.computed tt (Types.variable n) Types.int) Types.no_args)) refl,
      )) Statements.no_stmt))))
      (Statements.then (Statements.return (object_value, Types.variable c)) Statements.no_stmt);
  returns = λ v c. step_returns c;
}

new_slot : (j : ℕ) → Contains (0 ∷ []) j → slot_text program main j ≢ slot_text program main 1
new_slot j = by_case (λ j. slot_text program main j ≢ slot_text program main 1) 0 [] j
    (λ e. true≢false (sym ((bytes_eq-Decides (codes "x") (codes "i")).1 (some_is e)))) (λ c. absurd (none_in j c))

main_ok : IsMethod program main
main_ok = record {
  class = main_class;
  class_at = refl;
  name = omega arith;
  kind = record { name = refl; result = refl; params = refl };
  result = tt;
  slots = (record { name = omega arith; type = counter_has }, (record { name = omega arith; type = tt }, tt));
  count = omega arith;
  numbered = record { params = omega arith; slots = refl; loops = refl };
  params_apart = tt;
  body =
      let x = slot_0 main 0 (1 ∷ 0 ∷ []) (types.Object 0) (in_more 1 0 (0 ∷ []) (is_first 0 [])) refl in
      let i = slot_0 main 1 (1 ∷ 0 ∷ []) types.Int (is_first 1 (0 ∷ [])) refl in
      Statements.declare (record { type = types.Object 0; is = refl; value = Types.new counter_has; new = λ j c. absurd (none_in j c) })
      (Statements.declare (record { type = types.Int; is = refl; value = Types.int; new = new_slot })
      (Statements.then (Statements.while_true (record { loop = _; at = refl; scope_is = refl })
      (Types.ordered tt (Types.variable i) Types.int) (Statements.block
      (Statements.then (Statements.assign x (Types.static {k = step} (record { at = refl; kind_is = refl })
      (Types.arg (Types.variable x) (Types.arg (Types.variable i) Types.no_args)) refl))
      (Statements.then (Statements.assign i (Types.sum (Types.variable i) Types.int)) Statements.no_stmt))))
      (Statements.then (Statements.eval (Types.protocol {k = stop} x (record { at = refl; kind_is = refl }) Types.no_args refl
      (λ f. absurd f))) Statements.no_stmt)));
  returns = λ v c. absurd (v refl);
}

pub counter_is_core : IsCore program
counter_is_core = record {
  named_apart = record {
    types = are_apart (type_names program) refl;
    not_built_in =
        strangers (type_names program) built_in_classes refl;
    typestates = are_apart (codes "CounterProtocol" ∷ []) refl;
  };
  classes = classes_ok;
  enums = tt;
  methods = (tick_ok, (add_ok, (stop_ok, (step_ok, (main_ok, tt)))));
}
