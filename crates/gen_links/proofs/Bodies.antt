-- All instructions of a method of a core link.
use Rattle.std.proofs.Common.{◌≡◌, inl, inr, ℕ, suc, pos, ◌+◌, ◌<◌, List, [], ◌∷◌, length}
use Rattle.std.proofs.Common.{Bool, true, false, Option, Some, None, Ok, slice_get, option_map}
use Rattle.std.proofs.Common.{option_and_then, refl, sym, subst, arith}
use Rattle.std.specs.List.{AllByRecursion}
use Rattle.mg_text.specs.declared.place.Place.{Place}
use Rattle.cls_tree.specs.declared.opcodes.TheConstants.{INVOKESTATIC}
use Rattle.cls_tree.specs.Pool.{Reference}
use Rattle.jv_tree.specs.declared.tree.Op.{Op}
use Rattle.jv_tree.specs.declared.tree.Op.TheVariants as ops
use Rattle.jv_core.specs.declared.tree.Var.{Var}
use Rattle.jv_core.specs.declared.tree.Var.TheVariants as vars
use Rattle.jv_tree.specs.declared.built_in.SessionCall.{SessionCall}
use Rattle.jv_tree.specs.declared.built_in.SessionCall.TheVariants as calls
use Rattle.jv_core.specs.declared.program.CoreType.{CoreType}
use Rattle.jv_core.specs.declared.program.CoreType.TheVariants as types
use Rattle.jv_core.specs.Tree.{Expr, Int, Truth, Text, Null, Variable, Constant, Neg}
use Rattle.jv_core.specs.Tree.{Not, Binary, Protocol, Helper, Static, Equals, Concat, Session, New}
use Rattle.jv_core.specs.Tree.{Exprs}
use Rattle.jv_core.specs.Tree.{Stmt, Return, Stmts, Groups, Field, Class, Method, Program}
use Rattle.jv_core.specs.Types as typing
use Rattle.jv_core.specs.Types.{Has, HasAll, IsVariable, IsCalled}
use Rattle.jv_core.specs.Statements as fine
use Rattle.jv_core.specs.Statements.{Target, Fine, FineAll, FineGroups, MayReturn}
use Rattle.jv_core.specs.Conditions.{IsMethod}
use Rattle.jv_core.specs.Lookup.{variable_type, field_type}
use Rattle.vm_model.specs.Types.{signature_of, type_of}
use Rattle.vm_model.specs.Program as machine
use Rattle.vm_model.specs.declared.linked.Built.{Built}
use Rattle.vm_model.specs.declared.linked.Built.TheVariants as built
use Rattle.vm_model.specs.Linked.{fits_code}
use Rattle.vm_model.specs.Links.{Outline, member_args, method_types, judged_reference}
use Rattle.vm_model.specs.BuiltIns.{object_class}
use Rattle.gen_rules.specs.Symbolic.{Instr, push}
use Rattle.gen_rules.specs.Symbolic.{ifeq, ifne, ifnull, ifnonnull, if_icmp, opposite, goto}
use Rattle.gen_rules.specs.Symbolic.{tableswitch, return, return_value, getstatic}
use Rattle.gen_rules.specs.Symbolic.{invokevirtual, invokespecial, invokestatic, pop}
use Rattle.gen_rules.specs.Classes.{push_constant, initialised, all_initialised, constructor_code}
use Rattle.gen_rules.specs.Members.{init_of, session_reference}
use Rattle.gen_rules.specs.Members.{out_reference, println_reference, concat_reference, equals_reference, value_of_int, value_of_truth}
use Rattle.gen_rules.specs.Typed as typed
use Rattle.gen_rules.specs.Typed.{joins}
use Rattle.gen_rules.specs.Locals.{local_of, params_in_scope}
use Rattle.gen_rules.specs.Around.{Around, break_to, continue_to}
use Rattle.gen_rules.specs.Around as around
use Rattle.gen_rules.specs.Cases.{default_at, targets, positions}
use Rattle.gen_rules.specs.Templates.{Compared, Both, LeftAlone, RightAlone, compared}
use Rattle.gen_rules.specs.inner.Generating as pieces
use Rattle.gen_rules.specs.inner.Generating.{Piece, Jumping, Pieces, Flowing, Grouped, aiming, empty, single}
use Rattle.gen_rules.specs.inner.Generating.{◌and◌, within, forked, flowing, grouped, testing, comparing, generated}
use Rattle.gen_rules.proofs.Generates.{method_stands}
use Rattle.gen_links.specs.Right.{IsRight, AreRight}
use Rattle.gen_links.specs.Known.{Knows, IsCalledBy, CodeIsRight}
use Rattle.gen_links.proofs.Pieces.{Right, right_both, IsRightPiece, right_empty}
use Rattle.gen_links.proofs.Pieces.{right_single, right_and, right_within, right_forked, AllRight}
use Rattle.gen_links.proofs.Pieces.{right_jump, right_plain, right_push, right_load, right_store, right_table}
use Rattle.gen_links.proofs.Pieces.{AroundRight, right_outside, right_loop, right_switch}
use Rattle.gen_links.proofs.Pieces.{RightFlow, RightGroups, default_leads, targets_lead}

-- Members of built-in classes.

module _ (os : List Outline) (n : ℕ) where
  right_out : IsRight os n (getstatic out_reference)
  unfolding type_of
  right_out = (inl refl, record { args = machine.Built built.Out; judged = refl; found = refl; fits = refl })

  right_println : IsRight os n (invokevirtual println_reference)
  unfolding signature_of
  right_println = (inl refl, record { args = machine.Built built.Println; judged = refl; found = refl; fits = refl })

  right_concat : IsRight os n (invokevirtual concat_reference)
  unfolding signature_of
  right_concat = (inl refl, record { args = machine.Built built.Concat; judged = refl; found = refl; fits = refl })

  right_equals : IsRight os n (invokevirtual equals_reference)
  unfolding signature_of
  right_equals = (inl refl, record { args = machine.Built built.Equals; judged = refl; found = refl; fits = refl })

  right_of_int : IsRight os n (invokestatic value_of_int)
  unfolding signature_of
  right_of_int = (inr (inr refl), record { args = machine.Built built.ValueOfInt; judged = refl; found = refl; fits = refl })

  right_of_truth : IsRight os n (invokestatic value_of_truth)
  unfolding signature_of
  right_of_truth = (inr (inr refl), record { args = machine.Built built.ValueOfTruth; judged = refl; found = refl; fits = refl })

  -- a static member of a built-in class, in the form in which it is judged
  right_static : (r : Reference) (b : Built) →
      judged_reference os INVOKESTATIC r (method_types r.member.name r.member.descriptor) ≡ Ok (machine.Built b) →
      member_args os INVOKESTATIC r ≡ Some (machine.Built b) → fits_code n INVOKESTATIC (machine.Built b) ≡ true →
      IsRight os n (invokestatic r)
  right_static r b judged found fits =
      (inr (inr refl), record { args = machine.Built b; judged = judged; found = found; fits = fits })

  right_session : (p : Program) (c : SessionCall) → IsRight os n (invokestatic (session_reference p c))
  unfolding signature_of
  right_session p calls.Send = right_static (session_reference p calls.Send) built.Send refl refl refl
  right_session p calls.SendInt = right_static (session_reference p calls.SendInt) built.SendInt refl refl refl
  right_session p calls.SendBoolean = right_static (session_reference p calls.SendBoolean) built.SendTruth refl refl refl
  right_session p calls.SendString = right_static (session_reference p calls.SendString) built.SendText refl refl refl
  right_session p calls.Look = right_static (session_reference p calls.Look) built.Look refl refl refl
  right_session p calls.Take = right_static (session_reference p calls.Take) built.Take refl refl refl
  right_session p calls.TakeInt = right_static (session_reference p calls.TakeInt) built.TakeInt refl refl refl
  right_session p calls.TakeBoolean = right_static (session_reference p calls.TakeBoolean) built.TakeTruth refl refl refl
  right_session p calls.TakeString = right_static (session_reference p calls.TakeString) built.TakeText refl refl refl
  right_session p calls.Refuse = right_static (session_reference p calls.Refuse) built.Refuse refl refl refl

  -- Pieces.

  right_testing : (v : Piece) (test : (target : ℕ) → Instr) → ((l : ℕ) → l < n → IsRight os n (test l)) → IsRightPiece os n v →
      (l : ℕ) → l < n → IsRightPiece os n (aiming (testing v test) l)
  right_testing v test t h l lt = right_and os n v (single (test l)) h (right_single os n (test l) (t l lt))

  right_ifeq : (l : ℕ) → l < n → IsRight os n (ifeq l)
  right_ifeq l h = right_jump os n 153 l refl h

  right_ifne : (l : ℕ) → l < n → IsRight os n (ifne l)
  right_ifne l h = right_jump os n 154 l refl h

  right_ifnull : (l : ℕ) → l < n → IsRight os n (ifnull l)
  right_ifnull l h = right_jump os n 198 l refl h

  right_ifnonnull : (l : ℕ) → l < n → IsRight os n (ifnonnull l)
  right_ifnonnull l h = right_jump os n 199 l refl h

  right_goto : (l : ℕ) → l < n → IsRight os n (goto l)
  right_goto l h = right_jump os n 167 l refl h

  right_compare : (o : Op) (l : ℕ) → l < n → IsRight os n (if_icmp o l)
  right_compare ops.Eq l h = right_jump os n 159 l refl h
  right_compare ops.Ne l h = right_jump os n 160 l refl h
  right_compare ops.Lt l h = right_jump os n 161 l refl h
  right_compare ops.Ge l h = right_jump os n 162 l refl h
  right_compare ops.Gt l h = right_jump os n 163 l refl h
  right_compare ops.Le l h = right_jump os n 164 l refl h
  right_compare ops.Or l h = right_jump os n 159 l refl h
  right_compare ops.And l h = right_jump os n 159 l refl h
  right_compare ops.Add l h = right_jump os n 159 l refl h
  right_compare ops.Sub l h = right_jump os n 159 l refl h
  right_compare ops.Mul l h = right_jump os n 159 l refl h
  right_compare ops.Div l h = right_jump os n 159 l refl h
  right_compare ops.Rem l h = right_jump os n 159 l refl h

  valued_right : (v : Piece) → IsRightPiece os n v → AllRight os n (pieces.valued v)
  valued_right v h = record { value = h; unless = right_testing v ifeq right_ifeq h; when = right_testing v ifne right_ifne h }

  jumped_right : (u w : Jumping) → ((l : ℕ) → l < n → IsRightPiece os n (aiming u l)) → ((l : ℕ) → l < n →
      IsRightPiece os n (aiming w l)) →
      AllRight os n (pieces.jumped u w)
  jumped_right u w hu hw = record {
    value = right_forked os n (u.size + 1 + 1) 1
        (λ from f to. aiming u f and single (push (pos 1)) and single (goto to)) (λ from f to. single (push (pos 0)))
        (λ from f to. refl) (λ from f to. refl)
        (λ from f to a b c. right_and os n _ _ (right_and os n _ _ (hu f b) (right_single os n _ (right_push os n (pos 1))))
        (right_single os n _ (right_goto to c)))
        (λ from f to a b c. right_single os n _ (right_push os n (pos 0)));
    unless = hu;
    when = hw;
  }

  jumps_right : (a b : Jumping) → ((l : ℕ) → l < n → IsRightPiece os n (aiming a l)) → ((l : ℕ) → l < n →
      IsRightPiece os n (aiming b l)) →
      (l : ℕ) → l < n → IsRightPiece os n (aiming (pieces.jumps_then a b) l)
  jumps_right a b ha hb l h = right_and os n _ _ (ha l h) (hb l h)

  skips_right : (a b : Jumping) → ((l : ℕ) → l < n → IsRightPiece os n (aiming a l)) → ((l : ℕ) → l < n →
      IsRightPiece os n (aiming b l)) →
      (l : ℕ) → l < n → IsRightPiece os n (aiming (pieces.skips_then a b) l)
  skips_right a b ha hb l h =
      right_within os n (a.size + b.size) (λ from to. aiming a to and aiming b l) (λ from to. refl)
      (λ from to f t. right_and os n _ _ (ha to t) (hb l h))

-- a field of a class, where its type is known
record IsThere (p : Program) (c f : ℕ) : Type 0 where
  class : Class
  field : Field
  at : slice_get p.classes c ≡ Some class
  of : slice_get class.fields f ≡ Some field

none-is-not : {A : Type 0} {x : A} → None ≡ Some x → ⊥
none-is-not h = cc

is_there : (p : Program) (c f : ℕ) (t : CoreType) → field_type p c f ≡ Some t → IsThere p c f
is_there p c f t = with_class (slice_get p.classes c) refl
  where
    with_field : (k : Class) → slice_get p.classes c ≡ Some k → (o : Option Field) → slice_get k.fields f ≡ o →
        option_map (λ d. d.ty) o ≡ Some t → IsThere p c f
    with_field k e None g h = absurd (none-is-not h)
    with_field k e (Some d) g h = record { class = k; field = d; at = e; of = g }

    with_class : (o : Option Class) → slice_get p.classes c ≡ o →
        option_and_then (λ k. option_map (λ d. d.ty) (slice_get k.fields f)) o ≡ Some t → IsThere p c f
    with_class None e h = absurd (none-is-not h)
    with_class (Some k) e h = with_field k e (slice_get k.fields f) refl h

module _ (os : List Outline) (p : Program) (m : Method) (n : ℕ) (knows : Knows os p n) where
  variable_right : (scope : List ℕ) (x : Var) (t : CoreType) → variable_type p m x ≡ Some t →
      IsRightPiece os n (pieces.variable p m scope x)
  variable_right scope (vars.Slot k) t h =
      right_single os n _ (right_load os n (pieces.variable_type_of p m (vars.Slot k)) (local_of m.kind scope k))
  variable_right scope (vars.Field f) t h =
      let there = is_there p m.class f t h in
      right_and os n _ _ (right_single os n _ (right_plain os n 42 refl))
      (right_single os n _ (inr (inl refl), knows.field 180 m.class f there.class there.field (inl refl) there.at there.of))

  text_right : (t : Option CoreType) → IsRightPiece os n (pieces.text p m t)
  text_right None = right_empty os n
  text_right (Some types.Void) = right_empty os n
  text_right (Some types.Int) = right_single os n _ (right_of_int os n)
  text_right (Some types.Boolean) = right_single os n _ (right_of_truth os n)
  text_right (Some types.Text) = right_empty os n
  text_right (Some (types.Object c)) = right_empty os n
  text_right (Some (types.Enum e)) = right_empty os n

  always_right : (l : ℕ) → l < n → IsRightPiece os n (aiming pieces.always l)
  always_right l h = right_single os n (goto l) (right_goto os n l h)

  never_right : (l : ℕ) → l < n → IsRightPiece os n (aiming pieces.never l)
  never_right l h = right_empty os n

  literal_right : (b : Bool) → AllRight os n (pieces.literal p m b)
  literal_right true = record { value = right_single os n _ (right_push os n (pos 1)); unless = never_right; when = always_right }
  literal_right false = record { value = right_single os n _ (right_push os n (pos 0)); unless = always_right; when = never_right }

  module _ (a b : Pieces) (ha : AllRight os n a) (hb : AllRight os n b) where
    two_right : (i : Instr) → IsRight os n i → IsRightPiece os n (pieces.two_values a b i)
    two_right i h = right_and os n _ _ (right_and os n _ _ (ha.value) (hb.value)) (right_single os n i h)

    plus_right : (j : Bool) (s t : Option CoreType) → IsRightPiece os n (pieces.plus p m j a b s t)
    plus_right true s t =
        right_and os n _ _ (right_and os n _ _ (right_and os n _ _ (right_and os n _ _ (ha.value) (text_right s)) (hb.value))
        (text_right t))
        (right_single os n _ (right_concat os n))
    plus_right false s t = two_right _ (right_plain os n 96 refl)

    null_right : (v : Piece) → IsRightPiece os n v → AllRight os n (pieces.jumped (testing v ifnonnull) (testing v ifnull))
    null_right v h = jumped_right os n _ _ (right_testing os n v ifnonnull (right_ifnonnull os n) h) (right_testing os n v ifnull
        (right_ifnull os n) h)

    with_null_right : (o : Op) (v : Piece) → IsRightPiece os n v → AllRight os n (pieces.with_null p m o v)
    with_null_right ops.Ne v h =
        jumped_right os n _ _ (right_testing os n v ifnull (right_ifnull os n) h) (right_testing os n v ifnonnull
        (right_ifnonnull os n) h)
    with_null_right ops.Eq v h = null_right v h
    with_null_right ops.Or v h = null_right v h
    with_null_right ops.And v h = null_right v h
    with_null_right ops.Lt v h = null_right v h
    with_null_right ops.Le v h = null_right v h
    with_null_right ops.Gt v h = null_right v h
    with_null_right ops.Ge v h = null_right v h
    with_null_right ops.Add v h = null_right v h
    with_null_right ops.Sub v h = null_right v h
    with_null_right ops.Mul v h = null_right v h
    with_null_right ops.Div v h = null_right v h
    with_null_right ops.Rem v h = null_right v h

    comparing_right : (o : Op) (l : ℕ) → l < n → IsRightPiece os n (aiming (comparing a b (if_icmp o)) l)
    comparing_right o l h = two_right (if_icmp o l) (right_compare os n o l h)

    comparison_right : (o : Op) (c : Compared) → AllRight os n (pieces.comparison p m o c a b)
    comparison_right o Both = jumped_right os n _ _ (comparing_right (opposite o)) (comparing_right o)
    comparison_right o LeftAlone = with_null_right o _ (ha.value)
    comparison_right o RightAlone = with_null_right o _ (hb.value)

    binary_right : (o : Op) (c : Compared) (s t : Option CoreType) → AllRight os n (pieces.binary p m o c a b s t)
    binary_right ops.Or c s t = jumped_right os n _ _ (skips_right os n _ _ (ha.when) (hb.unless)) (jumps_right os n _ _ (ha.when)
        (hb.when))
    binary_right ops.And c s t = jumped_right os n _ _ (jumps_right os n _ _ (ha.unless) (hb.unless)) (skips_right os n _ _
        (ha.unless) (hb.when))
    binary_right ops.Add c s t = valued_right os n _ (plus_right (joins ops.Add s t) s t)
    binary_right ops.Sub c s t = valued_right os n _ (two_right _ (right_plain os n 100 refl))
    binary_right ops.Mul c s t = valued_right os n _ (two_right _ (right_plain os n 104 refl))
    binary_right ops.Div c s t = valued_right os n _ (two_right _ (right_plain os n 108 refl))
    binary_right ops.Rem c s t = valued_right os n _ (two_right _ (right_plain os n 112 refl))
    binary_right ops.Eq c s t = comparison_right ops.Eq c
    binary_right ops.Ne c s t = comparison_right ops.Ne c
    binary_right ops.Lt c s t = comparison_right ops.Lt c
    binary_right ops.Le c s t = comparison_right ops.Le c
    binary_right ops.Gt c s t = comparison_right ops.Gt c
    binary_right ops.Ge c s t = comparison_right ops.Ge c

  module _ (scope : List ℕ) where
    variable_all : (q : Place) (x : Var) (t : CoreType) → IsVariable p m scope x t →
        AllRight os n (pieces.pieces p m scope (Variable q x))
    variable_all q x t h = valued_right os n _ (variable_right scope x t h.type)

    null_all : (q : Place) → AllRight os n (pieces.pieces p m scope (Null q))
    null_all q = valued_right os n _ (right_single os n _ (right_plain os n 1 refl))

    operator_all : (q : Place) (o : Op) (a b : Expr) → AllRight os n (pieces.pieces p m scope a) →
        AllRight os n (pieces.pieces p m scope b) →
        AllRight os n (pieces.pieces p m scope (Binary q o a b))
    operator_all q o a b ha hb = binary_right _ _ ha hb o (compared a b) (typed.type_of p m a) (typed.type_of p m b)

    mutual
      pub expr_right : (e : Expr) (t : CoreType) → Has p m scope e t → AllRight os n (pieces.pieces p m scope e)
      expr_right e t (typing.int {z = z}) = valued_right os n _ (right_single os n _ (right_push os n z))
      expr_right e t (typing.truth {b = b}) = literal_right b
      expr_right e t typing.text = valued_right os n _ (right_single os n _ refl)
      expr_right e t (typing.null {q = q}) = null_all q
      expr_right e t (typing.variable {q = q} {x = x} h) = variable_all q x t h
      expr_right e t (typing.constant {n = k} d l) = valued_right os n _ (right_single os n _ (right_push os n (pos k)))
      expr_right e t (typing.negative {a = a} x) =
          valued_right os n _ (right_and os n _ _ ((expr_right a types.Int x).value) (right_single os n _ (right_plain os n 116 refl)))
      expr_right e t (typing.opposite {a = a} x) =
          jumped_right os n _ _ ((expr_right a types.Boolean x).when) ((expr_right a types.Boolean x).unless)
      expr_right e t (typing.sum {q = q} {a = a} {b = b} x y)
          = operator_all q ops.Add a b (expr_right a types.Int x) (expr_right b types.Int y)
      expr_right e t (typing.text_and {q = q} {a = a} {b = b} {t = u} x y s)
          = operator_all q ops.Add a b (expr_right a types.Text x) (expr_right b u y)
      expr_right e t (typing.and_text {q = q} {a = a} {b = b} {t = u} x s y)
          = operator_all q ops.Add a b (expr_right a u x) (expr_right b types.Text y)
      expr_right e t (typing.computed {q = q} {o = o} {a = a} {b = b} i x y)
          = operator_all q o a b (expr_right a types.Int x) (expr_right b types.Int y)
      expr_right e t (typing.ordered {q = q} {o = o} {a = a} {b = b} i x y)
          = operator_all q o a b (expr_right a types.Int x) (expr_right b types.Int y)
      expr_right e t (typing.logic {q = q} {o = o} {a = a} {b = b} i x y) =
          operator_all q o a b (expr_right a types.Boolean x) (expr_right b types.Boolean y)
      expr_right e t (typing.same {q = q} {o = o} {a = a} {b = b} {t = u} i c x y)
          = operator_all q o a b (expr_right a u x) (expr_right b u y)
      expr_right e t (typing.is_null {q = q} {r = r} {s = s} {o = o} {x = x} {c = c} i h) =
          operator_all q o (Variable r x) (Null s) (variable_all r x (types.Object c) h) (null_all s)
      expr_right e t (typing.null_is {q = q} {r = r} {s = s} {o = o} {x = x} {c = c} i h) =
          operator_all q o (Null r) (Variable s x) (null_all r) (variable_all s x (types.Object c) h)
      expr_right e t (typing.protocol {x = x} {n = k} {k = f} {args = args} v h hs r w) = valued_right os n _
          (right_and os n _ _ (right_and os n _ _ (variable_right scope x.var (types.Object f.class) v.type) (args_right args _ hs))
          (right_single os n _ (inl refl, knows.method 182 k f h.at (subst (λ y. IsCalledBy y 182) (sym h.kind_is) refl))))
      expr_right e t (typing.helper {n = k} {k = f} {args = args} i h o hs r) = valued_right os n _
          (right_and os n _ _ (right_and os n _ _ (right_single os n _ (right_plain os n 42 refl)) (args_right args _ hs))
          (right_single os n _ (inr (inl refl), knows.method 183 k f h.at (subst (λ y. IsCalledBy y 183) (sym h.kind_is) refl))))
      expr_right e t (typing.static {n = k} {k = f} {args = args} h hs r) = valued_right os n _
          (right_and os n _ _ (args_right args _ hs)
          (right_single os n _ (inr (inr refl), knows.method 184 k f h.at (subst (λ y. IsCalledBy y 184) (sym h.kind_is) refl))))
      expr_right e t (typing.equals {a = a} {b = b} x y w) =
          valued_right os n _ (two_right _ _ (expr_right a types.Text x) (expr_right b types.Text y) _ (right_equals os n))
      expr_right e t (typing.concat {a = a} {b = b} x y w) =
          valued_right os n _ (two_right _ _ (expr_right a types.Text x) (expr_right b types.Text y) _ (right_concat os n))
      expr_right e t (typing.session {c = c} {args = args} hs r) =
          valued_right os n _ (right_and os n _ _ (args_right args _ hs) (right_single os n _ (right_session os n p c)))
      expr_right e t (typing.new {c = c} h) = valued_right os n _
          (right_and os n _ _ (right_and os n _ _ (right_single os n _ (refl, (knows.class c h).number, (knows.class c h).is))
          (right_single os n _ (right_plain os n 89 refl))) (right_single os n _ (inr (inl refl), knows.init c h)))

      pub args_right : (args : Exprs) (ts : List CoreType) → HasAll p m scope args ts →
          IsRightPiece os n (pieces.arguments p m scope args)
      args_right args ts typing.no_args = right_empty os n
      args_right args ts (typing.arg {e = e} {more = more} {t = t} {ts = us} x y) =
          right_and os n _ _ ((expr_right e t x).value) (args_right more us y)

  -- Statements.

  store_right : (scope : List ℕ) (k : ℕ) → IsRightPiece os n (pieces.store_in p m scope k)
  store_right scope k = right_single os n _ (right_store os n (pieces.variable_type_of p m (vars.Slot k)) (local_of m.kind scope k))

  assign_right : (scope : List ℕ) (x : Var) (t : CoreType) (v : Piece) → variable_type p m x ≡ Some t → IsRightPiece os n v →
      IsRightPiece os n (pieces.assign p m scope x v)
  assign_right scope (vars.Slot k) t v h r = right_and os n _ _ r (store_right scope k)
  assign_right scope (vars.Field f) t v h r =
      let there = is_there p m.class f t h in
      right_and os n _ _ (right_and os n _ _ (right_single os n _ (right_plain os n 42 refl)) r)
      (right_single os n _ (inr (inr refl), knows.field 181 m.class f there.class there.field (inr refl) there.at there.of))

  discard_right : (t : Option CoreType) → IsRightPiece os n (pieces.discard p m t)
  discard_right None = right_single os n pop (right_plain os n 87 refl)
  discard_right (Some types.Void) = right_empty os n
  discard_right (Some types.Int) = right_single os n pop (right_plain os n 87 refl)
  discard_right (Some types.Boolean) = right_single os n pop (right_plain os n 87 refl)
  discard_right (Some types.Text) = right_single os n pop (right_plain os n 87 refl)
  discard_right (Some (types.Object c)) = right_single os n pop (right_plain os n 87 refl)
  discard_right (Some (types.Enum e)) = right_single os n pop (right_plain os n 87 refl)

  return_right : (t : CoreType) → IsRight os n (return_value t)
  return_right types.Void = right_plain os n 172 refl
  return_right types.Int = right_plain os n 172 refl
  return_right types.Boolean = right_plain os n 172 refl
  return_right types.Text = right_plain os n 176 refl
  return_right (types.Object c) = right_plain os n 176 refl
  return_right (types.Enum e) = right_plain os n 172 refl

  steady_right : (a : Piece) → IsRightPiece os n a → RightFlow os n (pieces.steady a)
  steady_right a h = record { at = λ ts r. h }

  then_right : (s r : Flowing) → RightFlow os n s → RightFlow os n r → RightFlow os n (pieces.flows_then p m s r)
  then_right s r hs hr = record { at = λ ts w. right_and os n (flowing s ts) (flowing r ts) (hs.at ts w) (hr.at ts w) }

  -- a jump where each label of the code is right
  abbrev RightJumping : Jumping → Type 0
  RightJumping c = (l : ℕ) → l < n → IsRightPiece os n (aiming c l)

  if_right : (c : Jumping) (s : Flowing) → RightJumping c → RightFlow os n s → RightFlow os n (pieces.if_true p m c s)
  if_right c s hc hs = record {
    at = λ ts w. right_within os n (c.size + s.size) (λ from to. aiming c to and flowing s ts) (λ from to. refl)
        (λ from to f t. right_and os n _ _ (hc to t) (hs.at ts w));
  }

  if_else_right : (c : Jumping) (s r : Flowing) → RightJumping c → RightFlow os n s → RightFlow os n r →
      RightFlow os n (pieces.if_else p m c s r)
  if_else_right c s r hc hs hr = record {
    at = λ ts w. right_forked os n (c.size + s.size + 1) r.size
        (λ from l to. aiming c l and flowing s ts and single (goto to)) (λ from l to. flowing r ts)
        (λ from l to. refl) (λ from l to. refl)
        (λ from l to x y z. right_and os n _ _ (right_and os n _ _ (hc l y) (hs.at ts w)) (right_single os n _ (right_goto os n to z)))
        (λ from l to x y z. hr.at ts w);
  }

  while_right : (k : ℕ) (c : Jumping) (s : Flowing) → RightJumping c → RightFlow os n s → RightFlow os n (pieces.while_true p m k c s)
  while_right k c s hc hs = record {
    at = λ ts w. right_within os n (c.size + s.size + 1)
        (λ from to. aiming c to and flowing s (around.Loop k to from ∷ ts) and single (goto from)) (λ from to. refl)
        (λ from to f t. right_and os n _ _ (right_and os n _ _ (hc to t) (hs.at (around.Loop k to from ∷ ts)
        (right_loop os n k to from ts t f w)))
        (right_single os n _ (right_goto os n from f)));
  }

  do_right : (k : ℕ) (s : Flowing) (c : Jumping) → RightFlow os n s → RightJumping c → RightFlow os n (pieces.do_while p m k s c)
  do_right k s c hs hc = record {
    at = λ ts w. right_forked os n s.size c.size
        (λ from l to. flowing s (around.Loop k to l ∷ ts)) (λ from l to. aiming c from)
        (λ from l to. refl) (λ from l to. refl)
        (λ from l to x y z. hs.at (around.Loop k to l ∷ ts) (right_loop os n k to l ts z y w)) (λ from l to x y z. hc from x);
  }

  switched_right : (v : Piece) (gs : Groups) (g : Grouped) (ks : List ℕ) → IsRightPiece os n v → RightGroups os n g →
      RightFlow os n (pieces.switched p m v gs g ks)
  switched_right v gs g ks hv hg = record { at = λ ts w. record { at = λ from h. all ts w from h } }
    where
      all : (ts : List Around) → AroundRight os n ts → (from : ℕ) → from + (v.size + 1 + g.size) < n →
          Right os n ((pieces.switch_piece p m v gs g ks ts).list from)
      all ts w from h =
          let to = from + (v.size + 1 + g.size) in
          let starts = g.starts (from + v.size + 1) in
          let within_starts : AllByRecursion (λ s. s < n) starts = hg.starts (from + v.size + 1) (omega (arith, h)) in
          let table = tableswitch (default_at gs starts to) (targets gs starts to ks) in
          let right = right_table os n (default_at gs starts to) (targets gs starts to ks)
          (default_leads os n gs starts to within_starts h) (targets_lead os n gs starts to within_starts h ks) in
          (right_and os n (v and single table) (grouped g (around.Switch to ∷ ts)) (right_and os n v (single table) hv
          (right_single os n table right))
          (hg.at (around.Switch to ∷ ts) (right_switch os n to ts h w))).at from (omega (arith, h))

  no_groups_right : RightGroups os n (pieces.no_groups p m)
  no_groups_right = record { starts = λ from h. tt; at = λ ts w. record { at = λ from h. tt } }

  group_right : (s : Flowing) (g : Grouped) → RightFlow os n s → RightGroups os n g → RightGroups os n (pieces.group_then p m s g)
  group_right s g hs hg = record {
    starts = λ from h. (omega (arith, h), hg.starts (from + s.size) (omega (arith, h)));
    at = λ ts w. right_and os n (flowing s ts) (grouped g ts) (hs.at ts w) (hg.at ts w);
  }

  break_right : (l : Option ℕ) → RightFlow os n (record { size = 1; list = λ ts from. goto (break_to ts l) ∷ [] })
  break_right l = record { at = λ ts w. right_single os n (goto (break_to ts l)) (right_goto os n (break_to ts l) (w.breaks l)) }

  continue_right : (l : ℕ) → RightFlow os n (record { size = 1; list = λ ts from. goto (continue_to ts l) ∷ [] })
  continue_right l = record {
    at = λ ts w. right_single os n (goto (continue_to ts l)) (right_goto os n (continue_to ts l)
        (w.continues l));
  }

  return_statement_right : (scope : List ℕ) (q : Place) (value : Option Expr) → MayReturn p m scope value →
      RightFlow os n (pieces.statement p m scope (Return q value))
  return_statement_right scope q None h = steady_right _ (right_single os n return (right_plain os n 177 refl))
  return_statement_right scope q (Some e) h =
      steady_right _ (right_and os n _ _ ((expr_right scope e m.result h.1).value) (right_single os n _ (return_right m.result)))

  mutual
    pub statement_right : (scope : List ℕ) (ts : List Target) (s : Stmt) → Fine p m scope ts s →
        RightFlow os n (pieces.statement p m scope s)
    statement_right scope ts s (fine.block {body = body} h) = statements_right scope ts body h
    statement_right scope ts s fine.empty = steady_right empty (right_empty os n)
    statement_right scope ts s (fine.local {k = k} {e = e} d) =
        steady_right _ (right_and os n _ _ ((expr_right scope e d.type d.value).value) (store_right (k ∷ scope) k))
    statement_right scope ts s (fine.assign {x = x} {e = e} {t = t} v h) =
        steady_right _ (assign_right scope x.var t (pieces.value p m scope e) v.type ((expr_right scope e t h).value))
    statement_right scope ts s (fine.if_true {c = c} {s = body} h b) =
        if_right _ _ ((expr_right scope c types.Boolean h).unless) (statement_right scope ts body b)
    statement_right scope ts s (fine.if_else {c = c} {s = body} {r = other} h b o) =
        if_else_right _ _ _ ((expr_right scope c types.Boolean h).unless) (statement_right scope ts body b)
        (statement_right scope ts other o)
    statement_right scope ts s (fine.while_true {l = l} {c = c} {s = body} d h b) =
        while_right l _ _ ((expr_right scope c types.Boolean h).unless) (statement_right scope (fine.LoopOf l ∷ ts) body b)
    statement_right scope ts s (fine.do_while {l = l} {c = c} {s = body} d b h) =
        do_right l _ _ (statement_right scope (fine.LoopOf l ∷ ts) body b) ((expr_right scope c types.Boolean h).when)
    statement_right scope ts s (fine.switch {e = e} {gs = gs} {of = of} h c g) =
        switched_right _ gs _ (positions p (typed.type_of p m e)) ((expr_right scope e (types.Enum of) h).value) (groups_right scope
        (fine.ASwitch ∷ ts) gs g)
    statement_right scope ts s (fine.break {l = l} h) = break_right l
    statement_right scope ts s (fine.continue {l = l} h) = continue_right l
    statement_right scope ts s (fine.return {q = q} {value = value} h) = return_statement_right scope q value h
    statement_right scope ts s (fine.print {e = e} {t = t} h i) =
        steady_right _ (right_and os n _ _ (right_and os n _ _ (right_and os n _ _ (right_single os n _ (right_out os n))
        ((expr_right scope e t h).value))
        (text_right (typed.type_of p m e))) (right_single os n _ (right_println os n)))
    statement_right scope ts s (fine.eval {e = e} {t = t} h) =
        steady_right _ (right_and os n _ _ ((expr_right scope e t h).value) (discard_right (typed.type_of p m e)))

    pub statements_right : (scope : List ℕ) (ts : List Target) (s : Stmts) → FineAll p m scope ts s →
        RightFlow os n (pieces.statements p m scope s)
    statements_right scope ts s fine.no_stmt = steady_right empty (right_empty os n)
    statements_right scope ts s (fine.then {s = first} {more = more} h g) =
        then_right _ _ (statement_right scope ts first h) (statements_right scope ts more g)
    statements_right scope ts s (fine.declare {k = k} {e = e} {more = more} d g) =
        then_right _ _ (steady_right _ (right_and os n _ _ ((expr_right scope e d.type d.value).value) (store_right (k ∷ scope) k)))
        (statements_right (k ∷ scope) ts more g)

    pub groups_right : (scope : List ℕ) (ts : List Target) (gs : Groups) → FineGroups p m scope ts gs →
        RightGroups os n (pieces.groups p m scope gs)
    groups_right scope ts gs fine.no_group = no_groups_right
    groups_right scope ts gs (fine.group {body = body} {more = more} h g) =
        group_right _ _ (statements_right scope ts body h) (groups_right scope ts more g)

  end_right : (t : CoreType) (from : ℕ) → Right os n ((pieces.end_of_method p m t).list from)
  end_right types.Void from = (right_plain os n 177 refl, tt)
  end_right types.Int from = (right_push os n (pos 0), (right_plain os n 172 refl, tt))
  end_right types.Boolean from = (right_push os n (pos 0), (right_plain os n 172 refl, tt))
  end_right types.Text from = (right_plain os n 1 refl, (right_plain os n 176 refl, tt))
  end_right (types.Object c) from = (right_plain os n 1 refl, (right_plain os n 176 refl, tt))
  end_right (types.Enum e) from = (right_push os n (pos 0), (right_plain os n 172 refl, tt))

-- each method ends with an instruction at least
some_end : (p : Program) (m : Method) (t : CoreType) → 0 < (pieces.end_of_method p m t).size
some_end p m types.Void = omega arith
some_end p m types.Int = omega arith
some_end p m types.Boolean = omega arith
some_end p m types.Text = omega arith
some_end p m (types.Object c) = omega arith
some_end p m (types.Enum e) = omega arith

-- Constructors.

right_object_init : (os : List Outline) (n : ℕ) → IsRight os n (invokespecial (init_of object_class))
unfolding signature_of
right_object_init os n = (inr (inl refl), record { args = machine.Built built.Init; judged = refl; found = refl; fits = refl })

push_constant_right : (os : List Outline) (n : ℕ) (e : Expr) → IsRight os n (push_constant e)
push_constant_right os n (Int q z) = right_push os n z
push_constant_right os n (Truth q true) = right_push os n (pos 1)
push_constant_right os n (Truth q false) = right_push os n (pos 0)
push_constant_right os n (Text q s) = refl
push_constant_right os n (Constant q e k) = right_push os n (pos k)
push_constant_right os n (Null q) = refl
push_constant_right os n (Variable q x) = refl
push_constant_right os n (Neg q a) = refl
push_constant_right os n (Not q a) = refl
push_constant_right os n (Binary q o a b) = refl
push_constant_right os n (Protocol q x k args) = refl
push_constant_right os n (Helper q k args) = refl
push_constant_right os n (Static q k args) = refl
push_constant_right os n (Equals q a b) = refl
push_constant_right os n (Concat q a b) = refl
push_constant_right os n (Session q c args) = refl
push_constant_right os n (New q c) = refl

module _ (os : List Outline) (p : Program) (n c : ℕ) (k : Class) (knows : Knows os p n) (at : slice_get p.classes c ≡ Some k) where
  initialised_right : (f : ℕ) (d : Field) → slice_get k.fields f ≡ Some d → (e : Option Expr) → Right os n (initialised p c f e)
  initialised_right f d h None = tt
  initialised_right f d h (Some e) =
      (right_plain os n 42 refl, (push_constant_right os n e, ((inr (inr refl), knows.field 181 c f k d (inr refl) at h), tt)))

  -- the fields from number f on
  all_initialised_right : (f : ℕ) (ds : List Field) → ((i : ℕ) (d : Field) → slice_get ds i ≡ Some d →
      slice_get k.fields (f + i) ≡ Some d) →
      Right os n (all_initialised p c f ds)
  all_initialised_right f [] h = tt
  all_initialised_right f (d ∷ ds) h =
      let here : slice_get k.fields f ≡ Some d = subst (λ x. slice_get k.fields x ≡ Some d) (omega arith) (h 0 d refl) in
      right_both os n (initialised p c f d.value) (all_initialised p c (suc f) ds) (initialised_right f d here d.value)
      (all_initialised_right (suc f) ds (λ i x e. subst (λ y. slice_get k.fields y ≡ Some x) (omega arith) (h (suc i) x e)))

  whole_constructor_right : Right os n (constructor_code p c k)
  whole_constructor_right =
      let fields = all_initialised_right 0 k.fields (λ i d e. subst (λ y. slice_get k.fields y ≡ Some d) (omega arith) e) in (
        right_plain os n 42 refl,
        (
          right_object_init os n,
          right_both os n (all_initialised p c 0 k.fields) (return ∷ []) fields (right_plain os n 177 refl, tt),
        ),
      )

pub code_is_right : CodeIsRight
code_is_right = record {
  constructor_right = λ os p c k knows at. whole_constructor_right os p (length (constructor_code p c k)) c k (knows (length
      (constructor_code p c k))) at;
  right = right_of;
}
  where
    right_of : (os : List Outline) (p : Program) (m : Method) → ((count : ℕ) → Knows os p count) → IsMethod p m →
        AreRight os (generated p m)
    right_of os p m knows h =
        let n = length (generated p m) in
        let body = flowing (pieces.statements p m (params_in_scope m) m.body) [] in
        let last = pieces.end_of_method p m m.result in
        let long : n ≡ body.size + last.size = (method_stands p m []).long 0 in
        let some = some_end p m m.result in
        let body_right = (statements_right os p m n (knows n) (params_in_scope m) [] m.body h.body).at [] (right_outside os n (omega
        (arith, long, some))) in
        right_both os n (body.list 0) (last.list (0 + body.size)) (body_right.at 0 (omega (arith, long, some))) (end_right os p m n
        (knows n) m.result (0 + body.size))
