-- The code of plain expressions follows their meaning.
use Rattle.std.proofs.Common.{◌≡◌, ◌≢◌, ℕ, suc, ◌+◌, ◌≤◌, max, true, List, [], ◌∷◌, ◌++◌, length, map, Option, Some, refl, sym, ap, ◌∙◌}
use Rattle.std.proofs.Common.{subst, append-nil, append_assoc, arith, pos}
use Rattle.std.specs.List.{AllByRecursion}
use Rattle.std.proofs.lemmas.List.{length-append}
use Rattle.std.specs.Prelude.{slice_get, option_map, nat_eq, None, Contains}
use Rattle.jv_tree.specs.declared.tree.Op.{Op}
use Rattle.jv_tree.specs.declared.tree.Op.TheVariants as ops
use Rattle.jv_values.specs.Values.{Value, Row, Shared, Inputs, Here, find}
use Rattle.jv_core.specs.declared.tree.Var.{Var}
use Rattle.jv_core.specs.declared.tree.Var.TheVariants as vars
use Rattle.jv_values.specs.Values as values
use Rattle.jv_values.specs.Doing.{Run, Outcome, Gives, Ends, and_then, ◌>>=◌, give, found, valuing}
use Rattle.jv_values.specs.Calls.{suits}
use Rattle.jv_values.specs.Objects.{object_of, telling, make}
use Rattle.mg_text.specs.Call.{Name}
use Rattle.jv_values.specs.Messages.{session}
use Rattle.jv_values.specs.Operators.{applied, Plus, Minus, Times, Divide, Remain, Equal, Unequal, equal_texts, joined_texts}
use Rattle.jv_core.specs.declared.program.CoreType.{CoreType}
use Rattle.jv_core.specs.declared.program.CoreType.TheVariants as types
use Rattle.jv_core.specs.Tree.{Expr, Null, Variable, Constant, Binary, Protocol, Helper, Static, New}
use Rattle.jv_core.specs.Tree.{Session, Exprs}
use Rattle.jv_core.specs.declared.program.MethodKind.TheVariants as kinds
use Rattle.jv_core.specs.Tree.{Class, Method, Program, Enum}
use Rattle.jv_core.specs.Lookup.{text_at, class_text, param_types, IsInstance}
use Rattle.jv_core.specs.Conditions.{IsCore}
use Rattle.jv_core.specs.Types.{IsShown, IsArithmetic, IsLogic, IsOrder, IsEquality, IsCompared, IsVariable, IsCalled, Has, HasAll}
use Rattle.jv_core.specs.Types.{HasTypestate}
use Rattle.jv_core.specs.Types.{session_params, session_result}
use Rattle.jv_core.specs.Types
use Rattle.jv_values.specs.Operators.{operator_of}
use Rattle.jv_core.specs.Meaning.{Lower, result_of, runs_on_object, read, protocol_call, eval, eval_all, new_fields}
use Rattle.vm_model.specs.declared.value.Value.{Value as Held}
use Rattle.vm_model.specs.declared.value.Value.TheVariants as held
use Rattle.vm_model.specs.Program as linked
use Rattle.vm_model.specs.Links.{Outline}
use Rattle.vm_model.specs.Messages.{Messages}
use Rattle.vm_model.specs.Step.{step}
use Rattle.gen_rules.specs.Symbolic.{Instr, load, push, push_text, aconst_null, iadd, isub, imul, idiv, irem, if_icmp, opposite, aload}
use Rattle.gen_rules.specs.Symbolic.{getfield, invokevirtual, invokespecial, invokestatic, new, dup}
use Rattle.gen_rules.specs.Members.{field_reference, method_reference, concat_reference, equals_reference, session_reference, class_name}
use Rattle.gen_rules.specs.Members.{init_of}
use Rattle.gen_rules.specs.Spans.{◌then◌, Forms, one, by_value}
use Rattle.gen_rules.specs.Locals.{first_local, local_of}
use Rattle.gen_rules.specs.Templates.{type_or_int, variable, plus, forms, arguments, comparison, Compared, Both, LeftAlone, RightAlone}
use Rattle.gen_rules.specs.Templates.{compared}
use Rattle.gen_rules.specs.Typed.{joins, type_of}
use Rattle.gen_rules.specs.Frames.{max_stack, Depths, depths, depths_by_value, binary_depths, comparison_depths, left_by}
use Rattle.gen_rules.specs.Frames.{depth_of_arguments}
use Rattle.jv_sound.proofs.Worlds.{World, Extends, further, Runs, Good, Fits, fits_more, AllFit, RowFits, GivesA, Finds, finds}
use Rattle.jv_sound.proofs.Worlds as worlds
use Rattle.jv_sound.proofs.Worlds.{stays as stays_there}
use Rattle.jv_sound.proofs.Objects.{Heap, Owned, owned_more, there, object_is, begun}
use Rattle.jv_sound.proofs.Expressions.{CallsWell, This, method_ok, eval_good, args_good, session_usable}
use Rattle.gen_sound.specs.Following.{Moment, Comes, Follows}
use Rattle.gen_sound.specs.Arriving.{Arrives}
use Rattle.gen_sound.specs.Related.{Running, moment, flat, Laid, LaidObject, RunsCode}
use Rattle.vm_world_law.specs.Meant.{Holds}
use Rattle.gen_sound.proofs.Plain.{IsPlain, ArePlainArgs}
use Rattle.gen_sound.proofs.Steps.{stays, ClosedBefore, follows_later, follows_then}
use Rattle.gen_sound.proofs.Forms.{Does, does_value, Value_at, value_closed, arrives_later, next_place}
use Rattle.gen_sound.proofs.Logic.{not_does, and_does, or_does}
use Rattle.gen_sound.proofs.Pairs.{of_both, value_of_two, jump_of_two, second}
use Rattle.gen_sound.proofs.Sessions.{session_last}
use Rattle.gen_sound.proofs.Operations.{LastUnless, LastWhen, order_unless, order_when, equal_unless, equal_when, unequal_unless}
use Rattle.gen_sound.proofs.Operations.{unequal_when, plus_last, minus_last, times_last, divide_last, remain_last, equals_last, concat_last}
use Rattle.gen_sound.proofs.Comparing.{both_written, written}
use Rattle.gen_sound.proofs.Slots.{laid_at}
use Rattle.gen_sound.proofs.Rows.{fits_sort}
use Rattle.gen_sound.proofs.LocalSteps.{local_does, load_goes}
use Rattle.mg_text.specs.declared.event.Event.TheVariants as seen
use Rattle.gen_sound.proofs.Peers.{seen_holds}
use Rattle.gen_sound.proofs.Fields.{field_reads}
use Rattle.gen_sound.proofs.Making.{state, new_comes}
use Rattle.gen_sound.proofs.Entering.{params_usable, no_void}
use Rattle.gen_sound.proofs.Calling.{CallsDo, static_calls, helper_calls, protocol_calls, null_calls}
use Rattle.gen_sound.proofs.Printing.{shown_type}
use Rattle.gen_sound.proofs.Joining.{joins_does}
use Rattle.gen_sound.proofs.Joining as joining
use Rattle.gen_sound.proofs.Operations.{equals_null, differs_null, null_equals, null_differs}
use Rattle.gen_sound.proofs.Instructions.{push_does}
use Rattle.gen_sound.proofs.Leaves.{constant_does, literal_does, neg_does}

module _ (p : Program) (m : Method) where
  comparing_room : (c : Compared) (d e : Depths) → 1 ≤ (comparison_depths c d e).value
  comparing_room Both d e = omega arith
  comparing_room LeftAlone d e = omega arith
  comparing_room RightAlone d e = omega arith

  binary_room : (o : Op) (c : Compared) (d e : Depths) → 1 ≤ (binary_depths o c d e).value
  binary_room ops.And c d e = omega arith
  binary_room ops.Or c d e = omega arith
  binary_room ops.Add c d e = omega arith
  binary_room ops.Sub c d e = omega arith
  binary_room ops.Mul c d e = omega arith
  binary_room ops.Div c d e = omega arith
  binary_room ops.Rem c d e = omega arith
  binary_room ops.Eq c d e = comparing_room c d e
  binary_room ops.Ne c d e = comparing_room c d e
  binary_room ops.Lt c d e = comparing_room c d e
  binary_room ops.Le c d e = comparing_room c d e
  binary_room ops.Gt c d e = comparing_room c d e
  binary_room ops.Ge c d e = comparing_room c d e

  at_least_one : (a b : ℕ) → b ≡ 1 → 1 ≤ max a b
  at_least_one a b e = omega (arith, e)

  -- a value takes room
  pub takes_room : {sc : List ℕ} {e : Expr} {t : CoreType} → Has p m sc e t → left_by (Some t) ≡ 1 → 1 ≤ (depths p m e).value
  takes_room Types.int g = omega arith
  takes_room Types.truth g = omega arith
  takes_room Types.text g = omega arith
  takes_room Types.null g = omega arith
  takes_room (Types.variable v) g = omega arith
  takes_room (Types.constant is lt) g = omega arith
  takes_room (Types.negative x) g = takes_room x refl
  takes_room (Types.opposite x) g = omega arith
  takes_room (Types.sum {a = a} {b = b} x y) g = binary_room ops.Add (compared a b) (depths p m a) (depths p m b)
  takes_room (Types.text_and {a = a} {b = b} x y i) g = binary_room ops.Add (compared a b) (depths p m a) (depths p m b)
  takes_room (Types.and_text {a = a} {b = b} x i y) g = binary_room ops.Add (compared a b) (depths p m a) (depths p m b)
  takes_room (Types.computed {o = o} {a = a} {b = b} i x y) g = binary_room o (compared a b) (depths p m a) (depths p m b)
  takes_room (Types.ordered {o = o} {a = a} {b = b} i x y) g = binary_room o (compared a b) (depths p m a) (depths p m b)
  takes_room (Types.logic {o = o} {a = a} {b = b} i x y) g = binary_room o (compared a b) (depths p m a) (depths p m b)
  takes_room (Types.same {o = o} {a = a} {b = b} i c x y) g = binary_room o (compared a b) (depths p m a) (depths p m b)
  takes_room (Types.is_null {r = b} {s = z} {o = o} {x = x} i v) g =
      binary_room o (compared (Variable b x) (Null z)) (depths p m (Variable b x)) (depths p m (Null z))
  takes_room (Types.null_is {r = z} {s = b} {o = o} {x = x} i v) g =
      binary_room o (compared (Null z) (Variable b x)) (depths p m (Null z)) (depths p m (Variable b x))
  takes_room (Types.protocol v is xs e u) g = omega arith
  takes_room (Types.helper on is own xs e) g = omega arith
  takes_room (Types.static {n = i} {args = args} is xs e) g =
      at_least_one (depth_of_arguments p m args) (left_by (result_of p i))
      (ap (λ o. left_by (option_map (λ (k : Method). k.result) o)) is.at ∙ ap (λ t. left_by (Some t)) e ∙ g)
  takes_room (Types.equals x y u) g = omega arith
  takes_room (Types.concat x y u) g = omega arith
  takes_room (Types.session {c = c} {args = args} xs e) g =
      at_least_one (depth_of_arguments p m args) (left_by (Some (session_result c))) (ap (λ t. left_by (Some t)) e ∙ g)
  takes_room (Types.new has) g = omega arith

-- what is shown is a value
pub shown_room : (t : CoreType) → IsShown t → left_by (Some t) ≡ 1
shown_room types.Int i = refl
shown_room types.Boolean i = refl
shown_room types.Text i = refl
shown_room types.Void i = absurd i
shown_room (types.Object c) i = absurd i
shown_room (types.Enum e) i = absurd i

module _ (p : Program) (ok : IsCore p) (os : List Outline) (program : linked.Program) (inputs : Inputs) (me : ℕ) (r : Running) (m : Method)
    (code : List Instr) (runs : RunsCode p os program me r m code) (n : ℕ) (low : Lower) (well : CallsWell p ok low) (may : List ℕ)
    (calls : CallsDo p ok os program inputs me may n low) (number : ℕ) (at : slice_get p.methods number ≡ Some m) (this : Option ℕ)
    (ls : List (Option Held)) (own : IsInstance m.kind → LaidObject this ls) where
  abbrev D : (w : World) → Forms → Run Shared (Option Value) → Depths → Type 0
  D w = Does p ok os program inputs me r m code runs n w ls

  abbrev meant : Row ℕ → Expr → Run Shared (Option Value)
  meant row e = eval p inputs low number (record { class = m.class; object = this }) row e

  abbrev Mine : World → Type 0
  Mine = This p ok inputs low well number m at this

  good : {sc : List ℕ} {e : Expr} {t : CoreType} {row : Row ℕ} → Has p m sc e t → (w : World) → Mine w → RowFits p m w sc row →
      Runs (Heap p ok) (λ w v. GivesA p w v t) w (meant row e)
  good h w o f = eval_good p ok inputs low well number m at this h w o f

  arithmetic_does : {sc : List ℕ} {row : Row ℕ} (op : Op) (q : _) (a b : Expr) → IsArithmetic op → Has p m sc a types.Int →
      Has p m sc b types.Int →
      (w : World) → Mine w → RowFits p m w sc row → D w (forms p m code sc a) (meant row a) (depths p m a) →
      D w (forms p m code sc b) (meant row b) (depths p m b) →
      D w (forms p m code sc (Binary q op a b)) (meant row (Binary q op a b)) (depths p m (Binary q op a b))
  arithmetic_does {sc} {row} ops.Sub q a b i x y w o f da db =
      value_of_two p ok os program inputs me r m code runs n w ls (forms p m code sc a) (forms p m code sc b) (meant row a) (meant row b)
      (depths p m a) (depths p m b) types.Int types.Int (applied Minus) isub (good x w o f) (good y w o f) da db
      (minus_last p ok os program inputs me r m code runs n ls)
  arithmetic_does {sc} {row} ops.Mul q a b i x y w o f da db =
      value_of_two p ok os program inputs me r m code runs n w ls (forms p m code sc a) (forms p m code sc b) (meant row a) (meant row b)
      (depths p m a) (depths p m b) types.Int types.Int (applied Times) imul (good x w o f) (good y w o f) da db
      (times_last p ok os program inputs me r m code runs n ls)
  arithmetic_does {sc} {row} ops.Div q a b i x y w o f da db =
      value_of_two p ok os program inputs me r m code runs n w ls (forms p m code sc a) (forms p m code sc b) (meant row a) (meant row b)
      (depths p m a) (depths p m b) types.Int types.Int (applied Divide) idiv (good x w o f) (good y w o f) da db
      (divide_last p ok os program inputs me r m code runs n ls)
  arithmetic_does {sc} {row} ops.Rem q a b i x y w o f da db =
      value_of_two p ok os program inputs me r m code runs n w ls (forms p m code sc a) (forms p m code sc b) (meant row a) (meant row b)
      (depths p m a) (depths p m b) types.Int types.Int (applied Remain) irem (good x w o f) (good y w o f) da db
      (remain_last p ok os program inputs me r m code runs n ls)
  arithmetic_does ops.Or q a b i x y w o f da db = absurd i
  arithmetic_does ops.And q a b i x y w o f da db = absurd i
  arithmetic_does ops.Eq q a b i x y w o f da db = absurd i
  arithmetic_does ops.Ne q a b i x y w o f da db = absurd i
  arithmetic_does ops.Lt q a b i x y w o f da db = absurd i
  arithmetic_does ops.Le q a b i x y w o f da db = absurd i
  arithmetic_does ops.Gt q a b i x y w o f da db = absurd i
  arithmetic_does ops.Ge q a b i x y w o f da db = absurd i
  arithmetic_does ops.Add q a b i x y w o f da db = absurd i

  logic_does : {sc : List ℕ} {row : Row ℕ} (op : Op) (q : _) (a b : Expr) → IsLogic op → Has p m sc a types.Boolean →
      Has p m sc b types.Boolean →
      Has p m sc (Binary q op a b) types.Boolean →
      (w : World) → Mine w → RowFits p m w sc row → D w (forms p m code sc a) (meant row a) (depths p m a) →
      D w (forms p m code sc b) (meant row b) (depths p m b) →
      D w (forms p m code sc (Binary q op a b)) (meant row (Binary q op a b)) (depths p m (Binary q op a b))
  logic_does {sc} {row} ops.And q a b i x y h w o f da db =
      and_does p ok os program inputs me r m code runs n w ls (forms p m code sc a) (forms p m code sc b) (meant row a) (meant row b)
      (depths p m a) (depths p m b) (good x w o f) (good h w o f) da db
  logic_does {sc} {row} ops.Or q a b i x y h w o f da db =
      or_does p ok os program inputs me r m code runs n w ls (forms p m code sc a) (forms p m code sc b) (meant row a) (meant row b)
      (depths p m a) (depths p m b) (good x w o f) (good h w o f) da db
  logic_does ops.Eq q a b i x y h w o f da db = absurd i
  logic_does ops.Ne q a b i x y h w o f da db = absurd i
  logic_does ops.Lt q a b i x y h w o f da db = absurd i
  logic_does ops.Le q a b i x y h w o f da db = absurd i
  logic_does ops.Gt q a b i x y h w o f da db = absurd i
  logic_does ops.Ge q a b i x y h w o f da db = absurd i
  logic_does ops.Add q a b i x y h w o f da db = absurd i
  logic_does ops.Sub q a b i x y h w o f da db = absurd i
  logic_does ops.Mul q a b i x y h w o f da db = absurd i
  logic_does ops.Div q a b i x y h w o f da db = absurd i
  logic_does ops.Rem q a b i x y h w o f da db = absurd i

  -- a comparison of two values that are no `null`
  compared_does : {sc : List ℕ} {row : Row ℕ} (op : Op) (a b : Expr) (t : CoreType) (f : Value → Value → Run Shared Value) → IsCompared t →
      Has p m sc a t → Has p m sc b t → (w : World) → Mine w → RowFits p m w sc row →
      Runs (Heap p ok) (λ w v. GivesA p w v types.Boolean) w (of_both f (meant row a) (meant row b)) →
      D w (forms p m code sc a) (meant row a) (depths p m a) → D w (forms p m code sc b) (meant row b) (depths p m b) →
      LastUnless p ok os program inputs me r m code runs n ls f (if_icmp (opposite op)) t t →
      LastWhen p ok os program inputs me r m code runs n ls f (if_icmp op) t t →
      D w (comparison p m code op (compared a b) (forms p m code sc a) (forms p m code sc b)) (of_both f (meant row a) (meant row b))
      (comparison_depths (compared a b) (depths p m a) (depths p m b))
  compared_does {sc} {row} op a b t f i x y w o g h da db un wh =
      subst (λ c. D w (comparison p m code op c (forms p m code sc a) (forms p m code sc b)) (of_both f (meant row a) (meant row b))
      (comparison_depths c (depths p m a) (depths p m b))) (sym (both_written a b (written p m sc a t i x) (written p m sc b t i y)))
      (jump_of_two p ok os program inputs me r m code runs n w ls (forms p m code sc a) (forms p m code sc b) (meant row a) (meant row b)
      (depths p m a) (depths p m b) t t f (if_icmp (opposite op)) (if_icmp op) h (good x w o g) (good y w o g) da db un wh)

  order_does : {sc : List ℕ} {row : Row ℕ} (op : Op) (q : _) (a b : Expr) → IsOrder op → Has p m sc a types.Int → Has p m sc b types.Int →
      Has p m sc (Binary q op a b) types.Boolean →
      (w : World) → Mine w → RowFits p m w sc row → D w (forms p m code sc a) (meant row a) (depths p m a) →
      D w (forms p m code sc b) (meant row b) (depths p m b) →
      D w (forms p m code sc (Binary q op a b)) (meant row (Binary q op a b)) (depths p m (Binary q op a b))
  order_does ops.Lt q a b i x y h w o f da db = compared_does ops.Lt a b types.Int (applied (operator_of ops.Lt)) tt x y w o f (good h w
      o f) da db
      (order_unless p ok os program inputs me r m code runs n ls ops.Lt tt) (order_when p ok os program inputs me r m code runs n ls
      ops.Lt tt)
  order_does ops.Le q a b i x y h w o f da db = compared_does ops.Le a b types.Int (applied (operator_of ops.Le)) tt x y w o f (good h w
      o f) da db
      (order_unless p ok os program inputs me r m code runs n ls ops.Le tt) (order_when p ok os program inputs me r m code runs n ls
      ops.Le tt)
  order_does ops.Gt q a b i x y h w o f da db = compared_does ops.Gt a b types.Int (applied (operator_of ops.Gt)) tt x y w o f (good h w
      o f) da db
      (order_unless p ok os program inputs me r m code runs n ls ops.Gt tt) (order_when p ok os program inputs me r m code runs n ls
      ops.Gt tt)
  order_does ops.Ge q a b i x y h w o f da db = compared_does ops.Ge a b types.Int (applied (operator_of ops.Ge)) tt x y w o f (good h w
      o f) da db
      (order_unless p ok os program inputs me r m code runs n ls ops.Ge tt) (order_when p ok os program inputs me r m code runs n ls
      ops.Ge tt)
  order_does ops.Or q a b i x y h w o f da db = absurd i
  order_does ops.And q a b i x y h w o f da db = absurd i
  order_does ops.Eq q a b i x y h w o f da db = absurd i
  order_does ops.Ne q a b i x y h w o f da db = absurd i
  order_does ops.Add q a b i x y h w o f da db = absurd i
  order_does ops.Sub q a b i x y h w o f da db = absurd i
  order_does ops.Mul q a b i x y h w o f da db = absurd i
  order_does ops.Div q a b i x y h w o f da db = absurd i
  order_does ops.Rem q a b i x y h w o f da db = absurd i

  equality_does : {sc : List ℕ} {row : Row ℕ} (op : Op) (q : _) (a b : Expr) (t : CoreType) → IsEquality op → IsCompared t →
      Has p m sc a t →
      Has p m sc b t → Has p m sc (Binary q op a b) types.Boolean →
      (w : World) → Mine w → RowFits p m w sc row → D w (forms p m code sc a) (meant row a) (depths p m a) →
      D w (forms p m code sc b) (meant row b) (depths p m b) →
      D w (forms p m code sc (Binary q op a b)) (meant row (Binary q op a b)) (depths p m (Binary q op a b))
  equality_does ops.Eq q a b t i k x y h w o f da db = compared_does ops.Eq a b t (applied Equal) k x y w o f (good h w o f) da db
      (equal_unless p ok os program inputs me r m code runs n ls t k) (equal_when p ok os program inputs me r m code runs n ls t k)
  equality_does ops.Ne q a b t i k x y h w o f da db = compared_does ops.Ne a b t (applied Unequal) k x y w o f (good h w o f) da db
      (unequal_unless p ok os program inputs me r m code runs n ls t k) (unequal_when p ok os program inputs me r m code runs n ls t k)
  equality_does ops.Or q a b t i k x y h w o f da db = absurd i
  equality_does ops.And q a b t i k x y h w o f da db = absurd i
  equality_does ops.Lt q a b t i k x y h w o f da db = absurd i
  equality_does ops.Le q a b t i k x y h w o f da db = absurd i
  equality_does ops.Gt q a b t i k x y h w o f da db = absurd i
  equality_does ops.Ge q a b t i k x y h w o f da db = absurd i
  equality_does ops.Add q a b t i k x y h w o f da db = absurd i
  equality_does ops.Sub q a b t i k x y h w o f da db = absurd i
  equality_does ops.Mul q a b t i k x y h w o f da db = absurd i
  equality_does ops.Div q a b t i k x y h w o f da db = absurd i
  equality_does ops.Rem q a b t i k x y h w o f da db = absurd i

  -- a local or an own field
  variable_does : {sc : List ℕ} {row : Row ℕ} (q : _) (x : Var) (t : CoreType) → IsVariable p m sc x t → (w : World) → Mine w →
      RowFits p m w sc row → Laid (first_local m.kind) row ls →
      D w (forms p m code sc (Variable q x)) (meant row (Variable q x)) (depths p m (Variable q x))
  variable_does {sc} {row} q (vars.Slot k) t v w o f l =
      let found : Finds p w t (find nat_eq k row) = finds p m k f v.visible v.type in
      subst (λ u. D w (by_value code (one code (load (type_or_int u) (local_of m.kind sc k)))) (meant row (Variable q (vars.Slot k)))
      (depths_by_value 1)) (sym v.type)
      (local_does p ok os program inputs me r m code runs n w ls row k t (local_of m.kind sc k) found.value found.is
      (laid_at p m m.kind k found.value ls f l found.is) (fits_sort p w found.value t found.fits))
  variable_does {sc} {row} q (vars.Field k) t v w o f l =
      does_value p ok os program inputs me r m code runs n w ls
      (one code (aload 0) then one code (getfield (field_reference p m.class k))) (meant row (Variable q (vars.Field k))) 1
      (λ from to st x s q1 h room g heap holds.
      field_reads p ok os program inputs me calls.known r m code runs n low number this k t v.type x s heap
      (owned_more p ok g (o v.visible))
      row ls (own v.visible) from to st q1 h room holds)

  -- a local that is compared with `null`, on either side
  variable_null : {sc : List ℕ} {row : Row ℕ} (op : Op) (q b z : _) (x : Var) (k : ℕ) → IsEquality op → IsVariable p m sc x (types.Object k)
      →
      (w : World) → Mine w → RowFits p m w sc row → Laid (first_local m.kind) row ls →
      D w (forms p m code sc (Binary q op (Variable b x) (Null z))) (meant row (Binary q op (Variable b x) (Null z)))
      (depths p m (Binary q op (Variable b x) (Null z)))
  variable_null {sc} {row} ops.Eq q b z x k i v w o f l =
      equals_null p ok os program inputs me r m code runs n ls w (forms p m code sc (Variable b x)) (meant row (Variable b x))
      (depths p m (Variable b x)) (good (Types.is_null {q = q} {r = b} {s = z} {o = ops.Eq} {x = x} {c = k} i v) w o f)
      (variable_does b x (types.Object k) v w o f l)
  variable_null {sc} {row} ops.Ne q b z x k i v w o f l =
      differs_null p ok os program inputs me r m code runs n ls w (forms p m code sc (Variable b x)) (meant row (Variable b x))
      (depths p m (Variable b x)) (good (Types.is_null {q = q} {r = b} {s = z} {o = ops.Ne} {x = x} {c = k} i v) w o f)
      (variable_does b x (types.Object k) v w o f l)
  variable_null ops.Or q b z x k i v w o f l = absurd i
  variable_null ops.And q b z x k i v w o f l = absurd i
  variable_null ops.Lt q b z x k i v w o f l = absurd i
  variable_null ops.Le q b z x k i v w o f l = absurd i
  variable_null ops.Gt q b z x k i v w o f l = absurd i
  variable_null ops.Ge q b z x k i v w o f l = absurd i
  variable_null ops.Add q b z x k i v w o f l = absurd i
  variable_null ops.Sub q b z x k i v w o f l = absurd i
  variable_null ops.Mul q b z x k i v w o f l = absurd i
  variable_null ops.Div q b z x k i v w o f l = absurd i
  variable_null ops.Rem q b z x k i v w o f l = absurd i

  null_variable : {sc : List ℕ} {row : Row ℕ} (op : Op) (q z b : _) (x : Var) (k : ℕ) → IsEquality op → IsVariable p m sc x (types.Object k)
      →
      (w : World) → Mine w → RowFits p m w sc row → Laid (first_local m.kind) row ls →
      D w (forms p m code sc (Binary q op (Null z) (Variable b x))) (meant row (Binary q op (Null z) (Variable b x)))
      (depths p m (Binary q op (Null z) (Variable b x)))
  null_variable {sc} {row} ops.Eq q z b x k i v w o f l =
      null_equals p ok os program inputs me r m code runs n ls w (forms p m code sc (Variable b x)) (meant row (Variable b x))
      (depths p m (Variable b x)) (good (Types.null_is {q = q} {r = z} {s = b} {o = ops.Eq} {x = x} {c = k} i v) w o f)
      (variable_does b x (types.Object k) v w o f l)
  null_variable {sc} {row} ops.Ne q z b x k i v w o f l =
      null_differs p ok os program inputs me r m code runs n ls w (forms p m code sc (Variable b x)) (meant row (Variable b x))
      (depths p m (Variable b x)) (good (Types.null_is {q = q} {r = z} {s = b} {o = ops.Ne} {x = x} {c = k} i v) w o f)
      (variable_does b x (types.Object k) v w o f l)
  null_variable ops.Or q z b x k i v w o f l = absurd i
  null_variable ops.And q z b x k i v w o f l = absurd i
  null_variable ops.Lt q z b x k i v w o f l = absurd i
  null_variable ops.Le q z b x k i v w o f l = absurd i
  null_variable ops.Gt q z b x k i v w o f l = absurd i
  null_variable ops.Ge q z b x k i v w o f l = absurd i
  null_variable ops.Add q z b x k i v w o f l = absurd i
  null_variable ops.Sub q z b x k i v w o f l = absurd i
  null_variable ops.Mul q z b x k i v w o f l = absurd i
  null_variable ops.Div q z b x k i v w o f l = absurd i
  null_variable ops.Rem q z b x k i v w o f l = absurd i

  -- `+` by the types of its operands
  plus_typed : (w : World) (G I : Forms) (s t : Option CoreType) (ta tb : CoreType) (e : Run Shared (Option Value)) (d : Depths) →
      s ≡ Some ta → t ≡ Some tb → D w (by_value code (plus p m code (joins ops.Add (Some ta) (Some tb)) G I (Some ta) (Some tb))) e d →
      D w (by_value code (plus p m code (joins ops.Add s t) G I s t)) e d
  plus_typed w G I s t ta tb e d is_s is_t does =
      subst (λ x. D w (by_value code (plus p m code (joins ops.Add x t) G I x t)) e d) (sym is_s)
      (subst (λ y. D w (by_value code (plus p m code (joins ops.Add (Some ta) y) G I (Some ta) y)) e d) (sym is_t) does)

  joined_right : (w : World) (G I : Forms) (t : CoreType) (e : Run Shared (Option Value)) (d : Depths) → IsShown t →
      D w (by_value code (plus p m code true G I (Some t) (Some types.Text))) e d →
      D w (by_value code (plus p m code (joins ops.Add (Some t) (Some types.Text)) G I (Some t) (Some types.Text))) e d
  joined_right w G I types.Int e d i does = does
  joined_right w G I types.Boolean e d i does = does
  joined_right w G I types.Text e d i does = does
  joined_right w G I types.Void e d i does = absurd i
  joined_right w G I (types.Object c) e d i does = absurd i
  joined_right w G I (types.Enum c) e d i does = absurd i

  abbrev all_meant : Row ℕ → Exprs → Run Shared (List Value)
  all_meant row es = eval_all p inputs low number (record { class = m.class; object = this }) row es

  -- behind the code of arguments their values lie on the operands
  abbrev ArgsAt : (to : ℕ) (st : List Held) → Moment → List Value → Shared → Type 0
  ArgsAt to st c vs s = Arrives p program inputs me r to (st ++ map flat vs) ls c s

  after_args : (to : ℕ) (st : List Held) (R : Moment → Option Value → Shared → Type 0) → ClosedBefore (step program me) R → (c : Moment)
      (x : World) (ts : List CoreType) (o : Outcome Shared (List Value)) (g : List Value → Run Shared (Option Value)) →
      Good (Heap p ok) (λ w vs. AllFit p w vs ts) x o → Follows (step program me) n (ArgsAt to st) c o →
      ((y : World) (vs : List Value) (s : Shared) (q : Messages) → Extends x y → AllFit p y vs ts → Heap p ok y s →
      Holds inputs q me s.events →
      Follows (step program me) n R (moment p r to (st ++ map flat vs) ls s q) (g vs s)) → Follows (step program me) n R c (and_then o g)
  after_args to st R closed c x ts (Ends f es) g good h k = h
  after_args to st R closed c x ts (Gives vs s) g good h k =
      follows_later (step program me) n R closed c (moment p r to (st ++ map flat vs) ls s h.messages) (g vs s) h.comes
      (k good.world vs s h.messages good.grown good.is good.state h.holds)

  abbrev V : (to : ℕ) (st : List Held) → Moment → Option Value → Shared → Type 0
  V to st = Value_at p ok os program inputs me r m code runs n ls to st

  full : (k : Method) (i : ℕ) → slice_get p.methods i ≡ Some k → AllByRecursion (λ t. t ≢ types.Void) (param_types k)
  full k i is_at = no_void p (param_types k) (params_usable p k.params k.slots (method_ok p ok i k is_at).slots)

  room_for : (t : CoreType) (st most : ℕ) → st + 1 ≤ most → st + left_by (Some t) ≤ most
  room_for types.Void st most h = omega (arith, h)
  room_for types.Int st most h = h
  room_for types.Boolean st most h = h
  room_for types.Text st most h = h
  room_for (types.Object c) st most h = h
  room_for (types.Enum e) st most h = h

  -- a value below others
  regrouped : (R : Moment → Option Value → Shared → Type 0) (st : List Held) (v : Held) (more : List Held) (place : ℕ) (s : Shared)
      (q : Messages) (o : Outcome Shared (Option Value)) → Follows (step program me) n R (moment p r place (st ++ v ∷ more) ls s q) o →
      Follows (step program me) n R (moment p r place ((st ++ v ∷ []) ++ more) ls s q) o
  regrouped R st v more place s q o h =
      subst (λ xs. Follows (step program me) n R (moment p r place xs ls s q) o) (sym (append_assoc st (v ∷ []) more)) h

  valued_valuing : {B : Type 0} (o : Outcome Shared Value) (k : Value → Run Shared B) →
      and_then (and_then (and_then o (λ v. give (Some v))) found) k ≡ and_then o k
  valued_valuing (Gives v s) k = refl
  valued_valuing (Ends f es) k = refl

  -- a protocol method is called on what a variable holds
  abbrev on_object : (i : ℕ) → Value → List Value → Run Shared (Option Value)
  on_object i v vs = protocol_call p inputs low number (record { class = m.class; object = this }) i v vs

  protocol_last : (i : ℕ) (k : Method) → Contains may i → IsCalled p m i kinds.Protocol k → (place : ℕ) (st : List Held) →
      length st + 1 ≤ max_stack p m → slice_get code place ≡ Some (invokevirtual (method_reference p i)) → (x : World) (v : Value) →
      Fits p x v (types.Object k.class) → (vs : List Value) → AllFit p x vs (param_types k) → (s : Shared) (q : Messages) → Heap p ok x s →
      Holds inputs q me s.events →
      Follows (step program me) n (V (place + 1) st) (moment p r place (st ++ flat v ∷ map flat vs) ls s q) (on_object i v vs s)
  protocol_last i k allowed is place st room code_at x v worlds.null vs fits s q heap holds =
      null_calls p ok os program inputs me n low may calls i k allowed is.at r m code runs place st ls
      (room_for k.result (length st) (max_stack p m) room)
      is.kind_is code_at x vs s q fits heap
  protocol_last i k allowed is place st room code_at x v (worlds.object {o = o} of) vs fits s q heap holds =
      let class = method_ok p ok i k is.at in
      let name : Name = text_at p class.class.name in
      let t = there p ok heap.objects o of class.class_at in
      let call : Run Shared (Option Value) = telling o (text_at p k.name) (low.call i (Some o) vs) in
      let same : on_object i (values.Object o) vs s ≡ call s =
      ap (λ y. (found y >>= λ k. found (class_text p k.class) >>= λ c. object_of c o >>= λ j. telling o (text_at p k.name)
      (low.call i (Some o) vs)) s) is.at
      ∙ ap (λ y. (found y >>= λ c. object_of c o >>= λ j. call) s) (ap (option_map (λ (k : Class). text_at p k.name)) class.class_at)
      ∙ ap (λ y. and_then y (λ j. call)) (object_is p ok x o name s t.instance t.is t.object.named) in
      subst (Follows (step program me) n (V (place + 1) st) (moment p r place (st ++ held.Object o ∷ map flat vs) ls s q)) (sym same)
      (protocol_calls p ok os program inputs me n low may calls i k allowed is.at r m code runs place st ls
      (room_for k.result (length st) (max_stack p m) room) is.kind_is code_at x o vs s q of fits
      (record {
        suits = ap (λ kind. suits (runs_on_object kind) (Some o)) is.kind_is;
        owned = λ u. record { object = o; is = refl; of = of };
      }) heap holds)

  -- an object is made, and its fields begin as they are written
  new_does : (here : _) (c : ℕ) → HasTypestate p c → (row : Row ℕ) (from to : ℕ) (st : List Held) (s : Shared) (q : Messages) →
      (one code (new (class_name p c)) then one code dup then one code (invokespecial (init_of (class_name p c)))) from to →
      length st + 2 ≤ max_stack p m → Holds inputs q me s.events →
      Follows (step program me) n (V to st) (moment p r from st ls s q) (meant row (New here c) s)
  new_does here c has row from to st s q h room holds =
      let k : Class = has.class in
      let b = begun p k.fields (ok.classes c k has.at).fields in
      let stands = calls.known.constructor c k has.at has.typestate has.is in
      let made : Shared = state p ok os program inputs me calls.known c k has.at stands s b.row in
      let start : Moment = moment p r from st ls s q in
      let first_is = (h.1.1).1 in
      let second_is = (h.1.2).1 in
      let third_is = h.2.1 in
      let second : h.1.0 ≡ from + 1 = omega (arith, first_is) in
      let third : h.0 ≡ from + 1 + 1 = omega (arith, first_is, second_is) in
      let behind : from + 1 + 1 + 1 ≡ to = omega (arith, first_is, second_is, third_is) in
      let same : meant row (New here c) s ≡ Gives (Some (values.Object (length s.heap))) made =
      ap (λ y. (found y >>= λ k. found (new_fields p k.fields) >>= λ row. valuing
      (make (record { class = text_at p k.name; fields = row }))) s)
      has.at
      ∙ ap (λ y. (found y >>= λ row. valuing (make (record { class = text_at p k.name; fields = row }))) s) b.is in
      subst (Follows (step program me) n (V to st) start) (sym same) (record {
        messages = q;
        comes = subst (λ j. Comes (step program me) start (moment p r j (st ++ held.Object (length s.heap) ∷ []) ls made q)) behind
            (new_comes p ok os program inputs me calls.known c k has.at stands s r m code runs n ls q from st b.row (b.fits []) b.is
            (h.1.1).0
            (subst (λ j. slice_get code j ≡ Some dup) second (h.1.2).0)
            (subst (λ j. slice_get code j ≡ Some (invokespecial (init_of (class_name p c)))) third h.2.0) room);
        holds = seen_holds inputs q me s.events (seen.Made (length s.heap) (text_at p k.name)) (λ peer. refl) holds;
      })

  longer : (st : List Held) (v : Held) (k most : ℕ) → length st + suc k ≤ most → length (st ++ v ∷ []) + k ≤ most
  longer st v k most h = let l : length (st ++ v ∷ []) ≡ length st + 1 = length-append st (v ∷ []) in omega (arith, l, h)

  mutual
    pub expression_does : {sc : List ℕ} {e : Expr} {t : CoreType} {row : Row ℕ} → Has p m sc e t → IsPlain may e → (w : World) → Mine w →
        RowFits p m w sc row →
        Laid (first_local m.kind) row ls → D w (forms p m code sc e) (meant row e) (depths p m e)
    expression_does (Types.int {z = z}) c w o f l = constant_does p ok os program inputs me r m code runs n w ls (push z) (values.Int z)
        (push_does os z)
    expression_does (Types.truth {b = b}) c w o f l = literal_does p ok os program inputs me r m code runs n w ls b
    expression_does (Types.text {s = s}) c w o f l = constant_does p ok os program inputs me r m code runs n w ls (push_text s) (values.Text
        s) refl
    expression_does Types.null c w o f l = constant_does p ok os program inputs me r m code runs n w ls aconst_null values.Null refl
    expression_does (Types.variable {q = q} {x = x} {t = t} v) c w o f l = variable_does q x t v w o f l
    expression_does {sc} (Types.constant {q = q} {e = e} {n = i} {d = d} is lt) c w o f l =
        subst (λ o. D w (forms p m code sc (Constant q e i)) (valuing (found o >>= λ name. give (values.Constant name i))) (depths p m
        (Constant q e i)))
        (sym (ap (option_map (λ (d : Enum). text_at p d.name)) is))
        (constant_does p ok os program inputs me r m code runs n w ls (push (pos i)) (values.Constant (text_at p d.name) i) (push_does os
        (pos i)))
    expression_does {sc} {row = row} (Types.negative {a = a} x) c w o f l =
        neg_does p ok os program inputs me r m code runs n w ls (forms p m code sc a) (meant row a) (depths p m a) (takes_room p m x refl)
        (expression_does x c w o f l)
    expression_does {sc} {row = row} (Types.opposite {q = q} {a = a} x) c w o f l =
        not_does p ok os program inputs me r m code runs n w ls (forms p m code sc a) (meant row a) (depths p m a)
        (good (Types.opposite {q = q} x) w o f) (expression_does x c w o f l)
    expression_does {sc} {row = row} (Types.sum {q = q} {a = a} {b = b} x y) c w o f l =
        plus_typed w (forms p m code sc a) (forms p m code sc b) (type_of p m a) (type_of p m b) types.Int types.Int
        (meant row (Binary q ops.Add a b))
        (depths p m (Binary q ops.Add a b)) (shown_type p m sc a types.Int tt x) (shown_type p m sc b types.Int tt y)
        (value_of_two p ok os program inputs me r m code runs n w ls (forms p m code sc a) (forms p m code sc b) (meant row a) (meant row b)
        (depths p m a) (depths p m b) types.Int types.Int (applied Plus) iadd (good x w o f) (good y w o f) (expression_does x c.0 w o f l)
        (expression_does y c.1 w o f l) (plus_last p ok os program inputs me r m code runs n ls))
    expression_does {sc} {row = row} (Types.text_and {q = q} {a = a} {b = b} {t = t} x y i) c w o f l =
        plus_typed w (forms p m code sc a) (forms p m code sc b) (type_of p m a) (type_of p m b) types.Text t
        (meant row (Binary q ops.Add a b))
        (depths p m (Binary q ops.Add a b)) (shown_type p m sc a types.Text tt x) (shown_type p m sc b t i y)
        (joins_does p ok os program inputs me r m code runs n ls w (forms p m code sc a) (forms p m code sc b) (meant row a) (meant row b)
        (depths p m a) (depths p m b) types.Text t joining.left tt i (takes_room p m x refl) (takes_room p m y (shown_room t i))
        (good x w o f)
        (good y w o f) (expression_does x c.0 w o f l) (expression_does y c.1 w o f l))
    expression_does {sc} {row = row} (Types.and_text {q = q} {a = a} {b = b} {t = t} x i y) c w o f l =
        plus_typed w (forms p m code sc a) (forms p m code sc b) (type_of p m a) (type_of p m b) t types.Text
        (meant row (Binary q ops.Add a b))
        (depths p m (Binary q ops.Add a b)) (shown_type p m sc a t i x) (shown_type p m sc b types.Text tt y)
        (joined_right w (forms p m code sc a) (forms p m code sc b) t (meant row (Binary q ops.Add a b)) (depths p m (Binary q ops.Add a b))
        i
        (joins_does p ok os program inputs me r m code runs n ls w (forms p m code sc a) (forms p m code sc b) (meant row a) (meant row b)
        (depths p m a) (depths p m b) t types.Text joining.right i tt (takes_room p m x (shown_room t i)) (takes_room p m y refl)
        (good x w o f)
        (good y w o f) (expression_does x c.0 w o f l) (expression_does y c.1 w o f l)))
    expression_does (Types.computed {q = q} {o = op} {a = a} {b = b} i x y) c w o f l =
        arithmetic_does op q a b i x y w o f (expression_does x c.0 w o f l) (expression_does y c.1 w o f l)
    expression_does (Types.ordered {q = q} {o = op} {a = a} {b = b} i x y) c w o f l =
        order_does op q a b i x y (Types.ordered {q = q} {o = op} i x y) w o f (expression_does x c.0 w o f l)
        (expression_does y c.1 w o f l)
    expression_does (Types.logic {q = q} {o = op} {a = a} {b = b} i x y) c w o f l =
        logic_does op q a b i x y (Types.logic {q = q} {o = op} i x y) w o f (expression_does x c.0 w o f l) (expression_does y c.1 w o f l)
    expression_does (Types.same {q = q} {o = op} {a = a} {b = b} {t = t} i k x y) c w o f l =
        equality_does op q a b t i k x y (Types.same {q = q} {o = op} {t = t} i k x y) w o f (expression_does x c.0 w o f l)
        (expression_does
        y c.1 w o f l)
    expression_does (Types.is_null {q = q} {r = b} {s = z} {o = op} {x = x} {c = k} i v) c w o f l =
        variable_null op q b z x k i v w o f l
    expression_does (Types.null_is {q = q} {r = z} {s = b} {o = op} {x = x} {c = k} i v) c w o f l =
        null_variable op q z b x k i v w o f l
    expression_does {sc} {row = row} (Types.protocol {q = here} {x = x} {n = i} {k = k} {args = args} v is xs e unmoved) c w o f l =
        does_value p ok os program inputs me r m code runs n w ls
        (variable p m code sc x.var then arguments p m code sc args then one code (invokevirtual (method_reference p i)))
        (meant row (Protocol here x i args)) (suc (depth_of_arguments p m args))
        (λ from to st y s q h room g heap holds.
        let begun : Moment = moment p r from st ls s q in
        let R : Moment → Option Value → Shared → Type 0 = V (h.0 + 1) st in
        next_place p ok os program inputs me r m code runs n
        (λ j. Follows (step program me) n (V j st) begun (meant row (Protocol here x i args) s)) h.0 to h.2.1
        (subst (Follows (step program me) n R begun)
        (valued_valuing (read p inputs low number (record { class = m.class; object = this }) row x.var s)
        (λ v. eval_all p inputs low number (record { class = m.class; object = this }) row args >>= λ vs. on_object i v vs))
        (second p ok os program inputs me r m code runs n R (value_closed p ok os program inputs me r m code runs n ls (h.0 + 1) st) begun y
        (types.Object k.class) h.1.0 ls st (meant row (Variable here x.var) s)
        (λ v. eval_all p inputs low number (record { class = m.class; object = this }) row args >>= λ vs. on_object i v vs)
        ((good (Types.variable {q = here} v) w o f).run y g s heap)
        ((variable_does here x.var (types.Object k.class) v w o f l).value from h.1.0 st y s q h.1.1 (omega (arith, room)) g heap holds)
        (λ z u t q1 more fits heap1 holds1.
        after_args h.0 (st ++ flat u ∷ []) R (value_closed p ok os program inputs me r m code runs n ls (h.0 + 1) st)
        (moment p r h.1.0 (st ++ flat u ∷ []) ls t q1) z (param_types k) (all_meant row args t) (λ vs. on_object i u vs)
        ((args_good p ok inputs low well number m at this xs (full k i is.at) w o f).run z (further g more) t heap1)
        (arguments_do xs c.1 (full k i is.at) w o f l h.1.0 h.0 (st ++ flat u ∷ []) z t q1 h.1.2
        (longer st (flat u) (depth_of_arguments p m args) (max_stack p m) room) (further g more) heap1 holds1)
        (λ a vs b q2 grown fit heap2 holds2.
        regrouped R st (flat u) (map flat vs) h.0 b q2 (on_object i u vs b)
        (protocol_last i k c.0 is h.0 st (omega (arith, room)) h.2.0 a u (fits_more p grown fits) vs fit b q2 heap2 holds2))))))
    expression_does {sc} {row = row} (Types.helper {q = here} {n = i} {k = k} {args = args} on is same xs e) c w o f l =
        does_value p ok os program inputs me r m code runs n w ls
        (one code (aload 0) then arguments p m code sc args then one code (invokespecial (method_reference p i)))
        (meant row (Helper here i args)) (suc (depth_of_arguments p m args))
        (λ from to st x s q h room g heap holds.
        let begun : Moment = moment p r from st ls s q in
        let mine : Owned p ok x m.class this = owned_more p ok g (o on) in
        let object : Held = held.Object mine.object in
        let R : Moment → Option Value → Shared → Type 0 = V (h.0 + 1) st in
        let closed = value_closed p ok os program inputs me r m code runs n ls (h.0 + 1) st in
        next_place p ok os program inputs me r m code runs n
        (λ j. Follows (step program me) n (V j st) begun (meant row (Helper here i args) s)) h.0 to h.2.1
        (follows_later (step program me) n R closed begun (moment p r h.1.0 (st ++ object ∷ []) ls s q) (meant row (Helper here i args) s)
        (next_place p ok os program inputs me r m code runs n (λ j. Comes (step program me) begun (moment p r j (st ++ object ∷ []) ls s q))
        from h.1.0 h.1.1.1
        (load_goes p ok os program inputs me r m code runs n from st ls s q (types.Object 0) 0 (values.Object mine.object) h.1.1.0
        (subst (λ y. LaidObject y ls) mine.is (own on)) refl (omega (arith, room))).comes)
        (after_args h.0 (st ++ object ∷ []) R closed (moment p r h.1.0 (st ++ object ∷ []) ls s q) x (param_types k) (all_meant row args s)
        (λ vs. low.call i this vs)
        ((args_good p ok inputs low well number m at this xs (full k i is.at) w o f).run x g s heap)
        (arguments_do xs c.1 (full k i is.at) w o f l h.1.0 h.0 (st ++ object ∷ []) x s q h.1.2
        (longer st object (depth_of_arguments p m args) (max_stack p m) room) g heap holds)
        (λ y vs u q1 grown fits heap1 holds1.
        regrouped R st object (map flat vs) h.0 u q1 (low.call i this vs u)
        (subst (λ t. Follows (step program me) n R (moment p r h.0 (st ++ object ∷ map flat vs) ls u q1) (low.call i t vs u)) (sym mine.is)
        (let of : slice_get y mine.object ≡ Some k.class = stays_there mine.object m.class grown mine.of ∙ ap (λ j. Some j) (sym same) in
        helper_calls p ok os program inputs me n low may calls i k c.0 is.at r m code runs h.0 st ls
        (room_for k.result (length st) (max_stack p m) (omega (arith, room)))
        is.kind_is h.2.0 y mine.object vs u q1 of fits
        (record {
          suits = ap (λ kind. suits (runs_on_object kind) (Some mine.object)) is.kind_is;
          owned = λ i. record { object = mine.object; is = refl; of = of };
        }) heap1 holds1))))))
    expression_does {sc} {row = row} (Types.static {q = here} {n = i} {k = k} {args = args} is xs e) c w o f l =
        does_value p ok os program inputs me r m code runs n w ls
        (arguments p m code sc args then one code (invokestatic (method_reference p i))) (meant row (Static here i args))
        (max (depth_of_arguments p m args) (left_by (type_of p m (Static here i args))))
        (λ from to st x s q h room g heap holds.
        let typed : left_by (type_of p m (Static here i args)) ≡ left_by (Some k.result) =
        ap (λ o. left_by (option_map (λ (k : Method). k.result) o)) is.at in
        next_place p ok os program inputs me r m code runs n
        (λ j. Follows (step program me) n (V j st) (moment p r from st ls s q) (meant row (Static here i args) s)) h.0 to h.2.1
        (after_args h.0 st (V (h.0 + 1) st) (value_closed p ok os program inputs me r m code runs n ls (h.0 + 1) st)
        (moment p r from st ls s q) x (param_types k) (all_meant row args s) (λ vs. low.call i None vs)
        ((args_good p ok inputs low well number m at this xs (full k i is.at) w o f).run x g s heap)
        (arguments_do xs c.1 (full k i is.at) w o f l from h.0 st x s q h.1 (omega (arith, room)) g heap holds)
        (λ y vs u q1 grown fits heap1 holds1.
        static_calls p ok os program inputs me n low may calls i k c.0 is.at r m code runs h.0 st ls (omega (arith, room, typed)) is.kind_is
        h.2.0
        y vs u q1 fits
        (record {
          suits = ap (λ kind. suits (runs_on_object kind) None) is.kind_is;
          owned = λ i. absurd (subst IsInstance is.kind_is i);
        }) heap1 holds1)))
    expression_does {sc} {row = row} (Types.equals {a = a} {b = b} x y s) c w o f l =
        value_of_two p ok os program inputs me r m code runs n w ls (forms p m code sc a) (forms p m code sc b) (meant row a) (meant row b)
        (depths p m a) (depths p m b) types.Text types.Text equal_texts (invokevirtual equals_reference) (good x w o f) (good y w o f)
        (expression_does x c.0 w o f l) (expression_does y c.1 w o f l) (equals_last p ok os program inputs me r m code runs n ls)
    expression_does {sc} {row = row} (Types.concat {a = a} {b = b} x y s) c w o f l =
        value_of_two p ok os program inputs me r m code runs n w ls (forms p m code sc a) (forms p m code sc b) (meant row a) (meant row b)
        (depths p m a) (depths p m b) types.Text types.Text joined_texts (invokevirtual concat_reference) (good x w o f) (good y w o f)
        (expression_does x c.0 w o f l) (expression_does y c.1 w o f l) (concat_last p ok os program inputs me r m code runs n ls)
    expression_does {sc} {row = row} (Types.session {q = here} {c = call} {args = args} xs e) c w o f l =
        does_value p ok os program inputs me r m code runs n w ls
        (arguments p m code sc args then one code (invokestatic (session_reference p call))) (meant row (Session here call args))
        (max (depth_of_arguments p m args) (left_by (Some (session_result call))))
        (λ from to st x s q h room g heap holds.
        next_place p ok os program inputs me r m code runs n
        (λ k. Follows (step program me) n (Value_at p ok os program inputs me r m code runs n ls k st) (moment p r from st ls s q)
        (and_then (all_meant row args s) (session inputs call))) h.0 to h.2.1
        (after_args h.0 st (Value_at p ok os program inputs me r m code runs n ls (h.0 + 1) st)
        (value_closed p ok os program inputs me r m code runs n ls (h.0 + 1) st) (moment p r from st ls s q) x (session_params call)
        (all_meant row args s) (session inputs call)
        ((args_good p ok inputs low well number m at this xs (session_usable p ok call) w o f).run x g s heap)
        (arguments_do xs c (session_usable p ok call) w o f l from h.0 st x s q h.1 (omega (arith, room)) g heap holds)
        (λ y vs u q1 grown fits heap1 holds1. session_last p ok os program inputs me r m code runs n ls call h.0 st y vs u q1 h.2.0 fits
        (omega (arith, room)) holds1)))
    expression_does {sc} {row = row} (Types.new {q = here} {c = class} has) c w o f l =
        does_value p ok os program inputs me r m code runs n w ls
        (one code (new (class_name p class)) then one code dup then one code (invokespecial (init_of (class_name p class))))
        (meant row (New here class)) 2
        (λ from to st x s q h room g heap holds. new_does here class has row from to st s q h room holds)

    -- from left to right
    arguments_do : {sc : List ℕ} {es : Exprs} {ts : List CoreType} {row : Row ℕ} → HasAll p m sc es ts → ArePlainArgs may es →
        AllByRecursion (λ t. t ≢ types.Void) ts → (w : World) → Mine w → RowFits p m w sc row → Laid (first_local m.kind) row ls →
        (from to : ℕ) (st : List Held) (x : World) (s : Shared) (q : Messages) → arguments p m code sc es from to →
        length st + depth_of_arguments p m es ≤ max_stack p m → Extends w x → Heap p ok x s → Holds inputs q me s.events →
        Follows (step program me) n (ArgsAt to st) (moment p r from st ls s q) (all_meant row es s)
    arguments_do Types.no_args c all w o f l from to st x s q h room g heap holds =
        subst (λ k. Arrives p program inputs me r k (st ++ []) ls (moment p r from st ls s q) s) (sym h)
        (subst (λ k. Arrives p program inputs me r from k ls (moment p r from st ls s q) s) (sym (append-nil st))
        (record { messages = q; comes = stays (step program me) (moment p r from st ls s q); holds = holds }))
    arguments_do {row = row} (Types.arg {e = e} {more = es} {t = t} {ts = ts} a as_all) c all w o f l from to st x s q h room g heap holds =
        second p ok os program inputs me r m code runs n (ArgsAt to st)
        (λ c d vs u come b. arrives_later p ok os program inputs me r m code runs n to (st ++ map flat vs) ls c d u come b)
        (moment p r from st ls s q) x t h.0 ls st (meant row e s) (λ v u. and_then (all_meant row es u) (λ vs. give (v ∷ vs)))
        ((good a w o f).run x g s heap)
        ((expression_does a c.0 w o f l).value from h.0 st x s q h.1 (omega (arith, room)) g heap holds)
        (λ y v u q1 more fits heap1 holds1.
        follows_then (step program me) n (ArgsAt to (st ++ flat v ∷ [])) (ArgsAt to st) (moment p r h.0 (st ++ flat v ∷ []) ls u q1)
        (all_meant row es u) (λ vs. give (v ∷ vs))
        (arguments_do as_all c.1 all.1 w o f l h.0 to (st ++ flat v ∷ []) y u q1 h.2
        (longer st (flat v) (depth_of_arguments p m es) (max_stack p m) (omega (arith, room))) (further g more) heap1 holds1)
        (λ vs z b. subst (λ k. Arrives p program inputs me r to k ls (moment p r h.0 (st ++ flat v ∷ []) ls u q1) z)
        (append_assoc st (flat v ∷ []) (map flat vs)) b))
