-- The statements of a core go further where what is below them does, so the budget law holds of it.
use Rattle.std.proofs.Common.{◌≡◌, ℕ, Bool, List, [], ◌∷◌, Option, Some, None, slice_get, refl}
use Rattle.std.specs.Prelude.{if◌then◌else◌, nat_eq}
use Rattle.std.specs.Str.{bytes_eq}
use Rattle.jv_values.specs.Values.{Value, Row, Lives, Here, Inputs, Wrong, find, put}
use Rattle.jv_values.specs.Values as values
use Rattle.jv_values.specs.Doing.{Run, ◌>>=◌, give, stop, within}
use Rattle.jv_values.specs.Statements.{Normal, Does, next_do, is_default, case_at, any_label}
use Rattle.jv_values.specs.Further.{FurtherShared, FurtherLives, FurtherDoes, FurtherBelow, IsMonotone}
use Rattle.jv_values.proofs.Combine.{if_alike, next_alike, switch_alike, while_alike, do_alike}
use Rattle.jv_values.proofs.Combine as combine
use Rattle.jv_values.proofs.Expressions as expressions
use Rattle.jv_values.proofs.Further.{further_shares, further_tells}
use Rattle.jv_values.proofs.Further.{lives_closed, within_further, declared_further, assigned_further, same_exits}
use Rattle.jv_values.proofs.Further as further
use Rattle.jv_values.proofs.FurtherSteps.{E, then_e, give_e, stop_e, found_e, valued_e, valuing_e}
use Rattle.jv_core.specs.declared.tree.Var.{Var}
use Rattle.jv_core.specs.declared.tree.Var.TheVariants as vars
use Rattle.jv_core.specs.Tree.{Expr, Int, Truth, Text, Null, Variable, Constant, Neg, Not, Binary, Protocol, Helper, Static, Equals, Concat}
use Rattle.jv_core.specs.Tree.{Session, New}
use Rattle.jv_core.specs.Tree.{Exprs, NoExpr, Argument}
use Rattle.jv_core.specs.Tree.{Stmt, Block, Empty, Local, Assign, If, IfElse, While, Do, Switch, Break, Continue, Return, Print, Eval}
use Rattle.jv_core.specs.Tree.{Stmts, NoStmt, Then, Declare, Groups, NoGroup, Group, Program}
use Rattle.jv_core.specs.Lookup.{text_at, class_text, enum_text}
use Rattle.jv_values.specs.Operators.{operator_of}
use Rattle.jv_core.specs.Meaning.{Lower, Code, mine, new_fields, enum_given, has_group, own_field, read, write, protocol_call}
use Rattle.jv_core.specs.Meaning.{eval, eval_all, value, test, position, exec, exec_all, exec_from, exec_groups, language, main_of}
use Rattle.jv_sound.specs.Laws.{BudgetLaw}

abbrev Q : {A : Type 0} → Run (Lives ℕ) A → Run (Lives ℕ) A → Type 0
Q {A} m n = FurtherLives ℕ A A ◌≡◌ m n

wrong_q : FurtherDoes {K = ℕ} (within (λ locals. stop Wrong)) (within (λ locals. stop Wrong))
wrong_q = within_further (λ r. further_shares.stop Wrong)

module _ (p : Program) (inputs : Inputs) (low high : Lower) (b : FurtherBelow low high) (n : ℕ) (here : Here ℕ) where
  own_field_e : (f : ℕ) → E (own_field p inputs low n here f) (own_field p inputs high n here f)
  own_field_e f =
      then_e (found_e (slice_get p.classes here.class)) (λ k. then_e (found_e (slice_get k.fields f)) (λ d.
      give_e (text_at p k.name, text_at p d.name)))

  read_e : (r : Row ℕ) (x : Var) → E (read p inputs low n here r x) (read p inputs high n here r x)
  read_e r (vars.Slot k) = found_e (find nat_eq k r)
  read_e r (vars.Field f) =
      then_e (own_field_e f) (λ names. expressions.read_field_same FurtherShared further_tells names.0 here.object names.1)

  write_q : (x : Var) (v : Value) → FurtherDoes (write p inputs low n here x v) (write p inputs high n here x v)
  write_q (vars.Slot k) v = assigned_further (λ s. put nat_eq k v s.locals) wrong_q
  write_q (vars.Field f) v =
      combine.bind_same (FurtherLives ℕ) lives_closed (within_further (λ r.
      then_e (own_field_e f) (λ names. expressions.write_field_same FurtherShared further_shares names.0 here.object names.1 v)))
      (λ u. lives_closed.give tt)

  protocol_call_e : (m : ℕ) (v : Value) (vs : List Value) → E (protocol_call p inputs low n here m v vs)
      (protocol_call p inputs high n here m v vs)
  protocol_call_e m v vs =
      then_e (expressions.receiver_same FurtherShared further_tells v) (λ o.
      then_e (found_e (slice_get p.methods m)) (λ k.
      then_e (found_e (class_text p k.class)) (λ c.
      then_e (expressions.object_of_same FurtherShared further_tells c o) (λ i.
      expressions.telling_same FurtherShared further_shares o (text_at p k.name) (b.call m (Some o) vs)))))

  mutual
    eval_e : (r : Row ℕ) (e : Expr) → E (eval p inputs low n here r e) (eval p inputs high n here r e)
    eval_e r (Int q z) = give_e (Some (values.Int z))
    eval_e r (Truth q t) = give_e (Some (values.Truth t))
    eval_e r (Text q t) = give_e (Some (values.Text t))
    eval_e r (Null q) = give_e (Some values.Null)
    eval_e r (Variable q x) = valuing_e (read_e r x)
    eval_e r (Constant q e k) = valuing_e (then_e (found_e (enum_text p e)) (λ name. give_e (values.Constant name k)))
    eval_e r (Neg q e) = valuing_e (then_e (valued_e (eval_e r e)) (expressions.negative_same FurtherShared further_tells))
    eval_e r (Not q e) = valuing_e (then_e (valued_e (eval_e r e)) (expressions.opposite_same FurtherShared further_tells))
    eval_e r (Binary q op x y) = valuing_e (expressions.binary_same FurtherShared further_tells (operator_of op) (valued_e (eval_e r x))
        (valued_e (eval_e r y)))
    eval_e r (Protocol q x m args) = then_e (read_e r x.var) (λ v. then_e (args_e r args) (λ vs. protocol_call_e m v vs))
    eval_e r (Helper q m args) = then_e (args_e r args) (λ vs. b.call m here.object vs)
    eval_e r (Static q m args) = then_e (args_e r args) (λ vs. b.call m None vs)
    eval_e r (Equals q x y) = valuing_e (then_e (valued_e (eval_e r x)) (λ v. then_e (valued_e (eval_e r y)) (λ w.
        expressions.equal_texts_same FurtherShared further_tells v w)))
    eval_e r (Concat q x y) = valuing_e (then_e (valued_e (eval_e r x)) (λ v. then_e (valued_e (eval_e r y)) (λ w.
        expressions.joined_texts_same FurtherShared further_tells v w)))
    eval_e r (Session q c args) = then_e (args_e r args) (λ vs. expressions.session_same FurtherShared further_tells inputs
        c vs)
    eval_e r (New q c) = then_e (found_e (slice_get p.classes c)) (λ k. then_e (found_e (new_fields p k.fields)) (λ row.
        valuing_e (expressions.make_same FurtherShared further_shares (record { class = text_at p k.name; fields = row }))))

    args_e : (r : Row ℕ) (args : Exprs) → E (eval_all p inputs low n here r args) (eval_all p inputs high n here r args)
    args_e r NoExpr = give_e []
    args_e r (Argument e rest) = then_e (valued_e (eval_e r e)) (λ v. then_e (args_e r rest) (λ vs. give_e (v ∷ vs)))

  value_q : (e : Expr) → Q (value p inputs low n here e) (value p inputs high n here e)
  value_q e = within_further (λ r. valued_e (eval_e r e))

  test_q : (e : Expr) → Q (test p inputs low n here e) (test p inputs high n here e)
  test_q e = within_further (λ r. then_e (valued_e (eval_e r e)) (expressions.truth_same FurtherShared further_tells))

  position_q : (e : Expr) → Q (position p inputs low n here e) (position p inputs high n here e)
  position_q e = within_further (λ r.
      then_e (then_e (valued_e (eval_e r e)) (expressions.constant_same FurtherShared further_tells)) (λ v.
      then_e (found_e (enum_given p n e)) (λ name.
      if_alike FurtherShared further_shares.closed (bytes_eq v.0 name) (give_e v.1) stop_e)))

  then_q : {A : Type 0} {m m' : Run (Lives ℕ) A} {f g : A → Does ℕ} → Q m m' → ((a : A) → FurtherDoes (f a) (g a)) → FurtherDoes
      (m >>= f) (m' >>= g)
  then_q h k = combine.bind_same (FurtherLives ℕ) lives_closed h k

  if_q : (t : Bool) {m m' k k' : Does ℕ} → FurtherDoes m k → FurtherDoes m' k' → FurtherDoes (if t then m else m')
      (if t then k else k')
  if_q t h k = if_alike (FurtherLives ℕ) lives_closed t h k

  next_q : {d d' next next' : Does ℕ} → FurtherDoes d d' → FurtherDoes next next' → FurtherDoes (d >>= next_do next)
      (d' >>= next_do next')
  next_q h k = lives_closed.bind h (next_alike (FurtherLives ℕ) lives_closed ◌≡◌ ◌≡◌ k)

  normal_q : FurtherDoes {K = ℕ} (give Normal) (give Normal)
  normal_q = lives_closed.give tt

  mutual
    exec_q : (s : Stmt) → FurtherDoes (exec p inputs low n here s) (exec p inputs high n here s)
    exec_q (Block q body end) = all_q body
    exec_q (Empty q) = normal_q
    exec_q (Local q x e) = then_q (value_q e) (λ v. declared_further x v normal_q)
    exec_q (Assign q x e) = then_q (value_q e) (write_q x.var)
    exec_q (If q e s) = then_q (test_q e) (λ t. if_q t (exec_q s) normal_q)
    exec_q (IfElse q e s r) = then_q (test_q e) (λ t. if_q t (exec_q s) (exec_q r))
    exec_q (While q l e s) = while_alike (FurtherLives ℕ) lives_closed ◌≡◌ ◌≡◌ (mine l) (mine l) (mine l) (mine l) ◌≡◌ ◌≡◌
        (same_exits (mine l)) (same_exits (mine l)) (test_q e) (exec_q s) (b.turn here (record { method = n; stmt = While q l e s }))
    exec_q (Do q l s e) = do_alike (FurtherLives ℕ) lives_closed ◌≡◌ ◌≡◌ (mine l) (mine l) (mine l) (mine l) ◌≡◌ ◌≡◌
        (same_exits (mine l)) (same_exits (mine l)) (test_q e) (exec_q s) (b.turn here (record { method = n; stmt = Do q l s e }))
    exec_q (Switch q e groups end) =
        then_q (position_q e) (λ k. lives_closed.bind
        (if_q (has_group (case_at k) groups) (from_q (case_at k) groups) (from_q is_default groups))
        (switch_alike (FurtherLives ℕ) lives_closed ◌≡◌ ◌≡◌ ◌≡◌ ◌≡◌ (same_exits is_default) (λ l k w. w)))
    exec_q (Break q l) = lives_closed.give refl
    exec_q (Continue q l) = lives_closed.give refl
    exec_q (Return q None) = lives_closed.give refl
    exec_q (Return q (Some e)) = then_q (value_q e) (λ v. lives_closed.give refl)
    exec_q (Print q e) =
        then_q (within_further (λ r. then_e (valued_e (eval_e r e)) (expressions.print_same FurtherShared further_tells)))
        (λ u. normal_q)
    exec_q (Eval q e) = then_q (within_further (λ r. eval_e r e)) (λ v. normal_q)

    all_q : (ss : Stmts) → FurtherDoes (exec_all p inputs low n here ss) (exec_all p inputs high n here ss)
    all_q NoStmt = normal_q
    all_q (Then s rest) = next_q (exec_q s) (all_q rest)
    all_q (Declare q x e rest) = then_q (value_q e) (λ v. declared_further x v (all_q rest))

    from_q : (wanted : Option ℕ → Bool) (gs : Groups) → FurtherDoes (exec_from p inputs low n here wanted gs)
        (exec_from p inputs high n here wanted gs)
    from_q wanted NoGroup = normal_q
    from_q wanted (Group labels body end rest) = if_q (any_label wanted labels) (next_q (all_q body) (groups_q rest)) (from_q wanted rest)

    groups_q : (gs : Groups) → FurtherDoes (exec_groups p inputs low n here gs) (exec_groups p inputs high n here gs)
    groups_q NoGroup = normal_q
    groups_q (Group labels body end rest) = next_q (all_q body) (groups_q rest)

monotone : (p : Program) (inputs : Inputs) → IsMonotone (language p inputs)
monotone p inputs low high b here code = exec_q p inputs low high b code.method here code.stmt

pub budget_law : BudgetLaw
budget_law p class inputs n =
    let law = further.budget_law ℕ ℕ Code (language p inputs) (monotone p inputs) (main_of p class) n in
    record { ended = law.ended; more = law.more }
