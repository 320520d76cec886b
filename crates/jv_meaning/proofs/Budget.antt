-- The statements of a program go further where what is below them does, so the budget law holds of it.
use Rattle.std.proofs.Common.{◌≡◌, Bool, List, [], ◌∷◌, Option, Some, None, refl}
use Rattle.std.specs.Prelude.{if◌then◌else◌, codes}
use Rattle.std.specs.Str.{bytes_eq}
use Rattle.mg_text.specs.Call.{Name}
use Rattle.jv_tree.specs.declared.built_in.TextCall.TheVariants as texts
use Rattle.jv_tree.specs.BuiltIn.{session_named, text_method}
use Rattle.jv_tree.specs.Source.{Expr, Int, Truth, Text, Null, This, Variable, Member, Neg, Not, Binary, Call, MethodCall, New, Exprs}
use Rattle.jv_tree.specs.Source.{NoExpr, Argument}
use Rattle.jv_tree.specs.Source.{Stmt, Block, Empty, Local, Assign, If, IfElse, While, Do, Switch, Break, Continue, Return, Print, Eval}
use Rattle.jv_tree.specs.Source.{Stmts, NoStmt, Then, Groups, NoGroup, Group}
use Rattle.jv_values.specs.Values.{Value, Row, Shared, Lives, Here, Inputs, Wrong, put}
use Rattle.jv_values.specs.Values as values
use Rattle.jv_values.specs.Doing.{Run, ◌>>=◌, give, stop, within}
use Rattle.jv_values.specs.Statements.{Normal, Does, next_do, is_default, any_label}
use Rattle.jv_values.specs.Further.{FurtherShared, FurtherLives, FurtherDoes, FurtherBelow, IsMonotone}
use Rattle.jv_values.proofs.Combine.{if_alike, next_alike, switch_alike, while_alike, do_alike}
use Rattle.jv_values.proofs.Combine as combine
use Rattle.jv_values.proofs.Expressions as expressions
use Rattle.jv_values.proofs.Further.{further_shares, further_tells}
use Rattle.jv_values.proofs.Further.{lives_closed, within_further, declared_further, assigned_further, same_exits}
use Rattle.jv_values.proofs.Further as further
use Rattle.jv_values.proofs.FurtherSteps.{E, then_e, give_e, stop_e, found_e, valued_e, valuing_e}
use Rattle.jv_meaning.specs.Program.{Sources, class_named, enum_named}
use Rattle.jv_values.specs.Operators.{operator_of}
use Rattle.jv_meaning.specs.Names.{method_of, main_of, Referent, ALocal, AField, NoVariable, referent, constant_named}
use Rattle.jv_meaning.specs.Names.{new_fields}
use Rattle.jv_meaning.specs.Meaning.{Lower, read, read_constant, member, write_own, write_member, write, mine, case_label, has_group}
use Rattle.jv_meaning.specs.Meaning.{Target, Own, OfClass, OfValue, target_of, passed, text_call, class_call, value_call, member_call, eval}
use Rattle.jv_meaning.specs.Meaning.{eval_all, value, test, exec, exec_all, exec_from, exec_groups, language}
use Rattle.jv_meaning.specs.Budget.{BudgetLaw}

abbrev Q : {A : Type 0} → Run (Lives Name) A → Run (Lives Name) A → Type 0
Q {A} m n = FurtherLives Name A A ◌≡◌ m n

-- What has no budget is the same.

read_e : (here : Here Name) (x : Name) (r : Referent) → E (read here x r) (read here x r)
read_e here x (ALocal v) = give_e v
read_e here x AField = expressions.read_field_same FurtherShared further_tells here.class here.object x
read_e here x NoVariable = stop_e

read_constant_e : (j : Sources) (e a : Name) (r : Referent) → E (read_constant j e a r) (read_constant j e a r)
read_constant_e j e a NoVariable = found_e (constant_named j e a)
read_constant_e j e a _ = stop_e

member_e : (j : Sources) (here : Here Name) (locals : Row Name) (e : Expr) (f : Name) → E (member j here locals e f)
    (member j here locals e f)
member_e j here locals (This p) f = expressions.read_field_same FurtherShared further_tells here.class here.object f
member_e j here locals (Variable p e) f = read_constant_e j e f (referent j here locals e)
member_e j here locals _ f = stop_e

wrong_q : FurtherDoes {K = Name} (within (λ locals. stop Wrong)) (within (λ locals. stop Wrong))
wrong_q = within_further (λ r. further_shares.stop Wrong)

write_own_q : (here : Here Name) (f : Name) (v : Value) → FurtherDoes (write_own here f v) (write_own here f v)
write_own_q here f v =
    combine.bind_same (FurtherLives Name) lives_closed (within_further
    (λ r. expressions.write_field_same FurtherShared further_shares here.class here.object f v))
    (λ u. lives_closed.give tt)

write_member_q : (here : Here Name) (e : Expr) (f : Name) (v : Value) → FurtherDoes (write_member here e f v) (write_member here e f v)
write_member_q here (This p) f v = write_own_q here f v
write_member_q here _ f v = wrong_q

write_q : (here : Here Name) (e : Expr) (v : Value) → FurtherDoes (write here e v) (write here e v)
write_q here (Variable p x) v = assigned_further (λ s. put bytes_eq x v s.locals) (write_own_q here x v)
write_q here (Member p e f) v = write_member_q here e f v
write_q here _ v = wrong_q

text_call_e : (t : Value) (m : Name) (vs : List Value) → E (text_call t m vs) (text_call t m vs)
text_call_e t m (w ∷ []) =
    if_alike FurtherShared further_shares.closed (bytes_eq m (text_method texts.Equals).name)
    (expressions.equal_texts_same FurtherShared further_tells t w)
    (if_alike FurtherShared further_shares.closed (bytes_eq m (text_method texts.Concat).name)
    (expressions.joined_texts_same FurtherShared further_tells t w) stop_e)
text_call_e t m _ = stop_e

module _ (j : Sources) (inputs : Inputs) (low high : Lower) (b : FurtherBelow low high) (here : Here Name) where
  class_call_e : (c m : Name) (vs : List Value) → E (class_call j inputs low here c m vs) (class_call j inputs high here c m vs)
  class_call_e c m vs =
      if_alike FurtherShared further_shares.closed (bytes_eq c (codes "Session"))
      (then_e (found_e (session_named m)) (λ call. expressions.session_same FurtherShared further_tells inputs call vs))
      (b.call (c, m) None vs)

  value_call_e : (v : Value) (m : Name) (vs : List Value) → E (value_call j inputs low here v m vs) (value_call j inputs high here v m vs)
  value_call_e (values.Text t) m vs = valuing_e (text_call_e (values.Text t) m vs)
  value_call_e v m vs =
      then_e (expressions.receiver_same FurtherShared further_tells v)
      (λ o. then_e (expressions.object_same FurtherShared further_tells o) (λ i.
      expressions.telling_same FurtherShared further_shares o m (b.call (i.class, m) (Some o) vs)))

  member_call_e : (t : Target) (m : Name) {r r' : Run Shared Value} {args args' : Run Shared (List Value)} → E r r' → E args args' →
      E (member_call j inputs low here t r m args) (member_call j inputs high here t r' m args')
  member_call_e Own m h k = then_e k (λ vs. b.call (here.class, m) here.object vs)
  member_call_e (OfClass c) m h k = then_e k (λ vs. class_call_e c m vs)
  member_call_e OfValue m h k = then_e h (λ v. then_e k (λ vs. value_call_e v m vs))

  mutual
    eval_e : (r : Row Name) (e : Expr) → E (eval j inputs low here r e) (eval j inputs high here r e)
    eval_e r (Int p z) = give_e (Some (values.Int z))
    eval_e r (Truth p t) = give_e (Some (values.Truth t))
    eval_e r (Text p t) = give_e (Some (values.Text t))
    eval_e r (Null p) = give_e (Some values.Null)
    eval_e r (This p) = stop_e
    eval_e r (Variable p x) = valuing_e (read_e here x (referent j here r x))
    eval_e r (Member p e f) = valuing_e (member_e j here r e f)
    eval_e r (Neg p e) = valuing_e (then_e (valued_e (eval_e r e)) (expressions.negative_same FurtherShared further_tells))
    eval_e r (Not p e) = valuing_e (then_e (valued_e (eval_e r e)) (expressions.opposite_same FurtherShared further_tells))
    eval_e r (Binary p op x y) = valuing_e (expressions.binary_same FurtherShared further_tells (operator_of op) (valued_e (eval_e r x))
        (valued_e (eval_e r y)))
    eval_e r (Call p m args) = then_e (args_e r args) (λ vs. b.call (here.class, m) (passed here.object (method_of j (here.class, m))) vs)
    eval_e r (MethodCall p e m args) = member_call_e (target_of j here r e) m (valued_e (eval_e r e)) (args_e r args)
    eval_e r (New p c) = then_e (found_e (class_named j c)) (λ k. then_e (found_e (new_fields j k.fields)) (λ row.
        valuing_e (expressions.make_same FurtherShared further_shares (record { class = c; fields = row }))))

    args_e : (r : Row Name) (args : Exprs) → E (eval_all j inputs low here r args) (eval_all j inputs high here r args)
    args_e r NoExpr = give_e []
    args_e r (Argument e rest) = then_e (valued_e (eval_e r e)) (λ v. then_e (args_e r rest) (λ vs. give_e (v ∷ vs)))

  value_q : (e : Expr) → Q (value j inputs low here e) (value j inputs high here e)
  value_q e = within_further (λ r. valued_e (eval_e r e))

  test_q : (e : Expr) → Q (test j inputs low here e) (test j inputs high here e)
  test_q e = within_further (λ r. then_e (valued_e (eval_e r e)) (expressions.truth_same FurtherShared further_tells))

  then_q : {A : Type 0} {m n : Run (Lives Name) A} {f g : A → Does Name} → Q m n → ((a : A) → FurtherDoes (f a) (g a)) → FurtherDoes
      (m >>= f) (n >>= g)
  then_q h k = combine.bind_same (FurtherLives Name) lives_closed h k

  if_q : (t : Bool) {m m' n n' : Does Name} → FurtherDoes m n → FurtherDoes m' n' → FurtherDoes (if t then m else m')
      (if t then n else n')
  if_q t h k = if_alike (FurtherLives Name) lives_closed t h k

  next_q : {d d' next next' : Does Name} → FurtherDoes d d' → FurtherDoes next next' → FurtherDoes (d >>= next_do next)
      (d' >>= next_do next')
  next_q h k = lives_closed.bind h (next_alike (FurtherLives Name) lives_closed ◌≡◌ ◌≡◌ k)

  normal_q : FurtherDoes {K = Name} (give Normal) (give Normal)
  normal_q = lives_closed.give tt

  mutual
    exec_q : (s : Stmt) → FurtherDoes (exec j inputs low here s) (exec j inputs high here s)
    exec_q (Block p body end) = all_q body
    exec_q (Empty p) = normal_q
    exec_q (Local p ty x e) = then_q (value_q e) (λ v. declared_further x v normal_q)
    exec_q (Assign p target e) = then_q (value_q e) (write_q here target)
    exec_q (If p e s) = then_q (test_q e) (λ t. if_q t (exec_q s) normal_q)
    exec_q (IfElse p e s r) = then_q (test_q e) (λ t. if_q t (exec_q s) (exec_q r))
    exec_q (While p l e s) = while_alike (FurtherLives Name) lives_closed ◌≡◌ ◌≡◌ (mine l) (mine l) (mine l) (mine l) ◌≡◌ ◌≡◌
        (same_exits (mine l)) (same_exits (mine l)) (test_q e) (exec_q s) (b.turn here (While p l e s))
    exec_q (Do p l s e) = do_alike (FurtherLives Name) lives_closed ◌≡◌ ◌≡◌ (mine l) (mine l) (mine l) (mine l) ◌≡◌ ◌≡◌
        (same_exits (mine l)) (same_exits (mine l)) (test_q e) (exec_q s) (b.turn here (Do p l s e))
    exec_q (Switch p e groups end) =
        then_q (within_further (λ r. then_e (valued_e (eval_e r e)) (expressions.constant_same FurtherShared further_tells))) (λ v.
        then_q (within_further (λ r. found_e (enum_named j v.0))) (λ k.
        lives_closed.bind
        (if_q (has_group (case_label k v.1) groups) (from_q (case_label k v.1) groups) (from_q is_default groups))
        (switch_alike (FurtherLives Name) lives_closed ◌≡◌ ◌≡◌ ◌≡◌ ◌≡◌ (same_exits is_default) (λ l k w. w))))
    exec_q (Break p l) = lives_closed.give refl
    exec_q (Continue p l) = lives_closed.give refl
    exec_q (Return p None) = lives_closed.give refl
    exec_q (Return p (Some e)) = then_q (value_q e) (λ v. lives_closed.give refl)
    exec_q (Print p e) =
        then_q (within_further (λ r. then_e (valued_e (eval_e r e)) (expressions.print_same FurtherShared further_tells)))
        (λ u. normal_q)
    exec_q (Eval p e) = then_q (within_further (λ r. eval_e r e)) (λ v. normal_q)

    all_q : (ss : Stmts) → FurtherDoes (exec_all j inputs low here ss) (exec_all j inputs high here ss)
    all_q NoStmt = normal_q
    all_q (Then (Local p ty x e) rest) = then_q (value_q e) (λ v. declared_further x v (all_q rest))
    all_q (Then s rest) = next_q (exec_q s) (all_q rest)

    from_q : (wanted : Option Name → Bool) (gs : Groups) → FurtherDoes (exec_from j inputs low here wanted gs)
        (exec_from j inputs high here wanted gs)
    from_q wanted NoGroup = normal_q
    from_q wanted (Group labels body end rest) = if_q (any_label wanted labels) (next_q (all_q body) (groups_q rest)) (from_q wanted rest)

    groups_q : (gs : Groups) → FurtherDoes (exec_groups j inputs low here gs) (exec_groups j inputs high here gs)
    groups_q NoGroup = normal_q
    groups_q (Group labels body end rest) = next_q (all_q body) (groups_q rest)

monotone : (j : Sources) (inputs : Inputs) → IsMonotone (language j inputs)
monotone j inputs low high b here s = exec_q j inputs low high b here s

pub budget_law : BudgetLaw
budget_law j class inputs n =
    let law = further.budget_law Name (Name × Name) Stmt (language j inputs) (monotone j inputs) (main_of j class) n in
    record { ended = law.ended; more = law.more }
