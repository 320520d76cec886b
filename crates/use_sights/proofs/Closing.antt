-- What is met in a flow: whatever is kept by what flows out, by demands on what is left, by reads and by calls is kept by the whole.
use Rattle.std.proofs.Common.{◌≡◌, ℕ, suc, Bool, true, false, List, [], ◌∷◌, ◌++◌, reverse, Option, Some, None, refl, inl, inr}
use Rattle.std.proofs.Common.{slice_get, subst, sym}
use Rattle.std.specs.Prelude.{if◌then◌else◌, codes}
use Rattle.std.specs.List.{list_any}
use Rattle.mg_text.specs.Call.{Name}
use Rattle.mg_text.specs.declared.place.Place.{Place}
use Rattle.ts_tree.specs.declared.parts.To.{To}
use Rattle.ts_tree.specs.Typestate.{Target}
use Rattle.ts_tree.specs.Calls.{may_end}
use Rattle.jv_tree.specs.declared.tree.Op.TheVariants as ops
use Rattle.jv_core.specs.declared.tree.Var.{Var}
use Rattle.jv_core.specs.declared.tree.Var.TheVariants as vars
use Rattle.jv_core.specs.declared.tree.CoreVar.{CoreVar}
use Rattle.jv_core.specs.Tree.{Expr, Int, Truth, Text, Null, Variable, Constant, Neg, Not, Binary, Protocol, Helper, Static, Equals, Concat}
use Rattle.jv_core.specs.Tree.{Session, New}
use Rattle.jv_core.specs.Tree.{Exprs, NoExpr, Argument}
use Rattle.jv_core.specs.Tree.{Stmt, Block, Empty, Local, Assign, If, IfElse, While, Do, Switch, Break, Continue, Return, Print, Eval}
use Rattle.jv_core.specs.Tree.{Stmts, NoStmt, Then, Declare, Groups, NoGroup, Group, Field, Method, Program}
use Rattle.jv_core.specs.Lookup.{text_at}
use Rattle.jv_core.specs.Numbering.{numbers_from}
use Rattle.use_rules.specs.declared.key.Context.{Context}
use Rattle.use_rules.specs.declared.key.Context.TheVariants as contexts
use Rattle.use_rules.specs.declared.key.TableKey.TheVariants as keys
use Rattle.use_rules.specs.declared.demand.Demand.{Demand}
use Rattle.use_rules.specs.declared.demand.DemandKind.{DemandKind}
use Rattle.use_rules.specs.declared.demand.DemandKind.TheVariants as demands
use Rattle.use_rules.specs.Elements.{Set, if_moved, unless_called, targets}
use Rattle.use_rules.specs.Keys.{Tables, typestate_of}
use Rattle.use_rules.specs.State.{Now, set_of, with_set, joined, Out, Log, sends, asks, sees, GoesOn, Flow, Argued, caught, leaving}
use Rattle.use_rules.specs.Flow as rules
use Rattle.use_rules.specs.Flow.{Evaluated, NullTest, after, alike, flow, null_test, declared_here}
use Rattle.use_rules.specs.inner.Order.{Mem}
use Rattle.use_rules.proofs.Members.{mem_left, mem_right}
use Rattle.use_sights.specs.Calls.{Use, Reads, Calls, uses_in, uses_in_args, uses_of, uses_of_all, uses_of_groups}
use Rattle.use_sights.proofs.Judging.{IsLeft, AreLeft, none_left, both_left, open_left}

module _ (p : Program) (cs : List Context) (c : Context) (m : Method) (t : Tables) (n : ℕ) (Holds : Log → Type 0) (InBody : Use → Type 0)
  where
    pub record Keeps : Type 0 where
      pub sent : (os : List Out) (l : Log) → Holds l → Holds (sends os l)
      pub left : (ds : List Demand) (l : Log) → AreLeft ds → Holds l → Holds (asks ds l)
      pub read : (q : Place) (x : Var) (sets : List Set) (l : Log) → InBody (Reads q) → Holds l →
          Holds (asks (rules.judged_variable p cs c m if_moved q x sets) l)
      pub called : (x : CoreVar) (i : ℕ) (k : Method) (sets : List Set) (l : Log) → slice_get p.methods i ≡ Some k →
          InBody (Calls (record { place = x.place; within = n; variable = x.var; method = i })) → Holds l →
          Holds (asks (rules.judged_variable p cs c m (unless_called (typestate_of p k.class) (text_at p k.name)) x.place x.var sets)
          (sees (record { place = x.place; variable = x.var; method = i; set = set_of sets (rules.variable_at p cs c m x.var) }) l))

    abbrev Used : List Use → Type 0
    Used us = (u : Use) → Mem u us → InBody u

    front : (a b : List Use) → Used (a ++ b) → Used a
    front a b h u i = h u (mem_left u a b i)

    back : (a b : List Use) → Used (a ++ b) → Used b
    back a b h u i = h u (mem_right u a b i)

    module _ (keeps : Keeps) where
      -- Calls.

      protocol_holds : (which : Target → List To) (x : CoreVar) (i : ℕ) (k : Method) (ss : List Set) (now : Now) (l : Log) →
          slice_get p.methods i ≡ Some k → InBody (Calls (record { place = x.place; within = n; variable = x.var; method = i })) → Holds l →
          Holds ((rules.protocol_call p cs c m t which x i k ss now l).log)
      protocol_holds which x i k ss None l at used h = h
      protocol_holds which x i k ss (Some sets) l at used h = keeps.sent _ _ (keeps.called x i k sets l at used h)

      helper_holds : (i : ℕ) (k : Method) (ss : List Set) (now : Now) (l : Log) → Holds l →
          Holds ((rules.helper_call p cs c m t i k ss now l).log)
      helper_holds i k ss None l h = h
      helper_holds i k ss (Some sets) l h = keeps.sent _ _ (keeps.sent _ l h)

      static_holds : (i : ℕ) (k : Method) (ss : List Set) (now : Now) (l : Log) → Holds l →
          Holds ((rules.static_call p cs c m t i k ss now l).log)
      static_holds i k ss None l h = h
      static_holds i k ss (Some sets) l h = keeps.sent _ l h

      abbrev Calling : Type 0
      Calling = Method → List Set → Now → Log → Evaluated

      called_by : (v : Option Method) (f : Calling) (a : Argued) →
          ((k : Method) → v ≡ Some k → (ss : List Set) (now : Now) (l : Log) → Holds l → Holds ((f k ss now l).log)) → Holds a.log →
          Holds ((elim v as (λ _. Evaluated) [ None ↦ alike [] a.now a.log | Some k ↦ f k a.sets a.now a.log ]).log)
      called_by None f a g h = h
      called_by (Some k) f a g h = g k refl a.sets a.now a.log h

      called_holds : (i : ℕ) (f : Calling) (a : Argued) →
          ((k : Method) → slice_get p.methods i ≡ Some k → (ss : List Set) (now : Now) (l : Log) → Holds l → Holds ((f k ss now l).log)) →
          Holds a.log → Holds ((rules.called p cs c m t i f a).log)
      called_holds i f a g h = called_by (slice_get p.methods i) f a g h

      -- behind its arguments
      call_holds : (x : CoreVar) (i : ℕ) (a : Argued) →
          InBody (Calls (record { place = x.place; within = n; variable = x.var; method = i })) → Holds a.log →
          Holds ((rules.called p cs c m t i (rules.protocol_call p cs c m t targets x i) a).log)
      call_holds x i a used h = called_holds i (rules.protocol_call p cs c m t targets x i) a
          (λ k at ss now l g. protocol_holds targets x i k ss now l at used g) h

      -- Null tests.

      tested_by : (v : Bool) (a b : Evaluated) (l : Log) → a.log ≡ l → b.log ≡ l → Holds l → Holds ((if v then a else b).log)
      tested_by true a b l e f h = subst Holds (sym e) h
      tested_by false a b l e f h = subst Holds (sym f) h

      compared_holds : (o : Option NullTest) (v : Evaluated) (sets : List Set) (l : Log) → Holds v.log → Holds l →
          Holds ((elim o as (λ _. Evaluated) [
            | None ↦ alike [] (after v) v.log
            | Some x ↦ rules.null_tested p cs c m x sets l
          ]).log)
      compared_holds None v sets l g h = g
      compared_holds (Some x) v sets l g h = tested_by x.holds _ _ l refl refl h

      -- Expressions.

      abbrev of : ℕ → Expr → Now → Log → Evaluated
      of w e now l = rules.eval p cs c m t w e now l

      mutual
        pub eval_holds : (w : ℕ) (e : Expr) (now : Now) (l : Log) → Used (uses_in n e) → Holds l → Holds ((rules.eval p cs c m t w e now l).log)
        eval_holds w e None l used h = h
        eval_holds w (Int q z) (Some b) l used h = h
        eval_holds w (Truth q z) (Some b) l used h = h
        eval_holds w (Text q z) (Some b) l used h = h
        eval_holds w (Null q) (Some b) l used h = h
        eval_holds w (Constant q x k) (Some b) l used h = h
        eval_holds w (New q k) (Some b) l used h = h
        eval_holds w (Variable q x) (Some b) l used h = keeps.read q x b l (used (Reads q) (inl refl)) h
        eval_holds w (Neg q e) (Some b) l used h = eval_holds 0 e (Some b) l used h
        eval_holds w (Not q e) (Some b) l used h = eval_holds 0 e (Some b) l used h
        eval_holds w (Binary q ops.And x y) (Some b) l used h =
            let v = of 0 x (Some b) l in
            eval_holds 0 y v.yes v.log (back (uses_in n x) (uses_in n y) used)
            (eval_holds 0 x (Some b) l (front (uses_in n x) (uses_in n y) used) h)
        eval_holds w (Binary q ops.Or x y) (Some b) l used h =
            let v = of 0 x (Some b) l in
            eval_holds 0 y v.no v.log (back (uses_in n x) (uses_in n y) used)
            (eval_holds 0 x (Some b) l (front (uses_in n x) (uses_in n y) used) h)
        eval_holds w (Binary q ops.Eq x y) (Some b) l used h =
            let v = of 0 x (Some b) l in
            compared_holds (null_test ops.Eq x y) (of 0 y (after v) v.log) b l
            (eval_holds 0 y (after v) v.log (back (uses_in n x) (uses_in n y) used)
            (eval_holds 0 x (Some b) l (front (uses_in n x) (uses_in n y) used) h)) h
        eval_holds w (Binary q ops.Ne x y) (Some b) l used h =
            let v = of 0 x (Some b) l in
            compared_holds (null_test ops.Ne x y) (of 0 y (after v) v.log) b l
            (eval_holds 0 y (after v) v.log (back (uses_in n x) (uses_in n y) used)
            (eval_holds 0 x (Some b) l (front (uses_in n x) (uses_in n y) used) h)) h
        eval_holds w (Binary q ops.Lt x y) (Some b) l used h =
            let v = of 0 x (Some b) l in
            compared_holds (null_test ops.Lt x y) (of 0 y (after v) v.log) b l
            (eval_holds 0 y (after v) v.log (back (uses_in n x) (uses_in n y) used)
            (eval_holds 0 x (Some b) l (front (uses_in n x) (uses_in n y) used) h)) h
        eval_holds w (Binary q ops.Le x y) (Some b) l used h =
            let v = of 0 x (Some b) l in
            compared_holds (null_test ops.Le x y) (of 0 y (after v) v.log) b l
            (eval_holds 0 y (after v) v.log (back (uses_in n x) (uses_in n y) used)
            (eval_holds 0 x (Some b) l (front (uses_in n x) (uses_in n y) used) h)) h
        eval_holds w (Binary q ops.Gt x y) (Some b) l used h =
            let v = of 0 x (Some b) l in
            compared_holds (null_test ops.Gt x y) (of 0 y (after v) v.log) b l
            (eval_holds 0 y (after v) v.log (back (uses_in n x) (uses_in n y) used)
            (eval_holds 0 x (Some b) l (front (uses_in n x) (uses_in n y) used) h)) h
        eval_holds w (Binary q ops.Ge x y) (Some b) l used h =
            let v = of 0 x (Some b) l in
            compared_holds (null_test ops.Ge x y) (of 0 y (after v) v.log) b l
            (eval_holds 0 y (after v) v.log (back (uses_in n x) (uses_in n y) used)
            (eval_holds 0 x (Some b) l (front (uses_in n x) (uses_in n y) used) h)) h
        eval_holds w (Binary q ops.Add x y) (Some b) l used h =
            let v = of 0 x (Some b) l in
            compared_holds (null_test ops.Add x y) (of 0 y (after v) v.log) b l
            (eval_holds 0 y (after v) v.log (back (uses_in n x) (uses_in n y) used)
            (eval_holds 0 x (Some b) l (front (uses_in n x) (uses_in n y) used) h)) h
        eval_holds w (Binary q ops.Sub x y) (Some b) l used h =
            let v = of 0 x (Some b) l in
            compared_holds (null_test ops.Sub x y) (of 0 y (after v) v.log) b l
            (eval_holds 0 y (after v) v.log (back (uses_in n x) (uses_in n y) used)
            (eval_holds 0 x (Some b) l (front (uses_in n x) (uses_in n y) used) h)) h
        eval_holds w (Binary q ops.Mul x y) (Some b) l used h =
            let v = of 0 x (Some b) l in
            compared_holds (null_test ops.Mul x y) (of 0 y (after v) v.log) b l
            (eval_holds 0 y (after v) v.log (back (uses_in n x) (uses_in n y) used)
            (eval_holds 0 x (Some b) l (front (uses_in n x) (uses_in n y) used) h)) h
        eval_holds w (Binary q ops.Div x y) (Some b) l used h =
            let v = of 0 x (Some b) l in
            compared_holds (null_test ops.Div x y) (of 0 y (after v) v.log) b l
            (eval_holds 0 y (after v) v.log (back (uses_in n x) (uses_in n y) used)
            (eval_holds 0 x (Some b) l (front (uses_in n x) (uses_in n y) used) h)) h
        eval_holds w (Binary q ops.Rem x y) (Some b) l used h =
            let v = of 0 x (Some b) l in
            compared_holds (null_test ops.Rem x y) (of 0 y (after v) v.log) b l
            (eval_holds 0 y (after v) v.log (back (uses_in n x) (uses_in n y) used)
            (eval_holds 0 x (Some b) l (front (uses_in n x) (uses_in n y) used) h)) h
        eval_holds w (Protocol q x i es) (Some b) l used h =
            call_holds x i _ (used _ (inl refl)) (args_hold (rules.widths_of p cs c m i) es (Some b) l (λ u j. used u (inr j)) h)
        eval_holds w (Helper q i es) (Some b) l used h =
            called_holds i (rules.helper_call p cs c m t i) _ (λ k at ss now l h. helper_holds i k ss now l h)
            (args_hold (rules.widths_of p cs c m i) es (Some b) l used h)
        eval_holds w (Static q i es) (Some b) l used h =
            called_holds i (rules.static_call p cs c m t i) _ (λ k at ss now l h. static_holds i k ss now l h)
            (args_hold (rules.widths_of p cs c m i) es (Some b) l used h)
        eval_holds w (Equals q x y) (Some b) l used h =
            let v = of 0 x (Some b) l in
            eval_holds 0 y (after v) v.log (back (uses_in n x) (uses_in n y) used)
            (eval_holds 0 x (Some b) l (front (uses_in n x) (uses_in n y) used) h)
        eval_holds w (Concat q x y) (Some b) l used h =
            let v = of 0 x (Some b) l in
            eval_holds 0 y (after v) v.log (back (uses_in n x) (uses_in n y) used)
            (eval_holds 0 x (Some b) l (front (uses_in n x) (uses_in n y) used) h)
        eval_holds w (Session q x es) (Some b) l used h = args_hold [] es (Some b) l used h

        pub args_hold : (ws : List ℕ) (es : Exprs) (now : Now) (l : Log) → Used (uses_in_args n es) → Holds l →
            Holds ((rules.eval_all p cs c m t ws es now l).log)
        args_hold ws NoExpr now l used h = h
        args_hold [] (Argument e es) now l used h =
            args_hold [] es _ _ (back (uses_in n e) (uses_in_args n es) used)
            (eval_holds 0 e now l (front (uses_in n e) (uses_in_args n es) used) h)
        args_hold (w ∷ ws) (Argument e es) now l used h =
            args_hold ws es _ _ (back (uses_in n e) (uses_in_args n es) used)
            (eval_holds w e now l (front (uses_in n e) (uses_in_args n es) used) h)

      -- What is left.

      asked_left : (k : DemandKind) → IsLeft k → (q : Place) (x : Var) (sets : List Set) →
          AreLeft (rules.judged_variable p cs c m (rules.open_rule p cs c m k x) q x sets)
      asked_left k left q x sets =
          open_left k left (typestate_of p (rules.variable_class p cs c m x)) q (rules.variable_at p cs c m x)
          (rules.variable_text p cs c m x) (rules.variable_class p cs c m x) (set_of sets (rules.variable_at p cs c m x))

      left_are : (q : Place) (ks : List ℕ) (sets : List Set) → AreLeft (rules.left_open p cs c m q ks sets)
      left_are q [] sets = none_left
      left_are q (k ∷ ks) sets =
          both_left _ _ (asked_left demands.LeftOpen tt q (vars.Slot k) sets) (left_are q ks sets)

      fields_are : (q : Place) (f : ℕ) (ds : List Field) (sets : List Set) → AreLeft (rules.open_fields p cs c m q f ds sets)
      fields_are q f [] sets = none_left
      fields_are q f (d ∷ ds) sets = both_left _ _ (asked_left demands.FieldOpenAtEnd tt q (vars.Field f) sets)
          (fields_are q (suc f) ds sets)

      if_left : (v : Bool) (ds : List Demand) → AreLeft ds → AreLeft (if v then ds else [])
      if_left true ds a = a
      if_left false ds a = none_left

      exit_by : (q : Place) (ks : List ℕ) (f : Flow) (now : Now) → Holds f.log →
          Holds ((elim now as (λ _. Flow) [
            | None ↦ flow None f.jumps f.log
            | Some sets ↦ flow (Some (rules.without p cs c m ks sets)) f.jumps (asks (rules.left_open p cs c m q ks sets) f.log)
          ]).log)
      exit_by q ks f None h = h
      exit_by q ks f (Some sets) h = keeps.left _ f.log (left_are q ks sets) h

      exit_holds : (q : Place) (ks : List ℕ) (f : Flow) → Holds f.log → Holds ((rules.exit p cs c m q ks f).log)
      exit_holds q ks f h = exit_by q ks f f.now h

      heads_hold : (k : ℕ) (now : Now) (l : Log) → Holds l → Holds (rules.heads p cs c m k now l)
      heads_hold k None l h = h
      heads_hold k (Some sets) l h = keeps.sent _ l h

      if_sent : (v : Bool) (os : List Out) (l : Log) → Holds l → Holds (if v then sends os l else l)
      if_sent true os l h = keeps.sent os l h
      if_sent false os l h = h

      leaves_by : (x : Context) (q : Place) (answer : Option Name) (sets : List Set) (l : Log) → Holds l →
          Holds (elim x as (λ _. Log) [
            | contexts.Protocol d s i ↦
                let tos' = rules.followed p cs c m d s answer in
                asks (if list_any (may_end (typestate_of p d)) tos' then rules.open_fields p cs c m q 0 (rules.own_fields p cs c m) sets else
                []) (sends (rules.to_states p cs c m d tos' sets) l)
            | contexts.Plain i ↦ if rules.has_fields p cs c m then sends (rules.field_outs p cs c m (keys.Leave i) sets) l else l
          ])
      leaves_by (contexts.Protocol d s i) q answer sets l h =
          keeps.left _ _ (if_left (list_any (may_end (typestate_of p d)) (rules.followed p cs c m d s answer)) _
          (fields_are q 0 (rules.own_fields p cs c m) sets)) (keeps.sent _ l h)
      leaves_by (contexts.Plain i) q answer sets l h = if_sent (rules.has_fields p cs c m) _ l h

      left_holds : (q : Place) (answer : Option Name) (s : Set) (sc : List ℕ) (now : Now) (l : Log) → Holds l →
          Holds (rules.left p cs c m q answer s sc now l)
      left_holds q answer s sc None l h = h
      left_holds q answer s sc (Some sets) l h =
          leaves_by c q answer sets _ (keeps.sent _ _ (keeps.left _ l (left_are q (reverse sc) sets) h))

      -- Statements.

      assigned_by : (x : CoreVar) (s : Set) (now : Now) (l : Log) → Holds l →
          Holds ((elim now as (λ _. Flow) [
            | None ↦ flow None [] l
            | Some sets ↦ flow (Some (with_set sets (rules.variable_at p cs c m x.var) s)) []
                (asks (rules.judged_variable p cs c m (rules.open_rule p cs c m demands.Overwritten x.var) x.place x.var sets) l)
          ]).log)
      assigned_by x s None l h = h
      assigned_by x s (Some sets) l h = keeps.left _ l (asked_left demands.Overwritten tt x.place x.var sets) h

      switched_holds : (e : Expr) (b : List Set) (l : Log) → Used (uses_in n e) → Holds l →
          Holds (((rules.switched p cs c m t e (Some b) l).0).log)
      switched_holds (Protocol q x i es) b l used h =
          call_holds x i _ (used _ (inl refl)) (args_hold (rules.widths_of p cs c m i) es (Some b) l (λ u j. used u (inr j)) h)
      switched_holds (Int q z) b l used h = eval_holds 0 (Int q z) (Some b) l used h
      switched_holds (Truth q z) b l used h = eval_holds 0 (Truth q z) (Some b) l used h
      switched_holds (Text q z) b l used h = eval_holds 0 (Text q z) (Some b) l used h
      switched_holds (Null q) b l used h = eval_holds 0 (Null q) (Some b) l used h
      switched_holds (Variable q x) b l used h = eval_holds 0 (Variable q x) (Some b) l used h
      switched_holds (Constant q x k) b l used h = eval_holds 0 (Constant q x k) (Some b) l used h
      switched_holds (Neg q x) b l used h = eval_holds 0 (Neg q x) (Some b) l used h
      switched_holds (Not q x) b l used h = eval_holds 0 (Not q x) (Some b) l used h
      switched_holds (Binary q o x y) b l used h = eval_holds 0 (Binary q o x y) (Some b) l used h
      switched_holds (Helper q i es) b l used h = eval_holds 0 (Helper q i es) (Some b) l used h
      switched_holds (Static q i es) b l used h = eval_holds 0 (Static q i es) (Some b) l used h
      switched_holds (Equals q x y) b l used h = eval_holds 0 (Equals q x y) (Some b) l used h
      switched_holds (Concat q x y) b l used h = eval_holds 0 (Concat q x y) (Some b) l used h
      switched_holds (Session q x es) b l used h = eval_holds 0 (Session q x es) (Some b) l used h
      switched_holds (New q k) b l used h = eval_holds 0 (New q k) (Some b) l used h

      mutual
        pub step_holds : (sc out : List ℕ) (s : Stmt) (now : Now) (l : Log) → Used (uses_of n s) → Holds l →
            Holds ((rules.step p cs c m t sc out s now l).log)
        step_holds sc out s None l used h = h
        step_holds sc out (Block q body end) (Some b) l used h =
            exit_holds end (declared_here body) _ (steps_hold sc out body (Some b) l used h)
        step_holds sc out (Empty q) (Some b) l used h = h
        step_holds sc out (Local q x e) (Some b) l used h = exit_holds q (x ∷ []) _ (eval_holds _ e (Some b) l used h)
        step_holds sc out (Assign q x e) (Some b) l used h =
            let w = rules.variable_width p cs c m x.var in
            let v = rules.eval p cs c m t w e (Some b) l in
            assigned_by x v.set (after v) v.log (eval_holds w e (Some b) l used h)
        step_holds sc out (If q e s) (Some b) l used h =
            step_holds sc out s _ _ (back (uses_in n e) (uses_of n s) used)
            (eval_holds 0 e (Some b) l (front (uses_in n e) (uses_of n s) used) h)
        step_holds sc out (IfElse q e s r) (Some b) l used h =
            let rest = back (uses_in n e) (uses_of n s ++ uses_of n r) used in
            step_holds sc out r _ _ (back (uses_of n s) (uses_of n r) rest)
            (step_holds sc out s _ _ (front (uses_of n s) (uses_of n r) rest)
            (eval_holds 0 e (Some b) l (front (uses_in n e) (uses_of n s ++ uses_of n r) used) h))
        step_holds sc out (While q k e s) (Some b) l used h =
            let head = rules.at_head p cs c m t k b in
            let log = rules.heads p cs c m k (Some b) l in
            let v = of 0 e (Some head) log in
            let f = rules.step p cs c m t sc out s v.yes v.log in
            heads_hold k (joined f.now (caught (GoesOn k) f.jumps)) f.log
            (step_holds sc out s v.yes v.log (back (uses_in n e) (uses_of n s) used)
            (eval_holds 0 e (Some head) log (front (uses_in n e) (uses_of n s) used) (heads_hold k (Some b) l h)))
        step_holds sc out (Do q k s e) (Some b) l used h =
            let head = rules.at_head p cs c m t k b in
            let log = rules.heads p cs c m k (Some b) l in
            let f = rules.step p cs c m t sc out s (Some head) log in
            let now = joined f.now (caught (GoesOn k) f.jumps) in
            let v = of 0 e now f.log in
            heads_hold k v.yes v.log (eval_holds 0 e now f.log (back (uses_of n s) (uses_in n e) used)
            (step_holds sc out s (Some head) log (front (uses_of n s) (uses_in n e) used) (heads_hold k (Some b) l h)))
        step_holds sc out (Switch q e gs end) (Some b) l used h =
            groups_hold sc _ _ gs None _ (back (uses_in n e) (uses_of_groups n gs) used)
            (switched_holds e b l (front (uses_in n e) (uses_of_groups n gs) used) h)
        step_holds sc out (Break q None) (Some b) l used h = exit_holds q (leaving sc out) (flow (Some b) [] l) h
        step_holds sc out (Break q (Some k)) (Some b) l used h =
            exit_holds q (leaving sc (rules.loop_scope p cs c m k)) (flow (Some b) [] l) h
        step_holds sc out (Continue q k) (Some b) l used h =
            exit_holds q (leaving sc (rules.loop_scope p cs c m k)) (flow (Some b) [] l) h
        step_holds sc out (Return q None) (Some b) l used h = left_holds q None [] sc (Some b) l h
        step_holds sc out (Return q (Some e)) (Some b) l used h =
            left_holds q (rules.answer_of p cs c m (Some e)) _ sc _ _ (eval_holds _ e (Some b) l used h)
        step_holds sc out (Print q e) (Some b) l used h = eval_holds 0 e (Some b) l used h
        step_holds sc out (Eval q e) (Some b) l used h =
            let d = rules.class_or_none p cs c m (rules.type_dropped p cs c m e) in
            keeps.left _ _ (open_left demands.LeftOpen tt (typestate_of p d) q (rules.behind_variables p cs c m) (codes "value") d
            (of 0 e (Some b) l).set) (eval_holds 0 e (Some b) l used h)

        pub steps_hold : (sc out : List ℕ) (s : Stmts) (now : Now) (l : Log) → Used (uses_of_all n s) → Holds l →
            Holds ((rules.steps p cs c m t sc out s now l).log)
        steps_hold sc out NoStmt now l used h = h
        steps_hold sc out (Then s more) now l used h =
            steps_hold sc out more _ _ (back (uses_of n s) (uses_of_all n more) used)
            (step_holds sc out s now l (front (uses_of n s) (uses_of_all n more) used) h)
        steps_hold sc out (Declare q x e more) now l used h =
            steps_hold (x ∷ sc) out more _ _ (back (uses_in n e) (uses_of_all n more) used)
            (eval_holds _ e now l (front (uses_in n e) (uses_of_all n more) used) h)

        pub groups_hold : (sc : List ℕ) (rest : Now) (nows : List Now) (gs : Groups) (before : Now) (l : Log) → Used (uses_of_groups n gs) →
            Holds l → Holds ((rules.follow p cs c m t sc rest nows gs before l).log)
        groups_hold sc rest nows NoGroup before l used h = h
        groups_hold sc rest nows (Group labels body end more) before l used h =
            groups_hold sc rest nows more _ _ (back (uses_of_all n body) (uses_of_groups n more) used)
            (exit_holds end (declared_here body) _ (steps_hold sc sc body _ l
            (front (uses_of_all n body) (uses_of_groups n more) used) h))

      pub whole_holds : Used (uses_of_all n m.body) → Holds (record { outs = []; failed = []; sights = [] }) → Holds (rules.whole p cs c m t)
      whole_holds used h =
          left_holds m.end None [] (reverse (declared_here m.body) ++ reverse (numbers_from 0 m.params)) _ _
          (steps_hold (reverse (numbers_from 0 m.params)) [] m.body (Some (rules.start p cs c m t)) _ used h)
