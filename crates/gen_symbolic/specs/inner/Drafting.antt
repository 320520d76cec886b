-- The code of statements and of a whole method as it is written from left to right, where jumps lead to labels.
use Rattle.std.specs.Prelude.{ℕ, suc, pos, List, [], ◌∷◌, Bool, true, false, Option, Some, None, unwrap_or, if◌then◌else◌}
use Rattle.jv_core.specs.declared.tree.Var.{Var}
use Rattle.jv_core.specs.declared.tree.Var.TheVariants as vars
use Rattle.jv_core.specs.declared.tree.CoreVar.{CoreVar}
use Rattle.jv_core.specs.declared.program.CoreType.{CoreType}
use Rattle.jv_core.specs.declared.program.CoreType.TheVariants as types
use Rattle.jv_core.specs.Tree.{Expr, Stmt, Block, Empty, Local, Assign, If, IfElse, While, Do, Switch, Break, Continue, Return, Print, Eval}
use Rattle.jv_core.specs.Tree.{Stmts, NoStmt, Then, Declare, Groups, NoGroup, Group, Method, Program}
use Rattle.jv_values.specs.Statements.{is_default, case_at}
use Rattle.jv_core.specs.Numbering.{numbers_from}
use Rattle.gen_rules.specs.Symbolic.{push, aconst_null, aload, goto, tableswitch, return, return_value, is_reference}
use Rattle.gen_rules.specs.Symbolic.{getstatic, putfield, invokevirtual}
use Rattle.gen_rules.specs.Members.{field_reference, out_reference, println_reference}
use Rattle.gen_rules.specs.Typed.{type_of}
use Rattle.gen_rules.specs.Locals.{params_in_scope}
use Rattle.gen_rules.specs.Around.{Around, break_to, continue_to}
use Rattle.gen_rules.specs.Around as around
use Rattle.gen_rules.specs.Cases.{group_at, default_at, positions, targets}
use Rattle.gen_expressions.specs.Drafting.{Draft, Step, skip, ◌then◌, emit, next_label, with_labels, placed, ahead, behind}
use Rattle.gen_expressions.specs.Drafting.{value, jump, text, store_in, discard}

-- the number of the groups of a switch
abbrev pub count : Groups → ℕ
count NoGroup = 0
count (Group labels body end more) = suc (count more)

-- the labels that a switch goes to at a constant, or at `default`
abbrev pub wanted : (position : Option ℕ) → Option ℕ → Bool
wanted None = is_default
wanted (Some n) = case_at n

-- where a constant leads, where `default` leads to a label
abbrev pub target_by : Groups → (starts : List ℕ) → (default position : ℕ) → ℕ
target_by gs starts default position = unwrap_or (group_at (case_at position) gs starts) default

module _ (p : Program) (m : Method) where
  abbrev pub assign : (scope : List ℕ) → Var → Step → Step
  assign scope (vars.Slot k) v = v then store_in p m scope k
  assign scope (vars.Field f) v = emit (aload 0) then v then emit (putfield (field_reference p m.class f))

  -- the table of a switch, whose groups begin at labels from the first on
  abbrev pub table : Groups → (first count end : ℕ) → List ℕ → Step
  table gs first n x ns = emit (tableswitch (default_at gs (numbers_from first n) x) (targets gs (numbers_from first n) x ns))

  -- a table, and the groups with these labels
  abbrev pub switched : Groups → (groups : (first : ℕ) → Step) → (end : ℕ) → List ℕ → Step
  switched gs groups x ns d =
      groups (next_label d) (table gs (next_label d) (count gs) x ns (with_labels (count gs) d))

  abbrev mutual
    -- labels stand in what is around it
    pub statement : (scope : List ℕ) → List Around → Stmt → Step
    statement scope ts (Block q body end) = statements scope ts body
    statement scope ts (Empty q) = skip
    statement scope ts (Local q k e) = value p m scope e then store_in p m (k ∷ scope) k
    statement scope ts (Assign q x e) = assign scope x.var (value p m scope e)
    statement scope ts (If q c s) = ahead (λ l. jump p m scope c false l then statement scope ts s)
    statement scope ts (IfElse q c s r) =
        ahead (λ n. ahead (λ l. jump p m scope c false l then statement scope ts s then emit (goto n)) then statement scope ts r)
    statement scope ts (While q n c s) =
        behind (λ h. ahead (λ x. jump p m scope c false x then statement scope (around.Loop n x h ∷ ts) s then emit (goto h)))
    statement scope ts (Do q n s c) =
        behind (λ h. ahead (λ x. ahead (λ k. statement scope (around.Loop n x k ∷ ts) s) then jump p m scope c true h))
    statement scope ts (Switch q e gs end) =
        ahead (λ x. value p m scope e
        then switched gs (λ first. groups scope (around.Switch x ∷ ts) gs first) x (positions p (type_of p m e)))
    statement scope ts (Break q n) = emit (goto (break_to ts n))
    statement scope ts (Continue q n) = emit (goto (continue_to ts n))
    statement scope ts (Return q None) = emit return
    statement scope ts (Return q (Some e)) = value p m scope e then emit (return_value m.result)
    statement scope ts (Print q e) =
        emit (getstatic out_reference) then value p m scope e then text p m (type_of p m e) then emit (invokevirtual println_reference)
    statement scope ts (Eval q e) = value p m scope e then discard p m (type_of p m e)

    pub statements : (scope : List ℕ) → List Around → Stmts → Step
    statements scope ts NoStmt = skip
    statements scope ts (Then s more) = statement scope ts s then statements scope ts more
    statements scope ts (Declare q k e more) = value p m scope e then store_in p m (k ∷ scope) k then statements (k ∷ scope) ts more

    -- the groups of a switch begin at labels from the first on
    pub groups : (scope : List ℕ) → List Around → Groups → (first : ℕ) → Step
    groups scope ts NoGroup first = skip
    groups scope ts (Group labels body end more) first =
        placed first then statements scope ts body then groups scope ts more (suc first)

  -- the code of each statement, of its parts
  abbrev pub alone : (scope : List ℕ) → (slot : ℕ) → Expr → Step
  alone scope k e = value p m scope e then store_in p m (k ∷ scope) k

  abbrev pub returned : (scope : List ℕ) → Expr → Step
  returned scope e = value p m scope e then emit (return_value m.result)

  abbrev pub printed : (scope : List ℕ) → Expr → Step
  printed scope e =
      emit (getstatic out_reference) then value p m scope e then text p m (type_of p m e) then emit (invokevirtual println_reference)

  abbrev pub evaluated : (scope : List ℕ) → Expr → Step
  evaluated scope e = value p m scope e then discard p m (type_of p m e)

  abbrev pub if_true : (scope : List ℕ) → List Around → Expr → Stmt → Step
  if_true scope ts c s = ahead (λ l. jump p m scope c false l then statement scope ts s)

  abbrev pub if_else : (scope : List ℕ) → List Around → Expr → Stmt → Stmt → Step
  if_else scope ts c s r =
      ahead (λ n. ahead (λ l. jump p m scope c false l then statement scope ts s then emit (goto n)) then statement scope ts r)

  abbrev pub while_true : (scope : List ℕ) → List Around → (loop : ℕ) → Expr → Stmt → Step
  while_true scope ts n c s =
      behind (λ h. ahead (λ x. jump p m scope c false x then statement scope (around.Loop n x h ∷ ts) s then emit (goto h)))

  abbrev pub do_while : (scope : List ℕ) → List Around → (loop : ℕ) → Stmt → Expr → Step
  do_while scope ts n s c =
      behind (λ h. ahead (λ x. ahead (λ k. statement scope (around.Loop n x k ∷ ts) s) then jump p m scope c true h))

  abbrev pub switch : (scope : List ℕ) → List Around → Expr → Groups → Step
  switch scope ts e gs =
      ahead (λ x. value p m scope e
      then switched gs (λ first. groups scope (around.Switch x ∷ ts) gs first) x (positions p (type_of p m e)))

  abbrev pub end_of_method : CoreType → Step
  end_of_method types.Void = emit return
  end_of_method type = emit (if is_reference type then aconst_null else push (pos 0)) then emit (return_value type)

  -- the whole method; label 0 is its beginning
  abbrev pub drafted : Draft
  drafted = (statements (params_in_scope m) [] m.body then end_of_method m.result) (record { code = []; labels = 0 ∷ [] })
