-- The instructions of each construct, as a list that begins at a place. Sizes don't depend on places, nor on where jumps lead:
-- so each label is known before a jump to it is made.
use Rattle.std.specs.Prelude.{ℕ, ◌+◌, pos, List, [], ◌∷◌, ◌++◌, Bool, true, false, Option, Some, None, if◌then◌else◌}
use Rattle.jv_tree.specs.declared.tree.Op.{Op}
use Rattle.jv_tree.specs.declared.tree.Op.TheVariants as ops
use Rattle.jv_core.specs.declared.tree.Var.{Var}
use Rattle.jv_core.specs.declared.tree.Var.TheVariants as vars
use Rattle.jv_core.specs.declared.program.CoreType.{CoreType}
use Rattle.jv_core.specs.declared.program.CoreType.TheVariants as types
use Rattle.jv_core.specs.Tree.{Expr, Int, Truth, Text, Null, Variable, Constant, Neg}
use Rattle.jv_core.specs.Tree.{Not, Binary, Protocol, Helper, Static, Equals, Concat, Session, New}
use Rattle.jv_core.specs.Tree.{Exprs, NoExpr, Argument}
use Rattle.jv_core.specs.Tree.{Stmt, Block, Empty, Local, Assign, If, IfElse, While, Do, Switch, Break, Continue, Return, Print, Eval}
use Rattle.jv_core.specs.Tree.{Stmts, NoStmt, Then, Declare, Groups, NoGroup, Group, Method, Program}
use Rattle.jv_core.specs.Lookup.{variable_type}
use Rattle.gen_rules.specs.Symbolic.{Instr, push, push_truth, push_text, aconst_null, load, store, aload}
use Rattle.gen_rules.specs.Symbolic.{pop, dup, iadd, isub, imul, idiv, irem, ineg}
use Rattle.gen_rules.specs.Symbolic.{ifeq, ifne, ifnull, ifnonnull, if_icmp}
use Rattle.gen_rules.specs.Symbolic.{opposite, goto, tableswitch, return, return_value, is_reference}
use Rattle.gen_rules.specs.Symbolic.{getstatic, getfield, putfield, invokevirtual, invokespecial, invokestatic, new}
use Rattle.gen_rules.specs.Members.{class_name, field_reference, method_reference, init_of, session_reference}
use Rattle.gen_rules.specs.Members.{out_reference, println_reference, concat_reference, equals_reference, value_of_int, value_of_truth}
use Rattle.gen_rules.specs.Typed.{joins, type_of}
use Rattle.gen_rules.specs.Locals.{local_of, params_in_scope}
use Rattle.gen_rules.specs.Around.{Around, break_to, continue_to}
use Rattle.gen_rules.specs.Around as around
use Rattle.gen_rules.specs.Cases.{default_at, positions, targets}
use Rattle.gen_rules.specs.Templates.{type_or_int, Compared, Both, LeftAlone, RightAlone, compared}

-- a piece of code: how many instructions it has, and which they are where it begins at a place
pub record Piece : Type 0 where
  pub size : ℕ
  pub list : (from : ℕ) → List Instr

-- the same with a label to which it jumps
pub record Jumping : Type 0 where
  pub size : ℕ
  pub list : (target from : ℕ) → List Instr

abbrev pub aiming : Jumping → (target : ℕ) → Piece
aiming j l = record { size = j.size; list = j.list l }

abbrev pub empty : Piece
empty = record { size = 0; list = λ from. [] }

abbrev pub single : Instr → Piece
single i = record { size = 1; list = λ from. i ∷ [] }

infixl 20 ◌and◌
abbrev pub ◌and◌ : Piece → Piece → Piece
◌and◌ a b = record { size = a.size + b.size; list = λ from. a.list from ++ b.list (from + a.size) }

-- a piece of a known size that is made of the place where it begins and of the place behind it
abbrev pub within : (size : ℕ) → ((from to : ℕ) → Piece) → Piece
within n f = record { size = n; list = λ from. (f from (from + n)).list from }

-- one piece up to a label, and another from it on
abbrev pub forked : (first second : ℕ) → ((from label to : ℕ) → Piece) → ((from label to : ℕ) → Piece) → Piece
forked n k f g = record {
  size = n + k;
  list = λ from. (f from (from + n) (from + n + k)).list from ++ (g from (from + n) (from + n + k)).list (from + n);
}

abbrev pub always : Jumping
always = record { size = 1; list = λ l from. goto l ∷ [] }

abbrev pub never : Jumping
never = record { size = 0; list = λ l from. [] }

-- the three forms of an expression
pub record Pieces : Type 0 where
  pub value : Piece
  pub unless : Jumping
  pub when : Jumping

abbrev pub testing : Piece → ((target : ℕ) → Instr) → Jumping
testing v test = record { size = v.size + 1; list = λ l. (v and single (test l)).list }

abbrev pub valued : Piece → Pieces
valued v = record { value = v; unless = testing v ifeq; when = testing v ifne }

abbrev pub jumped : (unless when : Jumping) → Pieces
jumped u w = record {
  value = forked (u.size + 1 + 1) 1 (λ from f to. aiming u f and single (push (pos 1))
      and single (goto to)) (λ from f to. single (push (pos 0)));
  unless = u;
  when = w;
}

-- the piece goes on behind itself where it doesn't jump
abbrev pub jumps_then : (first second : Jumping) → Jumping
jumps_then a b = record { size = a.size + b.size; list = λ l. (aiming a l and aiming b l).list }

abbrev pub skips_then : (first second : Jumping) → Jumping
skips_then a b = record { size = a.size + b.size; list = λ l. (within (a.size + b.size) (λ from to. aiming a to and aiming b l)).list }

abbrev pub two_values : (left right : Pieces) → Instr → Piece
two_values a b i = a.value and b.value and single i

abbrev pub comparing : (left right : Pieces) → ((target : ℕ) → Instr) → Jumping
comparing a b test = record { size = a.value.size + b.value.size + 1; list = λ l. (two_values a b (test l)).list }

-- a statement: where `break` and `continue` lead is told by what stands around it
pub record Flowing : Type 0 where
  pub size : ℕ
  pub list : List Around → (from : ℕ) → List Instr

abbrev pub flowing : Flowing → List Around → Piece
flowing s ts = record { size = s.size; list = s.list ts }

abbrev pub steady : Piece → Flowing
steady a = record { size = a.size; list = λ ts. a.list }

-- the groups of a switch, and where they begin
pub record Grouped : Type 0 where
  pub size : ℕ
  pub starts : (from : ℕ) → List ℕ
  pub list : List Around → (from : ℕ) → List Instr

abbrev pub grouped : Grouped → List Around → Piece
grouped g ts = record { size = g.size; list = g.list ts }

module _ (p : Program) (m : Method) where
  abbrev pub variable_type_of : Var → CoreType
  variable_type_of x = type_or_int (variable_type p m x)

  abbrev pub variable : (scope : List ℕ) → Var → Piece
  variable scope (vars.Slot k) = single (load (variable_type_of (vars.Slot k)) (local_of m.kind scope k))
  variable scope (vars.Field f) = single (aload 0) and single (getfield (field_reference p m.class f))

  abbrev pub text : Option CoreType → Piece
  text (Some types.Int) = single (invokestatic value_of_int)
  text (Some types.Boolean) = single (invokestatic value_of_truth)
  text _ = empty

  abbrev pub literal : Bool → Pieces
  literal true = record { value = single (push_truth true); unless = never; when = always }
  literal false = record { value = single (push_truth false); unless = always; when = never }

  abbrev pub plus : Bool → (left right : Pieces) → (left_type right_type : Option CoreType) → Piece
  plus true a b s t = a.value and text s and b.value and text t and single (invokevirtual concat_reference)
  plus false a b s t = two_values a b iadd

  abbrev pub with_null : Op → Piece → Pieces
  with_null ops.Ne v = jumped (testing v ifnull) (testing v ifnonnull)
  with_null _ v = jumped (testing v ifnonnull) (testing v ifnull)

  abbrev pub comparison : Op → Compared → (left right : Pieces) → Pieces
  comparison o Both a b = jumped (comparing a b (if_icmp (opposite o))) (comparing a b (if_icmp o))
  comparison o LeftAlone a b = with_null o a.value
  comparison o RightAlone a b = with_null o b.value

  abbrev pub binary : Op → Compared → (left right : Pieces) → (left_type right_type : Option CoreType) → Pieces
  binary ops.Or c a b s t = jumped (skips_then a.when b.unless) (jumps_then a.when b.when)
  binary ops.And c a b s t = jumped (jumps_then a.unless b.unless) (skips_then a.unless b.when)
  binary ops.Add c a b s t = valued (plus (joins ops.Add s t) a b s t)
  binary ops.Sub c a b s t = valued (two_values a b isub)
  binary ops.Mul c a b s t = valued (two_values a b imul)
  binary ops.Div c a b s t = valued (two_values a b idiv)
  binary ops.Rem c a b s t = valued (two_values a b irem)
  binary o c a b s t = comparison o c a b

  abbrev mutual
    pub pieces : (scope : List ℕ) → Expr → Pieces
    pieces scope (Int q n) = valued (single (push n))
    pieces scope (Truth q b) = literal b
    pieces scope (Text q s) = valued (single (push_text s))
    pieces scope (Null q) = valued (single aconst_null)
    pieces scope (Variable q x) = valued (variable scope x)
    pieces scope (Constant q e n) = valued (single (push (pos n)))
    pieces scope (Neg q a) = valued ((pieces scope a).value and single ineg)
    pieces scope (Not q a) = jumped ((pieces scope a).when) ((pieces scope a).unless)
    pieces scope (Binary q o a b) = binary o (compared a b) (pieces scope a) (pieces scope b) (type_of p m a) (type_of p m b)
    pieces scope (Protocol q x n args) =
        valued (variable scope x.var and arguments scope args and single (invokevirtual (method_reference p n)))
    pieces scope (Helper q n args) =
        valued (single (aload 0) and arguments scope args and single (invokespecial (method_reference p n)))
    pieces scope (Static q n args) = valued (arguments scope args and single (invokestatic (method_reference p n)))
    pieces scope (Equals q a b) = valued (two_values (pieces scope a) (pieces scope b) (invokevirtual equals_reference))
    pieces scope (Concat q a b) = valued (two_values (pieces scope a) (pieces scope b) (invokevirtual concat_reference))
    pieces scope (Session q c args) = valued (arguments scope args and single (invokestatic (session_reference p c)))
    pieces scope (New q c) =
        valued (single (new (class_name p c)) and single dup and single (invokespecial (init_of (class_name p c))))

    pub arguments : (scope : List ℕ) → Exprs → Piece
    arguments scope NoExpr = empty
    arguments scope (Argument e more) = (pieces scope e).value and arguments scope more

  abbrev pub value : (scope : List ℕ) → Expr → Piece
  value scope e = (pieces scope e).value

  abbrev pub store_in : (scope : List ℕ) → (slot : ℕ) → Piece
  store_in scope k = single (store (variable_type_of (vars.Slot k)) (local_of m.kind scope k))

  abbrev pub assign : (scope : List ℕ) → Var → Piece → Piece
  assign scope (vars.Slot k) v = v and store_in scope k
  assign scope (vars.Field f) v = single (aload 0) and v and single (putfield (field_reference p m.class f))

  abbrev pub discard : Option CoreType → Piece
  discard (Some types.Void) = empty
  discard _ = single pop

  abbrev pub if_true : Jumping → Flowing → Flowing
  if_true c s = record {
    size = c.size + s.size;
    list = λ ts. (within (c.size + s.size) (λ from to. aiming c to and flowing s ts)).list;
  }

  abbrev pub if_else : Jumping → Flowing → Flowing → Flowing
  if_else c s r = record {
    size = c.size + s.size + 1 + r.size;
    list = λ ts. (forked (c.size + s.size + 1) r.size
        (λ from l to. aiming c l and flowing s ts and single (goto to)) (λ from l to. flowing r ts)).list;
  }

  abbrev pub while_true : (loop : ℕ) → Jumping → Flowing → Flowing
  while_true n c s = record {
    size = c.size + s.size + 1;
    list = λ ts. (within (c.size + s.size + 1)
        (λ from to. aiming c to and flowing s (around.Loop n to from ∷ ts) and single (goto from))).list;
  }

  abbrev pub do_while : (loop : ℕ) → Flowing → Jumping → Flowing
  do_while n s c = record {
    size = s.size + c.size;
    list = λ ts. (forked s.size c.size (λ from k to. flowing s (around.Loop n to k ∷ ts)) (λ from k to. aiming c from)).list;
  }

  abbrev pub switch_piece : Piece → Groups → Grouped → (positions : List ℕ) → List Around → Piece
  switch_piece v gs g ns ts = within (v.size + 1 + g.size) (λ from to.
      let starts = g.starts (from + v.size + 1) in
      v and single (tableswitch (default_at gs starts to) (targets gs starts to ns)) and grouped g (around.Switch to ∷ ts))

  abbrev pub switched : Piece → Groups → Grouped → (positions : List ℕ) → Flowing
  switched v gs g ns = record { size = v.size + 1 + g.size; list = λ ts. (switch_piece v gs g ns ts).list }

  abbrev pub flows_then : Flowing → Flowing → Flowing
  flows_then s r = record { size = s.size + r.size; list = λ ts. (flowing s ts and flowing r ts).list }

  abbrev pub no_groups : Grouped
  no_groups = record { size = 0; starts = λ from. []; list = λ ts from. [] }

  abbrev pub group_then : Flowing → Grouped → Grouped
  group_then s g = record {
    size = s.size + g.size;
    starts = λ from. from ∷ g.starts (from + s.size);
    list = λ ts. (flowing s ts and grouped g ts).list;
  }

  abbrev mutual
    pub statement : (scope : List ℕ) → Stmt → Flowing
    statement scope (Block q body end) = statements scope body
    statement scope (Empty q) = steady empty
    statement scope (Local q k e) = steady (value scope e and store_in (k ∷ scope) k)
    statement scope (Assign q x e) = steady (assign scope x.var (value scope e))
    statement scope (If q c s) = if_true ((pieces scope c).unless) (statement scope s)
    statement scope (IfElse q c s r) = if_else ((pieces scope c).unless) (statement scope s) (statement scope r)
    statement scope (While q n c s) = while_true n ((pieces scope c).unless) (statement scope s)
    statement scope (Do q n s c) = do_while n (statement scope s) ((pieces scope c).when)
    statement scope (Switch q e gs end) = switched (value scope e) gs (groups scope gs) (positions p (type_of p m e))
    statement scope (Break q n) = record { size = 1; list = λ ts from. goto (break_to ts n) ∷ [] }
    statement scope (Continue q n) = record { size = 1; list = λ ts from. goto (continue_to ts n) ∷ [] }
    statement scope (Return q None) = steady (single return)
    statement scope (Return q (Some e)) = steady (value scope e and single (return_value m.result))
    statement scope (Print q e) =
        steady (single (getstatic out_reference) and value scope e and text (type_of p m e) and single (invokevirtual println_reference))
    statement scope (Eval q e) = steady (value scope e and discard (type_of p m e))

    pub statements : (scope : List ℕ) → Stmts → Flowing
    statements scope NoStmt = steady empty
    statements scope (Then s more) = flows_then (statement scope s) (statements scope more)
    statements scope (Declare q k e more) = flows_then (steady (value scope e and store_in (k ∷ scope) k)) (statements (k ∷ scope) more)

    pub groups : (scope : List ℕ) → Groups → Grouped
    groups scope NoGroup = no_groups
    groups scope (Group labels body end more) = group_then (statements scope body) (groups scope more)

  abbrev pub end_of_method : CoreType → Piece
  end_of_method types.Void = single return
  end_of_method type = single (if is_reference type then aconst_null else push (pos 0)) and single (return_value type)

  abbrev pub method_piece : Piece
  method_piece = flowing (statements (params_in_scope m) m.body) [] and end_of_method m.result

  -- the method's whole code
  abbrev pub generated : List Instr
  generated = method_piece.list 0
