-- Worked methods: their codes were written by hand, construct by construct.
use Rattle.std.specs.Prelude.{◌≡◌, ℕ, List, [], ◌∷◌, Some, None, pos, negsuc, codes}
use Rattle.mg_text.specs.Places.{start_of}
use Rattle.mg_text.specs.declared.place.Place.{Place}
use Rattle.jv_tree.specs.declared.tree.Op.TheVariants as ops
use Rattle.jv_core.specs.declared.tree.Var.TheVariants.{Slot as SlotOf, Field as FieldOf}
use Rattle.jv_core.specs.declared.tree.CoreVar.{CoreVar}
use Rattle.jv_core.specs.declared.program.CoreType.{CoreType}
use Rattle.jv_core.specs.declared.program.CoreType.TheVariants as types
use Rattle.jv_core.specs.declared.program.MethodKind.{MethodKind}
use Rattle.jv_core.specs.declared.program.MethodKind.TheVariants as kinds
use Rattle.jv_core.specs.Tree.{Expr, Int, Text, Null, Variable, Constant, Not, Binary, Protocol, Static, New, NoExpr, Argument}
use Rattle.jv_core.specs.Tree.{Stmt, Block, Assign, If, IfElse, While, Do, Switch, Break, Continue, Return, Print, Eval}
use Rattle.jv_core.specs.Tree.{Stmts, NoStmt, Then, Declare, NoGroup, Group, Slot, Class, Enum, Method, Program}
use Rattle.cls_tree.specs.Pool.{Letters}
use Rattle.gen_rules.specs.Symbolic.{Instr, plain, jump, Number, Constant as Pushes, Table}
use Rattle.gen_rules.specs.Symbolic.{getstatic, getfield, putfield, invokevirtual, invokespecial, invokestatic, new}
use Rattle.gen_rules.specs.Members.{member, out_reference, println_reference, concat_reference, value_of_int, value_of_truth}
use Rattle.gen_rules.specs.Templates.{IsCode}
use Rattle.gen_rules.specs.Frames.{max_stack, max_locals}
use Rattle.gen_rules.specs.Classes.{constructor, constructor_code}
use Rattle.gen_rules.specs.Linked.{AllLink}

abbrev p : Place
p = start_of 0

abbrev slot : ℕ → Expr
slot k = Variable p (SlotOf k)

abbrev int : ℕ → Expr
int n = Int p (pos n)

abbrev local : ℕ → CoreVar
local k = record { place = p; var = SlotOf k }

abbrev own : ℕ → CoreVar
own f = record { place = p; var = FieldOf f }

abbrev one : Stmt → Stmts
one s = Then s NoStmt

abbrev block : Stmts → Stmt
block s = Block p s p

-- enum Mode { LOW, MID, HIGH }
abbrev mode : Enum
mode = record { name = 2; constants = 3 ∷ 4 ∷ 5 ∷ [] }

-- class Counter { int n = 0; Mode mode = Mode.MID; Counter other; .. } with a typestate; class Main { .. } without one
abbrev pub counter : Class
counter = record {
  place = p;
  name = 0;
  typestate = Some 0;
  fields =
      record { name = 6; ty = types.Int; value = Some (int 0) } ∷
      record { name = 7; ty = types.Enum 0; value = Some (Constant p 0 1) } ∷
      record { name = 8; ty = types.Object 0; value = None } ∷ [];
  methods = 0 ∷ 1 ∷ [];
}

abbrev main_class : Class
main_class = record { place = p; name = 1; typestate = None; fields = []; methods = 2 ∷ 3 ∷ 4 ∷ 5 ∷ 6 ∷ 7 ∷ 8 ∷ 9 ∷ [] }

-- a method of this kind, class, name, result and body, with so many parameters and with slots of these types
abbrev method : MethodKind → (class name : ℕ) → CoreType → ℕ → List Slot → Stmts → Method
method kind class name result params slots body = record {
  place = p;
  end = p;
  class = class;
  name = name;
  kind = kind;
  result = result;
  params = params;
  slots = slots;
  loops = [];
  body = body;
}

abbrev typed : CoreType → Slot
typed t = record { name = 9; ty = t }

-- void tick() { n = n + 1; System.out.println(n); }
abbrev pub tick : Method
tick = method kinds.Protocol 0 10 types.Void 0 []
    (Then (Assign p (own 0) (Binary p ops.Add (Variable p (FieldOf 0)) (int 1))) (one (Print p (Variable p (FieldOf 0)))))

-- int get() { return n; }
abbrev pub get : Method
get = method kinds.Protocol 0 11 types.Int 0 [] (one (Return p (Some (Variable p (FieldOf 0)))))

-- static int sign(int x) { if (x < 0) return -1; else return 1; }
abbrev pub sign : Method
sign = method kinds.Static 1 12 types.Int 1 (typed types.Int ∷ [])
    (one (IfElse p (Binary p ops.Lt (slot 0) (int 0)) (Return p (Some (Int p (negsuc 0)))) (Return p (Some (int 1)))))

-- static void count(int n) { int i = 0; while (i < n) { i = i + 1; if (i == 2) continue; System.out.println(i); } }
abbrev pub count : Method
count = method kinds.Static 1 13 types.Void 1 (typed types.Int ∷ typed types.Int ∷ [])
    (Declare p 1 (int 0) (one (While p 0 (Binary p ops.Lt (slot 1) (slot 0)) (block
    (Then (Assign p (local 1) (Binary p ops.Add (slot 1) (int 1)))
    (Then (If p (Binary p ops.Eq (slot 1) (int 2)) (Continue p 0))
    (one (Print p (slot 1)))))))))

-- static int choose(Mode m) { switch (m) { case LOW: System.out.println("low"); case MID: return 1; default: break; } return 0; }
abbrev pub choose : Method
choose = method kinds.Static 1 14 types.Int 1 (typed (types.Enum 0) ∷ [])
    (Then (Switch p (slot 0)
    (Group (Some 0 ∷ []) (one (Print p (Text p (codes "low")))) p
    (Group (Some 1 ∷ []) (one (Return p (Some (int 1)))) p
    (Group (None ∷ []) (one (Break p None)) p NoGroup))) p)
    (one (Return p (Some (int 0)))))

-- static boolean both(boolean a, int b) { return a && !(b == 0) || b > 9; }
abbrev pub both : Method
both = method kinds.Static 1 15 types.Boolean 2 (typed types.Boolean ∷ typed types.Int ∷ [])
    (one (Return p (Some (Binary p ops.Or (Binary p ops.And (slot 0) (Not p (Binary p ops.Eq (slot 1) (int 0))))
    (Binary p ops.Gt (slot 1) (int 9))))))

-- static String show(String s, int n, boolean b) { return s + n + b + "!"; }
abbrev pub show : Method
show = method kinds.Static 1 16 types.Text 3 (typed types.Text ∷ typed types.Int ∷ typed types.Boolean ∷ [])
    (one (Return p (Some (Binary p ops.Add (Binary p ops.Add (Binary p ops.Add (slot 0) (slot 1)) (slot 2)) (Text p (codes "!"))))))

-- static void use(Counter c) { if (c != null) { c.tick(); System.out.println(c.get()); } }
abbrev pub use_it : Method
use_it = method kinds.Static 1 17 types.Void 1 (typed (types.Object 0) ∷ [])
    (one (If p (Binary p ops.Ne (slot 0) (Null p)) (block
    (Then (Eval p (Protocol p (local 0) 0 NoExpr)) (one (Print p (Protocol p (local 0) 1 NoExpr)))))))

-- static void down(int n) { do { n = n - 1; } while (n > 0); }
abbrev pub down : Method
down = method kinds.Static 1 18 types.Void 1 (typed types.Int ∷ [])
    (one (Do p 0 (block (one (Assign p (local 0) (Binary p ops.Sub (slot 0) (int 1))))) (Binary p ops.Gt (slot 0) (int 0))))

-- static void main(String[] args) { Counter c = new Counter(); { int i = 300; } { int j = 100; } use(c); }
abbrev pub main : Method
main = method kinds.Main 1 19 types.Void 0 (typed (types.Object 0) ∷ typed types.Int ∷ typed types.Int ∷ [])
    (Declare p 0 (New p 0) (Then (block (Declare p 1 (int 300) NoStmt)) (Then (block (Declare p 2 (int 100) NoStmt))
    (one (Eval p (Static p 7 (Argument (slot 0) NoExpr)))))))

abbrev pub program : Program
program = record {
  classes = counter ∷ main_class ∷ [];
  enums = mode ∷ [];
  methods = tick ∷ get ∷ sign ∷ count ∷ choose ∷ both ∷ show ∷ use_it ∷ down ∷ main ∷ [];
  typestates = [];
  names =
      codes "Counter" ∷ codes "Main" ∷ codes "Mode" ∷ codes "LOW" ∷ codes "MID" ∷ codes "HIGH" ∷ codes "n" ∷ codes "mode" ∷
      codes "other" ∷ codes "x" ∷ codes "tick" ∷ codes "get" ∷ codes "sign" ∷ codes "count" ∷ codes "choose" ∷ codes "both" ∷
      codes "show" ∷ codes "use" ∷ codes "down" ∷ codes "main" ∷ [];
}

-- Codes. Opcodes without a member are written as numbers; those of members, and the members, are the words of `Symbolic` and `Members`.

abbrev n_field : Instr
n_field = getfield (member (codes "Counter") (codes "n") (codes "I"))

abbrev put_n : Instr
put_n = putfield (member (codes "Counter") (codes "n") (codes "I"))

abbrev out : Instr
out = getstatic out_reference

abbrev println : Instr
println = invokevirtual println_reference

abbrev text_of_int : Instr
text_of_int = invokestatic value_of_int

abbrev concat : Instr
concat = invokevirtual concat_reference

abbrev tick_code : List Instr
tick_code =
    plain 42 ∷ plain 42 ∷ n_field ∷ plain 4 ∷ plain 96 ∷ put_n
    ∷ out ∷ plain 42 ∷ n_field ∷ text_of_int ∷ println
    ∷ plain 177 ∷ []

abbrev get_code : List Instr
get_code = plain 42 ∷ n_field ∷ plain 172 ∷ plain 3 ∷ plain 172 ∷ []

abbrev sign_code : List Instr
sign_code =
    plain 26 ∷ plain 3 ∷ jump 162 6
    ∷ plain 2 ∷ plain 172 ∷ jump 167 8
    ∷ plain 4 ∷ plain 172
    ∷ plain 3 ∷ plain 172 ∷ []

abbrev count_code : List Instr
count_code =
    plain 3 ∷ plain 60
    ∷ plain 27 ∷ plain 26 ∷ jump 162 18
    ∷ plain 27 ∷ plain 4 ∷ plain 96 ∷ plain 60
    ∷ plain 27 ∷ plain 5 ∷ jump 160 13 ∷ jump 167 2
    ∷ out ∷ plain 27 ∷ text_of_int ∷ println
    ∷ jump 167 2
    ∷ plain 177 ∷ []

abbrev choose_code : List Instr
choose_code =
    plain 26 ∷ record { op = 170; operand = Table 7 (2 ∷ 5 ∷ 7 ∷ []) }
    ∷ out ∷ record { op = 18; operand = Pushes (Letters (codes "low")) } ∷ println
    ∷ plain 4 ∷ plain 172
    ∷ jump 167 8
    ∷ plain 3 ∷ plain 172
    ∷ plain 3 ∷ plain 172 ∷ []

abbrev both_code : List Instr
both_code =
    plain 26 ∷ jump 153 5 ∷ plain 27 ∷ plain 3 ∷ jump 160 8
    ∷ plain 27 ∷ record { op = 16; operand = Number (pos 9) } ∷ jump 164 10
    ∷ plain 4 ∷ jump 167 11 ∷ plain 3
    ∷ plain 172
    ∷ plain 3 ∷ plain 172 ∷ []

abbrev show_code : List Instr
show_code =
    plain 42 ∷ plain 27 ∷ text_of_int ∷ concat
    ∷ plain 28 ∷ invokestatic value_of_truth ∷ concat
    ∷ record { op = 18; operand = Pushes (Letters (codes "!")) } ∷ concat
    ∷ plain 176
    ∷ plain 1 ∷ plain 176 ∷ []

abbrev use_code : List Instr
use_code =
    plain 42 ∷ jump 198 9
    ∷ plain 42 ∷ invokevirtual (member (codes "Counter") (codes "tick") (codes "()V"))
    ∷ out ∷ plain 42 ∷ invokevirtual (member (codes "Counter") (codes "get") (codes "()I")) ∷ text_of_int ∷ println
    ∷ plain 177 ∷ []

abbrev down_code : List Instr
down_code =
    plain 26 ∷ plain 4 ∷ plain 100 ∷ plain 59
    ∷ plain 26 ∷ plain 3 ∷ jump 163 0
    ∷ plain 177 ∷ []

abbrev main_code : List Instr
main_code =
    new (codes "Counter") ∷ plain 89 ∷ invokespecial (member (codes "Counter") (codes "<init>") (codes "()V")) ∷ plain 76
    ∷ record { op = 17; operand = Number (pos 300) } ∷ plain 61
    ∷ record { op = 16; operand = Number (pos 100) } ∷ plain 61
    ∷ plain 43 ∷ invokestatic (member (codes "Main") (codes "use") (codes "(LCounter;)V"))
    ∷ plain 177 ∷ []

-- `other` begins with null, which isn't written
abbrev init_code : List Instr
init_code =
    plain 42 ∷ invokespecial (member (codes "java/lang/Object") (codes "<init>") (codes "()V"))
    ∷ plain 42 ∷ plain 3 ∷ put_n
    ∷ plain 42 ∷ plain 4 ∷ putfield (member (codes "Counter") (codes "mode") (codes "I"))
    ∷ plain 177 ∷ []

-- a method has this code, and needs so many operands and locals
pub record Has (m : Method) (code : List Instr) (stack locals : ℕ) : Type 0 where
  pub is : IsCode program m code
  pub max_stack_is : max_stack program m ≡ stack
  pub max_locals_is : max_locals m ≡ locals

pub record MethodsAreMade : Type 0 where
  pub tick_has : Has tick tick_code 3 1
  pub get_has : Has get get_code 1 1
  pub sign_has : Has sign sign_code 2 1
  pub count_has : Has count count_code 2 2
  pub choose_has : Has choose choose_code 2 1
  pub both_has : Has both both_code 2 2
  pub show_has : Has show show_code 2 3
  pub use_has : Has use_it use_code 2 1
  pub down_has : Has down down_code 2 1
  pub main_has : Has main main_code 2 3
  pub constructor_has : constructor_code program 0 counter ≡ init_code
  pub links : AllLink program
  pub constructor_stack_is : (constructor program 0 counter).max_stack ≡ 2
