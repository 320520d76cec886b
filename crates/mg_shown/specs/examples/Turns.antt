-- An object that takes turns in a loop, and one of which a method is asked that it doesn't offer.
use Rattle.std.specs.Prelude.{ℕ, zero, suc, Bool, List, [], ◌∷◌, Some, None, codes, true, false}
use Rattle.mg_text.specs.Call.{Name}
use Rattle.ts_tree.specs.declared.parts.TypeName.TheVariants as written
use Rattle.ts_tree.specs.declared.parts.To.{To}
use Rattle.ts_tree.specs.declared.parts.To.TheVariants as tos
use Rattle.ts_tree.specs.Typestate.{Typestate, State, One}
use Rattle.ts_tree.specs.Typestate as states
use Rattle.jv_core.specs.declared.tree.Var.TheVariants.{Slot}
use Rattle.jv_core.specs.declared.program.CoreType.TheVariants as types
use Rattle.jv_core.specs.declared.program.MethodKind.TheVariants as kinds
use Rattle.jv_core.specs.Tree.{Truth, Variable, Protocol, New, NoExpr}
use Rattle.jv_core.specs.Tree.{Stmt, Stmts, Block, While, Eval, NoStmt, Then, Declare, Loop, Slot as Declared}
use Rattle.jv_core.specs.Tree.{Method, Program}
use Rattle.use_rules.specs.declared.key.TableKey.TheVariants as keys
use Rattle.use_rules.specs.Keys.{Tables}
use Rattle.use_rules.specs.examples.Counter.{at, var_at}

abbrev offers : Name → To → states.Method
offers name to = record { result = written.Void; name = name; params = []; target = One to }

abbrev state_of : Name → List states.Method → State
state_of name methods = record { name = name; methods = methods; drops = false }

abbrev protocol_of : List State → Typestate
protocol_of ss = record { name = codes "P"; states = ss }

-- T.java is file 0: @Typestate("P") class T { public void m() { } public void q() { } }
abbrev method_of : (name : ℕ) → Method
method_of n = record {
  place = at 0 1 1;
  end = at 0 1 1;
  class = 0;
  name = n;
  kind = kinds.Protocol;
  result = types.Void;
  params = 0;
  slots = [];
  loops = [];
  body = NoStmt;
}

abbrev main_of : List Declared → List Loop → Stmts → Method
main_of slots loops body = record {
  place = at 1 2 22;
  end = at 1 7 3;
  class = 1;
  name = 4;
  kind = kinds.Main;
  result = types.Void;
  params = 0;
  slots = slots;
  loops = loops;
  body = body;
}

abbrev program_of : List State → List Method → (numbers : List ℕ) → Program
program_of ss ms numbers = record {
  classes =
      record { place = at 0 1 23; name = 0; typestate = Some 0; fields = []; methods = 0 ∷ 1 ∷ [] } ∷
      record { place = at 1 1 7; name = 3; typestate = None; fields = []; methods = numbers } ∷
      [];
  enums = [];
  methods = method_of 1 ∷ method_of 2 ∷ ms;
  typestates = protocol_of ss ∷ [];
  names = codes "T" ∷ codes "m" ∷ codes "q" ∷ codes "Main" ∷ codes "main" ∷ codes "k" ∷ codes "b" ∷ codes "idle" ∷ codes "x" ∷ [];
}

abbrev calls : (line column method : ℕ) → Stmt
calls l c n = Eval (at 1 l c) (Protocol (at 1 l c) (var_at (at 1 l c) (Slot 0)) n NoExpr)

abbrev object_k : Declared
object_k = record { name = 5; ty = types.Object 0 }

abbrev pub names : List Name
names = codes "T.java" ∷ codes "Main.java" ∷ []

abbrev pub reached : List (List Bool)
reached = (true ∷ true ∷ []) ∷ []

-- typestate P { A = { void m(): B, void q(): end } B = { void m(): A, void q(): end } }
-- Main.java:
-- class Main {
--   public static void main(String[] args) {
--     T k = new T();
--     boolean b = false;
--     while (b) { k.m(); }
--     k.q();
--   }
-- }
abbrev pub turns : Program
turns = program_of
    (state_of (codes "A") (offers (codes "m") (tos.State 1) ∷ offers (codes "q") tos.End ∷ []) ∷
    state_of (codes "B") (offers (codes "m") (tos.State 0) ∷ offers (codes "q") tos.End ∷ []) ∷ [])
    (main_of (object_k ∷ record { name = 6; ty = types.Boolean } ∷ []) (record { place = at 1 5 5; scope = 0 ∷ 1 ∷ [] } ∷ [])
    (Declare (at 1 3 7) 0 (New (at 1 3 11) 0)
    (Declare (at 1 4 13) 1 (Truth (at 1 4 17) false)
    (Then (While (at 1 5 5) 0 (Variable (at 1 5 12) (Slot 1)) (Block (at 1 5 15) (Then (calls 5 17 0) NoStmt) (at 1 5 24)))
    (Then (calls 6 5 1) NoStmt)))) ∷ [])
    (2 ∷ [])

-- at the head of the loop `k` is in either state
abbrev pub turns_tables : Tables
turns_tables (keys.Loop (suc (suc (suc (suc zero)))) zero zero) = false ∷ false ∷ false ∷ true ∷ true ∷ []
turns_tables _ = []

-- typestate P { A = { void m(): B } B = { void q(): end } }
-- Main.java, where nobody calls `idle`:
-- class Main {
--   public static void main(String[] args) {
--     T k = new T();
--     k.m(); k.m(); k.q();
--   }
--   static void idle(T x) { x.q(); T k = new T(); k.m(); }
-- }
abbrev idle : Method
idle = record {
  place = at 1 6 15;
  end = at 1 6 56;
  class = 1;
  name = 7;
  kind = kinds.Static;
  result = types.Void;
  params = 1;
  slots = record { name = 8; ty = types.Object 0 } ∷ object_k ∷ [];
  loops = [];
  body = Then (calls 6 27 1) (Declare (at 1 6 36) 1 (New (at 1 6 40) 0)
      (Then (Eval (at 1 6 49) (Protocol (at 1 6 49) (var_at (at 1 6 49) (Slot 1)) 0 NoExpr)) NoStmt));
}

abbrev pub once : Program
once = program_of
    (state_of (codes "A") (offers (codes "m") (tos.State 1) ∷ []) ∷ state_of (codes "B") (offers (codes "q") tos.End ∷ []) ∷ [])
    (main_of (object_k ∷ []) [] (Declare (at 1 3 7) 0 (New (at 1 3 11) 0)
    (Then (calls 4 5 0) (Then (calls 4 12 0) (Then (calls 4 19 1) NoStmt)))) ∷ idle ∷ [])
    (2 ∷ 3 ∷ [])

abbrev pub once_tables : Tables
once_tables _ = []
