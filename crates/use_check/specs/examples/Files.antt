-- A reader of files, by switches on the answers of calls inside a loop; and one that forgets to close its file.
-- Places don't matter but for the end of `main`.
use Rattle.std.specs.Prelude.{ℕ, zero, suc, Bool, List, [], ◌∷◌, ◌++◌, Some, None, pos, codes, true, false}
use Rattle.mg_text.specs.declared.place.Place.{Place}
use Rattle.ts_tree.specs.declared.parts.TypeName.TheVariants as written
use Rattle.ts_tree.specs.declared.parts.To.TheVariants as tos
use Rattle.ts_tree.specs.Typestate.{Typestate, One, ByAnswer}
use Rattle.jv_tree.specs.declared.tree.Op.TheVariants as ops
use Rattle.jv_core.specs.declared.tree.Var.TheVariants.{Slot, Field}
use Rattle.jv_core.specs.declared.program.CoreType.{CoreType}
use Rattle.jv_core.specs.declared.program.CoreType.TheVariants as types
use Rattle.jv_core.specs.declared.program.MethodKind.TheVariants as kinds
use Rattle.jv_core.specs.Tree.{Expr, Int, Truth, Text, Variable, Constant, Binary, Protocol, New, NoExpr}
use Rattle.jv_core.specs.Tree.{Stmt, Stmts, Block, Assign, If, Do, Switch, Break, Continue, Return, Print, Eval, NoStmt, Then, Declare}
use Rattle.jv_core.specs.Tree.{NoGroup, Group, Method, Program}
use Rattle.use_rules.specs.declared.demand.DemandKind.TheVariants as demands
use Rattle.use_rules.specs.declared.demand.Demand.{Demand}
use Rattle.use_rules.specs.declared.element.Element.TheVariants as elements
use Rattle.use_rules.specs.declared.key.TableKey.TheVariants as keys
use Rattle.use_rules.specs.Keys.{Tables}
use Rattle.use_rules.specs.examples.Counter.{at, var_at}

abbrev q : Place
q = at 1 1 1

-- typestate FileProtocol {
--   Init = { FileStatus open(): <OK: Open, ERROR: end> }
--   Open = { BooleanEnum hasNext(): <TRUE: Read, FALSE: Close> }
--   Read = { void read(): Open }
--   Close = { void close(): end }
-- }
abbrev protocol : Typestate
protocol = record {
  name = codes "FileProtocol";
  states =
      record {
        name = codes "Init";
        methods = record {
          result = written.Named (codes "FileStatus");
          name = codes "open";
          params = [];
          target = ByAnswer (record { label = codes "OK"; to = tos.State 1 } ∷ record { label = codes "ERROR"; to = tos.End } ∷ []);
        } ∷ [];
        drops = false;
      } ∷
      record {
        name = codes "Open";
        methods = record {
          result = written.Named (codes "BooleanEnum");
          name = codes "hasNext";
          params = [];
          target = ByAnswer (record { label = codes "TRUE"; to = tos.State 2 } ∷ record { label = codes "FALSE"; to = tos.State 3 } ∷ []);
        } ∷ [];
        drops = false;
      } ∷
      record {
        name = codes "Read";
        methods = record { result = written.Void; name = codes "read"; params = []; target = One (tos.State 1) }
            ∷ [];
        drops = false;
      } ∷
      record {
        name = codes "Close";
        methods = record { result = written.Void; name = codes "close"; params = []; target = One tos.End } ∷
            [];
        drops = false;
      } ∷
      [];
}

abbrev left : Expr
left = Variable q (Field 0)

abbrev sets_left : Expr → Stmt
sets_left e = Assign q (var_at q (Field 0)) e

-- a method of File without parameters
abbrev method_of : (name : ℕ) → CoreType → Stmts → Method
method_of n ty body = record {
  place = q;
  end = q;
  class = 0;
  name = n;
  kind = kinds.Protocol;
  result = ty;
  params = 0;
  slots = [];
  loops = [];
  body = body;
}

-- public FileStatus open() { left = 2; return FileStatus.OK; }
-- public BooleanEnum hasNext() { if (left > 0) { return BooleanEnum.TRUE; } return BooleanEnum.FALSE; }
-- public void read() { System.out.println("line " + left); left--; }
-- public void close() { System.out.println("closed"); }
abbrev methods : List Method
methods =
    method_of 8 (types.Enum 0) (Then (sets_left (Int q (pos 2))) (Then (Return q (Some (Constant q 0 0))) NoStmt)) ∷
    method_of 9 (types.Enum 1) (Then (If q (Binary q ops.Gt left (Int q (pos 0))) (Block q (Then (Return q (Some (Constant q 1 0))) NoStmt)
    q))
    (Then (Return q (Some (Constant q 1 1))) NoStmt)) ∷
    method_of 10 types.Void (Then (Print q (Binary q ops.Add (Text q (codes "line ")) left))
    (Then (sets_left (Binary q ops.Sub left (Int q (pos 1)))) NoStmt)) ∷
    method_of 11 types.Void (Then (Print q (Text q (codes "closed"))) NoStmt) ∷
    []

-- `f.m()`
abbrev call : (method : ℕ) → Expr
call m = Protocol q (var_at q (Slot 0)) m NoExpr

-- public static void main(String[] args) {
--   File f = new File();
--   switch (f.open()) {
--     case OK:
--       loop: do {
--         switch (f.hasNext()) {
--           case TRUE: f.read(); continue loop;
--           case FALSE: f.close(); break loop;
--         }
--       } while (true);
--       break;
--     case ERROR: break;
--   }
-- }
-- Given is what stands behind `case FALSE:`.
abbrev main_of : Stmts → Method
main_of last = record {
  place = q;
  end = at 2 15 3;
  class = 1;
  name = 13;
  kind = kinds.Main;
  result = types.Void;
  params = 0;
  slots = record { name = 14; ty = types.Object 0 } ∷ [];
  loops = record { place = q; scope = 0 ∷ [] } ∷ [];
  body = Declare q 0 (New q 0) (Then (Switch q (call 0)
      (Group (Some 0 ∷ []) (Then (Do q 0 (Block q (Then (Switch q (call 1)
      (Group (Some 0 ∷ []) (Then (Eval q (call 2)) (Then (Continue q 0) NoStmt)) q (Group (Some 1 ∷ []) last q NoGroup)) q) NoStmt) q)
      (Truth q true))
      (Then (Break q None) NoStmt)) q
      (Group (Some 1 ∷ []) (Then (Break q None) NoStmt) q NoGroup)) q) NoStmt);
}

abbrev program_of : Stmts → Program
program_of last = record {
  classes =
      record {
        place = q;
        name = 6;
        typestate = Some 0;
        methods = 0 ∷ 1 ∷ 2 ∷ 3 ∷ [];
        fields = record { name = 7; ty = types.Int; value = Some (Int q (pos 0)) } ∷ [];
      } ∷
      record { place = q; name = 12; typestate = None; fields = []; methods = 4 ∷ [] } ∷
      [];
  enums = record { name = 0; constants = 1 ∷ 2 ∷ [] } ∷ record { name = 3; constants = 4 ∷ 5 ∷ [] } ∷ [];
  methods = methods ++ (main_of last ∷ []);
  typestates = protocol ∷ [];
  names = codes "FileStatus" ∷ codes "OK" ∷ codes "ERROR" ∷ codes "BooleanEnum" ∷ codes "TRUE" ∷ codes "FALSE" ∷ codes "File" ∷ codes "left"
      ∷
      codes "open" ∷ codes "hasNext" ∷ codes "read" ∷ codes "close" ∷ codes "Main" ∷ codes "main" ∷ codes "f" ∷ [];
}

abbrev pub files : Program
files = program_of (Then (Eval q (call 3)) (Then (Break q (Some 0)) NoStmt))

-- without `f.close();`
abbrev pub unclosed : Program
unclosed = program_of (Then (Break q (Some 0)) NoStmt)

abbrev pub files_reached : List (List Bool)
files_reached = (true ∷ true ∷ true ∷ true ∷ []) ∷ []

abbrev pub files_tables : Tables
files_tables (keys.Loop (suc (suc (suc (suc zero)))) zero zero) = false ∷ false ∷ false ∷ false ∷ true ∷ false ∷ false ∷ []
files_tables _ = []

abbrev pub unclosed_fails : List Demand
unclosed_fails = record {
  kind = demands.LeftOpen;
  place = at 2 15 3;
  variable = 0;
  slot = codes "f";
  class = 0;
  element = elements.State 3;
} ∷ []
