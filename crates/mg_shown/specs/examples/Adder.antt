-- The client of an adder, by the class and the typestate of its protocol; and one that doesn't take the sum.
use Rattle.std.specs.Prelude.{ℕ, zero, suc, Bool, List, [], ◌∷◌, Some, None, pos, codes, true, false}
use Rattle.mg_text.specs.Call.{Name}
use Rattle.mg_text.specs.declared.place.Place.{Place}
use Rattle.ts_tree.specs.declared.parts.TypeName.TheVariants as written
use Rattle.ts_tree.specs.declared.parts.To.TheVariants as tos
use Rattle.ts_tree.specs.Typestate.{Typestate, One}
use Rattle.jv_tree.specs.declared.tree.Op.TheVariants as ops
use Rattle.jv_tree.specs.declared.built_in.SessionCall.TheVariants as session
use Rattle.jv_core.specs.declared.tree.Var.TheVariants.{Slot}
use Rattle.jv_core.specs.declared.program.CoreType.TheVariants as types
use Rattle.jv_core.specs.declared.program.MethodKind.TheVariants as kinds
use Rattle.jv_core.specs.Tree.{Expr, Int, Text, Variable, Binary, Protocol, Session, New, NoExpr, Argument}
use Rattle.jv_core.specs.Tree.{Stmts, Block, Assign, While, Return, Print, Eval, NoStmt, Then, Declare, Loop, Slot as Declared}
use Rattle.jv_core.specs.Tree.{Method, Program}
use Rattle.use_rules.specs.declared.key.TableKey.TheVariants as keys
use Rattle.use_rules.specs.Keys.{Tables}
use Rattle.use_rules.specs.examples.Counter.{at, var_at}

-- C.scr is file 0. What it stands for:
-- typestate CProtocol {
--   State0 = { void send_addIntToS(int): State1, void send_byeToS(): end }
--   State1 = { int receive_totalIntFromS(): State0 }
-- }
abbrev protocol : Typestate
protocol = record {
  name = codes "CProtocol";
  states =
      record {
        name = codes "State0";
        methods =
            record { result = written.Void; name = codes "send_addIntToS"; params = written.Int ∷ []; target = One (tos.State 1) } ∷
            record { result = written.Void; name = codes "send_byeToS"; params = []; target = One tos.End } ∷
            [];
        drops = false;
      } ∷
      record {
        name = codes "State1";
        methods = record { result = written.Int; name = codes "receive_totalIntFromS"; params = []; target = One (tos.State 0) } ∷ [];
        drops = false;
      } ∷
      [];
}

abbrev made : Place
made = at 0 1 1

-- public void send_addIntToS(int value) { Session.sendInt("S", "add", value); }
abbrev send_add : Method
send_add = record {
  place = made;
  end = made;
  class = 0;
  name = 1;
  kind = kinds.Protocol;
  result = types.Void;
  params = 1;
  slots = record { name = 4; ty = types.Int } ∷ [];
  loops = [];
  body = Then (Eval made (Session made session.SendInt (Argument (Text made (codes "S"))
      (Argument (Text made (codes "add")) (Argument (Variable made (Slot 0)) NoExpr))))) NoStmt;
}

-- public int receive_totalIntFromS() { return Session.takeInt("S", "total"); }
abbrev receive_total : Method
receive_total = record {
  place = made;
  end = made;
  class = 0;
  name = 2;
  kind = kinds.Protocol;
  result = types.Int;
  params = 0;
  slots = [];
  loops = [];
  body = Then (Return made (Some (Session made session.TakeInt (Argument (Text made (codes "S"))
      (Argument (Text made (codes "total")) NoExpr))))) NoStmt;
}

-- public void send_byeToS() { Session.send("S", "bye"); }
abbrev send_bye : Method
send_bye = record {
  place = made;
  end = made;
  class = 0;
  name = 3;
  kind = kinds.Protocol;
  result = types.Void;
  params = 0;
  slots = [];
  loops = [];
  body = Then (Eval made (Session made session.Send (Argument (Text made (codes "S")) (Argument (Text made (codes "bye")) NoExpr)))) NoStmt;
}

-- a class with a `main` of these slots, loops and statements, in file 1
abbrev program_of : (class : Name) → List Declared → List Loop → Stmts → Program
program_of class slots loops body = record {
  classes =
      record { place = made; name = 0; typestate = Some 0; fields = []; methods = 0 ∷ 1 ∷ 2 ∷ [] } ∷
      record { place = at 1 2 7; name = 5; typestate = None; fields = []; methods = 3 ∷ [] } ∷
      [];
  enums = [];
  methods = send_add ∷ receive_total ∷ send_bye ∷ record {
    place = at 1 3 24;
    end = at 1 14 5;
    class = 1;
    name = 6;
    kind = kinds.Main;
    result = types.Void;
    params = 0;
    slots = slots;
    loops = loops;
    body = body;
  } ∷ [];
  typestates = protocol ∷ [];
  names = codes "CRole" ∷ codes "send_addIntToS" ∷ codes "receive_totalIntFromS" ∷ codes "send_byeToS" ∷ codes "value" ∷ class ∷
      codes "main" ∷ codes "c" ∷ codes "i" ∷ codes "t" ∷ [];
}

abbrev pub reached : List (List Bool)
reached = (true ∷ true ∷ []) ∷ []

-- a call of `c` at a line and column
abbrev calls : (line column method : ℕ) → List Expr → Expr
calls l k n [] = Protocol (at 1 l k) (var_at (at 1 l k) (Slot 0)) n NoExpr
calls l k n (e ∷ more) = Protocol (at 1 l k) (var_at (at 1 l k) (Slot 0)) n (Argument e NoExpr)

-- CMain.java:
-- // The client: it sends 1, 2 and 3, and prints the sum so far each time.
-- class CMain {
--     public static void main(String[] args) {
--         CRole c = new CRole();
--         int i = 1;
--         int t = 0;
--         while (i <= 3) {
--             c.send_addIntToS(i);
--             t = c.receive_totalIntFromS();
--             System.out.println(t);
--             i = i + 1;
--         }
--         c.send_byeToS();
--     }
-- }
abbrev pub client : Program
client = program_of (codes "CMain")
    (record { name = 7; ty = types.Object 0 } ∷ record { name = 8; ty = types.Int } ∷ record { name = 9; ty = types.Int } ∷ [])
    (record { place = at 1 7 9; scope = 0 ∷ 1 ∷ 2 ∷ [] } ∷ [])
    (Declare (at 1 4 15) 0 (New (at 1 4 19) 0)
    (Declare (at 1 5 13) 1 (Int (at 1 5 17) (pos 1))
    (Declare (at 1 6 13) 2 (Int (at 1 6 17) (pos 0))
    (Then (While (at 1 7 9) 0 (Binary (at 1 7 16) ops.Le (Variable (at 1 7 16) (Slot 1)) (Int (at 1 7 21) (pos 3)))
    (Block (at 1 7 24)
    (Then (Eval (at 1 8 13) (calls 8 13 0 (Variable (at 1 8 30) (Slot 1) ∷ [])))
    (Then (Assign (at 1 9 13) (var_at (at 1 9 13) (Slot 2)) (calls 9 17 1 []))
    (Then (Print (at 1 10 13) (Variable (at 1 10 32) (Slot 2)))
    (Then (Assign (at 1 11 13) (var_at (at 1 11 13) (Slot 1)) (Binary (at 1 11 17) ops.Add (Variable (at 1 11 17) (Slot 1))
    (Int (at 1 11 21) (pos 1)))) NoStmt)))) (at 1 12 9)))
    (Then (Eval (at 1 13 9) (calls 13 9 2 [])) NoStmt)))))

-- at the head of the loop `c` is in its first state
abbrev pub client_tables : Tables
client_tables (keys.Loop (suc (suc (suc zero))) zero zero) = false ∷ false ∷ false ∷ true ∷ false ∷ []
client_tables _ = []

abbrev pub client_names : List Name
client_names = codes "C.scr" ∷ codes "CMain.java" ∷ []

-- Bad.java, which doesn't take the sum:
-- class Bad {
--     public static void main(String[] args) {
--         CRole c = new CRole();
--         c.send_addIntToS(1);
--         c.send_byeToS();
--     }
-- }
abbrev pub bad : Program
bad = program_of (codes "Bad") (record { name = 7; ty = types.Object 0 } ∷ []) []
    (Declare (at 1 3 15) 0 (New (at 1 3 19) 0)
    (Then (Eval (at 1 4 9) (calls 4 9 0 (Int (at 1 4 26) (pos 1) ∷ [])))
    (Then (Eval (at 1 5 9) (calls 5 9 2 [])) NoStmt)))

abbrev pub bad_tables : Tables
bad_tables _ = []

abbrev pub bad_names : List Name
bad_names = codes "C.scr" ∷ codes "Bad.java" ∷ []
