-- An adder: its two roles fit its global protocol. A whole example.
use Rattle.std.specs.Prelude.{ℕ, List, true, [], ◌∷◌, ◌++◌, Some, None, pos, codes}
use Rattle.mg_text.specs.Call.{Name}
use Rattle.mg_text.specs.declared.place.Place.{Place}
use Rattle.mg_read.specs.First.{FirstOf}
use Rattle.scr_tree.specs.declared.syntax.Direction.{Direction}
use Rattle.scr_tree.specs.declared.syntax.Direction.TheVariants as directions
use Rattle.scr_tree.specs.declared.syntax.Payload.{Payload}
use Rattle.scr_tree.specs.declared.syntax.Payload.TheVariants as payloads
use Rattle.scr_tree.specs.declared.syntax.Message.{Message}
use Rattle.scr_tree.specs.Tree.{LocalTree}
use Rattle.scr_tree.specs.Tree as local
use Rattle.scr_global.specs.Tree.{Told, Statements, Nothing, Says, Choice, Rec, Continue, NoBranch, Branch}
use Rattle.scr_global_tree.specs.Tree.{GlobalTree}
use Rattle.stm_gen.specs.Numbered.{typestate_of}
use Rattle.jv_tree.specs.Source.{File}
use Rattle.jv_tree.specs.declared.tree.Op.TheVariants as ops
use Rattle.jv_tree.specs.declared.built_in.SessionCall.{SessionCall}
use Rattle.jv_tree.specs.declared.built_in.SessionCall.TheVariants as session
use Rattle.jv_core.specs.declared.tree.Var.TheVariants.{Slot}
use Rattle.jv_core.specs.declared.tree.CoreVar.{CoreVar}
use Rattle.jv_core.specs.declared.program.CoreType.{CoreType}
use Rattle.jv_core.specs.declared.program.CoreType.TheVariants as types
use Rattle.jv_core.specs.declared.program.MethodKind.TheVariants as kinds
use Rattle.jv_core.specs.Tree.{Expr, Int, Truth, Text, Variable, Constant, Binary, Protocol, Equals, Session, New, Exprs, NoExpr, Argument}
use Rattle.jv_core.specs.Tree.{Stmts, Block, Assign, If, While, Do, Switch, Break, Return}
use Rattle.jv_core.specs.Tree.{Print, Eval, NoStmt, Then, Declare, NoGroup, Group}
use Rattle.jv_core.specs.Tree.{Method, Program, Loop, Slot as Declared}
use Rattle.jv_core.specs.Tree as core_tree
use Rattle.vm_world_law.specs.declared.role.RoleMain.{RoleMain}
use Rattle.mg_sources.specs.Reading.{Part, Classes}
use Rattle.mg_sources.specs.Reading as parts_of
use Rattle.mg_fits.specs.Conditions.{conditions, Of}

abbrev at : (file line column : ℕ) → Place
at f l c = record { file = f; line = l; column = c }

abbrev pub client : Name
client = codes "C"

abbrev pub server : Name
server = codes "S"

abbrev pub roles : List Name
roles = client ∷ server ∷ []

-- ---- what both do: Adder.scr, which is file 4

abbrev told : Place → Name → Payload → Name → Name → Told
told place label payload from to = record { place = place; from = from; to = to; label = label; payload = payload }

-- module demo.Adder;
-- global protocol Adder(role C, role S) {
--     rec X {
--         choice at C {
--             add(int) from C to S;
--             total(int) from S to C;
--             continue X;
--         } or {
--             bye() from C to S;
--         }
--     }
-- }
abbrev text : Statements
text = Rec (at 4 3 5) (codes "X") (Choice (at 4 4 9) client
    (Branch (Says (told (at 4 5 13) (codes "add") payloads.Int client server)
    (Says (told (at 4 6 13) (codes "total") payloads.Int server client) (Continue (at 4 7 13) (codes "X") Nothing)))
    (Branch (Says (told (at 4 9 13) (codes "bye") payloads.Nothing client server) Nothing) NoBranch)) Nothing) Nothing

abbrev pub global : GlobalTree
global = record { file = 4; name = codes "Adder"; roles = roles; places = at 4 2 28 ∷ at 4 2 36 ∷ []; body = text }

-- ---- what each does: C.scr and S.scr, which are the files 0 and 1

abbrev message : Place → Direction → Name → Name → Payload → Message
message place direction peer label payload = record {
  place = place;
  direction = direction;
  peer = peer;
  label = label;
  payload = payload;
}

-- local protocol Adder at C(role C, role S) {
--     rec X {
--         choice at C {
--             add(int) to S;
--             total(int) from S;
--             continue X;
--         } or {
--             bye() to S;
--         }
--     }
-- }
abbrev pub of_client : LocalTree
of_client = record {
  file = 0;
  name = codes "Adder";
  me = client;
  roles = roles;
  body =
      local.Rec (at 0 2 5) (codes "X") (local.Choice (at 0 3 9) client
      (local.Branch (local.Says (message (at 0 4 13) directions.To server (codes "add") payloads.Int)
      (local.Says (message (at 0 5 13) directions.From server (codes "total") payloads.Int)
      (local.Continue (at 0 6 13) (codes "X") local.Nothing)))
      (local.Branch (local.Says (message (at 0 8 13) directions.To server (codes "bye") payloads.Nothing) local.Nothing)
      local.NoBranch)) local.Nothing) local.Nothing;
  others = [];
}

-- local protocol Adder at S(role C, role S) {
--     rec X {
--         choice at C {
--             add(int) from C;
--             total(int) to C;
--             continue X;
--         } or {
--             bye() from C;
--         }
--     }
-- }
abbrev pub of_server : LocalTree
of_server = record {
  file = 1;
  name = codes "Adder";
  me = server;
  roles = roles;
  body =
      local.Rec (at 1 2 5) (codes "X") (local.Choice (at 1 3 9) client
      (local.Branch (local.Says (message (at 1 4 13) directions.From client (codes "add") payloads.Int)
      (local.Says (message (at 1 5 13) directions.To client (codes "total") payloads.Int)
      (local.Continue (at 1 6 13) (codes "X") local.Nothing)))
      (local.Branch (local.Says (message (at 1 8 13) directions.From client (codes "bye") payloads.Nothing) local.Nothing)
      local.NoBranch)) local.Nothing) local.Nothing;
  others = [];
}

-- ---- the core of these and of CMain.java and SMain.java, which are the files 2 and 3

abbrev names : List Name
names =
    codes "CRole" ∷ codes "send_addIntToS" ∷ codes "receive_totalIntFromS" ∷ codes "send_byeToS" ∷ codes "value" ∷ codes "SRole"
    ∷ codes "receive_SChoice1LabelFromC" ∷ codes "receive_addIntFromC" ∷ codes "send_totalIntToC" ∷ codes "receive_byeFromC" ∷ codes "found"
    ∷ codes "SChoice1" ∷ codes "add" ∷ codes "bye" ∷ codes "CMain" ∷ codes "main" ∷ codes "c" ∷ codes "i" ∷ codes "t" ∷ codes "SMain"
    ∷ codes "s" ∷ codes "sum" ∷ []

-- a slot of the method, as a value and as what is called on or assigned
abbrev slot : Place → ℕ → Expr
slot p n = Variable p (Slot n)

abbrev var : Place → ℕ → CoreVar
var p n = record { place = p; var = Slot n }

abbrev declared : (name : ℕ) → CoreType → Declared
declared name ty = record { name = name; ty = ty }

-- a method of the class of a role
abbrev made : (class name : ℕ) → CoreType → (params : ℕ) → List Declared → Stmts → Method
made class name result params slots body = record {
  place = at class 1 1;
  end = at class 1 1;
  class = class;
  name = name;
  kind = kinds.Protocol;
  result = result;
  params = params;
  slots = slots;
  loops = [];
  body = body;
}

-- a call of `Session` with a peer and a label
abbrev says : Place → SessionCall → Name → Name → Exprs → Expr
says p call peer label rest = Session p call (Argument (Text p peer) (Argument (Text p label) rest))

abbrev role_methods : List Method
role_methods =
    made 0 1 types.Void 1 (declared 4 types.Int ∷ [])
    (Then (Eval (at 0 1 1) (says (at 0 1 1) session.SendInt server (codes "add") (Argument (slot (at 0 1 1) 0) NoExpr))) NoStmt)
    ∷ made 0 2 types.Int 0 []
    (Then (Return (at 0 1 1) (Some (says (at 0 1 1) session.TakeInt server (codes "total") NoExpr))) NoStmt)
    ∷ made 0 3 types.Void 0 []
    (Then (Eval (at 0 1 1) (says (at 0 1 1) session.Send server (codes "bye") NoExpr)) NoStmt)
    ∷ made 1 6 (types.Enum 0) 0 (declared 10 types.Text ∷ [])
    (Declare (at 1 1 1) 0 (Session (at 1 1 1) session.Look (Argument (Text (at 1 1 1) client) NoExpr))
    (Then (If (at 1 1 1) (Equals (at 1 1 1) (slot (at 1 1 1) 0) (Text (at 1 1 1) (codes "add")))
    (Block (at 1 1 1) (Then (Return (at 1 1 1) (Some (Constant (at 1 1 1) 0 0))) NoStmt) (at 1 1 1)))
    (Then (If (at 1 1 1) (Equals (at 1 1 1) (slot (at 1 1 1) 0) (Text (at 1 1 1) (codes "bye")))
    (Block (at 1 1 1) (Then (Return (at 1 1 1) (Some (Constant (at 1 1 1) 0 1))) NoStmt) (at 1 1 1)))
    (Then (Eval (at 1 1 1) (Session (at 1 1 1) session.Refuse (Argument (Text (at 1 1 1) client)
    (Argument (slot (at 1 1 1) 0) NoExpr))))
    (Then (Return (at 1 1 1) (Some (Constant (at 1 1 1) 0 0))) NoStmt)))))
    ∷ made 1 7 types.Int 0 []
    (Then (Return (at 1 1 1) (Some (says (at 1 1 1) session.TakeInt client (codes "add") NoExpr))) NoStmt)
    ∷ made 1 8 types.Void 1 (declared 4 types.Int ∷ [])
    (Then (Eval (at 1 1 1) (says (at 1 1 1) session.SendInt client (codes "total") (Argument (slot (at 1 1 1) 0) NoExpr))) NoStmt)
    ∷ made 1 9 types.Void 0 []
    (Then (Eval (at 1 1 1) (says (at 1 1 1) session.Take client (codes "bye") NoExpr)) NoStmt)
    ∷ []

-- a call of the object in the first slot
abbrev calls : Place → (method : ℕ) → Exprs → Expr
calls p method args = Protocol p (var p 0) method args

-- the `main` of a class with these slots, one loop and this body, in the file of the number of the class
abbrev main_of : (class : ℕ) → Place → Place → List Declared → Place → List ℕ → Stmts → Method
main_of class place end slots loop scope body = record {
  place = place;
  end = end;
  class = class;
  name = 15;
  kind = kinds.Main;
  result = types.Void;
  params = 0;
  slots = slots;
  loops = record { place = loop; scope = scope } ∷ [];
  body = body;
}

-- class CMain {
--     public static void main(String[] args) {
--         CRole c = new CRole();
--         int i = 1;
--         int t = 0;
--         while (i <= 3) {
--             c.send_addIntToS(i);
--             t = c.receive_totalIntFromS();
--             System.out.println(t);
--             i = i + 1;
--         }
--         c.send_byeToS();
--     }
-- }
abbrev pub client_main : Method
client_main = main_of 2 (at 2 2 24) (at 2 13 5) (declared 16 (types.Object 0) ∷ declared 17 types.Int ∷ declared 18 types.Int ∷ [])
    (at 2 6 9) (0 ∷ 1 ∷ 2 ∷ [])
    (Declare (at 2 3 15) 0 (New (at 2 3 19) 0)
    (Declare (at 2 4 13) 1 (Int (at 2 4 17) (pos 1))
    (Declare (at 2 5 13) 2 (Int (at 2 5 17) (pos 0))
    (Then (While (at 2 6 9) 0 (Binary (at 2 6 16) ops.Le (slot (at 2 6 16) 1) (Int (at 2 6 21) (pos 3)))
    (Block (at 2 6 24)
    (Then (Eval (at 2 7 13) (calls (at 2 7 13) 0 (Argument (slot (at 2 7 30) 1) NoExpr)))
    (Then (Assign (at 2 8 13) (var (at 2 8 13) 2) (calls (at 2 8 17) 1 NoExpr))
    (Then (Print (at 2 9 13) (slot (at 2 9 32) 2))
    (Then (Assign (at 2 10 13) (var (at 2 10 13) 1) (Binary (at 2 10 17) ops.Add (slot (at 2 10 17) 1) (Int (at 2 10 21) (pos 1))))
    NoStmt)))) (at 2 11 9)))
    (Then (Eval (at 2 12 9) (calls (at 2 12 9) 2 NoExpr)) NoStmt)))))

-- class SMain {
--     public static void main(String[] args) {
--         SRole s = new SRole();
--         int sum = 0;
--         loop: do {
--             switch (s.receive_SChoice1LabelFromC()) {
--                 case add:
--                     sum = sum + s.receive_addIntFromC();
--                     s.send_totalIntToC(sum);
--                     continue loop;
--                 case bye:
--                     s.receive_byeFromC();
--                     break loop;
--             }
--         } while (true);
--         System.out.println("sum " + sum);
--     }
-- }
abbrev pub server_main : Method
server_main = main_of 3 (at 3 2 24) (at 3 17 5) (declared 20 (types.Object 1) ∷ declared 21 types.Int ∷ []) (at 3 5 9) (0 ∷ 1 ∷ [])
    (Declare (at 3 3 15) 0 (New (at 3 3 19) 1)
    (Declare (at 3 4 13) 1 (Int (at 3 4 19) (pos 0))
    (Then (Do (at 3 5 9) 0 (Block (at 3 5 18)
    (Then (Switch (at 3 6 13) (calls (at 3 6 21) 3 NoExpr)
    (Group (Some 0 ∷ [])
    (Then (Assign (at 3 8 21) (var (at 3 8 21) 1) (Binary (at 3 8 27) ops.Add (slot (at 3 8 27) 1) (calls (at 3 8 33) 4 NoExpr)))
    (Then (Eval (at 3 9 21) (calls (at 3 9 21) 5 (Argument (slot (at 3 9 40) 1) NoExpr)))
    (Then (core_tree.Continue (at 3 10 21) 0) NoStmt))) (at 3 11 17)
    (Group (Some 1 ∷ [])
    (Then (Eval (at 3 12 21) (calls (at 3 12 21) 6 NoExpr))
    (Then (Break (at 3 13 21) (Some 0)) NoStmt)) (at 3 14 13)
    NoGroup)) (at 3 14 13))
    NoStmt) (at 3 15 9)) (Truth (at 3 15 18) true))
    (Then (Print (at 3 16 9) (Binary (at 3 16 28) ops.Add (Text (at 3 16 28) (codes "sum ")) (slot (at 3 16 37) 1))) NoStmt))))

abbrev pub core : Program
core = record {
  classes =
      record { place = at 0 1 1; name = 0; typestate = Some 0; fields = []; methods = 0 ∷ 1 ∷ 2 ∷ [] } ∷
      record { place = at 1 1 1; name = 5; typestate = Some 1; fields = []; methods = 3 ∷ 4 ∷ 5 ∷ 6 ∷ [] } ∷
      record { place = at 2 1 7; name = 14; typestate = None; fields = []; methods = 7 ∷ [] } ∷
      record { place = at 3 1 7; name = 19; typestate = None; fields = []; methods = 8 ∷ [] } ∷
      [];
  enums = record { name = 11; constants = 12 ∷ 13 ∷ [] } ∷ [];
  methods = role_methods ++ client_main ∷ server_main ∷ [];
  typestates = typestate_of of_client ∷ typestate_of of_server ∷ [];
  names = names;
}

abbrev pub mains : List RoleMain
mains = record { role = client; class = codes "CMain" } ∷ record { role = server; class = codes "SMain" } ∷ []

abbrev pub parts : File → File → List Part
parts client_file server_file =
    parts_of.Protocol of_client ∷ parts_of.Protocol of_server ∷ Classes client_file ∷ Classes server_file ∷ []

-- No condition of fitting is at fault. What the sources are as trees isn't asked, but only their core.
abbrev pub AdderFits : Type 0
AdderFits = (client_file server_file : File) → FirstOf (Of global (parts client_file server_file) core mains) conditions None
