-- A linked list: each node has the next one in a field. Places don't matter here, so all is at one.
use Rattle.std.specs.Prelude.{ℕ, zero, suc, Bool, List, [], ◌∷◌, Some, None, pos, codes, true, false}
use Rattle.mg_text.specs.declared.place.Place.{Place}
use Rattle.ts_tree.specs.declared.parts.TypeName.TheVariants as written
use Rattle.ts_tree.specs.declared.parts.To.TheVariants as tos
use Rattle.ts_tree.specs.Typestate.{Typestate, One}
use Rattle.jv_tree.specs.declared.tree.Op.TheVariants as ops
use Rattle.jv_core.specs.declared.tree.Var.{Var}
use Rattle.jv_core.specs.declared.tree.Var.TheVariants.{Slot, Field}
use Rattle.jv_core.specs.declared.program.CoreType.TheVariants as types
use Rattle.jv_core.specs.declared.program.MethodKind.TheVariants as kinds
use Rattle.jv_core.specs.Tree.{Expr, Int, Text, Null, Variable, Binary, Protocol, New, Exprs, NoExpr, Argument}
use Rattle.jv_core.specs.Tree.{Stmt, Block, Assign, If, While, Print, Eval, NoStmt, Then, Declare, Method, Program}
use Rattle.use_rules.specs.declared.key.TableKey.TheVariants as keys
use Rattle.use_rules.specs.Elements.{Set}
use Rattle.use_rules.specs.Keys.{Tables}
use Rattle.use_rules.specs.examples.Counter.{at, var_at}

abbrev q : Place
q = at 0 1 1

-- typestate NodeProtocol { Fresh = { void link(int, Node): Open } Open = { void close(): end } }
abbrev protocol : Typestate
protocol = record {
  name = codes "NodeProtocol";
  states =
      record {
        name = codes "Fresh";
        methods = record {
          result = written.Void;
          name = codes "link";
          params =
              written.Int ∷ written.Named (codes "Node") ∷ [];
          target = One (tos.State 1);
        } ∷ [];
        drops = false;
      } ∷
      record {
        name = codes "Open";
        methods = record { result = written.Void; name = codes "close"; params = []; target = One tos.End } ∷
            [];
        drops = false;
      } ∷
      [];
}

abbrev value : Var → Expr
value x = Variable q x

abbrev assign : Var → Expr → Stmt
assign x e = Assign q (var_at q x) e

abbrev call : Var → (method : ℕ) → Exprs → Stmt
call x m es = Eval q (Protocol q (var_at q x) m es)

-- `if (x != null) { x.close(); }`
abbrev closes : Var → Stmt
closes x = If q (Binary q ops.Ne (value x) (Null q)) (Block q (Then (call x 1 NoExpr) NoStmt) q)

-- public void link(int k, Node n) { v = k; next = n; }
abbrev link : Method
link = record {
  place = q;
  end = q;
  class = 0;
  name = 3;
  kind = kinds.Protocol;
  result = types.Void;
  params = 2;
  slots = record { name = 4; ty = types.Int } ∷ record { name = 5; ty = types.Object 0 } ∷ [];
  loops = [];
  body = Then (assign (Field 0) (value (Slot 0))) (Then (assign (Field 1) (value (Slot 1))) NoStmt);
}

-- public void close() { if (next != null) { next.close(); } System.out.println("closed " + v); }
abbrev close : Method
close = record {
  place = q;
  end = q;
  class = 0;
  name = 6;
  kind = kinds.Protocol;
  result = types.Void;
  params = 0;
  slots = [];
  loops = [];
  body = Then (closes (Field 1)) (Then (Print q (Binary q ops.Add (Text q (codes "closed ")) (value (Field 0)))) NoStmt);
}

-- public static void main(String[] args) {
--   Node a = null;
--   int i = 0;
--   while (i < 3) { Node b = new Node(); b.link(i, a); a = b; i++; }
--   if (a != null) { a.close(); }
-- }
abbrev main : Method
main = record {
  place = q;
  end = q;
  class = 1;
  name = 8;
  kind = kinds.Main;
  result = types.Void;
  params = 0;
  slots = record { name = 9; ty = types.Object 0 } ∷ record { name = 10; ty = types.Int } ∷ record { name = 11; ty = types.Object 0 } ∷ [];
  loops = record { place = q; scope = 0 ∷ 1 ∷ [] } ∷ [];
  body = Declare q 0 (Null q) (Declare q 1 (Int q (pos 0))
      (Then (While q 0 (Binary q ops.Lt (value (Slot 1)) (Int q (pos 3))) (Block q
      (Declare q 2 (New q 0)
      (Then (call (Slot 2) 0 (Argument (value (Slot 1)) (Argument (value (Slot 0)) NoExpr)))
      (Then (assign (Slot 0) (value (Slot 2)))
      (Then (assign (Slot 1) (Binary q ops.Add (value (Slot 1)) (Int q (pos 1)))) NoStmt)))) q))
      (Then (closes (Slot 0)) NoStmt)));
}

abbrev pub nodes : Program
nodes = record {
  classes =
      record {
        place = q;
        name = 0;
        typestate = Some 0;
        methods = 0 ∷ 1 ∷ [];
        fields = record { name = 1; ty = types.Int; value = Some (Int q (pos 0)) } ∷ record { name = 2; ty = types.Object 0; value = None }
            ∷ [];
      } ∷
      record { place = q; name = 7; typestate = None; fields = []; methods = 2 ∷ [] } ∷
      [];
  enums = [];
  methods = link ∷ close ∷ main ∷ [];
  typestates = protocol ∷ [];
  names = codes "Node" ∷ codes "v" ∷ codes "next" ∷ codes "link" ∷ codes "k" ∷ codes "n" ∷ codes "close" ∷
      codes "Main" ∷ codes "main" ∷ codes "a" ∷ codes "i" ∷ codes "b" ∷ [];
}

abbrev pub nodes_reached : List (List Bool)
nodes_reached = (true ∷ true ∷ []) ∷ []

abbrev only_null : Set
only_null = true ∷ false ∷ false ∷ false ∷ false ∷ []

abbrev null_or_open : Set
null_or_open = true ∷ false ∷ false ∷ false ∷ true ∷ []

abbrev pub nodes_tables : Tables
nodes_tables (keys.Field zero zero (suc zero)) = only_null
nodes_tables (keys.Field zero (suc zero) (suc zero)) = null_or_open
nodes_tables (keys.Param zero (suc zero)) = null_or_open
nodes_tables (keys.Loop (suc (suc zero)) zero zero) = null_or_open
nodes_tables _ = []
