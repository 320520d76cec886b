-- A resolved program that counts, and what it means.
use Rattle.std.specs.Prelude.{◌≡◌, [], ◌∷◌, Some, None, pos, codes, Option, List, false}
use Rattle.mg_text.specs.Call.{Name}
use Rattle.mg_text.specs.Places.{start_of}
use Rattle.mg_text.specs.declared.place.Place.{Place}
use Rattle.mg_text.specs.declared.event.Event.{Event}
use Rattle.mg_text.specs.declared.event.Event.TheVariants.{Made, Enter, Leave}
use Rattle.mg_text.specs.declared.event.Event.TheVariants.{Print as Printed}
use Rattle.ts_tree.specs.declared.parts.TypeName.TheVariants as written
use Rattle.ts_tree.specs.declared.parts.To.TheVariants as tos
use Rattle.ts_tree.specs.Typestate.{Typestate, State, One}
use Rattle.ts_tree.specs.Typestate.{Method as Offered}
use Rattle.jv_tree.specs.declared.tree.Op.TheVariants as ops
use Rattle.jv_values.specs.Values.{Done}
use Rattle.jv_core.specs.declared.tree.Var.TheVariants.{Slot, Field}
use Rattle.jv_core.specs.declared.program.CoreType.TheVariants as types
use Rattle.jv_core.specs.declared.program.MethodKind.TheVariants as kinds
use Rattle.jv_core.specs.Tree.{Expr, Int, Text, Variable, Binary, Protocol, Static, New, NoExpr, Argument}
use Rattle.jv_core.specs.Tree.{Block, Assign, If, While, Return, Print, Eval, NoStmt, Then, Declare, Class, Method, Program}
use Rattle.jv_core.specs.Meaning.{cmean}
use Rattle.jv_core.specs.Calls.{calls}
use Rattle.jv_core.specs.Conditions.{IsCore}

-- all places may be one: they mean nothing
abbrev p : Place
p = start_of 0

-- @Typestate("CounterProtocol") class Counter {
--   int n = 0;
--   public void tick() { n = n + 1; System.out.println(n); }
--   public void add(int k) { n = n + k; }
--   public void stop() { System.out.println("stop " + n); }
-- }
-- class Main {
--   static Counter step(Counter c, int n) {
--     if (n > 0) { c.tick(); return step(c, n - 1); }
--     return c;
--   }
--   public static void main(String[] args) {
--     Counter x = new Counter();
--     int i = 0;
--     while (i < 2) { x = step(x, i); i = i + 1; }
--     x.stop();
--   }
-- }
abbrev pub counter : Class
counter = record {
  place = p;
  name = 0;
  typestate = Some 0;
  fields = record { name = 2; ty = types.Int; value = Some (Int p (pos 0)) } ∷ [];
  methods = 0 ∷ 1 ∷ 2 ∷ [];
}

abbrev pub main_class : Class
main_class = record { place = p; name = 1; typestate = None; fields = []; methods = 3 ∷ 4 ∷ [] }

-- the own field n
abbrev n : Expr
n = Variable p (Field 0)

abbrev pub tick : Method
tick = record {
  place = p;
  end = p;
  class = 0;
  name = 3;
  kind = kinds.Protocol;
  result = types.Void;
  params = 0;
  slots = [];
  loops = [];
  body = Then (Assign p (record { place = p; var = Field 0 }) (Binary p ops.Add n (Int p (pos 1)))) (Then (Print p n) NoStmt);
}

abbrev pub add : Method
add = record {
  place = p;
  end = p;
  class = 0;
  name = 4;
  kind = kinds.Protocol;
  result = types.Void;
  params = 1;
  slots = record { name = 5; ty = types.Int } ∷ [];
  loops = [];
  body = Then (Assign p (record { place = p; var = Field 0 }) (Binary p ops.Add n (Variable p (Slot 0)))) NoStmt;
}

abbrev pub stop : Method
stop = record {
  place = p;
  end = p;
  class = 0;
  name = 6;
  kind = kinds.Protocol;
  result = types.Void;
  params = 0;
  slots = [];
  loops = [];
  body = Then (Print p (Binary p ops.Add (Text p (codes "stop ")) n)) NoStmt;
}

abbrev pub step : Method
step = record {
  place = p;
  end = p;
  class = 1;
  name = 7;
  kind = kinds.Static;
  result = types.Object 0;
  params = 2;
  slots = record { name = 8; ty = types.Object 0 } ∷ record { name = 2; ty = types.Int } ∷ [];
  loops = [];
  body = Then (If p (Binary p ops.Gt (Variable p (Slot 1)) (Int p (pos 0))) (Block p
      (Then (Eval p (Protocol p (record { place = p; var = Slot 0 }) 0 NoExpr))
      (Then (Return p (Some (Static p 3 (Argument (Variable p (Slot 0))
      (Argument (Binary p ops.Sub (Variable p (Slot 1)) (Int p (pos 1))) NoExpr)))))
      NoStmt)) p))
      (Then (Return p (Some (Variable p (Slot 0)))) NoStmt);
}

abbrev pub main : Method
main = record {
  place = p;
  end = p;
  class = 1;
  name = 9;
  kind = kinds.Main;
  result = types.Void;
  params = 0;
  slots = record { name = 10; ty = types.Object 0 } ∷ record { name = 11; ty = types.Int } ∷ [];
  loops = record { place = p; scope = 0 ∷ 1 ∷ [] } ∷ [];
  body = Declare p 0 (New p 0) (Declare p 1 (Int p (pos 0))
      (Then (While p 0 (Binary p ops.Lt (Variable p (Slot 1)) (Int p (pos 2))) (Block p
      (Then (Assign p (record { place = p; var = Slot 0 })
      (Static p 3 (Argument (Variable p (Slot 0)) (Argument (Variable p (Slot 1)) NoExpr))))
      (Then (Assign p (record { place = p; var = Slot 1 }) (Binary p ops.Add (Variable p (Slot 1)) (Int p (pos 1))))
      NoStmt)) p))
      (Then (Eval p (Protocol p (record { place = p; var = Slot 0 }) 2 NoExpr)) NoStmt)));
}

abbrev pub tick_call : Offered
tick_call = record { result = written.Void; name = codes "tick"; params = []; target = One (tos.State 0) }

abbrev pub add_call : Offered
add_call = record { result = written.Void; name = codes "add"; params = written.Int ∷ []; target = One (tos.State 0) }

abbrev pub stop_call : Offered
stop_call = record { result = written.Void; name = codes "stop"; params = []; target = One tos.End }

abbrev pub live : State
live = record { name = codes "Live"; methods = tick_call ∷ add_call ∷ stop_call ∷ []; drops = false }

abbrev pub protocol : Typestate
protocol = record { name = codes "CounterProtocol"; states = live ∷ [] }

abbrev pub program : Program
program = record {
  classes = counter ∷ main_class ∷ [];
  enums = [];
  methods = tick ∷ add ∷ stop ∷ step ∷ main ∷ [];
  typestates = protocol ∷ [];
  names =
      codes "Counter" ∷
      codes "Main" ∷
      codes "n" ∷
      codes "tick" ∷
      codes "add" ∷
      codes "k" ∷
      codes "stop" ∷
      codes "step" ∷
      codes "c" ∷
      codes "main" ∷
      codes "x" ∷
      codes "i" ∷
      [];
}

abbrev pub seen : List Event
seen =
    Made 0 (codes "Counter") ∷
    Enter 0 (codes "tick") ∷
    Printed (codes "1") ∷
    Leave 0 None ∷
    Enter 0 (codes "stop") ∷
    Printed (codes "stop 1") ∷
    Leave 0 None ∷
    []

abbrev no_answer : Option Name
no_answer = None

-- It meets the conditions of a core, and it counts.
pub record CounterRuns : Type 0 where
  pub is_core : ∥ IsCore program ∥₁
  pub ends : cmean program (codes "Main") [] 3 ≡ record { events = seen; finish = Done }
  pub calls_are : calls program (codes "Counter") 0 seen ≡
      record { method = codes "tick"; answer = no_answer } ∷ record { method = codes "stop"; answer = no_answer } ∷ []
