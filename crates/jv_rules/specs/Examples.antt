-- Small programs, and their faults.
use Rattle.std.specs.Prelude.{ℕ, pos, List, [], ◌∷◌, Some, None, true, false, codes}
use Rattle.mg_text.specs.declared.place.Place.{Place}
use Rattle.mg_read.specs.Culprit.{culprit}
use Rattle.ts_tree.specs.declared.parts.TypeName.TheVariants as written
use Rattle.ts_tree.specs.declared.parts.To.TheVariants as tos
use Rattle.ts_tree.specs.Typestate as protocols
use Rattle.jv_tree.specs.declared.tree.Op.TheVariants as ops
use Rattle.jv_tree.specs.declared.tree.Param.{Param}
use Rattle.jv_tree.specs.Source.{Expr, Exprs, Int, Truth, Text, Variable, Binary, Call, MethodCall, New, NoExpr, Argument, Block, Assign}
use Rattle.jv_tree.specs.Source.{While, Return, Print, Eval, Stmt, Stmts, NoStmt, Then, Method, Class, ClassDecl}
use Rattle.mg_text.specs.Call.{Name}
use Rattle.ts_tree.specs.declared.parts.TypeName.{TypeName}
use Rattle.jv_rules.specs.declared.condition.Condition.TheVariants as conditions
use Rattle.jv_rules.specs.Program.{Program}
use Rattle.jv_rules.specs.Faults.{IsFault}

-- a place in a file of one program
abbrev pub at : ℕ → ℕ → Place
at line column = record { file = 0; line = line; column = column }

-- `class A { static int f(int n) { while (..) { } } }`
abbrev pub loops : Expr → Class
loops test = record {
  place = at 1 7;
  name = codes "A";
  typestate = None;
  fields = [];
  methods = record {
    place = at 1 22;
    end = at 1 51;
    is_static = true;
    result = written.Int;
    name = codes "f";
    takes_args = false;
    params = record { place = at 1 28; ty = written.Int; name = codes "n" } ∷ [];
    body = Then (While (at 1 33) None test (Block (at 1 47) NoStmt (at 1 49))) NoStmt;
  } ∷ [];
}

abbrev pub counting : Program
counting = record {
  files = (ClassDecl (loops (Binary (at 1 40) ops.Gt (Variable (at 1 40) (codes "n")) (Int (at 1 44) (pos 0)))) ∷ []) ∷ [];
  typestates = [];
}

abbrev pub for_ever : Program
for_ever = record { files = (ClassDecl (loops (Truth (at 1 40) true)) ∷ []) ∷ []; typestates = [] }

-- a method of a state to which it leads back
abbrev pub offered : Name → List TypeName → protocols.Method
offered name params = record { result = written.Void; name = name; params = params; target = protocols.One (tos.State 0) }

abbrev pub one_state : Name → List protocols.Method → protocols.Typestate
one_state name methods = record { name = name; states = record { name = codes "Live"; methods = methods; drops = false } ∷ [] }

abbrev pub counter_protocol : protocols.Typestate
counter_protocol = one_state (codes "CounterProtocol") (offered (codes "tick") [] ∷ offered (codes "add") (written.Int ∷ []) ∷ offered
    (codes "stop") [] ∷ [])

abbrev pub holder_protocol : protocols.Typestate
holder_protocol = one_state (codes "HolderProtocol") (offered (codes "use") (written.Boolean ∷ []) ∷ [])

abbrev pub instance : ℕ → TypeName → Name → List Param → Stmts → Method
instance line result name params body = record {
  place = at line 15;
  end = at line 99;
  is_static = false;
  result = result;
  name = name;
  params = params;
  takes_args = false;
  body = body;
}

abbrev pub variable : ℕ → Name → Expr
variable line name = Variable (at line 5) name

-- `n = n + e`
abbrev pub raise : ℕ → Expr → Stmt
raise line e = Assign (at line 5) (variable line (codes "n")) (Binary (at line 9) ops.Add (variable line (codes "n")) e)

-- The class `Counter`, whose methods `tick`, `add` and `stop` raise and print its number.
abbrev pub counter_class : Class
counter_class = record {
  place = at 1 36;
  name = codes "Counter";
  typestate = Some (codes "CounterProtocol");
  fields = record { place = at 2 7; ty = written.Int; name = codes "n"; value = Some (Int (at 2 11) (pos 0)) } ∷ [];
  methods =
      instance 3 written.Void (codes "tick") []
      (Then (raise 3 (Int (at 3 13) (pos 1))) (Then (Print (at 3 20) (variable 3 (codes "n"))) NoStmt))
      ∷ instance 4 written.Void (codes "add") (record { place = at 4 23; ty = written.Int; name = codes "k" } ∷ [])
      (Then (raise 4 (variable 4 (codes "k"))) NoStmt)
      ∷ instance 5 written.Void (codes "stop") []
      (Then (Print (at 5 24) (Binary (at 5 30) ops.Add (Text (at 5 30) (codes "stop ")) (variable 5 (codes "n")))) NoStmt)
      ∷ [];
}

abbrev pub made : ℕ → Stmt
made line = Assign (at line 5) (variable line (codes "c")) (New (at line 9) (codes "Counter"))

abbrev pub on_counter : ℕ → Name → Exprs → Stmt
on_counter line name args = Eval (at line 5) (MethodCall (at line 5) (variable line (codes "c")) name args)

-- A class `Holder` with a counter `c`, a helper `swap` that makes it anew, and a method `use` that calls `c.add(swap())`.
abbrev pub holder_class : Class
holder_class = record {
  place = at 1 35;
  name = codes "Holder";
  typestate = Some (codes "HolderProtocol");
  fields = record { place = at 2 11; ty = written.Named (codes "Counter"); name = codes "c"; value = None } ∷ [];
  methods =
      instance 3 written.Int (codes "swap") [] (Then (made 3) (Then (Return (at 3 35) (Some (Int (at 3 42) (pos 1)))) NoStmt))
      ∷ instance 4 written.Void (codes "use") (record { place = at 4 27; ty = written.Boolean; name = codes "b" } ∷ [])
      (Then (made 5) (Then (on_counter 6 (codes "add") (Argument (Call (at 6 11) (codes "swap") NoExpr) NoExpr))
      (Then (on_counter 7 (codes "stop") NoExpr) NoStmt)))
      ∷ [];
}

abbrev pub holding : Program
holding = record {
  files = (ClassDecl counter_class ∷ []) ∷ (ClassDecl holder_class ∷ []) ∷ [];
  typestates =
      counter_protocol ∷ holder_protocol ∷ [];
}

-- What these programs are judged to be.
pub record AreJudged : Type 0 where
  -- a loop whose condition isn't the literal `true` can complete
  pub missing_return : IsFault counting (Some (conditions.MissingReturn, culprit (at 1 51) []))
  -- a loop for ever can't
  pub runs_on : IsFault for_ever None
  -- the call on the own field stands in the sixth line
  pub args_may_move : IsFault holding (Some (conditions.ArgsMayMove, culprit (at 6 5) (codes "c")))
