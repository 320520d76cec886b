-- Worked rows of diagrams.
use Rattle.std.specs.Prelude.{◌≡◌, List, [], ◌∷◌, ◌++◌, true, false, codes}
use Rattle.mg_text.specs.Call.{Name}
use Rattle.ts_tree.specs.declared.parts.To.TheVariants as tos
use Rattle.ts_tree.specs.declared.parts.TypeName.{TypeName}
use Rattle.ts_tree.specs.declared.parts.TypeName.TheVariants as types
use Rattle.ts_tree.specs.Typestate.{Target, One, ByAnswer, Method, Typestate}
use Rattle.lsp_drawing.specs.Diagrams.{diagram}

abbrev method : TypeName → Name → List TypeName → Target → Method
method result name params target = record { result = result; name = name; params = params; target = target }

-- the client of an adder
abbrev adder : Typestate
adder = record {
  name = codes "CProtocol";
  states =
      record {
        name = codes "State0";
        methods =
            method types.Void (codes "send_addIntToS") (types.Int ∷ []) (One (tos.State 1)) ∷
            method types.Void (codes "send_byeToS") [] (One tos.End) ∷ [];
        drops = false;
      } ∷
      record {
        name = codes "State1";
        methods = method types.Int (codes "receive_totalIntFromS") [] (One (tos.State 0)) ∷ [];
        drops = false;
      } ∷ [];
}

-- a state that may be left, and a method that answers with labels
abbrev asking : Typestate
asking = record {
  name = codes "P";
  states =
      record {
        name = codes "Idle";
        methods = method types.Boolean (codes "ask") (types.Int ∷ types.Text ∷ []) (One (tos.State 1)) ∷ [];
        drops = true;
      } ∷
      record {
        name = codes "Asked";
        methods =
            method (types.Named (codes "Answer")) (codes "look") []
            (ByAnswer (record { label = codes "again"; to = tos.State 0 } ∷ record { label = codes "enough"; to = tos.End } ∷ []))
            ∷ [];
        drops = false;
      } ∷ [];
}

pub record Rows : Type 0 where
  pub adder_drawn : diagram adder ≡
      codes "stateDiagram-v2\n" ++
      codes "    [*] --> State0\n" ++
      codes "    State0 --> State1 : send_addIntToS(int)\n" ++
      codes "    State0 --> [*] : send_byeToS()\n" ++
      codes "    State1 --> State0 : receive_totalIntFromS()\n"
  pub asking_drawn : diagram asking ≡
      codes "stateDiagram-v2\n" ++
      codes "    [*] --> Idle\n" ++
      codes "    Idle --> Asked : ask(int, String)\n" ++
      codes "    Idle --> [*] : drop\n" ++
      codes "    Asked --> Idle : look() = again\n" ++
      codes "    Asked --> [*] : look() = enough\n"
  pub nothing_drawn : diagram (record { name = codes "P"; states = [] }) ≡ codes "stateDiagram-v2\n"
