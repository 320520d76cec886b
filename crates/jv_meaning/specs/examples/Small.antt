-- Small programs and what they mean: operators, fields, switches, loops and budgets.
use Rattle.std.specs.Prelude.{◌≡◌, true, false, [], ◌∷◌, Some, None, pos, negsuc, codes}
use Rattle.mg_text.specs.Places.{start_of}
use Rattle.mg_text.specs.declared.place.Place.{Place}
use Rattle.mg_text.specs.declared.event.Event.TheVariants.{Made, Enter, Leave}
use Rattle.mg_text.specs.declared.event.Event.TheVariants.{Print as Printed}
use Rattle.ts_tree.specs.declared.parts.TypeName.TheVariants as types
use Rattle.jv_tree.specs.declared.tree.Op.TheVariants as ops
use Rattle.jv_tree.specs.Source.{Int, Truth, Text, Null, This, Variable, Member, Neg, Binary, Call, MethodCall, New, NoExpr, Argument}
use Rattle.jv_tree.specs.Source.{Block, Local, Assign, If, While, Do, Switch, Break, Continue, Print, Eval}
use Rattle.jv_tree.specs.Source.{NoStmt, Then, NoGroup, Group, Method, Class, Enum, ClassDecl, EnumDecl}
use Rattle.jv_values.specs.Values.{Done, Zero, More}
use Rattle.jv_meaning.specs.Program.{Sources}
use Rattle.jv_meaning.specs.Meaning.{mean}

-- all places may be one: they mean nothing
abbrev p : Place
p = start_of 0

-- class Main { public static void main(String[] args) {
--   System.out.println(false && 1 / 0 == 0);
--   System.out.println(true || 1 / 0 == 0);
-- } }
abbrev skips_main_main : Method
skips_main_main = record {
  place = p;
  end = p;
  is_static = true;
  result = types.Void;
  name = codes "main";
  params = [];
  takes_args = true;
  body = Then (Print p
      (Binary p ops.And (Truth p false)
      (Binary p ops.Eq (Binary p ops.Div (Int p (pos 1)) (Int p (pos 0))) (Int p (pos 0)))))
      (Then (Print p
      (Binary p ops.Or (Truth p true)
      (Binary p ops.Eq (Binary p ops.Div (Int p (pos 1)) (Int p (pos 0))) (Int p (pos 0)))))
      NoStmt);
}

abbrev skips_main : Class
skips_main = record {
  place = p;
  name = codes "Main";
  typestate = None;
  fields = [];
  methods = skips_main_main ∷ [];
}

-- the file
abbrev skips_program : Sources
skips_program = (ClassDecl skips_main ∷ []) ∷ []

-- the second operand isn't evaluated where the first decides
abbrev pub skips_the_second_operand : Type 0
skips_the_second_operand = mean skips_program (codes "Main") [] 0 ≡ record {
  events =
      Printed (codes "false") ∷
      Printed (codes "true") ∷
      [];
  finish = Done;
}

-- @Typestate("Shown") class Item {
--   int number;
--   boolean truth;
--   Item next;
--   int written = -3;
--   String text = "none";
--   public void show() {
--     System.out.println(number);
--     System.out.println(truth);
--     System.out.println(next == null);
--     System.out.println(this.text + written);
--   }
-- }
-- class Main { public static void main(String[] args) { Item item = new Item(); item.show(); } }
abbrev defaults_item_show : Method
defaults_item_show = record {
  place = p;
  end = p;
  is_static = false;
  result = types.Void;
  name = codes "show";
  params = [];
  takes_args = false;
  body = Then (Print p (Variable p (codes "number")))
      (Then (Print p (Variable p (codes "truth")))
      (Then (Print p (Binary p ops.Eq (Variable p (codes "next")) (Null p)))
      (Then (Print p (Binary p ops.Add (Member p (This p) (codes "text")) (Variable p (codes "written")))) NoStmt)));
}

abbrev defaults_item : Class
defaults_item = record {
  place = p;
  name = codes "Item";
  typestate = Some (codes "Shown");
  fields =
      record { place = p; ty = types.Int; name = codes "number"; value = None } ∷
      record { place = p; ty = types.Boolean; name = codes "truth"; value = None } ∷
      record { place = p; ty = types.Named (codes "Item"); name = codes "next"; value = None } ∷
      record { place = p; ty = types.Int; name = codes "written"; value = Some (Int p (negsuc 2)) } ∷
      record { place = p; ty = types.Text; name = codes "text"; value = Some (Text p (codes "none")) } ∷
      [];
  methods = defaults_item_show ∷ [];
}

abbrev defaults_main_main : Method
defaults_main_main = record {
  place = p;
  end = p;
  is_static = true;
  result = types.Void;
  name = codes "main";
  params = [];
  takes_args = true;
  body = Then (Local p (types.Named (codes "Item")) (codes "item") (New p (codes "Item")))
      (Then (Eval p (MethodCall p (Variable p (codes "item")) (codes "show") NoExpr)) NoStmt);
}

abbrev defaults_main : Class
defaults_main = record {
  place = p;
  name = codes "Main";
  typestate = None;
  fields = [];
  methods = defaults_main_main ∷ [];
}

-- the file
abbrev defaults_program : Sources
defaults_program = (ClassDecl defaults_item ∷ ClassDecl defaults_main ∷ []) ∷ []

-- a field without a written constant begins with 0, false or null
abbrev pub fields_begin_with_defaults : Type 0
fields_begin_with_defaults = mean defaults_program (codes "Main") [] 1 ≡ record {
  events =
      Made 0 (codes "Item") ∷
      Enter 0 (codes "show") ∷
      Printed (codes "0") ∷
      Printed (codes "false") ∷
      Printed (codes "true") ∷
      Printed (codes "none-3") ∷
      Leave 0 None ∷
      [];
  finish = Done;
}

-- class Main { public static void main(String[] args) {
--   int least = -2147483648;
--   System.out.println(least / -1);
--   System.out.println(least % -1);
--   System.out.println(-least);
--   System.out.println(least - 1);
-- } }
abbrev least_main_main : Method
least_main_main = record {
  place = p;
  end = p;
  is_static = true;
  result = types.Void;
  name = codes "main";
  params = [];
  takes_args = true;
  body = Then (Local p types.Int (codes "least") (Int p (negsuc 2147483647)))
      (Then (Print p (Binary p ops.Div (Variable p (codes "least")) (Int p (negsuc 0))))
      (Then (Print p (Binary p ops.Rem (Variable p (codes "least")) (Int p (negsuc 0))))
      (Then (Print p (Neg p (Variable p (codes "least"))))
      (Then (Print p (Binary p ops.Sub (Variable p (codes "least")) (Int p (pos 1)))) NoStmt))));
}

abbrev least_main : Class
least_main = record {
  place = p;
  name = codes "Main";
  typestate = None;
  fields = [];
  methods = least_main_main ∷ [];
}

-- the file
abbrev least_program : Sources
least_program = (ClassDecl least_main ∷ []) ∷ []

-- the least int by -1 is itself, with remainder 0
abbrev pub least_int_wraps : Type 0
least_int_wraps = mean least_program (codes "Main") [] 0 ≡ record {
  events =
      Printed (codes "-2147483648") ∷
      Printed (codes "0") ∷
      Printed (codes "-2147483648") ∷
      Printed (codes "2147483647") ∷
      [];
  finish = Done;
}

-- enum Letter { A, B, C, D }
-- class Main {
--   static void tell(Letter letter) {
--     switch (letter) {
--       case A: String first = "a"; System.out.println(first);
--       case B: case C: System.out.println("b or c"); break;
--       default: System.out.println("other");
--     }
--   }
--   public static void main(String[] args) { tell(Letter.A); Main.tell(Letter.C); tell(Letter.D); }
-- }
abbrev falls_letter : Enum
falls_letter = record { place = p; name = codes "Letter"; constants = codes "A" ∷ codes "B" ∷ codes "C" ∷ codes "D" ∷ [] }

abbrev falls_main_tell : Method
falls_main_tell = record {
  place = p;
  end = p;
  is_static = true;
  result = types.Void;
  name = codes "tell";
  params = record { place = p; ty = types.Named (codes "Letter"); name = codes "letter" } ∷ [];
  takes_args = false;
  body = Then (Switch p (Variable p (codes "letter"))
      (Group (Some (codes "A") ∷ []) (Then (Local p types.Text (codes "first") (Text p (codes "a")))
      (Then (Print p (Variable p (codes "first"))) NoStmt)) p
      (Group (Some (codes "B") ∷ Some (codes "C") ∷ []) (Then (Print p (Text p (codes "b or c"))) (Then (Break p None) NoStmt)) p
      (Group (None ∷ []) (Then (Print p (Text p (codes "other"))) NoStmt) p NoGroup))) p)
      NoStmt;
}

abbrev falls_main_main : Method
falls_main_main = record {
  place = p;
  end = p;
  is_static = true;
  result = types.Void;
  name = codes "main";
  params = [];
  takes_args = true;
  body = Then (Eval p (Call p (codes "tell") (Argument (Member p (Variable p (codes "Letter")) (codes "A")) NoExpr)))
      (Then (Eval p
      (MethodCall p (Variable p (codes "Main")) (codes "tell")
      (Argument (Member p (Variable p (codes "Letter")) (codes "C")) NoExpr)))
      (Then (Eval p (Call p (codes "tell") (Argument (Member p (Variable p (codes "Letter")) (codes "D")) NoExpr))) NoStmt));
}

abbrev falls_main : Class
falls_main = record {
  place = p;
  name = codes "Main";
  typestate = None;
  fields = [];
  methods = falls_main_tell ∷ falls_main_main ∷ [];
}

-- the file
abbrev falls_program : Sources
falls_program = (EnumDecl falls_letter ∷ ClassDecl falls_main ∷ []) ∷ []

-- a group that completes goes on with the next one
abbrev pub a_switch_falls_through : Type 0
a_switch_falls_through = mean falls_program (codes "Main") [] 1 ≡ record {
  events =
      Printed (codes "a") ∷
      Printed (codes "b or c") ∷
      Printed (codes "b or c") ∷
      Printed (codes "other") ∷
      [];
  finish = Done;
}

-- enum Letter { A, B }
-- class Main { public static void main(String[] args) {
--   int i = 0;
--   loop: while (i < 3) {
--     i++;
--     switch (Letter.B) { case A: break; case B: if (i == 2) { continue loop; } System.out.println(i); }
--     System.out.println("behind");
--   }
-- } }
abbrev continues_letter : Enum
continues_letter = record { place = p; name = codes "Letter"; constants = codes "A" ∷ codes "B" ∷ [] }

abbrev continues_main_main : Method
continues_main_main = record {
  place = p;
  end = p;
  is_static = true;
  result = types.Void;
  name = codes "main";
  params = [];
  takes_args = true;
  body = Then (Local p types.Int (codes "i") (Int p (pos 0)))
      (Then (While p (Some (codes "loop")) (Binary p ops.Lt (Variable p (codes "i")) (Int p (pos 3)))
      (Block p
      (Then (Assign p (Variable p (codes "i")) (Binary p ops.Add (Variable p (codes "i")) (Int p (pos 1))))
      (Then (Switch p (Member p (Variable p (codes "Letter")) (codes "B"))
      (Group (Some (codes "A") ∷ []) (Then (Break p None) NoStmt) p
      (Group (Some (codes "B") ∷ []) (Then (If p (Binary p ops.Eq (Variable p (codes "i")) (Int p (pos 2)))
      (Block p (Then (Continue p (Some (codes "loop"))) NoStmt) p))
      (Then (Print p (Variable p (codes "i"))) NoStmt)) p
      NoGroup)) p)
      (Then (Print p (Text p (codes "behind"))) NoStmt))) p))
      NoStmt);
}

abbrev continues_main : Class
continues_main = record {
  place = p;
  name = codes "Main";
  typestate = None;
  fields = [];
  methods = continues_main_main ∷ [];
}

-- the file
abbrev continues_program : Sources
continues_program = (EnumDecl continues_letter ∷ ClassDecl continues_main ∷ []) ∷ []

-- a labelled `continue` leaves the switch and goes on with the loop
abbrev pub continues_out_of_a_switch : Type 0
continues_out_of_a_switch = mean continues_program (codes "Main") [] 3 ≡ record {
  events =
      Printed (codes "1") ∷
      Printed (codes "behind") ∷
      Printed (codes "3") ∷
      Printed (codes "behind") ∷
      [];
  finish = Done;
}

-- class Main {
--   static void f() { System.out.println("in"); }
--   public static void main(String[] args) { System.out.println("before"); f(); }
-- }
abbrev calls_main_f : Method
calls_main_f = record {
  place = p;
  end = p;
  is_static = true;
  result = types.Void;
  name = codes "f";
  params = [];
  takes_args = false;
  body = Then (Print p (Text p (codes "in"))) NoStmt;
}

abbrev calls_main_main : Method
calls_main_main = record {
  place = p;
  end = p;
  is_static = true;
  result = types.Void;
  name = codes "main";
  params = [];
  takes_args = true;
  body = Then (Print p (Text p (codes "before"))) (Then (Eval p (Call p (codes "f") NoExpr)) NoStmt);
}

abbrev calls_main : Class
calls_main = record {
  place = p;
  name = codes "Main";
  typestate = None;
  fields = [];
  methods = calls_main_f ∷ calls_main_main ∷ [];
}

-- the file
abbrev calls_program : Sources
calls_program = (ClassDecl calls_main ∷ []) ∷ []

-- a call needs a budget
abbrev pub a_call_spends_the_budget : Type 0
a_call_spends_the_budget = mean calls_program (codes "Main") [] 0 ≡ record {
  events =
      Printed (codes "before") ∷
      [];
  finish = More;
}

-- with one it is done
abbrev pub a_call_has_a_budget : Type 0
a_call_has_a_budget = mean calls_program (codes "Main") [] 1 ≡ record {
  events =
      Printed (codes "before") ∷
      Printed (codes "in") ∷
      [];
  finish = Done;
}

-- class Main { public static void main(String[] args) { while (true) { System.out.println("turn"); } } }
abbrev turns_main_main : Method
turns_main_main = record {
  place = p;
  end = p;
  is_static = true;
  result = types.Void;
  name = codes "main";
  params = [];
  takes_args = true;
  body = Then (While p None (Truth p true) (Block p (Then (Print p (Text p (codes "turn"))) NoStmt) p)) NoStmt;
}

abbrev turns_main : Class
turns_main = record {
  place = p;
  name = codes "Main";
  typestate = None;
  fields = [];
  methods = turns_main_main ∷ [];
}

-- the file
abbrev turns_program : Sources
turns_program = (ClassDecl turns_main ∷ []) ∷ []

-- the first turn needs no budget, and each later one needs one
abbrev pub a_loop_spends_the_budget : Type 0
a_loop_spends_the_budget = mean turns_program (codes "Main") [] 2 ≡ record {
  events =
      Printed (codes "turn") ∷
      Printed (codes "turn") ∷
      Printed (codes "turn") ∷
      [];
  finish = More;
}

-- class Main { public static void main(String[] args) { int i = 0; do { System.out.println(i); i = i + 1; } while (i < 2); } }
abbrev do_turns_main_main : Method
do_turns_main_main = record {
  place = p;
  end = p;
  is_static = true;
  result = types.Void;
  name = codes "main";
  params = [];
  takes_args = true;
  body = Then (Local p types.Int (codes "i") (Int p (pos 0)))
      (Then (Do p None
      (Block p
      (Then (Print p (Variable p (codes "i")))
      (Then (Assign p (Variable p (codes "i")) (Binary p ops.Add (Variable p (codes "i")) (Int p (pos 1))))
      NoStmt)) p)
      (Binary p ops.Lt (Variable p (codes "i")) (Int p (pos 2))))
      NoStmt);
}

abbrev do_turns_main : Class
do_turns_main = record {
  place = p;
  name = codes "Main";
  typestate = None;
  fields = [];
  methods = do_turns_main_main ∷ [];
}

-- the file
abbrev do_turns_program : Sources
do_turns_program = (ClassDecl do_turns_main ∷ []) ∷ []

-- the test of a `do` is evaluated before the budget of the next turn is needed
abbrev pub a_do_loop_spends_the_budget : Type 0
a_do_loop_spends_the_budget = mean do_turns_program (codes "Main") [] 0 ≡ record {
  events =
      Printed (codes "0") ∷
      [];
  finish = More;
}

-- and where it is false no budget is needed
abbrev pub a_do_loop_ends : Type 0
a_do_loop_ends = mean do_turns_program (codes "Main") [] 1 ≡ record {
  events =
      Printed (codes "0") ∷
      Printed (codes "1") ∷
      [];
  finish = Done;
}

-- @Typestate("Any") class Thing { public void use(int n) { } }
-- class Main { public static void main(String[] args) { Thing thing = null; thing.use(1 / 0); } }
abbrev null_thing_use : Method
null_thing_use = record {
  place = p;
  end = p;
  is_static = false;
  result = types.Void;
  name = codes "use";
  params = record { place = p; ty = types.Int; name = codes "n" } ∷ [];
  takes_args = false;
  body = NoStmt;
}

abbrev null_thing : Class
null_thing = record {
  place = p;
  name = codes "Thing";
  typestate = Some (codes "Any");
  fields = [];
  methods = null_thing_use ∷ [];
}

abbrev null_main_main : Method
null_main_main = record {
  place = p;
  end = p;
  is_static = true;
  result = types.Void;
  name = codes "main";
  params = [];
  takes_args = true;
  body = Then (Local p (types.Named (codes "Thing")) (codes "thing") (Null p))
      (Then (Eval p
      (MethodCall p (Variable p (codes "thing")) (codes "use")
      (Argument (Binary p ops.Div (Int p (pos 1)) (Int p (pos 0))) NoExpr)))
      NoStmt);
}

abbrev null_main : Class
null_main = record {
  place = p;
  name = codes "Main";
  typestate = None;
  fields = [];
  methods = null_main_main ∷ [];
}

-- the file
abbrev null_program : Sources
null_program = (ClassDecl null_thing ∷ ClassDecl null_main ∷ []) ∷ []

-- the arguments of a call on null are evaluated first
abbrev pub arguments_come_before_the_null_test : Type 0
arguments_come_before_the_null_test = mean null_program (codes "Main") [] 5 ≡ record {
  events =
      [];
  finish = Zero;
}

-- all of these
pub record All : Type 0 where
  pub skips_the_second_operand_holds : skips_the_second_operand
  pub fields_begin_with_defaults_holds : fields_begin_with_defaults
  pub least_int_wraps_holds : least_int_wraps
  pub a_switch_falls_through_holds : a_switch_falls_through
  pub continues_out_of_a_switch_holds : continues_out_of_a_switch
  pub a_call_spends_the_budget_holds : a_call_spends_the_budget
  pub a_call_has_a_budget_holds : a_call_has_a_budget
  pub a_loop_spends_the_budget_holds : a_loop_spends_the_budget
  pub a_do_loop_spends_the_budget_holds : a_do_loop_spends_the_budget
  pub a_do_loop_ends_holds : a_do_loop_ends
  pub arguments_come_before_the_null_test_holds : arguments_come_before_the_null_test
