-- Whole programs and what they mean: a file reader, a counter, a linked list, and arithmetic.
use Rattle.std.specs.Prelude.{◌≡◌, true, false, [], ◌∷◌, Some, None, pos, negsuc, codes}
use Rattle.mg_text.specs.Places.{start_of}
use Rattle.mg_text.specs.declared.place.Place.{Place}
use Rattle.mg_text.specs.declared.event.Event.TheVariants.{Made, Enter, Leave}
use Rattle.mg_text.specs.declared.event.Event.TheVariants.{Print as Printed}
use Rattle.ts_tree.specs.declared.parts.TypeName.TheVariants as types
use Rattle.jv_tree.specs.declared.tree.Op.TheVariants as ops
use Rattle.jv_tree.specs.Source.{Int, Truth, Text, Null, Variable, Member, Binary, Call, MethodCall, New, NoExpr, Argument}
use Rattle.jv_tree.specs.Source.{Block, Local, Assign, If, While, Do, Switch, Break, Continue, Return, Print, Eval}
use Rattle.jv_tree.specs.Source.{NoStmt, Then, NoGroup, Group, Method, Class, Enum, ClassDecl, EnumDecl}
use Rattle.jv_values.specs.Values.{Done, Zero}
use Rattle.jv_meaning.specs.Program.{Sources}
use Rattle.jv_meaning.specs.Meaning.{mean}

-- all places may be one: they mean nothing
abbrev p : Place
p = start_of 0

-- enum FileStatus { OK, ERROR }
-- enum BooleanEnum { TRUE, FALSE }
-- @Typestate("FileProtocol") class File {
--   private int left = 0;
--   public FileStatus open() { left = 2; return FileStatus.OK; }
--   public BooleanEnum hasNext() {
--     if (left > 0) { return BooleanEnum.TRUE; }
--     return BooleanEnum.FALSE;
--   }
--   public void read() { System.out.println("line " + left); left--; }
--   public void close() { System.out.println("closed"); }
-- }
-- class Main {
--   public static void main(String[] args) {
--     File f = new File();
--     switch (f.open()) {
--       case OK:
--         loop: do {
--           switch (f.hasNext()) {
--             case TRUE: f.read(); continue loop;
--             case FALSE: f.close(); break loop;
--           }
--         } while (true);
--         break;
--       case ERROR: break;
--     }
--   }
-- }
abbrev reader_file_status : Enum
reader_file_status = record { place = p; name = codes "FileStatus"; constants = codes "OK" ∷ codes "ERROR" ∷ [] }

abbrev reader_boolean_enum : Enum
reader_boolean_enum = record { place = p; name = codes "BooleanEnum"; constants = codes "TRUE" ∷ codes "FALSE" ∷ [] }

abbrev reader_file_open : Method
reader_file_open = record {
  place = p;
  end = p;
  is_static = false;
  result = (types.Named (codes "FileStatus"));
  name = codes "open";
  params = [];
  takes_args = false;
  body = Then (Assign p (Variable p (codes "left")) (Int p (pos 2)))
      (Then (Return p (Some (Member p (Variable p (codes "FileStatus")) (codes "OK")))) NoStmt);
}

abbrev reader_file_hasnext : Method
reader_file_hasnext = record {
  place = p;
  end = p;
  is_static = false;
  result = (types.Named (codes "BooleanEnum"));
  name = codes "hasNext";
  params = [];
  takes_args = false;
  body = Then (If p (Binary p ops.Gt (Variable p (codes "left")) (Int p (pos 0)))
      (Block p (Then (Return p (Some (Member p (Variable p (codes "BooleanEnum")) (codes "TRUE")))) NoStmt) p))
      (Then (Return p (Some (Member p (Variable p (codes "BooleanEnum")) (codes "FALSE")))) NoStmt);
}

abbrev reader_file_read : Method
reader_file_read = record {
  place = p;
  end = p;
  is_static = false;
  result = types.Void;
  name = codes "read";
  params = [];
  takes_args = false;
  body = Then (Print p (Binary p ops.Add (Text p (codes "line ")) (Variable p (codes "left"))))
      (Then (Assign p (Variable p (codes "left")) (Binary p ops.Sub (Variable p (codes "left")) (Int p (pos 1)))) NoStmt);
}

abbrev reader_file_close : Method
reader_file_close = record {
  place = p;
  end = p;
  is_static = false;
  result = types.Void;
  name = codes "close";
  params = [];
  takes_args = false;
  body = Then (Print p (Text p (codes "closed"))) NoStmt;
}

abbrev reader_file : Class
reader_file = record {
  place = p;
  name = codes "File";
  typestate = Some (codes "FileProtocol");
  fields = record { place = p; ty = types.Int; name = codes "left"; value = Some (Int p (pos 0)) } ∷ [];
  methods = reader_file_open ∷ reader_file_hasnext ∷ reader_file_read ∷ reader_file_close ∷ [];
}

abbrev reader_main_main : Method
reader_main_main = record {
  place = p;
  end = p;
  is_static = true;
  result = types.Void;
  name = codes "main";
  params = [];
  takes_args = true;
  body = Then (Local p (types.Named (codes "File")) (codes "f") (New p (codes "File")))
      (Then (Switch p (MethodCall p (Variable p (codes "f")) (codes "open") NoExpr)
      (Group (Some (codes "OK") ∷ []) (Then (Do p (Some (codes "loop"))
      (Block p
      (Then (Switch p (MethodCall p (Variable p (codes "f")) (codes "hasNext") NoExpr)
      (Group (Some (codes "TRUE") ∷ []) (Then (Eval p (MethodCall p (Variable p (codes "f")) (codes "read") NoExpr))
      (Then (Continue p (Some (codes "loop"))) NoStmt)) p
      (Group (Some (codes "FALSE") ∷ []) (Then (Eval p (MethodCall p (Variable p (codes "f")) (codes "close") NoExpr))
      (Then (Break p (Some (codes "loop"))) NoStmt)) p
      NoGroup)) p)
      NoStmt) p)
      (Truth p true))
      (Then (Break p None) NoStmt)) p
      (Group (Some (codes "ERROR") ∷ []) (Then (Break p None) NoStmt) p NoGroup)) p)
      NoStmt);
}

abbrev reader_main : Class
reader_main = record {
  place = p;
  name = codes "Main";
  typestate = None;
  fields = [];
  methods = reader_main_main ∷ [];
}

-- the file
abbrev pub reader_program : Sources
reader_program = (
    EnumDecl reader_file_status ∷
    EnumDecl reader_boolean_enum ∷
    ClassDecl reader_file ∷
    ClassDecl reader_main ∷
    []) ∷ []

-- two lines are read, and the file is closed
abbrev pub the_file_reader : Type 0
the_file_reader = mean reader_program (codes "Main") [] 3 ≡ record {
  events =
      Made 0 (codes "File") ∷
      Enter 0 (codes "open") ∷
      Leave 0 (Some (pos 0)) ∷
      Enter 0 (codes "hasNext") ∷
      Leave 0 (Some (pos 0)) ∷
      Enter 0 (codes "read") ∷
      Printed (codes "line 2") ∷
      Leave 0 None ∷
      Enter 0 (codes "hasNext") ∷
      Leave 0 (Some (pos 0)) ∷
      Enter 0 (codes "read") ∷
      Printed (codes "line 1") ∷
      Leave 0 None ∷
      Enter 0 (codes "hasNext") ∷
      Leave 0 (Some (pos 1)) ∷
      Enter 0 (codes "close") ∷
      Printed (codes "closed") ∷
      Leave 0 None ∷
      [];
  finish = Done;
}

-- @Typestate("CounterProtocol") class Counter {
--   int n = 0;
--   public void tick() { n = n + 1; System.out.println(n); }
--   public void add(int k) { n = n + k; }
--   public void stop() { System.out.println("stop " + n); }
-- }
-- class Main {
--   static Counter step(Counter c, int n) {
--     if (n > 0) { c.tick(); return step(c, n - 1); }
--     return c;
--   }
--   public static void main(String[] args) {
--     Counter x = new Counter();
--     int i = 0;
--     while (i < 2) { x = step(x, i); i = i + 1; }
--     x.stop();
--   }
-- }
abbrev counter_counter_tick : Method
counter_counter_tick = record {
  place = p;
  end = p;
  is_static = false;
  result = types.Void;
  name = codes "tick";
  params = [];
  takes_args = false;
  body = Then (Assign p (Variable p (codes "n")) (Binary p ops.Add (Variable p (codes "n")) (Int p (pos 1))))
      (Then (Print p (Variable p (codes "n"))) NoStmt);
}

abbrev counter_counter_add : Method
counter_counter_add = record {
  place = p;
  end = p;
  is_static = false;
  result = types.Void;
  name = codes "add";
  params = record { place = p; ty = types.Int; name = codes "k" } ∷ [];
  takes_args = false;
  body = Then (Assign p (Variable p (codes "n")) (Binary p ops.Add (Variable p (codes "n")) (Variable p (codes "k")))) NoStmt;
}

abbrev counter_counter_stop : Method
counter_counter_stop = record {
  place = p;
  end = p;
  is_static = false;
  result = types.Void;
  name = codes "stop";
  params = [];
  takes_args = false;
  body = Then (Print p (Binary p ops.Add (Text p (codes "stop ")) (Variable p (codes "n")))) NoStmt;
}

abbrev counter_counter : Class
counter_counter = record {
  place = p;
  name = codes "Counter";
  typestate = Some (codes "CounterProtocol");
  fields = record { place = p; ty = types.Int; name = codes "n"; value = Some (Int p (pos 0)) } ∷ [];
  methods = counter_counter_tick ∷ counter_counter_add ∷ counter_counter_stop ∷ [];
}

abbrev counter_main_step : Method
counter_main_step = record {
  place = p;
  end = p;
  is_static = true;
  result = (types.Named (codes "Counter"));
  name = codes "step";
  params =
      record { place = p; ty = types.Named (codes "Counter"); name = codes "c" } ∷
      record { place = p; ty = types.Int; name = codes "n" } ∷
      [];
  takes_args = false;
  body = Then (If p (Binary p ops.Gt (Variable p (codes "n")) (Int p (pos 0)))
      (Block p
      (Then (Eval p (MethodCall p (Variable p (codes "c")) (codes "tick") NoExpr))
      (Then (Return p
      (Some
      (Call p (codes "step")
      (Argument (Variable p (codes "c"))
      (Argument (Binary p ops.Sub (Variable p (codes "n")) (Int p (pos 1))) NoExpr)))))
      NoStmt)) p))
      (Then (Return p (Some (Variable p (codes "c")))) NoStmt);
}

abbrev counter_main_main : Method
counter_main_main = record {
  place = p;
  end = p;
  is_static = true;
  result = types.Void;
  name = codes "main";
  params = [];
  takes_args = true;
  body = Then (Local p (types.Named (codes "Counter")) (codes "x") (New p (codes "Counter")))
      (Then (Local p types.Int (codes "i") (Int p (pos 0)))
      (Then (While p None (Binary p ops.Lt (Variable p (codes "i")) (Int p (pos 2)))
      (Block p
      (Then (Assign p (Variable p (codes "x"))
      (Call p (codes "step")
      (Argument (Variable p (codes "x")) (Argument (Variable p (codes "i")) NoExpr))))
      (Then (Assign p (Variable p (codes "i")) (Binary p ops.Add (Variable p (codes "i")) (Int p (pos 1))))
      NoStmt)) p))
      (Then (Eval p (MethodCall p (Variable p (codes "x")) (codes "stop") NoExpr)) NoStmt)));
}

abbrev counter_main : Class
counter_main = record {
  place = p;
  name = codes "Main";
  typestate = None;
  fields = [];
  methods = counter_main_step ∷ counter_main_main ∷ [];
}

-- the file
abbrev counter_program : Sources
counter_program = (ClassDecl counter_counter ∷ ClassDecl counter_main ∷ []) ∷ []

-- a counter goes through calls of a method that calls itself
abbrev pub the_counter : Type 0
the_counter = mean counter_program (codes "Main") [] 3 ≡ record {
  events =
      Made 0 (codes "Counter") ∷
      Enter 0 (codes "tick") ∷
      Printed (codes "1") ∷
      Leave 0 None ∷
      Enter 0 (codes "stop") ∷
      Printed (codes "stop 1") ∷
      Leave 0 None ∷
      [];
  finish = Done;
}

-- @Typestate("NodeProtocol") class Node {
--   int v = 0;
--   Node next;
--   public void link(int k, Node n) { v = k; next = n; }
--   public void close() {
--     if (next != null) { next.close(); }
--     System.out.println("closed " + v);
--   }
-- }
-- class Main {
--   public static void main(String[] args) {
--     Node a = null;
--     int i = 0;
--     while (i < 3) { Node b = new Node(); b.link(i, a); a = b; i++; }
--     if (a != null) { a.close(); }
--   }
-- }
abbrev list_node_link : Method
list_node_link = record {
  place = p;
  end = p;
  is_static = false;
  result = types.Void;
  name = codes "link";
  params =
      record { place = p; ty = types.Int; name = codes "k" } ∷
      record { place = p; ty = types.Named (codes "Node"); name = codes "n" } ∷
      [];
  takes_args = false;
  body = Then (Assign p (Variable p (codes "v")) (Variable p (codes "k")))
      (Then (Assign p (Variable p (codes "next")) (Variable p (codes "n"))) NoStmt);
}

abbrev list_node_close : Method
list_node_close = record {
  place = p;
  end = p;
  is_static = false;
  result = types.Void;
  name = codes "close";
  params = [];
  takes_args = false;
  body = Then (If p (Binary p ops.Ne (Variable p (codes "next")) (Null p))
      (Block p (Then (Eval p (MethodCall p (Variable p (codes "next")) (codes "close") NoExpr)) NoStmt) p))
      (Then (Print p (Binary p ops.Add (Text p (codes "closed ")) (Variable p (codes "v")))) NoStmt);
}

abbrev list_node : Class
list_node = record {
  place = p;
  name = codes "Node";
  typestate = Some (codes "NodeProtocol");
  fields =
      record { place = p; ty = types.Int; name = codes "v"; value = Some (Int p (pos 0)) } ∷
      record { place = p; ty = types.Named (codes "Node"); name = codes "next"; value = None } ∷
      [];
  methods = list_node_link ∷ list_node_close ∷ [];
}

abbrev list_main_main : Method
list_main_main = record {
  place = p;
  end = p;
  is_static = true;
  result = types.Void;
  name = codes "main";
  params = [];
  takes_args = true;
  body = Then (Local p (types.Named (codes "Node")) (codes "a") (Null p))
      (Then (Local p types.Int (codes "i") (Int p (pos 0)))
      (Then (While p None (Binary p ops.Lt (Variable p (codes "i")) (Int p (pos 3)))
      (Block p
      (Then (Local p (types.Named (codes "Node")) (codes "b") (New p (codes "Node")))
      (Then (Eval p
      (MethodCall p (Variable p (codes "b")) (codes "link")
      (Argument (Variable p (codes "i")) (Argument (Variable p (codes "a")) NoExpr))))
      (Then (Assign p (Variable p (codes "a")) (Variable p (codes "b")))
      (Then (Assign p (Variable p (codes "i")) (Binary p ops.Add (Variable p (codes "i")) (Int p (pos 1))))
      NoStmt)))) p))
      (Then (If p (Binary p ops.Ne (Variable p (codes "a")) (Null p))
      (Block p (Then (Eval p (MethodCall p (Variable p (codes "a")) (codes "close") NoExpr)) NoStmt) p))
      NoStmt)));
}

abbrev list_main : Class
list_main = record {
  place = p;
  name = codes "Main";
  typestate = None;
  fields = [];
  methods = list_main_main ∷ [];
}

-- the file
abbrev list_program : Sources
list_program = (ClassDecl list_node ∷ ClassDecl list_main ∷ []) ∷ []

-- each node closes the one behind it first
abbrev pub the_linked_list : Type 0
the_linked_list = mean list_program (codes "Main") [] 3 ≡ record {
  events =
      Made 0 (codes "Node") ∷
      Enter 0 (codes "link") ∷
      Leave 0 None ∷
      Made 1 (codes "Node") ∷
      Enter 1 (codes "link") ∷
      Leave 1 None ∷
      Made 2 (codes "Node") ∷
      Enter 2 (codes "link") ∷
      Leave 2 None ∷
      Enter 2 (codes "close") ∷
      Enter 1 (codes "close") ∷
      Enter 0 (codes "close") ∷
      Printed (codes "closed 0") ∷
      Leave 0 None ∷
      Printed (codes "closed 1") ∷
      Leave 1 None ∷
      Printed (codes "closed 2") ∷
      Leave 2 None ∷
      [];
  finish = Done;
}

-- class Main {
--   public static void main(String[] args) {
--     System.out.println(-2147483648 / -1);
--     System.out.println(-7 / 2);
--     System.out.println(-7 % 2);
--     System.out.println(1 / 0);
--   }
-- }
abbrev arithmetic_main_main : Method
arithmetic_main_main = record {
  place = p;
  end = p;
  is_static = true;
  result = types.Void;
  name = codes "main";
  params = [];
  takes_args = true;
  body = Then (Print p (Binary p ops.Div (Int p (negsuc 2147483647)) (Int p (negsuc 0))))
      (Then (Print p (Binary p ops.Div (Int p (negsuc 6)) (Int p (pos 2))))
      (Then (Print p (Binary p ops.Rem (Int p (negsuc 6)) (Int p (pos 2))))
      (Then (Print p (Binary p ops.Div (Int p (pos 1)) (Int p (pos 0)))) NoStmt)));
}

abbrev arithmetic_main : Class
arithmetic_main = record {
  place = p;
  name = codes "Main";
  typestate = None;
  fields = [];
  methods = arithmetic_main_main ∷ [];
}

-- the file
abbrev arithmetic_program : Sources
arithmetic_program = (ClassDecl arithmetic_main ∷ []) ∷ []

-- the run ends at the zero divisor
abbrev pub arithmetic : Type 0
arithmetic = mean arithmetic_program (codes "Main") [] 0 ≡ record {
  events =
      Printed (codes "-2147483648") ∷
      Printed (codes "-3") ∷
      Printed (codes "-1") ∷
      [];
  finish = Zero;
}

-- all of these
pub record All : Type 0 where
  pub the_file_reader_holds : the_file_reader
  pub the_counter_holds : the_counter
  pub the_linked_list_holds : the_linked_list
  pub arithmetic_holds : arithmetic
