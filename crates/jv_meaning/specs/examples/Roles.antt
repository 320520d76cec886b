-- Two roles that add numbers, each on the messages of the other.
use Rattle.std.specs.Prelude.{◌≡◌, ℕ, List, true, false, [], ◌∷◌, Some, None, pos, codes}
use Rattle.mg_text.specs.Places.{start_of}
use Rattle.mg_text.specs.declared.place.Place.{Place}
use Rattle.mg_text.specs.declared.event.Event.{Event}
use Rattle.mg_text.specs.declared.event.Event.TheVariants.{Made, Enter, Leave, Take, Look, Send}
use Rattle.mg_text.specs.declared.event.Event.TheVariants.{Print as Printed}
use Rattle.mg_text.specs.declared.event.Carried.TheVariants as carried
use Rattle.mg_text.specs.declared.event.Sent.{Sent}
use Rattle.ts_tree.specs.declared.parts.TypeName.TheVariants as types
use Rattle.jv_tree.specs.declared.tree.Op.TheVariants as ops
use Rattle.jv_tree.specs.Source.{Int, Truth, Text, Variable, Member, Binary, MethodCall, New, NoExpr, Argument}
use Rattle.jv_tree.specs.Source.{Block, Local, Assign, If, While, Do, Switch, Break, Continue, Return, Print, Eval}
use Rattle.jv_tree.specs.Source.{NoStmt, Then, NoGroup, Group, Method, Class, Enum, ClassDecl, EnumDecl}
use Rattle.jv_values.specs.Values.{Inputs, Done, NoPeer, Mismatch, Wait}
use Rattle.jv_meaning.specs.Program.{Sources}
use Rattle.jv_meaning.specs.Meaning.{mean}

-- all places may be one: they mean nothing
abbrev p : Place
p = start_of 0

-- @Typestate("CProtocol")
-- public class CRole {
--     public void send_addIntToS(int value) {
--         Session.sendInt("S", "add", value);
--     }
--     public int receive_totalIntFromS() {
--         return Session.takeInt("S", "total");
--     }
--     public void send_byeToS() {
--         Session.send("S", "bye");
--     }
-- }
-- class CMain {
--   public static void main(String[] args) {
--     CRole c = new CRole();
--     int i = 1;
--     int t = 0;
--     while (i <= 3) {
--       c.send_addIntToS(i);
--       t = c.receive_totalIntFromS();
--       System.out.println(t);
--       i = i + 1;
--     }
--     c.send_byeToS();
--   }
-- }
abbrev c_c_role_send_addinttos : Method
c_c_role_send_addinttos = record {
  place = p;
  end = p;
  is_static = false;
  result = types.Void;
  name = codes "send_addIntToS";
  params = record { place = p; ty = types.Int; name = codes "value" } ∷ [];
  takes_args = false;
  body = Then (Eval p
      (MethodCall p (Variable p (codes "Session")) (codes "sendInt")
      (Argument (Text p (codes "S"))
      (Argument (Text p (codes "add")) (Argument (Variable p (codes "value")) NoExpr)))))
      NoStmt;
}

abbrev c_c_role_receive_totalintfroms : Method
c_c_role_receive_totalintfroms = record {
  place = p;
  end = p;
  is_static = false;
  result = types.Int;
  name = codes "receive_totalIntFromS";
  params = [];
  takes_args = false;
  body = Then (Return p
      (Some
      (MethodCall p (Variable p (codes "Session")) (codes "takeInt")
      (Argument (Text p (codes "S")) (Argument (Text p (codes "total")) NoExpr)))))
      NoStmt;
}

abbrev c_c_role_send_byetos : Method
c_c_role_send_byetos = record {
  place = p;
  end = p;
  is_static = false;
  result = types.Void;
  name = codes "send_byeToS";
  params = [];
  takes_args = false;
  body = Then (Eval p
      (MethodCall p (Variable p (codes "Session")) (codes "send")
      (Argument (Text p (codes "S")) (Argument (Text p (codes "bye")) NoExpr))))
      NoStmt;
}

abbrev c_c_role : Class
c_c_role = record {
  place = p;
  name = codes "CRole";
  typestate = Some (codes "CProtocol");
  fields = [];
  methods = c_c_role_send_addinttos ∷ c_c_role_receive_totalintfroms ∷ c_c_role_send_byetos ∷ [];
}

abbrev c_c_main_main : Method
c_c_main_main = record {
  place = p;
  end = p;
  is_static = true;
  result = types.Void;
  name = codes "main";
  params = [];
  takes_args = true;
  body = Then (Local p (types.Named (codes "CRole")) (codes "c") (New p (codes "CRole")))
      (Then (Local p types.Int (codes "i") (Int p (pos 1)))
      (Then (Local p types.Int (codes "t") (Int p (pos 0)))
      (Then (While p None (Binary p ops.Le (Variable p (codes "i")) (Int p (pos 3)))
      (Block p
      (Then (Eval p
      (MethodCall p (Variable p (codes "c")) (codes "send_addIntToS")
      (Argument (Variable p (codes "i")) NoExpr)))
      (Then (Assign p (Variable p (codes "t"))
      (MethodCall p (Variable p (codes "c")) (codes "receive_totalIntFromS") NoExpr))
      (Then (Print p (Variable p (codes "t")))
      (Then (Assign p (Variable p (codes "i")) (Binary p ops.Add (Variable p (codes "i")) (Int p (pos 1))))
      NoStmt)))) p))
      (Then (Eval p (MethodCall p (Variable p (codes "c")) (codes "send_byeToS") NoExpr)) NoStmt))));
}

abbrev c_c_main : Class
c_c_main = record {
  place = p;
  name = codes "CMain";
  typestate = None;
  fields = [];
  methods = c_c_main_main ∷ [];
}

-- the file
abbrev c_program : Sources
c_program = (ClassDecl c_c_role ∷ ClassDecl c_c_main ∷ []) ∷ []

abbrev total : ℕ → Sent
total n = record { label = codes "total"; payload = carried.Int (pos n) }

abbrev from_s : Inputs
from_s = (codes "S", total 1 ∷ total 3 ∷ total 6 ∷ []) ∷ []

-- the client sends three numbers, and prints the totals that it gets
abbrev pub the_client : Type 0
the_client = mean c_program (codes "CMain") from_s 3 ≡ record {
  events =
      Made 0 (codes "CRole") ∷
      Enter 0 (codes "send_addIntToS") ∷
      Send (codes "S") (codes "add") (carried.Int (pos 1)) ∷
      Leave 0 None ∷
      Enter 0 (codes "receive_totalIntFromS") ∷
      Take (codes "S") (codes "total") (carried.Int (pos 1)) ∷
      Leave 0 (Some (pos 1)) ∷
      Printed (codes "1") ∷
      Enter 0 (codes "send_addIntToS") ∷
      Send (codes "S") (codes "add") (carried.Int (pos 2)) ∷
      Leave 0 None ∷
      Enter 0 (codes "receive_totalIntFromS") ∷
      Take (codes "S") (codes "total") (carried.Int (pos 3)) ∷
      Leave 0 (Some (pos 3)) ∷
      Printed (codes "3") ∷
      Enter 0 (codes "send_addIntToS") ∷
      Send (codes "S") (codes "add") (carried.Int (pos 3)) ∷
      Leave 0 None ∷
      Enter 0 (codes "receive_totalIntFromS") ∷
      Take (codes "S") (codes "total") (carried.Int (pos 6)) ∷
      Leave 0 (Some (pos 6)) ∷
      Printed (codes "6") ∷
      Enter 0 (codes "send_byeToS") ∷
      Send (codes "S") (codes "bye") carried.Nothing ∷
      Leave 0 None ∷
      [];
  finish = Done;
}

-- public enum SChoice1 { add, bye }
-- @Typestate("SProtocol")
-- public class SRole {
--     public SChoice1 receive_SChoice1LabelFromC() {
--         String found = Session.look("C");
--         if (found.equals("add")) {
--             return SChoice1.add;
--         }
--         if (found.equals("bye")) {
--             return SChoice1.bye;
--         }
--         Session.refuse("C", found);
--         return SChoice1.add;
--     }
--     public int receive_addIntFromC() {
--         return Session.takeInt("C", "add");
--     }
--     public void send_totalIntToC(int value) {
--         Session.sendInt("C", "total", value);
--     }
--     public void receive_byeFromC() {
--         Session.take("C", "bye");
--     }
-- }
-- class SMain {
--   public static void main(String[] args) {
--     SRole s = new SRole();
--     int sum = 0;
--     loop: do {
--       switch (s.receive_SChoice1LabelFromC()) {
--         case add:
--           sum = sum + s.receive_addIntFromC();
--           s.send_totalIntToC(sum);
--           continue loop;
--         case bye:
--           s.receive_byeFromC();
--           break loop;
--       }
--     } while (true);
--     System.out.println("sum " + sum);
--   }
-- }
abbrev s_s_choice1 : Enum
s_s_choice1 = record { place = p; name = codes "SChoice1"; constants = codes "add" ∷ codes "bye" ∷ [] }

abbrev s_s_role_receive_schoice1labelfromc : Method
s_s_role_receive_schoice1labelfromc = record {
  place = p;
  end = p;
  is_static = false;
  result = (types.Named (codes "SChoice1"));
  name = codes "receive_SChoice1LabelFromC";
  params = [];
  takes_args = false;
  body = Then (Local p types.Text (codes "found")
      (MethodCall p (Variable p (codes "Session")) (codes "look") (Argument (Text p (codes "C")) NoExpr)))
      (Then (If p (MethodCall p (Variable p (codes "found")) (codes "equals") (Argument (Text p (codes "add")) NoExpr))
      (Block p (Then (Return p (Some (Member p (Variable p (codes "SChoice1")) (codes "add")))) NoStmt) p))
      (Then (If p (MethodCall p (Variable p (codes "found")) (codes "equals") (Argument (Text p (codes "bye")) NoExpr))
      (Block p (Then (Return p (Some (Member p (Variable p (codes "SChoice1")) (codes "bye")))) NoStmt) p))
      (Then (Eval p
      (MethodCall p (Variable p (codes "Session")) (codes "refuse")
      (Argument (Text p (codes "C")) (Argument (Variable p (codes "found")) NoExpr))))
      (Then (Return p (Some (Member p (Variable p (codes "SChoice1")) (codes "add")))) NoStmt))));
}

abbrev s_s_role_receive_addintfromc : Method
s_s_role_receive_addintfromc = record {
  place = p;
  end = p;
  is_static = false;
  result = types.Int;
  name = codes "receive_addIntFromC";
  params = [];
  takes_args = false;
  body = Then (Return p
      (Some
      (MethodCall p (Variable p (codes "Session")) (codes "takeInt")
      (Argument (Text p (codes "C")) (Argument (Text p (codes "add")) NoExpr)))))
      NoStmt;
}

abbrev s_s_role_send_totalinttoc : Method
s_s_role_send_totalinttoc = record {
  place = p;
  end = p;
  is_static = false;
  result = types.Void;
  name = codes "send_totalIntToC";
  params = record { place = p; ty = types.Int; name = codes "value" } ∷ [];
  takes_args = false;
  body = Then (Eval p
      (MethodCall p (Variable p (codes "Session")) (codes "sendInt")
      (Argument (Text p (codes "C"))
      (Argument (Text p (codes "total")) (Argument (Variable p (codes "value")) NoExpr)))))
      NoStmt;
}

abbrev s_s_role_receive_byefromc : Method
s_s_role_receive_byefromc = record {
  place = p;
  end = p;
  is_static = false;
  result = types.Void;
  name = codes "receive_byeFromC";
  params = [];
  takes_args = false;
  body = Then (Eval p
      (MethodCall p (Variable p (codes "Session")) (codes "take")
      (Argument (Text p (codes "C")) (Argument (Text p (codes "bye")) NoExpr))))
      NoStmt;
}

abbrev s_s_role : Class
s_s_role = record {
  place = p;
  name = codes "SRole";
  typestate = Some (codes "SProtocol");
  fields = [];
  methods =
      s_s_role_receive_schoice1labelfromc ∷
      s_s_role_receive_addintfromc ∷
      s_s_role_send_totalinttoc ∷
      s_s_role_receive_byefromc ∷
      [];
}

abbrev s_s_main_main : Method
s_s_main_main = record {
  place = p;
  end = p;
  is_static = true;
  result = types.Void;
  name = codes "main";
  params = [];
  takes_args = true;
  body = Then (Local p (types.Named (codes "SRole")) (codes "s") (New p (codes "SRole")))
      (Then (Local p types.Int (codes "sum") (Int p (pos 0)))
      (Then (Do p (Some (codes "loop"))
      (Block p
      (Then (Switch p (MethodCall p (Variable p (codes "s")) (codes "receive_SChoice1LabelFromC") NoExpr)
      (Group (Some (codes "add") ∷ []) (Then (Assign p (Variable p (codes "sum"))
      (Binary p ops.Add (Variable p (codes "sum"))
      (MethodCall p (Variable p (codes "s")) (codes "receive_addIntFromC") NoExpr)))
      (Then (Eval p
      (MethodCall p (Variable p (codes "s")) (codes "send_totalIntToC")
      (Argument (Variable p (codes "sum")) NoExpr)))
      (Then (Continue p (Some (codes "loop"))) NoStmt))) p
      (Group (Some (codes "bye") ∷ []) (Then (Eval p (MethodCall p (Variable p (codes "s")) (codes "receive_byeFromC") NoExpr))
      (Then (Break p (Some (codes "loop"))) NoStmt)) p
      NoGroup)) p)
      NoStmt) p)
      (Truth p true))
      (Then (Print p (Binary p ops.Add (Text p (codes "sum ")) (Variable p (codes "sum")))) NoStmt)));
}

abbrev s_s_main : Class
s_s_main = record {
  place = p;
  name = codes "SMain";
  typestate = None;
  fields = [];
  methods = s_s_main_main ∷ [];
}

-- the file
abbrev s_program : Sources
s_program = (EnumDecl s_s_choice1 ∷ ClassDecl s_s_role ∷ ClassDecl s_s_main ∷ []) ∷ []

abbrev number : ℕ → Sent
number n = record { label = codes "add"; payload = carried.Int (pos n) }

abbrev bye : Sent
bye = record { label = codes "bye"; payload = carried.Nothing }

abbrev from_c : Inputs
from_c = (codes "C", number 1 ∷ number 2 ∷ number 3 ∷ bye ∷ []) ∷ []

-- what happens at the server where a number comes and it sends the sum, in front of what happens behind
abbrev added : (n sum : ℕ) → List Event → List Event
added n sum behind =
    Enter 0 (codes "receive_SChoice1LabelFromC") ∷
    Look (codes "C") (codes "add") ∷
    Leave 0 (Some (pos 0)) ∷
    Enter 0 (codes "receive_addIntFromC") ∷
    Take (codes "C") (codes "add") (carried.Int (pos n)) ∷
    Leave 0 (Some (pos n)) ∷
    Enter 0 (codes "send_totalIntToC") ∷
    Send (codes "C") (codes "total") (carried.Int (pos sum)) ∷
    Leave 0 None ∷
    behind

-- the server adds them up
abbrev pub the_server : Type 0
the_server = mean s_program (codes "SMain") from_c 4 ≡ record {
  events =
      Made 0 (codes "SRole") ∷
      added 1 1 (added 2 3 (added 3 6 (
      Enter 0 (codes "receive_SChoice1LabelFromC") ∷
      Look (codes "C") (codes "bye") ∷
      Leave 0 (Some (pos 1)) ∷
      Enter 0 (codes "receive_byeFromC") ∷
      Take (codes "C") (codes "bye") carried.Nothing ∷
      Leave 0 None ∷
      Printed (codes "sum 6") ∷
      [])));
  finish = Done;
}

-- there is no role C
abbrev pub without_a_client : Type 0
without_a_client = mean s_program (codes "SMain") [] 4 ≡ record {
  events =
      Made 0 (codes "SRole") ∷
      Enter 0 (codes "receive_SChoice1LabelFromC") ∷
      [];
  finish = NoPeer (codes "C");
}

-- the second message isn't there yet
abbrev pub the_client_is_slow : Type 0
the_client_is_slow = mean s_program (codes "SMain") ((codes "C", number 1 ∷ []) ∷ []) 4 ≡ record {
  events =
      Made 0 (codes "SRole") ∷
      added 1 1 (Enter 0 (codes "receive_SChoice1LabelFromC") ∷ []);
  finish = Wait (codes "C");
}

abbrev more : Inputs
more = (codes "C", record { label = codes "more"; payload = carried.Nothing } ∷ []) ∷ []

abbrev text_added : Inputs
text_added = (codes "C", record { label = codes "add"; payload = carried.Text (codes "1") } ∷ []) ∷ []

-- a label that no branch has is refused
abbrev pub the_client_says_more : Type 0
the_client_says_more = mean s_program (codes "SMain") more 4 ≡ record {
  events =
      Made 0 (codes "SRole") ∷
      Enter 0 (codes "receive_SChoice1LabelFromC") ∷
      Look (codes "C") (codes "more") ∷
      [];
  finish = Mismatch (codes "C") (codes "more");
}

-- a payload of another kind isn't taken
abbrev pub the_client_sends_a_text : Type 0
the_client_sends_a_text = mean s_program (codes "SMain") text_added 4 ≡ record {
  events =
      Made 0 (codes "SRole") ∷
      Enter 0 (codes "receive_SChoice1LabelFromC") ∷
      Look (codes "C") (codes "add") ∷
      Leave 0 (Some (pos 0)) ∷
      Enter 0 (codes "receive_addIntFromC") ∷
      [];
  finish = Mismatch (codes "C") (codes "add");
}

-- all of these
pub record All : Type 0 where
  pub the_client_holds : the_client
  pub the_server_holds : the_server
  pub without_a_client_holds : without_a_client
  pub the_client_is_slow_holds : the_client_is_slow
  pub the_client_says_more_holds : the_client_says_more
  pub the_client_sends_a_text_holds : the_client_sends_a_text
