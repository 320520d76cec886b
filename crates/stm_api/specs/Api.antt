-- The class by which a program plays a role, and the enums of the labels that others choose.
use Rattle.std.specs.Prelude.{◌≡◌, ℕ, List, [], ◌∷◌, ◌++◌, map, codes, false, Some}
use Rattle.mg_text.specs.Call.{Name}
use Rattle.mg_text.specs.Places.{start_of}
use Rattle.mg_text.specs.declared.place.Place.{Place}
use Rattle.scr_tree.specs.declared.syntax.Payload.{Payload}
use Rattle.scr_tree.specs.declared.syntax.Payload.TheVariants as payloads
use Rattle.scr_tree.specs.Tree.{LocalTree}
use Rattle.scr_tree.specs.Protocol.{Message, Send, Take}
use Rattle.scr_tree.specs.CallNames.{message_call, label_call}
use Rattle.scr_tree.specs.Meaning.{protocol_of}
use Rattle.ts_tree.specs.declared.parts.TypeName.{TypeName}
use Rattle.ts_tree.specs.declared.parts.TypeName.TheVariants as types
use Rattle.stm_gen.specs.Laid.{carried_type, carried_params, choice_enum}
use Rattle.jv_tree.specs.declared.tree.Param.{Param}
use Rattle.jv_tree.specs.declared.built_in.SessionCall.{SessionCall}
use Rattle.jv_tree.specs.declared.built_in.SessionCall.TheVariants as calls
use Rattle.jv_tree.specs.declared.built_in.TextCall.TheVariants as texts
use Rattle.jv_tree.specs.BuiltIn.{session_method, text_method}
use Rattle.jv_tree.specs.Source.{Expr, Text, Variable, Member, MethodCall, NoExpr, Argument, Stmt, Block, Local, If, Return, Eval, NoStmt}
use Rattle.jv_tree.specs.Source.{Then, Method, Class, ClassDecl, EnumDecl, File}
use Rattle.jv_tree.specs.View.{exprs_of, stmts_of}
use Rattle.jv_print.specs.Layout.{layout}
use Rattle.stm_api.specs.Doings.{Doing, Passes, Asks, all_doings, Firsts}

-- ---- expressions and statements; all of them stand at one place

-- `Session.call(..)`
abbrev pub session : Place → SessionCall → List Expr → Expr
session p call args = MethodCall p (Variable p (codes "Session")) (session_method call).name (exprs_of args)

-- `E.label`
abbrev pub constant : Place → Name → Name → Expr
constant p enum label = Member p (Variable p enum) label

-- the call that sends what a message carries, and the one that takes it
abbrev pub send_call : Payload → SessionCall
send_call payloads.Nothing = calls.Send
send_call payloads.Int = calls.SendInt
send_call payloads.Boolean = calls.SendBoolean
send_call payloads.Text = calls.SendString

abbrev pub take_call : Payload → SessionCall
take_call payloads.Nothing = calls.Take
take_call payloads.Int = calls.TakeInt
take_call payloads.Boolean = calls.TakeBoolean
take_call payloads.Text = calls.TakeString

-- what is sent behind the peer and the label
abbrev pub sent : Place → Payload → List Expr
sent p payloads.Nothing = []
sent p payloads.Int = Variable p (codes "value") ∷ []
sent p payloads.Boolean = Variable p (codes "value") ∷ []
sent p payloads.Text = Variable p (codes "value") ∷ []

-- what is taken is answered, if anything is carried
abbrev pub answered : Place → Payload → Expr → Stmt
answered p payloads.Nothing call = Eval p call
answered p payloads.Int call = Return p (Some call)
answered p payloads.Boolean call = Return p (Some call)
answered p payloads.Text call = Return p (Some call)

abbrev pub send_body : Place → Name → Name → Payload → List Stmt
send_body p peer label kind = Eval p (session p (send_call kind) (Text p peer ∷ (Text p label ∷ sent p kind))) ∷ []

abbrev pub take_body : Place → Name → Name → Payload → List Stmt
take_body p peer label kind = answered p kind (session p (take_call kind) (Text p peer ∷ (Text p label ∷ []))) ∷ []

-- `if (found.equals("label")) { return E.label; }`
abbrev pub label_test : Place → Name → Name → Stmt
label_test p enum label =
    If p (MethodCall p (Variable p (codes "found")) (text_method texts.Equals).name (Argument (Text p label) NoExpr))
    (Block p (Then (Return p (Some (constant p enum label))) NoStmt) p)

-- the first label is answered where the session has refused what was found
abbrev pub first_label : Place → Name → List Name → List Stmt
first_label p enum [] = []
first_label p enum (label ∷ labels) = Return p (Some (constant p enum label)) ∷ []

-- `String found = Session.look("peer");`
abbrev pub found_by : Place → Name → Stmt
found_by p peer = Local p types.Text (codes "found") (session p calls.Look (Text p peer ∷ []))

-- `Session.refuse("peer", found);`
abbrev pub refusal : Place → Name → Stmt
refusal p peer = Eval p (session p calls.Refuse (Text p peer ∷ (Variable p (codes "found") ∷ [])))

-- what was found is compared with each label; it is refused if it is none of them
abbrev pub look_body : Place → Name → Name → List Name → List Stmt
look_body p enum peer labels =
    found_by p peer ∷ (map (label_test p enum) labels ++ (refusal p peer ∷ first_label p enum labels))

-- ---- methods

abbrev pub value_param : Place → TypeName → Param
value_param p ty = record { place = p; ty = ty; name = codes "value" }

-- a method of an object
abbrev pub method_with : Place → TypeName → Name → List Param → List Stmt → Method
method_with p result name params body = record {
  place = p;
  end = p;
  is_static = false;
  result = result;
  name = name;
  params = params;
  takes_args = false;
  body = stmts_of body;
}

-- the method of this name that sends a message, and the one that takes it
abbrev pub send_method : Place → Name → (peer label : Name) → Payload → Method
send_method p name peer label kind = method_with p types.Void name (map (value_param p) (carried_params kind)) (send_body p peer label kind)

abbrev pub take_method : Place → Name → (peer label : Name) → Payload → Method
take_method p name peer label kind = method_with p (carried_type kind) name [] (take_body p peer label kind)

-- the method that sends or takes a message
abbrev pub message_method : Place → Message → Method
message_method p (Send peer label kind) = send_method p (message_call (Send peer label kind)) peer label kind
message_method p (Take peer label kind) = take_method p (message_call (Take peer label kind)) peer label kind

-- the method that answers which branch of a numbered choice a peer has taken
abbrev pub look_method : Place → Name → ℕ → Name → List Name → Method
look_method p me number peer labels =
    method_with p (types.Named (choice_enum me number)) (label_call me number peer) [] (look_body p (choice_enum me number) peer labels)

-- the method that does it
abbrev pub method_of : Place → Name → Doing → Method
method_of p me (Passes message) = message_method p message
method_of p me (Asks number peer labels) = look_method p me number peer labels

-- ---- files

-- the class: a method for each doing, in the order of the text
abbrev pub class_with : Place → Name → List Doing → Class
class_with p me firsts = record {
  place = p;
  name = me ++ codes "Role";
  typestate = Some (me ++ codes "Protocol");
  fields = [];
  methods = map (method_of p me) firsts;
}

-- a file's name, the tree of what it holds, and its text
pub record ApiText : Type 0 where
  pub name : Name
  pub tree : File
  pub text : List ℕ

abbrev pub written : Name → File → ApiText
written name tree = record { name = name; tree = tree; text = layout tree }

abbrev pub class_file : Place → Name → List Doing → ApiText
class_file p me firsts = written (me ++ codes "Role.java") (ClassDecl (class_with p me firsts) ∷ [])

abbrev pub enum_file : Place → Name → ℕ → List Name → ApiText
enum_file p me number labels =
    written (choice_enum me number ++ codes ".java") (EnumDecl (record { place = p; name = choice_enum me number; constants = labels }) ∷
    [])

-- the enums of the looks, by their numbers, which rise in the order of the text
abbrev pub enum_of : Place → Name → Doing → List ApiText
enum_of p me (Passes message) = []
enum_of p me (Asks number peer labels) = enum_file p me number labels ∷ []

abbrev pub enum_files : Place → Name → List Doing → List ApiText
enum_files p me [] = []
enum_files p me (doing ∷ more) = enum_of p me doing ++ enum_files p me more

-- The files of a local protocol: its class, and then its enums. Each place is the first of the protocol's file.
pub record IsApi (local : LocalTree) (files : List ApiText) : Type 0 where
  pub firsts : List Doing
  pub are_firsts : Firsts local.me [] (all_doings (protocol_of local)) firsts
  pub are_files : files ≡ class_file (start_of local.file) local.me firsts ∷ enum_files (start_of local.file) local.me
      (all_doings (protocol_of local))
