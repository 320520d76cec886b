-- The methods of an API can be written, and nest little.
use Rattle.std.proofs.Common.{◌⊎◌, inl, inr, ℕ, ◌≤◌, List, [], ◌∷◌, ◌++◌, map, refl, codes, arith}
use Rattle.std.specs.Fmt.{decimal}
use Rattle.std.specs.List.{AllByRecursion}
use Rattle.std.specs.Str.{IsUtf8}
use Rattle.mg_text.specs.Call.{Name}
use Rattle.mg_text.specs.declared.place.Place.{Place}
use Rattle.mg_read.specs.Passes.{AllPasses}
use Rattle.scr_tree.specs.declared.syntax.Payload.{Payload}
use Rattle.scr_tree.specs.declared.syntax.Payload.TheVariants as payloads
use Rattle.scr_tree.specs.Words.{IsName as IsRoleName}
use Rattle.scr_tree.specs.Protocol.{Message, Send, Take}
use Rattle.scr_tree.specs.CallNames.{message_call, label_call}
use Rattle.scr_tree.specs.Payloads.{payload_part}
use Rattle.ts_tree.specs.declared.parts.TypeName.TheVariants as types
use Rattle.stm_gen.specs.Laid.{carried_type, carried_params, choice_enum}
use Rattle.jv_tree.specs.declared.built_in.SessionCall.TheVariants as calls
use Rattle.jv_tree.specs.declared.built_in.TextCall.TheVariants as texts
use Rattle.jv_tree.specs.BuiltIn.{session_method, text_method}
use Rattle.jv_tree.specs.Source.{Stmt, Method}
use Rattle.jv_tree.specs.Depth.{depth_of_stmt, depth_of_stmts}
use Rattle.jv_tree.specs.View.{stmts_of}
use Rattle.jv_tree.specs.Files.{IsResult}
use Rattle.jv_tree.specs.Statements.{type_word}
use Rattle.jv_lex.specs.Letters.{is_word_byte}
use Rattle.jv_back.proofs.Told.{IsWord, IsNamed, named, plain_word}
use Rattle.jv_back.proofs.Parts.{IsTyped}
use Rattle.jv_back.proofs.Stmts.{IsWrittenLocal, IsWrittenStmt, AreWrittenStmts}
use Rattle.jv_back.proofs.Members.{IsWrittenParam, IsWrittenMethod}
use Rattle.stm_api.specs.Doings.{Doing, Passes, Asks}
use Rattle.stm_api.specs.Api.{send_call, take_call, send_body, take_body, label_test, first_label, found_by, refusal, look_body}
use Rattle.stm_api.specs.Api.{value_param, message_method, look_method, method_of}
use Rattle.jv_back.proofs.Files.{AreWrittenConstants}
use Rattle.api_back.proofs.Names.{word_bytes, all_pass, passes_both, number_bytes, marked_name, choice_class, role_utf8, name_utf8, fixed}
use Rattle.api_back.proofs.Names.{no_string}
use Rattle.api_back.proofs.Doings.{IsTold, all_both}

-- ---- names

value_named : IsNamed (codes "value")
value_named = fixed (codes "value") refl refl refl

found_named : IsNamed (codes "found")
found_named = fixed (codes "found") refl refl refl

session_named : IsNamed (codes "Session")
session_named = fixed (codes "Session") refl refl refl

equals_named : IsNamed (text_method texts.Equals).name
equals_named = fixed (text_method texts.Equals).name refl refl refl

look_named : IsNamed (session_method calls.Look).name
look_named = fixed (session_method calls.Look).name refl refl refl

refuse_named : IsNamed (session_method calls.Refuse).name
refuse_named = fixed (session_method calls.Refuse).name refl refl refl

send_named : (kind : Payload) → IsNamed (session_method (send_call kind)).name
send_named payloads.Nothing = fixed (session_method calls.Send).name refl refl refl
send_named payloads.Int = fixed (session_method calls.SendInt).name refl refl refl
send_named payloads.Boolean = fixed (session_method calls.SendBoolean).name refl refl refl
send_named payloads.Text = fixed (session_method calls.SendString).name refl refl refl

take_named : (kind : Payload) → IsNamed (session_method (take_call kind)).name
take_named payloads.Nothing = fixed (session_method calls.Take).name refl refl refl
take_named payloads.Int = fixed (session_method calls.TakeInt).name refl refl refl
take_named payloads.Boolean = fixed (session_method calls.TakeBoolean).name refl refl refl
take_named payloads.Text = fixed (session_method calls.TakeString).name refl refl refl

part_bytes : (kind : Payload) → AllPasses is_word_byte (payload_part kind)
part_bytes payloads.Nothing = tt
part_bytes payloads.Int = all_pass (codes "Int") refl
part_bytes payloads.Boolean = all_pass (codes "Boolean") refl
part_bytes payloads.Text = all_pass (codes "String") refl

-- five parts of a name
five : (a b c d e : Name) → AllPasses is_word_byte a → AllPasses is_word_byte b → AllPasses is_word_byte c → AllPasses is_word_byte d
    → AllPasses is_word_byte e → AllPasses is_word_byte (a ++ b ++ c ++ d ++ e)
five a b c d e ha hb hc hd he =
    passes_both is_word_byte (a ++ b ++ c ++ d) e
    (passes_both is_word_byte (a ++ b ++ c) d (passes_both is_word_byte (a ++ b) c (passes_both is_word_byte a b ha hb) hc) hd) he

message_named : (m : Message) → IsTold (Passes m) → IsNamed (message_call m)
message_named (Send peer label kind) w = record {
  name = marked_name (message_call (Send peer label kind)) refl;
  starts = refl;
  bytes = five (codes "send_") label (payload_part kind) (codes "To") peer (all_pass (codes "send_") refl) (word_bytes label w.1.bytes)
      (part_bytes kind) (all_pass (codes "To") refl) (word_bytes peer w.0.bytes);
}
message_named (Take peer label kind) w = record {
  name = marked_name (message_call (Take peer label kind)) refl;
  starts = refl;
  bytes = five (codes "receive_") label (payload_part kind) (codes "From") peer
      (all_pass (codes "receive_") refl) (word_bytes label w.1.bytes)
      (part_bytes kind) (all_pass (codes "From") refl) (word_bytes peer w.0.bytes);
}

label_bytes : (me : Name) (n : ℕ) (peer : Name) → IsRoleName me → IsRoleName peer → AllPasses is_word_byte (label_call me n peer)
label_bytes me n peer h w =
    passes_both is_word_byte (codes "receive_" ++ me ++ codes "Choice" ++ decimal n ++ codes "LabelFrom") peer
    (five (codes "receive_") me (codes "Choice") (decimal n) (codes "LabelFrom") (all_pass (codes "receive_") refl)
    (word_bytes me h.bytes) (all_pass (codes "Choice") refl) (number_bytes n)
    (all_pass (codes "LabelFrom") refl)) (word_bytes peer w.bytes)

look_call_named : (me : Name) (n : ℕ) (peer : Name) → IsRoleName me → IsRoleName peer → IsNamed (label_call me n peer)
look_call_named me n peer h w =
    record { name = marked_name (label_call me n peer) refl; starts = refl; bytes = label_bytes me n peer h w }

-- ---- statements

-- a statement that can be written, and is shallow
abbrev IsFine : Stmt → Type 0
IsFine s = (IsWrittenLocal s ⊎ IsWrittenStmt s) × (depth_of_stmt s ≤ 10)

fine_stmts : (ss : List Stmt) → AllByRecursion IsFine ss → AreWrittenStmts (stmts_of ss) × (depth_of_stmts (stmts_of ss) ≤ 10)
fine_stmts [] h = (tt, omega arith)
fine_stmts (s ∷ ss) h = let more = fine_stmts ss h.1 in ((h.0.0, more.0), omega (arith, h.0.1, more.1))

send_fine : (p : Place) (peer label : Name) (kind : Payload) → IsRoleName peer → IsRoleName label
    → AllByRecursion IsFine (send_body p peer label kind)
send_fine p peer label payloads.Nothing w l =
    ((inr ((session_named, send_named payloads.Nothing, (role_utf8 peer w, (role_utf8 label l, tt))), refl, refl), omega arith), tt)
send_fine p peer label payloads.Int w l = (
  (inr ((session_named, send_named payloads.Int, (role_utf8 peer w, (role_utf8 label l, (value_named, tt)))), refl, refl), omega arith),
  tt,
)
send_fine p peer label payloads.Boolean w l = (
  (
    inr ((session_named, send_named payloads.Boolean, (role_utf8 peer w, (role_utf8 label l, (value_named, tt)))), refl, refl),
    omega arith,
  ),
  tt,
)
send_fine p peer label payloads.Text w l = (
  (inr ((session_named, send_named payloads.Text, (role_utf8 peer w, (role_utf8 label l, (value_named, tt)))), refl, refl), omega arith),
  tt,
)

take_fine : (p : Place) (peer label : Name) (kind : Payload) → IsRoleName peer → IsRoleName label
    → AllByRecursion IsFine (take_body p peer label kind)
take_fine p peer label payloads.Nothing w l =
    ((inr ((session_named, take_named payloads.Nothing, (role_utf8 peer w, (role_utf8 label l, tt))), refl, refl), omega arith), tt)
take_fine p peer label payloads.Int w l =
    ((inr (session_named, take_named payloads.Int, (role_utf8 peer w, (role_utf8 label l, tt))), omega arith), tt)
take_fine p peer label payloads.Boolean w l =
    ((inr (session_named, take_named payloads.Boolean, (role_utf8 peer w, (role_utf8 label l, tt))), omega arith), tt)
take_fine p peer label payloads.Text w l =
    ((inr (session_named, take_named payloads.Text, (role_utf8 peer w, (role_utf8 label l, tt))), omega arith), tt)

label_utf8 : (w : Name) → IsNamed w → IsUtf8 w
label_utf8 w h = name_utf8 w h.bytes

tests_fine : (p : Place) (enum : Name) (labels : List Name) → IsNamed enum → AllByRecursion IsNamed labels
    → AllByRecursion IsFine (map (label_test p enum) labels)
tests_fine p enum [] e h = tt
tests_fine p enum (label ∷ labels) e h = (
  (inr ((found_named, equals_named, (label_utf8 label h.0, tt)), (inr (e, h.0), tt)), omega arith),
  tests_fine p enum labels e h.1,
)

first_fine : (p : Place) (enum : Name) (labels : List Name) → IsNamed enum → AreWrittenConstants labels
    → AllByRecursion IsFine (first_label p enum labels)
first_fine p enum [] e h = absurd h
first_fine p enum (label ∷ labels) e h = ((inr (e, h.0), omega arith), tt)

constants_named : (labels : List Name) → AreWrittenConstants labels → AllByRecursion IsNamed labels
constants_named [] h = absurd h
constants_named (label ∷ labels) h = h

text_typed : IsTyped types.Text
text_typed = (tt, plain_word (codes "String") refl refl)

look_fine : (p : Place) (enum peer : Name) (labels : List Name) → IsNamed enum → IsRoleName peer → AreWrittenConstants labels
    → AllByRecursion IsFine (look_body p enum peer labels)
look_fine p enum peer labels e w h =
    let looks : IsFine (found_by p peer) = (inl (text_typed, found_named, (session_named, look_named, (role_utf8 peer w, tt))), omega arith)
    in
    let refuses : IsFine (refusal p peer) =
    (inr ((session_named, refuse_named, (role_utf8 peer w, (found_named, tt))), refl, refl), omega arith) in (
      looks,
      all_both IsFine (map (label_test p enum) labels) (refusal p peer ∷ first_label p enum labels)
          (tests_fine p enum labels e (constants_named labels h)) (refuses, first_fine p enum labels e h),
    )

-- ---- methods

-- a method that can be written, and is shallow
abbrev pub IsFineMethod : Method → Type 0
IsFineMethod m = IsWrittenMethod m × (depth_of_stmts m.body ≤ 10)

int_word : IsWord (codes "int")
int_word = plain_word (codes "int") refl refl

boolean_word : IsWord (codes "boolean")
boolean_word = plain_word (codes "boolean") refl refl

void_word : IsWord (codes "void")
void_word = plain_word (codes "void") refl refl

carried_result : (kind : Payload) → IsResult (carried_type kind) × IsWord (type_word (carried_type kind))
carried_result payloads.Nothing = (inl refl, void_word)
carried_result payloads.Int = (inr tt, int_word)
carried_result payloads.Boolean = (inr tt, boolean_word)
carried_result payloads.Text = (inr tt, text_typed.1)

params_fine : (p : Place) (kind : Payload) → AllByRecursion IsWrittenParam (map (value_param p) (carried_params kind))
params_fine p payloads.Nothing = tt
params_fine p payloads.Int = (((tt, int_word), value_named), tt)
params_fine p payloads.Boolean = (((tt, boolean_word), value_named), tt)
params_fine p payloads.Text = ((text_typed, value_named), tt)

message_fine : (p : Place) (m : Message) → IsTold (Passes m) → IsFineMethod (message_method p m)
message_fine p (Send peer label kind) w =
    let body = fine_stmts (send_body p peer label kind) (send_fine p peer label kind w.0 w.1) in (
      record {
        result = inl refl;
        word = void_word;
        name = message_named (Send peer label kind) w;
        params = inl (refl, params_fine p kind);
        body = body.0;
      },
      body.1,
    )
message_fine p (Take peer label kind) w =
    let body = fine_stmts (take_body p peer label kind) (take_fine p peer label kind w.0 w.1) in
    let result = carried_result kind in (
      record {
        result = result.0;
        word = result.1;
        name = message_named (Take peer label kind) w;
        params = inl (refl, tt);
        body = body.0;
      },
      body.1,
    )

asks_fine : (p : Place) (me : Name) (n : ℕ) (peer : Name) (labels : List Name) → IsRoleName me → IsTold (Asks n peer labels)
    → IsFineMethod (look_method p me n peer labels)
asks_fine p me n peer labels h w =
    let enum : IsNamed (choice_enum me n) = choice_class me n h in
    let body = fine_stmts (look_body p (choice_enum me n) peer labels) (look_fine p (choice_enum me n) peer labels enum w.0 w.1) in (
      record {
        result = inr (enum.name, no_string me n);
        word = named (choice_enum me n) enum;
        name = look_call_named me n peer h w.0;
        params = inl (refl, tt);
        body = body.0;
      },
      body.1,
    )

pub method_fine : (p : Place) (me : Name) (d : Doing) → IsRoleName me → IsTold d → IsFineMethod (method_of p me d)
method_fine p me (Passes message) h w = message_fine p message w
method_fine p me (Asks n peer labels) h w = asks_fine p me n peer labels h w
