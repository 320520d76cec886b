-- The bytes of a class file (JVMS 4.1). Each number stands as its bytes, the highest first.
use Rattle.std.specs.Prelude.{ℕ, ℤ, ◌+◌, ◌-◌, ◌%◌, ◌+ℤ◌, ◌-ℤ◌, pos, List, [], ◌∷◌, ◌++◌, length, replicate, Option, Some, None}
use Rattle.std.specs.List.{flat_map}
use Rattle.std.specs.Int.{cast_unsigned}
use mir.Syntax.{w8, w16, w32}
use Rattle.byteorder.specs.Endian.{big_bytes}
use Rattle.cls_tree.specs.declared.class.Const.{Const}
use Rattle.cls_tree.specs.declared.class.Const.TheVariants as consts
use Rattle.cls_tree.specs.declared.instr.Form.{Form}
use Rattle.cls_tree.specs.declared.instr.Form.TheVariants as forms
use Rattle.cls_tree.specs.Opcodes.{form_of}
use Rattle.cls_tree.specs.Modified.{modified}
use Rattle.cls_tree.specs.Tree.{Args, Number, Local, Pool, Jump, Add, Table, Instr, Inner, Unread, Misplaced, Code, Attr, Coded, Other}
use Rattle.cls_tree.specs.Tree.{Member, Class}

abbrev pub u1 : ℕ → List ℕ
u1 n = big_bytes 1 n

abbrev pub u2 : ℕ → List ℕ
u2 n = big_bytes 2 n

abbrev pub u4 : ℕ → List ℕ
u4 n = big_bytes 4 n

-- signed numbers stand in two's complement
abbrev pub s1 : ℤ → List ℕ
s1 n = u1 (cast_unsigned w8 n)

abbrev pub s2 : ℤ → List ℕ
s2 n = u2 (cast_unsigned w16 n)

abbrev pub s4 : ℤ → List ℕ
s4 n = u4 (cast_unsigned w32 n)

-- a text: its bytes in modified UTF-8, and before them how many they are (JVMS 4.4.7)
abbrev pub text_bytes : List ℕ → List ℕ
text_bytes text = let bytes = modified text in u2 (length bytes) ++ bytes

-- a constant: its tag, and what it holds
abbrev pub const_bytes : Const → List ℕ
const_bytes (consts.Utf8 text) = 1 ∷ text_bytes text
const_bytes (consts.Integer n) = 3 ∷ s4 n
const_bytes (consts.Class name) = 7 ∷ u2 name
const_bytes (consts.Text text) = 8 ∷ u2 text
const_bytes (consts.Field class member) = 9 ∷ (u2 class ++ u2 member)
const_bytes (consts.Method class member) = 10 ∷ (u2 class ++ u2 member)
const_bytes (consts.NameAndType name descriptor) = 12 ∷ (u2 name ++ u2 descriptor)

-- how many zero bytes stand behind the opcode of a table at this place, so that the next place is a multiple of four
abbrev pub pad : ℕ → ℕ
pad place = 3 - place % 4

-- the highest number of a table
abbrev pub highest : ℤ → List ℤ → ℤ
highest low offsets = (low +ℤ pos (length offsets)) -ℤ pos 1

-- what stands behind an opcode at this place, which takes arguments of this form
abbrev pub form_bytes : ℕ → Form → Args → List ℕ
form_bytes place forms.Byte (Number n) = s1 n
form_bytes place forms.Short (Number n) = s2 n
form_bytes place forms.Local (Local n) = u1 n
form_bytes place forms.Increment (Add local n) = u1 local ++ s1 n
form_bytes place forms.Jump (Jump distance) = s2 distance
form_bytes place forms.Table (Table default low offsets) =
    replicate (pad place) 0 ++ (s4 default ++ (s4 low ++ (s4 (highest low offsets) ++ flat_map s4 offsets)))
form_bytes place forms.NearConstant (Pool n) = u1 n
form_bytes place forms.Constant (Pool n) = u2 n
form_bytes place forms.Field (Pool n) = u2 n
form_bytes place forms.Method (Pool n) = u2 n
form_bytes place forms.Class (Pool n) = u2 n
form_bytes place form other = []

abbrev pub args_bytes : ℕ → Option Form → Args → List ℕ
args_bytes place (Some form) args = form_bytes place form args
args_bytes place None args = []

-- an instruction at this place of the code
abbrev pub instr_bytes : ℕ → Instr → List ℕ
instr_bytes place i = i.op ∷ args_bytes place (form_of i.op) i.args

-- instructions one behind the other, from this place on
abbrev pub code_from : ℕ → List Instr → List ℕ
code_from place [] = []
code_from place (i ∷ is) = instr_bytes place i ++ code_from (place + length (instr_bytes place i)) is

abbrev pub code_bytes : List Instr → List ℕ
code_bytes is = code_from 0 is

-- an attribute of a code: name, length, content
abbrev pub inner_bytes : Inner → List ℕ
inner_bytes (Unread name bytes) = u2 name ++ (u4 (length bytes) ++ bytes)
inner_bytes Misplaced = []

-- what a code attribute holds: greatest depth of operands, count of locals, the code, no handlers, and attributes
abbrev pub content_bytes : Code → List ℕ
content_bytes c =
    let code = code_bytes c.instrs in
    u2 c.max_stack ++ (u2 c.max_locals
    ++ (u4 (length code) ++ (code ++ (u2 0 ++ (u2 (length c.attributes) ++ flat_map inner_bytes c.attributes)))))

-- an attribute: name, length, content
abbrev pub attr_bytes : Attr → List ℕ
attr_bytes (Coded c) = let content = content_bytes c in u2 c.name ++ (u4 (length content) ++ content)
attr_bytes (Other name bytes) = u2 name ++ (u4 (length bytes) ++ bytes)

abbrev pub attrs_bytes : List Attr → List ℕ
attrs_bytes attrs = u2 (length attrs) ++ flat_map attr_bytes attrs

abbrev pub member_bytes : Member → List ℕ
member_bytes m = u2 m.access ++ (u2 m.name ++ (u2 m.descriptor ++ attrs_bytes m.attributes))

abbrev pub members_bytes : List Member → List ℕ
members_bytes ms = u2 (length ms) ++ flat_map member_bytes ms

-- magic, version 49.0, the pool and its count plus one, access, this, super, no interfaces, fields, methods, attributes
abbrev pub class_bytes : Class → List ℕ
class_bytes c =
    u4 3405691582 ++ (u2 0 ++ (u2 49
    ++ (u2 (length c.pool + 1) ++ (flat_map const_bytes c.pool ++ (u2 c.access ++ (u2 c.this_class ++ (u2 c.super_class
    ++ (u2 0 ++ (members_bytes c.fields ++ (members_bytes c.methods ++ attrs_bytes c.attributes))))))))))
