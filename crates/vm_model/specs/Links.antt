-- What class files link to, and what is wrong where they don't link. All that is judged stands in one order:
-- class by class, the super class, the descriptors of fields and of methods, and what instructions name, by method and place.
use Rattle.std.specs.Prelude.{◌≡◌, ℕ, ◌+◌, ◌+ℤ◌, ℤ, pos, List, [], ◌∷◌, ◌++◌, length, map, Bool, true, false, not, Option, Some, None}
use Rattle.std.specs.Prelude.{Result, Ok, Err, if◌then◌else◌, nat_lt, ◌==◌, ◌&&◌, ◌||◌, bit_and, slice_get, option_map}
use Rattle.std.specs.List.{find, position, position_or_len, flat_map, filter, list_any}
use Rattle.std.specs.Ordering.{int_eq}
use Rattle.std.specs.Str.{bytes_eq}
use Rattle.mg_text.specs.Call.{Name}
use Rattle.cls_tree.specs.declared.opcodes.TheConstants.{GETSTATIC, GETFIELD, PUTFIELD, INVOKEVIRTUAL, INVOKESPECIAL, INVOKESTATIC, NEW}
use Rattle.cls_tree.specs.declared.class.Const.{Const}
use Rattle.cls_tree.specs.Tree.{Class as File, Member, Attr, Coded, Code, Instr as Read}
use Rattle.cls_tree.specs.Tree as file
use Rattle.cls_tree.specs.Layout.{instr_bytes}
use Rattle.cls_tree.specs.Jumps.{starts_from}
use Rattle.cls_tree.specs.Pool.{text_at, class_at, field_at, method_at, pushed_at, Pushed, Reference, Signature}
use Rattle.cls_tree.specs.Pool as pool
use Rattle.vm_model.specs.declared.linked.Built.{Built as BuiltIn}
use Rattle.vm_model.specs.declared.linked.Built.TheVariants as built
use Rattle.vm_model.specs.BuiltIns.{object_class, built_member}
use Rattle.vm_model.specs.Program.{Args, Nothing, Int, Text, Local, Add, Jump, Table, Class, Field, Method, Built, Instr, FieldOf, MethodOf}
use Rattle.vm_model.specs.Program.{ClassOf, Program}
use Rattle.vm_model.specs.Types.{FieldType, Named, is_main_alone, signature_of, type_of, types_of_signature}
use Rattle.vm_model.specs.Linked.{is_built_in, fits_code}

-- What is wrong: the name is a class's for the first two, the member's, the descriptor, and the method's.
pub data Flaw : Type 0 where
  DuplicateClass : Name → Flaw
  UnknownClass : Name → Flaw
  UnknownMember : Name → Flaw
  BadDescriptor : Name → Flaw
  NoCode : Name → Flaw

abbrev pub number_of : Flaw → ℕ
number_of (DuplicateClass name) = 1
number_of (UnknownClass name) = 2
number_of (UnknownMember name) = 3
number_of (BadDescriptor name) = 4
number_of (NoCode name) = 5

-- of two flaws the one of the lower number, and the first where these are equal
abbrev pub lower : Option Flaw → Option Flaw → Option Flaw
lower None other = other
lower (Some f) None = Some f
lower (Some f) (Some g) = if nat_lt (number_of g) (number_of f) then Some g else Some f

-- the first of the lowest number
abbrev pub least : List Flaw → Option Flaw
least [] = None
least (f ∷ fs) = lower (Some f) (least fs)

-- what was judged of a list: what is right, and what is wrong
abbrev pub right_in : {A : Type 0} → List (Result A Flaw) → List A
right_in [] = []
right_in (Ok a ∷ rs) = a ∷ right_in rs
right_in (Err f ∷ rs) = right_in rs

abbrev pub wrong_in : {A : Type 0} → List (Result A Flaw) → List Flaw
wrong_in [] = []
wrong_in (Ok a ∷ rs) = wrong_in rs
wrong_in (Err f ∷ rs) = f ∷ wrong_in rs

-- the flaws that there are
abbrev pub some_in : List (Option Flaw) → List Flaw
some_in [] = []
some_in (None ∷ fs) = some_in fs
some_in (Some f ∷ fs) = f ∷ some_in fs

abbrev pub or_empty : Option Name → Name
or_empty None = []
or_empty (Some name) = name

-- a field or a method, by what its constants say
pub record Declared : Type 0 where
  pub name : Name
  pub descriptor : Name
  pub is_static : Bool

abbrev pub is_static : ℕ → Bool
is_static access = bit_and access 8 == 8

abbrev pub declared : List Const → Member → Declared
declared pool m = record {
  name = or_empty (text_at pool m.name);
  descriptor = or_empty (text_at pool m.descriptor);
  is_static =
      is_static m.access;
}

-- a class, by what its constants say
pub record Outline : Type 0 where
  pub name : Name
  pub fields : List Declared
  -- those of its fields that aren't static
  pub own : List Declared
  pub methods : List Declared

abbrev pub is_dynamic : Declared → Bool
is_dynamic d = not d.is_static

abbrev pub outline : File → Outline
outline c = record {
  name = or_empty (class_at c.pool c.this_class);
  fields = map (declared c.pool) c.fields;
  own = filter is_dynamic (map (declared c.pool) c.fields);
  methods = map (declared c.pool) c.methods;
}

-- the number of the loaded class of this name
abbrev pub loaded : List Outline → Name → Option ℕ
loaded os name = position (bytes_eq name) (map (λ o. o.name) os)

abbrev pub is_some : {A : Type 0} → Option A → Bool
is_some None = false
is_some (Some a) = true

-- a class that a name may mean
abbrev pub is_known : List Outline → Name → Bool
is_known os name = is_built_in name || is_some (loaded os name)

-- the first name of a class in these types that is none
abbrev pub unknown_in : List Outline → List FieldType → Option Name
unknown_in os [] = None
unknown_in os (Named name ∷ ts) = if is_known os name then unknown_in os ts else Some name
unknown_in os (t ∷ ts) = unknown_in os ts

-- the types in the descriptor of a field, and in that of a method of this name
abbrev pub field_types : Name → Option (List FieldType)
field_types descriptor = elim (type_of descriptor) [ None ↦ None | Some t ↦ Some (t ∷ []) ]

abbrev pub method_types : Name → Name → Option (List FieldType)
method_types name descriptor =
    if is_main_alone name descriptor then elim (signature_of descriptor) [ None ↦ None | Some s ↦ Some (types_of_signature s) ] else None

-- what is wrong with a descriptor of these types: a class in it is unknown, or, where it has none, this
abbrev pub descriptor_flaw : List Outline → Option Flaw → Option (List FieldType) → Option Flaw
descriptor_flaw os flaw None = flaw
descriptor_flaw os flaw (Some ts) = option_map UnknownClass (unknown_in os ts)

abbrev pub field_made : Declared → FieldOf
field_made d = record { name = d.name; descriptor = d.descriptor }

-- what is wrong with the descriptor of a declared field, and with that of a declared method
abbrev pub field_flaw : List Outline → Declared → Option Flaw
field_flaw os d = descriptor_flaw os (Some (BadDescriptor d.descriptor)) (field_types d.descriptor)

abbrev pub method_flaw : List Outline → Declared → Option Flaw
method_flaw os d = descriptor_flaw os (Some (BadDescriptor d.descriptor)) (method_types d.name d.descriptor)

-- what is wrong with the super class
abbrev pub super_flaw : Name → Option Flaw
super_flaw name = if bytes_eq name object_class then None else Some (UnknownClass name)

-- a member of this name and descriptor, static or not
abbrev pub is_member : Signature → Bool → Declared → Bool
is_member m static d = (bytes_eq d.name m.name && bytes_eq d.descriptor m.descriptor) && (if static then d.is_static else not d.is_static)

-- the members of the built-in classes
abbrev pub built_members : List BuiltIn
built_members =
    built.Out ∷ built.Init ∷ built.Concat ∷ built.Equals ∷ built.ValueOfInt ∷ built.ValueOfTruth ∷ built.Println
    ∷ built.Send ∷ built.SendInt ∷ built.SendTruth ∷ built.SendText ∷ built.Look ∷ built.Take ∷ built.TakeInt ∷ built.TakeTruth
    ∷ built.TakeText ∷ built.Refuse ∷ []

-- the member of a built-in class that an opcode and a reference name
abbrev pub is_named : ℕ → Reference → BuiltIn → Bool
is_named op r b =
    ((op == (built_member b).op && bytes_eq r.class (built_member b).class) && bytes_eq r.member.name (built_member b).name)
    && bytes_eq r.member.descriptor (built_member b).descriptor

abbrev pub built_in : ℕ → Reference → List BuiltIn → Option BuiltIn
built_in op r members = find (is_named op r) members

-- the member of a loaded class that an opcode names: a field for getfield and putfield, a static method for invokestatic, another method
-- for the other two
abbrev pub field_of_class : Signature → Option Outline → Option ℕ
field_of_class m None = None
field_of_class m (Some o) = position (is_member m false) o.own

abbrev pub method_of_class : Signature → Bool → Option Outline → Option ℕ
method_of_class m static None = None
method_of_class m static (Some o) = position (is_member m static) o.methods

abbrev pub args_by : (ℕ → Args) → Option ℕ → Option Args
args_by make None = None
args_by make (Some n) = Some (make n)

abbrev pub loaded_member : List Outline → ℕ → Signature → Option ℕ → Option Args
loaded_member os op m None = None
loaded_member os op m (Some c) =
    if op == GETFIELD then args_by (Field c) (field_of_class m (slice_get os c))
    else if op == PUTFIELD then args_by (Field c) (field_of_class m (slice_get os c))
    else if op == INVOKEVIRTUAL then args_by (Method c) (method_of_class m false (slice_get os c))
    else if op == INVOKESPECIAL then args_by (Method c) (method_of_class m false (slice_get os c))
    else if op == INVOKESTATIC then args_by (Method c) (method_of_class m true (slice_get os c))
    else None

abbrev pub named_args : List Outline → ℕ → Reference → Option BuiltIn → Option Args
named_args os op r (Some b) = Some (Built b)
named_args os op r None = loaded_member os op r.member (loaded os r.class)

-- the member that a reference names
abbrev pub member_args : List Outline → ℕ → Reference → Option Args
member_args os op r = named_args os op r (built_in op r built_members)

abbrev pub judged_args : Name → Option Args → Result Args Flaw
judged_args name None = Err (UnknownMember name)
judged_args name (Some args) = Ok args

-- After the class its descriptor's classes are judged, and then whether there is such a member. A descriptor of no types
-- is wrong where the member is declared, and not where a reference has it.
abbrev pub judged_member : List Outline → ℕ → Reference → Option Flaw → Result Args Flaw
judged_member os op r (Some flaw) = Err flaw
judged_member os op r None = judged_args r.member.name (member_args os op r)

abbrev pub judged_reference : List Outline → ℕ → Reference → Option (List FieldType) → Result Args Flaw
judged_reference os op r ts =
    if is_known os r.class then judged_member os op r (descriptor_flaw os None ts) else Err (UnknownClass r.class)

abbrev pub judged_field_reference : List Outline → ℕ → Option Reference → Result Args Flaw
judged_field_reference os op None = Err (UnknownMember [])
judged_field_reference os op (Some r) = judged_reference os op r (field_types r.member.descriptor)

abbrev pub judged_method_reference : List Outline → ℕ → Option Reference → Result Args Flaw
judged_method_reference os op None = Err (UnknownMember [])
judged_method_reference os op (Some r) = judged_reference os op r (method_types r.member.name r.member.descriptor)

-- `new` names a loaded class
abbrev pub judged_new : Name → Option ℕ → Result Args Flaw
judged_new name None = Err (UnknownClass name)
judged_new name (Some c) = Ok (Class c)

abbrev pub pushed_args : Option Pushed → Args
pushed_args None = Nothing
pushed_args (Some (pool.Int n)) = Int n
pushed_args (Some (pool.Letters text)) = Text text

-- what the number of a constant means behind an opcode
abbrev pub judged_pool : List Outline → List Const → ℕ → ℕ → Result Args Flaw
judged_pool os pool op n =
    if op == NEW then (let name = or_empty (class_at pool n) in judged_new name (loaded os name))
    else if op == GETSTATIC || (op == GETFIELD || op == PUTFIELD) then judged_field_reference os op (field_at pool n)
    else if op == INVOKEVIRTUAL || (op == INVOKESPECIAL || op == INVOKESTATIC) then judged_method_reference os op (method_at pool n)
    else Ok (pushed_args (pushed_at pool n))

-- the number of the instruction that starts at a place; a sound code has one for each jump
abbrev pub started : List ℕ → ℤ → ℕ
started starts place = position_or_len (λ s. int_eq (pos s) place) starts

-- an instruction that stands at this place of a code, in which instructions start at these
abbrev pub judged_instr_args : List Outline → List Const → List ℕ → ℕ → ℕ → file.Args → Result Args Flaw
judged_instr_args os pool starts place op file.None = Ok Nothing
judged_instr_args os pool starts place op (file.Number n) = Ok (Int n)
judged_instr_args os pool starts place op (file.Local n) = Ok (Local n)
judged_instr_args os pool starts place op (file.Pool n) = judged_pool os pool op n
judged_instr_args os pool starts place op (file.Jump d) = Ok (Jump (started starts (pos place +ℤ d)))
judged_instr_args os pool starts place op (file.Add local n) = Ok (Add local n)
judged_instr_args os pool starts place op (file.Table default low offsets) =
    Ok (Table (started starts (pos place +ℤ default)) low (map (λ d. started starts (pos place +ℤ d)) offsets))

-- An instruction of a code of so many, with these arguments. Where they aren't those of its opcode, or a jump leads to no instruction,
-- it names nothing; in a sound code none is so.
abbrev pub with_op : ℕ → ℕ → Result Args Flaw → Result Instr Flaw
with_op count op (Err flaw) = Err flaw
with_op count op (Ok args) = if fits_code count op args then Ok (record { op = op; args = args }) else Err (UnknownMember [])

abbrev pub judged_instr : List Outline → List Const → List ℕ → ℕ → Read → Result Instr Flaw
judged_instr os pool starts place i = with_op (length starts) i.op (judged_instr_args os pool starts place i.op i.args)

-- the instructions from a place on
abbrev pub judged_from : List Outline → List Const → List ℕ → ℕ → List Read → List (Result Instr Flaw)
judged_from os pool starts place [] = []
judged_from os pool starts place (i ∷ is) =
    judged_instr os pool starts place i ∷ judged_from os pool starts (place + length (instr_bytes place i)) is

abbrev pub judged_code : List Outline → List Const → List Read → List (Result Instr Flaw)
judged_code os pool is = judged_from os pool (starts_from 0 is) 0 is

-- the code of a method
abbrev pub code_among : List Attr → Option Code
code_among [] = None
code_among (Coded c ∷ rest) = Some c
code_among (file.Other name bytes ∷ rest) = code_among rest

abbrev pub method_made : List Outline → List Const → Declared → Option Code → List MethodOf
method_made os pool d None = []
method_made os pool d (Some c) =
    record {
      name = d.name;
      descriptor = d.descriptor;
      is_static = d.is_static;
      max_stack = c.max_stack;
      max_locals = c.max_locals;
      code = right_in (judged_code os pool c.instrs);
    } ∷ []

abbrev pub code_flaws : List Outline → List Const → Name → Option Code → List Flaw
code_flaws os pool name None = NoCode name ∷ []
code_flaws os pool name (Some c) = wrong_in (judged_code os pool c.instrs)

abbrev pub method_of_member : List Outline → List Const → Member → List MethodOf
method_of_member os pool m = method_made os pool (declared pool m) (code_among m.attributes)

abbrev pub method_flaws : List Outline → List Const → Member → List Flaw
method_flaws os pool m = code_flaws os pool (declared pool m).name (code_among m.attributes)

-- what a class is, where nothing is wrong
abbrev pub linked_class : List Outline → File → ClassOf
linked_class os c = record {
  name = (outline c).name;
  fields = map field_made (outline c).own;
  methods = flat_map (method_of_member os c.pool) c.methods;
}

-- what is wrong with a class
abbrev pub class_flaws : List Outline → File → List Flaw
class_flaws os c =
    some_in (super_flaw (or_empty (class_at c.pool c.super_class)) ∷ [])
    ++ (some_in (map (field_flaw os) (outline c).fields)
    ++ (some_in (map (method_flaw os) (outline c).methods)
    ++ flat_map (method_flaws os c.pool) c.methods))

-- the classes whose names are those of built-in ones, or of ones before them
abbrev pub duplicates : List Name → List Name → List Flaw
duplicates before [] = []
duplicates before (name ∷ names) =
    (if is_built_in name || list_any (bytes_eq name) before then DuplicateClass name ∷ [] else []) ++ duplicates (before ++ name ∷ []) names

abbrev pub outlines : List File → List Outline
outlines cs = map outline cs

-- all that is wrong with class files that are loaded together
abbrev pub flaws : List File → List Flaw
flaws cs = duplicates [] (map (λ o. o.name) (outlines cs)) ++ flat_map (class_flaws (outlines cs)) cs

-- the program of these class files
abbrev pub linked : List File → Program
linked cs = map (linked_class (outlines cs)) cs

-- these class files link to this program
pub record Links (cs : List File) (p : Program) : Type 0 where
  pub right : flaws cs ≡ []
  pub program : p ≡ linked cs

-- they don't link: this is the first flaw of the lowest number
abbrev pub IsUnlinked : List File → Flaw → Type 0
IsUnlinked cs flaw = least (flaws cs) ≡ Some flaw
