-- The class files of a program, with no limit on sizes. Constants stand in a pool in the order in which they are first needed.
use Rattle.std.specs.Prelude.{◌≡◌, ℕ, suc, pos, List, [], ◌∷◌, ◌++◌, Option, Some, None, filter_map, slice_get, codes}
use Rattle.mg_text.specs.Call.{Name}
use Rattle.mg_text.specs.declared.place.Place.{Place}
use Rattle.cls_tree.specs.declared.class.Const.{Const}
use Rattle.cls_tree.specs.Tree as file
use Rattle.cls_tree.specs.Emitted.{Pooled, ◌>>=◌, give, utf8, class_const}
use Rattle.jv_core.specs.declared.program.MethodKind.{MethodKind}
use Rattle.jv_core.specs.declared.program.MethodKind.TheVariants as kinds
use Rattle.jv_core.specs.Tree.{Expr, Int, Truth, Text, Constant, Field, Class, Method, Program}
use Rattle.jv_core.specs.Lookup.{text_at}
use Rattle.vm_model.specs.BuiltIns.{object_class}
use Rattle.gen_rules.specs.Symbolic.{Instr, push, push_truth, push_text, aconst_null, aload, invokespecial, putfield, return}
use Rattle.gen_rules.specs.Members.{init_name, init_descriptor}
use Rattle.gen_rules.specs.Members.{init_of, field_descriptor, field_reference, method_descriptor}
use Rattle.gen_rules.specs.Templates.{IsCode}
use Rattle.gen_rules.specs.Frames.{max_stack, max_locals}
use Rattle.gen_rules.specs.Assembled.{assembled}

-- A method whose code is made: its access flags, how it is called in the class file, its frame and its code.
-- What is too large in it is told under a name with its place: those of the method, or of the class for a constructor.
pub record Compiled : Type 0 where
  pub access : ℕ
  pub name : Name
  pub descriptor : Name
  pub max_stack : ℕ
  pub max_locals : ℕ
  pub code : List Instr
  pub place : Place
  pub told_as : Name

-- protocol methods are public, helpers are private, and the others are public and static
abbrev pub access_of : MethodKind → ℕ
access_of kinds.Protocol = 1
access_of kinds.Helper = 2
access_of _ = 9

abbrev pub compiled : Program → Method → List Instr → Compiled
compiled p m code = record {
  access = access_of m.kind;
  name = text_at p m.name;
  descriptor = method_descriptor p m;
  max_stack = max_stack p m;
  max_locals = max_locals m;
  code = code;
  place = m.place;
  told_as = text_at p m.name;
}

-- Constructors.

-- a constant with which a field begins
abbrev pub push_constant : Expr → Instr
push_constant (Int q n) = push n
push_constant (Truth q b) = push_truth b
push_constant (Text q s) = push_text s
push_constant (Constant q e n) = push (pos n)
push_constant _ = aconst_null

-- aload_0, the constant, putfield
abbrev pub initialised : Program → (class field : ℕ) → Option Expr → List Instr
initialised p c f None = []
initialised p c f (Some e) = aload 0 ∷ push_constant e ∷ putfield (field_reference p c f) ∷ []

-- the written initialisers of these fields in order; the first field has number f
abbrev pub all_initialised : Program → (class field : ℕ) → List Field → List Instr
all_initialised p c f [] = []
all_initialised p c f (d ∷ ds) = initialised p c f d.value ++ all_initialised p c (suc f) ds

abbrev pub constructor_code : Program → (class : ℕ) → Class → List Instr
constructor_code p c k = aload 0 ∷ invokespecial (init_of object_class) ∷ (all_initialised p c 0 k.fields ++ return ∷ [])

-- a constant stands on the object
abbrev pub constructor_stack : List Instr → ℕ
constructor_stack [] = 1
constructor_stack (i ∷ is) = 2

abbrev pub constructor : Program → (class : ℕ) → Class → Compiled
constructor p c k = record {
  access = 1;
  name = init_name;
  descriptor = init_descriptor;
  max_stack = constructor_stack (all_initialised p c 0 k.fields);
  max_locals = 1;
  code = constructor_code p c k;
  place = k.place;
  told_as = text_at p k.name;
}

-- a class with a typestate has a constructor
abbrev pub constructors : Program → (class : ℕ) → Class → (typestate : Option ℕ) → List Compiled
constructors p c k None = []
constructors p c k (Some t) = constructor p c k ∷ []

-- The code of each method is made by the templates.

abbrev pub methods_in : Program → Class → List Method
methods_in p k = filter_map (slice_get p.methods) k.methods

abbrev pub AreCompiled : Program → List Method → List Compiled → Type 0
AreCompiled p [] [] = Unit {0}
AreCompiled p (m ∷ ms) (c ∷ cs) = ((code : List Instr) × IsCode p m code × (c ≡ compiled p m code)) × AreCompiled p ms cs
AreCompiled p _ _ = ⊥

-- the methods of a class, its constructor first
pub record IsCompiledClass (p : Program) (c : ℕ) (k : Class) (all : List Compiled) : Type 0 where
  pub methods : List Compiled
  pub made : AreCompiled p (methods_in p k) methods
  pub all_are : all ≡ constructors p c k k.typestate ++ methods

-- these classes, the first of which has number c
abbrev pub AreCompiledClasses : Program → (class : ℕ) → List Class → List (List Compiled) → Type 0
AreCompiledClasses p c [] [] = Unit {0}
AreCompiledClasses p c (k ∷ ks) (all ∷ more) = IsCompiledClass p c k all × AreCompiledClasses p (suc c) ks more
AreCompiledClasses p c _ _ = ⊥

pub record IsCompiled (p : Program) (all : List (List Compiled)) : Type 0 where
  pub classes : AreCompiledClasses p 0 p.classes all

-- Class files.

pub record Header : Type 0 where
  pub this_class : ℕ
  pub super_class : ℕ

abbrev pub header : Program → Class → Pooled Header
header p k = do
  t ← class_const (text_at p k.name)
  s ← class_const object_class
  give (record { this_class = t; super_class = s })

-- a private field
abbrev pub field_in_file : Program → Field → Pooled file.Member
field_in_file p f = do
  n ← utf8 (text_at p f.name)
  d ← utf8 (field_descriptor p f.ty)
  give (record { access = 2; name = n; descriptor = d; attributes = [] })

abbrev pub code_in_file : Compiled → Pooled file.Code
code_in_file c = do
  n ← utf8 (codes "Code")
  is ← assembled c.code
  give (record { name = n; max_stack = c.max_stack; max_locals = c.max_locals; instrs = is; attributes = [] })

-- What the code of a method is in a class file, where its constants are found in a pool or appended, and the pool that it leaves.
pub record Emits (p : Program) (m : Method) (pool : List Const) (made : file.Code) (left : List Const) : Type 0 where
  pub code : List Instr
  pub is_code : IsCode p m code
  pub made_is : made ≡ (code_in_file (compiled p m code) pool).0
  pub left_is : left ≡ (code_in_file (compiled p m code) pool).1

abbrev pub method_in_file : Compiled → Pooled file.Member
method_in_file c = do
  n ← utf8 c.name
  d ← utf8 c.descriptor
  code ← code_in_file c
  give (record { access = c.access; name = n; descriptor = d; attributes = file.Coded code ∷ [] })

-- one after another
abbrev pub each : {A B : Type 0} → (A → Pooled B) → List A → Pooled (List B)
each f [] = give []
each f (x ∷ xs) = do
  y ← f x
  ys ← each f xs
  give (y ∷ ys)

pub record Parts : Type 0 where
  pub header : Header
  pub fields : List file.Member
  pub methods : List file.Member

-- first this class and its super class, then the fields, then the methods
abbrev pub parts : Program → Class → List Compiled → Pooled Parts
parts p k methods = do
  h ← header p k
  fs ← each (field_in_file p) k.fields
  ms ← each method_in_file methods
  give (record { header = h; fields = fs; methods = ms })

-- a public class, whose pool is empty at the beginning
abbrev pub class_file : Program → Class → List Compiled → file.Class
class_file p k methods =
    let made = parts p k methods [] in
    record {
      pool = made.1;
      access = 33;
      this_class = made.0.header.this_class;
      super_class = made.0.header.super_class;
      fields = made.0.fields;
      methods = made.0.methods;
      attributes = [];
    }

abbrev pub class_files : Program → List Class → List (List Compiled) → List file.Class
class_files p (k ∷ ks) (methods ∷ more) = class_file p k methods ∷ class_files p ks more
class_files p _ _ = []

-- the class files of a program, one for each class, in their order
pub record AreClasses (p : Program) (files : List file.Class) : Type 0 where
  pub all : List (List Compiled)
  pub compiled : IsCompiled p all
  pub files_are : files ≡ class_files p p.classes all
