-- The linked program that is expected of a program: each method has the linked instruction of each instruction of its code.
-- Constants and jumps stay as they are, and a name becomes the number of the class or member that has it.
use Rattle.std.specs.Prelude.{ℕ, pos, List, [], ◌∷◌, map, false, Option, Some, None}
use Rattle.cls_tree.specs.Pool.{Int, Letters}
use Rattle.cls_tree.specs.Tree as file
use Rattle.cls_tree.specs.Emitted.{code_of}
use Rattle.vm_model.specs.Program.{Args, Instr, FieldOf, MethodOf, ClassOf}
use Rattle.vm_model.specs.Program as machine
use Rattle.vm_model.specs.Links.{Declared, Outline, is_static, loaded, args_by, member_args, field_made, Links}
use Rattle.jv_core.specs.Tree.{Field, Class, Program}
use Rattle.jv_core.specs.Lookup.{text_at}
use Rattle.gen_rules.specs.Symbolic as symbolic
use Rattle.gen_rules.specs.Members.{field_descriptor}
use Rattle.gen_rules.specs.Classes.{Compiled, IsCompiled, class_file, class_files}

-- The classes, their fields and their methods, by what they are called. No field is static.

abbrev pub declared_field : Program → Field → Declared
declared_field p f = record { name = text_at p f.name; descriptor = field_descriptor p f.ty; is_static = false }

abbrev pub declared_method : Compiled → Declared
declared_method c = record { name = c.name; descriptor = c.descriptor; is_static = is_static c.access }

abbrev pub outline_of : Program → Class → List Compiled → Outline
outline_of p k methods = record {
  name = text_at p k.name;
  fields = map (declared_field p) k.fields;
  own = map (declared_field p) k.fields;
  methods = map declared_method methods;
}

abbrev pub outlines_of : Program → List Class → List (List Compiled) → List Outline
outlines_of p (k ∷ ks) (methods ∷ more) = outline_of p k methods ∷ outlines_of p ks more
outlines_of p _ _ = []

-- Instructions, where these are the classes.

abbrev pub or_nothing : Option Args → Args
or_nothing None = machine.Nothing
or_nothing (Some args) = args

abbrev pub linked_operand : List Outline → (op : ℕ) → symbolic.Operand → Args
linked_operand os op symbolic.Nothing = machine.Nothing
linked_operand os op (symbolic.Number n) = machine.Int n
linked_operand os op (symbolic.Constant (Int n)) = machine.Int n
linked_operand os op (symbolic.Constant (Letters text)) = machine.Text text
linked_operand os op (symbolic.Local n) = machine.Local n
linked_operand os op (symbolic.Jump target) = machine.Jump target
linked_operand os op (symbolic.Table default targets) = machine.Table default (pos 0) targets
linked_operand os op (symbolic.Class name) = or_nothing (args_by machine.Class (loaded os name))
linked_operand os op (symbolic.Field r) = or_nothing (member_args os op r)
linked_operand os op (symbolic.Method r) = or_nothing (member_args os op r)

-- the opcode is that of the class file, where ldc may have become ldc_w
abbrev pub linked_code : List Outline → List symbolic.Instr → List file.Instr → List Instr
linked_code os (i ∷ is) (j ∷ js) = record { op = j.op; args = linked_operand os j.op i.operand } ∷ linked_code os is js
linked_code os _ _ = []

abbrev pub linked_method : List Outline → Compiled → file.Member → MethodOf
linked_method os c m = record {
  name = c.name;
  descriptor = c.descriptor;
  is_static = is_static c.access;
  max_stack = c.max_stack;
  max_locals = c.max_locals;
  code = linked_code os c.code (code_of (m ∷ []));
}

abbrev pub linked_methods : List Outline → List Compiled → List file.Member → List MethodOf
linked_methods os (c ∷ cs) (m ∷ ms) = linked_method os c m ∷ linked_methods os cs ms
linked_methods os _ _ = []

abbrev pub linked_class : Program → List Outline → Class → List Compiled → ClassOf
linked_class p os k methods = record {
  name = text_at p k.name;
  fields = map field_made (map (declared_field p) k.fields);
  methods = linked_methods os methods (class_file p k methods).methods;
}

abbrev pub linked_classes : Program → List Outline → List Class → List (List Compiled) → machine.Program
linked_classes p os (k ∷ ks) (methods ∷ more) = linked_class p os k methods ∷ linked_classes p os ks more
linked_classes p os _ _ = []

-- of a program whose methods have these codes
abbrev pub linked_program : Program → List (List Compiled) → machine.Program
linked_program p all = linked_classes p (outlines_of p p.classes all) p.classes all

-- the class files of a program link, and to the program that is expected
abbrev pub AllLink : Program → Type 0
AllLink p = (all : List (List Compiled)) → IsCompiled p all → Links (class_files p p.classes all) (linked_program p all)
