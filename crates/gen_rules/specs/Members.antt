-- The names and descriptors under which a program's classes, fields and methods, and those that are built in, stand in class files.
use Rattle.std.specs.Prelude.{ℕ, List, [], map, Option, Some, None, slice_get, option_and_then, if◌then◌else◌}
use Rattle.mg_text.specs.Call.{Name}
use Rattle.cls_tree.specs.Pool.{Reference}
use Rattle.vm_model.specs.Types.{FieldType, Named, type_text, signature_text, main_signature}
use Rattle.vm_model.specs.Types as descriptors
use Rattle.vm_model.specs.declared.linked.Built.{Built}
use Rattle.vm_model.specs.declared.linked.Built.TheVariants as built
use Rattle.vm_model.specs.BuiltIns.{string_class, session_class, built_member, reference_of}
use Rattle.jv_tree.specs.BuiltIn.{session_method}
use Rattle.jv_tree.specs.declared.built_in.SessionCall.{SessionCall}
use Rattle.jv_tree.specs.declared.built_in.SessionCall.TheVariants as calls
use Rattle.jv_core.specs.declared.program.CoreType.{CoreType}
use Rattle.jv_core.specs.declared.program.CoreType.TheVariants as types
use Rattle.jv_core.specs.Tree.{Field, Method, Program}
use Rattle.jv_core.specs.Lookup.{text_at, class_text, param_types, is_main}
use Rattle.jv_core.specs.Types.{session_params, session_result}

abbrev pub or_empty : Option Name → Name
or_empty None = []
or_empty (Some name) = name

-- the name of the class of a number; in a core there is one
abbrev pub class_name : Program → (class : ℕ) → Name
class_name p c = or_empty (class_text p c)

-- the type of a field, a parameter or a local in a descriptor: the constants of an enum are ints
abbrev pub type_in : Program → CoreType → FieldType
type_in p types.Boolean = descriptors.Truth
type_in p types.Text = Named string_class
type_in p (types.Object c) = Named (class_name p c)
type_in p _ = descriptors.Int

abbrev pub result_in : Program → CoreType → Option FieldType
result_in p types.Void = None
result_in p t = Some (type_in p t)

abbrev pub field_descriptor : Program → CoreType → Name
field_descriptor p t = type_text (type_in p t)

-- with parameters of these types and this result
abbrev pub descriptor_of : Program → List CoreType → CoreType → Name
descriptor_of p params result = signature_text (record { params = map (type_in p) params; result = result_in p result })

-- `main` takes an array of texts, which is no parameter in a core
abbrev pub method_descriptor : Program → Method → Name
method_descriptor p m = if is_main m.kind then signature_text main_signature else descriptor_of p (param_types m) m.result

abbrev pub member : (class name descriptor : Name) → Reference
member class name descriptor = record { class = class; member = record { name = name; descriptor = descriptor } }

-- a field of the class of a number
abbrev pub field_member : Program → (class : ℕ) → Option Field → Reference
field_member p c None = member (class_name p c) [] []
field_member p c (Some f) = member (class_name p c) (text_at p f.name) (field_descriptor p f.ty)

abbrev pub field_reference : Program → (class field : ℕ) → Reference
field_reference p c f = field_member p c (option_and_then (λ k. slice_get k.fields f) (slice_get p.classes c))

abbrev pub method_member : Program → Option Method → Reference
method_member p None = member [] [] []
method_member p (Some m) = member (class_name p m.class) (text_at p m.name) (method_descriptor p m)

-- the method of a number
abbrev pub method_reference : Program → (method : ℕ) → Reference
method_reference p n = method_member p (slice_get p.methods n)

-- constructors are named as that of `Object` is
abbrev pub init_name : Name
init_name = (built_member built.Init).name

abbrev pub init_descriptor : Name
init_descriptor = (built_member built.Init).descriptor

-- the constructor of a class
abbrev pub init_of : Name → Reference
init_of class = member class init_name init_descriptor

-- The members of built-in classes.

abbrev pub out_reference : Reference
out_reference = reference_of built.Out

abbrev pub println_reference : Reference
println_reference = reference_of built.Println

abbrev pub concat_reference : Reference
concat_reference = reference_of built.Concat

abbrev pub equals_reference : Reference
equals_reference = reference_of built.Equals

abbrev pub value_of_int : Reference
value_of_int = reference_of built.ValueOfInt

abbrev pub value_of_truth : Reference
value_of_truth = reference_of built.ValueOfTruth

-- the member that a method of `Session` is
abbrev pub session_member : SessionCall → Built
session_member calls.Send = built.Send
session_member calls.SendInt = built.SendInt
session_member calls.SendBoolean = built.SendTruth
session_member calls.SendString = built.SendText
session_member calls.Look = built.Look
session_member calls.Take = built.Take
session_member calls.TakeInt = built.TakeInt
session_member calls.TakeBoolean = built.TakeTruth
session_member calls.TakeString = built.TakeText
session_member calls.Refuse = built.Refuse

abbrev pub session_name : SessionCall → Name
session_name c = (session_method c).name

-- its descriptor is that of its types
abbrev pub session_reference : Program → SessionCall → Reference
session_reference p c = member session_class (session_name c) (descriptor_of p (session_params c) (session_result c))
