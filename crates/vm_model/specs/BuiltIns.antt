-- The built-in classes and their members: what class files call them, and by which opcode each member is used (JVMS 6.5).
use Rattle.std.specs.Prelude.{ℕ, codes}
use Rattle.mg_text.specs.Call.{Name}
use Rattle.cls_tree.specs.declared.opcodes.TheConstants.{GETSTATIC, INVOKEVIRTUAL, INVOKESPECIAL, INVOKESTATIC}
use Rattle.cls_tree.specs.Pool.{Reference}
use Rattle.vm_model.specs.declared.linked.Built.{Built}
use Rattle.vm_model.specs.declared.linked.Built.TheVariants as built

abbrev pub object_class : Name
object_class = codes "java/lang/Object"

abbrev pub string_class : Name
string_class = codes "java/lang/String"

abbrev pub system_class : Name
system_class = codes "java/lang/System"

abbrev pub print_stream_class : Name
print_stream_class = codes "java/io/PrintStream"

abbrev pub session_class : Name
session_class = codes "mungo/lib/Session"

-- a member of a built-in class: how references name it, and the opcode that uses it
pub record BuiltMember : Type 0 where
  pub class : Name
  pub name : Name
  pub descriptor : Name
  pub op : ℕ

abbrev pub member : (class name descriptor : Name) → ℕ → BuiltMember
member class name descriptor op = record { class = class; name = name; descriptor = descriptor; op = op }

-- the one table of these members
abbrev pub built_member : Built → BuiltMember
built_member built.Out = member system_class (codes "out") (codes "Ljava/io/PrintStream;") GETSTATIC
built_member built.Init = member object_class (codes "<init>") (codes "()V") INVOKESPECIAL
built_member built.Concat = member string_class (codes "concat") (codes "(Ljava/lang/String;)Ljava/lang/String;") INVOKEVIRTUAL
built_member built.Equals = member string_class (codes "equals") (codes "(Ljava/lang/Object;)Z") INVOKEVIRTUAL
built_member built.ValueOfInt = member string_class (codes "valueOf") (codes "(I)Ljava/lang/String;") INVOKESTATIC
built_member built.ValueOfTruth = member string_class (codes "valueOf") (codes "(Z)Ljava/lang/String;") INVOKESTATIC
built_member built.Println = member print_stream_class (codes "println") (codes "(Ljava/lang/String;)V") INVOKEVIRTUAL
built_member built.Send = member session_class (codes "send") (codes "(Ljava/lang/String;Ljava/lang/String;)V") INVOKESTATIC
built_member built.SendInt = member session_class (codes "sendInt") (codes "(Ljava/lang/String;Ljava/lang/String;I)V") INVOKESTATIC
built_member built.SendTruth = member session_class (codes "sendBoolean") (codes "(Ljava/lang/String;Ljava/lang/String;Z)V") INVOKESTATIC
built_member built.SendText =
    member session_class (codes "sendString") (codes "(Ljava/lang/String;Ljava/lang/String;Ljava/lang/String;)V") INVOKESTATIC
built_member built.Look = member session_class (codes "look") (codes "(Ljava/lang/String;)Ljava/lang/String;") INVOKESTATIC
built_member built.Take = member session_class (codes "take") (codes "(Ljava/lang/String;Ljava/lang/String;)V") INVOKESTATIC
built_member built.TakeInt = member session_class (codes "takeInt") (codes "(Ljava/lang/String;Ljava/lang/String;)I") INVOKESTATIC
built_member built.TakeTruth = member session_class (codes "takeBoolean") (codes "(Ljava/lang/String;Ljava/lang/String;)Z") INVOKESTATIC
built_member built.TakeText =
    member session_class (codes "takeString") (codes "(Ljava/lang/String;Ljava/lang/String;)Ljava/lang/String;") INVOKESTATIC
built_member built.Refuse = member session_class (codes "refuse") (codes "(Ljava/lang/String;Ljava/lang/String;)V") INVOKESTATIC

-- the reference that names a member
abbrev pub reference_of : Built → Reference
reference_of b = record {
  class = (built_member b).class;
  member = record { name = (built_member b).name; descriptor = (built_member b).descriptor };
}
