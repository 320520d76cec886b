-- The number of the constant with which an instruction works.
use Rattle.std.specs.Prelude.{ℕ}
use Rattle.cls_tree.specs.declared.class.Const.TheVariants.{Integer}
use Rattle.cls_tree.specs.Pool.{Int, Letters, Reference}
use Rattle.cls_tree.specs.Emitted.{Pooled, give, number_of, class_const, text_const, field_const, method_const}
use Rattle.gen_rules.specs.Symbolic.{Operand, Constant, Class, Field, Method}

abbrev pub field_of_reference : Reference → Pooled ℕ
field_of_reference r = field_const r.class r.member.name r.member.descriptor

abbrev pub method_of_reference : Reference → Pooled ℕ
method_of_reference r = method_const r.class r.member.name r.member.descriptor

-- 0 where it has none
abbrev pub constant_of : Operand → Pooled ℕ
constant_of (Constant (Int n)) = number_of (Integer n)
constant_of (Constant (Letters text)) = text_const text
constant_of (Class name) = class_const name
constant_of (Field r) = field_of_reference r
constant_of (Method r) = method_of_reference r
constant_of _ = give 0
