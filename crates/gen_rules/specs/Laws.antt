-- What holds of the templates, of the class files and of the words in which they are written.
use Rattle.std.specs.Prelude.{◌≡◌, ◌↔◌, ℕ, pos, negsuc, List, [], ◌∷◌, Bool}
use Rattle.std.specs.Prelude.{true, false, ◌&&◌, ◌==◌, Option, Some, None, codes, if◌then◌else◌}
use Rattle.std.specs.List.{list_all}
use Rattle.std.specs.Str.{bytes_eq}
use Rattle.jv_tree.specs.declared.tree.Op.TheVariants as ops
use Rattle.jv_tree.specs.declared.built_in.SessionCall.{SessionCall}
use Rattle.jv_core.specs.declared.program.CoreType.{CoreType}
use Rattle.jv_core.specs.Tree.{Expr, Null, Method, Program}
use Rattle.jv_core.specs.Types.{Has}
use Rattle.cls_tree.specs.declared.instr.Form.{Form}
use Rattle.cls_tree.specs.declared.instr.Form.TheVariants as forms
use Rattle.cls_tree.specs.Tree as file
use Rattle.cls_tree.specs.Opcodes.{Opcode, opcodes}
use Rattle.cls_tree.specs.Pool.{Reference}
use Rattle.vm_model.specs.declared.linked.Built.{Built as BuiltIn}
use Rattle.vm_model.specs.declared.linked.Built.TheVariants as built
use Rattle.vm_model.specs.Links.{built_in, built_members}
use Rattle.vm_model.specs.BuiltIns.{object_class}
use Rattle.gen_rules.specs.Symbolic.{Operand, Nothing, Number, Constant, Local, Jump, Table, Class, Field, Method as MethodOf, Instr}
use Rattle.gen_rules.specs.Symbolic as instr
use Rattle.gen_rules.specs.Members.{init_of, out_reference, println_reference, concat_reference, equals_reference}
use Rattle.gen_rules.specs.Members.{value_of_int, value_of_truth, session_member, session_reference}
use Rattle.gen_rules.specs.Typed.{type_of}
use Rattle.gen_rules.specs.Templates.{IsCode}
use Rattle.gen_rules.specs.Classes.{AreClasses}
use Rattle.gen_rules.specs.Limits.{Excess, IsFirstExcess}
use Rattle.gen_rules.specs.inner.Generating.{generated}
use Rattle.gen_rules.specs.inner.Files.{classes_of, excess_of}

-- The templates allow one code for each method, one list of class files for each program, and one first excess at most:
-- those that are generated.
pub record OneCode : Type 0 where
  pub of_method : (p : Program) (m : Method) (code : List Instr) → IsCode p m code ↔ (code ≡ generated p m)
  pub of_program : (p : Program) (files : List file.Class) → AreClasses p files ↔ (files ≡ classes_of p)
  pub first_excess : (p : Program) (excess : Option Excess) → IsFirstExcess p excess ↔ (excess ≡ excess_of p)

-- Types.

abbrev pub IsWritten : Expr → Type 0
IsWritten (Null q) = ⊥
IsWritten _ = Unit {0}

-- an expression that is well typed, and isn't `null`, has the type that its form tells
pub record TypesAgree : Type 0 where
  pub agree : (p : Program) (m : Method) (scope : List ℕ) (e : Expr) (t : CoreType) → IsWritten e → Has p m scope e t →
      type_of p m e ≡ Some t

-- Words.

-- the operand that stands behind an opcode of a form; ldc may become ldc_w
abbrev pub fits_form : Operand → Form → Bool
fits_form Nothing forms.Nothing = true
fits_form (Number n) forms.Byte = true
fits_form (Number n) forms.Short = true
fits_form (Constant c) forms.NearConstant = true
fits_form (Local n) forms.Local = true
fits_form (Jump t) forms.Jump = true
fits_form (Table d ts) forms.Table = true
fits_form (Class c) forms.Class = true
fits_form (Field r) forms.Field = true
fits_form (MethodOf r) forms.Method = true
fits_form _ _ = false

abbrev pub opcode_in : List Opcode → ℕ → Option Opcode
opcode_in [] op = None
opcode_in (o ∷ os) op = if o.number == op then Some o else opcode_in os op

abbrev pub has_name : Option Opcode → Operand → List ℕ → Bool
has_name None operand name = false
has_name (Some o) operand name = bytes_eq o.name name && fits_form operand o.form

-- an instruction, and the name of its opcode
pub record Word : Type 0 where
  pub instr : Instr
  pub name : List ℕ

abbrev pub word : Instr → List ℕ → Word
word i name = record { instr = i; name = name }

abbrev pub is_named : Word → Bool
is_named w = has_name (opcode_in opcodes w.instr.op) w.instr.operand w.name

-- any reference
abbrev some_member : Reference
some_member = init_of object_class

abbrev pub words : List Word
words =
    word instr.aconst_null (codes "aconst_null")
    ∷ word (instr.push (negsuc 0)) (codes "iconst_m1")
    ∷ word (instr.push (pos 0)) (codes "iconst_0")
    ∷ word (instr.push (pos 1)) (codes "iconst_1")
    ∷ word (instr.push (pos 5)) (codes "iconst_5")
    ∷ word (instr.push (pos 6)) (codes "bipush")
    ∷ word (instr.push (pos 127)) (codes "bipush")
    ∷ word (instr.push (negsuc 1)) (codes "bipush")
    ∷ word (instr.push (negsuc 127)) (codes "bipush")
    ∷ word (instr.push (pos 128)) (codes "sipush")
    ∷ word (instr.push (pos 32767)) (codes "sipush")
    ∷ word (instr.push (negsuc 128)) (codes "sipush")
    ∷ word (instr.push (negsuc 32767)) (codes "sipush")
    ∷ word (instr.push (pos 32768)) (codes "ldc")
    ∷ word (instr.push (negsuc 32768)) (codes "ldc")
    ∷ word (instr.push_truth true) (codes "iconst_1")
    ∷ word (instr.push_truth false) (codes "iconst_0")
    ∷ word (instr.push_text []) (codes "ldc")
    ∷ word (instr.iload 0) (codes "iload_0")
    ∷ word (instr.iload 3) (codes "iload_3")
    ∷ word (instr.iload 4) (codes "iload")
    ∷ word (instr.aload 0) (codes "aload_0")
    ∷ word (instr.aload 3) (codes "aload_3")
    ∷ word (instr.aload 4) (codes "aload")
    ∷ word (instr.istore 0) (codes "istore_0")
    ∷ word (instr.istore 3) (codes "istore_3")
    ∷ word (instr.istore 4) (codes "istore")
    ∷ word (instr.astore 0) (codes "astore_0")
    ∷ word (instr.astore 3) (codes "astore_3")
    ∷ word (instr.astore 4) (codes "astore")
    ∷ word instr.pop (codes "pop")
    ∷ word instr.dup (codes "dup")
    ∷ word instr.iadd (codes "iadd")
    ∷ word instr.isub (codes "isub")
    ∷ word instr.imul (codes "imul")
    ∷ word instr.idiv (codes "idiv")
    ∷ word instr.irem (codes "irem")
    ∷ word instr.ineg (codes "ineg")
    ∷ word (instr.ifeq 0) (codes "ifeq")
    ∷ word (instr.ifne 0) (codes "ifne")
    ∷ word (instr.if_icmp ops.Eq 0) (codes "if_icmpeq")
    ∷ word (instr.if_icmp ops.Ne 0) (codes "if_icmpne")
    ∷ word (instr.if_icmp ops.Lt 0) (codes "if_icmplt")
    ∷ word (instr.if_icmp ops.Ge 0) (codes "if_icmpge")
    ∷ word (instr.if_icmp ops.Gt 0) (codes "if_icmpgt")
    ∷ word (instr.if_icmp ops.Le 0) (codes "if_icmple")
    ∷ word (instr.ifnull 0) (codes "ifnull")
    ∷ word (instr.ifnonnull 0) (codes "ifnonnull")
    ∷ word (instr.goto 0) (codes "goto")
    ∷ word (instr.tableswitch 0 []) (codes "tableswitch")
    ∷ word instr.ireturn (codes "ireturn")
    ∷ word instr.areturn (codes "areturn")
    ∷ word instr.return (codes "return")
    ∷ word (instr.getstatic some_member) (codes "getstatic")
    ∷ word (instr.getfield some_member) (codes "getfield")
    ∷ word (instr.putfield some_member) (codes "putfield")
    ∷ word (instr.invokevirtual some_member) (codes "invokevirtual")
    ∷ word (instr.invokespecial some_member) (codes "invokespecial")
    ∷ word (instr.invokestatic some_member) (codes "invokestatic")
    ∷ word (instr.new []) (codes "new")
    ∷ []

abbrev pub IsBuiltIn : Instr → Reference → BuiltIn → Type 0
IsBuiltIn i r b = built_in i.op r built_members ≡ Some b

-- Each instruction is named after its opcode in the table of opcodes and has an operand of its form,
-- and each member of a built-in class is one of those to which class files link.
pub record WordsAreKnown : Type 0 where
  pub named : list_all is_named words ≡ true
  pub init : IsBuiltIn (instr.invokespecial (init_of object_class)) (init_of object_class) built.Init
  pub out : IsBuiltIn (instr.getstatic out_reference) out_reference built.Out
  pub println : IsBuiltIn (instr.invokevirtual println_reference) println_reference built.Println
  pub concat : IsBuiltIn (instr.invokevirtual concat_reference) concat_reference built.Concat
  pub equals : IsBuiltIn (instr.invokevirtual equals_reference) equals_reference built.Equals
  pub of_int : IsBuiltIn (instr.invokestatic value_of_int) value_of_int built.ValueOfInt
  pub of_truth : IsBuiltIn (instr.invokestatic value_of_truth) value_of_truth built.ValueOfTruth
  pub session : (p : Program) (c : SessionCall) → IsBuiltIn (instr.invokestatic (session_reference p c)) (session_reference p c)
      (session_member c)
