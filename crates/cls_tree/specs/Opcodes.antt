-- The opcodes (JVMS 6.5, each under its name), and what stands behind each in the code.
use Rattle.std.specs.Prelude.{ℕ, List, [], ◌∷◌, Option, Some, None, ◌==◌, if◌then◌else◌, codes}
use Rattle.cls_tree.specs.declared.opcodes.TheConstants as numbers
use Rattle.cls_tree.specs.declared.instr.Form.{Form}
use Rattle.cls_tree.specs.declared.instr.Form.TheVariants as forms

pub record Opcode : Type 0 where
  pub number : ℕ
  pub name : List ℕ
  pub form : Form

abbrev pub opcode : ℕ → List ℕ → Form → Opcode
opcode number name form = record { number = number; name = name; form = form }

abbrev pub opcodes : List Opcode
opcodes =
    opcode numbers.ACONST_NULL (codes "aconst_null") forms.Nothing
    ∷ opcode numbers.ICONST_M1 (codes "iconst_m1") forms.Nothing
    ∷ opcode numbers.ICONST_0 (codes "iconst_0") forms.Nothing
    ∷ opcode numbers.ICONST_1 (codes "iconst_1") forms.Nothing
    ∷ opcode numbers.ICONST_2 (codes "iconst_2") forms.Nothing
    ∷ opcode numbers.ICONST_3 (codes "iconst_3") forms.Nothing
    ∷ opcode numbers.ICONST_4 (codes "iconst_4") forms.Nothing
    ∷ opcode numbers.ICONST_5 (codes "iconst_5") forms.Nothing
    ∷ opcode numbers.BIPUSH (codes "bipush") forms.Byte
    ∷ opcode numbers.SIPUSH (codes "sipush") forms.Short
    ∷ opcode numbers.LDC (codes "ldc") forms.NearConstant
    ∷ opcode numbers.LDC_W (codes "ldc_w") forms.Constant
    ∷ opcode numbers.ILOAD (codes "iload") forms.Local
    ∷ opcode numbers.ALOAD (codes "aload") forms.Local
    ∷ opcode numbers.ILOAD_0 (codes "iload_0") forms.Nothing
    ∷ opcode numbers.ILOAD_1 (codes "iload_1") forms.Nothing
    ∷ opcode numbers.ILOAD_2 (codes "iload_2") forms.Nothing
    ∷ opcode numbers.ILOAD_3 (codes "iload_3") forms.Nothing
    ∷ opcode numbers.ALOAD_0 (codes "aload_0") forms.Nothing
    ∷ opcode numbers.ALOAD_1 (codes "aload_1") forms.Nothing
    ∷ opcode numbers.ALOAD_2 (codes "aload_2") forms.Nothing
    ∷ opcode numbers.ALOAD_3 (codes "aload_3") forms.Nothing
    ∷ opcode numbers.ISTORE (codes "istore") forms.Local
    ∷ opcode numbers.ASTORE (codes "astore") forms.Local
    ∷ opcode numbers.ISTORE_0 (codes "istore_0") forms.Nothing
    ∷ opcode numbers.ISTORE_1 (codes "istore_1") forms.Nothing
    ∷ opcode numbers.ISTORE_2 (codes "istore_2") forms.Nothing
    ∷ opcode numbers.ISTORE_3 (codes "istore_3") forms.Nothing
    ∷ opcode numbers.ASTORE_0 (codes "astore_0") forms.Nothing
    ∷ opcode numbers.ASTORE_1 (codes "astore_1") forms.Nothing
    ∷ opcode numbers.ASTORE_2 (codes "astore_2") forms.Nothing
    ∷ opcode numbers.ASTORE_3 (codes "astore_3") forms.Nothing
    ∷ opcode numbers.POP (codes "pop") forms.Nothing
    ∷ opcode numbers.DUP (codes "dup") forms.Nothing
    ∷ opcode numbers.SWAP (codes "swap") forms.Nothing
    ∷ opcode numbers.IADD (codes "iadd") forms.Nothing
    ∷ opcode numbers.ISUB (codes "isub") forms.Nothing
    ∷ opcode numbers.IMUL (codes "imul") forms.Nothing
    ∷ opcode numbers.IDIV (codes "idiv") forms.Nothing
    ∷ opcode numbers.IREM (codes "irem") forms.Nothing
    ∷ opcode numbers.INEG (codes "ineg") forms.Nothing
    ∷ opcode numbers.IINC (codes "iinc") forms.Increment
    ∷ opcode numbers.IFEQ (codes "ifeq") forms.Jump
    ∷ opcode numbers.IFNE (codes "ifne") forms.Jump
    ∷ opcode numbers.IFLT (codes "iflt") forms.Jump
    ∷ opcode numbers.IFGE (codes "ifge") forms.Jump
    ∷ opcode numbers.IFGT (codes "ifgt") forms.Jump
    ∷ opcode numbers.IFLE (codes "ifle") forms.Jump
    ∷ opcode numbers.IF_ICMPEQ (codes "if_icmpeq") forms.Jump
    ∷ opcode numbers.IF_ICMPNE (codes "if_icmpne") forms.Jump
    ∷ opcode numbers.IF_ICMPLT (codes "if_icmplt") forms.Jump
    ∷ opcode numbers.IF_ICMPGE (codes "if_icmpge") forms.Jump
    ∷ opcode numbers.IF_ICMPGT (codes "if_icmpgt") forms.Jump
    ∷ opcode numbers.IF_ICMPLE (codes "if_icmple") forms.Jump
    ∷ opcode numbers.GOTO (codes "goto") forms.Jump
    ∷ opcode numbers.TABLESWITCH (codes "tableswitch") forms.Table
    ∷ opcode numbers.IRETURN (codes "ireturn") forms.Nothing
    ∷ opcode numbers.ARETURN (codes "areturn") forms.Nothing
    ∷ opcode numbers.RETURN (codes "return") forms.Nothing
    ∷ opcode numbers.GETSTATIC (codes "getstatic") forms.Field
    ∷ opcode numbers.GETFIELD (codes "getfield") forms.Field
    ∷ opcode numbers.PUTFIELD (codes "putfield") forms.Field
    ∷ opcode numbers.INVOKEVIRTUAL (codes "invokevirtual") forms.Method
    ∷ opcode numbers.INVOKESPECIAL (codes "invokespecial") forms.Method
    ∷ opcode numbers.INVOKESTATIC (codes "invokestatic") forms.Method
    ∷ opcode numbers.NEW (codes "new") forms.Class
    ∷ opcode numbers.IFNULL (codes "ifnull") forms.Jump
    ∷ opcode numbers.IFNONNULL (codes "ifnonnull") forms.Jump
    ∷ []

abbrev pub form_in : List Opcode → ℕ → Option Form
form_in [] number = None
form_in (o ∷ os) number = if number == o.number then Some o.form else form_in os number

-- what stands behind an opcode, if the number is one
unfoldable pub form_of : ℕ → Option Form
form_of number = form_in opcodes number
