-- The opcodes (JVMS chapter 6, each under its number and name): what stands behind each in the code, and what it does to a frame.
use Rattle.std.specs.Prelude.{ℕ, List, [], ◌∷◌, Option, Some, None, true, false, ◌==◌, if◌then◌else◌, codes}
use Rattle.jcf_tree.specs.declared.kind.Kind.TheVariants as kinds
use Rattle.jcf_effects.specs.declared.operands.Operands.{Operands}
use Rattle.jcf_effects.specs.declared.operands.Operands.TheVariants as forms
use Rattle.jcf_effects.specs.declared.effect.Effect.{Effect}
use Rattle.jcf_effects.specs.declared.effect.Effect.TheVariants as effects
use Rattle.jcf_effects.specs.declared.effect.Local.TheVariants as locals
use Rattle.jcf_effects.specs.declared.effect.Move.TheVariants as moves
use Rattle.jcf_effects.specs.declared.effect.Comparison.TheVariants as comparisons
use Rattle.jcf_effects.specs.declared.effect.Calling.TheVariants as callings
use Rattle.jcf_effects.specs.declared.Row.{Row}

pub record Opcode : Type 0 where
  pub number : ℕ
  pub name : List ℕ
  pub row : Row

abbrev pub opcode : ℕ → List ℕ → Operands → Effect → Opcode
opcode number name operands effect = record { number = number; name = name; row = record { operands = operands; effect = effect } }

abbrev pub opcodes : List Opcode
opcodes =
    opcode 0 (codes "nop") forms.Nothing (effects.Plain 0 0)
    ∷ opcode 1 (codes "aconst_null") forms.Nothing effects.Null
    ∷ opcode 2 (codes "iconst_m1") forms.Nothing (effects.Plain 0 1)
    ∷ opcode 3 (codes "iconst_0") forms.Nothing effects.Zero
    ∷ opcode 4 (codes "iconst_1") forms.Nothing effects.One
    ∷ opcode 5 (codes "iconst_2") forms.Nothing (effects.Plain 0 1)
    ∷ opcode 6 (codes "iconst_3") forms.Nothing (effects.Plain 0 1)
    ∷ opcode 7 (codes "iconst_4") forms.Nothing (effects.Plain 0 1)
    ∷ opcode 8 (codes "iconst_5") forms.Nothing (effects.Plain 0 1)
    ∷ opcode 9 (codes "lconst_0") forms.Nothing (effects.Plain 0 2)
    ∷ opcode 10 (codes "lconst_1") forms.Nothing (effects.Plain 0 2)
    ∷ opcode 11 (codes "fconst_0") forms.Nothing (effects.Plain 0 1)
    ∷ opcode 12 (codes "fconst_1") forms.Nothing (effects.Plain 0 1)
    ∷ opcode 13 (codes "fconst_2") forms.Nothing (effects.Plain 0 1)
    ∷ opcode 14 (codes "dconst_0") forms.Nothing (effects.Plain 0 2)
    ∷ opcode 15 (codes "dconst_1") forms.Nothing (effects.Plain 0 2)
    ∷ opcode 16 (codes "bipush") forms.Byte (effects.Plain 0 1)
    ∷ opcode 17 (codes "sipush") forms.Short (effects.Plain 0 1)
    ∷ opcode 18 (codes "ldc") (forms.NearConstant kinds.Loadable) (effects.Other 0 1)
    ∷ opcode 19 (codes "ldc_w") (forms.Constant kinds.Loadable) (effects.Other 0 1)
    ∷ opcode 20 (codes "ldc2_w") (forms.Constant kinds.WideLoadable) (effects.Other 0 2)
    ∷ opcode 21 (codes "iload") forms.Local (effects.Load 1 locals.Behind)
    ∷ opcode 22 (codes "lload") forms.Local (effects.Load 2 locals.Behind)
    ∷ opcode 23 (codes "fload") forms.Local (effects.Load 1 locals.Behind)
    ∷ opcode 24 (codes "dload") forms.Local (effects.Load 2 locals.Behind)
    ∷ opcode 25 (codes "aload") forms.Local (effects.Load 1 locals.Behind)
    ∷ opcode 26 (codes "iload_0") forms.Nothing (effects.Load 1 (locals.At 0))
    ∷ opcode 27 (codes "iload_1") forms.Nothing (effects.Load 1 (locals.At 1))
    ∷ opcode 28 (codes "iload_2") forms.Nothing (effects.Load 1 (locals.At 2))
    ∷ opcode 29 (codes "iload_3") forms.Nothing (effects.Load 1 (locals.At 3))
    ∷ opcode 30 (codes "lload_0") forms.Nothing (effects.Load 2 (locals.At 0))
    ∷ opcode 31 (codes "lload_1") forms.Nothing (effects.Load 2 (locals.At 1))
    ∷ opcode 32 (codes "lload_2") forms.Nothing (effects.Load 2 (locals.At 2))
    ∷ opcode 33 (codes "lload_3") forms.Nothing (effects.Load 2 (locals.At 3))
    ∷ opcode 34 (codes "fload_0") forms.Nothing (effects.Load 1 (locals.At 0))
    ∷ opcode 35 (codes "fload_1") forms.Nothing (effects.Load 1 (locals.At 1))
    ∷ opcode 36 (codes "fload_2") forms.Nothing (effects.Load 1 (locals.At 2))
    ∷ opcode 37 (codes "fload_3") forms.Nothing (effects.Load 1 (locals.At 3))
    ∷ opcode 38 (codes "dload_0") forms.Nothing (effects.Load 2 (locals.At 0))
    ∷ opcode 39 (codes "dload_1") forms.Nothing (effects.Load 2 (locals.At 1))
    ∷ opcode 40 (codes "dload_2") forms.Nothing (effects.Load 2 (locals.At 2))
    ∷ opcode 41 (codes "dload_3") forms.Nothing (effects.Load 2 (locals.At 3))
    ∷ opcode 42 (codes "aload_0") forms.Nothing (effects.Load 1 (locals.At 0))
    ∷ opcode 43 (codes "aload_1") forms.Nothing (effects.Load 1 (locals.At 1))
    ∷ opcode 44 (codes "aload_2") forms.Nothing (effects.Load 1 (locals.At 2))
    ∷ opcode 45 (codes "aload_3") forms.Nothing (effects.Load 1 (locals.At 3))
    ∷ opcode 46 (codes "iaload") forms.Nothing effects.IntLoad
    ∷ opcode 47 (codes "laload") forms.Nothing (effects.Other 2 2)
    ∷ opcode 48 (codes "faload") forms.Nothing (effects.Other 2 1)
    ∷ opcode 49 (codes "daload") forms.Nothing (effects.Other 2 2)
    ∷ opcode 50 (codes "aaload") forms.Nothing (effects.Other 2 1)
    ∷ opcode 51 (codes "baload") forms.Nothing (effects.Other 2 1)
    ∷ opcode 52 (codes "caload") forms.Nothing (effects.Other 2 1)
    ∷ opcode 53 (codes "saload") forms.Nothing (effects.Other 2 1)
    ∷ opcode 54 (codes "istore") forms.Local (effects.Store 1 locals.Behind)
    ∷ opcode 55 (codes "lstore") forms.Local (effects.Store 2 locals.Behind)
    ∷ opcode 56 (codes "fstore") forms.Local (effects.Store 1 locals.Behind)
    ∷ opcode 57 (codes "dstore") forms.Local (effects.Store 2 locals.Behind)
    ∷ opcode 58 (codes "astore") forms.Local (effects.Store 1 locals.Behind)
    ∷ opcode 59 (codes "istore_0") forms.Nothing (effects.Store 1 (locals.At 0))
    ∷ opcode 60 (codes "istore_1") forms.Nothing (effects.Store 1 (locals.At 1))
    ∷ opcode 61 (codes "istore_2") forms.Nothing (effects.Store 1 (locals.At 2))
    ∷ opcode 62 (codes "istore_3") forms.Nothing (effects.Store 1 (locals.At 3))
    ∷ opcode 63 (codes "lstore_0") forms.Nothing (effects.Store 2 (locals.At 0))
    ∷ opcode 64 (codes "lstore_1") forms.Nothing (effects.Store 2 (locals.At 1))
    ∷ opcode 65 (codes "lstore_2") forms.Nothing (effects.Store 2 (locals.At 2))
    ∷ opcode 66 (codes "lstore_3") forms.Nothing (effects.Store 2 (locals.At 3))
    ∷ opcode 67 (codes "fstore_0") forms.Nothing (effects.Store 1 (locals.At 0))
    ∷ opcode 68 (codes "fstore_1") forms.Nothing (effects.Store 1 (locals.At 1))
    ∷ opcode 69 (codes "fstore_2") forms.Nothing (effects.Store 1 (locals.At 2))
    ∷ opcode 70 (codes "fstore_3") forms.Nothing (effects.Store 1 (locals.At 3))
    ∷ opcode 71 (codes "dstore_0") forms.Nothing (effects.Store 2 (locals.At 0))
    ∷ opcode 72 (codes "dstore_1") forms.Nothing (effects.Store 2 (locals.At 1))
    ∷ opcode 73 (codes "dstore_2") forms.Nothing (effects.Store 2 (locals.At 2))
    ∷ opcode 74 (codes "dstore_3") forms.Nothing (effects.Store 2 (locals.At 3))
    ∷ opcode 75 (codes "astore_0") forms.Nothing (effects.Store 1 (locals.At 0))
    ∷ opcode 76 (codes "astore_1") forms.Nothing (effects.Store 1 (locals.At 1))
    ∷ opcode 77 (codes "astore_2") forms.Nothing (effects.Store 1 (locals.At 2))
    ∷ opcode 78 (codes "astore_3") forms.Nothing (effects.Store 1 (locals.At 3))
    ∷ opcode 79 (codes "iastore") forms.Nothing (effects.Other 3 0)
    ∷ opcode 80 (codes "lastore") forms.Nothing (effects.Other 4 0)
    ∷ opcode 81 (codes "fastore") forms.Nothing (effects.Other 3 0)
    ∷ opcode 82 (codes "dastore") forms.Nothing (effects.Other 4 0)
    ∷ opcode 83 (codes "aastore") forms.Nothing effects.ReferenceStore
    ∷ opcode 84 (codes "bastore") forms.Nothing (effects.Other 3 0)
    ∷ opcode 85 (codes "castore") forms.Nothing (effects.Other 3 0)
    ∷ opcode 86 (codes "sastore") forms.Nothing (effects.Other 3 0)
    ∷ opcode 87 (codes "pop") forms.Nothing (effects.Move moves.Pop)
    ∷ opcode 88 (codes "pop2") forms.Nothing (effects.Move moves.PopTwo)
    ∷ opcode 89 (codes "dup") forms.Nothing (effects.Move moves.Double)
    ∷ opcode 90 (codes "dup_x1") forms.Nothing (effects.Move moves.DoubleBelowOne)
    ∷ opcode 91 (codes "dup_x2") forms.Nothing (effects.Move moves.DoubleBelowTwo)
    ∷ opcode 92 (codes "dup2") forms.Nothing (effects.Move moves.DoubleTwo)
    ∷ opcode 93 (codes "dup2_x1") forms.Nothing (effects.Move moves.DoubleTwoBelowOne)
    ∷ opcode 94 (codes "dup2_x2") forms.Nothing (effects.Move moves.DoubleTwoBelowTwo)
    ∷ opcode 95 (codes "swap") forms.Nothing (effects.Move moves.Swap)
    ∷ opcode 96 (codes "iadd") forms.Nothing (effects.Plain 2 1)
    ∷ opcode 97 (codes "ladd") forms.Nothing (effects.Plain 4 2)
    ∷ opcode 98 (codes "fadd") forms.Nothing (effects.Plain 2 1)
    ∷ opcode 99 (codes "dadd") forms.Nothing (effects.Plain 4 2)
    ∷ opcode 100 (codes "isub") forms.Nothing (effects.Plain 2 1)
    ∷ opcode 101 (codes "lsub") forms.Nothing (effects.Plain 4 2)
    ∷ opcode 102 (codes "fsub") forms.Nothing (effects.Plain 2 1)
    ∷ opcode 103 (codes "dsub") forms.Nothing (effects.Plain 4 2)
    ∷ opcode 104 (codes "imul") forms.Nothing (effects.Plain 2 1)
    ∷ opcode 105 (codes "lmul") forms.Nothing (effects.Plain 4 2)
    ∷ opcode 106 (codes "fmul") forms.Nothing (effects.Plain 2 1)
    ∷ opcode 107 (codes "dmul") forms.Nothing (effects.Plain 4 2)
    ∷ opcode 108 (codes "idiv") forms.Nothing (effects.Other 2 1)
    ∷ opcode 109 (codes "ldiv") forms.Nothing (effects.Other 4 2)
    ∷ opcode 110 (codes "fdiv") forms.Nothing (effects.Plain 2 1)
    ∷ opcode 111 (codes "ddiv") forms.Nothing (effects.Plain 4 2)
    ∷ opcode 112 (codes "irem") forms.Nothing (effects.Other 2 1)
    ∷ opcode 113 (codes "lrem") forms.Nothing (effects.Other 4 2)
    ∷ opcode 114 (codes "frem") forms.Nothing (effects.Plain 2 1)
    ∷ opcode 115 (codes "drem") forms.Nothing (effects.Plain 4 2)
    ∷ opcode 116 (codes "ineg") forms.Nothing (effects.Plain 1 1)
    ∷ opcode 117 (codes "lneg") forms.Nothing (effects.Plain 2 2)
    ∷ opcode 118 (codes "fneg") forms.Nothing (effects.Plain 1 1)
    ∷ opcode 119 (codes "dneg") forms.Nothing (effects.Plain 2 2)
    ∷ opcode 120 (codes "ishl") forms.Nothing (effects.Plain 2 1)
    ∷ opcode 121 (codes "lshl") forms.Nothing (effects.Plain 3 2)
    ∷ opcode 122 (codes "ishr") forms.Nothing (effects.Plain 2 1)
    ∷ opcode 123 (codes "lshr") forms.Nothing (effects.Plain 3 2)
    ∷ opcode 124 (codes "iushr") forms.Nothing (effects.Plain 2 1)
    ∷ opcode 125 (codes "lushr") forms.Nothing (effects.Plain 3 2)
    ∷ opcode 126 (codes "iand") forms.Nothing (effects.Plain 2 1)
    ∷ opcode 127 (codes "land") forms.Nothing (effects.Plain 4 2)
    ∷ opcode 128 (codes "ior") forms.Nothing (effects.Plain 2 1)
    ∷ opcode 129 (codes "lor") forms.Nothing (effects.Plain 4 2)
    ∷ opcode 130 (codes "ixor") forms.Nothing (effects.Plain 2 1)
    ∷ opcode 131 (codes "lxor") forms.Nothing (effects.Plain 4 2)
    ∷ opcode 132 (codes "iinc") forms.Increment effects.Increment
    ∷ opcode 133 (codes "i2l") forms.Nothing (effects.Plain 1 2)
    ∷ opcode 134 (codes "i2f") forms.Nothing (effects.Plain 1 1)
    ∷ opcode 135 (codes "i2d") forms.Nothing (effects.Plain 1 2)
    ∷ opcode 136 (codes "l2i") forms.Nothing (effects.Plain 2 1)
    ∷ opcode 137 (codes "l2f") forms.Nothing (effects.Plain 2 1)
    ∷ opcode 138 (codes "l2d") forms.Nothing (effects.Plain 2 2)
    ∷ opcode 139 (codes "f2i") forms.Nothing (effects.Plain 1 1)
    ∷ opcode 140 (codes "f2l") forms.Nothing (effects.Plain 1 2)
    ∷ opcode 141 (codes "f2d") forms.Nothing (effects.Plain 1 2)
    ∷ opcode 142 (codes "d2i") forms.Nothing (effects.Plain 2 1)
    ∷ opcode 143 (codes "d2l") forms.Nothing (effects.Plain 2 2)
    ∷ opcode 144 (codes "d2f") forms.Nothing (effects.Plain 2 1)
    ∷ opcode 145 (codes "i2b") forms.Nothing (effects.Plain 1 1)
    ∷ opcode 146 (codes "i2c") forms.Nothing (effects.Plain 1 1)
    ∷ opcode 147 (codes "i2s") forms.Nothing (effects.Plain 1 1)
    ∷ opcode 148 (codes "lcmp") forms.Nothing (effects.Plain 4 1)
    ∷ opcode 149 (codes "fcmpl") forms.Nothing (effects.Plain 2 1)
    ∷ opcode 150 (codes "fcmpg") forms.Nothing (effects.Plain 2 1)
    ∷ opcode 151 (codes "dcmpl") forms.Nothing (effects.Plain 4 1)
    ∷ opcode 152 (codes "dcmpg") forms.Nothing (effects.Plain 4 1)
    ∷ opcode 153 (codes "ifeq") forms.Jump (effects.IfZero comparisons.Equal)
    ∷ opcode 154 (codes "ifne") forms.Jump (effects.IfZero comparisons.Unequal)
    ∷ opcode 155 (codes "iflt") forms.Jump (effects.IfZero comparisons.Less)
    ∷ opcode 156 (codes "ifge") forms.Jump (effects.IfZero comparisons.AtLeast)
    ∷ opcode 157 (codes "ifgt") forms.Jump (effects.IfZero comparisons.Greater)
    ∷ opcode 158 (codes "ifle") forms.Jump (effects.IfZero comparisons.AtMost)
    ∷ opcode 159 (codes "if_icmpeq") forms.Jump (effects.IfBoth comparisons.Equal)
    ∷ opcode 160 (codes "if_icmpne") forms.Jump (effects.IfBoth comparisons.Unequal)
    ∷ opcode 161 (codes "if_icmplt") forms.Jump (effects.IfBoth comparisons.Less)
    ∷ opcode 162 (codes "if_icmpge") forms.Jump (effects.IfBoth comparisons.AtLeast)
    ∷ opcode 163 (codes "if_icmpgt") forms.Jump (effects.IfBoth comparisons.Greater)
    ∷ opcode 164 (codes "if_icmple") forms.Jump (effects.IfBoth comparisons.AtMost)
    ∷ opcode 165 (codes "if_acmpeq") forms.Jump (effects.IfSame true)
    ∷ opcode 166 (codes "if_acmpne") forms.Jump (effects.IfSame false)
    ∷ opcode 167 (codes "goto") forms.Jump effects.Go
    ∷ opcode 168 (codes "jsr") forms.Jump effects.Unsupported
    ∷ opcode 169 (codes "ret") forms.Local effects.Unsupported
    ∷ opcode 170 (codes "tableswitch") forms.TableSwitch effects.Switch
    ∷ opcode 171 (codes "lookupswitch") forms.LookupSwitch effects.Switch
    ∷ opcode 172 (codes "ireturn") forms.Nothing (effects.Return 1)
    ∷ opcode 173 (codes "lreturn") forms.Nothing (effects.Return 2)
    ∷ opcode 174 (codes "freturn") forms.Nothing (effects.Return 1)
    ∷ opcode 175 (codes "dreturn") forms.Nothing (effects.Return 2)
    ∷ opcode 176 (codes "areturn") forms.Nothing (effects.Return 1)
    ∷ opcode 177 (codes "return") forms.Nothing (effects.Return 0)
    ∷ opcode 178 (codes "getstatic") (forms.Constant kinds.Field) effects.GetStatic
    ∷ opcode 179 (codes "putstatic") (forms.Constant kinds.Field) effects.PutStatic
    ∷ opcode 180 (codes "getfield") (forms.Constant kinds.Field) effects.GetField
    ∷ opcode 181 (codes "putfield") (forms.Constant kinds.Field) effects.PutField
    ∷ opcode 182 (codes "invokevirtual") (forms.Constant kinds.Method) (effects.Call callings.Virtual)
    ∷ opcode 183 (codes "invokespecial") (forms.Constant kinds.AnyMethod) (effects.Call callings.Special)
    ∷ opcode 184 (codes "invokestatic") (forms.Constant kinds.AnyMethod) (effects.Call callings.Static)
    ∷ opcode 185 (codes "invokeinterface") forms.Interface (effects.Call callings.Interface)
    ∷ opcode 186 (codes "invokedynamic") forms.Dynamic (effects.Call callings.Dynamic)
    ∷ opcode 187 (codes "new") (forms.Constant kinds.Class) effects.New
    ∷ opcode 188 (codes "newarray") forms.Byte (effects.Other 1 1)
    ∷ opcode 189 (codes "anewarray") (forms.Constant kinds.Class) (effects.Other 1 1)
    ∷ opcode 190 (codes "arraylength") forms.Nothing (effects.Other 1 1)
    ∷ opcode 191 (codes "athrow") forms.Nothing effects.Throw
    ∷ opcode 192 (codes "checkcast") (forms.Constant kinds.Class) effects.CheckCast
    ∷ opcode 193 (codes "instanceof") (forms.Constant kinds.Class) (effects.Other 1 1)
    ∷ opcode 194 (codes "monitorenter") forms.Nothing (effects.Other 1 0)
    ∷ opcode 195 (codes "monitorexit") forms.Nothing (effects.Other 1 0)
    ∷ opcode 196 (codes "wide") forms.Wide effects.Wide
    ∷ opcode 197 (codes "multianewarray") forms.Dimensions effects.NewArrays
    ∷ opcode 198 (codes "ifnull") forms.Jump (effects.IfNull true)
    ∷ opcode 199 (codes "ifnonnull") forms.Jump (effects.IfNull false)
    ∷ opcode 200 (codes "goto_w") forms.FarJump effects.Go
    ∷ opcode 201 (codes "jsr_w") forms.FarJump effects.Unsupported
    ∷ []

-- the row of the first opcode with this number
abbrev pub row_among : List Opcode → ℕ → Option Row
row_among [] number = None
row_among (o ∷ others) number = if o.number == number then Some o.row else row_among others number

unfoldable pub row_of : ℕ → Option Row
row_of number = row_among opcodes number
