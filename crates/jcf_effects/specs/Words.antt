-- What the rows say in numbers: bytes behind an opcode, words that are taken and given, and which instructions may throw.
use Rattle.std.specs.Prelude.{ℕ, Option, Some, None, Bool, true, false}
use Rattle.jcf_effects.specs.declared.operands.Operands.{Operands}
use Rattle.jcf_effects.specs.declared.operands.Operands.TheVariants as forms
use Rattle.jcf_effects.specs.declared.effect.Effect.{Effect}
use Rattle.jcf_effects.specs.declared.effect.Effect.TheVariants as effects
use Rattle.jcf_effects.specs.declared.effect.Move.{Move}
use Rattle.jcf_effects.specs.declared.effect.Move.TheVariants as moves

-- how many bytes stand behind an opcode, where that hangs on no other byte
abbrev pub fixed_bytes : Operands → Option ℕ
fixed_bytes forms.Nothing = Some 0
fixed_bytes forms.Byte = Some 1
fixed_bytes forms.Short = Some 2
fixed_bytes forms.Local = Some 1
fixed_bytes forms.Increment = Some 2
fixed_bytes forms.Jump = Some 2
fixed_bytes forms.FarJump = Some 4
fixed_bytes (forms.NearConstant kind) = Some 1
fixed_bytes (forms.Constant kind) = Some 2
fixed_bytes forms.Interface = Some 4
fixed_bytes forms.Dynamic = Some 4
fixed_bytes forms.Dimensions = Some 3
fixed_bytes forms.TableSwitch = None
fixed_bytes forms.LookupSwitch = None
fixed_bytes forms.Wide = None

abbrev pub moved : Move → ℕ × ℕ
moved moves.Pop = (1, 0)
moved moves.PopTwo = (2, 0)
moved moves.Double = (1, 2)
moved moves.DoubleBelowOne = (2, 3)
moved moves.DoubleBelowTwo = (3, 4)
moved moves.DoubleTwo = (2, 4)
moved moves.DoubleTwoBelowOne = (3, 5)
moved moves.DoubleTwoBelowTwo = (4, 6)
moved moves.Swap = (2, 2)

-- how many words an instruction takes and gives, where that hangs on no descriptor and no operand
abbrev pub words : Effect → Option (ℕ × ℕ)
words (effects.Plain takes gives) = Some (takes, gives)
words (effects.Other takes gives) = Some (takes, gives)
words effects.Null = Some (0, 1)
words effects.Zero = Some (0, 1)
words effects.One = Some (0, 1)
words (effects.Load n local) = Some (0, n)
words (effects.Store n local) = Some (n, 0)
words (effects.Move move) = Some (moved move)
words effects.Increment = Some (0, 0)
words effects.IntLoad = Some (2, 1)
words effects.ReferenceStore = Some (3, 0)
words (effects.IfZero comparison) = Some (1, 0)
words (effects.IfBoth comparison) = Some (2, 0)
words (effects.IfSame same) = Some (2, 0)
words (effects.IfNull null) = Some (1, 0)
words effects.Go = Some (0, 0)
words effects.Switch = Some (1, 0)
words effects.GetStatic = None
words effects.PutStatic = None
words effects.GetField = None
words effects.PutField = None
words effects.New = Some (0, 1)
words effects.NewArrays = None
words effects.CheckCast = Some (1, 1)
words (effects.Call calling) = None
words (effects.Return n) = Some (n, 0)
words effects.Throw = Some (1, 0)
words effects.Wide = None
words effects.Unsupported = None

-- An instruction may throw unless it is a constant that is none of the pool, a load or store of a local, a move of operands,
-- arithmetic but division and remainder of ints and longs, a conversion, a comparison, a jump or a switch.
abbrev pub may_throw : Effect → Bool
may_throw (effects.Plain takes gives) = false
may_throw (effects.Other takes gives) = true
may_throw effects.Null = false
may_throw effects.Zero = false
may_throw effects.One = false
may_throw (effects.Load n local) = false
may_throw (effects.Store n local) = false
may_throw (effects.Move move) = false
may_throw effects.Increment = false
may_throw effects.IntLoad = true
may_throw effects.ReferenceStore = true
may_throw (effects.IfZero comparison) = false
may_throw (effects.IfBoth comparison) = false
may_throw (effects.IfSame same) = false
may_throw (effects.IfNull null) = false
may_throw effects.Go = false
may_throw effects.Switch = false
may_throw effects.GetStatic = true
may_throw effects.PutStatic = true
may_throw effects.GetField = true
may_throw effects.PutField = true
may_throw effects.New = true
may_throw effects.NewArrays = true
may_throw effects.CheckCast = true
may_throw (effects.Call calling) = true
may_throw (effects.Return n) = true
may_throw effects.Throw = true
may_throw effects.Wide = false
may_throw effects.Unsupported = true
