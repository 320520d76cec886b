-- The constants of the pool (JVMS 4.4), one behind the other; each number of a constant is judged where it stands.
use Rattle.std.specs.Prelude.{ℕ, ◌-◌, List, [], ◌∷◌, ◌++◌, Result, Ok, Bool, true, false, nat_le, ◌==◌, ◌||◌, ◌&&◌, if◌then◌else◌}
use Rattle.std.specs.Int.{cast_signed}
use mir.Syntax.{w32}
use Rattle.jcf_tree.specs.declared.class.Const.{Const}
use Rattle.jcf_tree.specs.declared.class.Const.TheVariants as consts
use Rattle.jcf_tree.specs.declared.kind.Kind.{Kind}
use Rattle.jcf_tree.specs.declared.kind.Kind.TheVariants as needs
use Rattle.jcf_read.specs.declared.fault.FaultKind.TheVariants as kinds
use Rattle.jcf_read.specs.declared.fault.Fault.{Fault}
use Rattle.jcf_read.specs.Answer.{◌>>=◌, wrong, folded}
use Rattle.jcf_read.specs.Front.{Front, Reader, number_at, run_at}
use Rattle.jcf_read.specs.Pool.{Pool, is_tag, named_at}
use Rattle.jcf_read.specs.Letters.{is_modified}

-- a length, and a text of so many bytes
unfoldable pub text_at : Reader (List ℕ)
text_at front at = do
  n ← number_at 2 front at
  text ← run_at n.0 front n.1
  if is_modified text.0 then Ok text else wrong kinds.BadText n.1

-- the two halves of a long or a double
unfoldable pub halves_at : Reader (ℕ × ℕ)
halves_at front at = do
  high ← number_at 4 front at
  low ← number_at 4 front high.1
  Ok ((high.0, low.0), low.1)

-- the numbers of two constants of these kinds
unfoldable pub both_at : Pool → Kind → Kind → Reader (ℕ × ℕ)
both_at pool first second front at = do
  one ← named_at pool first front at
  two ← named_at pool second front one.1
  Ok ((one.0, two.0), two.1)

-- what a handle of this kind uses (JVMS 4.4.8): a field, a method, one of a class or an interface, or one of an interface
abbrev pub used_as : ℕ → Kind
used_as kind =
    if nat_le 1 kind && nat_le kind 4 then needs.Field
    else if kind == 5 || kind == 8 then needs.Method
    else if kind == 6 || kind == 7 then needs.AnyMethod
    else if kind == 9 then needs.InterfaceMethod
    else needs.Nothing

-- the kind of a handle, and what it uses
unfoldable pub handle_at : Pool → Reader (ℕ × ℕ)
handle_at pool front at = do
  kind ← number_at 1 front at
  used ← named_at pool (used_as kind.0) front kind.1
  Ok ((kind.0, used.0), used.1)

-- the number of a bootstrap method, and a name and type
unfoldable pub linked_at : Pool → Reader (ℕ × ℕ)
linked_at pool front at = do
  bootstrap ← number_at 2 front at
  member ← named_at pool needs.NameAndType front bootstrap.1
  Ok ((bootstrap.0, member.0), member.1)

abbrev pub made : {A : Type 0} → (A → Const) → Result (A × ℕ) Fault → Result (Const × ℕ) Fault
made make read = read >>= λ x. Ok (make x.0, x.1)

abbrev pub pair : (ℕ → ℕ → Const) → ℕ × ℕ → Const
pair make p = make p.0 p.1

-- what a constant holds with a tag that class files have from version 51 on
unfoldable pub later_tagged_at : Pool → ℕ → Reader Const
later_tagged_at pool tag front at =
    if tag == 15 then made (pair consts.MethodHandle) (handle_at pool front at)
    else if tag == 16 then made consts.MethodType (named_at pool needs.Text front at)
    else if tag == 17 then made (pair consts.Dynamic) (linked_at pool front at)
    else if tag == 18 then made (pair consts.DynamicCall) (linked_at pool front at)
    else if tag == 19 then made consts.Module (named_at pool needs.Text front at)
    else made consts.Package (named_at pool needs.Text front at)

-- what a constant with this tag holds
unfoldable pub tagged_at : Pool → ℕ → Reader Const
tagged_at pool tag front at =
    if tag == 1 then made consts.Text (text_at front at)
    else if tag == 3 then made (λ bits. consts.Integer (cast_signed w32 bits)) (number_at 4 front at)
    else if tag == 4 then made consts.Float (number_at 4 front at)
    else if tag == 5 then made (pair consts.Long) (halves_at front at)
    else if tag == 6 then made (pair consts.Double) (halves_at front at)
    else if tag == 7 then made consts.Class (named_at pool needs.Text front at)
    else if tag == 8 then made consts.String (named_at pool needs.Text front at)
    else if tag == 9 then made (pair consts.Field) (both_at pool needs.Class needs.NameAndType front at)
    else if tag == 10 then made (pair consts.Method) (both_at pool needs.Class needs.NameAndType front at)
    else if tag == 11 then made (pair consts.InterfaceMethod) (both_at pool needs.Class needs.NameAndType front at)
    else if tag == 12 then made (pair consts.NameAndType) (both_at pool needs.Text needs.Text front at)
    else later_tagged_at pool tag front at

-- a constant behind its tag
unfoldable pub const_at : Pool → Reader Const
const_at pool front at = do
  tag ← number_at 1 front at
  if is_tag tag.0 then tagged_at pool tag.0 front tag.1 else wrong kinds.BadTag at

-- a long and a double take two numbers
abbrev pub is_two : Const → Bool
is_two (consts.Long high low) = true
is_two (consts.Double high low) = true
is_two other = false

-- what was read of the pool: constants, whether the next number is the second of a long or a double, and the place behind them
abbrev pub Begun : Type 0
Begun = List Const × Bool × ℕ

-- the constant of one more number
unfoldable pub const_turn : Pool → Front → Begun → Result Begun Fault
const_turn pool front b =
    if b.1 then Ok (b.0 ++ consts.Unused ∷ [], false, b.2)
    else (const_at pool front b.2 >>= λ c. Ok (b.0 ++ c.0 ∷ [], is_two c.0, c.1))

-- all constants of the pool, which doesn't end between the two numbers of one
unfoldable pub constants_at : Pool → Reader (List Const)
constants_at pool front at = do
  b ← folded (const_turn pool front) (pool.count - 1) ([], false, at)
  if b.1 then wrong kinds.BadIndex b.2 else Ok (b.0, b.2)
