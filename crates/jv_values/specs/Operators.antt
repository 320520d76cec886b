-- Operators. Ints are 32-bit two's complement: sums, differences and products wrap, quotients are cut toward zero,
-- and a remainder has the sign of the dividend (JLS 15.15 to 15.24).
use Rattle.std.specs.Prelude.{ℕ, Bool, true, false, not, ◌&&◌, List, ◌++◌, Option, Some, None, ℤ, pos, ◌+ℤ◌, ◌-ℤ◌, ◌*ℤ◌, neg_ℤ, int_lt}
use Rattle.std.specs.Prelude.{int_le, int_div, int_rem, nat_eq, codes, if◌then◌else◌}
use Rattle.std.specs.Int.{int_wrap}
use Rattle.std.specs.Fmt.{signed_decimal}
use Rattle.std.specs.Str.{bytes_eq}
use mir.Syntax.{w32}
use Rattle.mg_text.specs.declared.event.Event.TheVariants as seen
use Rattle.jv_tree.specs.declared.tree.Op.{Op}
use Rattle.jv_tree.specs.declared.tree.Op.TheVariants as ops
use Rattle.jv_values.specs.Values.{Value, Int, Truth, Text, Object, Constant, Zero, Wrong, Shared}
use Rattle.jv_values.specs.Values as values
use Rattle.jv_values.specs.Doing.{Run, ◌>>=◌, give, stop, note, found, number, truth, text}

pub data Operator : Type 0 where
  Or And Equal Unequal Less AtMost Greater AtLeast Plus Minus Times Divide Remain : Operator

-- what stands for an operator of the trees
abbrev pub operator_of : Op → Operator
operator_of ops.Or = Or
operator_of ops.And = And
operator_of ops.Eq = Equal
operator_of ops.Ne = Unequal
operator_of ops.Lt = Less
operator_of ops.Le = AtMost
operator_of ops.Gt = Greater
operator_of ops.Ge = AtLeast
operator_of ops.Add = Plus
operator_of ops.Sub = Minus
operator_of ops.Mul = Times
operator_of ops.Div = Divide
operator_of ops.Rem = Remain

abbrev pub wrap : ℤ → ℤ
wrap z = int_wrap w32 z

abbrev pub int_same : ℤ → ℤ → Bool
int_same x y = int_le x y && int_le y x

-- an int that no zero may divide
abbrev pub nonzero : ℤ → Run Shared ℤ
nonzero y = if int_same y (pos 0) then stop Zero else give y

-- the text that is printed of a value, and that `+` joins to a text
abbrev pub shown : Value → Option (List ℕ)
shown (Int z) = Some (signed_decimal z)
shown (Truth b) = Some (if b then codes "true" else codes "false")
shown (Text t) = Some t
shown _ = None

abbrev pub joined : Option (List ℕ) → Option (List ℕ) → Run Shared Value
joined s t = do
  a ← found s
  b ← found t
  give (Text (a ++ b))

-- two ints have a sum, and a text and what can be shown are joined
abbrev pub sum : Value → Value → Run Shared Value
sum (Int x) (Int y) = give (Int (wrap (x +ℤ y)))
sum (Text a) w = joined (Some a) (shown w)
sum v (Text b) = joined (shown v) (Some b)
sum _ _ = stop Wrong

-- an int of two ints
abbrev pub computed : (ℤ → ℤ → Run Shared ℤ) → Value → Value → Run Shared Value
computed f v w = do
  x ← number v
  y ← number w
  z ← f x y
  give (Int z)

-- a truth value of two ints
abbrev pub compared : (ℤ → ℤ → Bool) → Value → Value → Run Shared Value
compared f v w = do
  x ← number v
  y ← number w
  give (Truth (f x y))

-- two ints, two truth values, two constants of one enum, or an object or null and null
abbrev pub same : Value → Value → Run Shared Bool
same (Int x) (Int y) = give (int_same x y)
same (Truth true) (Truth b) = give b
same (Truth false) (Truth b) = give (not b)
same (Constant e n) (Constant f k) = if bytes_eq e f then give (nat_eq n k) else stop Wrong
same (Object n) values.Null = give false
same values.Null (Object n) = give false
same values.Null values.Null = give true
same _ _ = stop Wrong

-- a second operand is evaluated where the first one is this
abbrev pub unless_decided : (going_on : Bool) → (a b : Run Shared Value) → Run Shared Value
unless_decided going_on a b = do
  v ← a
  x ← truth v
  if (if going_on then x else not x) then b else give (Truth x)

abbrev pub both : (Value → Value → Run Shared Value) → (a b : Run Shared Value) → Run Shared Value
both f a b = do
  v ← a
  w ← b
  f v w

-- what an operator gives of two values, where it always takes both
abbrev pub applied : Operator → Value → Value → Run Shared Value
applied Plus v w = sum v w
applied Minus v w = computed (λ x y. give (wrap (x -ℤ y))) v w
applied Times v w = computed (λ x y. give (wrap (x *ℤ y))) v w
applied Divide v w = computed (λ x y. nonzero y >>= λ d. give (wrap (int_div x d))) v w
applied Remain v w = computed (λ x y. nonzero y >>= λ d. give (int_rem x d)) v w
applied Less v w = compared int_lt v w
applied AtMost v w = compared int_le v w
applied Greater v w = compared (λ x y. int_lt y x) v w
applied AtLeast v w = compared (λ x y. int_le y x) v w
applied Equal v w = same v w >>= λ b. give (Truth b)
applied Unequal v w = same v w >>= λ b. give (Truth (not b))
applied _ v w = stop Wrong

-- the first operand is evaluated first; `&&` and `||` leave the second out where the first decides
abbrev pub binary : Operator → (a b : Run Shared Value) → Run Shared Value
binary And a b = unless_decided true a b
binary Or a b = unless_decided false a b
binary operator a b = both (applied operator) a b

abbrev pub negative : Value → Run Shared Value
negative v = number v >>= λ x. give (Int (wrap (neg_ℤ x)))

abbrev pub opposite : Value → Run Shared Value
opposite v = truth v >>= λ b. give (Truth (not b))

-- `v.equals(w)` and `v.concat(w)` of texts

abbrev pub equal_texts : Value → Value → Run Shared Value
equal_texts v w = do
  s ← text v
  t ← text w
  give (Truth (bytes_eq s t))

abbrev pub joined_texts : Value → Value → Run Shared Value
joined_texts v w = do
  s ← text v
  t ← text w
  give (Text (s ++ t))

abbrev pub print : Value → Run Shared (Unit {0})
print v = found (shown v) >>= λ t. note (seen.Print t)
