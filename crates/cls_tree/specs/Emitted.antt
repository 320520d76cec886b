-- What is emitted with a pool: a constant is found in it by equality or appended, its parts before it.
use Rattle.std.specs.Prelude.{ℕ, suc, List, [], ◌∷◌, ◌++◌, length, Bool, false, ◌&&◌, ◌==◌, Option, Some, None, position, nat_lt}
use Rattle.std.specs.Prelude.{if◌then◌else◌}
use Rattle.std.specs.Str.{bytes_eq}
use Rattle.std.specs.Ordering.{int_eq}
use Rattle.mg_text.specs.Call.{Name}
use Rattle.cls_tree.specs.declared.opcodes.TheConstants.{LDC, LDC_W}
use Rattle.cls_tree.specs.declared.class.Const.{Const}
use Rattle.cls_tree.specs.declared.class.Const.TheVariants.{Utf8, Integer, Class as ClassConst, Text, Field, Method, NameAndType}
use Rattle.cls_tree.specs.Tree.{Instr, Coded, Other, Member}
use Rattle.cls_tree.specs.Tree as args

-- both constants are the same
abbrev pub same_const : Const → Const → Bool
same_const (Utf8 a) (Utf8 b) = bytes_eq a b
same_const (Integer a) (Integer b) = int_eq a b
same_const (ClassConst a) (ClassConst b) = a == b
same_const (Text a) (Text b) = a == b
same_const (Field a b) (Field c d) = a == c && b == d
same_const (Method a b) (Method c d) = a == c && b == d
same_const (NameAndType a b) (NameAndType c d) = a == c && b == d
same_const _ _ = false

-- what is made while constants are added to a pool
abbrev pub Pooled : Type 0 → Type 0
Pooled A = List Const → A × List Const

infixl 10 ◌>>=◌
abbrev pub ◌>>=◌ : {A B : Type 0} → Pooled A → (A → Pooled B) → Pooled B
◌>>=◌ m f pool = f (m pool).0 (m pool).1

abbrev pub give : {A : Type 0} → A → Pooled A
give a pool = (a, pool)

-- the place at which a constant was found, or that of one more at the end
abbrev pub found_or_added : Const → List Const → Option ℕ → ℕ × List Const
found_or_added const pool (Some k) = (suc k, pool)
found_or_added const pool None = (suc (length pool), pool ++ const ∷ [])

-- the number of a constant
unfoldable pub number_of : Const → Pooled ℕ
number_of const pool = found_or_added const pool (position (same_const const) pool)

abbrev pub utf8 : List ℕ → Pooled ℕ
utf8 text = number_of (Utf8 text)

abbrev pub class_const : Name → Pooled ℕ
class_const name = do
  n ← utf8 name
  number_of (ClassConst n)

abbrev pub text_const : List ℕ → Pooled ℕ
text_const text = do
  n ← utf8 text
  number_of (Text n)

abbrev pub name_and_type : Name → Name → Pooled ℕ
name_and_type name descriptor = do
  n ← utf8 name
  d ← utf8 descriptor
  number_of (NameAndType n d)

-- a reference's class stands before its name and type
abbrev pub field_const : Name → Name → Name → Pooled ℕ
field_const class name descriptor = do
  c ← class_const class
  n ← name_and_type name descriptor
  number_of (Field c n)

abbrev pub method_const : Name → Name → Name → Pooled ℕ
method_const class name descriptor = do
  c ← class_const class
  n ← name_and_type name descriptor
  number_of (Method c n)

-- ldc, or ldc_w for numbers over 255
abbrev pub push_const : ℕ → Instr
push_const n = record { op = if nat_lt n 256 then LDC else LDC_W; args = args.Pool n }

-- the code of the first of these methods
abbrev pub code_of : List Member → List Instr
code_of [] = []
code_of (m ∷ ms) = elim m.attributes [ [] ↦ [] | a ∷ more ↦ elim a [ Coded c ↦ c.instrs | Other name bytes ↦ [] ] ]
