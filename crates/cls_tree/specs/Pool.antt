-- What stands in a pool of constants under a number, which counts from 1 (JVMS 4.4).
use Rattle.std.specs.Prelude.{ℕ, ℤ, zero, suc, List, Option, Some, None, slice_get, option_map}
use Rattle.mg_text.specs.Call.{Name}
use Rattle.cls_tree.specs.declared.class.Const.{Const}
use Rattle.cls_tree.specs.declared.class.Const.TheVariants as consts

abbrev pub const_at : List Const → ℕ → Option Const
const_at pool zero = None
const_at pool (suc n) = slice_get pool n

-- the number by which a kind of constant is known in a class file
abbrev pub tag_of : Const → ℕ
tag_of (consts.Utf8 text) = 1
tag_of (consts.Integer n) = 3
tag_of (consts.Class name) = 7
tag_of (consts.Text text) = 8
tag_of (consts.Field class member) = 9
tag_of (consts.Method class member) = 10
tag_of (consts.NameAndType name descriptor) = 12

-- the kind of the constant of this number, where there is one
abbrev pub tag_at : List Const → ℕ → Option ℕ
tag_at pool n = option_map tag_of (const_at pool n)

-- a name and a descriptor
pub record Signature : Type 0 where
  pub name : Name
  pub descriptor : Name

-- a field or a method of a class
pub record Reference : Type 0 where
  pub class : Name
  pub member : Signature

-- what an instruction pushes that names a constant
pub data Pushed : Type 0 where
  Int : ℤ → Pushed
  Letters : List ℕ → Pushed

infixl 10 ◌>>=◌
abbrev ◌>>=◌ : {A B : Type 0} → Option A → (A → Option B) → Option B
None >>= f = None
Some a >>= f = f a

abbrev pub text_in : Const → Option Name
text_in (consts.Utf8 text) = Some text
text_in other = None

abbrev pub text_at : List Const → ℕ → Option Name
text_at pool n = do
  c ← const_at pool n
  text_in c

abbrev pub class_in : List Const → Const → Option Name
class_in pool (consts.Class name) = text_at pool name
class_in pool other = None

-- the name of a class
abbrev pub class_at : List Const → ℕ → Option Name
class_at pool n = do
  c ← const_at pool n
  class_in pool c

abbrev pub signature_in : List Const → Const → Option Signature
signature_in pool (consts.NameAndType name descriptor) = do
  n ← text_at pool name
  d ← text_at pool descriptor
  Some (record { name = n; descriptor = d })
signature_in pool other = None

abbrev pub name_and_type_at : List Const → ℕ → Option Signature
name_and_type_at pool n = do
  c ← const_at pool n
  signature_in pool c

abbrev pub reference : List Const → ℕ → ℕ → Option Reference
reference pool class member = do
  c ← class_at pool class
  m ← name_and_type_at pool member
  Some (record { class = c; member = m })

abbrev pub field_in : List Const → Const → Option Reference
field_in pool (consts.Field class member) = reference pool class member
field_in pool other = None

abbrev pub field_at : List Const → ℕ → Option Reference
field_at pool n = do
  c ← const_at pool n
  field_in pool c

abbrev pub method_in : List Const → Const → Option Reference
method_in pool (consts.Method class member) = reference pool class member
method_in pool other = None

abbrev pub method_at : List Const → ℕ → Option Reference
method_at pool n = do
  c ← const_at pool n
  method_in pool c

abbrev pub pushed_in : List Const → Const → Option Pushed
pushed_in pool (consts.Integer n) = Some (Int n)
pushed_in pool (consts.Text text) = option_map Letters (text_at pool text)
pushed_in pool other = None

-- the int or the text that ldc and ldc_w push
abbrev pub pushed_at : List Const → ℕ → Option Pushed
pushed_at pool n = do
  c ← const_at pool n
  pushed_in pool c
