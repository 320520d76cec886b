-- What is looked up under the number of a constant.
use Rattle.std.proofs.Common.{◌≡◌, ℕ, ℤ, List, Some, refl, ap, ◌∙◌}
use Rattle.mg_text.specs.Call.{Name}
use Rattle.cls_tree.specs.declared.class.Const.{Const}
use Rattle.cls_tree.specs.declared.class.Const.TheVariants as consts
use Rattle.cls_tree.specs.Pool.{Reference, Int, Letters, const_at, text_at, class_at, name_and_type_at, field_at, method_at, pushed_at}
use Rattle.gen_rules.proofs.Pool.{Is, IsText, IsClassNamed, IsNameAndType, IsField, IsMethod, IsPushed}

const_found : (pool : List Const) (n : ℕ) (c : Const) → Is pool n c → const_at pool n ≡ Some c
const_found pool n c h = ap (const_at pool) h.1 ∙ h.2

pub text_found : (pool : List Const) (n : ℕ) (text : Name) → IsText pool n text → text_at pool n ≡ Some text
text_found pool n text h = rw (const_found pool n (consts.Utf8 text) h) refl

pub class_found : (pool : List Const) (n : ℕ) (name : Name) → IsClassNamed pool n name → class_at pool n ≡ Some name
class_found pool n name h = rw (const_found pool n (consts.Class h.0) h.1) (text_found pool h.0 name h.2)

name_and_type_found : (pool : List Const) (n : ℕ) (name descriptor : Name) → IsNameAndType pool n name descriptor
    → name_and_type_at pool n ≡ Some (record { name = name; descriptor = descriptor })
name_and_type_found pool n name descriptor h =
    rw (const_found pool n (consts.NameAndType h.0 h.1) h.2, text_found pool h.0 name h.3, text_found pool h.1 descriptor h.4) refl

-- a field or a method of a class
abbrev pub named : (class name descriptor : Name) → Reference
named class name descriptor = record { class = class; member = record { name = name; descriptor = descriptor } }

pub field_found : (pool : List Const) (n : ℕ) (class name descriptor : Name) → IsField pool n class name descriptor
    → field_at pool n ≡ Some (named class name descriptor)
field_found pool n class name descriptor h =
    rw (
      const_found pool n (consts.Field h.0 h.1) h.2,
      class_found pool h.0 class h.3,
      name_and_type_found pool h.1 name descriptor
          h.4,
    ) refl

pub method_found : (pool : List Const) (n : ℕ) (class name descriptor : Name) → IsMethod pool n class name descriptor
    → method_at pool n ≡ Some (named class name descriptor)
method_found pool n class name descriptor h =
    rw (
      const_found pool n (consts.Method h.0 h.1) h.2,
      class_found pool h.0 class h.3,
      name_and_type_found pool h.1 name descriptor
          h.4,
    ) refl

pub pushed_found : (pool : List Const) (n : ℕ) (text : List ℕ) → IsPushed pool n text → pushed_at pool n ≡ Some (Letters text)
pushed_found pool n text h = rw (const_found pool n (consts.Text h.0) h.1, text_found pool h.0 text h.2) refl

pub int_found : (pool : List Const) (n : ℕ) (z : ℤ) → Is pool n (consts.Integer z) → pushed_at pool n ≡ Some (Int z)
int_found pool n z h = rw (const_found pool n (consts.Integer z) h) refl
