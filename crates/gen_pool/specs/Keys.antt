-- What a key of the pool stands for.
use Rattle.std.specs.Prelude.{string_bytes}
use Rattle.cls_tree.specs.declared.class.Const.{Const}
use Rattle.cls_tree.specs.declared.class.Const.TheVariants as consts
use Rattle.gen_pool.specs.declared.key.Key.{Key}
use Rattle.gen_pool.specs.declared.key.Key.TheVariants as keys

-- the constant of a key
abbrev pub const_of : Key → Const
const_of (keys.Utf8 text) = consts.Utf8 (string_bytes text)
const_of (keys.Integer number) = consts.Integer number
const_of (keys.Class name) = consts.Class name
const_of (keys.Text text) = consts.Text text
const_of (keys.Field class member) = consts.Field class member
const_of (keys.Method class member) = consts.Method class member
const_of (keys.NameAndType name descriptor) = consts.NameAndType name descriptor
