-- What may be too large in a class file. All of a part is made before it is judged; the first part that exceeds a limit decides,
-- and of its limits the first. The parts are the header, each field and each method, the constructor first.
use Rattle.std.specs.Prelude.{◌≡◌, ℕ, List, [], ◌∷◌, ◌++◌, length, map}
use Rattle.std.specs.Prelude.{drop, Bool, false, Option, Some, None, option_map, nat_lt, if◌then◌else◌}
use Rattle.std.specs.List.{list_any}
use Rattle.mg_text.specs.Call.{Name}
use Rattle.mg_text.specs.declared.place.Place.{Place}
use Rattle.cls_tree.specs.declared.class.Const.{Const}
use Rattle.cls_tree.specs.declared.class.Const.TheVariants as consts
use Rattle.cls_tree.specs.Modified.{modified}
use Rattle.cls_tree.specs.Layout.{code_bytes}
use Rattle.cls_tree.specs.Emitted.{code_of}
use Rattle.jv_core.specs.Tree.{Field, Class, Program}
use Rattle.jv_core.specs.Lookup.{text_at}
use Rattle.gen_rules.specs.Classes.{Compiled, header, field_in_file, code_in_file, method_in_file, IsCompiled}

-- in their order
pub data Limit : Type 0 where
  -- over 32,767 bytes of code
  CodeTooLong : Limit
  -- over 255 locals
  TooManyLocals : Limit
  -- a pool of over 65,534 constants, so that its count is over 65,535
  PoolFull : Limit
  -- a text of over 65,535 bytes in modified UTF-8
  TextTooLong : Limit

-- a part of a class
pub data Part : Type 0 where
  Names : Part
  OfField : Field → Part
  OfMethod : Compiled → Part

abbrev pub parts_in : Class → List Compiled → List Part
parts_in k methods = Names ∷ (map OfField k.fields ++ map OfMethod methods)

-- the pool behind a part
abbrev pub pool_behind : Program → Class → Part → List Const → List Const
pool_behind p k Names pool = (header p k pool).1
pool_behind p k (OfField f) pool = (field_in_file p f pool).1
pool_behind p k (OfMethod c) pool = (method_in_file c pool).1

abbrev pub code_length : Part → (pool : List Const) → ℕ
code_length (OfMethod c) pool = length (code_bytes (code_of ((method_in_file c pool).0 ∷ [])))
code_length _ pool = 0

abbrev pub locals_in : Part → ℕ
locals_in (OfMethod c) = c.max_locals
locals_in _ = 0

abbrev pub is_long : Const → Bool
is_long (consts.Utf8 text) = nat_lt 65535 (length (modified text))
is_long _ = false

-- the first limit that is exceeded by code of so many bytes, with so many locals, and by a pool that got these constants more
abbrev pub exceeded : (code_length locals : ℕ) → (pool more : List Const) → Option Limit
exceeded code_length locals pool more =
    if nat_lt 32767 code_length then Some CodeTooLong
    else if nat_lt 255 locals then Some TooManyLocals
    else if nat_lt 65534 (length pool) then Some PoolFull
    else if list_any is_long more then Some TextTooLong
    else None

abbrev pub exceeded_by : Program → Class → Part → (pool : List Const) → Option Limit
exceeded_by p k part pool =
    let behind = pool_behind p k part pool in
    exceeded (code_length part pool) (locals_in part) behind (drop (length pool) behind)

-- by the code of a method alone, behind this pool
abbrev pub exceeded_by_code : Compiled → (pool : List Const) → Option Limit
exceeded_by_code c pool =
    let made = code_in_file c pool in
    exceeded (length (code_bytes made.0.instrs)) c.max_locals made.1 (drop (length pool) made.1)

-- where a limit is exceeded: the place and the name of the method, or of the class
pub record Excess : Type 0 where
  pub limit : Limit
  pub place : Place
  pub name : Name

abbrev pub told : Program → Class → Part → Limit → Excess
told p k (OfMethod c) limit = record { limit = limit; place = c.place; name = c.told_as }
told p k _ limit = record { limit = limit; place = k.place; name = text_at p k.name }

-- the first of two, where there is one
abbrev pub or_else : Option Excess → Option Excess → Option Excess
or_else (Some excess) other = Some excess
or_else None other = other

-- in these parts of a class, which begin with this pool
abbrev pub first_in_parts : Program → Class → List Part → (pool : List Const) → Option Excess
first_in_parts p k [] pool = None
first_in_parts p k (part ∷ more) pool =
    or_else (option_map (told p k part) (exceeded_by p k part pool)) (first_in_parts p k more (pool_behind p k part pool))

-- in these classes
abbrev pub first_in_classes : Program → List Class → List (List Compiled) → Option Excess
first_in_classes p (k ∷ ks) (methods ∷ more) = or_else (first_in_parts p k (parts_in k methods) []) (first_in_classes p ks more)
first_in_classes p _ _ = None

-- the first excess of a program's class files, if there is one
pub record IsFirstExcess (p : Program) (excess : Option Excess) : Type 0 where
  pub all : List (List Compiled)
  pub compiled : IsCompiled p all
  pub is : excess ≡ first_in_classes p p.classes all
