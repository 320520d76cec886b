-- Reading the bytes of a class from left to right: each function gives a value and the bytes after it.
use Rattle.std.specs.Prelude.{ℕ, zero, suc, ◌+◌, ◌-◌, List, [], ◌∷◌, length, take, drop, Option, Some, None, Bool, true, false, nat_lt}
use Rattle.std.specs.Prelude.{◌==◌, ◌&&◌, count_by, if◌then◌else◌}
use Rattle.std.specs.Int.{cast_signed}
use mir.Syntax.{w32}
use Rattle.byteorder.specs.Endian.{big_number}
use Rattle.mg_read.specs.Reader.{Reader, ◌>>=◌}
use Rattle.cls_tree.specs.declared.class.Const.{Const}
use Rattle.cls_tree.specs.declared.class.Const.TheVariants as consts
use Rattle.cls_tree.specs.Tree.{Instr, Inner, Unread, Attr, Coded, Other, Member, Class}
use Rattle.cls_tree.specs.WellFormed.{is_code}
use Rattle.cls_tree.specs.ClassFile.{names_code}
use Rattle.cls_tree.specs.Jumps.{first_outside}
use Rattle.cls_code.specs.declared.CodeFault.{CodeFault}
use Rattle.cls_code.specs.Code.{unfit}
use Rattle.cls_code.specs.Inner.{instr_in, size_in}
use Rattle.cls_layout.specs.Letters.{letters}

-- a number of n bytes
unfoldable pub number_at : ℕ → Reader ℕ ℕ
number_at n bytes = if nat_lt (length bytes) n then None else Some (big_number n bytes, drop n bytes)

-- what stands behind a number of n bytes that must be this one
unfoldable pub behind : ℕ → ℕ → List ℕ → Option (List ℕ)
behind n wanted bytes = do
  x ← number_at n bytes
  if x.0 == wanted then Some x.1 else None

-- a count, and a text in as many bytes
unfoldable pub text_at : Reader ℕ (List ℕ)
text_at bytes = do
  n ← number_at 2 bytes
  text ← if nat_lt (length n.1) n.0 then None else letters (take n.0 n.1)
  Some (text, drop n.0 n.1)

-- the number of a constant
unfoldable pub one_at : (ℕ → Const) → Reader ℕ Const
one_at make bytes = do
  n ← number_at 2 bytes
  Some (make n.0, n.1)

-- two numbers of two bytes
unfoldable pub pair_at : Reader ℕ (ℕ × ℕ)
pair_at bytes = do
  a ← number_at 2 bytes
  b ← number_at 2 a.1
  Some ((a.0, b.0), b.1)

-- the numbers of two constants
unfoldable pub two_at : (ℕ → ℕ → Const) → Reader ℕ Const
two_at make bytes = do
  p ← pair_at bytes
  Some (make p.0.0 p.0.1, p.1)

-- a signed number of four bytes
unfoldable pub int_at : Reader ℕ Const
int_at bytes = do
  n ← number_at 4 bytes
  Some (consts.Integer (cast_signed w32 n.0), n.1)

-- a constant, by its tag
unfoldable pub tagged_at : ℕ → Reader ℕ Const
tagged_at tag bytes =
    if tag == 1 then (text_at bytes >>= λ t. Some (consts.Utf8 t.0, t.1))
    else if tag == 3 then int_at bytes
    else if tag == 7 then one_at consts.Class bytes
    else if tag == 8 then one_at consts.Text bytes
    else if tag == 9 then two_at consts.Field bytes
    else if tag == 10 then two_at consts.Method bytes
    else if tag == 12 then two_at consts.NameAndType bytes
    else None

unfoldable pub const_at : Reader ℕ Const
const_at [] = None
const_at (tag ∷ bytes) = tagged_at tag bytes

-- an instruction in front of others, where one stands
abbrev pub in_front : Option CodeFault → Instr → Option (List Instr) → Option (List Instr)
in_front (Some fault) i others = None
in_front None i None = None
in_front None i (Some is) = Some (i ∷ is)

-- the instructions that all of the bytes spell from this place on; there are no more than bytes
unfoldable pub instrs_from : ℕ → ℕ → List ℕ → Option (List Instr)
instrs_from zero place bytes = None
instrs_from (suc n) place [] = Some []
instrs_from (suc n) place (b ∷ bytes) =
    in_front (unfit place (b ∷ bytes)) (instr_in place (b ∷ bytes))
    (instrs_from n (place + size_in place (b ∷ bytes)) (drop (size_in place (b ∷ bytes)) (b ∷ bytes)))

abbrev pub is_none : Option ℕ → Bool
is_none None = true
is_none (Some n) = false

-- whether these are a code's instructions, of so many bytes
abbrev pub is_sound : ℕ → List Instr → Bool
is_sound size is = nat_lt 0 size && (nat_lt size 32768 && is_none (first_outside is))

-- the instructions of a code
unfoldable pub instrs_of : List ℕ → Option (List Instr)
instrs_of bytes = do
  is ← instrs_from (suc (length bytes)) 0 bytes
  if is_sound (length bytes) is then Some is else None

-- a length of four bytes, and as many bytes
unfoldable pub run_at : Reader ℕ (List ℕ)
run_at bytes = do
  n ← number_at 4 bytes
  if nat_lt (length n.1) n.0 then None else Some (take n.0 n.1, drop n.0 n.1)

-- an attribute of a code
unfoldable pub inner_at : Reader ℕ Inner
inner_at bytes = do
  name ← number_at 2 bytes
  run ← run_at name.1
  Some (Unread name.0 run.0, run.1)

-- n values, one after the other
unfoldable pub counted : {A : Type 0} → Reader ℕ A → ℕ → Reader ℕ (List A)
counted f zero bytes = Some ([], bytes)
counted f (suc n) bytes = f bytes >>= λ x. counted f n x.1 >>= λ xs. Some (x.0 ∷ xs.0, xs.1)

-- a count, and that many values
unfoldable pub listed_at : {A : Type 0} → Reader ℕ A → Reader ℕ (List A)
listed_at f bytes = do
  n ← number_at 2 bytes
  counted f n.0 n.1

-- a code's instructions, behind their length
unfoldable pub body_at : Reader ℕ (List Instr)
body_at bytes = do
  code ← run_at bytes
  is ← instrs_of code.0
  Some (is, code.1)

-- no handlers, and a code's attributes
unfoldable pub inners_at : Reader ℕ (List Inner)
inners_at bytes = do
  rest ← behind 2 0 bytes
  listed_at inner_at rest

-- two numbers, instructions and attributes
unfoldable pub content_at : ℕ → Reader ℕ Attr
content_at name bytes = do
  sizes ← pair_at bytes
  body ← body_at sizes.1
  inners ← inners_at body.1
  Some (Coded (record { name = name; max_stack = sizes.0.0; max_locals = sizes.0.1; instrs = body.0; attributes = inners.0 }), inners.1)

-- a code behind its name: its length, which its content has, and that
unfoldable pub code_at : ℕ → Reader ℕ Attr
code_at name bytes = do
  len ← number_at 4 bytes
  content ← content_at name len.1
  if length len.1 == len.0 + length content.1 then Some content else None

-- another attribute behind its name
unfoldable pub other_at : ℕ → Reader ℕ Attr
other_at name bytes = do
  run ← run_at bytes
  Some (Other name run.0, run.1)

-- an attribute, of a method or not
unfoldable pub attr_at : List Const → Bool → Reader ℕ Attr
attr_at pool of_method bytes = do
  name ← number_at 2 bytes
  if of_method && names_code pool name.0 then code_at name.0 name.1 else other_at name.0 name.1

-- three numbers of two bytes
unfoldable pub three_at : Reader ℕ (ℕ × ℕ × ℕ)
three_at bytes = do
  a ← number_at 2 bytes
  b ← number_at 2 a.1
  c ← number_at 2 b.1
  Some ((a.0, b.0, c.0), c.1)

-- a field or a method, which has one code at most
unfoldable pub member_at : List Const → Bool → Reader ℕ Member
member_at pool is_method bytes = do
  three ← three_at bytes
  attributes ← listed_at (attr_at pool is_method) three.1
  if nat_lt 1 (count_by is_code attributes.0) then None else Some (
    record {
      access = three.0.0;
      name = three.0.1;
      descriptor =
          three.0.2;
      attributes = attributes.0;
    },
    attributes.1,
  )

-- what stands behind the magic number and the version
unfoldable pub behind_head : List ℕ → Option (List ℕ)
behind_head bytes = do
  minor ← behind 4 3405691582 bytes
  major ← behind 2 0 minor
  behind 2 49 major

-- the pool, behind its count plus one
unfoldable pub pool_at : Reader ℕ (List Const)
pool_at bytes = do
  n ← number_at 2 bytes
  if n.0 == 0 then None else counted const_at (n.0 - 1) n.1

-- fields, methods and attributes
abbrev pub Members : Type 0
Members = List Member × List Member × List Attr

unfoldable pub members_at : List Const → Reader ℕ Members
members_at pool bytes = do
  fields ← listed_at (member_at pool false) bytes
  methods ← listed_at (member_at pool true) fields.1
  attributes ← listed_at (attr_at pool false) methods.1
  Some ((fields.0, methods.0, attributes.0), attributes.1)

-- all of the bytes
unfoldable pub class_at : List ℕ → Option Class
class_at bytes = do
  head ← behind_head bytes
  pool ← pool_at head
  three ← three_at pool.1
  interfaces ← behind 2 0 three.1
  members ← members_at pool.0 interfaces
  if length members.1 == 0 then Some (record {
    pool = pool.0;
    access = three.0.0;
    this_class = three.0.1;
    super_class = three.0.2;
    fields =
        members.0.0;
    methods = members.0.1;
    attributes = members.0.2;
  }) else None
