-- Fields and methods (JVMS 4.5, 4.6), of which methods have code.
use Rattle.std.specs.Prelude.{ℕ, List, [], ◌∷◌, ◌++◌, Option, Some, None, Result, Ok, Bool, ◌||◌, not, if◌then◌else◌, codes}
use Rattle.jcf_tree.specs.declared.class.Const.{Const}
use Rattle.jcf_tree.specs.declared.kind.Kind.TheVariants as needs
use Rattle.jcf_tree.specs.Tree.{Code, Member}
use Rattle.jcf_read.specs.declared.fault.FaultKind.TheVariants as kinds
use Rattle.jcf_read.specs.declared.fault.Fault.{Fault}
use Rattle.jcf_read.specs.declared.attributes.Attribute.{Attribute}
use Rattle.jcf_read.specs.Answer.{◌>>=◌, wrong, folded}
use Rattle.jcf_read.specs.Front.{Front, content, Reader, number_at}
use Rattle.jcf_read.specs.Pool.{Pool, named_at}
use Rattle.jcf_read.specs.Attributes.{attribute_at, ends_at, is_named}
use Rattle.jcf_read.specs.Codes.{code_at}

-- the code that is this attribute
unfoldable pub coded_at : Pool → List Const → Front → Attribute → Result (Code × ℕ) Fault
coded_at pool constants front a = do
  code ← code_at pool constants (content a.to front) a.from
  to ← ends_at code.1 a.to
  Ok (code.0, to)

-- the code of a method, if there was one, and the place behind what was read
abbrev pub Found : Type 0
Found = Option Code × ℕ

-- this code, unless there was one before
abbrev pub first_code : Option Code → ℕ → Result (Code × ℕ) Fault → Result Found Fault
first_code (Some code) at read = wrong kinds.BadAttribute at
first_code None at read = read >>= λ x. Ok (Some x.0, x.1)

-- one attribute of a member more: a method's code is read, others aren't
unfoldable pub code_turn : Pool → List Const → Bool → Front → Found → Result Found Fault
code_turn pool constants is_method front s =
    attribute_at pool front s.1 >>= λ a.
    if not is_method || not (is_named constants a.name (codes "Code")) then Ok (s.0, a.to)
    else first_code s.0 s.1 (coded_at pool constants front a)

unfoldable pub codes_at : Pool → List Const → Bool → Front → ℕ → Result Found Fault
codes_at pool constants is_method front at = do
  n ← number_at 2 front at
  folded (code_turn pool constants is_method front) n.0 (None, n.1)

-- access flags, a name and a descriptor
unfoldable pub head_at : Pool → Reader (ℕ × ℕ × ℕ)
head_at pool front at = do
  access ← number_at 2 front at
  name ← named_at pool needs.Text front access.1
  descriptor ← named_at pool needs.Text front name.1
  Ok ((access.0, name.0, descriptor.0), descriptor.1)

-- a field or a method
unfoldable pub member_at : Pool → List Const → Bool → Reader Member
member_at pool constants is_method front at = do
  head ← head_at pool front at
  code ← codes_at pool constants is_method front head.1
  Ok (record { access = head.0.0; name = head.0.1; descriptor = head.0.2; code = code.0 }, code.1)

-- one field or method more
unfoldable pub member_turn : Pool → List Const → Bool → Front → List Member × ℕ → Result (List Member × ℕ) Fault
member_turn pool constants are_methods front s = do
  member ← member_at pool constants are_methods front s.1
  Ok (s.0 ++ member.0 ∷ [], member.1)

-- fields or methods
unfoldable pub members_at : Pool → List Const → Bool → Reader (List Member)
members_at pool constants are_methods front at = do
  n ← number_at 2 front at
  folded (member_turn pool constants are_methods front) n.0 ([], n.1)
