-- A class file (JVMS 4.1) from left to right: the class that all of its bytes spell, or the first thing that is wrong.
use Rattle.std.specs.Prelude.{ℕ, List, [], ◌∷◌, ◌++◌, drop, length, Option, Some, None, Result, Ok, true, false, nat_lt, ◌==◌}
use Rattle.std.specs.Prelude.{◌||◌, ◌&&◌, not, if◌then◌else◌, codes}
use Rattle.jcf_tree.specs.declared.class.Const.{Const}
use Rattle.jcf_tree.specs.declared.kind.Kind.TheVariants as needs
use Rattle.jcf_tree.specs.Tree.{Annotation, Member, Class}
use Rattle.jcf_read.specs.declared.fault.FaultKind.TheVariants as kinds
use Rattle.jcf_read.specs.declared.fault.Fault.{Fault}
use Rattle.jcf_read.specs.Answer.{◌>>=◌, wrong, folded}
use Rattle.jcf_read.specs.Front.{Front, file, content, Reader, number_at}
use Rattle.jcf_read.specs.Pool.{Pool, pool_at, named_at, named_or_none_at}
use Rattle.jcf_read.specs.Constants.{constants_at}
use Rattle.jcf_read.specs.Attributes.{attribute_at, ends_at, is_named}
use Rattle.jcf_read.specs.Annotations.{annotations_at}
use Rattle.jcf_read.specs.Members.{members_at}

-- versions are 45.0 to 69.0: the minor number is wrong behind 69, or else the major one is below 45 or above 69
unfoldable pub version_fault : ℕ → ℕ → Option ℕ
version_fault minor major =
    if major == 69 && not (minor == 0) then Some 4 else if nat_lt major 45 || nat_lt 69 major then Some 6 else None

abbrev pub if_known : Option ℕ → ℕ → Result ℕ Fault
if_known None after = Ok after
if_known (Some offset) after = wrong kinds.Version offset

-- the magic number and the version, and the place behind them
unfoldable pub head_at : Front → Result ℕ Fault
head_at front =
    number_at 4 front 0 >>= λ magic.
    if not (magic.0 == 3405691582) then wrong kinds.BadMagic 0
    else (number_at 2 front magic.1 >>= λ minor. number_at 2 front minor.1 >>= λ major.
    if_known (version_fault minor.0 major.0) major.1)

-- access flags, a class, and its superclass or none
unfoldable pub names_at : Pool → Reader (ℕ × ℕ × ℕ)
names_at pool front at = do
  access ← number_at 2 front at
  this ← named_at pool needs.Class front access.1
  super ← named_or_none_at pool needs.Class front this.1
  Ok ((access.0, this.0, super.0), super.1)

-- one interface more
unfoldable pub interface_turn : Pool → Front → List ℕ × ℕ → Result (List ℕ × ℕ) Fault
interface_turn pool front s = do
  interface ← named_at pool needs.Class front s.1
  Ok (s.0 ++ interface.0 ∷ [], interface.1)

unfoldable pub interfaces_at : Pool → Reader (List ℕ)
interfaces_at pool front at = do
  n ← number_at 2 front at
  folded (interface_turn pool front) n.0 ([], n.1)

-- the source file's name, the annotations, and the place behind what was read
abbrev pub About : Type 0
About = ℕ × List Annotation × ℕ

-- one attribute of a class more: the name of its source file and annotations are read, others aren't
unfoldable pub about_turn : Pool → List Const → Front → About → Result About Fault
about_turn pool constants front s =
    attribute_at pool front s.2 >>= λ a.
    if is_named constants a.name (codes "SourceFile") then
    (named_at pool needs.Text (content a.to front) a.from >>= λ name. ends_at name.1 a.to >>= λ to. Ok (name.0, s.1, to))
    else if is_named constants a.name (codes "RuntimeVisibleAnnotations")
    || is_named constants a.name (codes "RuntimeInvisibleAnnotations") then
    (annotations_at pool (content a.to front) (s.1, a.from) >>= λ all. ends_at all.1 a.to >>= λ to. Ok (s.0, all.0, to))
    else Ok (s.0, s.1, a.to)

unfoldable pub about_at : Pool → List Const → Front → ℕ → Result About Fault
about_at pool constants front at = do
  n ← number_at 2 front at
  folded (about_turn pool constants front) n.0 (0, [], n.1)

-- fields and methods
unfoldable pub both_members_at : Pool → List Const → Front → ℕ → Result (List Member × List Member × ℕ) Fault
both_members_at pool constants front at = do
  fields ← members_at pool constants false front at
  methods ← members_at pool constants true front fields.1
  Ok (fields.0, methods.0, methods.1)

-- what stands behind the count of this pool, up to the end of the file
unfoldable pub contents_at : Pool → Front → ℕ → Result Class Fault
contents_at pool front at = do
  constants ← constants_at pool front at
  names ← names_at pool front constants.1
  interfaces ← interfaces_at pool front names.1
  members ← both_members_at pool constants.0 front interfaces.1
  about ← about_at pool constants.0 front members.2
  if not (about.2 == length front.bytes) then wrong kinds.TrailingBytes about.2 else Ok (record {
    constants = constants.0;
    access = names.0.0;
    this_class = names.0.1;
    super_class = names.0.2;
    interfaces = interfaces.0;
    fields = members.0;
    methods = members.1;
    source_file = about.0;
    annotations = about.1;
  })

-- the class that all of the bytes spell
unfoldable pub class_in : List ℕ → Result Class Fault
class_in bytes = do
  second ← head_at (file bytes)
  count ← number_at 2 (file bytes) second
  if count.0 == 0 then wrong kinds.BadIndex second else contents_at (pool_at count.0 (drop count.1 bytes)) (file bytes) count.1
