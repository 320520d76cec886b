-- Each constant of a pool that grew by the constants of instructions that can be encoded stands: its numbers name what they need,
-- its texts are UTF-8, and its ints are of 32 bits.
use Rattle.std.proofs.Common.{◌≡◌, ℕ, zero, suc, ◌<◌, ◌≤◌, false, List, [], ◌∷◌, ◌++◌, length, Option, Some, None}
use Rattle.std.proofs.Common.{slice_get, position, refl, sym, ap, subst, arith, IsUtf8, FitsSigned, option_map, ltb-false}
use Rattle.std.specs.List.{AllByRecursion}
use mir.Syntax.{w32}
use Rattle.cls_tree.specs.declared.class.Const.{Const}
use Rattle.cls_tree.specs.declared.class.Const.TheVariants.{Utf8, Integer, Class as ClassConst, Text, Field, Method, NameAndType}
use Rattle.cls_tree.specs.Emitted.{Pooled, ◌>>=◌, give, found_or_added, number_of, same_const}
use Rattle.cls_tree.specs.Emitted.{utf8, class_const, text_const, name_and_type, field_const, method_const, push_const}
use Rattle.cls_tree.specs.Fits.{IsU2, FitsConst}
use Rattle.cls_tree.specs.Pool.{Int, Letters, tag_of, tag_at}
use Rattle.cls_tree.specs.Modified.{modified}
use Rattle.cls_tree.specs.WellFormed.{ConstNames}
use Rattle.cls_tree.specs.Tree as file
use Rattle.gen_rules.specs.Symbolic as symbolic
use Rattle.gen_rules.specs.Symbolic.{Operand, Instr}
use Rattle.gen_rules.specs.Assembled.{file_instr, numbered_by, all_numbered}
use Rattle.gen_rules.specs.Limits.{is_long}
use Rattle.gen_rules.proofs.Pool.{Grows, Gives, Is, is-grown, IsText}
use Rattle.gen_rules.proofs.Pool.{utf8-gives, class_const-gives, name_and_type-gives}
use Rattle.gen_links.specs.Encodable.{IsEncodableBy, AreEncodable}

abbrev Names : List Const → ℕ → Type 0
Names pool n = (text : List ℕ) × IsText pool n text

abbrev NamesClass : List Const → ℕ → Type 0
NamesClass pool n = (k : ℕ) × Is pool n (ClassConst k)

abbrev NamesMember : List Const → ℕ → Type 0
NamesMember pool n = (a b : ℕ) × Is pool n (NameAndType a b)

abbrev pub Stands : List Const → Const → Type 0
Stands pool (Utf8 text) = IsUtf8 text
Stands pool (Integer n) = FitsSigned w32 n
Stands pool (ClassConst n) = Names pool n
Stands pool (Text n) = Names pool n
Stands pool (Field a b) = NamesClass pool a × NamesMember pool b
Stands pool (Method a b) = NamesClass pool a × NamesMember pool b
Stands pool (NameAndType a b) = Names pool a × Names pool b

stands-grown : {pool larger : List Const} → Grows pool larger → (c : Const) → Stands pool c → Stands larger c
stands-grown g (Utf8 text) h = h
stands-grown g (Integer n) h = h
stands-grown g (ClassConst n) h = (h.0, is-grown g n (Utf8 h.0) h.1)
stands-grown g (Text n) h = (h.0, is-grown g n (Utf8 h.0) h.1)
stands-grown g (Field a b) h =
    ((h.0.0, is-grown g a (ClassConst h.0.0) h.0.1), (h.1.0, h.1.1, is-grown g b (NameAndType h.1.0 h.1.1) h.1.2))
stands-grown g (Method a b) h =
    ((h.0.0, is-grown g a (ClassConst h.0.0) h.0.1), (h.1.0, h.1.1, is-grown g b (NameAndType h.1.0 h.1.1) h.1.2))
stands-grown g (NameAndType a b) h = ((h.0.0, is-grown g a (Utf8 h.0.0) h.0.1), (h.1.0, is-grown g b (Utf8 h.1.0) h.1.1))

abbrev All : List Const → List Const → Type 0
All pool cs = AllByRecursion (Stands pool) cs

abbrev pub Good : List Const → Type 0
Good pool = All pool pool

all-grown : {pool larger : List Const} → Grows pool larger → (cs : List Const) → All pool cs → All larger cs
all-grown g [] h = tt
all-grown g (c ∷ cs) h = (stands-grown g c h.0, all-grown g cs h.1)

all-and : (pool a b : List Const) → All pool a → All pool b → All pool (a ++ b)
all-and pool [] b h g = g
all-and pool (c ∷ a) b h g = (h.0, all-and pool a b h.1 g)

-- what keeps a pool good
pub record Keeps {A : Type 0} (pool : List Const) (m : Pooled A) : Type 0 where
  pub good : Good pool → Good (m pool).1

pub keeps_then : {A B : Type 0} {P : List Const → A → Type 0} {pool : List Const} {m : Pooled A} {f : A → Pooled B} →
    Gives P pool m → Keeps pool m → ((a : A) (larger : List Const) → Grows pool larger → P larger a → Keeps larger (f a)) →
    Keeps pool (m >>= f)
keeps_then {pool = pool} {m = m} {f = f} first kept go = record {
  good = λ g. (go (m pool).0 (m pool).1 first.grows first.holds).good (kept.good g);
}

found_good : (c : Const) (pool : List Const) (at : Option ℕ) → Stands pool c → Good pool → Good (found_or_added c pool at).1
found_good c pool (Some k) s g = g
found_good c pool None s g =
    let grows : Grows pool (pool ++ c ∷ []) = record { more = c ∷ []; is = refl } in
    all-and (pool ++ c ∷ []) pool (c ∷ []) (all-grown grows pool g) (stands-grown grows c s, tt)

number_keeps : (c : Const) (pool : List Const) → Stands pool c → Keeps pool (number_of c)
unfolding number_of
number_keeps c pool s = record { good = found_good c pool (position (same_const c) pool) s }

pub utf8_keeps : (text : List ℕ) (pool : List Const) → IsUtf8 text → Keeps pool (utf8 text)
utf8_keeps text pool u = number_keeps (Utf8 text) pool u

pub class_keeps : (name : List ℕ) (pool : List Const) → IsUtf8 name → Keeps pool (class_const name)
class_keeps name pool u =
    keeps_then (utf8-gives name pool) (utf8_keeps name pool u) (λ n q g h. number_keeps (ClassConst n) q (name, h))

text_keeps : (text : List ℕ) (pool : List Const) → IsUtf8 text → Keeps pool (text_const text)
text_keeps text pool u =
    keeps_then (utf8-gives text pool) (utf8_keeps text pool u) (λ n q g h. number_keeps (Text n) q (text, h))

named_keeps : (name descriptor : List ℕ) (pool : List Const) → IsUtf8 name → IsUtf8 descriptor → Keeps pool (name_and_type name descriptor)
named_keeps name descriptor pool u v =
    keeps_then (utf8-gives name pool) (utf8_keeps name pool u)
    (λ n q g h. keeps_then (utf8-gives descriptor q) (utf8_keeps descriptor q v)
    (λ d r f e. number_keeps (NameAndType n d) r ((name, is-grown f n (Utf8 name) h), (descriptor, e))))

module _ (class name descriptor : List ℕ) (pool : List Const) (u : IsUtf8 class) (v : IsUtf8 name) (w : IsUtf8 descriptor) where
  field_keeps : Keeps pool (field_const class name descriptor)
  field_keeps =
      keeps_then (class_const-gives class pool) (class_keeps class pool u)
      (λ c q g h. keeps_then (name_and_type-gives name descriptor q) (named_keeps name descriptor q v w)
      (λ n r f e. number_keeps (Field c n) r ((h.0, is-grown f c (ClassConst h.0) h.1), (e.0, e.1, e.2))))

  method_keeps : Keeps pool (method_const class name descriptor)
  method_keeps =
      keeps_then (class_const-gives class pool) (class_keeps class pool u)
      (λ c q g h. keeps_then (name_and_type-gives name descriptor q) (named_keeps name descriptor q v w)
      (λ n r f e. number_keeps (Method c n) r ((h.0, is-grown f c (ClassConst h.0) h.1), (e.0, e.1, e.2))))

-- what is made of a number adds nothing more
keeps_after : {A B : Type 0} (m : Pooled A) (f : A → B) (pool : List Const) → Keeps pool m → Keeps pool (m >>= λ a. give (f a))
keeps_after m f pool kept = record { good = kept.good }

numbered_keeps : (op : ℕ) (o : Operand) (pool : List Const) → IsEncodableBy op o → Keeps pool (numbered_by op o)
numbered_keeps op symbolic.Nothing pool h = record { good = λ g. g }
numbered_keeps op (symbolic.Number n) pool h = record { good = λ g. g }
numbered_keeps op (symbolic.Constant (Int n)) pool h = keeps_after (number_of (Integer n)) push_const pool (number_keeps (Integer n) pool h)
numbered_keeps op (symbolic.Constant (Letters text)) pool h = keeps_after (text_const text) push_const pool (text_keeps text pool h)
numbered_keeps op (symbolic.Local n) pool h = record { good = λ g. g }
numbered_keeps op (symbolic.Jump target) pool h = record { good = λ g. g }
numbered_keeps op (symbolic.Table default targets) pool h = record { good = λ g. g }
numbered_keeps op (symbolic.Class name) pool h =
    keeps_after (class_const name) (λ k. file_instr op (file.Pool k)) pool (class_keeps name pool h.1)
numbered_keeps op (symbolic.Field r) pool h =
    keeps_after (field_const r.class r.member.name r.member.descriptor) (λ k. file_instr op (file.Pool k)) pool
    (field_keeps r.class r.member.name r.member.descriptor pool h.1.class h.1.name h.1.descriptor)
numbered_keeps op (symbolic.Method r) pool h =
    keeps_after (method_const r.class r.member.name r.member.descriptor) (λ k. file_instr op (file.Pool k)) pool
    (method_keeps r.class r.member.name r.member.descriptor pool h.1.class h.1.name h.1.descriptor)

pub all_numbered_keep : (is : List Instr) (pool : List Const) → AreEncodable is → Good pool → Good (all_numbered is pool).1
all_numbered_keep [] pool h g = g
all_numbered_keep (i ∷ is) pool h g =
    all_numbered_keep is (numbered_by i.op i.operand pool).1 h.1 ((numbered_keeps i.op i.operand pool h.0).good g)

-- Sizes.

within : {X : Type 0} (xs : List X) (k : ℕ) (x : X) → slice_get xs k ≡ Some x → k < length xs
within [] k x h = absurd cc
within (y ∷ xs) zero x h = omega arith
within (y ∷ xs) (suc k) x h = let le = within xs k x h in omega (arith, le)

pub is-within : (pool : List Const) (n : ℕ) (c : Const) → Is pool n c → n ≤ length pool
is-within pool n c h = let le = within pool h.0 c h.2 in let e = h.1 in omega (arith, le, e)

pub is-tagged : (pool : List Const) (n : ℕ) (c : Const) → Is pool n c → tag_at pool n ≡ Some (tag_of c)
is-tagged pool n c h = subst (λ k. tag_at pool k ≡ Some (tag_of c)) (sym h.1) (ap (option_map tag_of) h.2)

module _ (pool : List Const) (few : length pool ≤ 65534) where
  pub is-small : (n : ℕ) (c : Const) → Is pool n c → IsU2 n
  is-small n c h = let le = is-within pool n c h in omega (arith, le, few)

  -- no text is too long
  abbrev Short : Const → Type 0
  Short c = is_long c ≡ false

  const_fits : (c : Const) → Stands pool c → Short c → FitsConst c
  const_fits (Utf8 text) h s = let le = ltb-false 65535 (length (modified text)) s in (h, omega (arith, le))
  const_fits (Integer n) h s = h
  const_fits (ClassConst n) h s = is-small n (Utf8 h.0) h.1
  const_fits (Text n) h s = is-small n (Utf8 h.0) h.1
  const_fits (Field a b) h s = (is-small a (ClassConst h.0.0) h.0.1, is-small b (NameAndType h.1.0 h.1.1) h.1.2)
  const_fits (Method a b) h s = (is-small a (ClassConst h.0.0) h.0.1, is-small b (NameAndType h.1.0 h.1.1) h.1.2)
  const_fits (NameAndType a b) h s = (is-small a (Utf8 h.0.0) h.0.1, is-small b (Utf8 h.1.0) h.1.1)

  pub consts_fit : (cs : List Const) → AllByRecursion (Stands pool) cs → AllByRecursion Short cs → AllByRecursion FitsConst cs
  consts_fit [] h s = tt
  consts_fit (c ∷ cs) h s = (const_fits c h.0 s.0, consts_fit cs h.1 s.1)

const_names : (pool : List Const) (c : Const) → Stands pool c → ConstNames pool c
const_names pool (Utf8 text) h = tt
const_names pool (Integer n) h = tt
const_names pool (ClassConst n) h = is-tagged pool n (Utf8 h.0) h.1
const_names pool (Text n) h = is-tagged pool n (Utf8 h.0) h.1
const_names pool (Field a b) h = (is-tagged pool a (ClassConst h.0.0) h.0.1, is-tagged pool b (NameAndType h.1.0 h.1.1) h.1.2)
const_names pool (Method a b) h = (is-tagged pool a (ClassConst h.0.0) h.0.1, is-tagged pool b (NameAndType h.1.0 h.1.1) h.1.2)
const_names pool (NameAndType a b) h = (is-tagged pool a (Utf8 h.0.0) h.0.1, is-tagged pool b (Utf8 h.1.0) h.1.1)

pub consts_name : (pool cs : List Const) → AllByRecursion (Stands pool) cs → AllByRecursion (ConstNames pool) cs
consts_name pool [] h = tt
consts_name pool (c ∷ cs) h = (const_names pool c h.0, consts_name pool cs h.1)
