-- The constants before they are read: their tags, as far as they can be laid out; and which numbers can't name what a place needs.
use Rattle.std.specs.Prelude.{ℕ, zero, suc, ◌+◌, ◌-◌, ◌*◌, List, [], ◌∷◌, drop, length, get_or, Ok, Bool, true, false, nat_lt}
use Rattle.std.specs.Prelude.{nat_le, ◌==◌, ◌||◌, ◌&&◌, not, if◌then◌else◌}
use Rattle.jcf_tree.specs.declared.kind.Kind.{Kind}
use Rattle.jcf_tree.specs.Kinds.{is_of}
use Rattle.jcf_read.specs.declared.fault.FaultKind.TheVariants as kinds
use Rattle.jcf_read.specs.declared.pool.Pool.{Pool as KeptPool}
use Rattle.jcf_read.specs.Answer.{◌>>=◌, wrong}
use Rattle.jcf_read.specs.Front.{Reader, number_at}

-- the tags of constants (JVMS 4.4)
abbrev pub is_tag : ℕ → Bool
is_tag tag = tag == 1 || (nat_le 3 tag && nat_le tag 12 || nat_le 15 tag && nat_le tag 20)

-- a long and a double take two numbers
abbrev pub is_wide : ℕ → Bool
is_wide tag = tag == 5 || tag == 6

-- how many bytes a constant with this tag has behind it, of which these are the first
abbrev pub holds : ℕ → List ℕ → ℕ
holds tag content =
    if tag == 1 then 2 + 256 * get_or content 0 0 + get_or content 1 0
    else if tag == 5 || tag == 6 then 8
    else if tag == 7 || (tag == 8 || (tag == 16 || (tag == 19 || tag == 20))) then 2
    else if tag == 15 then 3
    else 4

-- the tags of so many numbers, up to where a constant has none or the bytes are over; the second number of a long or a double has 0
unfoldable pub tags_from : ℕ → Bool → List ℕ → List ℕ
tags_from zero second bytes = []
tags_from (suc n) true bytes = 0 ∷ tags_from n false bytes
tags_from (suc n) false [] = []
tags_from (suc n) false (tag ∷ content) =
    if is_tag tag then tag ∷ tags_from n (is_wide tag) (drop (holds tag content) content) else []

pub record Pool : Type 0 where
  pub count : ℕ
  pub tags : List ℕ

abbrev pub pool_of : KeptPool → Pool
pool_of p = record { count = p.count; tags = p.tags.items }

-- the pool of this count, whose constants begin with these bytes
abbrev pub pool_at : ℕ → List ℕ → Pool
pool_at count bytes = record { count = count; tags = tags_from (count - 1) false bytes }

-- whether the constant of this number can't be one of the kind: there is none of the number, or it is known to be another
unfoldable pub is_wrong : Pool → Kind → ℕ → Bool
is_wrong pool kind n =
    (n == 0) || (not (nat_lt n pool.count)
    || (nat_lt (n - 1) (length pool.tags) && not (is_of kind (get_or pool.tags (n - 1) 0))))

-- the number of a constant of this kind
unfoldable pub named_at : Pool → Kind → Reader ℕ
named_at pool kind front at = do
  n ← number_at 2 front at
  if is_wrong pool kind n.0 then wrong kinds.BadIndex at else Ok n

-- the number of a constant of this kind, or 0
unfoldable pub named_or_none_at : Pool → Kind → Reader ℕ
named_or_none_at pool kind front at = do
  n ← number_at 2 front at
  if not (n.0 == 0) && is_wrong pool kind n.0 then wrong kinds.BadIndex at else Ok n
