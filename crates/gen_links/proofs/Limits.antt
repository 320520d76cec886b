-- What holds of the parts of a class where none exceeds a limit.
use Rattle.std.proofs.Common.{◌≡◌, ℕ, ◌≤◌, Bool, true, false, ◌||◌, List, [], ◌∷◌, ◌++◌, length, map, drop}
use Rattle.std.proofs.Common.{Option, Some, None, option_map, nat_lt, if◌then◌else◌, refl, sym, ap, ◌∙◌, subst, arith, ltb-false}
use Rattle.std.specs.List.{AllByRecursion, list_any}
use Rattle.cls_tree.specs.declared.class.Const.{Const}
use Rattle.cls_tree.specs.Emitted.{code_of}
use Rattle.cls_tree.specs.Layout.{code_bytes}
use Rattle.cls_tree.specs.Tree as file
use Rattle.jv_core.specs.Tree.{Field, Class, Program}
use Rattle.gen_rules.specs.Classes.{Compiled, header, field_in_file, method_in_file, each}
use Rattle.gen_rules.specs.Limits.{Limit, CodeTooLong, TooManyLocals, PoolFull, TextTooLong, Part, Names, OfField, OfMethod, parts_in}
use Rattle.gen_rules.specs.Limits.{pool_behind, code_length, locals_in, is_long, exceeded, exceeded_by, Excess, told, or_else}
use Rattle.gen_rules.specs.Limits.{first_in_parts}
use Rattle.gen_rules.proofs.Pool.{Grows}

pub record IsWithin (l n : ℕ) (pool more : List Const) : Type 0 where
  pub code : l ≤ 32767
  pub locals : n ≤ 255
  pub constants : length pool ≤ 65534
  pub texts : list_any is_long more ≡ false

some-is-not : {A : Type 0} {x : A} → Some x ≡ None → ⊥
some-is-not h = cc

exceeded_none : (l n : ℕ) (pool more : List Const) → exceeded l n pool more ≡ None → IsWithin l n pool more
exceeded_none l n pool more = go (nat_lt 32767 l) (nat_lt 255 n) (nat_lt 65534 (length pool)) (list_any is_long more) refl refl refl refl
  where
    go : (a b c d : Bool) → nat_lt 32767 l ≡ a → nat_lt 255 n ≡ b → nat_lt 65534 (length pool) ≡ c → list_any is_long more ≡ d →
        (if a then Some CodeTooLong else if b then Some TooManyLocals else if c then Some PoolFull else if d then Some TextTooLong else
        None)
        ≡ None → IsWithin l n pool more
    go true b c d e f g h none = absurd (some-is-not none)
    go false true c d e f g h none = absurd (some-is-not none)
    go false false true d e f g h none = absurd (some-is-not none)
    go false false false true e f g h none = absurd (some-is-not none)
    go false false false false e f g h none = record {
      code = ltb-false 32767 l e;
      locals = ltb-false 255 n f;
      constants = ltb-false 65534 (length pool) g;
      texts = h;
    }

pub first_none : (a b : Option Excess) → or_else a b ≡ None → (a ≡ None) × (b ≡ None)
first_none None b h = (refl, h)
first_none (Some x) b h = absurd (some-is-not h)

told_none : (f : Limit → Excess) (a : Option Limit) → option_map f a ≡ None → a ≡ None
told_none f None h = refl
told_none f (Some x) h = absurd (some-is-not h)

-- a pool that is not full and has no text that is too long
pub record Limited (pool : List Const) : Type 0 where
  pub few : length pool ≤ 65534
  pub short : AllByRecursion (λ c. is_long c ≡ false) pool

none_long : (cs : List Const) → list_any is_long cs ≡ false → AllByRecursion (λ c. is_long c ≡ false) cs
none_long [] h = tt
none_long (c ∷ cs) h = go (is_long c) refl h (none_long cs)
  where
    go : (b : Bool) → is_long c ≡ b → (b || list_any is_long cs) ≡ false →
        (list_any is_long cs ≡ false → AllByRecursion (λ x. is_long x ≡ false) cs) → AllByRecursion (λ x. is_long x ≡ false) (c ∷ cs)
    go true e f rest = absurd cc
    go false e f rest = (e, rest f)

all_both : {A : Type 0} (P : A → Type 0) (a b : List A) → AllByRecursion P a → AllByRecursion P b → AllByRecursion P (a ++ b)
all_both P [] b h g = g
all_both P (x ∷ a) b h g = (h.0, all_both P a b h.1 g)

drop_front : {A : Type 0} (a b : List A) → drop (length a) (a ++ b) ≡ b
drop_front [] b = refl
drop_front (x ∷ a) b = drop_front a b

abbrev pub IsShort : file.Member → Type 0
IsShort m = length (code_bytes (code_of (m ∷ []))) ≤ 32767

pub record MethodsLimited (cs : List Compiled) (pool : List Const) : Type 0 where
  pub limited : Limited (each method_in_file cs pool).1
  pub short : AllByRecursion IsShort (each method_in_file cs pool).0
  pub locals : AllByRecursion (λ c. c.max_locals ≤ 255) cs

module _ (p : Program) (k : Class) where
  -- a part behind a limited pool, where it exceeds nothing
  part_limited : (part : Part) (pool : List Const) → Grows pool (pool_behind p k part pool) → Limited pool →
      exceeded_by p k part pool ≡ None →
      IsWithin (code_length part pool) (locals_in part) (pool_behind p k part pool) (drop (length pool) (pool_behind p k part pool))
      × Limited (pool_behind p k part pool)
  part_limited part pool g limited none =
      let behind = pool_behind p k part pool in
      let w = exceeded_none (code_length part pool) (locals_in part) behind (drop (length pool) behind) none in
      let added : drop (length pool) behind ≡ g.more = ap (drop (length pool)) g.is ∙ drop_front pool g.more in
      let new = none_long g.more (subst (λ x. list_any is_long x ≡ false) added w.texts) in (
        w,
        record {
          few = w.constants;
          short = subst (AllByRecursion (λ c. is_long c ≡ false)) (sym g.is)
              (all_both (λ c. is_long c ≡ false) pool g.more limited.short new);
        },
      )

  part_none : (part : Part) (more : List Part) (pool : List Const) → first_in_parts p k (part ∷ more) pool ≡ None →
      (exceeded_by p k part pool ≡ None) × (first_in_parts p k more (pool_behind p k part pool) ≡ None)
  part_none part more pool h =
      let both = first_none (option_map (told p k part) (exceeded_by p k part pool)) (first_in_parts p k more (pool_behind p k part pool)) h
      in
      (told_none (told p k part) (exceeded_by p k part pool) both.0, both.1)

  pub methods_limited : ((c : Compiled) (pool : List Const) → Grows pool (method_in_file c pool).1) →
      (cs : List Compiled) (pool : List Const) →
      Limited pool → first_in_parts p k (map OfMethod cs) pool ≡ None → MethodsLimited cs pool
  methods_limited grows [] pool limited none = record { limited = limited; short = tt; locals = tt }
  methods_limited grows (c ∷ cs) pool limited none =
      let both = part_none (OfMethod c) (map OfMethod cs) pool none in
      let one = part_limited (OfMethod c) pool (grows c pool) limited both.0 in
      let rest = methods_limited grows cs (method_in_file c pool).1 one.1 both.1 in
      record { limited = rest.limited; short = ((one.0).code, rest.short); locals = ((one.0).locals, rest.locals) }

  pub fields_limited : ((d : Field) (pool : List Const) → Grows pool (field_in_file p d pool).1) → (ds : List Field) (cs : List Compiled)
      (pool : List Const) → Limited pool → first_in_parts p k (map OfField ds ++ map OfMethod cs) pool ≡ None →
      Limited (each (field_in_file p) ds pool).1 × (first_in_parts p k (map OfMethod cs) (each (field_in_file p) ds pool).1 ≡ None)
  fields_limited grows [] cs pool limited none = (limited, none)
  fields_limited grows (d ∷ ds) cs pool limited none =
      let both = part_none (OfField d) (map OfField ds ++ map OfMethod cs) pool none in
      let one = part_limited (OfField d) pool (grows d pool) limited both.0 in
      fields_limited grows ds cs (field_in_file p d pool).1 one.1 both.1

  pub header_limited : Grows [] (header p k []).1 → (cs : List Compiled) → first_in_parts p k (parts_in k cs) [] ≡ None →
      Limited (header p k []).1 × (first_in_parts p k (map OfField k.fields ++ map OfMethod cs) (header p k []).1 ≡ None)
  header_limited grows cs none =
      let both = part_none Names (map OfField k.fields ++ map OfMethod cs) [] none in
      let one = part_limited Names [] grows (record { few = omega arith; short = tt }) both.0 in
      (one.1, both.1)
