-- Bytes whose row is right spell a well-formed class, which is read.
use Rattle.std.proofs.Common.{◌≡◌, ℕ, zero, suc, ◌+◌, ◌-◌, ◌<◌, ◌≤◌, List, [], ◌∷◌, ◌++◌, length, drop, get_or, refl, sym, ap, ◌∙◌}
use Rattle.std.proofs.Common.{length-append, get_or-drop, arith, Bool, true, false, Some, None, inl, inr, nat_eq, nat_lt, not, ◌&&◌, ◌||◌}
use Rattle.std.proofs.Common.{slice_get}
use Rattle.std.proofs.lemmas.Bool.{ltb-true, le-ltb, lt-ltb, eqb-true, ne_eqb, cases_lt}
use Rattle.std.specs.List.{AllByRecursion}
use Rattle.cls_tree.specs.declared.class.Const.{Const}
use Rattle.cls_tree.specs.declared.class.Const.TheVariants as consts
use Rattle.cls_tree.specs.Pool.{tag_at, text_in}
use Rattle.cls_tree.specs.Tree.{Class}
use Rattle.cls_tree.specs.ClassFile.{is_code_text as is_code_name, names_code}
use Rattle.cls_tree.specs.WellFormed.{ConstNames, IsWellFormed}
use Rattle.cls_layout.specs.declared.format.Part.TheVariants as parts
use Rattle.cls_layout.specs.declared.format.Field.{Field}
use Rattle.cls_layout.specs.Parts.{whole}
use Rattle.cls_layout.specs.Row.{number, is_bad_entry, is_code, is_code_text, pool_count, LaysAll}
use Rattle.cls_layout.specs.Faults.{First}
use Rattle.cls_bytes.specs.Reading.{behind, behind_head, pool_at, class_at}
use Rattle.cls_bytes.specs.Spelling.{ClassSpells}
use Rattle.cls_bytes.proofs.Whole.{class_sound}
use Rattle.cls_bytes.proofs.Clear.{Clear, unless_none, num, step}
use Rattle.cls_bytes.proofs.Productions.{Env, behind_pool}
use Rattle.cls_bytes.proofs.Pools.{IsBytes, Grown, grown, Named, Begins, Pairs, pool_got}

module _ (bytes last : List ℕ) where
  -- the place and the constant at an index
  pub record At (places : List ℕ) (pool : List Const) (i : ℕ) : Type 0 where
    pub constant : Const
    pub is : slice_get pool i ≡ Some constant
    pub within : i < length places
    pub begins : Begins bytes last (get_or places i 0) constant

  pub pairs_at : (places : List ℕ) (pool : List Const) → Pairs bytes last places pool → (i : ℕ) → i < length pool → At places pool i
  pairs_at [] [] p i lt = absurd (omega arith)
  pairs_at [] (c ∷ cs) p i lt = absurd p
  pairs_at (q ∷ qs) [] p i lt = absurd p
  pairs_at (q ∷ qs) (c ∷ cs) p zero lt = record { constant = c; is = refl; within = omega arith; begins = p.0 }
  pairs_at (q ∷ qs) (c ∷ cs) p (suc i) lt =
      let a = pairs_at qs cs p.1 i (omega arith) in
      record { constant = a.constant; is = a.is; within = let w = a.within in omega arith; begins = a.begins }

  pub pairs_long : (places : List ℕ) (pool : List Const) → Pairs bytes last places pool → length places ≡ length pool
  pairs_long [] [] p = refl
  pairs_long [] (c ∷ cs) p = absurd p
  pairs_long (q ∷ qs) [] p = absurd p
  pairs_long (q ∷ qs) (c ∷ cs) p = ap suc (pairs_long qs cs p.1)

  front_get : (xs ys : List ℕ) (i : ℕ) → i < length xs → get_or (xs ++ ys) i 0 ≡ get_or xs i 0
  front_get [] ys i lt = absurd (omega arith)
  front_get (x ∷ xs) ys zero lt = refl
  front_get (x ∷ xs) ys (suc i) lt = front_get xs ys i (omega arith)

  or_parts : (a b c : Bool) → (a || (b || c)) ≡ false → (a ≡ false) × (b ≡ false) × (c ≡ false)
  or_parts true b c e = absurd (cc)
  or_parts false true c e = absurd (cc)
  or_parts false false c e = (refl, refl, e)

  not_so : (b : Bool) → not b ≡ false → b ≡ true
  not_so true e = refl
  not_so false e = absurd (cc)

  right_tag : (a b : Bool) → (a && not b) ≡ false → a ≡ true → b ≡ true
  right_tag true true e f = refl
  right_tag true false e f = absurd (cc)
  right_tag false b e f = absurd (cc)

  pub past : (pool : List Const) (i : ℕ) → length pool ≤ i → slice_get pool i ≡ None
  past [] i le = refl
  past (c ∷ cs) zero le = absurd (omega arith)
  past (c ∷ cs) (suc i) le = past cs i (omega arith)

  module _ (places : List ℕ) (pool : List Const) (pairs : Pairs bytes last places pool) (g : Grown places last)
      (counts : pool_count bytes ≡ length pool + 1) where
    tags : (tag n : ℕ) → is_bad_entry bytes last tag n ≡ false → tag_at pool n ≡ Some tag
    unfolding is_bad_entry
    tags tag zero e = absurd (cc)
    tags tag (suc i) e =
        let p = or_parts (nat_eq (suc i) 0) (not (nat_lt (suc i) (pool_count bytes))) _ e in
        let below = ltb-true (suc i) (pool_count bytes) (not_so _ p.1) in
        let lt : i < length pool = omega (arith, below, counts) in
        let a = pairs_at places pool pairs i lt in
        let w = a.within in
        let inside : i < length last = omega (arith, ap length g.is, length-append places g.more, w) in
        let one : suc i - 1 ≡ i = omega arith in
        let same : get_or last (suc i - 1) 0 ≡ get_or places i 0 = ap (λ (k : ℕ). get_or last k 0) one ∙
        (ap (λ (l : List ℕ). get_or l i 0) g.is ∙ front_get places g.more i w) in
        let test = right_tag (nat_lt (suc i - 1) (length last)) (nat_eq (get_or bytes (get_or last (suc i - 1) 0) 0) tag) p.2
        (lt-ltb (suc i - 1) (length last) (omega (arith, inside))) in
        let is : get_or bytes (get_or places i 0) 0 ≡ tag = ap (λ (k : ℕ). get_or bytes k 0) (sym same) ∙ eqb-true _ tag test in
        rw a.is (ap Some (sym a.begins.tag ∙ is))

    pub codes_so : (n : ℕ) → is_code bytes places n ≡ names_code pool n
    unfolding is_code names_code
    codes_so zero = refl
    codes_so (suc i) = elim (cases_lt i (length pool)) [
      | inl lt ↦
          let a = pairs_at places pool pairs i lt in
          let one : suc i - 1 ≡ i = omega arith in
          let inside : nat_lt (suc i - 1) (length places) ≡ true = lt-ltb (suc i - 1) (length places) (let w = a.within in omega arith) in
          let text : is_code_text (drop (get_or places (suc i - 1) 0) bytes) ≡ is_code_name (text_in a.constant) =
          ap (λ (k : ℕ). is_code_text (drop (get_or places k 0) bytes)) one ∙ a.begins.code in
          rw (ne_eqb (suc i) 0 (λ h. omega (arith, h)), inside, a.is) text
      | inr le ↦
          let outside : nat_lt (suc i - 1) (length places) ≡ false =
          le-ltb (suc i - 1) (length places) (let l = pairs_long places pool pairs in omega arith) in
          rw (ne_eqb (suc i) 0 (λ h. omega (arith, h)), outside, past pool i le) refl
    ]

    pub env : Env bytes last places pool
    env = record { tags = tags; codes_so = codes_so }

    named : (c : Const) → Named bytes last c → ConstNames pool c
    named (consts.Utf8 t) n = tt
    named (consts.Integer z) n = tt
    named (consts.Class k) n = tags 1 k n
    named (consts.Text k) n = tags 1 k n
    named (consts.Field a b) n = (tags 7 a n.0, tags 12 b n.1)
    named (consts.Method a b) n = (tags 7 a n.0, tags 12 b n.1)
    named (consts.NameAndType a b) n = (tags 1 a n.0, tags 1 b n.1)

    all_named_of : (qs : List ℕ) (cs : List Const) → Pairs bytes last qs cs → AllByRecursion (ConstNames pool) cs
    all_named_of [] [] p = tt
    all_named_of [] (c ∷ cs) p = absurd p
    all_named_of (q ∷ qs) [] p = absurd p
    all_named_of (q ∷ qs) (c ∷ cs) p = (named c p.0.named, all_named_of qs cs p.1)

    pub all_named : AllByRecursion (ConstNames pool) pool
    all_named = all_named_of places pool pairs

-- a right row spells a class
pub right_spells : (bytes : List ℕ) (row : List Field) (last : List ℕ) → IsBytes bytes → LaysAll bytes row last → First bytes last row None
    → (c : Class) × (class_at bytes ≡ Some c) × ClassSpells bytes c
unfolding class_at behind_head behind pool_at number pool_count
right_spells bytes row last fits lays all_right =
    let c : Clear bytes last [] 0 whole = record { row = row; lays = lays; clean = all_right; within = omega arith } in
    let s1 = step bytes last [] 0 parts.Magic _ c in
    let s2 = step bytes last [] 4 parts.Minor _ s1.rest in
    let s3 = step bytes last [] 6 parts.Major _ s2.rest in
    let s4 = step bytes last [] 8 parts.PoolCount _ s3.rest in
    let n = num bytes 8 parts.PoolCount in
    let magic : nat_eq (num bytes 0 parts.Magic) 3405691582 ≡ true = unless_none _ _ s1.judged in
    let minor : nat_eq (num bytes 4 parts.Minor) 0 ≡ true = unless_none _ _ s2.judged in
    let major : nat_eq (num bytes 6 parts.Major) 49 ≡ true = unless_none _ _ s3.judged in
    let some : 0 < n = ltb-true 0 n (unless_none _ _ s4.judged) in
    let no_zero : nat_eq n 0 ≡ false = ne_eqb n 0 (λ h. omega (arith, h, some)) in
    let p = pool_got bytes last fits (n - 1) 10 [] _ s4.rest in
    let g = grown bytes p.news _ _ _ last p.rest.lays in
    let counts : pool_count bytes ≡ length p.constants + 1 =
    let high : get_or (drop 8 bytes) 0 0 ≡ get_or bytes 8 0 = get_or-drop 8 bytes 0 0 in
    let low : get_or (drop 8 bytes) 1 0 ≡ get_or bytes 9 0 = get_or-drop 8 bytes 1 0 in
    let k = p.count in
    omega (arith, high, low, k, some) in
    let b = behind_pool bytes last p.news p.constants (env bytes last p.news p.constants p.pairs g counts) p.after p.rest in
    let class : Class = record {
      pool = p.constants;
      access = b.access;
      this_class = b.this_class;
      super_class = b.super_class;
      fields =
          b.fields;
      methods = b.methods;
      attributes = b.attributes;
    } in
    let read : class_at bytes ≡ Some class = rw (
      s1.read,
      magic,
      s2.read,
      minor,
      s3.read,
      major,
      s4.read,
      no_zero,
      p.is,
      b.three,
      b.none,
      b.members,
      b.all,
    ) refl in
    let sound = class_sound bytes class fits read in
    let formed : IsWellFormed class = record {
      pool = all_named bytes last p.news p.constants p.pairs g counts;
      this_class = b.is_class;
      super_class = b.is_super;
      fields = b.fields_named;
      methods = b.methods_named;
      attributes = b.attributes_named;
    } in
    (class, read, record { file = sound.0; well_formed = formed; layout = sound.1 })
