-- What is made of the header and of fields, and judged.
use Rattle.std.proofs.Common.{◌≡◌, ℕ, ◌+◌, ◌<◌, ◌≤◌, get_or, List, [], ◌∷◌, ◌++◌, length, drop, map, Option, option_map, Some, None, refl}
use Rattle.std.proofs.Common.{sym, ap, ap₂, ◌∙◌, subst, append_assoc}
use Rattle.std.proofs.lemmas.List.{append-nil, at_drop_more, drop_all, map-append}
use Rattle.cls_tree.specs.declared.class.Const.{Const}
use Rattle.cls_tree.specs.Tree as file
use Rattle.cls_tree.specs.Emitted.{Pooled}
use Rattle.jv_core.specs.Tree.{Class, Program}
use Rattle.gen_rules.specs.Classes.{each}
use Rattle.gen_rules.specs.Limits.{Excess, CodeTooLong, TooManyLocals, PoolFull, TextTooLong, Part, exceeded, exceeded_by, pool_behind}
use Rattle.gen_rules.specs.Limits.{first_in_parts, or_else, told}
use Rattle.gen_pool.specs.Made.{IsMade}
use Rattle.cls_tree.specs.declared.class.Member.{Member as KeptMember}
use Rattle.cls_tree.specs.View.{member_of}
use Rattle.gen_members.specs.declared.faults.GenFault.{GenFault}
use Rattle.gen_members.specs.declared.faults.GenFault.TheVariants as faults
use Rattle.gen_members.specs.Told.{Tells}
use Rattle.gen_members.specs.Parts.{part_excess}

-- what tells one excess tells another that is the same where it is one
pub told_on : (one other : Option Excess) (e : GenFault) → ((excess : Excess) → one ≡ Some excess → other ≡ Some excess) →
    Tells one e → Tells other e
told_on one other (faults.CodeTooLong place name) go tells = go (record { limit = CodeTooLong; place = place; name = name }) tells
told_on one other (faults.TooManyLocals place name) go tells = go (record { limit = TooManyLocals; place = place; name = name }) tells
told_on one other (faults.PoolFull place name) go tells = go (record { limit = PoolFull; place = place; name = name }) tells
told_on one other (faults.TextTooLong place name) go tells = go (record { limit = TextTooLong; place = place; name = name }) tells
told_on one other faults.Memory go tells = tells

-- The loop over parts.

module _ (p : Program) (k : Class) {X : Type 0} (f : X → Pooled file.Member) (part : X → Part) where
  -- the members so far, those that are left, and what is judged of those that are left
  pub record AreLeft (rest : List X) (done : List file.Member) (pool : List Const) (whole : List X) (begin : List Const) : Type 0 where
    pub made : (each f whole begin).0 ≡ done ++ (each f rest pool).0
    pub left : (each f whole begin).1 ≡ (each f rest pool).1
    pub judged : (more : List Part) → first_in_parts p k (map part whole ++ more) begin ≡ first_in_parts p k (map part rest ++ more) pool

  pub parts_begin : (whole : List X) (begin : List Const) → AreLeft whole [] begin whole begin
  parts_begin whole begin = record { made = refl; left = refl; judged = λ more. refl }

  module _ (x : X) (rest : List X) (done new : List file.Member) (pool behind : List Const) (m : file.Member) (whole : List X)
      (begin : List Const) where
    -- a part more is made, and nothing in it is too large
    pub part_more : pool_behind p k (part x) pool ≡ (f x pool).1 → IsMade m behind (f x pool) → exceeded_by p k (part x) pool ≡ None →
        new ≡ done ++ m ∷ [] → AreLeft (x ∷ rest) done pool whole begin → AreLeft rest new behind whole begin
    part_more same made fine grown l = record {
      made = l.made ∙ ap₂ (λ y q. done ++ (y ∷ (each f rest q).0)) (sym made.value) (sym made.left)
          ∙ sym (append_assoc done (m ∷ []) (each f rest behind).0) ∙ ap (λ ys. ys ++ (each f rest behind).0) (sym grown);
      left = l.left ∙ ap (λ q. (each f rest q).1) (sym made.left);
      judged = λ more. l.judged more
          ∙ ap₂ (λ r q. or_else (option_map (told p k (part x)) r) (first_in_parts p k (map part rest ++ more) q)) fine
          (same ∙ sym made.left);
    }

  -- something in one is too large
  pub part_fails : (x : X) (rest : List X) (done : List file.Member) (pool : List Const) (whole : List X) (begin : List Const)
      (excess : Excess) →
      part_excess p k (part x) pool ≡ Some excess → AreLeft (x ∷ rest) done pool whole begin →
      (more : List Part) → first_in_parts p k (map part whole ++ more) begin ≡ Some excess
  part_fails x rest done pool whole begin excess fails l more =
      l.judged more ∙ ap (λ r. or_else r (first_in_parts p k (map part rest ++ more) (pool_behind p k (part x) pool))) fails

-- The loop over what is kept in the program.
module _ (p : Program) (k : Class) {K X : Type 0} (see : K → X) (f : X → Pooled file.Member) (part : X → Part)
    (behind_is : (x : X) (pool : List Const) → pool_behind p k (part x) pool ≡ (f x pool).1) (kept : List K) (i : ℕ) where
  abbrev left_of : List K → List KeptMember → List Const → List Const → Type 0
  left_of rest members pool begin = AreLeft p k f part (map see rest) (map member_of members) pool (map see kept) begin

  -- one more is made
  pub kept_more : (x : K) (old new : List KeptMember) (m : KeptMember) (pool behind begin : List Const) →
      i < length kept → x ≡ get_or kept i x → IsMade (member_of m) behind (f (see x) pool) →
      exceeded_by p k (part (see x)) pool ≡ None → new ≡ old ++ m ∷ [] →
      AreLeft p k f part (map see (drop i kept)) (map member_of old) pool (map see kept) begin →
      AreLeft p k f part (map see (drop (i + 1) kept)) (map member_of new) behind (map see kept) begin
  kept_more x old new m pool behind begin within is made fine grown l =
      let cut : drop i kept ≡ x ∷ drop (i + 1) kept
      = at_drop_more (λ ys. ys) kept i x within ∙ ap (λ y. y ∷ drop (i + 1) kept) (sym is) in
      part_more p k f part (see x) (map see (drop (i + 1) kept)) (map member_of old) (map member_of new) pool behind
      (member_of m) (map see kept) begin (behind_is (see x) pool) made fine (ap (map member_of) grown ∙ map-append member_of old (m ∷ []))
      (subst (λ ys. left_of ys old pool begin) cut l)

  -- all are made
  pub kept_made : (done : List KeptMember) (pool begin : List Const) → length kept ≤ i →
      AreLeft p k f part (map see (drop i kept)) (map member_of done) pool (map see kept) begin →
      IsMade (map member_of done) pool (each f (map see kept) begin)
  kept_made done pool begin past l =
      let e = subst (λ ys. left_of ys done pool begin) (drop_all i kept past) l in
      record { value = sym (append-nil (map member_of done)) ∙ sym e.made; left = sym e.left }

  -- and none is too large
  pub kept_fine : (done : List KeptMember) (pool begin : List Const) → length kept ≤ i →
      AreLeft p k f part (map see (drop i kept)) (map member_of done) pool (map see kept) begin →
      (more : List Part) → first_in_parts p k (map part (map see kept) ++ more) begin ≡ first_in_parts p k more pool
  kept_fine done pool begin past l more = (subst (λ ys. left_of ys done pool begin) (drop_all i kept past) l).judged more

  -- one is too large
  pub kept_fails : (x : K) (old : List KeptMember) (pool begin : List Const) (e : GenFault) →
      i < length kept → x ≡ get_or kept i x → Tells (part_excess p k (part (see x)) pool) e →
      AreLeft p k f part (map see (drop i kept)) (map member_of old) pool (map see kept) begin →
      (more : List Part) → Tells (first_in_parts p k (map part (map see kept) ++ more) begin) e
  kept_fails x old pool begin e within is tells l more =
      let cut : drop i kept ≡ x ∷ drop (i + 1) kept
      = at_drop_more (λ ys. ys) kept i x within ∙ ap (λ y. y ∷ drop (i + 1) kept) (sym is) in
      told_on (part_excess p k (part (see x)) pool) (first_in_parts p k (map part (map see kept) ++ more) begin) e
      (λ excess fails. part_fails p k f part (see x) (map see (drop (i + 1) kept)) (map member_of old) pool
      (map see kept) begin excess fails (subst (λ ys. left_of ys old pool begin) cut l) more) tells

-- any class
pub no_class : Class
no_class = record { place = record { file = 0; line = 0; column = 0 }; name = 0; typestate = None; fields = []; methods = [] }
