-- Where the list of a piece stands in the code, and that it stands there alone.
use Rattle.std.proofs.Common.{◌≡◌, ℕ, suc, ◌+◌, List, [], ◌∷◌, ◌++◌, length, Some, refl, ◌∙◌, subst, arith, length-append, slice_get}
use Rattle.std.specs.Prelude.{pos}
use Rattle.gen_rules.specs.Symbolic.{Instr, push, goto, ifeq, ifne}
use Rattle.gen_rules.specs.Spans.{Span, nothing, ◌then◌, Forms, one, by_value, by_jumps}
use Rattle.gen_rules.specs.inner.Generating.{Piece, Jumping, aiming, empty, single, ◌and◌, within}
use Rattle.gen_rules.specs.inner.Generating.{forked, Pieces, testing, valued, jumped, jumps_then, skips_then}

-- these instructions stand in the code from this place on
abbrev pub HasAt : List Instr → ℕ → List Instr → Type 0
HasAt code from [] = Unit {0}
HasAt code from (i ∷ is) = (slice_get code from ≡ Some i) × HasAt code (suc from) is

module _ (code : List Instr) where
  pub has_front : (from : ℕ) (a b : List Instr) → HasAt code from (a ++ b) → HasAt code from a
  has_front from [] b h = tt
  has_front from (i ∷ a) b h = (h.0, has_front (suc from) a b h.1)

  pub has_back : (from n : ℕ) (a b : List Instr) → length a ≡ n → HasAt code from (a ++ b) → HasAt code (from + n) b
  has_back from n [] b e h = let f : from ≡ from + n = omega (arith, e) in subst (λ k. HasAt code k b) f h
  has_back from n (i ∷ a) b e h =
      let f : suc from + length a ≡ from + n = omega (arith, e) in
      subst (λ k. HasAt code k b) f (has_back (suc from) (length a) a b refl h.1)

  pub has_both : (from n : ℕ) (a b : List Instr) → length a ≡ n → HasAt code from a → HasAt code (from + n) b → HasAt code from (a ++ b)
  has_both from n [] b e h g = let f : from + n ≡ from = omega (arith, e) in subst (λ k. HasAt code k b) f g
  has_both from n (i ∷ a) b e h g =
      let f : from + n ≡ suc from + length a = omega (arith, e) in
      (h.0, has_both (suc from) (length a) a b refl h.1 (subst (λ k. HasAt code k b) f g))

  -- A piece stands for a relation between the place at which it begins and the one behind it.
  pub record Stands (a : Piece) (R : Span) : Type 0 where
    pub long : (from : ℕ) → length (a.list from) ≡ a.size
    -- where its list stands, the relation holds
    pub placed : (from : ℕ) → HasAt code from (a.list from) → R from (from + a.size)
    -- where the relation holds, its list stands
    pub behind : (from to : ℕ) → R from to → to ≡ from + a.size
    pub alone : (from to : ℕ) → R from to → HasAt code from (a.list from)

  pub stands_empty : Stands empty nothing
  stands_empty = record {
    long = λ from. refl;
    placed = λ from h. omega arith;
    behind = λ from to h. omega (arith, h);
    alone = λ from to h. tt;
  }

  pub stands_single : (i : Instr) → Stands (single i) (one code i)
  stands_single i = record {
    long = λ from. refl;
    placed = λ from h. (h.0, omega arith);
    behind = λ from to h. omega (arith, h.1);
    alone = λ from to h. (h.0, tt);
  }

  pub stands_and : (a b : Piece) (R S : Span) → Stands a R → Stands b S → Stands (a and b) (R then S)
  stands_and a b R S ha hb = record {
    long = λ from. length-append (a.list from) (b.list (from + a.size)) ∙ omega (arith, ha.long from, hb.long (from + a.size));
    placed = λ from h.
        let f : from + a.size + b.size ≡ from + (a.size + b.size) = omega arith in (
          from + a.size,
          ha.placed from (has_front from (a.list from) _ h),
          subst (λ k. S (from + a.size) k) f (hb.placed (from + a.size) (has_back from a.size (a.list from) _ (ha.long from) h)),
        );
    behind = λ from to h. omega (arith, ha.behind from h.0 h.1, hb.behind h.0 to h.2);
    alone = λ from to h.
        has_both from a.size (a.list from) (b.list (from + a.size)) (ha.long from) (ha.alone from h.0 h.1)
        (subst (λ k. HasAt code k (b.list k)) (ha.behind from h.0 h.1) (hb.alone h.0 to h.2));
  }

  -- a piece that is made of its own ends
  pub stands_within : (n : ℕ) (f : (from to : ℕ) → Piece) (R : (from to : ℕ) → Span) → ((from to : ℕ) → Stands (f from to) (R from to)) →
      ((from to : ℕ) → (f from to).size ≡ n) → Stands (within n f) (λ from to. R from to from to)
  stands_within n f R h s = record {
    long = λ from. (h from (from + n)).long from ∙ s from (from + n);
    placed = λ from g. subst (λ x. R from (from + n) from (from + x)) (s from (from + n)) ((h from (from + n)).placed from g);
    behind = λ from to g. omega (arith, (h from to).behind from to g, s from to);
    alone = λ from to g.
        let e : to ≡ from + n = omega (arith, (h from to).behind from to g, s from to) in
        subst (λ t. HasAt code from ((f from t).list from)) e ((h from to).alone from to g);
  }

  -- a piece up to a label, and another from it on
  pub stands_forked : (n k : ℕ) (f g : (from label to : ℕ) → Piece) (R S : (from label to : ℕ) → Span) →
      ((from label to : ℕ) → Stands (f from label to) (R from label to)) → ((from label to : ℕ) →
      Stands (g from label to) (S from label to)) →
      ((from label to : ℕ) → (f from label to).size ≡ n) → ((from label to : ℕ) → (g from label to).size ≡ k) →
      Stands (forked n k f g) (λ from to. (l : ℕ) × R from l to from l × S from l to l to)
  stands_forked n k f g R S hf hg sf sg = record {
    long = λ from.
        length-append ((f from (from + n) (from + n + k)).list from) ((g from (from + n) (from + n + k)).list (from + n))
        ∙ omega (
          arith,
          (hf from (from + n) (from + n + k)).long from,
          (hg from (from + n) (from + n + k)).long (from + n),
          sf from (from + n) (from + n + k),
          sg from (from + n) (from + n + k),
        );
    placed = λ from h.
        let l = from + n in
        let to = from + n + k in
        let one_long : length ((f from l to).list from) ≡ n = (hf from l to).long from ∙ sf from l to in
        let first = subst (λ x. R from l to from (from + x)) (sf from l to) ((hf from l to).placed from (has_front from
        ((f from l to).list from) _ h)) in
        let second = subst (λ x. S from l to l (l + x)) (sg from l to)
        ((hg from l to).placed l (has_back from n ((f from l to).list from) ((g from l to).list l) one_long h)) in
        let e : from + n + k ≡ from + (n + k) = omega arith in
        subst (λ t. (l' : ℕ) × R from l' t from l' × S from l' t l' t) e (l, first, second);
    behind = λ from to h. omega (
      arith,
      (hf from h.0 to).behind from h.0 h.1,
      (hg from h.0 to).behind h.0 to h.2,
      sf from h.0 to,
      sg from h.0 to,
    );
    alone = λ from to h.
        let l = h.0 in
        let el : l ≡ from + n = omega (arith, (hf from l to).behind from l h.1, sf from l to) in
        let et : to ≡ from + n + k = omega (arith, el, (hg from l to).behind l to h.2, sg from l to) in
        let first = subst (λ t. HasAt code from ((f from (from + n) t).list from)) et
        (subst (λ x. HasAt code from ((f from x to).list from)) el ((hf from l to).alone from l h.1)) in
        let second = subst (λ t. HasAt code (from + n) ((g from (from + n) t).list (from + n))) et
        (subst (λ x. HasAt code x ((g from x to).list x)) el ((hg from l to).alone l to h.2)) in
        let one_long : length ((f from (from + n) (from + n + k)).list from) ≡ n
        = (hf from (from + n) (from + n + k)).long from ∙ sf from (from + n) (from + n + k) in
        has_both from n ((f from (from + n) (from + n + k)).list from) ((g from (from + n) (from + n + k)).list
        (from + n)) one_long first second;
  }

  -- the three forms of an expression
  pub record AllStand (a : Pieces) (F : Forms) : Type 0 where
    pub value : Stands (a.value) (F.value)
    pub unless : (l : ℕ) → Stands (aiming (a.unless) l) (F.unless l)
    pub when : (l : ℕ) → Stands (aiming (a.when) l) (F.when l)

  pub stands_testing : (v : Piece) (R : Span) (test : (target : ℕ) → Instr) → Stands v R →
      (l : ℕ) → Stands (aiming (testing v test) l) (R then one code (test l))
  stands_testing v R test h l = stands_and v (single (test l)) R (one code (test l)) h (stands_single (test l))

  pub all_valued : (v : Piece) (R : Span) → Stands v R → AllStand (valued v) (by_value code R)
  all_valued v R h = record { value = h; unless = stands_testing v R ifeq h; when = stands_testing v R ifne h }

  pub all_jumped : (u w : Jumping) (U W : (target : ℕ) → Span) → ((l : ℕ) → Stands (aiming u l) (U l)) → ((l : ℕ) →
      Stands (aiming w l) (W l)) →
      AllStand (jumped u w) (by_jumps code U W)
  all_jumped u w U W hu hw = record {
    value = stands_forked (u.size + 1 + 1) 1
        (λ from f to. aiming u f and single (push (pos 1)) and single (goto to)) (λ from f to. single (push (pos 0)))
        (λ from f to. U f then one code (push (pos 1)) then one code (goto to)) (λ from f to. one code (push (pos 0)))
        (λ from f to. stands_and _ _ _ _ (stands_and _ _ _ _ (hu f) (stands_single _)) (stands_single _)) (λ from f to. stands_single _)
        (λ from f to. refl) (λ from f to. refl);
    unless = hu;
    when = hw;
  }

  pub stands_jumps_then : (a b : Jumping) (R S : (target : ℕ) → Span) →
      ((l : ℕ) → Stands (aiming a l) (R l)) → ((l : ℕ) → Stands (aiming b l) (S l)) →
      (l : ℕ) → Stands (aiming (jumps_then a b) l) (R l then S l)
  stands_jumps_then a b R S ha hb l = stands_and _ _ _ _ (ha l) (hb l)

  pub stands_skips_then : (a b : Jumping) (R S : (target : ℕ) → Span) →
      ((l : ℕ) → Stands (aiming a l) (R l)) → ((l : ℕ) → Stands (aiming b l) (S l)) →
      (l : ℕ) → Stands (aiming (skips_then a b) l) (λ from to. (R to then S l) from to)
  stands_skips_then a b R S ha hb l =
      stands_within (a.size + b.size) (λ from to. aiming a to and aiming b l) (λ from to. R to then S l)
      (λ from to. stands_and _ _ _ _ (ha to) (hb l)) (λ from to. refl)
