-- Bytes that spell a well-formed class have no field that is wrong.
use Rattle.std.specs.Prelude.{option_map}
use Rattle.std.proofs.Common.{◌≡◌, ℕ, zero, suc, ◌+◌, ◌-◌, ◌*◌, ◌^◌, ◌<◌, ◌≤◌, List, [], ◌∷◌, length, drop, get_or, refl, sym, ap, subst}
use Rattle.std.proofs.Common.{◌∙◌, append-nil, get_or-drop, arith, true, false, Option, Some, None, nat_eq, nat_lt, not, ◌&&◌, ◌||◌}
use Rattle.std.proofs.Common.{slice_get}
use Rattle.std.proofs.lemmas.Bool.{lt-ltb, eqb-false, eq-eqb, ne_eqb}
use Rattle.std.specs.List.{AllByRecursion}
use Rattle.mg_read.proofs.Steps.{bind_some, some_is}
use Rattle.cls_tree.specs.declared.class.Const.{Const}
use Rattle.cls_tree.specs.declared.class.Const.TheVariants as consts
use Rattle.cls_tree.specs.Pool.{tag_of, tag_at}
use Rattle.cls_tree.specs.Tree.{Class, Member, Attr}
use Rattle.cls_tree.specs.WellFormed.{IsClass, ConstNames, IsField_in, IsMethod_in, PlainNames, IsWellFormed}
use Rattle.cls_layout.specs.declared.format.Part.{Part}
use Rattle.cls_layout.specs.declared.format.Part.TheVariants as parts
use Rattle.cls_layout.specs.Parts.{size}
use Rattle.cls_layout.specs.Row.{number, is_bad_entry, pool_count, complete}
use Rattle.cls_layout.specs.Faults.{clean, IsRight}
use Rattle.cls_bytes.specs.Reading.{number_at, three_at, listed_at, attr_at, member_at, members_at, behind_head, pool_at, class_at}
use Rattle.cls_bytes.specs.Reading as reading
use Rattle.cls_bytes.specs.Spelling.{ClassSpells}
use Rattle.cls_layout.proofs.Held.{passed, held}
use Rattle.cls_bytes.proofs.Whole.{class_complete}
use Rattle.cls_bytes.proofs.Clear.{Clear, num}
use Rattle.cls_bytes.proofs.Pools.{IsBytes, Named, Grown}
use Rattle.cls_bytes.proofs.Pools as pools
use Rattle.cls_bytes.proofs.RightRows.{codes_so}
use Rattle.cls_bytes.proofs.SpelledRows.{Known, back, tell, past, no_less, add_none, unless_right, unless_named, attributes_goes}
use Rattle.cls_bytes.proofs.SpelledRows.{members_goes, field_goes, method_goes, three_told}
use Rattle.cls_bytes.proofs.SpelledPools.{Pairs, all_stand}

module _ (bytes : List ℕ) where
  -- a number that must be this one
  behind_told : (at : ℕ) (part : Part) (wanted : ℕ) (rest : List ℕ) → reading.behind (size part) wanted (drop at bytes) ≡ Some rest
      → (nat_lt (length (drop at bytes)) (size part) ≡ false) × (nat_eq (num bytes at part) wanted ≡ true)
      × (drop (at + size part) bytes ≡ rest)
  unfolding reading.behind
  behind_told at part wanted rest e =
      let t = tell bytes [] at part _ rest e in
      let h = held (nat_eq (num bytes at part) wanted) (Some (drop (at + size part) bytes)) rest t.goes_on in
      (t.all, h.0, some_is _ rest h.1)

  -- ---- behind the pool
  module _ (last : List ℕ) (fits : IsBytes bytes) (pool : List Const) (known : Known bytes last pool) where
    end_right : (at : ℕ) → at ≤ length bytes → nat_eq (length (drop at bytes)) 0 ≡ true → Clear bytes last last at (parts.End ∷ [])
    end_right at w none =
        let over : Clear bytes last last (at + 0) [] = record { row = []; lays = complete; clean = clean; within = rw (add_none at) w } in
        (back bytes last last at parts.End [] (no_less (length (drop at bytes))) refl over (unless_right _ _ none)).clear

    members_right : (at : ℕ) (fields methods : List Member) (attrs : List Attr) (rest : List ℕ) → members_at pool (drop at bytes) ≡ Some
        ((fields, methods, attrs), rest) → nat_eq (length rest) 0 ≡ true → at ≤ length bytes
        → AllByRecursion (IsField_in pool) fields → AllByRecursion (IsMethod_in pool) methods → AllByRecursion (PlainNames pool) attrs
        → Clear bytes last last at (parts.MemberCount false ∷ parts.MemberCount true ∷ parts.AttributeCount false ∷ parts.End ∷ [])
    unfolding members_at
    members_right at fields methods attrs rest e none w all_fields all_methods all_attrs =
        let f = bind_some (listed_at (member_at pool false) (drop at bytes)) _ ((fields, methods, attrs), rest) e in
        let m = bind_some (listed_at (member_at pool true) f.0.1) _ ((fields, methods, attrs), rest) f.2 in
        let a = bind_some (listed_at (attr_at pool false) m.0.1) _ ((fields, methods, attrs), rest) m.2 in
        let z = some_is ((f.0.0, m.0.0, a.0.0), a.0.1) ((fields, methods, attrs), rest) a.2 in
        let gf = members_goes bytes last fits pool known false at f.0.0 f.0.1 (IsField_in pool) (field_goes bytes last fits pool known) f.1
        (subst (AllByRecursion (IsField_in pool)) (sym (ap (λ (t : (List Member × List Member × List Attr) × List ℕ). t.0.0) z))
        all_fields) in
        let gm = members_goes bytes last fits pool known true gf.after m.0.0 m.0.1 (IsMethod_in pool)
        (method_goes bytes last fits pool known) (subst (λ (t : List ℕ). listed_at (member_at pool true) t ≡ Some m.0) gf.is m.1)
        (subst (AllByRecursion (IsMethod_in pool)) (sym (ap (λ (t : (List Member × List Member × List Attr) × List ℕ). t.0.1) z))
        all_methods) in
        let ga = attributes_goes bytes last fits pool known gm.after a.0.0 a.0.1
        (subst (λ (t : List ℕ). listed_at (attr_at pool false) t ≡ Some a.0) gm.is a.1)
        (subst (AllByRecursion (PlainNames pool)) (sym (ap (λ (t : (List Member × List Member × List Attr) × List ℕ). t.0.2) z))
        all_attrs) in
        let rest_is : rest ≡ drop ga.after bytes = sym (ap (λ (t : (List Member × List Member × List Attr) × List ℕ). t.1) z) ∙ ga.is in
        let over = end_right ga.after (ga.within (gm.within (gf.within w))) (ap (λ (t : List ℕ). nat_eq (length t) 0) (sym rest_is) ∙ none)
        in
        let c1 = ga.build (parts.End ∷ []) over in
        let c2 = gm.build (parts.AttributeCount false ∷ parts.End ∷ []) c1.clear in
        (gf.build (parts.MemberCount true ∷ parts.AttributeCount false ∷ parts.End ∷ []) c2.clear).clear

    tail_right : (at access this_class super_class : ℕ) (after_three after_none : List ℕ) →
        three_at (drop at bytes) ≡ Some ((access, this_class, super_class), after_three) → reading.behind 2 0 after_three ≡ Some after_none
        → IsClass pool this_class → IsClass pool super_class → at ≤ length bytes
        → ((a : ℕ) → after_none ≡ drop a bytes → a ≤ length bytes →
        Clear bytes last last a (parts.MemberCount false ∷ parts.MemberCount true ∷ parts.AttributeCount false ∷ parts.End ∷ []))
        → Clear bytes last last at (parts.Number ∷ parts.Reference 7 ∷ parts.Reference 7 ∷ parts.Interfaces ∷ parts.MemberCount false ∷
        parts.MemberCount true ∷ parts.AttributeCount false ∷ parts.End ∷ [])
    unfolding number
    tail_right at access this_class super_class after_three after_none e none is_class is_super w members =
        let t = three_told bytes last fits pool known at parts.Number (parts.Reference 7) (parts.Reference 7)
        ((access, this_class, super_class), after_three) refl refl refl e in
        let a6 = at + 2 + 2 + 2 in
        let b = behind_told a6 parts.Interfaces 0 after_none (subst (λ (r : List ℕ). reading.behind 2 0 r ≡ Some after_none)
        (sym (ap (λ (z : (ℕ × ℕ × ℕ) × List ℕ). z.1) t.3)) none) in
        let w6 = past bytes last (at + 2 + 2) 2 t.2 (past bytes last (at + 2) 2 t.1 (past bytes last at 2 t.0 w)) in
        let c = members (a6 + 2) (sym b.2) (past bytes last a6 2 b.0 w6) in
        let class_is : IsClass pool (num bytes (at + 2) (parts.Reference 7)) =
        subst (IsClass pool) (sym (ap (λ (z : (ℕ × ℕ × ℕ) × List ℕ). z.0.1) t.3)) is_class in
        let super_is : IsClass pool (num bytes (at + 2 + 2) (parts.Reference 7)) =
        subst (IsClass pool) (sym (ap (λ (z : (ℕ × ℕ × ℕ) × List ℕ). z.0.2) t.3)) is_super in
        let c4 = back bytes last last a6 parts.Interfaces _ b.0 (rw b.1 refl) c (unless_right _ _ b.1) in
        let c3 = back bytes last last (at + 2 + 2) (parts.Reference 7) _ t.2 refl c4.clear (unless_named _ _ (known.tags 7 _ super_is)) in
        let c2 = back bytes last last (at + 2) (parts.Reference 7) _ t.1 refl c3.clear (unless_named _ _ (known.tags 7 _ class_is)) in
        (back bytes last last at parts.Number _ t.0 refl c2.clear refl).clear

  -- ---- the pool's numbers
  module _ (fits : IsBytes bytes) (places : List ℕ) (pool : List Const) (pairs : Pairs bytes fits places pool)
      (counts : pool_count bytes ≡ length pool + 1) where
    pair_tag : (ps : List ℕ) (cs : List Const) → Pairs bytes fits ps cs → (i : ℕ) (c : Const) → slice_get cs i ≡ Some c →
        (i < length ps) × (i < length cs) × (get_or bytes (get_or ps i 0) 0 ≡ tag_of c)
    pair_tag [] [] p i c e = absurd (cc)
    pair_tag [] (d ∷ cs) p i c e = absurd p
    pair_tag (q ∷ qs) [] p i c e = absurd p
    pair_tag (q ∷ qs) (d ∷ cs) p zero c e = (omega arith, omega arith, p.0 ∙ ap tag_of (some_is d c e))
    pair_tag (q ∷ qs) (d ∷ cs) p (suc i) c e = let r = pair_tag qs cs p.2 i c e in (
      let a = r.0 in omega (arith, a),
      let b = r.1 in omega
          (arith, b),
      r.2,
    )

    tags_back : (tag n : ℕ) → tag_at pool n ≡ Some tag → is_bad_entry bytes places tag n ≡ false
    unfolding is_bad_entry
    tags_back tag zero e = absurd (cc)
    tags_back tag (suc i) e = go (slice_get pool i) refl e where
      go : (o : Option Const) → slice_get pool i ≡ o → option_map tag_of o ≡ Some tag
          → (nat_eq (suc i) 0 || (not (nat_lt (suc i) (pool_count bytes)) ||
          (nat_lt (suc i - 1) (length places) && not (nat_eq (get_or bytes (get_or places (suc i - 1) 0) 0) tag)))) ≡ false
      go None is t = absurd (cc)
      go (Some c) is t =
          let r = pair_tag places pool pairs i c is in
          let tag_is : tag_of c ≡ tag = some_is (tag_of c) tag t in
          let one : suc i - 1 ≡ i = omega arith in
          let r0 = r.0 in
          let r1 = r.1 in
          let byte : get_or bytes (get_or places (suc i - 1) 0) 0 ≡ tag = ap (λ (k : ℕ). get_or bytes (get_or places k 0) 0) one ∙
          (r.2 ∙ tag_is) in
          rw (
            ne_eqb (suc i) 0 (λ h. omega (arith, h)),
            lt-ltb (suc i) (pool_count bytes) (omega (arith, counts, r1)),
            lt-ltb (suc i - 1) (length places) (omega (arith, r0)),
            eq-eqb _ tag byte,
          ) refl

    named_back : (c : Const) → ConstNames pool c → Named bytes places c
    named_back (consts.Utf8 t) n = tt
    named_back (consts.Integer z) n = tt
    named_back (consts.Class k) n = tags_back 1 k n
    named_back (consts.Text k) n = tags_back 1 k n
    named_back (consts.Field a b) n = (tags_back 7 a n.0, tags_back 12 b n.1)
    named_back (consts.Method a b) n = (tags_back 7 a n.0, tags_back 12 b n.1)
    named_back (consts.NameAndType a b) n = (tags_back 1 a n.0, tags_back 1 b n.1)

    pub all_named : (cs : List Const) → AllByRecursion (ConstNames pool) cs → AllByRecursion (Named bytes places) cs
    all_named [] all = tt
    all_named (c ∷ cs) all = (named_back c all.0, all_named cs all.1)

    full_pairs : (ps : List ℕ) (cs : List Const) → Pairs bytes fits ps cs → AllByRecursion (Named bytes places) cs →
        pools.Pairs bytes places ps cs
    full_pairs [] [] p all = tt
    full_pairs [] (d ∷ cs) p all = absurd p
    full_pairs (q ∷ qs) [] p all = absurd p
    full_pairs (q ∷ qs) (d ∷ cs) p all = (record { tag = p.0; code = p.1; named = all.0 }, full_pairs qs cs p.2 all.1)

    pub known_of : AllByRecursion (ConstNames pool) pool → Known bytes places pool
    known_of all = record {
      tags = tags_back;
      codes_so = codes_so bytes places places pool (full_pairs places pool pairs (all_named pool all))
          (record { more = []; is = sym (append-nil places) }) counts;
    }

abbrev big_two : ℕ → ℕ → ℕ
big_two a b = a * 256 ^ 1 + (b * 256 ^ 0 + 0)

pub spelled_right : (bytes : List ℕ) (class : Class) → IsBytes bytes → ClassSpells bytes class → IsRight bytes
unfolding class_at behind_head pool_at number pool_count
spelled_right bytes class fits s =
    let e : class_at bytes ≡ Some class = ap class_at s.layout ∙ class_complete class s.file in
    let h = bind_some (behind_head bytes) _ class e in
    let m1 = bind_some (reading.behind 4 3405691582 bytes) _ h.0 h.1 in
    let b1 = behind_told bytes 0 parts.Magic 3405691582 m1.0 m1.1 in
    let m2 = bind_some (reading.behind 2 0 m1.0) _ h.0 m1.2 in
    let b2 = behind_told bytes 4 parts.Minor 0 m2.0 (subst (λ (r : List ℕ). reading.behind 2 0 r ≡ Some m2.0) (sym b1.2) m2.1) in
    let b3 = behind_told bytes 6 parts.Major 49 h.0 (subst (λ (r : List ℕ). reading.behind 2 49 r ≡ Some h.0) (sym b2.2) m2.2) in
    let p = bind_some (pool_at h.0) _ class h.2 in
    let pool_here : pool_at (drop 8 bytes) ≡ Some p.0 = subst (λ (r : List ℕ). pool_at r ≡ Some p.0) (sym b3.2) p.1 in
    let t4 = tell bytes [] 8 parts.PoolCount _ p.0 pool_here in
    let n = num bytes 8 parts.PoolCount in
    let q = passed (nat_eq n 0) _ p.0 t4.goes_on in
    let stand = all_stand bytes fits (n - 1) 10 p.0 q.1 in
    let three = bind_some (three_at p.0.1) _ class p.2 in
    let none = bind_some (reading.behind 2 0 three.0.1) _ class three.2 in
    let members = bind_some (members_at p.0.0 none.0) _ class none.2 in
    let test = held (nat_eq (length members.0.1) 0) _ class members.2 in
    let z = some_is _ class test.1 in
    let formed = subst IsWellFormed (sym z) s.well_formed in
    let some : (n ≡ 0 → ⊥) = eqb-false n 0 q.0 in
    let count = stand.count in
    let high : get_or (drop 8 bytes) 0 0 ≡ get_or bytes 8 0 = get_or-drop 8 bytes 0 0 in
    let low : get_or (drop 8 bytes) 1 0 ≡ get_or bytes 9 0 = get_or-drop 8 bytes 1 0 in
    let counts : pool_count bytes ≡ length p.0.0 + 1 = counted_right (get_or bytes 8 0) (get_or bytes 9 0) (get_or (drop 8 bytes) 0 0)
    (get_or (drop 8 bytes) 1 0) n (length p.0.0) high low refl some count in
    let known = known_of bytes fits stand.news p.0.0 stand.pairs counts formed.pool in
    let w10 : 10 ≤ length bytes = past bytes [] 8 2 t4.all
    (past bytes [] 6 2 b3.0 (past bytes [] 4 2 b2.0 (past bytes [] 0 4 b1.0 (omega arith)))) in
    let c = tail_right bytes stand.news fits p.0.0 known stand.after three.0.0.0 three.0.0.1 three.0.0.2 three.0.1 none.0
    (subst (λ (r : List ℕ). three_at r ≡ Some three.0) stand.is three.1) none.1 formed.this_class formed.super_class
    (stand.within w10)
    (λ a a_is a_within. members_right bytes stand.news fits p.0.0 known a members.0.0.0 members.0.0.1 members.0.0.2 members.0.1
    (subst (λ (r : List ℕ). members_at p.0.0 r ≡ Some members.0) a_is members.1) test.0 a_within formed.fields formed.methods
    formed.attributes) in
    let c4 = stand.build stand.news [] _ (all_named bytes fits stand.news p.0.0 stand.pairs counts p.0.0 formed.pool) c in
    let d4 = back bytes stand.news [] 8 parts.PoolCount _ t4.all refl c4 (unless_right _ _ (lt-ltb 0 n (some_number n some))) in
    let d3 = back bytes stand.news [] 6 parts.Major _ b3.0 refl d4.clear (unless_right _ _ b3.1) in
    let d2 = back bytes stand.news [] 4 parts.Minor _ b2.0 refl d3.clear (unless_right _ _ b2.1) in
    let d1 = back bytes stand.news [] 0 parts.Magic _ b1.0 refl d2.clear (unless_right _ _ b1.1) in
    record { row = d1.clear.row; places = stand.news; lays = d1.clear.lays; first = d1.clear.clean }
  where
    some_number : (n : ℕ) → (n ≡ 0 → ⊥) → 0 < n
    some_number zero e = absurd (e refl)
    some_number (suc n) e = omega arith

    counted_right : (b8 b9 g0 g1 n k : ℕ) → g0 ≡ b8 → g1 ≡ b9 → n ≡ big_two g0 g1 → (n ≡ 0 → ⊥) → k ≡ n - 1 → 256 * b8 + b9 ≡ k + 1
    counted_right b8 b9 g0 g1 n k a b c d e = let f = some_number n d in omega (arith, a, b, c, e, f)
