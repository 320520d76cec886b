-- The constants of a pool that is spelled have fields that are right.
use Rattle.std.proofs.Common.{◌≡◌, ℕ, zero, suc, ◌+◌, ◌≤◌, List, [], ◌∷◌, ◌++◌, length, take, drop, get_or, refl, sym, ap, subst, ◌∙◌}
use Rattle.std.proofs.Common.{append_assoc, append-nil, arith, true, false, cond, Some, None, inl, inr, nat_eq, nat_lt}
use Rattle.std.specs.Prelude.{replicate}
use Rattle.std.proofs.lemmas.List.{drop-drop}
use Rattle.std.proofs.lemmas.Bool.{ltb-false, le-ltb, eqb-true}
use Rattle.std.specs.List.{AllByRecursion}
use Rattle.mg_read.specs.Reader.{◌>>=◌}
use Rattle.mg_read.proofs.Steps.{bind_some, some_is, none_is_not, chosen}
use Rattle.cls_tree.specs.declared.class.Const.{Const}
use Rattle.cls_tree.specs.declared.class.Const.TheVariants as consts
use Rattle.cls_tree.specs.Pool.{tag_of, text_in}
use Rattle.cls_tree.specs.ClassFile.{is_code_text as is_code_name}
use Rattle.cls_layout.specs.declared.format.Part.{Part}
use Rattle.cls_layout.specs.declared.format.Part.TheVariants as parts
use Rattle.cls_layout.specs.Parts.{is_tag, holds}
use Rattle.cls_layout.specs.Row.{number, is_code_text, is_bad_entry}
use Rattle.cls_layout.specs.Faults.{spelled}
use Rattle.cls_layout.specs.Letters.{letters}
use Rattle.cls_bytes.specs.Reading.{text_at, one_at, pair_at, two_at, int_at, tagged_at, const_at, counted}
use Rattle.cls_layout.proofs.Held.{passed}
use Rattle.cls_layout.proofs.Modified.{letters_read}
use Rattle.cls_bytes.proofs.Clear.{Clear, num}
use Rattle.cls_bytes.proofs.Pools.{IsBytes, Named, front, byte_of, no_code, code_so, code_utf8, two_front}
use Rattle.cls_bytes.proofs.SpelledRows.{back, tell, past, unless_right, unless_named}

module _ (bytes : List ℕ) (fits : IsBytes bytes) where
  -- A constant stands there, and the rest behind it. Where its numbers can name what they need, its fields are right.
  pub record Stands (at : ℕ) (c : Const) (rest : List ℕ) : Type 0 where
    pub after : ℕ
    pub is : rest ≡ drop after bytes
    pub within : at ≤ length bytes → after ≤ length bytes
    pub tag : get_or bytes at 0 ≡ tag_of c
    pub code : is_code_text (drop at bytes) ≡ is_code_name (text_in c)
    pub build : (last places : List ℕ) (due : List Part) → Named bytes last c → Clear bytes last (places ++ at ∷ []) after due →
        Clear bytes last places at (parts.Tag ∷ due)

  -- the field of a tag
  tag_build : (last places : List ℕ) (at tag : ℕ) (due : List Part) → nat_lt (length (drop at bytes)) 1 ≡ false →
      num bytes at parts.Tag ≡ tag → is_tag tag ≡ true
      → Clear bytes last (places ++ at ∷ []) (at + 1) (holds tag ++ due) → Clear bytes last places at (parts.Tag ∷ due)
  tag_build last places at tag due all e known c =
      let k : is_tag (num bytes at parts.Tag) ≡ true = rw e known in
      (back bytes last places at parts.Tag due all (rw k refl)
      (subst (λ (n : ℕ). Clear bytes last (places ++ at ∷ []) (at + 1) (holds n ++ due)) (sym e) c) (unless_right _ _ k)).clear

  module _ (at tag : ℕ) (all : nat_lt (length (drop at bytes)) 1 ≡ false) (tag_is : num bytes at parts.Tag ≡ tag)
      (here : drop at bytes ≡ tag ∷ drop (at + 1) bytes) (known : is_tag tag ≡ true) where
    byte_is : get_or bytes at 0 ≡ tag
    byte_is = byte_of bytes [] at tag (drop (at + 1) bytes) here

    one_stands : (make : ℕ → Const) → holds tag ≡ parts.Reference 1 ∷ [] → nat_eq tag 1 ≡ false → ((n : ℕ) → tag_of (make n) ≡ tag) →
        ((n : ℕ) → is_code_name (text_in (make n)) ≡ false)
        → ((last : List ℕ) (n : ℕ) → Named bytes last (make n) → is_bad_entry bytes last 1 n ≡ false)
        → (x : Const × List ℕ) → one_at make (drop (at + 1) bytes) ≡ Some x → Stands at x.0 x.1
    unfolding one_at
    one_stands make parts_are other tags no_text names x e =
        let t = tell bytes [] (at + 1) (parts.Reference 1) (λ n. Some (make n.0, n.1)) x e in
        let n = num bytes (at + 1) (parts.Reference 1) in
        subst (λ (w : Const × List ℕ). Stands at w.0 w.1) (some_is (make n, drop (at + 1 + 2) bytes) x t.goes_on) (record {
          after = at + 1 + 2;
          is = refl;
          within = λ w. past bytes [] (at + 1) 2 t.all (past bytes [] at 1 all w);
          tag = byte_is ∙ sym (tags n);
          code = no_code bytes [] at tag (drop (at + 1) bytes) here other ∙ sym (no_text n);
          build = λ last places due named c.
              let b = back bytes last (places ++ at ∷ []) (at + 1) (parts.Reference 1) due t.all refl c
              (unless_named _ _ (names last n named)) in
              tag_build last places at tag due all tag_is known (rw parts_are b.clear);
        })

    two_stands : (first second : ℕ) (make : ℕ → ℕ → Const) → holds tag ≡ parts.Reference first ∷ parts.Reference second ∷ [] →
        nat_eq tag 1 ≡ false → ((a b : ℕ) → tag_of (make a b) ≡ tag) → ((a b : ℕ) → is_code_name (text_in (make a b)) ≡ false)
        → ((last : List ℕ) (a b : ℕ) → Named bytes last (make a b) → (is_bad_entry bytes last first a ≡ false)
        × (is_bad_entry bytes last second b ≡ false))
        → (x : Const × List ℕ) → two_at make (drop (at + 1) bytes) ≡ Some x → Stands at x.0 x.1
    unfolding two_at pair_at
    two_stands first second make parts_are other tags no_text names x e =
        let p = bind_some (pair_at (drop (at + 1) bytes)) (λ p. Some (make p.0.0 p.0.1, p.1)) x e in
        let t = tell bytes [] (at + 1) (parts.Reference first) _ p.0 p.1 in
        let u = tell bytes [] (at + 1 + 2) (parts.Reference second) _ p.0 t.goes_on in
        let a = num bytes (at + 1) (parts.Reference first) in
        let b = num bytes (at + 1 + 2) (parts.Reference second) in
        let z = some_is ((a, b), drop (at + 1 + 2 + 2) bytes) p.0 u.goes_on in
        let y = some_is (make p.0.0.0 p.0.0.1, p.0.1) x p.2 in
        let all_is : (make a b, drop (at + 1 + 2 + 2) bytes) ≡ x = ap (λ (w : (ℕ × ℕ) × List ℕ). (make w.0.0 w.0.1, w.1)) z ∙ y in
        subst (λ (w : Const × List ℕ). Stands at w.0 w.1) all_is (record {
          after = at + 1 + 2 + 2;
          is = refl;
          within = λ w. past bytes [] (at + 1 + 2) 2 u.all (past bytes [] (at + 1) 2 t.all (past bytes [] at 1 all w));
          tag = byte_is ∙ sym (tags a b);
          code = no_code bytes [] at tag (drop (at + 1) bytes) here other ∙ sym (no_text a b);
          build = λ last places due named c.
              let names_both = names last a b named in
              let c2 = back bytes last (places ++ at ∷ []) (at + 1 + 2) (parts.Reference second) due u.all refl c
              (unless_named _ _ names_both.1) in
              let c1 = back bytes last (places ++ at ∷ []) (at + 1) (parts.Reference first) (parts.Reference second ∷ due) t.all refl
              c2.clear (unless_named _ _ names_both.0) in
              tag_build last places at tag due all tag_is known (rw parts_are c1.clear);
        })

  int_stands : (at : ℕ) → nat_lt (length (drop at bytes)) 1 ≡ false → num bytes at parts.Tag ≡ 3 → drop at bytes ≡ 3 ∷ drop (at + 1) bytes
      → (x : Const × List ℕ) → int_at (drop (at + 1) bytes) ≡ Some x → Stands at x.0 x.1
  unfolding int_at
  int_stands at all tag_is here x e =
      let t = tell bytes [] (at + 1) parts.Int _ x e in
      subst (λ (w : Const × List ℕ). Stands at w.0 w.1) (some_is _ x t.goes_on) (record {
        after = at + 1 + 4;
        is = refl;
        within = λ w. past bytes [] (at + 1) 4 t.all (past bytes [] at 1 all w);
        tag = byte_of bytes [] at 3 (drop (at + 1) bytes) here;
        code = no_code bytes [] at 3 (drop (at + 1) bytes) here refl;
        build = λ last places due named c. tag_build last places at 3 due all tag_is refl
            (back bytes last (places ++ at ∷ []) (at + 1) parts.Int due t.all refl c refl).clear;
      })

  text_stands : (at : ℕ) → nat_lt (length (drop at bytes)) 1 ≡ false → num bytes at parts.Tag ≡ 1 → drop at bytes ≡ 1 ∷ drop (at + 1) bytes
      → (x : List ℕ × List ℕ) → text_at (drop (at + 1) bytes) ≡ Some x → Stands at (consts.Utf8 x.0) x.1
  unfolding text_at number
  text_stands at all tag_is here x e =
      let t = tell bytes [] (at + 1) parts.TextLength _ x e in
      let n = num bytes (at + 1) parts.TextLength in
      let a = at + 1 + 2 in
      let y = bind_some (cond (nat_lt (length (drop a bytes)) n) None (letters (take n (drop a bytes)))) _ x t.goes_on in
      let p = passed (nat_lt (length (drop a bytes)) n) (letters (take n (drop a bytes))) y.0 y.1 in
      let r = letters_read (take n (drop a bytes)) y.0 p.1 in
      let f = two_front bytes [] fits (at + 1) n t.all refl in
      let long : n ≤ length (drop a bytes) = ltb-false (length (drop a bytes)) n p.0 in
      let front_is : drop at bytes ≡ 1 ∷ f.0 ∷ f.1 ∷ drop a bytes = here ∙ ap (λ (w : List ℕ). 1 ∷ w) f.2 in
      subst (λ (w : List ℕ × List ℕ). Stands at (consts.Utf8 w.0) w.1) (some_is (y.0, drop n (drop a bytes)) x y.2) (record {
        after = a + n;
        is = drop-drop n a bytes;
        within = λ w. past bytes [] a n p.0 (past bytes [] (at + 1) 2 t.all (past bytes [] at 1 all w));
        tag = byte_of bytes [] at 1 (drop (at + 1) bytes) here;
        code = ap is_code_text front_is ∙ code_so f.0 f.1 (drop a bytes) y.0 f.3 f.4 r.0 code_utf8
            (r.1 ∙ ap (λ m. take m (drop a bytes)) f.5) (rw (← f.5) long);
        build = λ last places due named c.
            let b = back bytes last (places ++ at ∷ []) a (parts.Letters n) due p.0 refl c (spelled y.0 r.0 r.1) in
            tag_build last places at 1 due all tag_is refl (back bytes last (places ++ at ∷ []) (at + 1) parts.TextLength due t.all refl
            b.clear refl).clear;
      })

  utf8_stands : (at : ℕ) → nat_lt (length (drop at bytes)) 1 ≡ false → num bytes at parts.Tag ≡ 1 → drop at bytes ≡ 1 ∷ drop (at + 1) bytes
      → (x : Const × List ℕ) → (text_at (drop (at + 1) bytes) >>= λ t. Some (consts.Utf8 t.0, t.1)) ≡ Some x → Stands at x.0 x.1
  utf8_stands at all tag_is here x e =
      let t = bind_some (text_at (drop (at + 1) bytes)) (λ t. Some (consts.Utf8 t.0, t.1)) x e in
      subst (λ (w : Const × List ℕ). Stands at w.0 w.1) (some_is (consts.Utf8 t.0.0, t.0.1) x t.2) (text_stands at all tag_is here t.0 t.1)

  by_tag : (at tag : ℕ) → nat_lt (length (drop at bytes)) 1 ≡ false → num bytes at parts.Tag ≡ tag →
      drop at bytes ≡ tag ∷ drop (at + 1) bytes → (x : Const × List ℕ) → tagged_at tag (drop (at + 1) bytes) ≡ Some x → Stands at x.0 x.1
  unfolding tagged_at
  by_tag at tag all tag_is here x e =
      elim (chosen (nat_eq tag 1) _ _ (Some x) e) [
        | inl t ↦ let k = eqb-true tag 1 t.0 in utf8_stands at all (tag_is ∙ k) (rw k at here) x t.1
        | inr f1 ↦
            elim (chosen (nat_eq tag 3) _ _ (Some x) f1.1) [
              | inl t ↦ let k = eqb-true tag 3 t.0 in int_stands at all (tag_is ∙ k) (rw k at here) x t.1
              | inr f3 ↦
                  elim (chosen (nat_eq tag 7) _ _ (Some x) f3.1) [
                    | inl t ↦ let k = eqb-true tag 7 t.0 in one_stands at 7 all (tag_is ∙ k) (rw k at here) refl consts.Class refl refl
                        (λ n. refl) (λ n. refl) (λ l n q. q) x t.1
                    | inr f7 ↦
                        elim (chosen (nat_eq tag 8) _ _ (Some x) f7.1) [
                          | inl t ↦ let k = eqb-true tag 8 t.0 in one_stands at 8 all (tag_is ∙ k) (rw k at here) refl consts.Text refl refl
                              (λ n. refl) (λ n. refl) (λ l n q. q) x t.1
                          | inr f8 ↦
                              elim (chosen (nat_eq tag 9) _ _ (Some x) f8.1) [
                                | inl t ↦ let k = eqb-true tag 9 t.0 in two_stands at 9 all (tag_is ∙ k) (rw k at here) refl 7 12
                                    consts.Field refl refl (λ a b. refl) (λ a b. refl) (λ l a b q. q) x t.1
                                | inr f9 ↦
                                    elim (chosen (nat_eq tag 10) _ _ (Some x) f9.1) [
                                      | inl t ↦ let k = eqb-true tag 10 t.0 in two_stands at 10 all (tag_is ∙ k) (rw k at here) refl 7 12
                                          consts.Method refl refl (λ a b. refl) (λ a b. refl) (λ l a b q. q) x t.1
                                      | inr f10 ↦
                                          elim (chosen (nat_eq tag 12) _ _ (Some x) f10.1) [
                                            | inl t ↦ let k = eqb-true tag 12 t.0 in two_stands at 12 all (tag_is ∙ k) (rw k at here) refl 1
                                                1 consts.NameAndType refl refl (λ a b. refl) (λ a b. refl) (λ l a b q. q) x t.1
                                            | inr f12 ↦
                                                absurd (none_is_not x f12.1)
                                          ]
                                    ]
                              ]
                        ]
                  ]
            ]
      ]

  some_byte : (at : ℕ) (x : Const × List ℕ) → const_at (drop at bytes) ≡ Some x → nat_lt (length (drop at bytes)) 1 ≡ false
  unfolding const_at
  some_byte at x e = go (drop at bytes) e where
    go : (w : List ℕ) → const_at w ≡ Some x → nat_lt (length w) 1 ≡ false
    go [] e = absurd (none_is_not x e)
    go (b ∷ w) e = le-ltb (suc (length w)) 1 (omega arith)

  pub const_stands : (at : ℕ) (x : Const × List ℕ) → const_at (drop at bytes) ≡ Some x → Stands at x.0 x.1
  unfolding const_at
  const_stands at x e =
      let all = some_byte at x e in
      let here = front bytes [] at all in
      by_tag at (num bytes at parts.Tag) all refl here x (subst (λ (w : List ℕ). const_at w ≡ Some x) here e)

  abbrev pub Pairs : List ℕ → List Const → Type 0
  Pairs [] [] = Unit {0}
  Pairs (p ∷ ps) (c ∷ cs) = (get_or bytes p 0 ≡ tag_of c) × (is_code_text (drop p bytes) ≡ is_code_name (text_in c)) × Pairs ps cs
  Pairs ps cs = ⊥

  -- so many constants stand there, at these places
  pub record AllStand (n at : ℕ) (cs : List Const) (rest : List ℕ) : Type 0 where
    pub news : List ℕ
    pub after : ℕ
    pub is : rest ≡ drop after bytes
    pub within : at ≤ length bytes → after ≤ length bytes
    pub pairs : Pairs news cs
    pub count : length cs ≡ n
    pub build : (last places : List ℕ) (due : List Part) → AllByRecursion (Named bytes last) cs → Clear bytes last (places ++ news) after
        due → Clear bytes last places at (replicate n parts.Tag ++ due)

  pub all_stand : (n at : ℕ) (x : List Const × List ℕ) → counted const_at n (drop at bytes) ≡ Some x → AllStand n at x.0 x.1
  unfolding counted
  all_stand zero at x e =
      subst (λ (w : List Const × List ℕ). AllStand zero at w.0 w.1) (some_is ([], drop at bytes) x e)
      (record {
        news = [];
        after = at;
        is = refl;
        within = λ w. w;
        pairs = tt;
        count = refl;
        build =
            λ last places due named c. subst (λ (p : List ℕ). Clear bytes last p at due) (append-nil places) c;
      })
  all_stand (suc n) at x e =
      let c = bind_some (const_at (drop at bytes)) (λ y. counted const_at n y.1 >>= λ ys. Some (y.0 ∷ ys.0, ys.1)) x e in
      let cs = bind_some (counted const_at n c.0.1) (λ ys. Some (c.0.0 ∷ ys.0, ys.1)) x c.2 in
      let one = const_stands at c.0 c.1 in
      let more = all_stand n one.after cs.0 (subst (λ (w : List ℕ). counted const_at n w ≡ Some cs.0) one.is cs.1) in
      subst (λ (w : List Const × List ℕ). AllStand (suc n) at w.0 w.1) (some_is (c.0.0 ∷ cs.0.0, cs.0.1) x cs.2) (record {
        news = at ∷ more.news;
        after = more.after;
        is = more.is;
        within = λ w. more.within (one.within w);
        pairs = (one.tag, one.code, more.pairs);
        count = ap suc more.count;
        build = λ last places due named cl.
            one.build last places (replicate n parts.Tag ++ due) named.0
            (more.build last (places ++ at ∷ []) due named.1 (subst (λ (p : List ℕ). Clear bytes last p more.after due)
            (sym (append_assoc places (at ∷ []) more.news)) cl));
      })
