-- The pool of a row that is right is read, and its constants name what they need.
use Rattle.std.proofs.Common.{◌≡◌, ◌⊎◌, ℕ, zero, suc, ◌+◌, ◌*◌, ◌<◌, ◌≤◌, List, [], ◌∷◌, ◌++◌, length, take, drop, get_or, refl, sym, ap}
use Rattle.std.proofs.Common.{subst, ◌∙◌, append_assoc, append-nil, length-drop, length-take, get_or-drop, get_or-take, slice_index}
use Rattle.std.proofs.Common.{drop-cons, add-one, arith, Bool, true, false, Option, Some, None, inl, inr, nat_eq, nat_lt, not, ◌&&◌, ◌||◌}
use Rattle.std.proofs.Common.{codes}
use Rattle.std.specs.Prelude.{replicate}
use Rattle.std.proofs.lemmas.List.{drop-drop}
use Rattle.std.proofs.lemmas.Bool.{ltb-false, eqb-true}
use Rattle.std.proofs.lemmas.Slice.Eq.{bytes_eq-Decides}
use Rattle.std.proofs.lemmas.Str.{IsUtf8-from_ascii}
use Rattle.std.specs.Str.{IsUtf8, bytes_eq}
use Rattle.std.specs.Int.{cast_signed}
use mir.Syntax.{w32}
use Rattle.byteorder.specs.Endian.{big_number}
use Rattle.cls_tree.specs.declared.class.Const.{Const}
use Rattle.cls_tree.specs.declared.class.Const.TheVariants as consts
use Rattle.cls_tree.specs.Modified.{modified}
use Rattle.cls_tree.proofs.Plain.{modified_plain}
use Rattle.cls_tree.specs.Pool.{tag_of, text_in}
use Rattle.cls_tree.specs.ClassFile.{is_code_text as is_code_name}
use Rattle.cls_layout.specs.declared.format.Part.{Part}
use Rattle.cls_layout.specs.declared.format.Part.TheVariants as parts
use Rattle.cls_layout.specs.declared.format.Field.{Field}
use Rattle.cls_layout.specs.Parts.{is_tag, holds}
use Rattle.cls_layout.specs.Row.{number, is_bad_entry, is_code_text, entered, Lays, complete, stopped, next}
use Rattle.cls_layout.specs.Faults.{unless, JudgesText, spelled}
use Rattle.cls_layout.specs.Letters.{letters}
use Rattle.cls_bytes.specs.Reading.{text_at, one_at, pair_at, two_at, int_at, tagged_at, const_at, counted}
use Rattle.cls_layout.proofs.Modified.{letters_given}
use Rattle.cls_bytes.proofs.Clear.{Clear, num, step, Got}
use Rattle.cls_bytes.proofs.Productions.{not_bad}

abbrev pub IsBytes : List ℕ → Type 0
IsBytes bytes = (i : ℕ) → get_or bytes i 0 < 256

-- the places only grow
pub record Grown (places last : List ℕ) : Type 0 where
  pub more : List ℕ
  pub is : last ≡ places ++ more

entered_more : (p : Part) (at : ℕ) (places : List ℕ) → Grown places (entered p at places)
entered_more parts.Tag at places = record { more = at ∷ []; is = refl }
entered_more p at places = record { more = []; is = sym (append-nil places) }

grown_twice : (a b c : List ℕ) → Grown a b → Grown b c → Grown a c
grown_twice a b c f g = record {
  more = f.more ++ g.more;
  is =
      g.is ∙ (ap (λ (x : List ℕ). x ++ g.more) f.is ∙ append_assoc a f.more g.more);
}

pub grown : (bytes places : List ℕ) (at : ℕ) (due : List Part) (row : List Field) (last : List ℕ) → Lays bytes places at due row last →
    Grown places last
grown bytes places at due row last complete = record { more = []; is = sym (append-nil places) }
grown bytes places at due row last (stopped e s) = record { more = []; is = sym (append-nil places) }
grown bytes places at (part ∷ due) (f ∷ row) last (next e s more) = grown_twice places (entered part at places) last
    (entered_more part at places) (grown bytes (entered part at places) _ _ row last more)

-- a constant's numbers can name what they need
abbrev pub Named : List ℕ → List ℕ → Const → Type 0
Named bytes last (consts.Class n) = is_bad_entry bytes last 1 n ≡ false
Named bytes last (consts.Text n) = is_bad_entry bytes last 1 n ≡ false
Named bytes last (consts.Field a b) = (is_bad_entry bytes last 7 a ≡ false) × (is_bad_entry bytes last 12 b ≡ false)
Named bytes last (consts.Method a b) = (is_bad_entry bytes last 7 a ≡ false) × (is_bad_entry bytes last 12 b ≡ false)
Named bytes last (consts.NameAndType a b) = (is_bad_entry bytes last 1 a ≡ false) × (is_bad_entry bytes last 1 b ≡ false)
Named bytes last other = Unit {0}

-- a constant begins at this place
pub record Begins (bytes last : List ℕ) (place : ℕ) (c : Const) : Type 0 where
  pub tag : get_or bytes place 0 ≡ tag_of c
  pub code : is_code_text (drop place bytes) ≡ is_code_name (text_in c)
  pub named : Named bytes last c

abbrev pub Pairs : List ℕ → List ℕ → List ℕ → List Const → Type 0
Pairs bytes last [] [] = Unit {0}
Pairs bytes last (p ∷ ps) (c ∷ cs) = Begins bytes last p c × Pairs bytes last ps cs
Pairs bytes last ps cs = ⊥

-- ---- tags
data Tagged : ℕ → Type 0 where
  tag_text : Tagged 1
  tag_int : Tagged 3
  tag_class : Tagged 7
  tag_pushed : Tagged 8
  tag_field_of : Tagged 9
  tag_method_of : Tagged 10
  tag_signature : Tagged 12

or_else : (a b : Bool) → (a || b) ≡ true → (a ≡ true) ⊎ (b ≡ true)
or_else true b e = inl refl
or_else false b e = inr e

tagged : (n : ℕ) → is_tag n ≡ true → Tagged n
tagged n e =
    elim (or_else (nat_eq n 1) _ e) [
      | inl a ↦ subst Tagged (sym (eqb-true n 1 a)) tag_text
      | inr e3 ↦
          elim (or_else (nat_eq n 3) _ e3) [
            | inl a ↦ subst Tagged (sym (eqb-true n 3 a)) tag_int
            | inr e7 ↦
                elim (or_else (nat_eq n 7) _ e7) [
                  | inl a ↦ subst Tagged (sym (eqb-true n 7 a)) tag_class
                  | inr e8 ↦
                      elim (or_else (nat_eq n 8) _ e8) [
                        | inl a ↦ subst Tagged (sym (eqb-true n 8 a)) tag_pushed
                        | inr e9 ↦
                            elim (or_else (nat_eq n 9) _ e9) [
                              | inl a ↦ subst Tagged (sym (eqb-true n 9 a)) tag_field_of
                              | inr e10 ↦
                                  elim (or_else (nat_eq n 10) _ e10) [
                                    | inl a ↦ subst Tagged (sym (eqb-true n 10 a)) tag_method_of
                                    | inr a ↦ subst Tagged (sym (eqb-true n 12 a)) tag_signature
                                  ]
                            ]
                      ]
                ]
          ]
    ]

not_true : (b : Bool) → not b ≡ false → b ≡ true
not_true true e = refl
not_true false e = absurd (cc)

module _ (bytes last : List ℕ) where
  -- the byte of a tag
  pub front : (at : ℕ) → nat_lt (length (drop at bytes)) 1 ≡ false → drop at bytes ≡ num bytes at parts.Tag ∷ drop (at + 1) bytes
  unfolding number
  front at e =
      let k : 1 ≤ length (drop at bytes) = ltb-false (length (drop at bytes)) 1 e in
      let lt : at < length bytes = omega (arith, k, length-drop at bytes) in
      let z : at + 0 ≡ at = omega arith in
      let h : get_or (drop at bytes) 0 0 ≡ get_or bytes at 0 = get_or-drop at bytes 0 0 ∙ ap (λ (m : ℕ). get_or bytes m 0) z in
      let n : get_or bytes at 0 ≡ big_number 1 (drop at bytes) = omega (arith, h) in
      drop-cons bytes at 0 lt ∙ (ap (λ (m : ℕ). m ∷ drop (suc at) bytes) n ∙ ap (λ (m : ℕ). big_number 1 (drop at bytes) ∷ drop m bytes)
      (sym (add-one at)))

  pub byte_of : (at n : ℕ) (rest : List ℕ) → drop at bytes ≡ n ∷ rest → get_or bytes at 0 ≡ n
  byte_of at n rest e =
      let k : get_or (drop at bytes) 0 0 ≡ n = ap (λ (w : List ℕ). get_or w 0 0) e in
      let z : at + 0 ≡ at = omega arith in
      sym (get_or-drop at bytes 0 0 ∙ ap (λ (m : ℕ). get_or bytes m 0) z) ∙ k

  -- a constant that is no text isn't the text `Code`
  pub no_code : (at n : ℕ) (rest : List ℕ) → drop at bytes ≡ n ∷ rest → nat_eq n 1 ≡ false → is_code_text (drop at bytes) ≡ false
  no_code at n rest e no_ = ap is_code_text e ∙ rw no_ refl

-- ---- the text `Code`
same_test : (a b : Bool) → (a ≡ true → b ≡ true) → (b ≡ true → a ≡ true) → a ≡ b
same_test true b f g = sym (f refl)
same_test false true f g = absurd (let k = g refl in cc)
same_test false false f g = refl

both : (a b : Bool) → (a && b) ≡ true → (a ≡ true) × (b ≡ true)
both true b e = (refl, e)
both false b e = absurd (cc)

code_modified : modified (codes "Code") ≡ codes "Code"
code_modified = modified_plain (codes "Code") (
  (omega arith, omega arith),
  ((omega arith, omega arith), ((omega arith, omega arith), ((omega arith, omega arith), tt))),
)

some_is : {A : Type 0} (x y : A) → ◌≡◌ {A = Option A} (Some x) (Some y) → x ≡ y
some_is x y e = cc

-- one text has these bytes
one_text : (a b : List ℕ) → IsUtf8 a → IsUtf8 b → modified a ≡ modified b → a ≡ b
one_text a b u v e = some_is a b (sym (letters_given a u) ∙ (ap letters e ∙ letters_given b v))

four : (xs : List ℕ) → length xs ≡ 4 → get_or xs 0 0 ≡ 67 → get_or xs 1 0 ≡ 111 → get_or xs 2 0 ≡ 100 → get_or xs 3 0 ≡ 101 →
    xs ≡ codes "Code"
four [] n a b c d = absurd (omega arith)
four (w ∷ []) n a b c d = absurd (omega arith)
four (w ∷ x ∷ []) n a b c d = absurd (omega arith)
four (w ∷ x ∷ y ∷ []) n a b c d = absurd (omega arith)
four (w ∷ x ∷ y ∷ z ∷ []) n a b c d = rw (a, b, c, d) refl
four (w ∷ x ∷ y ∷ z ∷ v ∷ xs) n a b c d = absurd (omega arith)

-- the bytes of a constant that is a text: its tag, its length in two bytes, and itself
pub code_so : (b c : ℕ) (rest text : List ℕ) → b < 256 → c < 256 → IsUtf8 text → IsUtf8 (codes "Code") →
    modified text ≡ take (256 * b + c) rest → 256 * b + c ≤ length rest
    → is_code_text (1 ∷ b ∷ c ∷ rest) ≡ bytes_eq text (codes "Code")
code_so b c rest text b_low c_low ok code_ok m fits = same_test _ _ is_then then_is where
  short : (n : ℕ) → n ≡ 4 → (i d : ℕ) → i < 4 → get_or (take n rest) i d ≡ get_or rest i d
  short n e i d lt = get_or-take n rest i d (omega arith)

  is_then : is_code_text (1 ∷ b ∷ c ∷ rest) ≡ true → bytes_eq text (codes "Code") ≡ true
  is_then e =
      let p = both (nat_eq b 0) _ e in
      let q = both (nat_eq c 4) _ p.1 in
      let r = both (nat_eq (get_or rest 0 0) 67) _ q.1 in
      let s = both (nat_eq (get_or rest 1 0) 111) _ r.1 in
      let t = both (nat_eq (get_or rest 2 0) 100) (nat_eq (get_or rest 3 0) 101) s.1 in
      let zero_ : b ≡ 0 = eqb-true b 0 p.0 in
      let four_ : c ≡ 4 = eqb-true c 4 q.0 in
      let n : 256 * b + c ≡ 4 = omega arith in
      let len : length (take (256 * b + c) rest) ≡ 4 = omega (arith, length-take (256 * b + c) rest) in
      let whole_ = four (take (256 * b + c) rest) len
      (short _ n 0 0 (omega arith) ∙ eqb-true _ 67 r.0) (short _ n 1 0 (omega arith) ∙ eqb-true _ 111 s.0)
      (short _ n 2 0 (omega arith) ∙ eqb-true _ 100 t.0) (short _ n 3 0 (omega arith) ∙ eqb-true _ 101 t.1) in
      (bytes_eq-Decides text (codes "Code")).1 (one_text text (codes "Code") ok code_ok (m ∙ (whole_ ∙ sym code_modified)))

  then_is : bytes_eq text (codes "Code") ≡ true → is_code_text (1 ∷ b ∷ c ∷ rest) ≡ true
  then_is e =
      let t : text ≡ codes "Code" = (bytes_eq-Decides text (codes "Code")).0 e in
      let w : take (256 * b + c) rest ≡ codes "Code" = sym m ∙ (ap modified t ∙ code_modified) in
      let len : length (take (256 * b + c) rest) ≡ 4 = ap length w in
      let n : 256 * b + c ≡ 4 = omega (arith, len, length-take (256 * b + c) rest, fits) in
      let zero_ : b ≡ 0 = omega arith in
      let four_ : c ≡ 4 = omega arith in
      let g0 : get_or rest 0 0 ≡ 67 = sym (short _ n 0 0 (omega arith)) ∙ ap (λ (x : List ℕ). get_or x 0 0) w in
      let g1 : get_or rest 1 0 ≡ 111 = sym (short _ n 1 0 (omega arith)) ∙ ap (λ (x : List ℕ). get_or x 1 0) w in
      let g2 : get_or rest 2 0 ≡ 100 = sym (short _ n 2 0 (omega arith)) ∙ ap (λ (x : List ℕ). get_or x 2 0) w in
      let g3 : get_or rest 3 0 ≡ 101 = sym (short _ n 3 0 (omega arith)) ∙ ap (λ (x : List ℕ). get_or x 3 0) w in
      rw (zero_, four_, g0, g1, g2, g3) refl

pub code_utf8 : IsUtf8 (codes "Code")
code_utf8 = IsUtf8-from_ascii (codes "Code") low where
  low : (i : ℕ) → slice_index (codes "Code") i < 128
  low zero = omega arith
  low (suc zero) = omega arith
  low (suc (suc zero)) = omega arith
  low (suc (suc (suc zero))) = omega arith
  low (suc (suc (suc (suc i)))) = omega arith

-- ---- constants
module _ (bytes last : List ℕ) (fits : IsBytes bytes) where
  abbrev ConstGot : List ℕ → ℕ → List Part → Type 0
  ConstGot places at due = Got bytes last places const_at (Begins bytes last at) at due (λ r. Unit {0})

  bad_name : (tag n : ℕ) (fault : _) → None ≡ unless (not (is_bad_entry bytes last tag n)) fault → is_bad_entry bytes last tag n ≡ false
  bad_name tag n fault e = not_bad (is_bad_entry bytes last tag n) fault e

  -- what a tag with the number of a constant gives
  one_got : (tag at : ℕ) (make : ℕ → Const) (places : List ℕ) (due : List Part) → drop at bytes ≡ tag ∷ drop (at + 1) bytes →
      nat_eq tag 1 ≡ false
      → ((rest : List ℕ) → const_at (tag ∷ rest) ≡ one_at make rest) → ((n : ℕ) → tag_of (make n) ≡ tag) →
      ((n : ℕ) → is_code_name (text_in (make n)) ≡ false) → ((n : ℕ) → is_bad_entry bytes last 1 n ≡ false → Named bytes last (make n))
      → Clear bytes last places (at + 1) (parts.Reference 1 ∷ due) → ConstGot places at due
  unfolding one_at
  one_got tag at make places due is other reads tags no_text name c =
      let s = step bytes last places (at + 1) (parts.Reference 1) due c in
      let n = num bytes (at + 1) (parts.Reference 1) in
      record {
        value = make n;
        after = at + 1 + 2;
        is = ap const_at is ∙ (reads (drop (at + 1) bytes) ∙ rw s.read refl);
        fits = record {
          tag = byte_of bytes last at tag (drop (at + 1) bytes) is ∙ sym (tags n);
          code =
              no_code bytes last at tag (drop (at + 1) bytes) is other ∙ sym (no_text n);
          named = name n (bad_name 1 n _ s.judged);
        };
        rest = s.rest;
        kept = tt;
      }

  two_got : (tag at first second : ℕ) (make : ℕ → ℕ → Const) (places : List ℕ) (due : List Part) → drop at bytes ≡ tag ∷ drop (at + 1) bytes
      → nat_eq tag 1 ≡ false
      → ((rest : List ℕ) → const_at (tag ∷ rest) ≡ two_at make rest) → ((a b : ℕ) → tag_of (make a b) ≡ tag) →
      ((a b : ℕ) → is_code_name (text_in (make a b)) ≡ false)
      → ((a b : ℕ) → is_bad_entry bytes last first a ≡ false → is_bad_entry bytes last second b ≡ false → Named bytes last (make a b))
      → Clear bytes last places (at + 1) (parts.Reference first ∷ parts.Reference second ∷ due) → ConstGot places at due
  unfolding two_at pair_at
  two_got tag at first second make places due is other reads tags no_text name c =
      let s = step bytes last places (at + 1) (parts.Reference first) (parts.Reference second ∷ due) c in
      let t = step bytes last places (at + 1 + 2) (parts.Reference second) due s.rest in
      let a = num bytes (at + 1) (parts.Reference first) in
      let b = num bytes (at + 1 + 2) (parts.Reference second) in
      record {
        value = make a b;
        after = at + 1 + 2 + 2;
        is = ap const_at is ∙ (reads (drop (at + 1) bytes) ∙ rw (s.read, t.read) refl);
        fits = record {
          tag = byte_of bytes last at tag (drop (at + 1) bytes) is ∙ sym (tags a b);
          code =
              no_code bytes last at tag (drop (at + 1) bytes) is other ∙ sym (no_text a b);
          named = name a b (bad_name first a _ s.judged)
              (bad_name second b _ t.judged);
        };
        rest = t.rest;
        kept = tt;
      }

  int_got : (at : ℕ) (places : List ℕ) (due : List Part) → drop at bytes ≡ 3 ∷ drop (at + 1) bytes →
      Clear bytes last places (at + 1) (parts.Int ∷ due) → ConstGot places at due
  unfolding const_at tagged_at int_at
  int_got at places due is c =
      let s = step bytes last places (at + 1) parts.Int due c in
      record {
        value = consts.Integer (cast_signed w32 (num bytes (at + 1) parts.Int));
        after = at + 1 + 4;
        is = ap const_at is ∙ rw s.read refl;
        fits = record {
          tag = byte_of bytes last at 3 (drop (at + 1) bytes) is;
          code = no_code bytes last at 3 (drop (at + 1) bytes) is
              refl;
          named = tt;
        };
        rest = s.rest;
        kept = tt;
      }

  -- a text that is right
  text_is : (part : List ℕ) (at : ℕ) → JudgesText part at None → (t : List ℕ) × IsUtf8 t × (modified t ≡ part)
  text_is part at (spelled t ok e) = (t, ok, e)

  -- two bytes and what stands behind them
  pub two_front : (at n : ℕ) → nat_lt (length (drop at bytes)) 2 ≡ false → n ≡ big_number 2 (drop at bytes) →
      (b c : ℕ) × (drop at bytes ≡ b ∷ c ∷ drop (at + 2) bytes) × (b < 256) × (c < 256) × (n ≡ 256 * b + c)
  two_front at n e is = go (drop at bytes) refl (drop-drop 2 at bytes) where
    go : (w : List ℕ) → drop at bytes ≡ w → drop 2 (drop at bytes) ≡ drop (at + 2) bytes →
        (b c : ℕ) × (drop at bytes ≡ b ∷ c ∷ drop (at + 2) bytes) × (b < 256) × (c < 256) × (n ≡ 256 * b + c)
    go [] q d = absurd (let k : 2 ≤ length (drop at bytes) = ltb-false (length (drop at bytes)) 2 e in omega (arith, k, ap length q))
    go (b ∷ []) q d = absurd (let k : 2 ≤ length (drop at bytes) = ltb-false (length (drop at bytes)) 2 e in omega (arith, k, ap length q))
    go (b ∷ c ∷ w) q d =
        let tail : w ≡ drop (at + 2) bytes = ap (drop 2) (sym q) ∙ d in
        let first : get_or (drop at bytes) 0 0 ≡ b = ap (λ (x : List ℕ). get_or x 0 0) q in
        let second : get_or (drop at bytes) 1 0 ≡ c = ap (λ (x : List ℕ). get_or x 1 0) q in
        let low_b : get_or (drop at bytes) 0 0 < 256 = rw get_or-drop (fits (at + 0)) in
        let low_c : get_or (drop at bytes) 1 0 < 256 = rw get_or-drop (fits (at + 1)) in (
          b,
          c,
          q ∙ ap (λ (x : List ℕ). b ∷ c ∷ x) tail,
          omega (arith, first, low_b),
          omega (arith, second, low_c),
          omega (arith, is, first, second),
        )

  text_got : (at : ℕ) (places : List ℕ) (due : List Part) → drop at bytes ≡ 1 ∷ drop (at + 1) bytes →
      Clear bytes last places (at + 1) (parts.TextLength ∷ due) → ConstGot places at due
  unfolding const_at tagged_at text_at number
  text_got at places due is c =
      let s = step bytes last places (at + 1) parts.TextLength due c in
      let n = num bytes (at + 1) parts.TextLength in
      let a = at + 1 + 2 in
      let t = step bytes last places a (parts.Letters n) due s.rest in
      let x = text_is (take n (drop a bytes)) a t.judged in
      let read : letters (take n (drop a bytes)) ≡ Some x.0 = ap letters (sym x.2) ∙ letters_given x.0 x.1 in
      let f = two_front (at + 1) n s.whole refl in
      let long : n ≤ length (drop a bytes) = ltb-false (length (drop a bytes)) n t.whole in
      let all : drop at bytes ≡ 1 ∷ f.0 ∷ f.1 ∷ drop a bytes = is ∙ ap (λ (w : List ℕ). 1 ∷ w) f.2 in
      record {
        value = consts.Utf8 x.0;
        after = a + n;
        is = ap const_at is ∙ rw (s.read, t.whole, read, drop-drop n a bytes) refl;
        fits = record {
          tag = byte_of bytes last at 1 (drop (at + 1) bytes) is;
          code = ap is_code_text all ∙ code_so f.0 f.1 (drop a bytes) x.0 f.3 f.4 x.1 code_utf8 (x.2 ∙ ap (λ m. take m (drop a bytes)) f.5)
              (rw (← f.5) long);
          named = tt;
        };
        rest = t.rest;
        kept = tt;
      }

  by_tag : (tag : ℕ) → Tagged tag → (at : ℕ) (places : List ℕ) (due : List Part) → drop at bytes ≡ tag ∷ drop (at + 1) bytes →
      Clear bytes last places (at + 1) (holds tag ++ due) → ConstGot places at due
  unfolding const_at tagged_at
  by_tag tag tag_text at places due is c = text_got at places due is c
  by_tag tag tag_int at places due is c = int_got at places due is c
  by_tag tag tag_class at places due is c = one_got 7 at consts.Class places due is refl (λ r. refl) (λ n. refl) (λ n. refl) (λ n e. e) c
  by_tag tag tag_pushed at places due is c = one_got 8 at consts.Text places due is refl (λ r. refl) (λ n. refl) (λ n. refl) (λ n e. e) c
  by_tag tag tag_field_of at places due is c = two_got 9 at 7 12 consts.Field places due is refl (λ r. refl) (λ a b. refl) (λ a b. refl)
      (λ a b e f. (e, f)) c
  by_tag tag tag_method_of at places due is c = two_got 10 at 7 12 consts.Method places due is refl (λ r. refl) (λ a b. refl) (λ a b. refl)
      (λ a b e f. (e, f)) c
  by_tag tag tag_signature at places due is c = two_got 12 at 1 1 consts.NameAndType places due is refl (λ r. refl) (λ a b. refl)
      (λ a b. refl) (λ a b e f. (e, f)) c

  pub const_got : (at : ℕ) (places : List ℕ) (due : List Part) → Clear bytes last places at (parts.Tag ∷ due) →
      ConstGot (places ++ at ∷ []) at due
  const_got at places due c =
      let s = step bytes last places at parts.Tag due c in
      by_tag (num bytes at parts.Tag) (tagged (num bytes at parts.Tag) (not_true (is_tag (num bytes at parts.Tag)) s.lasts)) at
      (places ++ at ∷ []) due (front bytes last at s.whole) s.rest

  -- ---- the pool
  pub record PoolGot (n at : ℕ) (places : List ℕ) (due : List Part) : Type 0 where
    pub constants : List Const
    pub news : List ℕ
    pub after : ℕ
    pub is : counted const_at n (drop at bytes) ≡ Some (constants, drop after bytes)
    pub pairs : Pairs bytes last news constants
    pub count : length constants ≡ n
    pub rest : Clear bytes last (places ++ news) after due

  pub pool_got : (n at : ℕ) (places : List ℕ) (due : List Part) → Clear bytes last places at (replicate n parts.Tag ++ due) →
      PoolGot n at places due
  unfolding counted
  pool_got zero at places due c = record {
    constants = [];
    news = [];
    after = at;
    is = refl;
    pairs = tt;
    count = refl;
    rest =
        subst (λ (p : List ℕ). Clear bytes last p at due) (sym (append-nil places)) c;
  }
  pool_got (suc n) at places due c =
      let one = const_got at places (replicate n parts.Tag ++ due) c in
      let more = pool_got n one.after (places ++ at ∷ []) due one.rest in
      record {
        constants = one.value ∷ more.constants;
        news = at ∷ more.news;
        after = more.after;
        is = rw (one.is, more.is) refl;
        pairs = (one.fits, more.pairs);
        count = ap suc more.count;
        rest = subst (λ (p : List ℕ). Clear bytes last p more.after due) (append_assoc places (at ∷ []) more.news) more.rest;
      }
