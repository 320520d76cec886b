-- Constants of the pool: what is read is spelled so, and what is spelled so is read.
use Rattle.std.specs.Int.{cast_signed, cast_unsigned}
use mir.Syntax.{w32}
use Rattle.std.proofs.Common.{◌≡◌, ℕ, ℤ, ◌≤◌, List, [], ◌∷◌, ◌++◌, length, take, drop, false, cond, eqb, ltb, Option, Some, None, refl, sym}
use Rattle.std.proofs.Common.{ap, subst, ◌∙◌, append_assoc, length-append, length-take, arith, inl, inr}
use Rattle.std.proofs.lemmas.Bool.{ltb-false, le-ltb, eqb-true}
use Rattle.std.proofs.lemmas.List.{take_at, drop_at, take-append-drop}
use Rattle.mg_read.specs.Reader.{◌>>=◌}
use Rattle.mg_read.proofs.Steps.{bind_some, some_is, chosen}
use Rattle.cls_tree.specs.declared.class.Const.{Const}
use Rattle.cls_tree.specs.declared.class.Const.TheVariants as consts
use Rattle.cls_tree.specs.Layout.{u2, u4, s4, text_bytes, const_bytes}
use Rattle.std.specs.Int.RustNames.{FitsSigned}
use Rattle.cls_tree.specs.Fits.{IsU2, FitsConst}
use Rattle.cls_tree.specs.Modified.{modified}
use Rattle.cls_code.proofs.Spelled.{ints_back, ints_told, ints_fit}
use Rattle.cls_bytes.specs.Reading.{number_at, text_at, one_at, pair_at, two_at, int_at, tagged_at, const_at}
use Rattle.cls_layout.specs.Letters.{letters}
use Rattle.cls_layout.proofs.Modified.{letters_read, letters_given}
use Rattle.cls_layout.proofs.Held.{passed}
use Rattle.cls_bytes.proofs.Steps.{IsBytes, IsBytes-drop, IsBytes-rest, Takes, Takes-then, IsSound, IsComplete, read}
use Rattle.cls_bytes.proofs.Numbers.{IsU4, u2_sound, u2_complete, u4_sound, u4_complete}

abbrev IsText : List ℕ → Type 0
IsText text = FitsConst (consts.Utf8 text)

text_sound : IsSound text_at text_bytes IsText
unfolding text_at
text_sound bytes x fits e =
    let n = read (number_at 2) u2 IsU2 _ bytes x u2_sound fits e in
    let t = bind_some (cond (ltb (length n.rest) n.value) None (letters (take n.value n.rest))) _ x n.goes_on in
    let p = passed (ltb (length n.rest) n.value) (letters (take n.value n.rest)) t.0 t.1 in
    let r = letters_read (take n.value n.rest) t.0 p.1 in
    let long : n.value ≤ length n.rest = ltb-false _ _ p.0 in
    let len : length (take n.value n.rest) ≡ n.value = omega (arith, length-take n.value n.rest) in
    let second : Takes n.rest (take n.value n.rest) (drop n.value n.rest) =
    record { parts = sym (take-append-drop n.value n.rest); rest_fits = IsBytes-drop n.value n.rest n.takes.rest_fits } in
    let both = Takes-then bytes (u2 n.value) n.rest (take n.value n.rest) (drop n.value n.rest) n.takes second in
    let whole : Takes bytes (u2 (length (take n.value n.rest)) ++ take n.value n.rest) (drop n.value n.rest) =
    subst (λ (k : ℕ). Takes bytes (u2 k ++ take n.value n.rest) (drop n.value n.rest)) (sym len) both in
    let small : IsU2 (length (take n.value n.rest)) = subst IsU2 (sym len) n.fits in
    subst (λ (y : List ℕ × List ℕ). Takes bytes (text_bytes y.0) y.1 × IsText y.0) (some_is (t.0, drop n.value n.rest) x t.2) (
      subst (λ (w : List ℕ). Takes bytes (u2 (length w) ++ w) (drop n.value n.rest)) (sym r.1) whole,
      (r.0, subst (λ (w : List ℕ). IsU2 (length w)) (sym r.1) small),
    )

text_complete : IsComplete text_at text_bytes IsText
unfolding text_at
text_complete text rest ok =
    let bytes = modified text in
    let long : ltb (length (bytes ++ rest)) (length bytes) ≡ false = le-ltb _ _ (omega (arith, length-append bytes rest)) in
    ap text_at (append_assoc (u2 (length bytes)) bytes rest)
    ∙ rw (
      u2_complete (length bytes) (bytes ++ rest) ok.1,
      long,
      take_at bytes rest (length bytes) refl,
      drop_at bytes rest (length bytes)
          refl,
      letters_given text ok.0,
    ) refl

-- what a tag with the number of a constant spells
one_sound : (make : ℕ → Const) (bytes : List ℕ) (x : Const × List ℕ) → IsBytes bytes → one_at make bytes ≡ Some x → (n : ℕ) × (make n ≡ x.0)
    × IsU2 n × Takes bytes (u2 n) x.1
unfolding one_at
one_sound make bytes x fits e =
    let n = read (number_at 2) u2 IsU2 _ bytes x u2_sound fits e in
    let is = some_is (make n.value, n.rest) x n.goes_on in (
      n.value,
      ap (λ (y : Const × List ℕ). y.0) is,
      n.fits,
      subst (λ (r : List ℕ). Takes bytes (u2 n.value) r)
          (ap (λ (y : Const × List ℕ). y.1) is) n.takes,
    )

one_complete : (make : ℕ → Const) (n : ℕ) (rest : List ℕ) → IsU2 n → one_at make (u2 n ++ rest) ≡ Some (make n, rest)
unfolding one_at
one_complete make n rest lt = rw (u2_complete n rest lt) refl

abbrev pub pair_bytes : ℕ × ℕ → List ℕ
pair_bytes p = u2 p.0 ++ u2 p.1

abbrev pub FitPair : ℕ × ℕ → Type 0
FitPair p = IsU2 p.0 × IsU2 p.1

pub pair_sound : IsSound pair_at pair_bytes FitPair
unfolding pair_at
pair_sound bytes x fits e =
    let a = read (number_at 2) u2 IsU2 _ bytes x u2_sound fits e in
    let b = read (number_at 2) u2 IsU2 _ a.rest x u2_sound a.takes.rest_fits a.goes_on in
    let all = Takes-then bytes (u2 a.value) a.rest (u2 b.value) b.rest a.takes b.takes in
    subst (λ (y : (ℕ × ℕ) × List ℕ). Takes bytes (pair_bytes y.0) y.1 × FitPair y.0) (some_is ((a.value, b.value), b.rest) x b.goes_on)
    (all, (a.fits, b.fits))

pub pair_complete : IsComplete pair_at pair_bytes FitPair
unfolding pair_at
pair_complete p rest fit = ap pair_at (append_assoc (u2 p.0) (u2 p.1) rest) ∙
    rw (u2_complete p.0 (u2 p.1 ++ rest) fit.0, u2_complete p.1 rest fit.1) refl

two_sound : (make : ℕ → ℕ → Const) (bytes : List ℕ) (x : Const × List ℕ) → IsBytes bytes → two_at make bytes ≡ Some x →
    (p : ℕ × ℕ) × (make p.0 p.1 ≡ x.0) × FitPair p × Takes bytes (pair_bytes p) x.1
unfolding two_at
two_sound make bytes x fits e =
    let p = read pair_at pair_bytes FitPair (λ p. Some (make p.0.0 p.0.1, p.1)) bytes x pair_sound fits e in
    let is = some_is (make p.value.0 p.value.1, p.rest) x p.goes_on in (
      p.value,
      ap (λ (y : Const × List ℕ). y.0) is,
      p.fits,
      subst (λ (r : List ℕ). Takes bytes (pair_bytes p.value) r)
          (ap (λ (y : Const × List ℕ). y.1) is) p.takes,
    )

two_complete : (make : ℕ → ℕ → Const) (a b : ℕ) (rest : List ℕ) → IsU2 a × IsU2 b → two_at make (pair_bytes (a, b) ++ rest) ≡ Some
    (make a b, rest)
unfolding two_at
two_complete make a b rest fit = rw (pair_complete (a, b) rest fit) refl

-- bytes behind a tag
tagged : (tag : ℕ) (bytes text rest : List ℕ) → Takes bytes text rest → Takes (tag ∷ bytes) (tag ∷ text) rest
tagged tag bytes text rest t = record { parts = ap (λ (w : List ℕ). tag ∷ w) t.parts; rest_fits = t.rest_fits }

-- the constant that a tag and what follows it spell
abbrev IsSpelled : ℕ → List ℕ → Const × List ℕ → Type 0
IsSpelled tag bytes x = Takes (tag ∷ bytes) (const_bytes x.0) x.1 × FitsConst x.0

spelled_text : (bytes : List ℕ) (x : Const × List ℕ) → IsBytes bytes → (text_at bytes >>= λ t. Some (consts.Utf8 t.0, t.1)) ≡ Some x →
    IsSpelled 1 bytes x
spelled_text bytes x fits e =
    let t = read text_at text_bytes IsText (λ t. Some (consts.Utf8 t.0, t.1)) bytes x text_sound fits e in
    subst (IsSpelled 1 bytes) (some_is (consts.Utf8 t.value, t.rest) x t.goes_on) (
      tagged 1 bytes (text_bytes t.value) t.rest t.takes,
      t.fits,
    )

-- what a tag with a signed number spells
spelled_int : (bytes : List ℕ) (x : Const × List ℕ) → IsBytes bytes → int_at bytes ≡ Some x → IsSpelled 3 bytes x
unfolding int_at
spelled_int bytes x fits e =
    let n = read (number_at 4) u4 IsU4 _ bytes x u4_sound fits e in
    let k = ints_told n.value n.fits in
    subst (IsSpelled 3 bytes) (some_is (consts.Integer (cast_signed w32 n.value), n.rest) x n.goes_on)
    (subst (λ (w : List ℕ). Takes (3 ∷ bytes) (3 ∷ w) n.rest) (sym k) (tagged 3 bytes (u4 n.value) n.rest n.takes), ints_fit n.value n.fits)

int_complete : (z : ℤ) (rest : List ℕ) → FitsSigned w32 z → int_at (s4 z ++ rest) ≡ Some (consts.Integer z, rest)
unfolding int_at
int_complete z rest f = rw (u4_complete (cast_unsigned w32 z) rest (ints_back z f).0, (ints_back z f).1) refl

spelled_one : (tag : ℕ) (make : ℕ → Const) → ((n : ℕ) → const_bytes (make n) ≡ tag ∷ u2 n) → ((n : ℕ) → IsU2 n → FitsConst (make n)) →
    (bytes : List ℕ) (x : Const × List ℕ) → IsBytes bytes → one_at make bytes ≡ Some x → IsSpelled tag bytes x
spelled_one tag make spell ok bytes x fits e =
    let s = one_sound make bytes x fits e in
    let t : Takes (tag ∷ bytes) (const_bytes (make s.0)) x.1 = subst (λ (w : List ℕ). Takes (tag ∷ bytes) w x.1) (sym (spell s.0))
    (tagged tag bytes (u2 s.0) x.1 s.3) in
    subst (λ (k : Const). Takes (tag ∷ bytes) (const_bytes k) x.1 × FitsConst k) s.1 (t, ok s.0 s.2)

spelled_two : (tag : ℕ) (make : ℕ → ℕ → Const) → ((a b : ℕ) → const_bytes (make a b) ≡ tag ∷ (u2 a ++ u2 b)) →
    ((a b : ℕ) → IsU2 a × IsU2 b → FitsConst (make a b)) → (bytes : List ℕ) (x : Const × List ℕ) → IsBytes bytes →
    two_at make bytes ≡ Some x → IsSpelled tag bytes x
spelled_two tag make spell ok bytes x fits e =
    let s = two_sound make bytes x fits e in
    let t : Takes (tag ∷ bytes) (const_bytes (make s.0.0 s.0.1)) x.1 = subst (λ (w : List ℕ). Takes (tag ∷ bytes) w x.1)
    (sym (spell s.0.0 s.0.1)) (tagged tag bytes (pair_bytes s.0) x.1 s.3) in
    subst (λ (k : Const). Takes (tag ∷ bytes) (const_bytes k) x.1 × FitsConst k) s.1 (t, ok s.0.0 s.0.1 s.2)

-- a test for a tag, either way
by_tag : (tag n : ℕ) (a b : Option (Const × List ℕ)) (x : Const × List ℕ) (bytes : List ℕ) → cond (eqb tag n) a b ≡ Some x →
    (a ≡ Some x → IsSpelled n bytes x) → (b ≡ Some x → IsSpelled tag bytes x) → IsSpelled tag bytes x
by_tag tag n a b x bytes e yes_ no_ =
    elim (chosen (eqb tag n) a b (Some x) e) [
      | inl t ↦ subst (λ (k : ℕ). IsSpelled k bytes x) (sym (eqb-true tag n t.0)) (yes_ t.1)
      | inr t ↦ no_ t.1
    ]

tagged_sound : (tag : ℕ) (bytes : List ℕ) (x : Const × List ℕ) → IsBytes bytes → tagged_at tag bytes ≡ Some x → IsSpelled tag bytes x
unfolding tagged_at
tagged_sound tag bytes x fits e =
    by_tag tag 1 _ _ x bytes e (λ h. spelled_text bytes x fits h) (λ e7.
    by_tag tag 3 _ _ x bytes e7 (λ h. spelled_int bytes x fits h) (λ e3.
    by_tag tag 7 _ _ x bytes e3 (λ h. spelled_one 7 consts.Class (λ n. refl) (λ n ok. ok) bytes x fits h) (λ e8.
    by_tag tag 8 _ _ x bytes e8 (λ h. spelled_one 8 consts.Text (λ n. refl) (λ n ok. ok) bytes x fits h) (λ e9.
    by_tag tag 9 _ _ x bytes e9 (λ h. spelled_two 9 consts.Field (λ a b. refl) (λ a b ok. ok) bytes x fits h) (λ e10.
    by_tag tag 10 _ _ x bytes e10 (λ h. spelled_two 10 consts.Method (λ a b. refl) (λ a b ok. ok) bytes x fits h) (λ e12.
    by_tag tag 12 _ _ x bytes e12 (λ h. spelled_two 12 consts.NameAndType (λ a b. refl) (λ a b ok. ok) bytes x fits h)
    (λ none. absurd cc)))))))

pub const_sound : IsSound const_at const_bytes FitsConst
unfolding const_at
const_sound [] x fits e = absurd cc
const_sound (tag ∷ bytes) x fits e = tagged_sound tag bytes x (IsBytes-rest tag bytes fits) e

pub const_complete : IsComplete const_at const_bytes FitsConst
unfolding const_at tagged_at
const_complete (consts.Utf8 text) rest ok = rw (text_complete text rest ok) refl
const_complete (consts.Integer z) rest ok = int_complete z rest ok
const_complete (consts.Class n) rest ok = one_complete consts.Class n rest ok
const_complete (consts.Text n) rest ok = one_complete consts.Text n rest ok
const_complete (consts.Field a b) rest ok = two_complete consts.Field a b rest ok
const_complete (consts.Method a b) rest ok = two_complete consts.Method a b rest ok
const_complete (consts.NameAndType a b) rest ok = two_complete consts.NameAndType a b rest ok
