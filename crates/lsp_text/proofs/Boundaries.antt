-- Where a character begins, a place stands.
use Rattle.std.proofs.Common.{◌≡◌, ℕ, zero, suc, ◌+◌, ◌-◌, ◌<◌, ◌≤◌, List, [], ◌∷◌, ◌++◌, length, get_or, take, drop, Bool, true}
use Rattle.std.proofs.Common.{false, refl, sym, ap, ◌∙◌, subst, arith}
use Rattle.std.proofs.Common.{inl, inr, length-append, append_assoc}
use Rattle.std.specs.Prelude.{◌⊎◌, ◌==◌}
use Rattle.std.specs.Str.{NonePass, IsUtf8, IsCharBoundary, chars}
use Rattle.std.proofs.Math.Utf8.{encodes}
use Rattle.std.proofs.lemmas.List.{take-append-drop, take-append-le, length-drop}
use Rattle.std.proofs.lemmas.Str.{encodes-chars, IsUtf8-take, IsUtf8-drop, IsCharBoundary-from_drop}
use Rattle.std.proofs.lemmas.Bool.Decides.{nat_tests}
use Rattle.lsp_text.specs.declared.encoding.Encoding.{Encoding}
use Rattle.lsp_text.specs.Units.{units}
use Rattle.lsp_text.specs.Lines.{is_line_end, End, feed, carriage, both, spell, IsFirstLine}
use Rattle.lsp_text.specs.Positions.{Stands, IsBetween}
use Rattle.lsp_text.proofs.LineLaws.{none_append, first_line_length}
use Rattle.lsp_text.proofs.LineFinds.{after_utf8}
use Rattle.lsp_text.proofs.PlaceLaws.{order}

not_ten : (b : ℕ) → is_line_end b ≡ true → (b == 10) ≡ false → b ≡ 13
not_ten b h k = grind (arith, nat_tests)

is_ten : (b : ℕ) → (b == 10) ≡ true → b ≡ 10
is_ten b h = grind (arith, nat_tests)

-- a line may end before any byte of an end
carriage_end : (bs : List ℕ) → (a : List ℕ) × IsFirstLine (13 ∷ bs) [] a
carriage_end [] = ([], record { ending = carriage; spells = refl; plain = tt; stands = tt })
carriage_end (x ∷ xs) = go (x == 10) refl where
  go : (t : Bool) → (x == 10) ≡ t → (a : List ℕ) × IsFirstLine (13 ∷ x ∷ xs) [] a
  go true h =
      (xs, record { ending = both; spells = ap (λ (z : ℕ). 13 ∷ z ∷ xs) (is_ten x h); plain = tt; stands = tt })
  go false h = (x ∷ xs, record { ending = carriage; spells = refl; plain = tt; stands = h })

ends_here : (b : ℕ) (bs : List ℕ) → is_line_end b ≡ true → (a : List ℕ) × IsFirstLine (b ∷ bs) [] a
ends_here b bs h = go (b == 10) refl where
  go : (t : Bool) → (b == 10) ≡ t → (a : List ℕ) × IsFirstLine (b ∷ bs) [] a
  go true k = (bs, record { ending = feed; spells = ap (λ (z : ℕ). z ∷ bs) (is_ten b k); plain = tt; stands = tt })
  go false k =
      let c = carriage_end bs in
      (c.0, subst (λ (z : ℕ). IsFirstLine (z ∷ bs) [] c.0) (sym (not_ten b h k)) c.1)

one_more : (b : ℕ) (bs l a : List ℕ) → is_line_end b ≡ false → IsFirstLine bs l a → IsFirstLine (b ∷ bs) (b ∷ l) a
one_more b bs l a h f =
    record {
      ending = f.ending;
      spells = ap (λ (zs : List ℕ). b ∷ zs) f.spells;
      plain = (h, f.plain);
      stands = f.stands;
    }

-- some line ends, or none does
pub first_of : (text : List ℕ) → NonePass is_line_end text ⊎ ((l : List ℕ) × (a : List ℕ) × IsFirstLine text l a)
first_of [] = inl tt
first_of (b ∷ bs) = go (is_line_end b) refl (first_of bs) where
  go : (t : Bool) → is_line_end b ≡ t → NonePass is_line_end bs ⊎ ((l : List ℕ) × (a : List ℕ) × IsFirstLine bs l a) →
      NonePass is_line_end (b ∷ bs) ⊎ ((l : List ℕ) × (a : List ℕ) × IsFirstLine (b ∷ bs) l a)
  go true h _ = let e = ends_here b bs h in inr ([], e.0, e.1)
  go false h (inl none) = inl (h, none)
  go false h (inr (l, a, f)) = inr (b ∷ l, a, one_more b bs l a h f)

-- a place in the first line
in_line : (e : Encoding) (text line more : List ℕ) (o : ℕ) → text ≡ line ++ more → NonePass is_line_end line → o ≤ length line →
    IsUtf8 text → IsCharBoundary text o → (c : ℕ) × Stands e text 0 c o
in_line e text line more o parts plain within utf8 at =
    let front : IsUtf8 (take o text) = IsUtf8-take text o utf8 at in
    let spelled : encodes (chars (take o text)) ≡ take o text = encodes-chars (take o text) front in
    let same : take o text ≡ take o line = ap (λ (zs : List ℕ). take o zs) parts ∙ take-append-le o line more within in
    let none : NonePass is_line_end (take o line) =
    (none_append is_line_end (take o line) (drop o line) (subst (NonePass is_line_end) (sym (take-append-drop o line)) plain)).0 in
    let rest : length (drop o text) ≡ length text - o = length-drop o text in
    let whole : length text ≡ length line + length more = ap length parts ∙ length-append line more in (
      units e (chars (take o text)),
      record {
        rest = text;
        before = chars (take o text);
        behind = drop o text;
        lines = refl;
        cut = sym (take-append-drop o text) ∙ ap (λ (zs : List ℕ). zs ++ drop o text) (sym spelled);
        plain = subst (NonePass is_line_end) (sym (spelled ∙ same)) none;
        counts = refl;
        here = omega arith;
      },
    )

-- behind the first line
drop_front : (front a : List ℕ) (k o : ℕ) → o ≡ length front + k → drop o (front ++ a) ≡ drop k a
drop_front [] a k o h = let same : o ≡ k = omega arith in ap (λ (z : ℕ). drop z a) same
drop_front (x ∷ front) a k zero h = absurd (omega arith)
drop_front (x ∷ front) a k (suc o) h = drop_front front a k o (omega arith)

get_front : (front a : List ℕ) (k o : ℕ) → o ≡ length front + k → get_or (front ++ a) o 0 ≡ get_or a k 0
get_front [] a k o h = let same : o ≡ k = omega arith in ap (λ (z : ℕ). get_or a z 0) same
get_front (x ∷ front) a k zero h = absurd (omega arith)
get_front (x ∷ front) a k (suc o) h = get_front front a k o (omega arith)

-- the offset isn't within the end of the first line
past_end : (l : List ℕ) (e : End) (a : List ℕ) (o : ℕ) → length l < o → ¬ IsBetween (l ++ (spell e ++ a)) o → length l + length (spell e) ≤ o
past_end l feed a o h n = omega arith
past_end l carriage a o h n = omega arith
past_end l both a o h n = go (order o (length l + 2)) where
  go : (o < length l + 2) ⊎ (length l + 2 ≤ o) → length l + 2 ≤ o
  go (inr high) = high
  go (inl low) = absurd (n (record {
    behind_one = omega arith;
    carriage = get_front l (13 ∷ 10 ∷ a) 0 (o - 1) (omega arith);
    feed = get_front l (13 ∷ 10 ∷ a) 1 o (omega arith);
  }))

behind_line : (e : Encoding) (text l a : List ℕ) (m c k o : ℕ) (f : IsFirstLine text l a) → o ≡ (length l + length (spell f.ending)) + k →
    Stands e a m c k → Stands e text (suc m) c o
behind_line e text l a m c k o f at s =
    let whole : length text ≡ length l + length (spell f.ending ++ a) = ap length f.spells ∙ length-append l (spell f.ending ++ a) in
    let inner : length (spell f.ending ++ a) ≡ length (spell f.ending) + length a = length-append (spell f.ending) a in
    let there : k + length s.behind ≡ length a = s.here in
    record {
      rest = s.rest;
      before = s.before;
      behind = s.behind;
      lines = (l, a, f, s.lines);
      cut = s.cut;
      plain = s.plain;
      counts = s.counts;
      here = omega arith;
    }

-- the same offset behind the first line
module _ (text l a : List ℕ) (o k : ℕ) (f : IsFirstLine text l a) (at : o ≡ (length l + length (spell f.ending)) + k) where
  parts : text ≡ (l ++ spell f.ending) ++ a
  parts = f.spells ∙ sym (append_assoc l (spell f.ending) a)

  from : o ≡ length (l ++ spell f.ending) + k
  from = let long : length (l ++ spell f.ending) ≡ length l + length (spell f.ending) = length-append l (spell f.ending) in omega arith

  rest_boundary : IsUtf8 text → IsCharBoundary text o → IsCharBoundary a k
  rest_boundary utf8 b =
      let back : drop o text ≡ drop k a = ap (λ (zs : List ℕ). drop o zs) parts ∙ drop_front (l ++ spell f.ending) a k o from in
      let whole : length text ≡ length (l ++ spell f.ending) + length a = ap length parts ∙ length-append (l ++ spell f.ending) a in
      let from_here : o ≡ length (l ++ spell f.ending) + k = from in
      let within : o ≤ length text = b.0 in
      IsCharBoundary-from_drop a k (omega arith) (subst IsUtf8 back (IsUtf8-drop text o utf8 b))

  rest_apart : ¬ IsBetween text o → ¬ IsBetween a k
  rest_apart apart between =
      let from_here : o ≡ length (l ++ spell f.ending) + k = from in
      let low : 0 < k = between.behind_one in
      apart (record {
        behind_one = omega arith;
        carriage = ap (λ (zs : List ℕ). get_or zs (o - 1) 0) parts ∙ get_front (l ++ spell f.ending) a (k - 1) (o - 1) (omega arith)
            ∙ between.carriage;
        feed = ap (λ (zs : List ℕ). get_or zs o 0) parts ∙ get_front (l ++ spell f.ending) a k o from ∙ between.feed;
      })

nothing_behind : (xs : List ℕ) → xs ≡ xs ++ []
nothing_behind [] = refl
nothing_behind (x ∷ xs) = ap (λ (zs : List ℕ). x ∷ zs) (nothing_behind xs)

Reaches : Encoding → List ℕ → ℕ → Type 0
Reaches e text o = (l : ℕ) × (c : ℕ) × Stands e text l c o

-- by the first line, or by what stands behind it
further : (e : Encoding) (text : List ℕ) (o : ℕ) → IsUtf8 text → IsCharBoundary text o → ¬ IsBetween text o →
    NonePass is_line_end text ⊎ ((l : List ℕ) × (a : List ℕ) × IsFirstLine text l a) →
    ((a : List ℕ) (k : ℕ) → length a < length text → IsUtf8 a → IsCharBoundary a k → ¬ IsBetween a k → Reaches e a k) → Reaches e text o
unfolding Reaches
further e text o utf8 at apart (inl none) again =
    let s = in_line e text text [] o (nothing_behind text) none at.0 utf8 at in
    (0, s.0, s.1)
further e text o utf8 at apart (inr (l, a, f)) again = go (order (length l) o) where
  go : (length l < o) ⊎ (o ≤ length l) → (m : ℕ) × (c : ℕ) × Stands e text m c o
  go (inr low) = let s = in_line e text l (spell f.ending ++ a) o f.spells f.plain low utf8 at in (0, s.0, s.1)
  go (inl high) =
      let past : length l + length (spell f.ending) ≤ o =
      past_end l f.ending a o high (subst (λ (zs : List ℕ). ¬ IsBetween zs o) f.spells apart) in
      let k : ℕ = o - (length l + length (spell f.ending)) in
      let there : o ≡ (length l + length (spell f.ending)) + k = omega arith in
      let less : length l + (1 + length a) ≤ length text = first_line_length text l a f in
      let s = again a k (omega arith) (after_utf8 text l a utf8 f) (rest_boundary text l a o k f there utf8 at)
      (rest_apart text l a o k f there apart) in
      (suc s.0, s.1, behind_line e text l a s.0 s.1 k o f there s.2)

reach : (n : ℕ) (e : Encoding) (text : List ℕ) (o : ℕ) → length text ≤ n → IsUtf8 text → IsCharBoundary text o → ¬ IsBetween text o →
    Reaches e text o
reach zero e text o fits utf8 at apart =
    further e text o utf8 at apart (first_of text) (λ a k less u b x. absurd (omega arith))
reach (suc n) e text o fits utf8 at apart =
    further e text o utf8 at apart (first_of text) (λ a k less u b x. reach n e a k (omega arith) u b x)

pub boundary_place : (e : Encoding) (text : List ℕ) (o : ℕ) → IsUtf8 text → IsCharBoundary text o → ¬ IsBetween text o →
    (l : ℕ) × (c : ℕ) × Stands e text l c o
unfolding Reaches
boundary_place e text o utf8 at apart = reach (length text) e text o (omega arith) utf8 at apart
