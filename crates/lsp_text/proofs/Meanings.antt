-- A position has one meaning, and a place's own position means it.
use Rattle.std.proofs.Common.{◌≡◌, ℕ, ◌+◌, ◌<◌, ◌≤◌, List, [], ◌∷◌, ◌++◌, length, refl, sym, ap, ◌∙◌, subst, arith}
use Rattle.std.proofs.Common.{inl, inr, length-append, append_assoc}
use Rattle.std.specs.Prelude.{◌⊎◌}
use Rattle.std.proofs.Math.Utf8.{encode, encodes}
use Rattle.std.proofs.lemmas.Str.{length-encode, len_utf8_bounds, encode_same}
use Rattle.std.proofs.lemmas.Bool.Decides.{nat_tests}
use Rattle.lsp_text.specs.declared.encoding.Encoding.{Encoding}
use Rattle.lsp_text.specs.declared.encoding.Encoding.TheVariants.{Utf8, Utf16}
use Rattle.lsp_text.specs.declared.positions.Position.{Position}
use Rattle.lsp_text.specs.Units.{unit_count, units}
use Rattle.lsp_text.specs.Positions.{Stands, Means, IsPositionOf}
use Rattle.lsp_text.proofs.ColumnLaws.{utf8_units}
use Rattle.lsp_text.proofs.LineLaws.{behind_same}
use Rattle.lsp_text.proofs.PlaceLaws.{order, stands_before, stands_from}

-- a character counts something
unit_long : (e : Encoding) (c : ℕ) → 1 ≤ unit_count e c
unit_long Utf8 c = let l = length-encode c in let b = len_utf8_bounds c in omega arith
unit_long Utf16 c = grind (arith, nat_tests)

-- beginnings of one text that count the same are the same
same_units : (e : Encoding) (bs cs x y : List ℕ) → encodes bs ++ x ≡ encodes cs ++ y → units e bs ≡ units e cs → bs ≡ cs
same_units e [] [] x y h k = refl
same_units e [] (c ∷ cs) x y h k = let long : 1 ≤ unit_count e c = unit_long e c in absurd (omega arith)
same_units e (b ∷ bs) [] x y h k = let long : 1 ≤ unit_count e b = unit_long e b in absurd (omega arith)
same_units e (b ∷ bs) (c ∷ cs) x y h k =
    let one = encode_same b c (encodes bs ++ x) (encodes cs ++ y)
    (sym (append_assoc (encode b) (encodes bs) x) ∙ h ∙ append_assoc (encode c) (encodes cs) y) in
    let head : b ≡ c = one.0 in
    let count : unit_count e b ≡ unit_count e c = ap (λ (z : ℕ). unit_count e z) head in
    let rest = same_units e bs cs x y one.1 (omega arith) in
    ap (λ (z : ℕ). z ∷ bs) head ∙ ap (λ (zs : List ℕ). c ∷ zs) rest

-- one line and character stand for one offset
pub same_place : (e : Encoding) (text : List ℕ) (l c o p : ℕ) → Stands e text l c o → Stands e text l c p → o ≡ p
same_place e text l c o p s t =
    let rest : s.rest ≡ t.rest = behind_same l text s.rest t.rest s.lines t.lines in
    let before : s.before ≡ t.before =
    same_units e s.before t.before s.behind t.behind (sym s.cut ∙ rest ∙ t.cut) (sym s.counts ∙ t.counts) in
    let long : length (encodes s.before) ≡ length (encodes t.before) = ap (λ (zs : List ℕ). length (encodes zs)) before in
    let first : length s.rest ≡ length (encodes s.before) + length s.behind =
    ap length s.cut ∙ length-append (encodes s.before) s.behind in
    let second : length t.rest ≡ length (encodes t.before) + length t.behind =
    ap length t.cut ∙ length-append (encodes t.before) t.behind in
    let rests : length s.rest ≡ length t.rest = ap length rest in
    let here : o + length s.behind ≡ length text = s.here in
    let there : p + length t.behind ≡ length text = t.here in
    omega arith

-- a place's position means it
pub means_itself : (e : Encoding) (text : List ℕ) (l c o : ℕ) → Stands e text l c o → Means e text (record { line = l; character = c }) o
means_itself e text l c o s =
    inl (record {
      column = c;
      stands = s;
      within = omega arith;
      last = λ d p t le. le;
    })

pub one_meaning : (e : Encoding) (text : List ℕ) (position : Position) (o p : ℕ) → Means e text position o → Means e text position p → o ≡ p
one_meaning e text position o p (inl a) (inl b) =
    let low : a.column ≤ b.column = b.last a.column o a.stands a.within in
    let high : b.column ≤ a.column = a.last b.column p b.stands b.within in
    let same : a.column ≡ b.column = omega arith in
    same_place e text position.line b.column o p (subst (λ (z : ℕ). Stands e text position.line z o) same a.stands) b.stands
one_meaning e text position o p (inl a) (inr b) = absurd (b.0 a.stands.rest a.stands.lines)
one_meaning e text position o p (inr a) (inl b) = absurd (a.0 b.stands.rest b.stands.lines)
one_meaning e text position o p (inr a) (inr b) = a.1 ∙ sym b.1

-- from a place to its position and back
pub back : (e : Encoding) (text : List ℕ) (l c o p : ℕ) (position : Position) → Stands e text l c o → IsPositionOf e text o position →
    Means e text position p → p ≡ o
back e text l c o p position s h m =
    let high : o ≤ h.place = h.last l c o s (omega arith) in
    let low : h.place ≤ o = h.within in
    let at : h.place ≡ o = omega arith in
    one_meaning e text position p h.place m (means_itself e text position.line position.character h.place h.stands) ∙ at

-- one offset stands for one line and character
same_character : (e : Encoding) (text : List ℕ) (l c d o : ℕ) → Stands e text l c o → Stands e text l d o → c ≡ d
same_character e text l c d o s t =
    let rest : s.rest ≡ t.rest = behind_same l text s.rest t.rest s.lines t.lines in
    let rests : length s.rest ≡ length t.rest = ap length rest in
    let one : o + length s.rest ≡ length text + length (encodes s.before) = stands_from e text l c o s.rest s s.lines in
    let other : o + length t.rest ≡ length text + length (encodes t.before) = stands_from e text l d o t.rest t t.lines in
    let first : units Utf8 s.before ≡ length (encodes s.before) = utf8_units s.before in
    let second : units Utf8 t.before ≡ length (encodes t.before) = utf8_units t.before in
    let before : s.before ≡ t.before =
    same_units Utf8 s.before t.before s.behind t.behind (sym s.cut ∙ rest ∙ t.cut) (omega arith) in
    s.counts ∙ ap (λ (zs : List ℕ). units e zs) before ∙ sym t.counts

one_place : (e : Encoding) (text : List ℕ) (l m c d o : ℕ) → Stands e text l c o → Stands e text m d o → (l ≡ m) × (c ≡ d)
one_place e text l m c d o s t = by (order l m) (order m l) where
  never : (j k a b : ℕ) → Stands e text j a o → Stands e text k b o → j < k → ⊥
  never j k a b u v less =
      let before : o + length v.rest < length text = stands_before e text j a o k v.rest u v.lines less in
      let from : o + length v.rest ≡ length text + length (encodes v.before) = stands_from e text k b o v.rest v v.lines in
      omega arith

  by : (l < m) ⊎ (m ≤ l) → (m < l) ⊎ (l ≤ m) → (l ≡ m) × (c ≡ d)
  by (inl less) _ = absurd (never l m c d s t less)
  by (inr _) (inl more) = absurd (never m l d c t s more)
  by (inr low) (inr high) =
      let same : l ≡ m = omega arith in
      (same, same_character e text m c d o (subst (λ (z : ℕ). Stands e text z c o) same s) t)

abbrev spot : ℕ → ℕ → Position
spot line character = record { line = line; character = character }

pub one_position : (e : Encoding) (text : List ℕ) (o : ℕ) (p q : Position) → IsPositionOf e text o p → IsPositionOf e text o q → p ≡ q
one_position e text o p q h k =
    let low : h.place ≤ k.place = k.last p.line p.character h.place h.stands h.within in
    let high : k.place ≤ h.place = h.last q.line q.character k.place k.stands k.within in
    let same : h.place ≡ k.place = omega arith in
    let both = one_place e text p.line q.line p.character q.character k.place
    (subst (λ (z : ℕ). Stands e text p.line p.character z) same h.stands) k.stands in
    ap (λ (z : ℕ). spot z p.character) both.0 ∙ ap (λ (z : ℕ). spot q.line z) both.1
