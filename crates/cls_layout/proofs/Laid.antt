-- Laying out field by field: what was laid out is the front of the whole row.
use Rattle.std.proofs.Common.{◌≡◌, ℕ, zero, suc, ◌+◌, ◌-◌, ◌*◌, ◌<◌, ◌≤◌, List, [], ◌∷◌, ◌++◌, length, drop, get_or, reverse, refl, sym, ap}
use Rattle.std.proofs.Common.{subst, ◌∙◌, append_assoc, append-nil, length-append, length-drop, get_or-drop, Bool, true, false, cond, arith}
use Rattle.std.proofs.Common.{eqb, inl, inr, ◌⊎◌}
use Rattle.std.specs.Prelude.{Ok}
use Rattle.std.proofs.lemmas.List.{length-reverse, length-replicate}
use Rattle.std.proofs.lemmas.Bool.{ltb-false}
use Rattle.std.proofs.lemmas.List.{reverse-append}
use Rattle.byteorder.specs.Numbers.{big_from-lt}
use Rattle.cls_layout.specs.declared.format.Part.{Part}
use Rattle.cls_layout.specs.declared.format.Part.TheVariants as parts
use Rattle.cls_layout.specs.declared.format.Field.{Field}
use Rattle.cls_layout.specs.declared.format.Layout.{Layout}
use Rattle.cls_layout.specs.Parts.{size, whole, holds, attributes_left, attribute_holds, brings, ends_row}
use Rattle.cls_layout.specs.Row.{number, is_cut, is_code, entered, stops, due_behind, Lays, complete, stopped, next, LaysAll}
use Rattle.cls_layout.specs.Laying.{field, Went, Stopped, Laid, Empty}

-- whatever is laid out from here on, behind what was, is the whole
pub record Laying (bytes : List ℕ) (l : Layout) : Type 0 where
  pub front : (rest : List Field) (last : List ℕ) → Lays bytes l.places.items l.at (reverse l.due.items) rest last →
      LaysAll bytes (l.row.items ++ rest) last
  pub within : l.at ≤ length bytes

pub laying_first : (bytes : List ℕ) (l : Layout) → Empty l → Laying bytes l
laying_first bytes l e = record {
  front = λ rest last r. rw (e.row) (rw (e.places, e.at, e.due) at r);
  within = let a = e.at in omega (arith, a);
}

reverse_last : (xs ys : List Part) (p : Part) → ys ≡ xs ++ p ∷ [] → reverse ys ≡ p ∷ reverse xs
reverse_last xs ys p e = ap reverse e ∙ reverse-append xs (p ∷ [])

module _ (bytes : List ℕ) (l old new : Layout) (part : Part)
    (same_row : old.row.items ≡ l.row.items) (same_at : old.at ≡ l.at) (same_places : old.places.items ≡ l.places.items)
    (popped : l.due.items ≡ old.due.items ++ part ∷ []) where
  step_on : (row : List Field) (places : List ℕ) (at : ℕ) → row ≡ l.row.items → places ≡ l.places.items → at ≡ l.at →
      (rest : List Field) (last : List ℕ) → Laying bytes l
      → Lays bytes places at (part ∷ reverse old.due.items) rest last → LaysAll bytes (row ++ rest) last
  step_on row places at same_r same_p same_a rest last h r =
      rw same_r (h.front rest last (rw (reverse_last old.due.items l.due.items part popped, ← same_p, ← same_a) r))

  pub laying_more : Went bytes part old new → Laying bytes l → Laying bytes new
  laying_more w h = record {
    front = λ rest last r.
        let more : Lays bytes (entered part old.at old.places.items) (old.at + size part)
        (due_behind bytes old.places.items (field old.at part) ++ reverse old.due.items) rest last =
        rw (← w.places, ← w.at, ← w.due) r in
        rw (w.row, append_assoc old.row.items (field old.at part ∷ []) rest)
        (step_on old.row.items old.places.items old.at same_row same_places same_at (field old.at part ∷ rest) last h
        (next refl w.goes_on more));
    within = w.within;
  }

  pub laid_last : Stopped bytes part old new → Laying bytes l → LaysAll bytes new.row.items new.places.items
  laid_last s h =
      rw (s.row, s.places) (step_on old.row.items old.places.items old.at same_row same_places same_at (field old.at part ∷ [])
      old.places.items h (stopped refl s.ends))

pub laid_all : (bytes : List ℕ) (l : Layout) → l.due.items ≡ [] → Laying bytes l → LaysAll bytes l.row.items l.places.items
laid_all bytes l none h =
    let all : LaysAll bytes (l.row.items ++ []) l.places.items = h.front [] l.places.items (rw none complete) in
    subst (λ (r : List Field). LaysAll bytes r l.places.items) (append-nil l.row.items) all

-- ---- numbers that were read
-- what a part brings doesn't hang on a number
record Ignores (p : Part) (at : ℕ) : Type 0 where
  ends : (n m : ℕ) (b c : Bool) → ends_row p n b ≡ ends_row p m c
  brings_same : (n m : ℕ) (b c : Bool) → brings p at n b ≡ brings p at m c

numbered : (p : Part) (at n m : ℕ) → (size p ≡ 1 → n ≡ m) → (size p ≡ 2 → n ≡ m) → (size p ≡ 4 → n ≡ m) → (n ≡ m) ⊎ Ignores p at
numbered parts.Magic at n m one two four = inl (four refl)
numbered parts.Minor at n m one two four = inl (two refl)
numbered parts.Major at n m one two four = inl (two refl)
numbered parts.PoolCount at n m one two four = inl (two refl)
numbered parts.Tag at n m one two four = inl (one refl)
numbered parts.TextLength at n m one two four = inl (two refl)
numbered (parts.Letters len) at n m one two four = inr (record { ends = λ a b c d. refl; brings_same = λ a b c d. refl })
numbered parts.Int at n m one two four = inl (four refl)
numbered (parts.Reference tag) at n m one two four = inl (two refl)
numbered parts.Number at n m one two four = inl (two refl)
numbered parts.Interfaces at n m one two four = inl (two refl)
numbered (parts.MemberCount are_methods) at n m one two four = inl (two refl)
numbered (parts.Member is_method) at n m one two four = inl (two refl)
numbered (parts.AttributeCount of_method) at n m one two four = inl (two refl)
numbered parts.AttributeName at n m one two four = inl (two refl)
numbered (parts.MethodAttribute left seen) at n m one two four = inl (two refl)
numbered parts.OtherLength at n m one two four = inl (four refl)
numbered (parts.Unread len) at n m one two four = inr (record { ends = λ a b c d. refl; brings_same = λ a b c d. refl })
numbered parts.CodeLength at n m one two four = inl (four refl)
numbered parts.CodeSize at n m one two four = inl (four refl)
numbered (parts.Code len) at n m one two four = inr (record { ends = λ a b c d. refl; brings_same = λ a b c d. refl })
numbered parts.Handlers at n m one two four = inl (two refl)
numbered (parts.ContentEnd from len) at n m one two four = inr (record { ends = λ a b c d. refl; brings_same = λ a b c d. refl })
numbered parts.End at n m one two four = inr (record { ends = λ a b c d. refl; brings_same = λ a b c d. refl })

pub cut_stops : (bytes places : List ℕ) (f : Field) → is_cut bytes f ≡ true → stops bytes places f ≡ true
unfolding stops
cut_stops bytes places f e = rw e refl

module _ (bytes places : List ℕ) (f : Field) (n : ℕ) (one : size f.part ≡ 1 → n ≡ number bytes f) (two : size f.part ≡ 2 →
    n ≡ number bytes f) (four : size f.part ≡ 4 → n ≡ number bytes f) where
  same_ends : ends_row f.part n (is_code bytes places n) ≡ ends_row f.part (number bytes f) (is_code bytes places (number bytes f))
  same_ends = elim (numbered f.part f.at n (number bytes f) one two four) [
    | inl e ↦ ap (λ k. ends_row f.part k (is_code bytes places k)) e
    | inr i ↦ i.ends n (number bytes f) (is_code bytes places n) (is_code bytes places (number bytes f))
  ]

  pub same_stops : (b : Bool) → is_cut bytes f ≡ false → ends_row f.part n (is_code bytes places n) ≡ b → stops bytes places f ≡ b
  unfolding stops
  same_stops b whole e = rw whole (sym same_ends ∙ e)

  pub same_due : brings f.part f.at n (is_code bytes places n) ≡ due_behind bytes places f
  unfolding due_behind
  same_due = elim (numbered f.part f.at n (number bytes f) one two four) [
    | inl e ↦ ap (λ k. brings f.part f.at k (is_code bytes places k)) e
    | inr i ↦ i.brings_same n (number bytes f) (is_code bytes places n) (is_code bytes places (number bytes f))
  ]

pub end_within : (bytes : List ℕ) (f : Field) → is_cut bytes f ≡ false → f.at ≤ length bytes → f.at + size f.part ≤ length bytes
unfolding is_cut
end_within bytes f e le = let k : size f.part ≤ length (drop f.at bytes) = ltb-false (length (drop f.at bytes)) (size f.part) e in omega
    (arith, k, length-drop f.at bytes)

-- ---- laying out ends
abbrev most : ℕ
most = 8589934592

either_few : (b : Bool) (xs ys : List Part) → length xs ≤ 6 → length ys ≤ 6 → length (cond b xs ys) ≤ 6
either_few true xs ys x y = x
either_few false xs ys x y = y

holds_few : (n : ℕ) → length (holds n) ≤ 6
holds_few n =
    either_few (eqb n 1) _ _ (omega arith) (either_few (eqb n 3) _ _ (omega arith) (either_few (eqb n 7) _ _ (omega arith)
    (either_few (eqb n 8) _ _ (omega arith)
    (either_few (eqb n 9) _ _ (omega arith)
    (either_few (eqb n 10) _ _ (omega arith) (either_few (eqb n 12) _ _ (omega arith) (omega arith)))))))

left_few : (n : ℕ) (seen : Bool) → length (attributes_left n seen) ≤ 1
left_few zero seen = omega arith
left_few (suc n) seen = omega arith

named_few : (left : ℕ) (seen named : Bool) → length (attribute_holds left seen named) ≤ 2
named_few left seen true = let k = left_few left true in omega arith
named_few left seen false = let k = left_few left seen in omega arith

-- a part takes bytes, or brings nothing
Few : Part → ℕ → ℕ → Bool → Type 0
Few p at n named = (brings p at n named ≡ []) ⊎ ((0 < size p) × (length (brings p at n named) < most))

few_part : (p : Part) (at n : ℕ) (named : Bool) → (size p ≡ 2 → n < 65536) → Few p at n named
unfolding Few
few_part parts.Magic at n named two = inl refl
few_part parts.Minor at n named two = inl refl
few_part parts.Major at n named two = inl refl
few_part parts.PoolCount at n named two = let k = two refl in inr (omega arith, omega (arith, length-replicate (n - 1) parts.Tag))
few_part parts.Tag at n named two = inr (omega arith, let k = holds_few n in omega arith)
few_part parts.TextLength at n named two = inr (omega arith, omega arith)
few_part (parts.Letters len) at n named two = inl refl
few_part parts.Int at n named two = inl refl
few_part (parts.Reference tag) at n named two = inl refl
few_part parts.Number at n named two = inl refl
few_part parts.Interfaces at n named two = inl refl
few_part (parts.MemberCount are_methods) at n named two =
    let k = two refl in inr (omega arith, omega (arith, length-replicate n (parts.Member are_methods)))
few_part (parts.Member is_method) at n named two = inr (omega arith, omega arith)
few_part (parts.AttributeCount true) at n named two = inr (omega arith, let k = left_few n false in omega arith)
few_part (parts.AttributeCount false) at n named two =
    let k = two refl in inr (omega arith, omega (arith, length-replicate n parts.AttributeName))
few_part parts.AttributeName at n named two = inr (omega arith, omega arith)
few_part (parts.MethodAttribute left seen) at n named two = inr (omega arith, let k = named_few left seen named in omega arith)
few_part parts.OtherLength at n named two = inr (omega arith, omega arith)
few_part (parts.Unread len) at n named two = inl refl
few_part parts.CodeLength at n named two = inr (omega arith, omega arith)
few_part parts.CodeSize at n named two = inr (omega arith, omega arith)
few_part (parts.Code len) at n named two = inl refl
few_part parts.Handlers at n named two = inl refl
few_part (parts.ContentEnd from len) at n named two = inl refl
few_part parts.End at n named two = inl refl

abbrev IsBytes : List ℕ → Type 0
IsBytes bytes = (i : ℕ) → get_or bytes i 0 < 256

small_two : (bytes : List ℕ) (f : Field) → IsBytes bytes → size f.part ≡ 2 → number bytes f < 65536
unfolding number
small_two bytes f fits e = rw e (big_from-lt 0 2 (drop f.at bytes) (λ i. rw get_or-drop (fits (f.at + i))))

pub goes_down : (bytes : List ℕ) (l old new : Layout) (part : Part) → IsBytes bytes → old.at ≡ l.at → l.due.items ≡ old.due.items
    ++ part ∷ [] → Went bytes part old new
    → 8589934592 * (length bytes - new.at) + length new.due.items < 8589934592 * (length bytes - l.at) + length l.due.items
unfolding due_behind Few
goes_down bytes l old new part fits same popped w =
    let f : Field = field old.at part in
    let n = number bytes f in
    let named = is_code bytes old.places.items n in
    let within = w.within in
    let at = w.at in
    let d₁ : length l.due.items ≡ length old.due.items + 1 = ap length popped ∙ length-append old.due.items (part ∷ []) in
    let d₂ : length new.due.items ≡ length (brings part old.at n named) + length old.due.items =
    sym (length-reverse new.due.items) ∙
    (ap length w.due ∙ (length-append (brings part old.at n named) (reverse old.due.items) ∙
    ap (λ k. length (brings part old.at n named) + k) (length-reverse old.due.items))) in
    elim (few_part part old.at n named (small_two bytes f fits)) [
      | inl none ↦ let k : length (brings part old.at n named) ≡ 0 = ap length none in down_none (length bytes) l.at old.at new.at
          (size part) (length l.due.items) (length old.due.items) (length new.due.items) (length (brings part old.at n named)) same at d₁ d₂
          k
      | inr some ↦ down_some (length bytes) l.at old.at new.at (size part) (length l.due.items) (length old.due.items)
          (length new.due.items) (length (brings part old.at n named)) same at d₁ d₂ within some.0 some.1
    ] where
      down_none : (len a b c size d e g brought : ℕ) → b ≡ a → c ≡ b + size → d ≡ e + 1 → g ≡ brought + e → brought ≡ 0 →
          8589934592 * (len - c) + g < 8589934592 * (len - a) + d
      down_none len a b c size d e g brought p q r s t = omega arith

      down_some : (len a b c size d e g brought : ℕ) → b ≡ a → c ≡ b + size → d ≡ e + 1 → g ≡ brought + e → c ≤ len → 0 < size →
          brought < 8589934592 → 8589934592 * (len - c) + g < 8589934592 * (len - a) + d
      down_some len a b c size d e g brought p q r s t u v = omega arith

abbrev LaidSo : List ℕ → Part → Layout → Layout → Bool → Type 0
LaidSo bytes part old new b = Laid {E = ℕ} bytes part old new (Ok b)

pub went : (bytes : List ℕ) (part : Part) (old new : Layout) (b : Bool) → b ≡ true → LaidSo bytes part old new b → Went bytes part old new
went bytes part old new true e h = h
went bytes part old new false e h = absurd cc

pub was_last : (bytes : List ℕ) (part : Part) (old new : Layout) (b : Bool) → b ≡ false → LaidSo bytes part old new b →
    Stopped bytes part old new
was_last bytes part old new true e h = absurd cc
was_last bytes part old new false e h = h
