-- What a search for a line's end finds.
use Rattle.std.proofs.Common.{◌≡◌, ℕ, suc, ◌+◌, ◌<◌, List, [], ◌∷◌, ◌++◌, length, get_or, take, drop, Bool, true, false, refl}
use Rattle.std.proofs.Common.{sym, ap, ◌∙◌, subst, arith}
use Rattle.std.proofs.Common.{length-append, add-one}
use Rattle.std.specs.Str.{NonePass, IsUtf8, IsCharBoundary}
use Rattle.std.proofs.Math.Seq.{drop-append_seam, get_or-append_seam}
use Rattle.std.proofs.lemmas.List.{take-append-drop}
use Rattle.std.proofs.lemmas.Str.{IsCharBoundary-after_ascii, IsUtf8-drop}
use Rattle.memchr.specs.Find.{Nowhere, NoneBefore, Passes, is_byte2}
use Rattle.lsp_text.specs.Lines.{is_line_end, End, feed, carriage, both, spell, MayStand, IsFirstLine, IsLineOf}
use Rattle.lsp_text.specs.inner.Fitting.{IsEndLength}
use Rattle.lsp_text.proofs.LineLaws.{none_below, none_whole, end_stops}

not_true : (b : Bool) → ¬ (b ≡ true) → b ≡ false
not_true true h = absurd (h refl)
not_true false h = refl

pub none_found : (text : List ℕ) → Nowhere (Passes (is_byte2 10 13) text) 0 (length text) → NonePass is_line_end text
none_found text h = none_whole is_line_end text (λ k less. not_true (is_line_end (get_or text k 0)) (h k (omega arith) less))

pub none_before : (text : List ℕ) (at : ℕ) → NoneBefore (Passes (is_byte2 10 13) text) 0 (length text) at →
    NonePass is_line_end (take at text)
none_before text at h =
    none_below is_line_end text at (omega (arith, h.high))
    (λ k less. not_true (is_line_end (get_or text k 0)) (h.before k (omega arith) less))

-- the text before the first end and behind it
pub first_line_found : (text end : List ℕ) (at n : ℕ) → NoneBefore (Passes (is_byte2 10 13) text) 0 (length text) at → end ≡ drop at text →
    IsEndLength end n → IsFirstLine text (take at text) (drop n end)
first_line_found text end at n h is e =
    let after : drop n end ≡ e.after =
    ap (λ (z : ℕ). drop z end) e.long ∙ ap (λ (zs : List ℕ). drop (length (spell e.ending)) zs) e.spells
    ∙ drop-append_seam (spell e.ending) e.after in
    record {
      ending = e.ending;
      spells = sym (take-append-drop at text) ∙ ap (λ (zs : List ℕ). take at text ++ zs) (sym is ∙ e.spells
          ∙ ap (λ (zs : List ℕ). spell e.ending ++ zs) (sym after));
      plain = none_before text at h;
      stands = subst (MayStand e.ending) (sym after) e.stands;
    }

-- behind an end the text may be cut
pub end_boundary : (end : List ℕ) (n : ℕ) → IsUtf8 end → IsEndLength end n → IsCharBoundary end n
end_boundary end n utf8 e =
    subst (IsCharBoundary end) (sym e.long)
    (subst (λ (zs : List ℕ). IsCharBoundary zs (length (spell e.ending))) (sym e.spells) (go e.ending e.after (subst IsUtf8 e.spells utf8))) where
      go : (f : End) (after : List ℕ) → IsUtf8 (spell f ++ after) → IsCharBoundary (spell f ++ after) (length (spell f))
      go feed after u = IsCharBoundary-after_ascii (10 ∷ after) 0 u (omega arith) (omega arith)
      go carriage after u = IsCharBoundary-after_ascii (13 ∷ after) 0 u (omega arith) (omega arith)
      go both after u = IsCharBoundary-after_ascii (13 ∷ 10 ∷ after) 1 u (omega arith) (omega arith)

-- the line ends with the text
pub whole_line : (text : List ℕ) → NonePass is_line_end text → IsLineOf text text
whole_line text none = record { more = []; spells = sym (nothing_behind text); plain = none; stops = tt } where
  nothing_behind : (xs : List ℕ) → xs ++ [] ≡ xs
  nothing_behind [] = refl
  nothing_behind (x ∷ xs) = ap (λ (zs : List ℕ). x ∷ zs) (nothing_behind xs)

pub first_is_line : (text line after : List ℕ) → IsFirstLine text line after → IsLineOf text line
first_is_line text line after f =
    record { more = spell f.ending ++ after; spells = f.spells; plain = f.plain; stops = end_stops f.ending after }

-- behind a byte of ASCII, and so behind a line's end, stands UTF-8
after_one : (xs ys : List ℕ) (c : ℕ) → IsUtf8 (xs ++ c ∷ ys) → c < 128 → IsUtf8 ys
after_one xs ys c h low =
    let at : get_or (xs ++ c ∷ ys) (length xs) 0 ≡ c = get_or-append_seam xs c ys 0 in
    let below : get_or (xs ++ c ∷ ys) (length xs) 0 < 128 = omega (arith, at) in
    let within : length xs < length (xs ++ c ∷ ys) = omega (arith, length-append xs (c ∷ ys)) in
    let back = IsUtf8-drop (xs ++ c ∷ ys) (length xs + 1) h (IsCharBoundary-after_ascii (xs ++ c ∷ ys) (length xs) h within below) in
    rw (add-one, past xs) at back where
      past : (xs : List ℕ) → drop (suc (length xs)) (xs ++ c ∷ ys) ≡ ys
      past [] = refl
      past (x ∷ xs) = past xs

pub after_utf8 : (text line after : List ℕ) → IsUtf8 text → IsFirstLine text line after → IsUtf8 after
after_utf8 text line after utf8 f = go f.ending (subst IsUtf8 f.spells utf8) where
  go : (e : End) → IsUtf8 (line ++ (spell e ++ after)) → IsUtf8 after
  go feed u = after_one line after 10 u (omega arith)
  go carriage u = after_one line after 13 u (omega arith)
  go both u = after_one [] after 10 (after_one line (10 ∷ after) 13 u (omega arith)) (omega arith)
