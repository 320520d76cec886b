-- How a path goes on over words and joints.
use Rattle.std.proofs.Common.{◌≡◌, ℕ, zero, suc, ◌+◌, ◌-◌, ◌<◌, ◌≤◌, List, [], ◌∷◌, length, take, drop, Bool, true, false, cond}
use Rattle.std.proofs.Common.{Option, Some, None, length-drop, refl, sym, ap, ◌∙◌, arith}
use Rattle.std.proofs.lemmas.List.{drop-drop, take_all}
use Rattle.std.proofs.lemmas.List.Sums.{take_while-cons}
use Rattle.std.specs.Prelude.{take_while}
use Rattle.lsp_spans.specs.Words.{is_word_byte, front_len, begins_word, joint_len, path_from}

-- what a path has by its first byte
abbrev step : Bool → Option ℕ → List ℕ → ℕ
step word joint bs = cond word (suc (path_from 0 bs)) (elim joint [ None ↦ 0 | Some n ↦ suc (path_from (n - 1) bs) ])

by_word : (b : ℕ) (bs : List ℕ) (t : Bool) → is_word_byte b ≡ t → path_from 0 (b ∷ bs) ≡ step t (joint_len (b ∷ bs)) bs
by_word b bs t e = ap (λ (x : Bool). step x (joint_len (b ∷ bs)) bs) e

run_by : (b : ℕ) (bs : List ℕ) (t : Bool) → is_word_byte b ≡ t →
    front_len is_word_byte (b ∷ bs) ≡ length (cond t (b ∷ take_while is_word_byte bs) [])
run_by b bs t e =
    ap length (take_while-cons is_word_byte b bs) ∙ ap (λ (x : Bool). length (cond x (b ∷ take_while is_word_byte bs) [])) e

-- over the bytes that are ahead
pub ahead : (n : ℕ) (bs : List ℕ) → n ≤ length bs → path_from n bs ≡ n + path_from 0 (drop n bs)
ahead zero bs fits = omega arith
ahead (suc n) [] fits = absurd (omega arith)
ahead (suc n) (b ∷ bs) fits =
    let more : suc (n + path_from 0 (drop n bs)) ≡ suc n + path_from 0 (drop n bs) = omega arith in
    ap suc (ahead n bs (omega arith)) ∙ more

word_here : (b : ℕ) (bs : List ℕ) (t : Bool) → is_word_byte b ≡ t →
    front_len is_word_byte bs + path_from 0 (drop (front_len is_word_byte bs) bs) ≡ path_from 0 bs →
    front_len is_word_byte (b ∷ bs) + path_from 0 (drop (front_len is_word_byte (b ∷ bs)) (b ∷ bs)) ≡ path_from 0 (b ∷ bs)
word_here b bs true e later =
    let n : ℕ = front_len is_word_byte bs in
    let more : suc n + path_from 0 (drop n bs) ≡ suc (path_from 0 bs) = omega (arith, later) in
    ap (λ (k : ℕ). k + path_from 0 (drop k (b ∷ bs))) (run_by b bs true e) ∙ more ∙ sym (by_word b bs true e)
word_here b bs false e later =
    let none : 0 + path_from 0 (b ∷ bs) ≡ path_from 0 (b ∷ bs) = omega arith in
    ap (λ (n : ℕ). n + path_from 0 (drop n (b ∷ bs))) (run_by b bs false e) ∙ none

-- over a word
pub over_word : (bs : List ℕ) → front_len is_word_byte bs + path_from 0 (drop (front_len is_word_byte bs) bs) ≡ path_from 0 bs
over_word [] = refl
over_word (b ∷ bs) = word_here b bs (is_word_byte b) refl (over_word bs)

end_here : (b : ℕ) (bs : List ℕ) (t : Bool) → is_word_byte b ≡ t → begins_word (drop (front_len is_word_byte bs) bs) ≡ false →
    begins_word (drop (front_len is_word_byte (b ∷ bs)) (b ∷ bs)) ≡ false
end_here b bs true e later = ap (λ (n : ℕ). begins_word (drop n (b ∷ bs))) (run_by b bs true e) ∙ later
end_here b bs false e later = ap (λ (n : ℕ). begins_word (drop n (b ∷ bs))) (run_by b bs false e) ∙ e

-- behind which none begins
pub behind_word : (bs : List ℕ) → begins_word (drop (front_len is_word_byte bs) bs) ≡ false
behind_word [] = refl
behind_word (b ∷ bs) = end_here b bs (is_word_byte b) refl (behind_word bs)

-- over a joint
pub over_joint : (bs : List ℕ) (n : ℕ) → begins_word bs ≡ false → joint_len bs ≡ Some n → 0 < n → n ≤ length bs →
    path_from 0 bs ≡ n + path_from 0 (drop n bs)
over_joint [] n apart is some fits = absurd (omega arith)
over_joint (b ∷ bs) zero apart is some fits = absurd (omega arith)
over_joint (b ∷ bs) (suc n) apart is some fits =
    let one_less : suc n - 1 ≡ n = omega arith in
    let more : suc (n + path_from 0 (drop n bs)) ≡ suc n + path_from 0 (drop n bs) = omega arith in
    by_word b bs false apart ∙ ap (λ (o : Option ℕ). step false o bs) is ∙ ap (λ (k : ℕ). suc (path_from k bs)) one_less
    ∙ ap suc (ahead n bs (omega arith)) ∙ more

-- Over the joint at an offset of a text, and the word behind it.
module _ (bs : List ℕ) (at joint word : ℕ) (apart : begins_word (drop at bs) ≡ false) (is : joint_len (drop at bs) ≡ Some joint)
    (some : 0 < joint) (fits : joint ≤ length (drop at bs)) (long : word ≡ front_len is_word_byte (drop (at + joint) bs)) where
  abbrev rest : List ℕ
  rest = drop (at + joint) bs

  behind : drop (at + joint + word) bs ≡ drop (front_len is_word_byte rest) rest
  behind = sym (drop-drop word (at + joint) bs) ∙ ap (λ (n : ℕ). drop n rest) long

  pub ended : begins_word (drop (at + joint + word) bs) ≡ false
  ended = ap begins_word behind ∙ behind_word rest

  over_rest : word + path_from 0 (drop (at + joint + word) bs) ≡ path_from 0 rest
  over_rest =
      ap (λ (xs : List ℕ). word + path_from 0 xs) behind
      ∙ ap (λ (n : ℕ). n + path_from 0 (drop (front_len is_word_byte rest) rest)) long ∙ over_word rest

  over_both : path_from 0 (drop at bs) ≡ joint + path_from 0 rest
  over_both = over_joint (drop at bs) joint apart is some fits ∙ ap (λ (xs : List ℕ). joint + path_from 0 xs) (drop-drop joint at bs)

  pub left : at + path_from 0 (drop at bs) ≡ path_from 0 bs → at + joint + word + path_from 0 (drop (at + joint + word) bs) ≡ path_from 0 bs
  left e = omega (arith, over_rest, over_both, e)

-- what is read of a text from an offset on
pub read_from : (bs : List ℕ) (at : ℕ) → take (length bs - at) (drop at bs) ≡ drop at bs
read_from bs at =
    let long : length (drop at bs) ≤ length bs - at = omega (arith, length-drop at bs) in take_all (length bs - at) (drop at bs) long
