-- What a line says.
use Rattle.std.proofs.Common.{◌≡◌, ◌≢◌, ◌<◌, ◌≤◌, ◌+◌, ◌↔◌, ℕ, zero, suc, List, [], ◌∷◌, ◌++◌, length, get_or, take, drop, Bool, true}
use Rattle.std.proofs.Common.{false, not, IsTrue, Option, Some, None, refl, sym, ap, ◌∙◌, subst, inl, inr, ◌⊎◌, arith, length-append}
use Rattle.std.proofs.Common.{append-nil, take-append-drop, drop-cons, length-drop, ◌-◌, add-one}
use Rattle.std.specs.Prelude.{◌||◌, ◌&&◌, ◌==◌, nat_le}
use Rattle.std.specs.Str.{IsAscii}
use Rattle.std.specs.Int.{is_in_range}
use Rattle.std.specs.Char.{is_ascii_alphabetic, is_ascii_digit}
use Rattle.std.proofs.lemmas.Bool.{leb-true, eqb-true, eq-eqb}
use Rattle.std.proofs.lemmas.List.{take_all}
use Rattle.mg_text.specs.Call.{Call}
use Rattle.mg_read.specs.Passes.{AllPasses, StartsWith, span}
use Rattle.mg_read.specs.Letters.{is_name_byte}
use Rattle.mg_calls.specs.Calls.{IsWord, Says, blank, comment, method, answered}
use Rattle.mg_read.proofs.Spans.{span_is, span_again}
use Rattle.mg_calls.proofs.Spans.{span_all, span-true}

pub nothing_said : (line : List ℕ) → length line ≡ 0 → Says line None
nothing_said [] e = blank
nothing_said (c ∷ cs) e = absurd (omega (arith, e))

pub comment_said : (line : List ℕ) (c : ℕ) (rest : List ℕ) → line ≡ c ∷ rest → c ≡ 35 → Says line None
comment_said line c rest e h = subst (λ (z : List ℕ). Says z None) (sym (e ∙ ap (λ (n : ℕ). n ∷ rest) h)) (comment rest)

pub starts : (line : List ℕ) (c : ℕ) (rest : List ℕ) → line ≡ c ∷ rest → is_name_byte c ≡ true → StartsWith is_name_byte line
starts line c rest e h = subst (StartsWith is_name_byte) (sym e) h

first_passes : (name more : List ℕ) (c : ℕ) (rest : List ℕ) → name ++ more ≡ c ∷ rest → IsWord name → is_name_byte c ≡ true
first_passes [] more c rest e (filled, passes) = absurd (filled refl)
first_passes (n ∷ ns) more c rest e (filled, passes) = let same : n ≡ c = cc in subst (λ (z : ℕ). is_name_byte z ≡ true) same passes.0

true_is_false : {P : Type 0} → true ≡ false → P
true_is_false e = absurd cc

-- a line that begins with another byte is bad
pub bad_start : (line : List ℕ) (c : ℕ) (rest : List ℕ) → line ≡ c ∷ rest → (c ≡ 35 → ⊥) → is_name_byte c ≡ false → (what : Option Call) →
    Says line what → ⊥
bad_start line c rest e isnt out what blank = cc
bad_start line c rest e isnt out what (comment more) = let same : c ≡ 35 = cc in isnt same
bad_start line c rest e isnt out what (method word) = true_is_false (sym (first_passes line [] c rest (append-nil line ∙ e) word) ∙ out)
bad_start line c rest e isnt out what (answered name label word word') =
    true_is_false (sym (first_passes name (32 ∷ label) c rest e word) ∙ out)

not_empty : (line : List ℕ) → StartsWith is_name_byte line → line ≢ []
not_empty [] s e = s
not_empty (c ∷ cs) s e = cc

word_begun : (c : ℕ) (cs : List ℕ) → StartsWith is_name_byte (c ∷ cs) → c ≡ 35 → ⊥
word_begun c cs s e = true_is_false (sym s ∙ ap is_name_byte e)

mid_is : (name : List ℕ) (x : ℕ) (rest : List ℕ) → get_or (name ++ x ∷ rest) (length name) 0 ≡ x
mid_is [] x rest = refl
mid_is (n ∷ ns) x rest = mid_is ns x rest

after_is : (name : List ℕ) (x : ℕ) (rest : List ℕ) → drop (suc (length name)) (name ++ x ∷ rest) ≡ rest
after_is [] x rest = refl
after_is (n ∷ ns) x rest = after_is ns x rest

same_at : (xs : List ℕ) (i d d' : ℕ) → i < length xs → get_or xs i d ≡ get_or xs i d'
same_at [] i d d' lt = absurd (omega arith)
same_at (x ∷ xs) zero d d' lt = refl
same_at (x ∷ xs) (suc i) d d' lt = same_at xs i d d' (omega arith)

-- a run that begins isn't empty
some_run : (line : List ℕ) → StartsWith is_name_byte line → span is_name_byte line ≡ 0 → ⊥
some_run [] begun e = begun
some_run (c ∷ cs) begun e = let h = span-true is_name_byte c cs begun in omega (arith, h, e)

none_taken : (line : List ℕ) (end : ℕ) → (end ≡ 0 → ⊥) → (line ≡ [] → ⊥) → take end line ≡ [] → ⊥
none_taken [] end some filled e = filled refl
none_taken (c ∷ cs) zero some filled e = some refl
none_taken (c ∷ cs) (suc end) some filled e = cc

-- what a line can say that begins with a method but isn't one
pub shape : (line : List ℕ) (end : ℕ) → end ≡ span is_name_byte line → StartsWith is_name_byte line → (what : Option Call) → Says line what
    → (end ≡ length line → ⊥) → (get_or line end 0 ≡ 32) × IsWord (drop (suc end) line)
shape line end is begun what blank part = absurd begun
shape line end is begun what (comment rest) part = absurd (word_begun 35 rest begun refl)
shape line end is begun what (method word) part = absurd (part (is ∙ span_all is_name_byte line word.1))
shape line end is begun what (answered name label word word') part =
    let at : end ≡ length name = is ∙ span_again is_name_byte name (32 ∷ label) word.1 refl in (
      ap (λ (n : ℕ). get_or (name ++ 32 ∷ label) n 0) at ∙ mid_is name 32 label,
      subst IsWord (sym (ap (λ (n : ℕ). drop (suc n) (name ++ 32 ∷ label)) at ∙ after_is name 32 label)) word',
    )

module _ (line : List ℕ) (end : ℕ) (is : end ≡ span is_name_byte line) (begun : StartsWith is_name_byte line) where
  pub front_passes : AllPasses is_name_byte (take end line)
  front_passes = subst (λ (n : ℕ). AllPasses is_name_byte (take n line)) (sym is) (span_is is_name_byte line).passes

  -- the whole line is a method
  pub whole_method : (name : List ℕ) → end ≡ length line → name ≡ take end line → Says line (Some (record { method = name; answer = None }))
  whole_method name all e =
      let same : take end line ≡ line = take_all end line (omega (arith, all)) in
      let passes : AllPasses is_name_byte line = subst (AllPasses is_name_byte) same front_passes in
      subst (λ (z : List ℕ). Says line (Some (record { method = z; answer = None }))) (sym (e ∙ same))
      (method (not_empty line begun, passes))

  -- a method and a label
  pub with_label : (name label : List ℕ) → end < length line → get_or line end 0 ≡ 32 → name ≡ take end line → label ≡ drop (end + 1) line →
      IsWord label → Says line (Some (record { method = name; answer = Some label }))
  with_label name label within space e e' word =
      let cut : line ≡ name ++ 32 ∷ label =
      sym (take-append-drop end line) ∙ (λ i. sym e i ++ cut_there i) in
      subst (λ (z : List ℕ). Says z (Some (record { method = name; answer = Some label }))) (sym cut)
      (answered name label (named, named_passes) word)
    where
      cut_there : drop end line ≡ 32 ∷ label
      cut_there = drop-cons line end 32 within ∙
          (λ i. (same_at line end 32 0 within ∙ space) i ∷ (ap (λ (n : ℕ). drop n line) (sym (add-one end)) ∙ sym e') i)

      named_passes : AllPasses is_name_byte name
      named_passes = subst (AllPasses is_name_byte) (sym e) front_passes

      named : name ≢ []
      named n = none_taken line end (λ z. some_run line begun (sym is ∙ z)) (not_empty line begun) (sym e ∙ n)

-- a method and what isn't a label
pub no_label : (line : List ℕ) (end : ℕ) → end ≡ span is_name_byte line → StartsWith is_name_byte line → (end ≡ length line → ⊥) →
    (label : List ℕ) → label ≡ drop (end + 1) line → (IsWord label → ⊥) → (what : Option Call) → Says line what → ⊥
no_label line end is begun part label e isnt what says =
    isnt (subst IsWord (sym (e ∙ ap (λ (n : ℕ). drop n line) (add-one end))) (shape line end is begun what says part).1)

-- all bytes pass where the run is all of them
pub all_of : (word : List ℕ) (n : ℕ) → n ≡ span is_name_byte word → n ≡ length word → AllPasses is_name_byte word
all_of word n is all =
    subst (AllPasses is_name_byte) (take_all n word (omega (arith, all))) (subst (λ (k : ℕ). AllPasses is_name_byte (take k word)) (sym is)
    (span_is is_name_byte word).passes)

-- whether there are bytes and the run is all of them
pub word_is : (word : List ℕ) (n : ℕ) (r : Bool) → n ≡ span is_name_byte word → (length word ≡ 0 → ⊥) → (IsTrue r ↔ (n ≡ length word)) →
    IsTrue r ↔ IsWord word
word_is word n r is filled test = (
  λ t. ((λ e. filled (ap length e)), all_of word n is (test.0 t)),
  λ w. test.1 (is ∙ span_all is_name_byte word w.1),
)

pub no_word : (word : List ℕ) → length word ≡ 0 → IsWord word → ⊥
no_word [] e w = w.0 refl
no_word (c ∷ cs) e w = omega (arith, e)

-- ---- words are ASCII

test_of_or : (a b : Bool) → (a || b) ≡ true → (a ≡ true) ⊎ (b ≡ true)
test_of_or true b e = inl refl
test_of_or false b e = inr e

test_of_and : (a b : Bool) → (a && b) ≡ true → (a ≡ true) × (b ≡ true)
test_of_and true b e = (refl, e)
test_of_and false b e = absurd cc

in_range : (low high c : ℕ) → is_in_range low high c ≡ true → c ≤ high
in_range low high c e = leb-true c high (test_of_and (nat_le low c) (nat_le c high) e).1

word_byte_ascii : (c : ℕ) → is_name_byte c ≡ true → c < 128
word_byte_ascii c h = go (test_of_or (is_ascii_alphabetic c || (c == 95)) (is_ascii_digit c) h) where
  digit : is_ascii_digit c ≡ true → c < 128
  digit e = let b = in_range 48 57 c e in omega (arith, b)

  letter : (is_in_range 65 90 c ≡ true) ⊎ (is_in_range 97 122 c ≡ true) → c < 128
  letter (inl e) = let b = in_range 65 90 c e in omega (arith, b)
  letter (inr e) = let b = in_range 97 122 c e in omega (arith, b)

  bar : (c == 95) ≡ true → c < 128
  bar e = let b = eqb-true c 95 e in omega (arith, b)

  other : (is_ascii_alphabetic c ≡ true) ⊎ ((c == 95) ≡ true) → c < 128
  other (inl e) = letter (test_of_or (is_in_range 65 90 c) (is_in_range 97 122 c) e)
  other (inr e) = bar e

  go : ((is_ascii_alphabetic c || (c == 95)) ≡ true) ⊎ (is_ascii_digit c ≡ true) → c < 128
  go (inl e) = other (test_of_or (is_ascii_alphabetic c) (c == 95) e)
  go (inr e) = digit e

pub word_ascii : (word : List ℕ) → AllPasses is_name_byte word → IsAscii word
word_ascii [] h k = omega arith
word_ascii (c ∷ cs) h zero = word_byte_ascii c h.0
word_ascii (c ∷ cs) h (suc k) = word_ascii cs h.1 k

-- ---- in the code

pub refuted : {P : Type 0} → (P → false ≡ true) → P → ⊥
refuted f p = let e : false ≡ true = f p in cc

-- the end of a slice
pub tail_is : (line : List ℕ) (end : ℕ) → take (length line - (end + 1)) (drop (end + 1) line) ≡ drop (end + 1) line
tail_is line end = let e = length-drop (end + 1) line in take_all (length line - (end + 1)) (drop (end + 1) line) (omega (arith, e))

pub within_is : (end n : ℕ) → end ≤ n → (end ≡ n → ⊥) → end < n
within_is end n low isnt = omega (arith, low, isnt)

pub filled_is : (bytes : List ℕ) (r : Bool) → r ≡ false → r ≡ (length bytes == 0) → length bytes ≡ 0 → ⊥
filled_is bytes r e is none = let no : false ≡ true = sym e ∙ is ∙ eq-eqb (length bytes) 0 none in cc
