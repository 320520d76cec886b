-- The roles that the words of options name, and the role and the class that a word names.
use Rattle.std.proofs.Common.{◌≡◌, ℕ, zero, suc, ◌<◌, ◌≤◌, ◌+◌, ◌⊎◌, inl, inr, List, [], ◌∷◌, ◌++◌, All, length, get_or, take, drop, Bool}
use Rattle.std.proofs.Common.{true, false, eqb, eqb-true, codes, refl, sym, ap, ◌∙◌, subst, arith, append_assoc, length-append}
use Rattle.std.specs.Prelude.{flat_map, filter_map, if◌then◌else◌}
use Rattle.std.specs.Fmt.{decimal}
use Rattle.std.specs.List.{before_first, after_first, position_or_len, join_with_byte}
use Rattle.std.specs.Str.{bytes_eq}
use Rattle.std.proofs.lemmas.Fmt.{first_decimal}
use Rattle.std.proofs.lemmas.List.{drop_at}
use Rattle.std.proofs.lemmas.List.Sums.{split_at_first, position_or_len_is, passes_at_first}
use Rattle.std.proofs.lemmas.Bool.{cases_lt}
use Rattle.std.proofs.lemmas.Slice.Eq.{bytes_eq-Decides}
use Rattle.mg_read.specs.Passes.{StartsWith}
use Rattle.scr_tree.specs.Words.{IsName, is_name_start}
use Rattle.mg_words.specs.Words.{Word, RoleClass, RunOption, Main, Role, Order, Steps, Trace, Out, option_words, IsOption, role_in}
use Rattle.mg_words.specs.Words.{IsFileName}
use Rattle.mg_words.specs.inner.Judging.{role_read, roles_at, roles_in}
use Rattle.mg_words.proofs.WordsLemmas.{All-first, All-rest}
use Rattle.mg_words.proofs.NameLemmas.{none_of, starts_no_option, starts_on, starts_joined}

abbrev pub words_of : List RunOption → List Word
words_of = flat_map option_words

-- ---- a role and its class in one word

take_front : (a b : List ℕ) → take (length a) (a ++ b) ≡ a
take_front [] b = refl
take_front (x ∷ xs) b = ap (λ (z : List ℕ). x ∷ z) (take_front xs b)

get_front : (a b : List ℕ) (k : ℕ) → k < length a → get_or (a ++ b) k 0 ≡ get_or a k 0
get_front [] b k lt = absurd (omega arith)
get_front (x ∷ xs) b zero lt = refl
get_front (x ∷ xs) b (suc k) lt = get_front xs b k (omega arith)

get_mid : (a : List ℕ) (c : ℕ) (b : List ℕ) → get_or (a ++ c ∷ b) (length a) 0 ≡ c
get_mid [] c b = refl
get_mid (x ∷ xs) c b = get_mid xs c b

place_of : (a b : List ℕ) → All (λ c. eqb c 61 ≡ false) a → position_or_len (λ c. eqb c 61) (a ++ 61 ∷ b) ≡ length a
place_of a b none =
    position_or_len_is (λ (c : ℕ). eqb c 61) (a ++ 61 ∷ b) (length a) 0 (omega (arith, length-append a (61 ∷ b)))
    (λ k lt. ap (λ (c : ℕ). eqb c 61) (get_front a (61 ∷ b) k lt) ∙ none k 0 lt)
    (λ lt. ap (λ (c : ℕ). eqb c 61) (get_mid a 61 b))

pub role_in_word : (r : RoleClass) → IsName r.role → role_read (r.role ++ 61 ∷ r.class) ≡ r
role_in_word r h = λ i. record { role = front i; class = back i } where
  place : position_or_len (λ c. eqb c 61) (r.role ++ 61 ∷ r.class) ≡ length r.role
  place = place_of r.role r.class (none_of 61 refl r.role h.bytes)

  front : before_first (λ c. eqb c 61) (r.role ++ 61 ∷ r.class) ≡ r.role
  front = ap (λ (n : ℕ). take n (r.role ++ 61 ∷ r.class)) place ∙ take_front r.role (61 ∷ r.class)

  back : after_first (λ c. eqb c 61) (r.role ++ 61 ∷ r.class) ≡ r.class
  back =
      let long : length r.role + 1 ≡ length (r.role ++ 61 ∷ []) = omega (arith, length-append r.role (61 ∷ [])) in
      (λ i. drop (place i + 1) (sym (append_assoc r.role (61 ∷ []) r.class) i))
      ∙ drop_at (r.role ++ 61 ∷ []) r.class (length r.role + 1) (sym long)

drop_past : (n : ℕ) (xs : List ℕ) → length xs ≤ n → drop n xs ≡ []
drop_past zero [] h = refl
drop_past (suc n) [] h = refl
drop_past zero (x ∷ xs) h = absurd (omega arith)
drop_past (suc n) (x ∷ xs) h = drop_past n xs (omega arith)

starts_none : (xs : List ℕ) → xs ≡ [] → StartsWith is_name_start xs → ⊥
starts_none xs e h = let none : StartsWith is_name_start [] = subst (StartsWith is_name_start) e h in none

-- where a class is named, the word is the role, "=" and the class
pub word_of_role : (word : Word) → StartsWith is_name_start (role_read word).class
    → word ≡ (role_read word).role ++ 61 ∷ (role_read word).class
word_of_role word h = go (cases_lt (position_or_len (λ c. eqb c 61) word) (length word)) where
  go : (position_or_len (λ c. eqb c 61) word < length word) ⊎ (length word ≤ position_or_len (λ c. eqb c 61) word)
      → word ≡ before_first (λ c. eqb c 61) word ++ 61 ∷ after_first (λ c. eqb c 61) word
  go (inl lt) =
      let mark : get_or word (position_or_len (λ c. eqb c 61) word) 0 ≡ 61 =
      eqb-true (get_or word (position_or_len (λ c. eqb c 61) word) 0) 61 (passes_at_first (λ c. eqb c 61) word 0 lt) in
      split_at_first (λ c. eqb c 61) word 0 lt
      ∙ ap (λ (c : ℕ). before_first (λ c. eqb c 61) word ++ c ∷ after_first (λ c. eqb c 61) word) mark
  go (inr past) =
      absurd (starts_none (after_first (λ c. eqb c 61) word) (drop_past (position_or_len (λ c. eqb c 61) word + 1) word (omega arith)) h)

-- ---- the roles of options

no_role : (w : Word) (ws : List Word) → (w ≡ codes "--role" → ⊥) → roles_at w ws ≡ []
no_role w [] isnt = refl
no_role w (v ∷ rest) isnt = go (bytes_eq w (codes "--role")) refl where
  go : (t : Bool) → bytes_eq w (codes "--role") ≡ t → roles_at w (v ∷ rest) ≡ []
  go true e = absurd (isnt ((bytes_eq-Decides w (codes "--role")).0 e))
  go false e = ap (λ (t : Bool). if t then role_read v ∷ [] else []) e

-- a value isn't read as an option
pub passed : (v : Word) (ws : List Word) (rs : List RoleClass) → (v ≡ codes "--role" → ⊥) → roles_in ws ≡ rs → roles_in (v ∷ ws) ≡ rs
passed v ws rs isnt e = ap (λ (z : List RoleClass). z ++ roles_in ws) (no_role v ws isnt) ∙ e

number_no_role : (n : ℕ) → 1 ≤ n → n ≤ 20000000 → decimal n ≡ codes "--role" → ⊥
number_no_role n low high e =
    let first : 48 < get_or (decimal n) 0 0 = first_decimal n (omega arith) (omega arith) in
    let k : get_or (decimal n) 0 0 ≡ 45 = ap (λ (w : Word). get_or w 0 0) e in
    absurd (omega arith)

pub name_no_role : (v : Word) → StartsWith is_name_start v → v ≡ codes "--role" → ⊥
name_no_role v h e = starts_no_option v 45 (codes "-role") h refl e

trace_no_role : ◌≡◌ {A = Word} (codes "--trace") (codes "--role") → ⊥
trace_no_role e = absurd (omega (arith, ap length e))

pub roles_in_words : (o : List RunOption) → All IsOption o → roles_in (words_of o) ≡ filter_map role_in o
roles_in_words [] right = refl
roles_in_words (Main v ∷ xs) right =
    passed v (words_of xs) (filter_map role_in xs) (name_no_role v (All-first IsOption (Main v) xs right).starts)
    (roles_in_words xs (All-rest IsOption (Main v) xs right))
roles_in_words (Role r ∷ xs) right =
    let is = All-first IsOption (Role r) xs right in
    (λ i. role_in_word r is.0 i ∷
    passed (r.role ++ 61 ∷ r.class) (words_of xs) (filter_map role_in xs)
    (name_no_role (r.role ++ 61 ∷ r.class) (starts_on r.role (61 ∷ r.class) is.0.starts))
    (roles_in_words xs (All-rest IsOption (Role r) xs right)) i)
roles_in_words (Order names ∷ xs) right =
    let is = All-first IsOption (Order names) xs right in
    passed (join_with_byte 44 names) (words_of xs) (filter_map role_in xs)
    (name_no_role (join_with_byte 44 names) (starts_joined names is.0 is.1))
    (roles_in_words xs (All-rest IsOption (Order names) xs right))
roles_in_words (Steps n ∷ xs) right =
    let is = All-first IsOption (Steps n) xs right in
    passed (decimal n) (words_of xs) (filter_map role_in xs) (number_no_role n is.0 is.1)
    (roles_in_words xs (All-rest IsOption (Steps n) xs right))
roles_in_words (Trace ∷ xs) right =
    passed (codes "--trace") (words_of xs) (filter_map role_in xs) trace_no_role (roles_in_words xs (All-rest IsOption Trace xs right))
roles_in_words (Out v ∷ xs) right =
    passed v (words_of xs) (filter_map role_in xs) (λ e. subst IsFileName e (All-first IsOption (Out v) xs right) refl)
    (roles_in_words xs (All-rest IsOption (Out v) xs right))

-- each role that options name takes two words
pub few_roles : (o : List RunOption) → length (filter_map role_in o) + length (filter_map role_in o) ≤ length (words_of o)
few_roles [] = omega arith
few_roles (Main v ∷ xs) = let k = few_roles xs in omega arith
few_roles (Role r ∷ xs) = let k = few_roles xs in omega arith
few_roles (Order names ∷ xs) = let k = few_roles xs in omega arith
few_roles (Steps n ∷ xs) = let k = few_roles xs in omega arith
few_roles (Trace ∷ xs) = let k = few_roles xs in omega arith
few_roles (Out v ∷ xs) = let k = few_roles xs in omega arith
