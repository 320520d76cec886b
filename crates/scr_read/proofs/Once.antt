-- Reading the bytes of a Scribble file comes to one thing at most, whatever protocols it holds.
use Rattle.std.proofs.Common.{◌≡◌, ℕ, ◌<◌, ◌≤◌, List, length, Option, Some, None, refl, sym, ap, ◌∙◌, subst, arith}
use Rattle.mg_text.specs.Call.{Name}
use Rattle.mg_text.specs.declared.place.Place.{Place}
use Rattle.mg_read.specs.Culprit.{Culprit, culprit}
use Rattle.mg_read.specs.First.{Judged}
use Rattle.mg_read.specs.FirstLaws.{IsSingle}
use Rattle.mg_read.proofs.Judging.{one_answer}
use Rattle.mg_read.proofs.Steps.{some_is}
use Rattle.mg_read.proofs.Cuts.{same_tokens, tokens_or_bad, bad_once}
use Rattle.scr_tree.specs.Tok.{Tok}
use Rattle.scr_lex.specs.Pieces.{scribble, tok_said, IsBadAt}
use Rattle.scr_lex.proofs.Scans.{apart}
use Rattle.scr_read.specs.Spelling.{Separates}

-- what it may come to: `W` is what is written, `C` the conditions that it may not meet
pub data Got (W C : Type 0) : Type 0 where
  Large : Got W C
  Bad : ℕ → Got W C
  Word : Place → Name → Got W C
  NoTree : Got W C
  Fault : C → Place → Name → Got W C
  Tree : W → Got W C

place_is : (p q : Place) (n m : Name) → culprit p n ≡ culprit q m → p ≡ q
place_is p q n m e = cc

name_is : (p q : Place) (n m : Name) → culprit p n ≡ culprit q m → n ≡ m
name_is p q n m e = cc

module _ {W C : Type 0} (file_in : W → ℕ) (IsUnsupported : Tok → Culprit → Type 0) (IsSpelled : W → List Tok → Type 0)
    (IsFault : W → Option (C × Culprit) → Type 0) (file : ℕ) (bytes : List ℕ) where
  -- the bytes of the file spell what is written
  pub record Spelled (w : W) : Type 0 where
    pub same_file : file_in w ≡ file
    pub tokens : List Tok
    pub separates : Separates file bytes tokens
    pub supported : Judged IsUnsupported tokens None
    pub spelled : IsSpelled w tokens

  -- one row a fault, as the outcomes of the languages have them
  pub data Comes : Got W C → Type 0 where
    too_large : 1048576 < length bytes → Comes Large
    bad_byte : (k : ℕ) → length bytes ≤ 1048576 → IsBadAt k bytes → Comes (Bad k)
    unsupported : {tokens : List Tok} {place : Place} {word : Name} → Separates file bytes tokens
        → Judged IsUnsupported tokens (Some (culprit place word)) → Comes (Word place word)
    syntax : {tokens : List Tok} → Separates file bytes tokens → Judged IsUnsupported tokens None
        → ((w : W) → IsSpelled w tokens → ⊥) → Comes NoTree
    refused : {w : W} {condition : C} {place : Place} {name : Name} → Spelled w → IsFault w (Some (condition, culprit place name))
        → Comes (Fault condition place name)
    found : {w : W} → Spelled w → IsFault w None → Comes (Tree w)

  module _ (single : IsSingle IsUnsupported)
      (same_tree : (w v : W) (ts : List Tok) → IsSpelled w ts → IsSpelled v ts → file_in w ≡ file_in v → w ≡ v)
      (one_fault : (w : W) (f g : Option (C × Culprit)) → IsFault w f → IsFault w g → f ≡ g) where
    tokens_once : (ts us : List Tok) → Separates file bytes ts → Separates file bytes us → ts ≡ us
    tokens_once ts us a b = same_tokens scribble apart tok_said file ts us bytes a.cut b.cut

    pub one_file : (w v : W) → Spelled w → Spelled v → w ≡ v
    one_file w v a b =
        let ts = tokens_once a.tokens b.tokens a.separates b.separates in
        same_tree w v b.tokens (subst (IsSpelled w) ts a.spelled) b.spelled (a.same_file ∙ sym b.same_file)

    -- ---- rows that exclude each other

    small : 1048576 < length bytes → length bytes ≤ 1048576 → ⊥
    small h le = omega arith

    cut_or_bad : (k : ℕ) (ts : List Tok) → IsBadAt k bytes → Separates file bytes ts → ⊥
    cut_or_bad k ts bad s = tokens_or_bad scribble apart tok_said file ts k bytes s.cut bad

    supported_or_not : (ts us : List Tok) (c : Culprit) → Separates file bytes ts → Separates file bytes us →
        Judged IsUnsupported ts (Some c) → Judged IsUnsupported us None → ⊥
    supported_or_not ts us c a b h g =
        let same = one_answer single (subst (λ (xs : List Tok). Judged IsUnsupported xs (Some c)) (tokens_once ts us a b) h) g in
        let e : ◌≡◌ {A = Option Culprit} (Some c) None = same in cc

    spelled_or_not : (ts : List Tok) (w : W) → Separates file bytes ts → ((v : W) → IsSpelled v ts → ⊥)
        → Spelled w → ⊥
    spelled_or_not ts w a none s = none w (subst (IsSpelled w) (tokens_once s.tokens ts s.separates a) s.spelled)

    fault_or_not : (w v : W) (f : C × Culprit) → Spelled w → Spelled v → IsFault w (Some f)
        → IsFault v None → ⊥
    fault_or_not w v f a b h g =
        let e : ◌≡◌ {A = Option (C × Culprit)} (Some f) None =
        one_fault v (Some f) None (subst (λ (z : W). IsFault z (Some f)) (one_file w v a b) h) g in cc

    -- ---- the same row

    same_bad : (k j : ℕ) → IsBadAt k bytes → IsBadAt j bytes → ◌≡◌ {A = Got W C} (Bad k) (Bad j)
    same_bad k j a b = ap Bad (bad_once scribble apart bytes k j a b)

    same_word : (ts us : List Tok) (p q : Place) (v w : Name) → Separates file bytes ts → Separates file bytes us
        → Judged IsUnsupported ts (Some (culprit p v)) → Judged IsUnsupported us (Some (culprit q w))
        → ◌≡◌ {A = Got W C} (Word p v) (Word q w)
    same_word ts us p q v w a b h g =
        let same : ◌≡◌ {A = Option Culprit} (Some (culprit p v)) (Some (culprit q w)) =
        one_answer single (subst (λ (xs : List Tok). Judged IsUnsupported xs (Some (culprit p v))) (tokens_once ts us a b) h) g in
        let places : p ≡ q = cc in
        let words : v ≡ w = cc in
        λ i. Word (places i) (words i)

    same_fault : (w v : W) (k j : C) (p q : Place) (n m : Name) → Spelled w → Spelled v
        → IsFault w (Some (k, culprit p n)) → IsFault v (Some (j, culprit q m))
        → ◌≡◌ {A = Got W C} (Fault k p n) (Fault j q m)
    same_fault w v k j p q n m a b h g =
        let same : ◌≡◌ {A = Option (C × Culprit)} (Some (k, culprit p n)) (Some (j, culprit q m)) =
        one_fault v (Some (k, culprit p n)) (Some (j, culprit q m)) (subst (λ (z : W). IsFault z (Some (k, culprit p n)))
        (one_file w v a b) h) g in
        let pair = some_is (k, culprit p n) (j, culprit q m) same in
        let conditions = ap (λ (x : C × Culprit). x.0) pair in
        let places = place_is p q n m (ap (λ (x : C × Culprit). x.1) pair) in
        let names = name_is p q n m (ap (λ (x : C × Culprit). x.1) pair) in
        λ i. Fault (conditions i) (places i) (names i)

    -- ---- one answer

    size_of : (w : W) → Spelled w → length bytes ≤ 1048576
    size_of w s = s.separates.size

    pub one_come : (a b : Got W C) → Comes a → Comes b → a ≡ b
    one_come a b (too_large h) (too_large g) = refl
    one_come a b (too_large h) (bad_byte k le g) = absurd (small h le)
    one_come a b (too_large h) (unsupported s g) = absurd (small h s.size)
    one_come a b (too_large h) (syntax s g n) = absurd (small h s.size)
    one_come a b (too_large h) (refused {w = w} s g) = absurd (small h (size_of w s))
    one_come a b (too_large h) (found {w = w} s g) = absurd (small h (size_of w s))
    one_come a b (bad_byte k le h) (too_large g) = absurd (small g le)
    one_come a b (bad_byte k le h) (bad_byte j me g) = same_bad k j h g
    one_come a b (bad_byte k le h) (unsupported {tokens = ts} s g) = absurd (cut_or_bad k ts h s)
    one_come a b (bad_byte k le h) (syntax {tokens = ts} s g n) = absurd (cut_or_bad k ts h s)
    one_come a b (bad_byte k le h) (refused s g) = absurd (cut_or_bad k s.tokens h s.separates)
    one_come a b (bad_byte k le h) (found s g) = absurd (cut_or_bad k s.tokens h s.separates)
    one_come a b (unsupported s h) (too_large g) = absurd (small g s.size)
    one_come a b (unsupported {tokens = ts} s h) (bad_byte k le g) = absurd (cut_or_bad k ts g s)
    one_come a b (unsupported {tokens = ts} {place = p} {word = v} s h)
        (unsupported {tokens = us} {place = q} {word = w} r g) = same_word ts us p q v w s r h g
    one_come a b (unsupported {tokens = ts} {place = p} {word = v} s h) (syntax {tokens = us} r g n) = absurd
        (supported_or_not ts us (culprit p v) s r h g)
    one_come a b (unsupported {tokens = ts} {place = p} {word = v} s h) (refused r g) = absurd
        (supported_or_not ts r.tokens (culprit p v) s r.separates h r.supported)
    one_come a b (unsupported {tokens = ts} {place = p} {word = v} s h) (found r g) = absurd
        (supported_or_not ts r.tokens (culprit p v) s r.separates h r.supported)
    one_come a b (syntax s h n) (too_large g) = absurd (small g s.size)
    one_come a b (syntax {tokens = ts} s h n) (bad_byte k le g) = absurd (cut_or_bad k ts g s)
    one_come a b (syntax {tokens = us} r g n) (unsupported {tokens = ts} {place = p} {word = v} s h) = absurd
        (supported_or_not ts us (culprit p v) s r h g)
    one_come a b (syntax s h n) (syntax r g m) = refl
    one_come a b (syntax {tokens = ts} s h n) (refused {w = w} r g) = absurd (spelled_or_not ts w s n r)
    one_come a b (syntax {tokens = ts} s h n) (found {w = w} r g) = absurd (spelled_or_not ts w s n r)
    one_come a b (refused {w = w} s h) (too_large g) = absurd (small g (size_of w s))
    one_come a b (refused s h) (bad_byte k le g) = absurd (cut_or_bad k s.tokens g s.separates)
    one_come a b (refused r g) (unsupported {tokens = ts} {place = p} {word = v} s h) = absurd
        (supported_or_not ts r.tokens (culprit p v) s r.separates h r.supported)
    one_come a b (refused {w = w} r g) (syntax {tokens = ts} s h n) = absurd (spelled_or_not ts w s n r)
    one_come a b (refused {w = w} {condition = k} {place = p} {name = n} s h)
        (refused {w = v} {condition = j} {place = q} {name = m} r g) = same_fault w v k j p q n m s r h g
    one_come a b (refused {w = w} {condition = k} {place = p} {name = n} s h) (found {w = v} r g) = absurd
        (fault_or_not w v (k, culprit p n) s r h g)
    one_come a b (found {w = w} s h) (too_large g) = absurd (small g (size_of w s))
    one_come a b (found s h) (bad_byte k le g) = absurd (cut_or_bad k s.tokens g s.separates)
    one_come a b (found r g) (unsupported {tokens = ts} {place = p} {word = v} s h) = absurd
        (supported_or_not ts r.tokens (culprit p v) s r.separates h r.supported)
    one_come a b (found {w = w} r g) (syntax {tokens = ts} s h n) = absurd (spelled_or_not ts w s n r)
    one_come a b (found {w = v} r g) (refused {w = w} {condition = k} {place = p} {name = n} s h) = absurd
        (fault_or_not w v (k, culprit p n) s r h g)
    one_come a b (found {w = w} s h) (found {w = v} r g) = ap Tree (one_file w v s r)

    -- what comes to it in one way is one, of whatever answers say it
    pub one_by : {A : Type 0} (answer : Got W C → A) (Outcome : A → Type 0) →
        ((a : A) → Outcome a → (g : Got W C) × Comes g × (answer g ≡ a)) → (a b : A) → Outcome a → Outcome b → a ≡ b
    one_by answer Outcome comes a b h g =
        let x = comes a h in
        let y = comes b g in
        sym x.2 ∙ ap answer (one_come x.0 y.0 x.1 y.1) ∙ y.2
