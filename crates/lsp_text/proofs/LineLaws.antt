-- There is one way to cut a text into lines.
use Rattle.std.proofs.Common.{◌≡◌, ℕ, zero, suc, ◌+◌, ◌<◌, ◌≤◌, List, [], ◌∷◌, ◌++◌, length, get_or, take, drop, Bool, true}
use Rattle.std.proofs.Common.{false, refl, sym, ap, ◌∙◌, subst, arith}
use Rattle.std.proofs.Common.{length-append}
use Rattle.std.specs.Str.{NonePass}
use Rattle.lsp_text.specs.Lines.{is_line_end, End, feed, carriage, both, spell, MayStand, HasNoFeed, IsFirstLine, IsBehind, StopsLine}

-- a line's end begins with a byte of one
pub end_head : (e : End) (after : List ℕ) (b : ℕ) (bs : List ℕ) → spell e ++ after ≡ b ∷ bs → is_line_end b ≡ true
end_head feed after b bs h = ap (λ (xs : List ℕ). is_line_end (get_or xs 0 0)) (sym h)
end_head carriage after b bs h = ap (λ (xs : List ℕ). is_line_end (get_or xs 0 0)) (sym h)
end_head both after b bs h = ap (λ (xs : List ℕ). is_line_end (get_or xs 0 0)) (sym h)

pub end_stops : (e : End) (after : List ℕ) → StopsLine (spell e ++ after)
end_stops feed after = refl
end_stops carriage after = refl
end_stops both after = refl

pub end_long : (e : End) → 1 ≤ length (spell e)
end_long feed = omega arith
end_long carriage = omega arith
end_long both = omega arith

-- true and false are two
apart : {A : Type 0} (b : Bool) → b ≡ true → b ≡ false → A
apart b h k = absurd (cc)

clash : {A : Type 0} (a b : ℕ) (xs ys : List ℕ) → a ∷ xs ≡ b ∷ ys → (a ≡ b → ⊥) → A
clash a b xs ys h differ = absurd (differ (ap (λ (zs : List ℕ). get_or zs 0 0) h))

tail : (a b : ℕ) (xs ys : List ℕ) → a ∷ xs ≡ b ∷ ys → xs ≡ ys
tail a b xs ys h = ap (λ (zs : List ℕ). drop 1 zs) h

feed_follows : {A : Type 0} (a b : List ℕ) → HasNoFeed a → a ≡ 10 ∷ b → A
feed_follows a b none h = let f : HasNoFeed (10 ∷ b) = subst HasNoFeed h none in apart true refl f

same_end : (e f : End) (a b : List ℕ) → MayStand e a → MayStand f b → spell e ++ a ≡ spell f ++ b → a ≡ b
same_end feed feed a b m n h = tail 10 10 a b h
same_end feed carriage a b m n h = clash 10 13 a b h (λ k. omega arith)
same_end feed both a b m n h = clash 10 13 a (10 ∷ b) h (λ k. omega arith)
same_end carriage feed a b m n h = clash 13 10 a b h (λ k. omega arith)
same_end carriage carriage a b m n h = tail 13 13 a b h
same_end carriage both a b m n h = feed_follows a b m (tail 13 13 a (10 ∷ b) h)
same_end both feed a b m n h = clash 13 10 (10 ∷ a) b h (λ k. omega arith)
same_end both carriage a b m n h = feed_follows b a n (sym (tail 13 13 (10 ∷ a) b h))
same_end both both a b m n h = tail 10 10 a b (tail 13 13 (10 ∷ a) (10 ∷ b) h)

-- the first line, and what stands behind it
same_line : (l m : List ℕ) (e f : End) (a b : List ℕ) → NonePass is_line_end l → NonePass is_line_end m → MayStand e a → MayStand f b →
    l ++ (spell e ++ a) ≡ m ++ (spell f ++ b) → (l ≡ m) × (a ≡ b)
same_line [] [] e f a b p q s t h = (refl, same_end e f a b s t h)
same_line [] (x ∷ m) e f a b p q s t h = apart (is_line_end x) (end_head e a x (m ++ (spell f ++ b)) h) q.0
same_line (x ∷ l) [] e f a b p q s t h = apart (is_line_end x) (end_head f b x (l ++ (spell e ++ a)) (sym h)) p.0
same_line (x ∷ l) (y ∷ m) e f a b p q s t h =
    let head : x ≡ y = ap (λ (zs : List ℕ). get_or zs 0 0) h in
    let rest = same_line l m e f a b p.1 q.1 s t (tail x y (l ++ (spell e ++ a)) (m ++ (spell f ++ b)) h) in
    (ap (λ z. z ∷ l) head ∙ ap (λ (zs : List ℕ). y ∷ zs) rest.0, rest.1)

pub same_first_line : (text l a m b : List ℕ) → IsFirstLine text l a → IsFirstLine text m b → (l ≡ m) × (a ≡ b)
same_first_line text l a m b f g =
    same_line l m f.ending g.ending a b f.plain g.plain f.stands g.stands (sym f.spells ∙ g.spells)

-- where a line ends, some byte is an end's
pub no_first_line : {A : Type 0} (text l a : List ℕ) → NonePass is_line_end text → IsFirstLine text l a → A
no_first_line text l a none f = go l f.ending a (subst (NonePass is_line_end) f.spells none) where
  go : {A : Type 0} (l : List ℕ) (e : End) (a : List ℕ) → NonePass is_line_end (l ++ (spell e ++ a)) → A
  go [] feed a h = apart true refl h.0
  go [] carriage a h = apart true refl h.0
  go [] both a h = apart true refl h.0
  go (x ∷ l) e a h = go l e a h.1

pub first_line_length : (text l a : List ℕ) → IsFirstLine text l a → length l + (1 + length a) ≤ length text
first_line_length text l a f =
    let whole : length text ≡ length (l ++ (spell f.ending ++ a)) = ap length f.spells in
    let outer : length (l ++ (spell f.ending ++ a)) ≡ length l + length (spell f.ending ++ a) = length-append l (spell f.ending ++ a) in
    let inner : length (spell f.ending ++ a) ≡ length (spell f.ending) + length a = length-append (spell f.ending) a in
    let long : 1 ≤ length (spell f.ending) = end_long f.ending in
    omega arith

-- one line more
pub behind_more : (n : ℕ) (text rest l a : List ℕ) → IsBehind n text rest → IsFirstLine rest l a → IsBehind (suc n) text a
behind_more zero text rest l a h f = (l, a, subst (λ (z : List ℕ). IsFirstLine z l a) (sym h) f, refl)
behind_more (suc n) text rest l a h f = (h.0, h.1, h.2, behind_more n h.1 rest l a h.3 f)

pub behind_same : (n : ℕ) (text r s : List ℕ) → IsBehind n text r → IsBehind n text s → r ≡ s
behind_same zero text r s h k = sym h ∙ k
behind_same (suc n) text r s h k =
    let same = same_first_line text h.0 h.1 k.0 k.1 h.2 k.2 in
    behind_same n h.1 r s h.3 (subst (λ (z : List ℕ). IsBehind n z s) (sym same.1) k.3)

-- behind more lines stands what is behind some of them, and then behind others
pub behind_split : (n m : ℕ) (text s : List ℕ) → n ≤ m → IsBehind m text s →
    (k : ℕ) × (r : List ℕ) × (k + n ≡ m) × IsBehind n text r × IsBehind k r s
behind_split zero m text s le h = (m, text, omega arith, refl, h)
behind_split (suc n) zero text s le h = absurd (omega arith)
behind_split (suc n) (suc m) text s le h =
    let t = behind_split n m h.1 s (omega arith) h.3 in
    let e : t.0 + n ≡ m = t.2 in
    (t.0, t.1, omega arith, (h.0, h.1, h.2, t.3), t.4)

pub behind_shorter : (n : ℕ) (text rest : List ℕ) → IsBehind n text rest → length rest ≤ length text
behind_shorter zero text rest h = let e : length text ≡ length rest = ap length h in omega arith
behind_shorter (suc n) text rest h =
    let first : length h.0 + (1 + length h.1) ≤ length text = first_line_length text h.0 h.1 h.2 in
    let others : length rest ≤ length h.1 = behind_shorter n h.1 rest h.3 in
    omega arith

-- behind more lines than others stands the rest of a line that begins behind those
pub behind_further : (n m : ℕ) (text r s : List ℕ) → n < m → IsBehind n text r → IsBehind m text s →
    (l : List ℕ) × (a : List ℕ) × IsFirstLine r l a × (length s ≤ length a)
behind_further n m text r s less h k = go (behind_split n m text s (omega arith) k) where
  go : (k : ℕ) × (q : List ℕ) × (k + n ≡ m) × IsBehind n text q × IsBehind k q s →
      (l : List ℕ) × (a : List ℕ) × IsFirstLine r l a × (length s ≤ length a)
  go (zero, q, e, x, y) = absurd (omega arith)
  go (suc k, q, e, x, y) =
      (y.0, y.1, subst (λ (z : List ℕ). IsFirstLine z y.0 y.1) (behind_same n text q r x h) y.2, behind_shorter k y.1 s y.3)

-- a text in which no line ends has no second line
pub no_line : (i n : ℕ) (text rest r : List ℕ) → IsBehind i text rest → NonePass is_line_end rest → i < n → ¬ IsBehind n text r
no_line i n text rest r h none less k =
    let f = behind_further i n text rest r less h k in
    no_first_line rest f.0 f.1 none f.2

-- none of the bytes before the first end is an end's
pub none_below : (p : ℕ → Bool) (xs : List ℕ) (n : ℕ) → n ≤ length xs → ((k : ℕ) → k < n → p (get_or xs k 0) ≡ false) → NonePass p (take n xs)
none_below p xs zero le h = tt
none_below p [] (suc n) le h = tt
none_below p (x ∷ xs) (suc n) le h = (h 0 (omega arith), none_below p xs n (omega arith) (λ k less. h (suc k) (omega arith)))

pub none_whole : (p : ℕ → Bool) (xs : List ℕ) → ((k : ℕ) → k < length xs → p (get_or xs k 0) ≡ false) → NonePass p xs
none_whole p [] h = tt
none_whole p (x ∷ xs) h = (h 0 (omega arith), none_whole p xs (λ k less. h (suc k) (omega arith)))

pub none_append : (p : ℕ → Bool) (xs ys : List ℕ) → NonePass p (xs ++ ys) → NonePass p xs × NonePass p ys
none_append p [] ys h = (tt, h)
none_append p (x ∷ xs) ys h = let t = none_append p xs ys h.1 in ((h.0, t.0), t.1)
