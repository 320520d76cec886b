-- How far bytes have been read: what was read stands at their front, and nothing else can.
use Rattle.std.proofs.Common.{◌≡◌, ◌≤◌, ◌<◌, ◌+◌, ◌-◌, ℕ, List, [], ◌∷◌, ◌++◌, length, take, drop, refl, sym, ap, ◌∙◌, subst, arith, append-nil, append_assoc, length-append, length-drop, Result, Ok, Err}
use Rattle.std.proofs.lemmas.List.{take_at, drop_at}
use Rattle.std.specs.Str.{IsUtf8}
use Rattle.byteorder.specs.Endian.{big_number}
use Rattle.mg_page.specs.Told.{Told}
use Rattle.mg_page.specs.Pieces.{IsPiece, IsText, IsFile, AreAll, BeginWithNone, AreNone}

-- an error is the same beside values of another type
error_or : {T E : Type 0} → E → Result T E → E
error_or y (Ok x) = y
error_or y (Err x) = x

pub same_error : {T U E : Type 0} (x y : E) → ◌≡◌ {A = Result T E} (Err x) (Err y) → ◌≡◌ {A = Result U E} (Err x) (Err y)
unfolding error_or
same_error {T = T} x y e = let same : x ≡ y = ap (error_or {T = T} x) e in ap Err same

-- bytes begin with one piece at most
the_piece : (bytes piece rest : List ℕ) → IsPiece bytes piece rest → take (big_number 4 bytes) (drop 4 bytes) ≡ piece
the_piece bytes piece rest is = ap (take (big_number 4 bytes)) is.parts ∙ take_at piece rest (big_number 4 bytes) (sym is.count)

the_rest : (bytes piece rest : List ℕ) → IsPiece bytes piece rest → drop (big_number 4 bytes) (drop 4 bytes) ≡ rest
the_rest bytes piece rest is = ap (drop (big_number 4 bytes)) is.parts ∙ drop_at piece rest (big_number 4 bytes) (sym is.count)

pub one_piece : (bytes p q r s : List ℕ) → IsPiece bytes p r → IsPiece bytes q s → (p ≡ q) × (r ≡ s)
one_piece bytes p q r s is so =
    (sym (the_piece bytes p r is) ∙ the_piece bytes q s so, sym (the_rest bytes p r is) ∙ the_rest bytes q s so)

-- what is left is shorter
pub piece_shortens : (bytes p r : List ℕ) → IsPiece bytes p r → length r < length bytes
piece_shortens bytes p r is =
    let all = sym (length-drop 4 bytes) ∙ ap length is.parts ∙ length-append p r in omega (arith, all, is.long)

-- no bytes begin with nothing
pub some_piece : (bytes p r : List ℕ) → IsPiece bytes p r → bytes ≡ [] → ⊥
some_piece bytes p r is e = let h = ap length e in omega (arith, h, is.long)

pub some_text : (bytes text rest : List ℕ) → IsText bytes text rest → bytes ≡ [] → ⊥
some_text bytes text rest is = some_piece bytes text rest is.piece

pub some_file : (bytes : List ℕ) (file : Told) (rest : List ℕ) → IsFile bytes file rest → bytes ≡ [] → ⊥
some_file bytes file rest is = some_piece bytes file.name is.middle is.name

pub one_text : (bytes p q r s : List ℕ) → IsText bytes p r → IsText bytes q s → (p ≡ q) × (r ≡ s)
one_text bytes p q r s is so = one_piece bytes p q r s is.piece so.piece

pub one_file : (bytes : List ℕ) (f g : Told) (r s : List ℕ) → IsFile bytes f r → IsFile bytes g s → (f ≡ g) × (r ≡ s)
one_file bytes f g r s is so =
    let name = one_piece bytes f.name g.name is.middle so.middle is.name so.name in
    let moved = subst (λ m. IsPiece m f.content r) name.1 is.content in
    let content = one_piece so.middle f.content g.content r s moved so.content in
    (λ i. record { name = name.0 i; content = content.0 i }, content.1)

pub file_shortens : (bytes : List ℕ) (file : Told) (rest : List ℕ) → IsFile bytes file rest → length rest < length bytes
file_shortens bytes file rest is =
    let one = piece_shortens bytes file.name is.middle is.name in
    let other = piece_shortens is.middle file.content rest is.content in omega (arith, one, other)

-- a piece that is no text begins no text
pub text_refused : (bytes text rest : List ℕ) → IsPiece bytes text rest → (IsUtf8 text → ⊥) → BeginWithNone IsText bytes
text_refused bytes text rest is never x r so =
    never (subst IsUtf8 (one_piece bytes x text r rest so.piece is).0 so.utf8)

-- nor a file as its name
pub name_refused : (bytes name middle : List ℕ) → IsPiece bytes name middle → (IsUtf8 name → ⊥) → BeginWithNone IsFile bytes
name_refused bytes name middle is never x r so =
    never (subst IsUtf8 (one_piece bytes x.name name so.middle middle so.name is).0 so.utf8)

-- a name behind which no piece stands begins no file
pub content_refused : (bytes name middle : List ℕ) → IsPiece bytes name middle → BeginWithNone IsPiece middle → BeginWithNone IsFile bytes
content_refused bytes name middle is never x r so =
    let moved = (one_piece bytes x.name name so.middle middle so.name is).1 in
    never x.content r (subst (λ m. IsPiece m x.content r) moved so.content)

module _ {X : Type 0} (begins : List ℕ → X → List ℕ → Type 0) where
  -- These were read of the bytes, and the rest is left.
  pub record AreRead (bytes rest : List ℕ) (xs : List X) : Type 0 where
    pub spelled : (more : List X) → AreAll begins rest more → AreAll begins bytes (xs ++ more)
    pub left : (all : List X) → AreAll begins bytes all → (more : List X) × AreAll begins rest more

  pub none_read : (bytes : List ℕ) → AreRead bytes bytes []
  none_read bytes = record { spelled = λ more h. h; left = λ all h. (all, h) }

  -- all were read
  pub all_read : (bytes rest : List ℕ) (xs : List X) → AreRead bytes rest xs → length rest ≡ 0 → AreAll begins bytes xs
  all_read bytes [] xs read e = subst (AreAll begins bytes) (append-nil xs) (read.spelled [] refl)
  all_read bytes (b ∷ rest) xs read e = absurd (omega arith)

  -- bytes that are left, and begin with nothing that is told, aren't told at all
  pub none_told : (bytes rest : List ℕ) (xs : List X) → AreRead bytes rest xs → 0 < length rest → BeginWithNone begins rest →
      AreNone begins bytes
  none_told bytes rest xs read long never all h = let l = read.left all h in go l.0 l.1 where
    go : (more : List X) → AreAll begins rest more → ⊥
    go [] e = let h = ap length e in omega (arith, h, long)
    go (x ∷ more) e = never x e.0 e.1

  -- one thing is told at most at the front, and none where there are no bytes
  module _ (one : (bytes : List ℕ) (x y : X) (r s : List ℕ) → begins bytes x r → begins bytes y s → (x ≡ y) × (r ≡ s))
      (some : (bytes : List ℕ) (x : X) (r : List ℕ) → begins bytes x r → bytes ≡ [] → ⊥) where
    pub one_read : (bytes rest behind : List ℕ) (xs : List X) (x : X) → AreRead bytes rest xs → begins rest x behind →
        AreRead bytes behind (xs ++ x ∷ [])
    one_read bytes rest behind xs x read is = record {
      spelled = λ more h. subst (AreAll begins bytes) (sym (append_assoc xs (x ∷ []) more)) (read.spelled (x ∷ more) (behind, is, h));
      left = λ all h. let l = read.left all h in after l.0 l.1;
    } where
      after : (more : List X) → AreAll begins rest more → (others : List X) × AreAll begins behind others
      after [] h = absurd (some rest x behind is h)
      after (y ∷ more) h = (more, subst (λ r. AreAll begins r more) (one rest y x h.0 behind h.1 is).1 h.2)

    pub same_all : (bytes : List ℕ) (xs ys : List X) → AreAll begins bytes xs → AreAll begins bytes ys → xs ≡ ys
    same_all bytes [] [] h k = refl
    same_all bytes [] (y ∷ ys) h k = absurd (some bytes y k.0 k.1 h)
    same_all bytes (x ∷ xs) [] h k = absurd (some bytes x h.0 h.1 k)
    same_all bytes (x ∷ xs) (y ∷ ys) h k =
        let e = one bytes x y h.0 k.0 h.1 k.1 in
        let es = same_all k.0 xs ys (subst (λ b. AreAll begins b xs) e.1 h.2) k.2 in
        λ i. e.0 i ∷ es i
