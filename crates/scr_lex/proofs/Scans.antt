-- The cutting of bytes, at Scribble's table.
use Rattle.std.proofs.Common.{◌≡◌, ℕ, ◌+◌, ◌≤◌, List, [], ◌∷◌, ◌++◌, length, take, drop, true, refl, subst, arith}
use Rattle.std.proofs.lemmas.List.{append-nil, length-take-le}
use Rattle.mg_text.specs.Places.{place_after}
use Rattle.mg_text.specs.declared.place.Place.{Place}
use Rattle.mg_read.specs.declared.front.FrontPiece.{FrontPiece}
use Rattle.mg_read.specs.declared.front.PieceKind.TheVariants as kinds
use Rattle.mg_read.specs.Letters.{is_blank}
use Rattle.mg_read.specs.Passes.{AllPasses, span}
use Rattle.mg_read.specs.Pieces.{blank}
use Rattle.mg_read.proofs.Fronts.{AreApart, Front}
use Rattle.mg_read.proofs.Spans.{span_is}
use Rattle.mg_read.proofs.Cuts.{SoFar, Front-more}
use Rattle.scr_tree.specs.Tok.{Tok}
use Rattle.scr_lex.specs.Pieces.{scribble, tok_said}
use Rattle.scr_lex.specs.inner.Spaces.{is_space}

-- the signs begin nothing else
abbrev pub apart : AreApart scribble.signs
apart = (refl, (refl, (refl, (refl, (refl, (refl, (refl, (refl, (refl, tt)))))))))

space_is_blank : (c : ℕ) → is_space c ≡ true → is_blank c ≡ true
space_is_blank c h = rw h refl

-- up to here the bytes are cut
abbrev pub Reached : ℕ → List ℕ → List Tok → Place → ℕ → List ℕ → Type 0
Reached = SoFar scribble apart tok_said

-- the scan goes on behind a space
space_more : (file : ℕ) (bytes : List ℕ) (ts : List Tok) (place : Place) (offset : ℕ) (c : ℕ) (after : List ℕ) → is_space c ≡ true →
    Reached file bytes ts place offset (c ∷ after) → Reached file bytes ts (place_after place (c ∷ [])) (offset + 1) after
space_more file bytes ts place offset c after is h =
    let shown : FrontPiece = record { kind = kinds.Gap; len = 1 } in
    let front : Front scribble shown (c ∷ after) =
    record { piece = blank c; after = after; stands = (refl, space_is_blank c is); shows = refl } in
    subst (λ (us : List Tok). Reached file bytes us (place_after place (c ∷ [])) (offset + 1) after) (append-nil ts)
    (Front-more scribble apart tok_said file bytes ts place offset (c ∷ after) shown front h)

-- and behind a row of them
spaces_more : (file : ℕ) (bytes : List ℕ) (ts : List Tok) (place : Place) (offset : ℕ) (spaces after : List ℕ) →
    AllPasses is_space spaces → Reached file bytes ts place offset (spaces ++ after) →
    Reached file bytes ts (place_after place spaces) (offset + length spaces) after
spaces_more file bytes ts place offset [] after passes h =
    let more : offset ≡ offset + 0 = omega arith in
    subst (λ (k : ℕ). Reached file bytes ts place k after) more h
spaces_more file bytes ts place offset (c ∷ spaces) after passes h =
    let more : (offset + 1) + length spaces ≡ offset + length (c ∷ spaces) = omega arith in
    subst (λ (k : ℕ). Reached file bytes ts (place_after place (c ∷ spaces)) k after) more
    (spaces_more file bytes ts (place_after place (c ∷ [])) (offset + 1) spaces after passes.1
    (space_more file bytes ts place offset c (spaces ++ after) passes.0 h))

-- all spaces at the front are passed
pub spaces_passed : (file : ℕ) (bytes : List ℕ) (ts : List Tok) (place : Place) (offset : ℕ) (rest : List ℕ) (n : ℕ) →
    n ≡ span is_space rest → n ≤ length rest → Reached file bytes ts place offset rest →
    Reached file bytes ts (place_after place (take n rest)) (offset + n) (drop n rest) × (length (take n rest) ≡ n)
spaces_passed file bytes ts place offset rest n is within h =
    let run = span_is is_space rest in
    let long : length (take n rest) ≡ n = length-take-le n rest within in
    let passes : AllPasses is_space (take n rest) = rw is run.passes in
    let parts : rest ≡ take n rest ++ drop n rest = rw is run.parts in (
      subst (λ (k : ℕ). Reached file bytes ts (place_after place (take n rest)) (offset + k) (drop n rest)) long
          (spaces_more file bytes ts place offset (take n rest) (drop n rest) passes (subst (Reached file bytes ts place offset) parts h)),
      long,
    )
