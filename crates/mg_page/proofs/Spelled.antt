-- What is put behind its length is read again.
use Rattle.std.proofs.Common.{◌≡◌, ◌≤◌, ◌<◌, ◌^◌, ◌+◌, ℕ, List, [], ◌∷◌, ◌++◌, length, drop, refl, sym, ap, ◌∙◌, subst, arith, append_assoc, length-append}
use Rattle.std.proofs.lemmas.List.{drop_at}
use Rattle.byteorder.specs.Endian.{big_number, big_bytes}
use Rattle.byteorder.specs.Numbers.{big_number-reads_back, length-bytes_high_first}
use Rattle.mg_text.specs.Call.{Name}
use Rattle.mg_page.specs.Told.{Told}
use Rattle.mg_page.specs.Pieces.{IsPiece, IsText, IsFile, AreAll, Each, IsShort, IsShortFile, piece_bytes, file_bytes, pieces_bytes, files_bytes}

-- a piece behind its length is that piece
piece_there : (piece rest : List ℕ) → length piece < 2 ^ 32 → IsPiece (piece_bytes piece ++ rest) piece rest
piece_there piece rest short =
    let long = length-bytes_high_first 4 (length piece) in
    let apart = append_assoc (big_bytes 4 (length piece)) piece rest in
    let all = ap length apart ∙ length-append (big_bytes 4 (length piece)) (piece ++ rest) in record {
      long = omega (arith, long, all);
      count = ap (big_number 4) apart ∙ big_number-reads_back 4 (length piece) (piece ++ rest) short;
      parts = ap (drop 4) apart ∙ drop_at (big_bytes 4 (length piece)) (piece ++ rest) 4 long;
    }

pub words_there : (words : List Name) → Each IsShort words → AreAll IsText (pieces_bytes words) words
words_there [] short = refl
words_there (word ∷ words) short = (
  pieces_bytes words,
  record { piece = piece_there word (pieces_bytes words) short.0.short; utf8 = short.0.utf8 },
  words_there words short.1,
)

file_there : (file : Told) (rest : List ℕ) → IsShortFile file → IsFile (file_bytes file ++ rest) file rest
file_there file rest short =
    let middle = piece_bytes file.content ++ rest in
    let apart = append_assoc (piece_bytes file.name) (piece_bytes file.content) rest in record {
      middle = middle;
      name = subst (λ b. IsPiece b file.name middle) (sym apart) (piece_there file.name middle short.name.short);
      content = piece_there file.content rest short.content;
      utf8 = short.name.utf8;
    }

pub files_there : (files : List Told) → Each IsShortFile files → AreAll IsFile (files_bytes files) files
files_there [] short = refl
files_there (file ∷ files) short = (files_bytes files, file_there file (files_bytes files) short.0, files_there files short.1)
