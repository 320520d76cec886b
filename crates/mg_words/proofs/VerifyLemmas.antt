-- Which words are the command `verify`, and which can't follow.
use Rattle.std.proofs.Common.{◌≡◌, List, [], ◌∷◌, ◌++◌, All, length, Some, None, codes, refl, sym, ap, ◌∙◌, subst, append_assoc, arith}
use Rattle.mg_words.specs.Words.{Word, Command, Verify, IsFileOf}
use Rattle.mg_words.specs.Words.{AreFilesOf}
use Rattle.mg_words.specs.Words.{IsBehind, IsCommand, AreCommand, CanBegin, AreWrong}
use Rattle.mg_words.specs.inner.Judging.{IsFirstOther}
use Rattle.mg_words.proofs.Verbs.{verify, mark}
use Rattle.mg_words.proofs.WordsLemmas.{head_is, tail_is, few, pushed_filled, none_yet, All-push, All-mid}

named : IsFileOf (codes ".class") (codes "P.class")
named = (λ e. cc, (codes "P", refl))

-- class files can be followed by one more
begins_files : (before : List Word) → All (IsFileOf (codes ".class")) before → CanBegin AreCommand (verify ∷ before)
begins_files before each = (
  codes "P.class" ∷ [],
  (
    Verify (before ++ codes "P.class" ∷ []),
    (
      before ++ codes "P.class" ∷ [],
      refl,
      (refl, (pushed_filled before (codes "P.class"), All-push (IsFileOf (codes ".class")) before (codes "P.class") each named)),
    ),
  ),
)

begins_verify : CanBegin AreCommand (verify ∷ [])
begins_verify = begins_files [] (none_yet _)

-- the word tells the command
pub is_verify : (command : Command) (rest : List Word) → IsCommand command (verify ∷ rest)
    → (files : List Word) × (command ≡ Verify files) × IsBehind (Verify files) rest
is_verify (Verify files) rest (r, e, b) = (files, refl, subst (IsBehind (Verify files)) (sym (tail_is e)) b)
is_verify other rest (r, e, b) = absurd (omega (arith, ap mark (head_is e)))

-- what stands behind it are class files
verify_files : (command : Command) (rest : List Word) → IsCommand command (verify ∷ rest) → AreFilesOf (codes ".class") rest
verify_files command rest is = let (files, same, (e, each)) = is_verify command rest is in subst (AreFilesOf (codes ".class")) (sym e) each

pub few_verify : (rest : List Word) → length rest ≡ 0 → AreWrong (verify ∷ rest) None
few_verify rest e = few (verify ∷ []) rest e begins_verify (λ command is. (verify_files command [] is).0 refl)

pub wrong_class_file : (files : List Word) (word : Word) → IsFirstOther (IsFileOf (codes ".class")) files (Some word) →
    AreWrong (verify ∷ files) (Some word)
wrong_class_file files word (before, after, is, each, isnt) = record {
  before = verify ∷ before;
  after = after;
  stands = ap (λ (z : List Word). verify ∷ z) is;
  begins = begins_files before each;
  wrong = λ b. isnt (found b);
} where
  found : CanBegin AreCommand ((verify ∷ before) ++ word ∷ []) → IsFileOf (codes ".class") word
  found (more, (command, k)) =
      let split : ((verify ∷ before) ++ word ∷ []) ++ more ≡ verify ∷ (before ++ word ∷ more) =
      append_assoc (verify ∷ before) (word ∷ []) more in
      All-mid (IsFileOf (codes ".class")) before word more
      (verify_files command (before ++ word ∷ more) (subst (IsCommand command) split k)).1

pub same_verify : (command : Command) (files rest : List Word) → IsBehind (Verify files) rest → IsCommand command (verify ∷ rest)
    → Verify files ≡ command
same_verify command files rest (e, each) is = let (g, same, (e', each')) = is_verify command rest is in ap Verify (sym e ∙ e') ∙ sym same
