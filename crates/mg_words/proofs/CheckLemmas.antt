-- Which words are the commands `check` and `show`, and which can't follow.
use Rattle.std.proofs.Common.{◌≡◌, List, [], ◌∷◌, ◌++◌, All, length, Some, None, Bool, true, false, codes, refl, sym, ap, ◌∙◌, subst}
use Rattle.std.proofs.Common.{append_assoc, arith}
use Rattle.mg_words.specs.Words.{Word, Command, Check, Show, IsSourceName, AreSourceNames, all_words}
use Rattle.mg_words.specs.Words.{IsBehind, IsCommand, AreCommand, CanBegin, AreWrong}
use Rattle.mg_words.specs.inner.Judging.{IsFirstOther}
use Rattle.mg_words.proofs.Verbs.{check, show, mark}
use Rattle.mg_words.proofs.WordsLemmas.{some_source, source_named, head_is, tail_is, filled, empty_is, few, pushed_filled, none_yet}
use Rattle.mg_words.proofs.WordsLemmas.{All-first, All-push, All-mid, still_plain}

abbrev pub all_option : Word
all_option = codes "--all"

-- ---- `check`

begins_check : (all : Bool) (before : List Word) → All IsSourceName before → CanBegin AreCommand (check ∷ (all_words all ++ before))
begins_check all before each = (
  some_source ∷ [],
  (
    Check all (before ++ some_source ∷ []),
    (
      (all_words all ++ before) ++ some_source ∷ [],
      refl,
      (
        append_assoc (all_words all) before (some_source ∷ []),
        (pushed_filled before some_source, All-push IsSourceName before some_source each source_named),
      ),
    ),
  ),
)

-- the word tells the command
pub is_check : (command : Command) (rest : List Word) → IsCommand command (check ∷ rest)
    → (all : Bool) × (files : List Word) × (command ≡ Check all files) × IsBehind (Check all files) rest
is_check (Check all files) rest (r, e, b) = (all, files, refl, subst (IsBehind (Check all files)) (sym (tail_is e)) b)
is_check other rest (r, e, b) = absurd (omega (arith, ap mark (head_is e)))

-- the option isn't a file
no_source : (rest : List Word) → AreSourceNames (all_option ∷ rest) → ⊥
no_source rest (_, each) = let first : IsSourceName all_option = All-first IsSourceName all_option rest each in first.0 refl

-- what stands behind the option, or where it isn't, are the files
files_behind : (b : Bool) (files : List Word) (all : Bool) (rest : List Word) → (all ≡ false → (r : List Word) → rest ≡ all_option ∷ r → ⊥)
    → all_words all ++ rest ≡ all_words b ++ files → AreSourceNames files → AreSourceNames rest
files_behind false files false rest plain e are = subst AreSourceNames (sym e) are
files_behind true files false rest plain e are = absurd (plain refl files e)
files_behind false files true rest plain e are = absurd (no_source rest (subst AreSourceNames (sym e) are))
files_behind true files true rest plain e are = subst AreSourceNames (sym (tail_is e)) are

check_files : (command : Command) (all : Bool) (rest : List Word) → (all ≡ false → (r : List Word) → rest ≡ all_option ∷ r → ⊥)
    → IsCommand command (check ∷ (all_words all ++ rest)) → AreSourceNames rest
check_files command all rest plain is =
    let (b, files, same, (e, are)) = is_check command (all_words all ++ rest) is in files_behind b files all rest plain e are

no_files : (command : Command) (all : Bool) → IsCommand command (check ∷ (all_words all ++ [])) → ⊥
no_files command all is = (check_files command all [] (λ n r. filled) is).0 refl

pub few_check : (all : Bool) (files : List Word) → length files ≡ 0 → AreWrong (check ∷ (all_words all ++ files)) None
few_check all files e =
    subst (λ (z : List Word). AreWrong (check ∷ (all_words all ++ z)) None) (sym (empty_is files e)) (
      begins_check all [] (none_yet _),
      λ k. no_files k.0 all k.1,
    )

pub wrong_check : (all : Bool) (files : List Word) (word : Word) → (all ≡ false → (r : List Word) → files ≡ all_option ∷ r → ⊥)
    → IsFirstOther IsSourceName files (Some word) → AreWrong (check ∷ (all_words all ++ files)) (Some word)
wrong_check all files word plain (before, after, is, each, isnt) = record {
  before = check ∷ (all_words all ++ before);
  after = after;
  stands = ap (λ (z : List Word). check ∷ z) (ap (λ (z : List Word). all_words all ++ z) is ∙
      sym (append_assoc (all_words all) before (word ∷ after)));
  begins = begins_check all before each;
  wrong = λ b. isnt (found b);
} where
  found : CanBegin AreCommand ((check ∷ (all_words all ++ before)) ++ word ∷ []) → IsSourceName word
  found (more, (command, k)) =
      let split : ((check ∷ (all_words all ++ before)) ++ word ∷ []) ++ more ≡ check ∷ (all_words all ++ (before ++ word ∷ more)) =
      append_assoc (check ∷ (all_words all ++ before)) (word ∷ []) more ∙ ap (λ (z : List Word). check ∷ z)
      (append_assoc (all_words all) before (word ∷ more)) in
      let there : IsCommand command (check ∷ (all_words all ++ (before ++ word ∷ more))) = subst (IsCommand command) split k in
      let still = λ (n : all ≡ false). still_plain all_option before word after more (λ r e. plain n r (is ∙ e)) in
      All-mid IsSourceName before word more (check_files command all (before ++ word ∷ more) still there).1

-- the option and the files are known by the words
same_split : (a b : Bool) (f g : List Word) → all_words a ++ f ≡ all_words b ++ g → AreSourceNames f → AreSourceNames g → (a ≡ b) × (f ≡ g)
same_split false false f g e are also = (refl, e)
same_split false true f g e are also = absurd (no_source g (subst AreSourceNames e are))
same_split true false f g e are also = absurd (no_source f (subst AreSourceNames (sym e) also))
same_split true true f g e are also = (refl, tail_is e)

pub same_check : (command : Command) (all : Bool) (files rest : List Word) → IsBehind (Check all files) rest
    → IsCommand command (check ∷ rest) → Check all files ≡ command
same_check command all files rest (e, are) is =
    let (b, g, same, (e', are')) = is_check command rest is in
    let (here, there) = same_split all b files g (sym e ∙ e') are are' in
    (λ i. Check (here i) (there i)) ∙ sym same

-- ---- `show`

begins_show : (before : List Word) → All IsSourceName before → CanBegin AreCommand (show ∷ before)
begins_show before each = (
  some_source ∷ [],
  (
    Show (before ++ some_source ∷ []),
    (
      before ++ some_source ∷ [],
      refl,
      (refl, (pushed_filled before some_source, All-push IsSourceName before some_source each source_named)),
    ),
  ),
)

pub is_show : (command : Command) (rest : List Word) → IsCommand command (show ∷ rest)
    → (files : List Word) × (command ≡ Show files) × IsBehind (Show files) rest
is_show (Show files) rest (r, e, b) = (files, refl, subst (IsBehind (Show files)) (sym (tail_is e)) b)
is_show other rest (r, e, b) = absurd (omega (arith, ap mark (head_is e)))

show_files : (command : Command) (rest : List Word) → IsCommand command (show ∷ rest) → AreSourceNames rest
show_files command rest is = let (files, same, (e, are)) = is_show command rest is in subst AreSourceNames (sym e) are

pub few_show : (rest : List Word) → length rest ≡ 0 → AreWrong (show ∷ rest) None
few_show rest e = few (show ∷ []) rest e (begins_show [] (none_yet _)) (λ command is. (show_files command [] is).0 refl)

pub wrong_show : (files : List Word) (word : Word) → IsFirstOther IsSourceName files (Some word) → AreWrong (show ∷ files) (Some word)
wrong_show files word (before, after, is, each, isnt) = record {
  before = show ∷ before;
  after = after;
  stands = ap (λ (z : List Word). show ∷ z) is;
  begins = begins_show before each;
  wrong = λ b. isnt (found b);
} where
  found : CanBegin AreCommand ((show ∷ before) ++ word ∷ []) → IsSourceName word
  found (more, (command, k)) =
      let split : ((show ∷ before) ++ word ∷ []) ++ more ≡ show ∷ (before ++ word ∷ more) = append_assoc (show ∷ before) (word ∷ []) more in
      All-mid IsSourceName before word more (show_files command (before ++ word ∷ more) (subst (IsCommand command) split k)).1

pub same_show : (command : Command) (files rest : List Word) → IsBehind (Show files) rest → IsCommand command (show ∷ rest)
    → Show files ≡ command
same_show command files rest (e, are) is = let (g, same, (e', are')) = is_show command rest is in ap Show (sym e ∙ e') ∙ sym same
