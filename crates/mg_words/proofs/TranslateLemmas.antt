-- Which words are the commands `translate` and `client`, and which can't follow.
use Rattle.std.proofs.Common.{◌≡◌, ◌≢◌, List, [], ◌∷◌, ◌++◌, All, length, Option, Some, None, codes, refl, sym, ap, ◌∙◌, subst, append_assoc, arith, eqb}
use Rattle.std.specs.Borrow.{Bor}
use Rattle.std.specs.Prelude.{true, false, is_some, flat_map, filter_map, option_map, option_to_list}
use Rattle.std.proofs.lemmas.Grind.{flat_map-append}
use Rattle.std.proofs.lemmas.List.Elements.{filter_map-append}
use Rattle.jv_tree.specs.Tokens.{is_name}
use Rattle.api_package.specs.Package.{IsPackage}
use Rattle.mg_words.specs.Words.{Word, Command, AreTargetsAndFiles, TargetOption, Package, Folder, target_words, IsTarget, target_package}
use Rattle.mg_words.specs.Words.{target_folder, AreTargets, IsFileName, IsFileOf, AreFilesOf}
use Rattle.mg_words.specs.Words.{IsCommand, AreCommand, CanBegin, AreWrong}
use Rattle.mg_words.specs.inner.Judging.{IsFirstOther, AreTargeted, making, word_for}
use Rattle.mg_words.specs.declared.targets.Made.{Made}
use Rattle.mg_words.proofs.WordsLemmas.{out, some_source, some_class, named, is_name as folder_named, head_is, tail_is, filled, empty_is}
use Rattle.mg_words.proofs.WordsLemmas.{nothing_behind, All-first, All-push, All-mid, none_yet, pushed_filled, first_wrong, is_making}
use Rattle.mg_words.proofs.WordsLemmas.{making_is}
use Rattle.mg_words.proofs.NameLemmas.{never_both}
use Rattle.mg_words.proofs.OptionLemmas.{at_end, one_there}
use Rattle.mg_words.proofs.FollowLemmas.{same_value}

abbrev pub pack : Word
pack = codes "--package"

abbrev some_package : Word
some_package = codes "p"

some_packaged : IsPackage some_package
unfolding is_name
some_packaged = refl

pack_out : {P : Type 0} → pack ≡ out → P
pack_out e = absurd (omega (arith, ap length e))

abbrev pub words_of : List TargetOption → List Word
words_of = flat_map target_words

words_on : (a b : List TargetOption) → words_of (a ++ b) ≡ words_of a ++ words_of b
words_on = flat_map-append target_words

abbrev AreFiles : List Word → Type 0
AreFiles = AreFilesOf (codes ".scr")

-- ---- the words of options

abbrev option_word : TargetOption → Word
option_word (Package v) = pack
option_word (Folder v) = out

abbrev value_word : TargetOption → Word
value_word (Package v) = v
value_word (Folder v) = v

two_words : (x : TargetOption) → target_words x ≡ option_word x ∷ value_word x ∷ []
two_words (Package v) = refl
two_words (Folder v) = refl

-- options that are written alike are one
same_target : (x y : TargetOption) (r r' : List Word) → target_words x ++ r ≡ target_words y ++ r' → (x ≡ y) × (r ≡ r')
same_target (Package v) (Package w) r r' e = (ap Package (head_is (tail_is e)), tail_is (tail_is e))
same_target (Package v) (Folder w) r r' e = pack_out (head_is e)
same_target (Folder v) (Package w) r r' e = pack_out (sym (head_is e))
same_target (Folder v) (Folder w) r r' e = (ap Folder (head_is (tail_is e)), tail_is (tail_is e))

-- the option isn't a file
no_pack : (rest files : List Word) → pack ∷ rest ≡ files → AreFiles files → ⊥
no_pack rest files e (_, each) =
    let first : IsFileOf (codes ".scr") pack =
    All-first (IsFileOf (codes ".scr")) pack rest (subst (All (IsFileOf (codes ".scr"))) (sym e) each) in
    first.0 refl

no_out : (rest files : List Word) → out ∷ rest ≡ files → AreFiles files → ⊥
no_out rest files e (_, each) =
    let first : IsFileOf (codes ".scr") out =
    All-first (IsFileOf (codes ".scr")) out rest (subst (All (IsFileOf (codes ".scr"))) (sym e) each) in
    first.0 refl

no_target : (x : TargetOption) (rest files : List Word) → target_words x ++ rest ≡ files → AreFiles files → ⊥
no_target (Package v) rest files e are = no_pack (v ∷ rest) files e are
no_target (Folder v) rest files e are = no_out (v ∷ rest) files e are

-- ---- one more option

none_targeted : AreTargets None None []
none_targeted = record { right = none_yet IsTarget; packages = refl; folders = refl }

-- a package, where none was named
with_package : (o : List TargetOption) (d : Option Word) (v : Word) → AreTargets None d o → IsPackage v →
    AreTargets (Some v) d (o ++ Package v ∷ [])
with_package o d v h is = record {
  right = All-push IsTarget o (Package v) h.right is;
  packages = filter_map-append target_package o (Package v ∷ []) ∙ ap (λ (z : List Word). z ++ v ∷ []) h.packages;
  folders = filter_map-append target_folder o (Package v ∷ []) ∙ at_end (filter_map target_folder o) ∙ h.folders;
}

with_folder : (o : List TargetOption) (p : Option Word) (v : Word) → AreTargets p None o → IsFileName v →
    AreTargets p (Some v) (o ++ Folder v ∷ [])
with_folder o p v h is = record {
  right = All-push IsTarget o (Folder v) h.right is;
  packages = filter_map-append target_package o (Folder v ∷ []) ∙ at_end (filter_map target_package o) ∙ h.packages;
  folders = filter_map-append target_folder o (Folder v ∷ []) ∙ ap (λ (z : List Word). z ++ v ∷ []) h.folders;
}

-- among options that are all, one that names a package is the first that does
package_free : (o more : List TargetOption) (p q d : Option Word) (v : Word) → filter_map target_package o ≡ option_to_list p →
    AreTargets q d (o ++ Package v ∷ more) → p ≡ None
package_free o more p q d v was all =
    (one_there p q v (filter_map target_package more)
    (ap (λ (z : List Word). z ++ v ∷ filter_map target_package more) (sym was)
    ∙ sym (filter_map-append target_package o (Package v ∷ more)) ∙ all.packages)).0

folder_free : (o more : List TargetOption) (p q d : Option Word) (v : Word) → filter_map target_folder o ≡ option_to_list p →
    AreTargets q d (o ++ Folder v ∷ more) → p ≡ None
folder_free o more p q d v was all =
    (one_there p d v (filter_map target_folder more)
    (ap (λ (z : List Word). z ++ v ∷ filter_map target_folder more) (sym was)
    ∙ sym (filter_map-append target_folder o (Folder v ∷ more)) ∙ all.folders)).0

-- ---- what can begin the command

-- options and files can be followed by a file
begins_files : (k : Made) (o : List TargetOption) (p d : Option Word) (before : List Word) → AreTargets p d o →
    All (IsFileOf (codes ".scr")) before
    → CanBegin AreCommand (word_for k ∷ (words_of o ++ before))
begins_files k o p d before h each = (
  some_source ∷ [],
  (
    making k p d (before ++ some_source ∷ []),
    making_is k p d (before ++ some_source ∷ []) ((words_of o ++ before) ++ some_source ∷ []) (
      o,
      append_assoc (words_of o) before (some_source ∷ []),
      h,
      (pushed_filled before some_source, All-push (IsFileOf (codes ".scr")) before some_source each named),
    ),
  ),
)

-- what can begin with more words can with fewer
begins_sooner : (k : Made) (ws more : List Word) → CanBegin AreCommand (word_for k ∷ (ws ++ more)) → CanBegin AreCommand (word_for k ∷ ws)
begins_sooner k ws more (rest, (command, is)) =
    (more ++ rest, (command, subst (IsCommand command) (ap (λ (z : List Word). word_for k ∷ z) (append_assoc ws more rest)) is))

begins_targets : (k : Made) (o : List TargetOption) (p d : Option Word) → AreTargets p d o →
    CanBegin AreCommand (word_for k ∷ (words_of o ++ []))
begins_targets k o p d h = begins_files k o p d [] h (none_yet (IsFileOf (codes ".scr")))

-- options can be followed by the word of one more
begins_option : (k : Made) (o : List TargetOption) (x : TargetOption) (p d : Option Word) → AreTargets p d (o ++ x ∷ [])
    → CanBegin AreCommand (word_for k ∷ (words_of o ++ option_word x ∷ []))
begins_option k o x p d h =
    let same : words_of (o ++ x ∷ []) ++ [] ≡ (words_of o ++ option_word x ∷ []) ++ value_word x ∷ [] =
    nothing_behind (words_of (o ++ x ∷ [])) ∙ words_on o (x ∷ [])
    ∙ ap (λ (z : List Word). words_of o ++ z) (nothing_behind (target_words x) ∙ two_words x)
    ∙ sym (append_assoc (words_of o) (option_word x ∷ []) (value_word x ∷ [])) in
    begins_sooner k (words_of o ++ option_word x ∷ []) (value_word x ∷ [])
    (subst (λ (z : List Word). CanBegin AreCommand (word_for k ∷ z)) same (begins_targets k (o ++ x ∷ []) p d h))

-- ---- what stands behind the word

-- behind options that were read stand further options, and files
record Left (o : List TargetOption) (rest : List Word) (all : List TargetOption) (files : List Word) : Type 0 where
  more : List TargetOption
  parts : all ≡ o ++ more
  words : rest ≡ words_of more ++ files

left_of : (o all : List TargetOption) (rest files : List Word) → AreFiles files → words_of o ++ rest ≡ words_of all ++ files
    → Left o rest all files
left_of [] all rest files are e = record { more = all; parts = refl; words = e }
left_of (x ∷ xs) [] rest files are e =
    absurd (no_target x (words_of xs ++ rest) files (sym (append_assoc (target_words x) (words_of xs) rest) ∙ e) are)
left_of (x ∷ xs) (y ∷ ys) rest files are e =
    let e' : target_words x ++ (words_of xs ++ rest) ≡ target_words y ++ (words_of ys ++ files) =
    sym (append_assoc (target_words x) (words_of xs) rest) ∙ e ∙ append_assoc (target_words y) (words_of ys) files in
    let (one, others) = same_target x y (words_of xs ++ rest) (words_of ys ++ files) e' in
    let left = left_of xs ys rest files are others in
    record { more = left.more; parts = (λ i. sym one i ∷ left.parts i); words = left.words }

-- a command that begins with options that were read
record Goes (k : Made) (o : List TargetOption) (rest : List Word) (command : Command) : Type 0 where
  p : Option Word
  d : Option Word
  files : List Word
  more : List TargetOption
  same : command ≡ making k p d files
  words : rest ≡ words_of more ++ files
  all : AreTargets p d (o ++ more)
  are : AreFiles files

goes_on : (k : Made) (o : List TargetOption) (rest : List Word) (command : Command) →
    IsCommand command (word_for k ∷ (words_of o ++ rest)) →
    Goes k o rest command
goes_on k o rest command is =
    let (p, d, files, same, (all, e, how, are)) = is_making k command (words_of o ++ rest) is in
    let left = left_of o all rest files are e in
    record {
      p = p;
      d = d;
      files = files;
      more = left.more;
      same = same;
      words = left.words;
      all = subst (AreTargets p d) left.parts how;
      are = are;
    }

-- ---- what is judged

-- a word can't stand behind options and what was read behind them, where no command goes on so
wrong_behind : (k : Made) (o : List TargetOption) (before : List Word) (word : Word) (after : List Word)
    → CanBegin AreCommand (word_for k ∷ (words_of o ++ before))
    → ((command : Command) (more : List Word) → Goes k o (before ++ word ∷ more) command → ⊥)
    → AreWrong (word_for k ∷ (words_of o ++ (before ++ word ∷ after))) (Some word)
wrong_behind k o before word after begins cannot =
    subst (λ (z : List Word). AreWrong (word_for k ∷ z) (Some word)) (append_assoc (words_of o) before (word ∷ after))
    (first_wrong (word_for k ∷ (words_of o ++ before)) word after begins (λ b.
    cannot b.1.0 b.0 (goes_on k o (before ++ word ∷ b.0) b.1.0 (subst (IsCommand b.1.0) (split b.0) b.1.1)))) where
      split : (more : List Word) → ((word_for k ∷ (words_of o ++ before)) ++ word ∷ []) ++ more
          ≡ word_for k ∷ (words_of o ++ (before ++ word ∷ more))
      split more =
          append_assoc (word_for k ∷ (words_of o ++ before)) (word ∷ []) more
          ∙ ap (λ (z : List Word). word_for k ∷ z) (append_assoc (words_of o) before (word ∷ more))

-- words end behind options and what was read behind them, where no command ends so
few_behind : (k : Made) (o : List TargetOption) (before : List Word) → CanBegin AreCommand (word_for k ∷ (words_of o ++ before))
    → ((command : Command) → Goes k o before command → ⊥) → AreWrong (word_for k ∷ (words_of o ++ before)) None
few_behind k o before begins cannot = (begins, λ c. cannot c.0 (goes_on k o before c.0 c.1))

-- where the words go on with the word of an option, that option stands there
package_there : (more : List TargetOption) (rest files : List Word) → pack ∷ rest ≡ words_of more ++ files → AreFiles files
    → (v : Word) × (others : List TargetOption) × (more ≡ Package v ∷ others) × (rest ≡ v ∷ (words_of others ++ files))
package_there [] rest files e are = absurd (no_pack rest files e are)
package_there (Package v ∷ xs) rest files e are = (v, xs, refl, tail_is e)
package_there (Folder v ∷ xs) rest files e are = pack_out (head_is e)

folder_there : (more : List TargetOption) (rest files : List Word) → out ∷ rest ≡ words_of more ++ files → AreFiles files
    → (v : Word) × (others : List TargetOption) × (more ≡ Folder v ∷ others) × (rest ≡ v ∷ (words_of others ++ files))
folder_there [] rest files e are = absurd (no_out rest files e are)
folder_there (Package v ∷ xs) rest files e are = pack_out (sym (head_is e))
folder_there (Folder v ∷ xs) rest files e are = (v, xs, refl, tail_is e)

-- where they go on with another word, only files stand there
abbrev AreOver : List Word → Type 0
AreOver files = ((more : List Word) → files ≡ pack ∷ more → ⊥) × ((more : List Word) → files ≡ out ∷ more → ⊥)

still_over : (before : List Word) (word : Word) (after more : List Word) → AreOver (before ++ word ∷ after) → AreOver (before ++ word ∷ more)
still_over [] word after more (no_package, no_folder) = (
  λ r e. no_package after (ap (λ (w : Word). w ∷ after) (head_is e)),
  λ r e. no_folder after (ap (λ (w : Word). w ∷ after) (head_is e)),
)
still_over (b ∷ bs) word after more (no_package, no_folder) = (
  λ r e. no_package (bs ++ word ∷ after) (ap (λ (w : Word). w ∷ (bs ++ word ∷ after)) (head_is e)),
  λ r e. no_folder (bs ++ word ∷ after) (ap (λ (w : Word). w ∷ (bs ++ word ∷ after)) (head_is e)),
)

only_files : (more : List TargetOption) (rest files : List Word) → rest ≡ words_of more ++ files → AreOver rest → AreFiles files →
    AreFiles rest
only_files [] rest files e over are = subst AreFiles (sym e) are
only_files (Package v ∷ xs) rest files e over are = absurd (over.0 (v ∷ (words_of xs ++ files)) e)
only_files (Folder v ∷ xs) rest files e over are = absurd (over.1 (v ∷ (words_of xs ++ files)) e)

-- nothing stands behind options
pub few_files : (k : Made) (o : List TargetOption) (p d : Option Word) → AreTargets p d o → AreWrong (word_for k ∷ (words_of o ++ [])) None
few_files k o p d h = few_behind k o [] (begins_targets k o p d h)
    (λ command goes. (only_files goes.more [] goes.files goes.words (none_over, none_over) goes.are).0 refl) where
      none_over : {w : Word} → (more : List Word) → ◌≡◌ {A = List Word} [] (w ∷ more) → ⊥
      none_over more e = filled e

-- a word that is no file of a protocol
pub wrong_file : (k : Made) (o : List TargetOption) (p d : Option Word) (files : List Word) (word : Word) → AreTargets p d o → AreOver files
    → IsFirstOther (IsFileOf (codes ".scr")) files (Some word) → AreWrong (word_for k ∷ (words_of o ++ files)) (Some word)
wrong_file k o p d files word h over (before, after, is, each, isnt) =
    subst (λ (z : List Word). AreWrong (word_for k ∷ (words_of o ++ z)) (Some word)) (sym is)
    (wrong_behind k o before word after (begins_files k o p d before h each) (λ command more goes.
    isnt (All-mid (IsFileOf (codes ".scr")) before word more
    (only_files goes.more (before ++ word ∷ more) goes.files goes.words
    (still_over before word after more (subst AreOver is over)) goes.are).1)))

pub lacks_files : (k : Made) (o : List TargetOption) (p d : Option Word) (files : List Word) → AreTargets p d o → length files ≡ 0
    → AreWrong (word_for k ∷ (words_of o ++ files)) None
lacks_files k o p d files h none =
    subst (λ (z : List Word). AreWrong (word_for k ∷ (words_of o ++ z)) None) (sym (empty_is files none)) (few_files k o p d h)

-- options and files are the command
pub are_making : (k : Made) (o : List TargetOption) (p d : Option Word) (files : List Word) → AreTargets p d o →
    eqb (length files) 0 ≡ false
    → All (IsFileOf (codes ".scr")) files → IsCommand (making k p d files) (word_for k ∷ (words_of o ++ files))
are_making k o p d files h some each = making_is k p d files (words_of o ++ files) (o, refl, h, (not_none files some, each)) where
  not_none : (xs : List Word) → eqb (length xs) 0 ≡ false → xs ≢ []
  not_none xs e n = never_both (eqb (length xs) 0) (ap (λ (z : List Word). eqb (length z) 0) n) e

-- ---- words are one such command at most

pub same_making : (k : Made) (command : Command) (package_name folder : Option Word) (files rest : List Word)
    → AreTargetsAndFiles package_name folder files rest → IsCommand command (word_for k ∷ rest) → making k package_name folder files
    ≡ command
same_making k command package_name folder files rest (o, e, how, are) is =
    let goes = goes_on k o files command (subst (λ (z : List Word). IsCommand command (word_for k ∷ z)) e is) in
    go goes.p goes.d goes.more goes.files goes.same goes.words goes.all where
      go : (p d : Option Word) (more : List TargetOption) (files' : List Word) → command ≡ making k p d files' → files ≡ words_of more
          ++ files'
          → AreTargets p d (o ++ more) → making k package_name folder files ≡ command
      go p d [] files' same words all =
          let total : AreTargets p d o = subst (AreTargets p d) (at_end o) all in
          let one : package_name ≡ p = same_value package_name p (sym how.packages ∙ total.packages) in
          let other : folder ≡ d = same_value folder d (sym how.folders ∙ total.folders) in
          (λ i. making k (one i) (other i) (words i)) ∙ sym same
      go p d (x ∷ xs) files' same words all =
          absurd (no_target x (words_of xs ++ files') files
          (sym (words ∙ append_assoc (target_words x) (words_of xs) files')) are)

-- ---- words in the code

-- what an option names, seen through references
abbrev pub seen : Option (Bor Word) → Option Word
seen = option_map (λ w. w.now)

pub begun : (words : List Word) → AreTargeted words None None words
begun words = record { options = []; stand = refl; are = none_targeted }

is_none : (v : Option (Bor Word)) → is_some v ≡ false → seen v ≡ None
is_none None e = refl
is_none (Some w) e = absurd cc

-- a package was read
pub package_at : (words : List Word) (p d : Option (Bor Word)) (rest : List Word) (word value : Word) (behind left : List Word)
    → AreTargeted words (seen p) (seen d) rest → is_some p ≡ false → rest ≡ word ∷ behind → word ≡ pack → behind ≡ value ∷ left
    → IsPackage value → AreTargeted words (Some value) (seen d) left
package_at words p d rest word value behind left h free is name is' packaged = record {
  options = h.options ++ Package value ∷ [];
  stand =
      h.stand ∙ ap (λ (z : List Word). words_of h.options ++ z) (is ∙ (λ i. name i ∷ is' i))
      ∙ sym (append_assoc (words_of h.options) (pack ∷ value ∷ []) left)
      ∙ ap (λ (z : List Word). z ++ left) (sym (words_on h.options (Package value ∷ [])));
  are = with_package h.options (seen d) value
      (subst (λ (z : Option Word). AreTargets z (seen d) h.options) (is_none p free) h.are) packaged;
}

pub folder_at : (words : List Word) (p d : Option (Bor Word)) (rest : List Word) (word value : Word) (behind left : List Word)
    → AreTargeted words (seen p) (seen d) rest → is_some d ≡ false → rest ≡ word ∷ behind → word ≡ out → behind ≡ value ∷ left
    → IsFileName value → AreTargeted words (seen p) (Some value) left
folder_at words p d rest word value behind left h free is name is' placed = record {
  options = h.options ++ Folder value ∷ [];
  stand =
      h.stand ∙ ap (λ (z : List Word). words_of h.options ++ z) (is ∙ (λ i. name i ∷ is' i))
      ∙ sym (append_assoc (words_of h.options) (out ∷ value ∷ []) left)
      ∙ ap (λ (z : List Word). z ++ left) (sym (words_on h.options (Folder value ∷ [])));
  are = with_folder h.options (seen p) value
      (subst (λ (z : Option Word). AreTargets (seen p) z h.options) (is_none d free) h.are) placed;
}

-- an option was named before
taken : {P : Type 0} (v : Option (Bor Word)) → is_some v ≡ true → seen v ≡ None → P
taken None e n = absurd cc
taken (Some w) e n = absurd cc

pub package_twice : (k : Made) (words : List Word) (p d : Option (Bor Word)) (rest : List Word) (word : Word) (behind : List Word)
    → AreTargeted words (seen p) (seen d) rest → is_some p ≡ true → rest ≡ word ∷ behind → word ≡ pack →
    AreWrong (word_for k ∷ words) (Some word)
package_twice k words p d rest word behind h is_there is name =
    subst (λ (z : List Word). AreWrong (word_for k ∷ z) (Some word)) (sym (h.stand ∙ ap (λ (z : List Word). words_of h.options ++ z) is))
    (wrong_behind k h.options [] word behind (begins_targets k h.options (seen p) (seen d) h.are) (λ command more goes.
    let (v, others, at, rest_is) =
    package_there goes.more more goes.files (ap (λ (w : Word). w ∷ more) (sym name) ∙ goes.words) goes.are in
    taken p is_there (package_free h.options others (seen p) goes.p goes.d v h.are.packages
    (subst (λ (z : List TargetOption). AreTargets goes.p goes.d (h.options ++ z)) at goes.all))))

pub folder_twice : (k : Made) (words : List Word) (p d : Option (Bor Word)) (rest : List Word) (word : Word) (behind : List Word)
    → AreTargeted words (seen p) (seen d) rest → is_some d ≡ true → rest ≡ word ∷ behind → word ≡ out →
    AreWrong (word_for k ∷ words) (Some word)
folder_twice k words p d rest word behind h is_there is name =
    subst (λ (z : List Word). AreWrong (word_for k ∷ z) (Some word)) (sym (h.stand ∙ ap (λ (z : List Word). words_of h.options ++ z) is))
    (wrong_behind k h.options [] word behind (begins_targets k h.options (seen p) (seen d) h.are) (λ command more goes.
    let (v, others, at, rest_is) =
    folder_there goes.more more goes.files (ap (λ (w : Word). w ∷ more) (sym name) ∙ goes.words) goes.are in
    taken d is_there (folder_free h.options others (seen d) goes.p goes.d v h.are.folders
    (subst (λ (z : List TargetOption). AreTargets goes.p goes.d (h.options ++ z)) at goes.all))))

-- the value of an option is lacking, or can't be one
module _ (k : Made) (words : List Word) (p d : Option (Bor Word)) (rest : List Word) (word : Word) (behind : List Word)
    (h : AreTargeted words (seen p) (seen d) rest) (is : rest ≡ word ∷ behind) where
  begins_package : is_some p ≡ false → CanBegin AreCommand (word_for k ∷ (words_of h.options ++ pack ∷ []))
  begins_package free =
      begins_option k h.options (Package some_package) (Some some_package) (seen d)
      (with_package h.options (seen d) some_package
      (subst (λ (z : Option Word). AreTargets z (seen d) h.options) (is_none p free) h.are) some_packaged)

  begins_folder : is_some d ≡ false → CanBegin AreCommand (word_for k ∷ (words_of h.options ++ out ∷ []))
  begins_folder free =
      begins_option k h.options (Folder some_class) (seen p) (Some some_class)
      (with_folder h.options (seen p) some_class
      (subst (λ (z : Option Word). AreTargets (seen p) z h.options) (is_none d free) h.are) folder_named)

  pub few_package : is_some p ≡ false → word ≡ pack → length behind ≡ 0 → AreWrong (word_for k ∷ words) None
  few_package free name none =
      subst (λ (z : List Word). AreWrong (word_for k ∷ z) None)
      (sym (h.stand ∙ ap (λ (z : List Word). words_of h.options ++ z) (is ∙ (λ i. name i ∷ empty_is behind none i))))
      (few_behind k h.options (pack ∷ []) (begins_package free) (λ command goes.
      filled (package_there goes.more [] goes.files goes.words goes.are).3))

  pub few_folder : is_some d ≡ false → word ≡ out → length behind ≡ 0 → AreWrong (word_for k ∷ words) None
  few_folder free name none =
      subst (λ (z : List Word). AreWrong (word_for k ∷ z) None)
      (sym (h.stand ∙ ap (λ (z : List Word). words_of h.options ++ z) (is ∙ (λ i. name i ∷ empty_is behind none i))))
      (few_behind k h.options (out ∷ []) (begins_folder free) (λ command goes.
      filled (folder_there goes.more [] goes.files goes.words goes.are).3))

  pub wrong_package : (value : Word) (left : List Word) → is_some p ≡ false → word ≡ pack → behind ≡ value ∷ left → (IsPackage value → ⊥)
      → AreWrong (word_for k ∷ words) (Some value)
  wrong_package value left free name is' isnt =
      subst (λ (z : List Word). AreWrong (word_for k ∷ z) (Some value))
      (sym (h.stand ∙ ap (λ (z : List Word). words_of h.options ++ z) (is ∙ (λ i. name i ∷ is' i))))
      (wrong_behind k h.options (pack ∷ []) value left (begins_package free) (λ command more goes.
      let (v, others, at, rest_is) = package_there goes.more (value ∷ more) goes.files goes.words goes.are in
      let right : IsTarget (Package v) =
      All-mid IsTarget h.options (Package v) others
      (subst (λ (z : List TargetOption). AreTargets goes.p goes.d (h.options ++ z)) at goes.all).right in
      isnt (subst IsPackage (sym (head_is rest_is)) right)))

  pub wrong_folder : (value : Word) (left : List Word) → is_some d ≡ false → word ≡ out → behind ≡ value ∷ left → (IsFileName value → ⊥)
      → AreWrong (word_for k ∷ words) (Some value)
  wrong_folder value left free name is' isnt =
      subst (λ (z : List Word). AreWrong (word_for k ∷ z) (Some value))
      (sym (h.stand ∙ ap (λ (z : List Word). words_of h.options ++ z) (is ∙ (λ i. name i ∷ is' i))))
      (wrong_behind k h.options (out ∷ []) value left (begins_folder free) (λ command more goes.
      let (v, others, at, rest_is) = folder_there goes.more (value ∷ more) goes.files goes.words goes.are in
      let right : IsTarget (Folder v) =
      All-mid IsTarget h.options (Folder v) others
      (subst (λ (z : List TargetOption). AreTargets goes.p goes.d (h.options ++ z)) at goes.all).right in
      isnt (subst IsFileName (sym (head_is rest_is)) right)))

-- the words end behind options
pub end_at : (k : Made) (words : List Word) (p d : Option Word) (rest : List Word) → AreTargeted words p d rest → length rest ≡ 0
    → AreWrong (word_for k ∷ words) None
end_at k words p d rest h none =
    subst (λ (z : List Word). AreWrong (word_for k ∷ z) None)
    (sym (h.stand ∙ ap (λ (z : List Word). words_of h.options ++ z) (empty_is rest none))) (few_files k h.options p d h.are)

pub other_word : (rest : List Word) (word other : Word) (behind : List Word) → rest ≡ word ∷ behind → (word ≡ other → ⊥)
    → (more : List Word) → rest ≡ other ∷ more → ⊥
other_word rest word other behind is isnt more e = isnt (head_is (sym is ∙ e))
