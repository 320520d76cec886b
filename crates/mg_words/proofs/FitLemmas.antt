-- Which words are the command `fit`, and which can't follow.
use Rattle.std.proofs.Common.{◌≡◌, ◌≢◌, ◌<◌, ◌≤◌, ◌+◌, ◌^◌, List, [], ◌∷◌, ◌++◌, All, length, Some, None, codes, refl, sym, ap, ◌∙◌, subst}
use Rattle.std.proofs.Common.{arith, append_assoc}
use Rattle.std.specs.Prelude.{Contains, flat_map}
use Rattle.std.specs.List.{IsDistinct}
use Rattle.std.specs.Str.{bytes_eq}
use Rattle.std.proofs.lemmas.Grind.{flat_map-append}
use Rattle.std.proofs.lemmas.List.{length-map}
use Rattle.std.proofs.lemmas.Map.Keys.{IsDistinct-from_apart}
use Rattle.scr_tree.specs.Words.{IsName}
use Rattle.mg_sources.specs.Files.{HaveKinds}
use Rattle.mg_words.specs.Words.{Word, RoleClass, role_names, Command, Fit, IsFileOf, IsSourceName, AreSourceNames, AreGlobalAndSources}
use Rattle.mg_words.specs.Words.{role_words, HasNames, AreCast, IsBehind, IsCommand, AreCommand, CanBegin, AreWrong}
use Rattle.mg_words.specs.inner.Judging.{role_read, roles_in, IsFirstOther, CanBeNamed}
use Rattle.mg_words.proofs.Verbs.{fit, mark}
use Rattle.mg_words.proofs.WordsLemmas.{head_is, tail_is, filled, nothing_behind, pushed_filled, All-first, All-rest, All-push, All-mid}
use Rattle.mg_words.proofs.WordsLemmas.{none_yet, some_source, named, source_named, some_class, classed, first_wrong, have_kinds}
use Rattle.mg_words.proofs.NameLemmas.{starts_on, names_on, distinct_push, before_differs, free_name}
use Rattle.mg_words.proofs.RoleLemmas.{role_in_word, passed, name_no_role}
use Rattle.mg_words.proofs.OptionLemmas.{at_end}

abbrev pub role_option : Word
role_option = codes "--role"

abbrev pub words_of : List RoleClass → List Word
words_of = flat_map role_words

-- ---- the words of roles

pub words_on : (a b : List RoleClass) → words_of (a ++ b) ≡ words_of a ++ words_of b
words_on = flat_map-append role_words

-- words that name the same role
same_role : (v w : RoleClass) → IsName v.role → IsName w.role → v.role ++ 61 ∷ v.class ≡ w.role ++ 61 ∷ w.class → v ≡ w
same_role v w h k e = sym (role_in_word v h) ∙ ap role_read e ∙ role_in_word w k

-- the option is no file
pub no_global : (rest files : List Word) → role_option ∷ rest ≡ files → AreGlobalAndSources files → ⊥
no_global rest files e h =
    let first : IsFileOf (codes ".scr") role_option = subst (IsFileOf (codes ".scr")) (sym (head_is (e ∙ h.stand))) h.scribble in first.0 refl

-- the roles that words name are those whose words they are
pub roles_are : (roles : List RoleClass) → All HasNames roles → roles_in (words_of roles) ≡ roles
roles_are [] right = refl
roles_are (r ∷ rs) right =
    let is = All-first HasNames r rs right in
    (λ i. role_in_word r is.0 i ∷ passed (r.role ++ 61 ∷ r.class) (words_of rs) rs (no_role r is.0)
    (roles_are rs (All-rest HasNames r rs right)) i) where
      no_role : (r : RoleClass) → IsName r.role → r.role ++ 61 ∷ r.class ≡ role_option → ⊥
      no_role r h = name_no_role (r.role ++ 61 ∷ r.class) (starts_on r.role (61 ∷ r.class) h.starts)

pub few_words : (roles : List RoleClass) → length roles + length roles ≤ length (words_of roles)
few_words [] = omega arith
few_words (r ∷ rs) = let k = few_words rs in omega arith

-- ---- roles that differ

pub none_distinct : IsDistinct bytes_eq (role_names [])
none_distinct = IsDistinct-from_apart bytes_eq [] (λ i k d less within. absurd (omega arith))

-- roles behind which more may be named
pub record AreRoles (roles : List RoleClass) : Type 0 where
  pub right : All HasNames roles
  pub distinct : IsDistinct bytes_eq (role_names roles)

one_more : (roles : List RoleClass) (r : RoleClass) → AreRoles roles → HasNames r → (Contains (role_names roles) r.role → ⊥)
    → AreRoles (roles ++ r ∷ [])
one_more roles r h is new = record { right = All-push HasNames roles r h.right is; distinct = distinct_push roles r h.distinct new }

cast_of_some : (roles : List RoleClass) → AreRoles roles → roles ≢ [] → AreCast roles
cast_of_some roles h some = record { some = some; named = h.right; distinct = h.distinct }

pushed_some : (roles : List RoleClass) (r : RoleClass) → roles ++ r ∷ [] ≢ []
pushed_some [] r = λ e. cc
pushed_some (x ∷ xs) r = λ e. cc

-- a role that is none of these
another : (roles : List RoleClass) → length roles < 2 ^ 63 → (r : RoleClass) × HasNames r × (Contains (role_names roles) r.role → ⊥)
another roles few =
    let short : length (role_names roles) < 2 ^ 63 = omega (arith, length-map roles (λ (r : RoleClass). r.role)) in
    let (name, is, new) = free_name (role_names roles) short in
    (record { role = name; class = some_class }, (is, classed), new)

-- ---- what can begin the command

-- a cast, a global protocol and sources can be followed by a source
begins_sources : (roles : List RoleClass) (global : Word) (before : List Word) → AreCast roles → IsFileOf (codes ".scr") global
    → All IsSourceName before → CanBegin AreCommand (fit ∷ (words_of roles ++ global ∷ before))
begins_sources roles global before cast h each = (
  some_source ∷ [],
  (
    Fit roles (global ∷ (before ++ some_source ∷ [])),
    (
      (words_of roles ++ global ∷ before) ++ some_source ∷ [],
      refl,
      (
        append_assoc (words_of roles) (global ∷ before) (some_source ∷ []),
        cast,
        record {
          global = global;
          sources = before ++ some_source ∷ [];
          stand = refl;
          scribble = h;
          are = (pushed_filled before some_source, All-push IsSourceName before some_source each source_named);
        },
      ),
    ),
  ),
)

-- what can begin with more words can with fewer
begins_sooner : (ws more : List Word) → CanBegin AreCommand (fit ∷ (ws ++ more)) → CanBegin AreCommand (fit ∷ ws)
begins_sooner ws more (rest, (command, is)) =
    (more ++ rest, (command, subst (IsCommand command) (ap (λ (z : List Word). fit ∷ z) (append_assoc ws more rest)) is))

begins_cast : (roles : List RoleClass) → AreCast roles → CanBegin AreCommand (fit ∷ words_of roles)
begins_cast roles cast = begins_sooner (words_of roles) (some_source ∷ []) (begins_sources roles some_source [] cast named (none_yet IsSourceName))

-- roles can be followed by the option of another
pub begins_option : (roles : List RoleClass) → AreRoles roles → length roles < 2 ^ 63 → CanBegin AreCommand (fit ∷ (words_of roles ++ role_option ∷ []))
begins_option roles h few =
    let (r, is, new) = another roles few in
    let all : CanBegin AreCommand (fit ∷ words_of (roles ++ r ∷ [])) =
    begins_cast (roles ++ r ∷ []) (cast_of_some (roles ++ r ∷ []) (one_more roles r h is new) (pushed_some roles r)) in
    let same : words_of (roles ++ r ∷ []) ≡ (words_of roles ++ role_option ∷ []) ++ (r.role ++ 61 ∷ r.class) ∷ [] =
    words_on roles (r ∷ []) ∙ sym (append_assoc (words_of roles) (role_option ∷ []) ((r.role ++ 61 ∷ r.class) ∷ [])) in
    begins_sooner (words_of roles ++ role_option ∷ []) ((r.role ++ 61 ∷ r.class) ∷ [])
    (subst (λ (z : List Word). CanBegin AreCommand (fit ∷ z)) same all)

begins_fit : CanBegin AreCommand (fit ∷ [])
begins_fit = begins_sooner [] (role_option ∷ []) (begins_option [] (record { right = none_yet HasNames; distinct = none_distinct }) (omega arith))

begins_roles : (roles : List RoleClass) → AreRoles roles → CanBegin AreCommand (fit ∷ words_of roles)
begins_roles [] h = begins_fit
begins_roles (r ∷ rs) h = begins_cast (r ∷ rs) (cast_of_some (r ∷ rs) h (λ e. cc))

-- ---- what stands behind the word

pub is_fit : (command : Command) (rest : List Word) → IsCommand command (fit ∷ rest)
    → (roles : List RoleClass) × (files : List Word) × (command ≡ Fit roles files) × IsBehind (Fit roles files) rest
is_fit (Fit roles files) rest (r, e, b) = (roles, files, refl, subst (IsBehind (Fit roles files)) (sym (tail_is e)) b)
is_fit other rest (r, e, b) = absurd (omega (arith, ap mark (head_is e)))

-- behind roles that were read stand further roles, and files
record Left (roles : List RoleClass) (rest : List Word) (cast : List RoleClass) (files : List Word) : Type 0 where
  more : List RoleClass
  all : cast ≡ roles ++ more
  words : rest ≡ words_of more ++ files

left_of : (roles cast : List RoleClass) (rest files : List Word) → All HasNames roles → All HasNames cast → AreGlobalAndSources files
    → words_of roles ++ rest ≡ words_of cast ++ files → Left roles rest cast files
left_of [] cast rest files right right' are e = record { more = cast; all = refl; words = e }
left_of (x ∷ xs) [] rest files right right' are e = absurd (no_global ((x.role ++ 61 ∷ x.class) ∷ (words_of xs ++ rest)) files e are)
left_of (x ∷ xs) (y ∷ ys) rest files right right' are e =
    let one : x ≡ y =
    same_role x y (All-first HasNames x xs right).0 (All-first HasNames y ys right').0 (head_is (tail_is e)) in
    let left = left_of xs ys rest files (All-rest HasNames x xs right) (All-rest HasNames y ys right') are (tail_is (tail_is e)) in
    record { more = left.more; all = (λ i. sym one i ∷ left.all i); words = left.words }

-- a command that begins with roles that were read
pub record Goes (roles : List RoleClass) (rest : List Word) (command : Command) : Type 0 where
  pub files : List Word
  pub more : List RoleClass
  pub same : command ≡ Fit (roles ++ more) files
  pub words : rest ≡ words_of more ++ files
  pub cast : AreCast (roles ++ more)
  pub are : AreGlobalAndSources files

goes_on : (roles : List RoleClass) (rest : List Word) (command : Command) → All HasNames roles
    → IsCommand command (fit ∷ (words_of roles ++ rest)) → Goes roles rest command
goes_on roles rest command right is =
    let (cast, files, same, (e, how, are)) = is_fit command (words_of roles ++ rest) is in
    let left = left_of roles cast rest files right how.named are e in
    record {
      files = files;
      more = left.more;
      same = same ∙ ap (λ (z : List RoleClass). Fit z files) left.all;
      words = left.words;
      cast = subst AreCast left.all how;
      are = are;
    }

split : (roles : List RoleClass) (before : List Word) (word : Word) (more : List Word)
    → ((fit ∷ (words_of roles ++ before)) ++ word ∷ []) ++ more ≡ fit ∷ (words_of roles ++ (before ++ word ∷ more))
split roles before word more =
    append_assoc (fit ∷ (words_of roles ++ before)) (word ∷ []) more
    ∙ ap (λ (z : List Word). fit ∷ z) (append_assoc (words_of roles) before (word ∷ more))

-- ---- what is judged

-- a word can't stand behind roles and what was read behind them, where no command goes on so
pub wrong_behind : (roles : List RoleClass) (before : List Word) (word : Word) (after : List Word) → All HasNames roles
    → CanBegin AreCommand (fit ∷ (words_of roles ++ before))
    → ((command : Command) (more : List Word) → Goes roles (before ++ word ∷ more) command → ⊥)
    → AreWrong (fit ∷ (words_of roles ++ (before ++ word ∷ after))) (Some word)
wrong_behind roles before word after right begins cannot =
    subst (λ (z : List Word). AreWrong (fit ∷ z) (Some word)) (append_assoc (words_of roles) before (word ∷ after))
    (first_wrong (fit ∷ (words_of roles ++ before)) word after begins (λ b.
    cannot b.1.0 b.0 (goes_on roles (before ++ word ∷ b.0) b.1.0 right (subst (IsCommand b.1.0) (split roles before word b.0) b.1.1))))

-- words end behind roles and what was read behind them, where no command ends so
pub few_behind : (roles : List RoleClass) (before : List Word) → All HasNames roles → CanBegin AreCommand (fit ∷ (words_of roles ++ before))
    → ((command : Command) → Goes roles before command → ⊥) → AreWrong (fit ∷ (words_of roles ++ before)) None
few_behind roles before right begins cannot = (begins, λ k. cannot k.0 (goes_on roles before k.0 right k.1))

-- the words go on with the option of a role
pub with_value : (roles more : List RoleClass) (value : Word) (rest files : List Word) → role_option ∷ value ∷ rest ≡ words_of more ++ files
    → AreGlobalAndSources files → AreCast (roles ++ more) → CanBeNamed (role_names roles) value
with_value roles [] value rest files e are cast = absurd (no_global (value ∷ rest) files e are)
with_value roles (r ∷ rs) value rest files e are cast = subst (λ (z : Word). CanBeNamed (role_names roles) z) (sym (head_is (tail_is e)))
    (subst (λ (z : RoleClass). HasNames z × (Contains (role_names roles) z.role → ⊥)) (sym (role_in_word r is.0))
    (is, before_differs (role_names roles) r.role (role_names rs) (subst (IsDistinct bytes_eq) (names_on roles (r ∷ rs)) cast.distinct)))
  where
    is : HasNames r
    is = All-mid HasNames roles r rs cast.named

-- the words go on with a file
no_more : (more : List RoleClass) (word : Word) (after rest files : List Word) → word ∷ rest ≡ words_of more ++ files
    → ((r : List Word) → word ∷ after ≡ role_option ∷ r → ⊥) → more ≡ []
no_more [] word after rest files e plain = refl
no_more (r ∷ rs) word after rest files e plain = absurd (plain after (ap (λ (w : Word). w ∷ after) (head_is e)))

-- what stands there is a global protocol and sources
files_are : (more : List RoleClass) (word : Word) (after rest files : List Word) → word ∷ rest ≡ words_of more ++ files
    → ((r : List Word) → word ∷ after ≡ role_option ∷ r → ⊥) → AreGlobalAndSources files → AreGlobalAndSources (word ∷ rest)
files_are [] word after rest files e plain are = subst AreGlobalAndSources (sym e) are
files_are (r ∷ rs) word after rest files e plain are = absurd (plain after (ap (λ (w : Word). w ∷ after) (head_is e)))

first_is : (word : Word) (rest : List Word) → AreGlobalAndSources (word ∷ rest) → IsFileOf (codes ".scr") word × AreSourceNames rest
first_is word rest are =
    (subst (IsFileOf (codes ".scr")) (sym (head_is are.stand)) are.scribble, subst AreSourceNames (sym (tail_is are.stand)) are.are)

-- nothing stands behind roles
pub few_files : (roles : List RoleClass) → All HasNames roles → IsDistinct bytes_eq (role_names roles)
    → AreWrong (fit ∷ (words_of roles ++ [])) None
few_files roles right distinct =
    few_behind roles [] right
    (subst (λ (z : List Word). CanBegin AreCommand (fit ∷ z)) (sym (nothing_behind (words_of roles)))
    (begins_roles roles (record { right = right; distinct = distinct })))
    (λ command goes. cannot goes.more goes.files goes.words goes.are) where
      cannot : (more : List RoleClass) (files : List Word) → [] ≡ words_of more ++ files → AreGlobalAndSources files → ⊥
      cannot [] files e are = filled (e ∙ are.stand)
      cannot (r ∷ rs) files e are = filled e

-- a file, where no role was named
pub no_roles : (word : Word) (after : List Word) → ((r : List Word) → word ∷ after ≡ role_option ∷ r → ⊥) → AreWrong (fit ∷ word ∷ after) (Some word)
no_roles word after plain =
    wrong_behind [] [] word after (none_yet HasNames) begins_fit
    (λ command more goes. goes.cast.some (no_more goes.more word after more goes.files goes.words plain))

begins_global : (roles : List RoleClass) → AreRoles roles → CanBegin AreCommand (fit ∷ (words_of roles ++ []))
begins_global roles h = subst (λ (z : List Word). CanBegin AreCommand (fit ∷ z)) (sym (nothing_behind (words_of roles))) (begins_roles roles h)

-- a word that is no file of a protocol
pub wrong_global : (roles : List RoleClass) (word : Word) (after : List Word) → All HasNames roles → IsDistinct bytes_eq (role_names roles)
    → ((r : List Word) → word ∷ after ≡ role_option ∷ r → ⊥) → (IsFileOf (codes ".scr") word → ⊥)
    → AreWrong (fit ∷ (words_of roles ++ word ∷ after)) (Some word)
wrong_global roles word after right distinct plain isnt =
    wrong_behind roles [] word after right (begins_global roles (record { right = right; distinct = distinct })) (λ command more goes.
    isnt (first_is word more (files_are goes.more word after more goes.files goes.words plain goes.are)).0)

-- sources are lacking
pub few_sources : (roles : List RoleClass) (global : Word) → roles ≢ [] → All HasNames roles → IsDistinct bytes_eq (role_names roles)
    → ((r : List Word) → global ∷ [] ≡ role_option ∷ r → ⊥) → IsFileOf (codes ".scr") global
    → AreWrong (fit ∷ (words_of roles ++ global ∷ [])) None
few_sources roles global some right distinct plain h =
    few_behind roles (global ∷ []) right
    (begins_sources roles global [] (record { some = some; named = right; distinct = distinct }) h (none_yet IsSourceName))
    (λ command goes. (first_is global [] (files_are goes.more global [] [] goes.files goes.words plain goes.are)).1.0 refl)

-- a word that is no file of a program
pub wrong_source : (roles : List RoleClass) (global : Word) (files : List Word) (word : Word) → roles ≢ [] → All HasNames roles
    → IsDistinct bytes_eq (role_names roles) → ((r : List Word) → global ∷ files ≡ role_option ∷ r → ⊥) → IsFileOf (codes ".scr") global
    → IsFirstOther IsSourceName files (Some word) → AreWrong (fit ∷ (words_of roles ++ global ∷ files)) (Some word)
wrong_source roles global files word some right distinct plain h (before, after, stands, each, isnt) =
    subst (λ (z : List Word). AreWrong (fit ∷ (words_of roles ++ global ∷ z)) (Some word)) (sym stands)
    (wrong_behind roles (global ∷ before) word after right
    (begins_sources roles global before (record { some = some; named = right; distinct = distinct }) h each)
    (λ command more goes. isnt (All-mid IsSourceName before word more
    (first_is global (before ++ word ∷ more)
    (files_are goes.more global files (before ++ word ∷ more) goes.files goes.words plain goes.are)).1.1)))

-- a cast, a global protocol and sources are the command
pub are_fit : (roles : List RoleClass) (global : Word) (sources : List Word) → roles ≢ [] → All HasNames roles
    → IsDistinct bytes_eq (role_names roles) → IsFileOf (codes ".scr") global → AreSourceNames sources
    → IsCommand (Fit roles (global ∷ sources)) (fit ∷ (words_of roles ++ global ∷ sources))
are_fit roles global sources some right distinct h are = (
  words_of roles ++ global ∷ sources,
  refl,
  (
    refl,
    record { some = some; named = right; distinct = distinct },
    record { global = global; sources = sources; stand = refl; scribble = h; are = are },
  ),
)

-- words are one such command at most
pub same_fit : (command : Command) (roles : List RoleClass) (files rest : List Word) → IsBehind (Fit roles files) rest
    → IsCommand command (fit ∷ rest) → Fit roles files ≡ command
same_fit command roles files rest (e, cast, are) is =
    let goes = goes_on roles files command cast.named (subst (λ (z : List Word). IsCommand command (fit ∷ z)) e is) in
    go goes.more goes.files goes.same goes.words where
      go : (more : List RoleClass) (files' : List Word) → command ≡ Fit (roles ++ more) files' → files ≡ words_of more ++ files'
          → Fit roles files ≡ command
      go [] files' same words = (λ i. Fit (sym (at_end roles) i) (words i)) ∙ sym same
      go (r ∷ rs) files' same words = absurd (no_global ((r.role ++ 61 ∷ r.class) ∷ (words_of rs ++ files')) files (sym words) are)

-- the files of the command
pub fit_files : (words : List Word) (roles : List RoleClass) (files : List Word) → IsCommand (Fit roles files) words
    → AreGlobalAndSources files
fit_files words roles files (rest, e, (behind, cast, are)) = are

-- those behind the first are a program's
pub kinds_behind : (files : List Word) (name : Word) (rest : List Word) → AreGlobalAndSources files → files ≡ name ∷ rest → HaveKinds rest
kinds_behind files name rest are is = have_kinds rest (subst AreSourceNames (tail_is (sym are.stand ∙ is)) are.are)
