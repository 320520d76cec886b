-- The words of `run` and `exec`: what options were read, which can follow, and which can't.
use Rattle.std.proofs.Common.{◌≡◌, ◌≢◌, ◌⊎◌, inl, inr, List, [], ◌∷◌, ◌++◌, All, get_or, Option, Some, None, Bool, true, false, refl, sym}
use Rattle.std.proofs.Common.{ap, ◌∙◌, subst, append_assoc}
use Rattle.std.specs.Prelude.{Contains, IfSome, option_to_list}
use Rattle.std.proofs.lemmas.Grind.{flat_map-append}
use Rattle.std.proofs.lemmas.List.Elements.{Contains-get_or, Contains-append_left, Contains-append_right}
use Rattle.scr_tree.specs.Words.{IsName}
use Rattle.mg_words.specs.declared.runs.Input.{Input}
use Rattle.mg_words.specs.declared.runs.Input.TheVariants as input
use Rattle.mg_words.specs.declared.options.Named.{Named}
use Rattle.mg_words.specs.declared.options.Named.TheVariants as named
use Rattle.mg_words.specs.Words.{Word, RoleClass, Roles, Alone, Several, role_names, Command, Translate, Client, Conform, Check, Compile}
use Rattle.mg_words.specs.Words.{Run, Exec}
use Rattle.mg_words.specs.Words.{Refine, Project, Load, Verify, Fit, Show, Asked, RunOption, Main, Role, Order, Steps, Trace, Out, option_words}
use Rattle.mg_words.specs.Words.{IsOption}
use Rattle.mg_words.specs.Words.{AreOptions, IsCommand, AreCommand, CanBegin, AreWrong}
use Rattle.mg_words.specs.inner.Judging.{IsFirstOther, has_name, AreGiven, word_of, kind_of, IsPlain, IsNewRole, Fits, IsNoValue}
use Rattle.mg_words.specs.inner.Judging.{can_follow, are_whole, roles_more, with_more, made, verb_of, IsFor, AreFor, Keeps, is_barred}
use Rattle.mg_words.proofs.WordsLemmas.{head_is, tail_is, filled, nothing_behind, All-first, All-rest, All-push, All-mid, none_yet}
use Rattle.mg_words.proofs.WordsLemmas.{some_for, for_named, some_class, classed, pushed_filled, IsRunBehind, is_run, run_is, first_wrong}
use Rattle.mg_words.proofs.WordsLemmas.{same_conform, same_compile}
use Rattle.mg_words.proofs.CheckLemmas.{same_check, same_show}
use Rattle.mg_words.specs.declared.targets.Made.TheVariants as kinds
use Rattle.mg_words.proofs.TranslateLemmas.{same_making}
use Rattle.mg_words.proofs.RefineLemmas.{same_refine}
use Rattle.mg_words.proofs.ProjectLemmas.{same_project}
use Rattle.mg_words.proofs.LoadLemmas.{same_load}
use Rattle.mg_words.proofs.VerifyLemmas.{same_verify}
use Rattle.mg_words.proofs.FitLemmas.{same_fit}
use Rattle.mg_words.proofs.NameLemmas.{here, one_of, in_none, has_is, is_has, have_all, never_both, All-itself, names_push}
use Rattle.mg_words.proofs.RoleLemmas.{words_of}
use Rattle.mg_words.proofs.OptionLemmas.{AreAll, values_of, begins_with, same_kind, same_option, no_word, no_option, at_end, given_more}
use Rattle.mg_words.proofs.OptionLemmas.{must_fit, keeps_more, keeps_main, keeps_role, not_barred}
use Rattle.mg_words.proofs.FollowLemmas.{order_right, whole_all, all_given, all_whole, given_one, CanFollow, fits_follow}

-- ---- options behind options

-- what stands behind options that were read: further options, and files
record Left (o : List RunOption) (rest : List Word) (order : List RunOption) (files : List Word) : Type 0 where
  more : List RunOption
  all : order ≡ o ++ more
  words : rest ≡ words_of more ++ files

left_of : (k : Input) (o order : List RunOption) (rest files : List Word) → All IsOption o → All IsOption order → AreFor k files
    → words_of o ++ rest ≡ words_of order ++ files → Left o rest order files
left_of k [] order rest files right right' are e = record { more = order; all = refl; words = e }
left_of k (x ∷ xs) [] rest files right right' are e =
    absurd (no_option k x (words_of xs ++ rest) files (sym (append_assoc (option_words x) (words_of xs) rest) ∙ e) are)
left_of k (x ∷ xs) (y ∷ ys) rest files right right' are e =
    let e' : option_words x ++ (words_of xs ++ rest) ≡ option_words y ++ (words_of ys ++ files) =
    sym (append_assoc (option_words x) (words_of xs) rest) ∙ e ∙ append_assoc (option_words y) (words_of ys) files in
    let (one, others) =
    same_option x y (words_of xs ++ rest) (words_of ys ++ files) (All-first IsOption x xs right) (All-first IsOption y ys right') e' in
    let left = left_of k xs ys rest files (All-rest IsOption x xs right) (All-rest IsOption y ys right') are others in
    record { more = left.more; all = (λ i. sym one i ∷ left.all i); words = left.words }

-- the same of a command that begins with such options
record Goes (k : Input) (o : List RunOption) (rest : List Word) (command : Command) : Type 0 where
  asked : Asked
  files : List Word
  more : List RunOption
  same : command ≡ made k asked files
  words : rest ≡ words_of more ++ files
  sources : AreFor k files
  keeps : Keeps k asked.folder
  all : AreAll (o ++ more) asked

pub all_of : (asked : Asked) (words : List Word) (how : AreOptions asked words) → AreAll how.options asked
all_of asked words how = record {
  right = how.right;
  roles = how.roles;
  order = how.order;
  steps = how.steps;
  traced = how.traced;
  folder = how.folder;
}

pub flat_push : (o : List RunOption) (x : RunOption) → words_of (o ++ x ∷ []) ≡ words_of o ++ option_words x
flat_push o x = flat_map-append option_words o (x ∷ []) ∙ ap (λ (z : List Word). words_of o ++ z) (nothing_behind (option_words x))

module _ (ran : Input) where
  abbrev run : Word
  run = verb_of ran

  goes_on : (o : List RunOption) (rest : List Word) (command : Command) → All IsOption o
      → IsCommand command (run ∷ (words_of o ++ rest)) → Goes ran o rest command
  goes_on o rest command right is =
      let (asked, files, same, (options, e, how, keeps, are)) = is_run ran command (words_of o ++ rest) is in
      let left = left_of ran o how.options rest files right how.right are (e ∙ ap (λ (z : List Word). z ++ files) how.written) in
      record {
        asked = asked;
        files = files;
        more = left.more;
        same = same;
        words = left.words;
        sources = are;
        keeps = keeps;
        all = subst (λ (z : List RunOption). AreAll z asked) left.all (all_of asked options how);
      }

  -- ---- what can begin `run`

  pub runnable : (o : List RunOption) (a : Asked) (files : List Word) → AreAll o a → Keeps ran a.folder → AreFor ran files
      → IsCommand (made ran a files) (run ∷ (words_of o ++ files))
  runnable o a files w keeps are = run_is ran a files (words_of o ++ files) (
    words_of o,
    refl,
    record {
      options = o;
      written = refl;
      right = w.right;
      roles = w.roles;
      order = w.order;
      steps = w.steps;
      traced = w.traced;
      folder = w.folder;
    },
    keeps,
    are,
  )

  -- options and files can be followed by a file
  begins_run : (o : List RunOption) (a : Asked) (files : List Word) → AreAll o a → Keeps ran a.folder → All (IsFor ran) files
      → CanBegin AreCommand (run ∷ (words_of o ++ files))
  begins_run o a files w keeps each = (
    some_for ran ∷ [],
    (
      made ran a (files ++ some_for ran ∷ []),
      subst (IsCommand (made ran a (files ++ some_for ran ∷ [])))
          (ap (λ (z : List Word). run ∷ z) (sym (append_assoc (words_of o) files (some_for ran ∷ []))))
          (runnable o a (files ++ some_for ran ∷ []) w keeps
          (pushed_filled files (some_for ran), All-push (IsFor ran) files (some_for ran) each (for_named ran))),
    ),
  )

  -- what can begin with more words can with fewer
  begins_sooner : (ws more : List Word) → CanBegin AreCommand (run ∷ (ws ++ more)) → CanBegin AreCommand (run ∷ ws)
  begins_sooner ws more (rest, (command, is)) =
      (more ++ rest, (command, subst (IsCommand command) (ap (λ (z : List Word). run ∷ z) (append_assoc ws more rest)) is))

  begins_all : (o : List RunOption) (a : Asked) → AreAll o a → Keeps ran a.folder → CanBegin AreCommand (run ∷ words_of o)
  begins_all o a w keeps = begins_sooner (words_of o) [] (begins_run o a [] w keeps (none_yet (IsFor ran)))

  begins_before : (o : List RunOption) (x : RunOption) → CanBegin AreCommand (run ∷ words_of (o ++ x ∷ []))
      → CanBegin AreCommand (run ∷ words_of o)
  begins_before o x b =
      begins_sooner (words_of o) (option_words x) (subst (λ (z : List Word). CanBegin AreCommand (run ∷ z)) (flat_push o x) b)

  decided : (t : Bool) → (t ≡ true) ⊎ (t ≡ false)
  decided true = inl refl
  decided false = inr refl

  all_by : (P : Word → Type 0) (names : List Word) → ((n : Word) → Contains names n → P n) → All P names
  all_by P names h k d lt = h (get_or names k d) (Contains-get_or names k d lt)

  -- the role of this name, with some class
  abbrev role_of : Word → RoleClass
  role_of name = record { role = name; class = some_class }

  -- this name is known to be among the roles, so the others are what is left
  fewer : (rs : List RoleClass) (n : Word) (ns : List Word) (m : Word) → Contains (role_names rs) n
      → Contains (role_names rs) m ⊎ Contains (n ∷ ns) m → Contains (role_names rs) m ⊎ Contains ns m
  fewer rs n ns m known (inl h) = inl h
  fewer rs n ns m known (inr h) = go (one_of n ns m h) where
    go : (n ≡ m) ⊎ Contains ns m → Contains (role_names rs) m ⊎ Contains ns m
    go (inl e) = inl (subst (Contains (role_names rs)) e known)
    go (inr k) = inr k

  with_it : (rs : List RoleClass) (n : Word) (ns : List Word) (m : Word)
      → Contains (role_names rs) m ⊎ Contains (n ∷ ns) m
      → Contains (role_names (rs ++ role_of n ∷ [])) m ⊎ Contains (n ∷ ns) m
  with_it rs n ns m (inl h) =
      inl (subst (λ (z : List Word). Contains z m) (sym (names_push rs (role_of n))) (Contains-append_left (role_names rs) (n ∷ []) m h))
  with_it rs n ns m (inr h) = inr h

  it_is : (rs : List RoleClass) (n : Word) → Contains (role_names (rs ++ role_of n ∷ [])) n
  it_is rs n =
      subst (λ (z : List Word). Contains z n) (sym (names_push rs (role_of n))) (Contains-append_right (role_names rs) (n ∷ []) n
      (here n []))

  -- a role that an order names can follow where it wasn't named yet
  wanted_fits : (a : Asked) (rs : List RoleClass) (names : List Word) (n : Word) → a.roles ≡ Several rs → a.order ≡ Some names → IsName n
      → Contains names n → (Contains (role_names rs) n → ⊥) → Fits (Role (role_of n)) a
  wanted_fits a rs names n is ordered name wanted new = (
    (name, classed),
    (
      subst (λ (z : Roles). IsNewRole z n) (sym is) new,
      subst (λ (z : Option (List Word)). IfSome z (λ names. Contains names n)) (sym ordered) wanted,
    ),
  )

  -- the roles that an order names and that weren't named yet can follow
  begins_named : (todo : List Word) (o : List RunOption) (a : Asked) (rs : List RoleClass) (names : List Word) → AreGiven o a
      → a.roles ≡ Several rs → a.order ≡ Some names → All IsName todo → All (Contains names) todo
      → ((m : Word) → Contains names m → Contains (role_names rs) m ⊎ Contains todo m) → Keeps ran a.folder →
      CanBegin AreCommand (run ∷ words_of o)
  begins_named [] o a rs names h is ordered named wanted each keeps = begins_all o a (whole_all o a h whole) keeps where
    found : (m : Word) → Contains (role_names rs) m ⊎ Contains [] m → Contains (role_names rs) m
    found m (inl k) = k
    found m (inr k) = absurd (in_none m k)

    whole : are_whole a.roles a.order ≡ true
    whole =
        (λ i. are_whole (is i) (ordered i))
        ∙ have_all (role_names rs) names (all_by (Contains (role_names rs)) names (λ m k. found m (each m k)))
  begins_named (n ∷ ns) o a rs names h is ordered named wanted each keeps = elim (decided (has_name (role_names rs) n)) [
    | inl e ↦ begins_named ns o a rs names h is ordered (All-rest IsName n ns named) (All-rest (Contains names) n ns wanted)
        (λ m k. fewer rs n ns m (has_is (role_names rs) n e) (each m k)) keeps
    | inr e ↦ begins_before o (Role (role_of n))
        (begins_named ns (o ++ Role (role_of n) ∷ []) (with_more (Role (role_of n)) a) (rs ++ role_of n ∷ []) names
        (given_more o a (Role (role_of n)) h
        (wanted_fits a rs names n is ordered (All-first IsName n ns named) (All-first (Contains names) n ns wanted)
        (λ k. never_both (has_name (role_names rs) n) (is_has (role_names rs) n k) e)))
        (ap (λ (z : Roles). roles_more z (role_of n)) is) ordered (All-rest IsName n ns named) (All-rest (Contains names) n ns wanted)
        (λ m k. fewer (rs ++ role_of n ∷ []) n ns m (it_is rs n) (with_it rs n ns m (each m k))) (keeps_role ran (role_of n) a keeps))
  ]

  pub begins_options : (o : List RunOption) (a : Asked) → AreGiven o a → Keeps ran a.folder → CanBegin AreCommand (run ∷ words_of o)
  begins_options o a h keeps = go (decided (are_whole a.roles a.order)) where
    lacks : (roles : Roles) (order : Option (List Word)) → a.roles ≡ roles → a.order ≡ order → are_whole roles order ≡ false
        → CanBegin AreCommand (run ∷ words_of o)
    lacks (Alone c) order is ordered e = absurd cc
    lacks (Several []) None is ordered e =
        begins_before o (Main some_class) (begins_all (o ++ Main some_class ∷ []) (with_more (Main some_class) a)
        (whole_all (o ++ Main some_class ∷ []) (with_more (Main some_class) a)
        (given_more o a (Main some_class) h (classed, (is, ordered))) refl) (keeps_main ran some_class a keeps))
    lacks (Several (r ∷ rs)) None is ordered e = absurd cc
    lacks (Several rs) (Some names) is ordered e =
        let right = order_right o names h.right (h.order ∙ ap option_to_list ordered) in
        begins_named names o a rs names h is ordered right.1 (All-itself names) (λ m k. inr k) keeps

    go : (are_whole a.roles a.order ≡ true) ⊎ (are_whole a.roles a.order ≡ false) → CanBegin AreCommand (run ∷ words_of o)
    go (inl e) = begins_all o a (whole_all o a h e) keeps
    go (inr e) = lacks a.roles a.order refl refl e

  -- an option that fits can follow
  begins_word : (o : List RunOption) (a : Asked) (option : Named) (word : Word) → AreGiven o a → Keeps ran a.folder → is_barred ran option
      ≡ false
      → CanFollow a option → word ≡ word_of option → CanBegin AreCommand (run ∷ (words_of o ++ word ∷ []))
  begins_word o a option word h keeps free (x, kind, fits) is =
      let b =
      begins_options (o ++ x ∷ []) (with_more x a) (given_more o a x h fits) (keeps_more ran x a (ap (is_barred ran) kind ∙ free) keeps) in
      let first : word_of (kind_of x) ≡ word = ap word_of kind ∙ sym is in
      let same : words_of (o ++ x ∷ []) ≡ (words_of o ++ word ∷ []) ++ values_of x =
      flat_push o x ∙ ap (λ (z : List Word). words_of o ++ z) (begins_with x ∙ ap (λ (w : Word). w ∷ values_of x) first)
      ∙ sym (append_assoc (words_of o) (word ∷ []) (values_of x)) in
      begins_sooner (words_of o ++ word ∷ []) (values_of x) (subst (λ (z : List Word). CanBegin AreCommand (run ∷ z)) same b)

  -- ---- the first word that can't follow

  split : (o : List RunOption) (word : Word) (more : List Word)
      → ((run ∷ words_of o) ++ word ∷ []) ++ more ≡ run ∷ (words_of o ++ word ∷ more)
  split o word more = ap (λ (z : List Word). run ∷ z) (append_assoc (words_of o) (word ∷ []) more)

  -- an option that can't follow
  pub wrong_option : (o : List RunOption) (a : Asked) (option : Named) (word : Word) (rest : List Word) → AreGiven o a → Keeps ran a.folder
      → can_follow a option ≡ false → word ≡ word_of option
      → AreWrong (run ∷ (words_of o ++ word ∷ rest)) (Some word)
  wrong_option o a option word rest h keeps barred is =
      first_wrong (run ∷ words_of o) word rest (begins_options o a h keeps) (λ b. cannot b.0 b.1.0 b.1.1) where
        by : (more : List Word) (more' : List RunOption) (files : List Word) (asked : Asked) → word_of option ∷ more ≡ words_of more'
            ++ files
            → AreFor ran files → AreAll (o ++ more') asked → ⊥
        by more [] files asked e are all = no_word ran option more files e are
        by more (x ∷ xs) files asked e are all =
            let kind : option ≡ kind_of x =
            same_kind option x more (words_of xs ++ files) (e ∙ append_assoc (option_words x) (words_of xs) files) in
            never_both (can_follow a option) (ap (can_follow a) kind ∙ fits_follow x a (must_fit o a x xs asked h all)) barred

        cannot : (more : List Word) (command : Command) → IsCommand command (((run ∷ words_of o) ++ word ∷ []) ++ more) → ⊥
        cannot more command k =
            let goes = goes_on o (word ∷ more) command h.right (subst (IsCommand command) (split o word more) k) in
            by more goes.more goes.files goes.asked (ap (λ (w : Word). w ∷ more) (sym is) ∙ goes.words) goes.sources goes.all

  -- an option that may not stand where this is run
  pub wrong_barred : (o : List RunOption) (a : Asked) (option : Named) (word : Word) (rest : List Word) → AreGiven o a → Keeps ran a.folder
      → is_barred ran option ≡ true → word ≡ word_of option
      → AreWrong (run ∷ (words_of o ++ word ∷ rest)) (Some word)
  wrong_barred o a option word rest h keeps barred is =
      first_wrong (run ∷ words_of o) word rest (begins_options o a h keeps) (λ b. cannot b.0 b.1.0 b.1.1) where
        by : (more : List Word) (more' : List RunOption) (files : List Word) (asked : Asked) → word_of option ∷ more ≡ words_of more'
            ++ files
            → AreFor ran files → Keeps ran asked.folder → AreAll (o ++ more') asked → ⊥
        by more [] files asked e are stays all = no_word ran option more files e are
        by more (x ∷ xs) files asked e are stays all =
            let kind : option ≡ kind_of x =
            same_kind option x more (words_of xs ++ files) (e ∙ append_assoc (option_words x) (words_of xs) files) in
            not_barred ran o a x xs asked h all stays (sym (ap (is_barred ran) kind) ∙ barred)

        cannot : (more : List Word) (command : Command) → IsCommand command (((run ∷ words_of o) ++ word ∷ []) ++ more) → ⊥
        cannot more command k =
            let goes = goes_on o (word ∷ more) command h.right (subst (IsCommand command) (split o word more) k) in
            by more goes.more goes.files goes.asked (ap (λ (w : Word). w ∷ more) (sym is) ∙ goes.words) goes.sources goes.keeps goes.all

  -- the option whose word and value these are
  full_option : (option : Named) (x : RunOption) (value : Word) (more r : List Word) → option ≢ named.Trace
      → word_of option ∷ value ∷ more ≡ option_words x ++ r
      → option_words x ≡ word_of option ∷ value ∷ []
  full_option option (Main v) value more r other e = λ i. sym (head_is e) i ∷ sym (head_is (tail_is e)) i ∷ []
  full_option option (Role v) value more r other e = λ i. sym (head_is e) i ∷ sym (head_is (tail_is e)) i ∷ []
  full_option option (Order v) value more r other e = λ i. sym (head_is e) i ∷ sym (head_is (tail_is e)) i ∷ []
  full_option option (Steps v) value more r other e = λ i. sym (head_is e) i ∷ sym (head_is (tail_is e)) i ∷ []
  full_option option Trace value more r other e = absurd (other (same_kind option Trace (value ∷ more) r e))
  full_option option (Out v) value more r other e = λ i. sym (head_is e) i ∷ sym (head_is (tail_is e)) i ∷ []

  -- a value that its option can't have
  pub wrong_value : (o : List RunOption) (a : Asked) (option : Named) (word value : Word) (rest : List Word) → AreGiven o a →
      Keeps ran a.folder
      → is_barred ran option ≡ false → CanFollow a option → word ≡ word_of option
      → option ≢ named.Trace → IsNoValue a option value → AreWrong (run ∷ (words_of o ++ word ∷ value ∷ rest)) (Some value)
  wrong_value o a option word value rest h keeps free can is other isnt =
      subst (λ (z : List Word). AreWrong (run ∷ z) (Some value)) (append_assoc (words_of o) (word ∷ []) (value ∷ rest))
      (first_wrong (run ∷ (words_of o ++ word ∷ [])) value rest (begins_word o a option word h keeps free can is)
      (λ b. cannot b.0 b.1.0 b.1.1)) where
        by : (more : List Word) (more' : List RunOption) (files : List Word) (asked : Asked)
            → word_of option ∷ value ∷ more ≡ words_of more' ++ files → AreFor ran files → AreAll (o ++ more') asked → ⊥
        by more [] files asked e are all = no_word ran option (value ∷ more) files e are
        by more (x ∷ xs) files asked e are all =
            let e' = e ∙ append_assoc (option_words x) (words_of xs) files in
            isnt x (full_option option x value more (words_of xs ++ files) other e') (must_fit o a x xs asked h all)

        cannot : (more : List Word) (command : Command) → IsCommand command (((run ∷ (words_of o ++ word ∷ [])) ++ value ∷ []) ++ more) → ⊥
        cannot more command k =
            let same : ((run ∷ (words_of o ++ word ∷ [])) ++ value ∷ []) ++ more ≡ run ∷ (words_of o ++ word ∷ value ∷ more) =
            append_assoc (run ∷ (words_of o ++ word ∷ [])) (value ∷ []) more
            ∙ ap (λ (z : List Word). run ∷ z) (append_assoc (words_of o) (word ∷ []) (value ∷ more)) in
            let goes = goes_on o (word ∷ value ∷ more) command h.right (subst (IsCommand command) same k) in
            by more goes.more goes.files goes.asked (ap (λ (w : Word). w ∷ value ∷ more) (sym is) ∙ goes.words) goes.sources goes.all

  -- a value is lacking
  pub few_value : (o : List RunOption) (a : Asked) (option : Named) (word : Word) → AreGiven o a → Keeps ran a.folder → is_barred ran option
      ≡ false
      → CanFollow a option
      → word ≡ word_of option → option ≢ named.Trace
      → AreWrong (run ∷ (words_of o ++ word ∷ [])) None
  few_value o a option word h keeps free can is other = (begins_word o a option word h keeps free can is, λ k. cannot k.0 k.1) where
    short : (x : RunOption) (r : List Word) → word_of option ∷ [] ≡ option_words x ++ r → ⊥
    short (Main v) r e = filled (tail_is e)
    short (Role v) r e = filled (tail_is e)
    short (Order v) r e = filled (tail_is e)
    short (Steps v) r e = filled (tail_is e)
    short Trace r e = other (same_kind option Trace [] r e)
    short (Out v) r e = filled (tail_is e)

    by : (more' : List RunOption) (files : List Word) → word_of option ∷ [] ≡ words_of more' ++ files → AreFor ran files → ⊥
    by [] files e are = no_word ran option [] files e are
    by (x ∷ xs) files e are = short x (words_of xs ++ files) (e ∙ append_assoc (option_words x) (words_of xs) files)

    cannot : (command : Command) → IsCommand command (run ∷ (words_of o ++ word ∷ [])) → ⊥
    cannot command k =
        let goes = goes_on o (word ∷ []) command h.right k in
        by goes.more goes.files (ap (λ (w : Word). w ∷ []) (sym is) ∙ goes.words) goes.sources

  -- files are lacking
  pub few_more : (o : List RunOption) (a : Asked) → AreGiven o a → Keeps ran a.folder → AreWrong (run ∷ (words_of o ++ [])) None
  few_more o a h keeps = (
    subst (λ (z : List Word). CanBegin AreCommand (run ∷ z)) (sym (nothing_behind (words_of o))) (begins_options o a h keeps),
    λ k. cannot k.0 k.1,
  ) where
    by : (more' : List RunOption) (files : List Word) → [] ≡ words_of more' ++ files → AreFor ran files → ⊥
    by [] files e are = are.0 (sym e)
    by (x ∷ xs) files e are =
        filled (e ∙ append_assoc (option_words x) (words_of xs) files
        ∙ ap (λ (z : List Word). z ++ (words_of xs ++ files)) (begins_with x))

    cannot : (command : Command) → IsCommand command (run ∷ (words_of o ++ [])) → ⊥
    cannot command k = let goes = goes_on o [] command h.right k in by goes.more goes.files goes.words goes.sources

  -- what an option begins with
  option_first : (x : RunOption) (word : Word) (more r : List Word) → word ∷ more ≡ option_words x ++ r → word ≡ word_of (kind_of x)
  option_first x word more r e = head_is (e ∙ ap (λ (z : List Word). z ++ r) (begins_with x))

  no_start : (x : RunOption) (files r : List Word) → IsPlain files → files ≡ option_words x ++ r → ⊥
  no_start x files r plain e = plain (kind_of x) (values_of x ++ r) (e ∙ ap (λ (z : List Word). z ++ r) (begins_with x))

  -- a file, where a class or roles are lacking
  pub lacks_role : (o : List RunOption) (a : Asked) (word : Word) (rest : List Word) → AreGiven o a → Keeps ran a.folder →
      are_whole a.roles a.order ≡ false
      → IsPlain (word ∷ rest)
      → AreWrong (run ∷ (words_of o ++ word ∷ rest)) (Some word)
  lacks_role o a word rest h keeps lacks plain = first_wrong (run ∷ words_of o) word rest (begins_options o a h keeps)
      (λ b. cannot b.0 b.1.0 b.1.1) where
        by : (more : List Word) (more' : List RunOption) (files : List Word) (asked : Asked) → word ∷ more ≡ words_of more' ++ files
            → AreAll (o ++ more') asked → ⊥
        by more [] files asked e all =
            let w : AreAll o asked = subst (λ (z : List RunOption). AreAll z asked) (at_end o) all in
            let one : a ≡ asked = given_one o a asked h (all_given o asked w) in
            never_both (are_whole a.roles a.order) (ap (λ (z : Asked). are_whole z.roles z.order) one ∙ all_whole o asked w) lacks
        by more (x ∷ xs) files asked e all =
            let start = option_first x word more (words_of xs ++ files) (e ∙ append_assoc (option_words x) (words_of xs) files) in
            plain (kind_of x) rest (ap (λ (w : Word). w ∷ rest) start)

        cannot : (more : List Word) (command : Command) → IsCommand command (((run ∷ words_of o) ++ word ∷ []) ++ more) → ⊥
        cannot more command k =
            let goes = goes_on o (word ∷ more) command h.right (subst (IsCommand command) (split o word more) k) in
            by more goes.more goes.files goes.asked goes.words goes.all

  plain_still : (before : List Word) (word : Word) (after more : List Word) → IsPlain (before ++ word ∷ after)
      → IsPlain (before ++ word ∷ more)
  plain_still [] word after more plain = λ option rest e. plain option after (ap (λ (w : Word). w ∷ after) (head_is e))
  plain_still (b ∷ bs) word after more plain =
      λ option rest e. plain option (bs ++ word ∷ after) (ap (λ (w : Word). w ∷ (bs ++ word ∷ after)) (head_is e))

  -- a word that is no file of a program
  pub wrong_run_file : (o : List RunOption) (a : Asked) (files : List Word) (word : Word) → AreAll o a → Keeps ran a.folder → IsPlain files
      → IsFirstOther (IsFor ran) files (Some word) → AreWrong (run ∷ (words_of o ++ files)) (Some word)
  wrong_run_file o a files word w keeps plain (before, after, stands, each, isnt) =
      subst (λ (z : List Word). AreWrong (run ∷ z) (Some word))
      (append_assoc (words_of o) before (word ∷ after) ∙ ap (λ (z : List Word). words_of o ++ z) (sym stands))
      (first_wrong (run ∷ (words_of o ++ before)) word after (begins_run o a before w keeps each) (λ b. cannot b.0 b.1.0 b.1.1)) where
        by : (more : List Word) (more' : List RunOption) (files' : List Word) → before ++ word ∷ more ≡ words_of more' ++ files'
            → AreFor ran files' → ⊥
        by more [] files' e are = isnt (All-mid (IsFor ran) before word more (subst (All (IsFor ran)) (sym e) are.1))
        by more (x ∷ xs) files' e are =
            no_start x (before ++ word ∷ more) (words_of xs ++ files') (plain_still before word after more (subst IsPlain stands plain))
            (e ∙ append_assoc (option_words x) (words_of xs) files')

        cannot : (more : List Word) (command : Command) → IsCommand command (((run ∷ (words_of o ++ before)) ++ word ∷ []) ++ more) → ⊥
        cannot more command k =
            let same : ((run ∷ (words_of o ++ before)) ++ word ∷ []) ++ more ≡ run ∷ (words_of o ++ (before ++ word ∷ more)) =
            append_assoc (run ∷ (words_of o ++ before)) (word ∷ []) more
            ∙ ap (λ (z : List Word). run ∷ z) (append_assoc (words_of o) before (word ∷ more)) in
            let goes = goes_on o (before ++ word ∷ more) command w.right (subst (IsCommand command) same k) in
            by more goes.more goes.files goes.words goes.sources

  -- ---- a run is one thing

  pub same_run : (command : Command) (asked : Asked) (files rest : List Word) → IsRunBehind ran asked files rest
      → IsCommand command (run ∷ rest) → made ran asked files ≡ command
  same_run command asked files rest (options, e, how, keeps, are) is =
      let goes =
      goes_on how.options files command how.right
      (subst (λ (z : List Word). IsCommand command (run ∷ z)) (e ∙ ap (λ (z : List Word). z ++ files) how.written) is) in
      go goes.asked goes.files goes.more goes.same goes.words goes.all where
        go : (asked' : Asked) (files' : List Word) (more : List RunOption) → command ≡ made ran asked' files' → files ≡ words_of more
            ++ files'
            → AreAll (how.options ++ more) asked' → made ran asked files ≡ command
        go asked' files' [] same words all =
            let one : asked ≡ asked' =
            given_one how.options asked asked' (all_given how.options asked (all_of asked options how))
            (all_given how.options asked' (subst (λ (z : List RunOption). AreAll z asked') (at_end how.options) all)) in
            (λ i. made ran (one i) (words i)) ∙ sym same
        go asked' files' (x ∷ xs) same words all =
            absurd (no_option ran x (words_of xs ++ files') files (sym (append_assoc (option_words x) (words_of xs) files') ∙ sym words)
            are)

-- ---- words are one command at most

pub same_command : (words : List Word) (a b : Command) → IsCommand a words → IsCommand b words → a ≡ b
same_command words (Translate package_name folder files) b (rest, e, behind) is =
    same_making kinds.Api b package_name folder files rest behind (subst (IsCommand b) e is)
same_command words (Client package_name folder files) b (rest, e, behind) is =
    same_making kinds.Clients b package_name folder files rest behind (subst (IsCommand b) e is)
same_command words (Conform files) b (rest, e, behind) is = same_conform b files rest behind (subst (IsCommand b) e is)
same_command words (Check all files) b (rest, e, behind) is = same_check b all files rest behind (subst (IsCommand b) e is)
same_command words (Show files) b (rest, e, behind) is = same_show b files rest behind (subst (IsCommand b) e is)
same_command words (Compile folder files) b (rest, e, behind) is = same_compile b folder files rest behind (subst (IsCommand b) e is)
same_command words (Run asked files) b (rest, e, (options, words_are, how, are)) is =
    same_run input.Sources b asked files rest (options, words_are, how, tt, are) (subst (IsCommand b) e is)
same_command words (Refine files) b (rest, e, behind) is = same_refine b files rest behind (subst (IsCommand b) e is)
same_command words (Project folder files) b (rest, e, behind) is = same_project b folder files rest behind (subst (IsCommand b) e is)
same_command words (Exec asked files) b (rest, e, behind) is = same_run input.Classes b asked files rest behind (subst (IsCommand b) e is)
same_command words (Load branches seed) b (rest, e, behind) is = same_load b branches seed rest behind (subst (IsCommand b) e is)
same_command words (Verify files) b (rest, e, behind) is = same_verify b files rest behind (subst (IsCommand b) e is)
same_command words (Fit roles files) b (rest, e, behind) is = same_fit b roles files rest behind (subst (IsCommand b) e is)
