-- What the code finds as it goes over words: names, roles, and what one more option asks for.
use Rattle.std.proofs.Common.{◌≡◌, ◌≢◌, ℕ, ◌<◌, ◌-◌, ◌^◌, List, [], ◌∷◌, ◌++◌, All, length, take, Option, Some, None, true, false, ◌==◌}
use Rattle.std.proofs.Common.{not, eqb, lit<, codes, refl, sym, ap, ◌∙◌, subst, arith, append_assoc, length-append, Bor}
use Rattle.std.specs.Option.{option_copied}
use Rattle.std.specs.Prelude.{Contains, IfSome, is_some, slice_get, option_map, filter_map}
use Rattle.std.specs.List.{list_all, position_or_len}
use Rattle.std.proofs.lemmas.List.Elements.{filter_map-append}
use Rattle.std.proofs.lemmas.List.Splits.{join_with_byte-slice_split, length-slice_split, slice_split_first, slice_split_none}
use Rattle.std.proofs.lemmas.List.Sums.{fails_before_first}
use Rattle.std.proofs.lemmas.Str.Pattern.{IsSplitOnceResult, split_once_first}
use Rattle.scr_tree.specs.Words.{IsName}
use Rattle.mg_words.specs.declared.asked.Asked.{Asked as Kept}
use Rattle.mg_words.specs.declared.runs.Input.{Input}
use Rattle.mg_words.specs.declared.runs.Input.TheVariants as input
use Rattle.mg_words.specs.declared.options.Named.{Named}
use Rattle.mg_words.specs.declared.options.Named.TheVariants as named
use Rattle.mg_words.specs.declared.options.Step.TheVariants as step
use Rattle.mg_words.specs.Words.{Word, RoleClass, Several, role_names, Asked, RunOption, Main, Role, Order, Steps, Trace, Out, option_words}
use Rattle.mg_words.specs.Words.{IsOption, role_in, IsFileName, Command, IsCommand, AreWrong}
use Rattle.mg_words.specs.inner.Judging.{role_read, roles_in, names_in, names_left, has_name, roles_with, asked_with, asked_of}
use Rattle.mg_words.specs.inner.Judging.{IsFirstOther, AreGiven, AreRead, word_of, kind_of, IsPlain, IsNewRole, AreAllNamed, Fits}
use Rattle.mg_words.specs.inner.Judging.{is_wanted, is_empty, is_several, can_follow, are_whole, roles_more, with_more, IsMore, IsNoValue}
use Rattle.mg_words.specs.inner.Judging.{IsWith, IsStep, IsUpTo, unasked, made, verb_of, IsFor, Keeps, is_barred}
use Rattle.mg_words.proofs.WordsLemmas.{head_is, tail_is, filled, empty_is, All-first, All-rest, All-cons}
use Rattle.mg_words.proofs.NameLemmas.{has_is, is_has, have_all, all_have, never_both, names_joined, hasnt}
use Rattle.mg_words.proofs.OptionLemmas.{same_kind, at_end, given_more, none_given, keeps_more}
use Rattle.mg_words.proofs.FollowLemmas.{follows, whole_all, both_true, no_roles, none_there}
use Rattle.mg_words.proofs.RoleLemmas.{words_of, role_in_word, word_of_role, roles_in_words, few_roles}
use Rattle.mg_words.proofs.RunLemmas.{wrong_option, wrong_barred, wrong_value, few_value, few_more, lacks_role, wrong_run_file, runnable}
use Rattle.mg_words.proofs.RunLemmas.{flat_push}

-- ---- going over names

-- the first name of a word, and those behind its ","
pub first_split : (bs : List ℕ) (r : Option (Bor (List ℕ) × Bor (List ℕ))) (name behind : Bor (List ℕ)) → IsSplitOnceResult 44 bs r
    → r ≡ Some (name, behind) → names_in bs ≡ name.now ∷ names_in behind.now
first_split bs r name behind h is =
    let (within, front, back) = split_once_first 44 bs (Some (name, behind)) (subst (IsSplitOnceResult 44 bs) is h) (lit< tt) in
    slice_split_first (λ b. eqb b 44) bs 0 within ∙ (λ i. sym front i ∷ names_in (sym back i))

pub first_whole : (bs : List ℕ) (r : Option (Bor (List ℕ) × Bor (List ℕ))) → IsSplitOnceResult 44 bs r → r ≡ None → names_in bs ≡ bs ∷ []
first_whole bs r h is =
    let past : position_or_len (λ b. eqb b 44) bs ≡ length bs =
    split_once_first 44 bs None (subst (IsSplitOnceResult 44 bs) is h) (lit< tt) in
    slice_split_none (λ b. eqb b 44) bs (λ k d lt. fails_before_first (λ b. eqb b 44) bs k d (omega arith))

-- what is left of a word, told by its first name
left_is : (left : Option (Bor Word)) (text : Bor Word) (name : Word) (rest : List Word) → left ≡ Some text → names_in text.now ≡ name ∷ rest
    → names_left left ≡ name ∷ rest
left_is left text name rest is e = ap (λ (z : Option (Bor Word)). names_left z) is ∙ e

pub not_names : (all : List Word) (left : Option (Bor Word)) (text : Bor Word) (name : Word) (rest : List Word)
    → (All IsName all → All IsName (names_left left)) → left ≡ Some text → names_in text.now ≡ name ∷ rest
    → (IsName name → ⊥) → (false ≡ true → All IsName all) × (All IsName all → false ≡ true)
not_names all left text name rest f is e isnt =
    let first = λ (h : All IsName all). All-first IsName name rest (subst (All IsName) (left_is left text name rest is e) (f h)) in
    (λ t. absurd (no t), λ h. absurd (isnt (first h))) where
      no : false ≡ true → ⊥
      no t = cc

pub names_kept : (all : List Word) (left : Option (Bor Word)) (text : Bor Word) (name : Word) (rest : List Word)
    → (All IsName all → All IsName (names_left left))
    × (All IsName (names_left left) → All IsName all)
    → left ≡ Some text → names_in text.now ≡ name ∷ rest → IsName name
    → (All IsName all → All IsName rest) × (All IsName rest → All IsName all)
names_kept all left text name rest (f, g) is e named =
    let same = left_is left text name rest is e in (
      λ h. All-rest IsName name rest (subst (All IsName) same (f h)),
      λ h. g (subst (All IsName) (sym same) (All-cons IsName name rest named h)),
    )

-- ---- one more option

-- what is asked for so far: where options were read, the roles are those of their words
roles_kept : (o : List RunOption) (given : Kept) → given.words.now ≡ words_of o → All IsOption o
    → roles_in given.words.now ≡ filter_map role_in o
roles_kept o given kept right = ap roles_in kept ∙ roles_in_words o right

more_roles : (c : Option Word) (rs : List RoleClass) (r : RoleClass) → roles_with c (rs ++ r ∷ []) ≡ roles_more (roles_with c rs) r
more_roles None rs r = refl
more_roles (Some c) rs r = refl

started : (words : List Word) (given : Kept) → given.words.now ≡ [] → asked_of given ≡ unasked → AreRead words given words
started words given none is = record { options = []; stand = refl; kept = none; asks = subst (AreGiven []) (sym is) none_given }

pub begun : (words : List Word) (given : Kept) → given.words.now ≡ [] → given.class ≡ None → given.order ≡ None → given.steps ≡ None
    → given.traced ≡ false → given.folder ≡ None → AreRead words given words
begun words given none class order steps traced folder = started words given none (λ i. record {
  roles = roles_with (option_map (λ w. w.now) (class i)) (roles_in (none i));
  order = option_map (λ w. names_in w.now) (order i);
  steps = steps i;
  traced = traced i;
  folder = option_map (λ w. w.now) (folder i);
})

pub begun_keeps : (k : Input) → Keeps k None
begun_keeps input.Sources = tt
begun_keeps input.Classes = refl

pub front : (words begin left : List Word) → words ≡ begin ++ left → take (length words - length left) words ≡ begin
front words begin left e =
    let n : length words - length left ≡ length begin = omega (arith, ap length e, length-append begin left) in
    (λ i. take (n i) (e i)) ∙ take_front begin left where
      take_front : (a b : List Word) → take (length a) (a ++ b) ≡ a
      take_front [] b = refl
      take_front (x ∷ xs) b = ap (λ (z : List Word). x ∷ z) (take_front xs b)

-- the words of one more option are read
pub more_at : (words : List Word) (given : Kept) (rest : List Word) (option : Named) (word : Word) (behind : List Word)
    → (more next : Kept) (left : List Word) → AreRead words given rest → rest ≡ word ∷ behind → word ≡ word_of option
    → IsMore given option behind more left
    → next.words.now ≡ take (length words - length left) words → ((rs : List RoleClass) → asked_with rs next ≡ asked_with rs more)
    → AreRead words next left
more_at words given rest option word behind more next left h is name (full, read, asks) kept same = record {
  options = h.options ++ full ∷ [];
  stand = stand;
  kept = now;
  asks = subst (AreGiven (h.options ++ full ∷ [])) (sym all) (given_more h.options (asked_of given) full h.asks (read.right, read.new));
} where
  pushed : words_of (h.options ++ full ∷ []) ≡ words_of h.options ++ option_words full
  pushed = flat_push h.options full

  stand : words ≡ words_of (h.options ++ full ∷ []) ++ left
  stand =
      h.stand ∙ ap (λ (z : List Word). words_of h.options ++ z) (is ∙ ap (λ (w : Word). w ∷ behind) name ∙ read.spelled)
      ∙ sym (append_assoc (words_of h.options) (option_words full) left) ∙ ap (λ (z : List Word). z ++ left) (sym pushed)

  now : next.words.now ≡ words_of (h.options ++ full ∷ [])
  now = kept ∙ front words (words_of (h.options ++ full ∷ [])) left stand

  right : All IsOption (h.options ++ full ∷ [])
  right = (given_more h.options (asked_of given) full h.asks (read.right, read.new)).right

  named_so : roles_in next.words.now ≡ roles_in given.words.now ++ filter_map role_in (full ∷ [])
  named_so =
      roles_kept (h.options ++ full ∷ []) next now right ∙ filter_map-append role_in h.options (full ∷ [])
      ∙ ap (λ (z : List RoleClass). z ++ filter_map role_in (full ∷ [])) (sym (roles_kept h.options given h.kept h.asks.right))

  all : asked_of next ≡ with_more full (asked_of given)
  all = same (roles_in next.words.now) ∙ ap (λ (z : List RoleClass). asked_with z more) named_so ∙ asks

few_so_far : (words : List Word) (given : Kept) (rest : List Word) (h : AreRead words given rest) → length words < 2 ^ 64
    → length (filter_map role_in h.options) < 2 ^ 63
few_so_far words given rest h small =
    let k = few_roles h.options in
    omega (arith, ap length h.stand, length-append (words_of h.options) rest)

-- the first of the files, where a class or roles are lacking
first_at : (files : List Word) (found : Option (Bor Word)) → option_copied found ≡ slice_get files 0 → 0 < length files
    → (word : Word) × (rest : List Word) × (files ≡ word ∷ rest) × (option_map (λ w. w.now) found ≡ Some word)
first_at [] found e some = absurd (omega arith)
first_at (w ∷ ws) None e some = absurd cc
first_at (w ∷ ws) (Some f) e some = (w, ws, refl, e)

module _ (ran : Input) where
  abbrev run : Word
  run = verb_of ran

  -- an option that can't follow
  pub barred_at : (words : List Word) (given : Kept) (rest : List Word) (option : Named) (word : Word) (behind : List Word)
      → AreRead words given rest → Keeps ran (asked_of given).folder → rest ≡ word ∷ behind → word ≡ word_of option
      → can_follow (asked_of given) option ≡ false → AreWrong (run ∷ words) (Some word)
  barred_at words given rest option word behind h keeps is name barred =
      subst (λ (z : List Word). AreWrong (run ∷ z) (Some word)) (sym (h.stand ∙ ap (λ (z : List Word). words_of h.options ++ z) is))
      (wrong_option ran h.options (asked_of given) option word behind h.asks keeps barred name)

  -- an option that may not stand
  pub never_at : (words : List Word) (given : Kept) (rest : List Word) (option : Named) (word : Word) (behind : List Word)
      → AreRead words given rest → Keeps ran (asked_of given).folder → rest ≡ word ∷ behind → word ≡ word_of option
      → is_barred ran option ≡ true → AreWrong (run ∷ words) (Some word)
  never_at words given rest option word behind h keeps is name barred =
      subst (λ (z : List Word). AreWrong (run ∷ z) (Some word)) (sym (h.stand ∙ ap (λ (z : List Word). words_of h.options ++ z) is))
      (wrong_barred ran h.options (asked_of given) option word behind h.asks keeps barred name)

  -- an option that was read may stand
  pub keeps_at : (given more : Kept) (option : Named) (behind left : List Word) → Keeps ran (asked_of given).folder
      → is_barred ran option ≡ false → IsMore given option behind more left → Keeps ran (asked_of more).folder
  keeps_at given more option behind left keeps free (full, read, asks) =
      subst (Keeps ran) (sym (ap (λ (z : Asked). z.folder) asks))
      (keeps_more ran full (asked_of given) (sym (ap (is_barred ran) (same_kind option full behind left read.spelled)) ∙ free) keeps)

  pub stuck_at : (words : List Word) (given : Kept) (rest : List Word) (option : Named) (word : Word) (behind : List Word)
      → (wrong : Option (Bor Word)) → AreRead words given rest → Keeps ran (asked_of given).folder → is_barred ran option ≡ false
      → length words < 2 ^ 64 → rest ≡ word ∷ behind → word ≡ word_of option → IsStep given option behind (step.Stuck wrong)
      → AreWrong (run ∷ words) (option_map (λ w. w.now) wrong)
  stuck_at words given rest option word behind None h keeps free small is name (can, other, none) =
      subst (λ (z : List Word). AreWrong (run ∷ z) None)
      (sym (h.stand ∙ ap (λ (z : List Word). words_of h.options ++ z) (is ∙ ap (λ (z : List Word). word ∷ z) none)))
      (few_value ran h.options (asked_of given) option word h.asks keeps free
      (follows h.options (asked_of given) option h.asks (few_so_far words given rest h small) can) name other)
  stuck_at words given rest option word behind (Some value) h keeps free small is name (can, other, (after, stands, isnt)) =
      subst (λ (z : List Word). AreWrong (run ∷ z) (Some value.now))
      (sym (h.stand ∙ ap (λ (z : List Word). words_of h.options ++ z) (is ∙ ap (λ (z : List Word). word ∷ z) stands)))
      (wrong_value ran h.options (asked_of given) option word value.now after h.asks keeps free
      (follows h.options (asked_of given) option h.asks (few_so_far words given rest h small) can) name other isnt)

  pub end_at : (words : List Word) (given : Kept) (rest : List Word) → AreRead words given rest → Keeps ran (asked_of given).folder
      → length rest ≡ 0 → AreWrong (run ∷ words) None
  end_at words given rest h keeps none =
      subst (λ (z : List Word). AreWrong (run ∷ z) None)
      (sym (h.stand ∙ ap (λ (z : List Word). words_of h.options ++ z) (empty_is rest none)))
      (few_more ran h.options (asked_of given) h.asks keeps)

  -- ---- the files of a run

  pub lacks_first : (asked : Asked) (files : List Word) (found : Option (Bor Word)) → option_copied found ≡ slice_get files 0
      → 0 < length files → IsPlain files → are_whole asked.roles asked.order ≡ false
      → (o : List RunOption) → AreGiven o asked → Keeps ran asked.folder → AreWrong (run ∷ (words_of o ++ files))
      (option_map (λ w. w.now) found)
  lacks_first asked files found e some plain lacks =
      let (word, rest, is, same) = first_at files found e some in
      λ o h keeps. subst (λ (r : Option Word). AreWrong (run ∷ (words_of o ++ files)) r) (sym same)
      (subst (λ (z : List Word). AreWrong (run ∷ (words_of o ++ z)) (Some word)) (sym is)
      (lacks_role ran o asked word rest h keeps lacks (subst IsPlain is plain)))

  pub wrong_file_at : (asked : Asked) (files : List Word) (word : Word) → are_whole asked.roles asked.order ≡ true → IsPlain files
      → IsFirstOther (IsFor ran) files (Some word)
      → (o : List RunOption) → AreGiven o asked → Keeps ran asked.folder → AreWrong (run ∷ (words_of o ++ files)) (Some word)
  wrong_file_at asked files word whole plain other =
      λ o h keeps. wrong_run_file ran o asked files word (whole_all o asked h whole) keeps plain other

  pub runnable_at : (asked : Asked) (files : List Word) (command : Command) → command ≡ made ran asked files
      → are_whole asked.roles asked.order ≡ true → 0 < length files → All (IsFor ran) files
      → (o : List RunOption) → AreGiven o asked → Keeps ran asked.folder → IsCommand command (run ∷ (words_of o ++ files))
  runnable_at asked files command is whole some each =
      λ o h keeps. subst (λ (z : Command). IsCommand z (run ∷ (words_of o ++ files))) (sym is)
      (runnable ran o asked files (whole_all o asked h whole) keeps (some_filled files some, each)) where
        some_filled : (fs : List Word) → 0 < length fs → fs ≢ []
        some_filled [] lt = absurd (omega arith)
        some_filled (f ∷ fs) lt = λ e. filled (sym e)

-- ---- one option, with its value

-- an option that has another word has other words
other_kind : (x : RunOption) (option : Named) (value : Word) → option_words x ≡ word_of option ∷ value ∷ [] → kind_of x ≡ option
other_kind x option value e = sym (same_kind option x (value ∷ []) [] (sym e ∙ sym (at_end (option_words x))))

order_is : (x : RunOption) (value : Word) → option_words x ≡ codes "--order" ∷ value ∷ [] → IsOption x → x ≡ Order (names_in value)
order_is (Main v) value e h = let k = other_kind (Main v) named.Order value e in absurd cc
order_is (Role v) value e h = let k = other_kind (Role v) named.Order value e in absurd cc
order_is (Order v) value e h = ap Order (sym (names_joined v h.0 h.1) ∙ ap names_in (head_is (tail_is e)))
order_is (Steps v) value e h = let k = other_kind (Steps v) named.Order value e in absurd cc
order_is Trace value e h = let k = other_kind Trace named.Order value e in absurd cc
order_is (Out v) value e h = let k = other_kind (Out v) named.Order value e in absurd cc

role_is : (x : RunOption) (value : Word) → option_words x ≡ codes "--role" ∷ value ∷ [] → IsOption x → x ≡ Role (role_read value)
role_is (Main v) value e h = let k = other_kind (Main v) named.Role value e in absurd cc
role_is (Role v) value e h = ap Role (sym (role_in_word v h.0) ∙ ap role_read (head_is (tail_is e)))
role_is (Order v) value e h = let k = other_kind (Order v) named.Role value e in absurd cc
role_is (Steps v) value e h = let k = other_kind (Steps v) named.Role value e in absurd cc
role_is Trace value e h = let k = other_kind Trace named.Role value e in absurd cc
role_is (Out v) value e h = let k = other_kind (Out v) named.Role value e in absurd cc

no_value : (given : Kept) (option : Named) (value : Word) (full : RunOption)
    → ((x : RunOption) → option_words x ≡ word_of option ∷ value ∷ [] → IsOption x → x ≡ full) → (Fits full (asked_of given) → ⊥)
    → IsNoValue (asked_of given) option value
no_value given option value full is isnt x e fits = isnt (subst (λ (z : RunOption). Fits z (asked_of given)) (is x e fits.0) fits)

no_order_value : (given : Kept) (value : Word) → (Fits (Order (names_in value)) (asked_of given) → ⊥)
    → IsNoValue (asked_of given) named.Order value
no_order_value given value isnt = no_value given named.Order value (Order (names_in value)) (λ x e h. order_is x value e h) isnt

no_role_value : (given : Kept) (value : Word) → (Fits (Role (role_read value)) (asked_of given) → ⊥)
    → IsNoValue (asked_of given) named.Role value
no_role_value given value isnt = no_value given named.Role value (Role (role_read value)) (λ x e h. role_is x value e h) isnt

-- where an option of the kind can follow, what is to be named is free
free_class : (a : Asked) → can_follow a named.Main ≡ true → (a.roles ≡ Several []) × (a.order ≡ None)
free_class a e =
    let both = both_true (is_empty a.roles) (not (is_some a.order)) e in
    (no_roles a.roles both.0, none_there a.order both.1)

free_named : (a : Asked) → can_follow a named.Order ≡ true → (is_several a.roles ≡ true) × (a.order ≡ None)
free_named a e =
    let both = both_true (is_several a.roles) (not (is_some a.order)) e in
    (both.0, none_there a.order both.1)

pub class_value : (given more : Kept) (value : Word) → IsName value → can_follow (asked_of given) named.Main ≡ true
    → ((rs : List RoleClass) → asked_with rs more ≡ with_more (Main value) (asked_of given)) → IsWith given named.Main value (Some more)
class_value given more value h can same =
    (Main value, record { spelled = refl; right = h; new = free_class (asked_of given) can }, same (roles_in given.words.now ++ []))

pub steps_value : (given more : Kept) (value : Word) (n : ℕ) → IsUpTo 20000000 value (Some n) → can_follow (asked_of given) named.Steps
    ≡ true
    → ((rs : List RoleClass) → asked_with rs more ≡ with_more (Steps n) (asked_with rs given)) → IsWith given named.Steps value (Some more)
steps_value given more value n (e, low, high) can same = (
  Steps n,
  record { spelled = ap (λ (w : Word). codes "--steps" ∷ w ∷ []) e; right = (low, high); new = none_there (asked_of given).steps can },
  same (roles_in given.words.now ++ [])
      ∙ ap (λ (z : List RoleClass). with_more (Steps n) (asked_with z given)) (at_end (roles_in given.words.now)),
)

pub folder_value : (given more : Kept) (value : Word) → IsFileName value → can_follow (asked_of given) named.Out ≡ true
    → ((rs : List RoleClass) → asked_with rs more ≡ with_more (Out value) (asked_with rs given)) → IsWith given named.Out value (Some more)
folder_value given more value h can same = (
  Out value,
  record { spelled = refl; right = h; new = none_there (asked_of given).folder can },
  same (roles_in given.words.now ++ [])
      ∙ ap (λ (z : List RoleClass). with_more (Out value) (asked_with z given)) (at_end (roles_in given.words.now)),
)

-- names that a word names are some
pub some_names : (word : Word) → names_in word ≢ []
some_names word e = absurd (omega (arith, length-slice_split (λ b. b == 44) word, ap length e))

named_all : (c : Option Word) (rs : List RoleClass) (names : List Word) → is_several (roles_with c rs) ≡ true
    → All (Contains names) (role_names rs) → AreAllNamed (roles_with c rs) names
named_all None rs names several h = h
named_all (Some c) rs names several h = absurd cc

all_named : (c : Option Word) (rs : List RoleClass) (names : List Word) → AreAllNamed (roles_with c rs) names
    → All (Contains names) (role_names rs)
all_named None rs names h = h
all_named (Some c) rs names h = absurd h

wanted_is : (order : Option (List Word)) (name : Word) → is_wanted order name ≡ true → IfSome order (λ names. Contains names name)
wanted_is None name e = tt
wanted_is (Some names) name e = has_is names name e

is_it_wanted : (order : Option (List Word)) (name : Word) → IfSome order (λ names. Contains names name) → is_wanted order name ≡ true
is_it_wanted None name h = refl
is_it_wanted (Some names) name h = is_has names name h

new_role : (c : Option Word) (rs : List RoleClass) (name : Word) → is_some c ≡ false → has_name (role_names rs) name ≡ false
    → IsNewRole (roles_with c rs) name
new_role None rs name e miss = λ k. never_both (has_name (role_names rs) name) (is_has (role_names rs) name k) miss
new_role (Some c) rs name e miss = absurd cc

role_is_new : (c : Option Word) (rs : List RoleClass) (name : Word) → IsNewRole (roles_with c rs) name
    → (is_some c ≡ false) × (has_name (role_names rs) name ≡ false)
role_is_new None rs name h = (refl, hasnt (role_names rs) name h)
role_is_new (Some c) rs name h = absurd h

-- ---- an order: its names, as the code has the word

pub no_order : (given : Kept) (value word : Word) → word ≡ value → (All IsName (names_in word) → ⊥)
    → IsNoValue (asked_of given) named.Order value
no_order given value word e isnt =
    no_order_value given value (λ fits. isnt (subst (λ (z : Word). All IsName (names_in z)) (sym e) fits.0.1))

lacks_role_at : (given : Kept) (value : Word) → list_all (has_name (names_in value)) (role_names (roles_in given.words.now)) ≡ false
    → IsNoValue (asked_of given) named.Order value
lacks_role_at given value miss = no_order_value given value (λ fits.
    never_both (list_all (has_name (names_in value)) (role_names (roles_in given.words.now)))
    (have_all (names_in value) (role_names (roles_in given.words.now))
    (all_named (option_map (λ w. w.now) given.class) (roles_in given.words.now) (names_in value) fits.1.0)) miss)

pub order_lacks : (given : Kept) (value word : Word) → word ≡ value
    → list_all (has_name (names_in word)) (role_names (roles_in given.words.now)) ≡ false → IsNoValue (asked_of given) named.Order value
order_lacks given value word e miss =
    lacks_role_at given value
    (ap (λ (z : Word). list_all (has_name (names_in z)) (role_names (roles_in given.words.now))) (sym e) ∙ miss)

order_at : (given more : Kept) (value : Word) → All IsName (names_in value)
    → list_all (has_name (names_in value)) (role_names (roles_in given.words.now)) ≡ true → can_follow (asked_of given) named.Order ≡ true
    → ((rs : List RoleClass) → asked_with rs more ≡ with_more (Order (names_in value)) (asked_with rs given))
    → IsWith given named.Order value (Some more)
order_at given more value names each can same =
    let free = free_named (asked_of given) can in (
      Order (names_in value),
      record {
        spelled = ap (λ (w : Word). codes "--order" ∷ w ∷ []) (sym (join_with_byte-slice_split 44 value));
        right = (some_names value, names);
        new = (
          named_all (option_map (λ w. w.now) given.class) (roles_in given.words.now) (names_in value) free.0
              (all_have (names_in value) (role_names (roles_in given.words.now)) each),
          free.1,
        );
      },
      same (roles_in given.words.now ++ [])
          ∙ ap (λ (z : List RoleClass). with_more (Order (names_in value)) (asked_with z given)) (at_end (roles_in given.words.now)),
    )

pub order_value : (given more : Kept) (value word : Word) → word ≡ value → All IsName (names_in word)
    → list_all (has_name (names_in word)) (role_names (roles_in given.words.now)) ≡ true → can_follow (asked_of given) named.Order ≡ true
    → ((rs : List RoleClass) → asked_with rs more ≡ with_more (Order (names_in value)) (asked_with rs given))
    → IsWith given named.Order value (Some more)
order_value given more value word e names each can same =
    order_at given more value (subst (λ (z : Word). All IsName (names_in z)) e names)
    (ap (λ (z : Word). list_all (has_name (names_in z)) (role_names (roles_in given.words.now))) (sym e) ∙ each) can same

-- ---- a role and its class, as the code has them of the word

role_at : (given : Kept) (value : Word) → IsName (role_read value).role → IsName (role_read value).class
    → is_some (option_map (λ w. w.now) given.class) ≡ false
    → has_name (role_names (roles_in given.words.now)) (role_read value).role ≡ false
    → is_wanted (asked_of given).order (role_read value).role ≡ true
    → IsWith given named.Role value (Some given)
role_at given value role class alone new wanted = (
  Role (role_read value),
  record {
    spelled = ap (λ (w : Word). codes "--role" ∷ w ∷ []) (word_of_role value class.starts);
    right = (role, class);
    new = (
      new_role (option_map (λ w. w.now) given.class) (roles_in given.words.now) (role_read value).role alone new,
      wanted_is (asked_of given).order (role_read value).role wanted,
    );
  },
  (λ i. record {
    roles = more_roles (option_map (λ w. w.now) given.class) (roles_in given.words.now) (role_read value) i;
    order = (asked_of given).order;
    steps = given.steps;
    traced = given.traced;
    folder = (asked_of given).folder;
  }),
)

pub role_value : (given : Kept) (value : Word) (r : RoleClass) → r ≡ role_read value → IsName r.role → IsName r.class
    → is_some (option_map (λ w. w.now) given.class) ≡ false → has_name (role_names (roles_in given.words.now)) r.role ≡ false
    → is_wanted (asked_of given).order r.role ≡ true → IsWith given named.Role value (Some given)
role_value given value r e role class alone new wanted =
    role_at given value (subst (λ (z : RoleClass). IsName z.role) e role) (subst (λ (z : RoleClass). IsName z.class) e class) alone
    (subst (λ (z : RoleClass). has_name (role_names (roles_in given.words.now)) z.role ≡ false) e new)
    (subst (λ (z : RoleClass). is_wanted (asked_of given).order z.role ≡ true) e wanted)

-- a role that can't be named, where the one of the word is told not to fit
role_fits : (given : Kept) (value : Word) (r : RoleClass) → r ≡ role_read value → (Fits (Role r) (asked_of given) → ⊥)
    → IsNoValue (asked_of given) named.Role value
role_fits given value r e isnt =
    no_role_value given value (λ fits. isnt (subst (λ (z : RoleClass). Fits (Role z) (asked_of given)) (sym e) fits))

pub no_role_name : (given : Kept) (value : Word) (r : RoleClass) → r ≡ role_read value → (IsName r.role → ⊥)
    → IsNoValue (asked_of given) named.Role value
no_role_name given value r e isnt = role_fits given value r e (λ fits. isnt fits.0.0)

pub no_role_class : (given : Kept) (value : Word) (r : RoleClass) → r ≡ role_read value → (IsName r.class → ⊥)
    → IsNoValue (asked_of given) named.Role value
no_role_class given value r e isnt = role_fits given value r e (λ fits. isnt fits.0.1)

pub not_alone : (given : Kept) (value : Word) (r : RoleClass) → r ≡ role_read value
    → is_some (option_map (λ w. w.now) given.class) ≡ true → IsNoValue (asked_of given) named.Role value
not_alone given value r e is = role_fits given value r e (λ fits.
    never_both (is_some (option_map (λ w. w.now) given.class)) is
    (role_is_new (option_map (λ w. w.now) given.class) (roles_in given.words.now) r.role fits.1.0).0)

pub named_before : (given : Kept) (value : Word) (r : RoleClass) → r ≡ role_read value
    → has_name (role_names (roles_in given.words.now)) r.role ≡ true → IsNoValue (asked_of given) named.Role value
named_before given value r e is = role_fits given value r e (λ fits.
    never_both (has_name (role_names (roles_in given.words.now)) r.role) is
    (role_is_new (option_map (λ w. w.now) given.class) (roles_in given.words.now) r.role fits.1.0).1)

pub not_wanted : (given : Kept) (value : Word) (r : RoleClass) → r ≡ role_read value
    → is_wanted (asked_of given).order r.role ≡ false → IsNoValue (asked_of given) named.Role value
not_wanted given value r e is = role_fits given value r e (λ fits.
    never_both (is_wanted (asked_of given).order r.role) (is_it_wanted (asked_of given).order r.role fits.1.1) is)

-- a class alone, seen through a reference
pub class_given : (class : Option (Bor Word)) → is_some class ≡ true → is_some (option_map (λ w. w.now) class) ≡ true
class_given None e = absurd cc
class_given (Some w) e = refl

pub class_free : (class : Option (Bor Word)) → is_some class ≡ false → is_some (option_map (λ w. w.now) class) ≡ false
class_free None e = refl
class_free (Some w) e = absurd cc
