-- Which words are a command, and which can't follow: of `conform` and `compile`, and what others need too.
use Rattle.std.proofs.Common.{◌≡◌, ℕ, ◌<◌, ◌≤◌, List, [], ◌∷◌, ◌++◌, All, length, get_or, take, drop, take-append-drop}
use Rattle.std.proofs.Common.{drop-cons, ◌-◌, zero, suc, Option, Some, None, Bool, true, false, ◌&&◌, eqb, codes, refl, sym, ap, ◌∙◌, subst}
use Rattle.std.proofs.Common.{arith, append_assoc, length-append, Bor}
use Rattle.std.specs.Prelude.{IfSome, option_map}
use Rattle.std.proofs.lemmas.Slice.Eq.{bytes_eq-Decides}
use Rattle.std.proofs.lemmas.List.{drop_at}
use Rattle.std.specs.List.{ends_with, list_all}
use Rattle.mg_read.specs.Passes.{AllPasses}
use Rattle.scr_tree.specs.Words.{reserved, IsName}
use Rattle.mg_sources.specs.Files.{EndsWith, Kind, Scribble, Typestates, Java, suffix_of, HaveKinds}
use Rattle.mg_words.specs.Words.{Word, Command, Translate, Client, Conform, Check, Compile, Run, Exec, Refine, Project, Load, Verify, Fit}
use Rattle.mg_words.specs.Words.{Show, Asked}
use Rattle.mg_words.specs.Words.{AreOptions, AreTargetsAndFiles}
use Rattle.mg_words.specs.Words.{IsFileName, IsFileOf, IsSourceName, AreSourceNames, out_words, verb}
use Rattle.mg_words.specs.Words.{IsBehind, IsCommand, AreCommand, CanBegin, AreWrong}
use Rattle.mg_words.proofs.Verbs.{translate, client, conform, check, compile, run, exec, refine, project, load, verify, fit, show, mark}
use Rattle.mg_words.specs.declared.runs.Input.{Input}
use Rattle.mg_words.specs.declared.runs.Input.TheVariants as input
use Rattle.mg_words.specs.declared.targets.Made.{Made}
use Rattle.mg_words.specs.declared.targets.Made.TheVariants as kinds
use Rattle.mg_words.specs.declared.words.Placed.TheVariants as placed
use Rattle.mg_words.specs.inner.Judging.{IsFirstOther, IsPlaced, made, verb_of, IsFor, AreFor, Keeps, making, word_for}

abbrev pub out : Word
out = codes "--out"

abbrev pub some_source : Word
some_source = codes "P.scr"

abbrev pub some_class : Word
some_class = codes "C"

-- ---- lists of words

pub head_is : {x y : Word} {xs ys : List Word} → ◌≡◌ {A = List Word} (x ∷ xs) (y ∷ ys) → x ≡ y
head_is e = cc

pub tail_is : {x y : Word} {xs ys : List Word} → ◌≡◌ {A = List Word} (x ∷ xs) (y ∷ ys) → xs ≡ ys
tail_is e = cc

pub filled : {P : Type 0} {x : Word} {xs : List Word} → ◌≡◌ {A = List Word} [] (x ∷ xs) → P
filled e = absurd cc

pub empty_is : (xs : List Word) → length xs ≡ 0 → xs ≡ []
empty_is [] e = refl
empty_is (x ∷ xs) e = absurd (omega (arith, e))

pub nothing_behind : (xs : List Word) → xs ++ [] ≡ xs
nothing_behind [] = refl
nothing_behind (x ∷ xs) = ap (λ (z : List Word). x ∷ z) (nothing_behind xs)

-- all of one word, and of some words and one more
pub All-one : {A : Type 0} (P : A → Type 0) (x : A) → P x → All P (x ∷ [])
All-one P x h zero d lt = h
All-one P x h (suc k) d lt = absurd (omega arith)

pub All-first : {A : Type 0} (P : A → Type 0) (x : A) (xs : List A) → All P (x ∷ xs) → P x
All-first P x xs h = h zero x (omega arith)

pub All-rest : {A : Type 0} (P : A → Type 0) (x : A) (xs : List A) → All P (x ∷ xs) → All P xs
All-rest P x xs h k d lt = h (suc k) d (omega arith)

pub All-cons : {A : Type 0} (P : A → Type 0) (x : A) (xs : List A) → P x → All P xs → All P (x ∷ xs)
All-cons P x xs h hs zero d lt = h
All-cons P x xs h hs (suc k) d lt = hs k d (omega arith)

pub All-push : {A : Type 0} (P : A → Type 0) (xs : List A) (x : A) → All P xs → P x → All P (xs ++ x ∷ [])
All-push P [] x hs h = All-one P x h
All-push P (y ∷ ys) x hs h = All-cons P y (ys ++ x ∷ []) (All-first P y ys hs) (All-push P ys x (All-rest P y ys hs) h)

pub All-mid : {A : Type 0} (P : A → Type 0) (xs : List A) (x : A) (more : List A) → All P (xs ++ x ∷ more) → P x
All-mid P [] x more h = All-first P x more h
All-mid P (y ∷ ys) x more h = All-mid P ys x more (All-rest P y (ys ++ x ∷ more) h)

pub none_yet : {A : Type 0} (P : A → Type 0) → All P []
none_yet P k d lt = absurd (omega arith)

-- ---- what can begin a command

pub named : IsFileOf (codes ".scr") some_source
named = (λ e. cc, (codes "P", refl))

pub source_named : IsSourceName some_source
source_named = (named.0, (Scribble, named.1))

-- a file for a run
abbrev pub some_class_file : Word
some_class_file = codes "C.class"

class_named : IsFileOf (codes ".class") some_class_file
class_named = (λ e. cc, (codes "C", refl))

abbrev pub some_for : Input → Word
some_for input.Sources = some_source
some_for input.Classes = some_class_file

pub for_named : (k : Input) → IsFor k (some_for k)
for_named input.Sources = source_named
for_named input.Classes = class_named

free : reserved some_class ≡ None
unfolding reserved
free = refl

pub classed : IsName some_class
classed = record { starts = refl; bytes = (refl, tt); short = omega arith; free = free }

pub is_name : IsFileName some_class
is_name = λ e. cc

pub pushed_filled : (xs : List Word) (x : Word) → xs ++ x ∷ [] ≡ [] → ⊥
pushed_filled [] x e = cc
pushed_filled (y ∷ ys) x e = cc

begins_calls : (protocol calls : Word) → IsFileOf (codes ".scr") protocol → IsFileName calls
    → CanBegin AreCommand (conform ∷ protocol ∷ calls ∷ [])
begins_calls protocol calls h h' = (
  [],
  (
    Conform (protocol ∷ calls ∷ []),
    (protocol ∷ calls ∷ [], refl, (refl, record { protocol = protocol; calls = calls; two = refl; scribble = h; named = h' })),
  ),
)

begins_protocol : (protocol : Word) → IsFileOf (codes ".scr") protocol → CanBegin AreCommand (conform ∷ protocol ∷ [])
begins_protocol protocol h = let b = begins_calls protocol some_class h is_name in (some_class ∷ b.0, b.1)

begins_conform : CanBegin AreCommand (conform ∷ [])
begins_conform = let b = begins_protocol some_source named in (some_source ∷ b.0, b.1)

pub begins_empty : CanBegin AreCommand []
begins_empty = let b = begins_conform in (conform ∷ b.0, b.1)

-- the same of compile
begins_classes : (folder : Option Word) (before : List Word) → IfSome folder IsFileName → All IsSourceName before
    → CanBegin AreCommand (compile ∷ (out_words folder ++ before))
begins_classes folder before name each = (
  some_source ∷ [],
  (
    Compile folder (before ++ some_source ∷ []),
    (
      (out_words folder ++ before) ++ some_source ∷ [],
      refl,
      (
        append_assoc (out_words folder) before (some_source ∷ []),
        name,
        (pushed_filled before some_source, All-push IsSourceName before some_source each source_named),
      ),
    ),
  ),
)

begins_class_out : CanBegin AreCommand (compile ∷ out ∷ [])
begins_class_out = let b = begins_classes (Some some_class) [] is_name (none_yet _) in (some_class ∷ b.0, b.1)

-- ---- what words of a command are

none_is_none : (command : Command) → IsCommand command [] → ⊥
none_is_none command (rest, e, b) = filled e

-- its first word tells the command
pub is_making : (k : Made) (command : Command) (rest : List Word) → IsCommand command (word_for k ∷ rest)
    → (package_name folder : Option Word) × (files : List Word) × (command ≡ making k package_name folder files)
    × AreTargetsAndFiles package_name folder files rest
is_making kinds.Api (Translate package_name folder files) rest (r, e, b) =
    (package_name, folder, files, refl, subst (AreTargetsAndFiles package_name folder files) (sym (tail_is e)) b)
is_making kinds.Api other rest (r, e, b) = absurd (omega (arith, ap mark (head_is e)))
is_making kinds.Clients (Client package_name folder files) rest (r, e, b) =
    (package_name, folder, files, refl, subst (AreTargetsAndFiles package_name folder files) (sym (tail_is e)) b)
is_making kinds.Clients other rest (r, e, b) = absurd (omega (arith, ap mark (head_is e)))

-- and such words are that command
pub making_is : (k : Made) (package_name folder : Option Word) (files rest : List Word) →
    AreTargetsAndFiles package_name folder files rest →
    IsCommand (making k package_name folder files) (word_for k ∷ rest)
making_is kinds.Api package_name folder files rest h = (rest, refl, h)
making_is kinds.Clients package_name folder files rest h = (rest, refl, h)

pub is_conform : (command : Command) (rest : List Word) → IsCommand command (conform ∷ rest)
    → (files : List Word) × (command ≡ Conform files) × IsBehind (Conform files) rest
is_conform (Conform files) rest (r, e, b) = (files, refl, subst (IsBehind (Conform files)) (sym (tail_is e)) b)
is_conform other rest (r, e, b) = absurd (omega (arith, ap mark (head_is e)))

pub is_compile : (command : Command) (rest : List Word) → IsCommand command (compile ∷ rest)
    → (folder : Option Word) × (files : List Word) × (command ≡ Compile folder files) × IsBehind (Compile folder files) rest
is_compile (Compile folder files) rest (r, e, b) = (folder, files, refl, subst (IsBehind (Compile folder files)) (sym (tail_is e)) b)
is_compile other rest (r, e, b) = absurd (omega (arith, ap mark (head_is e)))

-- what stands behind the word of a run
abbrev pub IsRunBehind : Input → Asked → (files rest : List Word) → Type 0
IsRunBehind k asked files rest = (options : List Word) × (rest ≡ options ++ files) × AreOptions asked options × Keeps k asked.folder
    × AreFor k files

pub is_run : (k : Input) (command : Command) (rest : List Word) → IsCommand command (verb_of k ∷ rest)
    → (asked : Asked) × (files : List Word) × (command ≡ made k asked files) × IsRunBehind k asked files rest
is_run input.Sources (Run asked files) rest (r, e, (options, is, how, are)) = (asked, files, refl, (options, tail_is e ∙ is, how, tt, are))
is_run input.Sources other rest (r, e, b) = absurd (omega (arith, ap mark (head_is e)))
is_run input.Classes (Exec asked files) rest (r, e, (options, is, how, none, are)) =
    (asked, files, refl, (options, tail_is e ∙ is, how, none, are))
is_run input.Classes other rest (r, e, b) = absurd (omega (arith, ap mark (head_is e)))

-- and such words are that command
pub run_is : (k : Input) (asked : Asked) (files rest : List Word) → IsRunBehind k asked files rest →
    IsCommand (made k asked files) (verb_of k ∷ rest)
run_is input.Sources asked files rest (options, is, how, keeps, are) = (rest, refl, (options, is, how, are))
run_is input.Classes asked files rest h = (rest, refl, h)

-- the option isn't a file
pub no_source : (rest : List Word) → AreSourceNames (out ∷ rest) → ⊥
no_source rest (_, each) = let first : IsSourceName out = All-first IsSourceName out rest each in first.0 refl

-- what stands behind the option of a folder, or where it isn't, are the files
pub files_behind : (Q : List Word → Type 0) → ((r : List Word) → Q (out ∷ r) → ⊥)
    → (d : Option Word) (files : List Word) (folder : Option Word) (rest : List Word)
    → (folder ≡ None → (r : List Word) → rest ≡ out ∷ r → ⊥) → out_words folder ++ rest ≡ out_words d ++ files → Q files → Q rest
files_behind Q never None files None rest plain e q = subst Q (sym e) q
files_behind Q never (Some d) files None rest plain e q = absurd (plain refl (d ∷ files) e)
files_behind Q never None files (Some f) rest plain e q = absurd (never (f ∷ rest) (subst Q (sym e) q))
files_behind Q never (Some d) files (Some f) rest plain e q = subst Q (sym (tail_is (tail_is e))) q

-- behind "--out" stands a folder
pub folder_behind : (Q : List Word → Type 0) → ((r : List Word) → Q (out ∷ r) → ⊥)
    → (d : Option Word) (files : List Word) (f : Word) (rest : List Word)
    → out ∷ f ∷ rest ≡ out_words d ++ files → IfSome d IsFileName → Q files → IsFileName f
folder_behind Q never None files f rest e name q = absurd (never (f ∷ rest) (subst Q (sym e) q))
folder_behind Q never (Some d) files f rest e name q = subst IsFileName (sym (head_is (tail_is e))) name

pub folder_lacks : (Q : List Word → Type 0) → ((r : List Word) → Q (out ∷ r) → ⊥) → (d : Option Word) (files : List Word)
    → out ∷ [] ≡ out_words d ++ files → Q files → ⊥
folder_lacks Q never None files e q = never [] (subst Q (sym e) q)
folder_lacks Q never (Some d) files e q = filled (tail_is e)

-- the folder and the files are known by the words
pub same_folder : (Q : List Word → Type 0) → ((r : List Word) → Q (out ∷ r) → ⊥) → (c d : Option Word) (f g : List Word)
    → out_words c ++ f ≡ out_words d ++ g → Q f → Q g → (c ≡ d) × (f ≡ g)
same_folder Q never None None f g e q q' = (refl, e)
same_folder Q never None (Some d) f g e q q' = absurd (never (d ∷ g) (subst Q e q))
same_folder Q never (Some c) None f g e q q' = absurd (never (c ∷ f) (subst Q (sym e) q'))
same_folder Q never (Some c) (Some d) f g e q q' = (ap Some (head_is (tail_is e)), tail_is (tail_is e))

protocol_word : (command : Command) (p : Word) (more : List Word) → IsCommand command (conform ∷ p ∷ more) → IsFileOf (codes ".scr") p
protocol_word command p more is =
    let (files, same, (e, h)) = is_conform command (p ∷ more) is in subst (IsFileOf (codes ".scr")) (sym (head_is (e ∙ h.two))) h.scribble

calls_word : (command : Command) (p c : Word) (more : List Word) → IsCommand command (conform ∷ p ∷ c ∷ more) → IsFileName c × (more ≡ [])
calls_word command p c more is =
    let (files, same, (e, h)) = is_conform command (p ∷ c ∷ more) is in
    let two = e ∙ h.two in
    (subst IsFileName (sym (head_is (tail_is two))) h.named, tail_is (tail_is two))

conform_is_none : (command : Command) → IsCommand command (conform ∷ []) → ⊥
conform_is_none command is = let (files, same, (e, h)) = is_conform command [] is in filled (e ∙ h.two)

protocol_is_none : (protocol : Word) (command : Command) → IsCommand command (conform ∷ protocol ∷ []) → ⊥
protocol_is_none protocol command is = let (files, same, (e, h)) = is_conform command (protocol ∷ []) is in filled (tail_is (e ∙ h.two))

-- what stands behind the options of "compile" are sources
compile_files : (command : Command) (folder : Option Word) (rest : List Word) → (folder ≡ None → (r : List Word) → rest ≡ out ∷ r → ⊥)
    → IsCommand command (compile ∷ (out_words folder ++ rest)) → AreSourceNames rest
compile_files command folder rest plain is =
    let (d, files, same, (e, name, each)) = is_compile command (out_words folder ++ rest) is in files_behind AreSourceNames no_source d
    files folder rest plain e each

class_folder_word : (command : Command) (f : Word) (rest : List Word) → IsCommand command (compile ∷ out ∷ f ∷ rest) → IsFileName f
class_folder_word command f rest is =
    let (d, files, same, (e, name, each)) = is_compile command (out ∷ f ∷ rest) is in folder_behind AreSourceNames no_source d files f rest
    e name each

class_out_is_none : (command : Command) → IsCommand command (compile ∷ out ∷ []) → ⊥
class_out_is_none command is =
    let (d, files, same, (e, name, each)) = is_compile command (out ∷ []) is in folder_lacks AreSourceNames no_source d files e each

-- ---- what is judged: where words are lacking, and where one can't follow

pub few : (words rest : List Word) → length rest ≡ 0 → CanBegin AreCommand words → ((command : Command) → IsCommand command words → ⊥)
    → AreWrong (words ++ rest) None
few words rest e can isnt =
    subst (λ (ws : List Word). AreWrong ws None) (sym (ap (λ (z : List Word). words ++ z) (empty_is rest e) ∙ nothing_behind words))
    (can, λ k. isnt k.0 k.1)

pub few_none : (rest : List Word) → length rest ≡ 0 → AreWrong rest None
few_none rest e = few [] rest e begins_empty none_is_none

pub few_conform : (rest : List Word) → length rest ≡ 0 → AreWrong (conform ∷ rest) None
few_conform rest e = few (conform ∷ []) rest e begins_conform conform_is_none

pub few_protocol : (rest : List Word) (protocol : Word) (more : List Word) → rest ≡ protocol ∷ more → IsFileOf (codes ".scr") protocol
    → length more ≡ 0 → AreWrong (conform ∷ rest) None
few_protocol rest protocol more is h e =
    subst (λ (z : List Word). AreWrong (conform ∷ z) None) (sym is) (few (conform ∷ protocol ∷ []) more e (begins_protocol protocol h)
    (protocol_is_none protocol))

no_sources : (command : Command) (folder : Option Word) → IsCommand command (compile ∷ (out_words folder ++ [])) → ⊥
no_sources command folder is = (compile_files command folder [] (λ n r. filled) is).0 refl

pub few_class_out : (rest : List Word) → length rest ≡ 0 → AreWrong (compile ∷ out ∷ rest) None
few_class_out rest e = few (compile ∷ out ∷ []) rest e begins_class_out class_out_is_none

pub few_sources : (folder : Option Word) (files : List Word) → IfSome folder IsFileName → length files ≡ 0
    → AreWrong (compile ∷ (out_words folder ++ files)) None
few_sources folder files name e =
    subst (λ (z : List Word). AreWrong (compile ∷ (out_words folder ++ z)) None) (sym (empty_is files e)) (
      begins_classes folder [] name (none_yet _),
      λ k. no_sources k.0 folder k.1,
    )

-- the word behind words that can begin a command is the first wrong one, where the words can't begin one with it
pub first_wrong : (before : List Word) (word : Word) (more : List Word) → CanBegin AreCommand before
    → (CanBegin AreCommand (before ++ word ∷ []) → ⊥) → AreWrong (before ++ word ∷ more) (Some word)
first_wrong before word more can cannot = record { before = before; after = more; stands = refl; begins = can; wrong = cannot }

-- the same of words that are told by their first and the rest
pub wrong_at : (before rest : List Word) (word : Word) (more : List Word) → rest ≡ word ∷ more → CanBegin AreCommand before
    → (CanBegin AreCommand (before ++ word ∷ []) → ⊥) → AreWrong (before ++ rest) (Some word)
wrong_at before rest word more e can cannot = subst (λ (ws : List Word). AreWrong (before ++ ws) (Some word)) (sym e)
    (first_wrong before word more can cannot)

pub wrong_command : (word : Word) (rest : List Word) → (word ≡ fit → ⊥) → (word ≡ translate → ⊥) → (word ≡ client → ⊥) →
    (word ≡ conform → ⊥)
    → (word ≡ check → ⊥) → (word ≡ compile → ⊥) → (word ≡ run → ⊥) → (word ≡ exec → ⊥) → (word ≡ refine → ⊥)
    → (word ≡ project → ⊥) → (word ≡ load → ⊥) → (word ≡ verify → ⊥) → (word ≡ show → ⊥) → AreWrong (word ∷ rest) (Some word)
wrong_command word rest no_fit no_translate no_client no_conform no_check no_compile no_run no_exec no_refine no_project no_load no_verify
    no_show =
    first_wrong [] word rest begins_empty (λ b. cannot b.1.0 (head_is b.1.1.1)) where
      cannot : (command : Command) → word ≡ verb command → ⊥
      cannot (Translate package_name folder files) = no_translate
      cannot (Client package_name folder files) = no_client
      cannot (Conform files) = no_conform
      cannot (Check all files) = no_check
      cannot (Compile folder files) = no_compile
      cannot (Run asked files) = no_run
      cannot (Exec asked files) = no_exec
      cannot (Refine files) = no_refine
      cannot (Project folder files) = no_project
      cannot (Load branches seed) = no_load
      cannot (Verify files) = no_verify
      cannot (Fit roles files) = no_fit
      cannot (Show files) = no_show

pub wrong_protocol : (rest : List Word) (word : Word) (more : List Word) → rest ≡ word ∷ more → (IsFileOf (codes ".scr") word → ⊥)
    → AreWrong (conform ∷ rest) (Some word)
wrong_protocol rest word more e isnt = wrong_at (conform ∷ []) rest word more e begins_conform
    (λ b. isnt (protocol_word b.1.0 word b.0 b.1.1))

pub wrong_calls : (rest : List Word) (protocol word : Word) (more more' : List Word) → rest ≡ protocol ∷ more → more ≡ word ∷ more'
    → IsFileOf (codes ".scr") protocol → (IsFileName word → ⊥) → AreWrong (conform ∷ rest) (Some word)
wrong_calls rest protocol word more more' e e' h isnt =
    subst (λ (ws : List Word). AreWrong (conform ∷ ws) (Some word)) (sym e)
    (wrong_at (conform ∷ protocol ∷ []) more word more' e' (begins_protocol protocol h)
    (λ b. isnt (calls_word b.1.0 protocol word b.0 b.1.1).0))

pub wrong_third : (rest : List Word) (protocol calls word : Word) (more more' more'' : List Word) → rest ≡ protocol ∷ more
    → more ≡ calls ∷ more' → more' ≡ word ∷ more'' → IsFileOf (codes ".scr") protocol → IsFileName calls
    → AreWrong (conform ∷ rest) (Some word)
wrong_third rest protocol calls word more more' more'' e e' e'' h h' =
    subst (λ (ws : List Word). AreWrong (conform ∷ ws) (Some word)) (sym (e ∙ ap (λ (z : List Word). protocol ∷ z) e'))
    (wrong_at (conform ∷ protocol ∷ calls ∷ []) more' word more'' e'' (begins_calls protocol calls h h')
    (λ b. filled (sym (calls_word b.1.0 protocol calls (word ∷ b.0) b.1.1).1)))

-- words that don't begin with the option don't with other words at their end
pub still_plain : (option : Word) (before : List Word) (word : Word) (after more : List Word)
    → ((r : List Word) → before ++ word ∷ after ≡ option ∷ r → ⊥) → (r : List Word) → before ++ word ∷ more ≡ option ∷ r → ⊥
still_plain option [] word after more plain r e = plain after (ap (λ (w : Word). w ∷ after) (head_is e))
still_plain option (b ∷ bs) word after more plain r e =
    plain (bs ++ word ∷ after) (ap (λ (w : Word). w ∷ (bs ++ word ∷ after)) (head_is e))

pub wrong_class_folder : (rest : List Word) (word : Word) (more : List Word) → rest ≡ word ∷ more → (IsFileName word → ⊥)
    → AreWrong (compile ∷ out ∷ rest) (Some word)
wrong_class_folder rest word more e isnt = wrong_at (compile ∷ out ∷ []) rest word more e begins_class_out
    (λ b. isnt (class_folder_word b.1.0 word b.0 b.1.1))

pub wrong_class_source : (folder : Option Word) (files : List Word) (word : Word) → IfSome folder IsFileName
    → (folder ≡ None → (r : List Word) → files ≡ out ∷ r → ⊥)
    → IsFirstOther IsSourceName files (Some word) → AreWrong (compile ∷ (out_words folder ++ files)) (Some word)
wrong_class_source folder files word name plain (before, after, is, each, isnt) = record {
  before = compile ∷ (out_words folder ++ before);
  after = after;
  stands = ap (λ (z : List Word). compile ∷ z) (ap (λ (z : List Word). out_words folder ++ z) is ∙
      sym (append_assoc (out_words folder) before (word ∷ after)));
  begins = begins_classes folder before name each;
  wrong = λ b. isnt (found b);
} where
  found : CanBegin AreCommand ((compile ∷ (out_words folder ++ before)) ++ word ∷ []) → IsSourceName word
  found (more, (command, k)) =
      let split : ((compile ∷ (out_words folder ++ before)) ++ word ∷ []) ++ more
      ≡ compile ∷ (out_words folder ++ (before ++ word ∷ more)) =
      append_assoc (compile ∷ (out_words folder ++ before)) (word ∷ []) more ∙ ap (λ (z : List Word). compile ∷ z)
      (append_assoc (out_words folder) before (word ∷ more)) in
      let there : IsCommand command (compile ∷ (out_words folder ++ (before ++ word ∷ more))) = subst (IsCommand command) split k in
      let still = λ (n : folder ≡ None). still_plain out before word after more (λ r e. plain n r (is ∙ e)) in
      All-mid IsSourceName before word more (compile_files command folder (before ++ word ∷ more) still there).1

-- the names of files of a program tell of which kinds they are
pub have_kinds : (files : List Word) → AreSourceNames files → HaveKinds files
have_kinds files (some, each) k d lt = (each k d lt).1

pub kinds_of_classes : (words : List Word) (folder : Option Word) (files : List Word) → IsCommand (Compile folder files) words
    → HaveKinds files
kinds_of_classes words folder files (r, e, (behind, name, are)) = have_kinds files are

pub kinds_of : (words : List Word) (all : Bool) (files : List Word) → IsCommand (Check all files) words → HaveKinds files
kinds_of words all files (r, e, (behind, are)) = have_kinds files are

pub kinds_of_show : (words files : List Word) → IsCommand (Show files) words → HaveKinds files
kinds_of_show words files (r, e, (behind, are)) = have_kinds files are

pub kinds_of_run : (words : List Word) (asked : Asked) (files : List Word) → IsCommand (Run asked files) words → HaveKinds files
kinds_of_run words asked files (r, e, (options, behind, how, are)) = have_kinds files are

pub protocols_of : (words files : List Word) (package_name folder : Option Word) → IsCommand (Translate package_name folder files) words
    → All (IsFileOf (codes ".scr")) files
protocols_of words files package_name folder (r, e, (options, behind, how, are)) = are.1

pub protocols_of_client : (words files : List Word) (package_name folder : Option Word) → IsCommand (Client package_name folder files) words
    → All (IsFileOf (codes ".scr")) files
protocols_of_client words files package_name folder (r, e, (options, behind, how, are)) = are.1

-- words that are a command aren't wrong
pub wrong_is_none : (words : List Word) (word : Option Word) (command : Command) → AreWrong words word → IsCommand command words → ⊥
wrong_is_none words None command h is = h.1 (command, is)
wrong_is_none words (Some word) command h is =
    h.wrong (h.after, (command, subst (IsCommand command) (h.stands ∙ sym (append_assoc h.before (word ∷ []) h.after)) is))

-- words are one command at most, where `run` is
pub same_compile : (command : Command) (folder : Option Word) (files rest : List Word) → IsBehind (Compile folder files) rest
    → IsCommand command (compile ∷ rest)
    → Compile folder files ≡ command
same_compile command folder files rest (e, name, each) is =
    let (d, g, same, (e', name', each')) = is_compile command rest is in
    let (one, other) = same_folder AreSourceNames no_source folder d files g (sym e ∙ e') each each' in
    (λ i. Compile (one i) (other i)) ∙ sym same

pub same_conform : (command : Command) (files rest : List Word) → IsBehind (Conform files) rest → IsCommand command (conform ∷ rest)
    → Conform files ≡ command
same_conform command files rest (e, two) is = let (g, same, (e', two')) = is_conform command rest is in ap Conform (sym e ∙ e') ∙ sym same

-- ---- the end of a file's name

-- what ends with these bytes has something in front of them
pub ends_is : (word suffix : List ℕ) → ends_with eqb word suffix ≡ true → EndsWith suffix word
ends_is word suffix h =
    let k : ℕ = length word - length suffix in
    let tail : suffix ≡ drop k word = (bytes_eq-Decides suffix (drop k word)).0 h in
    (take k word, sym (take-append-drop k word) ∙ ap (λ (z : List ℕ). take k word ++ z) (sym tail))

pub is_ends : (word suffix : List ℕ) → EndsWith suffix word → ends_with eqb word suffix ≡ true
is_ends word suffix (front, e) =
    let at : length front ≡ length word - length suffix = omega (arith, ap length e, length-append front suffix) in
    let tail : drop (length word - length suffix) word ≡ suffix =
    rw e (drop_at front suffix _ (at ∙ ap (λ (z : Word). length z - length suffix) e)) in
    (bytes_eq-Decides suffix (drop (length word - length suffix) word)).1 (sym tail)

-- the name of a file is one of a program's, by its ending
pub source_of_kind : (kind : Kind) (word : Word) → IsFileOf (suffix_of kind) word → IsSourceName word
source_of_kind kind word h = (h.0, (kind, h.1))

-- it ends in none but these
pub other_kinds : (r : Bool) (word : Word) → (IsFileOf (codes ".scr") word → ⊥) → (IsFileOf (codes ".protocol") word → ⊥)
    → (r ≡ true → IsFileOf (codes ".java") word) × (IsFileOf (codes ".java") word → r ≡ true)
    → (r ≡ true → IsSourceName word) × (IsSourceName word → r ≡ true)
other_kinds r word no_protocol no_states java = (λ t. source_of_kind Java word (java.0 t), by_kind) where
  by_kind : IsSourceName word → r ≡ true
  by_kind (name, (Scribble, ends)) = absurd (no_protocol (name, ends))
  by_kind (name, (Typestates, ends)) = absurd (no_states (name, ends))
  by_kind (name, (Java, ends)) = java.1 (name, ends)

pub refuted : {P : Type 0} → (P → false ≡ true) → P → ⊥
refuted f p = let e : false ≡ true = f p in cc

-- a word's bytes don't begin with "-", and whether they end with the suffix tells whether it is the name of such a file
pub file_is : (r : Bool) (word suffix bytes : List ℕ) → bytes ≡ word → 1 ≤ length bytes → (get_or bytes 0 0 ≡ 45 → ⊥)
    → r ≡ ends_with eqb bytes suffix → (r ≡ true → IsFileOf suffix word) × (IsFileOf suffix word → r ≡ true)
file_is r word suffix [] e above isnt is = absurd (omega arith)
file_is r word suffix (b ∷ bs) e above isnt is = (
  λ t. subst (IsFileOf suffix) e (isnt, ends_is (b ∷ bs) suffix (sym is ∙ t)),
  λ h. is ∙ is_ends (b ∷ bs) suffix (subst (IsFileOf suffix) (sym e) h).1,
)

-- ---- the bytes of a name

both : (a b : Bool) → (a && b) ≡ true → (a ≡ true) × (b ≡ true)
both true b e = (refl, e)
both false b e = absurd cc

all_pass : (p : ℕ → Bool) (bytes : List ℕ) → list_all p bytes ≡ true → AllPasses p bytes
all_pass p [] e = tt
all_pass p (c ∷ cs) e = let h = both (p c) (list_all p cs) e in (h.0, all_pass p cs h.1)

pass_all : (p : ℕ → Bool) (bytes : List ℕ) → AllPasses p bytes → list_all p bytes ≡ true
pass_all p [] h = refl
pass_all p (c ∷ cs) (first, rest) = rw first (pass_all p cs rest)

-- whether all bytes pass tells whether they all pass
pub passes_is : (r : Bool) (p : ℕ → Bool) (bytes : List ℕ) → r ≡ list_all p bytes
    → (r ≡ true → AllPasses p bytes) × (AllPasses p bytes → r ≡ true)
passes_is r p bytes e = (λ t. all_pass p bytes (sym e ∙ t), λ h. e ∙ pass_all p bytes h)

-- ---- words in the code

-- words, cut at one of them
pub at_index : (words : List Word) (i : ℕ) (word : Word) → i < length words → word ≡ get_or words i word
    → words ≡ take i words ++ word ∷ drop (suc i) words
at_index words i word within is =
    sym (take-append-drop i words) ∙ ap (λ (z : List Word). take i words ++ z) (drop-cons words i word within ∙
    ap (λ (z : Word). z ∷ drop (suc i) words) (sym is))

-- an option of a folder, seen through a reference
pub named_folder : (folder : Option (Bor Word)) → IfSome folder (λ f. IsFileName f.now)
    → IfSome (option_map (λ f. f.now) folder) IsFileName
named_folder None h = tt
named_folder (Some f) h = h

pub no_folder : (folder : Option (Bor Word)) → option_map (λ f. f.now) folder ≡ None → folder ≡ None
no_folder None e = refl
no_folder (Some f) e = let no : ⊥ = cc in absurd no

-- words whose folder is lacking, or can't be one
pub wrong_placed : (first : Word) → AreWrong (first ∷ out ∷ []) None
    → ((word : Word) (rest : List Word) → (IsFileName word → ⊥) → AreWrong (first ∷ out ∷ word ∷ rest) (Some word))
    → (words : List Word) (word : Option (Bor Word)) → IsPlaced words (placed.Wrong word)
    → AreWrong (first ∷ words) (option_map (λ w. w.now) word)
wrong_placed first few wrong words None e = subst (λ (z : List Word). AreWrong (first ∷ z) None) (sym e) few
wrong_placed first few wrong words (Some word) (rest, e, isnt) =
    subst (λ (z : List Word). AreWrong (first ∷ z) (Some word.now)) (sym e) (wrong word.now rest isnt)

-- words with a folder, or without one, and then these files
pub placed_at : (first : Word) (words before files : List Word) (word : Option Word) → words ≡ before ++ files
    → AreWrong (first ∷ (before ++ files)) word → AreWrong (first ∷ words) word
placed_at first words before files word e h = subst (λ (z : List Word). AreWrong (first ∷ z) word) (sym e) h
