-- What judging the words may answer.
use Rattle.std.specs.Borrow.{Bor}
use Rattle.std.specs.Fmt.{decimal}
use Rattle.std.specs.Prelude.{◌≡◌, ◌≢◌, ◌<◌, ◌≤◌, ◌^◌, ℕ, List, [], ◌∷◌, ◌++◌, All, Contains, map, flat_map, filter, filter_map, Bool, true}
use Rattle.std.specs.Prelude.{false, ◌&&◌, not, ◌==◌, Option, Some, None, IfSome, is_some, option_map, option_to_list, codes, if◌then◌else◌}
use Rattle.std.specs.Prelude.{⊤}
use Rattle.std.specs.List.{IsDistinct, list_any, list_all, slice_split, before_first, after_first}
use Rattle.std.specs.Str.{bytes_eq}
use Rattle.mg_words.specs.declared.asked.Asked.{Asked as Kept}
use Rattle.mg_words.specs.declared.asked.RoleClass.{RoleClass as KeptRole}
use Rattle.mg_words.specs.Words.{Word, RoleClass, Roles, Alone, Several, role_names, Asked, Command, Translate, Client, Conform, Check}
use Rattle.mg_words.specs.Words.{Compile}
use Rattle.mg_words.specs.Words.{Run, Exec, Refine, Project, Load, Verify, Fit, Show, all_words, IsFileOf, IsSourceName, IsCommand, AreWrong, RunOption, Main}
use Rattle.mg_words.specs.Words.{Role}
use Rattle.mg_words.specs.Words.{Order, Steps, Trace, Out, option_words, IsOption, class_in, role_in, order_in, steps_in, is_trace}
use Rattle.mg_words.specs.Words.{folder_in, AreOptions, IsFileName, out_words, TargetOption, target_words, AreTargets}
use Rattle.mg_words.specs.Words.{role_words, HasNames}
use Rattle.mg_words.specs.declared.asked.Cast.{Cast}
use Rattle.mg_words.specs.declared.words.Command.{Command as Found}
use Rattle.mg_words.specs.declared.words.Command.TheVariants as found
use Rattle.mg_words.specs.declared.words.Judged.{Judged}
use Rattle.mg_words.specs.declared.words.Judged.TheVariants as judged
use Rattle.mg_words.specs.declared.checks.Split.{Split}
use Rattle.mg_words.specs.declared.words.Placed.{Placed}
use Rattle.mg_words.specs.declared.words.Placed.TheVariants as placed
use Rattle.mg_words.specs.declared.roles.RoleWord.{RoleWord}
use Rattle.mg_words.specs.declared.runs.Input.{Input}
use Rattle.mg_words.specs.declared.runs.Input.TheVariants as input
use Rattle.mg_words.specs.declared.targets.Made.{Made}
use Rattle.mg_words.specs.declared.targets.Made.TheVariants as kinds
use Rattle.mg_words.specs.declared.options.Named.{Named}
use Rattle.mg_words.specs.declared.options.Named.TheVariants as named
use Rattle.mg_words.specs.declared.options.Step.{Step}
use Rattle.mg_words.specs.declared.options.Step.TheVariants as step

-- the role and the class that a word names, with the first "=" between them
abbrev pub role_read : Word → RoleClass
role_read word = record { role = before_first (λ b. b == 61) word; class = after_first (λ b. b == 61) word }

-- the role that a word names together with the one behind it
abbrev pub roles_at : Word → List Word → List RoleClass
roles_at word [] = []
roles_at word (value ∷ rest) = if bytes_eq word (codes "--role") then role_read value ∷ [] else []

-- the roles that the words of options name
abbrev pub roles_in : List Word → List RoleClass
roles_in [] = []
roles_in (word ∷ rest) = roles_at word rest ++ roles_in rest

-- the names that a word names, with "," between them
abbrev pub names_in : Word → List Word
names_in = slice_split (λ b. b == 44)

-- the same of what is left of a word, if anything is
abbrev pub names_left : Option (Bor Word) → List Word
names_left None = []
names_left (Some word) = names_in word.now

abbrev pub has_name : List Word → Word → Bool
has_name names name = list_any (bytes_eq name) names

-- the roles that run: those that were named, or that of a class
abbrev pub roles_with : Option Word → List RoleClass → Roles
roles_with None roles = Several roles
roles_with (Some class) roles = Alone class

-- what a run is asked for, where its words name these roles
abbrev pub asked_with : List RoleClass → Kept → Asked
asked_with roles a = record {
  roles = roles_with (option_map (λ w. w.now) a.class) roles;
  order = option_map (λ w. names_in w.now) a.order;
  steps = a.steps;
  traced = a.traced;
  folder = option_map (λ w. w.now) a.folder;
}

-- what a run is asked for
abbrev pub asked_of : Kept → Asked
asked_of a = asked_with (roles_in a.words.now) a

-- some words ask for this
abbrev pub IsAsked : Asked → Type 0
IsAsked asked = (words : List Word) × AreOptions asked words

abbrev pub role_class_of : KeptRole → RoleClass
role_class_of r = record { role = r.role; class = r.class }

abbrev pub role_classes_of : List KeptRole → List RoleClass
role_classes_of = map role_class_of

abbrev pub role_word_of : RoleWord → RoleClass
role_word_of r = record { role = r.role.now; class = r.class.now }

-- the roles that a cast names
abbrev pub cast_of : Cast → List RoleClass
cast_of cast = roles_in cast.words.now

-- the command that was found
abbrev pub command_of : Found → Command
command_of (found.Translate package_name folder files) = Translate (option_map (λ w. w.now) package_name) (option_map (λ w. w.now) folder) files.now
command_of (found.Client package_name folder files) = Client (option_map (λ w. w.now) package_name) (option_map (λ w. w.now) folder)
    files.now
command_of (found.Conform files) = Conform files.now
command_of (found.Check all files) = Check all files.now
command_of (found.Compile folder files) = Compile (option_map (λ w. w.now) folder) files.now
command_of (found.Run asked files) = Run (asked_of asked) files.now
command_of (found.Exec asked files) = Exec (asked_of asked) files.now
command_of (found.Refine files) = Refine files.now
command_of (found.Project folder files) = Project (option_map (λ w. w.now) folder) files.now
command_of (found.Load branches seed) = Load branches seed
command_of (found.Verify files) = Verify files.now
command_of (found.Fit cast files) = Fit (cast_of cast) files.now
command_of (found.Show files) = Show files.now

-- the command that runs this, with what is asked for
abbrev pub made : Input → Asked → (files : List Word) → Command
made input.Sources asked files = Run asked files
made input.Classes asked files = Exec asked files

abbrev pub verb_of : Input → Word
verb_of input.Sources = codes "run"
verb_of input.Classes = codes "exec"

-- the name of a file that it may have
abbrev pub IsFor : Input → Word → Type 0
IsFor input.Sources word = IsSourceName word
IsFor input.Classes word = IsFileOf (codes ".class") word

abbrev pub AreFor : Input → List Word → Type 0
AreFor k files = (files ≢ []) × All (IsFor k) files

-- no folder is named for class files that are there
abbrev pub Keeps : Input → (folder : Option Word) → Type 0
Keeps input.Sources folder = ⊤
Keeps input.Classes folder = folder ≡ None

-- some words are this command
abbrev pub IsKnown : Command → Type 0
IsKnown command = (words : List Word) × IsCommand command words

-- the command that the words are, or what makes them none
abbrev pub IsJudged : List Word → Judged → Type 0
IsJudged words (judged.Known command) = IsCommand (command_of command) words
IsJudged words (judged.Wrong word) = AreWrong words (option_map (λ w. w.now) word)

-- the folder that words begin with, if they do, and the words behind it, or what makes that none
abbrev pub IsPlaced : List Word → Placed → Type 0
IsPlaced words (placed.In folder files) =
    (words ≡ out_words (option_map (λ f. f.now) folder) ++ files.now) × IfSome folder (λ f. IsFileName f.now)
    × (folder ≡ None → (rest : List Word) → files.now ≡ codes "--out" ∷ rest → ⊥)
IsPlaced words (placed.Wrong None) = words ≡ codes "--out" ∷ []
IsPlaced words (placed.Wrong (Some word)) =
    (rest : List Word) × (words ≡ codes "--out" ∷ word.now ∷ rest) × (IsFileName word.now → ⊥)

-- whether the option by which all is told stands first, and the words behind it
abbrev pub IsSplit : List Word → Split → Type 0
IsSplit words s =
    (words ≡ all_words s.all ++ s.files.now) × (s.all ≡ false → (rest : List Word) → s.files.now ≡ codes "--all" ∷ rest → ⊥)

-- the first word of which this doesn't hold, or none where it holds of all
abbrev pub IsFirstOther : (Word → Type 0) → List Word → Option Word → Type 0
IsFirstOther P words None = All P words
IsFirstOther P words (Some word) =
    (before : List Word) × (after : List Word) × (words ≡ before ++ word ∷ after) × All P before × (P word → ⊥)

-- the number that a word names: decimal, and below 2 ^ 64
abbrev pub IsNumber : Word → Option ℕ → Type 0
IsNumber word (Some n) = (word ≡ decimal n) × (n < 2 ^ 64)
IsNumber word None = (n : ℕ) → n < 2 ^ 64 → word ≡ decimal n → ⊥

-- the same of a number from 1 to a most
abbrev pub IsUpTo : (most : ℕ) → Word → Option ℕ → Type 0
IsUpTo most word (Some n) = (word ≡ decimal n) × (1 ≤ n) × (n ≤ most)
IsUpTo most word None = (n : ℕ) → 1 ≤ n → n ≤ most → word ≡ decimal n → ⊥

-- a digit other than 0 stands first
abbrev pub StartsNumber : Word → Type 0
StartsNumber [] = ⊥
StartsNumber (c ∷ cs) = (49 ≤ c) × (c ≤ 57)

-- nothing is asked for
abbrev pub unasked : Asked
unasked = record { roles = Several []; order = None; steps = None; traced = false; folder = None }

-- what options ask for of roles so far, where more may follow: an order names each role so far
abbrev pub NamesEach : Option (List Word) → List RoleClass → Type 0
NamesEach order roles = IfSome order (λ names. All (Contains names) (role_names roles))

abbrev pub AreRolesSoFar : Roles → Option (List Word) → List RunOption → Type 0
AreRolesSoFar (Alone class) order options =
    (filter_map class_in options ≡ class ∷ []) × (filter_map role_in options ≡ []) × (order ≡ None)
AreRolesSoFar (Several roles) order options =
    (filter_map class_in options ≡ []) × (filter_map role_in options ≡ roles) × IsDistinct bytes_eq (role_names roles)
    × NamesEach order roles

-- these options ask for this so far
pub record AreGiven (options : List RunOption) (asked : Asked) : Type 0 where
  pub right : All IsOption options
  pub roles : AreRolesSoFar asked.roles asked.order options
  pub order : filter_map order_in options ≡ option_to_list asked.order
  pub steps : filter_map steps_in options ≡ option_to_list asked.steps
  pub traced : filter is_trace options ≡ (if asked.traced then Trace ∷ [] else [])
  pub folder : filter_map folder_in options ≡ option_to_list asked.folder

-- the words are options that ask for this, and the rest
pub record AreRead (words : List Word) (given : Kept) (rest : List Word) : Type 0 where
  pub options : List RunOption
  pub stand : words ≡ flat_map option_words options ++ rest
  pub kept : given.words.now ≡ flat_map option_words options
  pub asks : AreGiven options (asked_of given)

-- the word of an option
abbrev pub word_of : Named → Word
word_of named.Main = codes "--main"
word_of named.Role = codes "--role"
word_of named.Order = codes "--order"
word_of named.Steps = codes "--steps"
word_of named.Trace = codes "--trace"
word_of named.Out = codes "--out"

-- which option it is
abbrev pub kind_of : RunOption → Named
kind_of (Main class) = named.Main
kind_of (Role r) = named.Role
kind_of (Order names) = named.Order
kind_of (Steps n) = named.Steps
kind_of Trace = named.Trace
kind_of (Out folder) = named.Out

-- the option that a word is
abbrev pub IsNamed : Word → Option Named → Type 0
IsNamed word (Some option) = word ≡ word_of option
IsNamed word None = (option : Named) → word ≡ word_of option → ⊥

-- the option that may not stand where this is run
abbrev pub is_barred : Input → Named → Bool
is_barred input.Classes named.Out = true
is_barred k option = false

-- no option stands first
abbrev pub IsPlain : List Word → Type 0
IsPlain words = (option : Named) (rest : List Word) → words ≡ word_of option ∷ rest → ⊥

-- no role of this name was named, and no class alone
abbrev pub IsNewRole : Roles → Word → Type 0
IsNewRole (Alone class) name = ⊥
IsNewRole (Several roles) name = Contains (role_names roles) name → ⊥

-- no class alone was named, and these names are those of each role so far
abbrev pub AreAllNamed : Roles → List Word → Type 0
AreAllNamed (Alone class) names = ⊥
AreAllNamed (Several roles) names = All (Contains names) (role_names roles)

-- this can be asked for too
abbrev pub IsNew : RunOption → Asked → Type 0
IsNew (Main class) asked = (asked.roles ≡ Several []) × (asked.order ≡ None)
IsNew (Role r) asked = IsNewRole asked.roles r.role × IfSome asked.order (λ names. Contains names r.role)
IsNew (Order names) asked = AreAllNamed asked.roles names × (asked.order ≡ None)
IsNew (Steps n) asked = asked.steps ≡ None
IsNew Trace asked = asked.traced ≡ false
IsNew (Out folder) asked = asked.folder ≡ None

-- this option can follow those that ask for this
abbrev pub Fits : RunOption → Asked → Type 0
Fits option asked = IsOption option × IsNew option asked

-- a role of this name is wanted: an order, where there is one, names it
abbrev pub is_wanted : Option (List Word) → Word → Bool
is_wanted None name = true
is_wanted (Some names) name = has_name names name

-- some role may be named: an order, where there is one, names one that wasn't
abbrev pub lacks_role : List Word → Option (List Word) → Bool
lacks_role roles None = true
lacks_role roles (Some names) = not (list_all (has_name roles) names)

abbrev pub is_open : Roles → Option (List Word) → Bool
is_open (Alone class) order = false
is_open (Several roles) order = lacks_role (role_names roles) order

abbrev pub has_none : List RoleClass → Bool
has_none [] = true
has_none (r ∷ rs) = false

abbrev pub is_empty : Roles → Bool
is_empty (Alone class) = false
is_empty (Several roles) = has_none roles

abbrev pub is_several : Roles → Bool
is_several (Alone class) = false
is_several (Several roles) = true

-- whether an option of this word can follow: some such option fits
abbrev pub can_follow : Asked → Named → Bool
can_follow asked named.Main = is_empty asked.roles && not (is_some asked.order)
can_follow asked named.Role = is_open asked.roles asked.order
can_follow asked named.Order = is_several asked.roles && not (is_some asked.order)
can_follow asked named.Steps = not (is_some asked.steps)
can_follow asked named.Trace = not asked.traced
can_follow asked named.Out = not (is_some asked.folder)

-- whether the options can be all: a class was named, or a role, and each that an order names
abbrev pub are_whole : Roles → Option (List Word) → Bool
are_whole (Alone class) order = true
are_whole (Several roles) None = not (has_none roles)
are_whole (Several roles) (Some names) = list_all (has_name (role_names roles)) names

-- what is asked for with one more option
abbrev pub roles_more : Roles → RoleClass → Roles
roles_more (Alone class) r = Alone class
roles_more (Several roles) r = Several (roles ++ r ∷ [])

abbrev pub with_more : RunOption → Asked → Asked
with_more (Main class) asked = record asked { roles = Alone class }
with_more (Role r) asked = record asked { roles = roles_more asked.roles r }
with_more (Order names) asked = record asked { order = Some names }
with_more (Steps n) asked = record asked { steps = Some n }
with_more Trace asked = record asked { traced = true }
with_more (Out folder) asked = record asked { folder = Some folder }

-- the option and its value are these words, and it can follow
pub record IsRead (full : RunOption) (asked : Asked) (option : Named) (words rest : List Word) : Type 0 where
  pub spelled : word_of option ∷ words ≡ option_words full ++ rest
  pub right : IsOption full
  pub new : IsNew full asked

-- with one more option of this word and these words behind it, what is asked for is this
abbrev pub IsMore : Kept → Named → List Word → Kept → List Word → Type 0
IsMore given option words more rest =
    (full : RunOption) × IsRead full (asked_of given) option words rest
    × (asked_with (roles_in given.words.now ++ filter_map role_in (full ∷ [])) more ≡ with_more full (asked_of given))

-- no option of this word that can follow has this value
abbrev pub IsNoValue : Asked → Named → Word → Type 0
IsNoValue asked option value = (full : RunOption) → option_words full ≡ word_of option ∷ value ∷ [] → Fits full asked → ⊥

-- what is asked for with an option of this word and this value, if it can follow
abbrev pub IsWith : Kept → Named → Word → Option Kept → Type 0
IsWith given option value (Some more) = IsMore given option (value ∷ []) more []
IsWith given option value None = IsNoValue (asked_of given) option value

-- an option of this word was read, or its value is lacking, or can't be one, or the option itself can't follow
abbrev pub IsStep : Kept → Named → List Word → Step → Type 0
IsStep given option words (step.More more rest) = IsMore given option words more rest.now
IsStep given option words (step.Stuck None) = (can_follow (asked_of given) option ≡ true) × (option ≢ named.Trace) × (words ≡ [])
IsStep given option words (step.Stuck (Some value)) =
    (can_follow (asked_of given) option ≡ true) × (option ≢ named.Trace)
    × ((rest : List Word) × (words ≡ value.now ∷ rest) × IsNoValue (asked_of given) option value.now)
IsStep given option words step.Barred = can_follow (asked_of given) option ≡ false

-- what the words are, where these files stand behind options that ask for this
abbrev pub IsRunnable : Input → Asked → List Word → Judged → Type 0
IsRunnable k asked files result =
    (options : List RunOption) → AreGiven options asked → Keeps k asked.folder →
    IsJudged (verb_of k ∷ (flat_map option_words options ++ files)) result

-- a role of such a name can be named behind those of these names, with a class, by this word
abbrev pub CanBeNamed : List Word → Word → Type 0
CanBeNamed names word = HasNames (role_read word) × (Contains names (role_read word).role → ⊥)

-- the words name roles, which have these names, and then the rest
pub record AreNamed (words names rest : List Word) : Type 0 where
  pub roles : List RoleClass
  pub stand : words ≡ flat_map role_words roles ++ rest
  pub named : names ≡ role_names roles
  pub right : All HasNames roles
  pub distinct : IsDistinct bytes_eq names

-- what the words are, where these files stand behind the words of a cast
abbrev pub IsFitting : List Word → List Word → Judged → Type 0
IsFitting cast files result =
    (roles : List RoleClass) → cast ≡ flat_map role_words roles → All HasNames roles → IsDistinct bytes_eq (role_names roles) →
    IsJudged (codes "fit" ∷ (flat_map role_words roles ++ files)) result

-- the words are options that name this package and this folder, and then the rest
pub record AreTargeted (words : List Word) (package_name folder : Option Word) (rest : List Word) : Type 0 where
  pub options : List TargetOption
  pub stand : words ≡ flat_map target_words options ++ rest
  pub are : AreTargets package_name folder options

-- the command that makes this of protocols, and its word
abbrev pub making : Made → (package_name folder : Option Word) → (files : List Word) → Command
making kinds.Api package_name folder files = Translate package_name folder files
making kinds.Clients package_name folder files = Client package_name folder files

abbrev pub word_for : Made → Word
word_for kinds.Api = codes "translate"
word_for kinds.Clients = codes "client"

-- what the words are, where these files stand behind options that name this package and this folder
abbrev pub IsTranslated : Made → (package_name folder : Option Word) → List Word → Judged → Type 0
IsTranslated k package_name folder files result = (options : List TargetOption) → AreTargets package_name folder options →
    IsJudged (word_for k ∷ (flat_map target_words options ++ files)) result
