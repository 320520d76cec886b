-- The words of the command line: the lists of words that are commands, and the first word that can't follow.
use Rattle.std.specs.Prelude.{◌≡◌, ◌≢◌, ◌≤◌, ℕ, List, [], ◌∷◌, ◌++◌, All, Contains, length, map, flat_map, filter, filter_map, position}
use Rattle.std.specs.Prelude.{Bool, true, false, Option, Some, None, IfSome, unwrap_or, option_to_list, codes, if◌then◌else◌, ⊤}
use Rattle.std.specs.Fmt.{decimal}
use Rattle.std.specs.List.{IsDistinct, join_with_byte, range_with_len}
use Rattle.std.specs.Str.{bytes_eq}
use Rattle.scr_tree.specs.Words.{IsName}
use Rattle.mg_sources.specs.Files.{EndsWith, Kind, suffix_of}
use Rattle.api_package.specs.Package.{IsPackage}

abbrev pub Word : Type 0
Word = List ℕ

-- a role, and the class whose `main` it runs
pub record RoleClass : Type 0 where
  pub role : Word
  pub class : Word

-- whose `main` is run: that of a class, with no other role, or those of several roles, in the order of the words
pub data Roles : Type 0 where
  Alone : (class : Word) → Roles
  Several : (roles : List RoleClass) → Roles

-- what a run is asked for: its roles, the order in which they take turns, at most how many instructions it takes, whether its trace is
-- told, and the folder for class files
pub record Asked : Type 0 where
  pub roles : Roles
  pub order : Option (List Word)
  pub steps : Option ℕ
  pub traced : Bool
  pub folder : Option Word

-- where no number is named, a run takes at most a million instructions
abbrev pub limit_of : Asked → ℕ
limit_of asked = unwrap_or asked.steps 1000000

-- the roles of a run, each with its class: the role of a class that runs with no other is named `main`
abbrev pub mains_in : Roles → List RoleClass
mains_in (Alone class) = record { role = codes "main"; class = class } ∷ []
mains_in (Several roles) = roles

abbrev pub mains_of : Asked → List RoleClass
mains_of asked = mains_in asked.roles

abbrev pub role_names : List RoleClass → List Word
role_names mains = map (λ m. m.role) mains

-- the numbers of the roles in the order of their turns: as they are named, or each once in the order of the words
abbrev pub order_among : List Word → Option (List Word) → List ℕ
order_among roles (Some names) = filter_map (λ name. position (bytes_eq name) roles) names
order_among roles None = range_with_len 0 (length roles)

abbrev pub order_of : Asked → List ℕ
order_of asked = order_among (role_names (mains_of asked)) asked.order

-- what is printed of several roles begins with the role
abbrev pub are_several : Roles → Bool
are_several (Alone class) = false
are_several (Several roles) = true

abbrev pub are_named : Asked → Bool
are_named asked = are_several asked.roles

pub data Command : Type 0 where
  -- write the typestates and the Java files of these files' protocols: the Java files in a package, all into a folder, where one is named
  Translate : (package_name folder : Option Word) → (files : List Word) → Command
  -- write a client for each of these files' protocols, likewise
  Client : (package_name folder : Option Word) → (files : List Word) → Command
  -- tell whether the calls of the second file follow the protocol of the first
  Conform : (files : List Word) → Command
  -- tell what the least tables of these files' program have; or else what is wrong with the files, at first or all of it
  Check : (all : Bool) → (files : List Word) → Command
  -- write the class files of these files' program, into a folder where one is named
  Compile : (folder : Option Word) → (files : List Word) → Command
  -- run the `main`s of classes of these files' program
  Run : (asked : Asked) → (files : List Word) → Command
  -- run the `main`s of the classes of these class files
  Exec : (asked : Asked) → (files : List Word) → Command
  -- tell whether the typestate of the first file stands for that of the second
  Refine : (files : List Word) → Command
  -- write the local protocols of the roles of this file's global protocol, into a folder where one is named
  Project : (folder : Option Word) → (files : List Word) → Command
  -- run the workload of so many branches, whose order a number picks
  Load : (branches seed : ℕ) → Command
  -- tell how many methods these class files have, where each has a typing
  Verify : (files : List Word) → Command
  -- tell whether the program of these files but the first, run by these roles, fits the global protocol of the first
  Fit : (roles : List RoleClass) → (files : List Word) → Command
  -- tell what each variable of these files' program may be where a protocol method is called on it, and where the call leads
  Show : (files : List Word) → Command

-- the files that a command reads, in their order
abbrev pub files_of : Command → List Word
files_of (Translate package_name folder files) = files
files_of (Client package_name folder files) = files
files_of (Conform files) = files
files_of (Check all files) = files
files_of (Compile folder files) = files
files_of (Run asked files) = files
files_of (Exec asked files) = files
files_of (Refine files) = files
files_of (Project folder files) = files
files_of (Load branches seed) = []
files_of (Verify files) = files
files_of (Fit roles files) = files
files_of (Show files) = files

-- no name of a file or folder is empty or begins with "-"
abbrev pub IsFileName : Word → Type 0
IsFileName [] = ⊥
IsFileName (c ∷ cs) = c ≢ 45

-- the name of a file with this ending
abbrev pub IsFileOf : List ℕ → Word → Type 0
IsFileOf suffix word = IsFileName word × EndsWith suffix word

-- one or more names of files with this ending
abbrev pub AreFilesOf : List ℕ → List Word → Type 0
AreFilesOf suffix files = (files ≢ []) × All (IsFileOf suffix) files

-- the name of a file of a protocol, of a typestate, or of classes and enums
abbrev pub IsSourceName : Word → Type 0
IsSourceName word = IsFileName word × ((kind : Kind) × EndsWith (suffix_of kind) word)

-- one or more such names
abbrev pub AreSourceNames : List Word → Type 0
AreSourceNames files = (files ≢ []) × All IsSourceName files

-- the name of a file of a protocol, and that of a file of calls
pub record AreProtocolAndCalls (files : List Word) : Type 0 where
  pub protocol : Word
  pub calls : Word
  pub two : files ≡ protocol ∷ calls ∷ []
  pub scribble : IsFileOf (codes ".scr") protocol
  pub named : IsFileName calls

-- the names of two files of typestates
pub record AreTwoTypestates (files : List Word) : Type 0 where
  pub first : Word
  pub second : Word
  pub two : files ≡ first ∷ second ∷ []
  pub of_first : IsFileOf (codes ".protocol") first
  pub of_second : IsFileOf (codes ".protocol") second

-- the name of one file of a protocol
pub record IsOneProtocol (files : List Word) : Type 0 where
  pub file : Word
  pub one : files ≡ file ∷ []
  pub scribble : IsFileOf (codes ".scr") file

-- the name of a file of a global protocol, and one or more of a program's
pub record AreGlobalAndSources (files : List Word) : Type 0 where
  pub global : Word
  pub sources : List Word
  pub stand : files ≡ global ∷ sources
  pub scribble : IsFileOf (codes ".scr") global
  pub are : AreSourceNames sources

-- how many branches a workload may have, and which numbers may pick their order
pub record IsWorkload (branches seed : ℕ) : Type 0 where
  pub some : 1 ≤ branches
  pub most : branches ≤ 400
  pub picks : seed ≤ 18446744073709551615

-- the option that names a folder
abbrev pub out_words : Option Word → List Word
out_words None = []
out_words (Some folder) = codes "--out" ∷ folder ∷ []

-- the option by which all that is wrong is told
abbrev pub all_words : Bool → List Word
all_words false = []
all_words true = codes "--all" ∷ []

-- The options of a translation: the package of its Java files, and the folder for all of them.
pub data TargetOption : Type 0 where
  Package : (name : Word) → TargetOption
  Folder : (name : Word) → TargetOption

abbrev pub target_words : TargetOption → List Word
target_words (Package name) = codes "--package" ∷ name ∷ []
target_words (Folder name) = codes "--out" ∷ name ∷ []

-- what an option may name
abbrev pub IsTarget : TargetOption → Type 0
IsTarget (Package name) = IsPackage name
IsTarget (Folder name) = IsFileName name

-- the package and the folder that an option names
abbrev pub target_package : TargetOption → Option Word
target_package (Package name) = Some name
target_package (Folder name) = None

abbrev pub target_folder : TargetOption → Option Word
target_folder (Package name) = None
target_folder (Folder name) = Some name

-- These are options, in any order and each at most once, that name this package and this folder.
pub record AreTargets (package_name folder : Option Word) (options : List TargetOption) : Type 0 where
  pub right : All IsTarget options
  pub packages : filter_map target_package options ≡ option_to_list package_name
  pub folders : filter_map target_folder options ≡ option_to_list folder

-- the option that names a role and its class, between which stands "="
abbrev pub role_words : RoleClass → List Word
role_words r = codes "--role" ∷ (r.role ++ 61 ∷ r.class) ∷ []

-- roles and classes have names as Scribble has them
abbrev pub HasNames : RoleClass → Type 0
HasNames r = IsName r.role × IsName r.class

-- one role or more, no two of one name, each with its class
pub record AreCast (roles : List RoleClass) : Type 0 where
  pub some : roles ≢ []
  pub named : All HasNames roles
  pub distinct : IsDistinct bytes_eq (role_names roles)

-- The options of a run.
pub data RunOption : Type 0 where
  Main : (class : Word) → RunOption
  Role : (main : RoleClass) → RunOption
  Order : (names : List Word) → RunOption
  Steps : (n : ℕ) → RunOption
  Trace : RunOption
  Out : (folder : Word) → RunOption

-- between the names of an order stands ","
abbrev pub option_words : RunOption → List Word
option_words (Main class) = codes "--main" ∷ class ∷ []
option_words (Role r) = role_words r
option_words (Order names) = codes "--order" ∷ join_with_byte 44 names ∷ []
option_words (Steps n) = codes "--steps" ∷ decimal n ∷ []
option_words Trace = codes "--trace" ∷ []
option_words (Out folder) = codes "--out" ∷ folder ∷ []

-- what an option may name
abbrev pub IsOption : RunOption → Type 0
IsOption (Main class) = IsName class
IsOption (Role r) = HasNames r
IsOption (Order names) = (names ≢ []) × All IsName names
IsOption (Steps n) = (1 ≤ n) × (n ≤ 20000000)
IsOption Trace = ⊤
IsOption (Out folder) = IsFileName folder

-- the class, the role, the order, the number and the folder that an option names
abbrev pub class_in : RunOption → Option Word
class_in (Main class) = Some class
class_in _ = None

abbrev pub role_in : RunOption → Option RoleClass
role_in (Role r) = Some r
role_in _ = None

abbrev pub order_in : RunOption → Option (List Word)
order_in (Order names) = Some names
order_in _ = None

abbrev pub steps_in : RunOption → Option ℕ
steps_in (Steps n) = Some n
steps_in _ = None

abbrev pub folder_in : RunOption → Option Word
folder_in (Out folder) = Some folder
folder_in _ = None

abbrev pub is_trace : RunOption → Bool
is_trace Trace = true
is_trace _ = false

-- an order names only these roles, and each of them at least once
pub record IsOrder (roles names : List Word) : Type 0 where
  pub only : All (Contains roles) names
  pub each : All (Contains names) roles

-- One class was named, and neither a role nor an order; or no class, but one role or more, no two of one name, and where there is an order
-- it names only these roles, and each.
abbrev pub AreRoles : Roles → Option (List Word) → List RunOption → Type 0
AreRoles (Alone class) order options = (filter_map class_in options ≡ class ∷ []) × (filter_map role_in options ≡ []) × (order ≡ None)
AreRoles (Several roles) order options =
    (filter_map class_in options ≡ []) × (filter_map role_in options ≡ roles) × (roles ≢ []) × IsDistinct bytes_eq (role_names roles)
    × IfSome order (IsOrder (role_names roles))

-- These words are options, in any order and each once but for those of roles, that name what is asked for.
pub record AreOptions (asked : Asked) (words : List Word) : Type 0 where
  pub options : List RunOption
  pub written : words ≡ flat_map option_words options
  pub right : All IsOption options
  pub roles : AreRoles asked.roles asked.order options
  pub order : filter_map order_in options ≡ option_to_list asked.order
  pub steps : filter_map steps_in options ≡ option_to_list asked.steps
  pub traced : filter is_trace options ≡ (if asked.traced then Trace ∷ [] else [])
  pub folder : filter_map folder_in options ≡ option_to_list asked.folder

-- the first word of a command
abbrev pub verb : Command → Word
verb (Translate package_name folder files) = codes "translate"
verb (Client package_name folder files) = codes "client"
verb (Conform files) = codes "conform"
verb (Check all files) = codes "check"
verb (Compile folder files) = codes "compile"
verb (Run asked files) = codes "run"
verb (Exec asked files) = codes "exec"
verb (Refine files) = codes "refine"
verb (Project folder files) = codes "project"
verb (Load branches seed) = codes "load"
verb (Verify files) = codes "verify"
verb (Fit roles files) = codes "fit"
verb (Show files) = codes "show"

-- options of a translation, and then files of protocols
abbrev pub AreTargetsAndFiles : (package_name folder : Option Word) → (files rest : List Word) → Type 0
AreTargetsAndFiles package_name folder files rest =
    (options : List TargetOption) × (rest ≡ flat_map target_words options ++ files) × AreTargets package_name folder options
    × AreFilesOf (codes ".scr") files

-- the words behind the first: options and then files, or numbers
abbrev pub IsBehind : Command → List Word → Type 0
IsBehind (Translate package_name folder files) rest = AreTargetsAndFiles package_name folder files rest
IsBehind (Client package_name folder files) rest = AreTargetsAndFiles package_name folder files rest
IsBehind (Conform files) rest = (rest ≡ files) × AreProtocolAndCalls files
IsBehind (Check all files) rest = (rest ≡ all_words all ++ files) × AreSourceNames files
IsBehind (Compile folder files) rest = (rest ≡ out_words folder ++ files) × IfSome folder IsFileName × AreSourceNames files
IsBehind (Refine files) rest = (rest ≡ files) × AreTwoTypestates files
IsBehind (Project folder files) rest = (rest ≡ out_words folder ++ files) × IfSome folder IsFileName × IsOneProtocol files
IsBehind (Load branches seed) rest = (rest ≡ decimal branches ∷ decimal seed ∷ []) × IsWorkload branches seed
IsBehind (Verify files) rest = (rest ≡ files) × AreFilesOf (codes ".class") files
IsBehind (Show files) rest = (rest ≡ files) × AreSourceNames files
IsBehind (Fit roles files) rest = (rest ≡ flat_map role_words roles ++ files) × AreCast roles × AreGlobalAndSources files
IsBehind (Run asked files) rest = (options : List Word) × (rest ≡ options ++ files) × AreOptions asked options × AreSourceNames files
IsBehind (Exec asked files) rest =
    (options : List Word) × (rest ≡ options ++ files) × AreOptions asked options × (asked.folder ≡ None) × AreFilesOf (codes ".class") files

-- these words are this command
abbrev pub IsCommand : Command → List Word → Type 0
IsCommand command words = (rest : List Word) × (words ≡ verb command ∷ rest) × IsBehind command rest

-- words are one command at most
abbrev pub OneCommand : Type 0
OneCommand = (words : List Word) (one other : Command) → IsCommand one words → IsCommand other words → one ≡ other

-- these words are a command
abbrev pub AreCommand : List Word → Type 0
AreCommand words = (command : Command) × IsCommand command words

-- some list of words that is in the grammar begins with these words
abbrev pub CanBegin : (List Word → Type 0) → List Word → Type 0
CanBegin grammar words = (more : List Word) × grammar (words ++ more)

-- the first word that can't follow those before it
pub record IsFirstWrong (grammar : List Word → Type 0) (words : List Word) (word : Word) : Type 0 where
  pub before : List Word
  pub after : List Word
  pub stands : words ≡ before ++ word ∷ after
  pub begins : CanBegin grammar before
  pub wrong : CanBegin grammar (before ++ word ∷ []) → ⊥

-- The words aren't in a grammar: because of this word, or because words are lacking at the end.
abbrev pub AreOutside : (List Word → Type 0) → List Word → Option Word → Type 0
AreOutside grammar words (Some word) = IsFirstWrong grammar words word
AreOutside grammar words None = CanBegin grammar words × (grammar words → ⊥)

-- the words are no command
abbrev pub AreWrong : List Word → Option Word → Type 0
AreWrong = AreOutside AreCommand
