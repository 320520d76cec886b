-- The program that files are is as the grammar has it, and each of its typestates has a file.
use Rattle.std.proofs.Common.{◌≡◌, ◌+◌, List, [], ◌∷◌, ◌++◌, map, flat_map, length, refl, sym, ◌∙◌, subst}
use Rattle.std.specs.List.{AllByRecursion}
use Rattle.std.proofs.lemmas.Grind.{flat_map-append}
use Rattle.std.proofs.lemmas.List.{length-map}
use Rattle.std.proofs.Common.{length-append}
use Rattle.ts_tree.specs.Typestate.{Typestate}
use Rattle.jv_tree.specs.Source.{Class, File}
use Rattle.jv_meaning.specs.Program.{class_in, classes_of}
use Rattle.jv_rules.specs.Program.{Program}
use Rattle.jv_rules.specs.Shape.{IsShapedClass, IsShaped}
use Rattle.jv_resolve_law.specs.Targets.{ClassAssignsVariables, OnlyVariablesAreAssigned}
use Rattle.jv_read.proofs.Unique.{read_spells}
use Rattle.jv_resolve_law.specs.ShapedLaws.{SpelledIsShaped, IsSpelled}
use Rattle.mg_sources.specs.Files.{Source}
use Rattle.mg_sources.specs.Reading.{Part, Reads}
use Rattle.mg_sources.specs.Reading as reading
use Rattle.mg_sources.specs.Sources.{Sourced, Stands, Spell}
use Rattle.mg_sources.specs.Sources as together
use Rattle.mg_accepted.proofs.Shaped.{api_class_shaped, api_class_assigns, api_classes}

all_both : {X : Type 0} (P : X → Type 0) (xs ys : List X) → AllByRecursion P xs → AllByRecursion P ys → AllByRecursion P (xs ++ ys)
all_both P [] ys h k = k
all_both P (x ∷ xs) ys h k = (h.0, all_both P xs ys h.1 k)

-- the classes of files and of those behind them
classes_both : (P : Class → Type 0) (fs gs : List File) → AllByRecursion P (classes_of fs) → AllByRecursion P (classes_of gs) →
    AllByRecursion P (classes_of (fs ++ gs))
classes_both P fs gs h k =
    subst (AllByRecursion P) (sym (flat_map-append (flat_map class_in) fs gs)) (all_both P (classes_of fs) (classes_of gs) h k)

-- a file that was read is spelled
read_is_spelled : (source : Source) (file : File) → Reads source (reading.Classes file) → IsSpelled file
read_is_spelled source file (reading.classes is o) =
    let s = read_spells source.number source.bytes _ o file refl in
    record { tokens = s.tokens; spelled = s.spelled }

abbrev alone : File → Program
alone file = record { files = file ∷ []; typestates = [] }

module _ (law : SpelledIsShaped) where
  standing_shaped : (source : Source) (part : Part) (fs : List File) (ts : List Typestate) → Reads source part → Stands part fs ts
      → AllByRecursion IsShapedClass (classes_of fs)
  standing_shaped source part fs ts reads (together.protocol {local = local} {api = api} is) = api_classes IsShapedClass api_class_shaped
      local api is
  standing_shaped source part fs ts reads together.states = tt
  standing_shaped source part fs ts reads (together.classes {file = file}) =
      (law (alone file) (read_is_spelled source file reads, tt)).shaped

  standing_assigns : (source : Source) (part : Part) (fs : List File) (ts : List Typestate) → Reads source part → Stands part fs ts
      → AllByRecursion ClassAssignsVariables (classes_of fs)
  standing_assigns source part fs ts reads (together.protocol {local = local} {api = api} is) =
      api_classes ClassAssignsVariables api_class_assigns local api is
  standing_assigns source part fs ts reads together.states = tt
  standing_assigns source part fs ts reads (together.classes {file = file}) =
      (law (alone file) (read_is_spelled source file reads, tt)).assigns

  pub shaped : {sources : List Source} {s : Sourced} → Spell sources s → IsShaped s.program
  shaped together.none = tt
  shaped (together.one {source = source} {part = part} {files = fs} {typestates = ts} {rest = rest} reads st more) =
      classes_both IsShapedClass fs rest.program.files (standing_shaped source part fs ts reads st) (shaped more)

  pub assigns : {sources : List Source} {s : Sourced} → Spell sources s → OnlyVariablesAreAssigned s.program
  assigns together.none = tt
  assigns (together.one {source = source} {part = part} {files = fs} {typestates = ts} {rest = rest} reads st more) =
      classes_both ClassAssignsVariables fs rest.program.files (standing_assigns source part fs ts reads st) (assigns more)

-- each typestate has the number of its file
pub numbered : {sources : List Source} {s : Sourced} → Spell sources s → length s.origins ≡ length s.program.typestates
numbered together.none = refl
numbered (together.one {source = source} {typestates = ts} {rest = rest} reads st more) =
    length-append (map (λ t. source.number) ts) rest.origins
    ∙ (λ i. length-map ts (λ t. source.number) i + numbered more i)
    ∙ sym (length-append ts rest.program.typestates)
