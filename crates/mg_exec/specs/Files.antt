-- Class files from outside, and what is wrong with a file.
use Rattle.std.specs.Prelude.{◌≡◌, ◌<◌, ◌≤◌, ℕ, List, [], ◌∷◌, length, All, codes, Option, Some, None}
use Rattle.cls_tree.specs.Tree.{Class as File}
use Rattle.cls_tree.specs.Fits.{IsU1}
use Rattle.cls_code.specs.declared.CodeFault.{CodeFault}
use Rattle.cls_code.specs.declared.CodeFault.TheVariants as codes_of
use Rattle.cls_bytes.specs.Spelling.{ClassSpells}
use Rattle.cls_layout.specs.Faults.{Fails}
use Rattle.cls_layout.specs.declared.ClassFault.{ClassFault}
use Rattle.cls_layout.specs.declared.ClassFault.TheVariants as faults
use Rattle.mg_refusal.specs.Refusals.{Refusal, refusal_in_bytes}
use Rattle.mg_sources.specs.Files.{Source}

-- the most bytes that a file may have; one more is read of it, so that a larger one is known
abbrev pub most_bytes : ℕ
most_bytes = 16777216

-- a file has bytes, which aren't too many and spell this class
pub record IsFile (source : Source) (class : File) : Type 0 where
  pub bytes : All IsU1 source.bytes
  pub small : length source.bytes ≤ most_bytes
  pub spells : ClassSpells source.bytes class

-- the same of files, in their order
abbrev pub AreFiles : List Source → List File → Type 0
AreFiles [] [] = Unit {0}
AreFiles (source ∷ more) (class ∷ classes) = IsFile source class × AreFiles more classes
AreFiles _ _ = ⊥

-- a fault of the file of a number, as a refusal at its offset; that of a code has its own name
module _ (file : ℕ) where
  abbrev pub code_refusal : CodeFault → Option Refusal
  code_refusal (codes_of.CodeTooLong offset) = Some (refusal_in_bytes (codes "CodeTooLong") file offset)
  code_refusal (codes_of.UnknownOpcode offset) = Some (refusal_in_bytes (codes "UnknownOpcode") file offset)
  code_refusal (codes_of.Short offset) = Some (refusal_in_bytes (codes "Short") file offset)
  code_refusal (codes_of.BadSwitch offset) = Some (refusal_in_bytes (codes "BadSwitch") file offset)
  code_refusal (codes_of.JumpOutside offset) = Some (refusal_in_bytes (codes "JumpOutside") file offset)
  code_refusal codes_of.Memory = None

  abbrev pub class_refusal : ClassFault → Option Refusal
  class_refusal (faults.BadMagic offset) = Some (refusal_in_bytes (codes "BadMagic") file offset)
  class_refusal (faults.Version offset) = Some (refusal_in_bytes (codes "Version") file offset)
  class_refusal (faults.Short offset) = Some (refusal_in_bytes (codes "Short") file offset)
  class_refusal (faults.TrailingBytes offset) = Some (refusal_in_bytes (codes "TrailingBytes") file offset)
  class_refusal (faults.BadTag offset) = Some (refusal_in_bytes (codes "BadTag") file offset)
  class_refusal (faults.BadIndex offset) = Some (refusal_in_bytes (codes "BadIndex") file offset)
  class_refusal (faults.BadText offset) = Some (refusal_in_bytes (codes "BadText") file offset)
  class_refusal (faults.BadAttribute offset) = Some (refusal_in_bytes (codes "BadAttribute") file offset)
  class_refusal (faults.Unsupported offset) = Some (refusal_in_bytes (codes "Unsupported") file offset)
  class_refusal (faults.Code fault) = code_refusal fault
  class_refusal faults.Memory = None

-- a file is refused: it is too large, or else the first of its fields that is wrong is told
pub data Refuses (source : Source) (r : Refusal) : Type 0 where
  large : most_bytes < length source.bytes → r ≡ refusal_in_bytes (codes "TooLarge") source.number 0 → Refuses source r
  field : {fault : ClassFault} → length source.bytes ≤ most_bytes → Fails source.bytes fault →
      class_refusal source.number fault ≡ Some r → Refuses source r
