-- Which bytes spell which class: the class is well formed and can be laid out, its codes are sound, and the bytes are its layout.
use Rattle.std.specs.Prelude.{◌≡◌, ℕ, List, Option, Some, None, Result, Ok, Err}
use Rattle.cls_tree.specs.Tree.{Class}
use Rattle.cls_tree.specs.Layout.{class_bytes}
use Rattle.cls_tree.specs.WellFormed.{IsWellFormed}
use Rattle.cls_bytes.specs.File.{IsFile}
use Rattle.cls_layout.specs.declared.ClassFault.{ClassFault}
use Rattle.cls_layout.specs.declared.ClassFault.TheVariants as faults
use Rattle.cls_layout.specs.Faults.{Fails}

-- the bytes spell the class
pub record ClassSpells (bytes : List ℕ) (class : Class) : Type 0 where
  pub file : IsFile class
  pub well_formed : IsWellFormed class
  pub layout : bytes ≡ class_bytes class

-- the class that the bytes spell, or that they spell none
abbrev pub IsSpelled : List ℕ → Option Class → Type 0
IsSpelled bytes (Some class) = ClassSpells bytes class
IsSpelled bytes None = (class : Class) → ClassSpells bytes class → ⊥

-- a fault that was answered is that of the bytes, unless memory ran out
abbrev pub IsTheirFault : {A : Type 0} → List ℕ → Result A ClassFault → Type 0
IsTheirFault bytes (Ok c) = Unit {0}
IsTheirFault bytes (Err faults.Memory) = Unit {0}
IsTheirFault bytes (Err fault) = Fails bytes fault

-- this fault was answered, unless memory ran out
abbrev pub IsFaultOrMemory : {A : Type 0} → Result A ClassFault → ClassFault → Type 0
IsFaultOrMemory (Ok c) fault = ⊥
IsFaultOrMemory (Err faults.Memory) fault = Unit {0}
IsFaultOrMemory (Err found) fault = found ≡ fault
