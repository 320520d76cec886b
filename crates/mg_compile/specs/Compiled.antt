-- Which files are compiled, to which class files, and the first refusal of those that aren't.
use Rattle.std.specs.Prelude.{ℕ, List, Some, codes}
use Rattle.jv_core.specs.Tree as Core
use Rattle.gen_rules.specs.Limits.{Limit, CodeTooLong, TooManyLocals, PoolFull, TextTooLong, Excess, IsFirstExcess}
use Rattle.mg_refusal.specs.Refusals.{Refusal, refusal_at}
use Rattle.mg_refusal.specs.Order.{Finds, Then}
use Rattle.mg_sources.specs.Files.{Source}
use Rattle.mg_accepted.specs.Accepted.{AreAccepted}
use Rattle.mg_accepted.specs.Accepted as accepted
use Rattle.mg_compile.specs.declared.files.ClassFile.{ClassFile}
use Rattle.mg_compile.specs.Files.{AreClassFiles}

-- the word for each limit
abbrev pub limit_word : Limit → List ℕ
limit_word CodeTooLong = codes "CodeTooLong"
limit_word TooManyLocals = codes "TooManyLocals"
limit_word PoolFull = codes "PoolFull"
limit_word TextTooLong = codes "TextTooLong"

-- a size that is too large, as a refusal at the name of the method or of the class
abbrev pub excess_refusal : Excess → Refusal
excess_refusal e = refusal_at (limit_word e.limit) e.place e.name

-- These files are an accepted program, and these are its class files.
pub record AreCompiled (files : List Source) (written : List ClassFile) : Type 0 where
  pub core : Core.Program
  pub accepted : AreAccepted files core
  pub class_files : AreClassFiles core written

-- The first size of a program that is too large in a class file is refused.
abbrev pub ExcessRefusal : Core.Program → Refusal → Type 0
ExcessRefusal core = Finds (λ e. IsFirstExcess core (Some e)) excess_refusal

-- The first refusal of these files: of those that aren't accepted, or else by the first size that is too large.
abbrev pub FirstRefusal : List Source → Refusal → Type 0
FirstRefusal files = Then (accepted.FirstRefusal files) (AreAccepted files) ExcessRefusal
