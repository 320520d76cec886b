-- What verifying class files comes to, of which nothing is assumed: a line with how many methods they have, or the first refusal.
use Rattle.std.specs.Prelude.{◌≡◌, ℕ, List, [], ◌∷◌, ◌++◌, length, map, sum, codes}
use Rattle.std.specs.Fmt.{decimal}
use Rattle.mg_text.specs.Call.{Name}
use Rattle.vm_model.specs.Program.{Program}
use Rattle.cls_verify.specs.Typing.{AllTypable}
use Rattle.cls_search.specs.Verified.{FirstUntypable}
use Rattle.mg_refusal.specs.Refusals.{Refusal, refusal_nowhere}
use Rattle.mg_refusal.specs.Order.{Then}
use Rattle.mg_sources.specs.Files.{Source}
use Rattle.mg_exec.specs.Runs.{IsProgram, NoProgram}

-- how many methods the classes of a program have
abbrev pub methods_of : Program → ℕ
methods_of p = sum (map (λ c. length c.methods) p)

abbrev pub verified_line : ℕ → List ℕ
verified_line count = codes "verified: " ++ decimal count ++ 10 ∷ []

-- a method of a class
pub record Member : Type 0 where
  pub class : Name
  pub method : Name

-- a method that has no typing, as a refusal: its class and its name, with "." between them
abbrev pub unverified : Member → Refusal
unverified m = refusal_nowhere (codes "Unverified") (m.class ++ 46 ∷ m.method)

-- The classes that the files spell link to a program whose methods all have typings, and this line tells how many they are.
pub record AreVerified (files : List Source) (line : List ℕ) : Type 0 where
  pub program : Program
  pub linked : IsProgram files program
  pub typable : AllTypable program
  pub told : line ≡ verified_line (methods_of program)

-- the first method of a program that has no typing
pub record LacksTyping (p : Program) (r : Refusal) : Type 0 where
  pub member : Member
  pub first : FirstUntypable p member.class member.method
  pub said : r ≡ unverified member

-- The first refusal of these files: of those that are no program, or else by the first method that has no typing.
abbrev pub FirstRefusal : List Source → Refusal → Type 0
FirstRefusal files = Then (NoProgram files) (IsProgram files) LacksTyping
