-- The law: a refusal of fitting is one, but for the place of Syntax.
use Rattle.std.specs.Prelude.{List}
use Rattle.vm_world_law.specs.declared.role.RoleMain.{RoleMain}
use Rattle.mg_refusal.specs.Refusals.{Refusal, AreAlike}
use Rattle.mg_sources.specs.Files.{Source}
use Rattle.mg_fitted.specs.Fitted.{FirstRefusal}

-- Two first refusals of a global protocol, of files and of roles are alike.
abbrev pub RefusalsAreAlike : Type 0
RefusalsAreAlike = (global : Source) (files : List Source) (mains : List RoleMain) (r q : Refusal) → FirstRefusal global files mains r →
    FirstRefusal global files mains q → AreAlike r q
