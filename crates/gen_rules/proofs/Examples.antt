-- The worked codes are those that the generator gives.
use Rattle.std.proofs.Common.{◌≡◌, ℕ, List, refl, subst}
use Rattle.jv_core.specs.Tree.{Method}
use Rattle.gen_rules.specs.Symbolic.{Instr}
use Rattle.gen_rules.specs.Templates.{IsCode}
use Rattle.gen_rules.specs.Frames.{max_stack, max_locals}
use Rattle.gen_rules.specs.inner.Generating.{generated}
use Rattle.gen_rules.specs.examples.Methods.{Has, MethodsAreMade, program}
use Rattle.gen_rules.proofs.Generates.{generated_is}
use Rattle.gen_rules.proofs.Linking.{methods_links}

has : (m : Method) (code : List Instr) (stack locals : ℕ) → generated program m ≡ code → max_stack program m ≡ stack →
    max_locals m ≡ locals → Has m code stack locals
has m code stack locals e s l = record { is = subst (IsCode program m) e (generated_is program m); max_stack_is = s; max_locals_is = l }

pub methods_are_made : MethodsAreMade
methods_are_made = record {
  tick_has = has _ _ _ _ refl refl refl;
  get_has = has _ _ _ _ refl refl refl;
  sign_has = has _ _ _ _ refl refl refl;
  count_has = has _ _ _ _ refl refl refl;
  choose_has = has _ _ _ _ refl refl refl;
  both_has = has _ _ _ _ refl refl refl;
  show_has = has _ _ _ _ refl refl refl;
  use_has = has _ _ _ _ refl refl refl;
  down_has = has _ _ _ _ refl refl refl;
  main_has = has _ _ _ _ refl refl refl;
  constructor_has = refl;
  links = methods_links;
  constructor_stack_is = refl;
}
