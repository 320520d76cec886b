use Rattle.std.proofs.Common.{Some, refl}
use Rattle.mg_words.proofs.CodeLemmas.{steps_value}
use Rattle.mg_words.proofs.options.with_steps.Goals as goal

pub returns-in-Some : goal.returns-in-Some
returns-in-Some c =
    steps_value c.args.asked (record c.args.asked { steps = Some c.in-Some.steps }) c.args.value.now c.in-Some.steps c.in-Some.ensures
    c.requires (λ rs. refl)
