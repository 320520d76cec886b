use Rattle.std.proofs.Common.{◌≡◌, ◌++◌, ◌∷◌, codes, ap, ◌∙◌}
use Rattle.mg_refusal.specs.Refusals.{refusal_nowhere}
use Rattle.mg_verified.specs.Verified as told
use Rattle.mg_verified.specs.View.{untypable_in}
use Rattle.mg_verified.proofs.telling.stop_of.Goals as goal

pub returns-in-Ok : goal.returns-in-Ok
returns-in-Ok c = (
  record { class = c.in-Unverified.class; method = c.in-Unverified.method },
  ap untypable_in c.in-Unverified.is,
  c.nowhere.ensures ∙ ap (refusal_nowhere (codes "Unverified")) (c.in-Ok.ensures
      ∙ ap (λ class. class ++ 46 ∷ c.as_str-in-Unverified.result.now) c.as_str.ensures
      ∙ ap (λ method. c.in-Unverified.class ++ 46 ∷ method) c.as_str-in-Unverified.ensures),
)
