use Rattle.mg_fitted.proofs.Alike.{same_refusal}
use Rattle.mg_fitted.proofs.laws.refusals_are_alike.Goals as goal

pub returns : goal.returns
returns c = same_refusal c.spelled_is_shaped.ensures c.core_is_kept.ensures
