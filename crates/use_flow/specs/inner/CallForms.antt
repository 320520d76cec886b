-- Calls with their arguments, by what the method is called on.
use Rattle.std.specs.Prelude.{ℕ, List}
use Rattle.jv_core.specs.Tree.{Exprs}
use Rattle.use_flow.specs.declared.evaluated.CallForm.{CallForm}
use Rattle.use_flow.specs.declared.evaluated.CallForm.TheVariants as forms
use Rattle.use_rules.specs.Elements.{Set}
use Rattle.use_rules.specs.State.{Log}
use Rattle.use_rules.specs.Flow.{Evaluated}
use Rattle.use_flow.specs.inner.Followed.{Followed}
use Rattle.use_flow.specs.inner.Values.{called_protocol, called_helper, called_static}

abbrev pub called_as : Followed → CallForm → (method : ℕ) → Exprs → List Set → Log → Evaluated
called_as s (forms.Protocol x) n args sets log = called_protocol s x n args sets log
called_as s forms.Helper n args sets log = called_helper s n args sets log
called_as s forms.Static n args sets log = called_static s n args sets log
