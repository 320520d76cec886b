-- What the program's signatures say.
use Rattle.std.specs.Prelude.{List, map}
use Rattle.jv_rules.specs.Program.{Program}
use Rattle.jv_rules.specs.Types.{ValueType, Signature, meant}
use Rattle.jv_rules.specs.Typing.{plain_type}
use Rattle.jv_types.specs.declared.signature.Params.{Params}
use Rattle.jv_types.specs.declared.signature.Params.TheVariants as kept
use Rattle.jv_types.specs.declared.signature.Signature.{Signature as KeptSignature}
use Rattle.jv_types.specs.inner.View.{type_seen}

abbrev pub params_seen : Program → Params → List ValueType
params_seen program (kept.Declared params) = map (λ p. meant program p.ty) params.now
params_seen program (kept.Plain params) = map plain_type params.now

abbrev pub signature_seen : Program → KeptSignature → Signature
signature_seen program s = record { params = params_seen program s.params; result = type_seen s.result }
