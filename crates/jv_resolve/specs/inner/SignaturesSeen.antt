-- What stands before the bodies of methods.
use Rattle.jv_resolve.specs.declared.methods.Signature.{Signature}
use Rattle.jv_resolve.specs.inner.Signatures.{Signed, signed}

abbrev pub signature_seen : Signature → Signed
signature_seen s = signed s.name.0 s.result
