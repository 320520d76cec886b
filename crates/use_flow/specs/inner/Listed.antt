-- Declarations and calls, as the code has them.
use Rattle.std.specs.Prelude.{map}
use Rattle.jv_core.specs.View.{expr_of, exprs_of}
use Rattle.use_flow.specs.declared.listed.Declaration.{Declaration}
use Rattle.use_flow.specs.declared.listed.Call.{Call}
use Rattle.use_flow.specs.inner.Stepping.{Declared}
use Rattle.use_flow.specs.inner.Switching.{Called}

abbrev pub declared_of : Declaration → Declared
declared_of d = record { slot = d.slot; value = expr_of d.value.now }

abbrev pub call_of : Call → Called
call_of c = record { receiver = c.receiver; method = c.method; args = exprs_of (map expr_of c.args.now) }
