-- What the program's values say: a method whose code is written, and what is written of it.
use Rattle.std.specs.Prelude.{Bool, true, false}
use Rattle.jv_core.specs.Tree.{Expr, Null, Method}
use Rattle.jv_core.specs.View.{method_of}
use Rattle.gen_expressions.specs.View.{instrs_of}
use Rattle.gen_expressions.specs.Drafting.{Draft}
use Rattle.gen_expressions.specs.declared.coder.Coder.{Coder}
use Rattle.gen_expressions.specs.declared.coder.Draft.{Draft as KeptDraft}

abbrev pub method_in : Coder → Method
method_in c = method_of c.method.now

unfoldable pub draft_in : Coder → KeptDraft → Draft
draft_in c d = record { code = instrs_of c.core.now d.instrs.items; labels = d.labels.items }

abbrev pub is_null : Expr → Bool
is_null (Null q) = true
is_null _ = false
