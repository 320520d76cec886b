-- What the program's declarations say.
use Rattle.jv_tree.specs.View.{expr_of}
use Rattle.jv_resolve.specs.declared.written.Written.{Written}
use Rattle.jv_resolve.specs.inner.WrittenLocal.{WrittenLocal}

abbrev pub written_seen : Written → WrittenLocal
written_seen w = record { place = w.place; ty = w.ty.now; name = w.name.now; value = expr_of w.value.now }
