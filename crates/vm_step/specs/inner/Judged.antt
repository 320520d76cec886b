-- What is wrong, where there are operands enough.
use Rattle.std.specs.Prelude.{Bool, not, Option, Some, None, if◌then◌else◌, nat_lt}
use Rattle.mg_text.specs.declared.event.BadKind.{BadKind}
use Rattle.mg_text.specs.declared.event.BadKind.TheVariants as bad
use Rattle.vm_model.specs.Tests.{Needs}

-- by whether a kind and whether a class is wrong
abbrev pub judged : Needs → Bool → Bool → Option BadKind
judged n kind member =
    if kind then Some bad.Kind
    else if nat_lt n.of_locals n.locals then Some bad.Local
    else if member then Some bad.Member
    else if not n.returns then Some bad.Return
    else if nat_lt n.max_stack n.operands then Some bad.Overflow
    else None
