use Rattle.std.proofs.Common.{◌≡◌, sym, subst, arith}
use Rattle.std.specs.Prelude.{Some, position}
use Rattle.std.specs.Str.{bytes_eq}
use Rattle.cls_table.specs.Known.{IsKnown}
use Rattle.cls_table.proofs.Knowing.{known_added}
use Rattle.cls_table.proofs.names.add_name.Goals as goal

pub returns-clause-known : goal.returns-clause-known
returns-clause-known c =
    let old = c.args.names.now in
    let name = c.args.name.now in
    let is = c.in_ok-_name.ensures.ok in
    subst (λ ns. IsKnown ns name) (sym is)
    (known_added old name c.in_ok-_name._name.0 (omega (arith, c.len.ensures.value, c.if-len-gt4294967280.false))
    (subst (λ ns. position (bytes_eq name) ns ≡ Some c.in_ok-_name._name.0) is c.in_ok-_name.ensures.name))
