use Rattle.std.proofs.lemmas.Result.{IfOk-weaker}
use Rattle.lsp_defined.specs.inner.Filed.{source_in}
use Rattle.lsp_defined.proofs.Hovering.{spelled_by, part_by, none_by}
use Rattle.lsp_defined.proofs.hovers.over_text.Goals as goal

pub over_part-requires : goal.over_part-requires
over_part-requires c = (
  c.args.file.name.now,
  spelled_by c.args.encoding c.args.position c.args.file.number c.args.file.name.now c.args.file.bytes.now c.args.text.now
      c.in_ok-part.field-0 c.in-Some.part c.requires.text c.in-Some.is c.in_ok-part.ensures,
)

pub returns-in-Some : goal.returns-in-Some
returns-in-Some c =
    IfOk-weaker c.over_part.result _ _ (λ a h.
    part_by c.args.encoding c.args.position c.args.file.number c.args.file.name.now c.args.file.bytes.now c.args.text.now
    c.in_ok-part.field-0 c.in-Some.part a c.requires.text c.in-Some.is c.in_ok-part.ensures h) c.over_part.ensures

pub returns-in-None : goal.returns-in-None
returns-in-None c =
    none_by c.args.encoding c.args.position (source_in c.args.file) c.in_ok-part.field-0 c.in-None.is c.in_ok-part.ensures
