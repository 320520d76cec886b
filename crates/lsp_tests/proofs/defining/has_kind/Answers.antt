use Rattle.std.proofs.Common.{codes}
use Rattle.mg_sources.specs.Files.{Scribble, Typestates, Java}
use Rattle.mg_sources.proofs.Endings.{ends_told}
use Rattle.lsp_tests.proofs.defining.has_kind.Goals as goal

pub returns-then-ends_with : goal.returns-then-ends_with
returns-then-ends_with c = λ t. (
  Scribble,
  (ends_told c.ends_with.result c.args.name.now (codes ".scr") c.as_bytes-name.result.now
      c.as_bytes-name.ensures.value c.ends_with.ensures.value).0 c.if-ends_with.true,
)

pub returns-then-ends_with-2 : goal.returns-then-ends_with-2
returns-then-ends_with-2 c = λ t. (
  Typestates,
  (ends_told c.ends_with-2.result c.args.name.now (codes ".protocol") c.as_bytes-name.result.now
      c.as_bytes-name.ensures.value c.ends_with-2.ensures.value).0 c.if-ends_with-2.true,
)

pub returns : goal.returns
returns c = λ t. (
  Java,
  (ends_told c.ends_with-3.result c.args.name.now (codes ".java") c.as_bytes-name.result.now
      c.as_bytes-name.ensures.value c.ends_with-3.ensures.value).0 t,
)
