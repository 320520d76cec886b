use Rattle.std.proofs.Common.{sym, ◌∙◌}
use Rattle.std.specs.Prelude.{codes}
use Rattle.std.proofs.lemmas.Result.{err_from_is_err_and}
use Rattle.jv_grammar.specs.Base.{is_word}
use Rattle.jv_grammar.specs.Files.{import_at}
use Rattle.jv_grammar.proofs.Decls.{import_shorter}
use Rattle.jv_parse.specs.inner.Rests.{imports_at}
use Rattle.jv_parse.proofs.Walks.{Walking-shorter, Walking-more, Walking-fails, Walking-done}
use Rattle.jv_parse.proofs.FileTurns.{imports_start}
use Rattle.jv_parse.proofs.files.imports_of.Goals as goal

pub imports-init : goal.imports-init
imports-init c = imports_start c.args.tokens.now

pub returns-in_err-after : goal.returns-in_err-after
returns-in_err-after c =
    let p = err_from_is_err_and c.from_residual.result c.from_residual.ensures.1 in
    rw (p.1, p.2)
    (Walking-fails (is_word (codes "import")) import_at c.in_err-after.field-0.0 c.imports.rest.now (imports_at c.args.tokens.now)
    (sym c.is_word.ensures ∙ c.imports-test.true)
    c.in_err-after.ensures c.imports.invariant)

pub imports-smaller : goal.imports-smaller
imports-smaller c = Walking-shorter (is_word (codes "import")) import_at c.imports.rest.now c.in_ok-after.after.now
    (import_shorter c.imports.rest.now) c.in_ok-after.ensures

pub imports-preserved : goal.imports-preserved
imports-preserved c =
    Walking-more (is_word (codes "import")) import_at c.imports.rest.now c.in_ok-after.after.now (imports_at c.args.tokens.now)
    (import_shorter c.imports.rest.now)
    (sym c.is_word.ensures ∙ c.imports-test.true) c.in_ok-after.ensures c.imports.invariant

pub returns : goal.returns
returns c = Walking-done (is_word (codes "import")) import_at c.imports.rest.now (imports_at c.args.tokens.now)
    (sym c.is_word.ensures ∙ c.imports-test.false) c.imports.invariant
