use Rattle.std.proofs.Common.{refl, sym, ◌∙◌, arith}
use Rattle.mg_sources.proofs.Endings.{kind_at}
use Rattle.lsp_answers.proofs.Documents.{at_index, symbols_at}
use Rattle.lsp_answers.proofs.answers.declared.Goals as goal

pub symbols-requires : goal.symbols-requires
symbols-requires c = kind_at _ _ _ c.as_slice.result.now c.requires.file c.index-names-number.is c.requires.kinds

pub returns : goal.returns
returns c =
    let named = at_index c.args.names.now c.args.file _ c.requires.file c.index-names-number.is in
    let held = at_index c.args.contents.now c.args.file _ (omega (arith, c.requires.file, c.requires.same)) c.index-contents-number.is in (
      c.in_ok-symbols.symbols,
      refl,
      symbols_at c.args.encoding c.args.names.now c.args.contents.now c.args.file _ _ _ named
          (held ∙ sym c.as_slice.ensures) c.in_ok-symbols.ensures,
    )
