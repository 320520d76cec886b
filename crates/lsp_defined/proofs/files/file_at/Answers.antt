use Rattle.std.proofs.Common.{sym}
use Rattle.mg_sources.proofs.Endings.{kind_at}
use Rattle.lsp_defined.proofs.Filed.{none_named, source_there}
use Rattle.lsp_defined.proofs.files.file_at.Goals as goal

pub returns-in_default-clause-file : goal.returns-in_default-clause-file
returns-in_default-clause-file c =
    sym (none_named c.args.names.now c.args.contents.now c.args.number c.in_default.ensures.lookup.3)

pub returns-clause-file : goal.returns-clause-file
returns-clause-file c =
    sym (source_there c.args.names.now c.args.contents.now c.args.number c.requires.same c.in-Some.name.now c.in-Some-get.bytes.now
    c.as_slice.result.now c.in-Some-get.ensures.lookup.3.0 c.in-Some.ensures.lookup.1 c.in-Some-get.ensures.lookup.1 c.as_slice.ensures)

pub returns-clause-kind : goal.returns-clause-kind
returns-clause-kind c =
    kind_at c.args.names.now c.args.number c.in-Some.name.now c.as_slice.result.now c.in-Some.ensures.lookup.3.0
    c.in-Some.ensures.lookup.1 c.requires.kinds
