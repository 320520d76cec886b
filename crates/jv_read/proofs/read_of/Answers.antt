use Rattle.std.proofs.Common.{◌∙◌, sym, ap, Err, Result, subst}
use Rattle.std.proofs.lemmas.Result.{err_from_is_err_and}
use Rattle.jv_tree.specs.declared.tree.File.{File}
use Rattle.jv_tree.specs.View.{file_of}
use Rattle.jv_read.specs.declared.fault.JavaFault.{JavaFault}
use Rattle.jv_read.specs.Outcome.{read}
use Rattle.jv_read.specs.inner.Stages.{Stage, IsRead}
use Rattle.jv_read.proofs.Staged.{uncut_told, cut_of, ungrammatical_told, spells_of}
use Rattle.jv_read.proofs.read_of.Goals as goal

abbrev failed : JavaFault → Result File JavaFault
failed f = Err f

pub returns-in_err-tokens : goal.returns-in_err-tokens
returns-in_err-tokens c =
    let e = err_from_is_err_and c.from_residual.result c.from_residual.ensures.1 in
    subst (Stage c.args.file c.args.bytes.now (IsRead c.args.file c.args.bytes.now)) (sym (e.1 ∙ ap failed e.2))
    (uncut_told c.args.file c.args.bytes.now c.in_err-tokens.field-0.0 c.in_err-tokens.ensures.found)

pub returns-in_err-parse_file : goal.returns-in_err-parse_file
returns-in_err-parse_file c =
    let e = err_from_is_err_and c.from_residual-in_err-parse_file.result c.from_residual-in_err-parse_file.ensures.1 in
    let cut = cut_of c.args.file c.args.bytes.now c.in_ok-tokens.tokens.items c.as_slice.result.now c.as_slice.ensures.items
    c.in_ok-tokens.ensures.found in
    subst (Stage c.args.file c.args.bytes.now (IsRead c.args.file c.args.bytes.now)) (sym (e.1 ∙ ap failed e.2))
    (ungrammatical_told c.args.file c.args.bytes.now c.as_slice.result.now cut c.in_err-parse_file.field-0.0
    c.in_err-parse_file.ensures.unsupported
    c.in_err-parse_file.ensures.syntax)

pub returns : goal.returns
returns c =
    let cut = cut_of c.args.file c.args.bytes.now c.in_ok-tokens.tokens.items c.as_slice.result.now c.as_slice.ensures.items
    c.in_ok-tokens.ensures.found in
    read (file_of c.in_ok-parse_file.field-0) (spells_of c.args.file c.args.bytes.now c.as_slice.result.now
    (file_of c.in_ok-parse_file.field-0) cut
    c.in_ok-parse_file.ensures.found)
