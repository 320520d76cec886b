use Rattle.std.proofs.lemmas.Result.{err_from_is_err_and}
use Rattle.mg_text.specs.Row.{Row}
use Rattle.mg_client.specs.Clients.{AreClients, FirstRefusal}
use Rattle.mg_client.specs.declared.files.ClientFile.{ClientFile}
use Rattle.mg_sources.specs.Files.{sources}
use Rattle.mg_words.specs.Words.{Client}
use Rattle.mg_top.specs.Commands.{played}
use Rattle.mg_top.specs.Commands as commands
use Rattle.mg_top.specs.inner.Preparing.{target_of}
use Rattle.mg_top.proofs.CommandLemmas.{gives_so, stopped_so}
use Rattle.mg_top.proofs.client.client.Goals as goal

pub returns-in_err-files : goal.returns-in_err-files
returns-in_err-files c =
    let files = sources c.args.names.now c.args.contents.now in
    let to = target_of c.args.to.now in
    let e = err_from_is_err_and c.from_residual.result c.from_residual.ensures.1 in
    rw (e.1, e.2)
    (stopped_so (Client to.package_name to.folder c.args.names.now) c.args.contents.now
    (λ (written : Row ClientFile). AreClients to.package_name files written.items) (FirstRefusal to.package_name files)
    (λ r h. commands.client h) _ c.in_err-files.ensures)

pub returns-in_err-write_clients : goal.returns-in_err-write_clients
returns-in_err-write_clients c =
    let e = err_from_is_err_and c.from_residual-in_err-write_clients.result c.from_residual-in_err-write_clients.ensures.1 in
    rw (e.1, e.2) tt

pub returns : goal.returns
returns c =
    gives_so _ _ _ _ c.in_ok-write_clients.field-0 c.in_ok-write_clients.ensures.actions c.in_ok-write_clients.ensures.status
    (played c.as_slice.result.now (rw c.as_slice.ensures.items c.in_ok-files.ensures))
