-- What is told of the program of a document.
use Rattle.std.specs.Prelude.{◌≡◌, ℕ, List, ◌++◌, map, Some}
use Rattle.std.specs.declared.vec.Vec.{Vec}
use Rattle.std.specs.declared.alloc.Global.{Global}
use Rattle.lsp_messages.specs.declared.outgoing.Diagnostic.{Diagnostic}
use Rattle.lsp_messages.specs.declared.outgoing.Outgoing.{Outgoing}
use Rattle.lsp_core.specs.declared.server.Server.{Server}
use Rattle.lsp_folder.specs.declared.program.File.{File}
use Rattle.lsp_folder.specs.declared.program.Program.{Program}
use Rattle.lsp_folder.specs.Programs.{IsProgramOf}
use Rattle.lsp_faults.specs.Diagnosed.{AreDiagnosed}
use Rattle.lsp_server.specs.Telling.{telling, cleared, tellings, lists_of}
use Rattle.lsp_server.specs.Showing.{left_over}

-- These messages tell that nothing is wrong any more with what shows something in the document's folder and is no source, and then of each
-- source of the document's program all that is wrong with it.
pub record AreTold (server : Server) (shown : List (List ℕ)) (document : List ℕ) (files : List File) (told : List Outgoing) : Type 0 where
  pub program : Program
  pub is_program : IsProgramOf server.documents document files program
  pub lists : List (Vec Diagnostic Global)
  pub diagnosed : AreDiagnosed server.encoding program.names.items program.contents.items lists
  pub tell : map telling told ≡ map (λ t. Some t)
      (map cleared (left_over document shown program.names.items) ++ tellings program.names.items program.versions.items (lists_of lists))
