-- Programs whose sources can be read, and what is told of them.
use Rattle.std.specs.Prelude.{◌≡◌, ℕ, List, ◌++◌, map, Some, length}
use Rattle.std.specs.declared.vec.Vec.{Vec}
use Rattle.std.specs.declared.alloc.Global.{Global}
use Rattle.lsp_text.specs.declared.encoding.Encoding.{Encoding}
use Rattle.lsp_messages.specs.declared.outgoing.Diagnostic.{Diagnostic}
use Rattle.lsp_messages.specs.declared.outgoing.Outgoing.{Outgoing}
use Rattle.mg_sources.specs.Files.{HaveKinds}
use Rattle.lsp_folder.specs.declared.program.Program.{Program}
use Rattle.lsp_faults.specs.Diagnosed.{AreDiagnosed}
use Rattle.lsp_server.specs.Telling.{telling, cleared, tellings, lists_of}
use Rattle.lsp_server.specs.Showing.{left_over}

-- one text for each name, and each name tells its kind
pub record IsFit (program : Program) : Type 0 where
  pub same : length program.names.items ≡ length program.contents.items
  pub kinds : HaveKinds program.names.items

-- what is told of a program
pub record IsToldOf (encoding : Encoding) (shown : List (List ℕ)) (document : List ℕ) (program : Program)
    (told : List Outgoing) : Type 0 where
  pub lists : List (Vec Diagnostic Global)
  pub diagnosed : AreDiagnosed encoding program.names.items program.contents.items lists
  pub tell : map telling told ≡ map (λ t. Some t)
      (map cleared (left_over document shown program.names.items) ++ tellings program.names.items program.versions.items (lists_of lists))
