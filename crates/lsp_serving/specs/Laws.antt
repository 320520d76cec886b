-- Laws of serving.
use Rattle.std.specs.Prelude.{◌≡◌, ℕ, List}
use Rattle.std.specs.List.{flat_map}
use Rattle.lsp_messages.specs.declared.outgoing.Outgoing.{Outgoing}
use Rattle.lsp_core.specs.Runs.{asked_id, told_id, before_exit}
use Rattle.lsp_server.specs.declared.session.Session.{Session}
use Rattle.lsp_server.specs.Turns.{Folders}
use Rattle.lsp_serving.specs.Serving.{Serves}

-- Each request before `exit` gets one response, with its id, in the order of the requests; and nothing else is a response.
abbrev pub OneResponseEach : Type 0
OneResponseEach = (folders : Folders) (old new : Session) (bodies : List (List ℕ)) (told : List Outgoing)
    (serves : Serves folders old bodies told new) → flat_map told_id told ≡ flat_map asked_id (before_exit serves.messages)
