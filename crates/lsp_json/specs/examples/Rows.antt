-- Worked messages, found by hand.
use Rattle.std.specs.Prelude.{◌≡◌, ℕ, pos, List, [], ◌∷◌, true, Some, None, codes}
use Rattle.lsp_messages.specs.declared.id.Id.TheVariants.{Number, Name}
use Rattle.lsp_messages.specs.declared.incoming.Call.TheVariants as calls
use Rattle.lsp_messages.specs.declared.incoming.Question.TheVariants as questions
use Rattle.serde_json.specs.Data.{Data, null, boolean, number, unsigned, string, array, object, no_items, item, no_members, member}
use Rattle.serde_json.specs.Read.{read}
use Rattle.lsp_json.specs.Heard.{opened, changed, unknown, exit, request, tidings, reply, malformed, ill}
use Rattle.lsp_json.specs.Reading.{heard}

-- a method with an id and parameters, or without
abbrev pub asking : Data → List ℕ → Data → Data
asking id method params =
    object (member (codes "id") id (member (codes "method") (string method) (member (codes "params") params no_members)))

abbrev pub telling : List ℕ → Data → Data
telling method params = object (member (codes "method") (string method) (member (codes "params") params no_members))

abbrev pub place : ℕ → ℕ → Data
place line character =
    object (member (codes "character") (number (unsigned character)) (member (codes "line") (number (unsigned line)) no_members))

abbrev pub named : Data
named = object (member (codes "uri") (string (codes "file:///A.java")) no_members)

abbrev pub versioned : Data
versioned = object (member (codes "text") (string (codes "class A {}")) (member (codes "uri") (string (codes "file:///A.java"))
    (member (codes "version") (number (unsigned 4)) no_members)))

pub record Rows : Type 0 where
  pub no_json : heard None ≡ malformed
  pub no_object : heard (Some (array no_items)) ≡ ill None
  pub shutdown : heard (Some (asking (number (unsigned 7)) (codes "shutdown") null)) ≡ request (Number (pos 7)) calls.Shutdown
  pub not_known : heard (Some (asking (string (codes "a")) (codes "x/y") null)) ≡ request (Name (codes "a")) calls.Unknown
  pub bad_id : heard (Some (asking (boolean true) (codes "shutdown") null)) ≡ ill None
  pub response : heard (Some (object (member (codes "id") (number (unsigned 1)) (member (codes "result") null no_members)))) ≡ reply
  pub hover : heard (Some (asking (number (unsigned 1)) (codes "textDocument/hover")
      (object (member (codes "position") (place 3 5) (member (codes "textDocument") named no_members)))))
      ≡ request (Number (pos 1)) (calls.Ask (questions.Hover
      (record { document = codes "file:///A.java"; position = record { line = 3; character = 5 } })))
  -- a hover without a position
  pub no_position : heard (Some (asking (number (unsigned 1)) (codes "textDocument/hover")
      (object (member (codes "textDocument") named no_members))))
      ≡ request (Number (pos 1)) calls.BadParameters
  pub utf8 : heard (Some (asking (number (unsigned 0)) (codes "initialize") (object (member (codes "capabilities")
      (object (member (codes "general")
      (object (member (codes "positionEncodings") (array (item (string (codes "utf-16")) (item (string (codes "utf-8")) no_items)))
      no_members)) no_members)) no_members)))) ≡ request (Number (pos 0)) (calls.Initialize true)
  pub goes : heard (Some (telling (codes "exit") null)) ≡ tidings exit
  pub opens : heard (Some (telling (codes "textDocument/didOpen") (object (member (codes "textDocument") versioned no_members))))
      ≡ tidings (opened (codes "file:///A.java") (pos 4) (codes "class A {}"))
  -- a range that is none makes the whole notification none
  pub no_range : heard (Some (telling (codes "textDocument/didChange") (object (member (codes "contentChanges") (array (item (object
      (member (codes "range") (boolean true) (member (codes "text") (string (codes "x")) no_members))) no_items))
      (member (codes "textDocument") versioned no_members))))) ≡ tidings unknown
  -- but one that is null is the whole text
  pub null_range : heard (Some (telling (codes "textDocument/didChange") (object (member (codes "contentChanges") (array (item (object
      (member (codes "range") null (member (codes "text") (string (codes "x")) no_members))) no_items))
      (member (codes "textDocument") versioned no_members)))))
      ≡ tidings (changed (codes "file:///A.java") (pos 4) (record { range = None; text = codes "x" } ∷ []))
  -- the whole text, where no version is told
  pub whole : heard (Some (telling (codes "textDocument/didChange") (object (member (codes "contentChanges") (array (item (object
      (member (codes "text") (string (codes "x")) no_members)) no_items)) (member (codes "textDocument") named no_members)))))
      ≡ tidings (changed (codes "file:///A.java") (pos 0) (record { range = None; text = codes "x" } ∷ []))
  -- a range is replaced
  pub part : heard (Some (telling (codes "textDocument/didChange") (object (member (codes "contentChanges") (array (item (object
      (member (codes "range") (object (member (codes "end") (place 3 7) (member (codes "start") (place 3 5) no_members)))
      (member (codes "text") (string (codes "x")) no_members))) no_items)) (member (codes "textDocument") versioned no_members)))))
      ≡ tidings (changed (codes "file:///A.java") (pos 4) (record {
        range = Some (record {
          start = record { line = 3; character = 5 };
          «end» = record { line = 3; character = 7 };
        });
        text = codes "x";
      } ∷ []))
  pub diagram : heard (Some (asking (number (unsigned 5)) (codes "workspace/executeCommand") (object
      (member (codes "arguments") (array (item (string (codes "file:///A.java")) no_items))
      (member (codes "command") (string (codes "mungo.diagram")) no_members)))))
      ≡ request (Number (pos 5)) (calls.Ask (questions.Diagram (codes "file:///A.java")))
  pub no_command : heard (Some (asking (number (unsigned 5)) (codes "workspace/executeCommand") (object
      (member (codes "arguments") (array (item (string (codes "file:///A.java")) no_items))
      (member (codes "command") (string (codes "mungo")) no_members))))) ≡ request (Number (pos 5)) calls.BadParameters
  -- texts
  pub text : heard (read (codes "{\"jsonrpc\":\"2.0\",\"id\":2,\"method\":\"shutdown\"}")) ≡ request (Number (pos 2)) calls.Shutdown
  pub cut : heard (read (codes "{\"jsonrpc\":\"2.0\",")) ≡ malformed
