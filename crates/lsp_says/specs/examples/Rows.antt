-- Worked rows of messages that are written.
use Rattle.std.specs.Prelude.{◌≡◌, ℕ, pos, [], ◌∷◌, ◌++◌, false, Some, None, codes}
use Rattle.lsp_text.specs.declared.changes.Range.{Range}
use Rattle.lsp_text.specs.declared.encoding.Encoding.TheVariants.{Utf16}
use Rattle.lsp_messages.specs.declared.id.Id.TheVariants.{Number, Name}
use Rattle.lsp_messages.specs.declared.outgoing.Answer.TheVariants.{Nothing, Capabilities, Diagram}
use Rattle.lsp_messages.specs.declared.outgoing.Code.TheVariants.{ParseError, ServerNotInitialized}
use Rattle.lsp_messages.specs.declared.outgoing.Outgoing.TheVariants.{Answered, Refused}
use Rattle.lsp_messages.specs.declared.outgoing.SymbolKind.TheVariants.{State}
use Rattle.serde_json.specs.Written.{compact_text}
use Rattle.lsp_says.specs.Parts.{hint_json, item_json, symbol_json}
use Rattle.lsp_says.specs.Answers.{answer_json}
use Rattle.lsp_says.specs.Said.{published, said}

-- from character to character of one line
abbrev pub between : ℕ → ℕ → ℕ → Range
between line from to = record { start = record { line = line; character = from }; «end» = record { line = line; character = to } }

pub record Rows : Type 0 where
  -- what the server can do, to a client that counts in UTF-16
  pub capabilities : compact_text (answer_json (Capabilities Utf16)) ≡
      codes "{\"capabilities\":{\"completionProvider\":{\"triggerCharacters\":[\".\"]},\"definitionProvider\":true," ++
      codes "\"documentSymbolProvider\":true,\"executeCommandProvider\":{\"commands\":[\"mungo.diagram\"]}," ++
      codes "\"hoverProvider\":true,\"inlayHintProvider\":true,\"positionEncoding\":\"utf-16\"," ++
      codes "\"textDocumentSync\":{\"change\":2,\"openClose\":true,\"save\":true}},\"serverInfo\":{\"name\":\"mungo-lsp\"}}"
  pub nothing : compact_text (said (Answered (Number (pos 7)) Nothing)) ≡ codes "{\"id\":7,\"jsonrpc\":\"2.0\",\"result\":null}"
  pub no_json : compact_text (said (Refused None ParseError))
      ≡ codes "{\"error\":{\"code\":-32700,\"message\":\"this is no JSON\"},\"id\":null,\"jsonrpc\":\"2.0\"}"
  pub early : compact_text (said (Refused (Some (Name (codes "a"))) ServerNotInitialized))
      ≡ codes "{\"error\":{\"code\":-32002,\"message\":\"initialize has to come first\"},\"id\":\"a\",\"jsonrpc\":\"2.0\"}"
  -- what is wrong with a document that is open
  pub diagnostic : compact_text (published (codes "file:///A.scr") (Some (pos 4))
      (record { range = between 3 2 5; code = codes "label"; message = codes "a \"b\"" } ∷ []))
      ≡ codes "{\"diagnostics\":[{\"code\":\"label\",\"message\":\"a \\\"b\\\"\",\"range\":{\"end\":{\"character\":5,\"line\":3},\"start\":{\"character\":2,\"line\":3}},\"severity\":1,\"source\":\"mungo\"}],\"uri\":\"file:///A.scr\",\"version\":4}"
  -- nothing is, and it isn't open
  pub cleared : compact_text (published (codes "file:///A.scr") None []) ≡ codes "{\"diagnostics\":[],\"uri\":\"file:///A.scr\"}"
  pub hint : compact_text (hint_json (record { position = record { line = 0; character = 9 }; text = codes "Open" }))
      ≡ codes "{\"label\":\"Open\",\"paddingLeft\":true,\"position\":{\"character\":9,\"line\":0}}"
  -- a method that some states offer
  pub some_states : compact_text (item_json (record { name = codes "ask"; signature = codes "void ask(int)"; always = false }))
      ≡ codes "{\"detail\":\"void ask(int)\",\"kind\":2,\"label\":\"ask\",\"labelDetails\":{\"description\":\"not always\"},\"sortText\":\"1ask\"}"
  -- a state of a typestate
  pub symbol : compact_text (symbol_json (record {
    name = codes "Open";
    kind = State;
    location = record { document = codes "file:///P.protocol"; range = between 1 4 8 };
    within = Some (codes "P");
  })) ≡
      codes "{\"containerName\":\"P\",\"kind\":22,\"location\":{\"range\":{\"end\":{\"character\":8,\"line\":1}," ++
      codes "\"start\":{\"character\":4,\"line\":1}},\"uri\":\"file:///P.protocol\"},\"name\":\"Open\"}"
  -- a diagram is a text
  pub diagram : compact_text (answer_json (Diagram (codes "stateDiagram-v2\n"))) ≡ codes "\"stateDiagram-v2\\n\""
