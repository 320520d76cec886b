-- What a question about a document is answered.
use Rattle.std.specs.Prelude.{◌≡◌, ℕ, List, MatchOption}
use Rattle.std.specs.List.{position}
use Rattle.std.specs.Str.{bytes_eq}
use Rattle.lsp_text.specs.declared.encoding.Encoding.{Encoding}
use Rattle.lsp_messages.specs.declared.id.Id.{Id}
use Rattle.lsp_messages.specs.declared.incoming.Question.{Question}
use Rattle.lsp_messages.specs.declared.incoming.Question.TheVariants as questions
use Rattle.lsp_messages.specs.declared.outgoing.Answer.{Answer}
use Rattle.lsp_messages.specs.declared.outgoing.Answer.TheVariants.{Nothing}
use Rattle.lsp_messages.specs.declared.outgoing.Outgoing.{Outgoing}
use Rattle.lsp_messages.specs.declared.outgoing.Outgoing.TheVariants.{Answered}
use Rattle.lsp_core.specs.declared.server.Server.{Server}
use Rattle.lsp_folder.specs.declared.program.File.{File}
use Rattle.lsp_folder.specs.declared.program.Program.{Program}
use Rattle.lsp_folder.specs.Programs.{IsProgramOf}
use Rattle.lsp_answers.specs.Answers.{IsAnswered as IsAnswerOf}

-- the document that a question is about
abbrev pub asked_about : Question → List ℕ
asked_about (questions.Hover point) = point.document
asked_about (questions.Completion point) = point.document
asked_about (questions.Definition point) = point.document
asked_about (questions.Hints document range) = document
asked_about (questions.Symbols document) = document
asked_about (questions.Diagram document) = document

-- what the sources of a program say, where the document is one of them, and else nothing
abbrev pub Answers : Encoding → Program → Question → Answer → Type 0
Answers encoding program question answer =
    MatchOption (position (λ name. bytes_eq name (asked_about question)) program.names.items) (answer ≡ Nothing)
    (λ file. IsAnswerOf encoding program.names.items program.contents.items file question answer)

-- the message is the response to the question of this id, by the program of its document
pub record IsAnswered (server : Server) (id : Id) (question : Question) (files : List File) (message : Outgoing) : Type 0 where
  pub program : Program
  pub is_program : IsProgramOf server.documents (asked_about question) files program
  pub answer : Answer
  pub answers : Answers server.encoding program question answer
  pub is : message ≡ Answered id answer
