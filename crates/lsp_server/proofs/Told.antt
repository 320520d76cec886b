-- What is told and answered of a program.
use Rattle.std.proofs.Common.{◌≡◌, ℕ, List, Option, Some, refl, sym, subst}
use Rattle.std.specs.Prelude.{Result, Ok, Err, IfOk, MatchOption}
use Rattle.std.specs.List.{position}
use Rattle.std.specs.Str.{bytes_eq}
use Rattle.mg_text.specs.declared.memory.Memory.{Memory}
use Rattle.lsp_text.specs.declared.encoding.Encoding.{Encoding}
use Rattle.lsp_messages.specs.declared.incoming.Question.{Question}
use Rattle.lsp_messages.specs.declared.outgoing.Answer.{Answer}
use Rattle.lsp_messages.specs.declared.outgoing.Answer.TheVariants.{Nothing}
use Rattle.lsp_messages.specs.declared.outgoing.Outgoing.{Outgoing}
use Rattle.lsp_text.specs.declared.documents.Documents.{Documents}
use Rattle.lsp_core.specs.declared.server.Server.{Server}
use Rattle.lsp_folder.specs.declared.program.File.{File}
use Rattle.lsp_folder.specs.declared.program.Program.{Program}
use Rattle.lsp_folder.specs.Programs.{IsProgramOf}
use Rattle.lsp_answers.specs.Answers.{IsAnswered as IsAnswerOf}
use Rattle.lsp_server.specs.Answering.{asked_about, Answers}
use Rattle.lsp_server.specs.Judging.{AreTold}
use Rattle.lsp_server.specs.inner.Fitting.{IsToldOf}
use Rattle.lsp_server.proofs.Fits.{program_at}

-- a source has the answer of its program
pub answered : (encoding : Encoding) (program : Program) (question : Question) (file : ℕ) (r : Result Answer Memory) →
    position (λ name. bytes_eq name (asked_about question)) program.names.items ≡ Some file →
    IfOk r (λ a. IsAnswerOf encoding program.names.items program.contents.items file question a) →
    IfOk r (Answers encoding program question)
answered encoding program question file (Err e) at is = tt
answered encoding program question file (Ok a) at is =
    subst (λ (o : Option ℕ). MatchOption o (a ≡ Nothing) (λ k. IsAnswerOf encoding program.names.items program.contents.items k question a))
    (sym at) is

pub answers_at : (one other : Encoding) (program : Program) (question : Question) (answer : Answer) → one ≡ other →
    Answers one program question answer → Answers other program question answer
answers_at one other program question answer e is = subst (λ (encoding : Encoding). Answers encoding program question answer) e is

-- what is told of a program is told of its document's
pub told_of : (server : Server) (documents : Documents) (encoding : Encoding) (shown other : List (List ℕ)) (document : List ℕ)
    (files : List File) (program : Program) (told : List Outgoing) → documents ≡ server.documents → encoding ≡ server.encoding →
    shown ≡ other →
    IsProgramOf documents document files program → IsToldOf encoding shown document program told → AreTold server other document files told
told_of server documents encoding shown other document files program told d e s is tells =
    let tells_here : IsToldOf server.encoding other document program told =
    subst (λ (names : List (List ℕ)). IsToldOf server.encoding names document program told) s
    (subst (λ (c : Encoding). IsToldOf c shown document program told) e tells) in
    record {
      program = program;
      is_program = program_at documents server.documents document document files program d refl is;
      lists = tells_here.lists;
      diagnosed = tells_here.diagnosed;
      tell = tells_here.tell;
    }
