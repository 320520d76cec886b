-- What a message comes to, put together.
use Rattle.std.proofs.Common.{◌≡◌, ℕ, List, [], ◌∷◌, sym, subst}
use Rattle.std.specs.Prelude.{Result, Ok, Err, IfOk}
use Rattle.std.specs.declared.vec.Vec.{Vec}
use Rattle.std.specs.declared.alloc.Global.{Global}
use Rattle.mg_text.specs.declared.memory.Memory.{Memory}
use Rattle.lsp_messages.specs.declared.id.Id.{Id}
use Rattle.lsp_messages.specs.declared.incoming.Incoming.{Incoming}
use Rattle.lsp_messages.specs.declared.incoming.Question.{Question}
use Rattle.lsp_messages.specs.declared.outgoing.Outgoing.{Outgoing}
use Rattle.lsp_core.specs.declared.step.Step.{Step}
use Rattle.lsp_core.specs.declared.step.Step.TheVariants.{Quiet, Say, Judge, Ask}
use Rattle.lsp_folder.specs.declared.program.File.{File}
use Rattle.lsp_server.specs.declared.session.Session.{Session}
use Rattle.lsp_server.specs.Judging.{AreTold}
use Rattle.lsp_server.specs.Answering.{asked_about, IsAnswered}
use Rattle.lsp_server.specs.Turns.{Folders, AreFiles, IsBehind, Comes, Hears}
use Rattle.lsp_server.specs.Turns as turns
use Rattle.lsp_serving.specs.Hearing.{IsHeard}
use Rattle.lsp_serving.specs.inner.Passing.{TurnsBody}

module _ (folders : Folders) (session : Session) where
  pub judged : (new : Session) (document one other : List ℕ) (files given : List File) (r : Result (Vec Outgoing Global) Memory) →
      one ≡ document → other ≡ document → given ≡ files → AreFiles folders one files →
      IfOk r (λ v. AreTold session.server session.shown.items other given v.items) → IfOk r (λ v. IsBehind session other v.items new) →
      IfOk r (λ v. Comes folders session (Judge document) v.items new)
  judged new document one other files given (Err e) d n f are told behind = tt
  judged new document one other files given (Ok v) d n f are told behind =
      turns.judge (subst (λ (name : List ℕ). AreFiles folders name files) d are)
      (subst (λ (fs : List File). AreTold session.server session.shown.items document fs v.items) f
      (subst (λ (name : List ℕ). AreTold session.server session.shown.items name given v.items) n told))
      (subst (λ (name : List ℕ). IsBehind session name v.items new) n behind)

  pub answered : (id : Id) (question : Question) (one : List ℕ) (files given : List File) (r : Result Outgoing Memory) →
      one ≡ asked_about question → given ≡ files → AreFiles folders one files → IfOk r (IsAnswered session.server id question given) →
      IfOk r (λ m. Comes folders session (Ask id question) (m ∷ []) session)
  answered id question one files given (Err e) d f are is = tt
  answered id question one files given (Ok m) d f are is =
      turns.ask (subst (λ (name : List ℕ). AreFiles folders name files) d are)
      (subst (λ (fs : List File). IsAnswered session.server id question fs m) f is)

  pub quiet : (step : Step) (told : List Outgoing) → step ≡ Quiet → told ≡ [] → Comes folders session step told session
  quiet step told is e = subst (λ (s : Step). Comes folders session s told session) (sym is)
      (subst (λ (ms : List Outgoing). Comes folders session Quiet ms session) (sym e) turns.quiet)

  pub said : (step : Step) (message : Outgoing) (r : Result (Vec Outgoing Global) Memory) → step ≡ Say message →
      IfOk r (λ v. v.items ≡ message ∷ []) → IfOk r (λ v. Comes folders session step v.items session)
  said step message (Err e) is told = tt
  said step message (Ok v) is told = subst (λ (s : Step). Comes folders session s v.items session) (sym is)
      (subst (λ (ms : List Outgoing). Comes folders session (Say message) ms session) (sym told) turns.say)

  pub asked : (id : Id) (question : Question) (message : Outgoing) (r : Result (Vec Outgoing Global) Memory) →
      Comes folders session (Ask id question) (message ∷ []) session → IfOk r (λ v. v.items ≡ message ∷ []) →
      IfOk r (λ v. Comes folders session (Ask id question) v.items session)
  asked id question message (Err e) comes is = tt
  asked id question message (Ok v) comes is =
      subst (λ (ms : List Outgoing). Comes folders session (Ask id question) ms session) (sym is) comes

  pub turned : (between new : Session) (body : List ℕ) (message : Incoming) (step : Step) (r : Result (Vec Outgoing Global) Memory) →
      IsHeard body message → Hears session message step between → IfOk r (λ v. Comes folders between step v.items new) →
      IfOk r (λ v. TurnsBody folders session body v.items new)
  turned between new body message step (Err e) heard hears comes = tt
  turned between new body message step (Ok v) heard hears comes = record {
    message = message;
    heard = heard;
    turns = record { between = between; step = step; hears = hears; comes = comes };
  }
