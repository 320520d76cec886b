-- What a session tells has the responses of the server's steps.
use Rattle.std.proofs.Common.{◌≡◌, false, List, [], ◌∷◌, ◌++◌, map, Option, Some, refl, sym, ap, ◌∙◌, subst, drop}
use Rattle.std.specs.List.{flat_map}
use Rattle.std.proofs.lemmas.List.{append-nil}
use Rattle.std.proofs.lemmas.Grind.{flat_map-append}
use Rattle.lsp_messages.specs.declared.id.Id.{Id}
use Rattle.lsp_messages.specs.declared.incoming.Incoming.{Incoming}
use Rattle.lsp_messages.specs.declared.outgoing.Outgoing.{Outgoing}
use Rattle.lsp_messages.specs.declared.outgoing.Outgoing.TheVariants.{Answered, Refused, Diagnosed}
use Rattle.lsp_core.specs.declared.server.Server.{Server}
use Rattle.lsp_core.specs.declared.step.Step.{Step}
use Rattle.lsp_core.specs.Runs.{Takes, Runs, asked_id, told_id, answered_id, before_exit, is_gone}
use Rattle.lsp_core.specs.Runs as core
use Rattle.lsp_server.specs.declared.session.Session.{Session}
use Rattle.lsp_server.specs.Telling.{Telling, telling}
use Rattle.lsp_server.specs.Turns.{Folders, Comes, Turns, Converses}
use Rattle.lsp_server.specs.Turns as turns
use Rattle.lsp_server.specs.Laws.{OneResponseEach}

-- what tells of documents responds to nothing
silent : (told : List Outgoing) (ts : List Telling) → map telling told ≡ map (λ t. Some t) ts → flat_map told_id told ≡ []
silent [] ts e = refl
silent (Answered id answer ∷ told) [] e = absurd (let no : ⊥ = cc in no)
silent (Refused id code ∷ told) [] e = absurd (let no : ⊥ = cc in no)
silent (Diagnosed document version diagnostics ∷ told) [] e = absurd (let no : ⊥ = cc in no)
silent (Answered id answer ∷ told) (t ∷ ts) e = absurd (let no : ⊥ = cc in no)
silent (Refused id code ∷ told) (t ∷ ts) e = absurd (let no : ⊥ = cc in no)
silent (Diagnosed document version diagnostics ∷ told) (t ∷ ts) e = silent told ts (ap (λ (xs : List (Option Telling)). drop 1 xs) e)

-- what a step tells responds to what the step does
responses : (folders : Folders) (old new : Session) (step : Step) (told : List Outgoing) → Comes folders old step told new →
    flat_map told_id told ≡ answered_id step
responses folders old new _ _ turns.quiet = refl
responses folders old new _ _ (turns.say {message = message}) = append-nil (told_id message)
responses folders old new _ told (turns.judge files are behind) = silent told _ are.tell
responses folders old new _ _ (turns.ask files is) = ap (λ (m : Outgoing). told_id m ++ []) is.is

-- and leaves the server
same_server : (folders : Folders) (old new : Session) (step : Step) (told : List Outgoing) → Comes folders old step told new →
    old.server ≡ new.server
same_server folders old new _ _ turns.quiet = refl
same_server folders old new _ _ turns.say = refl
same_server folders old new _ _ (turns.judge files are behind) = sym behind.server
same_server folders old new _ _ (turns.ask files is) = refl

-- the server's part of a session
record IsRun (old : Session) (messages : List Incoming) (told : List Outgoing) (new : Session) : Type 0 where
  pub steps : List Step
  pub runs : Runs old.server messages steps new.server
  pub same : flat_map told_id told ≡ flat_map answered_id steps

one_turn : (folders : Folders) (old between new : Session) (message : Incoming) (messages : List Incoming) (now later : List Outgoing) →
    Turns folders old message now between → IsRun between messages later new → IsRun old (message ∷ messages) (now ++ later) new
one_turn folders old between new message messages now later turn rest = record {
  steps = turn.step ∷ rest.steps;
  runs = core.more (subst (λ (s : Server). Takes old.server message turn.step s)
      (same_server folders turn.between between turn.step now turn.comes) turn.hears.takes) rest.runs;
  same = flat_map-append told_id now later
      ∙ (ap (λ (ids : List Id). ids ++ flat_map told_id later) (responses folders turn.between between turn.step now turn.comes)
      ∙ ap (λ (ids : List Id). answered_id turn.step ++ ids) rest.same);
}

run_of : (folders : Folders) (old new : Session) (messages : List Incoming) (told : List Outgoing) →
    Converses folders old messages told new → IsRun old messages told new
run_of folders old _ _ _ turns.none = record { steps = []; runs = core.none; same = refl }
run_of folders old new _ _ (turns.more {between = between} {message = message} {messages = ms} {now = now} {later = later} gone turn rest) =
    one_turn folders old between new message ms now later turn (run_of folders between new ms later rest)

from_run : core.OneResponseEach → (old new : Session) (messages : List Incoming) (told : List Outgoing) → is_gone old.server.phase ≡ false →
    IsRun old messages told new → flat_map told_id told ≡ flat_map asked_id (before_exit messages)
from_run law old new messages told goes run = run.same ∙ law old.server new.server messages run.steps goes run.runs

pub one_response_each : core.OneResponseEach → OneResponseEach
one_response_each law folders old _ _ _ turns.none = refl
one_response_each law folders old new _ _ (turns.more {between = between} {message = message} {messages = ms} {now = now} {later = later}
    goes turn rest) =
    from_run law old new (message ∷ ms) (now ++ later) goes (run_of folders old new (message ∷ ms) (now ++ later)
    (turns.more goes turn rest))
