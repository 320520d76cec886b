-- Runs of messages.
use Rattle.std.proofs.Common.{◌≡◌, Bool, true, false, List, [], ◌∷◌, ◌++◌, refl, sym, ap, ◌∙◌, subst, cond}
use Rattle.std.specs.Prelude.{All}
use Rattle.std.proofs.lemmas.List.Elements.{All-nil, All-cons, All-head, All-tail}
use Rattle.std.specs.List.{flat_map}
use Rattle.lsp_text.specs.declared.encoding.Encoding.{Encoding}
use Rattle.lsp_text.specs.declared.documents.Documents.{Documents}
use Rattle.lsp_messages.specs.declared.id.Id.{Id}
use Rattle.lsp_messages.specs.declared.incoming.Call.TheVariants as calls
use Rattle.lsp_messages.specs.declared.incoming.Notice.{Notice}
use Rattle.lsp_messages.specs.declared.incoming.Notice.TheVariants as notices
use Rattle.lsp_messages.specs.declared.incoming.Incoming.{Incoming}
use Rattle.lsp_messages.specs.declared.incoming.Incoming.TheVariants as messages
use Rattle.lsp_core.specs.declared.phase.Phase.{Phase}
use Rattle.lsp_core.specs.declared.phase.Phase.TheVariants.{Running}
use Rattle.lsp_core.specs.declared.step.Step.{Step}
use Rattle.lsp_core.specs.declared.step.Step.TheVariants.{Quiet}
use Rattle.lsp_core.specs.declared.server.Server.{Server}
use Rattle.lsp_core.specs.Phases.{next_phase}
use Rattle.lsp_core.specs.Steps.{next_encoding}
use Rattle.lsp_core.specs.Standing.{AreSame, AfterMessage}
use Rattle.lsp_core.specs.Runs.{Takes, Runs, Stands, asked_id, answered_id, is_exit, before_exit, is_gone, goes_on, notice_in, IsStill}
use Rattle.lsp_core.specs.Runs.{OneResponseEach, NothingAfterExit, DocumentsAreOfNotices}
use Rattle.lsp_core.specs.Runs as runs
use Rattle.lsp_core.proofs.Single.{answered, exits, exit_asks_nothing, stays, quiet, still, same_behind}

abbrev IsQuiet : Step → Type 0
IsQuiet step = step ≡ Quiet

abbrev GoesOn : Incoming → Type 0
GoesOn message = goes_on message ≡ true

-- behind `exit`
pub nothing_after_exit : NothingAfterExit
nothing_after_exit old _ _ _ g runs.none = record { quiet = All-nil IsQuiet; phase = refl; documents = λ name. refl }
nothing_after_exit old new _ _ g (runs.more {between = between} {message = message} {step = step} {messages = ms} {steps = ss} takes rest) =
    let phase : between.phase ≡ old.phase = takes.phase ∙ still old.phase message g in
    let gone : is_gone between.phase ≡ true = ap (λ (p : Phase). is_gone p) phase ∙ g in
    let later : IsStill between ss new = nothing_after_exit between new ms ss gone rest in
    let same : AreSame old.documents between.documents = same_behind old.phase old.encoding message old.documents between.documents g takes.documents in
    record {
      quiet = All-cons IsQuiet step ss (takes.comes ∙ quiet old.phase message g) later.quiet;
      phase = later.phase ∙ phase;
      documents = λ name. later.documents name ∙ same name;
    }

-- quiet steps respond to nothing
quiet_steps : (steps : List Step) → All IsQuiet steps → flat_map answered_id steps ≡ []
quiet_steps [] h = refl
quiet_steps (step ∷ steps) h =
    ap (λ (s : Step). answered_id s ++ flat_map answered_id steps) (All-head IsQuiet step steps h) ∙ quiet_steps steps (All-tail IsQuiet step steps h)

-- what is before the first `exit`
chosen : (message : Incoming) (ms : List Incoming) (b : Bool) → is_exit message ≡ b →
    before_exit (message ∷ ms) ≡ cond b [] (message ∷ before_exit ms)
chosen message ms b e = ap (λ (x : Bool). cond x [] (message ∷ before_exit ms)) e

module _ (old between new : Server) (message : Incoming) (step : Step) (ms : List Incoming) (steps : List Step)
    (g : is_gone old.phase ≡ false) (takes : Takes old message step between) (rest : Runs between ms steps new) where
  now : answered_id step ≡ asked_id message
  now = ap (λ (s : Step). answered_id s) takes.comes ∙ answered old.phase message g

  at_exit : is_exit message ≡ true → answered_id step ++ flat_map answered_id steps ≡ []
  at_exit e =
      let gone : is_gone between.phase ≡ true = ap (λ (p : Phase). is_gone p) takes.phase ∙ exits old.phase message e in
      let silent : flat_map answered_id steps ≡ [] = quiet_steps steps (nothing_after_exit between new ms steps gone rest).quiet in
      ap (λ (ids : List Id). ids ++ flat_map answered_id steps) (now ∙ exit_asks_nothing message e) ∙ silent

  going_on : (ids : List Id) → flat_map answered_id steps ≡ ids → answered_id step ++ flat_map answered_id steps ≡ asked_id message ++ ids
  going_on ids later = ap (λ (before : List Id). before ++ flat_map answered_id steps) now ∙ ap (λ (behind : List Id). asked_id message ++ behind) later

  stays_on : is_exit message ≡ false → is_gone between.phase ≡ false
  stays_on e = ap (λ (p : Phase). is_gone p) takes.phase ∙ stays old.phase message g e

  -- one message more
  one_more : (b : Bool) → is_exit message ≡ b →
      (is_gone between.phase ≡ false → flat_map answered_id steps ≡ flat_map asked_id (before_exit ms)) →
      answered_id step ++ flat_map answered_id steps ≡ flat_map asked_id (before_exit (message ∷ ms))
  one_more true e later = at_exit e ∙ sym (ap (λ (xs : List Incoming). flat_map asked_id xs) (chosen message ms true e))
  one_more false e later = going_on (flat_map asked_id (before_exit ms)) (later (stays_on e))
      ∙ sym (ap (λ (xs : List Incoming). flat_map asked_id xs) (chosen message ms false e))

pub one_response_each : OneResponseEach
one_response_each old _ _ _ g runs.none = refl
one_response_each old new _ _ g (runs.more {between = between} {message = message} {step = step} {messages = ms} {steps = ss} takes rest) =
    one_more old between new message step ms ss g takes rest (is_exit message) refl
    (λ on. one_response_each between new ms ss on rest)

-- While the server runs.
running_stays : (message : Incoming) → goes_on message ≡ true → next_phase Running message ≡ Running
running_stays (messages.Request id (calls.Initialize utf8)) g = refl
running_stays (messages.Request id calls.Shutdown) g = absurd (let no : ⊥ = cc in no)
running_stays (messages.Request id (calls.Ask question)) g = refl
running_stays (messages.Request id calls.Unknown) g = refl
running_stays (messages.Request id calls.BadParameters) g = refl
running_stays (messages.Told notices.Initialized) g = refl
running_stays (messages.Told (notices.Open document version text)) g = refl
running_stays (messages.Told (notices.Change document version changes)) g = refl
running_stays (messages.Told (notices.Save document)) g = refl
running_stays (messages.Told (notices.Close document)) g = refl
running_stays (messages.Told notices.Exit) g = absurd (let no : ⊥ = cc in no)
running_stays (messages.Told notices.Cancel) g = refl
running_stays (messages.Told notices.Unknown) g = refl
running_stays messages.Reply g = refl
running_stays messages.Malformed g = refl
running_stays (messages.Ill id) g = refl

counts_on : (encoding : Encoding) (message : Incoming) → next_encoding Running encoding message ≡ encoding
counts_on encoding (messages.Request id call) = refl
counts_on encoding (messages.Told notice) = refl
counts_on encoding messages.Reply = refl
counts_on encoding messages.Malformed = refl
counts_on encoding (messages.Ill id) = refl

-- one message more
module _ (old between new : Documents) (encoding : Encoding) (later : List Notice) (rest : Stands encoding later between new) where
  stands_on : (message : Incoming) → AfterMessage Running encoding message old between →
      Stands encoding (notice_in message ++ later) old new
  stands_on (messages.Request id call) a = runs.stays a rest
  stands_on (messages.Told notice) a = runs.more a rest
  stands_on messages.Reply a = runs.stays a rest
  stands_on messages.Malformed a = runs.stays a rest
  stands_on (messages.Ill id) a = runs.stays a rest

module _ (old between new : Server) (message : Incoming) (step : Step) (later : List Notice) (runs_on : old.phase ≡ Running)
    (g : goes_on message ≡ true) (takes : Takes old message step between) where
  phase_on : between.phase ≡ Running
  phase_on = takes.phase ∙ (ap (λ (p : Phase). next_phase p message) runs_on ∙ running_stays message g)

  encoding_on : between.encoding ≡ old.encoding
  encoding_on = takes.encoding ∙ (ap (λ (p : Phase). next_encoding p old.encoding message) runs_on ∙ counts_on old.encoding message)

  stands_more : Stands between.encoding later between.documents new.documents →
      Stands old.encoding (notice_in message ++ later) old.documents new.documents
  stands_more rest =
      stands_on old.documents between.documents new.documents old.encoding later
      (subst (λ (e : Encoding). Stands e later between.documents new.documents) encoding_on rest) message
      (subst (λ (p : Phase). AfterMessage p old.encoding message old.documents between.documents) runs_on takes.documents)

pub documents_are_of_notices : DocumentsAreOfNotices
documents_are_of_notices old _ _ _ on all runs.none = runs.none
documents_are_of_notices old new _ _ on all (runs.more {between = between} {message = message} {step = step} {messages = ms} {steps = ss} takes rest) =
    let now : goes_on message ≡ true = All-head GoesOn message ms all in
    stands_more old between new message step (flat_map notice_in ms) on now takes
    (documents_are_of_notices between new ms ss (phase_on old between new message step (flat_map notice_in ms) on now takes)
    (All-tail GoesOn message ms all) rest)
