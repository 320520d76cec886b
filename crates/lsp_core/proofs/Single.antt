-- Single messages.
use Rattle.std.proofs.Common.{◌≡◌, Bool, true, false, [], refl}
use Rattle.lsp_text.specs.declared.encoding.Encoding.{Encoding}
use Rattle.lsp_text.specs.declared.documents.Documents.{Documents}
use Rattle.lsp_messages.specs.declared.incoming.Call.TheVariants as calls
use Rattle.lsp_messages.specs.declared.incoming.Notice.{Notice}
use Rattle.lsp_messages.specs.declared.incoming.Notice.TheVariants as notices
use Rattle.lsp_messages.specs.declared.incoming.Incoming.{Incoming}
use Rattle.lsp_messages.specs.declared.incoming.Incoming.TheVariants as messages
use Rattle.lsp_core.specs.declared.phase.Phase.{Phase}
use Rattle.lsp_core.specs.declared.phase.Phase.TheVariants.{Fresh, Running, Down, Gone}
use Rattle.lsp_core.specs.declared.step.Step.TheVariants.{Quiet}
use Rattle.lsp_core.specs.Phases.{end_phase, notice_phase, next_phase}
use Rattle.lsp_core.specs.Steps.{step_of}
use Rattle.lsp_core.specs.Standing.{AreSame, AfterMessage}
use Rattle.lsp_core.specs.Runs.{asked_id, answered_id, is_exit, is_gone}

-- a message is responded to as it wants, unless the server is gone
pub answered : (phase : Phase) (message : Incoming) → is_gone phase ≡ false → answered_id (step_of phase message) ≡ asked_id message
answered Fresh (messages.Request id (calls.Initialize utf8)) g = refl
answered Fresh (messages.Request id calls.Shutdown) g = refl
answered Fresh (messages.Request id (calls.Ask question)) g = refl
answered Fresh (messages.Request id calls.Unknown) g = refl
answered Fresh (messages.Request id calls.BadParameters) g = refl
answered Fresh (messages.Told notice) g = refl
answered Fresh messages.Reply g = refl
answered Fresh messages.Malformed g = refl
answered Fresh (messages.Ill id) g = refl
answered Running (messages.Request id (calls.Initialize utf8)) g = refl
answered Running (messages.Request id calls.Shutdown) g = refl
answered Running (messages.Request id (calls.Ask question)) g = refl
answered Running (messages.Request id calls.Unknown) g = refl
answered Running (messages.Request id calls.BadParameters) g = refl
answered Running (messages.Told notices.Initialized) g = refl
answered Running (messages.Told (notices.Open document version text)) g = refl
answered Running (messages.Told (notices.Change document version changes)) g = refl
answered Running (messages.Told (notices.Save document)) g = refl
answered Running (messages.Told (notices.Close document)) g = refl
answered Running (messages.Told notices.Exit) g = refl
answered Running (messages.Told notices.Cancel) g = refl
answered Running (messages.Told notices.Unknown) g = refl
answered Running messages.Reply g = refl
answered Running messages.Malformed g = refl
answered Running (messages.Ill id) g = refl
answered Down (messages.Request id call) g = refl
answered Down (messages.Told notice) g = refl
answered Down messages.Reply g = refl
answered Down messages.Malformed g = refl
answered Down (messages.Ill id) g = refl
answered (Gone clean) message g = absurd (let no : ⊥ = cc in no)

-- only `exit` ends it
ends : (phase : Phase) → is_gone (end_phase phase) ≡ true
ends Fresh = refl
ends Running = refl
ends Down = refl
ends (Gone clean) = refl

pub exits : (phase : Phase) (message : Incoming) → is_exit message ≡ true → is_gone (next_phase phase message) ≡ true
exits phase (messages.Told notices.Exit) e = ends phase
exits phase (messages.Told notices.Initialized) e = absurd (let no : ⊥ = cc in no)
exits phase (messages.Told (notices.Open document version text)) e = absurd (let no : ⊥ = cc in no)
exits phase (messages.Told (notices.Change document version changes)) e = absurd (let no : ⊥ = cc in no)
exits phase (messages.Told (notices.Save document)) e = absurd (let no : ⊥ = cc in no)
exits phase (messages.Told (notices.Close document)) e = absurd (let no : ⊥ = cc in no)
exits phase (messages.Told notices.Cancel) e = absurd (let no : ⊥ = cc in no)
exits phase (messages.Told notices.Unknown) e = absurd (let no : ⊥ = cc in no)
exits phase (messages.Request id call) e = absurd (let no : ⊥ = cc in no)
exits phase messages.Reply e = absurd (let no : ⊥ = cc in no)
exits phase messages.Malformed e = absurd (let no : ⊥ = cc in no)
exits phase (messages.Ill id) e = absurd (let no : ⊥ = cc in no)

-- and asks nothing
pub exit_asks_nothing : (message : Incoming) → is_exit message ≡ true → asked_id message ≡ []
exit_asks_nothing (messages.Told notice) e = refl
exit_asks_nothing (messages.Request id call) e = absurd (let no : ⊥ = cc in no)
exit_asks_nothing messages.Reply e = refl
exit_asks_nothing messages.Malformed e = refl
exit_asks_nothing (messages.Ill id) e = absurd (let no : ⊥ = cc in no)

pub stays : (phase : Phase) (message : Incoming) → is_gone phase ≡ false → is_exit message ≡ false → is_gone (next_phase phase message) ≡ false
stays Fresh (messages.Request id (calls.Initialize utf8)) g e = refl
stays Fresh (messages.Request id calls.Shutdown) g e = refl
stays Fresh (messages.Request id (calls.Ask question)) g e = refl
stays Fresh (messages.Request id calls.Unknown) g e = refl
stays Fresh (messages.Request id calls.BadParameters) g e = refl
stays Running (messages.Request id (calls.Initialize utf8)) g e = refl
stays Running (messages.Request id calls.Shutdown) g e = refl
stays Running (messages.Request id (calls.Ask question)) g e = refl
stays Running (messages.Request id calls.Unknown) g e = refl
stays Running (messages.Request id calls.BadParameters) g e = refl
stays Down (messages.Request id call) g e = refl
stays (Gone clean) (messages.Request id call) g e = absurd (let no : ⊥ = cc in no)
stays phase (messages.Told notices.Exit) g e = absurd (let no : ⊥ = cc in no)
stays phase (messages.Told notices.Initialized) g e = g
stays phase (messages.Told (notices.Open document version text)) g e = g
stays phase (messages.Told (notices.Change document version changes)) g e = g
stays phase (messages.Told (notices.Save document)) g e = g
stays phase (messages.Told (notices.Close document)) g e = g
stays phase (messages.Told notices.Cancel) g e = g
stays phase (messages.Told notices.Unknown) g e = g
stays phase messages.Reply g e = g
stays phase messages.Malformed g e = g
stays phase (messages.Ill id) g e = g

-- Behind `exit`.
pub quiet : (phase : Phase) (message : Incoming) → is_gone phase ≡ true → step_of phase message ≡ Quiet
quiet Fresh message g = absurd (let no : ⊥ = cc in no)
quiet Running message g = absurd (let no : ⊥ = cc in no)
quiet Down message g = absurd (let no : ⊥ = cc in no)
quiet (Gone clean) (messages.Request id call) g = refl
quiet (Gone clean) (messages.Told notice) g = refl
quiet (Gone clean) messages.Reply g = refl
quiet (Gone clean) messages.Malformed g = refl
quiet (Gone clean) (messages.Ill id) g = refl

gone_stays : (clean : Bool) (notice : Notice) → notice_phase (Gone clean) notice ≡ Gone clean
gone_stays clean notices.Exit = refl
gone_stays clean notices.Initialized = refl
gone_stays clean (notices.Open document version text) = refl
gone_stays clean (notices.Change document version changes) = refl
gone_stays clean (notices.Save document) = refl
gone_stays clean (notices.Close document) = refl
gone_stays clean notices.Cancel = refl
gone_stays clean notices.Unknown = refl

pub still : (phase : Phase) (message : Incoming) → is_gone phase ≡ true → next_phase phase message ≡ phase
still Fresh message g = absurd (let no : ⊥ = cc in no)
still Running message g = absurd (let no : ⊥ = cc in no)
still Down message g = absurd (let no : ⊥ = cc in no)
still (Gone clean) (messages.Request id call) g = refl
still (Gone clean) (messages.Told notice) g = gone_stays clean notice
still (Gone clean) messages.Reply g = refl
still (Gone clean) messages.Malformed g = refl
still (Gone clean) (messages.Ill id) g = refl

pub same_behind : (phase : Phase) (encoding : Encoding) (message : Incoming) (old new : Documents) → is_gone phase ≡ true →
    AfterMessage phase encoding message old new → AreSame old new
same_behind Fresh encoding message old new g a = absurd (let no : ⊥ = cc in no)
same_behind Running encoding message old new g a = absurd (let no : ⊥ = cc in no)
same_behind Down encoding message old new g a = absurd (let no : ⊥ = cc in no)
same_behind (Gone clean) encoding (messages.Request id call) old new g a = a
same_behind (Gone clean) encoding (messages.Told notice) old new g a = a
same_behind (Gone clean) encoding messages.Reply old new g a = a
same_behind (Gone clean) encoding messages.Malformed old new g a = a
same_behind (Gone clean) encoding (messages.Ill id) old new g a = a
