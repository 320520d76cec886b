-- How a run of a program with generated role classes ends where a call of one of their objects is open; and that, where nothing else
-- calls `Session`, all that is sent, looked at and taken is done in such calls, and runs wait and mismatch in them alone.
use Rattle.std.specs.Prelude.{◌≡◌, ◌⊎◌, ℕ, List, [], ◌∷◌, ◌++◌, length, Some, None, Contains, slice_get}
use Rattle.mg_text.specs.Call.{Name}
use Rattle.mg_text.specs.declared.event.Event.{Event}
use Rattle.mg_text.specs.declared.event.Event.TheVariants as seen
use Rattle.mg_text.specs.declared.event.Sent.{Sent}
use Rattle.scr_tree.specs.declared.syntax.Payload.{Payload}
use Rattle.scr_tree.specs.Protocol.{Parts, Send, Take, peer_of}
use Rattle.scr_tree.specs.CallNames.{label_call}
use Rattle.scr_tree.specs.Steps.{Act}
use Rattle.scr_tree.specs.CallNames as calls
use Rattle.ts_tree.specs.Typestate.{Typestate}
use Rattle.stm_api.specs.Doings.{Doing, Passes, Asks, all_doings, call_of}
use Rattle.jv_values.specs.Values.{Inputs, Ended, Finish, Done, Mismatch, NoPeer, Wait, More, Wrong}
use Rattle.jv_values.specs.Messages.{messages_of, taken}
use Rattle.jv_values.specs.Seen.{IsMade, told, open_told}
use Rattle.jv_meaning.specs.Program.{Sources}
use Rattle.jv_meaning.specs.Meaning.{mean}
use Rattle.jv_meaning.specs.Calls.{calls}
use Rattle.stm_acts.specs.Acts.{Deed, Looked, deed_of, kind_of, unnumbered, acts}
use Rattle.stm_acts.specs.Played.{role_class, HasRole}
use Rattle.stm_acts.specs.Calm.{OnlyRolesCall, OnlyMainsPlay, MainPlaysOne}

-- whom a doing is with
abbrev pub peer_in : Doing → Name
peer_in (Passes message) = peer_of message
peer_in (Asks number peer labels) = peer

-- it looks at or takes the next message from the peer
abbrev pub Wants : Doing → Type 0
Wants (Passes (Send peer label kind)) = ⊥
Wants (Passes (Take peer label kind)) = Unit {0}
Wants (Asks number peer labels) = Unit {0}

-- an end that no message and no peer brings about
abbrev pub IsOther : Finish → Type 0
IsOther (Mismatch peer found) = ⊥
IsOther (NoPeer peer) = ⊥
IsOther (Wait peer) = ⊥
IsOther _ = Unit {0}

-- an end that a call of a generated method comes to without a message or a peer: the budget is spent, or its arguments don't fit
abbrev pub IsCut : Finish → Type 0
IsCut More = Unit {0}
IsCut Wrong = Unit {0}
IsCut _ = ⊥

-- How messages and peers may end a call that stands for a doing, while the doing isn't done. One that sends never waits.
pub data Halts (inputs : Inputs) (events : List Event) : Doing → Finish → Type 0 where
  -- no message is left from the peer
  waits : {doing : Doing} {messages : List Sent} → Wants doing → messages_of inputs (peer_in doing) ≡ Some messages →
      slice_get messages (taken (peer_in doing) events) ≡ None →
      Halts inputs events doing (Wait (peer_in doing))
  -- there is no such peer
  misses : {doing : Doing} → messages_of inputs (peer_in doing) ≡ None → Halts inputs events doing (NoPeer (peer_in doing))
  -- the next message from the peer has another label, or carries another kind
  mismatches : {peer label : Name} {kind : Payload} {messages : List Sent} {message : Sent} → messages_of inputs peer ≡ Some messages →
      slice_get messages (taken peer events) ≡ Some message →
      ((message.label ≡ label) × (kind_of message.payload ≡ kind) → ⊥) →
      Halts inputs events (Passes (Take peer label kind)) (Mismatch peer message.label)

module _ (j : Sources) (me : Name) (protocol : Parts) (o : ℕ) (events : List Event) where
  -- each call of the object that was left has its act, and there is none more
  abbrev pub IsUndone : Type 0
  IsUndone = length (acts o events) ≡ length (calls j (role_class me) o events)

  -- the object stands in a call that stands for this doing, and hasn't done it
  pub record StandsAt (doing : Doing) : Type 0 where
    pub is_one : Contains (all_doings protocol) doing
    pub in_call : open_told (told o events) ≡ Some (call_of me doing)
    pub undone : IsUndone

  -- the last that was seen is its look at a label of no branch, the act of the open call
  pub record HasRefused (peer label : Name) : Type 0 where
    pub number : ℕ
    pub labels : List Name
    pub asked : Contains (all_doings protocol) (Asks number peer labels)
    pub no_branch : Contains labels label → ⊥
    pub in_call : open_told (told o events) ≡ Some (label_call me number peer)
    pub before : List Event
    pub looked : events ≡ before ++ seen.Look peer label ∷ []
    pub closed : List Deed
    pub are : acts o events ≡ closed ++ Looked peer label ∷ []
    pub as_many : length closed ≡ length (calls j (role_class me) o events)

  -- How the run may end inside a call of the object. Where the act of the call is done, it ends there only if it was such a look.
  pub data EndsInCall (inputs : Inputs) : Finish → Type 0 where
    cut : {finish : Finish} → IsUndone → IsCut finish → EndsInCall inputs finish
    halts : {doing : Doing} {finish : Finish} → StandsAt doing → Halts inputs events doing finish → EndsInCall inputs finish
    refuses : {peer label : Name} → HasRefused peer label → EndsInCall inputs (Mismatch peer label)

-- the program has what is generated of the protocol of each of these roles
abbrev pub HasRoles : Sources → List Typestate → List Name → (Name → Parts) → Type 0
HasRoles j typestates roles protocols = (me : Name) → Contains roles me → HasRole j typestates me (protocols me)

-- a call of an object of one of these roles' classes is open
pub record IsInCall (roles : List Name) (events : List Event) : Type 0 where
  pub me : Name
  pub is_one : Contains roles me
  pub object : ℕ
  pub made : IsMade events object (role_class me)
  pub method : Name
  pub is_open : open_told (told object events) ≡ Some method

-- This deed is the act that an open call of such an object stands for, and its first.
pub record IsDoneInCall (j : Sources) (roles : List Name) (protocols : Name → Parts) (events : List Event) (deed : Deed) : Type 0 where
  pub me : Name
  pub is_one : Contains roles me
  pub object : ℕ
  pub made : IsMade events object (role_class me)
  pub doing : Doing
  pub stands : StandsAt j me (protocols me) object events doing
  pub act : Act
  pub in_call : (calls.call_of me act).method ≡ call_of me doing
  pub is : deed ≡ unnumbered act

-- an end before `main` has returned that no message and no peer brings about
abbrev pub IsBusy : Finish → Type 0
IsBusy Done = ⊥
IsBusy finish = IsOther finish

-- all that is sent, looked at and taken
abbrev pub deeds : List Event → List Deed
deeds [] = []
deeds (event ∷ events) = deed_of event ++ deeds events

-- Where a run ends while a call of an object of a role's class is open.
abbrev pub EndsFitCalls : Type 0
EndsFitCalls =
    (j : Sources) (typestates : List Typestate) (roles : List Name) (protocols : Name → Parts) → HasRoles j typestates roles protocols →
    (class : Name) (inputs : Inputs) (budget : ℕ) (me : Name) → Contains roles me →
    (o : ℕ) → IsMade (mean j class inputs budget).events o (role_class me) →
    (method : Name) → open_told (told o (mean j class inputs budget).events) ≡ Some method →
    EndsInCall j me (protocols me) o (mean j class inputs budget).events inputs (mean j class inputs budget).finish

-- Where only the classes of roles call `Session`: messages and peers end a run only in a call of one of their objects,
abbrev pub EndsAreInCalls : Type 0
EndsAreInCalls =
    (j : Sources) (typestates : List Typestate) (roles : List Name) (protocols : Name → Parts) → HasRoles j typestates roles protocols →
    OnlyRolesCall j roles →
    (class : Name) (inputs : Inputs) (budget : ℕ) →
    IsOther (mean j class inputs budget).finish ⊎ IsInCall roles (mean j class inputs budget).events

-- each deed is done in such a call,
abbrev pub DeedsAreInCalls : Type 0
DeedsAreInCalls =
    (j : Sources) (typestates : List Typestate) (roles : List Name) (protocols : Name → Parts) → HasRoles j typestates roles protocols →
    OnlyRolesCall j roles →
    (class : Name) (inputs : Inputs) (budget : ℕ) (so_far : List Event) (event : Event) (later : List Event) →
    (mean j class inputs budget).events ≡ so_far ++ event ∷ later → (deed : Deed) → deed_of event ≡ deed ∷ [] →
    IsDoneInCall j roles protocols so_far deed

-- and where there is but one such object, all deeds are its acts.
abbrev pub DeedsAreOfOne : Type 0
DeedsAreOfOne =
    (j : Sources) (typestates : List Typestate) (roles : List Name) (protocols : Name → Parts) → HasRoles j typestates roles protocols →
    OnlyRolesCall j roles →
    (class : Name) (inputs : Inputs) (budget : ℕ) (me : Name) → Contains roles me →
    (o : ℕ) → IsMade (mean j class inputs budget).events o (role_class me) →
    ((you : Name) (p : ℕ) → Contains roles you → IsMade (mean j class inputs budget).events p (role_class you) → p ≡ o) →
    (so_far later : List Event) → (mean j class inputs budget).events ≡ so_far ++ later → deeds so_far ≡ acts o so_far

-- One object of a role's class does all that is sent, looked at and taken, and is the only one of these roles' classes; or there is none yet,
-- and the run goes on or is cut.
pub data IsDoneByOne (j : Sources) (roles : List Name) (me : Name) (protocol : Parts) (inputs : Inputs) (run : Ended) : Type 0 where
  not_yet : ((you : Name) (p : ℕ) → Contains roles you → IsMade run.events p (role_class you) → ⊥) → deeds run.events ≡ [] →
      IsBusy run.finish → IsDoneByOne j roles me protocol inputs run
  by_one : (o : ℕ) → IsMade run.events o (role_class me) →
      ((you : Name) (p : ℕ) → Contains roles you → IsMade run.events p (role_class you) → p ≡ o) →
      ((so_far later : List Event) → run.events ≡ so_far ++ later → deeds so_far ≡ acts o so_far) →
      IsOther run.finish ⊎ EndsInCall j me protocol o run.events inputs run.finish → IsDoneByOne j roles me protocol inputs run

-- Where `main` makes one object of a role's class, behind statements that hold no `return`, and all else is quiet.
abbrev pub PlaysAlone : Type 0
PlaysAlone =
    (j : Sources) (typestates : List Typestate) (roles : List Name) (protocols : Name → Parts) → HasRoles j typestates roles protocols →
    OnlyMainsPlay j roles →
    (me : Name) → Contains roles me → (class : Name) → MainPlaysOne j roles me class → (inputs : Inputs) (budget : ℕ) →
    IsDoneByOne j roles me (protocols me) inputs (mean j class inputs budget)
