-- The typestate of a local protocol, by the numbers of its text. Its states are State0, State1, .. in the order of the text: one for each
-- choice, and one for each message that isn't the first of a branch of a choice at self. After a statement comes the state of what follows
-- it: the first state of the next statement, what follows the choice or the rec around, or the end. `continue X` leads to the first state
-- inside rec X. `do N` leads to the first state of N's body; where that body has none, to where its own `do` leads, and to the end where it
-- has no `do` either. It is said of valid protocols; of another text it means nothing.
use Rattle.std.specs.Prelude.{ℕ, zero, suc, Bool, true, false, ◌||◌, List, [], ◌∷◌, ◌++◌, length, Option, Some, None, if◌then◌else◌, codes}
use Rattle.std.specs.Option.{option_or}
use Rattle.std.specs.Str.{bytes_eq}
use Rattle.mg_text.specs.Call.{Name}
use Rattle.scr_tree.specs.Tree.{LocalTree}
use Rattle.scr_tree.specs.Protocol.{peer_of, label_of, Protocol, Done, Does, ChoiceHere, ChoiceThere, Rec, Continue, Do, Branches, NoMore}
use Rattle.scr_tree.specs.Protocol.{Branch, Parts}
use Rattle.scr_tree.specs.Meaning.{protocol_of}
use Rattle.scr_trace.specs.declared.standing.Standing.{Standing}
use Rattle.scr_trace.specs.declared.standing.Standing.TheVariants as standings
use Rattle.ts_tree.specs.declared.parts.Branch.{Branch as Answer}
use Rattle.ts_tree.specs.declared.parts.To.TheVariants as tos
use Rattle.ts_tree.specs.Typestate.{Method, State, Typestate}
use Rattle.stm_gen.specs.Laid.{method_of, label_method, state_name}

-- the next free number behind these statements, whose states are numbered from n on
abbrev mutual
  pub after : ℕ → Protocol → ℕ
  after n Done = n
  after n (Does message rest) = after (suc n) rest
  after n (ChoiceHere branches rest) = after (after_here (suc n) branches) rest
  after n (ChoiceThere number branches rest) = after (after_there (suc n) branches) rest
  after n (Rec name body rest) = after (after n body) rest
  after n (Continue name rest) = after n rest
  after n (Do name rest) = after n rest

  -- in a choice at self the first message of a branch has no state of its own
  pub after_here : ℕ → Branches → ℕ
  after_here n NoMore = n
  after_here n (Branch branch more) = after_here (after_behind n branch) more

  pub after_behind : ℕ → Protocol → ℕ
  after_behind n (Does message rest) = after n rest
  after_behind n _ = n

  pub after_there : ℕ → Branches → ℕ
  after_there n NoMore = n
  after_there n (Branch branch more) = after_there (after_from n branch) more

  pub after_from : ℕ → Protocol → ℕ
  after_from n (Does message rest) = after (suc n) rest
  after_from n _ = n

-- these statements have a message or a choice
abbrev pub has_state : Protocol → Bool
has_state Done = false
has_state (Does message rest) = true
has_state (ChoiceHere branches rest) = true
has_state (ChoiceThere number branches rest) = true
has_state (Rec name body rest) = has_state body || has_state rest
has_state (Continue name rest) = has_state rest
has_state (Do name rest) = has_state rest

-- the name in the first `do` of statements without a message or a choice, if they have one
abbrev pub do_in : Protocol → Option Name
do_in Done = None
do_in (Does message rest) = None
do_in (ChoiceHere branches rest) = None
do_in (ChoiceThere number branches rest) = None
do_in (Rec name body rest) = option_or (do_in body) (do_in rest)
do_in (Continue name rest) = do_in rest
do_in (Do name rest) = Some name

-- a part, with the number of its first state if it has one, and the part that its own `do` names
pub record Placed : Type 0 where
  pub name : Name
  pub first : Option ℕ
  pub goes_on : Option Name

-- the parts, whose states are numbered from n on
abbrev pub placed : ℕ → Parts → List Placed
placed n [] = []
placed n (part ∷ parts) =
    record { name = part.name; first = if has_state part.body then Some n else None; goes_on = do_in part.body } ∷ placed
    (after n part.body) parts

abbrev pub placed_as : Name → List Placed → Option Placed
placed_as name [] = None
placed_as name (p ∷ ps) = if bytes_eq name p.name then Some p else placed_as name ps

-- where a part begins: at its first state, or where its own `do` leads, or at the end
abbrev pub began : Option ℕ → Option Name → (Name → Standing) → Standing
began (Some n) goes_on leads = standings.State n
began None None leads = standings.End
began None (Some name) leads = leads name

abbrev pub began_as : Option Placed → (Name → Standing) → Standing
began_as None leads = standings.End
began_as (Some p) leads = began p.first p.goes_on leads

-- where the part of this name begins, if at most so many parts are on the way
abbrev pub entry_within : ℕ → List Placed → Name → Standing
entry_within zero ps name = standings.End
entry_within (suc k) ps name = began_as (placed_as name ps) (entry_within k ps)

-- where it begins; no way comes to one part twice
abbrev pub entry : List Placed → Name → Standing
entry ps name = entry_within (suc (length ps)) ps name

-- where a rec begins: at the first state inside it
pub record Start : Type 0 where
  pub name : Name
  pub to : Standing

-- where the innermost rec of this name begins
abbrev pub start_of : Name → List Start → Standing
start_of name [] = standings.End
start_of name (start ∷ starts) = if bytes_eq name start.name then start.to else start_of name starts

-- the answers of a choice elsewhere: the label of each branch, which leads to the state of the branch's first message
abbrev pub answers : ℕ → Branches → List Answer
answers n NoMore = []
answers n (Branch (Does message rest) more) = record { label = label_of message; to = tos.State n } ∷ answers (after (suc n) rest) more
answers n (Branch _ more) = answers n more

-- what a choice elsewhere offers: its label call, at the peer that the first messages come from
abbrev pub asks : Name → (number : ℕ) → ℕ → Branches → List Method
asks me number n (Branch (Does message rest) more) =
    label_method me number (peer_of message) (answers n (Branch (Does message rest) more)) ∷ []
asks me number n _ = []

-- the state of this number
abbrev pub state : ℕ → List Method → State
state n methods = record { name = state_name n; methods = methods; drops = false }

-- `begins` says where each part begins
module _ (begins : Name → Standing) where
  -- Where these statements begin, if their states are numbered from n on, `follow` is what follows them, and these are the starts of the
  -- recs
  -- around.
  abbrev pub first : ℕ → Standing → List Start → Protocol → Standing
  first n follow starts Done = follow
  first n follow starts (Does message rest) = standings.State n
  first n follow starts (ChoiceHere branches rest) = standings.State n
  first n follow starts (ChoiceThere number branches rest) = standings.State n
  first n follow starts (Rec name body rest) = first n (first (after n body) follow starts rest) starts body
  first n follow starts (Continue name rest) = start_of name starts
  first n follow starts (Do name rest) = begins name

  -- what a choice at self offers: the first message of each branch, which leads to what stands behind it
  abbrev pub sends : ℕ → Standing → List Start → Branches → List Method
  sends n follow starts NoMore = []
  sends n follow starts (Branch (Does message rest) more) =
      method_of message (first n follow starts rest) ∷ sends (after n rest) follow starts more
  sends n follow starts (Branch _ more) = sends n follow starts more

  -- the states of these statements, in the order of the text
  abbrev mutual
    pub states : Name → ℕ → Standing → List Start → Protocol → List State
    states me n follow starts Done = []
    states me n follow starts (Does message rest) =
        state n (method_of message (first (suc n) follow starts rest) ∷ []) ∷ states me (suc n) follow starts rest
    states me n follow starts (ChoiceHere branches rest) =
        let behind = after_here (suc n) branches in
        let next = first behind follow starts rest in
        state n (sends (suc n) next starts branches) ∷ (states_here me (suc n) next starts branches ++ states me behind follow starts rest)
    states me n follow starts (ChoiceThere number branches rest) =
        let behind = after_there (suc n) branches in
        let next = first behind follow starts rest in
        state n (asks me number (suc n) branches) ∷ (states_there me (suc n) next starts branches ++ states me behind follow starts rest)
    states me n follow starts (Rec name body rest) =
        let behind = after n body in
        let next = first behind follow starts rest in
        states me n next (record { name = name; to = first n next starts body } ∷ starts) body ++ states me behind follow starts rest
    states me n follow starts (Continue name rest) = states me n follow starts rest
    states me n follow starts (Do name rest) = states me n follow starts rest

    -- those in the branches of a choice at self
    pub states_here : Name → ℕ → Standing → List Start → Branches → List State
    states_here me n follow starts NoMore = []
    states_here me n follow starts (Branch branch more) =
        states_behind me n follow starts branch ++ states_here me (after_behind n branch) follow starts more

    -- those behind the first message of a branch
    pub states_behind : Name → ℕ → Standing → List Start → Protocol → List State
    states_behind me n follow starts (Does message rest) = states me n follow starts rest
    states_behind me n follow starts _ = []

    -- those in the branches of a choice elsewhere
    pub states_there : Name → ℕ → Standing → List Start → Branches → List State
    states_there me n follow starts NoMore = []
    states_there me n follow starts (Branch branch more) =
        states_from me n follow starts branch ++ states_there me (after_from n branch) follow starts more

    -- those from the first message of a branch on
    pub states_from : Name → ℕ → Standing → List Start → Protocol → List State
    states_from me n follow starts (Does message rest) =
        state n (method_of message (first (suc n) follow starts rest) ∷ []) ∷ states me (suc n) follow starts rest
    states_from me n follow starts _ = []

  -- the states of parts, whose states are numbered from n on
  abbrev pub part_states : Name → ℕ → Parts → List State
  part_states me n [] = []
  part_states me n (part ∷ parts) = states me n standings.End [] part.body ++ part_states me (after n part.body) parts

-- the typestate of a local protocol
abbrev pub typestate_of : LocalTree → Typestate
typestate_of local = record {
  name = local.me ++ codes "Protocol";
  states = part_states (entry (placed 0 (protocol_of local))) local.me 0 (protocol_of local);
}
