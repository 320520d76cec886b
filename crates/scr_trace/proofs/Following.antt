-- Where a position comes to says which steps it has, and silent moves keep it.
use Rattle.std.proofs.Common.{◌≡◌, ℕ, zero, suc, List, [], ◌∷◌, ◌++◌, Some, refl, ap, subst, inl, inr, ⊎_elim}
use Rattle.std.specs.Prelude.{slice_get, Option}
use Rattle.scr_tree.specs.Protocol.{Message, peer_of, label_of, Protocol, Done, Does, ChoiceHere, ChoiceThere, Rec, Continue, Do, Branches}
use Rattle.scr_tree.specs.Protocol.{NoMore, Branch, Parts}
use Rattle.scr_tree.specs.Steps.{Act, Moves, Looks, Part, Plain, Left, Position, whole, Silent, ends, begins, continues, goes_on, HasBranch}
use Rattle.scr_tree.specs.Steps.{this, later, Step, silently as stepping, moves, chooses, looks as looking, Finished, nothing_left}
use Rattle.scr_tree.specs.Steps.{after_silent}
use Rattle.scr_trace.specs.declared.standing.Standing.{Standing}
use Rattle.scr_trace.specs.declared.standing.Standing.TheVariants as standings
use Rattle.scr_trace.specs.Positions.{states_in, states_here, states_behind, states_there, states_from, state_positions, ComesTo, at_state}
use Rattle.scr_trace.specs.Positions.{at_end, silently}
use Rattle.scr_trace.specs.Onward.{Onward, sends, looks, steps_at}
use Rattle.scr_trace.specs.inner.Goes.{Among}
use Rattle.scr_trace.specs.Graph.{Edge, IsStep, AreSteps, AreStates}

-- ---- silent moves

some_same : {A : Type 0} {a b : A} {o : Option A} → o ≡ Some a → o ≡ Some b → a ≡ b
some_same e f = cc

-- there is one silent move at most
pub silent_one : {parts : Parts} {p q r : Position} → Silent parts p q → Silent parts p r → q ≡ r
silent_one ends ends = refl
silent_one begins begins = refl
silent_one (continues e) (continues f) = some_same e f
silent_one (goes_on e) (goes_on f) = ap whole (some_same e f)

-- no silent move is possible
abbrev pub IsSettled : Parts → Position → Type 0
IsSettled parts p = (q : Position) → Silent parts p q → ⊥

-- a message or a choice is in front
pub record IsState (parts : Parts) (p : Position) : Type 0 where
  pub settled : IsSettled parts p
  pub left : p ≡ [] → ⊥

abbrev pub AllSettled : Parts → List Position → Type 0
AllSettled parts [] = Unit {0}
AllSettled parts (p ∷ ps) = IsState parts p × AllSettled parts ps

settled_both : (parts : Parts) (ps qs : List Position) → AllSettled parts ps → AllSettled parts qs → AllSettled parts (ps ++ qs)
settled_both parts [] qs a b = b
settled_both parts (p ∷ ps) qs a b = (a.0, settled_both parts ps qs a.1 b)

does_settled : {parts : Parts} {m : Message} {rest : Protocol} {part : Part} {around : Position} →
    IsState parts (Left (Does m rest) part ∷ around)
does_settled = record { settled = λ q s. elim s [ ]; left = λ e. cc e }

here_settled : {parts : Parts} {bs : Branches} {rest : Protocol} {part : Part} {around : Position} →
    IsState parts (Left (ChoiceHere bs rest) part ∷ around)
here_settled = record { settled = λ q s. elim s [ ]; left = λ e. cc e }

there_settled : {parts : Parts} {n : ℕ} {bs : Branches} {rest : Protocol} {part : Part} {around : Position} →
    IsState parts (Left (ChoiceThere n bs rest) part ∷ around)
there_settled = record { settled = λ q s. elim s [ ]; left = λ e. cc e }

mutual
  pub states_settled : (parts : Parts) (t : Protocol) (part : Part) (around : Position) → AllSettled parts (states_in part around t)
  states_settled parts Done part around = tt
  states_settled parts (Does m rest) part around = (does_settled, states_settled parts rest part around)
  states_settled parts (ChoiceHere bs rest) part around =
      (here_settled, settled_both parts (states_here _ bs) _ (here_all_settled parts bs _) (states_settled parts rest part around))
  states_settled parts (ChoiceThere n bs rest) part around =
      (there_settled, settled_both parts (states_there _ bs) _ (there_all_settled parts bs _) (states_settled parts rest part around))
  states_settled parts (Rec name body rest) part around = settled_both parts (states_in _ _ body) _ (states_settled parts body _ _)
      (states_settled parts rest part around)
  states_settled parts (Continue name rest) part around = states_settled parts rest part around
  states_settled parts (Do name rest) part around = states_settled parts rest part around

  here_all_settled : (parts : Parts) (bs : Branches) (around : Position) → AllSettled parts (states_here around bs)
  here_all_settled parts NoMore around = tt
  here_all_settled parts (Branch b more) around = settled_both parts (states_behind around b) _ (behind_settled parts b around)
      (here_all_settled parts more around)

  behind_settled : (parts : Parts) (b : Protocol) (around : Position) → AllSettled parts (states_behind around b)
  behind_settled parts (Does m rest) around = states_settled parts rest Plain around
  behind_settled parts Done around = tt
  behind_settled parts (ChoiceHere bs rest) around = tt
  behind_settled parts (ChoiceThere n bs rest) around = tt
  behind_settled parts (Rec name body rest) around = tt
  behind_settled parts (Continue name rest) around = tt
  behind_settled parts (Do name rest) around = tt

  there_all_settled : (parts : Parts) (bs : Branches) (around : Position) → AllSettled parts (states_there around bs)
  there_all_settled parts NoMore around = tt
  there_all_settled parts (Branch b more) around = settled_both parts (states_from around b) _ (from_settled parts b around)
      (there_all_settled parts more around)

  from_settled : (parts : Parts) (b : Protocol) (around : Position) → AllSettled parts (states_from around b)
  from_settled parts (Does m rest) around = (does_settled, states_settled parts rest Plain around)
  from_settled parts Done around = tt
  from_settled parts (ChoiceHere bs rest) around = tt
  from_settled parts (ChoiceThere n bs rest) around = tt
  from_settled parts (Rec name body rest) around = tt
  from_settled parts (Continue name rest) around = tt
  from_settled parts (Do name rest) around = tt

-- no state of a whole protocol has a silent move
pub all_settled : (parts ps : Parts) → AllSettled parts (state_positions ps)
all_settled parts [] = tt
all_settled parts (part ∷ ps) = settled_both parts (states_in Plain [] part.body) (state_positions ps)
    (states_settled parts part.body Plain []) (all_settled parts ps)

pub settled_at : {parts : Parts} (ps : List Position) → AllSettled parts ps → (k : ℕ) (p : Position) → slice_get ps k ≡ Some p →
    IsState parts p
settled_at [] a k p e = cc
settled_at {parts} (x ∷ ps) a zero p e = let f : x ≡ p = cc e in subst (λ y. IsState parts y) f a.0
settled_at (x ∷ ps) a (suc k) p e = settled_at ps a.1 k p e

-- ---- the steps in front

sent_listed : {bs : Branches} {m : Message} {b : Protocol} → HasBranch bs m b → (around : Position) →
    Among (sends around bs) (record { act = Moves m; to = Left b Plain ∷ around })
sent_listed this around = inl refl
sent_listed (later {other = Done} h) around = sent_listed h around
sent_listed (later {other = Does m rest} h) around = inr (sent_listed h around)
sent_listed (later {other = ChoiceHere bs rest} h) around = sent_listed h around
sent_listed (later {other = ChoiceThere n bs rest} h) around = sent_listed h around
sent_listed (later {other = Rec name body rest} h) around = sent_listed h around
sent_listed (later {other = Continue name rest} h) around = sent_listed h around
sent_listed (later {other = Do name rest} h) around = sent_listed h around

looked_listed : {bs : Branches} {m : Message} {b : Protocol} → HasBranch bs m b → (n : ℕ) (around : Position) →
    Among (looks n around bs) (record { act = Looks n (peer_of m) (label_of m); to = Left (Does m b) Plain ∷ around })
looked_listed this n around = inl refl
looked_listed (later {other = Done} h) n around = looked_listed h n around
looked_listed (later {other = Does m rest} h) n around = inr (looked_listed h n around)
looked_listed (later {other = ChoiceHere bs rest} h) n around = looked_listed h n around
looked_listed (later {other = ChoiceThere k bs rest} h) n around = looked_listed h n around
looked_listed (later {other = Rec name body rest} h) n around = looked_listed h n around
looked_listed (later {other = Continue name rest} h) n around = looked_listed h n around
looked_listed (later {other = Do name rest} h) n around = looked_listed h n around

-- where no silent move is possible, each step is one of those in front
pub step_listed : {parts : Parts} {p q : Position} {act : Act} → Step parts p act q → IsSettled parts p →
    Among (steps_at p) (record { act = act; to = q })
step_listed (stepping s st) settled = absurd (settled _ s)
step_listed moves settled = inl refl
step_listed (chooses h) settled = sent_listed h _
step_listed (looking h) settled = looked_listed h _ _

-- a step of a branch of a choice
record OfBranch (bs : Branches) (make : Message → Protocol → Onward) (s : Onward) : Type 0 where
  message : Message
  rest : Protocol
  has : HasBranch bs message rest
  is : make message rest ≡ s

one_later : {b : Protocol} {bs : Branches} {make : Message → Protocol → Onward} {s : Onward} → OfBranch bs make s →
    OfBranch (Branch b bs) make s
one_later r = record { message = r.message; rest = r.rest; has = later r.has; is = r.is }

sent_of : (bs : Branches) (around : Position) (s : Onward) → Among (sends around bs) s →
    OfBranch bs (λ m rest. record { act = Moves m; to = Left rest Plain ∷ around }) s
sent_of NoMore around s a = absurd a
sent_of (Branch (Does m rest) more) around s a = ⊎_elim (λ e. record { message = m; rest = rest; has = this; is = e })
    (λ a. one_later (sent_of more around s a)) a
sent_of (Branch Done more) around s a = one_later (sent_of more around s a)
sent_of (Branch (ChoiceHere bs rest) more) around s a = one_later (sent_of more around s a)
sent_of (Branch (ChoiceThere n bs rest) more) around s a = one_later (sent_of more around s a)
sent_of (Branch (Rec name body rest) more) around s a = one_later (sent_of more around s a)
sent_of (Branch (Continue name rest) more) around s a = one_later (sent_of more around s a)
sent_of (Branch (Do name rest) more) around s a = one_later (sent_of more around s a)

looked_of : (bs : Branches) (n : ℕ) (around : Position) (s : Onward) → Among (looks n around bs) s →
    OfBranch bs (λ m rest. record { act = Looks n (peer_of m) (label_of m); to = Left (Does m rest) Plain ∷ around }) s
looked_of NoMore n around s a = absurd a
looked_of (Branch (Does m rest) more) n around s a = ⊎_elim (λ e. record { message = m; rest = rest; has = this; is = e })
    (λ a. one_later (looked_of more n around s a)) a
looked_of (Branch Done more) n around s a = one_later (looked_of more n around s a)
looked_of (Branch (ChoiceHere bs rest) more) n around s a = one_later (looked_of more n around s a)
looked_of (Branch (ChoiceThere k bs rest) more) n around s a = one_later (looked_of more n around s a)
looked_of (Branch (Rec name body rest) more) n around s a = one_later (looked_of more n around s a)
looked_of (Branch (Continue name rest) more) n around s a = one_later (looked_of more n around s a)
looked_of (Branch (Do name rest) more) n around s a = one_later (looked_of more n around s a)

-- each of those in front is a step
pub listed_step : {parts : Parts} (p : Position) (s : Onward) → Among (steps_at p) s → Step parts p s.act s.to
listed_step [] s a = absurd a
listed_step (Left Done part ∷ around) s a = absurd a
listed_step {parts} (Left (Does m rest) part ∷ around) s a =
    ⊎_elim (λ e. subst (λ (x : Onward). Step parts (Left (Does m rest) part ∷ around) x.act x.to) e moves) (λ z. absurd z) a
listed_step {parts} (Left (ChoiceHere bs rest) part ∷ around) s a =
    let r = sent_of bs (Left rest part ∷ around) s a in
    subst (λ (x : Onward). Step parts (Left (ChoiceHere bs rest) part ∷ around) x.act x.to) r.is (chooses r.has)
listed_step {parts} (Left (ChoiceThere n bs rest) part ∷ around) s a =
    let r = looked_of bs n (Left rest part ∷ around) s a in
    subst (λ (x : Onward). Step parts (Left (ChoiceThere n bs rest) part ∷ around) x.act x.to) r.is (looking r.has)
listed_step (Left (Rec name body rest) part ∷ around) s a = absurd a
listed_step (Left (Continue name rest) part ∷ around) s a = absurd a
listed_step (Left (Do name rest) part ∷ around) s a = absurd a

-- ---- the steps of each position

no_step : {parts : Parts} {act : Act} {to : Position} → Step parts [] act to → ⊥
no_step (stepping s t) = elim s [ ]

module _ (parts : Parts) (all : List Position) where
  pub edge_of_step : (steps : List Onward) (edges : List Edge) → AreSteps parts all steps edges → (s : Onward) → Among steps s →
      (e : Edge) × Among edges e × IsStep parts all s e
  edge_of_step [] [] h s a = absurd a
  edge_of_step [] (e ∷ edges) h s a = absurd h
  edge_of_step (x ∷ steps) [] h s a = absurd h
  edge_of_step (x ∷ steps) (e ∷ edges) h s a =
      ⊎_elim (λ same. (e, inl refl, subst (λ y. IsStep parts all y e) same h.0)) (λ a. let r = edge_of_step steps edges h.1 s a in
      (r.0, inr r.1, r.2)) a

  pub step_of_edge : (steps : List Onward) (edges : List Edge) → AreSteps parts all steps edges → (e : Edge) → Among edges e →
      (s : Onward) × Among steps s × IsStep parts all s e
  step_of_edge [] [] h e a = absurd a
  step_of_edge [] (e' ∷ edges) h e a = absurd h
  step_of_edge (x ∷ steps) [] h e a = absurd h
  step_of_edge (x ∷ steps) (e' ∷ edges) h e a =
      ⊎_elim (λ same. (x, inl refl, subst (λ y. IsStep parts all x y) same h.0)) (λ a. let r = step_of_edge steps edges h.1 e a in
      (r.0, inr r.1, r.2)) a

  -- the edges at a position's number
  pub edges_there : (ps : List Position) (states : List (List Edge)) → AreStates parts all ps states → (k : ℕ) (p : Position) →
      slice_get ps k ≡ Some p → (edges : List Edge) × (slice_get states k ≡ Some edges) × AreSteps parts all (steps_at p) edges
  edges_there [] states h k p e = cc
  edges_there (x ∷ ps) [] h k p e = absurd h
  edges_there (x ∷ ps) (edges ∷ states) h zero p e =
      let f : x ≡ p = cc e in (edges, refl, subst (λ y. AreSteps parts all (steps_at y) edges) f h.0)
  edges_there (x ∷ ps) (edges ∷ states) h (suc k) p e = edges_there ps states h.1 k p e

  -- a number of a state is that of a position
  pub position_there : (ps : List Position) (states : List (List Edge)) → AreStates parts all ps states → (k : ℕ) (edges : List Edge) →
      slice_get states k ≡ Some edges → (p : Position) × (slice_get ps k ≡ Some p) × AreSteps parts all (steps_at p) edges
  position_there [] [] h k edges e = cc
  position_there [] (x ∷ states) h k edges e = absurd h
  position_there (p ∷ ps) [] h k edges e = absurd h
  position_there (p ∷ ps) (x ∷ states) h zero edges e =
      let f : x ≡ edges = cc e in (p, refl, subst (λ y. AreSteps parts all (steps_at p) y) f h.0)
  position_there (p ∷ ps) (x ∷ states) h (suc k) edges e = position_there ps states h.1 k edges e

  module _ (settled : AllSettled parts all) where
    -- silent moves keep where a position comes to
    pub comes_keeps : {p q : Position} {s : Standing} → ComesTo parts all p s → Silent parts p q → ComesTo parts all q s
    comes_keeps (at_state {number = k} {position = p} e) m = absurd ((settled_at all settled k p e).settled _ m)
    comes_keeps at_end m = elim m [ ]
    comes_keeps {s = s} (silently m c) m' = subst (λ q. ComesTo parts all q s) (silent_one m m') c

    -- a step is one of the state that its position comes to
    pub record StepsFrom (s : Standing) (act : Act) (q : Position) : Type 0 where
      pub number : ℕ
      pub place : Position
      pub is_state : s ≡ standings.State number
      pub there : slice_get all number ≡ Some place
      pub step : Step parts place act q

    behind_silent : {p to q : Position} {act : Act} → Silent parts p to → Step parts p act q → Step parts to act q
    behind_silent {q = q} {act = act} m (stepping m' st) = subst (λ x. Step parts x act q) (silent_one m' m) st
    behind_silent m moves = elim m [ ]
    behind_silent m (chooses h) = elim m [ ]
    behind_silent m (looking h) = elim m [ ]

    pub steps_from : {p q : Position} {s : Standing} {act : Act} → ComesTo parts all p s → Step parts p act q → StepsFrom s act q
    steps_from (at_state {number = k} {position = p} e) st = record { number = k; place = p; is_state = refl; there = e; step = st }
    steps_from at_end st = absurd (no_step st)
    steps_from (silently m c) st = steps_from c (behind_silent m st)

    -- a step that the state has is one of each position that comes to it
    pub steps_to : {p : Position} {s : Standing} → ComesTo parts all p s → (k : ℕ) (place : Position) → s ≡ standings.State k →
        slice_get all k ≡ Some place → {act : Act} {q : Position} → Step parts place act q → Step parts p act q
    steps_to (at_state {number = n} {position = p} e) k place is there {act} {q} st =
        let same : n ≡ k = cc is in
        let f : place ≡ p = some_same there (subst (λ j. slice_get all j ≡ Some p) same e) in
        subst (λ x. Step parts x act q) f st
    steps_to at_end k place is there st = cc is
    steps_to (silently m c) k place is there st = stepping m (steps_to c k place is there st)

    not_finished : {p : Position} → IsState parts p → Finished parts p → ⊥
    not_finished h nothing_left = h.left refl
    not_finished h (after_silent m f) = h.settled _ m

    still_finished : {p q : Position} → Silent parts p q → Finished parts p → Finished parts q
    still_finished m nothing_left = elim m [ ]
    still_finished m (after_silent m' f) = subst (Finished parts) (silent_one m' m) f

    -- a position is finished exactly at the end
    pub finished_end : {p : Position} {s : Standing} → ComesTo parts all p s → Finished parts p → s ≡ standings.End
    finished_end (at_state {number = k} {position = p} e) f = absurd (not_finished (settled_at all settled k p e) f)
    finished_end at_end f = refl
    finished_end (silently m c) f = finished_end c (still_finished m f)

    pub end_finished : {p : Position} {s : Standing} → ComesTo parts all p s → s ≡ standings.End → Finished parts p
    end_finished (at_state e) is = cc is
    end_finished at_end is = nothing_left
    end_finished (silently m c) is = after_silent m (end_finished c is)
