-- What follows from a position tells what may come next.
use Rattle.std.proofs.Common.{◌≡◌, ℕ, suc, List, ◌∷◌, refl, sym, ap, subst, ◌∙◌, ◌+◌}
use Rattle.mg_text.specs.Call.{Name}
use Rattle.scr_tree.specs.declared.syntax.Payload.{Payload}
use Rattle.scr_tree.specs.Protocol.{Message, Send, Take, Protocol, Does, ChoiceHere, ChoiceThere, peer_of, label_of}
use Rattle.scr_tree.specs.Protocol as local
use Rattle.scr_tree.specs.Steps.{Act, Moves, Looks, Part, Frame, Left, Position, HasBranch, this, after_silent, nothing_left}
use Rattle.scr_tree.specs.Steps as steps
use Rattle.scr_global.specs.Alone.{Silent, Step, Finished}
use Rattle.scr_global.specs.Projection.{AllTake}
use Rattle.scr_global.proofs.Premises.{protocols_of, premises}
use Rattle.scr_global.proofs.Plans.{Picks, AllSend, Follows, over, silently, moves, chooses, looks}
use Rattle.scr_global.proofs.Following.{one_silent}
use Rattle.scr_global.proofs.Stepping.{has_take, picks_of, extends_itself}
use Rattle.scr_global.proofs.Stuck.{reached}
use Rattle.fit_law.specs.Next.{Alike, same, both_send, both_look, NextIsAlike}

-- a step behind a silent move
pub step_after : {at to end : Position} {act : Act} → Silent at to → Step at act end → Step to act end
step_after {end = end} {act = act} s (steps.silently t step) = subst (λ p. Step p act end) (one_silent t s) step
step_after s steps.moves = elim s [ ]
step_after s (steps.chooses h) = elim s [ ]
step_after s (steps.looks h) = elim s [ ]

-- a role that is complete has no step
pub finished_stops : {at end : Position} {act : Act} → Finished at → Step at act end → ⊥
finished_stops nothing_left (steps.silently s step) = elim s [ ]
finished_stops (after_silent s f) step = finished_stops f (step_after s step)

-- a branch that is sent
record Sent (m : Message) : Type 0 where
  peer : Name
  label : Name
  kind : Payload
  is : m ≡ Send peer label kind

sent_branch : {bs : local.Branches} {m : Message} {b : Protocol} → HasBranch bs m b → AllSend bs → Sent m
sent_branch {m = Send peer label kind} this t = record { peer = peer; label = label; kind = kind; is = refl }
sent_branch {m = Take peer label kind} this t = absurd t
sent_branch (steps.later {other = other} {more = more} h) t = sent_branch h (tail other more t)
  where
    tail : (first : Protocol) (more : local.Branches) → AllSend (local.Branch first more) → AllSend more
    tail (Does (Send other label kind) rest) more t = t
    tail (Does (Take other label kind) rest) more t = absurd t
    tail local.Done more t = absurd t
    tail (ChoiceHere bs rest) more t = absurd t
    tail (ChoiceThere n bs rest) more t = absurd t
    tail (local.Rec name body rest) more t = absurd t
    tail (local.Continue name rest) more t = absurd t
    tail (local.Do name rest) more t = absurd t

-- the act of a step behind a message, or a choice
at_does : {m : Message} {rest : Protocol} {part : Part} {around : List Frame} {act : Act} {end : Position} →
    Step (Left (Does m rest) part ∷ around) act end → act ≡ Moves m
at_does (steps.silently s step) = elim s [ ]
at_does steps.moves = refl

sends_at : {bs : local.Branches} {rest : Protocol} {part : Part} {around : List Frame} {act : Act} {end : Position} → AllSend bs →
    Step (Left (ChoiceHere bs rest) part ∷ around) act end → (m : Message) × Sent m × (act ≡ Moves m)
sends_at all (steps.silently s step) = elim s [ ]
sends_at all (steps.chooses {message = m} h) = (m, sent_branch h all, refl)

record Looked (n : ℕ) (peer : Name) (act : Act) : Type 0 where
  label : Name
  is : act ≡ Looks n peer label

looks_at : {n : ℕ} {bs : local.Branches} {rest : Protocol} {part : Part} {around : List Frame} {act : Act} {end : Position} {peer : Name} →
    AllTake peer bs → Step (Left (ChoiceThere n bs rest) part ∷ around) act end → Looked n peer act
looks_at all (steps.silently s step) = elim s [ ]
looks_at {n} all (steps.looks {message = m} h) = record { label = label_of m; is = ap (λ q. Looks n q (label_of m)) (has_take h all) }

alike_by : {a b x y : Act} → a ≡ x → b ≡ y → Alike x y → Alike a b
alike_by {b = b} {x = x} e f k = subst (λ z. Alike z b) (sym e) (subst (Alike x) (sym f) k)

pub alike : {n : ℕ} {picks : Picks} {at p q : Position} {ms : List Message} {a b : Act} → Follows (suc n) picks at ms →
    Step at a p → Step at b q → Alike a b
alike (over f) s t = absurd (finished_stops f s)
alike (silently k f) s t = alike f (step_after k s) (step_after k t)
alike (moves f) s t = alike_by (at_does s) (at_does t) same
alike (chooses some all f) s t =
    let x = sends_at all s in
    let y = sends_at all t in
    alike_by (x.2 ∙ ap Moves x.1.is) (y.2 ∙ ap Moves y.1.is) both_send
alike (looks j peer some all apart f) s t = alike_by (looks_at all s).is (looks_at all t).is both_look

pub next_is_alike : NextIsAlike
next_is_alike roles g locals are c r me l a b p q s t =
    let h = reached roles g (protocols_of locals) (premises are) c r in
    let holds = h.1 (h.0 + 1) 1 refl in
    let ahead = holds.agree (λ n. picks_of (holds.made n)) (λ n k. extends_itself (holds.made n)) me l in
    alike ahead.follows s t
