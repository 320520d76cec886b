-- What acts of a doing want, which of those that are alike finds what it wants, and how ends sort.
use Rattle.std.proofs.Common.{◌≡◌, ◌⊎◌, inl, inr, ℕ, Bool, true, false, List, [], ◌∷◌, ◌++◌, Some, refl, sym, ap, ap₂, ◌∙◌, subst}
use Rattle.std.proofs.Common.{append-nil}
use Rattle.std.specs.Prelude.{if◌then◌else◌}
use Rattle.std.proofs.lemmas.List.Elements.{Contains-append_left}
use Rattle.mg_text.specs.Call.{Name}
use Rattle.scr_tree.specs.declared.syntax.Payload.{Payload}
use Rattle.scr_tree.specs.Protocol.{Parts, Send, Take}
use Rattle.scr_tree.specs.Steps.{Act, Moves, Looks}
use Rattle.scr_global.specs.Systems.{waits_for}
use Rattle.fit_law.proofs.Inside.{peer_at}
use Rattle.stm_api.specs.Doings.{Doing, Passes, Asks}
use Rattle.mg_text.specs.declared.event.Event.{Event}
use Rattle.stm_acts.specs.Acts.{Deed, deed_of, runs_behind, acts_while}
use Rattle.stm_acts.specs.Ends.{peer_in, Wants, IsOther, IsCut, IsBusy, IsDoneByOne, not_yet, by_one, deeds}
use Rattle.stm_acts.proofs.Standing.{Of}
use Rattle.jv_meaning.specs.Program.{Sources}
use Rattle.fit_law.specs.Fit.{IsOfOne}
use Rattle.jv_values.specs.Values.{Inputs, Ended, Finish, Done, Zero, Null, Mismatch, NoPeer, Wait, More, Wrong}

-- the front of nothing is nothing
pub nothing_first : {A : Type 0} (xs ys : List A) → xs ++ ys ≡ [] → xs ≡ []
nothing_first [] ys e = refl
nothing_first (x ∷ xs) ys e = absurd (cc e)

-- ---- acts of a doing

pub take_act : {peer label : Name} {kind : Payload} (act : Act) → Of (Passes (Take peer label kind)) act → act ≡ Moves (Take peer label kind)
take_act (Moves m) h = ap Moves (sym h)
take_act (Looks n q k) h = absurd h

pub look_act : {number : ℕ} {peer : Name} (labels : List Name) (act : Act) → Of (Asks number peer labels) act →
    (k : Name) × (act ≡ Looks number peer k)
look_act labels (Moves m) h = absurd h
look_act {number} labels (Looks n q k) h = (k, ap (λ x. Looks x q k) (sym h.0) ∙ ap (λ x. Looks number x k) (sym h.1))

-- it wants what the doing wants, of the doing's peer
pub act_wants : (d : Doing) (act : Act) → Of d act → Wants d → waits_for act ≡ Some (peer_in d)
act_wants (Passes (Send p l c)) (Moves m) h u = absurd u
act_wants (Passes (Take p l c)) (Moves m) h u = ap waits_for (ap Moves (sym h))
act_wants (Passes m) (Looks n q x) h u = absurd h
act_wants (Asks n q ls) (Moves m) h u = absurd h
act_wants (Asks n q ls) (Looks x p y) h u = ap Some (sym h.1)

pub peer_same : (P : Name → Type 0) (d : Doing) (act : Act) → Of d act → peer_at P act ≡ peer_in d
peer_same P (Passes m) (Moves x) h = ap (peer_at P) (ap Moves (sym h))
peer_same P (Passes m) (Looks n q k) h = absurd h
peer_same P (Asks n q ls) (Moves x) h = absurd h
peer_same P (Asks n q ls) (Looks m p k) h = sym h.1

-- ---- what is found is what is taken or looked at

pub found_taken : {peer label found_label sent_label : Name} {kind found_kind sent_kind : Payload} {act : Act} → sent_label ≡ found_label →
    sent_kind ≡ found_kind → act ≡ Moves (Take peer label kind) →
    (act ≡ Moves (Take peer found_label found_kind)) ⊎ ((n : ℕ) × (act ≡ Looks n peer found_label)) →
    (sent_label ≡ label) × (sent_kind ≡ kind)
found_taken e f is (inl h) = (e ∙ labels (sym h ∙ is), f ∙ kinds (sym h ∙ is))
  where
    labels : {p q l k : Name} {a b : Payload} → Moves (Take p l a) ≡ Moves (Take q k b) → l ≡ k
    labels e = cc

    kinds : {p q l k : Name} {a b : Payload} → Moves (Take p l a) ≡ Moves (Take q k b) → a ≡ b
    kinds e = cc
found_taken e f is (inr h) = absurd (let x = sym h.1 ∙ is in cc)

pub found_looked : {number : ℕ} {peer label found_label : Name} {found_kind : Payload} {act : Act} → act ≡ Looks number peer label →
    (act ≡ Moves (Take peer found_label found_kind)) ⊎ ((n : ℕ) × (act ≡ Looks n peer found_label)) → label ≡ found_label
found_looked is (inl h) = absurd (let x = sym h ∙ is in cc)
found_looked is (inr h) = labels (sym is ∙ h.1)
  where
    labels : {m n : ℕ} {p q l k : Name} → Looks m p l ≡ Looks n q k → l ≡ k
    labels e = cc

-- ---- ends

pub wait_is : {q s : Name} → Wait q ≡ Wait s → q ≡ s
wait_is e = cc

pub cut_other : (f : Finish) → IsCut f → IsOther f
cut_other More h = tt
cut_other Wrong h = tt
cut_other Done h = tt
cut_other Zero h = tt
cut_other Null h = tt
cut_other (Mismatch p f) h = h
cut_other (NoPeer p) h = h
cut_other (Wait p) h = h

pub not_busy : (f : Finish) → IsBusy f → IsOther f
not_busy Done h = absurd h
not_busy Zero h = tt
not_busy Null h = tt
not_busy (Mismatch p f) h = absurd h
not_busy (NoPeer p) h = absurd h
not_busy (Wait p) h = absurd h
not_busy More h = tt
not_busy Wrong h = tt

-- where a run has returned, one object has done all
pub of_one : {j : Sources} (roles idle : List Name) {me : Name} {protocol : Parts} {inputs : Inputs} {run : Ended} →
    IsDoneByOne j (roles ++ idle) me protocol inputs run → run.finish ≡ Done → IsOfOne roles me run.events
of_one roles idle (not_yet nobody none busy) e = absurd (subst IsBusy e busy)
of_one roles idle {run = run} (by_one o made alone acting ends) e = record {
  object = o;
  made = made;
  only = λ you other has made_so. alone you other (Contains-append_left roles idle you has) made_so;
  acting = acting run.events [] (sym (append-nil run.events));
}

unless_running : (b : Bool) (ds : List Deed) → ds ≡ [] → (if b then ds else []) ≡ []
unless_running true ds h = h
unless_running false ds h = refl

-- where nothing was sent, looked at or taken no object has done anything
pub no_acts : (o : ℕ) (running : Bool) (events : List Event) → deeds events ≡ [] → acts_while o running events ≡ []
no_acts o running [] h = refl
no_acts o running (event ∷ events) h =
    let first : deed_of event ≡ [] = nothing_first (deed_of event) (deeds events) h in
    let later : deeds events ≡ [] = subst (λ (ds : List Deed). ds ++ deeds events ≡ []) first h in
    ap₂ (λ (a b : List Deed). a ++ b) (unless_running running (deed_of event) first)
    (no_acts o (runs_behind o running event) events later)
