-- How the events of a run stand to all objects of role classes: outside of their methods, inside of one, or behind its act.
use Rattle.std.proofs.Common.{◌≡◌, ℕ, List, [], ◌∷◌, ◌++◌, Option, Some, None, sym, subst, append-nil, append_assoc}
use Rattle.std.specs.Prelude.{Contains, ℤ}
use Rattle.mg_text.specs.Call.{Name}
use Rattle.mg_text.specs.declared.event.Event.{Event}
use Rattle.mg_text.specs.declared.event.Event.TheVariants as seen
use Rattle.scr_tree.specs.Steps.{Act, Looks}
use Rattle.scr_tree.specs.CallNames as names
use Rattle.stm_api.specs.Doings.{Doing, Asks, call_of}
use Rattle.jv_values.specs.Values.{Finish, Mismatch}
use Rattle.jv_values.specs.Seen.{IsMade, told_by, label_in}
use Rattle.jv_meaning.specs.Calls.{results_of}
use Rattle.stm_acts.specs.Acts.{unnumbered, deed_of}
use Rattle.stm_acts.specs.Played.{role_class}
use Rattle.stm_acts.proofs.Standing.{Own}
use Rattle.stm_acts.specs.Ends.{IsOther, IsCut, Halts}
use Rattle.stm_acts.proofs.Stage.{Part, Stage}

module _ (st : Stage) where
  pub data At : Type 0 where
    Out : At
    In : (p : ℕ) (k : Part st.j) (m : Name) → At
    Did : (p : ℕ) (k : Part st.j) (act : Act) → At

  -- the object is one of the role's class
  pub record IsOf (events : List Event) (p : ℕ) (k : Part st.j) : Type 0 where
    pub made : IsMade events p (role_class k.me)
    pub is_role : st.role_of (role_class k.me) ≡ Some k

  -- nothing is told of an object, or only of one of another class
  pub data Foreign (before : List Event) (e : Event) : Type 0 where
    silent : ((o : ℕ) → told_by o e ≡ []) → Foreign before e
    of_other : {p : ℕ} {c : Name} → IsMade before p c → st.role_of c ≡ None → ((o : ℕ) → (p ≡ o → ⊥) → told_by o e ≡ []) →
        Foreign before e

  pub data Goes (before : List Event) : At → Event → At → Type 0 where
    elsewhere : {e : Event} → (st.Calm → deed_of e ≡ []) → Foreign before e → Goes before Out e Out
    enters : {p : ℕ} {k : Part st.j} {m : Name} → IsOf before p k → Goes before Out (seen.Enter p m) (In p k m)
    does : {p : ℕ} {k : Part st.j} {m : Name} {e : Event} {act : Act} → IsOf before p k → Own k.firsts act →
        (names.call_of k.me act).method ≡ m →
        deed_of e ≡ unnumbered act ∷ [] → ((o : ℕ) → told_by o e ≡ []) →
        Goes before (In p k m) e (Did p k act)
    leaves : {p : ℕ} {k : Part st.j} {act : Act} {answer : Option ℤ} → IsOf before p k →
        label_in (results_of st.j (role_class k.me) (names.call_of k.me act).method) answer ≡ (names.call_of k.me act).answer →
        Goes before (Did p k act) (seen.Leave p answer) Out

  -- events behind those before
  pub data Ran : List Event → At → List Event → At → Type 0 where
    rests : {b : List Event} {s : At} → Ran b s [] s
    goes : {b : List Event} {s t u : At} {e : Event} {es : List Event} → Goes b s e t → Ran (b ++ e ∷ []) t es u → Ran b s (e ∷ es) u

  pub ran_on : (es b : List Event) {s t u : At} {e : Event} → Ran b s es t → Goes (b ++ es) t e u → Ran b s (es ++ e ∷ []) u
  ran_on [] b {s} {t} {u} {e} rests g = goes (subst (λ x. Goes x t e u) (append-nil b) g) rests
  ran_on (x ∷ es) b {s} {t} {u} {e} (goes h r) g =
      goes h (ran_on es (b ++ x ∷ []) r (subst (λ y. Goes y t e u) (sym (append_assoc b (x ∷ []) es)) g))

  pub record Parted (b : List Event) (s : At) (es fs : List Event) (u : At) : Type 0 where
    pub at : At
    pub before : Ran b s es at
    pub behind : Ran (b ++ es) at fs u

  pub part : (es b : List Event) {s u : At} {fs : List Event} → Ran b s (es ++ fs) u → Parted b s es fs u
  part [] b {s} {u} {fs} r = record { at = s; before = rests; behind = subst (λ x. Ran x s fs u) (sym (append-nil b)) r }
  part (e ∷ es) b {s} {u} {fs} (goes g r) =
      let p = part es (b ++ e ∷ []) r in
      record {
        at = p.at;
        before = goes g p.before;
        behind = subst (λ x. Ran x p.at fs u) (append_assoc b (e ∷ []) es) p.behind;
      }

  -- How a run with these events may end.
  pub data EndsAt (events : List Event) : At → Finish → Type 0 where
    out : {f : Finish} → (st.Calm → IsOther f) → EndsAt events Out f
    inside : {p : ℕ} {k : Part st.j} {m : Name} {f : Finish} → IsOf events p k → IsCut f → EndsAt events (In p k m) f
    halted : {p : ℕ} {k : Part st.j} {m : Name} {d : Doing} {f : Finish} → IsOf events p k → Contains k.firsts d → call_of k.me d ≡ m →
        Halts st.inputs events d f → EndsAt events (In p k m) f
    refused : {p : ℕ} {k : Part st.j} {n : ℕ} {q l : Name} {labels : List Name} (before : List Event) → IsOf events p k →
        events ≡ before ++ seen.Look q l ∷ [] → Contains k.firsts (Asks n q labels) → (Contains labels l → ⊥) →
        EndsAt events (Did p k (Looks n q l)) (Mismatch q l)
