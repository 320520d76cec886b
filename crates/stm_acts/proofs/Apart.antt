-- A refusal is none of the steps, so a run that goes as far is over.
use Rattle.std.proofs.Common.{◌≡◌, ℕ, List, [], ◌∷◌, ◌++◌, map, Option, Some, sym, ◌∙◌, subst}
use Rattle.std.specs.Prelude.{Contains}
use Rattle.std.specs.List.{AllByRecursion}
use Rattle.std.proofs.lemmas.List.{map-append}
use Rattle.mg_text.specs.Call.{Name, Call}
use Rattle.mg_text.specs.declared.event.Event.{Event}
use Rattle.scr_tree.specs.CallNames as names
use Rattle.scr_tree.specs.CallNames.{label_call}
use Rattle.scr_tree.specs.Meaning.{protocol_of}
use Rattle.scr_tree.specs.Protocol.{Parts}
use Rattle.scr_tree.specs.Steps.{Act, Moves, Looks}
use Rattle.scr_tree.specs.Tree.{LocalTree}
use Rattle.scr_tree.specs.Valid.{IsValid}
use Rattle.jv_values.specs.Values.{Ended, Mismatch}
use Rattle.stm_api.specs.Doings.{Asks, all_doings}
use Rattle.stm_acts.specs.Acts.{Deed, Moved, Looked, unnumbered}
use Rattle.stm_acts.specs.Played.{OpenActs, none_yet, its_own, Plays, Refuses, Played, plays, refuses}
use Rattle.stm_acts.proofs.Bodies.{Within}
use Rattle.stm_acts.proofs.Joined.{called_so}
use Rattle.stm_acts.proofs.Premises.{CallsTellApart, OnePeers}
use Rattle.stm_acts.proofs.Steps.{IsLabelled, OneOf, steps_are_doings}
use Rattle.stm_acts.proofs.Valid.{there, calls_tell_apart, has_one_peers}

-- what stands behind the deeds of the same calls
behind_calls : (me : Name) (xs ys : List Act) {us vs : List Deed} → map (names.call_of me) xs ≡ map (names.call_of me) ys →
    map unnumbered xs ++ us ≡ map unnumbered ys ++ vs → us ≡ vs
behind_calls me [] [] e k = k
behind_calls me [] (y ∷ ys) e k = absurd (cc e)
behind_calls me (x ∷ xs) [] e k = absurd (cc e)
behind_calls me (x ∷ xs) (y ∷ ys) e k = behind_calls me xs ys (calls_behind e) (deeds_behind k)
  where
    calls_behind : {a b : Call} {as' bs : List Call} → a ∷ as' ≡ b ∷ bs → as' ≡ bs
    calls_behind e = cc

    deeds_behind : {a b : Deed} {as' bs : List Deed} → a ∷ as' ≡ b ∷ bs → as' ≡ bs
    deeds_behind e = cc

last_of_all : (P : Act → Type 0) (xs : List Act) (a : Act) → AllByRecursion P (xs ++ a ∷ []) → P a
last_of_all P [] a h = h.0
last_of_all P (x ∷ xs) a h = last_of_all P xs a h.1

module _ (me : Name) (protocol : Parts) (apart : CallsTellApart me protocol) where
  -- a step of a label call looks at one of its labels
  not_refused : (act : Act) → OneOf (all_doings protocol) act → (number : ℕ) (peer label : Name) (labels : List Name) →
      Contains (all_doings protocol) (Asks number peer labels) → (Contains labels label → ⊥) →
      (names.call_of me act).method ≡ label_call me number peer → unnumbered act ≡ Looked peer label → ⊥
  not_refused (Moves m) one number peer label labels asked without called e = moved e
    where
      moved : Moved m ≡ Looked peer label → ⊥
      moved e = cc
  not_refused (Looks n q l) one number peer label labels asked without called e =
      let same : one.doing ≡ Asks number peer labels =
      apart one.doing (Asks number peer labels) (there (all_doings protocol) one.doing one.is_one) asked
      (called_so me one.doing (Looks n q l) one.of ∙ called) in
      without (there labels label (subst (Within labels) (label_is e) (subst (λ d. IsLabelled d (Looks n q l)) same one.labelled)))
    where
      label_is : Looked q l ≡ Looked peer label → l ≡ label
      label_is e = cc

  -- nor is the act of an open call
  not_open : {still_open : Option Name} {last : List Act} → OpenActs me still_open last → (closed : List Act) →
      AllByRecursion (OneOf (all_doings protocol)) (closed ++ last) → (number : ℕ) (peer label : Name) (labels : List Name) →
      Contains (all_doings protocol) (Asks number peer labels) → (Contains labels label → ⊥) → still_open ≡ Some (label_call me number peer)
      →
      map unnumbered last ≡ Looked peer label ∷ [] → ⊥
  not_open none_yet closed ones number peer label labels asked without called e = nothing e
    where
      nothing : ◌≡◌ {A = List Deed} [] (Looked peer label ∷ []) → ⊥
      nothing e = cc
  not_open (its_own {act = act}) closed ones number peer label labels asked without called e =
      not_refused act (last_of_all (OneOf (all_doings protocol)) closed act ones) number peer label labels asked without
      (called_is called) (deed_is e)
    where
      called_is : {m n : Name} → Some m ≡ Some n → m ≡ n
      called_is e = cc

      deed_is : {a b : Deed} → a ∷ [] ≡ b ∷ [] → a ≡ b
      deed_is e = cc

  pub exclude : OnePeers protocol → {made : List Call} {still_open : Option Name} {deeds : List Deed} {so_far : List Event} {run_of : Ended}
      →
      Plays me protocol made still_open deeds → Refuses me protocol made still_open deeds so_far run_of → ⊥
  exclude one p r =
      not_open p.of_open p.closed (steps_are_doings protocol one p.run) r.number r.peer r.label r.labels r.asked r.no_branch r.of_open
      (behind_calls me p.closed r.closed (p.of_calls ∙ sym r.of_calls) (sym (map-append unnumbered p.closed p.last) ∙ sym p.are ∙ r.are))

-- how a run that came as far as a refusal ended
pub record IsOver (so_far : List Event) (peer label : Name) (run_of : Ended) : Type 0 where
  pub is_all : run_of.events ≡ so_far
  pub ends : run_of.finish ≡ Mismatch peer label

-- what was refused in one run is refused in each that comes as far
pub refused_again : (local : LocalTree) → ∥ IsValid local ∥₁ →
    {made : List Call} {still_open : Option Name} {deeds : List Deed} {so_far : List Event} {run_of other : Ended} →
    (r : Refuses local.me (protocol_of local) made still_open deeds so_far run_of) →
    Played local.me (protocol_of local) made still_open deeds so_far other → IsOver so_far r.peer r.label other
refused_again local valid r (plays p) =
    absurd (exclude local.me (protocol_of local) (calls_tell_apart local valid) (has_one_peers local valid) p r)
refused_again local valid {other = other} r (refuses s) =
    let same : Looked s.peer s.label ∷ [] ≡ Looked r.peer r.label ∷ [] =
    behind_calls local.me s.closed r.closed (s.of_calls ∙ sym r.of_calls) (sym s.are ∙ r.are) in
    record { is_all = s.is_all; ends = s.ends ∙ ends_so same }
  where
    ends_so : {p q l k : Name} → Looked p l ∷ [] ≡ Looked q k ∷ [] → Mismatch p l ≡ Mismatch q k
    ends_so e = cc
