-- Deeds, and runs of acts that have them.
use Rattle.std.proofs.Common.{◌≡◌, ℕ, Bool, false, List, [], ◌∷◌, ◌++◌, map, refl, sym, ap, ap₂, ◌∙◌, subst}
use Rattle.std.proofs.Common.{append_assoc, append-nil}
use Rattle.mg_text.specs.Call.{Name}
use Rattle.mg_text.specs.declared.event.Event.{Event}
use Rattle.scr_tree.specs.Protocol.{Message, Protocol}
use Rattle.scr_tree.specs.Steps.{Act, Moves, Looks, Position, whole, stays, goes}
use Rattle.scr_global.specs.Alone.{Step, Run}
use Rattle.stm_acts.specs.Acts.{Deed, Moved, Looked, unnumbered, deed_of}
use Rattle.stm_acts.specs.Ends.{deeds}

pub deeds-append : (xs ys : List Event) → deeds (xs ++ ys) ≡ deeds xs ++ deeds ys
deeds-append [] ys = refl
deeds-append (x ∷ xs) ys = ap (λ l. deed_of x ++ l) (deeds-append xs ys) ∙ sym (append_assoc (deed_of x) (deeds xs) (deeds ys))

pub one_more : (es : List Event) (e : Event) (d : Deed) → deed_of e ≡ d ∷ [] → deeds (es ++ e ∷ []) ≡ deeds es ++ d ∷ []
one_more es e d h = deeds-append es (e ∷ []) ∙ ap (λ l. deeds es ++ l) (append-nil (deed_of e) ∙ h)

pub none_more : (es : List Event) (e : Event) → deed_of e ≡ [] → deeds (es ++ e ∷ []) ≡ deeds es
none_more es e h = deeds-append es (e ∷ []) ∙ ap (λ l. deeds es ++ l) (append-nil (deed_of e) ∙ h) ∙ append-nil (deeds es)

-- ---- lists that end alike

pub record SameEnd {A : Type 0} (xs ys : List A) (x y : A) : Type 0 where
  pub front : xs ≡ ys
  pub last : x ≡ y

head_is : {A : Type 0} {x y : A} {xs ys : List A} → x ∷ xs ≡ y ∷ ys → x ≡ y
head_is e = cc

tail_is : {A : Type 0} {x y : A} {xs ys : List A} → x ∷ xs ≡ y ∷ ys → xs ≡ ys
tail_is e = cc

not_nothing : {A : Type 0} (xs : List A) (x : A) → [] ≡ xs ++ x ∷ [] → ⊥
not_nothing [] x e = cc
not_nothing (y ∷ xs) x e = cc

pub nothing_ends : {A : Type 0} (xs : List A) (x : A) → xs ++ x ∷ [] ≡ [] → ⊥
nothing_ends xs x e = not_nothing xs x (sym e)

pub same_end : {A : Type 0} (xs ys : List A) (x y : A) → xs ++ x ∷ [] ≡ ys ++ y ∷ [] → SameEnd xs ys x y
same_end [] [] x y e = record { front = refl; last = head_is e }
same_end [] (z ∷ ys) x y e = absurd (not_nothing ys y (tail_is e))
same_end (z ∷ xs) [] x y e = absurd (nothing_ends xs x (tail_is e))
same_end (z ∷ xs) (u ∷ ys) x y e =
    let more = same_end xs ys x y (tail_is e) in
    record { front = ap₂ (λ (a : _) (l : _). a ∷ l) (head_is e) more.front; last = more.last }

-- acts whose deeds end so
pub record EndsBy (acts : List Act) (ds : List Deed) (d : Deed) : Type 0 where
  pub front : List Act
  pub last : Act
  pub is : acts ≡ front ++ last ∷ []
  pub before : ds ≡ map unnumbered front
  pub deed : unnumbered last ≡ d

pub ends_by : (acts : List Act) (ds : List Deed) (d : Deed) → map unnumbered acts ≡ ds ++ d ∷ [] → EndsBy acts ds d
ends_by [] ds d e = absurd (not_nothing ds d e)
ends_by (a ∷ []) [] d e = record { front = []; last = a; is = refl; before = refl; deed = head_is e }
ends_by (a ∷ (b ∷ acts)) [] d e = absurd (let f = tail_is e in cc)
ends_by (a ∷ acts) (x ∷ ds) d e =
    let more = ends_by acts ds d (tail_is e) in
    record {
      front = a ∷ more.front;
      last = more.last;
      is = ap (λ l. a ∷ l) more.is;
      before = ap₂ (λ (y : _) (l : _). y ∷ l) (sym (head_is e)) more.before;
      deed = more.deed;
    }

-- ---- runs

pub record LastStep (p : Position) (front : List Act) (last : Act) (q : Position) : Type 0 where
  pub at : Position
  pub run : Run p front at
  pub step : Step at last q

pub last_step : {p q : Position} (front : List Act) {last : Act} → Run p (front ++ last ∷ []) q → LastStep p front last q
last_step {p = p} [] (goes step stays) = record { at = p; run = stays; step = step }
last_step {p = p} (a ∷ front) (goes step run) =
    let more = last_step front run in
    record { at = more.at; run = goes step more.run; step = more.step }

-- Deeds of a run from the start of a protocol; where it isn't exact, one more may be seen, a look.
pub data Walked (exact : Bool) (protocol : Protocol) (ds : List Deed) (end : Position) : Type 0 where
  walked : (acts : List Act) → Run (whole protocol) acts end → ds ≡ map unnumbered acts → Walked exact protocol ds end
  but_look : exact ≡ false → (peer label : Name) (acts : List Act) → Run (whole protocol) acts end →
      ds ≡ map unnumbered acts ++ Looked peer label ∷ [] →
      Walked exact protocol ds end

pub data LastDeed (exact : Bool) (protocol : Protocol) (ds : List Deed) (d : Deed) (end : Position) : Type 0 where
  did : (at : Position) (act : Act) → unnumbered act ≡ d → Walked exact protocol ds at → Step at act end →
      LastDeed exact protocol ds d end
  but_looked : exact ≡ false → (peer label : Name) → d ≡ Looked peer label → Walked exact protocol ds end →
      LastDeed exact protocol ds d end

pub last_deed : {exact : Bool} {protocol : Protocol} {ds : List Deed} {d : Deed} {end : Position} →
    Walked exact protocol (ds ++ d ∷ []) end → LastDeed exact protocol ds d end
last_deed {protocol = protocol} {ds = ds} {d = d} {end = end} (walked acts run e) =
    let b = ends_by acts ds d (sym e) in
    let l = last_step b.front (subst (λ xs. Run (whole protocol) xs end) b.is run) in
    did l.at b.last b.deed (walked b.front l.run b.before) l.step
last_deed {ds = ds} {d = d} (but_look not_exact peer label acts run e) =
    let s = same_end ds (map unnumbered acts) d (Looked peer label) e in
    but_looked not_exact peer label s.last (walked acts run s.front)

pub start_walked : {exact : Bool} (protocol : Protocol) {end : Position} → Walked exact protocol [] end → end ≡ whole protocol
start_walked protocol (walked [] stays e) = refl
start_walked protocol (walked (a ∷ acts) run e) = absurd (cc e)
start_walked protocol (but_look not_exact peer label acts run e) = absurd (not_nothing (map unnumbered acts) (Looked peer label) e)

pub moved_is : (act : Act) (m : Message) → unnumbered act ≡ Moved m → act ≡ Moves m
moved_is (Moves n) m e = let f : n ≡ m = cc in ap Moves f
moved_is (Looks k p l) m e = absurd (cc e)

pub looked_is : (act : Act) (peer label : Name) → unnumbered act ≡ Looked peer label → (n : ℕ) × (act ≡ Looks n peer label)
looked_is (Moves n) peer label e = absurd (cc e)
looked_is (Looks k p l) peer label e =
    let f : p ≡ peer = peers e in
    let g : l ≡ label = labels e in
    (k, ap₂ (λ (x : Name) (y : Name). Looks k x y) f g)
  where
    peers : {p q l k : Name} → Looked p l ≡ Looked q k → p ≡ q
    peers e = cc

    labels : {p q l k : Name} → Looked p l ≡ Looked q k → l ≡ k
    labels e = cc
