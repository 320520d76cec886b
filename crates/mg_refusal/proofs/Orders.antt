-- Laws of the first refusal.
use Rattle.std.proofs.Common.{◌≡◌, ℕ, [], codes, Option, Some, None, Result, Ok, Err, refl, sym, ◌∙◌, ap, subst, inl, inr}
use Rattle.std.specs.Prelude.{OnOk}
use Rattle.mg_text.specs.declared.place.Place.{Place}
use Rattle.mg_refusal.specs.Refusals.{Refusal, refusal_at, in_file, AreAlike}
use Rattle.mg_refusal.specs.Order.{Finds, InFile, Then, at_first, at_next, Answers, AnswersOnly, IsStopOf, IsStopBy, stop_in}
use Rattle.mg_refusal.specs.declared.stop.Stop.{Stop}
use Rattle.mg_refusal.specs.declared.stop.Stop.TheVariants as stops

-- one thing that is found is refused in one way
pub finds_alike : {F : Type 0} (Is : F → Type 0) (refusal_of : F → Refusal) → ((f g : F) → Is f → Is g → f ≡ g) →
    (r q : Refusal) → Finds Is refusal_of r → Finds Is refusal_of q → AreAlike r q
finds_alike Is refusal_of one r q (f, is, says) (g, is', says') = inl (says ∙ ap refusal_of (one f g is is') ∙ sym says')

-- the same is said of one file
pub same_in : (file : ℕ) (r q s t : Refusal) → s ≡ t → r ≡ in_file file s → q ≡ in_file file t → AreAlike r q
same_in file r q s t same e d = inl (e ∙ ap (in_file file) same ∙ sym d)

-- Syntax is said of one file
pub syntax_in : (file : ℕ) (r q s t : Refusal) (first second : Place) → s ≡ refusal_at (codes "Syntax") first [] →
    t ≡ refusal_at (codes "Syntax") second [] → r ≡ in_file file s → q ≡ in_file file t → AreAlike r q
syntax_in file r q s t first second h k e d = inr (record {
  first = record first { file = file };
  second = record second { file = file };
  one_file = refl;
  says = e ∙ ap (in_file file) h;
  also = d ∙ ap (in_file file) k;
})

module _ {A : Type 0} {First : Refusal → Type 0} {Passes : A → Type 0} {Next : A → Refusal → Type 0} where
  -- two first refusals are alike, where what passes is one thing and isn't refused
  pub then_alike : ((r q : Refusal) → First r → First q → AreAlike r q) → ((r : Refusal) (a : A) → First r → Passes a → ⊥) →
      ((a b : A) → Passes a → Passes b → a ≡ b) → ((a : A) → Passes a → (r q : Refusal) → Next a r → Next a q → AreAlike r q) →
      (r q : Refusal) → Then First Passes Next r → Then First Passes Next q → AreAlike r q
  then_alike first apart one next r q (at_first h) (at_first k) = first r q h k
  then_alike first apart one next r q (at_first h) (at_next b p k) = absurd (apart r b h p)
  then_alike first apart one next r q (at_next a p h) (at_first k) = absurd (apart q a k p)
  then_alike first apart one next r q (at_next a p h) (at_next b p' k) =
      next b p' r q (subst (λ (z : A). Next z r) (one a b p p') h) k

  -- where the steps pass nothing is refused
  pub then_never : ((r : Refusal) → First r → ⊥) → ((a : A) → Passes a → (r : Refusal) → Next a r → ⊥) → (r : Refusal) →
      Then First Passes Next r → ⊥
  then_never first next r (at_first h) = first r h
  then_never first next r (at_next a p h) = next a p r h

-- what is refused at a step of the work is refused
pub refused_by : {A B : Type 0} (Wanted : B → Type 0) (Sooner : Refusal → Type 0) (Right : A → Type 0) (First : Refusal → Type 0) →
    ((r : Refusal) → Sooner r → First r) → (stop : Stop) → Answers Wanted Sooner (Err stop) → (answer : Result A Stop) → answer ≡ Err stop →
    Answers Right First answer
refused_by Wanted Sooner Right First go (stops.Refused r) h answer e = subst (Answers Right First) (sym e) (go r h)
refused_by Wanted Sooner Right First go stops.Memory h answer e = subst (Answers Right First) (sym e) tt

-- what isn't refused is answered
pub unless_refused : {A : Type 0} (Right : A → Type 0) (First : Refusal → Type 0) (Wanted : A → Type 0) (answer : Result A Stop) →
    Answers Right First answer → ((a : A) → Right a → Wanted a) → ((r : Refusal) → First r → ⊥) → AnswersOnly Wanted answer
unless_refused Right First Wanted (Ok a) h go never = go a h
unless_refused Right First Wanted (Err (stops.Refused r)) h go never = never r h
unless_refused Right First Wanted (Err stops.Memory) h go never = tt

-- and what is refused isn't
pub never_ok : {A : Type 0} (Right : A → Type 0) (First : Refusal → Type 0) (answer : Result A Stop) → Answers Right First answer →
    ((a : A) → Right a → ⊥) → OnOk answer ⊥
never_ok Right First (Ok a) h never = never a h
never_ok Right First (Err stop) h never = tt

-- the refusal by a fault that is told
pub stop_refused : {A F : Type 0} (Comes : F → Refusal → Type 0) (Right : A → Type 0) (First : Refusal → Type 0) (told : Option F)
    (stop : Stop) →
    IsStopOf Comes told stop → ((f : F) (r : Refusal) → told ≡ Some f → Comes f r → First r) → Answers Right First (Err stop)
stop_refused Comes Right First (Some f) (stops.Refused r) h go = go f r refl h
stop_refused Comes Right First (Some f) stops.Memory h go = absurd h
stop_refused Comes Right First None (stops.Refused r) h go = absurd h
stop_refused Comes Right First None stops.Memory h go = tt

-- or for which memory may lack
pub stop_refused_by : {A F : Type 0} (Comes : F → Refusal → Type 0) (Right : A → Type 0) (First : Refusal → Type 0) (told : Option F)
    (stop : Stop) → IsStopBy Comes told stop → ((f : F) (r : Refusal) → told ≡ Some f → Comes f r → First r) →
    Answers Right First (Err stop)
stop_refused_by Comes Right First told (stops.Refused r) h go = go h.0 r h.1 h.2
stop_refused_by Comes Right First told stops.Memory h go = tt

-- and in a file
pub stop_in_file : {A F : Type 0} (file : ℕ) (Comes : F → Refusal → Type 0) (Right : A → Type 0) (First : Refusal → Type 0)
    (told : Option F)
    (stop : Stop) → IsStopOf Comes told stop → ((f : F) (r : Refusal) → told ≡ Some f → InFile file (Comes f) r → First r) →
    Answers Right First (Err (stop_in file stop))
stop_in_file file Comes Right First (Some f) (stops.Refused r) h go = go f (in_file file r) refl (r, h, refl)
stop_in_file file Comes Right First (Some f) stops.Memory h go = absurd h
stop_in_file file Comes Right First None (stops.Refused r) h go = absurd h
stop_in_file file Comes Right First None stops.Memory h go = tt
