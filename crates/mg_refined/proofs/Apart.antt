-- Of two files one thing is told, and of files that are refused nothing.
use Rattle.std.proofs.Common.{◌≡◌, ℕ, Bool, List, [], ◌∷◌, Result, refl, ap, ap₂, subst}
use Rattle.std.specs.Prelude.{OnOk}
use Rattle.mg_text.specs.Call.{Call}
use Rattle.mg_read.proofs.Judging.{no_both}
use Rattle.ts_tree.specs.Typestate.{Typestate}
use Rattle.ts_refine.specs.declared.verdict.Reason.{Reason}
use Rattle.ts_refine.proofs.Unique.{one_count, one_failure, not_both}
use Rattle.mg_sources.specs.Files.{Source}
use Rattle.mg_refusal.specs.Refusals.{Refusal}
use Rattle.mg_refusal.specs.Order.{Answers, AnswersOnly}
use Rattle.mg_refusal.specs.declared.stop.Stop.{Stop}
use Rattle.mg_refusal.proofs.Orders.{unless_refused, never_ok}
use Rattle.mg_sources.specs.Reading.{Part, Protocol, States, Classes, EachSpells}
use Rattle.mg_sources.proofs.OneKind.{one_part}
use Rattle.mg_sources.proofs.PartLemmas.{none_refused}
use Rattle.mg_refined.specs.declared.refined.Told.{Told}
use Rattle.mg_refined.specs.Refined.{yes_text, no_text, Tells, yes_told, no_told, AreJudged, FirstRefusal}

one_spelling : (files : List Source) (ps qs : List Part) → EachSpells files ps → EachSpells files qs → ps ≡ qs
one_spelling [] [] [] h k = refl
one_spelling [] [] (q ∷ qs) h k = absurd k
one_spelling [] (p ∷ ps) qs h k = absurd h
one_spelling (f ∷ files) [] qs h k = absurd h
one_spelling (f ∷ files) (p ∷ ps) [] h k = absurd k
one_spelling (f ∷ files) (p ∷ ps) (q ∷ qs) h k = ap₂ (λ (x : Part) (xs : List Part). x ∷ xs) (one_part f p q h.0 k.0)
    (one_spelling files ps qs h.1 k.1)

abbrev state_or : Typestate → Part → Typestate
state_or d (Protocol local) = d
state_or d (States t) = t
state_or d (Classes file) = d

abbrev first_or : Typestate → List Part → Typestate
first_or d [] = d
first_or d (p ∷ ps) = state_or d p

abbrev second_or : Typestate → List Part → Typestate
second_or d [] = d
second_or d (p ∷ ps) = first_or d ps

pub firsts : (a b c d : Typestate) → (States a ∷ States b ∷ []) ≡ (States c ∷ States d ∷ []) → a ≡ c
firsts a b c d e = ap (first_or a) e

pub seconds : (a b c d : Typestate) → (States a ∷ States b ∷ []) ≡ (States c ∷ States d ∷ []) → b ≡ d
seconds a b c d e = ap (second_or a) e

no_told_text : (cs ds : List Call) (r s : Reason) → (cs ≡ ds) × (r ≡ s) → no_text cs r ≡ no_text ds s
no_told_text cs ds r s e = ap₂ no_text e.0 e.1

tells_one : (a b : Typestate) (x y : List ℕ) (s t : Bool) → Tells a b x s → Tells a b y t → (x ≡ y) × (s ≡ t)
tells_one a b x y s t (yes_told {pairs = ps} h) (yes_told {pairs = qs} k) = (ap yes_text (one_count a b ps qs h k), refl)
tells_one a b x y s t (yes_told {pairs = ps} h) (no_told {calls = ds} {reason = q} k) = absurd (not_both a b ps ds q h k)
tells_one a b x y s t (no_told {calls = cs} {reason = r} h) (yes_told {pairs = qs} k) = absurd (not_both a b qs cs r k h)
tells_one a b x y s t (no_told {calls = cs} {reason = r} h) (no_told {calls = ds} {reason = q} k) =
    (no_told_text cs ds r q (one_failure a b cs ds r q h k), refl)

pub one_telling : (files : List Source) (x y : List ℕ) (s t : Bool) → AreJudged files x s → AreJudged files y t → (x ≡ y) × (s ≡ t)
one_telling files x y s t h k =
    let e = one_spelling files (States h.a ∷ States h.b ∷ []) (States k.a ∷ States k.b ∷ []) h.spell k.spell in
    let moved : Tells k.a k.b x s = subst (λ (b : Typestate). Tells k.a b x s) (seconds h.a h.b k.a k.b e)
    (subst (λ (a : Typestate). Tells a h.b x s) (firsts h.a h.b k.a k.b e) h.tells) in
    tells_one k.a k.b x y s t moved k.tells

pub none_spelled : (files : List Source) (parts : List Part) (r : Refusal) → EachSpells files parts → FirstRefusal files r → ⊥
none_spelled files parts r each judged = no_both (none_refused files parts each) judged

module _ (files : List Source) (answer : Result Told Stop)
    (h : Answers (λ (t : Told). AreJudged files t.text t.stands) (FirstRefusal files) answer) where
  pub judged_answered : (text : List ℕ) (stands : Bool) → AreJudged files text stands →
      AnswersOnly (λ t. (t.text ≡ text) × (t.stands ≡ stands)) answer
  judged_answered text stands k =
      unless_refused (λ t. AreJudged files t.text t.stands) (FirstRefusal files) (λ t. (t.text ≡ text) × (t.stands ≡ stands)) answer h
      (λ t is. one_telling files t.text text t.stands stands is k)
      (λ r first. none_spelled files (States k.a ∷ States k.b ∷ []) r k.spell first)

  pub refused_untold : (r : Refusal) → FirstRefusal files r → OnOk answer ⊥
  refused_untold r first =
      never_ok (λ t. AreJudged files t.text t.stands) (FirstRefusal files) answer h
      (λ t is. none_spelled files (States is.a ∷ States is.b ∷ []) r is.spell first)
