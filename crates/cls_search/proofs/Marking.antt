-- Marks that are added.
use Rattle.std.proofs.Common.{◌≡◌, ℕ, ◌+◌, ◌<◌, ◌≤◌, ◌⊎◌, inl, inr, Bool, List, ◌++◌, length, take, drop, get_or}
use Rattle.std.proofs.Common.{Some, refl, sym, ap, subst, ◌∙◌, arith}
use Rattle.std.specs.Prelude.{slice_get}
use Rattle.std.proofs.lemmas.Bool.{cases_lt}
use Rattle.std.proofs.lemmas.List.{append-nil, drop_all, take_all}
use Rattle.std.proofs.lemmas.Option.{slice_get_within}
use Rattle.vm_model.specs.Program.{Instr}
use Rattle.vm_model.specs.Actions.{Action, action}
use Rattle.cls_verify.specs.Blocks.{jumps}
use Rattle.cls_search.specs.Marked.{IsMarked, AllMarked, KeepsMarks, AreJoins}

pub keeps_all : (marks : List Bool) → KeepsMarks marks marks
keeps_all marks = record { many = refl; marked = λ place h. h }

pub keeps_on : (a b c : List Bool) → KeepsMarks a b → KeepsMarks b c → KeepsMarks a c
keeps_on a b c f g = record { many = g.many ∙ f.many; marked = λ place h. g.marked place (f.marked place h) }

pub marked_more : (marks new : List Bool) (places : List ℕ) (i : ℕ) → ((j : ℕ) → j < i → IsMarked marks (get_or places j 0)) →
    KeepsMarks marks new →
    IsMarked new (get_or places i 0) → (j : ℕ) → j < i + 1 → IsMarked new (get_or places j 0)
marked_more marks new places i h keeps here j b = by (cases_lt j i)
  where
    by : (j < i) ⊎ (i ≤ j) → IsMarked new (get_or places j 0)
    by (inl l) = keeps.marked (get_or places j 0) (h j l)
    by (inr l) = let e : i ≡ j = omega (arith, b, l) in subst (λ n. IsMarked new (get_or places n 0)) e here

-- all of a list, or one more before them
pub all_kept : (marks new : List Bool) (places : List ℕ) → KeepsMarks marks new → AllMarked marks places → AllMarked new places
all_kept marks new places keeps h place c = keeps.marked place (h place c)

-- The joins of the instructions so far.

pub record JoinsSoFar (code : List Instr) (marks : List Bool) (count : ℕ) : Type 0 where
  pub many : length marks ≡ length code
  pub first : IsMarked marks 0
  pub joined : (place : ℕ) (i : Instr) (a : Action) → place < count → slice_get code place ≡ Some i → action i.op i.args ≡ Some a →
      AllMarked marks (jumps a)

pub joins_none : (code : List Instr) (marks : List Bool) → length marks ≡ length code → IsMarked marks 0 → JoinsSoFar code marks 0
joins_none code marks many first = record { many = many; first = first; joined = λ place i a h e f. absurd (omega (arith, h)) }

pub joins_more : (code : List Instr) (marks new : List Bool) (n : ℕ) (i : Instr) → JoinsSoFar code marks n → KeepsMarks marks new →
    slice_get code n ≡ Some i →
    ((a : Action) → action i.op i.args ≡ Some a → AllMarked new (jumps a)) → JoinsSoFar code new (n + 1)
joins_more code marks new n i so keeps there here = record {
  many = keeps.many ∙ so.many;
  first = keeps.marked 0 so.first;
  joined = λ place j a h e f. by place j a (cases_lt place n) h e f;
}
  where
    by : (place : ℕ) (j : Instr) (a : Action) → (place < n) ⊎ (n ≤ place) → place < n + 1 → slice_get code place ≡ Some j →
        action j.op j.args ≡ Some a →
        AllMarked new (jumps a)
    by place j a (inl l) h e f = all_kept marks new (jumps a) keeps (so.joined place j a l e f)
    by place j a (inr l) h e f =
        let same : n ≡ place = omega (arith, h, l) in
        let is : i ≡ j = let q : Some i ≡ Some j = sym there ∙ ap (slice_get code) same ∙ e in cc q in
        here a (ap (λ (x : Instr). action x.op x.args) is ∙ f)

pub joins_all : (code : List Instr) (marks : List Bool) (n : ℕ) → JoinsSoFar code marks n → length code ≤ n → AreJoins code marks
joins_all code marks n so h = record {
  many = so.many;
  first = so.first;
  joined = λ place i a e f. so.joined place i a (let w = slice_get_within code place i e in omega (arith, w, h)) e f;
}

-- a list that is written as a whole
pub written : (n : ℕ) (new old : List Bool) → length new ≡ length old → n ≡ length old → take n (new ++ drop (length new) old) ≡ new
written n new old e f =
    ap (λ xs. take n (new ++ xs)) (drop_all (length new) old (omega (arith, e))) ∙ ap (take n) (append-nil new) ∙
    take_all n new (omega (arith, e, f))
