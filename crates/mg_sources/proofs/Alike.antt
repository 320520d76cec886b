-- Two first refusals of files are one, but for the place of Syntax.
use Rattle.std.proofs.Common.{◌≡◌, ℕ, List, Option, Some, codes, refl, sym, ap, ◌∙◌, subst, inl}
use Rattle.mg_text.specs.Places.{start_of}
use Rattle.mg_read.specs.First.{Judged, clean, here, later}
use Rattle.mg_read.specs.FirstLaws.{IsSingle}
use Rattle.mg_read.proofs.Judging.{no_both, one_answer}
use Rattle.scr_tree.specs.Tree.{LocalTree}
use Rattle.mg_refusal.specs.Refusals.{Refusal, refusal_at, AreAlike}
use Rattle.mg_refusal.specs.Order.{at_first, at_next}
use Rattle.mg_sources.specs.Files.{Source}
use Rattle.mg_sources.specs.Reading.{Protocol, Refuses}
use Rattle.mg_sources.specs.Sources.{SharesRole, FirstRefusal}
use Rattle.mg_sources.proofs.OneKind.{one_part, alike}
use Rattle.mg_sources.proofs.PartLemmas.{none_refused}

pub first_alike : {files others : List Source} {r s : Option Refusal} {l k : Refusal} → Judged Refuses files r → Judged Refuses others s →
    files ≡ others → r ≡ Some l → s ≡ Some k → AreAlike l k
first_alike clean q e a b = let no : ⊥ = cc in absurd no
first_alike (here h) clean e a b = let no : ⊥ = cc in absurd no
first_alike {l = l} {k = k} (here {x = x} {c = c} h) (here {x = y} {c = d} j) e a b =
    let same : y ≡ x = cc in
    let one : c ≡ l = cc in
    let two : d ≡ k = cc in
    subst (λ (z : Refusal). AreAlike z k) one
    (subst (AreAlike c) two (alike x c d h (subst (λ (z : Source). Refuses z d) same j)))
first_alike (here {x = x} {c = c} h) (later {x = y} n q) e a b =
    let same : x ≡ y = cc in absurd (n c (subst (λ (z : Source). Refuses z c) same h))
first_alike (later n p) clean e a b = let no : ⊥ = cc in absurd no
first_alike (later {x = x} n p) (here {x = y} {c = d} j) e a b =
    let same : y ≡ x = cc in absurd (n d (subst (λ (z : Source). Refuses z d) same j))
first_alike (later {xs = xs} n p) (later {xs = zs} m q) e a b = let same : xs ≡ zs = cc in first_alike p q same a b

same_local : (k l : LocalTree) → Protocol k ≡ Protocol l → k ≡ l
same_local k l e = cc

one_role : IsSingle SharesRole
one_role files l k h j =
    let (a, reads, is) = h.of_role in
    let (b, reads', is') = j.of_role in
    let same : a ≡ b = same_local a b (one_part files.1 (Protocol a) (Protocol b) reads reads') in
    let role : h.role ≡ j.role = sym is ∙ ap (λ (x : LocalTree). x.me) same ∙ is' in
    h.said ∙ ap (λ (r : List ℕ). refusal_at (codes "SameRole") (start_of files.1.number) r) role ∙ sym j.said

same_some : {A : Type 0} (x y : A) → Some x ≡ Some y → x ≡ y
same_some x y e = cc

pub same_refusal : (files : List Source) (r q : Refusal) → FirstRefusal files r → FirstRefusal files q → AreAlike r q
same_refusal files r q (at_first h) (at_first j) = first_alike h j refl refl refl
same_refusal files r q (at_first h) (at_next parts each j) = absurd (no_both (none_refused files parts each) h)
same_refusal files r q (at_next parts each h) (at_first j) = absurd (no_both (none_refused files parts each) j)
same_refusal files r q (at_next parts each h) (at_next others each' j) = inl (same_some r q (one_answer one_role h j))
