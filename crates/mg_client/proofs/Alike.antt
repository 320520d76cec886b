-- Two first refusals of files without clients are one, but for the place of Syntax.
use Rattle.std.proofs.Common.{◌≡◌, List, [], ◌∷◌, Option, Some, refl, inl}
use Rattle.mg_text.specs.Call.{Name}
use Rattle.mg_read.proofs.Judging.{no_both, one_answer}
use Rattle.mg_refusal.specs.Refusals.{Refusal, AreAlike}
use Rattle.mg_refusal.proofs.Orders.{then_never, then_alike}
use Rattle.mg_sources.specs.Files.{Source}
use Rattle.mg_sources.specs.Reading.{Part, EachSpells}
use Rattle.mg_sources.specs.Sources.{FirstRefusal as Sooner}
use Rattle.mg_sources.proofs.OneKind.{one_part}
use Rattle.mg_sources.proofs.PartLemmas.{none_refused}
use Rattle.mg_sources.proofs.Alike as sources_alike
use Rattle.mg_client.specs.Clients.{AreApart, FirstRefusal}
use Rattle.mg_client.proofs.Apart.{one_unaccepted}

same_some : (x y : Refusal) → Some x ≡ Some y → x ≡ y
same_some x y e = cc

same_parts : (files : List Source) (ps qs : List Part) → EachSpells files ps → EachSpells files qs → ps ≡ qs
same_parts [] [] [] h k = refl
same_parts [] [] (q ∷ qs) h k = absurd k
same_parts [] (p ∷ ps) qs h k = absurd h
same_parts (f ∷ fs) [] qs h k = absurd h
same_parts (f ∷ fs) (p ∷ ps) [] h k = absurd k
same_parts (f ∷ fs) (p ∷ ps) (q ∷ qs) (h, hs) (k, ks) =
    let first : p ≡ q = one_part f p q h k in
    let others : ps ≡ qs = same_parts fs ps qs hs ks in
    λ i. first i ∷ others i

-- files that spell protocols apart aren't refused sooner
not_sooner : (files : List Source) (r : Refusal) (parts : List Part) → Sooner files r → AreApart files parts → ⊥
not_sooner files r parts h apart =
    then_never (λ r judged. no_both (none_refused files parts apart.each) judged) (λ others each r judged. no_both apart.apart judged) r h

pub same_refusal : (p : Option Name) (files : List Source) (r q : Refusal) → FirstRefusal p files r → FirstRefusal p files q → AreAlike r q
same_refusal p files =
    then_alike (sources_alike.same_refusal files) (not_sooner files) (λ a b h k. same_parts files a b h.each k.each)
    (λ parts apart r q h k. inl (same_some r q (one_answer (one_unaccepted p) h k)))
