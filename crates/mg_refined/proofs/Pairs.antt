-- Two files of typestates spell two typestates.
use Rattle.std.proofs.Common.{arith, ◌≡◌, ℕ, Bool, List, [], ◌∷◌, length, codes, Option, Some, None, Result, Ok, Err, slice_get, refl}
use Rattle.std.proofs.Common.{map, sym, ap, ◌∙◌, subst}
use Rattle.std.specs.Prelude.{All, IfOk}
use Rattle.std.proofs.lemmas.List.Elements.{All-contains, All-weaker}
use Rattle.mg_text.specs.Row.{Row}
use Rattle.mg_text.specs.declared.memory.Memory.{Memory}
use Rattle.mg_read.specs.First.{Judged}
use Rattle.ts_tree.specs.Typestate.{Typestate}
use Rattle.ts_tree.proofs.Leading.{here as first_of, behind as later_of}
use Rattle.mg_sources.specs.Files.{Source, source_of, sources, EndsWith, Kind, Typestates, suffix_of, HaveKinds}
use Rattle.mg_refusal.specs.Order.{Answers}
use Rattle.mg_refusal.specs.declared.stop.Stop.{Stop}
use Rattle.mg_refusal.specs.declared.stop.Stop.TheVariants as stops
use Rattle.mg_sources.specs.Reading.{Part, Protocol, States, Classes, Reads, EachSpells, Refuses}
use Rattle.mg_sources.specs.Reading as reading
use Rattle.mg_sources.specs.Parts.{part_of}
use Rattle.mg_sources.proofs.OneKind.{last_of, last_behind, differ}
use Rattle.mg_sources.specs.declared.part.Part.{Part as KeptPart}
use Rattle.mg_refined.specs.declared.refined.Told.{Told}
use Rattle.mg_refined.specs.Refined.{Tells, AreJudged, FirstRefusal}

ends_l : (name : List ℕ) → EndsWith (codes ".protocol") name → last_of name ≡ Some 108
ends_l name (front, e) = ap last_of e ∙ last_behind front 46 (codes "protocol")

ends_r : (name : List ℕ) → EndsWith (codes ".scr") name → last_of name ≡ Some 114
ends_r name (front, e) = ap last_of e ∙ last_behind front 46 (codes "scr")

ends_a : (name : List ℕ) → EndsWith (codes ".java") name → last_of name ≡ Some 97
ends_a name (front, e) = ap last_of e ∙ last_behind front 46 (codes "java")

pub state_part : (source : Source) (part : Part) → EndsWith (codes ".protocol") source.name → Reads source part
    → (t : Typestate) × (part ≡ States t)
state_part source part is (reading.protocol of_scr o) = differ 108 114 (sym (ends_l source.name is) ∙ ends_r source.name of_scr)
    (λ k. absurd (omega (arith, k)))
state_part source part is (reading.states {typestate = t} of_states o) = (t, refl)
state_part source part is (reading.classes of_java o) = differ 108 97 (sym (ends_l source.name is) ∙ ends_a source.name of_java)
    (λ k. absurd (omega (arith, k)))

-- what two files spell
pub record AreTwo (parts : List Part) : Type 0 where
  pub a : Typestate
  pub b : Typestate
  pub are : parts ≡ States a ∷ States b ∷ []

pub two_states : (names contents : List (List ℕ)) (parts : List Part) → length names ≡ 2 → length contents ≡ 2
    → All (EndsWith (codes ".protocol")) names → EachSpells (sources names contents) parts → AreTwo parts
two_states (n ∷ m ∷ []) (c ∷ d ∷ []) (p ∷ q ∷ []) two same kinds h =
    let s = state_part (source_of 0 n c) p (All-contains (EndsWith (codes ".protocol")) (n ∷ m ∷ []) n kinds (first_of n (m ∷ []))) h.0 in
    let t = state_part (source_of 1 m d) q (All-contains (EndsWith (codes ".protocol")) (n ∷ m ∷ []) m kinds
    (later_of n (m ∷ []) m (first_of m []))) h.1.0 in
    record { a = s.0; b = t.0; are = ap (λ (x : Part). x ∷ q ∷ []) s.1 ∙ ap (λ (y : Part). States s.0 ∷ y ∷ []) t.1 }
two_states (n ∷ m ∷ []) (c ∷ d ∷ []) (p ∷ q ∷ r ∷ rest) two same kinds h = absurd h.1.1
two_states (n ∷ m ∷ []) (c ∷ d ∷ []) (p ∷ []) two same kinds h = absurd h.1
two_states (n ∷ m ∷ []) (c ∷ d ∷ []) [] two same kinds h = absurd h
two_states [] contents parts two same kinds h = absurd (omega (arith, two))
two_states (n ∷ []) contents parts two same kinds h = absurd (omega (arith, two))
two_states (n ∷ m ∷ o ∷ more) contents parts two same kinds h = absurd (omega (arith, two))
two_states (n ∷ m ∷ []) [] parts two same kinds h = absurd (omega (arith, same))
two_states (n ∷ m ∷ []) (c ∷ []) parts two same kinds h = absurd (omega (arith, same))
two_states (n ∷ m ∷ []) (c ∷ d ∷ e ∷ more) parts two same kinds h = absurd (omega (arith, same))

pub have_kinds : (names : List (List ℕ)) → All (EndsWith (codes ".protocol")) names → HaveKinds names
have_kinds names h = All-weaker (EndsWith (codes ".protocol")) (λ name. (kind : Kind) × EndsWith (suffix_of kind) name)
    (λ name is. (Typestates, is)) names h

pub told_of : (names contents : List (List ℕ)) (parts slice : List Part) (text : List ℕ) (stands : Bool) → length names ≡ 2
    → length contents ≡ 2 → All (EndsWith (codes ".protocol")) names → EachSpells (sources names contents) parts → slice ≡ parts
    → ((a b : Typestate) → slice ≡ States a ∷ States b ∷ [] → Tells a b text stands) → AreJudged (sources names contents) text stands
told_of names contents parts slice text stands two same kinds h is tells =
    let t = two_states names contents parts two same kinds h in
    record { a = t.a; b = t.b; spell = subst (EachSpells (sources names contents)) t.are h; tells = tells t.a t.b (is ∙ t.are) }

-- which stand where
pub first_there : (parts : List Part) (a b : Typestate) → parts ≡ States a ∷ States b ∷ [] → slice_get parts 0 ≡ Some (States a)
first_there parts a b e = ap (λ (ps : List Part). slice_get ps 0) e

pub second_there : (parts : List Part) (a b : Typestate) → parts ≡ States a ∷ States b ∷ [] → slice_get parts 1 ≡ Some (States b)
second_there parts a b e = ap (λ (ps : List Part). slice_get ps 1) e

abbrev state_in : Typestate → Option Part → Typestate
state_in d None = d
state_in d (Some (Protocol local)) = d
state_in d (Some (States t)) = t
state_in d (Some (Classes file)) = d

-- what is told of the typestates that stand there is told of these two
pub told_same : (parts : List Part) (x y : Typestate) (r : Result Told Memory) → slice_get parts 0 ≡ Some (States x)
    → slice_get parts 1 ≡ Some (States y) → IfOk r (λ t. Tells x y t.text t.stands)
    → IfOk r (λ t. (a b : Typestate) → parts ≡ States a ∷ States b ∷ [] → Tells a b t.text t.stands)
told_same parts x y (Ok t) f s k = λ a b e.
    let one : x ≡ a = ap (state_in x) (sym f ∙ first_there parts a b e) in
    let two : y ≡ b = ap (state_in y) (sym s ∙ second_there parts a b e) in
    subst (λ (b : Typestate). Tells a b t.text t.stands) two (subst (λ (a : Typestate). Tells a y t.text t.stands) one k)
told_same parts x y (Err e) f s k = tt

-- of files that a reader refuses nothing is told
pub unread : (files : List Source) (stop : Stop) →
    Answers (λ (parts : Row KeptPart). EachSpells files (map part_of parts.items)) (λ r. Judged Refuses files (Some r)) (Err stop) →
    Answers (λ (t : Told). AreJudged files t.text t.stands) (FirstRefusal files) (Err stop)
unread files (stops.Refused r) h = h
unread files stops.Memory h = tt
