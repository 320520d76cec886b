-- How the names of files end.
use Rattle.std.proofs.Common.{◌≡◌, ℕ, ◌<◌, ◌-◌, List, ◌++◌, length, take, drop, take-append-drop, true, false, Bool, eqb, codes, sym, ap}
use Rattle.std.proofs.Common.{◌∙◌, subst, arith, length-append, get_or, true≢false}
use Rattle.std.specs.Prelude.{IsTrue, ◌↔◌}
use Rattle.std.specs.List.{ends_with}
use Rattle.std.proofs.lemmas.Slice.Eq.{bytes_eq-Decides}
use Rattle.std.proofs.lemmas.List.{drop_at}
use Rattle.std.proofs.lemmas.List.Elements.{All-get_or}
use Rattle.mg_sources.specs.Files.{Source, source_of, EndsWith, Kind, Scribble, Typestates, Java, suffix_of, IsOf, HaveKinds}

-- what ends with these bytes has something in front of them
pub ends_is : (name suffix : List ℕ) → ends_with eqb name suffix ≡ true → EndsWith suffix name
ends_is name suffix h =
    let k : ℕ = length name - length suffix in
    let tail : suffix ≡ drop k name = (bytes_eq-Decides suffix (drop k name)).0 h in
    (take k name, sym (take-append-drop k name) ∙ ap (λ (z : List ℕ). take k name ++ z) (sym tail))

pub is_ends : (name suffix : List ℕ) → EndsWith suffix name → ends_with eqb name suffix ≡ true
is_ends name suffix (front, e) =
    let at : length front ≡ length name - length suffix = omega (arith, ap length e, length-append front suffix) in
    let tail : drop (length name - length suffix) name ≡ suffix =
    rw e (drop_at front suffix _ (at ∙ ap (λ (z : List ℕ). length z - length suffix) e)) in
    (bytes_eq-Decides suffix (drop (length name - length suffix) name)).1 (sym tail)

pub ends_told : (r : Bool) (name suffix bytes : List ℕ) → bytes ≡ name → r ≡ ends_with eqb bytes suffix → IsTrue r ↔ EndsWith suffix name
ends_told r name suffix bytes e is = (
  λ t. subst (EndsWith suffix) e (ends_is bytes suffix (sym is ∙ t)),
  λ h. is ∙ is_ends bytes suffix (subst (EndsWith suffix) (sym e) h),
)

-- what is none of the other kinds is Java
pub left_java : (source : Source) (a b : Bool) → (kind : Kind) × IsOf kind source → (IsTrue a ↔ EndsWith (codes ".scr") source.name) →
    a ≡ false
    → (IsTrue b ↔ EndsWith (codes ".protocol") source.name) → b ≡ false → IsOf Java source
left_java source a b (Scribble, is) told isnt told' isnt' = absurd (true≢false (sym (told.1 is) ∙ isnt))
left_java source a b (Typestates, is) told isnt told' isnt' = absurd (true≢false (sym (told'.1 is) ∙ isnt'))
left_java source a b (Java, is) told isnt told' isnt' = is

-- the kind of the file at an index
pub kind_at : (names : List (List ℕ)) (i : ℕ) (name bytes : List ℕ) → i < length names → name ≡ get_or names i name → HaveKinds names
    → (kind : Kind) × IsOf kind (source_of i name bytes)
kind_at names i name bytes lt is kinds =
    subst (λ (z : List ℕ). (kind : Kind) × EndsWith (suffix_of kind) z) (sym is)
    (All-get_or (λ (z : List ℕ). (kind : Kind) × EndsWith (suffix_of kind) z) names i name lt kinds)
