-- The numbers of protocols, one name after another.
use Rattle.std.proofs.Common.{◌≡◌, ℕ, ◌+◌, ◌<◌, List, ◌∷◌, length, get_or, drop, map, refl, sym, ap, ◌∙◌, Bool, true, false, cond}
use Rattle.std.proofs.Common.{if◌then◌else◌, Option, Some, length-drop, arith}
use Rattle.std.specs.Str.{bytes_eq}
use Rattle.std.specs.Map.{update}
use Rattle.std.proofs.lemmas.List.{at_drop_more, length-map}
use Rattle.std.proofs.lemmas.Slice.Eq.{bytes_eq-Decides}
use Rattle.mg_text.specs.Call.{Name}
use Rattle.scr_tree.specs.declared.syntax.Part.{Part}
use Rattle.scr_tree.specs.Tree.{PartTree, other}
use Rattle.scr_tree.specs.View.{part_of}
use Rattle.scr_trace.specs.inner.Laying.{number_among}

same_either_way : (a b : Name) → bytes_eq a b ≡ bytes_eq b a
same_either_way a b = go (bytes_eq a b) (bytes_eq b a) refl refl
  where
    go : (x y : Bool) → bytes_eq a b ≡ x → bytes_eq b a ≡ y → x ≡ y
    go true y e f = sym ((bytes_eq-Decides b a).1 (sym ((bytes_eq-Decides a b).0 e))) ∙ f
    go false true e f = sym e ∙ (bytes_eq-Decides a b).1 (sym ((bytes_eq-Decides b a).0 f))
    go false false e f = refl

-- a name is given a number
pub inserted : (name text q : Name) (n : ℕ) (old : Name → Option ℕ) → text ≡ name → update bytes_eq old text (Some n) q
    ≡ (if bytes_eq q name then Some n else old q)
inserted name text q n old e = ap (λ b. cond b (Some n) (old q)) (same_either_way text q ∙ ap (bytes_eq q) e)

-- the numbers of the protocols from this one on
abbrev from_on : List Part → Name → Option ℕ
from_on ps = number_among (map other (map part_of ps))

pub numbers_more : (ps : List Part) (i j n : ℕ) (x : Part) (old new : Name → Option ℕ) → j ≡ i + 1 → i < length ps → x ≡ get_or ps i x →
    n + j ≡ length ps →
    ((q : Name) → old q ≡ number_among (map other (map part_of (drop j ps))) q) →
    ((q : Name) → new q ≡ (if bytes_eq q x.name then Some n else old q)) →
    (q : Name) → new q ≡ number_among (map other (map part_of (drop i ps))) q
numbers_more ps i j n x old new more within is count before after q =
    let rest : length (map other (map part_of (drop j ps))) ≡ n =
    length-map (map part_of (drop j ps)) other ∙ length-map (drop j ps) part_of ∙ length-drop j ps ∙ omega arith in
    after q ∙ ap (λ o. if bytes_eq q x.name then Some n else o) (before q)
    ∙ ap (λ k. if bytes_eq q x.name then Some k else from_on (drop j ps) q) (sym rest)
    ∙ sym (at_drop_more (λ xs. from_on xs q) ps i x within ∙ ap (λ k. from_on (get_or ps i x ∷ drop k ps) q) (sym more) ∙
    ap (λ (y : Part). from_on (y ∷ drop j ps) q) (sym is))

pub numbered_all : (xs ps : List Part) (q name : Name) (n : ℕ) (rest : Option ℕ) → map part_of xs ≡ map part_of ps → n ≡ length xs →
    rest ≡ number_among (map other (map part_of xs)) q →
    (if bytes_eq q name then Some n else rest) ≡ (if bytes_eq q name then Some (length (map other (map part_of ps))) else number_among
    (map other (map part_of ps)) q)
numbered_all xs ps q name n rest same count is =
    ap (λ o. if bytes_eq q name then Some n else o) is
    ∙ ap (λ k. if bytes_eq q name then Some k else from_on xs q) (count ∙ sym (length-map (map part_of xs) other ∙ length-map xs part_of))
    ∙ ap (λ (ts : List PartTree). if bytes_eq q name then Some (length (map other ts)) else number_among (map other ts) q) same
