use Rattle.std.proofs.Common.{◌≡◌, ℕ, List, [], ◌∷◌, map, sym, ap, ◌∙◌, refl}
use Rattle.std.specs.List.{flat_map}
use Rattle.std.proofs.lemmas.Iterator.{YieldsList-from_chars}
use Rattle.std.proofs.lemmas.Iterator.Consumers.{YieldsList-end}
use Rattle.cls_tree.specs.Modified.{modified, modified_char}
use Rattle.cls_bytes.proofs.texts.modified_of.Goals as goal

as_they_are : (xs : List ℕ) → map (λ x. x) xs ≡ xs
as_they_are [] = refl
as_they_are (x ∷ xs) = ap (λ (ys : List ℕ). x ∷ ys) (as_they_are xs)

pub returns : goal.returns
unfolding modified
returns c =
    let t = YieldsList-end (YieldsList-from_chars c.args.text.now c.utf8.text cc) c.loop-character.yielded _ c.loop-character.yielded_by _ _
    c.in-None.is c.next.ensures.steps in
    c.loop-character.invariant ∙ ap (flat_map modified_char) (sym (as_they_are c.loop-character.yielded) ∙ t.0)
