use Rattle.std.proofs.Common.{◌≡◌, map, ap, sym, ◌∙◌, List, ℕ, [], ◌∷◌, refl, nat_lt, length}
use Rattle.std.specs.List.{flat_map}
use Rattle.std.proofs.lemmas.Iterator.{YieldsList-from_chars}
use Rattle.std.proofs.lemmas.Iterator.Consumers.{YieldsList-end}
use Rattle.cls_tree.specs.Modified.{modified, modified_char}
use Rattle.gen_members.proofs.Counting.{none_counted, told_by}
use Rattle.gen_members.proofs.texts.is_long_text.Goals as goal

as_they_are : (xs : List ℕ) → map (λ x. x) xs ≡ xs
as_they_are [] = refl
as_they_are (x ∷ xs) = ap (λ (ys : List ℕ). x ∷ ys) (as_they_are xs)

pub loop-character-init : goal.loop-character-init
loop-character-init c = none_counted

pub returns : goal.returns
unfolding modified
returns c =
    let t = YieldsList-end (YieldsList-from_chars c.args.text.now c.utf8.text cc) c.loop-character.yielded _ c.loop-character.yielded_by _ _
    c.in-None.is c.next.ensures.steps in
    told_by c.loop-character.size c.loop-character.yielded c.loop-character.invariant
    ∙ ap (λ cs. nat_lt 65535 (length (flat_map modified_char cs))) (sym (as_they_are c.loop-character.yielded) ∙ t.0)
