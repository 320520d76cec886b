-- Parts that are listed as a file would have them, and taken out again.
use Rattle.std.proofs.Common.{◌≡◌, ◌∙◌, ℕ, List, [], ◌∷◌, map, length, Option, None, Some, refl, sym, ap, subst, arith}
use Rattle.std.proofs.Math.Logic.{∥∥₁_elim}
use Rattle.mg_text.specs.Call.{Name}
use Rattle.mg_read.specs.Culprit.{culprit}
use Rattle.scr_tree.specs.Faults.{IsFault}
use Rattle.scr_tree.specs.Tree.{PartTree, LocalTree}
use Rattle.scr_tree.specs.Valid.{IsWritten, IsValid}
use Rattle.scr_tree.specs.Written.{WrittenTree, role_name, part_written, part_meant, local_of}
use Rattle.scr_tree.specs.declared.written.WrittenPart.{WrittenPart as Written}
use Rattle.scr_judge.specs.Fault.{fault_of}
use Rattle.scr_judge.specs.declared.fault.Fault.{Fault}
use Rattle.scr_judge.proofs.Faultless.{faultless}
use Rattle.mg_read.proofs.Steps.{some_is}
use Rattle.scr_read.specs.declared.fault.ScrFault.{ScrFault}
use Rattle.scr_read.specs.Outcome.{Answer, Refused, fault_answer}
use Rattle.scr_read.specs.Parts.{listed, parts, IsRefused, refused}

pub nothing_left : {X : Type 0} (xs : List X) → length xs ≡ 0 → xs ≡ []
nothing_left [] e = refl
nothing_left (x ∷ xs) e = absurd (omega (arith, e))

names_again : (file : ℕ) (names : List Name) → map role_name (map (listed file) names) ≡ names
names_again file [] = refl
names_again file (name ∷ names) = ap (λ (l : List Name). name ∷ l) (names_again file names)

-- what the parts mean are the parts, where there is no other protocol
pub meant : (t : LocalTree) → t.others ≡ [] → local_of (parts t) ≡ t
meant t alone = λ i. record {
  file = t.file;
  name = t.name;
  me = t.me;
  roles = names_again t.file t.roles i;
  body = t.body;
  others =
      sym alone i;
}

-- the protocol that a part means, as the program has it
abbrev pub meant_of : Written → PartTree
meant_of p = part_meant (part_written p)

pub meant_each : (ps : List Written) → map meant_of ps ≡ map part_meant (map part_written ps)
meant_each [] = refl
meant_each (p ∷ ps) = ap (λ (l : List PartTree). meant_of p ∷ l) (meant_each ps)

pub parts_valid : (t : LocalTree) → t.others ≡ [] → (w : WrittenTree) (fault : Option Fault) → w ≡ parts t → ∥ IsWritten t ∥₁ →
    IsFault w (fault_of fault) → fault ≡ None → ∥ IsValid (local_of w) ∥₁
parts_valid t alone w fault same written first none =
    ∥∥₁_elim written squash₁ (λ i. ∣ faultless w (subst (λ (f : Option Fault). IsFault w (fault_of f)) none first)
    (subst (λ (v : WrittenTree). IsWritten (local_of v)) (sym same) (subst IsWritten (sym (meant t alone)) i)) ∣₁)

pub parts_refused : (t : LocalTree) (w : WrittenTree) (fault : Option Fault) (f : Fault) (s : ScrFault) → w ≡ parts t →
    IsFault w (fault_of fault) → fault ≡ Some f
    → fault_answer s ≡ Some (Refused f.condition f.place f.name) → (a : Answer) → fault_answer s ≡ Some a →
    IsRefused (parts t) a
parts_refused t w fault f s same first some says a answered =
    subst (IsRefused (parts t)) (some_is _ a (sym says ∙ answered))
    (refused (subst (λ (v : WrittenTree). IsFault v (Some (f.condition, culprit f.place f.name))) same
    (subst (λ (o : Option Fault). IsFault w (fault_of o)) some first)))

pub parts_made : (t made : LocalTree) → t.others ≡ [] → (w : WrittenTree) (fault : Option Fault) → w ≡ parts t → IsFault w (fault_of fault)
    → fault ≡ None → made ≡ local_of w → (made ≡ t) × IsFault (parts t) None
parts_made t made alone w fault same first none e = (
  e ∙ ap local_of same ∙ meant t alone,
  subst (λ (v : WrittenTree). IsFault v None) same (subst (λ (f : Option Fault). IsFault w (fault_of f)) none first),
)
