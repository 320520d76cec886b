-- Conditions that each protocol of a file is judged by alone.
use Rattle.std.specs.Prelude.{◌≡◌, List, [], ◌∷◌, Option, Some, None}
use Rattle.mg_read.specs.Culprit.{Culprit}
use Rattle.mg_read.specs.First.{Judged}
use Rattle.scr_tree.specs.declared.condition.Condition.{Condition}
use Rattle.scr_tree.specs.declared.condition.Condition.TheVariants as conditions
use Rattle.scr_tree.specs.Spots.{spots}
use Rattle.scr_tree.specs.Conditions as says
use Rattle.scr_tree.specs.Listing.{UnknownRole, mentions_in}
use Rattle.scr_tree.specs.Written.{WrittenPart, roles_in, me_in}
use Rattle.scr_tree.specs.declared.written.Written.{Written}
use Rattle.scr_tree.specs.declared.written.WrittenPart.{WrittenPart as Part}

-- what one protocol answers; the conditions of a whole file find nothing in it
abbrev pub OfOwn : Condition → WrittenPart → Option Culprit → Type 0
OfOwn conditions.UnknownRole p = Judged (UnknownRole (roles_in p)) (mentions_in p)
OfOwn conditions.PeerIsSelf p = Judged (says.PeerIsSelf (me_in p)) (spots [] p.body)
OfOwn conditions.UnknownRec p = Judged says.UnknownRec (spots [] p.body)
OfOwn conditions.DuplicateRec p = Judged says.DuplicateRec (spots [] p.body)
OfOwn conditions.Unreachable p = Judged says.Unreachable (spots [] p.body)
OfOwn conditions.BranchStart p = Judged says.BranchStart (spots [] p.body)
OfOwn conditions.MixedChoice p = Judged (says.MixedChoice (me_in p)) (spots [] p.body)
OfOwn conditions.SameLabel p = Judged (says.SameLabel (me_in p)) (spots [] p.body)
OfOwn conditions.ReservedLabel p = Judged (says.ReservedLabel (me_in p)) (spots [] p.body)
OfOwn _ p = λ r. r ≡ None

-- the protocols of a file, as the program has them
abbrev pub all_parts : Written → List Part
all_parts w = w.first ∷ w.others.items

-- the first answer of several protocols, one after another
pub data FirstIn {P C : Type 0} (At : P → Option C → Type 0) : List P → Option C → Type 0 where
  none : FirstIn At [] None
  here : {p : P} {ps : List P} {c : C} → At p (Some c) → FirstIn At (p ∷ ps) (Some c)
  later : {p : P} {ps : List P} {r : Option C} → At p None → FirstIn At ps r → FirstIn At (p ∷ ps) r
