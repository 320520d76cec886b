-- The protocols of a program are of different roles.
use Rattle.std.proofs.Common.{zero, suc, List, [], ◌∷◌, ◌++◌, Contains, None, refl, arith}
use Rattle.std.proofs.lemmas.List.Elements.{Contains-append_left, Contains-push}
use Rattle.mg_text.specs.Call.{Name}
use Rattle.mg_read.specs.First.{Judged, Clean, behind, with_earlier}
use Rattle.mg_read.proofs.Judging.{judged-clean}
use Rattle.scr_tree.specs.Valid.{AreDistinct}
use Rattle.mg_sources.specs.Files.{Source}
use Rattle.mg_sources.specs.Reading.{Part, Protocol, States, Classes, EachSpells}
use Rattle.mg_sources.specs.Sources.{IsOfRole, SharesRole}
use Rattle.mg_fits.specs.Parts.{roles_in}

-- no later file is of the role of an earlier one
no_later : (seen fs : List Source) (ps : List Part) → EachSpells fs ps → Clean SharesRole (behind seen fs) → (f : Source) (role : Name) →
    Contains seen f → IsOfRole f role → Contains (roles_in ps) role → ⊥
no_later seen [] [] each clean f role there of has = let (k, lt, is) = has in omega arith
no_later seen [] (p ∷ ps) each clean f role there of has = each
no_later seen (e ∷ es) [] each clean f role there of has = each
no_later seen (e ∷ es) (Protocol l ∷ ps) (first, rest) clean f role there of (zero, lt, is) =
    clean.0 _ (record {
      role = role;
      of_role = (l, first, is);
      earlier = f;
      stands = there;
      also = of;
      said = refl;
    })
no_later seen (e ∷ es) (Protocol l ∷ ps) (first, rest) clean f role there of (suc k, lt, is) =
    no_later (seen ++ e ∷ []) es ps rest clean.1 f role (Contains-append_left seen (e ∷ []) f there) of (k, omega arith, is)
no_later seen (e ∷ es) (States t ∷ ps) (first, rest) clean f role there of has =
    no_later (seen ++ e ∷ []) es ps rest clean.1 f role (Contains-append_left seen (e ∷ []) f there) of has
no_later seen (e ∷ es) (Classes c ∷ ps) (first, rest) clean f role there of has =
    no_later (seen ++ e ∷ []) es ps rest clean.1 f role (Contains-append_left seen (e ∷ []) f there) of has

differ : (seen fs : List Source) (ps : List Part) → EachSpells fs ps → Clean SharesRole (behind seen fs) → AreDistinct (roles_in ps)
differ seen [] [] each clean = tt
differ seen [] (p ∷ ps) each clean = absurd each
differ seen (e ∷ es) [] each clean = absurd each
differ seen (e ∷ es) (Protocol l ∷ ps) (first, rest) clean = (
  no_later (seen ++ e ∷ []) es ps rest clean.1 e l.me (Contains-push seen e) (l, first, refl),
  differ (seen ++ e ∷ []) es ps rest clean.1,
)
differ seen (e ∷ es) (States t ∷ ps) (first, rest) clean = differ (seen ++ e ∷ []) es ps rest clean.1
differ seen (e ∷ es) (Classes c ∷ ps) (first, rest) clean = differ (seen ++ e ∷ []) es ps rest clean.1

pub roles_differ : (fs : List Source) (ps : List Part) → EachSpells fs ps → Judged SharesRole (with_earlier fs) None →
    AreDistinct (roles_in ps)
roles_differ fs ps each apart = differ [] fs ps each (judged-clean apart)
