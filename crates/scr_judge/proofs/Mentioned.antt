-- Where roles are named that are not listed: first the role itself, and then in the statements.
use Rattle.std.proofs.Common.{◌≡◌, ◌↔◌, IsTrue, false, List, [], ◌∷◌, map, Option, Some, None, Contains, sym, ap, ◌∙◌, true, true≢false}
use Rattle.mg_text.specs.Call.{Name}
use Rattle.mg_read.specs.Culprit.{Culprit, culprit}
use Rattle.mg_read.specs.First.{Judged, here, later}
use Rattle.mg_read.proofs.Judging.{judged-map}
use Rattle.scr_tree.specs.declared.written.Role.{Role}
use Rattle.scr_tree.specs.Listing.{UnknownRole, itself, within}
use Rattle.scr_tree.specs.Conditions as says
use Rattle.scr_tree.specs.Spots.{spots}
use Rattle.scr_tree.specs.Tree.{Statements}
use Rattle.scr_judge.specs.inner.Seen.{Names}
use Rattle.scr_judge.specs.inner.OnSpot.{asks_role, walk}
use Rattle.scr_judge.proofs.SpotWalk.{first_asked}
use Rattle.scr_judge.proofs.Asking.{role_right}

module _ (roles : List Name) (has : Names) (h : (q : Name) → IsTrue (has q) ↔ Contains roles q) (me : Role) (body : Statements) where
  pub itself_unlisted : (name : Name) → name ≡ me.name → has name ≡ false →
      Judged (UnknownRole roles) (itself me ∷ map within (spots [] body)) (Some (culprit me.place name))
  itself_unlisted name same e = here (ap (culprit me.place) same, λ listed. true≢false (sym ((h me.name).1 listed) ∙ ap has (sym same) ∙ e))

  pub unlisted_behind : (name : Name) → name ≡ me.name → has name ≡ true → (r : Option Culprit) → r ≡ walk (asks_role has) None [] body →
      Judged (UnknownRole roles) (itself me ∷ map within (spots [] body)) r
  unlisted_behind name same e r found =
      later (λ c a. a.1 ((h me.name).0 (ap has (sym same) ∙ e)))
      (judged-map within (λ s c a. a) (λ s c a. a) (first_asked (says.UnknownRole roles) (asks_role has) (role_right roles has h) body r
      found))
