-- A walk that asks each statement finds the first culprit, where the answer at each statement is right.
use Rattle.std.proofs.Common.{◌≡◌, ◌↔◌, ◌⊎◌, inl, inr, ⊎_elim, Bool, true, false, not, IsTrue, List, [], ◌∷◌, ◌++◌, Option, Some, None}
use Rattle.std.proofs.Common.{Contains, refl, sym, subst, ◌∙◌, true≢false}
use Rattle.std.specs.Option.{option_or}
use Rattle.std.specs.Str.{bytes_eq}
use Rattle.std.proofs.lemmas.Slice.Eq.{bytes_eq-Decides}
use Rattle.mg_text.specs.Call.{Name}
use Rattle.mg_text.specs.declared.place.Place.{Place}
use Rattle.mg_read.specs.Culprit.{Culprit, culprit}
use Rattle.mg_read.specs.First.{Judged, clean, here, later}
use Rattle.mg_read.proofs.Judging.{judged-append}
use Rattle.scr_judge.specs.inner.OnSpot.{unless}
use Rattle.scr_judge.specs.inner.Seen.{Names}
use Rattle.scr_global.specs.Tree.{Told, Statements, Nothing, Says, Choice, Rec, Continue, Branches, NoBranch, Branch}
use Rattle.scr_global.specs.Spots.{Past, Opens, Enters, Way, Spot, spot, spots, branch_spots}
use Rattle.scr_global.specs.Conditions.{UnknownRole, PeerIsSelf}
use Rattle.scr_global_judge.specs.inner.Roles.{unknown_in, unknown_role, peer_is_self, walk, walk_in}

-- the answer at one place
abbrev Answers : (Culprit → Type 0) → Option Culprit → Type 0
Answers P None = (c : Culprit) → P c → ⊥
Answers P (Some c) = P c

module _ (At : Spot → Culprit → Type 0) (ask : Statements → Option Culprit) where
  asked : (s : Spot) (o r : Option Culprit) (more : List Spot) → Answers (At s) o → Judged At more r → Judged At (s ∷ more) (option_or o r)
  asked s None r more a j = later a j
  asked s (Some c) r more a j = here a

  module _ (right : (way : Way) (ss : Statements) → Answers (At (spot way ss)) (ask ss)) where
    mutual
      walk_exact : (way : Way) (ss : Statements) → Judged At (spots way ss) (walk ask ss)
      walk_exact way Nothing = clean
      walk_exact way (Says m rest) = asked _ (ask (Says m rest)) _ _ (right way _) (walk_exact _ rest)
      walk_exact way (Choice p at bs rest) = asked _ (ask (Choice p at bs rest)) _ _ (right way _)
          (judged-append (walk_exact_in way at [] bs) (walk_exact _ rest))
      walk_exact way (Rec p name body rest) = asked _ (ask (Rec p name body rest)) _ _ (right way _)
          (judged-append (walk_exact _ body) (walk_exact _ rest))
      walk_exact way (Continue p name rest) = asked _ (ask (Continue p name rest)) _ _ (right way _) (walk_exact _ rest)

      walk_exact_in : (way : Way) (at : Name) (earlier : List Statements) (bs : Branches) → Judged At (branch_spots way at earlier bs)
          (walk_in ask bs)
      walk_exact_in way at earlier NoBranch = clean
      walk_exact_in way at earlier (Branch b more) = judged-append (walk_exact _ b) (walk_exact_in way at (b ∷ earlier) more)

    pub first_asked : (ss : Statements) (r : Option Culprit) → r ≡ walk ask ss → Judged At (spots [] ss) r
    first_asked ss r e = subst (Judged At (spots [] ss)) (sym e) (walk_exact [] ss)

-- ---- roles that are listed

module _ (roles : List Name) (has : Names) (h : (q : Name) → IsTrue (has q) ↔ Contains roles q) where
  pair_right : (way : Way) (m : Told) (rest : Statements) (a b : Bool) → has m.from ≡ a → has m.to ≡ b →
      Answers (UnknownRole roles (spot way (Says m rest))) (option_or (unless a (culprit m.place m.from)) (unless b (culprit m.place m.to)))
  pair_right way m rest false b e f = inl (refl, λ c. true≢false (sym ((h m.from).1 c) ∙ e))
  pair_right way m rest true false e f = inr (refl, (h m.from).0 e, λ c. true≢false (sym ((h m.to).1 c) ∙ f))
  pair_right way m rest true true e f = λ c x. ⊎_elim (λ y. y.1 ((h m.from).0 e)) (λ y. y.2 ((h m.to).0 f)) x

  at_right : (place : Place) (at : Name) (a : Bool) → has at ≡ a → Answers (λ c. (c ≡ culprit place at) × (Contains roles at → ⊥))
      (unless a (culprit place at))
  at_right place at false e = (refl, λ c. true≢false (sym ((h at).1 c) ∙ e))
  at_right place at true e = λ c x. x.1 ((h at).0 e)

  pub role_right : (way : Way) (ss : Statements) → Answers (UnknownRole roles (spot way ss)) (unknown_role has ss)
  role_right way Nothing = λ c x. x
  role_right way (Says m rest) = pair_right way m rest (has m.from) (has m.to) refl refl
  role_right way (Choice p at bs rest) = at_right p at (has at) refl
  role_right way (Rec p name body rest) = λ c x. x
  role_right way (Continue p name rest) = λ c x. x

  pub first_unknown : (ss : Statements) (r : Option Culprit) → r ≡ walk (unknown_role has) ss → Judged (UnknownRole roles) (spots [] ss) r
  first_unknown = first_asked (UnknownRole roles) (unknown_role has) role_right

-- ---- roles that differ

apart : (place : Place) (from to : Name) (b : Bool) → bytes_eq from to ≡ b → Answers (λ c. (c ≡ culprit place []) × (from ≡ to))
    (unless (not b) (culprit place []))
apart place from to true e = (refl, (bytes_eq-Decides from to).0 e)
apart place from to false e = λ c x. true≢false (sym ((bytes_eq-Decides from to).1 x.1) ∙ e)

self_right : (way : Way) (ss : Statements) → Answers (PeerIsSelf (spot way ss)) (peer_is_self ss)
self_right way Nothing = λ c x. x
self_right way (Says m rest) = apart m.place m.from m.to (bytes_eq m.from m.to) refl
self_right way (Choice p at bs rest) = λ c x. x
self_right way (Rec p name body rest) = λ c x. x
self_right way (Continue p name rest) = λ c x. x

pub first_self : (ss : Statements) (r : Option Culprit) → r ≡ walk peer_is_self ss → Judged PeerIsSelf (spots [] ss) r
first_self = first_asked PeerIsSelf peer_is_self self_right
