-- A walk that asks each statement finds the first culprit, where the answer at each statement is right.
use Rattle.std.proofs.Common.{◌≡◌, ◌↔◌, ⊎_elim, Bool, true, false, ◌||◌, IsTrue, List, [], ◌∷◌, Option, Some, None, Contains, Decides, refl}
use Rattle.std.proofs.Common.{sym, subst, true≢false}
use Rattle.std.specs.Option.{option_or}
use Rattle.std.specs.Str.{bytes_eq}
use Rattle.std.proofs.lemmas.Slice.Eq.{bytes_eq-Decides}
use Rattle.mg_text.specs.Call.{Name}
use Rattle.scr_tree.specs.Tree.{Statements, Nothing, Says, Choice, Rec, Continue, Do, Branches, NoBranch, Branch}
use Rattle.mg_read.specs.First.{Judged, clean, here, later}
use Rattle.mg_read.proofs.Judging.{judged-append}
use Rattle.scr_tree.specs.Spots.{Past, Opens, Enters, Way, Spot, spot, spots, branch_spots}
use Rattle.mg_read.specs.Culprit.{Culprit}
use Rattle.scr_judge.specs.inner.Names.{is_among}
use Rattle.scr_judge.specs.inner.OnSpot.{Asks, walk, walk_in}
use Rattle.scr_judge.proofs.Members.{Contains-nil, Contains-cons_cases, Contains-first, Contains-later}

-- the names are those of the recs around
pub record AreAround (around : List Name) (way : Way) : Type 0 where
  pub each : (q : Name) → IsTrue (is_among q around) ↔ Contains way (Opens q)

pub none_around : AreAround [] []
none_around = record { each = λ q. (λ t. absurd (true≢false (sym t)), λ c. absurd (Contains-nil (Opens q) c)) }

module _ {around : List Name} {way : Way} (h : AreAround around way) where
  pub around_past : (s : Statements) → AreAround around (Past s ∷ way)
  around_past s = record {
    each = λ q. (
      λ t. Contains-later way (Past s) (Opens q) ((h.each q).0 t),
      λ c. ⊎_elim (λ e. let no : ⊥ = cc in absurd no) (h.each q).1
          (Contains-cons_cases way (Past s) (Opens q) c),
    );
  }

  pub around_enters : (at : Name) (earlier : List Statements) → AreAround around (Enters at earlier ∷ way)
  around_enters at earlier = record {
    each = λ q. (
      λ t. Contains-later way (Enters at earlier) (Opens q) ((h.each q).0 t),
      λ c. ⊎_elim (λ e. let no : ⊥ = cc in absurd no) (h.each q).1 (Contains-cons_cases way (Enters at earlier) (Opens q) c),
    );
  }

  opens_one : (name q : Name) (t : Bool) → Decides t (q ≡ name) → IsTrue (t || is_among q around) ↔ Contains (Opens name ∷ way) (Opens q)
  opens_one name q true d = (
    λ _. subst (λ z. Contains (Opens name ∷ way) (Opens z)) (sym (d.0 refl)) (Contains-first way (Opens name)),
    λ _. refl,
  )
  opens_one name q false d = (
    λ i. Contains-later way (Opens name) (Opens q) ((h.each q).0 i),
    λ c. ⊎_elim (λ e. let same : name ≡ q = cc in absurd (true≢false (sym (d.1 (sym same))))) (h.each q).1
        (Contains-cons_cases way (Opens name) (Opens q) c),
  )

  pub around_opens : (name : Name) → AreAround (name ∷ around) (Opens name ∷ way)
  around_opens name = record { each = λ q. opens_one name q (bytes_eq q name) (bytes_eq-Decides q name) }

-- the choice whose branch begins here
abbrev pub beginning : Way → Option Name
beginning (Enters at earlier ∷ way) = Some at
beginning _ = None

-- the answer at one place
abbrev pub Answers : (Culprit → Type 0) → Option Culprit → Type 0
Answers P None = (c : Culprit) → P c → ⊥
Answers P (Some c) = P c

module _ (At : Spot → Culprit → Type 0) (ask : Asks) where
  -- the answers at statements are right
  pub record AsksRight : Type 0 where
    pub asks : (around : List Name) (way : Way) (ss : Statements) → AreAround around way →
        Answers (At (spot way ss)) (ask (beginning way) around ss)

  asked : (s : Spot) (o r : Option Culprit) (more : List Spot) → Answers (At s) o → Judged At more r → Judged At (s ∷ more) (option_or o r)
  asked s None r more a j = later a j
  asked s (Some c) r more a j = here a

  module _ (right : AsksRight) where
    mutual
      pub walk_exact : (around : List Name) (way : Way) (ss : Statements) → AreAround around way →
          Judged At (spots way ss) (walk ask (beginning way) around ss)
      walk_exact around way Nothing h = clean
      walk_exact around way (Says m rest) h =
          asked _ (ask (beginning way) around (Says m rest)) _ _ (right.asks around way _ h)
          (walk_exact around _ rest (around_past h (Says m Nothing)))
      walk_exact around way (Choice p at bs rest) h =
          asked _ (ask (beginning way) around (Choice p at bs rest)) _ _ (right.asks around way _ h)
          (judged-append (walk_exact_in around way at [] bs h) (walk_exact around _ rest (around_past h (Choice p at bs Nothing))))
      walk_exact around way (Rec p name body rest) h =
          asked _ (ask (beginning way) around (Rec p name body rest)) _ _ (right.asks around way _ h)
          (judged-append (walk_exact (name ∷ around) _ body (around_opens h name))
          (walk_exact around _ rest (around_past h (Rec p name body Nothing))))
      walk_exact around way (Continue p name rest) h =
          asked _ (ask (beginning way) around (Continue p name rest)) _ _ (right.asks around way _ h)
          (walk_exact around _ rest (around_past h (Continue p name Nothing)))
      walk_exact around way (Do p name rest) h =
          asked _ (ask (beginning way) around (Do p name rest)) _ _ (right.asks around way _ h)
          (walk_exact around _ rest (around_past h (Do p name Nothing)))

      walk_exact_in : (around : List Name) (way : Way) (at : Name) (earlier : List Statements) (bs : Branches) → AreAround around way →
          Judged At (branch_spots way at earlier bs) (walk_in ask at around bs)
      walk_exact_in around way at earlier NoBranch h = clean
      walk_exact_in around way at earlier (Branch b more) h = judged-append (walk_exact around _ b (around_enters h at earlier))
          (walk_exact_in around way at (b ∷ earlier) more h)

    -- what the walk over a whole text finds
    pub first_asked : (ss : Statements) (r : Option Culprit) → r ≡ walk ask None [] ss → Judged At (spots [] ss) r
    first_asked ss r e = subst (Judged At (spots [] ss)) (sym e) (walk_exact [] [] ss none_around)
