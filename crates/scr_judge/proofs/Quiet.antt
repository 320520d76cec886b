-- Walking with the names of the recs that are open and unguarded finds the first unguarded `continue`.
use Rattle.std.proofs.Common.{◌≡◌, ◌≢◌, ◌↔◌, Bool, true, false, ◌&&◌, ◌||◌, IsTrue, if◌then◌else◌, List, [], ◌∷◌, Option, Some, None}
use Rattle.std.proofs.Common.{Decides, refl, sym, subst, ◌∙◌, true≢false}
use Rattle.std.specs.Str.{bytes_eq}
use Rattle.std.proofs.lemmas.Slice.Eq.{bytes_eq-Decides}
use Rattle.mg_text.specs.Call.{Name}
use Rattle.mg_text.specs.declared.place.Place.{Place}
use Rattle.scr_tree.specs.Tree.{Statements, Nothing, Says, Choice, Rec, Continue, Do, Branches, NoBranch, Branch}
use Rattle.mg_read.specs.First.{Judged, clean, here, later}
use Rattle.mg_read.proofs.Judging.{judged-append}
use Rattle.scr_tree.specs.Spots.{Past, Opens, Enters, Way, Spot, spot, spots, branch_spots}
use Rattle.mg_read.specs.Culprit.{Culprit, culprit}
use Rattle.scr_tree.specs.Control.{passes, some_passes, Quietly, opened, past, opening, entering}
use Rattle.scr_tree.specs.Conditions.{Unguarded}
use Rattle.scr_judge.specs.inner.Names.{is_among}
use Rattle.scr_judge.specs.inner.Finding.{kept, unguarded, unguarded_in}
use Rattle.scr_judge.specs.inner.Round.{kept_goal}

-- the names are those from whose openings a path without a message leads here
pub record AreOpen (names : List Name) (way : Way) : Type 0 where
  pub each : (name : Name) → IsTrue (is_among name names) ↔ Quietly name way

-- what lies nearest on a path without a message
pub quietly_past : {name : Name} (w : Way) → Quietly name w → (s : Statements) (way : Way) → w ≡ Past s ∷ way →
    IsTrue (passes s) × Quietly name way
quietly_past w opened s way e = let no : ⊥ = cc in absurd no
quietly_past {name} w (past {s = t} {way = v} t_passes q) s way e =
    let same : t ≡ s = cc in let rest : v ≡ way = cc in (subst (λ x. IsTrue (passes x)) same t_passes, subst (Quietly name) rest q)
quietly_past w (opening q) s way e = let no : ⊥ = cc in absurd no
quietly_past w (entering q) s way e = let no : ⊥ = cc in absurd no

pub quietly_in : {name : Name} (w : Way) → Quietly name w → (at : Name) (earlier : List Statements) (way : Way) →
    w ≡ Enters at earlier ∷ way → Quietly name way
quietly_in w opened at earlier way e = let no : ⊥ = cc in absurd no
quietly_in w (past t_passes q) at earlier way e = let no : ⊥ = cc in absurd no
quietly_in w (opening q) at earlier way e = let no : ⊥ = cc in absurd no
quietly_in {name} w (entering {way = v} q) at earlier way e = let rest : v ≡ way = cc in subst (Quietly name) rest q

pub quietly_opened : {name : Name} (w : Way) → Quietly name w → (other : Name) (way : Way) → w ≡ Opens other ∷ way → (other ≢ name) →
    Quietly name way
quietly_opened {name} w (opened {way = v}) other way e differs = let same : other ≡ name = cc in absurd (differs same)
quietly_opened w (past t_passes q) other way e differs = let no : ⊥ = cc in absurd no
quietly_opened {name} w (opening {way = v} q) other way e differs = let rest : v ≡ way = cc in subst (Quietly name) rest q
quietly_opened w (entering q) other way e differs = let no : ⊥ = cc in absurd no

module _ {names : List Name} {way : Way} (h : AreOpen names way) where
  -- behind a statement
  pub past_open : (b : Bool) (s : Statements) → passes s ≡ b → AreOpen (kept b names) (Past s ∷ way)
  past_open true s e = record { each = λ n. (λ t. past e ((h.each n).0 t), λ q. (h.each n).1 (quietly_past _ q s way refl).1) }
  past_open false s e = record {
    each =
        λ n. (λ t. absurd (true≢false (sym t)), λ q. absurd (true≢false (sym (quietly_past _ q s way refl).0 ∙ e)));
  }

  -- in the body of a rec
  opens_one : (name q : Name) (t : Bool) → Decides t (q ≡ name) → IsTrue (t || is_among q names) ↔ Quietly q (Opens name ∷ way)
  opens_one name q true d = (λ _. subst (λ z. Quietly z (Opens name ∷ way)) (sym (d.0 refl)) opened, λ _. refl)
  opens_one name q false d =
      (λ i. opening ((h.each q).0 i), λ k. (h.each q).1 (quietly_opened _ k name way refl (λ same. true≢false (sym (d.1 (sym same))))))

  pub body_open : (name : Name) → AreOpen (name ∷ names) (Opens name ∷ way)
  body_open name = record { each = λ q. opens_one name q (bytes_eq q name) (bytes_eq-Decides q name) }

  -- in a branch
  pub branch_open : (at : Name) (earlier : List Statements) → AreOpen names (Enters at earlier ∷ way)
  branch_open at earlier = record { each = λ n. (λ t. entering ((h.each n).0 t), λ q. (h.each n).1 (quietly_in _ q at earlier way refl)) }

pub and_true : (b : Bool) → (b && true) ≡ b
and_true true = refl
and_true false = refl

found_or : (b : Bool) (names : List Name) (way : Way) (p : Place) (name : Name) (rest : Statements) (more : List Spot) (r : Option Culprit)
    → AreOpen names way → is_among name names ≡ b →
    Judged Unguarded more r → Judged Unguarded (spot way (Continue p name rest) ∷ more) (if b then Some (culprit p name) else r)
found_or true names way p name rest more r h e q = here (refl, (h.each name).0 e)
found_or false names way p name rest more r h e q = later (λ c x. true≢false (sym ((h.each name).1 x.1) ∙ e)) q

-- no name is sought
kept_none : (b : Bool) → kept_goal b None ≡ None
kept_none true = refl
kept_none false = refl

-- what is found behind statements does not ask whether they are passed
behind_none : (b : Bool) (names : List Name) (way : Way) (rest : Statements) → Judged Unguarded (spots way rest) (unguarded names None rest)
    →
    Judged Unguarded (spots way rest) (unguarded names (kept_goal b None) rest)
behind_none b names way rest j = subst (λ g. Judged Unguarded (spots way rest) (unguarded names g rest)) (sym (kept_none b)) j

mutual
  pub quiet_exact : (names : List Name) (way : Way) (ss : Statements) → AreOpen names way →
      Judged Unguarded (spots way ss) (unguarded names None ss)
  quiet_exact names way Nothing h = clean
  quiet_exact names way (Says m rest) h = later (λ c x. x) (quiet_exact [] _ rest (past_open h false (Says m Nothing) refl))
  quiet_exact names way (Choice p at bs rest) h =
      later (λ c x. x) (judged-append (quiet_exact_in names way at [] bs h)
      (behind_none (some_passes bs) (kept (some_passes bs) names) _ rest
      (quiet_exact (kept (some_passes bs) names) _ rest (past_open h (some_passes bs) (Choice p at bs Nothing) (and_true _)))))
  quiet_exact names way (Rec p name body rest) h =
      later (λ c x. x) (judged-append (quiet_exact (name ∷ names) _ body (body_open h name))
      (behind_none (passes body) (kept (passes body) names) _ rest
      (quiet_exact (kept (passes body) names) _ rest (past_open h (passes body) (Rec p name body Nothing) (and_true _)))))
  quiet_exact names way (Continue p name rest) h =
      found_or (is_among name names) names way p name rest _ _ h refl
      (quiet_exact [] _ rest (past_open h false (Continue p name Nothing) refl))
  quiet_exact names way (Do p name rest) h = later (λ c x. x) (quiet_exact [] _ rest (past_open h false (Do p name Nothing) refl))

  quiet_exact_in : (names : List Name) (way : Way) (at : Name) (earlier : List Statements) (bs : Branches) → AreOpen names way →
      Judged Unguarded (branch_spots way at earlier bs) (unguarded_in names None bs)
  quiet_exact_in names way at earlier NoBranch h = clean
  quiet_exact_in names way at earlier (Branch b more) h =
      judged-append (quiet_exact names _ b (branch_open h at earlier)) (quiet_exact_in names way at (b ∷ earlier) more h)

-- at the start of the text no rec is open
quietly_start : {name : Name} (w : Way) → Quietly name w → w ≡ [] → ⊥
quietly_start w opened e = cc
quietly_start w (past t_passes q) e = cc
quietly_start w (opening q) e = cc
quietly_start w (entering q) e = cc

pub start_open : AreOpen [] []
start_open = record { each = λ n. (λ t. absurd (true≢false (sym t)), λ q. absurd (quietly_start _ q refl)) }

-- what the walk over a whole text finds
pub first_unguarded : (ss : Statements) (r : Option Culprit) → r ≡ unguarded [] None ss → Judged Unguarded (spots [] ss) r
first_unguarded ss r e = subst (Judged Unguarded (spots [] ss)) (sym e) (quiet_exact [] [] ss start_open)
