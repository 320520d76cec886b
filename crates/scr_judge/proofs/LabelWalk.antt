-- Walking with the keys of the earlier branches finds the first that is shared.
use Rattle.std.proofs.Common.{◌≡◌, ◌↔◌, ⊎_elim, Bool, true, false, ◌||◌, IsTrue, if◌then◌else◌, List, [], ◌∷◌, map, Option, Some, None}
use Rattle.std.proofs.Common.{Contains, Decides, refl, sym, subst, ◌∙◌, true≢false}
use Rattle.std.specs.Option.{option_or}
use Rattle.std.specs.Str.{bytes_eq}
use Rattle.std.proofs.lemmas.Slice.Eq.{bytes_eq-Decides}
use Rattle.mg_text.specs.Call.{Name}
use Rattle.scr_tree.specs.declared.syntax.Message.{Message}
use Rattle.scr_tree.specs.Tree.{Statements, Nothing, Says, Choice, Rec, Continue, Do, Branches, NoBranch, Branch}
use Rattle.mg_read.specs.First.{Judged, clean, here, later}
use Rattle.mg_read.proofs.Judging.{judged-append}
use Rattle.scr_tree.specs.Spots.{Past, Enters, Way, spot, spots, branch_spots}
use Rattle.mg_read.specs.Culprit.{Culprit, culprit}
use Rattle.scr_tree.specs.Conditions.{key, first_key, SameLabel}
use Rattle.scr_judge.specs.inner.Finding.{head_fault, with_head, same, same_in}
use Rattle.scr_judge.specs.inner.Seen.{Names, none}
use Rattle.scr_judge.proofs.Members.{Contains-nil, Contains-cons_cases, Contains-first, Contains-later}

-- the names are the keys of branches
pub record AreKeys (me at : Name) (has : Names) (earlier : List Statements) : Type 0 where
  pub each : (q : Name) → IsTrue (has q) ↔ Contains (map (first_key me at) earlier) (Some q)

pub no_keys : (me at : Name) → AreKeys me at none []
no_keys me at = record { each = λ q. (λ t. absurd (true≢false (sym t)), λ h. absurd (Contains-nil (Some q) h)) }

-- one more option
one_more : (t : Bool) (k q : Name) (b : Bool) (os : List (Option Name)) → Decides t (k ≡ q) → IsTrue b ↔ Contains os (Some q) →
    IsTrue (t || b) ↔ Contains (Some k ∷ os) (Some q)
one_more true k q b os d h = (λ _. subst (λ z. Contains (Some k ∷ os) (Some z)) (d.0 refl) (Contains-first os (Some k)), λ _. refl)
one_more false k q b os d h = (
  λ i. Contains-later os (Some k) (Some q) (h.0 i),
  λ c. ⊎_elim (λ e. let same : k ≡ q = cc in absurd (true≢false (sym (d.1 same)))) h.1 (Contains-cons_cases os (Some k) (Some q) c),
)

none_more : (q : Name) (b : Bool) (os : List (Option Name)) → IsTrue b ↔ Contains os (Some q) → IsTrue b ↔ Contains (None ∷ os) (Some q)
none_more q b os h = (
  λ i. Contains-later os None (Some q) (h.0 i),
  λ c. ⊎_elim (λ e. let no : ⊥ = cc in absurd no) h.1
      (Contains-cons_cases os None (Some q) c),
)

or_assoc : (a b d : Option Culprit) → option_or (option_or a b) d ≡ option_or a (option_or b d)
or_assoc None b d = refl
or_assoc (Some c) b d = refl

module _ (me : Name) where
  module _ (at : Name) (has : Names) (earlier : List Statements) (h : AreKeys me at has earlier) where
    pub keys_more : (b : Statements) → AreKeys me at (with_head me at has b) (b ∷ earlier)
    keys_more Nothing = record { each = λ q. none_more q (has q) _ (h.each q) }
    keys_more (Says m rest) = record {
      each = λ q. one_more (bytes_eq (key me at m) q) (key me at m) q (has q) _
          (bytes_eq-Decides (key me at m) q) (h.each q);
    }
    keys_more (Choice p a bs rest) = record { each = λ q. none_more q (has q) _ (h.each q) }
    keys_more (Rec p n body rest) = record { each = λ q. none_more q (has q) _ (h.each q) }
    keys_more (Continue p n rest) = record { each = λ q. none_more q (has q) _ (h.each q) }
    keys_more (Do p n rest) = record { each = λ q. none_more q (has q) _ (h.each q) }

    -- a branch, where what is found in it is given
    said : (way : Way) (m : Message) (rest : Statements) (b : Bool) (r : Option Culprit) → has (key me at m) ≡ b →
        Judged (SameLabel me) (spots (Past (Says m Nothing) ∷ (Enters at earlier ∷ way)) rest) r →
        Judged (SameLabel me) (spots (Enters at earlier ∷ way) (Says m rest))
        (option_or (if b then Some (culprit m.place m.label) else None) r)
    said way m rest true r e j = here (refl, (h.each (key me at m)).0 e)
    said way m rest false r e j = later (λ c x. true≢false (sym ((h.each (key me at m)).1 x.1) ∙ e)) j

  mutual
    pub same_exact : (way : Way) (ss : Statements) → ((c : Culprit) → SameLabel me (spot way ss) c → ⊥) →
        Judged (SameLabel me) (spots way ss) (same me ss)
    same_exact way Nothing h = clean
    same_exact way (Says m rest) h = later h (same_exact _ rest (λ c x. x))
    same_exact way (Choice p at bs rest) h =
        later h (judged-append (same_exact_in way at none [] (no_keys me at) bs) (same_exact _ rest (λ c x. x)))
    same_exact way (Rec p name body rest) h = later h (judged-append (same_exact _ body (λ c x. x)) (same_exact _ rest (λ c x. x)))
    same_exact way (Continue p name rest) h = later h (same_exact _ rest (λ c x. x))
    same_exact way (Do p name rest) h = later h (same_exact _ rest (λ c x. x))

    branch_exact : (way : Way) (at : Name) (has : Names) (earlier : List Statements) → AreKeys me at has earlier → (b : Statements) →
        Judged (SameLabel me) (spots (Enters at earlier ∷ way) b) (option_or (head_fault me at has b) (same me b))
    branch_exact way at has earlier h Nothing = clean
    branch_exact way at has earlier h (Says m rest) = said at has earlier h way m rest (has (key me at m)) (same me rest) refl
        (same_exact _ rest (λ c x. x))
    branch_exact way at has earlier h (Choice p a bs rest) =
        later (λ c x. x) (judged-append (same_exact_in _ a none [] (no_keys me a) bs) (same_exact _ rest (λ c x. x)))
    branch_exact way at has earlier h (Rec p name body rest) =
        later (λ c x. x) (judged-append (same_exact _ body (λ c x. x)) (same_exact _ rest (λ c x. x)))
    branch_exact way at has earlier h (Continue p name rest) = later (λ c x. x) (same_exact _ rest (λ c x. x))
    branch_exact way at has earlier h (Do p name rest) = later (λ c x. x) (same_exact _ rest (λ c x. x))

    pub same_exact_in : (way : Way) (at : Name) (has : Names) (earlier : List Statements) → AreKeys me at has earlier → (bs : Branches) →
        Judged (SameLabel me) (branch_spots way at earlier bs) (same_in me at has bs)
    same_exact_in way at has earlier h NoBranch = clean
    same_exact_in way at has earlier h (Branch b more) =
        subst (Judged (SameLabel me) (branch_spots way at earlier (Branch b more))) (or_assoc (head_fault me at has b) (same me b) _)
        (judged-append (branch_exact way at has earlier h b) (same_exact_in way at (with_head me at has b) (b ∷ earlier)
        (keys_more at has earlier h b) more))

  -- what the walk over a whole text finds
  pub first_same : (ss : Statements) (r : Option Culprit) → r ≡ same me ss → Judged (SameLabel me) (spots [] ss) r
  first_same ss r e = subst (Judged (SameLabel me) (spots [] ss)) (sym e) (same_exact [] ss (λ c x. x))
