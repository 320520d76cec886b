-- What a valid global protocol gives of each of its statements.
use Rattle.std.proofs.Common.{◌≡◌, ◌≢◌, List, [], ◌∷◌, ◌++◌, Bool, true, false, refl, inl, inr, ⊎_elim, sym}
use Rattle.std.specs.Prelude.{Contains}
use Rattle.mg_text.specs.Call.{Name}
use Rattle.mg_read.specs.Culprit.{Culprit, culprit}
use Rattle.mg_read.specs.First.{Clean}
use Rattle.scr_tree.specs.Words.{IsName}
use Rattle.scr_global.specs.Projecting.{is_among}
use Rattle.scr_global.specs.Tree.{Told, Statements, Nothing, Says, Choice, Rec, Continue, Branches, NoBranch, Branch}
use Rattle.scr_global.specs.Spots.{Past, Opens, Enters, Way, spot, spots, branch_spots}
use Rattle.scr_global.specs.Conditions.{UnknownRole, PeerIsSelf, UnknownRec, DuplicateRec}
use Rattle.scr_global.proofs.Names.{true_or_false, first_or_later, none_contained, first_in, later_in}
use Rattle.scr_global.proofs.Tests.{among_is, is_among_it}
use Rattle.scr_global.proofs.Guarding.{clean_front, clean_behind}
use Rattle.scr_global_tree.specs.Valid.{AreWritten, AreWrittenIn, HasBranches}

-- what isn't missing from a list is in it
pub contained : (ns : List Name) (name : Name) → ((Contains ns name → ⊥) → ⊥) → Contains ns name
contained ns name h =
    ⊎_elim (λ e. among_is ns name e) (λ e. absurd (h (λ c. let f : is_among ns name ≡ true = is_among_it ns name c in cc)))
    (true_or_false (is_among ns name))

-- the names are those of the recs that open on the way
pub record AreOnWay (names : List Name) (way : Way) : Type 0 where
  pub names_of : (name : Name) → Contains way (Opens name) → Contains names name
  pub opens_of : (name : Name) → Contains names name → Contains way (Opens name)

pub none_on_way : AreOnWay [] []
none_on_way = record { names_of = λ name c. absurd (none_contained (Opens name) c); opens_of = λ name c. absurd (none_contained name c) }

module _ {names : List Name} {way : Way} (a : AreOnWay names way) where
  pub past_way : (s : Statements) → AreOnWay names (Past s ∷ way)
  past_way s = record {
    names_of = λ name c. ⊎_elim (λ (e : Past s ≡ Opens name). cc e) (λ d. a.names_of name d) (first_or_later (Past s) way (Opens name) c);
    opens_of = λ name c. later_in (Past s) way (Opens name) (a.opens_of name c);
  }

  pub enters_way : (at : Name) (earlier : List Statements) → AreOnWay names (Enters at earlier ∷ way)
  enters_way at earlier = record {
    names_of = λ name c. ⊎_elim (λ (e : Enters at earlier ≡ Opens name). cc e) (λ d. a.names_of name d)
        (first_or_later (Enters at earlier) way (Opens name) c);
    opens_of = λ name c. later_in (Enters at earlier) way (Opens name) (a.opens_of name c);
  }

  pub opens_way : (other : Name) → AreOnWay (other ∷ names) (Opens other ∷ way)
  opens_way other = record {
    names_of = λ name c. ⊎_elim (λ (e : Opens other ≡ Opens name). let f : other ≡ name = cc e in first_in other names name f)
        (λ d. later_in other names name (a.names_of name d))
        (first_or_later (Opens other) way (Opens name) c);
    opens_of = λ name c. ⊎_elim (λ (e : other ≡ name). let f : Opens other ≡ Opens name = cc e in first_in (Opens other) way (Opens name) f)
        (λ d. later_in (Opens other) way (Opens name) (a.opens_of name d)) (first_or_later other names name c);
  }

module _ (roles : List Name) where
  abbrev mutual
    -- names are names, roles are listed and differ, and recs are known and differ from those around
    pub Sound : List Name → Statements → Type 0
    Sound names Nothing = Unit {0}
    Sound names (Says m rest) = IsName m.label × IsName m.from × IsName m.to × Contains roles m.from × Contains roles m.to × (m.from ≢ m.to)
        × Sound names rest
    Sound names (Choice place at branches rest) = IsName at × Contains roles at × HasBranches branches × AreSound names branches
        × Sound names rest
    Sound names (Rec place name body rest) = IsName name × (Contains names name → ⊥) × Sound (name ∷ names) body × Sound names rest
    Sound names (Continue place name rest) = IsName name × Contains names name × Sound names rest

    pub AreSound : List Name → Branches → Type 0
    AreSound names NoBranch = Unit {0}
    AreSound names (Branch b more) = Sound names b × AreSound names more

  mutual
    pub are_sound : (names : List Name) (way : Way) (t : Statements) → AreOnWay names way → AreWritten t →
        Clean (UnknownRole roles) (spots way t) → Clean PeerIsSelf (spots way t) →
        Clean UnknownRec (spots way t) → Clean DuplicateRec (spots way t) → Sound names t
    are_sound names way Nothing a w u s k d = tt
    are_sound names way (Says m rest) a w u s k d =
        let from : Contains roles m.from = contained roles m.from (λ n. u.0 (culprit m.place m.from) (inl (refl, n))) in (
          w.0,
          w.1,
          w.2,
          from,
          contained roles m.to (λ n. u.0 (culprit m.place m.to) (inr (refl, from, n))),
          (λ e. s.0 (culprit m.place []) (refl, e)),
          are_sound names _ rest (past_way a (Says m Nothing)) w.3 u.1 s.1 k.1 d.1,
        )
    are_sound names way (Choice place at branches rest) a w u s k d =
        let inner = branch_spots way at [] branches in let later = spots (Past (Choice place at branches Nothing) ∷ way) rest in (
          w.0,
          contained roles at (λ n. u.0 (culprit place at) (refl, n)),
          w.1,
          branches_sound names way at [] branches a w.2 (clean_front (UnknownRole roles) inner later u.1)
              (clean_front PeerIsSelf inner later s.1)
              (clean_front UnknownRec inner later k.1) (clean_front DuplicateRec inner later d.1),
          are_sound names _ rest (past_way a (Choice place at branches Nothing)) w.3 (clean_behind (UnknownRole roles) inner later u.1)
              (clean_behind PeerIsSelf inner later s.1)
              (clean_behind UnknownRec inner later k.1) (clean_behind DuplicateRec inner later d.1),
        )
    are_sound names way (Rec place name body rest) a w u s k d =
        let inner = spots (Opens name ∷ way) body in let later = spots (Past (Rec place name body Nothing) ∷ way) rest in (
          w.0,
          (λ c. d.0 (culprit place name) (refl, a.opens_of name c)),
          are_sound (name ∷ names) _ body (opens_way a name) w.1 (clean_front (UnknownRole roles) inner later u.1)
              (clean_front PeerIsSelf inner later s.1)
              (clean_front UnknownRec inner later k.1) (clean_front DuplicateRec inner later d.1),
          are_sound names _ rest (past_way a (Rec place name body Nothing)) w.2 (clean_behind (UnknownRole roles) inner later u.1)
              (clean_behind PeerIsSelf inner later s.1)
              (clean_behind UnknownRec inner later k.1) (clean_behind DuplicateRec inner later d.1),
        )
    are_sound names way (Continue place name rest) a w u s k d = (
      w.0,
      contained names name (λ n. k.0 (culprit place name) (refl, λ c. n (a.names_of name c))),
      are_sound names _ rest (past_way a (Continue place name Nothing)) w.1 u.1 s.1 k.1 d.1,
    )

    branches_sound : (names : List Name) (way : Way) (at : Name) (earlier : List Statements) (bs : Branches) → AreOnWay names way →
        AreWrittenIn bs →
        Clean (UnknownRole roles) (branch_spots way at earlier bs) → Clean PeerIsSelf (branch_spots way at earlier bs) →
        Clean UnknownRec (branch_spots way at earlier bs) → Clean DuplicateRec (branch_spots way at earlier bs) → AreSound names bs
    branches_sound names way at earlier NoBranch a w u s k d = tt
    branches_sound names way at earlier (Branch b more) a w u s k d =
        let inner = spots (Enters at earlier ∷ way) b in let others = branch_spots way at (b ∷ earlier) more in (
          are_sound names _ b (enters_way a at earlier) w.0 (clean_front (UnknownRole roles) inner others u)
              (clean_front PeerIsSelf inner others s)
              (clean_front UnknownRec inner others k) (clean_front DuplicateRec inner others d),
          branches_sound names way at (b ∷ earlier) more a w.1 (clean_behind (UnknownRole roles) inner others u)
              (clean_behind PeerIsSelf inner others s)
              (clean_behind UnknownRec inner others k) (clean_behind DuplicateRec inner others d),
        )
