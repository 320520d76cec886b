-- How statements one after another are left, and the groups of a switch.
use Rattle.std.proofs.Common.{◌≡◌, ℕ, ◌+◌, ◌<◌, ◌≤◌, List, ◌∷◌, map, length, drop, get_or, Option, Bool, true, false, ◌&&◌, ◌||◌, refl, sym}
use Rattle.std.proofs.Common.{ap, ◌∙◌}
use Rattle.std.specs.List.{list_any}
use Rattle.std.proofs.Math.Bool.{or-false}
use Rattle.std.proofs.Math.ListN.{drop_of_length-le}
use Rattle.mg_text.specs.Call.{Name}
use Rattle.mg_text.specs.declared.place.Place.{Place}
use Rattle.jv_tree.specs.declared.tree.Stmt.{Stmt as KeptStmt}
use Rattle.jv_tree.specs.declared.tree.StmtKind.{StmtKind as KeptStmtKind}
use Rattle.jv_tree.specs.declared.tree.Group.{Group as KeptGroup, out-Group}
use Rattle.jv_tree.specs.Source.{Stmt, Stmts, Groups, NoGroup, Group}
use Rattle.jv_tree.specs.View.{stmt_of, stmts_of, group_of, groups_of, stmt_kind_of}
use Rattle.jv_tree.proofs.ViewLaws.{stmt_of-is}
use Rattle.jv_rules.specs.Completes.{Through, Breaks, Continues}
use Rattle.jv_rules.specs.inner.Leaving.{is_default, has_default, leaves, leaves_all, leaves_some, leaves_last}
use Rattle.jv_types.specs.declared.exits.Jumps.{Jumps}
use Rattle.jv_types.specs.inner.Exits.{Met, jumps, both, jumps_by, Adds, last_or}
use Rattle.jv_types.proofs.AtIndex.{drop_at}
use Rattle.jv_types.proofs.Choosing.{group_of-is}
use Rattle.jv_types.proofs.ExitSteps.{both_none, both_assoc}

-- a statement is what it says
pub stmt_is : (x : KeptStmt) (k : KeptStmtKind) (y : Stmt) → x.kind ≡ k → stmt_kind_of k x.place ≡ y → y ≡ stmt_of x
stmt_is x k y is says = sym (stmt_of-is x ∙ ap (λ z. stmt_kind_of z x.place) is ∙ says)

-- what is left of statements leaves as all do
pub record AreLeft (all rest : Stmts) (before now : Met) : Type 0 where
  pub through : leaves_all all Through ≡ leaves_all rest Through
  pub exits : (l : Option Name) → both (before l) (jumps_by (leaves_all all) l) ≡ both (now l) (jumps_by (leaves_all rest) l)

module _ (all : Stmts) (before : Met) where
  pub left_start : AreLeft all all before before
  left_start = record { through = refl; exits = λ l. refl }

  module _ (now : Met) (xs : List KeptStmt) (i : ℕ) where
    pub left_done : length xs ≤ i → AreLeft all (stmts_of (map stmt_of (drop i xs))) before now → (leaves_all all Through ≡ true)
        × Adds (leaves_all all) before now
    left_done past h =
        let none = drop_of_length-le xs past in (
          h.through ∙ ap (λ (ys : List KeptStmt). leaves_all (stmts_of (map stmt_of ys)) Through) none,
          λ l. sym (h.exits l ∙ ap (λ (ys : List KeptStmt). both (now l) (jumps_by (leaves_all (stmts_of (map stmt_of ys))) l)) none ∙
              both_none (now l)),
        )

    module _ (x : KeptStmt) (within : i < length xs) (is : x ≡ get_or xs i x) (new : Met)
        (h : AreLeft all (stmts_of (map stmt_of (drop i xs))) before now) (adds : Adds (leaves (stmt_of x)) now new) where
      abbrev more : Stmts
      more = stmts_of (map stmt_of (drop (i + 1) xs))

      -- the statement, and the others where it completes
      abbrev onward : Bool → Option Name → Stmts → Jumps
      onward b l rest = jumps (leaves (stmt_of x) (Breaks l) || (b && leaves_all rest (Breaks l)))
          (leaves (stmt_of x) (Continues l) || (b && leaves_all rest (Continues l)))

      through_is : (b : Bool) → leaves (stmt_of x) Through ≡ b → leaves_all all Through ≡ (b && leaves_all more Through)
      through_is b e = h.through ∙ ap (λ (ys : List KeptStmt). leaves_all (stmts_of (map stmt_of ys)) Through) (drop_at xs i x within is) ∙
          ap (λ c. c && leaves_all more Through) e

      exits_are : (b : Bool) → leaves (stmt_of x) Through ≡ b → (l : Option Name) → both (before l) (jumps_by (leaves_all all) l) ≡ both
          (now l) (onward b l more)
      exits_are b e l =
          h.exits l ∙ ap (λ (ys : List KeptStmt). both (now l) (jumps_by (leaves_all (stmts_of (map stmt_of ys))) l))
          (drop_at xs i x within is)
          ∙ ap (λ c. both (now l) (onward c l more)) e

      pub left_more : leaves (stmt_of x) Through ≡ true → AreLeft all more before new
      left_more e = record {
        through = through_is true e;
        exits = λ l. exits_are true e l ∙ sym (both_assoc (now l) (jumps_by (leaves (stmt_of x)) l) (jumps_by (leaves_all more) l)) ∙
            ap (λ j. both j (jumps_by (leaves_all more) l)) (sym (adds l));
      }

      alone : (l : Option Name) → onward false l more ≡ jumps_by (leaves (stmt_of x)) l
      alone l =
          ap (λ b. jumps b (leaves (stmt_of x) (Continues l) || false)) (or-false (leaves (stmt_of x) (Breaks l)))
          ∙ ap (jumps (leaves (stmt_of x) (Breaks l))) (or-false (leaves (stmt_of x) (Continues l)))

      pub left_stop : leaves (stmt_of x) Through ≡ false → (leaves_all all Through ≡ false) × Adds (leaves_all all) before new
      left_stop e = (through_is false e, λ l. adds l ∙ sym (exits_are false e l ∙ ap (both (now l)) (alone l)))

-- what is left of groups leaves as all do; this tells whether the one before completes
pub record GroupsAreLeft (all rest : Groups) (before now : Met) (done : Bool) : Type 0 where
  pub last : leaves_last all ≡ last_or done rest
  pub exits : (l : Option Name) → both (before l) (jumps_by (leaves_some all) l) ≡ both (now l) (jumps_by (leaves_some rest) l)

last_start : (all : Groups) → leaves_last all ≡ last_or false all
last_start NoGroup = refl
last_start (Group labels body end rest) = refl

last_more : (labels : List (Option Name)) (body : Stmts) (end : Place) (rest : Groups) → leaves_last (Group labels body end rest) ≡ last_or
    (leaves_all body Through) rest
last_more labels body end NoGroup = refl
last_more labels body end (Group l b e rest) = refl

module _ (gs : List KeptGroup) (i : ℕ) (g : KeptGroup) (within : i < length gs) (is : g ≡ get_or gs i g) where
  abbrev others : Groups
  others = groups_of (map group_of (drop (i + 1) gs))

  group_at : groups_of (map group_of (drop i gs)) ≡ Group (out-Group g).labels.items (stmts_of (map stmt_of (out-Group g).body.items))
      (out-Group g).end others
  group_at = ap (λ (ys : List KeptGroup). groups_of (map group_of ys)) (drop_at gs i g within is) ∙
      ap (λ o. groups_of (o ∷ map group_of (drop (i + 1) gs))) (group_of-is g)

  pub default_at : (labels : List (Option Name)) → labels ≡ (out-Group g).labels.items → has_default (groups_of (map group_of (drop i gs)))
      ≡ (list_any is_default labels || has_default others)
  default_at labels e = ap has_default group_at ∙ ap (λ ls. list_any is_default ls || has_default others) (sym e)

  pub groups_more : (all : Groups) (before now new : Met) (done b : Bool) (body : List KeptStmt) → body ≡ (out-Group g).body.items →
      GroupsAreLeft all (groups_of (map group_of (drop i gs))) before now done →
      b ≡ leaves_all (stmts_of (map stmt_of body)) Through → Adds (leaves_all (stmts_of (map stmt_of body))) now new →
      GroupsAreLeft all others before new b
  groups_more all before now new done b body e h k adds =
      let whole = group_at ∙ ap (λ (ys : List KeptStmt). Group (out-Group g).labels.items (stmts_of (map stmt_of ys)) (out-Group g).end
      others) (sym e) in
      record {
        last = h.last ∙ ap (last_or done) whole ∙ last_more (out-Group g).labels.items (stmts_of (map stmt_of body)) (out-Group g).end
            others ∙ ap (λ c. last_or c others) (sym k);
        exits = λ l. h.exits l ∙ ap (λ z. both (now l) (jumps_by (leaves_some z) l)) whole
            ∙ sym (both_assoc (now l) (jumps_by (leaves_all (stmts_of (map stmt_of body))) l) (jumps_by (leaves_some others) l)) ∙
            ap (λ j. both j (jumps_by (leaves_some others) l)) (sym (adds l));
      }

pub groups_start : (all : Groups) (before : Met) → GroupsAreLeft all all before before false
groups_start all before = record { last = last_start all; exits = λ l. refl }

pub groups_done : (gs : List KeptGroup) (i : ℕ) → length gs ≤ i → (all : Groups) (before now : Met) (done : Bool) →
    GroupsAreLeft all (groups_of (map group_of (drop i gs))) before now done →
    (leaves_last all ≡ done) × Adds (leaves_some all) before now
groups_done gs i past all before now done h =
    let none = drop_of_length-le gs past in (
      h.last ∙ ap (λ (ys : List KeptGroup). last_or done (groups_of (map group_of ys))) none,
      λ l. sym (h.exits l ∙ ap (λ (ys : List KeptGroup). both (now l) (jumps_by (leaves_some (groups_of (map group_of ys))) l)) none ∙
          both_none (now l)),
    )

pub default_done : (gs : List KeptGroup) (i : ℕ) → length gs ≤ i → has_default (groups_of (map group_of (drop i gs))) ≡ false
default_done gs i past = ap (λ (ys : List KeptGroup). has_default (groups_of (map group_of ys))) (drop_of_length-le gs past)
