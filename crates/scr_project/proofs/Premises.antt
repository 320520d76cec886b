-- What `project` may rest on, by what a global protocol keeps by its type.
use Rattle.std.proofs.Common.{◌≡◌, ◌≤◌, false, List, [], ◌∷◌, Some, refl, arith}
use Rattle.std.specs.Prelude.{Contains}
use Rattle.std.proofs.Math.Logic.{∥∥₁_elim}
use Rattle.mg_text.specs.Call.{Name}
use Rattle.mg_read.specs.First.{Clean}
use Rattle.scr_tree.specs.Conditions.{UnknownRole, PeerIsSelf, UnknownRec, DuplicateRec}
use Rattle.scr_tree.specs.Going.{UnknownProtocol, NotLast, held}
use Rattle.scr_tree.specs.Spots.{spots}
use Rattle.scr_tree.specs.Tree.{LocalTree, Statements}
use Rattle.scr_tree.specs.Valid.{AreDistinct, IsWritten}
use Rattle.scr_global.specs.Texts.{projected}
use Rattle.scr_global.proofs.Valid.{clean_is_valid}
use Rattle.scr_global_tree.specs.Tree.{GlobalTree}
use Rattle.scr_global_tree.specs.Valid.{IsValid}
use Rattle.scr_project.specs.Outcome.{projection_of}
use Rattle.scr_project.proofs.Sound as sound
use Rattle.scr_project.proofs.Kept.{Keeps, keeps, no_deeper}
use Rattle.scr_project.proofs.Early.{AllClean, all_clean, none_unknown, none_held, are_written, none_on_way, AreEarlyClean}

pub clean_once : {X C : Type 0} (At : X → C → Type 0) (xs : List X) (a b : Clean At xs) → a ≡ b
clean_once At [] a b = refl
clean_once At (x ∷ xs) a b = λ i. ((λ c h. let p : a.0 c h ≡ b.0 c h = absurd (a.0 c h) in p i), clean_once At xs a.1 b.1 i)

pub differ_once : (names : List Name) (a b : AreDistinct names) → a ≡ b
differ_once [] a b = refl
differ_once (name ∷ names) a b = λ i. ((λ h. let p : a.0 h ≡ b.0 h = absurd (a.0 h) in p i), differ_once names a.1 b.1 i)

module _ (g : GlobalTree) (me : Name) (s : Statements) (e : projected me g.body ≡ Some s) where
  kept : IsValid g → Keeps g.roles me [] s
  kept v =
      keeps g.roles me [] g.body s
      (sound.are_sound g.roles [] [] g.body sound.none_on_way v.written.body v.clean.roles_listed v.clean.roles_apart v.clean.recs_known
      v.clean.recs_differ) e

  body_clean : IsValid g → AllClean g.roles me (spots [] s)
  body_clean v = all_clean g.roles me [] [] s none_on_way (kept v)

  -- what the role does can be written
  pub can_be_written : ∥ IsValid g ∥₁ → ∥ IsWritten (projection_of g me s) ∥₁
  can_be_written valid =
      ∥∥₁_elim valid squash₁ (λ v. ∣ record {
        name = v.written.name;
        roles = v.written.roles;
        body = are_written g.roles me [] s (kept v);
        depth = let h = no_deeper g.roles me g.body s e in let k = v.written.depth in omega arith;
        others = tt;
      } ∣₁)

  -- and meets the conditions that the global protocol meets for all
  pub early_clean : ∥ IsValid g ∥₁ → Contains g.roles me → AreEarlyClean (projection_of g me s)
  early_clean valid c = record {
    differ = ∥∥₁_elim valid (differ_once g.roles) (λ v. v.roles_differ);
    me_listed = c;
    body = record {
      listed = ∥∥₁_elim valid (clean_once (UnknownRole g.roles) (spots [] s)) (λ v. (body_clean v).listed);
      apart = ∥∥₁_elim valid (clean_once (PeerIsSelf me) (spots [] s)) (λ v. (body_clean v).apart);
      known = ∥∥₁_elim valid (clean_once UnknownRec (spots [] s)) (λ v. (body_clean v).known);
      differ = ∥∥₁_elim valid (clean_once DuplicateRec (spots [] s)) (λ v. (body_clean v).differ);
    };
    undone = λ protocols. ∥∥₁_elim valid (clean_once (UnknownProtocol protocols) (spots [] s))
        (λ v. none_unknown g.roles me protocols [] [] s (kept v));
    unheld = ∥∥₁_elim valid (clean_once NotLast (held false s)) (λ v. none_held g.roles me [] false s (kept v));
    alone = refl;
  }

-- parts that are those of the projection make it
pub same_parts : (g : GlobalTree) (me : Name) (s : Statements) (t : LocalTree) → t.file ≡ g.file → t.name ≡ g.name → t.me ≡ me →
    t.roles ≡ g.roles → t.body ≡ s → t.others ≡ [] → t ≡ projection_of g me s
same_parts g me s t file name role roles body alone = λ i. record {
  file = file i;
  name = name i;
  me = role i;
  roles = roles i;
  body =
      body i;
  others = alone i;
}
