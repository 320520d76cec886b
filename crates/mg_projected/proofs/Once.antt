-- Projecting the global protocol of a file gives one answer at most.
use Rattle.std.proofs.Common.{◌≡◌, inl, inr, ⊎_elim, ℕ, List, [], ◌∷◌, Option, None, Some, Result, refl, sym, ap, subst, ◌∙◌}
use Rattle.mg_text.specs.Call.{Name}
use Rattle.mg_text.specs.Row.{Row}
use Rattle.scr_tree.specs.Tree.{LocalTree}
use Rattle.scr_global_tree.specs.Tree.{GlobalTree}
use Rattle.scr_global_read.specs.Outcome as reads
use Rattle.scr_global_read.proofs.Unique as reading
use Rattle.scr_project.specs.Outcome as projects
use Rattle.scr_project.proofs.Answered as projecting
use Rattle.mg_projected.specs.declared.files.RoleFile.{RoleFile}
use Rattle.mg_projected.specs.declared.fault.ProjectedFault.{ProjectedFault}
use Rattle.mg_projected.specs.Projected.{file_of, AreFiles, IsRefusal, IsRefused, Answer, Files, Unread, Unprojected, IsUnread, Outcome}
use Rattle.mg_projected.specs.Projected.{unread, unprojected, written, answer_of, IsAnswered}
use Rattle.mg_projected.specs.inner.Stages.{Stage}

pub protocol_is : (s t : LocalTree) → projects.Protocol s ≡ projects.Protocol t → s ≡ t
protocol_is s t e = cc

pub tree_is : (g h : GlobalTree) → reads.Protocol g ≡ reads.Protocol h → g ≡ h
tree_is g h e = cc

module _ (g : GlobalTree) where
  -- a role has a local protocol, or is refused
  not_both : (role : Name) (local : LocalTree) (a : projects.Answer) → projects.Outcome g role (projects.Protocol local) →
      projects.Outcome g role a → IsRefusal a → ⊥
  not_both role local a h k r = subst IsRefusal (sym (projecting.one_outcome g role (projects.Protocol local) a h k)) r

  pub files_once : (roles : List Name) (fs hs : List RoleFile) → AreFiles g roles fs → AreFiles g roles hs → fs ≡ hs
  files_once [] fs hs a b = a ∙ sym b
  files_once (role ∷ roles) fs hs a b =
      let same = protocol_is a.0 b.0 (projecting.one_outcome g role (projects.Protocol a.0) (projects.Protocol b.0) a.3 b.3) in
      let more = files_once roles a.1 b.1 a.4 b.4 in
      a.2 ∙ (λ i. file_of role (same i) ∷ more i) ∙ sym b.2

  refused_once : (roles : List Name) (a b : projects.Answer) → IsRefused g roles a → IsRefused g roles b → a ≡ b
  refused_once [] a b h k = absurd h
  refused_once (role ∷ roles) a b h k =
      ⊎_elim
      (λ x. ⊎_elim (λ y. projecting.one_outcome g role a b x.0 y.0) (λ y. absurd (not_both role y.0 a y.1 x.0 x.1)) k)
      (λ x. ⊎_elim (λ y. absurd (not_both role x.0 b x.1 y.0 y.1)) (λ y. refused_once roles a b x.2 y.2) k) h

  files_or_not : (roles : List Name) (fs : List RoleFile) (a : projects.Answer) → AreFiles g roles fs → IsRefused g roles a → ⊥
  files_or_not [] fs a h k = k
  files_or_not (role ∷ roles) fs a h k = ⊎_elim (λ y. not_both role h.0 a h.3 y.0 y.1) (λ y. files_or_not roles h.1 a h.4 y.2) k

module _ (file : ℕ) (bytes : List ℕ) where
  read_once : (a b : reads.Answer) → reads.Outcome file bytes a → reads.Outcome file bytes b → a ≡ b
  read_once = reading.one_outcome file bytes

  read_or_not : (g : GlobalTree) (a : reads.Answer) → reads.Outcome file bytes (reads.Protocol g) → reads.Outcome file bytes a → IsUnread a
      → ⊥
  read_or_not g a h k u = subst IsUnread (sym (read_once (reads.Protocol g) a h k)) u

  same_tree : (g h : GlobalTree) → reads.Outcome file bytes (reads.Protocol g) → reads.Outcome file bytes (reads.Protocol h) → g ≡ h
  same_tree g h a b = tree_is g h (read_once (reads.Protocol g) (reads.Protocol h) a b)

  pub one_outcome : (a b : Answer) → Outcome file bytes a → Outcome file bytes b → a ≡ b
  one_outcome a b (unread {a = x} h u) (unread {a = y} k v) = ap Unread (read_once x y h k)
  one_outcome a b (unread {a = x} h u) (unprojected {g = g} k r) = absurd (read_or_not g x k h u)
  one_outcome a b (unread {a = x} h u) (written {g = g} k r) = absurd (read_or_not g x k h u)
  one_outcome a b (unprojected {g = g} k r) (unread {a = x} h u) = absurd (read_or_not g x k h u)
  one_outcome a b (unprojected {g = g} {a = x} h r) (unprojected {g = f} {a = y} k s) =
      let same = same_tree g f h k in ap Unprojected (refused_once f f.roles x y (subst (λ (t : GlobalTree). IsRefused t t.roles x) same r)
      s)
  one_outcome a b (unprojected {g = g} {a = x} h r) (written {g = f} {files = fs} k s) =
      let same = same_tree g f h k in absurd (files_or_not f f.roles fs x s (subst (λ (t : GlobalTree). IsRefused t t.roles x) same r))
  one_outcome a b (written {g = g} k r) (unread {a = x} h u) = absurd (read_or_not g x k h u)
  one_outcome a b (written {g = f} {files = fs} k s) (unprojected {g = g} {a = x} h r) =
      let same = same_tree g f h k in absurd (files_or_not f f.roles fs x s (subst (λ (t : GlobalTree). IsRefused t t.roles x) same r))
  one_outcome a b (written {g = g} {files = fs} h r) (written {g = f} {files = hs} k s) =
      let same = same_tree g f h k in ap Files (files_once f f.roles fs hs (subst (λ (t : GlobalTree). AreFiles t t.roles fs) same r) s)

  pub only_of : (r : Result (Row RoleFile) ProjectedFault) → Stage file bytes r → (a : Answer) → Outcome file bytes a → IsAnswered a r
  only_of r s a h = go (answer_of r) refl
    where
      go : (o : Option Answer) → answer_of r ≡ o → IsAnswered a r
      go None e = inr (s.answers e)
      go (Some b) e = inl (e ∙ ap Some (one_outcome b a (s.right b e) h))
