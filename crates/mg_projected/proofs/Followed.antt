-- The files of the roles have the texts of the projections, so that the laws of projection speak of them.
use Rattle.std.proofs.Common.{◌≡◌, ℕ, zero, suc, List, [], ◌∷◌, map, Contains, Option, None, Some, refl, sym, ap, subst, ◌∙◌, arith}
use Rattle.mg_text.specs.Call.{Name}
use Rattle.scr_tree.specs.Tree.{LocalTree, Statements, Nothing}
use Rattle.scr_global.specs.Texts.{projected}
use Rattle.scr_global_tree.specs.Tree.{GlobalTree}
use Rattle.scr_global_tree.specs.Valid.{IsValid}
use Rattle.scr_global_judge.proofs.Faultless.{faultless}
use Rattle.scr_global_read.specs.Outcome as reads
use Rattle.scr_global_read.proofs.Named.{can_be_written}
use Rattle.scr_project.specs.Outcome.{projection_of}
use Rattle.scr_project.specs.Outcome as projects
use Rattle.mg_projected.specs.declared.files.RoleFile.{RoleFile}
use Rattle.mg_projected.specs.Projected.{file_of, AreFiles, IsProjected, Answer, Files, Outcome, unread, unprojected, written}
use Rattle.mg_projected.proofs.Once.{protocol_is, tree_is}

-- ---- a file that spells a global protocol spells a valid one

valid_of : (file : ℕ) (bytes : List ℕ) (a : reads.Answer) → reads.Outcome file bytes a → (g : GlobalTree) → a ≡ reads.Protocol g → IsValid g
valid_of file bytes a (reads.too_large large) g e = absurd cc
valid_of file bytes a (reads.bad_byte k size bad) g e = absurd cc
valid_of file bytes a (reads.unsupported cut first) g e = absurd cc
valid_of file bytes a (reads.syntax cut all none) g e = absurd cc
valid_of file bytes a (reads.refused spells fault) g e = absurd cc
valid_of file bytes a (reads.found {w = w} spells fault) g e =
    subst IsValid (tree_is _ g e) (faultless w fault (can_be_written file bytes w spells))

-- ---- what is answered for a role

-- the statements, or none
abbrev pub body_of : Option Statements → Statements
body_of None = Nothing
body_of (Some s) = s

module _ (g : GlobalTree) where
  -- what a role does
  abbrev pub does : Name → LocalTree
  does me = projection_of g me (body_of (projected me g.body))

  does_so : (me : Name) (a : projects.Answer) → projects.Outcome g me a → (local : LocalTree) → a ≡ projects.Protocol local →
      local ≡ does me
  does_so me a (projects.not_mergeable none first) local e = absurd cc
  does_so me a (projects.unprojected some fault) local e = absurd cc
  does_so me a (projects.found {body = body} some fault) local e =
      sym (protocol_is (projection_of g me body) local e) ∙ ap (λ (o : Option Statements). projection_of g me (body_of o)) (sym some)

  pub role_does : (me : Name) (local : LocalTree) → projects.Outcome g me (projects.Protocol local) → local ≡ does me
  role_does me local h = does_so me (projects.Protocol local) h local refl

  files_are : (roles : List Name) (files : List RoleFile) → AreFiles g roles files → files ≡ map (λ role. file_of role (does role)) roles
  files_are [] files h = h
  files_are (role ∷ roles) files (local, more, e, o, rest) =
      e ∙ (λ i. file_of role (role_does role local o i) ∷ files_are roles more rest i)

  answered_in : (roles : List Name) (files : List RoleFile) → AreFiles g roles files → (me : Name) → Contains roles me →
      projects.Outcome g me (projects.Protocol (does me))
  answered_in [] files h me (k, lt, is) = absurd (omega arith)
  answered_in (role ∷ roles) files (local, more, e, o, rest) me (zero, lt, is) =
      subst (λ (r : Name). projects.Outcome g r (projects.Protocol (does r))) is
      (subst (λ (t : LocalTree). projects.Outcome g role (projects.Protocol t)) (role_does role local o) o)
  answered_in (role ∷ roles) files (local, more, e, o, rest) me (suc k, lt, is) = answered_in roles more rest me (k, omega arith, is)

  -- ---- and back

  module _ (locals : Name → LocalTree) where
    files_from : (roles : List Name) → ((me : Name) → Contains roles me → projects.Outcome g me (projects.Protocol (locals me))) →
        AreFiles g roles (map (λ role. file_of role (locals role)) roles)
    files_from [] all = refl
    files_from (role ∷ roles) all = (
      locals role,
      map (λ role. file_of role (locals role)) roles,
      refl,
      all role (zero, omega arith, refl),
      files_from roles (λ me is. all me (suc is.0, omega (arith, is.1), is.2)),
    )

  pub files_of_projected : (files : List RoleFile) → IsProjected g files → AreFiles g g.roles files
  files_of_projected files is = subst (AreFiles g g.roles) (sym is.written) (files_from is.locals g.roles is.projected.answered)

pub read_valid : (file : ℕ) (bytes : List ℕ) (g : GlobalTree) → reads.Outcome file bytes (reads.Protocol g) → IsValid g
read_valid file bytes g h = valid_of file bytes (reads.Protocol g) h g refl

pub are_projected : (file : ℕ) (bytes : List ℕ) (g : GlobalTree) (files : List RoleFile) → reads.Outcome file bytes (reads.Protocol g) →
    AreFiles g g.roles files → IsProjected g files
are_projected file bytes g files h k = record {
  locals = does g;
  projected = record { valid = ∣ read_valid file bytes g h ∣₁; answered = answered_in g g.roles files k };
  written = files_are g g.roles files k;
}

files_is : (fs hs : List RoleFile) → Files fs ≡ Files hs → fs ≡ hs
files_is fs hs e = cc

outcome_projected : (file : ℕ) (bytes : List ℕ) (a : Answer) → Outcome file bytes a → (files : List RoleFile) → a ≡ Files files →
    (g : GlobalTree) × reads.Outcome file bytes (reads.Protocol g) × IsProjected g files
outcome_projected file bytes a (unread h u) files e = absurd cc
outcome_projected file bytes a (unprojected h r) files e = absurd cc
outcome_projected file bytes a (written {g = g} {files = fs} h k) files e =
    (g, h, are_projected file bytes g files h (subst (AreFiles g g.roles) (files_is fs files e) k))

pub files_projected : (file : ℕ) (bytes : List ℕ) (files : List RoleFile) → Outcome file bytes (Files files) →
    (g : GlobalTree) × reads.Outcome file bytes (reads.Protocol g) × IsProjected g files
files_projected file bytes files h = outcome_projected file bytes (Files files) h files refl
