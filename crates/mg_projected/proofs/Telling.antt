-- What is told of a fault is said of the answer that it is.
use Rattle.std.proofs.Common.{◌≡◌, inl, inr, ℕ, List, [], ◌∷◌, ◌++◌, length, codes, Some, Result, Err, refl, sym, ap, ◌∙◌}
use Rattle.std.proofs.Common.{subst, get_or, arith}
use Rattle.std.specs.Prelude.{OnOk}
use Rattle.mg_text.specs.Call.{Name}
use Rattle.mg_text.specs.Row.{Row}
use Rattle.mg_text.specs.declared.place.Place.{Place}
use Rattle.scr_read.specs.Outcome as scr
use Rattle.scr_global_tree.specs.Tree.{GlobalTree}
use Rattle.scr_project.specs.Outcome as projects
use Rattle.mg_refusal.specs.Refusals.{Refusal, refusal_at}
use Rattle.mg_refusal.specs.Order.{InFile, Answers, AnswersOnly, IsStopBy, stop_in}
use Rattle.mg_refusal.specs.declared.stop.Stop.{Stop}
use Rattle.mg_refusal.specs.declared.stop.Stop.TheVariants as stops
use Rattle.mg_refusal.proofs.Orders.{unless_refused, never_ok}
use Rattle.mg_sources.specs.Files.{Source, source_of, sources}
use Rattle.mg_sources.proofs.PartLemmas.{same_at}
use Rattle.mg_projected.specs.declared.files.RoleFile.{RoleFile}
use Rattle.mg_projected.specs.declared.fault.ProjectedFault.{ProjectedFault}
use Rattle.mg_projected.specs.Projected.{IsRefused, Answer, Files, Unread, Unprojected, Outcome, unread, unprojected, written, fault_answer}
use Rattle.mg_projected.specs.Told.{IsSaidOfProjection, IsSaid, AreWritten, FirstRefusal}
use Rattle.mg_projected.specs.inner.Saying.{IsToldOfProjection, IsTold, written_alone}
use Rattle.mg_projected.proofs.Once.{one_outcome}
use Rattle.mg_projected.proofs.Followed.{files_of_projected, files_projected}

-- ---- a role without a local protocol doesn't meet a condition

abbrev IsUnmet : projects.Answer → Type 0
IsUnmet (projects.Protocol local) = Unit {0}
IsUnmet (projects.NotMergeable place role) = Unit {0}
IsUnmet (projects.Unprojected place role (scr.Refused condition at name)) = Unit {0}
IsUnmet (projects.Unprojected place role _) = ⊥

role_unmet : (g : GlobalTree) (me : Name) (a : projects.Answer) → projects.Outcome g me a → IsUnmet a
role_unmet g me a (projects.not_mergeable none first) = tt
role_unmet g me a (projects.unprojected some fault) = tt
role_unmet g me a (projects.found some fault) = tt

roles_unmet : (g : GlobalTree) (roles : List Name) (a : projects.Answer) → IsRefused g roles a → IsUnmet a
roles_unmet g [] a h = absurd h
roles_unmet g (role ∷ roles) a (inl h) = role_unmet g role a h.0
roles_unmet g (role ∷ roles) a (inr h) = roles_unmet g roles a h.2

abbrev AllUnmet : Answer → Type 0
AllUnmet (Files files) = Unit {0}
AllUnmet (Unread a) = Unit {0}
AllUnmet (Unprojected a) = IsUnmet a

outcome_unmet : (file : ℕ) (bytes : List ℕ) (a : Answer) → Outcome file bytes a → AllUnmet a
outcome_unmet file bytes a (unread h u) = tt
outcome_unmet file bytes a (unprojected {g = g} {a = b} h r) = roles_unmet g g.roles b r
outcome_unmet file bytes a (written h k) = tt

-- ---- what is told is said

unmet_said : (place : Place) (role : Name) (b : scr.Answer) (r : Refusal) → IsUnmet (projects.Unprojected place role b) →
    IsToldOfProjection (projects.Unprojected place role b) r → IsSaidOfProjection (projects.Unprojected place role b) r
unmet_said place role (scr.Protocol local) r u h = u
unmet_said place role (scr.TooLarge at) r u h = u
unmet_said place role (scr.BadByte at) r u h = u
unmet_said place role (scr.Unsupported at word) r u h = u
unmet_said place role scr.Syntax r u h = u
unmet_said place role (scr.Refused condition at name) r u (inner, is, says) =
    says ∙ ap (λ (z : Refusal). refusal_at (codes "Unprojected") place (role ++ codes " " ++ z.kind)) is

told_said : (a : Answer) (r : Refusal) → AllUnmet a → IsTold a r → IsSaid a r
told_said (Files files) r u h = h
told_said (Unread a) r u h = h
told_said (Unprojected (projects.Protocol local)) r u h = h
told_said (Unprojected (projects.NotMergeable place role)) r u h = h
told_said (Unprojected (projects.Unprojected place role b)) r u h = unmet_said place role b r u h

pub told_refused : {A : Type 0} (Right : A → Type 0) (s : Source) (fault : ProjectedFault) (stop : Stop) →
    IsStopBy IsTold (fault_answer fault) stop → ((a : Answer) → fault_answer fault ≡ Some a → Outcome s.number s.bytes a) →
    Answers Right (FirstRefusal (s ∷ [])) (Err (stop_in s.number stop))
told_refused Right s fault (stops.Refused r) (a, e, told) h = record {
  source = s;
  one = refl;
  answer = a;
  gives = h a e;
  said = (r, told_said a r (outcome_unmet s.number s.bytes a (h a e)) told, refl);
}
told_refused Right s fault stops.Memory told h = tt

pub written_so : (s : Source) (files : Row RoleFile) → Outcome s.number s.bytes (Files files.items) → AreWritten (s ∷ []) files.items
written_so s files h =
    let (g, reads, is) = files_projected s.number s.bytes files.items h in
    record { source = s; one = refl; global = g; reads = reads; projected = is }

-- ---- one answer

source_is : (a b : Source) → ◌≡◌ {A = List Source} (a ∷ []) (b ∷ []) → a ≡ b
source_is a b e = cc

pub gives_files : (files : List Source) (fs : List RoleFile) (w : AreWritten files fs) → Outcome w.source.number w.source.bytes (Files fs)
gives_files files fs w = written w.reads (files_of_projected w.global fs w.projected)

abbrev files_of : Answer → List RoleFile
files_of (Files fs) = fs
files_of (Unread a) = []
files_of (Unprojected a) = []

pub written_once : (files : List Source) (fs hs : List RoleFile) → AreWritten files fs → AreWritten files hs → fs ≡ hs
written_once files fs hs w v =
    let same : w.source ≡ v.source = source_is w.source v.source (sym w.one ∙ v.one) in
    let there : Outcome v.source.number v.source.bytes (Files fs) = subst (λ (s : Source). Outcome s.number s.bytes (Files fs)) same
    (gives_files files fs w) in
    ap files_of (one_outcome v.source.number v.source.bytes (Files fs) (Files hs) there (gives_files files hs v))

pub not_refused : (files : List Source) (fs : List RoleFile) (r : Refusal) → AreWritten files fs → FirstRefusal files r → ⊥
not_refused files fs r w f =
    let same : w.source ≡ f.source = source_is w.source f.source (sym w.one ∙ f.one) in
    let there : Outcome f.source.number f.source.bytes (Files fs) = subst (λ (s : Source). Outcome s.number s.bytes (Files fs)) same
    (gives_files files fs w) in
    (subst (λ (a : Answer). InFile f.source.number (IsSaid a) r) (one_outcome f.source.number f.source.bytes f.answer
    (Files fs) f.gives there) f.said).1

module _ (files : List Source) (answer : Result (Row RoleFile) Stop)
    (h : Answers (λ (files' : Row RoleFile). AreWritten files files'.items) (FirstRefusal files) answer) where
  pub only_those : (fs : List RoleFile) → AreWritten files fs → AnswersOnly (λ rows. rows.items ≡ fs) answer
  only_those fs w =
      unless_refused (λ rows. AreWritten files rows.items) (FirstRefusal files) (λ rows. rows.items ≡ fs) answer h
      (λ rows is. written_once files rows.items fs is w) (λ r first. not_refused files fs r w first)

  pub refused_unwritten : (r : Refusal) → FirstRefusal files r → OnOk answer ⊥
  refused_unwritten r first =
      never_ok (λ rows. AreWritten files rows.items) (FirstRefusal files) answer h (λ rows is. not_refused files rows.items r is first)

-- ---- one file

pub one_source : (names contents : List (List ℕ)) (name bytes : List ℕ) → length names ≡ 1 → length contents ≡ 1 →
    name ≡ get_or names 0 name →
    bytes ≡ get_or contents 0 bytes → source_of 0 name bytes ∷ [] ≡ sources names contents
one_source [] contents name bytes n c e f = absurd (omega (arith, n))
one_source (x ∷ y ∷ xs) contents name bytes n c e f = absurd (omega (arith, n))
one_source (x ∷ []) [] name bytes n c e f = absurd (omega (arith, c))
one_source (x ∷ []) (z ∷ w ∷ zs) name bytes n c e f = absurd (omega (arith, c))
one_source (x ∷ []) (z ∷ []) name bytes n c e f = λ i. source_of 0 (e i) (f i) ∷ []

pub answer_of_one : (names contents : List (List ℕ)) (bytes given : List ℕ) (r : Result (Row RoleFile) Stop) → length names ≡ 1 →
    length contents ≡ 1 → bytes ≡ get_or contents 0 bytes → given ≡ bytes →
    ((name : List ℕ) → Answers (λ files. AreWritten (written_alone name given) files.items) (FirstRefusal (written_alone name given)) r) →
    Answers (λ files. AreWritten (sources names contents) files.items) (FirstRefusal (sources names contents)) r
answer_of_one names contents bytes given r n c f g h =
    let name : List ℕ = get_or names 0 [] in
    subst (λ (z : List Source). Answers (λ files. AreWritten z files.items) (FirstRefusal z) r)
    (one_source names contents name bytes n c (same_at names 0 [] name (omega (arith, n))) f)
    (subst (λ (z : List ℕ). Answers (λ files. AreWritten (written_alone name z) files.items) (FirstRefusal (written_alone name z)) r) g
    (h name))
