-- The local protocols of the roles of a file's global protocol: they are those of the laws of projection, and one answer.
use Rattle.std.proofs.Common.{◌≡◌, ℕ, zero, suc, List, [], ◌∷◌, map, Contains, Result, Ok, refl, sym, ap, subst, ◌∙◌, arith}
use Rattle.std.specs.Prelude.{OnOk}
use Rattle.std.proofs.lemmas.Simd.{map-map}
use Rattle.mg_text.specs.Call.{Name}
use Rattle.mg_text.specs.Row.{Row}
use Rattle.scr_tree.specs.Tree.{LocalTree}
use Rattle.scr_tree.specs.Local.{tree_of as local_of}
use Rattle.scr_tree.specs.declared.local.Local.{Local}
use Rattle.scr_global_tree.specs.Tree.{GlobalTree}
use Rattle.scr_global_tree.specs.Global.{tree_of}
use Rattle.scr_global_read.specs.Outcome as reads
use Rattle.scr_global_read.proofs.Unique as reading
use Rattle.scr_project.specs.Outcome as projects
use Rattle.scr_project.proofs.Answered as projecting
use Rattle.mg_refusal.specs.Refusals.{Refusal}
use Rattle.mg_refusal.specs.Order.{Answers, AnswersOnly}
use Rattle.mg_refusal.specs.declared.stop.Stop.{Stop}
use Rattle.mg_refusal.proofs.Orders.{unless_refused, never_ok}
use Rattle.mg_sources.specs.Files.{Source}
use Rattle.mg_projected.specs.declared.files.RoleFile.{RoleFile}
use Rattle.mg_projected.specs.declared.locals.Locals.{Locals}
use Rattle.mg_projected.specs.Projected.{file_of, AreFiles}
use Rattle.mg_projected.specs.Told.{AreLocals, FirstRefusal}
use Rattle.mg_projected.specs.inner.Stages.{AreOf, FoundStage, Stage, role_file}
use Rattle.mg_projected.proofs.Followed.{does, role_does, read_valid}
use Rattle.mg_projected.proofs.Once.{protocol_is, tree_is}
use Rattle.mg_projected.proofs.Staged.{stage_written}
use Rattle.mg_projected.proofs.Telling.{not_refused}

module _ (g : GlobalTree) where
  locals_are : (roles : List Name) (locals : List LocalTree) → AreOf g roles locals → locals ≡ map (does g) roles
  locals_are [] locals h = h
  locals_are (role ∷ roles) locals (local, more, e, o, rest) =
      e ∙ (λ i. role_does g role local o i ∷ locals_are roles more rest i)

  locals_answered : (roles : List Name) (locals : List LocalTree) → AreOf g roles locals → (me : Name) → Contains roles me →
      projects.Outcome g me (projects.Protocol (does g me))
  locals_answered [] locals h me (k, lt, is) = absurd (omega arith)
  locals_answered (role ∷ roles) locals (local, more, e, o, rest) me (zero, lt, is) =
      subst (λ (r : Name). projects.Outcome g r (projects.Protocol (does g r))) is
      (subst (λ (t : LocalTree). projects.Outcome g role (projects.Protocol t)) (role_does g role local o) o)
  locals_answered (role ∷ roles) locals (local, more, e, o, rest) me (suc k, lt, is) =
      locals_answered roles more rest me (k, omega arith, is)

  locals_from : (each : Name → LocalTree) (roles : List Name) →
      ((me : Name) → Contains roles me → projects.Outcome g me (projects.Protocol (each me))) → AreOf g roles (map each roles)
  locals_from each [] all = refl
  locals_from each (role ∷ roles) all = (
    each role,
    map each roles,
    refl,
    all role (zero, omega arith, refl),
    locals_from each roles (λ me is. all me (suc is.0, omega (arith, is.1), is.2)),
  )

  locals_once : (roles : List Name) (ls ks : List LocalTree) → AreOf g roles ls → AreOf g roles ks → ls ≡ ks
  locals_once [] ls ks a b = a ∙ sym b
  locals_once (role ∷ roles) ls ks a b =
      let same = protocol_is a.0 b.0 (projecting.one_outcome g role (projects.Protocol a.0) (projects.Protocol b.0) a.3 b.3) in
      let more = locals_once roles a.1 b.1 a.4 b.4 in
      a.2 ∙ (λ i. same i ∷ more i) ∙ sym b.2

  -- the files of the roles
  pub files_of_locals : (roles : List Name) (locals : List LocalTree) → AreOf g roles locals → AreFiles g roles (map role_file locals)
  files_of_locals [] locals h = ap (map role_file) h
  files_of_locals (role ∷ roles) locals (local, more, e, o, rest) = (
    local,
    map role_file more,
    ap (map role_file) e
        ∙ ap (λ (me : Name). file_of me local ∷ map role_file more) (ap (λ (t : LocalTree). t.me) (role_does g role local o)),
    o,
    files_of_locals roles more rest,
  )

-- ---- what is answered

module _ (s : Source) where
  locals_of_written : (g : GlobalTree) (locals : List LocalTree) → reads.Outcome s.number s.bytes (reads.Protocol g) →
      AreOf g g.roles locals → AreLocals s g locals
  locals_of_written g locals h k = record {
    reads = h;
    each = does g;
    projected = record { valid = ∣ read_valid s.number s.bytes g h ∣₁; answered = locals_answered g g.roles locals k };
    are = locals_are g g.roles locals k;
  }

  are_of : (g : GlobalTree) (locals : List LocalTree) → AreLocals s g locals → AreOf g g.roles locals
  are_of g locals l = subst (AreOf g g.roles) (sym l.are) (locals_from g l.each g.roles l.projected.answered)

  pub found_told : (found : Locals) → FoundStage s.number s.bytes (Ok found) →
      AreLocals s (tree_of found.global) (map local_of found.locals.items)
  found_told found h = locals_of_written (tree_of found.global) (map local_of found.locals.items) h.0 h.1

  pub one_global : (f g : GlobalTree) (ls ks : List LocalTree) → AreLocals s f ls → AreLocals s g ks → f ≡ g
  one_global f g ls ks a b =
      tree_is f g (reading.one_outcome s.number s.bytes (reads.Protocol f) (reads.Protocol g) a.reads b.reads)

  one_locals : (f g : GlobalTree) (ls ks : List LocalTree) → AreLocals s f ls → AreLocals s g ks → ls ≡ ks
  one_locals f g ls ks a b =
      let same = one_global f g ls ks a b in
      locals_once g g.roles ls ks (subst (λ (t : GlobalTree). AreOf t t.roles ls) same (are_of f ls a)) (are_of g ks b)

  pub locals_not_refused : (g : GlobalTree) (locals : List LocalTree) (r : Refusal) → AreLocals s g locals → FirstRefusal (s ∷ []) r → ⊥
  locals_not_refused g locals r l =
      let files : List RoleFile = map (λ role. file_of role (l.each role)) g.roles in
      not_refused (s ∷ []) files r (record {
        source = s;
        one = refl;
        global = g;
        reads = l.reads;
        projected = record { locals = l.each; projected = l.projected; written = refl };
      })

  abbrev pub IsLocals : Locals → Type 0
  IsLocals l = AreLocals s (tree_of l.global) (map local_of l.locals.items)

  module _ (answer : Result Locals Stop) (h : Answers IsLocals (FirstRefusal (s ∷ [])) answer) where
    pub only_locals : (g : GlobalTree) (locals : List LocalTree) → AreLocals s g locals →
        AnswersOnly (λ l. (tree_of l.global ≡ g) × (map local_of l.locals.items ≡ locals)) answer
    only_locals g locals w =
        unless_refused IsLocals (FirstRefusal (s ∷ [])) (λ l. (tree_of l.global ≡ g) × (map local_of l.locals.items ≡ locals)) answer h
        (λ l is. (
          one_global (tree_of l.global) g (map local_of l.locals.items) locals is w,
          one_locals (tree_of l.global) g (map local_of l.locals.items) locals is w,
        ))
        (λ r first. locals_not_refused g locals r w first)

    pub refused_locals : (r : Refusal) → FirstRefusal (s ∷ []) r → OnOk answer ⊥
    refused_locals r first =
        never_ok IsLocals (FirstRefusal (s ∷ [])) answer h
        (λ l is. locals_not_refused (tree_of l.global) (map local_of l.locals.items) r is first)

-- the files of what is found
pub written_found : (file : ℕ) (bytes : List ℕ) (found : Locals) (locals : List Local) (files : Row RoleFile) →
    FoundStage file bytes (Ok found) → locals ≡ found.locals.items → files.items ≡ map (λ l. role_file (local_of l)) locals →
    Stage file bytes (Ok files)
written_found file bytes found locals files h k e =
    let g = tree_of found.global in
    stage_written file bytes g files h.0
    (subst (AreFiles g g.roles)
    (map-map role_file local_of found.locals.items ∙ sym (e ∙ ap (map (λ l. role_file (local_of l))) k))
    (files_of_locals g g.roles (map local_of found.locals.items) h.1))
