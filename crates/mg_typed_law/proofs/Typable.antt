-- Class files of accepted files link to the program that is expected of their core, whose methods all have typings; and worlds of such
-- programs are never bad.
use Rattle.std.proofs.Common.{◌≡◌, ℕ, List, map, sym, ap, ◌∙◌, subst}
use Rattle.jv_core.specs.Tree as Core
use Rattle.jv_names.specs.KeptLaws.{CoreIsKept}
use Rattle.jv_resolve_law.specs.ShapedLaws.{SpelledIsShaped}
use Rattle.gen_held.specs.Laws.{WrittenCoresAreHeld}
use Rattle.gen_rules.specs.Linked.{linked_program}
use Rattle.gen_sound.specs.Laws.{CoresTypable}
use Rattle.vm_model.specs.Program.{Program}
use Rattle.vm_model.specs.Links.{linked}
use Rattle.cls_verify.specs.Typing.{AllTypable}
use Rattle.vm_world_law.specs.Turns.{first_turns}
use Rattle.world_typed_law.specs.Worlds.{TypableWorldsNeverBad}
use Rattle.mg_sources.specs.Files.{Source}
use Rattle.mg_accepted.specs.Program.{HaveCore}
use Rattle.mg_compile.specs.declared.files.ClassFile.{ClassFile}
use Rattle.mg_compile.specs.Files.{AreClassFiles}
use Rattle.mg_compile.proofs.Ready.{is_core, is_held}
use Rattle.mg_runs.specs.Runs.{IsLoaded}
use Rattle.mg_runs.specs.Laws.{WrittenClassesLink}
use Rattle.mg_runs.proofs.Sound.{one_spelled_list}
use Rattle.mg_typed_law.specs.Typed.{NoneIsBad}
use Rattle.mg_typed_law.specs.Laws.{CompiledClassesAreTypable, RunsAreTypable, TypableRunsNeverBad}

-- bytes are loaded as one program
one_loaded : (bytes : List (List ℕ)) (p q : Program) → IsLoaded bytes p → IsLoaded bytes q → p ≡ q
one_loaded bytes p q (read, spelled, links) (other, spelled', links') =
    links.program ∙ ap linked (one_spelled_list bytes read other spelled spelled') ∙ sym links'.program

module _ (law : SpelledIsShaped) (kept : CoreIsKept) (held : WrittenCoresAreHeld) (link : WrittenClassesLink) (cores : CoresTypable) where
  -- the program that is expected of the core of some files
  expected_typable : (files : List Source) (core : Core.Program) (written : List ClassFile) → HaveCore files core →
      (made : AreClassFiles core written) → AllTypable (linked_program core made.are.all)
  expected_typable files core written have made =
      cores core (is_core law kept files core have) (is_held held files core have).plain made.are.all made.are.compiled

  pub compiled_typable : CompiledClassesAreTypable
  compiled_typable files written h = record {
    program = linked_program h.core h.class_files.are.all;
    loaded = link files h.core written h.accepted.have h.class_files;
    typable = expected_typable files h.core written h.accepted.have h.class_files;
  }

  -- whatever these bytes are read as and link to
  pub runs_typable : RunsAreTypable
  runs_typable files mains order limit run h =
      let expected = link files run.core run.written h.accepted.have h.class_files in
      subst AllTypable
      (one_loaded (map (λ f. f.bytes) run.written) (linked_program run.core h.class_files.are.all) run.program expected h.loaded)
      (expected_typable files run.core run.written h.accepted.have h.class_files)

pub runs_never_bad : TypableWorldsNeverBad → TypableRunsNeverBad
runs_never_bad law files mains order limit run h all =
    let ever = law run.program all mains run.first h.begins in
    record { at_stop = subst NoneIsBad (sym h.runs.is) (ever (first_turns order h.runs.taken)); ever = ever }
