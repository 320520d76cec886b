-- The class files of a core are read back and linked to the expected program, and its runs do what the sources mean.
use Rattle.std.proofs.Common.{◌≡◌, ◌≢◌, ℕ, List, [], ◌∷◌, map, Option, Some, None, refl, sym, ap, ap₂, ◌∙◌, subst}
use Rattle.std.specs.Prelude.{option_and_then}
use Rattle.std.specs.List.{AllByRecursion}
use Rattle.mg_text.specs.Call.{Name}
use Rattle.cls_tree.specs.Tree.{Class as File}
use Rattle.cls_bytes.proofs.Whole.{one_spelled}
use Rattle.jv_core.specs.Tree.{Class, Program}
use Rattle.jv_core.specs.Conditions.{IsCore}
use Rattle.jv_core.specs.Lookup.{class_numbered}
use Rattle.jv_core.specs.Meaning.{Code, main_of, main_in, cmean}
use Rattle.jv_values.specs.Values as values
use Rattle.jv_values.specs.Values.{Ended, Inputs}
use Rattle.jv_meaning.specs.Meaning.{mean}
use Rattle.jv_rules.specs.Shape.{IsShaped}
use Rattle.jv_resolve_law.specs.ShapedLaws.{SpelledIsShaped}
use Rattle.jv_names.specs.KeptLaws.{CoreIsKept}
use Rattle.jv_names.specs.WholeLaws.{TypesAreEnough}
use Rattle.jv_sound.proofs.Sound.{main_at}
use Rattle.vm_model.specs.Program as machine
use Rattle.vm_model.specs.Links.{Flaw, Links, least, flaws, linked}
use Rattle.vm_load.specs.Faults.{IsRefused}
use Rattle.vm_load.specs.declared.fault.LoadFault.{LoadFault}
use Rattle.vm_load.specs.declared.fault.LoadFault.TheVariants as load_faults
use Rattle.vm_model.specs.Messages.{Messages}
use Rattle.vm_model.specs.Machine.{Machine}
use Rattle.vm_model.specs.Start.{IsStart}
use Rattle.vm_model.specs.Step.{step}
use Rattle.vm_step.specs.Main as vm
use Rattle.gen_rules.specs.Classes.{class_files}
use Rattle.gen_rules.specs.Linked.{linked_program}
use Rattle.gen_links.specs.Files.{HasPlainNames, CoresLink}
use Rattle.gen_held.specs.Laws.{WrittenCoresAreHeld}
use Rattle.cls_verify.specs.Typing.{AllTypable}
use Rattle.gen_sound.specs.Laws.{CoresTypable}
use Rattle.gen_sound.specs.Mains.{CoreHasMain, MainsAgree}
use Rattle.gen_sound.proofs.Starting.{main_stands}
use Rattle.mg_sources.specs.Files.{Source}
use Rattle.mg_accepted.specs.Program.{HaveCore}
use Rattle.mg_accepted.proofs.Grammatical.{shaped}
use Rattle.mg_compile.proofs.Ready.{is_core, is_held, well_typed}
use Rattle.mg_compile.specs.declared.files.ClassFile.{ClassFile}
use Rattle.mg_compile.specs.Files.{HoldClasses, AreClassFiles}
use Rattle.vm_world_law.specs.declared.role.RoleMain.{RoleMain}
use Rattle.vm_world_law.specs.Meant.{Holds, RunsAsMeant}
use Rattle.vm_world_law.specs.Worlds.{DoesAsMeant}
use Rattle.mg_runs.specs.Runs.{AreSpelled, IsLoaded, HaveMains}
use Rattle.mg_runs.specs.Laws.{WrittenClassesLink, LoadedClassesAreTypable, RunsAreMeant}
use Rattle.mg_runs.specs.inner.Loading.{HaveFiles}

-- ---- reading back

abbrev bytes_of : List ClassFile → List (List ℕ)
bytes_of written = map (λ f. f.bytes) written

pub held_spelled : (p : Program) (ks : List Class) (classes : List File) (written : List ClassFile) → HoldClasses p ks classes written →
    AreSpelled (bytes_of written) classes
held_spelled p [] [] [] h = tt
held_spelled p [] [] (w ∷ ws) h = absurd h
held_spelled p [] (c ∷ cs) ws h = absurd h
held_spelled p (k ∷ ks) [] ws h = absurd h
held_spelled p (k ∷ ks) (c ∷ cs) [] h = absurd h
held_spelled p (k ∷ ks) (c ∷ cs) (w ∷ ws) h = ((h.0).spelled, held_spelled p ks cs ws h.1)

pub have_files : (p : Program) (written : List ClassFile) → AreClassFiles p written → HaveFiles written
have_files p written h = (h.classes, held_spelled p p.classes h.classes written h.hold)

-- bytes spell one list of class files
pub one_spelled_list : (bytes : List (List ℕ)) (cs bs : List File) → AreSpelled bytes cs → AreSpelled bytes bs → cs ≡ bs
one_spelled_list [] [] [] h g = refl
one_spelled_list [] [] (b ∷ bs) h g = absurd g
one_spelled_list [] (a ∷ cs) bs h g = absurd h
one_spelled_list (x ∷ xs) [] bs h g = absurd h
one_spelled_list (x ∷ xs) (a ∷ cs) [] h g = absurd g
one_spelled_list (x ∷ xs) (a ∷ cs) (b ∷ bs) h g =
    ap₂ (λ y ys. y ∷ ys) (one_spelled a b (h.0).file (g.0).file (sym (h.0).layout ∙ (g.0).layout)) (one_spelled_list xs cs bs h.1 g.1)

-- what has no flaw isn't refused
refused_not : (fs : List Flaw) (f : Flaw) → fs ≡ [] → least fs ≡ Some f → ⊥
refused_not fs f none is = let h : ◌≡◌ {A = Option Flaw} None (Some f) = sym (ap least none) ∙ is in cc

pub refused_never : (fault : LoadFault) (cs : List File) → flaws cs ≡ [] → fault ≢ load_faults.Memory → IsRefused fault cs → ⊥
refused_never (load_faults.DuplicateClass name) cs right isnt h = refused_not (flaws cs) _ right h
refused_never (load_faults.UnknownClass name) cs right isnt h = refused_not (flaws cs) _ right h
refused_never (load_faults.UnknownMember name) cs right isnt h = refused_not (flaws cs) _ right h
refused_never (load_faults.BadDescriptor name) cs right isnt h = refused_not (flaws cs) _ right h
refused_never (load_faults.NoCode name) cs right isnt h = refused_not (flaws cs) _ right h
refused_never load_faults.Memory cs right isnt h = isnt refl

module _ (p : Program) (core : IsCore p) (plain : HasPlainNames p) (written : List ClassFile) (made : AreClassFiles p written)
    (law : CoresLink) where
  -- the class files link
  classes_link : Links made.classes (linked_program p made.are.all)
  classes_link =
      let expected : Links (class_files p p.classes made.are.all) (linked_program p made.are.all)
      = law.link p core plain made.are.all made.are.compiled in
      subst (λ (z : List File). Links z (linked_program p made.are.all)) (sym made.are.files_are) expected

  -- what these bytes are read as and link to is the expected program
  linked_is : (read : List File) (program : machine.Program) → AreSpelled (bytes_of written) read → Links read program →
      program ≡ linked_program p made.are.all
  linked_is read program spelled links =
      let same : read ≡ made.classes = one_spelled_list (bytes_of written) read made.classes spelled
      (held_spelled p p.classes made.classes written made.hold) in
      links.program ∙ ap linked same ∙ sym classes_link.program

  -- ---- the `main` of a class

  main_found : (class : Name) → main_of p class ≢ None → CoreHasMain p class
  main_found class isnt = by_class (class_numbered p class) refl
    where
      found : (c : ℕ) → class_numbered p class ≡ Some c → (o : Option (values.Method ℕ Code)) → main_in p c 0 p.methods ≡ o →
          CoreHasMain p class
      found c at None e = absurd (isnt (ap (option_and_then (λ k. main_in p k 0 p.methods)) at ∙ e))
      found c at (Some r) e =
          let i = main_at p core c [] p.methods r refl e in
          record {
            number = i.number;
            method = i.method;
            at = i.at;
            is = ap (option_and_then (λ k. main_in p k 0 p.methods)) at ∙ e ∙ ap Some i.is;
          }

      by_class : (o : Option ℕ) → class_numbered p class ≡ o → CoreHasMain p class
      by_class None e = absurd (isnt (ap (option_and_then (λ k. main_in p k 0 p.methods)) e))
      by_class (Some c) e = found c e (main_in p c 0 p.methods) refl

  -- the linked program has it too
  main_linked : (class : Name) → CoreHasMain p class → (program : machine.Program) → program ≡ linked_program p made.are.all →
      vm.HasMain program class
  main_linked class h program same =
      let s = main_stands p core plain made.are.all made.are.compiled class h.number h.method h.at h.is in
      subst (λ (z : machine.Program). vm.HasMain z class) (sym same) (record { class = s.class; method = s.method; is = s.main })

  -- the machine does what the core means
  as_meant : MainsAgree → (class : Name) → CoreHasMain p class → (program : machine.Program) → program ≡ linked_program p made.are.all →
      (inputs : Inputs) (me : ℕ) (q : Messages) → Holds inputs q me [] → (start : Machine) → IsStart program class start →
      RunsAsMeant (step program me) start q (cmean p class inputs)
  as_meant agree class h program same inputs me q holds start starts =
      subst (λ (z : machine.Program). RunsAsMeant (step z me) start q (cmean p class inputs)) (sym same)
      (agree p core plain made.are.all made.are.compiled class h inputs me q holds start
      (subst (λ (z : machine.Program). IsStart z class start) same starts))

-- what the core means is what the sources mean
meant_alike : TypesAreEnough → SpelledIsShaped → (files : List Source) (class : Name) (core : Program) (h : HaveCore files core)
    (inputs : Inputs) →
    cmean core class inputs ≡ mean h.program.files class inputs
meant_alike enough law files class core h inputs = λ i budget. sym
    ((enough h.program core (well_typed files h.program h.are) (subst IsShaped h.are.is (shaped law h.are.are.spell)) h.stands class inputs
    budget).same) i

-- ---- the laws

pub classes_link_law : SpelledIsShaped → CoreIsKept → WrittenCoresAreHeld → CoresLink → WrittenClassesLink
classes_link_law law kept held link files core written have made =
    let can = is_held held files core have in (
      made.classes,
      held_spelled core core.classes made.classes written made.hold,
      classes_link core (is_core law kept files core have)
          can.plain written made link,
    )

pub runs_law : SpelledIsShaped → CoreIsKept → WrittenCoresAreHeld → CoresLink → MainsAgree → TypesAreEnough → RunsAreMeant
runs_law law kept held link agree enough files core written have made class main read program spelled links =
    let is = is_core law kept files core have in
    let can = is_held held files core have in
    let same = linked_is core is can.plain written made link read program spelled links in
    let found = main_found core is can.plain written made link class main in (
      main_linked core is can.plain written made link class found program same,
      λ inputs me q holds start starts.
          subst (λ (f : ℕ → Ended). RunsAsMeant (step program me) start q f) (meant_alike enough law files class core have inputs)
          (as_meant core is can.plain written made link agree class found program same inputs me q holds start starts),
    )

pub typable_law : SpelledIsShaped → CoreIsKept → WrittenCoresAreHeld → CoresLink → CoresTypable → LoadedClassesAreTypable
typable_law law kept held link typable files core written have made program (read, spelled, links) =
    let is = is_core law kept files core have in
    let can = is_held held files core have in
    subst AllTypable (sym (linked_is core is can.plain written made link read program spelled links))
    (typable core is can.plain made.are.all made.are.compiled)

-- ---- the `main`s of roles

module _ (law : RunsAreMeant) (files : List Source) (core : Program) (written : List ClassFile) (have : HaveCore files core)
    (made : AreClassFiles core written)
    (program : machine.Program) (loaded : IsLoaded (bytes_of written) program) where
  pub has_main : (class : Name) → main_of core class ≢ None → vm.HasMain program class
  has_main class main = let (read, spelled, links) = loaded in (law files core written have made class main read program spelled links).0

  pub have_mains : (mains : List RoleMain) → HaveMains core mains → AllByRecursion (λ m. vm.HasMain program m.class) mains
  have_mains [] h = tt
  have_mains (main ∷ mains) h = (has_main main.class h.0, have_mains mains h.1)

  pub does_as_meant : (class : Name) → main_of core class ≢ None → (me : ℕ) (start : Machine) → IsStart program class start →
      DoesAsMeant program me start (mean have.program.files class)
  does_as_meant class main me start starts inputs q holds =
      let (read, spelled, links) = loaded in
      (law files core written have made class main read program spelled links).1 inputs me q holds start starts
