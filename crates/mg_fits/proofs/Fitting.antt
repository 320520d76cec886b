-- The law: files that fit a global protocol play it, so their roles never get stuck.
use Rattle.std.proofs.Common.{◌≡◌, ◌≢◌, ⊎_elim, ℕ, List, [], ◌∷◌, ◌++◌, length, map, Some, None, refl, sym}
use Rattle.std.proofs.Common.{ap, ◌∙◌}
use Rattle.std.proofs.Common.{subst, slice_get, Contains}
use Rattle.std.proofs.Math.Logic.{∥∥₁_elim}
use Rattle.std.proofs.lemmas.List.Elements.{Contains-append_cases, Contains-append_right}
use Rattle.mg_text.specs.Call.{Name}
use Rattle.mg_read.specs.First.{FirstOf, none, next, Clean, with_earlier}
use Rattle.scr_tree.specs.Meaning.{protocol_of}
use Rattle.scr_tree.specs.Tree.{LocalTree}
use Rattle.scr_tree.specs.Valid.{IsValid}
use Rattle.scr_back.specs.Same.{AreSame}
use Rattle.scr_global.specs.Tree.{said}
use Rattle.scr_global.specs.Texts.{projected}
use Rattle.scr_faithful.proofs.Guarding.{clean_is_guarded}
use Rattle.scr_global_tree.specs.Tree.{GlobalTree}
use Rattle.scr_global_tree.specs.Valid.{IsValid as IsValidGlobal}
use Rattle.scr_project.specs.Outcome as projects
use Rattle.scr_project.proofs.Promises.{clean_of, are_projections}
use Rattle.jv_rules.specs.Program.{Program}
use Rattle.jv_rules.specs.Shape.{IsShaped}
use Rattle.jv_rules.proofs.Positive.{clean_at}
use Rattle.jv_core.specs.Tree as Core
use Rattle.jv_core.specs.Conditions.{IsCore}
use Rattle.jv_core.specs.Meaning.{main_of}
use Rattle.jv_names.specs.Resolves.{Resolves}
use Rattle.jv_names.proofs.Clean.{judged_clean}
use Rattle.jv_names.proofs.Declared.{in_map, of_map, position_of, got_in}
use Rattle.jv_names.proofs.Kept.{core_is_kept}
use Rattle.jv_resolve_law.specs.ShapedLaws.{SpelledIsShaped}
use Rattle.stm_acts.specs.Held.{HoldsApi}
use Rattle.stm_acts.specs.Played.{role_class, HasRole}
use Rattle.vm_world_law.specs.declared.role.RoleMain.{RoleMain}
use Rattle.fit_law.specs.Fit.{AreLocals, IsHad}
use Rattle.fit_law.proofs.Sameness.{same_are_locals}
use Rattle.fit_law.specs.Play.{PlayIn, AllKeep}
use Rattle.fit_law.proofs.Had.{api_is_had}
use Rattle.fit_law.proofs.Play.{none_gets_stuck_in, runs_end_well, turns_are_reached, turns_converse, turns_go_on, turns_act_by_one}
use Rattle.fit_uses.specs.declared.usage.Use.{Use}
use Rattle.fit_uses.specs.declared.usage.Use.TheVariants.{Talks, Makes}
use Rattle.mg_sources.specs.Files.{Source}
use Rattle.mg_sources.specs.Reading.{Part, Protocol, Reads}
use Rattle.mg_accepted.specs.Accepted.{AreAccepted}
use Rattle.mg_accepted.specs.Program.{AreWellTyped}
use Rattle.mg_accepted.proofs.Grammatical.{shaped}
use Rattle.mg_accepted_law.specs.KeptLaws.{AcceptedKeepTypestates}
use Rattle.mg_accepted_law.proofs.Kept.{well_typed}
use Rattle.mg_accepted_law.proofs.Held.{holds_api}
use Rattle.mg_accepted_law.proofs.Read.{valid_read}
use Rattle.mg_fits.specs.Conditions as conditions
use Rattle.mg_fits.specs.Fits.{Fits}
use Rattle.mg_fits.specs.Laws.{RolesThatFit}
use Rattle.mg_fits.specs.Parts.{Headed, header, roles_in, own_local, own_uses}
use Rattle.mg_fits.proofs.Calm.{AreFree}
use Rattle.mg_fits.proofs.Sourced.{NoRole}
use Rattle.mg_fits.proofs.Parts.{surely_in, surely_same, surely_equal, headed, read_in, has_own}
use Rattle.mg_fits.proofs.Playing.{Differ, class_text_is, only_mains_play, main_plays_one}

-- ---- what was answered for a role

answered_so : (g : GlobalTree) (me : Name) (a : projects.Answer) → projects.Outcome g me a → (t : LocalTree) → a ≡ projects.Protocol t →
    (t.me ≡ me) × (projected me g.body ≡ Some t.body)
answered_so g me a (projects.not_mergeable e j) t f = absurd (cc)
answered_so g me a (projects.unprojected e j) t f = absurd (cc)
answered_so g me a (projects.found {body = s} e j) t f =
    subst (λ (x : LocalTree). (x.me ≡ me) × (projected me g.body ≡ Some x.body)) (same f) (refl, e)
  where
    same : {x y : LocalTree} → projects.Protocol x ≡ projects.Protocol y → x ≡ y
    same e = cc

-- ---- no condition is at fault

module _ (g : GlobalTree) (parts : List Part) (core : Core.Program) (mains : List RoleMain) where
  record NoFault : Type 0 where
    unplayed : Clean (conditions.IsUnplayed g parts core mains) (header g.roles g.places)
    strangers : Clean (conditions.IsStranger g parts core mains) mains
    shared : Clean (conditions.SharesMain g parts core mains) (with_earlier mains)
    without : Clean (conditions.HasNoProtocol g parts core mains) (header g.roles g.places)
    others : Clean (conditions.HasOther g parts core mains) (header g.roles g.places)
    talks : Clean (conditions.IsOwnSession g parts core mains) (own_uses (roles_in parts) core mains)
    makes : Clean (conditions.IsMadeElsewhere g parts core mains) (own_uses (roles_in parts) core mains)
    makings : Clean (conditions.MakesNone g parts core mains) mains

  no_fault : FirstOf (conditions.Of g parts core mains) conditions.conditions None → NoFault
  no_fault (next a (next b (next c (next d (next e (next f (next h (next i none)))))))) = record {
    unplayed = judged_clean _ _ a;
    strangers = judged_clean _ _ b;
    shared = judged_clean _ _ c;
    without = judged_clean _ _ d;
    others = judged_clean _ _ e;
    talks = judged_clean _ _ f;
    makes = judged_clean _ _ h;
    makings = judged_clean _ _ i;
  }

  differ : (qs : List (List RoleMain × RoleMain)) → Clean (conditions.SharesMain g parts core mains) qs → Differ qs
  differ [] h = tt
  differ ((earlier, main) ∷ qs) h = ((λ shares. h.0 _ (shares, refl)), differ qs h.1)

module _ (global : Source) (files : List Source) (mains : List RoleMain) (core : Core.Program) (fits : Fits global files mains core)
    (program : Program) (are : AreWellTyped files program) (res : Resolves program core) (law : SpelledIsShaped) where
  abbrev g : GlobalTree
  g = fits.tree

  abbrev parts : List Part
  parts = fits.parts

  abbrev own : Name → LocalTree
  own = own_local fits.parts fits.locals

  -- all roles of the files' protocols, those of the global protocol first
  abbrev among : List Name
  among = g.roles ++ roles_in parts

  clean : NoFault g parts core mains
  clean = no_fault g parts core mains fits.clean

  placed : length g.places ≡ length g.roles
  placed = surely_equal (length g.places) (length g.roles)
      (λ n. ∥∥₁_elim fits.projected.valid (λ a b. absurd a) (λ (v : IsValidGlobal g). n v.written.placed))

  of_header : (me : Name) → Contains g.roles me → (h : Headed) × Contains (header g.roles g.places) h × (h.role ≡ me)
  of_header me has = headed g.roles g.places placed me has

  -- ---- the roles

  played_in : (me : Name) → Contains g.roles me → Contains (map (λ (main : RoleMain). main.role) mains) me
  played_in me has =
      let h = of_header me has in
      subst (Contains (map (λ (main : RoleMain). main.role) mains)) h.2
      (surely_in (map (λ (main : RoleMain). main.role) mains) h.0.role
      (λ n. clean_at (conditions.IsUnplayed g parts core mains) (header g.roles g.places) clean.unplayed h.0 h.1 _ (n, refl)))

  played : (me : Name) → Contains g.roles me → (r : ℕ) × (main : RoleMain) × (slice_get mains r ≡ Some main) × (main.role ≡ me)
  played me has =
      let w = of_map (λ (main : RoleMain). main.role) mains me (played_in me has) in
      let p = position_of mains w.0 w.1 in (p.0, w.0, p.1, w.2)

  known : (r : ℕ) (main : RoleMain) → slice_get mains r ≡ Some main → Contains g.roles main.role
  known r main at = surely_in g.roles main.role
      (λ n. clean_at (conditions.IsStranger g parts core mains) mains clean.strangers main (got_in mains r main at) _
      (n, refl))

  in_files : (me : Name) → Contains g.roles me → Contains (roles_in parts) me
  in_files me has =
      let h = of_header me has in
      subst (Contains (roles_in parts)) h.2
      (surely_in (roles_in parts) h.0.role
      (λ n. clean_at (conditions.HasNoProtocol g parts core mains) (header g.roles g.places) clean.without h.0 h.1 _
      (n, refl)))

  within : (me : Name) → Contains among me → Contains (roles_in parts) me
  within me has = ⊎_elim (in_files me) (λ c. c) (Contains-append_cases g.roles (roles_in parts) me has)

  wider : (me : Name) → Contains (roles_in parts) me → Contains among me
  wider me has = Contains-append_right g.roles (roles_in parts) me has

  -- ---- the local protocols

  read_own : (me : Name) → Contains (roles_in parts) me → (source : Source) × Contains files source × Reads source (Protocol (own me))
  read_own me has = read_in files parts fits.spell (own me) (has_own parts fits.locals me has).there

  own_is : (me : Name) → Contains (roles_in parts) me → (own me).me ≡ me
  own_is me has = (has_own parts fits.locals me has).own

  own_valid : (me : Name) → Contains (roles_in parts) me → ∥ IsValid (own me) ∥₁
  own_valid me has = let w = read_own me has in valid_read w.0 (own me) w.2

  own_api : (me : Name) → Contains (roles_in parts) me → HoldsApi program.files program.typestates (own me)
  own_api me has = let w = read_own me has in holds_api files program are w.0 (own me) w.1 w.2

  own_had : (me : Name) → Contains (roles_in parts) me → IsHad program.files program.typestates (own me)
  own_had me has = api_is_had program.files program.typestates (own me) (own_valid me has) (own_api me has)

  has_role : (me : Name) → Contains among me → HasRole program.files program.typestates me (protocol_of (own me))
  has_role me has =
      subst (λ n. HasRole program.files program.typestates n (protocol_of (own me))) (own_is me (within me has))
      (own_had me (within me has)).role

  -- the body of a file's protocol is that of the projection, places aside
  same_body : (me : Name) → Contains g.roles me → AreSame (fits.locals me).body (own me).body
  same_body me has = surely_same (fits.locals me).body (own me).body (λ n.
      let h = of_header me has in
      let k = has_own parts fits.locals me (in_files me has) in
      clean_at (conditions.HasOther g parts core mains) (header g.roles g.places) clean.others h.0 h.1 _ (record {
        local = own me;
        there = k.there;
        of_role = k.own ∙ sym h.2;
        other = λ p.
            let mine = answered_so g me _ (fits.projected.answered me has) (fits.locals me) refl in
            let its = answered_so g (own me).me _ p.projected p.projection refl in
            let body : p.projection.body ≡ (fits.locals me).body =
            some_body (sym its.1 ∙ ap (λ n. projected n g.body) k.own ∙ mine.1) in
            n (subst (λ s. AreSame s (own me).body) body p.same);
        said = refl;
      }))
    where
      some_body : {A : Type 0} {a b : A} → Some a ≡ Some b → a ≡ b
      some_body e = cc

  locals_are : AreLocals g.roles (said g.body) own
  locals_are = same_are_locals g.roles (said g.body) fits.locals own (are_projections g fits.locals fits.projected)
      (λ me has. record {
        me = (answered_so g me _ (fits.projected.answered me has) (fits.locals me) refl).0 ∙ sym (own_is me (in_files me has));
        body = same_body me has;
      })
      (λ me has. own_is me (in_files me has)) (λ me has. own_valid me (in_files me has))

  -- ---- the sources

  is_core : IsCore core
  is_core = core_is_kept program core (well_typed files program are) (subst IsShaped are.is (shaped law are.are.spell)) res

  free_all : (us : List Use) → Clean (conditions.IsOwnSession g parts core mains) us →
      Clean (conditions.IsMadeElsewhere g parts core mains) us → AreFree core (NoRole program core res among) us
  free_all [] h k = tt
  free_all (Talks p call ∷ us) h k = (h.0 _ refl, free_all us h.1 k.1)
  free_all (Makes p c ∷ us) h k = (
    (λ name i me has e. k.0 _ (conditions.elsewhere (class_text_is program core res name c i.class i.named i.at)
        (subst (Contains (map role_class (roles_in parts))) (sym e) (in_map role_class (roles_in parts) me (within me has))) refl)),
    free_all us h.1 k.1,
  )

  free : AreFree core (NoRole program core res among) (own_uses (roles_in parts) core mains)
  free = free_all (own_uses (roles_in parts) core mains) clean.talks clean.makes

  module _ (have : (r : ℕ) (main : RoleMain) → slice_get mains r ≡ Some main → main_of core main.class ≢ None) where
    plays : PlayIn program.files program.typestates g.roles (said g.body) own mains
    plays = record {
      locals_are = locals_are;
      had = λ me has. own_had me (in_files me has);
      guarded = clean_is_guarded g.roles g.body (clean_of g fits.projected.valid);
      idle = roles_in parts;
      idle_had = λ me has. has_role me (wider me has);
      played = played;
      known = known;
      quiet = only_mains_play program core res is_core among (roles_in parts) within wider mains free;
      makes = λ r main at. main_plays_one program core res is_core among (roles_in parts) within wider mains free
          (differ g parts core mains (with_earlier mains) clean.shared) has_role r main at (have r main at)
          (λ k there is_one of_class nothing. clean_at (conditions.MakesNone g parts core mains) mains clean.makings main
          (got_in mains r main at) _
          (record { method = k; is = record { there = there; main = is_one; class = of_class }; none = nothing; said = refl }));
    }

-- accepted files keep to the typestates
all_keep : AcceptedKeepTypestates →
    (files : List Source) (core : Core.Program) (accepted : AreAccepted files core) (mains : List RoleMain) →
    ((r : ℕ) (main : RoleMain) → slice_get mains r ≡ Some main → main_of core main.class ≢ None) →
    AllKeep accepted.have.program.files accepted.have.program.typestates mains
all_keep kept files core accepted mains have r main at inputs budget =
    let k = kept files core accepted main.class (have r main at) inputs budget in
    record { no_null = k.no_null; follows = k.follows; finished = k.finished }

pub roles_that_fit : SpelledIsShaped → AcceptedKeepTypestates → RolesThatFit
roles_that_fit law kept files core accepted mains have program first begun meant global fits =
    let sources = accepted.have.program in
    let play : PlayIn sources.files sources.typestates fits.tree.roles (said fits.tree.body) (own_local fits.parts fits.locals) mains =
    plays global files mains core fits sources accepted.have.are accepted.have.stands law have in
    let keep : AllKeep sources.files sources.typestates mains = all_keep kept files core accepted mains have in
    record {
      always = λ taken.
          let stuck = none_gets_stuck_in sources.files sources.typestates fits.tree.roles (said fits.tree.body)
          (own_local fits.parts fits.locals) mains play keep program first begun meant taken in
          record {
            well = stuck.0;
            at_rest = stuck.1;
            configuration = turns_are_reached sources.files sources.typestates fits.tree.roles (said fits.tree.body)
                (own_local fits.parts fits.locals) mains play keep program first begun meant taken;
            part = λ can. turns_converse sources.files sources.typestates fits.tree.roles (said fits.tree.body)
                (own_local fits.parts fits.locals) mains play keep can program first begun meant taken;
            going = λ heard. turns_go_on sources.files sources.typestates fits.tree.roles (said fits.tree.body)
                (own_local fits.parts fits.locals) mains play keep heard program first begun meant taken;
            by_one = turns_act_by_one sources.files sources.typestates fits.tree.roles (said fits.tree.body)
                (own_local fits.parts fits.locals) mains play keep program first begun meant taken;
          };
      runs = runs_end_well sources.files sources.typestates fits.tree.roles (said fits.tree.body)
          (own_local fits.parts fits.locals) mains play keep program first begun meant;
    }
