-- Projecting answers what it gives, and gives one answer at most.
use Rattle.std.proofs.Common.{◌≡◌, ◌≢◌, ◌⊎◌, inl, inr, ⊎_elim, ℕ, List, [], ◌∷◌, Option, None, Some, Result, Ok, Err, refl, sym, ap, subst}
use Rattle.std.proofs.Common.{◌∙◌}
use Rattle.std.specs.Prelude.{Contains, option_map}
use Rattle.mg_text.specs.Call.{Name}
use Rattle.mg_text.specs.Places.{start_of}
use Rattle.mg_text.specs.declared.place.Place.{Place}
use Rattle.mg_read.specs.Culprit.{Culprit, culprit}
use Rattle.mg_read.specs.First.{Judged}
use Rattle.mg_read.specs.FirstLaws.{IsSingle}
use Rattle.mg_read.proofs.Judging.{one_answer, one_first}
use Rattle.mg_read.proofs.Steps.{some_is, none_is_not}
use Rattle.scr_tree.specs.declared.condition.Condition.{Condition}
use Rattle.scr_tree.specs.declared.local.Local.{Local}
use Rattle.scr_tree.specs.Local.{tree_of}
use Rattle.scr_tree.specs.Tree.{LocalTree}
use Rattle.scr_tree.specs.Tree as local
use Rattle.scr_judge.proofs.OneFault.{one_of}
use Rattle.scr_read.specs.declared.fault.ScrFault.{ScrFault}
use Rattle.scr_read.specs.Outcome.{Refused, fault_answer as scr_answer}
use Rattle.scr_read.specs.Outcome as scr
use Rattle.scr_read.specs.Parts.{parts, Makes, IsRefused, refused}
use Rattle.scr_global.specs.Tree.{Statements, Nothing, Says, Choice, Rec, Continue}
use Rattle.scr_global.specs.Spots.{spot, spots}
use Rattle.scr_global.specs.Conditions.{NotMergeable as IsNotMergeable}
use Rattle.scr_global.specs.Texts.{projected}
use Rattle.scr_global_tree.specs.Tree.{GlobalTree}
use Rattle.scr_project.specs.declared.fault.ProjectFault.{ProjectFault}
use Rattle.scr_project.specs.declared.fault.ProjectFault.TheVariants as faults
use Rattle.scr_project.specs.Outcome.{projection_of, IsOpenFault, Answer, Protocol, NotMergeable, Unprojected, Outcome, not_mergeable}
use Rattle.scr_project.specs.Outcome.{unprojected, found, answer_of, IsAnswered}
use Rattle.scr_project.specs.inner.Stages.{Stage, IsUnprojected}
use Rattle.scr_project.specs.inner.Walk.{unmerged}
use Rattle.scr_project.proofs.Early.{AreEarlyClean, open_only}
use Rattle.scr_project.proofs.Faults.{at_fault, first_unmerged}

-- ---- one answer

merge_single : (me : Name) → IsSingle (IsNotMergeable me)
merge_single me (spot way Nothing) c d a b = absurd a
merge_single me (spot way (Says m rest)) c d a b = absurd a
merge_single me (spot way (Choice place at branches rest)) c d a b = a.0 ∙ sym b.0
merge_single me (spot way (Rec place name body rest)) c d a b = absurd a
merge_single me (spot way (Continue place name rest)) c d a b = absurd a

place_is : (p q : Place) (n m : Name) → culprit p n ≡ culprit q m → p ≡ q
place_is p q n m e = cc

name_is : (p q : Place) (n m : Name) → culprit p n ≡ culprit q m → n ≡ m
name_is p q n m e = cc

module _ (g : GlobalTree) (me : Name) where
  none_or_some : (s : local.Statements) → projected me g.body ≡ None → projected me g.body ≡ Some s → ⊥
  none_or_some s e f = none_is_not s (sym e ∙ f)

  same_body : (s t : local.Statements) → projected me g.body ≡ Some s → projected me g.body ≡ Some t → s ≡ t
  same_body s t e f = some_is s t (sym e ∙ f)

  same_open : (s t : local.Statements) (r q : Option (Condition × Culprit)) → projected me g.body ≡ Some s → projected me g.body ≡ Some t →
      IsOpenFault (projection_of g me s) r → IsOpenFault (projection_of g me t) q → r ≡ q
  same_open s t r q e f j k =
      one_first (one_of (parts (projection_of g me t))) (subst (λ (b : local.Statements). IsOpenFault (projection_of g me b) r)
      (same_body s t e f) j) k

  same_place : (p q : Place) (n m : Name) → Judged (IsNotMergeable me) (spots [] g.body) (Some (culprit p n)) →
      Judged (IsNotMergeable me) (spots [] g.body) (Some (culprit q m)) →
      ◌≡◌ {A = Answer} (NotMergeable p n) (NotMergeable q m)
  same_place p q n m j k =
      let same = some_is (culprit p n) (culprit q m) (one_answer (merge_single me) j k) in
      let places = place_is p q n m same in let names = name_is p q n m same in λ i. NotMergeable (places i) (names i)

  same_fault : (s t : local.Statements) (c d : Condition) (p q : Place) (n m : Name) → projected me g.body ≡ Some s →
      projected me g.body ≡ Some t →
      IsOpenFault (projection_of g me s) (Some (c, culprit p n)) → IsOpenFault (projection_of g me t) (Some (d, culprit q m)) →
      ◌≡◌ {A = Answer} (Unprojected (start_of g.file) me (Refused c p n))
      (Unprojected (start_of g.file) me (Refused d q m))
  same_fault s t c d p q n m e f j k =
      let pair = some_is (c, culprit p n) (d, culprit q m) (same_open s t (Some (c, culprit p n)) (Some (d, culprit q m)) e f j k) in
      let conditions = ap (λ (x : Condition × Culprit). x.0) pair in
      let culprits = ap (λ (x : Condition × Culprit). x.1) pair in
      let places = place_is p q n m culprits in let names = name_is p q n m culprits in
      λ i. Unprojected (start_of g.file) me (Refused (conditions i) (places i) (names i))

  fault_or_not : (s t : local.Statements) (x : Condition × Culprit) → projected me g.body ≡ Some s → projected me g.body ≡ Some t →
      IsOpenFault (projection_of g me s) (Some x) → IsOpenFault (projection_of g me t) None → ⊥
  fault_or_not s t x e f j k = none_is_not x (sym (same_open s t (Some x) None e f j k))

  pub one_outcome : (a b : Answer) → Outcome g me a → Outcome g me b → a ≡ b
  one_outcome a b (not_mergeable {place = p} {name = n} e j) (not_mergeable {place = q} {name = m} f k) = same_place p q n m j k
  one_outcome a b (not_mergeable e j) (unprojected {body = s} f k) = absurd (none_or_some s e f)
  one_outcome a b (not_mergeable e j) (found {body = s} f k) = absurd (none_or_some s e f)
  one_outcome a b (unprojected {body = s} e j) (not_mergeable f k) = absurd (none_or_some s f e)
  one_outcome a b (unprojected {body = s} {condition = c} {place = p} {name = n} e j) (unprojected {body = t} {condition = d} {place = q}
      {name = m} f k) = same_fault s t c d p q n m e f j k
  one_outcome a b (unprojected {body = s} {condition = c} {place = p} {name = n} e j) (found {body = t} f k) =
      absurd (fault_or_not s t (c, culprit p n) e f j k)
  one_outcome a b (found {body = s} e j) (not_mergeable f k) = absurd (none_or_some s f e)
  one_outcome a b (found {body = t} f k) (unprojected {body = s} {condition = c} {place = p} {name = n} e j) =
      absurd (fault_or_not s t (c, culprit p n) e f j k)
  one_outcome a b (found {body = s} e j) (found {body = t} f k) = ap (λ (x : local.Statements). Protocol (projection_of g me x))
      (same_body s t e f)

  -- ---- what is answered

  pub only_of : (r : Result Local ProjectFault) → Stage g me r → (a : Answer) → Outcome g me a → IsAnswered a r
  only_of r s a h = go (answer_of r) refl
    where
      go : (o : Option Answer) → answer_of r ≡ o → IsAnswered a r
      go None e = inr (s.answers e)
      go (Some b) e = inl (e ∙ ap Some (one_outcome b a (s.right b e) h))

  pub stage_memory : Stage g me (Err faults.Memory)
  stage_memory = record { right = λ a e. absurd (none_is_not a e); answers = λ e. refl }

  -- the role has no projection
  pub stage_unmerged : (name : Name) (first : Option Place) (place : Place) → name ≡ me → projected me g.body ≡ None →
      first ≡ unmerged me g.body → first ≡ Some place →
      Stage g me (Err (faults.NotMergeable place name))
  stage_unmerged name first place is none e f = record {
    right = λ a h. subst (Outcome g me) (some_is (NotMergeable place name) a h)
        (not_mergeable none (subst (λ (c : Option Culprit). Judged (IsNotMergeable me) (spots [] g.body) c)
        (ap (at_fault me) (sym e ∙ f) ∙ ap (λ (n : Name). Some (culprit place n)) (sym is)) (first_unmerged me g.body)));
    answers = λ h. absurd (none_is_not (NotMergeable place name) (sym h));
  }

  module _ (s : local.Statements) (e : projected me g.body ≡ Some s) (early : AreEarlyClean (projection_of g me s)) where
    -- the projection is a local protocol
    pub stage_made : (made : Local) → Makes (projection_of g me s) (Ok made) → Stage g me (Ok made)
    stage_made made h = record {
      right = λ a f. subst (Outcome g me) (ap Protocol (sym h.0) ∙ some_is (Protocol (tree_of made)) a f)
          (found e (open_only (projection_of g me s) early None h.1));
      answers = λ f. absurd (none_is_not (Protocol (tree_of made)) (sym f));
    }

    -- or isn't
    refused_stage : (b : scr.Answer) → IsRefused (parts (projection_of g me s)) b → Outcome g me (Unprojected (start_of g.file) me b)
    refused_stage b (refused {condition = c} {place = p} {name = n} f) =
        unprojected e (open_only (projection_of g me s) early (Some (c, culprit p n)) f)

    told_stage : (fault : ScrFault) (o : Option scr.Answer) → scr_answer fault ≡ o → Makes (projection_of g me s) (Err fault) → o ≢ None →
        Stage g me (Err (faults.Unprojected (start_of g.file) me fault))
    told_stage fault None f h some = absurd (some refl)
    told_stage fault (Some b) f h some = record {
      right = λ a k. subst (Outcome g me)
          (some_is (Unprojected (start_of g.file) me b) a (sym (ap (option_map (Unprojected (start_of g.file) me)) f) ∙ k))
          (refused_stage b (h b f));
      answers = λ k. absurd (none_is_not (Unprojected (start_of g.file) me b) (sym k ∙ ap (option_map (Unprojected (start_of g.file) me))
          f));
    }

    pub stage_unprojected : (fault : ScrFault) (r : Result Local ProjectFault) → Makes (projection_of g me s) (Err fault) →
        IsUnprojected g.file me fault r → Stage g me r
    stage_unprojected fault r h u =
        ⊎_elim (λ k. subst (Stage g me) (sym k) stage_memory)
        (λ k. subst (Stage g me) (sym k.0) (told_stage fault (scr_answer fault) refl h k.1)) u
