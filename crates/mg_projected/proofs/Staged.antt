-- What each step of projecting a file answers.
use Rattle.std.proofs.Common.{◌≡◌, ◌≢◌, ⊎_elim, ℕ, List, Option, None, Some, Ok, Err, refl, sym, ap, subst, ◌∙◌}
use Rattle.std.specs.Prelude.{option_map}
use Rattle.mg_text.specs.Row.{Row}
use Rattle.mg_read.proofs.Steps.{some_is, none_is_not}
use Rattle.scr_global_tree.specs.Tree.{GlobalTree}
use Rattle.scr_global_read.specs.declared.fault.GlobalFault.{GlobalFault}
use Rattle.scr_global_read.specs.declared.fault.GlobalFault.TheVariants as global_faults
use Rattle.scr_global_read.specs.Outcome as reads
use Rattle.scr_project.specs.declared.fault.ProjectFault.{ProjectFault}
use Rattle.scr_project.specs.declared.fault.ProjectFault.TheVariants as project_faults
use Rattle.scr_project.specs.Outcome as projects
use Rattle.mg_projected.specs.declared.files.RoleFile.{RoleFile}
use Rattle.mg_projected.specs.declared.fault.ProjectedFault.{ProjectedFault}
use Rattle.mg_projected.specs.declared.fault.ProjectedFault.TheVariants as faults
use Rattle.mg_projected.specs.Projected.{Files, Unread, Unprojected, Outcome, unread, unprojected, written, IsUnread, AreFiles, IsRefused}
use Rattle.mg_projected.specs.inner.Stages.{Says, Stage, IsTold}

-- a fault of reading says what is no protocol, or is want of memory
pub record SaysUnread (fault : GlobalFault) : Type 0 where
  pub right : (a : reads.Answer) → reads.fault_answer fault ≡ Some a → IsUnread a
  pub answers : reads.fault_answer fault ≡ None → fault ≡ global_faults.Memory

some_unread : (fault : GlobalFault) (b : reads.Answer) → reads.fault_answer fault ≡ Some b → IsUnread b → SaysUnread fault
some_unread fault b e u = record {
  right = λ a h. subst IsUnread (some_is b a (sym e ∙ h)) u;
  answers =
      λ h. absurd (none_is_not b (sym h ∙ e));
}

pub says_unread : (fault : GlobalFault) → SaysUnread fault
says_unread (global_faults.TooLarge place) = some_unread _ _ refl tt
says_unread (global_faults.BadByte place) = some_unread _ _ refl tt
says_unread (global_faults.Unsupported place name) = some_unread _ _ refl tt
says_unread (global_faults.Syntax place) = some_unread _ _ refl tt
says_unread (global_faults.Unmet condition place name) = some_unread _ _ refl tt
says_unread global_faults.Memory = record { right = λ a h. absurd (none_is_not a h); answers = λ h. refl }

module _ (file : ℕ) (bytes : List ℕ) where
  pub stage_memory : Stage file bytes (Err faults.Memory)
  stage_memory = record { right = λ a e. absurd (none_is_not a e); answers = λ e. refl }

  pub stage_written : (g : GlobalTree) (files : Row RoleFile) → reads.Outcome file bytes (reads.Protocol g) → AreFiles g g.roles files.items
      → Stage file bytes (Ok files)
  stage_written g files h k = record {
    right = λ a e. subst (Outcome file bytes) (some_is (Files files.items) a e) (written h k);
    answers = λ e. absurd (none_is_not (Files files.items) (sym e));
  }

  pub stage_unprojected : (g : GlobalTree) (fault : ProjectFault) → reads.Outcome file bytes (reads.Protocol g) →
      Says (IsRefused g g.roles) fault → fault ≢ project_faults.Memory →
      Stage file bytes (Err (faults.Unprojected fault))
  stage_unprojected g fault h s n = go (projects.fault_answer fault) refl
    where
      go : (o : Option projects.Answer) → projects.fault_answer fault ≡ o → Stage file bytes (Err (faults.Unprojected fault))
      go None e = absurd (n (s.answers e))
      go (Some b) e = record {
        right = λ a k. subst (Outcome file bytes) (some_is (Unprojected b) a (sym (ap (option_map Unprojected) e) ∙ k))
            (unprojected h (s.right b e));
        answers = λ k. absurd (none_is_not (Unprojected b) (sym k ∙ ap (option_map Unprojected) e));
      }

  pub stage_unread : (fault : GlobalFault) → ((a : reads.Answer) → reads.fault_answer fault ≡ Some a → reads.Outcome file bytes a) →
      fault ≢ global_faults.Memory → Stage file bytes (Err (faults.Unread fault))
  stage_unread fault h n = go (reads.fault_answer fault) refl
    where
      go : (o : Option reads.Answer) → reads.fault_answer fault ≡ o → Stage file bytes (Err (faults.Unread fault))
      go None e = absurd (n ((says_unread fault).answers e))
      go (Some b) e = record {
        right = λ a k. subst (Outcome file bytes) (some_is (Unread b) a (sym (ap (option_map Unread) e) ∙ k))
            (unread (h b e) ((says_unread fault).right b e));
        answers = λ k. absurd (none_is_not (Unread b) (sym k ∙ ap (option_map Unread) e));
      }

  pub told_unprojected : (g : GlobalTree) (fault : ProjectFault) (r : ProjectedFault) → reads.Outcome file bytes (reads.Protocol g) →
      Says (IsRefused g g.roles) fault →
      IsTold fault project_faults.Memory (faults.Unprojected fault) r → Stage file bytes (Err r)
  told_unprojected g fault r h s t =
      ⊎_elim (λ e. subst (λ (f : ProjectedFault). Stage file bytes (Err f)) (sym e) stage_memory)
      (λ e. subst (λ (f : ProjectedFault). Stage file bytes (Err f)) (sym e.1) (stage_unprojected g fault h s e.0)) t

  pub told_unread : (fault : GlobalFault) (r : ProjectedFault) → ((a : reads.Answer) → reads.fault_answer fault ≡ Some a →
      reads.Outcome file bytes a) →
      IsTold fault global_faults.Memory (faults.Unread fault) r → Stage file bytes (Err r)
  told_unread fault r h t =
      ⊎_elim (λ e. subst (λ (f : ProjectedFault). Stage file bytes (Err f)) (sym e) stage_memory)
      (λ e. subst (λ (f : ProjectedFault). Stage file bytes (Err f)) (sym e.1) (stage_unread fault h e.0)) t
