-- What holds at each moment of a run, put together.
use Rattle.std.proofs.Common.{◌≡◌, ◌⊎◌, inl, inr, ℕ, false}
use Rattle.insp_rules.specs.Skeleton.{State}
use Rattle.insp_law.specs.Laws.{MayBeLeft, GivesBack, RunsAreSafe}
use Rattle.insp_law.proofs.Whole.{runs_keep, all_right}
use Rattle.insp_law.proofs.Leaving.{LeftIf, leaves_moving}
use Rattle.insp_law.proofs.Handing.{goes_on, on_objects, on_again, stays, hands_none, gives_plain, gives_new}

pub runs_are_safe : RunsAreSafe
runs_are_safe p numbering roots inspected begin s b r =
    let i = runs_keep p numbering roots inspected begin b r in
    record {
      right = all_right p numbering roots inspected i;
      goes_on = goes_on p numbering roots inspected i;
      on_objects = on_objects p numbering roots inspected i;
      on_again = on_again p numbering roots inspected i;
      stays = stays p numbering roots inspected i;
      hands_none = hands_none p numbering roots inspected i;
      gives_plain = gives_plain p numbering roots inspected i;
      gives_new = gives_new p numbering roots inspected i;
      leaves = λ t step o there had gone. pick t o there (leaves_moving p numbering roots inspected i step o had gone);
    }
  where
    pick : (t : State) (o : ℕ) → (t.things o).null ≡ false → LeftIf (t.things o) ⊎ GivesBack p s o →
        MayBeLeft (t.things o) ⊎ GivesBack p s o
    pick t o there (inl w) = inl (w there)
    pick t o there (inr w) = inr w
