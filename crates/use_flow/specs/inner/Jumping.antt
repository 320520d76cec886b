-- What jumps to each place, as the code keeps it.
use Rattle.std.specs.Prelude.{◌≡◌, ◌≤◌, ℕ, List, None, length, slice_index_or, nat_eq, if◌then◌else◌}
use Rattle.use_flow.specs.declared.jumps.Lead.{Lead}
use Rattle.use_flow.specs.declared.jumps.Lead.TheVariants as leads
use Rattle.use_flow.specs.declared.jumps.Jumps.{Jumps}
use Rattle.use_rules.specs.State.{Now, Leads, BehindSwitch, BehindLoop, GoesOn}

abbrev pub lead_of : Lead → Leads
lead_of leads.BehindSwitch = BehindSwitch
lead_of (leads.BehindLoop l) = BehindLoop l
lead_of (leads.GoesOn l) = GoesOn l

-- all that has jumped there
abbrev pub held : Jumps → Leads → Now
held j BehindSwitch = j.behind_switch
held j (BehindLoop l) = slice_index_or j.behind_loops.items l None
held j (GoesOn l) = slice_index_or j.going_on.items l None

abbrev pub put_now : (at : ℕ) → Now → (l : ℕ) → Now → Now
put_now at now l before = if nat_eq at l then now else before

-- there is room up to a place, and all that stood there stands
pub record HasRoom (ns old : List Now) (at end : ℕ) : Type 0 where
  pub length-is : length ns ≡ at
  pub within : at ≤ end
  pub same : (l : ℕ) → slice_index_or ns l None ≡ slice_index_or old l None
