-- What the example programs mean, all together.
use Rattle.jv_meaning.specs.examples.Small as small
use Rattle.jv_meaning.specs.examples.Programs as programs
use Rattle.jv_meaning.specs.examples.Roles as roles
use Rattle.jv_meaning.specs.examples.Followed as followed

pub record Computed : Type 0 where
  pub small : small.All
  pub programs : programs.All
  pub roles : roles.All
  pub followed : followed.All
