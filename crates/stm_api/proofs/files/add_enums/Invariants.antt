use Rattle.std.proofs.Common.{◌≡◌, ◌++◌, drop, map}
use Rattle.stm_api.specs.Api.{enum_files}
use Rattle.stm_api.specs.View.{written_of}
use Rattle.stm_api.specs.inner.View.{doing_of}
use Rattle.stm_api.proofs.files.add_enums.Given as goal

abbrev pub invariant-loop-doing : goal.invariant-loop-doing
invariant-loop-doing l =
    map written_of l.initial.files.items ++ enum_files l.place l.me (map doing_of l.doings)
    ≡ map written_of l.files.items ++ enum_files l.place l.me (map doing_of (drop l.doing-index l.doings))
