use Rattle.std.proofs.Common.{◌≡◌, take}
use Rattle.std.specs.HashMap.{get_by_text}
use Rattle.mg_text.specs.Call.{Name}
use Rattle.scr_parse.specs.inner.Kinds.{kind_among}
use Rattle.scr_parse.proofs.types.Types.of.Given as goal

abbrev pub invariant-loop-declaration : goal.invariant-loop-declaration
invariant-loop-declaration l = (q : Name) → get_by_text l.kinds q ≡ kind_among (take l.declaration-index l.declaration-items) q
