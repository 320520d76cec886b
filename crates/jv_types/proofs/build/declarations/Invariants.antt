use Rattle.std.proofs.Common.{◌≡◌, ◌++◌, drop, map}
use Rattle.jv_types.specs.inner.Kept.{kept_decls}
use Rattle.jv_types.proofs.build.declarations.Given as goal

abbrev pub invariant-loop-file : goal.invariant-loop-file
invariant-loop-file l = map (λ d. d.now) l.all.items ++ kept_decls (drop l.file-index l.files) ≡ kept_decls l.files
