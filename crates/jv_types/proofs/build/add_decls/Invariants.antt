use Rattle.std.proofs.Common.{◌≡◌, ◌++◌, take, map}
use Rattle.jv_types.proofs.build.add_decls.Given as goal

abbrev pub invariant-loop-decl : goal.invariant-loop-decl
invariant-loop-decl l = map (λ d. d.now) l.all.items ≡ map (λ d. d.now) l.initial.all.items ++ take l.decl-index l.decls
