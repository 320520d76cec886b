use Rattle.std.proofs.Common.{◌≡◌, drop, map}
use Rattle.jv_tree.specs.View.{decl_of}
use Rattle.jv_types.specs.inner.Repeating.{repeat_type}
use Rattle.jv_types.proofs.repeats.type_met.Given as goal

abbrev pub invariant-loop-decl : goal.invariant-loop-decl
invariant-loop-decl l = repeat_type l.met (map (λ d. decl_of d.now) (drop l.decl-index l.decls)) ≡ repeat_type l.initial.met
    (map (λ d. decl_of d.now) l.decls)
