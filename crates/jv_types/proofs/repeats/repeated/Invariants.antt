use Rattle.std.proofs.Common.{◌≡◌, drop, map}
use Rattle.jv_tree.specs.View.{decl_of}
use Rattle.jv_rules.specs.inner.Deciding.{first_by}
use Rattle.jv_types.specs.inner.Repeating.{repeat_in}
use Rattle.jv_types.proofs.repeats.repeated.Given as goal

abbrev pub invariant-loop-decl : goal.invariant-loop-decl
invariant-loop-decl l = first_by repeat_in (map (λ d. decl_of d.now) (drop l.decl-index l.decls)) ≡ first_by repeat_in
    (map (λ d. decl_of d.now) l.decls)
