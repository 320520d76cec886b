use Rattle.std.proofs.Common.{◌≡◌, ◌++◌, None, drop, map}
use Rattle.std.specs.Prelude.{flat_map}
use Rattle.jv_tree.specs.View.{decl_of}
use Rattle.jv_rules.specs.inner.Deciding.{first_by}
use Rattle.jv_types.specs.inner.Repeating.{repeat_in}
use Rattle.jv_types.specs.inner.Kept.{enum_kept}
use Rattle.jv_types.proofs.build.enum_entries.Given as goal

abbrev pub invariant-loop-decl : goal.invariant-loop-decl
invariant-loop-decl l = record {
  members : first_by repeat_in (map (λ d. decl_of d.now) (drop l.decl-index l.decls)) ≡ None;
  enums :
      map (λ e. e.of.now) l.entries.items ++ flat_map enum_kept (map (λ d. d.now) (drop l.decl-index l.decls))
      ≡ flat_map enum_kept (map (λ d. d.now) l.decls);
}
