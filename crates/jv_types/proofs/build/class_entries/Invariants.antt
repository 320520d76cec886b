use Rattle.std.proofs.Common.{◌≡◌, ◌++◌, None, drop, map}
use Rattle.std.specs.Prelude.{flat_map}
use Rattle.jv_tree.specs.View.{decl_of}
use Rattle.jv_rules.specs.inner.Deciding.{first_by}
use Rattle.jv_types.specs.inner.Repeating.{repeat_in}
use Rattle.jv_types.specs.inner.Kept.{class_kept, typestate_in, followed}
use Rattle.jv_types.specs.inner.Numbers.{numbers_in, numbers_from, methods_in, classes_seen}
use Rattle.jv_types.proofs.build.class_entries.Given as goal

abbrev pub invariant-loop-decl : goal.invariant-loop-decl
invariant-loop-decl l = record {
  members : first_by repeat_in (map (λ d. decl_of d.now) (drop l.decl-index l.decls)) ≡ None;
  classes :
      map (λ e. e.class.now) l.entries.items ++ flat_map class_kept (map (λ d. d.now) (drop l.decl-index l.decls))
      ≡ flat_map class_kept (map (λ d. d.now) l.decls);
  follow : map typestate_in l.entries.items ≡ map (followed l.typestates) l.entries.items;
  numbers : map numbers_in l.entries.items ≡ numbers_from l.names 0 0 (classes_seen l.entries.items);
  methods : l.methods ≡ methods_in (classes_seen l.entries.items);
}
