use Rattle.std.proofs.Common.{List, refl, ap, ◌∙◌, map}
use Rattle.mg_text.specs.Call.{Name}
use Rattle.jv_tree.specs.declared.tree.MethodDecl.{MethodDecl}
use Rattle.jv_tree.specs.View.{method_of}
use Rattle.jv_rules.specs.inner.Deciding.{first_by}
use Rattle.jv_types.specs.Tables.{program_in}
use Rattle.jv_types.specs.inner.Declaring.{broken_by_name, broken_names}
use Rattle.jv_types.specs.inner.Offering.{offers_seen}
use Rattle.jv_types.specs.inner.Tabled.{class_in}
use Rattle.jv_types.proofs.Demanding.{first_broken}
use Rattle.jv_types.proofs.demands.broken_by.Goals as goal

pub returns : goal.returns
returns c =
    first_broken (program_in c.args.table.now) c.args.demand (class_in c.args.entry.now) (offers_seen c.args.methods.now)
    c.note_broken.new.met c.args.entry.now.class.now.methods.items _
    c.args.entry.now.methods_apart refl
    (c.in_ok-note_broken.ensures
    ∙ ap (λ (met : List Name). broken_names (program_in c.args.table.now) c.args.demand (class_in c.args.entry.now) met
    (offers_seen c.args.methods.now)) c.new-met.ensures)
    (c.first_of.ensures ∙ ap (λ (l : List MethodDecl). first_by (broken_by_name c.note_broken.new.met) (map method_of l))
    c.as_slice.ensures.items)
