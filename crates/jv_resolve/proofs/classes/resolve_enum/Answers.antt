use Rattle.std.proofs.Common.{map, sym, ap, ◌∙◌}
use Rattle.jv_tree.specs.View.{enum_of}
use Rattle.jv_resolve_law.specs.Tables.{interned}
use Rattle.jv_resolve_law.specs.Members.{all_interned}
use Rattle.jv_resolve.proofs.MemberSteps.{enum_made}
use Rattle.jv_resolve.proofs.classes.resolve_enum.Goals as goal

pub returns : goal.returns
returns c =
    enum_made c.args.names.now (enum_of c.args.of.now) c.in_ok-name.name.0 c.add_name.new.names
    (map (λ n. n.0) c.in_ok-constants.constants.items) c.number_all.new.names
    (ap (interned c.args.names.now) (sym c.as_str.ensures) ∙ c.in_ok-name.ensures.number)
    (ap (all_interned c.add_name.new.names) (sym c.as_slice.ensures.items) ∙ c.in_ok-constants.ensures)
