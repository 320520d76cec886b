use Rattle.std.proofs.Common.{length}
use Rattle.std.specs.Prelude.{map}
use Rattle.mg_read.specs.Reader.{all_of}
use Rattle.jv_tree.specs.View.{field_of, method_of}
use Rattle.jv_grammar.specs.Files.{not_closed, member_at}
use Rattle.jv_parse.proofs.MemberTurns.{Sorting}
use Rattle.jv_parse.proofs.members.sorted_of.Given as goal

abbrev pub invariant-turns : goal.invariant-turns
invariant-turns l = Sorting (map field_of l.members.fields.items) (map method_of l.members.methods.items) l.rest
    (all_of not_closed member_at l.fn.tokens)

abbrev pub decreases-turns : goal.decreases-turns
decreases-turns l = length l.rest
