use denote.Shadow.{shadow}
use denote.Text.{Utf8}
use Rattle.std.proofs.Common.{◌≡◌, ◌+◌, ◌*◌, ◌++◌, [], drop, string_bytes}
use Rattle.scr_tree.specs.View.{statements, bodies}
use Rattle.scr_read.specs.Layout.{lines, branch_lines}
use Rattle.scr_read.proofs.print.+print.Given as goal

abbrev pub invariant-put_all-loop-statement : goal.invariant-put_all-loop-statement
invariant-put_all-loop-statement l =
    string_bytes l.initial.out ++ lines l.roles l.level (statements l.body) ≡ string_bytes l.out ++ lines l.roles l.level
    (statements (drop l.statement-index l.body))

abbrev pub invariant-put_branches-loop-branch : goal.invariant-put_branches-loop-branch
invariant-put_branches-loop-branch l =
    shadow (Utf8 l.before) × (string_bytes l.initial.out ++ branch_lines l.roles [] l.level (bodies l.branches) ≡ string_bytes l.out
    ++ branch_lines l.roles l.before l.level (bodies (drop l.branch-index l.branches)))

abbrev pub decreases-put_statement : goal.decreases-put_statement
decreases-put_statement l = 4 * goal.size-put_statement l

abbrev pub decreases-put_all : goal.decreases-put_all
decreases-put_all l = 4 * goal.size-put_all l + 1

abbrev pub decreases-put_block : goal.decreases-put_block
decreases-put_block l = 4 * goal.size-put_block l + 2

abbrev pub decreases-put_branches : goal.decreases-put_branches
decreases-put_branches l = 4 * goal.size-put_branches l + 3
