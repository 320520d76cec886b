-- Tests that tell how control may leave a statement.
use Rattle.std.specs.Prelude.{Option, Some, None, Bool, true, false, not, ◌&&◌, ◌||◌}
use Rattle.std.specs.List.{list_any}
use Rattle.std.specs.Str.{bytes_eq}
use Rattle.mg_text.specs.Call.{Name}
use Rattle.jv_tree.specs.Source.{Expr, Truth}
use Rattle.jv_tree.specs.Source.{Stmt, Block, Empty, Local, Assign, If, IfElse, While, Do, Switch, Break, Continue, Return, Print, Eval}
use Rattle.jv_tree.specs.Source.{Stmts, NoStmt, Then, Groups, NoGroup, Group}
use Rattle.jv_rules.specs.Completes.{Exit, Through, Breaks, Continues}

abbrev pub same_label : Option Name → Option Name → Bool
same_label None None = true
same_label None (Some n) = false
same_label (Some m) None = false
same_label (Some m) (Some n) = bytes_eq m n

abbrev pub is_through : Exit → Bool
is_through Through = true
is_through (Breaks l) = false
is_through (Continues l) = false

-- `break` without a label
abbrev pub is_break : Exit → Bool
is_break Through = false
is_break (Breaks None) = true
is_break (Breaks (Some n)) = false
is_break (Continues l) = false

abbrev pub names_loop : Option Name → Option Name → Bool
names_loop loop None = true
names_loop loop (Some name) = same_label loop (Some name)

abbrev pub is_always_true : Expr → Bool
is_always_true (Truth p b) = b
is_always_true _ = false

abbrev pub is_default : Option Name → Bool
is_default None = true
is_default (Some n) = false

abbrev pub has_default : Groups → Bool
has_default NoGroup = false
has_default (Group labels body end more) = list_any is_default labels || has_default more

abbrev pub passes : Option Name → Exit → Bool
passes loop Through = false
passes loop (Breaks label) = not (names_loop loop label)
passes loop (Continues label) = not (names_loop loop label)

-- with no label, or with the loop's
abbrev pub for_loop : Option Name → (Option Name → Bool) → Bool
for_loop None leads = leads None
for_loop (Some n) leads = leads None || leads (Some n)

abbrev mutual
  pub leaves : Stmt → Exit → Bool
  leaves (Block p body end) exit = leaves_all body exit
  leaves (Empty p) exit = is_through exit
  leaves (Local p ty n e) exit = is_through exit
  leaves (Assign p target value) exit = is_through exit
  leaves (If p c s) exit = is_through exit || leaves s exit
  leaves (IfElse p c s r) exit = leaves s exit || leaves r exit
  leaves (While p loop c s) exit =
      (is_through exit && (not (is_always_true c) || for_loop loop (λ l. leaves s (Breaks l)))) || (passes loop exit && leaves s exit)
  leaves (Do p loop s c) exit =
      (is_through exit
      && ((not (is_always_true c) && (leaves s Through || for_loop loop (λ l. leaves s (Continues l)))) || for_loop loop
      (λ l. leaves s (Breaks l))))
      || (passes loop exit && leaves s exit)
  leaves (Switch p e groups end) exit =
      (is_through exit && (not (has_default groups) || (leaves_last groups || leaves_some groups (Breaks None))))
      || (not (is_through exit) && (not (is_break exit) && leaves_some groups exit))
  leaves (Break p label) Through = false
  leaves (Break p label) (Breaks l) = same_label l label
  leaves (Break p label) (Continues l) = false
  leaves (Continue p label) Through = false
  leaves (Continue p label) (Breaks l) = false
  leaves (Continue p label) (Continues l) = same_label l label
  leaves (Return p value) exit = false
  leaves (Print p e) exit = is_through exit
  leaves (Eval p e) exit = is_through exit

  pub leaves_all : Stmts → Exit → Bool
  leaves_all NoStmt exit = is_through exit
  leaves_all (Then s more) exit = (not (is_through exit) && leaves s exit) || (leaves s Through && leaves_all more exit)

  pub leaves_some : Groups → Exit → Bool
  leaves_some NoGroup exit = false
  leaves_some (Group labels body end more) exit = leaves_all body exit || leaves_some more exit

  pub leaves_last : Groups → Bool
  leaves_last NoGroup = false
  leaves_last (Group labels body end NoGroup) = leaves_all body Through
  leaves_last (Group labels body end more) = leaves_last more
