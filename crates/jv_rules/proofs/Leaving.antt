-- The tests that tell how control may leave a statement are right.
use Rattle.std.proofs.Common.{◌≡◌, ◌⊎◌, inl, inr, ⊎_elim, Option, Some, None, Bool, ◌||◌, Decides, refl, sym, ap, subst}
use Rattle.std.specs.List.{list_any}
use Rattle.std.specs.Str.{bytes_eq}
use Rattle.std.proofs.lemmas.Bool.Decides.{Decides-and, Decides-or, Decides-not}
use Rattle.std.proofs.lemmas.Option.{same_Some}
use Rattle.std.proofs.lemmas.Slice.Eq.{bytes_eq-Decides}
use Rattle.mg_text.specs.Call.{Name}
use Rattle.jv_tree.specs.Source.{Expr, Int, Truth, Text, Null, This, Variable, Member, Neg, Not, Binary, Call, MethodCall, New}
use Rattle.jv_tree.specs.Source.{Stmt, Block, Empty, Local, Assign, If, IfElse, While, Do, Switch, Break, Continue, Return, Print, Eval}
use Rattle.jv_tree.specs.Source.{Stmts, NoStmt, Then, Groups, NoGroup, Group}
use Rattle.jv_rules.specs.Completes.{Exit, Through, Breaks, Continues, NamesLoop, IsAlwaysTrue, HasDefault, Passes, Leaves, LeavesAll}
use Rattle.jv_rules.specs.Completes.{LeavesSome, LeavesLast}
use Rattle.jv_rules.specs.inner.Leaving.{same_label, is_through, is_break, names_loop, is_always_true, is_default, has_default, passes}
use Rattle.jv_rules.specs.inner.Leaving.{for_loop, leaves, leaves_all, leaves_some, leaves_last}
use Rattle.jv_rules.proofs.Tests.{holds, fails, decides_as, any_decides}

pub same_label-Decides : (a b : Option Name) → Decides (same_label a b) (a ≡ b)
same_label-Decides None None = holds refl
same_label-Decides None (Some n) = fails (λ e. let no : ⊥ = cc in no)
same_label-Decides (Some m) None = fails (λ e. let no : ⊥ = cc in no)
same_label-Decides (Some m) (Some n) = decides_as (bytes_eq m n) (bytes_eq-Decides m n) (λ e. ap Some e) (λ e. same_Some m n e)

through-Decides : (exit : Exit) → Decides (is_through exit) (exit ≡ Through)
through-Decides Through = holds refl
through-Decides (Breaks l) = fails (λ e. let no : ⊥ = cc in no)
through-Decides (Continues l) = fails (λ e. let no : ⊥ = cc in no)

abbrev label_of : Exit → Option Name
label_of Through = None
label_of (Breaks l) = l
label_of (Continues l) = l

break-Decides : (exit : Exit) → Decides (is_break exit) (exit ≡ Breaks None)
break-Decides Through = fails (λ e. let no : ⊥ = cc in no)
break-Decides (Breaks None) = holds refl
break-Decides (Breaks (Some n)) = fails (λ e. let same : Some n ≡ None = ap label_of e in let no : ⊥ = cc in no)
break-Decides (Continues l) = fails (λ e. let no : ⊥ = cc in no)

names-Decides : (loop label : Option Name) → Decides (names_loop loop label) (NamesLoop loop label)
names-Decides loop None = holds tt
names-Decides loop (Some n) = same_label-Decides loop (Some n)

true-Decides : (e : Expr) → Decides (is_always_true e) (IsAlwaysTrue e)
true-Decides (Int p z) = fails (λ x. x)
true-Decides (Truth p b) = (λ e. e, λ e. e)
true-Decides (Text p t) = fails (λ x. x)
true-Decides (Null p) = fails (λ x. x)
true-Decides (This p) = fails (λ x. x)
true-Decides (Variable p n) = fails (λ x. x)
true-Decides (Member p e n) = fails (λ x. x)
true-Decides (Neg p e) = fails (λ x. x)
true-Decides (Not p e) = fails (λ x. x)
true-Decides (Binary p o l r) = fails (λ x. x)
true-Decides (Call p n args) = fails (λ x. x)
true-Decides (MethodCall p e n args) = fails (λ x. x)
true-Decides (New p n) = fails (λ x. x)

none-Decides : (o : Option Name) → Decides (is_default o) (o ≡ None)
none-Decides None = holds refl
none-Decides (Some n) = fails (λ e. let no : ⊥ = cc in no)

default-Decides : (groups : Groups) → Decides (has_default groups) (HasDefault groups)
default-Decides NoGroup = fails (λ x. x)
default-Decides (Group labels body end more) =
    Decides-or (list_any is_default labels) (has_default more) (any_decides is_default None none-Decides labels) (default-Decides more)

passes-Decides : (loop : Option Name) (exit : Exit) → Decides (passes loop exit) (Passes loop exit)
passes-Decides loop Through = fails (λ x. x)
passes-Decides loop (Breaks l) = Decides-not (names_loop loop l) (names-Decides loop l)
passes-Decides loop (Continues l) = Decides-not (names_loop loop l) (names-Decides loop l)

loop-Decides : (loop : Option Name) (leads : Option Name → Bool) (Leads : Option Name → Type 0) →
    ((l : Option Name) → Decides (leads l) (Leads l)) →
    Decides (for_loop loop leads) ((label : Option Name) × NamesLoop loop label × Leads label)
loop-Decides None leads Leads each = decides_as (leads None) (each None) (λ p. (None, tt, p)) (λ q. back q.0 q.1 q.2)
  where
    back : (l : Option Name) → NamesLoop None l → Leads l → Leads None
    back None h p = p
    back (Some n) h p = let no : ⊥ = cc in absurd no
loop-Decides (Some m) leads Leads each =
    decides_as (leads None || leads (Some m)) (Decides-or (leads None) (leads (Some m)) (each None) (each (Some m)))
    (λ q. ⊎_elim (λ p. (None, tt, p)) (λ p. (Some m, refl, p)) q) (λ q. back q.0 q.1 q.2)
  where
    back : (l : Option Name) → NamesLoop (Some m) l → Leads l → Leads None ⊎ Leads (Some m)
    back None h p = inl p
    back (Some n) h p = inr (subst Leads (sym h) p)

breaks_as : (l label : Option Name) → Decides (same_label l label) (Breaks l ≡ Breaks label)
breaks_as l label = decides_as (same_label l label) (same_label-Decides l label) (λ e. ap Breaks e) (λ e. ap label_of e)

continues_as : (l label : Option Name) → Decides (same_label l label) (Continues l ≡ Continues label)
continues_as l label = decides_as (same_label l label) (same_label-Decides l label) (λ e. ap Continues e) (λ e. ap label_of e)

mutual
  pub leaves-Decides : (s : Stmt) (exit : Exit) → Decides (leaves s exit) (Leaves s exit)
  leaves-Decides (Block p body end) exit = leaves_all-Decides body exit
  leaves-Decides (Empty p) exit = through-Decides exit
  leaves-Decides (Local p ty n e) exit = through-Decides exit
  leaves-Decides (Assign p target value) exit = through-Decides exit
  leaves-Decides (If p c s) exit = Decides-or (is_through exit) (leaves s exit) (through-Decides exit) (leaves-Decides s exit)
  leaves-Decides (IfElse p c s r) exit = Decides-or (leaves s exit) (leaves r exit) (leaves-Decides s exit) (leaves-Decides r exit)
  leaves-Decides (While p loop c s) exit =
      Decides-or _ _
      (Decides-and _ _ (through-Decides exit)
      (Decides-or _ _ (Decides-not _ (true-Decides c)) (loop-Decides loop _ (λ l. Leaves s (Breaks l)) (λ l. leaves-Decides s (Breaks l)))))
      (Decides-and _ _ (passes-Decides loop exit) (leaves-Decides s exit))
  leaves-Decides (Do p loop s c) exit =
      Decides-or _ _
      (Decides-and _ _ (through-Decides exit)
      (Decides-or _ _
      (Decides-and _ _ (Decides-not _ (true-Decides c))
      (Decides-or _ _ (leaves-Decides s Through) (loop-Decides loop _ (λ l. Leaves s (Continues l)) (λ l. leaves-Decides s (Continues l)))))
      (loop-Decides loop _ (λ l. Leaves s (Breaks l)) (λ l. leaves-Decides s (Breaks l)))))
      (Decides-and _ _ (passes-Decides loop exit) (leaves-Decides s exit))
  leaves-Decides (Switch p e groups end) exit =
      Decides-or _ _
      (Decides-and _ _ (through-Decides exit)
      (Decides-or _ _ (Decides-not _ (default-Decides groups))
      (Decides-or _ _ (leaves_last-Decides groups) (leaves_some-Decides groups (Breaks None)))))
      (decides_as _ (Decides-and _ _ (Decides-not _ (through-Decides exit)) (Decides-and _ _ (Decides-not _ (break-Decides exit))
      (leaves_some-Decides groups exit)))
      (λ q. (q.0, q.1.0, q.1.1)) (λ q. (q.0, (q.1, q.2))))
  leaves-Decides (Break p label) Through = fails (λ e. let no : ⊥ = cc in no)
  leaves-Decides (Break p label) (Breaks l) = breaks_as l label
  leaves-Decides (Break p label) (Continues l) = fails (λ e. let no : ⊥ = cc in no)
  leaves-Decides (Continue p label) Through = fails (λ e. let no : ⊥ = cc in no)
  leaves-Decides (Continue p label) (Breaks l) = fails (λ e. let no : ⊥ = cc in no)
  leaves-Decides (Continue p label) (Continues l) = continues_as l label
  leaves-Decides (Return p value) exit = fails (λ x. x)
  leaves-Decides (Print p e) exit = through-Decides exit
  leaves-Decides (Eval p e) exit = through-Decides exit

  pub leaves_all-Decides : (body : Stmts) (exit : Exit) → Decides (leaves_all body exit) (LeavesAll body exit)
  leaves_all-Decides NoStmt exit = through-Decides exit
  leaves_all-Decides (Then s more) exit =
      Decides-or _ _ (Decides-and _ _ (Decides-not _ (through-Decides exit)) (leaves-Decides s exit))
      (Decides-and _ _ (leaves-Decides s Through) (leaves_all-Decides more exit))

  leaves_some-Decides : (groups : Groups) (exit : Exit) → Decides (leaves_some groups exit) (LeavesSome groups exit)
  leaves_some-Decides NoGroup exit = fails (λ x. x)
  leaves_some-Decides (Group labels body end more) exit = Decides-or _ _ (leaves_all-Decides body exit) (leaves_some-Decides more exit)

  leaves_last-Decides : (groups : Groups) → Decides (leaves_last groups) (LeavesLast groups)
  leaves_last-Decides NoGroup = fails (λ x. x)
  leaves_last-Decides (Group labels body end NoGroup) = leaves_all-Decides body Through
  leaves_last-Decides (Group labels body end (Group l b e more)) = leaves_last-Decides (Group l b e more)
