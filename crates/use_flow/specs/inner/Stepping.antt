-- Statements, as the code follows them.
use Rattle.std.specs.Prelude.{◌≡◌, ℕ, List, [], ◌∷◌, ◌++◌, Option, Some, None, reverse}
use Rattle.mg_text.specs.declared.place.Place.{Place}
use Rattle.jv_core.specs.Tree.{Expr, Stmt, Local, Stmts}
use Rattle.use_flow.specs.declared.jumps.Jumps.{Jumps}
use Rattle.use_flow.specs.declared.course.Course.{Course}
use Rattle.use_rules.specs.Elements.{Set}
use Rattle.use_rules.specs.State.{Now, Log, Leads, BehindLoop, GoesOn, Jump, Flow, joined, caught, passing, leaving}
use Rattle.use_rules.specs.Flow as rules
use Rattle.use_flow.specs.View.{tables_of, log_of}
use Rattle.use_flow.specs.inner.Followed.{Followed, eval, heads, at_head}
use Rattle.use_flow.specs.inner.Jumping.{held}
use Rattle.use_flow.specs.inner.Simple.{exit, declared}

-- the slots in scope, the last one first
abbrev pub scope_of : Course → List ℕ
scope_of c = reverse c.scope.items

-- What the code has behind a statement is what the rules have: what flows on, what was met, and what jumps to each place
-- beside what has jumped there before.
pub record Follows (f : Flow) (scope : List ℕ) (before : Jumps) (now : Now) (behind : Course) : Type 0 where
  pub now-is : now ≡ f.now
  pub log-is : log_of behind.log ≡ f.log
  pub scope-is : behind.scope.items ≡ scope
  pub jumps : (to : Leads) → held behind.jumps to ≡ joined (held before to) (caught to f.jumps)

abbrev pub step : Followed → (scope outer : List ℕ) → Stmt → Now → Log → Flow
step s = rules.step s.program s.contexts s.context s.method (tables_of s.held)

abbrev pub steps : Followed → (scope outer : List ℕ) → Stmts → Now → Log → Flow
steps s = rules.steps s.program s.contexts s.context s.method (tables_of s.held)

-- one part, and then another
abbrev pub both_flows : Flow → Flow → Flow
both_flows f g = rules.flow g.now (f.jumps ++ g.jumps) g.log

-- A statement of a list, which may be a declaration.

pub record Declared : Type 0 where
  pub slot : ℕ
  pub value : Expr

abbrev pub local_in : Stmt → Option Declared
local_in (Local q k e) = Some (record { slot = k; value = e })
local_in _ = None

abbrev pub declared_by : Option Declared → List ℕ
declared_by None = []
declared_by (Some d) = d.slot ∷ []

abbrev pub item : Followed → (scope outer : List ℕ) → Option Declared → Stmt → Now → Log → Flow
item s sc out None x now log = step s sc out x now log
item s sc out (Some d) x now log = declared s d.slot d.value now log

-- Conditions.

abbrev pub if_flow : Followed → (scope outer : List ℕ) → Stmt → rules.Evaluated → Flow
if_flow s sc out body v = let f = step s sc out body v.yes v.log in rules.flow (joined f.now v.no) f.jumps f.log

abbrev pub if_else_flow : Followed → (scope outer : List ℕ) → (then otherwise : Stmt) → rules.Evaluated → Flow
if_else_flow s sc out body other v =
    let f = step s sc out body v.yes v.log in
    let g = step s sc out other v.no f.log in
    rules.flow (joined f.now g.now) (f.jumps ++ g.jumps) g.log

-- Loops and jumps.

abbrev pub loop_flow : (loop : ℕ) → (behind : Now) → List Jump → Log → Flow
loop_flow l behind js log =
    rules.flow (joined behind (caught (BehindLoop l) js)) (passing (GoesOn l) (passing (BehindLoop l) js)) log

-- where a turn of a loop ends, with what goes on there, and what jumps on past the loop
abbrev pub turn_flow : (loop : ℕ) → Flow → Flow
turn_flow l f = rules.flow (joined f.now (caught (GoesOn l) f.jumps)) (passing (GoesOn l) (passing (BehindLoop l) f.jumps)) f.log

-- What the code has behind a turn of a loop: what the rules have at its end, and what jumps behind the loop.
pub record Turned (l : ℕ) (f : Flow) (scope : List ℕ) (before : Jumps) (end leaves : Now) (behind : Course) : Type 0 where
  pub follows : Follows (turn_flow l f) scope before end behind
  pub leaves-is : leaves ≡ caught (BehindLoop l) f.jumps

abbrev pub while_end : Followed → (scope outer : List ℕ) → (loop : ℕ) → Stmt → rules.Evaluated → Flow
while_end s sc out l body v =
    let f = step s sc out body v.yes v.log in
    loop_flow l v.no f.jumps (heads s l (joined f.now (caught (GoesOn l) f.jumps)) f.log)

abbrev pub while_flow : Followed → (scope outer : List ℕ) → (loop : ℕ) → Expr → Stmt → List Set → Log → Flow
while_flow s sc out l c body sets log = while_end s sc out l body (eval s 0 c (Some (at_head s l sets)) (heads s l (Some sets) log))

abbrev pub do_end : Followed → (loop : ℕ) → List Jump → rules.Evaluated → Flow
do_end s l js v = loop_flow l v.no js (heads s l v.yes v.log)

abbrev pub do_flow : Followed → (scope outer : List ℕ) → (loop : ℕ) → Stmt → Expr → List Set → Log → Flow
do_flow s sc out l body c sets log =
    let f = step s sc out body (Some (at_head s l sets)) (heads s l (Some sets) log) in
    do_end s l f.jumps (eval s 0 c (joined f.now (caught (GoesOn l) f.jumps)) f.log)

abbrev pub jumped : Leads → Flow → Flow
jumped to f = rules.flow None (record { to = to; now = f.now } ∷ []) f.log

abbrev pub jump_flow : Followed → Place → Leads → (scope stays : List ℕ) → List Set → Log → Flow
jump_flow s q to sc stays sets log = jumped to (exit s q (leaving sc stays) (rules.flow (Some sets) [] log))
