-- What the code has behind statements, part by part.
use Rattle.std.proofs.Common.{◌≡◌, ℕ, List, [], ◌∷◌, ◌++◌, length, drop, take, get_or, map, reverse, Option, Some, None, refl, sym, ap, ◌∙◌}
use Rattle.std.proofs.Common.{subst, append_assoc, ◌+◌, ◌<◌, ◌≤◌}
use Rattle.std.specs.Prelude.{if◌then◌else◌, ◌||◌}
use Rattle.std.proofs.Math.Seq.{drop-append_seam, take-append_seam}
use Rattle.std.proofs.lemmas.List.{reverse-append, at_drop_more, at_drop_all}
use Rattle.mg_text.specs.declared.place.Place.{Place}
use Rattle.jv_core.specs.declared.tree.CoreStmt.{CoreStmt}
use Rattle.jv_core.specs.Tree.{Expr, Stmt, Block, Empty, Local, Assign, If, IfElse, While, Do, Switch, Break, Continue, Return, Print, Eval}
use Rattle.jv_core.specs.Tree.{Stmts, NoStmt}
use Rattle.jv_core.specs.View.{stmt_of, stmts_of, before}
use Rattle.use_flow.specs.declared.jumps.Aside.{Aside}
use Rattle.use_flow.specs.declared.jumps.Jumps.{Jumps}
use Rattle.use_flow.specs.declared.course.Course.{Course}
use Rattle.use_rules.specs.Elements.{Set}
use Rattle.use_rules.specs.State.{Now, Log, Leads, BehindLoop, GoesOn, same_lead, Jump, Flow, joined, caught, passing}
use Rattle.use_rules.specs.Flow.{Evaluated, flow, declared_here}
use Rattle.use_flow.specs.View.{log_of}
use Rattle.use_flow.specs.inner.Followed.{Followed, eval, heads, at_head}
use Rattle.use_flow.specs.inner.Jumping.{held}
use Rattle.use_flow.specs.inner.Simple.{exit, declared}
use Rattle.use_flow.specs.inner.Stepping.{Follows, both_flows, step, steps, Declared, local_in, declared_by, item, if_flow, if_else_flow}
use Rattle.use_flow.specs.inner.Stepping.{Turned, while_end, while_flow, do_end, do_flow}
use Rattle.use_flow.specs.inner.Values.{parted, both_ways}
use Rattle.use_elements.proofs.Rests.{append_nil}
use Rattle.use_flow.proofs.Jumping.{joined-none, held_more, behind-caught, on-caught, loop_held}

pub follows_as : (f g : Flow) (scope : List ℕ) (j : Jumps) (n : Now) (c : Course) → f ≡ g → Follows f scope j n c → Follows g scope j n c
follows_as f g scope j n c e h = subst (λ x. Follows x scope j n c) e h

-- nothing jumps
pub quiet_follows : (f : Flow) (scope : List ℕ) (j : Jumps) (n : Now) (c : Course) → flow n [] (log_of c.log) ≡ f → c.scope.items ≡ scope →
    c.jumps ≡ j → Follows f scope j n c
quiet_follows f scope j n c e es ej =
    follows_as (flow n [] (log_of c.log)) f scope j n c e
    (record { now-is = refl; log-is = refl; scope-is = es; jumps = λ to. ap (λ (x : Jumps). held x to) ej ∙ sym (joined-none (held j to)) })

none_flows : (s : Followed) (sc out : List ℕ) (x : Stmt) (log : Log) → flow None [] log ≡ step s sc out x None log
none_flows s sc out (Block q b e) log = refl
none_flows s sc out (Empty q) log = refl
none_flows s sc out (Local q k e) log = refl
none_flows s sc out (Assign q x e) log = refl
none_flows s sc out (If q c b) log = refl
none_flows s sc out (IfElse q c b r) log = refl
none_flows s sc out (While q l c b) log = refl
none_flows s sc out (Do q l b c) log = refl
none_flows s sc out (Switch q e gs end) log = refl
none_flows s sc out (Break q l) log = refl
none_flows s sc out (Continue q l) log = refl
none_flows s sc out (Return q e) log = refl
none_flows s sc out (Print q e) log = refl
none_flows s sc out (Eval q e) log = refl

-- what isn't reached flows nowhere
pub none_step : (s : Followed) (sc out : List ℕ) (x : Stmt) (now : Now) (log : Log) → now ≡ None → flow None [] log ≡ step s sc out x now
    log
none_step s sc out x now log e = none_flows s sc out x log ∙ ap (λ y. step s sc out x y log) (sym e)

-- one part, and then another from where the first ends
pub then_follows : (f g : Flow) (scope scope' : List ℕ) (j : Jumps) (n m : Now) (c d : Course) → Follows f scope' j n c →
    Follows g scope c.jumps m d →
    Follows (both_flows f g) scope j m d
then_follows f g scope scope' j n m c d a b = record {
  now-is = b.now-is;
  log-is = b.log-is;
  scope-is = b.scope-is;
  jumps = λ to. held_more to (held j to) (held c.jumps to) (held d.jumps to) f.jumps g.jumps (a.jumps to) (b.jumps to);
}

-- what comes next starts where the rules have it
pub moved : (F : List ℕ → Log → Flow) (f : Flow) (scope : List ℕ) (j : Jumps) (n m : Now) (c d : Course) → Follows f scope j n c →
    Follows (F c.scope.items (log_of c.log)) c.scope.items c.jumps m d → Follows (F scope f.log) scope c.jumps m d
moved F f scope j n m c d a b =
    subst (λ l. Follows (F scope l) scope c.jumps m d) a.log-is (subst (λ sc. Follows (F sc (log_of c.log)) sc c.jumps m d) a.scope-is b)

-- what flows on is joined with a way past it
pub beside_follows : (f : Flow) (past : Now) (scope : List ℕ) (j : Jumps) (n m : Now) (c : Course) → Follows f scope j n c →
    m ≡ joined n past →
    Follows (flow (joined f.now past) f.jumps f.log) scope j m c
beside_follows f past scope j n m c a e = record {
  now-is = e ∙ ap (λ x. joined x past) a.now-is;
  log-is = a.log-is;
  scope-is =
      a.scope-is;
  jumps = a.jumps;
}

module _ (s : Followed) (out scope : List ℕ) (j : Jumps) where
  pub if_follows : (body : Stmt) (v : Evaluated) (holds fails n m : Now) (log : Log) (c : Course) → parted holds fails log ≡ both_ways v →
      Follows (step s (reverse scope) out body holds log) scope j n c → m ≡ joined n fails → Follows (if_flow s (reverse scope) out body v)
      scope j m c
  if_follows body v holds fails n m log c ev a em =
      follows_as (if_flow s (reverse scope) out body (parted holds fails log)) (if_flow s (reverse scope) out body v) scope j m c
      (ap (if_flow s (reverse scope) out body) ev)
      (beside_follows (step s (reverse scope) out body holds log) fails scope j n m c a em)

  pub if_else_follows : (body other : Stmt) (v : Evaluated) (holds fails n k m : Now) (log : Log) (c d : Course) →
      parted holds fails log ≡ both_ways v →
      Follows (step s (reverse scope) out body holds log) scope j n c →
      Follows (step s (reverse c.scope.items) out other fails (log_of c.log)) c.scope.items c.jumps k d → m ≡ joined n k →
      Follows (if_else_flow s (reverse scope) out body other v) scope j m d
  if_else_follows body other v holds fails n k m log c d ev a b em =
      let f = step s (reverse scope) out body holds log in
      let g = step s (reverse scope) out other fails f.log in
      let both = then_follows f g scope scope j n k c d a (moved (λ sc l. step s (reverse sc) out other fails l) f scope j n k c d a b) in
      follows_as (if_else_flow s (reverse scope) out body other (parted holds fails log)) (if_else_flow s (reverse scope) out body other v)
      scope j m d
      (ap (if_else_flow s (reverse scope) out body other) ev)
      (record {
        now-is = em ∙ ap (λ x. joined x k) a.now-is ∙ ap (joined f.now) both.now-is;
        log-is = both.log-is;
        scope-is = both.scope-is;
        jumps = both.jumps;
      })

-- Loops: what jumps to the loop out of its body alone, and what jumps on.

abbrev either : Leads → Leads → Leads → Now → Now → Now → Now
either a b to x y z = if same_lead a to then x else (if same_lead b to then y else z)

abbrev cleared : ℕ → Leads → Now → Now
cleared l to n = if same_lead (BehindLoop l) to || same_lead (GoesOn l) to then None else n

-- The jumps before the loop, those at the start of its body and at its end, and those behind the loop, with what is set aside.
pub record SetsAside (l : ℕ) (before start end cut behind : Jumps) (around inside : Aside) : Type 0 where
  pub around-behind : around.behind ≡ held before (BehindLoop l)
  pub around-on : around.going_on ≡ held before (GoesOn l)
  pub starts : (to : Leads) → held start to ≡ cleared l to (held before to)
  pub inside-behind : inside.behind ≡ held end (BehindLoop l)
  pub inside-on : inside.going_on ≡ held end (GoesOn l)
  pub cuts : (to : Leads) → held cut to ≡ cleared l to (held end to)
  pub ends : (to : Leads) → held behind to ≡ either (BehindLoop l) (GoesOn l) to around.behind around.going_on (held cut to)

module _ (l : ℕ) (before start end cut behind : Jumps) (around inside : Aside) (a : SetsAside l before start end cut behind around inside)
    (js : List Jump)
    (e : (to : Leads) → held end to ≡ joined (held start to) (caught to js)) where
  pub behind_loop : inside.behind ≡ caught (BehindLoop l) js
  behind_loop = a.inside-behind ∙ behind-caught l js (held before) (held start) (held end) (held behind) a.starts e

  pub on_loop : inside.going_on ≡ caught (GoesOn l) js
  on_loop = a.inside-on ∙ on-caught l js (held before) (held start) (held end) (held behind) a.starts e

  pub past_loop : (to : Leads) → held behind to ≡ joined (held before to) (caught to (passing (GoesOn l) (passing (BehindLoop l) js)))
  past_loop = loop_held l js (held before) (held start) (held end) (held behind) a.starts e
      (λ to. a.ends to ∙ ap (λ x. either (BehindLoop l) (GoesOn l) to x around.going_on (held cut to)) a.around-behind
      ∙ ap (λ x. either (BehindLoop l) (GoesOn l) to (held before (BehindLoop l)) x (held cut to)) a.around-on
      ∙ ap (either (BehindLoop l) (GoesOn l) to (held before (BehindLoop l)) (held before (GoesOn l))) (a.cuts to))

-- a turn of a loop, from its body
pub turned : (l : ℕ) (f : Flow) (scope : List ℕ) (j start cut : Jumps) (around inside : Aside) (n end : Now) (c d : Course) →
    SetsAside l j start c.jumps cut d.jumps around inside → end ≡ joined n inside.going_on → d.scope.items ≡ c.scope.items →
    log_of d.log ≡ log_of c.log → Follows f scope start n c → Turned l f scope j end inside.behind d
turned l f scope j start cut around inside n end c d x em kept same a = record {
  follows = record {
    now-is = em ∙ ap (λ y. joined y inside.going_on) a.now-is
        ∙ ap (joined f.now) (on_loop l j start c.jumps cut d.jumps around inside x f.jumps a.jumps);
    log-is = same ∙ a.log-is;
    scope-is = kept ∙ a.scope-is;
    jumps = past_loop l j start c.jumps cut d.jumps around inside x f.jumps a.jumps;
  };
  leaves-is = behind_loop l j start c.jumps cut d.jumps around inside x f.jumps a.jumps;
}

module _ (s : Followed) (out scope : List ℕ) (l : ℕ) (cond' : Expr) (body : Stmt) (sets sets' : List Set) (log la lb : Log)
    (j : Jumps) (m end leaves : Now) (c d : Course) (ea : la ≡ heads s l (Some sets) log) (es : sets' ≡ at_head s l sets)
    (kept : d.scope.items ≡ c.scope.items) (same : d.jumps ≡ c.jumps)
  where
    pub while_follows : (holds fails : Now) → parted holds fails lb ≡ both_ways (eval s 0 cond' (Some sets') la) →
        Turned l (step s (reverse scope) out body holds lb) scope j end leaves c → log_of d.log ≡ heads s l end (log_of c.log) →
        m ≡ joined fails leaves →
        Follows (while_flow s (reverse scope) out l cond' body sets log) scope j m d
    while_follows holds fails ev a eh er =
        let f = step s (reverse scope) out body holds lb in
        follows_as (while_end s (reverse scope) out l body (parted holds fails lb)) (while_flow s (reverse scope) out l cond' body sets log)
        scope j m d
        (ap (while_end s (reverse scope) out l body) (ev ∙ ap (λ y. both_ways (eval s 0 cond' (Some y) la)) es ∙
        ap (λ y. both_ways (eval s 0 cond' (Some (at_head s l sets)) y)) ea))
        (record {
          now-is = er ∙ ap (joined fails) a.leaves-is;
          log-is = eh ∙ ap (heads s l end) a.follows.log-is ∙ ap (λ y. heads s l y f.log) a.follows.now-is;
          scope-is = kept ∙ a.follows.scope-is;
          jumps = λ to. ap (λ (y : Jumps). held y to) same ∙ a.follows.jumps to;
        })

    pub do_follows : (again fails : Now) → Turned l (step s (reverse scope) out body (Some sets') la) scope j end leaves c →
        parted again fails lb ≡ both_ways (eval s 0 cond' end (log_of c.log)) → log_of d.log ≡ heads s l again lb →
        m ≡ joined fails leaves →
        Follows (do_flow s (reverse scope) out l body cond' sets log) scope j m d
    do_follows again fails a ev eh er =
        let f = step s (reverse scope) out body (Some sets') la in
        follows_as (do_end s l f.jumps (parted again fails lb)) (do_flow s (reverse scope) out l body cond' sets log) scope j m d
        (ap (do_end s l f.jumps) (ev
        ∙ ap (λ y. both_ways (eval s 0 cond' y (log_of c.log))) a.follows.now-is
        ∙ ap (λ y. both_ways (eval s 0 cond' (joined f.now (caught (GoesOn l) f.jumps)) y)) a.follows.log-is)
        ∙ ap (λ y. from_start (step s (reverse scope) out body (Some y) la)) es ∙
        ap (λ y. from_start (step s (reverse scope) out body (Some (at_head s l sets)) y)) ea)
        (record {
          now-is = er ∙ ap (joined fails) a.leaves-is;
          log-is = eh;
          scope-is = kept ∙ a.follows.scope-is;
          jumps = λ to. ap (λ (y : Jumps). held y to) same ∙ a.follows.jumps to;
        })
      where
        from_start : Flow → Flow
        from_start f = do_end s l f.jumps (eval s 0 cond' (joined f.now (caught (GoesOn l) f.jumps)) f.log)

-- Scopes.

exit_jumps : (s : Followed) (q : Place) (ks : List ℕ) (n : Now) (js : List Jump) (log : Log) → (exit s q ks (flow n js log)).jumps ≡ js
exit_jumps s q ks None js log = refl
exit_jumps s q ks (Some sets) js log = refl

pub list_follows : (s : Followed) (q : Place) (f : Flow) (scope ds : List ℕ) (depth : ℕ) (j : Jumps) (n m : Now) (c d : Course) →
    depth ≡ length scope →
    Follows f (scope ++ ds) j n c →
    flow m f.jumps (log_of d.log) ≡ exit s q (drop depth c.scope.items) (flow n f.jumps (log_of c.log)) →
    d.scope.items ≡ take depth c.scope.items → d.jumps ≡ c.jumps → Follows (exit s q ds f) scope j m d
list_follows s q f scope ds depth j n m c d ed a ex es ej =
    let left : drop depth c.scope.items ≡ ds = ap (λ k. drop k c.scope.items) ed ∙ ap (drop (length scope)) a.scope-is ∙ drop-append_seam
    scope ds in
    let e : flow m f.jumps (log_of d.log) ≡ exit s q ds f =
    ex ∙ ap (λ ks. exit s q ks (flow n f.jumps (log_of c.log))) left ∙ ap (λ y. exit s q ds (flow y f.jumps (log_of c.log)))
    a.now-is
    ∙ ap (λ y. exit s q ds (flow f.now f.jumps y)) a.log-is in
    record {
      now-is = ap (λ (g : Flow). g.now) e;
      log-is = ap (λ (g : Flow). g.log) e;
      scope-is = es ∙ ap (λ k. take k c.scope.items) ed ∙ ap (take (length scope)) a.scope-is ∙ take-append_seam scope ds;
      jumps = λ to. ap (λ (y : Jumps). held y to) ej ∙ a.jumps to ∙ ap (λ js. joined (held j to) (caught to js))
          (sym (exit_jumps s q ds f.now f.jumps f.log));
    }

-- Lists of statements.

pub item_other : (s : Followed) (out scope : List ℕ) (x : Stmt) (now : Now) (log : Log) (j : Jumps) (n : Now) (c : Course) →
    None ≡ local_in x →
    Follows (step s (reverse scope) out x now log) scope j n c →
    Follows (item s (reverse scope) out (local_in x) x now log) (scope ++ declared_by (local_in x)) j n c
item_other s out scope x now log j n c e a =
    subst (λ o. Follows (item s (reverse scope) out o x now log) (scope ++ declared_by o) j n c) e
    (subst (λ sc. Follows (step s (reverse scope) out x now log) sc j n c) (sym (append_nil scope)) a)

pub item_local : (s : Followed) (out scope : List ℕ) (x : Stmt) (now : Now) (log : Log) (j : Jumps) (n : Now) (c : Course) (d : Declared) →
    Some d ≡ local_in x →
    flow n [] (log_of c.log) ≡ declared s d.slot d.value now log → c.scope.items ≡ scope ++ d.slot ∷ [] → c.jumps ≡ j →
    Follows (item s (reverse scope) out (local_in x) x now log) (scope ++ declared_by (local_in x)) j n c
item_local s out scope x now log j n c d e ef es ej =
    subst (λ o. Follows (item s (reverse scope) out o x now log) (scope ++ declared_by o) j n c) e
    (quiet_follows (declared s d.slot d.value now log) (scope ++ d.slot ∷ []) j n c ef es ej)

abbrev one_then : Followed → (sc out : List ℕ) → Stmt → Stmts → Now → Log → Flow
one_then s sc out x more now log =
    let f = item s sc out (local_in x) x now log in both_flows f (steps s (declared_by (local_in x) ++ sc) out more f.now f.log)

steps_one : (s : Followed) (sc out : List ℕ) (x : Stmt) (more : Stmts) (now : Now) (log : Log) → steps s sc out (before x more) now log ≡
    one_then s sc out x more now log
steps_one s sc out (Block q b e) more now log = refl
steps_one s sc out (Empty q) more now log = refl
steps_one s sc out (Local q k e) more now log = refl
steps_one s sc out (Assign q x e) more now log = refl
steps_one s sc out (If q c b) more now log = refl
steps_one s sc out (IfElse q c b r) more now log = refl
steps_one s sc out (While q l c b) more now log = refl
steps_one s sc out (Do q l b c) more now log = refl
steps_one s sc out (Switch q e gs end) more now log = refl
steps_one s sc out (Break q l) more now log = refl
steps_one s sc out (Continue q l) more now log = refl
steps_one s sc out (Return q e) more now log = refl
steps_one s sc out (Print q e) more now log = refl
steps_one s sc out (Eval q e) more now log = refl

declared_one : (x : Stmt) (more : Stmts) → declared_here (before x more) ≡ declared_by (local_in x) ++ declared_here more
declared_one (Block q b e) more = refl
declared_one (Empty q) more = refl
declared_one (Local q k e) more = refl
declared_one (Assign q x e) more = refl
declared_one (If q c b) more = refl
declared_one (IfElse q c b r) more = refl
declared_one (While q l c b) more = refl
declared_one (Do q l b c) more = refl
declared_one (Switch q e gs end) more = refl
declared_one (Break q l) more = refl
declared_one (Continue q l) more = refl
declared_one (Return q e) more = refl
declared_one (Print q e) more = refl
declared_one (Eval q e) more = refl

turned_by : (scope : List ℕ) (o : Option Declared) → declared_by o ++ reverse scope ≡ reverse (scope ++ declared_by o)
turned_by scope None = ap reverse (sym (append_nil scope))
turned_by scope (Some d) = sym (reverse-append scope (d.slot ∷ []))

-- Part of a list is done: the whole is what jumped from that, and then the rest.
pub record Running (s : Followed) (out : List ℕ) (total : Flow) (scope : List ℕ) (before : Jumps) (rest : Stmts) (now : Now)
    (c : Course) : Type 0 where
  pub jumped : List Jump
  pub is : total ≡ both_flows (flow None jumped (record { outs = []; failed = []; sights = [] }))
      (steps s (reverse c.scope.items) out rest now (log_of c.log))
  pub scope-is : c.scope.items ++ declared_here rest ≡ scope
  pub held-is : (to : Leads) → held c.jumps to ≡ joined (held before to) (caught to jumped)

pub running_start : (s : Followed) (out : List ℕ) (body : Stmts) (now : Now) (c : Course) →
    Running s out (steps s (reverse c.scope.items) out body now (log_of c.log)) (c.scope.items ++ declared_here body) c.jumps body now c
running_start s out body now c = record { jumped = []; is = refl; scope-is = refl; held-is = λ to. sym (joined-none (held c.jumps to)) }

module _ (s : Followed) (out : List ℕ) (total : Flow) (scope : List ℕ) (start : Jumps) (xs : List CoreStmt) (i : ℕ) (now : Now) (c : Course)
  where
    abbrev rest : ℕ → Stmts
    rest k = stmts_of (map stmt_of (drop k xs))

    pub running_more : (x : CoreStmt) (n : Now) (d : Course) → i < length xs → x ≡ get_or xs i x →
        Follows (item s (reverse c.scope.items) out (local_in (stmt_of x)) (stmt_of x) now (log_of c.log))
        (c.scope.items ++ declared_by (local_in (stmt_of x))) c.jumps n d →
        Running s out total scope start (rest i) now c → Running s out total scope start (rest (i + 1)) n d
    running_more x n d lt at a r =
        let o = local_in (stmt_of x) in
        let f = item s (reverse c.scope.items) out o (stmt_of x) now (log_of c.log) in
        let here : rest i ≡ before (stmt_of x) (rest (i + 1)) =
        at_drop_more (λ (ys : List CoreStmt). stmts_of (map stmt_of ys)) xs i x lt ∙
        ap (λ (y : CoreStmt). before (stmt_of y) (rest (i + 1)))
        (sym at) in
        let next : steps s (declared_by o ++ reverse c.scope.items) out (rest (i + 1)) f.now f.log ≡ steps s (reverse d.scope.items) out
        (rest (i + 1)) n (log_of d.log) =
        ap (λ sc. steps s sc out (rest (i + 1)) f.now f.log) (turned_by c.scope.items o ∙ ap reverse (sym a.scope-is))
        ∙ ap (λ y. steps s (reverse d.scope.items) out (rest (i + 1)) y f.log) (sym a.now-is)
        ∙ ap (λ y. steps s (reverse d.scope.items) out (rest (i + 1)) n y) (sym a.log-is) in
        let g = steps s (reverse d.scope.items) out (rest (i + 1)) n (log_of d.log) in
        record {
          jumped = r.jumped ++ f.jumps;
          is = r.is ∙ ap (λ y. flow y.now (r.jumped ++ y.jumps) y.log)
              (ap (λ y. steps s (reverse c.scope.items) out y now (log_of c.log)) here ∙ steps_one s (reverse c.scope.items) out (stmt_of x)
              (rest (i + 1)) now (log_of c.log) ∙ ap (both_flows f) next)
              ∙ ap (λ js. flow g.now js g.log) (sym (append_assoc r.jumped f.jumps g.jumps));
          scope-is = ap (λ y. y ++ declared_here (rest (i + 1))) a.scope-is ∙ append_assoc c.scope.items (declared_by o)
              (declared_here (rest (i + 1)))
              ∙ ap (λ y. c.scope.items ++ y) (sym (ap declared_here here ∙ declared_one (stmt_of x) (rest (i + 1)))) ∙ r.scope-is;
          held-is = λ to. held_more to (held start to) (held c.jumps to) (held d.jumps to) r.jumped f.jumps (r.held-is to) (a.jumps to);
        }

    pub running_end : length xs ≤ i → Running s out total scope start (rest i) now c → Follows total scope start now c
    running_end le r =
        let none : rest i ≡ NoStmt = at_drop_all (λ (ys : List CoreStmt). stmts_of (map stmt_of ys)) xs i le in
        let e : total ≡ flow now r.jumped (log_of c.log) =
        r.is ∙ ap (λ y. both_flows (flow None r.jumped (record { outs = []; failed = []; sights = [] }))
        (steps s (reverse c.scope.items) out y now (log_of c.log))) none
        ∙ ap (λ js. flow now js (log_of c.log)) (append_nil r.jumped) in
        follows_as (flow now r.jumped (log_of c.log)) total scope start now c (sym e)
        (record {
          now-is = refl;
          log-is = refl;
          scope-is = sym (append_nil c.scope.items) ∙ ap (λ y. c.scope.items ++ declared_here y) (sym none) ∙ r.scope-is;
          jumps = r.held-is;
        })
