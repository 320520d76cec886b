-- A whole context, from its start to its end.
use Rattle.std.proofs.Common.{◌≡◌, ℕ, zero, suc, ◌+◌, ◌-◌, ◌<◌, ◌≤◌, List, [], ◌∷◌, ◌++◌, reverse, Option, Some, None, slice_get, sym, ap}
use Rattle.std.proofs.Common.{◌∙◌, arith, add-one, append_assoc}
use Rattle.std.proofs.lemmas.List.{reverse-append}
use Rattle.jv_core.specs.Numbering.{numbers_from}
use Rattle.jv_core.specs.Tree.{Method, Program, Stmts}
use Rattle.use_flow.specs.declared.course.Course.{Course}
use Rattle.use_flow.specs.declared.held.Tables as held
use Rattle.use_flow.specs.declared.jumps.Jumps.{Jumps}
use Rattle.use_rules.specs.declared.key.Context.{Context}
use Rattle.use_rules.specs.Elements.{Set}
use Rattle.use_rules.specs.Flow as rules
use Rattle.use_rules.specs.Flow.{declared_here}
use Rattle.use_rules.specs.Keys.{method_in, contexts_in}
use Rattle.use_rules.specs.State.{Now, Log}
use Rattle.use_rules.specs.Tables.{quiet, flow_of}
use Rattle.use_flow.specs.View.{contexts_of, reached_of, tables_of, log_of, AreFor}
use Rattle.use_flow.specs.inner.Ending.{left}
use Rattle.use_flow.specs.inner.Followed.{Followed}
use Rattle.use_flow.specs.inner.Starting.{start, whole}
use Rattle.use_flow.specs.inner.Stepping.{Follows, steps}
use Rattle.use_elements.proofs.Rests.{append_nil}

-- numbers, one after another
pub number_next : (i j : ℕ) (ns ns' total : List ℕ) → i < j → ns' ≡ ns ++ i ∷ [] → ns ++ numbers_from i (j - i) ≡ total →
    ns' ++ numbers_from (i + 1) (j - (i + 1)) ≡ total
number_next i j ns ns' total lt e h =
    ap (λ r. r ++ numbers_from (i + 1) (j - (i + 1))) e ∙ append_assoc ns (i ∷ []) (numbers_from (i + 1) (j - (i + 1)))
    ∙ ap (λ n. ns ++ (i ∷ numbers_from n (j - (i + 1)))) (add-one i)
    ∙ (let k : suc (j - (i + 1)) ≡ j - i = omega (arith, lt) in ap (λ n. ns ++ numbers_from i n) k) ∙ h

pub number_last : (i j : ℕ) (ns total : List ℕ) → j ≤ i → ns ++ numbers_from i (j - i) ≡ total → ns ≡ total
number_last i j ns total le h =
    sym ((let k : j - i ≡ zero = omega (arith, le) in ap (λ n. ns ++ numbers_from i n) k) ∙ append_nil ns) ∙ h

pub whole_is : (s : Followed) (body : Stmts) (scope : List ℕ) (sets : List Set) (value : Set) (j : Jumps) (n : Now) (c : Course)
    (log last : Log) → body ≡ s.method.body →
    scope ≡ numbers_from 0 s.method.params → sets ≡ start s → value ≡ [] → log ≡ quiet →
    Follows (steps s (reverse scope) [] body (Some sets) log) (scope ++ declared_here body) j n c →
    last ≡ left s s.method.end None value (reverse c.scope.items) n (log_of c.log) → last ≡ whole s
whole_is s body scope sets value j n c log last eb ec es ev eg a h =
    h ∙ ap (λ y. left s s.method.end None y (reverse c.scope.items) n (log_of c.log)) ev
    ∙ ap (λ y. left s s.method.end None [] (reverse y) n (log_of c.log)) a.scope-is
    ∙ ap (λ y. left s s.method.end None [] y n (log_of c.log)) (reverse-append scope (declared_here body))
    ∙ ap (λ y. left s s.method.end None [] (reverse (declared_here body) ++ reverse scope) y (log_of c.log)) a.now-is
    ∙ ap (left s s.method.end None [] (reverse (declared_here body) ++ reverse scope) (steps s (reverse scope) [] body (Some sets) log).now)
    a.log-is
    ∙ ap (ended body scope sets) eg ∙ ap (λ y. ended body scope y quiet) es ∙ ap (λ y. ended body y (start s) quiet) ec ∙
    ap (λ y. ended y (numbers_from 0 s.method.params) (start s) quiet) eb
  where
    ended : Stmts → List ℕ → List Set → Log → Log
    ended body scope sets log = let f = steps s (reverse scope) [] body (Some sets) log in left s s.method.end None []
        (reverse (declared_here body) ++ reverse scope) f.now f.log

abbrev flow_in : Program → held.Tables → Context → List Context → Option Method → Log
flow_in p t c cs o = elim o as (λ _. Log) [ None ↦ quiet | Some m ↦ rules.whole p cs c m (tables_of t) ]

pub flow_is : (p : Program) (t : held.Tables) (c : Context) (m : Method) (l : Log) → AreFor p t → Some m ≡ slice_get p.methods (method_in c)
    →
    l ≡ whole (record { program = p; contexts = contexts_of t; context = c; method = m; held = t }) →
    l ≡ flow_of p (reached_of t) (tables_of t) c
flow_is p t c m l a e h = h ∙ ap (λ cs. rules.whole p cs c m (tables_of t)) a.contexts ∙ ap (flow_in p t c (contexts_in p (reached_of t))) e

pub flow_none : (p : Program) (t : held.Tables) (c : Context) (l : Log) → None ≡ slice_get p.methods (method_in c) → l ≡ quiet →
    l ≡ flow_of p (reached_of t) (tables_of t) c
flow_none p t c l e h = h ∙ ap (flow_in p t c (contexts_in p (reached_of t))) e

pub ruleset flowing = (flow_is, flow_none)
