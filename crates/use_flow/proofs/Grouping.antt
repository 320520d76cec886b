-- The groups of a switch, one after another.
use Rattle.std.proofs.Common.{◌≡◌, ℕ, ◌+◌, ◌<◌, ◌≤◌, Bool, true, false, List, [], ◌∷◌, ◌++◌, length, get_or, drop, map, reverse, Option}
use Rattle.std.proofs.Common.{None, refl, sym, ap, ◌∙◌, subst, append_assoc}
use Rattle.std.specs.Prelude.{if◌then◌else◌}
use Rattle.std.proofs.lemmas.List.{at_drop_more, at_drop_all}
use Rattle.jv_core.specs.declared.tree.CoreStmt.{CoreStmt}
use Rattle.jv_core.specs.declared.tree.CoreGroup.{CoreGroup, out-CoreGroup}
use Rattle.jv_core.specs.Tree.{Groups, NoGroup}
use Rattle.jv_core.specs.View.{stmt_of, stmts_of, group_of, groups_of, OneGroup}
use Rattle.use_flow.specs.declared.course.Course.{Course}
use Rattle.use_flow.specs.declared.jumps.Jumps.{Jumps}
use Rattle.use_rules.specs.Flow.{flow, declared_here}
use Rattle.use_rules.specs.State.{Now, Log, Leads, BehindSwitch, same_lead, Jump, Flow, joined, caught}
use Rattle.use_flow.specs.View.{log_of}
use Rattle.use_flow.specs.inner.Followed.{Followed}
use Rattle.use_flow.specs.inner.Jumping.{held}
use Rattle.use_flow.specs.inner.Simple.{exit}
use Rattle.use_flow.specs.inner.Stepping.{Follows, both_flows, steps}
use Rattle.use_flow.specs.inner.Switching.{follow, entry_of, group_flow, switch_flow}
use Rattle.use_flow.proofs.Choosing.{group_of-is}
use Rattle.use_flow.proofs.Jumping.{joined-none, held_more}
use Rattle.use_rules.proofs.Orders.{same_is, caught_passing}
use Rattle.use_elements.proofs.Rests.{append_nil}
use Rattle.use_flow.proofs.Stepping.{follows_as}

-- a group, from what its list has
pub group_follows : (s : Followed) (out scope : List ℕ) (rest : Now) (nows : List Now) (g : CoreGroup) (body : List CoreStmt)
    (labels : List (Option ℕ)) (before entry start : Now) (log : Log) (j : Jumps) (n : Now)
    (c : Course) → body ≡ (out-CoreGroup g).body.items → labels ≡ (out-CoreGroup g).labels.items → entry ≡ entry_of s rest nows labels →
    start ≡ joined entry before →
    Follows (exit s (out-CoreGroup g).end (declared_here (stmts_of (map stmt_of body)))
    (steps s (reverse scope) out (stmts_of (map stmt_of body)) start log)) scope j n c →
    Follows (group_flow s (reverse scope) out rest nows (group_of g) before log) scope j n c
group_follows s out scope rest nows g body labels before entry start log j n c eb el ee es a =
    follows_as (listed body start) (group_flow s (reverse scope) out rest nows (group_of g) before log) scope j n c
    (ap (λ y. listed y start) eb ∙ ap (listed (out-CoreGroup g).body.items)
    (es ∙ ap (λ y. joined y before) (ee ∙ ap (entry_of s rest nows) el))
    ∙ ap (λ (y : OneGroup). group_flow s (reverse scope) out rest nows y before log) (sym (group_of-is g))) a
  where
    listed : List CoreStmt → Now → Flow
    listed body start = exit s (out-CoreGroup g).end (declared_here (stmts_of (map stmt_of body)))
        (steps s (reverse scope) out (stmts_of (map stmt_of body)) start log)

-- Part of the groups is done: the whole is what jumped from those, and then the rest.
pub record Following (s : Followed) (scope : List ℕ) (rest : Now) (nows : List Now) (total : Flow) (before : Jumps) (more : Groups)
    (now : Now) (c : Course) : Type 0 where
  pub jumped : List Jump
  pub is : total ≡ both_flows (flow None jumped (record { outs = []; failed = []; sights = [] }))
      (follow s (reverse scope) rest nows more now (log_of c.log))
  pub scope-is : c.scope.items ≡ scope
  pub held-is : (to : Leads) → held c.jumps to ≡ joined (held before to) (caught to jumped)

pub following_start : (s : Followed) (rest : Now) (nows : List Now) (groups : Groups) (now : Now) (c : Course) →
    Following s c.scope.items rest nows (follow s (reverse c.scope.items) rest nows groups now (log_of c.log)) c.jumps groups now c
following_start s rest nows groups now c = record {
  jumped = [];
  is = refl;
  scope-is = refl;
  held-is =
      λ to. sym (joined-none (held c.jumps to));
}

module _ (s : Followed) (scope : List ℕ) (rest : Now) (nows : List Now) (total : Flow) (start : Jumps) (xs : List CoreGroup) (i : ℕ)
    (now : Now) (c : Course) where
  abbrev left_groups : ℕ → Groups
  left_groups k = groups_of (map group_of (drop k xs))

  pub following_more : (x : CoreGroup) (out : List ℕ) (n : Now) (d : Course) → i < length xs → x ≡ get_or xs i x → out ≡ scope →
      Follows (group_flow s (reverse c.scope.items) (reverse out) rest nows (group_of x) now (log_of c.log)) c.scope.items c.jumps n d →
      Following s scope rest nows total start (left_groups i) now c → Following s scope rest nows total start (left_groups (i + 1)) n d
  following_more x out n d lt at eo a0 r =
      let a : Follows (group_flow s (reverse scope) (reverse scope) rest nows (group_of x) now (log_of c.log)) scope c.jumps n d =
      subst (λ o. Follows (group_flow s (reverse scope) (reverse o) rest nows (group_of x) now (log_of c.log)) scope c.jumps n d) eo
      (subst (λ sc. Follows (group_flow s (reverse sc) (reverse out) rest nows (group_of x) now (log_of c.log)) sc c.jumps n d) r.scope-is
      a0) in
      let f = group_flow s (reverse scope) (reverse scope) rest nows (group_of x) now (log_of c.log) in
      let g = follow s (reverse scope) rest nows (left_groups (i + 1)) n (log_of d.log) in
      let here : follow s (reverse scope) rest nows (left_groups i) now (log_of c.log) ≡ both_flows f g =
      at_drop_more (λ (ys : List CoreGroup). follow s (reverse scope) rest nows (groups_of (map group_of ys)) now (log_of c.log)) xs i x lt
      ∙ ap (λ (y : CoreGroup). follow s (reverse scope) rest nows (groups_of (map group_of (y ∷ drop (i + 1) xs))) now (log_of c.log))
      (sym at)
      ∙ ap (λ y. both_flows f (follow s (reverse scope) rest nows (left_groups (i + 1)) y f.log)) (sym a.now-is)
      ∙ ap (λ y. both_flows f (follow s (reverse scope) rest nows (left_groups (i + 1)) n y)) (sym a.log-is) in
      record {
        jumped = r.jumped ++ f.jumps;
        is = r.is ∙ ap (λ y. flow y.now (r.jumped ++ y.jumps) y.log) here ∙ ap (λ js. flow g.now js g.log)
            (sym (append_assoc r.jumped f.jumps g.jumps));
        scope-is = a.scope-is;
        held-is = λ to. held_more to (held start to) (held c.jumps to) (held d.jumps to) r.jumped f.jumps (r.held-is to) (a.jumps to);
      }

  pub following_end : length xs ≤ i → Following s scope rest nows total start (left_groups i) now c → Follows total scope start now c
  following_end le r =
      let none : left_groups i ≡ NoGroup = at_drop_all (λ (ys : List CoreGroup). groups_of (map group_of ys)) xs i le in
      let e : total ≡ flow now r.jumped (log_of c.log) =
      r.is ∙ ap (λ y. both_flows (flow None r.jumped (record { outs = []; failed = []; sights = [] }))
      (follow s (reverse scope) rest nows y now (log_of c.log))) none
      ∙ ap (λ js. flow now js (log_of c.log)) (append_nil r.jumped) in
      follows_as (flow now r.jumped (log_of c.log)) total scope start now c (sym e)
      (record { now-is = refl; log-is = refl; scope-is = r.scope-is; jumps = r.held-is })

-- The whole switch: what jumps behind it out of its groups alone, and what jumps on.

past_switch : (v : Bool) (around z d w k r : Now) → (v ≡ true → around ≡ z) → w ≡ joined (if v then None else z) d →
    k ≡ (if v then None else w) → r ≡ (if v then around else k) →
    r ≡ joined z (if v then None else d)
past_switch true around z d w k r f ew ek er = er ∙ f refl ∙ sym (joined-none z)
past_switch false around z d w k r f ew ek er = er ∙ ek ∙ ew

pub switch_follows : (s : Followed) (scope : List ℕ) (rest past : Now) (nows : List Now) (groups : Groups) (log : Log) (j start cut : Jumps)
    (around inside n end m : Now) (c d : Course) →
    around ≡ held j BehindSwitch → ((to : Leads) → held start to ≡ (if same_lead BehindSwitch to then None else held j to)) →
    Follows (follow s (reverse scope) rest nows groups None log) scope start n c →
    inside ≡ held c.jumps BehindSwitch → ((to : Leads) → held cut to ≡ (if same_lead BehindSwitch to then None else held c.jumps to)) →
    ((to : Leads) → held d.jumps to ≡ (if same_lead BehindSwitch to then around else held cut to)) → d.scope.items ≡ c.scope.items →
    log_of d.log ≡ log_of c.log →
    end ≡ joined n past → m ≡ joined end inside → Follows (switch_flow s (reverse scope) rest past nows groups log) scope j m d
switch_follows s scope rest past nows groups log j start cut around inside n end m c d ea e1 a ei e2 e3 es el en em =
    let f = follow s (reverse scope) rest nows groups None log in
    let within : (to : Leads) → held c.jumps to ≡ joined (if same_lead BehindSwitch to then None else held j to) (caught to f.jumps) =
    λ to. a.jumps to ∙ ap (λ y. joined y (caught to f.jumps)) (e1 to) in
    record {
      now-is = em ∙ ap (λ y. joined y inside) (en ∙ ap (λ y. joined y past) a.now-is) ∙ ap (joined (joined f.now past))
          (ei ∙ within BehindSwitch);
      log-is = el ∙ a.log-is;
      scope-is = es ∙ a.scope-is;
      jumps = λ to.
          past_switch (same_lead BehindSwitch to) around (held j to) (caught to f.jumps) (held c.jumps to) (held cut to) (held d.jumps to)
          (λ v. ea ∙ ap (held j) (same_is BehindSwitch to v)) (within to) (e2 to) (e3 to)
          ∙ ap (joined (held j to)) (sym (caught_passing BehindSwitch to f.jumps));
    }
