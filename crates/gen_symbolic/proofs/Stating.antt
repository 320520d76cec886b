-- Statements one after another: what is left to be written, and what is in scope there.
use Rattle.std.proofs.Common.{◌≡◌, ℕ, zero, suc, ◌+◌, ◌-◌, ◌<◌, ◌≤◌, List, [], ◌∷◌, ◌++◌, map, length, drop, get_or, Option, Some, None}
use Rattle.std.proofs.Common.{refl, sym, ap, ◌∙◌, arith, add-one, append_assoc, length-append, max}
use Rattle.jv_core.specs.declared.tree.CoreStmt.{CoreStmt}
use Rattle.jv_core.specs.declared.tree.CoreGroup.{CoreGroup, out-CoreGroup}
use Rattle.jv_core.specs.Tree.{Stmt, Block, Empty, Local, Assign, If, IfElse, While, Do, Switch, Break, Continue, Return, Print, Eval}
use Rattle.jv_core.specs.Tree.{Stmts, Groups, Program, Method}
use Rattle.jv_core.specs.View.{stmt_of, stmts_of, group_of, groups_of, before}
use Rattle.gen_rules.specs.Around.{Around}
use Rattle.gen_expressions.specs.Drafting.{Draft, placed, next_label, with_label, with_labels, value}
use Rattle.gen_symbolic.specs.inner.Drafting.{statement, statements, groups, table, switched, switch, count}
use Rattle.gen_rules.specs.Around as around
use Rattle.gen_rules.specs.Cases.{constants_of, positions}
use Rattle.gen_rules.specs.Typed.{type_of}
use Rattle.jv_core.specs.Numbering.{numbers_from}
use Rattle.jv_core.specs.Tree.{Expr}
use Rattle.gen_symbolic.specs.inner.Held.{behind}
use Rattle.gen_expressions.proofs.Loops.{drop_at, drop_done}
use Rattle.gen_symbolic.proofs.Loops.{group_of-is}

-- more slots are in scope
pub record Extends (old new : List ℕ) : Type 0 where
  pub more : List ℕ
  pub is : new ≡ more ++ old

module _ (p : Program) (m : Method) (ts : List Around) where
  -- what is left is written as all is, and more may be in scope there
  pub record AreWritten (old now : List ℕ) (all rest : Stmts) (d e : Draft) : Type 0 where
    pub left : statements p m now ts rest e ≡ statements p m old ts all d
    pub locals : Extends old now

  -- a statement in front of others
  before_is : (scope : List ℕ) (s : Stmt) (more : Stmts) (d : Draft) →
      statements p m scope ts (before s more) d ≡ statements p m (behind s scope) ts more (statement p m scope ts s d)
  before_is scope (Block q body end) more d = refl
  before_is scope (Empty q) more d = refl
  before_is scope (Local q k e) more d = refl
  before_is scope (Assign q x e) more d = refl
  before_is scope (If q c s) more d = refl
  before_is scope (IfElse q c s r) more d = refl
  before_is scope (While q n c s) more d = refl
  before_is scope (Do q n s c) more d = refl
  before_is scope (Switch q e gs end) more d = refl
  before_is scope (Break q n) more d = refl
  before_is scope (Continue q n) more d = refl
  before_is scope (Return q e) more d = refl
  before_is scope (Print q e) more d = refl
  before_is scope (Eval q e) more d = refl

  behind_extends : (s : Stmt) (scope : List ℕ) → Extends scope (behind s scope)
  behind_extends (Local q k e) scope = record { more = k ∷ []; is = refl }
  behind_extends (Block q body end) scope = record { more = []; is = refl }
  behind_extends (Empty q) scope = record { more = []; is = refl }
  behind_extends (Assign q x e) scope = record { more = []; is = refl }
  behind_extends (If q c s) scope = record { more = []; is = refl }
  behind_extends (IfElse q c s r) scope = record { more = []; is = refl }
  behind_extends (While q n c s) scope = record { more = []; is = refl }
  behind_extends (Do q n s c) scope = record { more = []; is = refl }
  behind_extends (Switch q e gs end) scope = record { more = []; is = refl }
  behind_extends (Break q n) scope = record { more = []; is = refl }
  behind_extends (Continue q n) scope = record { more = []; is = refl }
  behind_extends (Return q e) scope = record { more = []; is = refl }
  behind_extends (Print q e) scope = record { more = []; is = refl }
  behind_extends (Eval q e) scope = record { more = []; is = refl }

  extends_more : (a b c : List ℕ) → Extends a b → Extends b c → Extends a c
  extends_more a b c h k = record { more = k.more ++ h.more; is = k.is ∙ ap (λ z. k.more ++ z) h.is ∙ sym (append_assoc k.more h.more a) }

  pub written_start : (scope : List ℕ) (all : Stmts) (d : Draft) → AreWritten scope scope all all d d
  written_start scope all d = record { left = refl; locals = record { more = []; is = refl } }

  module _ (old now : List ℕ) (all : Stmts) (d e : Draft) (xs : List CoreStmt) (i : ℕ)
      (h : AreWritten old now all (stmts_of (map stmt_of (drop i xs))) d e) where
    pub written_more : (x : CoreStmt) (same new : List ℕ) (f : Draft) → i < length xs → x ≡ get_or xs i x →
        f ≡ statement p m now ts (stmt_of x) e → same ≡ now → new ≡ behind (stmt_of x) same →
        AreWritten old new all (stmts_of (map stmt_of (drop (i + 1) xs))) d f
    written_more x same new f within is ef es en =
        let more = stmts_of (map stmt_of (drop (i + 1) xs)) in
        let en' : new ≡ behind (stmt_of x) now = en ∙ ap (behind (stmt_of x)) es in
        record {
          left =
              ap (λ sc. statements p m sc ts more f) en' ∙ ap (statements p m (behind (stmt_of x) now) ts more) ef
              ∙ sym (ap (λ (ys : List CoreStmt). statements p m now ts (stmts_of (map stmt_of ys)) e) (drop_at xs i x within is)
              ∙ before_is now (stmt_of x) more e)
              ∙ h.left;
          locals = extends_more old now new h.locals (record {
            more = (behind_extends (stmt_of x) now).more;
            is =
                en' ∙ (behind_extends (stmt_of x) now).is;
          });
        }

    pub written_done : length xs ≤ i → e ≡ statements p m old ts all d
    written_done le = sym (ap (λ (ys : List CoreStmt). statements p m now ts (stmts_of (map stmt_of ys)) e) (drop_done xs i le)) ∙ h.left

  -- as many are dropped as were declared
  dropped : (more l : List ℕ) → drop (length (more ++ l) - length l) (more ++ l) ≡ l
  dropped [] l = let k : length l - length l ≡ zero = omega arith in ap (λ n. drop n l) k
  dropped (d ∷ more) l =
      let k : suc (length (more ++ l)) - length l ≡ suc (length (more ++ l) - length l) = (let n = length-append more l in omega (arith, n))
      in
      ap (λ n. drop n (d ∷ more ++ l)) k ∙ dropped more l

  pub all_dropped : (a b : List ℕ) → Extends a b → drop (length b - length a) b ≡ a
  all_dropped a b h = ap (λ z. drop (length z - length a) z) h.is ∙ dropped h.more a

  -- the groups of a switch
  module _ (gs : List CoreGroup) (i k : ℕ) (scope : List ℕ) (d total : Draft)
      (h : groups p m scope ts (groups_of (map group_of (drop i gs))) k d ≡ total) where
    pub groups_more : (g : CoreGroup) (body : List CoreStmt) (scope' : List ℕ) (k' : ℕ) (d1 d2 : Draft) → i < length gs → g ≡ get_or gs i g
        →
        body ≡ (out-CoreGroup g).body.items → d1 ≡ placed k d → d2 ≡ statements p m scope ts (stmts_of (map stmt_of body)) d1 →
        scope' ≡ scope →
        k' ≡ k + 1 → groups p m scope' ts (groups_of (map group_of (drop (i + 1) gs))) k' d2 ≡ total
    groups_more g body scope' k' d1 d2 within is eb e1 e2 es ek =
        let more = groups_of (map group_of (drop (i + 1) gs)) in
        ap (λ sc. groups p m sc ts more k' d2) es ∙ ap (λ j. groups p m scope ts more j d2) (ek ∙ add-one k)
        ∙ ap (groups p m scope ts more (suc k))
        (e2 ∙ ap (λ (ys : List CoreStmt). statements p m scope ts (stmts_of (map stmt_of ys)) d1) eb
        ∙ ap (statements p m scope ts (stmts_of (map stmt_of (out-CoreGroup g).body.items))) e1)
        ∙ sym (ap (λ (ys : List CoreGroup). groups p m scope ts (groups_of (map group_of ys)) k d) (drop_at gs i g within is)
        ∙ ap (λ o. groups p m scope ts (groups_of (o ∷ map group_of (drop (i + 1) gs))) k d) (group_of-is g))
        ∙ h

    pub groups_done : length gs ≤ i → d ≡ total
    groups_done le = sym (ap (λ (ys : List CoreGroup). groups p m scope ts (groups_of (map group_of ys)) k d) (drop_done gs i le)) ∙ h

count_is : (gs : List CoreGroup) → count (groups_of (map group_of gs)) ≡ length gs
count_is [] = refl
count_is (g ∷ gs) = ap suc (count_is gs)

-- a switch, of its parts
pub switch_is : (p : Program) (m : Method) (scope : List ℕ) (ts : List Around) (e : Expr) (gs : List CoreGroup) (end first n : ℕ)
    (d0 d1 d2 d3 d4 d5 d6 : Draft) → end ≡ next_label d0 → d1 ≡ with_label 0 d0 → d2 ≡ value p m scope e d1 → first ≡ next_label d2 →
    d3 ≡ with_labels (length gs) d2 → n ≡ max 1 (constants_of p (type_of p m e)) →
    d4 ≡ table p m (groups_of (map group_of gs)) first (length gs) end (numbers_from 0 n) d3 →
    d5 ≡ groups p m scope (around.Switch end ∷ ts) (groups_of (map group_of gs)) first d4 → d6 ≡ placed end d5 →
    d6 ≡ switch p m scope ts e (groups_of (map group_of gs)) d0
switch_is p m scope ts e gs end first n d0 d1 d2 d3 d4 d5 d6 e0 e1 e2 e3 e4 e5 e6 e7 e8 =
    let all = groups_of (map group_of gs) in
    e8 ∙ ap (placed end) (e7 ∙ ap (groups p m scope (around.Switch end ∷ ts) all first)
    (e6 ∙ ap (λ k. table p m all first (length gs) end (numbers_from 0 k) d3) e5 ∙
    ap (table p m all first (length gs) end (positions p (type_of p m e))) e4
    ∙ sym (ap (λ k. table p m all first k end (positions p (type_of p m e)) (with_labels k d2)) (count_is gs))))
    ∙ ap (λ f. placed end (groups p m scope (around.Switch end ∷ ts) all f (table p m all f (count all) end (positions p (type_of p m e))
    (with_labels (count all) d2)))) e3
    ∙ ap (λ (d : Draft). placed end (switched p m all (λ f. groups p m scope (around.Switch end ∷ ts) all f) end
    (positions p (type_of p m e)) d)) (e2 ∙ ap (value p m scope e) e1)
    ∙ ap (λ x. placed x (switched p m all (λ f. groups p m scope (around.Switch x ∷ ts) all f) x (positions p (type_of p m e))
    (value p m scope e (with_label 0 d0)))) e0

pub ruleset switches = (switch_is)

pub ruleset written = (written_start, written_more, written_done, all_dropped)

pub ruleset grouped = (groups_more, groups_done)
