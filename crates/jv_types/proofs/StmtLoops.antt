-- Statements one after another: what is left to be judged, and what is in scope there.
use Rattle.std.proofs.Common.{◌≡◌, ℕ, zero, suc, ◌+◌, ◌-◌, ◌<◌, ◌≤◌, List, [], ◌∷◌, ◌++◌, map, length, drop, get_or, Option, None, Result}
use Rattle.std.proofs.Common.{refl, sym, ap, subst, ◌∙◌, arith, append_assoc}
use Rattle.std.specs.Option.{option_or}
use Rattle.std.proofs.Math.ListN.{drop_of_length-le, length-append}
use Rattle.mg_read.specs.Culprit.{Culprit}
use Rattle.jv_tree.specs.declared.tree.Stmt.{Stmt as KeptStmt}
use Rattle.jv_tree.specs.declared.tree.StmtKind.{StmtKind as KeptStmtKind}
use Rattle.jv_tree.specs.declared.tree.Group.{Group as KeptGroup, out-Group}
use Rattle.jv_tree.specs.Source.{Stmt, Stmts, Groups}
use Rattle.jv_tree.specs.View.{stmt_of, stmts_of, group_of, groups_of, stmt_kind_of}
use Rattle.jv_tree.proofs.ViewLaws.{stmt_of-is}
use Rattle.jv_rules.specs.declared.condition.Condition.{Condition}
use Rattle.jv_rules.specs.Scope.{Scope, behind}
use Rattle.jv_scope.specs.Named.{Named}
use Rattle.jv_types.specs.declared.judged.Wrong.{Wrong}
use Rattle.jv_types.specs.declared.value_type.ValueType.{ValueType as KeptType}
use Rattle.jv_types.specs.inner.Judging.{Tells}
use Rattle.jv_types.specs.inner.Stating.{Answers, Extends, stmt_fault, stmts_fault, groups_fault}
use Rattle.jv_types.proofs.AtIndex.{drop_at}
use Rattle.jv_types.proofs.Checking.{tells_first}
use Rattle.jv_types.proofs.Choosing.{group_of-is}
use Rattle.jv_types.proofs.Composing.{then_told, group_told}

-- what is left tells what all tells, and more may be in scope there
pub record AreJudged (s now : Scope) (before behind : List (Named KeptType)) (all rest : Stmts) : Type 0 where
  pub left : stmts_fault s all ≡ stmts_fault now rest
  pub locals : Extends before behind

-- a statement is judged as what it says
pub stmt_as : (s : Scope) (x : KeptStmt) (k : KeptStmtKind) (y : Stmt) → x.kind ≡ k → stmt_kind_of k x.place ≡ y →
    stmt_fault s (stmt_of x) ≡ stmt_fault s y
stmt_as s x k y is says = ap (stmt_fault s) (stmt_of-is x ∙ ap (λ z. stmt_kind_of z x.place) is ∙ says)

-- the whole is answered as its last part is
pub answers_as : (r : Result Unit Wrong) (o whole : Option (Condition × Culprit)) → whole ≡ o → Answers o r → Answers whole r
answers_as r o whole e h = subst (λ z. Answers z r) (sym e) h

pub answers_last : (r : Result Unit Wrong) (o q whole : Option (Condition × Culprit)) → whole ≡ option_or o q → o ≡ None → Answers q r →
    Answers whole r
answers_last r o q whole e n h = answers_as r q whole (e ∙ ap (λ z. option_or z q) n) h

extends_none : {A : Type 0} (l : List A) → Extends l l
extends_none l = record { more = []; is = refl }

extends_more : {A : Type 0} (a b c : List A) → Extends a b → Extends b c → Extends a c
extends_more a b c h k = record { more = k.more ++ h.more; is = k.is ∙ ap (λ z. k.more ++ z) h.is ∙ sym (append_assoc k.more h.more a) }

-- as many are dropped as were declared
dropped : {A : Type 0} (more l : List A) → drop (length (more ++ l) - length l) (more ++ l) ≡ l
dropped [] l = let k : length l - length l ≡ zero = omega arith in ap (λ n. drop n l) k
dropped (d ∷ more) l =
    let k : suc (length (more ++ l)) - length l ≡ suc (length (more ++ l) - length l) = (let n = length-append more l in omega arith) in
    ap (λ n. drop n (d ∷ more ++ l)) k ∙ dropped more l

pub all_dropped : {A : Type 0} (a b : List A) → Extends a b → drop (length b - length a) b ≡ a
all_dropped a b h = ap (λ z. drop (length z - length a) z) h.is ∙ dropped h.more a

module _ (s now : Scope) (before behind_it : List (Named KeptType)) (all : Stmts) where
  pub judged_start : AreJudged s s before before all all
  judged_start = record { left = refl; locals = extends_none before }

  -- at an index
  module _ (xs : List KeptStmt) (i : ℕ) (x : KeptStmt) (within : i < length xs) (is : x ≡ get_or xs i x)
      (h : AreJudged s now before behind_it all (stmts_of (map stmt_of (drop i xs)))) where
    abbrev more : Stmts
    more = stmts_of (map stmt_of (drop (i + 1) xs))

    left_told : stmts_fault s all ≡ option_or (stmt_fault now (stmt_of x)) (stmts_fault (behind (stmt_of x) now) more)
    left_told = h.left ∙ ap (λ (ys : List KeptStmt). stmts_fault now (stmts_of (map stmt_of ys))) (drop_at xs i x within is) ∙
        then_told now (stmt_of x) more

    pub judged_wrong : (w : Wrong) → Tells w (stmt_fault now (stmt_of x)) → Tells w (stmts_fault s all)
    judged_wrong w t = tells_first w (stmt_fault now (stmt_of x)) (stmts_fault (behind (stmt_of x) now) more) (stmts_fault s all) left_told
        t

    pub judged_more : (new : Scope) (added : List (Named KeptType)) → stmt_fault now (stmt_of x) ≡ None → new ≡ behind (stmt_of x) now →
        Extends behind_it added → AreJudged s new before added all more
    judged_more new added fine e k = record {
      left = left_told ∙ ap (λ z. option_or z (stmts_fault (behind (stmt_of x) now) more)) fine ∙ ap (λ z. stmts_fault z more) (sym e);
      locals = extends_more before behind_it added h.locals k;
    }

  pub judged_done : (xs : List KeptStmt) (i : ℕ) → length xs ≤ i → AreJudged s now before behind_it all
      (stmts_of (map stmt_of (drop i xs))) →
      stmts_fault s all ≡ None
  judged_done xs i past h = h.left ∙ ap (λ (ys : List KeptStmt). stmts_fault now (stmts_of (map stmt_of ys))) (drop_of_length-le xs past)

-- the groups of a switch
module _ (s : Scope) (all : Groups) (gs : List KeptGroup) (i : ℕ)
    (h : groups_fault s all ≡ groups_fault s (groups_of (map group_of (drop i gs)))) where
  module _ (g : KeptGroup) (within : i < length gs) (is : g ≡ get_or gs i g) (body : List KeptStmt)
      (body_is : body ≡ (out-Group g).body.items) where
    abbrev other_groups : Groups
    other_groups = groups_of (map group_of (drop (i + 1) gs))

    groups_told : groups_fault s all ≡ option_or (stmts_fault s (stmts_of (map stmt_of body))) (groups_fault s other_groups)
    groups_told =
        h ∙ ap (λ (ys : List KeptGroup). groups_fault s (groups_of (map group_of ys))) (drop_at gs i g within is)
        ∙ ap (λ o. groups_fault s (groups_of (o ∷ map group_of (drop (i + 1) gs)))) (group_of-is g)
        ∙ group_told s (out-Group g).labels.items (stmts_of (map stmt_of (out-Group g).body.items)) (out-Group g).end other_groups
        ∙ ap (λ (ys : List KeptStmt). option_or (stmts_fault s (stmts_of (map stmt_of ys))) (groups_fault s other_groups)) (sym body_is)

    pub group_wrong : (w : Wrong) → Tells w (stmts_fault s (stmts_of (map stmt_of body))) → Tells w (groups_fault s all)
    group_wrong w t = tells_first w (stmts_fault s (stmts_of (map stmt_of body))) (groups_fault s other_groups) (groups_fault s all)
        groups_told t

    pub group_more : stmts_fault s (stmts_of (map stmt_of body)) ≡ None → groups_fault s all ≡ groups_fault s other_groups
    group_more fine = groups_told ∙ ap (λ z. option_or z (groups_fault s other_groups)) fine

  pub groups_done : length gs ≤ i → groups_fault s all ≡ None
  groups_done past = h ∙ ap (λ (ys : List KeptGroup). groups_fault s (groups_of (map group_of ys))) (drop_of_length-le gs past)
