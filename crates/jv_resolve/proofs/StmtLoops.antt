-- Statements, groups and labels, one after another.
use Rattle.std.proofs.Common.{◌≡◌, ◌⊎◌, inl, inr, ℕ, suc, ◌-◌, ◌≤◌, List, [], ◌∷◌, ◌++◌, map, length, drop, Option, Some, None, refl, sym}
use Rattle.std.proofs.Common.{ap, subst, ◌∙◌, append_assoc, append-nil, arith}
use Rattle.std.specs.Option.{option_map}
use Rattle.mg_text.specs.Call.{Name}
use Rattle.jv_tree.specs.declared.tree.Stmt.{Stmt as KeptStmt}
use Rattle.jv_tree.specs.declared.tree.Group.{Group as KeptGroup}
use Rattle.jv_tree.specs.Source
use Rattle.jv_tree.specs.View as source
use Rattle.jv_meaning.specs.Program.{constant_position}
use Rattle.jv_core.specs.Tree as Core
use Rattle.jv_core.specs.View.{OneGroup, stmts_of}
use Rattle.jv_resolve_law.specs.Tables.{◌>>=◌, Tables}
use Rattle.jv_resolve_law.specs.Expressions.{Known, Standing, known_named}
use Rattle.jv_resolve_law.specs.Statements.{Counted, Counting, Around, Item, stmt, stmts, groups, labels_at, declared, local}
use Rattle.jv_resolve.specs.declared.given.Unresolved.{Unresolved}
use Rattle.jv_resolve.specs.inner.Gives.{Fails}
use Rattle.jv_resolve.specs.inner.Counted.{counting, item_at, group_at}
use Rattle.jv_resolve.specs.inner.Labels.{label_at}
use Rattle.jv_resolve.proofs.Chains.{fails_then, fails_map, fails_as}

-- ---- labels

label_first : (o : Option ℕ) (rest : Option (List (Option ℕ))) → (o >>= λ n. rest >>= λ ns. Some (Some n ∷ ns)) ≡
    (option_map Some o >>= λ n. rest >>= λ ns. Some (n ∷ ns))
label_first None rest = refl
label_first (Some n) rest = refl

labels_first : (enum : Source.Enum) (l : Option Name) (ls : List (Option Name)) →
    labels_at enum (l ∷ ls) ≡ (label_at enum l >>= λ n. labels_at enum ls >>= λ ns. Some (n ∷ ns))
labels_first enum None ls = refl
labels_first enum (Some name) ls = label_first (constant_position enum name) (labels_at enum ls)

abbrev pub with_labels : List (Option ℕ) → Option (List (Option ℕ)) → Option (List (Option ℕ))
with_labels done rest = option_map (λ ns. done ++ ns) rest

labels_moved : (done : List (Option ℕ)) (n : Option ℕ) (rest : Option (List (Option ℕ))) → with_labels done (rest >>= λ ns. Some (n ∷ ns)) ≡
    with_labels (done ++ n ∷ []) rest
labels_moved done n None = refl
labels_moved done n (Some ns) = ap Some (sym (append_assoc done (n ∷ []) ns))

module _ (enum : Source.Enum) (total : Option (List (Option ℕ))) (done : List (Option ℕ)) (left : List (Option Name))
    (so_far : total ≡ with_labels done (labels_at enum left)) where
  module _ (l : Option Name) (rest : List (Option Name)) (next : left ≡ l ∷ rest) where
    labels_opened : total ≡ with_labels done (label_at enum l >>= λ n. labels_at enum rest >>= λ ns. Some (n ∷ ns))
    labels_opened = so_far ∙ ap (λ xs. with_labels done (labels_at enum xs)) next ∙ ap (with_labels done) (labels_first enum l rest)

    pub labels_more : (n : Option ℕ) → label_at enum l ≡ Some n → total ≡ with_labels (done ++ n ∷ []) (labels_at enum rest)
    labels_more n h = labels_opened ∙ ap (λ o. with_labels done (o >>= λ m. labels_at enum rest >>= λ ns. Some (m ∷ ns))) h ∙
        labels_moved done n (labels_at enum rest)

    pub labels_fail : (err : Unresolved) → Fails err (label_at enum l) → Fails err total
    labels_fail err h =
        fails_as err _ _ labels_opened
        (fails_map err (label_at enum l >>= λ n. labels_at enum rest >>= λ ns. Some (n ∷ ns)) (λ ns. done ++ ns)
        (fails_then err (label_at enum l) (λ n. labels_at enum rest >>= λ ns. Some (n ∷ ns)) h))

  pub labels_done : left ≡ [] → total ≡ Some done
  labels_done end = so_far ∙ ap (λ xs. with_labels done (labels_at enum xs)) end ∙ ap Some (append-nil done)

-- ---- statements

abbrev pub with_stmts : List Core.Stmt → Option (Counting (List Core.Stmt)) → Option (Counting (List Core.Stmt))
with_stmts done rest = option_map (λ r. counting (done ++ r.it) r.so_far) rest

stmts_moved : (done : List Core.Stmt) (s : Core.Stmt) (rest : Option (Counting (List Core.Stmt))) →
    with_stmts done (rest >>= λ b. Some (counting (s ∷ b.it) b.so_far)) ≡ with_stmts (done ++ s ∷ []) rest
stmts_moved done s None = refl
stmts_moved done s (Some b) = ap (λ xs. Some (counting xs b.so_far)) (sym (append_assoc done (s ∷ []) b.it))

pub stmts_start : (o : Option (Counting (List Core.Stmt))) → o ≡ with_stmts [] o
stmts_start None = refl
stmts_start (Some b) = refl

-- what was in scope, and what is now
pub record Extends (outer locals : List Known) : Type 0 where
  pub kept : drop (length locals - length outer) locals ≡ outer
  pub few : length outer ≤ length locals

pub extends_start : (outer : List Known) → Extends outer outer
extends_start outer = record { kept = ap (λ n. drop n outer) none; few = omega arith }
  where
    none : length outer - length outer ≡ 0
    none = omega arith

-- the same is in scope, or one more
abbrev pub Keeps : List Known → List Known → Type 0
Keeps old new = (new ≡ old) ⊎ ((k : Known) × (new ≡ k ∷ old))

extends_one : (outer locals : List Known) (k : Known) → Extends outer locals → Extends outer (k ∷ locals)
extends_one outer locals k h = record { kept = ap (λ n. drop n (k ∷ locals)) one ∙ h.kept; few = (let f = h.few in omega arith) }
  where
    one : length (k ∷ locals) - length outer ≡ suc (length locals - length outer)
    one = let f = h.few in omega arith

pub extends_more : (outer old new : List Known) → Extends outer old → Keeps old new → Extends outer new
extends_more outer old new h (inl e) = subst (Extends outer) (sym e) h
extends_more outer old new h (inr w) = subst (Extends outer) (sym w.1) (extends_one outer old w.0 h)

-- what came of two steps
bound : {X Y : Type 0} (o : Option X) (f : X → Option Y) (y : Y) → (o >>= f) ≡ Some y → (x : X) × (o ≡ Some x) × (f x ≡ Some y)
bound None f y e = let no : ⊥ = cc in absurd no
bound (Some x) f y e = (x, refl, e)

some_same : {X : Type 0} (x y : X) → Some x ≡ Some y → x ≡ y
some_same x y e = cc

in_scope : (locals : List Known) (r : Option (Counting Core.Stmt)) (i : Item) →
    option_map (λ a. record { stmt = a.it; locals = locals; so_far = a.so_far }) r ≡ Some i → Keeps locals i.locals
in_scope locals None i e = let no : ⊥ = cc in absurd no
in_scope locals (Some a) i e = inl (sym (ap (λ (j : Item). j.locals) (some_same _ i e)))

declared_is : (l : Known) (locals more : List Known) → declared l locals ≡ Some more → more ≡ l ∷ locals
declared_is l locals more e = go (known_named locals l.name) e
  where
    go : (o : Option Known) → (elim o [ None ↦ Some (l ∷ locals) | Some k ↦ None ]) ≡ Some more → more ≡ l ∷ locals
    go None h = sym (some_same (l ∷ locals) more h)
    go (Some k) h = let no : ⊥ = cc in absurd no

module _ (tables : Tables) (at : Standing) (around : List Around) where
  module _ (locals : List Known) (s : Counted) (i : Item) where
    pub item_keeps : (t : Source.Stmt) → item_at tables at t around locals s ≡ Some i → Keeps locals i.locals
    item_keeps (Source.Local p ty name e) h =
        let one = bound (local tables at p ty name e locals s) _ i h in
        let two = bound (declared (one.0).0.it locals) _ i one.2 in
        inr ((one.0).0.it, sym (ap (λ (j : Item). j.locals) (some_same _ i two.2)) ∙ declared_is (one.0).0.it locals two.0 two.1)
    item_keeps (Source.Block p body end) h = in_scope locals (stmt tables at (Source.Block p body end) around locals s) i h
    item_keeps (Source.Empty p) h = in_scope locals (stmt tables at (Source.Empty p) around locals s) i h
    item_keeps (Source.Assign p a b) h = in_scope locals (stmt tables at (Source.Assign p a b) around locals s) i h
    item_keeps (Source.If p c a) h = in_scope locals (stmt tables at (Source.If p c a) around locals s) i h
    item_keeps (Source.IfElse p c a b) h = in_scope locals (stmt tables at (Source.IfElse p c a b) around locals s) i h
    item_keeps (Source.While p l c a) h = in_scope locals (stmt tables at (Source.While p l c a) around locals s) i h
    item_keeps (Source.Do p l a c) h = in_scope locals (stmt tables at (Source.Do p l a c) around locals s) i h
    item_keeps (Source.Switch p e gs end) h = in_scope locals (stmt tables at (Source.Switch p e gs end) around locals s) i h
    item_keeps (Source.Break p l) h = in_scope locals (stmt tables at (Source.Break p l) around locals s) i h
    item_keeps (Source.Continue p l) h = in_scope locals (stmt tables at (Source.Continue p l) around locals s) i h
    item_keeps (Source.Return p v) h = in_scope locals (stmt tables at (Source.Return p v) around locals s) i h
    item_keeps (Source.Print p e) h = in_scope locals (stmt tables at (Source.Print p e) around locals s) i h
    item_keeps (Source.Eval p e) h = in_scope locals (stmt tables at (Source.Eval p e) around locals s) i h

  abbrev pub left_stmts : List KeptStmt → List Known → Counted → Option (Counting (List Core.Stmt))
  left_stmts kept locals s = stmts tables at (source.stmts_of (map source.stmt_of kept)) around locals s

  module _ (total : Option (Counting (List Core.Stmt))) (done : List Core.Stmt) (left : List KeptStmt) (locals : List Known) (s : Counted)
      (so_far : total ≡ with_stmts done (left_stmts left locals s)) where
    module _ (x : KeptStmt) (rest : List KeptStmt) (next : left ≡ x ∷ rest) where
      abbrev one : Option Item
      one = item_at tables at (source.stmt_of x) around locals s

      abbrev then_rest : Item → Option (Counting (List Core.Stmt))
      then_rest a = left_stmts rest a.locals a.so_far >>= λ b. Some (counting (a.stmt ∷ b.it) b.so_far)

      stmts_opened : total ≡ with_stmts done (one >>= then_rest)
      stmts_opened = so_far ∙ ap (λ xs. with_stmts done (left_stmts xs locals s)) next

      pub stmts_more : (i : Item) → one ≡ Some i → total ≡ with_stmts (done ++ i.stmt ∷ []) (left_stmts rest i.locals i.so_far)
      stmts_more i h = stmts_opened ∙ ap (λ o. with_stmts done (o >>= then_rest)) h ∙ stmts_moved done i.stmt
          (left_stmts rest i.locals i.so_far)

      pub stmts_fail : (err : Unresolved) → Fails err one → Fails err total
      stmts_fail err h = fails_as err _ _ stmts_opened (fails_map err (one >>= then_rest) (λ r. counting (done ++ r.it) r.so_far)
          (fails_then err one then_rest h))

    pub stmts_done : left ≡ [] → total ≡ Some (counting done s)
    stmts_done end = so_far ∙ ap (λ xs. with_stmts done (left_stmts xs locals s)) end ∙ ap (λ xs. Some (counting xs s)) (append-nil done)

  -- ---- groups

  abbrev pub with_groups : List OneGroup → Option (Counting (List OneGroup)) → Option (Counting (List OneGroup))
  with_groups done rest = option_map (λ r. counting (done ++ r.it) r.so_far) rest

  groups_moved : (done : List OneGroup) (g : OneGroup) (rest : Option (Counting (List OneGroup))) →
      with_groups done (rest >>= λ b. Some (counting (g ∷ b.it) b.so_far)) ≡ with_groups (done ++ g ∷ []) rest
  groups_moved done g None = refl
  groups_moved done g (Some b) = ap (λ xs. Some (counting xs b.so_far)) (sym (append_assoc done (g ∷ []) b.it))

  pub groups_start : (o : Option (Counting (List OneGroup))) → o ≡ with_groups [] o
  groups_start None = refl
  groups_start (Some b) = refl

  module _ (enum : Source.Enum) where
    abbrev pub left_groups : List KeptGroup → List Known → Counted → Option (Counting (List OneGroup))
    left_groups kept locals s = groups tables at (source.groups_of (map source.group_of kept)) enum around locals s

    module _ (total : Option (Counting (List OneGroup))) (done : List OneGroup) (left : List KeptGroup) (locals : List Known) (s : Counted)
        (so_far : total ≡ with_groups done (left_groups left locals s)) where
      module _ (x : KeptGroup) (rest : List KeptGroup) (next : left ≡ x ∷ rest) where
        abbrev one_group : Option (Counting OneGroup)
        one_group = group_at tables at (source.group_of x) enum around locals s

        abbrev then_groups : Counting OneGroup → Option (Counting (List OneGroup))
        then_groups a = left_groups rest locals a.so_far >>= λ b. Some (counting (a.it ∷ b.it) b.so_far)

        abbrev one_group_of : List (Option ℕ) → List Core.Stmt → OneGroup
        one_group_of ls ss = record { labels = ls; body = stmts_of ss; end = (source.group_of x).end }

        assoc : (l : Option (List (Option ℕ))) (b : Option (Counting (List Core.Stmt))) →
            (l >>= λ ls. b >>= λ a. then_groups (counting (one_group_of ls a.it) a.so_far)) ≡
            ((l >>= λ ls. b >>= λ a. Some (counting (one_group_of ls a.it) a.so_far)) >>= then_groups)
        assoc None b = refl
        assoc (Some ls) None = refl
        assoc (Some ls) (Some a) = refl

        groups_opened : total ≡ with_groups done (one_group >>= then_groups)
        groups_opened =
            so_far ∙ ap (λ xs. with_groups done (left_groups xs locals s)) next
            ∙ ap (with_groups done) (assoc (labels_at enum (source.group_of x).labels) (stmts tables at (source.group_of x).body around
            locals s))

        pub groups_more : (g : Counting OneGroup) → one_group ≡ Some g → total ≡ with_groups (done ++ g.it ∷ [])
            (left_groups rest locals g.so_far)
        groups_more g h = groups_opened ∙ ap (λ o. with_groups done (o >>= then_groups)) h ∙ groups_moved done g.it
            (left_groups rest locals g.so_far)

        pub groups_fail : (err : Unresolved) → Fails err one_group → Fails err total
        groups_fail err h = fails_as err _ _ groups_opened
            (fails_map err (one_group >>= then_groups) (λ r. counting (done ++ r.it) r.so_far) (fails_then err one_group then_groups h))

      pub groups_done : left ≡ [] → total ≡ Some (counting done s)
      groups_done end = so_far ∙ ap (λ xs. with_groups done (left_groups xs locals s)) end ∙ ap (λ xs. Some (counting xs s))
          (append-nil done)
