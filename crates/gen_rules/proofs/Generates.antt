-- The list that the generator makes of a construct stands where its template holds, and nowhere else.
use Rattle.std.proofs.Common.{◌≡◌, ℕ, suc, ◌+◌, List, [], ◌∷◌, ◌++◌, length, Bool, true, false}
use Rattle.std.proofs.Common.{Some, Option, None, refl, sym, ap, ◌∙◌, subst, arith, length-append, slice_get, if◌then◌else◌}
use Rattle.mg_text.specs.declared.place.Place.{Place}
use Rattle.jv_tree.specs.declared.tree.Op.{Op}
use Rattle.jv_tree.specs.declared.tree.Op.TheVariants as ops
use Rattle.jv_core.specs.declared.tree.Var.{Var}
use Rattle.jv_core.specs.declared.tree.Var.TheVariants as vars
use Rattle.jv_core.specs.declared.program.CoreType.{CoreType}
use Rattle.jv_core.specs.declared.program.CoreType.TheVariants as types
use Rattle.jv_core.specs.Tree.{Expr, Int, Truth, Text, Null, Variable, Constant, Neg}
use Rattle.jv_core.specs.Tree.{Not, Binary, Protocol, Helper, Static, Equals, Concat, Session, New}
use Rattle.jv_core.specs.Tree.{Exprs, NoExpr, Argument}
use Rattle.jv_core.specs.Tree.{Stmt, Block, Empty, Local, Assign, If, IfElse, While, Do, Switch, Break, Continue, Return, Print, Eval}
use Rattle.jv_core.specs.Tree.{Stmts, NoStmt, Then, Declare, Groups, NoGroup, Group, Method, Program}
use Rattle.gen_rules.specs.Symbolic.{Instr, if_icmp, opposite, goto, tableswitch, ifnull, ifnonnull}
use Rattle.gen_rules.specs.Typed.{joins, type_of}
use Rattle.gen_rules.specs.Around.{Around}
use Rattle.gen_rules.specs.Around as around
use Rattle.gen_rules.specs.Cases.{default_at, positions, targets}
use Rattle.gen_rules.specs.Spans.{Span, ◌then◌, Forms, one}
use Rattle.gen_rules.specs.Templates as templates
use Rattle.gen_rules.specs.Locals.{params_in_scope}
use Rattle.gen_rules.specs.Templates.{IsCode, Compared, Both, LeftAlone, RightAlone, compared}
use Rattle.gen_rules.specs.inner.Generating as pieces
use Rattle.gen_rules.specs.inner.Generating.{Piece, Jumping, Pieces, Flowing, Grouped, aiming, empty}
use Rattle.gen_rules.specs.inner.Generating.{single, ◌and◌, within, forked, flowing, grouped, comparing}
use Rattle.gen_rules.proofs.Places.{HasAt, Stands, AllStand, stands_empty, stands_single, stands_and, stands_within, stands_forked}
use Rattle.gen_rules.proofs.Places.{stands_testing, all_valued, all_jumped, stands_jumps_then}
use Rattle.gen_rules.proofs.Places.{stands_skips_then, has_front, has_back, has_both}

module _ (p : Program) (m : Method) (code : List Instr) where
  variable_stands : (scope : List ℕ) (x : Var) → Stands code (pieces.variable p m scope x) (templates.variable p m code scope x)
  variable_stands scope (vars.Slot k) = stands_single code _
  variable_stands scope (vars.Field f) = stands_and code _ _ _ _ (stands_single code _) (stands_single code _)

  text_stands : (t : Option CoreType) → Stands code (pieces.text p m t) (templates.text p m code t)
  text_stands None = stands_empty code
  text_stands (Some types.Void) = stands_empty code
  text_stands (Some types.Int) = stands_single code _
  text_stands (Some types.Boolean) = stands_single code _
  text_stands (Some types.Text) = stands_empty code
  text_stands (Some (types.Object c)) = stands_empty code
  text_stands (Some (types.Enum e)) = stands_empty code

  literal_stands : (b : Bool) → AllStand code (pieces.literal p m b) (templates.literal p m code b)
  literal_stands true = record { value = stands_single code _; unless = λ l. stands_empty code; when = λ l. stands_single code (goto l) }
  literal_stands false = record { value = stands_single code _; unless = λ l. stands_single code (goto l); when = λ l. stands_empty code }

  module _ (a b : Pieces) (F G : Forms) (ha : AllStand code a F) (hb : AllStand code b G) where
    two_stand : (i : Instr) → Stands code (pieces.two_values a b i) (templates.two_values p m code F G i)
    two_stand i = stands_and code _ _ _ _ (stands_and code _ _ _ _ (ha.value) (hb.value)) (stands_single code i)

    plus_stands : (j : Bool) (s t : Option CoreType) → Stands code (pieces.plus p m j a b s t) (templates.plus p m code j F G s t)
    plus_stands true s t =
        stands_and code _ _ _ _ (stands_and code _ _ _ _ (stands_and code _ _ _ _ (stands_and code _ _ _ _ (ha.value)
        (text_stands s)) (hb.value)) (text_stands t))
        (stands_single code _)
    plus_stands false s t = two_stand _

    with_null_stands : (o : Op) (v : Piece) (R : Span) → Stands code v R →
        AllStand code (pieces.with_null p m o v) (templates.with_null p m code o R)
    with_null_stands ops.Ne v R h = all_jumped code _ _ _ _ (stands_testing code v R ifnull h) (stands_testing code v R ifnonnull h)
    with_null_stands ops.Or v R h = all_jumped code _ _ _ _ (stands_testing code v R ifnonnull h) (stands_testing code v R ifnull h)
    with_null_stands ops.And v R h = all_jumped code _ _ _ _ (stands_testing code v R ifnonnull h) (stands_testing code v R ifnull h)
    with_null_stands ops.Eq v R h = all_jumped code _ _ _ _ (stands_testing code v R ifnonnull h) (stands_testing code v R ifnull h)
    with_null_stands ops.Lt v R h = all_jumped code _ _ _ _ (stands_testing code v R ifnonnull h) (stands_testing code v R ifnull h)
    with_null_stands ops.Le v R h = all_jumped code _ _ _ _ (stands_testing code v R ifnonnull h) (stands_testing code v R ifnull h)
    with_null_stands ops.Gt v R h = all_jumped code _ _ _ _ (stands_testing code v R ifnonnull h) (stands_testing code v R ifnull h)
    with_null_stands ops.Ge v R h = all_jumped code _ _ _ _ (stands_testing code v R ifnonnull h) (stands_testing code v R ifnull h)
    with_null_stands ops.Add v R h = all_jumped code _ _ _ _ (stands_testing code v R ifnonnull h) (stands_testing code v R ifnull h)
    with_null_stands ops.Sub v R h = all_jumped code _ _ _ _ (stands_testing code v R ifnonnull h) (stands_testing code v R ifnull h)
    with_null_stands ops.Mul v R h = all_jumped code _ _ _ _ (stands_testing code v R ifnonnull h) (stands_testing code v R ifnull h)
    with_null_stands ops.Div v R h = all_jumped code _ _ _ _ (stands_testing code v R ifnonnull h) (stands_testing code v R ifnull h)
    with_null_stands ops.Rem v R h = all_jumped code _ _ _ _ (stands_testing code v R ifnonnull h) (stands_testing code v R ifnull h)

    comparing_stands : (test : (target : ℕ) → Instr) (l : ℕ) → Stands code (aiming (comparing a b test) l)
        (templates.two_values p m code F G (test l))
    comparing_stands test l = two_stand (test l)

    comparison_stands : (o : Op) (c : Compared) → AllStand code (pieces.comparison p m o c a b) (templates.comparison p m code o c F G)
    comparison_stands o Both = all_jumped code _ _ _ _ (comparing_stands (if_icmp (opposite o))) (comparing_stands (if_icmp o))
    comparison_stands o LeftAlone = with_null_stands o _ _ (ha.value)
    comparison_stands o RightAlone = with_null_stands o _ _ (hb.value)

    binary_stands : (o : Op) (c : Compared) (s t : Option CoreType) →
        AllStand code (pieces.binary p m o c a b s t) (templates.binary p m code o c F G s t)
    binary_stands ops.Or c s t = all_jumped code _ _ _ _
        (stands_skips_then code _ _ (F.when) (G.unless) (ha.when) (hb.unless)) (stands_jumps_then code _ _ (F.when) (G.when)
        (ha.when) (hb.when))
    binary_stands ops.And c s t = all_jumped code _ _ _ _
        (stands_jumps_then code _ _ (F.unless) (G.unless) (ha.unless) (hb.unless)) (stands_skips_then code _ _ (F.unless) (G.when)
        (ha.unless) (hb.when))
    binary_stands ops.Add c s t = all_valued code _ _ (plus_stands (joins ops.Add s t) s t)
    binary_stands ops.Sub c s t = all_valued code _ _ (two_stand _)
    binary_stands ops.Mul c s t = all_valued code _ _ (two_stand _)
    binary_stands ops.Div c s t = all_valued code _ _ (two_stand _)
    binary_stands ops.Rem c s t = all_valued code _ _ (two_stand _)
    binary_stands ops.Eq c s t = comparison_stands ops.Eq c
    binary_stands ops.Ne c s t = comparison_stands ops.Ne c
    binary_stands ops.Lt c s t = comparison_stands ops.Lt c
    binary_stands ops.Le c s t = comparison_stands ops.Le c
    binary_stands ops.Gt c s t = comparison_stands ops.Gt c
    binary_stands ops.Ge c s t = comparison_stands ops.Ge c

  mutual
    pub expr_stands : (scope : List ℕ) (e : Expr) → AllStand code (pieces.pieces p m scope e) (templates.forms p m code scope e)
    expr_stands scope (Int q n) = all_valued code _ _ (stands_single code _)
    expr_stands scope (Truth q b) = literal_stands b
    expr_stands scope (Text q s) = all_valued code _ _ (stands_single code _)
    expr_stands scope (Null q) = all_valued code _ _ (stands_single code _)
    expr_stands scope (Variable q x) = all_valued code _ _ (variable_stands scope x)
    expr_stands scope (Constant q e n) = all_valued code _ _ (stands_single code _)
    expr_stands scope (Neg q a) = all_valued code _ _ (stands_and code _ _ _ _ ((expr_stands scope a).value) (stands_single code _))
    expr_stands scope (Not q a) = all_jumped code _ _ _ _ ((expr_stands scope a).when) ((expr_stands scope a).unless)
    expr_stands scope (Binary q o a b) =
        binary_stands _ _ _ _ (expr_stands scope a) (expr_stands scope b) o (compared a b) (type_of p m a) (type_of p m b)
    expr_stands scope (Protocol q x n args) = all_valued code _ _
        (stands_and code _ _ _ _ (stands_and code _ _ _ _ (variable_stands scope x.var) (arguments_stand scope args))
        (stands_single code _))
    expr_stands scope (Helper q n args) = all_valued code _ _
        (stands_and code _ _ _ _ (stands_and code _ _ _ _ (stands_single code _) (arguments_stand scope args)) (stands_single code _))
    expr_stands scope (Static q n args) = all_valued code _ _ (stands_and code _ _ _ _ (arguments_stand scope args)
        (stands_single code _))
    expr_stands scope (Equals q a b) = all_valued code _ _ (two_stand _ _ _ _ (expr_stands scope a) (expr_stands scope b) _)
    expr_stands scope (Concat q a b) = all_valued code _ _ (two_stand _ _ _ _ (expr_stands scope a) (expr_stands scope b) _)
    expr_stands scope (Session q c args) = all_valued code _ _ (stands_and code _ _ _ _ (arguments_stand scope args)
        (stands_single code _))
    expr_stands scope (New q c) = all_valued code _ _
        (stands_and code _ _ _ _ (stands_and code _ _ _ _ (stands_single code _) (stands_single code _)) (stands_single code _))

    pub arguments_stand : (scope : List ℕ) (args : Exprs) → Stands code (pieces.arguments p m scope args)
        (templates.arguments p m code scope args)
    arguments_stand scope NoExpr = stands_empty code
    arguments_stand scope (Argument e more) = stands_and code _ _ _ _ ((expr_stands scope e).value) (arguments_stand scope more)

  pub value_stands : (scope : List ℕ) (e : Expr) → Stands code (pieces.value p m scope e) (templates.value p m code scope e)
  value_stands scope e = (expr_stands scope e).value

  assign_stands : (scope : List ℕ) (x : Var) (v : Piece) (R : Span) → Stands code v R →
      Stands code (pieces.assign p m scope x v) (templates.assign p m code scope x R)
  assign_stands scope (vars.Slot k) v R h = stands_and code _ _ _ _ h (stands_single code _)
  assign_stands scope (vars.Field f) v R h = stands_and code _ _ _ _ (stands_and code _ _ _ _ (stands_single code _) h)
      (stands_single code _)

  discard_stands : (t : Option CoreType) → Stands code (pieces.discard p m t) (templates.discard p m code t)
  discard_stands None = stands_single code _
  discard_stands (Some types.Void) = stands_empty code
  discard_stands (Some types.Int) = stands_single code _
  discard_stands (Some types.Boolean) = stands_single code _
  discard_stands (Some types.Text) = stands_single code _
  discard_stands (Some (types.Object c)) = stands_single code _
  discard_stands (Some (types.Enum e)) = stands_single code _

  end_stands : (t : CoreType) → Stands code (pieces.end_of_method p m t) (templates.end_of_method p m code t)
  end_stands types.Void = stands_single code _
  end_stands types.Int = stands_and code _ _ _ _ (stands_single code _) (stands_single code _)
  end_stands types.Boolean = stands_and code _ _ _ _ (stands_single code _) (stands_single code _)
  end_stands types.Text = stands_and code _ _ _ _ (stands_single code _) (stands_single code _)
  end_stands (types.Object c) = stands_and code _ _ _ _ (stands_single code _) (stands_single code _)
  end_stands (types.Enum e) = stands_and code _ _ _ _ (stands_single code _) (stands_single code _)

  -- the groups stand, and begin where the generator says
  pub record GroupsStand (g : Grouped) (ts : List Around) (R : (starts : List ℕ) → Span) : Type 0 where
    pub long : (from : ℕ) → length (g.list ts from) ≡ g.size
    pub placed : (from : ℕ) → HasAt code from (g.list ts from) → R (g.starts from) from (from + g.size)
    pub begin : (starts : List ℕ) (from to : ℕ) → R starts from to → starts ≡ g.starts from
    pub behind : (starts : List ℕ) (from to : ℕ) → R starts from to → to ≡ from + g.size
    pub alone : (starts : List ℕ) (from to : ℕ) → R starts from to → HasAt code from (g.list ts from)

  -- the groups behind the table of a switch
  switch_stands : (v : Piece) (R : Span) (gs : Groups) (g : Grouped) (ns : List ℕ) (ts : List Around) (S : (to : ℕ)
      (starts : List ℕ) → Span) →
      Stands code v R → ((to : ℕ) → GroupsStand g (around.Switch to ∷ ts) (S to)) →
      Stands code (flowing (pieces.switched p m v gs g ns) ts) (λ from to. (starts : List ℕ) ×
      (R then one code (tableswitch (default_at gs starts to) (targets gs starts to ns)) then S to starts) from to)
  switch_stands v R gs g ns ts S hv hg =
      let table : List ℕ → ℕ → Instr = λ starts to. tableswitch (default_at gs starts to) (targets gs starts to ns) in
      let n = v.size + 1 + g.size in
      record {
        long = λ from.
            let to = from + n in
            let starts = g.starts (from + v.size + 1) in
            let k : from + (v.size + 1) ≡ from + v.size + 1 = omega arith in
            length-append (v.list from ++ table starts to ∷ []) (g.list (around.Switch to ∷ ts) (from + (v.size + 1)))
            ∙ omega (arith, length-append (v.list from) (table starts to ∷ []), hv.long from, (hg to).long (from + (v.size + 1)));
        placed = λ from h.
            let to = from + n in
            let starts = g.starts (from + v.size + 1) in
            let last = g.list (around.Switch to ∷ ts) (from + (v.size + 1)) in
            let two_long : length (v.list from ++ table starts to ∷ []) ≡ v.size + 1
            = length-append (v.list from) (table starts to ∷ []) ∙ omega (arith, hv.long from) in
            let front = has_front code from (v.list from ++ table starts to ∷ []) last h in
            let table_at = has_back code from v.size (v.list from) (table starts to ∷ []) (hv.long from) front in
            let back = has_back code from (v.size + 1) (v.list from ++ table starts to ∷ []) last two_long h in
            let groups = (hg to).placed (from + (v.size + 1)) back in
            let e : from + (v.size + 1) + g.size ≡ to = omega arith in
            let f : from + (v.size + 1) ≡ from + v.size + 1 = omega arith in
            let s : from + (v.size + 1) ≡ suc (from + v.size) = omega arith in
            let moved : S to starts (from + (v.size + 1)) to
            = subst (λ t. S to starts (from + (v.size + 1)) t) e (subst (λ k. S to (g.starts k) (from + (v.size + 1)) (from +
            (v.size + 1) + g.size)) f groups) in (
              starts,
              (
                from + (v.size + 1),
                (
                  from + v.size,
                  hv.placed from (has_front code from (v.list from) _ front),
                  (table_at.0, s),
                ),
                moved,
              ),
            );
        behind = λ from to h.
            omega (arith, hv.behind from ((h.1).1).0 ((h.1).1).1, (((h.1).1).2).1, (hg to).behind h.0 (h.1).0 to (h.1).2);
        alone = λ from to h.
            let starts = h.0 in
            let k = (h.1).0 in
            let j = ((h.1).1).0 in
            let ej : j ≡ from + v.size = hv.behind from j ((h.1).1).1 in
            let ek : k ≡ from + (v.size + 1) = omega (arith, ej, (((h.1).1).2).1) in
            let et : to ≡ from + n = omega (arith, ek, (hg to).behind starts k to (h.1).2) in
            let es : starts ≡ g.starts (from + v.size + 1) = (hg to).begin starts k to (h.1).2 ∙ ap g.starts (omega (arith, ek)) in
            let table_at : slice_get code (from + v.size) ≡ Some (table (g.starts (from + v.size + 1)) (from + n))
            = subst (λ x. slice_get code (from + v.size) ≡ Some (table (g.starts (from + v.size + 1)) x)) et
            (subst (λ x. slice_get code (from + v.size) ≡ Some (table x to)) es
            (subst (λ x. slice_get code x ≡ Some (table starts to)) ej (((h.1).1).2).0)) in
            let last : HasAt code (from + (v.size + 1)) (g.list (around.Switch (from + n) ∷ ts) (from + (v.size + 1)))
            = subst (λ x. HasAt code (from + (v.size + 1)) (g.list (around.Switch x ∷ ts) (from + (v.size + 1)))) et
            (subst (λ x. HasAt code x (g.list (around.Switch to ∷ ts) x)) ek ((hg to).alone starts k to (h.1).2)) in
            let starts' = g.starts (from + v.size + 1) in
            let two_long : length (v.list from ++ table starts' (from + n) ∷ []) ≡ v.size + 1
            = length-append (v.list from) (table starts' (from + n) ∷ []) ∙ omega (arith, hv.long from) in
            has_both code from (v.size + 1) (v.list from ++ table starts' (from + n) ∷ []) _ two_long
            (has_both code from v.size (v.list from) (table starts' (from + n) ∷ []) (hv.long from) (hv.alone from j ((h.1).1).1)
            (table_at, tt)) last;
      }

  no_groups_stand : (ts : List Around) (scope : List ℕ) → GroupsStand (pieces.no_groups p m) ts
      (templates.groups p m code scope ts NoGroup)
  no_groups_stand ts scope = record {
    long = λ from. refl;
    placed = λ from h. omega arith;
    begin = none_begin;
    behind = none_behind;
    alone = none_alone;
  }
    where
      none_begin : (starts : List ℕ) (from to : ℕ) → templates.groups p m code scope ts NoGroup starts from to → starts ≡ []
      none_begin [] from to h = refl
      none_begin (s ∷ starts) from to h = absurd h

      none_behind : (starts : List ℕ) (from to : ℕ) → templates.groups p m code scope ts NoGroup starts from to → to ≡ from + 0
      none_behind [] from to h = omega (arith, h)
      none_behind (s ∷ starts) from to h = absurd h

      none_alone : (starts : List ℕ) (from to : ℕ) → templates.groups p m code scope ts NoGroup starts from to → Unit {0}
      none_alone starts from to h = tt

  -- a group, and those behind it
  abbrev with_start : (R : Span) → (S : (starts : List ℕ) → Span) → (starts : List ℕ) → Span
  with_start R S [] from to = ⊥
  with_start R S (start ∷ starts) from to = (start ≡ from) × (R then S starts) from to

  group_stands : (s : Flowing) (g : Grouped) (ts : List Around) (R : Span) (S : (starts : List ℕ) → Span) →
      Stands code (flowing s ts) R → GroupsStand g ts S → GroupsStand (pieces.group_then p m s g) ts (with_start R S)
  group_stands s g ts R S hs hg = record {
    long = λ from. length-append (s.list ts from) (g.list ts (from + s.size)) ∙ omega (arith, hs.long from, hg.long (from + s.size));
    placed = λ from h.
        let e : from + s.size + g.size ≡ from + (s.size + g.size) = omega arith in (
          refl,
          (
            from + s.size,
            hs.placed from (has_front code from (s.list ts from) _ h),
            subst (λ t. S (g.starts (from + s.size)) (from + s.size) t) e
                (hg.placed (from + s.size) (has_back code from s.size (s.list ts from) _ (hs.long from) h)),
          ),
        );
    begin = begins;
    behind = is_behind;
    alone = is_alone;
  }
    where
      begins : (starts : List ℕ) (from to : ℕ) → with_start R S starts from to → starts ≡ from ∷ g.starts (from + s.size)
      begins [] from to h = absurd h
      begins (start ∷ starts) from to h =
          let e : (h.1).0 ≡ from + s.size = hs.behind from (h.1).0 (h.1).1 in
          ap (λ x. x ∷ starts) h.0 ∙ ap (λ xs. from ∷ xs) (hg.begin starts (h.1).0 to (h.1).2 ∙ ap g.starts e)

      is_behind : (starts : List ℕ) (from to : ℕ) → with_start R S starts from to → to ≡ from + (s.size + g.size)
      is_behind [] from to h = absurd h
      is_behind (start ∷ starts) from to h = omega (arith, hs.behind from (h.1).0 (h.1).1, hg.behind starts (h.1).0 to (h.1).2)

      is_alone : (starts : List ℕ) (from to : ℕ) → with_start R S starts from to →
          HasAt code from (s.list ts from ++ g.list ts (from + s.size))
      is_alone [] from to h = absurd h
      is_alone (start ∷ starts) from to h =
          has_both code from s.size (s.list ts from) (g.list ts (from + s.size)) (hs.long from) (hs.alone from (h.1).0 (h.1).1)
          (subst (λ k. HasAt code k (g.list ts k)) (hs.behind from (h.1).0 (h.1).1) (hg.alone starts (h.1).0 to (h.1).2))

  -- groups that stand for a relation stand for one that is the same
  regrouped : (g : Grouped) (ts : List Around) (R S : (starts : List ℕ) → Span) → ((starts : List ℕ) (from to : ℕ) →
      R starts from to → S starts from to) →
      ((starts : List ℕ) (from to : ℕ) → S starts from to → R starts from to) → GroupsStand g ts R → GroupsStand g ts S
  regrouped g ts R S f b h = record {
    long = h.long;
    placed = λ from x. f (g.starts from) from (from + g.size) (h.placed from x);
    begin = λ starts from to x. h.begin starts from to (b starts from to x);
    behind = λ starts from to x. h.behind starts from to (b starts from to x);
    alone = λ starts from to x. h.alone starts from to (b starts from to x);
  }

  module _ (scope : List ℕ) (ts : List Around) (labels : List (Option ℕ)) (body : Stmts) (end : Place) (more : Groups) where
    abbrev group_of : (starts : List ℕ) → Span
    group_of = with_start (templates.statements p m code scope ts body) (templates.groups p m code scope ts more)

    into_group : (starts : List ℕ) (from to : ℕ) → group_of starts from to →
        templates.groups p m code scope ts (Group labels body end more) starts from to
    into_group [] from to h = h
    into_group (start ∷ starts) from to h = h

    out_of_group : (starts : List ℕ) (from to : ℕ) → templates.groups p m code scope ts (Group labels body end more) starts from to →
        group_of starts from to
    out_of_group [] from to h = h
    out_of_group (start ∷ starts) from to h = h

  mutual
    pub statement_stands : (scope : List ℕ) (ts : List Around) (s : Stmt) →
        Stands code (flowing (pieces.statement p m scope s) ts) (templates.statement p m code scope ts s)
    statement_stands scope ts (Block q body end) = statements_stand scope ts body
    statement_stands scope ts (Empty q) = stands_empty code
    statement_stands scope ts (Local q k e) = stands_and code _ _ _ _ (value_stands scope e) (stands_single code _)
    statement_stands scope ts (Assign q x e) = assign_stands scope x.var _ _ (value_stands scope e)
    statement_stands scope ts (If q c s) =
        stands_within code _
        (λ from to. aiming ((pieces.pieces p m scope c).unless) to and flowing (pieces.statement p m scope s) ts)
        (λ from to. (templates.forms p m code scope c).unless to then templates.statement p m code scope ts s)
        (λ from to. stands_and code _ _ _ _ ((expr_stands scope c).unless to) (statement_stands scope ts s)) (λ from to. refl)
    statement_stands scope ts (IfElse q c s r) =
        stands_forked code _ _
        (λ from l to. aiming ((pieces.pieces p m scope c).unless) l and flowing (pieces.statement p m scope s) ts and single (goto to))
        (λ from l to. flowing (pieces.statement p m scope r) ts)
        (λ from l to. (templates.forms p m code scope c).unless l then templates.statement p m code scope ts s then one code (goto to))
        (λ from l to. templates.statement p m code scope ts r)
        (λ from l to. stands_and code _ _ _ _ (stands_and code _ _ _ _ ((expr_stands scope c).unless l)
        (statement_stands scope ts s)) (stands_single code _))
        (λ from l to. statement_stands scope ts r) (λ from l to. refl) (λ from l to. refl)
    statement_stands scope ts (While q n c s) =
        stands_within code _
        (λ from to. aiming ((pieces.pieces p m scope c).unless) to
        and flowing (pieces.statement p m scope s) (around.Loop n to from ∷ ts) and single (goto from))
        (λ from to. (templates.forms p m code scope c).unless to
        then templates.statement p m code scope (around.Loop n to from ∷ ts) s then one code (goto from))
        (λ from to. stands_and code _ _ _ _ (stands_and code _ _ _ _ ((expr_stands scope c).unless to) (statement_stands scope
        (around.Loop n to from ∷ ts) s)) (stands_single code _))
        (λ from to. refl)
    statement_stands scope ts (Do q n s c) =
        stands_forked code _ _
        (λ from k to. flowing (pieces.statement p m scope s) (around.Loop n to k ∷ ts))
        (λ from k to. aiming ((pieces.pieces p m scope c).when) from)
        (λ from k to. templates.statement p m code scope (around.Loop n to k ∷ ts) s)
        (λ from k to. (templates.forms p m code scope c).when from)
        (λ from k to. statement_stands scope (around.Loop n to k ∷ ts) s)
        (λ from k to. (expr_stands scope c).when from) (λ from k to. refl) (λ from k to. refl)
    statement_stands scope ts (Switch q e gs end) =
        switch_stands _ _ gs (pieces.groups p m scope gs) (positions p (type_of p m e)) ts
        (λ to starts. templates.groups p m code scope (around.Switch to ∷ ts) gs starts)
        (value_stands scope e) (λ to. groups_stand scope (around.Switch to ∷ ts) gs)
    statement_stands scope ts (Break q n) = stands_single code _
    statement_stands scope ts (Continue q n) = stands_single code _
    statement_stands scope ts (Return q None) = stands_single code _
    statement_stands scope ts (Return q (Some e)) = stands_and code _ _ _ _ (value_stands scope e) (stands_single code _)
    statement_stands scope ts (Print q e) =
        stands_and code _ _ _ _ (stands_and code _ _ _ _ (stands_and code _ _ _ _ (stands_single code _) (value_stands scope e))
        (text_stands (type_of p m e)))
        (stands_single code _)
    statement_stands scope ts (Eval q e) = stands_and code _ _ _ _ (value_stands scope e) (discard_stands (type_of p m e))

    pub statements_stand : (scope : List ℕ) (ts : List Around) (s : Stmts) →
        Stands code (flowing (pieces.statements p m scope s) ts) (templates.statements p m code scope ts s)
    statements_stand scope ts NoStmt = stands_empty code
    statements_stand scope ts (Then s more) = stands_and code _ _ _ _ (statement_stands scope ts s) (statements_stand scope ts more)
    statements_stand scope ts (Declare q k e more) =
        stands_and code _ _ _ _ (stands_and code _ _ _ _ (value_stands scope e) (stands_single code _)) (statements_stand
        (k ∷ scope) ts more)

    pub groups_stand : (scope : List ℕ) (ts : List Around) (gs : Groups) →
        GroupsStand (pieces.groups p m scope gs) ts (templates.groups p m code scope ts gs)
    groups_stand scope ts NoGroup = no_groups_stand ts scope
    groups_stand scope ts (Group labels body end more) =
        regrouped (pieces.groups p m scope (Group labels body end more)) ts _ _
        (into_group scope ts labels body end more) (out_of_group scope ts labels body end more)
        (group_stands _ _ ts _ _ (statements_stand scope ts body) (groups_stand scope ts more))

  -- the whole code
  pub method_stands : Stands code (pieces.method_piece p m)
      (templates.statements p m code (params_in_scope m) [] m.body then templates.end_of_method p m code m.result)
  method_stands = stands_and code _ _ _ _ (statements_stand (params_in_scope m) [] m.body) (end_stands m.result)

-- a list that stands at the beginning of a code and is as long as it is that code
zero-is-none : (n : ℕ) → 0 ≡ suc n → ⊥
zero-is-none n e = omega (arith, e)

same : {x y : Instr} → Some x ≡ Some y → x ≡ y
same {x} {y} h = ap (elim [ None ↦ x | Some z ↦ z ]) h

under : (i : Instr) (code xs : List Instr) (k : ℕ) → HasAt (i ∷ code) (suc k) xs → HasAt code k xs
under i code [] k h = tt
under i code (x ∷ xs) k h = (h.0, under i code xs (suc k) h.1)

over : (i : Instr) (code xs : List Instr) (k : ℕ) → HasAt code k xs → HasAt (i ∷ code) (suc k) xs
over i code [] k h = tt
over i code (x ∷ xs) k h = (h.0, over i code xs (suc k) h.1)

pub whole : (code xs : List Instr) → length code ≡ length xs → HasAt code 0 xs → code ≡ xs
whole [] [] e h = refl
whole [] (x ∷ xs) e h = absurd (zero-is-none (length xs) e)
whole (i ∷ code) [] e h = absurd (zero-is-none (length code) (sym e))
whole (i ∷ code) (x ∷ xs) e h =
    ap (λ y. y ∷ code) (same (h.0)) ∙ ap (λ ys. x ∷ ys) (whole code xs (omega (arith, e)) (under i code xs 0 h.1))

pub itself : (code : List Instr) → HasAt code 0 code
itself [] = tt
itself (i ∷ code) = (refl, over i code code 0 (itself code))

module _ (p : Program) (m : Method) where
  abbrev the_code : List Instr
  the_code = pieces.generated p m

  pub generated_is : IsCode p m the_code
  generated_is =
      let h = method_stands p m the_code in
      let e : 0 + (pieces.method_piece p m).size ≡ length the_code = omega (arith, h.long 0) in
      record {
        stands = subst (λ k. (templates.statements p m the_code (params_in_scope m) [] m.body
            then templates.end_of_method p m the_code m.result) 0 k) e (h.placed 0 (itself the_code));
      }

  pub only_generated : (code : List Instr) → IsCode p m code → code ≡ the_code
  only_generated code c =
      let h = method_stands p m code in
      let e : length code ≡ length the_code = omega (arith, h.long 0, h.behind 0 (length code) c.stands) in
      whole code the_code e (h.alone 0 (length code) c.stands)
