-- The code that is written, with the places of its labels, is what the templates ask for.
use Rattle.std.proofs.Common.{◌≡◌, ◌<◌, ◌≤◌, ℕ, zero, suc, ◌+◌, List, [], ◌∷◌, length, map, Bool, true, false, Some, Option, None}
use Rattle.std.proofs.Common.{refl, sym, ap, ◌∙◌, subst, arith, if◌then◌else◌, nat_eq}
use Rattle.std.specs.Prelude.{unwrap_or}
use Rattle.std.proofs.Common.{slice_get, option_map, length-append}
use Rattle.std.proofs.lemmas.List.{get_or-set_same, get_or-set_other, length-set, length-map}
use Rattle.std.proofs.lemmas.Option.{slice_get-map}
use Rattle.mg_text.specs.declared.place.Place.{Place}
use Rattle.jv_values.specs.Statements.{any_label, is_default, case_at}
use Rattle.jv_core.specs.declared.tree.Var.{Var}
use Rattle.jv_core.specs.declared.tree.Var.TheVariants as vars
use Rattle.jv_core.specs.declared.program.CoreType.{CoreType}
use Rattle.jv_core.specs.declared.program.CoreType.TheVariants as types
use Rattle.jv_core.specs.Tree.{Stmt, Block, Empty, Local, Assign, If, IfElse, While, Do, Switch, Break, Continue, Return, Print, Eval}
use Rattle.jv_core.specs.Tree.{Stmts, NoStmt, Then, Declare, Groups, NoGroup, Group, Method, Program}
use Rattle.gen_rules.specs.Symbolic.{Instr, jump, goto, tableswitch, is_reference, return_value, areturn, ireturn}
use Rattle.gen_rules.specs.Typed.{type_of}
use Rattle.gen_rules.specs.Around.{Around, break_to, continue_to}
use Rattle.gen_rules.specs.Around as around
use Rattle.gen_rules.specs.Cases.{default_at, constant_at, positions, targets, group_at}
use Rattle.jv_core.specs.Numbering.{numbers_from}
use Rattle.gen_rules.specs.Spans.{Span, nothing, ◌then◌ as ◌before◌, one}
use Rattle.gen_rules.specs.Templates as templates
use Rattle.gen_rules.specs.Templates.{IsCode}
use Rattle.gen_rules.specs.Locals.{params_in_scope}
use Rattle.gen_expressions.specs.Aimed.{place_of, aimed}
use Rattle.gen_expressions.specs.Drafting.{Draft, Step, skip, ◌then◌, emit, next_label, with_label, placed, ahead, with_labels}
use Rattle.gen_expressions.specs.Drafting as forms
use Rattle.gen_symbolic.specs.inner.Drafting.{count}
use Rattle.gen_symbolic.specs.inner.Drafting as drafts
use Rattle.gen_expressions.proofs.Follows.{Grows, grows_none, grows_more, grows_label, Final, Follows, follows_as, follows_skip}
use Rattle.gen_expressions.proofs.Follows.{follows_emit, follows_then, follows_ahead, follows_behind}
use Rattle.gen_expressions.proofs.Forms.{stays_if, text_follows, expr_follows, value_follows, store_follows, discard_follows}

module _ (p : Program) (m : Method) (final : List Instr) (ls : List ℕ) where
  abbrev F : Step → Span → Type 0
  F = Follows final ls

  abbrev at : ℕ → ℕ
  at = place_of ls

  abbrev at' : Draft → ℕ → ℕ
  at' d l = place_of d.labels l

  emits : (i : Instr) → aimed ls i ≡ i → F (emit i) (one final i)
  emits i e = follows_emit final ls i i e

  and_then : {f g : Step} {R S : Span} → F f R → F g S → F (f then g) (R before S)
  and_then a b = follows_then final ls _ _ _ _ a b

  jumps_to : (op l : ℕ) → F (emit (jump op l)) (one final (jump op (at l)))
  jumps_to op l = follows_emit final ls (jump op l) (jump op (at l)) refl

  skips : F skip nothing
  skips = follows_skip final ls

  return_stays : (t : CoreType) → aimed ls (return_value t) ≡ return_value t
  return_stays t = stays_if p m final ls (is_reference t) areturn ireturn refl refl

  assign_follows : (scope : List ℕ) (x : Var) (v : Step) (V : Span) → F v V →
      F (drafts.assign p m scope x v) (templates.assign p m final scope x V)
  assign_follows scope (vars.Slot k) v V h = and_then h (store_follows p m final ls scope k)
  assign_follows scope (vars.Field f) v V h = and_then (and_then (emits _ refl) h) (emits _ refl)

  end_follows : (t : CoreType) → F (drafts.end_of_method p m t) (templates.end_of_method p m final t)
  end_follows types.Void = emits _ refl
  end_follows types.Int = and_then (emits _ refl) (emits _ refl)
  end_follows types.Boolean = and_then (emits _ refl) (emits _ refl)
  end_follows types.Text = and_then (emits _ refl) (emits _ refl)
  end_follows (types.Object c) = and_then (emits _ refl) (emits _ refl)
  end_follows (types.Enum e) = and_then (emits _ refl) (emits _ refl)

  -- what stands around a statement, with places
  abbrev led : List Around → List Around
  led [] = []
  led (around.Loop n b c ∷ ts) = around.Loop n (at b) (at c) ∷ led ts
  led (around.Switch b ∷ ts) = around.Switch (at b) ∷ led ts

  at_if : (b : Bool) (k n r : ℕ) → at n ≡ r → at (if b then k else n) ≡ (if b then at k else r)
  at_if true k n r h = refl
  at_if false k n r h = h

  module _ (begins : at 0 ≡ 0) where
    break_led : (ts : List Around) (n : Option ℕ) → at (break_to ts n) ≡ break_to (led ts) n
    break_led [] n = begins
    break_led (around.Loop k b c ∷ ts) None = break_led ts None
    break_led (around.Loop k b c ∷ ts) (Some l) = at_if (nat_eq k l) b _ _ (break_led ts (Some l))
    break_led (around.Switch b ∷ ts) None = refl
    break_led (around.Switch b ∷ ts) (Some l) = break_led ts (Some l)

    continue_led : (ts : List Around) (n : ℕ) → at (continue_to ts n) ≡ continue_to (led ts) n
    continue_led [] n = begins
    continue_led (around.Loop k b c ∷ ts) n = at_if (nat_eq k n) c _ _ (continue_led ts n)
    continue_led (around.Switch b ∷ ts) n = continue_led ts n

    goes : (l k : ℕ) → at l ≡ k → F (emit (goto l)) (one final (goto k))
    goes l k e = follows_emit final ls (goto l) (goto k) (ap goto e)

    -- the places of labels
    module _ (w : Option ℕ → Bool) where
      group_if : (b : Bool) (s : ℕ) (x y : Option ℕ) → option_map at x ≡ y →
          option_map at (if b then Some s else x) ≡ (if b then Some (at s) else y)
      group_if true s x y h = refl
      group_if false s x y h = h

      group_led : (gs : Groups) (starts : List ℕ) → option_map at (group_at w gs starts) ≡ group_at w gs (map at starts)
      group_led NoGroup starts = refl
      group_led (Group labels body end more) [] = refl
      group_led (Group labels body end more) (s ∷ starts) = group_if (any_label w labels) s _ _ (group_led more starts)

    or_led : (o : Option ℕ) (d : ℕ) → at (unwrap_or o d) ≡ unwrap_or (option_map at o) (at d)
    or_led None d = refl
    or_led (Some k) d = refl

    default_led : (gs : Groups) (starts : List ℕ) (x : ℕ) → at (default_at gs starts x) ≡ default_at gs (map at starts) (at x)
    default_led gs starts x = or_led _ x ∙ ap (λ o. unwrap_or o (at x)) (group_led is_default gs starts)

    constant_led : (gs : Groups) (starts : List ℕ) (x n : ℕ) →
        at (constant_at gs starts x n) ≡ constant_at gs (map at starts) (at x) n
    constant_led gs starts x n =
        or_led _ _ ∙ ap (λ o. unwrap_or o (at (default_at gs starts x))) (group_led (case_at n) gs starts)
        ∙ ap (λ d. unwrap_or (group_at (case_at n) gs (map at starts)) d) (default_led gs starts x)

    targets_led : (gs : Groups) (starts : List ℕ) (x : ℕ) (ns : List ℕ) →
        map at (targets gs starts x ns) ≡ targets gs (map at starts) (at x) ns
    targets_led gs starts x [] = refl
    targets_led gs starts x (n ∷ ns) =
        ap (λ k. k ∷ map at (targets gs starts x ns)) (constant_led gs starts x n)
        ∙ ap (λ ks. constant_at gs (map at starts) (at x) n ∷ ks) (targets_led gs starts x ns)

    table_led : (gs : Groups) (starts : List ℕ) (x : ℕ) (ns : List ℕ) →
        aimed ls (tableswitch (default_at gs starts x) (targets gs starts x ns))
        ≡ tableswitch (default_at gs (map at starts) (at x)) (targets gs (map at starts) (at x) ns)
    table_led gs starts x ns =
        ap (λ d. tableswitch d (map at (targets gs starts x ns))) (default_led gs starts x)
        ∙ ap (λ ts. tableswitch (default_at gs (map at starts) (at x)) ts) (targets_led gs starts x ns)

    -- Groups: they give places to their labels, which are there already.
    record GroupsGrow (first behind' : ℕ) (d e : Draft) : Type 0 where
      pub code : length d.code ≤ length e.code
      pub same : (i : ℕ) → i < length d.code → slice_get e.code i ≡ slice_get d.code i
      pub labels : length d.labels ≤ length e.labels
      pub low : (l : ℕ) → l < first → l < length d.labels → at' e l ≡ at' d l
      pub high : (l : ℕ) → behind' ≤ l → l < length d.labels → at' e l ≡ at' d l

    record GroupsFinal (first behind' : ℕ) (d e : Draft) : Type 0 where
      pub code : (i : ℕ) → length d.code ≤ i → i < length e.code → slice_get final i ≡ option_map (aimed ls) (slice_get e.code i)
      pub own : (l : ℕ) → first ≤ l → l < behind' → at l ≡ at' e l
      pub labels : (l : ℕ) → length d.labels ≤ l → l < length e.labels → at l ≡ at' e l

    record GroupsFollow (gs : Groups) (step : (first : ℕ) → Step) (S : (starts : List ℕ) → Span) : Type 0 where
      pub grows : (first : ℕ) (d : Draft) → first + count gs ≤ length d.labels → GroupsGrow first (first + count gs) d (step first d)
      pub holds : (first : ℕ) (d : Draft) → first + count gs ≤ length d.labels → GroupsFinal first (first + count gs) d (step first d) →
          S (map at (numbers_from first (count gs))) (length d.code) (length (step first d).code)

    none_follow : (S : (starts : List ℕ) → Span) → ((k : ℕ) → S [] k k) → GroupsFollow NoGroup (λ first. skip) S
    none_follow S h = record {
      grows = λ first d room. record {
        code = omega arith;
        same = λ i lt. refl;
        labels = omega arith;
        low = λ l a b. refl;
        high = λ l a b. refl;
      };
      holds = λ first d room f. h (length d.code);
    }

    placed_labels : (l : ℕ) (d : Draft) → length (placed l d).labels ≡ length d.labels
    unfolding placed
    placed_labels l d = length-set d.labels l (length d.code)

    placed_same : (l : ℕ) (d : Draft) → (placed l d).code ≡ d.code
    unfolding placed
    placed_same l d = refl

    placed_at : (l : ℕ) (d : Draft) → l < length d.labels → at' (placed l d) l ≡ length d.code
    unfolding placed
    placed_at l d lt = get_or-set_same d.labels l (length d.code) 0 lt

    placed_other : (l k : ℕ) (d : Draft) → (k ≡ l → ⊥) → at' (placed l d) k ≡ at' d k
    unfolding placed
    placed_other l k d h = get_or-set_other d.labels l k (length d.code) 0 h

    -- a group in front of others
    abbrev with_start : (R : Span) → (S : (starts : List ℕ) → Span) → (starts : List ℕ) → Span
    with_start R S [] from to = ⊥
    with_start R S (start ∷ starts) from to = (start ≡ from) × (R before S starts) from to

    module _ (labels : List (Option ℕ)) (body : Stmts) (end : Place) (more : Groups) (f : Step) (step : (first : ℕ) → Step)
        (R : Span) (S : (starts : List ℕ) → Span) (hf : F f R) (hg : GroupsFollow more step S) where
      module _ (first : ℕ) (d : Draft) (room : first + suc (count more) ≤ length d.labels) where
        abbrev begun : Draft
        begun = placed first d

        abbrev past_body : Draft
        past_body = f begun

        abbrev past_all : Draft
        past_all = step (suc first) past_body

        body_grows : Grows begun past_body
        body_grows = hf.grows begun

        more_room : suc first + count more ≤ length past_body.labels
        more_room = let n = placed_labels first d in omega (arith, n, room, body_grows.labels)

        rest_grows : GroupsGrow (suc first) (suc first + count more) past_body past_all
        rest_grows = hg.grows (suc first) past_body more_room

        same_code : length begun.code ≡ length d.code
        same_code = ap length (placed_same first d)

        all_grow : GroupsGrow first (first + suc (count more)) d past_all
        all_grow = record {
          code = omega (arith, same_code, body_grows.code, rest_grows.code);
          same = λ i lt.
              rest_grows.same i (omega (arith, lt, same_code, body_grows.code)) ∙ body_grows.same i (omega (arith, lt, same_code))
              ∙ ap (λ xs. slice_get xs i) (placed_same first d);
          labels = (let n = placed_labels first d in omega (arith, n, body_grows.labels, rest_grows.labels));
          low = λ l lt there.
              let n = placed_labels first d in
              rest_grows.low l (omega (arith, lt)) (omega (arith, there, n, body_grows.labels)) ∙ body_grows.kept l
              (omega (arith, there, n))
              ∙ placed_other first l d (λ e. less_apart l lt e);
          high = λ l le there.
              let n = placed_labels first d in
              rest_grows.high l (omega (arith, le)) (omega (arith, there, n, body_grows.labels)) ∙ body_grows.kept l
              (omega (arith, there, n))
              ∙ placed_other first l d (λ e. more_apart l le e);
        }
          where
            less_apart : (l : ℕ) → l < first → l ≡ first → ⊥
            less_apart l lt e = omega (arith, lt, e)

            more_apart : (l : ℕ) → first + suc (count more) ≤ l → l ≡ first → ⊥
            more_apart l le e = omega (arith, le, e)

        module _ (h : GroupsFinal first (first + suc (count more)) d past_all) where
          start_is : at first ≡ length d.code
          start_is =
              let n = placed_labels first d in
              h.own first (omega arith) (omega arith) ∙ rest_grows.low first (omega arith) (omega (arith, room, n, body_grows.labels))
              ∙ body_grows.kept first (omega (arith, room, n)) ∙ placed_at first d (omega (arith, room))

          body_final : Final final ls begun past_body
          body_final = record {
            code = λ i low high.
                h.code i (omega (arith, low, same_code)) (omega (arith, high, rest_grows.code))
                ∙ ap (option_map (aimed ls)) (rest_grows.same i high);
            labels = λ l low high.
                let n = placed_labels first d in
                h.labels l (omega (arith, low, n)) (omega (arith, high, rest_grows.labels))
                ∙ rest_grows.high l (omega (arith, low, n, room)) high;
          }

          rest_final : GroupsFinal (suc first) (suc first + count more) past_body past_all
          rest_final = record {
            code = λ i low high. h.code i (omega (arith, low, same_code, body_grows.code)) high;
            own = λ l low high. h.own l (omega (arith, low)) (omega (arith, high));
            labels = λ l low high. (let n = placed_labels first d in h.labels l (omega (arith, low, n, body_grows.labels)) high);
          }

          all_hold : with_start R S (map at (numbers_from first (suc (count more)))) (length d.code) (length past_all.code)
          all_hold = (
            start_is,
            (
              length past_body.code,
              subst (λ k. R k (length past_body.code)) same_code (hf.holds begun body_final),
              hg.holds (suc first) past_body more_room rest_final,
            ),
          )

      group_follow : GroupsFollow (Group labels body end more) (λ first. placed first then f then step (suc first)) (with_start R S)
      group_follow = record { grows = all_grow; holds = all_hold }

    regrouped : (gs : Groups) (step : (first : ℕ) → Step) (S T : (starts : List ℕ) → Span) →
        ((starts : List ℕ) (from to : ℕ) → S starts from to → T starts from to) → GroupsFollow gs step S → GroupsFollow gs step T
    regrouped gs step S T h g = record { grows = g.grows; holds = λ first d room f. h _ _ _ (g.holds first d room f) }

    -- so many labels
    labels_grow : (n : ℕ) (d : Draft) → Grows d (with_labels n d)
    labels_grow zero d = grows_none d
    labels_grow (suc n) d = grows_more d (with_label 0 d) (with_labels n (with_label 0 d)) (grows_label d 0)
        (labels_grow n (with_label 0 d))

    label_long : (d : Draft) → length (with_label 0 d).labels ≡ suc (length d.labels)
    unfolding with_label
    label_long d = length-append d.labels (0 ∷ []) ∙ omega arith

    labels_long : (n : ℕ) (d : Draft) → length (with_labels n d).labels ≡ length d.labels + n
    labels_long zero d = omega arith
    labels_long (suc n) d = let one_more = label_long d in let rest = labels_long n (with_label 0 d) in omega (arith, one_more, rest)

    label_same : (d : Draft) → (with_label 0 d).code ≡ d.code
    unfolding with_label
    label_same d = refl

    labels_same : (n : ℕ) (d : Draft) → (with_labels n d).code ≡ d.code
    labels_same zero d = refl
    labels_same (suc n) d = labels_same n (with_label 0 d) ∙ label_same d

    next_long : (d : Draft) → next_label d ≡ length d.labels
    unfolding next_label
    next_long d = refl

    -- a table and its groups
    module _ (gs : Groups) (x : ℕ) (ns : List ℕ) (step : (first : ℕ) → Step) (S : (starts : List ℕ) → Span) (hg : GroupsFollow gs step S)
      where
        abbrev tabled : (to : ℕ) → Span
        tabled to' from to = (starts : List ℕ) × (one final (tableswitch (default_at gs starts to') (targets gs starts to' ns)) before S
            starts) from to

        module _ (d : Draft) where
          abbrev labelled : Draft
          labelled = with_labels (count gs) d

          abbrev the_table : Step
          the_table = drafts.table p m gs (next_label d) (count gs) x ns

          abbrev past_table : Draft
          past_table = the_table labelled

          abbrev past_groups : Draft
          past_groups = step (next_label d) past_table

          abbrev starts : List ℕ
          starts = map at (numbers_from (next_label d) (count gs))

          table_follows : F the_table (one final (tableswitch (default_at gs starts (at x)) (targets gs starts (at x) ns)))
          table_follows = follows_emit final ls _ _ (table_led gs (numbers_from (next_label d) (count gs)) x ns)

          table_grows : Grows labelled past_table
          table_grows = table_follows.grows labelled

          room : next_label d + count gs ≤ length past_table.labels
          room = let n = labels_long (count gs) d in let k = next_long d in omega (arith, n, k, table_grows.labels)

          groups_grow : GroupsGrow (next_label d) (next_label d + count gs) past_table past_groups
          groups_grow = hg.grows (next_label d) past_table room

          to_table : Grows d past_table
          to_table = grows_more d labelled past_table (labels_grow (count gs) d) table_grows

          all_grown : Grows d past_groups
          all_grown = record {
            code = omega (arith, to_table.code, groups_grow.code);
            same = λ i lt. groups_grow.same i (omega (arith, lt, to_table.code)) ∙ to_table.same i lt;
            labels = omega (arith, to_table.labels, groups_grow.labels);
            kept = λ l lt.
                let k = next_long d in
                groups_grow.low l (omega (arith, lt, k)) (omega (arith, lt, to_table.labels)) ∙ to_table.kept l lt;
          }

          module _ (h : Final final ls d past_groups) where
            long : length labelled.code ≡ length d.code
            long = ap length (labels_same (count gs) d)

            table_final : Final final ls labelled past_table
            table_final = record {
              code = λ i low high.
                  h.code i (omega (arith, low, long)) (omega (arith, high, groups_grow.code)) ∙ ap (option_map (aimed ls))
                  (groups_grow.same i high);
              labels = λ l low high.
                  let n = labels_long (count gs) d in
                  let k = next_long d in
                  h.labels l (omega (arith, low, n)) (omega (arith, high, groups_grow.labels))
                  ∙ groups_grow.high l (omega (arith, low, n, k)) high;
            }

            groups_final : GroupsFinal (next_label d) (next_label d + count gs) past_table past_groups
            groups_final = record {
              code = λ i low high. h.code i (omega (arith, low, to_table.code)) high;
              own = λ l low high. (let k = next_long d in h.labels l (omega (arith, low, k))
                  (omega (arith, high, room, groups_grow.labels)));
              labels = λ l low high. h.labels l (omega (arith, low, to_table.labels)) high;
            }

            tabled_holds : tabled (at x) (length d.code) (length past_groups.code)
            tabled_holds = (
              starts,
              (
                length past_table.code,
                subst (λ k. one final (tableswitch (default_at gs starts (at x)) (targets gs starts (at x) ns)) k (length past_table.code))
                    long
                    (table_follows.holds labelled table_final),
                hg.holds (next_label d) past_table room groups_final,
              ),
            )

        switched_follows : F (drafts.switched p m gs step x ns) (tabled (at x))
        switched_follows = record { grows = all_grown; holds = tabled_holds }

    -- the value, then the table
    value_tabled : (gs : Groups) (ns : List ℕ) (V : Span) (S : (to : ℕ) (starts : List ℕ) → Span) (to' from to : ℕ) →
        (V before (λ a b. (starts : List ℕ) × (one final (tableswitch (default_at gs starts to') (targets gs starts to' ns)) before S to'
        starts) a b)) from to →
        (starts : List ℕ) × (V before one final (tableswitch (default_at gs starts to') (targets gs starts to' ns)) before S to' starts)
        from to
    value_tabled gs ns V S to' from to h = ((h.2).0, (((h.2).1).0, (h.0, h.1, ((h.2).1).1), ((h.2).1).2))

    into_group : (scope : List ℕ) (ts : List Around) (labels : List (Option ℕ)) (body : Stmts) (end : Place) (more : Groups)
        (starts : List ℕ) (from to : ℕ) →
        with_start (templates.statements p m final scope (led ts) body) (templates.groups p m final scope (led ts) more) starts from to →
        templates.groups p m final scope (led ts) (Group labels body end more) starts from to
    into_group scope ts labels body end more [] from to h = h
    into_group scope ts labels body end more (start ∷ starts) from to h = h

    mutual
      statement_follows : (scope : List ℕ) (ts : List Around) (s : Stmt) →
          F (drafts.statement p m scope ts s) (templates.statement p m final scope (led ts) s)
      statement_follows scope ts (Block q body end) = statements_follow scope ts body
      statement_follows scope ts (Empty q) = skips
      statement_follows scope ts (Local q k e) = and_then (value_follows p m final ls scope e) (store_follows p m final ls (k ∷ scope) k)
      statement_follows scope ts (Assign q x e) = assign_follows scope x.var _ _ (value_follows p m final ls scope e)
      statement_follows scope ts (If q c s) =
          follows_ahead final ls (λ l. forms.jump p m scope c false l then drafts.statement p m scope ts s)
          (λ t. templates.unless p m final scope c t before templates.statement p m final scope (led ts) s)
          (λ l. and_then ((expr_follows p m final ls scope c).unless l) (statement_follows scope ts s))
      statement_follows scope ts (IfElse q c s r) =
          follows_ahead final ls
          (λ n. ahead (λ l. forms.jump p m scope c false l then drafts.statement p m scope ts s then emit (goto n)) then drafts.statement p
          m scope ts r)
          (λ t. (λ from l. (templates.unless p m final scope c l before templates.statement p m final scope (led ts) s before one final
          (goto t)) from l)
          before templates.statement p m final scope (led ts) r)
          (λ n. and_then
          (follows_ahead final ls (λ l. forms.jump p m scope c false l then drafts.statement p m scope ts s then emit (goto n))
          (λ l. templates.unless p m final scope c l before templates.statement p m final scope (led ts) s before one final (goto (at n)))
          (λ l. and_then (and_then ((expr_follows p m final ls scope c).unless l) (statement_follows scope ts s)) (jumps_to 167 n)))
          (statement_follows scope ts r))
      statement_follows scope ts (While q n c s) =
          follows_behind final ls
          (λ h. ahead (λ x. forms.jump p m scope c false x then drafts.statement p m scope (around.Loop n x h ∷ ts) s then emit (goto h)))
          (λ h from to. (templates.unless p m final scope c to before templates.statement p m final scope (around.Loop n to h ∷ led ts) s
          before one final (goto h)) from to)
          (λ h. follows_ahead final ls
          (λ x. forms.jump p m scope c false x then drafts.statement p m scope (around.Loop n x h ∷ ts) s then emit (goto h))
          (λ t. templates.unless p m final scope c t before templates.statement p m final scope (around.Loop n t (at h) ∷ led ts) s
          before one final (goto (at h)))
          (λ x. and_then (and_then ((expr_follows p m final ls scope c).unless x) (statement_follows scope (around.Loop n x h ∷ ts) s))
          (jumps_to 167 h)))
      statement_follows scope ts (Do q n s c) =
          follows_behind final ls
          (λ h. ahead (λ x. ahead (λ k. drafts.statement p m scope (around.Loop n x k ∷ ts) s) then forms.jump p m scope c true h))
          (λ h from to. ((λ a k. templates.statement p m final scope (around.Loop n to k ∷ led ts) s a k)
          before templates.when p m final scope c h) from to)
          (λ h. follows_ahead final ls
          (λ x. ahead (λ k. drafts.statement p m scope (around.Loop n x k ∷ ts) s) then forms.jump p m scope c true h)
          (λ t. (λ a k. templates.statement p m final scope (around.Loop n t k ∷ led ts) s a k) before templates.when p m final scope c
          (at h))
          (λ x. and_then
          (follows_ahead final ls (λ k. drafts.statement p m scope (around.Loop n x k ∷ ts) s)
          (λ k. templates.statement p m final scope (around.Loop n (at x) k ∷ led ts) s)
          (λ k. statement_follows scope (around.Loop n x k ∷ ts) s))
          ((expr_follows p m final ls scope c).when h)))
      statement_follows scope ts (Switch q e gs end) =
          let ns = positions p (type_of p m e) in
          let S = λ (to : ℕ). templates.groups p m final scope (around.Switch to ∷ led ts) gs in
          follows_ahead final ls
          (λ x. forms.value p m scope e
          then drafts.switched p m gs (λ first. drafts.groups p m scope (around.Switch x ∷ ts) gs first) x ns)
          (λ t from to. (starts : List ℕ) × (templates.value p m final scope e
          before one final (tableswitch (default_at gs starts t) (targets gs starts t ns)) before S t starts) from to)
          (λ x. follows_as final ls _ _ _ (value_tabled gs ns (templates.value p m final scope e) S (at x))
          (and_then (value_follows p m final ls scope e)
          (switched_follows gs x ns _ (S (at x)) (groups_follow scope (around.Switch x ∷ ts) gs))))
      statement_follows scope ts (Break q n) = goes _ _ (break_led ts n)
      statement_follows scope ts (Continue q n) = goes _ _ (continue_led ts n)
      statement_follows scope ts (Return q None) = emits _ refl
      statement_follows scope ts (Return q (Some e)) = and_then (value_follows p m final ls scope e) (emits _ (return_stays m.result))
      statement_follows scope ts (Print q e) =
          and_then (and_then (and_then (emits _ refl) (value_follows p m final ls scope e)) (text_follows p m final ls (type_of p m e)))
          (emits _ refl)
      statement_follows scope ts (Eval q e) = and_then (value_follows p m final ls scope e) (discard_follows p m final ls (type_of p m e))

      statements_follow : (scope : List ℕ) (ts : List Around) (s : Stmts) →
          F (drafts.statements p m scope ts s) (templates.statements p m final scope (led ts) s)
      statements_follow scope ts NoStmt = skips
      statements_follow scope ts (Then s more) = and_then (statement_follows scope ts s) (statements_follow scope ts more)
      statements_follow scope ts (Declare q k e more) =
          and_then (and_then (value_follows p m final ls scope e) (store_follows p m final ls (k ∷ scope) k))
          (statements_follow (k ∷ scope) ts more)

      groups_follow : (scope : List ℕ) (ts : List Around) (gs : Groups) →
          GroupsFollow gs (drafts.groups p m scope ts gs) (templates.groups p m final scope (led ts) gs)
      groups_follow scope ts NoGroup = none_follow _ (λ k. refl)
      groups_follow scope ts (Group labels body end more) =
          regrouped (Group labels body end more) _ _ _ (into_group scope ts labels body end more)
          (group_follow labels body end more _ _ _ _ (statements_follow scope ts body) (groups_follow scope ts more))

-- the whole code
module _ (p : Program) (m : Method) where
  abbrev the_draft : Draft
  the_draft = drafts.drafted p m

  abbrev beginning : Draft
  beginning = record { code = []; labels = 0 ∷ [] }

  abbrev the_code : List Instr
  the_code = map (aimed the_draft.labels) the_draft.code

  -- what grows needs no final code: any will do
  method_grows : Grows beginning the_draft
  method_grows =
      let s = and_then p m [] [] (statements_follow p m [] [] refl (params_in_scope m) [] m.body) (end_follows p m [] [] m.result) in
      s.grows beginning

  pub drafted_is_code : IsCode p m the_code
  drafted_is_code =
      let ls = the_draft.labels in
      let begins : place_of ls 0 ≡ 0 = method_grows.kept 0 (omega arith) in
      let s = and_then p m the_code ls (statements_follow p m the_code ls begins (params_in_scope m) [] m.body)
      (end_follows p m the_code ls m.result) in
      let all : Final the_code ls beginning the_draft = record {
        code = λ i low high. slice_get-map (aimed ls) the_draft.code i;
        labels = λ l low high. refl;
      } in
      record {
        stands = subst (λ k. (templates.statements p m the_code (params_in_scope m) [] m.body
            before templates.end_of_method p m the_code m.result) 0 k) (sym (length-map the_draft.code (aimed ls))) (s.holds beginning all);
      }
