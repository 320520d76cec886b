-- What is written of an expression or a condition, with the places of labels, is what the templates ask for.
use Rattle.std.proofs.Common.{◌≡◌, ℕ, ◌+◌, List, Bool, true, false, Some, Option, None, refl, if◌then◌else◌}
use Rattle.std.specs.Prelude.{pos, negsuc, ℤ, nat_le}
use Rattle.jv_tree.specs.declared.tree.Op.{Op}
use Rattle.jv_tree.specs.declared.tree.Op.TheVariants as ops
use Rattle.jv_core.specs.declared.tree.Var.{Var}
use Rattle.jv_core.specs.declared.tree.Var.TheVariants as vars
use Rattle.jv_core.specs.declared.program.CoreType.{CoreType}
use Rattle.jv_core.specs.declared.program.CoreType.TheVariants as types
use Rattle.jv_core.specs.Tree.{Expr, Int, Truth, Text, Null, Variable, Constant, Neg}
use Rattle.jv_core.specs.Tree.{Not, Binary, Protocol, Helper, Static, Equals, Concat, Session, New, Exprs, NoExpr, Argument}
use Rattle.jv_core.specs.Tree.{Method, Program}
use Rattle.cls_tree.specs.Pool.{Int as Number'}
use Rattle.gen_rules.specs.Symbolic.{Instr, Number, Constant as Pushes, Local as Local', plain, jump, push, iconst, lies_within, if_icmp}
use Rattle.gen_rules.specs.Symbolic.{opposite, goto, load, store, aload, iload, astore, istore, with_local, is_reference}
use Rattle.gen_rules.specs.Typed.{joins, type_of}
use Rattle.gen_rules.specs.Spans.{Span, nothing, ◌then◌ as ◌before◌, Forms as Spans, one}
use Rattle.gen_rules.specs.Spans as spans
use Rattle.gen_rules.specs.Templates as templates
use Rattle.gen_rules.specs.Templates.{Compared, Both, LeftAlone, RightAlone, compared}
use Rattle.gen_rules.specs.Locals.{local_of}
use Rattle.gen_expressions.specs.Aimed.{place_of, aimed}
use Rattle.gen_expressions.specs.Drafting.{Step, skip, ◌then◌, emit, ahead}
use Rattle.gen_expressions.specs.Drafting as drafts
use Rattle.gen_expressions.proofs.Follows.{Follows, follows_skip, follows_emit, follows_then, follows_ahead}

-- jumps by their opcodes
icmp_is : (o : Op) (l : ℕ) → jump (drafts.icmp_op o) l ≡ if_icmp o l
icmp_is ops.Or l = refl
icmp_is ops.And l = refl
icmp_is ops.Eq l = refl
icmp_is ops.Ne l = refl
icmp_is ops.Lt l = refl
icmp_is ops.Le l = refl
icmp_is ops.Gt l = refl
icmp_is ops.Ge l = refl
icmp_is ops.Add l = refl
icmp_is ops.Sub l = refl
icmp_is ops.Mul l = refl
icmp_is ops.Div l = refl
icmp_is ops.Rem l = refl

module _ (p : Program) (m : Method) (final : List Instr) (ls : List ℕ) where
  abbrev pub F : Step → Span → Type 0
  F = Follows final ls

  abbrev pub at : ℕ → ℕ
  at = place_of ls

  -- the three forms of an expression
  pub record AllFollow (a : drafts.Forms) (R : Spans) : Type 0 where
    pub value : F (a.value) (R.value)
    pub unless : (l : ℕ) → F (a.jump false l) (R.unless (at l))
    pub when : (l : ℕ) → F (a.jump true l) (R.when (at l))

  emits : (i : Instr) → aimed ls i ≡ i → F (emit i) (one final i)
  emits i e = follows_emit final ls i i e

  and_then : {f g : Step} {R S : Span} → F f R → F g S → F (f then g) (R before S)
  and_then a b = follows_then final ls _ _ _ _ a b

  jumps_to : (op l : ℕ) → F (emit (jump op l)) (one final (jump op (at l)))
  jumps_to op l = follows_emit final ls (jump op l) (jump op (at l)) refl

  valued : (v : Step) (V : Span) → F v V → AllFollow (drafts.by_value v) (spans.by_value final V)
  valued v V h = record {
    value = h;
    unless = λ l. and_then h (jumps_to 153 l);
    when = λ l. and_then h (jumps_to 154 l);
  }

  jumped : {j : (holds : Bool) → (label : ℕ) → Step} {U W : (target : ℕ) → Span} →
      ((l : ℕ) → F (j false l) (U (at l))) → ((l : ℕ) → F (j true l) (W (at l))) → AllFollow (drafts.by_jumps j) (spans.by_jumps final U W)
  jumped {j} {U} {W} u w = record {
    value =
        follows_ahead final ls
        (λ n. ahead (λ f. j false f then emit (push (pos 1)) then emit (goto n)) then emit (push (pos 0)))
        (λ t. (λ from f. (U f before one final (push (pos 1)) before one final (goto t)) from f) before one final (push (pos 0)))
        (λ n. and_then
        (follows_ahead final ls (λ f. j false f then emit (push (pos 1)) then emit (goto n))
        (λ f. U f before one final (push (pos 1)) before one final (goto (at n)))
        (λ f. and_then (and_then (u f) (emits (push (pos 1)) refl)) (jumps_to 167 n)))
        (emits (push (pos 0)) refl));
    unless = u;
    when = w;
  }

  -- instructions that don't jump stay as they are
  pub stays_if : (b : Bool) (i j : Instr) → aimed ls i ≡ i → aimed ls j ≡ j → aimed ls (if b then i else j) ≡ (if b then i else j)
  stays_if true i j h k = h
  stays_if false i j h k = k

  push_stays : (n : ℤ) → aimed ls (push n) ≡ push n
  push_stays n =
      let far : Instr = record { op = 18; operand = Pushes (Number' n) } in
      let short : Instr = record { op = 17; operand = Number n } in
      let near : Instr = record { op = 16; operand = Number n } in
      stays_if (lies_within (negsuc 0) (pos 5) n) (plain (iconst n)) _ refl
      (stays_if (lies_within (negsuc 127) (pos 127) n) near _ refl (stays_if (lies_within (negsuc 32767) (pos 32767) n) short far refl
      refl))

  local_stays : (short long k : ℕ) → aimed ls (with_local short long k) ≡ with_local short long k
  local_stays short long k = stays_if (nat_le k 3) (plain (short + k)) (record { op = long; operand = Local' k }) refl refl

  load_stays : (t : CoreType) (k : ℕ) → aimed ls (load t k) ≡ load t k
  load_stays t k = stays_if (is_reference t) (aload k) (iload k) (local_stays 42 25 k) (local_stays 26 21 k)

  store_stays : (t : CoreType) (k : ℕ) → aimed ls (store t k) ≡ store t k
  store_stays t k = stays_if (is_reference t) (astore k) (istore k) (local_stays 75 58 k) (local_stays 59 54 k)

  skips : F skip nothing
  skips = follows_skip final ls

  variable_follows : (scope : List ℕ) (x : Var) → F (drafts.variable p m scope x) (templates.variable p m final scope x)
  variable_follows scope (vars.Slot k) = emits _ (load_stays (drafts.variable_type_of p m (vars.Slot k)) (local_of m.kind scope k))
  variable_follows scope (vars.Field f) = and_then (emits _ refl) (emits _ refl)

  pub text_follows : (t : Option CoreType) → F (drafts.text p m t) (templates.text p m final t)
  text_follows None = skips
  text_follows (Some types.Void) = skips
  text_follows (Some types.Int) = emits _ refl
  text_follows (Some types.Boolean) = emits _ refl
  text_follows (Some types.Text) = skips
  text_follows (Some (types.Object c)) = skips
  text_follows (Some (types.Enum e)) = skips

  literal_follows : (b : Bool) → AllFollow (drafts.literal b) (templates.literal p m final b)
  literal_follows true = record { value = emits _ refl; unless = λ l. skips; when = λ l. jumps_to 167 l }
  literal_follows false = record { value = emits _ refl; unless = λ l. jumps_to 167 l; when = λ l. skips }

  null_follows : (o : Op) (v : Step) (V : Span) → F v V → AllFollow (drafts.by_jumps (drafts.with_null o v))
      (templates.with_null p m final o V)
  null_follows ops.Ne v V h = jumped (λ l. and_then h (jumps_to 198 l)) (λ l. and_then h (jumps_to 199 l))
  null_follows ops.Or v V h = jumped (λ l. and_then h (jumps_to 199 l)) (λ l. and_then h (jumps_to 198 l))
  null_follows ops.And v V h = jumped (λ l. and_then h (jumps_to 199 l)) (λ l. and_then h (jumps_to 198 l))
  null_follows ops.Eq v V h = jumped (λ l. and_then h (jumps_to 199 l)) (λ l. and_then h (jumps_to 198 l))
  null_follows ops.Lt v V h = jumped (λ l. and_then h (jumps_to 199 l)) (λ l. and_then h (jumps_to 198 l))
  null_follows ops.Le v V h = jumped (λ l. and_then h (jumps_to 199 l)) (λ l. and_then h (jumps_to 198 l))
  null_follows ops.Gt v V h = jumped (λ l. and_then h (jumps_to 199 l)) (λ l. and_then h (jumps_to 198 l))
  null_follows ops.Ge v V h = jumped (λ l. and_then h (jumps_to 199 l)) (λ l. and_then h (jumps_to 198 l))
  null_follows ops.Add v V h = jumped (λ l. and_then h (jumps_to 199 l)) (λ l. and_then h (jumps_to 198 l))
  null_follows ops.Sub v V h = jumped (λ l. and_then h (jumps_to 199 l)) (λ l. and_then h (jumps_to 198 l))
  null_follows ops.Mul v V h = jumped (λ l. and_then h (jumps_to 199 l)) (λ l. and_then h (jumps_to 198 l))
  null_follows ops.Div v V h = jumped (λ l. and_then h (jumps_to 199 l)) (λ l. and_then h (jumps_to 198 l))
  null_follows ops.Rem v V h = jumped (λ l. and_then h (jumps_to 199 l)) (λ l. and_then h (jumps_to 198 l))

  module _ (a b : drafts.Forms) (R S : Spans) (ha : AllFollow a R) (hb : AllFollow b S) where
    two_follow : (i j : Instr) → aimed ls i ≡ j → F (drafts.two_values a b i) (templates.two_values p m final R S j)
    two_follow i j e = and_then (and_then (ha.value) (hb.value)) (follows_emit final ls i j e)

    plus_follows : (j : Bool) (s t : Option CoreType) → F (drafts.plus p m j a b s t) (templates.plus p m final j R S s t)
    plus_follows true s t =
        and_then (and_then (and_then (and_then (ha.value) (text_follows s)) (hb.value)) (text_follows t)) (emits _ refl)
    plus_follows false s t = two_follow _ _ refl

    comparison_follows : (o : Op) (c : Compared) →
        AllFollow (drafts.by_jumps (drafts.comparison o c a b)) (templates.comparison p m final o c R S)
    comparison_follows o Both =
        jumped (λ l. two_follow _ _ (icmp_is (opposite o) (at l))) (λ l. two_follow _ _ (icmp_is o (at l)))
    comparison_follows o LeftAlone = null_follows o _ _ (ha.value)
    comparison_follows o RightAlone = null_follows o _ _ (hb.value)

    binary_follows : (o : Op) (c : Compared) (s t : Option CoreType) →
        AllFollow (drafts.binary p m o c a b s t) (templates.binary p m final o c R S s t)
    binary_follows ops.Or c s t =
        jumped
        (λ l. follows_ahead final ls (λ n. a.jump true n then b.jump false l) (λ t'. R.when t' before S.unless (at l))
        (λ n. and_then (ha.when n) (hb.unless l)))
        (λ l. and_then (ha.when l) (hb.when l))
    binary_follows ops.And c s t =
        jumped (λ l. and_then (ha.unless l) (hb.unless l))
        (λ l. follows_ahead final ls (λ n. a.jump false n then b.jump true l) (λ t'. R.unless t' before S.when (at l))
        (λ n. and_then (ha.unless n) (hb.when l)))
    binary_follows ops.Add c s t = valued _ _ (plus_follows (joins ops.Add s t) s t)
    binary_follows ops.Sub c s t = valued _ _ (two_follow _ _ refl)
    binary_follows ops.Mul c s t = valued _ _ (two_follow _ _ refl)
    binary_follows ops.Div c s t = valued _ _ (two_follow _ _ refl)
    binary_follows ops.Rem c s t = valued _ _ (two_follow _ _ refl)
    binary_follows ops.Eq c s t = comparison_follows ops.Eq c
    binary_follows ops.Ne c s t = comparison_follows ops.Ne c
    binary_follows ops.Lt c s t = comparison_follows ops.Lt c
    binary_follows ops.Le c s t = comparison_follows ops.Le c
    binary_follows ops.Gt c s t = comparison_follows ops.Gt c
    binary_follows ops.Ge c s t = comparison_follows ops.Ge c

  mutual
    pub expr_follows : (scope : List ℕ) (e : Expr) → AllFollow (drafts.forms p m scope e) (templates.forms p m final scope e)
    expr_follows scope (Int q n) = valued _ _ (emits _ (push_stays n))
    expr_follows scope (Truth q b) = literal_follows b
    expr_follows scope (Text q s) = valued _ _ (emits _ refl)
    expr_follows scope (Null q) = valued _ _ (emits _ refl)
    expr_follows scope (Variable q x) = valued _ _ (variable_follows scope x)
    expr_follows scope (Constant q e n) = valued _ _ (emits _ (push_stays (pos n)))
    expr_follows scope (Neg q a) = valued _ _ (and_then ((expr_follows scope a).value) (emits _ refl))
    expr_follows scope (Not q a) = jumped (λ l. (expr_follows scope a).when l) (λ l. (expr_follows scope a).unless l)
    expr_follows scope (Binary q o a b) =
        binary_follows _ _ _ _ (expr_follows scope a) (expr_follows scope b) o (compared a b) (type_of p m a) (type_of p m b)
    expr_follows scope (Protocol q x n args) =
        valued _ _ (and_then (and_then (variable_follows scope x.var) (arguments_follow scope args)) (emits _ refl))
    expr_follows scope (Helper q n args) = valued _ _ (and_then (and_then (emits _ refl) (arguments_follow scope args)) (emits _ refl))
    expr_follows scope (Static q n args) = valued _ _ (and_then (arguments_follow scope args) (emits _ refl))
    expr_follows scope (Equals q a b) = valued _ _ (two_follow _ _ _ _ (expr_follows scope a) (expr_follows scope b) _ _ refl)
    expr_follows scope (Concat q a b) = valued _ _ (two_follow _ _ _ _ (expr_follows scope a) (expr_follows scope b) _ _ refl)
    expr_follows scope (Session q c args) = valued _ _ (and_then (arguments_follow scope args) (emits _ refl))
    expr_follows scope (New q c) = valued _ _ (and_then (and_then (emits _ refl) (emits _ refl)) (emits _ refl))

    arguments_follow : (scope : List ℕ) (es : Exprs) → F (drafts.arguments p m scope es) (templates.arguments p m final scope es)
    arguments_follow scope NoExpr = skips
    arguments_follow scope (Argument e more) = and_then ((expr_follows scope e).value) (arguments_follow scope more)

  pub value_follows : (scope : List ℕ) (e : Expr) → F (drafts.value p m scope e) (templates.value p m final scope e)
  value_follows scope e = (expr_follows scope e).value

  pub store_follows : (scope : List ℕ) (k : ℕ) → F (drafts.store_in p m scope k) (templates.store_in p m final scope k)
  store_follows scope k = emits _ (store_stays (drafts.variable_type_of p m (vars.Slot k)) (local_of m.kind scope k))

  pub discard_follows : (t : Option CoreType) → F (drafts.discard p m t) (templates.discard p m final t)
  discard_follows None = emits _ refl
  discard_follows (Some types.Void) = skips
  discard_follows (Some types.Int) = emits _ refl
  discard_follows (Some types.Boolean) = emits _ refl
  discard_follows (Some types.Text) = emits _ refl
  discard_follows (Some (types.Object c)) = emits _ refl
  discard_follows (Some (types.Enum e)) = emits _ refl
