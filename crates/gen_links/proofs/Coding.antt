-- All instructions of a method can be encoded, and no more operands stand on the stack than the code has instructions.
use Rattle.std.proofs.Common.{◌≡◌, ℕ, zero, suc, pos, ◌+◌, ◌^◌, ◌<◌, ◌≤◌, List, [], ◌∷◌, ◌++◌, length, max}
use Rattle.std.proofs.Common.{Bool, true, false, Option, Some, None, refl, arith, nat_eq, if◌then◌else◌, subst, sym}
use Rattle.std.proofs.lemmas.List.{length-map}
use Rattle.std.proofs.Math.Nat.{le-max_left}
use Rattle.cls_tree.specs.Opcodes.{form_of}
use Rattle.cls_tree.specs.declared.instr.Form.TheVariants as forms
use Rattle.jv_tree.specs.declared.tree.Op.{Op}
use Rattle.jv_tree.specs.declared.tree.Op.TheVariants as ops
use Rattle.jv_core.specs.declared.tree.Var.{Var}
use Rattle.jv_core.specs.declared.tree.Var.TheVariants as vars
use Rattle.jv_core.specs.declared.program.MethodKind.{MethodKind}
use Rattle.jv_core.specs.declared.program.CoreType.{CoreType}
use Rattle.jv_core.specs.declared.program.CoreType.TheVariants as types
use Rattle.jv_core.specs.Numbering.{numbers_from}
use Rattle.jv_core.specs.Tree.{Expr, Int, Truth, Text, Null, Variable, Constant, Neg}
use Rattle.jv_core.specs.Tree.{Not, Binary, Protocol, Helper, Static, Equals, Concat, Session, New}
use Rattle.jv_core.specs.Tree.{Exprs, NoExpr, Argument}
use Rattle.jv_core.specs.Tree.{Stmt, Block, Empty, Local, Assign, If, IfElse, While, Do, Switch, Break, Continue, Return, Print, Eval}
use Rattle.jv_core.specs.Tree.{Stmts, NoStmt, Then, Declare, Groups, NoGroup, Group, Method, Program}
use Rattle.gen_rules.specs.Symbolic as symbolic
use Rattle.gen_rules.specs.Symbolic.{Instr, plain, push, jump}
use Rattle.gen_rules.specs.Symbolic.{ifeq, ifne, ifnull, ifnonnull, if_icmp, opposite, goto, tableswitch, return, return_value}
use Rattle.gen_rules.specs.Members.{class_name, method_reference, out_reference, println_reference, concat_reference, equals_reference}
use Rattle.gen_rules.specs.Members.{value_of_int, value_of_truth}
use Rattle.gen_rules.specs.Typed as typed
use Rattle.gen_rules.specs.Typed.{joins}
use Rattle.gen_rules.specs.Locals.{local_of, next_local, params_in_scope}
use Rattle.gen_rules.specs.Around.{Around}
use Rattle.gen_rules.specs.Around as around
use Rattle.gen_rules.specs.Cases as cases
use Rattle.gen_rules.specs.Cases.{default_at, targets, positions, constants_of}
use Rattle.gen_rules.specs.Templates.{Compared, Both, LeftAlone, RightAlone, compared}
use Rattle.gen_rules.specs.Frames as frames
use Rattle.gen_rules.specs.Frames.{Depths, depths_by_value, depths_by_jumps, left_by, max_locals, locals_of, locals_of_all}
use Rattle.gen_rules.specs.Frames.{locals_of_groups}
use Rattle.gen_rules.specs.inner.Generating as pieces
use Rattle.gen_rules.specs.inner.Generating.{Piece, Jumping, Pieces, Flowing, Grouped, aiming, empty, single}
use Rattle.gen_rules.specs.inner.Generating.{◌and◌, within, forked, flowing, grouped, testing, comparing, generated}
use Rattle.gen_rules.proofs.Generates.{method_stands}
use Rattle.gen_links.specs.Encodable.{IsEncodable, AreEncodable}
use Rattle.gen_links.specs.Held.{HoldsExpr, HoldsExprs, HoldsStmt, HoldsStmts, HoldsGroups, IsHeld}
use Rattle.gen_links.specs.FittingCode.{CodeFits}
use Rattle.gen_links.proofs.Words.{class_written, field_is_written, method_is_written, session_is_written}
use Rattle.gen_links.proofs.Words.{init_is_written, ascii_reference, push_fits, natural_fits, load_fits, store_fits}
use Rattle.gen_links.proofs.Words.{max_within, within_left, within_right}

-- Pieces.

pub both_fit : (a b : List Instr) → AreEncodable a → AreEncodable b → AreEncodable (a ++ b)
both_fit [] b h g = g
both_fit (i ∷ a) b h g = (h.0, both_fit a b h.1 g)

-- a piece whose instructions can be encoded
record Fits (a : Piece) : Type 0 where
  at : (from : ℕ) → AreEncodable (a.list from)

fits_empty : Fits empty
fits_empty = record { at = λ from. tt }

fits_single : (i : Instr) → IsEncodable i → Fits (single i)
fits_single i h = record { at = λ from. (h, tt) }

fits_and : (a b : Piece) → Fits a → Fits b → Fits (a and b)
fits_and a b ha hb = record { at = λ from. both_fit (a.list from) (b.list (from + a.size)) (ha.at from) (hb.at (from + a.size)) }

fits_then : (a : Piece) (i : Instr) → Fits a → IsEncodable i → Fits (a and single i)
fits_then a i ha h = fits_and a (single i) ha (fits_single i h)

fits_within : (k : ℕ) (f : (from to : ℕ) → Piece) → ((from to : ℕ) → Fits (f from to)) → Fits (within k f)
fits_within k f h = record { at = λ from. (h from (from + k)).at from }

fits_forked : (j k : ℕ) (f g : (from label to : ℕ) → Piece) → ((from label to : ℕ) → Fits (f from label to)) →
    ((from label to : ℕ) → Fits (g from label to)) → Fits (forked j k f g)
fits_forked j k f g hf hg = record {
  at = λ from. both_fit ((f from (from + j) (from + j + k)).list from) ((g from (from + j) (from + j + k)).list (from + j))
      ((hf from (from + j) (from + j + k)).at from) ((hg from (from + j) (from + j + k)).at (from + j));
}

-- a jumping piece that is so, and is no shorter than this depth
record JumpFits (d : ℕ) (j : Jumping) : Type 0 where
  to : (l : ℕ) → Fits (aiming j l)
  deep : d ≤ j.size

record AllFit (d : Depths) (a : Pieces) : Type 0 where
  value : Fits a.value
  deep : d.value ≤ a.value.size
  some : 1 ≤ a.value.size
  unless : JumpFits d.jump a.unless
  when : JumpFits d.jump a.when

fits_testing : (d : ℕ) (v : Piece) (test : (target : ℕ) → Instr) → ((l : ℕ) → IsEncodable (test l)) → Fits v → d ≤ v.size →
    JumpFits d (testing v test)
fits_testing d v test t h le = record { to = λ l. fits_then v (test l) h (t l); deep = omega (arith, le) }

ifeq_fits : (l : ℕ) → IsEncodable (ifeq l)
unfolding form_of
ifeq_fits l = refl

ifne_fits : (l : ℕ) → IsEncodable (ifne l)
unfolding form_of
ifne_fits l = refl

ifnull_fits : (l : ℕ) → IsEncodable (ifnull l)
unfolding form_of
ifnull_fits l = refl

ifnonnull_fits : (l : ℕ) → IsEncodable (ifnonnull l)
unfolding form_of
ifnonnull_fits l = refl

goto_fits : (l : ℕ) → IsEncodable (goto l)
unfolding form_of
goto_fits l = refl

compare_fits : (o : Op) (l : ℕ) → IsEncodable (if_icmp o l)
unfolding form_of
compare_fits ops.Eq l = refl
compare_fits ops.Ne l = refl
compare_fits ops.Lt l = refl
compare_fits ops.Ge l = refl
compare_fits ops.Gt l = refl
compare_fits ops.Le l = refl
compare_fits ops.Or l = refl
compare_fits ops.And l = refl
compare_fits ops.Add l = refl
compare_fits ops.Sub l = refl
compare_fits ops.Mul l = refl
compare_fits ops.Div l = refl
compare_fits ops.Rem l = refl

-- opcodes without operands
abbrev Plain : ℕ → Type 0
Plain op = form_of op ≡ Some forms.Nothing

null_fits : Plain 1
unfolding form_of
null_fits = refl

this_fits : Plain 42
unfolding form_of
this_fits = refl

pop_fits : Plain 87
unfolding form_of
pop_fits = refl

dup_fits : Plain 89
unfolding form_of
dup_fits = refl

return_fits : Plain 177
unfolding form_of
return_fits = refl

return_value_fits : (t : CoreType) → IsEncodable (return_value t)
unfolding form_of
return_value_fits types.Void = refl
return_value_fits types.Int = refl
return_value_fits types.Boolean = refl
return_value_fits types.Text = refl
return_value_fits (types.Object c) = refl
return_value_fits (types.Enum e) = refl

neg_fits : Plain 116
unfolding form_of
neg_fits = refl

record ArithmeticFits : Type 0 where
  add : Plain 96
  sub : Plain 100
  mul : Plain 104
  div : Plain 108
  rem : Plain 112

arithmetic : ArithmeticFits
unfolding form_of
arithmetic = record { add = refl; sub = refl; mul = refl; div = refl; rem = refl }

table_fits : (d : ℕ) (ts : List ℕ) → 0 < length ts → IsEncodable (tableswitch d ts)
unfolding form_of
table_fits d ts h = (refl, h)

one_fits : Fits (single (push (pos 1)))
one_fits = fits_single (push (pos 1)) (push_fits (pos 1) (natural_fits 1 (omega arith)))

zero_fits : Fits (single (push (pos 0)))
zero_fits = fits_single (push (pos 0)) (push_fits (pos 0) (natural_fits 0 (omega arith)))

out_fits : IsEncodable (record { op = 178; operand = symbolic.Field out_reference })
unfolding form_of
out_fits = (refl, ascii_reference out_reference refl refl refl)

valued_fits : (d : ℕ) (v : Piece) → Fits v → d ≤ v.size → 1 ≤ v.size → AllFit (depths_by_value d) (pieces.valued v)
valued_fits d v h le some = record {
  value = h;
  deep = le;
  some = some;
  unless = fits_testing d v ifeq ifeq_fits h le;
  when = fits_testing d v ifne ifne_fits h le;
}

jumped_fits : (d : ℕ) (u w : Jumping) → JumpFits d u → JumpFits d w → AllFit (depths_by_jumps d) (pieces.jumped u w)
jumped_fits d u w hu hw = record {
  value = fits_forked (u.size + 1 + 1) 1 (λ from f to. aiming u f and single (push (pos 1)) and single (goto to))
      (λ from f to. single (push (pos 0)))
      (λ from f to. fits_then (aiming u f and single (push (pos 1))) (goto to)
      (fits_and (aiming u f) (single (push (pos 1))) (hu.to f) one_fits) (goto_fits to))
      (λ from f to. zero_fits);
  deep = let le = hu.deep in max_within d 1 (u.size + 1 + 1 + 1) (omega (arith, le)) (omega arith);
  some = omega arith;
  unless = hu;
  when = hw;
}

jumps_fit : (c d : ℕ) (a b : Jumping) → JumpFits c a → JumpFits d b → JumpFits (max c d) (pieces.jumps_then a b)
jumps_fit c d a b ha hb = record {
  to = λ l. fits_and (aiming a l) (aiming b l) (ha.to l) (hb.to l);
  deep = let x = ha.deep in let y = hb.deep in max_within c d (a.size + b.size) (omega (arith, x)) (omega (arith, y));
}

skips_fit : (c d : ℕ) (a b : Jumping) → JumpFits c a → JumpFits d b → JumpFits (max c d) (pieces.skips_then a b)
skips_fit c d a b ha hb = record {
  to = λ l. fits_within (a.size + b.size) (λ from to. aiming a to and aiming b l)
      (λ from to. fits_and (aiming a to) (aiming b l) (ha.to to) (hb.to l));
  deep = let x = ha.deep in let y = hb.deep in max_within c d (a.size + b.size) (omega (arith, x)) (omega (arith, y));
}

always_fits : JumpFits 0 pieces.always
always_fits = record { to = λ l. fits_single (goto l) (goto_fits l); deep = omega arith }

never_fits : JumpFits 0 pieces.never
never_fits = record { to = λ l. fits_empty; deep = omega arith }

-- Expressions.

text_fits : (p : Program) (m : Method) (t : Option CoreType) → Fits (pieces.text p m t)
unfolding form_of
text_fits p m None = fits_empty
text_fits p m (Some types.Void) = fits_empty
text_fits p m (Some types.Int) = fits_single _ (refl, ascii_reference value_of_int refl refl refl)
text_fits p m (Some types.Boolean) = fits_single _ (refl, ascii_reference value_of_truth refl refl refl)
text_fits p m (Some types.Text) = fits_empty
text_fits p m (Some (types.Object c)) = fits_empty
text_fits p m (Some (types.Enum e)) = fits_empty

literal_fits : (p : Program) (m : Method) (b : Bool) → AllFit (record { value = 1; jump = 0 }) (pieces.literal p m b)
literal_fits p m true = record { value = one_fits; deep = omega arith; some = omega arith; unless = never_fits; when = always_fits }
literal_fits p m false = record { value = zero_fits; deep = omega arith; some = omega arith; unless = always_fits; when = never_fits }

concat_fits : IsEncodable (record { op = 182; operand = symbolic.Method concat_reference })
unfolding form_of
concat_fits = (refl, ascii_reference concat_reference refl refl refl)

equals_fits : IsEncodable (record { op = 182; operand = symbolic.Method equals_reference })
unfolding form_of
equals_fits = (refl, ascii_reference equals_reference refl refl refl)

println_fits : IsEncodable (record { op = 182; operand = symbolic.Method println_reference })
unfolding form_of
println_fits = (refl, ascii_reference println_reference refl refl refl)

left_within : (t : Option CoreType) → left_by t ≤ 1
left_within None = omega arith
left_within (Some types.Void) = omega arith
left_within (Some types.Int) = omega arith
left_within (Some types.Boolean) = omega arith
left_within (Some types.Text) = omega arith
left_within (Some (types.Object c)) = omega arith
left_within (Some (types.Enum e)) = omega arith

module _ (p : Program) (m : Method) (c d : Depths) (a b : Pieces) (ha : AllFit c a) (hb : AllFit d b) where
  two_fit : (i : Instr) → IsEncodable i → Fits (pieces.two_values a b i)
  two_fit i h = fits_then (a.value and b.value) i (fits_and a.value b.value ha.value hb.value) h

  two_deep : frames.two_depths c d ≤ a.value.size + b.value.size + 1
  two_deep =
      let x = ha.deep in let y = hb.deep in
      max_within c.value (suc d.value) (a.value.size + b.value.size + 1) (omega (arith, x)) (omega (arith, y))

  two_valued : (i : Instr) → IsEncodable i → AllFit (depths_by_value (frames.two_depths c d)) (pieces.valued (pieces.two_values a b i))
  two_valued i h = valued_fits (frames.two_depths c d) (pieces.two_values a b i) (two_fit i h) two_deep (omega arith)

  plus_fits : (j : Bool) (s t : Option CoreType) → AllFit (depths_by_value (frames.two_depths c d))
      (pieces.valued (pieces.plus p m j a b s t))
  plus_fits true s t =
      let x = ha.deep in let y = hb.deep in
      valued_fits (frames.two_depths c d) (pieces.plus p m true a b s t)
      (fits_then (a.value and pieces.text p m s and b.value and pieces.text p m t) _
      (fits_and (a.value and pieces.text p m s and b.value) (pieces.text p m t)
      (fits_and (a.value and pieces.text p m s) b.value (fits_and a.value (pieces.text p m s) ha.value (text_fits p m s)) hb.value)
      (text_fits p m t)) concat_fits)
      (max_within c.value (suc d.value) (a.value.size + (pieces.text p m s).size + b.value.size + (pieces.text p m t).size + 1)
      (omega (arith, x)) (omega (arith, y))) (omega arith)
  plus_fits false s t = two_valued _ arithmetic.add

  null_jumps : (e : ℕ) (v : Piece) → Fits v → e ≤ v.size →
      AllFit (depths_by_jumps e) (pieces.jumped (testing v ifnonnull) (testing v ifnull))
  null_jumps e v h le = jumped_fits e _ _ (fits_testing e v ifnonnull ifnonnull_fits h le) (fits_testing e v ifnull ifnull_fits h le)

  with_null_fits : (o : Op) (e : ℕ) (v : Piece) → Fits v → e ≤ v.size → AllFit (depths_by_jumps e) (pieces.with_null p m o v)
  with_null_fits ops.Ne e v h le
      = jumped_fits e _ _ (fits_testing e v ifnull ifnull_fits h le) (fits_testing e v ifnonnull ifnonnull_fits h le)
  with_null_fits ops.Eq e v h le = null_jumps e v h le
  with_null_fits ops.Or e v h le = null_jumps e v h le
  with_null_fits ops.And e v h le = null_jumps e v h le
  with_null_fits ops.Lt e v h le = null_jumps e v h le
  with_null_fits ops.Le e v h le = null_jumps e v h le
  with_null_fits ops.Gt e v h le = null_jumps e v h le
  with_null_fits ops.Ge e v h le = null_jumps e v h le
  with_null_fits ops.Add e v h le = null_jumps e v h le
  with_null_fits ops.Sub e v h le = null_jumps e v h le
  with_null_fits ops.Mul e v h le = null_jumps e v h le
  with_null_fits ops.Div e v h le = null_jumps e v h le
  with_null_fits ops.Rem e v h le = null_jumps e v h le

  comparing_fits : (o : Op) → JumpFits (frames.two_depths c d) (comparing a b (if_icmp o))
  comparing_fits o = record { to = λ l. two_fit (if_icmp o l) (compare_fits o l); deep = two_deep }

  comparison_fits : (o : Op) (k : Compared) → AllFit (frames.comparison_depths k c d) (pieces.comparison p m o k a b)
  comparison_fits o Both = jumped_fits (frames.two_depths c d) _ _ (comparing_fits (opposite o)) (comparing_fits o)
  comparison_fits o LeftAlone = with_null_fits o c.value a.value ha.value ha.deep
  comparison_fits o RightAlone = with_null_fits o d.value b.value hb.value hb.deep

  binary_fits : (o : Op) (k : Compared) (s t : Option CoreType) → AllFit (frames.binary_depths o k c d) (pieces.binary p m o k a b s t)
  binary_fits ops.Or k s t = jumped_fits (max c.jump d.jump) _ _ (skips_fit c.jump d.jump _ _ ha.when hb.unless)
      (jumps_fit c.jump d.jump _ _ ha.when hb.when)
  binary_fits ops.And k s t = jumped_fits (max c.jump d.jump) _ _ (jumps_fit c.jump d.jump _ _ ha.unless hb.unless)
      (skips_fit c.jump d.jump _ _ ha.unless hb.when)
  binary_fits ops.Add k s t = plus_fits (joins ops.Add s t) s t
  binary_fits ops.Sub k s t = two_valued _ arithmetic.sub
  binary_fits ops.Mul k s t = two_valued _ arithmetic.mul
  binary_fits ops.Div k s t = two_valued _ arithmetic.div
  binary_fits ops.Rem k s t = two_valued _ arithmetic.rem
  binary_fits ops.Eq k s t = comparison_fits ops.Eq k
  binary_fits ops.Ne k s t = comparison_fits ops.Ne k
  binary_fits ops.Lt k s t = comparison_fits ops.Lt k
  binary_fits ops.Le k s t = comparison_fits ops.Le k
  binary_fits ops.Gt k s t = comparison_fits ops.Gt k
  binary_fits ops.Ge k s t = comparison_fits ops.Ge k

-- the local of a slot is below the next free one, or is the first
local_within : (kind : MethodKind) (scope : List ℕ) (slot : ℕ) → local_of kind scope slot ≤ next_local kind scope
local_within kind [] slot = omega arith
local_within kind (k ∷ scope) slot = go (nat_eq k slot) (local_within kind scope slot)
  where
    go : (b : Bool) → local_of kind scope slot ≤ next_local kind scope →
        (if b then next_local kind scope else local_of kind scope slot) ≤ next_local kind (k ∷ scope)
    go true h = omega arith
    go false h = omega (arith, h)

-- a method of this program, in which a local of so many is at most 255
module _ (p : Program) (m : Method) (held : IsHeld p) where
  abbrev Room : List ℕ → Type 0
  Room scope = next_local m.kind scope ≤ 255

  small_local : (scope : List ℕ) (k : ℕ) → Room scope → local_of m.kind scope k < 2 ^ 8
  small_local scope k room = let h = local_within m.kind scope k in omega (arith, h, room)

  variable_fits : (scope : List ℕ) (x : Var) → Room scope → Fits (pieces.variable p m scope x)
  unfolding form_of
  variable_fits scope (vars.Slot k) room =
      fits_single _ (load_fits (pieces.variable_type_of p m (vars.Slot k)) (local_of m.kind scope k) (small_local scope k room))
  variable_fits scope (vars.Field f) room =
      fits_then (single (plain 42)) _ (fits_single (plain 42) this_fits) (refl, field_is_written p held.names m.class f)

  some_variable : (scope : List ℕ) (x : Var) → 1 ≤ (pieces.variable p m scope x).size
  some_variable scope (vars.Slot k) = omega arith
  some_variable scope (vars.Field f) = omega arith

  call_fits : (n op : ℕ) → form_of op ≡ Some forms.Method →
      IsEncodable (record { op = op; operand = symbolic.Method (method_reference p n) })
  call_fits n op h = (h, method_is_written p held.names n)

  virtual : form_of 182 ≡ Some forms.Method
  unfolding form_of
  virtual = refl

  special : form_of 183 ≡ Some forms.Method
  unfolding form_of
  special = refl

  statically : form_of 184 ≡ Some forms.Method
  unfolding form_of
  statically = refl

  made : form_of 187 ≡ Some forms.Class
  unfolding form_of
  made = refl

  written : form_of 181 ≡ Some forms.Field
  unfolding form_of
  written = refl

  -- arguments, the first deeper than none
  record ArgumentsFit (d : ℕ) (a : Piece) : Type 0 where
    value : Fits a
    deep : d ≤ a.size

  mutual
    expr_fits : (scope : List ℕ) (e : Expr) → HoldsExpr e → Room scope → AllFit (frames.depths p m e) (pieces.pieces p m scope e)
    expr_fits scope (Int q z) h room = valued_fits 1 _ (fits_single (push z) (push_fits z h)) (omega arith) (omega arith)
    expr_fits scope (Truth q b) h room = literal_fits p m b
    expr_fits scope (Text q s) h room = valued_fits 1 _ (fits_single _ h) (omega arith) (omega arith)
    expr_fits scope (Null q) h room = valued_fits 1 _ (fits_single (plain 1) null_fits) (omega arith) (omega arith)
    expr_fits scope (Variable q x) h room = valued_fits 1 _ (variable_fits scope x room) (some_variable scope x) (some_variable scope x)
    expr_fits scope (Constant q e n) h room =
        valued_fits 1 _ (fits_single (push (pos n)) (push_fits (pos n) (natural_fits n h))) (omega arith) (omega arith)
    expr_fits scope (Neg q a) h room =
        let r = expr_fits scope a h room in
        let le = r.deep in
        valued_fits (frames.depths p m a).value _ (fits_then (pieces.value p m scope a) (plain 116) r.value neg_fits) (omega (arith, le))
        (omega arith)
    expr_fits scope (Not q a) h room =
        let r = expr_fits scope a h room in jumped_fits (frames.depths p m a).jump _ _ r.when r.unless
    expr_fits scope (Binary q o a b) h room =
        binary_fits p m _ _ _ _ (expr_fits scope a h.0 room) (expr_fits scope b h.1 room) o (compared a b) (typed.type_of p m a)
        (typed.type_of p m b)
    expr_fits scope (Protocol q x n args) h room =
        let r = arguments_fit scope args h room in
        let le = r.deep in
        let some = some_variable scope x.var in
        valued_fits (suc (frames.depth_of_arguments p m args)) _
        (fits_then (pieces.variable p m scope x.var and pieces.arguments p m scope args) _
        (fits_and (pieces.variable p m scope x.var) (pieces.arguments p m scope args) (variable_fits scope x.var room) r.value)
        (call_fits n 182 virtual)) (omega (arith, le, some)) (omega arith)
    expr_fits scope (Helper q n args) h room =
        let r = arguments_fit scope args h room in
        let le = r.deep in
        valued_fits (suc (frames.depth_of_arguments p m args)) _
        (fits_then (single (plain 42) and pieces.arguments p m scope args) _
        (fits_and (single (plain 42)) (pieces.arguments p m scope args) (fits_single (plain 42) this_fits) r.value)
        (call_fits n 183 special)) (omega (arith, le)) (omega arith)
    expr_fits scope (Static q n args) h room =
        let r = arguments_fit scope args h room in
        let le = r.deep in
        let left = left_within (typed.type_of p m (Static q n args)) in
        valued_fits (max (frames.depth_of_arguments p m args) (left_by (typed.type_of p m (Static q n args)))) _
        (fits_then (pieces.arguments p m scope args) _ r.value (call_fits n 184 statically))
        (max_within (frames.depth_of_arguments p m args) (left_by (typed.type_of p m (Static q n args)))
        ((pieces.arguments p m scope args).size + 1) (omega (arith, le)) (omega (arith, left))) (omega arith)
    expr_fits scope (Equals q a b) h room =
        two_valued p m _ _ _ _ (expr_fits scope a h.0 room) (expr_fits scope b h.1 room) _ equals_fits
    expr_fits scope (Concat q a b) h room =
        two_valued p m _ _ _ _ (expr_fits scope a h.0 room) (expr_fits scope b h.1 room) _ concat_fits
    expr_fits scope (Session q c args) h room =
        let r = arguments_fit scope args h room in
        let le = r.deep in
        let left = left_within (typed.type_of p m (Session q c args)) in
        valued_fits (max (frames.depth_of_arguments p m args) (left_by (typed.type_of p m (Session q c args)))) _
        (fits_then (pieces.arguments p m scope args) _ r.value (statically, session_is_written p held.names c))
        (max_within (frames.depth_of_arguments p m args) (left_by (typed.type_of p m (Session q c args)))
        ((pieces.arguments p m scope args).size + 1) (omega (arith, le)) (omega (arith, left))) (omega arith)
    expr_fits scope (New q c) h room =
        valued_fits 2 _ (fits_then (single _ and single (plain 89)) _
        (fits_then (single _) (plain 89) (fits_single _ (made, class_written p held.names c)) dup_fits)
        (special, init_is_written (class_name p c) (class_written p held.names c))) (omega arith) (omega arith)

    arguments_fit : (scope : List ℕ) (args : Exprs) → HoldsExprs args → Room scope →
        ArgumentsFit (frames.depth_of_arguments p m args) (pieces.arguments p m scope args)
    arguments_fit scope NoExpr h room = record { value = fits_empty; deep = omega arith }
    arguments_fit scope (Argument e more) h room =
        let first = expr_fits scope e h.0 room in
        let rest = arguments_fit scope more h.1 room in
        let some = first.some in
        let x = first.deep in let y = rest.deep in
        record {
          value = fits_and (pieces.value p m scope e) (pieces.arguments p m scope more) first.value rest.value;
          deep = max_within (frames.depths p m e).value (suc (frames.depth_of_arguments p m more))
              ((pieces.value p m scope e).size + (pieces.arguments p m scope more).size) (omega (arith, x)) (omega (arith, y, some));
        }

  -- Statements.

  record FlowFits (d : ℕ) (s : Flowing) : Type 0 where
    to : (ts : List Around) → Fits (flowing s ts)
    deep : d ≤ s.size

  record GroupsFit (d : ℕ) (g : Grouped) : Type 0 where
    to : (ts : List Around) → Fits (grouped g ts)
    deep : d ≤ g.size

  steady_fits : (d : ℕ) (a : Piece) → Fits a → d ≤ a.size → FlowFits d (pieces.steady a)
  steady_fits d a h le = record { to = λ ts. h; deep = le }

  store_fits_in : (scope : List ℕ) (k : ℕ) → Room scope → Fits (pieces.store_in p m scope k)
  store_fits_in scope k room =
      fits_single _ (store_fits (pieces.variable_type_of p m (vars.Slot k)) (local_of m.kind scope k) (small_local scope k room))

  -- a declaration
  declared_fits : (scope : List ℕ) (k : ℕ) (e : Expr) → HoldsExpr e → Room (k ∷ scope) →
      FlowFits (frames.depths p m e).value (pieces.steady (pieces.value p m scope e and pieces.store_in p m (k ∷ scope) k))
  declared_fits scope k e h room =
      let r = expr_fits scope e h (omega (arith, room)) in
      let le = r.deep in
      steady_fits _ _ (fits_and (pieces.value p m scope e) (pieces.store_in p m (k ∷ scope) k) r.value (store_fits_in (k ∷ scope) k room))
      (omega (arith, le))

  assign_fits : (scope : List ℕ) (x : Var) (e : Expr) → HoldsExpr e → Room scope →
      FlowFits (frames.depth_of_assignment p m x (frames.depths p m e).value)
      (pieces.steady (pieces.assign p m scope x (pieces.value p m scope e)))
  assign_fits scope (vars.Slot k) e h room =
      let r = expr_fits scope e h room in
      let le = r.deep in
      steady_fits _ _ (fits_and (pieces.value p m scope e) (pieces.store_in p m scope k) r.value (store_fits_in scope k room))
      (omega (arith, le))
  assign_fits scope (vars.Field f) e h room =
      let r = expr_fits scope e h room in
      let le = r.deep in
      steady_fits _ _ (fits_then (single (plain 42) and pieces.value p m scope e) _
      (fits_and (single (plain 42)) (pieces.value p m scope e) (fits_single (plain 42) this_fits) r.value)
      (written, field_is_written p held.names m.class f)) (omega (arith, le))

  discard_fits : (t : Option CoreType) → Fits (pieces.discard p m t)
  discard_fits None = fits_single (plain 87) pop_fits
  discard_fits (Some types.Void) = fits_empty
  discard_fits (Some types.Int) = fits_single (plain 87) pop_fits
  discard_fits (Some types.Boolean) = fits_single (plain 87) pop_fits
  discard_fits (Some types.Text) = fits_single (plain 87) pop_fits
  discard_fits (Some (types.Object c)) = fits_single (plain 87) pop_fits
  discard_fits (Some (types.Enum e)) = fits_single (plain 87) pop_fits

  -- how many locals are taken where a statement begins, and within it
  mutual
    takes_stmt : (n : ℕ) (s : Stmt) → n ≤ locals_of n s
    takes_stmt n (Block q body end) = takes_stmts n body
    takes_stmt n (Empty q) = omega arith
    takes_stmt n (Local q k e) = omega arith
    takes_stmt n (Assign q x e) = omega arith
    takes_stmt n (If q c s) = takes_stmt n s
    takes_stmt n (IfElse q c s r) = let h = takes_stmt n s in omega (arith, h)
    takes_stmt n (While q l c s) = takes_stmt n s
    takes_stmt n (Do q l s c) = takes_stmt n s
    takes_stmt n (Switch q e gs end) = takes_groups n gs
    takes_stmt n (Break q l) = omega arith
    takes_stmt n (Continue q l) = omega arith
    takes_stmt n (Return q v) = omega arith
    takes_stmt n (Print q e) = omega arith
    takes_stmt n (Eval q e) = omega arith

    takes_stmts : (n : ℕ) (s : Stmts) → n ≤ locals_of_all n s
    takes_stmts n NoStmt = omega arith
    takes_stmts n (Then s more) = let h = takes_stmt n s in omega (arith, h)
    takes_stmts n (Declare q k e more) = let h = takes_stmts (suc n) more in omega (arith, h)

    takes_groups : (n : ℕ) (gs : Groups) → n ≤ locals_of_groups n gs
    takes_groups n NoGroup = omega arith
    takes_groups n (Group labels body end more) = let h = takes_stmts n body in omega (arith, h)

  abbrev RoomFor : List ℕ → Stmt → Type 0
  RoomFor scope s = locals_of (next_local m.kind scope) s ≤ 255

  abbrev RoomForAll : List ℕ → Stmts → Type 0
  RoomForAll scope s = locals_of_all (next_local m.kind scope) s ≤ 255

  abbrev RoomForGroups : List ℕ → Groups → Type 0
  RoomForGroups scope gs = locals_of_groups (next_local m.kind scope) gs ≤ 255

  room_of : (scope : List ℕ) (s : Stmt) → RoomFor scope s → Room scope
  room_of scope s h = let le = takes_stmt (next_local m.kind scope) s in omega (arith, le, h)

  room_of_groups : (scope : List ℕ) (gs : Groups) → RoomForGroups scope gs → Room scope
  room_of_groups scope gs h = let le = takes_groups (next_local m.kind scope) gs in omega (arith, le, h)

  some_numbers : (first count : ℕ) → 1 ≤ count → 0 < length (numbers_from first count)
  some_numbers first zero h = absurd (omega (arith, h))
  some_numbers first (suc count) h = omega arith

  some_positions : (n : ℕ) → 0 < length (numbers_from 0 (max 1 n))
  some_positions n = some_numbers 0 (max 1 n) (le-max_left 1 n)

  some_targets : (gs : Groups) (starts : List ℕ) (behind : ℕ) (t : Option CoreType) →
      0 < length (targets gs starts behind (positions p t))
  some_targets gs starts behind t =
      subst (λ n. 0 < n) (sym (length-map (positions p t) (cases.constant_at gs starts behind))) (some_positions (constants_of p t))

  flows_fit : (c d : ℕ) (s r : Flowing) → FlowFits c s → FlowFits d r → FlowFits (max c d) (pieces.flows_then p m s r)
  flows_fit c d s r a b = let x = a.deep in let y = b.deep in record {
    to = λ ts. fits_and (flowing s ts) (flowing r ts) (a.to ts) (b.to ts);
    deep = max_within c d (s.size + r.size) (omega (arith, x)) (omega (arith, y));
  }

  one_more : (scope : List ℕ) (k : ℕ) → next_local m.kind (k ∷ scope) ≡ suc (next_local m.kind scope)
  one_more scope k = omega arith

  mutual
    statement_fits : (scope : List ℕ) (s : Stmt) → HoldsStmt s → RoomFor scope s →
        FlowFits (frames.depth_of p m s) (pieces.statement p m scope s)
    statement_fits scope (Block q body end) h room = statements_fit scope body h room
    statement_fits scope (Empty q) h room = steady_fits 0 empty fits_empty (omega arith)
    statement_fits scope (Local q k e) h room = declared_fits scope k e h (omega (arith, room))
    statement_fits scope (Assign q x e) h room = assign_fits scope x.var e h room
    statement_fits scope (If q c s) h room =
        let a = (expr_fits scope c h.0 (room_of scope s room)).unless in
        let b = statement_fits scope s h.1 room in
        let x = a.deep in let y = b.deep in
        let j = (pieces.pieces p m scope c).unless in
        let f = pieces.statement p m scope s in
        record {
          to = λ ts. fits_within (j.size + f.size) (λ from to. aiming j to and flowing f ts)
              (λ from to. fits_and (aiming j to) (flowing f ts) (a.to to) (b.to ts));
          deep = max_within (frames.depths p m c).jump (frames.depth_of p m s) (j.size + f.size) (omega (arith, x)) (omega (arith, y));
        }
    statement_fits scope (IfElse q c s r) h room =
        let n = next_local m.kind scope in
        let left = within_left (locals_of n s) (locals_of n r) 255 room in
        let a = (expr_fits scope c h.0 (room_of scope s left)).unless in
        let b = statement_fits scope s h.1 left in
        let d = statement_fits scope r h.2 (within_right (locals_of n s) (locals_of n r) 255 room) in
        let x = a.deep in let y = b.deep in let z = d.deep in
        let j = (pieces.pieces p m scope c).unless in
        let f = pieces.statement p m scope s in
        let g = pieces.statement p m scope r in
        record {
          to = λ ts. fits_forked (j.size + f.size + 1) g.size (λ from l to. aiming j l and flowing f ts and single (goto to))
              (λ from l to. flowing g ts)
              (λ from l to. fits_then (aiming j l and flowing f ts) (goto to) (fits_and (aiming j l) (flowing f ts) (a.to l) (b.to ts))
              (goto_fits to)) (λ from l to. d.to ts);
          deep = max_within (frames.depths p m c).jump (max (frames.depth_of p m s) (frames.depth_of p m r)) (j.size + f.size + 1 + g.size)
              (omega (arith, x))
              (max_within (frames.depth_of p m s) (frames.depth_of p m r) (j.size + f.size + 1 + g.size) (omega (arith, y))
              (omega (arith, z)));
        }
    statement_fits scope (While q k c s) h room =
        let a = (expr_fits scope c h.0 (room_of scope s room)).unless in
        let b = statement_fits scope s h.1 room in
        let x = a.deep in let y = b.deep in
        let j = (pieces.pieces p m scope c).unless in
        let f = pieces.statement p m scope s in
        record {
          to = λ ts. fits_within (j.size + f.size + 1)
              (λ from to. aiming j to and flowing f (around.Loop k to from ∷ ts) and single (goto from))
              (λ from to. fits_then (aiming j to and flowing f (around.Loop k to from ∷ ts)) (goto from)
              (fits_and (aiming j to) (flowing f (around.Loop k to from ∷ ts)) (a.to to) (b.to (around.Loop k to from ∷ ts)))
              (goto_fits from));
          deep = max_within (frames.depths p m c).jump (frames.depth_of p m s) (j.size + f.size + 1) (omega (arith, x)) (omega (arith, y));
        }
    statement_fits scope (Do q k s c) h room =
        let a = (expr_fits scope c h.1 (room_of scope s room)).when in
        let b = statement_fits scope s h.0 room in
        let x = a.deep in let y = b.deep in
        let j = (pieces.pieces p m scope c).when in
        let f = pieces.statement p m scope s in
        record {
          to = λ ts. fits_forked f.size j.size (λ from l to. flowing f (around.Loop k to l ∷ ts)) (λ from l to. aiming j from)
              (λ from l to. b.to (around.Loop k to l ∷ ts)) (λ from l to. a.to from);
          deep = max_within (frames.depth_of p m s) (frames.depths p m c).jump (f.size + j.size) (omega (arith, y)) (omega (arith, x));
        }
    statement_fits scope (Switch q e gs end) h room =
        let a = expr_fits scope e h.0 (room_of_groups scope gs room) in
        let b = groups_fit scope gs h.1 room in
        let x = a.deep in let y = b.deep in
        let v = pieces.value p m scope e in
        let g = pieces.groups p m scope gs in
        let ns = positions p (typed.type_of p m e) in
        record {
          to = λ ts. fits_within (v.size + 1 + g.size) (λ from to.
              let starts = g.starts (from + v.size + 1) in
              v and single (tableswitch (default_at gs starts to) (targets gs starts to ns)) and grouped g (around.Switch to ∷ ts))
              (λ from to. let starts = g.starts (from + v.size + 1) in
              let table = tableswitch (default_at gs starts to) (targets gs starts to ns) in
              fits_and (v and single table) (grouped g (around.Switch to ∷ ts))
              (fits_then v table a.value (table_fits (default_at gs starts to) (targets gs starts to ns)
              (some_targets gs starts to (typed.type_of p m e)))) (b.to (around.Switch to ∷ ts)));
          deep = max_within (frames.depths p m e).value (frames.depth_of_groups p m gs) (v.size + 1 + g.size) (omega (arith, x))
              (omega (arith, y));
        }
    statement_fits scope (Break q l) h room =
        record { to = λ ts. fits_single (goto (around.break_to ts l)) (goto_fits (around.break_to ts l)); deep = omega arith }
    statement_fits scope (Continue q l) h room =
        record { to = λ ts. fits_single (goto (around.continue_to ts l)) (goto_fits (around.continue_to ts l)); deep = omega arith }
    statement_fits scope (Return q None) h room = steady_fits 0 (single return) (fits_single return return_fits) (omega arith)
    statement_fits scope (Return q (Some e)) h room =
        let r = expr_fits scope e h room in
        let le = r.deep in
        steady_fits _ _ (fits_then (pieces.value p m scope e) (return_value m.result) r.value (return_value_fits m.result))
        (omega (arith, le))
    statement_fits scope (Print q e) h room =
        let r = expr_fits scope e h room in
        let le = r.deep in
        let t = pieces.text p m (typed.type_of p m e) in
        steady_fits _ _ (fits_then (single _ and pieces.value p m scope e and t) _
        (fits_and (single _ and pieces.value p m scope e) t
        (fits_and (single _) (pieces.value p m scope e) (fits_single _ out_fits) r.value) (text_fits p m (typed.type_of p m e)))
        println_fits) (omega (arith, le))
    statement_fits scope (Eval q e) h room =
        let r = expr_fits scope e h room in
        let le = r.deep in
        let t = pieces.discard p m (typed.type_of p m e) in
        steady_fits _ _ (fits_and (pieces.value p m scope e) t r.value (discard_fits (typed.type_of p m e))) (omega (arith, le))

    statements_fit : (scope : List ℕ) (s : Stmts) → HoldsStmts s → RoomForAll scope s →
        FlowFits (frames.depth_of_all p m s) (pieces.statements p m scope s)
    statements_fit scope NoStmt h room = steady_fits 0 empty fits_empty (omega arith)
    statements_fit scope (Then s more) h room =
        let n = next_local m.kind scope in
        let a = statement_fits scope s h.0 (within_left (locals_of n s) (locals_of_all n more) 255 room) in
        let b = statements_fit scope more h.1 (within_right (locals_of n s) (locals_of_all n more) 255 room) in
        flows_fit _ _ (pieces.statement p m scope s) (pieces.statements p m scope more) a b
    statements_fit scope (Declare q k e more) h room =
        let rest : RoomForAll (k ∷ scope) more = subst (λ n. locals_of_all n more ≤ 255) (sym (one_more scope k)) room in
        let le = takes_stmts (next_local m.kind (k ∷ scope)) more in
        flows_fit _ _ (pieces.steady (pieces.value p m scope e and pieces.store_in p m (k ∷ scope) k))
        (pieces.statements p m (k ∷ scope) more) (declared_fits scope k e h.0 (omega (arith, le, rest)))
        (statements_fit (k ∷ scope) more h.1 rest)

    groups_fit : (scope : List ℕ) (gs : Groups) → HoldsGroups gs → RoomForGroups scope gs →
        GroupsFit (frames.depth_of_groups p m gs) (pieces.groups p m scope gs)
    groups_fit scope NoGroup h room = record { to = λ ts. record { at = λ from. tt }; deep = omega arith }
    groups_fit scope (Group labels body end more) h room =
        let n = next_local m.kind scope in
        let a = statements_fit scope body h.0 (within_left (locals_of_all n body) (locals_of_groups n more) 255 room) in
        let b = groups_fit scope more h.1 (within_right (locals_of_all n body) (locals_of_groups n more) 255 room) in
        let x = a.deep in let y = b.deep in
        let f = pieces.statements p m scope body in
        let g = pieces.groups p m scope more in
        record {
          to = λ ts. fits_and (flowing f ts) (grouped g ts) (a.to ts) (b.to ts);
          deep = max_within (frames.depth_of_all p m body) (frames.depth_of_groups p m more) (f.size + g.size) (omega (arith, x))
              (omega (arith, y));
        }

  end_fits : (t : CoreType) → Fits (pieces.end_of_method p m t)
  end_fits types.Void = fits_single return return_fits
  end_fits types.Int = fits_then (single (push (pos 0))) (return_value types.Int) zero_fits (return_value_fits types.Int)
  end_fits types.Boolean = fits_then (single (push (pos 0))) (return_value types.Boolean) zero_fits (return_value_fits types.Boolean)
  end_fits types.Text = fits_then (single (plain 1)) (return_value types.Text) (fits_single (plain 1) null_fits)
      (return_value_fits types.Text)
  end_fits (types.Object c)
      = fits_then (single (plain 1)) (return_value (types.Object c)) (fits_single (plain 1) null_fits) (return_value_fits (types.Object c))
  end_fits (types.Enum e) = fits_then (single (push (pos 0))) (return_value (types.Enum e)) zero_fits (return_value_fits (types.Enum e))

  end_deep : (t : CoreType) → frames.depth_of_end p m t ≤ (pieces.end_of_method p m t).size
  end_deep types.Void = omega arith
  end_deep types.Int = omega arith
  end_deep types.Boolean = omega arith
  end_deep types.Text = omega arith
  end_deep (types.Object c) = omega arith
  end_deep (types.Enum e) = omega arith

  module _ (body_held : HoldsStmts m.body) (room : max_locals m ≤ 255) where
    body_fits : FlowFits (frames.depth_of_all p m m.body) (pieces.statements p m (params_in_scope m) m.body)
    body_fits = statements_fit (params_in_scope m) m.body body_held room

    pub method_fits : AreEncodable (generated p m)
    method_fits =
        (fits_and (flowing (pieces.statements p m (params_in_scope m) m.body) []) (pieces.end_of_method p m m.result)
        (body_fits.to []) (end_fits m.result)).at 0

    pub method_deep : frames.max_stack p m ≤ length (generated p m)
    method_deep =
        let body = flowing (pieces.statements p m (params_in_scope m) m.body) [] in
        let last = pieces.end_of_method p m m.result in
        let long : length (generated p m) ≡ body.size + last.size = (method_stands p m []).long 0 in
        let x = body_fits.deep in
        let y = end_deep m.result in
        max_within (frames.depth_of_all p m m.body) (frames.depth_of_end p m m.result) (length (generated p m)) (omega (arith, long, x))
        (omega (arith, long, y))

pub code_fits_all : CodeFits
code_fits_all = record {
  encodable = λ p m held body room. method_fits p m held body room;
  depth = λ p m held body room. method_deep p m held body room;
}
