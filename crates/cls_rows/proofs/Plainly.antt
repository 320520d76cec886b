-- What instructions take and give, one line for each that takes operands and gives one kind at most.
use Rattle.std.proofs.Common.{◌≡◌, ℕ, ◌+◌, ◌-◌, Bool, List, [], ◌∷◌, length, map, Option, Some, refl, sym, ap, ◌∙◌, arith, Bor}
use Rattle.std.specs.Prelude.{ℤ, codes}
use Rattle.std.proofs.lemmas.List.{length-map}
use Rattle.mg_text.specs.Call.{Name}
use Rattle.vm_model.specs.declared.value.Value.{Value}
use Rattle.vm_model.specs.declared.value.Value.TheVariants as values
use Rattle.vm_model.specs.declared.linked.Built.{Built}
use Rattle.vm_model.specs.declared.linked.Built.TheVariants as built
use Rattle.vm_model.specs.Program.{Program, MethodOf, method_at}
use Rattle.vm_model.specs.Types.{Named}
use Rattle.vm_model.specs.Actions.{Action, Operation, Comparison, Push, Pop, Compute, Negate, IfZero, IfBoth, IfNull, Switch, Use}
use Rattle.vm_model.specs.Actions.{Reference}
use Rattle.vm_model.specs.Tests.{Needs, taking, needs, max_stack_in, number, text, Typed, Sorted}
use Rattle.vm_model.specs.Tests as tests
use Rattle.vm_actions.specs.declared.action.Sort.{Sort}
use Rattle.vm_actions.specs.declared.action.Sort.TheVariants as sorts
use Rattle.vm_actions.specs.declared.action.Constant.{Constant}
use Rattle.vm_actions.specs.declared.action.Constant.TheVariants as constants
use Rattle.vm_actions.specs.declared.action.Plain.{Plain}
use Rattle.vm_actions.specs.declared.action.Plain.TheVariants as plains
use Rattle.vm_actions.specs.Table.{constant_of, operation_of, comparison_of, plain_of}
use Rattle.cls_verify.specs.Kinds.{Int, Text, Null, Instance, object}
use Rattle.cls_verify.specs.Kinds as model
use Rattle.cls_verify.specs.Rows.{Names, gives, locals_after, kind_of_value}
use Rattle.cls_verify.specs.Typing.{Kinds, standing, asks}
use Rattle.cls_kinds.specs.declared.kind.Kind.{Kind}
use Rattle.cls_kinds.specs.Named.{AreNames, kind_of, kinds_of, or_unnamed}
use Rattle.cls_rows.specs.declared.want.Want.{Want}
use Rattle.cls_rows.specs.declared.want.Want.TheVariants as wants
use Rattle.cls_rows.specs.Trades.{kind_number, int_want, text_want, object_want, stream_want, built_wants, built_kinds}
use Rattle.cls_rows.specs.Trades.{constant_kind, plain_wants, plain_kinds, IsTrade}
use Rattle.cls_rows.proofs.Alike.{AllAlike, any_alike, sort_alike, kind_alike}
use Rattle.cls_rows.proofs.Settled.{IsPlain}

module _ (names : List Name) (n : AreNames names) (p : Program) (class method : ℕ) (m : MethodOf) (there : method_at p class method
    ≡ Some m) where
  taking_plain : (a : Action) (ws : List Want) (vs : List tests.Want) (given : List Kind) →
      ((k : Kinds) → asks p class method k a ≡ taking p (standing class method k) vs (length given)) → AllAlike names ws vs → Names p a →
      ((locals taken : List model.Kind) → gives p a locals taken ≡ kinds_of names given) →
      ((locals taken : List model.Kind) → locals_after a locals taken ≡ locals) → IsPlain names p class method m a ws given
  taking_plain a ws vs given e alike named gives_are stays = record {
    takes = vs;
    takes_are = λ k. ap (λ (x : Needs). x.takes) (e k);
    alike = alike;
    reads = λ k. ap (λ (x : Needs). x.reads) (e k);
    locals = λ k. let l : (asks p class method k a).locals ≡ 0 = ap (λ (x : Needs). x.locals) (e k) in omega (arith, l);
    returns = λ k. ap (λ (x : Needs). x.returns) (e k);
    room = λ k below many limit.
        let o : (asks p class method k a).operands ≡ length (map (λ (x : model.Kind). values.Null) k.operands) - length vs + length given =
        ap (λ (x : Needs). x.operands) (e k) in
        let l = length-map k.operands (λ (x : model.Kind). values.Null) in
        let s : (asks p class method k a).max_stack ≡ m.max_stack = ap (λ (x : Needs). x.max_stack) (e k) ∙ ap max_stack_in there in
        omega (arith, o, l, s, many, limit);
    names_are = named;
    gives_are = gives_are;
    stays = stays;
  }

  pub int_alike : AllAlike names (int_want ∷ []) (number ∷ [])
  int_alike = (sort_alike names sorts.Number, tt)

  pub ints_alike : AllAlike names (int_want ∷ int_want ∷ []) (number ∷ number ∷ [])
  ints_alike = (sort_alike names sorts.Number, int_alike)

  object_is : kind_of names (kind_number 4) ≡ Instance object
  object_is = ap (λ (o : Option Name). Instance (or_unnamed names 0 o)) n.first

  stream_is : kind_of names (kind_number 5) ≡ Instance (codes "java/io/PrintStream")
  stream_is = ap (λ (o : Option Name). Instance (or_unnamed names 1 o)) n.second

  text_alike : (ws : List Want) (vs : List tests.Want) → AllAlike names ws vs → AllAlike names (text_want ∷ ws) (text ∷ vs)
  text_alike ws vs a = (kind_alike names n (kind_number 1) (Named (codes "java/lang/String")) refl, a)

  object_alike : (ws : List Want) (vs : List tests.Want) → AllAlike names ws vs →
      AllAlike names (object_want ∷ ws) (Typed (Named (codes "java/lang/Object")) ∷ vs)
  object_alike ws vs a = (kind_alike names n (kind_number 4) (Named (codes "java/lang/Object")) object_is, a)

  stream_alike : (ws : List Want) (vs : List tests.Want) → AllAlike names ws vs →
      AllAlike names (stream_want ∷ ws) (Typed (Named (codes "java/io/PrintStream")) ∷ vs)
  stream_alike ws vs a = (kind_alike names n (kind_number 5) (Named (codes "java/io/PrintStream")) stream_is, a)

  pub push_plain : (v : Value) (k : Kind) → kind_of names k ≡ kind_of_value v → IsPlain names p class method m (Push v) [] (k ∷ [])
  push_plain v k e = taking_plain (Push v) [] [] (k ∷ []) (λ x. refl) tt tt (λ l t. ap (λ y. y ∷ []) (sym e)) (λ l t. refl)

  pub pop_plain : IsPlain names p class method m Pop (wants.Any ∷ []) []
  pop_plain = taking_plain Pop (wants.Any ∷ []) (tests.Any ∷ []) [] (λ x. refl) (any_alike names, tt) tt (λ l t. refl) (λ l t. refl)

  pub compute_plain : (o : Operation) → IsPlain names p class method m (Compute o) (int_want ∷ int_want ∷ []) (kind_number 0 ∷ [])
  compute_plain o =
      taking_plain (Compute o) (int_want ∷ int_want ∷ []) (number ∷ number ∷ []) (kind_number 0 ∷ []) (λ x. refl) ints_alike tt
      (λ l t. refl) (λ l t. refl)

  pub negate_plain : IsPlain names p class method m Negate (int_want ∷ []) (kind_number 0 ∷ [])
  negate_plain = taking_plain Negate (int_want ∷ []) (number ∷ []) (kind_number 0 ∷ []) (λ x. refl) int_alike tt (λ l t. refl) (λ l t. refl)

  pub if_zero_plain : (c : Comparison) (t : ℕ) → IsPlain names p class method m (IfZero c t) (int_want ∷ []) []
  if_zero_plain c t = taking_plain (IfZero c t) (int_want ∷ []) (number ∷ []) [] (λ x. refl) int_alike tt (λ l u. refl) (λ l u. refl)

  pub if_both_plain : (c : Comparison) (t : ℕ) → IsPlain names p class method m (IfBoth c t) (int_want ∷ int_want ∷ []) []
  if_both_plain c t = taking_plain (IfBoth c t) (int_want ∷ int_want ∷ []) (number ∷ number ∷ []) [] (λ x. refl) ints_alike tt (λ l u. refl)
      (λ l u. refl)

  pub if_null_plain : (b : Bool) (t : ℕ) → IsPlain names p class method m (IfNull b t) (wants.Sorted sorts.Reference ∷ []) []
  if_null_plain b t =
      taking_plain (IfNull b t) (wants.Sorted sorts.Reference ∷ []) (Sorted Reference ∷ []) [] (λ x. refl)
      (sort_alike names sorts.Reference, tt) tt
      (λ l u. refl) (λ l u. refl)

  pub switch_plain : (default : ℕ) (low : ℤ) (targets : List ℕ) → IsPlain names p class method m (Switch default low targets)
      (int_want ∷ []) []
  switch_plain default low targets =
      taking_plain (Switch default low targets) (int_want ∷ []) (number ∷ []) [] (λ x. refl) int_alike tt (λ l u. refl) (λ l u. refl)

  pub built_plain : (b : Built) → IsPlain names p class method m (Use b) (built_wants b) (built_kinds b)
  built_plain built.Init =
      taking_plain (Use built.Init) (object_want ∷ []) (Typed (Named (codes "java/lang/Object")) ∷ []) ([]) (λ x. refl)
      (object_alike ([]) ([]) tt) tt (λ l t. refl) (λ l t. refl)
  built_plain built.Concat =
      taking_plain (Use built.Concat) (text_want ∷ text_want ∷ []) (text ∷ text ∷ []) (kind_number 1 ∷ []) (λ x. refl)
      (text_alike (text_want ∷ []) (text ∷ []) (text_alike ([]) ([]) tt)) tt (λ l t. refl) (λ l t. refl)
  built_plain built.Equals =
      taking_plain (Use built.Equals) (text_want ∷ object_want ∷ []) (text ∷ Typed (Named (codes "java/lang/Object")) ∷ [])
      (kind_number 0 ∷ []) (λ x. refl)
      (text_alike (object_want ∷ []) (Typed (Named (codes "java/lang/Object")) ∷ []) (object_alike ([]) ([]) tt)) tt (λ l t. refl)
      (λ l t. refl)
  built_plain built.ValueOfInt =
      taking_plain (Use built.ValueOfInt) (int_want ∷ []) (number ∷ []) (kind_number 1 ∷ []) (λ x. refl)
      int_alike tt (λ l t. refl) (λ l t. refl)
  built_plain built.ValueOfTruth =
      taking_plain (Use built.ValueOfTruth) (int_want ∷ []) (number ∷ []) (kind_number 1 ∷ []) (λ x. refl)
      int_alike tt (λ l t. refl) (λ l t. refl)
  built_plain built.Out =
      taking_plain (Use built.Out) ([]) ([]) (kind_number 5 ∷ []) (λ x. refl)
      tt tt (λ l t. ap (λ k. k ∷ []) (sym stream_is)) (λ l t. refl)
  built_plain built.Println =
      taking_plain (Use built.Println) (stream_want ∷ text_want ∷ []) (Typed (Named (codes "java/io/PrintStream")) ∷ text ∷ []) ([])
      (λ x. refl)
      (stream_alike (text_want ∷ []) (text ∷ []) (text_alike ([]) ([]) tt)) tt (λ l t. refl) (λ l t. refl)
  built_plain built.Send =
      taking_plain (Use built.Send) (text_want ∷ text_want ∷ []) (text ∷ text ∷ []) ([]) (λ x. refl)
      (text_alike (text_want ∷ []) (text ∷ []) (text_alike ([]) ([]) tt)) tt (λ l t. refl) (λ l t. refl)
  built_plain built.SendInt =
      taking_plain (Use built.SendInt) (text_want ∷ text_want ∷ int_want ∷ []) (text ∷ text ∷ number ∷ []) ([]) (λ x. refl)
      (text_alike (text_want ∷ int_want ∷ []) (text ∷ number ∷ []) (text_alike (int_want ∷ []) (number ∷ []) int_alike)) tt (λ l t. refl)
      (λ l t. refl)
  built_plain built.SendTruth =
      taking_plain (Use built.SendTruth) (text_want ∷ text_want ∷ int_want ∷ []) (text ∷ text ∷ number ∷ []) ([]) (λ x. refl)
      (text_alike (text_want ∷ int_want ∷ []) (text ∷ number ∷ []) (text_alike (int_want ∷ []) (number ∷ []) int_alike)) tt (λ l t. refl)
      (λ l t. refl)
  built_plain built.SendText =
      taking_plain (Use built.SendText) (text_want ∷ text_want ∷ text_want ∷ []) (text ∷ text ∷ text ∷ []) ([]) (λ x. refl)
      (text_alike (text_want ∷ text_want ∷ []) (text ∷ text ∷ []) (text_alike (text_want ∷ []) (text ∷ []) (text_alike ([]) ([]) tt))) tt
      (λ l t. refl) (λ l t. refl)
  built_plain built.Look =
      taking_plain (Use built.Look) (text_want ∷ []) (text ∷ []) (kind_number 1 ∷ []) (λ x. refl)
      (text_alike ([]) ([]) tt) tt (λ l t. refl) (λ l t. refl)
  built_plain built.Take =
      taking_plain (Use built.Take) (text_want ∷ text_want ∷ []) (text ∷ text ∷ []) ([]) (λ x. refl)
      (text_alike (text_want ∷ []) (text ∷ []) (text_alike ([]) ([]) tt)) tt (λ l t. refl) (λ l t. refl)
  built_plain built.TakeInt =
      taking_plain (Use built.TakeInt) (text_want ∷ text_want ∷ []) (text ∷ text ∷ []) (kind_number 0 ∷ []) (λ x. refl)
      (text_alike (text_want ∷ []) (text ∷ []) (text_alike ([]) ([]) tt)) tt (λ l t. refl) (λ l t. refl)
  built_plain built.TakeTruth =
      taking_plain (Use built.TakeTruth) (text_want ∷ text_want ∷ []) (text ∷ text ∷ []) (kind_number 0 ∷ []) (λ x. refl)
      (text_alike (text_want ∷ []) (text ∷ []) (text_alike ([]) ([]) tt)) tt (λ l t. refl) (λ l t. refl)
  built_plain built.TakeText =
      taking_plain (Use built.TakeText) (text_want ∷ text_want ∷ []) (text ∷ text ∷ []) (kind_number 1 ∷ []) (λ x. refl)
      (text_alike (text_want ∷ []) (text ∷ []) (text_alike ([]) ([]) tt)) tt (λ l t. refl) (λ l t. refl)
  built_plain built.Refuse =
      taking_plain (Use built.Refuse) (text_want ∷ text_want ∷ []) (text ∷ text ∷ []) ([]) (λ x. refl)
      (text_alike (text_want ∷ []) (text ∷ []) (text_alike ([]) ([]) tt)) tt (λ l t. refl) (λ l t. refl)

  constant_said : (c : Constant) → kind_of names (constant_kind c) ≡ kind_of_value (constant_of c)
  constant_said (constants.Int x) = refl
  constant_said (constants.Text x) = refl
  constant_said constants.Null = refl

  pub trade_plain : (i : Plain) → IsTrade i → IsPlain names p class method m (plain_of i) (plain_wants i) (plain_kinds i)
  trade_plain (plains.Push constant) t = push_plain (constant_of constant) (constant_kind constant) (constant_said constant)
  trade_plain (plains.Load sort local) t = absurd t
  trade_plain (plains.Store sort local) t = absurd t
  trade_plain plains.Pop t = pop_plain
  trade_plain plains.Double t = absurd t
  trade_plain plains.Swap t = absurd t
  trade_plain (plains.Compute operation) t = compute_plain (operation_of operation)
  trade_plain plains.Negate t = negate_plain
  trade_plain (plains.Increase local by) t = absurd t
  trade_plain (plains.IfZero comparison target) t = if_zero_plain (comparison_of comparison) target
  trade_plain (plains.IfBoth comparison target) t = if_both_plain (comparison_of comparison) target
  trade_plain (plains.IfNull wanted target) t = if_null_plain wanted target
  trade_plain (plains.Go target) t = absurd t
  trade_plain (plains.Switch default low targets) t = switch_plain default low.now targets.now

-- an instruction that is none of those that do more
pub is_trade : (i : Plain) → ((sort : Sort) (local : ℕ) → i ≡ plains.Load sort local → ⊥) →
    ((sort : Sort) (local : ℕ) → i ≡ plains.Store sort local → ⊥) → (i ≡ plains.Double → ⊥) → (i ≡ plains.Swap → ⊥) →
    ((local : ℕ) (by : Bor ℤ) → i ≡ plains.Increase local by → ⊥) → ((target : ℕ) → i ≡ plains.Go target → ⊥) → IsTrade i
is_trade (plains.Push constant) a b c d e f = tt
is_trade (plains.Load sort local) a b c d e f = absurd (a sort local refl)
is_trade (plains.Store sort local) a b c d e f = absurd (b sort local refl)
is_trade plains.Pop a b c d e f = tt
is_trade plains.Double a b c d e f = absurd (c refl)
is_trade plains.Swap a b c d e f = absurd (d refl)
is_trade (plains.Compute operation) a b c d e f = tt
is_trade plains.Negate a b c d e f = tt
is_trade (plains.Increase local by) a b c d e f = absurd (e local by refl)
is_trade (plains.IfZero comparison target) a b c d e f = tt
is_trade (plains.IfBoth comparison target) a b c d e f = tt
is_trade (plains.IfNull wanted target) a b c d e f = tt
is_trade (plains.Go target) a b c d e f = absurd (f target refl)
is_trade (plains.Switch default low targets) a b c d e f = tt
