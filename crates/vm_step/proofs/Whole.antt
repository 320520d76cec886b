-- Each action where nothing is wrong, by the operands that stand so far from the top.
use Rattle.std.proofs.Common.{◌≡◌, ℕ, ℤ, ◌≤◌, Bool, List, [], ◌∷◌, ◌++◌, length, slice_get, Option, Some, None, refl, ap, ◌∙◌}
use Rattle.std.specs.Prelude.{option_to_list}
use Rattle.mg_text.specs.declared.event.Carried.TheVariants as carried
use Rattle.vm_model.specs.declared.value.Value.{Value}
use Rattle.vm_model.specs.declared.value.Value.TheVariants as values
use Rattle.vm_model.specs.declared.linked.Built.TheVariants as built
use Rattle.vm_model.specs.Program.{Program, method_at}
use Rattle.vm_model.specs.Messages.{Messages}
use Rattle.vm_model.specs.Machine.{Machine, Frame, Stepped}
use Rattle.vm_model.specs.Types.{signature_of}
use Rattle.vm_model.specs.Actions.{Sort, Operation, Comparison, Calling, Push, Load, Store, Pop, Double, Swap, Compute, Negate, Increase}
use Rattle.vm_model.specs.Actions.{IfZero, IfBoth, IfNull, Go, Switch, Return, Read, Write, Make, Call, Use}
use Rattle.vm_model.specs.Tests.{Want, Needs, needs, wrong, below, on_top, returning, returned, call_takes, result_in, descriptor_in}
use Rattle.vm_model.specs.Tests.{method_of_frame}
use Rattle.vm_model.specs.Step as model
use Rattle.vm_model.specs.Step.{act, goes, next, at_place}
use Rattle.vm_session.specs.inner.Tops.{at_top, int_in, text_in, int_of_local}
use Rattle.vm_step.specs.inner.Acts.{stored_by, doubled_by, swapped_by, computes_by, negates_by, increased_by, on_zero_by, on_both_by}
use Rattle.vm_step.specs.inner.Acts.{on_null_by, switches_by}
use Rattle.vm_step.specs.inner.Objects.{reads_by, writes_by}
use Rattle.vm_session.specs.inner.Sessions.{payload_in, sends_by, looks_by, takes_by, refuses_by}
use Rattle.vm_step.specs.inner.Builts.{inits_by, joins_by, equals_by, shows_int_by, shows_truth_by, prints_by}
use Rattle.vm_step.proofs.Acts.{act_right, enough, below_none, by_none, by_one, by_two, by_three}
use Rattle.vm_step.proofs.Cases.{computes_cases, negates_cases, on_zero_cases, on_both_cases, switches_cases, increased_cases, reads_cases}
use Rattle.vm_step.proofs.Cases.{writes_cases, inits_cases, joins_cases, equals_cases, shows_int_cases, shows_truth_cases, prints_cases}
use Rattle.vm_step.proofs.Cases.{send_cases, send_int_cases, send_truth_cases, send_text_cases, looks_cases, takes_cases, refuses_cases}

returning_takes : (p : Program) (fs : List Frame) (sort : Option Sort) (n : Needs) → (returning p fs sort n).takes ≡ n.takes
returning_takes p [] sort n = refl
returning_takes p (f ∷ fs) sort n = refl

module _ (p : Program) (q : Messages) (m : Machine) (me : ℕ) where
  pub push_is : (v : Value) → None ≡ wrong p (needs p m (Push v)) m → act p q m me (Push v) ≡ goes q (next m (m.frame.operands ++ v ∷ []))
  push_is v none = act_right p q m me (Push v) none ∙ ap (λ l. goes q (next m (l ++ v ∷ []))) (below_none m.frame.operands)

  pub load_is : (sort : Sort) (local : ℕ) → None ≡ wrong p (needs p m (Load sort local)) m →
      act p q m me (Load sort local) ≡ model.pushed q m m.frame.operands (slice_get m.frame.locals local)
  load_is sort local none = act_right p q m me (Load sort local) none ∙ ap
      (λ l. model.pushed q m l (slice_get m.frame.locals local)) (below_none m.frame.operands)

  pub store_is : (sort : Sort) (local : ℕ) → None ≡ wrong p (needs p m (Store sort local)) m →
      act p q m me (Store sort local) ≡ stored_by q m local (below 1 m.frame.operands) (at_top m.frame.operands 0)
  store_is sort local none =
      act_right p q m me (Store sort local) none
      ∙ by_one (model.stored q m local (below 1 m.frame.operands)) (stored_by q m local (below 1 m.frame.operands)) (λ v. refl)
      m.frame.operands (enough p (needs p m (Store sort local)) m none)

  pub pop_is : None ≡ wrong p (needs p m Pop) m → act p q m me Pop ≡ goes q (next m (below 1 m.frame.operands))
  pop_is none =
      act_right p q m me Pop none
      ∙ by_one (model.popped q m (below 1 m.frame.operands)) (λ o. goes q (next m (below 1 m.frame.operands))) (λ v. refl)
      m.frame.operands (enough p (needs p m Pop) m none)

  pub double_is : None ≡ wrong p (needs p m Double) m → act p q m me Double ≡ doubled_by q m (below 1 m.frame.operands)
      (at_top m.frame.operands 0)
  double_is none =
      act_right p q m me Double none
      ∙ by_one (model.doubled q m (below 1 m.frame.operands)) (doubled_by q m (below 1 m.frame.operands)) (λ v. refl)
      m.frame.operands (enough p (needs p m Double) m none)

  pub swap_is : None ≡ wrong p (needs p m Swap) m → act p q m me Swap ≡ swapped_by q m (below 2 m.frame.operands)
      (at_top m.frame.operands 1) (at_top m.frame.operands 0)
  swap_is none =
      act_right p q m me Swap none
      ∙ by_two (model.swapped q m (below 2 m.frame.operands)) (swapped_by q m (below 2 m.frame.operands)) (λ v w. refl)
      m.frame.operands (enough p (needs p m Swap) m none)

  pub compute_is : (operation : Operation) → None ≡ wrong p (needs p m (Compute operation)) m →
      act p q m me (Compute operation) ≡ computes_by q m operation (below 2 m.frame.operands) (int_in (at_top m.frame.operands 1))
      (int_in (at_top m.frame.operands 0))
  compute_is operation none =
      act_right p q m me (Compute operation) none
      ∙ by_two (model.computes q m operation (below 2 m.frame.operands))
      (λ v w. computes_by q m operation (below 2 m.frame.operands) (int_in v) (int_in w))
      (computes_cases q m (below 2 m.frame.operands) operation) m.frame.operands (enough p (needs p m (Compute operation)) m none)

  pub negate_is : None ≡ wrong p (needs p m Negate) m → act p q m me Negate ≡ negates_by q m (below 1 m.frame.operands)
      (int_in (at_top m.frame.operands 0))
  negate_is none =
      act_right p q m me Negate none
      ∙ by_one (model.negates q m (below 1 m.frame.operands)) (λ v. negates_by q m (below 1 m.frame.operands) (int_in v))
      (negates_cases q m (below 1 m.frame.operands))
      m.frame.operands (enough p (needs p m Negate) m none)

  pub increase_is : (local : ℕ) (by : ℤ) → None ≡ wrong p (needs p m (Increase local by)) m →
      act p q m me (Increase local by) ≡ increased_by q m m.frame.operands local by (int_of_local (slice_get m.frame.locals local))
  increase_is local by none =
      act_right p q m me (Increase local by) none
      ∙ ap (λ l. model.increased q m l local by (slice_get m.frame.locals local)) (below_none m.frame.operands)
      ∙ increased_cases q m m.frame.operands local by (slice_get m.frame.locals local)

  pub if_zero_is : (comparison : Comparison) (target : ℕ) → None ≡ wrong p (needs p m (IfZero comparison target)) m →
      act p q m me (IfZero comparison target) ≡ on_zero_by q m comparison target (below 1 m.frame.operands)
      (int_in (at_top m.frame.operands 0))
  if_zero_is comparison target none =
      act_right p q m me (IfZero comparison target) none
      ∙ by_one (model.on_zero q m comparison target (below 1 m.frame.operands))
      (λ v. on_zero_by q m comparison target (below 1 m.frame.operands) (int_in v))
      (on_zero_cases q m (below 1 m.frame.operands) comparison target) m.frame.operands
      (enough p (needs p m (IfZero comparison target)) m none)

  pub if_both_is : (comparison : Comparison) (target : ℕ) → None ≡ wrong p (needs p m (IfBoth comparison target)) m →
      act p q m me (IfBoth comparison target) ≡ on_both_by q m comparison target (below 2 m.frame.operands)
      (int_in (at_top m.frame.operands 1)) (int_in (at_top m.frame.operands 0))
  if_both_is comparison target none =
      act_right p q m me (IfBoth comparison target) none
      ∙ by_two (model.on_both q m comparison target (below 2 m.frame.operands))
      (λ v w. on_both_by q m comparison target (below 2 m.frame.operands) (int_in v) (int_in w))
      (on_both_cases q m (below 2 m.frame.operands) comparison target) m.frame.operands
      (enough p (needs p m (IfBoth comparison target)) m none)

  pub if_null_is : (wanted : Bool) (target : ℕ) → None ≡ wrong p (needs p m (IfNull wanted target)) m →
      act p q m me (IfNull wanted target) ≡ on_null_by q m wanted target (below 1 m.frame.operands) (at_top m.frame.operands 0)
  if_null_is wanted target none =
      act_right p q m me (IfNull wanted target) none
      ∙ by_one (model.on_null q m wanted target (below 1 m.frame.operands))
      (on_null_by q m wanted target (below 1 m.frame.operands)) (λ v. refl)
      m.frame.operands (enough p (needs p m (IfNull wanted target)) m none)

  pub go_is : (target : ℕ) → None ≡ wrong p (needs p m (Go target)) m → act p q m me (Go target) ≡ goes q
      (at_place m target m.frame.operands)
  go_is target none = act_right p q m me (Go target) none ∙ ap (λ l. goes q (at_place m target l)) (below_none m.frame.operands)

  pub switch_is : (default : ℕ) (low : ℤ) (targets : List ℕ) → None ≡ wrong p (needs p m (Switch default low targets)) m →
      act p q m me (Switch default low targets) ≡ switches_by q m default low targets (below 1 m.frame.operands)
      (int_in (at_top m.frame.operands 0))
  switch_is default low targets none =
      act_right p q m me (Switch default low targets) none
      ∙ by_one (model.switches q m default low targets (below 1 m.frame.operands))
      (λ v. switches_by q m default low targets (below 1 m.frame.operands) (int_in v))
      (switches_cases q m (below 1 m.frame.operands) default low targets) m.frame.operands
      (enough p (needs p m (Switch default low targets)) m none)

  pub read_is : (class field : ℕ) → None ≡ wrong p (needs p m (Read class field)) m →
      act p q m me (Read class field) ≡ reads_by q m field (below 1 m.frame.operands) (at_top m.frame.operands 0)
  read_is class field none =
      act_right p q m me (Read class field) none
      ∙ by_one (model.reads q m field (below 1 m.frame.operands)) (reads_by q m field (below 1 m.frame.operands))
      (reads_cases q m (below 1 m.frame.operands) field)
      m.frame.operands (enough p (needs p m (Read class field)) m none)

  pub write_is : (class field : ℕ) → None ≡ wrong p (needs p m (Write class field)) m →
      act p q m me (Write class field) ≡ writes_by q m field (below 2 m.frame.operands) (at_top m.frame.operands 1)
      (at_top m.frame.operands 0)
  write_is class field none =
      act_right p q m me (Write class field) none
      ∙ by_two (model.writes q m field (below 2 m.frame.operands)) (writes_by q m field (below 2 m.frame.operands))
      (writes_cases q m (below 2 m.frame.operands) field)
      m.frame.operands (enough p (needs p m (Write class field)) m none)

  pub make_is : (class : ℕ) → None ≡ wrong p (needs p m (Make class)) m → act p q m me (Make class) ≡ model.makes p q m class
      m.frame.operands
  make_is class none = act_right p q m me (Make class) none ∙ ap (model.makes p q m class) (below_none m.frame.operands)

  pub call_is : (calling : Calling) (class method n : ℕ) → length (call_takes p calling class (method_at p class method)) ≡ n → None
      ≡ wrong p (needs p m (Call calling class method)) m →
      act p q m me (Call calling class method) ≡ model.calls p q m calling class method (below n m.frame.operands)
      (on_top n m.frame.operands)
  call_is calling class method n e none =
      act_right p q m me (Call calling class method) none ∙ ap
      (λ k. model.calls p q m calling class method (below k m.frame.operands) (on_top k m.frame.operands)) e

  return_is : (sort : Option Sort) → None ≡ wrong p (needs p m (Return sort)) m → (ws : List Want) → (needs p m (Return sort)).takes ≡ ws →
      act p q m me (Return sort) ≡ model.returns q m (on_top (length ws) m.frame.operands) m.callers
  return_is sort none ws e = act_right p q m me (Return sort) none ∙ ap
      (λ l. model.returns q m (on_top (length l) m.frame.operands) m.callers) e

  pub return_none_is : None ≡ wrong p (needs p m (Return None)) m → act p q m me (Return None) ≡ model.returns q m [] m.callers
  return_none_is none = return_is None none [] (returning_takes p m.callers None _) ∙ by_none (λ l. model.returns q m l m.callers)
      m.frame.operands

  pub return_some_is : (sort : Sort) (v : Value) → None ≡ wrong p (needs p m (Return (Some sort))) m → at_top m.frame.operands 0 ≡ Some v →
      act p q m me (Return (Some sort)) ≡ model.returns q m (v ∷ []) m.callers
  return_some_is sort v none e =
      let result = result_in (signature_of (descriptor_in (method_of_frame p m.frame))) in
      let takes : (needs p m (Return (Some sort))).takes ≡ returned (Some sort) result = returning_takes p m.callers (Some sort) _ in
      let some : 1 ≤ length m.frame.operands = rw takes at (enough p (needs p m (Return (Some sort))) m none) in
      return_is (Some sort) none (returned (Some sort) result) takes
      ∙ by_one (λ l. model.returns q m l m.callers) (λ o. model.returns q m (option_to_list o) m.callers) (λ v. refl) m.frame.operands some
      ∙ ap (λ o. model.returns q m (option_to_list o) m.callers) e

  pub init_is : None ≡ wrong p (needs p m (Use built.Init)) m → act p q m me (Use built.Init) ≡ inits_by q m
      (below 1 m.frame.operands) (at_top m.frame.operands 0)
  init_is none =
      act_right p q m me (Use built.Init) none
      ∙ by_one (model.inits q m (below 1 m.frame.operands)) (λ v. inits_by q m (below 1 m.frame.operands) v)
      (inits_cases q m (below 1 m.frame.operands)) m.frame.operands (enough p (needs p m (Use built.Init)) m none)

  pub concat_is : None ≡ wrong p (needs p m (Use built.Concat)) m → act p q m me (Use built.Concat) ≡ joins_by q m
      (below 2 m.frame.operands) (text_in (at_top m.frame.operands 1)) (text_in (at_top m.frame.operands 0))
  concat_is none =
      act_right p q m me (Use built.Concat) none
      ∙ by_two (model.joins q m (below 2 m.frame.operands)) (λ v w. joins_by q m (below 2 m.frame.operands) (text_in v) (text_in w))
      (joins_cases q m (below 2 m.frame.operands)) m.frame.operands (enough p (needs p m (Use built.Concat)) m none)

  pub equals_is : None ≡ wrong p (needs p m (Use built.Equals)) m → act p q m me (Use built.Equals) ≡ equals_by q m
      (below 2 m.frame.operands) (text_in (at_top m.frame.operands 1)) (at_top m.frame.operands 0)
  equals_is none =
      act_right p q m me (Use built.Equals) none
      ∙ by_two (model.equals q m (below 2 m.frame.operands)) (λ v w. equals_by q m (below 2 m.frame.operands) (text_in v) w)
      (equals_cases q m (below 2 m.frame.operands)) m.frame.operands (enough p (needs p m (Use built.Equals)) m none)

  pub show_int_is : None ≡ wrong p (needs p m (Use built.ValueOfInt)) m → act p q m me (Use built.ValueOfInt) ≡ shows_int_by q m
      (below 1 m.frame.operands) (int_in (at_top m.frame.operands 0))
  show_int_is none =
      act_right p q m me (Use built.ValueOfInt) none
      ∙ by_one (model.shows_int q m (below 1 m.frame.operands)) (λ v. shows_int_by q m (below 1 m.frame.operands) (int_in v))
      (shows_int_cases q m (below 1 m.frame.operands)) m.frame.operands (enough p (needs p m (Use built.ValueOfInt)) m none)

  pub show_truth_is : None ≡ wrong p (needs p m (Use built.ValueOfTruth)) m → act p q m me (Use built.ValueOfTruth) ≡ shows_truth_by
      q m (below 1 m.frame.operands) (int_in (at_top m.frame.operands 0))
  show_truth_is none =
      act_right p q m me (Use built.ValueOfTruth) none
      ∙ by_one (model.shows_truth q m (below 1 m.frame.operands)) (λ v. shows_truth_by q m (below 1 m.frame.operands) (int_in v))
      (shows_truth_cases q m (below 1 m.frame.operands)) m.frame.operands (enough p (needs p m (Use built.ValueOfTruth)) m none)

  pub out_is : None ≡ wrong p (needs p m (Use built.Out)) m → act p q m me (Use built.Out) ≡ goes q
      (next m (m.frame.operands ++ values.Out ∷ []))
  out_is none = act_right p q m me (Use built.Out) none ∙ ap (λ l. goes q (next m (l ++ values.Out ∷ []))) (below_none m.frame.operands)

  pub print_is : None ≡ wrong p (needs p m (Use built.Println)) m → act p q m me (Use built.Println) ≡ prints_by q m
      (below 2 m.frame.operands) (at_top m.frame.operands 1) (at_top m.frame.operands 0)
  print_is none =
      act_right p q m me (Use built.Println) none
      ∙ by_two (model.prints q m (below 2 m.frame.operands)) (λ v w. prints_by q m (below 2 m.frame.operands) v w)
      (prints_cases q m (below 2 m.frame.operands)) m.frame.operands (enough p (needs p m (Use built.Println)) m none)

  pub send_is : None ≡ wrong p (needs p m (Use built.Send)) m →
      act p q m me (Use built.Send) ≡ sends_by q m me (below 2 m.frame.operands) (text_in (at_top m.frame.operands 1))
      (text_in (at_top m.frame.operands 0)) (payload_in model.NoPayload (at_top m.frame.operands 0))
  send_is none =
      act_right p q m me (Use built.Send) none
      ∙ by_two (model.sends_args q m me model.NoPayload (below 2 m.frame.operands))
      (λ v w. sends_by q m me (below 2 m.frame.operands) (text_in v) (text_in w) (Some carried.Nothing))
      (send_cases q m (below 2 m.frame.operands) me) m.frame.operands
      (enough p (needs p m (Use built.Send)) m none)

  -- what a send does that takes a third operand, by what the message carries
  abbrev pub sent : model.Payload → Stepped
  sent carries = sends_by q m me (below 3 m.frame.operands) (text_in (at_top m.frame.operands 2)) (text_in (at_top m.frame.operands 1))
      (payload_in carries (at_top m.frame.operands 0))

  sent_by : (carries : model.Payload) → ((u v w : Value) → model.sends_args q m me carries (below 3 m.frame.operands) (u ∷ v ∷ w ∷ [])
      ≡ sends_by q m me (below 3 m.frame.operands) (text_in (Some u)) (text_in (Some v)) (payload_in carries (Some w))) →
      3 ≤ length m.frame.operands →
      model.sends_args q m me carries (below 3 m.frame.operands) (on_top 3 m.frame.operands) ≡ sent carries
  sent_by carries cases some =
      by_three (model.sends_args q m me carries (below 3 m.frame.operands))
      (λ u v w. sends_by q m me (below 3 m.frame.operands) (text_in u) (text_in v) (payload_in carries w)) cases m.frame.operands some

  pub send_int_is : None ≡ wrong p (needs p m (Use built.SendInt)) m → act p q m me (Use built.SendInt) ≡ sent model.IntPayload
  send_int_is none =
      act_right p q m me (Use built.SendInt) none
      ∙ sent_by model.IntPayload (send_int_cases q m (below 3 m.frame.operands) me) (enough p (needs p m (Use built.SendInt)) m none)

  pub send_truth_is : None ≡ wrong p (needs p m (Use built.SendTruth)) m → act p q m me (Use built.SendTruth) ≡ sent model.TruthPayload
  send_truth_is none =
      act_right p q m me (Use built.SendTruth) none
      ∙ sent_by model.TruthPayload (send_truth_cases q m (below 3 m.frame.operands) me)
      (enough p (needs p m (Use built.SendTruth)) m none)

  pub send_text_is : None ≡ wrong p (needs p m (Use built.SendText)) m → act p q m me (Use built.SendText) ≡ sent model.TextPayload
  send_text_is none =
      act_right p q m me (Use built.SendText) none
      ∙ sent_by model.TextPayload (send_text_cases q m (below 3 m.frame.operands) me) (enough p (needs p m (Use built.SendText)) m none)

  pub look_is : None ≡ wrong p (needs p m (Use built.Look)) m → act p q m me (Use built.Look) ≡ looks_by q m me
      (below 1 m.frame.operands) (text_in (at_top m.frame.operands 0))
  look_is none =
      act_right p q m me (Use built.Look) none
      ∙ by_one (model.looks q m me (below 1 m.frame.operands)) (λ v. looks_by q m me (below 1 m.frame.operands) (text_in v))
      (looks_cases q m (below 1 m.frame.operands) me) m.frame.operands (enough p (needs p m (Use built.Look)) m none)

  -- what a take does, by what the message carries
  abbrev pub taken : model.Payload → Stepped
  taken carries = takes_by q m me carries (below 2 m.frame.operands) (text_in (at_top m.frame.operands 1))
      (text_in (at_top m.frame.operands 0))

  taken_by : (carries : model.Payload) → 2 ≤ length m.frame.operands →
      model.takes q m me carries (below 2 m.frame.operands) (on_top 2 m.frame.operands) ≡ taken carries
  taken_by carries some =
      by_two (model.takes q m me carries (below 2 m.frame.operands))
      (λ v w. takes_by q m me carries (below 2 m.frame.operands) (text_in v) (text_in w))
      (takes_cases q m (below 2 m.frame.operands) me carries) m.frame.operands some

  pub take_is : None ≡ wrong p (needs p m (Use built.Take)) m → act p q m me (Use built.Take) ≡ taken model.NoPayload
  take_is none = act_right p q m me (Use built.Take) none ∙ taken_by model.NoPayload (enough p (needs p m (Use built.Take)) m none)

  pub take_int_is : None ≡ wrong p (needs p m (Use built.TakeInt)) m → act p q m me (Use built.TakeInt) ≡ taken model.IntPayload
  take_int_is none =
      act_right p q m me (Use built.TakeInt) none ∙ taken_by model.IntPayload (enough p (needs p m (Use built.TakeInt)) m none)

  pub take_truth_is : None ≡ wrong p (needs p m (Use built.TakeTruth)) m → act p q m me (Use built.TakeTruth) ≡ taken model.TruthPayload
  take_truth_is none =
      act_right p q m me (Use built.TakeTruth) none ∙ taken_by model.TruthPayload (enough p (needs p m (Use built.TakeTruth)) m none)

  pub take_text_is : None ≡ wrong p (needs p m (Use built.TakeText)) m → act p q m me (Use built.TakeText) ≡ taken model.TextPayload
  take_text_is none =
      act_right p q m me (Use built.TakeText) none ∙ taken_by model.TextPayload (enough p (needs p m (Use built.TakeText)) m none)

  pub refuse_is : None ≡ wrong p (needs p m (Use built.Refuse)) m → act p q m me (Use built.Refuse) ≡ refuses_by q me
      (text_in (at_top m.frame.operands 1)) (text_in (at_top m.frame.operands 0))
  refuse_is none =
      act_right p q m me (Use built.Refuse) none
      ∙ by_two (model.refuses q me) (λ v w. refuses_by q me (text_in v) (text_in w)) (refuses_cases q me) m.frame.operands
      (enough p (needs p m (Use built.Refuse)) m none)
