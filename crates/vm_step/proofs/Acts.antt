-- What the definitions say of an action, by the operands that stand so far from the top.
use Rattle.std.proofs.Common.{◌≡◌, ℕ, ◌+◌, ◌-◌, ◌<◌, ◌≤◌, ◌⊎◌, inl, inr, Bool, true, false, List, [], ◌∷◌, length, take, drop, get_or}
use Rattle.std.proofs.Common.{Option, Some, None, nat_lt, refl, sym, ap, ◌∙◌, arith}
use Rattle.std.proofs.lemmas.List.{take_all, drop_all, drop_more}
use Rattle.std.proofs.lemmas.Option.{slice_get-get_or, get_or_from_slice_get}
use Rattle.std.proofs.lemmas.Bool.Decides.{nat_tests}
use Rattle.std.proofs.Common.{Result, Ok, Err, IfOk}
use Rattle.mg_text.specs.declared.memory.Memory.{Memory}
use Rattle.mg_text.specs.declared.event.BadKind.{BadKind}
use Rattle.mg_text.specs.declared.event.BadKind.TheVariants as bad
use Rattle.vm_model.specs.declared.value.Value.{Value}
use Rattle.vm_model.specs.Program.{Program}
use Rattle.vm_model.specs.Messages.{Messages}
use Rattle.vm_model.specs.Machine as model
use Rattle.vm_model.specs.Machine.{Machine}
use Rattle.vm_model.specs.Actions.{Action}
use Rattle.std.specs.Prelude.{not, if◌then◌else◌}
use Rattle.vm_model.specs.Tests.{Needs, needs, wrong, wrong_by, below, on_top, misfits, misfit_read, some_of, is_kind, is_member}
use Rattle.vm_model.specs.Step.{act, acts, tested, broken}
use Rattle.vm_session.specs.declared.stepped.Stepped.{Stepped}
use Rattle.vm_session.specs.Doing.{Does}
use Rattle.vm_step.specs.Doing.{Plays}
use Rattle.vm_session.specs.inner.Tops.{at_top}

module _ (p : Program) (q : Messages) (m : Machine) (me : ℕ) (a : Action) where
  pub act_wrong : (wrongness : BadKind) → Some wrongness ≡ wrong p (needs p m a) m → act p q m me a ≡ broken wrongness
  unfolding act
  act_wrong wrongness e = ap (tested p q m me a (length (needs p m a).takes)) (sym e)

  pub act_right : None ≡ wrong p (needs p m a) m →
      act p q m me a ≡ acts p q m me (below (length (needs p m a).takes) m.frame.operands)
      (on_top (length (needs p m a).takes) m.frame.operands) a
  unfolding act
  act_right e = ap (tested p q m me a (length (needs p m a).takes)) (sym e)

cut_short : (n : Needs) (m : Machine) (found : List (Option BadKind)) → nat_lt (length m.frame.operands) (length n.takes) ≡ true →
    wrong_by n m found ≡ Some bad.Underflow
cut_short n m found h = rw h refl

-- where nothing is wrong there are operands enough
pub enough : (p : Program) (n : Needs) (m : Machine) → None ≡ wrong p n m → length n.takes ≤ length m.frame.operands
enough p n m e =
    elim (below_or (length m.frame.operands) (length n.takes)) [
      | inl short ↦ absurd (cc (
        e,
        cut_short n m (misfit_read n.reads m.frame.locals ∷ misfits p m.heap n.takes
            (on_top (length n.takes) m.frame.operands)) short,
      ))
      | inr fits ↦ fits
    ]
  where
    below_or : (a b : ℕ) → (nat_lt a b ≡ true) ⊎ (b ≤ a)
    below_or a b = grind (arith, nat_tests)

-- the tests in their order, none of which fails
none_fails : (short kinds lacks members returns over : Bool) →
    None ≡ (if short then Some bad.Underflow else if kinds then Some bad.Kind else if lacks then Some bad.Local else if members then Some
    bad.Member
    else if not returns then Some bad.Return else if over then Some bad.Overflow else None) → (lacks ≡ false) × (over ≡ false)
none_fails true kinds lacks members returns over e = absurd (cc e)
none_fails false true lacks members returns over e = absurd (cc e)
none_fails false false true members returns over e = absurd (cc e)
none_fails false false false true returns over e = absurd (cc e)
none_fails false false false false false over e = absurd (cc e)
none_fails false false false false true true e = absurd (cc e)
none_fails false false false false true false e = (refl, refl)

at_least : (a b : ℕ) → nat_lt a b ≡ false → b ≤ a
at_least a b e = grind (arith, nat_tests)

-- where nothing is wrong there is room for what is pushed, and for the locals
pub room_in : (p : Program) (n : Needs) (m : Machine) → None ≡ wrong p n m → (n.locals ≤ n.of_locals) × (n.operands ≤ n.max_stack)
room_in p n m e =
    let found : List (Option BadKind) =
    misfit_read n.reads m.frame.locals ∷ misfits p m.heap n.takes (on_top (length n.takes) m.frame.operands) in
    let right = none_fails (nat_lt (length m.frame.operands) (length n.takes)) (some_of is_kind found) (nat_lt n.of_locals n.locals)
    (some_of is_member found) n.returns
    (nat_lt n.max_stack n.operands) e in (at_least n.of_locals n.locals right.0, at_least n.max_stack n.operands right.1)

-- what a step is may be said in other words
pub in_other_words : (s : Stepped) (wanted other : model.Stepped) (m m' : Machine) (q q' : Messages) → wanted ≡ other → Does other m
    q m' q' s → Does wanted m q m' q' s
in_other_words s wanted other m m' q q' e h = rw e h

module _ {X : Type 0} where
  pub on_top_next : (vs : List X) (k : ℕ) (v : X) → at_top vs k ≡ Some v → k < length vs → drop (length vs - (k + 1)) vs ≡ v ∷ drop
      (length vs - k) vs
  on_top_next vs k v e h =
      let place : length vs - (k + 1) < length vs = omega arith in
      let up : length vs - (k + 1) + 1 ≡ length vs - k = omega arith in
      drop_more vs (length vs - (k + 1)) v place
      ∙ ap (λ x. x ∷ drop (length vs - (k + 1) + 1) vs) (get_or_from_slice_get vs (length vs - (k + 1)) v v e)
      ∙ ap (λ i. v ∷ drop i vs) up

-- an operand that is there
pub record There (vs : List Value) (k : ℕ) : Type 0 where
  pub value : Value
  pub is : at_top vs k ≡ Some value

pub there : (vs : List Value) (k : ℕ) → k < length vs → There vs k
there [] k h = absurd (omega arith)
there (d ∷ ys) k h =
    record {
      value = get_or (d ∷ ys) (length (d ∷ ys) - (k + 1)) d;
      is = slice_get-get_or (d ∷ ys) (length (d ∷ ys) - (k + 1)) d
          (omega arith);
    }

pub below_none : (vs : List Value) → below 0 vs ≡ vs
below_none vs = take_all (length vs - 0) vs (omega arith)

module _ {X : Type 0} (f : List Value → X) where
  pub by_none : (vs : List Value) → f (on_top 0 vs) ≡ f []
  by_none vs = ap f (drop_all (length vs - 0) vs (omega arith))

  -- one operand is taken
  pub by_one : (g : Option Value → X) → ((v : Value) → f (v ∷ []) ≡ g (Some v)) → (vs : List Value) → 1 ≤ length vs → f
      (on_top 1 vs) ≡ g (at_top vs 0)
  by_one g cases vs h =
      let t : There vs 0 = there vs 0 h in
      let taken : on_top 1 vs ≡ t.value ∷ [] = on_top_next vs 0 t.value t.is h ∙ ap (λ l. t.value ∷ l)
      (drop_all (length vs - 0) vs (omega arith)) in
      ap f taken ∙ cases t.value ∙ ap g (sym t.is)

  -- two are
  pub by_two : (g : Option Value → Option Value → X) → ((v w : Value) → f (v ∷ w ∷ []) ≡ g (Some v) (Some w)) → (vs : List Value) →
      2 ≤ length vs →
      f (on_top 2 vs) ≡ g (at_top vs 1) (at_top vs 0)
  by_two g cases vs h =
      let some : 0 < length vs = omega arith in
      let t : There vs 1 = there vs 1 h in
      let u : There vs 0 = there vs 0 some in
      let taken : on_top 2 vs ≡ t.value ∷ u.value ∷ [] =
      on_top_next vs 1 t.value t.is h
      ∙ ap (λ l. t.value ∷ l) (on_top_next vs 0 u.value u.is some ∙ ap (λ l. u.value ∷ l)
      (drop_all (length vs - 0) vs (omega arith))) in
      ap f taken ∙ cases t.value u.value ∙ ap (λ o. g o (Some u.value)) (sym t.is) ∙ ap (g (at_top vs 1)) (sym u.is)

  -- three are
  pub by_three : (g : Option Value → Option Value → Option Value → X) →
      ((u v w : Value) → f (u ∷ v ∷ w ∷ []) ≡ g (Some u) (Some v) (Some w)) →
      (vs : List Value) → 3 ≤ length vs → f (on_top 3 vs) ≡ g (at_top vs 2) (at_top vs 1) (at_top vs 0)
  by_three g cases vs h =
      let one : 0 < length vs = omega arith in
      let two : 1 < length vs = omega arith in
      let s : There vs 2 = there vs 2 h in
      let t : There vs 1 = there vs 1 two in
      let u : There vs 0 = there vs 0 one in
      let taken : on_top 3 vs ≡ s.value ∷ t.value ∷ u.value ∷ [] =
      on_top_next vs 2 s.value s.is h
      ∙ ap (λ l. s.value ∷ l)
      (on_top_next vs 1 t.value t.is two
      ∙ ap (λ l. t.value ∷ l) (on_top_next vs 0 u.value u.is one ∙ ap (λ l. u.value ∷ l)
      (drop_all (length vs - 0) vs (omega arith)))) in
      ap f taken ∙ cases s.value t.value u.value ∙ ap (λ o. g o (Some t.value) (Some u.value)) (sym s.is) ∙ ap
      (λ o. g (at_top vs 2) o (Some u.value)) (sym t.is)
      ∙ ap (g (at_top vs 2) (at_top vs 1)) (sym u.is)

-- the lowest of those that are taken
pub by_head : {X : Type 0} (f : List Value → X) (g : List Value → Option Value → X) →
    ((v : Value) (l : List Value) → f (v ∷ l) ≡ g (v ∷ l) (Some v)) →
    (vs : List Value) (n : ℕ) → 1 ≤ n → n ≤ length vs → f (on_top n vs) ≡ g (on_top n vs) (at_top vs (n - 1))
by_head f g cases vs n some h =
    let place : n - 1 < length vs = omega arith in
    let whole : length vs - n ≡ length vs - (n - 1 + 1) = omega arith in
    let t : There vs (n - 1) = there vs (n - 1) place in
    let taken : on_top n vs ≡ t.value ∷ on_top (n - 1) vs = ap (λ k. drop k vs) whole ∙ on_top_next vs (n - 1) t.value t.is place in
    ap f taken ∙ cases t.value (on_top (n - 1) vs) ∙ ap (λ l. g l (Some t.value)) (sym taken) ∙ ap (g (on_top n vs)) (sym t.is)

module _ (m m' : Machine) where
  -- the same of an answer that may be want of memory
  pub plays_same : (r : Result Stepped Memory) (wanted other : Messages → model.Stepped) → ((q : Messages) → wanted q ≡ other q) →
      IfOk r (λ s. Plays other m m' s) → IfOk r (λ s. Plays wanted m m' s)
  plays_same (Ok s) wanted other e h = λ q. in_other_words s (wanted q) (other q) m m' q q (e q) (h q)
  plays_same (Err e) wanted other same h = tt

  pub plays_for : (r : Result Stepped Memory) (wanted : ℕ → Messages → model.Stepped) (other : Messages → model.Stepped) →
      ((me : ℕ) (q : Messages) → wanted me q ≡ other q) →
      IfOk r (λ s. Plays other m m' s) → IfOk r (λ s. (me : ℕ) → Plays (wanted me) m m' s)
  plays_for (Ok s) wanted other e h = λ me q. in_other_words s (wanted me q) (other q) m m' q q (e me q) (h q)
  plays_for (Err e) wanted other same h = tt

  pub does_same : (q q' : Messages) (r : Result Stepped Memory) (wanted other : model.Stepped) → wanted ≡ other →
      IfOk r (λ s. Does other m q m' q' s) → IfOk r (λ s. Does wanted m q m' q' s)
  does_same q q' (Ok s) wanted other e h = in_other_words s wanted other m m' q q' e h
  does_same q q' (Err e) wanted other same h = tt

  pub does_plays_same : (q : Messages) (r : Result Stepped Memory) (wanted : model.Stepped) (other : Messages → model.Stepped) →
      wanted ≡ other q →
      IfOk r (λ s. Plays other m m' s) → IfOk r (λ s. Does wanted m q m' q s)
  does_plays_same q (Ok s) wanted other e h = in_other_words s wanted (other q) m m' q q e (h q)
  does_plays_same q (Err e) wanted other same h = tt

  pub does_plays_for : (me : ℕ) (q : Messages) (r : Result Stepped Memory) (wanted : ℕ → Messages → model.Stepped) → IfOk r
      (λ s. (me : ℕ) → Plays (wanted me) m m' s) →
      IfOk r (λ s. Does (wanted me q) m q m' q s)
  does_plays_for me q (Ok s) wanted h = h me q
  does_plays_for me q (Err e) wanted h = tt

-- An action does what is said of its kind where nothing is wrong.
module _ {a kind : Action} (p : Program) (m m' : Machine) (is : a ≡ kind) where
  pub does_so : {other : Program → Messages → Machine → ℕ → model.Stepped} (q q' : Messages) (me : ℕ) →
      ((p : Program) (q : Messages) (m : Machine) (me : ℕ) → None ≡ wrong p (needs p m kind) m → act p q m me kind ≡ other p q m me) →
      None ≡ wrong p (needs p m a) m → (r : Result Stepped Memory) → IfOk r (λ s. Does (other p q m me) m q m' q' s) →
      IfOk r (λ s. Does (act p q m me a) m q m' q' s)
  does_so {other} q q' me done none r h =
      does_same m m' q q' r (act p q m me a) (other p q m me) (rw is (done p q m me (rw is at none))) h

  -- the same where it neither looks at messages nor sends any
  pub does_alone_so : {other : Program → Messages → Machine → ℕ → model.Stepped} (q : Messages) (me : ℕ) →
      ((p : Program) (q : Messages) (m : Machine) (me : ℕ) → None ≡ wrong p (needs p m kind) m → act p q m me kind ≡ other p q m me) →
      None ≡ wrong p (needs p m a) m → (r : Result Stepped Memory) → IfOk r (λ s. Plays (λ q. other p q m me) m m' s) →
      IfOk r (λ s. Does (act p q m me a) m q m' q s)
  does_alone_so {other} q me done none r h =
      does_plays_same m m' q r (act p q m me a) (λ q. other p q m me) (rw is (done p q m me (rw is at none))) h

  -- the same whoever runs it
  pub plays_so : {other : Program → Messages → Machine → model.Stepped} →
      ((p : Program) (q : Messages) (m : Machine) (me : ℕ) → None ≡ wrong p (needs p m kind) m → act p q m me kind ≡ other p q m) →
      None ≡ wrong p (needs p m a) m → (r : Result Stepped Memory) → IfOk r (λ s. Plays (λ q. other p q m) m m' s) →
      IfOk r (λ s. (me : ℕ) → Plays (λ q. act p q m me a) m m' s)
  plays_so {other} done none r h =
      plays_for m m' r (λ me q. act p q m me a) (λ q. other p q m) (λ me q. rw is (done p q m me (rw is at none))) h
