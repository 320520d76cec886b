-- What is known of a machine whose next action is known: nothing is wrong with it, and what it does isn't bad.
use Rattle.std.proofs.Common.{◌≡◌, ℕ, ◌≤◌, Bool, true, false, List, [], ◌∷◌, length}
use Rattle.std.proofs.Common.{Option, Some, None, nat_lt, refl, sym, ap, ◌∙◌, subst, arith}
use Rattle.std.specs.Prelude.{not, if◌then◌else◌, slice_get}
use Rattle.std.proofs.lemmas.Bool.Decides.{nat_tests}
use Rattle.mg_text.specs.declared.event.BadKind.{BadKind}
use Rattle.mg_text.specs.declared.event.BadKind.TheVariants as bad
use Rattle.vm_model.specs.Program.{Program, Instr}
use Rattle.vm_model.specs.Messages.{Messages}
use Rattle.vm_model.specs.Machine.{Machine, Stepped, Went}
use Rattle.vm_model.specs.Actions.{Action, action}
use Rattle.vm_model.specs.Tests.{Needs, needs, wrong, below, on_top, misfits, misfit_read, some_of, is_kind, is_member}
use Rattle.vm_model.specs.Tests.{method_of_frame}
use Rattle.vm_model.specs.Step.{act, act_at, act_some, acts, code_in, step, tested}
use Rattle.cls_verify.specs.Rows.{Names}
use Rattle.cls_verify.specs.Sound.{IsWell}
use Rattle.cls_verify.specs.Courses.{NextIsRight}
use Rattle.cls_verify.proofs.Rightly.{sound_is_right}
use Rattle.cls_verify.proofs.Whole as whole
use Rattle.vm_typed.specs.Alone.{SameMethod, StepsWithin}
use Rattle.vm_typed.specs.Next.{IsNext}

-- no test fails
pub record AllRight (n : Needs) (m : Machine) : Type 0 where
  pub enough : length n.takes ≤ length m.frame.operands
  pub locals : n.locals ≤ n.of_locals
  pub room : n.operands ≤ n.max_stack

at_least : (a b : ℕ) → nat_lt a b ≡ false → b ≤ a
at_least a b e = grind (arith, nat_tests)

none_fails : (short kinds lacks members returns over : Bool) →
    (if short then Some bad.Underflow else if kinds then Some bad.Kind else if lacks then Some bad.Local else if members then Some
    bad.Member
    else if not returns then Some bad.Return else if over then Some bad.Overflow else None) ≡ None →
    (short ≡ false) × (lacks ≡ false) × (over ≡ false)
none_fails true kinds lacks members returns over e = absurd (cc e)
none_fails false true lacks members returns over e = absurd (cc e)
none_fails false false true members returns over e = absurd (cc e)
none_fails false false false true returns over e = absurd (cc e)
none_fails false false false false false over e = absurd (cc e)
none_fails false false false false true true e = absurd (cc e)
none_fails false false false false true false e = (refl, refl, refl)

all_right : (p : Program) (n : Needs) (m : Machine) → wrong p n m ≡ None → AllRight n m
all_right p n m e =
    let found : List (Option BadKind) =
    misfit_read n.reads m.frame.locals ∷ misfits p m.heap n.takes (on_top (length n.takes) m.frame.operands) in
    let right = none_fails (nat_lt (length m.frame.operands) (length n.takes)) (some_of is_kind found) (nat_lt n.of_locals n.locals)
    (some_of is_member found) n.returns
    (nat_lt n.max_stack n.operands) e in
    record {
      enough = at_least (length m.frame.operands) (length n.takes) right.0;
      locals = at_least n.of_locals n.locals right.1;
      room = at_least n.max_stack n.operands right.2;
    }

some_is : {A : Type 0} (x y : A) → Some x ≡ Some y → x ≡ y
some_is x y e = cc

-- no messages and no roles
pub nobody : Messages
nobody = record { roles = []; lists = [] }

module _ (p : Program) (m : Machine) (a : Action) (n : IsNext p m a) where
  right : wrong p (needs p m a) m ≡ None
  right =
      let r : NextIsRight p m = sound_is_right p n.typable m n.sound in
      let instr : r.instr ≡ n.instr = some_is r.instr n.instr (sym r.there ∙ n.there) in
      let same : r.action_is ≡ a = some_is r.action_is a (sym r.acts ∙ ap (λ (i : Instr). action i.op i.args) instr ∙ n.acts) in
      subst (λ b. wrong p (needs p m b) m ≡ None) same r.right

  pub is_right : AllRight (needs p m a) m
  is_right = all_right p (needs p m a) m right

  -- what it names is there
  pub names_of : Names p a
  names_of =
      let t = n.sound.frame.typing.typed m.frame.place n.sound.frame.kinds n.sound.frame.here in
      let there : slice_get (code_in (method_of_frame p m.frame)) m.frame.place ≡ Some t.instr =
      ap (λ o. slice_get (code_in o) m.frame.place) n.sound.frame.at ∙ t.there in
      let instr : t.instr ≡ n.instr = some_is t.instr n.instr (sym there ∙ n.there) in
      subst (Names p) (some_is t.action_is a (sym t.acts ∙ ap (λ (i : Instr). action i.op i.args) instr ∙ n.acts)) t.names

  -- what the action does with the operands
  abbrev does : (me : ℕ) → Messages → Stepped
  does me q = acts p q m me (below (length (needs p m a).takes) m.frame.operands) (on_top (length (needs p m a).takes) m.frame.operands) a

  act_is : (me : ℕ) (q : Messages) → act p q m me a ≡ does me q
  unfolding act
  act_is me q = ap (tested p q m me a (length (needs p m a).takes)) right

  pub step_is : (me : ℕ) (q : Messages) → step p me m q ≡ does me q
  step_is me q = ap (act_at p q m me) n.there ∙ ap (act_some p q m me) n.acts ∙ act_is me q

  pub is_well : (me : ℕ) (q : Messages) → IsWell p (does me q)
  is_well me q = subst (IsWell p) (step_is me q) (whole.step_is_well p n.typable q me m n.sound)

  pub steps_to : (m' : Machine) → SameMethod m m' → ((me : ℕ) (q : Messages) → does me q ≡ Went m' q None) → StepsWithin p m m' true
  steps_to m' same is = (same, λ me q. step_is me q ∙ is me q)
