-- The definitions of actions by their operands, one case after another.
use Rattle.std.proofs.Common.{◌≡◌, ℕ, ℤ, true, false, List, [], ◌∷◌, ◌++◌, drop, slice_get, Option, Some, None, refl}
use Rattle.vm_model.specs.declared.value.Value.{Value}
use Rattle.vm_model.specs.declared.value.Value.TheVariants as values
use Rattle.mg_text.specs.declared.event.BadKind.TheVariants as bad
use Rattle.mg_text.specs.declared.event.Sent.{Sent}
use Rattle.mg_text.specs.declared.event.Carried.TheVariants as carried
use Rattle.mg_text.specs.Call.{Name}
use Rattle.vm_model.specs.Program.{Program}
use Rattle.vm_model.specs.Messages.{Messages, on_way, role_named}
use Rattle.vm_model.specs.Machine.{Machine, Object}
use Rattle.vm_model.specs.Actions.{Operation, Comparison, Telling, Silent}
use Rattle.vm_model.specs.Step as model
use Rattle.vm_session.specs.inner.Tops.{int_in, text_in, int_of_local}
use Rattle.vm_step.specs.inner.Acts.{computes_by, negates_by, increased_by, on_zero_by, on_both_by, switches_by}
use Rattle.vm_step.specs.inner.Objects.{reads_at, reads_by, writes_by, field_of_object}
use Rattle.vm_step.specs.inner.Calls.{calls_by}
use Rattle.vm_session.specs.inner.Sessions.{payload_in, sends_by, looks_head, looks_role, looks_by, takes_head, takes_role, takes_by}
use Rattle.vm_session.specs.inner.Sessions.{refuses_by}
use Rattle.vm_step.specs.inner.Builts.{inits_by, joins_by, equals_by, shows_int_by, shows_truth_by, prints_by}

module _ (q : Messages) (m : Machine) (rest : List Value) where
  pub computes_cases : (operation : Operation) (v w : Value) → model.computes q m operation rest (v ∷ w ∷ []) ≡ computes_by q m
      operation rest (int_in (Some v)) (int_in (Some w))
  computes_cases operation (values.Int x) (values.Int y) = refl
  computes_cases operation (values.Int x) _ = refl
  computes_cases operation _ _ = refl

  pub negates_cases : (v : Value) → model.negates q m rest (v ∷ []) ≡ negates_by q m rest (int_in (Some v))
  negates_cases (values.Int x) = refl
  negates_cases _ = refl

  pub on_zero_cases : (comparison : Comparison) (target : ℕ) (v : Value) →
      model.on_zero q m comparison target rest (v ∷ []) ≡ on_zero_by q m comparison target rest (int_in (Some v))
  on_zero_cases comparison target (values.Int x) = refl
  on_zero_cases comparison target _ = refl

  pub on_both_cases : (comparison : Comparison) (target : ℕ) (v w : Value) →
      model.on_both q m comparison target rest (v ∷ w ∷ []) ≡ on_both_by q m comparison target rest (int_in (Some v)) (int_in (Some w))
  on_both_cases comparison target (values.Int x) (values.Int y) = refl
  on_both_cases comparison target (values.Int x) _ = refl
  on_both_cases comparison target _ _ = refl

  pub switches_cases : (default : ℕ) (low : ℤ) (targets : List ℕ) (v : Value) →
      model.switches q m default low targets rest (v ∷ []) ≡ switches_by q m default low targets rest (int_in (Some v))
  switches_cases default low targets (values.Int x) = refl
  switches_cases default low targets _ = refl

  pub increased_cases : (local : ℕ) (by : ℤ) (o : Option (Option Value)) → model.increased q m rest local by o ≡ increased_by q m
      rest local by (int_of_local o)
  increased_cases local by None = refl
  increased_cases local by (Some None) = refl
  increased_cases local by (Some (Some (values.Int x))) = refl
  increased_cases local by (Some (Some _)) = refl

  pub reads_cases : (field : ℕ) (v : Value) → model.reads q m field rest (v ∷ []) ≡ reads_by q m field rest (Some v)
  reads_cases field (values.Object n) = object (slice_get m.heap n)
    where
      found : (o : Option Value) → (elim o [
        | None ↦ model.broken bad.Member
        | Some v ↦ model.goes q (model.next m (rest ++ v ∷ []))
      ]) ≡ reads_at q m rest o
      found None = refl
      found (Some v) = refl

      object : (o : Option Object) → model.reads_object q m rest field o ≡ reads_at q m rest (field_of_object field o)
      object None = refl
      object (Some o) = found (slice_get o.fields field)
  reads_cases field _ = refl

  pub writes_cases : (field : ℕ) (v w : Value) → model.writes q m field rest (v ∷ w ∷ []) ≡ writes_by q m field rest (Some v) (Some w)
  writes_cases field (values.Object n) w = refl
  writes_cases field values.Null w = refl
  writes_cases field _ w = refl

  pub inits_cases : (v : Value) → model.inits q m rest (v ∷ []) ≡ inits_by q m rest (Some v)
  inits_cases values.Null = refl
  inits_cases _ = refl

  pub joins_cases : (v w : Value) → model.joins q m rest (v ∷ w ∷ []) ≡ joins_by q m rest (text_in (Some v)) (text_in (Some w))
  joins_cases (values.Text a) (values.Text b) = refl
  joins_cases (values.Text a) _ = refl
  joins_cases _ _ = refl

  pub equals_cases : (v w : Value) → model.equals q m rest (v ∷ w ∷ []) ≡ equals_by q m rest (text_in (Some v)) (Some w)
  equals_cases (values.Text a) w = refl
  equals_cases _ w = refl

  pub shows_int_cases : (v : Value) → model.shows_int q m rest (v ∷ []) ≡ shows_int_by q m rest (int_in (Some v))
  shows_int_cases (values.Int x) = refl
  shows_int_cases _ = refl

  pub shows_truth_cases : (v : Value) → model.shows_truth q m rest (v ∷ []) ≡ shows_truth_by q m rest (int_in (Some v))
  shows_truth_cases (values.Int x) = refl
  shows_truth_cases _ = refl

  pub prints_cases : (v w : Value) → model.prints q m rest (v ∷ w ∷ []) ≡ prints_by q m rest (Some v) (Some w)
  prints_cases values.Out w = refl
  prints_cases _ w = refl

  module _ (p : Program) (class method : ℕ) where
    pub telling_cases : (v : Value) (l : List Value) → model.calls p q m Telling class method rest (v ∷ l) ≡ calls_by p q m true
        class method rest (v ∷ l) (Some v)
    telling_cases (values.Object n) l = refl
    telling_cases values.Null l = refl
    telling_cases _ l = refl

    pub silent_cases : (v : Value) (l : List Value) → model.calls p q m Silent class method rest (v ∷ l) ≡ calls_by p q m false
        class method rest (v ∷ l) (Some v)
    silent_cases (values.Object n) l = refl
    silent_cases values.Null l = refl
    silent_cases _ l = refl

  module _ (me : ℕ) where
    pub send_cases : (v w : Value) → model.sends_args q m me model.NoPayload rest (v ∷ w ∷ []) ≡ sends_by q m me rest
        (text_in (Some v)) (text_in (Some w)) (Some carried.Nothing)
    send_cases (values.Text a) (values.Text b) = refl
    send_cases (values.Text a) _ = refl
    send_cases _ _ = refl

    pub send_int_cases : (u v w : Value) →
        model.sends_args q m me model.IntPayload rest (u ∷ v ∷ w ∷ []) ≡ sends_by q m me rest (text_in (Some u)) (text_in (Some v))
        (payload_in model.IntPayload (Some w))
    send_int_cases (values.Text a) (values.Text b) (values.Int x) = refl
    send_int_cases (values.Text a) (values.Text b) _ = refl
    send_int_cases (values.Text a) _ w = refl
    send_int_cases _ v w = refl

    pub send_truth_cases : (u v w : Value) →
        model.sends_args q m me model.TruthPayload rest (u ∷ v ∷ w ∷ []) ≡ sends_by q m me rest (text_in (Some u))
        (text_in (Some v)) (payload_in model.TruthPayload (Some w))
    send_truth_cases (values.Text a) (values.Text b) (values.Int x) = refl
    send_truth_cases (values.Text a) (values.Text b) _ = refl
    send_truth_cases (values.Text a) _ w = refl
    send_truth_cases _ v w = refl

    pub send_text_cases : (u v w : Value) →
        model.sends_args q m me model.TextPayload rest (u ∷ v ∷ w ∷ []) ≡ sends_by q m me rest (text_in (Some u)) (text_in (Some v))
        (payload_in model.TextPayload (Some w))
    send_text_cases (values.Text a) (values.Text b) (values.Text c) = refl
    send_text_cases (values.Text a) (values.Text b) _ = refl
    send_text_cases (values.Text a) _ w = refl
    send_text_cases _ v w = refl

    looks_first : (peer : Name) (from : ℕ) (l : List Sent) → model.looks_at q m rest peer from l ≡ looks_head q m rest peer from
        (slice_get l 0)
    looks_first peer from [] = refl
    looks_first peer from (message ∷ more) = refl

    looks_at_role : (peer : Name) (from : Option ℕ) → model.looks_from q m me rest peer from ≡ looks_role q m me rest peer from
    looks_at_role peer None = refl
    looks_at_role peer (Some from) = looks_first peer from (on_way q from me)

    pub looks_cases : (v : Value) → model.looks q m me rest (v ∷ []) ≡ looks_by q m me rest (text_in (Some v))
    looks_cases (values.Text peer) = looks_at_role peer (model.other_role me (role_named q peer))
    looks_cases _ = refl

    module _ (carries : model.Payload) where
      takes_head_is : (peer label : Name) (from : ℕ) (l : List Sent) →
          model.takes_at q m me carries rest peer label from l ≡ takes_head q m me carries rest peer label from (drop 1 l) (slice_get l 0)
      takes_head_is peer label from [] = refl
      takes_head_is peer label from (message ∷ more) = refl

      takes_from_role : (peer label : Name) (from : Option ℕ) → model.takes_from q m me carries rest peer label from ≡ takes_role q
          m me carries rest peer label from
      takes_from_role peer label None = refl
      takes_from_role peer label (Some from) = takes_head_is peer label from (on_way q from me)

      pub takes_cases : (v w : Value) → model.takes q m me carries rest (v ∷ w ∷ []) ≡ takes_by q m me carries rest
          (text_in (Some v)) (text_in (Some w))
      takes_cases (values.Text peer) (values.Text label) = takes_from_role peer label (model.other_role me (role_named q peer))
      takes_cases (values.Text peer) _ = refl
      takes_cases _ _ = refl

pub refuses_cases : (q : Messages) (me : ℕ) (v w : Value) → model.refuses q me (v ∷ w ∷ []) ≡ refuses_by q me (text_in (Some v))
    (text_in (Some w))
refuses_cases q me (values.Text peer) (values.Text found) = refl
refuses_cases q me (values.Text peer) _ = refl
refuses_cases q me _ _ = refl
