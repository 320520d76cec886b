-- Every step of the machine looks at and changes the lists of its role alone.
use Rattle.std.proofs.Common.{◌≡◌, ℕ, Bool, ℤ, List, [], ◌∷◌, ◌++◌, length, Option, Some, None, position, refl, ap, ◌∙◌, slice_get}
use Rattle.std.specs.Prelude.{if◌then◌else◌}
use Rattle.std.specs.Str.{bytes_eq}
use Rattle.mg_text.specs.Call.{Name}
use Rattle.mg_text.specs.declared.event.Event.{Event}
use Rattle.mg_text.specs.declared.event.Sent.{Sent}
use Rattle.mg_text.specs.declared.event.Carried.{Carried}
use Rattle.mg_text.specs.declared.event.Carried.TheVariants as carried
use Rattle.mg_text.specs.declared.event.Ending.{Ending}
use Rattle.mg_text.specs.declared.event.BadKind.{BadKind}
use Rattle.vm_model.specs.declared.value.Value.{Value}
use Rattle.vm_model.specs.declared.value.Value.TheVariants as values
use Rattle.vm_model.specs.declared.linked.Built.{Built as BuiltIn}
use Rattle.vm_model.specs.declared.linked.Built.TheVariants as built
use Rattle.vm_model.specs.Program.{Program, Instr}
use Rattle.vm_model.specs.Messages.{Messages, on_way, role_named}
use Rattle.vm_model.specs.Machine.{Frame, Object, Machine, Went, Stops}
use Rattle.vm_model.specs.Actions.{Calling, Telling, Silent, Static, Operation, Comparison, Action, Push, Load, Store, Pop, Double, Swap}
use Rattle.vm_model.specs.Actions.{Compute, Negate, Increase, IfZero, IfBoth, IfNull, Go, Switch, Return, Read, Write, Make, Call, Use}
use Rattle.vm_model.specs.Actions.{action}
use Rattle.vm_model.specs.Arithmetic.{computed}
use Rattle.vm_model.specs.Tests.{needs, wrong, on_top, below, method_of_frame}
use Rattle.vm_model.specs.Step
use Rattle.vm_model.specs.Step.{step, act, act_some, act_at, tested, acts, code_in, other_role, taken_as, NoPayload, IntPayload}
use Rattle.vm_model.specs.Step.{TruthPayload, TextPayload, Payload}
use Rattle.vm_world_law.specs.Doing.{Answer, Looks, Takes, Refuses, Goes, Ends, Sends, Receives, answers, receives, IsQuiet, DoesOne}

module _ (roles : List Name) (me : ℕ) where
  -- it goes on without messages
  goes : (n : Machine) → DoesOne roles me (λ q. Step.goes q n)
  goes n = record { doing = Goes n None; right = tt; is = λ q h. refl }

  went : (n : Machine) (event : Option Event) → IsQuiet event → DoesOne roles me (λ q. Went n q event)
  went n event quiet = record { doing = Goes n event; right = quiet; is = λ q h. refl }

  over : (ending : Ending) → DoesOne roles me (λ q. Stops ending)
  over ending = record { doing = Ends ending; right = tt; is = λ q h. refl }

  module _ (m : Machine) (rest : List Value) where
    pushed : (o : Option (Option Value)) → DoesOne roles me (λ q. Step.pushed q m rest o)
    pushed (Some (Some v)) = goes _
    pushed o = over _

    increased : (local : ℕ) (by : ℤ) (o : Option (Option Value)) → DoesOne roles me (λ q. Step.increased q m rest local by o)
    increased local by (Some (Some (values.Int x))) = goes _
    increased local by o = over _

    stored : (local : ℕ) (vs : List Value) → DoesOne roles me (λ q. Step.stored q m local rest vs)
    stored local (v ∷ []) = goes _
    stored local vs = over _

    popped : (vs : List Value) → DoesOne roles me (λ q. Step.popped q m rest vs)
    popped (v ∷ []) = goes _
    popped vs = over _

    doubled : (vs : List Value) → DoesOne roles me (λ q. Step.doubled q m rest vs)
    doubled (v ∷ []) = goes _
    doubled vs = over _

    swapped : (vs : List Value) → DoesOne roles me (λ q. Step.swapped q m rest vs)
    swapped (v ∷ w ∷ []) = goes _
    swapped vs = over _

    computed_to : (o : Option ℤ) → DoesOne roles me (λ q. Step.computed_to q m rest o)
    computed_to None = over _
    computed_to (Some z) = goes _

    computes : (operation : Operation) (vs : List Value) → DoesOne roles me (λ q. Step.computes q m operation rest vs)
    computes operation (values.Int x ∷ values.Int y ∷ []) = computed_to (computed operation x y)
    computes operation vs = over _

    negates : (vs : List Value) → DoesOne roles me (λ q. Step.negates q m rest vs)
    negates (values.Int x ∷ []) = goes _
    negates vs = over _

    on_zero : (c : Comparison) (target : ℕ) (vs : List Value) → DoesOne roles me (λ q. Step.on_zero q m c target rest vs)
    on_zero c target (values.Int x ∷ []) = goes _
    on_zero c target vs = over _

    on_both : (c : Comparison) (target : ℕ) (vs : List Value) → DoesOne roles me (λ q. Step.on_both q m c target rest vs)
    on_both c target (values.Int x ∷ values.Int y ∷ []) = goes _
    on_both c target vs = over _

    on_null : (wanted : Bool) (target : ℕ) (vs : List Value) → DoesOne roles me (λ q. Step.on_null q m wanted target rest vs)
    on_null wanted target (v ∷ []) = goes _
    on_null wanted target vs = over _

    switches : (default : ℕ) (low : ℤ) (targets : List ℕ) (vs : List Value) →
        DoesOne roles me (λ q. Step.switches q m default low targets rest vs)
    switches default low targets (values.Int x ∷ []) = goes _
    switches default low targets vs = over _

    left_quiet : (told : Option ℕ) (vs : List Value) → IsQuiet (Step.left told vs)
    left_quiet None vs = tt
    left_quiet (Some o) vs = tt

    returns : (vs : List Value) (fs : List Frame) → DoesOne roles me (λ q. Step.returns q m vs fs)
    returns vs [] = over _
    returns vs (f ∷ fs) = went _ _ (left_quiet m.frame.told vs)

    read : (o : Option Value) → DoesOne roles me (λ q. elim o [
      | None ↦ Step.broken Rattle.mg_text.specs.declared.event.BadKind.TheVariants.Member
      | Some v ↦ Step.goes q (Step.next m (rest ++ v ∷ []))
    ])
    read None = over _
    read (Some v) = goes _

    reads_object : (field : ℕ) (o : Option Object) → DoesOne roles me (λ q. Step.reads_object q m rest field o)
    reads_object field None = over _
    reads_object field (Some o) = read (slice_get o.fields field)

    reads : (field : ℕ) (vs : List Value) → DoesOne roles me (λ q. Step.reads q m field rest vs)
    reads field (values.Object n ∷ []) = reads_object field (slice_get m.heap n)
    reads field (values.Null ∷ []) = over _
    reads field vs = over _

    writes_object : (n field : ℕ) (v : Value) (o : Option Object) → DoesOne roles me (λ q. Step.writes_object q m rest n field v o)
    writes_object n field v None = over _
    writes_object n field v (Some o) = goes _

    writes : (field : ℕ) (vs : List Value) → DoesOne roles me (λ q. Step.writes q m field rest vs)
    writes field (values.Object n ∷ v ∷ []) = writes_object n field v (slice_get m.heap n)
    writes field (values.Null ∷ v ∷ []) = over _
    writes field vs = over _

    calls : (p : Program) (calling : Calling) (class method : ℕ) (vs : List Value) →
        DoesOne roles me (λ q. Step.calls p q m calling class method rest vs)
    calls p Static class method vs = went _ _ tt
    calls p Telling class method (values.Object n ∷ vs) = went _ _ tt
    calls p Silent class method (values.Object n ∷ vs) = went _ _ tt
    calls p how class method vs = over _

    inits : (vs : List Value) → DoesOne roles me (λ q. Step.inits q m rest vs)
    inits (values.Null ∷ []) = over _
    inits (v ∷ []) = goes _
    inits vs = over _

    joins : (vs : List Value) → DoesOne roles me (λ q. Step.joins q m rest vs)
    joins (values.Text a ∷ values.Text b ∷ []) = goes _
    joins (v ∷ w ∷ []) = over _
    joins vs = over _

    equals : (vs : List Value) → DoesOne roles me (λ q. Step.equals q m rest vs)
    equals (values.Text a ∷ v ∷ []) = goes _
    equals (v ∷ w ∷ []) = over _
    equals vs = over _

    shows_int : (vs : List Value) → DoesOne roles me (λ q. Step.shows_int q m rest vs)
    shows_int (values.Int x ∷ []) = goes _
    shows_int vs = over _

    shows_truth : (vs : List Value) → DoesOne roles me (λ q. Step.shows_truth q m rest vs)
    shows_truth (values.Int x ∷ []) = goes _
    shows_truth vs = over _

    prints : (vs : List Value) → DoesOne roles me (λ q. Step.prints q m rest vs)
    prints (values.Out ∷ v ∷ []) = went _ _ tt
    prints (v ∷ w ∷ []) = over _
    prints vs = over _

    -- ---- sessions

    -- the role of a name is the same on all messages between these roles
    named : (peer : Name) (o : Option ℕ) → other_role me (position (bytes_eq peer) roles) ≡ o → (q : Messages) → q.roles ≡ roles →
        other_role me (role_named q peer) ≡ o
    named peer o is q same = ap (λ names. other_role me (position (bytes_eq peer) names)) same ∙ is

    sends : (peer label : Name) (payload : Carried) → DoesOne roles me (λ q. Step.sends q m me rest peer label payload)
    sends peer label payload = go (other_role me (position (bytes_eq peer) roles)) refl
      where
        message : Sent
        message = record { label = label; payload = payload }

        go : (o : Option ℕ) → other_role me (position (bytes_eq peer) roles) ≡ o →
            DoesOne roles me (λ q. Step.sends q m me rest peer label payload)
        go None is = record {
          doing = Ends _;
          right = tt;
          is = λ q same. ap (Step.sends_to q m me rest peer (record { label = label; payload = payload })) (named peer None is q same);
        }
        go (Some to) is = record {
          doing = Sends (Step.next m rest) to peer (record { label = label; payload = payload });
          right = is;
          is = λ q same. ap (Step.sends_to q m me rest peer (record { label = label; payload = payload })) (named peer (Some to) is q same);
        }

    sends_args : (carries : Payload) (vs : List Value) → DoesOne roles me (λ q. Step.sends_args q m me carries rest vs)
    sends_args NoPayload (values.Text peer ∷ values.Text label ∷ []) = sends peer label carried.Nothing
    sends_args NoPayload vs = over _
    sends_args IntPayload (values.Text peer ∷ values.Text label ∷ values.Int x ∷ []) = sends peer label (carried.Int x)
    sends_args IntPayload vs = over _
    sends_args TruthPayload (values.Text peer ∷ values.Text label ∷ values.Int x ∷ []) = sends peer label (carried.Truth (Step.is_true x))
    sends_args TruthPayload vs = over _
    sends_args TextPayload (values.Text peer ∷ values.Text label ∷ values.Text text ∷ []) = sends peer label (carried.Text text)
    sends_args TextPayload vs = over _

    looked : Sent → Answer
    looked message = Looks (Step.next m (rest ++ values.Text message.label ∷ []))

    looks_same : (q : Messages) (peer : Name) (from : ℕ) (list : List Sent) →
        Step.looks_at q m rest peer from list ≡ receives q me from peer looked list
    unfolding looked
    looks_same q peer from [] = refl
    looks_same q peer from (message ∷ more) = refl

    looks_from : (peer : Name) → DoesOne roles me (λ q. Step.looks_from q m me rest peer (other_role me (role_named q peer)))
    looks_from peer = go (other_role me (position (bytes_eq peer) roles)) refl
      where
        go : (o : Option ℕ) → other_role me (position (bytes_eq peer) roles) ≡ o →
            DoesOne roles me (λ q. Step.looks_from q m me rest peer (other_role me (role_named q peer)))
        go None is = record { doing = Ends _; right = tt; is = λ q same. ap (Step.looks_from q m me rest peer) (named peer None is q same) }
        go (Some from) is = record {
          doing = Receives from peer looked;
          right = is;
          is = λ q same. ap (Step.looks_from q m me rest peer) (named peer (Some from) is q same) ∙ looks_same q peer from
              (on_way q from me);
        }

    looks : (vs : List Value) → DoesOne roles me (λ q. Step.looks q m me rest vs)
    looks (values.Text peer ∷ []) = looks_from peer
    looks vs = over _

    took_with : Option (List Value) → Answer
    took_with None = Refuses
    took_with (Some vs) = Takes (Step.next m (rest ++ vs))

    module _ (carries : Payload) (peer label : Name) where
      took : Sent → Answer
      took message = took_with (if bytes_eq message.label label then taken_as carries message.payload else None)

      takes_first_same : (q : Messages) (from : ℕ) (message : Sent) (more : List Sent) (given : Option (List Value)) →
          Step.takes_first q m me rest peer from message more given ≡ answers q me from peer message more (took_with given)
      unfolding took_with
      takes_first_same q from message more None = refl
      takes_first_same q from message more (Some vs) = refl

      takes_same : (q : Messages) (from : ℕ) (list : List Sent) →
          Step.takes_at q m me carries rest peer label from list ≡ receives q me from peer took list
      unfolding took
      takes_same q from [] = refl
      takes_same q from (message ∷ more) =
          takes_first_same q from message more (if bytes_eq message.label label then taken_as carries message.payload else None)

      takes_from : DoesOne roles me (λ q. Step.takes_from q m me carries rest peer label (other_role me (role_named q peer)))
      takes_from = go (other_role me (position (bytes_eq peer) roles)) refl
        where
          go : (o : Option ℕ) → other_role me (position (bytes_eq peer) roles) ≡ o →
              DoesOne roles me (λ q. Step.takes_from q m me carries rest peer label (other_role me (role_named q peer)))
          go None is = record {
            doing = Ends _;
            right = tt;
            is = λ q same. ap (Step.takes_from q m me carries rest peer label) (named peer None is q same);
          }
          go (Some from) is = record {
            doing = Receives from peer took;
            right = is;
            is = λ q same. ap (Step.takes_from q m me carries rest peer label) (named peer (Some from) is q same)
                ∙ takes_same q from (on_way q from me);
          }

    takes : (carries : Payload) (vs : List Value) → DoesOne roles me (λ q. Step.takes q m me carries rest vs)
    takes carries (values.Text peer ∷ values.Text label ∷ []) = takes_from carries peer label
    takes carries vs = over _

    refuses_from : (peer found : Name) → DoesOne roles me (λ q. Step.refuses_from peer found (other_role me (role_named q peer)))
    refuses_from peer found = go (other_role me (position (bytes_eq peer) roles)) refl
      where
        go : (o : Option ℕ) → other_role me (position (bytes_eq peer) roles) ≡ o →
            DoesOne roles me (λ q. Step.refuses_from peer found (other_role me (role_named q peer)))
        go None is = record { doing = Ends _; right = tt; is = λ q same. ap (Step.refuses_from peer found) (named peer None is q same) }
        go (Some from) is = record {
          doing = Ends _;
          right = tt;
          is = λ q same. ap (Step.refuses_from peer found)
              (named peer (Some from) is q same);
        }

    refuses : (vs : List Value) → DoesOne roles me (λ q. Step.refuses q me vs)
    refuses (values.Text peer ∷ values.Text found ∷ []) = refuses_from peer found
    refuses vs = over _

    uses : (vs : List Value) (b : BuiltIn) → DoesOne roles me (λ q. Step.uses q m me rest vs b)
    uses vs built.Init = inits vs
    uses vs built.Concat = joins vs
    uses vs built.Equals = equals vs
    uses vs built.ValueOfInt = shows_int vs
    uses vs built.ValueOfTruth = shows_truth vs
    uses vs built.Out = goes _
    uses vs built.Println = prints vs
    uses vs built.Send = sends_args NoPayload vs
    uses vs built.SendInt = sends_args IntPayload vs
    uses vs built.SendTruth = sends_args TruthPayload vs
    uses vs built.SendText = sends_args TextPayload vs
    uses vs built.Look = looks vs
    uses vs built.Take = takes NoPayload vs
    uses vs built.TakeInt = takes IntPayload vs
    uses vs built.TakeTruth = takes TruthPayload vs
    uses vs built.TakeText = takes TextPayload vs
    uses vs built.Refuse = refuses vs

    does : (p : Program) (vs : List Value) (a : Action) → DoesOne roles me (λ q. acts p q m me rest vs a)
    does p vs (Push v) = goes _
    does p vs (Load sort local) = pushed (slice_get m.frame.locals local)
    does p vs (Store sort local) = stored local vs
    does p vs Pop = popped vs
    does p vs Double = doubled vs
    does p vs Swap = swapped vs
    does p vs (Compute operation) = computes operation vs
    does p vs Negate = negates vs
    does p vs (Increase local by) = increased local by (slice_get m.frame.locals local)
    does p vs (IfZero comparison target) = on_zero comparison target vs
    does p vs (IfBoth comparison target) = on_both comparison target vs
    does p vs (IfNull wanted target) = on_null wanted target vs
    does p vs (Go target) = goes _
    does p vs (Switch default low targets) = switches default low targets vs
    does p vs (Return sort) = returns vs m.callers
    does p vs (Read class field) = reads field vs
    does p vs (Write class field) = writes field vs
    does p vs (Make class) = went _ _ tt
    does p vs (Call calling class method) = calls p calling class method vs
    does p vs (Use b) = uses vs b

  module _ (p : Program) (m : Machine) where
    tested_does : (a : Action) (n : ℕ) (o : Option BadKind) → DoesOne roles me (λ q. tested p q m me a n o)
    tested_does a n (Some found) = over _
    tested_does a n None = does m (below n m.frame.operands) p (on_top n m.frame.operands) a

    act_does : (a : Action) → DoesOne roles me (λ q. act p q m me a)
    unfolding act
    act_does a = tested_does a (length (needs p m a).takes) (wrong p (needs p m a) m)

    act_some_does : (o : Option Action) → DoesOne roles me (λ q. act_some p q m me o)
    act_some_does None = over _
    act_some_does (Some a) = act_does a

    act_at_does : (o : Option Instr) → DoesOne roles me (λ q. act_at p q m me o)
    act_at_does None = over _
    act_at_does (Some i) = act_some_does (action i.op i.args)

    pub does_one : DoesOne roles me (step p me m)
    does_one = act_at_does (slice_get (code_in (method_of_frame p m.frame)) m.frame.place)
