-- A program has one fault of its types: each condition has one culprit at each element that it is judged at.
use Rattle.std.proofs.Common.{◌≡◌, ℕ, false, List, [], Option, Some, None, sym, ap, ◌∙◌}
use Rattle.mg_read.specs.Culprit.{Culprit, culprit}
use Rattle.mg_read.specs.FirstLaws.{IsSingle}
use Rattle.mg_read.proofs.Judging.{one_answer, one_first}
use Rattle.ts_tree.specs.declared.parts.TypeName.TheVariants as written
use Rattle.jv_tree.specs.Source.{This, Variable, Member, Call, MethodCall, Local}
use Rattle.jv_rules.specs.declared.condition.Condition.{Condition}
use Rattle.jv_rules.specs.declared.condition.Condition.TheVariants as conditions
use Rattle.jv_rules.specs.Program.{Program}
use Rattle.jv_rules.specs.Members.{Written, Made, ClassMember, OfField, OfMethod}
use Rattle.jv_rules.specs.Declarations as declared
use Rattle.jv_rules.specs.Spots.{Value, Receiver, Qualifier, Spot, AtNode, AtStatement, AtParameter, AtEnd}
use Rattle.jv_rules.specs.Taking.{Takes, Lacks}
use Rattle.jv_rules.specs.Conditions.{BreakAt, ContinueAt, LoopAt, CaseAt}
use Rattle.jv_rules.specs.Conditions as says
use Rattle.jv_rules.specs.Faults.{Of, AtSpot, IsAtFault, IsFault, IsTableFault}
use Rattle.jv_rules.specs.Laws.{OneFault}

same_some : {A : Type 0} (x y : A) → Some x ≡ Some y → x ≡ y
same_some x y e = cc

-- Declarations.

one_unknown : (program : Program) → IsSingle (declared.UnknownClass program)
one_unknown program (Written p (written.Named name)) c d h k = h.0 ∙ sym k.0
one_unknown program (Made p name) c d h k = h.0 ∙ sym k.0
one_unknown program _ c d h k = absurd h

one_typestate : (program : Program) → IsSingle (declared.UnknownTypestate program)
one_typestate program class c d (x, is, h, none) (y, is', k, none') =
    let same : x ≡ y = same_some x y (sym is ∙ is') in
    h ∙ ap (culprit class.place) same ∙ sym k

-- a member of a class with this typestate
abbrev AtMember : Option (List ℕ) → ClassMember → Culprit → Type 0
AtMember typestate member c = elim member [
  | OfField f ↦ (c ≡ culprit f.place []) × (typestate ≡ None)
  | OfMethod m ↦ (c ≡ culprit m.place []) × (typestate ≡ None) × (m.is_static ≡ false)
]

one_member : (typestate : Option (List ℕ)) (member : ClassMember) (c d : Culprit) → AtMember typestate member c →
    AtMember typestate member d → c ≡ d
one_member typestate (OfField f) c d h k = h.0 ∙ sym k.0
one_member typestate (OfMethod m) c d h k = h.0 ∙ sym k.0

one_standing : IsSingle declared.InstanceInPlain
one_standing s c d h k = one_member s.typestate s.member c d h k

one_of : (program : Program) (origins : List ℕ) (k : Condition) (r s : Option Culprit) → Of program origins k r → Of program origins k s →
    r ≡ s
one_of program origins conditions.DuplicateName r s h k = one_answer (λ q c d h k. h.0 ∙ sym k.0) h k
one_of program origins conditions.DuplicateMember r s h k = one_answer (λ q c d h k. h.0 ∙ sym k.0) h k
one_of program origins conditions.UnknownClass r s h k = one_answer (one_unknown program) h k
one_of program origins conditions.UnknownTypestate r s h k = one_answer (one_typestate program) h k
one_of program origins conditions.MissingMethod r s h k = one_answer (λ q c d h k. h.0 ∙ sym k.0) h k
one_of program origins conditions.SignatureDiffers r s h k = one_answer (λ q c d h k. h.0 ∙ sym k.0) h k
one_of program origins conditions.LabelsDiffer r s h k = one_answer (λ q c d h k. h.0 ∙ sym k.0) h k
one_of program origins conditions.FieldNeedsValue r s h k = one_answer (λ q c d h k. h.0 ∙ sym k.0) h k
one_of program origins conditions.InstanceInPlain r s h k = one_answer one_standing h k
one_of program origins _ r s h k = h ∙ sym k

-- Methods.

one_name : IsSingle says.UnknownName
one_name (AtNode scope (Receiver p x)) c d h k = h.0 ∙ sym k.0
one_name (AtNode scope (Qualifier p x)) c d h k = h.0 ∙ sym k.0
one_name (AtNode scope (Value (Variable p x))) c d h k = h.0 ∙ sym k.0
one_name (AtNode scope (Value (Member p e name))) c d h k = h.0 ∙ sym k.0
one_name (AtNode scope (Value (Call p name args))) c d h k = h.0 ∙ sym k.0
one_name (AtNode scope (Value (MethodCall p e name args))) c d h k = h.0 ∙ sym k.0
one_name _ c d h k = absurd h

one_local : IsSingle says.DuplicateLocal
one_local (AtParameter scope p) c d h k = h.0 ∙ sym k.0
one_local (AtStatement scope (Local p ty name e)) c d h k = h.0 ∙ sym k.0
one_local _ c d h k = absurd h

one_mismatch : IsSingle says.TypeMismatch
one_mismatch (Takes scope t) c d h k = h.0 ∙ sym k.0
one_mismatch (Lacks p) c d h k = h ∙ sym k

one_arity : IsSingle says.Arity
one_arity (AtNode scope (Value (Call p name args))) c d h k = h.0 ∙ sym k.0
one_arity (AtNode scope (Value (MethodCall p e name args))) c d h k = h.0 ∙ sym k.0
one_arity _ c d h k = absurd h

one_label : IsSingle says.BadLabel
one_label (BreakAt scope p label) c d h k = h.0 ∙ sym k.0
one_label (ContinueAt scope p label) c d h k = h.0 ∙ sym k.0
one_label (LoopAt scope p None) c d h k = absurd h
one_label (LoopAt scope p (Some label)) c d h k = h.0 ∙ sym k.0
one_label (CaseAt scope p e (earlier, None)) c d h k = h.0 ∙ sym k.0
one_label (CaseAt scope p e (earlier, Some name)) c d h k = h.0 ∙ sym k.0

one_return : IsSingle says.MissingReturn
one_return (AtEnd m) c d h k = h.0 ∙ sym k.0
one_return _ c d h k = absurd h

one_own : IsSingle says.SelfCall
one_own (AtNode scope (Value (Call p name args))) c d h k = h.0 ∙ sym k.0
one_own (AtNode scope (Value (MethodCall p (This q) name args))) c d h k = h.0 ∙ sym k.0
one_own _ c d h k = absurd h

one_this : IsSingle says.ThisAsValue
one_this (AtNode scope (Value (This p))) c d h k = h ∙ sym k
one_this _ c d h k = absurd h

one_move : IsSingle says.ArgsMayMove
one_move (AtNode scope (Value (MethodCall p e name args))) c d (f, at, h, calls) (g, at', k, calls') =
    let same : f ≡ g = same_some f g (sym at ∙ at') in
    h ∙ ap (λ x. culprit p x.name) same ∙ sym k
one_move _ c d h k = absurd h

one_at : (spot : Spot) (k : Condition) (r s : Option Culprit) → AtSpot spot k r → AtSpot spot k s → r ≡ s
one_at spot conditions.UnknownName r s h k = one_answer one_name h k
one_at spot conditions.DuplicateLocal r s h k = one_answer one_local h k
one_at spot conditions.TypeMismatch r s h k = one_answer one_mismatch h k
one_at spot conditions.Arity r s h k = one_answer one_arity h k
one_at spot conditions.BadLabel r s h k = one_answer one_label h k
one_at spot conditions.MissingReturn r s h k = one_answer one_return h k
one_at spot conditions.SelfCall r s h k = one_answer one_own h k
one_at spot conditions.ThisAsValue r s h k = one_answer one_this h k
one_at spot conditions.ArgsMayMove r s h k = one_answer one_move h k
one_at spot _ r s h k = h ∙ sym k

one_at_spot : IsSingle IsAtFault
one_at_spot spot f g h k = same_some f g (one_first (one_at spot) h k)

pub one_table : (program : Program) (origins : List ℕ) (r s : Option (Condition × Culprit)) → IsTableFault program origins r →
    IsTableFault program origins s → r ≡ s
one_table program origins r s h k = one_first (one_of program origins) h k

pub one_in_methods : (program : Program) (r s : Option (Condition × Culprit)) → IsFault program r → IsFault program s → r ≡ s
one_in_methods program r s h k = one_answer one_at_spot h k

pub one_fault : OneFault
one_fault = record { declarations = one_table; methods = one_in_methods }
