-- What instructions and members of built-in classes take and give, where they do nothing else to the kinds that they find.
use Rattle.std.specs.Prelude.{ℕ, List, [], ◌∷◌, ⊤}
use Rattle.vm_model.specs.declared.linked.Built.{Built}
use Rattle.vm_model.specs.declared.linked.Built.TheVariants as built
use Rattle.vm_actions.specs.declared.action.Sort.TheVariants as sorts
use Rattle.vm_actions.specs.declared.action.Constant.{Constant}
use Rattle.vm_actions.specs.declared.action.Constant.TheVariants as constants
use Rattle.vm_actions.specs.declared.action.Plain.{Plain}
use Rattle.vm_actions.specs.declared.action.Plain.TheVariants as plains
use Rattle.cls_kinds.specs.declared.kind.Kind.{Kind}
use Rattle.cls_rows.specs.declared.want.Want.{Want}
use Rattle.cls_rows.specs.declared.want.Want.TheVariants as wants

abbrev pub kind_number : ℕ → Kind
kind_number n = record { 0 = n }

abbrev pub int_want : Want
int_want = wants.Sorted sorts.Number

abbrev pub text_want : Want
text_want = wants.Of (kind_number 1)

abbrev pub object_want : Want
object_want = wants.Of (kind_number 4)

abbrev pub stream_want : Want
stream_want = wants.Of (kind_number 5)

-- members of built-in classes
abbrev pub built_wants : Built → List Want
built_wants built.Init = object_want ∷ []
built_wants built.Concat = text_want ∷ text_want ∷ []
built_wants built.Equals = text_want ∷ object_want ∷ []
built_wants built.ValueOfInt = int_want ∷ []
built_wants built.ValueOfTruth = int_want ∷ []
built_wants built.Out = []
built_wants built.Println = stream_want ∷ text_want ∷ []
built_wants built.Send = text_want ∷ text_want ∷ []
built_wants built.SendInt = text_want ∷ text_want ∷ int_want ∷ []
built_wants built.SendTruth = text_want ∷ text_want ∷ int_want ∷ []
built_wants built.SendText = text_want ∷ text_want ∷ text_want ∷ []
built_wants built.Look = text_want ∷ []
built_wants built.Take = text_want ∷ text_want ∷ []
built_wants built.TakeInt = text_want ∷ text_want ∷ []
built_wants built.TakeTruth = text_want ∷ text_want ∷ []
built_wants built.TakeText = text_want ∷ text_want ∷ []
built_wants built.Refuse = text_want ∷ text_want ∷ []

abbrev pub built_kinds : Built → List Kind
built_kinds built.Init = []
built_kinds built.Concat = kind_number 1 ∷ []
built_kinds built.Equals = kind_number 0 ∷ []
built_kinds built.ValueOfInt = kind_number 1 ∷ []
built_kinds built.ValueOfTruth = kind_number 1 ∷ []
built_kinds built.Out = kind_number 5 ∷ []
built_kinds built.Println = []
built_kinds built.Send = []
built_kinds built.SendInt = []
built_kinds built.SendTruth = []
built_kinds built.SendText = []
built_kinds built.Look = kind_number 1 ∷ []
built_kinds built.Take = []
built_kinds built.TakeInt = kind_number 0 ∷ []
built_kinds built.TakeTruth = kind_number 0 ∷ []
built_kinds built.TakeText = kind_number 1 ∷ []
built_kinds built.Refuse = []

abbrev pub constant_kind : Constant → Kind
constant_kind (constants.Int number) = kind_number 0
constant_kind (constants.Text text) = kind_number 1
constant_kind constants.Null = kind_number 2

-- instructions that stay in their frame
abbrev pub plain_wants : Plain → List Want
plain_wants (plains.Push constant) = []
plain_wants (plains.Load sort local) = []
plain_wants (plains.Store sort local) = []
plain_wants plains.Pop = wants.Any ∷ []
plain_wants plains.Double = []
plain_wants plains.Swap = []
plain_wants (plains.Compute operation) = int_want ∷ int_want ∷ []
plain_wants plains.Negate = int_want ∷ []
plain_wants (plains.Increase local by) = []
plain_wants (plains.IfZero comparison target) = int_want ∷ []
plain_wants (plains.IfBoth comparison target) = int_want ∷ int_want ∷ []
plain_wants (plains.IfNull wanted target) = wants.Sorted sorts.Reference ∷ []
plain_wants (plains.Go target) = []
plain_wants (plains.Switch default low targets) = int_want ∷ []

abbrev pub plain_kinds : Plain → List Kind
plain_kinds (plains.Push constant) = constant_kind constant ∷ []
plain_kinds (plains.Load sort local) = []
plain_kinds (plains.Store sort local) = []
plain_kinds plains.Pop = []
plain_kinds plains.Double = []
plain_kinds plains.Swap = []
plain_kinds (plains.Compute operation) = kind_number 0 ∷ []
plain_kinds plains.Negate = kind_number 0 ∷ []
plain_kinds (plains.Increase local by) = []
plain_kinds (plains.IfZero comparison target) = []
plain_kinds (plains.IfBoth comparison target) = []
plain_kinds (plains.IfNull wanted target) = []
plain_kinds (plains.Go target) = []
plain_kinds (plains.Switch default low targets) = []

-- the instruction does nothing else
abbrev pub IsTrade : Plain → Type 0
IsTrade (plains.Push constant) = ⊤
IsTrade (plains.Load sort local) = ⊥
IsTrade (plains.Store sort local) = ⊥
IsTrade plains.Pop = ⊤
IsTrade plains.Double = ⊥
IsTrade plains.Swap = ⊥
IsTrade (plains.Compute operation) = ⊤
IsTrade plains.Negate = ⊤
IsTrade (plains.Increase local by) = ⊥
IsTrade (plains.IfZero comparison target) = ⊤
IsTrade (plains.IfBoth comparison target) = ⊤
IsTrade (plains.IfNull wanted target) = ⊤
IsTrade (plains.Go target) = ⊥
IsTrade (plains.Switch default low targets) = ⊤
