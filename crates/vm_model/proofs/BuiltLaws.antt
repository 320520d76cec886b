-- Each member of a built-in class takes and gives what its descriptor says.
use Rattle.std.proofs.Common.{[], ◌∷◌, Some, None, List, Option, refl}
use Rattle.vm_model.specs.declared.linked.Built.TheVariants as built
use Rattle.vm_model.specs.BuiltIns.{string_class, object_class, print_stream_class}
use Rattle.vm_model.specs.BuiltLaws.{MembersDoAsDescribed, method, field}
use Rattle.vm_model.specs.Types.{FieldType, Int, Truth, Named, Signature, signature_of, type_of}

abbrev text : FieldType
text = Named string_class

abbrev signature : List FieldType → Option FieldType → Signature
signature params result = record { params = params; result = result }

pub members_do : MembersDoAsDescribed
unfolding signature_of type_of
members_do built.Out = field (Named print_stream_class) refl (λ p m. refl)
members_do built.Init = method (signature [] None) refl (λ p m. refl)
members_do built.Concat = method (signature (text ∷ []) (Some text)) refl (λ p m. refl)
members_do built.Equals = method (signature (Named object_class ∷ []) (Some Truth)) refl (λ p m. refl)
members_do built.ValueOfInt = method (signature (Int ∷ []) (Some text)) refl (λ p m. refl)
members_do built.ValueOfTruth = method (signature (Truth ∷ []) (Some text)) refl (λ p m. refl)
members_do built.Println = method (signature (text ∷ []) None) refl (λ p m. refl)
members_do built.Send = method (signature (text ∷ text ∷ []) None) refl (λ p m. refl)
members_do built.SendInt = method (signature (text ∷ text ∷ Int ∷ []) None) refl (λ p m. refl)
members_do built.SendTruth = method (signature (text ∷ text ∷ Truth ∷ []) None) refl (λ p m. refl)
members_do built.SendText = method (signature (text ∷ text ∷ text ∷ []) None) refl (λ p m. refl)
members_do built.Look = method (signature (text ∷ []) (Some text)) refl (λ p m. refl)
members_do built.Take = method (signature (text ∷ text ∷ []) None) refl (λ p m. refl)
members_do built.TakeInt = method (signature (text ∷ text ∷ []) (Some Int)) refl (λ p m. refl)
members_do built.TakeTruth = method (signature (text ∷ text ∷ []) (Some Truth)) refl (λ p m. refl)
members_do built.TakeText = method (signature (text ∷ text ∷ []) (Some text)) refl (λ p m. refl)
members_do built.Refuse = method (signature (text ∷ text ∷ []) None) refl (λ p m. refl)
