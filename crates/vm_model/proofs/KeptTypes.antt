-- Kept types say what the descriptor says.
use Rattle.std.proofs.Common.{◌≡◌, List, [], ◌∷◌, map, Option, Some, None, option_map, refl, ap, ◌∙◌}
use Rattle.vm_model.specs.declared.linked_type.LinkedType.{LinkedType}
use Rattle.vm_model.specs.Types.{FieldType, Int, Truth, Named, Texts, Signature, signature_of, result_in}
use Rattle.vm_model.specs.Kept.{kept_type, type_kept, kept_params, kept_result}
use Rattle.vm_model.specs.Tests.{params_in}

pub type_is : (t : FieldType) → type_kept (kept_type t) ≡ t
type_is Int = refl
type_is Truth = refl
type_is (Named name) = refl
type_is Texts = refl

types_are : (ts : List FieldType) → map type_kept (map kept_type ts) ≡ ts
types_are [] = refl
types_are (t ∷ ts) = ap (λ x. x ∷ map type_kept (map kept_type ts)) (type_is t) ∙ ap (λ l. t ∷ l) (types_are ts)

option_is : (t : Option FieldType) → option_map type_kept (option_map kept_type t) ≡ t
option_is None = refl
option_is (Some t) = ap Some (type_is t)

params_of : (s : Option Signature) → map type_kept (kept_params s) ≡ params_in s
params_of None = refl
params_of (Some s) = types_are s.params

-- the types of a method's parameters, of its result, and of a field
pub params_are : (kept : List LinkedType) (s : Option Signature) → kept ≡ kept_params s → map type_kept kept ≡ params_in s
params_are kept s e = ap (map type_kept) e ∙ params_of s

pub result_is : (kept : Option LinkedType) (s : Option Signature) → kept ≡ kept_result s → option_map type_kept kept ≡ result_in s
result_is kept s e = ap (option_map type_kept) e ∙ option_is (result_in s)

pub field_is : (kept : Option LinkedType) (t : Option FieldType) → kept ≡ option_map kept_type t → option_map type_kept kept ≡ t
field_is kept t e = ap (option_map type_kept) e ∙ option_is t

-- what isn't there takes nothing and answers nothing
pub no_params : params_in (signature_of []) ≡ []
unfolding signature_of
no_params = refl

pub no_result : result_in (signature_of []) ≡ None
unfolding signature_of
no_result = refl
