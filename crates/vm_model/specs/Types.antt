-- Descriptors (JVMS 4.3): the types of fields, parameters and results.
use Rattle.std.specs.Prelude.{◌≡◌, ◌≢◌, ℕ, List, [], ◌∷◌, ◌++◌, Bool, not, ◌||◌, Option, Some, None, if◌then◌else◌, ◌==◌, codes}
use Rattle.std.specs.List.{fold, flat_map, AllByRecursion}
use Rattle.std.specs.Str.{bytes_eq}
use Rattle.mg_text.specs.Call.{Name}

pub data FieldType : Type 0 where
  Int : FieldType
  Truth : FieldType
  -- a class
  Named : Name → FieldType
  -- the array of texts that `main` takes
  Texts : FieldType

-- what a method takes, and what it answers, where it answers something
pub record Signature : Type 0 where
  pub params : List FieldType
  pub result : Option FieldType

abbrev pub type_text : FieldType → List ℕ
type_text Int = codes "I"
type_text Truth = codes "Z"
type_text (Named name) = codes "L" ++ (name ++ codes ";")
type_text Texts = codes "[Ljava/lang/String;"

abbrev pub result_text : Option FieldType → List ℕ
result_text None = codes "V"
result_text (Some type) = type_text type

-- all the types of a signature, the result's last
abbrev pub result_types : Option FieldType → List FieldType
result_types None = []
result_types (Some type) = type ∷ []

abbrev pub types_of_signature : Signature → List FieldType
types_of_signature s = s.params ++ result_types s.result

-- the descriptor of a method
abbrev pub signature_text : Signature → List ℕ
signature_text s = codes "(" ++ (flat_map type_text s.params ++ (codes ")" ++ result_text s.result))

-- no semicolon stands in a class's name, and the array is `main`'s alone
abbrev pub IsPlain : FieldType → Type 0
IsPlain (Named name) = AllByRecursion (λ b. b ≢ 59) name
IsPlain Texts = ⊥
IsPlain _ = Unit {0}

abbrev pub IsPlainResult : Option FieldType → Type 0
IsPlainResult None = Unit {0}
IsPlainResult (Some type) = IsPlain type

abbrev pub main_signature : Signature
main_signature = record { params = Texts ∷ []; result = None }

-- this is the descriptor of a field of this type
pub data IsFieldDescriptor (descriptor : Name) (type : FieldType) : Type 0 where
  plain : IsPlain type → descriptor ≡ type_text type → IsFieldDescriptor descriptor type

-- this is the descriptor of a method of this signature; the array stands in that of `main` alone
pub data IsMethodDescriptor (descriptor : Name) (signature : Signature) : Type 0 where
  plain : AllByRecursion IsPlain signature.params → IsPlainResult signature.result → descriptor ≡ signature_text signature →
      IsMethodDescriptor descriptor signature
  main : signature ≡ main_signature → descriptor ≡ signature_text main_signature → IsMethodDescriptor descriptor signature

-- A descriptor is read from left to right. `IsFieldDescriptor` and `IsMethodDescriptor` say what comes out.
pub data Reading : Type 0 where
  Begins : Reading
  -- the parameters read so far, and the name in the middle of which the reading stands
  Params : List FieldType → Reading
  ParamName : List FieldType → Name → Reading
  Result : List FieldType → Reading
  ResultName : List FieldType → Name → Reading
  Whole : Signature → Reading
  Wrong : Reading

abbrev pub read_begin : ℕ → Reading
read_begin b = if b == 40 then Params [] else Wrong

abbrev pub read_param : List FieldType → ℕ → Reading
read_param params b =
    if b == 41 then Result params
    else if b == 73 then Params (params ++ Int ∷ [])
    else if b == 90 then Params (params ++ Truth ∷ [])
    else if b == 76 then ParamName params []
    else Wrong

abbrev pub read_param_name : List FieldType → Name → ℕ → Reading
read_param_name params name b = if b == 59 then Params (params ++ Named name ∷ []) else ParamName params (name ++ b ∷ [])

abbrev pub whole : List FieldType → Option FieldType → Reading
whole params result = Whole (record { params = params; result = result })

abbrev pub read_result : List FieldType → ℕ → Reading
read_result params b =
    if b == 86 then whole params None
    else if b == 73 then whole params (Some Int)
    else if b == 90 then whole params (Some Truth)
    else if b == 76 then ResultName params []
    else Wrong

abbrev pub read_result_name : List FieldType → Name → ℕ → Reading
read_result_name params name b = if b == 59 then whole params (Some (Named name)) else ResultName params (name ++ b ∷ [])

abbrev pub reads : Reading → ℕ → Reading
reads Begins b = read_begin b
reads (Params params) b = read_param params b
reads (ParamName params name) b = read_param_name params name b
reads (Result params) b = read_result params b
reads (ResultName params name) b = read_result_name params name b
reads (Whole signature) b = Wrong
reads Wrong b = Wrong

abbrev pub signature_in : Reading → Option Signature
signature_in (Whole signature) = Some signature
signature_in _ = None

-- the array of texts stands in the descriptor of a `main` alone
abbrev pub is_main_alone : Name → Name → Bool
is_main_alone name descriptor = not (bytes_eq descriptor (codes "([Ljava/lang/String;)V")) || bytes_eq name (codes "main")

-- the signature of a method of this descriptor
unfoldable pub signature_of : Name → Option Signature
signature_of descriptor =
    if bytes_eq descriptor (codes "([Ljava/lang/String;)V") then Some main_signature else signature_in (fold reads Begins descriptor)

abbrev pub result_in : Option Signature → Option FieldType
result_in None = None
result_in (Some s) = s.result

-- the type of a field of this descriptor
unfoldable pub type_of : Name → Option FieldType
type_of descriptor = result_in (signature_in (fold reads (Result []) descriptor))
