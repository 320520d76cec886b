-- The methods that every program has, as sources know them: their names, what they take and what they give.
use Rattle.std.specs.Prelude.{List, [], ◌∷◌, Option, codes}
use Rattle.std.specs.List.{find}
use Rattle.std.specs.Str.{bytes_eq}
use Rattle.mg_text.specs.Call.{Name}
use Rattle.jv_tree.specs.declared.built_in.PlainMethod.{PlainMethod as KeptMethod}
use Rattle.jv_tree.specs.declared.built_in.PlainType.{PlainType}
use Rattle.jv_tree.specs.declared.built_in.PlainType.TheVariants.{Void, Int, Boolean, Text}
use Rattle.jv_tree.specs.declared.built_in.SessionCall.{SessionCall}
use Rattle.jv_tree.specs.declared.built_in.SessionCall.TheVariants as calls
use Rattle.jv_tree.specs.declared.built_in.TextCall.{TextCall}
use Rattle.jv_tree.specs.declared.built_in.TextCall.TheVariants as texts

pub record PlainMethod : Type 0 where
  pub name : Name
  pub params : List PlainType
  pub result : PlainType

abbrev pub method : Name → List PlainType → PlainType → PlainMethod
method name params result = record { name = name; params = params; result = result }

-- The one table of these methods: those of the class `Session`,
abbrev pub session_method : SessionCall → PlainMethod
session_method calls.Send = method (codes "send") (Text ∷ Text ∷ []) Void
session_method calls.SendInt = method (codes "sendInt") (Text ∷ Text ∷ Int ∷ []) Void
session_method calls.SendBoolean = method (codes "sendBoolean") (Text ∷ Text ∷ Boolean ∷ []) Void
session_method calls.SendString = method (codes "sendString") (Text ∷ Text ∷ Text ∷ []) Void
session_method calls.Look = method (codes "look") (Text ∷ []) Text
session_method calls.Take = method (codes "take") (Text ∷ Text ∷ []) Void
session_method calls.TakeInt = method (codes "takeInt") (Text ∷ Text ∷ []) Int
session_method calls.TakeBoolean = method (codes "takeBoolean") (Text ∷ Text ∷ []) Boolean
session_method calls.TakeString = method (codes "takeString") (Text ∷ Text ∷ []) Text
session_method calls.Refuse = method (codes "refuse") (Text ∷ Text ∷ []) Void

-- and those of texts.
abbrev pub text_method : TextCall → PlainMethod
text_method texts.Equals = method (codes "equals") (Text ∷ []) Boolean
text_method texts.Concat = method (codes "concat") (Text ∷ []) Text

abbrev pub session_calls : List SessionCall
session_calls =
    calls.Send ∷ calls.SendInt ∷ calls.SendBoolean ∷ calls.SendString ∷ calls.Look ∷ calls.Take ∷ calls.TakeInt ∷ calls.TakeBoolean
    ∷ calls.TakeString ∷ calls.Refuse ∷ []

abbrev pub text_calls : List TextCall
text_calls = texts.Equals ∷ texts.Concat ∷ []

-- the method of this name
abbrev pub session_named : Name → Option SessionCall
session_named name = find (λ c. bytes_eq (session_method c).name name) session_calls

abbrev pub text_named : Name → Option TextCall
text_named name = find (λ c. bytes_eq (text_method c).name name) text_calls

-- the row that code has
abbrev pub method_seen : KeptMethod → PlainMethod
method_seen m = record { name = m.name.now; params = m.params.now; result = m.result }
