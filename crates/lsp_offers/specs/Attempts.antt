-- The calls that are tried where a method is being typed.
use Rattle.std.specs.Prelude.{List, [], ◌∷◌, ◌++◌, Bool, true, false, filter}
use Rattle.std.specs.List.{flat_map, list_all}
use Rattle.ts_tree.specs.declared.parts.TypeName.{TypeName}
use Rattle.ts_tree.specs.declared.parts.TypeName.TheVariants as types
use Rattle.ts_tree.specs.Typestate.{Method, Typestate}
use Rattle.lsp_offers.specs.declared.firsts.By.TheVariants as bys
use Rattle.lsp_offers.specs.declared.attempts.Form.TheVariants as forms
use Rattle.lsp_offers.specs.declared.attempts.Attempt.{Attempt}
use Rattle.lsp_offers.specs.Calls.{plain_call}
use Rattle.lsp_offers.specs.Firsts.{firsts}

-- a call as a statement, and then as a value
abbrev pub forms_of : Method → List Attempt
forms_of m = record { form = forms.Statement; call = plain_call m } ∷ record { form = forms.Value; call = plain_call m } ∷ []

-- a type of which every program can write a value: null is none of an enum
abbrev pub is_plain_type : TypeName → Bool
is_plain_type types.Void = true
is_plain_type types.Int = true
is_plain_type types.Boolean = true
is_plain_type types.Text = true
is_plain_type (types.Named name) = false

abbrev pub is_plain : Method → Bool
is_plain m = list_all is_plain_type m.params

-- those that take plain values stand before all
abbrev pub plain_first : Typestate → List Method
plain_first t = flat_map (λ s. filter is_plain s.methods) t.states ++ flat_map (λ s. s.methods) t.states

-- of a typestate: for each result type that its methods have the first method with that result
abbrev pub attempts_of : Typestate → List Attempt
attempts_of t = flat_map forms_of (firsts bys.Result (plain_first t))

-- what stands there
abbrev pub standing : Attempt
standing = record { form = forms.Standing; call = [] }

-- First the call that stands there already, if one does, and then those of each typestate.
abbrev pub attempts : List Typestate → List Attempt
attempts ts = standing ∷ flat_map attempts_of ts
