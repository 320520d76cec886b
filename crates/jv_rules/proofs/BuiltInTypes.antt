-- A method that every program has is called by its name, with what it takes and gives.
use Rattle.std.proofs.Common.{◌≡◌, Bool, true, false, cond, List, [], ◌∷◌, map, Option, Some, option_map, refl, ap, ◌∙◌}
use Rattle.std.specs.List.{find}
use Rattle.std.specs.Str.{bytes_eq}
use Rattle.mg_text.specs.Call.{Name}
use Rattle.jv_tree.specs.declared.built_in.SessionCall.{SessionCall}
use Rattle.jv_tree.specs.BuiltIn.{PlainMethod, session_method, session_calls, session_named, text_method, text_calls, text_named}
use Rattle.jv_tree.proofs.BuiltInLaws.{named_itself}
use Rattle.jv_rules.specs.Types.{Signature}
use Rattle.jv_rules.specs.Typing.{built_in, session_methods, text_methods, plain_signature, signed}

signed_among : {C : Type 0} (of : C → PlainMethod) (cs : List C) (name : Name) →
    built_in (map (λ c. signed (of c)) cs) name ≡ option_map (λ c. plain_signature (of c)) (find (λ c. bytes_eq (of c).name name) cs)
signed_among of [] name = refl
signed_among {C} of (c ∷ cs) name = go (bytes_eq (of c).name name) (signed_among of cs name)
  where
    others : Option (Name × Signature)
    others = find (λ m. bytes_eq m.0 name) (map (λ c. signed (of c)) cs)

    found : Option C
    found = find (λ c. bytes_eq (of c).name name) cs

    go : (b : Bool) → option_map (λ (m : Name × Signature). m.1) others ≡ option_map (λ c. plain_signature (of c)) found →
        option_map (λ (m : Name × Signature). m.1) (cond b (Some (signed (of c))) others)
        ≡ option_map (λ c. plain_signature (of c)) (cond b (Some c) found)
    go true rest = refl
    go false rest = rest

pub session_signed : (name : Name) →
    built_in session_methods name ≡ option_map (λ c. plain_signature (session_method c)) (session_named name)
session_signed name = signed_among session_method session_calls name

pub text_signed : (name : Name) → built_in text_methods name ≡ option_map (λ c. plain_signature (text_method c)) (text_named name)
text_signed name = signed_among text_method text_calls name

pub session_typed : (c : SessionCall) → built_in session_methods (session_method c).name ≡ Some (plain_signature (session_method c))
session_typed c =
    session_signed (session_method c).name ∙ ap (option_map (λ c. plain_signature (session_method c))) (named_itself c)
