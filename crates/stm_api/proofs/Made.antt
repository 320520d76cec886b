-- Methods and enums of the doing at an index, and of those behind it.
use Rattle.std.proofs.Common.{◌≡◌, ℕ, ◌+◌, ◌<◌, ◌≤◌, Bool, get_or, drop, length, map, List, [], ◌∷◌, ◌++◌, position, refl, sym, ap, subst}
use Rattle.std.proofs.Common.{◌∙◌, append_assoc}
use Rattle.std.specs.Prelude.{is_some}
use Rattle.std.specs.Str.{bytes_eq}
use Rattle.std.proofs.lemmas.List.{append-nil, at_drop_more, at_drop_all}
use Rattle.std.proofs.lemmas.Grind.{common_steps}
use Rattle.mg_text.specs.Call.{Name}
use Rattle.mg_text.specs.declared.place.Place.{Place}
use Rattle.scr_tree.specs.declared.syntax.Direction.{Direction}
use Rattle.scr_tree.specs.declared.syntax.Direction.TheVariants as directions
use Rattle.scr_tree.specs.declared.syntax.Payload.{Payload}
use Rattle.scr_tree.specs.CallNames.{message_call}
use Rattle.scr_tree.specs.Meaning.{towards}
use Rattle.ts_tree.specs.declared.parts.TypeName.TheVariants as types
use Rattle.stm_gen.specs.Laid.{carried_type, carried_params}
use Rattle.stm_api.specs.declared.doings.Doing.{Doing as Kept}
use Rattle.stm_api.specs.Doings.{call_of}
use Rattle.stm_api.specs.Api.{enum_of, enum_files, message_method, method_with, value_param, send_body, take_body}
use Rattle.stm_api.specs.inner.Does.{first_before, firsts_of}
use Rattle.stm_api.specs.inner.View.{doing_of}

pub firsts-step : (me : Name) (seen : List Name) (ds : List Kept) (i : ℕ) (x : Kept) → i < length ds → x ≡ get_or ds i x →
    firsts_of me seen (map doing_of (drop i ds))
    ≡ first_before (is_some (position (bytes_eq (call_of me (doing_of x))) seen)) (doing_of x)
    (firsts_of me seen (map doing_of (drop (i + 1) ds)))
    (firsts_of me (seen ++ call_of me (doing_of x) ∷ []) (map doing_of (drop (i + 1) ds)))
firsts-step me seen ds i x within is =
    at_drop_more (λ l. firsts_of me seen (map doing_of l)) ds i x within
    ∙ ap (λ y. firsts_of me seen (doing_of y ∷ map doing_of (drop (i + 1) ds))) (sym is)

pub firsts-past : (me : Name) (seen : List Name) (ds : List Kept) (i : ℕ) → length ds ≤ i → firsts_of me seen (map doing_of (drop i ds)) ≡
    []
firsts-past me seen ds i h = at_drop_all (λ l. firsts_of me seen (map doing_of l)) ds i h

pub enums-step : (p : Place) (me : Name) (ds : List Kept) (i : ℕ) (x : Kept) → i < length ds → x ≡ get_or ds i x →
    enum_files p me (map doing_of (drop i ds)) ≡ enum_of p me (doing_of x) ++ enum_files p me (map doing_of (drop (i + 1) ds))
enums-step p me ds i x within is =
    at_drop_more (λ l. enum_files p me (map doing_of l)) ds i x within
    ∙ ap (λ y. enum_of p me (doing_of y) ++ enum_files p me (map doing_of (drop (i + 1) ds))) (sym is)

pub enums-past : (p : Place) (me : Name) (ds : List Kept) (i : ℕ) → length ds ≤ i → enum_files p me (map doing_of (drop i ds)) ≡ []
enums-past p me ds i h = at_drop_all (λ l. enum_files p me (map doing_of l)) ds i h

-- a message that is sent, and one that is taken
pub sent-method : (p : Place) (d : Direction) (peer label : Name) (kind : Payload) → d ≡ directions.To →
    message_method p (towards d peer label kind) ≡ method_with p types.Void (message_call (towards d peer label kind))
    (map (value_param p) (carried_params kind)) (send_body p peer label kind)
sent-method p d peer label kind e =
    subst (λ d. message_method p (towards d peer label kind) ≡ method_with p types.Void (message_call (towards d peer label kind))
    (map (value_param p) (carried_params kind)) (send_body p peer label kind)) (sym e) refl

pub taken-method : (p : Place) (d : Direction) (peer label : Name) (kind : Payload) → d ≡ directions.From →
    message_method p (towards d peer label kind) ≡ method_with p (carried_type kind) (message_call (towards d peer label kind)) []
    (take_body p peer label kind)
taken-method p d peer label kind e =
    subst (λ d. message_method p (towards d peer label kind) ≡ method_with p (carried_type kind) (message_call (towards d peer label kind))
    [] (take_body p peer label kind)) (sym e) refl

pub ruleset messages = (common_steps, sent-method, taken-method)

pub ruleset method_steps = (common_steps, firsts-step, firsts-past, append_assoc, append-nil)

pub ruleset enum_steps = (common_steps, enums-step, enums-past, append_assoc, append-nil)
