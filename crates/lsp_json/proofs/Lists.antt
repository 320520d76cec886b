-- Lists of values that are read, element by element.
use Rattle.std.proofs.Common.{◌≡◌, ℕ, ◌+◌, ◌<◌, ◌≤◌, List, [], ◌∷◌, ◌++◌, map, length, get_or, drop, Bool, true, false, ◌||◌, Option}
use Rattle.std.proofs.Common.{Some, None, option_map, refl, sym, ap, ◌∙◌, append_assoc}
use Rattle.std.proofs.lemmas.List.{append-nil, map_push, drop_more, drop_all}
use Rattle.lsp_text.specs.declared.changes.Change.{Change}
use Rattle.serde_json.specs.Data.{Items, item, no_items}
use Rattle.serde_json.specs.Find.{as_str}
use Rattle.serde_json.specs.View.{view, items_view}
use Rattle.serde_json.specs.declared.value.Value.{Value}
use Rattle.lsp_json.specs.Fields.{both}
use Rattle.lsp_json.specs.Heard.{Edit, edit}
use Rattle.lsp_json.specs.Reading.{has_text, is_text, edit_of, edits_of}

-- the values that are left begin with this one
pub next_value : {B : Type 0} (f : Items → B) (xs : List Value) (i : ℕ) (x : Value) → i < length xs → x ≡ get_or xs i x →
    f (items_view (drop i xs)) ≡ f (item (view x) (items_view (drop (i + 1) xs)))
next_value f xs i x less is =
    ap (λ (vs : List Value). f (items_view vs)) (drop_more xs i x less ∙ ap (λ (y : Value). y ∷ drop (i + 1) xs) (sym is))

pub no_value : {B : Type 0} (f : Items → B) (xs : List Value) (i : ℕ) → length xs ≤ i → f (items_view (drop i xs)) ≡ f no_items
no_value f xs i over = ap (λ (vs : List Value). f (items_view vs)) (drop_all i xs over)

-- one of the values that are left is the text
pub text_here : (text : List ℕ) (xs : List Value) (i : ℕ) (x : Value) → i < length xs → x ≡ get_or xs i x → is_text text (as_str (view x)) ≡ true →
    has_text text (items_view (drop i xs)) ≡ true
text_here text xs i x less is here =
    next_value (has_text text) xs i x less is ∙ ap (λ (b : Bool). b || has_text text (items_view (drop (i + 1) xs))) here

pub text_later : (text : List ℕ) (xs : List Value) (i : ℕ) (x : Value) → i < length xs → x ≡ get_or xs i x → is_text text (as_str (view x)) ≡ false →
    has_text text (items_view (drop i xs)) ≡ has_text text (items_view (drop (i + 1) xs))
text_later text xs i x less is other =
    next_value (has_text text) xs i x less is ∙ ap (λ (b : Bool). b || has_text text (items_view (drop (i + 1) xs))) other

-- what is read so far, before what the rest gives
abbrev pub before : List Edit → Option (List Edit) → Option (List Edit)
before xs o = option_map (λ ys. xs ++ ys) o

pub before_nothing : (o : Option (List Edit)) → before [] o ≡ o
before_nothing None = refl
before_nothing (Some ys) = refl

before_more : (xs : List Edit) (x : Edit) (o : Option (List Edit)) → before (xs ++ x ∷ []) o ≡ before xs (both (λ e es. e ∷ es) (Some x) o)
before_more xs x None = refl
before_more xs x (Some ys) = ap Some (append_assoc xs (x ∷ []) ys)

-- one change more
pub edits_more : (cs ds : List Change) (change : Change) (vs : List Value) (i : ℕ) (x : Value) → i < length vs → x ≡ get_or vs i x →
    Some (edit change) ≡ edit_of (view x) → ds ≡ cs ++ change ∷ [] →
    before (map edit ds) (edits_of (items_view (drop (i + 1) vs))) ≡ before (map edit cs) (edits_of (items_view (drop i vs)))
edits_more cs ds change vs i x less is read pushed =
    let rest : Option (List Edit) = edits_of (items_view (drop (i + 1) vs)) in
    ap (λ (es : List Edit). before es rest) (ap (map edit) pushed ∙ map_push edit cs change)
    ∙ before_more (map edit cs) (edit change) rest
    ∙ ap (λ (o : Option Edit). before (map edit cs) (both (λ e es. e ∷ es) o rest)) read
    ∙ ap (before (map edit cs)) (sym (next_value edits_of vs i x less is))

-- a change that can't be read makes all of them unreadable
pub edits_none : (cs : List Change) (vs : List Value) (i : ℕ) (x : Value) → i < length vs → x ≡ get_or vs i x → None ≡ edit_of (view x) →
    before (map edit cs) (edits_of (items_view (drop i vs))) ≡ None
edits_none cs vs i x less is unread =
    ap (before (map edit cs)) (next_value edits_of vs i x less is
    ∙ ap (λ (o : Option Edit). both (λ e es. e ∷ es) o (edits_of (items_view (drop (i + 1) vs)))) (sym unread))

-- all of them
pub edits_whole : (cs : List Change) (vs : List Value) (i : ℕ) → length vs ≤ i →
    before (map edit cs) (edits_of (items_view (drop i vs))) ≡ Some (map edit cs)
edits_whole cs vs i over = ap (before (map edit cs)) (no_value edits_of vs i over) ∙ ap Some (append-nil (map edit cs))
