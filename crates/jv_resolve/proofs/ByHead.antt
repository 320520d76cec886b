-- What members, receivers and first values are, by what stands before the `.`.
use Rattle.std.proofs.Common.{◌≡◌, Bool, true, false, List, [], Option, Some, None, refl, sym, ap, ◌∙◌, true≢false}
use Rattle.std.specs.Option.{option_map}
use Rattle.mg_text.specs.Call.{Name}
use Rattle.mg_text.specs.declared.place.Place.{Place}
use Rattle.jv_tree.specs.Source.{Expr, Int, Truth, Text, Null, This, Variable, Member, Neg, Not, Binary, Call, MethodCall, New, place_of}
use Rattle.jv_resolve_law.specs.Tables.{◌>>=◌, Tables}
use Rattle.jv_resolve_law.specs.Expressions.{Known, Standing, Resolved, OnThis, OnValue, found, own_found, variable_at, constant_at}
use Rattle.jv_resolve_law.specs.Expressions.{constant, member, named_receiver, receiver}
use Rattle.jv_resolve.specs.inner.Heads.{Head, ThisHead, NameHead, OtherHead, head_of}

-- a test of heads, to tell them apart
abbrev is_other : Head → Bool
is_other OtherHead = true
is_other _ = false

abbrev is_this : Head → Bool
is_this ThisHead = true
is_this _ = false

abbrev name_in : Head → Name
name_in (NameHead n) = n
name_in _ = []

not_other : {A : Type 0} (h : Head) → is_other h ≡ false → h ≡ OtherHead → A
not_other h e is = absurd (true≢false (sym (ap is_other is) ∙ e))

not_this : {A : Type 0} (h : Head) → is_this h ≡ false → h ≡ ThisHead → A
not_this h e is = absurd (true≢false (sym (ap is_this is) ∙ e))

-- whether it is a name
abbrev pub is_name : Head → Bool
is_name (NameHead n) = true
is_name _ = false

not_name : {A : Type 0} (h : Head) (n : Name) → is_name h ≡ false → h ≡ NameHead n → A
not_name h n e is = absurd (true≢false (sym (ap is_name is) ∙ e))

module _ (tables : Tables) (at : Standing) (locals : List Known) where
  module _ (p : Place) (name : Name) where
    pub member-this : (e : Expr) → head_of e ≡ ThisHead →
        member tables at locals p e name ≡ (own_found tables at name >>= variable_at tables at locals p)
    member-this (This q) is = refl
    member-this (Int q z) is = not_this OtherHead refl is
    member-this (Truth q b) is = not_this OtherHead refl is
    member-this (Text q t) is = not_this OtherHead refl is
    member-this (Null q) is = not_this OtherHead refl is
    member-this (Variable q x) is = not_this (NameHead x) refl is
    member-this (Member q e x) is = not_this OtherHead refl is
    member-this (Neg q e) is = not_this OtherHead refl is
    member-this (Not q e) is = not_this OtherHead refl is
    member-this (Binary q o l r) is = not_this OtherHead refl is
    member-this (Call q f args) is = not_this OtherHead refl is
    member-this (MethodCall q e f args) is = not_this OtherHead refl is
    member-this (New q c) is = not_this OtherHead refl is

    pub member-name : (e : Expr) (x : Name) → head_of e ≡ NameHead x →
        member tables at locals p e name ≡ (found tables at locals x >>= constant_at tables at locals p x name)
    member-name (Variable q y) x is = ap (λ z. found tables at locals z >>= constant_at tables at locals p z name) (ap name_in is)
    member-name (This q) x is = not_name ThisHead x refl is
    member-name (Int q z) x is = not_name OtherHead x refl is
    member-name (Truth q b) x is = not_name OtherHead x refl is
    member-name (Text q t) x is = not_name OtherHead x refl is
    member-name (Null q) x is = not_name OtherHead x refl is
    member-name (Member q e y) x is = not_name OtherHead x refl is
    member-name (Neg q e) x is = not_name OtherHead x refl is
    member-name (Not q e) x is = not_name OtherHead x refl is
    member-name (Binary q o l r) x is = not_name OtherHead x refl is
    member-name (Call q f args) x is = not_name OtherHead x refl is
    member-name (MethodCall q e f args) x is = not_name OtherHead x refl is
    member-name (New q c) x is = not_name OtherHead x refl is

    pub member-other : (e : Expr) → head_of e ≡ OtherHead → member tables at locals p e name ≡ None
    member-other (This q) is = not_other ThisHead refl is
    member-other (Variable q x) is = not_other (NameHead x) refl is
    member-other (Int q z) is = refl
    member-other (Truth q b) is = refl
    member-other (Text q t) is = refl
    member-other (Null q) is = refl
    member-other (Member q e x) is = refl
    member-other (Neg q e) is = refl
    member-other (Not q e) is = refl
    member-other (Binary q o l r) is = refl
    member-other (Call q f args) is = refl
    member-other (MethodCall q e f args) is = refl
    member-other (New q c) is = refl

  module _ (r : Option Resolved) where
    pub receiver-this : (e : Expr) → head_of e ≡ ThisHead → receiver tables at locals e r ≡ Some OnThis
    receiver-this (This q) is = refl
    receiver-this (Int q z) is = not_this OtherHead refl is
    receiver-this (Truth q b) is = not_this OtherHead refl is
    receiver-this (Text q t) is = not_this OtherHead refl is
    receiver-this (Null q) is = not_this OtherHead refl is
    receiver-this (Variable q x) is = not_this (NameHead x) refl is
    receiver-this (Member q e x) is = not_this OtherHead refl is
    receiver-this (Neg q e) is = not_this OtherHead refl is
    receiver-this (Not q e) is = not_this OtherHead refl is
    receiver-this (Binary q o l s) is = not_this OtherHead refl is
    receiver-this (Call q f args) is = not_this OtherHead refl is
    receiver-this (MethodCall q e f args) is = not_this OtherHead refl is
    receiver-this (New q c) is = not_this OtherHead refl is

    pub receiver-name : (e : Expr) (x : Name) → head_of e ≡ NameHead x → receiver tables at locals e r ≡ option_map
        (named_receiver tables at locals (place_of e) x) (found tables at locals x)
    receiver-name (Variable q y) x is = ap (λ z. option_map (named_receiver tables at locals q z) (found tables at locals z))
        (ap name_in is)
    receiver-name (This q) x is = not_name ThisHead x refl is
    receiver-name (Int q z) x is = not_name OtherHead x refl is
    receiver-name (Truth q b) x is = not_name OtherHead x refl is
    receiver-name (Text q t) x is = not_name OtherHead x refl is
    receiver-name (Null q) x is = not_name OtherHead x refl is
    receiver-name (Member q e y) x is = not_name OtherHead x refl is
    receiver-name (Neg q e) x is = not_name OtherHead x refl is
    receiver-name (Not q e) x is = not_name OtherHead x refl is
    receiver-name (Binary q o l s) x is = not_name OtherHead x refl is
    receiver-name (Call q f args) x is = not_name OtherHead x refl is
    receiver-name (MethodCall q e f args) x is = not_name OtherHead x refl is
    receiver-name (New q c) x is = not_name OtherHead x refl is

    pub receiver-other : (e : Expr) → head_of e ≡ OtherHead → receiver tables at locals e r ≡ option_map OnValue r
    receiver-other (This q) is = not_other ThisHead refl is
    receiver-other (Variable q x) is = not_other (NameHead x) refl is
    receiver-other (Int q z) is = refl
    receiver-other (Truth q b) is = refl
    receiver-other (Text q t) is = refl
    receiver-other (Null q) is = refl
    receiver-other (Member q e x) is = refl
    receiver-other (Neg q e) is = refl
    receiver-other (Not q e) is = refl
    receiver-other (Binary q o l s) is = refl
    receiver-other (Call q f args) is = refl
    receiver-other (MethodCall q e f args) is = refl
    receiver-other (New q c) is = refl
