-- What is found by its name, in the tables and on trees.
use Rattle.std.proofs.Common.{◌≡◌, ℕ, List, [], ◌∷◌, map, length, Option, Some, None, refl, sym, ap, ◌∙◌, position}
use Rattle.std.specs.Prelude.{slice_get}
use Rattle.std.specs.Option.{option_map}
use Rattle.std.specs.Str.{bytes_eq}
use Rattle.mg_text.specs.Call.{Name}
use Rattle.std.proofs.lemmas.Option.{slice_get-map, slice_get_read, slice_get_past}
use Rattle.std.specs.Borrow.{Bor}
use Rattle.std.specs.Slice.{IsItemAt}
use Rattle.jv_resolve_law.specs.Tables.{◌>>=◌}

pub map-map : {X Y Z : Type 0} (f : X → Y) (g : Y → Z) (xs : List X) → map g (map f xs) ≡ map (λ x. g (f x)) xs
map-map f g [] = refl
map-map f g (x ∷ xs) = ap (λ zs. g (f x) ∷ zs) (map-map f g xs)

-- what a slice lends at an index
pub got : {X : Type 0} (xs : List X) (i : ℕ) (r : Option (Bor X)) → IsItemAt xs i r → option_map (λ x. x.now) r ≡ slice_get xs i
got xs i None h = sym (slice_get_past xs i h.3)
got xs i (Some x) h = sym (slice_get_read xs (length xs) i x.now refl h.3.0 h.1)

seen_now : {X Y : Type 0} (view : X → Y) (r : Option (Bor X)) → option_map (λ x. view x.now) r ≡ option_map view (option_map (λ x. x.now) r)
seen_now view None = refl
seen_now view (Some x) = refl

-- the one at an index, as it is seen
pub seen_at : {X Y : Type 0} (view : X → Y) (xs ys : List X) → ys ≡ xs → (i : ℕ) (r : Option (Bor X)) → IsItemAt ys i r →
    option_map (λ x. view x.now) r ≡ slice_get (map view xs) i
seen_at view xs ys same i r h =
    seen_now view r ∙ ap (option_map view) (got ys i r h ∙ ap (λ zs. slice_get zs i) same) ∙ sym (slice_get-map view xs i)

-- what is called so, with its place
abbrev pub called : {Y Z : Type 0} → (Y → Name) → (ℕ → Y → Z) → List Y → Name → Option Z
called key make ys name = position (bytes_eq name) (map key ys) >>= λ n. slice_get ys n >>= λ y. Some (make n y)

then_made : {X Y Z : Type 0} (view : X → Y) (make : Y → Z) (o : Option X) → (option_map view o >>= λ y. Some (make y)) ≡ option_map
    (λ x. make (view x)) o
then_made view make None = refl
then_made view make (Some x) = refl

module _ {X Y Z : Type 0} (view : X → Y) (key : Y → Name) (make : ℕ → Y → Z) (xs : List X) (names : List Name)
    (named : names ≡ map (λ x. key (view x)) xs) (name : Name) where
  pub keys : position (bytes_eq name) (map key (map view xs)) ≡ position (bytes_eq name) names
  keys = ap (position (bytes_eq name)) (map-map view key xs ∙ sym named)

  pub called_at : (n : ℕ) → Some n ≡ position (bytes_eq name) names → option_map (λ x. make n (view x)) (slice_get xs n) ≡ called key make
      (map view xs) name
  called_at n at =
      sym (ap (λ o. o >>= λ k. slice_get (map view xs) k >>= λ y. Some (make k y)) (keys ∙ sym at)
      ∙ ap (λ o. o >>= λ y. Some (make n y)) (slice_get-map view xs n)
      ∙ then_made view (make n) (slice_get xs n))

  pub not_called : None ≡ position (bytes_eq name) names → None ≡ called key make (map view xs) name
  not_called none = sym (ap (λ o. o >>= λ k. slice_get (map view xs) k >>= λ y. Some (make k y)) (keys ∙ sym none))

  pub picked_at : (n : ℕ) → Some n ≡ position (bytes_eq name) names →
      slice_get (map view xs) n ≡ (position (bytes_eq name) (map key (map view xs)) >>= slice_get (map view xs))
  picked_at n at = sym (ap (λ o. o >>= slice_get (map view xs)) (keys ∙ sym at))

  pub not_picked : None ≡ position (bytes_eq name) names →
      None ≡ (position (bytes_eq name) (map key (map view xs)) >>= slice_get (map view xs))
  not_picked none = sym (ap (λ o. o >>= slice_get (map view xs)) (keys ∙ sym none))

  module _ (n : ℕ) (at : Some n ≡ position (bytes_eq name) names) (ys : List X) (same : ys ≡ xs) where
    pub called_got : (x : Bor X) → IsItemAt ys n (Some x) → Some (make n (view x.now)) ≡ called key make (map view xs) name
    called_got x h = ap (option_map (λ z. make n (view z))) (got ys n (Some x) h ∙ ap (λ zs. slice_get zs n) same) ∙ called_at n at
