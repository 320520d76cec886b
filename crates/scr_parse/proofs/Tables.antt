-- The table in which kinds are looked up.
use Rattle.std.proofs.Common.{◌≡◌, ◌+◌, ◌<◌, ℕ, Bool, true, false, cond, List, [], ◌∷◌, ◌++◌, length, get_or, take, String, string_bytes}
use Rattle.std.proofs.Common.{Option, None, Some, Decides, refl, sym, ap, ◌∙◌, option_map}
use Rattle.std.specs.Option.{option_or, is_some}
use Rattle.std.proofs.lemmas.List.{take_more}
use Rattle.std.proofs.lemmas.Map.Text.{hash_map_updates_text}
use Rattle.std.proofs.lemmas.Slice.Eq.{bytes_eq-Decides}
use Rattle.std.specs.HashMap.{HashMap, get_by_text, UpdatesBy}
use Rattle.std.specs.Str.{bytes_eq}
use Rattle.std.specs.String.{string_eq}
use Rattle.mg_text.specs.Call.{Name}
use Rattle.scr_tree.specs.declared.syntax.Payload.{Payload}
use Rattle.scr_tree.specs.declared.written.Declaration.{Declaration}
use Rattle.scr_tree.specs.Written.{class_among, kind_if_class}
use Rattle.scr_parse.specs.inner.Kinds.{kind_among}

abbrev told : Option Name → Option Payload
told class = option_map (λ c. kind_if_class (Some c)) class

-- one more declaration
among-push : (ds : List Declaration) (d : Declaration) (q : Name)
    → kind_among (ds ++ d ∷ []) q ≡ option_or (kind_among ds q) (kind_among (d ∷ []) q)
among-push [] d q = refl
among-push (x ∷ ds) d q = go (bytes_eq q x.alias) (among-push ds d q)
  where
    go : (b : Bool) → kind_among (ds ++ d ∷ []) q ≡ option_or (kind_among ds q) (kind_among (d ∷ []) q)
        → told (cond b (Some x.class) (class_among (ds ++ d ∷ []) q)) ≡ option_or (told (cond b (Some x.class) (class_among ds q)))
        (kind_among (d ∷ []) q)
    go true h = refl
    go false h = h

or_some : (o : Option Payload) (p : Option Payload) → is_some o ≡ true → o ≡ option_or o p
or_some None p h = absurd cc
or_some (Some x) p h = refl

no_kind : (o : Option Payload) → false ≡ is_some o → o ≡ None
no_kind None h = refl
no_kind (Some x) h = absurd cc

or_none : (o : Option Payload) → o ≡ option_or o None
or_none None = refl
or_none (Some x) = refl

module _ {A S : Type 0} (kinds : HashMap (String A) Payload S) (d : Declaration) where
  -- a name that has a kind keeps it
  pub kept_kind : is_some (get_by_text kinds d.alias) ≡ true → (q : Name)
      → get_by_text kinds q ≡ option_or (get_by_text kinds q) (kind_among (d ∷ []) q)
  kept_kind has q = go (bytes_eq q d.alias) (bytes_eq-Decides q d.alias)
    where
      go : (b : Bool) → Decides b (q ≡ d.alias) → get_by_text kinds q ≡ option_or (get_by_text kinds q) (told (cond b (Some d.class) None))
      go true h = or_some (get_by_text kinds q) (told (Some d.class)) (ap (λ (n : Name). is_some (get_by_text kinds n)) (h.0 refl) ∙ has)
      go false h = or_none (get_by_text kinds q)

  -- a name that has none is given one
  pub added_kind : (next : HashMap (String A) Payload S) (key : String A) (kind : Payload) (alias : Name) → string_bytes key ≡ alias
      → alias ≡ d.alias
      → kind ≡ kind_if_class (Some d.class) → false ≡ is_some (get_by_text kinds alias)
      → UpdatesBy string_eq (λ k. bytes_eq (string_bytes key) (string_bytes k)) kinds next (Some kind)
      → (q : Name) → get_by_text next q ≡ option_or (get_by_text kinds q) (kind_among (d ∷ []) q)
  added_kind next key kind alias read same made has u q =
      hash_map_updates_text (string_bytes key) kinds next (Some kind) u q
      ∙ ap (λ (n : Name). cond (bytes_eq n q) (Some kind) (get_by_text kinds q)) (read ∙ same)
      ∙ go (bytes_eq d.alias q) (bytes_eq q d.alias) (bytes_eq-Decides d.alias q) (bytes_eq-Decides q d.alias)
    where
      none : get_by_text kinds d.alias ≡ None
      none = no_kind (get_by_text kinds d.alias) (has ∙ ap (λ (n : Name). is_some (get_by_text kinds n)) same)

      go : (b k : Bool) → Decides b (d.alias ≡ q) → Decides k (q ≡ d.alias)
          → cond b (Some kind) (get_by_text kinds q) ≡ option_or (get_by_text kinds q) (told (cond k (Some d.class) None))
      go true true h g = let e : get_by_text kinds q ≡ None = ap (λ (n : Name). get_by_text kinds n) (g.0 refl) ∙ none in rw e
          (ap Some made)
      go true false h g = let no : false ≡ true = g.1 (sym (h.0 refl)) in absurd cc
      go false true h g = let no : false ≡ true = h.1 (sym (g.0 refl)) in absurd cc
      go false false h g = or_none (get_by_text kinds q)

-- one more turn of the loop over declarations
pub kinds_more : {A S : Type 0} (old new : HashMap (String A) Payload S) (ds : List Declaration) (i : ℕ) (d : Declaration) → i < length ds
    → d ≡ get_or ds i d
    → ((q : Name) → get_by_text old q ≡ kind_among (take i ds) q)
    → ((q : Name) → get_by_text new q ≡ option_or (get_by_text old q) (kind_among (d ∷ []) q))
    → (q : Name) → get_by_text new q ≡ kind_among (take (i + 1) ds) q
kinds_more old new ds i d within is h more q =
    let grown : take i ds ++ d ∷ [] ≡ take (i + 1) ds = ap (λ n. take i ds ++ n ∷ []) is ∙ sym (take_more ds i d within) in
    more q ∙ ap (λ (o : Option Payload). option_or o (kind_among (d ∷ []) q)) (h q) ∙ sym (among-push (take i ds) d q)
    ∙ ap (λ (l : List Declaration). kind_among l q) grown
