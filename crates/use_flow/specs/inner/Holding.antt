-- Tables as they are made: contexts that are all different, and sets that stand by the numbers of their keys.
use Rattle.std.specs.Prelude.{◌≡◌, ◌<◌, ℕ, false, List, [], ◌∷◌, ◌++◌, map, Some, slice_get, Contains, ◌⊎◌}
use Rattle.std.specs.List.{AllByRecursion}
use Rattle.jv_core.specs.Tree.{Program}
use Rattle.use_flow.specs.declared.classed.Entry.{Entry}
use Rattle.use_rules.specs.declared.key.Context.{Context}
use Rattle.use_rules.specs.declared.key.TableKey.{TableKey}
use Rattle.use_rules.specs.Elements.{Set}
use Rattle.use_rules.specs.Keys.{same_context}
use Rattle.use_rules.specs.Start.{start_in}

-- no context stands twice
abbrev pub AreApart : List Context → Type 0
AreApart [] = Unit {0}
AreApart (x ∷ xs) = AllByRecursion (λ y. same_context y x ≡ false) xs × AreApart xs

-- keys and sets once a table has its set; they are as before where the table has one already
abbrev pub WithEntry : Program → Entry → (ks : List TableKey) (ss : List Set) (ks' : List TableKey) (ss' : List Set) → Type 0
WithEntry p e ks ss ks' ss' =
    (Contains ks e.key × (ks' ≡ ks) × (ss' ≡ ss)) ⊎ ((ks' ≡ ks ++ e.key ∷ []) × (ss' ≡ ss ++ start_in p e.key e.class ∷ []))

-- the first so many tables have their sets, each as it starts
pub record AreHeld (p : Program) (entries : List Entry) (count : ℕ) (ks : List TableKey) (ss : List Set) : Type 0 where
  pub starts : (start : TableKey → Set) → AllByRecursion (λ e. start_in p e.key e.class ≡ start e.key) entries → ss ≡ map start ks
  pub has : (n : ℕ) (e : Entry) → n < count → slice_get entries n ≡ Some e → Contains ks e.key
