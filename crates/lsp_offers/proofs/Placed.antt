-- Calls at a place of a program, and what is seen there.
use Rattle.std.proofs.Common.{◌≡◌, ℕ, ◌+◌, ◌<◌, ◌≤◌, true, false, List, [], ◌∷◌, length, get_or, map, take}
use Rattle.std.proofs.Common.{Option, Some, None, sym, ap, subst, ◌∙◌, true≢false}
use Rattle.std.specs.Prelude.{All, Contains, MatchOption, slice_get}
use Rattle.std.proofs.lemmas.List.{take_more, take_all}
use Rattle.std.proofs.lemmas.List.Elements.{All-nil, All-cons, All-append, All-contains}
use Rattle.std.proofs.lemmas.List.Sorted.{Contains-permutation, IsPermutation-sym}
use Rattle.mg_text.specs.declared.place.Place.{Place}
use Rattle.mg_text.specs.Call.{Name}
use Rattle.ts_tree.specs.declared.parts.State.{State as KeptState}
use Rattle.ts_tree.specs.View.{state_of}
use Rattle.ts_tree.specs.Typestate.{Typestate}
use Rattle.jv_core.specs.Tree.{Method, Program}
use Rattle.use_rules.specs.Elements.{Set}
use Rattle.use_rules.specs.Keys.{typestate_of}
use Rattle.use_flow.specs.declared.out.Sight as kept
use Rattle.use_flow.specs.View.{reached_of, tables_of, sight_of}
use Rattle.use_sights.specs.declared.site.Site.{Site}
use Rattle.use_sights.specs.Calls.{all_sites}
use Rattle.use_sights.specs.Sights.{same_place, sights_at, together, before}
use Rattle.use_verdict.specs.declared.met.Usages.{Usages}
use Rattle.use_verdict.specs.Met.{AreUsages}
use Rattle.mg_shown.specs.declared.seen.PlaceKey.{PlaceKey}
use Rattle.mg_shown.specs.Shown.{AreListed}
use Rattle.mg_shown.specs.inner.Seeing.{at_place, AreSeen}
use Rattle.lsp_messages.specs.declared.outgoing.Item.{Item}
use Rattle.lsp_offers.specs.Items.{items_of}
use Rattle.lsp_offers.specs.Offered.{IsAt, NoneAt, items_at, AreItems}

abbrev pub IsElsewhere : Place → Site → Type 0
IsElsewhere place s = same_place place s.place ≡ false

-- one more that stands elsewhere
pub elsewhere_more : (place : Place) (sites : List Site) (i : ℕ) (d : Site) → i < length sites → All (IsElsewhere place) (take i sites) →
    false ≡ same_place place (get_or sites i d).place → All (IsElsewhere place) (take (i + 1) sites)
elsewhere_more place sites i d less all other =
    subst (λ (xs : List Site). All (IsElsewhere place) xs) (sym (take_more sites i d less))
    (All-append (IsElsewhere place) (take i sites) (get_or sites i d ∷ []) all
    (All-cons (IsElsewhere place) (get_or sites i d) [] (sym other) (All-nil (IsElsewhere place))))

pub all_elsewhere : (place : Place) (sites : List Site) (i : ℕ) → length sites ≤ i → All (IsElsewhere place) (take i sites) →
    All (IsElsewhere place) sites
all_elsewhere place sites i most all = subst (λ (xs : List Site). All (IsElsewhere place) xs) (take_all i sites most) all

module _ (p : Program) (place : Place) (sites : List Site) (listed : AreListed p sites) where
  pub none_placed : All (IsElsewhere place) sites → NoneAt p place
  none_placed none site at =
      true≢false (sym at.there ∙ All-contains (IsElsewhere place) sites site none
      (Contains-permutation (all_sites p) sites site listed.all at.listed))

  pub placed : (s : Site) → Contains sites s → same_place place s.place ≡ true → IsAt p place s
  placed s there is = record {
    listed = Contains-permutation sites (all_sites p) s (IsPermutation-sym (all_sites p) sites listed.all) there;
    there = is;
  }

  pub found_there : (slice : List Site) → slice ≡ sites → (o : Option Site) →
      MatchOption o (All (IsElsewhere place) slice) (λ s. Contains slice s × (same_place place s.place ≡ true)) →
      MatchOption o (NoneAt p place) (IsAt p place)
  found_there slice same None none = none_placed (subst (λ (xs : List Site). All (IsElsewhere place) xs) same none)
  found_there slice same (Some s) found = placed s (subst (λ (xs : List Site). Contains xs s) same found.0) found.1

-- the states of a typestate that is looked into
pub states_are : (t : Typestate) (name : Name) (items slice : List KeptState) → record { name = name; states = map state_of items } ≡ t →
    slice ≡ items → map state_of slice ≡ t.states
states_are t name items slice view same = ap (map state_of) same ∙ ap (λ (u : Typestate). u.states) view

-- the typestate of the method that a call is of
pub items_by : (p : Program) (s : Site) (set : Set) (k : Method) (t : Typestate) (items : List Item) →
    Some k ≡ slice_get p.methods s.method →
    t ≡ typestate_of p k.class → items ≡ items_of t.states set → items ≡ items_at p s set
items_by p s set k t items at is are =
    are ∙ ap (λ (u : Typestate). items_of u.states set) is
    ∙ ap (λ (o : Option Method). elim o [ None ↦ [] | Some m ↦ items_of (typestate_of p m.class).states set ]) at

-- What is kept of each place is what the sights have there under the tables.
pub items_seen : (p : Program) (u : Usages) → AreUsages p u → (ks : List kept.Sight) → ks ≡ u.sights.items →
    (find : PlaceKey → Option Set) → AreSeen (map sight_of ks) find → (s : Site) (items : List Item) →
    items ≡ items_at p s (at_place find s.place) → AreItems p s items
items_seen p u met ks all find seen s items is = record {
  reached = reached_of u.tables;
  are = met.made.reached;
  tables = tables_of u.tables;
  least = met.least;
  is = is ∙ ap (items_at p s) (seen.each s.place ∙ ap (λ xs. together (sights_at s.place xs)) (ap (map sight_of) all ∙ met.sights));
}
