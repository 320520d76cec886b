-- The demands of a program that fail, each line once, in the order of the text.
use Rattle.std.specs.Prelude.{◌≡◌, ℕ, suc, ◌&&◌, Bool, List, [], ◌∷◌, ◌++◌, map, Some, slice_get, Contains, nat_eq, nat_lt, if◌then◌else◌}
use Rattle.std.specs.List.{list_any}
use Rattle.std.specs.List.Sorted.{IsPermutation, IsSortedBy, IsStableBy}
use Rattle.std.specs.Str.{bytes_eq}
use Rattle.jv_core.specs.Tree.{Program}
use Rattle.use_rules.specs.declared.element.Element.{Element}
use Rattle.use_rules.specs.declared.element.Element.TheVariants as elements
use Rattle.use_rules.specs.declared.demand.Demand.{Demand}
use Rattle.use_rules.specs.Keys.{Tables, AreReached}
use Rattle.use_rules.specs.Tables.{all_failed, Least}
use Rattle.use_sights.specs.Sights.{same_place}
use Rattle.mg_refusal.specs.Refusals.{Refusal}
use Rattle.mg_accepted.specs.Demands.{demand_word, demand_name, demand_refusal}

-- elements in their order: null, moved, the end, and then states as the typestate has them
abbrev pub element_number : Element → ℕ
element_number elements.Null = 0
element_number elements.Moved = 1
element_number elements.End = 2
element_number (elements.State q) = suc (suc (suc q))

-- By file, line and column; at one place by the variable: parameters, locals, own fields, and then a value that is dropped; and for one
-- variable by the element.
abbrev pub stands_before : Demand → Demand → Bool
stands_before a b =
    if nat_eq a.place.file b.place.file then
    (if nat_eq a.place.line b.place.line then
    (if nat_eq a.place.column b.place.column then
    (if nat_eq a.variable b.variable then nat_lt (element_number a.element) (element_number b.element)
    else nat_lt a.variable b.variable)
    else nat_lt a.place.column b.place.column)
    else nat_lt a.place.line b.place.line)
    else nat_lt a.place.file b.place.file

module _ (p : Program) where
  -- what is said of each
  abbrev pub said_of : List Demand → List Refusal
  said_of ds = map (demand_refusal p) ds

  -- one line is said of both
  abbrev pub same_line : Demand → Demand → Bool
  same_line d e =
      bytes_eq (demand_word d.kind) (demand_word e.kind) && (same_place d.place e.place && bytes_eq (demand_name p d) (demand_name p e))

  -- these, and one more where its line isn't said of one of them
  abbrev pub with_line : List Demand → Demand → List Demand
  with_line ds d = if list_any (same_line d) ds then ds else ds ++ d ∷ []

  abbrev pub with_lines : List Demand → List Demand → List Demand
  with_lines ds [] = ds
  with_lines ds (e ∷ es) = with_lines (with_line ds e) es

  -- of each line the demand of which it is said first
  abbrev pub once : List Demand → List Demand
  once = with_lines []

-- All demands that fail under the least tables, in order, and each line once. Demands that stand at one place in the order are as contexts
-- have them.
pub record AreFaults (p : Program) (ds : List Demand) : Type 0 where
  pub reached : List (List Bool)
  pub are : AreReached p reached
  pub tables : Tables
  pub least : Least p reached tables
  pub listed : List Demand
  pub moves : IsPermutation (all_failed p reached tables) listed
  pub sorted : IsSortedBy stands_before listed
  pub stable : IsStableBy stands_before (all_failed p reached tables) listed
  pub is : ds ≡ once p listed

-- What such a list is: each of its demands fails; they are in order; no line is said twice; and whatever fails is said.

-- no two are one
abbrev pub AreApart : List Refusal → Type 0
AreApart rs = (i j : ℕ) (r : Refusal) → slice_get rs i ≡ Some r → slice_get rs j ≡ Some r → i ≡ j

pub record AreLines (p : Program) (failed ds : List Demand) : Type 0 where
  pub fail : (d : Demand) → Contains ds d → Contains failed d
  pub sorted : IsSortedBy stands_before ds
  pub apart : AreApart (said_of p ds)
  pub all : (d : Demand) → Contains failed d → Contains (said_of p ds) (demand_refusal p d)

abbrev pub FaultsAreLines : Type 0
FaultsAreLines = (p : Program) (ds : List Demand) → (f : AreFaults p ds) → AreLines p (all_failed p f.reached f.tables) ds

-- There is one.
abbrev pub OneFaults : Type 0
OneFaults = (p : Program) (ds es : List Demand) → AreFaults p ds → AreFaults p es → ds ≡ es
