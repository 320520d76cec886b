-- What is said of demands, as the code keeps it: a key for each line.
use Rattle.std.specs.Prelude.{◌≡◌, List, [], ◌∷◌, string_bytes}
use Rattle.std.specs.List.Sorted.{IsPermutation, IsSortedBy, IsStableBy}
use Rattle.jv_core.specs.Tree.{Program}
use Rattle.use_rules.specs.declared.demand.Demand.{Demand}
use Rattle.mg_refusal.specs.Refusals.{Refusal}
use Rattle.mg_accepted.specs.Demands.{demand_word, demand_name}
use Rattle.mg_faults.specs.declared.said.LineKey.{LineKey}
use Rattle.mg_faults.specs.Demands.{said_of, once, stands_before, with_lines}

pub record IsKey (p : Program) (d : Demand) (k : LineKey) : Type 0 where
  pub kind : k.kind.now ≡ demand_word d.kind
  pub file : k.file ≡ d.place.file
  pub line : k.line ≡ d.place.line
  pub column : k.column ≡ d.place.column
  pub name : string_bytes k.name ≡ demand_name p d

abbrev pub AreKeys : Program → List Demand → List LineKey → Type 0
AreKeys p [] [] = Unit {0}
AreKeys p [] (k ∷ ks) = ⊥
AreKeys p (d ∷ ds) [] = ⊥
AreKeys p (d ∷ ds) (k ∷ ks) = IsKey p d k × AreKeys p ds ks

-- a line is said of each of these demands
pub record AreSaid (p : Program) (seen : List Demand) (keys : List LineKey) (said : List Refusal) : Type 0 where
  pub keyed : AreKeys p seen keys
  pub is : said ≡ said_of p seen

-- so it is behind some of all demands, where these are left
pub record AreSaidSoFar (p : Program) (all left : List Demand) (keys : List LineKey) (said : List Refusal) : Type 0 where
  pub seen : List Demand
  pub are : AreSaid p seen keys said
  pub rest : with_lines p seen left ≡ once p all

-- what is said of demands that fail, each line once
pub record IsTold (p : Program) (failed : List Demand) (said : List Refusal) : Type 0 where
  pub listed : List Demand
  pub moves : IsPermutation failed listed
  pub sorted : IsSortedBy stands_before listed
  pub stable : IsStableBy stands_before failed listed
  pub is : said ≡ said_of p (once p listed)
