-- The law: sights tell which demands on calls fail. A call is made on what may be null where its variable has null there, on what was moved
-- away where it has moved, and isn't offered where it has the end, or a state that doesn't offer the method.
use Rattle.std.specs.Prelude.{◌≡◌, ℕ, true, List, Bool, Some, slice_get, Contains}
use Rattle.mg_text.specs.declared.place.Place.{Place}
use Rattle.mg_sets.specs.Sets.{has, IsSubset}
use Rattle.jv_core.specs.Tree.{Method, Program}
use Rattle.jv_core.specs.Lookup.{text_at}
use Rattle.use_rules.specs.declared.demand.DemandKind.{DemandKind}
use Rattle.use_rules.specs.declared.demand.DemandKind.TheVariants as demands
use Rattle.use_rules.specs.declared.demand.Demand.{Demand}
use Rattle.use_rules.specs.Elements.{element_at, unless_called}
use Rattle.use_rules.specs.Keys.{Tables, typestate_of}
use Rattle.use_rules.specs.Tables.{all_failed}
use Rattle.use_rules.specs.Laws.{AreWithin}
use Rattle.use_sights.specs.declared.site.Site.{Site}
use Rattle.use_sights.specs.Calls.{Reads, Calls, all_uses}
use Rattle.use_sights.specs.Sights.{before}

-- a demand of this kind fails at this place, by this element
pub record Fails (ds : List Demand) (kind : DemandKind) (place : Place) (element : ℕ) : Type 0 where
  pub demand : Demand
  pub there : Contains ds demand
  pub kind_is : demand.kind ≡ kind
  pub place_is : demand.place ≡ place
  pub element_is : demand.element ≡ element_at element

-- what is called at a place is this method: in the sources a place has one call
pub record AllCall (p : Program) (place : Place) (k : Method) : Type 0 where
  pub each : (s : Site) → Contains (all_uses p) (Calls s) → s.place ≡ place → slice_get p.methods s.method ≡ Some k

-- no variable is read there as a value
pub record NoneReads (p : Program) (place : Place) : Type 0 where
  pub none : Contains (all_uses p) (Reads place) → ⊥

-- a variable has an element where the method is called, and the rules ask of it that it hasn't
pub record IsAsked (p : Program) (reached : List (List Bool)) (t : Tables) (place : Place) (k : Method) (kind : DemandKind) (element : ℕ) :
    Type 0 where
  pub has_it : has (before p reached t place) element ≡ true
  pub fails : unless_called (typestate_of p k.class) (text_at p k.name) element ≡ Some kind

pub record SightsTellOf (p : Program) (reached : List (List Bool)) (t : Tables) (place : Place) (k : Method) : Type 0 where
  -- what a variable has at a call fails the demand that is made of it
  pub fails : (kind : DemandKind) (e : ℕ) → IsAsked p reached t place k kind e → Fails (all_failed p reached t) kind place e
  -- and no other such demand fails there
  pub not_offered : (e : ℕ) → Fails (all_failed p reached t) demands.NotOffered place e → IsAsked p reached t place k demands.NotOffered e
  pub may_be_null : (e : ℕ) → Fails (all_failed p reached t) demands.MaybeNull place e → IsAsked p reached t place k demands.MaybeNull e
  pub moved : NoneReads p place → (e : ℕ) → Fails (all_failed p reached t) demands.UseMoved place e →
      IsAsked p reached t place k demands.UseMoved e

-- So it is at each place of a program at which a method is called, under all tables.
abbrev pub SightsTell : Type 0
SightsTell = (p : Program) (reached : List (List Bool)) (t : Tables) (place : Place) (k : Method) → AllCall p place k →
    SightsTellOf p reached t place k

-- With larger tables a variable may be more before a call. So the least tables have one answer.
abbrev pub BeforeGrows : Type 0
BeforeGrows = (p : Program) (reached : List (List Bool)) (t u : Tables) → AreWithin t u → (place : Place) →
    IsSubset (before p reached t place) (before p reached u place)
