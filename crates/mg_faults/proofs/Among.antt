-- The first refusal is among all: whatever all are, one of them is a first refusal, and two first refusals are one but for a place of Syntax.
use Rattle.std.proofs.Common.{◌≡◌, ◌<◌, List, [], ◌∷◌, length, Some, slice_get, Contains, refl, arith}
use Rattle.mg_read.specs.First.{Judged, here, later}
use Rattle.jv_core.specs.Tree as Core
use Rattle.use_rules.specs.declared.demand.Demand.{Demand}
use Rattle.use_rules.specs.Tables.{all_failed}
use Rattle.use_verdict.specs.Verdict.{FailsFirst}
use Rattle.mg_refusal.specs.Refusals.{Refusal, AreAlike}
use Rattle.mg_refusal.specs.Order.{at_first, at_next}
use Rattle.mg_sources.specs.Files.{Source}
use Rattle.mg_sources.specs.Reading.{Refuses}
use Rattle.mg_sources.proofs.OneKind.{excludes}
use Rattle.mg_accepted.specs.Demands.{demand_refusal}
use Rattle.mg_accepted.specs.Accepted.{AreAccepted, FirstRefusal}
use Rattle.mg_faults.specs.Demands.{AreLines}
use Rattle.mg_faults.proofs.Lines.{faults_are_lines}
use Rattle.mg_faults.specs.Faults.{AreRefused, read, refused, AllRefusals, readers, roles, types, usages, FirstIsAmong}
use Rattle.mg_faults.specs.Faults.{NoneWhereAccepted}

-- the first of all that the readers refuse is what the first reader that refuses says
pub first_read : {files : List Source} {r : Refusal} {rs : List Refusal} → AreRefused files (r ∷ rs) → Judged Refuses files (Some r)
first_read (read {source = source} {part = part} x rest) = later (λ r. excludes source part r x) (first_read rest)
first_read (refused x rest) = here x

-- a first refusal that is among them
record HasFirst (files : List Source) (rs : List Refusal) : Type 0 where
  refusal : Refusal
  there : Contains rs refusal
  first : FirstRefusal files refusal

at_front : (r : Refusal) (rs : List Refusal) → Contains (r ∷ rs) r
at_front r rs = (0, (omega arith), refl)

-- a demand that fails first, where one fails
record FirstOne (ds : List Demand) : Type 0 where
  demand : Demand
  there : Contains ds demand
  first : slice_get ds 0 ≡ Some demand

nothing_in : {A : Type 0} (x : A) → Contains [] x → ⊥
nothing_in {A} x c = let lt : c.0 < length {A = A} [] = c.1 in omega arith

first_one : (ds : List Demand) (d : Demand) → Contains ds d → FirstOne ds
first_one [] d c = absurd (nothing_in d c)
first_one (x ∷ ds) d c = record { demand = x; there = (0, (omega arith), refl); first = refl }

demand_first : (d : Demand) (ds : List Demand) → Contains (d ∷ ds) d
demand_first d ds = (0, (omega arith), refl)

has_first : (files : List Source) (rs : List Refusal) → AllRefusals files rs → HasFirst files rs
has_first files _ (readers {r = r} {rs = rs} a) = record {
  refusal = r;
  there = at_front r rs;
  first = at_first (at_first (at_first (first_read a)));
}
has_first files _ (roles parts {r = r} each shares) = record {
  refusal = r;
  there = at_front r [];
  first = at_first (at_first (at_next parts each shares));
}
has_first files _ (types sourced {r = r} are t) = record {
  refusal = r;
  there = at_front r [];
  first = at_first (at_next sourced are t);
}
has_first files _ (usages core d ds have faults) =
    let lines : AreLines core (all_failed core faults.reached faults.tables) (d ∷ ds) = faults_are_lines core (d ∷ ds) faults in
    let f = first_one (all_failed core faults.reached faults.tables) d (lines.fail d (demand_first d ds)) in
    let fails : FailsFirst core f.demand = record {
      reached = faults.reached;
      are = faults.are;
      tables = faults.tables;
      least = faults.least;
      first = f.first;
    } in
    record {
      refusal = demand_refusal core f.demand;
      there = lines.all f.demand f.there;
      first = at_next core have (f.demand, fails, refl);
    }

pub among : ((files : List Source) (r q : Refusal) → FirstRefusal files r → FirstRefusal files q → AreAlike r q) → FirstIsAmong
among same files first rs f all =
    let h = has_first files rs all in
    record { refusal = h.refusal; there = h.there; alike = same files first h.refusal f h.first }

pub none_where_accepted : ((files : List Source) (core : Core.Program) (r : Refusal) → AreAccepted files core → FirstRefusal files r → ⊥) →
    NoneWhereAccepted
none_where_accepted apart files core rs a all = let h = has_first files rs all in apart files core h.refusal a h.first
