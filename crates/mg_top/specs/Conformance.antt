-- Whether the calls of a file follow a protocol.
use Rattle.std.specs.Prelude.{◌≡◌, ◌<◌, ◌≤◌, ℕ, List, [], ◌∷◌, ◌++◌, length, map, codes}
use Rattle.mg_text.specs.Call.{Call}
use Rattle.mg_text.specs.Places.{start_of}
use Rattle.mg_text.specs.declared.place.Place.{Place}
use Rattle.scr_tree.specs.Tree.{LocalTree}
use Rattle.scr_tree.specs.Meaning.{protocol_of}
use Rattle.scr_tree.specs.Traces.{Trace, Complete}
use Rattle.mg_calls.specs.Calls.{CallAt, AreCalls, IsFirstBad}
use Rattle.mg_delivery.specs.declared.status.Status.{Status}
use Rattle.mg_delivery.specs.declared.status.Status.TheVariants.{Done, Refused}
use Rattle.mg_sources.specs.Files.{Source}
use Rattle.mg_sources.specs.Reading.{Protocol, Reads, Refuses}
use Rattle.mg_refusal.specs.Refusals.{Refusal, refusal_at, in_file}
use Rattle.mg_refusal.specs.Order.{Then}
use Rattle.mg_delivery.specs.Lines.{ended, not_offered_line}

-- the calls, without the numbers of their lines
abbrev pub calls_of : List CallAt → List Call
calls_of calls = map (λ c. c.call) calls

-- Calls from the start to the end of the protocol are complete, and others that it allows are open. The first that isn't offered is told:
-- no trace goes on with it.
pub data Conforms (local : LocalTree) (calls : List CallAt) : List ℕ → Status → Type 0 where
  complete : Complete local.me (protocol_of local) (calls_of calls) → Conforms local calls (ended (codes "complete")) Done
  unfinished : Trace local.me (protocol_of local) (calls_of calls) → (Complete local.me (protocol_of local) (calls_of calls) → ⊥) →
      Conforms local calls (ended (codes "open")) Done
  not_offered : (front : List CallAt) (call : CallAt) (rest : List CallAt) → calls ≡ front ++ call ∷ rest →
      Trace local.me (protocol_of local) (calls_of front) →
      ((more : List Call) → Trace local.me (protocol_of local) (calls_of front ++ call.call ∷ more) → ⊥) →
      Conforms local calls (not_offered_line call.line) Refused

-- the file lists these calls
pub record Lists (source : Source) (calls : List CallAt) : Type 0 where
  pub size : length source.bytes ≤ 1048576
  pub listed : AreCalls source.bytes calls

-- the file of calls is refused: it is too large, or a line of it is bad, and the first bad line is named
pub data IsNoList (source : Source) (r : Refusal) : Type 0 where
  too_large : 1048576 < length source.bytes → r ≡ in_file source.number (refusal_at (codes "TooLarge") (start_of source.number) []) →
      IsNoList source r
  bad_line : (place : Place) → length source.bytes ≤ 1048576 → IsFirstBad source.number source.bytes place →
      r ≡ in_file source.number (refusal_at (codes "BadLine") place []) → IsNoList source r

-- The first refusal of a file of a protocol and one of calls.
abbrev pub ConformRefusal : Source → Source → Refusal → Type 0
ConformRefusal protocol calls = Then (Refuses protocol) (λ local. Reads protocol (Protocol local)) (λ local. IsNoList calls)
