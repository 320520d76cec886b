-- What the functions that prepare a delivery may answer.
use Rattle.std.specs.Prelude.{◌≡◌, ℕ, ◌⊎◌, List, [], ◌∷◌, ◌++◌, codes, Option, Some, None, option_map, Result, Ok, Err}
use Rattle.mg_text.specs.declared.memory.Memory.{Memory}
use Rattle.scr_tree.specs.Tree.{LocalTree}
use Rattle.mg_delivery.specs.declared.delivery.Action.{Action}
use Rattle.mg_delivery.specs.declared.delivery.Delivery.{Delivery}
use Rattle.mg_calls.specs.Calls.{CallAt}
use Rattle.mg_calls.specs.declared.CallsFault.{CallsFault}
use Rattle.mg_calls.specs.declared.CallsFault.TheVariants as calls_faults
use Rattle.mg_top.specs.Commands.{prints, Gives, IsRefused}
use Rattle.mg_top.specs.Conformance.{Conforms}
use Rattle.jv_core.specs.Tree as Core
use Rattle.use_check.specs.Report.{IsReport}
use Rattle.mg_delivery.specs.declared.status.Status.{Status}
use Rattle.mg_delivery.specs.declared.status.Status.TheVariants as statuses
use Rattle.mg_words.specs.Words.{Word, Command}
use Rattle.mg_delivery.specs.declared.delivery.Action.TheVariants as acts
use Rattle.mg_sources.specs.Reading.{Part, Protocol, States, Classes}
use Rattle.mg_refusal.specs.Refusals.{Refusal, refusal_at}
use Rattle.mg_refusal.specs.Order.{Answers}
use Rattle.mg_refusal.specs.declared.stop.Stop.{Stop}
use Rattle.mg_top.specs.Translation.{Target, IsTranslation}
use Rattle.mg_top.specs.declared.translate.Target.{Target as Kept}
use Rattle.mg_delivery.specs.Outside.{Outside}
use Rattle.mg_delivery.specs.Contents.{after_read}
use Rattle.mg_top.specs.Ending.{IsUnread, IsDue}

-- the protocols among what files spell
abbrev pub locals_in : List Part → List LocalTree
locals_in [] = []
locals_in (Protocol local ∷ parts) = local ∷ locals_in parts
locals_in (States typestate ∷ parts) = locals_in parts
locals_in (Classes file ∷ parts) = locals_in parts

-- where files go
abbrev pub target_of : Kept → Target
target_of to = record { package_name = option_map (λ p. p.now) to.package_name; folder = option_map (λ f. f.now) to.folder }

-- what is written for each protocol
pub data EachIsWritten (to : Target) : List LocalTree → List Action → Type 0 where
  none : EachIsWritten to [] []
  one : {local : LocalTree} {writes : List Action} {locals : List LocalTree} {actions : List Action} →
      IsTranslation to local writes → EachIsWritten to locals actions → EachIsWritten to (local ∷ locals) (writes ++ actions)

-- these were appended, which are the translation of a protocol
pub record AddsTranslation (to : Target) (local : LocalTree) (before after : List Action) : Type 0 where
  pub writes : List Action
  pub translation : IsTranslation to local writes
  pub grown : after ≡ before ++ writes

-- the same of what a file spells; what is no protocol has none
abbrev pub AddsPart : Target → Part → List Action → List Action → Type 0
AddsPart to (Protocol local) before after = AddsTranslation to local before after
AddsPart to (States typestate) before after = after ≡ before
AddsPart to (Classes file) before after = after ≡ before

-- what a command gives, or the first refusal of its files
abbrev pub IsCarried : Command → List (List ℕ) → Result Delivery Stop → Type 0
IsCarried command contents result = Answers (λ d. Gives command contents d.actions.items d.status) (IsRefused command contents) result

-- why a file of calls is refused
abbrev pub calls_refusal : CallsFault → Option Refusal
calls_refusal (calls_faults.TooLarge place) = Some (refusal_at (codes "TooLarge") place [])
calls_refusal (calls_faults.BadLine place) = Some (refusal_at (codes "BadLine") place [])
calls_refusal calls_faults.Memory = None

-- a text on standard output answers whether calls follow a protocol
pub record IsAnswered (local : LocalTree) (calls : List CallAt) (actions : List Action) (status : Status) : Type 0 where
  pub text : List ℕ
  pub says : actions ≡ acts.Print text ∷ []
  pub conforms : Conforms local calls text status

-- a report is put on standard output
pub record IsReported (core : Core.Program) (actions : List Action) (status : Status) : Type 0 where
  pub text : List ℕ
  pub says : actions ≡ prints text
  pub done : status ≡ statuses.Done
  pub report : IsReport core text

-- nothing was done, but a read may have failed
abbrev pub IsLeft : List Word → Outside → Outside → Type 0
IsLeft words before after = (after ≡ before) ⊎ ((name : Word) × IsUnread words before name × (after ≡ after_read before name))

-- what is due about the words, or memory lacks and nothing was done
abbrev pub IsPrepared : List Word → Outside → Result Delivery Memory → Outside → Type 0
IsPrepared words before (Ok delivery) after = IsDue words before delivery.actions.items delivery.status after
IsPrepared words before (Err _) after = IsLeft words before after
