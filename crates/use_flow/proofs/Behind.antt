-- What a method leaves behind, as the code has it.
use Rattle.std.proofs.Common.{◌≡◌, ℕ, Bool, true, false, List, [], ◌++◌, reverse, Option, Some, None, refl, sym, ap, ◌∙◌}
use Rattle.std.specs.Prelude.{if◌then◌else◌}
use Rattle.std.specs.List.{list_any}
use Rattle.std.proofs.lemmas.List.{reverse-reverse}
use Rattle.mg_text.specs.Call.{Name}
use Rattle.mg_text.specs.declared.place.Place.{Place}
use Rattle.ts_tree.specs.declared.parts.To.{To}
use Rattle.ts_tree.specs.Typestate.{Typestate, Target}
use Rattle.ts_tree.specs.Calls.{may_end}
use Rattle.jv_core.specs.Lookup.{text_at}
use Rattle.use_rules.specs.declared.demand.Demand.{Demand}
use Rattle.use_rules.specs.Elements.{Set, target_at}
use Rattle.use_rules.specs.Keys.{typestate_of}
use Rattle.use_rules.specs.Flow as rules
use Rattle.use_rules.specs.State.{Out, Sight, Log}
use Rattle.use_flow.specs.inner.Calling.{which_of}
use Rattle.use_flow.specs.inner.Ending.{followed, fields_left, leaves_fields, left}
use Rattle.use_flow.specs.inner.Followed.{Followed, own_fields, open_fields, to_states, left_open, result_out}
use Rattle.use_elements.proofs.Rests.{append_nil}

abbrev ended : Followed → Place → Bool → List Set → List Demand
ended s q b sets = if b then open_fields s q 0 (own_fields s) sets else []

module _ (s : Followed) (c : ℕ) (ts : Typestate) (tos' : List To) (q : Place) (sets : List Set) (os os' : List Out) (ds ds' : List Demand)
    (ss : List Sight) where
  pub target_ends : (b : Bool) → ts ≡ typestate_of s.program c → b ≡ list_any (may_end ts) tos' → b ≡ true →
      os' ≡ os ++ to_states s c tos' sets → ds' ≡ ds ++ open_fields s q 0 (own_fields s) sets →
      record { outs = os'; failed = ds'; sights = ss } ≡ fields_left s c tos' q sets (record { outs = os; failed = ds; sights = ss })
  target_ends b et e h eo ed =
      ap (λ (x : List Out). record { outs = x; failed = ds'; sights = ss }) eo
      ∙ ap (λ (x : List Demand). record { outs = os ++ to_states s c tos' sets; failed = x; sights = ss })
      (ed ∙ ap (λ x. ds ++ ended s q x sets) (sym h ∙ e ∙ ap (λ (ts : Typestate). list_any (may_end ts) tos') et))

  pub target_lasts : (b : Bool) → ts ≡ typestate_of s.program c → b ≡ list_any (may_end ts) tos' → b ≡ false →
      os' ≡ os ++ to_states s c tos' sets → ds' ≡ ds →
      record { outs = os'; failed = ds'; sights = ss } ≡ fields_left s c tos' q sets (record { outs = os; failed = ds; sights = ss })
  target_lasts b et e h eo ed =
      ap (λ (x : List Out). record { outs = x; failed = ds'; sights = ss }) eo
      ∙ ap (λ (x : List Demand). record { outs = os ++ to_states s c tos' sets; failed = x; sights = ss })
      (ed ∙ sym (append_nil ds) ∙ ap (λ x. ds ++ ended s q x sets) (sym h ∙ e ∙ ap (λ (ts : Typestate). list_any (may_end ts) tos') et))

pub ruleset led = (target_ends, target_lasts)

abbrev answered : Followed → Option Name → Target → List To
answered s = rules.answered s.program s.contexts s.context s.method

answered_is : (s : Followed) (label : Option Name) (t : Target) → which_of label t ≡ answered s label t
answered_is s None t = refl
answered_is s (Some l) t = refl

abbrev by : Followed → Option Name → Option Target → List To
by s label o = elim o as (λ _. List To) [ None ↦ [] | Some t ↦ answered s label t ]

module _ (s : Followed) (c q : ℕ) (label : Option Name) (place : Place) (sets : List Set) (old new : Log) where
  pub offered_left : (t : Target) → Some t ≡ target_at (typestate_of s.program c) (text_at s.program s.method.name) q →
      new ≡ fields_left s c (which_of label t) place sets old → new ≡ fields_left s c (followed s c q label) place sets old
  offered_left t e h = h ∙ ap (λ x. fields_left s c x place sets old) (answered_is s label t ∙ ap (by s label) e)

  pub unoffered_left : None ≡ target_at (typestate_of s.program c) (text_at s.program s.method.name) q → new ≡ old →
      new ≡ fields_left s c (followed s c q label) place sets old
  unoffered_left e h =
      h ∙ ap (λ (x : List Out). record { outs = x; failed = old.failed; sights = old.sights }) (sym (append_nil old.outs))
      ∙ ap (λ (x : List Demand). record { outs = old.outs ++ []; failed = x; sights = old.sights }) (sym (append_nil old.failed))
      ∙ ap (λ x. fields_left s c x place sets old) (ap (by s label) e)

pub ruleset offers = (offered_left, unoffered_left)

module _ (s : Followed) (q : Place) (label : Option Name) (x : Set) (ks : List ℕ) (sets : List Set) (os os' : List Out)
    (ds ds' : List Demand) (ss : List Sight) where
  pub method_left : (new : Log) → ds' ≡ ds ++ left_open s q ks sets → os' ≡ os ++ result_out s x →
      new ≡ leaves_fields s q label sets (record { outs = os'; failed = ds'; sights = ss }) →
      new ≡ left s q label x (reverse ks) (Some sets) (record { outs = os; failed = ds; sights = ss })
  method_left new ed eo h =
      h ∙ ap (λ (y : List Out). leaves_fields s q label sets (record { outs = y; failed = ds'; sights = ss })) eo
      ∙ ap (λ (y : List Demand). leaves_fields s q label sets (record { outs = os ++ result_out s x; failed = y; sights = ss }))
      (ed ∙ ap (λ k. ds ++ left_open s q k sets) (sym (reverse-reverse ks)))

pub ruleset places = (method_left)
