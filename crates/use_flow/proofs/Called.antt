-- What the code has behind a call of a protocol method is what the rules have.
use Rattle.std.proofs.Common.{◌≡◌, ℕ, List, [], ◌∷◌, ◌++◌, Some, ap, ◌∙◌}
use Rattle.std.specs.Prelude.{slice_set, slice_index_or}
use Rattle.mg_text.specs.Call.{Name}
use Rattle.mg_text.specs.declared.place.Place.{Place}
use Rattle.ts_tree.specs.Typestate.{Typestate}
use Rattle.jv_core.specs.declared.tree.CoreVar.{CoreVar}
use Rattle.jv_core.specs.Tree.{Method}
use Rattle.jv_core.specs.Lookup.{text_at}
use Rattle.use_rules.specs.declared.demand.Demand.{Demand}
use Rattle.use_rules.specs.Elements.{Set, image, along, targets, offering, unless_called}
use Rattle.use_rules.specs.Keys.{typestate_of}
use Rattle.use_rules.specs.State.{Out, Sight, judged}
use Rattle.use_rules.specs.Flow.{Evaluated, alike}
use Rattle.use_flow.specs.inner.Followed.{Followed, variable_at, variable_text, variable_class, variable_width, state_outs, state_results}
use Rattle.use_flow.specs.inner.Values.{protocol_call}

module _ (s : Followed) (x : CoreVar) (n : ℕ) (k : Method) (ss : List Set) (sets : List Set) (os : List Out) (ds : List Demand)
    (gs : List Sight) where
  abbrev behind : Typestate → Name → (at : ℕ) → Set → List ℕ → List ℕ → Place → ℕ → Name → ℕ → ℕ → Evaluated
  behind ts name at set qs rs place y title class width =
      alike (state_results s n k rs) (Some (slice_set sets at (image width (along targets ts name) set)))
      (record {
        outs = os ++ state_outs s n k qs ss;
        failed = ds ++ judged (unless_called ts name) place y title class set;
        sights = gs ++ record { place = x.place; variable = x.var; method = n; set = set } ∷ [];
      })

  pub call_is : (ts : Typestate) (name : Name) (at : ℕ) (set : Set) (qs rs : List ℕ) (place : Place) (y : ℕ) (title : Name) (class width : ℕ)
      (result led : Set) (now : List Set) (os' : List Out) (ds' : List Demand) (gs' : List Sight) →
      ts ≡ typestate_of s.program k.class → name ≡ text_at s.program k.name → at ≡ variable_at s x.var → set ≡ slice_index_or sets at [] →
      qs ≡ offering ts name set → rs ≡ offering ts name set → place ≡ x.place → y ≡ variable_at s x.var → title ≡ variable_text s x.var →
      class ≡ variable_class s x.var → width ≡ variable_width s x.var → result ≡ state_results s n k rs →
      led ≡ image width (along targets ts name) set → now ≡ slice_set sets at led → os' ≡ os ++ state_outs s n k qs ss →
      ds' ≡ ds ++ judged (unless_called ts name) place y title class set →
      gs' ≡ gs ++ record { place = x.place; variable = x.var; method = n; set = set } ∷ [] →
      alike result (Some now) (record { outs = os'; failed = ds'; sights = gs' })
      ≡ protocol_call s targets x n k ss (Some sets) (record { outs = os; failed = ds; sights = gs })
  call_is ts name at set qs rs place y title class width result led now os' ds' gs' et en ea es eq er ep ey ei ec ew e1 e2 e3 eo ed eg =
      let TS = typestate_of s.program k.class in
      let N = text_at s.program k.name in
      let A = variable_at s x.var in
      let S = slice_index_or sets A [] in
      let Q = offering TS N S in
      ap (λ z. alike z (Some now) (record { outs = os'; failed = ds'; sights = gs' })) e1
      ∙ ap (λ z. alike (state_results s n k rs) (Some z) (record { outs = os'; failed = ds'; sights = gs' })) (e3 ∙ ap (slice_set sets at) e2)
      ∙ ap (λ z. alike (state_results s n k rs) (Some (slice_set sets at (image width (along targets ts name) set)))
      (record { outs = z; failed = ds'; sights = gs' })) eo
      ∙ ap (λ z. alike (state_results s n k rs) (Some (slice_set sets at (image width (along targets ts name) set)))
      (record { outs = os ++ state_outs s n k qs ss; failed = z; sights = gs' })) ed
      ∙ ap (λ z. alike (state_results s n k rs) (Some (slice_set sets at (image width (along targets ts name) set)))
      (record { outs = os ++ state_outs s n k qs ss; failed = ds ++ judged (unless_called ts name) place y title class set; sights = z })) eg
      ∙ ap (λ z. behind ts name at set z rs place y title class width) eq
      ∙ ap (λ z. behind ts name at set (offering ts name set) z place y title class width) er
      ∙ ap (λ z. behind z name at set (offering z name set) (offering z name set) place y title class width) et
      ∙ ap (λ z. behind TS z at set (offering TS z set) (offering TS z set) place y title class width) en
      ∙ ap (λ z. behind TS N at z (offering TS N z) (offering TS N z) place y title class width) es
      ∙ ap (λ z. behind TS N z (slice_index_or sets z []) (offering TS N (slice_index_or sets z []))
      (offering TS N (slice_index_or sets z [])) place y title class width) ea
      ∙ ap (λ z. behind TS N A S Q Q z y title class width) ep
      ∙ ap (λ z. behind TS N A S Q Q x.place z title class width) ey
      ∙ ap (λ z. behind TS N A S Q Q x.place A z class width) ei
      ∙ ap (λ z. behind TS N A S Q Q x.place A (variable_text s x.var) z width) ec
      ∙ ap (λ z. behind TS N A S Q Q x.place A (variable_text s x.var) (variable_class s x.var) z) ew
