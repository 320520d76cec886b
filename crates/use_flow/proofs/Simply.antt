-- What the code has behind statements without statements inside.
use Rattle.std.proofs.Common.{◌≡◌, ℕ, List, [], ◌∷◌, ◌++◌, Option, Some, None, ap, ◌∙◌}
use Rattle.std.specs.Prelude.{slice_set, codes}
use Rattle.mg_text.specs.Call.{Name}
use Rattle.mg_text.specs.declared.place.Place.{Place}
use Rattle.ts_tree.specs.Typestate.{Typestate}
use Rattle.jv_core.specs.declared.program.CoreType.{CoreType}
use Rattle.jv_core.specs.declared.tree.CoreVar.{CoreVar}
use Rattle.jv_core.specs.Tree.{Expr}
use Rattle.use_flow.specs.declared.evaluated.Value.{Value}
use Rattle.use_rules.specs.declared.demand.Demand.{Demand}
use Rattle.use_rules.specs.declared.demand.DemandKind.TheVariants as demands
use Rattle.use_elements.specs.declared.elements.Rule.TheVariants as judging
use Rattle.use_rules.specs.Elements.{Set, if_open}
use Rattle.use_rules.specs.Keys.{typestate_of}
use Rattle.use_rules.specs.State.{Now, Out, Sight, Log, Jump, joined, judged}
use Rattle.use_rules.specs.Flow.{Evaluated, flow, placed}
use Rattle.use_flow.specs.inner.Ending.{answer_of, left}
use Rattle.use_flow.specs.inner.Followed.{Followed, eval, width_of, variable_at, variable_width, class_or_none, judged_variable, left_open}
use Rattle.use_flow.specs.inner.Followed.{without, behind_variables}
use Rattle.use_flow.specs.inner.Simple.{exit, slot_width, placed_flow, declared, local, overwritten, assigned, printed_flow, printed}
use Rattle.use_flow.specs.inner.Simple.{type_dropped, dropped_flow, dropped, returned_flow, returned}
use Rattle.use_flow.specs.inner.Values.{yes_of, no_of, evaluated_of}

module _ (s : Followed) (q : Place) (ks : List ℕ) (js : List Jump) (sets sets' : List Set) (os : List Out) (ds ds' : List Demand)
    (ss : List Sight) where
  pub slots_left : ds' ≡ ds ++ left_open s q ks sets → sets' ≡ without s ks sets →
      flow (Some sets') js (record { outs = os; failed = ds'; sights = ss }) ≡ exit s q ks
      (flow (Some sets) js (record { outs = os; failed = ds; sights = ss }))
  slots_left ed es =
      ap (λ (x : List Set). flow (Some x) js (record { outs = os; failed = ds'; sights = ss })) es
      ∙ ap (λ (x : List Demand). flow (Some (without s ks sets)) js (record { outs = os; failed = x; sights = ss })) ed

pub ruleset exits = (slots_left)

module _ (s : Followed) (log : Log) (e : Expr) (la : Log) (n : Now) where
  pub declared_is : (k : ℕ) (now n' : Now) (v : Value) → evaluated_of v la ≡ eval s (slot_width s k) e now log →
      n ≡ joined (yes_of v.ways) (no_of v.ways) →
      n' ≡ placed k v.set n → flow n' [] la ≡ declared s k e now log
  declared_is k now n' v ev en ep = ap (λ x. flow x [] la) (ep ∙ ap (placed k v.set) en) ∙ ap (placed_flow k) ev

  pub local_is : (q : Place) (k : ℕ) (sets : List Set) (n' : Now) (lb : Log) → flow n [] la ≡ declared s k e (Some sets) log →
      flow n' [] lb ≡ exit s q (k ∷ []) (flow n [] la) → flow n' [] lb ≡ local s q k e sets log
  local_is q k sets n' lb ed h = h ∙ ap (exit s q (k ∷ [])) ed

  module _ (x : CoreVar) (sets : List Set) (v : Value) (ev : evaluated_of v la ≡ eval s (variable_width s x.var) e (Some sets) log)
      (en : n ≡ joined (yes_of v.ways) (no_of v.ways)) where
    ended : (m : Now) → m ≡ n → overwritten s x (evaluated_of v la) m ≡ assigned s x e sets log
    ended m em = ap (overwritten s x (evaluated_of v la)) (em ∙ en) ∙ ap (λ (y : Evaluated). overwritten s x y (joined y.yes y.no)) ev

    pub assigned_none : None ≡ n → flow None [] la ≡ assigned s x e sets log
    assigned_none em = ended None em

    pub assigned_some : (now now' : List Set) (ds' : List Demand) → Some now ≡ n → ds' ≡ la.failed ++ judged_variable s judging.Overwritten
        x.place x.var now →
        now' ≡ slice_set now (variable_at s x.var) v.set →
        flow (Some now') [] (record { outs = la.outs; failed = ds'; sights = la.sights }) ≡ assigned s x e sets log
    assigned_some now now' ds' em ed es =
        ap (λ (y : List Set). flow (Some y) [] (record { outs = la.outs; failed = ds'; sights = la.sights })) es
        ∙ ap (λ (y : List Demand). flow (Some (slice_set now (variable_at s x.var) v.set)) []
        (record { outs = la.outs; failed = y; sights = la.sights })) ed
        ∙ ended (Some now) em

  pub printed_is : (sets : List Set) (v : Value) → evaluated_of v la ≡ eval s 0 e (Some sets) log →
      n ≡ joined (yes_of v.ways) (no_of v.ways) →
      flow n [] la ≡ printed s e sets log
  printed_is sets v ev en = ap (λ (y : Now). flow y [] la) en ∙ ap printed_flow ev

  dropped_is : (q : Place) (c y : ℕ) (ts : Typestate) (sets : List Set) (v : Value) (ds' : List Demand) → y ≡ behind_variables s →
      ts ≡ typestate_of s.program c → evaluated_of v la ≡ eval s 0 e (Some sets) log →
      n ≡ joined (yes_of v.ways) (no_of v.ways) → ds' ≡ la.failed ++ judged (if_open demands.LeftOpen ts) q y (codes "value") c v.set →
      flow n [] (record { outs = la.outs; failed = ds'; sights = la.sights }) ≡ dropped_flow s q c (eval s 0 e (Some sets) log)
  dropped_is q c y ts sets v ds' ey et ev en ed =
      ap (λ (y : Now). flow y [] (record { outs = la.outs; failed = ds'; sights = la.sights })) en
      ∙ ap (λ (y : List Demand). flow (joined (yes_of v.ways) (no_of v.ways)) [] (record { outs = la.outs; failed = y; sights = la.sights }))
      (ed ∙ ap (λ (ts : Typestate). la.failed ++ judged (if_open demands.LeftOpen ts) q y (codes "value") c v.set) et
      ∙ ap (λ z. la.failed ++ judged (if_open demands.LeftOpen (typestate_of s.program c)) q z (codes "value") c v.set) ey)
      ∙ ap (dropped_flow s q c) ev

  pub dropped_as : (q : Place) (o : Option CoreType) (c y : ℕ) (ts : Typestate) (sets : List Set) (v : Value) (ds' : List Demand)
      → o ≡ type_dropped s e → c ≡ class_or_none s o → y ≡ behind_variables s → ts ≡ typestate_of s.program c → evaluated_of v la ≡ eval s 0 e (Some sets) log →
      n ≡ joined (yes_of v.ways) (no_of v.ways) → ds' ≡ la.failed ++ judged (if_open demands.LeftOpen ts) q y (codes "value") c v.set →
      flow n [] (record { outs = la.outs; failed = ds'; sights = la.sights }) ≡ dropped s q e sets log
  dropped_as q o c y ts sets v ds' eo ec ey et ev en ed =
      dropped_is q c y ts sets v ds' ey et ev en ed
      ∙ ap (λ (d : ℕ). dropped_flow s q d (eval s 0 e (Some sets) log)) (ec ∙ ap (class_or_none s) eo)

  pub returned_is : (q : Place) (sc : List ℕ) (sets : List Set) (v : Value) (label : Option Name) (lb : Log) →
      evaluated_of v la ≡ eval s (width_of s s.method.result) e (Some sets) log → n ≡ joined (yes_of v.ways) (no_of v.ways) →
      label ≡ answer_of s (Some e) →
      lb ≡ left s q label v.set sc n la → flow None [] lb ≡ returned s q e sc sets log
  returned_is q sc sets v label lb ev en el h =
      ap (λ y. flow None [] y) (h ∙ ap (λ y. left s q y v.set sc n la) el ∙ ap (λ y. left s q (answer_of s (Some e)) v.set sc y la) en)
      ∙ ap (returned_flow s q e sc) ev

pub ruleset locals = (declared_is)

pub ruleset assignments = (assigned_none, assigned_some)

pub ruleset returns = (returned_is)
