-- Arguments, and calls with them: what they are given fits the tables of the methods that are called, and what comes back is as the tables
-- have it.
use Rattle.std.proofs.Common.{◌≡◌, ℕ, zero, suc, ◌+◌, ◌<◌, ◌≤◌, Bool, true, false, List, [], ◌∷◌, ◌++◌, map, length, Option, Some, None}
use Rattle.std.proofs.Common.{refl, sym, ap, ◌∙◌, subst, arith, append_assoc, inl, inr, ⊎_elim, slice_get}
use Rattle.std.specs.Prelude.{◌⊎◌, if◌then◌else◌, option_map}
use Rattle.std.specs.List.{AllByRecursion}
use Rattle.mg_text.specs.Call.{Name}
use Rattle.mg_sets.specs.Sets.{has, IsSubset}
use Rattle.ts_tree.specs.declared.parts.To.{To}
use Rattle.ts_tree.specs.Typestate.{Target, One, ByAnswer, Typestate}
use Rattle.ts_tree.specs.Calls.{led_by, by_label}
use Rattle.jv_values.specs.Values.{Value, Row, Shared, Inputs}
use Rattle.jv_values.specs.Doing.{Outcome, Gives, Ends, Run, and_then, ◌>>=◌, give, found}
use Rattle.jv_values.specs.Objects.{answer_of}
use Rattle.jv_core.specs.declared.tree.Var.{Var}
use Rattle.jv_core.specs.declared.tree.CoreVar.{CoreVar}
use Rattle.jv_core.specs.declared.program.CoreType.{CoreType}
use Rattle.jv_core.specs.declared.program.CoreType.TheVariants as types
use Rattle.jv_core.specs.declared.program.MethodKind.TheVariants as kinds
use Rattle.jv_core.specs.Tree.{Program, Method, Class, Field, Enum, Expr, Exprs, Int, Truth, Text, Variable, Constant, Neg, Not, Binary}
use Rattle.jv_core.specs.Tree.{Protocol, Helper, Static, Equals, Concat, Session, New, NoExpr, Argument}
use Rattle.jv_core.specs.Tree as trees
use Rattle.jv_core.specs.Lookup.{text_at, variable_type, param_types, IsInstance}
use Rattle.jv_core.specs.Types.{CallsHelper, CallsHelperIn, IsField}
use Rattle.jv_core.specs.Conditions.{IsCore}
use Rattle.jv_core.specs.Calls.{constants_of}
use Rattle.jv_core.specs.Meaning.{Lower, eval, eval_all, read, protocol_call}
use Rattle.use_rules.specs.declared.key.Context.{Context}
use Rattle.use_rules.specs.declared.key.Context.TheVariants as contexts
use Rattle.use_rules.specs.declared.key.TableKey.TheVariants as keys
use Rattle.use_rules.specs.Elements.{Set, image, targets, along, element_of, unless_called, offering, offering_from, states_in, target_at}
use Rattle.use_rules.specs.Elements.{leads_by}
use Rattle.use_rules.specs.Keys.{Tables, AreReached, contexts_in, class_in, typestate_of, number_of}
use Rattle.use_rules.specs.State.{Now, Log, Argued, asks, sees, sends, set_of, with_set}
use Rattle.use_rules.specs.Flow as rules
use Rattle.use_rules.specs.Flow.{Evaluated, after, alike, null_test, tested}
use Rattle.use_rules.specs.Tables.{Solves}
use Rattle.use_rules.specs.inner.Order.{Mem, Flows}
use Rattle.use_rules.proofs.Members.{within_refl, within_left, within_right, mem_left, mem_right, has_member}
use Rattle.use_rules.proofs.Orders.{log_refl, flows_left, flows_right}
use Rattle.use_rules.proofs.Values as grown
use Rattle.use_kept.proofs.Roots.{class_fields, Root, Held, Opened, Onto, onto_same, onto_then, onto_is, under, under_all, to_front}
use Rattle.use_kept.proofs.Roots.{from_front, all_to_front, widen, Within}
use Rattle.use_kept.proofs.Worlds.{some_is, Holds, holds_onto}
use Rattle.use_kept.proofs.Quiets.{Quiet, quiet_in, none_asked, all_sent, before_sends, image_has}
use Rattle.use_kept.proofs.Frames.{Me, Nobody, On, Entry, held_by, variables, my_self, my_fields, local_entries, field_entries, Scoped}
use Rattle.use_kept.proofs.Frames.{IsScope, within_any, type_or_void}
use Rattle.use_kept.proofs.Running.{Good, good_then, good_as, At, all_roots, at_in, at_rest, side, side_after, side_alike, loose, given}
use Rattle.use_kept.proofs.Running.{Result, plainly_at}
use Rattle.use_kept.proofs.Reading as reading
use Rattle.use_kept.proofs.Reading.{this_of, Stands, here_of, read_plain}
use Rattle.use_kept.proofs.Moving.{width_in}
use Rattle.use_kept.proofs.Calling as calling
use Rattle.use_kept.proofs.Calling.{CallsWell, args_held, context_number, given_onto, given_behind}
use Rattle.use_kept.proofs.Operands.{loose_in, narrowed_is, asked_none, two_kept}
use Rattle.use_kept.proofs.Fielding.{arg_roots, Matched, AreTaken, args_taken, fields_taken, fields_given, held_append}

module _ (p : Program) (ok : IsCore p) (reached : List (List Bool)) (rok : AreReached p reached) (t : Tables) (solves : Solves p reached t)
    (inputs : Inputs)
    (low : Lower) (well : CallsWell p reached t low) (n : ℕ) (m : Method) (at_method : slice_get p.methods n ≡ Some m) (cx : Context)
    (me : Me)
    (on : IsInstance m.kind → me ≡ Nobody → ⊥) (sc : List ℕ) (locals : Row ℕ) (scope : IsScope m sc) (scoped : Scoped sc locals) where
  abbrev pub cs : List Context
  cs = contexts_in p reached

  abbrev pub E : ℕ → Expr → Now → Log → Evaluated
  E w e now log = rules.eval p cs cx m t w e now log

  abbrev pub EA : List ℕ → Exprs → Now → Log → Argued
  EA ws args now log = rules.eval_all p cs cx m t ws args now log

  abbrev pub M : Expr → Run Shared (Option Value)
  M e = eval p inputs low n (here_of p t ok inputs low n m me) locals e

  abbrev pub MA : Exprs → Run Shared (List Value)
  MA args = eval_all p inputs low n (here_of p t ok inputs low n m me) locals args

  abbrev pub R : Type 0 → CoreType → Set → Evaluated → Row Name → List Root → Option Value → Shared → Type 0
  R may ty set v row rest r s = Result p t m me may ty set v row locals rest r s

  abbrev pub A : Now → Row Name → List Root → Shared → Type 0
  A now row rest s = At p t m me now row locals rest s

  abbrev pub Loose : ℕ → Set → Set
  Loose w s = loose p t w s

  -- ARGUMENTS

  abbrev pub loosened : List ℕ → List Set → List Set
  loosened ws [] = []
  loosened [] (s ∷ ss) = Loose 0 s ∷ loosened [] ss
  loosened (w ∷ ws) (s ∷ ss) = Loose w s ∷ loosened ws ss

  pub record ArgsResult (may : Type 0) (tys : List CoreType) (ws : List ℕ) (a : Argued) (row : Row Name) (rest : List Root)
      (vs : List Value) (s : Shared) : Type 0 where
    pub fields : Row Name
    pub kept : (may → ⊥) → fields ≡ row
    pub matched : Matched tys (loosened ws a.sets) vs
    pub at : A a.now fields (arg_roots tys (loosened ws a.sets) vs ++ rest) s

  abbrev FromArgs : Type 0 → List CoreType → List ℕ → Now → Argued → Run Shared (List Value) → Type 0
  FromArgs may tys ws now a run = (row : Row Name) (rest : List Root) (s : Shared) → A now row rest s →
      Good p t (ArgsResult may tys ws a row rest) (run s)

  -- the first argument, and then the others
  pub first_arg : (maya mayb : Type 0) (ty : CoreType) (tys : List CoreType) (set : Set) (ws ws' : List ℕ) (v : Evaluated) (a : Argued)
      (row : Row Name) (rest : List Root) (B : Run Shared (List Value)) →
      (loosened ws' (v.set ∷ a.sets) ≡ (set ∷ loosened ws a.sets)) → FromArgs mayb tys ws (after v) a B →
      (o : Outcome Shared (Option Value)) → Good p t (R maya ty set v row rest) o →
      Good p t (ArgsResult (maya ⊎ mayb) (ty ∷ tys) ws' (record { sets = v.set ∷ a.sets; now = a.now; log = a.log }) row rest)
      (and_then (and_then o found) (λ u. B >>= λ us. give (u ∷ us)))
  first_arg maya mayb ty tys set ws ws' v a row rest B same from (Ends e es) g = g
  first_arg maya mayb ty tys set ws ws' v a row rest B same from (Gives None s) g = inl refl
  first_arg maya mayb ty tys set ws ws' v a row rest B same from (Gives (Some u) s) g =
      let c = Held (record { ty = ty; set = set; value = u }) in
      let h = at_in p t m me (side p t (Some u) v) (after v) g.fields locals (c ∷ rest) s (side_after p t (Some u) v) g.at in
      good_then p t (ArgsResult mayb tys ws a g.fields (c ∷ rest))
      (ArgsResult (maya ⊎ mayb) (ty ∷ tys) ws' (record { sets = v.set ∷ a.sets; now = a.now; log = a.log }) row rest)
      (B s) (λ us. give (u ∷ us)) (from g.fields (c ∷ rest) s h)
      (λ us s' k. record {
        fields = k.fields;
        kept = two_kept p ok t m me locals g.kept k.kept;
        matched = subst (λ ss. Matched (ty ∷ tys) ss (u ∷ us)) (sym same) k.matched;
        at = subst (λ ss. A a.now k.fields (arg_roots (ty ∷ tys) ss (u ∷ us) ++ rest) s') (sym same)
            (at_rest p t m me a.now k.fields locals (arg_roots tys (loosened ws a.sets) us ++ (c ∷ rest))
            (c ∷ (arg_roots tys (loosened ws a.sets) us ++ rest)) s'
            (to_front p t (arg_roots tys (loosened ws a.sets) us) c rest) k.at);
      })

  -- CALLS

  pub called_is : (i : ℕ) (k : Method) (call : Method → List Set → Now → Log → Evaluated) (a : Argued) → slice_get p.methods i ≡ Some k →
      rules.called p cs cx m t i call a ≡ call k a.sets a.now a.log
  called_is i k call a e = ap (λ o. elim o as (λ _. Evaluated) [ None ↦ alike [] a.now a.log | Some k ↦ call k a.sets a.now a.log ]) e

  pub widths_are : (i : ℕ) (k : Method) → slice_get p.methods i ≡ Some k → rules.widths_of p cs cx m i ≡ map (rules.width_of p cs cx m)
      (param_types k)
  widths_are i k e = ap (λ o. elim o as (λ _. List ℕ) [ None ↦ [] | Some k ↦ map (rules.width_of p cs cx m) (param_types k) ]) e

  -- where each is taken by a variable of its type, sets are as they flow
  pub tight_one : (ty : CoreType) (s : Set) → Within p t ty (Loose (rules.width_of p cs cx m ty) s) s
  tight_one types.Void s = tt
  tight_one types.Int s = tt
  tight_one types.Boolean s = tt
  tight_one types.Text s = tt
  tight_one (types.Object c) s = within_refl s
  tight_one (types.Enum e) s = tt

  tight : (tys : List CoreType) (ss : List Set) (vs : List Value) (rest : List Root) →
      Onto p t (arg_roots tys (loosened (map (rules.width_of p cs cx m) tys) ss) vs ++ rest) (arg_roots tys ss vs ++ rest)
  tight [] [] vs rest = onto_same p t rest
  tight [] (s ∷ ss) vs rest = onto_same p t rest
  tight (ty ∷ tys) [] vs rest = onto_same p t rest
  tight (ty ∷ tys) (s ∷ ss) [] rest = onto_same p t rest
  tight (ty ∷ tys) (s ∷ ss) (v ∷ vs) rest =
      onto_then p t (widen p t ty (Loose (rules.width_of p cs cx m ty) s) s v
      (arg_roots tys (loosened (map (rules.width_of p cs cx m) tys) ss) vs ++ rest) (tight_one ty s))
      (under p t (Held (record { ty = ty; set = s; value = v })) (tight tys ss vs rest))

  tight_matched : (tys : List CoreType) (ss : List Set) (vs : List Value) → Matched tys (loosened (map (rules.width_of p cs cx m) tys) ss)
      vs → Matched tys ss vs
  tight_matched [] [] [] k = tt
  tight_matched [] [] (v ∷ vs) k = absurd k
  tight_matched [] (s ∷ ss) vs k = absurd k
  tight_matched (ty ∷ tys) [] vs k = absurd k
  tight_matched (ty ∷ tys) (s ∷ ss) [] k = absurd k
  tight_matched (ty ∷ tys) (s ∷ ss) (v ∷ vs) k = tight_matched tys ss vs k

  -- the value of a call, as the rules have it
  result_wider : (ty : CoreType) (c w : ℕ) (s : Set) → (IsSubset (elim (class_in ty) [ None ↦ [] | Some k ↦ t (keys.Result c) ]) s) →
      Within p t ty (t (keys.Result c)) (Loose w s)
  result_wider types.Void c w s h = tt
  result_wider types.Int c w s h = tt
  result_wider types.Boolean c w s h = tt
  result_wider types.Text c w s h = tt
  result_wider (types.Object k) c w s h = record { within = λ e g. (loose_in p ok t m me locals w s).within e (h.within e g) }
  result_wider (types.Enum e) c w s h = tt

  given_widen : (ty : CoreType) (a b : Set) (r : Option Value) (rest : List Root) → Within p t ty a b →
      Onto p t (given p t ty a r rest) (given p t ty b r rest)
  given_widen ty a b None rest h = onto_same p t rest
  given_widen ty a b (Some v) rest h = widen p t ty a b v rest h

  given_typed : (a b : CoreType) (s : Set) (r : Option Value) (rest : List Root) → a ≡ b →
      Onto p t (given p t a s r rest) (given p t b s r rest)
  given_typed a b s r rest e = onto_is p t (ap (λ ty. given p t ty s r rest) e)

  abbrev Call : ℕ → (Method → List Set → Now → Log → Evaluated) → List ℕ → Exprs → Now → Log → Evaluated
  Call i call ws args now log = rules.called p cs cx m t i call (EA ws args now log)

  -- a static method
  static_at : (i : ℕ) (k : Method) (ty : CoreType) (w : ℕ) (tys : List CoreType) (a : Argued) (may : Type 0) (row : Row Name)
      (rest : List Root) → slice_get p.methods i ≡ Some k → k.kind ≡ kinds.Static → k.result ≡ ty →
      Quiet t ((rules.static_call p cs cx m t i k a.sets a.now a.log).log) → (vs : List Value) (s : Shared) →
      ArgsResult may (param_types k) (map (rules.width_of p cs cx m) (param_types k)) a row rest vs s →
      Good p t (R may ty (Loose w (rules.static_call p cs cx m t i k a.sets a.now a.log).set)
      (rules.static_call p cs cx m t i k a.sets a.now a.log) row rest) (low.call i None vs s)
  static_at i k ty w tys a may row rest at kind is q vs s g = go a.now q g.at
    where
      go : (now : Now) → Quiet t ((rules.static_call p cs cx m t i k a.sets now a.log).log) →
          A now g.fields (arg_roots (param_types k) (loosened (map (rules.width_of p cs cx m) (param_types k)) a.sets) vs ++ rest) s →
          Good p t (R may ty (Loose w (rules.static_call p cs cx m t i k a.sets now a.log).set)
          (rules.static_call p cs cx m t i k a.sets now a.log) row rest) (low.call i None vs s)
      go None q h = absurd h
      go (Some sets) q h =
          let c = context_number p reached t (contexts.Plain i) in
          let H = held_by sets (variables p m me g.fields locals) in
          let S = my_self m me g.fields in
          let taken = all_sent t (rules.param_outs p cs cx m c 0 (param_types k) a.sets) a.log q in
          let mt = tight_matched (param_types k) a.sets vs g.matched in
          let ready = holds_onto (onto_then p t
          (under_all p t H (under_all p t S (onto_then p t (tight (param_types k) a.sets vs rest)
          (args_taken p t cs cx m c 0 (param_types k) a.sets vs rest mt taken))))
          (onto_then p t (under_all p t H (all_to_front p t S (calling.entered_args p reached t (contexts.Plain i) k vs) rest))
          (all_to_front p t H (calling.entered_args p reached t (contexts.Plain i) k vs) (S ++ rest)))) h.1 in
          good_as p t (λ r s. Holds p t s (given p t k.result (t (keys.Result c)) r (H ++ (S ++ rest))))
          (R may ty (Loose w (rules.static_call p cs cx m t i k a.sets (Some sets) a.log).set)
          (rules.static_call p cs cx m t i k a.sets (Some sets) a.log) row rest)
          (low.call i None vs s) (well.static i k at kind vs (H ++ (S ++ rest)) s ready)
          (λ r s' k'. record {
            fields = g.fields;
            kept = g.kept;
            at = at_in p t m me (Some sets) (side p t r (alike (rules.result_in p cs cx m t c k) (Some sets) _)) g.fields locals _ s'
                (side_alike p t r (rules.result_in p cs cx m t c k) (Some sets) _) (
                  h.0,
                  holds_onto (onto_then p t (given_behind p reached t ok rok solves k.result (t (keys.Result c)) r H (S ++ rest))
                      (onto_then p t (under_all p t H (given_behind p reached t ok rok solves k.result (t (keys.Result c)) r S rest))
                      (under_all p t H (under_all p t S (onto_then p t (given_typed k.result ty (t (keys.Result c)) r rest is)
                      (given_widen ty (t (keys.Result c)) (Loose w (rules.result_in p cs cx m t c k)) r rest
                      (subst (λ ty. Within p t ty (t (keys.Result c)) (Loose w (rules.result_in p cs cx m t c k))) is
                      (result_wider k.result c w (rules.result_in p cs cx m t c k) (within_refl (rules.result_in p cs cx m t c k))))))))))
                      k',
                );
          })

  from_zero : (a b c : ℕ) → a + b ≤ c → a + (0 + b) ≤ c
  from_zero a b c h = omega arith

  -- a helper of the own class
  abbrev own : List Field
  own = class_fields p m.class

  local_below : (sc : List ℕ) (locals : Row ℕ) → IsScope m sc → Scoped sc locals → (x : Entry) → Mem x (local_entries m locals) →
      x.at < length m.slots
  local_below [] [] i s x h = absurd h
  local_below [] (e ∷ locals) i s x h = absurd s
  local_below (k ∷ sc) [] i s x h = absurd s
  local_below (k ∷ sc) (e ∷ locals) i s x h = ⊎_elim
      (λ is. subst (λ j. j < length m.slots) (sym (ap (λ (x : Entry). x.at) is ∙ s.0)) i.0) (λ l. local_below sc locals i.2 s.1 x l) h

  -- locals keep their sets where fields get others
  locals_stay : (key : ℕ → _) (sets : List Set) (rest : List Root) → Onto p t (held_by sets (local_entries m locals) ++ rest)
      (held_by (rules.with_fields p cs cx m t key sets) (local_entries m locals) ++ rest)
  locals_stay key sets rest = Rattle.use_kept.proofs.Frames.wider p t sets (rules.with_fields p cs cx m t key sets) (local_entries m locals)
      rest
      (λ x h. let lt : x.at < length m.slots = local_below sc locals scope scoped x h in
      within_any p t x.ty (set_of sets x.at) (set_of (rules.with_fields p cs cx m t key sets) x.at)
      (subst (λ s. IsSubset (set_of sets x.at) s)
      (sym (Rattle.use_kept.proofs.Fielding.with_fields_other p t cs cx m key 0 (rules.own_fields p cs cx m) sets x.at (omega (arith, lt))))
      (within_refl (set_of sets x.at))))

  split_held : (sets : List Set) (a b : List Entry) (rest : List Root) → Onto p t (held_by sets (a ++ b) ++ rest)
      (held_by sets a ++ (held_by sets b ++ rest))
  split_held sets a b rest = onto_is p t (ap (λ rs. rs ++ rest) (held_append sets a b) ∙ append_assoc (held_by sets a) (held_by sets b)
      rest)

  unite_held : (sets : List Set) (a b : List Entry) (rest : List Root) → Onto p t (held_by sets a ++ (held_by sets b ++ rest))
      (held_by sets (a ++ b) ++ rest)
  unite_held sets a b rest = onto_is p t (sym (ap (λ rs. rs ++ rest) (held_append sets a b) ∙ append_assoc (held_by sets a) (held_by sets b)
      rest))

  -- what a helper needs comes to the front
  to_helper : (locals_held fields args rest : List Root) (o : Root) → Onto p t (locals_held ++ (fields ++ (o ∷ (args ++ rest))))
      (args ++ (fields ++ (o ∷ (locals_held ++ rest))))
  to_helper L F A rest o =
      onto_then p t (all_to_front p t L F (o ∷ (A ++ rest)))
      (onto_then p t (under_all p t F (onto_then p t (to_front p t L o (A ++ rest)) (onto_then p t (under p t o (all_to_front p t L A rest))
      (from_front p t A o (L ++ rest)))))
      (all_to_front p t F A (o ∷ (L ++ rest))))

  -- and comes back
  from_helper : (locals_held fields rest : List Root) (o : Root) → Onto p t (fields ++ (o ∷ (locals_held ++ rest)))
      (locals_held ++ (fields ++ (o ∷ rest)))
  from_helper L F rest o = onto_then p t (under_all p t F (from_front p t L o rest)) (all_to_front p t F L (o ∷ rest))

  helper_on : (i : ℕ) (k : Method) (ty : CoreType) (w : ℕ) (a : Argued) (may : Type 0) → ((may → ⊥) → ⊥) →
      (row : Row Name) (rest : List Root) → slice_get p.methods i ≡ Some k → k.kind ≡ kinds.Helper →
      k.class ≡ m.class → IsInstance m.kind → k.result ≡ ty → Quiet t ((rules.helper_call p cs cx m t i k a.sets a.now a.log).log) →
      (vs : List Value) (s : Shared) (fields : Row Name) →
      Matched (param_types k) a.sets vs → (me' : Me) → me ≡ me' → At p t m me' a.now fields locals (arg_roots (param_types k) a.sets vs
      ++ rest) s →
      Good p t (λ r s. Result p t m me' may ty (Loose w (rules.helper_call p cs cx m t i k a.sets a.now a.log).set)
      (rules.helper_call p cs cx m t i k a.sets a.now a.log) row locals rest r s)
      (low.call i (this_of me') vs s)
  helper_on i k ty w a may changes row rest at kind mine inst is q vs s fields matched Nobody same h = absurd (on inst same)
  helper_on i k ty w a may changes row rest at kind mine inst is q vs s fields matched (On o st name) same h = go a.now q h
    where
      go : (now : Now) → Quiet t ((rules.helper_call p cs cx m t i k a.sets now a.log).log) → At p t m (On o st name) now fields locals
          (arg_roots (param_types k) a.sets vs ++ rest) s →
          Good p t (λ r s. Result p t m (On o st name) may ty (Loose w (rules.helper_call p cs cx m t i k a.sets now a.log).set)
          (rules.helper_call p cs cx m t i k a.sets now a.log) row locals rest r s)
          (low.call i (Some o) vs s)
      go None q h = absurd h
      go (Some sets) q h =
          let c = context_number p reached t (contexts.Plain i) in
          let L = local_entries m locals in
          let HL = held_by sets L in
          let F = field_entries (length m.slots) 0 own fields in
          let sent = before_sends t (rules.field_outs p cs cx m (keys.Enter i) sets)
          (sends (rules.param_outs p cs cx m c 0 (param_types k) a.sets) a.log) q in
          let args = args_taken p t cs cx m c 0 (param_types k) a.sets vs in
          let entering = calling.fields_held p reached t (λ f. t (keys.Enter i f)) m.class fields in
          let AR = calling.entered_args p reached t (contexts.Plain i) k vs in
          let this = Opened o m.class st name fields in
          let ready = holds_onto (onto_then p t (split_held sets L F (this ∷ (arg_roots (param_types k) a.sets vs ++ rest)))
          (onto_then p t (under_all p t HL
          (onto_then p t (fields_taken p t cs cx m (keys.Enter i) 0 own fields sets
          (this ∷ (arg_roots (param_types k) a.sets vs ++ rest))
          (all_sent t (rules.field_outs p cs cx m (keys.Enter i) sets) (sends (rules.param_outs p cs cx m c 0 (param_types k) a.sets) a.log)
          q))
          (under_all p t entering (under p t this
          (args rest matched (all_sent t (rules.param_outs p cs cx m c 0 (param_types k) a.sets) a.log sent))))))
          (to_helper HL entering AR rest this))) h.1 in
          let call = subst (λ cl. Holds p t s
          (AR ++ (calling.fields_held p reached t (λ f. t (keys.Enter i f)) cl fields
          ++ (Opened o cl st name fields ∷ (HL ++ rest))))) (sym mine) ready in
          good_as p t (calling.Helped p reached t k i o st name (HL ++ rest))
          (λ r s. Result p t m (On o st name) may ty (Loose w (rules.helper_call p cs cx m t i k a.sets (Some sets) a.log).set)
          (rules.helper_call p cs cx m t i k a.sets (Some sets) a.log) row locals rest r s)
          (low.call i (Some o) vs s) (well.helper i k at kind o st name fields vs (HL ++ rest) s call)
          (λ r s' b. back sets c r s' b.fields h.0 (subst (λ cl. Holds p t s' (given p t k.result (t (keys.Result c)) r
          (calling.fields_held p reached t (λ f. t (keys.Leave i f)) cl b.fields ++ (Opened o cl st name b.fields ∷ (HL ++ rest))))) mine
          b.holds))
        where
          back : (sets : List Set) (c : ℕ) (r : Option Value) (s' : Shared) (fields' : Row Name) → length m.slots + length own ≤ length sets
              →
              Holds p t s' (given p t k.result (t (keys.Result (context_number p reached t (contexts.Plain i)))) r
              (calling.fields_held p reached t (λ f. t (keys.Leave i f)) m.class fields'
              ++ (Opened o m.class st name fields' ∷ (held_by sets (local_entries m locals) ++ rest)))) →
              Result p t m (On o st name) may ty (Loose w (rules.helper_call p cs cx m t i k a.sets (Some sets) a.log).set)
              (rules.helper_call p cs cx m t i k a.sets (Some sets) a.log) row locals rest r s'
          back sets c0 r s' fields' wide h =
              let c = context_number p reached t (contexts.Plain i) in
              let L = local_entries m locals in
              let HL = held_by sets L in
              let F = field_entries (length m.slots) 0 own fields' in
              let leaving = calling.fields_held p reached t (λ f. t (keys.Leave i f)) m.class fields' in
              let this = Opened o m.class st name fields' in
              let sets' = rules.with_fields p cs cx m t (keys.Leave i) sets in
              let long : length sets' ≡ length sets = Rattle.use_kept.proofs.Fielding.with_fields_length p t cs cx m (keys.Leave i) 0 own
              sets in
              let G = given p t ty (Loose w (rules.result_in p cs cx m t c k)) r rest in
              record {
                fields = fields';
                kept = λ no_change. absurd (changes no_change);
                at = at_in p t m (On o st name) (Some sets') (side p t r (alike (rules.result_in p cs cx m t c k) (Some sets') _)) fields'
                    locals G s'
                    (side_alike p t r (rules.result_in p cs cx m t c k) (Some sets') _) (
                      subst (λ l. length m.slots + length own ≤ l) (sym long) wide,
                      holds_onto (onto_then p t (given_behind p reached t ok rok solves k.result (t (keys.Result c)) r leaving
                          (this ∷ (HL ++ rest)))
                          (onto_then p t (under_all p t leaving
                          (onto_then p t (calling.given_first p reached t ok rok solves k.result (t (keys.Result c)) r this
                          (HL ++ rest))
                          (under p t this (onto_then p t (given_behind p reached t ok rok solves k.result (t (keys.Result c)) r HL rest)
                          (under_all p t HL (onto_then p t (given_typed k.result ty (t (keys.Result c)) r rest is)
                          (given_widen ty (t (keys.Result c)) (Loose w (rules.result_in p cs cx m t c k)) r rest
                          (subst (λ ty. Within p t ty (t (keys.Result c)) (Loose w (rules.result_in p cs cx m t c k))) is
                          (result_wider k.result c w (rules.result_in p cs cx m t c k)
                          (within_refl (rules.result_in p cs cx m t c k)))))))))))
                          (onto_then p t (from_helper HL leaving G this)
                          (onto_then p t (locals_stay (keys.Leave i) sets (leaving ++ (this ∷ G)))
                          (onto_then p t (under_all p t (held_by sets' L) (fields_given p t cs cx m (keys.Leave i) 0 own fields' sets
                          (this ∷ G) (from_zero (length m.slots) (length own) (length sets) wide)))
                          (unite_held sets' L F (this ∷ G))))))) h,
                    );
              }

  -- a protocol method on a variable

  mem_map : {X Y : Type 0} (f : X → Y) (x : X) (xs : List X) → Mem x xs → Mem (f x) (map f xs)
  mem_map f x [] h = absurd h
  mem_map f x (y ∷ xs) h = ⊎_elim (λ e. inl (ap f e)) (λ i. inr (mem_map f x xs i)) h

  offering_has : (y : Typestate) (name : Name) (s : Set) (q : ℕ) (target : Target) → has s (suc (suc (suc q))) ≡ true →
      target_at y name q ≡ Some target → Mem q (offering y name s)
  offering_has y name s q target h e =
      has_member (offering_from y name) (λ q. elim (target_at y name q) as (λ _. List ℕ) [ None ↦ [] | Some k ↦ q ∷ [] ]) (λ k. refl)
      (λ k r. Rattle.use_rules.proofs.Rules.offering_takes y name (target_at y name k) k (offering_from y name (suc k) r)) (λ k r. refl) q 0
      (states_in s) q
      (Rattle.use_rules.proofs.Rules.states_has y name s q ∙ h)
      (subst (λ n. Mem q (elim (target_at y name n) as (λ _. List ℕ) [ None ↦ [] | Some k ↦ n ∷ [] ])) (nothing q)
      (subst (λ o. Mem q (elim o as (λ _. List ℕ) [ None ↦ [] | Some k ↦ q ∷ [] ])) (sym e) (inl refl)))
    where
      nothing : (q : ℕ) → q ≡ 0 + q
      nothing q = omega arith

  along_has : (which : Target → List To) (y : Typestate) (name : Name) (q : ℕ) (target : Target) (to : To) →
      target_at y name q ≡ Some target → Mem to (which target) →
      Mem (element_of to) (along which y name (suc (suc (suc q))))
  along_has which y name q target to e h = subst (λ o. Mem (element_of to) (leads_by which o)) (sym e)
      (mem_map element_of to (which target) h)

  pub in_targets : (target : Target) (l : Option Name) (to : To) → led_by target l ≡ Some to → Mem to (targets target)
  in_targets (One to') l to e = inl (sym (some_is e))
  in_targets (ByAnswer bs) None to e = absurd (cc)
  in_targets (ByAnswer bs) (Some label) to e = go bs e
    where
      go : (bs : List _) → by_label bs label ≡ Some to → Mem to (targets (ByAnswer bs))
      go [] e = absurd (cc)
      go (b ∷ bs) e = pick (Rattle.std.specs.Str.bytes_eq b.label label) e (λ e. go bs e)
        where
          pick : (z : Bool) → (if z then Some b.to else by_label bs label) ≡ Some to →
              (by_label bs label ≡ Some to → Mem to (targets (ByAnswer bs))) →
              Mem to (targets (ByAnswer (b ∷ bs)))
          pick true e ih = inl (sym (some_is e))
          pick false e ih = inr (ih e)

  -- how a call on a variable flows
  abbrev pub PC : (Target → List To) → CoreVar → ℕ → Method → List Set → Now → Log → Evaluated
  PC which x i k ss now log = rules.protocol_call p cs cx m t which x i k ss now log

  module _ (x : CoreVar) (i : ℕ) (k : Method) (at : slice_get p.methods i ≡ Some k) (kind : k.kind ≡ kinds.Protocol)
      (typed : variable_type p m x.var ≡ Some (types.Object k.class)) (a : Argued)
      (sets : List Set) (wide : length m.slots + length (class_fields p m.class) ≤ length sets) (fields : Row Name) (u : Value)
      (stands : Stands p t m me fields locals x.var (types.Object k.class) u) where
    abbrev ts : Typestate
    ts = typestate_of p k.class

    abbrev name : Name
    name = text_at p k.name

    abbrev x_set : Set
    x_set = set_of sets (reading.number_of m x.var)

    abbrev pub CO : List Root → Option Value → Shared → Type 0
    CO rest r s = calling.CalledOn p reached t ok rok solves low well inputs n (here_of p t ok inputs low n m me) m me fields sc locals
        scope scoped sets wide x.var i k at kind u stands rest r s

    same_mark : (y : Var) → rules.variable_at p cs cx m y ≡ reading.number_of m y
    same_mark (Rattle.jv_core.specs.declared.tree.Var.TheVariants.Slot j) = refl
    same_mark (Rattle.jv_core.specs.declared.tree.Var.TheVariants.Field j) = refl

    states_taken : (c : ℕ → ℕ) (qs : List ℕ) (ss : List Set) (q : ℕ) → Mem q qs → AreTaken t (rules.state_outs p cs cx m i k qs ss) →
        AreTaken t (rules.param_outs p cs cx m (number_of cs (contexts.Protocol k.class q i)) 0 (param_types k) ss)
    states_taken c [] ss q h taken = absurd h
    states_taken c (r ∷ qs) ss q h taken = ⊎_elim
        (λ e. λ key el f. taken key el
        (flows_left (rules.param_outs p cs cx m (number_of cs (contexts.Protocol k.class r i)) 0 (param_types k) ss)
        (rules.state_outs p cs cx m i k qs ss) key el
        (subst (λ q. Flows (rules.param_outs p cs cx m (number_of cs (contexts.Protocol k.class q i)) 0 (param_types k) ss) key el) e f)))
        (λ l. states_taken c qs ss q l
        (λ key el f. taken key el (flows_right (rules.param_outs p cs cx m (number_of cs (contexts.Protocol k.class r i)) 0
        (param_types k) ss) (rules.state_outs p cs cx m i k qs ss) key el f))) h

    -- the call, whatever is followed of it
    call_good : (which : Target → List To) (ss : List Set) (log : Log) → Quiet t ((PC which x i k ss (Some sets) log).log) →
        (vs : List Value) (rest : List Root) (s : Shared) → Matched (param_types k) ss vs →
        Holds p t s (all_roots p t m me fields locals sets (arg_roots (param_types k) ss vs ++ rest)) →
        Good p t (CO rest) (protocol_call p inputs low n (here_of p t ok inputs low n m me) i u vs s)
    call_good which ss log q vs rest s matched h =
        let seen = set_of sets (rules.variable_at p cs cx m x.var) in
        let states = offering ts name seen in
        let met = sees (record { place = x.place; variable = x.var; method = i; set = seen }) log in
        let judged = asks (rules.judged_variable p cs cx m (unless_called ts name) x.place x.var sets) met in
        let asked = before_sends t (rules.state_outs p cs cx m i k states ss) judged q in
        let none_fails = asked_none p ok t m me locals cs cx (unless_called ts name) x.place x.var sets
        (none_asked t (rules.judged_variable p cs cx m (unless_called ts name) x.place x.var sets) met asked) in
        let taken = all_sent t (rules.state_outs p cs cx m i k states ss) judged q in
        calling.protocol_good p reached t ok rok solves low well inputs n (here_of p t ok inputs low n m me) m me fields sc locals scope
        scoped sets wide x.var i k at kind u stands s vs
        (arg_roots (param_types k) ss vs) rest none_fails
        (λ q' member rs. args_taken p t cs cx m (number_of cs (contexts.Protocol k.class q' i)) 0 (param_types k) ss vs rs matched
        (states_taken (λ c. c) states ss q'
        (in_states q' member (calling.target_of p reached t ok rok solves ts q' name (none_fails (suc (suc (suc q'))) member))) taken))
        h
      where
        in_states : (q' : ℕ) → has x_set (suc (suc (suc q'))) ≡ true → calling.TargetOf p reached t ok rok solves ts q' name →
            Mem q' (offering ts name (set_of sets (rules.variable_at p cs cx m x.var)))
        in_states q' member target = offering_has ts name (set_of sets (rules.variable_at p cs cx m x.var)) q' target.target
            (ap (λ y. has (set_of sets y) (suc (suc (suc q')))) (same_mark x.var) ∙ member) target.is

    result_of_state : (c : ℕ) (qs : List ℕ) (q : ℕ) → Mem q qs →
        IsSubset (rules.result_in p cs cx m t (number_of cs (contexts.Protocol k.class q i)) k) (rules.state_results p cs cx m t i k qs)
    result_of_state c qs q h = grown.result_at p cs cx m t t (λ key. within_refl (t key)) i k q qs h

    -- what flows on: the object is where the call led
    call_followed : (which : Target → List To) (ss : List Set) (log : Log) (ty : CoreType) (w : ℕ) (may : Type 0) (row : Row Name)
        (rest : List Root) (r : Option Value) (s : Shared) → k.result ≡ ty →
        ((may → ⊥) → fields ≡ row) → (c : CO rest r s) → Mem c.to (which c.target) →
        R may ty (Loose w (PC which x i k ss (Some sets) log).set) (PC which x i k ss (Some sets) log) row rest r s
    call_followed which ss log ty w may row rest r s is kept c follows =
        let states = offering ts name (set_of sets (rules.variable_at p cs cx m x.var)) in
        let S = image (width_in p (types.Object k.class)) (along which ts name) x_set in
        let member = image_has (width_in p (types.Object k.class)) (along which ts name) x_set (suc (suc (suc c.state))) (element_of c.to)
        c.had
        (along_has which ts name c.state c.target c.to c.target_is follows) c.within in
        let res = t (keys.Result (context_number p reached t (contexts.Protocol k.class c.state i))) in
        let out = rules.state_results p cs cx m t i k states in
        let in_state = offering_has ts name (set_of sets (rules.variable_at p cs cx m x.var)) c.state c.target
        (ap (λ y. has (set_of sets y) (suc (suc (suc c.state)))) (same_mark x.var) ∙ c.had) c.target_is in
        record {
          fields = fields;
          kept = kept;
          at = at_in p t m me (rules.narrowed p cs cx m (along which ts name) x.var sets) (side p t r (PC which x i k ss (Some sets) log))
              fields locals (given p t ty (Loose w out) r rest) s
              (side_alike p t r out (rules.narrowed p cs cx m (along which ts name) x.var sets) _)
              (subst (λ now. A now fields (given p t ty (Loose w out) r rest) s)
              (sym (narrowed_is p ok t m me locals cs cx (along which ts name) x.var (types.Object k.class) sets typed))
              (at_rest p t m me (Some (with_set sets (reading.number_of m x.var) S)) fields locals (given p t k.result res r rest)
              (given p t ty (Loose w out) r rest) s
              (onto_then p t (given_typed k.result ty res r rest is)
              (given_widen ty res (Loose w out) r rest
              (subst (λ ty. Within p t ty res (Loose w out)) is
              (result_wider k.result (number_of cs (contexts.Protocol k.class c.state i)) w out
              (result_of_state 0 states c.state in_state)))))
              (c.at_set S member)));
        }

  -- The main lemma, for one expression.
  abbrev pub GoodE : Expr → CoreType → Type 0
  GoodE e ty = (w : ℕ) (now : Now) (log : Log) → Quiet t ((E w e now log).log) → (row : Row Name) (rest : List Root) (s : Shared) →
      A now row rest s →
      Good p t (R (CallsHelper e) ty (Loose w (E w e now log).set) (E w e now log) row rest) (M e s)

  abbrev pub GoodA : Exprs → List CoreType → Type 0
  GoodA args tys = (ws : List ℕ) (now : Now) (log : Log) → Quiet t ((EA ws args now log).log) →
      (row : Row Name) (rest : List Root) (s : Shared) → A now row rest s →
      Good p t (ArgsResult (CallsHelperIn args) tys ws (EA ws args now log) row rest) (MA args s)

  -- Calls, with their arguments.

  abbrev pub widths : Method → List ℕ
  widths k = map (rules.width_of p cs cx m) (param_types k)

  abbrev pub ARG : Method → Exprs → Now → Log → Argued
  ARG k args now log = EA (widths k) args now log

  pub call_flows : (i : ℕ) (k : Method) (call : Method → List Set → Now → Log → Evaluated) (args : Exprs) (now : Now) (log : Log) →
      slice_get p.methods i ≡ Some k →
      rules.called p cs cx m t i call (EA (rules.widths_of p cs cx m i) args now log) ≡ call k (ARG k args now log).sets
      (ARG k args now log).now (ARG k args now log).log
  call_flows i k call args now log at =
      ap (λ ws. rules.called p cs cx m t i call (EA ws args now log)) (widths_are i k at) ∙ called_is i k call (ARG k args now log) at

  tight_args : {may : Type 0} (k : Method) (a : Argued) (row : Row Name) (rest : List Root) (vs : List Value) (s : Shared) →
      (g : ArgsResult may (param_types k) (widths k) a row rest vs s) →
      A a.now g.fields (arg_roots (param_types k) a.sets vs ++ rest) s
  tight_args k a row rest vs s g = at_rest p t m me a.now g.fields locals (arg_roots (param_types k) (loosened (widths k) a.sets) vs
      ++ rest) (arg_roots (param_types k) a.sets vs ++ rest) s
      (tight (param_types k) a.sets vs rest) g.at

  pub static_expr : (i : ℕ) (k : Method) (ty : CoreType) (args : Exprs) (w : ℕ) → slice_get p.methods i ≡ Some k → k.kind ≡ kinds.Static →
      k.result ≡ ty → GoodA args (param_types k) →
      (sets : List Set) (log : Log) →
      Quiet t ((rules.static_call p cs cx m t i k (ARG k args (Some sets) log).sets (ARG k args (Some sets) log).now
      (ARG k args (Some sets) log).log).log) →
      (row : Row Name) (rest : List Root) (s : Shared) → A (Some sets) row rest s →
      Good p t (R (CallsHelperIn args) ty
      (Loose w (rules.static_call p cs cx m t i k (ARG k args (Some sets) log).sets (ARG k args (Some sets) log).now
      (ARG k args (Some sets) log).log).set)
      (rules.static_call p cs cx m t i k (ARG k args (Some sets) log).sets (ARG k args (Some sets) log).now
      (ARG k args (Some sets) log).log) row rest) ((MA args >>= low.call i None) s)
  static_expr i k ty args w at kind is good sets log q row rest s h =
      let a = ARG k args (Some sets) log in
      let V = rules.static_call p cs cx m t i k a.sets a.now a.log in
      good_then p t (ArgsResult (CallsHelperIn args) (param_types k) (widths k) a row rest) (R (CallsHelperIn args) ty (Loose w V.set) V row
      rest) (MA args s) (low.call i None)
      (good (widths k) (Some sets) log (quiet_in t a.log V.log (grown.static_more p cs cx m t t (λ key. within_refl (t key)) i k a.sets
      a.now a.log a.log (log_refl a.log)) q) row rest s h)
      (λ vs s' g. static_at i k ty w (param_types k) a (CallsHelperIn args) row rest at kind is q vs s' g)

  pub helper_expr : (i : ℕ) (k : Method) (ty : CoreType) (args : Exprs) (w : ℕ) → slice_get p.methods i ≡ Some k → k.kind ≡ kinds.Helper →
      k.class ≡ m.class → IsInstance m.kind → k.result ≡ ty → GoodA args (param_types k) →
      (sets : List Set) (log : Log) →
      Quiet t ((rules.helper_call p cs cx m t i k (ARG k args (Some sets) log).sets (ARG k args (Some sets) log).now
      (ARG k args (Some sets) log).log).log) →
      (row : Row Name) (rest : List Root) (s : Shared) → A (Some sets) row rest s →
      Good p t (R (Unit {0}) ty (Loose w (rules.helper_call p cs cx m t i k (ARG k args (Some sets) log).sets
      (ARG k args (Some sets) log).now (ARG k args (Some sets) log).log).set)
      (rules.helper_call p cs cx m t i k (ARG k args (Some sets) log).sets (ARG k args (Some sets) log).now
      (ARG k args (Some sets) log).log) row rest) ((MA args >>= low.call i (this_of me)) s)
  helper_expr i k ty args w at kind mine inst is good sets log q row rest s h =
      let a = ARG k args (Some sets) log in
      let V = rules.helper_call p cs cx m t i k a.sets a.now a.log in
      good_then p t (ArgsResult (CallsHelperIn args) (param_types k) (widths k) a row rest) (R (Unit {0}) ty (Loose w V.set) V row rest)
      (MA args s) (low.call i (this_of me))
      (good (widths k) (Some sets) log (quiet_in t a.log V.log (grown.helper_more p cs cx m t t (λ key. within_refl (t key)) i k a.sets
      a.now a.log a.log (log_refl a.log)) q) row rest s h)
      (λ vs s' g. helper_on i k ty w a (Unit {0}) (λ f. f tt) row rest at kind mine inst is q vs s' g.fields
      (tight_matched (param_types k) a.sets vs g.matched) me refl (tight_args k a row rest vs s' g))

  -- a variable stands where it stood, where its field can't have changed
  stands_on : (x : Var) (ty : CoreType) (u : Value) (row row' : Row Name) → variable_type p m x ≡ Some ty → (IsField x → row' ≡ row) →
      Stands p t m me row locals x ty u → Stands p t m me row' locals x ty u
  stands_on (Rattle.jv_core.specs.declared.tree.Var.TheVariants.Field f) ty u row row' typed same h =
      subst (λ row. Stands p t m me row locals (Rattle.jv_core.specs.declared.tree.Var.TheVariants.Field f) ty u) (sym (same tt)) h
  stands_on (Rattle.jv_core.specs.declared.tree.Var.TheVariants.Slot j) ty u row row' typed same h = ⊎_elim
      (λ l. mem_left (record { at = j; ty = ty; value = u }) (local_entries m locals) (my_fields p m me row') l)
      (λ r. let from : length m.slots ≤ j = Rattle.use_kept.proofs.Frames.mine_from p m me row (record { at = j; ty = ty; value = u }) r in
      let lt : j < length m.slots = slot_in m.slots j typed in absurd (omega (arith, from, lt)))
      (Rattle.use_rules.proofs.Members.mem_cases (record { at = j; ty = ty; value = u }) (local_entries m locals) (my_fields p m me row) h)
    where
      slot_in : (xs : List trees.Slot) (i : ℕ) → option_map (λ (s : trees.Slot). s.ty) (slice_get xs i) ≡ Some ty → i < length xs
      slot_in [] i e = absurd (cc)
      slot_in (x ∷ xs) zero e = omega arith
      slot_in (x ∷ xs) (suc i) e = let k : i < length xs = slot_in xs i e in omega arith

  -- A call of a protocol method, as far as where it leads: then some of its targets are followed.
  pub record Called (x : CoreVar) (i : ℕ) (k : Method) (at : slice_get p.methods i ≡ Some k) (kind : k.kind ≡ kinds.Protocol)
      (typed : variable_type p m x.var ≡ Some (types.Object k.class))
      (may : Type 0) (a : Argued) (row : Row Name) (rest : List Root) (r : Option Value) (s : Shared) : Type 0 where
    pub sets : List Set
    pub is : a.now ≡ Some sets
    pub wide : length m.slots + length (class_fields p m.class) ≤ length sets
    pub fields : Row Name
    pub kept : (may → ⊥) → fields ≡ row
    pub value : Value
    pub stands : Stands p t m me fields locals x.var (types.Object k.class) value
    pub called : CO x i k at kind typed a sets wide fields value stands rest r s

  pub protocol_called : (which : Target → List To) (x : CoreVar) (i : ℕ) (k : Method) (at : slice_get p.methods i ≡ Some k)
      (kind : k.kind ≡ kinds.Protocol)
      (typed : variable_type p m x.var ≡ Some (types.Object k.class)) (args : Exprs) → (IsField x.var → CallsHelperIn args → ⊥) →
      GoodA args (param_types k) → (sets : List Set) (log : Log) →
      Quiet t ((PC which x i k (ARG k args (Some sets) log).sets (ARG k args (Some sets) log).now (ARG k args (Some sets) log).log).log) →
      (row : Row Name) (rest : List Root) (s : Shared) → A (Some sets) row rest s →
      Good p t (Called x i k at kind typed (CallsHelperIn args) (ARG k args (Some sets) log) row rest)
      ((read p inputs low n (here_of p t ok inputs low n m me) locals x.var >>= λ v. MA args >>= λ vs. protocol_call p inputs low n
      (here_of p t ok inputs low n m me) i v vs) s)
  protocol_called which x i k at kind typed args no_helper good sets log q row rest s h =
      let a = ARG k args (Some sets) log in
      let T = Called x i k at kind typed (CallsHelperIn args) a row rest in
      let earlier = quiet_in t a.log ((PC which x i k a.sets a.now a.log).log)
      (grown.protocol_more p cs cx m t t (λ key. within_refl (t key)) which x i k a.sets a.now a.log a.log (log_refl a.log)) q in
      good_then p t (λ v s. A (Some sets) row rest s × Stands p t m me row locals x.var (types.Object k.class) v) T
      (read p inputs low n (here_of p t ok inputs low n m me) locals x.var s) (λ v. MA args >>= λ vs. protocol_call p inputs low n
      (here_of p t ok inputs low n m me) i v vs)
      (plainly_at p t ok (Stands p t m me row locals x.var (types.Object k.class)) (λ v s. A (Some sets) row rest s × Stands p t m me row
      locals x.var (types.Object k.class) v) m me (Some sets) row locals rest s
      (read p inputs low n (here_of p t ok inputs low n m me) locals x.var s) (read_plain p t ok inputs low n m me s row locals sets rest
      x.var (types.Object k.class) typed h.1) h (λ v s' a st. (a, st)))
      (λ v s1 g1. good_then p t (ArgsResult (CallsHelperIn args) (param_types k) (widths k) a row rest) T (MA args s1)
      (λ vs. protocol_call p inputs low n (here_of p t ok inputs low n m me) i v vs)
      (good (widths k) (Some sets) log earlier row rest s1 g1.0)
      (λ vs s2 g2. behind v g1.1 vs s2 g2.fields g2.kept (tight_matched (param_types k) a.sets vs g2.matched) a.now refl
      (tight_args k a row rest vs s2 g2)))
    where
      behind : (v : Value) → Stands p t m me row locals x.var (types.Object k.class) v → (vs : List Value) (s2 : Shared) (fields : Row Name)
          → ((CallsHelperIn args → ⊥) → fields ≡ row) →
          Matched (param_types k) (ARG k args (Some sets) log).sets vs → (now : Now) → (ARG k args (Some sets) log).now ≡ now →
          A now fields (arg_roots (param_types k) (ARG k args (Some sets) log).sets vs ++ rest) s2 →
          Good p t (Called x i k at kind typed (CallsHelperIn args) (ARG k args (Some sets) log) row rest)
          (protocol_call p inputs low n (here_of p t ok inputs low n m me) i v vs s2)
      behind v stands vs s2 fields kept matched None is h = absurd h
      behind v stands vs s2 fields kept matched (Some sets') is h =
          let a = ARG k args (Some sets) log in
          let st = stands_on x.var (types.Object k.class) v row fields typed (λ f. kept (no_helper f)) stands in
          good_as p t (CO x i k at kind typed a sets' h.0 fields v st rest) (Called x i k at kind typed (CallsHelperIn args) a row rest)
          (protocol_call p inputs low n (here_of p t ok inputs low n m me) i v vs s2)
          (call_good x i k at kind typed a sets' h.0 fields v st which a.sets a.log
          (subst (λ now. Quiet t ((PC which x i k a.sets now a.log).log)) is q) vs rest s2 matched h.1)
          (λ r s3 c. record { sets = sets'; is = is; wide = h.0; fields = fields; kept = kept; value = v; stands = st; called = c })

  -- what flows on of the targets that are followed
  pub called_followed : (which : Target → List To) (x : CoreVar) (i : ℕ) (k : Method) (at : slice_get p.methods i ≡ Some k)
      (kind : k.kind ≡ kinds.Protocol)
      (typed : variable_type p m x.var ≡ Some (types.Object k.class)) (may : Type 0) (a : Argued) (ty : CoreType) (w : ℕ) (row : Row Name)
      (rest : List Root) (r : Option Value) (s : Shared) → k.result ≡ ty →
      (c : Called x i k at kind typed may a row rest r s) → Mem c.called.to (which c.called.target) →
      R may ty (Loose w (PC which x i k a.sets a.now a.log).set) (PC which x i k a.sets a.now a.log) row rest r s
  called_followed which x i k at kind typed may a ty w row rest r s is c follows =
      subst (λ now. R may ty (Loose w (PC which x i k a.sets now a.log).set) (PC which x i k a.sets now a.log) row rest r s) (sym c.is)
      (call_followed x i k at kind typed a c.sets c.wide c.fields c.value c.stands which a.sets a.log ty w may row rest r s is c.kept
      c.called follows)

  pub protocol_expr : (x : CoreVar) (i : ℕ) (k : Method) (at : slice_get p.methods i ≡ Some k) (kind : k.kind ≡ kinds.Protocol)
      (typed : variable_type p m x.var ≡ Some (types.Object k.class)) (ty : CoreType) (args : Exprs) (w : ℕ) →
      k.result ≡ ty → (IsField x.var → CallsHelperIn args → ⊥) → GoodA args (param_types k) → (sets : List Set) (log : Log) →
      Quiet t ((PC targets x i k (ARG k args (Some sets) log).sets (ARG k args (Some sets) log).now (ARG k args (Some sets) log).log).log) →
      (row : Row Name) (rest : List Root) (s : Shared) → A (Some sets) row rest s →
      Good p t (R (CallsHelperIn args) ty
      (Loose w (PC targets x i k (ARG k args (Some sets) log).sets (ARG k args (Some sets) log).now
      (ARG k args (Some sets) log).log).set)
      (PC targets x i k (ARG k args (Some sets) log).sets (ARG k args (Some sets) log).now (ARG k args (Some sets) log).log) row rest)
      ((read p inputs low n (here_of p t ok inputs low n m me) locals x.var >>= λ v. MA args >>= λ vs. protocol_call p inputs low n
      (here_of p t ok inputs low n m me) i v vs) s)
  protocol_expr x i k at kind typed ty args w is no_helper good sets log q row rest s h =
      let a = ARG k args (Some sets) log in
      good_as p t (Called x i k at kind typed (CallsHelperIn args) a row rest)
      (R (CallsHelperIn args) ty (Loose w (PC targets x i k a.sets a.now a.log).set) (PC targets x i k a.sets a.now a.log) row rest)
      ((read p inputs low n (here_of p t ok inputs low n m me) locals x.var >>= λ v. MA args >>= λ vs. protocol_call p inputs low n
      (here_of p t ok inputs low n m me) i v vs) s)
      (protocol_called targets x i k at kind typed args no_helper good sets log q row rest s h)
      (λ r s' c. called_followed targets x i k at kind typed (CallsHelperIn args) a ty w row rest r s' is c
      (in_targets c.called.target (Rattle.jv_values.specs.Seen.label_in (constants_of p k.result) (answer_of r)) c.called.to c.called.led))
