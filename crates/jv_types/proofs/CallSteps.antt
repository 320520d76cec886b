-- The faults of calls, from those of their parts.
use Rattle.std.proofs.Common.{◌≡◌, suc, List, [], ◌∷◌, ◌++◌, map, length, Option, Some, None, Bool, true, false, not, ◌||◌, ◌==◌, refl, sym}
use Rattle.std.proofs.Common.{ap, ◌∙◌}
use Rattle.std.specs.Option.{option_or, is_some, option_map}
use Rattle.std.proofs.lemmas.List.{map-append}
use Rattle.mg_text.specs.Call.{Name}
use Rattle.mg_text.specs.declared.place.Place.{Place}
use Rattle.mg_read.specs.Culprit.{Culprit, culprit}
use Rattle.jv_tree.specs.declared.tree.Expr.{Expr as KeptExpr}
use Rattle.jv_tree.specs.Source.{Expr, Exprs, NoExpr, Argument}
use Rattle.jv_tree.specs.View.{expr_of, exprs_of}
use Rattle.jv_rules.specs.declared.condition.Condition.{Condition}
use Rattle.jv_rules.specs.declared.condition.Condition.TheVariants as conditions
use Rattle.jv_rules.specs.Types.{ValueType, Signature}
use Rattle.jv_rules.specs.Scope.{Scope}
use Rattle.jv_rules.specs.Typing.{type_of}
use Rattle.jv_rules.specs.Taking.{Fitting, Taken, Takes, all_taken, arguments, paired, count_of}
use Rattle.jv_rules.specs.inner.Deciding.{when, told, first_by, type_mismatch, count_differs, calls_helper, calls_helper_in}
use Rattle.jv_types.specs.declared.value_type.ValueType.{ValueType as KeptType}
use Rattle.jv_types.specs.declared.calls.Given.{Given}
use Rattle.jv_types.specs.declared.calls.Site.{Site}
use Rattle.jv_types.specs.inner.View.{type_seen}
use Rattle.jv_types.specs.inner.Judging.{expr_fault, args_fault, IsChecked, misfit, args_misfit, at_place}
use Rattle.jv_types.specs.inner.Calls.{types_in, AreChecked, call_told, own_told, moves_told, site_told, method_told, IsSite}
use Rattle.jv_types.proofs.Faulting.{first_by-append, one_taken}

-- how many arguments there are
pub count_is : (args : List KeptExpr) → count_of (exprs_of (map expr_of args)) ≡ length args
count_is [] = refl
count_is (e ∷ es) = ap suc (count_is es)

pub types_count : (s : Scope) (args : List KeptExpr) (types : List KeptType) → types_in s (exprs_of (map expr_of args)) ≡ map
    (λ t. Some (type_seen t)) types → length types ≡ length args
types_count s [] [] h = refl
types_count s [] (t ∷ ts) h = let no : ⊥ = cc in absurd no
types_count s (e ∷ es) [] h = let no : ⊥ = cc in absurd no
types_count s (e ∷ es) (t ∷ ts) h = let rest : types_in s (exprs_of (map expr_of es)) ≡ map (λ t. Some (type_seen t)) ts = cc in ap suc
    (types_count s es ts rest)

-- what is told of a call, one after another
module _ (p : Place) (own moves : Option Culprit) where
  pub told_mismatch : (c : Culprit) (m : Option Culprit) (b : Bool) → m ≡ Some c →
      call_told p m b own moves ≡ Some (conditions.TypeMismatch, c)
  told_mismatch c m b e = ap (λ z. call_told p z b own moves) e

  pub told_count : (m : Option Culprit) (b : Bool) → m ≡ None → b ≡ false →
      call_told p m b own moves ≡ Some (conditions.Arity, culprit p [])
  told_count m b e f = ap (λ z. call_told p z b own moves) e ∙ ap (λ z. call_told p None z own moves) f

  pub told_later : (m : Option Culprit) (b : Bool) → m ≡ None → b ≡ true → call_told p m b own moves ≡ told conditions.SelfCall own
      (told conditions.ArgsMayMove moves None)
  told_later m b e f = ap (λ z. call_told p z b own moves) e ∙ ap (λ z. call_told p None z own moves) f

module _ (s : Scope) where
  -- arguments of known types
  pub args_taken : (args : Exprs) (params : List ValueType) (types : List KeptType) → types_in s args ≡ map (λ t. Some (type_seen t)) types
      →
      first_by type_mismatch (all_taken s (paired args params)) ≡ args_misfit args params (map type_seen types)
  args_taken NoExpr params types h = refl
  args_taken (Argument e more) [] types h = refl
  args_taken (Argument e more) (p ∷ ps) [] h = let no : ⊥ = cc in absurd no
  args_taken (Argument e more) (p ∷ ps) (t ∷ ts) h =
      let typed : type_of s e ≡ Some (type_seen t) = cc in
      let rest : types_in s more ≡ map (λ t. Some (type_seen t)) ts = cc in
      one_taken s e (type_seen t) typed (Fitting p) (paired more ps) ∙ ap (option_or (misfit (Fitting p) e (type_seen t)))
      (args_taken more ps ts rest)

  pub taken_append : (xs ys : List Taken) → first_by type_mismatch (all_taken s (xs ++ ys)) ≡ option_or
      (first_by type_mismatch (all_taken s xs)) (first_by type_mismatch (all_taken s ys))
  taken_append xs ys = ap (first_by type_mismatch) (map-append (Takes s) xs ys) ∙ first_by-append type_mismatch (all_taken s xs)
      (all_taken s ys)

  -- what the node of a call answers, whose name has this signature or none, and whose receiver has this misfit
  abbrev pub node_told : Place → Name → Option Signature → Option Culprit → Exprs → (own moves : Option Culprit) →
      Option (Condition × Culprit)
  node_told p n o r args own moves =
      told conditions.UnknownName (when (not (is_some o)) (culprit p n))
      (told conditions.TypeMismatch (option_or r (first_by type_mismatch (all_taken s (arguments o args))))
      (told conditions.Arity (count_differs p o args) (told conditions.SelfCall own (told conditions.ArgsMayMove moves None))))

  module _ (e : Expr) (site : Site) (o : Option Signature) (args : Exprs) where
    module _ (r own moves : Option Culprit)
        (whole : expr_fault s e ≡ option_or (args_fault s args) (node_told site.place site.name.now o r args own moves))
        (typed : type_of s e ≡ option_map (λ z. z.result) o)
        (helper : calls_helper s e ≡ (site.helper || calls_helper_in s args)) (rcv : option_map at_place site.receiver ≡ r)
        (is_own : own_told site ≡ own)
        (moving : moves_told site (calls_helper_in s args) ≡ moves) where
      abbrev at : Signature → Option Culprit → Option Culprit → Option Culprit → Option (Condition × Culprit)
      at sig r' own' moves' =
          option_or (args_fault s args) (call_told site.place (option_or r' (first_by type_mismatch (all_taken s (paired args sig.params))))
          (count_of args == length sig.params) own' moves')

      known_part : (sig : Signature) → o ≡ Some sig → expr_fault s e ≡ option_or (args_fault s args) (method_told s site args sig)
      known_part sig h =
          whole ∙ ap (λ z. option_or (args_fault s args) (node_told site.place site.name.now z r args own moves)) h
          ∙ ap (λ z. at sig z own moves) (sym rcv) ∙ ap (λ z. at sig (option_map at_place site.receiver) z moves) (sym is_own) ∙
          ap (at sig (option_map at_place site.receiver) (own_told site)) (sym moving)

      pub built : IsSite s e site o args
      built = record {
        unknown = λ h. whole ∙ ap (λ z. option_or (args_fault s args) (node_told site.place site.name.now z r args own moves)) h;
        known = known_part;
        typed = typed;
        helper = helper;
      }

    -- arguments that are fine
    module _ (k : IsSite s e site o args) (g : Given) (h : AreChecked s args g) where
      pub unknown_method : o ≡ None → expr_fault s e ≡ Some (conditions.UnknownName, culprit site.place site.name.now)
      unknown_method n = k.unknown n ∙ ap (λ z. option_or z (Some (conditions.UnknownName, culprit site.place site.name.now))) h.fine

      module _ (sig : Signature) (is : o ≡ Some sig) where
        abbrev with_parts : Option Culprit → Bool → Option (Condition × Culprit)
        with_parts m b = call_told site.place (option_or (option_map at_place site.receiver) m) (count_of args == length sig.params)
            (own_told site) (moves_told site b)

        pub known_method : expr_fault s e ≡ site_told site args sig.params (map type_seen g.types.items) g.helper
        known_method =
            k.known sig is ∙ ap (λ z. option_or z (method_told s site args sig)) h.fine
            ∙ ap (λ m. with_parts m (calls_helper_in s args)) (args_taken args sig.params g.types.items h.typed) ∙
            ap (with_parts (args_misfit args sig.params (map type_seen g.types.items))) (sym h.helper)

        pub method_fine : site_told site args sig.params (map type_seen g.types.items) g.helper ≡ None → (ty : KeptType) (helper : Bool) →
            type_seen ty ≡ sig.result → helper ≡ (site.helper || g.helper) →
            IsChecked s e (record { ty = ty; helper = helper })
        method_fine f ty helper t u = record {
          fine = known_method ∙ f;
          typed = k.typed ∙ ap (option_map (λ z. z.result)) is ∙ ap Some (sym t);
          helper = u ∙ ap (λ b. site.helper || b) h.helper ∙ sym k.helper;
        }

pub ruleset sites = (told_mismatch, told_count, told_later, count_is)
