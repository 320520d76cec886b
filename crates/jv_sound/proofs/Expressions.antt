-- Well typed expressions end well, and give values of their types.
use Rattle.std.proofs.Common.{◌≡◌, ◌≢◌, ℕ, zero, suc, true, List, [], ◌∷◌, map, take, Option, Some, None, refl, sym, ap, ◌∙◌, subst}
use Rattle.std.specs.Prelude.{slice_get, option_map, option_and_then, nat_eq}
use Rattle.std.specs.List.{AllByRecursion}
use Rattle.mg_text.specs.Call.{Name}
use Rattle.jv_values.specs.Values.{Value, Row, Shared, Wrong, Inputs, Here, find}
use Rattle.jv_values.specs.Values as values
use Rattle.jv_values.specs.Doing.{Run, ◌>>=◌, give, found, valued, valuing}
use Rattle.jv_values.specs.Objects.{object_of, read_field, make, receiver, telling}
use Rattle.jv_values.specs.Operators.{equal_texts, joined_texts, negative, opposite}
use Rattle.jv_values.specs.Messages.{session}
use Rattle.jv_values.specs.Calls.{suits}
use Rattle.jv_core.specs.declared.tree.Var.{Var}
use Rattle.jv_core.specs.declared.tree.Var.TheVariants as vars
use Rattle.jv_tree.specs.declared.built_in.SessionCall.{SessionCall}
use Rattle.jv_tree.specs.declared.built_in.SessionCall.TheVariants as calls
use Rattle.jv_core.specs.declared.program.CoreType.{CoreType}
use Rattle.jv_core.specs.declared.program.CoreType.TheVariants as types
use Rattle.jv_core.specs.declared.program.MethodKind.TheVariants as kinds
use Rattle.jv_core.specs.Tree.{Expr, Exprs, Program, Class, Field, Enum, Slot, Method}
use Rattle.jv_core.specs.Lookup.{text_at, class_text, enum_text, slot_type, field_type, variable_type, param_types, IsInstance}
use Rattle.jv_core.specs.Types.{session_params, session_result, IsVariable, IsCalled, HasTypestate, Has, HasAll}
use Rattle.jv_core.specs.Types
use Rattle.jv_core.specs.Members.{IsUsable, IsField}
use Rattle.jv_core.specs.Conditions.{IsSlot, IsMethod, IsCore}
use Rattle.jv_core.specs.Meaning.{Lower, runs_on_object, new_fields, own_field, read, protocol_call, eval, eval_all}
use Rattle.jv_sound.proofs.Lists.{some_is, each_at}
use Rattle.jv_sound.proofs.Worlds.{World, Extends, stays, same_world, further, Runs, runs_give, runs_then, runs_stop, runs_found, runs_at}
use Rattle.jv_sound.proofs.Worlds.{runs_later, runs_as, Fits, fits_more, GivesA, gives_more, AllFit, all_more, RowFits, row_more, finds}
use Rattle.jv_sound.proofs.Worlds as worlds
use Rattle.jv_sound.proofs.Operators.{OfType, valued_runs, valuing_runs, negative_runs, opposite_runs, equal_texts_runs, joined_texts_runs}
use Rattle.jv_sound.proofs.Operators.{both_runs, sum_of, text_and_of, and_text_of, arithmetic_of, order_of, logic_of, same_of, is_null_of}
use Rattle.jv_sound.proofs.Operators.{null_is_of}
use Rattle.jv_sound.proofs.Sessions.{session_runs}
use Rattle.jv_sound.proofs.Objects.{Heap, noted, IsObject, object_runs, Owned, owned_more, read_runs, make_runs, receiver_runs}
use Rattle.jv_sound.proofs.Objects.{telling_runs, begun}

-- Types of variables and parameters are types of values.

record Maps {A B : Type 0} (f : A → B) (o : Option A) (b : B) : Type 0 where
  from : A
  is : o ≡ Some from
  gives : f from ≡ b

maps : {A B : Type 0} (f : A → B) (o : Option A) (b : B) → option_map f o ≡ Some b → Maps f o b
maps f None b e = absurd (cc)
maps f (Some a) b e = record { from = a; is = refl; gives = some_is e }

pub usable : (p : Program) (t : CoreType) → IsUsable p t → t ≢ types.Void
usable p t u e = subst (IsUsable p) e u

pub record FieldAt (p : Program) (c f : ℕ) (t : CoreType) : Type 0 where
  pub class : Class
  pub at : slice_get p.classes c ≡ Some class
  pub field : Field
  pub field_at : slice_get class.fields f ≡ Some field
  pub type : field.ty ≡ t

field_in : (p : Program) (c f : ℕ) (t : CoreType) (o : Option Class) → slice_get p.classes c ≡ o →
    option_and_then (λ k. option_map (λ d. d.ty) (slice_get k.fields f)) o ≡ Some t → FieldAt p c f t
field_in p c f t None at e = absurd (cc)
field_in p c f t (Some k) at e =
    let d = maps (λ (d : Field). d.ty) (slice_get k.fields f) t e in
    record { class = k; at = at; field = d.from; field_at = d.is; type = d.gives }

pub field_at : (p : Program) (c f : ℕ) (t : CoreType) → field_type p c f ≡ Some t → FieldAt p c f t
field_at p c f t e = field_in p c f t (slice_get p.classes c) refl e

module _ (p : Program) (ok : IsCore p) where
  pub method_ok : (n : ℕ) (m : Method) → slice_get p.methods n ≡ Some m → IsMethod p m
  method_ok n m at = each_at (IsMethod p) p.methods n ok.methods at

  slot_usable : (m : Method) → IsMethod p m → (k : ℕ) (t : CoreType) → slot_type m k ≡ Some t → IsUsable p t
  slot_usable m is k t e =
      let s = maps (λ (s : Slot). s.ty) (slice_get m.slots k) t e in
      subst (IsUsable p) s.gives (each_at (IsSlot p) m.slots k is.slots s.is).type

  field_usable : (c f : ℕ) (t : CoreType) → field_type p c f ≡ Some t → IsUsable p t
  field_usable c f t e =
      let d = field_at p c f t e in
      subst (IsUsable p) d.type (each_at (IsField p) d.class.fields f (ok.classes c d.class d.at).fields d.field_at).type

  pub variable_usable : (m : Method) → IsMethod p m → (x : Var) (t : CoreType) → variable_type p m x ≡ Some t → IsUsable p t
  variable_usable m is (vars.Slot k) t e = slot_usable m is k t e
  variable_usable m is (vars.Field f) t e = field_usable m.class f t e

  abbrev NoVoid : CoreType → Type 0
  NoVoid t = t ≢ types.Void

  first_usable : (n : ℕ) (slots : List Slot) → AllByRecursion (IsSlot p) slots → AllByRecursion NoVoid (map (λ s. s.ty) (take n slots))
  first_usable zero slots all = tt
  first_usable (suc n) [] all = tt
  first_usable (suc n) (s ∷ slots) all = (usable p s.ty all.0.type, first_usable n slots all.1)

  params_usable : (k : Method) → IsMethod p k → AllByRecursion NoVoid (param_types k)
  params_usable k is = first_usable k.params k.slots is.slots

  pub session_usable : (c : SessionCall) → AllByRecursion NoVoid (session_params c)
  session_usable calls.Send = ((λ e. cc), ((λ e. cc), tt))
  session_usable calls.SendInt = ((λ e. cc), ((λ e. cc), ((λ e. cc), tt)))
  session_usable calls.SendBoolean = ((λ e. cc), ((λ e. cc), ((λ e. cc), tt)))
  session_usable calls.SendString = ((λ e. cc), ((λ e. cc), ((λ e. cc), tt)))
  session_usable calls.Look = ((λ e. cc), tt)
  session_usable calls.Take = ((λ e. cc), ((λ e. cc), tt))
  session_usable calls.TakeInt = ((λ e. cc), ((λ e. cc), tt))
  session_usable calls.TakeBoolean = ((λ e. cc), ((λ e. cc), tt))
  session_usable calls.TakeString = ((λ e. cc), ((λ e. cc), tt))
  session_usable calls.Refuse = ((λ e. cc), ((λ e. cc), tt))

  -- what a method runs on
  pub record Callable (w : World) (k : Method) (this : Option ℕ) : Type 0 where
    pub suits : suits (runs_on_object k.kind) this ≡ true
    pub owned : IsInstance k.kind → Owned p ok w k.class this

  abbrev pub Result : CoreType → World → Option Value → Type 0
  Result t w r = GivesA p w r t

  -- calls of methods end well
  abbrev pub CallsWell : Lower → Type 0
  CallsWell low = (n : ℕ) (k : Method) → slice_get p.methods n ≡ Some k → (w : World) (this : Option ℕ) (vs : List Value) →
      Callable w k this → AllFit p w vs (param_types k) →
      Runs (Heap p ok) (Result k.result) w (low.call n this vs)

  -- code of method m, which has number n
  module _ (inputs : Inputs) (low : Lower) (well : CallsWell low) (n : ℕ) (m : Method) (at : slice_get p.methods n ≡ Some m)
      (this : Option ℕ) where
    abbrev pub here : Here ℕ
    here = record { class = m.class; object = this }

    abbrev pub This : World → Type 0
    This w = IsInstance m.kind → Owned p ok w m.class this

    pub this_more : {w x : World} → Extends w x → This w → This x
    this_more q o i = owned_more p ok q (o i)

    abbrev pub H : World → Shared → Type 0
    H = Heap p ok

    abbrev pub Typed : CoreType → World → Value → Type 0
    Typed t = OfType p H t

    -- the names of an own field
    pub field_runs : {B : Type 0} (P : World → B → Type 0) (w : World) (f : ℕ) (t : CoreType) (d : FieldAt p m.class f t)
        (go : Name × Name → Run Shared B) →
        Runs H P w (go (text_at p d.class.name, text_at p d.field.name)) → Runs H P w (own_field p inputs low n here f >>= go)
    field_runs P w f t d go r =
        subst (λ o. Runs H P w ((found o >>= λ k. found (slice_get k.fields f) >>= λ e. give
        (text_at p k.name, text_at p e.name)) >>= go)) (sym d.at)
        (subst (λ o. Runs H P w ((found o >>= λ e. give (text_at p d.class.name, text_at p e.name)) >>= go)) (sym d.field_at) r)

    pub read_good : {sc : List ℕ} {t : CoreType} {row : Row ℕ} (x : Var) → IsVariable p m sc x t → (w : World) → This w →
        RowFits p m w sc row → Runs H (Typed t) w (read p inputs low n here row x)
    read_good {t = t} {row = row} (vars.Slot k) v w o r =
        let f = finds p m k r v.visible v.type in
        runs_found H (Typed t) w (find nat_eq k row) f.value f.is (λ y q. fits_more p q f.fits)
    read_good {t = t} (vars.Field f) v w o r =
        let d = field_at p m.class f t v.type in
        field_runs (Typed t) w f t d (λ names. read_field names.0 this names.1)
        (subst (λ t. Runs H (Typed t) w (read_field (text_at p d.class.name) this (text_at p d.field.name))) d.type
        (read_runs p ok w m.class d.class this f d.field d.at (o v.visible) d.field_at))

    int_value : types.Int ≢ types.Void
    int_value e = cc

    boolean_value : types.Boolean ≢ types.Void
    boolean_value e = cc

    text_value : types.Text ≢ types.Void
    text_value e = cc

    object_value : (c : ℕ) → types.Object c ≢ types.Void
    object_value c e = cc

    call_good : (i : ℕ) (k : Method) (t : CoreType) → slice_get p.methods i ≡ Some k → k.result ≡ t →
        (w : World) (on : Option ℕ) (vs : List Value) → Callable w k on → AllFit p w vs (param_types k) →
        Runs H (Result t) w (low.call i on vs)
    call_good i k t at is w on vs c f = subst (λ t. Runs H (Result t) w (low.call i on vs)) is (well i k at w on vs c f)

    -- a protocol method on an object of its class
    protocol_good : (i : ℕ) (k : Method) (t : CoreType) → IsCalled p m i kinds.Protocol k → k.result ≡ t →
        (w : World) (v : Value) (vs : List Value) → Fits p w v (types.Object k.class) → AllFit p w vs (param_types k) →
        Runs H (Result t) w (protocol_call p inputs low n here i v vs)
    protocol_good i k t is e w v vs fv fs =
        let c = method_ok i k is.at in
        let name = text_at p c.class.name in
        let call = λ (o : ℕ). telling o (text_at p k.name) (low.call i (Some o) vs) in
        runs_then H (λ w o. slice_get w o ≡ Some k.class) (Result t) w (receiver v)
        (λ o. found (slice_get p.methods i) >>= λ k. found (class_text p k.class) >>= λ c. object_of c o >>= λ j. telling o
        (text_at p k.name) (low.call i (Some o) vs))
        (receiver_runs p ok k.class w v fv)
        (λ x o q of. runs_at H (Result t) x (slice_get p.methods i) k
        (λ k. found (class_text p k.class) >>= λ c. object_of c o >>= λ j. telling o (text_at p k.name)
        (low.call i (Some o) vs)) is.at
        (runs_at H (Result t) x (class_text p k.class) name (λ c. object_of c o >>= λ j. call o)
        (ap (option_map (λ (k : Class). text_at p k.name)) c.class_at)
        (runs_then H (IsObject p ok c.class) (Result t) x (object_of name o) (λ j. call o)
        (object_runs p ok x o k.class c.class of c.class_at)
        (λ y j z is_object. telling_runs p ok t y o (text_at p k.name) (low.call i (Some o) vs)
        (call_good i k t is.at e y (Some o) vs (record {
          suits = ap (λ kind. suits (runs_on_object kind) (Some o)) is.kind_is;
          owned =
              λ u. record { object = o; is = refl; of = stays _ _ z of };
        }) (all_more p (further q z) fs))))))

    abbrev Args : List CoreType → World → List Value → Type 0
    Args ts w vs = AllFit p w vs ts

    mutual
      pub eval_good : {sc : List ℕ} {e : Expr} {t : CoreType} {row : Row ℕ} → Has p m sc e t → (w : World) → This w →
          RowFits p m w sc row → Runs H (Result t) w (eval p inputs low n here row e)
      eval_good Types.int w o r = runs_give H (Result types.Int) w _ (λ x q. worlds.value worlds.int)
      eval_good Types.truth w o r = runs_give H (Result types.Boolean) w _ (λ x q. worlds.value worlds.truth)
      eval_good Types.text w o r = runs_give H (Result types.Text) w _ (λ x q. worlds.value worlds.text)
      eval_good (Types.null {c = c}) w o r = runs_give H (Result (types.Object c)) w _ (λ x q. worlds.value worlds.null)
      eval_good {t} (Types.variable {x = x} v) w o r = valuing_runs p H t w _ (read_good x v w o r)
      eval_good (Types.constant {e = e} {n = i} {d = d} is lt) w o r =
          valuing_runs p H (types.Enum e) w _ (runs_at H (Typed (types.Enum e)) w (enum_text p e) (text_at p d.name)
          (λ name. give (values.Constant name i)) (ap (option_map (λ (d : Enum). text_at p d.name)) is)
          (runs_give H (Typed (types.Enum e)) w _ (λ x q. worlds.constant (ap (option_map (λ (d : Enum). text_at p d.name)) is))))
      eval_good {row} (Types.negative {a = a} x) w o r =
          valuing_runs p H types.Int w _ (runs_then H (Typed types.Int) (Typed types.Int) w
          (valued (eval p inputs low n here row a)) negative (valued_runs p H types.Int w _ int_value (eval_good x w o r))
          (λ y v q f. negative_runs p H y v f))
      eval_good {row} (Types.opposite {a = a} x) w o r =
          valuing_runs p H types.Boolean w _ (runs_then H (Typed types.Boolean) (Typed types.Boolean) w
          (valued (eval p inputs low n here row a)) opposite (valued_runs p H types.Boolean w _ boolean_value (eval_good x w o r))
          (λ y v q f. opposite_runs p H y v f))
      eval_good (Types.sum x y) w o r = valuing_runs p H types.Int w _
          (sum_of p H w _ _ (valued_runs p H types.Int w _ int_value (eval_good x w o r))
          (valued_runs p H types.Int w _ int_value (eval_good y w o r)))
      eval_good (Types.text_and {t = types.Int} x y i) w o r =
          valuing_runs p H types.Text w _ (text_and_of p H types.Int w _ _ i
          (valued_runs p H types.Text w _ text_value (eval_good x w o r))
          (valued_runs p H types.Int w _ int_value (eval_good y w o r)))
      eval_good (Types.text_and {t = types.Boolean} x y i) w o r =
          valuing_runs p H types.Text w _ (text_and_of p H types.Boolean w _ _ i
          (valued_runs p H types.Text w _ text_value (eval_good x w o r))
          (valued_runs p H types.Boolean w _ boolean_value (eval_good y w o r)))
      eval_good (Types.text_and {t = types.Text} x y i) w o r =
          valuing_runs p H types.Text w _ (text_and_of p H types.Text w _ _ i
          (valued_runs p H types.Text w _ text_value (eval_good x w o r))
          (valued_runs p H types.Text w _ text_value (eval_good y w o r)))
      eval_good (Types.text_and {t = types.Void} x y i) w o r = absurd i
      eval_good (Types.text_and {t = types.Object c} x y i) w o r = absurd i
      eval_good (Types.text_and {t = types.Enum e} x y i) w o r = absurd i
      eval_good (Types.and_text {t = types.Int} x i y) w o r =
          valuing_runs p H types.Text w _ (and_text_of p H types.Int w _ _ i
          (valued_runs p H types.Int w _ int_value (eval_good x w o r))
          (valued_runs p H types.Text w _ text_value (eval_good y w o r)))
      eval_good (Types.and_text {t = types.Boolean} x i y) w o r =
          valuing_runs p H types.Text w _ (and_text_of p H types.Boolean w _ _ i
          (valued_runs p H types.Boolean w _ boolean_value (eval_good x w o r))
          (valued_runs p H types.Text w _ text_value (eval_good y w o r)))
      eval_good (Types.and_text {t = types.Text} x i y) w o r =
          valuing_runs p H types.Text w _ (and_text_of p H types.Text w _ _ i
          (valued_runs p H types.Text w _ text_value (eval_good x w o r))
          (valued_runs p H types.Text w _ text_value (eval_good y w o r)))
      eval_good (Types.and_text {t = types.Void} x i y) w o r = absurd i
      eval_good (Types.and_text {t = types.Object c} x i y) w o r = absurd i
      eval_good (Types.and_text {t = types.Enum e} x i y) w o r = absurd i
      eval_good (Types.computed {o = op} i x y) w o r =
          valuing_runs p H types.Int w _ (arithmetic_of p H op w _ _ i (valued_runs p H types.Int w _ int_value (eval_good x w o r))
          (valued_runs p H types.Int w _ int_value (eval_good y w o r)))
      eval_good (Types.ordered {o = op} i x y) w o r =
          valuing_runs p H types.Boolean w _ (order_of p H op w _ _ i (valued_runs p H types.Int w _ int_value (eval_good x w o r))
          (valued_runs p H types.Int w _ int_value (eval_good y w o r)))
      eval_good (Types.logic {o = op} i x y) w o r =
          valuing_runs p H types.Boolean w _ (logic_of p H op w _ _ i
          (valued_runs p H types.Boolean w _ boolean_value (eval_good x w o r))
          (valued_runs p H types.Boolean w _ boolean_value (eval_good y w o r)))
      eval_good (Types.same {o = op} {t = types.Int} i c x y) w o r =
          valuing_runs p H types.Boolean w _ (same_of p H op types.Int w _ _ i c
          (valued_runs p H types.Int w _ int_value (eval_good x w o r)) (valued_runs p H types.Int w _ int_value (eval_good y w o r)))
      eval_good (Types.same {o = op} {t = types.Boolean} i c x y) w o r =
          valuing_runs p H types.Boolean w _ (same_of p H op types.Boolean w _ _ i c
          (valued_runs p H types.Boolean w _ boolean_value (eval_good x w o r))
          (valued_runs p H types.Boolean w _ boolean_value (eval_good y w o r)))
      eval_good (Types.same {o = op} {t = types.Enum e} i c x y) w o r =
          valuing_runs p H types.Boolean w _ (same_of p H op (types.Enum e) w _ _ i c
          (valued_runs p H (types.Enum e) w _ (λ e. cc) (eval_good x w o r))
          (valued_runs p H (types.Enum e) w _ (λ e. cc) (eval_good y w o r)))
      eval_good (Types.same {o = op} {t = types.Void} i c x y) w o r = absurd c
      eval_good (Types.same {o = op} {t = types.Text} i c x y) w o r = absurd c
      eval_good (Types.same {o = op} {t = types.Object k} i c x y) w o r = absurd c
      eval_good (Types.is_null {o = op} {x = x} {c = c} i v) w o r =
          valuing_runs p H types.Boolean w _ (is_null_of p H op c w _ i
          (valued_runs p H (types.Object c) w _ (object_value c) (valuing_runs p H (types.Object c) w _ (read_good x v w o r))))
      eval_good (Types.null_is {o = op} {x = x} {c = c} i v) w o r =
          valuing_runs p H types.Boolean w _ (null_is_of p H op c w _ i
          (valued_runs p H (types.Object c) w _ (object_value c) (valuing_runs p H (types.Object c) w _ (read_good x v w o r))))
      eval_good {t} {row} (Types.protocol {x = x} {n = i} {k = k} {args = args} v is xs e unmoved) w o r =
          runs_then H (Typed (types.Object k.class)) (Result t) w (read p inputs low n here row x.var)
          (λ v. eval_all p inputs low n here row args >>= λ vs. protocol_call p inputs low n here i v vs) (read_good x.var v w o r)
          (λ y u q f. runs_then H (Args (param_types k)) (Result t) y (eval_all p inputs low n here row args)
          (λ vs. protocol_call p inputs low n here i u vs)
          (args_good xs (params_usable k (method_ok i k is.at)) y (this_more q o) (row_more p m q r))
          (λ z vs d fs. protocol_good i k t is e z u vs (fits_more p d f) fs))
      eval_good {t} {row} (Types.helper {n = i} {k = k} {args = args} on is own xs e) w o r =
          runs_then H (Args (param_types k)) (Result t) w (eval_all p inputs low n here row args) (λ vs. low.call i this vs)
          (args_good xs (params_usable k (method_ok i k is.at)) w o r)
          (λ y vs q fs. let mine = owned_more p ok q (o on) in
          call_good i k t is.at e y this vs (record {
            suits =
                ap (λ kind. suits (runs_on_object kind) this) is.kind_is ∙ ap (suits true) mine.is;
            owned =
                λ u. subst (λ c. Owned p ok y c this) (sym own) mine;
          }) fs)
      eval_good {t} {row} (Types.static {n = i} {k = k} {args = args} is xs e) w o r =
          runs_then H (Args (param_types k)) (Result t) w (eval_all p inputs low n here row args) (λ vs. low.call i None vs)
          (args_good xs (params_usable k (method_ok i k is.at)) w o r)
          (λ y vs q fs. call_good i k t is.at e y None vs
          (record {
            suits = ap (λ kind. suits (runs_on_object kind) None) is.kind_is;
            owned =
                λ u. absurd (subst IsInstance is.kind_is u);
          }) fs)
      eval_good (Types.equals x y s) w o r = valuing_runs p H types.Boolean w _
          (both_runs p H types.Text types.Text (Typed types.Boolean) w equal_texts _ _
          (valued_runs p H types.Text w _ text_value (eval_good x w o r))
          (valued_runs p H types.Text w _ text_value (eval_good y w o r)) (λ z v u f g. equal_texts_runs p H z v u f g))
      eval_good (Types.concat x y s) w o r = valuing_runs p H types.Text w _
          (both_runs p H types.Text types.Text (Typed types.Text) w joined_texts _ _
          (valued_runs p H types.Text w _ text_value (eval_good x w o r))
          (valued_runs p H types.Text w _ text_value (eval_good y w o r)) (λ z v u f g. joined_texts_runs p H z v u f g))
      eval_good {t} {row} (Types.session {c = c} {args = args} xs e) w o r =
          subst (λ t. Runs H (Result t) w (eval_all p inputs low n here row args >>= session inputs c)) e
          (runs_then H (Args (session_params c)) (Result (session_result c)) w (eval_all p inputs low n here row args)
          (session inputs c) (args_good xs (session_usable c) w o r)
          (λ y vs q fs. session_runs p H (noted p ok) inputs c y vs fs))
      eval_good (Types.new {c = c} has) w o r =
          let b = begun p has.class.fields (ok.classes c has.class has.at).fields in
          runs_at H (Result (types.Object c)) w (slice_get p.classes c) has.class
          (λ k. found (new_fields p k.fields) >>= λ row. valuing (make (record { class = text_at p k.name; fields = row }))) has.at
          (runs_at H (Result (types.Object c)) w (new_fields p has.class.fields) b.row
          (λ row. valuing (make (record { class = text_at p has.class.name; fields = row }))) b.is
          (valuing_runs p H (types.Object c) w _ (make_runs p ok w c has.class
          (record { class = text_at p has.class.name; fields = b.row }) has.at (λ x. record { named = refl; fields = b.fits x }))))

      pub args_good : {sc : List ℕ} {es : Exprs} {ts : List CoreType} {row : Row ℕ} → HasAll p m sc es ts → AllByRecursion NoVoid ts →
          (w : World) → This w → RowFits p m w sc row → Runs H (Args ts) w (eval_all p inputs low n here row es)
      args_good Types.no_args all w o r = runs_give H (Args []) w [] (λ x q. worlds.no_values)
      args_good {row = row} (Types.arg {e = e} {more = es} {t = t} {ts = ts} x xs) all w o r =
          runs_then H (Typed t) (Args (t ∷ ts)) w (valued (eval p inputs low n here row e))
          (λ v. eval_all p inputs low n here row es >>= λ vs. give (v ∷ vs)) (valued_runs p H t w _ all.0 (eval_good x w o r))
          (λ y v q f. runs_then H (Args ts) (Args (t ∷ ts)) y (eval_all p inputs low n here row es) (λ vs. give (v ∷ vs))
          (args_good xs all.1 y (this_more q o) (row_more p m q r))
          (λ z vs d fs. runs_give H (Args (t ∷ ts)) z (v ∷ vs) (λ a b. worlds.value (fits_more p (further d b) f) (all_more p b fs))))

    -- an expression that gives a value
    pub value_good : {sc : List ℕ} {e : Expr} {t : CoreType} {row : Row ℕ} → t ≢ types.Void → Has p m sc e t → (w : World) → This w →
        RowFits p m w sc row → Runs H (Typed t) w (valued (eval p inputs low n here row e))
    value_good {t = t} full x w o r = valued_runs p H t w _ full (eval_good x w o r)
