-- Expressions: the core gives what the source gives.
use Rattle.std.proofs.Common.{◌≡◌, ◌≢◌, ℕ, Bool, true, false, List, [], ◌∷◌, Option, Some, None, slice_get, refl, sym, ap, ◌∙◌, subst, inl}
use Rattle.std.specs.Prelude.{if◌then◌else◌, codes}
use Rattle.std.specs.Str.{bytes_eq}
use Rattle.std.proofs.lemmas.Slice.Eq.{bytes_eq-Decides}
use Rattle.mg_text.specs.Call.{Name}
use Rattle.jv_tree.specs.declared.built_in.TextCall.TheVariants as texts
use Rattle.jv_tree.specs.BuiltIn.{session_named, text_method}
use Rattle.jv_tree.proofs.BuiltInLaws.{named_itself}
use Rattle.jv_tree.specs.Source
use Rattle.jv_values.specs.Values.{Value, Text, Row, Shared, Instance, Inputs, Wrong}
use Rattle.jv_values.specs.Values as values
use Rattle.jv_values.specs.Doing.{Outcome, Gives, Ends, Run, and_then, ◌>>=◌, give, stop, found, valued, valuing}
use Rattle.jv_values.specs.Operators.{operator_of, binary, equal_texts, joined_texts}
use Rattle.jv_values.specs.Objects.{object, object_of, make, telling}
use Rattle.jv_values.specs.Messages.{session}
use Rattle.jv_values.specs.Statements.{Completion, Does}
use Rattle.jv_values.specs.Alike.{Alike, SameEnd, Completes}
use Rattle.jv_values.proofs.Expressions as same
use Rattle.jv_meaning.specs.Program.{class_named, constant_position}
use Rattle.jv_meaning.specs.Names as names
use Rattle.jv_meaning.specs.Meaning as meant
use Rattle.jv_rules.specs.Program.{Program}
use Rattle.jv_rules.specs.Scope.{Scope, variable_type}
use Rattle.jv_tree.specs.declared.built_in.SessionCall.{SessionCall}
use Rattle.jv_core.specs.Tree as Core
use Rattle.jv_core.specs.Lookup.{text_at, class_text, enum_text}
use Rattle.jv_core.specs.Meaning as core_meaning
use Rattle.jv_names.specs.Resolves.{Numbers, IsClass, IsEnum, IsMethod, IsSession, IsExpr, IsExprs, IsStmt, Resolves}
use Rattle.jv_names.specs.Resolves as resolves
use Rattle.jv_names.proofs.Rows.{Beside, bytes_differ}
use Rattle.jv_names.proofs.Tables.{aligned_at, class_name, text_is, enum_text_is, constant_is, fields_same, method_is}
use Rattle.jv_names.proofs.Alike.{like_give, E, same_run, shares, tells_e, Q}
use Rattle.jv_names.proofs.Variables.{Context, on_core, on_source, refers_to_none, variable_like, read_like, target_is}
use Rattle.jv_names.proofs.Exits.{Breaks, GoesOn}

-- runs that give the same
abbrev pub Equals : {A : Type 0} → Run Shared A → Run Shared A → Type 0
Equals {A} m n = E A A ◌≡◌ m n

pub then_like : {A B : Type 0} {m n : Run Shared A} {f g : A → Run Shared B} → Equals m n → ((a : A) → Equals (f a) (g a)) → Equals
    (m >>= f) (n >>= g)
then_like h k = same.then_same E tells_e h k

-- one after another, grouped the other way
grouped : {S A B C : Type 0} (o : Outcome S A) (f : A → Run S B) (g : B → Run S C) → and_then (and_then o f) g ≡ and_then o
    (λ a s. and_then (f a s) g)
grouped (Gives a s) f g = refl
grouped (Ends e es) f g = refl

group_left : {A B C : Type 0} (m : Run Shared A) (f : A → Run Shared B) (g : B → Run Shared C) (n : Run Shared C) → Equals
    (m >>= λ a. f a >>= g) n → Equals ((m >>= f) >>= g) n
group_left m f g n h = record { by = λ s t e. subst (λ o. Alike ◌≡◌ ◌≡◌ SameEnd o (n t)) (sym (grouped (m s) f g)) (h.by s t e) }

group_right : {A B C : Type 0} (n : Run Shared A) (f : A → Run Shared B) (g : B → Run Shared C) (m : Run Shared C) → Equals m
    (n >>= λ a. f a >>= g) → Equals m ((n >>= f) >>= g)
group_right n f g m h = record { by = λ s t e. subst (λ o. Alike ◌≡◌ ◌≡◌ SameEnd (m s) o) (sym (grouped (n t) f g)) (h.by s t e) }

session_same : (f : Name) (call : SessionCall) → IsSession f call → session_named f ≡ Some call
session_same f call is = subst (λ f. session_named f ≡ Some call) (sym is) (named_itself call)

module _ (program : Program) (core : Core.Program) where
  abbrev pub DoesAlike : Scope → Numbers → Does ℕ → Does Name → Type 0
  DoesAlike scope ns m n = Q scope.locals ns.slots (Completion ℕ) (Completion Name)
      (Completes (Breaks scope.around ns.loops) (GoesOn scope.around ns.loops)) m n

  -- the meanings with one less, alike
  pub record Belows (low : core_meaning.Lower) (high : meant.Lower) : Type 0 where
    pub call : (class f : Name) (m : ℕ) (method : Source.Method) → IsMethod program core class f m method → (this : Option ℕ)
        (vs : List Value) →
        Equals (low.call m this vs) (high.call (class, f) this vs)
    pub turn : (scope : Scope) (ns : Numbers) (method : Core.Method) (number c : ℕ) (this : Option ℕ) →
        Context program core scope.class scope.method method number c this →
        {s : Source.Stmt} {s' : Core.Stmt} → IsStmt program core method scope ns s s' →
        DoesAlike scope ns (low.turn (on_core c this) (record { method = number; stmt = s' }))
        (high.turn (on_source scope.class.name this) s)

module _ (program : Program) (core : Core.Program) (res : Resolves program core) (inputs : Inputs) (low : core_meaning.Lower)
    (high : meant.Lower) (b : Belows program core low high)
    (method : Core.Method) (number c : ℕ) (this : Option ℕ) (scope : Scope) (ns : Numbers)
    (context : Context program core scope.class scope.method method number c this) where
  -- the object for a method of the own class
  passed_is : (f : Name) (m : ℕ) (k : Source.Method) → IsMethod program core scope.class.name f m k →
      meant.passed this (names.method_of program.files (scope.class.name, f)) ≡ (if (if k.is_static then false else true) then this
      else None)
  passed_is f m k is = ap (meant.passed this) (method_is program core res scope.class.name f m k is).by_name

  own_call : (f : Name) (m : ℕ) (k : Source.Method) (is : IsMethod program core scope.class.name f m k) (object : Option ℕ) →
      (if (if k.is_static then false else true) then this else None) ≡ object → (vs : List Value) →
      Equals (low.call m object vs) (high.call (scope.class.name, f)
      (meant.passed this (names.method_of program.files (scope.class.name, f))) vs)
  own_call f m k is object e vs =
      subst (λ o. Equals (low.call m object vs) (high.call (scope.class.name, f) o vs)) (sym (passed_is f m k is ∙ e))
      (b.call scope.class.name f m k is object vs)

  constant_like : (r' : Row Name) (e a : Name) (k : Source.Enum) (n i : ℕ) {r : Row ℕ} → Beside scope.locals ns.slots r r' →
      variable_type scope e ≡ None → IsEnum program core e n k →
      constant_position k a ≡ Some i →
      Equals (found (enum_text core n) >>= λ name. give (values.Constant name i))
      (meant.read_constant program.files e a (names.referent program.files (on_source scope.class.name this) r' e))
  constant_like r' e a k n i h away is at =
      subst (λ o. Equals (found o >>= λ name. give (values.Constant name i))
      (meant.read_constant program.files e a (names.referent program.files (on_source scope.class.name this) r' e)))
      (sym (enum_text_is program core res e n k is))
      (subst (λ q. Equals (give (values.Constant e i)) (meant.read_constant program.files e a q))
      (sym (refers_to_none program core res inputs method number c this scope ns context r' e h away))
      (subst (λ o. Equals (give (values.Constant e i)) (found o)) (sym (constant_is program core res e a n i k is at))
      (like_give ◌≡◌ refl)))

  -- a call on an object: the core knows its class, and the source finds it
  object_like : (class f : Name) (m : ℕ) (k : Source.Method) (is : IsMethod program core class f m k) (o : ℕ) (vs : List Value) →
      Equals (object_of class o >>= λ i. telling o f (low.call m (Some o) vs))
      (object o >>= λ i. telling o f (high.call (i.class, f) (Some o) vs))
  object_like class f m k is o vs = group_left (object o) _ _ _
      (then_like (same_run (object o)) (λ i. go i (bytes_eq i.class class) refl))
    where
      go : (i : Instance) (t : Bool) → bytes_eq i.class class ≡ t →
          Equals ((if t then give i else stop Wrong) >>= λ i. telling o f (low.call m (Some o) vs))
          (telling o f (high.call (i.class, f) (Some o) vs))
      go i false e = record { by = λ s t st. inl refl }
      go i true e =
          subst (λ d. Equals (telling o f (low.call m (Some o) vs)) (telling o f (high.call (d, f) (Some o) vs)))
          (sym ((bytes_eq-Decides i.class class).0 e))
          (same.telling_same E shares o f (b.call class f m k is (Some o) vs))

  protocol_like : (class f : Name) (m : ℕ) (k : Source.Method) (is : IsMethod program core class f m k) (v : Value) (vs : List Value) →
      Equals (core_meaning.protocol_call core inputs low number (on_core c this) m v vs)
      (meant.value_call program.files inputs high (on_source scope.class.name this) v f vs)
  protocol_like class f m k is v vs = by_value v
    where
      on_object : (o : ℕ) → Equals
          (found (slice_get core.methods m) >>= λ k. found (class_text core k.class) >>= λ d. object_of d o >>= λ i. telling o
          (text_at core k.name) (low.call m (Some o) vs))
          (object o >>= λ i. telling o f (high.call (i.class, f) (Some o) vs))
      on_object o =
          let q = method_is program core res class f m k is in
          subst (λ x. Equals (found x >>= λ k. found (class_text core k.class) >>= λ d. object_of d o >>= λ i. telling o
          (text_at core k.name) (low.call m (Some o) vs))
          (object o >>= λ i. telling o f (high.call (i.class, f) (Some o) vs))) (sym q.here)
          (subst (λ x. Equals (found x >>= λ d. object_of d o >>= λ i. telling o (text_at core q.core_method.name)
          (low.call m (Some o) vs))
          (object o >>= λ i. telling o f (high.call (i.class, f) (Some o) vs))) (sym q.class_text)
          (subst (λ x. Equals (object_of class o >>= λ i. telling o x (low.call m (Some o) vs))
          (object o >>= λ i. telling o f (high.call (i.class, f) (Some o) vs))) (sym q.name) (object_like class f m k is o vs)))

      by_value : (v : Value) → Equals (core_meaning.protocol_call core inputs low number (on_core c this) m v vs)
          (meant.value_call program.files inputs high (on_source scope.class.name this) v f vs)
      by_value (Text t) = record { by = λ s t st. inl refl }
      by_value v = then_like (same.receiver_same E tells_e v) on_object

  -- `equals` and `concat`
  equals_like : (v w : Value) → Equals (valuing (equal_texts v w))
      (meant.value_call program.files inputs high (on_source scope.class.name this) v (text_method texts.Equals).name (w ∷ []))
  equals_like (Text t) w = same_run _
  equals_like _ w = record { by = λ s t st. inl refl }

  concat_like : (v w : Value) → Equals (valuing (joined_texts v w))
      (meant.value_call program.files inputs high (on_source scope.class.name this) v (text_method texts.Concat).name (w ∷ []))
  concat_like (Text t) w = same_run _
  concat_like _ w = record { by = λ s t st. inl refl }

  -- a text's method: the argument is a list of one
  text_call_like : (f : Value → Value → Run Shared Value) (name : Name) →
      ((v w : Value) → Equals (valuing (f v w)) (meant.value_call program.files inputs high (on_source scope.class.name this) v name
      (w ∷ []))) →
      {l l' r r' : Run Shared Value} → Equals l l' → Equals r r' →
      Equals (valuing (l >>= λ v. r >>= λ w. f v w))
      (l' >>= λ v. (r' >>= λ w. give [] >>= λ vs. give (w ∷ vs)) >>= λ vs. meant.value_call program.files inputs high
      (on_source scope.class.name this) v name vs)
  text_call_like f name e {l} {l'} {r} {r'} h k =
      group_left l _ _ _ (then_like h (λ v. group_left r _ _ _ (group_right r' _ _ _ (then_like k (λ w. e v w)))))

  new_like : (d : Name) (n : ℕ) → IsClass program core d n →
      Equals (found (slice_get core.classes n) >>= λ k. found (core_meaning.new_fields core k.fields) >>= λ row. valuing
      (make (record { class = text_at core k.name; fields = row })))
      (found (class_named program.files d) >>= λ k. found (names.new_fields program.files k.fields) >>= λ row. valuing
      (make (record { class = d; fields = row })))
  new_like d n is =
      let met = aligned_at res.classes n is.class is.at in
      let left = ap (λ o. found o >>= λ k. found (core_meaning.new_fields core k.fields) >>= λ row. valuing
      (make (record { class = text_at core k.name; fields = row }))) met.at in
      let right = ap (λ o. found o >>= λ k. found (names.new_fields program.files k.fields) >>= λ row. valuing
      (make (record { class = d; fields = row }))) is.named in
      let fields = ap (λ o. found o >>= λ row. valuing (make (record { class = d; fields = row })))
      (fields_same program core res met.is.fields) in
      let text = ap (λ x. found (core_meaning.new_fields core met.item.fields) >>= λ row. valuing
      (make (record { class = x; fields = row })))
      (text_is program core res met.item.name is.class.name met.is.name ∙ class_name program.files d is.class is.named) in
      subst (λ m. Equals m (found (class_named program.files d) >>= λ k. found
      (names.new_fields program.files k.fields) >>= λ row. valuing (make (record { class = d; fields = row }))))
      (right ∙ fields ∙ sym text ∙ sym left) (same_run _)

  -- what has a value is no class
  expr_target : {e : Source.Expr} {e' : Core.Expr} {r : Row ℕ} {r' : Row Name} → IsExpr program core scope ns e e' →
      Beside scope.locals ns.slots r r' →
      meant.target_of program.files (on_source scope.class.name this) r' e ≡ meant.OfValue
  expr_target resolves.int h = refl
  expr_target resolves.truth h = refl
  expr_target resolves.text h = refl
  expr_target resolves.null h = refl
  expr_target (resolves.variable v) h = target_is program core res inputs method number c this scope ns context v h
  expr_target (resolves.constant away is at) h = refl
  expr_target (resolves.negative x) h = refl
  expr_target (resolves.opposite x) h = refl
  expr_target (resolves.binary x y) h = refl
  expr_target (resolves.static is st xs) h = refl
  expr_target (resolves.class_static away n is st xs) h = refl
  expr_target (resolves.session away is xs) h = refl
  expr_target (resolves.helper is st xs) h = refl
  expr_target (resolves.this_helper is st xs) h = refl
  expr_target (resolves.protocol v ty is st xs) h = refl
  expr_target (resolves.equals ty x y) h = refl
  expr_target (resolves.concat ty x y) h = refl
  expr_target (resolves.new is) h = refl

  -- a name that is no variable is a class
  class_target : (r' : Row Name) (x : Name) {r : Row ℕ} → Beside scope.locals ns.slots r r' → variable_type scope x ≡ None →
      meant.class_or x (names.referent program.files (on_source scope.class.name this) r' x) ≡ meant.OfClass x
  class_target r' x h away = ap (meant.class_or x)
      (refers_to_none program core res inputs method number c this scope ns context r' x h away)

  abbrev by_target : meant.Target → Run Shared Value → Name → Run Shared (List Value) → Run Shared (Option Value)
  by_target t r f args = meant.member_call program.files inputs high (on_source scope.class.name this) t r f args

  at_target : (u t : meant.Target) → u ≡ t → (m : Run Shared (Option Value)) (r : Run Shared Value) (f : Name)
      (args : Run Shared (List Value)) →
      Equals m (by_target t r f args) → Equals m (by_target u r f args)
  at_target u t e m r f args h = subst (λ t. Equals m (by_target t r f args)) (sym e) h

  -- what expressions and arguments give in the core and in the source
  abbrev core_value : Row ℕ → Core.Expr → Run Shared (Option Value)
  core_value r e = core_meaning.eval core inputs low number (on_core c this) r e

  abbrev core_values : Row ℕ → Core.Exprs → Run Shared (List Value)
  core_values r es = core_meaning.eval_all core inputs low number (on_core c this) r es

  abbrev source_value : Row Name → Source.Expr → Run Shared (Option Value)
  source_value r e = meant.eval program.files inputs high (on_source scope.class.name this) r e

  abbrev source_values : Row Name → Source.Exprs → Run Shared (List Value)
  source_values r es = meant.eval_all program.files inputs high (on_source scope.class.name this) r es

  -- the object of a static method's call is none, and that of a helper's call is the own one
  no_object : (t : Bool) → t ≡ true → (if (if t then false else true) then this else None) ≡ None
  no_object t e = ap (λ t. if (if t then false else true) then this else None) e

  own_object : (t : Bool) → t ≡ false → (if (if t then false else true) then this else None) ≡ this
  own_object t e = ap (λ t. if (if t then false else true) then this else None) e

  class_call_like : (d f : Name) (m : ℕ) (k : Source.Method) → d ≢ codes "Session" → IsMethod program core d f m k → (vs : List Value) →
      Equals (low.call m None vs) (meant.class_call program.files inputs high (on_source scope.class.name this) d f vs)
  class_call_like d f m k n is vs =
      subst (λ t. Equals (low.call m None vs) (if t then (found (session_named f) >>= λ call. session inputs call vs) else high.call
      (d, f) None vs))
      (sym (bytes_differ d (codes "Session") (λ e. n (sym e)))) (b.call d f m k is None vs)

  session_call_like : (f : Name) (call : SessionCall) → IsSession f call → (vs : List Value) →
      Equals (session inputs call vs)
      (meant.class_call program.files inputs high (on_source scope.class.name this) (codes "Session") f vs)
  session_call_like f call is vs =
      subst (λ o. Equals (session inputs call vs) (found o >>= λ call. session inputs call vs))
      (sym (session_same f call is)) (same_run _)

  mutual
    pub eval_like : {e : Source.Expr} {e' : Core.Expr} {r : Row ℕ} {r' : Row Name} → IsExpr program core scope ns e e' →
        Beside scope.locals ns.slots r r' →
        Equals (core_meaning.eval core inputs low number (on_core c this) r e')
        (meant.eval program.files inputs high (on_source scope.class.name this) r' e)
    eval_like resolves.int h = like_give ◌≡◌ refl
    eval_like resolves.truth h = like_give ◌≡◌ refl
    eval_like resolves.text h = like_give ◌≡◌ refl
    eval_like resolves.null h = like_give ◌≡◌ refl
    eval_like (resolves.variable v) h = variable_like program core res inputs method number c this scope ns context low high v h
    eval_like {r' = r'} (resolves.constant {e = e} {a = a} {k = k} {n = n} {i = i} away is at) h = same.valuing_same E tells_e
        (constant_like r' e a k n i h away is at)
    eval_like (resolves.negative x) h = same.valuing_same E tells_e
        (then_like (same.valued_same E tells_e (eval_like x h)) (same.negative_same E tells_e))
    eval_like (resolves.opposite x) h = same.valuing_same E tells_e
        (then_like (same.valued_same E tells_e (eval_like x h)) (same.opposite_same E tells_e))
    eval_like (resolves.binary {o = o} y z) h =
        same.valuing_same E tells_e (same.binary_same E tells_e (operator_of o) (same.valued_same E tells_e (eval_like y h))
        (same.valued_same E tells_e (eval_like z h)))
    eval_like (resolves.static {f = f} {m = m} {method = k} is st xs) h =
        then_like (args_like xs h) (λ vs. own_call f m k is None (no_object k.is_static st) vs)
    eval_like {r = r} {r' = r'}
        (resolves.class_static {q = q} {c = d} {f = f} {m = m} {method = k} {args = args} {args' = args'} away n is st xs) h =
        at_target _ (meant.OfClass d) (class_target r' d h away) (core_values r args' >>= low.call m None)
        (valued (source_value r' (Source.Variable q d))) f (source_values r' args)
        (then_like (args_like xs h) (λ vs. class_call_like d f m k n is vs))
    eval_like {r = r} {r' = r'} (resolves.session {q = q} {f = f} {call = call} {args = args} {args' = args'} away is xs) h =
        at_target _ (meant.OfClass (codes "Session")) (class_target r' (codes "Session") h away)
        (core_values r args' >>= session inputs call)
        (valued (source_value r' (Source.Variable q (codes "Session")))) f (source_values r' args)
        (then_like (args_like xs h) (λ vs. session_call_like f call is vs))
    eval_like (resolves.helper {f = f} {m = m} {method = k} is st xs) h =
        then_like (args_like xs h) (λ vs. own_call f m k is this (own_object k.is_static st) vs)
    eval_like (resolves.this_helper {f = f} {m = m} {method = k} is st xs) h = then_like (args_like xs h)
        (λ vs. b.call scope.class.name f m k is this vs)
    eval_like {r = r} {r' = r'}
        (resolves.protocol {p = p} {e = e} {x = x} {c = d} {f = f} {m = m} {method = k} {args = args} {args' = args'} v ty is st xs) h =
        at_target (meant.target_of program.files (on_source scope.class.name this) r' e) meant.OfValue
        (target_is program core res inputs method number c this scope ns context v.is h)
        (core_value r (Core.Protocol p x m args')) (valued (source_value r' e)) f (source_values r' args)
        (then_like (read_like program core res inputs method number c this scope ns context low high v.is h)
        (λ v. then_like (args_like xs h) (λ vs. protocol_like d f m k is v vs)))
    eval_like {r = r} {r' = r'} (resolves.equals {p = p} {e = e} {a = a} {e' = e'} {a' = a'} ty x y) h =
        at_target (meant.target_of program.files (on_source scope.class.name this) r' e) meant.OfValue (expr_target x h)
        (core_value r (Core.Equals p e' a')) (valued (source_value r' e)) (text_method texts.Equals).name
        (source_values r' (Source.Argument a Source.NoExpr))
        (text_call_like equal_texts (text_method texts.Equals).name equals_like (same.valued_same E tells_e (eval_like x h))
        (same.valued_same E tells_e (eval_like y h)))
    eval_like {r = r} {r' = r'} (resolves.concat {p = p} {e = e} {a = a} {e' = e'} {a' = a'} ty x y) h =
        at_target (meant.target_of program.files (on_source scope.class.name this) r' e) meant.OfValue (expr_target x h)
        (core_value r (Core.Concat p e' a')) (valued (source_value r' e)) (text_method texts.Concat).name
        (source_values r' (Source.Argument a Source.NoExpr))
        (text_call_like joined_texts (text_method texts.Concat).name concat_like (same.valued_same E tells_e (eval_like x h))
        (same.valued_same E tells_e (eval_like y h)))
    eval_like (resolves.new {c = d} {k = n} is) h = new_like d n is

    pub args_like : {es : Source.Exprs} {es' : Core.Exprs} {r : Row ℕ} {r' : Row Name} → IsExprs program core scope ns es es' →
        Beside scope.locals ns.slots r r' →
        Equals (core_meaning.eval_all core inputs low number (on_core c this) r es')
        (meant.eval_all program.files inputs high (on_source scope.class.name this) r' es)
    args_like resolves.no_args h = like_give ◌≡◌ refl
    args_like (resolves.arg x xs) h = then_like (same.valued_same E tells_e (eval_like x h))
        (λ v. then_like (args_like xs h) (λ vs. like_give ◌≡◌ refl))
