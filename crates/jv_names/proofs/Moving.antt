-- Calls of methods: where their parts are clean, and the helper calls in them.
use Rattle.std.proofs.Common.{◌≡◌, ◌⊎◌, inl, inr, ⊎_elim, ℕ, Bool, true, false, [], ◌∷◌, ◌++◌, Some, refl, sym, ◌∙◌, subst}
use Rattle.mg_text.specs.Call.{Name}
use Rattle.mg_text.specs.declared.place.Place.{Place}
use Rattle.mg_read.specs.Culprit.{Culprit, culprit}
use Rattle.jv_tree.specs.Source
use Rattle.jv_meaning.specs.Program.{method_named}
use Rattle.jv_rules.specs.Program.{is_of_protocol}
use Rattle.jv_rules.specs.Scope.{Scope}
use Rattle.jv_rules.specs.Spots.{Value, AtNode, nodes, nodes_in}
use Rattle.jv_rules.specs.Conditions as rules
use Rattle.jv_rules.specs.Conditions.{IsOwn, IsProtocol, IsHelper}
use Rattle.jv_core.specs.declared.tree.Var.{Var}
use Rattle.jv_core.specs.Tree as Core
use Rattle.jv_core.specs.Types as resolved
use Rattle.jv_names.specs.Resolves.{Numbers, IsVar, IsMethod, IsExpr, IsExprs}
use Rattle.jv_names.specs.Resolves as is
use Rattle.jv_names.proofs.Tables.{some_is}
use Rattle.jv_names.proofs.Clean.{NoFaultAt, CleanNodes, CleanExpr, CleanArgs, nodes_left, nodes_right, first_arg, other_args, left_operand}
use Rattle.jv_names.proofs.Clean.{right_operand}
use Rattle.jv_names.proofs.Naming.{Runs}

-- an expression but `this`
abbrev pub IsNotThis : Source.Expr → Type 0
IsNotThis (Source.This p) = ⊥
IsNotThis _ = Unit {0}

-- an expression that is a name
abbrev pub IsName : Source.Expr → Type 0
IsName (Source.Variable p x) = Unit {0}
IsName _ = ⊥

module _ (scope : Scope) (p : Place) (f : Name) (args : Source.Exprs) where
  abbrev call : Source.Expr → Source.Expr
  call e = Source.MethodCall p e f args

  -- the arguments are clean, and the call itself
  pub behind_receiver : (e : Source.Expr) → CleanExpr scope (call e) → CleanNodes scope (nodes_in args ++ Value (call e) ∷ [])
  behind_receiver (Source.This q) h = h
  behind_receiver (Source.Variable q x) h = h.1
  behind_receiver e h = nodes_right scope (nodes e) (nodes_in args ++ Value (call e) ∷ []) h

  pub arguments_clean : (e : Source.Expr) → CleanExpr scope (call e) → CleanArgs scope args
  arguments_clean e h = nodes_left scope (nodes_in args) (Value (call e) ∷ []) (behind_receiver e h)

  pub call_clean : (e : Source.Expr) → CleanExpr scope (call e) → NoFaultAt (AtNode scope (Value (call e)))
  call_clean e h = (nodes_right scope (nodes_in args) (Value (call e) ∷ []) (behind_receiver e h)).0

  -- the receiver is clean, or a name, which may be that of a class
  pub receiver_clean : (e : Source.Expr) → IsNotThis e → CleanExpr scope (call e) → IsName e ⊎ CleanExpr scope e
  receiver_clean (Source.This q) n h = absurd n
  receiver_clean (Source.Variable q x) n h = inl tt
  receiver_clean e n h = inr (nodes_left scope (nodes e) (nodes_in args ++ Value (call e) ∷ []) h)

  in_receiver : (e : Source.Expr) → IsNotThis e → rules.CallsHelper scope e → rules.CallsHelper scope (call e)
  in_receiver (Source.This q) n h = absurd n
  in_receiver e n h = inl h

  in_arguments : (e : Source.Expr) → IsNotThis e → rules.CallsHelperIn scope args → rules.CallsHelper scope (call e)
  in_arguments (Source.This q) n h = absurd n
  in_arguments e n h = inr h

not_protocol : (b : Bool) (P : Type 0) → (P × (b ≡ true) → ⊥) → P → b ≡ false
not_protocol true P n h = absurd (n (h, refl))
not_protocol false P n h = refl

module _ (core : Core.Program) (m : Core.Method) (scope : Scope) (ns : Numbers) (runs : Runs core m scope.program scope.class scope.method)
  where
    pub own_class : (f : Name) (n : ℕ) (method : Source.Method) (i : IsMethod scope.program core scope.class.name f n method) →
        i.owner.class ≡ scope.class
    own_class f n method i = some_is (sym i.owner_named ∙ runs.named)

    -- a method of the own class
    pub own_named : (f : Name) (n : ℕ) (method : Source.Method) → IsMethod scope.program core scope.class.name f n method →
        method_named scope.class f ≡ Some method
    own_named f n method i = subst (λ c. method_named c f ≡ Some method) (own_class f n method i) i.named

    pub is_own : (f : Name) (n : ℕ) (method : Source.Method) → IsMethod scope.program core scope.class.name f n method →
        method.is_static ≡ false → IsOwn scope f
    is_own f n method i s = (method, own_named f n method i, s)

    -- no method of the own protocol is called
    pub no_protocol : (p : Place) (f : Name) → ((c : Culprit) → (c ≡ culprit p f) × IsProtocol scope f → ⊥) → IsOwn scope f →
        is_of_protocol scope.program scope.class f ≡ false
    no_protocol p f clean own =
        not_protocol (is_of_protocol scope.program scope.class f) (IsOwn scope f) (λ h. clean (culprit p f) (refl, (h.0, h.1))) own

    pub not_this_variable : {e : Source.Expr} {x : Var} → IsVar scope.program core scope ns e x → IsNotThis e
    not_this_variable (is.a_local s) = tt
    not_this_variable (is.a_field n o) = tt
    not_this_variable (is.own o) = tt

    pub not_this : {e : Source.Expr} {e' : Core.Expr} → IsExpr scope.program core scope ns e e' → IsNotThis e
    not_this is.int = tt
    not_this is.truth = tt
    not_this is.text = tt
    not_this is.null = tt
    not_this (is.variable v) = not_this_variable v
    not_this (is.constant n e a) = tt
    not_this (is.negative x) = tt
    not_this (is.opposite x) = tt
    not_this (is.binary x y) = tt
    not_this (is.static i s xs) = tt
    not_this (is.class_static n o i s xs) = tt
    not_this (is.session n i xs) = tt
    not_this (is.helper i s xs) = tt
    not_this (is.this_helper i s xs) = tt
    not_this (is.protocol v t i s xs) = tt
    not_this (is.equals t x y) = tt
    not_this (is.concat t x y) = tt
    not_this (is.new i) = tt

    -- a name is a variable
    name_alone : (e : Source.Expr) (e' : Core.Expr) → IsExpr scope.program core scope ns e e' → IsName e → resolved.CallsHelper e' → ⊥
    name_alone (Source.Variable p x) _ (is.variable v) n h = h
    name_alone e _ i n h = absurd n

    -- a method of a text is called, with one argument
    calls_back_text : (p : Place) (f : Name) (e a : Source.Expr) (e' a' : Core.Expr) → IsExpr scope.program core scope ns e e' →
        (CleanExpr scope e → resolved.CallsHelper e' → rules.CallsHelper scope e) →
        (CleanExpr scope a → resolved.CallsHelper a' → rules.CallsHelper scope a) →
        CleanExpr scope (Source.MethodCall p e f (Source.Argument a Source.NoExpr)) → resolved.CallsHelper e' ⊎ resolved.CallsHelper a' →
        rules.CallsHelper scope (Source.MethodCall p e f (Source.Argument a Source.NoExpr))
    calls_back_text p f e a e' a' x receiver argument clean (inl h) =
        in_receiver scope p f (Source.Argument a Source.NoExpr) e (not_this x)
        (⊎_elim (λ n. absurd (name_alone e e' x n h)) (λ c. receiver c h)
        (receiver_clean scope p f (Source.Argument a Source.NoExpr) e (not_this x) clean))
    calls_back_text p f e a e' a' x receiver argument clean (inr h) =
        in_arguments scope p f (Source.Argument a Source.NoExpr) e (not_this x)
        (inl (argument (first_arg scope a Source.NoExpr (arguments_clean scope p f (Source.Argument a Source.NoExpr) e clean)) h))

    mutual
      -- the helper calls of what is resolved are those of its source
      pub calls_back : {e : Source.Expr} {e' : Core.Expr} → IsExpr scope.program core scope ns e e' → CleanExpr scope e →
          resolved.CallsHelper e' → rules.CallsHelper scope e
      calls_back is.int clean h = absurd h
      calls_back is.truth clean h = absurd h
      calls_back is.text clean h = absurd h
      calls_back is.null clean h = absurd h
      calls_back (is.variable v) clean h = absurd h
      calls_back (is.constant n e a) clean h = absurd h
      calls_back (is.negative {p = p} {e = a} x) clean h = calls_back x (nodes_left scope (nodes a) (Value (Source.Neg p a) ∷ []) clean) h
      calls_back (is.opposite {p = p} {e = a} x) clean h = calls_back x (nodes_left scope (nodes a) (Value (Source.Not p a) ∷ []) clean) h
      calls_back (is.binary {p = p} {o = o} {l = l} {r = r} x y) clean (inl h) = inl (calls_back x (left_operand scope p o l r clean) h)
      calls_back (is.binary {p = p} {o = o} {l = l} {r = r} x y) clean (inr h) = inr (calls_back y (right_operand scope p o l r clean) h)
      calls_back (is.static {p = p} {f = f} {args = args} i s xs) clean h =
          inr (calls_back_in xs (nodes_left scope (nodes_in args) (Value (Source.Call p f args) ∷ []) clean) h)
      calls_back (is.class_static {p = p} {q = q} {c = c} {f = f} {args = args} n o i s xs) clean h =
          inr (calls_back_in xs (arguments_clean scope p f args (Source.Variable q c) clean) h)
      calls_back (is.session {p = p} {q = q} {f = f} {args = args} n i xs) clean h =
          inr (calls_back_in xs (arguments_clean scope p f args (Source.Variable q _) clean) h)
      calls_back (is.helper {p = p} {f = f} {m = n} {method = method} {args = args} i s xs) clean h =
          let spot = (nodes_right scope (nodes_in args) (Value (Source.Call p f args) ∷ []) clean).0 in
          let own = is_own f n method i s in
          inl (own, no_protocol p f spot.no_self_call own)
      calls_back (is.this_helper {p = p} {q = q} {f = f} {m = n} {method = method} {args = args} i s xs) clean h =
          let spot = call_clean scope p f args (Source.This q) clean in
          let own = is_own f n method i s in
          inl (own, no_protocol p f spot.no_self_call own)
      calls_back (is.protocol {p = p} {e = e} {f = f} {args = args} v t i s xs) clean h =
          in_arguments scope p f args e (not_this_variable v.is) (calls_back_in xs (arguments_clean scope p f args e clean) h)
      calls_back (is.equals {p = p} {e = e} {a = a} {e' = e'} {a' = a'} t x y) clean h =
          calls_back_text p _ e a e' a' x (λ c h. calls_back x c h) (λ c h. calls_back y c h) clean h
      calls_back (is.concat {p = p} {e = e} {a = a} {e' = e'} {a' = a'} t x y) clean h =
          calls_back_text p _ e a e' a' x (λ c h. calls_back x c h) (λ c h. calls_back y c h) clean h
      calls_back (is.new i) clean h = absurd h

      pub calls_back_in : {es : Source.Exprs} {es' : Core.Exprs} → IsExprs scope.program core scope ns es es' → CleanArgs scope es →
          resolved.CallsHelperIn es' → rules.CallsHelperIn scope es
      calls_back_in is.no_args clean h = absurd h
      calls_back_in (is.arg {e = e} {rest = more} x xs) clean (inl h) = inl (calls_back x (first_arg scope e more clean) h)
      calls_back_in (is.arg {e = e} {rest = more} x xs) clean (inr h) = inr (calls_back_in xs (other_args scope e more clean) h)
