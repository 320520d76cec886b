-- The faults of methods and classes, from those of their parts.
use Rattle.std.proofs.Common.{◌≡◌, ℕ, ◌+◌, ◌<◌, ◌≤◌, List, [], ◌∷◌, ◌++◌, map, length, drop, get_or, Option, Some, None, Result, Ok, Err}
use Rattle.std.proofs.Common.{refl, sym, ap, subst, ◌∙◌}
use Rattle.std.specs.Prelude.{IfErr}
use Rattle.std.specs.Option.{option_or}
use Rattle.std.proofs.Math.ListN.{drop_of_length-le}
use Rattle.mg_read.specs.Culprit.{Culprit}
use Rattle.jv_tree.specs.declared.tree.Param.{Param}
use Rattle.jv_tree.specs.declared.tree.MethodDecl.{MethodDecl}
use Rattle.jv_tree.specs.Source.{Method, Class, Stmts}
use Rattle.jv_tree.specs.View.{method_of}
use Rattle.jv_rules.specs.declared.condition.Condition.{Condition}
use Rattle.jv_meaning.specs.Program.{classes_of}
use Rattle.jv_rules.specs.Program.{Program, typestate_of}
use Rattle.jv_rules.specs.Scope.{Scope, entered, with_params}
use Rattle.jv_rules.specs.Spots.{AtEnd, param_spots, stmts_spots, method_spots, methods_spots, classes_spots}
use Rattle.jv_rules.specs.Faults.{IsTableFault, IsFault, IsWellTyped}
use Rattle.jv_rules.specs.inner.Deciding.{fault_at}
use Rattle.jv_rules.proofs.Deciding.{method_fault-right}
use Rattle.jv_types.specs.declared.entry.ClassEntry.{ClassEntry}
use Rattle.jv_types.specs.declared.fault.TypeFault.{TypeFault}
use Rattle.jv_types.specs.declared.judged.Wrong.{Wrong}
use Rattle.jv_types.specs.Outcome.{fault_told, TellsFault}
use Rattle.jv_types.specs.Whole.{IsTypeFault, in_declarations, in_methods}
use Rattle.jv_types.specs.inner.Judging.{Tells}
use Rattle.jv_types.specs.inner.Methods.{fault_at_end, fault_in_method, fault_in_methods, fault_in_classes}
use Rattle.jv_types.specs.inner.Stating.{Answers, params_fault, stmts_fault}
use Rattle.jv_types.specs.inner.Tabled.{class_in, IsEntryOf, AreEntriesOf}
use Rattle.jv_types.specs.inner.Kept.{typestate_in}
use Rattle.jv_types.proofs.AtIndex.{drop_at}
use Rattle.jv_types.proofs.Checking.{tells_first, tells_later}
use Rattle.jv_types.proofs.Entries.{same_at}
use Rattle.jv_types.proofs.Faulting.{first_by-append}
use Rattle.jv_types.proofs.StmtLoops.{answers_last}

module _ (program : Program) (class : Class) where
  pub method_is : (m : Method) → fault_in_method program class m ≡
      option_or (params_fault (entered program class m) m.params)
      (option_or (stmts_fault (with_params m.params (entered program class m)) m.body) (fault_at_end m))
  method_is m =
      let s = entered program class m in
      let inside = with_params m.params s in
      first_by-append fault_at (param_spots s m.params) (stmts_spots inside m.body ++ AtEnd m ∷ [])
      ∙ ap (option_or (params_fault s m.params)) (first_by-append fault_at (stmts_spots inside m.body) (AtEnd m ∷ []))

  -- its parameters, its body and its end, as they are read
  module _ (m : Method) (params : List Param) (body : Stmts) (same_params : params ≡ m.params) (same_body : body ≡ m.body) where
    abbrev start : Scope
    start = entered program class m

    method_as : fault_in_method program class m ≡ option_or (params_fault start params)
        (option_or (stmts_fault (with_params params start) body) (fault_at_end m))
    method_as =
        method_is m ∙ ap (λ ps. option_or (params_fault start ps) (option_or (stmts_fault (with_params ps start) m.body) (fault_at_end m)))
        (sym same_params)
        ∙ ap (λ b. option_or (params_fault start params) (option_or (stmts_fault (with_params params start) b) (fault_at_end m)))
        (sym same_body)

    pub params_wrong : (w : Wrong) (s : Scope) → s ≡ start → Tells w (params_fault s params) → Tells w (fault_in_method program class m)
    params_wrong w s e t = tells_first w _ _ _ method_as (subst (λ z. Tells w (params_fault z params)) e t)

    module _ (s inside : Scope) (e : s ≡ start) (within : inside ≡ with_params params s) (fine : params_fault s params ≡ None) where
      fine_there : params_fault start params ≡ None
      fine_there = ap (λ z. params_fault z params) (sym e) ∙ fine

      there : inside ≡ with_params params start
      there = within ∙ ap (with_params params) e

      pub body_wrong : (w : Wrong) → Tells w (stmts_fault inside body) → Tells w (fault_in_method program class m)
      body_wrong w t = tells_later w _ _ _ method_as fine_there
          (tells_first w _ _ _ refl (subst (λ z. Tells w (stmts_fault z body)) there t))

      pub end_tells : stmts_fault inside body ≡ None → (r : Result Unit Wrong) → Answers (fault_at_end m) r →
          Answers (fault_in_method program class m) r
      end_tells k r h =
          answers_last r _ _ _ method_as fine_there (answers_last r _ _ _ refl (ap (λ z. stmts_fault z body) (sym there) ∙ k) h)

  -- methods, at an index
  module _ (xs : List MethodDecl) (i : ℕ) (all : List Method) (h : fault_in_methods program class all ≡ fault_in_methods program class
      (map method_of (drop i xs))) where
    module _ (x : MethodDecl) (within : i < length xs) (is : x ≡ get_or xs i x) where
      method_at : fault_in_methods program class all ≡ option_or (fault_in_method program class (method_of x))
          (fault_in_methods program class (map method_of (drop (i + 1) xs)))
      method_at =
          h ∙ ap (λ (ys : List MethodDecl). fault_in_methods program class (map method_of ys)) (drop_at xs i x within is)
          ∙ first_by-append fault_at (method_spots program class (method_of x))
          (methods_spots program class (map method_of (drop (i + 1) xs)))

      pub method_wrong : (w : Wrong) → Tells w (fault_in_method program class (method_of x)) → Tells w (fault_in_methods program class all)
      method_wrong w t = tells_first w _ _ _ method_at t

      pub method_more : fault_in_method program class (method_of x) ≡ None → fault_in_methods program class all ≡ fault_in_methods program
          class (map method_of (drop (i + 1) xs))
      method_more e = method_at ∙ ap (λ o. option_or o (fault_in_methods program class (map method_of (drop (i + 1) xs)))) e

    pub methods_done : length xs ≤ i → fault_in_methods program class all ≡ None
    methods_done past = h ∙ ap (λ (ys : List MethodDecl). fault_in_methods program class (map method_of ys)) (drop_of_length-le xs past)

-- classes, at an index
module _ (program : Program) (xs : List ClassEntry) (i : ℕ) (all : List Class) (h : fault_in_classes program all ≡ fault_in_classes program
    (map class_in (drop i xs))) where
  module _ (x : ClassEntry) (within : i < length xs) (is : x ≡ get_or xs i x) where
    class_at : fault_in_classes program all ≡ option_or (fault_in_methods program (class_in x) (class_in x).methods)
        (fault_in_classes program (map class_in (drop (i + 1) xs)))
    class_at =
        h ∙ ap (λ (ys : List ClassEntry). fault_in_classes program (map class_in ys)) (drop_at xs i x within is)
        ∙ first_by-append fault_at (methods_spots program (class_in x) (class_in x).methods)
        (classes_spots program (map class_in (drop (i + 1) xs)))

    pub class_wrong : (w : Wrong) → Tells w (fault_in_methods program (class_in x) (class_in x).methods) →
        Tells w (fault_in_classes program all)
    class_wrong w t = tells_first w _ _ _ class_at t

    pub class_more : fault_in_methods program (class_in x) (class_in x).methods ≡ None → fault_in_classes program all ≡ fault_in_classes
        program (map class_in (drop (i + 1) xs))
    class_more e = class_at ∙ ap (λ o. option_or o (fault_in_classes program (map class_in (drop (i + 1) xs)))) e

  pub classes_done : length xs ≤ i → fault_in_classes program all ≡ None
  classes_done past = h ∙ ap (λ (ys : List ClassEntry). fault_in_classes program (map class_in ys)) (drop_of_length-le xs past)

-- an entry of the table's classes
pub entry_in : (program : Program) (es : List ClassEntry) → AreEntriesOf program es → (i : ℕ) (e : ClassEntry) → i < length es →
    e ≡ get_or es i e → IsEntryOf program e
entry_in program es h i e within is = record {
  follows = same_at typestate_in (λ x. typestate_of program (class_in x)) es h.follow i e
      within is;
}

-- no fault was found
pub no_fault : (program : Program) (cs : List Class) → cs ≡ classes_of program.files → fault_in_classes program cs ≡ None →
    IsFault program None
no_fault program cs e h = subst (IsFault program) (sym (ap (fault_in_classes program) e) ∙ h) (method_fault-right program)

abbrev OnFault : (Option (Condition × Culprit) → Type 0) → Option (Condition × Culprit) → Type 0
OnFault Is None = Unit {0}
OnFault Is (Some f) = Is (Some f)

-- what tells one tells the other
pub told_more : (P Q : Option (Condition × Culprit) → Type 0) → ((f : Condition × Culprit) → P (Some f) → Q (Some f)) → (e : TypeFault) →
    TellsFault P e → TellsFault Q e
told_more P Q f e t = go (fault_told e) t
  where
    go : (o : Option (Condition × Culprit)) → OnFault P o → OnFault Q o
    go None t = t
    go (Some x) t = f x t

-- what tells the fault that is found tells the fault
pub found_told : (program : Program) (cs : List Class) → cs ≡ classes_of program.files → (e : TypeFault) →
    TellsFault (λ r. r ≡ fault_in_classes program cs) e → TellsFault (IsFault program) e
found_told program cs same e t =
    told_more (λ r. r ≡ fault_in_classes program cs) (IsFault program)
    (λ f h. subst (IsFault program) (sym (h ∙ ap (fault_in_classes program) same)) (method_fault-right program)) e t

-- what an error tells
pub if_wrong : {A E : Type 0} (R S : E → Type 0) (r : Result A E) → ((e : E) → R e → S e) → IfErr r R → IfErr r S
if_wrong R S (Ok x) f h = h
if_wrong R S (Err e) f h = f e h

-- a program whose declarations and methods have no fault
pub well_typed : (program : Program) (origins : List ℕ) → length origins ≡ length program.typestates → IsTableFault program origins None →
    (p : Program) → p ≡ program → IsFault p None → IsWellTyped program
well_typed program origins n h p same k = record {
  origins = origins;
  numbered = n;
  declarations = h;
  methods =
      subst (λ q. IsFault q None) same k;
}

-- a fault of the declarations, and one of the methods
pub declarations_told : (program : Program) (origins : List ℕ) (e : TypeFault) → TellsFault (IsTableFault program origins) e →
    TellsFault (IsTypeFault program origins) e
declarations_told program origins e t = told_more (IsTableFault program origins) (IsTypeFault program origins) (λ f h. in_declarations h) e
    t

pub methods_told : (program : Program) (origins : List ℕ) → IsTableFault program origins None → (p : Program) → p ≡ program →
    (e : TypeFault) → TellsFault (IsFault p) e → TellsFault (IsTypeFault program origins) e
methods_told program origins h p same e t = told_more (IsFault p) (IsTypeFault program origins)
    (λ f k. in_methods h (subst (λ q. IsFault q (Some f)) same k)) e t
