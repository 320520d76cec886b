-- For private clauses: the results of methods in tables by name.
use Rattle.std.specs.Prelude.{◌≡◌, ℕ, List, String, Option, Some, None, option_and_then}
use Rattle.std.specs.HashMap.{HashMap, get_by_text}
use Rattle.mg_text.specs.Call.{Name}
use Rattle.jv_core.specs.declared.program.CoreType.{CoreType}
use Rattle.jv_core.specs.Tree.{Class, Program}
use Rattle.mg_trace.specs.declared.results.Answers.{Answers}
use Rattle.mg_trace.specs.declared.results.Answers.TheVariants as answers
use Rattle.mg_trace.specs.declared.results.Results.{Results}
use Rattle.mg_trace.specs.Trace.{Telling, ByTypes, AsNumbers, methods_of, result_in, class_in}

-- a table has of each name the result of the first of these methods that has it
abbrev pub AreMethods : {A S : Type 0} → Program → (methods : List ℕ) → HashMap (String A) CoreType S → Type 0
AreMethods p methods own = (name : Name) → get_by_text own name ≡ result_in p (methods_of p methods) name

-- a table of the methods of this class, or neither
abbrev pub IsOwn : {A S : Type 0} → Program → Option Class → Option (HashMap (String A) CoreType S) → Type 0
IsOwn p (Some c) (Some own) = AreMethods p c.methods own
IsOwn p None None = Unit {0}
IsOwn p _ _ = ⊥

-- a table has of each name a table of the methods of the first of these classes that has it
abbrev pub AreClasses : {A S R : Type 0} → Program → List Class → HashMap (String A) (HashMap (String A) CoreType S) R → Type 0
AreClasses p classes tables = (name : Name) → IsOwn p (class_in p classes name) (get_by_text tables name)

abbrev pub AreResults : Program → Results → Type 0
AreResults p r = AreClasses p p.classes r.by_class

-- what is found in such tables
abbrev pub result_by : Results → (class method : Name) → Option CoreType
result_by r class method = option_and_then (λ own. get_by_text own method) (get_by_text r.by_class class)

-- how these answers are told
abbrev pub telling_of : Answers → Telling
telling_of (answers.ByTypes core results) = ByTypes core.now
telling_of answers.AsNumbers = AsNumbers

-- where by types, the results are those of the program
abbrev pub AreTold : Answers → Type 0
AreTold (answers.ByTypes core results) = AreResults core.now results.now
AreTold answers.AsNumbers = Unit {0}
