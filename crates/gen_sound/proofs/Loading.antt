-- The linked program of a core holds the code of each method: what is linked of an instruction does what the instruction does.
use Rattle.std.proofs.Common.{◌≡◌, ℕ, zero, suc, ◌+◌, Bool, true, false, List, [], ◌∷◌, length, Some, refl, sym, ap, ◌∙◌, subst, arith}
use Rattle.std.specs.Prelude.{slice_get, nat_lt, if◌then◌else◌}
use Rattle.std.specs.List.{AllByRecursion}
use Rattle.cls_tree.specs.declared.class.Const.{Const}
use Rattle.cls_tree.specs.Pool.{Int, Letters}
use Rattle.cls_tree.specs.declared.class.Const.TheVariants.{Integer}
use Rattle.cls_tree.specs.Emitted.{number_of, text_const}
use Rattle.cls_tree.specs.Tree as file
use Rattle.jv_core.specs.Tree.{Class, Method, Program}
use Rattle.jv_core.specs.Conditions.{IsCore}
use Rattle.vm_model.specs.Program as linked
use Rattle.vm_model.specs.Links.{Outline}
use Rattle.vm_model.specs.Actions.{action}
use Rattle.vm_model.specs.Messages.{Messages}
use Rattle.vm_model.specs.Machine.{Machine}
use Rattle.vm_model.specs.Step.{act_at, act_some}
use Rattle.gen_rules.specs.Symbolic.{Operand, Nothing, Number, Constant, Local, Jump, Table, Class as ClassOf, Field, Method as MethodOf}
use Rattle.gen_rules.specs.Symbolic.{Instr}
use Rattle.gen_rules.specs.Assembled.{numbered, numbered_by, all_numbered, aimed_by, all_aimed}
use Rattle.gen_rules.specs.Classes.{Compiled, compiled, method_in_file, each, AreCompiledClasses, IsCompiled}
use Rattle.gen_rules.specs.Linked.{outlines_of, linked_operand, linked_code, linked_method, linked_methods, linked_class, linked_classes}
use Rattle.gen_rules.specs.Linked.{linked_program}
use Rattle.jv_sound.proofs.Lists.{some_is, each_at}
use Rattle.gen_links.specs.Files.{HasPlainNames}
use Rattle.gen_links.specs.Right.{IsRight, AreRight}
use Rattle.gen_links.proofs.Starts.{length-starts}
use Rattle.gen_links.proofs.Programs.{CodesRight, classes_right}
use Rattle.gen_links.proofs.Cores.{all_found}
use Rattle.gen_sound.specs.Related.{Running, action_of, RunsCode}

-- Instructions.

-- constants are pushed by ldc
abbrev Pushes : ℕ → Operand → Type 0
Pushes op (Constant c) = op ≡ 18
Pushes op _ = Unit {0}

abbrev IsPushed : Instr → Type 0
IsPushed i = Pushes i.op i.operand

pushes_right : (os : List Outline) (count : ℕ) (op : ℕ) (o : Operand) → IsRight os count (record { op = op; operand = o }) → Pushes op o
pushes_right os count op Nothing h = tt
pushes_right os count op (Number n) h = tt
pushes_right os count op (Constant c) h = h
pushes_right os count op (Local n) h = tt
pushes_right os count op (Jump t) h = tt
pushes_right os count op (Table d ts) h = tt
pushes_right os count op (ClassOf name) h = tt
pushes_right os count op (Field f) h = tt
pushes_right os count op (MethodOf f) h = tt

all_pushed : (os : List Outline) (count : ℕ) (is : List Instr) → AllByRecursion (IsRight os count) is → AllByRecursion IsPushed is
all_pushed os count [] h = tt
all_pushed os count (i ∷ is) h = (pushes_right os count i.op i.operand h.0, all_pushed os count is h.1)

-- ldc and ldc_w do the same
wide_int : (b : Bool) (op : ℕ) (z : _) → op ≡ 18 → action (if b then 18 else 19) (linked.Int z) ≡ action op (linked.Int z)
wide_int true op z e = ap (λ k. action k (linked.Int z)) (sym e)
wide_int false op z e = ap (λ k. action k (linked.Int z)) (sym e)

wide_text : (b : Bool) (op : ℕ) (t : List ℕ) → op ≡ 18 → action (if b then 18 else 19) (linked.Text t) ≡ action op (linked.Text t)
wide_text true op t e = ap (λ k. action k (linked.Text t)) (sym e)
wide_text false op t e = ap (λ k. action k (linked.Text t)) (sym e)

-- what is linked of a numbered instruction does the same
same_action : (os : List Outline) (starts : List ℕ) (here op : ℕ) (o : Operand) (pool : List Const) → Pushes op o →
    action (aimed_by starts here o (numbered_by op o pool).0).op (linked_operand os (aimed_by starts here o (numbered_by op o pool).0).op o)
    ≡ action op (linked_operand os op o)
same_action os starts here op Nothing pool h = refl
same_action os starts here op (Number n) pool h = refl
same_action os starts here op (Constant (Int n)) pool h = wide_int (nat_lt (number_of (Integer n) pool).0 256) op n h
same_action os starts here op (Constant (Letters t)) pool h = wide_text (nat_lt (text_const t pool).0 256) op t h
same_action os starts here op (Local n) pool h = refl
same_action os starts here op (Jump t) pool h = refl
same_action os starts here op (Table d ts) pool h = refl
same_action os starts here op (ClassOf name) pool h = refl
same_action os starts here op (Field f) pool h = refl
same_action os starts here op (MethodOf f) pool h = refl

-- Code.

as_many : (is : List Instr) (pool : List Const) → length (all_numbered is pool).0 ≡ length is
as_many [] pool = refl
as_many (i ∷ is) pool = ap suc (as_many is (numbered i pool).1)

-- what is linked of an instruction stands at a place
pub record LinkedAt (os : List Outline) (code : List linked.Instr) (place : ℕ) (i : Instr) : Type 0 where
  pub instr : linked.Instr
  pub at : slice_get code place ≡ Some instr
  pub does : action instr.op instr.args ≡ action_of os i

linked_at : (os : List Outline) (starts places : List ℕ) (is : List Instr) (pool : List Const) → length places ≡ length is →
    AllByRecursion IsPushed is → (place : ℕ) (i : Instr) → slice_get is place ≡ Some i →
    LinkedAt os (linked_code os is (all_aimed starts places is (all_numbered is pool).0)) place i
linked_at os starts places [] pool long good place i e = absurd (cc)
linked_at os starts [] (j ∷ is) pool long good place i e = absurd (cc)
linked_at os starts (here ∷ places) (j ∷ is) pool long good zero i e =
    subst (LinkedAt os (linked_code os (j ∷ is) (all_aimed starts (here ∷ places) (j ∷ is) (all_numbered (j ∷ is) pool).0)) zero)
    (some_is e)
    (record { instr = _; at = refl; does = same_action os starts here j.op j.operand pool good.0 })
linked_at os starts (here ∷ places) (j ∷ is) pool long good (suc place) i e =
    let h = linked_at os starts places is (numbered j pool).1 (let l : length (here ∷ places) ≡ length (j ∷ is) = long in omega (arith, l))
    good.1
    place i e in
    record { instr = h.instr; at = h.at; does = h.does }

-- Methods.

pub record MethodAt (os : List Outline) (cs : List Compiled) (ms : List file.Member) (k : ℕ) (c : Compiled) : Type 0 where
  pub pool : List Const
  pub at : slice_get (linked_methods os cs ms) k ≡ Some (linked_method os c (method_in_file c pool).0)

pub method_at : (os : List Outline) (cs : List Compiled) (pool : List Const) (k : ℕ) (c : Compiled) → slice_get cs k ≡ Some c →
    MethodAt os cs (each method_in_file cs pool).0 k c
method_at os [] pool k c e = absurd (cc)
method_at os (d ∷ cs) pool zero c e =
    subst (MethodAt os (d ∷ cs) (each method_in_file (d ∷ cs) pool).0 zero) (some_is e) (record { pool = pool; at = refl })
method_at os (d ∷ cs) pool (suc k) c e =
    let h = method_at os cs (method_in_file d pool).1 k c e in
    record { pool = h.pool; at = h.at }

record ClassAt (p : Program) (os : List Outline) (ks : List Class) (all : List (List Compiled)) (c : ℕ) (cs : List Compiled) : Type 0 where
  class : Class
  at : slice_get (linked_classes p os ks all) c ≡ Some (linked_class p os class cs)

class_at : (p : Program) (os : List Outline) (first : ℕ) (ks : List Class) (all : List (List Compiled)) →
    AreCompiledClasses p first ks all → (c : ℕ) (cs : List Compiled) → slice_get all c ≡ Some cs → ClassAt p os ks all c cs
class_at p os first [] [] h c cs e = absurd (cc)
class_at p os first [] (x ∷ all) h c cs e = absurd h
class_at p os first (k ∷ ks) [] h c cs e = absurd h
class_at p os first (k ∷ ks) (x ∷ all) h zero cs e =
    subst (ClassAt p os (k ∷ ks) (x ∷ all) zero) (some_is e) (record { class = k; at = refl })
class_at p os first (k ∷ ks) (x ∷ all) h (suc c) cs e =
    let g = class_at p os (suc first) ks all h.1 c cs e in
    record { class = g.class; at = g.at }

-- the code of a compiled method stands in the linked one
pub code_at : (p : Program) → IsCore p → HasPlainNames p → (all : List (List Compiled)) → IsCompiled p all → (class method : ℕ)
    (cs : List Compiled) → slice_get all class ≡ Some cs → (x : Compiled) → slice_get cs method ≡ Some x → (pool : List Const)
    (place : ℕ) (i : Instr) → slice_get x.code place ≡ Some i →
    LinkedAt (outlines_of p p.classes all) (linked_method (outlines_of p p.classes all) x (method_in_file x pool).0).code place i
code_at p core plain all made class method cs class_is x method_is pool place i h =
    let os : List Outline = outlines_of p p.classes all in
    let knows = (all_found p core plain all made.classes).knows in
    let right = each_at (CodesRight os) all class (classes_right p os knows core.methods 0 p.classes all
    (λ i k g. let same : i ≡ 0 + i = omega arith in subst (λ n. slice_get p.classes n ≡ Some k) same g) made.classes) class_is in
    let pushed = all_pushed os (length x.code) x.code (each_at (λ c. AreRight os c.code) cs method right method_is) in
    linked_at os _ _ x.code _ (length-starts 0 _ ∙ as_many x.code _) pushed place i h

-- What runs of a compiled method: its frame has its sizes, and at each place stands what is linked of its instruction there.
pub record RunsAs (os : List Outline) (program : linked.Program) (me : ℕ) (r : Running) (x : Compiled) : Type 0 where
  pub method : linked.MethodOf
  pub at : linked.method_at program r.class r.method ≡ Some method
  pub stack : method.max_stack ≡ x.max_stack
  pub locals : method.max_locals ≡ x.max_locals
  pub descriptor : method.descriptor ≡ x.descriptor
  pub does : (place : ℕ) (i : Instr) → slice_get x.code place ≡ Some i → (q : Messages) (state : Machine) →
      act_at program q state me (slice_get method.code place) ≡ act_some program q state me (action_of os i)

-- in the linked program a frame of this class and method runs the compiled method
pub compiled_runs : (p : Program) → IsCore p → HasPlainNames p → (all : List (List Compiled)) → IsCompiled p all → (me class method : ℕ)
    (cs : List Compiled) → slice_get all class ≡ Some cs → (x : Compiled) → slice_get cs method ≡ Some x →
    (r : Running) → r.class ≡ class → r.method ≡ method → RunsAs (outlines_of p p.classes all) (linked_program p all) me r x
compiled_runs p core plain all made me class method cs class_is x method_is r e f =
    let os : List Outline = outlines_of p p.classes all in
    let k = class_at p os 0 p.classes all made.classes class cs class_is in
    let at = method_at os cs _ method x method_is in
    record {
      method = linked_method os x (method_in_file x at.pool).0;
      at = ap (λ c. linked.method_at (linked_program p all) c r.method) e
          ∙ ap (λ n. linked.method_at (linked_program p all) class n) f
          ∙ ap (λ o. slice_get (linked.methods_in o) method) k.at
          ∙ at.at;
      stack = refl;
      locals = refl;
      descriptor = refl;
      does = λ place i h q state.
          let l = code_at p core plain all made class method cs class_is x method_is at.pool place i h in
          ap (act_at (linked_program p all) q state me) l.at ∙ ap (act_some (linked_program p all) q state me) l.does;
    }

-- so it runs the code of a method
pub linked_runs : (p : Program) → IsCore p → HasPlainNames p → (all : List (List Compiled)) → IsCompiled p all → (me class method : ℕ)
    (cs : List Compiled) → slice_get all class ≡ Some cs → (m : Method) (code : List Instr) → slice_get cs method ≡ Some (compiled p m code)
    →
    (r : Running) → r.class ≡ class → r.method ≡ method → RunsCode p (outlines_of p p.classes all) (linked_program p all) me r m code
linked_runs p core plain all made me class method cs class_is m code method_is r e f =
    let h = compiled_runs p core plain all made me class method cs class_is (compiled p m code) method_is r e f in
    record { method = h.method; at = h.at; stack = h.stack; locals = h.locals; descriptor = h.descriptor; does = h.does }
