-- What is answered of files, by what is answered of their program.
use Rattle.std.proofs.Common.{◌≡◌, ℕ, ◌+◌, ◌<◌, ◌≤◌, List, ◌∷◌, length, map, get_or, drop, Option, Some, None, Result, Ok, Err, sym, ap}
use Rattle.std.proofs.Common.{◌∙◌, arith}
use Rattle.std.proofs.lemmas.List.{drop_more, drop_all, length-map}
use Rattle.std.proofs.lemmas.List.Sums.{sum-map, sum_by-cons}
use Rattle.vm_model.specs.declared.linked.LinkedClass.{LinkedClass}
use Rattle.vm_model.specs.View.{method_of, class_of, classes_of}
use Rattle.cls_search.specs.declared.fault.VerifyFault.{VerifyFault}
use Rattle.cls_search.specs.declared.fault.VerifyFault.TheVariants as faults
use Rattle.cls_search.specs.Verified.{Says}
use Rattle.vm_model.specs.Program.{Program, ClassOf}
use Rattle.mg_sources.specs.Files.{Source}
use Rattle.mg_refusal.specs.Order.{Answers, IsStopBy, at_first, at_next}
use Rattle.mg_refusal.specs.declared.stop.Stop.{Stop}
use Rattle.mg_refusal.specs.declared.stop.Stop.TheVariants as stops
use Rattle.mg_exec.specs.Runs.{IsProgram, NoProgram}
use Rattle.mg_verified.specs.Verified.{AreVerified, Member, LacksTyping, FirstRefusal, methods_of}
use Rattle.mg_verified.specs.Verified as told
use Rattle.mg_verified.specs.View.{IsTyped, untypable_in}

same_member : (m n : Member) → Some m ≡ Some n → m ≡ n
same_member m n e = cc

none_some : {P : Type 0} (m : Member) → ◌≡◌ {A = Option Member} None (Some m) → P
none_some m e = absurd cc

pub files_tried : (files : List Source) (p : Program) (answer : Result (List ℕ) Stop) → IsProgram files p →
    Answers (IsTyped p) (LacksTyping p) answer → Answers (AreVerified files) (FirstRefusal files) answer
files_tried files p (Ok line) h t = record { program = p; linked = h; typable = t.typable; told = t.told }
files_tried files p (Err (stops.Refused r)) h t = at_next p h t
files_tried files p (Err stops.Memory) h t = tt

-- there is no program
pub no_files : (files : List Source) (stop : Stop) →
    Answers (IsProgram files) (NoProgram files) (Err stop) →
    Answers (AreVerified files) (FirstRefusal files) (Err stop)
no_files files (stops.Refused r) h = at_first h
no_files files stops.Memory h = tt

-- a fault of the search
pub fault_tried : (p : Program) (fault : VerifyFault) (stop : Stop) → Says p fault →
    IsStopBy (λ m r. r ≡ told.unverified m) (untypable_in fault) stop → Answers (IsTyped p) (LacksTyping p) (Err stop)
fault_tried p (faults.Unverified class method) (stops.Refused r) first (m, of_fault, said) =
    let there : Member = record { class = class; method = method } in
    record { member = there; first = first; said = said ∙ ap told.unverified (sym (same_member there m of_fault)) }
fault_tried p faults.Memory (stops.Refused r) first (m, of_fault, said) = none_some m of_fault
fault_tried p fault stops.Memory first h = tt

methods_cons : (c : ClassOf) (p : Program) → methods_of (c ∷ p) ≡ length c.methods + methods_of p
methods_cons c p = sum-map (λ (d : ClassOf). length d.methods) (c ∷ p) ∙ sum_by-cons (λ (d : ClassOf). length d.methods) c p
    ∙ ap (λ (n : ℕ). length c.methods + n) (sym (sum-map (λ (d : ClassOf). length d.methods) p))

-- the methods of classes, counted one class after another
pub counted_more : (count : ℕ) (classes : List LinkedClass) (i : ℕ) (item : LinkedClass) (more : ℕ) → i < length classes →
    item ≡ get_or classes i item → more ≡ count + length item.methods.items →
    count + methods_of (classes_of (drop i classes)) ≡ methods_of (classes_of classes) →
    more + methods_of (classes_of (drop (i + 1) classes)) ≡ methods_of (classes_of classes)
counted_more count classes i item more h is e so =
    let split : drop i classes ≡ item ∷ drop (i + 1) classes =
    drop_more classes i item h ∙ ap (λ (x : LinkedClass). x ∷ drop (i + 1) classes) (sym is) in
    let here : methods_of (classes_of (drop i classes)) ≡
    length (map method_of item.methods.items) + methods_of (classes_of (drop (i + 1) classes)) =
    ap (λ (cs : List LinkedClass). methods_of (classes_of cs)) split ∙ methods_cons (class_of item) (classes_of (drop (i + 1) classes))
    in
    let many = length-map item.methods.items method_of in
    omega (arith, here, many, e, so)

pub counted_all : (count : ℕ) (classes : List LinkedClass) (i : ℕ) → length classes ≤ i →
    count + methods_of (classes_of (drop i classes)) ≡ methods_of (classes_of classes) → count ≡ methods_of (classes_of classes)
counted_all count classes i h so =
    let none : methods_of (classes_of (drop i classes)) ≡ 0 =
    ap (λ (cs : List LinkedClass). methods_of (classes_of cs)) (drop_all i classes h) in
    omega (arith, none, so)
