-- What a context reads, part by part.
use Rattle.std.proofs.Common.{◌≡◌, ℕ, zero, suc, ◌+◌, ◌-◌, ◌<◌, ◌≤◌, List, [], ◌∷◌, ◌++◌, length, get_or, drop, map, Option, Some, None}
use Rattle.std.proofs.Common.{refl, sym, ap, ◌∙◌, arith, add-one, append_assoc}
use Rattle.use_elements.proofs.Rests.{append_nil}
use Rattle.use_flow.proofs.Turns.{one, last}
use Rattle.jv_core.specs.Tree.{Program}
use Rattle.jv_core.specs.declared.program.CoreLoop.{CoreLoop}
use Rattle.jv_core.specs.Tree.{Method}
use Rattle.jv_core.specs.View.{loop_of}
use Rattle.use_rules.specs.declared.key.TableKey.{TableKey}
use Rattle.use_rules.specs.declared.key.TableKey.TheVariants as keys
use Rattle.use_flow.specs.declared.classed.Entry.{Entry}
use Rattle.use_flow.specs.inner.Listing.{listed_from, entry_if}
use Rattle.use_flow.specs.inner.Reading.{run_entries, class_run, result_entry, leave_entry, loop_entry}

-- Turns of loops.

pub run_next : (c i j : ℕ) (es es' total : List Entry) → i < j → es' ≡ es ++ entry_if (keys.Result i) (Some c) →
    es ++ run_entries (Some c) i (j - i) ≡ total → es' ++ run_entries (Some c) (i + 1) (j - (i + 1)) ≡ total
run_next c i j es es' total lt e h =
    ap (λ r. r ++ run_entries (Some c) (i + 1) (j - (i + 1))) e
    ∙ append_assoc es (entry_if (keys.Result i) (Some c)) (run_entries (Some c) (i + 1) (j - (i + 1)))
    ∙ ap (λ n. es ++ (entry_if (keys.Result i) (Some c) ++ run_entries (Some c) n (j - (i + 1)))) (add-one i)
    ∙ (let k : suc (j - (i + 1)) ≡ j - i = omega (arith, lt) in ap (λ n. es ++ run_entries (Some c) i n) k) ∙ h

pub run_last : (c i j : ℕ) (es total : List Entry) → j ≤ i → es ++ run_entries (Some c) i (j - i) ≡ total → es ≡ total
run_last c i j es total le h = sym ((let k : j - i ≡ zero = omega (arith, le) in ap (λ n. es ++ run_entries (Some c) i n) k) ∙
    append_nil es) ∙ h

pub ruleset runs = (run_next, run_last)

pub no_class : (es : List Entry) (starts : List ℕ) (n : ℕ) (o : Option ℕ) → None ≡ o → es ≡ es ++ class_run starts n o
no_class es starts n o e = sym (append_nil es) ∙ ap (λ x. es ++ class_run starts n x) e

pub class_is : (es : List Entry) (starts : List ℕ) (n c : ℕ) (o : Option ℕ) → Some c ≡ o → es ++ class_run starts n (Some c) ≡ es
    ++ class_run starts n o
class_is es starts n c o e = ap (λ x. es ++ class_run starts n x) e

pub ruleset results = (no_class, class_is)

pub result_listed : (p : Program) (starts : List ℕ) (i n : ℕ) (ns : List ℕ) (es es' total : List Entry) → i < length ns → n ≡ get_or ns i n
    →
    es' ≡ es ++ result_entry p starts 0 n →
    es ++ listed_from (result_entry p starts) i (drop i ns) ≡ total → es' ++ listed_from (result_entry p starts) (i + 1) (drop (i + 1) ns) ≡
    total
result_listed p starts = one (listed_from (result_entry p starts)) (result_entry p starts) (λ k y ys. refl) (λ k. refl)

pub results_listed : (p : Program) (starts : List ℕ) (i : ℕ) (ns : List ℕ) (es total : List Entry) → length ns ≤ i →
    es ++ listed_from (result_entry p starts) i (drop i ns) ≡ total → es ≡ total
results_listed p starts = last (listed_from (result_entry p starts)) (result_entry p starts) (λ k y ys. refl) (λ k. refl)

pub leave_listed : (p : Program) (i n : ℕ) (ns : List ℕ) (es es' total : List Entry) → i < length ns → n ≡ get_or ns i n →
    es' ≡ es ++ leave_entry p 0 n →
    es ++ listed_from (leave_entry p) i (drop i ns) ≡ total → es' ++ listed_from (leave_entry p) (i + 1) (drop (i + 1) ns) ≡ total
leave_listed p = one (listed_from (leave_entry p)) (leave_entry p) (λ k y ys. refl) (λ k. refl)

pub leaves_listed : (p : Program) (i : ℕ) (ns : List ℕ) (es total : List Entry) → length ns ≤ i →
    es ++ listed_from (leave_entry p) i (drop i ns) ≡ total → es ≡ total
leaves_listed p = last (listed_from (leave_entry p)) (leave_entry p) (λ k y ys. refl) (λ k. refl)

pub loop_listed : (p : Program) (c : ℕ) (m : Method) (i : ℕ) (l : CoreLoop) (ls : List CoreLoop) (es es' total : List Entry) → i < length ls
    → l ≡ get_or ls i l →
    es' ≡ es ++ loop_entry p c m i (loop_of l) →
    es ++ listed_from (loop_entry p c m) i (map loop_of (drop i ls)) ≡ total → es' ++ listed_from (loop_entry p c m) (i + 1)
    (map loop_of (drop (i + 1) ls)) ≡ total
loop_listed p c m = one (λ k (ys : List CoreLoop). listed_from (loop_entry p c m) k (map loop_of ys))
    (λ k (y : CoreLoop). loop_entry p c m k (loop_of y)) (λ k y ys. refl) (λ k. refl)

pub loops_listed : (p : Program) (c : ℕ) (m : Method) (i : ℕ) (ls : List CoreLoop) (es total : List Entry) → length ls ≤ i →
    es ++ listed_from (loop_entry p c m) i (map loop_of (drop i ls)) ≡ total → es ≡ total
loops_listed p c m = last (λ k (ys : List CoreLoop). listed_from (loop_entry p c m) k (map loop_of ys))
    (λ k (y : CoreLoop). loop_entry p c m k (loop_of y)) (λ k y ys. refl) (λ k. refl)

pub ruleset listing = (result_listed, results_listed, leave_listed, leaves_listed, loop_listed, loops_listed)

-- Parts, one after the other.

pub in_turn : (a b c x y : List Entry) → b ≡ a ++ x → c ≡ b ++ y → c ≡ a ++ (x ++ y)
in_turn a b c x y e f = f ∙ ap (λ r. r ++ y) e ∙ append_assoc a x y

pub ruleset parts = (in_turn, append_nil)

pub six_in_turn : (e a b c d f g u v w x y z : List Entry) → a ≡ e ++ u → b ≡ a ++ v → c ≡ b ++ w → d ≡ c ++ x → f ≡ d ++ y →
    g ≡ f ++ z →
    g ≡ e ++ (u ++ (v ++ (w ++ (x ++ (y ++ z)))))
six_in_turn e a b c d f g u v w x y z e1 e2 e3 e4 e5 e6 =
    in_turn e a g u (v ++ (w ++ (x ++ (y ++ z)))) e1
    (in_turn a b g v (w ++ (x ++ (y ++ z))) e2
    (in_turn b c g w (x ++ (y ++ z)) e3 (in_turn c d g x (y ++ z) e4 (in_turn d f g y z e5 e6))))

pub ruleset whole = (six_in_turn)

-- Keys of entries.

pub key_more : (i : ℕ) (e : Entry) (es : List Entry) (ks ks' total : List TableKey) → i < length es → e ≡ get_or es i e →
    ks' ≡ ks ++ e.key ∷ [] →
    ks ++ map (λ e. e.key) (drop i es) ≡ total → ks' ++ map (λ e. e.key) (drop (i + 1) es) ≡ total
key_more = one (λ k (es : List Entry). map (λ e. e.key) es) (λ k (e : Entry). e.key ∷ []) (λ k y ys. refl) (λ k. refl)

pub keys_end : (i : ℕ) (es : List Entry) (ks total : List TableKey) → length es ≤ i → ks ++ map (λ e. e.key) (drop i es) ≡ total →
    ks ≡ total
keys_end = last (λ k (es : List Entry). map (λ e. e.key) es) (λ k (e : Entry). e.key ∷ []) (λ k y ys. refl) (λ k. refl)

pub ruleset keyed = (key_more, keys_end)
