-- What a turn of a loop that lists tables adds.
use Rattle.std.proofs.Common.{◌≡◌, ℕ, ◌+◌, ◌<◌, ◌≤◌, List, [], ◌∷◌, ◌++◌, length, get_or, drop, map, refl, sym, ap, ◌∙◌, append_assoc}
use Rattle.std.proofs.Common.{arith}
use Rattle.std.specs.Prelude.{option_and_then}
use Rattle.std.proofs.lemmas.List.{get_or_default}
use Rattle.ts_tree.specs.declared.parts.State.{State as KeptState}
use Rattle.ts_tree.specs.View.{state_of}
use Rattle.jv_core.specs.declared.program.CoreClass.{CoreClass}
use Rattle.jv_core.specs.declared.program.CoreField.{CoreField}
use Rattle.jv_core.specs.declared.program.CoreLoop.{CoreLoop}
use Rattle.jv_core.specs.declared.program.CoreMethod.{CoreMethod}
use Rattle.jv_core.specs.declared.program.CoreSlot.{CoreSlot}
use Rattle.jv_core.specs.Lookup.{slot_type}
use Rattle.jv_core.specs.Tree.{Field, Method, Program}
use Rattle.jv_core.specs.View.{class_of, field_of, loop_of, method_of}
use Rattle.use_flow.specs.declared.classed.Entry.{Entry}
use Rattle.use_flow.specs.declared.fields.FieldTable.{FieldTable}
use Rattle.use_rules.specs.declared.key.Context.{Context}
use Rattle.use_rules.specs.declared.key.TableKey.TheVariants as keys
use Rattle.use_rules.specs.Keys.{class_in}
use Rattle.use_flow.specs.inner.Fields.{key_in}
use Rattle.use_flow.specs.inner.Listing.{listed_from, entry_if, field_entry, field_entries, state_entry, class_entries, method_entries}
use Rattle.use_flow.specs.inner.Listing.{param_entry, slot_entry, loop_entries, entries_at}
use Rattle.use_elements.proofs.Rests.{append_nil}
use Rattle.use_flow.proofs.Turns.{one, last}

-- Lists of images, item by item.
module _ {A B : Type 0} (g : A → B) (f : ℕ → B → List Entry) where
  turn : (i : ℕ) (x : A) (xs : List A) (es es' total : List Entry) → i < length xs → x ≡ get_or xs i x → es' ≡ es ++ f i (g x) →
      es ++ listed_from f i (map g (drop i xs)) ≡ total → es' ++ listed_from f (i + 1) (map g (drop (i + 1) xs)) ≡ total
  turn i x xs es es' total lt at e h = one (λ k ys. listed_from f k (map g ys)) (λ k y. f k (g y)) (λ k y ys. refl) (λ k. refl) i x xs es
      es' total lt at e h

  stop : (i : ℕ) (xs : List A) (es total : List Entry) → length xs ≤ i → es ++ listed_from f i (map g (drop i xs)) ≡ total → es ≡ total
  stop i xs es total le h = last (λ k ys. listed_from f k (map g ys)) (λ k y. f k (g y)) (λ k y ys. refl) (λ k. refl) i xs es total le h

pub field_listed : (table : FieldTable) (i : ℕ) (d : CoreField) (ds : List CoreField) (es es' total : List Entry) → i < length ds →
    d ≡ get_or ds i d →
    es' ≡ es ++ entry_if (key_in table i) (class_in d.ty) →
    es ++ listed_from (field_entry (key_in table)) i (map field_of (drop i ds)) ≡ total → es' ++ listed_from (field_entry (key_in table))
    (i + 1) (map field_of (drop (i + 1) ds)) ≡ total
field_listed table = turn field_of (field_entry (key_in table))

pub fields_listed : (table : FieldTable) (i : ℕ) (ds : List CoreField) (es total : List Entry) → length ds ≤ i →
    es ++ listed_from (field_entry (key_in table)) i (map field_of (drop i ds)) ≡ total → es ≡ total
fields_listed table = stop field_of (field_entry (key_in table))

pub ruleset fields = (field_listed, fields_listed)

pub state_listed : (c : ℕ) (ds : List Field) (i : ℕ) (ss : List KeptState) (es es' total : List Entry) → i < length ss →
    es' ≡ es ++ field_entries (keys.Field c i) ds →
    es ++ listed_from (state_entry c ds) i (map state_of (drop i ss)) ≡ total → es' ++ listed_from (state_entry c ds) (i + 1)
    (map state_of (drop (i + 1) ss)) ≡ total
state_listed c ds i [] es es' total lt = absurd (omega (arith, lt))
state_listed c ds i (s ∷ ss) es es' total lt =
    turn state_of (state_entry c ds) i (get_or (s ∷ ss) i s) (s ∷ ss) es es' total lt
    (sym (get_or_default (s ∷ ss) i (get_or (s ∷ ss) i s) s lt))

pub states_listed : (c : ℕ) (ds : List Field) (i : ℕ) (ss : List KeptState) (es total : List Entry) → length ss ≤ i →
    es ++ listed_from (state_entry c ds) i (map state_of (drop i ss)) ≡ total → es ≡ total
states_listed c ds = stop state_of (state_entry c ds)

pub ruleset states = (states_listed)

pub class_listed : (p : Program) (i : ℕ) (k : CoreClass) (ks : List CoreClass) (es es' total : List Entry) → i < length ks →
    k ≡ get_or ks i k →
    es' ≡ es ++ class_entries p i (class_of k) →
    es ++ listed_from (class_entries p) i (map class_of (drop i ks)) ≡ total → es' ++ listed_from (class_entries p) (i + 1)
    (map class_of (drop (i + 1) ks)) ≡ total
class_listed p = turn class_of (class_entries p)

pub classes_listed : (p : Program) (i : ℕ) (ks : List CoreClass) (es total : List Entry) → length ks ≤ i →
    es ++ listed_from (class_entries p) i (map class_of (drop i ks)) ≡ total → es ≡ total
classes_listed p = stop class_of (class_entries p)

pub ruleset classes = (class_listed, classes_listed)

pub method_listed : (p : Program) (i : ℕ) (m : CoreMethod) (ms : List CoreMethod) (es es' total : List Entry) → i < length ms →
    m ≡ get_or ms i m →
    es' ≡ es ++ method_entries p i (method_of m) →
    es ++ listed_from (method_entries p) i (map method_of (drop i ms)) ≡ total → es' ++ listed_from (method_entries p) (i + 1)
    (map method_of (drop (i + 1) ms)) ≡ total
method_listed p = turn method_of (method_entries p)

pub methods_listed : (p : Program) (i : ℕ) (ms : List CoreMethod) (es total : List Entry) → length ms ≤ i →
    es ++ listed_from (method_entries p) i (map method_of (drop i ms)) ≡ total → es ≡ total
methods_listed p = stop method_of (method_entries p)

pub ruleset methods = (method_listed, methods_listed)

pub param_listed : (c : ℕ) (i : ℕ) (s : CoreSlot) (ss : List CoreSlot) (es es' total : List Entry) → i < length ss → s ≡ get_or ss i s →
    es' ≡ es ++ entry_if (keys.Param c i) (class_in s.ty) →
    es ++ listed_from (param_entry c) i (map (λ s. s.ty) (drop i ss)) ≡ total → es' ++ listed_from (param_entry c) (i + 1)
    (map (λ s. s.ty) (drop (i + 1) ss)) ≡ total
param_listed c = turn (λ (s : CoreSlot). s.ty) (param_entry c)

pub params_listed : (c : ℕ) (i : ℕ) (ss : List CoreSlot) (es total : List Entry) → length ss ≤ i →
    es ++ listed_from (param_entry c) i (map (λ s. s.ty) (drop i ss)) ≡ total → es ≡ total
params_listed c = stop (λ (s : CoreSlot). s.ty) (param_entry c)

pub ruleset params = (param_listed, params_listed)

pub slot_listed : (m : Method) (c l : ℕ) (i k : ℕ) (ks : List ℕ) (es es' total : List Entry) → i < length ks → k ≡ get_or ks i k →
    es' ≡ es ++ entry_if (keys.Loop c l k) (option_and_then class_in (slot_type m k)) →
    es ++ listed_from (slot_entry m c l) i (drop i ks) ≡ total → es' ++ listed_from (slot_entry m c l) (i + 1) (drop (i + 1) ks) ≡ total
slot_listed m c l = one (listed_from (slot_entry m c l)) (slot_entry m c l) (λ k y ys. refl) (λ k. refl)

pub slots_listed : (m : Method) (c l : ℕ) (i : ℕ) (ks : List ℕ) (es total : List Entry) → length ks ≤ i →
    es ++ listed_from (slot_entry m c l) i (drop i ks) ≡ total → es ≡ total
slots_listed m c l = last (listed_from (slot_entry m c l)) (slot_entry m c l) (λ k y ys. refl) (λ k. refl)

pub ruleset slots = (slot_listed, slots_listed)

pub loop_listed : (p : Program) (c : ℕ) (m : Method) (i : ℕ) (l : CoreLoop) (ls : List CoreLoop) (es es' total : List Entry) → i < length ls
    → l ≡ get_or ls i l →
    es' ≡ es ++ loop_entries p c m i (loop_of l) →
    es ++ listed_from (loop_entries p c m) i (map loop_of (drop i ls)) ≡ total → es' ++ listed_from (loop_entries p c m) (i + 1)
    (map loop_of (drop (i + 1) ls)) ≡ total
loop_listed p c m = turn loop_of (loop_entries p c m)

pub loops_listed : (p : Program) (c : ℕ) (m : Method) (i : ℕ) (ls : List CoreLoop) (es total : List Entry) → length ls ≤ i →
    es ++ listed_from (loop_entries p c m) i (map loop_of (drop i ls)) ≡ total → es ≡ total
loops_listed p c m = stop loop_of (loop_entries p c m)

pub ruleset loops = (loop_listed, loops_listed)

pub context_listed : (p : Program) (i : ℕ) (x : Context) (xs : List Context) (es es' total : List Entry) → i < length xs → x ≡ get_or xs i x
    →
    es' ≡ es ++ entries_at p i x →
    es ++ listed_from (entries_at p) i (drop i xs) ≡ total → es' ++ listed_from (entries_at p) (i + 1) (drop (i + 1) xs) ≡ total
context_listed p = one (listed_from (entries_at p)) (entries_at p) (λ k y ys. refl) (λ k. refl)

pub contexts_listed : (p : Program) (i : ℕ) (xs : List Context) (es total : List Entry) → length xs ≤ i →
    es ++ listed_from (entries_at p) i (drop i xs) ≡ total → es ≡ total
contexts_listed p = last (listed_from (entries_at p)) (entries_at p) (λ k y ys. refl) (λ k. refl)

pub ruleset contexts = (context_listed, contexts_listed)

-- Parts, one after the other.

pub in_turn : (a b c x y : List Entry) → b ≡ a ++ x → c ≡ b ++ y → c ≡ a ++ (x ++ y)
in_turn a b c x y e f = f ∙ ap (λ r. r ++ y) e ∙ append_assoc a x y

pub three_in_turn : (a b c d x y z : List Entry) → b ≡ a ++ x → c ≡ b ++ y → d ≡ c ++ z → d ≡ a ++ (x ++ (y ++ z))
three_in_turn a b c d x y z e f g = in_turn a b d x (y ++ z) e (in_turn b c d y z f g)

pub ruleset parts = (in_turn, three_in_turn, append_nil)

pub all_in_turn : (a b c d x y z : List Entry) → a ≡ [] → b ≡ a ++ x → c ≡ b ++ y → d ≡ c ++ z → d ≡ x ++ (y ++ z)
all_in_turn a b c d x y z n e f g = three_in_turn a b c d x y z e f g ∙ ap (λ r. r ++ (x ++ (y ++ z))) n

pub ruleset whole = (all_in_turn)
