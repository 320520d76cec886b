-- Slots, loops and names are numbered one after another.
use Rattle.std.proofs.Common.{◌≡◌, ℕ, zero, suc, ◌+◌, List, [], ◌∷◌, ◌++◌, map, reverse, length, Some, option_map, slice_get, refl, sym, ap}
use Rattle.std.proofs.Common.{◌∙◌, subst, arith, length-append}
use Rattle.mg_text.specs.Call.{Name}
use Rattle.mg_text.specs.declared.place.Place.{Place}
use Rattle.ts_tree.specs.declared.parts.TypeName.{TypeName}
use Rattle.jv_rules.specs.Program.{Program}
use Rattle.jv_core.specs.Tree as Core
use Rattle.jv_core.specs.View.{before}
use Rattle.jv_core.specs.Lookup as core_lookup
use Rattle.jv_core.specs.Numbering.{numbers_from, declared_in, declared_in_all, loops_in, loops_in_all}
use Rattle.jv_names.specs.Resolves.{IsSlot}
use Rattle.jv_names.proofs.Tables.{some_is}
use Rattle.jv_resolve_law.specs.Tables.{Tables, type_meant, interned}
use Rattle.jv_resolve_law.specs.Expressions.{Known}
use Rattle.jv_resolve_law.specs.Statements.{Counted, Counting, slot_more, loop_more}
use Rattle.jv_resolve_law.proofs.Steps.{bound, Extends, at_front, at_end, numbered}
use Rattle.jv_resolve_law.proofs.Tabled.{IsTabled, type_meant_is}

pub numbers-append : (n j k : ℕ) → numbers_from n j ++ numbers_from (n + j) k ≡ numbers_from n (j + k)
numbers-append n zero k = ap (λ m. numbers_from m k) (zero-right n) ∙ ap (numbers_from n) (zero-left k)
  where
    zero-right : (n : ℕ) → n + zero ≡ n
    zero-right n = omega arith

    zero-left : (k : ℕ) → k ≡ zero + k
    zero-left k = omega arith
numbers-append n (suc j) k =
    ap (λ xs. n ∷ xs) (ap (λ m. numbers_from (suc n) j ++ numbers_from m k) (moved n j) ∙ numbers-append (suc n) j k) ∙
    ap (numbers_from n) (joined j k)
  where
    moved : (n j : ℕ) → n + suc j ≡ suc n + j
    moved n j = omega arith

    joined : (j k : ℕ) → suc (j + k) ≡ suc j + k
    joined j k = omega arith

-- from one count to another these slots are declared and these loops stand, in rising order, and nothing is lost
pub record Counts (slots loops : List ℕ) (s t : Counted) : Type 0 where
  pub more_slots : ℕ
  pub more_loops : ℕ
  pub slot_count : length t.slots ≡ length s.slots + more_slots
  pub loop_count : length t.loops ≡ length s.loops + more_loops
  pub slots_are : slots ≡ numbers_from (length s.slots) more_slots
  pub loops_are : loops ≡ numbers_from (length s.loops) more_loops
  pub names_kept : Extends s.names t.names
  pub slots_kept : Extends s.slots t.slots
  pub loops_kept : Extends s.loops t.loops

same-count : (n : ℕ) → n ≡ n + 0
same-count n = omega arith

one-more : (n : ℕ) → n + 1 ≡ n + suc zero
one-more n = omega arith

pub counts_none : (s : Counted) → Counts [] [] s s
counts_none s = record {
  more_slots = zero;
  more_loops = zero;
  slot_count = same-count (length s.slots);
  loop_count = same-count (length s.loops);
  slots_are = refl;
  loops_are = refl;
  names_kept = λ n a e. e;
  slots_kept = λ n a e. e;
  loops_kept = λ n a e. e;
}

sum : (a b c j k : ℕ) → b ≡ a + j → c ≡ b + k → c ≡ a + (j + k)
sum a b c j k e f = omega (arith, e, f)

pub counts_then : {ds es ls ms : List ℕ} {s t u : Counted} → Counts ds ls s t → Counts es ms t u → Counts (ds ++ es) (ls ++ ms) s u
counts_then {ds = ds} {es = es} {ls = ls} {ms = ms} {s = s} {t = t} {u = u} a b = record {
  more_slots = a.more_slots + b.more_slots;
  more_loops = a.more_loops + b.more_loops;
  slot_count = sum (length s.slots) (length t.slots) (length u.slots) a.more_slots b.more_slots a.slot_count b.slot_count;
  loop_count = sum (length s.loops) (length t.loops) (length u.loops) a.more_loops b.more_loops a.loop_count b.loop_count;
  slots_are =
      ap (λ xs. xs ++ es) a.slots_are
      ∙ ap (λ xs. numbers_from (length s.slots) a.more_slots ++ xs) (b.slots_are ∙ ap (λ n. numbers_from n b.more_slots) a.slot_count)
      ∙ numbers-append (length s.slots) a.more_slots b.more_slots;
  loops_are =
      ap (λ xs. xs ++ ms) a.loops_are
      ∙ ap (λ xs. numbers_from (length s.loops) a.more_loops ++ xs) (b.loops_are ∙ ap (λ n. numbers_from n b.more_loops) a.loop_count)
      ∙ numbers-append (length s.loops) a.more_loops b.more_loops;
  names_kept = λ n x e. b.names_kept n x (a.names_kept n x e);
  slots_kept = λ n x e. b.slots_kept n x (a.slots_kept n x e);
  loops_kept = λ n x e. b.loops_kept n x (a.loops_kept n x e);
}

pub longer : {A : Type 0} (xs : List A) (x : A) → length (xs ++ x ∷ []) ≡ length xs + suc zero
longer xs x = length-append xs (x ∷ []) ∙ one-more (length xs)

pub counts_loop : (p : Place) (locals : List Known) (s : Counted) → Counts [] (length s.loops ∷ []) s (loop_more p locals s)
counts_loop p locals s = record {
  more_slots = zero;
  more_loops = suc zero;
  slot_count = same-count (length s.slots);
  loop_count = longer s.loops (record { place = p; scope = reverse (map (λ l. l.it.slot) locals) });
  slots_are = refl;
  loops_are = refl;
  names_kept = λ n a e. e;
  slots_kept = λ n a e. e;
  loops_kept = λ n a e. at_front s.loops (record { place = p; scope = reverse (map (λ l. l.it.slot) locals) } ∷ []) n a e;
}

-- What has its number in the end.

pub record Reaches (core : Core.Program) (method : Core.Method) (t : Counted) : Type 0 where
  pub names : Extends t.names core.names
  pub slots : Extends t.slots method.slots
  pub loops : Extends t.loops method.loops

pub reaches_back : {core : Core.Program} {method : Core.Method} {ds ls : List ℕ} {s t : Counted} → Counts ds ls s t →
    Reaches core method t → Reaches core method s
reaches_back c r = record {
  names = λ n a e. r.names n a (c.names_kept n a e);
  slots = λ n a e. r.slots n a (c.slots_kept n a e);
  loops = λ n a e. r.loops n a (c.loops_kept n a e);
}

-- one more slot
pub record SlotMore (ty : TypeName) (name : Name) (tables : Tables) (s : Counted) (k : Counting Known) : Type 0 where
  pub counts : Counts (k.it.it.slot ∷ []) [] s k.so_far
  pub called : k.it.name ≡ name
  pub slot : k.it.it.slot ≡ length s.slots
  pub number : ℕ
  pub meant : type_meant tables ty ≡ Some k.it.it.ty
  pub at : slice_get k.so_far.slots k.it.it.slot ≡ Some (record { name = number; ty = k.it.it.ty })
  pub named : slice_get k.so_far.names number ≡ Some name
  pub loops : k.so_far.loops ≡ s.loops
  pub count : length k.so_far.slots ≡ suc (length s.slots)

next : (n : ℕ) → n + suc zero ≡ suc n
next n = omega arith

pub slot_more_is : (tables : Tables) (ty : TypeName) (name : Name) (s : Counted) (k : Counting Known) →
    slot_more tables ty name s ≡ Some k → SlotMore ty name tables s k
slot_more_is tables ty name s k given =
    let b = bound (type_meant tables ty) _ k given in
    let c = bound (interned s.names name) _ k b.gives in
    let h = numbered s.names name c.item c.is in
    subst (SlotMore ty name tables s) (some_is c.gives) (record {
      counts = record {
        more_slots = suc zero;
        more_loops = zero;
        slot_count = longer s.slots (record { name = c.item.number; ty = b.item });
        loop_count = same-count (length s.loops);
        slots_are = refl;
        loops_are = refl;
        names_kept = h.grown;
        slots_kept = λ n a e. at_front s.slots (record { name = c.item.number; ty = b.item } ∷ []) n a e;
        loops_kept = λ n a e. e;
      };
      called = refl;
      slot = refl;
      number = c.item.number;
      meant = b.is;
      at = at_end s.slots (record { name = c.item.number; ty = b.item });
      named = h.at;
      loops = refl;
      count = longer s.slots (record { name = c.item.number; ty = b.item }) ∙ next (length s.slots);
    })

-- the slot in the method of the core
pub record InMethod (program : Program) (core : Core.Program) (method : Core.Method) (ty : TypeName) (name : Name) (k : Known) : Type 0
  where
    pub slot : IsSlot program core method k.it.slot name ty
    pub typed : core_lookup.slot_type method k.it.slot ≡ Some k.it.ty

pub in_method : (program : Program) (core : Core.Program) (method : Core.Method) (tables : Tables) (ty : TypeName) (name : Name)
    (s : Counted) (k : Counting Known) →
    IsTabled program tables → SlotMore ty name tables s k → Reaches core method k.so_far → InMethod program core method ty name k.it
in_method program core method tables ty name s k t m r = record {
  slot = record {
    slot = record { name = m.number; ty = k.it.it.ty };
    at = r.slots k.it.it.slot (record { name = m.number; ty = k.it.it.ty }) m.at;
    named = r.names m.number name m.named;
    type = type_meant_is program core tables t ty k.it.it.ty m.meant;
  };
  typed = ap (option_map (λ (s : Core.Slot). s.ty)) (r.slots k.it.it.slot (record { name = m.number; ty = k.it.it.ty }) m.at);
}

-- A statement in front of others.

pub declared_before : (s : Core.Stmt) (more : Core.Stmts) → declared_in_all (before s more) ≡ declared_in s ++ declared_in_all more
declared_before (Core.Local p k e) more = refl
declared_before s more = refl

pub loops_before : (s : Core.Stmt) (more : Core.Stmts) → loops_in_all (before s more) ≡ loops_in s ++ loops_in_all more
loops_before (Core.Local p k e) more = refl
loops_before s more = refl

pub counts_as : {ds es ls ms : List ℕ} {s t : Counted} → Counts ds ls s t → es ≡ ds → ms ≡ ls → Counts es ms s t
counts_as {ds = ds} {es = es} {ls = ls} {ms = ms} {s = s} {t = t} c e f =
    subst (λ es. Counts es ms s t) (sym e) (subst (λ ms. Counts ds ms s t) (sym f) c)

pub counts_before : (x : Core.Stmt) (more : Core.Stmts) {s t u : Counted} → Counts (declared_in x) (loops_in x) s t →
    Counts (declared_in_all more) (loops_in_all more) t u →
    Counts (declared_in_all (before x more)) (loops_in_all (before x more)) s u
counts_before x more a b = counts_as (counts_then a b) (declared_before x more) (loops_before x more)
