-- The rows of instructions that double, swap, read or change what they find.
use Rattle.std.proofs.Common.{◌≡◌, ℕ, zero, suc, ◌+◌, ◌<◌, ◌≤◌, inl, inr, List, [], ◌∷◌, ◌++◌, length, map, Option, Some, None, refl, sym}
use Rattle.std.proofs.Common.{ap, ap₂, subst, ◌∙◌, arith}
use Rattle.std.specs.Prelude.{ℤ, slice_get, slice_set, option_map}
use Rattle.std.proofs.lemmas.List.{append-nil, length-append, length-map, map-append}
use Rattle.mg_text.specs.Call.{Name}
use Rattle.vm_model.specs.declared.value.Value.{Value}
use Rattle.vm_model.specs.declared.value.Value.TheVariants as values
use Rattle.vm_model.specs.Program.{Program, MethodOf, method_at}
use Rattle.vm_model.specs.Actions.{Double, Swap, Load, Store, Increase, Go, Number}
use Rattle.vm_model.specs.Tests.{max_stack_in}
use Rattle.vm_model.specs.Tests as tests
use Rattle.vm_actions.specs.declared.action.Sort.{Sort}
use Rattle.vm_actions.specs.declared.action.Sort.TheVariants as sorts
use Rattle.vm_actions.specs.Table.{sort_of}
use Rattle.cls_verify.specs.Kinds.{HasSort, AllPass}
use Rattle.cls_verify.specs.Kinds as model
use Rattle.cls_verify.specs.Rows.{kinds_in}
use Rattle.cls_verify.specs.Typing.{Kinds}
use Rattle.cls_verify.specs.BlockRows.{Row}
use Rattle.cls_verify.proofs.Searching.{pass_many}
use Rattle.cls_kinds.specs.declared.kind.Kind.{Kind}
use Rattle.cls_kinds.specs.Stacks.{stack_at}
use Rattle.cls_kinds.specs.Named.{kind_of, kinds_of}
use Rattle.cls_rows.specs.declared.frame.Frame.{Frame}
use Rattle.cls_rows.specs.Frames.{kinds_at, KeepsLocals}
use Rattle.cls_rows.specs.Changes.{locals_of, CanDouble, Doubles, CanSwap, Swaps, CanRead, CanLoad, Loads, CanStore, Stores}
use Rattle.cls_rows.proofs.Alike.{kinds_with, sorted_says, split_kinds}

-- Locals that are kept, before those that no instruction names.

get_front : {A : Type 0} (xs ys : List A) (i : ℕ) → i < length xs → slice_get (xs ++ ys) i ≡ slice_get xs i
get_front [] ys i h = absurd (omega (arith, h))
get_front (x ∷ xs) ys zero h = refl
get_front (x ∷ xs) ys (suc i) h = get_front xs ys i (omega (arith, h))

set_front : {A : Type 0} (xs ys : List A) (i : ℕ) (a : A) → i < length xs → slice_set (xs ++ ys) i a ≡ slice_set xs i a ++ ys
set_front [] ys i a h = absurd (omega (arith, h))
set_front (x ∷ xs) ys zero a h = refl
set_front (x ∷ xs) ys (suc i) a h = ap (λ l. x ∷ l) (set_front xs ys i a (omega (arith, h)))

get_map : (names : List Name) (ks : List Kind) (i : ℕ) → slice_get (kinds_of names ks) i ≡ option_map (kind_of names) (slice_get ks i)
get_map names [] i = refl
get_map names (k ∷ ks) zero = refl
get_map names (k ∷ ks) (suc i) = get_map names ks i

set_map : (names : List Name) (ks : List Kind) (i : ℕ) (k : Kind) → slice_set (kinds_of names ks) i (kind_of names k) ≡ kinds_of names
    (slice_set ks i k)
set_map names [] i k = refl
set_map names (x ∷ ks) zero k = refl
set_map names (x ∷ ks) (suc i) k = ap (λ l. kind_of names x ∷ l) (set_map names ks i k)

pub local_at : (names : List Name) (rest : List model.Kind) (f : Frame) (i : ℕ) → KeepsLocals rest f → i < 256 →
    slice_get (kinds_of names (locals_of f) ++ rest) i ≡ option_map (kind_of names) (slice_get (locals_of f) i)
local_at names rest f i (inl e) h =
    ap (λ l. slice_get l i) (ap (λ r. kinds_of names (locals_of f) ++ r) e ∙ append-nil (kinds_of names (locals_of f))) ∙
    get_map names (locals_of f) i
local_at names rest f i (inr long) h =
    let l = length-map (locals_of f) (kind_of names) in
    get_front (kinds_of names (locals_of f)) rest i (omega (arith, long, h, l)) ∙ get_map names (locals_of f) i

pub set_local : (names : List Name) (rest : List model.Kind) (f : Frame) (i : ℕ) (k : Kind) → i < length (locals_of f) →
    slice_set (kinds_of names (locals_of f) ++ rest) i (kind_of names k) ≡ kinds_of names (slice_set (locals_of f) i k) ++ rest
set_local names rest f i k h =
    let l = length-map (locals_of f) (kind_of names) in
    set_front (kinds_of names (locals_of f)) rest i (kind_of names k) (omega (arith, h, l)) ∙ ap (λ x. x ++ rest)
    (set_map names (locals_of f) i k)

set_same : {A : Type 0} (xs : List A) (i : ℕ) (a : A) → slice_get xs i ≡ Some a → slice_set xs i a ≡ xs
set_same [] i a e = refl
set_same (x ∷ xs) zero a e = ap (λ y. y ∷ xs) (let s : x ≡ a = cc e in sym s)
set_same (x ∷ xs) (suc i) a e = ap (λ l. x ∷ l) (set_same xs i a e)

get_within : {A : Type 0} (xs : List A) (i : ℕ) (a : A) → slice_get xs i ≡ Some a → i < length xs
get_within [] i a e = absurd (cc e)
get_within (x ∷ xs) zero a e = omega arith
get_within (x ∷ xs) (suc i) a e = let h = get_within xs i a e in omega (arith, h)

one_of : (ks : List Kind) → length ks ≡ 1 → (k : Kind) × (ks ≡ k ∷ [])
one_of [] n = absurd (omega (arith, n))
one_of (k ∷ []) n = (k, refl)
one_of (k ∷ l ∷ ks) n = absurd (omega (arith, n))

two_of : (ks : List Kind) → length ks ≡ 2 → (k : Kind) × ((l : Kind) × (ks ≡ k ∷ l ∷ []))
two_of [] n = absurd (omega (arith, n))
two_of (k ∷ []) n = absurd (omega (arith, n))
two_of (k ∷ l ∷ []) n = (k, (l, refl))
two_of (k ∷ l ∷ j ∷ ks) n = absurd (omega (arith, n))

abbrev no_local : Option Value
no_local = None

module _ (names : List Name) (rest : List model.Kind) (p : Program) (class method : ℕ) (m : MethodOf) (there : method_at p class method
    ≡ Some m) where
  most : max_stack_in (method_at p class method) ≡ m.max_stack
  most = ap max_stack_in there

  standing_many : (ks : List model.Kind) → length (map (λ (x : model.Kind). values.Null) ks) ≡ length ks
  standing_many ks = length-map ks (λ (x : model.Kind). values.Null)

  same_kinds : (new : List (List Kind)) (f g : Frame) (operands : List model.Kind) → locals_of g ≡ locals_of f →
      kinds_of names (stack_at new g.operands) ≡ operands →
      kinds_at names rest new g ≡ kinds_with (kinds_of names (locals_of f) ++ rest) operands
  same_kinds new f g operands e o = ap₂ (λ ls os. kinds_with (kinds_of names ls ++ rest) os) e o

  pub double_row : (old new : List (List Kind)) (f g : Frame) → Doubles old new m.max_stack f g →
      Row p class method m (kinds_at names rest old f) Double (kinds_at names rest new g)
  double_row old new f g d =
      let split : kinds_of names (stack_at old f.operands) ≡ kinds_of names d.can.below ++ kind_of names d.can.kind ∷ [] =
      ap (kinds_of names) d.can.split ∙ map-append (kind_of names) d.can.below (d.can.kind ∷ []) in
      let left : kinds_of names (stack_at new g.operands) ≡ kinds_of names d.can.below ++ kind_of names d.can.kind ∷ kind_of names
      d.can.kind ∷ [] =
      ap (kinds_of names) d.left ∙ map-append (kind_of names) d.can.below (d.can.kind ∷ d.can.kind ∷ []) in
      let a = ap length split in
      let b = length-append (kinds_of names d.can.below) (kind_of names d.can.kind ∷ []) in
      let l = length-map d.can.below (kind_of names) in
      let e = length-append d.can.below (d.can.kind ∷ d.can.kind ∷ []) in
      let s = standing_many (kinds_of names (stack_at old f.operands)) in
      let r = d.can.room in
      let u = ap length d.left in
      let v = length-map (stack_at new g.operands) (kind_of names) in
      let w = most in
      record {
        below = kinds_of names d.can.below;
        taken = kind_of names d.can.kind ∷ [];
        split = split;
        meets = record {
          takes = (tt, tt);
          reads = tt;
          locals_there = omega arith;
          returns = refl;
          room =
              omega (arith, a, b, l, e, s, r, w);
        };
        names = tt;
        left_is = same_kinds new f g _ d.locals left;
        room = omega (arith, r, u, v);
      }

  pub row_doubles : (old : List (List Kind)) (f : Frame) (left : Kinds) → Row p class method m (kinds_at names rest old f) Double left →
      CanDouble old m.max_stack f
  row_doubles old f left r =
      let (b, (t, (s, (low, top)))) = split_kinds names (stack_at old f.operands) r.below r.taken r.split in
      let many : 1 ≡ length r.taken = pass_many (tests.Any ∷ []) r.taken r.meets.takes in
      let tl = length-map t (kind_of names) in
      let te = ap length top in
      let one = one_of t (omega (arith, many, tl, te)) in
      let le : length left.operands ≡ length (r.below ++ (r.taken ++ r.taken)) = ap (λ (x : Kinds). length x.operands) r.left_is in
      let a = length-append r.below (r.taken ++ r.taken) in
      let c = length-append r.taken r.taken in
      let bl = length-map b (kind_of names) in
      let be = ap length low in
      let e = length-append b (one.0 ∷ one.0 ∷ []) in
      let h = r.room in
      record { below = b; kind = one.0; split = s ∙ ap (λ x. b ++ x) one.1; room = omega (arith, many, le, a, c, bl, be, e, h) }

  pub swap_row : (old new : List (List Kind)) (f g : Frame) → length (stack_at old f.operands) ≤ m.max_stack → Swaps old new f g →
      Row p class method m (kinds_at names rest old f) Swap (kinds_at names rest new g)
  swap_row old new f g fits d =
      let split : kinds_of names (stack_at old f.operands) ≡ kinds_of names d.can.below ++ kind_of names d.can.lower ∷ kind_of names
      d.can.upper ∷ [] =
      ap (kinds_of names) d.can.split ∙ map-append (kind_of names) d.can.below (d.can.lower ∷ d.can.upper ∷ []) in
      let left : kinds_of names (stack_at new g.operands) ≡ kinds_of names d.can.below ++ kind_of names d.can.upper ∷ kind_of names
      d.can.lower ∷ [] =
      ap (kinds_of names) d.left ∙ map-append (kind_of names) d.can.below (d.can.upper ∷ d.can.lower ∷ []) in
      let a = ap length d.can.split in
      let b = length-append d.can.below (d.can.lower ∷ d.can.upper ∷ []) in
      let o = length-map (stack_at old f.operands) (kind_of names) in
      let s = standing_many (kinds_of names (stack_at old f.operands)) in
      let u = ap length d.left in
      let x = length-append d.can.below (d.can.upper ∷ d.can.lower ∷ []) in
      let v = length-map (stack_at new g.operands) (kind_of names) in
      let w = most in
      record {
        below = kinds_of names d.can.below;
        taken = kind_of names d.can.lower ∷ kind_of names d.can.upper ∷ [];
        split = split;
        meets = record {
          takes = (tt, (tt, tt));
          reads = tt;
          locals_there = omega arith;
          returns = refl;
          room =
              omega (arith, a, b, o, s, fits, w);
        };
        names = tt;
        left_is = same_kinds new f g _ d.locals left;
        room = omega (arith, a, b, u, x, v, fits);
      }

  pub row_swaps : (old : List (List Kind)) (f : Frame) (left : Kinds) → Row p class method m (kinds_at names rest old f) Swap left →
      CanSwap old f
  row_swaps old f left r =
      let (b, (t, (s, (low, top)))) = split_kinds names (stack_at old f.operands) r.below r.taken r.split in
      let many : 2 ≡ length r.taken = pass_many (tests.Any ∷ tests.Any ∷ []) r.taken r.meets.takes in
      let tl = length-map t (kind_of names) in
      let te = ap length top in
      let two = two_of t (omega (arith, many, tl, te)) in
      record { below = b; lower = two.0; upper = two.1.0; split = s ∙ ap (λ x. b ++ x) two.1.1 }

  -- a local is of a sort in kinds by numbers where it is one in kinds
  read_is : (f : Frame) (sort : Sort) (local : ℕ) (k : Kind) → KeepsLocals rest f → local < 256 → slice_get (locals_of f) local ≡ Some k →
      slice_get (kinds_of names (locals_of f) ++ rest) local ≡ Some (kind_of names k)
  read_is f sort local k keeps h e = local_at names rest f local keeps h ∙ ap (option_map (kind_of names)) e

  can_read : (f : Frame) (sort : Sort) (local : ℕ) → KeepsLocals rest f → local < 256 → (k : model.Kind) →
      slice_get (kinds_of names (locals_of f) ++ rest) local ≡ Some k → HasSort (sort_of sort) k → CanRead sort local f
  can_read f sort local keeps h k e has = go (slice_get (locals_of f) local) refl (sym (local_at names rest f local keeps h) ∙ e)
    where
      go : (o : Option Kind) → slice_get (locals_of f) local ≡ o → option_map (kind_of names) o ≡ Some k → CanRead sort local f
      go None g i = absurd (cc i)
      go (Some j) g i =
          let same : kind_of names j ≡ k = cc i in
          record { kind = j; held = g; is = (sorted_says names sort j).1 (subst (HasSort (sort_of sort)) (sym same) has) }

  pub load_row : (old new : List (List Kind)) (sort : Sort) (local : ℕ) (f g : Frame) → KeepsLocals rest f → local < 256 →
      length (locals_of f) + length rest ≡ m.max_locals → Loads old new m.max_stack sort local f g →
      Row p class method m (kinds_at names rest old f) (Load (sort_of sort) local) (kinds_at names rest new g)
  load_row old new sort local f g keeps h whole d =
      let held = read_is f sort local d.can.read.kind keeps h d.can.read.held in
      let has : HasSort (sort_of sort) (kind_of names d.can.read.kind) = (sorted_says names sort d.can.read.kind).0 d.can.read.is in
      let within = get_within (locals_of f) local d.can.read.kind d.can.read.held in
      let fm = length-map (locals_of f) (kind_of names) in
      let fa = length-append (kinds_of names (locals_of f)) rest in
      let sl = length-map (kinds_of names (locals_of f) ++ rest) (λ (x : model.Kind). no_local) in
      let o = length-map (stack_at old f.operands) (kind_of names) in
      let s = standing_many (kinds_of names (stack_at old f.operands)) in
      let a = length-append (stack_at old f.operands) (d.can.read.kind ∷ []) in
      let r = d.can.room in
      let u = ap length d.left in
      let v = length-map (stack_at new g.operands) (kind_of names) in
      let w = most in
      let left : kinds_of names (stack_at new g.operands) ≡ kinds_of names (stack_at old f.operands) ++ kind_of names d.can.read.kind ∷ [] =
      ap (kinds_of names) d.left ∙ map-append (kind_of names) (stack_at old f.operands) (d.can.read.kind ∷ []) in
      record {
        below = kinds_of names (stack_at old f.operands);
        taken = [];
        split = sym (append-nil (kinds_of names (stack_at old f.operands)));
        meets = record {
          takes = tt;
          reads = (kind_of names d.can.read.kind, held, has);
          locals_there = omega (arith, within, fm, fa, sl);
          returns = refl;
          room = omega (arith, o, s, a, r, w);
        };
        names = tt;
        left_is = same_kinds new f g _ d.locals (left ∙ ap (λ o. kinds_of names (stack_at old f.operands) ++ kinds_in o) (sym held));
        room = omega (arith, r, u, v);
      }

  pub row_loads : (old : List (List Kind)) (sort : Sort) (local : ℕ) (f : Frame) (left : Kinds) → KeepsLocals rest f → local < 256 →
      Row p class method m (kinds_at names rest old f) (Load (sort_of sort) local) left → CanLoad old m.max_stack sort local f
  row_loads old sort local f left keeps h r =
      let (k, e, has) = r.meets.reads in
      let read = can_read f sort local keeps h k e has in
      let none : 0 ≡ length r.taken = pass_many [] r.taken r.meets.takes in
      let sp = ap length r.split in
      let sa = length-append r.below r.taken in
      let o = length-map (stack_at old f.operands) (kind_of names) in
      let le : length left.operands ≡ length (r.below ++ kinds_in (slice_get (kinds_of names (locals_of f) ++ rest) local)) =
      ap (λ (x : Kinds). length x.operands) r.left_is in
      let one : length (r.below ++ kinds_in (slice_get (kinds_of names (locals_of f) ++ rest) local)) ≡ length r.below + 1 =
      ap (λ x. length (r.below ++ kinds_in x)) e ∙ length-append r.below (k ∷ []) in
      let a = length-append (stack_at old f.operands) (read.kind ∷ []) in
      let t = r.room in
      record { read = read; room = omega (arith, none, sp, sa, o, le, one, a, t) }

  -- a local that an instruction can name is among those that are kept
  kept_local : (f : Frame) (local : ℕ) → KeepsLocals rest f → local < 256 → local < length (kinds_of names (locals_of f) ++ rest) →
      local < length (locals_of f)
  kept_local f local (inl e) h w =
      let a = ap (λ r. length (kinds_of names (locals_of f) ++ r)) e in
      let b = ap length (append-nil (kinds_of names (locals_of f))) in
      let l = length-map (locals_of f) (kind_of names) in omega (arith, w, a, b, l)
  kept_local f local (inr long) h w = omega (arith, long, h)

  pub store_row : (old : List (List Kind)) (sort : Sort) (local : ℕ) (f g : Frame) → length (stack_at old f.operands) ≤ m.max_stack →
      Stores old sort local f g → Row p class method m (kinds_at names rest old f) (Store (sort_of sort) local) (kinds_at names rest old g)
  store_row old sort local f g fits d =
      let has : HasSort (sort_of sort) (kind_of names d.can.kind) = (sorted_says names sort d.can.kind).0 d.can.is in
      let split : kinds_of names (stack_at old f.operands) ≡ kinds_of names d.can.below ++ kind_of names d.can.kind ∷ [] =
      ap (kinds_of names) d.can.split ∙ map-append (kind_of names) d.can.below (d.can.kind ∷ []) in
      let within = d.can.within in
      let fm = length-map (locals_of f) (kind_of names) in
      let fa = length-append (kinds_of names (locals_of f)) rest in
      let sl = length-map (kinds_of names (locals_of f) ++ rest) (λ (x : model.Kind). no_local) in
      let a = ap length d.can.split in
      let b = length-append d.can.below (d.can.kind ∷ []) in
      let o = length-map (stack_at old f.operands) (kind_of names) in
      let s = standing_many (kinds_of names (stack_at old f.operands)) in
      let u = ap length d.left in
      let v = length-map (stack_at old g.operands) (kind_of names) in
      let w = most in
      record {
        below = kinds_of names d.can.below;
        taken = kind_of names d.can.kind ∷ [];
        split = split;
        meets = record {
          takes = (has, tt);
          reads = tt;
          locals_there = omega (arith, within, fm, fa, sl);
          returns = refl;
          room = omega (arith, o, s, a, b, fits, w);
        };
        names = tt;
        left_is = ap₂ kinds_with
            (ap (λ ks. kinds_of names ks ++ rest) d.locals ∙ sym (set_local names rest f local d.can.kind d.can.within))
            (ap (kinds_of names) d.left ∙ sym (append-nil (kinds_of names d.can.below)));
        room = omega (arith, a, b, u, v, fits);
      }

  pub row_stores : (old : List (List Kind)) (sort : Sort) (local : ℕ) (f : Frame) (left : Kinds) → KeepsLocals rest f → local < 256 →
      Row p class method m (kinds_at names rest old f) (Store (sort_of sort) local) left → CanStore old sort local f
  row_stores old sort local f left keeps h r =
      let (b, (t, (s, (low, top)))) = split_kinds names (stack_at old f.operands) r.below r.taken r.split in
      let many : 1 ≡ length r.taken = pass_many (tests.Sorted (sort_of sort) ∷ []) r.taken r.meets.takes in
      let tl = length-map t (kind_of names) in
      let te = ap length top in
      let one = one_of t (omega (arith, many, tl, te)) in
      let taken_is : kind_of names one.0 ∷ [] ≡ r.taken = sym (ap (kinds_of names) one.1) ∙ top in
      let has : AllPass (tests.Sorted (sort_of sort) ∷ []) (kind_of names one.0 ∷ []) = subst (AllPass (tests.Sorted (sort_of sort) ∷ []))
      (sym taken_is) r.meets.takes in
      let sl = length-map (kinds_of names (locals_of f) ++ rest) (λ (x : model.Kind). no_local) in
      let there_is = r.meets.locals_there in
      record {
        below = b;
        kind = one.0;
        split = s ∙ ap (λ x. b ++ x) one.1;
        is = (sorted_says names sort one.0).1 has.0;
        within = kept_local f local keeps h (omega (arith, there_is, sl));
      }

  -- an int stays an int
  is_int : (k : Kind) → HasSort Number (kind_of names k) → kind_of names k ≡ model.Int
  is_int k has = go (kind_of names k) has
    where
      go : (j : model.Kind) → HasSort Number j → j ≡ model.Int
      go model.Int h = refl
      go model.Text h = absurd h
      go model.Null h = absurd h
      go (model.Instance c) h = absurd h
      go model.Any h = absurd h

  pub increase_row : (old : List (List Kind)) (local : ℕ) (value : ℤ) (f : Frame) → KeepsLocals rest f → local < 256 →
      length (stack_at old f.operands) ≤ m.max_stack → CanRead sorts.Number local f →
      Row p class method m (kinds_at names rest old f) (Increase local value) (kinds_at names rest old f)
  increase_row old local value f keeps h fits d =
      let held = read_is f sorts.Number local d.kind keeps h d.held in
      let has : HasSort Number (kind_of names d.kind) = (sorted_says names sorts.Number d.kind).0 d.is in
      let int : slice_get (kinds_of names (locals_of f) ++ rest) local ≡ Some model.Int = held ∙ ap Some (is_int d.kind has) in
      let within = get_within (locals_of f) local d.kind d.held in
      let fm = length-map (locals_of f) (kind_of names) in
      let fa = length-append (kinds_of names (locals_of f)) rest in
      let sl = length-map (kinds_of names (locals_of f) ++ rest) (λ (x : model.Kind). no_local) in
      let o = length-map (stack_at old f.operands) (kind_of names) in
      let s = standing_many (kinds_of names (stack_at old f.operands)) in
      let w = most in
      record {
        below = kinds_of names (stack_at old f.operands);
        taken = [];
        split = sym (append-nil (kinds_of names (stack_at old f.operands)));
        meets = record {
          takes = tt;
          reads = (kind_of names d.kind, held, has);
          locals_there = omega (arith, within, fm, fa, sl);
          returns = refl;
          room = omega (arith, o, s, fits, w);
        };
        names = tt;
        left_is = ap₂ kinds_with
            (sym (set_same (kinds_of names (locals_of f) ++ rest) local model.Int int))
            (sym (append-nil (kinds_of names (stack_at old f.operands))));
        room = omega (arith, o, fits);
      }

  pub row_increases : (old : List (List Kind)) (local : ℕ) (value : ℤ) (f : Frame) (left : Kinds) → KeepsLocals rest f → local < 256 →
      Row p class method m (kinds_at names rest old f) (Increase local value) left → CanRead sorts.Number local f
  row_increases old local value f left keeps h r = let (k, e, has) = r.meets.reads in can_read f sorts.Number local keeps h k e has

  pub go_row : (old : List (List Kind)) (target : ℕ) (f : Frame) → length (stack_at old f.operands) ≤ m.max_stack →
      Row p class method m (kinds_at names rest old f) (Go target) (kinds_at names rest old f)
  go_row old target f fits =
      let o = length-map (stack_at old f.operands) (kind_of names) in
      let s = standing_many (kinds_of names (stack_at old f.operands)) in
      let w = most in
      record {
        below = kinds_of names (stack_at old f.operands);
        taken = [];
        split = sym (append-nil (kinds_of names (stack_at old f.operands)));
        meets = record { takes = tt; reads = tt; locals_there = omega arith; returns = refl; room = omega (arith, o, s, fits, w) };
        names = tt;
        left_is = ap (kinds_with (kinds_of names (locals_of f) ++ rest)) (sym (append-nil (kinds_of names (stack_at old f.operands))));
        room = omega (arith, o, fits);
      }
