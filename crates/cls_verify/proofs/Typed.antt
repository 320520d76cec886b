-- Where each block runs, the kinds of all places make a typing: those that are kept, and those along the blocks.
use Rattle.std.proofs.Common.{◌≡◌, ℕ, zero, suc, ◌+◌, ◌-◌, ◌≤◌, Bool, true, false, List, [], ◌∷◌, ◌++◌, length, take, drop, Option, Some}
use Rattle.std.proofs.Common.{None, refl, sym, ap, ap₂, subst, ◌∙◌, arith}
use Rattle.std.specs.Prelude.{if◌then◌else◌, slice_get, slice_set}
use Rattle.std.specs.List.{AllByRecursion}
use Rattle.vm_model.specs.Program.{Program, Instr, MethodOf}
use Rattle.vm_model.specs.Actions.{Action, action, Store, Increase}
use Rattle.cls_verify.specs.Kinds.{Kind, Int}
use Rattle.cls_verify.specs.Rows.{leads, locals_after, stored}
use Rattle.cls_verify.specs.Typing.{Kinds, asks, LeadsTo, IsTyped, Typing}
use Rattle.cls_verify.specs.Search.{left_by}
use Rattle.cls_verify.proofs.OfKinds.{all_fit_same}
use Rattle.cls_verify.specs.BlockRows.{Row, RowAt}
use Rattle.cls_verify.specs.Blocks.{falls, jumps, Jumps, Runs, AreBlocks}
use Rattle.cls_verify.specs.Blocks as blocks
use Rattle.cls_verify.specs.Laws.{BlocksAreTyped}
use Rattle.cls_verify.proofs.Searching.{pass_many}
use Rattle.cls_verify.proofs.Splits.{all_each, front_of, back_of}
use Rattle.cls_verify.proofs.Running.{behind, leads_are}

set_length : (ks : List Kind) (i : ℕ) (k : Kind) → length (slice_set ks i k) ≡ length ks
set_length [] i k = refl
set_length (x ∷ ks) zero k = refl
set_length (x ∷ ks) (suc i) k = ap suc (set_length ks i k)

stored_length : (ks : List Kind) (i : ℕ) (taken : List Kind) → length (stored ks i taken) ≡ length ks
stored_length ks i [] = refl
stored_length ks i (k ∷ []) = set_length ks i k
stored_length ks i (k ∷ l ∷ taken) = refl

after_length : (a : Action) (ks taken : List Kind) → length (locals_after a ks taken) ≡ length ks
after_length (Store sort local) ks taken = stored_length ks local taken
after_length (Increase local value) ks taken = set_length ks local Int
after_length a ks taken = refl

module _ (p : Program) (class method : ℕ) (m : MethodOf) (joins : ℕ → Bool) (at : ℕ → Option Kinds)
    (b : AreBlocks p class method m joins at) where
  -- what stands behind an instruction that ways don't join behind
  count : Kinds → Action → ℕ
  count k a = length (asks p class method k a).takes

  abbrev left_of : Kinds → Action → Kinds
  left_of k a = left_by p a k.locals (take (length k.operands - length (asks p class method k a).takes) k.operands)
      (drop (length k.operands - length (asks p class method k a).takes) k.operands)

  abbrev behind_action : Kinds → Option Action → Option Kinds
  behind_action k None = None
  behind_action k (Some a) = if falls a then Some (left_of k a) else None

  abbrev behind_instr : Kinds → Option Instr → Option Kinds
  behind_instr k None = None
  behind_instr k (Some i) = behind_action k (action i.op i.args)

  abbrev behind_place : ℕ → Option Kinds → Option Kinds
  behind_place n None = None
  behind_place n (Some k) = behind_instr k (slice_get m.code n)

  abbrev full : ℕ → Option Kinds
  full zero = at zero
  full (suc n) = if joins (suc n) then at (suc n) else behind_place n (full n)

  full_joined : (n : ℕ) → joins n ≡ true → full n ≡ at n
  full_joined zero j = refl
  full_joined (suc n) j = ap (λ c. if c then at (suc n) else behind_place n (full n)) j

  -- what a row leaves is what stands behind it
  left_is_of : (k left : Kinds) (a : Action) → Row p class method m k a left → left ≡ left_of k a
  left_is_of k left a r =
      let many : length (asks p class method k a).takes ≡ length r.taken = pass_many (asks p class method k a).takes r.taken r.meets.takes
      in
      let front : take (length k.operands - length (asks p class method k a).takes) k.operands ≡ r.below =
      ap (λ ks. take (length ks - length (asks p class method k a).takes) ks) r.split
      ∙ front_of r.below r.taken (length (asks p class method k a).takes) many in
      let back : drop (length k.operands - length (asks p class method k a).takes) k.operands ≡ r.taken =
      ap (λ ks. drop (length ks - length (asks p class method k a).takes) ks) r.split
      ∙ back_of r.below r.taken (length (asks p class method k a).takes) many in
      r.left_is ∙ ap₂ (left_by p a k.locals) (sym front) (sym back)

  behind_row : (n : ℕ) (k left : Kinds) (r : RowAt p class method m n k left) →
      behind_place n (Some k) ≡ (if falls r.action_is then Some left else None)
  behind_row n k left r =
      ap (behind_instr k) r.there ∙ ap (behind_action k) r.acts
      ∙ ap (λ (x : Kinds). if falls r.action_is then Some x else None) (sym (left_is_of k left r.action_is r.row))

  -- each place has no kinds, or a block runs from there with them
  record Stands (n : ℕ) (k : Kinds) : Type 0 where
    run : Runs p class method m joins at n k
    many : length k.locals ≡ m.max_locals
    room : length k.operands ≤ m.max_stack

  kept_stands : (n : ℕ) (k : Kinds) → joins n ≡ true → at n ≡ Some k → Stands n k
  kept_stands n k j e = record { run = b.run n k j e; many = b.as_many n k e; room = b.room n k e }

  next_stands : (n : ℕ) (k : Kinds) → Stands n k → joins (suc n) ≡ false → (j : Kinds) → behind_place n (Some k) ≡ Some j → Stands (suc n) j
  next_stands n k s joined j e = go s.run s.many
    where
      go : Runs p class method m joins at n k → length k.locals ≡ m.max_locals → Stands (suc n) j
      go (blocks.runs n k left r js f g) many = by (falls r.action_is) refl
        where
          by : (c : Bool) → falls r.action_is ≡ c → Stands (suc n) j
          by false h = absurd (let no : None ≡ Some j = sym (behind_row n k left r ∙ ap (λ c. if c then Some left else None) h) ∙
              e in cc no)
          by true h =
              let same : Some left ≡ Some j = sym (behind_row n k left r ∙ ap (λ c. if c then Some left else None) h) ∙ e in
              let is : left ≡ j = cc same in
              let next : n + 1 ≡ suc n = omega arith in
              let run : Runs p class method m joins at (n + 1) left = g h (ap joins next ∙ joined) in
              subst (Stands (suc n)) is (record {
                run = subst (λ x. Runs p class method m joins at x left) next run;
                many = (ap (λ (x : Kinds). length x.locals) r.row.left_is ∙ after_length r.action_is k.locals r.row.taken ∙ many);
                room = r.row.room;
              })

  stands : (n : ℕ) (k : Kinds) → full n ≡ Some k → Stands n k
  stands zero k e = kept_stands zero k b.begins_joined e
  stands (suc n) k e = by (λ j f. stands n j f) (joins (suc n)) refl
    where
      off : ((j : Kinds) → full n ≡ Some j → Stands n j) → joins (suc n) ≡ false → (o : Option Kinds) → full n ≡ o → Stands (suc n) k
      off before h None f = absurd (let no : None ≡ Some k =
          sym (ap (λ c. if c then at (suc n) else behind_place n (full n)) h ∙ ap (behind_place n) f) ∙ e in cc no)
      off before h (Some j) f =
          next_stands n j (before j f) h k (sym (ap (λ c. if c then at (suc n) else behind_place n (full n)) h ∙ ap (behind_place n) f) ∙ e)

      by : ((j : Kinds) → full n ≡ Some j → Stands n j) → (c : Bool) → joins (suc n) ≡ c → Stands (suc n) k
      by before true h = kept_stands (suc n) k h (sym (full_joined (suc n) h) ∙ e)
      by before false h = off before h (full n) refl

  leads_kept : (next : ℕ) (left : Kinds) → joins next ≡ true → LeadsTo at left next → LeadsTo full left next
  leads_kept next left j l = record { kinds = l.kinds; typed = full_joined next j ∙ l.typed; locals = l.locals; operands = l.operands }

  typed_here : {n : ℕ} {k : Kinds} → full n ≡ Some k → Runs p class method m joins at n k → IsTyped p class method m.code full n k
  typed_here e (blocks.runs n k left r js f g) = record {
    instr = r.instr;
    there = r.there;
    action_is = r.action_is;
    acts = r.acts;
    below = r.row.below;
    taken = r.row.taken;
    split = r.row.split;
    meets = r.row.meets;
    names = r.row.names;
    leads_on = subst (λ x. AllByRecursion (LeadsTo full x) (leads r.action_is n)) r.row.left_is
        (subst (AllByRecursion (LeadsTo full left)) (sym (leads_are r.action_is n))
        (all_append (jumps r.action_is) (behind r.action_is n)
        (all_each (LeadsTo full left) (jumps r.action_is) (λ x c. let h = js x c in leads_kept x left h.0 h.1))
        (on_all (falls r.action_is) refl)));
  }
    where
      all_append : (xs ys : List ℕ) → AllByRecursion (LeadsTo full left) xs → AllByRecursion (LeadsTo full left) ys →
          AllByRecursion (LeadsTo full left) (xs ++ ys)
      all_append [] ys h i = i
      all_append (x ∷ xs) ys h i = (h.0, all_append xs ys h.1 i)

      next : n + 1 ≡ suc n
      next = omega arith

      leads_off : falls r.action_is ≡ true → joins (n + 1) ≡ false → LeadsTo full left (n + 1)
      leads_off h j = record {
        kinds = left;
        typed = (ap full next ∙ ap (λ c. if c then at (suc n) else behind_place n (full n)) (ap joins (sym next) ∙ j)
            ∙ ap (behind_place n) e ∙ behind_row n k left r ∙ ap (λ c. if c then Some left else None) h);
        locals = all_fit_same left.locals;
        operands = all_fit_same left.operands;
      }

      at_next : (c : Bool) → joins (n + 1) ≡ c → falls r.action_is ≡ true → LeadsTo full left (n + 1)
      at_next true j h = leads_kept (n + 1) left j (f h j)
      at_next false j h = leads_off h j

      on_behind : (c : Bool) → falls r.action_is ≡ c → AllByRecursion (LeadsTo full left) (if c then (n + 1) ∷ [] else [])
      on_behind false h = tt
      on_behind true h = (at_next (joins (n + 1)) refl h, tt)

      on_all : (c : Bool) → falls r.action_is ≡ c → AllByRecursion (LeadsTo full left) (behind r.action_is n)
      on_all c h = subst (λ d. AllByRecursion (LeadsTo full left) (if d then (n + 1) ∷ [] else [])) (sym h) (on_behind c h)

  typing : Typing p class method m
  typing = record {
    at = full;
    fits = b.fits;
    first = b.first;
    as_many = λ n k e. (stands n k e).many;
    room = λ n k e. (stands n k e).room;
    typed = λ n k e. typed_here e (stands n k e).run;
  }

pub blocks_are_typed : BlocksAreTyped
blocks_are_typed p class method m joins at b = typing p class method m joins at b
