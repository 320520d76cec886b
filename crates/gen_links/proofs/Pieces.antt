-- Pieces of code whose instructions link, where each label lies within the code.
use Rattle.std.proofs.Common.{◌≡◌, ℕ, ℤ, zero, suc, pos, negsuc, ◌+◌, ◌<◌, ◌≤◌, List, [], ◌∷◌, ◌++◌}
use Rattle.std.proofs.Common.{Bool, true, false, ◌&&◌, Option, Some, None, is_some, nat_lt, nat_le}
use Rattle.std.proofs.Common.{nat_eq, if◌then◌else◌, refl, ap, ap₂, subst, arith, unwrap_or}
use Rattle.std.proofs.lemmas.Bool.Decides.{nat_tests}
use Rattle.std.specs.List.{AllByRecursion, list_all}
use Rattle.jv_core.specs.declared.program.CoreType.{CoreType}
use Rattle.jv_core.specs.Tree.{Groups, NoGroup, Group}
use Rattle.jv_values.specs.Statements.{is_default, case_at, any_label}
use Rattle.vm_model.specs.Actions.{jump_action, plain_action, local_action}
use Rattle.vm_model.specs.Links.{Outline}
use Rattle.gen_rules.specs.Symbolic as symbolic
use Rattle.cls_tree.specs.Pool.{Int}
use Rattle.std.proofs.lemmas.Bool.{leb-true}
use Rattle.gen_rules.specs.Symbolic.{Operand, Instr, plain, jump, push, push_truth}
use Rattle.gen_rules.specs.Symbolic.{iconst, lies_within, with_local, load, store, is_reference, tableswitch}
use Rattle.gen_rules.specs.Around.{Around, break_to, continue_to}
use Rattle.gen_rules.specs.Around as around
use Rattle.gen_rules.specs.Cases.{group_at, default_at, targets}
use Rattle.gen_rules.specs.inner.Generating.{Piece, aiming, empty, single, ◌and◌}
use Rattle.gen_rules.specs.inner.Generating.{within, forked, Pieces, Flowing, flowing, Grouped, grouped}
use Rattle.gen_links.specs.Right.{IsRight}

lt-is : (a b : ℕ) → a < b → nat_lt a b ≡ true
lt-is a b h = grind (arith, nat_tests, h)

module _ (os : List Outline) (n : ℕ) where
  abbrev pub Right : List Instr → Type 0
  Right is = AllByRecursion (IsRight os n) is

  pub right_both : (a b : List Instr) → Right a → Right b → Right (a ++ b)
  right_both [] b h g = g
  right_both (i ∷ a) b h g = (h.0, right_both a b h.1 g)

  -- where a piece ends within the code, its instructions link
  pub record IsRightPiece (a : Piece) : Type 0 where
    pub at : (from : ℕ) → from + a.size < n → Right (a.list from)

  pub right_empty : IsRightPiece empty
  right_empty = record { at = λ from h. tt }

  pub right_single : (i : Instr) → IsRight os n i → IsRightPiece (single i)
  right_single i r = record { at = λ from h. (r, tt) }

  pub right_and : (a b : Piece) → IsRightPiece a → IsRightPiece b → IsRightPiece (a and b)
  right_and a b ha hb = record {
    at = λ from h. right_both (a.list from) (b.list (from + a.size)) (ha.at from (omega (arith, h))) (hb.at (from + a.size) (omega
        (arith, h)));
  }

  pub right_within : (k : ℕ) (f : (from to : ℕ) → Piece) → ((from to : ℕ) → (f from to).size ≡ k) →
      ((from to : ℕ) → from < n → to < n → IsRightPiece (f from to)) → IsRightPiece (within k f)
  right_within k f s r = record {
    at = λ from h. (r from (from + k) (omega (arith, h)) h).at from (omega (arith, h, s from (from + k)));
  }

  pub right_forked : (j k : ℕ) (f g : (from label to : ℕ) → Piece) →
      ((from label to : ℕ) → (f from label to).size ≡ j) → ((from label to : ℕ) → (g from label to).size ≡ k) →
      ((from label to : ℕ) → from < n → label < n → to < n → IsRightPiece (f from label to)) →
      ((from label to : ℕ) → from < n → label < n → to < n → IsRightPiece (g from label to)) → IsRightPiece (forked j k f g)
  right_forked j k f g sf sg hf hg = record {
    at = λ from h.
        let l = from + j in
        let to = from + j + k in
        let a : from < n = omega (arith, h) in
        let b : l < n = omega (arith, h) in
        let c : to < n = omega (arith, h) in
        right_both ((f from l to).list from) ((g from l to).list l) ((hf from l to a b c).at from (omega (arith, b, sf from l to)))
        ((hg from l to a b c).at l (omega (arith, c, sg from l to)));
  }

  pub record AllRight (a : Pieces) : Type 0 where
    pub value : IsRightPiece (a.value)
    pub unless : (l : ℕ) → l < n → IsRightPiece (aiming (a.unless) l)
    pub when : (l : ℕ) → l < n → IsRightPiece (aiming (a.when) l)

  -- Instructions.

  pub right_jump : (op l : ℕ) → is_some (jump_action op l) ≡ true → l < n → IsRight os n (jump op l)
  right_jump op l a h = (h, ap₂ (λ x y. x && y) a (lt-is l n h))

  -- an opcode without operands
  pub right_plain : (op : ℕ) → is_some (plain_action op) ≡ true → IsRight os n (plain op)
  right_plain op h = ap (λ x. x && true) h

  right_iconst : (z : ℕ) → z ≤ 5 → IsRight os n (plain (3 + z))
  right_iconst zero h = refl
  right_iconst (suc zero) h = refl
  right_iconst (suc (suc zero)) h = refl
  right_iconst (suc (suc (suc zero))) h = refl
  right_iconst (suc (suc (suc (suc zero)))) h = refl
  right_iconst (suc (suc (suc (suc (suc zero))))) h = refl
  right_iconst (suc (suc (suc (suc (suc (suc z)))))) h = absurd (omega (arith, h))

  right_by_size : (z : ℤ) (byte short : Bool) → IsRight os n (if byte then record { op = 16; operand = symbolic.Number z }
      else if short then record { op = 17; operand = symbolic.Number z } else record { op = 18; operand = symbolic.Constant (Int z) })
  right_by_size z true short = refl
  right_by_size z false true = refl
  right_by_size z false false = refl

  right_small : (z : ℤ) → lies_within (negsuc 0) (pos 5) z ≡ true → IsRight os n (plain (iconst z))
  right_small (pos k) h = right_iconst k (leb-true k 5 h)
  right_small (negsuc k) h = refl

  pub right_push : (z : ℤ) → IsRight os n (push z)
  right_push z = go (lies_within (negsuc 0) (pos 5) z) refl
    where
      go : (b : Bool) → lies_within (negsuc 0) (pos 5) z ≡ b → IsRight os n (if b then plain (iconst z)
          else if lies_within (negsuc 127) (pos 127) z then record { op = 16; operand = symbolic.Number z }
          else if lies_within (negsuc 32767) (pos 32767) z then record { op = 17; operand = symbolic.Number z }
          else record { op = 18; operand = symbolic.Constant (Int z) })
      go true e = right_small z e
      go false e = right_by_size z (lies_within (negsuc 127) (pos 127) z) (lies_within (negsuc 32767) (pos 32767) z)

  right_with_local : (short long : ℕ) → ((k : ℕ) → k ≤ 3 → is_some (plain_action (short + k)) ≡ true) →
      ((k : ℕ) → is_some (local_action long k) ≡ true) → (local : ℕ) → IsRight os n (with_local short long local)
  right_with_local short long s l local = go (nat_le local 3) refl
    where
      go : (b : Bool) → nat_le local 3 ≡ b → IsRight os n (if b
          then plain (short + local) else record { op = long; operand = symbolic.Local local })
      go true e = right_plain (short + local) (s local (leb-true local 3 e))
      go false e = ap (λ x. x && true) (l local)

  four_of : (P : ℕ → Type 0) → P 0 → P 1 → P 2 → P 3 → (k : ℕ) → k ≤ 3 → P k
  four_of P a b c d zero h = a
  four_of P a b c d (suc zero) h = b
  four_of P a b c d (suc (suc zero)) h = c
  four_of P a b c d (suc (suc (suc zero))) h = d
  four_of P a b c d (suc (suc (suc (suc k)))) h = absurd (omega (arith, h))

  right_loaded : (reference : Bool) (local : ℕ) → IsRight os n (if reference then with_local 42 25 local else with_local 26 21 local)
  right_loaded true local =
      right_with_local 42 25 (four_of (λ k. is_some (plain_action (42 + k)) ≡ true) refl refl refl refl) (λ k. refl) local
  right_loaded false local =
      right_with_local 26 21 (four_of (λ k. is_some (plain_action (26 + k)) ≡ true) refl refl refl refl) (λ k. refl) local

  right_stored : (reference : Bool) (local : ℕ) → IsRight os n (if reference then with_local 75 58 local else with_local 59 54 local)
  right_stored true local =
      right_with_local 75 58 (four_of (λ k. is_some (plain_action (75 + k)) ≡ true) refl refl refl refl) (λ k. refl) local
  right_stored false local =
      right_with_local 59 54 (four_of (λ k. is_some (plain_action (59 + k)) ≡ true) refl refl refl refl) (λ k. refl) local

  pub right_load : (type : CoreType) (local : ℕ) → IsRight os n (load type local)
  right_load type local = right_loaded (is_reference type) local

  pub right_store : (type : CoreType) (local : ℕ) → IsRight os n (store type local)
  right_store type local = right_stored (is_reference type) local

  all_lead : (ts : List ℕ) → AllByRecursion (λ t. t < n) ts → list_all (λ t. nat_lt t n) ts ≡ true
  all_lead [] h = refl
  all_lead (t ∷ ts) h = ap₂ (λ x y. x && y) (lt-is t n h.0) (all_lead ts h.1)

  pub right_table : (d : ℕ) (ts : List ℕ) → d < n → AllByRecursion (λ t. t < n) ts → IsRight os n (tableswitch d ts)
  right_table d ts h hs = (h, hs, ap₂ (λ x y. x && y) (lt-is d n h) (all_lead ts hs))

  -- Exits.

  pub record AroundRight (ts : List Around) : Type 0 where
    pub breaks : (l : Option ℕ) → break_to ts l < n
    pub continues : (l : ℕ) → continue_to ts l < n

  pub right_outside : 0 < n → AroundRight []
  right_outside h = record { breaks = λ l. h; continues = λ l. h }

  one_of : (b : Bool) (x y : ℕ) → x < n → y < n → (if b then x else y) < n
  one_of true x y h g = h
  one_of false x y h g = g

  breaks_of_loop : (k b c : ℕ) (ts : List Around) → b < n → AroundRight ts → (l : Option ℕ) → break_to (around.Loop k b c ∷ ts) l < n
  breaks_of_loop k b c ts h r None = r.breaks None
  breaks_of_loop k b c ts h r (Some l) = one_of (nat_eq k l) b (break_to ts (Some l)) h (r.breaks (Some l))

  pub right_loop : (k b c : ℕ) (ts : List Around) → b < n → c < n → AroundRight ts → AroundRight (around.Loop k b c ∷ ts)
  right_loop k b c ts h g r = record {
    breaks = breaks_of_loop k b c ts h r;
    continues = λ l. one_of (nat_eq k l) c (continue_to ts l) g (r.continues l);
  }

  breaks_of_switch : (b : ℕ) (ts : List Around) → b < n → AroundRight ts → (l : Option ℕ) → break_to (around.Switch b ∷ ts) l < n
  breaks_of_switch b ts h r None = h
  breaks_of_switch b ts h r (Some l) = r.breaks (Some l)

  pub right_switch : (b : ℕ) (ts : List Around) → b < n → AroundRight ts → AroundRight (around.Switch b ∷ ts)
  right_switch b ts h r = record { breaks = breaks_of_switch b ts h r; continues = r.continues }

  pub record RightFlow (s : Flowing) : Type 0 where
    pub at : (ts : List Around) → AroundRight ts → IsRightPiece (flowing s ts)

  -- groups begin within the code
  pub record RightGroups (g : Grouped) : Type 0 where
    pub starts : (from : ℕ) → from + g.size < n → AllByRecursion (λ s. s < n) (g.starts from)
    pub at : (ts : List Around) → AroundRight ts → IsRightPiece (grouped g ts)

  unwrapped : (x : Option ℕ) (d : ℕ) → ((s : ℕ) → x ≡ Some s → s < n) → d < n → unwrap_or x d < n
  unwrapped None d h g = g
  unwrapped (Some s) d h g = h s refl

  group_leads : (wanted : Option ℕ → Bool) (gs : Groups) (starts : List ℕ) → AllByRecursion (λ s. s < n) starts →
      (s : ℕ) → group_at wanted gs starts ≡ Some s → s < n
  group_leads wanted NoGroup starts h s e = absurd cc
  group_leads wanted (Group labels body end more) [] h s e = absurd cc
  group_leads wanted (Group labels body end more) (x ∷ starts) h s e
      = go (any_label wanted labels) (λ f. group_leads wanted more starts h.1 s f) e
    where
      go : (b : Bool) → (group_at wanted more starts ≡ Some s → s < n) →
          (if b then Some x else group_at wanted more starts) ≡ Some s → s < n
      go true later f = let same : x ≡ s = ap (λ o. unwrap_or o x) f in subst (λ y. y < n) same h.0
      go false later f = later f

  pub default_leads : (gs : Groups) (starts : List ℕ) (behind : ℕ) → AllByRecursion (λ s. s < n) starts → behind < n →
      default_at gs starts behind < n
  default_leads gs starts behind h g = unwrapped (group_at is_default gs starts) behind (group_leads is_default gs starts h) g

  pub targets_lead : (gs : Groups) (starts : List ℕ) (behind : ℕ) → AllByRecursion (λ s. s < n) starts → behind < n →
      (ks : List ℕ) → AllByRecursion (λ s. s < n) (targets gs starts behind ks)
  targets_lead gs starts behind h g [] = tt
  targets_lead gs starts behind h g (k ∷ ks) = (
    unwrapped (group_at (case_at k) gs starts) (default_at gs starts behind) (group_leads (case_at k) gs starts h)
        (default_leads gs starts behind h g),
    targets_lead gs starts behind h g ks,
  )
