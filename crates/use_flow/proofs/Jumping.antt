-- What jumps to a place, joined as it comes.
use Rattle.std.proofs.Common.{◌≡◌, ℕ, zero, suc, ◌+◌, ◌<◌, ◌≤◌, Bool, true, false, List, [], ◌∷◌, ◌++◌, length, Some, None, refl, sym, ap}
use Rattle.std.proofs.Common.{◌∙◌, arith, length-append}
use Rattle.std.specs.Prelude.{if◌then◌else◌, ◌||◌, nat_eq, slice_set, slice_index_or}
use Rattle.std.proofs.lemmas.Bool.{false≢true, eq-eqb}
use lib.Dec.{eqb-zero-suc, eqb-suc-zero, eqb-suc-suc}
use Rattle.use_rules.specs.Elements.{Set, union}
use Rattle.use_flow.specs.inner.Jumping.{HasRoom, put_now}
use Rattle.use_rules.specs.State.{Now, joined_sets, joined, Leads, BehindSwitch, BehindLoop, GoesOn, same_lead, Jump, caught, passing}
use Rattle.use_rules.proofs.Orders.{same_is, caught_passing}
use Rattle.use_flow.proofs.Taken.{union-assoc}

sets-assoc : (a b c : List Set) → joined_sets (joined_sets a b) c ≡ joined_sets a (joined_sets b c)
sets-assoc [] b c = refl
sets-assoc (x ∷ a) [] c = refl
sets-assoc (x ∷ a) (y ∷ b) [] = refl
sets-assoc (x ∷ a) (y ∷ b) (z ∷ c) =
    ap (λ u. u ∷ joined_sets (joined_sets a b) c) (union-assoc x y z) ∙ ap (λ r. union x (union y z) ∷ r) (sets-assoc a b c)

pub joined-assoc : (a b c : Now) → joined (joined a b) c ≡ joined a (joined b c)
joined-assoc None b c = refl
joined-assoc (Some a) None c = refl
joined-assoc (Some a) (Some b) None = refl
joined-assoc (Some a) (Some b) (Some c) = ap Some (sets-assoc a b c)

pub joined-none : (a : Now) → joined a None ≡ a
joined-none None = refl
joined-none (Some a) = refl

with_one : (v : Bool) (n r s t : Now) → r ≡ joined s t → (if v then joined n r else r) ≡ joined (if v then joined n s else s) t
with_one true n r s t h = ap (joined n) h ∙ sym (joined-assoc n s t)
with_one false n r s t h = h

-- what jumps from one part and then from another
pub caught-append : (to : Leads) (js ks : List Jump) → caught to (js ++ ks) ≡ joined (caught to js) (caught to ks)
caught-append to [] ks = refl
caught-append to (j ∷ js) ks = with_one (same_lead to j.to) j.now (caught to (js ++ ks)) (caught to js) (caught to ks)
    (caught-append to js ks)

-- joining as they come, part by part
pub held_more : (to : Leads) (old mid new : Now) (js ks : List Jump) → mid ≡ joined old (caught to js) → new ≡ joined mid (caught to ks) →
    new ≡ joined old (caught to (js ++ ks))
held_more to old mid new js ks em en =
    en ∙ ap (λ x. joined x (caught to ks)) em ∙ joined-assoc old (caught to js) (caught to ks) ∙
    ap (joined old) (sym (caught-append to js ks))

-- Loops: what jumps to a loop of this number from around it is set aside while the body is followed, and put back.

around_is : (a b : Bool) (x y z c w : Now) → (a ≡ true → x ≡ z) → (b ≡ true → y ≡ z) → w ≡ joined (if a || b then None else z) c →
    (if a then x else (if b then y else (if a || b then None else w))) ≡ joined z (if b then None else (if a then None else c))
around_is true true x y z c w f g h = f refl ∙ sym (joined-none z)
around_is true false x y z c w f g h = f refl ∙ sym (joined-none z)
around_is false true x y z c w f g h = g refl ∙ sym (joined-none z)
around_is false false x y z c w f g h = h

nat_same : (l : ℕ) → nat_eq l l ≡ true
nat_same l = eq-eqb l l refl

same_self : (to : Leads) → same_lead to to ≡ true
same_self BehindSwitch = refl
same_self (BehindLoop l) = nat_same l
same_self (GoesOn l) = nat_same l

inside_is : (v b : Bool) (z c w : Now) → v ≡ true → w ≡ joined (if v || b then None else z) c → w ≡ c
inside_is true b z c w h e = e
inside_is false b z c w h e = absurd (false≢true h)

inside_other : (a v : Bool) (z c w : Now) → v ≡ true → w ≡ joined (if a || v then None else z) c → w ≡ c
inside_other true v z c w h e = e
inside_other false true z c w h e = e
inside_other false false z c w h e = absurd (false≢true h)

module _ (l : ℕ) (js : List Jump) (before cleared inside behind : Leads → Now)
    (e1 : (to : Leads) → cleared to ≡ (if same_lead (BehindLoop l) to || same_lead (GoesOn l) to then None else before to))
    (e2 : (to : Leads) → inside to ≡ joined (cleared to) (caught to js)) where
  inside_at : (to : Leads) → inside to ≡ joined (if same_lead (BehindLoop l) to || same_lead (GoesOn l) to then None else before to)
      (caught to js)
  inside_at to = e2 to ∙ ap (λ n. joined n (caught to js)) (e1 to)

  -- what jumps there out of the body alone
  pub behind-caught : inside (BehindLoop l) ≡ caught (BehindLoop l) js
  behind-caught =
      inside_is (same_lead (BehindLoop l) (BehindLoop l)) (same_lead (GoesOn l) (BehindLoop l)) (before (BehindLoop l))
      (caught (BehindLoop l) js) (inside (BehindLoop l))
      (same_self (BehindLoop l)) (inside_at (BehindLoop l))

  pub on-caught : inside (GoesOn l) ≡ caught (GoesOn l) js
  on-caught =
      inside_other (same_lead (BehindLoop l) (GoesOn l)) (same_lead (GoesOn l) (GoesOn l)) (before (GoesOn l)) (caught (GoesOn l) js)
      (inside (GoesOn l))
      (same_self (GoesOn l)) (inside_at (GoesOn l))

  pub loop_held : ((to : Leads) → behind to ≡ (if same_lead (BehindLoop l) to then before (BehindLoop l) else
      (if same_lead (GoesOn l) to then before (GoesOn l) else (if same_lead (BehindLoop l) to || same_lead (GoesOn l) to then None else
      inside to)))) →
      (to : Leads) → behind to ≡ joined (before to) (caught to (passing (GoesOn l) (passing (BehindLoop l) js)))
  loop_held e4 to =
      e4 to
      ∙ around_is (same_lead (BehindLoop l) to) (same_lead (GoesOn l) to) (before (BehindLoop l)) (before (GoesOn l)) (before to)
      (caught to js) (inside to)
      (λ h. ap before (same_is (BehindLoop l) to h)) (λ h. ap before (same_is (GoesOn l) to h)) (inside_at to)
      ∙ ap (joined (before to))
      (sym (caught_passing (GoesOn l) to (passing (BehindLoop l) js) ∙ ap (λ n. if same_lead (GoesOn l) to then None else n)
      (caught_passing (BehindLoop l) to js)))

pub nat_turned : (k l : ℕ) → nat_eq k l ≡ nat_eq l k
nat_turned zero zero = refl
nat_turned zero (suc l) = eqb-zero-suc l ∙ sym (eqb-suc-zero l)
nat_turned (suc k) zero = eqb-suc-zero k ∙ sym (eqb-zero-suc k)
nat_turned (suc k) (suc l) = eqb-suc-suc k l ∙ nat_turned k l ∙ sym (eqb-suc-suc l k)

pub same_turned : (a b : Leads) → same_lead a b ≡ same_lead b a
same_turned BehindSwitch BehindSwitch = refl
same_turned BehindSwitch (BehindLoop l) = refl
same_turned BehindSwitch (GoesOn l) = refl
same_turned (BehindLoop k) BehindSwitch = refl
same_turned (BehindLoop k) (BehindLoop l) = nat_turned k l
same_turned (BehindLoop k) (GoesOn l) = refl
same_turned (GoesOn k) BehindSwitch = refl
same_turned (GoesOn k) (BehindLoop l) = refl
same_turned (GoesOn k) (GoesOn l) = nat_turned k l

-- Places of a list of them.

index_none : (l : ℕ) → slice_index_or {A = Now} [] l None ≡ None
index_none zero = refl
index_none (suc l) = refl

either_none : (b : Bool) (x : Now) → x ≡ None → x ≡ (if b then None else x)
either_none true x e = e
either_none false x e = refl

module _ (n x : Now) where
  at_first : (l : ℕ) → x ≡ (if nat_eq zero (suc l) then n else x)
  at_first l = sym (ap (λ b. if b then n else x) (eqb-zero-suc l))

  at_later : (k : ℕ) → x ≡ (if nat_eq (suc k) zero then n else x)
  at_later k = sym (ap (λ b. if b then n else x) (eqb-suc-zero k))

  at_next : (k l : ℕ) → (if nat_eq k l then n else x) ≡ (if nat_eq (suc k) (suc l) then n else x)
  at_next k l = sym (ap (λ b. if b then n else x) (eqb-suc-suc k l))

-- what is put there stands in place of what stood there
pub placed-at : (ns : List Now) (at : ℕ) (n : Now) (l : ℕ) → at < length ns → slice_index_or (slice_set ns at n) l None ≡ put_now at n l
    (slice_index_or ns l None)
placed-at [] at n l lt = absurd (omega (arith, lt))
placed-at (x ∷ ns) zero n zero lt = refl
placed-at (x ∷ ns) zero n (suc l) lt = at_first n (slice_index_or ns l None) l
placed-at (x ∷ ns) (suc at) n zero lt = at_later n x at
placed-at (x ∷ ns) (suc at) n (suc l) lt = placed-at ns at n l (omega (arith, lt)) ∙ at_next n (slice_index_or ns l None) at l

-- nothing is put where nothing stands
pub placed-past : (ns : List Now) (at l : ℕ) → length ns ≤ at → slice_index_or ns l None ≡ put_now at None l (slice_index_or ns l None)
placed-past [] at l le = either_none (nat_eq at l) (slice_index_or [] l None) (index_none l)
placed-past (x ∷ ns) zero l le = absurd (omega (arith, le))
placed-past (x ∷ ns) (suc at) zero le = at_later None x at
placed-past (x ∷ ns) (suc at) (suc l) le = placed-past ns at l (omega (arith, le)) ∙ at_next None (slice_index_or ns l None) at l

pub placed-last : (ns : List Now) (at : ℕ) (n : Now) (l : ℕ) → length ns ≡ at → slice_index_or (ns ++ n ∷ []) l None ≡ put_now at n l
    (slice_index_or ns l None)
placed-last [] zero n zero e = refl
placed-last [] zero n (suc l) e = index_none l ∙ sym (index_none (suc l)) ∙ at_first n (slice_index_or [] (suc l) None) l
placed-last [] (suc at) n l e = absurd (omega (arith, e))
placed-last (x ∷ ns) zero n l e = absurd (omega (arith, e))
placed-last (x ∷ ns) (suc at) n zero e = at_later n x at
placed-last (x ∷ ns) (suc at) n (suc l) e = placed-last ns at n l (omega (arith, e)) ∙ at_next n (slice_index_or ns l None) at l

-- room for more
pub room-more : (ns : List Now) (l : ℕ) → slice_index_or (ns ++ None ∷ []) l None ≡ slice_index_or ns l None
room-more [] zero = refl
room-more [] (suc l) = refl
room-more (x ∷ ns) zero = refl
room-more (x ∷ ns) (suc l) = room-more ns l

pub room_start : (ns : List Now) (n end : ℕ) → n ≡ length ns → n ≤ end → HasRoom ns ns n end
room_start ns n end e le = record { length-is = sym e; within = le; same = λ l. refl }

pub room_next : (ns ns' old : List Now) (at end : ℕ) → at < end → ns' ≡ ns ++ None ∷ [] → HasRoom ns old at end →
    HasRoom ns' old (at + 1) end
room_next ns ns' old at end lt e h = record {
  length-is = ap length e ∙ length-append ns (None ∷ []) ∙ ap (λ n. n + 1) h.length-is;
  within = omega (arith, lt);
  same = λ l. ap (λ (x : List Now). slice_index_or x l None) e ∙ room-more ns l ∙ h.same l;
}

pub room_end : (ns ns' old : List Now) (at end : ℕ) (n : Now) → end ≤ at → ns' ≡ ns ++ n ∷ [] → HasRoom ns old at end →
    (l : ℕ) → slice_index_or ns' l None ≡ put_now end n l (slice_index_or old l None)
room_end ns ns' old at end n le e h l =
    ap (λ (x : List Now). slice_index_or x l None) e ∙ placed-last ns end n l
    (h.length-is ∙ (let k : at ≡ end = omega (arith, le, h.within) in k)) ∙ ap (put_now end n l) (h.same l)

pub room_made : (ns old : List Now) (at end : ℕ) → end ≤ at → HasRoom ns old at end → HasRoom ns old end end
room_made ns old at end le h =
    let k : at ≡ end = omega (arith, le, h.within) in
    record { length-is = h.length-is ∙ k; within = omega arith; same = h.same }

pub ruleset rooms = (room_start, room_next, room_made)

pub ruleset places = (placed-at, placed-past, placed-last, room_end)
