-- Operands are taken from the topmost down.
use Rattle.std.proofs.Common.{◌≡◌, ℕ, ◌+◌, ◌<◌, ◌≤◌, Bool, true, false, ◌&&◌, List, [], ◌∷◌, ◌++◌, length, get_or, take, drop, refl, sym}
use Rattle.std.proofs.Common.{ap, ap₂, subst, ◌∙◌, arith}
use Rattle.std.proofs.lemmas.List.{append_assoc, append-nil, length-append, drop_more, drop_all, take_more, take_all, same_from_push}
use Rattle.cls_kinds.specs.declared.kind.Kind.{Kind}
use Rattle.cls_rows.specs.declared.want.Want.{Want}
use Rattle.cls_rows.specs.Wants.{passes_in, all_pass, IsTaken, CanTake}

both_true : (a b : Bool) → (a && b) ≡ true → (a ≡ true) × (b ≡ true)
both_true true true e = (refl, refl)
both_true true false e = absurd (cc e)
both_true false b e = absurd (cc e)

-- the last of those that are taken
record LastTaken (ws : List Want) (w : Want) (ks : List Kind) : Type 0 where
  front : List Kind
  last : Kind
  split : ks ≡ front ++ last ∷ []
  pass : all_pass ws front ≡ true
  last_passes : passes_in w last ≡ true

last_taken : (ws : List Want) (w : Want) (ks : List Kind) → all_pass (ws ++ w ∷ []) ks ≡ true → LastTaken ws w ks
last_taken [] w [] e = absurd (cc e)
last_taken [] w (k ∷ []) e = record { front = []; last = k; split = refl; pass = refl; last_passes = (both_true (passes_in w k) true e).0 }
last_taken [] w (k ∷ l ∷ ks) e = absurd (let h = (both_true (passes_in w k) false e).1 in cc h)
last_taken (x ∷ ws) w [] e = absurd (cc e)
last_taken (x ∷ ws) w (k ∷ ks) e =
    let h = both_true (passes_in x k) (all_pass (ws ++ w ∷ []) ks) e in
    let r = last_taken ws w ks h.1 in
    record {
      front = k ∷ r.front;
      last = r.last;
      split = ap (λ xs. k ∷ xs) r.split;
      pass = ap₂ (λ a b. a && b) h.0 r.pass;
      last_passes =
          r.last_passes;
    }

-- What holds on the way down: some are taken, and whatever all are taken from, the others are taken from what is left.
pub record Takes (ws : List Want) (left : ℕ) (ks now : List Kind) : Type 0 where
  pub went : IsTaken (drop left ws) ks now
  pub back : (b : List Kind) → IsTaken ws ks b → IsTaken (take left ws) now b

pub begins : (ws : List Want) (ks : List Kind) (left : ℕ) → length ws ≤ left → Takes ws left ks ks
begins ws ks left h = record {
  went = record { taken = []; split = sym (append-nil ks); pass = ap (λ l. all_pass l []) (drop_all left ws h) };
  back = λ b t. subst (λ l. IsTaken l ks b) (sym (take_all left ws h)) t;
}

pub one_more : (ws : List Want) (left before : ℕ) (w : Want) (ks now below : List Kind) (k : Kind) → before ≡ left + 1 → left < length ws →
    w ≡ get_or ws left w →
    now ≡ below ++ k ∷ [] → passes_in w k ≡ true → Takes ws before ks now → Takes ws left ks below
one_more ws left before w ks now below k same h is split pass u = record {
  went = record {
    taken = k ∷ t.went.taken;
    split = t.went.split ∙ ap (λ l. l ++ t.went.taken) split ∙ append_assoc below (k ∷ []) t.went.taken;
    pass = ap (λ l. all_pass l (k ∷ t.went.taken)) (drop_more ws left w h ∙ ap (λ x. x ∷ drop (left + 1) ws) (sym is))
        ∙ ap₂ (λ a b. a && b) pass t.went.pass;
  };
  back = λ b i. go b (t.back b i);
}
  where
    t : Takes ws (left + 1) ks now
    t = subst (λ n. Takes ws n ks now) same u

    go : (b : List Kind) → IsTaken (take (left + 1) ws) now b → IsTaken (take left ws) below b
    go b i =
        let r = last_taken (take left ws) w i.taken
        (ap (λ l. all_pass l i.taken) (ap (λ x. take left ws ++ x ∷ []) is ∙ sym (take_more ws left w h)) ∙ i.pass) in
        let e : below ++ k ∷ [] ≡ (b ++ r.front) ++ r.last ∷ [] =
        sym split ∙ i.split ∙ ap (λ l. b ++ l) r.split ∙ sym (append_assoc b r.front (r.last ∷ [])) in
        record { taken = r.front; split = (same_from_push below (b ++ r.front) k r.last e).0; pass = r.pass }

-- where there is none left, or one that isn't as it must be, they can't be taken
pub none_left : (ws : List Want) (left before : ℕ) (w : Want) (ks now : List Kind) → before ≡ left + 1 → left < length ws →
    w ≡ get_or ws left w → now ≡ [] →
    Takes ws before ks now → CanTake ws ks → ⊥
none_left ws left before w ks now same h is none u (b, i) =
    let t : Takes ws (left + 1) ks now = subst (λ n. Takes ws n ks now) same u in
    let j = t.back b i in
    let r = last_taken (take left ws) w j.taken
    (ap (λ l. all_pass l j.taken) (ap (λ x. take left ws ++ x ∷ []) is ∙ sym (take_more ws left w h)) ∙ j.pass) in
    let e : [] ≡ b ++ (r.front ++ r.last ∷ []) = sym none ∙ j.split ∙ ap (λ l. b ++ l) r.split in
    let n = ap length e in
    let a = length-append b (r.front ++ r.last ∷ []) in
    let c = length-append r.front (r.last ∷ []) in
    omega (arith, n, a, c)

pub not_so : (ws : List Want) (left before : ℕ) (w : Want) (ks now below : List Kind) (k : Kind) → before ≡ left + 1 → left < length ws →
    w ≡ get_or ws left w →
    now ≡ below ++ k ∷ [] → passes_in w k ≡ false → Takes ws before ks now → CanTake ws ks → ⊥
not_so ws left before w ks now below k equal h is split fails u (b, i) =
    let t : Takes ws (left + 1) ks now = subst (λ n. Takes ws n ks now) equal u in
    let j = t.back b i in
    let r = last_taken (take left ws) w j.taken
    (ap (λ l. all_pass l j.taken) (ap (λ x. take left ws ++ x ∷ []) is ∙ sym (take_more ws left w h)) ∙ j.pass) in
    let e : below ++ k ∷ [] ≡ (b ++ r.front) ++ r.last ∷ [] =
    sym split ∙ j.split ∙ ap (λ l. b ++ l) r.split ∙ sym (append_assoc b r.front (r.last ∷ [])) in
    let same : k ≡ r.last = (same_from_push below (b ++ r.front) k r.last e).1 in
    let p : passes_in w k ≡ true = ap (passes_in w) same ∙ r.last_passes in
    cc (p, fails)

pub all_taken : (ws : List Want) (left : ℕ) (ks now : List Kind) → left ≡ 0 → Takes ws left ks now → IsTaken ws ks now
all_taken ws left ks now e t = subst (λ l. IsTaken l ks now) (ap (λ n. drop n ws) e) t.went
