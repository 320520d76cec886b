-- What tests tell: of values, of what is known of them, and that the two agree.
use Rattle.std.proofs.Common.{◌≡◌, ◌≢◌, ◌⊎◌, inl, inr, ℕ, Bool, true, false, true≢false, List, [], ◌∷◌, Option, Some, None}
use Rattle.std.proofs.Common.{refl, sym, ap, ◌∙◌, subst}
use Rattle.std.specs.Prelude.{◌==◌, if◌then◌else◌, option_and_then}
use Rattle.std.specs.Str.{bytes_eq}
use Rattle.std.proofs.lemmas.Bool.Decides.{eqb_tells}
use Rattle.mg_text.specs.Call.{Name}
use Rattle.insp_rules.specs.Program.{Truth, Constants, Itself, Ordinal, Mapped, Bare as BareOf, Other, Null, Lost, Alias}
use Rattle.insp_rules.specs.Program.{Comparison, Equal, Unequal, Less, AtLeast, More, AtMost, Arm}
use Rattle.insp_rules.specs.Program.{arm_of, goes_for, agree, Shape, shape}
use Rattle.insp_rules.specs.Program as program
use Rattle.insp_rules.specs.Skeleton.{Value, Plain, Nil, Bit, Map, Constant, Ref, Again, Another, Said, is_loose, Thing}
use Rattle.insp_rules.specs.Skeleton.{listed, nulled, both}
use Rattle.insp_rules.specs.Skeleton.{Tells, known, either}
use Rattle.insp_rules.specs.Skeleton as skeleton
use Rattle.insp_rules.specs.Frames.{Known, Bare, Object, Answer, Group, Sight}
use Rattle.insp_rules.specs.Frames.{behind}
use Rattle.insp_rules.specs.Frames.{chosen, is_choice, null_of, unless}
use Rattle.insp_rules.specs.Frames as frames
use Rattle.insp_law.specs.Laws.{Bears}
use Rattle.insp_law.specs.Laws as laws
use Rattle.insp_rules.proofs.Lists.{some_is, none_some, is}
use Rattle.insp_law.proofs.Fitting.{Says, bare, object, answer, Fit, fresh}
use Rattle.insp_law.proofs.Fitting.{or_none}

-- null goes into places of objects alone
nulled_loose : (os : List ℕ) (vs : List Value) (v : Value) → is_loose v ≡ true → nulled os (v ∷ vs) ≡ v ∷ nulled os vs
nulled_loose os vs Plain l = refl
nulled_loose os vs Nil l = refl
nulled_loose os vs (Bit b) l = refl
nulled_loose os vs (Map b class) l = refl
nulled_loose os vs (Constant b c) l = refl
nulled_loose os vs (Ref b) l = absurd (true≢false (sym l))
nulled_loose os vs (Again b c) l = refl
nulled_loose os vs (Another b) l = refl
nulled_loose os vs (Said b c) l = refl

pub nulled_bears : (os : List ℕ) (vs : List Value) {b : BareOf} {v : Value} → Bears b v → nulled os (v ∷ vs) ≡ v ∷ nulled os vs
nulled_bears os vs {v = v} (laws.other l) = nulled_loose os vs v l
nulled_bears os vs {v = v} (laws.lost l) = nulled_loose os vs v l
nulled_bears os vs laws.another = refl
nulled_bears os vs laws.bit = refl
nulled_bears os vs laws.null = refl
nulled_bears os vs laws.again = refl
nulled_bears os vs laws.map = refl
nulled_bears os vs laws.constant = refl

-- where what is known tells, it is so
pub may : (o o' : Option Bool) (b : Bool) → ((c : Bool) → o ≡ Some c → o' ≡ Some c) → Tells o' b → Tells o b
may None o' b f t = either
may (Some c) o' b f t = go o' (f c refl) t
  where
    go : (o' : Option Bool) → o' ≡ Some c → {b : Bool} → Tells o' b → Tells (Some c) b
    go (Some d) e {b} known = subst (λ x. Tells (Some c) x) (sym (some_is e)) known
    go None e t = none_some e

both_false : (b : Bool) → both b false ≡ false
both_false true = refl
both_false false = refl

pub agrees_with : (b : Bool) → agree b b ≡ true
agrees_with true = refl
agrees_with false = refl

pub asked_shows : (v w : Value) (z : Name × Name) → skeleton.constant_asks v w ≡ Some z → skeleton.same_shows v w ≡ []
asked_shows (Ref a) w z e = none_some e
asked_shows Nil w z e = none_some e
asked_shows Plain w z e = refl
asked_shows (Bit b) w z e = refl
asked_shows (Map b class) w z e = refl
asked_shows (Constant b l) w z e = refl
asked_shows (Again b l) w z e = refl
asked_shows (Another b) w z e = refl
asked_shows (Said b l) w z e = refl

nulled_nothing : (vs : List Value) → nulled [] vs ≡ vs
nulled_nothing [] = refl
nulled_nothing (Ref a ∷ vs) = ap (λ z. Ref a ∷ z) (nulled_nothing vs)
nulled_nothing (Nil ∷ vs) = ap (λ z. Nil ∷ z) (nulled_nothing vs)
nulled_nothing (Plain ∷ vs) = ap (λ z. Plain ∷ z) (nulled_nothing vs)
nulled_nothing (Bit b ∷ vs) = ap (λ z. Bit b ∷ z) (nulled_nothing vs)
nulled_nothing (Map b class ∷ vs) = ap (λ z. Map b class ∷ z) (nulled_nothing vs)
nulled_nothing (Constant b l ∷ vs) = ap (λ z. Constant b l ∷ z) (nulled_nothing vs)
nulled_nothing (Again b l ∷ vs) = ap (λ z. Again b l ∷ z) (nulled_nothing vs)
nulled_nothing (Another b ∷ vs) = ap (λ z. Another b ∷ z) (nulled_nothing vs)
nulled_nothing (Said b l ∷ vs) = ap (λ z. Said b l ∷ z) (nulled_nothing vs)

pub shown_nothing : (b : Bool) (s : Shape Value) → skeleton.shown b [] s ≡ s
shown_nothing false s = refl
shown_nothing true s =
    ap (λ ls. shape ls (nulled [] s.operands)) (nulled_nothing s.locals) ∙ ap (shape s.locals) (nulled_nothing s.operands)

pub sign_none : (q : Comparison) (v : Value) (l : Name) → skeleton.sign_asks q v ≡ Some l → skeleton.comparing q v (Bit false) ≡ None
sign_none q (Bit b) l e = none_some e
sign_none q Plain l e = refl
sign_none q Nil l e = refl
sign_none q (Map b class) l e = refl
sign_none q (Constant b c) l e = refl
sign_none q (Ref b) l e = refl
sign_none q (Again b c) l e = refl
sign_none q (Another b) l e = refl
sign_none q (Said b c) l e = refl

-- a switch goes to the arm that it chooses
pub chosen_goes : (arms : List Arm) (other n : ℕ) → goes_for arms other (chosen arms n) ≡ goes_for arms other (Some n)
chosen_goes arms other n = go (arm_of arms n) refl
  where
    go : (o : Option ℕ) → arm_of arms n ≡ o → goes_for arms other (option_and_then (λ to. Some n) o) ≡ goes_for arms other (Some n)
    go None e = sym (ap (λ (z : Option ℕ). elim z [ None ↦ other | Some to ↦ to ]) e)
    go (Some to) e = refl

pub choice_is : (n : Option ℕ) → is_choice n n ≡ true
choice_is None = refl
choice_is (Some n) = Rattle.insp_rules.proofs.Lists.is_same n

loose_shows : (v : Value) → is_loose v ≡ true → skeleton.null_shows v ≡ []
loose_shows Plain l = refl
loose_shows Nil l = refl
loose_shows (Bit b) l = refl
loose_shows (Map b class) l = refl
loose_shows (Constant b c) l = refl
loose_shows (Ref b) l = absurd (true≢false (sym l))
loose_shows (Again b c) l = refl
loose_shows (Another b) l = refl
loose_shows (Said b c) l = refl

loose_left : (v w : Value) → is_loose v ≡ true → skeleton.same_shows v w ≡ []
loose_left Plain w l = refl
loose_left Nil w l = absurd (true≢false (sym l))
loose_left (Bit b) w l = refl
loose_left (Map b class) w l = refl
loose_left (Constant b c) w l = refl
loose_left (Ref b) w l = absurd (true≢false (sym l))
loose_left (Again b c) w l = refl
loose_left (Another b) w l = refl
loose_left (Said b c) w l = refl

loose_right : (o : ℕ) (w : Value) → is_loose w ≡ true → skeleton.same_shows (Ref o) w ≡ []
loose_right o Plain l = refl
loose_right o Nil l = absurd (true≢false (sym l))
loose_right o (Bit b) l = refl
loose_right o (Map b class) l = refl
loose_right o (Constant b c) l = refl
loose_right o (Ref b) l = absurd (true≢false (sym l))
loose_right o (Again b c) l = refl
loose_right o (Another b) l = refl
loose_right o (Said b c) l = refl

nil_right : (w : Value) → is_loose w ≡ true → skeleton.same_shows Nil w ≡ []
nil_right Plain l = refl
nil_right Nil l = refl
nil_right (Bit b) l = refl
nil_right (Map b class) l = refl
nil_right (Constant b c) l = refl
nil_right (Ref b) l = absurd (true≢false (sym l))
nil_right (Again b c) l = refl
nil_right (Another b) l = refl
nil_right (Said b c) l = refl

told_is : {b c : Bool} → Tells (Some b) c → b ≡ c
told_is known = refl

no_one : {P : Type 0} (o : ℕ) → listed o [] ≡ true → P
no_one o e = absurd (true≢false (sym e))

only : (a o : ℕ) → listed o (a ∷ []) ≡ true → a ≡ o
only a o e = go (eqb_tells a o)
  where
    go : ((a == o) ≡ true) × (a ≡ o) ⊎ ((a == o) ≡ false) × (a ≢ o) → a ≡ o
    go (inl t) = t.1
    go (inr t) = absurd (true≢false (sym e ∙ ap (λ (b : Bool). if b then true else false) t.0))

both_true : (a b : Bool) → both a b ≡ true → (a ≡ true) × (b ≡ true)
both_true true b e = (refl, e)
both_true false b e = absurd (true≢false (sym e))

module _ (h : ℕ → Thing) where
  pub same_none : (v w : Value) (z : Name × Name) → skeleton.constant_asks v w ≡ Some z → skeleton.are_same h v w ≡ None
  same_none (Ref a) w z e = none_some e
  same_none Nil w z e = none_some e
  same_none Plain w z e = refl
  same_none (Bit b) w z e = refl
  same_none (Map b class) w z e = refl
  same_none (Constant b l) w z e = refl
  same_none (Again b l) w z e = refl
  same_none (Another b) w z e = refl
  same_none (Said b l) w z e = refl

  abbrev pub AllNull : List ℕ → Type 0
  AllNull os = (o : ℕ) → listed o os ≡ true → (h o).null ≡ true

  pub null_dead : (v : Value) → Tells (skeleton.is_nil h v) true → AllNull (skeleton.null_shows v)
  null_dead (Ref a) q o e = subst (λ c. (h c).null ≡ true) (only a o e) (told_is q)
  null_dead Nil q o e = no_one o e
  null_dead Plain q o e = no_one o e
  null_dead (Bit b) q o e = no_one o e
  null_dead (Map b class) q o e = no_one o e
  null_dead (Constant b c) q o e = no_one o e
  null_dead (Again b c) q o e = no_one o e
  null_dead (Another b) q o e = no_one o e
  null_dead (Said b c) q o e = no_one o e

  pub null_sure : (v : Value) → Tells (skeleton.is_nil h v) false → (o : ℕ) → skeleton.null_shows v ≡ o ∷ [] → (h o).null ≡ false
  null_sure (Ref a) q o e = let z : a ≡ o = cc in subst (λ c. (h c).null ≡ false) z (told_is q)
  null_sure Nil q o e = absurd (cc)
  null_sure Plain q o e = absurd (cc)
  null_sure (Bit b) q o e = absurd (cc)
  null_sure (Map b class) q o e = absurd (cc)
  null_sure (Constant b c) q o e = absurd (cc)
  null_sure (Again b c) q o e = absurd (cc)
  null_sure (Another b) q o e = absurd (cc)
  null_sure (Said b c) q o e = absurd (cc)

  pub same_dead : (v w : Value) → Tells (skeleton.are_same h v w) true → AllNull (skeleton.same_shows v w)
  same_dead (Ref a) Nil q o e = subst (λ c. (h c).null ≡ true) (only a o e) (told_is q)
  same_dead Nil (Ref a) q o e = subst (λ c. (h c).null ≡ true) (only a o e) (told_is q)
  same_dead (Ref a) (Ref b) q o e = go (a == b) refl (told_is q) e
    where
      go : (z : Bool) → (a == b) ≡ z → (if a == b then true else both (h a).null (h b).null) ≡ true →
          listed o (if a == b then [] else a ∷ b ∷ []) ≡ true → (h o).null ≡ true
      go true z q e = no_one o (sym (ap (λ (t : Bool). listed o (if t then [] else a ∷ b ∷ [])) z) ∙ e)
      go false z q e =
          let n = both_true (h a).null (h b).null (sym (ap (λ (t : Bool). if t then true else both (h a).null (h b).null) z) ∙ q) in
          pick n (eqb_tells a o) (sym (ap (λ (t : Bool). listed o (if t then [] else a ∷ b ∷ [])) z) ∙ e)
        where
          pick : ((h a).null ≡ true) × ((h b).null ≡ true) → ((a == o) ≡ true) × (a ≡ o) ⊎ ((a == o) ≡ false) × (a ≢ o) →
              (if a == o then true else listed o (b ∷ [])) ≡ true → (h o).null ≡ true
          pick n (inl t) e = subst (λ c. (h c).null ≡ true) t.1 n.0
          pick n (inr t) e =
              subst (λ c. (h c).null ≡ true) (only b o (sym (ap (λ (c : Bool). if c then true else listed o (b ∷ [])) t.0) ∙ e)) n.1
  same_dead Nil Nil q o e = no_one o e
  same_dead Nil Plain q o e = no_one o e
  same_dead Nil (Bit b) q o e = no_one o e
  same_dead Nil (Map b class) q o e = no_one o e
  same_dead Nil (Constant b c) q o e = no_one o e
  same_dead Nil (Again b c) q o e = no_one o e
  same_dead Nil (Another b) q o e = no_one o e
  same_dead Nil (Said b c) q o e = no_one o e
  same_dead (Ref a) Plain q o e = no_one o e
  same_dead (Ref a) (Bit b) q o e = no_one o e
  same_dead (Ref a) (Map b class) q o e = no_one o e
  same_dead (Ref a) (Constant b c) q o e = no_one o e
  same_dead (Ref a) (Again b c) q o e = no_one o e
  same_dead (Ref a) (Another b) q o e = no_one o e
  same_dead (Ref a) (Said b c) q o e = no_one o e
  same_dead Plain w q o e = no_one o e
  same_dead (Bit b) w q o e = no_one o e
  same_dead (Map b class) w q o e = no_one o e
  same_dead (Constant b c) w q o e = no_one o e
  same_dead (Again b c) w q o e = no_one o e
  same_dead (Another b) w q o e = no_one o e
  same_dead (Said b c) w q o e = no_one o e

  pub same_sure : (v w : Value) → Tells (skeleton.are_same h v w) false → (o : ℕ) → skeleton.same_shows v w ≡ o ∷ [] → (h o).null ≡ false
  same_sure (Ref a) Nil q o e = let z : a ≡ o = cc in subst (λ c. (h c).null ≡ false) z (told_is q)
  same_sure Nil (Ref a) q o e = let z : a ≡ o = cc in subst (λ c. (h c).null ≡ false) z (told_is q)
  same_sure (Ref a) (Ref b) q o e = go (a == b) e
    where
      go : (z : Bool) → (if z then [] else a ∷ b ∷ []) ≡ o ∷ [] → (h o).null ≡ false
      go true e = absurd (cc)
      go false e = absurd (cc)
  same_sure Nil Nil q o e = absurd (cc)
  same_sure Nil Plain q o e = absurd (cc)
  same_sure Nil (Bit b) q o e = absurd (cc)
  same_sure Nil (Map b class) q o e = absurd (cc)
  same_sure Nil (Constant b c) q o e = absurd (cc)
  same_sure Nil (Again b c) q o e = absurd (cc)
  same_sure Nil (Another b) q o e = absurd (cc)
  same_sure Nil (Said b c) q o e = absurd (cc)
  same_sure (Ref a) Plain q o e = absurd (cc)
  same_sure (Ref a) (Bit b) q o e = absurd (cc)
  same_sure (Ref a) (Map b class) q o e = absurd (cc)
  same_sure (Ref a) (Constant b c) q o e = absurd (cc)
  same_sure (Ref a) (Again b c) q o e = absurd (cc)
  same_sure (Ref a) (Another b) q o e = absurd (cc)
  same_sure (Ref a) (Said b c) q o e = absurd (cc)
  same_sure Plain w q o e = absurd (cc)
  same_sure (Bit b) w q o e = absurd (cc)
  same_sure (Map b class) w q o e = absurd (cc)
  same_sure (Constant b c) w q o e = absurd (cc)
  same_sure (Again b c) w q o e = absurd (cc)
  same_sure (Another b) w q o e = absurd (cc)
  same_sure (Said b c) w q o e = absurd (cc)
  -- behind a test that showed that these are null

module _ (h : ℕ → Thing) (obj : ℕ → ℕ) (held : ℕ) (hold : ℕ → ℕ) (mark n : ℕ) (f : Sight) (t : Shape Value)
    (fit : Fit h obj fresh held hold mark n f t) where
  -- an object of which it is known that it isn't null
  pub there_is : (g : ℕ) (x : Group) → f.groups g ≡ Some x → x.null ≡ false → (h (obj g)).null ≡ false
  there_is g x e there = go (h (obj g)).null refl
    where
      go : (b : Bool) → (h (obj g)).null ≡ b → (h (obj g)).null ≡ false
      go true d = absurd (true≢false (sym ((fit.kinds g x e).null d) ∙ there))
      go false d = d

  null_is : (g : ℕ) (x : Group) → f.groups g ≡ Some x → null_of (f.groups g) ≡ x.null
  null_is g x e = ap null_of e

  pub may_null : (a : Known) (v : Value) → Says h obj f.groups fresh a v → (c : Bool) → frames.is_null f.groups a ≡ Some c →
      skeleton.is_nil h v ≡ Some c
  may_null a v (bare laws.null) c e = e
  may_null a v (bare (laws.other l)) c e = none_some e
  may_null a v (bare (laws.lost l)) c e = none_some e
  may_null a v (bare laws.bit) c e = none_some e
  may_null a v (bare laws.again) c e = none_some e
  may_null a v (bare laws.another) c e = none_some e
  may_null a v (bare laws.map) c e = none_some e
  may_null a v (bare laws.constant) c e = none_some e
  may_null a v (object {g = g} {o = o} x e k) c d = go x.null refl
    where
      go : (b : Bool) → x.null ≡ b → skeleton.is_nil h (Ref o) ≡ Some c
      go true q = none_some (sym (ap (λ (z : Bool). if z then None else Some false) (null_is g x e ∙ q)) ∙ d)
      go false q =
          ap (λ a. Some (h a).null) k ∙ ap (λ b. Some b) (there_is g x e q)
          ∙ sym (ap (λ (z : Bool). if z then None else Some false) (null_is g x e ∙ q)) ∙ d
  may_null a v (answer x e k) c d = none_some d

  pub same_groups : (g k a b : ℕ) (x y : Group) → f.groups g ≡ Some x → f.groups k ≡ Some y → a ≡ obj g → b ≡ obj k → (g == k) ≡ (a == b)
  same_groups g k a b x y d e p q = go (eqb_tells g k) (eqb_tells a b)
    where
      go : ((g == k) ≡ true) × (g ≡ k) ⊎ ((g == k) ≡ false) × (g ≢ k) → ((a == b) ≡ true) × (a ≡ b) ⊎ ((a == b) ≡ false) × (a ≢ b) →
          (g == k) ≡ (a == b)
      go (inl l) (inl m) = l.0 ∙ sym m.0
      go (inr l) (inr m) = l.0 ∙ sym m.0
      go (inl l) (inr m) = absurd (m.1 (p ∙ ap obj l.1 ∙ sym q))
      go (inr l) (inl m) = absurd (l.1 (fit.sits.apart g k x y d e (sym p ∙ m.1 ∙ q)))

  one_null : (g o : ℕ) (x : Group) → f.groups g ≡ Some x → o ≡ obj g → (b : Bool) → unless (null_of (f.groups g)) false ≡ Some b →
      Some (h o).null ≡ Some b
  one_null g o x e k b r = go x.null refl
    where
      go : (z : Bool) → x.null ≡ z → Some (h o).null ≡ Some b
      go true z = none_some (sym (ap (λ t. unless t false) (null_is g x e ∙ z)) ∙ r)
      go false z =
          ap (λ a. Some (h a).null) k ∙ ap (λ c. Some c) (there_is g x e z) ∙ sym (ap (λ t. unless t false) (null_is g x e ∙ z)) ∙ r

  pub may_same : (a c : Known) (v w : Value) → Says h obj f.groups fresh a v → Says h obj f.groups fresh c w → (b : Bool) →
      frames.are_same f.groups a c ≡ Some b → skeleton.are_same h v w ≡ Some b
  may_same (Object g) (Object m) v w (object {o = o} x e k) (object {o = q} y d l) b r = go (g == m) refl
    where
      go : (z : Bool) → (g == m) ≡ z → skeleton.are_same h (Ref o) (Ref q) ≡ Some b
      go true z =
          ap (λ (t : Bool). Some (if t then true else both (h o).null (h q).null)) (sym (same_groups g m o q x y e d k l) ∙ z)
          ∙ sym (ap (λ (t : Bool). if t then Some true else unless (both (null_of (f.groups g)) (null_of (f.groups m))) false) z) ∙ r
      go false z =
          ap (λ (t : Bool). Some (if t then true else both (h o).null (h q).null)) (sym (same_groups g m o q x y e d k l) ∙ z)
          ∙ nulls (null_of (f.groups g)) (null_of (f.groups m)) refl refl
          (sym (ap (λ (t : Bool). if t then Some true else unless (both (null_of (f.groups g)) (null_of (f.groups m))) false) z) ∙ r)
        where
          nulls : (s t : Bool) → null_of (f.groups g) ≡ s → null_of (f.groups m) ≡ t → unless (both s t) false ≡ Some b →
              Some (both (h o).null (h q).null) ≡ Some b
          nulls true true i j u = none_some u
          nulls true false i j u =
              ap (λ c. Some (both (h o).null c)) (ap (λ c. (h c).null) l ∙ there_is m y d (sym (null_is m y d) ∙ j))
              ∙ ap (λ c. Some c) (both_false (h o).null) ∙ u
          nulls false t i j u =
              ap (λ c. Some (both c (h q).null)) (ap (λ c. (h c).null) k ∙ there_is g x e (sym (null_is g x e) ∙ i)) ∙ u
  may_same (Object g) (Bare Null) v w (object {o = o} x e k) (bare laws.null) b r = one_null g o x e k b r
  may_same (Bare Null) (Object g) v w (bare laws.null) (object {o = o} x e k) b r = one_null g o x e k b r
  may_same (Bare Null) (Bare Null) v w (bare laws.null) (bare laws.null) b r = r
  may_same (Object g) (Answer m form) v w s t b r = none_some r
  may_same (Object g) (Bare Other) v w s t b r = none_some r
  may_same (Object g) (Bare (program.Bit c)) v w s t b r = none_some r
  may_same (Object g) (Bare Lost) v w s t b r = none_some r
  may_same (Object g) (Bare (Alias c)) v w s t b r = none_some r
  may_same (Object g) (Bare (program.Map c class)) v w s t b r = none_some r
  may_same (Object g) (Bare (program.Constant c l)) v w s t b r = none_some r
  may_same (Bare Null) (Answer m form) v w s t b r = none_some r
  may_same (Bare Null) (Bare Other) v w s t b r = none_some r
  may_same (Bare Null) (Bare (program.Bit c)) v w s t b r = none_some r
  may_same (Bare Null) (Bare Lost) v w s t b r = none_some r
  may_same (Bare Null) (Bare (Alias c)) v w s t b r = none_some r
  may_same (Bare Null) (Bare (program.Map c class)) v w s t b r = none_some r
  may_same (Bare Null) (Bare (program.Constant c l)) v w s t b r = none_some r
  may_same (Answer m form) c v w s t b r = none_some r
  may_same (Bare Other) c v w s t b r = none_some r
  may_same (Bare (program.Bit a)) c v w s t b r = none_some r
  may_same (Bare Lost) c v w s t b r = none_some r
  may_same (Bare (Alias a)) c v w s t b r = none_some r
  may_same (Bare (program.Map a class)) c v w s t b r = none_some r
  may_same (Bare (program.Constant a l)) c v w s t b r = none_some r

  pub may_compare : (q : Comparison) (a c : Known) (v w : Value) → Says h obj f.groups fresh a v → Says h obj f.groups fresh c w →
      (b : Bool) →
      frames.comparing q a c ≡ Some b → skeleton.comparing q v w ≡ Some b
  may_compare q (Bare (program.Bit x)) (Bare (program.Bit y)) v w (bare laws.bit) (bare laws.bit) b r = r
  may_compare q (Bare (program.Bit x)) (Object g) v w s t b r = none_some r
  may_compare q (Bare (program.Bit x)) (Answer g form) v w s t b r = none_some r
  may_compare q (Bare (program.Bit x)) (Bare Other) v w s t b r = none_some r
  may_compare q (Bare (program.Bit x)) (Bare Null) v w s t b r = none_some r
  may_compare q (Bare (program.Bit x)) (Bare Lost) v w s t b r = none_some r
  may_compare q (Bare (program.Bit x)) (Bare (Alias c)) v w s t b r = none_some r
  may_compare q (Bare (program.Bit x)) (Bare (program.Map c class)) v w s t b r = none_some r
  may_compare q (Bare (program.Bit x)) (Bare (program.Constant c l)) v w s t b r = none_some r
  may_compare q (Object g) c v w s t b r = none_some r
  may_compare q (Answer g form) c v w s t b r = none_some r
  may_compare q (Bare Other) c v w s t b r = none_some r
  may_compare q (Bare Null) c v w s t b r = none_some r
  may_compare q (Bare Lost) c v w s t b r = none_some r
  may_compare q (Bare (Alias a)) c v w s t b r = none_some r
  may_compare q (Bare (program.Map a class)) c v w s t b r = none_some r
  may_compare q (Bare (program.Constant a l)) c v w s t b r = none_some r

  -- what is known of the answer that a test is about
  pub record Heard (g : ℕ) (label : Name) : Type 0 where
    pub x : Group
    pub live : f.groups g ≡ Some x
    pub said : (h (obj g)).answer ≡ Some label

  pub data Sign (q : Comparison) (a : Known) (v : Value) : Type 0 where
    asks_sign : (g : ℕ) (label : Name) → frames.sign_asks q a ≡ Some g → skeleton.sign_asks q v ≡ Some label → Heard g label → Sign q a v
    no_sign : frames.sign_asks q a ≡ None → Sign q a v

  pub signs : (q : Comparison) (a : Known) (v : Value) → Says h obj f.groups fresh a v → Sign q a v
  signs q a v (bare s) = no_sign refl
  signs q a v (object x e k) = no_sign refl
  signs q a v (answer {form = Itself (Constants c)} x e k) = no_sign refl
  signs q a v (answer {form = Ordinal c} x e k) = no_sign refl
  signs q a v (answer {form = Mapped m} x e k) = no_sign refl
  signs Equal a v (answer {g = g} {form = Itself Truth} {label = l} x e k) =
      asks_sign g l refl refl (record { x = x; live = e; said = or_none g k })
  signs Unequal a v (answer {g = g} {form = Itself Truth} {label = l} x e k) =
      asks_sign g l refl refl (record { x = x; live = e; said = or_none g k })
  signs Less a v (answer {form = Itself Truth} x e k) = no_sign refl
  signs AtLeast a v (answer {form = Itself Truth} x e k) = no_sign refl
  signs More a v (answer {form = Itself Truth} x e k) = no_sign refl
  signs AtMost a v (answer {form = Itself Truth} x e k) = no_sign refl

  pub data Chosen (a c : Known) (v w : Value) : Type 0 where
    asks_constant : (g : ℕ) (label other : Name) → frames.constant_asks a c ≡ Some (g, other) →
        skeleton.constant_asks v w ≡ Some (label, other) →
        Heard g label → Chosen a c v w
    no_constant : frames.constant_asks a c ≡ None → Chosen a c v w

  pub choices : (a c : Known) (v w : Value) → Says h obj f.groups fresh a v → Says h obj f.groups fresh c w → Chosen a c v w
  choices (Answer g (Itself (Constants a))) (Bare (program.Constant b other)) v w (answer {label = l} x e k) (bare laws.constant) =
      go (bytes_eq a b) refl
    where
      go : (t : Bool) → bytes_eq a b ≡ t → Chosen (Answer g (Itself (Constants a))) (Bare (program.Constant b other))
          (Said (Itself (Constants a)) l) (Constant b other)
      go true q = asks_constant g l other (ap (λ (z : Bool). if z then Some (g, other) else None) q)
          (ap (λ (z : Bool). if z then Some (l, other) else None) q) (record { x = x; live = e; said = or_none g k })
      go false q = no_constant (ap (λ (z : Bool). if z then Some (g, other) else None) q)
  choices (Bare (program.Constant b other)) (Answer g (Itself (Constants a))) v w (bare laws.constant) (answer {label = l} x e k) =
      go (bytes_eq a b) refl
    where
      go : (t : Bool) → bytes_eq a b ≡ t → Chosen (Bare (program.Constant b other)) (Answer g (Itself (Constants a)))
          (Constant b other) (Said (Itself (Constants a)) l)
      go true q = asks_constant g l other (ap (λ (z : Bool). if z then Some (g, other) else None) q)
          (ap (λ (z : Bool). if z then Some (l, other) else None) q) (record { x = x; live = e; said = or_none g k })
      go false q = no_constant (ap (λ (z : Bool). if z then Some (g, other) else None) q)
  choices (Answer g (Itself (Constants a))) (Object m) v w s t = no_constant refl
  choices (Answer g (Itself (Constants a))) (Answer m form) v w s t = no_constant refl
  choices (Answer g (Itself (Constants a))) (Bare Other) v w s t = no_constant refl
  choices (Answer g (Itself (Constants a))) (Bare Null) v w s t = no_constant refl
  choices (Answer g (Itself (Constants a))) (Bare Lost) v w s t = no_constant refl
  choices (Answer g (Itself (Constants a))) (Bare (program.Bit b)) v w s t = no_constant refl
  choices (Answer g (Itself (Constants a))) (Bare (Alias b)) v w s t = no_constant refl
  choices (Answer g (Itself (Constants a))) (Bare (program.Map b class)) v w s t = no_constant refl
  choices (Bare (program.Constant b other)) (Object m) v w s t = no_constant refl
  choices (Bare (program.Constant b other)) (Bare c) v w s t = no_constant refl
  choices (Bare (program.Constant b other)) (Answer m (Itself Truth)) v w s t = no_constant refl
  choices (Bare (program.Constant b other)) (Answer m (Ordinal c)) v w s t = no_constant refl
  choices (Bare (program.Constant b other)) (Answer m (Mapped c)) v w s t = no_constant refl
  choices (Answer g (Itself Truth)) c v w s t = no_constant refl
  choices (Answer g (Ordinal a)) c v w s t = no_constant refl
  choices (Answer g (Mapped a)) c v w s t = no_constant refl
  choices (Object g) c v w s t = no_constant refl
  choices (Bare Other) c v w s t = no_constant refl
  choices (Bare Null) c v w s t = no_constant refl
  choices (Bare Lost) c v w s t = no_constant refl
  choices (Bare (program.Bit a)) c v w s t = no_constant refl
  choices (Bare (Alias a)) c v w s t = no_constant refl
  choices (Bare (program.Map a class)) c v w s t = no_constant refl

  pub data Switched (a : Known) (v : Value) : Type 0 where
    asks_number : (g m : ℕ) (label : Name) → frames.switch_asks a ≡ Some (g, m) → skeleton.switch_asks v ≡ Some (m, label) →
        Heard g label → Switched a v
    no_number : frames.switch_asks a ≡ None → Switched a v

  pub switches : (a : Known) (v : Value) → Says h obj f.groups fresh a v → Switched a v
  switches a v (bare s) = no_number refl
  switches a v (object x e k) = no_number refl
  switches a v (answer {form = Itself c} x e k) = no_number refl
  switches a v (answer {form = Ordinal c} x e k) = no_number refl
  switches a v (answer {g = g} {form = Mapped m} {label = l} x e k) =
      asks_number g m l refl refl (record { x = x; live = e; said = or_none g k })

  -- ---- tests that tell whether objects are null

  pub data Live : List ℕ → Type 0 where
    none : Live []
    one : {g : ℕ} {gs : List ℕ} (x : Group) → f.groups g ≡ Some x → Live gs → Live (g ∷ gs)

  abbrev pub maps : List ℕ → List ℕ
  maps [] = []
  maps (g ∷ gs) = obj g ∷ maps gs

  pub listed_maps : (g : ℕ) (x : Group) → f.groups g ≡ Some x → (gs : List ℕ) → Live gs → listed (obj g) (maps gs) ≡ listed g gs
  listed_maps g x e [] live = refl
  listed_maps g x e (a ∷ gs) (one y d live) =
      ap (λ (b : Bool). if b then true else listed (obj g) (maps gs)) (sym (same_groups a g (obj a) (obj g) y x d e refl refl))
      ∙ ap (λ c. if a == g then true else c) (listed_maps g x e gs live)

  -- what a test shows of the objects it shows of their groups
  pub record Shows (gs os : List ℕ) : Type 0 where
    pub is : os ≡ maps gs
    pub live : Live gs

  shows_none : {os : List ℕ} → os ≡ [] → Shows [] os
  shows_none e = record { is = e; live = none }

  shows_one : (g o : ℕ) (x : Group) → f.groups g ≡ Some x → o ≡ obj g → Shows (g ∷ []) (o ∷ [])
  shows_one g o x e k = record { is = ap (λ a. a ∷ []) k; live = one x e none }

  pub null_are : (a : Known) (v : Value) → Says h obj f.groups fresh a v → Shows (frames.null_shows a) (skeleton.null_shows v)
  null_are a v (object {g = g} {o = o} x e k) = shows_one g o x e k
  null_are a v (answer x e k) = shows_none refl
  null_are a v (bare (laws.other l)) = shows_none (loose_shows v l)
  null_are a v (bare (laws.lost l)) = shows_none (loose_shows v l)
  null_are a v (bare laws.another) = shows_none refl
  null_are a v (bare laws.bit) = shows_none refl
  null_are a v (bare laws.null) = shows_none refl
  null_are a v (bare laws.again) = shows_none refl
  null_are a v (bare laws.map) = shows_none refl
  null_are a v (bare laws.constant) = shows_none refl

  pub same_are : (a c : Known) (v w : Value) → Says h obj f.groups fresh a v → Says h obj f.groups fresh c w →
      Shows (frames.same_shows a c) (skeleton.same_shows v w)
  same_are a c v w (object {g = g} {o = o} x e k) (object {g = m} {o = q} y d l) = go (g == m) refl
    where
      go : (z : Bool) → (g == m) ≡ z → Shows (if g == m then [] else g ∷ m ∷ []) (if o == q then [] else o ∷ q ∷ [])
      go true z =
          subst (λ (t : Bool). Shows (if t then [] else g ∷ m ∷ []) (if o == q then [] else o ∷ q ∷ [])) (sym z)
          (subst (λ (t : Bool). Shows [] (if t then [] else o ∷ q ∷ [])) (sym (sym (same_groups g m o q x y e d k l) ∙ z))
          (shows_none refl))
      go false z =
          subst (λ (t : Bool). Shows (if t then [] else g ∷ m ∷ []) (if o == q then [] else o ∷ q ∷ [])) (sym z)
          (subst (λ (t : Bool). Shows (g ∷ m ∷ []) (if t then [] else o ∷ q ∷ [])) (sym (sym (same_groups g m o q x y e d k l) ∙ z))
          (record { is = ap (λ a. a ∷ q ∷ []) k ∙ ap (λ b. obj g ∷ b ∷ []) l; live = one x e (one y d none) }))
  same_are a c v w (object {g = g} {o = o} x e k) (bare laws.null) = shows_one g o x e k
  same_are a c v w (object {g = g} {o = o} x e k) (bare (laws.other l)) = shows_none (loose_right o w l)
  same_are a c v w (object {g = g} {o = o} x e k) (bare (laws.lost l)) = shows_none (loose_right o w l)
  same_are a c v w (object {g = g} {o = o} x e k) (bare laws.another) = shows_none refl
  same_are a c v w (object {g = g} {o = o} x e k) (bare laws.bit) = shows_none refl
  same_are a c v w (object {g = g} {o = o} x e k) (bare laws.again) = shows_none refl
  same_are a c v w (object {g = g} {o = o} x e k) (bare laws.map) = shows_none refl
  same_are a c v w (object {g = g} {o = o} x e k) (bare laws.constant) = shows_none refl
  same_are a c v w (object {g = g} {o = o} x e k) (answer y d l) = shows_none refl
  same_are a c v w (answer x e k) t = shows_none refl
  same_are a c v w (bare laws.null) (object {g = g} {o = o} x e k) = shows_one g o x e k
  same_are a c v w (bare laws.null) (bare (laws.other l)) = shows_none (nil_right w l)
  same_are a c v w (bare laws.null) (bare (laws.lost l)) = shows_none (nil_right w l)
  same_are a c v w (bare laws.null) (bare laws.another) = shows_none refl
  same_are a c v w (bare laws.null) (bare laws.bit) = shows_none refl
  same_are a c v w (bare laws.null) (bare laws.null) = shows_none refl
  same_are a c v w (bare laws.null) (bare laws.again) = shows_none refl
  same_are a c v w (bare laws.null) (bare laws.map) = shows_none refl
  same_are a c v w (bare laws.null) (bare laws.constant) = shows_none refl
  same_are a c v w (bare laws.null) (answer y d l) = shows_none refl
  same_are a c v w (bare (laws.other l)) t = shows_none (loose_left v w l)
  same_are a c v w (bare (laws.lost l)) t = shows_none (loose_left v w l)
  same_are a c v w (bare laws.another) t = shows_none refl
  same_are a c v w (bare laws.bit) t = shows_none refl
  same_are a c v w (bare laws.again) t = shows_none refl
  same_are a c v w (bare laws.map) t = shows_none refl
  same_are a c v w (bare laws.constant) t = shows_none refl
