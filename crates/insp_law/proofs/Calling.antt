-- Calls of protocols, by the frame that runs.
use Rattle.std.proofs.Common.{◌≡◌, ◌≢◌, ◌⊎◌, inl, inr, ℕ, suc, ◌<◌, ◌≤◌, Bool, true, false, true≢false, List, ◌∷◌, Option, Some, None}
use Rattle.std.proofs.Common.{refl, sym, ap, ◌∙◌, subst, arith}
use Rattle.std.specs.Prelude.{◌==◌, if◌then◌else◌}
use Rattle.mg_text.specs.Call.{Name}
use Rattle.ts_tree.specs.declared.parts.To.{To}
use Rattle.ts_tree.specs.Typestate.{Target, One, ByAnswer, Method as Offer}
use Rattle.ts_tree.specs.Calls.{by_label}
use Rattle.insp_rules.specs.Program.{Class, Other}
use Rattle.insp_rules.specs.Program.{Result, Void, Words, Boolean, Of}
use Rattle.insp_rules.specs.Program.{Instruction, Call, Program}
use Rattle.insp_rules.specs.Program.{Shape, nth, rest, filled, shape, popped}
use Rattle.insp_rules.specs.Skeleton.{Value, Plain, Ref, Thing, place, put}
use Rattle.insp_rules.specs.Skeleton.{handed, called}
use Rattle.insp_rules.specs.Skeleton.{MayAnswer, Leaves, fresh_of, offered_at}
use Rattle.insp_rules.specs.Skeleton as skeleton
use Rattle.insp_rules.specs.Frames.{Known, Bare, unknown, Object, Element, At, Pending, Group, Sight, group}
use Rattle.insp_rules.specs.Frames.{forget_all, is_it, added, behind, leaves, told as tops_told, Way}
use Rattle.insp_rules.specs.Frames.{CallHolds, MayBe}
use Rattle.insp_rules.specs.Frames.{new_group}
use Rattle.insp_rules.specs.Frames as frames
use Rattle.insp_law.specs.Laws as laws
use Rattle.insp_rules.specs.Reached.{Both, more}
use Rattle.insp_law.specs.Laws.{IsRight}
use Rattle.insp_rules.proofs.Lists.{some_is, none_some, both_filled, both_rest, Put, is, isnt, putting, put_same, put_other}
use Rattle.insp_law.proofs.Fitting.{Says, bare, object, answer, Accords, KindOf, Kin, kin, Fits, Fit, fresh, pops}
use Rattle.insp_law.proofs.Fitting.{or_none, operand, others}
use Rattle.insp_law.proofs.Fitting.{at as stands, pending as waits_for}
use Rattle.insp_law.proofs.Carrying.{Carries, forgetting_all}
use Rattle.insp_law.proofs.Calls.{called_right, is_offered, place_called, stands_at, IsGood}
use Rattle.insp_law.proofs.Steps.{AllRight, regroup, put_was, put_goes, Comes_to, Goes, goes_by, then_made}

module _ (h : ℕ → Thing) (obj : ℕ → ℕ) (held : ℕ) (hold : ℕ → ℕ) (mark n : ℕ) (p : Program) (i : Instruction) (at : ℕ) (f : Sight) where
  abbrev pub Goes_to : (to : ℕ) → Shape Value → (ℕ → Thing) → ℕ → Type 0
  Goes_to to u h' n' = Goes h obj held hold mark n p i at f to u h' n'

  module _ (t : Shape Value) (fit : Fit h obj fresh held hold mark n f t) (right : AllRight h n) (low : mark ≤ n) where
    operand_of : (k : ℕ) → Says h obj f.groups fresh (nth unknown f.shape.operands k) (nth Plain t.operands k)
    operand_of k = operand h obj f.groups fresh f.shape t fit.fits k

    pops_of : (k : ℕ) → Fits h obj f.groups fresh (popped k f.shape) (popped k t)
    pops_of k = pops h obj f.groups fresh f.shape t k fit.fits

    -- ---- calls of protocols

    module _ (name : Name) (k : ℕ) (has : Result) (o : ℕ) (reply : Option Name) (j : i ≡ Call name k has) (g : ℕ) (x : Group)
        (receiver : nth unknown f.shape.operands k ≡ Object g) (e : f.groups g ≡ Some x) (at_o : o ≡ obj g) where
      -- what is behind, where the object is in this element
      calls_come : (x' : Group) → Accords x' (called (h o) name reply) → IsGood (called (h o) name reply) →
          (top : List Known) (vs : List Value) →
          Both (Says (put o (called (h o) name reply) h) obj (put g (Some x') f.groups) fresh) top vs →
          Comes_to h obj held hold mark n p i at f (behind g x' top f.shape f) obj (shape t.locals vs) (put o (called (h o) name reply) h) n
      calls_come x' accords is_right top vs tops = record {
        fit = record {
          fits = record {
            locals = forgetting_all h obj f.groups fresh (put o (called (h o) name reply) h) obj (put g (Some x') f.groups) fresh (is_it g)
                carries fit.fits.locals;
            operands = tops;
          };
          sits = regroup obj held hold mark n f.groups (put g (Some x') f.groups) f.count (put_was f.groups g x x' e)
              (put_goes f.groups g x') fit.sits;
          agrees = λ a y l. inr (agrees a y l (putting g (Some x') f.groups a));
          kinds = λ a y l. (agrees a y l (putting g (Some x') f.groups a)).kind;
        };
        kept = λ a y l. inl ((put_goes f.groups g x' a y l).0, (put_goes f.groups g x' a y l).1, refl);
        touches = λ q less. touched q (putting o (called (h o) name reply) h q);
        kinds = λ q less. kind q (putting o (called (h o) name reply) h q);
        more = omega arith;
        right = λ q less. rights q less (putting o (called (h o) name reply) h q);
      }
        where
          elsewhere : (a : ℕ) (y : Group) → f.groups a ≡ Some y → a ≢ g → put o (called (h o) name reply) h (obj a) ≡ h (obj a)
          elsewhere a y l ne = put_other o (called (h o) name reply) h (obj a) (λ q. ne (fit.sits.apart a g y x l e (q ∙ at_o)))

          isnt_it : (a : ℕ) → (a == g) ≡ false → a ≢ g
          isnt_it a b q = absurd (true≢false (sym (ap (λ c. c == g) q ∙ Rattle.insp_rules.proofs.Lists.is_same g) ∙ b))

          carries : Carries h obj f.groups fresh (put o (called (h o) name reply) h) obj (put g (Some x') f.groups) fresh (is_it g)
          carries = record {
            live = put_goes f.groups g x';
            same = λ a y l. refl;
            heard = λ a y label l d q.
                inr (ap (λ (z : Thing). z.answer) (elsewhere a y l (isnt_it a d)) ∙ or_none a q);
          }

          agrees : (a : ℕ) (y : Group) → put g (Some x') f.groups a ≡ Some y → Put g (Some x') f.groups a →
              Accords y (put o (called (h o) name reply) h (obj a))
          agrees a y l (is q b p) =
              subst (λ (z : Group). Accords z (put o (called (h o) name reply) h (obj a))) (some_is (sym p ∙ l))
              (subst (Accords x') (sym (ap (put o (called (h o) name reply) h) (ap obj q ∙ sym at_o)
              ∙ put_same o (called (h o) name reply) h))
              accords)
          agrees a y l (isnt q b p) =
              subst (Accords y) (sym (elsewhere a y (sym p ∙ l) q)) (or_none a (fit.agrees a y (sym p ∙ l)))

          touched : (q : ℕ) → Put o (called (h o) name reply) h q →
              (put o (called (h o) name reply) h q ≡ h q) ⊎ ((a : ℕ) × (y : Group) × (f.groups a ≡ Some y) × (q ≡ obj a))
          touched q (is l b p) = inr (g, x, e, l ∙ at_o)
          touched q (isnt l b p) = inl p

          kind : (q : ℕ) → Put o (called (h o) name reply) h q → Kin (put o (called (h o) name reply) h q) (h q)
          kind q (is l b p) = subst (λ c. Kin (put o (called (h o) name reply) h q) (h c)) (sym l) (subst (λ z. Kin z (h o)) (sym p)
              (record { of = refl; null = refl }))
          kind q (isnt l b p) = kin p

          rights : (q : ℕ) → q < n → Put o (called (h o) name reply) h q → IsGood (put o (called (h o) name reply) h q)
          rights q less (is l b p) = subst IsGood (sym p) is_right
          rights q less (isnt l b p) = subst IsGood (sym p) (right q less)

      calls_to : (x' : Group) → Accords x' (called (h o) name reply) → IsGood (called (h o) name reply) →
          (top : List Known) (vs : List Value) →
          Both (Says (put o (called (h o) name reply) h) obj (put g (Some x') f.groups) fresh) top vs →
          Way p held i at f (suc at) (behind g x' top f.shape f) →
          Goes_to (suc at) (shape t.locals vs) (put o (called (h o) name reply) h) n
      calls_to x' accords is_right top vs tops way =
          goes_by h obj held hold mark n p i at f (suc at) (shape t.locals vs) (put o (called (h o) name reply) h) n
          (behind g x' top f.shape f) obj way
          (calls_come x' accords is_right top vs tops)

      carries_call : (x' : Group) → Carries h obj f.groups fresh (put o (called (h o) name reply) h) obj (put g (Some x') f.groups) fresh
          (is_it g)
      carries_call x' = record {
        live = put_goes f.groups g x';
        same = λ a y l. refl;
        heard = λ a y label l d q.
            inr (ap (λ (z : Thing). z.answer)
            (put_other o (called (h o) name reply) h (obj a) (λ c. isnt_it a d (fit.sits.apart a g y x l e (c ∙ at_o))))
            ∙ or_none a q);
      }
        where
          isnt_it : (a : ℕ) → (a == g) ≡ false → a ≢ g
          isnt_it a b q = absurd (true≢false (sym (ap (λ c. c == g) q ∙ Rattle.insp_rules.proofs.Lists.is_same g) ∙ b))

      tops_call : (x' : Group) → Both (Says (put o (called (h o) name reply) h) obj (put g (Some x') f.groups) fresh)
          (forget_all (is_it g) (rest (suc k) f.shape.operands)) (rest (suc k) t.operands)
      tops_call x' =
          forgetting_all h obj f.groups fresh (put o (called (h o) name reply) h) obj (put g (Some x') f.groups) fresh (is_it g)
          (carries_call x') (both_rest (Says h obj f.groups fresh) (suc k) fit.fits.operands)

    -- what is on the operands behind a call
    filled_both : (h' : ℕ → Thing) (groups : ℕ → Option Group) (n : ℕ) {xs : List Known} {vs : List Value} →
        Both (Says h' obj groups fresh) xs vs → Both (Says h' obj groups fresh) (filled (Bare Other) n xs) (filled Plain n vs)
    filled_both h' groups n b = both_filled (Says h' obj groups fresh) (Bare Other) Plain (others h' obj groups fresh) n b

    left_both : (h' : ℕ → Thing) (groups : ℕ → Option Group) (o : ℕ) (c : Class) (has : Result) (xs : List Known) (vs ws : List Value) →
        Leaves o c has vs ws → fresh_of c has ≡ None → Both (Says h' obj groups fresh) xs vs →
        Both (Says h' obj groups fresh) (leaves c has xs) ws
    left_both h' groups o c has xs vs ws skeleton.nothing e b = b
    left_both h' groups o c has xs vs ws (skeleton.words {n = n}) e b = filled_both h' groups n b
    left_both h' groups o c has xs vs ws skeleton.truth e b = more (others h' obj groups fresh) b
    left_both h' groups o c has xs vs ws skeleton.plain e b = more (others h' obj groups fresh) b
    left_both h' groups o c has xs vs ws (skeleton.again r) e b = more (bare laws.again) b
    left_both h' groups o c has xs vs ws (skeleton.another r) e b = more (bare laws.another) b

    left_none : (o : ℕ) (c : Class) (has : Result) (vs ws : List Value) → Leaves o c has vs ws → fresh_of c has ≡ None
    left_none o c has vs ws skeleton.nothing = refl
    left_none o c has vs ws skeleton.words = refl
    left_none o c has vs ws skeleton.truth = refl
    left_none o c has vs ws skeleton.plain = refl
    left_none o c has vs ws (skeleton.again {d = d} r) = ap (λ (z : Bool). if z then None else Some d) r
    left_none o c has vs ws (skeleton.another {d = d} r) = ap (λ (z : Bool). if z then None else Some d) r

    told_both : (h' : ℕ → Thing) (groups : ℕ → Option Group) (g : ℕ) (x : Group) (label : Name) → groups g ≡ Some x →
        (h' (obj g)).answer ≡ Some label → (has : Result) (xs : List Known) (vs : List Value) → Both (Says h' obj groups fresh) xs vs →
        Both (Says h' obj groups fresh) (tops_told g has xs) (skeleton.told has label vs)
    told_both h' groups g x label e s Void xs vs b = b
    told_both h' groups g x label e s (Words n) xs vs b = filled_both h' groups n b
    told_both h' groups g x label e s Boolean xs vs b = more (answer x e (inr s)) b
    told_both h' groups g x label e s (Of class followed) xs vs b = more (answer x e (inr s)) b

    pub receiver_is : (g o : ℕ) (a : Known) (v : Value) → Says h obj f.groups fresh a v → a ≡ Object g → v ≡ Ref o → o ≡ obj g
    receiver_is g o a v (bare r) p q = absurd (cc)
    receiver_is g o a v (answer x e k) p q = absurd (cc)
    receiver_is g o a v (object {g = g'} {o = o'} x e k) p q =
        let r : g' ≡ g = cc in
        let s : o' ≡ o = cc in
        sym s ∙ k ∙ ap obj r

    module _ (name : Name) (k : ℕ) (has : Result) (o : ℕ) (reply : Option Name) (j : i ≡ Call name k has)
        (v : nth Plain t.operands k ≡ Ref o)
        (there : (h o).null ≡ false) (may_be : MayAnswer (h o) name reply) (ch : CallHolds name k f) where
      at_o : o ≡ obj ch.g
      at_o = receiver_is ch.g o (nth unknown f.shape.operands k) (nth Plain t.operands k) (operand_of k) ch.receiver v

      was : Accords ch.x (h o)
      was = subst (λ c. Accords ch.x (h c)) (sym at_o) (or_none ch.g (fit.agrees ch.g ch.x ch.is))

      is_right : IsRight (h o)
      is_right = (right o (let b = fit.sits.bounded ch.g ch.x ch.is in omega (arith, b, at_o))).right

      kind_then : (e : Element) (r : Option Name) → KindOf (group ch.x.of e false) (called (h o) name r)
      kind_then e r = record { of = was.kind.of; null = λ d. absurd (true≢false (sym d ∙ there)) }

      abbrev s : (to : To) × (place (h o) ≡ Some to) × MayBe ch.x.element to
      s = stands_at (h o) ch.x.element (was.is there) ch.unbroken

      abbrev m : (m : Offer) × (offered_at ch.x.of s.0 name ≡ Some m)
      m = ch.offers s.0 s.2

      offered : offered_at (h o).of s.0 name ≡ Some m.0
      offered = ap (λ (c : Class). offered_at c s.0 name) (sym was.kind.of) ∙ m.1

      fits_it : skeleton.Fits m.0.target reply
      fits_it = may_be s.0 m.0 s.1 offered

    pub tells : (name : Name) (k : ℕ) (has : Result) (o : ℕ) (label : Name) → i ≡ Call name k has → nth Plain t.operands k ≡ Ref o →
        (h o).null ≡ false → MayAnswer (h o) name (Some label) → CallHolds name k f →
        Goes_to (suc at) (shape t.locals (skeleton.told has label (rest (suc k) t.operands))) (put o (called (h o) name (Some label)) h) n
    tells name k has o label j v there may_be ch =
        finish (m name k has o (Some label) j v there may_be ch).0.target refl (fits_it name k has o (Some label) j v there may_be ch)
      where
        at_g : o ≡ obj ch.g
        at_g = at_o name k has o (Some label) j v there may_be ch

        accords : Accords ch.x (h o)
        accords = was name k has o (Some label) j v there may_be ch

        from : (to : To) × (place (h o) ≡ Some to) × MayBe ch.x.element to
        from = s name k has o (Some label) j v there may_be ch

        offer : (m : Offer) × (offered_at ch.x.of from.0 name ≡ Some m)
        offer = m name k has o (Some label) j v there may_be ch

        is_there : offered_at (h o).of from.0 name ≡ Some offer.0
        is_there = offered name k has o (Some label) j v there may_be ch

        finish : (target : Target) → offer.0.target ≡ target → skeleton.Fits target (Some label) →
            Goes_to (suc at) (shape t.locals (skeleton.told has label (rest (suc k) t.operands)))
            (put o (called (h o) name (Some label)) h) n
        finish (One to) q fits = absurd (cc)
        finish (ByAnswer branches) q fits =
            calls_to name k has o (Some label) j ch.g ch.x ch.receiver ch.is at_g (group ch.x.of (Pending branches) false)
            (record {
              kind = kind_then name k has o (Some label) j v there may_be ch (Pending branches) (Some label);
              is = λ e. waits_for label fits.1 refl by placed_at;
            })
            (record {
              right = called_right (h o) name (Some label) fits.1 (is_right name k has o (Some label) j v there may_be ch) placed_at
                  (λ some. let z = is_offered (h o).of from.0 name offer.0 is_there in (offer.0, branches, z.0, z.1, q));
              heard = λ l e. there;
            })
            (tops_told ch.g has (forget_all (is_it ch.g) (rest (suc k) f.shape.operands)))
            (skeleton.told has label (rest (suc k) t.operands))
            (told_both (put o (called (h o) name (Some label)) h) (put ch.g (Some (group ch.x.of (Pending branches) false)) f.groups) ch.g
            (group ch.x.of (Pending branches) false) label (put_same ch.g (Some (group ch.x.of (Pending branches) false)) f.groups)
            (ap (λ (z : Thing). z.answer) (ap (put o (called (h o) name (Some label)) h) (sym at_g)
            ∙ put_same o (called (h o) name (Some label)) h)) has
            (forget_all (is_it ch.g) (rest (suc k) f.shape.operands)) (rest (suc k) t.operands)
            (tops_call name k has o (Some label) j ch.g ch.x ch.receiver ch.is at_g (group ch.x.of (Pending branches) false)))
            (frames.answers name k has ch.g ch.x from.0 branches offer.0 j ch.receiver ch.is from.2 offer.1 q)
          where
            by : by_label branches label ≡ Some fits.1
            by = ap (by_label branches) (some_is fits.2) ∙ fits.3

            placed_at : place (called (h o) name (Some label)) ≡ Some fits.1
            placed_at =
                place_called (h o) name (Some label) from.0 fits.1 offer.0 from.1 is_there
                (ap (λ (c : Target). Rattle.ts_tree.specs.Calls.led_by c (Some label)) q ∙ by)

    module _ (name : Name) (k : ℕ) (has : Result) (o : ℕ) (j : i ≡ Call name k has) (v : nth Plain t.operands k ≡ Ref o)
        (there : (h o).null ≡ false) (may_be : MayAnswer (h o) name None) (ch : CallHolds name k f) where
      at_g : o ≡ obj ch.g
      at_g = at_o name k has o None j v there may_be ch

      accords_now : Accords ch.x (h o)
      accords_now = was name k has o None j v there may_be ch

      abbrev from : (to : To) × (place (h o) ≡ Some to) × MayBe ch.x.element to
      from = s name k has o None j v there may_be ch

      abbrev offer : (m : Offer) × (offered_at ch.x.of from.0 name ≡ Some m)
      offer = m name k has o None j v there may_be ch

      placed_at : (to : To) → offer.0.target ≡ One to → place (called (h o) name None) ≡ Some to
      placed_at to q =
          place_called (h o) name None from.0 to offer.0 from.1 (offered name k has o None j v there may_be ch)
          (ap (λ (c : Target). Rattle.ts_tree.specs.Calls.led_by c None) q)

      placed_right : (to : To) → offer.0.target ≡ One to → IsGood (called (h o) name None)
      placed_right to q = record {
        right = called_right (h o) name None to (is_right name k has o None j v there may_be ch) (placed_at to q)
            (λ some. absurd (true≢false (sym some)));
        heard = λ l e. there;
      }

      accords_then : (to : To) → offer.0.target ≡ One to → Accords (group ch.x.of (At to) false) (called (h o) name None)
      accords_then to q =
          record { kind = kind_then name k has o None j v there may_be ch (At to) None; is = λ e. stands (placed_at to q) }

    pub calls : (name : Name) (k : ℕ) (has : Result) (o : ℕ) (ws : List Value) → i ≡ Call name k has → nth Plain t.operands k ≡ Ref o →
        (h o).null ≡ false → MayAnswer (h o) name None → Leaves o (h o).of has (rest (suc k) t.operands) ws → CallHolds name k f →
        Goes_to (suc at) (shape t.locals ws) (put o (called (h o) name None) h) n
    calls name k has o ws j v there may_be lefts ch =
        finish (offer name k has o j v there may_be ch).0.target refl (fits_it name k has o None j v there may_be ch)
        (fresh_of ch.x.of has) refl
      where
        lefts' : Leaves o ch.x.of has (rest (suc k) t.operands) ws
        lefts' = subst (λ c. Leaves o c has (rest (suc k) t.operands) ws) (sym (accords_now name k has o j v there may_be ch).kind.of) lefts

        finish : (target : Target) → (offer name k has o j v there may_be ch).0.target ≡ target → skeleton.Fits target None →
            (c : Option Class) → fresh_of ch.x.of has ≡ c → Goes_to (suc at) (shape t.locals ws) (put o (called (h o) name None) h) n
        finish (ByAnswer branches) q fits c e = none_some fits.2
        finish (One to) q fits None e =
            calls_to name k has o None j ch.g ch.x ch.receiver ch.is (at_g name k has o j v there may_be ch) (group ch.x.of (At to) false)
            (accords_then name k has o j v there may_be ch to q) (placed_right name k has o j v there may_be ch to q)
            (leaves ch.x.of has (forget_all (is_it ch.g) (rest (suc k) f.shape.operands))) ws
            (left_both (put o (called (h o) name None) h) (put ch.g (Some (group ch.x.of (At to) false)) f.groups) o ch.x.of has
            (forget_all (is_it ch.g) (rest (suc k) f.shape.operands)) (rest (suc k) t.operands) ws lefts' e
            (tops_call name k has o None j ch.g ch.x ch.receiver ch.is (at_g name k has o j v there may_be ch)
            (group ch.x.of (At to) false)))
            (frames.leads name k has ch.g ch.x (from name k has o j v there may_be ch).0 to
            (offer name k has o j v there may_be ch).0 j ch.receiver ch.is
            (from name k has o j v there may_be ch).2 (offer name k has o j v there may_be ch).1 q e)
        finish (One to) q fits (Some d) e = none_some (sym (left_none o ch.x.of has (rest (suc k) t.operands) ws lefts') ∙ e)

    pub calls_made : (name : Name) (k : ℕ) (has : Result) (c : Class) (null : Bool) (o : ℕ) → i ≡ Call name k has →
        nth Plain t.operands k ≡ Ref o →
        (h o).null ≡ false → MayAnswer (h o) name None → fresh_of (h o).of has ≡ Some c → CallHolds name k f →
        Goes_to (suc at) (shape t.locals (Ref n ∷ rest (suc k) t.operands)) (put n (handed null c) (put o (called (h o) name None) h))
        (suc n)
    calls_made name k has c null o j v there may_be e ch =
        finish (offer name k has o j v there may_be ch).0.target refl (fits_it name k has o None j v there may_be ch)
      where
        fresh' : fresh_of ch.x.of has ≡ Some c
        fresh' = ap (λ (z : Class). fresh_of z has) (accords_now name k has o j v there may_be ch).kind.of ∙ e

        finish : (target : Target) → (offer name k has o j v there may_be ch).0.target ≡ target → skeleton.Fits target None →
            Goes_to (suc at) (shape t.locals (Ref n ∷ rest (suc k) t.operands)) (put n (handed null c) (put o (called (h o) name None) h))
            (suc n)
        finish (ByAnswer branches) q fits = none_some fits.2
        finish (One to) q fits =
            goes_by h obj held hold mark n p i at f (suc at) (shape t.locals (Ref n ∷ rest (suc k) t.operands))
            (put n (handed null c) (put o (called (h o) name None) h)) (suc n)
            (added (new_group true c)
            (shape (forget_all (is_it ch.g) f.shape.locals) (forget_all (is_it ch.g) (rest (suc k) f.shape.operands)))
            (behind ch.g (group ch.x.of (At to) false) (forget_all (is_it ch.g) (rest (suc k) f.shape.operands)) f.shape f))
            (put f.count n obj) (frames.leads_made name k has c ch.g ch.x (from name k has o j v there may_be ch).0 to
            (offer name k has o j v there may_be ch).0 j ch.receiver ch.is (from name k has o j v there may_be ch).2
            (offer name k has o j v there may_be ch).1 q fresh')
            (then_made h obj held hold mark n p i at f t fit right low
            (behind ch.g (group ch.x.of (At to) false) (forget_all (is_it ch.g) (rest (suc k) f.shape.operands)) f.shape f) obj
            (shape t.locals (rest (suc k) t.operands)) (put o (called (h o) name None) h) true null c (λ e. refl)
            (calls_come name k has o None j ch.g ch.x ch.receiver ch.is (at_g name k has o j v there may_be ch)
            (group ch.x.of (At to) false)
            (accords_then name k has o j v there may_be ch to q) (placed_right name k has o j v there may_be ch to q)
            (forget_all (is_it ch.g) (rest (suc k) f.shape.operands)) (rest (suc k) t.operands)
            (tops_call name k has o None j ch.g ch.x ch.receiver ch.is (at_g name k has o j v there may_be ch)
            (group ch.x.of (At to) false))))
