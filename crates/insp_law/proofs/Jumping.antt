-- Tests and jumps of the frame that runs.
use Rattle.std.proofs.Common.{◌≡◌, ◌≢◌, ◌⊎◌, inl, inr, ℕ, ◌≤◌, Bool, true, false, true≢false, List, [], ◌∷◌, Option, Some, None}
use Rattle.std.proofs.Common.{refl, sym, ap, ◌∙◌, subst, arith}
use Rattle.std.specs.Prelude.{◌==◌, if◌then◌else◌, option_and_then}
use Rattle.std.specs.Str.{bytes_eq}
use Rattle.std.proofs.lemmas.Bool.Decides.{eqb_tells}
use Rattle.mg_text.specs.Call.{Name}
use Rattle.insp_rules.specs.Program.{Other, Null}
use Rattle.insp_rules.specs.Program.{Instruction, Program}
use Rattle.insp_rules.specs.Program.{number_of, goes_for, agree, Shape, nth, popped}
use Rattle.insp_rules.specs.Program as program
use Rattle.insp_rules.specs.Skeleton.{Value, Plain, Nil, Bit, Ref, Said, Thing, put}
use Rattle.insp_rules.specs.Skeleton.{listed, nulled}
use Rattle.insp_rules.specs.Skeleton.{Tells, either, Jumps}
use Rattle.insp_rules.specs.Skeleton as skeleton
use Rattle.insp_rules.specs.Frames.{Known, Bare, unknown, Object, Answer, Element, Group, Sight, group}
use Rattle.insp_rules.specs.Frames.{refined, with_shape, behind, asked, Way}
use Rattle.insp_rules.specs.Frames.{chosen, is_choice, is_below, without, surely}
use Rattle.insp_rules.specs.Frames as frames
use Rattle.insp_law.specs.Laws as laws
use Rattle.insp_rules.specs.Reached.{Both, more}
use Rattle.insp_rules.proofs.Lists.{some_is, none_some, Put, is, isnt, putting, is_below_is}
use Rattle.insp_law.proofs.Fitting.{Says, bare, object, answer, Is, Accords, kin, Fits, Fit, fresh, pops}
use Rattle.insp_law.proofs.Fitting.{or_none, operand}
use Rattle.insp_law.proofs.Carrying.{carried_fits}
use Rattle.insp_law.proofs.Calls.{told}
use Rattle.insp_law.proofs.Steps as steps
use Rattle.insp_law.proofs.Steps.{AllRight, regroup, put_was, put_goes, Goes, goes_by}
use Rattle.insp_law.proofs.Telling.{nulled_bears, may, agrees_with, asked_shows, shown_nothing, sign_none, chosen_goes, choice_is}
use Rattle.insp_law.proofs.Telling.{same_none}
use Rattle.insp_law.proofs.Telling.{AllNull, null_dead, null_sure, same_dead, same_sure, may_null, may_same, may_compare, Sign}
use Rattle.insp_law.proofs.Telling.{asks_sign, no_sign, signs, Chosen, asks_constant, no_constant, choices, Switched, asks_number}
use Rattle.insp_law.proofs.Telling.{no_number}
use Rattle.insp_law.proofs.Telling.{switches, listed_maps, Shows, null_are, same_are}

module _ (h : ℕ → Thing) (obj : ℕ → ℕ) (held : ℕ) (hold : ℕ → ℕ) (mark n : ℕ) (p : Program) (i : Instruction) (at : ℕ) (f : Sight) where
  abbrev pub Goes_to : (to : ℕ) → Shape Value → (ℕ → Thing) → ℕ → Type 0
  Goes_to to u h' n' = Goes h obj held hold mark n p i at f to u h' n'

  module _ (t : Shape Value) (fit : Fit h obj fresh held hold mark n f t) (right : AllRight h n) (low : mark ≤ n) where
    operand_of : (k : ℕ) → Says h obj f.groups fresh (nth unknown f.shape.operands k) (nth Plain t.operands k)
    operand_of k = operand h obj f.groups fresh f.shape t fit.fits k

    pops_of : (k : ℕ) → Fits h obj f.groups fresh (popped k f.shape) (popped k t)
    pops_of k = pops h obj f.groups fresh f.shape t k fit.fits

    plain : (to : ℕ) (s : Shape Known) (u : Shape Value) → Way p held i at f to (with_shape f s) → Fits h obj f.groups fresh s u →
        Goes_to to u h n
    plain = steps.plain h obj held hold mark n p i at f t fit right low

    -- an answer tells of its object
    refines : (to k : ℕ) (fits : Name → Bool) (label : Name) (g : ℕ) (x : Group) → fits label ≡ true → f.groups g ≡ Some x →
        (h (obj g)).answer ≡ Some label →
        ((e : Element) → refined fits x.element ≡ Some e → Way p held i at f to (asked g x e (popped k f.shape) f)) →
        Goes_to to (popped k t) h n
    refines to k fits label g x good e said way =
        goes_by h obj held hold mark n p i at f to (popped k t) h n (asked g x d.0 (popped k f.shape) f) obj (way d.0 d.1) (record {
          fit = record {
            fits = carried_fits h obj f.groups fresh h obj (put g (Some (group x.of d.0 x.null)) f.groups) fresh (record {
              live = put_goes f.groups g (group x.of d.0 x.null);
              same = λ a y l. refl;
              heard = λ a y l m z q. q;
            }) (popped k f.shape) (popped k t) (pops_of k);
            sits = regroup obj held hold mark n f.groups (put g (Some (group x.of d.0 x.null)) f.groups) f.count
                (put_was f.groups g x (group x.of d.0 x.null) e) (put_goes f.groups g (group x.of d.0 x.null)) fit.sits;
            agrees = λ a y l. inr (agrees a y l (putting g (Some (group x.of d.0 x.null)) f.groups a));
            kinds = λ a y l. (agrees a y l (putting g (Some (group x.of d.0 x.null)) f.groups a)).kind;
          };
          kept = λ a y l. inl (
            (put_goes f.groups g (group x.of d.0 x.null) a y l).0,
            (put_goes f.groups g (group x.of d.0 x.null) a y l).1,
            refl,
          );
          touches = λ o less. inl refl;
          kinds = λ o less. kin refl;
          more = omega arith;
          right = right;
        })
      where
        was : Accords x (h (obj g))
        was = or_none g (fit.agrees g x e)

        there : (h (obj g)).null ≡ false
        there = (right (obj g) (fit.sits.bounded g x e)).heard label said

        d : (d : Element) × (refined fits x.element ≡ Some d) × Is (h (obj g)) d
        d = told (h (obj g)) fits label x.element said good (was.is there)

        agrees : (a : ℕ) (y : Group) → put g (Some (group x.of d.0 x.null)) f.groups a ≡ Some y →
            Put g (Some (group x.of d.0 x.null)) f.groups a →
            Accords y (h (obj a))
        agrees a y l (is k b p) =
            subst (λ (z : Group). Accords z (h (obj a))) (some_is (sym p ∙ l))
            (subst (λ c. Accords (group x.of d.0 x.null) (h (obj c))) (sym k)
            (record { kind = record { of = was.kind.of; null = was.kind.null }; is = λ e. d.2 }))
        agrees a y l (isnt k b p) = or_none a (fit.agrees a y (sym p ∙ l))

    abbrev top : Known
    top = nth unknown f.shape.operands 0

    abbrev topv : Value
    topv = nth Plain t.operands 0

    abbrev next : Known
    next = nth unknown f.shape.operands 1

    abbrev nextv : Value
    nextv = nth Plain t.operands 1

    -- behind a test that showed that these are null
    module _ (gs os : List ℕ) (shows : Shows h obj held hold mark n f t fit gs os) where
      lists : (g : ℕ) (x : Group) → f.groups g ≡ Some x → listed (obj g) os ≡ listed g gs
      lists g x e = ap (listed (obj g)) shows.is ∙ listed_maps h obj held hold mark n f t fit g x e gs shows.live

      without_is : (g : ℕ) → listed g gs ≡ false → without held gs f.groups g ≡ f.groups g
      without_is g e =
          ap (λ (b : Bool). if is_below held g then f.groups g else (if b then None else f.groups g)) e ∙ go (is_below held g)
        where
          go : (b : Bool) → (if b then f.groups g else f.groups g) ≡ f.groups g
          go true = refl
          go false = refl

      without_was : (g : ℕ) (y : Group) → without held gs f.groups g ≡ Some y → f.groups g ≡ Some y
      without_was g y e = go (is_below held g) (listed g gs) e
        where
          go : (b c : Bool) → (if b then f.groups g else (if c then None else f.groups g)) ≡ Some y → f.groups g ≡ Some y
          go true c e = e
          go false true e = none_some e
          go false false e = e

      nulled_says : {xs : List Known} {vs : List Value} → Both (Says h obj f.groups fresh) xs vs →
          Both (Says h obj (without held gs f.groups) fresh) (frames.nulled gs xs) (nulled os vs)
      nulled_says Rattle.insp_rules.specs.Reached.none = Rattle.insp_rules.specs.Reached.none
      nulled_says (more {ys = vs} (bare r) rs) =
          subst (Both (Says h obj (without held gs f.groups) fresh) _) (sym (nulled_bears os vs r)) (more (bare r) (nulled_says rs))
      nulled_says (more {xs = xs} {ys = vs} (object {g = g} {o = o} x e k) rs) =
          go (listed g gs) refl (ap (λ c. listed c os) k ∙ lists g x e) (nulled_says rs)
        where
          go : (b : Bool) → listed g gs ≡ b → listed o os ≡ listed g gs →
              Both (Says h obj (without held gs f.groups) fresh) (frames.nulled gs xs) (nulled os vs) →
              Both (Says h obj (without held gs f.groups) fresh) ((if listed g gs then Bare Null else Object g) ∷ frames.nulled gs xs)
              ((if listed o os then Nil else Ref o) ∷ nulled os vs)
          go b q l rs =
              subst (λ (z : Bool). Both (Says h obj (without held gs f.groups) fresh)
              ((if listed g gs then Bare Null else Object g) ∷ frames.nulled gs xs)
              ((if z then Nil else Ref o) ∷ nulled os vs)) (sym (l ∙ q))
              (subst (λ (z : Bool). Both (Says h obj (without held gs f.groups) fresh)
              ((if z then Bare Null else Object g) ∷ frames.nulled gs xs)
              ((if b then Nil else Ref o) ∷ nulled os vs)) (sym q) (pick b q))
            where
              pick : (b : Bool) → listed g gs ≡ b → Both (Says h obj (without held gs f.groups) fresh)
                  ((if b then Bare Null else Object g) ∷ frames.nulled gs xs) ((if b then Nil else Ref o) ∷ nulled os vs)
              pick true q = more (bare laws.null) rs
              pick false q = more (object x (without_is g q ∙ e) k) rs
      nulled_says (more {xs = xs} {ys = vs} (answer {g = g} {form = form} {label = label} x e k) rs) =
          go (listed g gs) refl (nulled_says rs)
        where
          go : (b : Bool) → listed g gs ≡ b → Both (Says h obj (without held gs f.groups) fresh) (frames.nulled gs xs) (nulled os vs) →
              Both (Says h obj (without held gs f.groups) fresh) ((if listed g gs then Bare Other else Answer g form) ∷ frames.nulled gs xs)
              (Said form label ∷ nulled os vs)
          go true q rs =
              subst (λ (z : Bool). Both (Says h obj (without held gs f.groups) fresh)
              ((if z then Bare Other else Answer g form) ∷ frames.nulled gs xs) (Said form label ∷ nulled os vs)) (sym q)
              (more (bare (laws.other refl)) rs)
          go false q rs =
              subst (λ (z : Bool). Both (Says h obj (without held gs f.groups) fresh)
              ((if z then Bare Other else Answer g form) ∷ frames.nulled gs xs) (Said form label ∷ nulled os vs)) (sym q)
              (more (answer x (without_is g q ∙ e) k) rs)

      shown_null : (to k : ℕ) → AllNull h os → Way p held i at f to (frames.shown held true gs (popped k f.shape) f) →
          Goes_to to (skeleton.shown true os (popped k t)) h n
      shown_null to k nulls way =
          goes_by h obj held hold mark n p i at f to (skeleton.shown true os (popped k t)) h n
          (frames.shown held true gs (popped k f.shape) f) obj way (record {
            fit = record {
              fits = record { locals = nulled_says (pops_of k).locals; operands = nulled_says (pops_of k).operands };
              sits = record {
                within = λ g x e. fit.sits.within g x (without_was g x e);
                sits = λ g x e. fit.sits.sits g x (without_was g x e);
                bounded = λ g x e. fit.sits.bounded g x (without_was g x e);
                apart = λ a b x y d e q. fit.sits.apart a b x y (without_was a x d) (without_was b y e) q;
                holds = λ g less. (
                  (fit.sits.holds g less).0,
                  ap (λ (b : Bool). if b then f.groups g else (if listed g gs then None else f.groups g)) (is_below_is held g less)
                      ∙ (fit.sits.holds g less).1,
                );
              };
              agrees = λ g x e. fit.agrees g x (without_was g x e);
              kinds = λ g x e. fit.kinds g x (without_was g x e);
            };
            kept = λ g x e. keep g x e (listed g gs) refl;
            touches = λ o less. inl refl;
            kinds = λ o less. kin refl;
            more = omega arith;
            right = right;
          })
        where
          keep : (g : ℕ) (x : Group) → f.groups g ≡ Some x → (b : Bool) → listed g gs ≡ b →
              ((y : Group) × (without held gs f.groups g ≡ Some y) × (obj g ≡ obj g)) ⊎ ((h (obj g)).null ≡ true)
          keep g x e true q = inr (nulls (obj g) (lists g x e ∙ q))
          keep g x e false q = inl (x, without_is g q ∙ e, refl)

    data Sure (g a : ℕ) (x y : Group) : Type 0 where
      same : y ≡ x → Sure g a x y
      sure : a ≡ g → y ≡ group x.of x.element false → Sure g a x y

    -- behind one that showed that this one isn't
    shown_there : (to k g : ℕ) → (h (obj g)).null ≡ false → Way p held i at f to (frames.shown held false (g ∷ []) (popped k f.shape) f) →
        Goes_to to (popped k t) h n
    shown_there to k g there way =
        goes_by h obj held hold mark n p i at f to (popped k t) h n (frames.shown held false (g ∷ []) (popped k f.shape) f) obj way
        (record {
          fit = record {
            fits = carried_fits h obj f.groups fresh h obj (surely (g ∷ []) f.groups) fresh (record {
              live = goes;
              same = λ a y l. refl;
              heard = λ a y l m z q. q;
            }) (popped k f.shape) (popped k t) (pops_of k);
            sits = regroup obj held hold mark n f.groups (surely (g ∷ []) f.groups) f.count (λ a y e. let w = was a y e in (w.0, w.1)) goes
                fit.sits;
            agrees = λ a y e. inr (agree_now a y e);
            kinds = λ a y e. (agree_now a y e).kind;
          };
          kept = λ a y l. inl ((goes a y l).0, (goes a y l).1, refl);
          touches = λ o less. inl refl;
          kinds = λ o less. kin refl;
          more = omega arith;
          right = right;
        })
      where
        was : (a : ℕ) (y : Group) → surely (g ∷ []) f.groups a ≡ Some y → (x : Group) × (f.groups a ≡ Some x) × Sure g a x y
        was a y e = go (eqb_tells a g) e
          where
            go : ((a == g) ≡ true) × (a ≡ g) ⊎ ((a == g) ≡ false) × (a ≢ g) → surely (g ∷ []) f.groups a ≡ Some y →
                (x : Group) × (f.groups a ≡ Some x) × Sure g a x y
            go (inr s) e = (
              y,
              sym (ap (λ (b : Bool). if b then option_and_then (λ (x : Group). Some (group x.of x.element false)) (f.groups a)
                  else f.groups a) s.0) ∙ e,
              same refl,
            )
            go (inl s) e =
                pick (f.groups a) refl (sym (ap (λ (b : Bool). if b then option_and_then (λ (x : Group). Some (group x.of x.element false))
                (f.groups a) else f.groups a) s.0) ∙ e)
              where
                pick : (o : Option Group) → f.groups a ≡ o → option_and_then (λ (x : Group). Some (group x.of x.element false)) o ≡ Some y →
                    (x : Group) × (f.groups a ≡ Some x) × Sure g a x y
                pick None d e = none_some e
                pick (Some x) d e = (x, d, sure s.1 (sym (some_is e)))

        goes : (a : ℕ) (x : Group) → f.groups a ≡ Some x → (y : Group) × (surely (g ∷ []) f.groups a ≡ Some y)
        goes a x e = go (a == g) refl
          where
            go : (b : Bool) → (a == g) ≡ b → (y : Group) × (surely (g ∷ []) f.groups a ≡ Some y)
            go true q = (
              group x.of x.element false,
              ap (λ (b : Bool). if b then option_and_then (λ (x : Group). Some (group x.of x.element false)) (f.groups a) else f.groups a) q
                  ∙ ap (option_and_then (λ (x : Group). Some (group x.of x.element false))) e,
            )
            go false q = (
              x,
              ap (λ (b : Bool). if b then option_and_then (λ (x : Group). Some (group x.of x.element false))
                  (f.groups a) else f.groups a) q ∙ e,
            )

        agree_now : (a : ℕ) (y : Group) → surely (g ∷ []) f.groups a ≡ Some y → Accords y (h (obj a))
        agree_now a y e = go (was a y e)
          where
            go : (x : Group) × (f.groups a ≡ Some x) × Sure g a x y → Accords y (h (obj a))
            go (x, l, same q) = subst (λ z. Accords z (h (obj a))) (sym q) (or_none a (fit.agrees a x l))
            go (x, l, sure w q) =
                let c = or_none a (fit.agrees a x l) in
                subst (λ z. Accords z (h (obj a))) (sym q) (record {
                  kind = record {
                    of = c.kind.of;
                    null = λ d. absurd (true≢false (sym d ∙ ap (λ b. (h (obj b)).null) w ∙ there));
                  };
                  is = c.is;
                })

    -- behind any of them
    shown_by : (to k : ℕ) (b : Bool) (gs os : List ℕ) → Shows h obj held hold mark n f t fit gs os → (b ≡ true → AllNull h os) →
        (b ≡ false → (o : ℕ) → os ≡ o ∷ [] → (h o).null ≡ false) →
        Way p held i at f to (frames.shown held b gs (popped k f.shape) f) → Goes_to to (skeleton.shown b os (popped k t)) h n
    shown_by to k true gs os shows nulls sures way = shown_null gs os shows to k (nulls refl) way
    shown_by to k false [] os shows nulls sures way = plain to (popped k f.shape) (popped k t) way (pops_of k)
    shown_by to k false (g ∷ []) os shows nulls sures way = shown_there to k g (sures refl (obj g) shows.is) way
    shown_by to k false (g ∷ m ∷ gs) os shows nulls sures way = plain to (popped k f.shape) (popped k t) way (pops_of k)

    pub jumped : (to : ℕ) (u : Shape Value) → Jumps p h i at t to u → Goes_to to u h n
    jumped to u (skeleton.go there e) = plain to f.shape t (frames.go there e) fit.fits
    jumped to u (skeleton.either there b e) = plain (program.way b there at) f.shape t (frames.either there b e) fit.fits
    jumped to u (skeleton.null q there b e s) =
        shown_by (program.way (agree q b) there at) 1 b (frames.null_shows top) (skeleton.null_shows topv)
        (null_are h obj held hold mark n f t fit top topv (operand_of 0))
        (λ z. null_dead h topv (subst (Tells (skeleton.is_nil h topv)) z s))
        (λ z. null_sure h topv (subst (Tells (skeleton.is_nil h topv)) z s))
        (frames.null q there b e (may (frames.is_null f.groups top) (skeleton.is_nil h topv) b
        (may_null h obj held hold mark n f t fit top topv (operand_of 0)) s))
    jumped to u (skeleton.same q there b e asked_not s) =
        go (choices h obj held hold mark n f t fit top next topv nextv (operand_of 0) (operand_of 1))
      where
        go : Chosen h obj held hold mark n f t fit (nth unknown f.shape.operands 0) (nth unknown f.shape.operands 1)
            (nth Plain t.operands 0) (nth Plain t.operands 1) →
            Goes_to (program.way (agree q b) there at)
            (skeleton.shown b (skeleton.same_shows (nth Plain t.operands 0) (nth Plain t.operands 1)) (popped 2 t)) h n
        go (asks_constant g l o x y z) = none_some (sym asked_not ∙ y)
        go (no_constant x) =
            shown_by (program.way (agree q b) there at) 2 b (frames.same_shows top next) (skeleton.same_shows topv nextv)
            (same_are h obj held hold mark n f t fit top next topv nextv (operand_of 0) (operand_of 1))
            (λ z. same_dead h topv nextv (subst (Tells (skeleton.are_same h topv nextv)) z s))
            (λ z. same_sure h topv nextv (subst (Tells (skeleton.are_same h topv nextv)) z s))
            (frames.same q there b e x (may (frames.are_same f.groups top next) (skeleton.are_same h topv nextv) b
            (may_same h obj held hold mark n f t fit top next topv nextv (operand_of 0) (operand_of 1)) s))
    jumped to u (skeleton.constant q there label other e asked_for) =
        go (choices h obj held hold mark n f t fit top (nth unknown f.shape.operands 1) topv (nth Plain t.operands 1) (operand_of 0)
        (operand_of 1))
      where
        go : Chosen h obj held hold mark n f t fit (nth unknown f.shape.operands 0) (nth unknown f.shape.operands 1)
            (nth Plain t.operands 0) (nth Plain t.operands 1) →
            Goes_to (program.way (agree q (bytes_eq label other)) there at) (popped 2 t) h n
        go (no_constant x) =
            subst (λ u. Goes_to (program.way (agree q (bytes_eq label other)) there at) u h n)
            (ap (λ os. skeleton.shown (bytes_eq label other) os (popped 2 t)) (asked_shows topv nextv (label, other) asked_for)
            ∙ shown_nothing (bytes_eq label other) (popped 2 t))
            (shown_by (program.way (agree q (bytes_eq label other)) there at) 2 (bytes_eq label other) (frames.same_shows top next)
            (skeleton.same_shows topv nextv) (same_are h obj held hold mark n f t fit top next topv nextv (operand_of 0) (operand_of 1))
            (λ z. same_dead h topv nextv (subst (Tells (skeleton.are_same h topv nextv)) z tells))
            (λ z. same_sure h topv nextv (subst (Tells (skeleton.are_same h topv nextv)) z tells))
            (frames.same q there (bytes_eq label other) e x (may (frames.are_same f.groups top next) (skeleton.are_same h topv nextv)
            (bytes_eq label other) (may_same h obj held hold mark n f t fit top next topv nextv (operand_of 0) (operand_of 1)) tells)))
          where
            tells : Tells (skeleton.are_same h (nth Plain t.operands 0) (nth Plain t.operands 1)) (bytes_eq label other)
            tells = subst (λ z. Tells z (bytes_eq label other)) (sym (same_none h topv nextv (label, other) asked_for)) either
        go (asks_constant g l o x y z) =
            let w : (l, o) ≡ (label, other) = some_is (sym y ∙ asked_for) in
            let l_is : l ≡ label = ap (λ (c : Name × Name). c.0) w in
            let o_is : o ≡ other = ap (λ (c : Name × Name). c.1) w in
            refines (program.way (agree q (bytes_eq label other)) there at) 2
            (λ m. agree (bytes_eq label other) (bytes_eq m other)) label g z.x
            (agrees_with (bytes_eq label other)) z.live (z.said ∙ ap (λ c. Some c) l_is)
            (λ d r. frames.constant q there (bytes_eq label other) g other z.x d e (x ∙ ap (λ c. Some (g, c)) o_is) z.live r)
    jumped to u (skeleton.sign c there b e asked_not s) = go (signs h obj held hold mark n f t fit c top topv (operand_of 0))
      where
        go : Sign h obj held hold mark n f t fit c (nth unknown f.shape.operands 0) (nth Plain t.operands 0) →
            Goes_to (program.way b there at) (popped 1 t) h n
        go (asks_sign g l x y z) = none_some (sym asked_not ∙ y)
        go (no_sign x) =
            plain (program.way b there at) (popped 1 f.shape) (popped 1 t)
            (frames.sign c there b e x (may (frames.comparing c top (Bare (program.Bit false))) (skeleton.comparing c topv (Bit false)) b
            (may_compare h obj held hold mark n f t fit c top (Bare (program.Bit false)) topv (Bit false) (operand_of 0)
            (bare laws.bit)) s)) (pops_of 1)
    jumped to u (skeleton.truth c there b zero_is label e asked_for tells good) =
        go (signs h obj held hold mark n f t fit c top topv (operand_of 0))
      where
        go : Sign h obj held hold mark n f t fit c (nth unknown f.shape.operands 0) (nth Plain t.operands 0) →
            Goes_to (program.way b there at) (popped 1 t) h n
        go (no_sign x) =
            plain (program.way b there at) (popped 1 f.shape) (popped 1 t)
            (frames.sign c there b e x (may (frames.comparing c top (Bare (program.Bit false))) (skeleton.comparing c topv (Bit false)) b
            (may_compare h obj held hold mark n f t fit c top (Bare (program.Bit false)) topv (Bit false) (operand_of 0) (bare laws.bit))
            (subst (λ z. Tells z b) (sym (sign_none c topv label asked_for)) either))) (pops_of 1)
        go (asks_sign g l x y z) =
            let l_is : l ≡ label = some_is (sym y ∙ asked_for) in
            refines (program.way b there at) 1 (λ m. bytes_eq m (program.truth zero_is)) label g z.x good z.live
            (z.said ∙ ap (λ c. Some c) l_is) (λ d r. frames.truth c there b zero_is g z.x d e x tells z.live r)
    jumped to u (skeleton.numbers c there b e s) =
        plain (program.way b there at) (popped 2 f.shape) (popped 2 t)
        (frames.numbers c there b e (may (frames.comparing c (nth unknown f.shape.operands 1) top)
        (skeleton.comparing c (nth Plain t.operands 1) topv) b
        (may_compare h obj held hold mark n f t fit c (nth unknown f.shape.operands 1) top (nth Plain t.operands 1) topv (operand_of 1)
        (operand_of 0)) s)) (pops_of 2)
    jumped to u (skeleton.switch arms other number e asked_not) = go (switches h obj held hold mark n f t fit top topv (operand_of 0))
      where
        go : Switched h obj held hold mark n f t fit (nth unknown f.shape.operands 0) (nth Plain t.operands 0) →
            Goes_to (goes_for arms other number) (popped 1 t) h n
        go (asks_number g m l x y z) = none_some (sym asked_not ∙ y)
        go (no_number x) = plain (goes_for arms other number) (popped 1 f.shape) (popped 1 t) (frames.switch arms other number e x)
            (pops_of 1)
    jumped to u (skeleton.mapped arms other m label e asked_for) = go (switches h obj held hold mark n f t fit top topv (operand_of 0))
      where
        number : ℕ
        number = number_of p m label

        go : Switched h obj held hold mark n f t fit (nth unknown f.shape.operands 0) (nth Plain t.operands 0) →
            Goes_to (goes_for arms other (Some (number_of p m label))) (popped 1 t) h n
        go (no_number x) =
            plain (goes_for arms other (Some number)) (popped 1 f.shape) (popped 1 t) (frames.switch arms other (Some number) e x)
            (pops_of 1)
        go (asks_number g m' l x y z) =
            let w : (m', l) ≡ (m, label) = some_is (sym y ∙ asked_for) in
            let m_is : m' ≡ m = ap (λ (c : ℕ × Name). c.0) w in
            let l_is : l ≡ label = ap (λ (c : ℕ × Name). c.1) w in
            subst (λ to. Goes_to to (popped 1 t) h n) (chosen_goes arms other number)
            (refines (goes_for arms other (chosen arms number)) 1
            (λ l. is_choice (chosen arms number) (chosen arms (number_of p m l))) label g z.x (choice_is (chosen arms number)) z.live
            (z.said ∙ ap (λ c. Some c) l_is)
            (λ d r. frames.mapped arms other g m (chosen arms number) z.x d e (x ∙ ap (λ d. Some (g, d)) m_is) z.live r))
