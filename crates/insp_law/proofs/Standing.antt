-- What holds at each moment of a run, and that each step keeps it.
use Rattle.std.proofs.Common.{◌≡◌, ◌⊎◌, inl, inr, ℕ, ◌<◌, ◌≤◌, true, true≢false, List, [], ◌∷◌, Option, Some}
use Rattle.std.proofs.Common.{refl, sym, ap, ◌∙◌, subst, arith}
use Rattle.insp_rules.specs.Program.{Instruction, CallIn, CallOut, taken, Program, locals_at, Shape, first}
use Rattle.insp_rules.specs.Program.{filled, turned, begun}
use Rattle.insp_rules.specs.Skeleton.{Value, Plain, Nil, Bit, Map, Constant, Ref, Again, Another, Said, is_loose, Thing, Frame, State}
use Rattle.insp_rules.specs.Skeleton.{frame, state}
use Rattle.insp_rules.specs.Skeleton.{values, IsNoCallIn, instruction_at}
use Rattle.insp_rules.specs.Skeleton as skeleton
use Rattle.insp_rules.specs.Frames.{Known, unknown, Group, Sight, known_among, seen_at}
use Rattle.insp_rules.specs.Reached.{Both, none, more, Stands, Context, Numbering, Takes, Renames}
use Rattle.insp_rules.specs.Reached.{handed_over, Reached, Outside, Found, entry, outside_context}
use Rattle.insp_rules.specs.Reached as reached
use Rattle.insp_rules.specs.Reached.{IsRoot}
use Rattle.insp_law.specs.Laws.{IsRight, Unheld, Interrupts}
use Rattle.insp_law.specs.Laws as laws
use Rattle.insp_rules.proofs.Lists.{none_some, both_map, both_first, both_filled, both_turned}
use Rattle.insp_law.proofs.Seeing.{seen, one_done}
use Rattle.insp_law.proofs.Fitting.{Says, bare, object, answer, others, Kin, kin, Fit, Had, fresh, or_none}
use Rattle.insp_law.proofs.Carrying.{both_over, carried_fits, heap_fit, renamed, stood}
use Rattle.insp_law.proofs.Steps.{AllRight, Goes}
use Rattle.insp_law.proofs.Among.{fit_whole, known_live}

module _ (p : Program) (numbering : Numbering) (roots : List Context) where
  abbrev pub Known_to_be : Context → ℕ → Sight → Type 0
  Known_to_be c at f = Found p numbering roots (Reached c at f)

  abbrev pub From_outside : Context → Type 0
  From_outside c = Found p numbering roots (Outside c)

  -- the frames that wait below one of this context: each waits at the call that this context is of. What the objects that it handed over do
  -- meanwhile isn't known to it; all its objects have numbers below the mark
  pub data Below (h : ℕ → Thing) : Context → (ℕ → ℕ) → ℕ → List Frame → Type 0 where
    bottom : {c : Context} {hold : ℕ → ℕ} {mark : ℕ} → From_outside c → c.held ≡ 0 → Below h c hold mark []
    waits : {c : Context} {f : Sight} {hold hold' : ℕ → ℕ} {mark mark' : ℕ} {obj : ℕ → ℕ} {top : Frame} {fs : List Frame}
        (method k words : ℕ) →
        Known_to_be c top.at f → top.method ≡ c.method → seen_at p c.method top.at f ≡ Some (CallIn method k words) →
        Fit h obj (handed_over (first k f.shape.operands)) c.held hold mark mark' f top.shape → Had c.held f →
        (takes : Takes method (first k f.shape.operands) f (numbering.context method (first k f.shape.operands) f)) →
        ((i : ℕ) → i < (numbering.context method (first k f.shape.operands) f).held → hold' i ≡ obj (takes.old i)) → mark ≤ mark' →
        Below h c hold mark fs → Below h (numbering.context method (first k f.shape.operands) f) hold' mark' (top ∷ fs)
    -- one that was interrupted: a method was called from outside
    interrupted : {c c' : Context} {f : Sight} {hold hold' : ℕ → ℕ} {mark mark' : ℕ} {obj : ℕ → ℕ} {top : Frame} {fs : List Frame}
        (i : Instruction) → From_outside c' → c'.held ≡ 0 → Known_to_be c top.at f → top.method ≡ c.method →
        seen_at p c.method top.at f ≡ Some i → IsNoCallIn i → Fit h obj fresh c.held hold mark mark' f top.shape → Had c.held f →
        mark ≤ mark' →
        Below h c hold mark fs → Below h c' hold' mark' (top ∷ fs)

  pub data Inv : State → Type 0 where
    over : {h : ℕ → Thing} {n : ℕ} → AllRight h n → Inv (state [] h n)
    runs : {c : Context} {f : Sight} {hold : ℕ → ℕ} {mark : ℕ} {obj : ℕ → ℕ} {top : Frame} {fs : List Frame} {h : ℕ → Thing} {n : ℕ} →
        Known_to_be c top.at f → top.method ≡ c.method → Fit h obj fresh c.held hold mark n f top.shape → Had c.held f →
        Below h c hold mark fs → mark ≤ n → AllRight h n → Inv (state (top ∷ fs) h n)

  -- a frame that is numbered anew
  pub runs_tidy : (h : ℕ → Thing) (n : ℕ) (c : Context) (f : Sight) (hold : ℕ → ℕ) (mark : ℕ) (obj : ℕ → ℕ) (top : Frame)
      (fs : List Frame) →
      Known_to_be c top.at (numbering.tidy c.held f) → top.method ≡ c.method → Fit h obj fresh c.held hold mark n f top.shape →
      Below h c hold mark fs → mark ≤ n → AllRight h n → Inv (state (top ∷ fs) h n)
  runs_tidy h n c f hold mark obj top fs r same fit below low right =
      runs r same (renamed h obj c.held hold mark n f (numbering.tidy c.held f) top.shape tidies fit) (λ a x d over. tidies.had a x d over)
      below low right
    where
      tidies : Renames c.held f (numbering.tidy c.held f)
      tidies = numbering.renames c.held f (fit_whole h obj fresh c.held hold mark n f top.shape fit)

  -- ---- what the frame that runs does with objects leaves the others

  pub below_keeps : (h h' : ℕ → Thing) {c : Context} {hold : ℕ → ℕ} {mark : ℕ} {fs : List Frame} → Below h c hold mark fs →
      ((o : ℕ) → o < mark → (h' o ≡ h o) ⊎ ((i : ℕ) × (i < c.held) × (o ≡ hold i))) → ((o : ℕ) → o < mark → Kin (h' o) (h o)) →
      Below h' c hold mark fs
  below_keeps h h' (bottom outer e) same kinds = bottom outer e
  below_keeps h h' (interrupted {c = c} {c' = c'} {f = f} {hold = hold} {hold' = hold'} {mark = mark} {mark' = mark'} {obj = obj} {top =
      top} i outer
      none_held r m e no_call fit had le below) same kinds =
      interrupted i outer none_held r m e no_call
      (heap_fit h h' obj fresh c.held hold mark mark' mark' f top.shape (omega arith)
      (λ g x l. inr (stays (obj g) (same (obj g) (fit.sits.bounded g x l)))) (λ g x l. kinds (obj g) (fit.sits.bounded g x l)) fit)
      had le (below_keeps h h' below (λ o less. inl (stays o (same o (omega (arith, less, le)))))
      (λ o less. kinds o (omega (arith, less, le))))
    where
      stays : (o : ℕ) → (h' o ≡ h o) ⊎ ((i : ℕ) × (i < c'.held) × (o ≡ hold' i)) → h' o ≡ h o
      stays o (inl s) = s
      stays o (inr s) = let l = s.1 in absurd (omega (arith, l, none_held))
  below_keeps h h' (waits {c = c} {f = f} {hold = hold} {hold' = hold'} {mark = mark} {mark' = mark'} {obj = obj} {top = top} method k
      words r m e fit had
      takes held le below) same kinds =
      waits method k words r m e
      (heap_fit h h' obj (handed_over (first k f.shape.operands)) c.held hold mark mark' mark' f top.shape (omega arith)
      (λ g x l. stays g x l (same (obj g) (fit.sits.bounded g x l))) (λ g x l. kinds (obj g) (fit.sits.bounded g x l)) fit)
      had takes held le (below_keeps h h' below (λ o less. deeper o less (same o (omega (arith, less, le))))
      (λ o less. kinds o (omega (arith, less, le))))
    where
      stays : (g : ℕ) (x : Group) → f.groups g ≡ Some x →
          (h' (obj g) ≡ h (obj g)) ⊎ ((i : ℕ) × (i < (numbering.context method (first k f.shape.operands) f).held) × (obj g ≡ hold' i)) →
          (known_among g (first k f.shape.operands) ≡ true) ⊎ (h' (obj g) ≡ h (obj g))
      stays g x l (inl s) = inr s
      stays g x l (inr s) =
          let z = takes.all s.0 s.1 in
          let q : takes.old s.0 ≡ g =
          fit.sits.apart (takes.old s.0) g z.0 x (takes.live s.0 z.0 z.1) l (sym (held s.0 s.1) ∙ sym s.2) in
          inl (subst (λ a. known_among a (first k f.shape.operands) ≡ true) q (takes.handed s.0 s.1))

      deeper : (o : ℕ) → o < mark →
          (h' o ≡ h o) ⊎ ((i : ℕ) × (i < (numbering.context method (first k f.shape.operands) f).held) × (o ≡ hold' i)) →
          (h' o ≡ h o) ⊎ ((i : ℕ) × (i < c.held) × (o ≡ hold i))
      deeper o less (inl s) = inl s
      deeper o less (inr s) =
          let z = takes.all s.0 s.1 in
          pick (fit.sits.sits (takes.old s.0) z.0 (takes.live s.0 z.0 z.1)) (s.2 ∙ held s.0 s.1)
        where
          pick : {a : ℕ} → (a < c.held) × (obj a ≡ hold a) ⊎ (c.held ≤ a) × (mark ≤ obj a) → o ≡ obj a →
              (h' o ≡ h o) ⊎ ((i : ℕ) × (i < c.held) × (o ≡ hold i))
          pick {a} (inl t) q = inr (a, t.0, q ∙ t.1)
          pick {a} (inr t) q = let l = t.1 in absurd (omega (arith, less, l, q))

  module _ (h : ℕ → Thing) (n : ℕ) (c : Context) (f : Sight) (hold : ℕ → ℕ) (mark : ℕ) (obj : ℕ → ℕ) (m at : ℕ) (t : Shape Value)
      (fs : List Frame) (r : Known_to_be c at f) (same : m ≡ c.method) (fit : Fit h obj fresh c.held hold mark n f t) (had : Had c.held f)
      (below : Below h c hold mark fs) (low : mark ≤ n) (right : AllRight h n) where
    -- one instruction
    pub goes : (i : Instruction) → instruction_at p h m at t ≡ Some i → (to : ℕ) (u : Shape Value) (h' : ℕ → Thing) (n' : ℕ) →
        Goes h obj c.held hold mark n p i at f to u h' n' → Inv (state (frame m to u ∷ fs) h' n')
    goes i e to u h' n' g =
        runs_tidy h' n' c g.after hold mark g.objs (frame m to u) fs
        (Found.steps i r (seen fit p m c.method at same e) g.way) same g.fit
        (below_keeps h h' below (λ o less. touched o less (g.touches o (omega (arith, less, low))))
        (λ o less. g.kinds o (omega (arith, less, low))))
        (let l = g.more in omega (arith, low, l)) g.right
      where
        touched : (o : ℕ) → o < mark → (h' o ≡ h o) ⊎ ((a : ℕ) × (x : Group) × (f.groups a ≡ Some x) × (o ≡ obj a)) →
            (h' o ≡ h o) ⊎ ((i : ℕ) × (i < c.held) × (o ≡ hold i))
        touched o less (inl s) = inl s
        touched o less (inr s) = pick (fit.sits.sits s.0 s.1 s.2)
          where
            pick : (s.0 < c.held) × (obj s.0 ≡ hold s.0) ⊎ (c.held ≤ s.0) × (mark ≤ obj s.0) →
                (h' o ≡ h o) ⊎ ((i : ℕ) × (i < c.held) × (o ≡ hold i))
            pick (inl q) = inr (s.0, q.0, s.3 ∙ q.1)
            pick (inr q) = let l = q.1 in let w = s.3 in absurd (omega (arith, less, l, w))

    -- a call of a method of the program
    pub enters : (callee k words : ℕ) → instruction_at p h m at t ≡ Some (CallIn callee k words) →
        Inv (state (frame callee 0 (begun values (locals_at p callee) (first k t.operands)) ∷ frame m at t ∷ fs) h n)
    enters callee k words e =
        runs_tidy h n d (entry p d) (λ i. obj (takes.old i)) n (λ i. obj (takes.old i))
        (frame callee 0 (begun values (locals_at p callee) (first k t.operands))) (frame m at t ∷ fs)
        (Found.begins (Found.enters callee k words r here)) (sym takes.is)
        (record {
          fits = record {
            locals = subst (λ j. Both (Says h objs d.groups fresh) (turned d.args (filled unknown (locals_at p j) []))
                (turned (first k t.operands) (filled Plain (locals_at p callee) []))) (sym takes.is)
                (both_turned (Says h objs d.groups fresh) args
                (both_filled (Says h objs d.groups fresh) unknown Plain (others h objs d.groups fresh) (locals_at p callee) none));
            operands = none;
          };
          sits = record {
            within = takes.within;
            sits = λ a x l. inl (takes.within a x l, refl);
            bounded = λ a x l. fit.sits.bounded (takes.old a) x (takes.live a x l);
            apart = λ a b x y l q z.
                takes.apart a b (takes.within a x l) (takes.within b y q)
                (fit.sits.apart (takes.old a) (takes.old b) x y (takes.live a x l) (takes.live b y q) z);
            holds = takes.all;
          };
          agrees = λ a x l. fit.agrees (takes.old a) x (takes.live a x l);
          kinds = λ a x l. fit.kinds (takes.old a) x (takes.live a x l);
        })
        (waits callee k words r same here (record {
          fits = carried_fits h obj f.groups fresh h obj f.groups (handed_over xs) (record {
            live = λ g x l. (x, l);
            same = λ g x l. refl;
            heard = λ g x label l q z. inr (or_none g z);
          }) f.shape t fit.fits;
          sits = fit.sits;
          agrees = λ g x l. inr (or_none g (fit.agrees g x l));
          kinds = fit.kinds;
        }) had takes (λ i less. refl) low below)
        (omega arith) right
      where
        here : seen_at p c.method at f ≡ Some (CallIn callee k words)
        here = seen fit p m c.method at same e

        xs : List Known
        xs = first k f.shape.operands

        d : Context
        d = numbering.context callee (first k f.shape.operands) f

        takes : Takes callee (first k f.shape.operands) f (numbering.context callee (first k f.shape.operands) f)
        takes = numbering.takes callee (first k f.shape.operands) f
            (λ g l. known_live h obj f.groups fresh g (both_first (Says h obj f.groups fresh) k fit.fits.operands) l)

        objs : ℕ → ℕ
        objs = λ i. obj (takes.old i)

        args : Both (Says h (λ i. obj (takes.old i)) (numbering.context callee (first k f.shape.operands) f).groups fresh)
            (numbering.context callee (first k f.shape.operands) f).args (first k t.operands)
        args = both_over (Stands takes.old (numbering.context callee (first k f.shape.operands) f).groups) (Says h obj f.groups fresh)
            (Says h (λ i. obj (takes.old i)) (numbering.context callee (first k f.shape.operands) f).groups fresh)
            (stood h obj f.groups (numbering.context callee (first k f.shape.operands) f).groups takes.old) takes.arguments
            (both_first (Says h obj f.groups fresh) k fit.fits.operands)

  -- ---- methods to begin with

  unheld : (h : ℕ → Thing) (obj : ℕ → ℕ) (groups : ℕ → Option Group) (a : Known) (v : Value) → Unheld a v → Says h obj groups fresh a v
  unheld h obj groups a v (laws.bare r) = bare r

  -- what fits a context to begin with
  pub root_fit : (h : ℕ → Thing) (n : ℕ) (c : Context) → IsRoot c → (args : List Value) → Both Unheld c.args args →
      Fit h (λ i. i) fresh c.held (λ i. i) n n (entry p c) (begun values (locals_at p c.method) args)
  root_fit h n c root args bs = record {
    fits = record {
      locals = both_turned (Says h (λ i. i) c.groups fresh)
          (both_map Unheld (Says h (λ i. i) c.groups fresh) (unheld h (λ i. i) c.groups) bs)
          (both_filled (Says h (λ i. i) c.groups fresh) unknown Plain (others h (λ i. i) c.groups fresh) (locals_at p c.method) none);
      operands = none;
    };
    sits = record {
      within = λ g x e. nothing g x e;
      sits = λ g x e. nothing g x e;
      bounded = λ g x e. nothing g x e;
      apart = λ a b x y d e q. nothing a x d;
      holds = λ g less. let z = root.held in absurd (omega (arith, less, z));
    };
    agrees = λ g x e. nothing g x e;
    kinds = λ g x e. nothing g x e;
  }
    where
      nothing : {P : Type 0} (g : ℕ) (x : Group) → c.groups g ≡ Some x → P
      nothing g x e = none_some (sym (root.groups g) ∙ e)

  -- what a method outside was handed
  let_go_loose : (v : Value) → is_loose v ≡ true → skeleton.let_go v ≡ v
  let_go_loose Plain l = refl
  let_go_loose Nil l = refl
  let_go_loose (Bit b) l = refl
  let_go_loose (Map m class) l = refl
  let_go_loose (Constant class label) l = refl
  let_go_loose (Ref o) l = absurd (true≢false (sym l))
  let_go_loose (Again t o) l = absurd (true≢false (sym l))
  let_go_loose (Another t) l = absurd (true≢false (sym l))
  let_go_loose (Said form label) l = refl

  lets_go_one : (h : ℕ → Thing) (obj : ℕ → ℕ) (groups : ℕ → Option Group) (a : Known) (v : Value) → Says h obj groups fresh a v →
      Unheld (reached.let_go a) (skeleton.let_go v)
  lets_go_one h obj groups a v (bare (laws.other l)) = laws.bare (laws.other (ap is_loose (let_go_loose v l) ∙ l))
  lets_go_one h obj groups a v (bare (laws.lost l)) = laws.bare (laws.lost (ap is_loose (let_go_loose v l) ∙ l))
  lets_go_one h obj groups a v (bare laws.bit) = laws.bare laws.bit
  lets_go_one h obj groups a v (bare laws.null) = laws.bare laws.null
  lets_go_one h obj groups a v (bare laws.again) = laws.bare (laws.lost refl)
  lets_go_one h obj groups a v (bare laws.another) = laws.bare (laws.lost refl)
  lets_go_one h obj groups a v (bare laws.map) = laws.bare (laws.other refl)
  lets_go_one h obj groups a v (bare laws.constant) = laws.bare (laws.other refl)
  lets_go_one h obj groups a v (object x e i) = laws.bare (laws.lost refl)
  lets_go_one h obj groups a v (answer x e i) = laws.bare (laws.other refl)

  lets_go : (h : ℕ → Thing) (obj : ℕ → ℕ) (groups : ℕ → Option Group) {xs : List Known} {vs : List Value} →
      Both (Says h obj groups fresh) xs vs → Both Unheld (reached.let_go_all xs) (skeleton.let_go_all vs)
  lets_go h obj groups none = none
  lets_go h obj groups (more {a = a} {b = v} r rs) = more (lets_go_one h obj groups a v r) (lets_go h obj groups rs)

  -- one frame goes on as it was
  pub goes_on : (h : ℕ → Thing) (n : ℕ) {c : Context} {hold : ℕ → ℕ} {mark : ℕ} {top : Frame} {fs : List Frame} →
      Below h c hold mark (top ∷ fs) → (i : Instruction) → instruction_at p h top.method top.at top.shape ≡ Some i → IsNoCallIn i →
      mark ≤ n →
      AllRight h n →
      Inv (state (top ∷ fs) h n)
  goes_on h n (waits {c = c} {top = top} method k words r m e fit had takes held le below) i d no_call low right =
      absurd (no_call method k words (sym (one_done fit p top.method c.method top.at m e d)))
  goes_on h n (interrupted {c = c} {f = f} {hold = hold} {mark = mark} {mark' = mark'} {obj = obj} {top = top} j outer none_held r m e
      no_call' fit had
      le below) i d no_call low right =
      runs r m (heap_fit h h obj fresh c.held hold mark mark' n f top.shape low (λ g x l. inr refl) (λ g x l. kin refl) fit) had below
      (omega (arith, le, low)) right

  pub interrupts_keep : {s t : State} → Inv s → Interrupts p roots s t → Inv t
  interrupts_keep (over right) step = elim step [ ]
  interrupts_keep (runs {c = c} r same fit had below low right) (laws.goes_back {h = h} {n = n} has i e e0 no_call) =
      goes_on h n below i e0 no_call low right
  interrupts_keep (runs {c = c} {f = f} {mark = mark} r same fit had below low right)
      (laws.calls_back {m = m} {at = at} {s = s} {fs = fs} {h = h} {n = n} i e no_call d root is_root args bs) =
      runs_tidy h n d (entry p d) (λ i. i) n (λ i. i) (frame d.method 0 (begun values (locals_at p d.method) args)) (frame m at s ∷ fs)
      (Found.begins (Found.called (Found.root root is_root))) refl (root_fit h n d is_root args bs)
      (interrupted i (Found.root root is_root) is_root.held r same (seen fit p m c.method at same e) no_call fit had low below)
      (omega arith) right
  interrupts_keep (runs {c = c} {f = f} {mark = mark} {obj = obj} r same fit had below low right)
      (laws.calls_meant {m = m} {at = at} {s = s} {fs = fs} {h = h} {n = n} v method e meant) =
      runs_tidy h n (outside_context method args) (entry p (outside_context method args)) (λ i. i) n (λ i. i)
      (frame method 0 (begun values (locals_at p method) (skeleton.let_go_all (first (taken v) s.operands)))) (frame m at s ∷ fs)
      (Found.begins (Found.called out)) refl
      (root_fit h n (outside_context method args) (record { held = refl; groups = λ g. refl })
      (skeleton.let_go_all (first (taken v) s.operands))
      (lets_go h obj f.groups (both_first (Says h obj f.groups fresh) (taken v) fit.fits.operands)))
      (interrupted (CallOut v) out refl r same here (λ callee k words q. absurd (cc)) fit had low below) (omega arith) right
    where
      args : List Known
      args = first (taken v) f.shape.operands

      here : seen_at p c.method at f ≡ Some (CallOut v)
      here = seen fit p m c.method at same e

      out : Found p numbering roots (Outside (outside_context method (first (taken v) f.shape.operands)))
      out = Found.meant v method r here meant
