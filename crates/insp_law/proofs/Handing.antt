-- Calls of protocols are on objects; none is handed out, and what is given back outside is new.
use Rattle.std.proofs.Common.{◌≡◌, ◌⊎◌, inl, inr, ℕ, zero, suc, ◌<◌, ◌≤◌, Bool, true, false, true≢false, List, ◌∷◌, Option, Some, None}
use Rattle.std.proofs.Common.{refl, sym, ap, ◌∙◌, subst, arith}
use Rattle.std.specs.Prelude.{if◌then◌else◌}
use Rattle.std.specs.List.{AllByRecursion}
use Rattle.mg_text.specs.Call.{Name}
use Rattle.ts_tree.specs.declared.parts.To.{To}
use Rattle.ts_tree.specs.Calls.{initial}
use Rattle.ts_tree.specs.Typestate.{Typestate}
use Rattle.insp_rules.specs.Program.{Class, Result, Instruction, Call, CallOut, Keep, Return, Throw, Program, code_at, Shape, nth, first}
use Rattle.insp_rules.specs.Program.{Invocation, Invoke, names, is_protocol, class_of, result_of, is_called_otherwise, is_of_followed}
use Rattle.insp_rules.specs.Skeleton.{Value, Plain, Nil, Bit, Map, Constant, Ref, Again, Another, Said, Thing, Frame, State, frame, state}
use Rattle.insp_rules.specs.Skeleton.{instruction_at, is_loose, result, place, has_it, someone_has}
use Rattle.insp_rules.specs.Skeleton as skeleton
use Rattle.insp_rules.specs.Frames.{Known, unknown, Object, Element, At, Group, Sight, Holds, CallHolds, given_back, NoneFollowed}
use Rattle.insp_rules.specs.Frames.{is_followed}
use Rattle.insp_rules.specs.Frames.{Receives, IsNew, StaysHere}
use Rattle.insp_rules.specs.Frames as frames
use Rattle.insp_rules.specs.Reached.{Both, none, more, Context, Numbering, Inspected, Found, Reached, Outside, handed_over}
use Rattle.insp_law.specs.Laws.{NoneWaits, IsHandedOut}
use Rattle.insp_law.specs.Laws as laws
use Rattle.insp_rules.proofs.Lists.{both_first}
use Rattle.insp_law.proofs.Fitting.{Says, bare, others, object, answer, Is, Fit, fresh, or_none, operand}
use Rattle.insp_law.proofs.Fitting as fitting
use Rattle.insp_law.proofs.Seeing.{seen, one_done}
use Rattle.insp_law.proofs.Among.{has_known}
use Rattle.insp_law.proofs.Standing.{Below, bottom, waits, interrupted, Inv, over, runs}

loose_free : (v : Value) → is_loose v ≡ true → skeleton.is_followed v ≡ false
loose_free Plain l = refl
loose_free Nil l = refl
loose_free (Bit b) l = refl
loose_free (Map m class) l = refl
loose_free (Constant c x) l = refl
loose_free (Ref a) l = absurd (true≢false (sym l))
loose_free (Again t a) l = absurd (true≢false (sym l))
loose_free (Another t) l = refl
loose_free (Said form x) l = refl

free : (h : ℕ → Thing) (obj : ℕ → ℕ) (groups : ℕ → Option Group) (a : Known) (v : Value) → Says h obj groups fresh a v →
    is_followed a ≡ false → skeleton.is_followed v ≡ false
free h obj groups a v (bare (laws.other l)) e = loose_free v l
free h obj groups a v (bare (laws.lost l)) e = loose_free v l
free h obj groups a v (bare laws.bit) e = refl
free h obj groups a v (bare laws.null) e = refl
free h obj groups a v (bare laws.again) e = absurd (true≢false e)
free h obj groups a v (bare laws.another) e = refl
free h obj groups a v (bare laws.map) e = refl
free h obj groups a v (bare laws.constant) e = refl
free h obj groups a v (object x l i) e = absurd (true≢false e)
free h obj groups a v (answer x l i) e = refl

-- where none is known to be followed none is
all_free : (h : ℕ → Thing) (obj : ℕ → ℕ) (groups : ℕ → Option Group) {xs : List Known} {vs : List Value} →
    Both (Says h obj groups fresh) xs vs → NoneFollowed xs → AllByRecursion (λ v. skeleton.is_followed v ≡ false) vs
all_free h obj groups none e = tt
all_free h obj groups (more {a = a} {b = v} r rs) e = (free h obj groups a v r e.0, all_free h obj groups rs e.1)

placed : (thing : Thing) (e : Element) (to : To) → Is thing e → e ≡ At to → place thing ≡ Some to
placed thing e to (fitting.at {to = from} p) q =
    let i : from ≡ to = cc in
    p ∙ ap (λ a. Some a) i
placed thing e to (fitting.pending label from a l p) q = absurd (cc)
placed thing e to (fitting.broken b c) q = absurd (cc)

module _ (p : Program) (numbering : Numbering) (roots : List Context) where
  -- the frame that runs, and what is known of it
  record Running (h : ℕ → Thing) (n m at : ℕ) (t : Shape Value) (fs : List Frame) : Type 0 where
    c : Context
    f : Sight
    hold : ℕ → ℕ
    mark : ℕ
    obj : ℕ → ℕ
    found : Found p numbering roots (Reached c at f)
    same : m ≡ c.method
    fit : Fit h obj fresh c.held hold mark n f t
    below : Below p numbering roots h c hold mark fs

  running : {s : State} → Inv p numbering roots s → (m at : ℕ) (t : Shape Value) (fs : List Frame) → s.stack ≡ frame m at t ∷ fs →
      Running s.things s.next m at t fs
  running (over right) m at t fs q = absurd (cc)
  running (runs {c = c} {f = f} {hold = hold} {mark = mark} {obj = obj} {top = top} {fs = gs} {h = h} {n = n} r same fit had below low
      right)
      m at t fs q =
      subst (λ (b : Frame). Running h n b.method b.at b.shape fs) is_top (subst (Running h n top.method top.at top.shape) is_rest (record {
        c = c;
        f = f;
        hold = hold;
        mark = mark;
        obj = obj;
        found = r;
        same = same;
        fit = fit;
        below = below;
      }))
    where
      is_top : top ≡ frame m at t
      is_top = cc

      is_rest : gs ≡ fs
      is_rest = cc

  -- a frame for which none of the program waits is of a context that was entered from outside
  entered_outside : {h : ℕ → Thing} {c : Context} {hold : ℕ → ℕ} {mark : ℕ} {fs : List Frame} → Below p numbering roots h c hold mark fs →
      NoneWaits p h fs → Found p numbering roots (Outside c)
  entered_outside (bottom outer e) w = outer
  entered_outside (waits {c = c} {top = top} method k words r m e fit had takes held le below) (laws.interrupted i d no_call) =
      absurd (no_call method k words (sym (one_done fit p top.method c.method top.at m e d)))
  entered_outside (interrupted j outer none_held r m l no_call fit had le below) w = outer

  -- objects from the mark on are in no frame below
  none_below : {h : ℕ → Thing} {c : Context} {hold : ℕ → ℕ} {mark : ℕ} {fs : List Frame} → Below p numbering roots h c hold mark fs →
      (o : ℕ) → mark ≤ o → someone_has o fs ≡ false
  none_below (bottom outer e) o above = refl
  none_below {h} (waits {f = f} {obj = obj} {top = top} {fs = fs} method k words r m e fit had takes held le below) o above =
      go (has_it o top.shape) refl (none_below below o (omega (arith, le, above)))
    where
      go : (b : Bool) → has_it o top.shape ≡ b → someone_has o fs ≡ false → (if b then true else someone_has o fs) ≡ false
      go true d ih =
          let z = has_known h obj f.groups (handed_over (first k f.shape.operands)) o f.shape top.shape fit.fits d in
          let b = fit.sits.bounded z.0 z.1 z.2 in
          let w = z.3 in
          absurd (omega (arith, b, w, above))
      go false d ih = ih
  none_below {h} (interrupted {f = f} {obj = obj} {top = top} {fs = fs} j outer none_held r m l no_call fit had le below) o above =
      go (has_it o top.shape) refl (none_below below o (omega (arith, le, above)))
    where
      go : (b : Bool) → has_it o top.shape ≡ b → someone_has o fs ≡ false → (if b then true else someone_has o fs) ≡ false
      go true d ih =
          let z = has_known h obj f.groups fresh o f.shape top.shape fit.fits d in
          let b = fit.sits.bounded z.0 z.1 z.2 in
          let w = z.3 in
          absurd (omega (arith, b, w, above))
      go false d ih = ih

module _ (p : Program) (numbering : Numbering) (roots : List Context) (inspected : Inspected p numbering roots) where
  pub goes_on : {s : State} → Inv p numbering roots s → (m at : ℕ) (t : Shape Value) (fs : List Frame) (name : Name) (k : ℕ)
      (has : Result) →
      s.stack ≡ frame m at t ∷ fs → instruction_at p s.things m at t ≡ Some (Call name k has) → (o : ℕ) × (nth Plain t.operands k ≡ Ref o)
  goes_on {s} i m at t fs name k has q e =
      go (nth unknown r.f.shape.operands k) (nth Plain t.operands k)
      (operand s.things r.obj r.f.groups fresh r.f.shape t r.fit.fits k) ch.receiver
    where
      r : Running p numbering roots s.things s.next m at t fs
      r = running p numbering roots i m at t fs q

      ch : CallHolds name k r.f
      ch = (inspected.holds r.c at r.f (Call name k has) r.found (seen r.fit p m r.c.method at r.same e)).calls name k has refl

      go : (a : Known) (v : Value) → Says s.things r.obj r.f.groups fresh a v → a ≡ Object ch.g → (o : ℕ) × (v ≡ Ref o)
      go a v (bare s) d = absurd (cc)
      go a v (answer x l j) d = absurd (cc)
      go a v (object {o = o} x l j) d = (o, refl)

  pub on_objects : {s : State} → Inv p numbering roots s → (m at : ℕ) (t : Shape Value) (fs : List Frame) (v : Invocation) →
      s.stack ≡ frame m at t ∷ fs → code_at p m at ≡ Some (Invoke v) → v.has_receiver ≡ true → is_protocol v ≡ true →
      ((o : ℕ) × (nth Plain t.operands v.words ≡ Ref o)) ⊎ (is_of_followed p m ≡ true) × (is_loose (nth Plain t.operands v.words) ≡ true)
  on_objects {s} i m at t fs v q e has protocol =
      go (nth unknown r.f.shape.operands v.words) (nth Plain t.operands v.words)
      (operand s.things r.obj r.f.groups fresh r.f.shape t r.fit.fits v.words)
      (inspected.receives r.c at r.f v r.found (ap (λ j. code_at p j at) (sym r.same) ∙ e) has)
    where
      r : Running p numbering roots s.things s.next m at t fs
      r = running p numbering roots i m at t fs q

      no_protocol : {P : Type 0} → is_protocol v ≡ false → P
      no_protocol d = absurd (true≢false (sym protocol ∙ d))

      no_alias : {P : Type 0} (b : Bool) → (if b then true else is_protocol v) ≡ false → P
      no_alias true d = absurd (true≢false d)
      no_alias false d = no_protocol d

      unless_followed : (w : Value) → is_loose w ≡ true → (b : Bool) → is_of_followed p r.c.method ≡ b →
          (if b then false else is_protocol v) ≡ false →
          ((o : ℕ) × (w ≡ Ref o)) ⊎ (is_of_followed p m ≡ true) × (is_loose w ≡ true)
      unless_followed w l true d k = inr (ap (is_of_followed p) r.same ∙ d, l)
      unless_followed w l false d k = no_protocol k

      go : (a : Known) (w : Value) → Says s.things r.obj r.f.groups fresh a w → Receives (is_of_followed p r.c.method) v a →
          ((o : ℕ) × (w ≡ Ref o)) ⊎ (is_of_followed p m ≡ true) × (is_loose w ≡ true)
      go a w (object {o = o} x l k) d = inl (o, refl)
      go a w (answer x l k) d = unless_followed w refl (is_of_followed p r.c.method) refl d.known
      go a w (bare (laws.other l)) d = unless_followed w l (is_of_followed p r.c.method) refl d.known
      go a w (bare laws.bit) d = unless_followed w refl (is_of_followed p r.c.method) refl d.known
      go a w (bare laws.map) d = unless_followed w refl (is_of_followed p r.c.method) refl d.known
      go a w (bare laws.constant) d = unless_followed w refl (is_of_followed p r.c.method) refl d.known
      go a w (bare (laws.lost l)) d = no_protocol d.known
      go a w (bare laws.null) d = no_protocol (d.not_null refl)
      go a w (bare (laws.again {t = c})) d = no_alias (names c v.name) d.known
      go a w (bare (laws.another {t = c})) d = no_alias (names c v.name) d.known

  pub on_again : {s : State} → Inv p numbering roots s → (m at : ℕ) (t : Shape Value) (fs : List Frame) (v : Invocation) (c : Typestate)
      (o : ℕ) →
      s.stack ≡ frame m at t ∷ fs → code_at p m at ≡ Some (Invoke v) → v.has_receiver ≡ true → nth Plain t.operands v.words ≡ Again c o →
      names c v.name ≡ false
  on_again {s} i m at t fs v c o q e has again =
      go (nth unknown r.f.shape.operands v.words) (nth Plain t.operands v.words)
      (operand s.things r.obj r.f.groups fresh r.f.shape t r.fit.fits v.words)
      (inspected.receives r.c at r.f v r.found (ap (λ j. code_at p j at) (sym r.same) ∙ e) has) again
    where
      r : Running p numbering roots s.things s.next m at t fs
      r = running p numbering roots i m at t fs q

      unnamed : (b : Bool) → (if b then true else is_protocol v) ≡ false → b ≡ false
      unnamed true d = d
      unnamed false d = refl

      not_loose : {P : Type 0} (w : Value) → is_loose w ≡ true → w ≡ Again c o → P
      not_loose w l d = absurd (true≢false (sym l ∙ ap is_loose d))

      go : (a : Known) (w : Value) → Says s.things r.obj r.f.groups fresh a w → Receives (is_of_followed p r.c.method) v a → w ≡ Again c o →
          names c v.name ≡ false
      go a w (object x l k) d z = absurd (cc)
      go a w (answer x l k) d z = absurd (cc)
      go a w (bare (laws.other l)) d z = not_loose w l z
      go a w (bare (laws.lost l)) d z = not_loose w l z
      go a w (bare laws.bit) d z = absurd (cc)
      go a w (bare laws.map) d z = absurd (cc)
      go a w (bare laws.constant) d z = absurd (cc)
      go a w (bare laws.null) d z = absurd (cc)
      go a w (bare laws.another) d z = absurd (cc)
      go a w (bare (laws.again {t = b})) d z =
          let y : b ≡ c = cc in
          ap (λ k. names k v.name) (sym y) ∙ unnamed (names b v.name) d.known

  -- where an object is, one is known to be
  known_followed : (h : ℕ → Thing) (obj : ℕ → ℕ) (groups : ℕ → Option Group) (a : Known) (v : Value) → Says h obj groups fresh a v →
      skeleton.is_followed v ≡ true → is_followed a ≡ true
  known_followed h obj groups a v (object x l k) e = refl
  known_followed h obj groups a v (answer x l k) e = absurd (true≢false (sym e))
  known_followed h obj groups a v (bare (laws.other l)) e = absurd (true≢false (sym e ∙ loose_free v l))
  known_followed h obj groups a v (bare (laws.lost l)) e = absurd (true≢false (sym e ∙ loose_free v l))
  known_followed h obj groups a v (bare laws.bit) e = absurd (true≢false (sym e))
  known_followed h obj groups a v (bare laws.map) e = absurd (true≢false (sym e))
  known_followed h obj groups a v (bare laws.constant) e = absurd (true≢false (sym e))
  known_followed h obj groups a v (bare laws.null) e = absurd (true≢false (sym e))
  known_followed h obj groups a v (bare laws.another) e = absurd (true≢false (sym e))
  known_followed h obj groups a v (bare laws.again) e = refl

  pub stays : {s : State} → Inv p numbering roots s → (m at : ℕ) (t : Shape Value) (fs : List Frame) (v : Invocation) →
      s.stack ≡ frame m at t ∷ fs → instruction_at p s.things m at t ≡ Some (CallOut v) → v.has_receiver ≡ true →
      skeleton.is_followed (nth Plain t.operands v.words) ≡ true → StaysHere v
  stays {s} i m at t fs v q e has followed =
      (inspected.holds r.c at r.f (CallOut v) r.found (seen r.fit p m r.c.method at r.same e)).receives v refl has
      (known_followed s.things r.obj r.f.groups (nth unknown r.f.shape.operands v.words) (nth Plain t.operands v.words)
      (operand s.things r.obj r.f.groups fresh r.f.shape t r.fit.fits v.words) followed)
    where
      r : Running p numbering roots s.things s.next m at t fs
      r = running p numbering roots i m at t fs q

  pub hands_none : {s : State} → Inv p numbering roots s → (m at : ℕ) (t : Shape Value) (fs : List Frame) (i : Instruction) (k : ℕ) →
      s.stack ≡ frame m at t ∷ fs → instruction_at p s.things m at t ≡ Some i →
      (i ≡ Keep k) ⊎ (i ≡ Throw) × (k ≡ 1) ⊎ ((v : Invocation) × (i ≡ CallOut v) × (k ≡ v.words))
      ⊎ ((name : Name) × (has : Result) × (i ≡ Call name k has)) →
      AllByRecursion (λ v. skeleton.is_followed v ≡ false) (first k t.operands)
  hands_none {s} inv m at t fs i k q e which =
      all_free s.things r.obj r.f.groups (both_first (Says s.things r.obj r.f.groups fresh) k r.fit.fits.operands) (without which)
    where
      r : Running p numbering roots s.things s.next m at t fs
      r = running p numbering roots inv m at t fs q

      holds : Holds p r.c.held at i r.f
      holds = inspected.holds r.c at r.f i r.found (seen r.fit p m r.c.method at r.same e)

      without : (i ≡ Keep k) ⊎ (i ≡ Throw) × (k ≡ 1) ⊎ ((v : Invocation) × (i ≡ CallOut v) × (k ≡ v.words))
          ⊎ ((name : Name) × (has : Result) × (i ≡ Call name k has)) → NoneFollowed (first k r.f.shape.operands)
      without (inl w) = holds.keeps k w
      without (inr (inl w)) = subst (λ a. NoneFollowed (first a r.f.shape.operands)) (sym w.1) (holds.throws w.0)
      without (inr (inr (inl w))) = subst (λ a. NoneFollowed (first a r.f.shape.operands)) (sym w.2) (holds.hands w.0 w.1)
      without (inr (inr (inr w))) = (holds.calls w.0 k w.1 w.2).plain

  -- ---- what is given back outside

  module _ (h : ℕ → Thing) (n m at : ℕ) (t : Shape Value) (fs : List Frame) (r : Running p numbering roots h n m at t fs) where
    result_is : (words : ℕ) → Says h r.obj r.f.groups fresh (given_back words r.f.shape) (result words t)
    result_is zero = others h r.obj r.f.groups fresh
    result_is (suc zero) = operand h r.obj r.f.groups fresh r.f.shape t r.fit.fits 0
    result_is (suc (suc w)) = others h r.obj r.f.groups fresh

  pub gives_plain : {s : State} → Inv p numbering roots s → (m at : ℕ) (t : Shape Value) (fs : List Frame) (words : ℕ) →
      s.stack ≡ frame m at t ∷ fs → instruction_at p s.things m at t ≡ Some (Return words) → NoneWaits p s.things fs →
      class_of (result_of p m) ≡ None → skeleton.is_followed (result words t) ≡ false
  gives_plain {s} i m at t fs words q e wait plain =
      free s.things r.obj r.f.groups (given_back words r.f.shape) (result words t) (result_is s.things s.next m at t fs r words)
      (inspected.gives_outside r.c at r.f words r.found (entered_outside p numbering roots r.below wait)
      (seen r.fit p m r.c.method at r.same e)
      (ap (λ j. class_of (result_of p j)) (sym r.same) ∙ plain))
    where
      r : Running p numbering roots s.things s.next m at t fs
      r = running p numbering roots i m at t fs q

  pub gives_new : {s : State} → Inv p numbering roots s → (m at : ℕ) (t : Shape Value) (fs : List Frame) (words : ℕ) (class : Class) →
      s.stack ≡ frame m at t ∷ fs → instruction_at p s.things m at t ≡ Some (Return words) → NoneWaits p s.things fs →
      is_called_otherwise p m ≡ true → class_of (result_of p m) ≡ Some class → IsHandedOut s.things fs class (result words t)
  gives_new {s} i m at t fs words class q e wait otherwise has =
      go (given_back words r.f.shape) (result words t) (result_is s.things s.next m at t fs r words)
      ((inspected.gives r.c at r.f words r.found (seen r.fit p m r.c.method at r.same e)
      (ap (is_called_otherwise p) (sym r.same) ∙ otherwise)).new class
      (ap (λ j. class_of (result_of p j)) (sym r.same) ∙ has))
    where
      r : Running p numbering roots s.things s.next m at t fs
      r = running p numbering roots i m at t fs q

      own : (g : ℕ) → r.c.held ≤ g → (g < r.c.held) × (r.obj g ≡ r.hold g) ⊎ (r.c.held ≤ g) × (r.mark ≤ r.obj g) → r.mark ≤ r.obj g
      own g above (inl w) = let l = w.0 in absurd (omega (arith, l, above))
      own g above (inr w) = w.1

      go : (a : Known) (v : Value) → Says s.things r.obj r.f.groups fresh a v → IsNew r.c.held r.f.groups class a →
          IsHandedOut s.things fs class v
      go a v (bare laws.null) frames.null = laws.null
      go a v (bare (laws.other l)) (frames.other is) = laws.other is l
      go a v (bare (laws.lost l)) w = elim w [ ]
      go a v (bare laws.bit) w = elim w [ ]
      go a v (bare laws.again) w = elim w [ ]
      go a v (bare laws.another) w = elim w [ ]
      go a v (bare laws.map) w = elim w [ ]
      go a v (bare laws.constant) w = elim w [ ]
      go a v (answer x l k) w = elim w [ ]
      go a v (object {g = g} {o = o} x l k) (frames.new y above live same new) =
          laws.new
          (ap (λ b. (s.things b).of.typestate) k ∙ ap (λ (b : Class). b.typestate) (sym (r.fit.kinds g y live).of) ∙ same)
          (ap (λ b. someone_has b fs) k ∙ none_below p numbering roots r.below (r.obj g) (own g above (r.fit.sits.sits g y live)))
          (λ there. ap (λ b. place (s.things b)) k
          ∙ placed (s.things (r.obj g)) y.element (initial class.typestate)
          ((or_none g (r.fit.agrees g y live)).is (ap (λ b. (s.things b).null) (sym k) ∙ there)) new)
