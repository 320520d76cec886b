-- A walk along the instructions, what it leaves of the table, and when all of that is a typing.
use Rattle.std.proofs.Common.{◌≡◌, ℕ, ◌+◌, ◌<◌, ◌≤◌, ◌⊎◌, inl, inr, Bool, true, false, List, [], ◌∷◌, length, get_or, Option, Some, None}
use Rattle.std.proofs.Common.{option_map, refl, sym, ap, ap₂, subst, ◌∙◌, arith, length-append}
use Rattle.std.specs.Prelude.{slice_get, slice_set, if◌then◌else◌, Contains}
use Rattle.std.proofs.lemmas.List.{length-map}
use Rattle.std.proofs.lemmas.List.Elements.{Contains-append_left, Contains-append_right}
use Rattle.std.proofs.lemmas.Bool.{cases_eq, true≢false}
use Rattle.vm_model.specs.Program.{Instr}
use Rattle.vm_model.specs.Actions.{Action, action}
use Rattle.cls_verify.specs.Typing.{Kinds, Typing}
use Rattle.cls_verify.specs.BlockRows.{Row, RowAt}
use Rattle.cls_verify.specs.Blocks.{falls, jumps, Jumps, Runs, Came, AreBlocks}
use Rattle.cls_verify.specs.Blocks as blocks
use Rattle.cls_verify.proofs.Running.{behind, leads_are, runs_kept, came_kept, came_runs}
use Rattle.cls_verify.proofs.Fitting.{rows_are_met, ways_fit}
use Rattle.cls_verify.proofs.Typed.{blocks_are_typed}
use Rattle.cls_kinds.specs.declared.kind.Kind.{Kind}
use Rattle.cls_kinds.specs.Named.{kind_of, kinds_of}
use Rattle.cls_kinds.specs.Stacks.{stack_at}
use Rattle.cls_rows.specs.declared.frame.Frame.{Frame}
use Rattle.cls_rows.specs.Frames.{kinds_at, KeepsLocals}
use Rattle.cls_rows.specs.Coming.{IsBefore, Leaves}
use Rattle.cls_search.specs.declared.leading.Found.{Found}
use Rattle.cls_search.specs.declared.walk.Body.{Body}
use Rattle.cls_search.specs.Setting.{Setting}
use Rattle.cls_search.specs.Kept.{IsRight, FrameFits, Settled, or_none, frame_at, table, waits, left, rooms, most_of}
use Rattle.cls_search.specs.Going.{Goes, Untypable, IsBelow}
use Rattle.cls_search.specs.Walking.{IsBody, Joined, GoesBehind, GoesOn}
use Rattle.cls_search.proofs.Steps.{goes_nowhere, goes_on}
use Rattle.cls_search.proofs.Measuring.{rooms_taken}
use Rattle.cls_search.proofs.Changing.{get_there, or_set_same, or_set_other, many_set}

module _ (s : Setting) where
  abbrev kinds : Found → Frame → Kinds
  kinds f g = kinds_at s.names s.rest f.stacks g

  abbrev RowHere : ℕ → Kinds → Kinds → Type 0
  RowHere place k l = RowAt s.p s.class s.method s.m place k l

  abbrev RunsHere : Found → ℕ → Kinds → Type 0
  RunsHere f place k = Runs s.p s.class s.method s.m s.joins (table s f) place k

  -- A row that isn't met shows that there is no typing.

  pub not_there : (place : ℕ) (k : Kinds) → IsBelow s k place → slice_get s.m.code place ≡ None → Untypable s
  not_there place k below none t =
      let r = rows_are_met s.p s.class s.method s.m t place k (below t) in
      let q : Some r.1.instr ≡ None = sym r.1.there ∙ none in cc q

  pub no_action : (place : ℕ) (k : Kinds) (i : Instr) → IsBelow s k place → slice_get s.m.code place ≡ Some i → action i.op i.args ≡ None →
      Untypable s
  no_action place k i below there none t =
      let r = rows_are_met s.p s.class s.method s.m t place k (below t) in
      let same : r.1.instr ≡ i = let q : Some r.1.instr ≡ Some i = sym r.1.there ∙ there in cc q in
      let q : Some r.1.action_is ≡ None = sym r.1.acts ∙ ap (λ (j : Instr). action j.op j.args) same ∙ none in cc q

  pub not_met : (place : ℕ) (k : Kinds) (i : Instr) (a : Action) → IsBelow s k place → slice_get s.m.code place ≡ Some i →
      action i.op i.args ≡ Some a →
      ((l : Kinds) → Row s.p s.class s.method s.m k a l → ⊥) → Untypable s
  not_met place k i a below there acts never t =
      let r = rows_are_met s.p s.class s.method s.m t place k (below t) in
      let same : r.1.instr ≡ i = let q : Some r.1.instr ≡ Some i = sym r.1.there ∙ there in cc q in
      let act : r.1.action_is ≡ a = let q : Some r.1.action_is ≡ Some a = sym r.1.acts ∙ ap (λ (j : Instr). action j.op j.args) same ∙ acts
      in cc q in
      never r.0 (subst (λ b. Row s.p s.class s.method s.m k b r.0) act r.1.row)

  -- What a row that is met leaves is led to.

  pub ways_below : (place : ℕ) (k l : Kinds) → IsBelow s k place → (r : RowHere place k l) → (next : ℕ) → Contains (jumps r.action_is) next
      → IsBelow s l next
  ways_below place k l below r next c t = ways_fit s.p s.class s.method s.m t place next k l (below t) r
      (subst (λ ns. Contains ns next) (sym (leads_are r.action_is place))
      (Contains-append_left (jumps r.action_is) (behind r.action_is place) next c))

  pub behind_below : (place : ℕ) (k l : Kinds) → IsBelow s k place → (r : RowHere place k l) → falls r.action_is ≡ true →
      IsBelow s l (place + 1)
  behind_below place k l below r f t = ways_fit s.p s.class s.method s.m t place (place + 1) k l (below t) r
      (subst (λ ns. Contains ns (place + 1)) (sym (leads_are r.action_is place))
      (Contains-append_right (jumps r.action_is) (behind r.action_is place) (place + 1)
      (subst (λ b. Contains (if b then (place + 1) ∷ [] else []) (place + 1)) (sym f) (0, omega arith, refl))))

  -- a row's scene and frame
  pub before_row : (b : Body) (f : Found) (g : Frame) → IsBody s b → FrameFits s f.stacks g →
      IsBefore s.p s.class s.method s.m s.rest b.scene g
  before_row b f g body fits = record {
    scene = body.scene;
    keeps = kept s.kept;
    whole = (let w = s.whole in let v = fits.width in omega (arith, w, v));
  }
    where
      kept : (s.rest ≡ []) ⊎ (256 ≤ s.width) → KeepsLocals s.rest g
      kept (inl e) = inl e
      kept (inr h) = inr (let v = fits.width in omega (arith, h, v))

  pub left_fits : (b : Body) (old new : List (List Kind)) (f g : Frame) (a : Action) → FrameFits s old f →
      Leaves s.p s.class s.method s.m s.rest s.names old new f a g → FrameFits s new g
  left_fits b old new f g a fits l = record {
    there = l.there;
    width = l.width ∙ fits.width;
    room = (let r = l.row.room in let n = length-map (stack_at new g.operands) (kind_of s.names) in omega (arith, r, n));
  }

  -- Blocks that end, and that go on.

  pub joined_runs : (old new : Found) (place : ℕ) (k l : Kinds) (r : RowHere place k l) → Joined s old new place l r.action_is →
      RunsHere new place k
  joined_runs old new place k l r j = blocks.runs place k l r j.jumps_to (λ f e. (j.falls_to f).1)
      (λ f e. absurd (true≢false (sym (j.falls_to f).0 ∙ e)))

  pub behind_on : (old mid new : Found) (place : ℕ) (k l : Kinds) (g : Frame) (r : RowHere place k l) → Goes s old mid →
      GoesBehind s mid new place l r.action_is g →
      GoesOn s old new place k g
  behind_on old mid new place k l g r goes h = record {
    goes = goes_on s old mid new goes h.goes;
    row = record {
      instr = r.instr;
      there = r.there;
      action_is = r.action_is;
      acts = r.acts;
      row = subst (λ x. Row s.p s.class s.method s.m k r.action_is x) (sym h.same) r.row;
    };
    jumps = subst (λ x. Jumps s.joins (table s new) r.action_is x) (sym h.same) h.jumps_to;
    falls_on = h.falls_on;
    apart = h.apart;
    fits = h.fits;
  }

  -- A walk from a place: the front of its block, over what is kept now.

  pub record Walks (old now : Found) (from : ℕ) (first : Kinds) (place : ℕ) (f : Frame) : Type 0 where
    pub goes : Goes s old now
    pub came : Came s.p s.class s.method s.m s.joins (table s now) from first place (kinds now f)
    pub fits : FrameFits s now.stacks f
    pub below : IsBelow s (kinds now f) place

  pub walk_begins : (old : Found) (from : ℕ) (f : Frame) → IsRight s old → frame_at old from ≡ Some f →
      Walks old old from (kinds old f) from f
  walk_begins old from f right e = record {
    goes = goes_nowhere s old right;
    came = blocks.begins;
    fits = right.fit from f e;
    below = λ t. right.below t from (kinds old f) (ap (option_map (kinds_at s.names s.rest old.stacks)) e);
  }

  pub walk_goes : (old now new : Found) (from : ℕ) (first : Kinds) (place : ℕ) (f g : Frame) → Walks old now from first place f →
      GoesOn s now new place (kinds now f) g → Walks old new from first (place + 1) g
  walk_goes old now new from first place f g w o = record {
    goes = goes_on s old now new w.goes o.goes;
    came = blocks.goes place (kinds now f) (kinds new g)
        (came_kept s.p s.class s.method s.m s.joins (table s now) (table s new) o.goes.keeps w.came) o.row o.jumps o.falls_on o.apart;
    fits = o.fits;
    below = behind_below place (kinds now f) (kinds new g) w.below o.row o.falls_on;
  }

  pub walk_ends : (old now new : Found) (from : ℕ) (first : Kinds) (place : ℕ) (f : Frame) → Walks old now from first place f →
      table s old from ≡ Some first →
      Settled s old (λ q. q ≡ from) → Goes s now new → RunsHere new place (kinds now f) → Goes s old new × Settled s new (λ q. ⊥)
  walk_ends old now new from first place f w kept settled goes r =
      (all, λ q k joined e still never. run q k joined e still (cases_eq q from))
    where
      all : Goes s old new
      all = goes_on s old now new w.goes goes

      run : (q : ℕ) (k : Kinds) → s.joins q ≡ true → table s new q ≡ Some k → waits new q ≡ false → (q ≡ from) ⊎ (q ≡ from → ⊥) →
          RunsHere new q k
      run q k joined e still (inl is) =
          let same : first ≡ k = let z : Some first ≡ Some k = sym kept ∙ ap (table s old) (sym is) ∙ sym (all.same q still).0 ∙
          e in cc z in
          subst (λ n. RunsHere new n k) (sym is) (subst (λ x. RunsHere new from x) same
          (came_runs s.p s.class s.method s.m s.joins (table s new) (came_kept s.p s.class s.method s.m s.joins (table s now)
          (table s new) goes.keeps w.came) r))
      run q k joined e still (inr n) =
          let h = all.same q still in
          runs_kept s.p s.class s.method s.m s.joins (table s old) (table s new) all.keeps (settled q k joined (sym h.0 ∙ e) h.1 n)

  -- A place is taken from those that wait.

  module _ (old new : Found) (place : ℕ) (frames : new.frames.items ≡ old.frames.items) (stacks : new.stacks ≡ old.stacks)
      (waiting : new.waiting ≡ slice_set old.waiting place false)
      (waited : waits old place ≡ true) where
    taken_table : (q : ℕ) → table s new q ≡ table s old q
    taken_table q = ap₂ (λ fs st. option_map (kinds_at s.names s.rest st) (or_none (slice_get fs q))) frames stacks

    pub taken_right : IsRight s old → IsRight s new
    taken_right r = record {
      frames = ap length frames ∙ r.frames;
      waiting = ap length waiting ∙ many_set old.waiting place false ∙ r.waiting;
      fit = λ q g e. subst (λ st. FrameFits s st g) (sym stacks) (r.fit q g (sym (ap (λ fs. or_none (slice_get fs q)) frames) ∙ e));
      first = taken_table 0 ∙ r.first;
      below = λ t q k e. r.below t q k (sym (taken_table q) ∙ e);
    }

    pub taken_settled : Settled s old (λ q. ⊥) → Settled s new (λ q. q ≡ place)
    taken_settled h q k joined e still never =
        let was : waits old q ≡ false = sym (ap (λ ws. get_or ws q false) waiting ∙ or_set_other old.waiting place q false false never) ∙
        still in
        runs_kept s.p s.class s.method s.m s.joins (table s old) (table s new) (λ x i l. record {
          kinds = l.kinds;
          typed = taken_table i ∙ l.typed;
          locals = l.locals;
          operands = l.operands;
        })
        (h q k joined (sym (taken_table q) ∙ e) was (λ z. z))

    pub taken_less : IsRight s old → place < length s.m.code → left s new + 1 ≡ left s old
    taken_less r w =
        let a = r.waiting in let b = r.frames in
        ap (λ (n : ℕ). n + 1) (ap₂ (λ st fs. rooms (most_of s) st fs new.waiting) stacks frames ∙
        ap (rooms (most_of s) old.stacks old.frames.items) waiting)
        ∙ rooms_taken (most_of s) old.stacks old.frames.items old.waiting place (omega (arith, b, w))
        (get_there old.waiting place false (omega (arith, a, w)) ∙ ap (λ (b : Bool). Some b) waited)

    pub taken_waits : place < length old.waiting → waits new place ≡ false
    taken_waits w = ap (λ ws. get_or ws place false) waiting ∙ or_set_same old.waiting place false false w

  -- Where nothing waits all blocks run, so there is a typing.
  pub nothing_waits : (f : Found) → IsRight s f → Settled s f (λ q. ⊥) → ((q : ℕ) → waits f q ≡ false) → Typing s.p s.class s.method s.m
  nothing_waits f right settled none = blocks_are_typed s.p s.class s.method s.m s.joins (table s f) (record {
    fits = s.fits;
    begins_joined = s.first_joined;
    first = right.first;
    as_many = λ q k e. many q k (frame_at f q) refl e;
    room = λ q k e. deep q k (frame_at f q) refl e;
    run = λ q k joined e. settled q k joined e (none q) (λ z. z);
  })
    where
      many : (q : ℕ) (k : Kinds) (o : Option Frame) → frame_at f q ≡ o → option_map (kinds_at s.names s.rest f.stacks) o ≡ Some k →
          length k.locals ≡ s.m.max_locals
      many q k None g e = absurd (cc e)
      many q k (Some h) g e =
          let same : kinds f h ≡ k = cc e in
          let v = (right.fit q h g).width in let w = s.whole in
          let a = length-append (kinds_of s.names h.locals.value.items) s.rest in
          let b = length-map h.locals.value.items (kind_of s.names) in
          let c : length (kinds f h).locals ≡ length k.locals = ap (λ (x : Kinds). length x.locals) same in
          omega (arith, v, w, a, b, c)

      deep : (q : ℕ) (k : Kinds) (o : Option Frame) → frame_at f q ≡ o → option_map (kinds_at s.names s.rest f.stacks) o ≡ Some k →
          length k.operands ≤ s.m.max_stack
      deep q k None g e = absurd (cc e)
      deep q k (Some h) g e =
          let same : kinds f h ≡ k = cc e in
          let v = (right.fit q h g).room in
          let b = length-map (stack_at f.stacks h.operands) (kind_of s.names) in
          let c : length (kinds f h).operands ≡ length k.operands = ap (λ (x : Kinds). length x.operands) same in
          omega (arith, v, b, c)
