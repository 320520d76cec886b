-- What a step of a walk and a whole walk come to, by what they are given.
use Rattle.std.proofs.Common.{◌≡◌, ℕ, ◌+◌, ◌≤◌, ◌⊎◌, inl, inr, Bool, true, false, List, ◌++◌, length, get_or, Some, None, option_map, sym}
use Rattle.std.proofs.Common.{ap, subst, ◌∙◌, arith}
use Rattle.std.specs.Prelude.{slice_get, Contains, option_to_list, Result, Ok, Err, IfOk}
use Rattle.mg_text.specs.declared.memory.Memory.{Memory}
use Rattle.std.proofs.lemmas.Bool.{true≢false, cases_eq}
use Rattle.std.proofs.lemmas.Option.{slice_get-map, slice_get_past}
use Rattle.vm_model.specs.declared.linked.LinkedInstr.{LinkedInstr}
use Rattle.vm_model.specs.Actions.{Action, action}
use Rattle.vm_model.specs.View.{instr_of}
use Rattle.cls_verify.specs.Typing.{Kinds, LeadsTo}
use Rattle.cls_verify.specs.BlockRows.{Row, RowAt}
use Rattle.cls_verify.specs.Blocks.{falls, jumps, Jumps, Runs, Came}
use Rattle.cls_kinds.specs.declared.kind.Kind.{Kind}
use Rattle.cls_kinds.specs.Stacks.{stack_at, Grows}
use Rattle.cls_rows.specs.declared.frame.Frame.{Frame}
use Rattle.cls_rows.specs.Frames.{kinds_at}
use Rattle.cls_rows.specs.Same.{SameOr}
use Rattle.cls_rows.specs.Coming.{IsBefore, Leaves, Comes}
use Rattle.cls_search.specs.declared.joins.Jumps.{Jumps as Ways}
use Rattle.cls_search.specs.declared.leading.Found.{Found}
use Rattle.cls_search.specs.declared.walk.Body.{Body}
use Rattle.cls_search.specs.declared.walk.Stride.{Stride}
use Rattle.cls_search.specs.declared.walk.Stride.TheVariants as strides
use Rattle.cls_search.specs.Setting.{Setting}
use Rattle.cls_search.specs.Kept.{frame_at, table, waits}
use Rattle.cls_search.specs.Going.{Goes, Leads, LeadsOr, LeadsAll, LeadsAllOr, Untypable, IsBelow}
use Rattle.cls_search.specs.Led.{LedTo, LedToAll}
use Rattle.cls_search.specs.Walking.{StandsAt, StrideIs, IsWays, LeavesOn, Joined, GoesBehind, WaysAre, WalksFrom, WalkIs}
use Rattle.cls_search.proofs.Steps.{kinds_grown, goes_nowhere, goes_on}
use Rattle.cls_search.proofs.Changing.{fits_grown, grown_goes}
use Rattle.cls_search.proofs.Walked.{not_there, no_action, not_met, ways_below, behind_below, before_row, left_fits, joined_runs, behind_on}
use Rattle.cls_search.proofs.Walked.{Walks, walk_begins, walk_goes, walk_ends}
use Rattle.cls_search.proofs.LedLemmas.{led_at, kept_some, kept_none, same_kinds_at, same_fits}

-- What an action leaves is led to where it jumps, and behind it.

module _ (s : Setting) (old : Found) (b : Body) (place : ℕ) (a : Action) (w : Ways) (g : Frame) (l : LeavesOn s old b place a w g) where
  abbrev kinds_left : Kinds
  kinds_left = kinds_at s.names s.rest old.stacks g

  abbrev all_ways : List ℕ
  all_ways = option_to_list w.target ++ w.further.now

  as_way : (next : ℕ) → Contains (jumps a) next → Contains all_ways next
  as_way next c = subst (λ ns. Contains ns next) (sym l.ways.jumps_are) c

  pub on_all : LedToAll s old g all_ways
  on_all = record {
    right = l.right;
    fits = l.fits;
    below = λ next c. (l.jumps_below next (subst (λ ns. Contains ns next) l.ways.jumps_are c)).1;
  }

  jumps_on : (new : Found) → ((next : ℕ) → Contains all_ways next → LeadsTo (table s new) kinds_left next) →
      Jumps s.joins (table s new) a kinds_left
  jumps_on new h next c = ((l.jumps_below next c).0, h next (as_way next c))

  falls_on : w.falls ≡ true → falls a ≡ true
  falls_on e = sym l.ways.falls_is ∙ e

  pub on_fails : (new : Found) (c : Bool) → LeadsAllOr s old new kinds_left all_ways c → c ≡ false → Untypable s
  on_fails new c h e = let f : LeadsAllOr s old new kinds_left all_ways false = subst (LeadsAllOr s old new kinds_left all_ways) e h in f

  pub on_leads : (new : Found) (c : Bool) → LeadsAllOr s old new kinds_left all_ways c → c ≡ true → LeadsAll s old new kinds_left all_ways
  on_leads new c h e = let f : LeadsAllOr s old new kinds_left all_ways true = subst (LeadsAllOr s old new kinds_left all_ways) e h in f

  -- no way goes on behind it
  pub on_ends : (new : Found) → LeadsAll s old new kinds_left all_ways → w.falls ≡ false → Joined s old new place kinds_left a
  on_ends new h e = record {
    goes = h.goes;
    jumps_to = jumps_on new h.leads;
    falls_to = λ f. absurd (true≢false (sym f ∙ sym l.ways.falls_is ∙ e));
  }

  still : (mid : Found) → LeadsAll s old mid kinds_left all_ways → kinds_at s.names s.rest mid.stacks g ≡ kinds_left
  still mid h = kinds_grown s.names s.rest old.stacks mid.stacks g h.goes.grows l.fits.there

  -- ways don't join behind it
  pub on_goes : (mid : Found) (c : Bool) → LeadsAll s old mid kinds_left all_ways → w.falls ≡ true → c ≡ get_or b.joins.now (place + 1) true
      → c ≡ false →
      GoesBehind s old mid place kinds_left a g
  on_goes mid c h e is f = record {
    goes = h.goes;
    same = still mid h;
    jumps_to = jumps_on mid h.leads;
    falls_on = falls_on e;
    apart = l.body.joins (place + 1) ∙ sym is ∙ f;
    fits = fits_grown s old.stacks mid.stacks g h.goes.grows l.fits;
  }

  -- they join
  pub on_next : (mid : Found) → LeadsAll s old mid kinds_left all_ways → w.falls ≡ true → LedTo s mid g (place + 1)
  on_next mid h e = led_at s old g mid (place + 1) h.goes l.fits (l.falls_below (falls_on e))

  pub next_fails : (mid new : Found) (c : Bool) → LeadsOr s mid new (kinds_at s.names s.rest mid.stacks g) (place + 1) c → c ≡ false →
      Untypable s
  next_fails mid new c h e =
      let f : LeadsOr s mid new (kinds_at s.names s.rest mid.stacks g) (place + 1) false =
      subst (LeadsOr s mid new (kinds_at s.names s.rest mid.stacks g) (place + 1)) e h in f

  pub next_joins : (mid new : Found) (c d : Bool) → LeadsAll s old mid kinds_left all_ways → c ≡ get_or b.joins.now (place + 1) true →
      c ≡ true →
      LeadsOr s mid new (kinds_at s.names s.rest mid.stacks g) (place + 1) d → d ≡ true → Joined s old new place kinds_left a
  next_joins mid new c d h is e r f =
      let led : Leads s mid new (kinds_at s.names s.rest mid.stacks g) (place + 1) =
      subst (LeadsOr s mid new (kinds_at s.names s.rest mid.stacks g) (place + 1)) f r in record {
        goes = goes_on s old mid new h.goes led.goes;
        jumps_to = jumps_on new (λ next c. led.goes.keeps kinds_left next (h.leads next c));
        falls_to = λ q. (l.body.joins (place + 1) ∙ sym is ∙ e, subst (λ k. LeadsTo (table s new) k (place + 1)) (still mid h) led.leads);
      }

-- One instruction.

module _ (s : Setting) (old : Found) (b : Body) (place : ℕ) (g : Frame) (t : StandsAt s old b place g) where
  abbrev kinds_here : Kinds
  kinds_here = kinds_at s.names s.rest old.stacks g

  code_at : slice_get s.m.code place ≡ option_map instr_of (slice_get b.code.now place)
  code_at = ap (λ is. slice_get is place) (sym t.body.code) ∙ slice_get-map instr_of b.code.now place

  pub step_past : slice_get b.code.now place ≡ None → Untypable s
  step_past e = not_there s place kinds_here t.below (code_at ∙ ap (option_map instr_of) e)

  instr_there : (i : LinkedInstr) → slice_get b.code.now place ≡ Some i → slice_get s.m.code place ≡ Some (instr_of i)
  instr_there i e = code_at ∙ ap (option_map instr_of) e

  pub step_nothing : (i : LinkedInstr) → slice_get b.code.now place ≡ Some i → action (instr_of i).op (instr_of i).args ≡ None → Untypable s
  step_nothing i e none = no_action s place kinds_here (instr_of i) t.below (instr_there i e) none

  pub step_before : IsBefore s.p s.class s.method s.m s.rest b.scene g
  step_before = before_row s b old g t.body t.fits

  pub step_fails : (new : List (List Kind)) (i : LinkedInstr) (a : Action) → slice_get b.code.now place ≡ Some i →
      action (instr_of i).op (instr_of i).args ≡ Some a →
      Comes b.scene old.stacks new g a None → Untypable s
  step_fails new i a e acts comes = not_met s place kinds_here (instr_of i) a t.below (instr_there i e) acts
      (subst (λ names. (l : Kinds) → Row s.p s.class s.method s.m (kinds_at names s.rest old.stacks g) a l → ⊥) t.body.names
      (comes s.p s.class s.method s.m s.rest step_before))

  pub step_fits : length (stack_at old.stacks g.operands) ≤ b.scene.max_stack
  step_fits = let r = t.fits.room in let m = t.body.scene.max_stack in omega (arith, r, m)

  -- its row is met
  module _ (mid : Found) (i : LinkedInstr) (a : Action) (w : Ways) (left : Frame) (there : slice_get b.code.now place ≡ Some i)
      (acts : action (instr_of i).op (instr_of i).args ≡ Some a) (grows : Grows old.stacks mid.stacks)
      (frames : mid.frames.items ≡ old.frames.items)
      (waiting : mid.waiting ≡ old.waiting) (comes : Comes b.scene old.stacks mid.stacks g a (Some left)) where
    abbrev kinds_behind : Kinds
    kinds_behind = kinds_at s.names s.rest mid.stacks left

    row_left : Leaves s.p s.class s.method s.m s.rest s.names old.stacks mid.stacks g a left
    row_left = subst (λ names. Leaves s.p s.class s.method s.m s.rest names old.stacks mid.stacks g a left) t.body.names
        (comes s.p s.class s.method s.m s.rest step_before)

    row_here : RowAt s.p s.class s.method s.m place kinds_here kinds_behind
    row_here = record { instr = instr_of i; there = instr_there i there; action_is = a; acts = acts; row = row_left.row }

    goes_mid : Goes s old mid
    goes_mid = grown_goes s old mid t.right grows frames waiting

    pub step_leaves : IsWays a w → LeavesOn s mid b place a w left
    unfolding row_here
    step_leaves ways = record {
      right = goes_mid.right;
      body = t.body;
      fits = left_fits s b old.stacks mid.stacks g left a t.fits row_left;
      ways = ways;
      jumps_below = λ next c. (
        s.joined place (instr_of i) a (instr_there i there) acts next c,
        ways_below s place kinds_here kinds_behind
            t.below row_here next c,
      );
      falls_below = λ f. behind_below s place kinds_here kinds_behind t.below row_here f;
    }

    pub step_is : (new : Found) (r : Stride) → WaysAre s mid new place kinds_behind a r → StrideIs s old new place kinds_here r
    unfolding row_here
    step_is new strides.Fails h = h
    step_is new strides.Ends h = (goes_on s old mid new goes_mid h.goes, joined_runs s mid new place kinds_here kinds_behind row_here h)
    step_is new (strides.On f) h = behind_on s old mid new place kinds_here kinds_behind f row_here goes_mid h

-- A whole walk.

pub record OnTheWay (s : Setting) (old now : Found) (from place : ℕ) (f : Frame) : Type 0 where
  pub first : Kinds
  pub kept : table s old from ≡ Some first
  pub walks : Walks s old now from first place f

module _ (s : Setting) (old : Found) (b : Body) (from : ℕ) (w : WalksFrom s old b from) where
  -- nothing is kept there
  pub walk_nowhere : SameOr (frame_at old from) None → WalkIs s old old true
  walk_nowhere h = (goes_nowhere s old w.right, λ q k joined e still never. settled q k joined e still (cases_eq q from))
    where
      settled : (q : ℕ) (k : Kinds) → s.joins q ≡ true → table s old q ≡ Some k → waits old q ≡ false → (q ≡ from) ⊎ (q ≡ from → ⊥) →
          Runs s.p s.class s.method s.m s.joins (table s old) q k
      settled q k joined e still (inr n) = w.settled q k joined e still n
      settled q k joined e still (inl is) = absurd (let never : None ≡ Some k =
          sym (ap (table s old) is ∙ ap (option_map (kinds_at s.names s.rest old.stacks)) (kept_none (frame_at old from) h)) ∙
          e in cc never)

  -- a walk begins
  pub way_begins : (f : Frame) → SameOr (frame_at old from) (Some f) → OnTheWay s old old from from f
  way_begins f h =
      let (g, (e, same)) = kept_some (frame_at old from) f h in
      let begun = walk_begins s old from g w.right e in
      let alike : kinds_at s.names s.rest old.stacks f ≡ kinds_at s.names s.rest old.stacks g = same_kinds_at s old.stacks g f same in
      record {
        first = kinds_at s.names s.rest old.stacks g;
        kept = ap (option_map (kinds_at s.names s.rest old.stacks)) e;
        walks = record {
          goes = begun.goes;
          came = subst (λ k. Came s.p s.class s.method s.m s.joins (table s old) from (kinds_at s.names s.rest old.stacks g) from k)
              (sym alike) begun.came;
          fits = same_fits s old.stacks g f same begun.fits;
          below = subst (λ k. IsBelow s k from) (sym alike) begun.below;
        };
      }

  module _ (now : Found) (place : ℕ) (f : Frame) (o : OnTheWay s old now from place f) where
    pub way_stands : StandsAt s now b place f
    way_stands = record { right = o.walks.goes.right; body = w.body; fits = o.walks.fits; below = o.walks.below }

    pub way_goes : (new : Found) (g : Frame) → StrideIs s now new place (kinds_at s.names s.rest now.stacks f) (strides.On g) →
        OnTheWay s old new from (place + 1) g
    way_goes new g h = record { first = o.first; kept = o.kept; walks = walk_goes s old now new from o.first place f g o.walks h }

    pub way_ends : (new : Found) → StrideIs s now new place (kinds_at s.names s.rest now.stacks f) strides.Ends → WalkIs s old new true
    way_ends new h = walk_ends s old now new from o.first place f o.walks o.kept w.settled h.0 h.1

    pub way_past : length b.code.now ≤ place → Untypable s
    way_past h = step_past s now b place f way_stands (slice_get_past b.code.now place h)

-- A step that is answered as its ways are.

pub step_then : (old mid new : Found) (b : Body) (place : ℕ) (g left : Frame) (i : LinkedInstr) (a : Action) (w : Ways)
    (r : Result Stride Memory) →
    slice_get b.code.now place ≡ Some i → action (instr_of i).op (instr_of i).args ≡ Some a → Grows old.stacks mid.stacks →
    mid.frames.items ≡ old.frames.items →
    mid.waiting ≡ old.waiting → Comes b.scene old.stacks mid.stacks g a (Some left) → IsWays a w →
    IfOk r (λ x. (s : Setting) (c : Action) → LeavesOn s mid b place c w left →
    WaysAre s mid new place (kinds_at s.names s.rest mid.stacks left) c x) →
    IfOk r (λ x. (s : Setting) → StandsAt s old b place g → StrideIs s old new place (kinds_at s.names s.rest old.stacks g) x)
step_then old mid new b place g left i a w (Err e) there acts grows frames waiting comes ways h = tt
step_then old mid new b place g left i a w (Ok x) there acts grows frames waiting comes ways h = λ s t.
    step_is s old b place g t mid i a w left there acts grows frames waiting comes new x
    (h s a (step_leaves s old b place g t mid i a w left there acts grows frames waiting comes ways))
