-- What a step of a walk, a whole walk and a whole search come to.
use Rattle.std.specs.Prelude.{◌≡◌, ℕ, ◌+◌, ◌++◌, Bool, true, false, map, length, get_or, option_to_list, Contains}
use Rattle.vm_model.specs.View.{instr_of}
use Rattle.vm_model.specs.Actions.{Action}
use Rattle.cls_verify.specs.Typing.{Kinds, LeadsTo, Typing}
use Rattle.cls_verify.specs.BlockRows.{RowAt}
use Rattle.cls_verify.specs.Blocks.{falls, jumps, Jumps, Runs}
use Rattle.cls_rows.specs.declared.frame.Frame.{Frame}
use Rattle.cls_rows.specs.Frames.{kinds_at, IsScene}
use Rattle.cls_search.specs.declared.joins.Jumps.{Jumps as Ways}
use Rattle.cls_search.specs.declared.leading.Found.{Found}
use Rattle.cls_search.specs.declared.walk.Body.{Body}
use Rattle.cls_search.specs.declared.walk.Stride.{Stride}
use Rattle.cls_search.specs.declared.walk.Stride.TheVariants as strides
use Rattle.cls_search.specs.Setting.{Setting}
use Rattle.cls_search.specs.Kept.{IsRight, FrameFits, Settled, table, waits}
use Rattle.cls_search.specs.Going.{Goes, Untypable, IsBelow}

-- a body is that of the method that is searched
pub record IsBody (s : Setting) (b : Body) : Type 0 where
  pub scene : IsScene s.p s.class s.method s.m b.scene
  pub names : b.scene.program.now.names ≡ s.names
  pub code : map instr_of b.code.now ≡ s.m.code
  pub joins : (place : ℕ) → s.joins place ≡ get_or b.joins.now place true
  pub many : length b.joins.now ≡ length s.m.code

-- a frame stands at a place of a body
pub record StandsAt (s : Setting) (f : Found) (b : Body) (place : ℕ) (g : Frame) : Type 0 where
  pub right : IsRight s f
  pub body : IsBody s b
  pub fits : FrameFits s f.stacks g
  pub below : IsBelow s (kinds_at s.names s.rest f.stacks g) place

-- the walk goes on behind a place, where ways don't join
pub record GoesOn (s : Setting) (old new : Found) (place : ℕ) (k : Kinds) (f : Frame) : Type 0 where
  pub goes : Goes s old new
  pub row : RowAt s.p s.class s.method s.m place k (kinds_at s.names s.rest new.stacks f)
  pub jumps : Jumps s.joins (table s new) row.action_is (kinds_at s.names s.rest new.stacks f)
  pub falls_on : falls row.action_is ≡ true
  pub apart : s.joins (place + 1) ≡ false
  pub fits : FrameFits s new.stacks f

abbrev pub StrideIs : Setting → (old new : Found) → (place : ℕ) → Kinds → Stride → Type 0
StrideIs s old new place k strides.Fails = Untypable s
StrideIs s old new place k strides.Ends = Goes s old new × Runs s.p s.class s.method s.m s.joins (table s new) place k
StrideIs s old new place k (strides.On f) = GoesOn s old new place k f

-- what an instruction leaves is led to where it jumps
pub record IsWays (a : Action) (w : Ways) : Type 0 where
  pub falls_is : w.falls ≡ falls a
  pub jumps_are : option_to_list w.target ++ w.further.now ≡ jumps a

-- an action at a place of a body leaves a frame
pub record LeavesOn (s : Setting) (f : Found) (b : Body) (place : ℕ) (a : Action) (w : Ways) (g : Frame) : Type 0 where
  pub right : IsRight s f
  pub body : IsBody s b
  pub fits : FrameFits s f.stacks g
  pub ways : IsWays a w
  pub jumps_below : (next : ℕ) → Contains (jumps a) next → (s.joins next ≡ true) × IsBelow s (kinds_at s.names s.rest f.stacks g) next
  pub falls_below : falls a ≡ true → IsBelow s (kinds_at s.names s.rest f.stacks g) (place + 1)

-- what a way on comes to: no typing, or what is kept where ways join is raised, or a frame to go on with
pub record Joined (s : Setting) (old new : Found) (place : ℕ) (k : Kinds) (a : Action) : Type 0 where
  pub goes : Goes s old new
  pub jumps_to : Jumps s.joins (table s new) a k
  pub falls_to : falls a ≡ true → (s.joins (place + 1) ≡ true) × LeadsTo (table s new) k (place + 1)

pub record GoesBehind (s : Setting) (old new : Found) (place : ℕ) (k : Kinds) (a : Action) (f : Frame) : Type 0 where
  pub goes : Goes s old new
  pub same : kinds_at s.names s.rest new.stacks f ≡ k
  pub jumps_to : Jumps s.joins (table s new) a k
  pub falls_on : falls a ≡ true
  pub apart : s.joins (place + 1) ≡ false
  pub fits : FrameFits s new.stacks f

abbrev pub WaysAre : Setting → (old new : Found) → (place : ℕ) → Kinds → Action → Stride → Type 0
WaysAre s old new place k a strides.Fails = Untypable s
WaysAre s old new place k a strides.Ends = Joined s old new place k a
WaysAre s old new place k a (strides.On f) = GoesBehind s old new place k a f

-- a walk from a place that no longer waits
pub record WalksFrom (s : Setting) (f : Found) (b : Body) (from : ℕ) : Type 0 where
  pub right : IsRight s f
  pub body : IsBody s b
  pub settled : Settled s f (λ place. place ≡ from)
  pub still : waits f from ≡ false

abbrev pub WalkIs : Setting → (old new : Found) → Bool → Type 0
WalkIs s old new true = Goes s old new × Settled s new (λ place. ⊥)
WalkIs s old new false = Untypable s

abbrev pub SearchIs : Setting → Bool → Type 0
SearchIs s true = Typing s.p s.class s.method s.m
SearchIs s false = Untypable s

-- a search has begun well
pub record HasBegun (s : Setting) (f : Found) (b : Body) : Type 0 where
  pub right : IsRight s f
  pub body : IsBody s b
  pub settled : Settled s f (λ place. ⊥)
