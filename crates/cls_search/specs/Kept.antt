-- What is kept while a method is searched, and what is true of it.
use Rattle.std.specs.Prelude.{◌≡◌, ℕ, ◌+◌, ◌*◌, ◌<◌, ◌≤◌, List, [], ◌∷◌, length, get_or, Bool, true, false, Option, Some, None, option_map}
use Rattle.std.specs.Prelude.{slice_get, if◌then◌else◌}
use Rattle.cls_verify.specs.Typing.{Kinds, LeadsTo, Typing, first_locals}
use Rattle.cls_verify.specs.Blocks.{Runs}
use Rattle.cls_kinds.specs.declared.kind.Kind.{Kind}
use Rattle.cls_kinds.specs.Numbers.{room_in}
use Rattle.cls_kinds.specs.Stacks.{stack_at}
use Rattle.cls_rows.specs.declared.frame.Frame.{Frame}
use Rattle.cls_rows.specs.Frames.{kinds_at}
use Rattle.cls_search.specs.declared.leading.Found.{Found}
use Rattle.cls_search.specs.Setting.{Setting}

abbrev pub or_none : Option (Option Frame) → Option Frame
or_none None = None
or_none (Some o) = o

abbrev pub frame_at : Found → ℕ → Option Frame
frame_at f place = or_none (slice_get f.frames.items place)

-- the kinds that are kept at places
abbrev pub table : Setting → Found → ℕ → Option Kinds
table s f place = option_map (kinds_at s.names s.rest f.stacks) (frame_at f place)

abbrev pub waits : Found → ℕ → Bool
waits f place = get_or f.waiting place false

pub record FrameFits (s : Setting) (stacks : List (List Kind)) (g : Frame) : Type 0 where
  pub there : g.operands < length stacks
  pub width : length g.locals.value.items ≡ s.width
  pub room : length (stack_at stacks g.operands) ≤ s.m.max_stack

-- what is kept fits each typing that there is
pub record IsRight (s : Setting) (f : Found) : Type 0 where
  pub frames : length f.frames.items ≡ length s.m.code
  pub waiting : length f.waiting ≡ length s.m.code
  pub fit : (place : ℕ) (g : Frame) → frame_at f place ≡ Some g → FrameFits s f.stacks g
  pub first : table s f 0 ≡ Some (record { locals = first_locals s.p s.class s.m; operands = [] })
  pub below : (typing : Typing s.p s.class s.method s.m) (place : ℕ) (k : Kinds) → table s f place ≡ Some k → LeadsTo typing.at k place

-- a block runs where it doesn't wait to be followed
abbrev pub Settled : Setting → Found → (but : ℕ → Type 0) → Type 0
Settled s f but = (place : ℕ) (k : Kinds) → s.joins place ≡ true → table s f place ≡ Some k → waits f place ≡ false → (but place → ⊥) →
    Runs s.p s.class s.method s.m s.joins (table s f) place k

-- How often places can still be raised or taken. A place without kinds has room for all raises of a frame, and one more.
abbrev pub frame_room : (most : ℕ) → List (List Kind) → Option Frame → ℕ
frame_room most stacks None = most + 1
frame_room most stacks (Some g) = room_in g.locals.value.items + room_in (stack_at stacks g.operands)

abbrev pub place_room : (most : ℕ) → List (List Kind) → Option Frame → Bool → ℕ
place_room most stacks o w = 2 * frame_room most stacks o + (if w then 1 else 0)

abbrev pub rooms : (most : ℕ) → List (List Kind) → List (Option Frame) → List Bool → ℕ
rooms most stacks [] ws = 0
rooms most stacks (o ∷ os) [] = 0
rooms most stacks (o ∷ os) (w ∷ ws) = place_room most stacks o w + rooms most stacks os ws

-- each kind of a frame is raised three times at most
abbrev pub most_of : Setting → ℕ
most_of s = 3 * (s.width + s.m.max_stack)

abbrev pub left : Setting → Found → ℕ
left s f = rooms (most_of s) f.stacks f.frames.items f.waiting
