-- One place changes: kinds are kept there, or raised, and it waits. What that does to all that is kept.
use Rattle.std.proofs.Common.{◌≡◌, ℕ, zero, suc, ◌<◌, ◌≤◌, ◌⊎◌, inl, inr, Bool, true, false, List, [], ◌∷◌, length, get_or, Option, Some}
use Rattle.std.proofs.Common.{None, option_map, refl, sym, ap, ap₂, subst, ◌∙◌, arith, length-append}
use Rattle.std.specs.Prelude.{slice_get, slice_set, nat_eq, if◌then◌else◌}
use Rattle.std.proofs.lemmas.Bool.{cases_eq, true≢false}
use Rattle.std.proofs.lemmas.Bool.Decides.{nat_tests}
use Rattle.cls_verify.specs.Typing.{Kinds, LeadsTo, Typing}
use Rattle.cls_verify.specs.Search.{updated}
use Rattle.cls_verify.proofs.Searching.{Keeps}
use Rattle.cls_kinds.specs.declared.kind.Kind.{Kind}
use Rattle.cls_kinds.specs.Stacks.{Grows}
use Rattle.cls_kinds.proofs.Stacking.{grows_keeps}
use Rattle.cls_rows.specs.declared.frame.Frame.{Frame}
use Rattle.cls_rows.specs.Frames.{kinds_at}
use Rattle.cls_search.specs.declared.leading.Found.{Found}
use Rattle.cls_search.specs.Setting.{Setting}
use Rattle.cls_search.specs.Kept.{IsRight, FrameFits, or_none, frame_at, table, waits, place_room, rooms, most_of}
use Rattle.cls_search.specs.Going.{Goes}
use Rattle.cls_search.proofs.Measuring.{rooms_set, rooms_grown}
use Rattle.cls_search.proofs.Steps.{kinds_grown}

module _ {A : Type 0} where
  pub get_set_same : (xs : List A) (i : ℕ) (a : A) → i < length xs → slice_get (slice_set xs i a) i ≡ Some a
  get_set_same [] i a h = absurd (omega (arith, h))
  get_set_same (x ∷ xs) zero a h = refl
  get_set_same (x ∷ xs) (suc i) a h = get_set_same xs i a (omega (arith, h))

  pub get_set_other : (xs : List A) (i j : ℕ) (a : A) → (j ≡ i → ⊥) → slice_get (slice_set xs i a) j ≡ slice_get xs j
  get_set_other [] i j a n = refl
  get_set_other (x ∷ xs) zero zero a n = absurd (n refl)
  get_set_other (x ∷ xs) zero (suc j) a n = refl
  get_set_other (x ∷ xs) (suc i) zero a n = refl
  get_set_other (x ∷ xs) (suc i) (suc j) a n = get_set_other xs i j a (λ e. n (ap (λ k. suc k) e))

  pub many_set : (xs : List A) (i : ℕ) (a : A) → length (slice_set xs i a) ≡ length xs
  many_set [] i a = refl
  many_set (x ∷ xs) zero a = refl
  many_set (x ∷ xs) (suc i) a = ap (λ k. suc k) (many_set xs i a)

  pub or_set_same : (xs : List A) (i : ℕ) (a d : A) → i < length xs → get_or (slice_set xs i a) i d ≡ a
  or_set_same [] i a d h = absurd (omega (arith, h))
  or_set_same (x ∷ xs) zero a d h = refl
  or_set_same (x ∷ xs) (suc i) a d h = or_set_same xs i a d (omega (arith, h))

  pub or_set_other : (xs : List A) (i j : ℕ) (a d : A) → (j ≡ i → ⊥) → get_or (slice_set xs i a) j d ≡ get_or xs j d
  or_set_other [] i j a d n = refl
  or_set_other (x ∷ xs) zero zero a d n = absurd (n refl)
  or_set_other (x ∷ xs) zero (suc j) a d n = refl
  or_set_other (x ∷ xs) (suc i) zero a d n = refl
  or_set_other (x ∷ xs) (suc i) (suc j) a d n = or_set_other xs i j a d (λ e. n (ap (λ k. suc k) e))

  pub get_there : (xs : List A) (i : ℕ) (d : A) → i < length xs → slice_get xs i ≡ Some (get_or xs i d)
  get_there [] i d h = absurd (omega (arith, h))
  get_there (x ∷ xs) zero d h = refl
  get_there (x ∷ xs) (suc i) d h = get_there xs i d (omega (arith, h))

same_number : (a b : ℕ) → nat_eq a b ≡ true → a ≡ b
same_number a b e = grind (arith, nat_tests)

other_number : (a b : ℕ) → nat_eq a b ≡ false → a ≡ b → ⊥
other_number a b e s = grind (arith, nat_tests)

-- a frame fits where lists are added
pub fits_grown : (s : Setting) (old new : List (List Kind)) (g : Frame) → Grows old new → FrameFits s old g → FrameFits s new g
fits_grown s old new g grows f = record {
  there = (let l = ap length grows.is in let a = length-append old grows.more in let t = f.there in omega (arith, l, a, t));
  width = f.width;
  room = subst (λ ks. length ks ≤ s.m.max_stack) (sym (grows_keeps old new g.operands grows f.there)) f.room;
}

-- what is led to by one table is led to by a table that is the same
pub leads_same : (at later : ℕ → Option Kinds) → ((q : ℕ) → later q ≡ at q) → (k : Kinds) (place : ℕ) → LeadsTo at k place →
    LeadsTo later k place
leads_same at later e k place l = record { kinds = l.kinds; typed = e place ∙ l.typed; locals = l.locals; operands = l.operands }

-- the frames stay where lists are added
pub table_grown : (s : Setting) (old new : Found) → IsRight s old → Grows old.stacks new.stacks → (i : ℕ) → frame_at new i ≡ frame_at old i
    →
    table s new i ≡ table s old i
table_grown s old new right grows i e = ap (option_map (kinds_at s.names s.rest new.stacks)) e ∙ go (frame_at old i) refl
  where
    go : (o : Option Frame) → frame_at old i ≡ o → option_map (kinds_at s.names s.rest new.stacks) o
        ≡ option_map (kinds_at s.names s.rest old.stacks) o
    go None f = refl
    go (Some g) f = ap (λ (k : Kinds). Some k) (kinds_grown s.names s.rest old.stacks new.stacks g grows (right.fit i g f).there)

-- where every kept frame's operands are
in_range : (s : Setting) (old : Found) → IsRight s old → (i : ℕ) (g : Frame) → slice_get old.frames.items i ≡ Some (Some g) →
    g.operands < length old.stacks
in_range s old right i g e = (right.fit i g (ap or_none e)).there

-- Lists are added and nothing else changes.
pub grown_goes : (s : Setting) (old new : Found) → IsRight s old → Grows old.stacks new.stacks → new.frames.items ≡ old.frames.items →
    new.waiting ≡ old.waiting →
    Goes s old new
grown_goes s old new right grows frames waiting = record {
  right = record {
    frames = ap length frames ∙ right.frames;
    waiting = ap length waiting ∙ right.waiting;
    fit = λ i g e. fits_grown s old.stacks new.stacks g grows (right.fit i g (sym (at i) ∙ e));
    first = tables 0 ∙ right.first;
    below = λ t i k e. right.below t i k (sym (tables i) ∙ e);
  };
  grows = grows;
  keeps = leads_same (table s old) (table s new) tables;
  same = λ i w. (tables i, sym (ap (λ ws. get_or ws i false) waiting) ∙ w);
  less = (let m = rooms_grown (most_of s) old.stacks new.stacks grows old.frames.items old.waiting (in_range s old right) in
      let e : rooms (most_of s) new.stacks new.frames.items new.waiting ≡ rooms (most_of s) new.stacks old.frames.items old.waiting =
      ap₂ (rooms (most_of s) new.stacks) frames waiting in
      omega (arith, m, e));
}
  where
    at : (i : ℕ) → frame_at new i ≡ frame_at old i
    at i = ap (λ fs. or_none (slice_get fs i)) frames

    tables : (i : ℕ) → table s new i ≡ table s old i
    tables i = table_grown s old new right grows i (at i)

module _ (s : Setting) (old new : Found) (place : ℕ) (g : Frame) (right : IsRight s old) (grows : Grows old.stacks new.stacks)
    (frames : new.frames.items ≡ slice_set old.frames.items place (Some g)) (waiting : new.waiting ≡ slice_set old.waiting place true)
    (within : place < length s.m.code) where
  many_frames : length new.frames.items ≡ length s.m.code
  many_frames = ap length frames ∙ many_set old.frames.items place (Some g) ∙ right.frames

  many_waiting : length new.waiting ≡ length s.m.code
  many_waiting = ap length waiting ∙ many_set old.waiting place true ∙ right.waiting

  frame_here : frame_at new place ≡ Some g
  frame_here = ap (λ fs. or_none (slice_get fs place)) frames
      ∙ ap or_none (get_set_same old.frames.items place (Some g) (let m = right.frames in omega (arith, m, within)))

  frame_there : (i : ℕ) → (i ≡ place → ⊥) → frame_at new i ≡ frame_at old i
  frame_there i n = ap (λ fs. or_none (slice_get fs i)) frames ∙ ap or_none (get_set_other old.frames.items place i (Some g) n)

  waits_here : waits new place ≡ true
  waits_here = ap (λ ws. get_or ws place false) waiting ∙ or_set_same old.waiting place true false
      (let m = right.waiting in omega (arith, m, within))

  waits_there : (i : ℕ) → (i ≡ place → ⊥) → waits new i ≡ waits old i
  waits_there i n = ap (λ ws. get_or ws i false) waiting ∙ or_set_other old.waiting place i true false n

  abbrev pub changed_kinds : Kinds
  changed_kinds = kinds_at s.names s.rest new.stacks g

  pub table_is : (i : ℕ) → table s new i ≡ updated (table s old) place changed_kinds i
  table_is i = go (nat_eq i place) refl
    where
      go : (b : Bool) → nat_eq i place ≡ b → table s new i ≡ (if nat_eq i place then Some changed_kinds else table s old i)
      go true e = ap (table s new) (same_number i place e) ∙ ap (option_map (kinds_at s.names s.rest new.stacks)) frame_here
          ∙ sym (ap (λ b. if b then Some changed_kinds else table s old i) e)
      go false e = table_grown s old new right grows i (frame_there i (other_number i place e))
          ∙ sym (ap (λ b. if b then Some changed_kinds else table s old i) e)

  pub changed_goes : FrameFits s new.stacks g → (place ≡ 0 → ⊥) → ((t : Typing s.p s.class s.method s.m) → LeadsTo t.at changed_kinds place)
      →
      Keeps (table s old) (updated (table s old) place changed_kinds) →
      place_room (most_of s) new.stacks (Some g) true ≤ place_room (most_of s) new.stacks (frame_at old place) (waits old place) →
      Goes s old new
  changed_goes fits not_first below keeps room = record {
    right = record {
      frames = many_frames;
      waiting = many_waiting;
      fit = λ i h e. fit i h e (cases_eq i place);
      first = table_grown s old new right grows 0 (frame_there 0 (λ e. not_first (sym e))) ∙ right.first;
      below = λ t i k e. under t i k e (cases_eq i place);
    };
    grows = grows;
    keeps = λ k i l. leads_same (updated (table s old) place changed_kinds) (table s new) table_is k i (keeps k i l);
    same = λ i w. let n : i ≡ place → ⊥ = λ e. true≢false (sym waits_here ∙ ap (waits new) (sym e) ∙ w) in
        (table_grown s old new right grows i (frame_there i n), sym (waits_there i n) ∙ w);
    less = (let a = rooms_set (most_of s) new.stacks old.frames.items old.waiting place (get_or old.frames.items place None) (Some g)
        (waits old place) true there_frame there_waits in
        let b = rooms_grown (most_of s) old.stacks new.stacks grows old.frames.items old.waiting (in_range s old right) in
        let c : rooms (most_of s) new.stacks new.frames.items new.waiting ≡ rooms (most_of s) new.stacks
        (slice_set old.frames.items place (Some g)) (slice_set old.waiting place true) =
        ap₂ (rooms (most_of s) new.stacks) frames waiting in
        let d : place_room (most_of s) new.stacks (get_or old.frames.items place None) (waits old place) ≡ place_room (most_of s) new.stacks
        (frame_at old place) (waits old place) =
        ap (λ o. place_room (most_of s) new.stacks o (waits old place)) (ap or_none (sym there_frame)) in
        omega (arith, a, b, c, d, room));
  }
    where
      there_frame : slice_get old.frames.items place ≡ Some (get_or old.frames.items place None)
      there_frame = get_there old.frames.items place None (let m = right.frames in omega (arith, m, within))

      there_waits : slice_get old.waiting place ≡ Some (waits old place)
      there_waits = get_there old.waiting place false (let m = right.waiting in omega (arith, m, within))

      fit : (i : ℕ) (h : Frame) → frame_at new i ≡ Some h → (i ≡ place) ⊎ (i ≡ place → ⊥) → FrameFits s new.stacks h
      fit i h e (inl is) = let same : g ≡ h = let q : Some g ≡ Some h = sym frame_here ∙ ap (frame_at new) (sym is) ∙ e in cc q in
          subst (FrameFits s new.stacks) same fits
      fit i h e (inr n) = fits_grown s old.stacks new.stacks h grows (right.fit i h (sym (frame_there i n) ∙ e))

      under : (t : Typing s.p s.class s.method s.m) (i : ℕ) (k : Kinds) → table s new i ≡ Some k → (i ≡ place) ⊎ (i ≡ place → ⊥) →
          LeadsTo t.at k i
      under t i k e (inl is) =
          let here : Some changed_kinds ≡ Some k = sym (ap (option_map (kinds_at s.names s.rest new.stacks)) frame_here) ∙ ap (table s new)
          (sym is) ∙ e in
          let same : changed_kinds ≡ k = cc here in
          subst (λ q. LeadsTo t.at k q) (sym is) (subst (λ x. LeadsTo t.at x place) same (below t))
      under t i k e (inr n) = right.below t i k (sym (table_grown s old new right grows i (frame_there i n)) ∙ e)
