-- What the steps of the search come to that lead to places, by what they are given.
use Rattle.std.proofs.Common.{◌≡◌, ℕ, zero, suc, ◌+◌, ◌<◌, ◌≤◌, ◌⊎◌, inl, inr, Bool, true, false, List, [], ◌∷◌, ◌++◌, length, get_or}
use Rattle.std.proofs.Common.{Option, Some, None, refl, sym, ap, ap₂, subst, ◌∙◌, arith}
use Rattle.std.specs.Prelude.{slice_get, slice_set, Contains, ◌||◌, nat_eq, Result, Ok, Err, IfOk}
use Rattle.mg_text.specs.declared.memory.Memory.{Memory}
use Rattle.std.proofs.lemmas.Bool.{cases_lt, cases_eq, cases_Bool}
use Rattle.std.proofs.lemmas.Bool.Decides.{nat_tests}
use Rattle.std.specs.List.{HoldsAt}
use Rattle.std.proofs.lemmas.Option.{slice_get_within, slice_get-get_or}
use Rattle.std.proofs.lemmas.List.{get_or_default}
use Rattle.std.proofs.lemmas.List.Elements.{Contains-append_right, Contains-append_cases}
use Rattle.cls_verify.specs.Typing.{Kinds, LeadsTo}
use Rattle.cls_kinds.specs.declared.kind.Kind.{Kind}
use Rattle.cls_kinds.specs.Numbers.{joined_number, joined_all, is_raised, is_plain, room_in}
use Rattle.cls_kinds.specs.Named.{kinds_of}
use Rattle.cls_kinds.specs.Stacks.{stack_at, Grows}
use Rattle.cls_kinds.proofs.Joining.{chain_is, equal_not, raised_not, room_falls}
use Rattle.cls_kinds.proofs.Stacking.{grows_keeps}
use Rattle.cls_rows.proofs.Alike.{kinds_with}
use Rattle.cls_rows.specs.declared.frame.Frame.{Frame}
use Rattle.cls_rows.specs.Frames.{kinds_at}
use Rattle.cls_rows.specs.Same.{AreSame, SameOr}
use Rattle.cls_search.specs.declared.leading.Found.{Found}
use Rattle.cls_search.specs.Setting.{Setting}
use Rattle.cls_search.specs.Kept.{FrameFits, or_none, frame_at, table}
use Rattle.cls_search.specs.Going.{Goes, Leads, LeadsOr, LeadsAll, LeadsAllOr, Untypable, IsBelow}
use Rattle.cls_search.specs.Led.{LedTo, LedOver, LedToAll, Stays, RaisesTo}
use Rattle.cls_search.proofs.Steps.{kinds_grown, goes_nowhere, goes_on}
use Rattle.cls_search.proofs.Changing.{fits_grown}
use Rattle.cls_search.proofs.Rises.{first_leads, uneven, stays_leads, first_raised, raised_leads}

-- Two rows are joined to the second one where that isn't raised by the first.

equal_true : (a b : ℕ) → nat_eq a b ≡ true → a ≡ b
equal_true a b e = grind (arith, nat_tests)

joined_both_ways : (k l : ℕ) → joined_number k l ≡ joined_number l k
joined_both_ways k l = by (cases_eq k l)
  where
    or_turned : (a b : Bool) → (a || b) ≡ (b || a)
    or_turned true true = refl
    or_turned true false = refl
    or_turned false true = refl
    or_turned false false = refl

    not_both : (k ≡ l → ⊥) → nat_eq k 2 ≡ true → nat_eq l 2 ≡ true → ⊥
    not_both n e f = n (equal_true k 2 e ∙ sym (equal_true l 2 f))

    rest : (k ≡ l → ⊥) → (b : Bool) → (is_plain k || is_plain l) ≡ b → (c : Bool) → nat_eq k 2 ≡ c → (d : Bool) → nat_eq l 2 ≡ d →
        joined_number k l ≡ joined_number l k
    rest n true e c f d g =
        chain_is k l false true c d (equal_not k l n) e f g
        ∙ sym (chain_is l k false true d c (equal_not l k (λ s. n (sym s))) (or_turned (is_plain l) (is_plain k) ∙ e) g f)
    rest n false e true f true g = absurd (not_both n f g)
    rest n false e true f false g =
        chain_is k l false false true false (equal_not k l n) e f g
        ∙ sym (chain_is l k false false false true (equal_not l k (λ s. n (sym s))) (or_turned (is_plain l) (is_plain k) ∙ e) g f)
    rest n false e false f true g =
        chain_is k l false false false true (equal_not k l n) e f g
        ∙ sym (chain_is l k false false true false (equal_not l k (λ s. n (sym s))) (or_turned (is_plain l) (is_plain k) ∙ e) g f)
    rest n false e false f false g =
        chain_is k l false false false false (equal_not k l n) e f g
        ∙ sym (chain_is l k false false false false (equal_not l k (λ s. n (sym s))) (or_turned (is_plain l) (is_plain k) ∙ e) g f)

    by : (k ≡ l) ⊎ (k ≡ l → ⊥) → joined_number k l ≡ joined_number l k
    by (inl e) = ap₂ joined_number e (sym e)
    by (inr n) = rest n (is_plain k || is_plain l) refl (nat_eq k 2) refl (nat_eq l 2) refl

all_both_ways : (ks ls : List Kind) → length ks ≡ length ls → joined_all ks ls ≡ joined_all ls ks
all_both_ways [] [] n = refl
all_both_ways [] (l ∷ ls) n = absurd (omega (arith, n))
all_both_ways (k ∷ ks) [] n = absurd (omega (arith, n))
all_both_ways (k ∷ ks) (l ∷ ls) n =
    ap₂ (λ x xs. x ∷ xs) (ap (λ j. record { 0 = j }) (joined_both_ways k.0 l.0)) (all_both_ways ks ls (omega (arith, n)))

pub joined_second : (old new : List Kind) → length old ≡ length new → is_raised new old ≡ false → new ≡ joined_all old new
joined_second old new n e = sym (all_both_ways old new n ∙ raised_not new old (sym n) e)

-- Lists of operands that are joined: the first one's number comes exactly where it isn't raised.

module _ (old new : List (List Kind)) (i j n : ℕ) (grows : Grows old new) (there : i < length old)
    (even : length (stack_at old i) ≡ length (stack_at old j))
    (joined_is : stack_at new n ≡ joined_all (stack_at old i) (stack_at old j)) where
  pub join_stays : n ≡ i → is_raised (stack_at old i) (stack_at old j) ≡ false
  join_stays e = by (cases_Bool (is_raised (stack_at old i) (stack_at old j)))
    where
      same : joined_all (stack_at old i) (stack_at old j) ≡ stack_at old i
      same = sym joined_is ∙ ap (stack_at new) e ∙ grows_keeps old new i grows there

      by : (is_raised (stack_at old i) (stack_at old j) ≡ true) ⊎ (is_raised (stack_at old i) (stack_at old j) ≡ false) →
          is_raised (stack_at old i) (stack_at old j) ≡ false
      by (inr f) = f
      by (inl f) = absurd (let r = room_falls (stack_at old i) (stack_at old j) even f in let s = ap room_in same in omega (arith, r, s))

pub join_raises : (b : Bool) (n i : ℕ) → (b ≡ false → n ≡ i) → (n ≡ i → ⊥) → b ≡ true
join_raises true n i f g = refl
join_raises false n i f g = absurd (g (f refl))

-- Frames that say the same.

pub same_kinds_at : (s : Setting) (stacks : List (List Kind)) (f g : Frame) → AreSame f g → kinds_at s.names s.rest stacks g
    ≡ kinds_at s.names s.rest stacks f
same_kinds_at s stacks f g e =
    ap₂ (λ (ls : List Kind) (o : ℕ). kinds_with (kinds_of s.names ls ++ s.rest) (kinds_of s.names (stack_at stacks o))) e.locals e.operands

pub same_fits : (s : Setting) (stacks : List (List Kind)) (f g : Frame) → AreSame f g → FrameFits s stacks f → FrameFits s stacks g
same_fits s stacks f g e h = record {
  there = (let o = e.operands in let t = h.there in omega (arith, o, t));
  width = ap length e.locals ∙ h.width;
  room = subst (λ o. length (stack_at stacks o) ≤ s.m.max_stack) (sym e.operands) h.room;
}

-- what is kept, by an equal one
pub kept_some : (o : Option Frame) (g : Frame) → SameOr o (Some g) → (f : Frame) × ((o ≡ Some f) × AreSame f g)
kept_some None g h = absurd h
kept_some (Some f) g h = (f, (refl, h))

pub kept_none : (o : Option Frame) → SameOr o None → o ≡ None
kept_none None h = refl
kept_none (Some f) h = absurd h

within_some : (xs : List (Option Frame)) (i : ℕ) (a : Frame) → or_none (slice_get xs i) ≡ Some a → i < length xs
within_some [] i a e = absurd (cc e)
within_some (x ∷ xs) zero a e = omega arith
within_some (x ∷ xs) (suc i) a e = let h = within_some xs i a e in omega (arith, h)

pub kept_within : (f : Found) (place : ℕ) (g : Frame) → frame_at f place ≡ Some g → place < length f.frames.items
kept_within f place g e = within_some f.frames.items place g e

-- A place at which a frame stands.

module _ (s : Setting) (f : Found) (old g : Frame) (place : ℕ) (l : LedOver s f old g place) where
  pub over_fits : FrameFits s f.stacks old
  over_fits = same_fits s f.stacks l.kept old l.same (l.led.right.fit place l.kept l.there)

  kept_list : stack_at f.stacks l.kept.operands ≡ stack_at f.stacks old.operands
  kept_list = ap (stack_at f.stacks) (sym l.same.operands)

  pub over_width : length old.locals.value.items ≡ length g.locals.value.items
  over_width = over_fits.width ∙ sym l.led.fits.width

  pub over_within : place < length f.frames.items
  over_within = kept_within f place l.kept l.there

  pub over_uneven : (length (stack_at f.stacks old.operands) ≡ length (stack_at f.stacks g.operands) → ⊥) → Untypable s
  over_uneven n = uneven s f place l.kept g l.led.right l.there l.led.fits l.led.below (λ e. n (sym (ap length kept_list) ∙ e))

  module _ (even : length (stack_at f.stacks old.operands) ≡ length (stack_at f.stacks g.operands)) where
    kept_even : length (stack_at f.stacks l.kept.operands) ≡ length (stack_at f.stacks g.operands)
    kept_even = ap length kept_list ∙ even

    pub over_stays : (new : Found) → Stays f.stacks old g → Grows f.stacks new.stacks → new.frames.items ≡ f.frames.items →
        new.waiting ≡ f.waiting →
        Leads s f new (kinds_at s.names s.rest f.stacks g) place
    over_stays new t grows frames waiting = stays_leads s f place l.kept g l.led.right l.there l.led.fits l.led.below kept_even new
        (ap (λ ks. is_raised ks g.locals.value.items) (sym l.same.locals) ∙ t.locals)
        (ap (λ ks. is_raised ks (stack_at f.stacks g.operands)) kept_list ∙ t.operands) grows frames waiting

    kept_up : (mid : List (List Kind)) (h : Frame) → RaisesTo f.stacks mid old g h →
        (is_raised l.kept.locals.value.items g.locals.value.items ≡ true)
        ⊎ (is_raised (stack_at f.stacks l.kept.operands) (stack_at f.stacks g.operands) ≡ true)
    kept_up mid h r = by r.up
      where
        by : (is_raised old.locals.value.items g.locals.value.items ≡ true)
            ⊎ (is_raised (stack_at f.stacks old.operands) (stack_at f.stacks g.operands) ≡ true) →
            (is_raised l.kept.locals.value.items g.locals.value.items ≡ true)
            ⊎ (is_raised (stack_at f.stacks l.kept.operands) (stack_at f.stacks g.operands) ≡ true)
        by (inl e) = inl (ap (λ ks. is_raised ks g.locals.value.items) (sym l.same.locals) ∙ e)
        by (inr e) = inr (ap (λ ks. is_raised ks (stack_at f.stacks g.operands)) kept_list ∙ e)

    pub over_first : (mid : List (List Kind)) (h : Frame) → RaisesTo f.stacks mid old g h → place ≡ 0 → Untypable s
    over_first mid h r e = first_raised s f place l.kept g l.led.right l.there l.led.fits l.led.below kept_even e (kept_up mid h r)

    pub over_raised : (new : Found) (h : Frame) → RaisesTo f.stacks new.stacks old g h → Grows f.stacks new.stacks → (place ≡ 0 → ⊥) →
        new.frames.items ≡ slice_set f.frames.items place (Some h) → new.waiting ≡ slice_set f.waiting place true →
        Leads s f new (kinds_at s.names s.rest f.stacks g) place
    over_raised new h r grows not_first frames waiting =
        raised_leads s f place l.kept g l.led.right l.there l.led.fits l.led.below kept_even new h grows
        (r.locals ∙ ap (λ ks. joined_all ks g.locals.value.items) l.same.locals)
        (r.operands ∙ ap (λ ks. joined_all ks (stack_at f.stacks g.operands)) (sym kept_list)) r.there
        (let w = over_within in let m = l.led.right.frames in omega (arith, w, m)) not_first (kept_up new.stacks h r) frames waiting

-- A place.

pub past_code : (s : Setting) (f : Found) (g : Frame) (place : ℕ) → LedTo s f g place → length f.frames.items ≤ place → Untypable s
past_code s f g place l h t =
    let led = l.below t in
    let is = t.typed place led.kinds led.typed in
    let w = slice_get_within s.m.code place is.instr is.there in
    let m = l.right.frames in omega (arith, w, m, h)

pub newly_kept : (s : Setting) (old new : Found) (left g : Frame) (place : ℕ) → LedTo s old left place → AreSame left g →
    place < length old.frames.items →
    frame_at old place ≡ None → new.stacks ≡ old.stacks → new.frames.items ≡ slice_set old.frames.items place (Some g) →
    new.waiting ≡ slice_set old.waiting place true → Leads s old new (kinds_at s.names s.rest old.stacks left) place
newly_kept s old new left g place l same within none stacks frames waiting =
    subst (λ k. Leads s old new k place) (same_kinds_at s old.stacks left g same)
    (first_leads s old new place g l.right (same_fits s old.stacks left g same l.fits)
    (λ t. subst (λ k. LeadsTo t.at k place) (sym (same_kinds_at s old.stacks left g same)) (l.below t))
    (let m = l.right.frames in omega (arith, m, within)) none stacks frames waiting)

-- All places of a list.

pub record LeadsSoFar (s : Setting) (old now : Found) (k : Kinds) (places : List ℕ) (count : ℕ) : Type 0 where
  pub goes : Goes s old now
  pub leads : (i : ℕ) → i < count → LeadsTo (table s now) k (get_or places i 0)

contains_at : (xs : List ℕ) (i : ℕ) → i < length xs → Contains xs (get_or xs i 0)
contains_at xs i h = (i, h, get_or_default xs i (get_or xs i 0) 0 h)

module _ (s : Setting) (old : Found) (g : Frame) where
  abbrev pub kinds_led : Kinds
  kinds_led = kinds_at s.names s.rest old.stacks g

  pub led_none : (places : List ℕ) (now : Found) → now ≡ old → LedToAll s old g places → LeadsSoFar s old now kinds_led places 0
  led_none places now e l = subst (λ f. LeadsSoFar s old f kinds_led places 0) (sym e)
      (record { goes = goes_nowhere s old l.right; leads = λ i h. absurd (omega (arith, h)) })

  still_led : (now : Found) → Goes s old now → FrameFits s old.stacks g → kinds_at s.names s.rest now.stacks g ≡ kinds_led
  still_led now goes fits = kinds_grown s.names s.rest old.stacks now.stacks g goes.grows fits.there

  pub led_at : (now : Found) (place : ℕ) → Goes s old now → FrameFits s old.stacks g → IsBelow s kinds_led place → LedTo s now g place
  led_at now place goes fits below = record {
    right = goes.right;
    fits = fits_grown s old.stacks now.stacks g goes.grows fits;
    below = λ t. subst (λ k. LeadsTo t.at k place) (sym (still_led now goes fits)) (below t);
  }

  pub led_next : (places : List ℕ) (now : Found) (i : ℕ) → LedToAll s old g places → LeadsSoFar s old now kinds_led places i →
      i < length places →
      LedTo s now g (get_or places i 0)
  led_next places now i l so h = led_at now (get_or places i 0) so.goes l.fits (l.below (get_or places i 0) (contains_at places i h))

  pub led_more : (places : List ℕ) (now new : Found) (i : ℕ) → LedToAll s old g places → LeadsSoFar s old now kinds_led places i →
      Leads s now new (kinds_at s.names s.rest now.stacks g) (get_or places i 0) → LeadsSoFar s old new kinds_led places (i + 1)
  led_more places now new i l so h = record { goes = goes_on s old now new so.goes h.goes; leads = λ j b. by j (cases_lt j i) b }
    where
      here : LeadsTo (table s new) kinds_led (get_or places i 0)
      here = subst (λ k. LeadsTo (table s new) k (get_or places i 0)) (still_led now so.goes l.fits) h.leads

      by : (j : ℕ) → (j < i) ⊎ (i ≤ j) → j < i + 1 → LeadsTo (table s new) kinds_led (get_or places j 0)
      by j (inl b) c = h.goes.keeps kinds_led (get_or places j 0) (so.leads j b)
      by j (inr b) c = let e : i ≡ j = omega (arith, b, c) in subst (λ n. LeadsTo (table s new) kinds_led (get_or places n 0)) e here

  pub led_all : (places : List ℕ) (now : Found) (i : ℕ) → LeadsSoFar s old now kinds_led places i → length places ≤ i →
      LeadsAll s old now kinds_led places
  led_all places now i so h = record { goes = so.goes; leads = λ next c. at next c }
    where
      at : (next : ℕ) → Contains places next → LeadsTo (table s now) kinds_led next
      at next c = subst (λ n. LeadsTo (table s now) kinds_led n) (get_or_default places c.0 0 next c.1 ∙ c.2)
          (so.leads c.0 (omega (arith, h, c.1)))

  -- one place, and then those of a list
  pub led_first : (target : ℕ) (further : List ℕ) → LedToAll s old g (target ∷ further) → LedTo s old g target
  led_first target further l = record { right = l.right; fits = l.fits; below = l.below target (0, omega arith, refl) }

  pub led_further : (target : ℕ) (further : List ℕ) (mid : Found) → LedToAll s old g (target ∷ further) → Leads s old mid kinds_led target →
      LedToAll s mid g further
  led_further target further mid l h = record {
    right = h.goes.right;
    fits = fits_grown s old.stacks mid.stacks g h.goes.grows l.fits;
    below = λ next c t. subst (λ k. LeadsTo t.at k next) (sym (still_led mid h.goes l.fits))
        (l.below next (Contains-append_right (target ∷ []) further next c) t);
  }

  pub led_both : (target : ℕ) (further : List ℕ) (mid new : Found) (b : Bool) → LedToAll s old g (target ∷ further) →
      Leads s old mid kinds_led target →
      LeadsAllOr s mid new (kinds_at s.names s.rest mid.stacks g) further b → LeadsAllOr s old new kinds_led (target ∷ further) b
  led_both target further mid new false l h r = r
  led_both target further mid new true l h r = record {
    goes = goes_on s old mid new h.goes r.goes;
    leads =
        λ next c. by next (Contains-append_cases (target ∷ []) further next c);
  }
    where
      by : (next : ℕ) → Contains (target ∷ []) next ⊎ Contains further next → LeadsTo (table s new) kinds_led next
      by next (inr c) = subst (λ k. LeadsTo (table s new) k next) (still_led mid h.goes l.fits) (r.leads next c)
      by next (inl c) = only c.0 c.1 c.2
        where
          only : (i : ℕ) → i < 1 → get_or (target ∷ []) i next ≡ next → LeadsTo (table s new) kinds_led next
          only zero b e = subst (λ n. LeadsTo (table s new) kinds_led n) e (r.goes.keeps kinds_led target h.leads)
          only (suc i) b e = absurd (omega (arith, b))

-- What is read of a list.

pub item_read : {A : Type 0} (xs : List A) (i : ℕ) (x : A) → (i < length xs) × HoldsAt (λ y. x ≡ y) xs i → slice_get xs i ≡ Some x
item_read xs i x h = slice_get-get_or xs i x h.0 ∙ ap Some (sym (h.1 x))

-- Results that are answered as they are.

pub over_then : (old new : Found) (o g : Frame) (place : ℕ) (r : Result Bool Memory) → SameOr (frame_at old place) (Some o) →
    IfOk r (λ b. (s : Setting) → LedOver s old o g place → LeadsOr s old new (kinds_at s.names s.rest old.stacks g) place b) →
    IfOk r (λ b. (s : Setting) → LedTo s old g place → LeadsOr s old new (kinds_at s.names s.rest old.stacks g) place b)
over_then old new o g place (Err e) k h = tt
over_then old new o g place (Ok b) k h = λ s l.
    let (f, (e, same)) = kept_some (frame_at old place) o k in h s (record { led = l; kept = f; there = e; same = same })

pub over_given : (s : Setting) (old : Found) (o g : Frame) (place : ℕ) → SameOr (frame_at old place) (Some o) → LedTo s old g place →
    LedOver s old o g place
over_given s old o g place k l =
    let (f, (e, same)) = kept_some (frame_at old place) o k in record { led = l; kept = f; there = e; same = same }

pub further_then : (old new : Found) (g : Frame) (ways further : List ℕ) (r : Result Bool Memory) → ways ≡ further →
    IfOk r (λ b. (s : Setting) → LedToAll s old g further → LeadsAllOr s old new (kinds_at s.names s.rest old.stacks g) further b) →
    IfOk r (λ b. (s : Setting) → LedToAll s old g ways → LeadsAllOr s old new (kinds_at s.names s.rest old.stacks g) ways b)
further_then old new g ways further r e h =
    subst (λ ns. IfOk r (λ b. (s : Setting) → LedToAll s old g ns → LeadsAllOr s old new (kinds_at s.names s.rest old.stacks g) ns b))
    (sym e) h

pub further_given : (s : Setting) (old : Found) (g : Frame) (ways further : List ℕ) → ways ≡ further → LedToAll s old g ways →
    LedToAll s old g further
further_given s old g ways further e l = subst (LedToAll s old g) e l

pub led_as : (s : Setting) (old mid : Found) (k : Kinds) (place : ℕ) (d : Bool) → LeadsOr s old mid k place d → d ≡ true →
    Leads s old mid k place
led_as s old mid k place d h e = let f : LeadsOr s old mid k place true = subst (LeadsOr s old mid k place) e h in f

pub led_not : (s : Setting) (old mid : Found) (k : Kinds) (place : ℕ) (d : Bool) → LeadsOr s old mid k place d → d ≡ false → Untypable s
led_not s old mid k place d h e = let f : LeadsOr s old mid k place false = subst (LeadsOr s old mid k place) e h in f

pub both_given : (s : Setting) (old mid : Found) (g : Frame) (target : ℕ) (further ways : List ℕ) (d : Bool) → ways ≡ target ∷ further →
    ((z : Setting) → LedTo z old g target → LeadsOr z old mid (kinds_at z.names z.rest old.stacks g) target d) → d ≡ true →
    LedToAll s old g ways →
    LedToAll s mid g further
both_given s old mid g target further ways d e led is l =
    let all : LedToAll s old g (target ∷ further) = subst (LedToAll s old g) e l in
    led_further s old g target further mid all
    (led_as s old mid (kinds_at s.names s.rest old.stacks g) target d (led s (led_first s old g target further all)) is)

pub both_then : (old mid new : Found) (g : Frame) (target : ℕ) (further ways : List ℕ) (d : Bool) (r : Result Bool Memory) →
    ways ≡ target ∷ further →
    ((s : Setting) → LedTo s old g target → LeadsOr s old mid (kinds_at s.names s.rest old.stacks g) target d) → d ≡ true →
    IfOk r (λ b. (s : Setting) → LedToAll s mid g further → LeadsAllOr s mid new (kinds_at s.names s.rest mid.stacks g) further b) →
    IfOk r (λ b. (s : Setting) → LedToAll s old g ways → LeadsAllOr s old new (kinds_at s.names s.rest old.stacks g) ways b)
both_then old mid new g target further ways d (Err m) e led is h = tt
both_then old mid new g target further ways d (Ok b) e led is h = λ s l.
    let all : LedToAll s old g (target ∷ further) = subst (LedToAll s old g) e l in
    let first : Leads s old mid (kinds_at s.names s.rest old.stacks g) target =
    led_as s old mid (kinds_at s.names s.rest old.stacks g) target d (led s (led_first s old g target further all)) is in
    subst (λ ns. LeadsAllOr s old new (kinds_at s.names s.rest old.stacks g) ns b) (sym e)
    (led_both s old g target further mid new b all first (h s (led_further s old g target further mid all first)))

pub first_not : (s : Setting) (old mid : Found) (g : Frame) (target : ℕ) (further ways : List ℕ) (d : Bool) → ways ≡ target ∷ further →
    ((z : Setting) → LedTo z old g target → LeadsOr z old mid (kinds_at z.names z.rest old.stacks g) target d) → d ≡ false →
    LedToAll s old g ways → Untypable s
first_not s old mid g target further ways d e led is l =
    let all : LedToAll s old g (target ∷ further) = subst (LedToAll s old g) e l in
    let f : LeadsOr s old mid (kinds_at s.names s.rest old.stacks g) target false =
    subst (LeadsOr s old mid (kinds_at s.names s.rest old.stacks g) target) is (led s (led_first s old g target further all)) in f
