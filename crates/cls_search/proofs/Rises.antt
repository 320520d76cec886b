-- What leads to a place is kept there, or raises what is kept, or shows that there is no typing.
use Rattle.std.proofs.Common.{◌≡◌, ℕ, suc, ◌+◌, ◌<◌, ◌≤◌, ◌⊎◌, inl, inr, true, false, List, [], ◌∷◌, ◌++◌, length, Option, Some, None}
use Rattle.std.proofs.Common.{option_map, refl, sym, ap, ap₂, subst, ◌∙◌, arith, length-append}
use Rattle.std.specs.Prelude.{slice_set, nat_eq, if◌then◌else◌}
use Rattle.std.proofs.lemmas.List.{length-map}
use Rattle.std.proofs.lemmas.Bool.Decides.{nat_tests}
use Rattle.cls_verify.specs.Kinds.{Fits, AllFit}
use Rattle.cls_verify.specs.Kinds as model
use Rattle.cls_verify.specs.Joins.{join, join_all}
use Rattle.cls_verify.specs.Typing.{Kinds, LeadsTo, Typing, first_locals}
use Rattle.cls_verify.specs.Search.{raised, updated}
use Rattle.cls_verify.proofs.Least.{joins_least, all_fit_both, joins_left}
use Rattle.cls_verify.proofs.Searching.{Keeps, settled, raise_keeps, first_keeps, leads_raised}
use Rattle.cls_kinds.specs.declared.kind.Kind.{Kind}
use Rattle.cls_kinds.specs.Numbers.{room_in, is_raised, joined_all}
use Rattle.cls_kinds.specs.Named.{kind_of, kinds_of}
use Rattle.cls_kinds.specs.Stacks.{stack_at, Grows}
use Rattle.cls_kinds.proofs.Naming.{joined_all_is}
use Rattle.cls_kinds.proofs.Joining.{room_less, room_falls}
use Rattle.cls_kinds.proofs.Stacking.{grows_none, grows_keeps}
use Rattle.cls_rows.proofs.Alike.{kinds_with}
use Rattle.cls_rows.specs.declared.frame.Frame.{Frame}
use Rattle.cls_rows.specs.Frames.{kinds_at}
use Rattle.cls_search.specs.declared.leading.Found.{Found}
use Rattle.cls_search.specs.Setting.{Setting}
use Rattle.cls_search.specs.Kept.{IsRight, FrameFits, frame_at, table, waits, frame_room, place_room, most_of}
use Rattle.cls_search.specs.Going.{Leads, Untypable}
use Rattle.cls_search.proofs.Raising.{stays_in_kinds, raised_in_kinds, room_most}
use Rattle.cls_search.proofs.Changing.{leads_same, grown_goes, table_is, changed_goes}

-- Kinds fit themselves, and are joined with themselves to what they are.

fits_self : (k : model.Kind) → Fits k k
fits_self model.Int = tt
fits_self model.Text = tt
fits_self model.Null = tt
fits_self (model.Instance c) = inl refl
fits_self model.Any = tt

pub all_fit_self : (ks : List model.Kind) → AllFit ks ks
all_fit_self [] = tt
all_fit_self (k ∷ ks) = (fits_self k, all_fit_self ks)

all_joined_self : (ks : List model.Kind) → join_all ks ks ≡ ks
all_joined_self ks = all_fit_both (join_all ks ks) ks (joins_least ks ks ks (all_fit_self ks) (all_fit_self ks)) (joins_left ks ks refl)

-- lists that end alike
join_front : (xs ys rest : List model.Kind) → length xs ≡ length ys → join_all (xs ++ rest) (ys ++ rest) ≡ join_all xs ys ++ rest
join_front [] [] rest n = all_joined_self rest
join_front [] (y ∷ ys) rest n = absurd (omega (arith, n))
join_front (x ∷ xs) [] rest n = absurd (omega (arith, n))
join_front (x ∷ xs) (y ∷ ys) rest n = ap (λ ks. join x y ∷ ks) (join_front xs ys rest (omega (arith, n)))

same_end : (xs ys rest : List model.Kind) → length xs ≡ length ys → xs ++ rest ≡ ys ++ rest → xs ≡ ys
same_end [] [] rest n e = refl
same_end [] (y ∷ ys) rest n e = absurd (omega (arith, n))
same_end (x ∷ xs) [] rest n e = absurd (omega (arith, n))
same_end (x ∷ xs) (y ∷ ys) rest n e =
    let heads : x ≡ y = cc e in let tails : xs ++ rest ≡ ys ++ rest = cc e in ap₂ (λ k ks. k ∷ ks) heads
    (same_end xs ys rest (omega (arith, n)) tails)

fit_many : (ks ls : List model.Kind) → AllFit ks ls → length ks ≡ length ls
fit_many [] [] a = refl
fit_many [] (l ∷ ls) a = absurd a
fit_many (k ∷ ks) [] a = absurd a
fit_many (k ∷ ks) (l ∷ ls) a = ap (λ n. suc n) (fit_many ks ls a.1)

join_many : (ks ls : List model.Kind) → length ks ≡ length ls → length (join_all ks ls) ≡ length ks
join_many [] ls n = refl
join_many (k ∷ ks) [] n = absurd (omega (arith, n))
join_many (k ∷ ks) (l ∷ ls) n = ap (λ j. suc j) (join_many ks ls (omega (arith, n)))

joined_many : (ks ls : List Kind) → length ks ≡ length ls → length (joined_all ks ls) ≡ length ks
joined_many [] ls n = refl
joined_many (k ∷ ks) [] n = absurd (omega (arith, n))
joined_many (k ∷ ks) (l ∷ ls) n = ap (λ j. suc j) (joined_many ks ls (omega (arith, n)))

itself : (n : ℕ) → nat_eq n n ≡ true
itself n = grind (arith, nat_tests)

module _ (s : Setting) where
  abbrev kinds : List (List Kind) → Frame → Kinds
  kinds stacks g = kinds_at s.names s.rest stacks g

  abbrev IsBelow : Kinds → ℕ → Type 0
  IsBelow k place = (t : Typing s.p s.class s.method s.m) → LeadsTo t.at k place

  locals_many : (stacks : List (List Kind)) (g h : Frame) → FrameFits s stacks g → FrameFits s stacks h → length (kinds stacks g).locals
      ≡ length (kinds stacks h).locals
  locals_many stacks g h f e =
      let a = length-append (kinds_of s.names g.locals.value.items) s.rest in
      let b = length-append (kinds_of s.names h.locals.value.items) s.rest in
      let c = length-map g.locals.value.items (kind_of s.names) in
      let d = length-map h.locals.value.items (kind_of s.names) in
      let v = f.width in let w = e.width in omega (arith, a, b, c, d, v, w)

  operands_many : (stacks : List (List Kind)) (g h : Frame) → length (stack_at stacks g.operands) ≡ length (stack_at stacks h.operands) →
      length (kinds stacks g).operands ≡ length (kinds stacks h).operands
  operands_many stacks g h n = length-map (stack_at stacks g.operands) (kind_of s.names) ∙ n ∙
      sym (length-map (stack_at stacks h.operands) (kind_of s.names))

  -- The first frame at a place.
  pub first_leads : (old new : Found) (place : ℕ) (g : Frame) → IsRight s old → FrameFits s old.stacks g →
      IsBelow (kinds old.stacks g) place → place < length s.m.code →
      frame_at old place ≡ None → new.stacks ≡ old.stacks → new.frames.items ≡ slice_set old.frames.items place (Some g) →
      new.waiting ≡ slice_set old.waiting place true → Leads s old new (kinds old.stacks g) place
  first_leads old new place g right fits below within none stacks frames waiting =
      let grows : Grows old.stacks new.stacks = subst (Grows old.stacks) (sym stacks) (grows_none old.stacks) in
      let same : kinds new.stacks g ≡ kinds old.stacks g = ap (λ x. kinds x g) stacks in
      let fits_new : FrameFits s new.stacks g = subst (λ x. FrameFits s x g) (sym stacks) fits in
      let unkept : table s old place ≡ None = ap (option_map (kinds_at s.names s.rest old.stacks)) none in
      let locals = room_most g.locals.value.items in
      let operands = room_most (stack_at new.stacks g.operands) in
      let width = fits_new.width in
      let deep = fits_new.room in
      let was : frame_room (most_of s) new.stacks (frame_at old place) ≡ most_of s + 1 = ap (frame_room (most_of s) new.stacks) none in
      record {
        goes = changed_goes s old new place g right grows frames waiting within fits_new
            (λ e. let q : Some (kinds_with (first_locals s.p s.class s.m) []) ≡ None = sym right.first ∙ ap (table s old) (sym e) ∙
            unkept in cc q)
            (λ t. subst (λ k. LeadsTo t.at k place) (sym same) (below t))
            (first_keeps (table s old) place (kinds new.stacks g) unkept)
            (omega (arith, locals, operands, width, deep, was));
        leads = record {
          kinds = kinds new.stacks g;
          typed = table_is s old new place g right grows frames waiting within place ∙ updated_here (table s old) place
              (kinds new.stacks g);
          locals = subst (λ k. AllFit (kinds old.stacks g).locals k.locals) (sym same) (all_fit_self (kinds old.stacks g).locals);
          operands = subst (λ k. AllFit (kinds old.stacks g).operands k.operands) (sym same) (all_fit_self (kinds old.stacks g).operands);
        };
      }
    where
      updated_here : (at : ℕ → Option Kinds) (n : ℕ) (k : Kinds) → updated at n k n ≡ Some k
      updated_here at n k = ap (λ b. if b then Some k else at n) (itself n)

  -- Another frame at a place.
  module _ (old : Found) (place : ℕ) (o g : Frame) (right : IsRight s old) (kept : frame_at old place ≡ Some o)
      (fits : FrameFits s old.stacks g)
      (below : IsBelow (kinds old.stacks g) place) where
    fits_kept : FrameFits s old.stacks o
    fits_kept = right.fit place o kept

    kept_kinds : table s old place ≡ Some (kinds old.stacks o)
    kept_kinds = ap (option_map (kinds_at s.names s.rest old.stacks)) kept

    -- another number of operands
    pub uneven : (length (stack_at old.stacks o.operands) ≡ length (stack_at old.stacks g.operands) → ⊥) → Untypable s
    uneven n t =
        let a = right.below t place (kinds old.stacks o) kept_kinds in
        let b = below t in
        let same : b.kinds ≡ a.kinds = let q : Some b.kinds ≡ Some a.kinds = sym b.typed ∙ a.typed in cc q in
        let x = fit_many (kinds old.stacks o).operands a.kinds.operands a.operands in
        let y = fit_many (kinds old.stacks g).operands b.kinds.operands b.operands in
        let z = ap (λ (k : Kinds). length k.operands) same in
        let u = length-map (stack_at old.stacks o.operands) (kind_of s.names) in
        let v = length-map (stack_at old.stacks g.operands) (kind_of s.names) in
        n (omega (arith, x, y, z, u, v))

    module _ (even : length (stack_at old.stacks o.operands) ≡ length (stack_at old.stacks g.operands)) where
      rows_many : length o.locals.value.items ≡ length g.locals.value.items
      rows_many = fits_kept.width ∙ sym fits.width

      all_many : length (kinds old.stacks o).locals ≡ length (kinds old.stacks g).locals
      all_many = locals_many old.stacks o g fits_kept fits

      deep_many : length (kinds old.stacks o).operands ≡ length (kinds old.stacks g).operands
      deep_many = operands_many old.stacks o g even

      kinds_many : length (kinds_of s.names o.locals.value.items) ≡ length (kinds_of s.names g.locals.value.items)
      kinds_many = length-map o.locals.value.items (kind_of s.names) ∙ rows_many ∙ sym (length-map g.locals.value.items (kind_of s.names))

      -- nothing is raised
      pub stays_leads : (new : Found) → is_raised o.locals.value.items g.locals.value.items ≡ false →
          is_raised (stack_at old.stacks o.operands) (stack_at old.stacks g.operands) ≡ false → Grows old.stacks new.stacks →
          new.frames.items ≡ old.frames.items → new.waiting ≡ old.waiting → Leads s old new (kinds old.stacks g) place
      stays_leads new locals operands grows frames waiting =
          let goes = grown_goes s old new right grows frames waiting in
          let locals_stay : join_all (kinds old.stacks o).locals (kinds old.stacks g).locals ≡ (kinds old.stacks o).locals =
          join_front (kinds_of s.names o.locals.value.items) (kinds_of s.names g.locals.value.items) s.rest kinds_many
          ∙ ap (λ ks. ks ++ s.rest) (stays_in_kinds s.names s.are_names o.locals.value.items g.locals.value.items rows_many locals) in
          let operands_stay : join_all (kinds old.stacks o).operands (kinds old.stacks g).operands ≡ (kinds old.stacks o).operands =
          stays_in_kinds s.names s.are_names (stack_at old.stacks o.operands) (stack_at old.stacks g.operands) even operands in
          record {
            goes = goes;
            leads = goes.keeps (kinds old.stacks g) place (settled (table s old) place (kinds old.stacks o) (kinds old.stacks g) kept_kinds
                all_many deep_many
                (ap₂ kinds_with locals_stay operands_stay));
          }

      -- the first place would be raised
      pub first_raised : place ≡ 0 → (is_raised o.locals.value.items g.locals.value.items ≡ true)
          ⊎ (is_raised (stack_at old.stacks o.operands) (stack_at old.stacks g.operands) ≡ true) → Untypable s
      first_raised zeroth up t = by up
        where
          first_is : kinds old.stacks o ≡ kinds_with (first_locals s.p s.class s.m) []
          first_is = let q : Some (kinds old.stacks o) ≡ Some (kinds_with (first_locals s.p s.class s.m) []) =
              sym kept_kinds ∙ ap (table s old) zeroth ∙ right.first in cc q

          led : LeadsTo t.at (kinds old.stacks g) place
          led = below t

          led_is : led.kinds ≡ kinds old.stacks o
          led_is = let q : Some led.kinds ≡ Some (kinds old.stacks o) = sym led.typed ∙ ap t.at zeroth ∙ t.first ∙
              ap (λ (k : Kinds). Some k) (sym first_is) in cc q

          stays : (ks ls : List model.Kind) → length ks ≡ length ls → AllFit ls ks → join_all ks ls ≡ ks
          stays ks ls n f = all_fit_both (join_all ks ls) ks (joins_least ks ls ks (all_fit_self ks) f) (joins_left ks ls n)

          by : (is_raised o.locals.value.items g.locals.value.items ≡ true)
              ⊎ (is_raised (stack_at old.stacks o.operands) (stack_at old.stacks g.operands) ≡ true) → ⊥
          by (inl h) = raised_in_kinds s.names s.are_names o.locals.value.items g.locals.value.items h
              (same_end (join_all (kinds_of s.names o.locals.value.items) (kinds_of s.names g.locals.value.items))
              (kinds_of s.names o.locals.value.items) s.rest
              (join_many (kinds_of s.names o.locals.value.items) (kinds_of s.names g.locals.value.items) kinds_many)
              (sym (join_front (kinds_of s.names o.locals.value.items) (kinds_of s.names g.locals.value.items) s.rest kinds_many)
              ∙ stays (kinds old.stacks o).locals (kinds old.stacks g).locals all_many
              (subst (λ k. AllFit (kinds old.stacks g).locals k.locals) led_is led.locals)))
          by (inr h) = raised_in_kinds s.names s.are_names (stack_at old.stacks o.operands) (stack_at old.stacks g.operands) h
              (stays (kinds old.stacks o).operands (kinds old.stacks g).operands deep_many
              (subst (λ k. AllFit (kinds old.stacks g).operands k.operands) led_is led.operands))

      -- it is raised
      module _ (new : Found) (h : Frame) (grows : Grows old.stacks new.stacks)
          (locals : h.locals.value.items ≡ joined_all o.locals.value.items g.locals.value.items)
          (operands : stack_at new.stacks h.operands ≡ joined_all (stack_at old.stacks o.operands) (stack_at old.stacks g.operands))
          (there : h.operands < length new.stacks) where
        raised_is : kinds new.stacks h ≡ raised (Some (kinds old.stacks o)) (kinds old.stacks g)
        raised_is = ap₂ kinds_with
            (ap (λ ks. kinds_of s.names ks ++ s.rest) locals
            ∙ ap (λ ks. ks ++ s.rest) (joined_all_is s.names s.are_names o.locals.value.items g.locals.value.items)
            ∙ sym (join_front (kinds_of s.names o.locals.value.items) (kinds_of s.names g.locals.value.items) s.rest kinds_many))
            (ap (kinds_of s.names) operands ∙ joined_all_is s.names s.are_names (stack_at old.stacks o.operands)
            (stack_at old.stacks g.operands))

        raised_below : IsBelow (kinds new.stacks h) place
        raised_below t = subst (λ k. LeadsTo t.at k place) (sym raised_is)
            (joined t (right.below t place (kinds old.stacks o) kept_kinds) (below t))
          where
            joined : (t : Typing s.p s.class s.method s.m) → LeadsTo t.at (kinds old.stacks o) place →
                LeadsTo t.at (kinds old.stacks g) place →
                LeadsTo t.at (raised (Some (kinds old.stacks o)) (kinds old.stacks g)) place
            joined t a b =
                let same : b.kinds ≡ a.kinds = let q : Some b.kinds ≡ Some a.kinds = sym b.typed ∙ a.typed in cc q in
                record {
                  kinds = a.kinds;
                  typed = a.typed;
                  locals = joins_least (kinds old.stacks o).locals (kinds old.stacks g).locals a.kinds.locals a.locals
                      (subst (λ x. AllFit (kinds old.stacks g).locals x.locals) same b.locals);
                  operands = joins_least (kinds old.stacks o).operands (kinds old.stacks g).operands a.kinds.operands a.operands
                      (subst (λ x. AllFit (kinds old.stacks g).operands x.operands) same b.operands);
                }

        raised_fits : FrameFits s new.stacks h
        raised_fits = record {
          there = there;
          width = ap length locals ∙ joined_many o.locals.value.items g.locals.value.items rows_many ∙ fits_kept.width;
          room = (let a = ap length operands in let b = joined_many (stack_at old.stacks o.operands) (stack_at old.stacks g.operands) even
              in
              let r = fits_kept.room in omega (arith, a, b, r));
        }

        pub raised_leads : place < length s.m.code → (place ≡ 0 → ⊥) → (is_raised o.locals.value.items g.locals.value.items ≡ true)
            ⊎ (is_raised (stack_at old.stacks o.operands) (stack_at old.stacks g.operands) ≡ true) →
            new.frames.items ≡ slice_set old.frames.items place (Some h) → new.waiting ≡ slice_set old.waiting place true →
            Leads s old new (kinds old.stacks g) place
        raised_leads within not_first up frames waiting =
            record {
              goes = changed_goes s old new place h right grows frames waiting within raised_fits not_first raised_below
                  (subst (λ k. Keeps (table s old) (updated (table s old) place k)) (sym raised_is)
                  (raise_keeps (table s old) place (kinds old.stacks o) (kinds old.stacks g) kept_kinds all_many deep_many))
                  (room up);
              leads = leads_same (updated (table s old) place (kinds new.stacks h)) (table s new)
                  (table_is s old new place h right grows frames waiting within) (kinds old.stacks g) place
                  (subst (λ k. LeadsTo (updated (table s old) place k) (kinds old.stacks g) place) (sym raised_is)
                  (leads_raised (table s old) place (kinds old.stacks o) (kinds old.stacks g) all_many deep_many));
            }
          where
            was : frame_room (most_of s) new.stacks (frame_at old place) ≡ room_in o.locals.value.items + room_in
                (stack_at old.stacks o.operands)
            was = ap (frame_room (most_of s) new.stacks) kept
                ∙ ap (λ ks. room_in o.locals.value.items + room_in ks) (grows_keeps old.stacks new.stacks o.operands grows fits_kept.there)

            now : frame_room (most_of s) new.stacks (Some h) ≡ room_in (joined_all o.locals.value.items g.locals.value.items)
                + room_in (joined_all (stack_at old.stacks o.operands) (stack_at old.stacks g.operands))
            now = ap₂ (λ ls os. room_in ls + room_in os) locals operands

            room : (is_raised o.locals.value.items g.locals.value.items ≡ true)
                ⊎ (is_raised (stack_at old.stacks o.operands) (stack_at old.stacks g.operands) ≡ true) →
                place_room (most_of s) new.stacks (Some h) true ≤ place_room (most_of s) new.stacks (frame_at old place) (waits old place)
            room (inl r) =
                let a = room_falls o.locals.value.items g.locals.value.items rows_many r in
                let b = room_less (stack_at old.stacks o.operands) (stack_at old.stacks g.operands) even in
                let x = was in let y = now in omega (arith, a, b, x, y)
            room (inr r) =
                let a = room_less o.locals.value.items g.locals.value.items rows_many in
                let b = room_falls (stack_at old.stacks o.operands) (stack_at old.stacks g.operands) even r in
                let x = was in let y = now in omega (arith, a, b, x, y)
