-- Each `do` comes to where its protocol begins: past protocols that only go on as others there is a state or the end, since no cycle of
-- them
-- is without a message.
use Rattle.std.proofs.Common.{◌≡◌, ℕ, zero, suc, ◌+◌, ◌<◌, ◌≤◌, List, [], ◌∷◌, length, map, Some, refl, sym, ap, ◌∙◌, subst, inl, inr}
use Rattle.std.proofs.Common.{⊎_elim, Bool, true, false, if◌then◌else◌, Option, arith}
use Rattle.std.specs.Prelude.{Contains}
use Rattle.std.specs.Str.{bytes_eq}
use Rattle.std.proofs.lemmas.List.Elements.{Contains-append_left, Contains-append_right}
use Rattle.std.proofs.lemmas.Slice.Eq.{bytes_eq-Decides}
use Rattle.mg_text.specs.Call.{Name}
use Rattle.mg_text.specs.declared.place.Place.{Place}
use Rattle.mg_read.specs.Culprit.{culprit}
use Rattle.mg_read.specs.First.{Clean}
use Rattle.scr_tree.specs.Tree.{Titled, body_in, Statements, Nothing, Says, Choice, Rec, Continue, Do}
use Rattle.scr_tree.specs.Spots.{Spot, spot, Past, Opens as Opening, Way, spots, all_spots, spots_of}
use Rattle.scr_tree.specs.Control.{AtOnce, starting, passing, into_rec}
use Rattle.scr_tree.specs.Control as control
use Rattle.scr_tree.specs.Going.{GoesOn, Leads, there, onward, Unguarded, UnknownProtocol}
use Rattle.scr_tree.specs.Meaning.{choices, numbered, numbered_parts}
use Rattle.scr_tree.specs.Protocol.{Protocol}
use Rattle.scr_tree.specs.Steps.{Plain, whole, body_named}
use Rattle.scr_tree.specs.Valid.{AreDistinct}
use Rattle.scr_trace.specs.declared.arrow.Hop.{Hop}
use Rattle.scr_trace.specs.declared.arrow.Hop.TheVariants as hops
use Rattle.scr_trace.specs.Positions.{states_in, state_positions, ComesTo, at_end}
use Rattle.scr_trace.specs.inner.Laying.{Work, Known, Gathered, nothing, lay, lay_in, opened, closed, gathering, hop_named, hop_to}
use Rattle.scr_trace.specs.inner.Laying.{parts_laid, number_among, entry_at, IsPlain, Ends, stops, Settled}
use Rattle.scr_trace.specs.inner.Laying as laying
use Rattle.scr_trace.specs.inner.View.{plain_standing, standing_of}
use Rattle.scr_trace.proofs.Parts
use Rattle.scr_trace.proofs.Rules.{passes, Opens, Sound, opens_known}
use Rattle.scr_trace.proofs.Valid.{AllSound, first_or_later, none_contained, contains_first, contains_later, clean_front, clean_behind}
use Rattle.scr_trace.proofs.Valid.{clean_at, passes_are, both_true, listed}
use Rattle.scr_trace.proofs.Leading.{Entered, Lies, leads, true_or_false}
use Rattle.scr_trace.proofs.Placing.{names, raw, before, positions, From, all_of, rest_of, Reached, reached, sound_from, counted_all}
use Rattle.scr_trace.proofs.Placing.{body_here, number_here, entry_here}

-- ---- where statements begin

-- the hop to where statements begin, in front of w
data Begun (entry : Name → Option ℕ) (t : Statements) (w : Work) (hop : Hop) : Type 0 where
  follows : passes t ≡ true → hop ≡ w.next → Begun entry t w hop
  plainly : IsPlain hop → Begun entry t w hop
  goes_on : (z : Name) → Opens z t → hop ≡ hop_to (entry z) → Begun entry t w hop

named_plain : (name : Name) (known : List Known) → IsPlain (hop_named name known)
named_plain name [] = tt
named_plain name (k ∷ ks) = go (bytes_eq name k.name) (named_plain name ks)
  where
    go : (b : Bool) → IsPlain (hop_named name ks) → IsPlain (if b then hops.Loop k.number else hop_named name ks)
    go true p = tt
    go false p = p

begun_rest : (entry : Name → Option ℕ) (place : _) (name : Name) (body rest : Statements) (w : Work) (hop next : Hop) → passes body ≡ true →
    hop ≡ next → Begun entry rest w next → Begun entry (Rec place name body rest) w hop
begun_rest entry place name body rest w hop next e is (follows f g) = follows (both_true (passes body) (passes rest) e f) (is ∙ g)
begun_rest entry place name body rest w hop next e is (plainly p) = plainly (subst IsPlain (sym is) p)
begun_rest entry place name body rest w hop next e is (goes_on z o g) = goes_on z (inr (e, o)) (is ∙ g)

begun_rec : (entry : Name → Option ℕ) (place : _) (name : Name) (body rest : Statements) (w o : Work) (hop inner next : Hop) → hop ≡ inner →
    o.next ≡ next → Begun entry body o inner → Begun entry rest w next →
    Begun entry (Rec place name body rest) w hop
begun_rec entry place name body rest w o hop inner next is on (follows e f) r = begun_rest entry place name body rest w hop next e
    (is ∙ f ∙ on) r
begun_rec entry place name body rest w o hop inner next is on (plainly p) r = plainly (subst IsPlain (sym is) p)
begun_rec entry place name body rest w o hop inner next is on (goes_on z b f) r = goes_on z (inl b) (is ∙ f)

begun : (me : Name) (entry : Name → Option ℕ) (t : Statements) (known : List Known) (w : Work) →
    Begun entry t w (lay me entry known w t).next
begun me entry Nothing known w = follows refl refl
begun me entry (Says m rest) known w = plainly (subst IsPlain (sym (Parts.said_next m (lay me entry known w rest))) tt)
begun me entry (Choice place at bs rest) known w =
    let v = lay me entry known w rest in
    plainly (subst IsPlain (sym (Parts.chosen_next (bytes_eq at me) (lay_in me entry known (bytes_eq at me) v.next (gathering v) bs))) tt)
begun me entry (Rec place name body rest) known w =
    let v = lay me entry known w rest in
    let x = lay me entry (record { name = name; number = length v.loops } ∷ known) (opened v) body in
    begun_rec entry place name body rest w (opened v) (closed (length v.loops) x).next x.next v.next (Parts.closed_next (length v.loops) x)
    (Parts.opened_next v)
    (begun me entry body (record { name = name; number = length v.loops } ∷ known) (opened v)) (begun me entry rest known w)
begun me entry (Continue place name rest) known w = plainly (named_plain name known)
begun me entry (Do place name rest) known w = goes_on name refl refl

-- ---- a `do` that stands at once

record AtOnceIn (way : Way) (t : Statements) (z : Name) : Type 0 where
  to : Way
  place : Place
  rest : Statements
  stands : Contains (spots way t) (spot to (Do place z rest))
  at_once : AtOnce to

at_once_in : (t : Statements) (way : Way) (z : Name) → AtOnce way → Opens z t → AtOnceIn way t z
at_once_in Nothing way z a o = absurd o
at_once_in (Says m rest) way z a o = absurd o
at_once_in (Choice place at bs rest) way z a o = absurd o
at_once_in (Rec place name body rest) way z a o = ⊎_elim
    (λ b. let i = at_once_in body (Opening name ∷ way) z (into_rec a) b in record {
      to = i.to;
      place = i.place;
      rest = i.rest;
      stands = contains_later (spot way (Rec place name body rest)) _ _ (Contains-append_left (spots (Opening name ∷ way) body)
          (spots (Past (Rec place name body Nothing) ∷ way) rest) _ i.stands);
      at_once = i.at_once;
    })
    (λ r. let i = at_once_in rest (Past (Rec place name body Nothing) ∷ way) z
    (passing (both_true (control.passes body) true (passes_are body r.0) refl) a) r.1 in record {
      to = i.to;
      place = i.place;
      rest = i.rest;
      stands = contains_later (spot way (Rec place name body rest)) _ _ (Contains-append_right (spots (Opening name ∷ way) body)
          (spots (Past (Rec place name body Nothing) ∷ way) rest) _ i.stands);
      at_once = i.at_once;
    })
    o
at_once_in (Continue place name rest) way z a o = absurd o
at_once_in (Do place name rest) way z a o = record {
  to = way;
  place = place;
  rest = rest;
  stands = subst (λ n. Contains (spots way (Do place name rest)) (spot way (Do place n rest))) o
      (contains_first (spot way (Do place name rest)) (spots (Past (Do place name Nothing) ∷ way) rest));
  at_once = a;
}

-- ---- the protocols of a list

pub from_contains : (ts xs : List Titled) → From ts xs → (t : Titled) → Contains xs t → Contains ts t
from_contains ts xs all_of t c = c
from_contains ts xs (rest_of {t = s} {more = more} f) t c = from_contains ts (s ∷ more) f t (contains_later s more t c)

record Found (ts : List Titled) (z : Name) : Type 0 where
  t : Titled
  more : List Titled
  from : From ts (t ∷ more)
  name : t.name ≡ z

find : (ts xs : List Titled) → From ts xs → (z : Name) → Contains (names xs) z → Found ts z
find ts [] f z c = absurd (none_contained z c)
find ts (t ∷ more) f z c = ⊎_elim (λ e. record { t = t; more = more; from = f; name = e }) (λ later. find ts more (rest_of f) z later)
    (first_or_later t.name (names more) z c)

pub map_contains : {A B : Type 0} (g : A → B) (xs : List A) (x : A) → Contains xs x → Contains (map g xs) (g x)
map_contains g [] x c = absurd (none_contained x c)
map_contains g (y ∷ ys) x c = ⊎_elim
    (λ e. subst (λ z. Contains (g y ∷ map g ys) (g z)) e (contains_first (g y) (map g ys)))
    (λ later. contains_later (g y) (map g ys) (g x) (map_contains g ys x later))
    (first_or_later y ys x c)

spots_contain : (ts : List Titled) (t : Titled) (s : Spot) → Contains ts t → Contains (spots [] t.body) s →
    Contains (all_spots (map body_in ts)) s
spots_contain [] t s c d = absurd (none_contained t c)
spots_contain (u ∷ more) t s c d = ⊎_elim
    (λ (e : u ≡ t). Contains-append_left (spots [] u.body) (all_spots (map body_in more)) s
    (subst (λ (x : Titled). Contains (spots [] x.body) s) (sym e) d))
    (λ later. Contains-append_right (spots [] u.body) (all_spots (map body_in more)) s (spots_contain more t s later d))
    (first_or_later u more t c)

clean_from : (ts xs : List Titled) → From ts xs → Clean (Unguarded ts) (spots_of body_in ts) → Clean (Unguarded ts) (spots_of body_in xs)
clean_from ts xs all_of h = h
clean_from ts xs (rest_of {t} {more} f) h = clean_behind (Unguarded ts) (map (λ (x : Spot). (t, x)) (spots [] t.body))
    (spots_of body_in more) (clean_from ts (t ∷ more) f h)

-- ---- a list of names without one

without : Name → List Name → List Name
without z [] = []
without z (y ∷ ys) = if bytes_eq z y then without z ys else y ∷ without z ys

without_first : (z y : Name) (ys : List Name) (b : Bool) → bytes_eq z y ≡ b →
    without z (y ∷ ys) ≡ (if b then without z ys else y ∷ without z ys)
unfolding without
without_first z y ys b e = ap (λ v. if v then without z ys else y ∷ without z ys) e

no_more : (z : Name) (ys : List Name) → length (without z ys) ≤ length ys
unfolding without
no_more z [] = omega arith
no_more z (y ∷ ys) = go (bytes_eq z y) (no_more z ys)
  where
    go : (b : Bool) → length (without z ys) ≤ length ys → length (if b then without z ys else y ∷ without z ys) ≤ suc (length ys)
    go true h = omega (arith, h)
    go false h = omega (arith, h)

fewer : (z : Name) (ys : List Name) → Contains ys z → length (without z ys) < length ys
fewer z [] c = absurd (none_contained z c)
fewer z (y ∷ ys) c = ⊎_elim
    (λ (e : bytes_eq z y ≡ true). let a = ap length (without_first z y ys true e) in let b = no_more z ys in omega (arith, a, b))
    (λ (e : bytes_eq z y ≡ false). let a = ap length (without_first z y ys false e) in
    let b = fewer z ys (⊎_elim (λ same. let t = (bytes_eq-Decides z y).1 (sym same) in cc) (λ later. later) (first_or_later y ys z c)) in
    omega (arith, a, b))
    (true_or_false (bytes_eq z y))

still_there : (z : Name) (ys : List Name) (x : Name) → Contains ys x → bytes_eq z x ≡ false → Contains (without z ys) x
still_there z [] x c e = absurd (none_contained x c)
still_there z (y ∷ ys) x c e = ⊎_elim
    (λ (same : y ≡ x). subst (λ l. Contains l x) (sym (without_first z y ys false (ap (bytes_eq z) same ∙ e)))
    (subst (Contains (y ∷ without z ys)) same (contains_first y (without z ys))))
    (λ later. ⊎_elim
    (λ (b : bytes_eq z y ≡ true). subst (λ l. Contains l x) (sym (without_first z y ys true b)) (still_there z ys x later e))
    (λ (b : bytes_eq z y ≡ false). subst (λ l. Contains l x) (sym (without_first z y ys false b))
    (contains_later y (without z ys) x (still_there z ys x later e)))
    (true_or_false (bytes_eq z y)))
    (first_or_later y ys x c)

-- ---- ends

-- what is laid out of all protocols, with other entries
abbrev pub total : Name → List Titled → List Hop → Work
total me ts es = record (raw me ts) { entries = es }

pub as_many : (me : Name) (ts : List Titled) → length (positions me ts) ≡ length (raw me ts).cells
as_many me ts = let c = counted_all me (number_among ts) ts 1 nothing in omega (arith, c)

plain_same : (w : Work) (hop : Hop) → IsPlain hop → standing_of w hop ≡ plain_standing w hop
plain_same w (hops.State n) p = refl
plain_same w (hops.Loop k) p = refl
plain_same w (hops.Part k) p = absurd p
plain_same w hops.End p = refl

settled_standing : (w : Work) (old : List Hop) → Settled old w.entries → {hop end : Hop} → Ends old hop end →
    standing_of w hop ≡ plain_standing w end
settled_standing w old settled {hop} (stops p) = plain_same w hop p
settled_standing w old settled {hop} {end} (laying.onward {k} r) = ap (plain_standing w) (settled k end (laying.onward r))

-- a `do` of this name leads somewhere at last
pub record Arrives (me : Name) (ts : List Titled) (z : Name) : Type 0 where
  pub end : Hop
  pub ends : Ends (raw me ts).entries (hop_to (number_among ts z)) end

some_end : (me : Name) (ts : List Titled) (t : Statements) (w : Work) (hop : Hop) → w.next ≡ hops.End → Begun (number_among ts) t w hop →
    ((z : Name) → Opens z t → Arrives me ts z) →
    (end : Hop) × Ends (raw me ts).entries hop end
some_end me ts t w hop e (follows f g) ends = (hop, stops (subst IsPlain (sym (g ∙ e)) tt))
some_end me ts t w hop e (plainly p) ends = (hop, stops p)
some_end me ts t w hop e (goes_on z o g) ends = let d = ends z o in (d.end, subst (λ h. Ends (raw me ts).entries h d.end) (sym g) d.ends)

-- where a protocol begins, and where that leads at last
record Begins (me : Name) (ts : List Titled) (t : Titled) (more : List Titled) : Type 0 where
  end : Hop
  here : Ends (raw me ts).entries (lay me (number_among ts) [] (before (parts_laid me (number_among ts) more nothing)) t.body).next end
  ends : Ends (raw me ts).entries (hop_to (number_among ts t.name)) end

begins_here : (me : Name) (ts : List Titled) (t : Titled) (more : List Titled) (n : ℕ) → Reached me ts (t ∷ more) n →
    ((z : Name) → Opens z t.body → Arrives me ts z) → Begins me ts t more
begins_here me ts t more n r ends =
    let w = before (parts_laid me (number_among ts) more nothing) in
    let e = some_end me ts t.body w (lay me (number_among ts) [] w t.body).next refl (begun me (number_among ts) t.body [] w) ends in
    record {
      end = e.0;
      here = e.1;
      ends = subst (λ o. Ends (raw me ts).entries (hop_to o) e.0) (sym (number_here me ts t more n r))
          (laying.onward (subst (λ h. Ends (raw me ts).entries h e.0) (sym (entry_here me ts t more n r)) e.1));
    }

-- ---- protocols that go on as others, in an order

module _ (ts : List Titled) (sound : AllSound (names ts) ts) (guarded : Clean (Unguarded ts) (spots_of body_in ts))
    (named : Clean (UnknownProtocol (names ts)) (all_spots (map body_in ts))) where
  goes_on_at_once : (t : Titled) (more : List Titled) → From ts (t ∷ more) → (z : Name) → Opens z t.body → GoesOn ts t.name z
  goes_on_at_once t more f z o =
      let i = at_once_in t.body [] z starting o in
      record {
        body = t.body;
        there = from_contains ts (t ∷ more) f t (contains_first t more);
        way = i.to;
        place = i.place;
        rest =
            i.rest;
        stands = i.stands;
        at_once = i.at_once;
      }

  no_way_back : (t : Titled) (more : List Titled) → From ts (t ∷ more) → (z : Name) → Opens z t.body → Leads ts z t.name → ⊥
  no_way_back t more f z o l =
      let i = at_once_in t.body [] z starting o in
      let own = clean_front (Unguarded ts) (map (λ (x : Spot). (t, x)) (spots [] t.body)) (spots_of body_in more)
      (clean_from ts (t ∷ more) f guarded) in
      clean_at (Unguarded ts) (map (λ (x : Spot). (t, x)) (spots [] t.body)) own (t, spot i.to (Do i.place z i.rest))
      (map_contains (λ (x : Spot). (t, x)) (spots [] t.body) (spot i.to (Do i.place z i.rest)) i.stands) (culprit i.place z)
      (refl, i.at_once, l)

  goes_known : (from to : Name) → GoesOn ts from to → Contains (names ts) to
  goes_known from to g =
      listed (names ts) to (λ unlisted. clean_at (UnknownProtocol (names ts)) (all_spots (map body_in ts)) named
      (spot g.way (Do g.place to g.rest))
      (spots_contain ts (record { name = from; body = g.body }) (spot g.way (Do g.place to g.rest)) g.there g.stands) (culprit g.place to)
      (refl, unlisted))

  leads_known : {from to : Name} → Leads ts from to → Contains (names ts) from → Contains (names ts) to
  leads_known there c = c
  leads_known (onward {from} {next} g l) c = leads_known l (goes_known from next g)

  -- what holds of a protocol if it does of those that it goes on as at once
  abbrev pub Passes : (Name → Type 0) → Type 0
  Passes P = (t : Titled) (more : List Titled) → From ts (t ∷ more) → ((z : Name) → Opens z t.body → P z) → P t.name

  -- only these names are come to from the protocol
  by_names : (P : Name → Type 0) → Passes P → (fuel : ℕ) (left : List Name) → length left ≤ fuel → (z : Name) → Contains (names ts) z →
      ((y : Name) → Leads ts z y → Contains left y) → P z
  by_names P step zero left few z c reach = absurd (let k = reach z there in let within = k.1 in omega (arith, few, within))
  by_names P step (suc fuel) left few z c reach =
      let f = find ts ts all_of z c in
      let reach' : (y : Name) → Leads ts f.t.name y → Contains left y = λ y l. reach y (subst (λ n. Leads ts n y) f.name l) in
      let less = fewer f.t.name left (reach' f.t.name there) in
      subst P f.name
      (step f.t f.more f.from (λ y o. by_names P step fuel (without f.t.name left) (omega (arith, less, few)) y
      (opens_known (names ts) f.t.body [] (sound_from (names ts) ts (f.t ∷ f.more) f.from sound).0 y o)
      (λ x l. still_there f.t.name left x (reach' x (onward (goes_on_at_once f.t f.more f.from y o) l))
      (⊎_elim (λ (e : bytes_eq f.t.name x ≡ true). absurd
      (no_way_back f.t f.more f.from y o (subst (Leads ts y) (sym ((bytes_eq-Decides f.t.name x).0 e)) l))) (λ e. e)
      (true_or_false (bytes_eq f.t.name x))))))

  pub each_name : (P : Name → Type 0) → Passes P → (z : Name) → Contains (names ts) z → P z
  each_name P step z c = by_names P step (length (names ts)) (names ts) (omega arith) z c (λ y l. leads_known l c)

  pub each_arrives : (me : Name) → AreDistinct (names ts) → (z : Name) → Contains (names ts) z → Arrives me ts z
  each_arrives me distinct = each_name (Arrives me ts) (λ t more f ends.
      let r = reached me (names ts) ts (t ∷ more) sound distinct f in
      let b = begins_here me ts t more r.0 r.1 ends in
      record { end = b.end; ends = b.ends })

-- a `do` of this name comes to a state or the end
record Ended (me : Name) (ts : List Titled) (es : List Hop) (z : Name) : Type 0 where
  body : Protocol
  known : body_named z (numbered_parts me 1 ts) ≡ Some body
  arrives : Arrives me ts z
  comes : ComesTo (numbered_parts me 1 ts) (positions me ts) (whole body) (plain_standing (total me ts es) arrives.end)

module _ (me : Name) (ts : List Titled) (es : List Hop) (settled : Settled (raw me ts).entries es) (sound : AllSound (names ts) ts)
    (distinct : AreDistinct (names ts))
    (guarded : Clean (Unguarded ts) (spots_of body_in ts)) (named : Clean (UnknownProtocol (names ts)) (all_spots (map body_in ts))) where
  entered : (z : Name) → Ended me ts es z → Entered (numbered_parts me 1 ts) me (number_among ts) (names ts) (total me ts es)
      (positions me ts) (as_many me ts) z
  entered z e = record {
    body = e.body;
    known = e.known;
    comes = subst (λ s. ComesTo (numbered_parts me 1 ts) (positions me ts) (whole e.body) s)
        (sym (settled_standing (total me ts es) (raw me ts).entries settled e.arrives.ends)) e.comes;
  }

  -- the states of a protocol lie behind those in front of it
  pub lies_here : (t : Titled) (more : List Titled) (n : ℕ) → Reached me ts (t ∷ more) n →
      Lies (numbered_parts me 1 ts) me (number_among ts) (names ts) (total me ts es) (positions me ts) (as_many me ts)
      (before (parts_laid me (number_among ts) more nothing)) (states_in Plain [] (numbered me n t.body))
  lies_here t more n r = record {
    front = r.front;
    back = state_positions (numbered_parts me (n + choices me t.body) more);
    all_is = r.all_is;
    behind = let c = counted_all me (number_among ts) more (n + choices me t.body) nothing in omega (arith, c);
  }

  -- a protocol comes to where it is laid out to begin
  pub part_leads : (t : Titled) (more : List Titled) (n : ℕ) → Reached me ts (t ∷ more) n → Sound (names ts) [] t.body →
      ((z : Name) → Opens z t.body → Entered (numbered_parts me 1 ts) me (number_among ts) (names ts) (total me ts es) (positions me ts)
      (as_many me ts) z) →
      ComesTo (numbered_parts me 1 ts) (positions me ts) (whole (numbered me n t.body))
      (standing_of (total me ts es) (lay me (number_among ts) [] (before (parts_laid me (number_among ts) more nothing)) t.body).next)
  part_leads t more n r h enters =
      leads (numbered_parts me 1 ts) me (number_among ts) (names ts) (total me ts es) (positions me ts) (as_many me ts) t.body [] h enters
      [] (before (parts_laid me (number_among ts) more nothing)) n Plain []
      (lies_here t more n r) (λ e. at_end) (λ z among. cc among)

  ended_here : (t : Titled) (more : List Titled) → From ts (t ∷ more) → ((z : Name) → Opens z t.body → Ended me ts es z) →
      Ended me ts es t.name
  ended_here t more f ends =
      let r = reached me (names ts) ts (t ∷ more) sound distinct f in
      let b = begins_here me ts t more r.0 r.1 (λ z o. (ends z o).arrives) in
      record {
        body = numbered me r.0 t.body;
        known = body_here me ts t more r.0 r.1;
        arrives = record { end = b.end; ends = b.ends };
        comes = subst (λ s. ComesTo (numbered_parts me 1 ts) (positions me ts) (whole (numbered me r.0 t.body)) s)
            (settled_standing (total me ts es) (raw me ts).entries settled b.here)
            (part_leads t more r.0 r.1 (sound_from (names ts) ts (t ∷ more) f sound).0 (λ z o. entered z (ends z o)));
      }

  -- each name of a protocol is come to
  pub enters : (z : Name) → Contains (names ts) z → Entered (numbered_parts me 1 ts) me (number_among ts) (names ts) (total me ts es)
      (positions me ts) (as_many me ts) z
  enters z c = entered z (each_name ts sound guarded named (Ended me ts es) ended_here z c)
