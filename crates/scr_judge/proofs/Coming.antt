-- Protocols lead from one name to another exactly where edges lead from its number to that of the other.
use Rattle.std.proofs.Common.{◌≡◌, ◌↔◌, ⊎_elim, ℕ, Bool, true, false, ◌&&◌, if◌then◌else◌, IsTrue, List, [], ◌∷◌, ◌++◌, get_or, map}
use Rattle.std.proofs.Common.{Contains, Some, None, position, refl, sym, ap, subst, ◌∙◌, true≢false}
use Rattle.std.specs.Str.{bytes_eq}
use Rattle.std.proofs.lemmas.List.Elements.{Contains-append_left, Contains-append_right, Contains-append_cases}
use Rattle.mg_text.specs.Call.{Name}
use Rattle.mg_text.specs.declared.place.Place.{Place}
use Rattle.scr_tree.specs.declared.written.WrittenPart.{WrittenPart as Part}
use Rattle.scr_tree.specs.Control.{passes, some_passes, AtOnce}
use Rattle.scr_tree.specs.Going.{GoesOn, Leads, there, onward}
use Rattle.scr_tree.specs.Spots.{Past, Opens, Enters, Way, Spot, spot, spots, branch_spots}
use Rattle.scr_tree.specs.Tree.{Titled, Statements, Nothing, Says, Choice, Rec, Continue, Do, Branches, NoBranch, Branch}
use Rattle.scr_tree.specs.View.{statements}
use Rattle.scr_tree.specs.Written.{WrittenPart, part_written, title_of}
use Rattle.scr_judge.specs.inner.Gone.{part_name}
use Rattle.scr_judge.specs.inner.Round.{gone, gone_in, Graph, HasEdge, Reaches, leaves_to, titles, with_texts}
use Rattle.scr_judge.specs.inner.Round as round
use Rattle.scr_judge.proofs.Edges.{at_number, has_number, texts_have, numbers_to, numbers_from, graph_for, graph_edge, edge_graph}
use Rattle.scr_judge.proofs.Leaving.{none_gone}
use Rattle.scr_judge.proofs.Members.{Contains-nil, Contains-cons_cases, Contains-first, Contains-later, Contains-image, Contains-origin}
use Rattle.scr_judge.proofs.Quiet.{and_true}
use Rattle.scr_judge.proofs.Sought.{IsOnce, once_start, once_past, once_opens, once_enters}

-- ---- the `do`s to which control can come with no message

-- one of these places is such a `do`
pub record Goes (all : List Spot) (name : Name) : Type 0 where
  pub way : Way
  pub place : Place
  pub rest : Statements
  pub stands : Contains all (spot way (Do place name rest))
  pub at_once : AtOnce way

in_more : {name : Name} {xs : List Spot} (ys : List Spot) → ((s : Spot) → Contains xs s → Contains ys s) → Goes xs name → Goes ys name
in_more ys wider g = record { way = g.way; place = g.place; rest = g.rest; stands = wider _ g.stands; at_once = g.at_once }

nowhere : {xs : List Name} (name : Name) → xs ≡ [] → Contains xs name → ⊥
nowhere name e h = Contains-nil name (subst (λ l. Contains l name) e h)

module _ (name : Name) where
  do_here : {way : Way} (b : Bool) (p : Place) (other : Name) (rest : Statements) (more : List Spot) → IsOnce b way →
      Contains ((if b then other ∷ [] else []) ++ gone false rest) name →
      Goes (spot way (Do p other rest) ∷ more) name
  do_here {way} true p other rest more o h =
      ⊎_elim (λ same. record {
        way = way;
        place = p;
        rest = rest;
        stands =
            subst (λ n. Contains (spot way (Do p other rest) ∷ more) (spot way (Do p n rest))) same (Contains-first more _);
        at_once =
            o.to refl;
      })
      (λ none. absurd (nowhere name (none_gone rest) none)) (Contains-cons_cases (gone false rest) other name h)
  do_here false p other rest more o h = absurd (nowhere name (none_gone rest) h)

  mutual
    gone_to : (b : Bool) (way : Way) (ss : Statements) → IsOnce b way → Contains (gone b ss) name → Goes (spots way ss) name
    gone_to b way Nothing o h = absurd (Contains-nil name h)
    gone_to b way (Says m rest) o h = absurd (nowhere name (none_gone rest) h)
    gone_to b way (Choice p at bs rest) o h =
        let inner : List Spot = branch_spots way at [] bs in
        let behind : List Spot = spots (Past (Choice p at bs Nothing) ∷ way) rest in
        ⊎_elim
        (λ one. in_more (spots way (Choice p at bs rest))
        (λ s c. Contains-later (inner ++ behind) _ s (Contains-append_left inner behind s c)) (gone_in_to b way at [] bs o one))
        (λ more. in_more (spots way (Choice p at bs rest))
        (λ s c. Contains-later (inner ++ behind) _ s (Contains-append_right inner behind s c))
        (gone_to (some_passes bs && b) _ rest (once_past (Choice p at bs Nothing) (some_passes bs) (and_true (some_passes bs)) o) more))
        (Contains-append_cases (gone_in b bs) (gone (some_passes bs && b) rest) name h)
    gone_to b way (Rec p label body rest) o h =
        let inner : List Spot = spots (Opens label ∷ way) body in
        let behind : List Spot = spots (Past (Rec p label body Nothing) ∷ way) rest in
        ⊎_elim
        (λ one. in_more (spots way (Rec p label body rest))
        (λ s c. Contains-later (inner ++ behind) _ s (Contains-append_left inner behind s c))
        (gone_to b _ body (once_opens label o) one))
        (λ more. in_more (spots way (Rec p label body rest))
        (λ s c. Contains-later (inner ++ behind) _ s (Contains-append_right inner behind s c))
        (gone_to (passes body && b) _ rest (once_past (Rec p label body Nothing) (passes body) (and_true (passes body)) o) more))
        (Contains-append_cases (gone b body) (gone (passes body && b) rest) name h)
    gone_to b way (Continue p label rest) o h = absurd (nowhere name (none_gone rest) h)
    gone_to b way (Do p other rest) o h = do_here b p other rest _ o h

    gone_in_to : (b : Bool) (way : Way) (at : Name) (earlier : List Statements) (bs : Branches) → IsOnce b way →
        Contains (gone_in b bs) name → Goes (branch_spots way at earlier bs) name
    gone_in_to b way at earlier NoBranch o h = absurd (Contains-nil name h)
    gone_in_to b way at earlier (Branch s more) o h =
        let inner : List Spot = spots (Enters at earlier ∷ way) s in
        let behind : List Spot = branch_spots way at (s ∷ earlier) more in
        ⊎_elim
        (λ one. in_more (inner ++ behind) (λ x c. Contains-append_left inner behind x c) (gone_to b _ s (once_enters at earlier o) one))
        (λ others. in_more (inner ++ behind) (λ x c. Contains-append_right inner behind x c)
        (gone_in_to b way at (s ∷ earlier) more o others))
        (Contains-append_cases (gone b s) (gone_in b more) name h)

  module _ (w : Way) (q : Place) (r : Statements) (a : AtOnce w) where
    abbrev goal : Spot
    goal = spot w (Do q name r)

    do_found : {way : Way} (b : Bool) (p : Place) (other : Name) (rest : Statements) → IsOnce b way → spot way (Do p other rest) ≡ goal →
        Contains ((if b then other ∷ [] else []) ++ gone false rest) name
    do_found {way} b p other rest o e =
        let same : other ≡ name = cc in
        let here : w ≡ way = cc in
        subst (λ t. Contains ((if t then other ∷ [] else []) ++ gone false rest) name) (sym (o.from (subst AtOnce here a)))
        (subst (λ n. Contains (other ∷ gone false rest) n) same (Contains-first (gone false rest) other))

    mutual
      gone_from : (b : Bool) (way : Way) (ss : Statements) → IsOnce b way → Contains (spots way ss) goal → Contains (gone b ss) name
      gone_from b way Nothing o h = absurd (Contains-nil goal h)
      gone_from b way (Says m rest) o h =
          ⊎_elim (λ e. let no : ⊥ = cc in absurd no) (λ more. gone_from false _ rest (once_past (Says m Nothing) false refl o) more)
          (Contains-cons_cases (spots (Past (Says m Nothing) ∷ way) rest) (spot way (Says m rest)) goal h)
      gone_from b way (Choice p at bs rest) o h =
          let inner : List Spot = branch_spots way at [] bs in
          let behind : List Spot = spots (Past (Choice p at bs Nothing) ∷ way) rest in
          ⊎_elim (λ e. let no : ⊥ = cc in absurd no)
          (λ more. ⊎_elim (λ one. Contains-append_left (gone_in b bs) (gone (some_passes bs && b) rest) name
          (gone_in_from b way at [] bs o one))
          (λ others. Contains-append_right (gone_in b bs) (gone (some_passes bs && b) rest) name
          (gone_from (some_passes bs && b) _ rest (once_past (Choice p at bs Nothing) (some_passes bs) (and_true (some_passes bs)) o)
          others))
          (Contains-append_cases inner behind goal more))
          (Contains-cons_cases (inner ++ behind) (spot way (Choice p at bs rest)) goal h)
      gone_from b way (Rec p label body rest) o h =
          let inner : List Spot = spots (Opens label ∷ way) body in
          let behind : List Spot = spots (Past (Rec p label body Nothing) ∷ way) rest in
          ⊎_elim (λ e. let no : ⊥ = cc in absurd no)
          (λ more. ⊎_elim (λ one. Contains-append_left (gone b body) (gone (passes body && b) rest) name
          (gone_from b _ body (once_opens label o) one))
          (λ others. Contains-append_right (gone b body) (gone (passes body && b) rest) name
          (gone_from (passes body && b) _ rest (once_past (Rec p label body Nothing) (passes body) (and_true (passes body)) o) others))
          (Contains-append_cases inner behind goal more))
          (Contains-cons_cases (inner ++ behind) (spot way (Rec p label body rest)) goal h)
      gone_from b way (Continue p label rest) o h =
          ⊎_elim (λ e. let no : ⊥ = cc in absurd no) (λ more. gone_from false _ rest (once_past (Continue p label Nothing) false refl o)
          more)
          (Contains-cons_cases (spots (Past (Continue p label Nothing) ∷ way) rest) (spot way (Continue p label rest)) goal h)
      gone_from b way (Do p other rest) o h =
          ⊎_elim (λ e. do_found b p other rest o e)
          (λ more. Contains-append_right (if b then other ∷ [] else []) (gone false rest) name
          (gone_from false _ rest (once_past (Do p other Nothing) false refl o) more))
          (Contains-cons_cases (spots (Past (Do p other Nothing) ∷ way) rest) (spot way (Do p other rest)) goal h)

      gone_in_from : (b : Bool) (way : Way) (at : Name) (earlier : List Statements) (bs : Branches) → IsOnce b way →
          Contains (branch_spots way at earlier bs) goal → Contains (gone_in b bs) name
      gone_in_from b way at earlier NoBranch o h = absurd (Contains-nil goal h)
      gone_in_from b way at earlier (Branch s more) o h =
          ⊎_elim (λ one. Contains-append_left (gone b s) (gone_in b more) name (gone_from b _ s (once_enters at earlier o) one))
          (λ others. Contains-append_right (gone b s) (gone_in b more) name (gone_in_from b way at (s ∷ earlier) more o others))
          (Contains-append_cases (spots (Enters at earlier ∷ way) s) (branch_spots way at (s ∷ earlier) more) goal h)

-- ---- protocols

module _ (ps : List Part) where
  -- a protocol goes on so
  goes_to : (p : Part) (name : Name) → Contains ps p → Contains (gone true (statements p.body.items)) name → GoesOn (titles ps) p.name name
  goes_to p name h c =
      let g = gone_to name true [] (statements p.body.items) once_start c in
      record {
        body = statements p.body.items;
        there = Contains-image title_of (map part_written ps) (part_written p) (Contains-image part_written ps p h);
        way = g.way;
        place = g.place;
        rest = g.rest;
        stands = g.stands;
        at_once = g.at_once;
      }

  goes_from : (from to : Name) → GoesOn (titles ps) from to → (p : Part) × Contains ps p × (p.name ≡ from)
      × Contains (gone true (statements p.body.items)) to
  goes_from from to g =
      let title = Contains-origin title_of (map part_written ps) _ g.there in
      let part = Contains-origin part_written ps title.0 title.1 in
      let named : part.0.name ≡ from = ap (λ (x : WrittenPart). x.name) part.2 ∙ ap (λ (t : Titled). t.name) title.2 in
      let written : statements part.0.body.items ≡ g.body = ap (λ (x : WrittenPart). x.body) part.2 ∙ ap (λ (t : Titled). t.body) title.2 in (
        part.0,
        part.1,
        named,
        subst (λ ss. Contains (gone true ss) to) (sym written) (gone_from to g.way g.place g.rest g.at_once true
            [] g.body once_start g.stands),
      )

  module _ (names : List Name) (known : (p : Part) → Contains ps p → Contains names p.name) where
    leads_to : (v w : ℕ) → Reaches (graph_for names ps) v w → Leads (titles ps) (get_or names v []) (get_or names w [])
    leads_to v w round.there = there
    leads_to v w (round.onward {w = x} e more) =
        let edge = graph_edge names ps v x e in
        let to = numbers_to names (gone true (statements edge.0.body.items)) x edge.2.1 in
        let from_is : get_or names v [] ≡ edge.0.name = (at_number names edge.0.name v edge.2.0).1 in
        let to_is : get_or names x [] ≡ to.0 = (at_number names to.0 x to.2).1 in
        onward (subst (λ a. GoesOn (titles ps) a (get_or names x [])) (sym from_is) (subst (GoesOn (titles ps) edge.0.name) (sym to_is)
        (goes_to edge.0 to.0 edge.1 to.1)))
        (leads_to x w more)

    -- a name that leads somewhere else, or to one that has a number, has one
    numbered : (from to : Name) → Leads (titles ps) from to → (w : ℕ) → position (bytes_eq to) names ≡ Some w →
        (v : ℕ) × (position (bytes_eq from) names ≡ Some v)
    numbered from to there w e = (w, e)
    numbered from to (onward g more) w e =
        let one = goes_from from _ g in has_number names from (subst (Contains names) one.2 (known one.0 one.1))

    comes_to : (from to : Name) (v w : ℕ) → Leads (titles ps) from to → position (bytes_eq from) names ≡ Some v →
        position (bytes_eq to) names ≡ Some w → Reaches (graph_for names ps) v w
    comes_to from to v w there e f = let same : Some v ≡ Some w = sym e ∙ f in let one : v ≡ w = cc in subst
        (Reaches (graph_for names ps) v) one round.there
    comes_to from to v w (onward {next = next} g more) e f =
        let one = goes_from from next g in
        let via = numbered next to more w f in
        round.onward (edge_graph names ps v via.0 one.0 one.1 (
          subst (λ n. position (bytes_eq n) names ≡ Some v) (sym one.2) e,
          numbers_from names (gone true (statements one.0.body.items)) next
              via.0 one.3 via.1,
        ))
        (comes_to next to via.0 w more via.1 f)

    -- both ways
    pub leads_by : (from to : Name) (v w : ℕ) → position (bytes_eq from) names ≡ Some v → position (bytes_eq to) names ≡ Some w → (b : Bool)
        →
        (IsTrue b ↔ Reaches (graph_for names ps) v w) → IsTrue b ↔ Leads (titles ps) from to
    leads_by from to v w e f b h = (
      λ t. subst (Leads (titles ps) from) (at_number names to w f).1 (subst (λ a. Leads (titles ps) a (get_or names w []))
          (at_number names from v e).1 (leads_to v w (h.0 t))),
      λ l. h.1 (comes_to from to v w l e f),
    )

    -- a name without a number leads nowhere
    pub leads_nowhere : (from to : Name) (w : ℕ) → position (bytes_eq from) names ≡ None → position (bytes_eq to) names ≡ Some w →
        IsTrue false ↔ Leads (titles ps) from to
    leads_nowhere from to w e f = (
      λ t. absurd (true≢false (sym t)),
      λ l. let via = numbered from to l w f in let no : Some via.0 ≡ None = sym via.1 ∙ e in let never : ⊥ = cc in absurd never,
    )

-- the names of protocols are known
pub names_known : (ps : List Part) (p : Part) → Contains ps p → Contains (with_texts (map part_name ps) []) p.name
names_known ps p h = texts_have (map part_name ps) [] p.name (Contains-image part_name ps p h)
