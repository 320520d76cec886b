-- The protocols of a file are guarded, one after another.
use Rattle.std.proofs.Common.{◌≡◌, ◌↔◌, ℕ, Bool, true, false, true≢false, IsTrue, List, [], map, Contains, Option, Some, None, position}
use Rattle.std.proofs.Common.{refl, sym, subst, ◌∙◌}
use Rattle.std.specs.Str.{bytes_eq}
use Rattle.mg_text.specs.Call.{Name}
use Rattle.mg_read.specs.Culprit.{Culprit}
use Rattle.mg_read.specs.First.{Judged}
use Rattle.mg_read.proofs.Judging.{judged-same}
use Rattle.scr_tree.specs.Going.{Leads, Unguarded}
use Rattle.scr_tree.specs.Spots.{Spot, spot, spots, spots_of}
use Rattle.scr_tree.specs.Tree.{Titled, body_in, Nothing, Says, Choice, Rec, Continue, Do}
use Rattle.scr_tree.specs.View.{statements}
use Rattle.scr_tree.specs.Written.{part_written, title_of, parts_in, written_of}
use Rattle.scr_tree.specs.declared.written.Written.{Written}
use Rattle.scr_tree.specs.declared.written.WrittenPart.{WrittenPart as Part}
use Rattle.scr_judge.specs.declared.cycles.Round.{Round}
use Rattle.scr_judge.specs.inner.Cycles.{IsRound}
use Rattle.scr_judge.specs.inner.Finding.{unguarded}
use Rattle.scr_judge.specs.inner.Own as own
use Rattle.scr_judge.specs.inner.Own.{FirstIn, all_parts}
use Rattle.scr_judge.specs.inner.Round.{Falls, FoundBad, IsGuarded, Reaches, gone, titles}
use Rattle.scr_judge.specs.inner.View.{graph_of}
use Rattle.scr_judge.proofs.Coming.{leads_by, leads_nowhere, names_known}
use Rattle.scr_judge.proofs.Edges.{has_number}
use Rattle.scr_judge.proofs.Owned.{each_judged, first_map}
use Rattle.scr_judge.proofs.Sought.{At, first_sought}

module _ (all : List Titled) (t : Titled) where
  at_to : (s : Spot) (c : Culprit) → At (λ n. Leads all n t.name) s c → Unguarded all (t, s) c
  at_to (spot way Nothing) c a = a
  at_to (spot way (Says m rest)) c a = a
  at_to (spot way (Choice p at bs rest)) c a = a
  at_to (spot way (Rec p name body rest)) c a = a
  at_to (spot way (Continue p name rest)) c a = a
  at_to (spot way (Do p name rest)) c a = a

  at_from : (s : Spot) (c : Culprit) → Unguarded all (t, s) c → At (λ n. Leads all n t.name) s c
  at_from (spot way Nothing) c a = a
  at_from (spot way (Says m rest)) c a = a
  at_from (spot way (Choice p at bs rest)) c a = a
  at_from (spot way (Rec p name body rest)) c a = a
  at_from (spot way (Continue p name rest)) c a = a
  at_from (spot way (Do p name rest)) c a = a

-- one protocol
pub part_guarded : (ps : List Part) (p : Part) (goal : Option Name) (r : Option Culprit) →
    FirstIn (FoundBad (λ n. Leads (titles ps) n p.name)) (gone true (statements p.body.items)) goal →
    r ≡ unguarded [] goal (statements p.body.items) → IsGuarded ps p r
part_guarded ps p goal r f e =
    judged-same (at_to (titles ps) (title_of (part_written p))) (at_from (titles ps) (title_of (part_written p)))
    (first_sought (λ n. Leads (titles ps) n p.name) (statements p.body.items) goal r f e)

-- all of them
all_guarded : (ps : List Part) (r : Option Culprit) → FirstIn (IsGuarded ps) ps r →
    Judged (Unguarded (titles ps)) (spots_of body_in (titles ps)) r
all_guarded ps r f =
    each_judged (λ (t : Titled) (s : Spot) (c : Culprit). Unguarded (titles ps) (t, s) c) (λ (t : Titled). spots [] (body_in t))
    (first_map (λ (t : Titled) (o : Option Culprit). Judged (λ s c. Unguarded (titles ps) (t, s) c) (spots [] (body_in t)) o) title_of
    (first_map (λ x (o : Option Culprit). Judged (λ s c. Unguarded (titles ps) (title_of x, s) c) (spots [] x.body) o) part_written f))

pub guarded_here : (w : Written) (c : Culprit) → IsGuarded (all_parts w) w.first (Some c) →
    Judged (Unguarded (map title_of (parts_in (written_of 0 w)))) (spots_of body_in (map title_of (parts_in (written_of 0 w)))) (Some c)
guarded_here w c a = all_guarded (all_parts w) (Some c) (own.here a)

pub guarded_behind : (w : Written) (r : Option Culprit) → IsGuarded (all_parts w) w.first None →
    FirstIn (IsGuarded (all_parts w)) w.others.items r →
    Judged (Unguarded (map title_of (parts_in (written_of 0 w)))) (spots_of body_in (map title_of (parts_in (written_of 0 w)))) r
guarded_behind w r a f = all_guarded (all_parts w) r (own.later a f)

-- ---- what the program has

module _ (ps : List Part) (r : Round) (h : IsRound ps r) where
  known : (p : Part) → Contains ps p → Contains r.names p.name
  known p c = subst (λ ns. Contains ns p.name) (sym h.names) (names_known ps p c)

  -- the name of a protocol has a number
  pub part_numbered : (p : Part) → Contains ps p → position (bytes_eq p.name) r.names ≡ None → ⊥
  part_numbered p c none = let number = has_number r.names p.name (known p c) in let both : Some number.0 ≡ None = sym number.1 ∙ none in cc

  pub back_by : (from to : Name) (v w : ℕ) (b : Bool) → position (bytes_eq from) r.names ≡ Some v → position (bytes_eq to) r.names ≡ Some w
      →
      ((IsTrue r.falls → Falls (graph_of r.targets.items) r.ranks.items) → IsTrue b ↔ Reaches (graph_of r.targets.items) v w) →
      IsTrue b ↔ Leads (titles ps) from to
  back_by from to v w b e f x = leads_by ps r.names known from to v w e f b (subst (λ g. IsTrue b ↔ Reaches g v w) h.graph (x h.falls))

  pub back_none : (from to : Name) (w : ℕ) → position (bytes_eq from) r.names ≡ None → position (bytes_eq to) r.names ≡ Some w →
      IsTrue false ↔ Leads (titles ps) from to
  back_none from to w e f = leads_nowhere ps r.names known from to w e f

-- ---- the first name that leads back

module _ (Bad : Name → Type 0) where
  pub bad_here : (n : Name) (b : Bool) → (IsTrue b ↔ Bad n) → b ≡ true → FoundBad Bad n (Some n)
  bad_here n b h e = (refl, h.0 e)

  pub bad_later : (n : Name) (b : Bool) → (IsTrue b ↔ Bad n) → b ≡ false → FoundBad Bad n None
  bad_later n b h e = λ bad. true≢false (sym (h.1 bad) ∙ e)
