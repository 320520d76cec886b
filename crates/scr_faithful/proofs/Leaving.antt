-- Where each rec can be left, each conversation can be brought to an end.
use Rattle.std.proofs.Common.{◌≡◌, List, [], ◌∷◌, Option, Some, refl, sym, ap, ◌∙◌, subst, inl, inr, ⊎_elim, Bool, true, false}
use Rattle.std.specs.Prelude.{Contains}
use Rattle.std.specs.Str.{bytes_eq}
use Rattle.mg_text.specs.Call.{Name}
use Rattle.scr_global.specs.Global.{Passing, Global, Nothing, Says, Choice, Rec, Continue, Branches, NoBranch, Branch}
use Rattle.scr_global.specs.Points.{Extent, Once, TurnOf, Layer, Rest, Point, start, turned, Quiet, Begins, Next, Goes, Over}
use Rattle.scr_global.specs.Points as points
use Rattle.scr_global.specs.Validity.{BeginAt, AreBegun, AreBegunIn, IsClosed, AreClosed}
use Rattle.scr_global.proofs.Names.{is_other, first_or_later, none_contained}
use Rattle.scr_faithful.specs.Leaving.{Falls, SomeFalls, CanBeLeft, CanBeLeftIn, LeftCanEnd}
use Rattle.scr_faithful.proofs.Planned.{Ends, quiet_ends, turned_same, begin_later}

abbrev Can : Point → Type 0
Can at = (ms : List Passing) × Ends at ms

quiet_can : {from to : Point} → Quiet from to → Can to → Can from
quiet_can q c = (c.0, quiet_ends q c.0 c.1)

said_can : (m : Passing) {rest : Global} {extent : Extent} {around : Point} → Can (Rest rest extent ∷ around) →
    Can (Rest (Says m rest) extent ∷ around)
said_can m (ms, (end, r, o)) = (m ∷ ms, (end, points.next points.says r, o))

chosen_can : {at : Name} {branches : Branches} {m : Passing} {branch rest : Global} {extent : Extent} {around : Point} →
    Begins branches m branch → Can (Rest branch Once ∷ Rest rest extent ∷ around) → Can (Rest (Choice at branches rest) extent ∷ around)
chosen_can {m = m} b (ms, (end, r, o)) = (m ∷ ms, (end, points.next (points.chooses b) r, o))

-- a branch whose end can be reached
record Falling (branches : Branches) (behind : Point) : Type 0 where
  m : Passing
  branch : Global
  begins : Begins branches m branch
  can : Can (Rest branch Once ∷ behind)

mutual
  falls_can : (g : Global) → Falls g → AreBegun g → (extent : Extent) (around : Point) → Can (Rest Nothing extent ∷ around) →
      Can (Rest g extent ∷ around)
  falls_can Nothing f b extent around c = c
  falls_can (Says m rest) f b extent around c = said_can m (falls_can rest f b extent around c)
  falls_can (Choice at branches rest) f b extent around c =
      let x = some_falls at branches f.0 b.1 b.2 (Rest rest extent ∷ around) (quiet_can points.ends (falls_can rest f.1 b.3 extent around c))
      in
      chosen_can x.begins x.can
  falls_can (Rec name body rest) f b extent around c =
      quiet_can points.begins (falls_can body f.0 b.0 (TurnOf name body) (Rest rest extent ∷ around)
      (quiet_can points.ends (falls_can rest f.1 b.1 extent around c)))
  falls_can (Continue name rest) f b extent around c = absurd f

  some_falls : (at : Name) (branches : Branches) → SomeFalls branches → BeginAt at branches → AreBegunIn branches → (behind : Point) →
      Can (Rest Nothing Once ∷ behind) → Falling branches behind
  some_falls at NoBranch f s b behind c = absurd f
  some_falls at (Branch (Says m rest) more) (inl f) s b behind c =
      record { m = m; branch = rest; begins = points.this; can = falls_can rest f b.0 Once behind c }
  some_falls at (Branch Nothing more) (inl f) s b behind c = absurd s
  some_falls at (Branch (Choice other branches rest) more) (inl f) s b behind c = absurd s
  some_falls at (Branch (Rec name body rest) more) (inl f) s b behind c = absurd s
  some_falls at (Branch (Continue name rest) more) (inl f) s b behind c = absurd s
  some_falls at (Branch g more) (inr f) s b behind c =
      let x = some_falls at more f (begin_later at g more s) b.1 behind c in
      record { m = x.m; branch = x.branch; begins = points.later x.begins; can = x.can }

-- where a `continue` leads, and from there an end can be reached
record Back (at : Point) (name : Name) : Type 0 where
  to : Point
  leads : turned name at ≡ Some to
  can : Can to

abbrev Backs : List Name → Point → Type 0
Backs names at = (name : Name) → Contains names name → Back at name

any_can : (g : Global) → AreBegun g → CanBeLeft g → (names : List Name) → IsClosed names g → (extent : Extent) (around : Point) →
    Backs names (Rest Nothing extent ∷ around) → Can (Rest Nothing extent ∷ around) → Can (Rest g extent ∷ around)
any_can Nothing b l names k extent around backs c = c
any_can (Says m rest) b l names k extent around backs c = said_can m (any_can rest b l names k extent around backs c)
any_can (Choice at NoBranch rest) b l names k extent around backs c = absurd b.0
any_can (Choice at (Branch (Says m first) more) rest) b l names k extent around backs c =
    chosen_can points.this (any_can first b.2.0 l.0.0 names k.0.0 Once (Rest rest extent ∷ around)
    (λ name i. let x = backs name i in record {
      to = x.to;
      leads = turned_same name rest Nothing extent around ∙ x.leads;
      can = x.can;
    })
    (quiet_can points.ends (any_can rest b.3 l.1 names k.1 extent around backs c)))
any_can (Choice at (Branch Nothing more) rest) b l names k extent around backs c = absurd b.1
any_can (Choice at (Branch (Choice other branches first) more) rest) b l names k extent around backs c = absurd b.1
any_can (Choice at (Branch (Rec name body first) more) rest) b l names k extent around backs c = absurd b.1
any_can (Choice at (Branch (Continue name first) more) rest) b l names k extent around backs c = absurd b.1
any_can (Rec name body rest) b l names k extent around backs c =
    quiet_can points.begins (falls_can body l.0 b.0 (TurnOf name body) (Rest rest extent ∷ around)
    (quiet_can points.ends (any_can rest b.1 l.2 names k.1 extent around backs c)))
any_can (Continue name rest) b l names k extent around backs c =
    let x = backs name k.0 in quiet_can (points.continues (turned_same name rest Nothing extent around ∙ x.leads)) x.can

-- ---- points of such a protocol

abbrev Piece : List Name → Global → Type 0
Piece names g = AreBegun g × CanBeLeft g × IsClosed names g

abbrev names_at : Extent → List Name → List Name
names_at Once names = names
names_at (TurnOf name body) names = name ∷ names

abbrev names_of : Point → List Name
names_of [] = []
names_of (Rest left extent ∷ around) = names_at extent (names_of around)

abbrev SoundIn : Extent → List Name → Type 0
SoundIn Once names = Unit {0}
SoundIn (TurnOf name body) names = Piece (name ∷ names) body × Falls body

abbrev Sound : Point → Type 0
Sound [] = Unit {0}
Sound (Rest left extent ∷ around) = Piece (names_at extent (names_of around)) left × SoundIn extent (names_of around) × Sound around

turned_sound : (name : Name) (at to : Point) → turned name at ≡ Some to → Sound at → Sound to
turned_sound name [] to e f = cc
turned_sound name (Rest left Once ∷ around) to e f = turned_sound name around to e f.2
turned_sound name (Rest left (TurnOf other body) ∷ around) to e f = go (bytes_eq name other) e (λ i. turned_sound name around to i f.2)
  where
    go : (b : Bool) → elim b as (λ (v : Bool). Option Point) [
      | true ↦ Some (Rest body (TurnOf other body) ∷ around)
      | false ↦ turned name around
    ] ≡ Some to → (turned name around ≡ Some to → Sound to) → Sound to
    go true i ih =
        let s : (Rest body (TurnOf other body) ∷ around) ≡ to = cc in
        subst Sound s (f.1.0, f.1, f.2)
    go false i ih = ih i

quiet_sound : {from to : Point} → Quiet from to → Sound from → Sound to
quiet_sound points.ends f = f.2
quiet_sound points.begins f = (
  (f.0.0.0, f.0.1.1, f.0.2.0),
  ((f.0.0.0, f.0.1.1, f.0.2.0), f.0.1.0),
  ((f.0.0.1, f.0.1.2, f.0.2.1), f.1, f.2),
)
quiet_sound (points.continues {name = name} {rest = rest} {extent = extent} {around = around} {to = to} e) f =
    turned_sound name (Rest rest extent ∷ around) to e ((f.0.0, f.0.1, f.0.2.1), f.1, f.2)

branch_piece : (names : List Name) {branches : Branches} {m : Passing} {branch : Global} → Begins branches m branch →
    AreBegunIn branches → CanBeLeftIn branches → AreClosed names branches → Piece names branch
branch_piece names points.this b l k = (b.0, l.0, k.0)
branch_piece names (points.later i) b l k = branch_piece names i b.1 l.1 k.1

next_sound : {from to : Point} {m : Passing} → Next from m to → Sound from → Sound to
next_sound (points.quietly q n) f = next_sound n (quiet_sound q f)
next_sound points.says f = f
next_sound (points.chooses {extent = extent} {around = around} i) f = (
  branch_piece (names_at extent (names_of around)) i f.0.0.2 f.0.1.0 f.0.2.0,
  tt,
  ((f.0.0.3, f.0.1.1, f.0.2.1), f.1, f.2),
)

goes_sound : {from to : Point} {ms : List Passing} → Goes from ms to → Sound from → Sound to
goes_sound points.stays f = f
goes_sound (points.next n r) f = goes_sound r (next_sound n f)

backs_at : (extent : Extent) (around : Point) → SoundIn extent (names_of around) → Can (Rest Nothing extent ∷ around) →
    Backs (names_of around) around → Backs (names_at extent (names_of around)) (Rest Nothing extent ∷ around)
backs_at Once around s c backs = λ name i. let x = backs name i in record { to = x.to; leads = x.leads; can = x.can }
backs_at (TurnOf other body) around s c backs = λ name i. go name i (bytes_eq name other) refl
  where
    go : (name : Name) → Contains (other ∷ names_of around) name → (b : Bool) → bytes_eq name other ≡ b →
        Back (Rest Nothing (TurnOf other body) ∷ around) name
    go name i true e = record {
      to = Rest body (TurnOf other body) ∷ around;
      leads = ap (λ b. elim b as (λ (v : Bool). Option Point) [
        | true ↦ Some (Rest body (TurnOf other body) ∷ around)
        | false ↦ turned name around
      ]) e;
      can = falls_can body s.1 s.0.0 (TurnOf other body) around c;
    }
    go name i false e =
        let x = backs name (⊎_elim (λ f. absurd (is_other e (sym f))) (λ d. d) (first_or_later other (names_of around) name i)) in record {
          to = x.to;
          leads = ap (λ b. elim b as (λ (v : Bool). Option Point) [
            | true ↦ Some (Rest body (TurnOf other body) ∷ around)
            | false ↦ turned name around
          ]) e ∙ x.leads;
          can = x.can;
        }

record From (at : Point) : Type 0 where
  can : Can at
  backs : Backs (names_of at) at

from : (at : Point) → Sound at → From at
from [] f = record { can = ([], ([], points.stays, points.nothing_left)); backs = λ name i. absurd (none_contained name i) }
from (Rest left extent ∷ around) f =
    let o = from around f.2 in
    let c : Can (Rest Nothing extent ∷ around) = quiet_can points.ends o.can in
    let backs = backs_at extent around f.1 c o.backs in
    record {
      can = any_can left f.0.0 f.0.1 (names_at extent (names_of around)) f.0.2 extent around backs c;
      backs = λ name i. let x = backs name i in record {
        to = x.to;
        leads = turned_same name left Nothing extent around ∙ x.leads;
        can = x.can;
      };
    }

pub left_can_end : LeftCanEnd
left_can_end roles g valid left messages point goes =
    let c = (from point (goes_sound goes ((valid.begun, left, valid.closed), tt, tt))).can in
    (c.0, c.1.0, c.1.1, c.1.2)
