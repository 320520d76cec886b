-- Branches tell what was chosen where each takes a first message from one peer, with a label that none before it has.
use Rattle.std.proofs.Common.{◌≡◌, ◌≢◌, List, [], ◌∷◌, Bool, true, false, ◌&&◌, ◌||◌, not, if◌then◌else◌, Option, Some, None, Decides, refl}
use Rattle.std.proofs.Common.{sym, ap, ◌∙◌, true≢false}
use Rattle.std.specs.Str.{bytes_eq}
use Rattle.std.proofs.lemmas.Slice.Eq.{bytes_eq-Decides}
use Rattle.mg_text.specs.Call.{Name}
use Rattle.scr_tree.specs.declared.syntax.Direction.{Direction}
use Rattle.scr_tree.specs.declared.syntax.Direction.TheVariants as directions
use Rattle.scr_tree.specs.declared.syntax.Payload.{Payload}
use Rattle.scr_tree.specs.declared.syntax.Message.{Message as Said}
use Rattle.scr_tree.specs.Meaning.{message_of, towards}
use Rattle.scr_tree.specs.Protocol.{Protocol, Does, ChoiceHere, ChoiceThere, Branches as Told}
use Rattle.scr_tree.specs.Protocol as protocol
use Rattle.scr_tree.specs.Tree.{Statements, Nothing, Says, Choice, Rec, Continue, Do, Branches, NoBranch, Branch}
use Rattle.scr_judge.specs.inner.Seen.{Names, none, with_name}
use Rattle.scr_global.specs.Projection.{first_labels}
use Rattle.scr_global.specs.Projecting.{is_among, all_take, all_differ, first_peer, tells_apart}
use Rattle.scr_global.specs.Texts.{spoken, spoken_each}
use Rattle.scr_project.specs.inner.Merge.{taken, first_taken, tells, telling}

-- ---- labels that differ

eq_comm : (a b : Name) → bytes_eq a b ≡ bytes_eq b a
eq_comm a b = go (bytes_eq a b) (bytes_eq b a) (bytes_eq-Decides a b) (bytes_eq-Decides b a)
  where
    go : (x y : Bool) → Decides x (a ≡ b) → Decides y (b ≡ a) → x ≡ y
    go true true h k = refl
    go true false h k = absurd (true≢false (sym (k.1 (sym (h.0 refl)))))
    go false true h k = absurd (true≢false (sym (h.1 (sym (k.0 refl)))))
    go false false h k = refl

-- none of them is one of these
abbrev apart_from : Names → List Name → Bool
apart_from has [] = true
apart_from has (l ∷ ls) = not (has l) && apart_from has ls

-- each is none of these and none before it
abbrev fresh : Names → List Name → Bool
fresh has [] = true
fresh has (l ∷ ls) = not (has l) && fresh (with_name l has) ls

-- (not (a || b) && (c && d)) with the parts in another order
in_order : (a b c d : Bool) → (not (a || b) && (c && d)) ≡ (not (a || false) && (not b && (c && d)))
in_order true b c d = refl
in_order false b c d = refl

swapped : (a h m d : Bool) → (not (a || h) && (not m && d)) ≡ (not (a || m) && (not h && d))
swapped true h m d = refl
swapped false true true d = refl
swapped false true false d = refl
swapped false false true d = refl
swapped false false false d = refl

apart_with : (has : Names) (l : Name) (ls : List Name) → apart_from (with_name l has) ls ≡ (not (is_among ls l) && apart_from has ls)
apart_with has l [] = refl
apart_with has l (k ∷ ls) =
    ap (λ (z : Bool). not (bytes_eq l k || has k) && z) (apart_with has l ls)
    ∙ swapped (bytes_eq l k) (has k) (is_among ls l) (apart_from has ls)
    ∙ ap (λ (z : Bool). not (z || is_among ls l) && (not (has k) && apart_from has ls)) (eq_comm l k)

turned_about : (h m d f : Bool) → (not h && (d && (not m && f))) ≡ ((not m && d) && (not h && f))
turned_about true true d f = refl
turned_about true false true f = refl
turned_about true false false f = refl
turned_about false true true f = refl
turned_about false true false f = refl
turned_about false false true f = refl
turned_about false false false f = refl

fresh_is : (has : Names) (ls : List Name) → fresh has ls ≡ (all_differ ls && apart_from has ls)
fresh_is has [] = refl
fresh_is has (l ∷ ls) =
    ap (λ (z : Bool). not (has l) && z) (fresh_is (with_name l has) ls ∙ ap (λ (z : Bool). all_differ ls && z) (apart_with has l ls))
    ∙ turned_about (has l) (is_among ls l) (all_differ ls) (apart_from has ls)

apart_none : (ls : List Name) → apart_from none ls ≡ true
apart_none [] = refl
apart_none (l ∷ ls) = apart_none ls

and_true : (b : Bool) → (b && true) ≡ b
and_true true = refl
and_true false = refl

fresh_none : (ls : List Name) → fresh none ls ≡ all_differ ls
fresh_none ls = fresh_is none ls ∙ ap (λ (z : Bool). all_differ ls && z) (apart_none ls) ∙ and_true (all_differ ls)

-- ---- branches

rearranged : (e n t f : Bool) → (e && (n && (t && f))) ≡ ((e && t) && (n && f))
rearranged true true t f = refl
rearranged true false true f = refl
rearranged true false false f = refl
rearranged false n t f = refl

not_take : (b : Bool) (peer : Name) (bs : Told) (p : Protocol) (more : Told) →
    all_take peer (protocol.Branch (if b then ChoiceHere bs p else ChoiceThere 0 bs p) more) ≡ false
not_take true peer bs p more = refl
not_take false peer bs p more = refl

module _ (me : Name) (peer : Name) where
  abbrev Tells : Names → Branches → Type 0
  Tells has bs = tells peer has bs ≡ (all_take peer (spoken_each me bs) && fresh has (first_labels (spoken_each me bs)))

  said_tells : (has : Names) (m : Said) (rest : Statements) (more : Branches) → Tells (with_name m.label has) more → (d : Direction) →
      elim (elim d as (λ _. Option Said) [ directions.To ↦ None | directions.From ↦ Some m ]) as (λ _. Bool)
      [ None ↦ false | Some n ↦ bytes_eq n.peer peer && (not (has n.label) && tells peer (with_name n.label has) more) ] ≡
      (all_take peer (protocol.Branch (Does (towards d m.peer m.label m.payload) (spoken me rest)) (spoken_each me more))
      && fresh has (first_labels (protocol.Branch (Does (towards d m.peer m.label m.payload) (spoken me rest)) (spoken_each me more))))
  said_tells has m rest more h directions.To = refl
  said_tells has m rest more h directions.From =
      ap (λ (z : Bool). bytes_eq m.peer peer && (not (has m.label) && z)) h
      ∙ rearranged (bytes_eq m.peer peer) (not (has m.label)) (all_take peer (spoken_each me more))
      (fresh (with_name m.label has) (first_labels (spoken_each me more)))

  pub tells_is : (has : Names) (bs : Branches) →
      tells peer has bs ≡ (all_take peer (spoken_each me bs) && fresh has (first_labels (spoken_each me bs)))
  tells_is has NoBranch = refl
  tells_is has (Branch Nothing more) = refl
  tells_is has (Branch (Says m rest) more) = said_tells has m rest more (tells_is (with_name m.label has) more) m.direction
  tells_is has (Branch (Choice p at bs rest) more) =
      sym (ap (λ (z : Bool). z && fresh has (first_labels (spoken_each me (Branch (Choice p at bs rest) more))))
      (not_take (bytes_eq at me) peer (spoken_each me bs) (spoken me rest) (spoken_each me more)))
  tells_is has (Branch (Rec p name body rest) more) = refl
  tells_is has (Branch (Continue p name rest) more) = refl
  tells_is has (Branch (Do p name rest) more) = refl

  pub tells_none : (bs : Branches) → tells peer none bs ≡ tells_apart peer (spoken_each me bs)
  tells_none bs = tells_is none bs ∙ ap (λ (z : Bool). all_take peer (spoken_each me bs) && z)
      (fresh_none (first_labels (spoken_each me bs)))

-- ---- the peer that tells

-- what tells, by the message that the first branch takes
abbrev pub told_by : Branches → Option Said → Option Name
told_by bs None = None
told_by bs (Some m) = if tells m.peer none bs then Some m.peer else None

-- what tells of branches, by the first of them
abbrev apart_by : Protocol → Told → Option Name
apart_by p behind = if tells_apart (first_peer p) (protocol.Branch p behind) then Some (first_peer p) else None

none_tells : (b : Bool) (bs : Told) (p : Protocol) (behind : Told) → apart_by (if b then ChoiceHere bs p else ChoiceThere 0 bs p) behind
    ≡ None
none_tells true bs p behind = refl
none_tells false bs p behind = refl

module _ (me : Name) where
  one_tells : (m : Said) (rest : Statements) (more : Branches) (d : Direction) → m.direction ≡ d →
      apart_by (Does (towards d m.peer m.label m.payload) (spoken me rest)) (spoken_each me more) ≡
      told_by (Branch (Says m rest) more) (elim d as (λ _. Option Said) [ directions.To ↦ None | directions.From ↦ Some m ])
  one_tells m rest more directions.To e = refl
  one_tells m rest more directions.From e =
      ap (λ (z : Bool). if z then Some m.peer else None)
      (sym (tells_none me m.peer (Branch (Says m rest) more) ∙
      ap (λ (d : Direction). tells_apart m.peer (protocol.Branch (Does (towards d m.peer m.label m.payload) (spoken me rest))
      (spoken_each me more))) e))

  pub telling_is : (b : Statements) (more : Branches) → telling me (Branch b more) ≡ told_by (Branch b more) (first_taken b)
  telling_is Nothing more = refl
  telling_is (Says m rest) more = one_tells m rest more m.direction refl
  telling_is (Choice p at bs rest) more = none_tells (bytes_eq at me) (spoken_each me bs) (spoken me rest) (spoken_each me more)
  telling_is (Rec p name body rest) more = refl
  telling_is (Continue p name rest) more = refl
  telling_is (Do p name rest) more = refl
