-- The test decides whether statements are the same.
use Rattle.std.proofs.Common.{◌≡◌, refl, true, ◌&&◌}
use Rattle.std.specs.Str.{bytes_eq}
use Rattle.mg_text.specs.Call.{Name}
use Rattle.scr_tree.specs.declared.syntax.Message.{Message}
use Rattle.scr_tree.specs.declared.syntax.Payload.{Payload}
use Rattle.scr_tree.specs.declared.syntax.Payload.TheVariants as payloads
use Rattle.scr_tree.specs.declared.syntax.Direction.{Direction}
use Rattle.scr_tree.specs.declared.syntax.Direction.TheVariants as directions
use Rattle.scr_tree.specs.Meaning.{message_of, towards}
use Rattle.scr_tree.specs.Tree.{Statements, Nothing, Says, Choice, Rec, Continue, Do, Branches, NoBranch, Branch}
use Rattle.scr_global.specs.Projecting.{same_kind, same_message}
use Rattle.scr_global.proofs.Names.{same, is_same}
use Rattle.scr_global.proofs.Tests.{and_parts, and_both}
use Rattle.scr_back.specs.Same.{IsSameMessage, AreSame, AreSameBranches}
use Rattle.scr_same.specs.inner.Alike.{is_alike, are_alike}

-- ---- messages

kind_is : (a b : Payload) → same_kind a b ≡ true → a ≡ b
kind_is payloads.Nothing payloads.Nothing e = refl
kind_is payloads.Int payloads.Int e = refl
kind_is payloads.Boolean payloads.Boolean e = refl
kind_is payloads.Text payloads.Text e = refl
kind_is _ _ e = cc

kind_same : (a b : Payload) → a ≡ b → same_kind a b ≡ true
kind_same payloads.Nothing payloads.Nothing e = refl
kind_same payloads.Int payloads.Int e = refl
kind_same payloads.Boolean payloads.Boolean e = refl
kind_same payloads.Text payloads.Text e = refl
kind_same _ _ e = cc

-- what two messages with these parts have in common
record HaveSame (d e : Direction) (p q l k : Name) (a b : Payload) : Type 0 where
  direction : d ≡ e
  peer : p ≡ q
  label : l ≡ k
  payload : a ≡ b

parts_are : (p q l k : Name) (a b : Payload) → (bytes_eq p q && (bytes_eq l k && same_kind a b)) ≡ true → (p ≡ q) × (l ≡ k) × (a ≡ b)
parts_are p q l k a b e =
    let x = and_parts (bytes_eq p q) (bytes_eq l k && same_kind a b) e in
    let y = and_parts (bytes_eq l k) (same_kind a b) x.1 in (is_same x.0, is_same y.0, kind_is a b y.1)

have_same : (d e : Direction) (p q l k : Name) (a b : Payload) → same_message (towards d p l a) (towards e q k b) ≡ true →
    HaveSame d e p q l k a b
have_same directions.To directions.To p q l k a b h =
    let x = parts_are p q l k a b h in record { direction = refl; peer = x.0; label = x.1; payload = x.2 }
have_same directions.From directions.From p q l k a b h =
    let x = parts_are p q l k a b h in record { direction = refl; peer = x.0; label = x.1; payload = x.2 }
have_same directions.To directions.From p q l k a b h = absurd cc
have_same directions.From directions.To p q l k a b h = absurd cc

message_is : (m n : Message) → same_message (message_of m) (message_of n) ≡ true → IsSameMessage m n
message_is m n h =
    let s = have_same m.direction n.direction m.peer n.peer m.label n.label m.payload n.payload h in
    record { direction = s.direction; peer = s.peer; label = s.label; payload = s.payload }

same_parts : (p q l k : Name) (a b : Payload) → p ≡ q → l ≡ k → a ≡ b → (bytes_eq p q && (bytes_eq l k && same_kind a b)) ≡ true
same_parts p q l k a b e f g =
    and_both (bytes_eq p q) (bytes_eq l k && same_kind a b) (same e)
    (and_both (bytes_eq l k) (same_kind a b) (same f) (kind_same a b g))

same_towards : (d e : Direction) (p q l k : Name) (a b : Payload) → HaveSame d e p q l k a b →
    same_message (towards d p l a) (towards e q k b) ≡ true
same_towards directions.To directions.To p q l k a b s = same_parts p q l k a b s.peer s.label s.payload
same_towards directions.From directions.From p q l k a b s = same_parts p q l k a b s.peer s.label s.payload
same_towards directions.To directions.From p q l k a b s = let e = s.direction in cc
same_towards directions.From directions.To p q l k a b s = let e = s.direction in cc

is_message : (m n : Message) → IsSameMessage m n → same_message (message_of m) (message_of n) ≡ true
is_message m n s =
    same_towards m.direction n.direction m.peer n.peer m.label n.label m.payload n.payload
    (record { direction = s.direction; peer = s.peer; label = s.label; payload = s.payload })

-- ---- statements

mutual
  pub true_same : (a b : Statements) → is_alike a b ≡ true → AreSame a b
  true_same Nothing Nothing e = tt
  true_same Nothing (Says n other) e = absurd cc
  true_same Nothing (Choice q by cs other) e = absurd cc
  true_same Nothing (Rec q word c other) e = absurd cc
  true_same Nothing (Continue q word other) e = absurd cc
  true_same Nothing (Do q word other) e = absurd cc
  true_same (Says m rest) Nothing e = absurd cc
  true_same (Says m rest) (Says n other) e =
      let a = and_parts (same_message (message_of m) (message_of n)) (is_alike rest other) e in
      (message_is m n a.0, true_same rest other a.1)
  true_same (Says m rest) (Choice q by cs other) e = absurd cc
  true_same (Says m rest) (Rec q word c other) e = absurd cc
  true_same (Says m rest) (Continue q word other) e = absurd cc
  true_same (Says m rest) (Do q word other) e = absurd cc
  true_same (Choice p at bs rest) Nothing e = absurd cc
  true_same (Choice p at bs rest) (Says n other) e = absurd cc
  true_same (Choice p at bs rest) (Choice q by cs other) e =
      let a = and_parts (bytes_eq at by) (are_alike bs cs && is_alike rest other) e in
      let d = and_parts (are_alike bs cs) (is_alike rest other) a.1 in
      (is_same a.0, true_branches bs cs d.0, true_same rest other d.1)
  true_same (Choice p at bs rest) (Rec q word c other) e = absurd cc
  true_same (Choice p at bs rest) (Continue q word other) e = absurd cc
  true_same (Choice p at bs rest) (Do q word other) e = absurd cc
  true_same (Rec p name b rest) Nothing e = absurd cc
  true_same (Rec p name b rest) (Says n other) e = absurd cc
  true_same (Rec p name b rest) (Choice q by cs other) e = absurd cc
  true_same (Rec p name b rest) (Rec q word c other) e =
      let a = and_parts (bytes_eq name word) (is_alike b c && is_alike rest other) e in
      let d = and_parts (is_alike b c) (is_alike rest other) a.1 in
      (is_same a.0, true_same b c d.0, true_same rest other d.1)
  true_same (Rec p name b rest) (Continue q word other) e = absurd cc
  true_same (Rec p name b rest) (Do q word other) e = absurd cc
  true_same (Continue p name rest) Nothing e = absurd cc
  true_same (Continue p name rest) (Says n other) e = absurd cc
  true_same (Continue p name rest) (Choice q by cs other) e = absurd cc
  true_same (Continue p name rest) (Rec q word c other) e = absurd cc
  true_same (Continue p name rest) (Continue q word other) e =
      let a = and_parts (bytes_eq name word) (is_alike rest other) e in (is_same a.0, true_same rest other a.1)
  true_same (Continue p name rest) (Do q word other) e = absurd cc
  true_same (Do p name rest) Nothing e = absurd cc
  true_same (Do p name rest) (Says n other) e = absurd cc
  true_same (Do p name rest) (Choice q by cs other) e = absurd cc
  true_same (Do p name rest) (Rec q word c other) e = absurd cc
  true_same (Do p name rest) (Continue q word other) e = absurd cc
  true_same (Do p name rest) (Do q word other) e =
      let a = and_parts (bytes_eq name word) (is_alike rest other) e in (is_same a.0, true_same rest other a.1)

  true_branches : (bs cs : Branches) → are_alike bs cs ≡ true → AreSameBranches bs cs
  true_branches NoBranch NoBranch e = tt
  true_branches NoBranch (Branch c others) e = absurd cc
  true_branches (Branch b more) NoBranch e = absurd cc
  true_branches (Branch b more) (Branch c others) e =
      let a = and_parts (is_alike b c) (are_alike more others) e in (true_same b c a.0, true_branches more others a.1)

mutual
  pub same_true : (a b : Statements) → AreSame a b → is_alike a b ≡ true
  same_true Nothing Nothing h = refl
  same_true Nothing (Says n other) h = absurd h
  same_true Nothing (Choice q by cs other) h = absurd h
  same_true Nothing (Rec q word c other) h = absurd h
  same_true Nothing (Continue q word other) h = absurd h
  same_true Nothing (Do q word other) h = absurd h
  same_true (Says m rest) Nothing h = absurd h
  same_true (Says m rest) (Says n other) h =
      and_both (same_message (message_of m) (message_of n)) (is_alike rest other) (is_message m n h.0) (same_true rest other h.1)
  same_true (Says m rest) (Choice q by cs other) h = absurd h
  same_true (Says m rest) (Rec q word c other) h = absurd h
  same_true (Says m rest) (Continue q word other) h = absurd h
  same_true (Says m rest) (Do q word other) h = absurd h
  same_true (Choice p at bs rest) Nothing h = absurd h
  same_true (Choice p at bs rest) (Says n other) h = absurd h
  same_true (Choice p at bs rest) (Choice q by cs other) h =
      and_both (bytes_eq at by) (are_alike bs cs && is_alike rest other) (same h.0)
      (and_both (are_alike bs cs) (is_alike rest other) (branches_true bs cs h.1) (same_true rest other h.2))
  same_true (Choice p at bs rest) (Rec q word c other) h = absurd h
  same_true (Choice p at bs rest) (Continue q word other) h = absurd h
  same_true (Choice p at bs rest) (Do q word other) h = absurd h
  same_true (Rec p name b rest) Nothing h = absurd h
  same_true (Rec p name b rest) (Says n other) h = absurd h
  same_true (Rec p name b rest) (Choice q by cs other) h = absurd h
  same_true (Rec p name b rest) (Rec q word c other) h =
      and_both (bytes_eq name word) (is_alike b c && is_alike rest other) (same h.0)
      (and_both (is_alike b c) (is_alike rest other) (same_true b c h.1) (same_true rest other h.2))
  same_true (Rec p name b rest) (Continue q word other) h = absurd h
  same_true (Rec p name b rest) (Do q word other) h = absurd h
  same_true (Continue p name rest) Nothing h = absurd h
  same_true (Continue p name rest) (Says n other) h = absurd h
  same_true (Continue p name rest) (Choice q by cs other) h = absurd h
  same_true (Continue p name rest) (Rec q word c other) h = absurd h
  same_true (Continue p name rest) (Continue q word other) h =
      and_both (bytes_eq name word) (is_alike rest other) (same h.0) (same_true rest other h.1)
  same_true (Continue p name rest) (Do q word other) h = absurd h
  same_true (Do p name rest) Nothing h = absurd h
  same_true (Do p name rest) (Says n other) h = absurd h
  same_true (Do p name rest) (Choice q by cs other) h = absurd h
  same_true (Do p name rest) (Rec q word c other) h = absurd h
  same_true (Do p name rest) (Continue q word other) h = absurd h
  same_true (Do p name rest) (Do q word other) h =
      and_both (bytes_eq name word) (is_alike rest other) (same h.0) (same_true rest other h.1)

  branches_true : (bs cs : Branches) → AreSameBranches bs cs → are_alike bs cs ≡ true
  branches_true NoBranch NoBranch h = refl
  branches_true NoBranch (Branch c others) h = absurd h
  branches_true (Branch b more) NoBranch h = absurd h
  branches_true (Branch b more) (Branch c others) h =
      and_both (is_alike b c) (are_alike more others) (same_true b c h.0) (branches_true more others h.1)
