-- What a projection keeps of the statements of a valid global protocol.
use Rattle.std.proofs.Common.{◌≡◌, ◌≢◌, ◌≤◌, ℕ, suc, max, List, [], ◌∷◌, Bool, true, false, ◌&&◌, if◌then◌else◌, Option, Some, None, refl}
use Rattle.std.proofs.Common.{sym, ap, subst, ◌∙◌, arith}
use Rattle.std.specs.Prelude.{Contains}
use Rattle.std.specs.Str.{bytes_eq}
use Rattle.mg_text.specs.Call.{Name}
use Rattle.mg_text.specs.declared.place.Place.{Place}
use Rattle.mg_read.proofs.Steps.{some_is, none_is_not}
use Rattle.scr_tree.specs.declared.syntax.Direction.{Direction}
use Rattle.scr_tree.specs.declared.syntax.Direction.TheVariants as directions
use Rattle.scr_tree.specs.declared.syntax.Message.{Message}
use Rattle.scr_tree.specs.Meaning.{towards, message_of}
use Rattle.scr_tree.specs.Protocol.{Does, ChoiceHere, ChoiceThere, Protocol, Branches as Told}
use Rattle.scr_tree.specs.Protocol as protocol
use Rattle.scr_tree.specs.Tree as local
use Rattle.scr_tree.specs.Valid.{HasBranches as HaveBranches}
use Rattle.scr_tree.specs.Valid as valid
use Rattle.scr_tree.specs.Words.{IsName}
use Rattle.scr_global.specs.Projecting.{both, mapped, is_nothing_to, all_same, all_take, all_differ, first_peer, tells_apart}
use Rattle.scr_global.specs.Projection.{first_labels}
use Rattle.scr_global.specs.Tree.{Told as Passed, Statements, Nothing, Says, Choice, Rec, Continue, Branches, NoBranch, Branch, said}
use Rattle.scr_global.specs.Texts.{spoken, spoken_each, behind, told_in, merged_text, projected, projected_each}
use Rattle.scr_global.proofs.Names.{is_same, is_other}
use Rattle.scr_global.proofs.Tests.{and_parts}
use Rattle.scr_global_tree.specs.Valid.{depth, depth_in, HasBranches}
use Rattle.scr_project.proofs.Sound.{Sound, AreSound}

mapped_some : {A B : Type 0} (f : A → B) (o : Option A) (b : B) → mapped f o ≡ Some b → (a : A) × (o ≡ Some a) × (f a ≡ b)
mapped_some f None b e = absurd (none_is_not b e)
mapped_some f (Some a) b e = (a, refl, some_is (f a) b e)

both_some : {A B C : Type 0} (f : A → B → Option C) (o : Option A) (q : Option B) (c : C) → both f o q ≡ Some c →
    (a : A) × (b : B) × (o ≡ Some a) × (q ≡ Some b) × (f a b ≡ Some c)
both_some f None q c e = absurd (none_is_not c e)
both_some f (Some a) None c e = absurd (none_is_not c e)
both_some f (Some a) (Some b) c e = (a, b, refl, refl, e)

module _ (roles : List Name) (me : Name) where
  abbrev mutual
    -- the same of what is left for a role: peers are listed, and are other roles
    pub Keeps : List Name → local.Statements → Type 0
    Keeps names local.Nothing = Unit {0}
    Keeps names (local.Says m rest) = IsName m.label × IsName m.peer × Contains roles m.peer × (m.peer ≢ me) × Keeps names rest
    Keeps names (local.Choice place at branches rest) = IsName at × Contains roles at × HaveBranches branches × KeepEach names branches
        × Keeps names rest
    Keeps names (local.Rec place name body rest) = IsName name × (Contains names name → ⊥) × Keeps (name ∷ names) body × Keeps names rest
    Keeps names (local.Continue place name rest) = IsName name × Contains names name × Keeps names rest
    Keeps names (local.Do place name rest) = ⊥

    pub KeepEach : List Name → local.Branches → Type 0
    KeepEach names local.NoBranch = Unit {0}
    KeepEach names (local.Branch b more) = Keeps names b × KeepEach names more

  keeps_behind : (names : List Name) (s t : local.Statements) → Keeps names s → Keeps names t → Keeps names (behind s t)
  keeps_behind names local.Nothing t h k = k
  keeps_behind names (local.Says m s) t h k = (h.0, h.1, h.2, h.3, keeps_behind names s t h.4 k)
  keeps_behind names (local.Choice place at branches s) t h k = (h.0, h.1, h.2, h.3, keeps_behind names s t h.4 k)
  keeps_behind names (local.Rec place name body s) t h k = (h.0, h.1, h.2, keeps_behind names s t h.3 k)
  keeps_behind names (local.Continue place name s) t h k = (h.0, h.1, keeps_behind names s t h.2 k)
  keeps_behind names (local.Do place name s) t h k = absurd h

  keeps_told : (names : List Name) (m : Passed) (b c : Bool) (s : local.Statements) → bytes_eq m.from me ≡ b → bytes_eq m.to me ≡ c →
      IsName m.label → IsName m.from → IsName m.to → Contains roles m.from → Contains roles m.to → (m.from ≢ m.to) → Keeps names s →
      Keeps names (told_in b c m s)
  keeps_told names m true c s e f label from to has_from has_to apart h = (label, to, has_to, (λ same. apart (is_same e ∙ sym same)), h)
  keeps_told names m false true s e f label from to has_from has_to apart h = (label, from, has_from, is_other e, h)
  keeps_told names m false false s e f label from to has_from has_to apart h = h

  -- the peer that tells is one from which a message is taken
  no_take : (b : Bool) (bs : Told) (p : Protocol) (more : Told) →
      all_take (first_peer (if b then ChoiceHere bs p else ChoiceThere 0 bs p))
      (protocol.Branch (if b then ChoiceHere bs p else ChoiceThere 0 bs p) more) ≡ true → ⊥
  no_take true bs p more e = cc
  no_take false bs p more e = cc

  abbrev IsListed : Name → Type 0
  IsListed peer = IsName peer × Contains roles peer

  taken_listed : (names : List Name) (m : Message) (d : Direction) (p : Protocol) (more : Told) → IsListed m.peer →
      all_take (first_peer (Does (towards d m.peer m.label m.payload) p))
      (protocol.Branch (Does (towards d m.peer m.label m.payload) p) more) ≡ true →
      IsListed (first_peer (Does (towards d m.peer m.label m.payload) p))
  taken_listed names m directions.To p more h e = absurd cc
  taken_listed names m directions.From p more h e = h

  peer_listed : (names : List Name) (b : local.Statements) (more : Told) → Keeps names b →
      all_take (first_peer (spoken me b)) (protocol.Branch (spoken me b) more) ≡ true → IsListed (first_peer (spoken me b))
  peer_listed names local.Nothing more h e = absurd cc
  peer_listed names (local.Says m rest) more h e = taken_listed names m m.direction (spoken me rest) more (h.1, h.2) e
  peer_listed names (local.Choice place at branches rest) more h e =
      absurd (no_take (bytes_eq at me) (spoken_each me branches) (spoken me rest) more e)
  peer_listed names (local.Rec place name body rest) more h e = absurd cc
  peer_listed names (local.Continue place name rest) more h e = absurd cc
  peer_listed names (local.Do place name rest) more h e = absurd h

  merged_by : (names : List Name) (place : Place) (b : local.Statements) (more : local.Branches) (r s : local.Statements) →
      KeepEach names (local.Branch b more) → Keeps names r → (c d : Bool) →
      tells_apart (first_peer (spoken me b)) (spoken_each me (local.Branch b more)) ≡ d →
      (if c then Some (behind b r) else (if d then Some (local.Choice place (first_peer (spoken me b)) (local.Branch b more) r) else None))
      ≡ Some s → Keeps names s
  merged_by names place b more r s h k true d t e = subst (Keeps names) (some_is (behind b r) s e) (keeps_behind names b r h.0 k)
  merged_by names place b more r s h k false true t e =
      let takes = and_parts (all_take (first_peer (spoken me b)) (spoken_each me (local.Branch b more)))
      (all_differ (first_labels (spoken_each me (local.Branch b more)))) t in
      let l = peer_listed names b (spoken_each me more) h.0 takes.0 in
      subst (Keeps names) (some_is (local.Choice place (first_peer (spoken me b)) (local.Branch b more) r) s e) (l.0, l.1, tt, h, k)
  merged_by names place b more r s h k false false t e = absurd (none_is_not s e)

  keeps_merged : (names : List Name) (place : Place) (bs : local.Branches) (r s : local.Statements) → KeepEach names bs → Keeps names r →
      merged_text me place bs r ≡ Some s → Keeps names s
  keeps_merged names place local.NoBranch r s h k e = absurd (none_is_not s e)
  keeps_merged names place (local.Branch b more) r s h k e =
      merged_by names place b more r s h k (all_same (spoken me b) (spoken_each me more))
      (tells_apart (first_peer (spoken me b)) (spoken_each me (local.Branch b more))) refl e

  each_kept : (branches : Branches) (bs : local.Branches) → HasBranches branches → projected_each me branches ≡ Some bs → HaveBranches bs
  each_kept NoBranch bs h e = absurd h
  each_kept (Branch b more) bs h e =
      let p = both_some (λ b bs. Some (local.Branch b bs)) (projected me b) (projected_each me more) bs e in
      subst HaveBranches (some_is (local.Branch p.0 p.1) bs p.4) tt

  chosen_kept : (names : List Name) (place : Place) (at : Name) (branches : Branches) (o : Option local.Branches)
      (q : Option local.Statements) (s : local.Statements) → IsName at → Contains roles at →
      ((bs : local.Branches) → o ≡ Some bs → HaveBranches bs × KeepEach names bs) → ((r : local.Statements) → q ≡ Some r → Keeps names r) →
      (b : Bool) →
      (if b then both (λ bs r. Some (local.Choice place at bs r)) o q else both (merged_text me place) o q) ≡ Some s → Keeps names s
  chosen_kept names place at branches o q s is_name has each rest true e =
      let p = both_some (λ bs r. Some (local.Choice place at bs r)) o q s e in
      let k = each p.0 p.2 in
      subst (Keeps names) (some_is (local.Choice place at p.0 p.1) s p.4) (is_name, has, k.0, k.1, rest p.1 p.3)
  chosen_kept names place at branches o q s is_name has each rest false e =
      let p = both_some (merged_text me place) o q s e in keeps_merged names place p.0 p.1 s (each p.0 p.2).1 (rest p.1 p.3) p.4

  turned_kept : (names : List Name) (place : Place) (name : Name) (o q : Option local.Statements) (s : local.Statements) → IsName name →
      (Contains names name → ⊥) →
      ((b : local.Statements) → o ≡ Some b → Keeps (name ∷ names) b) → ((r : local.Statements) → q ≡ Some r → Keeps names r) → (b : Bool) →
      (if b then q else both (λ b r. Some (local.Rec place name b r)) o q) ≡ Some s → Keeps names s
  turned_kept names place name o q s is_name new body rest true e = rest s e
  turned_kept names place name o q s is_name new body rest false e =
      let p = both_some (λ b r. Some (local.Rec place name b r)) o q s e in
      subst (Keeps names) (some_is (local.Rec place name p.0 p.1) s p.4) (is_name, new, body p.0 p.2, rest p.1 p.3)

  mutual
    pub keeps : (names : List Name) (t : Statements) (s : local.Statements) → Sound roles names t → projected me t ≡ Some s → Keeps names s
    keeps names Nothing s h e = subst (Keeps names) (some_is local.Nothing s e) tt
    keeps names (Says m rest) s h e =
        let p = mapped_some (told_in (bytes_eq m.from me) (bytes_eq m.to me) m) (projected me rest) s e in
        subst (Keeps names) p.2 (keeps_told names m (bytes_eq m.from me) (bytes_eq m.to me) p.0 refl refl h.0 h.1 h.2 h.3 h.4 h.5
        (keeps names rest p.0 h.6 p.1))
    keeps names (Choice place at branches rest) s h e =
        chosen_kept names place at branches (projected_each me branches) (projected me rest) s h.0 h.1
        (λ bs f. (each_kept branches bs h.2 f, keeps_each names branches bs h.3 f)) (λ r f. keeps names rest r h.4 f) (bytes_eq at me) e
    keeps names (Rec place name body rest) s h e =
        turned_kept names place name (projected me body) (projected me rest) s h.0 h.1
        (λ b f. keeps (name ∷ names) body b h.2 f) (λ r f. keeps names rest r h.3 f) (is_nothing_to me name (said body)) e
    keeps names (Continue place name rest) s h e =
        let p = mapped_some (local.Continue place name) (projected me rest) s e in
        subst (Keeps names) p.2 (h.0, h.1, keeps names rest p.0 h.2 p.1)

    keeps_each : (names : List Name) (branches : Branches) (bs : local.Branches) → AreSound roles names branches →
        projected_each me branches ≡ Some bs → KeepEach names bs
    keeps_each names NoBranch bs h e = subst (KeepEach names) (some_is local.NoBranch bs e) tt
    keeps_each names (Branch b more) bs h e =
        let p = both_some (λ b bs. Some (local.Branch b bs)) (projected me b) (projected_each me more) bs e in
        subst (KeepEach names) (some_is (local.Branch p.0 p.1) bs p.4) (keeps names b p.0 h.0 p.2, keeps_each names more p.1 h.1 p.3)

  -- ---- statements stand no deeper

  depth_behind : (s t : local.Statements) → valid.depth (behind s t) ≤ max (valid.depth s) (valid.depth t)
  depth_behind local.Nothing t = omega arith
  depth_behind (local.Says m s) t = let h = depth_behind s t in omega arith
  depth_behind (local.Choice place at branches s) t = let h = depth_behind s t in omega arith
  depth_behind (local.Rec place name body s) t = let h = depth_behind s t in omega arith
  depth_behind (local.Continue place name s) t = let h = depth_behind s t in omega arith
  depth_behind (local.Do place name s) t = let h = depth_behind s t in omega arith

  depth_told : (m : Passed) (b c : Bool) (s : local.Statements) → valid.depth (told_in b c m s) ≤ max 1 (valid.depth s)
  depth_told m true c s = omega arith
  depth_told m false true s = omega arith
  depth_told m false false s = omega arith

  depth_merged : (place : Place) (bs : local.Branches) (r s : local.Statements) → merged_text me place bs r ≡ Some s →
      valid.depth s ≤ max (suc (valid.depth_in bs)) (valid.depth r)
  depth_merged place local.NoBranch r s e = absurd (none_is_not s e)
  depth_merged place (local.Branch b more) r s e = go (all_same (spoken me b) (spoken_each me more))
      (tells_apart (first_peer (spoken me b)) (spoken_each me (local.Branch b more))) e
    where
      go : (c d : Bool) → (if c then Some (behind b r) else
          (if d then Some (local.Choice place (first_peer (spoken me b)) (local.Branch b more) r) else None)) ≡ Some s →
          valid.depth s ≤ max (suc (valid.depth_in (local.Branch b more))) (valid.depth r)
      go true d e = let same = ap valid.depth (some_is (behind b r) s e) in let h = depth_behind b r in omega arith
      go false true e = let same = ap valid.depth (some_is (local.Choice place (first_peer (spoken me b)) (local.Branch b more) r) s e) in
          omega arith
      go false false e = absurd (none_is_not s e)

  chosen_depth : (place : Place) (at : Name) (o : Option local.Branches) (q : Option local.Statements) (s : local.Statements)
      (inner later : ℕ) →
      ((bs : local.Branches) → o ≡ Some bs → valid.depth_in bs ≤ inner) → ((r : local.Statements) → q ≡ Some r → valid.depth r ≤ later) →
      (b : Bool) →
      (if b then both (λ bs r. Some (local.Choice place at bs r)) o q else both (merged_text me place) o q) ≡ Some s →
      valid.depth s ≤ max (suc inner) later
  chosen_depth place at o q s inner later each rest true e =
      let p = both_some (λ bs r. Some (local.Choice place at bs r)) o q s e in
      let h = each p.0 p.2 in let k = rest p.1 p.3 in let same = ap valid.depth (some_is (local.Choice place at p.0 p.1) s p.4) in omega
      arith
  chosen_depth place at o q s inner later each rest false e =
      let p = both_some (merged_text me place) o q s e in
      let h = each p.0 p.2 in let k = rest p.1 p.3 in let whole = depth_merged place p.0 p.1 s p.4 in omega arith

  turned_depth : (place : Place) (name : Name) (o q : Option local.Statements) (s : local.Statements) (inner later : ℕ) →
      ((b : local.Statements) → o ≡ Some b → valid.depth b ≤ inner) → ((r : local.Statements) → q ≡ Some r → valid.depth r ≤ later) →
      (b : Bool) →
      (if b then q else both (λ b r. Some (local.Rec place name b r)) o q) ≡ Some s → valid.depth s ≤ max (suc inner) later
  turned_depth place name o q s inner later body rest true e = let k = rest s e in omega arith
  turned_depth place name o q s inner later body rest false e =
      let p = both_some (λ b r. Some (local.Rec place name b r)) o q s e in
      let h = body p.0 p.2 in let k = rest p.1 p.3 in let same = ap valid.depth (some_is (local.Rec place name p.0 p.1) s p.4) in omega
      arith

  mutual
    pub no_deeper : (t : Statements) (s : local.Statements) → projected me t ≡ Some s → valid.depth s ≤ depth t
    no_deeper Nothing s e = let same = ap valid.depth (some_is local.Nothing s e) in omega arith
    no_deeper (Says m rest) s e =
        let p = mapped_some (told_in (bytes_eq m.from me) (bytes_eq m.to me) m) (projected me rest) s e in
        let h = no_deeper rest p.0 p.1 in let told = depth_told m (bytes_eq m.from me) (bytes_eq m.to me) p.0 in
        let same = ap valid.depth p.2 in omega arith
    no_deeper (Choice place at branches rest) s e =
        chosen_depth place at (projected_each me branches) (projected me rest) s (depth_in branches) (depth rest) (none_deeper branches)
        (no_deeper rest) (bytes_eq at me) e
    no_deeper (Rec place name body rest) s e =
        turned_depth place name (projected me body) (projected me rest) s (depth body) (depth rest) (no_deeper body) (no_deeper rest)
        (is_nothing_to me name (said body)) e
    no_deeper (Continue place name rest) s e =
        let p = mapped_some (local.Continue place name) (projected me rest) s e in
        let h = no_deeper rest p.0 p.1 in let same = ap valid.depth p.2 in omega arith

    none_deeper : (branches : Branches) (bs : local.Branches) → projected_each me branches ≡ Some bs → valid.depth_in bs ≤ depth_in branches
    none_deeper NoBranch bs e = let same = ap valid.depth_in (some_is local.NoBranch bs e) in omega arith
    none_deeper (Branch b more) bs e =
        let p = both_some (λ b bs. Some (local.Branch b bs)) (projected me b) (projected_each me more) bs e in
        let inner = no_deeper b p.0 p.2 in let others = none_deeper more p.1 p.3 in
        let same = ap valid.depth_in (some_is (local.Branch p.0 p.1) bs p.4) in omega arith
