-- The steps of a state are told apart by their calls, and all looks at a choice are at one peer.
use Rattle.std.proofs.Common.{◌≡◌, ◌≢◌, ℕ, suc, ◌+◌, List, [], ◌∷◌, ◌++◌, map, Some, refl, sym, ap, ◌∙◌, subst, inl, inr, ◌⊎◌, ⊎_elim, Bool}
use Rattle.std.proofs.Common.{true, false, if◌then◌else◌}
use Rattle.std.specs.Prelude.{Contains}
use Rattle.std.specs.Str.{bytes_eq}
use Rattle.std.proofs.Math.Logic.{∥∥₁_elim}
use Rattle.std.proofs.lemmas.Slice.Eq.{bytes_eq-Decides}
use Rattle.mg_text.specs.Call.{Name, Call}
use Rattle.mg_read.specs.Culprit.{culprit}
use Rattle.mg_read.specs.First.{Clean}
use Rattle.scr_tree.specs.declared.syntax.Message.{Message as Said}
use Rattle.scr_tree.specs.Tree.{LocalTree, Titled, titled, body_in, bodies_in, Statements, Nothing, Says, Choice, Rec, Continue, Do}
use Rattle.scr_tree.specs.Tree.{NoBranch, Branch}
use Rattle.scr_tree.specs.Tree as tree
use Rattle.scr_tree.specs.Spots.{Spot, spot, Past, Opens, Enters, Way, spots, branch_spots, all_spots}
use Rattle.scr_tree.specs.Conditions.{MixedChoice, SameLabel, key, first_key, AllFrom, AllSend, IsUniform}
use Rattle.scr_tree.specs.CallNames.{message_call, call_of}
use Rattle.scr_tree.specs.Meaning.{choices, choices_in, numbered, numbered_in, numbered_parts, message_of, protocol_of}
use Rattle.scr_tree.specs.Protocol.{Message, peer_of, label_of, Protocol, Done, Does, ChoiceHere, ChoiceThere, Branches}
use Rattle.scr_tree.specs.Protocol as protocol
use Rattle.scr_tree.specs.Steps.{Moves, Looks, Part, Plain, BodyOf, Left, Position}
use Rattle.scr_tree.specs.Valid.{IsValid}
use Rattle.scr_trace.specs.Positions.{states_in, states_here, states_there, state_positions}
use Rattle.scr_trace.specs.Onward.{Onward, sends, looks, steps_at}
use Rattle.scr_trace.proofs.Parts
use Rattle.scr_trace.proofs.Matching.{peer_is, label_is}
use Rattle.scr_trace.proofs.Valid.{clean_once, clean_front, clean_behind, contains_first, contains_later}

-- a call is none of these
abbrev pub DiffersFrom : Call → List Call → Type 0
DiffersFrom call [] = Unit {0}
DiffersFrom call (other ∷ calls) = (call ≢ other) × DiffersFrom call calls

abbrev pub AllDiffer : List Call → Type 0
AllDiffer [] = Unit {0}
AllDiffer (call ∷ calls) = DiffersFrom call calls × AllDiffer calls

abbrev pub calls_from : Name → List Onward → List Call
calls_from me steps = map (λ s. call_of me s.act) steps

-- each look is of this choice, at this peer
abbrev pub AllLook : ℕ → Name → List Onward → Type 0
AllLook n peer [] = Unit {0}
AllLook n peer (s ∷ ss) = ((label : Name) × (s.act ≡ Looks n peer label)) × AllLook n peer ss

-- each step is a message
abbrev pub AllMove : List Onward → Type 0
AllMove [] = Unit {0}
AllMove (s ∷ ss) = ((m : Message) × (s.act ≡ Moves m)) × AllMove ss

-- the steps are of one choice
pub data OneChoice : List Onward → Type 0 where
  moving : {steps : List Onward} → AllMove steps → OneChoice steps
  looking : {steps : List Onward} (n : ℕ) (peer : Name) → AllLook n peer steps → OneChoice steps

pub record Told (me : Name) (p : Position) : Type 0 where
  pub differ : AllDiffer (calls_from me (steps_at p))
  pub one : OneChoice (steps_at p)

abbrev pub AllTold : Name → List Position → Type 0
AllTold me [] = Unit {0}
AllTold me (p ∷ ps) = Told me p × AllTold me ps

told_both : (me : Name) (ps qs : List Position) → AllTold me ps → AllTold me qs → AllTold me (ps ++ qs)
told_both me [] qs a b = b
told_both me (p ∷ ps) qs a b = (a.0, told_both me ps qs a.1 b)

-- ---- the first messages of branches

-- their keys, by which the branches are told apart
abbrev keys : Name → Name → tree.Branches → List Name
keys me at NoBranch = []
keys me at (Branch (Says m rest) more) = key me at m ∷ keys me at more
keys me at (Branch b more) = keys me at more

abbrev Differs : Name → List Name → Type 0
Differs name [] = Unit {0}
Differs name (other ∷ names) = (name ≢ other) × Differs name names

abbrev Distinct : List Name → Type 0
Distinct [] = Unit {0}
Distinct (name ∷ names) = Differs name names × Distinct names

module _ (me : Name) where
  -- a key of an earlier branch is none of those behind
  differs_behind : (bs : tree.Branches) (way : Way) (at : Name) (earlier : List Statements) (k : Name) →
      Contains (map (first_key me at) earlier) (Some k) → Clean (SameLabel me) (branch_spots way at earlier bs) → Differs k (keys me at bs)
  differs_behind NoBranch way at earlier k c h = tt
  differs_behind (Branch Nothing more) way at earlier k c h = differs_behind more way at (Nothing ∷ earlier) k (contains_later _ _ _ c) h
  differs_behind (Branch (Says m rest) more) way at earlier k c h = (
    λ e. h.0 (culprit m.place m.label) (refl, subst (λ x. Contains (map (first_key me at) earlier) (Some x)) e c),
    differs_behind more way at (Says m rest ∷ earlier) k (contains_later _ _ _ c)
        (clean_behind (SameLabel me) (spots (Enters at earlier ∷ way) (Says m rest)) _ h),
  )
  differs_behind (Branch (Choice place other bs rest) more) way at earlier k c h =
      differs_behind more way at (Choice place other bs rest ∷ earlier) k (contains_later _ _ _ c)
      (clean_behind (SameLabel me) (spots (Enters at earlier ∷ way) (Choice place other bs rest)) _ h)
  differs_behind (Branch (Rec place name body rest) more) way at earlier k c h =
      differs_behind more way at (Rec place name body rest ∷ earlier) k (contains_later _ _ _ c)
      (clean_behind (SameLabel me) (spots (Enters at earlier ∷ way) (Rec place name body rest)) _ h)
  differs_behind (Branch (Continue place name rest) more) way at earlier k c h =
      differs_behind more way at (Continue place name rest ∷ earlier) k (contains_later _ _ _ c)
      (clean_behind (SameLabel me) (spots (Enters at earlier ∷ way) (Continue place name rest)) _ h)
  differs_behind (Branch (Do place name rest) more) way at earlier k c h = differs_behind more way at (Do place name rest ∷ earlier) k
      (contains_later _ _ _ c) (clean_behind (SameLabel me) (spots (Enters at earlier ∷ way) (Do place name rest)) _ h)

  distinct : (bs : tree.Branches) (way : Way) (at : Name) (earlier : List Statements) →
      Clean (SameLabel me) (branch_spots way at earlier bs) → Distinct (keys me at bs)
  distinct NoBranch way at earlier h = tt
  distinct (Branch Nothing more) way at earlier h = distinct more way at (Nothing ∷ earlier) h
  distinct (Branch (Says m rest) more) way at earlier h =
      let behind = clean_behind (SameLabel me) (spots (Enters at earlier ∷ way) (Says m rest))
      (branch_spots way at (Says m rest ∷ earlier) more) h in (
        differs_behind more way at (Says m rest ∷ earlier) (key me at m)
            (contains_first (Some (key me at m)) (map (first_key me at) earlier)) behind,
        distinct more way at (Says m rest ∷ earlier) behind,
      )
  distinct (Branch (Choice place other bs rest) more) way at earlier h = distinct more way at (Choice place other bs rest ∷ earlier)
      (clean_behind (SameLabel me) (spots (Enters at earlier ∷ way) (Choice place other bs rest)) _ h)
  distinct (Branch (Rec place name body rest) more) way at earlier h = distinct more way at (Rec place name body rest ∷ earlier)
      (clean_behind (SameLabel me) (spots (Enters at earlier ∷ way) (Rec place name body rest)) _ h)
  distinct (Branch (Continue place name rest) more) way at earlier h = distinct more way at (Continue place name rest ∷ earlier)
      (clean_behind (SameLabel me) (spots (Enters at earlier ∷ way) (Continue place name rest)) _ h)
  distinct (Branch (Do place name rest) more) way at earlier h = distinct more way at (Do place name rest ∷ earlier)
      (clean_behind (SameLabel me) (spots (Enters at earlier ∷ way) (Do place name rest)) _ h)

  -- at self the calls are the keys
  key_here : (at : Name) (m : Said) → bytes_eq at me ≡ true → key me at m ≡ message_call (message_of m)
  key_here at m e = ap (λ b. elim b as (λ (v : Bool). Name) [ true ↦ message_call (message_of m) | false ↦ m.label ]) e

  key_there : (at : Name) (m : Said) → bytes_eq at me ≡ false → key me at m ≡ m.label
  key_there at m e = ap (λ b. elim b as (λ (v : Bool). Name) [ true ↦ message_call (message_of m) | false ↦ m.label ]) e

  -- steps of the first messages of branches, at self or elsewhere
  abbrev into : Bool → ℕ → Position → Branches → List Onward
  into true n around bs = sends around bs
  into false n around bs = looks n around bs

  abbrev call_first : Bool → ℕ → Said → Call
  call_first true n m = call_of me (Moves (message_of m))
  call_first false n m = call_of me (Looks n (peer_of (message_of m)) (label_of (message_of m)))

  -- equal calls have equal keys
  same_key : (self : Bool) (n : ℕ) (at : Name) (a b : Said) → bytes_eq at me ≡ self → call_first self n a ≡ call_first self n b →
      key me at a ≡ key me at b
  same_key true n at a b s e = key_here at a s ∙ ap (λ (c : Call). c.method) e ∙ sym (key_here at b s)
  same_key false n at a b s e =
      let f : label_of (message_of a) ≡ label_of (message_of b) = let g = ap (λ (c : Call). c.answer) e in cc in
      key_there at a s ∙ sym (label_is a) ∙ f ∙ label_is b ∙ sym (key_there at b s)

  into-Says : (self : Bool) (n m : ℕ) (around : Position) (q : Said) (rest : Statements) (more : Branches) →
      calls_from me (into self n around (protocol.Branch (numbered me m (Says q rest)) more)) ≡ call_first self n q ∷ calls_from me
      (into self n around more)
  into-Says true n m around q rest more = refl
  into-Says false n m around q rest more = refl

  into-Choice : (self b : Bool) (n k : ℕ) (around : Position) (x z : Branches) (y r : Protocol) (more : Branches) →
      into self n around (protocol.Branch (if b then ChoiceHere x y else ChoiceThere k z r) more) ≡ into self n around more
  into-Choice true true n k around x z y r more = refl
  into-Choice true false n k around x z y r more = refl
  into-Choice false true n k around x z y r more = refl
  into-Choice false false n k around x z y r more = refl

  into-other : (self : Bool) (n : ℕ) (around : Position) (name : Name) (x y : Protocol) (more : Branches) →
      (into self n around (protocol.Branch Done more) ≡ into self n around more)
      × (into self n around (protocol.Branch (protocol.Rec name x y) more) ≡ into self n around more)
      × (into self n around (protocol.Branch (protocol.Continue name x) more) ≡ into self n around more)
      × (into self n around (protocol.Branch (protocol.Do name x) more) ≡ into self n around more)
  into-other true n around name x y more = (refl, refl, refl, refl)
  into-other false n around name x y more = (refl, refl, refl, refl)

  into-NoMore : (self : Bool) (n : ℕ) (around : Position) → into self n around protocol.NoMore ≡ []
  into-NoMore true n around = refl
  into-NoMore false n around = refl

  differ_from : (bs : tree.Branches) (self : Bool) (n m : ℕ) (around : Position) (at : Name) (a : Said) → bytes_eq at me ≡ self →
      Differs (key me at a) (keys me at bs) → DiffersFrom (call_first self n a) (calls_from me (into self n around (numbered_in me m bs)))
  differ_from NoBranch self n m around at a s d = subst (λ l. DiffersFrom (call_first self n a) (calls_from me l))
      (sym (into-NoMore self n around)) tt
  differ_from (Branch Nothing more) self n m around at a s d =
      subst (λ l. DiffersFrom (call_first self n a) (calls_from me l))
      (sym (into-other self n around [] Done Done (numbered_in me (m + 0) more)).0) (differ_from more self n (m + 0) around at a s d)
  differ_from (Branch (Says q rest) more) self n m around at a s d =
      subst (DiffersFrom (call_first self n a))
      (sym (into-Says self n m around q rest (numbered_in me (m + choices me (Says q rest)) more)))
      (λ e. d.0 (same_key self n at a q s e), differ_from more self n (m + choices me (Says q rest)) around at a s d.1)
  differ_from (Branch (Choice place other bs rest) more) self n m around at a s d =
      subst (λ l. DiffersFrom (call_first self n a) (calls_from me l))
      (sym (into-Choice self (bytes_eq other me) n m around _ _ _ _
      (numbered_in me (m + choices me (Choice place other bs rest)) more)))
      (differ_from more self n (m + choices me (Choice place other bs rest)) around at a s d)
  differ_from (Branch (Rec place name body rest) more) self n m around at a s d =
      subst (λ l. DiffersFrom (call_first self n a) (calls_from me l))
      (sym (into-other self n around name _ _ (numbered_in me (m + choices me (Rec place name body rest)) more)).1)
      (differ_from more self n (m + choices me (Rec place name body rest)) around at a s d)
  differ_from (Branch (Continue place name rest) more) self n m around at a s d =
      subst (λ l. DiffersFrom (call_first self n a) (calls_from me l))
      (sym (into-other self n around name _ Done (numbered_in me (m + choices me (Continue place name rest)) more)).2)
      (differ_from more self n (m + choices me (Continue place name rest)) around at a s d)
  differ_from (Branch (Do place name rest) more) self n m around at a s d =
      subst (λ l. DiffersFrom (call_first self n a) (calls_from me l))
      (sym (into-other self n around name _ Done (numbered_in me (m + choices me (Do place name rest)) more)).3)
      (differ_from more self n (m + choices me (Do place name rest)) around at a s d)

  all_differ : (bs : tree.Branches) (self : Bool) (n m : ℕ) (around : Position) (at : Name) → bytes_eq at me ≡ self →
      Distinct (keys me at bs) → AllDiffer (calls_from me (into self n around (numbered_in me m bs)))
  all_differ NoBranch self n m around at s d = subst (λ l. AllDiffer (calls_from me l)) (sym (into-NoMore self n around)) tt
  all_differ (Branch Nothing more) self n m around at s d =
      subst (λ l. AllDiffer (calls_from me l)) (sym (into-other self n around [] Done Done (numbered_in me (m + 0) more)).0)
      (all_differ more self n (m + 0) around at s d)
  all_differ (Branch (Says q rest) more) self n m around at s d =
      subst AllDiffer (sym (into-Says self n m around q rest (numbered_in me (m + choices me (Says q rest)) more))) (
        differ_from more self n (m + choices me (Says q rest)) around at q s d.0,
        all_differ more self n (m + choices me (Says q rest))
            around at s d.1,
      )
  all_differ (Branch (Choice place other bs rest) more) self n m around at s d =
      subst (λ l. AllDiffer (calls_from me l))
      (sym (into-Choice self (bytes_eq other me) n m around _ _ _ _
      (numbered_in me (m + choices me (Choice place other bs rest)) more)))
      (all_differ more self n (m + choices me (Choice place other bs rest)) around at s d)
  all_differ (Branch (Rec place name body rest) more) self n m around at s d =
      subst (λ l. AllDiffer (calls_from me l))
      (sym (into-other self n around name _ _ (numbered_in me (m + choices me (Rec place name body rest)) more)).1)
      (all_differ more self n (m + choices me (Rec place name body rest)) around at s d)
  all_differ (Branch (Continue place name rest) more) self n m around at s d =
      subst (λ l. AllDiffer (calls_from me l))
      (sym (into-other self n around name _ Done (numbered_in me (m + choices me (Continue place name rest)) more)).2)
      (all_differ more self n (m + choices me (Continue place name rest)) around at s d)
  all_differ (Branch (Do place name rest) more) self n m around at s d =
      subst (λ l. AllDiffer (calls_from me l))
      (sym (into-other self n around name _ Done (numbered_in me (m + choices me (Do place name rest)) more)).3)
      (all_differ more self n (m + choices me (Do place name rest)) around at s d)

  -- ---- the peer of a choice elsewhere

  abbrev AllPeer : Name → tree.Branches → Type 0
  AllPeer peer NoBranch = Unit {0}
  AllPeer peer (Branch (Says q rest) more) = (q.peer ≡ peer) × AllPeer peer more
  AllPeer peer (Branch b more) = AllPeer peer more

  abbrev first_peer : tree.Branches → Name
  first_peer NoBranch = []
  first_peer (Branch (Says q rest) more) = q.peer
  first_peer (Branch b more) = first_peer more

  from_peers : (p : Name) (bs : tree.Branches) → AllFrom p bs → AllPeer p bs
  from_peers p NoBranch h = tt
  from_peers p (Branch Nothing more) h = from_peers p more h
  from_peers p (Branch (Says q rest) more) h = (h.1, from_peers p more h.2)
  from_peers p (Branch (Choice place other bs rest) more) h = from_peers p more h
  from_peers p (Branch (Rec place name body rest) more) h = from_peers p more h
  from_peers p (Branch (Continue place name rest) more) h = from_peers p more h
  from_peers p (Branch (Do place name rest) more) h = from_peers p more h

  first_peers : (p : Name) (bs : tree.Branches) → AllFrom p bs → AllPeer (first_peer bs) bs
  first_peers p NoBranch h = tt
  first_peers p (Branch Nothing more) h = first_peers p more h
  first_peers p (Branch (Says q rest) more) h = (refl, subst (λ x. AllPeer x more) (sym h.1) (from_peers p more h.2))
  first_peers p (Branch (Choice place other bs rest) more) h = first_peers p more h
  first_peers p (Branch (Rec place name body rest) more) h = first_peers p more h
  first_peers p (Branch (Continue place name rest) more) h = first_peers p more h
  first_peers p (Branch (Do place name rest) more) h = first_peers p more h

  true_or_false : (b : Bool) → (b ≡ true) ⊎ (b ≡ false)
  true_or_false true = inl refl
  true_or_false false = inr refl

  same_or : (a b : Name) → (((a ≡ b) → ⊥) → ⊥) → a ≡ b
  same_or a b h = ⊎_elim (λ e. (bytes_eq-Decides a b).0 e) (λ e. absurd (h (λ f. let g = (bytes_eq-Decides a b).1 f in cc)))
      (true_or_false (bytes_eq a b))

  surely : (p : Name) (bs : tree.Branches) → ((AllPeer p bs → ⊥) → ⊥) → AllPeer p bs
  surely p NoBranch h = tt
  surely p (Branch Nothing more) h = surely p more h
  surely p (Branch (Says q rest) more) h = (same_or q.peer p (λ n. h (λ a. n a.0)), surely p more (λ n. h (λ a. n a.1)))
  surely p (Branch (Choice place other bs rest) more) h = surely p more h
  surely p (Branch (Rec place name body rest) more) h = surely p more h
  surely p (Branch (Continue place name rest) more) h = surely p more h
  surely p (Branch (Do place name rest) more) h = surely p more h

  one_peer : (at : Name) (bs : tree.Branches) → bytes_eq at me ≡ false → ((IsUniform me at bs → ⊥) → ⊥) → AllPeer (first_peer bs) bs
  one_peer at bs e h =
      surely (first_peer bs) bs (λ n. h
      (λ u. ⊎_elim (λ (s : (at ≡ me) × AllSend bs). let f = (bytes_eq-Decides at me).1 s.0 in let z : ⊥ = cc in z)
      (λ (o : (at ≢ me) × (p : Name) × AllFrom p bs). n (first_peers o.1 bs o.2)) u))

  all_look : (bs : tree.Branches) (p : Name) (n m : ℕ) (around : Position) → AllPeer p bs →
      AllLook n p (looks n around (numbered_in me m bs))
  all_look NoBranch p n m around h = tt
  all_look (Branch Nothing more) p n m around h = all_look more p n (m + 0) around h
  all_look (Branch (Says q rest) more) p n m around h = (
    (label_of (message_of q), ap (λ x. Looks n x (label_of (message_of q))) (peer_is q ∙ h.0)),
    all_look more p n
        (m + choices me (Says q rest)) around h.1,
  )
  all_look (Branch (Choice place other bs rest) more) p n m around h =
      subst (AllLook n p) (sym (into-Choice false (bytes_eq other me) n m around _ _ _ _
      (numbered_in me (m + choices me (Choice place other bs rest)) more)))
      (all_look more p n (m + choices me (Choice place other bs rest)) around h)
  all_look (Branch (Rec place name body rest) more) p n m around h = all_look more p n (m + choices me (Rec place name body rest)) around h
  all_look (Branch (Continue place name rest) more) p n m around h = all_look more p n (m + choices me (Continue place name rest)) around h
  all_look (Branch (Do place name rest) more) p n m around h = all_look more p n (m + choices me (Do place name rest)) around h

  all_move : (bs : Branches) (around : Position) → AllMove (sends around bs)
  all_move protocol.NoMore around = tt
  all_move (protocol.Branch Done more) around = all_move more around
  all_move (protocol.Branch (Does m rest) more) around = ((m, refl), all_move more around)
  all_move (protocol.Branch (ChoiceHere bs rest) more) around = all_move more around
  all_move (protocol.Branch (ChoiceThere n bs rest) more) around = all_move more around
  all_move (protocol.Branch (protocol.Rec name body rest) more) around = all_move more around
  all_move (protocol.Branch (protocol.Continue name rest) more) around = all_move more around
  all_move (protocol.Branch (protocol.Do name rest) more) around = all_move more around

  -- ---- all states

  none_told : (ps : List Position) → ps ≡ [] → AllTold me ps
  none_told ps e = subst (AllTold me) (sym e) tt

  message_told : (m : Message) (rest : Protocol) (part : Part) (around : Position) → Told me (Left (Does m rest) part ∷ around)
  message_told m rest part around = record { differ = (tt, tt); one = moving ((m, refl), tt) }

  choice_told : (self : Bool) (at : Name) (n : ℕ) (part : Part) (around : Position) (bs : tree.Branches) (rest : Statements) →
      bytes_eq at me ≡ self →
      Distinct (keys me at bs) → ((IsUniform me at bs → ⊥) → ⊥) →
      ((m : ℕ) (out : Position) → AllTold me (Parts.within self out (numbered_in me m bs))) →
      ((m : ℕ) → AllTold me (states_in part around (numbered me m rest))) →
      AllTold me (states_in part around (if self then ChoiceHere (numbered_in me n bs) (numbered me (n + choices_in me bs) rest) else
      ChoiceThere n (numbered_in me (suc n) bs) (numbered me (suc n + choices_in me bs) rest)))
  choice_told true at n part around bs rest e d u inside behind =
      let r : Protocol = numbered me (n + choices_in me bs) rest in (
        record {
          differ = all_differ bs true n n (Left r part ∷ around) at e d;
          one =
              moving (all_move (numbered_in me n bs) (Left r part ∷ around));
        },
        told_both me (states_here (Left r part ∷ around) (numbered_in me n bs)) _ (inside n (Left r part ∷ around))
            (behind (n + choices_in me bs)),
      )
  choice_told false at n part around bs rest e d u inside behind =
      let r : Protocol = numbered me (suc n + choices_in me bs) rest in (
        record {
          differ = all_differ bs false n (suc n) (Left r part ∷ around) at e d;
          one =
              looking n (first_peer bs) (all_look bs (first_peer bs) n (suc n) (Left r part ∷ around) (one_peer at bs e u));
        },
        told_both me (states_there (Left r part ∷ around) (numbered_in me (suc n) bs)) _ (inside (suc n) (Left r part ∷ around))
            (behind (suc n + choices_in me bs)),
      )

  -- the two conditions on the spots of statements
  record AreApart (xs : List Spot) : Type 0 where
    labels : Clean (SameLabel me) xs
    uniform : Clean (MixedChoice me) xs

  apart_rest : (s : Spot) (xs : List Spot) → AreApart (s ∷ xs) → AreApart xs
  apart_rest s xs h = record { labels = h.labels.1; uniform = h.uniform.1 }

  apart_front : (xs ys : List Spot) → AreApart (xs ++ ys) → AreApart xs
  apart_front xs ys h = record {
    labels = clean_front (SameLabel me) xs ys h.labels;
    uniform =
        clean_front (MixedChoice me) xs ys h.uniform;
  }

  apart_behind : (xs ys : List Spot) → AreApart (xs ++ ys) → AreApart ys
  apart_behind xs ys h = record {
    labels = clean_behind (SameLabel me) xs ys h.labels;
    uniform =
        clean_behind (MixedChoice me) xs ys h.uniform;
  }

  mutual
    told : (t : Statements) (way : Way) → AreApart (spots way t) → (n : ℕ) (part : Part) (around : Position) →
        AllTold me (states_in part around (numbered me n t))
    told Nothing way h n part around = tt
    told (Says m rest) way h n part around = (
      message_told (message_of m) (numbered me n rest) part around,
      told rest (Past (Says m Nothing) ∷ way) (apart_rest _ _ h) n part
          around,
    )
    told (Choice place at bs rest) way h n part around =
        let both = apart_rest (spot way (Choice place at bs rest))
        (branch_spots way at [] bs ++ spots (Past (Choice place at bs Nothing) ∷ way) rest) h in
        let inside = apart_front (branch_spots way at [] bs) (spots (Past (Choice place at bs Nothing) ∷ way) rest) both in
        choice_told (bytes_eq at me) at n part around bs rest refl (distinct bs way at [] inside.labels)
        (λ u. h.uniform.0 (culprit place []) (refl, u))
        (λ m out. told_in bs way at [] inside (bytes_eq at me) m out)
        (λ m. told rest (Past (Choice place at bs Nothing) ∷ way) (apart_behind (branch_spots way at [] bs) _ both) m part around)
    told (Rec place name body rest) way h n part around =
        let both = apart_rest (spot way (Rec place name body rest))
        (spots (Opens name ∷ way) body ++ spots (Past (Rec place name body Nothing) ∷ way) rest) h in
        let p : Protocol = numbered me n body in
        let r : Protocol = numbered me (n + choices me body) rest in
        told_both me (states_in (BodyOf name p) (Left r part ∷ around) p) (states_in part around r)
        (told body (Opens name ∷ way) (apart_front (spots (Opens name ∷ way) body) _ both) n (BodyOf name p) (Left r part ∷ around))
        (told rest (Past (Rec place name body Nothing) ∷ way) (apart_behind (spots (Opens name ∷ way) body) _ both)
        (n + choices me body) part around)
    told (Continue place name rest) way h n part around = told rest (Past (Continue place name Nothing) ∷ way) (apart_rest _ _ h) n part
        around
    told (Do place name rest) way h n part around = told rest (Past (Do place name Nothing) ∷ way) (apart_rest _ _ h) n part around

    told_in : (bs : tree.Branches) (way : Way) (at : Name) (earlier : List Statements) → AreApart (branch_spots way at earlier bs) →
        (self : Bool) (m : ℕ) (around : Position) → AllTold me (Parts.within self around (numbered_in me m bs))
    told_in NoBranch way at earlier h self m around = none_told _ (Parts.within-NoMore self around)
    told_in (Branch b more) way at earlier h self m around =
        subst (AllTold me) (sym (Parts.within-Branch self around (numbered me m b) (numbered_in me (m + choices me b) more)))
        (told_both me (Parts.first_in self around (numbered me m b)) _
        (told_first b (Enters at earlier ∷ way) (apart_front (spots (Enters at earlier ∷ way) b) _ h) self m around)
        (told_in more way at (b ∷ earlier) (apart_behind (spots (Enters at earlier ∷ way) b) _ h) self (m + choices me b) around))

    told_first : (b : Statements) (way : Way) → AreApart (spots way b) → (self : Bool) (m : ℕ) (around : Position) →
        AllTold me (Parts.first_in self around (numbered me m b))
    told_first Nothing way h self m around = none_told _ (Parts.first-done self around)
    told_first (Says q rest) way h true m around = told rest (Past (Says q Nothing) ∷ way) (apart_rest _ _ h) m Plain around
    told_first (Says q rest) way h false m around = (
      message_told (message_of q) (numbered me m rest) Plain around,
      told rest (Past (Says q Nothing) ∷ way) (apart_rest _ _ h) m Plain
          around,
    )
    told_first (Choice place at bs rest) way h self m around = none_told _ (Parts.first-choice self (bytes_eq at me) around _ _ _ _ m)
    told_first (Rec place name body rest) way h self m around = none_told _ (Parts.first-rec self around name _ _)
    told_first (Continue place name rest) way h self m around = none_told _ (Parts.first-continue self around name _)
    told_first (Do place name rest) way h self m around = none_told _ (Parts.first-do self around name _)

-- the states of protocols, one after another
all_told : (me : Name) (ts : List Titled) (n : ℕ) → Clean (SameLabel me) (all_spots (map body_in ts)) →
    Clean (MixedChoice me) (all_spots (map body_in ts)) → AllTold me (state_positions (numbered_parts me n ts))
all_told me [] n h u = tt
all_told me (t ∷ more) n h u =
    told_both me (states_in Plain [] (numbered me n t.body)) (state_positions (numbered_parts me (n + choices me t.body) more))
    (told me t.body [] (record {
      labels = clean_front (SameLabel me) (spots [] t.body) (all_spots (map body_in more)) h;
      uniform = clean_front (MixedChoice me) (spots [] t.body) (all_spots (map body_in more)) u;
    }) n Plain [])
    (all_told me more (n + choices me t.body) (clean_behind (SameLabel me) (spots [] t.body) (all_spots (map body_in more)) h)
    (clean_behind (MixedChoice me) (spots [] t.body) (all_spots (map body_in more)) u))

-- the states of a valid local protocol
pub valid_told : (local : LocalTree) → ∥ IsValid local ∥₁ → AllTold local.me (state_positions (protocol_of local))
valid_told local v =
    let all = all_spots (bodies_in local) in
    all_told local.me (titled local) 1
    (∥∥₁_elim v (clean_once (SameLabel local.me) all) (λ i. i.labels_differ))
    (∥∥₁_elim v (clean_once (MixedChoice local.me) all) (λ i. i.uniform))
