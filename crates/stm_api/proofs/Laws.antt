-- What the text does is what its protocol does; the doings whose calls weren't seen are the first ones.
use Rattle.std.proofs.Common.{◌≡◌, ℕ, suc, ◌+◌, Bool, true, false, if◌then◌else◌, List, [], ◌∷◌, ◌++◌, map, position, refl, sym, ap, ◌∙◌}
use Rattle.std.proofs.Common.{arith, add-one}
use Rattle.std.specs.Prelude.{Contains, is_some}
use Rattle.std.specs.List.{list_any}
use Rattle.std.specs.Str.{bytes_eq}
use Rattle.std.proofs.lemmas.Bool.Decides.{nat_tests}
use Rattle.std.proofs.lemmas.Cmp.{nat_list_eq_equiv}
use Rattle.std.proofs.lemmas.Slice.Eq.{bytes_eq-Decides}
use Rattle.std.proofs.lemmas.Map.Views.{list_any-from_Contains, Contains-from_any}
use Rattle.mg_text.specs.Call.{Name}
use Rattle.mg_text.proofs.Numbered.{list_any-position}
use Rattle.scr_tree.specs.declared.syntax.Direction.{Direction}
use Rattle.scr_tree.specs.declared.syntax.Direction.TheVariants as directions
use Rattle.scr_tree.specs.declared.syntax.Payload.{Payload}
use Rattle.scr_tree.specs.Tree.{LocalTree, PartTree, Statements, Nothing, Says, Choice, Rec, Continue, Do, NoBranch, Branch, other}
use Rattle.scr_tree.specs.Tree as tree
use Rattle.scr_tree.specs.Protocol.{Protocol, ChoiceHere, ChoiceThere, peer_of, label_of, Branch as Way}
use Rattle.scr_tree.specs.Protocol as protocol
use Rattle.scr_tree.specs.Meaning.{choices, choices_in, numbered, numbered_in, numbered_parts, message_of, towards, protocol_of}
use Rattle.scr_tree.specs.Actions.{opened, next, next_in}
use Rattle.stm_gen.proofs.Acting.{next_is, next_in_is}
use Rattle.stm_api.specs.Doings.{Doing, Passes, Asks, labels_in, look, doings, doings_in, all_doings, call_of, Firsts, none, again, first}
use Rattle.stm_api.specs.inner.Does as here

-- ---- looks

peer_is : (d : Direction) (peer label : Name) (kind : Payload) → peer_of (towards d peer label kind) ≡ peer
peer_is directions.To peer label kind = refl
peer_is directions.From peer label kind = refl

label_is : (d : Direction) (peer label : Name) (kind : Payload) → label_of (towards d peer label kind) ≡ label
label_is directions.To peer label kind = refl
label_is directions.From peer label kind = refl

-- a choice in front of other branches has no label
no_label : (self : Bool) (n : ℕ) (a b : protocol.Branches) (c d : Protocol) (more : protocol.Branches) →
    labels_in (Way (if self then ChoiceHere a c else ChoiceThere n b d) more) ≡ labels_in more
no_label true n a b c d more = refl
no_label false n a b c d more = refl

no_look : (self : Bool) (k n : ℕ) (a b : protocol.Branches) (c d : Protocol) (more : protocol.Branches) →
    look k (Way (if self then ChoiceHere a c else ChoiceThere n b d) more) ≡ []
no_look true k n a b c d more = refl
no_look false k n a b c d more = refl

module _ (me : Name) where
  labels_same : (bs : tree.Branches) (n : ℕ) → here.labels_in bs ≡ labels_in (numbered_in me n bs)
  labels_same NoBranch n = refl
  labels_same (Branch Nothing more) n = labels_same more _
  labels_same (Branch (Says m rest) more) n =
      ap (λ l. l ∷ here.labels_in more) (sym (label_is m.direction m.peer m.label m.payload)) ∙ ap (λ ls. label_of (message_of m) ∷ ls)
      (labels_same more _)
  labels_same (Branch (Choice p at bs rest) more) n = labels_same more _ ∙ sym (no_label (bytes_eq at me) n _ _ _ _ _)
  labels_same (Branch (Rec p name body rest) more) n = labels_same more _
  labels_same (Branch (Continue p name rest) more) n = labels_same more _
  labels_same (Branch (Do p name rest) more) n = labels_same more _

  look_same : (bs : tree.Branches) (k n : ℕ) → here.look_at k (here.peer_in bs) (here.labels_in bs) ≡ look k (numbered_in me n bs)
  look_same NoBranch k n = refl
  look_same (Branch Nothing more) k n = refl
  look_same (Branch (Says m rest) more) k n =
      ap (λ peer. Asks k peer (here.labels_in (Branch (Says m rest) more)) ∷ []) (sym (peer_is m.direction m.peer m.label m.payload))
      ∙ ap (λ ls. Asks k (peer_of (message_of m)) ls ∷ []) (labels_same (Branch (Says m rest) more) n)
  look_same (Branch (Choice p at bs rest) more) k n = sym (no_look (bytes_eq at me) k n _ _ _ _ _)
  look_same (Branch (Rec p name body rest) more) k n = refl
  look_same (Branch (Continue p name rest) more) k n = refl
  look_same (Branch (Do p name rest) more) k n = refl

  -- ---- doings

  choice_same : (self : Bool) (n : ℕ) (bs : tree.Branches) (rest : Statements) →
      ((m : ℕ) → here.does_in me m bs ≡ doings_in (numbered_in me m bs)) → ((m : ℕ) → here.does me m rest ≡ doings (numbered me m rest)) →
      here.look_unless self n bs ++ (here.does_in me (opened self n) bs ++ here.does me (next_in me (opened self n) bs) rest)
      ≡ doings (if self then ChoiceHere (numbered_in me n bs) (numbered me (n + choices_in me bs) rest) else ChoiceThere n
      (numbered_in me (suc n) bs) (numbered me (suc n + choices_in me bs) rest))
  choice_same true n bs rest inside after =
      ap (λ k. here.does_in me n bs ++ here.does me k rest) (next_in_is me bs n)
      ∙ ap (λ x. x ++ here.does me (n + choices_in me bs) rest) (inside n) ∙ ap (λ x. doings_in (numbered_in me n bs) ++ x)
      (after (n + choices_in me bs))
  choice_same false n bs rest inside after =
      ap (λ k. here.look_unless false n bs ++ (here.does_in me k bs ++ here.does me (next_in me k bs) rest)) (add-one n)
      ∙ ap (λ k. here.look_unless false n bs ++ (here.does_in me (suc n) bs ++ here.does me k rest)) (next_in_is me bs (suc n))
      ∙ ap (λ x. here.look_unless false n bs ++ (x ++ here.does me (suc n + choices_in me bs) rest)) (inside (suc n))
      ∙ ap (λ x. here.look_unless false n bs ++ (doings_in (numbered_in me (suc n) bs) ++ x)) (after (suc n + choices_in me bs))
      ∙ ap (λ x. x ++ (doings_in (numbered_in me (suc n) bs) ++ doings (numbered me (suc n + choices_in me bs) rest)))
      (look_same bs n (suc n))

  mutual
    pub does_same : (t : Statements) (n : ℕ) → here.does me n t ≡ doings (numbered me n t)
    does_same Nothing n = refl
    does_same (Says m rest) n = ap (λ x. Passes (message_of m) ∷ x) (does_same rest n)
    does_same (Choice place at bs rest) n = choice_same (bytes_eq at me) n bs rest (λ m. does_in_same bs m) (λ m. does_same rest m)
    does_same (Rec place name body rest) n =
        ap (λ x. x ++ here.does me (next me n body) rest) (does_same body n) ∙ ap (λ k. doings (numbered me n body) ++ here.does me k rest)
        (next_is me body n)
        ∙ ap (λ x. doings (numbered me n body) ++ x) (does_same rest (n + choices me body))
    does_same (Continue place name rest) n = does_same rest n
    does_same (Do place name rest) n = does_same rest n

    does_in_same : (bs : tree.Branches) (n : ℕ) → here.does_in me n bs ≡ doings_in (numbered_in me n bs)
    does_in_same NoBranch n = refl
    does_in_same (Branch b more) n =
        ap (λ x. x ++ here.does_in me (next me n b) more) (does_same b n) ∙ ap (λ k. doings (numbered me n b) ++ here.does_in me k more)
        (next_is me b n)
        ∙ ap (λ x. doings (numbered me n b) ++ x) (does_in_same more (n + choices me b))

-- ---- first doings

found_any : (text : Name) (names : List Name) → is_some (position (bytes_eq text) names) ≡ list_any (bytes_eq text) names
found_any text names = let e = list_any-position (bytes_eq text) names in grind (arith, nat_tests)

seen_before : (text : Name) (names : List Name) → is_some (position (bytes_eq text) names) ≡ true → Contains names text
seen_before text names e = Contains-from_any (λ x y s. (bytes_eq-Decides x y).0 s) text names (sym (found_any text names) ∙ e)

not_seen : (text : Name) (names : List Name) → is_some (position (bytes_eq text) names) ≡ false → Contains names text → ⊥
not_seen text names e h = let t : true ≡ false = sym (found_any text names ∙ list_any-from_Contains nat_list_eq_equiv text names h) ∙
    e in cc

one_first : (me : Name) (seen : List Name) (doing : Doing) (more firsts others : List Doing) (b : Bool) →
    is_some (position (bytes_eq (call_of me doing)) seen) ≡ b →
    Firsts me seen more firsts → Firsts me (seen ++ call_of me doing ∷ []) more others →
    Firsts me seen (doing ∷ more) (here.first_before b doing firsts others)
one_first me seen doing more firsts others true e f g = again (seen_before (call_of me doing) seen e) f
one_first me seen doing more firsts others false e f g = first (not_seen (call_of me doing) seen e) g

pub are_firsts : (me : Name) (ds : List Doing) (seen : List Name) → Firsts me seen ds (here.firsts_of me seen ds)
are_firsts me [] seen = none
are_firsts me (doing ∷ more) seen =
    one_first me seen doing more (here.firsts_of me seen more) (here.firsts_of me (seen ++ call_of me doing ∷ []) more) _ refl
    (are_firsts me more seen) (are_firsts me more (seen ++ call_of me doing ∷ []))

-- ---- the whole

-- protocols behind the first
all_same : (me : Name) (ps : List PartTree) (n : ℕ) → here.all_does me n (map here.part_body ps)
    ≡ all_doings (numbered_parts me n (map other ps))
all_same me [] n = refl
all_same me (p ∷ ps) n =
    ap (λ x. x ++ here.all_does me (next me n p.body) (map here.part_body ps)) (does_same me p.body n)
    ∙ ap (λ k. doings (numbered me n p.body) ++ here.all_does me k (map here.part_body ps)) (next_is me p.body n)
    ∙ ap (λ x. doings (numbered me n p.body) ++ x) (all_same me ps (n + choices me p.body))

whole_same : (t : LocalTree) → here.does t.me 1 t.body ++ here.all_does t.me (next t.me 1 t.body) (map here.part_body t.others)
    ≡ all_doings (protocol_of t)
whole_same t =
    ap (λ x. x ++ here.all_does t.me (next t.me 1 t.body) (map here.part_body t.others)) (does_same t.me t.body 1)
    ∙ ap (λ k. doings (numbered t.me 1 t.body) ++ here.all_does t.me k (map here.part_body t.others)) (next_is t.me t.body 1)
    ∙ ap (λ x. doings (numbered t.me 1 t.body) ++ x) (all_same t.me t.others (1 + choices t.me t.body))

module _ (t : LocalTree) (out front before : List Doing) (me : Name) (n : ℕ) (ss : Statements) (ps : List PartTree) where
  pub all_done : before ≡ [] → me ≡ t.me → ss ≡ t.body → ps ≡ t.others → front ≡ before ++ here.does me 1 ss → n ≡ next me 1 ss →
      out ≡ front ++ here.all_does me n (map here.part_body ps) → out ≡ all_doings (protocol_of t)
  all_done eb em es eo ef en e =
      e
      ∙ ap (λ k. front ++ here.all_does me k (map here.part_body ps)) en
      ∙ ap (λ x. x ++ here.all_does me (next me 1 ss) (map here.part_body ps)) (ef ∙ ap (λ x. x ++ here.does me 1 ss) eb)
      ∙ ap (λ m. here.does m 1 ss ++ here.all_does m (next m 1 ss) (map here.part_body ps)) em
      ∙ ap (λ s. here.does t.me 1 s ++ here.all_does t.me (next t.me 1 s) (map here.part_body ps)) es
      ∙ ap (λ os. here.does t.me 1 t.body ++ here.all_does t.me (next t.me 1 t.body) (map here.part_body os)) eo
      ∙ whole_same t
