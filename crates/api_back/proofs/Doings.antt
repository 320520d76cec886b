-- What a valid local protocol does has names that can be written, and no label of a look is reserved.
use Rattle.std.proofs.Common.{◌≡◌, ◌≢◌, ℕ, ◌+◌, List, [], ◌∷◌, ◌++◌, map, Bool, true, false, refl, sym, subst, ◌∙◌}
use Rattle.std.specs.List.{AllByRecursion}
use Rattle.std.specs.Str.{bytes_eq}
use Rattle.std.proofs.lemmas.Slice.Eq.{bytes_eq-Decides}
use Rattle.mg_text.specs.Call.{Name}
use Rattle.mg_read.specs.Culprit.{culprit}
use Rattle.mg_read.specs.First.{Clean}
use Rattle.scr_tree.specs.declared.syntax.Direction.{Direction}
use Rattle.scr_tree.specs.declared.syntax.Direction.TheVariants as directions
use Rattle.scr_tree.specs.declared.syntax.Payload.{Payload}
use Rattle.scr_tree.specs.Words.{IsName as IsRoleName}
use Rattle.scr_tree.specs.Tree.{Titled, body_in, Statements, Nothing, Says, Choice, Rec, Continue, Do, Branches, NoBranch, Branch}
use Rattle.scr_tree.specs.Protocol.{peer_of, label_of}
use Rattle.scr_tree.specs.Meaning.{choices, numbered, numbered_parts, towards}
use Rattle.scr_tree.specs.Actions.{opened, next, next_in}
use Rattle.scr_tree.specs.Spots.{Way, Past, Opens, Enters, spots, branch_spots, all_spots}
use Rattle.scr_tree.specs.Conditions.{ReservedLabel}
use Rattle.scr_tree.specs.Valid.{AreWritten, AreWrittenIn}
use Rattle.stm_api.specs.Doings.{Doing, Passes, Asks, doings, all_doings}
use Rattle.stm_api.specs.inner.Does.{labels_in, peer_in, look_at, look_unless, does, does_in}
use Rattle.stm_api.proofs.Laws.{does_same}
use Rattle.jv_back.proofs.Told.{IsNamed}
use Rattle.jv_back.proofs.Files.{AreWrittenConstants}
use Rattle.api_back.proofs.Names.{label_named}

-- the names of a doing can be written
abbrev pub IsTold : Doing → Type 0
IsTold (Passes message) = IsRoleName (peer_of message) × IsRoleName (label_of message)
IsTold (Asks number peer labels) = IsRoleName peer × AreWrittenConstants labels

pub all_both : {X : Type 0} (P : X → Type 0) (xs ys : List X) → AllByRecursion P xs → AllByRecursion P ys → AllByRecursion P (xs ++ ys)
all_both P [] ys h g = g
all_both P (x ∷ xs) ys h g = (h.0, all_both P xs ys h.1 g)

clean_both : {X C : Type 0} (At : X → C → Type 0) (xs ys : List X) → Clean At (xs ++ ys) → Clean At xs × Clean At ys
clean_both At [] ys h = (tt, h)
clean_both At (x ∷ xs) ys h = let g = clean_both At xs ys h.1 in ((h.0, g.0), g.1)

passes_told : (d : Direction) (peer label : Name) (kind : Payload) → IsRoleName peer → IsRoleName label
    → IsTold (Passes (towards d peer label kind))
passes_told directions.To peer label kind p l = (p, l)
passes_told directions.From peer label kind p l = (p, l)

module _ (me : Name) where
  -- what stands behind a branch is clean
  behind_clean : (way : Way) (at : Name) (earlier : List Statements) (b : Statements) (more : Branches)
      → Clean (ReservedLabel me) (branch_spots way at earlier (Branch b more)) →
      Clean (ReservedLabel me) (branch_spots way at (b ∷ earlier) more)
  behind_clean way at earlier b more h =
      (clean_both (ReservedLabel me) (spots (Enters at earlier ∷ way) b) (branch_spots way at (b ∷ earlier) more) h).1

  -- labels of a choice elsewhere
  labels_told : (way : Way) (at : Name) (earlier : List Statements) (bs : Branches) → at ≢ me → AreWrittenIn bs
      → Clean (ReservedLabel me) (branch_spots way at earlier bs) → AllByRecursion IsNamed (labels_in bs)
  labels_told way at earlier NoBranch other w h = tt
  labels_told way at earlier (Branch (Says m rest) more) other w h = (
    label_named m.label w.0.0 (λ c. h.0 (culprit m.place m.label) (refl, other, c)),
    labels_told way at (Says m rest ∷ earlier) more other w.1 (behind_clean way at earlier (Says m rest) more h),
  )
  labels_told way at earlier (Branch Nothing more) other w h =
      labels_told way at (Nothing ∷ earlier) more other w.1 (behind_clean way at earlier Nothing more h)
  labels_told way at earlier (Branch (Choice p x bs rest) more) other w h =
      labels_told way at (Choice p x bs rest ∷ earlier) more other w.1 (behind_clean way at earlier (Choice p x bs rest) more h)
  labels_told way at earlier (Branch (Rec p name body rest) more) other w h =
      labels_told way at (Rec p name body rest ∷ earlier) more other w.1 (behind_clean way at earlier (Rec p name body rest) more h)
  labels_told way at earlier (Branch (Continue p name rest) more) other w h =
      labels_told way at (Continue p name rest ∷ earlier) more other w.1 (behind_clean way at earlier (Continue p name rest) more h)
  labels_told way at earlier (Branch (Do p name rest) more) other w h =
      labels_told way at (Do p name rest ∷ earlier) more other w.1 (behind_clean way at earlier (Do p name rest) more h)

  -- the look at a choice elsewhere
  look_told : (way : Way) (at : Name) (n : ℕ) (bs : Branches) → at ≢ me → AreWrittenIn bs
      → Clean (ReservedLabel me) (branch_spots way at [] bs) → AllByRecursion IsTold (look_at n (peer_in bs) (labels_in bs))
  look_told way at n NoBranch other w h = tt
  look_told way at n (Branch Nothing more) other w h = tt
  look_told way at n (Branch (Says m rest) more) other w h =
      ((w.0.1, labels_told way at [] (Branch (Says m rest) more) other w h), tt)
  look_told way at n (Branch (Choice p x bs rest) more) other w h = tt
  look_told way at n (Branch (Rec p name body rest) more) other w h = tt
  look_told way at n (Branch (Continue p name rest) more) other w h = tt
  look_told way at n (Branch (Do p name rest) more) other w h = tt

  choice_told : (way : Way) (at : Name) (n : ℕ) (bs : Branches) (self : Bool) → bytes_eq at me ≡ self → AreWrittenIn bs
      → Clean (ReservedLabel me) (branch_spots way at [] bs) → AllByRecursion IsTold (look_unless self n bs)
  choice_told way at n bs true e w h = tt
  choice_told way at n bs false e w h =
      look_told way at n bs (λ same. let f : false ≡ true = sym e ∙ (bytes_eq-Decides at me).1 same in cc) w h

  mutual
    pub does_told : (way : Way) (t : Statements) (n : ℕ) → AreWritten t → Clean (ReservedLabel me) (spots way t)
        → AllByRecursion IsTold (does me n t)
    does_told way Nothing n w h = tt
    does_told way (Says m rest) n w h =
        (passes_told m.direction m.peer m.label m.payload w.1 w.0, does_told (Past (Says m Nothing) ∷ way) rest n w.2 h.1)
    does_told way (Choice p at bs rest) n w h =
        let later : Way = Past (Choice p at bs Nothing) ∷ way in
        let g = clean_both (ReservedLabel me) (branch_spots way at [] bs) (spots later rest) h.1 in
        let k : ℕ = opened (bytes_eq at me) n in
        all_both IsTold (look_unless (bytes_eq at me) n bs) (does_in me k bs ++ does me (next_in me k bs) rest)
        (choice_told way at n bs (bytes_eq at me) refl w.2 g.0)
        (all_both IsTold (does_in me k bs) (does me (next_in me k bs) rest) (does_in_told way at [] bs k w.2 g.0)
        (does_told later rest (next_in me k bs) w.3 g.1))
    does_told way (Rec p name body rest) n w h =
        let later : Way = Past (Rec p name body Nothing) ∷ way in
        let g = clean_both (ReservedLabel me) (spots (Opens name ∷ way) body) (spots later rest) h.1 in
        all_both IsTold (does me n body) (does me (next me n body) rest) (does_told (Opens name ∷ way) body n w.1 g.0)
        (does_told later rest (next me n body) w.2 g.1)
    does_told way (Continue p name rest) n w h = does_told (Past (Continue p name Nothing) ∷ way) rest n w.1 h.1
    does_told way (Do p name rest) n w h = does_told (Past (Do p name Nothing) ∷ way) rest n w.1 h.1

    does_in_told : (way : Way) (at : Name) (earlier : List Statements) (bs : Branches) (n : ℕ) → AreWrittenIn bs
        → Clean (ReservedLabel me) (branch_spots way at earlier bs) → AllByRecursion IsTold (does_in me n bs)
    does_in_told way at earlier NoBranch n w h = tt
    does_in_told way at earlier (Branch b more) n w h =
        let g = clean_both (ReservedLabel me) (spots (Enters at earlier ∷ way) b) (branch_spots way at (b ∷ earlier) more) h in
        all_both IsTold (does me n b) (does_in me (next me n b) more) (does_told (Enters at earlier ∷ way) b n w.0 g.0)
        (does_in_told way at (b ∷ earlier) more (next me n b) w.1 g.1)

  -- the same of protocols, one after another
  pub all_told : (ts : List Titled) (n : ℕ) → AllByRecursion (λ (t : Titled). AreWritten t.body) ts →
      Clean (ReservedLabel me) (all_spots (map body_in ts))
      → AllByRecursion IsTold (all_doings (numbered_parts me n ts))
  all_told [] n w h = tt
  all_told (t ∷ ts) n w h =
      let g = clean_both (ReservedLabel me) (spots [] t.body) (all_spots (map body_in ts)) h in
      all_both IsTold (doings (numbered me n t.body)) (all_doings (numbered_parts me (n + choices me t.body) ts))
      (subst (AllByRecursion IsTold) (does_same me t.body n) (does_told [] t.body n w.0 g.0)) (all_told ts (n + choices me t.body) w.1 g.1)
