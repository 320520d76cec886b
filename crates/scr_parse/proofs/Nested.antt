-- Statements are read where the grammar spells them, and nowhere else.
use Rattle.std.proofs.Common.{◌≡◌, ℕ, zero, suc, ◌≤◌, List, [], ◌∷◌, ◌++◌, map, Some, refl, sym, ap, ◌∙◌, subst}
use Rattle.std.proofs.Common.{append_assoc, arith, inl, inr}
use Rattle.mg_text.specs.Call.{Name}
use Rattle.mg_text.specs.declared.place.Place.{Place}
use Rattle.mg_read.specs.Reader.{Reader, ◌>>=◌}
use Rattle.mg_read.proofs.Steps.{bind_some, some_is, none_is_not, chosen, Takes}
use Rattle.mg_read.proofs.Lists.{Each, IsExact, Starts}
use Rattle.scr_tree.specs.Tok.{Tok, named, marked}
use Rattle.scr_tree.specs.declared.token.Mark.TheVariants as marks
use Rattle.scr_tree.specs.declared.syntax.Direction.{Direction}
use Rattle.scr_tree.specs.declared.syntax.Direction.TheVariants as directions
use Rattle.scr_tree.specs.declared.syntax.Message.{Message}
use Rattle.scr_tree.specs.declared.written.Declaration.{Declaration}
use Rattle.scr_tree.specs.Tree.{Statements, Nothing, Says, Choice, Rec, Continue, Do, Branches, NoBranch, Branch}
use Rattle.scr_tree.specs.View.{branches_of}
use Rattle.scr_tree.specs.Valid.{depth, depth_in}
use Rattle.scr_parse.specs.Grammar.{Listed, IsNaming, direction_mark, AreTypes, IsMessage, Note, carries, gives, carried, given, IsBraced}
use Rattle.scr_parse.specs.Grammar.{AreStatements, AreBranches, AreOthers}
use Rattle.scr_parse.specs.inner.View.{joined}
use Rattle.scr_parse.specs.inner.Reading.{is_at, mark_at, name_at, names_at, direction_at, payload_at, message_at, continue_with, do_at}
use Rattle.scr_parse.specs.inner.Reading.{not_closed, block_with, choice_with, rec_with, says_at, statement_with, nested_at}
use Rattle.scr_parse.specs.inner.Reading.{a_choice, a_rec, a_continue, plain_at, statement_at, Shortens}
use Rattle.scr_parse.proofs.Steps.{Anything, after, mark_is, name_is}
use Rattle.scr_parse.proofs.Blocks.{NotOr, Begins, starts_of, takes_as, BlockOf, OtherOf, BranchesOf, IsChoice, IsRec, IsContinue}
use Rattle.scr_parse.proofs.Blocks.{block_complete, block_exact, branches_complete, choice_sound, rec_sound, continue_sound}
use Rattle.scr_parse.proofs.Blocks.{nested_shorten}
use Rattle.scr_parse.proofs.Names.{names_sound, names_complete}

-- ---- messages

direction_is : (ts : List Tok) (x : Direction × List Tok) → direction_at ts ≡ Some x
    → (p : Place) × (ts ≡ marked p (direction_mark x.0) ∷ x.1)
unfolding direction_at
direction_is ts x e =
    elim (chosen (is_at marks.To ts) (mark_at marks.To ts >>= λ m. Some (directions.To, m.1))
    (mark_at marks.From ts >>= λ m. Some (directions.From, m.1)) (Some x) e) [
      | inl t ↦
          let m = bind_some (mark_at marks.To ts) (λ m. Some (directions.To, m.1)) x t.1 in (
            m.0.0,
            mark_is marks.To ts m.0 m.1 ∙ ap (λ (y : Direction × List Tok). marked m.0.0 (direction_mark y.0) ∷ y.1)
                (some_is (directions.To, m.0.1) x m.2),
          )
      | inr f ↦
          let m = bind_some (mark_at marks.From ts) (λ m. Some (directions.From, m.1)) x f.1 in (
            m.0.0,
            mark_is marks.From ts m.0 m.1 ∙ ap (λ (y : Direction × List Tok). marked m.0.0 (direction_mark y.0) ∷ y.1)
                (some_is (directions.From, m.0.1) x m.2),
          )
    ]

pub payload_sound : (ts : List Tok) (x : List Name × List Tok) → payload_at ts ≡ Some x → Takes (AreTypes x.0) ts x.1
unfolding payload_at
payload_sound ts x e =
    elim (chosen (is_at marks.CloseParen ts) (Some ([], ts)) (names_at marks.Comma ts) (Some x) e) [
      | inl t ↦ subst (λ (y : List Name × List Tok). Takes (AreTypes y.0) ts y.1) (some_is ([], ts) x t.1)
          (record { front = []; parts = refl; holds = refl })
      | inr f ↦ let one = names_sound marks.Comma ts x f.1 in named_types x.0 one.front ts x.1 one.parts one.holds
    ]
  where
    named_types : (names : List Name) (us ts rest : List Tok) → ts ≡ us ++ rest → Listed marks.Comma IsNaming names us
        → Takes (AreTypes names) ts rest
    named_types [] us ts rest parts h = absurd h
    named_types (n ∷ ns) us ts rest parts h = record { front = us; parts = parts; holds = h }

pub payload_complete : (names : List Name) (ts rest : List Tok) (b : Place) → AreTypes names ts
    → payload_at (ts ++ marked b marks.CloseParen ∷ rest) ≡ Some (names, marked b marks.CloseParen ∷ rest)
unfolding payload_at
payload_complete [] ts rest b h = rw h refl
payload_complete (n ∷ ns) ts rest b (us, vs, e, (a, f), h) =
    let whole = names_complete marks.Comma (n ∷ ns) ts (marked b marks.CloseParen ∷ rest) refl (us, vs, e, (a, f), h) in
    let at_front = rw (e, f) at whole in
    rw (e, f) at_front

message_parts : (t1 t2 s1 s2 s3 s4 s5 us rest : List Tok) (t : Tok) (a b c d e : Tok) → s1 ≡ t ∷ s2 → s2 ≡ a ∷ s3 → s3 ≡ us ++ s4
    → s4 ≡ b ∷ s5
    → s5 ≡ c ∷ t1 → t1 ≡ d ∷ t2 → t2 ≡ e ∷ rest → s1 ≡ (t ∷ a ∷ (us ++ b ∷ c ∷ d ∷ e ∷ [])) ++ rest
message_parts t1 t2 s1 s2 s3 s4 s5 us rest t a b c d e h1 h2 h3 h4 h5 h6 h7 =
    rw (h1, h2, h3, h4, h5, h6, h7, append_assoc us (b ∷ c ∷ d ∷ e ∷ []) rest) refl

module _ (declared : List Declaration) where
  abbrev MessageOf : Message → List Tok → Type 0
  MessageOf m ts = (types : List Name) × IsMessage declared m types ts

  message_sound : (ts : List Tok) (x : Message × List Tok) → message_at declared ts ≡ Some x → Takes (MessageOf x.0) ts x.1
  unfolding message_at
  message_sound ts x e =
      let l = bind_some (name_at ts) _ x e in
      let a = bind_some (mark_at marks.OpenParen l.0.1) _ x l.2 in
      let p = bind_some (payload_at a.0.1) _ x a.2 in
      let b = bind_some (mark_at marks.CloseParen p.0.1) _ x p.2 in
      let w = bind_some (direction_at b.0.1) _ x b.2 in
      let q = bind_some (name_at w.0.1) _ x w.2 in
      let d = bind_some (mark_at marks.Semicolon q.0.1) _ x q.2 in
      let c = direction_is b.0.1 w.0 w.1 in
      let types = payload_sound a.0.1 p.0 p.1 in
      subst (λ (y : Message × List Tok). Takes (MessageOf y.0) ts y.1) (some_is _ x d.2)
      (record {
        front = named l.0.0.0 l.0.0.1 ∷ marked a.0.0 marks.OpenParen ∷ (types.front ++ marked b.0.0 marks.CloseParen
            ∷ marked c.0 (direction_mark w.0.0) ∷ named q.0.0.0 q.0.0.1 ∷ marked d.0.0 marks.Semicolon ∷ []);
        parts = message_parts w.0.1 q.0.1 ts l.0.1 a.0.1 p.0.1 b.0.1 types.front d.0.1 _ _ _ _ _ _
            (name_is ts l.0 l.1) (mark_is marks.OpenParen l.0.1 a.0 a.1) types.parts (mark_is marks.CloseParen p.0.1 b.0 b.1) c.1
            (name_is w.0.1 q.0 q.1)
            (mark_is marks.Semicolon q.0.1 d.0 d.1);
        holds = (p.0.0, (a.0.0, b.0.0, c.0, q.0.0.0, d.0.0, types.front, refl, types.holds, refl));
      })

  direction_complete : (d : Direction) (p : Place) (rest : List Tok) → direction_at (marked p (direction_mark d) ∷ rest) ≡ Some (d, rest)
  unfolding direction_at
  direction_complete directions.To p rest = refl
  direction_complete directions.From p rest = refl

  message_complete : (m : Message) (ts rest : List Tok) → MessageOf m ts → message_at declared (ts ++ rest) ≡ Some (m, rest)
  unfolding message_at
  message_complete m ts rest (types, (a, b, c, d, e, us, parts, h, kind)) =
      let end : List Tok = marked c (direction_mark m.direction) ∷ named d m.peer ∷ marked e marks.Semicolon ∷ [] in
      let inner = payload_complete types us (end ++ rest) b h in
      let way = direction_complete m.direction c (named d m.peer ∷ marked e marks.Semicolon ∷ rest) in
      rw (parts, append_assoc us (marked b marks.CloseParen ∷ end) rest, inner, way, ← kind) refl

  -- ---- statements with others inside

  -- a statement alone, in which statements stand at most so deep
  abbrev pub Deep : ℕ → Statements → List Tok → Type 0
  Deep d Nothing us = ⊥
  Deep d (Says m rest) us = (rest ≡ Nothing) × MessageOf m us × (1 ≤ d)
  Deep d (Choice place at branches rest) us =
      (rest ≡ Nothing) × (a b : Place) × (cs : List Note) × (vs : List Tok)
      × (us ≡ marked place marks.Choice ∷ marked a marks.At ∷ named b at ∷ vs) × AreBranches declared branches cs vs ×
      (suc (depth_in branches) ≤ d)
  Deep d (Rec place name body rest) us =
      (rest ≡ Nothing) × (a : Place) × (cs : List Note) × (vs : List Tok)
      × (us ≡ marked place marks.Rec ∷ named a name ∷ vs) × IsBraced (AreStatements declared body cs) vs × (suc (depth body) ≤ d)
  Deep d (Continue place name rest) us =
      (rest ≡ Nothing) × (a b : Place) × (us ≡ marked place marks.Continue ∷ named a name ∷ marked b marks.Semicolon ∷ []) × (1 ≤ d)
  Deep d (Do place name rest) us =
      (rest ≡ Nothing) × (a b c e : Place) × (roles : List Name) × (vs : List Tok)
      × (us ≡ marked place marks.Do ∷ named a name ∷ marked b marks.OpenParen ∷
      (vs ++ marked c marks.CloseParen ∷ marked e marks.Semicolon ∷ []))
      × Listed marks.Comma IsNaming roles vs × (1 ≤ d)

  -- ---- lists of statements, and statements in a row

  abbrev Row : ℕ → Statements → List Tok → Type 0
  Row d b us = (cs : List Note) × AreStatements declared b cs us × (depth b ≤ d)

  deep_row : (d : ℕ) (xs : List Statements) (us : List Tok) → Each (Deep d) xs us → Row d (joined xs) us
  deep_row d [] us h = ([], (refl, h), omega arith)
  deep_row d (Nothing ∷ xs) us (a, b, parts, h, more) = absurd h
  deep_row d (Says m rest ∷ xs) us (a, b, parts, (none, (types, h), le), more) =
      let r = deep_row d xs b more in
      (carries (carried m.place types) ∷ r.0, (types, r.0, a, b, refl, parts, h, r.1), omega (arith, r.2))
  deep_row d (Choice place at branches rest ∷ xs) us (a, b, parts, (none, p, q, cs, vs, starts, h, le), more) =
      let r = deep_row d xs b more in
      (cs ++ r.0, (p, q, cs, r.0, vs, b, refl, parts ∙ ap (λ (z : List Tok). z ++ b) starts, h, r.1), omega (arith, r.2))
  deep_row d (Rec place name body rest ∷ xs) us (a, b, parts, (none, p, cs, vs, starts, h, le), more) =
      let r = deep_row d xs b more in
      (cs ++ r.0, (p, cs, r.0, vs, b, refl, parts ∙ ap (λ (z : List Tok). z ++ b) starts, h, r.1), omega (arith, r.2))
  deep_row d (Continue place name rest ∷ xs) us (a, b, parts, (none, p, q, starts, le), more) =
      let r = deep_row d xs b more in
      (r.0, (p, q, b, parts ∙ ap (λ (z : List Tok). z ++ b) starts, r.1), omega (arith, r.2))
  deep_row d (Do place name rest ∷ xs) us (a, b, parts, (none, p, q, s, t, roles, vs, starts, h, le), more) =
      let r = deep_row d xs b more in
      let end : List Tok = marked s marks.CloseParen ∷ marked t marks.Semicolon ∷ [] in
      let whole : us ≡ marked place marks.Do ∷ named p name ∷ marked q marks.OpenParen ∷ (vs ++ (end ++ b)) =
      parts ∙ ap (λ (z : List Tok). z ++ b) starts
      ∙ ap (λ (z : List Tok). marked place marks.Do ∷ named p name ∷ marked q marks.OpenParen ∷ z) (append_assoc vs end b) in
      (gives (given place name roles) ∷ r.0, (p, q, s, t, roles, r.0, vs, b, refl, whole, h, r.1), omega (arith, r.2))

  abbrev pub list_of : Statements → List Statements
  list_of Nothing = []
  list_of (Says m rest) = Says m Nothing ∷ list_of rest
  list_of (Choice place at branches rest) = Choice place at branches Nothing ∷ list_of rest
  list_of (Rec place name body rest) = Rec place name body Nothing ∷ list_of rest
  list_of (Continue place name rest) = Continue place name Nothing ∷ list_of rest
  list_of (Do place name rest) = Do place name Nothing ∷ list_of rest

  pub joined-list_of : (b : Statements) → joined (list_of b) ≡ b
  joined-list_of Nothing = refl
  joined-list_of (Says m rest) = ap (Says m) (joined-list_of rest)
  joined-list_of (Choice place at branches rest) = ap (Choice place at branches) (joined-list_of rest)
  joined-list_of (Rec place name body rest) = ap (Rec place name body) (joined-list_of rest)
  joined-list_of (Continue place name rest) = ap (Continue place name) (joined-list_of rest)
  joined-list_of (Do place name rest) = ap (Do place name) (joined-list_of rest)

  row_deep : (d : ℕ) (b : Statements) (cs : List Note) (us : List Tok) → AreStatements declared b cs us → depth b ≤ d
      → Each (Deep d) (list_of b) us
  row_deep d Nothing cs us h le = h.1
  row_deep d (Says m rest) cs us (types, ds, vs, ws, carry, parts, h, more) le =
      (vs, ws, parts, (refl, (types, h), omega arith), row_deep d rest ds ws more (omega arith))
  row_deep d (Choice place at branches rest) cs us (p, q, ds, es, vs, ws, carry, parts, h, more) le = (
    marked place marks.Choice ∷ marked p marks.At ∷ named q at ∷ vs,
    ws,
    parts,
    (refl, p, q, ds, vs, refl, h, omega arith),
    row_deep d rest es ws more (omega arith),
  )
  row_deep d (Rec place name body rest) cs us (p, ds, es, vs, ws, carry, parts, h, more) le = (
    marked place marks.Rec ∷ named p name ∷ vs,
    ws,
    parts,
    (refl, p, ds, vs, refl, h, omega arith),
    row_deep d rest es ws more
        (omega arith),
  )
  row_deep d (Continue place name rest) cs us (p, q, ws, parts, more) le = (
    marked place marks.Continue ∷ named p name ∷ marked q marks.Semicolon ∷ [],
    ws,
    parts,
    (refl, p, q, refl, omega arith),
    row_deep d rest cs ws more (omega arith),
  )
  row_deep d (Do place name rest) cs us (p, q, s, t, roles, ds, vs, ws, carry, parts, h, more) le = (
    marked place marks.Do ∷ named p name ∷ marked q marks.OpenParen ∷ (vs ++ marked s marks.CloseParen ∷ marked t marks.Semicolon ∷ []),
    ws,
    parts ∙ ap (λ (z : List Tok). marked place marks.Do ∷ named p name ∷ marked q marks.OpenParen ∷ z)
        (sym (append_assoc vs (marked s marks.CloseParen ∷ marked t marks.Semicolon ∷ []) ws)),
    (refl, p, q, s, t, roles, vs, refl, h, omega arith),
    row_deep d rest ds ws more (omega arith),
  )

  abbrev pub Block : ℕ → Statements → List Tok → Type 0
  Block d b us = (cs : List Note) × IsBraced (AreStatements declared b cs) us × (depth b ≤ d)

  pub block_row : (d : ℕ) (xs : List Statements) (us : List Tok) → BlockOf (Deep d) xs us → Block d (joined xs) us
  block_row d xs us (a, b, vs, parts, h) = let r = deep_row d xs vs h in (r.0, (a, b, vs, parts, r.1), r.2)

  pub row_block : (d : ℕ) (b : Statements) (cs : List Note) (us : List Tok) → IsBraced (AreStatements declared b cs) us → depth b ≤ d
      → BlockOf (Deep d) (list_of b) us
  row_block d b cs us (p, q, vs, parts, h) le = (p, q, vs, parts, row_deep d b cs vs h le)

  abbrev lists_of : Branches → List (List Statements)
  lists_of NoBranch = []
  lists_of (Branch b more) = list_of b ∷ lists_of more

  branches-lists_of : (bs : Branches) → branches_of (map joined (lists_of bs)) ≡ bs
  branches-lists_of NoBranch = refl
  branches-lists_of (Branch b more) = rw (joined-list_of b, branches-lists_of more) refl

  abbrev Others : ℕ → Branches → List Tok → Type 0
  Others d bs us = (cs : List Note) × AreOthers declared bs cs us × (depth_in bs ≤ d)

  deep_others : (d : ℕ) (xs : List (List Statements)) (us : List Tok) → Each (OtherOf (Deep d)) xs us →
      Others d (branches_of (map joined xs)) us
  deep_others d [] us h = ([], (refl, h), omega arith)
  deep_others d (x ∷ xs) us (ps, qs, parts, (a, vs, starts, block), more) =
      let one = block_row d x vs block in
      let r = deep_others d xs qs more in
      (one.0 ++ r.0, (a, one.0, r.0, vs, qs, refl, parts ∙ ap (λ (z : List Tok). z ++ qs) starts, one.1, r.1), omega (arith, one.2, r.2))

  others_deep : (d : ℕ) (bs : Branches) (cs : List Note) (us : List Tok) → AreOthers declared bs cs us → depth_in bs ≤ d
      → Each (OtherOf (Deep d)) (lists_of bs) us
  others_deep d NoBranch cs us h le = h.1
  others_deep d (Branch b more) cs us (a, ds, es, vs, qs, carry, parts, block, h) le =
      (marked a marks.Or ∷ vs, qs, parts, (a, vs, refl, row_block d b ds vs block (omega arith)), others_deep d more es qs h (omega arith))

  abbrev Choices : ℕ → Branches → List Tok → Type 0
  Choices d bs us = (cs : List Note) × AreBranches declared bs cs us × (depth_in bs ≤ d)

  deep_branches : (d : ℕ) (xs : List (List Statements)) (us : List Tok) → BranchesOf (Deep d) xs us →
      Choices d (branches_of (map joined xs)) us
  deep_branches d [] us h = absurd h
  deep_branches d (x ∷ xs) us (ps, qs, parts, block, more) =
      let one = block_row d x ps block in
      let r = deep_others d xs qs more in
      (one.0 ++ r.0, (one.0, r.0, ps, qs, refl, parts, one.1, r.1), omega (arith, one.2, r.2))

  branches_deep : (d : ℕ) (bs : Branches) (cs : List Note) (us : List Tok) → AreBranches declared bs cs us → depth_in bs ≤ d
      → BranchesOf (Deep d) (lists_of bs) us
  branches_deep d NoBranch cs us h le = absurd h
  branches_deep d (Branch b more) cs us (ds, es, ps, qs, carry, parts, block, h) le =
      (ps, qs, parts, row_block d b ds ps block (omega arith), others_deep d more es qs h (omega arith))

  -- ---- how each begins

  deep_begins : (d : ℕ) (s : Statements) (us rest : List Tok) → Deep d s us → Begins us rest
  deep_begins d Nothing us rest h = absurd h
  deep_begins d (Says m behind) us rest (none, (types, (a, b, c, e, f, vs, parts, h, kind)), le) = rw parts (refl, refl, omega arith)
  deep_begins d (Choice place at branches behind) us rest (none, a, b, cs, vs, parts, h, le) = rw parts (refl, refl, omega arith)
  deep_begins d (Rec place name body behind) us rest (none, a, cs, vs, parts, h, le) = rw parts (refl, refl, omega arith)
  deep_begins d (Continue place name behind) us rest (none, a, b, parts, le) = rw parts (refl, refl, omega arith)
  deep_begins d (Do place name behind) us rest (none, a, b, c, e, roles, vs, parts, h, le) = rw parts (refl, refl, omega arith)

  deep_starts : (d : ℕ) → Starts not_closed (Deep d) NotOr
  deep_starts d = starts_of (Deep d) (deep_begins d)

  -- ---- statements

  deep_choice : (d : ℕ) (x : Statements) (us : List Tok) → IsChoice (Deep d) a_choice x us → Deep (suc d) x us
  deep_choice d x us c =
      let r = deep_branches d c.branches c.behind c.spelled in
      subst (λ (y : Statements). Deep (suc d) y us) c.is
      (refl, c.at_place, c.name_place, r.0, c.behind, c.tokens, r.1, omega (arith, r.2))

  deep_rec : (d : ℕ) (x : Statements) (us : List Tok) → IsRec (Deep d) a_rec x us → Deep (suc d) x us
  deep_rec d x us c =
      let r = block_row d c.body c.behind c.spelled in
      subst (λ (y : Statements). Deep (suc d) y us) c.is (refl, c.name_place, r.0, c.behind, c.tokens, r.1, omega (arith, r.2))

  deep_continue : (d : ℕ) (x : Statements) (us : List Tok) → IsContinue a_continue x us → Deep (suc d) x us
  deep_continue d x us c = subst (λ (y : Statements). Deep (suc d) y us) c.is (refl, c.name_place, c.end, c.tokens, omega arith)

  module _ (f : Reader Tok Statements) (d : ℕ) (exact : IsExact f (Deep d) NotOr) where
    do_sound : (ts : List Tok) (x : Statements × List Tok) → do_at ts ≡ Some x → Takes (Deep (suc d) x.0) ts x.1
    unfolding do_at
    do_sound ts x e =
        let s = bind_some (mark_at marks.Do ts) _ x e in
        let n = bind_some (name_at s.0.1) _ x s.2 in
        let b = bind_some (mark_at marks.OpenParen n.0.1) _ x n.2 in
        let p = bind_some (names_at marks.Comma b.0.1) _ x b.2 in
        let c = bind_some (mark_at marks.CloseParen p.0.1) _ x p.2 in
        let g = bind_some (mark_at marks.Semicolon c.0.1) _ x c.2 in
        let names = names_sound marks.Comma b.0.1 p.0 p.1 in
        let end : List Tok = marked c.0.0 marks.CloseParen ∷ marked g.0.0 marks.Semicolon ∷ [] in
        let inner : b.0.1 ≡ (names.front ++ end) ++ g.0.1 =
        names.parts ∙ ap (λ (r : List Tok). names.front ++ r)
        (after (mark_is marks.CloseParen p.0.1 c.0 c.1) (mark_is marks.Semicolon c.0.1 g.0 g.1)) ∙ sym (append_assoc names.front end g.0.1)
        in
        subst (λ (y : Statements × List Tok). Takes (Deep (suc d) y.0) ts y.1) (some_is _ x g.2)
        (record {
          front = marked s.0.0 marks.Do ∷ named n.0.0.0 n.0.0.1 ∷ marked b.0.0 marks.OpenParen ∷ (names.front ++ end);
          parts = after (mark_is marks.Do ts s.0 s.1) (after (name_is s.0.1 n.0 n.1) (after (mark_is marks.OpenParen n.0.1 b.0 b.1) inner));
          holds = (refl, n.0.0.0, b.0.0, c.0.0, g.0.0, p.0.0, names.front, refl, names.holds, omega arith);
        })

    says_sound : (ts : List Tok) (x : Statements × List Tok) → says_at declared ts ≡ Some x → Takes (Deep (suc d) x.0) ts x.1
    unfolding says_at
    says_sound ts x e =
        let m = bind_some (message_at declared ts) _ x e in
        let one = message_sound ts m.0 m.1 in
        subst (λ (y : Statements × List Tok). Takes (Deep (suc d) y.0) ts y.1) (some_is _ x m.2)
        (record { front = one.front; parts = one.parts; holds = (refl, one.holds, omega arith) })

    statement_sound : (ts : List Tok) (x : Statements × List Tok) → statement_with (plain_at declared) a_choice a_rec f ts ≡ Some x →
        Takes (Deep (suc d) x.0) ts x.1
    unfolding statement_with plain_at
    statement_sound ts x e =
        elim (chosen (is_at marks.Choice ts) (choice_with a_choice f ts) _ (Some x) e) [
          | inl a ↦ takes_as (deep_choice d x.0) (choice_sound (Deep d) f exact (deep_starts d) a_choice ts x a.1)
          | inr b ↦ elim (chosen (is_at marks.Rec ts) (rec_with a_rec f ts) _ (Some x) b.1) [
            | inl a ↦ takes_as (deep_rec d x.0) (rec_sound (Deep d) f exact (deep_starts d) a_rec ts x a.1)
            | inr c ↦ elim (chosen (is_at marks.Continue ts) (continue_with a_continue ts) _ (Some x) c.1) [
              | inl a ↦ takes_as (deep_continue d x.0) (continue_sound a_continue ts x a.1)
              | inr g ↦ elim (chosen (is_at marks.Do ts) (do_at ts) _ (Some x) g.1) [
                | inl a ↦ do_sound ts x a.1
                | inr k ↦ says_sound ts x k.1
              ]
            ]
          ]
        ]

    statement_complete : (x : Statements) (ts rest : List Tok) → NotOr rest → Deep (suc d) x ts
        → statement_with (plain_at declared) a_choice a_rec f (ts ++ rest) ≡ Some (x, rest)
    unfolding statement_with plain_at choice_with rec_with continue_with do_at says_at
    statement_complete Nothing ts rest fine h = absurd h
    statement_complete (Says m behind) ts rest fine (none, (types, (a, b, c, e, g, us, parts, h, kind)), le) =
        let whole = message_complete m ts rest (types, (a, b, c, e, g, us, parts, h, kind)) in
        let at_rest = rw parts at whole in
        rw (parts, at_rest, none) refl
    statement_complete (Choice place at branches behind) ts rest fine (none, a, b, cs, us, parts, h, le) =
        let inner = branches_complete (Deep d) f exact (deep_starts d) (lists_of branches) us rest fine
        (branches_deep d branches cs us h (omega arith)) in
        rw (parts, inner, branches-lists_of branches, none) refl
    statement_complete (Rec place name body behind) ts rest fine (none, a, cs, us, parts, h, le) =
        let inner = block_complete (Deep d) f exact (deep_starts d) (list_of body) us rest tt (row_block d body cs us h (omega arith)) in
        rw (parts, inner, joined-list_of body, none) refl
    statement_complete (Continue place name behind) ts rest fine (none, a, b, parts, le) = rw (parts, none) refl
    statement_complete (Do place name behind) ts rest fine (none, a, b, c, e, roles, us, parts, h, le) =
        let end : List Tok = marked c marks.CloseParen ∷ marked e marks.Semicolon ∷ [] in
        let names = names_complete marks.Comma roles us (end ++ rest) refl h in
        rw (parts, append_assoc us end rest, names, none) refl

  pub statement_exact : (d : ℕ) → IsExact (statement_at declared d) (Deep d) NotOr
  unfolding nested_at
  statement_exact zero = record { sound = λ ts x e. absurd (none_is_not x e); complete = λ x ts rest fine h. absurd (never x ts h) }
    where
      never : (x : Statements) (ts : List Tok) → Deep zero x ts → ⊥
      never Nothing ts h = h
      never (Says m behind) ts (none, h, le) = omega arith
      never (Choice place at branches behind) ts (none, a, b, cs, us, parts, h, le) = omega arith
      never (Rec place name body behind) ts (none, a, cs, us, parts, h, le) = omega arith
      never (Continue place name behind) ts (none, a, b, parts, le) = omega arith
      never (Do place name behind) ts (none, a, b, c, e, roles, us, parts, h, le) = omega arith
  statement_exact (suc d) =
      record {
        sound = statement_sound (statement_at declared d) d (statement_exact d);
        complete = statement_complete
            (statement_at declared d) d (statement_exact d);
      }

  pub shortens : Shortens (statement_at declared)
  shortens = nested_shorten Deep (statement_at declared) statement_exact deep_starts

  pub blocks_exact : (d : ℕ) → IsExact (block_with (statement_at declared d)) (BlockOf (Deep d)) Anything
  blocks_exact d = block_exact (Deep d) (statement_at declared d) (statement_exact d) (deep_starts d)
