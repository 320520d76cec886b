-- Statements are read where the grammar spells them, and nowhere else.
use Rattle.std.proofs.Common.{◌≡◌, ℕ, zero, suc, ◌≤◌, List, [], ◌∷◌, ◌++◌, map, Some, refl, ap, ◌∙◌, subst}
use Rattle.std.proofs.Common.{append_assoc, arith, inl, inr}
use Rattle.mg_text.specs.Call.{Name}
use Rattle.mg_text.specs.declared.place.Place.{Place}
use Rattle.mg_read.specs.Reader.{Reader}
use Rattle.mg_read.proofs.Steps.{bind_some, some_is, none_is_not, chosen, Takes}
use Rattle.mg_read.proofs.Lists.{Each, IsExact, Starts}
use Rattle.scr_tree.specs.Tok.{Tok, named, marked}
use Rattle.scr_tree.specs.declared.token.Mark.TheVariants as marks
use Rattle.scr_tree.specs.declared.written.Declaration.{Declaration}
use Rattle.scr_global.specs.Tree.{Told, Statements, Nothing, Says, Choice, Rec, Continue, Branches, NoBranch, Branch}
use Rattle.scr_global_tree.specs.View.{branches_of}
use Rattle.scr_global_tree.specs.Valid.{depth, depth_in}
use Rattle.scr_tree.specs.Written.{Carries}
use Rattle.scr_parse.specs.Grammar.{carried, IsBraced}
use Rattle.scr_parse.specs.inner.Reading.{is_at, mark_at, name_at, payload_at, not_closed, block_with, choice_with, rec_with}
use Rattle.scr_parse.specs.inner.Reading.{continue_with, statement_with, nested_at, Shortens}
use Rattle.scr_global_parse.specs.Grammar.{IsMessage, AreStatements, AreBranches, AreOthers}
use Rattle.scr_global_parse.specs.inner.View.{joined}
use Rattle.scr_global_parse.specs.inner.Reading.{ends_at, message_at, says_at, a_choice, a_rec, a_continue, plain_at, statement_at}
use Rattle.scr_parse.proofs.Steps.{Anything, after, mark_is, name_is}
use Rattle.scr_parse.proofs.Blocks.{NotOr, Begins, starts_of, takes_as, BlockOf, OtherOf, BranchesOf, IsChoice, IsRec, IsContinue}
use Rattle.scr_parse.proofs.Blocks.{block_complete, block_exact, branches_complete, choice_sound, rec_sound, continue_sound}
use Rattle.scr_parse.proofs.Blocks.{nested_shorten}
use Rattle.scr_parse.proofs.Nested.{payload_sound, payload_complete}

-- ---- messages

-- "from" name "to" name ";"
abbrev EndsOf : Name → Name → List Tok → Type 0
EndsOf from to ts = (c d e f g : Place) × (ts ≡ marked c marks.From ∷ named d from ∷ marked e marks.To ∷ named f to ∷ marked g
    marks.Semicolon ∷ [])

ends_sound : (ts : List Tok) (x : (Name × Name) × List Tok) → ends_at ts ≡ Some x → Takes (EndsOf x.0.0 x.0.1) ts x.1
unfolding ends_at
ends_sound ts x e =
    let c = bind_some (mark_at marks.From ts) _ x e in
    let d = bind_some (name_at c.0.1) _ x c.2 in
    let t = bind_some (mark_at marks.To d.0.1) _ x d.2 in
    let f = bind_some (name_at t.0.1) _ x t.2 in
    let g = bind_some (mark_at marks.Semicolon f.0.1) _ x f.2 in
    subst (λ (y : (Name × Name) × List Tok). Takes (EndsOf y.0.0 y.0.1) ts y.1) (some_is _ x g.2)
    (record {
      front = marked c.0.0 marks.From ∷ named d.0.0.0 d.0.0.1 ∷ marked t.0.0 marks.To ∷ named f.0.0.0 f.0.0.1 ∷ marked g.0.0 marks.Semicolon
          ∷ [];
      parts = after (mark_is marks.From ts c.0 c.1) (after (name_is c.0.1 d.0 d.1) (after (mark_is marks.To d.0.1 t.0 t.1)
          (after (name_is t.0.1 f.0 f.1) (mark_is marks.Semicolon f.0.1 g.0 g.1))));
      holds = (c.0.0, d.0.0.0, t.0.0, f.0.0.0, g.0.0, refl);
    })

message_parts : (s1 s2 s3 s4 s5 us end rest : List Tok) (t a b : Tok) → s1 ≡ t ∷ s2 → s2 ≡ a ∷ s3 → s3 ≡ us ++ s4 → s4 ≡ b ∷ s5
    → s5 ≡ end ++ rest → s1 ≡ (t ∷ a ∷ (us ++ b ∷ end)) ++ rest
message_parts s1 s2 s3 s4 s5 us end rest t a b h1 h2 h3 h4 h5 = rw (h1, h2, h3, h4, h5, append_assoc us (b ∷ end) rest) refl

module _ (declared : List Declaration) where
  abbrev MessageOf : Told → List Tok → Type 0
  MessageOf m ts = (types : List Name) × IsMessage declared m types ts

  message_sound : (ts : List Tok) (x : Told × List Tok) → message_at declared ts ≡ Some x → Takes (MessageOf x.0) ts x.1
  unfolding message_at
  message_sound ts x e =
      let l = bind_some (name_at ts) _ x e in
      let a = bind_some (mark_at marks.OpenParen l.0.1) _ x l.2 in
      let p = bind_some (payload_at a.0.1) _ x a.2 in
      let b = bind_some (mark_at marks.CloseParen p.0.1) _ x p.2 in
      let w = bind_some (ends_at b.0.1) _ x b.2 in
      let types = payload_sound a.0.1 p.0 p.1 in
      let ends = ends_sound b.0.1 w.0 w.1 in
      subst (λ (y : Told × List Tok). Takes (MessageOf y.0) ts y.1) (some_is _ x w.2)
      (record {
        front = named l.0.0.0 l.0.0.1 ∷ marked a.0.0 marks.OpenParen ∷ (types.front ++ marked b.0.0 marks.CloseParen ∷ ends.front);
        parts = message_parts ts l.0.1 a.0.1 p.0.1 b.0.1 types.front ends.front w.0.1 _ _ _
            (name_is ts l.0 l.1) (mark_is marks.OpenParen l.0.1 a.0 a.1) types.parts (mark_is marks.CloseParen p.0.1 b.0 b.1) ends.parts;
        holds = (
          p.0.0,
          (
            a.0.0,
            b.0.0,
            ends.holds.0,
            ends.holds.1,
            ends.holds.2,
            ends.holds.3,
            ends.holds.4,
            types.front,
            ap (λ (r : List Tok). named l.0.0.0 l.0.0.1 ∷ marked a.0.0 marks.OpenParen ∷ (types.front ++ marked b.0.0 marks.CloseParen ∷ r))
                ends.holds.5,
            types.holds,
            refl,
          ),
        );
      })

  ends_complete : (from to : Name) (c d e f g : Place) (rest : List Tok)
      → ends_at (marked c marks.From ∷ named d from ∷ marked e marks.To ∷ named f to ∷ marked g marks.Semicolon ∷ rest) ≡ Some
      ((from, to), rest)
  unfolding ends_at
  ends_complete from to c d e f g rest = refl

  message_complete : (m : Told) (ts rest : List Tok) → MessageOf m ts → message_at declared (ts ++ rest) ≡ Some (m, rest)
  unfolding message_at
  message_complete m ts rest (types, (a, b, c, d, e, f, g, us, parts, h, kind)) =
      let end : List Tok = marked c marks.From ∷ named d m.from ∷ marked e marks.To ∷ named f m.to ∷ marked g marks.Semicolon ∷ [] in
      let inner = payload_complete types us (end ++ rest) b h in
      let ends = ends_complete m.from m.to c d e f g rest in
      rw (parts, append_assoc us (marked b marks.CloseParen ∷ end) rest, inner, ends, ← kind) refl

  -- ---- statements with others inside

  -- a statement alone, in which statements stand at most so deep
  abbrev pub Deep : ℕ → Statements → List Tok → Type 0
  Deep d Nothing us = ⊥
  Deep d (Says m rest) us = (rest ≡ Nothing) × MessageOf m us × (1 ≤ d)
  Deep d (Choice place at branches rest) us =
      (rest ≡ Nothing) × (a b : Place) × (cs : List Carries) × (vs : List Tok)
      × (us ≡ marked place marks.Choice ∷ marked a marks.At ∷ named b at ∷ vs) × AreBranches declared branches cs vs ×
      (suc (depth_in branches) ≤ d)
  Deep d (Rec place name body rest) us =
      (rest ≡ Nothing) × (a : Place) × (cs : List Carries) × (vs : List Tok)
      × (us ≡ marked place marks.Rec ∷ named a name ∷ vs) × IsBraced (AreStatements declared body cs) vs × (suc (depth body) ≤ d)
  Deep d (Continue place name rest) us =
      (rest ≡ Nothing) × (a b : Place) × (us ≡ marked place marks.Continue ∷ named a name ∷ marked b marks.Semicolon ∷ []) × (1 ≤ d)

  -- ---- lists of statements, and statements in a row

  abbrev Row : ℕ → Statements → List Tok → Type 0
  Row d b us = (cs : List Carries) × AreStatements declared b cs us × (depth b ≤ d)

  deep_row : (d : ℕ) (xs : List Statements) (us : List Tok) → Each (Deep d) xs us → Row d (joined xs) us
  deep_row d [] us h = ([], (refl, h), omega arith)
  deep_row d (Nothing ∷ xs) us (a, b, parts, h, more) = absurd h
  deep_row d (Says m rest ∷ xs) us (a, b, parts, (none, (types, h), le), more) =
      let r = deep_row d xs b more in
      (carried m.place types ∷ r.0, (types, r.0, a, b, refl, parts, h, r.1), omega (arith, r.2))
  deep_row d (Choice place at branches rest ∷ xs) us (a, b, parts, (none, p, q, cs, vs, starts, h, le), more) =
      let r = deep_row d xs b more in
      (cs ++ r.0, (p, q, cs, r.0, vs, b, refl, parts ∙ ap (λ (z : List Tok). z ++ b) starts, h, r.1), omega (arith, r.2))
  deep_row d (Rec place name body rest ∷ xs) us (a, b, parts, (none, p, cs, vs, starts, h, le), more) =
      let r = deep_row d xs b more in
      (cs ++ r.0, (p, cs, r.0, vs, b, refl, parts ∙ ap (λ (z : List Tok). z ++ b) starts, h, r.1), omega (arith, r.2))
  deep_row d (Continue place name rest ∷ xs) us (a, b, parts, (none, p, q, starts, le), more) =
      let r = deep_row d xs b more in
      (r.0, (p, q, b, parts ∙ ap (λ (z : List Tok). z ++ b) starts, r.1), omega (arith, r.2))

  abbrev pub list_of : Statements → List Statements
  list_of Nothing = []
  list_of (Says m rest) = Says m Nothing ∷ list_of rest
  list_of (Choice place at branches rest) = Choice place at branches Nothing ∷ list_of rest
  list_of (Rec place name body rest) = Rec place name body Nothing ∷ list_of rest
  list_of (Continue place name rest) = Continue place name Nothing ∷ list_of rest

  pub joined-list_of : (b : Statements) → joined (list_of b) ≡ b
  joined-list_of Nothing = refl
  joined-list_of (Says m rest) = ap (Says m) (joined-list_of rest)
  joined-list_of (Choice place at branches rest) = ap (Choice place at branches) (joined-list_of rest)
  joined-list_of (Rec place name body rest) = ap (Rec place name body) (joined-list_of rest)
  joined-list_of (Continue place name rest) = ap (Continue place name) (joined-list_of rest)

  row_deep : (d : ℕ) (b : Statements) (cs : List Carries) (us : List Tok) → AreStatements declared b cs us → depth b ≤ d
      → Each (Deep d) (list_of b) us
  row_deep d Nothing cs us h le = h.1
  row_deep d (Says m rest) cs us (types, ds, vs, ws, carry, parts, h, more) le =
      (vs, ws, parts, (refl, (types, h), omega arith), row_deep d rest ds ws more (omega arith))
  row_deep d (Choice place at branches rest) cs us (p, q, ds, es, vs, ws, carry, parts, h, more) le = (
    marked place marks.Choice ∷ marked p marks.At ∷ named q at ∷ vs,
    ws,
    parts,
    (refl, p, q, ds, vs, refl, h, omega arith),
    row_deep d rest es ws more (omega arith),
  )
  row_deep d (Rec place name body rest) cs us (p, ds, es, vs, ws, carry, parts, h, more) le = (
    marked place marks.Rec ∷ named p name ∷ vs,
    ws,
    parts,
    (refl, p, ds, vs, refl, h, omega arith),
    row_deep d rest es ws more
        (omega arith),
  )
  row_deep d (Continue place name rest) cs us (p, q, ws, parts, more) le = (
    marked place marks.Continue ∷ named p name ∷ marked q marks.Semicolon ∷ [],
    ws,
    parts,
    (refl, p, q, refl, omega arith),
    row_deep d rest cs ws more (omega arith),
  )

  abbrev pub Block : ℕ → Statements → List Tok → Type 0
  Block d b us = (cs : List Carries) × IsBraced (AreStatements declared b cs) us × (depth b ≤ d)

  pub block_row : (d : ℕ) (xs : List Statements) (us : List Tok) → BlockOf (Deep d) xs us → Block d (joined xs) us
  block_row d xs us (a, b, vs, parts, h) = let r = deep_row d xs vs h in (r.0, (a, b, vs, parts, r.1), r.2)

  pub row_block : (d : ℕ) (b : Statements) (cs : List Carries) (us : List Tok) → IsBraced (AreStatements declared b cs) us → depth b ≤ d
      → BlockOf (Deep d) (list_of b) us
  row_block d b cs us (p, q, vs, parts, h) le = (p, q, vs, parts, row_deep d b cs vs h le)

  abbrev lists_of : Branches → List (List Statements)
  lists_of NoBranch = []
  lists_of (Branch b more) = list_of b ∷ lists_of more

  branches-lists_of : (bs : Branches) → branches_of (map joined (lists_of bs)) ≡ bs
  branches-lists_of NoBranch = refl
  branches-lists_of (Branch b more) = rw (joined-list_of b, branches-lists_of more) refl

  abbrev Others : ℕ → Branches → List Tok → Type 0
  Others d bs us = (cs : List Carries) × AreOthers declared bs cs us × (depth_in bs ≤ d)

  deep_others : (d : ℕ) (xs : List (List Statements)) (us : List Tok) → Each (OtherOf (Deep d)) xs us →
      Others d (branches_of (map joined xs)) us
  deep_others d [] us h = ([], (refl, h), omega arith)
  deep_others d (x ∷ xs) us (ps, qs, parts, (a, vs, starts, block), more) =
      let one = block_row d x vs block in
      let r = deep_others d xs qs more in
      (one.0 ++ r.0, (a, one.0, r.0, vs, qs, refl, parts ∙ ap (λ (z : List Tok). z ++ qs) starts, one.1, r.1), omega (arith, one.2, r.2))

  others_deep : (d : ℕ) (bs : Branches) (cs : List Carries) (us : List Tok) → AreOthers declared bs cs us → depth_in bs ≤ d
      → Each (OtherOf (Deep d)) (lists_of bs) us
  others_deep d NoBranch cs us h le = h.1
  others_deep d (Branch b more) cs us (a, ds, es, vs, qs, carry, parts, block, h) le =
      (marked a marks.Or ∷ vs, qs, parts, (a, vs, refl, row_block d b ds vs block (omega arith)), others_deep d more es qs h (omega arith))

  abbrev Choices : ℕ → Branches → List Tok → Type 0
  Choices d bs us = (cs : List Carries) × AreBranches declared bs cs us × (depth_in bs ≤ d)

  deep_branches : (d : ℕ) (xs : List (List Statements)) (us : List Tok) → BranchesOf (Deep d) xs us →
      Choices d (branches_of (map joined xs)) us
  deep_branches d [] us h = absurd h
  deep_branches d (x ∷ xs) us (ps, qs, parts, block, more) =
      let one = block_row d x ps block in
      let r = deep_others d xs qs more in
      (one.0 ++ r.0, (one.0, r.0, ps, qs, refl, parts, one.1, r.1), omega (arith, one.2, r.2))

  branches_deep : (d : ℕ) (bs : Branches) (cs : List Carries) (us : List Tok) → AreBranches declared bs cs us → depth_in bs ≤ d
      → BranchesOf (Deep d) (lists_of bs) us
  branches_deep d NoBranch cs us h le = absurd h
  branches_deep d (Branch b more) cs us (ds, es, ps, qs, carry, parts, block, h) le =
      (ps, qs, parts, row_block d b ds ps block (omega arith), others_deep d more es qs h (omega arith))

  -- ---- how each begins

  deep_begins : (d : ℕ) (s : Statements) (us rest : List Tok) → Deep d s us → Begins us rest
  deep_begins d Nothing us rest h = absurd h
  deep_begins d (Says m behind) us rest (none, (types, (a, b, c, e, f, g, i, vs, parts, h, kind)), le) = rw parts (refl, refl, omega arith)
  deep_begins d (Choice place at branches behind) us rest (none, a, b, cs, vs, parts, h, le) = rw parts (refl, refl, omega arith)
  deep_begins d (Rec place name body behind) us rest (none, a, cs, vs, parts, h, le) = rw parts (refl, refl, omega arith)
  deep_begins d (Continue place name behind) us rest (none, a, b, parts, le) = rw parts (refl, refl, omega arith)

  deep_starts : (d : ℕ) → Starts not_closed (Deep d) NotOr
  deep_starts d = starts_of (Deep d) (deep_begins d)

  -- ---- statements

  deep_choice : (d : ℕ) (x : Statements) (us : List Tok) → IsChoice (Deep d) a_choice x us → Deep (suc d) x us
  deep_choice d x us c =
      let r = deep_branches d c.branches c.behind c.spelled in
      subst (λ (y : Statements). Deep (suc d) y us) c.is
      (refl, c.at_place, c.name_place, r.0, c.behind, c.tokens, r.1, omega (arith, r.2))

  deep_rec : (d : ℕ) (x : Statements) (us : List Tok) → IsRec (Deep d) a_rec x us → Deep (suc d) x us
  deep_rec d x us c =
      let r = block_row d c.body c.behind c.spelled in
      subst (λ (y : Statements). Deep (suc d) y us) c.is (refl, c.name_place, r.0, c.behind, c.tokens, r.1, omega (arith, r.2))

  deep_continue : (d : ℕ) (x : Statements) (us : List Tok) → IsContinue a_continue x us → Deep (suc d) x us
  deep_continue d x us c = subst (λ (y : Statements). Deep (suc d) y us) c.is (refl, c.name_place, c.end, c.tokens, omega arith)

  module _ (f : Reader Tok Statements) (d : ℕ) (exact : IsExact f (Deep d) NotOr) where
    says_sound : (ts : List Tok) (x : Statements × List Tok) → says_at declared ts ≡ Some x → Takes (Deep (suc d) x.0) ts x.1
    unfolding says_at
    says_sound ts x e =
        let m = bind_some (message_at declared ts) _ x e in
        let one = message_sound ts m.0 m.1 in
        subst (λ (y : Statements × List Tok). Takes (Deep (suc d) y.0) ts y.1) (some_is _ x m.2)
        (record { front = one.front; parts = one.parts; holds = (refl, one.holds, omega arith) })

    statement_sound : (ts : List Tok) (x : Statements × List Tok) → statement_with (plain_at declared) a_choice a_rec f ts ≡ Some x →
        Takes (Deep (suc d) x.0) ts x.1
    unfolding statement_with plain_at
    statement_sound ts x e =
        elim (chosen (is_at marks.Choice ts) (choice_with a_choice f ts) _ (Some x) e) [
          | inl a ↦ takes_as (deep_choice d x.0) (choice_sound (Deep d) f exact (deep_starts d) a_choice ts x a.1)
          | inr b ↦ elim (chosen (is_at marks.Rec ts) (rec_with a_rec f ts) _ (Some x) b.1) [
            | inl a ↦ takes_as (deep_rec d x.0) (rec_sound (Deep d) f exact (deep_starts d) a_rec ts x a.1)
            | inr c ↦ elim (chosen (is_at marks.Continue ts) (continue_with a_continue ts) _ (Some x) c.1) [
              | inl a ↦ takes_as (deep_continue d x.0) (continue_sound a_continue ts x a.1)
              | inr g ↦ says_sound ts x g.1
            ]
          ]
        ]

    statement_complete : (x : Statements) (ts rest : List Tok) → NotOr rest → Deep (suc d) x ts
        → statement_with (plain_at declared) a_choice a_rec f (ts ++ rest) ≡ Some (x, rest)
    unfolding statement_with plain_at choice_with rec_with continue_with says_at
    statement_complete Nothing ts rest fine h = absurd h
    statement_complete (Says m behind) ts rest fine (none, (types, (a, b, c, e, g, i, j, us, parts, h, kind)), le) =
        let whole = message_complete m ts rest (types, (a, b, c, e, g, i, j, us, parts, h, kind)) in
        let at_rest = rw parts at whole in
        rw (parts, at_rest, none) refl
    statement_complete (Choice place at branches behind) ts rest fine (none, a, b, cs, us, parts, h, le) =
        let inner = branches_complete (Deep d) f exact (deep_starts d) (lists_of branches) us rest fine
        (branches_deep d branches cs us h (omega arith)) in
        rw (parts, inner, branches-lists_of branches, none) refl
    statement_complete (Rec place name body behind) ts rest fine (none, a, cs, us, parts, h, le) =
        let inner = block_complete (Deep d) f exact (deep_starts d) (list_of body) us rest tt (row_block d body cs us h (omega arith)) in
        rw (parts, inner, joined-list_of body, none) refl
    statement_complete (Continue place name behind) ts rest fine (none, a, b, parts, le) = rw (parts, none) refl

  pub statement_exact : (d : ℕ) → IsExact (statement_at declared d) (Deep d) NotOr
  unfolding nested_at
  statement_exact zero = record { sound = λ ts x e. absurd (none_is_not x e); complete = λ x ts rest fine h. absurd (never x ts h) }
    where
      never : (x : Statements) (ts : List Tok) → Deep zero x ts → ⊥
      never Nothing ts h = h
      never (Says m behind) ts (none, h, le) = omega arith
      never (Choice place at branches behind) ts (none, a, b, cs, us, parts, h, le) = omega arith
      never (Rec place name body behind) ts (none, a, cs, us, parts, h, le) = omega arith
      never (Continue place name behind) ts (none, a, b, parts, le) = omega arith
  statement_exact (suc d) =
      record {
        sound = statement_sound (statement_at declared d) d (statement_exact d);
        complete = statement_complete
            (statement_at declared d) d (statement_exact d);
      }

  pub shortens : Shortens (statement_at declared)
  shortens = nested_shorten Deep (statement_at declared) statement_exact deep_starts

  pub blocks_exact : (d : ℕ) → IsExact (block_with (statement_at declared d)) (BlockOf (Deep d)) Anything
  blocks_exact d = block_exact (Deep d) (statement_at declared d) (statement_exact d) (deep_starts d)
