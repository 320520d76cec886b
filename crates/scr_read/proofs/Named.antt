-- The names among the tokens of a file are names, so what they spell can be written.
use Rattle.std.proofs.Common.{◌≡◌, ◌⊎◌, ℕ, ◌≤◌, List, [], ◌∷◌, ◌++◌, map, length, Option, Some, None, refl, sym, subst, inl, inr}
use Rattle.std.specs.List.{AllByRecursion}
use Rattle.mg_text.specs.Call.{Name}
use Rattle.mg_text.specs.Places.{start_of, place_after}
use Rattle.mg_text.specs.declared.place.Place.{Place}
use Rattle.mg_read.specs.Each.{Each}
use Rattle.mg_read.specs.Passes.{AllPasses, StartsWith}
use Rattle.mg_read.specs.Pieces.{Piece, blank, line, block, word, quote, sign, spell, Cut, tokens_from}
use Rattle.mg_read.proofs.Lists.{all_both, all_front, all_back}
use Rattle.scr_tree.specs.declared.token.Mark.{Mark}
use Rattle.scr_tree.specs.declared.token.Mark.TheVariants as marks
use Rattle.scr_tree.specs.declared.written.Declaration.{Declaration}
use Rattle.scr_tree.specs.declared.written.Role.{Role}
use Rattle.scr_tree.specs.Tok.{Tok, named, quoted, marked}
use Rattle.scr_tree.specs.Tree.{Statements, Nothing, Says, Choice, Rec, Continue, Do, Branches, NoBranch, Branch}
use Rattle.scr_tree.specs.Words.{IsName, is_name_start, is_name_byte, reserved, sign_of}
use Rattle.scr_tree.specs.Valid.{IsWrittenPart, IsWritten, AreWritten, AreWrittenIn, HasBranches}
use Rattle.scr_tree.specs.Written.{WrittenPart, WrittenTree, role_name, roles_in, part_meant, local_of}
use Rattle.scr_lex.specs.Pieces.{scribble, word_tok, sign_toks, tok_said, AreTokens}
use Rattle.scr_parse.specs.Grammar.{Behind, Before, Listed, IsRole, IsMyself, IsAtHeader, IsSelfHeader, direction_mark, IsBraced}
use Rattle.scr_parse.specs.Grammar.{AreStatements, AreBranches, AreOthers, Note, IsLocal, IsShallow}
use Rattle.scr_read.specs.Spelling.{Spells}

-- each name among tokens is one
abbrev pub IsNamed : Tok → Type 0
IsNamed (named place name) = IsName name
IsNamed (quoted place name) = Unit {0}
IsNamed (marked place mark) = Unit {0}

abbrev pub AreNamed : List Tok → Type 0
AreNamed = AllByRecursion IsNamed

pub in_front : (ts us : List Tok) → AreNamed (ts ++ us) → AreNamed ts
in_front = all_front IsNamed

pub in_back : (ts us : List Tok) → AreNamed (ts ++ us) → AreNamed us
in_back = all_back IsNamed

-- ---- tokens

word_named : (place : Place) (text : Name) (mark : Option Mark) → reserved text ≡ mark → StartsWith is_name_start text
    → AllPasses is_name_byte text → length text ≤ 255
    → AreNamed (word_tok place text mark ∷ [])
word_named place text None e starts passes short = (record { starts = starts; bytes = passes; short = short; free = e }, tt)
word_named place text (Some mark) e starts passes short = (tt, tt)

sign_named : (place : Place) (mark : Option Mark) → AreNamed (sign_toks place mark)
sign_named place None = tt
sign_named place (Some mark) = (tt, tt)

pieces_named : (place : Place) (ps : List Piece) (bytes rest : List ℕ) → Cut scribble ps bytes rest
    → AreNamed (tokens_from tok_said place ps)
pieces_named place [] bytes rest cut = tt
pieces_named place (blank c ∷ ps) bytes rest (after, e, may, cut) = pieces_named (place_after place (spell (blank c))) ps after rest cut
pieces_named place (line body ∷ ps) bytes rest (after, e, may, cut) = pieces_named (place_after place (spell (line body))) ps after rest cut
pieces_named place (block body ∷ ps) bytes rest (after, e, may, cut) = pieces_named
    (place_after place (spell (block body))) ps after rest cut
pieces_named place (quote body ∷ ps) bytes rest (after, e, may, cut) =
    (tt, pieces_named (place_after place (spell (quote body))) ps after rest cut)
pieces_named place (word text ∷ ps) bytes rest (after, e, (starts, passes, stops, short), cut) =
    all_both IsNamed (word_tok place text (reserved text) ∷ []) (tokens_from tok_said (place_after place text) ps)
    (word_named place text (reserved text) refl starts passes short) (pieces_named (place_after place
    (spell (word text))) ps after rest cut)
pieces_named place (sign c ∷ ps) bytes rest (after, e, may, cut) =
    all_both IsNamed (sign_toks place (sign_of c)) (tokens_from tok_said (place_after place (spell (sign c))) ps)
    (sign_named place (sign_of c)) (pieces_named (place_after place (spell (sign c))) ps after rest cut)

pub tokens_named : (file : ℕ) (ts : List Tok) (bytes : List ℕ) → AreTokens file ts bytes → AreNamed ts
tokens_named file ts bytes h = subst AreNamed (sym h.tokens) (pieces_named (start_of file) h.pieces bytes [] h.cut)

-- ---- roles

role_written : (r : Role) (ts : List Tok) → IsRole r ts → AreNamed ts → IsName r.name
role_written r ts (a, e) h = let g = subst AreNamed e h in g.1.0

behind_written : (rs : List Role) (ts : List Tok) → Each (Behind marks.Comma IsRole) rs ts → AreNamed ts
    → AllByRecursion IsName (map role_name rs)
behind_written [] ts e h = tt
behind_written (r ∷ rs) ts (us, vs, parts, (a, xs, e, one), more) h =
    let g = subst AreNamed parts h in
    let first = subst AreNamed e (in_front us vs g) in
    (role_written r xs one first.1, behind_written rs vs more (in_back us vs g))

before_written : (rs : List Role) (ts : List Tok) → Each (Before marks.Comma IsRole) rs ts → AreNamed ts
    → AllByRecursion IsName (map role_name rs)
before_written [] ts e h = tt
before_written (r ∷ rs) ts (us, vs, parts, (a, xs, e, one), more) h =
    let g = subst AreNamed parts h in
    let first = subst AreNamed e (in_front us vs g) in
    (role_written r xs one (in_front xs (marked a marks.Comma ∷ []) first), before_written rs vs more (in_back us vs g))

myself_written : (r : Role) (ts : List Tok) → IsMyself r ts → AreNamed ts → IsName r.name
myself_written r ts (inl (a, e)) h = let g = subst AreNamed e h in g.1.0
myself_written r ts (inr (a, b, e)) h = let g = subst AreNamed e h in g.1.1.0

all-append : (xs ys : List Role) → AllByRecursion IsName (map role_name xs) → AllByRecursion IsName (map role_name ys)
    → AllByRecursion IsName (map role_name (xs ++ ys))
all-append [] ys h g = g
all-append (x ∷ xs) ys h g = (h.0, all-append xs ys h.1 g)

pub listed_written : (rs : List Role) (ts : List Tok) → Listed marks.Comma IsRole rs ts → AreNamed ts →
    AllByRecursion IsName (map role_name rs)
listed_written [] ts e h = absurd e
listed_written (r ∷ rs) ts (us, vs, parts, one, more) h =
    let g = subst AreNamed parts h in
    (role_written r us one (in_front us vs g), behind_written rs vs more (in_back us vs g))

at_written : (me : Role) (rs : List Role) (ts : List Tok) → IsAtHeader me rs ts → AreNamed ts → AllByRecursion IsName (map role_name rs)
at_written me rs ts (a, b, c, us, e, h) named_all =
    let g = subst AreNamed e named_all in
    listed_written rs us h (in_front us (marked c marks.CloseParen ∷ []) g.1.1.1)

self_written : (me : Role) (rs : List Role) (ts : List Tok) → IsSelfHeader me rs ts → AreNamed ts → AllByRecursion IsName (map role_name rs)
self_written me rs ts (a, b, earlier, later, us, vs, ws, e, listed, before, self, behind) named_all =
    let g = subst AreNamed e named_all in
    let end : List Tok = marked b marks.CloseParen ∷ [] in
    let one = in_back us (vs ++ (ws ++ end)) g.1 in
    let two = in_back vs (ws ++ end) one in
    subst (λ (l : List Role). AllByRecursion IsName (map role_name l)) (sym listed)
    (all-append earlier (me ∷ later) (before_written earlier us before (in_front us (vs ++ (ws ++ end)) g.1))
    (myself_written me vs self (in_front vs (ws ++ end) one), behind_written later ws behind (in_front ws end two)))

-- ---- statements

module _ (declared : List Declaration) where
  pub between : (P : List Tok → Type 0) (ts : List Tok) → IsBraced P ts → AreNamed ts → (us : List Tok) × P us × AreNamed us
  between P ts (a, b, us, e, h) named_all = let g = subst AreNamed e named_all in (us, h, in_front us (marked b marks.CloseBrace ∷ []) g.1)

  has : (bs : Branches) (cs : List Note) (ts : List Tok) → AreBranches declared bs cs ts → HasBranches bs
  has NoBranch cs ts h = h
  has (Branch b more) cs ts h = tt

  mutual
    statements_written : (b : Statements) (cs : List Note) (ts : List Tok) → AreStatements declared b cs ts → AreNamed ts → AreWritten b
    statements_written Nothing cs ts e h = tt
    statements_written (Says m rest) cs ts (types, ds, us, vs, carry, parts, (a, b, c, d, e, xs, whole, list, kind), more) h =
        let g = subst AreNamed parts h in
        let said = subst AreNamed whole (in_front us vs g) in
        let behind = in_back xs (marked b marks.CloseParen ∷ marked c
        (direction_mark m.direction) ∷ named d m.peer ∷ marked e marks.Semicolon ∷ []) said.1.1 in
        (said.0, behind.1.1.0, statements_written rest ds vs more (in_back us vs g))
    statements_written (Choice place at branches rest) cs ts (a, b, ds, es, us, vs, carry, parts, inner, more) h =
        let g = subst AreNamed parts h in (
          g.1.1.0,
          has branches ds us inner,
          branches_written branches ds us inner
              (in_front us vs g.1.1.1),
          statements_written rest es vs more (in_back us vs g.1.1.1),
        )
    statements_written (Rec place name body rest) cs ts (a, ds, es, us, vs, carry, parts, (p, q, xs, e, inner), more) h =
        let g = subst AreNamed parts h in
        let block = subst AreNamed e (in_front us vs g.1.1) in (
          g.1.0,
          statements_written body ds xs inner
              (in_front xs (marked q marks.CloseBrace ∷ []) block.1),
          statements_written rest es vs more (in_back us vs g.1.1),
        )
    statements_written (Continue place name rest) cs ts (a, b, us, parts, more) h =
        let g = subst AreNamed parts h in
        (g.1.0, statements_written rest cs us more g.1.1.1)
    statements_written (Do place name rest) cs ts (a, b, c, d, roles, ds, us, vs, carry, parts, list, more) h =
        let g = subst AreNamed parts h in
        let behind = in_back us (marked c marks.CloseParen ∷ marked d marks.Semicolon ∷ vs) g.1.1.1 in
        (g.1.0, statements_written rest ds vs more behind.1.1)

    branches_written : (bs : Branches) (cs : List Note) (ts : List Tok) → AreBranches declared bs cs ts → AreNamed ts → AreWrittenIn bs
    branches_written NoBranch cs ts e h = tt
    branches_written (Branch b more) cs ts (ds, es, us, vs, carry, parts, (p, q, xs, e, inner), others) h =
        let g = subst AreNamed parts h in
        let block = subst AreNamed e (in_front us vs g) in (
          statements_written b ds xs inner (in_front xs (marked q marks.CloseBrace ∷ []) block.1),
          others_written more es vs others
              (in_back us vs g),
        )

    others_written : (bs : Branches) (cs : List Note) (ts : List Tok) → AreOthers declared bs cs ts → AreNamed ts → AreWrittenIn bs
    others_written NoBranch cs ts e h = tt
    others_written (Branch b more) cs ts (a, ds, es, us, vs, carry, parts, (p, q, xs, e, inner), others) h =
        let g = subst AreNamed parts h in
        let block = subst AreNamed e (in_front us vs g.1) in (
          statements_written b ds xs inner (in_front xs (marked q marks.CloseBrace ∷ []) block.1),
          others_written more es vs others
              (in_back us vs g.1),
        )

-- ---- the file

-- a protocol: its name, its roles, and its statements
part_written : (declared : List Declaration) (p : WrittenPart) (ts : List Tok) → IsLocal declared p ts → AreNamed ts
    → IsName p.name × AllByRecursion IsName (roles_in p) × AreWritten p.body
part_written declared p ts f h =
    let title = subst AreNamed f.tokens h in
    let rest = title.1.1.1 in
    let body = between declared (AreStatements declared p.body f.notes) f.block f.body (in_back f.header f.block rest) in
    (title.1.1.0, roles f.heads (in_front f.header f.block rest), statements_written declared p.body f.notes body.0 body.1 body.2)
  where
    roles : IsAtHeader p.me p.roles f.header ⊎ IsSelfHeader p.me p.roles f.header → AreNamed f.header
        → AllByRecursion IsName (map role_name p.roles)
    roles (inl a) k = at_written p.me p.roles f.header a k
    roles (inr b) k = self_written p.me p.roles f.header b k

parts_written : (declared : List Declaration) (ps : List WrittenPart) (ts : List Tok) → Each (IsLocal declared) ps ts → AreNamed ts
    → AllByRecursion IsShallow ps → AllByRecursion IsWrittenPart (map part_meant ps)
parts_written declared [] ts f h all = tt
parts_written declared (p ∷ ps) ts (us, vs, parts, one, more) h all =
    let g = subst AreNamed parts h in
    let r = part_written declared p us one (in_front us vs g) in
    (record { name = r.0; body = r.2; depth = all.0 }, parts_written declared ps vs more (in_back us vs g) all.1)

-- what a file spells can be written
pub can_be_written : (file : ℕ) (bytes : List ℕ) (w : WrittenTree) → Spells file bytes w → IsWritten (local_of w)
can_be_written file bytes w s =
    let f = s.spelled.spelled in
    let g = subst AreNamed f.tokens (tokens_named file s.tokens bytes s.separates.cut) in
    let protocols = in_back f.types (f.first ++ f.others) (in_back f.start (f.types ++ (f.first ++ f.others)) g) in
    let r = part_written w.types w.first f.first f.begins (in_front f.first f.others protocols) in
    record {
      name = r.0;
      roles = r.1;
      body = r.2;
      depth = s.spelled.shallow.0;
      others = parts_written w.types w.others f.others f.goes_on (in_back f.first f.others protocols) s.spelled.shallow.1;
    }
