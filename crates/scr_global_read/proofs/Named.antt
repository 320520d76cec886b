-- The names among the tokens of a file are names, so what they spell can be written.
use Rattle.std.proofs.Common.{◌≡◌, ◌≢◌, ◌≤◌, ℕ, suc, List, [], ◌∷◌, ◌++◌, map, length, refl, sym, ap, subst}
use Rattle.std.specs.List.{AllByRecursion}
use Rattle.mg_text.specs.Call.{Name}
use Rattle.mg_text.specs.declared.place.Place.{Place}
use Rattle.scr_tree.specs.Tok.{Tok, named, quoted, marked}
use Rattle.scr_tree.specs.declared.token.Mark.TheVariants as marks
use Rattle.scr_tree.specs.declared.written.Declaration.{Declaration}
use Rattle.scr_tree.specs.declared.written.Role.{Role}
use Rattle.scr_tree.specs.Words.{IsName}
use Rattle.scr_tree.specs.Written.{Carries, role_name}
use Rattle.scr_parse.specs.Grammar.{Listed, IsRole, IsBraced}
use Rattle.scr_read.proofs.Named.{AreNamed, in_front, in_back, tokens_named, listed_written}
use Rattle.scr_global.specs.Tree.{Statements, Nothing, Says, Choice, Rec, Continue, Branches, NoBranch, Branch}
use Rattle.scr_global_tree.specs.Valid.{IsWritten, AreWritten, AreWrittenIn, HasBranches}
use Rattle.scr_global_tree.specs.Written.{WrittenTree, global_of, role_place}
use Rattle.scr_global_parse.specs.Grammar.{IsHeader, IsMessage, AreStatements, AreBranches, AreOthers, IsFile}
use Rattle.scr_global_read.specs.Spelling.{Spells}

some_role : (rs : List Role) (ts : List Tok) → Listed marks.Comma IsRole rs ts → map role_name rs ≢ []
some_role [] ts h e = h
some_role (r ∷ rs) ts h e = cc

header_written : (rs : List Role) (ts : List Tok) → IsHeader rs ts → AreNamed ts → AllByRecursion IsName (map role_name rs)
header_written rs ts (a, b, us, e, h) named_all =
    let g = subst AreNamed e named_all in listed_written rs us h (in_front us (marked b marks.CloseParen ∷ []) g.1)

header_some : (rs : List Role) (ts : List Tok) → IsHeader rs ts → map role_name rs ≢ []
header_some rs ts (a, b, us, e, h) = some_role rs us h

-- ---- statements

module _ (declared : List Declaration) where
  between : (P : List Tok → Type 0) (ts : List Tok) → IsBraced P ts → AreNamed ts → (us : List Tok) × P us × AreNamed us
  between P ts (a, b, us, e, h) named_all = let g = subst AreNamed e named_all in (us, h, in_front us (marked b marks.CloseBrace ∷ []) g.1)

  has : (bs : Branches) (cs : List Carries) (ts : List Tok) → AreBranches declared bs cs ts → HasBranches bs
  has NoBranch cs ts h = h
  has (Branch b more) cs ts h = tt

  mutual
    statements_written : (b : Statements) (cs : List Carries) (ts : List Tok) → AreStatements declared b cs ts → AreNamed ts → AreWritten b
    statements_written Nothing cs ts e h = tt
    statements_written (Says m rest) cs ts (types, ds, us, vs, carry, parts, (a, b, c, d, e, f, s, xs, whole, list, kind), more) h =
        let g = subst AreNamed parts h in
        let said = subst AreNamed whole (in_front us vs g) in
        let behind = in_back xs (marked b marks.CloseParen ∷ marked c marks.From ∷ named d m.from ∷ marked e marks.To ∷ named f m.to ∷
        marked s marks.Semicolon ∷ []) said.1.1 in
        (said.0, behind.1.1.0, behind.1.1.1.1.0, statements_written rest ds vs more (in_back us vs g))
    statements_written (Choice place at branches rest) cs ts (a, b, ds, es, us, vs, carry, parts, inner, more) h =
        let g = subst AreNamed parts h in (
          g.1.1.0,
          has branches ds us inner,
          branches_written branches ds us inner (in_front us vs g.1.1.1),
          statements_written rest es vs more (in_back us vs g.1.1.1),
        )
    statements_written (Rec place name body rest) cs ts (a, ds, es, us, vs, carry, parts, (p, q, xs, e, inner), more) h =
        let g = subst AreNamed parts h in
        let block = subst AreNamed e (in_front us vs g.1.1) in (
          g.1.0,
          statements_written body ds xs inner (in_front xs (marked q marks.CloseBrace ∷ []) block.1),
          statements_written rest es vs more (in_back us vs g.1.1),
        )
    statements_written (Continue place name rest) cs ts (a, b, us, parts, more) h =
        let g = subst AreNamed parts h in
        (g.1.0, statements_written rest cs us more g.1.1.1)

    branches_written : (bs : Branches) (cs : List Carries) (ts : List Tok) → AreBranches declared bs cs ts → AreNamed ts → AreWrittenIn bs
    branches_written NoBranch cs ts e h = tt
    branches_written (Branch b more) cs ts (ds, es, us, vs, carry, parts, (p, q, xs, e, inner), others) h =
        let g = subst AreNamed parts h in
        let block = subst AreNamed e (in_front us vs g) in (
          statements_written b ds xs inner (in_front xs (marked q marks.CloseBrace ∷ []) block.1),
          others_written more es vs others (in_back us vs g),
        )

    others_written : (bs : Branches) (cs : List Carries) (ts : List Tok) → AreOthers declared bs cs ts → AreNamed ts → AreWrittenIn bs
    others_written NoBranch cs ts e h = tt
    others_written (Branch b more) cs ts (a, ds, es, us, vs, carry, parts, (p, q, xs, e, inner), others) h =
        let g = subst AreNamed parts h in
        let block = subst AreNamed e (in_front us vs g.1) in (
          statements_written b ds xs inner (in_front xs (marked q marks.CloseBrace ∷ []) block.1),
          others_written more es vs others (in_back us vs g.1),
        )

-- ---- the file

file_written : (w : WrittenTree) (ts : List Tok) → IsFile w ts → AreNamed ts → IsName w.name × AllByRecursion IsName (map role_name w.roles)
    × AreWritten w.body
file_written w ts f h =
    let g = subst AreNamed f.tokens h in
    let head : List Tok = marked f.global_at marks.Global ∷ marked f.protocol_at marks.Protocol ∷ named f.name_at w.name ∷
    (f.header ++ f.block) in
    let title = in_back f.types head (in_back f.start (f.types ++ head) g) in
    let rest = title.1.1.1 in
    let body = between w.types (AreStatements w.types w.body w.carries) f.block f.body (in_back f.header f.block rest) in (
      title.1.1.0,
      header_written w.roles f.header f.heads (in_front f.header f.block rest),
      statements_written w.types w.body w.carries
          body.0 body.1 body.2,
    )

-- what is made of each element of a list is as many
map_both : {A B C : Type 0} (f : A → B) (g : A → C) (xs : List A) → length (map f xs) ≡ length (map g xs)
map_both f g [] = refl
map_both f g (x ∷ xs) = ap suc (map_both f g xs)

-- what a file spells can be written
pub can_be_written : (file : ℕ) (bytes : List ℕ) (w : WrittenTree) → Spells file bytes w → IsWritten (global_of w)
can_be_written file bytes w s =
    let r = file_written w s.tokens s.spelled.spelled (tokens_named file s.tokens bytes s.separates.cut) in
    record {
      name = r.0;
      roles = r.1;
      some_role = header_some w.roles s.spelled.spelled.header s.spelled.spelled.heads;
      placed = map_both role_place role_name w.roles;
      body = r.2;
      depth =
          s.spelled.shallow;
    }
