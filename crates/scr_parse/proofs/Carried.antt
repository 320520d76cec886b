-- What is gathered from the tokens of a body is what its messages carry.
use Rattle.std.proofs.Common.{◌≡◌, List, [], ◌∷◌, ◌++◌, false, refl, ap, append_assoc}
use Rattle.mg_text.specs.Call.{Name}
use Rattle.mg_text.specs.declared.place.Place.{Place}
use Rattle.mg_read.proofs.Lists.{Each}
use Rattle.scr_tree.specs.Tok.{Tok, named, marked}
use Rattle.scr_tree.specs.declared.token.Mark.TheVariants as marks
use Rattle.scr_tree.specs.declared.syntax.Direction.{Direction}
use Rattle.scr_tree.specs.declared.syntax.Direction.TheVariants as directions
use Rattle.scr_tree.specs.declared.syntax.Message.{Message}
use Rattle.scr_tree.specs.declared.written.Declaration.{Declaration}
use Rattle.scr_tree.specs.Tree.{Statements, Nothing, Says, Choice, Rec, Continue, Do, Branches, NoBranch, Branch}
use Rattle.scr_tree.specs.Written.{Carries, Arguments}
use Rattle.scr_parse.specs.Grammar.{Behind, Listed, IsNaming, direction_mark, AreTypes, IsMessage, Note, carries, gives, carries_among}
use Rattle.scr_parse.specs.Grammar.{arguments_among, carried, given, IsBraced, AreStatements, AreBranches, AreOthers}
use Rattle.scr_parse.specs.inner.Reading.{is_at, names_up, carries_from, carries_in, arguments_in}

-- ---- the types of a message

others_up : (names : List Name) (us rest : List Tok) (b : Place) → Each (Behind marks.Comma IsNaming) names us
    → names_up (us ++ marked b marks.CloseParen ∷ rest) ≡ names
others_up [] us rest b h = rw h refl
others_up (n ∷ ns) us rest b (vs, ws, parts, (a, xs, e, (c, f)), more) = rw (parts, e, f)
    (ap (λ (l : List Name). n ∷ l) (others_up ns ws rest b more))

pub types_up : (names : List Name) (us rest : List Tok) (b : Place) → AreTypes names us
    → names_up (us ++ marked b marks.CloseParen ∷ rest) ≡ names
types_up [] us rest b h = rw h refl
types_up (n ∷ ns) us rest b (vs, ws, parts, (a, e), more) = rw (parts, e) (ap (λ (l : List Name). n ∷ l) (others_up ns ws rest b more))

-- none of them is the label of a message
others_quiet : (names : List Name) (us rest : List Tok) (b : Place) → Each (Behind marks.Comma IsNaming) names us
    → (carries_in (us ++ marked b marks.CloseParen ∷ rest) ≡ carries_in rest) ×
    (is_at marks.OpenParen (us ++ marked b marks.CloseParen ∷ rest) ≡ false)
others_quiet [] us rest b h = (rw h refl, rw h refl)
others_quiet (n ∷ ns) us rest b (vs, ws, parts, (a, xs, e, (c, f)), more) =
    let r = others_quiet ns ws rest b more in
    let stands = r.1 in
    (rw (parts, e, f, stands) r.0, rw (parts, e) refl)

pub types_quiet : (names : List Name) (us rest : List Tok) (b : Place) → AreTypes names us
    → carries_in (us ++ marked b marks.CloseParen ∷ rest) ≡ carries_in rest
types_quiet [] us rest b h = rw h refl
types_quiet (n ∷ ns) us rest b (vs, ws, parts, (a, e), more) =
    let r = others_quiet ns ws rest b more in
    let stands = r.1 in
    rw (parts, e, stands) r.0

-- none of them is a `do`
others_give_none : (names : List Name) (us rest : List Tok) (b : Place) → Each (Behind marks.Comma IsNaming) names us
    → arguments_in (us ++ marked b marks.CloseParen ∷ rest) ≡ arguments_in rest
others_give_none [] us rest b h = rw h refl
others_give_none (n ∷ ns) us rest b (vs, ws, parts, (a, xs, e, (c, f)), more) = rw (parts, e, f) (others_give_none ns ws rest b more)

pub types_give_none : (names : List Name) (us rest : List Tok) (b : Place) → AreTypes names us
    → arguments_in (us ++ marked b marks.CloseParen ∷ rest) ≡ arguments_in rest
types_give_none [] us rest b h = rw h refl
types_give_none (n ∷ ns) us rest b (vs, ws, parts, (a, e), more) = rw (parts, e) (others_give_none ns ws rest b more)

-- at least one name
types_listed : (names : List Name) (us : List Tok) → Listed marks.Comma IsNaming names us → AreTypes names us
types_listed [] us h = absurd h
types_listed (n ∷ ns) us h = h

-- ---- what is noted

carries_append : (ms ks : List Note) → carries_among (ms ++ ks) ≡ carries_among ms ++ carries_among ks
carries_append [] ks = refl
carries_append (carries c ∷ ms) ks = ap (λ (l : List Carries). c ∷ l) (carries_append ms ks)
carries_append (gives a ∷ ms) ks = carries_append ms ks

arguments_append : (ms ks : List Note) → arguments_among (ms ++ ks) ≡ arguments_among ms ++ arguments_among ks
arguments_append [] ks = refl
arguments_append (carries c ∷ ms) ks = arguments_append ms ks
arguments_append (gives a ∷ ms) ks = ap (λ (l : List Arguments). a ∷ l) (arguments_append ms ks)

-- what is gathered from tokens is this, in front of what is gathered from those behind
pub record Gathers (ns : List Note) (us rest : List Tok) : Type 0 where
  pub carried : carries_in (us ++ rest) ≡ carries_among ns ++ carries_in rest
  pub given : arguments_in (us ++ rest) ≡ arguments_among ns ++ arguments_in rest

-- ---- statements

-- a direction is no "do"
way_quiet : (d : Direction) (p : Place) (rest : List Tok) → carries_in (marked p (direction_mark d) ∷ rest) ≡ carries_in rest
way_quiet directions.To p rest = refl
way_quiet directions.From p rest = refl

way_gives_none : (d : Direction) (p : Place) (rest : List Tok) → arguments_in (marked p (direction_mark d) ∷ rest) ≡ arguments_in rest
way_gives_none directions.To p rest = refl
way_gives_none directions.From p rest = refl

module _ (declared : List Declaration) where
  message_carries : (m : Message) (types : List Name) (us rest : List Tok) → IsMessage declared m types us
      → carries_in (us ++ rest) ≡ carried m.place types ∷ carries_in rest
  message_carries m types us rest (a, b, c, d, e, vs, parts, h, kind) =
      let end : List Tok = marked c (direction_mark m.direction) ∷ named d m.peer ∷ marked e marks.Semicolon ∷ [] in
      let up = types_up types vs (end ++ rest) b h in
      let quiet = types_quiet types vs (end ++ rest) b h in
      let way = way_quiet m.direction c (named d m.peer ∷ marked e marks.Semicolon ∷ rest) in
      rw (parts, append_assoc vs (marked b marks.CloseParen ∷ end) rest, up, quiet, way) refl

  message_gives_none : (m : Message) (types : List Name) (us rest : List Tok) → IsMessage declared m types us
      → arguments_in (us ++ rest) ≡ arguments_in rest
  message_gives_none m types us rest (a, b, c, d, e, vs, parts, h, kind) =
      let end : List Tok = marked c (direction_mark m.direction) ∷ named d m.peer ∷ marked e marks.Semicolon ∷ [] in
      let quiet = types_give_none types vs (end ++ rest) b h in
      let way = way_gives_none m.direction c (named d m.peer ∷ marked e marks.Semicolon ∷ rest) in
      rw (parts, append_assoc vs (marked b marks.CloseParen ∷ end) rest, quiet, way) refl

  -- a block begins with no parenthesis
  braced_opens : (P : List Tok → Type 0) (us rest : List Tok) → IsBraced P us → is_at marks.OpenParen (us ++ rest) ≡ false
  braced_opens P us rest (a, b, vs, parts, h) = rw parts refl

  branches_open : (bs : Branches) (ns : List Note) (us rest : List Tok) → AreBranches declared bs ns us
      → is_at marks.OpenParen (us ++ rest) ≡ false
  branches_open NoBranch ns us rest h = absurd h
  branches_open (Branch b more) ns us rest (ms, ks, vs, ws, carry, parts, block, h) = rw (parts, append_assoc vs ws rest)
      (braced_opens (AreStatements declared b ms) vs (ws ++ rest) block)

  -- a parted row
  in_turn : (ns ms ks : List Note) (us vs rest : List Tok) → ns ≡ ms ++ ks → Gathers ms us (vs ++ rest) → Gathers ks vs rest
      → Gathers ns (us ++ vs) rest
  in_turn ns ms ks us vs rest e first second = record {
    carried = rw (
      append_assoc us vs rest,
      first.carried,
      second.carried,
      e,
      carries_append ms ks,
      append_assoc (carries_among ms) (carries_among ks) (carries_in rest),
    ) refl;
    given = rw (
      append_assoc us vs rest,
      first.given,
      second.given,
      e,
      arguments_append ms ks,
      append_assoc (arguments_among ms) (arguments_among ks) (arguments_in rest),
    ) refl;
  }

  -- what stands between braces
  block_by : (b : Statements) (ns : List Note) (us rest : List Tok)
      → ((vs after : List Tok) → AreStatements declared b ns vs → Gathers ns vs after)
      → IsBraced (AreStatements declared b ns) us → Gathers ns us rest
  block_by b ns us rest inner (p, q, vs, parts, h) =
      let g = inner vs (marked q marks.CloseBrace ∷ rest) h in record {
        carried = rw (parts, append_assoc vs (marked q marks.CloseBrace ∷ []) rest) g.carried;
        given = rw (parts, append_assoc vs (marked q marks.CloseBrace ∷ []) rest) g.given;
      }

  mutual
    statements_carry : (b : Statements) (ns : List Note) (us rest : List Tok) → AreStatements declared b ns us → Gathers ns us rest
    statements_carry Nothing ns us rest (e, f) = record { carried = rw (e, f) refl; given = rw (e, f) refl }
    statements_carry (Says m behind) ns us rest (types, ms, vs, ws, carry, parts, h, more) =
        let g = statements_carry behind ms ws rest more in record {
          carried = rw (parts, append_assoc vs ws rest, carry, message_carries m types vs (ws ++ rest) h)
              (ap (λ (l : List Carries). carried m.place types ∷ l) g.carried);
          given = rw (parts, append_assoc vs ws rest, carry, message_gives_none m types vs (ws ++ rest) h) g.given;
        }
    statements_carry (Choice place at branches behind) ns us rest (a, b, ms, ks, vs, ws, carry, parts, h, more) =
        let quiet = branches_open branches ms vs (ws ++ rest) h in
        let apart = append_assoc vs ws rest in
        let g = in_turn ns ms ks vs ws rest carry (branches_carry branches ms vs (ws ++ rest) h) (statements_carry behind ks ws rest more)
        in
        record { carried = rw parts (rw (apart, quiet) (rw (← apart) g.carried)); given = rw parts g.given }
    statements_carry (Rec place name body behind) ns us rest (a, ms, ks, vs, ws, carry, parts, h, more) =
        let quiet = braced_opens (AreStatements declared body ms) vs (ws ++ rest) h in
        let apart = append_assoc vs ws rest in
        let g = in_turn ns ms ks vs ws rest carry (block_by body ms vs (ws ++ rest) (statements_carry body ms) h)
        (statements_carry behind ks ws rest more) in
        record { carried = rw parts (rw (apart, quiet) (rw (← apart) g.carried)); given = rw parts g.given }
    statements_carry (Continue place name behind) ns us rest (a, b, ws, parts, more) =
        let g = statements_carry behind ns ws rest more in record { carried = rw parts g.carried; given = rw parts g.given }
    statements_carry (Do place name behind) ns us rest (a, b, c, d, roles, ms, vs, ws, carry, parts, h, more) =
        let g = statements_carry behind ms ws rest more in
        let types = types_listed roles vs h in
        let end : List Tok = marked d marks.Semicolon ∷ ws in
        let up = types_up roles vs (end ++ rest) c types in
        let quiet = types_quiet roles vs (end ++ rest) c types in
        let none = types_give_none roles vs (end ++ rest) c types in
        let apart = append_assoc vs (marked c marks.CloseParen ∷ end) rest in record {
          carried = rw (parts, apart, carry, quiet) g.carried;
          given = rw (parts, apart, carry, up, none) (ap (λ (l : List Arguments). given place name roles ∷ l) g.given);
        }

    branches_carry : (bs : Branches) (ns : List Note) (us rest : List Tok) → AreBranches declared bs ns us → Gathers ns us rest
    branches_carry NoBranch ns us rest h = absurd h
    branches_carry (Branch b more) ns us rest (ms, ks, vs, ws, carry, parts, block, h) =
        let g = in_turn ns ms ks vs ws rest carry (block_by b ms vs (ws ++ rest) (statements_carry b ms) block)
        (others_carry more ks ws rest h) in
        record { carried = rw parts g.carried; given = rw parts g.given }

    others_carry : (bs : Branches) (ns : List Note) (us rest : List Tok) → AreOthers declared bs ns us → Gathers ns us rest
    others_carry NoBranch ns us rest (e, f) = record { carried = rw (e, f) refl; given = rw (e, f) refl }
    others_carry (Branch b more) ns us rest (a, ms, ks, vs, ws, carry, parts, block, h) =
        let g = in_turn ns ms ks vs ws rest carry (block_by b ms vs (ws ++ rest) (statements_carry b ms) block)
        (others_carry more ks ws rest h) in
        record { carried = rw parts g.carried; given = rw parts g.given }

  -- what is gathered from a block alone
  pub block_gathers : (b : Statements) (ns : List Note) (us : List Tok) → IsBraced (AreStatements declared b ns) us → Gathers ns us []
  block_gathers b ns us h = block_by b ns us [] (statements_carry b ns) h
