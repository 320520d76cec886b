-- What is gathered from the tokens of a body is what its messages carry.
use Rattle.std.proofs.Common.{◌≡◌, List, [], ◌∷◌, ◌++◌, false, refl, ap, append_assoc}
use Rattle.mg_text.specs.Call.{Name}
use Rattle.mg_text.specs.declared.place.Place.{Place}
use Rattle.mg_read.proofs.Lists.{Each}
use Rattle.scr_tree.specs.Tok.{Tok, named, marked}
use Rattle.scr_tree.specs.declared.token.Mark.TheVariants as marks
use Rattle.scr_tree.specs.declared.written.Declaration.{Declaration}
use Rattle.scr_global.specs.Tree.{Told, Statements, Nothing, Says, Choice, Rec, Continue, Branches, NoBranch, Branch}
use Rattle.scr_tree.specs.Written.{Carries}
use Rattle.scr_parse.specs.Grammar.{carried, IsBraced}
use Rattle.scr_parse.specs.inner.Reading.{is_at, carries_in}
use Rattle.scr_parse.proofs.Carried.{types_up, types_quiet}
use Rattle.scr_global_parse.specs.Grammar.{IsMessage, AreStatements, AreBranches, AreOthers}

-- ---- statements

module _ (declared : List Declaration) where
  message_carries : (m : Told) (types : List Name) (us rest : List Tok) → IsMessage declared m types us
      → carries_in (us ++ rest) ≡ carried m.place types ∷ carries_in rest
  message_carries m types us rest (a, b, c, d, e, f, g, vs, parts, h, kind) =
      let end : List Tok = marked c marks.From ∷ named d m.from ∷ marked e marks.To ∷ named f m.to ∷ marked g marks.Semicolon ∷ [] in
      let up = types_up types vs (end ++ rest) b h in
      let quiet = types_quiet types vs (end ++ rest) b h in
      rw (parts, append_assoc vs (marked b marks.CloseParen ∷ end) rest, up, quiet) refl

  -- a block begins with no parenthesis
  braced_opens : (P : List Tok → Type 0) (us rest : List Tok) → IsBraced P us → is_at marks.OpenParen (us ++ rest) ≡ false
  braced_opens P us rest (a, b, vs, parts, h) = rw parts refl

  branches_open : (bs : Branches) (cs : List Carries) (us rest : List Tok) → AreBranches declared bs cs us
      → is_at marks.OpenParen (us ++ rest) ≡ false
  branches_open NoBranch cs us rest h = absurd h
  branches_open (Branch b more) cs us rest (ds, es, vs, ws, carry, parts, block, h) = rw (parts, append_assoc vs ws rest)
      (braced_opens (AreStatements declared b ds) vs (ws ++ rest) block)

  -- a parted row
  in_turn : (cs ds es : List Carries) (us vs rest : List Tok) → cs ≡ ds ++ es
      → carries_in (us ++ (vs ++ rest)) ≡ ds ++ carries_in (vs ++ rest)
      → carries_in (vs ++ rest) ≡ es ++ carries_in rest → carries_in ((us ++ vs) ++ rest) ≡ cs ++ carries_in rest
  in_turn cs ds es us vs rest e first second = rw (append_assoc us vs rest, first, second, e, append_assoc ds es (carries_in rest)) refl

  -- what stands between braces
  block_by : (b : Statements) (cs : List Carries) (us rest : List Tok)
      → ((vs after : List Tok) → AreStatements declared b cs vs → carries_in (vs ++ after) ≡ cs ++ carries_in after)
      → IsBraced (AreStatements declared b cs) us → carries_in (us ++ rest) ≡ cs ++ carries_in rest
  block_by b cs us rest inner (p, q, vs, parts, h) = rw (parts, append_assoc vs (marked q marks.CloseBrace ∷ []) rest)
      (inner vs (marked q marks.CloseBrace ∷ rest) h)

  mutual
    statements_carry : (b : Statements) (cs : List Carries) (us rest : List Tok) → AreStatements declared b cs us
        → carries_in (us ++ rest) ≡ cs ++ carries_in rest
    statements_carry Nothing cs us rest (e, f) = rw (e, f) refl
    statements_carry (Says m behind) cs us rest (types, ds, vs, ws, carry, parts, h, more) =
        rw (parts, append_assoc vs ws rest, carry, message_carries m types vs (ws ++ rest) h)
        (ap (λ (l : List Carries). carried m.place types ∷ l) (statements_carry behind ds ws rest more))
    statements_carry (Choice place at branches behind) cs us rest (a, b, ds, es, vs, ws, carry, parts, h, more) =
        let quiet = branches_open branches ds vs (ws ++ rest) h in
        let apart = append_assoc vs ws rest in
        rw parts (rw (apart, quiet) (rw (← apart) (in_turn cs ds es vs ws rest carry (branches_carry branches ds vs (ws ++ rest) h)
        (statements_carry behind es ws rest more))))
    statements_carry (Rec place name body behind) cs us rest (a, ds, es, vs, ws, carry, parts, h, more) =
        let quiet = braced_opens (AreStatements declared body ds) vs (ws ++ rest) h in
        let apart = append_assoc vs ws rest in
        rw parts (rw (apart, quiet) (rw (← apart) (in_turn cs ds es vs ws rest carry
        (block_by body ds vs (ws ++ rest) (statements_carry body ds) h) (statements_carry behind es ws rest more))))
    statements_carry (Continue place name behind) cs us rest (a, b, ws, parts, more) = rw parts (statements_carry behind cs ws rest more)

    branches_carry : (bs : Branches) (cs : List Carries) (us rest : List Tok) → AreBranches declared bs cs us
        → carries_in (us ++ rest) ≡ cs ++ carries_in rest
    branches_carry NoBranch cs us rest h = absurd h
    branches_carry (Branch b more) cs us rest (ds, es, vs, ws, carry, parts, block, h) =
        rw parts (in_turn cs ds es vs ws rest carry (block_by b ds vs (ws ++ rest) (statements_carry b ds) block)
        (others_carry more es ws rest h))

    others_carry : (bs : Branches) (cs : List Carries) (us rest : List Tok) → AreOthers declared bs cs us
        → carries_in (us ++ rest) ≡ cs ++ carries_in rest
    others_carry NoBranch cs us rest (e, f) = rw (e, f) refl
    others_carry (Branch b more) cs us rest (a, ds, es, vs, ws, carry, parts, block, h) =
        rw parts (in_turn cs ds es vs ws rest carry (block_by b ds vs (ws ++ rest) (statements_carry b ds) block)
        (others_carry more es ws rest h))

  pub block_carries : (b : Statements) (cs : List Carries) (us rest : List Tok) → IsBraced (AreStatements declared b cs) us
      → carries_in (us ++ rest) ≡ cs ++ carries_in rest
  block_carries b cs us rest = block_by b cs us rest (statements_carry b cs)
