-- A whole file is read where the grammar spells it, and nowhere else.
use Rattle.std.proofs.Common.{◌≡◌, ◌≤◌, ℕ, List, [], ◌∷◌, ◌++◌, false, Some, refl, sym, ap, ◌∙◌, subst, append-nil, append_assoc}
use Rattle.mg_text.specs.Call.{Name}
use Rattle.mg_text.specs.declared.place.Place.{Place}
use Rattle.mg_read.proofs.Steps.{bind_some, some_is, none_is_not, Takes}
use Rattle.mg_read.proofs.Lists.{Each, all_sound, all_complete}
use Rattle.scr_tree.specs.Tok.{Tok, named, marked}
use Rattle.scr_tree.specs.declared.token.Mark.TheVariants as marks
use Rattle.scr_tree.specs.declared.written.Declaration.{Declaration}
use Rattle.scr_global.specs.Tree.{Statements}
use Rattle.scr_global_tree.specs.Valid.{depth}
use Rattle.scr_tree.specs.Written.{Carries}
use Rattle.scr_global_tree.specs.Written.{WrittenTree}
use Rattle.scr_tree.specs.declared.written.Role.{Role}
use Rattle.scr_parse.specs.Grammar.{IsType, IsBraced}
use Rattle.scr_parse.specs.inner.Reading.{mark_at, name_at, is_at, after_module, type_at, types_at, roles_at, carries_in}
use Rattle.scr_global_parse.specs.Grammar.{IsHeader, AreStatements, IsSpelled}
use Rattle.scr_global_parse.specs.inner.View.{joined}
use Rattle.scr_parse.specs.inner.Reading.{block_with}
use Rattle.scr_global_parse.specs.inner.Reading.{if_last, title_at, header_at, statement_at, only_block_at, body_at, file_at}
use Rattle.scr_parse.proofs.Steps.{Anything, after, mark_is, name_is}
use Rattle.scr_parse.proofs.Names.{module_sound, module_complete, type_exact, type_starts}
use Rattle.scr_parse.proofs.Heads.{roles_sound, roles_complete}
use Rattle.scr_parse.proofs.Blocks.{BlockOf}
use Rattle.scr_global_parse.proofs.Nested.{Deep, blocks_exact, block_row, row_block, list_of, joined-list_of}
use Rattle.scr_global_parse.proofs.Carried.{block_carries}

-- ---- "global" "protocol" name

abbrev TitleOf : Name → List Tok → Type 0
TitleOf name ts = (a b c : Place) × (ts ≡ marked a marks.Global ∷ marked b marks.Protocol ∷ named c name ∷ [])

title_sound : (ts : List Tok) (x : Name × List Tok) → title_at ts ≡ Some x → Takes (TitleOf x.0) ts x.1
unfolding title_at
title_sound ts x e =
    let a = bind_some (mark_at marks.Global ts) _ x e in
    let b = bind_some (mark_at marks.Protocol a.0.1) _ x a.2 in
    let n = bind_some (name_at b.0.1) _ x b.2 in
    subst (λ (y : Name × List Tok). Takes (TitleOf y.0) ts y.1) (some_is _ x n.2)
    (record {
      front = marked a.0.0 marks.Global ∷ marked b.0.0 marks.Protocol ∷ named n.0.0.0 n.0.0.1 ∷ [];
      parts = after (mark_is marks.Global ts a.0 a.1) (after (mark_is marks.Protocol a.0.1 b.0 b.1) (name_is b.0.1 n.0 n.1));
      holds = (a.0.0, b.0.0, n.0.0.0, refl);
    })

-- ---- the header

header_sound : (ts : List Tok) (x : List Role × List Tok) → header_at ts ≡ Some x → Takes (IsHeader x.0) ts x.1
unfolding header_at
header_sound ts x e =
    let a = bind_some (mark_at marks.OpenParen ts) _ x e in
    let r = bind_some (roles_at a.0.1) _ x a.2 in
    let b = bind_some (mark_at marks.CloseParen r.0.1) _ x r.2 in
    let one = roles_sound a.0.1 r.0 r.1 in
    let end : List Tok = marked b.0.0 marks.CloseParen ∷ [] in
    let inner : a.0.1 ≡ (one.front ++ end) ++ b.0.1 =
    one.parts ∙ ap (λ (l : List Tok). one.front ++ l) (mark_is marks.CloseParen r.0.1 b.0 b.1) ∙ sym (append_assoc one.front end b.0.1) in
    subst (λ (y : List Role × List Tok). Takes (IsHeader y.0) ts y.1) (some_is _ x b.2)
    (record {
      front = marked a.0.0 marks.OpenParen ∷ (one.front ++ end);
      parts = after (mark_is marks.OpenParen ts a.0 a.1) inner;
      holds = (a.0.0, b.0.0, one.front, refl, one.holds);
    })

header_complete : (roles : List Role) (ts rest : List Tok) → IsHeader roles ts → header_at (ts ++ rest) ≡ Some (roles, rest)
unfolding header_at
header_complete roles ts rest (a, b, us, parts, h) =
    let inner = roles_complete roles us (marked b marks.CloseParen ∷ rest) refl h in
    rw (parts, append_assoc us (marked b marks.CloseParen ∷ []) rest, inner) refl

-- ---- the body, and what its messages carry

pub record IsBody (declared : List Declaration) (body : Statements) (cs : List Carries) (ts : List Tok) : Type 0 where
  pub block : IsBraced (AreStatements declared body cs) ts
  pub shallow : depth body ≤ 200

whole_carries : (declared : List Declaration) (body : Statements) (cs : List Carries) (ts : List Tok)
    → IsBraced (AreStatements declared body cs) ts → carries_in ts ≡ cs
whole_carries declared body cs ts h =
    ap carries_in (sym (append-nil ts)) ∙ block_carries declared body cs ts [] h ∙ append-nil cs

body_sound : (declared : List Declaration) (ts : List Tok) (x : Statements × List Carries) → body_at declared ts ≡ Some x
    → IsBody declared x.0 x.1 ts
unfolding body_at only_block_at
body_sound declared ts x e =
    let l = bind_some (only_block_at declared ts) _ x e in
    let b = bind_some (block_with (statement_at declared 200) ts) if_last l.0 l.1 in
    subst (λ (y : Statements × List Carries). IsBody declared y.0 y.1 ts) (some_is (joined l.0, carries_in ts) x l.2)
    (last b.0.0 b.0.1 l.0 ((blocks_exact declared 200).sound ts b.0 b.1) b.2)
  where
    last : (xs : List Statements) (rest : List Tok) (ys : List Statements) → Takes (BlockOf (Deep declared 200) xs) ts rest
        → if_last (xs, rest) ≡ Some ys → IsBody declared (joined ys) (carries_in ts) ts
    last xs [] ys t h =
        let whole : BlockOf (Deep declared 200) xs ts =
        subst (BlockOf (Deep declared 200) xs) (sym (t.parts ∙ append-nil t.front)) t.holds in
        let r = block_row declared 200 xs ts whole in
        let same : xs ≡ ys = some_is xs ys h in
        subst (λ (zs : List Statements). IsBody declared (joined zs) (carries_in ts) ts) same
        (record {
          block = subst (λ (cs : List Carries). IsBraced (AreStatements declared (joined xs) cs) ts)
              (sym (whole_carries declared (joined xs) r.0 ts r.1)) r.1;
          shallow = r.2;
        })
    last xs (t ∷ ts) ys u h = absurd (none_is_not ys h)

body_complete : (declared : List Declaration) (body : Statements) (cs : List Carries) (ts : List Tok) → IsBody declared body cs ts
    → body_at declared ts ≡ Some (body, cs)
unfolding body_at only_block_at
body_complete declared body cs ts h =
    let reads : block_with (statement_at declared 200) ts ≡ Some (list_of declared body, []) =
    ap (block_with (statement_at declared 200)) (sym (append-nil ts))
    ∙ (blocks_exact declared 200).complete (list_of declared body) ts [] tt (row_block declared 200 body cs ts h.block h.shallow) in
    rw (reads, joined-list_of declared body, whole_carries declared body cs ts h.block) refl

-- ---- the file

-- the number of a file is no part of its text
abbrev pub numbered : ℕ → WrittenTree → WrittenTree
numbered n w = record w { file = n }

pub renumber : (n : ℕ) (w : WrittenTree) (ts : List Tok) → IsSpelled w ts → IsSpelled (numbered n w) ts
renumber n w ts h =
    let s = h.spelled in
    record {
      spelled = record {
        start = s.start;
        types = s.types;
        header = s.header;
        block = s.block;
        global_at = s.global_at;
        protocol_at = s.protocol_at;
        name_at = s.name_at;
        tokens = s.tokens;
        starts = s.starts;
        declares = s.declares;
        heads = s.heads;
        body = s.body;
      };
      shallow = h.shallow;
    }

file_parts : (s t h ts r1 r2 r3 r4 : List Tok) (a b c : Tok) → ts ≡ s ++ r1 → r1 ≡ t ++ r2 → r2 ≡ a ∷ b ∷ c ∷ r3 → r3 ≡ h ++ r4
    → ts ≡ s ++ (t ++ a ∷ b ∷ c ∷ (h ++ r4))
file_parts s t h ts r1 r2 r3 r4 a b c e1 e2 e3 e4 = rw (e1, e2, e3, e4) refl

pub file_sound : (ts : List Tok) (w : WrittenTree) → file_at ts ≡ Some w → IsSpelled w ts
unfolding file_at
file_sound ts w e =
    let m = bind_some (after_module ts) _ w e in
    let t = bind_some (types_at m.0) _ w m.2 in
    let n = bind_some (title_at t.0.1) _ w t.2 in
    let h = bind_some (header_at n.0.1) _ w n.2 in
    let b = bind_some (body_at t.0.0 h.0.1) _ w h.2 in
    let start = module_sound ts m.0 m.1 in
    let types = all_sound (is_at marks.Type) type_at IsType Anything type_exact m.0 t.0 t.1 in
    let title = title_sound t.0.1 n.0 n.1 in
    let header = header_sound n.0.1 h.0 h.1 in
    let body = body_sound t.0.0 h.0.1 b.0 b.1 in
    let named_here : t.0.1 ≡ marked title.holds.0 marks.Global ∷ marked title.holds.1 marks.Protocol ∷ named title.holds.2 n.0.0 ∷ n.0.1 =
    title.parts ∙ ap (λ (r : List Tok). r ++ n.0.1) title.holds.3 in
    subst (λ (v : WrittenTree). IsSpelled v ts) (some_is _ w b.2)
    (record {
      spelled = record {
        start = start.front;
        types = types.front;
        header = header.front;
        block = h.0.1;
        global_at = title.holds.0;
        protocol_at = title.holds.1;
        name_at = title.holds.2;
        tokens = file_parts start.front types.front header.front ts m.0 t.0.1 n.0.1 h.0.1 _ _ _ start.parts types.parts named_here
            header.parts;
        starts = start.holds;
        declares = types.holds;
        heads = header.holds;
        body = body.block;
      };
      shallow = body.shallow;
    })

-- type declarations are no module line
pub types_stop : (ds : List Declaration) (us rest : List Tok) (a : Place) → Each IsType ds us
    → is_at marks.Module (us ++ marked a marks.Global ∷ rest) ≡ false
types_stop [] us rest a h = rw h refl
types_stop (d ∷ ds) us rest a (vs, ws, parts, (b, c, e, f, g, h, i, j, k, source, starts), more) = rw (parts, starts) refl

pub file_complete : (w : WrittenTree) (ts : List Tok) → IsSpelled w ts → file_at ts ≡ Some (numbered 0 w)
unfolding file_at title_at
file_complete w ts h =
    let s = h.spelled in
    let title : List Tok → List Tok = λ r. marked s.global_at marks.Global ∷ marked s.protocol_at marks.Protocol ∷ named s.name_at w.name ∷
    r in
    let head = title (s.header ++ s.block) in
    let start = module_complete s.start (s.types ++ head)
    (types_stop w.types s.types (marked s.protocol_at marks.Protocol ∷ named s.name_at w.name ∷
    (s.header ++ s.block)) s.global_at s.declares) s.starts in
    let types = all_complete (is_at marks.Type) type_at IsType Anything type_exact type_starts w.types s.types head tt refl s.declares in
    let header = header_complete w.roles s.header s.block s.heads in
    let body = body_complete w.types w.body w.carries s.block (record { block = s.body; shallow = h.shallow }) in
    rw (s.tokens, start, types, header, body) refl
