-- A whole file is read where the grammar spells it, and nowhere else.
use Rattle.std.proofs.Common.{◌≡◌, ◌<◌, ◌-◌, ◌==◌, ℕ, zero, suc, List, [], ◌∷◌, ◌++◌, length, take, Bool, true, false, Some, refl, sym}
use Rattle.std.proofs.Common.{ap, ◌∙◌, subst, append_assoc, append-nil, length-append, arith, true≢false, inl, inr}
use Rattle.std.specs.List.{AllByRecursion}
use Rattle.std.proofs.lemmas.Bool.Decides.{nat_tests}
use Rattle.mg_text.specs.Call.{Name}
use Rattle.mg_text.specs.declared.place.Place.{Place}
use Rattle.mg_read.specs.Reader.{Reader, ◌>>=◌, many, all_of}
use Rattle.mg_read.proofs.Steps.{bind_some, some_is, none_is_not, chosen, Takes}
use Rattle.mg_read.proofs.Lists.{Each, IsExact, Starts, all_sound, all_complete}
use Rattle.scr_tree.specs.Tok.{Tok, named, marked, toks}
use Rattle.scr_tree.specs.declared.token.Token.{Token}
use Rattle.scr_tree.specs.declared.token.Mark.TheVariants as marks
use Rattle.scr_tree.specs.declared.written.Declaration.{Declaration}
use Rattle.scr_tree.specs.Written.{WrittenPart, WrittenTree}
use Rattle.scr_parse.specs.Grammar.{IsType, carries_among, arguments_among, IsLocal, IsShallow, IsSpelled}
use Rattle.scr_parse.specs.inner.View.{joined}
use Rattle.scr_parse.specs.inner.Reading.{mark_at, name_at, is_at, after_module, type_at, types_at, title_at, header_at, block_with}
use Rattle.scr_parse.specs.inner.Reading.{statement_at, carries_in, arguments_in, up_to, part_at, is_more, file_at}
use Rattle.scr_parse.proofs.Steps.{Anything, after, mark_is, name_is}
use Rattle.mg_read.proofs.Turns.{shorter}
use Rattle.scr_parse.proofs.Names.{module_sound, module_complete, type_exact, type_starts}
use Rattle.scr_parse.proofs.Heads.{header_sound, header_complete}
use Rattle.scr_parse.proofs.Nested.{blocks_exact, block_row, row_block, list_of, joined-list_of}
use Rattle.scr_parse.proofs.Carried.{block_gathers}

-- ---- "local" "protocol" name

abbrev TitleOf : Place × Name → List Tok → Type 0
TitleOf title ts = (a b : Place) × (ts ≡ marked a marks.Local ∷ marked b marks.Protocol ∷ named title.0 title.1 ∷ [])

title_sound : (ts : List Tok) (x : (Place × Name) × List Tok) → title_at ts ≡ Some x → Takes (TitleOf x.0) ts x.1
unfolding title_at
title_sound ts x e =
    let a = bind_some (mark_at marks.Local ts) _ x e in
    let b = bind_some (mark_at marks.Protocol a.0.1) _ x a.2 in
    record {
      front = marked a.0.0 marks.Local ∷ marked b.0.0 marks.Protocol ∷ named x.0.0 x.0.1 ∷ [];
      parts = after (mark_is marks.Local ts a.0 a.1) (after (mark_is marks.Protocol a.0.1 b.0 b.1) (name_is b.0.1 x b.2));
      holds = (a.0.0, b.0.0, refl);
    }

-- ---- the tokens in front of those that are left

take_front : (us rest : List Tok) → take (length us) (us ++ rest) ≡ us
take_front [] rest = refl
take_front (u ∷ us) rest = ap (λ (l : List Tok). u ∷ l) (take_front us rest)

less_rest : (us rest : List Tok) → length (us ++ rest) - length rest ≡ length us
less_rest us rest = omega (arith, length-append us rest)

up_to_is : (us rest : List Tok) → up_to (us ++ rest) rest ≡ us
up_to_is us rest = ap (λ (n : ℕ). take n (us ++ rest)) (less_rest us rest) ∙ take_front us rest

-- ---- a protocol

-- a protocol, whose statements stand at most 200 deep one inside another
abbrev pub PartOf : List Declaration → WrittenPart → List Tok → Type 0
PartOf declared p ts = IsLocal declared p ts × IsShallow p

part_parts : (t h b ts r1 r2 rest : List Tok) → ts ≡ t ++ r1 → r1 ≡ h ++ r2 → r2 ≡ b ++ rest → ts ≡ (t ++ (h ++ b)) ++ rest
part_parts t h b ts r1 r2 rest e1 e2 e3 = rw (e1, e2, e3, append_assoc t (h ++ b) rest, append_assoc h b rest) refl

module _ (declared : List Declaration) where
  part_sound : (ts : List Tok) (x : WrittenPart × List Tok) → part_at declared ts ≡ Some x → Takes (PartOf declared x.0) ts x.1
  unfolding part_at
  part_sound ts x e =
      let n = bind_some (title_at ts) _ x e in
      let h = bind_some (header_at n.0.1) _ x n.2 in
      let b = bind_some (block_with (statement_at declared 200) h.0.1) _ x h.2 in
      let title = title_sound ts n.0 n.1 in
      let header = header_sound n.0.1 h.0 h.1 in
      let block = (blocks_exact declared 200).sound h.0.1 b.0 b.1 in
      let row = block_row declared 200 b.0.0 block.front block.holds in
      let gathered = block_gathers declared (joined b.0.0) row.0 block.front row.1 in
      let cut : up_to h.0.1 b.0.1 ≡ block.front = ap (λ (us : List Tok). up_to us b.0.1) block.parts ∙ up_to_is block.front b.0.1 in
      subst (λ (y : WrittenPart × List Tok). Takes (PartOf declared y.0) ts y.1) (some_is _ x b.2)
      (record {
        front = title.front ++ (header.front ++ block.front);
        parts = part_parts title.front header.front block.front ts n.0.1 h.0.1 b.0.1 title.parts header.parts block.parts;
        holds = (
          record {
            header = header.front;
            block = block.front;
            notes = row.0;
            local_at = title.holds.0;
            protocol_at = title.holds.1;
            tokens = ap (λ (r : List Tok). r ++ (header.front ++ block.front)) title.holds.2;
            heads = header.holds;
            body = row.1;
            carries = ap carries_in (cut ∙ sym (append-nil block.front)) ∙ gathered.carried ∙ append-nil (carries_among row.0);
            arguments = ap arguments_in (cut ∙ sym (append-nil block.front)) ∙ gathered.given ∙ append-nil (arguments_among row.0);
          },
          row.2,
        );
      })

  part_complete : (p : WrittenPart) (ts rest : List Tok) → Anything rest → PartOf declared p ts → part_at declared (ts ++ rest)
      ≡ Some (p, rest)
  unfolding part_at title_at
  part_complete p ts rest fine (s, shallow) =
      let header = header_complete (p.me, p.roles) s.header (s.block ++ rest) s.heads in
      let block = (blocks_exact declared 200).complete (list_of declared p.body) s.block rest tt
      (row_block declared 200 p.body s.notes s.block s.body shallow) in
      let gathered = block_gathers declared p.body s.notes s.block s.body in
      let cut : up_to (s.block ++ rest) rest ≡ s.block = up_to_is s.block rest in
      let carried : carries_in (up_to (s.block ++ rest) rest) ≡ p.carries =
      ap carries_in (cut ∙ sym (append-nil s.block)) ∙ gathered.carried ∙ append-nil (carries_among s.notes) ∙ sym s.carries in
      let given : arguments_in (up_to (s.block ++ rest) rest) ≡ p.arguments =
      ap arguments_in (cut ∙ sym (append-nil s.block)) ∙ gathered.given ∙ append-nil (arguments_among s.notes) ∙ sym s.arguments in
      rw (s.tokens, append_assoc s.header s.block rest, header, block, joined-list_of declared p.body, carried, given) refl

  pub part_exact : IsExact (part_at declared) (PartOf declared) Anything
  part_exact = record { sound = part_sound; complete = part_complete }

  part_goes : (p : WrittenPart) (ts rest : List Tok) → PartOf declared p ts → is_more (ts ++ rest) ≡ true
  part_goes p ts rest (s, shallow) = rw s.tokens refl

  part_nonempty : (p : WrittenPart) (ts : List Tok) → PartOf declared p ts → 0 < length ts
  part_nonempty p ts (s, shallow) = rw s.tokens (omega arith)

  pub part_starts : Starts is_more (PartOf declared) Anything
  part_starts = record { follows = λ p ts rest h. tt; goes = part_goes; nonempty = part_nonempty }

  pub part_shorter : (ts : List Tok) (x : WrittenPart) (us : List Tok) → part_at declared ts ≡ Some (x, us) → length us < length ts
  part_shorter = shorter (part_at declared) (PartOf declared) Anything part_exact part_nonempty

  -- several of them
  each_local : (ps : List WrittenPart) (ts : List Tok) → Each (PartOf declared) ps ts → Each (IsLocal declared) ps ts
      × AllByRecursion IsShallow ps
  each_local [] ts h = (h, tt)
  each_local (p ∷ ps) ts (us, vs, parts, one, more) =
      let r = each_local ps vs more in ((us, vs, parts, one.0, r.0), (one.1, r.1))

  each_part : (ps : List WrittenPart) (ts : List Tok) → Each (IsLocal declared) ps ts → AllByRecursion IsShallow ps →
      Each (PartOf declared) ps ts
  each_part [] ts h all = h
  each_part (p ∷ ps) ts (us, vs, parts, one, more) all = (us, vs, parts, (one, all.0), each_part ps vs more all.1)

-- ---- where a loop ends

module _ {T A : Type 0} (go : List T → Bool) (f : Reader T A) where
  many_stops : (n : ℕ) (ts : List T) (x : List A × List T) → many go f n ts ≡ Some x → go x.1 ≡ false
  unfolding many
  many_stops zero ts x e = absurd (none_is_not x e)
  many_stops (suc n) ts x e =
      elim (chosen (go ts) (f ts >>= λ y. many go f n y.1 >>= λ ys. Some (y.0 ∷ ys.0, ys.1)) (Some ([], ts)) (Some x) e) [
        | inl t ↦
            let y = bind_some (f ts) (λ y. many go f n y.1 >>= λ ys. Some (y.0 ∷ ys.0, ys.1)) x t.1 in
            let ys = bind_some (many go f n y.0.1) (λ ys. Some (y.0.0 ∷ ys.0, ys.1)) x y.2 in
            subst (λ (z : List A × List T). go z.1 ≡ false) (some_is (y.0.0 ∷ ys.0.0, ys.0.1) x ys.2) (many_stops n y.0.1 ys.0 ys.1)
        | inr h ↦ subst (λ (z : List A × List T). go z.1 ≡ false) (some_is ([], ts) x h.1) h.0
      ]

  all_stops : (ts : List T) (x : List A × List T) → all_of go f ts ≡ Some x → go x.1 ≡ false
  unfolding all_of
  all_stops ts x e = many_stops (suc (length ts)) ts x e

positive : (n : ℕ) → false ≡ (suc n == 0)
positive n = grind (arith, nat_tests)

-- whether tokens are left, as the loop asks
pub more_goes : (b : Bool) (ts : List Token) → b ≡ (length ts == 0) → b ≡ false → is_more (toks ts) ≡ true
more_goes b [] e f = cc
more_goes b (t ∷ ts) e f = refl

pub more_stops : (b : Bool) (ts : List Token) → b ≡ (length ts == 0) → b ≡ true → is_more (toks ts) ≡ false
more_stops b [] e f = refl
more_stops b (t ∷ ts) e f = absurd (true≢false (sym f ∙ e ∙ sym (positive (length ts))))

-- ---- the file

-- the number of a file is no part of its text
abbrev pub numbered : ℕ → WrittenTree → WrittenTree
numbered n w = record w { file = n }

pub renumber : (n : ℕ) (w : WrittenTree) (ts : List Tok) → IsSpelled w ts → IsSpelled (numbered n w) ts
renumber n w ts h =
    let s = h.spelled in
    record {
      spelled = record {
        start = s.start;
        types = s.types;
        first = s.first;
        others = s.others;
        tokens = s.tokens;
        starts = s.starts;
        declares = s.declares;
        begins = s.begins;
        goes_on = s.goes_on;
      };
      shallow = h.shallow;
    }

-- behind the last protocol nothing is left
all_read : (declared : List Declaration) (ts : List Tok) (x : List WrittenPart × List Tok) → all_of is_more (part_at declared) ts ≡ Some x →
    x.1 ≡ []
all_read declared ts x e = nothing x.1 (all_stops is_more (part_at declared) ts x e)
  where
    nothing : (us : List Tok) → is_more us ≡ false → us ≡ []
    nothing [] h = refl
    nothing (u ∷ us) h = absurd (true≢false h)

file_parts : (s t f o ts r1 r2 r3 r4 : List Tok) → ts ≡ s ++ r1 → r1 ≡ t ++ r2 → r2 ≡ f ++ r3 → r3 ≡ o ++ r4 → r4 ≡ []
    → ts ≡ s ++ (t ++ (f ++ o))
file_parts s t f o ts r1 r2 r3 r4 e1 e2 e3 e4 e5 = rw (e1, e2, e3, e4, e5, append-nil o) refl

pub file_sound : (ts : List Tok) (w : WrittenTree) → file_at ts ≡ Some w → IsSpelled w ts
unfolding file_at
file_sound ts w e =
    let m = bind_some (after_module ts) _ w e in
    let t = bind_some (types_at m.0) _ w m.2 in
    let f = bind_some (part_at t.0.0 t.0.1) _ w t.2 in
    let o = bind_some (all_of is_more (part_at t.0.0) f.0.1) _ w f.2 in
    let start = module_sound ts m.0 m.1 in
    let types = all_sound (is_at marks.Type) type_at IsType Anything type_exact m.0 t.0 t.1 in
    let first = (part_exact t.0.0).sound t.0.1 f.0 f.1 in
    let others = all_sound is_more (part_at t.0.0) (PartOf t.0.0) Anything (part_exact t.0.0) f.0.1 o.0 o.1 in
    let each = each_local t.0.0 o.0.0 others.front others.holds in
    subst (λ (v : WrittenTree). IsSpelled v ts) (some_is _ w o.2)
    (record {
      spelled = record {
        start = start.front;
        types = types.front;
        first = first.front;
        others = others.front;
        tokens = file_parts start.front types.front first.front others.front ts m.0 t.0.1 f.0.1 o.0.1 start.parts types.parts first.parts
            others.parts
            (all_read t.0.0 f.0.1 o.0 o.1);
        starts = start.holds;
        declares = types.holds;
        begins = first.holds.0;
        goes_on = each.0;
      };
      shallow = (first.holds.1, each.1);
    })

-- type declarations are no module line
pub types_stop : (ds : List Declaration) (us rest : List Tok) (a : Place) → Each IsType ds us
    → is_at marks.Module (us ++ marked a marks.Local ∷ rest) ≡ false
types_stop [] us rest a h = rw h refl
types_stop (d ∷ ds) us rest a (vs, ws, parts, (b, c, e, f, g, h, i, j, k, source, starts), more) = rw (parts, starts) refl

pub file_complete : (w : WrittenTree) (ts : List Tok) → IsSpelled w ts → file_at ts ≡ Some (numbered 0 w)
unfolding file_at
file_complete w ts h =
    let s = h.spelled in
    let l = s.begins in
    let body : List Tok = s.first ++ s.others in
    let inside : List Tok = marked l.protocol_at marks.Protocol ∷ named w.first.place w.first.name ∷ ((l.header ++ l.block) ++ s.others) in
    let opens : body ≡ marked l.local_at marks.Local ∷ inside = ap (λ (r : List Tok). r ++ s.others) l.tokens in
    let start = module_complete s.start (s.types ++ body)
    (rw opens (types_stop w.types s.types inside l.local_at s.declares)) s.starts in
    let types = all_complete (is_at marks.Type) type_at IsType Anything type_exact type_starts w.types s.types body tt
    (rw opens refl) s.declares in
    let first = (part_exact w.types).complete w.first s.first s.others tt (s.begins, h.shallow.0) in
    let others = all_complete is_more (part_at w.types) (PartOf w.types) Anything (part_exact w.types) (part_starts w.types) w.others
    s.others [] tt refl
    (each_part w.types w.others s.others s.goes_on h.shallow.1) in
    let others_here : all_of is_more (part_at w.types) s.others ≡ Some (w.others, []) =
    ap (all_of is_more (part_at w.types)) (sym (append-nil s.others)) ∙ others in
    rw (s.tokens, start, types, first, others_here) refl
