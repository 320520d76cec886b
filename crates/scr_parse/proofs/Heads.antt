-- The header is read where the grammar spells it, and nowhere else.
use Rattle.std.proofs.Common.{◌≡◌, ◌⊎◌, ◌<◌, List, [], ◌∷◌, ◌++◌, length, true, false, Some, refl, sym, ap, ◌∙◌, subst, append_assoc, arith}
use Rattle.std.proofs.Common.{inl, inr}
use Rattle.mg_text.specs.declared.place.Place.{Place}
use Rattle.mg_read.specs.Reader.{◌>>=◌}
use Rattle.mg_read.proofs.Steps.{bind_some, some_is, chosen, Takes}
use Rattle.mg_read.proofs.Lists.{IsExact, Starts, all_sound, all_complete}
use Rattle.scr_tree.specs.Tok.{Tok, named, marked}
use Rattle.scr_tree.specs.declared.token.Mark.TheVariants as marks
use Rattle.scr_tree.specs.declared.written.Role.{Role}
use Rattle.scr_parse.specs.Grammar.{Behind, Before, Listed, IsRole, IsMyself, IsAtHeader, IsSelfHeader}
use Rattle.scr_parse.specs.inner.Reading.{mark_at, name_at, is_at, role_at, earlier_role_at, other_role_at, more_roles_at, roles_at}
use Rattle.scr_parse.specs.inner.Reading.{is_other_role, earlier_roles_at, self_at, myself_at, at_header_at, self_header_at, header_at}
use Rattle.scr_parse.proofs.Steps.{Anything, after, mark_is, name_is}
use Rattle.mg_read.proofs.Turns.{front_sound, front_complete, shorter}

-- ---- one role

role_sound : (ts : List Tok) (x : Role × List Tok) → role_at ts ≡ Some x → Takes (IsRole x.0) ts x.1
unfolding role_at
role_sound ts x e =
    let s = bind_some (mark_at marks.Role ts) _ x e in
    let n = bind_some (name_at s.0.1) _ x s.2 in
    subst (λ (y : Role × List Tok). Takes (IsRole y.0) ts y.1) (some_is _ x n.2)
    (record {
      front = marked s.0.0 marks.Role ∷ named n.0.0.0 n.0.0.1 ∷ [];
      parts = after (mark_is marks.Role ts s.0 s.1) (name_is s.0.1 n.0 n.1);
      holds = (s.0.0, refl);
    })

role_complete : (r : Role) (ts rest : List Tok) → IsRole r ts → role_at (ts ++ rest) ≡ Some (r, rest)
unfolding role_at
role_complete r ts rest (a, e) = rw e refl

-- ---- "," role

abbrev OtherOf : Role → List Tok → Type 0
OtherOf = Behind marks.Comma IsRole

other_sound : (ts : List Tok) (x : Role × List Tok) → other_role_at ts ≡ Some x → Takes (OtherOf x.0) ts x.1
unfolding other_role_at
other_sound ts x e =
    let s = bind_some (mark_at marks.Comma ts) _ x e in
    let one = role_sound s.0.1 x s.2 in
    record {
      front = marked s.0.0 marks.Comma ∷ one.front;
      parts = after (mark_is marks.Comma ts s.0 s.1) one.parts;
      holds = (s.0.0, one.front, refl, one.holds);
    }

other_complete : (r : Role) (ts rest : List Tok) → Anything rest → OtherOf r ts → other_role_at (ts ++ rest) ≡ Some (r, rest)
unfolding other_role_at
other_complete r ts rest fine (a, us, e, h) = rw (e, role_complete r us rest h) refl

other_exact : IsExact other_role_at OtherOf Anything
other_exact = record { sound = other_sound; complete = other_complete }

other_goes : (r : Role) (ts rest : List Tok) → OtherOf r ts → is_at marks.Comma (ts ++ rest) ≡ true
other_goes r ts rest (a, us, e, h) = rw e refl

other_nonempty : (r : Role) (ts : List Tok) → OtherOf r ts → 0 < length ts
other_nonempty r ts (a, us, e, h) = rw e (omega arith)

other_starts : Starts (is_at marks.Comma) OtherOf Anything
other_starts = record { follows = λ x ts rest h. tt; goes = other_goes; nonempty = other_nonempty }

pub other_role_shorter : (ts : List Tok) (x : Role) (us : List Tok) → other_role_at ts ≡ Some (x, us) → length us < length ts
other_role_shorter = shorter other_role_at OtherOf Anything other_exact other_nonempty

-- ---- role { "," role }

pub roles_sound : (ts : List Tok) (x : List Role × List Tok) → roles_at ts ≡ Some x → Takes (Listed marks.Comma IsRole x.0) ts x.1
unfolding roles_at
roles_sound ts x e =
    let s = bind_some (role_at ts) _ x e in
    let more = front_sound (is_at marks.Comma) other_role_at OtherOf Anything other_exact (s.0.0 ∷ []) s.0.1 x s.2 in
    let one = role_sound ts s.0 s.1 in
    record {
      front = one.front ++ more.2.front;
      parts = one.parts ∙ ap (λ (r : List Tok). one.front ++ r) more.2.parts ∙ sym (append_assoc one.front more.2.front x.1);
      holds = subst (λ (l : List Role). Listed marks.Comma IsRole l (one.front ++ more.2.front)) (sym more.1)
          (one.front, more.2.front, refl, one.holds, more.2.holds);
    }

pub roles_complete : (rs : List Role) (ts rest : List Tok) → is_at marks.Comma rest ≡ false → Listed marks.Comma IsRole rs ts
    → roles_at (ts ++ rest) ≡ Some (rs, rest)
unfolding roles_at
roles_complete [] ts rest stops h = absurd h
roles_complete (r ∷ rs) ts rest stops (us, vs, e, one, h) =
    let first = role_complete r us (vs ++ rest) one in
    let more = front_complete (is_at marks.Comma) other_role_at OtherOf Anything other_exact other_starts (r ∷ []) rs vs rest tt stops h in
    rw (e, append_assoc us vs rest, first, more) refl

-- ---- role ","

abbrev EarlierOf : Role → List Tok → Type 0
EarlierOf = Before marks.Comma IsRole

earlier_sound : (ts : List Tok) (x : Role × List Tok) → earlier_role_at ts ≡ Some x → Takes (EarlierOf x.0) ts x.1
unfolding earlier_role_at
earlier_sound ts x e =
    let s = bind_some (role_at ts) _ x e in
    let d = bind_some (mark_at marks.Comma s.0.1) _ x s.2 in
    let one = role_sound ts s.0 s.1 in
    let end : List Tok = marked d.0.0 marks.Comma ∷ [] in
    subst (λ (y : Role × List Tok). Takes (EarlierOf y.0) ts y.1) (some_is _ x d.2)
    (record {
      front = one.front ++ end;
      parts = one.parts ∙ ap (λ (r : List Tok). one.front ++ r) (mark_is marks.Comma s.0.1 d.0 d.1) ∙ sym
          (append_assoc one.front end d.0.1);
      holds = (d.0.0, one.front, refl, one.holds);
    })

earlier_complete : (r : Role) (ts rest : List Tok) → Anything rest → EarlierOf r ts → earlier_role_at (ts ++ rest) ≡ Some (r, rest)
unfolding earlier_role_at
earlier_complete r ts rest fine (a, us, e, h) =
    let first = role_complete r us (marked a marks.Comma ∷ rest) h in
    rw (e, append_assoc us (marked a marks.Comma ∷ []) rest, first) refl

earlier_exact : IsExact earlier_role_at EarlierOf Anything
earlier_exact = record { sound = earlier_sound; complete = earlier_complete }

earlier_goes : (r : Role) (ts rest : List Tok) → EarlierOf r ts → is_other_role (ts ++ rest) ≡ true
earlier_goes r ts rest (a, us, e, (b, f)) = rw (e, f) refl

earlier_nonempty : (r : Role) (ts : List Tok) → EarlierOf r ts → 0 < length ts
earlier_nonempty r ts (a, us, e, (b, f)) = rw (e, f) (omega arith)

earlier_starts : Starts is_other_role EarlierOf Anything
earlier_starts = record { follows = λ x ts rest h. tt; goes = earlier_goes; nonempty = earlier_nonempty }

pub earlier_role_shorter : (ts : List Tok) (x : Role) (us : List Tok) → earlier_role_at ts ≡ Some (x, us) → length us < length ts
earlier_role_shorter = shorter earlier_role_at EarlierOf Anything earlier_exact earlier_nonempty

-- ---- the role itself

abbrev SelfOf : Role → List Tok → Type 0
SelfOf r ts = (a : Place) × (ts ≡ marked a marks.Myself ∷ named r.place r.name ∷ [])

self_sound : (ts : List Tok) (x : Role × List Tok) → self_at ts ≡ Some x → Takes (SelfOf x.0) ts x.1
unfolding self_at
self_sound ts x e =
    let s = bind_some (mark_at marks.Myself ts) _ x e in
    let n = bind_some (name_at s.0.1) _ x s.2 in
    subst (λ (y : Role × List Tok). Takes (SelfOf y.0) ts y.1) (some_is _ x n.2)
    (record {
      front = marked s.0.0 marks.Myself ∷ named n.0.0.0 n.0.0.1 ∷ [];
      parts = after (mark_is marks.Myself ts s.0 s.1) (name_is s.0.1 n.0 n.1);
      holds = (s.0.0, refl);
    })

myself_sound : (ts : List Tok) (x : Role × List Tok) → myself_at ts ≡ Some x → Takes (IsMyself x.0) ts x.1
unfolding myself_at
myself_sound ts x e =
    elim (chosen (is_at marks.Role ts) (mark_at marks.Role ts >>= λ start. self_at start.1) (self_at ts) (Some x) e) [
      | inl t ↦
          let s = bind_some (mark_at marks.Role ts) (λ start. self_at start.1) x t.1 in
          let one = self_sound s.0.1 x s.2 in
          record {
            front = marked s.0.0 marks.Role ∷ one.front;
            parts = after (mark_is marks.Role ts s.0 s.1) one.parts;
            holds = inr (s.0.0, one.holds.0, ap (λ (r : List Tok). marked s.0.0 marks.Role ∷ r) one.holds.1);
          }
      | inr f ↦ let one = self_sound ts x f.1 in record { front = one.front; parts = one.parts; holds = inl one.holds }
    ]

myself_complete : (r : Role) (ts rest : List Tok) → IsMyself r ts → myself_at (ts ++ rest) ≡ Some (r, rest)
unfolding myself_at self_at
myself_complete r ts rest (inl (a, e)) = rw e refl
myself_complete r ts rest (inr (a, b, e)) = rw e refl

-- where the role itself comes next, no other role does
myself_stops : (r : Role) (ts rest : List Tok) → IsMyself r ts → is_other_role (ts ++ rest) ≡ false
myself_stops r ts rest (inl (a, e)) = rw e refl
myself_stops r ts rest (inr (a, b, e)) = rw e refl

-- ---- the header

abbrev pub HeaderOf : Role × List Role → List Tok → Type 0
HeaderOf x ts = IsAtHeader x.0 x.1 ts ⊎ IsSelfHeader x.0 x.1 ts

at_header_sound : (ts : List Tok) (x : (Role × List Role) × List Tok) → at_header_at ts ≡ Some x
    → Takes (λ us. IsAtHeader x.0.0 x.0.1 us) ts x.1
unfolding at_header_at
at_header_sound ts x e =
    let s = bind_some (mark_at marks.At ts) _ x e in
    let n = bind_some (name_at s.0.1) _ x s.2 in
    let o = bind_some (mark_at marks.OpenParen n.0.1) _ x n.2 in
    let r = bind_some (roles_at o.0.1) _ x o.2 in
    let d = bind_some (mark_at marks.CloseParen r.0.1) _ x r.2 in
    let roles = roles_sound o.0.1 r.0 r.1 in
    let end : List Tok = marked d.0.0 marks.CloseParen ∷ [] in
    let inner : o.0.1 ≡ (roles.front ++ end) ++ d.0.1 =
    roles.parts ∙ ap (λ (z : List Tok). roles.front ++ z) (mark_is marks.CloseParen r.0.1 d.0 d.1) ∙ sym
    (append_assoc roles.front end d.0.1) in
    subst (λ (y : (Role × List Role) × List Tok). Takes (λ us. IsAtHeader y.0.0 y.0.1 us) ts y.1) (some_is _ x d.2)
    (record {
      front = marked s.0.0 marks.At ∷ named n.0.0.0 n.0.0.1 ∷ marked o.0.0 marks.OpenParen ∷ (roles.front ++ end);
      parts = after (mark_is marks.At ts s.0 s.1) (after (name_is s.0.1 n.0 n.1) (after (mark_is marks.OpenParen n.0.1 o.0 o.1) inner));
      holds = (s.0.0, o.0.0, d.0.0, roles.front, refl, roles.holds);
    })

self_parts : (us vs ws end rest s1 s2 s3 s4 : List Tok) → s1 ≡ us ++ s2 → s2 ≡ vs ++ s3 → s3 ≡ ws ++ s4 → s4 ≡ end ++ rest
    → s1 ≡ (us ++ (vs ++ (ws ++ end))) ++ rest
self_parts us vs ws end rest s1 s2 s3 s4 e1 e2 e3 e4 =
    rw (e1, e2, e3, e4, append_assoc us (vs ++ (ws ++ end)) rest, append_assoc vs (ws ++ end) rest, append_assoc ws end rest) refl

self_header_sound : (ts : List Tok) (x : (Role × List Role) × List Tok) → self_header_at ts ≡ Some x
    → Takes (λ us. IsSelfHeader x.0.0 x.0.1 us) ts x.1
unfolding self_header_at
self_header_sound ts x e =
    let o = bind_some (mark_at marks.OpenParen ts) _ x e in
    let k = bind_some (earlier_roles_at o.0.1) _ x o.2 in
    let m = bind_some (myself_at k.0.1) _ x k.2 in
    let r = bind_some (more_roles_at (k.0.0 ++ m.0.0 ∷ []) m.0.1) _ x m.2 in
    let d = bind_some (mark_at marks.CloseParen r.0.1) _ x r.2 in
    let earlier = all_sound is_other_role earlier_role_at EarlierOf Anything earlier_exact o.0.1 k.0 k.1 in
    let me = myself_sound k.0.1 m.0 m.1 in
    let more = front_sound (is_at marks.Comma) other_role_at OtherOf Anything other_exact (k.0.0 ++ m.0.0 ∷ []) m.0.1 r.0 r.1 in
    let end : List Tok = marked d.0.0 marks.CloseParen ∷ [] in
    let inner = self_parts earlier.front me.front more.2.front end d.0.1 o.0.1 k.0.1 m.0.1 r.0.1 earlier.parts me.parts more.2.parts
    (mark_is marks.CloseParen r.0.1 d.0 d.1) in
    let listed : r.0.0 ≡ k.0.0 ++ m.0.0 ∷ more.0 = more.1 ∙ append_assoc k.0.0 (m.0.0 ∷ []) more.0 in
    subst (λ (y : (Role × List Role) × List Tok). Takes (λ us. IsSelfHeader y.0.0 y.0.1 us) ts y.1) (some_is _ x d.2)
    (record {
      front = marked o.0.0 marks.OpenParen ∷ (earlier.front ++ (me.front ++ (more.2.front ++ end)));
      parts = after (mark_is marks.OpenParen ts o.0 o.1) inner;
      holds = (o.0.0, d.0.0, k.0.0, more.0, earlier.front, me.front, more.2.front, refl, listed, earlier.holds, me.holds, more.2.holds);
    })

pub header_sound : (ts : List Tok) (x : (Role × List Role) × List Tok) → header_at ts ≡ Some x → Takes (HeaderOf x.0) ts x.1
unfolding header_at
header_sound ts x e =
    elim (chosen (is_at marks.At ts) (at_header_at ts) (self_header_at ts) (Some x) e) [
      | inl t ↦ let one = at_header_sound ts x t.1 in record { front = one.front; parts = one.parts; holds = inl one.holds }
      | inr f ↦ let one = self_header_sound ts x f.1 in record { front = one.front; parts = one.parts; holds = inr one.holds }
    ]

pub header_complete : (x : Role × List Role) (ts rest : List Tok) → HeaderOf x ts → header_at (ts ++ rest) ≡ Some (x, rest)
unfolding header_at at_header_at self_header_at
header_complete x ts rest (inl (a, b, c, us, e, h)) =
    let reads = roles_complete x.1 us (marked c marks.CloseParen ∷ rest) refl h in
    rw (e, append_assoc us (marked c marks.CloseParen ∷ []) rest, reads) refl
header_complete x ts rest (inr (a, b, earlier, later, us, vs, ws, e, listed, before, me, behind)) =
    let end : List Tok = marked b marks.CloseParen ∷ [] in
    let first = all_complete is_other_role earlier_role_at EarlierOf Anything earlier_exact earlier_starts earlier us
    (vs ++ (ws ++ (end ++ rest))) tt
    (myself_stops x.0 vs (ws ++ (end ++ rest)) me) before in
    let self = myself_complete x.0 vs (ws ++ (end ++ rest)) me in
    let more = front_complete (is_at marks.Comma) other_role_at OtherOf Anything other_exact other_starts (earlier ++ x.0 ∷ []) later ws
    (end ++ rest) tt refl behind in
    let same : (earlier ++ x.0 ∷ []) ++ later ≡ x.1 = append_assoc earlier (x.0 ∷ []) later ∙ sym listed in
    rw (
      e,
      append_assoc us (vs ++ (ws ++ end)) rest,
      append_assoc vs
          (ws ++ end) rest,
      append_assoc ws end rest,
      first,
      self,
      more,
      same,
    ) refl
