-- Entries are read where the grammar spells them, and nowhere else.
use Rattle.std.proofs.Common.{◌≡◌, ◌<◌, List, [], ◌∷◌, ◌++◌, length, Bool, true, false, cond, Some, None, codes, refl, sym, ap, ◌∙◌, subst}
use Rattle.std.proofs.Common.{append_assoc, inl, inr}
use Rattle.std.specs.Str.{bytes_eq}
use Rattle.std.proofs.lemmas.Slice.Eq.{bytes_eq-Decides}
use Rattle.mg_text.specs.Call.{Name}
use Rattle.mg_text.specs.declared.place.Place.{Place}
use Rattle.mg_read.specs.Reader.{◌>>=◌}
use Rattle.mg_read.proofs.Steps.{bind_some, some_is, chosen, Takes}
use Rattle.mg_read.proofs.Lists.{IsExact}
use Rattle.ts_parse.specs.declared.token.Mark.TheVariants as marks
use Rattle.ts_parse.specs.declared.written.Naming.{Naming}
use Rattle.ts_parse.specs.Tok.{Tok, named, marked}
use Rattle.ts_parse.specs.Written.{WMethod, WEntry, offer, drop_end}
use Rattle.ts_parse.specs.Grammar.{Behind, Listed, IsMethod, IsEntry, IsLastComma, AreEntries}
use Rattle.ts_parse.specs.inner.Reading.{mark_at, name_at, is_at, is_more, behind_at, listed_at, method_at, is_drop, past_end, after_end}
use Rattle.ts_parse.specs.inner.Reading.{drop_at, offer_at, entry_at, after_comma, some_entries_at, entries_at}
use Rattle.ts_parse.proofs.Steps.{Anything, after, mark_is, name_is}
use Rattle.ts_parse.proofs.Lists.{behind_shorter, listed_sound, listed_complete}
use Rattle.ts_parse.proofs.Members.{method_sound, method_complete}

-- ---- `drop: end`

-- the word "drop" comes next
drop_word : (ts us : List Tok) (p : Place) (n : Name) → is_drop ts ≡ true → ts ≡ named p n ∷ us → n ≡ codes "drop"
drop_word ts us p n d e = go (is_at marks.Colon us) (ap is_drop (sym e) ∙ d) where
  go : (b : Bool) → cond b (bytes_eq n (codes "drop")) false ≡ true → n ≡ codes "drop"
  go true h = (bytes_eq-Decides n (codes "drop")).0 h
  go false h = absurd cc

past_end_is : (x : Naming × List Tok) (us : List Tok) → past_end x ≡ Some us → (x.0.text ≡ codes "end") × (x.1 ≡ us)
past_end_is x us e = go (bytes_eq x.0.text (codes "end")) refl e where
  go : (b : Bool) → bytes_eq x.0.text (codes "end") ≡ b → cond b (Some x.1) None ≡ Some us → (x.0.text ≡ codes "end") × (x.1 ≡ us)
  go true h e = ((bytes_eq-Decides x.0.text (codes "end")).0 h, some_is x.1 us e)
  go false h e = absurd cc

-- a word, at a place, in front of tokens
abbrev Word : Name → List Tok → List Tok → Type 0
Word text ts us = (p : Place) × (ts ≡ named p text ∷ us)

end_is : (ts us : List Tok) → after_end ts ≡ Some us → Word (codes "end") ts us
unfolding after_end
end_is ts us e =
    let n = bind_some (name_at ts) (λ name. past_end name) us e in
    let h = past_end_is n.0 us n.2 in (
      n.0.0.place,
      name_is ts n.0 n.1 ∙ ap (λ (t : Name). named n.0.0.place t ∷ n.0.1) h.0 ∙
          ap (λ (r : List Tok). named n.0.0.place (codes "end") ∷ r) h.1,
    )

drop_sound : (ts : List Tok) (x : WEntry × List Tok) → is_drop ts ≡ true → drop_at ts ≡ Some x → Takes (IsEntry x.0) ts x.1
unfolding drop_at
drop_sound ts x d e =
    let w = bind_some (name_at ts) _ x e in
    let c = bind_some (mark_at marks.Colon w.0.1) _ x w.2 in
    let r = bind_some (after_end c.0.1) _ x c.2 in
    let word = drop_word ts w.0.1 w.0.0.place w.0.0.text d (name_is ts w.0 w.1) in
    let end = end_is c.0.1 r.0 r.1 in
    subst (λ (y : WEntry × List Tok). Takes (IsEntry y.0) ts y.1) (some_is (drop_end w.0.0.place, r.0) x r.2)
    (record {
      front = named w.0.0.place (codes "drop") ∷ marked c.0.0 marks.Colon ∷ named end.0 (codes "end") ∷ [];
      parts = subst (λ (t : Name). ts ≡ named w.0.0.place t ∷ marked c.0.0 marks.Colon ∷ named end.0 (codes "end") ∷ r.0) word
          (after (name_is ts w.0 w.1) (after (mark_is marks.Colon w.0.1 c.0 c.1) end.1));
      holds = (c.0.0, end.0, refl);
    })

-- ---- one entry

entry_sound : (ts : List Tok) (x : WEntry × List Tok) → entry_at ts ≡ Some x → Takes (IsEntry x.0) ts x.1
unfolding entry_at offer_at
entry_sound ts x e =
    elim (chosen (is_drop ts) (drop_at ts) (method_at ts >>= λ method. Some (offer method.0, method.1)) (Some x) e) [
      | inl t ↦ drop_sound ts x t.0 t.1
      | inr f ↦
          let m = bind_some (method_at ts) (λ method. Some (offer method.0, method.1)) x f.1 in
          let t = method_sound ts m.0 m.1 in
          subst (λ (y : WEntry × List Tok). Takes (IsEntry y.0) ts y.1) (some_is (offer m.0.0, m.0.1) x m.2)
          (record { front = t.front; parts = t.parts; holds = t.holds })
    ]

-- a method has no colon behind its first word
offer_begins : (m : WMethod) (ts rest : List Tok) → IsMethod m ts → is_drop (ts ++ rest) ≡ false
offer_begins m ts rest (a, b, c, d, text, us, vs, e, type, p, t) = rw e refl

entry_complete : (e : WEntry) (ts rest : List Tok) → Anything rest → IsEntry e ts → entry_at (ts ++ rest) ≡ Some (e, rest)
unfolding entry_at offer_at drop_at after_end
entry_complete (offer m) ts rest fine h =
    let begins = offer_begins m ts rest h in
    let reads = method_complete m ts rest fine h in
    rw (begins, reads) refl
entry_complete (drop_end place) ts rest fine (a, b, e) = rw e refl

entry_exact : IsExact entry_at IsEntry Anything
entry_exact = record { sound = entry_sound; complete = entry_complete }

pub other_entry_shorter : (ts : List Tok) (x : WEntry) (us : List Tok) → behind_at marks.Comma entry_at ts ≡ Some (x, us) →
    length us < length ts
other_entry_shorter = behind_shorter marks.Comma entry_at IsEntry entry_exact

-- ---- the entries of a state

last_sound : (ts us : List Tok) → after_comma ts ≡ Some us → Takes IsLastComma ts us
unfolding after_comma
last_sound ts us e =
    elim (chosen (is_at marks.Comma ts) (mark_at marks.Comma ts >>= λ comma. Some comma.1) (Some ts) (Some us) e) [
      | inl t ↦
          let c = bind_some (mark_at marks.Comma ts) (λ comma. Some comma.1) us t.1 in
          subst (Takes IsLastComma ts) (some_is c.0.1 us c.2)
          (record { front = marked c.0.0 marks.Comma ∷ []; parts = mark_is marks.Comma ts c.0 c.1; holds = inr (c.0.0, refl) })
      | inr f ↦ subst (Takes IsLastComma ts) (some_is ts us f.1) (record { front = []; parts = refl; holds = inl refl })
    ]

last_complete : (ts rest : List Tok) (a : Place) → IsLastComma ts → after_comma (ts ++ marked a marks.CloseBrace ∷ rest) ≡ Some
    (marked a marks.CloseBrace ∷ rest)
unfolding after_comma
last_complete ts rest a (inl e) = rw e refl
last_complete ts rest a (inr (b, e)) = rw e refl

-- a last comma is followed by no entry
last_stops : (ts rest : List Tok) (a : Place) → IsLastComma ts → is_more (ts ++ marked a marks.CloseBrace ∷ rest) ≡ false
last_stops ts rest a (inl e) = rw e refl
last_stops ts rest a (inr (b, e)) = rw e refl

more_goes : (e : WEntry) (ts rest : List Tok) → Behind marks.Comma IsEntry e ts → is_more (ts ++ rest) ≡ true
more_goes (offer m) ts rest (x, ws, f, (a, b, c, d, text, us, vs, e, type, p, t)) = rw (f, e) refl
more_goes (drop_end place) ts rest (x, ws, f, (a, b, e)) = rw (f, e) refl

are_entries : (xs : List WEntry) (ts us vs : List Tok) → ts ≡ us ++ vs → Listed marks.Comma IsEntry xs us → IsLastComma vs →
    AreEntries xs ts
are_entries [] ts us vs e h l = absurd h
are_entries (x ∷ xs) ts us vs e h l = (us, vs, e, h, l)

some_entries_sound : (ts : List Tok) (x : List WEntry × List Tok) → some_entries_at ts ≡ Some x → Takes (AreEntries x.0) ts x.1
unfolding some_entries_at
some_entries_sound ts x e =
    let m = bind_some (listed_at marks.Comma is_more entry_at ts) _ x e in
    let c = bind_some (after_comma m.0.1) _ x m.2 in
    let l = listed_sound marks.Comma entry_at IsEntry entry_exact is_more ts m.0 m.1 in
    let last = last_sound m.0.1 c.0 c.1 in
    subst (λ (y : List WEntry × List Tok). Takes (AreEntries y.0) ts y.1) (some_is _ x c.2)
    (record {
      front = l.front ++ last.front;
      parts = l.parts ∙ ap (λ (r : List Tok). l.front ++ r) last.parts ∙ sym (append_assoc l.front last.front c.0);
      holds = are_entries m.0.0 (l.front ++ last.front) l.front last.front refl l.holds last.holds;
    })

pub entries_sound : (ts : List Tok) (x : List WEntry × List Tok) → entries_at ts ≡ Some x → Takes (AreEntries x.0) ts x.1
unfolding entries_at
entries_sound ts x e =
    elim (chosen (is_at marks.CloseBrace ts) (Some ([], ts)) (some_entries_at ts) (Some x) e) [
      | inl t ↦ subst (λ (y : List WEntry × List Tok). Takes (AreEntries y.0) ts y.1) (some_is ([], ts) x t.1)
          (record { front = []; parts = refl; holds = refl })
      | inr f ↦ some_entries_sound ts x f.1
    ]

-- entries begin with no brace
entries_begin : (e : WEntry) (es : List WEntry) (ts rest : List Tok) → Listed marks.Comma IsEntry (e ∷ es) ts →
    is_at marks.CloseBrace (ts ++ rest) ≡ false
entries_begin (offer m) es ts rest (ps, qs, f, (a, b, c, d, text, us, vs, e, type, p, t), g) = rw (f, e) refl
entries_begin (drop_end place) es ts rest (ps, qs, f, (a, b, e), g) = rw (f, e) refl

pub entries_complete : (xs : List WEntry) (ts rest : List Tok) (a : Place) → AreEntries xs ts →
    entries_at (ts ++ marked a marks.CloseBrace ∷ rest) ≡ Some (xs, marked a marks.CloseBrace ∷ rest)
unfolding entries_at some_entries_at
entries_complete [] ts rest a h = rw h refl
entries_complete (x ∷ xs) ts rest a (us, vs, e, h, l) =
    let end : List Tok = marked a marks.CloseBrace ∷ rest in
    let begins = entries_begin x xs us (vs ++ end) h in
    let reads = listed_complete marks.Comma entry_at IsEntry entry_exact is_more more_goes (x ∷ xs) us (vs ++ end) (last_stops vs rest a l)
    h in
    let last = last_complete vs rest a l in
    rw (e, append_assoc us vs end, begins, reads, last) refl
