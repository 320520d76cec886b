-- There is one reading.
use Rattle.std.proofs.Common.{◌≡◌, ℕ, zero, suc, ◌+◌, ◌-◌, ◌<◌, ◌≤◌, List, [], ◌∷◌, ◌++◌, length, get_or, take, drop, false, ◌==◌}
use Rattle.std.proofs.Common.{refl, sym, ap, ap₂, ◌∙◌, subst, subst₂, arith, append_assoc, append-nil, add-zero, zero-add, length-append}
use Rattle.std.proofs.lemmas.Bool.Decides.{nat_tests}
use Rattle.std.proofs.lemmas.List.{same_from_push}
use Rattle.std.specs.Str.{NonePass}
use Rattle.std.specs.Str.Parse.{digits_value}
use Rattle.memchr.specs.Find.{is_byte}
use Rattle.lsp_frames.specs.declared.lines.Said.{Said}
use Rattle.lsp_frames.specs.declared.lines.Said.TheVariants.{Empty, NoColon, Other, BadLength, Long}
use Rattle.lsp_frames.specs.declared.heads.Taken.{Taken}
use Rattle.lsp_frames.specs.Fields.{is_feed, is_colon, IsField, IsLengthName, Numbers, IsSaid, SaysSomething, Field, AreFields, spell, told, lengths}
use Rattle.lsp_frames.specs.Reading.{head_limit, Cut, wants, over, bare, line, IsCut, Stops, Ends, IsRead}
use Rattle.lsp_frames.proofs.Digits.{same_trim}

clash : (x k : ℕ) → k ≡ x → (x == k) ≡ false → ⊥
clash x k e h = grind (arith, nat_tests)

-- what stands before the first byte of this value, and behind it
pub same_cut : (k : ℕ) (l m a b : List ℕ) → NonePass (is_byte k) l → NonePass (is_byte k) m → l ++ (k ∷ a) ≡ m ++ (k ∷ b) → (l ≡ m) × (a ≡ b)
same_cut k [] [] a b p q h = (refl, ap (drop 1) h)
same_cut k [] (x ∷ m) a b p q h = absurd (clash x k (ap (λ (zs : List ℕ). get_or zs 0 0) h) q.0)
same_cut k (x ∷ l) [] a b p q h = absurd (clash x k (sym (ap (λ (zs : List ℕ). get_or zs 0 0) h)) p.0)
same_cut k (x ∷ l) (y ∷ m) a b p q h =
    let head : x ≡ y = ap (λ (zs : List ℕ). get_or zs 0 0) h in
    let rest = same_cut k l m a b p.1 q.1 (ap (drop 1) h) in
    (ap (λ z. z ∷ l) head ∙ ap (λ (zs : List ℕ). y ∷ zs) rest.0, rest.1)

pub no_cut : {A : Type 0} (k : ℕ) (bytes l a : List ℕ) → NonePass (is_byte k) bytes → bytes ≡ l ++ (k ∷ a) → A
no_cut k bytes l a none e = go l (subst (NonePass (is_byte k)) e none) where
  go : {A : Type 0} (l : List ℕ) → NonePass (is_byte k) (l ++ (k ∷ a)) → A
  go [] h = absurd (clash k k refl h.0)
  go (x ∷ l) h = go l h.1

no_cut_within : {A : Type 0} (room : ℕ) (front rest : List ℕ) → length front < room → NonePass (is_byte 10) (take room (front ++ 10 ∷ rest)) → A
no_cut_within zero front rest less h = absurd (omega arith)
no_cut_within (suc room) [] rest less h = absurd (clash 10 10 refl h.0)
no_cut_within (suc room) (x ∷ front) rest less h = no_cut_within room front rest (omega arith) h.1

-- a line with its carriage return
ended : (l rest bytes : List ℕ) → bytes ≡ l ++ (13 ∷ 10 ∷ rest) → bytes ≡ l ++ 13 ∷ [] ++ 10 ∷ rest
ended l rest bytes e = e ∙ sym (append_assoc l (13 ∷ []) (10 ∷ rest))

no_feed : (l : List ℕ) → NonePass (is_byte 10) l → NonePass (is_byte 10) (l ++ 13 ∷ [])
no_feed [] h = (refl, tt)
no_feed (x ∷ l) h = (h.0, no_feed l h.1)

one_longer : (l : List ℕ) → length (l ++ 13 ∷ []) ≡ length l + 1
one_longer l = length-append l (13 ∷ [])

wants_over : {A : Type 0} (room : ℕ) (bytes : List ℕ) → IsCut room bytes wants → IsCut room bytes over → A
wants_over room bytes p q = let short : length bytes < room = p.1 in let long : room ≤ length bytes = q.1 in absurd (omega arith)

wants_bare : {A : Type 0} (room : ℕ) (bytes : List ℕ) → IsCut room bytes wants → IsCut room bytes bare → A
wants_bare room bytes p (front, rest, e, plain, less, not) = no_cut 10 bytes front rest p.0 e

wants_line : {A : Type 0} (room : ℕ) (bytes l rest : List ℕ) → IsCut room bytes wants → IsCut room bytes (line l rest) → A
wants_line room bytes l rest p q = no_cut 10 bytes (l ++ 13 ∷ []) rest p.0 (ended l rest bytes q.0)

over_bare : {A : Type 0} (room : ℕ) (bytes : List ℕ) → IsCut room bytes over → IsCut room bytes bare → A
over_bare room bytes p (front, rest, e, plain, less, not) =
    no_cut_within room front rest less (subst (λ (zs : List ℕ). NonePass (is_byte 10) (take room zs)) e p.0)

over_line : {A : Type 0} (room : ℕ) (bytes l rest : List ℕ) → IsCut room bytes over → IsCut room bytes (line l rest) → A
over_line room bytes l rest p q =
    let fits : length l + 2 ≤ room = q.2 in
    no_cut_within room (l ++ 13 ∷ []) rest (omega (arith, one_longer l))
    (subst (λ (zs : List ℕ). NonePass (is_byte 10) (take room zs)) (ended l rest bytes q.0) p.0)

bare_line : {A : Type 0} (room : ℕ) (bytes l rest : List ℕ) → IsCut room bytes bare → IsCut room bytes (line l rest) → A
bare_line room bytes l rest (front, after, e, plain, less, not) q =
    let same = same_cut 10 front (l ++ 13 ∷ []) after rest plain (no_feed l q.1) (sym e ∙ ended l rest bytes q.0) in
    absurd (not l same.0)

cut_same : (room : ℕ) (bytes : List ℕ) (c d : Cut) → IsCut room bytes c → IsCut room bytes d → c ≡ d
cut_same room bytes wants wants p q = refl
cut_same room bytes wants over p q = wants_over room bytes p q
cut_same room bytes wants bare p q = wants_bare room bytes p q
cut_same room bytes wants (line l rest) p q = wants_line room bytes l rest p q
cut_same room bytes over wants p q = wants_over room bytes q p
cut_same room bytes over over p q = refl
cut_same room bytes over bare p q = over_bare room bytes p q
cut_same room bytes over (line l rest) p q = over_line room bytes l rest p q
cut_same room bytes bare wants p q = wants_bare room bytes q p
cut_same room bytes bare over p q = over_bare room bytes q p
cut_same room bytes bare bare p q = refl
cut_same room bytes bare (line l rest) p q = bare_line room bytes l rest p q
cut_same room bytes (line l rest) wants p q = wants_line room bytes l rest q p
cut_same room bytes (line l rest) over p q = over_line room bytes l rest q p
cut_same room bytes (line l rest) bare p q = bare_line room bytes l rest q p
cut_same room bytes (line l rest) (line m after) p q =
    let same = same_cut 10 (l ++ 13 ∷ []) (m ++ 13 ∷ []) rest after (no_feed l p.1) (no_feed m q.1)
    (sym (ended l rest bytes p.0) ∙ ended m after bytes q.0) in
    ap₂ line (same_from_push l m 13 13 same.0).0 same.1

-- what a line says
same_field : (bytes n v m w : List ℕ) → IsField bytes n v → IsField bytes m w → (n ≡ m) × (v ≡ w)
same_field bytes n v m w f g = same_cut 58 n m v w f.plain g.plain (sym f.spells ∙ g.spells)

empty_field : {A : Type 0} (bytes n v : List ℕ) → bytes ≡ [] → IsField bytes n v → A
empty_field bytes n v e f =
    let long : length bytes ≡ length n + length (58 ∷ v) = ap length f.spells ∙ length-append n (58 ∷ v) in
    let none : length bytes ≡ 0 = ap length e in
    let some : length (58 ∷ v) ≡ suc (length v) = refl in
    absurd (omega (arith, long, none, some))

plain_field : {A : Type 0} (bytes n v : List ℕ) → NonePass is_colon bytes → IsField bytes n v → A
plain_field bytes n v none f = no_cut 58 bytes n v none f.spells

empty_plain : {A : Type 0} (bytes : List ℕ) → bytes ≡ [] → 0 < length bytes → A
empty_plain bytes e less = let none : length bytes ≡ 0 = ap length e in absurd (omega (arith, none))

other_length : {A : Type 0} (bytes n v m w : List ℕ) → IsField bytes n v → ¬ IsLengthName n → IsField bytes m w → IsLengthName m → A
other_length bytes n v m w f not g is = absurd (not (subst IsLengthName (sym (same_field bytes n v m w f g).0) is))

bad_long : {A : Type 0} (limit k : ℕ) (bytes n v m w : List ℕ) → IsField bytes n v → ((j : ℕ) → ¬ Numbers limit v j) → IsField bytes m w →
    Numbers limit w k → A
bad_long limit k bytes n v m w f none g is =
    absurd (none k (subst (λ (zs : List ℕ). Numbers limit zs k) (sym (same_field bytes n v m w f g).1) is))

same_number : (limit : ℕ) (value : List ℕ) (n m : ℕ) → Numbers limit value n → Numbers limit value m → n ≡ m
same_number limit value n m a b = a.number ∙ ap (digits_value 10) (same_trim value a.digits b.digits a.trimmed b.trimmed) ∙ sym b.number

said_same : (limit : ℕ) (bytes : List ℕ) (s t : Said) → IsSaid limit bytes s → IsSaid limit bytes t → s ≡ t
said_same limit bytes Empty Empty p q = refl
said_same limit bytes Empty NoColon p q = empty_plain bytes p q.0
said_same limit bytes Empty Other p (n, v, f, x) = empty_field bytes n v p f
said_same limit bytes Empty BadLength p (n, v, f, x0, x1) = empty_field bytes n v p f
said_same limit bytes Empty (Long k) p (n, v, f, x0, x1) = empty_field bytes n v p f
said_same limit bytes NoColon Empty p q = empty_plain bytes q p.0
said_same limit bytes NoColon NoColon p q = refl
said_same limit bytes NoColon Other p (n, v, f, x) = plain_field bytes n v p.1 f
said_same limit bytes NoColon BadLength p (n, v, f, x0, x1) = plain_field bytes n v p.1 f
said_same limit bytes NoColon (Long k) p (n, v, f, x0, x1) = plain_field bytes n v p.1 f
said_same limit bytes Other Empty (n, v, f, x) q = empty_field bytes n v q f
said_same limit bytes Other NoColon (n, v, f, x) q = plain_field bytes n v q.1 f
said_same limit bytes Other Other p q = refl
said_same limit bytes Other BadLength (n, v, f, x) (m, w, g, y0, y1) = other_length bytes n v m w f x g y0
said_same limit bytes Other (Long k) (n, v, f, x) (m, w, g, y0, y1) = other_length bytes n v m w f x g y0
said_same limit bytes BadLength Empty (n, v, f, x0, x1) q = empty_field bytes n v q f
said_same limit bytes BadLength NoColon (n, v, f, x0, x1) q = plain_field bytes n v q.1 f
said_same limit bytes BadLength Other (n, v, f, x0, x1) (m, w, g, y) = other_length bytes m w n v g y f x0
said_same limit bytes BadLength BadLength p q = refl
said_same limit bytes BadLength (Long k) (n, v, f, x0, x1) (m, w, g, y0, y1) = bad_long limit k bytes n v m w f x1 g y1
said_same limit bytes (Long j) Empty (n, v, f, x0, x1) q = empty_field bytes n v q f
said_same limit bytes (Long j) NoColon (n, v, f, x0, x1) q = plain_field bytes n v q.1 f
said_same limit bytes (Long j) Other (n, v, f, x0, x1) (m, w, g, y) = other_length bytes m w n v g y f x0
said_same limit bytes (Long j) BadLength (n, v, f, x0, x1) (m, w, g, y0, y1) = bad_long limit j bytes m w n v g y1 f x1
said_same limit bytes (Long j) (Long k) (n, v, f, x0, x1) (m, w, g, y0, y1) =
    ap Long (same_number limit w j k (subst (λ (zs : List ℕ). Numbers limit zs j) (same_field bytes n v m w f g).1 x1) y1)

-- what stands at one place, read twice
stops_same : (at : ℕ) (ns rest : List ℕ) (s : Said) (t u : Taken) → Stops at ns rest s t → Stops at ns rest s u → t ≡ u
stops_same at [] rest Empty t u p q = p ∙ sym q
stops_same at (n ∷ ns) rest Empty t u p q = p ∙ sym q
stops_same at ns rest NoColon t u p q = p ∙ sym q
stops_same at ns rest Other t u p q = absurd p
stops_same at ns rest BadLength t u p q = p ∙ sym q
stops_same at ns rest (Long n) t u p q = p.1 ∙ sym q.1

ends_same : (limit at : ℕ) (ns : List ℕ) (c : Cut) (t u : Taken) → Ends limit at ns c t → Ends limit at ns c u → t ≡ u
ends_same limit at ns wants t u p q = p ∙ sym q
ends_same limit at ns over t u p q = p ∙ sym q
ends_same limit at ns bare t u p q = p ∙ sym q
ends_same limit at ns (line l rest) t u (r, is, p) (s, also, q) =
    stops_same at ns rest s t u (subst (λ (z : Said). Stops at ns rest z t) (said_same limit l r s is also) p) q

-- the walk over the fields, with the place and the lengths at each
abbrev Walks : ℕ → ℕ → List ℕ → List Field → List ℕ → Cut → Taken → Type 0
Walks limit at ns [] after cut taken = (length ns ≤ 1) × (at ≤ head_limit) × IsCut (head_limit - at) after cut × Ends limit at ns cut taken
Walks limit at ns (f ∷ fs) after cut taken =
    NonePass is_feed f.line × IsSaid limit f.line f.said × SaysSomething f.said
    × Walks limit (at + (length f.line + 2)) (ns ++ told f.said) fs after cut taken

to_walk : (limit at : ℕ) (ns : List ℕ) (fs : List Field) (after : List ℕ) (cut : Cut) (taken : Taken) → AreFields limit fs →
    length (ns ++ lengths fs) ≤ 1 → at + length (spell fs) ≤ head_limit → IsCut (head_limit - (at + length (spell fs))) after cut →
    Ends limit (at + length (spell fs)) (ns ++ lengths fs) cut taken → Walks limit at ns fs after cut taken
to_walk limit at ns [] after cut taken are one within cuts ends = (
  subst (λ (zs : List ℕ). length zs ≤ 1) (append-nil ns) one,
  subst (λ (z : ℕ). z ≤ head_limit) (add-zero at) within,
  subst (λ (z : ℕ). IsCut (head_limit - z) after cut) (add-zero at) cuts,
  subst₂ (λ (z : ℕ) (zs : List ℕ). Ends limit z zs cut taken) (add-zero at) (append-nil ns) ends,
)
to_walk limit at ns (f ∷ fs) after cut taken are one within cuts ends =
    let two : length (13 ∷ 10 ∷ spell fs) ≡ suc (suc (length (spell fs))) = refl in
    let further : length (f.line ++ (13 ∷ 10 ∷ spell fs)) ≡ length f.line + length (13 ∷ 10 ∷ spell fs) =
    length-append f.line (13 ∷ 10 ∷ spell fs) in
    let place : at + length (f.line ++ (13 ∷ 10 ∷ spell fs)) ≡ at + (length f.line + 2) + length (spell fs) = omega (arith, two, further) in
    let tell : ns ++ (told f.said ++ lengths fs) ≡ ns ++ told f.said ++ lengths fs = sym (append_assoc ns (told f.said) (lengths fs)) in (
      are.0,
      are.1,
      are.2,
      to_walk limit (at + (length f.line + 2)) (ns ++ told f.said) fs after cut taken are.3
          (subst (λ (zs : List ℕ). length zs ≤ 1) tell one) (subst (λ (z : ℕ). z ≤ head_limit) place within)
          (subst (λ (z : ℕ). IsCut (head_limit - z) after cut) place cuts)
          (subst₂ (λ (z : ℕ) (zs : List ℕ). Ends limit z zs cut taken) place tell ends),
    )

walk_within : (limit at : ℕ) (ns : List ℕ) (fs : List Field) (after : List ℕ) (cut : Cut) (taken : Taken) →
    Walks limit at ns fs after cut taken → at ≤ head_limit
walk_within limit at ns [] after cut taken w = w.1
walk_within limit at ns (f ∷ fs) after cut taken w =
    let more : at + (length f.line + 2) ≤ head_limit = walk_within limit (at + (length f.line + 2)) (ns ++ told f.said) fs after cut taken w.3 in
    omega arith

walk_one : (limit at : ℕ) (ns : List ℕ) (fs : List Field) (after : List ℕ) (cut : Cut) (taken : Taken) →
    Walks limit at ns fs after cut taken → length ns ≤ 1
walk_one limit at ns [] after cut taken w = w.0
walk_one limit at ns (f ∷ fs) after cut taken w =
    let more : length (ns ++ told f.said) ≤ 1 = walk_one limit (at + (length f.line + 2)) (ns ++ told f.said) fs after cut taken w.3 in
    let long : length (ns ++ told f.said) ≡ length ns + length (told f.said) = length-append ns (told f.said) in
    omega (arith, long)

-- a field doesn't decide
not_stopped : {A : Type 0} (limit at : ℕ) (ns l rest : List ℕ) (s : Said) (t : Taken) → IsSaid limit l s → SaysSomething s →
    length (ns ++ told s) ≤ 1 → Ends limit at ns (line l rest) t → A
not_stopped limit at ns l rest s t is some one (r, also, stops) =
    go s some one (subst (λ (z : Said). Stops at ns rest z t) (said_same limit l r s also is) stops) where
      go : {A : Type 0} (s : Said) → SaysSomething s → length (ns ++ told s) ≤ 1 → Stops at ns rest s t → A
      go Empty some one h = absurd some
      go NoColon some one h = absurd some
      go Other some one h = absurd h
      go BadLength some one h = absurd some
      go (Long n) some one h =
          let long : length (ns ++ n ∷ []) ≡ length ns + 1 = length-append ns (n ∷ []) in
          let more : 0 < length ns = h.0 in absurd (omega (arith, long))

split_first : (f : Field) (fs : List Field) (after : List ℕ) → spell (f ∷ fs) ++ after ≡ f.line ++ (13 ∷ 10 ∷ (spell fs ++ after))
split_first f fs after = append_assoc f.line (13 ∷ 10 ∷ spell fs) after

-- the line of a field stands where the other reading ends
ends_in_field : {A : Type 0} (limit at : ℕ) (ns : List ℕ) (f : Field) (fs : List Field) (a b : List ℕ) (c d : Cut) (t u : Taken) →
    a ≡ spell (f ∷ fs) ++ b → Walks limit at ns [] a c t → Walks limit at ns (f ∷ fs) b d u → A
ends_in_field limit at ns f fs a b c d t u e v w =
    let later : at + (length f.line + 2) ≤ head_limit = walk_within limit (at + (length f.line + 2)) (ns ++ told f.said) fs b d u w.3 in
    let cut : IsCut (head_limit - at) a (line f.line (spell fs ++ b)) = (e ∙ split_first f fs b, w.0, omega arith) in
    not_stopped limit at ns f.line (spell fs ++ b) f.said t w.1 w.2
    (walk_one limit (at + (length f.line + 2)) (ns ++ told f.said) fs b d u w.3)
    (subst (λ (z : Cut). Ends limit at ns z t) (cut_same (head_limit - at) a c (line f.line (spell fs ++ b)) v.2 cut) v.3)

walk_same : (limit at : ℕ) (ns : List ℕ) (fs gs : List Field) (a b : List ℕ) (c d : Cut) (t u : Taken) → spell fs ++ a ≡ spell gs ++ b →
    Walks limit at ns fs a c t → Walks limit at ns gs b d u → t ≡ u
walk_same limit at ns [] [] a b c d t u e v w =
    let cuts : IsCut (head_limit - at) b c = subst (λ (zs : List ℕ). IsCut (head_limit - at) zs c) e v.2 in
    ends_same limit at ns d t u (subst (λ (z : Cut). Ends limit at ns z t) (cut_same (head_limit - at) b c d cuts w.2) v.3) w.3
walk_same limit at ns [] (g ∷ gs) a b c d t u e v w = ends_in_field limit at ns g gs a b c d t u e v w
walk_same limit at ns (f ∷ fs) [] a b c d t u e v w = ends_in_field limit at ns f fs b a d c u t (sym e) w v
walk_same limit at ns (f ∷ fs) (g ∷ gs) a b c d t u e v w =
    let both = sym (ended f.line (spell fs ++ a) (spell (f ∷ fs) ++ a) (split_first f fs a)) ∙ e
    ∙ ended g.line (spell gs ++ b) (spell (g ∷ gs) ++ b) (split_first g gs b) in
    let cut = same_cut 10 (f.line ++ 13 ∷ []) (g.line ++ 13 ∷ []) (spell fs ++ a) (spell gs ++ b) (no_feed f.line v.0) (no_feed g.line w.0) both in
    let lines : f.line ≡ g.line = (same_from_push f.line g.line 13 13 cut.0).0 in
    let says : f.said ≡ g.said = said_same limit g.line f.said g.said (subst (λ (zs : List ℕ). IsSaid limit zs f.said) lines v.1) w.1 in
    walk_same limit (at + (length g.line + 2)) (ns ++ told g.said) fs gs a b c d t u cut.1
    (subst₂ (λ (zs : List ℕ) (z : Said). Walks limit (at + (length zs + 2)) (ns ++ told z) fs a c t) lines says v.3) w.3

walk_of : (limit : ℕ) (bytes : List ℕ) (taken : Taken) (r : IsRead limit bytes taken) → Walks limit 0 [] r.fields r.after r.cut taken
walk_of limit bytes taken r =
    to_walk limit 0 [] r.fields r.after r.cut taken r.are r.one
    (subst (λ (z : ℕ). z ≤ head_limit) (sym (zero-add (length (spell r.fields)))) r.within)
    (subst (λ (z : ℕ). IsCut (head_limit - z) r.after r.cut) (sym (zero-add (length (spell r.fields)))) r.cuts)
    (subst (λ (z : ℕ). Ends limit z (lengths r.fields) r.cut taken) (sym (zero-add (length (spell r.fields)))) r.ends)

pub one_reading : (limit : ℕ) (bytes : List ℕ) (one other : Taken) → IsRead limit bytes one → IsRead limit bytes other → one ≡ other
one_reading limit bytes one other r s =
    walk_same limit 0 [] r.fields s.fields r.after s.after r.cut s.cut one other (sym r.spells ∙ s.spells) (walk_of limit bytes one r)
    (walk_of limit bytes other s)
