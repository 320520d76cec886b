-- Frames, and what is read as one.
use Rattle.std.proofs.Common.{◌≡◌, ℕ, ◌+◌, ◌-◌, ◌≤◌, List, [], ◌∷◌, ◌++◌, length, take, drop, slice_range, Bool, true, false}
use Rattle.std.proofs.Common.{nat_le, if◌then◌else◌, refl, sym, ap, ◌∙◌, subst, subst₂, arith, length-append, drop-drop, true≢false}
use Rattle.std.proofs.Common.{length-take-le, take-append-drop}
use Rattle.std.proofs.lemmas.Bool.Decides.{nat_tests}
use Rattle.std.proofs.lemmas.List.{drop_at, take_at, take_rest}
use Rattle.lsp_frames.specs.declared.lines.Said.{Said}
use Rattle.lsp_frames.specs.declared.lines.Said.TheVariants.{Empty, NoColon, Other, BadLength, Long}
use Rattle.lsp_frames.specs.declared.heads.Taken.{Taken}
use Rattle.lsp_frames.specs.declared.heads.Taken.TheVariants.{Frame, More, Refused}
use Rattle.lsp_frames.specs.Fields.{Field, spell, lengths, IsSaid}
use Rattle.lsp_frames.specs.Reading.{head_limit, Cut, wants, over, bare, line, IsCut, Closes, Stops, Ends, IsRead}
use Rattle.lsp_frames.specs.Frames.{IsFrame}

abbrev is_frame : Taken → Bool
is_frame (Frame b e) = true
is_frame More = false
is_frame (Refused f at) = false

abbrev begin_of : Taken → ℕ
begin_of (Frame b e) = b
begin_of More = 0
begin_of (Refused f at) = 0

abbrev end_of : Taken → ℕ
end_of (Frame b e) = e
end_of More = 0
end_of (Refused f at) = 0

no_frame : {A : Type 0} (b e : ℕ) (t : Taken) → Frame b e ≡ t → is_frame t ≡ false → A
no_frame b e t same not = absurd (true≢false (ap is_frame same ∙ not))

-- a frame stands behind fields that tell one length, and so long is what follows the empty line at least
record Closed (fields : List Field) (after : List ℕ) (begins ends : ℕ) : Type 0 where
  rest : List ℕ
  n : ℕ
  spells : after ≡ 13 ∷ 10 ∷ rest
  told : lengths fields ≡ n ∷ []
  begin : begins ≡ length (spell fields) + 2
  end : ends ≡ length (spell fields) + 2 + n
  fits : n ≤ length rest
  room : length (spell fields) + 2 ≤ head_limit

closes : (fields : List Field) (ns after rest : List ℕ) (begins ends : ℕ) → after ≡ 13 ∷ 10 ∷ rest → lengths fields ≡ ns → length ns ≤ 1 →
    length (spell fields) + 2 ≤ head_limit → Closes (length (spell fields)) ns rest (Frame begins ends) → Closed fields after begins ends
closes fields [] after rest begins ends e told one room h = no_frame begins ends _ h refl
closes fields (n ∷ k ∷ ns) after rest begins ends e told one room h = absurd (omega arith)
closes fields (n ∷ []) after rest begins ends spelled told one room h = go (nat_le n (length rest)) refl where
  go : (b : Bool) → nat_le n (length rest) ≡ b → Closed fields after begins ends
  go false e =
      no_frame begins ends More (h ∙ ap (λ (z : Bool). if z then Frame (length (spell fields) + 2) (length (spell fields) + 2 + n) else More) e) refl
  go true e =
      let same : Frame begins ends ≡ Frame (length (spell fields) + 2) (length (spell fields) + 2 + n) =
      h ∙ ap (λ (z : Bool). if z then Frame (length (spell fields) + 2) (length (spell fields) + 2 + n) else More) e in
      record {
        rest = rest;
        n = n;
        spells = spelled;
        told = told;
        begin = ap begin_of same;
        end = ap end_of same;
        fits = within n (length rest) e;
        room = room;
      } where
        within : (a b : ℕ) → nat_le a b ≡ true → a ≤ b
        within a b h = grind (arith, nat_tests)

stopped : (limit : ℕ) (fields : List Field) (after l rest : List ℕ) (s : Said) (begins ends : ℕ) → length (lengths fields) ≤ 1 →
    IsCut (head_limit - length (spell fields)) after (line l rest) → IsSaid limit l s → length (spell fields) ≤ head_limit →
    Stops (length (spell fields)) (lengths fields) rest s (Frame begins ends) → Closed fields after begins ends
stopped limit fields after l rest Empty begins ends one cuts is within h =
    let none : length l ≡ 0 = ap length is in
    let fits : length l + 2 ≤ head_limit - length (spell fields) = cuts.2 in
    closes fields (lengths fields) after rest begins ends (cuts.0 ∙ ap (λ (zs : List ℕ). zs ++ (13 ∷ 10 ∷ rest)) is) refl one
    (omega (arith, none)) h
stopped limit fields after l rest NoColon begins ends one cuts is within h = no_frame begins ends _ h refl
stopped limit fields after l rest Other begins ends one cuts is within h = absurd h
stopped limit fields after l rest BadLength begins ends one cuts is within h = no_frame begins ends _ h refl
stopped limit fields after l rest (Long n) begins ends one cuts is within h = no_frame begins ends _ h.1 refl

closed_by : (limit : ℕ) (fields : List Field) (after : List ℕ) (cut : Cut) (begins ends : ℕ) → length (lengths fields) ≤ 1 →
    length (spell fields) ≤ head_limit → IsCut (head_limit - length (spell fields)) after cut →
    Ends limit (length (spell fields)) (lengths fields) cut (Frame begins ends) → Closed fields after begins ends
closed_by limit fields after wants begins ends one within cuts h = no_frame begins ends _ h refl
closed_by limit fields after over begins ends one within cuts h = no_frame begins ends _ h refl
closed_by limit fields after bare begins ends one within cuts h = no_frame begins ends _ h refl
closed_by limit fields after (line l rest) begins ends one within cuts (s, is, h) =
    stopped limit fields after l rest s begins ends one cuts is within h

-- what stands behind the empty line
behind_head : (head rest bytes : List ℕ) → bytes ≡ head ++ (13 ∷ 10 ∷ rest) → drop (length head + 2) bytes ≡ rest
behind_head head rest bytes e =
    ap (drop (length head + 2)) e ∙ sym (drop-drop 2 (length head) (head ++ (13 ∷ 10 ∷ rest)))
    ∙ ap (drop 2) (drop_at head (13 ∷ 10 ∷ rest) (length head) refl)

behind_body : (head rest bytes : List ℕ) (n : ℕ) → bytes ≡ head ++ (13 ∷ 10 ∷ rest) → drop (length head + 2 + n) bytes ≡ drop n rest
behind_body head rest bytes n e = sym (drop-drop n (length head + 2) bytes) ∙ ap (drop n) (behind_head head rest bytes e)

part_is : (head rest bytes : List ℕ) (n begins ends : ℕ) → bytes ≡ head ++ (13 ∷ 10 ∷ rest) → begins ≡ length head + 2 →
    ends ≡ length head + 2 + n → slice_range bytes begins ends ≡ take n rest
part_is head rest bytes n begins ends e b f =
    let long : ends - begins ≡ n = omega (arith, b, f) in
    ap (λ (z : ℕ). take z (drop begins bytes)) long ∙ ap (λ (z : ℕ). take n (drop z bytes)) b ∙ ap (take n) (behind_head head rest bytes e)

pub what_is_read : (limit : ℕ) (bytes : List ℕ) (begins ends : ℕ) → IsRead limit bytes (Frame begins ends) →
    IsFrame limit bytes (slice_range bytes begins ends) (drop ends bytes)
what_is_read limit bytes begins ends r =
    let c = closed_by limit r.fields r.after r.cut begins ends r.one r.within r.cuts r.ends in
    let whole : bytes ≡ spell r.fields ++ (13 ∷ 10 ∷ c.rest) = r.spells ∙ ap (λ (zs : List ℕ). spell r.fields ++ zs) c.spells in
    let body : slice_range bytes begins ends ≡ take c.n c.rest = part_is (spell r.fields) c.rest bytes c.n begins ends whole c.begin c.end in
    let rest : drop ends bytes ≡ drop c.n c.rest =
    ap (λ (z : ℕ). drop z bytes) c.end ∙ behind_body (spell r.fields) c.rest bytes c.n whole in
    subst₂ (IsFrame limit bytes) (sym body) (sym rest) (record {
      fields = r.fields;
      spells = whole ∙ ap (λ (zs : List ℕ). spell r.fields ++ (13 ∷ 10 ∷ zs)) (sym (take-append-drop c.n c.rest));
      are = r.are;
      long = c.told ∙ ap (λ (z : ℕ). z ∷ []) (sym (length-take-le c.n c.rest c.fits));
      within = c.room;
    })

pub what_is_a_frame : (limit : ℕ) (bytes body rest : List ℕ) → IsFrame limit bytes body rest →
    (begins : ℕ) × (ends : ℕ) × IsRead limit bytes (Frame begins ends) × (body ≡ slice_range bytes begins ends) × (rest ≡ drop ends bytes)
what_is_a_frame limit bytes body rest f =
    let at : ℕ = length (spell f.fields) in
    let room : length (spell f.fields) + 2 ≤ head_limit = f.within in (
      at + 2,
      at + 2 + length body,
      record {
        fields = f.fields;
        after = 13 ∷ 10 ∷ (body ++ rest);
        cut = line [] (body ++ rest);
        spells = f.spells;
        are = f.are;
        one = subst (λ (zs : List ℕ). length zs ≤ 1) (sym f.long) (omega arith);
        within = omega arith;
        cuts = (refl, tt, omega arith);
        ends = (
          Empty,
          refl,
          subst (λ (zs : List ℕ). Closes at zs (body ++ rest) (Frame (at + 2) (at + 2 + length body))) (sym f.long)
              (sym (ap (λ (z : Bool). if z then Frame (at + 2) (at + 2 + length body) else More) (fits body rest))),
        );
      },
      sym (take_at body rest (length body) refl) ∙ sym (part_is (spell f.fields) (body ++ rest) bytes (length body) (at + 2) (at + 2 + length body)
          f.spells refl refl),
      sym (drop_at body rest (length body) refl) ∙ sym (behind_body (spell f.fields) (body ++ rest) bytes (length body) f.spells),
    ) where
      fits : (body rest : List ℕ) → nat_le (length body) (length (body ++ rest)) ≡ true
      fits body rest = let long : length (body ++ rest) ≡ length body + length rest = length-append body rest in within (length body) (length rest) _ long where
        within : (a b c : ℕ) → c ≡ a + b → nat_le a c ≡ true
        within a b c e = grind (arith, nat_tests)

-- a frame that is taken off the front of what waits
pub taken_off : (limit passed begins ends : ℕ) (bytes whole now body : List ℕ) → bytes ≡ whole → drop passed whole ≡ now →
    IsRead limit (take (length bytes - passed) (drop passed bytes)) (Frame begins ends) →
    body ≡ take (ends - begins) (drop begins (take (length bytes - passed) (drop passed bytes))) →
    IsFrame limit now body (drop (passed + ends) whole)
taken_off limit passed begins ends bytes whole now body same view read is =
    let waits : take (length bytes - passed) (drop passed bytes) ≡ now = take_rest bytes passed ∙ ap (drop passed) same ∙ view in
    let frame = what_is_read limit now begins ends (subst (λ (zs : List ℕ). IsRead limit zs (Frame begins ends)) waits read) in
    subst₂ (IsFrame limit now) (sym (is ∙ ap (λ (zs : List ℕ). take (ends - begins) (drop begins zs)) waits))
    (ap (drop ends) (sym view) ∙ drop-drop ends passed whole) frame
