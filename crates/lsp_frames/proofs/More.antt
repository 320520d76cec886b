-- What follows changes nothing.
use Rattle.std.proofs.Common.{◌≡◌, ◌≢◌, ℕ, ◌+◌, ◌-◌, ◌≤◌, List, [], ◌∷◌, ◌++◌, length, Bool, true, false, nat_le, if◌then◌else◌}
use Rattle.std.proofs.Common.{refl, sym, ap, ◌∙◌, subst, arith, append_assoc, length-append}
use Rattle.std.proofs.lemmas.Bool.Decides.{nat_tests}
use Rattle.std.proofs.lemmas.List.{take-append-le}
use Rattle.std.specs.Str.{NonePass}
use Rattle.lsp_frames.specs.declared.lines.Said.{Said}
use Rattle.lsp_frames.specs.declared.lines.Said.TheVariants.{Empty, NoColon, Other, BadLength, Long}
use Rattle.lsp_frames.specs.declared.heads.Taken.{Taken}
use Rattle.lsp_frames.specs.declared.heads.Taken.TheVariants.{Frame, More}
use Rattle.lsp_frames.specs.Fields.{is_feed, spell, lengths}
use Rattle.lsp_frames.specs.Reading.{head_limit, Cut, wants, over, bare, line, IsCut, Closes, Stops, Ends, IsRead}
use Rattle.lsp_frames.specs.Frames.{IsFrame, AreFrames}

fits_more : (n : ℕ) (rest more : List ℕ) → nat_le n (length rest) ≡ true → nat_le n (length (rest ++ more)) ≡ true
fits_more n rest more h =
    let long : length (rest ++ more) ≡ length rest + length more = length-append rest more in still n (length rest) (length more) _ long h where
      still : (n a b c : ℕ) → c ≡ a + b → nat_le n a ≡ true → nat_le n c ≡ true
      still n a b c e h = grind (arith, nat_tests)

closes_more : (at : ℕ) (ns rest more : List ℕ) (t : Taken) → t ≢ More → Closes at ns rest t → Closes at ns (rest ++ more) t
closes_more at [] rest more t not h = h
closes_more at (n ∷ ns) rest more t not h = go (nat_le n (length rest)) refl where
  go : (b : Bool) → nat_le n (length rest) ≡ b → t ≡ (if nat_le n (length (rest ++ more)) then Frame (at + 2) (at + 2 + n) else More)
  go true e =
      h ∙ ap (λ (z : Bool). if z then Frame (at + 2) (at + 2 + n) else More) (e ∙ sym (fits_more n rest more e))
  go false e = absurd (not (h ∙ ap (λ (z : Bool). if z then Frame (at + 2) (at + 2 + n) else More) e))

stops_more : (at : ℕ) (ns rest more : List ℕ) (s : Said) (t : Taken) → t ≢ More → Stops at ns rest s t → Stops at ns (rest ++ more) s t
stops_more at ns rest more Empty t not h = closes_more at ns rest more t not h
stops_more at ns rest more NoColon t not h = h
stops_more at ns rest more Other t not h = h
stops_more at ns rest more BadLength t not h = h
stops_more at ns rest more (Long n) t not h = h

ends_more : (limit at : ℕ) (ns : List ℕ) (room : ℕ) (bytes more : List ℕ) (cut : Cut) (t : Taken) → t ≢ More → IsCut room bytes cut →
    Ends limit at ns cut t → (d : Cut) × IsCut room (bytes ++ more) d × Ends limit at ns d t
ends_more limit at ns room bytes more wants t not cuts ends = absurd (not ends)
ends_more limit at ns room bytes more over t not cuts ends =
    let long : room ≤ length bytes = cuts.1 in
    let further : length (bytes ++ more) ≡ length bytes + length more = length-append bytes more in
    (over, (subst (NonePass is_feed) (sym (take-append-le room bytes more long)) cuts.0, omega (arith, further)), ends)
ends_more limit at ns room bytes more bare t not (front, rest, e, plain, less, last) ends =
    (bare, (front, rest ++ more, ap (λ (zs : List ℕ). zs ++ more) e ∙ append_assoc front (10 ∷ rest) more, plain, less, last), ends)
ends_more limit at ns room bytes more (line l rest) t not cuts (s, is, stops) = (
  line l (rest ++ more),
  (ap (λ (zs : List ℕ). zs ++ more) cuts.0 ∙ append_assoc l (13 ∷ 10 ∷ rest) more, cuts.1, cuts.2),
  (s, is, stops_more at ns rest more s t not stops),
)

pub more_changes_nothing : (limit : ℕ) (bytes more : List ℕ) (taken : Taken) → IsRead limit bytes taken → taken ≢ More →
    IsRead limit (bytes ++ more) taken
more_changes_nothing limit bytes more taken r not =
    let later = ends_more limit (length (spell r.fields)) (lengths r.fields) (head_limit - length (spell r.fields)) r.after more r.cut taken not
    r.cuts r.ends in
    record {
      fields = r.fields;
      after = r.after ++ more;
      cut = later.0;
      spells = ap (λ (zs : List ℕ). zs ++ more) r.spells ∙ append_assoc (spell r.fields) r.after more;
      are = r.are;
      one = r.one;
      within = r.within;
      cuts = later.1;
      ends = later.2;
    }

frame_more : (limit : ℕ) (bytes body rest more : List ℕ) → IsFrame limit bytes body rest → IsFrame limit (bytes ++ more) body (rest ++ more)
frame_more limit bytes body rest more f = record {
  fields = f.fields;
  spells = ap (λ (zs : List ℕ). zs ++ more) f.spells ∙ append_assoc (spell f.fields) (13 ∷ 10 ∷ (body ++ rest)) more
      ∙ ap (λ (zs : List ℕ). spell f.fields ++ (13 ∷ 10 ∷ zs)) (append_assoc body rest more);
  are = f.are;
  long = f.long;
  within = f.within;
}

pub frames_join : (limit : ℕ) (bytes more left rest : List ℕ) (bodies others : List (List ℕ)) → AreFrames limit bytes bodies left →
    AreFrames limit (left ++ more) others rest → AreFrames limit (bytes ++ more) (bodies ++ others) rest
frames_join limit bytes more left rest [] others e h =
    subst (λ (zs : List ℕ). AreFrames limit (zs ++ more) others rest) (sym e) h
frames_join limit bytes more left rest (body ∷ bodies) others (after, frame, later) h =
    (after ++ more, frame_more limit bytes body after more frame, frames_join limit after more left rest bodies others later h)
