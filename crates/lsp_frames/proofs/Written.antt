-- What is written, and worked rows.
use Rattle.std.proofs.Common.{◌≡◌, ℕ, zero, suc, ◌+◌, ◌-◌, ◌<◌, ◌≤◌, ◌^◌, List, [], ◌∷◌, ◌++◌, length, get_or, Bool, true, false, codes, decimal}
use Rattle.std.proofs.Common.{◌&&◌, not, refl, sym, ap, ◌∙◌, arith, append_assoc, length-append}
use Rattle.std.proofs.lemmas.Bool.Decides.{nat_tests}
use Rattle.std.proofs.lemmas.List.{take_all, get_or_push}
use Rattle.std.proofs.lemmas.Fmt.{decimal_is_IsNumeral, length-decimal-le}
use Rattle.std.proofs.lemmas.Str.Parse.{digit_at, digit_from_value}
use Rattle.std.specs.Char.{is_ascii_whitespace}
use Rattle.std.specs.Int.{IsInRange}
use Rattle.std.specs.Str.{NonePass, IsTrimAscii}
use Rattle.std.specs.Str.Parse.{AllDigits, IsNumeral}
use Rattle.lsp_frames.specs.declared.lines.Said.TheVariants as declared
use Rattle.lsp_frames.specs.declared.lines.Said.TheVariants.{Other, Long}
use Rattle.lsp_frames.specs.Fields.{is_feed, is_colon, Numbers, IsSaid, Field}
use Rattle.lsp_frames.specs.Reading.{head_limit, wants, bare, line}
use Rattle.lsp_frames.specs.Frames.{IsFrame, written}
use Rattle.lsp_frames.specs.examples.Rows.{Rows}

-- a test by computing
abbrev none_passes : (ℕ → Bool) → List ℕ → Bool
none_passes p [] = true
none_passes p (x ∷ xs) = not (p x) && none_passes p xs

both : (a b : Bool) → (not a && b) ≡ true → (a ≡ false) × (b ≡ true)
both true b h = absurd (cc)
both false b h = (refl, h)

none_by : (p : ℕ → Bool) (xs : List ℕ) → none_passes p xs ≡ true → NonePass p xs
none_by p [] h = tt
none_by p (x ∷ xs) h = let t = both (p x) (none_passes p xs) h in (t.0, none_by p xs t.1)

none_join : (p : ℕ → Bool) (xs ys : List ℕ) → NonePass p xs → NonePass p ys → NonePass p (xs ++ ys)
none_join p [] ys h k = k
none_join p (x ∷ xs) ys h k = (h.0, none_join p xs ys h.1 k)

digits_plain : (ds : List ℕ) → AllDigits 10 ds → NonePass is_feed ds
digits_plain [] h = tt
digits_plain (c ∷ cs) h = (other c (digit_from_value c h.0), digits_plain cs h.1) where
  other : (c : ℕ) → IsInRange 48 57 c → is_feed c ≡ false
  other c h = grind (arith, nat_tests)

no_blank : (c : ℕ) → IsInRange 48 57 c → is_ascii_whitespace c ≡ false
no_blank c h = grind (arith, nat_tests)

digit_no_blank : (ds : List ℕ) (i : ℕ) → AllDigits 10 ds → i < length ds → is_ascii_whitespace (get_or ds i 0) ≡ false
digit_no_blank ds i h less = no_blank (get_or ds i 0) (digit_at ds i h less)

trimmed_digits : (ds : List ℕ) → IsNumeral 10 ds → IsTrimAscii (32 ∷ ds) ds
trimmed_digits ds h =
    let some : 0 < length ds = h.0 in (
      1,
      sym (take_all (length ds) ds (omega arith)),
      first,
      λ less. digit_no_blank ds 0 h.1 some,
      λ i le less. absurd (omega arith),
      λ less. digit_no_blank ds (length ds - 1) h.1 (omega arith),
    ) where
      first : (i : ℕ) → i < 1 → is_ascii_whitespace (get_or (32 ∷ ds) i 0) ≡ true
      first zero less = refl
      first (suc i) less = absurd (omega arith)

pub what_is_written : (limit : ℕ) (body rest : List ℕ) → length body ≤ limit → limit < 2 ^ 32 → IsFrame limit (written body ++ rest) body rest
what_is_written limit body rest fits small =
    let numeral = decimal_is_IsNumeral (length body) (omega arith) in
    let short : length (decimal (length body)) ≤ 20 = length-decimal-le 20 (length body) (omega arith) (omega arith) (omega arith) in
    let digits : List ℕ = decimal (length body) in
    record {
      fields = record { line = codes "Content-Length: " ++ decimal (length body); said = Long (length body) } ∷ [];
      spells = ap (λ (zs : List ℕ). codes "Content-Length: " ++ zs) (append_assoc digits (13 ∷ 10 ∷ 13 ∷ 10 ∷ body) rest
          ∙ sym (append_assoc digits (13 ∷ 10 ∷ []) (13 ∷ 10 ∷ (body ++ rest))));
      are = (
        none_join is_feed (codes "Content-Length: ") digits (none_by is_feed (codes "Content-Length: ") refl) (digits_plain digits numeral.0.1),
        (
          codes "Content-Length",
          32 ∷ digits,
          record { spells = refl; plain = none_by is_colon (codes "Content-Length") refl },
          refl,
          record { digits = digits; trimmed = trimmed_digits digits numeral.0; numeral = numeral.0; number = sym numeral.1; within = fits },
        ),
        tt,
        tt,
      );
      long = refl;
      within = within (decimal (length body)) short;
    } where
      within : (ds : List ℕ) → length ds ≤ 20 → length (codes "Content-Length: " ++ (ds ++ (13 ∷ 10 ∷ []))) + 2 ≤ head_limit
      within ds h =
          let size : length (ds ++ (13 ∷ 10 ∷ [])) ≡ length ds + 2 = length-append ds (13 ∷ 10 ∷ []) in
          let whole : length (codes "Content-Length: " ++ (ds ++ (13 ∷ 10 ∷ []))) ≡ 16 + length (ds ++ (13 ∷ 10 ∷ [])) =
          length-append (codes "Content-Length: ") (ds ++ (13 ∷ 10 ∷ [])) in
          omega (arith, size, whole)

abbrev other_field : Field
other_field = record { line = codes "X: y"; said = Other }

is_other : (limit : ℕ) → IsSaid limit (codes "X: y") Other
is_other limit = (
  codes "X",
  codes " y",
  record { spells = refl; plain = none_by is_colon (codes "X") refl },
  λ e. let n : 1 ≡ 14 = ap length e in absurd (omega (arith, n)),
)

two : Numbers 9 (codes "2") 2
two = record {
  digits = codes "2";
  trimmed = (0, refl, λ i less. absurd (omega arith), λ less. refl, λ i le less. absurd (omega arith), λ less. refl);
  numeral = (omega arith, (omega arith, tt));
  number = refl;
  within = omega arith;
}

pub rows : Rows
rows = record {
  frame = record {
    fields = record { line = codes "content-length:2"; said = Long 2 } ∷ other_field ∷ [];
    spells = refl;
    are = (
      none_by is_feed (codes "content-length:2") refl,
      (codes "content-length", codes "2", record { spells = refl; plain = none_by is_colon (codes "content-length") refl }, refl, two),
      tt,
      (none_by is_feed (codes "X: y") refl, is_other 9, tt, tt),
    );
    long = refl;
    within = omega arith;
  };
  head = record {
    fields = other_field ∷ [];
    after = codes "Content-Len";
    cut = wants;
    spells = refl;
    are = (none_by is_feed (codes "X: y") refl, is_other 9, tt, tt);
    one = omega arith;
    within = omega arith;
    cuts = (none_by is_feed (codes "Content-Len") refl, omega arith);
    ends = refl;
  };
  no_length = record {
    fields = other_field ∷ [];
    after = codes "\r\n{}";
    cut = line [] (codes "{}");
    spells = refl;
    are = (none_by is_feed (codes "X: y") refl, is_other 9, tt, tt);
    one = omega arith;
    within = omega arith;
    cuts = (refl, tt, omega arith);
    ends = (declared.Empty, refl, refl);
  };
  no_colon = record {
    fields = other_field ∷ [];
    after = codes "xy\r\n";
    cut = line (codes "xy") [];
    spells = refl;
    are = (none_by is_feed (codes "X: y") refl, is_other 9, tt, tt);
    one = omega arith;
    within = omega arith;
    cuts = (refl, none_by is_feed (codes "xy") refl, omega arith);
    ends = (declared.NoColon, (omega arith, none_by is_colon (codes "xy") refl), refl);
  };
  no_return = record {
    fields = other_field ∷ [];
    after = codes "Z: z\n";
    cut = bare;
    spells = refl;
    are = (none_by is_feed (codes "X: y") refl, is_other 9, tt, tt);
    one = omega arith;
    within = omega arith;
    cuts = (codes "Z: z", [], refl, none_by is_feed (codes "Z: z") refl, omega arith, λ shorter e. not_last shorter e);
    ends = refl;
  };
} where
  not_last : (shorter : List ℕ) → codes "Z: z" ≡ shorter ++ 13 ∷ [] → ⊥
  not_last shorter e =
      let long : 4 ≡ length shorter + 1 = ap length e ∙ length-append shorter (13 ∷ []) in
      let last : get_or (codes "Z: z") 3 0 ≡ 13 =
      ap (λ (zs : List ℕ). get_or zs 3 0) e ∙ get_or_push shorter 13 0 3 (omega (arith, long)) in
      absurd (omega (arith, last))
