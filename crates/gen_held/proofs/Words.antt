-- Names and numbers as files have them.
use Rattle.std.proofs.Common.{◌≡◌, ◌≢◌, ℕ, ◌≤◌, ℤ, pos, neg_ℤ, Bool, true, false, inl, inr, negsuc, Some, List, [], ◌∷◌, ◌++◌, sym, subst}
use Rattle.std.proofs.Common.{arith, IsUtf8, FitsSigned, if◌then◌else◌}
use Rattle.std.specs.List.{AllByRecursion}
use Rattle.std.proofs.lemmas.Str.{IsUtf8-from_ascii}
use mir.Syntax.{w32}
use Rattle.mg_text.specs.Call.{Name}
use Rattle.mg_text.specs.Interned.{with_text}
use Rattle.mg_read.specs.Passes.{AllPasses}
use Rattle.jv_lex.specs.Letters.{is_word_byte}
use Rattle.jv_lex.proofs.Utf8.{word_low, passing_ascii}
use Rattle.jv_back.proofs.Told.{IsNamed}
use Rattle.jv_back.proofs.Texts.{IsPrinted}
use Rattle.jv_resolve_law.specs.Tables.{Interned, interned}
use Rattle.jv_resolve_law.proofs.Steps.{bound}
use Rattle.jv_names.proofs.Tables.{some_is}
use Rattle.gen_links.specs.Files.{IsPlainName}

-- a name that a class file can hold
pub record IsFine (name : Name) : Type 0 where
  pub plain : IsPlainName name
  pub utf8 : IsUtf8 name

abbrev pub AreFine : List Name → Type 0
AreFine names = AllByRecursion IsFine names

pub all_in_back : {A : Type 0} (P : A → Type 0) (xs ys : List A) → AllByRecursion P xs → AllByRecursion P ys → AllByRecursion P (xs ++ ys)
all_in_back P [] ys a b = b
all_in_back P (x ∷ xs) ys a b = (a.0, all_in_back P xs ys a.1 b)

-- a name that gets its number
pub fine_with : (names : List Name) (name : Name) (r : Interned) → interned names name ≡ Some r → IsFine name → AreFine names →
    AreFine r.names
fine_with names name r e f fs =
    let b = bound _ (λ n. Some (record { number = n; names = with_text names name })) r e in
    subst (λ (z : Interned). AreFine z.names) (some_is b.gives) (go _)
  where
    go : (t : Bool) → AreFine (if t then names else names ++ name ∷ [])
    go true = fs
    go false = all_in_back IsFine names (name ∷ []) fs (f, tt)

plain_byte : (c : ℕ) → is_word_byte c ≡ true → (c ≢ 47) × (c ≢ 59) × (c ≢ 60)
plain_byte c h = (
  λ e. absurd (no_slash (subst (λ z. is_word_byte z ≡ true) e h)),
  λ e. absurd (no_semicolon (subst (λ z. is_word_byte z ≡ true) e h)),
  λ e. absurd (no_less (subst (λ z. is_word_byte z ≡ true) e h)),
)
  where
    no_slash : is_word_byte 47 ≡ true → ⊥
    no_slash e = cc

    no_semicolon : is_word_byte 59 ≡ true → ⊥
    no_semicolon e = cc

    no_less : is_word_byte 60 ≡ true → ⊥
    no_less e = cc

plain_bytes : (cs : List ℕ) → AllPasses is_word_byte cs → IsPlainName cs
plain_bytes [] h = tt
plain_bytes (c ∷ cs) h = (plain_byte c h.0, plain_bytes cs h.1)

pub fine : (name : Name) → IsNamed name → IsFine name
fine name is = record {
  plain = plain_bytes name is.bytes;
  utf8 =
      IsUtf8-from_ascii name (passing_ascii is_word_byte name word_low is.bytes);
}

-- numbers of the text
pub int_fits : (z : ℤ) → IsPrinted z → FitsSigned w32 z
int_fits z (inl (n, h, e)) = subst (FitsSigned w32) (sym e) (up n h)
  where
    up : (n : ℕ) → n ≤ 2147483647 → FitsSigned w32 (pos n)
    up n h = record { sfits = grind (arith, h) }
int_fits z (inr (n, h, e)) = go z n h e
  where
    go : (z : ℤ) (n : ℕ) → n ≤ 2147483648 → z ≡ neg_ℤ (pos n) → FitsSigned w32 z
    go (pos k) n h e = record { sfits = grind (arith, e, h) }
    go (negsuc k) n h e = record { sfits = grind (arith, e, h) }
