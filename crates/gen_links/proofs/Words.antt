-- Each instruction of the templates can be encoded.
use Rattle.std.proofs.Common.{◌≡◌, inl, inr, ℕ, ℤ, zero, suc, pos, negsuc, ◌+◌, ◌^◌, ◌<◌, ◌≤◌, List, [], ◌∷◌, ◌++◌, map, max}
use Rattle.std.proofs.Common.{Bool, true, false, ◌&&◌, Option, Some, None, nat_lt, nat_le, slice_get, get_or, option_and_then, option_map}
use Rattle.std.proofs.Common.{if◌then◌else◌, refl, arith, IsUtf8, FitsSigned, ltb-true, subst}
use Rattle.std.specs.List.{AllByRecursion, flat_map}
use Rattle.std.proofs.lemmas.Bool.{leb-true, and_parts}
use Rattle.std.proofs.lemmas.Str.{IsUtf8-append, IsUtf8-nil, IsUtf8-encode, encode_ascii}
use lib.Utf8.{low_scalar}
use mir.Syntax.{w8, w16, w32}
use Rattle.std.specs.Prelude.{codes}
use Rattle.cls_tree.specs.declared.instr.Form.TheVariants as forms
use Rattle.cls_tree.specs.Opcodes.{form_of}
use Rattle.cls_tree.specs.Pool.{Int, Reference}
use Rattle.vm_model.specs.Types.{type_text, result_text, signature_text, main_signature}
use Rattle.vm_model.specs.BuiltIns.{session_class}
use Rattle.jv_core.specs.declared.program.CoreType.{CoreType}
use Rattle.jv_core.specs.declared.program.CoreType.TheVariants as types
use Rattle.jv_tree.specs.declared.built_in.SessionCall.{SessionCall}
use Rattle.jv_tree.specs.declared.built_in.SessionCall.TheVariants as calls
use Rattle.jv_core.specs.Lookup.{text_at, is_main, param_types}
use Rattle.jv_core.specs.Tree.{Class, Field, Method, Program}
use Rattle.jv_core.specs.Types.{session_params, session_result}
use Rattle.gen_rules.specs.Symbolic as symbolic
use Rattle.gen_rules.specs.Symbolic.{Instr, plain, push, iconst, lies_within, with_local, load, store, is_reference}
use Rattle.gen_rules.specs.Members.{class_name, or_empty, type_in, result_in, field_descriptor, descriptor_of, method_descriptor}
use Rattle.gen_rules.specs.Members.{field_member, field_reference, method_member, method_reference, init_of, session_reference}
use Rattle.gen_rules.specs.Members.{session_name}
use Rattle.gen_links.specs.Encodable.{IsWritten, IsEncodable}

-- Texts.

ascii_then : (x : ℕ) (xs : List ℕ) → x < 128 → IsUtf8 xs → IsUtf8 (x ∷ xs)
ascii_then x xs small u =
    IsUtf8-append (x ∷ []) xs (subst IsUtf8 (encode_ascii x small) (IsUtf8-encode x (low_scalar x (omega (arith, small))))) u

abbrev pub are_ascii : List ℕ → Bool
are_ascii [] = true
are_ascii (x ∷ xs) = nat_lt x 128 && are_ascii xs

pub ascii_text : (xs : List ℕ) → are_ascii xs ≡ true → IsUtf8 xs
ascii_text [] e = IsUtf8-nil
ascii_text (x ∷ xs) e = let p = and_parts (nat_lt x 128) (are_ascii xs) e in ascii_then x xs (ltb-true x 128 p.0) (ascii_text xs p.1)

name_among : (names : List (List ℕ)) → AllByRecursion IsUtf8 names → (n : ℕ) → IsUtf8 (get_or names n [])
name_among [] h n = IsUtf8-nil
name_among (x ∷ names) h zero = h.0
name_among (x ∷ names) h (suc n) = name_among names h.1 n

module _ (p : Program) (names : AllByRecursion IsUtf8 p.names) where
  pub text_written : (n : ℕ) → IsUtf8 (text_at p n)
  text_written n = name_among p.names names n

  pub class_written : (c : ℕ) → IsUtf8 (class_name p c)
  class_written c = go (slice_get p.classes c)
    where
      go : (o : Option Class) → IsUtf8 (or_empty (option_map (λ k. text_at p k.name) o))
      go None = IsUtf8-nil
      go (Some k) = text_written k.name

  named_written : (name : List ℕ) → IsUtf8 name → IsUtf8 (codes "L" ++ (name ++ codes ";"))
  named_written name h = IsUtf8-append (codes "L") _ (ascii_text (codes "L") refl) (IsUtf8-append name _ h (ascii_text (codes ";") refl))

  pub type_written : (t : CoreType) → IsUtf8 (field_descriptor p t)
  type_written types.Void = ascii_text (codes "I") refl
  type_written types.Int = ascii_text (codes "I") refl
  type_written types.Boolean = ascii_text (codes "Z") refl
  type_written types.Text = ascii_text (codes "Ljava/lang/String;") refl
  type_written (types.Object c) = named_written (class_name p c) (class_written c)
  type_written (types.Enum e) = ascii_text (codes "I") refl

  result_written : (t : CoreType) → IsUtf8 (result_text (result_in p t))
  result_written types.Void = ascii_text (codes "V") refl
  result_written types.Int = type_written types.Int
  result_written types.Boolean = type_written types.Boolean
  result_written types.Text = type_written types.Text
  result_written (types.Object c) = type_written (types.Object c)
  result_written (types.Enum e) = type_written (types.Enum e)

  params_written : (ts : List CoreType) → IsUtf8 (flat_map type_text (map (type_in p) ts))
  params_written [] = IsUtf8-nil
  params_written (t ∷ ts) = IsUtf8-append (field_descriptor p t) (flat_map type_text (map (type_in p) ts)) (type_written t)
      (params_written ts)

  pub signature_written : (ts : List CoreType) (t : CoreType) → IsUtf8 (descriptor_of p ts t)
  signature_written ts t =
      IsUtf8-append (codes "(") _ (ascii_text (codes "(") refl)
      (IsUtf8-append (flat_map type_text (map (type_in p) ts)) _ (params_written ts)
      (IsUtf8-append (codes ")") _ (ascii_text (codes ")") refl) (result_written t)))

  pub descriptor_written : (m : Method) → IsUtf8 (method_descriptor p m)
  descriptor_written m = go (is_main m.kind)
    where
      go : (b : Bool) → IsUtf8 (if b then signature_text main_signature else descriptor_of p (param_types m) m.result)
      go true = ascii_text (codes "([Ljava/lang/String;)V") refl
      go false = signature_written (param_types m) m.result

  -- References.

  pub field_is_written : (c f : ℕ) → IsWritten (field_reference p c f)
  field_is_written c f = go (option_and_then (λ k. slice_get k.fields f) (slice_get p.classes c))
    where
      go : (o : Option Field) → IsWritten (field_member p c o)
      go None = record { class = class_written c; name = IsUtf8-nil; descriptor = IsUtf8-nil }
      go (Some d) = record { class = class_written c; name = text_written d.name; descriptor = type_written d.ty }

  pub method_is_written : (n : ℕ) → IsWritten (method_reference p n)
  method_is_written n = go (slice_get p.methods n)
    where
      go : (o : Option Method) → IsWritten (method_member p o)
      go None = record { class = IsUtf8-nil; name = IsUtf8-nil; descriptor = IsUtf8-nil }
      go (Some m) = record { class = class_written m.class; name = text_written m.name; descriptor = descriptor_written m }

  pub session_is_written : (c : SessionCall) → IsWritten (session_reference p c)
  session_is_written c = record {
    class = ascii_text session_class refl;
    name = ascii_text (session_name c) (plain_name c);
    descriptor = signature_written (session_params c) (session_result c);
  }
    where
      plain_name : (s : SessionCall) → are_ascii (session_name s) ≡ true
      plain_name calls.Send = refl
      plain_name calls.SendInt = refl
      plain_name calls.SendBoolean = refl
      plain_name calls.SendString = refl
      plain_name calls.Look = refl
      plain_name calls.Take = refl
      plain_name calls.TakeInt = refl
      plain_name calls.TakeBoolean = refl
      plain_name calls.TakeString = refl
      plain_name calls.Refuse = refl

pub init_is_written : (name : List ℕ) → IsUtf8 name → IsWritten (init_of name)
init_is_written name h = record { class = h; name = ascii_text (codes "<init>") refl; descriptor = ascii_text (codes "()V") refl }

-- a reference whose texts are ASCII
pub ascii_reference : (r : Reference) → are_ascii r.class ≡ true → are_ascii r.member.name ≡ true →
    are_ascii r.member.descriptor ≡ true → IsWritten r
ascii_reference r a b c = record {
  class = ascii_text r.class a;
  name = ascii_text r.member.name b;
  descriptor = ascii_text r.member.descriptor c;
}

-- Numbers.

small_const : (k : ℕ) → k ≤ 5 → IsEncodable (plain (3 + k))
unfolding form_of
small_const zero h = refl
small_const (suc zero) h = refl
small_const (suc (suc zero)) h = refl
small_const (suc (suc (suc zero))) h = refl
small_const (suc (suc (suc (suc zero)))) h = refl
small_const (suc (suc (suc (suc (suc zero))))) h = refl
small_const (suc (suc (suc (suc (suc (suc k)))))) h = absurd (omega (arith, h))

small_push : (z : ℤ) → lies_within (negsuc 0) (pos 5) z ≡ true → IsEncodable (plain (iconst z))
unfolding form_of
small_push (pos k) h = small_const k (leb-true k 5 h)
small_push (negsuc k) h = refl

byte_push : (z : ℤ) → lies_within (negsuc 127) (pos 127) z ≡ true → FitsSigned w8 z
byte_push (pos k) h = let l = leb-true k 127 h in record { sfits = omega (arith, l) }
byte_push (negsuc k) h = let l = leb-true k 127 (and_parts (nat_le k 127) true h).0 in record { sfits = omega (arith, l) }

short_push : (z : ℤ) → lies_within (negsuc 32767) (pos 32767) z ≡ true → FitsSigned w16 z
short_push (pos k) h = let l = leb-true k 32767 h in record { sfits = omega (arith, l) }
short_push (negsuc k) h = let l = leb-true k 32767 (and_parts (nat_le k 32767) true h).0 in record { sfits = omega (arith, l) }

pub push_fits : (z : ℤ) → FitsSigned w32 z → IsEncodable (push z)
unfolding form_of
push_fits z f = by_one (lies_within (negsuc 0) (pos 5) z) refl
  where
    by_three : (b : Bool) → lies_within (negsuc 32767) (pos 32767) z ≡ b → IsEncodable (if b
        then record { op = 17; operand = symbolic.Number z } else record { op = 18; operand = symbolic.Constant (Int z) })
    by_three true e = inr (refl, short_push z e)
    by_three false e = f

    by_two : (b : Bool) → lies_within (negsuc 127) (pos 127) z ≡ b → IsEncodable (if b
        then record { op = 16; operand = symbolic.Number z }
        else if lies_within (negsuc 32767) (pos 32767) z then record { op = 17; operand = symbolic.Number z }
        else record { op = 18; operand = symbolic.Constant (Int z) })
    by_two true e = inl (refl, byte_push z e)
    by_two false e = by_three (lies_within (negsuc 32767) (pos 32767) z) refl

    by_one : (b : Bool) → lies_within (negsuc 0) (pos 5) z ≡ b → IsEncodable (if b then plain (iconst z)
        else if lies_within (negsuc 127) (pos 127) z then record { op = 16; operand = symbolic.Number z }
        else if lies_within (negsuc 32767) (pos 32767) z then record { op = 17; operand = symbolic.Number z }
        else record { op = 18; operand = symbolic.Constant (Int z) })
    by_one true e = small_push z e
    by_one false e = by_two (lies_within (negsuc 127) (pos 127) z) refl

pub natural_fits : (n : ℕ) → n < 2 ^ 31 → FitsSigned w32 (pos n)
natural_fits n h = record { sfits = omega (arith, h) }

-- Locals.

four_of : (P : ℕ → Type 0) → P 0 → P 1 → P 2 → P 3 → (k : ℕ) → k ≤ 3 → P k
four_of P a b c d zero h = a
four_of P a b c d (suc zero) h = b
four_of P a b c d (suc (suc zero)) h = c
four_of P a b c d (suc (suc (suc zero))) h = d
four_of P a b c d (suc (suc (suc (suc k)))) h = absurd (omega (arith, h))

local_fits : (short long : ℕ) → ((k : ℕ) → k ≤ 3 → form_of (short + k) ≡ Some forms.Nothing) → form_of long ≡ Some forms.Local →
    (local : ℕ) → local < 2 ^ 8 → IsEncodable (with_local short long local)
local_fits short long s l local small = go (nat_le local 3) refl
  where
    go : (b : Bool) → nat_le local 3 ≡ b → IsEncodable (if b
        then plain (short + local) else record { op = long; operand = symbolic.Local local })
    go true e = s local (leb-true local 3 e)
    go false e = (l, small)

pub load_fits : (type : CoreType) (local : ℕ) → local < 2 ^ 8 → IsEncodable (load type local)
unfolding form_of
load_fits type local small = go (is_reference type)
  where
    go : (reference : Bool) → IsEncodable (if reference then with_local 42 25 local else with_local 26 21 local)
    go true = local_fits 42 25 (four_of (λ k. form_of (42 + k) ≡ Some forms.Nothing) refl refl refl refl) refl local small
    go false = local_fits 26 21 (four_of (λ k. form_of (26 + k) ≡ Some forms.Nothing) refl refl refl refl) refl local small

pub store_fits : (type : CoreType) (local : ℕ) → local < 2 ^ 8 → IsEncodable (store type local)
unfolding form_of
store_fits type local small = go (is_reference type)
  where
    go : (reference : Bool) → IsEncodable (if reference then with_local 75 58 local else with_local 59 54 local)
    go true = local_fits 75 58 (four_of (λ k. form_of (75 + k) ≡ Some forms.Nothing) refl refl refl refl) refl local small
    go false = local_fits 59 54 (four_of (λ k. form_of (59 + k) ≡ Some forms.Nothing) refl refl refl refl) refl local small

-- The greater of two.

pub max_within : (a b n : ℕ) → a ≤ n → b ≤ n → max a b ≤ n
max_within a b n h g = omega (arith, h, g)

pub within_left : (a b n : ℕ) → max a b ≤ n → a ≤ n
within_left a b n h = omega (arith, h)

pub within_right : (a b n : ℕ) → max a b ≤ n → b ≤ n
within_right a b n h = omega (arith, h)
