-- What is held against the first signature of its name is held against all earlier ones.
use Rattle.std.proofs.Common.{◌≡◌, ℕ, zero, suc, ◌+◌, List, [], ◌∷◌, ◌++◌, length, map, Option, Some, None, Bool, true, false, cond}
use Rattle.std.proofs.Common.{position, refl, sym, ap, ◌∙◌, subst, arith, append_assoc, append-nil, length-append}
use Rattle.std.specs.Prelude.{nat_lt, not, slice_get, if◌then◌else◌, ◌&&◌, ◌||◌}
use Rattle.std.specs.List.{Contains, list_any, position_or_len, flat_map}
use Rattle.std.specs.Option.{option_or}
use Rattle.std.specs.Str.{bytes_eq}
use Rattle.std.proofs.lemmas.Bool.Decides.{nat_tests}
use Rattle.std.proofs.lemmas.List.{map-append}
use Rattle.std.proofs.lemmas.Slice.Eq.{bytes_eq-Decides}
use Rattle.mg_text.specs.Call.{Name}
use Rattle.mg_read.specs.First.{Judged, clean, here, later, behind}
use Rattle.mg_read.proofs.Steps.{some_is}
use Rattle.ts_tree.specs.declared.parts.TypeName.{TypeName}
use Rattle.ts_tree.specs.declared.parts.TypeName.TheVariants as types
use Rattle.ts_parse.specs.declared.written.WrittenMethod.{WrittenMethod}
use Rattle.ts_parse.specs.declared.written.WrittenEntry.{WrittenEntry}
use Rattle.ts_parse.specs.declared.written.WrittenEntry.TheVariants as entries
use Rattle.ts_parse.specs.declared.written.WrittenState.{WrittenState}
use Rattle.ts_parse.specs.Written.{WMethod, wmethod_of}
use Rattle.ts_read.specs.Conditions.{blamed, HasOther, SameSignature}
use Rattle.ts_read.specs.inner.Finding.{is_in, first_some}
use Rattle.ts_read.specs.inner.Signing.{type_eq, types_eq, Sig, sig_in, Firsts, with_method, with_entries, with_states, is_like, first_sig}
use Rattle.ts_read.specs.inner.Signing.{other_method}
use Rattle.ts_read.proofs.Judges.{is_in_any, true_false}
use Rattle.ts_read.proofs.Contents.{kept_in}

-- ---- equal types

type_is : (a b : TypeName) → type_eq a b ≡ true → a ≡ b
type_is types.Void types.Void e = refl
type_is types.Int types.Int e = refl
type_is types.Boolean types.Boolean e = refl
type_is types.Text types.Text e = refl
type_is (types.Named a) (types.Named b) e = ap types.Named ((bytes_eq-Decides a b).0 e)
type_is a b e = absurd cc

type_self : (a : TypeName) → type_eq a a ≡ true
type_self types.Void = refl
type_self types.Int = refl
type_self types.Boolean = refl
type_self types.Text = refl
type_self (types.Named a) = (bytes_eq-Decides a a).1 refl

and_is : (a b : Bool) → (a && b) ≡ true → (a ≡ true) × (b ≡ true)
and_is true b h = (refl, h)
and_is false b h = absurd cc

types_is : (xs ys : List TypeName) → types_eq xs ys ≡ true → xs ≡ ys
types_is [] [] e = refl
types_is [] (y ∷ ys) e = absurd cc
types_is (x ∷ xs) [] e = absurd cc
types_is (x ∷ xs) (y ∷ ys) e =
    let h = and_is (type_eq x y) (types_eq xs ys) e in
    ap (λ (z : TypeName). z ∷ xs) (type_is x y h.0) ∙ ap (λ (zs : List TypeName). y ∷ zs) (types_is xs ys h.1)

types_self : (xs : List TypeName) → types_eq xs xs ≡ true
types_self [] = refl
types_self (x ∷ xs) = rw (type_self x, types_self xs) refl

like_is : (s : Sig) (m : WrittenMethod) → is_like (Some s) m ≡ true → s ≡ sig_in m
like_is s m e =
    let h = and_is (type_eq s.result m.result) (types_eq s.params m.params.items) e in
    let F : TypeName → List TypeName → Sig = λ r p. record { result = r; params = p } in
    ap (λ (r : TypeName). F r s.params) (type_is s.result m.result h.0)
    ∙ ap (λ (p : List TypeName). F m.result p) (types_is s.params m.params.items h.1)

like_self : (m : WrittenMethod) → is_like (Some (sig_in m)) m ≡ true
like_self m = rw (type_self m.result, types_self m.params.items) refl

-- ---- the signature beside a name

abbrev pub sig_at : List Name → List Sig → Name → Option Sig
sig_at [] ss t = None
sig_at (n ∷ ns) [] t = None
sig_at (n ∷ ns) (s ∷ ss) t = if bytes_eq t n then Some s else sig_at ns ss t

below_more : (n : ℕ) → nat_lt 0 (suc n) ≡ true
below_more n = grind (arith, nat_tests)

both_more : (k n : ℕ) → nat_lt (1 + k) (suc n) ≡ nat_lt k n
both_more k n = grind (arith, nat_tests)

none_picked : (o : Option ℕ) → first_sig [] o ≡ None
none_picked None = refl
none_picked (Some k) = refl

pick_more : (s : Sig) (ss : List Sig) (k len : ℕ) → first_sig (s ∷ ss) (cond (nat_lt (1 + k) (suc len)) (Some (1 + k)) None) ≡ first_sig ss
    (cond (nat_lt k len) (Some k) None)
pick_more s ss k len = ap (λ (b : Bool). first_sig (s ∷ ss) (cond b (Some (1 + k)) None)) (both_more k len) ∙ go (nat_lt k len) where
  go : (b : Bool) → first_sig (s ∷ ss) (cond b (Some (1 + k)) None) ≡ first_sig ss (cond b (Some k) None)
  go true = let e : 1 + k ≡ suc k = omega arith in ap (λ (j : ℕ). slice_get (s ∷ ss) j) e
  go false = refl

look : (ns : List Name) (ss : List Sig) (t : Name) → first_sig ss (position (bytes_eq t) ns) ≡ sig_at ns ss t
look [] ss t = refl
look (n ∷ ns) [] t = none_picked (position (bytes_eq t) (n ∷ ns))
look (n ∷ ns) (s ∷ ss) t = go (bytes_eq t n) (look ns ss t) where
  go : (b : Bool) → first_sig ss (position (bytes_eq t) ns) ≡ sig_at ns ss t
      → first_sig (s ∷ ss) (cond (nat_lt (cond (not b) (1 + position_or_len (bytes_eq t) ns) 0) (suc (length ns)))
      (Some (cond (not b) (1 + position_or_len (bytes_eq t) ns) 0)) None) ≡ cond b (Some s) (sig_at ns ss t)
  go true h = ap (λ (b : Bool). first_sig (s ∷ ss) (cond b (Some 0) None)) (below_more (length ns))
  go false h = pick_more s ss (position_or_len (bytes_eq t) ns) (length ns) ∙ h

sig_push : (ns : List Name) (ss : List Sig) (x : Name) (s : Sig) (t : Name) → length ns ≡ length ss
    → sig_at (ns ++ x ∷ []) (ss ++ s ∷ []) t ≡ option_or (sig_at ns ss t) (if bytes_eq t x then Some s else None)
sig_push [] [] x s t e = refl
sig_push [] (r ∷ ss) x s t e = absurd (omega arith)
sig_push (n ∷ ns) [] x s t e = absurd (omega arith)
sig_push (n ∷ ns) (r ∷ ss) x s t e = go (bytes_eq t n) (sig_push ns ss x s t (omega arith)) where
  go : (b : Bool) → sig_at (ns ++ x ∷ []) (ss ++ s ∷ []) t ≡ option_or (sig_at ns ss t) (if bytes_eq t x then Some s else None)
      → cond b (Some r) (sig_at (ns ++ x ∷ []) (ss ++ s ∷ []) t) ≡ option_or (cond b (Some r) (sig_at ns ss t))
      (if bytes_eq t x then Some s else None)
  go true h = refl
  go false h = h

sig_there : (ns : List Name) (ss : List Sig) (t : Name) → length ns ≡ length ss → list_any (bytes_eq t) ns ≡ true
    → (s : Sig) × (sig_at ns ss t ≡ Some s)
sig_there [] ss t e h = absurd cc
sig_there (n ∷ ns) [] t e h = absurd (omega arith)
sig_there (n ∷ ns) (s ∷ ss) t e h = go (bytes_eq t n) h (λ k. sig_there ns ss t (omega arith) k) where
  go : (b : Bool) → (b || list_any (bytes_eq t) ns) ≡ true → (list_any (bytes_eq t) ns ≡ true → (r : Sig) × (sig_at ns ss t ≡ Some r))
      → (r : Sig) × (cond b (Some s) (sig_at ns ss t) ≡ Some r)
  go true h k = (s, refl)
  go false h k = k h

-- ---- the table

abbrev pub lookup : Firsts → Name → Option Sig
lookup f t = sig_at f.names f.sigs t

abbrev Even : Firsts → Type 0
Even f = length f.names ≡ length f.sigs

abbrev one : WrittenMethod → Name → Option Sig
one m t = if bytes_eq t m.name.text then Some (sig_in m) else None

abbrev first_of : List WrittenMethod → Name → Option Sig
first_of [] t = None
first_of (m ∷ ms) t = option_or (one m t) (first_of ms t)

or_none : (o : Option Sig) → option_or o None ≡ o
or_none None = refl
or_none (Some s) = refl

or_or : (a b c : Option Sig) → option_or (option_or a b) c ≡ option_or a (option_or b c)
or_or None b c = refl
or_or (Some s) b c = refl

with_even : (f : Firsts) (m : WrittenMethod) → Even f → Even (with_method f m)
with_even f m e = go (is_in f.names m.name.text) where
  go : (b : Bool) → Even (cond b f (record { names = f.names ++ m.name.text ∷ []; sigs = f.sigs ++ sig_in m ∷ [] }))
  go true = e
  go false = omega (arith, e, length-append f.names (m.name.text ∷ []), length-append f.sigs (sig_in m ∷ []))

with_look : (f : Firsts) (m : WrittenMethod) (t : Name) → Even f → lookup (with_method f m) t ≡ option_or (lookup f t) (one m t)
with_look f m t e = go (is_in f.names m.name.text) refl where
  there : (b : Bool) → bytes_eq t m.name.text ≡ b → is_in f.names m.name.text ≡ true
      → lookup f t ≡ option_or (lookup f t) (cond b (Some (sig_in m)) None)
  there true same h =
      let is : t ≡ m.name.text = (bytes_eq-Decides t m.name.text).0 same in
      let s = sig_there f.names f.sigs m.name.text e (is_in_any f.names m.name.text h) in
      let found : lookup f t ≡ Some s.0 = ap (λ (x : Name). lookup f x) is ∙ s.1 in
      found ∙ sym (ap (λ (o : Option Sig). option_or o (Some (sig_in m))) found)
  there false same h = sym (or_none (lookup f t))

  go : (b : Bool) → is_in f.names m.name.text ≡ b → lookup
      (cond b f (record { names = f.names ++ m.name.text ∷ []; sigs = f.sigs ++ sig_in m ∷ [] })) t ≡ option_or (lookup f t) (one m t)
  go true h = there (bytes_eq t m.name.text) refl h
  go false h = sig_push f.names f.sigs m.name.text (sig_in m) t e

-- with methods, one after another
abbrev with_methods : Firsts → List WrittenMethod → Firsts
with_methods f [] = f
with_methods f (m ∷ ms) = with_methods (with_method f m) ms

methods_look : (f : Firsts) (ms : List WrittenMethod) (t : Name) → Even f
    → lookup (with_methods f ms) t ≡ option_or (lookup f t) (first_of ms t)
methods_look f [] t e = sym (or_none (lookup f t))
methods_look f (m ∷ ms) t e =
    methods_look (with_method f m) ms t (with_even f m e)
    ∙ ap (λ (o : Option Sig). option_or o (first_of ms t)) (with_look f m t e)
    ∙ or_or (lookup f t) (one m t) (first_of ms t)

methods_append : (f : Firsts) (xs ys : List WrittenMethod) → with_methods f (xs ++ ys) ≡ with_methods (with_methods f xs) ys
methods_append f [] ys = refl
methods_append f (x ∷ xs) ys = methods_append (with_method f x) xs ys

-- the methods of all states, in the order of the text
abbrev pub kept_methods : List WrittenState → List WrittenMethod
kept_methods ss = flat_map (λ s. kept_in s.entries.items) ss

entries_flat : (f : Firsts) (es : List WrittenEntry) → with_entries f es ≡ with_methods f (kept_in es)
entries_flat f [] = refl
entries_flat f (entries.Method m ∷ es) = entries_flat (with_method f m) es
entries_flat f (entries.DropEnd place ∷ es) = entries_flat f es

states_flat : (f : Firsts) (ss : List WrittenState) → with_states f ss ≡ with_methods f (kept_methods ss)
states_flat f [] = refl
states_flat f (s ∷ ss) =
    states_flat (with_entries f s.entries.items) ss
    ∙ ap (λ (g : Firsts). with_methods g (kept_methods ss)) (entries_flat f s.entries.items)
    ∙ sym (methods_append f (kept_in s.entries.items) (kept_methods ss))

pub table_look : (ss : List WrittenState) (t : Name)
    → lookup (with_states (record { names = []; sigs = [] }) ss) t ≡ first_of (kept_methods ss) t
table_look ss t =
    ap (λ (f : Firsts). lookup f t) (states_flat (record { names = []; sigs = [] }) ss)
    ∙ methods_look (record { names = []; sigs = [] }) (kept_methods ss) t refl

-- ---- against the earlier ones

first_append : (xs ys : List WrittenMethod) (t : Name) → first_of (xs ++ ys) t ≡ option_or (first_of xs t) (first_of ys t)
first_append [] ys t = refl
first_append (x ∷ xs) ys t = ap (λ (o : Option Sig). option_or (one x t) o) (first_append xs ys t)
    ∙ sym (or_or (one x t) (first_of xs t) (first_of ys t))

one_self : (m : WrittenMethod) → one m m.name.text ≡ Some (sig_in m)
one_self m = ap (λ (b : Bool). cond b (Some (sig_in m)) None) ((bytes_eq-Decides m.name.text m.name.text).1 refl)

-- where a signature among methods comes from
record From (xs : List WrittenMethod) (t : Name) (s : Sig) : Type 0 where
  method : WrittenMethod
  among : Contains (map wmethod_of xs) (wmethod_of method)
  named : method.name.text ≡ t
  signed : sig_in method ≡ s

first_from : (xs : List WrittenMethod) (t : Name) (s : Sig) → first_of xs t ≡ Some s → From xs t s
first_from [] t s e = absurd cc
first_from (x ∷ xs) t s e = go (bytes_eq t x.name.text) refl e (λ h. first_from xs t s h) where
  go : (b : Bool) → bytes_eq t x.name.text ≡ b → option_or (cond b (Some (sig_in x)) None) (first_of xs t) ≡ Some s
      → (first_of xs t ≡ Some s → From xs t s) → From (x ∷ xs) t s
  go true same e more =
      record {
        method = x;
        among = (0, omega arith, refl);
        named = sym ((bytes_eq-Decides t x.name.text).0 same);
        signed =
            some_is (sig_in x) s e;
      }
  go false same e more =
      let f = more e in
      record { method = f.method; among = (suc f.among.0, omega (arith, f.among.1), f.among.2); named = f.named; signed = f.signed }

-- each of these has the signature that the table tells
abbrev pub Agrees : Firsts → List WrittenMethod → Type 0
Agrees T [] = Unit {0}
Agrees T (n ∷ ns) = (lookup T n.name.text ≡ Some (sig_in n)) × Agrees T ns

agrees_push : (T : Firsts) (ns : List WrittenMethod) (m : WrittenMethod) → Agrees T ns → lookup T m.name.text ≡ Some (sig_in m)
    → Agrees T (ns ++ m ∷ [])
agrees_push T [] m a e = (e, tt)
agrees_push T (n ∷ ns) m a e = (a.0, agrees_push T ns m a.1 e)

abbrev wsig : WMethod → Sig
wsig w = record { result = w.result; params = w.params }

agrees_at : (T : Firsts) (ns : List WrittenMethod) (w : WMethod) → Agrees T ns → Contains (map wmethod_of ns) w
    → lookup T w.name.text ≡ Some (wsig w)
agrees_at T [] w a (k, lt, e) = absurd (omega arith)
agrees_at T (n ∷ ns) w a (zero, lt, e) = subst (λ (v : WMethod). lookup T v.name.text ≡ Some (wsig v)) e a.0
agrees_at T (n ∷ ns) w a (suc k, lt, e) = agrees_at T ns w a.1 (k, omega arith, e)

abbrev Tells : Firsts → List WrittenMethod → Type 0
Tells T ms = (t : Name) → lookup T t ≡ first_of ms t

-- what the table tells of a method behind earlier ones
told : (T : Firsts) (earlier : List WrittenMethod) (m : WrittenMethod) (ms : List WrittenMethod) → Tells T (earlier ++ m ∷ ms)
    → lookup T m.name.text ≡ option_or (first_of earlier m.name.text) (Some (sig_in m))
told T earlier m ms tells =
    tells m.name.text ∙ first_append earlier (m ∷ ms) m.name.text
    ∙ ap (λ (o : Option Sig). option_or (first_of earlier m.name.text) (option_or o (first_of ms m.name.text))) (one_self m)

-- a method that is like what the table tells agrees with it
like_agrees : (m : WrittenMethod) (o L : Option Sig) → L ≡ option_or o (Some (sig_in m)) → is_like L m ≡ true → L ≡ Some (sig_in m)
like_agrees m None L e h = e
like_agrees m (Some s) L e h = e ∙ ap (λ (r : Sig). Some r) (like_is s m (ap (λ (k : Option Sig). is_like k m) (sym e) ∙ h))

-- and one that is not has an earlier one of another signature
unlike_other : (earlier : List WrittenMethod) (m : WrittenMethod) (o L : Option Sig) → first_of earlier m.name.text ≡ o
    → L ≡ option_or o (Some (sig_in m)) → is_like L m ≡ false
    → HasOther (map wmethod_of earlier, wmethod_of m) (blamed m.name)
unlike_other earlier m None L f e h = absurd (true_false (ap (λ (k : Option Sig). is_like k m) e ∙ like_self m) h)
unlike_other earlier m (Some s) L f e h =
    let g = first_from earlier m.name.text s f in
    (refl, wmethod_of g.method, g.among, g.named, (λ same. apart g same)) where
      apart : (g : From earlier m.name.text s) → SameSignature (wmethod_of g.method) (wmethod_of m) → ⊥
      apart g same =
          let F : TypeName → List TypeName → Sig = λ r p. record { result = r; params = p } in
          let is : sig_in g.method ≡ sig_in m = ap (λ (r : TypeName). F r g.method.params.items) same.0
          ∙ ap (λ (p : List TypeName). F m.result p) same.1 in
          let like : is_like (Some s) m ≡ true = ap (λ (r : Sig). is_like (Some r) m) (sym g.signed ∙ is) ∙ like_self m in
          true_false (ap (λ (k : Option Sig). is_like k m) e ∙ like) h

pub signed_judged : (T : Firsts) (earlier ms : List WrittenMethod) → Tells T (earlier ++ ms) → Agrees T earlier
    → Judged HasOther (behind (map wmethod_of earlier) (map wmethod_of ms)) (first_some (map (other_method T) ms))
signed_judged T earlier [] tells a = clean
signed_judged T earlier (m ∷ ms) tells a =
    let L = look T.names T.sigs m.name.text ∙ told T earlier m ms tells in
    let more : Agrees T (earlier ++ m ∷ []) → Judged HasOther (behind (map wmethod_of earlier ++ wmethod_of m ∷ []) (map wmethod_of ms))
    (first_some (map (other_method T) ms)) =
    λ b. subst (λ (ws : List WMethod). Judged HasOther (behind ws (map wmethod_of ms)) (first_some (map (other_method T) ms)))
    (map-append wmethod_of earlier (m ∷ []))
    (signed_judged T (earlier ++ m ∷ []) ms
    (λ t. tells t ∙ ap (λ (xs : List WrittenMethod). first_of xs t) (sym (append_assoc earlier (m ∷ []) ms))) b) in
    go (is_like (first_sig T.sigs (position (bytes_eq m.name.text) T.names)) m) refl L more where
      none : lookup T m.name.text ≡ Some (sig_in m) → (w : WMethod) → Contains (map wmethod_of earlier) w → w.name.text ≡ m.name.text
          → (SameSignature w (wmethod_of m) → ⊥) → ⊥
      none agreed w among named differs =
          let same : wsig w ≡ sig_in m = some_is (wsig w) (sig_in m)
          (sym (agrees_at T earlier w a among) ∙ ap (λ (t : Name). lookup T t) named ∙ agreed) in
          differs (ap (λ (s : Sig). s.result) same, ap (λ (s : Sig). s.params) same)

      go : (b : Bool) → is_like (first_sig T.sigs (position (bytes_eq m.name.text) T.names)) m ≡ b
          → first_sig T.sigs (position (bytes_eq m.name.text) T.names) ≡ option_or (first_of earlier m.name.text) (Some (sig_in m))
          → (Agrees T (earlier ++ m ∷ []) → Judged HasOther (behind (map wmethod_of earlier ++ wmethod_of m ∷ []) (map wmethod_of ms))
          (first_some (map (other_method T) ms)))
          → Judged HasOther ((map wmethod_of earlier, wmethod_of m) ∷ behind (map wmethod_of earlier ++ wmethod_of m ∷ [])
          (map wmethod_of ms))
          (option_or (cond b None (Some (blamed m.name))) (first_some (map (other_method T) ms)))
      go true h L more =
          let agreed : lookup T m.name.text ≡ Some (sig_in m) =
          sym (look T.names T.sigs m.name.text) ∙ like_agrees m (first_of earlier m.name.text)
          (first_sig T.sigs (position (bytes_eq m.name.text) T.names)) L h in
          later (λ c x. none agreed x.1 x.2 x.3 x.4) (more (agrees_push T earlier m a agreed))
      go false h L more = here (unlike_other earlier m (first_of earlier m.name.text)
          (first_sig T.sigs (position (bytes_eq m.name.text) T.names)) refl L h)

-- where none differs, all agree
pub all_agree : (T : Firsts) (earlier ms : List WrittenMethod) → Tells T (earlier ++ ms) → Agrees T earlier
    → first_some (map (other_method T) ms) ≡ None → Agrees T (earlier ++ ms)
all_agree T earlier [] tells a e = subst (Agrees T) (sym (append-nil earlier)) a
all_agree T earlier (m ∷ ms) tells a e =
    let L = look T.names T.sigs m.name.text ∙ told T earlier m ms tells in
    let more : lookup T m.name.text ≡ Some (sig_in m) → first_some (map (other_method T) ms) ≡ None → Agrees T (earlier ++ m ∷ ms) =
    λ agreed rest. subst (Agrees T) (append_assoc earlier (m ∷ []) ms)
    (all_agree T (earlier ++ m ∷ []) ms
    (λ t. tells t ∙ ap (λ (xs : List WrittenMethod). first_of xs t) (sym (append_assoc earlier (m ∷ []) ms)))
    (agrees_push T earlier m a agreed) rest) in
    go (is_like (first_sig T.sigs (position (bytes_eq m.name.text) T.names)) m) refl e L more where
      go : (b : Bool) → is_like (first_sig T.sigs (position (bytes_eq m.name.text) T.names)) m ≡ b
          → option_or (cond b None (Some (blamed m.name))) (first_some (map (other_method T) ms)) ≡ None
          → first_sig T.sigs (position (bytes_eq m.name.text) T.names) ≡ option_or (first_of earlier m.name.text) (Some (sig_in m))
          → (lookup T m.name.text ≡ Some (sig_in m) → first_some (map (other_method T) ms) ≡ None → Agrees T (earlier ++ m ∷ ms))
          → Agrees T (earlier ++ m ∷ ms)
      go true h e L more =
          more (sym (look T.names T.sigs m.name.text)
          ∙ like_agrees m (first_of earlier m.name.text) (first_sig T.sigs (position (bytes_eq m.name.text) T.names)) L h) e
      go false h e L more = absurd cc
