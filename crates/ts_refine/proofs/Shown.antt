-- A pair is judged along the methods of its second place, flaws and calls together.
use Rattle.std.proofs.Common.{◌≡◌, ℕ, ◌+◌, ◌<◌, ◌≤◌, Bool, true, false, not, List, ◌∷◌, length, get_or, drop, map, Option, Some, None}
use Rattle.std.proofs.Common.{is_none, is_some, if◌then◌else◌, refl, sym, ap, ◌∙◌}
use Rattle.std.proofs.lemmas.List.{at_drop_more, at_drop_all}
use Rattle.mg_text.specs.Call.{Name}
use Rattle.ts_tree.specs.declared.parts.Method.{Method as KeptMethod}
use Rattle.ts_tree.specs.Typestate.{Method, Typestate}
use Rattle.ts_tree.specs.Calls.{offered_in, may_end}
use Rattle.ts_tree.specs.View.{method_of}
use Rattle.ts_refine.specs.declared.verdict.Pair.{Pair}
use Rattle.ts_refine.specs.declared.verdict.Reason.{Reason}
use Rattle.ts_refine.specs.declared.judge.Flaw.{Flaw}
use Rattle.ts_refine.specs.Orders.{methods_at}
use Rattle.ts_refine.specs.inner.Judging.{flaw_of, or_by, reason_in, or_last, all_held, arrows_at, arrows_in, arrows, are_shown, is_shown}
use Rattle.ts_refine.proofs.Stepping.{all_held-append}

-- the first of the methods, and the others
first_shown : (ps : List Pair) (ls : List Method) (m : Method) (ms : List Method)
    → are_shown ps ls (m ∷ ms) ≡ (if is_some (flaw_of (offered_in ls m.name) m) then false else
    (if all_held ps (arrows_at (offered_in ls m.name) m) then are_shown ps ls ms else false))
first_shown ps ls m ms =
    ap (λ (t : Bool). if is_none (reason_in ls (m ∷ ms)) then t else false) (all_held-append ps (arrows_at (offered_in ls m.name) m)
    (arrows_in ls ms))
    ∙ go (flaw_of (offered_in ls m.name) m) (is_none (reason_in ls ms)) refl (all_held ps (arrows_at (offered_in ls m.name) m))
    (all_held ps (arrows_in ls ms)) where
      go : (o : Option Flaw) (r : Bool) → is_none (reason_in ls ms) ≡ r → (s t : Bool)
          → (if is_none (or_by o m.name (reason_in ls ms)) then (if s then t else false) else false) ≡
          (if is_some o then false else (if s then (if is_none (reason_in ls ms) then t else false) else false))
      go (Some flaw) r e s t = refl
      go None true e true t = refl
      go None true e false t = ap (λ (r : Bool). if r then false else false) e
      go None false e true t = refl
      go None false e false t = ap (λ (r : Bool). if r then false else false) e

-- one method's turn, with what the program knows of it
shown_turn : (ps : List Pair) (ls : List Method) (ms : List KeptMethod) (i : ℕ) (m : KeptMethod) (o : Option Method) (name : Name) →
    i < length ms → m ≡ get_or ms i m
    → name ≡ m.name → o ≡ offered_in ls name
    → are_shown ps ls (map method_of (drop i ms)) ≡ (if is_some (flaw_of o (method_of m)) then false else
    (if all_held ps (arrows_at o (method_of m)) then are_shown ps ls (map method_of (drop (i + 1) ms)) else false))
shown_turn ps ls ms i m o name h e n f =
    at_drop_more (λ xs. are_shown ps ls (map method_of xs)) ms i m h
    ∙ ap (λ (x : KeptMethod). are_shown ps ls (method_of x ∷ map method_of (drop (i + 1) ms))) (sym e)
    ∙ first_shown ps ls (method_of m) (map method_of (drop (i + 1) ms))
    ∙ ap (λ (o : Option Method). if is_some (flaw_of o (method_of m)) then false else (if all_held ps (arrows_at o (method_of m)) then
    are_shown ps ls (map method_of (drop (i + 1) ms)) else false)) (sym (f ∙ ap (offered_in ls) n))

by_test : (s t : Bool) (x y : Bool) → s ≡ t → (if s then x else y) ≡ (if t then x else y)
by_test s t x y e = ap (λ (s : Bool). if s then x else y) e

pub flawed : (ps : List Pair) (ls : List Method) (ms : List KeptMethod) (i : ℕ) (m : KeptMethod) (o : Option Method) (name : Name) →
    i < length ms → m ≡ get_or ms i m
    → name ≡ m.name → o ≡ offered_in ls name → is_some (flaw_of o (method_of m)) ≡ true → are_shown ps ls (map method_of (drop i ms)) ≡
    false
flawed ps ls ms i m o name h e n f some =
    shown_turn ps ls ms i m o name h e n f ∙ by_test (is_some (flaw_of o (method_of m))) true false
    (if all_held ps (arrows_at o (method_of m)) then are_shown ps ls (map method_of (drop (i + 1) ms)) else false) some

pub leads_out : (ps : List Pair) (ls : List Method) (ms : List KeptMethod) (i : ℕ) (m : KeptMethod) (o : Option Method) (name : Name) →
    i < length ms → m ≡ get_or ms i m
    → name ≡ m.name → o ≡ offered_in ls name → is_some (flaw_of o (method_of m)) ≡ false → all_held ps (arrows_at o (method_of m)) ≡ false
    → are_shown ps ls (map method_of (drop i ms)) ≡ false
leads_out ps ls ms i m o name h e n f some out =
    shown_turn ps ls ms i m o name h e n f
    ∙ by_test (is_some (flaw_of o (method_of m))) false false (if all_held ps (arrows_at o (method_of m)) then are_shown ps ls
    (map method_of (drop (i + 1) ms)) else false) some
    ∙ by_test (all_held ps (arrows_at o (method_of m))) false (are_shown ps ls (map method_of (drop (i + 1) ms))) false out

pub goes_on : (ps : List Pair) (ls : List Method) (ms : List KeptMethod) (i : ℕ) (m : KeptMethod) (o : Option Method) (name : Name) →
    i < length ms → m ≡ get_or ms i m
    → name ≡ m.name → o ≡ offered_in ls name → is_some (flaw_of o (method_of m)) ≡ false → all_held ps (arrows_at o (method_of m)) ≡ true
    → are_shown ps ls (map method_of (drop i ms)) ≡ are_shown ps ls (map method_of (drop (i + 1) ms))
goes_on ps ls ms i m o name h e n f some within =
    shown_turn ps ls ms i m o name h e n f
    ∙ by_test (is_some (flaw_of o (method_of m))) false false (if all_held ps (arrows_at o (method_of m)) then are_shown ps ls
    (map method_of (drop (i + 1) ms)) else false) some
    ∙ by_test (all_held ps (arrows_at o (method_of m))) true (are_shown ps ls (map method_of (drop (i + 1) ms))) false within

pub all_shown : (ps : List Pair) (ls : List Method) (ms : List KeptMethod) (i : ℕ) → length ms ≤ i →
    are_shown ps ls (map method_of (drop i ms)) ≡ true
all_shown ps ls ms i h = at_drop_all (λ xs. are_shown ps ls (map method_of xs)) ms i h

-- a pair, by its methods and whether an object may be left there
pub by_parts : (a b : Typestate) (ps : List Pair) (x : Pair)
    → is_shown a b ps x ≡ (if are_shown ps (methods_at a x.a) (methods_at b x.b) then (if may_end b x.b then may_end a x.a else true) else
    false)
by_parts a b ps x = go (reason_in (methods_at a x.a) (methods_at b x.b)) (may_end b x.b) (may_end a x.a) (all_held ps (arrows a b x)) where
  go : (o : Option Reason) (s t held : Bool)
      → (if is_none (or_last o (if s then not t else false)) then held else false) ≡
      (if (if is_none o then held else false) then (if s then t else true) else false)
  go (Some reason) s t held = refl
  go None true true true = refl
  go None true true false = refl
  go None true false true = refl
  go None true false false = refl
  go None false t true = refl
  go None false t false = refl

pub ruleset shown = (by_parts)
