-- The lines of a file, one after another.
use Rattle.std.proofs.Common.{◌≡◌, ◌<◌, ◌≤◌, ◌+◌, ℕ, zero, suc, List, [], ◌∷◌, ◌++◌, map, length, take, drop, Bool, true, false, not}
use Rattle.std.proofs.Common.{Option, Some, None, refl, sym, ap, ◌∙◌, subst, inl, inr, ◌⊎◌, arith, append-nil, append_assoc, length-drop}
use Rattle.std.proofs.Common.{add-one, drop-cons, Bor, option_map}
use Rattle.std.proofs.lemmas.List.{map-append}
use Rattle.std.specs.Prelude.{◌==◌, if◌then◌else◌, Result, Ok, Err}
use Rattle.mg_text.specs.Call.{Call}
use Rattle.mg_text.specs.declared.place.Place.{Place}
use Rattle.mg_read.specs.First.{Judged, clean, here, later}
use Rattle.mg_read.specs.Passes.{span}
use Rattle.mg_calls.specs.declared.CallLine.{CallLine}
use Rattle.mg_read.specs.Letters.{not_line_end}
use Rattle.mg_calls.specs.Lines.{longer, lines, Line, numbered}
use Rattle.mg_calls.specs.Calls.{Says, CallAt, CallsOf, none, silent, one, lines_of, IsBadLine}
use Rattle.mg_calls.specs.Answer.{call_of, behind_feed, rest_behind}
use Rattle.mg_read.proofs.Spans.{either}
use Rattle.mg_calls.proofs.Spans.{span-true, span-false}

-- the lines that are left
abbrev pub lines_left : Option (List ℕ) → List (List ℕ)
lines_left None = []
lines_left (Some rest) = lines rest

feed_is : (c : ℕ) → not_line_end c ≡ false → (c == 10) ≡ true
feed_is c e = not_false (c == 10) e where
  not_false : (b : Bool) → not b ≡ false → b ≡ true
  not_false true e = refl
  not_false false e = sym e

no_feed_is : (c : ℕ) → not_line_end c ≡ true → (c == 10) ≡ false
no_feed_is c e = not_true (c == 10) e where
  not_true : (b : Bool) → not b ≡ true → b ≡ false
  not_true true e = sym e
  not_true false e = refl

-- a text is its first line and what stands behind it
pub first_line : (text : List ℕ) (end : ℕ) → end ≡ span not_line_end text → lines text ≡ take end text ∷ lines_left (rest_behind end text)
first_line [] zero e = refl
first_line [] (suc end) e = absurd (omega (arith, e))
first_line (c ∷ cs) end e = elim (either (not_line_end c)) [
  | inl t ↦ longer_line c cs end e t (first_line cs (span not_line_end cs) refl)
  | inr f ↦ ended_line c cs end e f
] where
  ended_line : (c : ℕ) (cs : List ℕ) (end : ℕ) → end ≡ span not_line_end (c ∷ cs) → not_line_end c ≡ false →
      lines (c ∷ cs) ≡ take end (c ∷ cs) ∷ lines_left (rest_behind end (c ∷ cs))
  ended_line c cs end e f =
      let start : end ≡ 0 = e ∙ span-false not_line_end c cs f in
      rw (feed_is c f, start) refl

  longer_line : (c : ℕ) (cs : List ℕ) (end : ℕ) → end ≡ span not_line_end (c ∷ cs) → not_line_end c ≡ true
      → lines cs ≡ take (span not_line_end cs) cs ∷ lines_left (rest_behind (span not_line_end cs) cs) →
      lines (c ∷ cs) ≡ take end (c ∷ cs) ∷ lines_left (rest_behind end (c ∷ cs))
  longer_line c cs end e t rest =
      let more : end ≡ suc (span not_line_end cs) = e ∙ span-true not_line_end c cs t in
      rw (no_feed_is c t, more) (ap (longer c) rest)

-- ---- line by line

-- how much is left, the end of the last line counted
abbrev pub left_size : Option (List ℕ) → ℕ
left_size None = 0
left_size (Some rest) = suc (length rest)

-- what the lines from a number on say is what the file says behind these calls, and so is which of them is bad
pub record Left (file : ℕ) (bytes : List ℕ) (rest : Option (List ℕ)) (line : ℕ) (calls : List CallAt) : Type 0 where
  pub found : (more : List CallAt) → CallsOf (numbered line (lines_left rest)) more → CallsOf (lines_of bytes) (calls ++ more)
  pub bad : (place : Option Place) → Judged (IsBadLine file) (numbered line (lines_left rest)) place →
      Judged (IsBadLine file) (lines_of bytes) place
  pub count : line + left_size rest ≤ length bytes + 2

pub left_start : (file : ℕ) (bytes : List ℕ) → Left file bytes (Some bytes) 1 []
left_start file bytes = record { found = λ more h. h; bad = λ place h. h; count = omega arith }

pub left_end : (file : ℕ) (bytes : List ℕ) (rest : Option (List ℕ)) (line : ℕ) (calls : List CallAt) → rest ≡ None →
    Left file bytes rest line calls → CallsOf (lines_of bytes) calls
left_end file bytes None line calls e left = subst (CallsOf (lines_of bytes)) (append-nil calls) (left.found [] none)
left_end file bytes (Some rest) line calls e left = absurd cc

behind_size : (xs : List ℕ) → left_size (behind_feed xs) ≤ length xs
behind_size [] = omega arith
behind_size (x ∷ xs) = omega arith

shorter : (end : ℕ) (text : List ℕ) → suc (left_size (rest_behind end text)) ≤ suc (length text)
shorter end text = let a = behind_size (drop end text) in let b = length-drop end text in omega (arith, a, b)

module _ (file : ℕ) (bytes text : List ℕ) (line : ℕ) (calls : List CallAt) (left : Left file bytes (Some text) line calls) (end : ℕ)
    (is : end ≡ span not_line_end text) where
  abbrev rest : Option (List ℕ)
  rest = rest_behind end text

  abbrev this : Line
  this = record { number = line; text = take end text }

  split : numbered line (lines text) ≡ this ∷ numbered (suc line) (lines_left rest)
  split = ap (numbered line) (first_line text end is)

  counted : line + 1 + left_size rest ≤ length bytes + 2
  counted = let a = left.count in let b = shorter end text in omega (arith, a, b)

  not_bad : (what : Option Call) → Says (take end text) what → (place : Place) → IsBadLine file this place → ⊥
  not_bad what says place bad = bad.0 what says

  -- the line says nothing
  pub left_silent : Says (take end text) None → Left file bytes rest (line + 1) calls
  left_silent says = subst (λ (n : ℕ). Left file bytes rest n calls) (sym (add-one line)) (record {
    found = λ more h. left.found more (subst (λ (z : List Line). CallsOf z more) (sym split) (silent says h));
    bad = λ place h. left.bad place (subst (λ (z : List Line). Judged (IsBadLine file) z place) (sym split) (later (not_bad None says) h));
    count = subst (λ (n : ℕ). n + left_size rest ≤ length bytes + 2) (add-one line) counted;
  })

  -- the line is a call
  pub left_call : (call : Call) (calls' : List CallAt) → Says (take end text) (Some call) →
      calls' ≡ calls ++ record { line = line; call = call } ∷ [] → Left file bytes rest (line + 1) calls'
  left_call call calls' says grown = subst (λ (z : List CallAt). Left file bytes rest (line + 1) z) (sym grown)
      (subst (λ (n : ℕ). Left file bytes rest n (calls ++ record { line = line; call = call } ∷ [])) (sym (add-one line)) (record {
        found = λ more h. subst (CallsOf (lines_of bytes)) (sym (append_assoc calls (record { line = line; call = call } ∷ []) more))
            (left.found (record { line = line; call = call } ∷ more)
            (subst (λ (z : List Line). CallsOf z (record { line = line; call = call } ∷ more)) (sym split) (one call says h)));
        bad = λ place h. left.bad place (subst (λ (z : List Line). Judged (IsBadLine file) z place) (sym split)
            (later (not_bad (Some call) says) h));
        count = subst (λ (n : ℕ). n + left_size rest ≤ length bytes + 2) (add-one line) counted;
      }))

  -- the line is bad
  pub first_bad : ((what : Option Call) → Says (take end text) what → ⊥) → Judged (IsBadLine file) (lines_of bytes)
      (Some (record { file = file; line = line; column = 1 }))
  first_bad bad = left.bad (Some (record { file = file; line = line; column = 1 }))
      (subst (λ (z : List Line). Judged (IsBadLine file) z (Some (record { file = file; line = line; column = 1 }))) (sym split)
      (here (bad, refl)))

-- what stands behind a line feed
pub behind_is : (end : ℕ) (bytes given : List ℕ) → end < length bytes → given ≡ drop (suc end) bytes → Some given ≡ rest_behind end bytes
behind_is end bytes given within e = ap (λ (z : List ℕ). Some z) e ∙ sym (ap behind_feed (drop-cons bytes end 0 within))

-- ---- in the code

-- where the text that is left is told
pub at_text : (file : ℕ) (bytes : List ℕ) (rest : Option (Bor (List ℕ))) (text : Bor (List ℕ)) (line : ℕ) (calls : List CallAt) →
    rest ≡ Some text → Left file bytes (option_map (λ b. b.now) rest) line calls → Left file bytes (Some text.now) line calls
at_text file bytes rest text line calls e left = subst (λ (o : Option (Bor (List ℕ))). Left file bytes (option_map (λ b. b.now) o) line
    calls) e left

pub silent_step : (file : ℕ) (bytes text : List ℕ) (line : ℕ) (calls calls' : List CallLine) (end : ℕ) (after : Option (List ℕ)) →
    Left file bytes (Some text) line (map call_of calls) → end ≡ span not_line_end text → Says (take end text) None → calls' ≡ calls →
    after ≡ rest_behind end text
    → Left file bytes after (line + 1) (map call_of calls')
silent_step file bytes text line calls calls' end after left is says same e =
    subst (λ (z : Option (List ℕ)). Left file bytes z (line + 1) (map call_of calls')) (sym e)
    (subst (λ (z : List CallLine). Left file bytes (rest_behind end text) (line + 1) (map call_of z)) (sym same)
    (left_silent file bytes text line (map call_of calls) left end is says))

pub call_step : (file : ℕ) (bytes text : List ℕ) (line : ℕ) (calls calls' : List CallLine) (end : ℕ) (after : Option (List ℕ))
    (item : CallLine) → Left file bytes (Some text) line (map call_of calls) → end ≡ span not_line_end text →
    Says (take end text) (Some (call_of item).call) → item.line ≡ line → calls' ≡ calls ++ item ∷ [] → after ≡ rest_behind end text
    → Left file bytes after (line + 1) (map call_of calls')
call_step file bytes text line calls calls' end after item left is says at grown e =
    let pushed : map call_of calls' ≡ map call_of calls ++ record { line = line; call = (call_of item).call } ∷ [] =
    ap (map call_of) grown ∙ map-append call_of calls (item ∷ []) ∙
    ap (λ (n : ℕ). map call_of calls ++ record { line = n; call = (call_of item).call } ∷ []) at in
    subst (λ (z : Option (List ℕ)). Left file bytes z (line + 1) (map call_of calls')) (sym e)
    (left_call file bytes text line (map call_of calls) left end is (call_of item).call (map call_of calls') says pushed)

pub smaller : (end : ℕ) (text : List ℕ) (after before : Option (List ℕ)) → after ≡ rest_behind end text → before ≡ Some text →
    left_size after < left_size before
smaller end text after before e e' =
    let a : left_size after ≡ left_size (rest_behind end text) = ap left_size e in
    let b : left_size before ≡ suc (length text) = ap left_size e' in
    let s = shorter end text in
    omega (arith, a, b, s)
