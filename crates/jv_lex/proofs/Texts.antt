-- Texts: where they close, their characters, and their first bad escape.
use Rattle.std.proofs.Common.{◌≡◌, ℕ, suc, ◌+◌, List, [], ◌∷◌, ◌++◌, length, drop, Bool, true, false, cond, eqb, Option, Some, None, refl}
use Rattle.std.proofs.Common.{sym, ap, ◌∙◌, inl, inr, ◌⊎◌, add-one, append_assoc, arith}
use Rattle.std.specs.List.{AllByRecursion}
use Rattle.std.specs.Prelude.{option_map, ◌||◌, not, Ok, Err}
use Rattle.std.proofs.lemmas.Bool.{eqb-true}
use Rattle.std.proofs.lemmas.List.{take_at}
use Rattle.mg_read.proofs.Steps.{some_is, none_is_not, chosen}
use Rattle.mg_read.proofs.Spans.{map_some, either}
use Rattle.jv_lex.specs.declared.fault.Cause.TheVariants as causes
use Rattle.jv_lex.specs.Letters.{is_line_end, is_plain, is_escape}
use Rattle.jv_lex.specs.Written.{Written, plain, escaped, spelled, IsCharacter, IsStroke}
use Rattle.jv_lex.specs.Pieces.{text}
use Rattle.jv_lex.specs.inner.Front.{closing_at, bad_at, characters, whole_text, closed_text, text_at}

-- ---- bytes of texts

-- one of two tests passed
pub or_is : (a b : Bool) → (a || b) ≡ true → (a ≡ true) ⊎ (b ≡ true)
or_is true b h = inl refl
or_is false b h = inr h

-- both tests failed
pub neither : (a b : Bool) → (a || b) ≡ false → (a ≡ false) × (b ≡ false)
neither true b h = absurd cc
neither false b h = (refl, h)

-- a byte that stands for itself
pub record Plain (c : ℕ) : Type 0 where
  pub quote : eqb c 34 ≡ false
  pub backslash : eqb c 92 ≡ false
  pub in_line : is_line_end c ≡ false

pub plain_is : (c : ℕ) → is_plain c ≡ true → Plain c
plain_is c h = go (eqb c 34) (eqb c 92) (is_line_end c) refl refl refl h where
  go : (q b l : Bool) → eqb c 34 ≡ q → eqb c 92 ≡ b → is_line_end c ≡ l → not (q || (b || l)) ≡ true → Plain c
  go true b l e f g h = absurd cc
  go false true l e f g h = absurd cc
  go false false true e f g h = absurd cc
  go false false false e f g h = record { quote = e; backslash = f; in_line = g }

plain_of : (c : ℕ) → eqb c 34 ≡ false → eqb c 92 ≡ false → is_line_end c ≡ false → is_plain c ≡ true
plain_of c q b l = rw (q, b, l) refl

-- no escape ends a line
escape_in_line : (c : ℕ) → is_escape c ≡ true → is_line_end c ≡ false
escape_in_line c h = elim (either (is_line_end c)) [
  | inl t ↦ elim (or_is (eqb c 10) (eqb c 13) t) [
    | inl e ↦ let is : c ≡ 10 = eqb-true c 10 e in let no : false ≡ true = sym (ap is_escape is) ∙ h in absurd cc
    | inr e ↦ let is : c ≡ 13 = eqb-true c 13 e in let no : false ≡ true = sym (ap is_escape is) ∙ h in absurd cc
  ]
  | inr f ↦ f
]

-- characters are strokes
pub strokes : (ws : List Written) → AllByRecursion IsCharacter ws → AllByRecursion IsStroke ws
strokes [] h = tt
strokes (plain c ∷ ws) h = (h.0, strokes ws h.1)
strokes (escaped c ∷ ws) h = (escape_in_line c h.0, strokes ws h.1)

pub spelled_append : (us ws : List Written) → spelled (us ++ ws) ≡ spelled us ++ spelled ws
spelled_append [] ws = refl
spelled_append (plain c ∷ us) ws = ap (λ (z : List ℕ). c ∷ z) (spelled_append us ws)
spelled_append (escaped c ∷ us) ws = ap (λ (z : List ℕ). 92 ∷ c ∷ z) (spelled_append us ws)

strokes_append : (us ws : List Written) → AllByRecursion IsStroke us → AllByRecursion IsStroke ws → AllByRecursion IsStroke (us ++ ws)
strokes_append [] ws h k = k
strokes_append (u ∷ us) ws h k = (h.0, strokes_append us ws h.1 k)

-- ---- the quote that closes a text

-- these bytes are strokes, n bytes long, and a quote behind them
pub record Closed (bytes : List ℕ) (n : ℕ) : Type 0 where
  pub ws : List Written
  pub after : List ℕ
  pub parts : bytes ≡ spelled ws ++ 34 ∷ after
  pub strokes : AllByRecursion IsStroke ws
  pub long : n ≡ length (spelled ws)

-- the same behind a backslash
pub record Behind (bytes : List ℕ) (n : ℕ) : Type 0 where
  pub byte : ℕ
  pub rest : List ℕ
  pub more : ℕ
  pub split : bytes ≡ byte ∷ rest
  pub in_line : is_line_end byte ≡ false
  pub closed : Closed rest more
  pub one : more + 1 ≡ n

abbrev pub ClosedAfter : Bool → List ℕ → ℕ → Type 0
ClosedAfter true bytes n = Behind bytes n
ClosedAfter false bytes n = Closed bytes n

-- one more stroke, of which the first byte is c
one_more : (c : ℕ) (cs : List ℕ) (m n : ℕ) (b : Bool) → eqb c 34 ≡ false → is_line_end c ≡ false → eqb c 92 ≡ b → m + 1 ≡ n →
    ClosedAfter b cs m → Closed (c ∷ cs) n
one_more c cs m n true q l e one h =
    record {
      ws = escaped h.byte ∷ h.closed.ws;
      after = h.closed.after;
      parts = ap (λ (z : ℕ). z ∷ cs) (eqb-true c 92 e) ∙ ap (λ (z : List ℕ). 92 ∷ z)
          (h.split ∙ ap (λ (z : List ℕ). h.byte ∷ z) h.closed.parts);
      strokes = (h.in_line, h.closed.strokes);
      long = omega (arith, one, h.one, h.closed.long);
    }
one_more c cs m n false q l e one h =
    record {
      ws = plain c ∷ h.ws;
      after = h.after;
      parts = ap (λ (z : List ℕ). c ∷ z) h.parts;
      strokes = (plain_of c q e l, h.strokes);
      long = omega (arith, one, h.long);
    }

-- what is found is the quote that closes
pub closing_is : (b : Bool) (bytes : List ℕ) (n : ℕ) → closing_at b bytes ≡ Some n → ClosedAfter b bytes n
closing_is b [] n e = absurd (none_is_not n e)
closing_is true (c ∷ cs) n e = elim (chosen (is_line_end c) None (option_map (λ k. k + 1) (closing_at false cs)) (Some n) e) [
  | inl t ↦ absurd (none_is_not n t.1)
  | inr f ↦
      let m = map_some (closing_at false cs) (λ k. k + 1) n f.1 in
      record { byte = c; rest = cs; more = m.0; split = refl; in_line = f.0; closed = closing_is false cs m.0 m.1; one = m.2 }
]
closing_is false (c ∷ cs) n e =
    elim (chosen (is_line_end c) None (cond (eqb c 34) (Some 0) (option_map (λ k. k + 1) (closing_at (eqb c 92) cs))) (Some n) e) [
      | inl t ↦ absurd (none_is_not n t.1)
      | inr f ↦ elim (chosen (eqb c 34) (Some 0) (option_map (λ k. k + 1) (closing_at (eqb c 92) cs)) (Some n) f.1) [
        | inl q ↦ record {
          ws = [];
          after = cs;
          parts = ap (λ (z : ℕ). z ∷ cs) (eqb-true c 34 q.0);
          strokes = tt;
          long =
              sym (some_is 0 n q.1);
        }
        | inr q ↦
            let m = map_some (closing_at (eqb c 92) cs) (λ k. k + 1) n q.1 in
            one_more c cs m.0 n (eqb c 92) q.0 f.0 refl m.2 (closing_is (eqb c 92) cs m.0 m.1)
      ]
    ]

-- the quote that closes is found
pub closing_again : (ws : List Written) (after : List ℕ) → AllByRecursion IsStroke ws → closing_at false (spelled ws ++ 34 ∷ after) ≡ Some
    (length (spelled ws))
closing_again [] after h = refl
closing_again (plain c ∷ ws) after h =
    let p = plain_is c h.0 in
    let q : eqb c 34 ≡ false = p.quote in
    let b : eqb c 92 ≡ false = p.backslash in
    let l : is_line_end c ≡ false = p.in_line in
    let more = closing_again ws after h.1 in
    rw (l, q, b, more) (ap (λ (z : ℕ). Some z) (add-one (length (spelled ws))))
closing_again (escaped c ∷ ws) after h =
    let l : is_line_end c ≡ false = h.0 in
    let more = closing_again ws after h.1 in
    let two : length (spelled ws) + 1 + 1 ≡ suc (suc (length (spelled ws))) = omega arith in
    rw (l, more) (ap (λ (z : ℕ). Some z) two)

-- ---- the characters

pub characters_again : (ws : List Written) → AllByRecursion IsStroke ws → characters false (spelled ws) ≡ ws
characters_again [] h = refl
characters_again (plain c ∷ ws) h =
    let p = plain_is c h.0 in
    let b : eqb c 92 ≡ false = p.backslash in
    rw b (ap (λ (z : List Written). plain c ∷ z) (characters_again ws h.1))
characters_again (escaped c ∷ ws) h = ap (λ (z : List Written). escaped c ∷ z) (characters_again ws h.1)

-- ---- the first bad escape

-- the bad escape at k is the first
pub record Bad (ws : List Written) (k : ℕ) : Type 0 where
  pub good : List Written
  pub byte : ℕ
  pub more : List Written
  pub parts : ws ≡ good ++ escaped byte ∷ more
  pub fine : AllByRecursion IsCharacter good
  pub none : is_escape byte ≡ false
  pub in_line : is_line_end byte ≡ false
  pub strokes : AllByRecursion IsStroke more
  pub at : k ≡ suc (length (spelled good))

abbrev pub FirstBad : List Written → Option ℕ → Type 0
FirstBad ws None = AllByRecursion IsCharacter ws
FirstBad ws (Some k) = Bad ws k

bad_plain : (c : ℕ) (ws : List Written) (o : Option ℕ) → is_plain c ≡ true → FirstBad ws o →
    FirstBad (plain c ∷ ws) (option_map (λ n. n + 1) o)
bad_plain c ws None p h = (p, h)
bad_plain c ws (Some k) p h =
    record {
      good = plain c ∷ h.good;
      byte = h.byte;
      more = h.more;
      parts = ap (λ (z : List Written). plain c ∷ z) h.parts;
      fine = (p, h.fine);
      none = h.none;
      in_line = h.in_line;
      strokes = h.strokes;
      at = omega (arith, h.at);
    }

bad_escaped : (c : ℕ) (ws : List Written) (o : Option ℕ) → is_escape c ≡ true → FirstBad ws o
    → FirstBad (escaped c ∷ ws) (option_map (λ n. n + 1) (option_map (λ n. n + 1) o))
bad_escaped c ws None p h = (p, h)
bad_escaped c ws (Some k) p h =
    record {
      good = escaped c ∷ h.good;
      byte = h.byte;
      more = h.more;
      parts = ap (λ (z : List Written). escaped c ∷ z) h.parts;
      fine = (p, h.fine);
      none = h.none;
      in_line = h.in_line;
      strokes = h.strokes;
      at = omega (arith, h.at);
    }

-- what is found is the first bad escape
pub bad_is : (ws : List Written) → AllByRecursion IsStroke ws → FirstBad ws (bad_at false (spelled ws))
bad_is [] h = tt
bad_is (plain c ∷ ws) h =
    let p = plain_is c h.0 in
    let b : eqb c 92 ≡ false = p.backslash in
    rw b (bad_plain c ws (bad_at false (spelled ws)) h.0 (bad_is ws h.1))
bad_is (escaped c ∷ ws) h = elim (either (is_escape c)) [
  | inl t ↦ rw t (bad_escaped c ws (bad_at false (spelled ws)) t (bad_is ws h.1))
  | inr f ↦ rw f (record { good = []; byte = c; more = ws; parts = refl; fine = tt; none = f; in_line = h.0; strokes = h.1; at = refl })
]

-- where all escapes are right, none is found
pub bad_none : (ws : List Written) → AllByRecursion IsCharacter ws → bad_at false (spelled ws) ≡ None
bad_none [] h = refl
bad_none (plain c ∷ ws) h =
    let p = plain_is c h.0 in
    let b : eqb c 92 ≡ false = p.backslash in
    let more = bad_none ws h.1 in
    rw (b, more) refl
bad_none (escaped c ∷ ws) h =
    let t : is_escape c ≡ true = h.0 in
    let more = bad_none ws h.1 in
    rw (t, more) refl

-- the first bad escape is found
pub bad_again : (good : List Written) (c : ℕ) (xs : List ℕ) → AllByRecursion IsCharacter good → is_escape c ≡ false
    → bad_at false (spelled good ++ 92 ∷ c ∷ xs) ≡ Some (suc (length (spelled good)))
bad_again [] c xs h bad = rw bad refl
bad_again (plain d ∷ good) c xs h bad =
    let p = plain_is d h.0 in
    let b : eqb d 92 ≡ false = p.backslash in
    let more = bad_again good c xs h.1 bad in
    rw (b, more) (ap (λ (z : ℕ). Some z) (add-one (suc (length (spelled good)))))
bad_again (escaped d ∷ good) c xs h bad =
    let t : is_escape d ≡ true = h.0 in
    let more = bad_again good c xs h.1 bad in
    let two : suc (length (spelled good)) + 1 + 1 ≡ suc (suc (suc (length (spelled good)))) = omega arith in
    rw (t, more) (ap (λ (z : ℕ). Some z) two)

-- ---- texts

-- a text that a quote closes
pub text_closed : (ws : List Written) (after : List ℕ) → AllByRecursion IsStroke ws → text_at (spelled ws ++ 34 ∷ after) ≡ whole_text
    (spelled ws) after (bad_at false (spelled ws))
text_closed ws after h =
    let n = closing_again ws after h in
    let front = take_at (spelled ws) (34 ∷ after) (length (spelled ws)) refl in
    let one : length (spelled ws) + 1 ≡ suc (length (spelled ws)) = add-one (length (spelled ws)) in
    rw (n, front, one, past (spelled ws)) refl where
      past : (xs : List ℕ) → drop (suc (length xs)) (xs ++ 34 ∷ after) ≡ after
      past [] = refl
      past (x ∷ xs) = past xs

-- whose escapes are all right
pub text_again : (ws : List Written) (after : List ℕ) → AllByRecursion IsCharacter ws → text_at (spelled ws ++ 34 ∷ after) ≡ Ok
    (text ws, after)
text_again ws after h =
    let none = bad_none ws h in
    text_closed ws after (strokes ws h) ∙ rw (none, characters_again ws (strokes ws h)) refl

-- of which one isn't
pub text_bad : (good more : List Written) (c : ℕ) (after : List ℕ) → AllByRecursion IsCharacter good → is_escape c ≡ false →
    is_line_end c ≡ false → AllByRecursion IsStroke more
    → text_at (spelled good ++ 92 ∷ c ∷ (spelled more ++ 34 ∷ after)) ≡ Err (causes.BadEscape, suc (length (spelled good)))
text_bad good more c after h bad l k =
    let ws : List Written = good ++ escaped c ∷ more in
    let is : spelled ws ≡ spelled good ++ 92 ∷ c ∷ spelled more = spelled_append good (escaped c ∷ more) in
    let parts : spelled good ++ 92 ∷ c ∷ (spelled more ++ 34 ∷ after) ≡ spelled ws ++ 34 ∷ after =
    sym (append_assoc (spelled good) (92 ∷ c ∷ spelled more) (34 ∷ after)) ∙ ap (λ (z : List ℕ). z ++ 34 ∷ after) (sym is) in
    let at : bad_at false (spelled ws) ≡ Some (suc (length (spelled good))) = ap (bad_at false) is ∙ bad_again good c (spelled more) h bad
    in
    ap text_at parts ∙ text_closed ws after (strokes_append good (escaped c ∷ more) (strokes good h) (l, k)) ∙
    ap (whole_text (spelled ws) after) at

-- that no quote closes
pub text_open : (cs : List ℕ) → ((ws : List Written) (after : List ℕ) → AllByRecursion IsStroke ws → cs ≡ spelled ws ++ 34 ∷ after → ⊥) →
    text_at cs ≡ Err (causes.OpenText, 0)
text_open cs none = ap (closed_text cs) (go (closing_at false cs) refl) where
  go : (o : Option ℕ) → closing_at false cs ≡ o → closing_at false cs ≡ None
  go None e = e
  go (Some n) e = let c : Closed cs n = closing_is false cs n e in absurd (none c.ws c.after c.strokes c.parts)
