-- There is one way to cut bytes into pieces, and a scan from left to right finds it.
use Rattle.std.proofs.Common.{◌≡◌, ℕ, ◌<◌, ◌≤◌, List, [], ◌∷◌, ◌++◌, length, take, Result, Ok, Err, refl, sym, ap, ◌∙◌, subst, append_assoc}
use Rattle.std.proofs.Common.{length-append, arith, inl, inr, ◌⊎◌}
use Rattle.std.specs.Str.{IsUtf8, IsValidUpTo}
use Rattle.mg_text.specs.Places.{start_of, place_after}
use Rattle.mg_read.proofs.Cuts.{utf8_whole, ill_once}
use Rattle.jv_tree.specs.declared.token.Token.{Token}
use Rattle.jv_lex.specs.declared.fault.Cause.{Cause}
use Rattle.jv_lex.specs.declared.fault.Cause.TheVariants as causes
use Rattle.jv_lex.specs.Written.{spelled}
use Rattle.jv_lex.specs.Outcome.{Lexing, Outcome, too_large, refused, lexed}
use Rattle.jv_lex.specs.Pieces.{Piece, spell, Cut, tokens_from, AreTokens}
use Rattle.jv_lex.specs.Faults.{Stops, open_comment, open_text, bad_escape, bad_number, bad_byte, line_unicode, block_unicode, IsFault, stop, ill_formed, IsFirst, told}
use Rattle.jv_lex.specs.inner.Front.{front_at}
use Rattle.jv_lex.specs.inner.Scan.{IsStopped}
use Rattle.jv_lex.proofs.Utf8.{ill_not_ascii, digit_low}
use Rattle.jv_lex.proofs.Fronts.{front_again, front_stops, stops_long}

-- no piece is found there
abbrev pub Ends : List ℕ → Type 0
Ends rest = (e : Cause × ℕ) × (front_at rest ≡ Err e)

ends_not : (rest : List ℕ) (x : Piece × List ℕ) → Ends rest → front_at rest ≡ Ok x → ⊥
ends_not rest x e h = let no = sym e.1 ∙ h in absurd cc

same_found : (x y : Piece × List ℕ) (rest : List ℕ) → front_at rest ≡ Ok x → front_at rest ≡ Ok y → x ≡ y
same_found x y rest e f = let same = sym e ∙ f in cc

-- there is one way to cut
pub cut_once : (ps qs : List Piece) (bytes rest more : List ℕ) → Cut ps bytes rest → Cut qs bytes more → Ends rest → Ends more →
    (ps ≡ qs) × (rest ≡ more)
cut_once [] [] bytes rest more a b u v = (refl, sym a ∙ b)
cut_once [] (q ∷ qs) bytes rest more a (after, parts, stands, h) u v =
    absurd (ends_not rest (q, after) u (ap front_at (sym a ∙ parts) ∙ front_again q after stands))
cut_once (p ∷ ps) [] bytes rest more (after, parts, stands, h) b u v =
    absurd (ends_not more (p, after) v (ap front_at (sym b ∙ parts) ∙ front_again p after stands))
cut_once (p ∷ ps) (q ∷ qs) bytes rest more (a, a_parts, a_stands, a_more) (b, b_parts, b_stands, b_more) u v =
    let same = same_found (p, a) (q, b) bytes (ap front_at a_parts ∙ front_again p a a_stands)
    (ap front_at b_parts ∙ front_again q b b_stands) in
    let head : p ≡ q = ap (λ (x : Piece × List ℕ). x.0) same in
    let tail : a ≡ b = ap (λ (x : Piece × List ℕ). x.1) same in
    let r = cut_once ps qs a rest more a_more (subst (λ (z : List ℕ). Cut qs z more) (sym tail) b_more) u v in
    (let rest_is = r.0 in cc, r.1)

nothing_left : Ends []
nothing_left = ((causes.BadByte, 0), refl)

stops_end : (rest : List ℕ) {cause : Cause} {n : ℕ} → Stops rest cause n → Ends rest
stops_end rest {cause} {n} s = ((cause, n), front_stops rest s)

-- bytes that are cut whole stop nowhere
pub whole_or_stopped : (ps : List Piece) (bytes : List ℕ) (cause : Cause) (k : ℕ) → Cut ps bytes [] → IsStopped bytes cause k → ⊥
whole_or_stopped ps bytes cause k h s =
    let r = cut_once ps s.pieces bytes [] s.rest h s.cut nothing_left (stops_end s.rest s.stops) in
    let e = ap length r.1 in
    omega (arith, e, stops_long s.rest s.stops)

-- and others in one place, for one cause
pub stopped_once : (bytes : List ℕ) (c d : Cause) (k j : ℕ) → IsStopped bytes c k → IsStopped bytes d j → (c ≡ d) × (k ≡ j)
stopped_once bytes c d k j a b =
    let r = cut_once a.pieces b.pieces bytes a.rest b.rest a.cut b.cut (stops_end a.rest a.stops) (stops_end b.rest b.stops) in
    let long = ap length r.1 in
    let same : ◌≡◌ {A = Result (Piece × List ℕ) (Cause × ℕ)} (Err (c, a.behind)) (Err (d, b.behind)) = sym (front_stops a.rest a.stops) ∙
    ap front_at r.1 ∙ front_stops b.rest b.stops in
    let pair : ◌≡◌ {A = Cause × ℕ} (c, a.behind) (d, b.behind) = cc in
    let behind : a.behind ≡ b.behind = ap (λ (x : Cause × ℕ). x.1) pair in
    (ap (λ (x : Cause × ℕ). x.0) pair, omega (arith, long, behind, a.here, b.here))

-- ---- faults

pub stopped_fault : (bytes : List ℕ) (cause : Cause) (k : ℕ) → IsStopped bytes cause k → IsFault bytes cause k
stopped_fault bytes cause k s = stop s.pieces s.rest s.behind k s.cut s.stops s.here

-- a byte of ASCII stands n bytes behind the front
record AsciiAt (rest : List ℕ) (n : ℕ) : Type 0 where
  before : List ℕ
  byte : ℕ
  after : List ℕ
  parts : rest ≡ before ++ byte ∷ after
  long : n ≡ length before
  low : byte < 128

-- but for a bad byte, a fault of the pieces stands at a byte of ASCII
stop_ascii : (rest : List ℕ) {cause : Cause} {n : ℕ} → Stops rest cause n → (cause ≡ causes.BadByte) ⊎ AsciiAt rest n
stop_ascii rest (open_comment body parts none) =
    inr (record { before = []; byte = 47; after = 42 ∷ body; parts = parts; long = refl; low = omega arith })
stop_ascii rest (line_unicode body after n parts passes stops first) = inl refl
stop_ascii rest (block_unicode body after n parts closes first) = inl refl
stop_ascii rest (open_text body parts none) =
    inr (record { before = []; byte = 34; after = body; parts = parts; long = refl; low = omega arith })
stop_ascii rest (bad_escape good more c after parts fine bad in_line strokes) =
    inr (record {
      before = 34 ∷ spelled good;
      byte = 92;
      after = c ∷ (spelled more ++ 34 ∷ after);
      parts = parts;
      long = refl;
      low =
          omega arith;
    })
stop_ascii rest (bad_number c cs parts digit none) =
    inr (record { before = []; byte = c; after = cs; parts = parts; long = refl; low = digit_low c digit })
stop_ascii rest (bad_byte c cs parts start none) = inl refl

-- the pieces in a row, and what follows them
cut_parts : (ps : List Piece) (bytes rest : List ℕ) → Cut ps bytes rest → (front : List ℕ) × (bytes ≡ front ++ rest)
cut_parts [] bytes rest e = ([], e)
cut_parts (p ∷ ps) bytes rest (after, parts, stands, h) =
    let r = cut_parts ps after rest h in
    (spell p ++ r.0, parts ∙ ap (λ (z : List ℕ). spell p ++ z) r.1 ∙ sym (append_assoc (spell p) r.0 rest))

-- where the pieces stop and the bytes stop to be UTF-8 in one place, that is a bad byte
bad_both : (bytes : List ℕ) (cause : Cause) (k : ℕ) → IsStopped bytes cause k → IsValidUpTo bytes k → cause ≡ causes.BadByte
bad_both bytes cause k s v = elim (stop_ascii s.rest s.stops) [
  | inl e ↦ e
  | inr a ↦
      let c = cut_parts s.pieces bytes s.rest s.cut in
      let parts : bytes ≡ (c.0 ++ a.before) ++ a.byte ∷ a.after = c.1 ∙ ap (λ (z : List ℕ). c.0 ++ z) a.parts ∙
      sym (append_assoc c.0 a.before (a.byte ∷ a.after)) in
      let at : k ≡ length (c.0 ++ a.before) = omega (
        arith,
        s.here,
        ap length c.1,
        length-append c.0 s.rest,
        length-append c.0 a.before,
        a.long,
      ) in
      absurd (ill_not_ascii bytes (c.0 ++ a.before) a.after a.byte k parts at a.low v)
]

-- a fault is one of two
data Fault (bytes : List ℕ) (cause : Cause) (k : ℕ) : Type 0 where
  of_pieces : IsStopped bytes cause k → Fault bytes cause k
  of_text : cause ≡ causes.BadByte → IsValidUpTo bytes k → Fault bytes cause k

fault_is : (bytes : List ℕ) {cause : Cause} {k : ℕ} → IsFault bytes cause k → Fault bytes cause k
fault_is bytes (stop pieces rest n k cut stops here) =
    of_pieces (record { pieces = pieces; rest = rest; behind = n; cut = cut; stops = stops; here = here })
fault_is bytes (ill_formed k v) = of_text refl v

-- of two faults in one place
same_cause : (bytes : List ℕ) (c d : Cause) (k : ℕ) → Fault bytes c k → Fault bytes d k → c ≡ d
same_cause bytes c d k (of_pieces s) (of_pieces t) = (stopped_once bytes c d k k s t).0
same_cause bytes c d k (of_pieces s) (of_text e v) = bad_both bytes c k s v ∙ sym e
same_cause bytes c d k (of_text e v) (of_pieces t) = e ∙ sym (bad_both bytes d k t v)
same_cause bytes c d k (of_text e v) (of_text f w) = e ∙ sym f

-- there is one first fault
pub one_first : (bytes : List ℕ) (c d : Cause) (k j : ℕ) → IsFirst bytes c k → IsFirst bytes d j → (c ≡ d) × (k ≡ j)
one_first bytes c d k j a b =
    let place : k ≡ j = omega (arith, a.first d j b.fault, b.first c k a.fault) in
    (same_cause bytes c d j (subst (Fault bytes c) place (fault_is bytes a.fault)) (fault_is bytes b.fault), place)

-- bytes with tokens have no fault
pub tokens_or_fault : (file : ℕ) (ts : List Token) (bytes : List ℕ) (c : Cause) (k : ℕ) → AreTokens file ts bytes → IsFault bytes c k → ⊥
tokens_or_fault file ts bytes c k a f = go (fault_is bytes f) where
  go : Fault bytes c k → ⊥
  go (of_pieces s) = whole_or_stopped a.pieces bytes c k a.cut s
  go (of_text e v) = utf8_whole bytes k a.utf8 v

-- and one row of tokens
pub same_tokens : (file : ℕ) (ts us : List Token) (bytes : List ℕ) → AreTokens file ts bytes → AreTokens file us bytes → ts ≡ us
same_tokens file ts us bytes a b =
    a.tokens ∙ ap (tokens_from (start_of file)) (cut_once a.pieces b.pieces bytes [] [] a.cut b.cut nothing_left nothing_left).0 ∙
    sym b.tokens

-- ---- the first of the faults

-- of text that is UTF-8
pub first_of_pieces : (bytes : List ℕ) (c : Cause) (k : ℕ) → IsUtf8 bytes → IsStopped bytes c k → IsFirst bytes c k
first_of_pieces bytes c k u s = record { fault = stopped_fault bytes c k s; first = λ d j f. go d j (fault_is bytes f) } where
  go : (d : Cause) (j : ℕ) → Fault bytes d j → k ≤ j
  go d j (of_pieces t) = omega (arith, (stopped_once bytes c d k j s t).1)
  go d j (of_text e v) = absurd (utf8_whole bytes j u v)

-- of the pieces, where that is before the text stops to be UTF-8
pub first_before : (bytes : List ℕ) (c : Cause) (k at : ℕ) → IsValidUpTo bytes at → k < at → IsStopped bytes c k → IsFirst bytes c k
first_before bytes c k at v h s = record { fault = stopped_fault bytes c k s; first = λ d j f. go d j (fault_is bytes f) } where
  go : (d : Cause) (j : ℕ) → Fault bytes d j → k ≤ j
  go d j (of_pieces t) = omega (arith, (stopped_once bytes c d k j s t).1)
  go d j (of_text e w) = omega (arith, ill_once bytes at j v w)

-- where the text stops to be UTF-8, and no piece did before
pub first_of_text : (bytes : List ℕ) (at : ℕ) → IsValidUpTo bytes at → ((d : Cause) (j : ℕ) → IsStopped bytes d j → at ≤ j) →
    IsFirst bytes causes.BadByte at
first_of_text bytes at v none = record { fault = ill_formed at v; first = λ d j f. go d j (fault_is bytes f) } where
  go : (d : Cause) (j : ℕ) → Fault bytes d j → at ≤ j
  go d j (of_pieces t) = none d j t
  go d j (of_text e w) = omega (arith, ill_once bytes at j v w)

-- ---- one answer

pub one_outcome : (file : ℕ) (bytes : List ℕ) {r s : Lexing} → Outcome file bytes r → Outcome file bytes s → r ≡ s
one_outcome file bytes (too_large h) (too_large k) = refl
one_outcome file bytes (too_large h) (refused c k short f) = absurd (omega arith)
one_outcome file bytes (too_large h) (lexed ts short a) = absurd (omega arith)
one_outcome file bytes (refused c k short f) (too_large h) = absurd (omega arith)
one_outcome file bytes (refused c k short f) (refused d j short2 g) =
    let same = one_first bytes c d k j f g in
    ap (λ (x : Cause). Err (told x (place_after (start_of file) (take k bytes)))) same.0
    ∙ ap (λ (x : ℕ). Err (told d (place_after (start_of file) (take x bytes)))) same.1
one_outcome file bytes (refused c k short f) (lexed ts short2 a) = absurd (tokens_or_fault file ts bytes c k a f.fault)
one_outcome file bytes (lexed ts short a) (too_large h) = absurd (omega arith)
one_outcome file bytes (lexed ts short a) (refused c k short2 f) = absurd (tokens_or_fault file ts bytes c k a f.fault)
one_outcome file bytes (lexed ts short a) (lexed us short2 b) = ap (λ (x : List Token). Ok x) (same_tokens file ts us bytes a b)
