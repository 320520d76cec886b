-- Texts that are cut into pieces, with what their tokens are, wherever they stand.
use Rattle.std.proofs.Common.{◌≡◌, ℕ, zero, suc, ◌*◌, ◌<◌, List, [], ◌∷◌, ◌++◌, Bool, true, false, refl, sym, ap, subst, ◌∙◌, append_assoc}
use Rattle.std.proofs.Common.{arith, replicate, Option, Some, None}
use Rattle.std.specs.Prelude.{nat_lt, ◌&&◌, ◌||◌, not}
use Rattle.std.specs.List.{AllByRecursion, list_all, list_any}
use Rattle.std.specs.Str.{IsUtf8, bytes_eq}
use Rattle.std.proofs.lemmas.List.{append-nil}
use Rattle.std.proofs.lemmas.Bool.Decides.{nat_tests}
use Rattle.std.proofs.lemmas.Str.{IsUtf8-append, IsUtf8-nil, IsUtf8-from_ascii}
use Rattle.mg_text.specs.Call.{Name}
use Rattle.mg_text.specs.Places.{start_of, place_after}
use Rattle.mg_text.specs.declared.place.Place.{Place}
use Rattle.mg_read.specs.First.{Judged, clean, later}
use Rattle.mg_read.specs.Passes.{AllPasses, StopsAt, StartsWith}
use Rattle.jv_tree.specs.declared.token.Sign.{Sign}
use Rattle.jv_tree.specs.declared.token.Sign.TheVariants as signs
use Rattle.jv_tree.specs.declared.token.Token.{Token}
use Rattle.jv_tree.specs.declared.token.TokenKind.TheVariants as kinds
use Rattle.jv_tree.specs.Tokens as tokens
use Rattle.jv_tree.specs.Tokens.{reserved, unsupported, is_among, is_name, IsName}
use Rattle.jv_lex.specs.Letters.{is_blank, is_word_start, is_word_byte, is_number_tail}
use Rattle.jv_lex.specs.Signs.{written, goes_on}
use Rattle.jv_lex.specs.Pieces.{Piece, blank, word, sign, Cut, tokens_from, AreTokens}
use Rattle.jv_lex.proofs.Utf8.{word_low, passing_ascii}
use Rattle.jv_print.specs.Layout.{indent}
use Rattle.jv_parse.specs.Unsupported.{unsupported_sign, unsupported_text, IsUnsupported}

-- tokens that stand for something
abbrev pub AreSupported : List Token → Type 0
AreSupported = AllByRecursion (λ (t : Token). unsupported_text t.kind ≡ None)

word_supported : (w : Name) → is_among unsupported w ≡ false → unsupported_text (kinds.Word w) ≡ None
word_supported w e = rw e refl

-- none of them is one that isn't supported
pub none_unsupported : (ts : List Token) → AreSupported ts → Judged IsUnsupported ts None
none_unsupported [] h = clean
none_unsupported (t ∷ ts) h =
    later (λ c u. let e : ◌≡◌ {A = Option Name} None (Some u.0) = sym h.0 ∙ u.1 in absurd cc) (none_unsupported ts h.1)

-- nothing is asked of what follows
abbrev pub Any : List ℕ → Type 0
Any bytes = Unit {0}

-- what follows begins with no byte of a word
abbrev pub NoWord : List ℕ → Type 0
NoWord = StopsAt is_word_byte

-- nor with what may not follow a number
abbrev pub NoTail : List ℕ → Type 0
NoTail = StopsAt is_number_tail

-- ---- texts and their tokens

-- the tokens of pieces that stand at a place: some that P holds of, and then those of the pieces qs
pub record Tokens (P : List Token → Type 0) (qs : List Piece) (p : Place) (ps : List Piece) : Type 0 where
  pub end : Place
  pub front : List Token
  pub parts : tokens_from p ps ≡ front ++ tokens_from end qs
  pub supported : AreSupported front
  pub holds : P front

-- bytes that are pieces, which end in the pieces qs
pub record Reads (P : List Token → Type 0) (qs : List Piece) (whole : List ℕ) : Type 0 where
  pub pieces : List Piece
  pub cut : Cut pieces whole []
  pub tokens : (p : Place) → Tokens P qs p pieces

-- a text whose tokens P holds of, wherever it stands in front of bytes that are ok
pub record Told (ok : List ℕ → Type 0) (P : List Token → Type 0) (text : List ℕ) : Type 0 where
  pub utf8 : IsUtf8 text
  pub reads : (qs : List Piece) (bytes : List ℕ) → ok bytes → Cut qs bytes [] → Reads P qs (text ++ bytes)

pub nothing : {ok : List ℕ → Type 0} → Told ok (λ ts. ts ≡ []) []
nothing = record {
  utf8 = IsUtf8-nil;
  reads =
      λ qs bytes o cut.
      record { pieces = qs; cut = cut; tokens = λ p. record { end = p; front = []; parts = refl; supported = tt; holds = refl } };
}

pub convert : {ok : List ℕ → Type 0} {P Q : List Token → Type 0} {text : List ℕ} → ((ts : List Token) → P ts → Q ts) → Told ok P text
    → Told ok Q text
convert f h = record {
  utf8 = h.utf8;
  reads = λ qs bytes o cut. let r = h.reads qs bytes o cut in
      record {
        pieces = r.pieces;
        cut = r.cut;
        tokens = λ p. let t = r.tokens p in
            record { end = t.end; front = t.front; parts = t.parts; supported = t.supported; holds = f t.front t.holds };
      };
}

-- the same text, grouped in another way
pub regroup : {ok : List ℕ → Type 0} {P : List Token → Type 0} {text other : List ℕ} → text ≡ other → Told ok P other → Told ok P text
regroup {ok} {P} e h = subst (Told ok P) (sym e) h

-- in front of fewer bytes
pub within : {fine ok : List ℕ → Type 0} {P : List Token → Type 0} {text : List ℕ} → ((bytes : List ℕ) → ok bytes → fine bytes)
    → Told fine P text → Told ok P text
within f h = record { utf8 = h.utf8; reads = λ qs bytes o cut. h.reads qs bytes (f bytes o) cut }

no_word : (c : ℕ) → is_number_tail c ≡ false → is_word_byte c ≡ false
no_word c e = left (is_word_byte c) _ e
  where
    left : (a b : Bool) → (a || b) ≡ false → a ≡ false
    left true b e = absurd cc
    left false b e = refl

pub tail_word : (bytes : List ℕ) → NoTail bytes → NoWord bytes
tail_word [] h = tt
tail_word (c ∷ cs) h = no_word c h

-- ---- bytes of ASCII

all_low : (xs : List ℕ) → list_all (λ c. nat_lt c 128) xs ≡ true → AllPasses (λ c. nat_lt c 128) xs
all_low [] h = tt
all_low (c ∷ xs) h = let b = split (nat_lt c 128) (list_all (λ c. nat_lt c 128) xs) h in (b.0, all_low xs b.1) where
  split : (a b : Bool) → (a && b) ≡ true → (a ≡ true) × (b ≡ true)
  split true b h = (refl, h)
  split false b h = absurd cc

test_low : (c : ℕ) → nat_lt c 128 ≡ true → c < 128
test_low c h = grind (arith, nat_tests)

pub low_utf8 : (xs : List ℕ) → list_all (λ c. nat_lt c 128) xs ≡ true → IsUtf8 xs
low_utf8 xs h = IsUtf8-from_ascii xs (passing_ascii (λ c. nat_lt c 128) xs test_low (all_low xs h))

-- ---- blanks

pub blank_then : {ok : List ℕ → Type 0} {P : List Token → Type 0} {text : List ℕ} (c : ℕ) → is_blank c ≡ true → nat_lt c 128 ≡ true
    → Told ok P text → Told ok P (c ∷ text)
blank_then {text = text} c e l h = record {
  utf8 = IsUtf8-append (c ∷ []) text (low_utf8 (c ∷ []) (ap (λ b. b && true) l)) h.utf8;
  reads = λ qs bytes o cut. let r = h.reads qs bytes o cut in
      record {
        pieces = blank c ∷ r.pieces;
        cut = (text ++ bytes, refl, e, r.cut);
        tokens = λ p. let t = r.tokens (place_after p (c ∷ [])) in
            record { end = t.end; front = t.front; parts = t.parts; supported = t.supported; holds = t.holds };
      };
}

pub space_then : {ok : List ℕ → Type 0} {P : List Token → Type 0} {text : List ℕ} → Told ok P text → Told ok P (32 ∷ text)
space_then h = blank_then 32 refl refl h

pub line_then : {ok : List ℕ → Type 0} {P : List Token → Type 0} {text : List ℕ} → Told ok P text → Told ok P (10 ∷ text)
line_then h = blank_then 10 refl refl h

pub spaces_then : {ok : List ℕ → Type 0} {P : List Token → Type 0} {text : List ℕ} (n : ℕ) → Told ok P text
    → Told ok P (replicate n 32 ++ text)
spaces_then zero h = h
spaces_then (suc n) h = space_then (spaces_then n h)

pub indent_then : {ok : List ℕ → Type 0} {P : List Token → Type 0} {text : List ℕ} (level : ℕ) → Told ok P text
    → Told ok P (indent level ++ text)
indent_then level h = spaces_then (4 * level) h

-- ---- signs

-- a token in front, and then what P holds of
abbrev pub Front : (Place → Token) → (List Token → Type 0) → List Token → Type 0
Front tok P ts = (a : Place) × (us : List Token) × (ts ≡ tok a ∷ us) × P us

sign_low : (s : Sign) → list_all (λ c. nat_lt c 128) (written s) ≡ true
sign_low signs.OpenBrace = refl
sign_low s = refl

pub sign_then : {ok : List ℕ → Type 0} {P : List Token → Type 0} {text : List ℕ} (s : Sign) → unsupported_sign s ≡ None
    → ((bytes : List ℕ) → ok bytes → StopsAt (goes_on s) (text ++ bytes))
    → Told ok P text → Told ok (Front (λ a. tokens.sign a s) P) (written s ++ text)
sign_then {text = text} s fine stops h = record {
  utf8 = IsUtf8-append (written s) text (low_utf8 (written s) (sign_low s)) h.utf8;
  reads = λ qs bytes o cut. let r = h.reads qs bytes o cut in
      record {
        pieces = sign s ∷ r.pieces;
        cut = (text ++ bytes, append_assoc (written s) text bytes, stops bytes o, r.cut);
        tokens = λ p. let t = r.tokens (place_after p (written s)) in record {
          end = t.end;
          front = tokens.sign p s ∷ t.front;
          parts = ap (λ z. tokens.sign p s ∷ z) t.parts;
          supported = (fine, t.supported);
          holds = (p, t.front, refl, t.holds);
        };
      };
}

free : (s : Sign) → ((c : ℕ) → goes_on s c ≡ false) → (bytes : List ℕ) → StopsAt (goes_on s) bytes
free s h [] = tt
free s h (c ∷ cs) = h c

-- a sign that begins no longer one
pub mark_then : {ok : List ℕ → Type 0} {P : List Token → Type 0} {text : List ℕ} (s : Sign) → unsupported_sign s ≡ None
    → ((c : ℕ) → goes_on s c ≡ false)
    → Told ok P text → Told ok (Front (λ a. tokens.sign a s) P) (written s ++ text)
mark_then {text = text} s fine alone h = sign_then s fine (λ bytes o. free s alone (text ++ bytes)) h

-- ---- words

-- what is written as a word, and is read here
pub record IsWord (w : Name) : Type 0 where
  pub starts : StartsWith is_word_start w
  pub bytes : AllPasses is_word_byte w
  pub supported : is_among unsupported w ≡ false

pub word_then : {ok : List ℕ → Type 0} {P : List Token → Type 0} {text : List ℕ} (w : Name) → IsWord w
    → ((bytes : List ℕ) → ok bytes → NoWord (text ++ bytes))
    → Told ok P text → Told ok (Front (λ a. tokens.word a w) P) (w ++ text)
word_then {text = text} w is stops h = record {
  utf8 = IsUtf8-append w text (IsUtf8-from_ascii w (passing_ascii is_word_byte w word_low is.bytes)) h.utf8;
  reads = λ qs bytes o cut. let r = h.reads qs bytes o cut in
      record {
        pieces = word w ∷ r.pieces;
        cut = (text ++ bytes, append_assoc w text bytes, (is.starts, is.bytes, stops bytes o), r.cut);
        tokens = λ p. let t = r.tokens (place_after p w) in record {
          end = t.end;
          front = tokens.word p w ∷ t.front;
          parts = ap (λ z. tokens.word p w ∷ z) t.parts;
          supported = (word_supported w is.supported, t.supported);
          holds = (p, t.front, refl, t.holds);
        };
      };
}

-- a word alone
pub word_told : (w : Name) → IsWord w → Told NoWord (λ ts. (a : Place) × (ts ≡ tokens.word a w ∷ [])) w
word_told w is =
    regroup (sym (append-nil w))
    (convert (λ ts h. (h.0, h.2 ∙ ap (λ us. tokens.word h.0 w ∷ us) h.3)) (word_then w is (λ bytes o. o) nothing))

abbrev is_plain_word : Name → Bool
is_plain_word [] = false
is_plain_word (c ∷ cs) = is_word_start c && list_all is_word_byte (c ∷ cs)

plain_split : (a b : Bool) → (a && b) ≡ true → (a ≡ true) × (b ≡ true)
plain_split true b e = (refl, e)
plain_split false b e = absurd cc

all_pass : (cs : List ℕ) → list_all is_word_byte cs ≡ true → AllPasses is_word_byte cs
all_pass [] e = tt
all_pass (c ∷ cs) e = let h = plain_split (is_word_byte c) (list_all is_word_byte cs) e in (h.0, all_pass cs h.1)

-- a word that is spelled out
pub plain_word : (w : Name) → is_plain_word w ≡ true → is_among unsupported w ≡ false → IsWord w
plain_word [] e s = absurd cc
plain_word (c ∷ cs) e s =
    let h = plain_split (is_word_start c) (list_all is_word_byte (c ∷ cs)) e in
    record { starts = h.0; bytes = all_pass (c ∷ cs) h.1; supported = s }

-- a name that is written as a word
pub record IsNamed (w : Name) : Type 0 where
  pub name : IsName w
  pub starts : StartsWith is_word_start w
  pub bytes : AllPasses is_word_byte w

any_behind : {A : Type 0} (f : A → Bool) (xs ys : List A) → list_any f (xs ++ ys) ≡ false → list_any f ys ≡ false
any_behind f [] ys h = h
any_behind f (x ∷ xs) ys h = any_behind f xs ys (right (f x) _ h)
  where
    right : (a b : Bool) → (a || b) ≡ false → b ≡ false
    right true b e = absurd cc
    right false b e = e

name_supported : (w : Name) → IsName w → is_among unsupported w ≡ false
unfolding is_name
name_supported w h = any_behind (λ v. bytes_eq v w) reserved unsupported (no (is_among (reserved ++ unsupported) w) h)
  where
    no : (b : Bool) → not b ≡ true → b ≡ false
    no true e = absurd cc
    no false e = refl

pub named : (w : Name) → IsNamed w → IsWord w
named w h = record { starts = h.starts; bytes = h.bytes; supported = name_supported w h.name }

-- ---- two parts

abbrev pub Both : (List Token → Type 0) → (List Token → Type 0) → List Token → Type 0
Both P Q ts = (us vs : List Token) × (ts ≡ us ++ vs) × P us × Q vs

supported_both : (ts us : List Token) → AreSupported ts → AreSupported us → AreSupported (ts ++ us)
supported_both [] us h g = g
supported_both (t ∷ ts) us h g = (h.0, supported_both ts us h.1 g)

pub both : {fine ok : List ℕ → Type 0} {P Q : List Token → Type 0} {a b : List ℕ} → Told fine P a
    → ((bytes : List ℕ) → ok bytes → fine (b ++ bytes)) → Told ok Q b → Told ok (Both P Q) (a ++ b)
both {a = a} {b = b} h follows g = record {
  utf8 = IsUtf8-append a b h.utf8 g.utf8;
  reads = λ qs bytes o cut.
      let s = g.reads qs bytes o cut in let r = h.reads s.pieces (b ++ bytes) (follows bytes o) s.cut in
      record {
        pieces = r.pieces;
        cut = subst (λ z. Cut r.pieces z []) (sym (append_assoc a b bytes)) r.cut;
        tokens = λ p. let t = r.tokens p in let u = s.tokens t.end in record {
          end = u.end;
          front = t.front ++ u.front;
          parts = t.parts ∙ ap (λ z. t.front ++ z) u.parts ∙ sym (append_assoc t.front u.front (tokens_from u.end qs));
          supported = supported_both t.front u.front t.supported u.supported;
          holds = (t.front, u.front, refl, t.holds, u.holds);
        };
      };
}

-- ---- a whole text

pub record Whole (file : ℕ) (P : List Token → Type 0) (text : List ℕ) : Type 0 where
  pub tokens : List Token
  pub cut : AreTokens file tokens text
  pub supported : AreSupported tokens
  pub holds : P tokens

pub whole : {P : List Token → Type 0} {text : List ℕ} (file : ℕ) → Told Any P text → Whole file P text
whole {text = text} file h =
    let r = h.reads [] [] tt refl in let t = r.tokens (start_of file) in
    record {
      tokens = t.front;
      cut = record {
        pieces = r.pieces;
        cut = subst (λ z. Cut r.pieces z []) (append-nil text) r.cut;
        utf8 = h.utf8;
        tokens = sym (t.parts ∙ append-nil t.front);
      };
      supported = t.supported;
      holds = t.holds;
    }
