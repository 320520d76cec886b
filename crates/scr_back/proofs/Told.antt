-- Texts that are cut into pieces, with what their tokens are, wherever they stand.
use Rattle.std.proofs.Common.{◌≡◌, ℕ, zero, suc, ◌<◌, ◌≤◌, List, [], ◌∷◌, ◌++◌, length, replicate, true, Some, refl, sym, ap, subst, ◌∙◌}
use Rattle.std.proofs.Common.{append_assoc, arith, None}
use Rattle.std.proofs.lemmas.List.{append-nil}
use Rattle.std.proofs.lemmas.Str.{IsUtf8-from_ascii}
use Rattle.mg_text.specs.Call.{Name}
use Rattle.mg_text.specs.Places.{start_of, place_after}
use Rattle.mg_text.specs.declared.place.Place.{Place}
use Rattle.mg_read.specs.Letters.{is_blank, is_name_start, is_name_byte}
use Rattle.mg_read.specs.Passes.{AllPasses, StartsWith}
use Rattle.mg_read.specs.Pieces.{Piece, blank, word, sign, Cut, is_sign, tokens_from}
pub use Rattle.mg_read.proofs.Plain.{Any, NoName}
use Rattle.mg_read.proofs.Plain.{AreLow, none, more, low-append, low-ascii, low-name}
use Rattle.scr_tree.specs.declared.token.Mark.{Mark}
use Rattle.scr_tree.specs.Tok.{Tok, marked}
use Rattle.scr_tree.specs.Words.{sign_of, reserved}
use Rattle.mg_read.specs.Culprit.{Culprit}
use Rattle.mg_read.specs.First.{Clean}
use Rattle.scr_read.specs.Unsupported.{unsupported_word, IsUnsupported}
use Rattle.scr_read.specs.declared.words.ProtocolKind.TheVariants as kinds
use Rattle.scr_lex.specs.Pieces.{scribble, tok_said, word_tok, sign_toks, AreTokens}

-- the tokens of pieces that stand at a place: some that P holds of, and then those of the pieces qs
pub record Tokens (P : List Tok → Type 0) (qs : List Piece) (p : Place) (ps : List Piece) : Type 0 where
  pub end : Place
  pub front : List Tok
  pub parts : tokens_from tok_said p ps ≡ front ++ tokens_from tok_said end qs
  pub holds : P front
  pub used : Clean (IsUnsupported kinds.Local) front

-- bytes that are pieces, which end in the pieces qs
pub record Reads (P : List Tok → Type 0) (qs : List Piece) (whole : List ℕ) : Type 0 where
  pub pieces : List Piece
  pub cut : Cut scribble pieces whole []
  pub tokens : (p : Place) → Tokens P qs p pieces

-- a text whose tokens P holds of, wherever it stands in front of bytes that are ok
pub record Told (ok : List ℕ → Type 0) (P : List Tok → Type 0) (text : List ℕ) : Type 0 where
  pub low : AreLow text
  pub reads : (qs : List Piece) (bytes : List ℕ) → ok bytes → Cut scribble qs bytes [] → Reads P qs (text ++ bytes)

pub nothing : {ok : List ℕ → Type 0} → Told ok (λ ts. ts ≡ []) []
nothing = record {
  low = none;
  reads = λ qs bytes o cut. record {
    pieces = qs;
    cut = cut;
    tokens =
        λ p. record { end = p; front = []; parts = refl; holds = refl; used = tt };
  };
}

pub convert : {ok : List ℕ → Type 0} {P Q : List Tok → Type 0} {text : List ℕ} → ((ts : List Tok) → P ts → Q ts) → Told ok P text →
    Told ok Q text
convert f h = record {
  low = h.low;
  reads = λ qs bytes o cut. let r = h.reads qs bytes o cut in
      record {
        pieces = r.pieces;
        cut = r.cut;
        tokens = λ p. let t = r.tokens p in record {
          end = t.end;
          front = t.front;
          parts =
              t.parts;
          holds = f t.front t.holds;
          used = t.used;
        };
      };
}

-- a blank, and then a text
pub blank_then : {ok : List ℕ → Type 0} {P : List Tok → Type 0} {text : List ℕ} (c : ℕ) → is_blank c ≡ true → c < 128 → Told ok P text →
    Told ok P (c ∷ text)
blank_then {text = text} c e l h = record {
  low = more l h.low;
  reads = λ qs bytes o cut. let r = h.reads qs bytes o cut in
      record {
        pieces = blank c ∷ r.pieces;
        cut = (text ++ bytes, refl, e, r.cut);
        tokens = λ p. let t = r.tokens (place_after p (c ∷ [])) in record {
          end = t.end;
          front = t.front;
          parts = t.parts;
          holds =
              t.holds;
          used = t.used;
        };
      };
}

pub indented : {ok : List ℕ → Type 0} {P : List Tok → Type 0} {text : List ℕ} (n : ℕ) → Told ok P text → Told ok P (replicate n 32 ++ text)
indented zero h = h
indented (suc n) h = blank_then 32 refl (omega arith) (indented n h)

-- a token in front, and then what P holds of
abbrev pub Behind : (Place → Tok) → (List Tok → Type 0) → List Tok → Type 0
Behind tok P ts = (a : Place) × (us : List Tok) × (ts ≡ tok a ∷ us) × P us

-- a mark that is no unsupported word
pub supported : (mark : Mark) → unsupported_word kinds.Local mark ≡ None → (p : Place) (c : Culprit) → IsUnsupported kinds.Local (marked p mark) c → ⊥
supported mark u p c h = let no : Some h.0 ≡ None = sym h.1 ∙ u in cc

clean-append : (xs ys : List Tok) → Clean (IsUnsupported kinds.Local) xs → Clean (IsUnsupported kinds.Local) ys → Clean (IsUnsupported kinds.Local) (xs ++ ys)
clean-append [] ys h g = g
clean-append (x ∷ xs) ys h g = (h.0, clean-append xs ys h.1 g)

pub sign_then : {ok : List ℕ → Type 0} {P : List Tok → Type 0} {text : List ℕ} (c : ℕ) (mark : Mark) → is_sign scribble.signs c ≡ true →
    sign_of c ≡ Some mark → c < 128 → unsupported_word kinds.Local mark ≡ None →
    Told ok P text → Told ok (Behind (λ a. marked a mark) P) (c ∷ text)
sign_then {text = text} c mark e s l u h = record {
  low = more l h.low;
  reads = λ qs bytes o cut. let r = h.reads qs bytes o cut in
      record {
        pieces = sign c ∷ r.pieces;
        cut = (text ++ bytes, refl, e, r.cut);
        tokens = λ p. let t = r.tokens (place_after p (c ∷ [])) in record {
          end = t.end;
          front = marked p mark ∷ t.front;
          parts = ap (λ o. sign_toks p o ++ tokens_from tok_said (place_after p (c ∷ [])) r.pieces) s ∙ ap (λ z. marked p mark ∷ z) t.parts;
          holds = (p, t.front, refl, t.holds);
          used = (supported mark u p, t.used);
        };
      };
}

-- a word that may stand, and the token that it is
pub record IsToken (w : Name) (tok : Place → Tok) : Type 0 where
  pub starts : StartsWith is_name_start w
  pub bytes : AllPasses is_name_byte w
  pub short : length w ≤ 255
  pub token : (p : Place) → word_tok p w (reserved w) ≡ tok p
  pub used : (p : Place) (c : Culprit) → IsUnsupported kinds.Local (tok p) c → ⊥

pub word_then : {ok : List ℕ → Type 0} {P : List Tok → Type 0} {text : List ℕ} (w : Name) (tok : Place → Tok) → IsToken w tok →
    ((bytes : List ℕ) → ok bytes → NoName (text ++ bytes)) →
    Told ok P text → Told ok (Behind tok P) (w ++ text)
word_then {text = text} w tok is stops h = record {
  low = low-append (low-name w is.bytes) h.low;
  reads = λ qs bytes o cut. let r = h.reads qs bytes o cut in
      record {
        pieces = word w ∷ r.pieces;
        cut = (text ++ bytes, append_assoc w text bytes, (is.starts, is.bytes, stops bytes o, is.short), r.cut);
        tokens = λ p. let t = r.tokens (place_after p w) in record {
          end = t.end;
          front = tok p ∷ t.front;
          parts = ap (λ z. z ∷ tokens_from tok_said (place_after p w) r.pieces) (is.token p) ∙ ap (λ z. tok p ∷ z) t.parts;
          holds = (p, t.front, refl, t.holds);
          used = (is.used p, t.used);
        };
      };
}

-- two parts
abbrev pub Both : (List Tok → Type 0) → (List Tok → Type 0) → List Tok → Type 0
Both P Q ts = (us vs : List Tok) × (ts ≡ us ++ vs) × P us × Q vs

pub both : {fine ok : List ℕ → Type 0} {P Q : List Tok → Type 0} {a b : List ℕ} → Told fine P a →
    ((bytes : List ℕ) → ok bytes → fine (b ++ bytes)) → Told ok Q b → Told ok (Both P Q) (a ++ b)
both {a = a} {b = b} h follows g = record {
  low = low-append h.low g.low;
  reads = λ qs bytes o cut.
      let s = g.reads qs bytes o cut in let r = h.reads s.pieces (b ++ bytes) (follows bytes o) s.cut in
      record {
        pieces = r.pieces;
        cut = subst (λ z. Cut scribble r.pieces z []) (sym (append_assoc a b bytes)) r.cut;
        tokens = λ p. let t = r.tokens p in let u = s.tokens t.end in record {
          end = u.end;
          front = t.front ++ u.front;
          parts = t.parts ∙ ap (λ z. t.front ++ z) u.parts ∙ sym (append_assoc t.front u.front (tokens_from tok_said u.end qs));
          holds = (t.front, u.front, refl, t.holds, u.holds);
          used = clean-append t.front u.front t.used u.used;
        };
      };
}

-- a whole text
pub record Whole (file : ℕ) (P : List Tok → Type 0) (text : List ℕ) : Type 0 where
  pub tokens : List Tok
  pub cut : AreTokens file tokens text
  pub holds : P tokens
  pub used : Clean (IsUnsupported kinds.Local) tokens

pub whole : {P : List Tok → Type 0} {text : List ℕ} (file : ℕ) → Told Any P text → Whole file P text
whole {text = text} file h =
    let r = h.reads [] [] tt refl in let t = r.tokens (start_of file) in
    record {
      tokens = t.front;
      cut = record {
        pieces = r.pieces;
        cut = subst (λ z. Cut scribble r.pieces z []) (append-nil text) r.cut;
        utf8 = IsUtf8-from_ascii text (low-ascii h.low);
        tokens = sym (t.parts ∙ append-nil t.front);
      };
      holds = t.holds;
      used = t.used;
    }
