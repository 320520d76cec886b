-- Reading the bytes of a file gives one answer at most.
use Rattle.std.proofs.Common.{◌≡◌, ℕ, ◌≤◌, List, length, Option, Some, None, Ok, Err, sym, ap, ◌∙◌, subst, refl}
use Rattle.mg_text.specs.Call.{Name}
use Rattle.mg_text.specs.declared.place.Place.{Place}
use Rattle.mg_read.specs.Culprit.{Culprit, culprit}
use Rattle.mg_read.specs.First.{Judged}
use Rattle.mg_read.proofs.Judging.{one_answer, no_both}
use Rattle.mg_read.proofs.Steps.{some_is, none_is_not}
use Rattle.jv_tree.specs.declared.token.Token.{Token}
use Rattle.jv_tree.specs.Source.{File}
use Rattle.jv_tree.specs.Files as files
use Rattle.jv_lex.specs.Outcome as lexing
use Rattle.jv_lex.specs.Outcome.{Lexing}
use Rattle.jv_lex.specs.Pieces.{AreTokens}
use Rattle.jv_lex.specs.declared.LexFault.{LexFault}
use Rattle.jv_lex.specs.declared.LexFault.TheVariants as lexes
use Rattle.jv_lex.proofs.Cuts as cuts
use Rattle.jv_lex.proofs.Cuts.{same_tokens}
use Rattle.jv_grammar.proofs.Decls.{file_unique}
use Rattle.jv_parse.specs.Unsupported.{IsUnsupported}
use Rattle.jv_parse.proofs.Sought.{single}
use Rattle.jv_read.specs.declared.fault.JavaFault.{JavaFault}
use Rattle.jv_read.specs.declared.fault.JavaFault.TheVariants as faults
use Rattle.jv_read.specs.Spelling.{Spells}
use Rattle.jv_read.specs.Outcome.{Answer, Read, Unsupported, Syntax, told, fault_answer, Outcome, uncut, unsupported, syntax, read}

told_no_file : (fault : LexFault) (f : File) → told fault ≡ Some (Read f) → ⊥
told_no_file (lexes.TooLarge place) f e = absurd (let h : ◌≡◌ {A = Option Answer} _ _ = e in cc)
told_no_file (lexes.BadByte place) f e = absurd (let h : ◌≡◌ {A = Option Answer} _ _ = e in cc)
told_no_file (lexes.OpenComment place) f e = absurd (let h : ◌≡◌ {A = Option Answer} _ _ = e in cc)
told_no_file (lexes.OpenText place) f e = absurd (let h : ◌≡◌ {A = Option Answer} _ _ = e in cc)
told_no_file (lexes.BadEscape place) f e = absurd (let h : ◌≡◌ {A = Option Answer} _ _ = e in cc)
told_no_file (lexes.BadNumber place) f e = absurd (let h : ◌≡◌ {A = Option Answer} _ _ = e in cc)
told_no_file lexes.Memory f e = none_is_not (Read f) e

-- a fault doesn't say that a file was read
pub no_file : (fault : JavaFault) (f : File) → fault_answer fault ≡ Some (Read f) → ⊥
no_file (faults.TooLarge place) f e = absurd (let h : ◌≡◌ {A = Option Answer} _ _ = e in cc)
no_file (faults.BadByte place) f e = absurd (let h : ◌≡◌ {A = Option Answer} _ _ = e in cc)
no_file (faults.OpenComment place) f e = absurd (let h : ◌≡◌ {A = Option Answer} _ _ = e in cc)
no_file (faults.OpenText place) f e = absurd (let h : ◌≡◌ {A = Option Answer} _ _ = e in cc)
no_file (faults.BadEscape place) f e = absurd (let h : ◌≡◌ {A = Option Answer} _ _ = e in cc)
no_file (faults.BadNumber place) f e = absurd (let h : ◌≡◌ {A = Option Answer} _ _ = e in cc)
no_file (faults.Unsupported place name) f e = absurd (let h : ◌≡◌ {A = Option Answer} _ _ = e in cc)
no_file (faults.Syntax place) f e = absurd (let h : ◌≡◌ {A = Option Answer} _ _ = e in cc)
no_file faults.Memory f e = none_is_not (Read f) e

-- what is read is spelled
pub read_spells : (file : ℕ) (bytes : List ℕ) (a : Answer) → Outcome file bytes a → (f : File) → a ≡ Read f → Spells file bytes f
read_spells file bytes a (uncut fault x o is) f e = absurd (told_no_file fault f (is ∙ ap Some e))
read_spells file bytes a (unsupported ts p v le t g) f e = absurd (let h : ◌≡◌ {A = Answer} (Unsupported p v) (Read f) = e in cc)
read_spells file bytes a (syntax ts le t g n) f e = absurd (let h : ◌≡◌ {A = Answer} Syntax (Read f) = e in cc)
read_spells file bytes a (read g s) f e = let same : g ≡ f = cc in subst (Spells file bytes) same s

module _ (file : ℕ) (bytes : List ℕ) where
  pub one_file : (f g : File) → Spells file bytes f → Spells file bytes g → f ≡ g
  one_file f g a b = file_unique f g b.tokens (subst (files.Spells f) (same_tokens file a.tokens b.tokens bytes a.cut b.cut) a.spelled)
      b.spelled

  -- ---- rows that exclude each other

  cut_or_not : (f : LexFault) (ts : List Token) → lexing.Outcome file bytes (Err f) → length bytes ≤ 1048576 → AreTokens file ts bytes → ⊥
  cut_or_not f ts o le a = let e : ◌≡◌ {A = Lexing} (Err f) (Ok ts) = cuts.one_outcome file bytes o (lexing.lexed ts le a) in cc

  supported_or_not : (ts us : List Token) (c : Culprit) → AreTokens file ts bytes → AreTokens file us bytes →
      Judged IsUnsupported ts (Some c)
      → Judged IsUnsupported us None → ⊥
  supported_or_not ts us c a b h g =
      no_both g (subst (λ (xs : List Token). Judged IsUnsupported xs (Some c)) (same_tokens file ts us bytes a b) h)

  spelled_or_not : (ts : List Token) (f : File) → AreTokens file ts bytes → ((g : File) → files.Spells g ts → ⊥) → Spells file bytes f → ⊥
  spelled_or_not ts f a none s = none f (subst (files.Spells f) (same_tokens file s.tokens ts bytes s.cut a) s.spelled)

  -- ---- the same row

  same_fault : (f g : LexFault) (a b : Answer) → lexing.Outcome file bytes (Err f) → lexing.Outcome file bytes (Err g) → told f ≡ Some a →
      told g ≡ Some b → a ≡ b
  same_fault f g a b o p is also =
      let e : ◌≡◌ {A = Lexing} (Err f) (Err g) = cuts.one_outcome file bytes o p in
      let same : f ≡ g = cc in
      some_is a b (sym is ∙ ap told same ∙ also)

  same_text : (ts us : List Token) (p q : Place) (v w : Name) → AreTokens file ts bytes → AreTokens file us bytes
      → Judged IsUnsupported ts (Some (culprit p v)) → Judged IsUnsupported us (Some (culprit q w))
      → ◌≡◌ {A = Answer} (Unsupported p v) (Unsupported q w)
  same_text ts us p q v w a b h g =
      let same : ◌≡◌ {A = Option Culprit} (Some (culprit p v)) (Some (culprit q w)) =
      one_answer single (subst (λ (xs : List Token). Judged IsUnsupported xs (Some (culprit p v))) (same_tokens file ts us bytes a b) h) g
      in
      let places : p ≡ q = cc in
      let texts : v ≡ w = cc in
      λ i. Unsupported (places i) (texts i)

  -- ---- one answer

  pub one_outcome : (a b : Answer) → Outcome file bytes a → Outcome file bytes b → a ≡ b
  one_outcome a b (uncut f x o e) (uncut g y p d) = same_fault f g a b o p e d
  one_outcome a b (uncut f x o e) (unsupported ts p v le t g) = absurd (cut_or_not f ts o le t)
  one_outcome a b (uncut f x o e) (syntax ts le t g n) = absurd (cut_or_not f ts o le t)
  one_outcome a b (uncut f x o e) (read g s) = absurd (cut_or_not f s.tokens o s.size s.cut)
  one_outcome a b (unsupported ts p v le t h) (uncut f x o e) = absurd (cut_or_not f ts o le t)
  one_outcome a b (unsupported ts p v le t h) (unsupported us q w me u g) = same_text ts us p q v w t u h g
  one_outcome a b (unsupported ts p v le t h) (syntax us me u g n) = absurd (supported_or_not ts us (culprit p v) t u h g)
  one_outcome a b (unsupported ts p v le t h) (read f s) = absurd (supported_or_not ts s.tokens (culprit p v) t s.cut h s.supported)
  one_outcome a b (syntax ts le t h n) (uncut f x o e) = absurd (cut_or_not f ts o le t)
  one_outcome a b (syntax ts le t h n) (unsupported us q w me u g) = absurd (supported_or_not us ts (culprit q w) u t g h)
  one_outcome a b (syntax ts le t h n) (syntax us me u g m) = refl
  one_outcome a b (syntax ts le t h n) (read f s) = absurd (spelled_or_not ts f t n s)
  one_outcome a b (read f s) (uncut g x o e) = absurd (cut_or_not g s.tokens o s.size s.cut)
  one_outcome a b (read f s) (unsupported us q w me u g) = absurd (supported_or_not us s.tokens (culprit q w) u s.cut g s.supported)
  one_outcome a b (read f s) (syntax us me u g n) = absurd (spelled_or_not us f u n s)
  one_outcome a b (read f s) (read g r) = ap Read (one_file f g s r)
