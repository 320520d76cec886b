-- The parts of reading make up an outcome.
use Rattle.std.proofs.Common.{◌≡◌, ℕ, ◌<◌, ◌≤◌, List, length, take, Option, Some, sym, ap, ◌∙◌, subst, arith}
use Rattle.std.specs.Prelude.{Result, Ok, Err}
use Rattle.std.specs.Result.{IsErrOf}
use Rattle.mg_text.specs.Places.{start_of, place_after}
use Rattle.mg_text.specs.declared.place.Place.{Place}
use Rattle.mg_read.specs.Culprit.{Culprit, culprit}
use Rattle.mg_read.specs.Pieces.{no_piece, ill_formed}
use Rattle.mg_read.proofs.Steps.{some_is}
use Rattle.ts_tree.specs.Typestate.{Typestate}
use Rattle.mg_read.specs.declared.fault.LexFault.{LexFault}
use Rattle.mg_read.specs.declared.fault.LexFault.TheVariants as lexes
use Rattle.mg_read.specs.declared.fault.ParseFault.{ParseFault}
use Rattle.mg_read.specs.declared.fault.ParseFault.TheVariants as parsing
use Rattle.ts_parse.specs.declared.token.Token.{Token}
use Rattle.ts_parse.specs.Tok.{toks, AreTokens, IsBadAt}
use Rattle.ts_parse.specs.Grammar.{IsSpelled}
use Rattle.ts_parse.specs.Answer.{SaysSyntax}
use Rattle.ts_parse.specs.Written.{WFile}
use Rattle.ts_read.specs.declared.condition.Condition.{Condition}
use Rattle.ts_read.specs.declared.condition.Condition.TheVariants as conditions
use Rattle.ts_read.specs.declared.fault.TsFault.{TsFault}
use Rattle.ts_read.specs.declared.fault.TsFault.TheVariants as faults
use Rattle.ts_read.specs.Conditions.{IsFault}
use Rattle.ts_read.specs.Outcome.{Answer, Read, TooLarge, BadByte, Syntax, Refused, Spells, Outcome, too_large, too_many, bad_byte, syntax}
use Rattle.ts_read.specs.Outcome.{refused, read}
use Rattle.ts_read.specs.inner.Composing.{condition_of, IsToldOf, MeantFault, IsMeant}

abbrev lexed : {T : Type 0} → LexFault → Result T LexFault
lexed fault = Err fault

pub bad_of : {T : Type 0} (fault : LexFault) (k : ℕ) (bytes : List ℕ) → fault ≡ lexes.BadByte k
    → ((j : ℕ) → IsErrOf {T = T} (Err fault) (lexes.BadByte j) → IsBadAt j bytes) → IsBadAt k bytes
bad_of {T} fault k bytes is h = h k (ap (lexed {T = T}) is)

pub large_told : (file : ℕ) (bytes : List ℕ) (place : Place) → 1048576 < length bytes → place ≡ start_of file
    → IsToldOf file bytes (Err (faults.TooLarge place))
large_told file bytes place large is a e = subst (Outcome file bytes)
    (ap (λ (p : Place). TooLarge p) (sym is) ∙ some_is (TooLarge place) a e) (too_large large)

pub bad_within : (bytes : List ℕ) (k : ℕ) → IsBadAt k bytes → k ≤ length bytes
bad_within bytes k b = elim (b.bad) [ no_piece u ↦ omega (arith, u.here) | ill_formed v ↦ omega (arith, v.short) ]

pub bad_told : (file : ℕ) (bytes : List ℕ) (k : ℕ) (place : Place) → length bytes ≤ 1048576 → IsBadAt k bytes
    → place ≡ place_after (start_of file) (take k bytes) → IsToldOf file bytes (Err (faults.BadByte place))
bad_told file bytes k place size b is a e =
    subst (Outcome file bytes) (ap (λ (p : Place). BadByte p) (sym is) ∙ some_is (BadByte place) a e) (bad_byte k size b)

told_refused : (file : ℕ) (bytes : List ℕ) (w : WFile) (k : Condition) (place : Place) (name : List ℕ) (a : Answer) → Spells file bytes w
    → (x : Condition × Culprit) → length w.states ≤ 1000 → ◌≡◌ {A = Option (Condition × Culprit)} (Some (k, culprit place name)) (Some x)
    → IsFault w (Some x)
    → ◌≡◌ {A = Option Answer} (Some (Refused k place name)) (Some a) → Outcome file bytes a
told_refused file bytes w k place name a s x few is h e =
    subst (Outcome file bytes) (some_is (Refused k place name) a e)
    (refused s few (subst (λ (y : Condition × Culprit). IsFault w (Some y)) (sym (some_is (k, culprit place name) x is)) h))

pub meant_told : (file : ℕ) (bytes : List ℕ) (w : WFile) (r : Result Typestate TsFault) → Spells file bytes w → IsMeant file w r
    → IsToldOf file bytes r
meant_told file bytes w (Ok t) s (few, h, is) a e =
    subst (Outcome file bytes) (ap (λ (u : Typestate). Read u) (sym is) ∙ some_is (Read t) a e) (read s few h)
meant_told file bytes w (Err (faults.TooLarge place)) s (many, is) a e =
    subst (Outcome file bytes) (ap (λ (p : Place). TooLarge p) (sym is) ∙ some_is (TooLarge place) a e) (too_many s many)
meant_told file bytes w (Err faults.Memory) s h a e = absurd cc
meant_told file bytes w (Err (faults.BadByte place)) s (x, few, is, h) a e = absurd cc
meant_told file bytes w (Err (faults.Syntax place)) s (x, few, is, h) a e = absurd cc
meant_told file bytes w (Err (faults.DuplicateState place name)) s (x, few, is, h) a e =
    told_refused file bytes w conditions.DuplicateState place name a s x few is h e
meant_told file bytes w (Err (faults.UnknownState place name)) s (x, few, is, h) a e =
    told_refused file bytes w conditions.UnknownState place name a s x few is h e
meant_told file bytes w (Err (faults.DuplicateMethod place name)) s (x, few, is, h) a e =
    told_refused file bytes w conditions.DuplicateMethod place name a s x few is h e
meant_told file bytes w (Err (faults.SignatureDiffers place name)) s (x, few, is, h) a e =
    told_refused file bytes w conditions.SignatureDiffers place name a s x few is h e
meant_told file bytes w (Err (faults.DuplicateLabel place name)) s (x, few, is, h) a e =
    told_refused file bytes w conditions.DuplicateLabel place name a s x few is h e
meant_told file bytes w (Err (faults.ReservedEnd place name)) s (x, few, is, h) a e =
    told_refused file bytes w conditions.ReservedEnd place name a s x few is h e

pub syntax_told : (file : ℕ) (bytes : List ℕ) (items slice : List Token) (fault : ParseFault) (at : Option Place) (place : Place)
    → length bytes ≤ 1048576 → AreTokens file (toks items) bytes → slice ≡ items
    → fault ≡ parsing.Syntax at → (SaysSyntax (Err fault) → (w : WFile) → IsSpelled w (toks slice) → ⊥)
    → IsToldOf file bytes (Err (faults.Syntax place))
syntax_told file bytes items slice fault at place size cut same is never a e =
    let says : SaysSyntax (Err fault) = subst (λ (f : ParseFault). SaysSyntax (Err f)) (sym is) tt in
    subst (Outcome file bytes) (some_is Syntax a e)
    (syntax size cut (λ w h. never says w (subst (λ (ts : List Token). IsSpelled w (toks ts)) (sym same) h)))

pub meant_fault : (file : ℕ) (w : WFile) (fault : TsFault) (x : Condition × Culprit) → length w.states ≤ 1000 → condition_of fault ≡ Some x
    → IsFault w (Some x) → MeantFault file w fault
meant_fault file w (faults.TooLarge place) x few is h = absurd cc
meant_fault file w faults.Memory x few is h = tt
meant_fault file w (faults.BadByte place) x few is h = (x, few, is, h)
meant_fault file w (faults.Syntax place) x few is h = (x, few, is, h)
meant_fault file w (faults.DuplicateState place name) x few is h = (x, few, is, h)
meant_fault file w (faults.UnknownState place name) x few is h = (x, few, is, h)
meant_fault file w (faults.DuplicateMethod place name) x few is h = (x, few, is, h)
meant_fault file w (faults.SignatureDiffers place name) x few is h = (x, few, is, h)
meant_fault file w (faults.DuplicateLabel place name) x few is h = (x, few, is, h)
meant_fault file w (faults.ReservedEnd place name) x few is h = (x, few, is, h)
