-- Tokens of a typestate file, as the steps of the code name them.
use Rattle.std.proofs.Common.{◌≡◌, List, sym, ap, ◌∙◌, subst}
use Rattle.ts_parse.specs.declared.token.Token.{Token}
use Rattle.ts_parse.specs.Tok.{Tok, toks}
use Rattle.ts_parse.specs.Written.{WFile}
use Rattle.ts_parse.specs.Grammar.{IsSpelled}

pub respelled : (w : WFile) (ts : List Tok) (kept slice : List Token) → slice ≡ kept → toks kept ≡ ts → IsSpelled w ts →
    IsSpelled w (toks slice)
respelled w ts kept slice same is spelled = subst (λ (xs : List Tok). IsSpelled w xs) (sym (ap toks same ∙ is)) spelled
