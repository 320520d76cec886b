-- Changes one after the other.
use Rattle.std.proofs.Common.{◌≡◌, ℕ, ◌+◌, ◌<◌, ◌≤◌, List, ◌++◌, length, get_or, take, drop, refl, sym, ap, ◌∙◌, subst, append_assoc}
use Rattle.std.proofs.lemmas.List.{drop_more, at_drop_all}
use Rattle.std.specs.Prelude.{min, max}
use Rattle.lsp_text.specs.declared.encoding.Encoding.{Encoding}
use Rattle.lsp_text.specs.declared.changes.Change.{Change}
use Rattle.lsp_text.specs.Changes.{IsChanged, AreApplied}

-- one change, and then those behind it
pub one_more : (encoding : Encoding) (changes : List Change) (i : ℕ) (d : Change) (here next last : List ℕ) → i < length changes →
    IsChanged encoding (get_or changes i d) here next → AreApplied encoding (drop (i + 1) changes) next last →
    AreApplied encoding (drop i changes) here last
one_more encoding changes i d here next last less changed rest =
    subst (λ (cs : List Change). AreApplied encoding cs here last) (sym (drop_more changes i d less)) (next, changed, rest)

-- none is left
pub no_more : (encoding : Encoding) (changes : List Change) (i : ℕ) (here : List ℕ) → length changes ≤ i →
    AreApplied encoding (drop i changes) here here
no_more encoding changes i here done =
    subst (λ (cs : List Change). AreApplied encoding cs here here) (sym (at_drop_all (λ (cs : List Change). cs) changes i done)) refl

-- the new text, with the numbers that the code has
pub replaced : (old inserted new : List ℕ) (s e a b : ℕ) → a ≡ min s e → b ≡ max s e → new ≡ (take a old ++ inserted) ++ drop b old →
    new ≡ take (min s e) old ++ (inserted ++ drop (max s e) old)
replaced old inserted new s e a b low high is =
    is ∙ append_assoc (take a old) inserted (drop b old) ∙ ap (λ (z : ℕ). take z old ++ (inserted ++ drop b old)) low
    ∙ ap (λ (z : ℕ). take (min s e) old ++ (inserted ++ drop z old)) high
