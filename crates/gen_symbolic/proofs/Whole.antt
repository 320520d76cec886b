-- The whole code of a method: the draft, with the places of its labels.
use Rattle.std.proofs.Common.{◌≡◌, ℕ, List, [], ◌∷◌, map, sym, ap, ◌∙◌, subst}
use Rattle.gen_rules.specs.Symbolic.{Instr}
use Rattle.gen_rules.specs.Templates.{IsCode}
use Rattle.gen_expressions.specs.declared.coder.Coder.{Coder}
use Rattle.gen_expressions.specs.declared.coder.Draft.{Draft as KeptDraft}
use Rattle.gen_expressions.specs.declared.symbolic.Symbolic.{Symbolic}
use Rattle.gen_expressions.specs.View.{instrs_of}
use Rattle.gen_expressions.specs.Aimed.{aimed}
use Rattle.gen_expressions.specs.Held.{draft_in, method_in}
use Rattle.gen_expressions.specs.Drafting.{Draft}
use Rattle.gen_symbolic.specs.inner.Drafting.{drafted}
use Rattle.gen_symbolic.proofs.Drafts.{drafted_is_code}

pub begin_is : (c : Coder) (d : KeptDraft) → d.instrs.items ≡ [] → d.labels.items ≡ 0 ∷ [] →
    draft_in c d ≡ record { code = []; labels = 0 ∷ [] }
unfolding draft_in
begin_is c d h k =
    ap (λ xs. record { code = instrs_of c.core.now xs; labels = d.labels.items }) h ∙ ap (λ ls. record { code = []; labels = ls }) k

pub method_is : (c : Coder) (d : KeptDraft) (is : List Instr) (ls : List ℕ) (xs : List Symbolic) →
    draft_in c d ≡ drafted c.core.now (method_in c) → ls ≡ d.labels.items → xs ≡ d.instrs.items →
    is ≡ map (aimed ls) (instrs_of c.core.now xs) → IsCode c.core.now (method_in c) is
unfolding draft_in
method_is c d is ls xs h el ex e =
    subst (IsCode c.core.now (method_in c))
    (sym (e ∙ ap (λ z. map (aimed z) (instrs_of c.core.now xs)) el ∙ ap (λ z. map (aimed d.labels.items) (instrs_of c.core.now z))
    ex
    ∙ ap (λ (x : Draft). map (aimed x.labels) x.code) h)) (drafted_is_code c.core.now (method_in c))

pub ruleset begins = (begin_is)
