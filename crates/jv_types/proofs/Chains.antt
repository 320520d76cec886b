-- What is found in one part, or else in those behind it.
use Rattle.std.proofs.Common.{◌≡◌, Option, Some, None, true, false, sym, ap, ◌∙◌, true≢false}
use Rattle.std.specs.Option.{option_or, option_map, is_some}

-- what is found in the first part is found in the whole
pub found_here : {X C : Type 0} (v : X → C) (found : Option X) (a r whole : Option C) → whole ≡ option_or a r → option_map v found ≡ a →
    true ≡ is_some found → option_map v found ≡ whole
found_here v None a r whole parts here e = absurd (true≢false e)
found_here v (Some x) a r whole parts here e = sym (parts ∙ ap (λ o. option_or o r) (sym here))

-- where nothing is found there, the others decide
pub missed_here : {X C : Type 0} (v : X → C) (found : Option X) (a r whole : Option C) → whole ≡ option_or a r → option_map v found ≡ a →
    false ≡ is_some found → whole ≡ r
missed_here v None a r whole parts here e = parts ∙ ap (λ o. option_or o r) (sym here)
missed_here v (Some x) a r whole parts here e = absurd (true≢false (sym e))
