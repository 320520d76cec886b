use Rattle.std.proofs.Common.{ap, ◌∙◌}
use Rattle.api_package.specs.Heads.{head, class_imports}
use Rattle.api_package.proofs.Heads.{head_text}
use Rattle.api_package.proofs.head.class_head.Goals as goal

pub returns : goal.returns
returns c =
    c.from_string.ensures ∙ c.in_ok-text.ensures.ok ∙ head_text c.as_str-package_name.result.now class_imports
    ∙ ap (λ z. head z class_imports) c.as_str-package_name.ensures
