use Rattle.std.proofs.Common.{not, sym, ap, ◌∙◌}
use Rattle.std.specs.Option.{option_map}
use Rattle.std.specs.Str.{bytes_eq}
use Rattle.scr_tree.specs.Written.{class_beforehand}
use Rattle.scr_judge.proofs.Otherwise.{otherwise}
use Rattle.scr_judge.proofs.declared.is_otherwise.Goals as goal

pub returns-in-Some : goal.returns-in-Some
returns-in-Some c =
    otherwise c.args.declaration.now c.in-Some.class.now
    (sym (ap class_beforehand c.as_str.ensures) ∙ sym c.class_beforehand.ensures ∙ ap (option_map (λ k. k.now)) c.in-Some.is)
    c.ne.result (c.ne.ensures ∙ ap (λ n. not (bytes_eq n c.in-Some.class.now)) c.as_str-in-Some.ensures)
