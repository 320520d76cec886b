use Rattle.lsp_drawing.proofs.Firsts.{first_done}
use Rattle.lsp_drawing.proofs.arrows.put_first.Goals as goal

pub returns-in_ok-push_str-in-State-3 : goal.returns-in_ok-push_str-in-State-3
returns-in_ok-push_str-in-State-3 c =
    first_done _ _ _ _ _ _ _ _ c.in-State.is c.in_ok-push_str-in-State.ensures.bytes c.in_ok-push_str-in-State-2.ensures.bytes
    c.end_of.ensures c.in_ok-push_str-in-State-3.ensures.bytes
