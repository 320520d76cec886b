use Rattle.std.proofs.Common.{◌∙◌, sym}
use Rattle.gen_pool.proofs.Numbered.{full_decides, held_decides}
use Rattle.gen_pool.proofs.pool.Pool.is_full_for.Goals as goal

pub returns-in-None : goal.returns-in-None
returns-in-None c = rw (← c.self.view_is) (full_decides c.args.key.now c.self.inside.keys.keys c.len.result
    (sym c.get_index_of.ensures.index ∙ c.in-None.is) c.len.ensures.len)

pub returns-in-Some : goal.returns-in-Some
returns-in-Some c = rw (← c.self.view_is) (held_decides c.args.key.now c.self.inside.keys.keys _
    (sym c.get_index_of.ensures.index ∙ c.in-Some.is))
