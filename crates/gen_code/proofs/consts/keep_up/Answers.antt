use Rattle.std.proofs.Common.{rules, ◌≡◌, ◌∙◌, ◌++◌, ap, map, length}
use Rattle.std.proofs.lemmas.List.{take_rest}
use Rattle.gen_pool.specs.Keys.{const_of}
use Rattle.gen_code.proofs.Fronting.{kept_up}
use Rattle.gen_code.proofs.consts.keep_up.Goals as goal

pub returns-in-Ok-clause-entries : goal.returns-in-Ok-clause-entries
returns-in-Ok-clause-entries c =
    let len : c.len-old.result ≡ length c.args.entries.now.items = search rules in
    kept_up c.args.entries.now.items c.args.keys.now c.push_consts.new.entries.items c.entries.result.now c.len-old.result
    c.requires.front c.entries.ensures len
    (c.in-Ok.ensures.made ∙ ap (λ ks. c.args.entries.now.items ++ map const_of ks) (take_rest c.entries.result.now c.len-old.result))
