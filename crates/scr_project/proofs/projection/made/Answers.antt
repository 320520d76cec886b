use Rattle.std.proofs.Common.{[], refl, rules}
use Rattle.scr_tree.specs.View.{statements, written}
use Rattle.scr_project.proofs.Made.{parts_written, made_of_parts, unmade_of_parts}
use Rattle.scr_project.proofs.projection.made.Goals as goal

pub local_of-requires : goal.local_of-requires
local_of-requires c =
    parts_written c.args.global.now c.args.role.now (statements c.args.body.items) c.requires.body
    (written c.file-file.result c.in_ok-name.name c.in_ok-me.me c.in_ok-roles.roles.items c.args.body.items [])
    c.file-file.ensures (search rules) (search rules) (search rules) refl refl

pub returns-in-Ok : goal.returns-in-Ok
returns-in-Ok c =
    made_of_parts c.args.global.now c.args.role.now (statements c.args.body.items) c.requires.body
    (written c.file-file.result c.in_ok-name.name c.in_ok-me.me c.in_ok-roles.roles.items c.args.body.items [])
    c.file-file.ensures (search rules) (search rules) (search rules) refl refl c.requires.listed c.in-Ok.local c.in-Ok.ensures

pub returns-in-Err : goal.returns-in-Err
returns-in-Err c =
    unmade_of_parts c.args.global.now c.args.role.now (statements c.args.body.items) c.requires.body
    (written c.file-file.result c.in_ok-name.name c.in_ok-me.me c.in_ok-roles.roles.items c.args.body.items [])
    c.file-file.ensures (search rules) (search rules) (search rules) refl refl c.requires.listed c.in-Err.fault c.unprojected.result
    c.in-Err.ensures c.unprojected.ensures
