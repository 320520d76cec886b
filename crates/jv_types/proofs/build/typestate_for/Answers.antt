use Rattle.std.proofs.Common.{arith}
use Rattle.jv_types.proofs.Finding.{found}
use Rattle.jv_types.proofs.Building.{typestate_found, typestate_missing}
use Rattle.jv_types.proofs.Numbering.{number_found}
use Rattle.jv_types.proofs.build.typestate_for.Goals as goal

pub returns-in-Some-find-clause-it : goal.returns-in-Some-find-clause-it
returns-in-Some-find-clause-it c =
    typestate_found c.args.typestates.now c.args.names.now c.requires c.args.class.now.typestate c.in-Some.name c.in-Some.is
    c.as_str.result.now c.as_str.ensures
    c.in-Some-find.number.0 c.in-Some-find.ensures c.index-typestates-number.result c.index-typestates-number.is

pub returns-in-Some-find-clause-number : goal.returns-in-Some-find-clause-number
returns-in-Some-find-clause-number c =
    number_found c.args.names.now c.args.class.now.typestate c.in-Some.name c.in-Some.is c.as_str.result.now c.as_str.ensures _
    c.in-Some-find.ensures

pub returns-in-None-find-clause-it : goal.returns-in-None-find-clause-it
returns-in-None-find-clause-it c =
    typestate_missing c.args.typestates.now c.args.names.now c.requires c.args.class.now.typestate c.in-Some.name c.in-Some.is
    c.as_str.result.now c.as_str.ensures c.in-None-find.ensures

pub returns-in-None-find-clause-number : goal.returns-in-None-find-clause-number
returns-in-None-find-clause-number c =
    number_found c.args.names.now c.args.class.now.typestate c.in-Some.name c.in-Some.is c.as_str.result.now c.as_str.ensures _
    c.in-None-find.ensures
