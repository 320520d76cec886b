use Rattle.std.proofs.Common.{◌∙◌, None}
use Rattle.mg_accepted.proofs.Resolved.{same_program, same_count, table_is, table_failed}
use Rattle.mg_accepted.proofs.judged.declared.Goals as goal

pub table-requires : goal.table-requires
table-requires c =
    same_count c.args.sources.now (record {
      files = c.as_slice.ensures.items;
      typestates = c.as_slice-2.ensures.items;
      origins = c.as_slice-3.ensures.items;
    }) c.requires

pub returns-in-Err-clause-answered : goal.returns-in-Err-clause-answered
returns-in-Err-clause-answered c =
    table_failed c.args.sources.now (record {
      files = c.as_slice.ensures.items;
      typestates = c.as_slice-2.ensures.items;
      origins = c.as_slice-3.ensures.items;
    }) c.in-Err.fault c.stop_of.result c.stop_of.ensures c.in-Err.ensures.fault

pub returns-in-Ok-clause-program : goal.returns-in-Ok-clause-program
returns-in-Ok-clause-program c =
    c.in-Ok.ensures.program ∙ same_program c.args.sources.now (record {
      files = c.as_slice.ensures.items;
      typestates = c.as_slice-2.ensures.items;
      origins = c.as_slice-3.ensures.items;
    })

pub returns-in-Ok-clause-answered : goal.returns-in-Ok-clause-answered
returns-in-Ok-clause-answered c =
    table_is c.args.sources.now (record {
      files = c.as_slice.ensures.items;
      typestates = c.as_slice-2.ensures.items;
      origins = c.as_slice-3.ensures.items;
    }) None c.in-Ok.ensures.fine
