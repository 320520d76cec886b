use Rattle.mg_io.proofs.Answered.{counts_where_counted}
use Rattle.mg_io.proofs.host_sink.HostSinkSink.put.Goals as goal

pub returns-clause-faults : goal.returns-clause-faults
returns-clause-faults g c = counts_where_counted c.write_whole.result _ _ c.write_whole.ensures.counted c.write_whole.ensures.risen
