use Rattle.mg_sources.specs.Files.{sources}
use Rattle.mg_client.proofs.Found.{refused_false}
use Rattle.mg_client.proofs.files.are_accepted.Goals as goal

pub returns-in-Err-Refused : goal.returns-in-Err-Refused
returns-in-Err-Refused c =
    refused_false (sources c.args.names.now c.args.contents.now) c.in-Err-Refused.field-0-0
    (rw c.in-Err-Refused.field-0-is at c.in-Err-Refused.ensures.answered)
