-- Loops that read lists.
use Rattle.std.proofs.Common.{◌≡◌, List, Bool, true, Option}
use Rattle.mg_read.specs.Reader.{Reader}
use Rattle.mg_read.proofs.Loop.{Left, Left-none}
use Rattle.scr_parse.specs.declared.fault.ParseFault.{ParseFault}
use Rattle.scr_parse.specs.declared.fault.ParseFault.TheVariants as faults
use Rattle.scr_parse.specs.Answer.{Fails}

-- a turn that fails, fails the whole
pub Left-refused : {T A : Type 0} (go : List T
    → Bool) (f : Reader T A) (fault : ParseFault) (front : List A) (ts : List T) (total : Option (List A × List T))
    → go ts ≡ true → Fails fault (f ts) → Left go f front ts total → Fails fault total
Left-refused go f faults.Memory front ts total goes h l = tt
Left-refused go f (faults.Syntax place) front ts total goes h l = Left-none go f front ts total goes h l
