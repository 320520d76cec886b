use Rattle.std.proofs.Common.{◌-◌, length, drop}
use Rattle.std.proofs.lemmas.Str.{IsAscii-take, IsAscii-drop}
use Rattle.scr_lex.proofs.scan.put.Goals as goal

pub ascii_text-requires : goal.ascii_text-requires
ascii_text-requires c =
    let h = rw c.in-Quote.is at c.requires in
    IsAscii-take (drop 1 c.args.text.now) (length c.args.text.now - 1 - 1) (IsAscii-drop c.args.text.now 1 h.1)
