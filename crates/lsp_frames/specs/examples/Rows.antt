-- Worked heads and frames, found by hand.
use Rattle.std.specs.Prelude.{codes}
use Rattle.lsp_frames.specs.declared.heads.Taken.TheVariants.{More, Refused}
use Rattle.lsp_frames.specs.declared.heads.Fault.TheVariants.{NoReturn, NoColon, NoLength}
use Rattle.lsp_frames.specs.Reading.{IsRead}
use Rattle.lsp_frames.specs.Frames.{IsFrame}

pub record Rows : Type 0 where
  -- the name in other letters, and a field that is passed over
  pub frame : IsFrame 9 (codes "content-length:2\r\nX: y\r\n\r\n{}[") (codes "{}") (codes "[")
  -- a head that has begun
  pub head : IsRead 9 (codes "X: y\r\nContent-Len") More
  -- a head that tells no length, with the place of its end
  pub no_length : IsRead 9 (codes "X: y\r\n\r\n{}") (Refused NoLength 6)
  pub no_colon : IsRead 9 (codes "X: y\r\nxy\r\n") (Refused NoColon 6)
  pub no_return : IsRead 9 (codes "X: y\r\nZ: z\n") (Refused NoReturn 6)
