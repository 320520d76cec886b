-- The cutting of bytes, at the table of typestate files.
use Rattle.std.proofs.Common.{refl}
use Rattle.mg_read.proofs.Fronts.{AreApart}
use Rattle.ts_parse.specs.Tok.{typestates}

-- the signs begin nothing else
abbrev pub apart : AreApart typestates.signs
apart = (refl, (refl, (refl, (refl, (refl, (refl, (refl, (refl, (refl, (refl, (refl, (refl, tt))))))))))))
