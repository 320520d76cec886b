-- What the program's heads say.
use Rattle.jv_resolve.specs.declared.heads.Head.{Head as Kept}
use Rattle.jv_resolve.specs.declared.heads.Head.TheVariants as kept
use Rattle.jv_resolve.specs.inner.Heads.{Head, ThisHead, NameHead, OtherHead}

abbrev pub head_seen : Kept → Head
head_seen kept.This = ThisHead
head_seen (kept.Name n) = NameHead n.now
head_seen kept.Other = OtherHead
