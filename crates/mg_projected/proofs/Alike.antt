-- Two first refusals of a file of a global protocol are one, but for the place of Syntax.
use Rattle.std.proofs.Common.{◌≡◌, ℕ, List, [], ◌∷◌, sym, ◌∙◌, subst}
use Rattle.scr_global_read.specs.Outcome as reads
use Rattle.scr_project.specs.Outcome as projects
use Rattle.scr_read.specs.Outcome as scr
use Rattle.mg_refusal.specs.Refusals.{Refusal, AreAlike}
use Rattle.mg_refusal.specs.Order.{InFile}
use Rattle.mg_refusal.proofs.Orders.{same_in, syntax_in}
use Rattle.mg_sources.specs.Files.{Source}
use Rattle.mg_projected.specs.Projected.{Answer, Files, Unread, Unprojected, Outcome}
use Rattle.mg_projected.specs.Told.{IsSaidOfGlobal, IsSaidOfProjection, IsSaid, FirstRefusal}
use Rattle.mg_projected.proofs.Once.{one_outcome}

module _ (file : ℕ) (f g : Refusal) where
  global_alike : (a : reads.Answer) → InFile file (IsSaidOfGlobal a) f → InFile file (IsSaidOfGlobal a) g → AreAlike f g
  global_alike (reads.Protocol p) (s, h, e) told = absurd h
  global_alike reads.Syntax (s, (p, h), e) (t, (q, k), d) = syntax_in file f g s t p q h k e d
  global_alike (reads.TooLarge place) (s, h, e) (t, k, d) = same_in file f g s t (h ∙ sym k) e d
  global_alike (reads.BadByte place) (s, h, e) (t, k, d) = same_in file f g s t (h ∙ sym k) e d
  global_alike (reads.Unsupported place word) (s, h, e) (t, k, d) = same_in file f g s t (h ∙ sym k) e d
  global_alike (reads.Refused condition place name) (s, h, e) (t, k, d) = same_in file f g s t (h ∙ sym k) e d

  projection_alike : (a : projects.Answer) → InFile file (IsSaidOfProjection a) f → InFile file (IsSaidOfProjection a) g → AreAlike f g
  projection_alike (projects.Protocol local) (s, h, e) told = absurd h
  projection_alike (projects.NotMergeable place role) (s, h, e) (t, k, d) = same_in file f g s t (h ∙ sym k) e d
  projection_alike (projects.Unprojected place role (scr.Refused condition at word)) (s, h, e) (t, k, d) =
      same_in file f g s t (h ∙ sym k) e d
  projection_alike (projects.Unprojected place role (scr.Protocol local)) (s, h, e) told = absurd h
  projection_alike (projects.Unprojected place role (scr.TooLarge at)) (s, h, e) told = absurd h
  projection_alike (projects.Unprojected place role (scr.BadByte at)) (s, h, e) told = absurd h
  projection_alike (projects.Unprojected place role (scr.Unsupported at word)) (s, h, e) told = absurd h
  projection_alike (projects.Unprojected place role scr.Syntax) (s, h, e) told = absurd h

  said_alike : (a : Answer) → InFile file (IsSaid a) f → InFile file (IsSaid a) g → AreAlike f g
  said_alike (Files files) (s, h, e) told = absurd h
  said_alike (Unread a) h k = global_alike a h k
  said_alike (Unprojected a) h k = projection_alike a h k

source_is : (a b : Source) → ◌≡◌ {A = List Source} (a ∷ []) (b ∷ []) → a ≡ b
source_is a b e = cc

pub same_refusal : (files : List Source) (r q : Refusal) → FirstRefusal files r → FirstRefusal files q → AreAlike r q
same_refusal files r q h k =
    let same : h.source ≡ k.source = source_is h.source k.source (sym h.one ∙ k.one) in
    let there : Outcome k.source.number k.source.bytes h.answer = subst (λ (s : Source). Outcome s.number s.bytes h.answer) same h.gives in
    let answer : h.answer ≡ k.answer = one_outcome k.source.number k.source.bytes h.answer k.answer there k.gives in
    let said : InFile k.source.number (IsSaid k.answer) r =
    subst (λ (a : Answer). InFile k.source.number (IsSaid a) r) answer
    (subst (λ (s : Source). InFile s.number (IsSaid h.answer) r) same h.said) in
    said_alike k.source.number r q k.answer said k.said
