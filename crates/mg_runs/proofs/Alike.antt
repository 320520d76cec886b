-- Two first refusals of files that aren't run are one, but for the place of Syntax.
use Rattle.std.proofs.Common.{◌≡◌, List, [], ◌∷◌, ◌++◌, None, refl, sym, ap, ◌∙◌, subst, inl}
use Rattle.jv_core.specs.Tree as Core
use Rattle.jv_core.specs.Meaning.{main_of}
use Rattle.vm_world_law.specs.declared.role.RoleMain.{RoleMain}
use Rattle.mg_refusal.specs.Refusals.{Refusal, AreAlike}
use Rattle.mg_refusal.proofs.Orders.{then_alike}
use Rattle.mg_sources.specs.Files.{Source}
use Rattle.mg_accepted.proofs.Apart.{not_refused}
use Rattle.mg_accepted.proofs.Alike as accepted
use Rattle.mg_compile.proofs.Alike.{excess_alike, one_accepted}
use Rattle.mg_runs.specs.Runs.{HaveMains}
use Rattle.mg_runs.specs.Commanded.{no_main, LacksMain, FirstRefusal}
use Rattle.mg_runs.proofs.Apart.{lacks_none}

-- the first role whose class has no `main` is one
first_lacking : (core : Core.Program) (front others : List RoleMain) (main other : RoleMain) (rest behind : List RoleMain) →
    front ++ main ∷ rest ≡ others ++ other ∷ behind → HaveMains core front → HaveMains core others → main_of core main.class ≡ None →
    main_of core other.class ≡ None → main ≡ other
first_lacking core [] [] main other rest behind e h g a b = cc
first_lacking core [] (y ∷ others) main other rest behind e h g a b =
    let same : main ≡ y = cc in absurd (g.0 (subst (λ (z : RoleMain). main_of core z.class ≡ None) same a))
first_lacking core (x ∷ front) [] main other rest behind e h g a b =
    let same : other ≡ x = cc in absurd (h.0 (subst (λ (z : RoleMain). main_of core z.class ≡ None) same b))
first_lacking core (x ∷ front) (y ∷ others) main other rest behind e h g a b =
    let same : front ++ main ∷ rest ≡ others ++ other ∷ behind = cc in first_lacking core front others main other rest behind same h.1 g.1 a
    b

lacks_alike : (core : Core.Program) (mains : List RoleMain) (r q : Refusal) → LacksMain core mains r → LacksMain core mains q → AreAlike r q
lacks_alike core mains r q h k =
    let one : h.main ≡ k.main = first_lacking core h.front k.front h.main k.main h.rest k.rest (sym h.parts ∙ k.parts) h.have k.have h.none
    k.none in
    inl (h.said ∙ ap (λ (m : RoleMain). no_main m.class) one ∙ sym k.said)

pub same_refusal : (files : List Source) (mains : List RoleMain) (r q : Refusal) → FirstRefusal files mains r → FirstRefusal files mains q →
    AreAlike r q
same_refusal files mains = then_alike (accepted.same_refusal files) (λ r core first a. not_refused files core r a first)
    (one_accepted files)
    (λ core a. then_alike (lacks_alike core mains)
    (λ r done l have. lacks_none core l.front l.main l.rest (subst (HaveMains core) l.parts have) l.none)
    (λ x y h k. refl) (λ done have. excess_alike core))
