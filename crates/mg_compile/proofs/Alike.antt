-- Two first refusals of files that aren't compiled are one, but for the place of Syntax.
use Rattle.std.proofs.Common.{◌≡◌, List, Some, sym, ◌∙◌}
use Rattle.jv_core.specs.Tree as Core
use Rattle.gen_rules.specs.Limits.{Excess, IsFirstExcess}
use Rattle.gen_rules.proofs.Files.{only_excess}
use Rattle.mg_refusal.specs.Refusals.{Refusal, AreAlike}
use Rattle.mg_refusal.proofs.Orders.{finds_alike, then_alike}
use Rattle.mg_sources.specs.Files.{Source}
use Rattle.mg_accepted.proofs.OneCore.{one_core}
use Rattle.mg_accepted.proofs.Apart.{not_refused}
use Rattle.mg_accepted.proofs.Alike as accepted
use Rattle.mg_accepted.specs.Accepted.{AreAccepted}
use Rattle.mg_compile.specs.Compiled.{excess_refusal, ExcessRefusal, FirstRefusal}

same_some : {A : Type 0} (x y : A) → Some x ≡ Some y → x ≡ y
same_some x y e = cc

-- the first excess of a core is one
pub one_excess : (core : Core.Program) (d e : Excess) → IsFirstExcess core (Some d) → IsFirstExcess core (Some e) → d ≡ e
one_excess core d e h k = same_some d e (only_excess core (Some d) h ∙ sym (only_excess core (Some e) k))

pub excess_alike : (core : Core.Program) (r q : Refusal) → ExcessRefusal core r → ExcessRefusal core q → AreAlike r q
excess_alike core = finds_alike (λ e. IsFirstExcess core (Some e)) excess_refusal (one_excess core)

-- accepted files have one core
pub one_accepted : (files : List Source) (a b : Core.Program) → AreAccepted files a → AreAccepted files b → a ≡ b
one_accepted files a b h k = one_core files a b h.have k.have

pub same_refusal : (files : List Source) (r q : Refusal) → FirstRefusal files r → FirstRefusal files q → AreAlike r q
same_refusal files = then_alike (accepted.same_refusal files) (λ r core first a. not_refused files core r a first) (one_accepted files)
    (λ core a. excess_alike core)
