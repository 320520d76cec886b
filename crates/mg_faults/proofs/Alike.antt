-- Files have one list of what is wrong, but for the places of Syntax.
use Rattle.std.proofs.Common.{◌≡◌, List, [], ◌∷◌, refl, sym, subst, inl}
use Rattle.mg_read.proofs.Judging.{no_both}
use Rattle.jv_core.specs.Tree as Core
use Rattle.use_rules.specs.declared.demand.Demand.{Demand}
use Rattle.mg_refusal.specs.Refusals.{Refusal}
use Rattle.mg_refusal.specs.Order.{at_first, at_next}
use Rattle.mg_sources.specs.Files.{Source}
use Rattle.mg_sources.specs.Reading.{Refuses}
use Rattle.mg_sources.specs.Sources as reading
use Rattle.mg_sources.proofs.Alike as sources_alike
use Rattle.mg_sources.proofs.OneKind.{excludes, alike}
use Rattle.mg_sources.proofs.PartLemmas.{none_refused}
use Rattle.mg_sources.proofs.Together.{not_both}
use Rattle.mg_accepted.specs.Program.{HaveCore, FirstRefusal}
use Rattle.mg_accepted.proofs.OneCore.{no_refusal, one_core}
use Rattle.mg_accepted.proofs.TypesAlike as program_alike
use Rattle.mg_faults.specs.Demands.{said_of, AreFaults}
use Rattle.mg_faults.specs.Faults.{AreRefused, none, read, refused, readers, roles, types, usages, AreAllAlike, OneList}
use Rattle.mg_faults.proofs.Among.{first_read}
use Rattle.mg_faults.proofs.Order.{one_faults}

read_alike : (files others : List Source) (rs qs : List Refusal) → AreRefused files rs → AreRefused others qs → files ≡ others →
    AreAllAlike rs qs
read_alike _ _ _ _ none none e = tt
read_alike _ _ _ _ none (read x rest) e = absurd (let no : ⊥ = cc in no)
read_alike _ _ _ _ none (refused x rest) e = absurd (let no : ⊥ = cc in no)
read_alike _ _ _ _ (read x rest) none e = absurd (let no : ⊥ = cc in no)
read_alike _ _ _ _ (refused x rest) none e = absurd (let no : ⊥ = cc in no)
read_alike _ _ _ _ (read {source = s} {sources = ss} {rs = rs} x rest) (read {source = z} {sources = zs} {rs = qs} y more) e =
    let later : ss ≡ zs = cc in read_alike ss zs rs qs rest more later
read_alike _ _ _ _ (read {source = s} {part = part} x rest) (refused {source = z} {r = q} y more) e =
    let same : z ≡ s = cc in absurd (excludes s part q x (subst (λ (w : Source). Refuses w q) same y))
read_alike _ _ _ _ (refused {source = s} {r = r} x rest) (read {source = z} {part = part} y more) e =
    let same : s ≡ z = cc in absurd (excludes z part r y (subst (λ (w : Source). Refuses w r) same x))
read_alike _ _ _ _ (refused {source = s} {r = r} {sources = ss} {rs = rs} x rest)
    (refused {source = z} {r = q} {sources = zs} {rs = qs} y more) e =
    let same : z ≡ s = cc in
    let later : ss ≡ zs = cc in
    (alike s r q x (subst (λ (w : Source). Refuses w q) same y), read_alike ss zs rs qs rest more later)

all_one : (rs : List Refusal) → AreAllAlike rs rs
all_one [] = tt
all_one (r ∷ rs) = (inl refl, all_one rs)

-- the first refusal of the readers, or of roles
by_readers : {files : List Source} {r : Refusal} {rs : List Refusal} → AreRefused files (r ∷ rs) → reading.FirstRefusal files r
by_readers a = at_first (first_read a)

-- files that have a core are refused neither by their readers, nor by roles, nor by types
with_core : (files : List Source) (core : Core.Program) (r : Refusal) → HaveCore files core → FirstRefusal files r → ⊥
with_core files core r have = no_refusal files have.program r have.are

pub one_list : OneList
one_list files _ _ (readers a) (readers b) = read_alike files files _ _ a b refl
one_list files _ _ (readers a) (roles parts each shares) = absurd (no_both (none_refused files parts each) (first_read a))
one_list files _ _ (readers a) (types sourced are t) = absurd (not_both are (by_readers a))
one_list files _ _ (readers {r = r} a) (usages core d ds have faults) = absurd (with_core files core r have (at_first (by_readers a)))
one_list files _ _ (roles parts each shares) (readers b) = absurd (no_both (none_refused files parts each) (first_read b))
one_list files _ _ (roles parts {r = r} each shares) (roles others {r = q} each' shares') =
    (sources_alike.same_refusal files r q (at_next parts each shares) (at_next others each' shares'), tt)
one_list files _ _ (roles parts each shares) (types sourced are t) = absurd (not_both are (at_next parts each shares))
one_list files _ _ (roles parts {r = r} each shares) (usages core d ds have faults) =
    absurd (with_core files core r have (at_first (at_next parts each shares)))
one_list files _ _ (types sourced are t) (readers b) = absurd (not_both are (by_readers b))
one_list files _ _ (types sourced are t) (roles parts each shares) = absurd (not_both are (at_next parts each shares))
one_list files _ _ (types sourced {r = r} are t) (types other {r = q} are' t') =
    (program_alike.same_refusal files r q (at_next sourced are t) (at_next other are' t'), tt)
one_list files _ _ (types sourced {r = r} are t) (usages core d ds have faults) = absurd (with_core files core r have (at_next sourced are t))
one_list files _ _ (usages core d ds have faults) (readers {r = r} b) = absurd (with_core files core r have (at_first (by_readers b)))
one_list files _ _ (usages core d ds have faults) (roles parts {r = r} each shares) =
    absurd (with_core files core r have (at_first (at_next parts each shares)))
one_list files _ _ (usages core d ds have faults) (types sourced {r = r} are t) =
    absurd (with_core files core r have (at_next sourced are t))
one_list files _ _ (usages core d ds have faults) (usages other e es have' faults') =
    let same : other ≡ core = one_core files other core have' have in
    let one : d ∷ ds ≡ e ∷ es = one_faults core (d ∷ ds) (e ∷ es) faults (subst (λ (p : Core.Program). AreFaults p (e ∷ es)) same faults') in
    subst (λ (p : Core.Program). AreAllAlike (said_of core (d ∷ ds)) (said_of p (e ∷ es))) (sym same)
    (subst (λ (xs : List Demand). AreAllAlike (said_of core (d ∷ ds)) (said_of core xs)) one (all_one (said_of core (d ∷ ds))))
