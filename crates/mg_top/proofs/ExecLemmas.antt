-- What the command of class files answers.
use Rattle.std.proofs.Common.{◌≡◌, ℕ, Bool, map, List, [], ◌∷◌, ◌++◌, sym, ap, ◌∙◌, subst}
use Rattle.vm_world_law.specs.declared.role.RoleMain.{RoleMain}
use Rattle.vm_world_law.specs.declared.stand.Stand.{Stand}
use Rattle.vm_world_law.specs.Turns.{stands_in}
use Rattle.mg_sources.specs.Files.{Source, sources}
use Rattle.mg_runs.specs.Lines.{role_lines}
use Rattle.mg_runs.specs.Runs.{names_of}
use Rattle.mg_exec.specs.declared.ran.Ran.{Ran}
use Rattle.mg_exec.specs.Runs.{Course}
use Rattle.mg_exec.specs.View.{Shows, IsOfRun}
use Rattle.mg_words.specs.Words.{Word, Asked, limit_of, order_of, are_named, Exec}
use Rattle.mg_delivery.specs.declared.status.Status.{Status}
use Rattle.mg_delivery.specs.declared.delivery.Action.{Action}
use Rattle.mg_delivery.specs.declared.delivery.Action.TheVariants.{Say}
use Rattle.mg_delivery.specs.declared.delivery.Delivery.{Delivery}
use Rattle.mg_top.specs.Statuses.{status_of}
use Rattle.mg_top.specs.Commands.{prints, role_mains_of, exec_said, exec_printed, Gives, executed}
use Rattle.mg_top.proofs.CommandLemmas.{gives_so}

-- what is done about a run of class files, by what it shows
abbrev shown_so : (text trace : List ℕ) → (names : List Word) (counts : List ℕ) → List Stand → List Action
shown_so text trace names counts all = prints text ++ Say (trace ++ role_lines names counts all) ∷ []

abbrev shown_by : Asked → Ran → List Action
shown_by asked shown = shown_so shown.printed shown.trace (names_of (role_mains_of asked)) (map (λ r. r.instructions) shown.roles.items)
    (map (λ r. r.stand) shown.roles.items)

shown_same : (asked : Asked) (r : Course) (shown : Ran) → Shows (role_mains_of asked) (are_named asked) asked.traced r shown
    → shown_by asked shown ≡ prints (exec_printed asked r) ++ Say (exec_said asked r) ∷ []
shown_same asked r shown h = λ i. shown_so (h.printed_is i) (h.trace_is i) (names_of (role_mains_of asked)) (h.counts i) (h.stands i)

-- a run of what is asked for
exec_asked : (asked : Asked) (files : List Source) (mains : List RoleMain) (order : List ℕ) (limit : ℕ) (named : Bool) (shown : Ran)
    → mains ≡ role_mains_of asked → order ≡ order_of asked → limit ≡ limit_of asked → named ≡ are_named asked
    → IsOfRun files mains order limit named asked.traced shown
    → IsOfRun files (role_mains_of asked) (order_of asked) (limit_of asked) (are_named asked) asked.traced shown
exec_asked asked files mains order limit named shown m o l n h =
    subst (λ (z : Bool). IsOfRun files (role_mains_of asked) (order_of asked) (limit_of asked) z asked.traced shown) n
    (subst (λ (z : ℕ). IsOfRun files (role_mains_of asked) (order_of asked) z named asked.traced shown) l
    (subst (λ (z : List ℕ). IsOfRun files (role_mains_of asked) z limit named asked.traced shown) o
    (subst (λ (z : List RoleMain). IsOfRun files z order limit named asked.traced shown) m h)))

-- what a run printed, its trace and the lines of its roles
pub exec_given : (asked : Asked) (files : List Word) (contents : List (List ℕ)) (mains : List RoleMain)
    (order : List ℕ) (limit : ℕ) (named : Bool) (shown : Ran) (d : Delivery) → mains ≡ role_mains_of asked → order ≡ order_of asked →
    limit ≡ limit_of asked →
    named ≡ are_named asked → IsOfRun (sources files contents) mains order limit named asked.traced shown →
    d.actions.items ≡ shown_so shown.printed shown.trace (names_of mains)
    (map (λ r. r.instructions) shown.roles.items) (map (λ r. r.stand) shown.roles.items) →
    d.status ≡ status_of (map (λ r. r.stand) shown.roles.items) → Gives (Exec asked files) contents d.actions.items d.status
exec_given asked files contents mains order limit named shown d m o l n given actions status =
    let h : IsOfRun (sources files contents) (role_mains_of asked) (order_of asked) (limit_of asked) (are_named asked) asked.traced shown =
    exec_asked asked (sources files contents) mains order limit named shown m o l n given in
    gives_so (Exec asked files) contents (shown_by asked shown) (status_of (map (λ r. r.stand) shown.roles.items)) d
    (actions ∙ ap (λ (z : List RoleMain). shown_so shown.printed shown.trace (names_of z)
    (map (λ r. r.instructions) shown.roles.items) (map (λ r. r.stand) shown.roles.items)) m) status
    (subst (λ (z : Status). Gives (Exec asked files) contents (shown_by asked shown) z) (ap status_of (sym h.shows.stands))
    (subst (λ (z : List Action). Gives (Exec asked files) contents z (status_of (stands_in h.run.program h.run.last)))
    (sym (shown_same asked h.run shown h.shows))
    (executed h.run h.is)))
