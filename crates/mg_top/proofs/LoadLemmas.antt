-- What the command of a workload answers.
use Rattle.std.proofs.Common.{◌≡◌, ◌∙◌, ◌<◌, ◌^◌, ℕ, zero, suc, true, false, map, List, [], ◌∷◌, ◌++◌, length, get_or, slice_get}
use Rattle.std.proofs.Common.{Contains, Some, codes, refl, sym, ap, subst, arith}
use Rattle.std.specs.List.{IsDistinct}
use Rattle.std.specs.Str.{bytes_eq}
use Rattle.std.proofs.lemmas.Map.Keys.{IsDistinct-from_apart}
use Rattle.mg_refusal.specs.Refusals.{Refusal}
use Rattle.vm_world_law.specs.declared.role.RoleMain.{RoleMain}
use Rattle.vm_world_law.specs.declared.stand.Stand.{Stand}
use Rattle.vm_world_law.specs.Turns.{stands_in}
use Rattle.mg_sources.specs.Files.{sources, Kind, Scribble, Java, suffix_of, EndsWith, HaveKinds}
use Rattle.mg_load.specs.Workload.{file_names, file_texts, loaded_line}
use Rattle.mg_runs.specs.Lines.{role_lines}
use Rattle.mg_runs.specs.Runs.{names_of, messages_in}
use Rattle.mg_runs.specs.declared.ran.Ran.{Ran}
use Rattle.mg_runs.specs.Headline.{Course}
use Rattle.mg_runs.specs.Commanded.{FirstRefusal}
use Rattle.mg_runs.specs.View.{Shows, IsOfRun}
use Rattle.mg_words.specs.Words.{Word, limit_of, order_of, Load}
use Rattle.mg_words.proofs.WordsLemmas.{All-cons, All-one}
use Rattle.mg_delivery.specs.declared.status.Status.{Status}
use Rattle.mg_delivery.specs.declared.delivery.Action.{Action}
use Rattle.mg_delivery.specs.declared.delivery.Action.TheVariants.{Print, Say}
use Rattle.mg_delivery.specs.declared.delivery.Delivery.{Delivery}
use Rattle.mg_top.specs.Statuses.{status_of}
use Rattle.mg_top.specs.Commands.{role_mains_of, run_said, run_printed, load_asked, load_sources, Gives, loaded, IsRefused}
use Rattle.mg_top.specs.Commands as commands
use Rattle.mg_top.proofs.CommandLemmas.{gives_so}

-- ---- its files and roles are those of a run

abbrev IsKind : Word → Type 0
IsKind name = (kind : Kind) × EndsWith (suffix_of kind) name

pub kinds_of_load : (names : List Word) → names ≡ file_names → HaveKinds names
kinds_of_load names e =
    subst HaveKinds (sym e)
    (All-cons IsKind (codes "A.scr") (codes "B.scr" ∷ codes "AMain.java" ∷ codes "BMain.java" ∷ []) (Scribble, (codes "A", refl))
    (All-cons IsKind (codes "B.scr") (codes "AMain.java" ∷ codes "BMain.java" ∷ []) (Scribble, (codes "B", refl))
    (All-cons IsKind (codes "AMain.java") (codes "BMain.java" ∷ []) (Java, (codes "AMain", refl))
    (All-one IsKind (codes "BMain.java") (Java, (codes "BMain", refl))))))

pub as_many : (names : List Word) (contents : List (List ℕ)) (n seed : ℕ) → names ≡ file_names → contents ≡ file_texts n seed →
    length names ≡ length contents
as_many names contents n seed e f = ap length e ∙ sym (ap length f)

pub four_files : (contents : List (List ℕ)) (n seed : ℕ) → contents ≡ file_texts n seed → length contents < 2 ^ 32
four_files contents n seed f = let four : length contents ≡ 4 = ap length f in omega arith

abbrev two_names : List Word
two_names = codes "A" ∷ codes "B" ∷ []

apart : (i j : ℕ) (d : Word) → i < j → j < length two_names → bytes_eq (get_or two_names i d) (get_or two_names j d) ≡ false
apart zero zero d less within = absurd (omega arith)
apart zero (suc zero) d less within = refl
apart zero (suc (suc j)) d less within = absurd (omega arith)
apart (suc i) zero d less within = absurd (omega arith)
apart (suc i) (suc zero) d less within = absurd (omega arith)
apart (suc i) (suc (suc j)) d less within = absurd (omega arith)

pub two_roles : (mains : List RoleMain) → mains ≡ role_mains_of load_asked → IsDistinct bytes_eq (map (λ m. m.role) mains)
two_roles mains e =
    subst (IsDistinct bytes_eq) (sym (ap (map (λ (m : RoleMain). m.role)) e)) (IsDistinct-from_apart bytes_eq two_names apart)

number_below : (i r : ℕ) → slice_get (0 ∷ 1 ∷ []) i ≡ Some r → r < 2
number_below zero r is = let e : 0 ≡ r = cc in omega arith
number_below (suc zero) r is = let e : 1 ≡ r = cc in omega arith
number_below (suc (suc i)) r is = absurd cc

pub numbers_below : (mains : List RoleMain) (order : List ℕ) → mains ≡ role_mains_of load_asked → order ≡ order_of load_asked →
    (i r : ℕ) → slice_get order i ≡ Some r → r < length mains
numbers_below mains order e o i r is =
    let two : length mains ≡ 2 = ap length e in
    let less : r < 2 = number_below i r (ap (λ (z : List ℕ). slice_get z i) (sym o) ∙ is) in
    omega arith

has_number : (r : ℕ) → r < 2 → Contains (0 ∷ 1 ∷ []) r
has_number zero less = (0, omega arith, refl)
has_number (suc zero) less = (1, omega arith, refl)
has_number (suc (suc r)) less = absurd (omega arith)

pub each_numbered : (mains : List RoleMain) (order : List ℕ) → mains ≡ role_mains_of load_asked → order ≡ order_of load_asked → (r : ℕ) →
    r < length mains → Contains order r
each_numbered mains order e o r less =
    let two : length mains ≡ 2 = ap length e in
    subst (λ (z : List ℕ). Contains z r) (sym o) (has_number r (omega arith))

-- ---- what is done about it

abbrev shown_so : (n seed : ℕ) (text : List ℕ) (messages : ℕ) (trace : List ℕ) (names : List Word) (counts : List ℕ) → List Stand →
    List Action
shown_so n seed text messages trace names counts all =
    Print (text ++ loaded_line n seed messages) ∷ Say (trace ++ role_lines names counts all) ∷ []

abbrev shown_by : (n seed : ℕ) → Ran → List Action
shown_by n seed shown = shown_so n seed shown.printed shown.messages shown.trace (names_of (role_mains_of load_asked))
    (map (λ r. r.instructions) shown.roles.items) (map (λ r. r.stand) shown.roles.items)

shown_same : (n seed : ℕ) (r : Course) (shown : Ran) → Shows (role_mains_of load_asked) true false r shown →
    shown_by n seed shown
    ≡ Print (run_printed load_asked r ++ loaded_line n seed (messages_in r.last.events)) ∷ Say (run_said load_asked r) ∷ []
shown_same n seed r shown h = λ i.
    shown_so n seed (h.printed_is i) (h.messages_are i) (h.trace_is i) (names_of (role_mains_of load_asked)) (h.counts i) (h.stands i)

-- a run of the workload
run_loaded : (n seed : ℕ) (names contents : List (List ℕ)) (mains : List RoleMain) (order : List ℕ) (shown : Ran) → names ≡ file_names →
    contents ≡ file_texts n seed → mains ≡ role_mains_of load_asked → order ≡ order_of load_asked →
    IsOfRun (sources names contents) mains order 20000000 true false shown →
    IsOfRun (load_sources n seed) (role_mains_of load_asked) (order_of load_asked) (limit_of load_asked) true false shown
run_loaded n seed names contents mains order shown e f m o h =
    subst (λ (z : List ℕ). IsOfRun (load_sources n seed) (role_mains_of load_asked) z 20000000 true false shown) o
    (subst (λ (z : List RoleMain). IsOfRun (load_sources n seed) z order 20000000 true false shown) m
    (subst (λ (z : List (List ℕ)). IsOfRun (sources file_names z) mains order 20000000 true false shown) f
    (subst (λ (z : List Word). IsOfRun (sources z contents) mains order 20000000 true false shown) e h)))

-- what it printed and how large it was, and the lines of its roles
pub load_given : (n seed : ℕ) (read : List (List ℕ)) (names contents : List (List ℕ)) (mains : List RoleMain)
    (order : List ℕ) (shown : Ran) (d : Delivery) → names ≡ file_names → contents ≡ file_texts n seed → mains ≡ role_mains_of load_asked →
    order ≡ order_of load_asked → IsOfRun (sources names contents) mains order 20000000 true false shown →
    d.actions.items ≡ shown_so n seed shown.printed shown.messages shown.trace (names_of mains)
    (map (λ r. r.instructions) shown.roles.items) (map (λ r. r.stand) shown.roles.items) →
    d.status ≡ status_of (map (λ r. r.stand) shown.roles.items) → Gives (Load n seed) read d.actions.items d.status
load_given n seed read names contents mains order shown d e f m o given actions status =
    let h : IsOfRun (load_sources n seed) (role_mains_of load_asked) (order_of load_asked) (limit_of load_asked) true false shown =
    run_loaded n seed names contents mains order shown e f m o given in
    gives_so (Load n seed) read (shown_by n seed shown) (status_of (map (λ r. r.stand) shown.roles.items)) d
    (actions ∙ ap (λ (z : List RoleMain). shown_so n seed shown.printed shown.messages shown.trace (names_of z)
    (map (λ r. r.instructions) shown.roles.items) (map (λ r. r.stand) shown.roles.items)) m) status
    (subst (λ (z : Status). Gives (Load n seed) read (shown_by n seed shown) z) (ap status_of (sym h.shows.stands))
    (subst (λ (z : List Action). Gives (Load n seed) read z (status_of (stands_in h.run.program h.run.last)))
    (sym (shown_same n seed h.run shown h.shows))
    (loaded h.run h.is)))

-- its refusal
pub refusal_given : (n seed : ℕ) (read : List (List ℕ)) (names contents : List (List ℕ)) (mains : List RoleMain) (r : Refusal) →
    names ≡ file_names → contents ≡ file_texts n seed → mains ≡ role_mains_of load_asked → FirstRefusal (sources names contents) mains r →
    IsRefused (Load n seed) read r
refusal_given n seed read names contents mains r e f m h =
    commands.load
    (subst (λ (z : List RoleMain). FirstRefusal (load_sources n seed) z r) m
    (subst (λ (z : List (List ℕ)). FirstRefusal (sources file_names z) mains r) f
    (subst (λ (z : List Word). FirstRefusal (sources z contents) mains r) e h)))
