-- Each command gives one thing of the same contents, and no status of the delivery's own.
use Rattle.std.proofs.Common.{◌≡◌, ◌≢◌, ℕ, Bool, true, false, ◌⊎◌, inl, inr, List, [], ◌∷◌, length, refl, sym, ap, ◌∙◌, subst, arith}
use Rattle.mg_read.proofs.Judging.{no_both}
use Rattle.mg_text.specs.Call.{Call}
use Rattle.scr_tree.specs.Tree.{LocalTree}
use Rattle.scr_tree.specs.Meaning.{protocol_of}
use Rattle.scr_tree.specs.Traces.{Trace}
use Rattle.mg_calls.specs.Calls.{CallAt}
use Rattle.mg_calls.proofs.Laws.{one_list, no_bad}
use Rattle.std.proofs.lemmas.List.{map-append}
use Rattle.std.specs.Prelude.{if◌then◌else◌}
use Rattle.std.specs.List.{list_any}
use Rattle.mg_words.specs.Words.{Word, Asked, limit_of, order_of, Command, Exec}
use Rattle.mg_delivery.specs.declared.status.Status.{Status}
use Rattle.mg_delivery.specs.declared.status.Status.TheVariants as statuses
use Rattle.mg_delivery.specs.declared.delivery.Action.{Action}
use Rattle.mg_delivery.specs.declared.delivery.Action.TheVariants.{Print, Say}
use Rattle.mg_delivery.specs.Lines.{refusal_line, refusal_lines, not_offered_line}
use Rattle.mg_refusal.specs.Refusals.{Refusal}
use Rattle.mg_refusal.proofs.Orders.{then_never}
use Rattle.mg_sources.specs.Files.{Source, source_of, sources}
use Rattle.mg_top.specs.Conformance.{calls_of, Conforms, complete, unfinished, not_offered, Lists, IsNoList, bad_line}
use Rattle.mg_top.specs.Conformance as conformance
use Rattle.mg_sources.specs.Reading.{Protocol, Reads}
use Rattle.mg_sources.specs.Sources.{FirstRefusal}
use Rattle.mg_sources.proofs.OneKind.{one_part, excludes}
use Rattle.mg_accepted.proofs.Apart.{not_refused as not_unmet}
use Rattle.mg_accepted.proofs.OneCore.{no_refusal}
use Rattle.mg_client.proofs.Apart.{not_refused as not_unplayed}
use Rattle.mg_faults.proofs.Laws.{none_where_accepted}
use Rattle.mg_compile.proofs.Apart.{not_refused as not_exceeded}
use Rattle.vm_world_law.specs.declared.stand.Stand.{Stand}
use Rattle.vm_world_law.specs.Turns.{stands_in, is_bound, is_broken, is_zero, is_mismatch, is_waiting}
use Rattle.mg_runs.proofs.Apart.{not_refused as not_halted, one_of_run}
use Rattle.mg_top.proofs.Unbroken.{none_broken}
use Rattle.mg_runs.specs.Headline.{Course, IsCourse}
use Rattle.mg_runs.specs.Laws.{CoursesAreRuns}
use Rattle.mg_exec.proofs.Apart.{not_refused as not_stopped, one_course}
use Rattle.vm_world_law.specs.declared.role.RoleMain.{RoleMain}
use Rattle.mg_top.specs.Translation.{Target, AreTranslated}
use Rattle.mg_top.specs.Commands.{Gives, translated, played, conforms, checked, compiled, ran, executed, refined, projected, loaded}
use Rattle.mg_top.specs.Commands.{verified, fitted, faulted, shown}
use Rattle.mg_top.specs.Commands.{refined_status}
use Rattle.mg_top.specs.Statuses.{status_of}
use Rattle.mg_top.specs.Commands.{load_asked, load_sources, role_mains_of, cast_mains_of, IsRefused, judged_names, Yields, gives, refused}
use Rattle.mg_top.specs.Commands as commands
use Rattle.mg_top.specs.Promises.{IsYielded}
use Rattle.mg_top.proofs.SourceLemmas.{none_refused_of_translated}
use Rattle.ts_tree.specs.Typestate.{Typestate}
use Rattle.ts_refine.specs.declared.verdict.Reason.{Reason}
use Rattle.mg_refined.specs.Refined.{Tells, yes_told, no_told, no_text}
use Rattle.mg_refined.proofs.Apart.{one_telling, none_spelled}
use Rattle.mg_projected.proofs.Telling.{not_refused as not_unprojected}
use Rattle.mg_verified.proofs.Apart.{not_refused as not_unverified}
use Rattle.mg_fitted.proofs.Apart.{not_refused as not_unfit}

-- files that are refused aren't translated
not_untranslated : (to : Target) (files : List Source) (actions : List Action) (r : Refusal) → AreTranslated to files actions →
    FirstRefusal files r → ⊥
not_untranslated to files actions r t =
    then_never (λ r judged. no_both (none_refused_of_translated t.each) judged) (λ parts each r judged. no_both t.apart judged) r

-- the roles of one run stand in one way
one_stand : (files : List Source) (mains : List RoleMain) (order : List ℕ) (limit : ℕ) (r s : Course) → IsCourse files mains order limit r →
    IsCourse files mains order limit s → stands_in r.program r.last ≡ stands_in s.program s.last
one_stand files mains order limit r s h k =
    let same = one_of_run files mains order limit r s h k in
    λ i. stands_in (same.program i) (same.last i)

-- the command conform

follows : (local : LocalTree) (calls : List CallAt) (text : List ℕ) (status : Status) → status ≡ statuses.Done →
    Conforms local calls text status → Trace local.me (protocol_of local) (calls_of calls)
follows local calls text status done (complete (acts, end, run, finished, named)) = (acts, end, run, named)
follows local calls text status done (unfinished trace isnt) = trace
follows local calls text status done (not_offered front call rest split trace isnt) = absurd cc

-- a file that lists calls isn't refused
pub listed_once : (source : Source) (list : List CallAt) (r : Refusal) → Lists source list → IsNoList source r → ⊥
listed_once source list r h (conformance.too_large large says) = let size = h.size in omega arith
listed_once source list r h (bad_line place small bad says) = no_bad source.number source.bytes list place h.listed bad

-- where a call isn't offered, the calls don't follow
stopped : (local : LocalTree) (calls : List CallAt) (text : List ℕ) (status : Status) → status ≡ statuses.Refused →
    Conforms local calls text status → Trace local.me (protocol_of local) (calls_of calls) → ⊥
stopped local calls text status refusal (complete h) trace = cc
stopped local calls text status refusal (unfinished h isnt) trace = cc
stopped local calls text status refusal (not_offered front call rest split before isnt) trace =
    isnt (calls_of rest) (subst (λ (z : List Call). Trace local.me (protocol_of local) z)
    (ap calls_of split ∙ map-append (λ c. c.call) front (call ∷ rest)) trace)

same_local : (k l : LocalTree) → Protocol k ≡ Protocol l → k ≡ l
same_local k l e = cc

answered_status : {local : LocalTree} {calls : List CallAt} {text : List ℕ} {status : Status} → Conforms local calls text status →
    (status ≡ statuses.Done) ⊎ (status ≡ statuses.Refused)
answered_status (complete h) = inl refl
answered_status (unfinished h isnt) = inl refl
answered_status (not_offered front call rest split before isnt) = inr refl

-- calls follow, or they don't
conforms_status : (local : LocalTree) (list : List CallAt) (t u : List ℕ) (m n : Status) → Conforms local list t m → Conforms local list u n
    → m ≡ n
conforms_status local list t u m n c d = go (answered_status c) (answered_status d) where
  go : (m ≡ statuses.Done) ⊎ (m ≡ statuses.Refused) → (n ≡ statuses.Done) ⊎ (n ≡ statuses.Refused) → m ≡ n
  go (inl e) (inl f) = e ∙ sym f
  go (inl e) (inr f) = absurd (stopped local list u n f d (follows local list t m e c))
  go (inr e) (inl f) = absurd (stopped local list t m e c (follows local list u n f d))
  go (inr e) (inr f) = e ∙ sym f

-- ---- what is refused gives nothing

pub not_both : {command : Command} {contents : List (List ℕ)} {actions : List Action} {status : Status} {r : Refusal} →
    Gives command contents actions status → IsRefused command contents r → ⊥
not_both {contents = contents} {r = r} (translated {package_name = package_name} {folder = folder} {files = files} {writes = writes} t)
    (commands.translate h) =
    not_untranslated (record { package_name = package_name; folder = folder }) (sources files contents) writes r t h
not_both {contents = contents} {r = r} (played {package_name = package_name} {files = files} written a) (commands.client h) =
    not_unplayed package_name (sources files contents) written r a h
not_both {r = r} (conforms {protocol = protocol} {calls = calls} {bytes = bytes} {listed = listed} local list o l c) (commands.conform h) =
    then_never (λ r h. excludes (source_of 0 protocol bytes) (Protocol local) r o h)
    (λ local' o' r h. listed_once (source_of 1 calls listed) list r l h) r h
not_both {contents = contents} {r = r} (checked {files = files} core a report) (commands.check h) =
    not_unmet (sources files contents) core r a h
not_both {contents = contents} {r = r} (compiled {files = files} written a) (commands.compile h) =
    not_exceeded (sources files contents) written r a h
not_both {contents = contents} {r = r} (ran {asked = asked} {files = files} course is) (commands.run h) =
    not_halted (sources files contents) (role_mains_of asked) (order_of asked) (limit_of asked) course r is h
not_both {contents = contents} {r = r} (executed {asked = asked} {files = files} course is) (commands.exec h) =
    not_stopped (sources files contents) (role_mains_of asked) (order_of asked) (limit_of asked) course r is h
not_both {contents = contents} {r = r} (refined {files = files} a) (commands.refine h) =
    none_spelled (sources files contents) _ r a.spell h
not_both {contents = contents} {r = r} (projected {files = files} written a) (commands.project h) =
    not_unprojected (sources files contents) written r a h
not_both {r = r} (loaded {branches = n} {seed = seed} course is) (commands.load h) =
    not_halted (load_sources n seed) (role_mains_of load_asked) (order_of load_asked) (limit_of load_asked) course r is h
not_both {contents = contents} {r = r} (verified {files = files} {line = line} a) (commands.verify h) =
    not_unverified (sources files contents) line r a h
not_both {r = r} (fitted {roles = roles} {global = global} {files = files} {bytes = bytes} {contents = contents} a) (commands.fit h) =
    not_unfit (source_of (length files) global bytes) (sources files contents) (cast_mains_of roles) a r h
not_both {contents = contents} {r = r} (shown {files = files} core have is) (commands.show h) =
    no_refusal (sources files contents) have.program r have.are h
not_both (faulted h) r = elim r [ ]

-- ---- one status

conform_status : (protocol calls : Source) (local local' : LocalTree) (list list' : List CallAt) (t u : List ℕ) (m n : Status) →
    Reads protocol (Protocol local) → Reads protocol (Protocol local') → Lists calls list → Lists calls list' →
    Conforms local list t m → Conforms local' list' u n → m ≡ n
conform_status protocol calls local local' list list' t u m n o o' l l' c c' =
    let local_is : local' ≡ local = same_local local' local (one_part protocol (Protocol local') (Protocol local) o' o) in
    let list_is : list' ≡ list = one_list calls.bytes list' list l'.listed l.listed in
    conforms_status local list t u m n c
    (subst (λ (z : List CallAt). Conforms local z u n) list_is (subst (λ (z : LocalTree). Conforms z list' u n) local_is c'))

gives_status : {command : Command} {contents : List (List ℕ)} {xa xb : List Action} {m n : Status} → Gives command contents xa m →
    Gives command contents xb n → m ≡ n
gives_status (translated t) (translated u) = refl
gives_status (played written h) (played written' h') = refl
gives_status {m = m} {n = n} (conforms {protocol = protocol} {calls = calls} {bytes = bytes} {listed = listed} {text = t} local list o l c)
    (conforms {text = u} local' list' o' l' c') =
    conform_status (source_of 0 protocol bytes) (source_of 1 calls listed) local local' list list' t u m n o o' l l' c c'
gives_status (checked core a r) (checked core' a' r') = refl
gives_status {contents = contents} (checked {files = files} core a r) (faulted {rs = rs} h) =
    absurd (none_where_accepted (sources files contents) core rs a h)
gives_status {contents = contents} (faulted {files = files} {rs = rs} h) (checked core a r) =
    absurd (none_where_accepted (sources files contents) core rs a h)
gives_status (faulted h) (faulted k) = refl
gives_status (compiled written h) (compiled written' h') = refl
gives_status {contents = contents} (ran {asked = asked} {files = files} r h) (ran s k) =
    ap status_of (one_stand (sources files contents) (role_mains_of asked) (order_of asked) (limit_of asked) r s h k)
gives_status {contents = contents} (executed {asked = asked} {files = files} r h) (executed s k) =
    let same = one_course (sources files contents) (role_mains_of asked) (order_of asked) (limit_of asked) r s h k in
    ap status_of (λ i. stands_in (same.program i) (same.last i))
gives_status {contents = contents} (refined {files = files} {text = x} {stands = s} h) (refined {text = y} {stands = t} k) =
    ap refined_status (one_telling (sources files contents) x y s t h k).1
gives_status (projected written h) (projected written' h') = refl
gives_status (loaded {branches = n} {seed = seed} r h) (loaded s k) =
    ap status_of (one_stand (load_sources n seed) (role_mains_of load_asked) (order_of load_asked) (limit_of load_asked) r s h k)
gives_status (verified h) (verified k) = refl
gives_status (fitted h) (fitted k) = refl
gives_status (shown core have is) (shown other have' is') = refl

pub one_status : {command : Command} {contents : List (List ℕ)} {xa xb : List Action} {m n : Status} → Yields command contents xa m →
    Yields command contents xb n → m ≡ n
one_status (gives y) (gives z) = gives_status y z
one_status (gives y) (refused r) = absurd (not_both y r)
one_status (refused r) (gives y) = absurd (not_both y r)
one_status (refused r) (refused q) = refl

-- ---- the statuses that a command may have

done_proper : IsYielded statuses.Done
done_proper = (λ e. cc, λ e. cc, λ e. cc, λ e. cc)

refused_proper : IsYielded statuses.Refused
refused_proper = (λ e. cc, λ e. cc, λ e. cc, λ e. cc)

-- the status of a run, by the answers of its tests
abbrev by_tests : (bound broken zero mismatch waiting : Bool) → Status
by_tests b k z m w =
    if b then statuses.Bound else if k then statuses.Broken else if z then statuses.Zero else if m then statuses.Mismatch
    else if w then statuses.Waits else statuses.Done

tests_proper : (b k z m w : Bool) → IsYielded (by_tests b k z m w)
tests_proper true k z m w = (λ e. cc, λ e. cc, λ e. cc, λ e. cc)
tests_proper false true z m w = (λ e. cc, λ e. cc, λ e. cc, λ e. cc)
tests_proper false false true m w = (λ e. cc, λ e. cc, λ e. cc, λ e. cc)
tests_proper false false false true w = (λ e. cc, λ e. cc, λ e. cc, λ e. cc)
tests_proper false false false false true = (λ e. cc, λ e. cc, λ e. cc, λ e. cc)
tests_proper false false false false false = done_proper

stands_proper : (all : List Stand) → IsYielded (status_of all)
stands_proper all = tests_proper (list_any is_bound all) (list_any is_broken all) (list_any is_zero all) (list_any is_mismatch all)
    (list_any is_waiting all)

answer_proper : {local : LocalTree} {calls : List CallAt} {text : List ℕ} {status : Status} → Conforms local calls text status →
    IsYielded status
answer_proper (complete h) = done_proper
answer_proper (unfinished h isnt) = done_proper
answer_proper (not_offered front call rest split before isnt) = refused_proper

told_proper : (stands : Bool) → IsYielded (refined_status stands)
told_proper true = done_proper
told_proper false = refused_proper

gives_proper : {command : Command} {contents : List (List ℕ)} {actions : List Action} {status : Status} →
    Gives command contents actions status → IsYielded status
gives_proper (translated t) = done_proper
gives_proper (played written h) = done_proper
gives_proper (conforms local list o l c) = answer_proper c
gives_proper (checked core a r) = done_proper
gives_proper (faulted h) = refused_proper
gives_proper (compiled written h) = done_proper
gives_proper (ran r h) = stands_proper (stands_in r.program r.last)
gives_proper (executed r h) = stands_proper (stands_in r.program r.last)
gives_proper (refined {stands = stands} h) = told_proper stands
gives_proper (projected written h) = done_proper
gives_proper (loaded r h) = stands_proper (stands_in r.program r.last)
gives_proper (verified h) = done_proper
gives_proper (fitted h) = done_proper
gives_proper (shown core have is) = done_proper

pub proper : {command : Command} {contents : List (List ℕ)} {actions : List Action} {status : Status} →
    Yields command contents actions status → IsYielded status
proper (gives y) = gives_proper y
proper (refused r) = refused_proper

-- ---- what is said of a refusal

-- a refusal is a line on standard error, or that of a call that isn't offered, or the lines of a typestate that doesn't stand for another
abbrev pub SaysRefusal : List Action → Type 0
SaysRefusal actions = ((line : List ℕ) × (actions ≡ Say line ∷ [])) ⊎ ((n : ℕ) × (actions ≡ Print (not_offered_line n) ∷ []))
    ⊎ ((calls : List Call) × (reason : Reason) × (actions ≡ Print (no_text calls reason) ∷ []))

-- no run stands as one that is refused
tests_run : (b k z m w : Bool) → by_tests b k z m w ≡ statuses.Refused → ⊥
tests_run true k z m w e = cc
tests_run false true z m w e = cc
tests_run false false true m w e = cc
tests_run false false false true w e = cc
tests_run false false false false true e = cc
tests_run false false false false false e = cc

pub never_refused : (all : List Stand) → status_of all ≡ statuses.Refused → ⊥
never_refused all = tests_run (list_any is_bound all) (list_any is_broken all) (list_any is_zero all) (list_any is_mismatch all)
    (list_any is_waiting all)

answer_says : {local : LocalTree} {calls : List CallAt} {text : List ℕ} {status : Status} → Conforms local calls text status →
    status ≡ statuses.Refused →
    SaysRefusal (Print text ∷ [])
answer_says (complete h) e = absurd cc
answer_says (unfinished h isnt) e = absurd cc
answer_says (not_offered front call rest split before isnt) e = inr (inl (call.line, refl))

told_says : (a b : Typestate) (text : List ℕ) (stands : Bool) → Tells a b text stands → refined_status stands ≡ statuses.Refused →
    SaysRefusal (Print text ∷ [])
told_says a b text stands (yes_told s) e = absurd cc
told_says a b text stands (no_told {calls = calls} {reason = reason} f) e = inr (inr (calls, reason, refl))

gives_says : {command : Command} {contents : List (List ℕ)} {actions : List Action} {status : Status} →
    Gives command contents actions status →
    status ≡ statuses.Refused → SaysRefusal actions
gives_says (translated t) e = absurd cc
gives_says (played written h) e = absurd cc
gives_says (conforms local list o l c) e = answer_says c e
gives_says (checked core a r) e = absurd cc
gives_says (faulted {files = files} {rs = rs} h) e = inl (refusal_lines files rs, refl)
gives_says (compiled written h) e = absurd cc
gives_says (ran r h) e = absurd (never_refused (stands_in r.program r.last) e)
gives_says (executed r h) e = absurd (never_refused (stands_in r.program r.last) e)
gives_says (refined {text = text} {stands = stands} h) e = told_says h.a h.b text stands h.tells e
gives_says (projected written h) e = absurd cc
gives_says (loaded r h) e = absurd (never_refused (stands_in r.program r.last) e)
gives_says (verified h) e = absurd cc
gives_says (fitted h) e = absurd cc
gives_says (shown core have is) e = absurd cc

pub refusal_says : {command : Command} {contents : List (List ℕ)} {actions : List Action} {status : Status} →
    Yields command contents actions status → status ≡ statuses.Refused → SaysRefusal actions
refusal_says (gives y) e = gives_says y e
refusal_says {command = command} (refused {r = r} h) e = inl (refusal_line (judged_names command) r, refl)

-- ---- no command is broken but that of class files

tests_whole : (b k z m w : Bool) → k ≡ false → by_tests b k z m w ≡ statuses.Broken → ⊥
tests_whole true k z m w h e = cc
tests_whole false true z m w h e = cc
tests_whole false false true m w h e = cc
tests_whole false false false true w h e = cc
tests_whole false false false false true h e = cc
tests_whole false false false false false h e = cc

answer_whole : {local : LocalTree} {calls : List CallAt} {text : List ℕ} {status : Status} → Conforms local calls text status →
    status ≢ statuses.Broken
answer_whole (complete h) e = absurd cc
answer_whole (unfinished h isnt) e = absurd cc
answer_whole (not_offered front call rest split before isnt) e = absurd cc

told_whole : (stands : Bool) → refined_status stands ≢ statuses.Broken
told_whole true e = cc
told_whole false e = cc

gives_whole : CoursesAreRuns → {command : Command} {contents : List (List ℕ)} {actions : List Action} {status : Status} →
    Gives command contents actions status → status ≡ statuses.Broken → (asked : Asked) × (files : List Word) × (command ≡ Exec asked files)
gives_whole law (translated t) e = absurd cc
gives_whole law (played written h) e = absurd cc
gives_whole law (conforms local list o l c) e = absurd (answer_whole c e)
gives_whole law (checked core a r) e = absurd cc
gives_whole law (faulted h) e = absurd cc
gives_whole law (compiled written h) e = absurd cc
gives_whole law {contents = contents} (ran {asked = asked} {files = files} r h) e =
    let all : List Stand = stands_in r.program r.last in
    absurd (tests_whole (list_any is_bound all) (list_any is_broken all) (list_any is_zero all) (list_any is_mismatch all)
    (list_any is_waiting all)
    (none_broken law (sources files contents) (role_mains_of asked) (order_of asked) (limit_of asked) r h) e)
gives_whole law (refined {stands = stands} h) e = absurd (told_whole stands e)
gives_whole law (projected written h) e = absurd cc
gives_whole law (loaded {branches = n} {seed = seed} r h) e =
    let all : List Stand = stands_in r.program r.last in
    absurd (tests_whole (list_any is_bound all) (list_any is_broken all) (list_any is_zero all) (list_any is_mismatch all)
    (list_any is_waiting all)
    (none_broken law (load_sources n seed) (role_mains_of load_asked) (order_of load_asked) (limit_of load_asked) r h) e)
gives_whole law (executed {asked = asked} {files = files} r h) e = (asked, files, refl)
gives_whole law (verified h) e = absurd cc
gives_whole law (fitted h) e = absurd cc
gives_whole law (shown core have is) e = absurd cc

pub broken_command : CoursesAreRuns → {command : Command} {contents : List (List ℕ)} {actions : List Action} {status : Status} →
    Yields command contents actions status → status ≡ statuses.Broken → (asked : Asked) × (files : List Word) × (command ≡ Exec asked files)
broken_command law (gives y) e = gives_whole law y e
broken_command law (refused r) e = absurd cc
