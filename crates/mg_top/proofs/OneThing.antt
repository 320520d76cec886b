-- A command gives one thing of the same contents, but for the place of Syntax.
use Rattle.std.proofs.Common.{◌≡◌, ◌≢◌, ◌⊎◌, ℕ, Option, Some, List, [], ◌∷◌, ◌++◌, map, length, codes, refl, sym, ap, ◌∙◌, subst, inl, inr, ⊎_elim, arith}
use Rattle.std.proofs.lemmas.List.{map-append, append-nil}
use Rattle.mg_text.specs.Call.{Call}
use Rattle.mg_text.specs.declared.place.Place.{Place}
use Rattle.mg_read.specs.FirstLaws.{IsSingle}
use Rattle.mg_read.proofs.Judging.{one_answer}
use Rattle.scr_tree.specs.Tree.{LocalTree}
use Rattle.ts_read.specs.Layout.{layout}
use Rattle.scr_tree.specs.Meaning.{protocol_of}
use Rattle.scr_tree.specs.Traces.{Trace}
use Rattle.mg_calls.specs.Calls.{CallAt, IsBadLine}
use Rattle.mg_calls.proofs.Laws.{one_list}
use Rattle.jv_core.specs.Tree as Core
use Rattle.use_check.specs.Report.{IsReport}
use Rattle.use_check.proofs.Reporting.{one_report}
use Rattle.mg_words.specs.Words.{Word, Asked, limit_of, order_of, Command}
use Rattle.mg_refusal.specs.Refusals.{Refusal, refusal_at, in_file, AreAlike}
use Rattle.mg_refusal.proofs.Orders.{then_alike}
use Rattle.mg_sources.specs.Files.{Source, source_of, sources}
use Rattle.mg_sources.specs.Reading.{Protocol}
use Rattle.mg_sources.proofs.OneKind.{one_part, excludes, alike}
use Rattle.mg_sources.proofs.Together.{one_api}
use Rattle.mg_sources.proofs.Alike as sources_alike
use Rattle.mg_accepted.proofs.OneCore.{one_core}
use Rattle.mg_accepted.proofs.Alike as accepted_alike
use Rattle.mg_accepted.proofs.TypesAlike as program_alike
use Rattle.mg_client.proofs.Apart.{one_list as one_clients}
use Rattle.mg_client.proofs.Alike as client_alike
use Rattle.mg_faults.specs.Faults.{AreAllAlike}
use Rattle.mg_faults.proofs.Alike.{one_list as all_alike}
use Rattle.mg_shown.specs.Shown.{IsShown}
use Rattle.mg_shown.proofs.Single.{one_shown}
use Rattle.use_flow.proofs.Reached.{reached_same}
use Rattle.mg_compile.proofs.Apart.{one_compiled}
use Rattle.mg_compile.proofs.Alike as compiled_alike
use Rattle.mg_load.specs.Workload.{loaded_line}
use Rattle.mg_runs.specs.Headline.{Course}
use Rattle.mg_runs.specs.Runs.{messages_in}
use Rattle.mg_runs.proofs.Apart.{one_of_run}
use Rattle.mg_runs.proofs.Alike as runs_alike
use Rattle.mg_exec.specs.Runs as executing
use Rattle.mg_exec.proofs.Apart.{one_course}
use Rattle.mg_exec.proofs.Alike as exec_alike
use Rattle.mg_verified.proofs.Apart.{one_line}
use Rattle.mg_verified.proofs.Alike as verified_alike
use Rattle.mg_fitted.specs.Laws.{RefusalsAreAlike}
use Rattle.mg_refined.proofs.Apart.{one_telling}
use Rattle.mg_projected.proofs.Telling.{written_once}
use Rattle.mg_projected.proofs.Alike as projected_alike
use Rattle.mg_delivery.specs.declared.status.Status.{Status}
use Rattle.mg_delivery.specs.declared.status.Status.TheVariants as statuses
use Rattle.mg_delivery.specs.declared.delivery.Action.{Action}
use Rattle.mg_delivery.specs.declared.delivery.Action.TheVariants.{Write, Print, Say}
use Rattle.mg_delivery.specs.Files.{Output}
use Rattle.mg_top.specs.Writing.{classes_written, roles_written, clients_written}
use Rattle.api_package.specs.Heads.{headed}
use Rattle.mg_top.specs.Translation.{Target, IsTypestateFile, api_written, IsTranslation, Translates, EachTranslates, none, one}
use Rattle.mg_delivery.specs.Lines.{refusal_line, refusal_lines, not_offered_line}
use Rattle.mg_top.specs.Conformance.{calls_of, Conforms, complete, unfinished, not_offered, IsNoList, too_large, bad_line, ConformRefusal}
use Rattle.mg_top.specs.Commands.{loaded, load_asked, load_sources, judged_names, prints, kept_in, role_mains_of, cast_mains_of, run_said, run_printed}
use Rattle.mg_top.specs.Commands.{exec_said, exec_printed}
use Rattle.mg_top.specs.Commands.{Gives, translated, played, conforms, checked, compiled, ran, executed, refined, projected, verified}
use Rattle.mg_top.specs.Commands.{fitted, faulted, shown}
use Rattle.mg_top.specs.Commands.{IsRefused, Yields, gives, refused}
use Rattle.mg_top.specs.Commands as commands
use Rattle.mg_top.specs.Once.{SameActions, YieldsOnce}
use Rattle.mg_top.proofs.Exact.{one_status, not_both}

-- ---- translate

same_local : (k l : LocalTree) → Protocol k ≡ Protocol l → k ≡ l
same_local k l e = cc

one_file : (folder : Option Word) (local : LocalTree) (a b : Output) → IsTypestateFile folder local a → IsTypestateFile folder local b →
    a ≡ b
one_file folder local a b h k =
    let same : h.typestate ≡ k.typestate = h.numbered ∙ sym k.numbered in
    let text : a.text ≡ b.text = h.layout ∙ ap layout same ∙ sym k.layout in
    let name : a.name ≡ b.name = h.named ∙ sym k.named in
    λ i. record { name = name i; text = text i }

one_translation : (to : Target) (local : LocalTree) (xs ys : List Action) → IsTranslation to local xs →
    IsTranslation to local ys →
    xs ≡ ys
one_translation to local xs ys h k =
    let file : h.typestate ≡ k.typestate = one_file to.folder local h.typestate k.typestate h.is_typestate k.is_typestate in
    let files : h.files ≡ k.files = one_api local h.files k.files h.is_api k.is_api in
    h.both ∙ (λ i. Write (file i) ∷ map (api_written to.folder) (headed to.package_name (files i))) ∙ sym k.both

one_of_source : (to : Target) (source : Source) (xs ys : List Action) → Translates to source xs → Translates to source ys →
    xs ≡ ys
one_of_source to source xs ys h k =
    let same : h.local ≡ k.local = same_local h.local k.local (one_part source (Protocol h.local) (Protocol k.local) h.spelled k.spelled) in
    one_translation to k.local xs ys (subst (λ (l : LocalTree). IsTranslation to l xs) same h.translation) k.translation

each_once : {to : Target} {files others : List Source} {xs ys : List Action} → EachTranslates to files xs →
    EachTranslates to others ys → files ≡ others → xs ≡ ys
each_once none none e = refl
each_once none (one u us) e = let no : ⊥ = cc in absurd no
each_once (one t ts) none e = let no : ⊥ = cc in absurd no
each_once {to = to} (one {source = s} {writes = a} {sources = ss} {actions = later} t ts)
    (one {source = r} {writes = b} {sources = rs} {actions = rest} u us) e =
    let same : s ≡ r = cc in
    let others : ss ≡ rs = cc in
    let first : a ≡ b = one_of_source to r a b (subst (λ (z : Source). Translates to z a) same t) u in
    let behind : later ≡ rest = each_once ts us others in
    λ i. first i ++ behind i

-- ---- run and exec

abbrev run_actions : Asked → Course → List Action
run_actions asked r = kept_in asked.folder r.written ++ (prints (run_printed asked r) ++ Say (run_said asked r) ∷ [])

abbrev load_actions : (n seed : ℕ) → Course → List Action
load_actions n seed r = Print (run_printed load_asked r ++ loaded_line n seed (messages_in r.last.events)) ∷ Say (run_said load_asked r) ∷
    []

abbrev exec_actions : Asked → executing.Course → List Action
exec_actions asked r = prints (exec_printed asked r) ++ Say (exec_said asked r) ∷ []

-- ---- conform, where a call may not be offered

-- two ways to part one list: at the same call, or one behind the other
record Apart (front others : List CallAt) (call : CallAt) : Type 0 where
  more : List CallAt
  is : others ≡ front ++ call ∷ more

parted : (front others : List CallAt) (call other : CallAt) (rest behind : List CallAt) → front ++ call ∷ rest ≡ others ++ other ∷ behind →
    (call ≡ other) ⊎ (Apart front others call ⊎ Apart others front other)
parted [] [] call other rest behind e = inl cc
parted [] (y ∷ others) call other rest behind e =
    let same : y ≡ call = cc in inr (inl (record { more = others; is = ap (λ (z : CallAt). z ∷ others) same }))
parted (x ∷ front) [] call other rest behind e =
    let same : x ≡ other = cc in inr (inr (record { more = front; is = ap (λ (z : CallAt). z ∷ front) same }))
parted (x ∷ front) (y ∷ others) call other rest behind e =
    let same : x ≡ y = cc in
    let tails : front ++ call ∷ rest ≡ others ++ other ∷ behind = cc in
    go same (parted front others call other rest behind tails)
  where
    go : x ≡ y → (call ≡ other) ⊎ (Apart front others call ⊎ Apart others front other) →
        (call ≡ other) ⊎ (Apart (x ∷ front) (y ∷ others) call ⊎ Apart (y ∷ others) (x ∷ front) other)
    go same (inl f) = inl f
    go same (inr (inl a)) = inr (inl (record { more = a.more; is = (λ i. sym same i ∷ a.is i) }))
    go same (inr (inr a)) = inr (inr (record { more = a.more; is = (λ i. same i ∷ a.is i) }))

-- no trace goes on with a call that isn't offered
never_on : (local : LocalTree) (front others : List CallAt) (call : CallAt) → Apart front others call →
    Trace local.me (protocol_of local) (calls_of others) →
    ((more : List Call) → Trace local.me (protocol_of local) (calls_of front ++ call.call ∷ more) → ⊥) → ⊥
never_on local front others call a trace isnt =
    isnt (calls_of a.more)
    (subst (Trace local.me (protocol_of local)) (ap calls_of a.is ∙ map-append (λ (c : CallAt). c.call) front (call ∷ a.more)) trace)

answers_alike : {local : LocalTree} {calls : List CallAt} {t u : List ℕ} {m n : Status} → Conforms local calls t m →
    Conforms local calls u n →
    m ≡ n → t ≡ u
answers_alike (complete c) (complete d) e = refl
answers_alike (complete c) (unfinished h isnt) e = absurd (isnt c)
answers_alike (unfinished h isnt) (complete c) e = absurd (isnt c)
answers_alike (unfinished h isnt) (unfinished k isnt') e = refl
answers_alike (complete c) (not_offered front call rest split before isnt) e = let no : ⊥ = cc in absurd no
answers_alike (unfinished h isnt') (not_offered front call rest split before isnt) e = let no : ⊥ = cc in absurd no
answers_alike (not_offered front call rest split before isnt) (complete c) e = let no : ⊥ = cc in absurd no
answers_alike (not_offered front call rest split before isnt) (unfinished h isnt') e = let no : ⊥ = cc in absurd no
answers_alike {local = local} (not_offered front call rest split before isnt) (not_offered others other behind split' before' isnt') e =
    go (parted front others call other rest behind (sym split ∙ split'))
  where
    go : (call ≡ other) ⊎ (Apart front others call ⊎ Apart others front other) → not_offered_line call.line ≡ not_offered_line other.line
    go (inl f) = ap (λ (c : CallAt). not_offered_line c.line) f
    go (inr (inl a)) = absurd (never_on local front others call a before' isnt)
    go (inr (inr a)) = absurd (never_on local others front other a before isnt')

one_bad : (file : ℕ) → IsSingle (IsBadLine file)
one_bad file line p q h k = h.1 ∙ sym k.1

same_place : (p q : Place) → Some p ≡ Some q → p ≡ q
same_place p q e = cc

lists_alike : (source : Source) (r q : Refusal) → IsNoList source r → IsNoList source q → AreAlike r q
lists_alike source r q (too_large a says) (too_large b says') = inl (says ∙ sym says')
lists_alike source r q (too_large a says) (bad_line p few b says') = let no : ⊥ = omega (arith, a, few) in absurd no
lists_alike source r q (bad_line p few a says) (too_large b says') = let no : ⊥ = omega (arith, b, few) in absurd no
lists_alike source r q (bad_line p few a says) (bad_line p' few' b says') =
    inl (says ∙ ap (λ (place : Place). in_file source.number (refusal_at (codes "BadLine") place []))
    (same_place p p' (one_answer (one_bad source.number) a b)) ∙ sym says')

conform_alike : (protocol calls : Source) (r q : Refusal) → ConformRefusal protocol calls r → ConformRefusal protocol calls q → AreAlike r q
conform_alike protocol calls = then_alike (alike protocol) (λ r local refuses reads. excludes protocol (Protocol local) r reads refuses)
    (λ a b reads reads'. same_local a b (one_part protocol (Protocol a) (Protocol b) reads reads')) (λ local reads. lists_alike calls)

-- ---- what is given

-- two texts of all that is wrong
record BothFaulted (a b : List Action) (m : Status) : Type 0 where
  names : List Word
  rs : List Refusal
  qs : List Refusal
  alike : AreAllAlike rs qs
  one : a ≡ Say (refusal_lines names rs) ∷ []
  other : b ≡ Say (refusal_lines names qs) ∷ []
  refused : m ≡ statuses.Refused

given_once : {command : Command} {contents : List (List ℕ)} {a b : List Action} {m n : Status} → Gives command contents a m →
    Gives command contents b n → m ≡ n → (a ≡ b) ⊎ BothFaulted a b m
given_once (translated t) (translated u) e = inl (each_once t.each u.each refl)
given_once {contents = contents} (played {package_name = package_name} {folder = folder} {files = files} written h) (played written' k) e =
    inl (ap (clients_written folder) (one_clients package_name (sources files contents) written written' h k))
given_once {m = m} {n = n} (conforms {protocol = protocol} {calls = calls} {bytes = bytes} {listed = listed} {text = t} local list o l c)
    (conforms {text = u} local' list' o' l' c') e =
    let local_is : local' ≡ local = same_local local' local (one_part (source_of 0 protocol bytes) (Protocol local') (Protocol local) o' o)
    in
    let list_is : list' ≡ list = one_list listed list' list l'.listed l.listed in
    let there : Conforms local list u n =
    subst (λ (z : List CallAt). Conforms local z u n) list_is (subst (λ (z : LocalTree). Conforms z list' u n) local_is c') in
    inl (ap (λ (text : List ℕ). Print text ∷ []) (answers_alike c there e))
given_once {contents = contents} (checked {files = files} {text = t} core h r) (checked {text = u} other k q) e =
    let same : core ≡ other = one_core (sources files contents) core other h.have k.have in
    inl (ap prints (one_report other t u (subst (λ (p : Core.Program). IsReport p t) same r) q))
given_once {contents = contents} (compiled {folder = folder} {files = files} written h) (compiled written' k) e =
    inl (ap (classes_written folder) (one_compiled (sources files contents) written written' h k))
given_once {contents = contents} (ran {asked = asked} {files = files} r h) (ran s k) e =
    let same = one_of_run (sources files contents) (role_mains_of asked) (order_of asked) (limit_of asked) r s h k in
    inl (λ i. run_actions asked (record {
      core = same.core i;
      written = same.written i;
      program = same.program i;
      first = r.first;
      last =
          same.last i;
    }))
given_once {contents = contents} (executed {asked = asked} {files = files} r h) (executed s k) e =
    let same = one_course (sources files contents) (role_mains_of asked) (order_of asked) (limit_of asked) r s h k in
    inl (λ i. exec_actions asked (record { program = same.program i; first = r.first; last = same.last i }))
given_once {contents = contents} (refined {files = files} {text = x} {stands = s} h) (refined {text = y} {stands = t} k) e = inl (ap (λ (text : List ℕ). Print text ∷ []) (one_telling (sources files contents) x y s t h k).0)
given_once {contents = contents} (projected {folder = folder} {files = files} written h) (projected written' k) e =
    inl (ap (roles_written folder) (written_once (sources files contents) written written' h k))
given_once (loaded {branches = n} {seed = seed} r h) (loaded s k) e =
    let same = one_of_run (load_sources n seed) (role_mains_of load_asked) (order_of load_asked) (limit_of load_asked) r s h k in
    inl (λ i. load_actions n seed (record {
      core = same.core i;
      written = same.written i;
      program = same.program i;
      first = r.first;
      last = same.last i;
    }))
given_once {contents = contents} (verified {files = files} {line = x} h) (verified {line = y} k) e = inl (ap (λ (line : List ℕ). Print line ∷ []) (one_line (sources files contents) x y h k))
given_once (fitted h) (fitted k) e = inl refl
given_once (checked core h r) (faulted k) e = let no : ⊥ = cc in absurd no
given_once (faulted k) (checked core h r) e = let no : ⊥ = cc in absurd no
given_once {contents = contents} (faulted {files = files} {rs = rs} h) (faulted {rs = qs} k) e = inr (record {
  names = files;
  rs = rs;
  qs = qs;
  alike = all_alike (sources files contents) rs qs h k;
  one = refl;
  other = refl;
  refused = refl;
})
given_once {contents = contents} (shown {files = files} {text = t} core have is) (shown {text = u} other have' is') e =
    let same : core ≡ other = one_core (sources files contents) core other have have' in
    inl (ap prints (one_shown reached_same files other t u (subst (λ (p : Core.Program). IsShown files p t) same is) is'))

-- ---- what is refused

say : (names : List Word) (r q : Refusal) → AreAlike r q → SameActions (Say (refusal_line names r) ∷ []) (Say (refusal_line names q) ∷ [])
say names r q alike = inr (
  refusal_line names r,
  refusal_line names q,
  refl,
  refl,
  record {
    names = names;
    rs = r ∷ [];
    qs = q ∷ [];
    alike = (alike, tt);
    says = sym (append-nil (refusal_line names r));
    also = sym (append-nil (refusal_line names q));
  },
)

say_all : {a b : List Action} {m : Status} → BothFaulted a b m → SameActions a b
say_all f = inr (
  refusal_lines f.names f.rs,
  refusal_lines f.names f.qs,
  f.one,
  f.other,
  record { names = f.names; rs = f.rs; qs = f.qs; alike = f.alike; says = refl; also = refl },
)

same_actions : {command : Command} {contents : List (List ℕ)} {a b : List Action} {m n : Status} → Yields command contents a m →
    Yields command contents b n → m ≡ n → m ≢ statuses.Refused → a ≡ b
same_actions (gives y) (gives z) e ne = ⊎_elim (λ h. h) (λ f. absurd (ne f.refused)) (given_once y z e)
same_actions (gives y) (refused r) e ne = absurd (ne e)
same_actions (refused r) z e ne = absurd (ne refl)

-- the law of the first refusals of files that don't fit, which the code of `fit` stands on
module _ (law : RefusalsAreAlike) where
  refused_alike : {command : Command} {contents : List (List ℕ)} {r q : Refusal} → IsRefused command contents r → IsRefused command contents q
      → AreAlike r q
  refused_alike {contents = contents} {r = r} {q = q} (commands.translate {files = files} h) (commands.translate k) =
      sources_alike.same_refusal (sources files contents) r q h k
  refused_alike {contents = contents} {r = r} {q = q} (commands.client {package_name = package_name} {files = files} h)
      (commands.client k) =
      client_alike.same_refusal package_name (sources files contents) r q h k
  refused_alike {r = r} {q = q} (commands.conform {protocol = protocol} {calls = calls} {bytes = bytes} {listed = listed} h)
      (commands.conform k) =
      conform_alike (source_of 0 protocol bytes) (source_of 1 calls listed) r q h k
  refused_alike {contents = contents} {r = r} {q = q} (commands.check {files = files} h) (commands.check k) =
      accepted_alike.same_refusal (sources files contents) r q h k
  refused_alike {contents = contents} {r = r} {q = q} (commands.compile {files = files} h) (commands.compile k) =
      compiled_alike.same_refusal (sources files contents) r q h k
  refused_alike {contents = contents} {r = r} {q = q} (commands.run {asked = asked} {files = files} h) (commands.run k) =
      runs_alike.same_refusal (sources files contents) (role_mains_of asked) r q h k
  refused_alike {contents = contents} {r = r} {q = q} (commands.exec {asked = asked} {files = files} h) (commands.exec k) =
      exec_alike.same_refusal (sources files contents) (role_mains_of asked) r q h k
  refused_alike {contents = contents} {r = r} {q = q} (commands.refine {files = files} h) (commands.refine k) =
      sources_alike.first_alike h k refl refl refl
  refused_alike {contents = contents} {r = r} {q = q} (commands.project {files = files} h) (commands.project k) =
      projected_alike.same_refusal (sources files contents) r q h k
  refused_alike {r = r} {q = q} (commands.load {branches = n} {seed = seed} h) (commands.load k) =
      runs_alike.same_refusal (load_sources n seed) (role_mains_of load_asked) r q h k
  refused_alike {contents = contents} {r = r} {q = q} (commands.verify {files = files} h) (commands.verify k) =
      verified_alike.same_refusal (sources files contents) r q h k
  refused_alike {r = r} {q = q} (commands.fit {roles = roles} {global = global} {files = files} {bytes = bytes} {contents = contents} h)
      (commands.fit k) =
      law (source_of (length files) global bytes) (sources files contents) (cast_mains_of roles) r q h k
  refused_alike {contents = contents} {r = r} {q = q} (commands.show {files = files} h) (commands.show k) =
      program_alike.same_refusal (sources files contents) r q h k

  yields_alike : {command : Command} {contents : List (List ℕ)} {a b : List Action} {m n : Status} → Yields command contents a m →
      Yields command contents b n → m ≡ n → SameActions a b
  yields_alike (gives y) (gives z) e = ⊎_elim inl say_all (given_once y z e)
  yields_alike (gives y) (refused r) e = absurd (not_both y r)
  yields_alike (refused r) (gives y) e = absurd (not_both y r)
  yields_alike {command = command} (refused {r = r} h) (refused {r = q} k) e = say (judged_names command) r q (refused_alike h k)

  pub yields_once : YieldsOnce
  yields_once command contents a b m n y z =
      let e : m ≡ n = one_status y z in record { status = e; actions = yields_alike y z e; done = same_actions y z e }
