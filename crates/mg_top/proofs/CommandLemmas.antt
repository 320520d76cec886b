-- What the functions of the commands answer.
use Rattle.std.proofs.Common.{◌≡◌, ℕ, Bool, true, map, List, [], ◌∷◌, ◌++◌, All, codes, inl, inr, None, sym, ap, ◌∙◌, subst, append_assoc}
use Rattle.std.specs.Prelude.{IfOk, Result, Ok, Err, if◌then◌else◌}
use Rattle.mg_text.specs.declared.memory.Memory.{Memory}
use Rattle.mg_delivery.specs.declared.status.Status.{Status}
use Rattle.mg_delivery.specs.declared.status.Status.TheVariants as statuses
use Rattle.mg_delivery.specs.declared.delivery.Action.{Action}
use Rattle.mg_delivery.specs.declared.delivery.Action.TheVariants.{Print, Say}
use Rattle.mg_delivery.specs.declared.delivery.Delivery.{Delivery}
use Rattle.mg_words.specs.Words.{Word, Asked, limit_of, order_of, are_named, Command, Check, Run, Refine, Verify, Show, files_of, IsCommand}
use Rattle.mg_words.specs.Words.{IsFileOf}
use Rattle.mg_delivery.specs.Lines.{refusal_line, read_line, memory_line}
use Rattle.mg_compile.specs.declared.files.ClassFile.{ClassFile}
use Rattle.vm_world_law.specs.declared.role.RoleMain.{RoleMain}
use Rattle.vm_world_law.specs.declared.stand.Stand.{Stand}
use Rattle.vm_world_law.specs.Turns.{stands_in, is_bound, is_broken, is_zero, is_mismatch, is_waiting}
use Rattle.vm_world.specs.declared.stand.RoleRan.{RoleRan}
use Rattle.std.specs.List.{list_any}
use Rattle.mg_runs.proofs.Naming.{any-map}
use Rattle.mg_runs.specs.declared.ran.Ran.{Ran}
use Rattle.mg_runs.specs.Lines.{role_lines}
use Rattle.mg_runs.specs.Runs.{names_of}
use Rattle.mg_runs.specs.Headline.{Course}
use Rattle.mg_runs.specs.View.{Shows, IsOfRun}
use Rattle.mg_top.specs.Statuses.{status_of}
use Rattle.mg_top.specs.Commands.{prints, kept_in, role_mains_of, run_said, run_printed, Gives, checked, faulted, ran, refined, shown}
use Rattle.mg_top.specs.Commands.{refined_status}
use Rattle.mg_top.specs.Commands.{verified}
use Rattle.mg_accepted.specs.Program.{HaveCore}
use Rattle.mg_faults.specs.Faults.{AllRefusals}
use Rattle.mg_shown.specs.Shown.{IsShown}
use Rattle.mg_delivery.specs.Lines.{refusal_lines}
use Rattle.mg_verified.specs.Verified.{AreVerified}
use Rattle.mg_top.specs.Commands.{IsRefused, judged_names, Yields, gives, refused}
use Rattle.mg_refined.specs.Refined.{AreJudged}
use Rattle.mg_read.specs.First.{Judged, with_earlier}
use Rattle.mg_refusal.specs.Refusals.{Refusal}
use Rattle.mg_refusal.specs.Order.{Answers}
use Rattle.mg_refusal.specs.declared.stop.Stop.{Stop}
use Rattle.mg_refusal.specs.declared.stop.Stop.TheVariants as stops
use Rattle.mg_sources.specs.Files.{Source, sources}
use Rattle.mg_sources.specs.Reading.{Part, EachSpells}
use Rattle.mg_sources.specs.Sources.{SharesRole}
use Rattle.jv_core.specs.Tree as Core
use Rattle.mg_accepted.specs.Accepted.{AreAccepted}
use Rattle.use_check.specs.Report.{IsReport}
use Rattle.mg_top.specs.Translation.{Target, AreTranslated}
use Rattle.mg_delivery.specs.Outside.{Outside}
use Rattle.mg_delivery.specs.Contents.{AreRead, after_read}
use Rattle.mg_top.specs.Ending.{read_limit, IsUnread, IsDue, unread, yielded, starved, mute}
use Rattle.mg_top.specs.inner.Preparing.{IsCarried, IsReported, IsPrepared, IsLeft, EachIsWritten, locals_in}
use Rattle.mg_top.proofs.SourceLemmas.{translated}

-- a delivery of these actions with this status
pub gives_so : (command : Command) (contents : List (List ℕ)) (actions : List Action) (status : Status) (d : Delivery) →
    d.actions.items ≡ actions → d.status ≡ status → Gives command contents actions status → Gives command contents d.actions.items d.status
gives_so command contents actions status d a s y =
    subst (λ (z : List Action). Gives command contents z d.status) (sym a) (subst (λ (z : Status). Gives command contents actions z)
    (sym s) y)

-- what is refused at a step of a command
module _ {A : Type 0} (command : Command) (contents : List (List ℕ)) (Wanted : A → Type 0) (Sooner : Refusal → Type 0)
    (go : (r : Refusal) → Sooner r → IsRefused command contents r) where
  pub stopped_so : (stop : Stop) → Answers Wanted Sooner (Err stop) → IsCarried command contents (Err stop)
  stopped_so (stops.Refused r) h = go r h
  stopped_so stops.Memory h = tt

pub reported : (core : Core.Program) (text given : List ℕ) (r : Result Delivery Memory) → given ≡ text → IsReport core text
    → IfOk r (λ d. d.actions.items ≡ prints given) → IfOk r (λ d. d.status ≡ statuses.Done) →
    IfOk r (λ d. IsReported core d.actions.items d.status)
reported core text given (Ok d) e h a s = record { text = text; says = a ∙ ap prints e; done = s; report = h }
reported core text given (Err x) e h a s = tt

-- the report of accepted files
pub report_given : (all : Bool) (files : List Word) (contents : List (List ℕ)) (core : Core.Program) (d : Delivery) →
    AreAccepted (sources files contents) core →
    IsReported core d.actions.items d.status → Gives (Check all files) contents d.actions.items d.status
report_given all files contents core d a k =
    gives_so (Check all files) contents (prints k.text) statuses.Done d k.says k.done (checked core a k.report)

-- all that is wrong with files
faults_given : (files : List Word) (contents : List (List ℕ)) (rs : List Refusal) (given : List ℕ) (d : Delivery) →
    AllRefusals (sources files contents) rs → given ≡ refusal_lines files rs → d.actions.items ≡ Say given ∷ [] →
    d.status ≡ statuses.Refused → Gives (Check true files) contents d.actions.items d.status
faults_given files contents rs given d h e a s =
    gives_so (Check true files) contents (Say (refusal_lines files rs) ∷ []) statuses.Refused d
    (a ∙ ap (λ (t : List ℕ). Say t ∷ []) e) s (faulted h)

pub faults_said : (files : List Word) (contents : List (List ℕ)) (rs : List Refusal) (given : List ℕ) (r : Result Delivery Memory) →
    AllRefusals (sources files contents) rs → given ≡ refusal_lines files rs → IfOk r (λ d. d.actions.items ≡ Say given ∷ []) →
    IfOk r (λ d. d.status ≡ statuses.Refused) → IfOk r (λ d. Gives (Check true files) contents d.actions.items d.status)
faults_said files contents rs given (Ok d) h e a s = faults_given files contents rs given d h e a s
faults_said files contents rs given (Err x) h e a s = tt

-- what is shown of a program
pub shown_given : (files : List Word) (contents : List (List ℕ)) (core : Core.Program) (text given : List ℕ) (d : Delivery) →
    HaveCore (sources files contents) core → IsShown files core text → given ≡ text → d.actions.items ≡ prints given →
    d.status ≡ statuses.Done → Gives (Show files) contents d.actions.items d.status
shown_given files contents core text given d have is e a s =
    gives_so (Show files) contents (prints text) statuses.Done d (a ∙ ap prints e) s (shown core have is)

-- how many methods were verified
pub verified_given : (files : List Word) (contents : List (List ℕ)) (line given : List ℕ) (d : Delivery) → given ≡ line →
    AreVerified (sources files contents) line → d.actions.items ≡ Print given ∷ [] → d.status ≡ statuses.Done →
    Gives (Verify files) contents d.actions.items d.status
verified_given files contents line given d e h a s =
    gives_so (Verify files) contents (Print line ∷ []) statuses.Done d (a ∙ ap (λ (t : List ℕ). Print t ∷ []) e) s (verified h)

-- what is told of two typestates
pub told_given : (files : List Word) (contents : List (List ℕ)) (text given : List ℕ) (stands : Bool) (status : Status) (d : Delivery) →
    given ≡ text → status ≡ refined_status stands → AreJudged (sources files contents) text stands → d.actions.items ≡ Print given ∷ [] →
    d.status ≡ status → Gives (Refine files) contents d.actions.items d.status
told_given files contents text given stands status d e f h a s =
    gives_so (Refine files) contents (Print text ∷ []) (refined_status stands) d (a ∙ ap (λ (t : List ℕ). Print t ∷ []) e) (s ∙ f)
    (refined h)

-- a text, words and the end of a line are put behind what stands there
pub line_put : (result last third second first given before text words : List ℕ) → result ≡ last → last ≡ third ++ 10 ∷ [] →
    third ≡ second ++ words → second ≡ first ++ text → first ≡ given → given ≡ before
    → result ≡ before ++ ((text ++ words) ++ 10 ∷ [])
line_put result last third second first given before text words e d c b a g =
    e ∙ d ∙ ap (λ (z : List ℕ). z ++ 10 ∷ []) (c ∙ ap (λ (z : List ℕ). z ++ words) (b ∙ ap (λ (z : List ℕ). z ++ text) (a ∙ g)) ∙
    append_assoc before text words)
    ∙ append_assoc before (text ++ words) (10 ∷ [])

-- a name, a text of three parts, words and the end of a line are put behind what stands there
pub role_put : (result third second first before name a d e words : List ℕ) → result ≡ third ++ 10 ∷ [] → third ≡ second ++ words →
    second ≡ first ++ ((a ++ d) ++ e) → first ≡ before ++ name → result ≡ before ++ (((((name ++ a) ++ d) ++ e) ++ words) ++ 10 ∷ [])
role_put result third second first before name a d e words four three two one =
    let inner : name ++ ((a ++ d) ++ e) ≡ ((name ++ a) ++ d) ++ e
    = ap (λ (z : List ℕ). name ++ z) (append_assoc a d e) ∙ sym (append_assoc name a (d ++ e)) ∙ sym (append_assoc (name ++ a) d e) in
    let whole : (before ++ name) ++ ((a ++ d) ++ e) ≡ before ++ (((name ++ a) ++ d) ++ e)
    = append_assoc before name ((a ++ d) ++ e) ∙ ap (λ (z : List ℕ). before ++ z) inner in
    four ∙ ap (λ (z : List ℕ). z ++ 10 ∷ []) (three ∙ ap (λ (z : List ℕ). z ++ words) (two ∙ ap (λ (z : List ℕ). z ++ ((a ++ d) ++ e)) one ∙
    whole)
    ∙ append_assoc before (((name ++ a) ++ d) ++ e) words) ∙ append_assoc before ((((name ++ a) ++ d) ++ e) ++ words) (10 ∷ [])

-- the status of a run, by the answers of its tests
abbrev pub by_tests : (bound broken zero mismatch waiting : Bool) → Status
by_tests b k z m w =
    if b then statuses.Bound else if k then statuses.Broken else if z then statuses.Zero else if m then statuses.Mismatch
    else if w then statuses.Waits else statuses.Done

any_stand : (test : Stand → Bool) (b : Bool) (roles : List RoleRan) → b ≡ list_any (λ r. test r.stand) roles →
    b ≡ list_any test (map (λ r. r.stand) roles)
any_stand test b roles e = e ∙ sym (any-map (λ (r : RoleRan). r.stand) test roles)

pub status_by : (roles : List RoleRan) (b k z m w : Bool) → b ≡ list_any (λ r. is_bound r.stand) roles →
    k ≡ list_any (λ r. is_broken r.stand) roles →
    z ≡ list_any (λ r. is_zero r.stand) roles → m ≡ list_any (λ r. is_mismatch r.stand) roles → w ≡ list_any (λ r. is_waiting r.stand) roles
    →
    by_tests b k z m w ≡ status_of (map (λ r. r.stand) roles)
status_by roles b k z m w eb ek ez em ew = λ i.
    by_tests (any_stand is_bound b roles eb i) (any_stand is_broken k roles ek i) (any_stand is_zero z roles ez i)
    (any_stand is_mismatch m roles em i)
    (any_stand is_waiting w roles ew i)

-- what is done about a run, by what it shows
abbrev pub shown_so : Asked → List ClassFile → (text trace : List ℕ) → (names : List Word) (counts : List ℕ) → List Stand → List Action
shown_so asked written text trace names counts all = kept_in asked.folder written
    ++ (prints text ++ Say (trace ++ role_lines names counts all) ∷ [])

abbrev pub shown_by : Asked → Ran → List Action
shown_by asked outcome = shown_so asked outcome.files.items outcome.printed outcome.trace
    (names_of (role_mains_of asked)) (map (λ r. r.instructions) outcome.roles.items) (map (λ r. r.stand) outcome.roles.items)

shown_same : (asked : Asked) (r : Course) (outcome : Ran) → Shows (role_mains_of asked) (are_named asked) asked.traced r outcome
    → shown_by asked outcome ≡ kept_in asked.folder r.written ++ (prints (run_printed asked r) ++ Say (run_said asked r) ∷ [])
shown_same asked r outcome h = λ i. shown_so asked (h.written i) (h.printed_is i) (h.trace_is i) (names_of (role_mains_of asked)) (h.counts i)
    (h.stands i)

-- a run of what is asked for
run_asked : (asked : Asked) (files : List Source) (mains : List RoleMain) (order : List ℕ) (limit : ℕ) (named : Bool) (outcome : Ran)
    → mains ≡ role_mains_of asked → order ≡ order_of asked → limit ≡ limit_of asked → named ≡ are_named asked
    → IsOfRun files mains order limit named asked.traced outcome → IsOfRun files (role_mains_of asked) (order_of asked) (limit_of asked)
    (are_named asked) asked.traced outcome
run_asked asked files mains order limit named outcome m o l n h =
    subst (λ (z : Bool). IsOfRun files (role_mains_of asked) (order_of asked) (limit_of asked) z asked.traced outcome) n
    (subst (λ (z : ℕ). IsOfRun files (role_mains_of asked) (order_of asked) z named asked.traced outcome) l
    (subst (λ (z : List ℕ). IsOfRun files (role_mains_of asked) z limit named asked.traced outcome) o
    (subst (λ (z : List RoleMain). IsOfRun files z order limit named asked.traced outcome) m h)))

-- the class files of a run, what it printed, its trace and the lines of its roles
pub run_given : (asked : Asked) (files : List Word) (contents : List (List ℕ)) (mains : List RoleMain)
    (order : List ℕ) (limit : ℕ) (named : Bool) (outcome : Ran) (d : Delivery) → mains ≡ role_mains_of asked → order ≡ order_of asked →
    limit ≡ limit_of asked →
    named ≡ are_named asked → IsOfRun (sources files contents) mains order limit named asked.traced outcome →
    d.actions.items ≡ shown_so asked outcome.files.items outcome.printed outcome.trace (names_of mains)
    (map (λ r. r.instructions) outcome.roles.items) (map (λ r. r.stand) outcome.roles.items) →
    d.status ≡ status_of (map (λ r. r.stand) outcome.roles.items) → Gives (Run asked files) contents d.actions.items d.status
run_given asked files contents mains order limit named outcome d m o l n given actions status =
    let h : IsOfRun (sources files contents) (role_mains_of asked) (order_of asked) (limit_of asked) (are_named asked) asked.traced outcome =
    run_asked asked (sources files contents) mains order limit named outcome m o l n given in
    gives_so (Run asked files) contents (shown_by asked outcome) (status_of (map (λ r. r.stand) outcome.roles.items)) d
    (actions ∙ ap (λ (z : List RoleMain). shown_so asked outcome.files.items outcome.printed outcome.trace (names_of z)
    (map (λ r. r.instructions) outcome.roles.items) (map (λ r. r.stand) outcome.roles.items)) m) status
    (subst (λ (z : Status). Gives (Run asked files) contents (shown_by asked outcome) z) (ap status_of (sym h.shows.stands))
    (subst (λ (z : List Action). Gives (Run asked files) contents z (status_of (stands_in h.run.program h.run.last)))
    (sym (shown_same asked h.run outcome h.shows))
    (ran h.run h.is)))

-- ---- what all commands give

-- what a command gives it yields
pub given_yields : (command : Command) (contents : List (List ℕ)) (d : Delivery) → IsCarried command contents (Ok d) →
    Yields command contents d.actions.items d.status
given_yields command contents d y = gives y

-- and of a refusal its line
pub refusal_yields : (command : Command) (contents : List (List ℕ)) (r : Refusal) (line : List ℕ)
    (answer : Result Delivery Memory) → IsRefused command contents r → line ≡ refusal_line (judged_names command) r →
    IfOk answer (λ d. d.actions.items ≡ Say line ∷ []) → IfOk answer (λ d. d.status ≡ statuses.Refused) →
    IfOk answer (λ d. Yields command contents d.actions.items d.status)
refusal_yields command contents r line (Ok d) h is a s =
    let said : d.actions.items ≡ Say (refusal_line (judged_names command) r) ∷ [] = a ∙ ap (λ (z : List ℕ). Say z ∷ []) is in
    subst (λ (z : List Action). Yields command contents z d.status) (sym said)
    (subst (λ (z : Status). Yields command contents (Say (refusal_line (judged_names command) r) ∷ []) z) (sym s) (refused h))
refusal_yields command contents r line (Err e) h is a s = tt

-- ---- what is due

-- a line that was made is due
pub said_due : (words : List Word) (before at : Outside) (status : Status) (line wanted : List ℕ) (r : Result Delivery Memory) →
    IfOk r (λ d. d.actions.items ≡ Say line ∷ []) → IfOk r (λ d. d.status ≡ status) → line ≡ wanted
    → IsDue words before (Say wanted ∷ []) status at → IsLeft words before at → IsPrepared words before r at
said_due words before at status line wanted (Ok d) a s e due left =
    let actions_are : d.actions.items ≡ Say wanted ∷ [] = a ∙ ap (λ (z : List ℕ). Say z ∷ []) e in
    subst (λ (z : List Action). IsDue words before z d.status at) (sym actions_are)
    (subst (λ (z : Status). IsDue words before (Say wanted ∷ []) z at) (sym s) due)
said_due words before at status line wanted (Err e) a s is due left = left

-- what a command gives is due
pub given_due : (words : List Word) (before at : Outside) (command : Command) (names : List Word) (contents given : List (List ℕ))
    (limit : ℕ) (r : Result Delivery Memory)
    → IsCommand command words → names ≡ files_of command → limit ≡ read_limit command → AreRead limit before.files names contents →
    given ≡ contents → at ≡ before
    → IfOk r (λ d. Yields command given d.actions.items d.status) → IsPrepared words before r at
given_due words before at command names contents given limit (Ok d) is named most read e same y =
    let whole : AreRead (read_limit command) before.files names contents = subst (λ (n : ℕ). AreRead n before.files names contents) most
    read in
    subst (λ (z : Outside). IsDue words before d.actions.items d.status z) (sym same)
    (yielded command contents is (subst (λ (z : List Word). AreRead (read_limit command) before.files z contents) named whole)
    (subst (λ (z : List (List ℕ)). Yields command z d.actions.items d.status) e y))
given_due words before at command names contents given limit (Err x) is named most read e same y = inl same

-- a file that couldn't be read is due
pub unread_due : (words : List Word) (before at : Outside) (name : Word) → IsUnread words before name → at ≡ after_read before name →
    IsDue words before (Say (read_line name) ∷ []) statuses.ReadFault at
unread_due words before at name may e = subst (λ (z : Outside). IsDue words before (Say (read_line name) ∷ []) statuses.ReadFault z) (sym e)
    (unread name may)

-- memory lacks
pub starved_due : (words : List Word) (before at : Outside) → IsLeft words before at → IsDue words before (Say memory_line ∷ [])
    statuses.Memory at
starved_due words before at (inl e) = subst (λ (z : Outside). IsDue words before (Say memory_line ∷ []) statuses.Memory z) (sym e) starved
starved_due words before at (inr (name, may, e)) = subst (λ (z : Outside). IsDue words before (Say memory_line ∷ []) statuses.Memory z)
    (sym e) (mute name may)

-- the file that a command couldn't read
pub unread_of : (words : List Word) (before : Outside) (command : Command) (names : List Word) (name : Word) (front rest : List Word)
    (contents : List (List ℕ)) (limit : ℕ)
    → IsCommand command words → names ≡ files_of command → limit ≡ read_limit command → names ≡ front ++ name ∷ rest →
    AreRead limit before.files front contents
    → IsUnread words before name
unread_of words before command names name front rest contents limit is named most stands read =
    record {
      command = command;
      is = is;
      front = front;
      rest = rest;
      stands = sym named ∙ stands;
      contents = contents;
      read = subst (λ (n : ℕ). AreRead n before.files front contents) most read;
    }

-- ---- the writes of translations

-- the writes of the files' translations
pub all_written : (to : Target) (names : List Word) (contents : List (List ℕ)) (parts given : List Part) (writes : List Action) →
    All (IsFileOf (codes ".scr")) names
    → EachSpells (sources names contents) parts → given ≡ parts → Judged SharesRole (with_earlier (sources names contents)) None →
    EachIsWritten to (locals_in given) writes
    → AreTranslated to (sources names contents) writes
all_written to names contents parts given writes scribble each e apart written = record {
  each = translated to 0 names contents parts writes scribble each (subst (λ (z : List Part). EachIsWritten to (locals_in z) writes)
      e written);
  apart = apart;
}

-- memory lacked to say what is due
pub left_due : (words : List Word) (before at : Outside) (r : Result Delivery Memory) (e : Memory) → r ≡ Err e → IsLeft words before at →
    IsPrepared words before r at
left_due words before at r e is left = subst (λ (z : Result Delivery Memory). IsPrepared words before z at) (sym is) left
