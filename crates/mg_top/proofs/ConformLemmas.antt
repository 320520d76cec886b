-- What `conform` answers.
use Rattle.std.proofs.Common.{◌≡◌, ◌<◌, ◌≤◌, ◌+◌, ◌↔◌, ℕ, suc, Bool, true, false, IsTrue, List, [], ◌∷◌, ◌++◌, map, length, get_or}
use Rattle.std.proofs.Common.{arith, Option, Some, take, drop, codes, take-append-drop, drop-cons, refl, sym, ap, ◌∙◌, subst}
use Rattle.std.specs.Prelude.{IfOk, Result, Ok, Err}
use Rattle.std.proofs.lemmas.List.{take_more, take_all, map-append}
use Rattle.mg_text.specs.Call.{Call}
use Rattle.mg_text.specs.Row.{Row}
use Rattle.mg_text.specs.declared.place.Place.{Place}
use Rattle.mg_text.specs.declared.memory.Memory.{Memory}
use Rattle.scr_tree.specs.Tree.{LocalTree}
use Rattle.scr_tree.specs.Local.{tree_of}
use Rattle.scr_tree.specs.declared.local.Local.{Local}
use Rattle.scr_tree.specs.Meaning.{protocol_of}
use Rattle.scr_tree.specs.Traces.{Trace, Complete}
use Rattle.scr_trace.specs.Walking.{HasTaken}
use Rattle.scr_trace.specs.declared.walk.Walk.{Walk}
use Rattle.mg_calls.specs.declared.CallLine.{CallLine}
use Rattle.mg_calls.specs.declared.CallsFault.{CallsFault}
use Rattle.mg_calls.specs.declared.CallsFault.TheVariants as faults
use Rattle.mg_calls.specs.Calls.{CallAt}
use Rattle.mg_calls.specs.Answer.{call_of, IsRead}
use Rattle.mg_delivery.specs.declared.status.Status.{Status}
use Rattle.mg_delivery.specs.declared.status.Status.TheVariants as statuses
use Rattle.mg_delivery.specs.declared.delivery.Action.{Action}
use Rattle.mg_delivery.specs.declared.delivery.Action.TheVariants.{Print}
use Rattle.mg_delivery.specs.declared.delivery.Delivery.{Delivery}
use Rattle.mg_words.specs.Words.{Word, Conform, IsCommand}
use Rattle.mg_refusal.specs.Refusals.{Refusal, refusal_at, in_file}
use Rattle.mg_refusal.specs.Order.{Answers, IsStopOf, stop_in, at_first, at_next}
use Rattle.mg_refusal.specs.declared.stop.Stop.{Stop}
use Rattle.mg_refusal.specs.declared.stop.Stop.TheVariants as stops
use Rattle.mg_refusal.proofs.Orders.{stop_in_file}
use Rattle.mg_delivery.specs.Lines.{ended, not_offered_line}
use Rattle.mg_sources.specs.Files.{source_of, EndsWith}
use Rattle.mg_sources.specs.Reading.{Protocol, Reads, Refuses}
use Rattle.mg_top.specs.Conformance.{calls_of, Conforms, complete, unfinished, not_offered, IsNoList, too_large, bad_line}
use Rattle.mg_top.specs.Commands.{Gives, conforms, IsRefused}
use Rattle.mg_top.specs.Commands as commands
use Rattle.mg_sources.proofs.PartLemmas.{same_at}
use Rattle.mg_top.specs.inner.Preparing.{IsAnswered, IsCarried, calls_refusal}

-- the calls of lines
abbrev pub said : CallLine → Call
said line = (call_of line).call

said_calls : (lines : List CallLine) → calls_of (map call_of lines) ≡ map said lines
said_calls [] = refl
said_calls (l ∷ ls) = ap (λ (z : List Call). said l ∷ z) (said_calls ls)

-- steps that were taken are a trace
trace_of : (local : LocalTree) (walk : Walk) (calls : List Call) → HasTaken local walk calls → Trace local.me (protocol_of local) calls
trace_of local walk calls h = (h.acts, h.position, h.run, h.named)

abbrev pub Traced : LocalTree → List Call → Type 0
Traced local calls = Trace local.me (protocol_of local) calls

-- one more call was taken
pub taken_more : (local : LocalTree) (walk : Walk) (lines : List CallLine) (i : ℕ) (line : CallLine) (call : Call) → i < length lines →
    line ≡ get_or lines i line → call ≡ said line
    → HasTaken local walk (map said (take i lines) ++ call ∷ []) → HasTaken local walk (map said (take (i + 1) lines))
taken_more local walk lines i line call within is e h =
    let grown : map said (take (i + 1) lines) ≡ map said (take i lines) ++ call ∷ [] =
    ap (map said) (take_more lines i line within ∙ ap (λ (z : CallLine). take i lines ++ z ∷ []) (sym is)) ∙ map-append said (take i lines)
    (line ∷ []) ∙ ap (λ (z : Call). map said (take i lines) ++ z ∷ []) (sym e) in
    subst (HasTaken local walk) (sym grown) h

-- a call that isn't offered
pub not_offered_at : (local : LocalTree) (walk : Walk) (lines : List CallLine) (i : ℕ) (line : CallLine) (call : Call) → i < length lines →
    line ≡ get_or lines i line → call ≡ said line → HasTaken local walk (map said (take i lines))
    → ((more : List Call) → Traced local (map said (take i lines) ++ call ∷ more) → ⊥) →
    Conforms local (map call_of lines) (not_offered_line line.line) statuses.Refused
not_offered_at local walk lines i line call within is e taken isnt =
    not_offered (map call_of (take i lines)) (call_of line) (map call_of (drop (suc i) lines)) split
    (subst (Traced local) (sym (said_calls (take i lines))) (trace_of local walk (map said (take i lines)) taken))
    (λ more trace. isnt more (subst (Traced local) (λ j. said_calls (take i lines) j ++ sym e j ∷ more) trace))
  where
    lines_split : lines ≡ take i lines ++ line ∷ drop (suc i) lines
    lines_split = sym (take-append-drop i lines) ∙ ap (λ (z : List CallLine). take i lines ++ z) (drop-cons lines i line within ∙
        ap (λ (z : CallLine). z ∷ drop (suc i) lines) (sym is))

    split : map call_of lines ≡ map call_of (take i lines) ++ call_of line ∷ map call_of (drop (suc i) lines)
    split = ap (map call_of) lines_split ∙ map-append call_of (take i lines) (line ∷ drop (suc i) lines)

-- the same of a line that is told by its index
pub taken_at : (local : LocalTree) (walk : Walk) (lines : List CallLine) (i : ℕ) (d : CallLine) (call : Call) → i < length lines →
    call ≡ said (get_or lines i d)
    → HasTaken local walk (map said (take i lines) ++ call ∷ []) → HasTaken local walk (map said (take (i + 1) lines))
taken_at local walk lines i d call within e h = taken_more local walk lines i (get_or lines i d) call within
    (same_at lines i d (get_or lines i d) within) e h

pub refused_at : (local : LocalTree) (walk : Walk) (lines : List CallLine) (i : ℕ) (d : CallLine) (call : Call) → i < length lines →
    call ≡ said (get_or lines i d) → HasTaken local walk (map said (take i lines))
    → ((more : List Call) → Traced local (map said (take i lines) ++ call ∷ more) → ⊥) →
    Conforms local (map call_of lines) (not_offered_line (get_or lines i d).line) statuses.Refused
refused_at local walk lines i d call within e taken isnt = not_offered_at local walk lines i (get_or lines i d) call within
    (same_at lines i d (get_or lines i d) within) e taken isnt

-- all calls were taken
all_taken : (local : LocalTree) (walk : Walk) (lines : List CallLine) (i : ℕ) → length lines ≤ i →
    HasTaken local walk (map said (take i lines)) → HasTaken local walk (map said lines)
all_taken local walk lines i end h = subst (λ (z : List CallLine). HasTaken local walk (map said z)) (take_all i lines end) h

pub complete_at : (local : LocalTree) (walk : Walk) (lines : List CallLine) (i : ℕ) (done : Bool) → length lines ≤ i →
    HasTaken local walk (map said (take i lines)) → ((calls : List Call) → HasTaken local walk calls →
    IsTrue done ↔ Complete local.me (protocol_of local) calls)
    → done ≡ true → Conforms local (map call_of lines) (ended (codes "complete")) statuses.Done
complete_at local walk lines i done end h told is =
    complete (subst (λ (z : List Call). Complete local.me (protocol_of local) z) (sym (said_calls lines))
    ((told (map said lines) (all_taken local walk lines i end h)).0 is))

pub open_at : (local : LocalTree) (walk : Walk) (lines : List CallLine) (i : ℕ) (done : Bool) → length lines ≤ i →
    HasTaken local walk (map said (take i lines)) → ((calls : List Call) → HasTaken local walk calls →
    IsTrue done ↔ Complete local.me (protocol_of local) calls)
    → done ≡ false → Conforms local (map call_of lines) (ended (codes "open")) statuses.Done
open_at local walk lines i done end h told is =
    let all = all_taken local walk lines i end h in
    unfinished (subst (Traced local) (sym (said_calls lines)) (trace_of local walk (map said lines) all))
    (λ whole. not_true done is ((told (map said lines) all).1 (subst (λ (z : List Call). Complete local.me (protocol_of local) z)
    (said_calls lines) whole)))
  where
    not_true : (b : Bool) → b ≡ false → b ≡ true → ⊥
    not_true b e f = let no : false ≡ true = sym e ∙ f in cc

-- ---- what is given

some_is : {x y : Refusal} → ◌≡◌ {A = Option Refusal} (Some x) (Some y) → x ≡ y
some_is e = cc

-- a text that was made answers
pub answered : (local : LocalTree) (calls : List CallAt) (text made : List ℕ) (status : Status) (r : Result Delivery Memory) →
    IfOk r (λ d. d.actions.items ≡ Print made ∷ []) → IfOk r (λ d. d.status ≡ status) → made ≡ text → Conforms local calls text status
    → IfOk r (λ d. IsAnswered local calls d.actions.items d.status)
answered local calls text made status (Ok d) a s e c = record {
  text = text;
  says = a ∙ ap (λ (z : List ℕ). Print z ∷ []) e;
  conforms =
      subst (Conforms local calls text) (sym s) c;
}
answered local calls text made status (Err x) a s e c = tt

pub followed : (protocol calls : Word) (bytes listed : List ℕ) (local : LocalTree) (list slice : List CallLine) (d : Delivery) →
    Reads (source_of 0 protocol bytes) (Protocol local) → (items : Row CallLine) → items.items ≡ list → IsRead 1 listed (Ok items) →
    slice ≡ list → IsAnswered local (map call_of slice) d.actions.items d.status →
    Gives (Conform (protocol ∷ calls ∷ [])) (bytes ∷ listed ∷ []) d.actions.items d.status
followed protocol calls bytes listed local list slice d only items same read e h =
    subst (λ (z : List Action). Gives (Conform (protocol ∷ calls ∷ [])) (bytes ∷ listed ∷ []) z d.status) (sym h.says)
    (conforms local (map call_of items.items) only (record { size = read.0; listed = read.1 })
    (subst (λ (z : List CallLine). Conforms local (map call_of z) h.text d.status) (e ∙ sym same) h.conforms))

no_list : (calls : Word) (listed : List ℕ) (fault : CallsFault) (wanted r : Refusal) → IsRead 1 listed (Err fault) →
    calls_refusal fault ≡ Some wanted → r ≡ in_file 1 wanted → IsNoList (source_of 1 calls listed) r
no_list calls listed (faults.TooLarge place) wanted r (large, at) e says =
    too_large large (says ∙ ap (in_file 1) (sym (some_is e)) ∙ ap (λ (p : Place). in_file 1 (refusal_at (codes "TooLarge") p [])) at)
no_list calls listed (faults.BadLine place) wanted r (small, bad) e says =
    bad_line place small bad (says ∙ ap (in_file 1) (sym (some_is e)))
no_list calls listed faults.Memory wanted r h e says = absurd (let no : ⊥ = cc in no)

-- the file of a protocol, or that of calls, is refused
pub no_protocol : (protocol calls : Word) (bytes listed : List ℕ) (stop : Stop) →
    Answers (λ (local : Local). Reads (source_of 0 protocol bytes) (Protocol (tree_of local))) (Refuses (source_of 0 protocol bytes))
    (Err stop) →
    IsCarried (Conform (protocol ∷ calls ∷ [])) (bytes ∷ listed ∷ []) (Err stop)
no_protocol protocol calls bytes listed (stops.Refused r) h = commands.conform (at_first h)
no_protocol protocol calls bytes listed stops.Memory h = tt

pub list_refused : (protocol calls : Word) (bytes listed : List ℕ) (local : LocalTree) (fault : CallsFault) (stop : Stop) →
    Reads (source_of 0 protocol bytes) (Protocol local) → IsRead 1 listed (Err fault) →
    IsStopOf (λ wanted r. r ≡ wanted) (calls_refusal fault) stop →
    IsCarried (Conform (protocol ∷ calls ∷ [])) (bytes ∷ listed ∷ []) (Err (stop_in 1 stop))
list_refused protocol calls bytes listed local fault stop only read h =
    stop_in_file 1 (λ wanted r. r ≡ wanted)
    (λ (d : Delivery). Gives (Conform (protocol ∷ calls ∷ [])) (bytes ∷ listed ∷ []) d.actions.items d.status)
    (IsRefused (Conform (protocol ∷ calls ∷ [])) (bytes ∷ listed ∷ [])) (calls_refusal fault) stop h
    (λ wanted r e said. commands.conform (at_next local only
    (no_list calls listed fault wanted r read e (said.2 ∙ ap (in_file 1) said.1))))

-- the contents of two files
pub two_contents : (contents : List (List ℕ)) (a b x y : List ℕ) → length contents ≡ 2 → a ≡ get_or contents 0 a → b ≡ get_or contents 1 b →
    x ≡ a → y ≡ b → x ∷ y ∷ [] ≡ contents
two_contents [] a b x y e f g h k = absurd (omega (arith, e))
two_contents (c ∷ []) a b x y e f g h k = absurd (omega (arith, e))
two_contents (c ∷ d ∷ z ∷ zs) a b x y e f g h k = absurd (omega (arith, e))
two_contents (c ∷ d ∷ []) a b x y e f g h k = λ i. (h ∙ f) i ∷ (k ∙ g) i ∷ []

pub two_conformed : (words files : List Word) → IsCommand (Conform files) words → length files ≡ 2
two_conformed words files (rest, e, (behind, are)) = ap length are.two

-- of a protocol and its calls
pub conform_carried : (words files : List Word) (contents : List (List ℕ)) (bytes listed : List ℕ) (result : Result Delivery Stop) →
    IsCommand (Conform files) words → bytes ∷ listed ∷ [] ≡ contents →
    ((protocol calls : Word) → EndsWith (codes ".scr") protocol → IsCarried (Conform (protocol ∷ calls ∷ [])) (bytes ∷ listed ∷ []) result)
    →
    IsCarried (Conform files) contents result
conform_carried words files contents bytes listed result (rest, e, (behind, are)) same h =
    subst (λ (z : List Word). IsCarried (Conform z) contents result) (sym are.two)
    (subst (λ (z : List (List ℕ)). IsCarried (Conform (are.protocol ∷ are.calls ∷ [])) z result) same
    (h are.protocol are.calls are.scribble.1))
