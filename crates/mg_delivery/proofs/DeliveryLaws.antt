-- What a delivery leaves, whatever was to be done.
use Rattle.std.proofs.Common.{◌≡◌, ◌≢◌, ◌<◌, ◌+◌, ℕ, ◌⊎◌, inl, inr, zero, suc, Bool, true, false, cond, List, [], ◌∷◌, ◌++◌, length, get_or}
use Rattle.std.proofs.Common.{take, drop, Contains, Decides, Option, Some, None, refl, sym, ap, ◌∙◌, subst, append-nil, length-append}
use Rattle.std.proofs.Common.{drop-cons, take-append-drop, arith}
use Rattle.std.specs.Prelude.{Result, Ok, Err, option_map}
use Rattle.std.specs.FinMap as map
use Rattle.std.specs.Cmp.Lexicographic.{nat_list_cmp_total}
use Rattle.std.specs.FinMap.{get-insert}
use Rattle.std.specs.Str.{bytes_eq}
use Rattle.std.proofs.lemmas.Map.Text.{is_eq-slice_cmp}
use Rattle.std.proofs.lemmas.Slice.Eq.{bytes_eq-Decides}
use Rattle.std.proofs.lemmas.List.{take_more, take_all}
use Rattle.std.proofs.lemmas.List.Elements.{Contains-append_right, Contains-append_left}
use Rattle.mg_io.specs.Outside.{Files, Rose, with_file, Puts, Counts}
use Rattle.mg_io.specs.declared.fault.IoFault.{IoFault}
use Rattle.mg_io.specs.declared.fault.IoFault.TheVariants as io
use Rattle.mg_delivery.specs.declared.status.Status.{Status}
use Rattle.mg_delivery.specs.declared.status.Status.TheVariants as statuses
use Rattle.mg_delivery.specs.declared.delivery.Action.{Action}
use Rattle.mg_delivery.specs.declared.delivery.Action.TheVariants.{Write, Print, Say}
use Rattle.mg_text.specs.Call.{Name}
use Rattle.mg_delivery.specs.Files.{Output}
use Rattle.mg_delivery.specs.Lines.{write_line}
use Rattle.mg_delivery.specs.Outside.{Outside, Stream, held}
use Rattle.mg_delivery.specs.Delivery.{Acts, AreDone, nothing, first, after_line, SaysFault, Tells, Stops, fails, lacks, Delivers, whole, cut}
use Rattle.mg_delivery.specs.Delivery.{IsUnlessStopped}

-- ---- one action

acted : (a : Action) (answer : Result Unit IoFault) (old new : Outside) → Acts a answer old new → new.failed_reads ≡ old.failed_reads
acted (Write file) answer old new h = ap (λ (o : Outside). o.failed_reads) h.1
acted (Print text) answer old new h = ap (λ (o : Outside). o.failed_reads) h.2
acted (Say line) answer old new h = ap (λ (o : Outside). o.failed_reads) h.2

-- no fault was counted
pub record Same (old new : Outside) : Type 0 where
  pub writes : new.failed_writes ≡ old.failed_writes
  pub out : new.out.faults ≡ old.out.faults
  pub err : new.err.faults ≡ old.err.faults

well : (a : Action) (old new : Outside) → Acts a (Ok tt) old new → Same old new
well (Write file) old new h = record {
  writes = ap (λ (o : Outside). o.failed_writes) h.1 ∙ append-nil old.failed_writes;
  out =
      ap (λ (o : Outside). o.out.faults) h.1;
  err = ap (λ (o : Outside). o.err.faults) h.1;
}
well (Print text) old new h = record {
  writes = ap (λ (o : Outside). o.failed_writes) h.2;
  out = h.1;
  err =
      ap (λ (o : Outside). o.err.faults) h.2;
}
well (Say line) old new h = record {
  writes = ap (λ (o : Outside). o.failed_writes) h.2;
  out = ap (λ (o : Outside). o.out.faults) h.2;
  err =
      h.1;
}

lacked : (a : Action) (old new : Outside) → Acts a (Err io.Memory) old new → Same old new
lacked (Write file) old new h = record {
  writes = ap (λ (o : Outside). o.failed_writes) h.1 ∙ append-nil old.failed_writes;
  out =
      ap (λ (o : Outside). o.out.faults) h.1;
  err = ap (λ (o : Outside). o.err.faults) h.1;
}
lacked (Print text) old new h = record {
  writes = ap (λ (o : Outside). o.failed_writes) h.2;
  out = h.1;
  err =
      ap (λ (o : Outside). o.err.faults) h.2;
}
lacked (Say line) old new h = record {
  writes = ap (λ (o : Outside). o.failed_writes) h.2;
  out = ap (λ (o : Outside). o.out.faults) h.2;
  err = h.1;
}

no_change : (at : Outside) → Same at at
no_change at = record { writes = refl; out = refl; err = refl }

both : {a b c : Outside} → Same a b → Same b c → Same a c
both s t = record { writes = t.writes ∙ s.writes; out = t.out ∙ s.out; err = t.err ∙ s.err }

-- a line that was put, or wasn't
pub said : (at : Outside) (old new : Stream) (piece line : List ℕ) (answer : Result Unit IoFault) → at.err ≡ old → piece ≡ line →
    Puts piece answer old.bytes new.bytes → Counts answer old.faults new.faults
    → Acts (Say line) answer at (record at { err = new })
said at old new piece line answer e e' b f = (
  subst (λ (s : Stream). Puts line answer s.bytes new.bytes) (sym e) (subst (λ (z : List ℕ). Puts z answer old.bytes new.bytes) e' b),
  subst (λ (s : Stream). Counts answer s.faults new.faults) (sym e) f,
  refl,
)

-- ---- actions that were done

pub done_same : {actions : List Action} {from to : Outside} → AreDone actions from to → Same from to
done_same (nothing {at = at}) = no_change at
done_same (first a to' act rest) = both (well a _ _ act) (done_same rest)

done_reads : {actions : List Action} {from to : Outside} → AreDone actions from to → to.failed_reads ≡ from.failed_reads
done_reads nothing = refl
done_reads (first a to' act rest) = done_reads rest ∙ acted a _ _ _ act

pub done_push : {front : List Action} {from at to : Outside} (a : Action) → AreDone front from at → Acts a (Ok tt) at to →
    AreDone (front ++ a ∷ []) from to
done_push a nothing act = first a _ act nothing
done_push a (first b to' act' rest) act = first b to' act' (done_push a rest act)

-- one more of a list was done
pub done_more : (actions : List Action) (i : ℕ) (a : Action) {from at to : Outside} → i < length actions → a ≡ get_or actions i a →
    AreDone (take i actions) from at → Acts a (Ok tt) at to → AreDone (take (i + 1) actions) from to
done_more actions i a {from} {at} {to} within is done act =
    let grown : take (i + 1) actions ≡ take i actions ++ a ∷ [] = take_more actions i a within ∙
    ap (λ (z : Action). take i actions ++ z ∷ []) (sym is) in
    subst (λ (z : List Action). AreDone z from to) (sym grown) (done_push a done act)

pub done_whole : (actions : List Action) (i : ℕ) {meant : Status} {from to : Outside} → length actions ≡ i →
    AreDone (take i actions) from to → Delivers actions meant from meant to
done_whole actions i {meant} {from} {to} end done =
    whole (subst (λ (z : List Action). AreDone z from to) (take_all i actions (omega (arith, end))) done)

-- one of a list stops it
pub stopped_at : (actions : List Action) (i : ℕ) (a : Action) {meant status : Status} {from at to : Outside} → i < length actions →
    a ≡ get_or actions i a → AreDone (take i actions) from at → Stops a at status to → Delivers actions meant from status to
stopped_at actions i a within is done stop = cut (take i actions) a (drop (suc i) actions) _ split done stop where
  split : actions ≡ take i actions ++ a ∷ drop (suc i) actions
  split = sym (take-append-drop i actions) ∙ ap (λ (z : List Action). take i actions ++ z)
      (drop-cons actions i a within ∙ ap (λ (z : Action). z ∷ drop (suc i) actions) (sym is))

-- the same of a slice of the actions
pub of_slice : (slice actions : List Action) → slice ≡ actions → {meant status : Status} {from to : Outside} →
    Delivers slice meant from status to → Delivers actions meant from status to
of_slice slice actions e {meant} {status} {from} {to} d = subst (λ (z : List Action). Delivers z meant from status to) e d

pub tells_write : (a : Action) (file : Output) (line : List ℕ) (status : Status) (from to : Outside) → a ≡ Write file →
    line ≡ write_line file.name → SaysFault line from status to → Tells a from status to
tells_write a file line status from to e e' h = subst (λ (z : Action). Tells z from status to) (sym e)
    (subst (λ (z : List ℕ). SaysFault z from status to) e' h)

-- ---- an action that stops

answered : (answer : Result Unit IoFault) → (after_line answer ≡ statuses.WriteFault) ⊎ (after_line answer ≡ statuses.Memory)
answered (Ok _) = inl refl
answered (Err io.Failed) = inl refl
answered (Err io.Memory) = inr refl

told_status : (a : Action) (status : Status) (from to : Outside) → Tells a from status to → (status ≡ statuses.WriteFault)
    ⊎ (status ≡ statuses.Memory)
told_status (Write file) status from to (answer, act, e) = subst (λ (s : Status). (s ≡ statuses.WriteFault) ⊎ (s ≡ statuses.Memory)) (sym e)
    (answered answer)
told_status (Print text) status from to h = inl h.0
told_status (Say line) status from to h = inl h.0

told_reads : (a : Action) (status : Status) (from to : Outside) → Tells a from status to → to.failed_reads ≡ from.failed_reads
told_reads (Write file) status from to (answer, act, e) = ap (λ (o : Outside). o.failed_reads) act.2
told_reads (Print text) status from to h = ap (λ (o : Outside). o.failed_reads) h.1
told_reads (Say line) status from to h = ap (λ (o : Outside). o.failed_reads) h.1

told_writes : (a : Action) (status : Status) (from to : Outside) → Tells a from status to → to.failed_writes ≡ from.failed_writes
told_writes (Write file) status from to (answer, act, e) = ap (λ (o : Outside). o.failed_writes) act.2
told_writes (Print text) status from to h = ap (λ (o : Outside). o.failed_writes) h.1
told_writes (Say line) status from to h = ap (λ (o : Outside). o.failed_writes) h.1

told_files : (a : Action) (status : Status) (from to : Outside) → Tells a from status to → to.files ≡ from.files
told_files (Write file) status from to (answer, act, e) = ap (λ (o : Outside). o.files) act.2
told_files (Print text) status from to h = ap (λ (o : Outside). o.files) h.1
told_files (Say line) status from to h = ap (λ (o : Outside). o.files) h.1

stop_status : {a : Action} {status : Status} {from to : Outside} → Stops a from status to → (status ≡ statuses.WriteFault)
    ⊎ (status ≡ statuses.Memory)
stop_status (fails at act told) = told_status _ _ _ _ told
stop_status (lacks act) = inr refl

stop_reads : (a : Action) {status : Status} {from to : Outside} → Stops a from status to → to.failed_reads ≡ from.failed_reads
stop_reads a (fails at act told) = told_reads a _ _ _ told ∙ acted a _ _ _ act
stop_reads a (lacks act) = acted a _ _ _ act

-- ---- the status

-- the status is the one that is meant, or an action failed or memory lacked
pub stops : {actions : List Action} {meant status : Status} {from to : Outside} → Delivers actions meant from status to →
    IsUnlessStopped meant status
stops (whole done) = inl refl
stops (cut front a rest at split done stop) = inr (stop_status stop)

neither : (status : Status) → status ≢ statuses.WriteFault → status ≢ statuses.Memory → (status ≡ statuses.WriteFault)
    ⊎ (status ≡ statuses.Memory) → ⊥
neither status a b (inl h) = a h
neither status a b (inr h) = b h

-- where it is no stop, all was done
pub is_whole : {actions : List Action} {meant status : Status} {from to : Outside} → Delivers actions meant from status to →
    status ≢ statuses.WriteFault → status ≢ statuses.Memory → (status ≡ meant) × AreDone actions from to
is_whole (whole done) a b = (refl, done)
is_whole {status = status} (cut front act rest at split done stop) a b = absurd (neither status a b (stop_status stop))

-- no read is made
pub reads_kept : {actions : List Action} {meant status : Status} {from to : Outside} → Delivers actions meant from status to →
    to.failed_reads ≡ from.failed_reads
reads_kept (whole done) = done_reads done
reads_kept (cut front a rest at split done stop) = stop_reads a stop ∙ done_reads done

-- ---- counts of faults

earlier : {a b c : ℕ} → b ≡ a → Rose b c → Rose a c
earlier {c = c} e h = subst (λ (n : ℕ). Rose n c) e h

longer : (xs : List Name) (x : Name) → xs ++ x ∷ [] ≡ xs → ⊥
longer xs x e = omega (arith, ap length e, length-append xs (x ∷ []))

stop_put : (a : Action) {status : Status} {from to : Outside} → Stops a from status to → (from.out.faults < to.out.faults)
    ⊎ (from.err.faults < to.err.faults) → status ≡ statuses.WriteFault
stop_put (Write file) (fails at act (Ok _, act', e)) h = e
stop_put (Write file) (fails at act (Err io.Failed, act', e)) h = e
stop_put (Write file) (fails at act (Err io.Memory, act', e)) (inl h) =
    let s = ap (λ (o : Outside). o.out.faults) act.1 in let s' = ap (λ (o : Outside). o.out.faults) act'.2 in absurd (omega (arith, s, s'))
stop_put (Write file) (fails at act (Err io.Memory, act', e)) (inr h) =
    let s = ap (λ (o : Outside). o.err.faults) act.1 in let s' = act'.1 in absurd (omega (arith, s, s'))
stop_put (Print text) (fails at act told) h = told.0
stop_put (Say line) (fails at act told) h = told.0
stop_put a (lacks act) (inl h) = let s = lacked a _ _ act in absurd (omega (arith, s.out))
stop_put a (lacks act) (inr h) = let s = lacked a _ _ act in absurd (omega (arith, s.err))

-- where a sink's count is higher, a put failed
pub put_where : {actions : List Action} {meant status : Status} {from to : Outside} → Delivers actions meant from status to
    → (from.out.faults < to.out.faults) ⊎ (from.err.faults < to.err.faults) → status ≡ statuses.WriteFault
put_where (whole done) (inl h) = let s = done_same done in absurd (omega (arith, s.out))
put_where (whole done) (inr h) = let s = done_same done in absurd (omega (arith, s.err))
put_where (cut front a rest at split done stop) (inl h) = let s = done_same done in stop_put a stop (inl (omega (arith, s.out)))
put_where (cut front a rest at split done stop) (inr h) = let s = done_same done in stop_put a stop (inr (omega (arith, s.err)))

-- where a write failed, the status says so, or memory lacked for its line
pub write_where : {actions : List Action} {meant status : Status} {from to : Outside} → Delivers actions meant from status to
    → to.failed_writes ≢ from.failed_writes → (status ≡ statuses.WriteFault) ⊎ (status ≡ statuses.Memory)
write_where (whole done) h = absurd (h (done_same done).writes)
write_where (cut front a rest at split done stop) h = stop_status stop

-- a write of one of these failed, or a put did
pub data Faulted (actions : List Action) (from to : Outside) : Type 0 where
  wrote : (file : Output) → Contains actions (Write file) → to.failed_writes ≡ from.failed_writes ++ file.name ∷ [] →
      Faulted actions from to
  put_out : Rose from.out.faults to.out.faults → Faulted actions from to
  put_err : Rose from.err.faults to.err.faults → Faulted actions from to

holds_mid : (front : List Action) (a : Action) (rest actions : List Action) → actions ≡ front ++ a ∷ rest → Contains actions a
holds_mid front a rest actions e = subst (λ (z : List Action). Contains z a) (sym e)
    (Contains-append_right front (a ∷ rest) a (zero, omega arith, refl))

stop_faulted : (a : Action) (actions : List Action) {status : Status} {from to : Outside} → Contains actions a → Stops a from status to →
    status ≡ statuses.WriteFault → Faulted actions from to
stop_faulted (Write file) actions has (fails at act told) e =
    wrote file has (told_writes (Write file) _ _ _ told ∙ ap (λ (o : Outside). o.failed_writes) act.1)
stop_faulted (Print text) actions {from = from} has (fails at act told) e =
    put_out (subst (λ (o : Outside). Rose from.out.faults o.out.faults) (sym told.1) act.1)
stop_faulted (Say line) actions {from = from} has (fails at act told) e =
    put_err (subst (λ (o : Outside). Rose from.err.faults o.err.faults) (sym told.1) act.1)
stop_faulted a actions has (lacks act) e = absurd cc

later : {actions : List Action} {from at to : Outside} → Same from at → Faulted actions at to → Faulted actions from to
later s (wrote file has grown) = wrote file has (grown ∙ ap (λ (z : List Name). z ++ file.name ∷ []) s.writes)
later s (put_out r) = put_out (earlier s.out r)
later s (put_err r) = put_err (earlier s.err r)

-- WriteFault comes only so
pub faulted : {actions : List Action} {meant status : Status} {from to : Outside} → Delivers actions meant from status to →
    meant ≢ statuses.WriteFault → status ≡ statuses.WriteFault → Faulted actions from to
faulted (whole done) isnt e = absurd (isnt e)
faulted {actions = actions} (cut front a rest at split done stop) isnt e =
    later (done_same done) (stop_faulted a actions (holds_mid front a rest actions split) stop e)

unfaulted : {actions : List Action} (from to : Outside) → to.failed_writes ≡ from.failed_writes → (Rose from.out.faults to.out.faults → ⊥) →
    (Rose from.err.faults to.err.faults → ⊥) → Faulted actions from to → ⊥
unfaulted from to w o e (wrote file has grown) = longer from.failed_writes file.name (sym grown ∙ w)
unfaulted from to w o e (put_out r) = o r
unfaulted from to w o e (put_err r) = e r

-- where nothing is counted as failed, the status isn't WriteFault
pub calm : {actions : List Action} {meant status : Status} {from to : Outside} → Delivers actions meant from status to →
    meant ≢ statuses.WriteFault
    → to.failed_writes ≡ from.failed_writes → (Rose from.out.faults to.out.faults → ⊥) → (Rose from.err.faults to.err.faults → ⊥) →
    status ≢ statuses.WriteFault
calm {from = from} {to = to} d isnt w o e is = unfaulted from to w o e (faulted d isnt is)

-- the failed writes grew by nothing, or by one of these
abbrev pub Grown : List Action → Outside → Outside → Type 0
Grown actions from to =
    (to.failed_writes ≡ from.failed_writes) ⊎ ((file : Output) × Contains actions (Write file)
    × (to.failed_writes ≡ from.failed_writes ++ file.name ∷ []))

stop_grown : (actions : List Action) (from at : Outside) (a : Action) {status : Status} {to : Outside} → Contains actions a →
    at.failed_writes ≡ from.failed_writes → Stops a at status to → Grown actions from to
stop_grown actions from at (Write file) has w (fails mid act told) =
    inr (
      file,
      has,
      told_writes (Write file) _ _ _ told ∙ ap (λ (o : Outside). o.failed_writes) act.1 ∙
          ap (λ (z : List Name). z ++ file.name ∷ []) w,
    )
stop_grown actions from at (Print text) has w (fails mid act told) =
    inl (told_writes (Print text) _ _ _ told ∙ ap (λ (o : Outside). o.failed_writes) act.2 ∙ w)
stop_grown actions from at (Say line) has w (fails mid act told) =
    inl (told_writes (Say line) _ _ _ told ∙ ap (λ (o : Outside). o.failed_writes) act.2 ∙ w)
stop_grown actions from at a has w (lacks act) = inl ((lacked a _ _ act).writes ∙ w)

pub writes_grow : {actions : List Action} {meant status : Status} {from to : Outside} → Delivers actions meant from status to →
    Grown actions from to
writes_grow (whole done) = inl (done_same done).writes
writes_grow {actions = actions} {from = from} (cut front a rest at split done stop) =
    stop_grown actions from at a (holds_mid front a rest actions split) (done_same done).writes stop

-- ---- files that aren't written

differ : {P : Type 0} (b : Bool) → Decides b P → (P → ⊥) → b ≡ false
differ true d isnt = absurd (isnt (d.0 refl))
differ false d isnt = refl

-- a file of another name is as before
other_file : (name other content : List ℕ) (files : Option Files) → (name ≡ other → ⊥) →
    option_map (λ m. map.get m other) (with_file name content files) ≡ option_map (λ m. map.get m other) files
other_file name other content None isnt = refl
other_file name other content (Some m) isnt =
    ap (λ (z : Option (List ℕ)). Some z) (get-insert nat_list_cmp_total m name content other ∙
    ap (λ (b : Bool). cond b (Some content) (map.get m other)) (is_eq-slice_cmp other name ∙ differ (bytes_eq other name)
    (bytes_eq-Decides other name) (λ e. isnt (sym e))))

held_written : (file : Output) (answer : Result Unit IoFault) (name : Name) (old new : Outside) → (file.name ≡ name → ⊥) →
    Acts (Write file) answer old new → held new name ≡ held old name
held_written file (Ok _) name old new isnt act = ap (λ (f : Option Files). option_map (λ m. map.get m name) f) act.0 ∙ other_file file.name
    name file.text old.files isnt
held_written file (Err io.Failed) name old new isnt (inl same, rest) = ap (λ (f : Option Files). option_map (λ m. map.get m name) f) same
held_written file (Err io.Failed) name old new isnt (inr (k, torn), rest) = ap (λ (f : Option Files). option_map (λ m. map.get m name) f)
    torn ∙ other_file file.name name (take k file.text) old.files isnt
held_written file (Err io.Memory) name old new isnt act = ap (λ (f : Option Files). option_map (λ m. map.get m name) f) act.0

-- none of these writes a file of this name
abbrev pub Avoids : List Action → Name → Type 0
Avoids actions name = (file : Output) → Contains actions (Write file) → file.name ≡ name → ⊥

held_acted : (a : Action) (answer : Result Unit IoFault) (name : Name) (old new : Outside) → Avoids (a ∷ []) name → Acts a answer old new →
    held new name ≡ held old name
held_acted (Write file) answer name old new avoids act = held_written file answer name old new (avoids file (zero, omega arith, refl)) act
held_acted (Print text) answer name old new avoids act = ap (λ (o : Outside). held o name) act.2
held_acted (Say line) answer name old new avoids act = ap (λ (o : Outside). held o name) act.2

held_done : {actions : List Action} {from to : Outside} (name : Name) → Avoids actions name → AreDone actions from to →
    held to name ≡ held from name
held_done name avoids nothing = refl
held_done name avoids (first {more = more} a to' act rest) =
    held_done name (λ file has. avoids file (Contains-append_right (a ∷ []) more (Write file) has)) rest
    ∙ held_acted a _ name _ _ (λ file has. avoids file (Contains-append_left (a ∷ []) more (Write file) has)) act

held_stopped : (a : Action) {status : Status} {from to : Outside} (name : Name) → Avoids (a ∷ []) name → Stops a from status to →
    held to name ≡ held from name
held_stopped a name avoids (fails at act told) = ap (λ (f : Option Files). option_map (λ m. map.get m name) f) (told_files a _ _ _ told) ∙
    held_acted a _ name _ _ avoids act
held_stopped a name avoids (lacks act) = held_acted a _ name _ _ avoids act

-- a file that isn't written is as before
pub kept : {actions : List Action} {meant status : Status} {from to : Outside} (name : Name) → Avoids actions name →
    Delivers actions meant from status to → held to name ≡ held from name
kept name avoids (whole done) = held_done name avoids done
kept name avoids (cut front a rest at split done stop) =
    held_stopped a name (λ file has. avoids file (subst (λ (z : List Action). Contains z (Write file)) (sym split)
    (Contains-append_right front (a ∷ rest) (Write file) (Contains-append_left (a ∷ []) rest (Write file) has)))) stop ∙
    held_done name (λ file has. avoids file (subst (λ (z : List Action). Contains z (Write file)) (sym split)
    (Contains-append_left front (a ∷ rest) (Write file) has))) done
