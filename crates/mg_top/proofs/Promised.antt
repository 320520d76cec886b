-- What follows of how a run ends: all that is promised.
use Rattle.std.proofs.Common.{◌≡◌, ◌≢◌, ◌<◌, ℕ, zero, suc, ◌⊎◌, inl, inr, List, [], ◌∷◌, ◌++◌, take, Contains, Option, Some, length, refl}
use Rattle.std.proofs.Common.{sym, ap, ◌∙◌, subst, length-append, arith}
use Rattle.std.proofs.lemmas.List.Elements.{Contains-append_right}
use Rattle.mg_io.specs.Outside.{Files, Rose}
use Rattle.mg_delivery.specs.declared.status.Status.{Status}
use Rattle.mg_delivery.specs.declared.status.Status.TheVariants as statuses
use Rattle.mg_delivery.specs.declared.delivery.Action.{Action}
use Rattle.mg_delivery.specs.declared.delivery.Action.TheVariants.{Write, Print, Say}
use Rattle.mg_words.specs.Words.{Word, Asked, Command, Exec, files_of, IsCommand, AreWrong}
use Rattle.mg_delivery.specs.Files.{Output}
use Rattle.mg_delivery.specs.Lines.{words_line, read_line, not_offered_line, memory_line}
use Rattle.mg_delivery.specs.Outside.{Outside, IsRead, held}
use Rattle.mg_delivery.specs.Delivery.{AreDone, Delivers, IsUnlessStopped}
use Rattle.mg_top.specs.Commands.{Yields}
use Rattle.mg_delivery.specs.Contents.{AreRead, after_read}
use Rattle.mg_top.specs.Ending.{read_limit, MayRead, IsUnread, IsDue, wrong, unread, yielded, starved, mute, Ends}
use Rattle.mg_top.specs.Promises.{IsYielded, Carries, MayWrite, IsSmooth, Promises}
use Rattle.mg_words.proofs.WordsLemmas.{wrong_is_none}
use Rattle.mg_words.proofs.RunLemmas.{same_command}
use Rattle.mg_runs.specs.Laws.{CoursesAreRuns}
use Rattle.mg_top.specs.Theorems.{Theorems}
use Rattle.mg_top.proofs.Exact.{one_status, proper, SaysRefusal, refusal_says, broken_command}
use Rattle.mg_text.specs.Call.{Call}
use Rattle.ts_refine.specs.declared.verdict.Reason.{Reason}
use Rattle.mg_refined.specs.Refined.{no_text}
use Rattle.mg_delivery.proofs.DeliveryLaws as laws

-- ---- what is read of files that are told is one thing

same_bytes : (limit : ℕ) (m : Files) (name : Word) (x y : List ℕ) → IsRead limit (Some m) name x → IsRead limit (Some m) name y → x ≡ y
same_bytes limit m name x y (few, h) (less, k) =
    let e : ◌≡◌ {A = Option (List ℕ)} (Some h.0) (Some k.0) = sym h.1 ∙ k.1 in
    let same : h.0 ≡ k.0 = cc in
    h.2 ∙ ap (take limit) same ∙ sym k.2

same_read : (limit : ℕ) (m : Files) (names : List Word) (xs ys : List (List ℕ)) → AreRead limit (Some m) names xs →
    AreRead limit (Some m) names ys → xs ≡ ys
same_read limit m [] [] [] h k = refl
same_read limit m [] [] (y ∷ ys) h k = absurd k
same_read limit m [] (x ∷ xs) ys h k = absurd h
same_read limit m (n ∷ ns) [] ys h k = absurd h
same_read limit m (n ∷ ns) (x ∷ xs) [] h k = absurd k
same_read limit m (n ∷ ns) (x ∷ xs) (y ∷ ys) (h, hs) (k, ks) = (λ i. same_bytes limit m n x y h k i ∷ (same_read limit m ns xs ys hs ks) i)

longer : (xs : List Word) (x : Word) → xs ++ x ∷ [] ≡ xs → ⊥
longer xs x e = omega (arith, ap length e, length-append xs (x ∷ []))

-- another status isn't given
not_given : {meant status : Status} (wanted : Status) → IsUnlessStopped meant status → meant ≢ wanted → statuses.WriteFault ≢ wanted →
    statuses.Memory ≢ wanted → status ≡ wanted → ⊥
not_given wanted (inl e) a b c h = a (sym e ∙ h)
not_given wanted (inr (inl e)) a b c h = b (sym e ∙ h)
not_given wanted (inr (inr e)) a b c h = c (sym e ∙ h)

to_memory : {status meant : Status} → IsUnlessStopped statuses.Memory status → IsUnlessStopped meant status
to_memory (inl e) = inr (inr e)
to_memory (inr h) = inr h

-- a line alone is no file
no_writes : (line : List ℕ) (file : Output) → Contains (Say line ∷ []) (Write file) → ⊥
no_writes line file (zero, lt, is) = cc
no_writes line file (suc k, lt, is) = omega arith

module _ (words : List Word) (before : Outside) where
  -- ---- what is due, by the status

  words_only : {actions : List Action} {meant status : Status} {at after : Outside} → IsDue words before actions meant at →
      Delivers actions meant at status after → status ≡ statuses.Words
      → (word : Option Word) × AreWrong words word × AreDone (Say (words_line word) ∷ []) before after
  words_only (wrong word is) d e = (
    word,
    is,
    (laws.is_whole d (λ h. let no : statuses.Words ≡ statuses.WriteFault = sym e ∙ h in cc)
        (λ h. let no : statuses.Words ≡ statuses.Memory = sym e ∙ h in cc)).1,
  )
  words_only (unread name may) d e = absurd (not_given statuses.Words (laws.stops d) (λ h. cc) (λ h. cc) (λ h. cc) e)
  words_only (yielded command contents is read y) d e = absurd (not_given statuses.Words (laws.stops d) (proper y).0 (λ h. cc) (λ h. cc) e)
  words_only starved d e = absurd (not_given statuses.Words (laws.stops d) (λ h. cc) (λ h. cc) (λ h. cc) e)
  words_only (mute other may) d e = absurd (not_given statuses.Words (laws.stops d) (λ h. cc) (λ h. cc) (λ h. cc) e)

  words_where : {actions : List Action} {meant status : Status} {at after : Outside} → IsDue words before actions meant at →
      Delivers actions meant at status after → (word : Option Word) → AreWrong words word → IsUnlessStopped statuses.Words status
  words_where (wrong word is) d w k = laws.stops d
  words_where (unread name may) d w k = absurd (wrong_is_none words w may.command k may.is)
  words_where (yielded command contents is read y) d w k = absurd (wrong_is_none words w command k is)
  words_where starved d w k = to_memory (laws.stops d)
  words_where (mute other may) d w k = to_memory (laws.stops d)

  read_only : {actions : List Action} {meant status : Status} {at after : Outside} → IsDue words before actions meant at →
      Delivers actions meant at status after → status ≡ statuses.ReadFault
      → (name : Word) × IsUnread words before name × AreDone (Say (read_line name) ∷ []) (after_read before name) after
  read_only (wrong word is) d e = absurd (not_given statuses.ReadFault (laws.stops d) (λ h. cc) (λ h. cc) (λ h. cc) e)
  read_only (unread name may) d e = (
    name,
    may,
    (laws.is_whole d (λ h. let no : statuses.ReadFault ≡ statuses.WriteFault = sym e ∙ h in cc)
        (λ h. let no : statuses.ReadFault ≡ statuses.Memory = sym e ∙ h in cc)).1,
  )
  read_only (yielded command contents is read y) d e = absurd (not_given statuses.ReadFault (laws.stops d) (proper y).1 (λ h. cc) (λ h. cc)
      e)
  read_only starved d e = absurd (not_given statuses.ReadFault (laws.stops d) (λ h. cc) (λ h. cc) (λ h. cc) e)
  read_only (mute other may) d e = absurd (not_given statuses.ReadFault (laws.stops d) (λ h. cc) (λ h. cc) (λ h. cc) e)

  read_where : {actions : List Action} {meant status : Status} {at after : Outside} → IsDue words before actions meant at →
      Delivers actions meant at status after → after.failed_reads ≢ before.failed_reads → IsUnlessStopped statuses.ReadFault status
  read_where (wrong word is) d k = absurd (k (laws.reads_kept d))
  read_where (unread name may) d k = laws.stops d
  read_where (yielded command contents is read y) d k = absurd (k (laws.reads_kept d))
  read_where starved d k = absurd (k (laws.reads_kept d))
  read_where (mute other may) d k = to_memory (laws.stops d)

  only : {actions : List Action} {meant status : Status} {at after : Outside} → IsDue words before actions meant at →
      Delivers actions meant at status after → IsYielded status
      → (xs : List Action) × Carries words before xs status × AreDone xs before after
  only (wrong word is) d (a, b, c, e) = absurd (a (laws.is_whole d c e).0)
  only (unread name may) d (a, b, c, e) = absurd (b (laws.is_whole d c e).0)
  only {actions = actions} (yielded command contents is read y) d (a, b, c, e) =
      let whole = laws.is_whole d c e in (
        actions,
        record {
          command = command;
          contents = contents;
          is = is;
          read = read;
          yields =
              subst (λ (s : Status). Yields command contents actions s) (sym whole.0) y;
        },
        whole.1,
      )
  only starved d (a, b, c, e) = absurd (e (laws.is_whole d c e).0)
  only (mute other may) d (a, b, c, e) = absurd (e (laws.is_whole d c e).0)

  broken_yielded : {status : Status} → status ≡ statuses.Broken → IsYielded status
  broken_yielded {status = status} e = subst (λ (s : Status). IsYielded s) (sym e) (λ h. cc, λ h. cc, λ h. cc, λ h. cc)

  broken_only : CoursesAreRuns → {actions : List Action} {meant status : Status} {at after : Outside} → IsDue words before actions meant at →
      Delivers actions meant at status after →
      status ≡ statuses.Broken → (asked : Asked) × (files : List Word) × IsCommand (Exec asked files) words
  broken_only law due d e =
      let c = (only due d (broken_yielded e)).1 in
      let (asked, files, same) = broken_command law c.yields e in
      (asked, files, subst (λ (k : Command). IsCommand k words) same c.is)

  abbrev OneLine : Outside → Type 0
  OneLine after = ((line : List ℕ) × AreDone (Say line ∷ []) before after)
      ⊎ ((n : ℕ) × AreDone (Print (not_offered_line n) ∷ []) before after)
      ⊎ ((calls : List Call) × (reason : Reason) × AreDone (Print (no_text calls reason) ∷ []) before after)

  one_line : (actions : List Action) (after : Outside) → SaysRefusal actions → AreDone actions before after → OneLine after
  one_line actions after (inl (line, e)) d = inl (line, subst (λ (z : List Action). AreDone z before after) e d)
  one_line actions after (inr (inl (n, e))) d = inr (inl (n, subst (λ (z : List Action). AreDone z before after) e d))
  one_line actions after (inr (inr (calls, reason, e))) d =
      inr (inr (calls, reason, subst (λ (z : List Action). AreDone z before after) e d))

  refused_only : {actions : List Action} {meant status : Status} {at after : Outside} → IsDue words before actions meant at →
      Delivers actions meant at status after → status ≡ statuses.Refused → OneLine after
  refused_only {after = after} due d e =
      let o = only due d (
        λ h. let no : statuses.Refused ≡ statuses.Words = sym e ∙ h in cc,
        λ h. let no : statuses.Refused ≡ statuses.ReadFault = sym e ∙ h in cc,
        λ h. let no : statuses.Refused ≡ statuses.WriteFault = sym e ∙ h in cc,
        λ h. let no : statuses.Refused ≡ statuses.Memory = sym e ∙ h in cc,
      ) in
      let said : SaysRefusal o.0 = refusal_says {command = o.1.command} {contents = o.1.contents} {actions = o.0} o.1.yields e in
      one_line o.0 after said o.2

  -- where a command gives a status, it comes
  where_yielded : {actions : List Action} {meant status : Status} {at after : Outside} → IsDue words before actions meant at →
      Delivers actions meant at status after
      → (xs : List Action) (m : Status) (files : Files) → before.files ≡ Some files → Carries words before xs m →
      after.failed_reads ≡ before.failed_reads → IsUnlessStopped m status
  where_yielded (wrong word is) d xs m files told c quiet = absurd (wrong_is_none words word c.command is c.is)
  where_yielded (unread name may) d xs m files told c quiet = absurd (longer before.failed_reads name (sym (laws.reads_kept d) ∙ quiet))
  where_yielded {actions = actions} {meant = meant} {status = status} (yielded command contents is read y) d xs m files told c quiet =
      let same : command ≡ c.command = same_command words command c.command is c.is in
      let most : ℕ = read_limit c.command in
      let mine : AreRead most (Some files) (files_of c.command) contents =
      subst (λ (o : Option Files). AreRead most o (files_of c.command) contents) told
      (subst (λ (k : Command). AreRead (read_limit k) before.files (files_of k) contents) same read) in
      let yours : AreRead most (Some files) (files_of c.command) c.contents =
      subst (λ (o : Option Files). AreRead most o (files_of c.command) c.contents) told c.read in
      let contents_are : contents ≡ c.contents = same_read most files (files_of c.command) contents c.contents mine yours in
      let mine' : Yields c.command c.contents actions meant = subst (λ (z : List (List ℕ)). Yields c.command z actions meant) contents_are
      (subst (λ (k : Command). Yields k contents actions meant) same y) in
      subst (λ (s : Status). IsUnlessStopped s status) (one_status mine' c.yields) (laws.stops d)
  where_yielded starved d xs m files told c quiet = to_memory (laws.stops d)
  where_yielded (mute other may) d xs m files told c quiet = to_memory (laws.stops d)

  -- ---- writes and puts

  abbrev WrittenOrPut : Outside → Outside → Type 0
  WrittenOrPut at after = ((name : Word) × MayWrite words before name × (after.failed_writes ≡ at.failed_writes ++ name ∷ []))
      ⊎ Rose at.out.faults after.out.faults ⊎ Rose at.err.faults after.err.faults

  line_put : (line : List ℕ) (at after : Outside) → laws.Faulted (Say line ∷ []) at after → WrittenOrPut at after
  line_put line at after (laws.wrote file has grown) = absurd (no_writes line file has)
  line_put line at after (laws.put_out r) = inr (inl r)
  line_put line at after (laws.put_err r) = inr (inr r)

  written : {actions : List Action} {meant : Status} {at after : Outside} → Carries words before actions meant →
      laws.Faulted actions at after → WrittenOrPut at after
  written {actions = actions} {meant = meant} c (laws.wrote file has grown) =
      inl (file.name, record { actions = actions; meant = meant; carries = c; file = file; named = refl; writes = has }, grown)
  written c (laws.put_out r) = inr (inl r)
  written c (laws.put_err r) = inr (inr r)

  write_only : {actions : List Action} {meant status : Status} {at after : Outside} → IsDue words before actions meant at →
      Delivers actions meant at status after → status ≡ statuses.WriteFault → WrittenOrPut before after
  write_only (wrong word is) d e = line_put (words_line word) before _ (laws.faulted d (λ h. cc) e)
  write_only (unread name may) d e = line_put (read_line name) (after_read before name) _ (laws.faulted d (λ h. cc) e)
  write_only (yielded command contents is read y) d e =
      written (record { command = command; contents = contents; is = is; read = read; yields = y }) (laws.faulted d (proper y).2 e)
  write_only starved d e = line_put memory_line before _ (laws.faulted d (λ h. cc) e)
  write_only (mute other may) d e = line_put memory_line (after_read before other) _ (laws.faulted d (λ h. cc) e)

  write_where : {actions : List Action} {meant status : Status} {at after : Outside} → IsDue words before actions meant at →
      Delivers actions meant at status after
      → after.failed_writes ≢ before.failed_writes → (status ≡ statuses.WriteFault) ⊎ (status ≡ statuses.Memory)
  write_where (wrong word is) d h = laws.write_where d h
  write_where (unread name may) d h = laws.write_where d h
  write_where (yielded command contents is read y) d h = laws.write_where d h
  write_where starved d h = laws.write_where d h
  write_where (mute other may) d h = laws.write_where d h

  put_where : {actions : List Action} {meant status : Status} {at after : Outside} → IsDue words before actions meant at →
      Delivers actions meant at status after
      → (before.out.faults < after.out.faults) ⊎ (before.err.faults < after.err.faults) → status ≡ statuses.WriteFault
  put_where (wrong word is) d h = laws.put_where d h
  put_where (unread name may) d h = laws.put_where d h
  put_where (yielded command contents is read y) d h = laws.put_where d h
  put_where starved d h = laws.put_where d h
  put_where (mute other may) d h = laws.put_where d h

  -- where nothing outside fails, a command is carried out
  carried : {actions : List Action} {meant status : Status} → Carries words before actions meant → IsUnlessStopped meant status →
      status ≢ statuses.WriteFault
      → (status ≡ statuses.Memory) ⊎ ((xs : List Action) × Carries words before xs status)
  carried {actions = actions} c (inl e) calm = inr (actions, subst (λ (s : Status). Carries words before actions s) (sym e) c)
  carried c (inr (inl e)) calm = absurd (calm e)
  carried c (inr (inr e)) calm = inl e

  lacked : {status : Status} {P : Type 0} → IsUnlessStopped statuses.Memory status → status ≢ statuses.WriteFault →
      (status ≡ statuses.Memory) ⊎ P
  lacked (inl e) calm = inl e
  lacked (inr (inl e)) calm = absurd (calm e)
  lacked (inr (inr e)) calm = inl e

  complete : {actions : List Action} {meant status : Status} {at after : Outside} → IsDue words before actions meant at →
      Delivers actions meant at status after
      → (command : Command) → IsCommand command words → IsSmooth before after → (status ≡ statuses.Memory)
      ⊎ ((xs : List Action) × Carries words before xs status)
  complete (wrong word is) d command k smooth = absurd (wrong_is_none words word command is k)
  complete (unread name may) d command k smooth = absurd (longer before.failed_reads name (sym (laws.reads_kept d) ∙ smooth.reads))
  complete (yielded c contents is read y) d command k smooth =
      carried (record { command = c; contents = contents; is = is; read = read; yields = y }) (laws.stops d)
      (laws.calm d (proper y).2 smooth.writes smooth.out smooth.err)
  complete starved d command k smooth = lacked (laws.stops d) (laws.calm d (λ h. cc) smooth.writes smooth.out smooth.err)
  complete (mute other may) d command k smooth = lacked (laws.stops d) (laws.calm d (λ h. cc) smooth.writes smooth.out smooth.err)

  -- ---- in every status

  may_of : {name : Word} → IsUnread words before name → MayRead words name
  may_of {name = name} u = (
    u.command,
    u.is,
    subst (λ (z : List Word). Contains z name) (sym u.stands)
        (Contains-append_right u.front (name ∷ u.rest) name (0, omega arith, refl)),
  )

  reads_grow : {actions : List Action} {meant status : Status} {at after : Outside} → IsDue words before actions meant at →
      Delivers actions meant at status after
      → (after.failed_reads ≡ before.failed_reads)
      ⊎ ((name : Word) × MayRead words name × (after.failed_reads ≡ before.failed_reads ++ name ∷ []))
  reads_grow (wrong word is) d = inl (laws.reads_kept d)
  reads_grow (unread name may) d = inr (name, may_of may, laws.reads_kept d)
  reads_grow (yielded command contents is read y) d = inl (laws.reads_kept d)
  reads_grow starved d = inl (laws.reads_kept d)
  reads_grow (mute other may) d = inr (other, may_of may, laws.reads_kept d)

  abbrev WrittenByOne : Outside → Outside → Type 0
  WrittenByOne at after = (after.failed_writes ≡ at.failed_writes)
      ⊎ ((name : Word) × MayWrite words before name × (after.failed_writes ≡ at.failed_writes ++ name ∷ []))

  line_grown : (line : List ℕ) (at after : Outside) → laws.Grown (Say line ∷ []) at after → WrittenByOne at after
  line_grown line at after (inl e) = inl e
  line_grown line at after (inr (file, has, grown)) = absurd (no_writes line file has)

  writes_grown : {actions : List Action} {meant : Status} (at after : Outside) → Carries words before actions meant →
      laws.Grown actions at after → WrittenByOne at after
  writes_grown at after c (inl e) = inl e
  writes_grown {actions = actions} {meant = meant} at after c (inr (file, has, grown)) =
      inr (file.name, record { actions = actions; meant = meant; carries = c; file = file; named = refl; writes = has }, grown)

  writes_grow : {actions : List Action} {meant status : Status} {at after : Outside} → IsDue words before actions meant at →
      Delivers actions meant at status after → WrittenByOne before after
  writes_grow {after = after} (wrong word is) d = line_grown (words_line word) before after (laws.writes_grow d)
  writes_grow {after = after} (unread name may) d = line_grown (read_line name) (after_read before name) after (laws.writes_grow d)
  writes_grow {after = after} (yielded command contents is read y) d =
      writes_grown before after (record { command = command; contents = contents; is = is; read = read; yields = y }) (laws.writes_grow d)
  writes_grow {after = after} starved d = line_grown memory_line before after (laws.writes_grow d)
  writes_grow {after = after} (mute other may) d = line_grown memory_line (after_read before other) after (laws.writes_grow d)

  kept : {actions : List Action} {meant status : Status} {at after : Outside} → IsDue words before actions meant at →
      Delivers actions meant at status after
      → (name : Word) → (MayWrite words before name → ⊥) → held after name ≡ held before name
  kept (wrong word is) d name isnt = laws.kept name (λ file has e. no_writes (words_line word) file has) d
  kept (unread other may) d name isnt = laws.kept name (λ file has e. no_writes (read_line other) file has) d
  kept {actions = actions} {meant = meant} (yielded command contents is read y) d name isnt =
      laws.kept name (λ file has e. isnt
      (record {
        actions = actions;
        meant = meant;
        carries = record {
          command = command;
          contents = contents;
          is = is;
          read =
              read;
          yields = y;
        };
        file = file;
        named = e;
        writes = has;
      })) d
  kept starved d name isnt = laws.kept name (λ file has e. no_writes memory_line file has) d
  kept (mute other may) d name isnt = laws.kept name (λ file has e. no_writes memory_line file has) d

-- all that is promised
pub promised : Theorems → (words : List Word) (before : Outside) (status : Status) (after : Outside) → Ends words before status after →
    Promises words before status after
promised theorems words before status after h = record {
  theorems = theorems;
  ends = h;
  words_only = words_only words before h.due h.delivered;
  words_where = words_where words before h.due h.delivered;
  read_only = read_only words before h.due h.delivered;
  read_where = read_where words before h.due h.delivered;
  only = only words before h.due h.delivered;
  where_yielded = where_yielded words before h.due h.delivered;
  refused_only = refused_only words before h.due h.delivered;
  broken_only = broken_only words before theorems.runs h.due h.delivered;
  write_only = write_only words before h.due h.delivered;
  write_where = write_where words before h.due h.delivered;
  put_where = put_where words before h.due h.delivered;
  complete = complete words before h.due h.delivered;
  reads_grow = reads_grow words before h.due h.delivered;
  writes_grow = writes_grow words before h.due h.delivered;
  kept = kept words before h.due h.delivered;
}
