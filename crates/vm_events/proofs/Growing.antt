-- Tables grow: what is numbered is there still, and is the same.
use Rattle.std.proofs.Common.{◌≡◌, ◌<◌, ◌≤◌, ℕ, ℤ, Option, zero, suc, List, [], ◌∷◌, ◌++◌, length, get_or, refl, sym, ap, subst, ◌∙◌}
use Rattle.std.proofs.Common.{append_assoc, append-nil, arith}
use Rattle.std.specs.List.{AllByRecursion}
use Rattle.std.proofs.lemmas.List.{get_or_append_left, get_or-append-add, length-append, map-append}
use Rattle.mg_text.specs.Call.{Name}
use Rattle.mg_text.specs.Row.{Row}
use Rattle.mg_text.specs.declared.event.Carried.{Carried}
use Rattle.mg_text.specs.declared.event.Carried.TheVariants as carried
use Rattle.mg_text.specs.declared.event.Event.{Event}
use Rattle.mg_text.specs.declared.event.Event.TheVariants as seen
use Rattle.vm_world_law.specs.declared.role.RoleEvent.{RoleEvent}
use Rattle.vm_world_law.specs.World.{of_role}
use Rattle.vm_events.specs.declared.note.Load.{Load}
use Rattle.vm_events.specs.declared.note.Load.TheVariants as loads
use Rattle.vm_events.specs.declared.note.Message.{Message}
use Rattle.vm_events.specs.declared.note.Short.{Short}
use Rattle.vm_events.specs.declared.note.Short.TheVariants as shorts
use Rattle.vm_events.specs.declared.note.Note.{Note}
use Rattle.vm_events.specs.declared.tables.Tables.{Tables}
use Rattle.vm_events.specs.inner.Kept.{text_at, carried_in, no_message, message_at, event_in, role_event_in, events_in}
use Rattle.vm_events.specs.inner.Kept.{LoadIsThere, MessageIsThere, IsThere, AreThere}
use Rattle.vm_events.specs.Seen.{Grows, IsNumbered}
use Rattle.vm_events.specs.inner.Keeping.{HasNumber, HasLoad, Grow, HasMessage, IsLeft, Keeps}

module _ {A : Type 0} where
  pub grows_both : (xs ys zs : List A) → Grows xs ys → Grows ys zs → Grows xs zs
  grows_both xs ys zs g h =
      (g.0 ++ h.0, h.1 ∙ ap (λ l. l ++ h.0) g.1 ∙ append_assoc xs g.0 h.0)

  pub grows_length : (xs ys : List A) → Grows xs ys → length xs ≤ length ys
  grows_length xs ys g = omega (arith, ap length g.1, length-append xs g.0)

  -- what stands at a number stands there still
  pub grows_at : (xs ys : List A) (d : A) (n : ℕ) → Grows xs ys → n < length xs → get_or ys n d ≡ get_or xs n d
  grows_at xs ys d n g lt = ap (λ l. get_or l n d) g.1 ∙ get_or_append_left xs g.0 d n lt

  all_behind : (P : A → Type 0) (xs : List A) (x : A) → AllByRecursion P xs → P x → AllByRecursion P (xs ++ x ∷ [])
  all_behind P [] x h p = (p, tt)
  all_behind P (y ∷ xs) x h p = (h.0, all_behind P xs x h.1 p)

  all_at : (P : A → Type 0) (xs : List A) (d : A) → AllByRecursion P xs → (n : ℕ) → n < length xs → P (get_or xs n d)
  all_at P [] d h n lt = absurd (omega arith)
  all_at P (x ∷ xs) d h zero lt = h.0
  all_at P (x ∷ xs) d h (suc n) lt = all_at P xs d h.1 n (omega arith)

  all_weaker : (P Q : A → Type 0) → ((x : A) → P x → Q x) → (xs : List A) → AllByRecursion P xs → AllByRecursion Q xs
  all_weaker P Q w [] h = tt
  all_weaker P Q w (x ∷ xs) h = (w x h.0, all_weaker P Q w xs h.1)

module _ (ts us : List Name) (g : Grows ts us) where
  more : length ts ≤ length us
  more = grows_length ts us g

  pub text_more : (n : ℕ) → n < length ts → text_at us n ≡ text_at ts n
  text_more n lt = grows_at ts us [] n g lt

  -- a number stays that of its text
  pub numbered_more : (n : ℕ) (text : Name) → IsNumbered ts n text → IsNumbered us n text
  numbered_more n text h = record { there = omega (arith, h.there, more); says = text_more n h.there ∙ h.says }

  pub carried_more : (load : Load) → LoadIsThere (length ts) load → carried_in us load ≡ carried_in ts load
  carried_more loads.Nothing h = refl
  carried_more (loads.Int n) h = refl
  carried_more (loads.Truth b) h = refl
  carried_more (loads.Text t) h = ap carried.Text (text_more t h)

  pub load_there : (load : Load) → LoadIsThere (length ts) load → LoadIsThere (length us) load
  load_there loads.Nothing h = tt
  load_there (loads.Int n) h = tt
  load_there (loads.Truth b) h = tt
  load_there (loads.Text t) h = omega (arith, h, more)

  pub message_there : (m : Message) → MessageIsThere (length ts) m → MessageIsThere (length us) m
  message_there m h = (omega (arith, h.0, more), omega (arith, h.1, more), load_there m.load h.2)

  pub named_there : (ms : List Message) → AllByRecursion (MessageIsThere (length ts)) ms → AllByRecursion (MessageIsThere (length us)) ms
  named_there ms h = all_weaker (MessageIsThere (length ts)) (MessageIsThere (length us)) message_there ms h

-- a message is kept, whose name, label and load were kept before it
pub message_kept : (before after : Tables) (ts us : List Name) (row : Row Message) (n p l : ℕ) (load : Load) (peer label : Name)
    (payload : Carried) → HasNumber before.texts.kept.items ts p peer → HasNumber ts us l label →
    HasLoad us after.texts.kept.items load payload → row ≡ before.messages → n ≡ length row.items →
    after.messages.items ≡ row.items ++ record { peer = p; label = l; load = load } ∷ [] → HasMessage before after n peer label payload
message_kept before after ts us row n p l load peer label payload hp hl hc same is added =
    let bs = before.texts.kept.items in
    let vs = after.texts.kept.items in
    let m : Message = record { peer = p; label = l; load = load } in
    let ms = row.items in
    let ns = after.messages.items in
    let ts_vs = grows_both ts us vs hl.grows hc.grows in
    let bs_vs = grows_both bs ts vs hp.grows ts_vs in
    let there : MessageIsThere (length vs) m =
    (omega (arith, hp.there, grows_length ts vs ts_vs), omega (arith, hl.there, grows_length us vs hc.grows), hc.there) in
    let at : message_at ns n ≡ m = ap (λ (xs : List Message). message_at xs n) added
    ∙ ap (λ k. message_at (ms ++ m ∷ []) k) (is ∙ omega arith)
    ∙ get_or-append-add ms (m ∷ []) 0 no_message in
    record {
      grow = record {
        texts = bs_vs;
        messages = (m ∷ [], added ∙ ap (λ (r : Row Message). r.items ++ m ∷ []) same);
        named = λ h. subst (AllByRecursion (MessageIsThere (length vs))) (sym added)
            (all_behind (MessageIsThere (length vs)) ms m
            (named_there bs vs bs_vs ms (subst (λ (r : Row Message). AllByRecursion (MessageIsThere (length bs)) r.items) (sym same) h))
            there);
      };
      there = omega (arith, is, ap length added, length-append ms (m ∷ []));
      to = ap (λ (x : Message). text_at vs x.peer) at ∙ text_more ts vs ts_vs p hp.there ∙ hp.says;
      labelled = ap (λ (x : Message). text_at vs x.label) at ∙ text_more us vs hc.grows l hl.there ∙ hl.says;
      carries = ap (λ (x : Message). carried_in vs x.load) at ∙ hc.says;
    }

-- texts alone are kept
pub texts_grow : (before after : Tables) → Grows before.texts.kept.items after.texts.kept.items → after.messages ≡ before.messages →
    Grow before after
texts_grow before after g same = record {
  texts = g;
  messages = ([], ap (λ (r : Row Message). r.items) same ∙ sym (append-nil before.messages.items));
  named = λ h. subst (λ (r : Row Message). AllByRecursion (MessageIsThere (length after.texts.kept.items)) r.items) (sym same)
      (named_there before.texts.kept.items after.texts.kept.items g before.messages.items h);
}

-- nothing is kept
pub grow_none : (tables : Tables) → Grow tables tables
grow_none tables = texts_grow tables tables ([], sym (append-nil tables.texts.kept.items)) refl

-- an event that names one text, or two
module _ (before after : Tables) (event : Event) where
  abbrev bs : List Name
  bs = before.texts.kept.items

  abbrev vs : List Name
  vs = after.texts.kept.items

  pub print_kept : (n : ℕ) (text : Name) → HasNumber bs vs n text → after.messages ≡ before.messages → event ≡ seen.Print text →
      Keeps before after (shorts.Print n) event
  print_kept n text h same is =
      record { grow = texts_grow before after h.grows same; there = h.there; says = ap seen.Print h.says ∙ sym is }

  pub made_kept : (o n : ℕ) (class : Name) → HasNumber bs vs n class → after.messages ≡ before.messages → event ≡ seen.Made o class →
      Keeps before after (shorts.Made o n) event
  made_kept o n class h same is =
      record { grow = texts_grow before after h.grows same; there = h.there; says = ap (seen.Made o) h.says ∙ sym is }

  pub enter_kept : (o n : ℕ) (method : Name) → HasNumber bs vs n method → after.messages ≡ before.messages → event ≡ seen.Enter o method →
      Keeps before after (shorts.Enter o n) event
  enter_kept o n method h same is =
      record { grow = texts_grow before after h.grows same; there = h.there; says = ap (seen.Enter o) h.says ∙ sym is }

  pub leave_kept : (short : Short) (o : ℕ) (answer : Option ℤ) → IsLeft short o answer → after ≡ before → event ≡ seen.Leave o answer →
      Keeps before after short event
  leave_kept short o answer h same is = record {
    grow = texts_grow before after (subst (λ (t : Tables). Grows bs t.texts.kept.items) (sym same) ([], sym (append-nil bs)))
        (ap (λ (t : Tables). t.messages) same);
    there = h.there (length vs) (length after.messages.items);
    says = h.says vs after.messages.items ∙ sym is;
  }

  pub look_kept : (ts : List Name) (p l : ℕ) (peer label : Name) → HasNumber bs ts p peer → HasNumber ts vs l label →
      after.messages ≡ before.messages → event ≡ seen.Look peer label → Keeps before after (shorts.Look p l) event
  look_kept ts p l peer label hp hl same is = record {
    grow = texts_grow before after (grows_both bs ts vs hp.grows hl.grows) same;
    there = (omega (arith, hp.there, grows_length ts vs hl.grows), hl.there);
    says = ap (λ (q : Name). seen.Look q (text_at vs l)) (text_more ts vs hl.grows p hp.there ∙ hp.says)
        ∙ ap (seen.Look peer) hl.says ∙ sym is;
  }

-- the events of notes stay as tables grow
module _ (before after : Tables) (g : Grow before after) where
  abbrev old_texts : List Name
  old_texts = before.texts.kept.items

  abbrev new_texts : List Name
  new_texts = after.texts.kept.items

  abbrev old_messages : List Message
  old_messages = before.messages.items

  abbrev new_messages : List Message
  new_messages = after.messages.items

  same_message : AllByRecursion (MessageIsThere (length old_texts)) old_messages → (n : ℕ) → n < length old_messages →
      (message_at new_messages n ≡ message_at old_messages n) × MessageIsThere (length old_texts) (message_at old_messages n)
  same_message named n lt = (
    grows_at old_messages new_messages no_message n g.messages lt,
    all_at (MessageIsThere (length old_texts)) old_messages no_message named n lt,
  )

  same_parts : (make : Name → Name → Carried → Event) → AllByRecursion (MessageIsThere (length old_texts)) old_messages →
      (n : ℕ) → n < length old_messages →
      make (text_at new_texts (message_at new_messages n).peer) (text_at new_texts (message_at new_messages n).label)
      (carried_in new_texts (message_at new_messages n).load)
      ≡ make (text_at old_texts (message_at old_messages n).peer) (text_at old_texts (message_at old_messages n).label)
      (carried_in old_texts (message_at old_messages n).load)
  same_parts make named n lt =
      let h = same_message named n lt in
      let m = message_at old_messages n in
      ap (λ (x : Message). make (text_at new_texts x.peer) (text_at new_texts x.label) (carried_in new_texts x.load)) h.0
      ∙ ap (λ (t : Name). make t (text_at new_texts m.label) (carried_in new_texts m.load))
      (text_more old_texts new_texts g.texts m.peer h.1.0)
      ∙ ap (λ (t : Name). make (text_at old_texts m.peer) t (carried_in new_texts m.load))
      (text_more old_texts new_texts g.texts m.label h.1.1)
      ∙ ap (make (text_at old_texts m.peer) (text_at old_texts m.label)) (carried_more old_texts new_texts g.texts m.load h.1.2)

  same_event : AllByRecursion (MessageIsThere (length old_texts)) old_messages → (short : Short) →
      IsThere (length old_texts) (length old_messages) short →
      event_in new_texts new_messages short ≡ event_in old_texts old_messages short
  same_event named (shorts.Print t) h = ap seen.Print (text_more old_texts new_texts g.texts t h)
  same_event named (shorts.Made o t) h = ap (seen.Made o) (text_more old_texts new_texts g.texts t h)
  same_event named (shorts.Enter o t) h = ap (seen.Enter o) (text_more old_texts new_texts g.texts t h)
  same_event named (shorts.Left o) h = refl
  same_event named (shorts.Answered o answer) h = refl
  same_event named (shorts.Send m) h = same_parts seen.Send named m h
  same_event named (shorts.Look p l) h =
      ap (λ (t : Name). seen.Look t (text_at new_texts l)) (text_more old_texts new_texts g.texts p h.0)
      ∙ ap (seen.Look (text_at old_texts p)) (text_more old_texts new_texts g.texts l h.1)
  same_event named (shorts.Take m) h = same_parts seen.Take named m h

  still_there : (short : Short) → IsThere (length old_texts) (length old_messages) short →
      IsThere (length new_texts) (length new_messages) short
  still_there (shorts.Print t) h = omega (arith, h, grows_length old_texts new_texts g.texts)
  still_there (shorts.Made o t) h = omega (arith, h, grows_length old_texts new_texts g.texts)
  still_there (shorts.Enter o t) h = omega (arith, h, grows_length old_texts new_texts g.texts)
  still_there (shorts.Left o) h = tt
  still_there (shorts.Answered o answer) h = tt
  still_there (shorts.Send m) h = omega (arith, h, grows_length old_messages new_messages g.messages)
  still_there (shorts.Look p l) h =
      let longer = grows_length old_texts new_texts g.texts in
      (omega (arith, h.0, longer), omega (arith, h.1, longer))
  still_there (shorts.Take m) h = omega (arith, h, grows_length old_messages new_messages g.messages)

  abbrev NoteIsThere : (texts : List Name) → List Message → Note → Type 0
  NoteIsThere texts messages note = IsThere (length texts) (length messages) note.event

  pub same_events : AllByRecursion (MessageIsThere (length old_texts)) old_messages → (notes : List Note) →
      AllByRecursion (NoteIsThere old_texts old_messages) notes →
      events_in new_texts new_messages notes ≡ events_in old_texts old_messages notes
  same_events named [] h = refl
  same_events named (note ∷ notes) h =
      ap (λ (e : Event). of_role note.role e ∷ events_in new_texts new_messages notes) (same_event named note.event h.0)
      ∙ ap (λ (es : List RoleEvent). role_event_in old_texts old_messages note ∷ es) (same_events named notes h.1)

  -- one note more
  module _ (notes more : List Note) (r : ℕ) (short : Short) (event : Event)
      (there : IsThere (length new_texts) (length new_messages) short) (says : event_in new_texts new_messages short ≡ event)
      (are : AreThere old_texts old_messages notes) (added : more ≡ notes ++ record { role = r; event = short } ∷ []) where
    pub still_kept : AreThere new_texts new_messages more
    still_kept = record {
      named = g.named are.named;
      noted = subst (AllByRecursion (NoteIsThere new_texts new_messages)) (sym added)
          (all_behind (NoteIsThere new_texts new_messages) notes (record { role = r; event = short })
          (all_weaker (NoteIsThere old_texts old_messages) (NoteIsThere new_texts new_messages) (λ n h. still_there n.event h) notes are.noted)
          there);
    }

    pub one_more : events_in new_texts new_messages more ≡ events_in old_texts old_messages notes ++ of_role r event ∷ []
    one_more =
        ap (events_in new_texts new_messages) added
        ∙ map-append (role_event_in new_texts new_messages) notes (record { role = r; event = short } ∷ [])
        ∙ ap (λ (es : List RoleEvent). es ++ of_role r (event_in new_texts new_messages short) ∷ [])
        (same_events are.named notes are.noted)
        ∙ ap (λ (e : Event). events_in old_texts old_messages notes ++ of_role r e ∷ []) says
