-- The typestate that is laid out allows exactly the calls of the protocol.
use Rattle.std.proofs.Common.{◌≡◌, ℕ, Bool, true, false, List, [], ◌∷◌, map, Some, None, refl, sym, ap, ◌∙◌, inl, inr, ◌⊎◌, ⊎_elim}
use Rattle.std.specs.Prelude.{Option, option_and_then, if◌then◌else◌}
use Rattle.std.specs.Str.{bytes_eq}
use Rattle.std.proofs.lemmas.Slice.Eq.{bytes_eq-Decides}
use Rattle.mg_text.specs.Call.{Name, Call}
use Rattle.scr_tree.specs.Protocol.{Message, Parts}
use Rattle.scr_tree.specs.Steps.{Act, Moves, Looks, Position}
use Rattle.scr_tree.specs.CallNames.{message_call, label_call, call_of}
use Rattle.scr_trace.specs.Onward.{Onward}
use Rattle.scr_trace.specs.Graph.{Edge, AreSteps}
use Rattle.scr_trace.specs.inner.Goes.{Among}
use Rattle.scr_trace.proofs.Telling.{DiffersFrom, AllDiffer, AllMove, AllLook, OneChoice, moving, looking}
use Rattle.ts_tree.specs.declared.parts.To.{To}
use Rattle.ts_tree.specs.Typestate.{ByAnswer, Method}
use Rattle.ts_tree.specs.Calls.{by_label, led_by, offered_in}
use Rattle.stm_gen.specs.Laid.{to_of, method_of, branch_before, branches_of, label_method, methods_by, methods_of}

some_same : {A : Type 0} {a b : A} {o : Option A} → o ≡ Some a → o ≡ Some b → a ≡ b
some_same e f = cc

some_inside : {A : Type 0} {a b : A} → Some a ≡ Some b → a ≡ b
some_inside e = cc

true_or_false : (b : Bool) → (b ≡ true) ⊎ (b ≡ false)
true_or_false true = inl refl
true_or_false false = inr refl

-- ---- the methods of edges

abbrev pub AllMessages : List Edge → Type 0
AllMessages [] = Unit {0}
AllMessages (e ∷ es) = ((m : Message) × (e.act ≡ Moves m)) × AllMessages es

abbrev pub AllLooks : ℕ → Name → List Edge → Type 0
AllLooks n peer [] = Unit {0}
AllLooks n peer (e ∷ es) = ((label : Name) × (e.act ≡ Looks n peer label)) × AllLooks n peer es

-- each edge is a message, or each is a look at one choice
pub data OneKind : List Edge → Type 0 where
  messages : {edges : List Edge} → AllMessages edges → OneKind edges
  looks : {edges : List Edge} (n : ℕ) (peer : Name) → AllLooks n peer edges → OneKind edges

edges_move : (parts : Parts) (all : List Position) (steps : List Onward) (edges : List Edge) → AreSteps parts all steps edges →
    AllMove steps → AllMessages edges
edges_move parts all [] [] h m = tt
edges_move parts all [] (e ∷ edges) h m = absurd h
edges_move parts all (s ∷ steps) [] h m = absurd h
edges_move parts all (s ∷ steps) (e ∷ edges) h m = ((m.0.0, h.0.act ∙ m.0.1), edges_move parts all steps edges h.1 m.1)

edges_look : (parts : Parts) (all : List Position) (n : ℕ) (peer : Name) (steps : List Onward) (edges : List Edge) →
    AreSteps parts all steps edges → AllLook n peer steps → AllLooks n peer edges
edges_look parts all n peer [] [] h m = tt
edges_look parts all n peer [] (e ∷ edges) h m = absurd h
edges_look parts all n peer (s ∷ steps) [] h m = absurd h
edges_look parts all n peer (s ∷ steps) (e ∷ edges) h m = ((m.0.0, h.0.act ∙ m.0.1), edges_look parts all n peer steps edges h.1 m.1)

pub one_kind : (parts : Parts) (all : List Position) (steps : List Onward) (edges : List Edge) → AreSteps parts all steps edges →
    OneChoice steps → OneKind edges
one_kind parts all steps edges h (moving m) = messages (edges_move parts all steps edges h m)
one_kind parts all steps edges h (looking n peer l) = looks n peer (edges_look parts all n peer steps edges h l)

-- the calls of edges, none twice
abbrev pub calls : Name → List Edge → List Call
calls me edges = map (λ (e : Edge). call_of me e.act) edges

module _ (me : Name) where
  -- where a method that stands there leads for this call
  abbrev pub leads : List Method → Name → Option Name → Option To
  leads ms name answer = option_and_then (λ m. led_by m.target answer) (offered_in ms name)

  pub methods-message : (e : Edge) (es : List Edge) (m : Message) → e.act ≡ Moves m → methods_of me (e ∷ es)
      ≡ method_of m e.to ∷ methods_of me es
  methods-message e es m is = ap (λ a. methods_by me a e.to (methods_of me es) (branches_of (e ∷ es))) is

  pub methods-look : (e : Edge) (es : List Edge) (n : ℕ) (peer label : Name) → e.act ≡ Looks n peer label → methods_of me (e ∷ es)
      ≡ label_method me n peer (branches_of (e ∷ es)) ∷ []
  methods-look e es n peer label is = ap (λ a. methods_by me a e.to (methods_of me es) (branches_of (e ∷ es))) is

  pub branches-look : (e : Edge) (es : List Edge) (n : ℕ) (peer label : Name) → e.act ≡ Looks n peer label → branches_of (e ∷ es)
      ≡ record { label = label; to = to_of e.to } ∷ branches_of es
  branches-look e es n peer label is = ap (λ a. branch_before a e.to (branches_of es)) is

  offered-first : (m : Method) (ms : List Method) (name : Name) (b : Bool) → bytes_eq m.name name ≡ b → offered_in (m ∷ ms) name
      ≡ (if b then Some m else offered_in ms name)
  offered-first m ms name b e = ap (λ c. if c then Some m else offered_in ms name) e

  -- a message's call leads where its edge does
  message_leads : (edges : List Edge) → AllMessages edges → AllDiffer (calls me edges) → (e : Edge) → Among edges e →
      leads (methods_of me edges) (call_of me e.act).method (call_of me e.act).answer ≡ Some (to_of e.to)
  message_leads [] h d e a = absurd a
  message_leads (x ∷ xs) h d e a =
      let m : Message = h.0.0 in
      let first : (call_of me x.act) ≡ record { method = message_call m; answer = None } = ap (call_of me) h.0.1 in
      ap (λ ms. leads ms (call_of me e.act).method (call_of me e.act).answer) (methods-message x xs m h.0.1)
      ∙ ⊎_elim
      (λ same.
      ap (option_and_then (λ f. led_by f.target (call_of me e.act).answer)) (offered-first (method_of m x.to) (methods_of me xs)
      (call_of me e.act).method true
      ((bytes_eq-Decides (message_call m) (call_of me e.act).method).1
      (sym (ap (λ (c : Call). c.method) (sym (ap (λ (y : Edge). call_of me y.act) same) ∙ first)))))
      ∙ ap (λ (y : Edge). Some (to_of y.to)) same)
      (λ later.
      ap (option_and_then (λ f. led_by f.target (call_of me e.act).answer)) (offered-first (method_of m x.to) (methods_of me xs)
      (call_of me e.act).method false
      (other x xs e later m first d h))
      ∙ message_leads xs h.1 d.1 e later)
      a
    where
      -- the call of a later message is another
      none_later : (call : Call) (ys : List Edge) (e : Edge) → DiffersFrom call (calls me ys) → Among ys e → call ≡ call_of me e.act → ⊥
      none_later call [] e d a f = a
      none_later call (y ∷ ys) e d a f = ⊎_elim (λ g. d.0 (f ∙ ap (λ (z : Edge). call_of me z.act) (sym g)))
          (λ b. none_later call ys e d.1 b f) a

      no_answer : (ys : List Edge) (e : Edge) → AllMessages ys → Among ys e → (call_of me e.act).answer ≡ None
      no_answer [] e h a = absurd a
      no_answer (y ∷ ys) e h a = ⊎_elim (λ g. ap (λ (z : Edge). (call_of me z.act).answer) (sym g) ∙
          ap (λ (c : Act). (call_of me c).answer) h.0.1) (λ b. no_answer ys e h.1 b) a

      other : (x : Edge) (xs : List Edge) (e : Edge) → Among xs e → (m : Message) →
          call_of me x.act ≡ record { method = message_call m; answer = None } → AllDiffer (calls me (x ∷ xs)) → AllMessages (x ∷ xs) →
          bytes_eq (message_call m) (call_of me e.act).method ≡ false
      other x xs e later m first d h =
          ⊎_elim
          (λ t. absurd (none_later (call_of me x.act) xs e d.0 later
          (let names = (bytes_eq-Decides (message_call m) (call_of me e.act).method).0 t in
          first ∙ (λ i. record { method = names i; answer = sym (no_answer xs e h.1 later) i }))))
          (λ f. f) (true_or_false (bytes_eq (message_call m) (call_of me e.act).method))

  -- a call that messages lead on is that of one, but for its answer
  leads_message : (edges : List Edge) → AllMessages edges → (name : Name) (answer : Option Name) (to : To) →
      leads (methods_of me edges) name answer ≡ Some to → (e : Edge) × Among edges e
      × (call_of me e.act ≡ record { method = name; answer = None }) × (to_of e.to ≡ to)
  leads_message [] h name answer to l = cc
  leads_message (x ∷ xs) h name answer to l =
      let m : Message = h.0.0 in
      let l' = sym (ap (λ ms. leads ms name answer) (methods-message x xs m h.0.1)) ∙ l in
      ⊎_elim
      (λ t.
      let f : Some (to_of x.to) ≡ Some to =
      sym (ap (option_and_then (λ f. led_by f.target answer)) (offered-first (method_of m x.to) (methods_of me xs) name true t)) ∙
      l' in
      let named = (bytes_eq-Decides (message_call m) name).0 t in
      (x, inl refl, ap (call_of me) h.0.1 ∙ (λ i. record { method = named i; answer = None }), some_inside f))
      (λ t.
      let r = leads_message xs h.1 name answer to
      (sym (ap (option_and_then (λ f. led_by f.target answer)) (offered-first (method_of m x.to) (methods_of me xs) name false t)) ∙
      l') in
      (r.0, inr r.1, r.2, r.3))
      (true_or_false (bytes_eq (message_call m) name))

  -- ---- looks

  abbrev look_call : ℕ → Name → Name → Call
  look_call n peer label = record { method = label_call me n peer; answer = Some label }

  label_of_call : (n : ℕ) (peer label other : Name) → look_call n peer label ≡ look_call n peer other → label ≡ other
  label_of_call n peer label other e = some_inside (ap (λ (c : Call). c.answer) e)

  by_label_of : (edges : List Edge) (n : ℕ) (peer : Name) → AllLooks n peer edges → AllDiffer (calls me edges) → (e : Edge) (label : Name) →
      Among edges e → e.act ≡ Looks n peer label → by_label (branches_of edges) label ≡ Some (to_of e.to)
  by_label_of [] n peer h d e label a is = absurd a
  by_label_of (x ∷ xs) n peer h d e label a is =
      ap (λ bs. by_label bs label) (branches-look x xs n peer h.0.0 h.0.1)
      ∙ ⊎_elim
      (λ same.
      let f : h.0.0 ≡ label = label_of_call n peer h.0.0 label (sym (ap (call_of me) h.0.1) ∙ ap (λ (y : Edge). call_of me y.act) same ∙
      ap (call_of me) is) in
      ap (λ b. if b then Some (to_of x.to) else by_label (branches_of xs) label) ((bytes_eq-Decides h.0.0 label).1 f) ∙
      ap (λ (y : Edge). Some (to_of y.to)) same)
      (λ later.
      ap (λ b. if b then Some (to_of x.to) else by_label (branches_of xs) label)
      (⊎_elim
      (λ t. absurd (none_later (call_of me x.act) xs e d.0 later
      (ap (call_of me) h.0.1 ∙ ap (λ l. record { method = label_call me n peer; answer = Some l }) ((bytes_eq-Decides h.0.0 label).0 t)
      ∙ sym (ap (call_of me) is))))
      (λ f. f) (true_or_false (bytes_eq h.0.0 label)))
      ∙ by_label_of xs n peer h.1 d.1 e label later is)
      a
    where
      none_later : (call : Call) (ys : List Edge) (e : Edge) → DiffersFrom call (calls me ys) → Among ys e → call ≡ call_of me e.act → ⊥
      none_later call [] e d a f = a
      none_later call (y ∷ ys) e d a f = ⊎_elim (λ g. d.0 (f ∙ ap (λ (z : Edge). call_of me z.act) (sym g)))
          (λ b. none_later call ys e d.1 b f) a

  label_among : (edges : List Edge) (n : ℕ) (peer : Name) → AllLooks n peer edges → (label : Name) (to : To) →
      by_label (branches_of edges) label ≡ Some to → (e : Edge) × Among edges e × (e.act ≡ Looks n peer label) × (to_of e.to ≡ to)
  label_among [] n peer h label to l = cc
  label_among (x ∷ xs) n peer h label to l =
      let l' = sym (ap (λ bs. by_label bs label) (branches-look x xs n peer h.0.0 h.0.1)) ∙ l in
      ⊎_elim
      (λ t.
      let f : Some (to_of x.to) ≡ Some to = sym (ap (λ b. if b then Some (to_of x.to) else by_label (branches_of xs) label) t) ∙ l' in
      (x, inl refl, h.0.1 ∙ ap (Looks n peer) ((bytes_eq-Decides h.0.0 label).0 t), some_inside f))
      (λ t.
      let r = label_among xs n peer h.1 label to (sym (ap (λ b. if b then Some (to_of x.to) else by_label (branches_of xs) label) t) ∙ l')
      in
      (r.0, inr r.1, r.2, r.3))
      (true_or_false (bytes_eq h.0.0 label))

  look_is : (edges : List Edge) (n : ℕ) (peer : Name) → AllLooks n peer edges → (e : Edge) → Among edges e →
      (label : Name) × (e.act ≡ Looks n peer label)
  look_is [] n peer h e a = absurd a
  look_is (x ∷ xs) n peer h e a = ⊎_elim (λ f. (h.0.0, ap (λ (y : Edge). y.act) (sym f) ∙ h.0.1)) (λ b. look_is xs n peer h.1 e b) a

  look_leads : (edges : List Edge) (n : ℕ) (peer : Name) → AllLooks n peer edges → AllDiffer (calls me edges) → (e : Edge) → Among edges e →
      leads (methods_of me edges) (call_of me e.act).method (call_of me e.act).answer ≡ Some (to_of e.to)
  look_leads [] n peer h d e a = absurd a
  look_leads (x ∷ xs) n peer h d e a =
      let l = look_is (x ∷ xs) n peer h e a in
      ap (λ ms. leads ms (call_of me e.act).method (call_of me e.act).answer) (methods-look x xs n peer h.0.0 h.0.1)
      ∙ ap (λ (c : Act). leads (label_method me n peer (branches_of (x ∷ xs)) ∷ []) (call_of me c).method (call_of me c).answer) l.1
      ∙ ap (option_and_then (λ f. led_by f.target (Some l.0))) (offered-first (label_method me n peer (branches_of (x ∷ xs))) []
      (label_call me n peer) true ((bytes_eq-Decides (label_call me n peer) (label_call me n peer)).1 refl))
      ∙ by_label_of (x ∷ xs) n peer h d e l.0 a l.1

  leads_look : (edges : List Edge) (n : ℕ) (peer : Name) → AllLooks n peer edges → (name : Name) (answer : Option Name) (to : To) →
      leads (methods_of me edges) name answer ≡ Some to → (e : Edge) × Among edges e
      × (call_of me e.act ≡ record { method = name; answer = answer }) × (to_of e.to ≡ to)
  leads_look [] n peer h name answer to l = cc
  leads_look (x ∷ xs) n peer h name answer to l =
      let m : Method = label_method me n peer (branches_of (x ∷ xs)) in
      let l' = sym (ap (λ ms. leads ms name answer) (methods-look x xs n peer h.0.0 h.0.1)) ∙ l in
      ⊎_elim
      (λ t. by answer (sym (ap (option_and_then (λ f. led_by f.target answer)) (offered-first m [] name true t)) ∙ l')
      ((bytes_eq-Decides (label_call me n peer) name).0 t))
      (λ t. let z : None ≡ Some to = sym (ap (option_and_then (λ f. led_by f.target answer)) (offered-first m [] name false t)) ∙
      l' in cc z)
      (true_or_false (bytes_eq (label_call me n peer) name))
    where
      by : (answer : Option Name) → led_by (ByAnswer (branches_of (x ∷ xs))) answer ≡ Some to → label_call me n peer ≡ name →
          (e : Edge) × Among (x ∷ xs) e × (call_of me e.act ≡ record { method = name; answer = answer }) × (to_of e.to ≡ to)
      by None l named = cc
      by (Some label) l named =
          let r = label_among (x ∷ xs) n peer h label to l in
          (r.0, r.1, ap (call_of me) r.2 ∙ (λ i. record { method = named i; answer = Some label }), r.3)

  -- ---- both kinds

  pub edge_leads : (edges : List Edge) → OneKind edges → AllDiffer (calls me edges) → (e : Edge) → Among edges e →
      leads (methods_of me edges) (call_of me e.act).method (call_of me e.act).answer ≡ Some (to_of e.to)
  edge_leads edges (messages h) d e a = message_leads edges h d e a
  edge_leads edges (looks n peer h) d e a = look_leads edges n peer h d e a

  -- a call that leads on is that of an edge; only a message's may have an answer that it hasn't
  pub record LedBy (edges : List Edge) (name : Name) (answer : Option Name) (to : To) : Type 0 where
    pub edge : Edge
    pub among : Among edges edge
    pub method : (call_of me edge.act).method ≡ name
    pub answered : ((call_of me edge.act).answer ≡ answer) ⊎ ((m : Message) × (edge.act ≡ Moves m))
    pub leads_to : to_of edge.to ≡ to

  message_is : (edges : List Edge) → AllMessages edges → (e : Edge) → Among edges e → (m : Message) × (e.act ≡ Moves m)
  message_is [] h e a = absurd a
  message_is (x ∷ xs) h e a = ⊎_elim (λ f. (h.0.0, ap (λ (y : Edge). y.act) (sym f) ∙ h.0.1)) (λ b. message_is xs h.1 e b) a

  pub leads_edge : (edges : List Edge) → OneKind edges → (name : Name) (answer : Option Name) (to : To) →
      leads (methods_of me edges) name answer ≡ Some to → LedBy edges name answer to
  leads_edge edges (messages h) name answer to l =
      let r = leads_message edges h name answer to l in
      record {
        edge = r.0;
        among = r.1;
        method = ap (λ (c : Call). c.method) r.2;
        answered = inr (message_is edges h r.0 r.1);
        leads_to =
            r.3;
      }
  leads_edge edges (looks n peer h) name answer to l =
      let r = leads_look edges n peer h name answer to l in
      record {
        edge = r.0;
        among = r.1;
        method = ap (λ (c : Call). c.method) r.2;
        answered =
            inl (ap (λ (c : Call). c.answer) r.2);
        leads_to = r.3;
      }
