-- The states that are laid out are those that the numbers of the text give.
use Rattle.std.proofs.Common.{◌≡◌, ℕ, suc, ◌+◌, ◌-◌, ◌<◌, ◌≤◌, List, [], ◌∷◌, ◌++◌, length, get_or, map, Contains, refl, sym, ap, ◌∙◌}
use Rattle.std.proofs.Common.{subst, inr, ⊎_elim, Bool, true, false, if◌then◌else◌, arith, append_assoc}
use Rattle.std.specs.Prelude.{slice_set, Option}
use Rattle.std.specs.Str.{bytes_eq}
use Rattle.std.proofs.lemmas.List.{append-nil, length-append, get_or-set_same, length-set}
use Rattle.std.proofs.lemmas.Slice.Eq.{bytes_eq-Decides}
use Rattle.mg_text.specs.Call.{Name}
use Rattle.scr_tree.specs.declared.syntax.Message.{Message as Said}
use Rattle.scr_tree.specs.Tree.{LocalTree, Titled, titled, Statements, Nothing, Says, Choice, Rec, Continue, Do, NoBranch, Branch}
use Rattle.scr_tree.specs.Tree as tree
use Rattle.scr_tree.specs.Meaning.{choices, choices_in, numbered, numbered_in, numbered_parts, message_of, protocol_of}
use Rattle.scr_tree.specs.Protocol.{Message, peer_of, label_of, Protocol, Does, ChoiceHere, ChoiceThere, Branches, NoMore, Named}
use Rattle.scr_tree.specs.Protocol as protocol
use Rattle.scr_tree.specs.Steps.{Moves, Looks}
use Rattle.scr_tree.specs.Valid.{IsValid, names_in}
use Rattle.scr_trace.specs.declared.standing.Standing.{Standing}
use Rattle.scr_trace.specs.declared.standing.Standing.TheVariants as standings
use Rattle.scr_trace.specs.declared.arrow.Hop.{Hop}
use Rattle.scr_trace.specs.declared.arrow.Hop.TheVariants as hops
use Rattle.scr_trace.specs.Graph.{Edge}
use Rattle.scr_trace.specs.inner.Laying.{Cell, Work, Known, Gathered, nothing, lay, lay_in, branch_laid, parts_laid, laid_parts, LaidOut}
use Rattle.scr_trace.specs.inner.Laying.{number_in, turned, said, opened, closed, chosen, joined, gathering, hop_named}
use Rattle.scr_trace.specs.inner.View.{standing_of, act_of, edge_of, edges_of, graph_of_work}
use Rattle.scr_trace.proofs.Parts
use Rattle.scr_trace.proofs.Growing.{Keeps, keeps_all, keeps_more, keeps, keeps_in, keeps_branch, keeps_chosen, keeps_rec, number_within}
use Rattle.scr_trace.proofs.Growing.{final_behind}
use Rattle.scr_trace.proofs.Counting.{numbers, numbers_in}
use Rattle.scr_trace.proofs.Rules.{is_among, Sound, SoundIn, SoundFirst}
use Rattle.scr_trace.proofs.Begins.{Begins, at_first, through, back, begins}
use Rattle.scr_trace.proofs.Leading.{hop_here, true_or_false, among_rest}
use Rattle.scr_trace.proofs.Matching.{seen, number_of, peer_is, label_is}
use Rattle.scr_trace.proofs.Valid.{AllSound, valid_sound}
use Rattle.ts_tree.specs.Typestate.{Method, State}
use Rattle.stm_gen.specs.Laid.{to_of, method_of, methods_of, methods_by, branches_of, branch_before, label_method}
use Rattle.stm_gen.specs.Numbered.{after, Start, start_of, first, sends, answers, asks, state, states, states_here, states_behind}
use Rattle.stm_gen.specs.Numbered.{states_there, states_from as states_whole, part_states, placed, entry}
use Rattle.stm_gen.specs.inner.States.{states_from}
use Rattle.stm_gen.proofs.Numbers.{after_in, after_one, after-Branch, after-NoMore, laid_count, gathered_count, none_numbered, none_after}
use Rattle.stm_gen.proofs.Entering.{enters}
use Rattle.stm_gen.proofs.Starting.{start_here, start_past, hop_past, entered, Returns, returns_in, begins_at}

-- ---- the parts of a choice, at self or elsewhere

abbrev in_states : (Name → Standing) → Name → Bool → ℕ → Standing → List Start → Branches → List State
in_states opening me true n follow starts bs = states_here opening me n follow starts bs
in_states opening me false n follow starts bs = states_there opening me n follow starts bs

abbrev one_states : (Name → Standing) → Name → Bool → ℕ → Standing → List Start → Protocol → List State
one_states opening me true n follow starts b = states_behind opening me n follow starts b
one_states opening me false n follow starts b = states_whole opening me n follow starts b

in-Branch : (opening : Name → Standing) (me : Name) (self : Bool) (n : ℕ) (follow : Standing) (starts : List Start) (b : Protocol)
    (more : Branches) →
    in_states opening me self n follow starts (protocol.Branch b more) ≡ one_states opening me self n follow starts b
    ++ in_states opening me self (after_one self n b) follow starts more
in-Branch opening me true n follow starts b more = refl
in-Branch opening me false n follow starts b more = refl

in-NoMore : (opening : Name → Standing) (me : Name) (self : Bool) (n : ℕ) (follow : Standing) (starts : List Start) →
    in_states opening me self n follow starts NoMore ≡ []
in-NoMore opening me true n follow starts = refl
in-NoMore opening me false n follow starts = refl

-- the next free number behind parts
abbrev pub after_parts : ℕ → List Named → ℕ
after_parts n [] = n
after_parts n (part ∷ parts) = after_parts (after n part.body) parts

-- what a choice offers, by the first messages of its branches
abbrev Offered : (Name → Standing) → Name → Bool → (number : ℕ) → ℕ → Standing → List Start → Branches → List Edge → Type 0
Offered opening me true number n follow starts bs edges = methods_of me edges ≡ sends opening n follow starts bs
Offered opening me false number n follow starts bs edges = (methods_of me edges ≡ asks me number n bs) × (branches_of edges ≡ answers n bs)

module _ (me : Name) (parts : Name → Option ℕ) (protocols : List Name) (total : Work) (opening : Name → Standing)
    (enters : (name : Name) → Contains protocols name → opening name ≡ entered parts total name) where
  -- ---- states in a row

  from_append : (xs ys : List Cell) (n m : ℕ) → n + length xs ≡ m →
      states_from me n (map (edges_of total) (xs ++ ys)) ≡ states_from me n (map (edges_of total) xs) ++ states_from me m
      (map (edges_of total) ys)
  from_append [] ys n m e = let f : n ≡ m = omega arith in ap (λ k. states_from me k (map (edges_of total) ys)) f
  from_append (x ∷ xs) ys n m e = ap (λ (l : List State). state n (methods_of me (edges_of total x)) ∷ l)
      (from_append xs ys (suc n) m (omega arith))

  -- the first of cs are these states, numbered from n to m, and ds are behind them
  record Fits (n m : ℕ) (ss : List State) (cs ds : List Cell) : Type 0 where
    front : List Cell
    stands : cs ≡ front ++ ds
    many : n + length front ≡ m
    are : states_from me n (map (edges_of total) front) ≡ ss

  none_fit : (n m : ℕ) (ss : List State) (cs ds : List Cell) → m ≡ n → ss ≡ [] → cs ≡ ds → Fits n m ss cs ds
  none_fit n m ss cs ds e f g = record { front = []; stands = g; many = omega arith; are = sym f }

  both_fit : (n m k : ℕ) (ss ts : List State) (cs ds es : List Cell) → Fits n m ss cs ds → Fits m k ts ds es → Fits n k (ss ++ ts) cs es
  both_fit n m k ss ts cs ds es a b = record {
    front = a.front ++ b.front;
    stands = a.stands ∙ ap (λ l. a.front ++ l) b.stands ∙ sym (append_assoc a.front b.front es);
    many = let l = length-append a.front b.front in let x = a.many in let y = b.many in omega arith;
    are = from_append a.front b.front n m a.many ∙ ap (λ l. l ++ states_from me m (map (edges_of total) b.front)) a.are ∙
        ap (λ l. ss ++ l) b.are;
  }

  one_fit : (n m : ℕ) (methods : List Method) (c : Cell) (ss : List State) (cs ds : List Cell) → methods_of me (edges_of total c) ≡ methods
      → Fits (suc n) m ss cs ds → Fits n m (state n methods ∷ ss) (c ∷ cs) ds
  one_fit n m methods c ss cs ds e a = record {
    front = c ∷ a.front;
    stands = ap (λ l. c ∷ l) a.stands;
    many = let x = a.many in omega arith;
    are = λ i. state n (e i) ∷ a.are i;
  }

  said_fit : (n m : ℕ) (q : Said) (to : Standing) (v : Work) (ss : List State) (ds : List Cell) → to ≡ standing_of total v.next →
      Fits (suc n) m ss v.cells ds → Fits n m (state n (method_of (message_of q) to ∷ []) ∷ ss) (said q v).cells ds
  said_fit n m q to v ss ds e a =
      subst (λ cs. Fits n m (state n (method_of (message_of q) to ∷ []) ∷ ss) cs ds) (sym (Parts.said_cells q v))
      (one_fit n m (method_of (message_of q) to ∷ []) _ ss v.cells ds (ap (λ s. method_of (message_of q) s ∷ []) (sym e)) a)

  -- ---- the numbers of recs

  -- those that are laid out from v to u stay
  unfoldable Final : Work → Work → Type 0
  Final v u = (j : ℕ) → length v.loops ≤ j → j < length u.loops → get_or total.loops j 0 ≡ get_or u.loops j 0

  final_first : (v x u : Work) → Keeps v.loops x.loops → Keeps x.loops u.loops → Final v u → Final v x
  unfolding Final
  final_first v x u a b f j l h = f j l (let m = b.longer in omega arith) ∙ b.same j h

  final_last : (v x u y : Work) → Keeps v.loops x.loops → u.loops ≡ y.loops → Final v u → Final x y
  unfolding Final
  final_last v x u y a e f j l h = f j (let m = a.longer in omega arith) (omega (arith, ap length e)) ∙ ap (λ ls. get_or ls j 0) e

  final_body : (v o x u w : Work) → o.loops ≡ v.loops ++ 0 ∷ [] → u.loops ≡ slice_set x.loops (length v.loops) (length x.cells) →
      length w.loops ≤ length v.loops → Final w u → Final o x
  unfolding Final
  final_body v o x u w opens loops longer =
      final_behind total.loops v.loops o.loops x.loops u.loops (length x.cells) (length w.loops) opens loops longer

  -- where every `continue` leads
  abbrev AllReturn : List Name → List Known → List Start → Type 0
  AllReturn names known starts = (name : Name) → is_among name names ≡ true → start_of name starts ≡ standing_of total
      (hop_named name known)

  returns : (names : List Name) (t : Statements) (known : List Known) (starts : List Start) → AllReturn names known starts →
      Returns me parts protocols total names t known starts
  returns names t known starts h z among = inr (h z among)

  -- a rec begins again at its first state
  begins_again : (name : Name) (to : Standing) (v x u w : Work) (known : List Known) (starts : List Start) →
      u.loops ≡ slice_set x.loops (length v.loops) (length x.cells) → length v.loops < length x.loops → length w.loops ≤ length v.loops →
      Final w u → x.next ≡ hops.State (length x.cells) →
      to ≡ standing_of total x.next →
      start_of name (record { name = name; to = to } ∷ starts) ≡ standing_of total
      (hop_named name (record { name = name; number = length v.loops } ∷ known))
  unfolding Final
  begins_again name to v x u w known starts loops within longer final at e =
      let l : length u.loops ≡ length x.loops = ap length loops ∙ length-set x.loops (length v.loops) (length x.cells) in
      let f : get_or total.loops (length v.loops) 0 ≡ length x.cells =
      final (length v.loops) longer (omega arith) ∙ ap (λ ls. get_or ls (length v.loops) 0) loops ∙ get_or-set_same x.loops (length v.loops)
      (length x.cells) 0 within in
      start_here name to starts ∙ e ∙ ap (standing_of total) at ∙ ap (λ k. standings.State (length total.cells - k)) (sym f) ∙
      ap (standing_of total) (sym (hop_here name (length v.loops) known))

  all_return_in : (names : List Name) (name : Name) (number : ℕ) (to : Standing) (known : List Known) (starts : List Start) →
      AllReturn names known starts →
      start_of name (record { name = name; to = to } ∷ starts) ≡ standing_of total
      (hop_named name (record { name = name; number = number } ∷ known)) →
      AllReturn (name ∷ names) (record { name = name; number = number } ∷ known) (record { name = name; to = to } ∷ starts)
  all_return_in names name number to known starts h b z among =
      ⊎_elim
      (λ e. subst (λ x. start_of x (record { name = name; to = to } ∷ starts) ≡ standing_of total
      (hop_named x (record { name = name; number = number } ∷ known))) (sym ((bytes_eq-Decides z name).0 e)) b)
      (λ e. start_past z (record { name = name; to = to }) starts e ∙ h z (among_rest z name names e among) ∙ ap (standing_of total)
      (sym (hop_past z (record { name = name; number = number }) known e)))
      (true_or_false (bytes_eq z name))

  -- ---- choices

  -- the branches of a choice, laid out
  record Branched (self : Bool) (n number : ℕ) (mark : Option ℕ) (follow : Standing) (starts : List Start) (bs : Branches)
      (g h : Gathered) : Type 0 where
    inside : Fits n (after_in self n bs) (in_states opening me self n follow starts bs) h.work.cells g.work.cells
    offered : Offered opening me self number n follow starts bs (map (edge_of total mark) h.drafts)

  no_branches : (self : Bool) (n number : ℕ) (mark : Option ℕ) (follow : Standing) (starts : List Start) (g : Gathered) → g.drafts ≡ [] →
      Branched self n number mark follow starts NoMore g g
  no_branches self n number mark follow starts g e = record {
    inside = none_fit n _ _ _ _ (after-NoMore self n) (in-NoMore opening me self n follow starts) refl;
    offered = go self;
  }
    where
      go : (self : Bool) → Offered opening me self number n follow starts NoMore (map (edge_of total mark) g.drafts)
      go true = ap (λ ds. methods_of me (map (edge_of total mark) ds)) e
      go false = (ap (λ ds. methods_of me (map (edge_of total mark) ds)) e, ap (λ ds. branches_of (map (edge_of total mark) ds)) e)

  -- a branch that is laid out in front of others
  record Joins (self : Bool) (n number : ℕ) (mark : Option ℕ) (follow : Standing) (starts : List Start) (b : Protocol)
      (g h : Gathered) : Type 0 where
    inside : Fits n (after_one self n b) (one_states opening me self n follow starts b) h.work.cells g.work.cells
    offered : (more : Branches) → Offered opening me self number (after_one self n b) follow starts more (map (edge_of total mark) g.drafts)
        → Offered opening me self number n follow starts (protocol.Branch b more) (map (edge_of total mark) h.drafts)

  one_more : (self : Bool) (n number : ℕ) (mark : Option ℕ) (follow : Standing) (starts : List Start) (b : Protocol) (more : Branches)
      (g h t u : Gathered) →
      t.work.cells ≡ h.work.cells → t.drafts ≡ h.drafts → Branched self (after_one self n b) number mark follow starts more g h →
      Joins self n number mark follow starts b t u →
      Branched self n number mark follow starts (protocol.Branch b more) g u
  one_more self n number mark follow starts b more g h t u cells drafts a j = record {
    inside = subst (λ k. Fits n k (in_states opening me self n follow starts (protocol.Branch b more)) u.work.cells g.work.cells)
        (sym (after-Branch self n b more))
        (subst (λ ss. Fits n (after_in self (after_one self n b) more) ss u.work.cells g.work.cells)
        (sym (in-Branch opening me self n follow starts b more))
        (both_fit n (after_one self n b) (after_in self (after_one self n b) more) _ _ u.work.cells t.work.cells g.work.cells j.inside
        (subst (λ cs. Fits (after_one self n b) (after_in self (after_one self n b) more)
        (in_states opening me self (after_one self n b) follow starts more) cs g.work.cells) (sym cells) a.inside)));
    offered = j.offered more (subst (λ ds. Offered opening me self number (after_one self n b) follow starts more
        (map (edge_of total mark) ds)) (sym drafts) a.offered);
  }

  -- the first message of a branch at self, and that of one elsewhere
  sent : (n : ℕ) (follow : Standing) (starts : List Start) (m : Message) (r : Protocol) (more : Branches) (edge : Edge) (edges : List Edge)
      →
      edge.act ≡ Moves m → first opening n follow starts r ≡ edge.to → methods_of me edges ≡ sends opening (after n r) follow starts more →
      methods_of me (edge ∷ edges) ≡ sends opening n follow starts (protocol.Branch (Does m r) more)
  sent n follow starts m r more edge edges a e h =
      ap (λ x. methods_by me x edge.to (methods_of me edges) (branches_of (edge ∷ edges))) a ∙ (λ i. method_of m (sym e i) ∷ h i)

  looked : (n number : ℕ) (m : Message) (r : Protocol) (more : Branches) (edge : Edge) (edges : List Edge) →
      edge.act ≡ Looks number (peer_of m) (label_of m) → standings.State n ≡ edge.to → branches_of edges ≡ answers (after (suc n) r) more →
      (methods_of me (edge ∷ edges) ≡ asks me number n (protocol.Branch (Does m r) more))
      × (branches_of (edge ∷ edges) ≡ answers n (protocol.Branch (Does m r) more))
  looked n number m r more edge edges a e h =
      let b : branches_of (edge ∷ edges) ≡ answers n (protocol.Branch (Does m r) more) =
      ap (λ x. branch_before x edge.to (branches_of edges)) a ∙ (λ i. record { label = label_of m; to = to_of (sym e i) } ∷ h i) in (
        ap (λ x. methods_by me x edge.to (methods_of me edges) (branches_of (edge ∷ edges))) a ∙
            ap (λ bs. label_method me number (peer_of m) bs ∷ []) b,
        b,
      )

  -- the first messages of a choice are seen as its steps
  act_is : (self : Bool) (n a b c g : ℕ) → n + ((if self then 0 else 1) + a + b) + c ≡ suc total.choices → g ≡ (c + b) + a → (q : Said) →
      act_of total (number_of self g) q ≡ seen self n (message_of q)
  act_is true n a b c g e f q = refl
  act_is false n a b c g e f q =
      let k : total.choices - g ≡ n = omega arith in
      λ i. Looks (k i) (sym (peer_is q) i) (sym (label_is q) i)

  choice_numbers : (self : Bool) (n m a b c t : ℕ) → m ≡ (if self then n else suc n) → n + ((if self then 0 else 1) + a + b) + c ≡ suc t →
      m + a + (c + b) ≡ suc t
  choice_numbers true n m a b c t e f = omega arith
  choice_numbers false n m a b c t e f = omega arith

  -- the number behind a choice is that behind what stands after it
  choice_after : (self : Bool) (n c k : ℕ) (bs : tree.Branches) (rest : Statements) →
      after n (if self then ChoiceHere (numbered_in me c bs) (numbered me (c + choices_in me bs) rest) else ChoiceThere c
      (numbered_in me (suc c) bs) (numbered me (suc c + choices_in me bs) rest)) ≡ k →
      (d : ℕ) → d ≡ (if self then c else suc c) → after (after_in self (suc n) (numbered_in me d bs))
      (numbered me (d + choices_in me bs) rest) ≡ k
  choice_after true n c k bs rest e d f =
      ap (λ j. after (after_in true (suc n) (numbered_in me j bs)) (numbered me (j + choices_in me bs) rest)) f ∙ e
  choice_after false n c k bs rest e d f =
      ap (λ j. after (after_in false (suc n) (numbered_in me j bs)) (numbered me (j + choices_in me bs) rest)) f ∙ e

  choice_fit : (self : Bool) (n c : ℕ) (follow : Standing) (starts : List Start) (bs : tree.Branches) (rest : Statements) (v w : Work)
      (g : Gathered) →
      ((d : ℕ) → d ≡ (if self then c else suc c) →
      Branched self (suc n) c (number_of self g.work.choices) (first opening (after_in self (suc n) (numbered_in me d bs)) follow starts
      (numbered me (d + choices_in me bs) rest)) starts (numbered_in me d bs) (gathering v) g) →
      ((d : ℕ) → d ≡ (if self then c else suc c) →
      Fits (after_in self (suc n) (numbered_in me d bs)) (after (after_in self (suc n) (numbered_in me d bs))
      (numbered me (d + choices_in me bs) rest))
      (states opening me (after_in self (suc n) (numbered_in me d bs)) follow starts (numbered me (d + choices_in me bs) rest)) v.cells
      w.cells) →
      Fits n (after n (if self then ChoiceHere (numbered_in me c bs) (numbered me (c + choices_in me bs) rest) else ChoiceThere c
      (numbered_in me (suc c) bs) (numbered me (suc c + choices_in me bs) rest)))
      (states opening me n follow starts (if self then ChoiceHere (numbered_in me c bs) (numbered me (c + choices_in me bs) rest) else
      ChoiceThere c (numbered_in me (suc c) bs) (numbered me (suc c + choices_in me bs) rest)))
      (chosen self g).cells w.cells
  choice_fit true n c follow starts bs rest v w g inside behind =
      let r : Protocol = numbered me (c + choices_in me bs) rest in
      let k : ℕ = after_in true (suc n) (numbered_in me c bs) in
      let next : Standing = first opening k follow starts r in
      let i = inside c refl in
      subst (λ cs. Fits n (after n (ChoiceHere (numbered_in me c bs) r))
      (states opening me n follow starts (ChoiceHere (numbered_in me c bs) r)) cs w.cells) (sym (Parts.chosen_cells true g))
      (one_fit n (after k r) (sends opening (suc n) next starts (numbered_in me c bs)) _
      (states_here opening me (suc n) next starts (numbered_in me c bs) ++ states opening me k follow starts r) g.work.cells w.cells
      i.offered
      (both_fit (suc n) k (after k r) (states_here opening me (suc n) next starts (numbered_in me c bs))
      (states opening me k follow starts r) g.work.cells v.cells w.cells i.inside (behind c refl)))
  choice_fit false n c follow starts bs rest v w g inside behind =
      let r : Protocol = numbered me (suc c + choices_in me bs) rest in
      let k : ℕ = after_in false (suc n) (numbered_in me (suc c) bs) in
      let next : Standing = first opening k follow starts r in
      let i = inside (suc c) refl in
      subst (λ cs. Fits n (after n (ChoiceThere c (numbered_in me (suc c) bs) r))
      (states opening me n follow starts (ChoiceThere c (numbered_in me (suc c) bs) r)) cs w.cells) (sym (Parts.chosen_cells false g))
      (one_fit n (after k r) (asks me c (suc n) (numbered_in me (suc c) bs)) _
      (states_there opening me (suc n) next starts (numbered_in me (suc c) bs) ++ states opening me k follow starts r) g.work.cells
      w.cells i.offered.0
      (both_fit (suc n) k (after k r) (states_there opening me (suc n) next starts (numbered_in me (suc c) bs))
      (states opening me k follow starts r) g.work.cells v.cells w.cells i.inside (behind (suc c) refl)))

  -- a body with its outcome
  body_fit : (t : Statements) (n c : ℕ) (follow : Standing) (starts : List Start) (o x : Work) → Begins me parts t o x →
      (x.next ≡ hops.State (length x.cells) → Fits n (after n (numbered me c t)) (states opening me n follow starts (numbered me c t))
      x.cells o.cells) →
      Fits n (after n (numbered me c t)) (states opening me n follow starts (numbered me c t)) x.cells o.cells
  body_fit t n c follow starts o x (at_first e) f = f e
  body_fit t n c follow starts o x (through none d e) f = none_fit n _ _ _ _ (none_after me parts t n c none)
      (none_numbered me parts opening t n c follow starts none) d
  body_fit t n c follow starts o x (back none d e) f = none_fit n _ _ _ _ (none_after me parts t n c none)
      (none_numbered me parts opening t n c follow starts none) d

  mutual
    fits : (t : Statements) (names : List Name) → Sound protocols names t → (known : List Known) (w : Work) (n c : ℕ) (follow : Standing)
        (starts : List Start) →
        after n (numbered me c t) + length w.cells ≡ length total.cells → Final w (lay me parts known w t) → c + choices me t + w.choices
        ≡ suc total.choices →
        follow ≡ standing_of total w.next → AllReturn names known starts →
        Fits n (after n (numbered me c t)) (states opening me n follow starts (numbered me c t)) (lay me parts known w t).cells w.cells
    fits Nothing names h known w n c follow starts nums final chs comes rets = none_fit n n [] w.cells w.cells refl refl refl
    fits (Says m rest) names h known w n c follow starts nums final chs comes rets =
        let v = lay me parts known w rest in
        let r : Protocol = numbered me c rest in
        said_fit n (after (suc n) r) m (first opening (suc n) follow starts r) v (states opening me (suc n) follow starts r) w.cells
        (begins_at me parts protocols total opening enters rest names h known w (suc n) c follow starts nums (λ e. comes)
        (returns names rest known starts rets))
        (fits rest names h known w (suc n) c follow starts nums (final_last w w (said m v) v (keeps_all w.loops)
        (Parts.said_loops m v) final) chs comes rets)
    fits (Choice place at bs rest) names h known w n c follow starts nums final chs comes rets =
        let self : Bool = bytes_eq at me in
        let v = lay me parts known w rest in
        let g = lay_in me parts known self v.next (gathering v) bs in
        let behind_v : Keeps w.loops v.loops = keeps me parts known w rest in
        let inside_v : Keeps v.loops (chosen self g).loops = keeps_more _ _ _ (keeps_in me parts known self v.next (gathering v) bs)
        (keeps_chosen self g) in
        let v_numbers = numbers me parts protocols rest names h.1 known w in
        let g_numbers = numbers_in me parts protocols bs names h.0 known self v.next (gathering v) in
        choice_fit self n c follow starts bs rest v w g
        (λ d e.
        let qs : Branches = numbered_in me d bs in
        let r : Protocol = numbered me (d + choices_in me bs) rest in
        let k : ℕ = after_in self (suc n) qs in
        let q = choice_numbers self c d (choices_in me bs) (choices me rest) w.choices total.choices e chs in
        let a = choice_after self n c _ bs rest refl d e in
        let l = laid_count me parts rest known w k (d + choices_in me bs) in
        let behind : after k r + length w.cells ≡ length total.cells = omega arith in
        fits_in bs names h.0 known self v.next (gathering v) (suc n) d c (number_of self g.work.choices) (first opening k follow starts r)
        starts (omega arith)
        (final_last w v (chosen self g) g.work behind_v (Parts.chosen_loops self g) final) (omega arith)
        (begins_at me parts protocols total opening enters rest names h.1 known w k (d + choices_in me bs) follow starts behind (λ f. comes)
        (returns names rest known starts rets)) rets
        (act_is self c (choices_in me bs) (choices me rest) w.choices g.work.choices chs
        (g_numbers ∙ ap (λ j. j + choices_in me bs) v_numbers)) refl)
        (λ d e.
        let qs : Branches = numbered_in me d bs in
        let r : Protocol = numbered me (d + choices_in me bs) rest in
        let k : ℕ = after_in self (suc n) qs in
        let q = choice_numbers self c d (choices_in me bs) (choices me rest) w.choices total.choices e chs in
        let a = choice_after self n c _ bs rest refl d e in
        fits rest names h.1 known w k (d + choices_in me bs) follow starts (omega arith)
        (final_first w v (chosen self g) behind_v inside_v final) (omega arith) comes rets)
    fits (Rec place name body rest) names h known w n c follow starts nums final chs comes rets =
        let v = lay me parts known w rest in
        let inside : List Known = record { name = name; number = length v.loops } ∷ known in
        let o = opened v in
        let x = lay me parts inside o body in
        let u = closed (length v.loops) x in
        let p : Protocol = numbered me c body in
        let r : Protocol = numbered me (c + choices me body) rest in
        let k : ℕ = after n p in
        let next : Standing = first opening k follow starts r in
        let to : Standing = first opening n next starts p in
        let within : List Start = record { name = name; to = to } ∷ starts in
        let behind_v : Keeps w.loops v.loops = keeps me parts known w rest in
        let v_numbers = numbers me parts protocols rest names h.3 known w in
        let o_numbers = Parts.opened_choices v in
        let l = laid_count me parts rest known w k (c + choices me body) in
        let o_cells : length o.cells ≡ length v.cells = ap length (Parts.opened_cells v) in
        let count : k + length o.cells ≡ length total.cells = omega arith in
        let next_comes : next ≡ standing_of total o.next =
        begins_at me parts protocols total opening enters rest names h.3 known w k (c + choices me body) follow starts nums (λ e. comes)
        (returns names rest known starts rets) ∙ ap (standing_of total) (sym (Parts.opened_next v)) in
        let to_comes : to ≡ standing_of total x.next =
        begins_at me parts protocols total opening enters body (name ∷ names) h.1 inside o n c next starts count (λ e. next_comes)
        (returns_in me parts protocols total names place name body rest known (length v.loops) starts h.0
        (returns names (Rec place name body rest) known starts rets)) in
        subst (λ cs. Fits n (after k r) (states opening me n next within p ++ states opening me k follow starts r) cs w.cells)
        (sym (Parts.closed_cells (length v.loops) x))
        (both_fit n k (after k r) (states opening me n next within p) (states opening me k follow starts r) x.cells o.cells w.cells
        (body_fit body n c next within o x (begins me parts protocols body (name ∷ names) h.1 inside o)
        (λ at. fits body (name ∷ names) h.1 inside o n c next within count
        (final_body v o x u w (Parts.opened_loops v) (Parts.closed_loops (length v.loops) x) behind_v.longer final) (omega arith) next_comes
        (all_return_in names name (length v.loops) to known starts rets
        (begins_again name to v x u w known starts (Parts.closed_loops (length v.loops) x) (number_within me parts inside v body)
        behind_v.longer final at to_comes))))
        (subst (λ cs. Fits k (after k r) (states opening me k follow starts r) cs w.cells) (sym (Parts.opened_cells v))
        (fits rest names h.3 known w k (c + choices me body) follow starts nums
        (final_first w v u behind_v (keeps_rec v x (keeps me parts inside o body)) final) (omega arith) comes rets)))
    fits (Continue place name rest) names h known w n c follow starts nums final chs comes rets =
        none_fit n _ _ _ _ (ap (λ (t : Statements). after n (numbered me c t)) h.1)
        (ap (λ (t : Statements). states opening me n follow starts (numbered me c t)) h.1)
        (ap (λ (t : Statements). (lay me parts known w t).cells) h.1)
    fits (Do place name rest) names h known w n c follow starts nums final chs comes rets =
        none_fit n _ _ _ _ (ap (λ (t : Statements). after n (numbered me c t)) h.1)
        (ap (λ (t : Statements). states opening me n follow starts (numbered me c t)) h.1)
        (ap (λ (t : Statements). (lay me parts known w t).cells) h.1)

    fits_in : (bs : tree.Branches) (names : List Name) → SoundIn protocols names bs → (known : List Known) (self : Bool) (behind : Hop)
        (g : Gathered) (n d number : ℕ) (mark : Option ℕ) (follow : Standing) (starts : List Start) →
        after_in self n (numbered_in me d bs) + length g.work.cells ≡ length total.cells →
        Final g.work (lay_in me parts known self behind g bs).work → d + choices_in me bs + g.work.choices ≡ suc total.choices →
        follow ≡ standing_of total behind → AllReturn names known starts →
        ((q : Said) → act_of total mark q ≡ seen self number (message_of q)) → g.drafts ≡ [] →
        Branched self n number mark follow starts (numbered_in me d bs) g (lay_in me parts known self behind g bs)
    fits_in NoBranch names h known self behind g n d number mark follow starts nums final chs comes rets acts none =
        no_branches self n number mark follow starts g none
    fits_in (Branch b more) names h known self behind g n d number mark follow starts nums final chs comes rets acts none =
        let before = lay_in me parts known self behind g more in
        let p : Protocol = numbered me d b in
        let k : ℕ = after_one self n p in
        let qs : Branches = numbered_in me (d + choices me b) more in
        let b_numbers = numbers_in me parts protocols more names h.1 known self behind g in
        let a = after-Branch self n p qs in
        let l = gathered_count me parts more known self behind g k (d + choices me b) in
        one_more self n number mark follow starts p qs g before (turned behind before)
        (branch_laid me parts self known b (turned behind before)) refl refl
        (fits_in more names h.1 known self behind g k (d + choices me b) number mark follow starts (omega arith)
        (final_first g.work before.work (branch_laid me parts self known b (turned behind before)).work
        (keeps_in me parts known self behind g more) (keeps_branch me parts known self b (turned behind before)) final)
        (omega arith) comes rets acts none)
        (fits_first b names h.0 known self (turned behind before) n d number mark follow starts (omega arith)
        (final_last g.work (turned behind before).work (branch_laid me parts self known b (turned behind before)).work
        (branch_laid me parts self known b (turned behind before)).work (keeps_in me parts known self behind g more) refl final)
        (omega arith) comes rets acts)

    fits_first : (b : Statements) (names : List Name) → SoundFirst protocols names b → (known : List Known) (self : Bool) (g : Gathered)
        (n d number : ℕ) (mark : Option ℕ) (follow : Standing) (starts : List Start) →
        after_one self n (numbered me d b) + length g.work.cells ≡ length total.cells →
        Final g.work (branch_laid me parts self known b g).work → d + choices me b + g.work.choices ≡ suc total.choices →
        follow ≡ standing_of total g.work.next → AllReturn names known starts →
        ((q : Said) → act_of total mark q ≡ seen self number (message_of q)) →
        Joins self n number mark follow starts (numbered me d b) g (branch_laid me parts self known b g)
    fits_first Nothing names h known self g n d number mark follow starts nums final chs comes rets acts = absurd h
    fits_first (Choice place at bs rest) names h known self g n d number mark follow starts nums final chs comes rets acts = absurd h
    fits_first (Rec place name body rest) names h known self g n d number mark follow starts nums final chs comes rets acts = absurd h
    fits_first (Continue place name rest) names h known self g n d number mark follow starts nums final chs comes rets acts = absurd h
    fits_first (Do place name rest) names h known self g n d number mark follow starts nums final chs comes rets acts = absurd h
    fits_first (Says q rest) names h known true g n d number mark follow starts nums final chs comes rets acts =
        let x = lay me parts known g.work rest in
        let r : Protocol = numbered me d rest in
        let all : Gathered = record { work = x; drafts = g.drafts } in
        subst (λ u. Joins true n number mark follow starts (Does (message_of q) r) g u) (sym (Parts.joined_here q all))
        (record {
          inside = fits rest names h known g.work n d follow starts nums
              (final_last g.work g.work (joined true q all).work x (keeps_all g.work.loops)
              (ap (λ (j : Gathered). j.work.loops) (Parts.joined_here q all)) final) chs comes rets;
          offered = λ more a. sent n follow starts (message_of q) r more (edge_of total mark (record { message = q; to = x.next }))
              (map (edge_of total mark) g.drafts) (acts q)
              (begins_at me parts protocols total opening enters rest names h known g.work n d follow starts nums (λ e. comes)
              (returns names rest known starts rets)) a;
        })
    fits_first (Says q rest) names h known false g n d number mark follow starts nums final chs comes rets acts =
        let x = lay me parts known g.work rest in
        let r : Protocol = numbered me d rest in
        let all : Gathered = record { work = x; drafts = g.drafts } in
        let l = laid_count me parts rest known g.work (suc n) d in
        let k : n ≡ length total.cells - suc (length x.cells) = omega arith in
        subst (λ u. Joins false n number mark follow starts (Does (message_of q) r) g u) (sym (Parts.joined_there q all))
        (record {
          inside = said_fit n (after (suc n) r) q (first opening (suc n) follow starts r) x (states opening me (suc n) follow starts r)
              g.work.cells
              (begins_at me parts protocols total opening enters rest names h known g.work (suc n) d follow starts nums (λ e. comes)
              (returns names rest known starts rets))
              (fits rest names h known g.work (suc n) d follow starts nums
              (final_last g.work g.work (joined false q all).work x (keeps_all g.work.loops)
              (ap (λ (j : Gathered). j.work.loops) (Parts.joined_there q all) ∙ Parts.said_loops q x) final) chs comes rets);
          offered = λ more a. looked n number (message_of q) r more
              (edge_of total mark (record { message = q; to = hops.State (suc (length x.cells)) })) (map (edge_of total mark) g.drafts)
              (acts q) (ap standings.State k) a.1;
        })

  -- ---- parts, one after another

  parts_fit : (ts : List Titled) → AllSound protocols ts → (n c : ℕ) → n + length (parts_laid me parts ts nothing).cells
      ≡ length total.cells →
      ((j : ℕ) → j < length (parts_laid me parts ts nothing).loops → get_or total.loops j 0 ≡ get_or (parts_laid me parts ts nothing).loops
      j 0) →
      c + (parts_laid me parts ts nothing).choices ≡ suc total.choices →
      Fits n (after_parts n (numbered_parts me c ts)) (part_states opening me n (numbered_parts me c ts))
      (parts_laid me parts ts nothing).cells []
  unfolding Final
  parts_fit [] h n c nums same chs = none_fit n n [] [] [] refl refl refl
  parts_fit (t ∷ ts) h n c nums same chs =
      let v : Work = parts_laid me parts ts nothing in
      let o : Work = record v { next = hops.End } in
      let x : Work = lay me parts [] o t.body in
      let p : Protocol = numbered me c t.body in
      let k : ℕ = after n p in
      let l = laid_count me parts t.body [] o n c in
      let d = numbers me parts protocols t.body [] h.0 [] o in
      let keep : Keeps v.loops x.loops = keeps me parts [] o t.body in
      both_fit n k (after_parts k (numbered_parts me (c + choices me t.body) ts)) (states opening me n standings.End [] p)
      (part_states opening me k (numbered_parts me (c + choices me t.body) ts)) x.cells v.cells []
      (fits t.body [] h.0 [] o n c standings.End [] (omega arith) (λ j low within. same j within) (omega arith) refl (λ z among. cc among))
      (parts_fit ts h.1 k (c + choices me t.body) (omega arith)
      (λ j within. let m = keep.longer in same j (omega (arith, within, m)) ∙ keep.same j within) (omega arith))

-- the states of what is laid out of a valid local protocol
pub numbered_states : (local : LocalTree) → ∥ IsValid local ∥₁ → (w : Work) → LaidOut local w →
    states_from local.me 0 (graph_of_work w).states ≡ part_states (entry (placed 0 (protocol_of local))) local.me 0 (protocol_of local)
numbered_states local v w laid =
    let u : Work = laid_parts local in
    let cells : w.cells ≡ u.cells = ap (λ (x : Work). x.cells) laid.parts in
    let loops : w.loops ≡ u.loops = ap (λ (x : Work). x.loops) laid.parts in
    let count : w.choices ≡ u.choices = ap (λ (x : Work). x.choices) laid.parts in
    let many : length w.cells ≡ length u.cells = ap length cells in
    let f = parts_fit local.me (number_in local) (names_in local) w (entry (placed 0 (protocol_of local))) (enters local v w laid)
    (titled local) (valid_sound local v) 0 1 (omega arith) (λ j h. ap (λ ls. get_or ls j 0) loops) (omega arith) in
    ap (λ cs. states_from local.me 0 (map (edges_of w) cs)) (cells ∙ f.stands ∙ append-nil f.front) ∙ f.are
