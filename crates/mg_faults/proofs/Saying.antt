-- What is said, demand by demand, with a key for each line.
use Rattle.std.proofs.Common.{◌≡◌, ℕ, ◌+◌, ◌<◌, ◌≤◌, Bool, true, false, cond, not, ◌&&◌, ◌||◌, List, [], ◌∷◌, ◌++◌, length, get_or, drop}
use Rattle.std.proofs.Common.{refl, sym, ap, ◌∙◌, subst}
use Rattle.std.specs.Prelude.{nat_eq, string_bytes}
use Rattle.std.specs.List.{list_any}
use Rattle.std.specs.Str.{bytes_eq}
use Rattle.std.proofs.lemmas.Bool.{false≢true}
use Rattle.std.proofs.lemmas.List.{at_drop_more, at_drop_all, map-append}
use Rattle.jv_core.specs.Tree.{Program}
use Rattle.use_rules.specs.declared.demand.Demand.{Demand}
use Rattle.mg_refusal.specs.Refusals.{Refusal, name_or_none}
use Rattle.mg_accepted.specs.Demands.{demand_word, demand_name, demand_refusal}
use Rattle.mg_faults.specs.declared.said.LineKey.{LineKey}
use Rattle.mg_faults.specs.contracts.said.LineKeyPartialEq.TheImpl as line_key
use Rattle.mg_faults.specs.Demands.{said_of, same_line, with_line, with_lines, once}
use Rattle.mg_faults.specs.inner.Keys.{IsKey, AreKeys, AreSaid, AreSaidSoFar}
use Rattle.mg_faults.proofs.Lines.{unnamed}

abbrev pub key_eq : LineKey → LineKey → Bool
key_eq = (line_key.ghosts).eq

regrouped : (a b c d e : Bool) → (a && (b && (c && (d && e)))) ≡ (a && ((b && (c && d)) && e))
regrouped false b c d e = refl
regrouped true false c d e = refl
regrouped true true false d e = refl
regrouped true true true d e = refl

five : (a b c d e a' b' c' d' e' : Bool) → a ≡ a' → b ≡ b' → c ≡ c' → d ≡ d' → e ≡ e' →
    (a && (b && (c && (d && e)))) ≡ (a' && ((b' && (c' && d')) && e'))
five a b c d e a' b' c' d' e' i j k l m =
    ap (λ x. x && (b && (c && (d && e)))) i
    ∙ ap (λ x. a' && (x && (c && (d && e)))) j
    ∙ ap (λ x. a' && (b' && (x && (d && e)))) k
    ∙ ap (λ x. a' && (b' && (c' && (x && e)))) l
    ∙ ap (λ x. a' && (b' && (c' && (d' && x)))) m
    ∙ regrouped a' b' c' d' e'

two : {A B : Type 0} (f : A → A → B) (a b a' b' : A) → a ≡ a' → b ≡ b' → f a b ≡ f a' b'
two f a b a' b' e h = ap (λ x. f x b) e ∙ ap (f a') h

module _ (p : Program) where
  -- the key of what is said of a demand
  pub key_is : (d : Demand) (r : Refusal) (k : LineKey) → r ≡ demand_refusal p d → k.kind.now ≡ r.kind → k.file ≡ d.place.file →
      k.line ≡ d.place.line → k.column ≡ d.place.column → string_bytes k.name ≡ name_or_none r.name → IsKey p d k
  key_is d r k e kind file line column name = record {
    kind = kind ∙ ap (λ (r : Refusal). r.kind) e;
    file = file;
    line = line;
    column = column;
    name = name ∙ ap (λ (r : Refusal). name_or_none r.name) e ∙ unnamed (demand_name p d);
  }

  key_line : (d e : Demand) (k l : LineKey) → IsKey p d k → IsKey p e l → key_eq k l ≡ same_line p d e
  key_line d e k l a b =
      five (bytes_eq k.kind.now l.kind.now) (nat_eq k.file l.file) (nat_eq k.line l.line) (nat_eq k.column l.column)
      (bytes_eq (string_bytes k.name) (string_bytes l.name))
      (bytes_eq (demand_word d.kind) (demand_word e.kind)) (nat_eq d.place.file e.place.file) (nat_eq d.place.line e.place.line)
      (nat_eq d.place.column e.place.column) (bytes_eq (demand_name p d) (demand_name p e))
      (two bytes_eq _ _ _ _ a.kind b.kind) (two nat_eq _ _ _ _ a.file b.file) (two nat_eq _ _ _ _ a.line b.line)
      (two nat_eq _ _ _ _ a.column b.column) (two bytes_eq _ _ _ _ a.name b.name)

  any_line : (ds : List Demand) (ks : List LineKey) (d : Demand) (k : LineKey) → AreKeys p ds ks → IsKey p d k →
      list_any (key_eq k) ks ≡ list_any (same_line p d) ds
  any_line [] [] d k h a = refl
  any_line [] (l ∷ ks) d k h a = absurd h
  any_line (e ∷ ds) [] d k h a = absurd h
  any_line (e ∷ ds) (l ∷ ks) d k h a =
      ap (λ b. b || list_any (key_eq k) ks) (key_line d e k l a h.0) ∙ ap (λ b. same_line p d e || b) (any_line ds ks d k h.1 a)

  keys_more : (ds : List Demand) (ks : List LineKey) (d : Demand) (k : LineKey) → AreKeys p ds ks → IsKey p d k →
      AreKeys p (ds ++ d ∷ []) (ks ++ k ∷ [])
  keys_more [] [] d k h a = (a, tt)
  keys_more [] (l ∷ ks) d k h a = absurd h
  keys_more (e ∷ ds) [] d k h a = absurd h
  keys_more (e ∷ ds) (l ∷ ks) d k h a = (h.0, keys_more ds ks d k h.1 a)

  module _ (seen : List Demand) (ks ks' : List LineKey) (rs rs' : List Refusal) (d : Demand) (k : LineKey) (new : Bool)
      (was : AreSaid p seen ks rs) (key : IsKey p d k) (is : new ≡ not (list_any (key_eq k) ks))
      (keys : ks' ≡ cond (list_any (key_eq k) ks) ks (ks ++ k ∷ [])) where
    -- its line is new
    pub newly_said : new ≡ true → rs' ≡ rs ++ demand_refusal p d ∷ [] → AreSaid p (with_line p seen d) ks' rs'
    newly_said fresh more = go (list_any (key_eq k) ks) refl
      where
        go : (b : Bool) → list_any (key_eq k) ks ≡ b → AreSaid p (with_line p seen d) ks' rs'
        go true h = absurd (false≢true (sym (is ∙ ap not h) ∙ fresh))
        go false h =
            let grown : with_line p seen d ≡ seen ++ d ∷ [] =
            ap (λ b. cond b seen (seen ++ d ∷ [])) (sym (any_line seen ks d k was.keyed key) ∙ h) in
            record {
              keyed = subst (λ ds. AreKeys p ds ks') (sym grown)
                  (subst (AreKeys p (seen ++ d ∷ [])) (sym (keys ∙ ap (λ b. cond b ks (ks ++ k ∷ [])) h))
                  (keys_more seen ks d k was.keyed key));
              is = more ∙ ap (λ r. r ++ demand_refusal p d ∷ []) was.is ∙ sym (map-append (demand_refusal p) seen (d ∷ []))
                  ∙ ap (said_of p) (sym grown);
            }

    -- its line is said already
    pub said_again : new ≡ false → rs' ≡ rs → AreSaid p (with_line p seen d) ks' rs'
    said_again old same = go (list_any (key_eq k) ks) refl
      where
        go : (b : Bool) → list_any (key_eq k) ks ≡ b → AreSaid p (with_line p seen d) ks' rs'
        go false h = absurd (false≢true (sym old ∙ is ∙ ap not h))
        go true h =
            let grown : with_line p seen d ≡ seen =
            ap (λ b. cond b seen (seen ++ d ∷ [])) (sym (any_line seen ks d k was.keyed key) ∙ h) in
            record {
              keyed = subst (λ ds. AreKeys p ds ks') (sym grown)
                  (subst (AreKeys p seen) (sym (keys ∙ ap (λ b. cond b ks (ks ++ k ∷ [])) h)) was.keyed);
              is = same ∙ was.is ∙ ap (said_of p) (sym grown);
            }

  -- Demand by demand.

  pub nothing_said : (all : List Demand) (ks : List LineKey) (rs : List Refusal) → ks ≡ [] → rs ≡ [] → AreSaidSoFar p all all ks rs
  nothing_said all ks rs e f = record {
    seen = [];
    are = record { keyed = subst (AreKeys p []) (sym e) tt; is = f };
    rest = refl;
  }

  module _ (all : List Demand) (i : ℕ) where
    pub one_said : (d : Demand) (ks ks' : List LineKey) (rs rs' : List Refusal) → i < length all → d ≡ get_or all i d →
        ((seen : List Demand) → AreSaid p seen ks rs → AreSaid p (with_line p seen d) ks' rs') →
        AreSaidSoFar p all (drop i all) ks rs → AreSaidSoFar p all (drop (i + 1) all) ks' rs'
    one_said d ks ks' rs rs' lt at step was = record {
      seen = with_line p was.seen d;
      are = step was.seen was.are;
      rest = ap (λ (x : Demand). with_lines p was.seen (x ∷ drop (i + 1) all)) at
          ∙ sym (at_drop_more (with_lines p was.seen) all i d lt) ∙ was.rest;
    }

    pub all_said : (ks : List LineKey) (rs : List Refusal) → length all ≤ i → AreSaidSoFar p all (drop i all) ks rs →
        rs ≡ said_of p (once p all)
    all_said ks rs le was = was.are.is ∙ ap (said_of p) (sym (at_drop_all (with_lines p was.seen) all i le) ∙ was.rest)
