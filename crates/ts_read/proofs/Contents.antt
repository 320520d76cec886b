-- Entries of a state: what is found at methods is found among the methods, and what stands twice is the culprit.
use Rattle.std.proofs.Common.{◌≡◌, List, [], ◌∷◌, ◌++◌, map, Option, Some, None, Bool, true, false, cond, inl, inr, codes, refl, sym, ap}
use Rattle.std.proofs.Common.{◌∙◌, subst, arith}
use Rattle.std.specs.List.{Contains, flat_map}
use Rattle.std.specs.Option.{option_or}
use Rattle.std.proofs.lemmas.List.Elements.{Contains-append_left, Contains-push, Contains-push_cases}
use Rattle.mg_text.specs.Call.{Name}
use Rattle.mg_text.specs.declared.place.Place.{Place}
use Rattle.mg_read.specs.Culprit.{Culprit, culprit}
use Rattle.mg_read.specs.First.{Judged, clean, here, later, behind, with_earlier}
use Rattle.ts_tree.specs.Typestate.{Method, State}
use Rattle.ts_parse.specs.declared.written.WrittenMethod.{WrittenMethod}
use Rattle.ts_parse.specs.declared.written.WrittenEntry.{WrittenEntry}
use Rattle.ts_parse.specs.declared.written.WrittenEntry.TheVariants as entries
use Rattle.ts_parse.specs.declared.written.WrittenState.{WrittenState}
use Rattle.ts_parse.specs.Written.{WMethod, WEntry, offer, drop_end, methods_in, wmethod_of, wentry_of}
use Rattle.ts_read.specs.Conditions.{blamed, IsTwice}
use Rattle.ts_read.specs.Meaning.{method_meant}
use Rattle.ts_read.specs.inner.Finding.{is_in, repeat_in, first_some, at_method, method_name, twice_in}
use Rattle.ts_read.specs.inner.Building.{entry_made}
use Rattle.ts_read.proofs.Judges.{in_contained, contained_in, true_false}

-- the methods among the entries that the program keeps
abbrev pub kept_in : List WrittenEntry → List WrittenMethod
kept_in [] = []
kept_in (entries.Method m ∷ es) = m ∷ kept_in es
kept_in (entries.DropEnd place ∷ es) = kept_in es

pub kept_are : (es : List WrittenEntry) → methods_in (map wentry_of es) ≡ map wmethod_of (kept_in es)
kept_are [] = refl
kept_are (entries.Method m ∷ es) = ap (λ (ms : List WMethod). wmethod_of m ∷ ms) (kept_are es)
kept_are (entries.DropEnd place ∷ es) = kept_are es

pub some_in : (f : WrittenMethod → Option Culprit) (es : List WrittenEntry) → first_some (map (at_method f) es) ≡ first_some
    (map f (kept_in es))
some_in f [] = refl
some_in f (entries.Method m ∷ es) = ap (option_or (f m)) (some_in f es)
some_in f (entries.DropEnd place ∷ es) = some_in f es

pub made_in : (names : List Name) (es : List WrittenEntry) → flat_map (entry_made names) es ≡ map (λ m. method_meant names (wmethod_of m))
    (kept_in es)
made_in names [] = refl
made_in names (entries.Method m ∷ es) = ap (λ (ms : List Method). method_meant names (wmethod_of m) ∷ ms) (made_in names es)
made_in names (entries.DropEnd place ∷ es) = made_in names es

-- where no entry stands twice no method does
or_there : (b : Bool) (x : Culprit) (o r : Option Culprit) → (o ≡ None → r ≡ None) → cond b (Some x) o ≡ None → cond b (Some x) r ≡ None
or_there true x o r h e = absurd cc
or_there false x o r h e = h e

pub once_in : (dropped : Bool) (seen : List Name) (es : List WrittenEntry) → twice_in dropped seen es ≡ None →
    repeat_in seen (map method_name (kept_in es)) ≡ None
once_in dropped seen [] e = refl
once_in dropped seen (entries.Method m ∷ es) e =
    or_there (is_in seen m.name.text) (blamed m.name) (twice_in dropped (seen ++ m.name.text ∷ []) es)
    (repeat_in (seen ++ m.name.text ∷ []) (map method_name (kept_in es))) (once_in dropped (seen ++ m.name.text ∷ []) es) e
once_in true seen (entries.DropEnd place ∷ es) e = absurd cc
once_in false seen (entries.DropEnd place ∷ es) e = once_in true seen es e

-- ---- what stands twice

-- these were seen: `drop: end` or not, and methods of these names
record Knows (earlier : List WEntry) (dropped : Bool) (seen : List Name) : Type 0 where
  met : (m : WMethod) → Contains earlier (offer m) → Contains seen m.name.text
  from : (t : Name) → Contains seen t → (m : WMethod) × Contains earlier (offer m) × (m.name.text ≡ t)
  left : (p : Place) → Contains earlier (drop_end p) → dropped ≡ true
  marked : dropped ≡ true → (p : Place) × Contains earlier (drop_end p)

nothing : Knows [] false []
nothing = record {
  met = λ m h. absurd (omega (arith, h.1));
  from = λ t h. absurd (omega (arith, h.1));
  left = λ p h. absurd (omega (arith, h.1));
  marked = λ h. absurd cc;
}

same_offer : (m n : WMethod) → offer m ≡ offer n → m.name.text ≡ n.name.text
same_offer m n e = let same : m ≡ n = cc in ap (λ (k : WMethod). k.name.text) same

apart : {X : Type 0} (m : WMethod) (p : Place) → offer m ≡ drop_end p → X
apart m p e = absurd cc

with_offer : (earlier : List WEntry) (dropped : Bool) (seen : List Name) (m : WMethod) → Knows earlier dropped seen
    → Knows (earlier ++ offer m ∷ []) dropped (seen ++ m.name.text ∷ [])
with_offer earlier dropped seen m k = record {
  met = λ n h. elim (Contains-push_cases earlier (offer m) (offer n) h) [
    | inl old ↦ Contains-append_left seen (m.name.text ∷ []) n.name.text (k.met n old)
    | inr e ↦ subst (Contains (seen ++ m.name.text ∷ [])) (same_offer m n e) (Contains-push seen m.name.text)
  ];
  from = λ t h. elim (Contains-push_cases seen m.name.text t h) [
    | inl old ↦ let x = k.from t old in (x.0, Contains-append_left earlier (offer m ∷ []) (offer x.0) x.1, x.2)
    | inr e ↦ (m, Contains-push earlier (offer m), e)
  ];
  left = λ p h. elim (Contains-push_cases earlier (offer m) (drop_end p) h) [ inl old ↦ k.left p old | inr e ↦ apart m p e ];
  marked = λ h. let x = k.marked h in (x.0, Contains-append_left earlier (offer m ∷ []) (drop_end x.0) x.1);
}

with_drop : (earlier : List WEntry) (dropped : Bool) (seen : List Name) (p : Place) → Knows earlier dropped seen
    → Knows (earlier ++ drop_end p ∷ []) true seen
with_drop earlier dropped seen p k = record {
  met = λ n h. elim (Contains-push_cases earlier (drop_end p) (offer n) h) [ inl old ↦ k.met n old | inr e ↦ apart n p (sym e) ];
  from = λ t h. let x = k.from t h in (x.0, Contains-append_left earlier (drop_end p ∷ []) (offer x.0) x.1, x.2);
  left = λ q h. refl;
  marked = λ h. (p, Contains-push earlier (drop_end p));
}

not_yet : (earlier : List WEntry) (dropped : Bool) (seen : List Name) (m : WMethod) (c : Culprit) → Knows earlier dropped seen →
    is_in seen m.name.text ≡ false
    → IsTwice (earlier, offer m) c → ⊥
not_yet earlier dropped seen m c k e (is, offer n, among, same) =
    true_false (contained_in seen m.name.text (subst (Contains seen) same (k.met n among))) e
not_yet earlier dropped seen m c k e (is, drop_end p, among, same) = same

not_left : (earlier : List WEntry) (seen : List Name) (p : Place) (c : Culprit) → Knows earlier false seen → IsTwice (earlier, drop_end p) c
    → ⊥
not_left earlier seen p c k (is, offer n, among, same) = same
not_left earlier seen p c k (is, drop_end q, among, same) = let no : false ≡ true = k.left q among in cc

twice_judged : (earlier : List WEntry) (dropped : Bool) (seen : List Name) (es : List WrittenEntry) → Knows earlier dropped seen
    → Judged IsTwice (behind earlier (map wentry_of es)) (twice_in dropped seen es)
twice_judged earlier dropped seen [] k = clean
twice_judged earlier dropped seen (entries.Method m ∷ es) k =
    go (is_in seen m.name.text) refl (twice_judged (earlier ++ offer (wmethod_of m) ∷ []) dropped (seen ++ m.name.text ∷ []) es
    (with_offer earlier dropped seen (wmethod_of m) k))
  where
    go : (b : Bool) → is_in seen m.name.text ≡ b
        → Judged IsTwice (behind (earlier ++ offer (wmethod_of m) ∷ []) (map wentry_of es)) (twice_in dropped (seen ++ m.name.text ∷ []) es)
        → Judged IsTwice ((earlier, offer (wmethod_of m)) ∷ behind (earlier ++ offer (wmethod_of m) ∷ []) (map wentry_of es))
        (cond b (Some (blamed m.name)) (twice_in dropped (seen ++ m.name.text ∷ []) es))
    go true e more = let x = k.from m.name.text (in_contained seen m.name.text e) in here (refl, offer x.0, x.1, x.2)
    go false e more = later (λ c h. not_yet earlier dropped seen (wmethod_of m) c k e h) more
twice_judged earlier true seen (entries.DropEnd place ∷ es) k = let x = k.marked refl in here (refl, drop_end x.0, x.1, tt)
twice_judged earlier false seen (entries.DropEnd place ∷ es) k =
    later (λ c h. not_left earlier seen place c k h) (twice_judged (earlier ++ drop_end place ∷ []) true seen es
    (with_drop earlier false seen place k))

pub entries_judged : (s : WrittenState) → Judged IsTwice (with_earlier (map wentry_of s.entries.items)) (twice_in false [] s.entries.items)
entries_judged s = twice_judged [] false [] s.entries.items nothing
