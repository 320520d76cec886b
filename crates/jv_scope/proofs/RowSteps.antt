-- One more in scope, and one less.
use Rattle.std.proofs.Common.{◌≡◌, ℕ, suc, ◌-◌, ◌<◌, List, [], ◌∷◌, ◌++◌, map, reverse, length, drop, Option, Some, None, Bool, true, false}
use Rattle.std.proofs.Common.{not, ◌&&◌, cond, Decides, String, string_bytes, refl, sym, ap, ◌∙◌, true≢false, arith}
use Rattle.std.specs.HashMap.{HashMap, get_by_text, UpdatesBy}
use Rattle.std.specs.Option.{option_map, is_some}
use Rattle.std.specs.Str.{bytes_eq}
use Rattle.std.specs.String.{string_eq}
use Rattle.std.proofs.lemmas.List.{map-append, reverse-append}
use Rattle.std.proofs.lemmas.Map.Text.{hash_map_updates_text}
use Rattle.std.proofs.lemmas.Slice.Eq.{bytes_eq-Decides}
use Rattle.mg_text.specs.Call.{Name}
use Rattle.jv_scope.specs.declared.locals.Declared.{Declared}
use Rattle.jv_scope.specs.Named.{Named, named}
use Rattle.jv_scope.specs.Row.{declared_seen, row_seen}
use Rattle.jv_scope.specs.inner.Kept.{are_apart, AreLookedUp}

pub row_push : {T : Type 0} (stack : List (Declared T)) (d : Declared T) → row_seen (stack ++ d ∷ []) ≡ declared_seen d ∷ row_seen stack
row_push stack d = ap reverse (map-append declared_seen stack (d ∷ [])) ∙ reverse-append (map declared_seen stack) (declared_seen d ∷ [])

module _ {T : Type 0} (ns : List (Named T)) (n : Named T) (get get' : Name → Option T) where
  module _ (h : AreLookedUp get ns) (new : named ns n.name ≡ None)
      (u : (q : Name) → get' q ≡ cond (bytes_eq n.name q) (Some n.it) (get q)) where
    one_more : (b : Bool) (q : Name) → cond b (Some n.it) (get q) ≡ option_map (λ m. m.it) (cond b (Some n) (named ns q))
    one_more true q = refl
    one_more false q = h.each q

    pub looked_up_more : AreLookedUp get' (n ∷ ns)
    looked_up_more = record {
      each = λ q. u q ∙ one_more (bytes_eq n.name q) q;
      apart = ap (λ o. not (is_some o) && are_apart ns) new ∙ h.apart;
    }

  module _ (h : AreLookedUp get (n ∷ ns)) (u : (q : Name) → get' q ≡ cond (bytes_eq n.name q) None (get q)) where
    both_true : (a b : Bool) → (a && b) ≡ true → (a ≡ true) × (b ≡ true)
    both_true true b e = (refl, e)
    both_true false b e = absurd (true≢false (sym e))

    none_of : (o : Option (Named T)) → not (is_some o) ≡ true → o ≡ None
    none_of None e = refl
    none_of (Some x) e = absurd (true≢false (sym e))

    apart_both : (not (is_some (named ns n.name)) ≡ true) × (are_apart ns ≡ true)
    apart_both = both_true (not (is_some (named ns n.name))) (are_apart ns) h.apart

    alone : named ns n.name ≡ None
    alone = none_of (named ns n.name) apart_both.0

    one_less : (b : Bool) (q : Name) → Decides b (n.name ≡ q) → get q ≡ option_map (λ m. m.it) (cond b (Some n) (named ns q)) →
        cond b None (get q) ≡ option_map (λ m. m.it) (named ns q)
    one_less true q dec e = ap (option_map (λ m. m.it)) (sym (sym (ap (named ns) (dec.0 refl)) ∙ alone))
    one_less false q dec e = e

    pub looked_up_less : AreLookedUp get' ns
    looked_up_less = record {
      each = λ q. u q ∙ one_less (bytes_eq n.name q) q (bytes_eq-Decides n.name q) (h.each q);
      apart = apart_both.1;
    }

-- what a table answers after a change
pub changed_at : {A V S : Type 0} (m n : HashMap (String A) V S) (name : Name) (w : Option V) →
    UpdatesBy string_eq (λ k. bytes_eq name (string_bytes k)) m n w →
    (q : Name) → get_by_text n q ≡ cond (bytes_eq name q) w (get_by_text m q)
changed_at m n name w u q = hash_map_updates_text name m n w u q

-- one less, towards a length
pub shorter : {T : Type 0} (l m : List T) (n : ℕ) → n < length l → m ≡ drop 1 l → drop (length m - n) m ≡ drop (length l - n) l
shorter [] m n within e = let no : ⊥ = omega arith in absurd no
shorter (d ∷ l) m n within e =
    ap (λ k. drop (length k - n) k) e ∙ ap (λ k. drop k (d ∷ l)) one
  where
    one : suc (length l - n) ≡ length (d ∷ l) - n
    one = omega arith
