-- Members that are read one after another, and kept each kind for itself.
use Rattle.std.proofs.Common.{◌≡◌, ℕ, ◌<◌, List, [], ◌∷◌, ◌++◌, length, Bool, true, false, Option, Some, None, refl, sym, ap, ◌∙◌}
use Rattle.std.specs.Prelude.{if◌then◌else◌, codes}
use Rattle.mg_text.specs.declared.place.Place.{Place}
use Rattle.mg_text.specs.Call.{Name}
use Rattle.mg_read.specs.Reader.{◌>>=◌, all_of}
use Rattle.mg_read.proofs.Loop.{Left, Left-init, Left-more, Left-done}
use Rattle.ts_tree.specs.declared.parts.TypeName.{TypeName}
use Rattle.jv_tree.specs.declared.token.Sign.TheVariants as signs
use Rattle.jv_tree.specs.declared.token.Token.{Token}
use Rattle.jv_tree.specs.Source.{Field, Method, Class}
use Rattle.jv_tree.specs.Files.{Member, FieldMember, MethodMember, fields_among, methods_among}
use Rattle.jv_grammar.specs.Base.{sign_at, is_sign, word_at, name_at}
use Rattle.jv_grammar.specs.Stmts.{ended_at, items_at}
use Rattle.jv_grammar.specs.Files.{after_mods, class_words, annotation_at, is_main, params_of_at, method_at, field_at, not_closed}
use Rattle.jv_grammar.specs.Files.{member_at, members_at, class_at}
use Rattle.jv_grammar.proofs.Members.{member_shorter}
use Rattle.jv_parse.specs.declared.halt.Halt.{Halt}
use Rattle.jv_parse.specs.declared.halt.Halt.TheVariants as halts
use Rattle.jv_parse.specs.inner.Gives.{Fails}
use Rattle.jv_parse.specs.inner.Members.{behind_at, method_from, value_at, field_from, sorted, sorted_at, sorted_members, class_read}
use Rattle.jv_parse.proofs.ExprTurns.{Left-fails}
use Rattle.jv_parse.proofs.Walks.{in_front}

fields-append : (xs ys : List Member) → fields_among (xs ++ ys) ≡ fields_among xs ++ fields_among ys
fields-append [] ys = refl
fields-append (FieldMember f ∷ xs) ys = ap (λ (zs : List Field). f ∷ zs) (fields-append xs ys)
fields-append (MethodMember m ∷ xs) ys = fields-append xs ys

methods-append : (xs ys : List Member) → methods_among (xs ++ ys) ≡ methods_among xs ++ methods_among ys
methods-append [] ys = refl
methods-append (FieldMember f ∷ xs) ys = methods-append xs ys
methods-append (MethodMember m ∷ xs) ys = ap (λ (zs : List Method). m ∷ zs) (methods-append xs ys)

-- what is left to read makes up the whole, where each kind is kept for itself
pub record Sorting (fields : List Field) (methods : List Method) (rest : List Token) (total : Option (List Member × List Token)) : Type 0
  where
    pub front : List Member
    pub left : Left not_closed member_at front rest total
    pub fields_are : fields ≡ fields_among front
    pub methods_are : methods ≡ methods_among front

pub sorting_start : (ts : List Token) → Sorting [] [] ts (all_of not_closed member_at ts)
sorting_start ts = record { front = []; left = Left-init not_closed member_at ts; fields_are = refl; methods_are = refl }

pub member_at_shorter : (ts : List Token) (x : Member) (us : List Token) → member_at ts ≡ Some (x, us) → length us < length ts
member_at_shorter ts x us h = member_shorter ts (x, us) h

pub sorting_more : (fields more_fields : List Field) (methods more_methods : List Method) (ts us : List Token) (x : Member)
    (total : Option (List Member × List Token))
    → not_closed ts ≡ true → member_at ts ≡ Some (x, us) → more_fields ≡ fields ++ fields_among (x ∷ []) → more_methods ≡ methods
    ++ methods_among (x ∷ [])
    → Sorting fields methods ts total → Sorting more_fields more_methods us total
sorting_more fields more_fields methods more_methods ts us x total goes h f m s = record {
  front = s.front ++ x ∷ [];
  left = Left-more not_closed member_at s.front ts x us total goes h (member_at_shorter ts x us h) s.left;
  fields_are = f ∙ ap (λ (zs : List Field). zs ++ fields_among (x ∷ [])) s.fields_are ∙ sym (fields-append s.front (x ∷ []));
  methods_are = m ∙ ap (λ (zs : List Method). zs ++ methods_among (x ∷ [])) s.methods_are ∙ sym (methods-append s.front (x ∷ []));
}

pub sorting_fails : (err : Halt) (fields : List Field) (methods : List Method) (ts : List Token) (total : Option (List Member × List Token))
    → not_closed ts ≡ true → Fails err (member_at ts) → Sorting fields methods ts total → Fails err (sorted total)
sorting_fails halts.Memory fields methods ts total goes h s = tt
sorting_fails (halts.Syntax left) fields methods ts total goes h s =
    ap sorted (Left-fails not_closed member_at (halts.Syntax left) s.front ts total goes h s.left)

pub sorting_done : (fields : List Field) (methods : List Method) (ts : List Token) (total : Option (List Member × List Token))
    → not_closed ts ≡ false → Sorting fields methods ts total → sorted total ≡ Some ((fields, methods), ts)
sorting_done fields methods ts total stops s =
    ap sorted (Left-done not_closed member_at s.front ts total stops s.left)
    ∙ ap (λ (fs : List Field). Some ((fs, methods_among s.front), ts)) (sym s.fields_are) ∙
    ap (λ (ms : List Method). Some ((fields, ms), ts)) (sym s.methods_are)

-- ---- a method and a field

either : {B C : Type 0} (b : Bool) (x y : Option C) (u v : Option B) (g : B → Option C) → x ≡ (u >>= g) → y ≡ (v >>= g)
    → (if b then x else y) ≡ ((if b then u else v) >>= g)
either true x y u v g e f = e
either false x y u v g e f = f

pub method_is : (st : Bool) (ty : TypeName) (p : Place) (n : Name) (ts : List Token) → method_at st ty p n ts ≡
    (behind_at (is_main st ty n) ts >>= method_from st ty p n)
unfolding method_at behind_at
method_is st ty p n ts =
    let g = method_from st ty p n in
    in_front (sign_at signs.OpenParen ts) _ _ g (λ a. in_front (params_of_at (is_main st ty n) a.1) _ _ g (λ ps.
    in_front (sign_at signs.CloseParen ps.1) _ _ g (λ c. in_front (sign_at signs.OpenBrace c.1) _ _ g (λ s.
    in_front (items_at 200 s.1) _ _ g (λ b. in_front (sign_at signs.CloseBrace b.1) _ _ g (λ e. refl))))))

pub field_is : (ty : TypeName) (p : Place) (n : Name) (ts : List Token) → field_at ty p n ts ≡ (value_at ts >>= field_from ty p n)
unfolding field_at value_at
field_is ty p n ts =
    let g = field_from ty p n in
    either (is_sign signs.Assign ts) _ _ _ _ g
    (in_front (sign_at signs.Assign ts) _ _ g (λ a. in_front (ended_at 200 a.1) _ _ g (λ e. refl)))
    (in_front (sign_at signs.Semicolon ts) _ _ g (λ a. refl))

-- ---- a class

-- what stands behind the members that were read
abbrev Rest : Type 0
Rest = Option ((List Field × List Method) × List Token)

closed_alike : (ms : List Member) (r : Option (Place × List Token))
    → (r >>= λ c. Some ((fields_among ms, methods_among ms), c.1)) ≡ sorted (r >>= λ c. Some (ms, c.1))
closed_alike ms None = refl
closed_alike ms (Some c) = refl

read_alike : (r : Option (List Member × List Token))
    → (sorted r >>= λ ms. sign_at signs.CloseBrace ms.1 >>= λ c. Some (ms.0, c.1)) ≡ sorted (r >>= λ ms. sign_at signs.CloseBrace ms.1
    >>= λ c. Some (ms.0, c.1))
read_alike None = refl
read_alike (Some ms) = closed_alike ms.0 (sign_at signs.CloseBrace ms.1)

opened_alike : (r : Option (Place × List Token))
    → (r >>= λ a. sorted_at a.1 >>= λ ms. sign_at signs.CloseBrace ms.1 >>= λ c. Some (ms.0, c.1))
    ≡ sorted (r >>= λ a. all_of not_closed member_at a.1 >>= λ ms. sign_at signs.CloseBrace ms.1 >>= λ c. Some (ms.0, c.1))
opened_alike None = refl
opened_alike (Some a) = read_alike (all_of not_closed member_at a.1)

members_alike : (ts : List Token) → sorted_members ts ≡ sorted (members_at ts)
unfolding members_at
members_alike ts = opened_alike (sign_at signs.OpenBrace ts)

-- a class of these parts, in front of what stands behind it
abbrev made : Option (List ℕ) → Place × Name → (List Field × List Method) × List Token → Option (Class × List Token)
made t n m = Some (record { place = n.0; name = n.1; typestate = t; fields = m.0.0; methods = m.0.1 }, m.1)

made_alike : (t : Option (List ℕ)) (n : Place × Name) (r : Option (List Member × List Token))
    → (r >>= λ ms. made t n ((fields_among ms.0, methods_among ms.0), ms.1)) ≡ (sorted r >>= made t n)
made_alike t n None = refl
made_alike t n (Some ms) = refl

named_alike : (t : Option (List ℕ)) (r : Option ((Place × Name) × List Token))
    → (r >>= λ n. members_at n.1 >>= λ ms. made t n.0 ((fields_among ms.0, methods_among ms.0), ms.1)) ≡
    (r >>= λ n. sorted_members n.1 >>= made t n.0)
named_alike t None = refl
named_alike t (Some n) = made_alike t n.0 (members_at n.1) ∙ ap (λ (r : Rest). r >>= made t n.0) (sym (members_alike n.1))

begun_alike : (t : Option (List ℕ)) (r : Option (Place × List Token))
    → (r >>= λ s. name_at s.1 >>= λ n. members_at n.1 >>= λ ms. made t n.0 ((fields_among ms.0, methods_among ms.0), ms.1))
    ≡ (r >>= λ s. name_at s.1 >>= λ n. sorted_members n.1 >>= made t n.0)
begun_alike t None = refl
begun_alike t (Some s) = named_alike t (name_at s.1)

noted_alike : (r : Option (Option (List ℕ) × List Token))
    → (r >>= λ t. word_at (codes "class") (after_mods class_words t.1) >>= λ s. name_at s.1 >>= λ n. members_at n.1 >>= λ ms. made t.0 n.0
    ((fields_among ms.0, methods_among ms.0), ms.1))
    ≡ (r >>= λ t. word_at (codes "class") (after_mods class_words t.1) >>= λ s. name_at s.1 >>= λ n. sorted_members n.1 >>= made t.0 n.0)
noted_alike None = refl
noted_alike (Some t) = begun_alike t.0 (word_at (codes "class") (after_mods class_words t.1))

pub class_is : (ts : List Token) → class_at ts ≡ class_read ts
unfolding class_at
class_is ts = noted_alike (annotation_at ts)
