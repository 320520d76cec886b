-- Calls that follow the typestates do so at each moment: what is seen up to it is allowed, as all that is seen is.
use Rattle.std.proofs.Common.{◌≡◌, ℕ, List, [], ◌∷◌, ◌++◌, Option, Some, None, refl, sym, ap, ◌∙◌, subst}
use Rattle.std.specs.Prelude.{IfSome, IsSome, option_and_then}
use Rattle.std.specs.List.{AllByRecursion}
use Rattle.std.proofs.lemmas.Grind.{flat_map-append}
use Rattle.std.proofs.lemmas.List.Elements.{Contains-append_left}
use Rattle.mg_text.specs.Call.{Name, Call}
use Rattle.mg_text.specs.declared.event.Event.{Event}
use Rattle.ts_tree.specs.declared.parts.To.{To}
use Rattle.ts_tree.specs.declared.parts.To.TheVariants as tos
use Rattle.ts_tree.specs.Typestate.{Typestate}
use Rattle.ts_tree.specs.Calls.{Path, Fits, Offers, led, led_by, next_from, offered, initial}
use Rattle.jv_values.specs.Alike.{Prefix}
use Rattle.jv_values.specs.Seen.{Told, Enters, Leaves, told, told_by, label_in, Results, Alternates, AlternatesInside, IsMade, calls_told}
use Rattle.jv_values.specs.Seen.{open_told}
use Rattle.jv_meaning.specs.Program.{Sources}
use Rattle.jv_meaning.specs.Calls.{Follows, IsPath, results_of}

some_is : {A : Type 0} {x y : A} → ◌≡◌ {A = Option A} (Some x) (Some y) → x ≡ y
some_is e = cc

some_none : {A : Type 0} {x : A} → ◌≡◌ {A = Option A} None (Some x) → ⊥
some_none e = cc

-- ---- what is told of one object

mutual
  alternates_front : (xs ys : List Told) → Alternates (xs ++ ys) → Alternates xs
  alternates_front [] ys h = tt
  alternates_front (Enters m ∷ xs) ys h = inside_front xs ys h
  alternates_front (Leaves a ∷ xs) ys h = h

  inside_front : (xs ys : List Told) → AlternatesInside (xs ++ ys) → AlternatesInside xs
  inside_front [] ys h = tt
  inside_front (Leaves a ∷ xs) ys h = alternates_front xs ys h
  inside_front (Enters m ∷ xs) ys h = h

-- the method that is open here is the next of these calls, or there is none and it is open at the end too
data OpenHere (m : Name) : (more : List Call) → (at_the_end : Option Name) → Type 0 where
  still : OpenHere m [] (Some m)
  left_later : {c : Call} {more : List Call} {at_the_end : Option Name} → c.method ≡ m → OpenHere m (c ∷ more) at_the_end

-- the calls up to a moment are the first of all calls
record Front (results : Results) (xs ys : List Told) : Type 0 where
  more : List Call
  calls : calls_told results (xs ++ ys) ≡ calls_told results xs ++ more
  opens : (m : Name) → open_told xs ≡ Some m → OpenHere m more (open_told (xs ++ ys))

front : (results : Results) (xs ys : List Told) → Alternates (xs ++ ys) → Front results xs ys
front results [] ys h = record { more = calls_told results ys; calls = refl; opens = λ m e. absurd (some_none e) }
front results (Enters n ∷ []) [] h = record {
  more = [];
  calls = refl;
  opens = λ m e. subst (λ z. OpenHere z [] (Some n)) (some_is e)
      still;
}
front results (Enters n ∷ []) (Leaves a ∷ ys) h = record {
  more = record { method = n; answer = label_in (results n) a } ∷ calls_told results ys;
  calls = refl;
  opens = λ m e. left_later (some_is e);
}
front results (Enters n ∷ []) (Enters k ∷ ys) h = absurd h
front results (Enters n ∷ Leaves a ∷ xs) ys h =
    let f = front results xs ys h in
    record { more = f.more; calls = ap (λ cs. record { method = n; answer = label_in (results n) a } ∷ cs) f.calls; opens = f.opens }
front results (Enters n ∷ Enters k ∷ xs) ys h = absurd h
front results (Leaves a ∷ xs) ys h = absurd h

-- ---- along a typestate

fit_front : (t : Typestate) (xs ys : List Call) → AllByRecursion (Fits t) (xs ++ ys) → AllByRecursion (Fits t) xs
fit_front t [] ys h = tt
fit_front t (c ∷ xs) ys h = (h.0, fit_front t xs ys h.1)

-- where the first of the calls lead, and from there the others
record Between (t : Typestate) (from to : To) (xs ys : List Call) : Type 0 where
  middle : To
  first : led t from xs ≡ Some middle
  then_on : led t middle ys ≡ Some to

between : (t : Typestate) (from to : To) (xs ys : List Call) → led t from (xs ++ ys) ≡ Some to → Between t from to xs ys
between t from to [] ys h = record { middle = from; first = refl; then_on = h }
between t from to (c ∷ xs) ys h = go (next_from t from c) refl h (λ q. between t q to xs ys)
  where
    go : (o : Option To) → next_from t from c ≡ o → option_and_then (λ q. led t q (xs ++ ys)) o ≡ Some to →
        ((q : To) → led t q (xs ++ ys) ≡ Some to → Between t q to xs ys) → Between t from to (c ∷ xs) ys
    go None e h rest = absurd (some_none h)
    go (Some q) e h rest =
        let b = rest q h in
        record { middle = b.middle; first = ap (option_and_then (λ q. led t q xs)) e ∙ b.first; then_on = b.then_on }

-- where a call leads on its method is offered
leads_offers : (t : Typestate) (from to : To) (c : Call) (more : List Call) → led t from (c ∷ more) ≡ Some to → Offers t from c.method
leads_offers t tos.End to c more h = absurd (some_none h)
leads_offers t (tos.State q) to c more h = go (offered t q c.method) refl h
  where
    go : (o : Option _) → offered t q c.method ≡ o → option_and_then (λ to'. led t to' more)
        (option_and_then (λ m. led_by m.target c.answer) o) ≡ Some to →
        IsSome (offered t q c.method)
    go None e h = absurd (some_none h)
    go (Some m) e h = subst (λ o. IsSome o) (sym e) refl

offers_here : (t : Typestate) (from to : To) (m : Name) (more : List Call) (at_the_end : Option Name) → OpenHere m more at_the_end →
    led t from more ≡ Some to → IfSome at_the_end (Offers t to) → Offers t from m
offers_here t from to m more at_the_end still h o = subst (λ q. Offers t q m) (sym (some_is h)) o
offers_here t from to m more at_the_end (left_later {c = c} {more = rest} is) h o =
    subst (Offers t from) is (leads_offers t from to c rest h)

path_front : (t : Typestate) (results : Results) (xs ys : List Told) → Alternates (xs ++ ys) →
    Path t (calls_told results (xs ++ ys)) (open_told (xs ++ ys)) → Path t (calls_told results xs) (open_told xs)
path_front t results xs ys h p =
    let f = front results xs ys h in
    let b = between t (initial t) p.to (calls_told results xs) f.more (ap (led t (initial t)) (sym f.calls) ∙ p.leads) in
    record {
      fit = fit_front t (calls_told results xs) f.more (subst (AllByRecursion (Fits t)) f.calls p.fit);
      to = b.middle;
      leads = b.first;
      offers = open_here (open_told xs) refl f b;
    }
  where
    open_here : (o : Option Name) → open_told xs ≡ o → (f : Front results xs ys) →
        (b : Between t (initial t) p.to (calls_told results xs) f.more) → IfSome o (Offers t b.middle)
    open_here None e f b = tt
    open_here (Some m) e f b = offers_here t b.middle p.to m f.more (open_told (xs ++ ys)) (f.opens m e) b.then_on p.offers

-- ---- of a program

pub follows_so_far : (j : Sources) (typestates : List Typestate) (so_far events : List Event) → Prefix so_far events →
    Follows j typestates events →
    Follows j typestates so_far
follows_so_far j typestates so_far events before h = record {
  alternate = λ o c made. alternates_front (told o so_far) (told o before.later) (alternates o c made);
  path = λ o c made. path_so_far o c (alternates o c made) (path o c made);
}
  where
    told_is : (o : ℕ) → told o events ≡ told o so_far ++ told o before.later
    told_is o = ap (told o) before.is ∙ flat_map-append (told_by o) so_far before.later

    made_too : (o : ℕ) (c : Name) → IsMade so_far o c → IsMade events o c
    made_too o c made = subst (λ es. IsMade es o c) (sym before.is) (Contains-append_left so_far before.later _ made)

    alternates : (o : ℕ) (c : Name) → IsMade so_far o c → Alternates (told o so_far ++ told o before.later)
    alternates o c made = subst Alternates (told_is o) (h.alternate o c (made_too o c made))

    path : (o : ℕ) (c : Name) → IsMade so_far o c →
        IsPath j typestates c (calls_told (results_of j c) (told o so_far ++ told o before.later))
        (open_told (told o so_far ++ told o before.later))
    path o c made =
        subst (λ ts. IsPath j typestates c (calls_told (results_of j c) ts) (open_told ts)) (told_is o) (h.path o c (made_too o c made))

    path_so_far : (o : ℕ) (c : Name) → Alternates (told o so_far ++ told o before.later) →
        IsPath j typestates c (calls_told (results_of j c) (told o so_far ++ told o before.later))
        (open_told (told o so_far ++ told o before.later)) →
        IsPath j typestates c (calls_told (results_of j c) (told o so_far)) (open_told (told o so_far))
    path_so_far o c alt p = record {
      typestate = p.typestate;
      named = p.named;
      path = path_front p.typestate (results_of j c) (told o so_far) (told o before.later) alt p.path;
    }
