-- The folder of a name, by its last slash.
use Rattle.std.proofs.Common.{◌≡◌, ℕ, zero, suc, ◌+◌, ◌<◌, List, [], ◌∷◌, length, take, Bool, true, false, ◌||◌, cond, refl, sym, ap, ◌∙◌, arith, add-one}
use Rattle.std.specs.List.{list_any}
use Rattle.std.proofs.lemmas.Bool.{false_from_ne_true}
use Rattle.memchr.specs.Find.{Nowhere, NoneAfter, Passes, is_byte}
use Rattle.lsp_folder.specs.Names.{is_slash, folder_of}

abbrev Slash : List ℕ → ℕ → Type 0
Slash bs = Passes (is_byte 47) bs

-- behind the first byte
shift : (b : ℕ) (bs : List ℕ) (i : ℕ) → Nowhere (Slash (b ∷ bs)) (suc i) (suc (length bs)) → Nowhere (Slash bs) i (length bs)
shift b bs i none = λ k low high p. none (suc k) (omega arith) (omega arith) p

or_right : (x y : Bool) → y ≡ true → (x || y) ≡ true
or_right true y e = refl
or_right false y e = e

or_both : (x y : Bool) → x ≡ false → y ≡ false → (x || y) ≡ false
or_both true y e f = e
or_both false y e f = f

or_left : (x y : Bool) → x ≡ true → (x || y) ≡ true
or_left true y e = refl
or_left false y e = absurd (let no : ⊥ = cc in no)

-- without a slash
pub none_any : (bs : List ℕ) → Nowhere (Slash bs) 0 (length bs) → list_any is_slash bs ≡ false
none_any [] none = refl
none_any (b ∷ bs) none =
    or_both (is_slash b) (list_any is_slash bs)
    (false_from_ne_true (is_slash b) (λ e. none 0 (omega arith) (omega arith) e))
    (none_any bs (shift b bs 0 (λ k low high p. none k (omega arith) high p)))

pub folder_none : (bs : List ℕ) → list_any is_slash bs ≡ false → folder_of bs ≡ []
folder_none [] e = refl
folder_none (b ∷ bs) e = ap (λ (x : Bool). cond x (b ∷ folder_of bs) []) e

any_at : (bs : List ℕ) (k : ℕ) → k < length bs → Slash bs k → list_any is_slash bs ≡ true
any_at [] k less p = absurd (omega arith)
any_at (b ∷ bs) zero less p = or_left (is_slash b) (list_any is_slash bs) p
any_at (b ∷ bs) (suc k) less p = or_right (is_slash b) (list_any is_slash bs) (any_at bs k (omega arith) p)

folder_any : (b : ℕ) (bs : List ℕ) → list_any is_slash (b ∷ bs) ≡ true → folder_of (b ∷ bs) ≡ b ∷ folder_of bs
folder_any b bs e = ap (λ (x : Bool). cond x (b ∷ folder_of bs) []) e

-- with a last one
folder_last : (bs : List ℕ) (k : ℕ) → k < length bs → Nowhere (Slash bs) (suc k) (length bs) → Slash bs k → folder_of bs ≡ take (suc k) bs
folder_last [] k less none p = absurd (omega arith)
folder_last (b ∷ bs) zero less none p =
    folder_any b bs (any_at (b ∷ bs) zero less p)
    ∙ ap (λ (xs : List ℕ). b ∷ xs) (folder_none bs (none_any bs (shift b bs 0 none)))
folder_last (b ∷ bs) (suc k) less none p =
    folder_any b bs (any_at (b ∷ bs) (suc k) less p)
    ∙ ap (λ (xs : List ℕ). b ∷ xs) (folder_last bs k (omega arith) (shift b bs (suc k) none) p)

pub folder_some : (bs : List ℕ) (k : ℕ) → NoneAfter (Slash bs) 0 (length bs) k → Slash bs k → folder_of bs ≡ take (k + 1) bs
folder_some bs k after p =
    folder_last bs k after.high (λ j low high q. after.after j (omega arith) high q) p
    ∙ ap (λ (n : ℕ). take n bs) (sym (add-one k))
